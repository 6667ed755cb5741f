mod Texts
mod Naming
mod Running
mod Ends
mod Lacking
