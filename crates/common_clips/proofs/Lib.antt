mod Folding
mod Knowing
