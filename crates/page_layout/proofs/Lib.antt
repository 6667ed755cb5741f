mod Paths
mod Parents
mod Marking
mod Making
mod Current
