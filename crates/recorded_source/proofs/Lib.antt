mod Pieces
mod Feeding
