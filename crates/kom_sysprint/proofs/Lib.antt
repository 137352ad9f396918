mod Blocks
mod ExamplesShown
mod Levels
mod Pieces
