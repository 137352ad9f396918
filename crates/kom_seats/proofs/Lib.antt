mod Duos
mod Kept
mod Placing
