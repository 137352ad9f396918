mod Completing
mod Crossing
mod Ending
mod Finding
mod Promising
mod Words
