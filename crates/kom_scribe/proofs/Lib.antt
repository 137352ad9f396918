mod Slots
mod Changes
mod Told
mod Lines
