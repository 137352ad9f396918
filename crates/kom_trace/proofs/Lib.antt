mod Jobs
mod Counted
mod Ended
mod Sightings
mod Written
