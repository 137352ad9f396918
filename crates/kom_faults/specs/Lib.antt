pub mod Faulted
