pub mod Else
