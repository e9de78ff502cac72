mod Taken
mod Values
mod Spaces
mod Plain
mod Written
