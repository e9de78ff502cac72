pub mod Remainders
pub mod Sums
