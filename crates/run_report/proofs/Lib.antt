pub mod Computed
pub mod EntryLines
pub mod Numbers
pub mod Parts
