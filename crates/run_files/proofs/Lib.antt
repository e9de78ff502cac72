pub mod Lists
pub mod Ends
pub mod Closes
pub mod GivenBack
pub mod Opens
pub mod Undone
