pub mod Stops
pub mod Queues
pub mod Stands
pub mod Laws
