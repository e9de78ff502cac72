pub mod Behind
pub mod Pads
pub mod Crossing
pub mod Put
pub mod Passing
