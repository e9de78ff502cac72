pub mod Item
pub mod Counts
pub mod Crossing
pub mod SrcPad
pub mod SinkPad
pub mod Linking
