pub mod Accepted
pub mod Codes
pub mod Decoded
pub mod Fields
pub mod FieldsAlone
pub mod Intervals
pub mod Lines
pub mod Sixteen
