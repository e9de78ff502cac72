pub mod Encoded
pub mod Encodes
pub mod Known
pub mod Puts
pub mod Templates
pub mod WavFile
pub mod WholeFile
