pub mod Cause
pub mod Gave
pub mod Ramp
pub mod RampGave
pub mod Short
