pub mod CountLines
pub mod FaultLines
pub mod Names
pub mod Pads
pub mod ReportText
pub mod Rows
