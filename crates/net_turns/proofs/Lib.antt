mod Places
mod Calls
mod Rows
mod Lanes
mod Owners
mod Others
mod Wired
pub mod Facts
pub mod Growing
mod Keeping
mod Crossed
mod Sending
mod Laid
mod Taken
mod Moved
mod Refused
mod Rested
mod Reasoned
mod Resting
mod Stepping
mod Tries
mod Turning
mod Behind
pub mod Left
mod EosComing
mod Ending
mod Overs
mod Readies
mod Alone
