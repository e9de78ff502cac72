mod Growing
mod Outcomes
mod Undone
mod Order
mod Lines
mod Stepping
mod Props
