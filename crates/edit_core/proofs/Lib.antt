mod Judged
pub mod Decided
pub mod Trees
pub mod Stepped
pub mod Marks
pub mod Inner
pub mod Ways
pub mod Spans
mod Lists
mod Staying
mod Refusals
mod Changes
pub mod Standing
mod Noting
mod Givers
mod Passing
mod Elsewhere
mod Distinct
pub mod Finding
pub mod Named
pub mod Made
mod Evaluated
