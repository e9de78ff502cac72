mod Made
mod Cut
mod Reached
mod Unlinked
mod Parted
mod Spans
mod Undone
mod Runs
mod Undoes
mod Fits
pub mod Rewired
mod Appended
mod Placed
mod Loose
mod Kept
pub mod Graphs
mod Joinable
mod Linked
mod Overs
mod Fitting
mod Owing
mod Asleep
mod Owned
mod Controls
mod Ends
mod Grown
mod Having
mod Answered
mod Keeps
mod Carried
mod Relinks
mod Apart
mod Stepped
pub mod Gone
mod SinksStay
mod MoreRoom
mod EosControls
mod Alone
mod Others
mod Without
mod Members
mod StillOwed
mod Deeds
mod Passed
pub mod Entered
mod Turning
pub mod Due
pub mod Files
mod RowsMore
mod Laned
mod Carrying
mod Sending
mod ProbedPads
pub mod Planning
mod FittingOrder
mod FittingGone
pub mod FittingEval
mod FittingSpans
mod FittingStays
mod FittingActs
mod FittingTurns
