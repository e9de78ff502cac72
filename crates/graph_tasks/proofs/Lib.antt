pub mod Flats
pub mod Numbers
pub mod Leading
pub mod Targets
pub mod Closed
pub mod Rowing
pub mod Gathering
pub mod Finished
pub mod Lists
pub mod Lanes
pub mod Graphs
pub mod Bags
pub mod Pads
pub mod Given
pub mod Tied
pub mod Wires
pub mod Readies
pub mod Heads
pub mod Wired
pub mod Starts
pub mod Takes
pub mod Readied
pub mod Hands
pub mod Fillings
pub mod Plans
pub mod Begun
pub mod EndedWhole
pub mod EndedGraphs
pub mod EndedBags
pub mod EndedLoose
pub mod EndedPads
pub mod EndedEos
pub mod EndedLive
pub mod EndedPass
pub mod EndedOver
pub mod InOrder
pub mod Came
pub mod Awaited
pub mod FedHeads
pub mod FedElements
pub mod FirstHeld
pub mod SinkFiles
pub mod SinkCame
pub mod SinkTasks
mod BlamedLinks
pub mod BlamedFrames
mod BlamedTold
mod BlamedLimits
mod CutShort
mod BlamedFaults
pub mod EndedLines
mod WantsOpen
mod OverQuiet
mod OverLinked
mod OverHeads
mod OverWants
mod OverStreams
mod StuckTaken
mod StuckWaits
mod StuckRows
mod StuckWires
mod StuckReasons
mod StuckCounts
mod StuckLanes
mod StuckTasks
pub mod Bagged
pub mod WiredBags
