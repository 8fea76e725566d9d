mod StageStarts
mod StageSeats
mod StageFills
mod StageLeases
mod Tasks
mod Keys
mod Places
mod Pools
mod Tables
mod Settled
mod Again
mod Uses
mod Served
mod Counts
mod Bounds
pub mod BridgeFinds
pub mod BridgeCalls
pub mod BridgeLemmas
pub mod ShownRows
pub mod ShownLemmas
pub mod BridgeChanges
mod Enters
mod Giving
mod Adds
mod Removed
mod Resizes
mod Refilled
mod Added
pub mod LookViews
pub mod LookStarts
pub mod BridgePipe
pub mod SwitchRules
mod ShownValues
mod Resized
mod Goes
