-- The proofs of snap_strong, by their modules.
mod Futures
mod Begins
mod Apart
mod NotStrong
mod Placed
mod OneWordItems
mod OneWordChoice
mod OneWordStays
mod Completed
