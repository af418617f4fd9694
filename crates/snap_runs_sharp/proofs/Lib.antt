-- The proofs of snap_runs_sharp, by their modules.
pub mod Alone
pub mod Items
pub mod Scenes
pub mod Answering
pub mod Rounds
pub mod Filling
pub mod Loops
pub mod WalksOfU
pub mod ReachedByU
pub mod WalksOfB
pub mod ReachedByB
pub mod WalksOfM
pub mod ReachedByM
pub mod NoMore
