-- The proofs of snap_text, by their modules.
pub mod Before
pub mod CallLines
pub mod Commented
pub mod Decimals
pub mod Digits
pub mod Ends
pub mod Laid
pub mod LineComments
pub mod Printed
pub mod Lexemes
pub mod Sound
pub mod Space
pub mod Splits
pub mod Places
pub mod Putting
pub mod Printing
pub mod TokensFound
