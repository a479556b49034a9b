-- The lemmas of the crates below that this one goes by, and its own.
pub use Rattle.ae_text.proofs as from_text
pub mod Escapes
pub mod Written
pub mod Behind
pub mod Cut
pub mod Forms
pub mod Sources
pub mod Productions
pub mod Programs
pub mod Spelled
pub mod Moved
pub mod MovedLines
pub mod MovedPrograms
pub mod Kept
pub mod Again
pub mod Steps
pub mod Texts
