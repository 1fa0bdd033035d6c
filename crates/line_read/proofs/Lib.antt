-- The laws that the proofs of this crate and of later ones cite.
pub mod LineWalkLaws
mod WrittenNumberLaws
pub mod LineMeaning
pub mod ToldLaws
