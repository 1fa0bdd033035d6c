-- The laws that the proofs of this crate and of later ones cite.
pub mod GroupLabelLaws
pub mod HeaderLaws
pub mod EntryWalk
