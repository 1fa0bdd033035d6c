-- The laws that the proofs of this crate and of later ones cite.
pub mod FindLaws
pub mod TableRowLaws
