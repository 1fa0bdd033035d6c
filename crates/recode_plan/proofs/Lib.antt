-- The laws that the proofs of this crate and of later ones cite.
pub mod CharsetPlaceLaws
pub mod RecodedLaws
pub mod RecodePlanLaws
