-- The laws that the proofs of this crate and of later ones cite.
pub mod StepLaws
pub mod StepMeaning
pub mod StartRows
