-- The laws that the proofs of this crate and of later ones cite.
pub mod PutLaws
pub mod LendLaws
pub mod OverLaws
