-- The laws that the proofs of this crate and of later ones cite.
pub mod HeaderLackLaws
pub mod FlagLaws
pub mod FlagListLaws
pub mod LackMeaning
pub mod FinishLaws
