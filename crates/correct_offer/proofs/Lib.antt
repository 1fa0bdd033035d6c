-- The laws that the proofs of this crate and of later ones cite.
pub mod OfferWalkLaws
pub mod TermsLaws
pub mod OfferLaws
