-- The laws that the proofs of this crate cite.
pub mod AckLaws
pub mod LastLaws
pub mod SentLaws
