-- The definitions that the contracts of this crate cite beside the meaning.
pub mod LookUp
pub mod TableRows
