-- The laws of this crate.
pub mod StandsLaws
pub mod SearchLaws
