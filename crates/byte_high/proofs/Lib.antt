-- The laws that later crates cite.
pub mod HighLaws
