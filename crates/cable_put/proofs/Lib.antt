-- The laws of this crate.
pub mod RestoreLaws
pub mod BlockPutLaws
