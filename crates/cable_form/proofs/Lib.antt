-- The laws of this crate and of later ones.
pub mod EachByteLaws
pub mod FormLaws
