-- The rules each by itself, and what is made of a set.
pub mod Keeps
pub mod Makes
