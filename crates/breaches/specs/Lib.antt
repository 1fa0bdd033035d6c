-- The breaches of the rules, and their order; the refusals of index, list and correction.
pub mod Breaches
pub mod CallBreaches
