-- A byte at once is eight turns of appendix C's program.
pub mod ByteLaws
