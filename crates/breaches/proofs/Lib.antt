-- From the first fault that is found to the first breach, and back: a file for the lines, one for 24, one for 11 to 15, one for 16, then all of them;
-- the list, and the refusals of index, list and correction; and what the theorems that say "exactly", and those on calls that refuse, shut out.
pub mod FirstLine
pub mod FirstHigh
pub mod FirstRule
pub mod FirstMissing
pub mod FirstBreach
pub mod FirstOnly
pub mod CallExact
pub mod ShutOutExact
