-- The day file is exact for its rules by themselves.
pub mod AscendingLaws
pub mod SetInFile
pub mod BuildExact
pub mod AppendExact
pub mod LookupExact
pub mod MatchExact
pub mod DayNumbers
pub mod ShutOutDay
