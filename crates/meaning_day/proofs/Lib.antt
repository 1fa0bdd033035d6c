-- The laws of the day file.
pub mod PatientLaws
pub mod ColumnLaws
pub mod DayLaws
pub mod DayDemands
pub mod AppendLaws
pub mod BuiltLaws
pub mod DayAsking
pub mod DayDecided
pub mod LookupLaws
pub mod WrittenLaws
pub mod GrownLaws
