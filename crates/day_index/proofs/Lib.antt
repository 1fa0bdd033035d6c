-- The laws of this crate.
pub mod PutEntryLaws
pub mod CountLaws
pub mod PutSetsLaws
pub mod DayAnswerLaws
