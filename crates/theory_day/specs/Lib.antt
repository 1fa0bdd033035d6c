-- What is said of the day file by itself.
pub mod DayRules
pub mod DayBreaches
