-- What has to be believed of the day file.
pub mod Days
pub mod DayCalls
pub mod DayComputes
