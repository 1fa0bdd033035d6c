-- What is said of recoding by itself.
pub mod Pages
pub mod RecodeRules
pub mod RecodeBreaches
