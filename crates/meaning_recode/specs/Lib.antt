-- What has to be believed of recoding.
pub mod Codes
pub mod Recoding
pub mod RecodeCalls
pub mod RecodeComputes
