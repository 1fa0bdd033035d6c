-- What has to be believed of the serial cable.
pub mod Crc
pub mod Stream
pub mod Blocks
pub mod Sending
pub mod Receiving
pub mod CableResults
pub mod CableCalls
pub mod CableComputes
