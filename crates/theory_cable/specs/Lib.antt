-- Both ends of the cable together, and how a set is refused by the sender, by itself.
pub mod Carrying
pub mod Transfers
pub mod CableBreaches
