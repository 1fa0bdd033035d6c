-- The laws of this crate.
pub mod TurnLaws
pub mod RoomLaws
