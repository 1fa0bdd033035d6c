-- The laws of the cable.
pub mod StreamLaws
pub mod CrcLaws
pub mod BlockLaws
pub mod BlockLabelLaws
pub mod OneSetLaws
pub mod SendingLaws
pub mod ReceivingLaws
pub mod CableDecided
