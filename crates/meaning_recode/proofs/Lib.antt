-- The laws of recoding.
pub mod CodeLaws
pub mod InsertLaws
pub mod KindLaws
pub mod MapLaws
pub mod StandLaws
pub mod RecodeLaws
pub mod CharsetLaws
pub mod BackLaws
pub mod BackCalls
pub mod OrderLaws
pub mod OrderCalls
pub mod RecodeNumbers
pub mod RecodeDecided
