-- What follows from the rules of sender and receiver; what of them is exact, the refusals of a set, the form of a block, the cuts; and what the theorems shut out.
pub mod DamageLaws
pub mod ArrivalLaws
pub mod SetBlockLaws
pub mod CarryingLaws
pub mod LossLaws
pub mod CarriedExample
pub mod TransferLaws
pub mod CableNumbers
pub mod SendExact
pub mod FormExact
pub mod CutExact
pub mod ShutOutCable
