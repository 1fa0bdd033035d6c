-- Recoding is exact for its rules by themselves.
pub mod PageExamples
pub mod ContentExact
pub mod CharsetExact
pub mod LinesExact
pub mod FirstUnknown
pub mod RecodeCases
pub mod RecodeExact
pub mod ShutOutRecode
pub mod ShutOutBack
pub mod ShutOutOrder
