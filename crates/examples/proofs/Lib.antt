-- The examples: the set tables, the field table, the longest sets and lists, one of them recoded, the largest set; and what the theorems shut out.
pub mod RowExamples
pub mod FieldExamples
pub mod LongSets
pub mod LongRecoding
pub mod LargestSet
pub mod ShutOut
