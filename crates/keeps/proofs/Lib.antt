-- Facts on the tables and on the state from line to line, then that judging, writing, correcting, index, list and view are exact.
pub mod TableFacts
pub mod StateLaws
pub mod LabelLaws
pub mod LackLaws
pub mod SevenExact
pub mod RulesExact
pub mod Exact
pub mod WriterExact
pub mod CorrectionExact
pub mod IndexExact
pub mod ListExact
pub mod ViewExact
