pub mod Judgements
pub mod Counts
pub mod JsonLemmas
pub mod PathLemmas
pub mod TargetLemmas
