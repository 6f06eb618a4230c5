pub mod AddressText
pub mod IndexLemmas
pub mod LabelLemmas
pub mod LowerCase
pub mod NameLemmas
pub mod Parts
pub mod SuffixLemmas
pub mod TargetText
