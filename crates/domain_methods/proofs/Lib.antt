pub mod AddressLemmas
pub mod CoverLemmas
pub mod VerdictLemmas
