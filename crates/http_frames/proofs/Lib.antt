pub mod Truths
pub mod SizeLemmas
pub mod FieldLemmas
pub mod HeadLemmas
pub mod FrameLemmas
pub mod OneFront
pub mod Streams
