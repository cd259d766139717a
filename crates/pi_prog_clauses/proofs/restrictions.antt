pub mod ArrowLemmas
pub mod EventLemmas
pub mod HeadNameLemmas
