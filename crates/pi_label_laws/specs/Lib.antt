pub mod Made
pub mod SolutionLaws
pub mod ReadingLaws
pub mod LabelledLaws
pub mod ObjectiveLaws
