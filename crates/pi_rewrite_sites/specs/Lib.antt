pub mod Sums
pub mod OwnNames
pub mod TextNames
pub mod SiteOf
