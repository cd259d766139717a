pub mod CornerLemmas
pub mod ProductLemmas
pub mod AbsoluteLemmas
pub mod FixedLemmas
mod JoinLemmas
mod ItemLemmas
mod ElementLemmas
pub mod CountLemmas
pub mod FullLemmas
pub mod EndLemmas
pub mod OutsideLemmas
pub mod TurnLemmas
pub mod DistinctLemmas
pub mod BitLemmas
pub mod LeaveLemmas
pub mod ReifiedLemmas
pub mod RootLemmas
pub mod MeetLemmas
pub mod ApartLemmas
pub mod LeftLemmas
pub mod LimitLemmas
