mod LeafLemmas
mod NextLemmas
mod NodeLemmas
mod PickLemmas
mod SameLemmas
mod ShrinkLemmas
mod SortedLemmas
mod ValueLemmas
