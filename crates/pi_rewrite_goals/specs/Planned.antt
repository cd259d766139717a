-- Iterators before they are put, and what they go over.
use Rattle.std.specs.Prelude.{◌≡◌, ℕ, Bool, true, false, List, [], ◌++◌, Option, Some, None}
use Rattle.pi_core.specs.GoalTree.{GoalTree}
use Rattle.pi_syntax.specs.ExpTree.{ExpTree, ExpTrees}
use Rattle.pi_meaning.specs.OverNames.Texts.{Names, iterated, occurring_all, patterns_of, without, shared_names}
use Rattle.pi_rewrite_spec.specs.Slots.{SlotNames}
use Rattle.pi_rewrite_spec.specs.Values.{slot_pattern}
use Rattle.pi_rewrite_spec.specs.Goals.{SlotGoals}
use Rattle.pi_rewrite_spec.specs.Sites.{Site}
use Rattle.pi_rewrite_spec.specs.Loops.{Ending, Loop}
use Rattle.pi_rewrite_spec.specs.Iterators.{turn_slots}
use Rattle.pi_rewrite_spec.specs.Ranges.{range_of}
use Rattle.pi_rewrite_spec.specs.Written.{Inner as InnerTree, loop_at, iterator_loop, turn_name, elements_of, is_range, bounds_of, collection_of, gone_over}
use Rattle.pi_rewrite_slots.specs.Indexed.{names_in}
use Rattle.pi_rewrite_sites.specs.TextNames.{kept_of}
use Rattle.pi_rewrite_sites.specs.SiteOf.{site_of}
use Rattle.pi_rewrite_loops.specs.Parts.{AreGoals, IsValue, IsRange}
use Rattle.pi_rewrite_loops.specs.Helpers.{loop_of, IsElement}
use Rattle.pi_rewrite_loops.specs.declared.ranges.Bounds.{Bounds}
use Rattle.pi_terms.specs.Tree.{Tree}
use Rattle.pi_rewrite_goals.specs.declared.inner.Inner.{Inner}
use Rattle.pi_rewrite_goals.specs.declared.inner.Planned.{Planned}
use Rattle.pi_rewrite_goals.specs.declared.gone_over.Over.{Over}
use Rattle.pi_rewrite_goals.specs.declared.gone_over.Over.TheVariants.{Range, Collection}

-- what stands in a loop, as code has it
abbrev pub inner_in : Inner → InnerTree
inner_in i = record { assigned = names_in i.assigned.items; used = names_in i.used.items; count = i.count }

-- the loop of an iterator, by how many helpers there are before its own and by the names of its pattern
abbrev pub loop_over : Site → Ending → InnerTree → ℕ → Names → ExpTrees → Loop
loop_over s ending i n own us = loop_at s n (without (shared_names s.before (occurring_all us ++ i.used)) own) (kept_of s.before (own ++ patterns_of us) i.assigned) ending

-- an iterator over elements of a pattern
pub record IsPlan (s : Site) (ending : Ending) (i : InnerTree) (u : ExpTree) (us : ExpTrees) (e : ExpTree) (p : Planned) : Type 0 where
  pub whole : iterated u ≡ Some e → loop_of p.whole ≡ iterator_loop s ending i u us e
  pub turn : p.turn ≡ turn_name s i u us
  pub element : IsElement (slot_pattern e []) p.element
  pub slots : p.slots ≡ turn_slots (loop_of p.whole) (slot_pattern e [])
  pub site : site_of p.site ≡ elements_of s (loop_of p.whole) u e

pub record IsIterator (s : Site) (ending : Ending) (i : InnerTree) (u : ExpTree) (us : ExpTrees) (p : Planned) : Type 0 where
  pub pattern : ExpTree
  pub iterates : iterated u ≡ Some pattern
  pub plan : IsPlan s ending i u us pattern p

-- an iterator, or a test
abbrev pub IsPlanned : Site → Ending → InnerTree → ExpTree → ExpTrees → Option Planned → Type 0
IsPlanned s ending i u us None = iterated u ≡ None
IsPlanned s ending i u us (Some p) = IsIterator s ending i u us p

-- ---- what is gone over

pub record IsRangeOver (b : Bounds) (s : Site) (u : ExpTree) (ns : SlotNames) (old new : List GoalTree) (ms : SlotNames) : Type 0 where
  pub ranges : is_range u ≡ true
  pub bounds : IsRange (range_of (bounds_of s u ns)) old new b.low b.step b.high ms

pub record IsCollectionOver (t : Tree) (s : Site) (u : ExpTree) (ns : SlotNames) (old new : List GoalTree) (ms : SlotNames) : Type 0 where
  pub ranges : is_range u ≡ false
  pub value : IsValue (collection_of s u ns) old new t ms

abbrev pub IsOver : Over → Site → ExpTree → SlotGoals → SlotGoals → Type 0
IsOver (Range b) s u old new = IsRangeOver b s u old.names old.goals new.goals new.names
IsOver (Collection t) s u old new = IsCollectionOver t s u old.names old.goals new.goals new.names

-- the iterator where it stands
pub record IsGoneOver (ranges : Bool) (s : Site) (l : Loop) (u : ExpTree) (ns : SlotNames) (old new : List GoalTree) (ms : SlotNames) : Type 0 where
  pub is : ranges ≡ is_range u
  pub put : AreGoals (gone_over (is_range u) s l (bounds_of s u) (collection_of s u) ns) old new ms
