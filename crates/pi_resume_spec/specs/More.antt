-- More depth only adds, to what follows numbers as to traces: for goals in both runs, calls, levels, and what names do. (Own.)
use Rattle.std.specs.Prelude.{ℕ, List}
use Rattle.pi_terms.specs.Tree.{Trees}
use Rattle.pi_constraints.specs.State.{State}
use Rattle.pi_traces.specs.Trace.{End, Deep}
use Rattle.pi_traces.specs.Depth.{Below}
use Rattle.pi_meaning.specs.Shared.View.{View}
use Rattle.pi_meaning.specs.Shared.Given.{LaterOnlyAdds}
use Rattle.pi_meaning.specs.CoreMeaning.Builtins.{BuiltinsOnlyAdd}
use Rattle.pi_resume_spec.specs.Ways.{Ways}
use Rattle.pi_resume_spec.specs.Resumed.{Passing, Following, on_way, reached, cut_off, bad, Search}
use Rattle.pi_resume_spec.specs.Searches.{Searches, SearchLevel, bottom, above, searches_at}
use Rattle.pi_resume_spec.specs.ByName.{LaterSearches, Offers}
use Rattle.pi_resume_spec.specs.Goals.{predicate_by}

-- the second does what the first does, save that where the first ends in Deep, on the way or behind the answer, the second may go on
pub data FollowsBelow {A : Type 0} : Following A → Following A → Type 0 where
  deeper_way : (f : Following A) → FollowsBelow (cut_off Deep) f
  same_way : (p : Passing) {f g : Following A} → FollowsBelow f g → FollowsBelow (on_way p f) (on_way p g)
  same_reached : (made : List ℕ) (x : A) (left : List ℕ) {t u : Ways A} → Below t u → FollowsBelow (reached made x left t) (reached made x left u)
  same_cut : (e : End) → FollowsBelow (cut_off e) (cut_off e)
  same_bad : FollowsBelow bad bad

-- so it is of a goal's ways, and of what it does by any numbers
pub record SearchBelow {A : Type 0} (s t : Search A) : Type 0 where
  pub ways : Below s.ways t.ways
  pub follows : (p : List ℕ) → FollowsBelow (s.follows p) (t.follows p)

pub record SearchesBelow (c d : Searches) : Type 0 where
  pub called : (name : List ℕ) (ts : Trees) (s : State) → SearchBelow (c.called name ts s) (d.called name ts s)
  pub applied : (name : List ℕ) (ts : Trees) (s : State) → Below (c.applied name ts s) (d.applied name ts s)
  pub drained : (s : State) → SearchBelow (c.drained s) (d.drained s)

-- calls, here and at each lower level that the first has
abbrev pub SearchLevelBelow : SearchLevel → SearchLevel → Type 0
SearchLevelBelow (bottom c) m = SearchesBelow c (searches_at m)
SearchLevelBelow (above c l) (bottom d) = ⊥
SearchLevelBelow (above c l) (above d m) = SearchesBelow c d × SearchLevelBelow l m

-- what names do: with paths, and without at strict places
pub record OffersOnlyAdd (b : Offers) : Type 0 where
  pub predicates : (l m : SearchLevel) → SearchLevelBelow l m → (name : List ℕ) (ts : Trees) (s : State) → SearchBelow (predicate_by b l name ts s) (predicate_by b m name ts s)
  pub plain : BuiltinsOnlyAdd b.plain

-- what later stages owe for it
pub record LaterSearchesAdd (later : LaterSearches) : Type 0 where
  pub solves : (v : View) (l m : SearchLevel) → SearchLevelBelow l m → (name : List ℕ) (ts : Trees) (s : State) → SearchBelow (later.solves v l name ts s) (later.solves v m name ts s)
  pub plain : LaterOnlyAdds later.plain
