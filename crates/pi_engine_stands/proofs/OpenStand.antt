-- The newest open level among the entries, and what its entry is.
use Rattle.std.proofs.Common.{◌≡◌, ℕ, zero, suc, ◌≤◌, List, [], ◌∷◌, Some, length, take, drop, sym, ◌∙◌, ap, subst, arith}
use Rattle.std.specs.Prelude.{slice_get}
use Rattle.std.proofs.lemmas.List.{length-take}
use Rattle.pi_terms.specs.Tree.{Tree}
use Rattle.pi_constraints.specs.State.{State}
use Rattle.pi_core.specs.GoalTree.{GoalTree}
use Rattle.pi_engine_arenas.specs.declared.arenas.Kind.{Kind}
use Rattle.pi_engine_arenas.specs.Arenas.{entry_at, slots_kept_by}
use Rattle.pi_engine_arenas.specs.declared.arenas.Entry.{Entry}
use Rattle.pi_meaning.specs.Machine.Configuration.{Entry as EntryData, choice, strict, catch_level, left, Choice, Strict, Back}
use Rattle.pi_meaning.specs.Machine.Step.{Open, none_open, strict_open, catch_open, beneath, newest_open}
use Rattle.pi_meaning.specs.Machine.Shape.{open_level, IsBalanced}
use Rattle.pi_engine_stands.specs.Here.{Here, block_end}
use Rattle.pi_engine_stands.specs.Stands.{World, Loaded, steps_of, entries_of, back_here, KindIs, rules_kind, facts_kind, branches_kind, alternatives_kind, once_kind, not_kind, if_kind, guard_kind, apply_kind, collect_kind, count_kind, search_kind, catch_kind, exit_kind, block_at, EntryIs, StackIs, no_entries, entry_above, StackStands}
use Rattle.pi_engine_arenas.proofs.BlocksLemmas.{length-slots_before, brought_back-is}
use Rattle.pi_engine_stands.proofs.StandsLemmas.{stack-length, open_level-within}
use Rattle.pi_engine_stands.proofs.BasesStand.{shape-base}
use Rattle.pi_engine_stands.proofs.OlderStand.{kept-by-newest}

-- the newest open level of a stack, with the entry that it is
pub data OpenIs {M : Type 0} (w : World M) : Open → ℕ → Type 0 where
  none_is : OpenIs w none_open 0
  strict_is : (i from to : ℕ) (x : Entry M) (above : List EntryData) (s : Strict) (b : Back) (fs : List EntryData) → slice_get (entries_of w) i ≡ Some x →
      EntryIs w fs (entry_at (entries_of w) i) from to x (strict s b) → StackIs w i from fs → OpenIs w (strict_open above s b fs) (suc i)
  catch_is : (i from to : ℕ) (x : Entry M) (above : List EntryData) (ball : Tree) (handler : GoalTree) (b : Back) (fs : List EntryData) → slice_get (entries_of w) i ≡ Some x →
      EntryIs w fs (entry_at (entries_of w) i) from to x (catch_level ball handler b) → StackIs w i from fs → OpenIs w (catch_open above ball handler b fs) (suc i)

open-beneath : {M : Type 0} (w : World M) (y : EntryData) (o : Open) (level : ℕ) → OpenIs w o level → OpenIs w (beneath y o) level
open-beneath w y o level none_is = none_is
open-beneath w y o level (strict_is i from to x above s b fs at is stack) = strict_is i from to x (y ∷ above) s b fs at is stack
open-beneath w y o level (catch_is i from to x above ball handler b fs at is stack) = catch_is i from to x (y ∷ above) ball handler b fs at is stack

open-above : {M : Type 0} (w : World M) (k m from to : ℕ) (es : List EntryData) (x : Entry M) (y : EntryData) → slice_get (entries_of w) m ≡ Some x →
    EntryIs w es (entry_at (entries_of w) m) from to x y → StackIs w m from es → length es ≡ m → ((j : ℕ) → OpenIs w (newest_open j es) (open_level j es)) →
    OpenIs w (newest_open k (y ∷ es)) (open_level k (y ∷ es))
unfolding newest_open open_level
open-above w k m from to es x (choice c b) at is stack long below = open-beneath w (choice c b) (newest_open k es) (open_level k es) (below k)
open-above w zero m from to es x (strict s b) at is stack long below = subst (λ n. OpenIs w (strict_open [] s b es) (suc n)) (sym long) (strict_is m from to x [] s b es at is stack)
open-above w (suc k) m from to es x (strict s b) at is stack long below = open-beneath w (strict s b) (newest_open (suc k) es) (open_level (suc k) es) (below (suc k))
open-above w zero m from to es x (catch_level ball handler b) at is stack long below = subst (λ n. OpenIs w (catch_open [] ball handler b es) (suc n)) (sym long) (catch_is m from to x [] ball handler b es at is stack)
open-above w (suc k) m from to es x (catch_level ball handler b) at is stack long below = open-beneath w (catch_level ball handler b) (newest_open k es) (open_level k es) (below k)
open-above w k m from to es x left at is stack long below = open-beneath w left (newest_open (suc k) es) (open_level (suc k) es) (below (suc k))

pub open-is : {M : Type 0} (w : World M) (n top k : ℕ) (es : List EntryData) → StackIs w n top es → OpenIs w (newest_open k es) (open_level k es)
unfolding newest_open open_level
open-is w n top k es no_entries = none_is
open-is w n top k es (entry_above m from fs x y at is below) = open-above w k m from top fs x y at is below (stack-length w m from fs below) (λ j. open-is w m from j fs below)

-- ---- where the blocks of levels begin

at-base : (l : Loaded) (place base n : ℕ) → block_end (block_at l place base) ≤ n → base ≤ n
at-base l place base n h = omega (arith, h, shape-base (slice_get (steps_of l) place) base)

pub strict-base : (l : Loaded) (c : List Tree) (h : Here) (t : State) (base frame slots from to : ℕ) (kind : Kind) (s : Strict) (b : Back) → KindIs l c h t base frame slots from to kind (strict s b) → base ≤ length h.slots
strict-base l c h t base frame slots from to kind s b (once_kind {place = place} is one) = at-base l place base (length h.slots) is.behind.slots.within
strict-base l c h t base frame slots from to kind s b (not_kind {place = place} is one) = at-base l place base (length h.slots) is.behind.slots.within
strict-base l c h t base frame slots from to kind s b (if_kind {place = place} is one) = at-base l place base (length h.slots) is.behind.slots.within
strict-base l c h t base frame slots from to kind s b (guard_kind is over one) = omega (arith, is.call.args.within)
strict-base l c h t base frame slots from to kind s b (apply_kind is free args fit one) = omega (arith, args.within)
strict-base l c h t base frame slots from to kind s b (collect_kind {place = place} is below some) = at-base l place base (length h.slots) is.behind.slots.within
strict-base l c h t base frame slots from to kind s b (count_kind {place = place} is one) = at-base l place base (length h.slots) is.behind.slots.within
strict-base l c h t base frame slots from to kind s b (search_kind own labels held fit order one) = omega (arith, held.within)

catch-base : (l : Loaded) (c : List Tree) (h : Here) (t : State) (base frame slots from to : ℕ) (kind : Kind) (ball : Tree) (handler : GoalTree) (b : Back) → KindIs l c h t base frame slots from to kind (catch_level ball handler b) → base ≤ length h.slots
catch-base l c h t base frame slots from to kind ball handler b (catch_kind {place = place} is stays one) = at-base l place base (length h.slots) is.behind.slots.within

pub back-length : {M : Type 0} (w : World M) (x : Entry M) → length (back_here w x).slots ≤ x.back.blocks.slots
back-length w x =
    omega (arith, ap length (brought_back-is x.back.blocks w.arenas.blocks) ∙ length-slots_before (drop x.back.blocks.trail w.arenas.blocks.trail) (take x.back.blocks.slots w.arenas.blocks.slots) ∙ length-take x.back.blocks.slots w.arenas.blocks.slots)

-- the block of a level begins in what the newest entry keeps
level-base-in : {M : Type 0} (w : World M) (n top level : ℕ) (es : List EntryData) (o : Open) → StackIs w n top es → OpenIs w o level → level ≤ n → (x : Entry M) → entry_at (entries_of w) level ≡ Some x →
    x.back.base ≤ slots_kept_by (entry_at (entries_of w) n)
level-base-in w n top level es o stack none_is fit x at = absurd cc
level-base-in w n top level es o stack (strict_is i from to z above s b fs here is below) fit x at =
    let same : z ≡ x = cc in
    let base : z.back.base ≤ length (back_here w z).slots = strict-base w.loaded w.arenas.collected (back_here w z) _ z.back.base z.back.frame z.back.blocks.slots from to z.back.kind s b is.kind in
    subst (λ r. r.back.base ≤ slots_kept_by (entry_at (entries_of w) n)) same
    (omega (arith, base, back-length w z, (kept-by-newest w n top es i z stack (omega (arith, fit)) here).slots))
level-base-in w n top level es o stack (catch_is i from to z above ball handler b fs here is below) fit x at =
    let same : z ≡ x = cc in
    let base : z.back.base ≤ length (back_here w z).slots = catch-base w.loaded w.arenas.collected (back_here w z) _ z.back.base z.back.frame z.back.blocks.slots from to z.back.kind ball handler b is.kind in
    subst (λ r. r.back.base ≤ slots_kept_by (entry_at (entries_of w) n)) same
    (omega (arith, base, back-length w z, (kept-by-newest w n top es i z stack (omega (arith, fit)) here).slots))

pub level-base : {M : Type 0} (w : World M) (es : List EntryData) → StackStands w es → (x : Entry M) → entry_at (entries_of w) w.arenas.level ≡ Some x → x.back.base ≤ w.arenas.blocks.kept
level-base w es stands x at =
    let n : ℕ = length (entries_of w) in
    let long : length es ≡ n = stack-length w n (length w.arenas.collected) es stands.stack in
    subst (λ m. x.back.base ≤ m) (sym stands.kept)
    (level-base-in w n (length w.arenas.collected) (open_level zero es) es (newest_open zero es) stands.stack (open-is w n (length w.arenas.collected) zero es stands.stack)
    (omega (arith, open_level-within zero es, long)) x (subst (λ m. entry_at (entries_of w) m ≡ Some x) stands.level at))

-- ---- where each mark of a catch that was left has its catch

choice-none : (l : Loaded) (c : List Tree) (h : Here) (t : State) (base frame slots from to : ℕ) (kind : Kind) (x : Choice) (b : Back) → KindIs l c h t base frame slots from to kind (choice x b) → from ≡ to
choice-none l c h t base frame slots from to kind x b (rules_kind is over one) = one
choice-none l c h t base frame slots from to kind x b (facts_kind is over one) = one
choice-none l c h t base frame slots from to kind x b (branches_kind is at here last count one) = one
choice-none l c h t base frame slots from to kind x b (alternatives_kind own are one) = one

catch-none : (l : Loaded) (c : List Tree) (h : Here) (t : State) (base frame slots from to : ℕ) (kind : Kind) (ball : Tree) (handler : GoalTree) (b : Back) → KindIs l c h t base frame slots from to kind (catch_level ball handler b) → from ≡ to
catch-none l c h t base frame slots from to kind ball handler b (catch_kind is stays one) = one

left-none : (l : Loaded) (c : List Tree) (h : Here) (t : State) (base frame slots from to : ℕ) (kind : Kind) → KindIs l c h t base frame slots from to kind left → from ≡ to
left-none l c h t base frame slots from to kind (exit_kind one) = one

-- the newest open level, above which nothing is collected, with its entry
pub data OpenAt {M : Type 0} (w : World M) (top : ℕ) : Open → ℕ → Type 0 where
  nothing_at : OpenAt w top none_open 0
  strict_at : (i from : ℕ) (x : Entry M) (above : List EntryData) (s : Strict) (b : Back) (fs : List EntryData) → slice_get (entries_of w) i ≡ Some x →
      EntryIs w fs (entry_at (entries_of w) i) from top x (strict s b) → StackIs w i from fs → OpenAt w top (strict_open above s b fs) (suc i)
  catch_at : (i from : ℕ) (x : Entry M) (above : List EntryData) (ball : Tree) (handler : GoalTree) (b : Back) (fs : List EntryData) → slice_get (entries_of w) i ≡ Some x →
      EntryIs w fs (entry_at (entries_of w) i) from top x (catch_level ball handler b) → StackIs w i from fs → OpenAt w top (catch_open above ball handler b fs) (suc i)

at-beneath : {M : Type 0} (w : World M) (top : ℕ) (y : EntryData) (o : Open) (level : ℕ) → OpenAt w top o level → OpenAt w top (beneath y o) level
at-beneath w top y o level nothing_at = nothing_at
at-beneath w top y o level (strict_at i from x above s b fs at is stack) = strict_at i from x (y ∷ above) s b fs at is stack
at-beneath w top y o level (catch_at i from x above ball handler b fs at is stack) = catch_at i from x (y ∷ above) ball handler b fs at is stack

at-above : {M : Type 0} (w : World M) (k m from to : ℕ) (es : List EntryData) (x : Entry M) (y : EntryData) → slice_get (entries_of w) m ≡ Some x →
    EntryIs w es (entry_at (entries_of w) m) from to x y → StackIs w m from es → length es ≡ m → IsBalanced k (y ∷ es) → ((j : ℕ) → IsBalanced j es → OpenAt w from (newest_open j es) (open_level j es)) →
    OpenAt w to (newest_open k (y ∷ es)) (open_level k (y ∷ es))
unfolding newest_open open_level IsBalanced
at-above w k m from to es x (choice c b) at is stack long balanced below =
    let same : from ≡ to = choice-none w.loaded w.arenas.collected (back_here w x) _ x.back.base x.back.frame x.back.blocks.slots from to x.back.kind c b is.kind in
    subst (λ t. OpenAt w t (beneath (choice c b) (newest_open k es)) (open_level k es)) same (at-beneath w from (choice c b) (newest_open k es) (open_level k es) (below k balanced))
at-above w zero m from to es x (strict s b) at is stack long balanced below = subst (λ n. OpenAt w to (strict_open [] s b es) (suc n)) (sym long) (strict_at m from x [] s b es at is stack)
at-above w (suc k) m from to es x (strict s b) at is stack long balanced below = absurd balanced
at-above w zero m from to es x (catch_level ball handler b) at is stack long balanced below = subst (λ n. OpenAt w to (catch_open [] ball handler b es) (suc n)) (sym long) (catch_at m from x [] ball handler b es at is stack)
at-above w (suc k) m from to es x (catch_level ball handler b) at is stack long balanced below =
    let same : from ≡ to = catch-none w.loaded w.arenas.collected (back_here w x) _ x.back.base x.back.frame x.back.blocks.slots from to x.back.kind ball handler b is.kind in
    subst (λ t. OpenAt w t (beneath (catch_level ball handler b) (newest_open k es)) (open_level k es)) same (at-beneath w from (catch_level ball handler b) (newest_open k es) (open_level k es) (below k balanced))
at-above w k m from to es x left at is stack long balanced below =
    let same : from ≡ to = left-none w.loaded w.arenas.collected (back_here w x) _ x.back.base x.back.frame x.back.blocks.slots from to x.back.kind is.kind in
    subst (λ t. OpenAt w t (beneath left (newest_open (suc k) es)) (open_level (suc k) es)) same (at-beneath w from left (newest_open (suc k) es) (open_level (suc k) es) (below (suc k) balanced))

pub open-at : {M : Type 0} (w : World M) (n top k : ℕ) (es : List EntryData) → StackIs w n top es → IsBalanced k es → OpenAt w top (newest_open k es) (open_level k es)
unfolding newest_open open_level
open-at w n top k es no_entries balanced = nothing_at
open-at w n top k es (entry_above m from fs x y at is below) balanced =
    at-above w k m from top fs x y at is below (stack-length w m from fs below) balanced (λ j h. open-at w m from j fs below h)
