-- The numbers of the constraints that are due, as they are added.
use Rattle.std.specs.Prelude.{◌≡◌, ◌⊎◌, ◌↔◌, ℕ, ◌+◌, ◌<◌, ◌≤◌, List, [], ◌∷◌, ◌++◌, length, Option, Some, None, Contains}
use Rattle.std.proofs.Common.{arith, sym, ◌∙◌, ap, subst, inl, inr}
use Rattle.std.proofs.lemmas.Option.{slice_get_within}
use Rattle.pi_constraints.specs.Value.{IsAcyclic}
use Rattle.pi_constraints.specs.State.{State, bindings, next, IsState}
use Rattle.pi_constraints.specs.Store.{StoreView, IsGood, Lists, HasChanged}
use Rattle.pi_settling.specs.Calm.{IsCalm}
use Rattle.pi_settling.proofs.SizeLemmas.{none-there}
use Rattle.pi_settling.proofs.TwiceLemmas.{less_or_not}
use Rattle.pi_queue.specs.Waiting.{AreAdded, IsOnSome}
use Rattle.pi_queue.proofs.WaitingLemmas.{Differ, added-none, added-same, added-then, added-one}
use Rattle.pi_engine_settle.specs.declared.since.Since.{Since}
use Rattle.pi_meaning.specs.Shared.Follows.{Follows}
use Rattle.pi_engine_settle.specs.Due.{IsDueFor, SinceIs, IsOnChanged, IsOnChangedSince, IsFrom, AreOnChanged}
use Rattle.pi_engine_settle.proofs.DueLemmas.{due-for}

-- ---- those of variables that changed

changed-none : {M : Type 0} (before s : State) (old : List ℕ) → before.constraints ≡ [] → AreOnChanged {M = M} None before s 0 old old
changed-none {M = M} before s old none = record { many = sym (ap length none); added = added-none (IsOnChangedSince {M = M} None before s) old (λ i h. h) }

pub none-changed : {M : Type 0} (v : StoreView M) (since : Option (Since M)) (before : State) (old : List ℕ) → since ≡ None → SinceIs v before since → AreOnChanged since before v.now.state 0 old old
none-changed {M = M} v since before old is =
    subst (λ (o : Option (Since M)). SinceIs v before o → AreOnChanged o before v.now.state 0 old old) (sym is) (λ none. changed-none before v.now.state old none)

-- a variable that changed was made
changed-made : (before s : State) (n : ℕ) → Follows before s → HasChanged before s n → n < next s
changed-made before s n f changed = let made : n < next before = changed.0.0 in omega (arith, made, f.count)

changed-some : {M : Type 0} (v : StoreView M) (x : Since M) (before : State) (found ns old new : List ℕ) → (IsGood v x.mark → Lists (HasChanged (v.at_mark x.mark).state v.now.state) found) → ns ≡ found →
    (IsAcyclic (bindings v.now.state) → ((n : ℕ) → Contains ns n → n < next v.now.state) → AreAdded (IsOnSome v.now.state ns) old new) →
    SinceIs v before (Some x) → Follows before v.now.state → IsState v.now.state → AreOnChanged (Some x) before v.now.state x.constraints old new
changed-some v x before found ns old new lists same added (good, at, many) f is =
    let s : State = v.now.state in
    let all : Lists (HasChanged before s) found = subst (λ (b : State). Lists (HasChanged b s) found) at (lists good) in
    let to : (n : ℕ) → Contains ns n → HasChanged before s n = λ n h. (all.has n).0 (subst (λ (js : List ℕ). Contains js n) same h) in
    let from : (n : ℕ) → HasChanged before s n → Contains ns n = λ n h. subst (λ (js : List ℕ). Contains js n) (sym same) ((all.has n).1 h) in
    record {
      many = many;
      added = added-same (IsOnSome s ns) (IsOnChanged before s) old new (λ i h. (h.0, to h.0 h.1, h.2)) (λ i h. (h.0, from h.0 h.1, h.2))
          (added is.acyclic (λ n h. changed-made before s n f (to n h)));
    }

pub some-changed : {M : Type 0} (v : StoreView M) (since : Option (Since M)) (x : Since M) (before : State) (found ns old new : List ℕ) → since ≡ Some x →
    (IsGood v x.mark → Lists (HasChanged (v.at_mark x.mark).state v.now.state) found) → ns ≡ found →
    (IsAcyclic (bindings v.now.state) → ((n : ℕ) → Contains ns n → n < next v.now.state) → AreAdded (IsOnSome v.now.state ns) old new) →
    SinceIs v before since → Follows before v.now.state → IsState v.now.state → AreOnChanged since before v.now.state x.constraints old new
some-changed {M = M} v since x before found ns old new is lists same added =
    subst (λ (o : Option (Since M)). SinceIs v before o → Follows before v.now.state → IsState v.now.state → AreOnChanged o before v.now.state x.constraints old new) (sym is)
    (changed-some v x before found ns old new lists same added)

-- ---- those from a number on

-- up to a place in between
abbrev pub IsBetween : ℕ → ℕ → ℕ → ℕ → Type 0
IsBetween first end at i = IsFrom first end i × (i < at)

pub from-start : (first end : ℕ) (old : List ℕ) → AreAdded (IsBetween first end first) old old
from-start first end old = added-none (IsBetween first end first) old (λ i h. let l : first ≤ i = h.0.0 in let m : i < first = h.1 in omega (arith, l, m))

pub from-more : (first end at : ℕ) (old mid new : List ℕ) → first ≤ at → at < end → AreAdded (IsBetween first end at) old mid → (Contains mid at → new ≡ mid) → ((Contains mid at → ⊥) → new ≡ mid ++ at ∷ []) →
    AreAdded (IsBetween first end (at + 1)) old new
from-more first end at old mid new low high so-far there put =
    added-then (IsBetween first end at) (λ j. j ≡ at) (IsBetween first end (at + 1)) old mid new
    (λ i h. (h.0, let l : i < at = h.1 in omega (arith, l)))
    (λ i h. ((omega (arith, h, low), omega (arith, h, high)), omega (arith, h)))
    (λ i h. let l : i < at + 1 = h.1 in either i h.0 (last i l))
    so-far (added-one mid new at there put)
  where
    last : (i : ℕ) → i < at + 1 → (i < at) ⊎ (i ≡ at)
    last i l = elim (less_or_not i at) [ inl less ↦ inl less | inr more ↦ inr (omega (arith, l, more)) ]

    either : (i : ℕ) → IsFrom first end i → (i < at) ⊎ (i ≡ at) → IsBetween first end at i ⊎ (i ≡ at)
    either i f (inl l) = inl (f, l)
    either i f (inr e) = inr e

pub from-all : (first end at : ℕ) (old new : List ℕ) → end ≤ at → AreAdded (IsBetween first end at) old new → AreAdded (IsFrom first end) old new
from-all first end at old new past so-far =
    added-same (IsBetween first end at) (IsFrom first end) old new (λ i h. h.0) (λ i h. (h, let l : i < end = h.1 in omega (arith, l, past))) so-far

-- ---- all of them

abbrev Either : {M : Type 0} → Option (Since M) → State → State → ℕ → ℕ → ℕ → Type 0
Either since before s first end i = IsOnChangedSince since before s i ⊎ IsFrom first end i

abbrev Any : State → State → ℕ → Type 0
Any before s i = IsOnChanged before s i ⊎ IsFrom (length before.constraints) (length s.constraints) i

to-any : {M : Type 0} (since : Option (Since M)) (before s : State) (first end : ℕ) (i : ℕ) → first ≡ length before.constraints → end ≡ length s.constraints → Either since before s first end i → Any before s i
to-any None before s first end i many all (inl none) = absurd none
to-any (Some x) before s first end i many all (inl old) = inl old
to-any since before s first end i many all (inr new) = inr (let l : first ≤ i = new.0 in omega (arith, l, many), let m : i < end = new.1 in omega (arith, m, all))

from-any : {M : Type 0} (v : StoreView M) (since : Option (Since M)) (before : State) (first end : ℕ) (i : ℕ) → SinceIs v before since → first ≡ length before.constraints → end ≡ length v.now.state.constraints →
    Any before v.now.state i → Either since before v.now.state first end i
from-any v None before first end i none many all (inl (n, changed, (c, k, at, speaks, leads))) =
    let posted : i < length v.now.state.constraints = slice_get_within v.now.state.constraints i c at in
    let empty : length before.constraints ≡ 0 = ap length none in
    inr (omega (arith, many, empty), omega (arith, posted, all))
from-any v (Some x) before first end i since many all (inl old) = inl old
from-any v since before first end i is many all (inr new) = inr (let l : length before.constraints ≤ i = new.0 in omega (arith, l, many), let m : i < length v.now.state.constraints = new.1 in omega (arith, m, all))

fresh-all : (K : ℕ → Type 0) (old new : List ℕ) → old ≡ [] → AreAdded K old new → Differ new × ((i : ℕ) → Contains new i ↔ K i)
fresh-all K old new none a =
    let is : a.fresh ≡ new = sym (a.behind ∙ ap (λ (js : List ℕ). js ++ a.fresh) none) in (
      subst Differ is a.different,
      λ i. (
        λ h. ((a.has i).0 (subst (λ (js : List ℕ). Contains js i) (sym is) h)).0,
        λ k. subst (λ (js : List ℕ). Contains js i) is ((a.has i).1 (k, λ h. none-there i (subst (λ (js : List ℕ). Contains js i) none h))),
      ),
    )

pub due-by : {M : Type 0} (v : StoreView M) (since : Option (Since M)) (before : State) (first end : ℕ) (old mid new : List ℕ) → old ≡ [] →
    (SinceIs v before since → Follows before v.now.state → IsState v.now.state → AreOnChanged since before v.now.state first old mid) → end ≡ length v.now.state.constraints → AreAdded (IsFrom first end) mid new →
    SinceIs v before since → IsCalm before → Follows before v.now.state → IsState v.now.state → IsDueFor before v.now.state new
due-by v since before first end old mid new none changed all posted at calm f is =
    let s : State = v.now.state in
    let a : AreOnChanged since before s first old mid = changed at f is in
    let both : AreAdded (Either since before s first end) old new =
    added-then (IsOnChangedSince since before s) (IsFrom first end) (Either since before s first end) old mid new (λ i h. inl h) (λ i h. inr h) (λ i h. h) a.added posted in
    let found = fresh-all (Either since before s first end) old new none both in
    due-for before s new calm f is found.0 (λ i. (
      λ h. to-any since before s first end i a.many all ((found.1 i).0 h),
      λ h. (found.1 i).1 (from-any v since before first end i at a.many all h),
    ))
