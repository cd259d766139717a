-- Which variable is picked, seen while items are gone through.
use Rattle.std.specs.Prelude.{◌≡◌, ℕ, suc, ◌+◌, Bool, true, false, cond, nat_lt, List, [], ◌∷◌, ◌++◌, length, take, drop, Option, Some, None, is_some, option_map, unwrap_or, ⊤, refl}
use Rattle.std.specs.List.{last_or, cons_option}
use Rattle.std.proofs.Common.{arith, sym, ◌∙◌, ap, subst, take-append-drop}
use Rattle.std.proofs.lemmas.List.Elements.{filter_map-append}
use Rattle.pi_terms.specs.Tree.{Tree, var, atom, comp, args}
use Rattle.pi_constraints.specs.declared.constraint.Item.{Item}
use Rattle.pi_constraints.specs.declared.domain.Span.{Span}
use Rattle.pi_constraints.specs.declared.store.Cell.{Cell}
use Rattle.pi_constraints.specs.Domain.{size_of}
use Rattle.pi_constraints.specs.State.{State, IsState, Variable, free, within, bound, binding, bindings, domain_in, domain_of, followed}
use Rattle.pi_constraints.specs.Store.{StoreView, ShowsCell}
use Rattle.pi_constraints.specs.Stored.{stored}
use Rattle.pi_constraints.proofs.FollowLemmas.{followed_itself}
use Rattle.pi_constraints.proofs.StateLemmas.{variable, held_is, domain_good}
use Rattle.pi_label.proofs.PickLemmas.{picked_from}
use Rattle.pi_lib_constraints.specs.Kept.{item_term}
use Rattle.pi_lib_constraints.proofs.KeepLemmas.{root-var}
use Rattle.pi_lib_constraints.proofs.PostLemmas.{no-domain}
use Rattle.pi_settling.specs.Choices.{Pending, pending_with, pending_at, pending, smallest, picked}
use Rattle.pi_settling.specs.Options.{VariableWord, forward, backward, ff}
use Rattle.pi_settling.specs.Roots.{item_of, root_item}
use Rattle.pi_lib_solve.specs.declared.picking.Smallest.{Smallest}
use Rattle.pi_lib_solve.specs.Picked.{pending_in, ShowsPicked, smaller_of}

-- ---- one item

bound-has_none : (v : Variable) → (binding v ≡ None → ⊥) → domain_in v ≡ None
bound-has_none free h = absurd (h refl)
bound-has_none (within d) h = absurd (h refl)
bound-has_none (bound t) h = refl

-- a variable that leads to a term that is none
led-elsewhere : (s : State) (n : ℕ) (t : Tree) → followed (bindings s) (var n) ≡ t → ((m : ℕ) → t ≡ var m → ⊥) → pending_at s (Item.Var n) ≡ None
led-elsewhere s n t e other = ap (pending_with n) (bound-has_none (variable s n) (λ none. other n (sym e ∙ followed_itself (bindings s) n (held_is s n ∙ none))))

pub other-none : {M : Type 0} (v : StoreView M) (s : State) (x : Item) (cell : Cell) → ShowsCell v (followed (bindings s) (item_term x)) cell → ((m : ℕ) → cell ≡ Cell.Var m → ⊥) → pending_at s (root_item s x) ≡ None
other-none v s (Item.Int i) cell shows other = refl
other-none v s (Item.Var n) (Cell.Var m) shows other = absurd (other m refl)
other-none v s (Item.Var n) (Cell.Int i) shows other = ap (λ (t : Tree). pending_at s (item_of n t)) shows
other-none v s (Item.Var n) (Cell.Atom k) (name, is, e) other = ap (λ (t : Tree). pending_at s (item_of n t)) e ∙ led-elsewhere s n (atom name) e (λ m h. cc)
other-none v s (Item.Var n) (Cell.Comp k count) (name, is, e, many) other =
    let whole : Tree = comp name (args (followed (bindings s) (var n))) in
    ap (λ (t : Tree). pending_at s (item_of n t)) e ∙ led-elsewhere s n whole e (λ m h. cc)

no-domain-there : (s : State) (n : ℕ) (o : Option (List Span)) → IsState s → domain_of s n ≡ o → length (unwrap_or o []) ≡ 0 → o ≡ None
no-domain-there s n None is has none = refl
no-domain-there s n (Some d) is has none = absurd (no-domain d none (domain_good s n d is has).1)

pub free-none : (s : State) (x : Item) (n : ℕ) → IsState s → followed (bindings s) (item_term x) ≡ var n → length (stored s n) ≡ 0 → pending_at s (root_item s x) ≡ None
free-none s x n is e none = ap (pending_at s) (root-var s x n e) ∙ ap (pending_with n) (no-domain-there s n (domain_of s n) is refl none)

stored-there : (o : Option (List Span)) → (length (unwrap_or o []) ≡ 0 → ⊥) → o ≡ Some (unwrap_or o [])
stored-there None some = absurd (some refl)
stored-there (Some d) some = refl

pub one-pending : (s : State) (x : Item) (n : ℕ) → followed (bindings s) (item_term x) ≡ var n → (length (stored s n) ≡ 0 → ⊥) → ShowsPicked s (Some n) (pending_at s (root_item s x))
one-pending s x n e some =
    let has : domain_of s n ≡ Some (stored s n) = stored-there (domain_of s n) some in
    (ap (pending_at s) (root-var s x n e) ∙ ap (pending_with n) has, has)

-- ---- one after the other

-- the items from a place on
abbrev pub IsAt : List Item → ℕ → Item → Type 0
IsAt xs k x = drop k xs ≡ x ∷ drop (suc k) xs

next-place : (k : ℕ) → suc k ≡ k + 1
next-place k = omega arith

from-here : (s : State) (xs : List Item) (k : ℕ) (x : Item) → IsAt xs k x → pending s (drop k xs) ≡ cons_option (pending_at s (root_item s x)) (pending s (drop (k + 1) xs))
from-here s xs k x at = ap (pending s) at ∙ ap (λ (j : ℕ). cons_option (pending_at s (root_item s x)) (pending s (drop j xs))) (next-place k)

pub all-ahead : (xs : List Item) → drop 0 xs ≡ xs
all-ahead [] = refl
all-ahead (x ∷ xs) = refl

-- a variable that is found
from-found : (s : State) (xs : List Item) (k : ℕ) (x : Item) (n : ℕ) → IsAt xs k x → ShowsPicked s (Some n) (pending_at s (root_item s x)) → pending s (drop k xs) ≡ pending_in s n ∷ pending s (drop (k + 1) xs)
from-found s xs k x n at shows = from-here s xs k x at ∙ ap (λ (o : Option Pending). cons_option o (pending s (drop (k + 1) xs))) shows.0

-- none is
pub from-none : (s : State) (xs : List Item) (k : ℕ) (x : Item) → IsAt xs k x → ShowsPicked s None (pending_at s (root_item s x)) → pending s (drop k xs) ≡ pending s (drop (k + 1) xs)
from-none s xs k x at shows = from-here s xs k x at ∙ ap (λ (o : Option Pending). cons_option o (pending s (drop (k + 1) xs))) shows

-- ---- the first one

pub first-passed : (s : State) (xs : List Item) (k : ℕ) (x : Item) (found : Option ℕ) → pending s xs ≡ pending s (drop k xs) → IsAt xs k x → ShowsPicked s found (pending_at s (root_item s x)) → is_some found ≡ false → pending s xs ≡ pending s (drop (k + 1) xs)
first-passed s xs k x None so at shows none = so ∙ from-none s xs k x at shows
first-passed s xs k x (Some n) so at shows none = absurd cc

pub first-taken : (s : State) (xs : List Item) (k : ℕ) (x : Item) (found : Option ℕ) → pending s xs ≡ pending s (drop k xs) → IsAt xs k x → ShowsPicked s found (pending_at s (root_item s x)) → is_some found ≡ true → ShowsPicked s found (picked (pending s xs) forward)
first-taken s xs k x None so at shows some = absurd cc
first-taken s xs k x (Some n) so at shows some = (ap (λ (ps : List Pending). picked ps forward) (so ∙ from-found s xs k x n at shows), shows.1)

pub none-first : (s : State) (xs : List Item) (k : ℕ) (w : VariableWord) → pending s xs ≡ pending s (drop k xs) → drop k xs ≡ [] → picked (pending s xs) w ≡ None
none-first s xs k w so none = ap (λ (ps : List Pending). picked ps w) (so ∙ ap (pending s) none)

-- ---- the last one

pub last-passed : (s : State) (xs : List Item) (k : ℕ) (x : Item) (found : Option ℕ) → pending s (drop (k + 1) xs) ≡ [] → IsAt xs k x → ShowsPicked s found (pending_at s (root_item s x)) → is_some found ≡ false → pending s (drop k xs) ≡ []
last-passed s xs k x None so at shows none = from-none s xs k x at shows ∙ so
last-passed s xs k x (Some n) so at shows none = absurd cc

last-of : (q p : Pending) (ps : List Pending) → last_or (Some q) (ps ++ p ∷ []) ≡ Some p
last-of q p [] = refl
last-of q p (r ∷ ps) = last-of r p ps

last-picked : (p : Pending) (ps : List Pending) → picked (ps ++ p ∷ []) backward ≡ Some p
last-picked p [] = refl
last-picked p (q ∷ ps) = last-of q p ps

pub last-taken : (s : State) (xs : List Item) (k : ℕ) (x : Item) (found : Option ℕ) → pending s (drop (k + 1) xs) ≡ [] → IsAt xs k x → ShowsPicked s found (pending_at s (root_item s x)) → is_some found ≡ true → ShowsPicked s found (picked (pending s xs) backward)
last-taken s xs k x None so at shows some = absurd cc
last-taken s xs k x (Some n) so at shows some =
    let p : Pending = pending_in s n in
    let behind : pending s (drop k xs) ≡ p ∷ [] = from-found s xs k x n at shows ∙ ap (λ (ps : List Pending). p ∷ ps) so in
    let whole : pending s xs ≡ pending s (take k xs) ++ p ∷ [] =
    ap (pending s) (sym (take-append-drop k xs)) ∙ (filter_map-append (λ (y : Item). pending_at s (root_item s y)) (take k xs) (drop k xs) ∙ ap (λ (ps : List Pending). pending s (take k xs) ++ ps) behind) in
    (ap (λ (ps : List Pending). picked ps backward) whole ∙ last-picked p (pending s (take k xs)), shows.1)

pub none-last : (s : State) (xs : List Item) (k : ℕ) → pending s (drop k xs) ≡ [] → k ≡ 0 → picked (pending s xs) backward ≡ None
none-last s xs k so first = ap (λ (ps : List Pending). picked ps backward) (ap (pending s) (sym (all-ahead xs)) ∙ (ap (λ (j : ℕ). pending s (drop j xs)) (sym first) ∙ so))

-- ---- the one with the fewest values

abbrev HasCount : State → Option Smallest → Type 0
HasCount s None = ⊤
HasCount s (Some q) = (q.count ≡ size_of (stored s q.variable)) × (domain_of s q.variable ≡ Some (stored s q.variable))

abbrev best_in : State → Option Smallest → Option Pending
best_in s o = option_map (λ (q : Smallest). pending_in s q.variable) o

-- the best so far, before a place
pub record IsSmallestTo (s : State) (xs : List Item) (best : Option Smallest) (k : ℕ) : Type 0 where
  pub goes : picked (pending s xs) ff ≡ picked_from ff (best_in s best) (pending s (drop k xs))
  pub count : HasCount s best

pub smallest-first : (s : State) (xs : List Item) → IsSmallestTo s xs None 0
smallest-first s xs = record { goes = ap (λ (ys : List Item). picked (pending s ys) ff) (sym (all-ahead xs)); count = tt }

pub smallest-passed : (s : State) (xs : List Item) (best : Option Smallest) (k : ℕ) (x : Item) → IsSmallestTo s xs best k → IsAt xs k x → ShowsPicked s None (pending_at s (root_item s x)) → IsSmallestTo s xs best (k + 1)
smallest-passed s xs best k x so at shows = record { goes = so.goes ∙ ap (picked_from ff (best_in s best)) (from-none s xs k x at shows); count = so.count }

one-of-two : (s : State) (xs : List Item) (q next : Smallest) (k : ℕ) (test : Bool) → HasCount s (Some q) → HasCount s (Some next) → picked (pending s xs) ff ≡ Some (smallest (cond test (pending_in s next.variable) (pending_in s q.variable)) (pending s (drop k xs))) →
    IsSmallestTo s xs (Some (cond test next q)) k
one-of-two s xs q next k true has new goes = record { goes = goes; count = new }
one-of-two s xs q next k false has new goes = record { goes = goes; count = has }

smallest-more : (p q : Pending) (ps : List Pending) → smallest q (p ∷ ps) ≡ smallest (cond (nat_lt (size_of p.domain) (size_of q.domain)) p q) ps
unfolding smallest
smallest-more p q ps = refl

pub smallest-taken : (s : State) (xs : List Item) (best : Option Smallest) (k : ℕ) (x : Item) (n count : ℕ) (found : Smallest) → IsSmallestTo s xs best k → IsAt xs k x → ShowsPicked s (Some n) (pending_at s (root_item s x)) → count ≡ size_of (stored s n) →
    found ≡ smaller_of best (record { variable = n; count = count }) → IsSmallestTo s xs (Some found) (k + 1)
smallest-taken s xs None k x n count found so at shows is e =
    subst (λ (q : Smallest). IsSmallestTo s xs (Some q) (k + 1)) (sym e) (record { goes = so.goes ∙ ap (picked_from ff None) (from-found s xs k x n at shows); count = (is, shows.1) })
smallest-taken s xs (Some q) k x n count found so at shows is e =
    let p : Pending = pending_in s n in
    let r : Pending = pending_in s q.variable in
    let rest : List Pending = pending s (drop (k + 1) xs) in
    let tests : nat_lt (size_of (stored s n)) (size_of (stored s q.variable)) ≡ nat_lt count q.count = ap (λ (m : ℕ). nat_lt m (size_of (stored s q.variable))) (sym is) ∙ ap (nat_lt count) (sym so.count.0) in
    subst (λ (y : Smallest). IsSmallestTo s xs (Some y) (k + 1)) (sym e)
    (one-of-two s xs q (record { variable = n; count = count }) (k + 1) (nat_lt count q.count) so.count (is, shows.1)
    (so.goes ∙ (ap (picked_from ff (Some r)) (from-found s xs k x n at shows) ∙ (ap Some (smallest-more p r rest) ∙ ap (λ (test : Bool). Some (smallest (cond test p r) rest)) tests))))

nothing-more : (p : Pending) → smallest p [] ≡ p
unfolding smallest
nothing-more p = refl

pub smallest-none : (s : State) (xs : List Item) (best : Option Smallest) (k : ℕ) → IsSmallestTo s xs best k → drop k xs ≡ [] → best ≡ None → picked (pending s xs) ff ≡ None
smallest-none s xs best k so none e = so.goes ∙ (ap (λ (o : Option Smallest). picked_from ff (best_in s o) (pending s (drop k xs))) e ∙ ap (λ (ys : List Item). picked (pending s ys) ff) none)

pub smallest-is : (s : State) (xs : List Item) (best : Option Smallest) (k : ℕ) (q : Smallest) → IsSmallestTo s xs best k → drop k xs ≡ [] → best ≡ Some q → ShowsPicked s (Some q.variable) (picked (pending s xs) ff)
smallest-is s xs best k q so none e =
    let has : HasCount s (Some q) = subst (HasCount s) e so.count in (
      so.goes ∙ (ap (λ (o : Option Smallest). picked_from ff (best_in s o) (pending s (drop k xs))) e ∙ (ap (λ (ys : List Item). Some (smallest (pending_in s q.variable) (pending s ys))) none ∙ ap Some (nothing-more (pending_in s q.variable)))),
      has.1,
    )
