-- A run that is computed is a run, and where there is none the run fails.
use Rattle.std.specs.Prelude.{◌≡◌, ◌↔◌, ◌⊎◌, ℕ, ◌==◌, ◌+◌, ◌<◌, ◌≤◌, ℤ, Bool, true, false, not, cond, IsTrue, List, [], length, filter, get_or, Contains, Option, Some, None, option_map, refl}
use Rattle.std.specs.Bool.{Decides}
use Rattle.std.proofs.Common.{arith, sym, ◌∙◌, ap, subst, inl, inr}
use Rattle.std.proofs.lemmas.Bool.{cases_Bool}
use Rattle.std.proofs.lemmas.Bool.Decides.{Decides-eqb, Decides-like}
use Rattle.std.proofs.lemmas.Option.{slice_get-get_or}
use Rattle.pi_constraints.specs.declared.constraint.Constraint.{Constraint}
use Rattle.pi_constraints.specs.declared.constraint.Item.{Item}
use Rattle.pi_constraints.specs.declared.domain.Span.{Span}
use Rattle.pi_constraints.specs.Domain.{has_value, values_of}
use Rattle.pi_constraints.proofs.DomainLemmas.{not_both, values_lie_in_spans}
use Rattle.pi_prop_spec.specs.Places.{places_of}
use Rattle.pi_prop_spec.specs.Filter.{Leaves}
use Rattle.pi_prop_spec.specs.Decided.{each_below, if_so, leaves}
use Rattle.pi_prop_spec.proofs.DecidedTests.{if_so-decides, each_below-decides, each_below-fails}
use Rattle.pi_prop_spec.proofs.DecidedLemmas.{leaves_is_decided}
use Rattle.pi_constraints.specs.State.{State, Variable, free, domain_in, domain_of, next, IsState}
use Rattle.pi_constraints.proofs.StateLemmas.{variable, domain_good, state_variable}
use Rattle.pi_settling.specs.Roots.{root_item, domain_or_all, given}
use Rattle.pi_settling.specs.SettlingLaws.{MaySettle}
use Rattle.pi_settling.specs.Narrowed.{NarrowsTo, left_free, left_bound, some_left, one_left}
use Rattle.pi_settling.specs.Run.{given_at, ComesTo, KeptBy, IsRun, integer_lost, variable_lost, Fails, ChangesNothing}
use Rattle.pi_settling.specs.Runs.{IsWoken}
use Rattle.pi_settling.specs.Settle.{root_at, is_variable, is_kept, item_left, integers_left, variables_left, with_variables, run_of, count_all}
use Rattle.pi_settling.proofs.PlaceLemmas.{place_at}
use Rattle.pi_settling.proofs.RunLemmas.{place-is, place-there, given-domains}
use Rattle.pi_settling.proofs.StableRuns.{some-in}
use Rattle.pi_settling.proofs.SizeLemmas.{none-there, to-filter}
use Rattle.pi_settling.proofs.UniqueLemmas.{same_states}
use Rattle.pi_settling.proofs.WakeLemmas.{ran-nothing}
use Rattle.pi_settling.proofs.SettleVariables.{AreLeft, AreVariables, variable-fails, variables-left, variables-fail}

-- ---- tests of places

variable-decides : (n : ℕ) (x : Item) → Decides (is_variable n x) (x ≡ Item.Var n)
variable-decides n (Item.Var m) = Decides-like (m == n) (λ e. ap Item.Var e) (λ e. let same : m ≡ n = cc in same) (Decides-eqb m n)
variable-decides n (Item.Int i) = (λ e. absurd (cc), λ e. absurd (cc))

-- the item at a place comes to this
pub comes-at : (s : State) (c : Constraint) (k : ℕ) (x : Item) → k < length (places_of c) → (root_at s c k ≡ x) ↔ ComesTo s c k x
comes-at s c k x l = (λ e. (place_at c k, place-there c k l, e), λ (y, at, e). ap (root_item s) (place-is c k y at).1 ∙ e)

leaves-decides : (s : State) (c : Constraint) (k : ℕ) (i : ℤ) → IsState s → MaySettle s → Contains s.constraints c → Decides (leaves c (given_at s c) k i) (Leaves c (given_at s c) k i)
leaves-decides s c k i is may posted = leaves_is_decided c (given_at s c) k i (given-domains s c is may posted)

comes-decides : (s : State) (c : Constraint) (n k : ℕ) → k < length (places_of c) → Decides (is_variable n (root_at s c k)) (ComesTo s c k (Item.Var n))
comes-decides s c n k l = Decides-like (is_variable n (root_at s c k)) (comes-at s c k (Item.Var n) l).0 (comes-at s c k (Item.Var n) l).1 (variable-decides n (root_at s c k))

pub kept-decides : (s : State) (c : Constraint) (n : ℕ) (i : ℤ) → IsState s → MaySettle s → Contains s.constraints c → Decides (is_kept s c n i) (KeptBy s c n i)
unfolding is_kept
kept-decides s c n i is may posted = each_below-decides (λ k. if_so (is_variable n (root_at s c k)) (leaves c (given_at s c) k i)) (λ k. ComesTo s c k (Item.Var n) → Leaves c (given_at s c) k i) (length (places_of c))
    (λ k l. if_so-decides (is_variable n (root_at s c k)) (leaves c (given_at s c) k i) (comes-decides s c n k l) (λ p. leaves-decides s c k i is may posted))

-- ---- integers

integer-there : (s : State) (c : Constraint) (k : ℕ) (i : ℤ) (x : Item) → x ≡ Item.Int i → IsTrue (item_left s c k x) → IsTrue (leaves c (given_at s c) k i)
integer-there s c k i (Item.Var m) e h = absurd (cc)
integer-there s c k i (Item.Int j) e h = let same : j ≡ i = cc in subst (λ (z : ℤ). IsTrue (leaves c (given_at s c) k z)) same h

integers-leave : (s : State) (c : Constraint) → IsState s → MaySettle s → Contains s.constraints c → integers_left s c ≡ true → (k : ℕ) (i : ℤ) → ComesTo s c k (Item.Int i) → Leaves c (given_at s c) k i
unfolding integers_left
integers-leave s c is may posted e k i (y, at, to) =
    let place = place-is c k y at in
    let all = (each_below-decides (λ j. item_left s c j (root_at s c j)) (λ j. IsTrue (item_left s c j (root_at s c j))) (length (places_of c)) (λ j l. (λ h. h, λ h. h))).0 e in
    (leaves-decides s c k i is may posted).0 (integer-there s c k i (root_at s c k) (ap (root_item s) place.1 ∙ to) (all k place.0))

integer-fails : (s : State) (c : Constraint) (k : ℕ) (x : Item) → IsState s → MaySettle s → Contains s.constraints c → ComesTo s c k x → item_left s c k x ≡ false → Fails s c
integer-fails s c k (Item.Var m) is may posted to e = absurd (cc)
integer-fails s c k (Item.Int i) is may posted to e =
    (Item.Int i, integer_lost k i to (λ h. not_both (leaves c (given_at s c) k i) ((leaves-decides s c k i is may posted).1 h) e))

integers-fail : (s : State) (c : Constraint) → IsState s → MaySettle s → Contains s.constraints c → integers_left s c ≡ false → Fails s c
unfolding integers_left
integers-fail s c is may posted e =
    let w = each_below-fails (λ j. item_left s c j (root_at s c j)) (length (places_of c)) e in
    integer-fails s c w.0 (root_at s c w.0) is may posted ((comes-at s c w.0 (root_at s c w.0) w.1).0 refl) w.2

-- ---- variables

like : (K L : ℤ → Type 0) (v w : Variable) → ((i : ℤ) → K i ↔ L i) → NarrowsTo K v w → NarrowsTo L v w
like K L v w same left_free = left_free
like K L v w same (left_bound t) = left_bound t
like K L v w same (some_left d e up two all) = some_left d e up two (λ i. (λ h. let g = (all i).0 h in (g.0, (same i).0 g.1), λ h. (all i).1 (h.0, (same i).1 h.1)))
like K L v w same (one_left d i all) = one_left d i (λ j. (λ h. let g = (all j).0 h in (g.0, (same j).0 g.1), λ h. (all j).1 (h.0, (same j).1 h.1)))

state-variables : (s : State) → IsState s → AreVariables (next s) s.variables
state-variables s is k l = state_variable s k is l

-- what a run that is computed comes to
pub record IsComputed (s : State) (c : Constraint) (r : State) : Type 0 where
  pub run : IsRun s c r
  pub fewer : count_all r ≤ count_all s
  pub same : count_all r ≡ count_all s → r ≡ s

computed : (s : State) (c : Constraint) (ws : List Variable) → IsState s → MaySettle s → Contains s.constraints c → integers_left s c ≡ true → variables_left (is_kept s c) 0 s.variables ≡ Some ws → IsComputed s c (with_variables s ws)
computed s c ws is may posted whole e =
    let left : AreLeft (is_kept s c) 0 s.variables ws = variables-left (is_kept s c) (next s) 0 s.variables ws (state-variables s is) e in
    record {
      run = record {
        narrowed = record {
          count = left.count;
          variables = λ n l. like (λ i. IsTrue (is_kept s c n i)) (KeptBy s c n) (variable s n) (get_or ws n free) (λ i. kept-decides s c n i is may posted)
              (subst (λ (m : ℕ). NarrowsTo (λ i. IsTrue (is_kept s c m i)) (variable s n) (get_or ws n free)) (let z : 0 + n ≡ n = omega arith in z) (left.each n l));
          constraints = refl;
          agents = refl;
          waiting = refl;
        };
        integers = integers-leave s c is may posted whole;
      };
      fewer = left.fewer;
      same = λ f. same_states (with_variables s ws) s (left.same f) refl refl refl;
    }

pub run-parts : (b : Bool) (o : Option (List Variable)) (s r : State) → cond b (option_map (with_variables s) o) None ≡ Some r → (ws : List Variable) × (b ≡ true) × (o ≡ Some ws) × (with_variables s ws ≡ r)
run-parts true (Some ws) s r e = (ws, refl, refl, let same : with_variables s ws ≡ r = cc in same)
run-parts true None s r e = absurd (cc)
run-parts false o s r e = absurd (cc)

pub run-computed : (s : State) (c : Constraint) (r : State) → IsState s → MaySettle s → Contains s.constraints c → run_of c s ≡ Some r → IsComputed s c r
unfolding run_of
run-computed s c r is may posted e =
    let p = run-parts (integers_left s c) (variables_left (is_kept s c) 0 s.variables) s r e in
    subst (IsComputed s c) p.3 (computed s c p.0 is may posted p.1 p.2)

-- ---- a run that fails

-- a variable that no place comes to keeps its values
no-place : (s : State) (c : Constraint) (n : ℕ) (d : List Span) → IsState s → MaySettle s → Contains s.constraints c → domain_of s n ≡ Some d → each_below (length (places_of c)) (λ k. not (is_variable n (root_at s c k))) ≡ true →
    filter (is_kept s c n) (values_of d) ≡ [] → Fails s c
no-place s c n d is may posted has none e =
    let good = domain_good s n d is has in
    let some = some-in d good.0 good.1 in
    let all = (each_below-decides (λ k. not (is_variable n (root_at s c k))) (λ k. IsTrue (not (is_variable n (root_at s c k)))) (length (places_of c)) (λ k l. (λ h. h, λ h. h))).0 none in
    let kept : KeptBy s c n some.0 = λ k l to. absurd (untrue (is_variable n (root_at s c k)) (all k l) ((comes-decides s c n k l).1 to)) in
    let there : Contains (filter (is_kept s c n) (values_of d)) some.0 = to-filter (is_kept s c n) (values_of d) some.0 ((values_lie_in_spans d good.0 some.0).0 some.1) ((kept-decides s c n some.0 is may posted).1 kept) in
    absurd (none-there some.0 (subst (λ (is : List ℤ). Contains is some.0) e there))
  where
    untrue : (b : Bool) → IsTrue (not b) → b ≡ true → ⊥
    untrue true h e = absurd (cc)
    untrue false h e = absurd (cc)

is-so : (b : Bool) → not b ≡ false → b ≡ true
is-so true e = refl
is-so false e = absurd (cc)

at-place : (s : State) (c : Constraint) (n : ℕ) (d : List Span) (k : ℕ) → IsState s → MaySettle s → Contains s.constraints c → domain_of s n ≡ Some d → ComesTo s c k (Item.Var n) → filter (is_kept s c n) (values_of d) ≡ [] → Fails s c
at-place s c n d k is may posted has to e = (
  Item.Var n,
  variable_lost k n to (λ i h kept.
      let good = domain_good s n d is has in
      let here : IsTrue (has_value d i) = subst (λ (f : List Span). IsTrue (has_value f i)) (ap domain_or_all has) h in
      let there : Contains (filter (is_kept s c n) (values_of d)) i = to-filter (is_kept s c n) (values_of d) i ((values_lie_in_spans d good.0 i).0 here) ((kept-decides s c n i is may posted).1 kept) in
      none-there i (subst (λ (is : List ℤ). Contains is i) e there)),
)

variable-left-nothing : (s : State) (c : Constraint) (n : ℕ) (d : List Span) → IsState s → MaySettle s → Contains s.constraints c → domain_of s n ≡ Some d → filter (is_kept s c n) (values_of d) ≡ [] → Fails s c
variable-left-nothing s c n d is may posted has e = elim (cases_Bool (each_below (length (places_of c)) (λ k. not (is_variable n (root_at s c k))))) [
  | inl none ↦ no-place s c n d is may posted has none e
  | inr some ↦
      let w = each_below-fails (λ k. not (is_variable n (root_at s c k))) (length (places_of c)) some in
      at-place s c n d w.0 is may posted has ((comes-decides s c n w.0 w.1).0 (is-so (is_variable n (root_at s c w.0)) w.2)) e
]

failed-parts : (b : Bool) (o : Option (List Variable)) (s : State) → cond b (option_map (with_variables s) o) None ≡ None → (b ≡ false) ⊎ (o ≡ None)
failed-parts true (Some ws) s e = absurd (cc)
failed-parts true None s e = inr refl
failed-parts false o s e = inl refl

pub run-fails : (s : State) (c : Constraint) → IsState s → MaySettle s → Contains s.constraints c → run_of c s ≡ None → Fails s c
unfolding run_of
run-fails s c is may posted e = elim (failed-parts (integers_left s c) (variables_left (is_kept s c) 0 s.variables) s e) [
  | inl none ↦ integers-fail s c is may posted none
  | inr none ↦
      let w = variables-fail (is_kept s c) 0 s.variables none in
      let v = variable-fails (is_kept s c (0 + w.0)) (variable s w.0) w.2 in
      let same : 0 + w.0 ≡ w.0 = omega arith in
      variable-left-nothing s c w.0 v.0 is may posted (ap domain_in v.1) (subst (λ (m : ℕ). filter (is_kept s c m) (values_of v.0) ≡ []) same v.2)
]

-- ---- a run that takes no value

quiet : (s q : State) (i : ℕ) → q ≡ s → IsWoken s q i → ⊥
quiet s q i e (n, (v, has, lost), there) = lost (subst (λ (r : State). IsTrue (has_value (given r (root_item r (Item.Var n))) v)) (sym e) has)

pub run-nothing : (s q : State) (c : Constraint) → IsState s → MaySettle s → Contains s.constraints c → IsRun s c q → q ≡ s → ChangesNothing s c
run-nothing s q c is may (i, l, at) run e =
    subst (λ (r : State). ChangesNothing r c) e (ran-nothing s q i c is may run (slice_get-get_or s.constraints i c l ∙ ap Some at) (quiet s q i e))
