-- A stable state is a state, and may settle where the state before might.
use Rattle.std.specs.Prelude.{◌≡◌, ◌⊎◌, ℕ, ◌<◌, ℤ, List, length, slice_get, IsSomeAnd, Some, None, Contains, refl}
use Rattle.std.proofs.Common.{arith, sym, ◌∙◌, ap, subst, inl, inr}
use Rattle.std.proofs.lemmas.Option.{slice_get_within, get_or_from_slice_get}
use Rattle.pi_terms.specs.Tree.{Tree, int}
use Rattle.pi_terms.specs.Variables.{Occurs}
use Rattle.pi_terms.specs.Places.{held}
use Rattle.pi_constraints.specs.declared.constraint.Constraint.{Constraint}
use Rattle.pi_constraints.specs.declared.constraint.Item.{Item}
use Rattle.pi_constraints.specs.declared.domain.Span.{Span}
use Rattle.pi_constraints.specs.Domain.{IsWithinBounds}
use Rattle.pi_constraints.specs.State.{State, Agent, Variable, free, binding, bindings, next, domain_in, domain_of, SpeaksBelow, WatchBelow, IsVariable, MayPost, IsActivation, IsState}
use Rattle.pi_constraints.specs.declared.event.Activation.{Activation}
use Rattle.pi_constraints.proofs.StateLemmas.{variable, held_is, state_variable}
use Rattle.pi_settling.specs.Roots.{root_item}
use Rattle.pi_settling.specs.Stable.{Narrows, stays_free, stays_bound, some_stay, one_stays, IsStable}
use Rattle.pi_settling.specs.SettlingLaws.{StableIsAState, StableMaySettle}
use Rattle.pi_settling.proofs.TwiceLemmas.{past_free, less_or_not, unbound-root, integer-root, stays-bounded, later-root}
use Rattle.pi_settling.proofs.UniqueLemmas.{domain_made}

-- ---- a state

integer-speaks : (n : ℕ) (i : ℤ) → SpeaksBelow n (int i)
unfolding Occurs
integer-speaks n i m h = absurd h

narrowed-falls : (s : State) (is : IsState s) (n m : ℕ) (v w : Variable) (u : Tree) → Narrows s n v w → variable s n ≡ v → binding w ≡ Some u → Occurs m u → is.acyclic.rank m < is.acyclic.rank n
unfolding Occurs
narrowed-falls s is n m v w u stays_free at e h = absurd cc
narrowed-falls s is n m v w u (stays_bound t) at e h = is.acyclic.falls n m u (held_is s n ∙ (ap binding at ∙ e)) h
narrowed-falls s is n m v w u (some_stay d f p q all) at e h = absurd cc
narrowed-falls s is n m v w u (one_stays d i all) at e h =
    let same : int i ≡ u = cc in
    absurd (subst (λ (t : Tree). Occurs m t → ⊥) same (λ x. x) h)

narrowed-variable : (s : State) (n : ℕ) (v w : Variable) → Narrows s n v w → IsVariable (next s) v → IsVariable (next s) w
narrowed-variable s n v w stays_free good = tt
narrowed-variable s n v w (stays_bound t) good = good
narrowed-variable s n v w (some_stay d e p q all) good = (p, q)
narrowed-variable s n v w (one_stays d i all) good = integer-speaks (next s) i

stable-falls : (s r : State) (is : IsState s) → IsStable s r → (n m : ℕ) (u : Tree) → held (bindings r) n ≡ Some u → Occurs m u → is.acyclic.rank m < is.acyclic.rank n
stable-falls s r is f n m u e h = elim (less_or_not n (next s)) [
  | inl l ↦ narrowed-falls s is n m (variable s n) (variable r n) u (f.variables n l) refl (sym (held_is r n) ∙ e) h
  | inr past ↦ absurd (let none : binding (variable r n) ≡ None = ap binding (past_free r n (let same = f.count in omega arith)) in let held_none : held (bindings r) n ≡ None = held_is r n ∙ none in cc)
]

pub stable_is_a_state : StableIsAState
stable_is_a_state s r is f =
    let many : next s ≡ next r = sym f.count in
    record {
      acyclic = record { rank = is.acyclic.rank; falls = stable-falls s r is f };
      variables = λ n w got.
          let within_r : n < next r = slice_get_within r.variables n w got in
          let inside : n < next s = subst (λ (k : ℕ). n < k) (sym many) within_r in
          let here : variable r n ≡ w = get_or_from_slice_get r.variables n w free got in
          let good : IsVariable (next s) (variable r n) = narrowed-variable s n (variable s n) (variable r n) (f.variables n inside) (state_variable s n is inside) in
          subst (λ (k : ℕ). IsVariable k w) many (subst (IsVariable (next s)) here good);
      constraints = λ k c got.
          let old : MayPost s c = is.constraints k c (subst (λ (cs : List Constraint). slice_get cs k ≡ Some c) f.constraints got) in
          (old.0, λ m speaks. subst (λ (z : ℕ). m < z) many (old.1 m speaks));
      agents = λ k a got.
          let old : SpeaksBelow (next s) a.call × WatchBelow (next s) a.watches = is.agents k a (subst (λ (list : List Agent). slice_get list k ≡ Some a) f.agents got) in
          (subst (λ (z : ℕ). SpeaksBelow z a.call) many old.0, subst (λ (z : ℕ). WatchBelow z a.watches) many old.1);
      waiting = λ k a got.
          let old : IsActivation s a = is.waiting k a (subst (λ (list : List Activation). slice_get list k ≡ Some a) f.waiting got) in
          record {
            made = subst (λ (list : List Agent). IsSomeAnd (slice_get list a.agent) (λ agent. a.watch < length agent.watches)) (sym f.agents) old.made;
            value = λ t e. subst (λ (z : ℕ). SpeaksBelow z t) many (old.value t e);
          };
    }

-- ---- which may settle

-- an item that settling may go on with
abbrev pub MayCome : State → Item → Type 0
MayCome s x = ((n : ℕ) × (d : List Span) × (x ≡ Item.Var n) × (domain_of s n ≡ Some d)) ⊎ ((i : ℤ) × (x ≡ Item.Int i) × IsWithinBounds i)

narrowed-comes : (s r : State) → IsState r → (n : ℕ) (v w : Variable) (d : List Span) → Narrows s n v w → variable r n ≡ w → domain_in v ≡ Some d → MayCome r (root_item r (Item.Var n))
narrowed-comes s r is n v w d stays_free there has = absurd cc
narrowed-comes s r is n v w d (stays_bound t) there has = absurd cc
narrowed-comes s r is n v w d (some_stay c e p q all) there has = inl (n, e, unbound-root r n (ap binding there), ap domain_in there)
narrowed-comes s r is n v w d (one_stays c i all) there has = inr (i, integer-root r n i is.acyclic (ap binding there), stays-bounded s (Item.Var n) i ((all i).0 refl))

pub item-comes : (s r : State) → IsState r → IsStable s r → (x : Item) → MayCome s x → MayCome r (root_item r x)
item-comes s r is f x (inl (n, d, e, has)) =
    subst (λ (y : Item). MayCome r (root_item r y)) (sym e) (narrowed-comes s r is n (variable s n) (variable r n) d (f.variables n (domain_made s n d has)) refl has)
item-comes s r is f x (inr (i, e, b)) = inr (i, ap (root_item r) e, b)

pub stable_may_settle : StableMaySettle
stable_may_settle s r is may f c y posted at =
    let is' : IsState r = stable_is_a_state s r is f in
    let before : Contains s.constraints c = subst (λ (cs : List Constraint). Contains cs c) f.constraints posted in
    subst (MayCome r) (later-root s r is is' f y) (item-comes s r is' f (root_item s y) (may c y before at))
