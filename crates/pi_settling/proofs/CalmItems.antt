-- What items come to where a state changes: what settling may go on with stays so.
use Rattle.std.specs.Prelude.{◌≡◌, ℕ, zero, suc, ◌<◌, ℤ, IsTrue, List, [], ◌∷◌, ◌++◌, length, get_or, slice_get, Some, Contains, refl}
use Rattle.std.proofs.Common.{sym, ◌∙◌, ap, subst, inl, inr}
use Rattle.std.proofs.lemmas.List.{map-append}
use Rattle.pi_terms.specs.Tree.{var}
use Rattle.pi_constraints.specs.declared.constraint.Constraint.{Constraint}
use Rattle.pi_constraints.specs.declared.constraint.Item.{Item}
use Rattle.pi_constraints.specs.declared.domain.Span.{Span}
use Rattle.pi_constraints.specs.Domain.{has_value}
use Rattle.pi_prop_spec.specs.Places.{places_of, domain_at}
use Rattle.pi_prop_spec.specs.Filter.{Leaves}
use Rattle.pi_constraints.specs.Value.{Bindings, value}
use Rattle.pi_constraints.specs.State.{State, Variable, free, binding, bindings, domain_in, domain_of, with_new, IsState}
use Rattle.pi_constraints.specs.Evaluation.{with_new_variables}
use Rattle.pi_constraints.proofs.BindingLemmas.{new_variable_changes_no_value}
use Rattle.pi_constraints.proofs.KeepsLemmas.{new-keeps}
use Rattle.pi_constraints.proofs.StateLemmas.{variable}
use Rattle.pi_settling.specs.Roots.{root_item, item_of, domain_or_all, given}
use Rattle.pi_settling.specs.Run.{given_at}
use Rattle.pi_settling.specs.SettlingLaws.{MaySettle}
use Rattle.pi_settling.specs.Calm.{IsCalm}
use Rattle.pi_settling.proofs.RootLemmas.{Kept, Items, root_later, root-by_value}
use Rattle.pi_settling.proofs.TwiceLemmas.{same_map}
use Rattle.pi_settling.proofs.KeepLemmas.{MayCome}

-- ---- more is bound

comes-later : (s r : State) → ((n : ℕ) (d : List Span) → domain_of s n ≡ Some d → MayCome r (root_item r (Item.Var n))) → (x : Item) → MayCome s x → MayCome r (root_item r x)
comes-later s r each x (inl (n, d, e, has)) = subst (λ (y : Item). MayCome r (root_item r y)) (sym e) (each n d has)
comes-later s r each x (inr (i, e, b)) = inr (i, ap (root_item r) e, b)

-- where what is bound stays so, and each variable with a domain is a variable with one or an integer
pub settles-later : (s r : State) → IsState s → IsState r → Kept (bindings s) (bindings r) → Items (bindings s) (bindings r) → r.constraints ≡ s.constraints →
    ((n : ℕ) (d : List Span) → domain_of s n ≡ Some d → MayCome r (root_item r (Item.Var n))) → MaySettle s → MaySettle r
settles-later s r is is' keeps items same each may c y posted at =
    let before : Contains s.constraints c = subst (λ (cs : List Constraint). Contains cs c) same posted in
    subst (MayCome r) (root_later s r is.acyclic is'.acyclic keeps items y) (comes-later s r each (root_item s y) (may c y before at))

-- ---- nothing is another

-- variables and items are what they were
pub record LooksLike (s r : State) : Type 0 where
  pub variables : (n : ℕ) → variable r n ≡ variable s n
  pub roots : (x : Item) → root_item r x ≡ root_item s x
  pub constraints : r.constraints ≡ s.constraints

pub like-comes : (s r : State) → LooksLike s r → (x : Item) → MayCome s (root_item s x) → MayCome r (root_item r x)
like-comes s r h x (inl (n, d, e, has)) = inl (n, d, h.roots x ∙ e, ap domain_in (h.variables n) ∙ has)
like-comes s r h x (inr (i, e, b)) = inr (i, h.roots x ∙ e, b)

like-given : (s r : State) → LooksLike s r → (x : Item) → given r x ≡ given s x
like-given s r h (Item.Var n) = ap (λ (v : Variable). domain_or_all (domain_in v)) (h.variables n)
like-given s r h (Item.Int i) = refl

like-places : (s r : State) → LooksLike s r → (c : Constraint) → given_at r c ≡ given_at s c
like-places s r h c = same_map (λ x. given r (root_item r x)) (λ x. given s (root_item s x)) (λ x. like-given s r h (root_item r x) ∙ ap (given s) (h.roots x)) (places_of c)

pub calm-like : (s r : State) → IsState r → LooksLike s r → IsCalm s → IsCalm r
calm-like s r is h calm = record {
  state = is;
  settles = λ c y posted at. like-comes s r h y (calm.settles c y (subst (λ (cs : List Constraint). Contains cs c) h.constraints posted) at);
  unchanged = λ i c at.
      subst (λ (ds : List (List Span)). (k : ℕ) (j : ℤ) → k < length (places_of c) → IsTrue (has_value (domain_at ds k) j) → Leaves c ds k j) (sym (like-places s r h c))
      (calm.unchanged i c (subst (λ (cs : List Constraint). slice_get cs i ≡ Some c) h.constraints at));
}

-- ---- new variables

new-at : (vs : List Variable) (n : ℕ) → get_or (vs ++ free ∷ []) n free ≡ get_or vs n free
new-at [] zero = refl
new-at [] (suc n) = refl
new-at (v ∷ vs) zero = refl
new-at (v ∷ vs) (suc n) = new-at vs n

new-root : (s : State) → IsState s → (x : Item) → root_item (with_new s) x ≡ root_item s x
new-root s is (Item.Var n) =
    let same : value (bindings (with_new s)) (var n) ≡ value (bindings s) (var n) =
    ap (λ (b : Bindings). value b (var n)) (map-append binding s.variables (free ∷ [])) ∙ new_variable_changes_no_value (bindings s) (var n) is.acyclic in
    root-by_value (bindings (with_new s)) n (new-keeps s is).acyclic ∙ (ap (item_of n) same ∙ sym (root-by_value (bindings s) n is.acyclic))
new-root s is (Item.Int i) = refl

new-like : (s : State) → IsState s → LooksLike s (with_new s)
new-like s is = record { variables = λ n. new-at s.variables n; roots = new-root s is; constraints = refl }

like-then : (s r q : State) → LooksLike s r → LooksLike r q → LooksLike s q
like-then s r q h g = record { variables = λ n. g.variables n ∙ h.variables n; roots = λ x. g.roots x ∙ h.roots x; constraints = g.constraints ∙ h.constraints }

pub news-like : (k : ℕ) (s : State) → IsState s → LooksLike s (with_new_variables k s)
unfolding with_new_variables
news-like zero s is = record { variables = λ n. refl; roots = λ x. refl; constraints = refl }
news-like (suc k) s is = like-then s (with_new s) (with_new_variables k (with_new s)) (new-like s is) (news-like k (with_new s) (new-keeps s is))

pub news-at : (k : ℕ) (s : State) (n : ℕ) → variable (with_new_variables k s) n ≡ variable s n
unfolding with_new_variables
news-at zero s n = refl
news-at (suc k) s n = news-at k (with_new s) n ∙ new-at s.variables n
