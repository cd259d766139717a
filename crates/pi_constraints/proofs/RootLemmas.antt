-- The value of a term by what the term is at its root, once its bindings there are followed.
use Rattle.std.proofs.Common.{◌≡◌, ℕ, ℤ, zero, suc, List, Option, Some, refl, ap, sym, ◌∙◌}
use Rattle.pi_terms.specs.Tree.{Tree, var, int, atom, comp, Trees}
use Rattle.pi_terms.specs.Substitution.{instance, instances}
use Rattle.pi_constraints.specs.Value.{Bindings, IsAcyclic, value}
use Rattle.pi_constraints.specs.State.{followed}
use Rattle.pi_constraints.proofs.ValueLemmas.{value_goes_by_variables}
use Rattle.pi_constraints.proofs.FollowLemmas.{followed_value}

abbrev pub with_values : Bindings → Trees → Trees
with_values b ts = instances (λ n. value b (var n)) ts

pub value_int : (b : Bindings) (n : ℤ) → value b (int n) ≡ int n
unfolding instance
value_int b n = value_goes_by_variables b (int n)

pub value_atom : (b : Bindings) (name : List ℕ) → value b (atom name) ≡ atom name
unfolding instance
value_atom b name = value_goes_by_variables b (atom name)

pub value_comp : (b : Bindings) (name : List ℕ) (ts : Trees) → value b (comp name ts) ≡ comp name (with_values b ts)
unfolding instance
value_comp b name ts = value_goes_by_variables b (comp name ts)

pub value_at_root : (b : Bindings) (t u : Tree) → IsAcyclic b → followed b t ≡ u → value b t ≡ value b u
value_at_root b t u a e = sym (followed_value b t a) ∙ ap (value b) e
