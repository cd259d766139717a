-- [X,Y,Z] :: 0..1, (X #/\ Y) #=> Z, worked through the definitions: the goal leaves a state that may be labelled by X, Y and Z, though the truth of X #/\ Y stands in sums at most 0 alone.
use Rattle.std.specs.Prelude.{◌≡◌, ℕ, zero, suc, ◌<◌, pos, negsuc, List, [], ◌∷◌, Some, slice_get, Contains, Ok, codes, refl}
use Rattle.std.proofs.Common.{arith, subst, inl, inr}
use Rattle.std.proofs.lemmas.Int.{ints}
use Rattle.pi_terms.specs.Tree.{Tree, var}
use Rattle.pi_terms.specs.Variables.{Occurs}
use Rattle.pi_terms.specs.Places.{held}
use Rattle.pi_terms.specs.Substitution.{instance}
use Rattle.pi_constraints.specs.declared.constraint.Constraint.{Constraint}
use Rattle.pi_constraints.specs.declared.constraint.Item.{Item}
use Rattle.pi_constraints.specs.Domain.{AscendFrom, IsDomain, numbers_from, values_of}
use Rattle.pi_constraints.specs.Value.{rounds, value}
use Rattle.pi_constraints.specs.State.{State, Variable, within, bindings, followed_for, followed, SpeaksBelow, IsVariable, IsState}
use Rattle.pi_prop_spec.specs.Terms.{operand_of, operands_of, operands_of_array, operands_of_list, comparison_named, connective_named, boolean_of, goal_of}
use Rattle.pi_prop_spec.specs.PostingSums.{with_term, with_terms, scaled_terms}
use Rattle.pi_prop_spec.specs.Steps.{have_128_bits, read_operand, read_items}
use Rattle.pi_prop_spec.specs.Relations.{read_relation}
use Rattle.pi_prop_spec.specs.Truths.{read_truth}
use Rattle.pi_prop_spec.specs.Limits.{are_narrow, are_values, first_refusal}
use Rattle.pi_prop_spec.specs.Postings.{Posting, posting_in}
use Rattle.pi_prop_spec.proofs.Worked.{two, term, at_most, equal, posts}
use Rattle.pi_settling.specs.Roots.{root_item}
use Rattle.pi_settling.specs.Stable.{IsStable}
use Rattle.pi_settling.specs.Posted.{posted_in}
use Rattle.pi_label_laws.specs.Made.{MayLabel}
use Rattle.pi_label_laws.specs.LabelledLaws.{AreAmong}
use Rattle.pi_label_laws.proofs.PostedLemmas.{without_constraints_may_be_labelled, postings_may_be_labelled}

abbrev pub bit : Variable
bit = within (record { lo = pos 0; hi = pos 1 } ∷ [])

abbrev pub begin : State
begin = record { variables = bit ∷ bit ∷ bit ∷ []; constraints = []; agents = []; waiting = [] }

abbrev goal : Tree
goal = two (codes "#=>") (two (codes "#/\\") (var 0) (var 1)) (var 2)

abbrev pub three : List Item
three = Item.Var 0 ∷ Item.Var 1 ∷ Item.Var 2 ∷ []

-- V - 1 <= 0 and -V <= 0, in front of others
abbrev truth : ℕ → List Constraint → List Constraint
truth v cs = at_most (term (pos 1) v ∷ []) (negsuc 0) ∷ at_most (term (negsuc 0) v ∷ []) (pos 0) ∷ cs

-- The truth of X #/\ Y is variable 3: it is at most X and at most Y, and X + Y - 1 is at most it. The truth of the whole is variable 4, and that is 1.
abbrev pub posted : Posting
posted = posts 2 (truth 0 (truth 1 (truth 3
    (at_most (term (negsuc 0) 0 ∷ term (pos 1) 3 ∷ []) (pos 0) ∷
    at_most (term (negsuc 0) 1 ∷ term (pos 1) 3 ∷ []) (pos 0) ∷
    at_most (term (pos 1) 0 ∷ term (pos 1) 1 ∷ term (negsuc 0) 3 ∷ []) (negsuc 0) ∷
    truth 2 (truth 4
    (at_most (term (negsuc 0) 3 ∷ term (negsuc 0) 4 ∷ []) (pos 1) ∷
    at_most (term (pos 1) 2 ∷ term (negsuc 0) 4 ∷ []) (pos 0) ∷
    at_most (term (negsuc 0) 2 ∷ term (pos 1) 3 ∷ term (pos 1) 4 ∷ []) (negsuc 0) ∷
    equal (term (pos 1) 4 ∷ []) (negsuc 0) ∷ []))))))

posting-is : posting_in begin goal ≡ Ok posted
unfolding operand_of operands_of operands_of_array operands_of_list comparison_named connective_named boolean_of goal_of with_term with_terms scaled_terms have_128_bits read_operand read_items read_relation read_truth are_narrow are_values first_refusal value rounds instance
posting-is = refl

bit-domain : IsDomain (record { lo = pos 0; hi = pos 1 } ∷ [])
unfolding AscendFrom
bit-domain = (omega (arith, ints), omega (arith, ints), omega (arith, ints), tt)

bit-good : IsVariable 3 bit
unfolding values_of numbers_from
bit-good = (bit-domain, omega arith)

some-bit : (v : Variable) → Some bit ≡ Some v → IsVariable 3 v
some-bit v e = subst (λ (o : Variable). IsVariable 3 o) (same v e) bit-good
  where
    same : (v : Variable) → Some bit ≡ Some v → bit ≡ v
    same v e = cc

variable-good : (n : ℕ) (v : Variable) → slice_get begin.variables n ≡ Some v → IsVariable 3 v
variable-good zero v e = some-bit v e
variable-good (suc zero) v e = some-bit v e
variable-good (suc (suc zero)) v e = some-bit v e
variable-good (suc (suc (suc n))) v e = absurd cc

none-bound : (n : ℕ) (u : Tree) → held (bindings begin) n ≡ Some u → ⊥
none-bound zero u e = cc
none-bound (suc zero) u e = cc
none-bound (suc (suc zero)) u e = cc
none-bound (suc (suc (suc n))) u e = cc

begin-state : IsState begin
begin-state = record {
  acyclic = record { rank = λ n. n; falls = λ n m u e o. absurd (none-bound n u e) };
  variables = variable-good;
  constraints = λ i c e. absurd cc;
  agents = λ i a e. absurd cc;
  waiting = λ i a e. absurd cc;
}

goal-below : SpeaksBelow 3 goal
unfolding Occurs
goal-below m (inl (inl e)) = omega (arith, e)
goal-below m (inl (inr (inl e))) = omega (arith, e)
goal-below m (inl (inr (inr e))) = absurd e
goal-below m (inr (inl e)) = omega (arith, e)
goal-below m (inr (inr e)) = absurd e

goal-value : value (bindings begin) goal ≡ goal
unfolding value rounds instance
goal-value = refl

at-three : (n : ℕ) → n < 3 → (x : Item) × Contains three x × (root_item begin x ≡ Item.Var n)
unfolding followed followed_for
at-three zero l = (Item.Var 0, (0, omega arith, refl), refl)
at-three (suc zero) l = (Item.Var 1, (1, omega arith, refl), refl)
at-three (suc (suc zero)) l = (Item.Var 2, (2, omega arith, refl), refl)
at-three (suc (suc (suc n))) l = absurd (omega arith)

among : AreAmong begin three goal
among n o = at-three n (goal-below n (subst (Occurs n) goal-value o))

-- whatever state is the stable one of what the goal leaves
pub implied-may-be-labelled : (r : State) → IsStable (posted_in begin posted) r → MayLabel r three
implied-may-be-labelled r f =
    postings_may_be_labelled begin r three goal posted (without_constraints_may_be_labelled begin three begin-state refl refl refl) goal-below among posting-is f
