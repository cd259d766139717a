-- `call` and planner calls are no names of the tables of built-ins; the slots of a goal by name.
use Rattle.std.proofs.Common.{◌≡◌, ◌⊎◌, inl, inr, ℕ, zero, suc, ◌==◌, ◌&&◌, ◌||◌, Bool, true, false, List, length, refl, ap, sym, ◌∙◌}
use Rattle.std.specs.Prelude.{codes, nat_le}
use Rattle.std.specs.Str.{bytes_eq}
use Rattle.std.specs.Ordering.{is_eq}
use Rattle.std.proofs.lemmas.Slice.Eq.{bytes_eq-Decides}
use Rattle.std.proofs.lemmas.Bool.{and_parts, or_cases}
use Rattle.pi_terms.specs.Order.{name_order}
use Rattle.pi_constraints.proofs.MatchLemmas.{same_name}
use Rattle.pi_effects.specs.BuiltIns.{is_predicate, tests, other_predicates}
use Rattle.pi_effects.specs.Comparing.{comparing_tests}
use Rattle.pi_effects.specs.Kinds.{kind_tests}
use Rattle.pi_effects.specs.Texts.{writing_predicates}
use Rattle.pi_effects.specs.Rows.{has_line}
use Rattle.pi_meaning.specs.Shared.Names.{is_planner, is_call, is_catch}
use Rattle.pi_meaning.specs.Machine.NamedGoals.{slots_from}

pub call-name : (name : List ℕ) (k : ℕ) → is_call name k ≡ true → name ≡ codes "call"
call-name name k is = (bytes_eq-Decides name (codes "call")).0 (and_parts (nat_le 1 k && nat_le k 8) (bytes_eq name (codes "call")) is).1

call-alone : (k : ℕ) → is_predicate (codes "call") k ≡ false
unfolding is_predicate tests comparing_tests kind_tests writing_predicates other_predicates has_line
call-alone k = refl

plan-alone : (k : ℕ) → is_predicate (codes "plan") k ≡ false
unfolding is_predicate tests comparing_tests kind_tests writing_predicates other_predicates has_line
plan-alone k = refl

best-plan-alone : (k : ℕ) → is_predicate (codes "best_plan") k ≡ false
unfolding is_predicate tests comparing_tests kind_tests writing_predicates other_predicates has_line
best-plan-alone k = refl

pub call-no_predicate : (name : List ℕ) (k : ℕ) → is_call name k ≡ true → is_predicate name k ≡ false
call-no_predicate name k is = ap (λ n. is_predicate n k) (call-name name k is) ∙ call-alone k

-- what the tables have isn't `call`
pub predicate-no_call : (name : List ℕ) (k : ℕ) → is_predicate name k ≡ true → is_call name k ≡ false
predicate-no_call name k is = tested (is_call name k) refl
  where
    tested : (b : Bool) → is_call name k ≡ b → b ≡ false
    tested false e = refl
    tested true e = sym is ∙ call-no_predicate name k e

pub planner-no_predicate : (name : List ℕ) (k : ℕ) → is_planner name k ≡ true → is_predicate name k ≡ false
planner-no_predicate name k is =
    named (or_cases (is_eq (name_order name (codes "plan"))) (is_eq (name_order name (codes "best_plan")))
    (and_parts (is_eq (name_order name (codes "plan")) || is_eq (name_order name (codes "best_plan"))) ((k == 2) || ((k == 3) || (k == 4))) is).0)
  where
    named : (is_eq (name_order name (codes "plan")) ≡ true) ⊎ (is_eq (name_order name (codes "best_plan")) ≡ true) → is_predicate name k ≡ false
    named (inl plan) = ap (λ n. is_predicate n k) (same_name name (codes "plan") plan) ∙ plan-alone k
    named (inr best) = ap (λ n. is_predicate n k) (same_name name (codes "best_plan") best) ∙ best-plan-alone k

pub slots-count : (i k : ℕ) → length (slots_from i k) ≡ k
unfolding slots_from
slots-count i zero = refl
slots-count i (suc k) = ap suc (slots-count (suc i) k)

and-false : (b : Bool) → (b && false) ≡ false
and-false true = refl
and-false false = refl

-- planner calls are neither `catch` nor `call`
pub planner-others : (name : List ℕ) (k : ℕ) → is_planner name k ≡ true → (is_catch name k ≡ false) × (is_call name k ≡ false)
planner-others name k is =
    named (or_cases (is_eq (name_order name (codes "plan"))) (is_eq (name_order name (codes "best_plan")))
    (and_parts (is_eq (name_order name (codes "plan")) || is_eq (name_order name (codes "best_plan"))) ((k == 2) || ((k == 3) || (k == 4))) is).0)
  where
    named : (is_eq (name_order name (codes "plan")) ≡ true) ⊎ (is_eq (name_order name (codes "best_plan")) ≡ true) → (is_catch name k ≡ false) × (is_call name k ≡ false)
    named (inl plan) =
        let same : name ≡ codes "plan" = same_name name (codes "plan") plan in
        (ap (λ n. is_catch n k) same ∙ and-false (k == 3), ap (λ n. is_call n k) same ∙ and-false (nat_le 1 k && nat_le k 8))
    named (inr best) =
        let same : name ≡ codes "best_plan" = same_name name (codes "best_plan") best in
        (ap (λ n. is_catch n k) same ∙ and-false (k == 3), ap (λ n. is_call n k) same ∙ and-false (nat_le 1 k && nat_le k 8))
