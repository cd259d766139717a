-- Names that may be called where what stands is built, against those that the language gives: of these they are just what is built.
use Rattle.std.proofs.Common.{◌≡◌, ◌⊎◌, inl, inr, ℕ, Bool, true, false, List, [], ◌∷◌, refl, sym, subst}
use Rattle.std.proofs.lemmas.Bool.{false≢true, and_parts, or_left, eqb-true}
use Rattle.std.specs.Prelude.{not, codes, IsTrue, ◌==◌, ◌||◌}
use Rattle.std.specs.Str.{bytes_eq}
use Rattle.pi_constraints.proofs.MatchLemmas.{same_name}
use Rattle.pi_effects.specs.Rows.{has_line}
use Rattle.pi_effects.specs.Comparing.{comparing_tests}
use Rattle.pi_effects.specs.Kinds.{kind_tests}
use Rattle.pi_effects.specs.Texts.{writing_predicates}
use Rattle.pi_effects.specs.BuiltIns.{tests, other_predicates, is_predicate, is_function}
use Rattle.pi_syntax.specs.Tokens.{is_one_of}
use Rattle.pi_settling.specs.DomainValues.{is_domain_function}
use Rattle.pi_settling.specs.Goals.{constraint_goals, is_constraint_goal}
use Rattle.pi_settling.specs.SolveCalls.{solve_calls, is_solve}
use Rattle.pi_meaning.specs.Shared.Effects.{is_effect_name, is_built_name, is_value_name}
use Rattle.pi_meaning.specs.Shared.Names.{later_predicates, is_later_predicate, is_later_function, is_resource, is_call, is_planner, is_given_predicate, is_given_function}
use Rattle.pi_meaning.specs.CoreMeaning.Defined.{is_machine_predicate}
use Rattle.pi_syntax.specs.Names.{function_rows, predicate_rows, prelude_rows, kind_of}
use Rattle.pi_meaning.proofs.Shared.TableLemmas.{same-name, one-of, each-spelled, spellings-hold, each-signed, signatures-hold, body-holds, each-line, lines-hold}
use Rattle.pi_meaning.proofs.Shared.EffectNames.{effect-given, value-given}
use Rattle.pi_rewrite_sound.specs.Built.{is_own, is_prelude_kind, is_built_predicate, is_boolean_sign, is_built_function}

-- ---- predicates

-- `call`, or what is built as a call of a predicate
abbrev pub may_be_called : List ℕ → ℕ → Bool
may_be_called name k = is_call name k || is_built_predicate name k

-- it isn't a name of the program, nor one of the prelude's predicates
abbrev is_theirs : List ℕ → ℕ → Bool
is_theirs name k = not (is_own name k || is_prelude_kind (kind_of name k))

later-theirs : (name : List ℕ) (k : ℕ) → is_later_predicate name k ≡ true → is_theirs name k ≡ true
unfolding is_later_predicate later_predicates kind_of function_rows predicate_rows prelude_rows each-signed
later-theirs name k is = signatures-hold (λ n j. is_theirs n j) later_predicates refl name k is

-- of what is given, or what a program has, and may be called
pub predicate-there : (name : List ℕ) (k : ℕ) (known : Bool) → IsTrue (is_given_predicate name k || known) → may_be_called name k ≡ true → IsTrue known ⊎ IsTrue (is_machine_predicate name k)
predicate-there name k known there may =
    go (is_call name k) (is_predicate name k) (is_constraint_goal name k) (is_solve name k) (is_later_predicate name k) known (is_own name k || is_prelude_kind (kind_of name k)) (later-theirs name k) there may
  where
    go : (by_term table posts labels later known other : Bool) → (later ≡ true → not other ≡ true) → IsTrue ((by_term || (table || later)) || known) → (by_term || (((table || posts) || labels) || other)) ≡ true →
        IsTrue known ⊎ IsTrue (by_term || ((table || posts) || labels))
    go true table posts labels later known other theirs there may = inr refl
    go false true posts labels later known other theirs there may = inr refl
    go false false true labels later known other theirs there may = inr refl
    go false false false true later known other theirs there may = inr refl
    go false false false false true known true theirs there may = absurd (false≢true (theirs refl))
    go false false false false true known false theirs there may = absurd (false≢true may)
    go false false false false false known other theirs there may = inl there

-- ---- functions

-- it is none of the program's, and no sign of constraints
abbrev is_not_own : List ℕ → ℕ → Bool
is_not_own name k = not (is_own name k || is_boolean_sign name k)

resource-theirs : (name : List ℕ) (k : ℕ) → is_resource name k ≡ true → is_not_own name k ≡ true
unfolding kind_of function_rows predicate_rows prelude_rows
resource-theirs name k is =
    let parts : ((k == 0) ≡ true) × (bytes_eq name (codes "current_resource") ≡ true) = and_parts (k == 0) (bytes_eq name (codes "current_resource")) is in
    subst (λ (j : ℕ). is_not_own name j ≡ true) (sym (eqb-true k 0 parts.0)) (subst (λ (n : List ℕ). is_not_own n 0 ≡ true) (sym (same-name name (codes "current_resource") parts.1)) refl)

pub domain-theirs : (name : List ℕ) (k : ℕ) → is_later_function name k ≡ true → is_not_own name k ≡ true
unfolding is_later_function kind_of function_rows predicate_rows prelude_rows each-spelled
domain-theirs name k is =
    let spellings : List (List ℕ) = codes "fd_min" ∷ codes "fd_max" ∷ codes "fd_size" ∷ codes "fd_dom" ∷ [] in
    let parts : ((k == 1) ≡ true) × (is_one_of spellings name ≡ true) = and_parts (k == 1) (is_one_of spellings name) is in
    subst (λ (j : ℕ). is_not_own name j ≡ true) (sym (eqb-true k 1 parts.0)) (spellings-hold (λ n j. is_not_own n j) 1 spellings refl name parts.1)

pub function-there : (name : List ℕ) (k : ℕ) (known : Bool) → IsTrue (is_given_function name k || known) → is_built_function name k ≡ true → IsTrue known ⊎ IsTrue (is_value_name name k)
function-there name k known there may =
    go (is_function name k) (is_domain_function name k) (is_resource name k) (is_later_function name k) known (is_own name k || is_boolean_sign name k) (resource-theirs name k) (domain-theirs name k) there may
  where
    go : (table domain resource later known own : Bool) → (resource ≡ true → not own ≡ true) → (later ≡ true → not own ≡ true) → IsTrue ((table || (resource || later)) || known) → ((table || domain) || own) ≡ true →
        IsTrue known ⊎ IsTrue (table || domain)
    go true domain resource later known own one two there may = inr refl
    go false true resource later known own one two there may = inr refl
    go false false true later known true one two there may = absurd (false≢true (one refl))
    go false false true later known false one two there may = absurd (false≢true may)
    go false false false true known true one two there may = absurd (false≢true (two refl))
    go false false false true known false one two there may = absurd (false≢true may)
    go false false false false known own one two there may = inl there

-- ---- planner calls

-- each of their names, with so many arguments
abbrev OfPlanners : (List ℕ → ℕ → Bool) → Type 0
OfPlanners P =
    ((P (codes "plan") 2 ≡ true) × (P (codes "plan") 3 ≡ true) × (P (codes "plan") 4 ≡ true)) × ((P (codes "best_plan") 2 ≡ true) × (P (codes "best_plan") 3 ≡ true) × (P (codes "best_plan") 4 ≡ true))

planner-is : (P : List ℕ → ℕ → Bool) → OfPlanners P → (name : List ℕ) (k : ℕ) → is_planner name k ≡ true → P name k ≡ true
planner-is P all name k is =
    let parts = and_parts _ ((k == 2) || ((k == 3) || (k == 4))) is in
    one-of _ _ (P name k) (λ e. spelled (codes "plan") (same_name name (codes "plan") e) all.0 parts.1) (λ e. spelled (codes "best_plan") (same_name name (codes "best_plan") e) all.1 parts.1) parts.0
  where
    numbered : (n : List ℕ) → (P n 2 ≡ true) × (P n 3 ≡ true) × (P n 4 ≡ true) → ((k == 2) || ((k == 3) || (k == 4))) ≡ true → P n k ≡ true
    numbered n all found =
        one-of (k == 2) _ (P n k) (λ e. subst (λ (j : ℕ). P n j ≡ true) (sym (eqb-true k 2 e)) all.0)
        (one-of (k == 3) (k == 4) (P n k) (λ e. subst (λ (j : ℕ). P n j ≡ true) (sym (eqb-true k 3 e)) all.1) (λ e. subst (λ (j : ℕ). P n j ≡ true) (sym (eqb-true k 4 e)) all.2)) found

    spelled : (n : List ℕ) → name ≡ n → (P n 2 ≡ true) × (P n 3 ≡ true) × (P n 4 ≡ true) → ((k == 2) || ((k == 3) || (k == 4))) ≡ true → P name k ≡ true
    spelled n same all found = subst (λ (m : List ℕ). P m k ≡ true) (sym same) (numbered n all found)

abbrev no_machine : List ℕ → ℕ → Bool
no_machine name k = not (is_machine_predicate name k)

planners-not : OfPlanners no_machine
unfolding is_predicate constraint_goals solve_calls has_line tests comparing_tests kind_tests writing_predicates other_predicates
planners-not = ((refl, refl, refl), (refl, refl, refl))

planners-given : OfPlanners is_given_predicate
unfolding is_predicate has_line tests comparing_tests kind_tests writing_predicates other_predicates is_later_predicate later_predicates
planners-given = ((refl, refl, refl), (refl, refl, refl))

-- the machine has none, and the language gives them
pub no-planner : (name : List ℕ) (k : ℕ) → is_planner name k ≡ true → IsTrue (is_machine_predicate name k) → ⊥
no-planner name k is machine = refuted (is_machine_predicate name k) machine (planner-is no_machine planners-not name k is)
  where
    refuted : (b : Bool) → b ≡ true → not b ≡ true → ⊥
    refuted true is other = false≢true other
    refuted false is other = false≢true is

pub planner-given : (name : List ℕ) (k : ℕ) → is_planner name k ≡ true → is_given_predicate name k ≡ true
planner-given name k is = planner-is is_given_predicate planners-given name k is

-- ---- what the machine has is given

solve-later : (name : List ℕ) (k : ℕ) → is_solve name k ≡ true → is_later_predicate name k ≡ true
unfolding solve_calls each-line body-holds is_later_predicate later_predicates
solve-later name k is = lines-hold is_later_predicate solve_calls refl name k is

pub built-given : (name : List ℕ) (k : ℕ) → is_built_name name k ≡ true → (is_predicate name k || is_later_predicate name k) ≡ true
built-given name k is = one-of (is_effect_name name k) (is_solve name k) _ (effect-given name k) (λ labels. second (is_predicate name k) (is_later_predicate name k) (solve-later name k labels)) is
  where
    second : (a b : Bool) → b ≡ true → (a || b) ≡ true
    second true b h = refl
    second false b h = h

pub machine-given : (name : List ℕ) (k : ℕ) → IsTrue (is_machine_predicate name k) → IsTrue (is_given_predicate name k)
machine-given name k is = go (is_call name k) (is_built_name name k) (is_predicate name k || is_later_predicate name k) (built-given name k) is
  where
    go : (a b c : Bool) → (b ≡ true → c ≡ true) → IsTrue (a || b) → IsTrue (a || c)
    go true b c f h = refl
    go false b c f h = f h

pub table-given : (name : List ℕ) (k : ℕ) → IsTrue (is_value_name name k) → IsTrue (is_given_function name k)
table-given name k is = value-given name k is
