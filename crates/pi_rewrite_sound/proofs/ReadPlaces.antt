-- Where the arguments of calls stand by how they are read: between the signs of constraints where they are read as Boolean expressions, and elsewhere as expressions.
use Rattle.std.proofs.Common.{◌≡◌, ◌⊎◌, inl, inr, ℕ, suc, Bool, true, false, not, cond, List, [], ◌∷◌, refl, ap, sym, ◌∙◌, subst, arith}
use Rattle.std.specs.Prelude.{◌==◌, ◌&&◌, ◌||◌, codes, ⊤}
use Rattle.std.specs.Str.{bytes_eq}
use Rattle.std.proofs.lemmas.Bool.{false≢true, and_parts, or_cases, not-true, eqb-true}
use Rattle.pi_effects.specs.BuiltIns.{is_predicate}
use Rattle.pi_settling.specs.Goals.{constraint_goals, is_constraint_goal}
use Rattle.pi_settling.specs.SolveCalls.{is_solve}
use Rattle.pi_syntax.specs.ExpTree.{ExpTree, ExpTrees, no_exps, exp}
use Rattle.pi_syntax.specs.Names.{kind_of}
use Rattle.pi_syntax.specs.Signature.{exp_count}
use Rattle.pi_meaning.specs.Shared.Effects.{is_effect_name, is_built_name}
use Rattle.pi_meaning.specs.OverNames.Forms.{Reading, plain, operand, boolean, ranged, is_constraint, is_connective, is_within, readings, first_reading, later_readings, operand_readings, is_operand_node, is_sum}
use Rattle.pi_meaning.proofs.Shared.TableLemmas.{Test, one-of, each-spelled, each-below, body-holds, each-line, lines-hold}
use Rattle.pi_prog_clauses.specs.Operators.{is_goal_sign, is_membership, is_reified}
use Rattle.pi_prog_clauses.specs.Places.{Place, goal, asked, expression, iterator, term, pattern, called}
use Rattle.pi_rewrite_spec.specs.Values.{stays}
use Rattle.pi_rewrite_sound.specs.Built.{is_own, is_prelude_kind, is_built_predicate}
use Rattle.pi_rewrite_sound.proofs.CallPlaces.{plain-place}
use Rattle.pi_rewrite_sound.proofs.PlainNames.{has_places, no-readings, are_plain, is_plain, listed, spelled, predicate-plain, solve-plain, prelude-plain, own-plain}

-- ---- each argument

abbrev pub place_read : Reading → Place
place_read plain = expression
place_read operand = expression
place_read boolean = Place.operand
place_read ranged = expression

-- from this argument on each stands where it is read so
abbrev pub Fit : List ℕ → ℕ → ℕ → List Reading → ExpTrees → Type 0
Fit name k from rs no_exps = ⊤
Fit name k from rs (exp e es) = (called name k from ≡ place_read (first_reading rs)) × Fit name k (suc from) (later_readings rs) es

abbrev is_expression : Reading → Bool
is_expression plain = true
is_expression operand = true
is_expression boolean = false
is_expression ranged = true

-- none of them is Boolean
abbrev are_expressions : List Reading → Bool
are_expressions [] = true
are_expressions (r ∷ rs) = is_expression r && are_expressions rs

expression-read : (r : Reading) → is_expression r ≡ true → place_read r ≡ expression
expression-read plain h = refl
expression-read operand h = refl
expression-read boolean h = absurd cc
expression-read ranged h = refl

fit-expressions : (name : List ℕ) (k : ℕ) → ((i : ℕ) → called name k i ≡ expression) → (rs : List Reading) → are_expressions rs ≡ true → (from : ℕ) (es : ExpTrees) → Fit name k from rs es
fit-expressions name k is rs h from no_exps = tt
fit-expressions name k is [] h from (exp e es) = (is from, fit-expressions name k is [] refl (suc from) es)
fit-expressions name k is (r ∷ rs) h from (exp e es) =
    let parts = and_parts (is_expression r) (are_expressions rs) h in (is from ∙ sym (expression-read r parts.0), fit-expressions name k is rs parts.1 (suc from) es)

-- ---- signs between constraints

abbrev is_operand_place : Place → Bool
is_operand_place (goal assigns) = false
is_operand_place asked = false
is_operand_place expression = false
is_operand_place Place.operand = true
is_operand_place iterator = false
is_operand_place term = false
is_operand_place (pattern quoted) = false

operand-placed : (p : Place) → is_operand_place p ≡ true → p ≡ Place.operand
operand-placed (goal assigns) h = absurd cc
operand-placed asked h = absurd cc
operand-placed expression h = absurd cc
operand-placed Place.operand h = refl
operand-placed iterator h = absurd cc
operand-placed term h = absurd cc
operand-placed (pattern quoted) h = absurd cc

connective-place : (name : List ℕ) (k i : ℕ) → is_connective name k ≡ true → called name k i ≡ Place.operand
unfolding each-spelled is_goal_sign is_membership is_reified
connective-place name k i h =
    let P : Test = λ n j. is_operand_place (called n j i) in
    operand-placed (called name k i) (one-of (k == 1 && bytes_eq name (codes "#~")) _ (P name k) (λ e. spelled P name (codes "#~") k 1 e refl)
    (listed P k 2 (codes "#/\\" ∷ codes "#\\/" ∷ codes "#^" ∷ codes "#=>" ∷ codes "#<=>" ∷ []) refl name) h)

-- it has two operands at most
few-operands : (name : List ℕ) (k : ℕ) → is_connective name k ≡ true → (k ≡ 1) ⊎ (k ≡ 2)
few-operands name k h = elim (or_cases (k == 1 && bytes_eq name (codes "#~")) _ h) [
  | inl one ↦ inl (eqb-true k 1 (and_parts (k == 1) _ one).0)
  | inr two ↦ inr (eqb-true k 2 (and_parts (k == 2) _ two).0)
]

abbrev pub booleans : List Reading
booleans = boolean ∷ boolean ∷ []

fit-connective : (name : List ℕ) (es : ExpTrees) → is_connective name (exp_count es) ≡ true → Fit name (exp_count es) 0 booleans es
unfolding exp_count
fit-connective name no_exps h = tt
fit-connective name (exp e no_exps) h = (connective-place name 1 0 h, tt)
fit-connective name (exp e (exp d no_exps)) h = (connective-place name 2 0 h, (connective-place name 2 1 h, tt))
fit-connective name (exp e (exp d (exp c es))) h = absurd (elim (few-operands name (suc (suc (suc (exp_count es)))) h) [
  | inl one ↦ let n : suc (suc (suc (exp_count es))) ≡ 1 = one in omega arith
  | inr two ↦ let n : suc (suc (suc (exp_count es))) ≡ 2 = two in omega arith
])

-- ---- calls that stand as goals

abbrev are_two_booleans : List Reading → Bool
are_two_booleans (boolean ∷ (boolean ∷ [])) = true
are_two_booleans rs = false

two-booleans : (rs : List Reading) → are_two_booleans rs ≡ true → rs ≡ booleans
two-booleans [] h = absurd cc
two-booleans (plain ∷ rs) h = absurd cc
two-booleans (operand ∷ rs) h = absurd cc
two-booleans (ranged ∷ rs) h = absurd cc
two-booleans (boolean ∷ []) h = absurd cc
two-booleans (boolean ∷ (plain ∷ rs)) h = absurd cc
two-booleans (boolean ∷ (operand ∷ rs)) h = absurd cc
two-booleans (boolean ∷ (ranged ∷ rs)) h = absurd cc
two-booleans (boolean ∷ (boolean ∷ [])) h = refl
two-booleans (boolean ∷ (boolean ∷ (r ∷ rs))) h = absurd cc

connective-readings : (name : List ℕ) (k : ℕ) → is_connective name k ≡ true → readings name k ≡ booleans
unfolding each-spelled readings
connective-readings name k h =
    let P : Test = λ n j. are_two_booleans (readings n j) in
    two-booleans (readings name k) (one-of (k == 1 && bytes_eq name (codes "#~")) _ (P name k) (λ e. spelled P name (codes "#~") k 1 e refl)
    (listed P k 2 (codes "#/\\" ∷ codes "#\\/" ∷ codes "#^" ∷ codes "#=>" ∷ codes "#<=>" ∷ []) refl name) h)

-- all arguments are expressions, however each is read
abbrev reads_expressions : Test
reads_expressions name k = not (has_places name k) && are_expressions (readings name k)

abbrev connects_or_reads : Test
connects_or_reads name k = is_connective name k || reads_expressions name k

goal-reads : (name : List ℕ) (k : ℕ) → is_constraint_goal name k ≡ true → connects_or_reads name k ≡ true
unfolding constraint_goals each-line body-holds readings is_goal_sign is_membership is_reified
goal-reads name k is = lines-hold (λ n j. connects_or_reads n j) constraint_goals refl name k is

plain-reads : (name : List ℕ) (k : ℕ) → is_plain name k ≡ true → connects_or_reads name k ≡ true
plain-reads name k h = go (is_connective name k) (not (has_places name k)) (readings name k) h
  where
    go : (a b : Bool) (rs : List Reading) → (b && are_plain rs) ≡ true → (a || (b && are_expressions rs)) ≡ true
    go true b rs h = refl
    go false true [] h = refl
    go false true (r ∷ rs) h = absurd cc
    go false false rs h = absurd cc

built-reads : (name : List ℕ) (k : ℕ) → is_built_predicate name k ≡ true → connects_or_reads name k ≡ true
built-reads name k built =
    one-of (is_built_name name k) _ (connects_or_reads name k)
    (one-of (is_effect_name name k) (is_solve name k) (connects_or_reads name k)
    (one-of (is_predicate name k) (is_constraint_goal name k) (connects_or_reads name k) (λ h. plain-reads name k (predicate-plain name k h)) (goal-reads name k))
    (λ h. plain-reads name k (solve-plain name k h)))
    (one-of (is_own name k) (is_prelude_kind (kind_of name k)) (connects_or_reads name k) (λ h. plain-reads name k (own-plain name k h)) (λ h. plain-reads name k (prelude-plain name k h))) built

fit-plain : (name : List ℕ) (k : ℕ) → has_places name k ≡ false → (rs : List Reading) → are_expressions rs ≡ true → (es : ExpTrees) → Fit name k 0 rs es
fit-plain name k none rs h es = fit-expressions name k (λ i. plain-place name k i none) rs h 0 es

pub fit-goal : (name : List ℕ) (es : ExpTrees) → is_built_predicate name (exp_count es) ≡ true → Fit name (exp_count es) 0 (readings name (exp_count es)) es
fit-goal name es built = elim (or_cases (is_connective name k) (reads_expressions name k) (built-reads name k built)) [
  | inl connects ↦ subst (λ rs. Fit name k 0 rs es) (sym (connective-readings name k connects)) (fit-connective name es connects)
  | inr reads ↦ let parts = and_parts (not (has_places name k)) (are_expressions (readings name k)) reads in fit-plain name k (not-true (has_places name k) parts.0) (readings name k) parts.1 es
]
  where
    k : ℕ
    k = exp_count es

-- ---- nodes that stay as structure

abbrev node_expressions : Reading → Test
node_expressions r name k = not (has_places name k) && are_expressions (operand_readings r name k)

operand-node : (name : List ℕ) (k : ℕ) → stays operand name k ≡ true → node_expressions operand name k ≡ true
unfolding each-spelled operand_readings is_goal_sign is_membership is_reified
operand-node name k h =
    let P : Test = λ n j. node_expressions operand n j in
    one-of (is_operand_node name k) (is_sum name k) (P name k)
    (one-of (k == 1 && _) (k == 2 && _) (P name k) (listed P k 1 (codes "+" ∷ codes "-" ∷ codes "abs" ∷ []) refl name) (listed P k 2 (codes "+" ∷ codes "-" ∷ codes "*" ∷ []) refl name))
    (λ e. spelled P name (codes "sum") k 1 e refl) h

relation-node : (name : List ℕ) (k : ℕ) → is_constraint name k ≡ true → node_expressions boolean name k ≡ true
unfolding each-spelled operand_readings is_goal_sign is_membership is_reified
relation-node name k h = listed (λ n j. node_expressions boolean n j) k 2 (codes "#=" ∷ codes "#!=" ∷ codes "#<" ∷ codes "#=<" ∷ codes "#<=" ∷ codes "#>" ∷ codes "#>=" ∷ []) refl name h

fit-by : (r : Reading) (name : List ℕ) (es : ExpTrees) → node_expressions r name (exp_count es) ≡ true → Fit name (exp_count es) 0 (operand_readings r name (exp_count es)) es
fit-by r name es h =
    let parts = and_parts (not (has_places name (exp_count es))) (are_expressions (operand_readings r name (exp_count es))) h in
    fit-plain name (exp_count es) (not-true (has_places name (exp_count es)) parts.0) (operand_readings r name (exp_count es)) parts.1 es

pub fit-node : (r : Reading) (name : List ℕ) (es : ExpTrees) → stays r name (exp_count es) ≡ true → Fit name (exp_count es) 0 (operand_readings r name (exp_count es)) es
unfolding operand_readings
fit-node plain name es h = absurd (false≢true h)
fit-node ranged name es h = absurd (false≢true h)
fit-node operand name es h = fit-by operand name es (operand-node name (exp_count es) h)
fit-node boolean name es h = elim (or_cases (is_connective name (exp_count es)) (is_constraint name (exp_count es)) h) [
  | inl connects ↦
      subst (λ rs. Fit name (exp_count es) 0 rs es) (sym (ap (λ b. cond b booleans (cond (is_constraint name (exp_count es)) (operand ∷ operand ∷ []) [])) connects)) (fit-connective name es connects)
  | inr relates ↦ fit-by boolean name es (relation-node name (exp_count es) relates)
]
