-- Expressions and calls by what they are made of: by themselves, as arguments, by their forms.
use Rattle.std.proofs.Common.{◌≡◌, ℕ, Bool, true, false, cond, List, [], ◌∷◌, length, refl, sym, ◌∙◌, ap, subst}
use Rattle.std.specs.Prelude.{Option, Some, None, ◌||◌, IsTrue}
use Rattle.std.proofs.lemmas.Bool.{false≢true}
use Rattle.pi_terms.specs.Tree.{trees_of, tree_count}
use Rattle.pi_effects.specs.Indexing.{index_name}
use Rattle.pi_syntax.specs.ExpTree.{ExpTree, ExpTrees, no_exps, exp}
use Rattle.pi_core.specs.GoalTree.{GoalTree}
use Rattle.pi_traces.specs.Trace.{done, one}
use Rattle.pi_meaning.specs.Shared.Level.{Level}
use Rattle.pi_meaning.specs.CoreMeaning.Builtins.{Builtins}
use Rattle.pi_meaning.specs.Shared.Given.{Setting}
use Rattle.pi_meaning.specs.Shared.Names.{is_catch, is_call, is_given_function}
use Rattle.pi_meaning.specs.OverNames.Texts.{Names, places, behind}
use Rattle.pi_meaning.specs.OverNames.Terms.{written_terms}
use Rattle.pi_meaning.specs.OverNames.Control.{Goal, Value, Values, nothing, in_front, applied_to, called_with, goal_at, value_at}
use Rattle.pi_meaning.specs.OverNames.Forms.{Form, negation, once, assignment, catch, by_term, membership, form_of, Reading, first_reading, later_readings, readings, call_goal, indexed_by}
use Rattle.pi_meaning.specs.OverNames.Goals.{value_of, values_of}
use Rattle.pi_rewrite_spec.specs.Slots.{SlotNames}
use Rattle.pi_rewrite_spec.specs.Values.{SlotValue, SlotValues, slot_term, slot_terms, is_flat_as, are_flat_as, as_it_stands, last_value_as, value_before_as, value_by_as, filled_before, no_values, before_values, applied}
use Rattle.pi_rewrite_spec.specs.Goals as slots
use Rattle.pi_rewrite_spec.specs.Goals.{SlotGoals, SlotParts}
use Rattle.pi_rewrite_spec.specs.Forms.{Knows, IsTerm, AreTerms, IsPredicateCall, IsAtomGoal}
use Rattle.pi_rewrite_spec.proofs.RunLemmas.{Alike, SameGoals, SameLast, SameFilled, SameArguments, filled-last}
use Rattle.pi_rewrite_spec.proofs.ControlLemmas.{true-goals, fail-goals, denied-goals, once-goals, caught-goals}
use Rattle.pi_rewrite_spec.proofs.BuiltInLemmas.{item-given}
use Rattle.pi_rewrite_spec.proofs.FlatLemmas.{both, flat-values}
use Rattle.pi_rewrite_spec.proofs.TouchLemmas.{flat-last, flat-filled}
use Rattle.pi_rewrite_laws.proofs.ValueLemmas.{called-goals, terms-goals, applied-value, no-arguments, front-arguments, flat_values, last-arguments}
use Rattle.pi_rewrite_laws.proofs.AssignLemmas.{assigned-goals}

-- ---- an expression by itself, of what it comes to where it has a call

pub before-value : (known : Knows) (set : Setting) (b : Builtins) (l m : Level) (h : ℕ) → Alike known set b l m → (r : Reading) (before : Names) (e : ExpTree) → (is_flat_as r e ≡ true → IsTerm e) → (mk : SlotNames → SlotValue) →
    (is_flat_as r e ≡ false → SameFilled b l m h (value_of set r before e) mk) → SameFilled b l m h (value_of set r before e) (λ ns. value_before_as r h e ns (mk ns))
before-value known set b l m h alike r before e is mk other = go (is_flat_as r e) refl
  where
    go : (test : Bool) → is_flat_as r e ≡ test → SameFilled b l m h (value_of set r before e) (λ ns. value_before_as r h e ns (mk ns))
    go true flat =
        subst (λ (test : Bool). SameFilled b l m h (value_of set r before e) (λ ns. cond test (filled_before h (length ns) (slot_term e ns)) (mk ns))) (sym flat)
        (flat-filled known set b l m h r before e alike (is flat) flat)
    go false flat =
        subst (λ (test : Bool). SameFilled b l m h (value_of set r before e) (λ ns. cond test (filled_before h (length ns) (slot_term e ns)) (mk ns))) (sym flat) (other flat)

pub last-value : (known : Knows) (set : Setting) (b : Builtins) (l m : Level) (h : ℕ) (r : Reading) (before : Names) (e : ExpTree) → (is_flat_as r e ≡ true → IsTerm e) → (mk : SlotNames → SlotValue) →
    (is_flat_as r e ≡ false → SameFilled b l m h (value_of set r before e) mk) → SameLast b l m h (value_of set r before e) (λ ns. last_value_as r e ns (mk ns))
last-value known set b l m h r before e is mk other = go (is_flat_as r e) refl
  where
    go : (test : Bool) → is_flat_as r e ≡ test → SameLast b l m h (value_of set r before e) (λ ns. last_value_as r e ns (mk ns))
    go true flat =
        subst (λ (test : Bool). SameLast b l m h (value_of set r before e) (λ ns. cond test (as_it_stands (slot_term e ns)) (mk ns))) (sym flat)
        (flat-last set b l m h r before e (is flat) flat)
    go false flat =
        subst (λ (test : Bool). SameLast b l m h (value_of set r before e) (λ ns. cond test (as_it_stands (slot_term e ns)) (mk ns))) (sym flat)
        (filled-last b l m h (value_of set r before e) mk (other flat))

-- ---- arguments

-- those without a call, of which one stands first
pub first-flat : (h : ℕ) (rs : List Reading) (e : ExpTree) (es : ExpTrees) → are_flat_as rs (exp e es) ≡ true → (mk : SlotNames → SlotValue) (args : SlotNames → SlotValues) → ((ms : SlotNames) → args ms ≡ flat_values (slot_terms es ms)) →
    (ns : SlotNames) → before_values (value_by_as (first_reading rs) (are_flat_as (later_readings rs) es) h e ns (mk ns)) (args (value_by_as (first_reading rs) (are_flat_as (later_readings rs) es) h e ns (mk ns)).names)
    ≡ flat_values (slot_terms (exp e es) ns)
unfolding are_flat_as slot_terms
first-flat h rs e es flat mk args rest ns =
    let are : (is_flat_as (first_reading rs) e ≡ true) × (are_flat_as (later_readings rs) es ≡ true) = both (is_flat_as (first_reading rs) e) (are_flat_as (later_readings rs) es) flat in
    ap (λ (v : SlotValue). before_values v (args v.names)) (first are.0 are.1)
    ∙ ap (before_values (as_it_stands (slot_term e ns))) (rest (slot_term e ns).names)
  where
    first : is_flat_as (first_reading rs) e ≡ true → are_flat_as (later_readings rs) es ≡ true → value_by_as (first_reading rs) (are_flat_as (later_readings rs) es) h e ns (mk ns) ≡ as_it_stands (slot_term e ns)
    first one all = ap (λ (c : Bool). value_by_as (first_reading rs) c h e ns (mk ns)) all ∙ ap (λ (c : Bool). cond c (as_it_stands (slot_term e ns)) (mk ns)) one

pub first-arguments : (known : Knows) (set : Setting) (b : Builtins) (l m : Level) (h : ℕ) → Alike known set b l m → (r : Reading) (rs : List Reading) (before : Names) (e : ExpTree) (es : ExpTrees) → (is_flat_as r e ≡ true → IsTerm e) →
    (are_flat_as rs es ≡ true → AreTerms es) → (mk : SlotNames → SlotValue) (args : SlotNames → SlotValues) → (are_flat_as rs es ≡ true → (ms : SlotNames) → args ms ≡ flat_values (slot_terms es ms)) →
    (is_flat_as r e ≡ false → SameFilled b l m h (value_of set r before e) mk) → SameArguments b l m h (values_of set rs (behind before (places e)) es) args →
    SameArguments b l m h (in_front (value_of set r before e) (values_of set rs (behind before (places e)) es)) (λ ns. before_values (value_by_as r (are_flat_as rs es) h e ns (mk ns)) (args (value_by_as r (are_flat_as rs es) h e ns (mk ns)).names))
first-arguments known set b l m h alike r rs before e es is are mk args flats other rest = go (are_flat_as rs es) refl
  where
    vs : Values
    vs = values_of set rs (behind before (places e)) es

    go : (test : Bool) → are_flat_as rs es ≡ test →
        SameArguments b l m h (in_front (value_of set r before e) (values_of set rs (behind before (places e)) es)) (λ ns. before_values (value_by_as r (are_flat_as rs es) h e ns (mk ns)) (args (value_by_as r (are_flat_as rs es) h e ns (mk ns)).names))
    go true flat =
        subst (λ (test : Bool). SameArguments b l m h (in_front (value_of set r before e) vs) (λ ns. before_values (value_by_as r test h e ns (mk ns)) (args (value_by_as r test h e ns (mk ns)).names))) (sym flat)
        (subst (λ (f : SlotNames → SlotValues). SameArguments b l m h (in_front (value_of set r before e) vs) (λ ns. before_values (last_value_as r e ns (mk ns)) (f (last_value_as r e ns (mk ns)).names)))
        (λ i ns. sym (flats flat ns) i)
        (last-arguments b l m h (value_of set r before e) vs (λ ns. last_value_as r e ns (mk ns)) es (last-value known set b l m h r before e is mk other) (are flat)
        (λ p. flat-values set rs (behind before (places e)) es flat m p)))
    go false flat =
        subst (λ (test : Bool). SameArguments b l m h (in_front (value_of set r before e) vs) (λ ns. before_values (value_by_as r test h e ns (mk ns)) (args (value_by_as r test h e ns (mk ns)).names))) (sym flat)
        (front-arguments b l m h (value_of set r before e) vs (λ ns. value_before_as r h e ns (mk ns)) args (before-value known set b l m h alike r before e is mk other) rest)

-- arguments that stand in no list: a function's that is written otherwise
pub other-arguments : (known : Knows) (set : Setting) (b : Builtins) (l m : Level) (h : ℕ) (name : List ℕ) (k : ℕ) (vs : Values) (lvs : SlotNames → SlotValues) → Alike known set b l m → SameArguments b l m h vs lvs →
    ((ns : SlotNames) → tree_count (trees_of (lvs ns).trees) ≡ k) → IsTrue (is_given_function name k) → SameFilled b l m h (applied_to set name vs) (λ ns. applied name (lvs ns))
other-arguments known set b l m h name k vs lvs alike are count is = applied-value known set b l m h name k vs lvs alike are count (first (is_given_function name k) (known.function name k) is)
  where
    first : (a c : Bool) → IsTrue a → IsTrue (a || c)
    first true c is = refl
    first false c is = absurd (false≢true is)

-- ---- calls

-- what the parts of a call are over names and over slots
pub record SameCallParts (b : Builtins) (l m : Level) (h : ℕ) (goal value : ℕ → Type 0) (gs : List Goal) (vs : List Value) (lgs : List (SlotNames → SlotGoals)) (lvs : List (SlotNames → SlotValue)) : Type 0 where
  pub goals : (i : ℕ) → goal i → SameGoals b l m h (goal_at gs i) (slots.goals_at lgs i)
  pub values : (i : ℕ) → value i → SameLast b l m h (value_at vs i) (slots.value_at lvs i)

-- which form a call is says whether it is one of a term
form-none : (a b c d e f : Bool) →
    cond a (Some negation) (cond b (Some once) (cond c (Some assignment) (cond d (Some catch) (cond e (Some by_term) (cond f (Some membership) None))))) ≡ None → e ≡ false
form-none true b c d e f is = absurd cc
form-none false true c d e f is = absurd cc
form-none false false true d e f is = absurd cc
form-none false false false true e f is = absurd cc
form-none false false false false true f is = absurd cc
form-none false false false false false f is = refl

form-term : (a b c d e f : Bool) →
    cond a (Some negation) (cond b (Some once) (cond c (Some assignment) (cond d (Some catch) (cond e (Some by_term) (cond f (Some membership) None))))) ≡ Some by_term → e ≡ true
form-term true b c d e f is = absurd cc
form-term false true c d e f is = absurd cc
form-term false false true d e f is = absurd cc
form-term false false false true e f is = absurd cc
form-term false false false false true f is = refl
form-term false false false false false true is = absurd cc
form-term false false false false false false is = absurd cc

pub no-term : (name : List ℕ) (k : ℕ) → form_of name k ≡ None → is_call name k ≡ false
unfolding form_of
no-term name k is = form-none _ _ _ (is_catch name k) (is_call name k) _ is

pub a-term : (name : List ℕ) (k : ℕ) → form_of name k ≡ Some by_term → is_call name k ≡ true
unfolding form_of
a-term name k is = form-term _ _ _ (is_catch name k) (is_call name k) _ is

pub call-goals : (known : Knows) (set : Setting) (b : Builtins) (l m : Level) (h : ℕ) → Alike known set b l m → (name : List ℕ) (k : ℕ) (form : Option Form) → form_of name k ≡ form → (exps : Type 0) (value goal : ℕ → Type 0) →
    IsPredicateCall known form name k exps value goal → (before : Names) (es : ExpTrees) (variable : Option (List ℕ)) (gs : List Goal) (vs late : List Value) (lgs : List (SlotNames → SlotGoals)) (lvs : List (SlotNames → SlotValue)) (lall : SlotNames → SlotValues) →
    SameCallParts b l m h goal value gs vs lgs lvs → (exps → SameArguments b l m h (values_of set (readings name k) before es) lall) → ((ns : SlotNames) → tree_count (trees_of (lall ns).trees) ≡ k) →
    SameGoals b l m h (call_goal set name form (record { variable = variable; goals = gs; values = vs; late = late; all = values_of set (readings name k) before es }))
    (slots.call_goals name form (record { variable = variable; goals = lgs; values = lvs; all = lall }))
call-goals known set b l m h alike name k None form exps value goal is before es variable gs vs late lgs lvs lall same args long =
    called-goals known set b l m h name k (values_of set (readings name k) before es) lall alike (args is.0) long (no-term name k form) is.1
call-goals known set b l m h alike name k (Some negation) form exps value goal is before es variable gs vs late lgs lvs lall same args long =
    denied-goals known set b l m h (goal_at gs 0) (slots.goals_at lgs 0) alike (same.goals 0 is)
call-goals known set b l m h alike name k (Some once) form exps value goal is before es variable gs vs late lgs lvs lall same args long =
    once-goals known set b l m h (goal_at gs 0) (slots.goals_at lgs 0) alike (same.goals 0 is)
call-goals known set b l m h alike name k (Some assignment) form exps value goal is before es variable gs vs late lgs lvs lall same args long =
    assigned-goals known set b l m h variable (value_at vs 1) (slots.value_at lvs 1) alike (same.values 1 is)
call-goals known set b l m h alike name k (Some catch) form exps value goal is before es variable gs vs late lgs lvs lall same args long =
    caught-goals known set b l m h (goal_at gs 0) (value_at vs 1) (goal_at gs 2) (slots.goals_at lgs 0) (slots.goals_at lgs 2) (slots.value_at lvs 1) alike (same.goals 0 is.0) (same.values 1 is.1) (same.goals 2 is.2)
call-goals known set b l m h alike name k (Some by_term) form exps value goal is before es variable gs vs late lgs lvs lall same args long =
    terms-goals known set b l m h name k (values_of set (readings name k) before es) lall alike (args is) long (a-term name k form)
call-goals known set b l m h alike name k (Some membership) form exps value goal is before es variable gs vs late lgs lvs lall same args long = absurd is

pub atom-goals : (known : Knows) (set : Setting) (b : Builtins) (l m : Level) (h : ℕ) → Alike known set b l m → (name : List ℕ) (is_true is_fail : Bool) → IsAtomGoal known is_true is_fail name →
    SameGoals b l m h (λ k p. cond is_true (one p) (cond is_fail done (called_with set name nothing k p))) (λ ns. slots.just (cond is_true GoalTree.truth (cond is_fail GoalTree.fail (GoalTree.call name []))) ns)
unfolding tree_count
atom-goals known set b l m h alike name true is_fail is = true-goals b l m h alike.core_drains
atom-goals known set b l m h alike name false true is = fail-goals b l m h alike.core_drains
atom-goals known set b l m h alike name false false is = called-goals known set b l m h name 0 nothing no_values alike (no-arguments b l m h) (λ ns. refl) refl is

-- ---- indexes and ranges

-- expressions of a list, each by itself
pub data AllLast (b : Builtins) (l m : Level) (h : ℕ) : List Value → List (SlotNames → SlotValue) → Type 0 where
  none_last : AllLast b l m h [] []
  one_last : (v : Value) (vs : List Value) (lv : SlotNames → SlotValue) (lvs : List (SlotNames → SlotValue)) → SameLast b l m h v lv → AllLast b l m h vs lvs → AllLast b l m h (v ∷ vs) (lv ∷ lvs)

pub single : (b : Builtins) (l m : Level) (h : ℕ) (v : Value) (lv : SlotNames → SlotValue) → SameLast b l m h v lv → SameArguments b l m h (in_front v nothing) (λ ns. before_values (lv ns) (no_values (lv ns).names))
unfolding slot_terms written_terms IsTerm
single b l m h v lv is = last-arguments b l m h v nothing lv no_exps is tt (λ p. refl)

-- one more index
pub indexed-more : (known : Knows) (set : Setting) (b : Builtins) (l m : Level) (h : ℕ) → Alike known set b l m → (vs : List Value) (lvs : List (SlotNames → SlotValue)) → AllLast b l m h vs lvs → (v : Value) (lv : SlotNames → SlotValue) →
    SameFilled b l m h v lv → SameFilled b l m h (indexed_by set v vs) (λ ns. slots.indexed_by (lv ns) lvs)
unfolding indexed_by slots.indexed_by tree_count
indexed-more known set b l m h alike _ _ none_last v lv is = is
indexed-more known set b l m h alike _ _ (one_last i is li lis last rest) v lv filled =
    indexed-more known set b l m h alike is lis rest (applied_to set index_name (in_front v (in_front i nothing))) (λ ns. slots.indexed (lv ns) li)
    (other-arguments known set b l m h index_name 2 (in_front v (in_front i nothing)) (λ ns. before_values (lv ns) (before_values (li (lv ns).names) (no_values (li (lv ns).names).names))) alike
    (front-arguments b l m h v (in_front i nothing) lv (λ ns. before_values (li ns) (no_values (li ns).names)) filled (single b l m h i li last)) (λ ns. refl) item-given)
