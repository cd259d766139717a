-- Calls of a text, of what their arguments do over slots and over names; arguments that stand in no list.
use Rattle.std.proofs.Common.{◌≡◌, ℕ, zero, suc, ◌<◌, Bool, true, false, cond, [], ◌∷◌, ◌++◌, List, refl, sym, ◌∙◌, ap, subst, arith}
use Rattle.std.specs.Prelude.{Option, Some, None, codes, ◌&&◌, ◌==◌}
use Rattle.std.specs.Str.{bytes_eq}
use Rattle.std.proofs.lemmas.Bool.{true≢false, and_parts, eqb-true}
use Rattle.pi_terms.specs.Tree.{comp, tree_count, trees_of}
use Rattle.pi_syntax.specs.ExpTree.{ExpTree, var, int, atom, str, list, list_onto, array, call, quote, range, range_by, and, or, arrow, if_then, if_else, foreach, while_do, do_while, ExpTrees, no_exps, exp}
use Rattle.pi_syntax.specs.Signature.{exp_count}
use Rattle.pi_core.specs.CoreTree.{PredTree}
use Rattle.pi_traces.specs.Trace.{one}
use Rattle.pi_meaning.specs.Shared.Level.{Level}
use Rattle.pi_meaning.specs.CoreMeaning.Builtins.{Builtins}
use Rattle.pi_meaning.specs.Shared.Given.{Setting}
use Rattle.pi_meaning.specs.OverNames.Texts.{Names, places, places_all, places_behind, places_caught, with_one, behind, variable_first}
use Rattle.pi_meaning.specs.OverNames.Control.{Value, Values, nothing, in_front, made_of, applied_to, all_found, all_counted, goal_at, value_at}
use Rattle.pi_meaning.specs.OverNames.Forms.{Form, negation, once, assignment, catch, by_term, membership, form_of, Parts, Reading, plain, operand, boolean, ranged, readings, first_reading, later_readings, operand_readings, is_find_all, is_count_all, function_value, range_value}
use Rattle.pi_meaning.specs.OverNames.Goals.{value_of, values_of, values_in, values_apart, goals_in, goal_of, arrow_in}
use Rattle.pi_meaning.proofs.OverNames.LoopNames.{AreNamed, behind-named}
use Rattle.pi_rewrite_spec.specs.Slots.{SlotNames}
use Rattle.pi_rewrite_spec.specs.Values.{stays, is_ranged, are_flat_as, is_flat_as, SlotValue, is_flat, are_flat, slot_terms, last_value, value_by_as, value_of_parts, no_values, applied}
use Rattle.pi_rewrite_spec.specs.Goals as slots
use Rattle.pi_rewrite_spec.specs.Goals.{SlotGoals, SlotParts}
use Rattle.pi_rewrite_spec.specs.Sites.{Site, helpers_in, helpers_in_all, behind_site, behind_exp, following_sites, goal_sites, value_sites}
use Rattle.pi_rewrite_spec.specs.Written as written
use Rattle.pi_rewrite_spec.specs.Written.{arguments_as, parts_as, made_as, last_one, pair_values, three_values, made, arguments, ahead}
use Rattle.pi_rewrite_spec.specs.Helpers.{helpers_at, goal_call_helpers, value_helpers, all_helpers, values_helpers, goals_helpers, goal_helpers}
use Rattle.pi_rewrite_spec.specs.Forms.{IsRead, AreRead, Knows, IsTerm, AreTerms, IsFunctionCall, IsNode, IsPredicateCall, IsExpressionAt, IsGoalAt, IsGoal, IsBranch}
use Rattle.pi_rewrite_spec.proofs.RunLemmas.{Alike, SameGoals, SameLast, SameFilled, SameArguments, SameParts}
use Rattle.pi_rewrite_spec.proofs.FlatLemmas.{both}
use Rattle.pi_rewrite_spec.proofs.ReadingLemmas.{structure-value, function-value, function-readings, third-of, own-of}
use Rattle.pi_rewrite_spec.proofs.FilledLemmas.{is_comp}
use Rattle.pi_rewrite_laws.proofs.FoundLemmas.{found-value, counted-value}
use Rattle.pi_rewrite_laws.proofs.FormCounts.{negates-one, takes-one, catches-three}
use Rattle.pi_rewrite_laws.proofs.ValueLemmas.{applied-value, no-arguments, flat_values, parts-value}
use Rattle.pi_rewrite_laws.proofs.FormLemmas.{first-flat, first-arguments}
use Rattle.pi_rewrite_laws.proofs.StandsLemmas.{Fixture, Here, slots_level, names_level, AlikeUpTo, alike-here, have-first, have-last, Stands}

-- ---- an expression without a call is a term

mutual
  unfolding IsRead is_flat_as IsTerm

  pub flat-term : (known : Knows) (r : Reading) (e : ExpTree) → IsRead known r e → is_flat_as r e ≡ true → IsTerm e
  flat-term known r (var name) is flat = tt
  flat-term known r (int n) is flat = tt
  flat-term known r (atom name) is flat = tt
  flat-term known r (str text) is flat = tt
  flat-term known r (list es) is flat = flat-terms known [] es is flat
  flat-term known r (list_onto es e) is flat = (flat-terms known [] es is.0 (both (are_flat es) (is_flat e) flat).0, flat-term known plain e is.1 (both (are_flat es) (is_flat e) flat).1)
  flat-term known r (array es) is flat = flat-terms known [] es is flat
  flat-term known r (quote e) is flat = is
  flat-term known r (call name es) is flat =
      let parts : (stays r name (exp_count es) ≡ true) × (are_flat_as (operand_readings r name (exp_count es)) es ≡ true) = both (stays r name (exp_count es)) (are_flat_as (operand_readings r name (exp_count es)) es) flat in
      flat-terms known (operand_readings r name (exp_count es)) es (own-of _ _ (stays r name (exp_count es)) parts.0 is) parts.1
  flat-term known r (range first last) is flat =
      let parts : (is_flat first ≡ true) × (is_flat last ≡ true) = both (is_flat first) (is_flat last) (both (is_ranged r) (is_flat first && is_flat last) flat).1 in
      (flat-term known plain first is.0 parts.0, flat-term known plain last is.1 parts.1)
  flat-term known r (range_by first step last) is flat =
      let parts : (is_flat first ≡ true) × (is_flat step && is_flat last ≡ true) = both (is_flat first) (is_flat step && is_flat last) (both (is_ranged r) (is_flat first && (is_flat step && is_flat last)) flat).1 in
      let more : (is_flat step ≡ true) × (is_flat last ≡ true) = both (is_flat step) (is_flat last) parts.1 in
      (flat-term known plain first is.0 parts.0, flat-term known plain step is.1 more.0, flat-term known plain last is.2 more.1)
  flat-term known r e is flat = absurd (true≢false (sym flat))

  pub flat-terms : (known : Knows) (rs : List Reading) (es : ExpTrees) → AreRead known rs es → are_flat_as rs es ≡ true → AreTerms es
  flat-terms known rs no_exps is flat = tt
  flat-terms known rs (exp e es) is flat =
      let parts : (is_flat_as (first_reading rs) e ≡ true) × (are_flat_as (later_readings rs) es ≡ true) = both (is_flat_as (first_reading rs) e) (are_flat_as (later_readings rs) es) flat in
      (flat-term known (first_reading rs) e is.0 parts.0, flat-terms known (later_readings rs) es is.1 parts.1)

-- ---- shapes

pub and-true : (b : Bool) → b && true ≡ b
and-true true = refl
and-true false = refl

-- a branch without an arrow is a goal
pub branch-goal : (known : Knows) (set : Setting) (before : Names) (e : ExpTree) → IsBranch known e → arrow_in set before e ≡ None → IsGoal known e
unfolding IsBranch IsGoal arrow_in
branch-goal known set before (arrow c e) is none = absurd cc
branch-goal known set before (atom name) is none = is
branch-goal known set before (call name es) is none = is
branch-goal known set before (and es) is none = is
branch-goal known set before (or es) is none = is
branch-goal known set before (if_then bs) is none = is
branch-goal known set before (if_else bs e) is none = is
branch-goal known set before (foreach es e) is none = is
branch-goal known set before (while_do c e) is none = is
branch-goal known set before (do_while e c) is none = is
branch-goal known set before e is none = absurd is

pub last-flat : (h : ℕ) (e : ExpTree) (f : SlotNames → SlotValue) → are_flat (exp e no_exps) ≡ true → (ms : SlotNames) → last_one e f ms ≡ flat_values (slot_terms (exp e no_exps) ms)
unfolding are_flat_as slot_terms
last-flat h e f flat ms = first-flat h [] e no_exps flat f no_values (λ ks. refl) ms

pub last-arguments : (known : Knows) (set : Setting) (b : Builtins) (l m : Level) (h : ℕ) → Alike known set b l m → (before : Names) (e : ExpTree) → (is_flat e ≡ true → IsTerm e) → (f : SlotNames → SlotValue) →
    (is_flat e ≡ false → SameFilled b l m h (value_of set plain before e) f) → SameArguments b l m h (in_front (value_of set plain before e) nothing) (last_one e f)
unfolding are_flat_as IsTerm value_of slot_terms
last-arguments known set b l m h alike before e is f one = first-arguments known set b l m h alike plain [] before e no_exps is (λ flat. tt) f no_values (λ flat ms. refl) one (no-arguments b l m h)

-- two and three arguments that stand in no list

pub pair-arguments : (known : Knows) (set : Setting) (b : Builtins) (l m : Level) (h : ℕ) → Alike known set b l m → (before : Names) (e i : ExpTree) → (is_flat e ≡ true → IsTerm e) → (is_flat i ≡ true → IsTerm i) → (f g : SlotNames → SlotValue) →
    (is_flat e ≡ false → SameFilled b l m h (value_of set plain before e) f) → (is_flat i ≡ false → SameFilled b l m h (value_of set plain (behind before (places e)) i) g) →
    SameArguments b l m h (in_front (value_of set plain before e) (in_front (value_of set plain (behind before (places e)) i) nothing)) (pair_values h (ahead e f (is_flat i)) i g)
unfolding are_flat_as IsTerm value_of
pair-arguments known set b l m h alike before e i is is' f g one two =
    subst (λ (test : Bool). SameArguments b l m h (in_front (value_of set plain before e) (in_front (value_of set plain (behind before (places e)) i) nothing)) (pair_values h (ahead e f test) i g)) (and-true (is_flat i))
    (first-arguments known set b l m h alike plain [] before e (exp i no_exps) is (λ flat. (is' (both (is_flat i) true flat).0, tt)) f (last_one i g) (last-flat h i g) one (last-arguments known set b l m h alike (behind before (places e)) i is' g two))

pub behind-behind : (before xs ys : Names) → behind (behind before xs) ys ≡ behind before (xs ++ ys)
unfolding behind
behind-behind before [] ys = refl
behind-behind before (x ∷ xs) ys = behind-behind (with_one before x) xs ys

pub pair-flat : (h : ℕ) (e i : ExpTree) (f g : SlotNames → SlotValue) → are_flat (exp e (exp i no_exps)) ≡ true → (ms : SlotNames) → pair_values h (ahead e f (is_flat i)) i g ms ≡ flat_values (slot_terms (exp e (exp i no_exps)) ms)
unfolding are_flat_as
pair-flat h e i f g flat ms =
    sym (ap (λ (test : Bool). pair_values h (ahead e f test) i g ms) (and-true (is_flat i))) ∙ first-flat h [] e (exp i no_exps) flat f (last_one i g) (last-flat h i g (both (is_flat e) (is_flat i && true) flat).1) ms

pub three-arguments : (known : Knows) (set : Setting) (b : Builtins) (l m : Level) (h : ℕ) → Alike known set b l m → (before : Names) (first step last : ExpTree) → (is_flat first ≡ true → IsTerm first) → (is_flat step ≡ true → IsTerm step) → (is_flat last ≡ true → IsTerm last) →
    (f g k : SlotNames → SlotValue) → (is_flat first ≡ false → SameFilled b l m h (value_of set plain before first) f) → (is_flat step ≡ false → SameFilled b l m h (value_of set plain (behind before (places first)) step) g) →
    (is_flat last ≡ false → SameFilled b l m h (value_of set plain (behind before (places first ++ places step)) last) k) →
    SameArguments b l m h (in_front (value_of set plain before first) (in_front (value_of set plain (behind before (places first)) step) (in_front (value_of set plain (behind before (places first ++ places step)) last) nothing)))
    (three_values h (ahead first f (is_flat step && is_flat last)) (ahead step g (is_flat last)) last k)
unfolding are_flat_as IsTerm value_of
three-arguments known set b l m h alike before first step last is is' is'' f g k one two three =
    subst (λ (test : Bool). SameArguments b l m h (in_front (value_of set plain before first) (in_front (value_of set plain (behind before (places first)) step) (in_front (value_of set plain (behind before (places first ++ places step)) last) nothing)))
    (three_values h (ahead first f (is_flat step && test)) (ahead step g (is_flat last)) last k)) (and-true (is_flat last))
    (subst (λ (ns : Names). SameArguments b l m h (in_front (value_of set plain before first) (in_front (value_of set plain (behind before (places first)) step) (in_front (value_of set plain ns last) nothing)))
    (three_values h (ahead first f (is_flat step && (is_flat last && true))) (ahead step g (is_flat last)) last k)) (behind-behind before (places first) (places step))
    (first-arguments known set b l m h alike plain [] before first (exp step (exp last no_exps)) is (λ flat. (is' (both (is_flat step) (is_flat last && true) flat).0, (is'' (both (is_flat last) true (both (is_flat step) (is_flat last && true) flat).1).0, tt))) f (pair_values h (ahead step g (is_flat last)) last k)
    (pair-flat h step last g k) one
    (pair-arguments known set b l m h alike (behind before (places first)) step last is' is'' g k two three-there)))
  where
    three-there : is_flat last ≡ false → SameFilled b l m h (value_of set plain (behind (behind before (places first)) (places step)) last) k
    three-there flat = subst (λ (ns : Names). SameFilled b l m h (value_of set plain ns last) k) (sym (behind-behind before (places first) (places step))) (three flat)

-- ---- arguments of a text

pub flat-arguments : (s : Site) (rs : List Reading) (es : ExpTrees) → are_flat_as rs es ≡ true → (ns : SlotNames) → arguments_as s rs es ns ≡ flat_values (slot_terms es ns)
unfolding arguments_as are_flat_as slot_terms
flat-arguments s rs no_exps flat ns = refl
flat-arguments s rs (exp e es) flat ns =
    first-flat s.filled rs e es flat (made_as s (first_reading rs) e) (arguments_as (behind_exp s e) (later_readings rs) es)
    (λ ms. flat-arguments (behind_exp s e) (later_readings rs) es (both (is_flat_as (first_reading rs) e) (are_flat_as (later_readings rs) es) flat).1 ms) ns

-- how many they are
pub arguments-count : (s : Site) (rs : List Reading) (es : ExpTrees) (ns : SlotNames) → tree_count (trees_of (arguments_as s rs es ns).trees) ≡ exp_count es
unfolding arguments_as exp_count tree_count
arguments-count s rs no_exps ns = refl
arguments-count s rs (exp e es) ns =
    ap suc (arguments-count (behind_exp s e) (later_readings rs) es (value_by_as (first_reading rs) (are_flat_as (later_readings rs) es) s.filled e ns (made_as s (first_reading rs) e ns)).names)

-- ---- calls, of what their arguments do

-- more arguments than so many
pub too-many : (n j : ℕ) → n < j → (j == n) ≡ true → ⊥
too-many n j more same = omega (arith, more, eqb-true j n same)

-- one argument, by its number
unfoldable pub exp_at : ExpTrees → ℕ → ExpTree
exp_at no_exps i = atom []
exp_at (exp e es) zero = e
exp_at (exp e es) (suc i) = exp_at es i

abbrev pub GoalAt : (c : Fixture) → Here c → Site → ExpTrees → ℕ → Type 0
GoalAt c w s es i = IsGoalAt c.known es i → Stands c w s (helpers_in (exp_at es i)) (goal_helpers s (exp_at es i)) →
    SameGoals c.builtins (slots_level c w) (names_level c w) s.filled (goal_of c.set.calls s.before (exp_at es i)) (written.goal_of s (exp_at es i))

abbrev pub LastAt : (c : Fixture) → Here c → Site → ExpTrees → ℕ → Type 0
LastAt c w s es i = IsExpressionAt c.known es i → Stands c w s (helpers_in (exp_at es i)) (value_helpers s (exp_at es i)) →
    SameLast c.builtins (slots_level c w) (names_level c w) s.filled (value_of c.set.calls plain s.before (exp_at es i)) (λ ns. last_value (exp_at es i) ns (made s (exp_at es i) ns))

abbrev pub ArgumentsAt : (c : Fixture) → Here c → Site → List Reading → ExpTrees → Type 0
ArgumentsAt c w s rs es = AreRead c.known rs es → Stands c w s (helpers_in_all es) (all_helpers s es) → SameArguments c.builtins (slots_level c w) (names_level c w) s.filled (values_of c.set.calls rs s.before es) (arguments_as s rs es)

abbrev pub PartsAt : (c : Fixture) → Here c → Site → List Reading → ExpTrees → Type 0
PartsAt c w s rs es = AreRead c.known rs es → Stands c w s (helpers_in_all es) (all_helpers s es) → SameParts c.builtins (slots_level c w) (names_level c w) s.filled (values_of c.set.calls rs s.before es) (parts_as s rs es)

-- the parts of a call as an expression, over names and over slots
abbrev pub call_names : Setting → Names → List Reading → ExpTrees → Parts
call_names set before rs es = record {
  variable = variable_first es;
  goals = goals_in set before es;
  values = values_in set before es;
  late = values_apart set (behind before (places_behind es)) es;
  all = values_of set rs before es;
}

abbrev pub call_slots : Site → List ℕ → ExpTrees → SlotParts
call_slots s name es = record {
  variable = variable_first es;
  goals = written.goals_in (value_sites (is_find_all name (exp_count es)) s es) es;
  values = written.values_in (value_sites (is_find_all name (exp_count es)) s es) es;
  all = arguments s es;
}

-- a call as an expression
pub function-same : (c : Fixture) (each : AlikeUpTo c) (w : Here c) (s : Site) (name : List ℕ) (es : ExpTrees) → ((t : Site) (i : ℕ) → GoalAt c w t es i) → ((t : Site) (i : ℕ) → LastAt c w t es i) → ArgumentsAt c w s [] es → (find count : Bool) → is_find_all name (exp_count es) ≡ find →
    IsFunctionCall c.known find count name (exp_count es) (AreRead c.known [] es) (IsExpressionAt c.known es) (IsGoalAt c.known es) →
    Stands c w s (helpers_in_all es) (cond find (helpers_at (goals_helpers (value_sites find s es) es) 1 ++ helpers_at (values_helpers (value_sites find s es) es) 0) (cond count (helpers_at (goals_helpers (value_sites find s es) es) 0) (all_helpers s es))) →
    SameFilled c.builtins (slots_level c w) (names_level c w) s.filled (cond find (all_found (value_at (values_apart c.set.calls (behind s.before (places_behind es)) es) 0) (goal_at (goals_in c.set.calls s.before es) 1))
    (cond count (all_counted (goal_at (goals_in c.set.calls s.before es) 0)) (applied_to c.set.calls name (values_of c.set.calls [] s.before es))))
    (λ ns. cond find (slots.found_by (slots.goals_at (written.goals_in (value_sites find s es) es) 1 ns) (slots.value_at (written.values_in (value_sites find s es) es) 0))
    (cond count (slots.all_counted (slots.goals_at (written.goals_in (value_sites find s es) es) 0 ns)) (applied name (arguments s es ns))))
unfolding value_of made_as is_flat_as IsRead IsGoal goal_at value_at slots.goals_at slots.value_at helpers_in value_helpers goal_helpers helpers_at following_sites places_caught behind exp_count exp_at
function-same c each w s name no_exps goals lasts args true count find is st = absurd is.0
function-same c each w s name (exp e no_exps) goals lasts args true count find is st = absurd is.1
function-same c each w s name (exp e (exp g no_exps)) goals lasts args true count find is st =
    let t : Site = behind_site s (places e) 0 in
    let u : Site = behind_site s (places_all (exp g no_exps)) (helpers_in g) in
    found-value c.known c.set.calls c.builtins (slots_level c w) (names_level c w) s.filled (goal_of c.set.calls t.before g) (value_of c.set.calls plain u.before e) (written.goal_of t g) (λ ns. last_value e ns (made u e ns)) (alike-here c each w)
    (goals t 1 is.1 (record { named = behind-named s.before (places e) st.named; few = omega (arith, st.few); fits = omega (arith, st.fits); has = have-first c (goal_helpers t g) (value_helpers u e) st.has }))
    (lasts u 0 is.0 (record { named = behind-named s.before (places_all (exp g no_exps)) st.named; few = omega (arith, st.few); fits = omega (arith, st.fits); has = have-last c (goal_helpers t g) (value_helpers u e) st.has }))
function-same c each w s name (exp e (exp g (exp x es))) goals lasts args true count find is st = absurd (too-many 2 (suc (suc (suc (exp_count es)))) (omega arith) (and_parts (suc (suc (suc (exp_count es))) == 2) (bytes_eq name (codes "find_all")) find).0)
function-same c each w s name no_exps goals lasts args false true find is st = absurd is
function-same c each w s name (exp e es) goals lasts args false true find is st =
    counted-value c.known c.set.calls c.builtins (slots_level c w) (names_level c w) s.filled (goal_of c.set.calls s.before e) (written.goal_of s e) (alike-here c each w)
    (goals s 0 is (record { named = st.named; few = omega (arith, st.few); fits = omega (arith, st.fits); has = st.has }))
function-same c each w s name es goals lasts args false false find is st =
    applied-value c.known c.set.calls c.builtins (slots_level c w) (names_level c w) s.filled name (exp_count es) (values_of c.set.calls [] s.before es) (arguments s es) (alike-here c each w) (args is.0 st) (arguments-count s [] es) is.1

-- a call that may stay as a structure
pub node-same : (c : Fixture) (each : AlikeUpTo c) (w : Here c) (s : Site) (r : Reading) (name : List ℕ) (es : ExpTrees) → ((t : Site) (i : ℕ) → GoalAt c w t es i) → ((t : Site) (i : ℕ) → LastAt c w t es i) → ArgumentsAt c w s [] es →
    PartsAt c w s (operand_readings r name (exp_count es)) es → (test : Bool) → stays r name (exp_count es) ≡ test →
    IsNode test (AreRead c.known (operand_readings r name (exp_count es)) es)
    (IsFunctionCall c.known (is_find_all name (exp_count es)) (is_count_all name (exp_count es)) name (exp_count es) (AreRead c.known [] es) (IsExpressionAt c.known es) (IsGoalAt c.known es)) →
    Stands c w s (helpers_in_all es) (value_helpers s (call name es)) → SameFilled c.builtins (slots_level c w) (names_level c w) s.filled (value_of c.set.calls r s.before (call name es)) (made_as s r (call name es))
unfolding value_of made_as value_helpers
node-same c each w s r name es goals lasts args parts true stay is st =
    subst (λ (v : Value). SameFilled c.builtins (slots_level c w) (names_level c w) s.filled v (made_as s r (call name es))) (sym (structure-value c.set.calls r name (exp_count es) _ stay))
    (subst (λ (test : Bool). SameFilled c.builtins (slots_level c w) (names_level c w) s.filled (made_of (comp name) (values_of c.set.calls (operand_readings r name (exp_count es)) s.before es))
    (λ ns. cond test (value_of_parts (comp name) (parts_as s (operand_readings r name (exp_count es)) es ns)) (slots.call_value name (exp_count es) (call_slots s name es) ns))) (sym stay)
    (parts-value c.builtins (slots_level c w) (names_level c w) s.filled (comp name) (values_of c.set.calls (operand_readings r name (exp_count es)) s.before es) (parts_as s (operand_readings r name (exp_count es)) es) (λ f ts us fs. is_comp name fs)
    (parts is (subst (λ (ps : List PredTree). Stands c w s (helpers_in_all es) ps) (third-of r name (exp_count es) stay _ _ (all_helpers s es)) st))))
node-same c each w s r name es goals lasts args parts false stay is st =
    subst (λ (v : Value). SameFilled c.builtins (slots_level c w) (names_level c w) s.filled v (made_as s r (call name es))) (sym (function-value c.set.calls r name (exp_count es) _ stay))
    (subst (λ (test : Bool). SameFilled c.builtins (slots_level c w) (names_level c w) s.filled (function_value c.set.calls name (exp_count es) (call_names c.set.calls s.before (operand_readings r name (exp_count es)) es))
    (λ ns. cond test (value_of_parts (comp name) (parts_as s (operand_readings r name (exp_count es)) es ns)) (slots.call_value name (exp_count es) (call_slots s name es) ns))) (sym stay)
    (subst (λ (rs : List Reading). SameFilled c.builtins (slots_level c w) (names_level c w) s.filled (function_value c.set.calls name (exp_count es) (call_names c.set.calls s.before rs es)) (slots.call_value name (exp_count es) (call_slots s name es)))
    (sym (function-readings r name (exp_count es) stay)) (function-same c each w s name es goals lasts args (is_find_all name (exp_count es)) (is_count_all name (exp_count es)) refl is st)))

-- a range, which may stay as one
pub range-by : (set : Setting) (b : Builtins) (l m : Level) (h : ℕ) (r : Reading) (vs : Values) (stay applied : SlotNames → SlotValue) → SameFilled b l m h (made_of (comp (codes "..")) vs) stay → SameFilled b l m h (applied_to set (codes "..") vs) applied →
    SameFilled b l m h (range_value set r vs) (λ ns. cond (is_ranged r) (stay ns) (applied ns))
unfolding range_value
range-by set b l m h plain vs stay applied one two = two
range-by set b l m h operand vs stay applied one two = two
range-by set b l m h boolean vs stay applied one two = two
range-by set b l m h ranged vs stay applied one two = one

-- a call as a goal
pub call-parts : (c : Fixture) (each : AlikeUpTo c) (w : Here c) (s : Site) (name : List ℕ) (es : ExpTrees) → ((t : Site) (i : ℕ) → GoalAt c w t es i) → ((t : Site) (i : ℕ) → LastAt c w t es i) → ArgumentsAt c w s (readings name (exp_count es)) es → (form : Option Form) → form_of name (exp_count es) ≡ form →
    IsPredicateCall c.known form name (exp_count es) (AreRead c.known (readings name (exp_count es)) es) (IsExpressionAt c.known es) (IsGoalAt c.known es) →
    Stands c w s (helpers_in_all es) (goal_call_helpers form (record { goals = goals_helpers (goal_sites form s es) es; values = values_helpers (goal_sites form s es) es; all = all_helpers s es })) →
    IsPredicateCall c.known form name (exp_count es) (SameArguments c.builtins (slots_level c w) (names_level c w) s.filled (values_of c.set.calls (readings name (exp_count es)) s.before es) (arguments_as s (readings name (exp_count es)) es))
    (λ i. SameLast c.builtins (slots_level c w) (names_level c w) s.filled (value_at (values_in c.set.calls s.before es) i) (slots.value_at (written.values_in (goal_sites form s es) es) i))
    (λ i. SameGoals c.builtins (slots_level c w) (names_level c w) s.filled (goal_at (goals_in c.set.calls (behind s.before (places_caught name es)) es) i) (slots.goals_at (written.goals_in (goal_sites form s es) es) i))
unfolding value_of made_as is_flat_as IsRead IsGoal goal_at value_at slots.goals_at slots.value_at helpers_in value_helpers goal_helpers helpers_at following_sites places_caught behind exp_count exp_at
call-parts c each w s name es goals lasts args None form is st = (args is.0 st, is.1)
call-parts c each w s name es goals lasts args (Some by_term) form is st = args is st
call-parts c each w s name no_exps goals lasts args (Some negation) form is st = absurd is
call-parts c each w s name (exp e no_exps) goals lasts args (Some negation) form is st =
    goals s 0 is (record { named = st.named; few = omega (arith, st.few); fits = omega (arith, st.fits); has = st.has })
call-parts c each w s name (exp e (exp x es)) goals lasts args (Some negation) form is st = absurd (too-many 1 (suc (suc (exp_count es))) (omega arith) (negates-one name (exp_count (exp e (exp x es))) form))
call-parts c each w s name no_exps goals lasts args (Some once) form is st = absurd is
call-parts c each w s name (exp e no_exps) goals lasts args (Some once) form is st =
    goals s 0 is (record { named = st.named; few = omega (arith, st.few); fits = omega (arith, st.fits); has = st.has })
call-parts c each w s name (exp e (exp x es)) goals lasts args (Some once) form is st = absurd (too-many 1 (suc (suc (exp_count es))) (omega arith) (takes-one name (exp_count (exp e (exp x es))) form))
call-parts c each w s name no_exps goals lasts args (Some assignment) form is st = absurd is
call-parts c each w s name (exp x no_exps) goals lasts args (Some assignment) form is st = absurd is
call-parts c each w s name (exp x (exp e es)) goals lasts args (Some assignment) form is st =
    let t : Site = behind_exp s x in
    lasts t 1 is (record { named = behind-named s.before (places x) st.named; few = omega (arith, st.few); fits = omega (arith, st.fits); has = st.has })
call-parts c each w s name no_exps goals lasts args (Some catch) form is st = absurd is.0
call-parts c each w s name (exp g no_exps) goals lasts args (Some catch) form is st = absurd is.1
call-parts c each w s name (exp g (exp ball no_exps)) goals lasts args (Some catch) form is st = absurd is.2
call-parts c each w s name (exp g (exp ball (exp handler (exp x es)))) goals lasts args (Some catch) form is st = absurd (too-many 3 (suc (suc (suc (suc (exp_count es))))) (omega arith) (and_parts (suc (suc (suc (suc (exp_count es)))) == 3) (bytes_eq name (codes "catch")) (catches-three name (exp_count (exp g (exp ball (exp handler (exp x es))))) form)).0)
call-parts c each w s name (exp g (exp ball (exp handler no_exps))) goals lasts args (Some catch) form is st =
    let t : Site = behind_site s (places ball) (helpers_in ball) in
    let u : Site = behind_site s (places g) 0 in
    let v : Site = behind_site (behind_site t (places g) (helpers_in g)) (places ball) 0 in
    let named : AreNamed t.before = behind-named s.before (places ball) st.named in
    let caught : true ≡ bytes_eq name (codes "catch") = sym (catches-three name 3 form) in (
      subst (λ (test : Bool). SameGoals c.builtins (slots_level c w) (names_level c w) s.filled (goal_of c.set.calls (behind s.before (cond test (places ball) [])) g) (written.goal_of t g)) caught
          (goals t 0 is.0 (record {
            named = named;
            few = omega (arith, st.few);
            fits = omega (arith, st.fits);
            has = have-first c (goal_helpers t g) (goal_helpers v handler) (have-last c (value_helpers u ball) (goal_helpers t g ++ goal_helpers v handler) st.has);
          })),
      lasts u 1 is.1 (record { named = behind-named s.before (places g) st.named; few = omega (arith, st.few); fits = omega (arith, st.fits); has = have-first c (value_helpers u ball) (goal_helpers t g ++ goal_helpers v handler) st.has }),
      subst (λ (test : Bool). SameGoals c.builtins (slots_level c w) (names_level c w) s.filled (goal_of c.set.calls (behind (behind (behind s.before (cond test (places ball) [])) (places g)) (places ball)) handler) (written.goal_of v handler)) caught
          (goals v 2 is.2 (record {
            named = behind-named (behind t.before (places g)) (places ball) (behind-named t.before (places g) named);
            few = omega (arith, st.few);
            fits = omega (arith, st.fits);
            has = have-last c (goal_helpers t g) (goal_helpers v handler) (have-last c (value_helpers u ball) (goal_helpers t g ++ goal_helpers v handler) st.has);
          })),
    )
call-parts c each w s name es goals lasts args (Some membership) form is st = absurd is
