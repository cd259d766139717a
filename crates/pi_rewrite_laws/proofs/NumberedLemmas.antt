-- The helpers of a text are as many as are counted, and have their names in order.
use Rattle.std.proofs.Common.{◌≡◌, ℕ, zero, suc, ◌+◌, Bool, true, false, cond, List, [], ◌∷◌, ◌++◌, length, refl, sym, ◌∙◌, ap, subst, arith, length-append}
use Rattle.std.specs.Prelude.{Option, Some, None, codes, ◌==◌, ⊤}
use Rattle.std.specs.Str.{bytes_eq}
use Rattle.std.proofs.lemmas.Bool.{and_parts}
use Rattle.pi_syntax.specs.ExpTree.{ExpTree, var, int, atom, str, list, list_onto, array, call, quote, index, range, range_by, at, collect, and, or, arrow, if_then, if_else, foreach, while_do, do_while, ExpTrees, no_exps, exp, ExpBranches, no_branches, branch}
use Rattle.pi_syntax.specs.Signature.{exp_count}
use Rattle.pi_core.specs.CoreTree.{PredTree}
use Rattle.pi_meaning.specs.OverNames.Texts.{Names, places, places_all, places_of_branches, iterated, begins_with_iterator, assigned, kept_names}
use Rattle.pi_meaning.specs.OverNames.Loops.{hidden}
use Rattle.pi_meaning.specs.OverNames.Forms.{Form, negation, once, assignment, catch, by_term, membership, form_of, Reading, plain, readings, first_reading, later_readings, operand_readings, is_find_all, is_count_all}
use Rattle.pi_rewrite_spec.specs.Slots.{SlotNames}
use Rattle.pi_rewrite_spec.specs.Values.{stays, last_value}
use Rattle.pi_rewrite_spec.specs.Goals.{SlotGoals}
use Rattle.pi_rewrite_spec.specs.Forms.{IsRead, AreRead, Knows, IsPattern, ArePatterns, IsFunctionCall, IsNode, IsPredicateCall, IsUnit, IsAssigned, IsExpressionAt, IsGoalAt, IsGoal, AreGoals, AreBranches, IsBranch, HaveGoals, AreUnits, IsCollection}
use Rattle.pi_rewrite_spec.specs.Sites.{Site, iterator_helpers, helpers_in, helpers_in_all, helpers_in_branches, helpers_in_units, behind_site, behind_exp, goal_sites, value_sites, following_sites}
use Rattle.pi_rewrite_spec.specs.Loops.{Ending, as_it_is, in_order, Loop, while_helper, do_helper, only_turn_helper}
use Rattle.pi_rewrite_spec.specs.Comprehensions.{adding}
use Rattle.pi_rewrite_spec.specs.Written.{Inner, while_loop, do_loop, turns_of, inner_of, gathering, gathered_at, start_loop, iterator_loop, turn_name, is_range, elements_of, made, goal_of, units}
use Rattle.pi_rewrite_spec.specs.Helpers.{own_helpers, helpers_at, goal_call_helpers, iterated_helpers, unit_helpers, started_helpers, value_helpers, all_helpers, values_helpers, goals_helpers, goal_helpers, conjunct_helpers, branch_helpers, units_helpers, collection_helpers, iterator_text}
use Rattle.pi_rewrite_spec.specs.Programs.{Naming}
use Rattle.pi_rewrite_spec.proofs.ReadingLemmas.{third-of}
use Rattle.pi_rewrite_laws.proofs.FormCounts.{negates-one, takes-one, catches-three}
use Rattle.pi_rewrite_laws.proofs.TextCalls.{exp_at, too-many}

-- ---- names in order

pub record IsHelper (called : Naming) (n : ℕ) (p : PredTree) : Type 0 where
  pub name : p.name ≡ called n
  pub kind : p.function ≡ false
  pub quiet : p.quiet ≡ true
  pub index : p.index ≡ None

unfoldable pub NamedFrom : Naming → ℕ → List PredTree → Type 0
NamedFrom called n [] = ⊤
NamedFrom called n (p ∷ ps) = IsHelper called n p × NamedFrom called (suc n) ps

named-append : (called : Naming) (n k : ℕ) (ps qs : List PredTree) → k ≡ n + length ps → NamedFrom called n ps → NamedFrom called k qs → NamedFrom called n (ps ++ qs)
unfolding NamedFrom
named-append called n k [] qs is first last = subst (λ (j : ℕ). NamedFrom called j qs) (omega (arith, is)) last
named-append called n k (p ∷ ps) qs is first last = (first.0, named-append called (suc n) k ps qs (omega (arith, is)) first.1 last)

-- so many of them
pub record Numbered (called : Naming) (n k : ℕ) (ps : List PredTree) : Type 0 where
  pub long : length ps ≡ k
  pub each : NamedFrom called n ps

pub none-numbered : (called : Naming) (n : ℕ) → Numbered called n 0 []
unfolding NamedFrom
none-numbered called n = record { long = refl; each = tt }

one-numbered : (called : Naming) (n m : ℕ) (p : PredTree) → m ≡ n → IsHelper called m p → Numbered called n 1 (p ∷ [])
unfolding NamedFrom
one-numbered called n m p is own = record { long = refl; each = (subst (λ (j : ℕ). IsHelper called j p) is own, tt) }

pub both-numbered : (called : Naming) (n j m k i : ℕ) (ps qs : List PredTree) → m ≡ n + j → i ≡ j + k → Numbered called n j ps → Numbered called m k qs → Numbered called n i (ps ++ qs)
both-numbered called n j m k i ps qs start sum a b = record { long = length-append ps qs ∙ omega (arith, a.long, b.long, sum); each = named-append called n m ps qs (omega (arith, start, a.long)) a.each b.each }

again-numbered : (called : Naming) (n k i : ℕ) (ps : List PredTree) → i ≡ k → Numbered called n k ps → Numbered called n i ps
again-numbered called n k i ps is a = record { long = omega (arith, a.long, is); each = a.each }

moved : (called : Naming) (m n k : ℕ) (ps : List PredTree) → m ≡ n → Numbered called m k ps → Numbered called n k ps
moved called m n k ps is a = subst (λ (j : ℕ). Numbered called j k ps) is a

-- ---- patterns have none

mutual
  unfolding IsPattern helpers_in

  pattern-none : (e : ExpTree) → IsPattern e → helpers_in e ≡ 0
  pattern-none (var name) is = refl
  pattern-none (int n) is = refl
  pattern-none (atom name) is = refl
  pattern-none (str text) is = refl
  pattern-none (list es) is = patterns-none es is
  pattern-none (list_onto es e) is = omega (arith, patterns-none es is.0, pattern-none e is.1)
  pattern-none (array es) is = patterns-none es is
  pattern-none (call name es) is = patterns-none es is
  pattern-none (quote e) is = refl
  pattern-none (range first last) is = omega (arith, pattern-none first is.0, pattern-none last is.1)
  pattern-none (range_by first step last) is = omega (arith, pattern-none first is.0, pattern-none step is.1, pattern-none last is.2)
  pattern-none (at name e) is = refl
  pattern-none e is = absurd is

  patterns-none : (es : ExpTrees) → ArePatterns es → helpers_in_all es ≡ 0
  patterns-none no_exps is = refl
  patterns-none (exp e es) is = omega (arith, pattern-none e is.0, patterns-none es is.1)

-- ---- calls, of what their arguments have

abbrev GoalNumbered : Knows → Site → ExpTrees → ℕ → Type 0
GoalNumbered known s es i = IsGoalAt known es i → Numbered s.called s.helpers (helpers_in (exp_at es i)) (goal_helpers s (exp_at es i))

abbrev ValueNumbered : Knows → Site → ExpTrees → ℕ → Type 0
ValueNumbered known s es i = IsExpressionAt known es i → Numbered s.called s.helpers (helpers_in (exp_at es i)) (value_helpers s (exp_at es i))

abbrev AllNumbered : Knows → Site → List Reading → ExpTrees → Type 0
AllNumbered known s rs es = AreRead known rs es → Numbered s.called s.helpers (helpers_in_all es) (all_helpers s es)

function-numbered : (known : Knows) (s : Site) (name : List ℕ) (es : ExpTrees) → ((t : Site) (i : ℕ) → GoalNumbered known t es i) → ((t : Site) (i : ℕ) → ValueNumbered known t es i) → AllNumbered known s [] es → (find count : Bool) → is_find_all name (exp_count es) ≡ find →
    is_count_all name (exp_count es) ≡ count → IsFunctionCall known find count name (exp_count es) (AreRead known [] es) (IsExpressionAt known es) (IsGoalAt known es) →
    Numbered s.called s.helpers (helpers_in_all es) (cond find (helpers_at (goals_helpers (value_sites find s es) es) 1 ++ helpers_at (values_helpers (value_sites find s es) es) 0)
    (cond count (helpers_at (goals_helpers (value_sites find s es) es) 0) (all_helpers s es)))
unfolding IsRead IsGoal helpers_in helpers_at value_helpers goal_helpers following_sites exp_at exp_count
function-numbered known s name no_exps goals values all true count find counts is = absurd is.0
function-numbered known s name (exp e no_exps) goals values all true count find counts is = absurd is.1
function-numbered known s name (exp e (exp g no_exps)) goals values all true count find counts is =
    let t : Site = behind_site s (places e) 0 in
    let u : Site = behind_site s (places_all (exp g no_exps)) (helpers_in g) in
    both-numbered s.called s.helpers (helpers_in g) u.helpers (helpers_in e) (helpers_in e + (helpers_in g + 0)) (goal_helpers t g) (value_helpers u e) refl (omega arith)
    (moved s.called t.helpers s.helpers (helpers_in g) (goal_helpers t g) (omega arith) (goals t 1 is.1)) (values u 0 is.0)
function-numbered known s name (exp e (exp g (exp x es))) goals values all true count find counts is =
    absurd (too-many 2 (suc (suc (suc (exp_count es)))) (omega arith) (and_parts (suc (suc (suc (exp_count es))) == 2) (bytes_eq name (codes "find_all")) find).0)
function-numbered known s name no_exps goals values all false true find counts is = absurd is
function-numbered known s name (exp e no_exps) goals values all false true find counts is =
    again-numbered s.called s.helpers (helpers_in e) (helpers_in e + 0) (goal_helpers s e) (omega arith) (goals s 0 is)
function-numbered known s name (exp e (exp x es)) goals values all false true find counts is =
    absurd (too-many 1 (suc (suc (exp_count es))) (omega arith) (and_parts (suc (suc (exp_count es)) == 1) (bytes_eq name (codes "count_all")) counts).0)
function-numbered known s name es goals values all false false find counts is = all is.0

-- a call that may stay as a structure
node-numbered : (known : Knows) (s : Site) (r : Reading) (name : List ℕ) (es : ExpTrees) → AllNumbered known s (operand_readings r name (exp_count es)) es → (called : Type 0) (x y : List PredTree) →
    (called → Numbered s.called s.helpers (helpers_in_all es) (cond (is_find_all name (exp_count es)) x (cond (is_count_all name (exp_count es)) y (all_helpers s es)))) → (test : Bool) → stays r name (exp_count es) ≡ test →
    IsNode test (AreRead known (operand_readings r name (exp_count es)) es) called →
    Numbered s.called s.helpers (helpers_in_all es) (cond (is_find_all name (exp_count es)) x (cond (is_count_all name (exp_count es)) y (all_helpers s es)))
node-numbered known s r name es all called x y function true stays is =
    subst (λ (ps : List PredTree). Numbered s.called s.helpers (helpers_in_all es) ps) (sym (third-of r name (exp_count es) stays x y (all_helpers s es))) (all is)
node-numbered known s r name es all called x y function false stays is = function is

goal-call-numbered : (known : Knows) (s : Site) (name : List ℕ) (es : ExpTrees) → ((t : Site) (i : ℕ) → GoalNumbered known t es i) → ((t : Site) (i : ℕ) → ValueNumbered known t es i) → AllNumbered known s (readings name (exp_count es)) es → (form : Option Form) →
    form_of name (exp_count es) ≡ form → IsPredicateCall known form name (exp_count es) (AreRead known (readings name (exp_count es)) es) (IsExpressionAt known es) (IsGoalAt known es) → IsAssigned form es →
    Numbered s.called s.helpers (helpers_in_all es) (goal_call_helpers form (record { goals = goals_helpers (goal_sites form s es) es; values = values_helpers (goal_sites form s es) es; all = all_helpers s es }))
unfolding IsRead IsGoal helpers_in helpers_at value_helpers goal_helpers following_sites exp_at exp_count
goal-call-numbered known s name es goals values all None form is variable = all is.0
goal-call-numbered known s name es goals values all (Some by_term) form is variable = all is
goal-call-numbered known s name no_exps goals values all (Some negation) form is variable = absurd is
goal-call-numbered known s name (exp e no_exps) goals values all (Some negation) form is variable = again-numbered s.called s.helpers (helpers_in e) (helpers_in e + 0) (goal_helpers s e) (omega arith) (goals s 0 is)
goal-call-numbered known s name (exp e (exp x es)) goals values all (Some negation) form is variable = absurd (too-many 1 (suc (suc (exp_count es))) (omega arith) (negates-one name (exp_count (exp e (exp x es))) form))
goal-call-numbered known s name no_exps goals values all (Some once) form is variable = absurd is
goal-call-numbered known s name (exp e no_exps) goals values all (Some once) form is variable = again-numbered s.called s.helpers (helpers_in e) (helpers_in e + 0) (goal_helpers s e) (omega arith) (goals s 0 is)
goal-call-numbered known s name (exp e (exp x es)) goals values all (Some once) form is variable = absurd (too-many 1 (suc (suc (exp_count es))) (omega arith) (takes-one name (exp_count (exp e (exp x es))) form))
goal-call-numbered known s name (exp (var x) (exp e no_exps)) goals values all (Some assignment) form is variable =
    let t : Site = behind_exp s (var x) in
    again-numbered s.called s.helpers (helpers_in e) (0 + (helpers_in e + 0)) (value_helpers t e) (omega arith) (moved s.called t.helpers s.helpers (helpers_in e) (value_helpers t e) (omega arith) (values t 1 is))
goal-call-numbered known s name es goals values all (Some assignment) form is variable = absurd variable
goal-call-numbered known s name no_exps goals values all (Some catch) form is variable = absurd is.0
goal-call-numbered known s name (exp g no_exps) goals values all (Some catch) form is variable = absurd is.1
goal-call-numbered known s name (exp g (exp ball no_exps)) goals values all (Some catch) form is variable = absurd is.2
goal-call-numbered known s name (exp g (exp ball (exp handler (exp x es)))) goals values all (Some catch) form is variable =
    absurd (too-many 3 (suc (suc (suc (suc (exp_count es))))) (omega arith) (and_parts (suc (suc (suc (suc (exp_count es)))) == 3) (bytes_eq name (codes "catch")) (catches-three name (exp_count (exp g (exp ball (exp handler (exp x es))))) form)).0)
goal-call-numbered known s name (exp g (exp ball (exp handler no_exps))) goals values all (Some catch) form is variable =
    let t : Site = behind_site s (places ball) (helpers_in ball) in
    let u : Site = behind_site s (places g) 0 in
    let v : Site = behind_site (behind_site t (places g) (helpers_in g)) (places ball) 0 in
    both-numbered s.called s.helpers (helpers_in ball) t.helpers (helpers_in g + helpers_in handler) (helpers_in g + (helpers_in ball + (helpers_in handler + 0))) (value_helpers u ball) (goal_helpers t g ++ goal_helpers v handler) refl (omega arith)
    (moved s.called u.helpers s.helpers (helpers_in ball) (value_helpers u ball) (omega arith) (values u 1 is.1))
    (both-numbered s.called t.helpers (helpers_in g) v.helpers (helpers_in handler) (helpers_in g + helpers_in handler) (goal_helpers t g) (goal_helpers v handler) (omega arith) refl (goals t 0 is.0) (goals v 2 is.2))
goal-call-numbered known s name es goals values all (Some membership) form is variable = absurd is

-- ---- loops, of what stands in them

iterated-numbered : (known : Knows) (s : Site) (ending : Ending) (i : Inner) (u : ExpTree) (us : ExpTrees) (e : ExpTree) (over inside : List PredTree) (turn : SlotNames → SlotGoals) → Numbered s.called s.helpers (helpers_in u) over →
    Numbered s.called (s.helpers + helpers_in u) (helpers_in_units us + i.count) inside → Numbered s.called s.helpers ((helpers_in u + (helpers_in_units us + 2)) + i.count) (iterated_helpers (iterator_text s ending i u us e) over inside turn)
unfolding NamedFrom
iterated-numbered known s ending i u us e over inside turn first second =
    both-numbered s.called s.helpers (helpers_in u) (s.helpers + helpers_in u) ((helpers_in_units us + i.count) + 2) ((helpers_in u + (helpers_in_units us + 2)) + i.count) over (inside ++ own) refl (omega arith) first
    (both-numbered s.called (s.helpers + helpers_in u) (helpers_in_units us + i.count) last 2 ((helpers_in_units us + i.count) + 2) inside own (omega arith) refl second
    (two (is_range u)))
  where
    own : List PredTree
    own = own_helpers (is_range u) (turn_name s i u us) (iterator_loop s ending i u us e) e turn

    two : (r : Bool) → Numbered s.called (s.helpers + (helpers_in u + (helpers_in_units us + i.count))) 2 (own_helpers r (turn_name s i u us) (iterator_loop s ending i u us e) e turn)
    two true = record { long = refl; each = (record { name = refl; kind = refl; quiet = refl; index = refl }, (record { name = refl; kind = refl; quiet = refl; index = refl }, tt)) }
    two false = record { long = refl; each = (record { name = refl; kind = refl; quiet = refl; index = refl }, (record { name = refl; kind = refl; quiet = refl; index = refl }, tt)) }

    last : ℕ
    last = s.helpers + (helpers_in u + (helpers_in_units us + i.count))

unit-numbered : (known : Knows) (s : Site) (ending : Ending) (i : Inner) (u : ExpTree) (us : ExpTrees) (collected tests : Type 0) (over test : List PredTree) (inside : Site → List PredTree) (turn : Site → SlotNames → SlotGoals) → (o : Option ExpTree) → iterated u ≡ o → IsUnit o collected tests →
    ((e : ExpTree) → iterated u ≡ Some e → IsPattern e → collected → Numbered s.called s.helpers (helpers_in u) over) → (tests → Numbered s.called s.helpers (helpers_in u) test) →
    ((t : Site) → t.called ≡ s.called → Numbered s.called t.helpers (helpers_in_units us + i.count) (inside t)) →
    Numbered s.called s.helpers ((helpers_in u + (helpers_in_units us + iterator_helpers o)) + i.count)
    (unit_helpers o (λ e. iterated_helpers (iterator_text s ending i u us e) over (inside (elements_of s (iterator_loop s ending i u us e) u e)) (turn (elements_of s (iterator_loop s ending i u us e) u e))) (test ++ inside (behind_exp s u)))
unit-numbered known s ending i u us collected tests over test inside turn None is fits collection condition rest =
    both-numbered s.called s.helpers (helpers_in u) (s.helpers + helpers_in u) (helpers_in_units us + i.count) ((helpers_in u + (helpers_in_units us + 0)) + i.count) test (inside (behind_exp s u)) refl (omega arith) (condition fits) (rest (behind_exp s u) refl)
unit-numbered known s ending i u us collected tests over test inside turn (Some e) is fits collection condition rest =
    iterated-numbered known s ending i u us e over (inside (elements_of s (iterator_loop s ending i u us e) u e)) (turn (elements_of s (iterator_loop s ending i u us e) u e)) (collection e is fits.0 fits.1) (rest (elements_of s (iterator_loop s ending i u us e) u e) refl)

started-numbered : (s : Site) (ending : Ending) (kept : Names) (i : Inner) (us : ExpTrees) (inside : Site → Ending → List PredTree) (turn : Site → SlotNames → SlotGoals) → ((t : Site) (o : Ending) → t.called ≡ s.called → Numbered s.called t.helpers (helpers_in_units us + i.count) (inside t o)) →
    (begins : Bool) → Numbered s.called s.helpers ((helpers_in_units us + i.count) + cond begins 0 1) (started_helpers begins inside turn s (start_loop s ending kept i us))
started-numbered s ending kept i us inside turn rest true = again-numbered s.called s.helpers (helpers_in_units us + i.count) ((helpers_in_units us + i.count) + 0) (inside s ending) (omega arith) (rest s ending refl)
started-numbered s ending kept i us inside turn rest false =
    let loop : Loop = start_loop s ending kept i us in
    both-numbered s.called s.helpers (helpers_in_units us + i.count) (s.helpers + (helpers_in_units us + i.count)) 1 ((helpers_in_units us + i.count) + 1) (inside (turns_of s loop) as_it_is) (only_turn_helper loop (turn (turns_of s loop)) ∷ []) refl refl
    (rest (turns_of s loop) as_it_is refl) (one-numbered s.called (s.helpers + (helpers_in_units us + i.count)) (s.helpers + (helpers_in_units us + i.count)) (only_turn_helper loop (turn (turns_of s loop))) refl (record { name = refl; kind = refl; quiet = refl; index = refl }))

none-some : (e : ExpTree) → None ≡ Some e → ⊥
none-some e is = absurd cc

-- the pattern of an iterator
first-of : (name : List ℕ) (x e : ExpTree) → cond (bytes_eq name (codes "in")) (Some x) None ≡ Some e → x ≡ e
first-of name x e is = go (bytes_eq name (codes "in")) is
  where
    some : Option ExpTree → ExpTree
    some None = x
    some (Some y) = y

    go : (b : Bool) → cond b (Some x) None ≡ Some e → x ≡ e
    go true h = ap some h
    go false h = absurd (none-some e h)

-- ---- expressions and goals

mutual
  unfolding IsRead IsGoal helpers_in value_helpers goal_helpers helpers_at following_sites exp_at exp_count

  pub value-numbered : (known : Knows) (s : Site) (r : Reading) (e : ExpTree) → IsRead known r e → Numbered s.called s.helpers (helpers_in e) (value_helpers s e)
  value-numbered known s r (var name) is = none-numbered s.called s.helpers
  value-numbered known s r (int n) is = none-numbered s.called s.helpers
  value-numbered known s r (atom name) is = none-numbered s.called s.helpers
  value-numbered known s r (str text) is = none-numbered s.called s.helpers
  value-numbered known s r (list es) is = all-numbered known s [] es is
  value-numbered known s r (list_onto es e) is =
      let t : Site = behind_site s (places_all es) (helpers_in_all es) in
      both-numbered s.called s.helpers (helpers_in_all es) t.helpers (helpers_in e) (helpers_in_all es + helpers_in e) (all_helpers s es) (value_helpers t e) refl refl (all-numbered known s [] es is.0) (value-numbered known t plain e is.1)
  value-numbered known s r (array es) is = all-numbered known s [] es is
  value-numbered known s r (call name es) is =
      node-numbered known s r name es (λ are. all-numbered known s (operand_readings r name (exp_count es)) es are) _ _ _
      (λ function. function-numbered known s name es (λ t i fits. goal-at-numbered known t es i fits) (λ t i fits. value-at-numbered known t es i fits) (λ are. all-numbered known s [] es are) (is_find_all name (exp_count es)) (is_count_all name (exp_count es)) refl refl function)
      (stays r name (exp_count es)) refl is
  value-numbered known s r (quote e) is = none-numbered s.called s.helpers
  value-numbered known s r (index e es) is =
      let t : Site = behind_exp s e in
      both-numbered s.called s.helpers (helpers_in e) t.helpers (helpers_in_all es) (helpers_in e + helpers_in_all es) (value_helpers s e) (all_helpers t es) refl refl (value-numbered known s plain e is.0) (all-numbered known t [] es is.1)
  value-numbered known s r (range first last) is =
      let t : Site = behind_exp s first in
      both-numbered s.called s.helpers (helpers_in first) t.helpers (helpers_in last) (helpers_in first + helpers_in last) (value_helpers s first) (value_helpers t last) refl refl (value-numbered known s plain first is.0) (value-numbered known t plain last is.1)
  value-numbered known s r (range_by first step last) is =
      let t : Site = behind_exp s first in
      let u : Site = behind_site s (places first ++ places step) (helpers_in first + helpers_in step) in
      both-numbered s.called s.helpers (helpers_in first) t.helpers (helpers_in step + helpers_in last) (helpers_in first + (helpers_in step + helpers_in last)) (value_helpers s first) (value_helpers t step ++ value_helpers u last) refl refl
      (value-numbered known s plain first is.0)
      (both-numbered s.called t.helpers (helpers_in step) u.helpers (helpers_in last) (helpers_in step + helpers_in last) (value_helpers t step) (value_helpers u last) (omega arith) refl (value-numbered known t plain step is.1) (value-numbered known u plain last is.2))
  value-numbered known s r (collect is_array e es) is =
      let t : Site = gathered_at s in
      let lbody : Site → SlotNames → SlotGoals = λ u ms. adding (last_value e ms (made u e ms)) in
      started-numbered t (in_order is_array) (hidden ∷ []) (gathering e) es (λ u ending. units_helpers u ending (gathering e) es lbody (λ v. value_helpers v e)) (λ u. units u as_it_is (gathering e) es lbody)
      (λ u ending same. units-numbered known s.called u same ending (gathering e) es is.0 lbody (λ v. value_helpers v e) (λ v. value-numbered known v plain e is.1)) (begins_with_iterator es)
  value-numbered known s r e is = absurd is

  pub all-numbered : (known : Knows) (s : Site) (rs : List Reading) (es : ExpTrees) → AreRead known rs es → Numbered s.called s.helpers (helpers_in_all es) (all_helpers s es)
  all-numbered known s rs no_exps is = none-numbered s.called s.helpers
  all-numbered known s rs (exp e es) is =
      let t : Site = behind_exp s e in
      both-numbered s.called s.helpers (helpers_in e) t.helpers (helpers_in_all es) (helpers_in e + helpers_in_all es) (value_helpers s e) (all_helpers t es) refl refl (value-numbered known s (first_reading rs) e is.0) (all-numbered known t (later_readings rs) es is.1)

  goal-at-numbered : (known : Knows) (s : Site) (es : ExpTrees) (i : ℕ) → GoalNumbered known s es i
  goal-at-numbered known s no_exps i is = absurd is
  goal-at-numbered known s (exp e es) zero is = goal-numbered known s e is
  goal-at-numbered known s (exp e es) (suc i) is = goal-at-numbered known s es i is

  value-at-numbered : (known : Knows) (s : Site) (es : ExpTrees) (i : ℕ) → ValueNumbered known s es i
  value-at-numbered known s no_exps i is = absurd is
  value-at-numbered known s (exp e es) zero is = value-numbered known s plain e is
  value-at-numbered known s (exp e es) (suc i) is = value-at-numbered known s es i is

  pub goal-numbered : (known : Knows) (s : Site) (e : ExpTree) → IsGoal known e → Numbered s.called s.helpers (helpers_in e) (goal_helpers s e)
  goal-numbered known s (atom name) is = none-numbered s.called s.helpers
  goal-numbered known s (call name es) is =
      goal-call-numbered known s name es (λ t i fits. goal-at-numbered known t es i fits) (λ t i fits. value-at-numbered known t es i fits) (λ are. all-numbered known s (readings name (exp_count es)) es are) (form_of name (exp_count es)) refl is.0 is.1
  goal-numbered known s (and es) is = and-numbered known s es is
  goal-numbered known s (or es) is = or-numbered known s es is
  goal-numbered known s (if_then bs) is = branches-numbered known s bs is
  goal-numbered known s (if_else bs e) is =
      let t : Site = behind_site s (places_of_branches bs) (helpers_in_branches bs) in
      both-numbered s.called s.helpers (helpers_in_branches bs) t.helpers (helpers_in e) (helpers_in_branches bs + helpers_in e) (branch_helpers s bs) (goal_helpers t e) refl refl (branches-numbered known s bs is.0) (goal-numbered known t e is.1)
  goal-numbered known s (foreach es e) is =
      let lbody : Site → SlotNames → SlotGoals = λ u. goal_of u e in
      started-numbered s as_it_is (kept_names s.before es (assigned e)) (inner_of e) es (λ u ending. units_helpers u ending (inner_of e) es lbody (λ v. goal_helpers v e)) (λ u. units u as_it_is (inner_of e) es lbody)
      (λ u ending same. units-numbered known s.called u same ending (inner_of e) es is.0 lbody (λ v. goal_helpers v e) (λ v. goal-numbered known v e is.1)) (begins_with_iterator es)
  goal-numbered known s (while_do c e) is =
      let turns : Site = turns_of s (while_loop s c e) in
      let t : Site = behind_exp turns c in
      both-numbered s.called s.helpers (helpers_in c) t.helpers (helpers_in e + 1) (suc (helpers_in c + helpers_in e)) (goal_helpers turns c) (goal_helpers t e ++ while_helper (while_loop s c e) (goal_of turns c) (goal_of t e) ∷ []) refl (omega arith)
      (goal-numbered known turns c is.0)
      (both-numbered s.called t.helpers (helpers_in e) (t.helpers + helpers_in e) 1 (helpers_in e + 1) (goal_helpers t e) (while_helper (while_loop s c e) (goal_of turns c) (goal_of t e) ∷ []) refl refl (goal-numbered known t e is.1)
      (one-numbered s.called (t.helpers + helpers_in e) (s.helpers + (helpers_in c + helpers_in e)) (while_helper (while_loop s c e) (goal_of turns c) (goal_of t e)) (omega arith) (record { name = refl; kind = refl; quiet = refl; index = refl })))
  goal-numbered known s (do_while e c) is =
      let turns : Site = turns_of s (do_loop s e c) in
      let t : Site = behind_exp turns e in
      both-numbered s.called s.helpers (helpers_in e) t.helpers (helpers_in c + 1) (suc (helpers_in e + helpers_in c)) (goal_helpers turns e) (goal_helpers t c ++ do_helper (do_loop s e c) (goal_of turns e) (goal_of t c) ∷ []) refl (omega arith)
      (goal-numbered known turns e is.0)
      (both-numbered s.called t.helpers (helpers_in c) (t.helpers + helpers_in c) 1 (helpers_in c + 1) (goal_helpers t c) (do_helper (do_loop s e c) (goal_of turns e) (goal_of t c) ∷ []) refl refl (goal-numbered known t c is.1)
      (one-numbered s.called (t.helpers + helpers_in c) (s.helpers + (helpers_in e + helpers_in c)) (do_helper (do_loop s e c) (goal_of turns e) (goal_of t c)) (omega arith) (record { name = refl; kind = refl; quiet = refl; index = refl })))
  goal-numbered known s e is = absurd is

  and-numbered : (known : Knows) (s : Site) (es : ExpTrees) → AreGoals known es → Numbered s.called s.helpers (helpers_in_all es) (conjunct_helpers s es)
  and-numbered known s no_exps is = none-numbered s.called s.helpers
  and-numbered known s (exp e es) is =
      let t : Site = behind_exp s e in
      both-numbered s.called s.helpers (helpers_in e) t.helpers (helpers_in_all es) (helpers_in e + helpers_in_all es) (goal_helpers s e) (conjunct_helpers t es) refl refl (goal-numbered known s e is.0) (and-numbered known t es is.1)

  or-numbered : (known : Knows) (s : Site) (es : ExpTrees) → AreBranches known es → Numbered s.called s.helpers (helpers_in_all es) (conjunct_helpers s es)
  or-numbered known s no_exps is = none-numbered s.called s.helpers
  or-numbered known s (exp e es) is =
      let t : Site = behind_exp s e in
      both-numbered s.called s.helpers (helpers_in e) t.helpers (helpers_in_all es) (helpers_in e + helpers_in_all es) (goal_helpers s e) (conjunct_helpers t es) refl refl (way-numbered known s e is.0) (or-numbered known t es is.1)

  -- an alternative
  way-numbered : (known : Knows) (s : Site) (e : ExpTree) → IsBranch known e → Numbered s.called s.helpers (helpers_in e) (goal_helpers s e)
  way-numbered known s (arrow c e) is =
      let t : Site = behind_exp s c in
      both-numbered s.called s.helpers (helpers_in c) t.helpers (helpers_in e) (helpers_in c + helpers_in e) (goal_helpers s c) (goal_helpers t e) refl refl (goal-numbered known s c is.0) (goal-numbered known t e is.1)
  way-numbered known s (atom name) is = none-numbered s.called s.helpers
  way-numbered known s (call name es) is =
      goal-call-numbered known s name es (λ t i fits. goal-at-numbered known t es i fits) (λ t i fits. value-at-numbered known t es i fits) (λ are. all-numbered known s (readings name (exp_count es)) es are) (form_of name (exp_count es)) refl is.0 is.1
  way-numbered known s (and es) is = and-numbered known s es is
  way-numbered known s (or es) is = or-numbered known s es is
  way-numbered known s (if_then bs) is = branches-numbered known s bs is
  way-numbered known s (if_else bs e) is =
      let t : Site = behind_site s (places_of_branches bs) (helpers_in_branches bs) in
      both-numbered s.called s.helpers (helpers_in_branches bs) t.helpers (helpers_in e) (helpers_in_branches bs + helpers_in e) (branch_helpers s bs) (goal_helpers t e) refl refl (branches-numbered known s bs is.0) (goal-numbered known t e is.1)
  way-numbered known s (foreach es e) is =
      let lbody : Site → SlotNames → SlotGoals = λ u. goal_of u e in
      started-numbered s as_it_is (kept_names s.before es (assigned e)) (inner_of e) es (λ u ending. units_helpers u ending (inner_of e) es lbody (λ v. goal_helpers v e)) (λ u. units u as_it_is (inner_of e) es lbody)
      (λ u ending same. units-numbered known s.called u same ending (inner_of e) es is.0 lbody (λ v. goal_helpers v e) (λ v. goal-numbered known v e is.1)) (begins_with_iterator es)
  way-numbered known s (while_do c e) is =
      let turns : Site = turns_of s (while_loop s c e) in
      let t : Site = behind_exp turns c in
      both-numbered s.called s.helpers (helpers_in c) t.helpers (helpers_in e + 1) (suc (helpers_in c + helpers_in e)) (goal_helpers turns c) (goal_helpers t e ++ while_helper (while_loop s c e) (goal_of turns c) (goal_of t e) ∷ []) refl (omega arith)
      (goal-numbered known turns c is.0)
      (both-numbered s.called t.helpers (helpers_in e) (t.helpers + helpers_in e) 1 (helpers_in e + 1) (goal_helpers t e) (while_helper (while_loop s c e) (goal_of turns c) (goal_of t e) ∷ []) refl refl (goal-numbered known t e is.1)
      (one-numbered s.called (t.helpers + helpers_in e) (s.helpers + (helpers_in c + helpers_in e)) (while_helper (while_loop s c e) (goal_of turns c) (goal_of t e)) (omega arith) (record { name = refl; kind = refl; quiet = refl; index = refl })))
  way-numbered known s (do_while e c) is =
      let turns : Site = turns_of s (do_loop s e c) in
      let t : Site = behind_exp turns e in
      both-numbered s.called s.helpers (helpers_in e) t.helpers (helpers_in c + 1) (suc (helpers_in e + helpers_in c)) (goal_helpers turns e) (goal_helpers t c ++ do_helper (do_loop s e c) (goal_of turns e) (goal_of t c) ∷ []) refl (omega arith)
      (goal-numbered known turns e is.0)
      (both-numbered s.called t.helpers (helpers_in c) (t.helpers + helpers_in c) 1 (helpers_in c + 1) (goal_helpers t c) (do_helper (do_loop s e c) (goal_of turns e) (goal_of t c) ∷ []) refl refl (goal-numbered known t c is.1)
      (one-numbered s.called (t.helpers + helpers_in c) (s.helpers + (helpers_in e + helpers_in c)) (do_helper (do_loop s e c) (goal_of turns e) (goal_of t c)) (omega arith) (record { name = refl; kind = refl; quiet = refl; index = refl })))
  way-numbered known s e is = absurd is

  branches-numbered : (known : Knows) (s : Site) (bs : ExpBranches) → HaveGoals known bs → Numbered s.called s.helpers (helpers_in_branches bs) (branch_helpers s bs)
  branches-numbered known s no_branches is = none-numbered s.called s.helpers
  branches-numbered known s (branch c e bs) is =
      let t : Site = behind_exp s c in
      let u : Site = behind_site s (places c ++ places e) (helpers_in c + helpers_in e) in
      both-numbered s.called s.helpers (helpers_in c) t.helpers (helpers_in e + helpers_in_branches bs) (helpers_in c + (helpers_in e + helpers_in_branches bs)) (goal_helpers s c) (goal_helpers t e ++ branch_helpers u bs) refl refl (goal-numbered known s c is.0)
      (both-numbered s.called t.helpers (helpers_in e) u.helpers (helpers_in_branches bs) (helpers_in e + helpers_in_branches bs) (goal_helpers t e) (branch_helpers u bs) (omega arith) refl (goal-numbered known t e is.1) (branches-numbered known u bs is.2))

  units-numbered : (known : Knows) (called : Naming) (s : Site) → s.called ≡ called → (ending : Ending) (i : Inner) (us : ExpTrees) → AreUnits known us → (lbody : Site → SlotNames → SlotGoals) (inner : Site → List PredTree) →
      ((t : Site) → Numbered t.called t.helpers i.count (inner t)) → Numbered called s.helpers (helpers_in_units us + i.count) (units_helpers s ending i us lbody inner)
  units-numbered known called s same ending i no_exps is lbody inner body = subst (λ (c : Naming). Numbered c s.helpers (0 + i.count) (inner s)) same (again-numbered s.called s.helpers i.count (0 + i.count) (inner s) (omega arith) (body s))
  units-numbered known called s same ending i (exp u us) is lbody inner body =
      subst (λ (c : Naming). Numbered c s.helpers (helpers_in_units (exp u us) + i.count) (units_helpers s ending i (exp u us) lbody inner)) same
      (unit-numbered known s ending i u us (IsCollection known u) (IsGoal known u) (collection_helpers s u) (goal_helpers s u) (λ t. units_helpers t as_it_is i us lbody inner) (λ t. units t as_it_is i us lbody) (iterated u) refl is.0
      (λ e some pattern over. collection-numbered known s u e some pattern over) (λ test. goal-numbered known s u test) (λ t also. units-numbered known s.called t also as_it_is i us is.1 lbody inner body))

  collection-numbered : (known : Knows) (s : Site) (u e : ExpTree) → iterated u ≡ Some e → IsPattern e → IsCollection known u → Numbered s.called s.helpers (helpers_in u) (collection_helpers s u)
  collection-numbered known s (call name no_exps) e some pattern is = absurd is
  collection-numbered known s (call name (exp x no_exps)) e some pattern is = absurd is
  collection-numbered known s (call name (exp x (exp d no_exps))) e some pattern is =
      again-numbered s.called s.helpers (helpers_in d) (helpers_in x + (helpers_in d + 0)) (value_helpers s d) (omega (arith, pattern-none x (subst (λ (y : ExpTree). IsPattern y) (sym (first-of name x e some)) pattern))) (value-numbered known s plain d is)
  collection-numbered known s (call name (exp x (exp d (exp y es)))) e some pattern is = absurd (none-some e some)
  collection-numbered known s u e some pattern is = absurd is
