-- No clause of a core program has events, whatever its text is.
use Rattle.std.proofs.Common.{◌≡◌, ℕ, zero, suc, ◌+◌, Bool, true, false, cond, List, [], ◌∷◌, ◌++◌, refl}
use Rattle.std.specs.Prelude.{Option, Some, None, All, ⊤}
use Rattle.std.specs.List.{cons_option}
use Rattle.std.proofs.lemmas.List.Elements.{All-nil, All-cons, All-append, All-weaker}
use Rattle.pi_core.specs.CoreTree.{ClauseTree, PredTree, index_of}
use Rattle.pi_syntax.specs.ExpTree.{ExpTree, list, list_onto, array, call, index, range, range_by, collect, and, or, arrow, if_then, if_else, foreach, while_do, do_while, ExpTrees, no_exps, exp, ExpBranches, no_branches, branch}
use Rattle.pi_syntax.specs.ProgramTree.{WrittenClause, rule, function, fact, ProgramTree}
use Rattle.pi_syntax.specs.Signature.{Signature, exp_count}
use Rattle.pi_meaning.specs.OverNames.Prelude.{prelude}
use Rattle.pi_meaning.specs.OverNames.Texts.{places, places_all, places_of_branches, iterated, begins_with_iterator, assigned, kept_names}
use Rattle.pi_meaning.specs.OverNames.Loops.{hidden}
use Rattle.pi_meaning.specs.OverNames.Forms.{Form, negation, once, assignment, catch, by_term, membership, form_of, is_find_all, is_count_all}
use Rattle.pi_rewrite_spec.specs.Slots.{SlotNames}
use Rattle.pi_rewrite_spec.specs.Values.{last_value}
use Rattle.pi_rewrite_spec.specs.Goals.{SlotGoals}
use Rattle.pi_rewrite_spec.specs.Clauses.{Lowering, lowered_fact, grouped_all}
use Rattle.pi_rewrite_spec.specs.Sites.{Site, helpers_in, helpers_in_all, helpers_in_branches, behind_site, behind_exp, goal_sites, value_sites}
use Rattle.pi_rewrite_spec.specs.Loops.{Ending, as_it_is, in_order, Loop}
use Rattle.pi_rewrite_spec.specs.Comprehensions.{adding}
use Rattle.pi_rewrite_spec.specs.Written.{while_loop, do_loop, turns_of, Inner, inner_of, gathering, gathered_at, start_loop, iterator_loop, turn_name, is_range, elements_of, made, goal_of, units}
use Rattle.pi_rewrite_spec.specs.Helpers.{HelperParts, own_helpers, helpers_at, goal_call_helpers, iterated_helpers, unit_helpers, started_helpers, value_helpers, all_helpers, values_helpers, goals_helpers, goal_helpers, conjunct_helpers, branch_helpers, units_helpers, collection_helpers, iterator_text}
use Rattle.pi_rewrite_spec.specs.Programs.{Naming, option_helpers, behind_option, rule_site, function_site, value_site, clause_count, written_clause, clause_helpers, clauses_of, helpers_of, core_program}
use Rattle.pi_rewrite_laws.proofs.FindLemmas.{Modes}
use Rattle.pi_rewrite_sound.specs.Laws.{IsPlain, LoweredProgramsArePlain}
use Rattle.pi_rewrite_sound.proofs.GroupLemmas.{Holds, HoldsOf, groups-hold}

abbrev NoEvents : List ClauseTree → Type 0
NoEvents [] = ⊤
NoEvents (c ∷ cs) = (c.watches ≡ []) × NoEvents cs

abbrev NoneOf : List PredTree → Type 0
NoneOf [] = ⊤
NoneOf (p ∷ ps) = NoEvents p.clauses × NoneOf ps

record ArePlain (ps : List PredTree) : Type 0 where
  each : NoneOf ps

plain-none : ArePlain []
plain-none = record { each = tt }

none-both : (ps qs : List PredTree) → NoneOf ps → NoneOf qs → NoneOf (ps ++ qs)
none-both [] qs one two = two
none-both (p ∷ ps) qs one two = (one.0, none-both ps qs one.1 two)

plain-both : {ps qs : List PredTree} → ArePlain ps → ArePlain qs → ArePlain (ps ++ qs)
plain-both {ps} {qs} one two = record { each = none-both ps qs one.each two.each }

-- as it is told
no-events : (cs : List ClauseTree) → NoEvents cs → All (λ c. c.watches ≡ []) cs
no-events [] are = All-nil (λ c. c.watches ≡ [])
no-events (c ∷ cs) are = All-cons (λ c. c.watches ≡ []) c cs are.0 (no-events cs are.1)

all-plain-of : (ps : List PredTree) → NoneOf ps → All IsPlain ps
all-plain-of [] are = All-nil IsPlain
all-plain-of (p ∷ ps) are = All-cons IsPlain p ps (record { watches = no-events p.clauses are.0 }) (all-plain-of ps are.1)

-- ---- of loops, and of calls

own-plain : (r : Bool) (name : List ℕ) (l : Loop) (e : ExpTree) (turn : SlotNames → SlotGoals) → ArePlain (own_helpers r name l e turn)
own-plain true name l e turn = record { each = ((refl, tt), ((refl, (refl, tt)), tt)) }
own-plain false name l e turn = record { each = ((refl, (refl, (refl, tt))), ((refl, (refl, tt)), tt)) }

iterated-plain : (s : Site) (ending : Ending) (i : Inner) (u : ExpTree) (us : ExpTrees) (e : ExpTree) (over inside : List PredTree) (turn : SlotNames → SlotGoals) → ArePlain over → ArePlain inside → ArePlain (iterated_helpers (iterator_text s ending i u us e) over inside turn)
iterated-plain s ending i u us e over inside turn one two =
    plain-both one (plain-both two (own-plain (is_range u) (turn_name s i u us) (iterator_loop s ending i u us e) e turn))

unit-plain : (o : Option ExpTree) (iterator : ExpTree → List PredTree) (test : List PredTree) → ((e : ExpTree) → ArePlain (iterator e)) → ArePlain test → ArePlain (unit_helpers o iterator test)
unit-plain None iterator test one two = two
unit-plain (Some e) iterator test one two = one e

started-plain : (begins : Bool) (inside : Site → Ending → List PredTree) (turn : Site → SlotNames → SlotGoals) (s : Site) (l : Loop) → ((t : Site) (ending : Ending) → ArePlain (inside t ending)) → ArePlain (started_helpers begins inside turn s l)
started-plain true inside turn s l are = are s l.ending
started-plain false inside turn s l are = plain-both (are (turns_of s l) as_it_is) (record { each = ((refl, tt), tt) })

-- each of several lists
abbrev EachPlain : List (List PredTree) → Type 0
EachPlain [] = ⊤
EachPlain (ps ∷ all) = ArePlain ps × EachPlain all

at-plain : (all : List (List PredTree)) → EachPlain all → (i : ℕ) → ArePlain (helpers_at all i)
unfolding helpers_at
at-plain [] are i = plain-none
at-plain (ps ∷ all) are zero = are.0
at-plain (ps ∷ all) are (suc i) = at-plain all are.1 i

record PlainParts (parts : HelperParts) : Type 0 where
  goals : EachPlain parts.goals
  values : EachPlain parts.values
  all : ArePlain parts.all

goal-call-plain : (form : Option Form) (parts : HelperParts) → PlainParts parts → ArePlain (goal_call_helpers form parts)
goal-call-plain None parts are = are.all
goal-call-plain (Some negation) parts are = at-plain parts.goals are.goals 0
goal-call-plain (Some once) parts are = at-plain parts.goals are.goals 0
goal-call-plain (Some assignment) parts are = at-plain parts.values are.values 1
goal-call-plain (Some catch) parts are = plain-both (at-plain parts.values are.values 1) (plain-both (at-plain parts.goals are.goals 0) (at-plain parts.goals are.goals 2))
goal-call-plain (Some by_term) parts are = are.all
goal-call-plain (Some membership) parts are = plain-none

value-call-plain : (find number : Bool) (parts : HelperParts) → PlainParts parts → ArePlain (cond find (helpers_at parts.goals 1 ++ helpers_at parts.values 0) (cond number (helpers_at parts.goals 0) parts.all))
value-call-plain true number parts are = plain-both (at-plain parts.goals are.goals 1) (at-plain parts.values are.values 0)
value-call-plain false true parts are = at-plain parts.goals are.goals 0
value-call-plain false false parts are = are.all

-- ---- of texts

mutual
  unfolding value_helpers

  value-plain : (s : Site) (e : ExpTree) → ArePlain (value_helpers s e)
  value-plain s (list es) = all-plain s es
  value-plain s (list_onto es e) = plain-both (all-plain s es) (value-plain (behind_site s (places_all es) (helpers_in_all es)) e)
  value-plain s (array es) = all-plain s es
  value-plain s (call name es) =
      value-call-plain (is_find_all name (exp_count es)) (is_count_all name (exp_count es)) _
      (record { goals = goals-plain (value_sites (is_find_all name (exp_count es)) s es) es; values = values-plain (value_sites (is_find_all name (exp_count es)) s es) es; all = all-plain s es })
  value-plain s (index e es) = plain-both (value-plain s e) (all-plain (behind_exp s e) es)
  value-plain s (range first last) = plain-both (value-plain s first) (value-plain (behind_exp s first) last)
  value-plain s (range_by first step last) =
      plain-both (value-plain s first) (plain-both (value-plain (behind_exp s first) step) (value-plain (behind_site s (places first ++ places step) (helpers_in first + helpers_in step)) last))
  value-plain s (collect is_array e es) =
      let t : Site = gathered_at s in
      let body : Site → SlotNames → SlotGoals = λ u ms. adding (last_value e ms (made u e ms)) in
      started-plain (begins_with_iterator es) (λ u ending. units_helpers u ending (gathering e) es body (λ v. value_helpers v e)) (λ u. units u as_it_is (gathering e) es body) t
      (start_loop t (in_order is_array) (hidden ∷ []) (gathering e) es) (λ u ending. units-plain u ending (gathering e) es body (λ v. value_helpers v e) (λ v. value-plain v e))
  value-plain s e = plain-none

  all-plain : (s : Site) (es : ExpTrees) → ArePlain (all_helpers s es)
  all-plain s no_exps = plain-none
  all-plain s (exp e es) = plain-both (value-plain s e) (all-plain (behind_exp s e) es)

  values-plain : (sites : ℕ → Site) (es : ExpTrees) → EachPlain (values_helpers sites es)
  values-plain sites no_exps = tt
  values-plain sites (exp e es) = (value-plain (sites 0) e, values-plain (λ i. sites (suc i)) es)

  goals-plain : (sites : ℕ → Site) (es : ExpTrees) → EachPlain (goals_helpers sites es)
  goals-plain sites no_exps = tt
  goals-plain sites (exp e es) = (goal-plain (sites 0) e, goals-plain (λ i. sites (suc i)) es)

  goal-plain : (s : Site) (e : ExpTree) → ArePlain (goal_helpers s e)
  goal-plain s (call name es) =
      goal-call-plain (form_of name (exp_count es)) _
      (record { goals = goals-plain (goal_sites (form_of name (exp_count es)) s es) es; values = values-plain (goal_sites (form_of name (exp_count es)) s es) es; all = all-plain s es })
  goal-plain s (and es) = conjuncts-plain s es
  goal-plain s (or es) = conjuncts-plain s es
  goal-plain s (arrow c e) = plain-both (goal-plain s c) (goal-plain (behind_exp s c) e)
  goal-plain s (if_then bs) = branches-plain s bs
  goal-plain s (if_else bs e) = plain-both (branches-plain s bs) (goal-plain (behind_site s (places_of_branches bs) (helpers_in_branches bs)) e)
  goal-plain s (foreach es e) =
      let body : Site → SlotNames → SlotGoals = λ v. goal_of v e in
      started-plain (begins_with_iterator es) (λ u ending. units_helpers u ending (inner_of e) es body (λ v. goal_helpers v e)) (λ u. units u as_it_is (inner_of e) es body) s
      (start_loop s as_it_is (kept_names s.before es (assigned e)) (inner_of e) es) (λ u ending. units-plain u ending (inner_of e) es body (λ v. goal_helpers v e) (λ v. goal-plain v e))
  goal-plain s (while_do c e) =
      let turns : Site = turns_of s (while_loop s c e) in
      plain-both (goal-plain turns c) (plain-both (goal-plain (behind_exp turns c) e) (record { each = ((refl, tt), tt) }))
  goal-plain s (do_while e c) =
      let turns : Site = turns_of s (do_loop s e c) in
      plain-both (goal-plain turns e) (plain-both (goal-plain (behind_exp turns e) c) (record { each = ((refl, tt), tt) }))
  goal-plain s e = plain-none

  conjuncts-plain : (s : Site) (es : ExpTrees) → ArePlain (conjunct_helpers s es)
  conjuncts-plain s no_exps = plain-none
  conjuncts-plain s (exp e es) = plain-both (goal-plain s e) (conjuncts-plain (behind_exp s e) es)

  branches-plain : (s : Site) (bs : ExpBranches) → ArePlain (branch_helpers s bs)
  branches-plain s no_branches = plain-none
  branches-plain s (branch c e bs) =
      plain-both (goal-plain s c) (plain-both (goal-plain (behind_exp s c) e) (branches-plain (behind_site s (places c ++ places e) (helpers_in c + helpers_in e)) bs))

  units-plain : (s : Site) (ending : Ending) (i : Inner) (us : ExpTrees) (body : Site → SlotNames → SlotGoals) (inner : Site → List PredTree) → ((t : Site) → ArePlain (inner t)) → ArePlain (units_helpers s ending i us body inner)
  units-plain s ending i no_exps body inner are = are s
  units-plain s ending i (exp u us) body inner are =
      unit-plain (iterated u) _ _
      (λ e. iterated-plain s ending i u us e (collection_helpers s u) (units_helpers (elements_of s (iterator_loop s ending i u us e) u e) as_it_is i us body inner) (units (elements_of s (iterator_loop s ending i u us e) u e) as_it_is i us body)
      (collection-plain s u) (units-plain (elements_of s (iterator_loop s ending i u us e) u e) as_it_is i us body inner are))
      (plain-both (goal-plain s u) (units-plain (behind_exp s u) as_it_is i us body inner are))

  collection-plain : (s : Site) (u : ExpTree) → ArePlain (collection_helpers s u)
  collection-plain s (call name es) = at-plain (values_helpers (λ i. s) es) (values-plain (λ i. s) es) 1
  collection-plain s e = plain-none

-- ---- of programs

option-plain : (s : Site) (o : Option ExpTree) → ArePlain (option_helpers s o)
option-plain s None = plain-none
option-plain s (Some e) = goal-plain s e

clause-plain : (called : Naming) (n : ℕ) (o : Option WrittenClause) → ArePlain (clause_helpers called n o)
clause-plain called n None = plain-none
clause-plain called n (Some (rule r)) = plain-both (option-plain (rule_site called n r) r.cond) (goal-plain (behind_option (rule_site called n r) r.cond) r.body)
clause-plain called n (Some (function f)) =
    plain-both (option-plain (function_site called n f) f.cond) (plain-both (option-plain (behind_option (function_site called n f) f.cond) f.body) (value-plain (value_site called n f) f.value))
clause-plain called n (Some (fact head)) = plain-none

loops-plain : (called : Naming) (n : ℕ) (program : ProgramTree) → ArePlain (helpers_of called n program)
unfolding helpers_of
loops-plain called n [] = plain-none
loops-plain called n (p ∷ ps) = plain-both (clause-plain called n p.clause) (loops-plain called (n + clause_count p.clause) ps)

abbrev WithoutEvents : Bool → Signature → ClauseTree → Type 0
WithoutEvents kind s c = c.watches ≡ []

abbrev AnyName : Bool → Signature → Modes → Type 0
AnyName kind s m = s ≡ s

fact-plain : (head : ExpTree) → (lowered_fact head).watches ≡ []
unfolding lowered_fact
fact-plain head = refl

clauses-plain : (called : Naming) (n : ℕ) (parts : ProgramTree) → All (Holds AnyName WithoutEvents) (clauses_of called n parts)
unfolding clauses_of
clauses-plain called n [] = All-nil (Holds AnyName WithoutEvents)
clauses-plain called n (p ∷ ps) = go (index_of p.decl) p.clause (clauses-plain called (n + clause_count p.clause) ps)
  where
    more : (c : Lowering) (cs : List Lowering) → c.clause.watches ≡ [] → All (Holds AnyName WithoutEvents) cs → All (Holds AnyName WithoutEvents) (c ∷ cs)
    more c cs is rest = All-cons (Holds AnyName WithoutEvents) c cs (record { named = refl; clause = is }) rest

    go : (m : Modes) (o : Option WrittenClause) → All (Holds AnyName WithoutEvents) (clauses_of called (n + clause_count o) ps) → All (Holds AnyName WithoutEvents) (cons_option (written_clause called n m o) (clauses_of called (n + clause_count o) ps))
    go m None rest = rest
    go m (Some (rule r)) rest = more _ _ refl rest
    go m (Some (function f)) rest = more _ _ refl rest
    go m (Some (fact head)) rest = more _ _ (fact-plain head) rest

-- those of any text
pub texts-plain : (s : Site) (e : ExpTree) → All IsPlain (goal_helpers s e)
texts-plain s e = all-plain-of (goal_helpers s e) (goal-plain s e).each

pub programs-plain : LoweredProgramsArePlain
unfolding core_program
programs-plain program within called =
    All-append IsPlain (grouped_all (clauses_of called 0 (prelude ++ program))) (helpers_of called 0 (prelude ++ program))
    (All-weaker (HoldsOf AnyName WithoutEvents) IsPlain (λ p is. record { watches = is.clauses }) (grouped_all (clauses_of called 0 (prelude ++ program)))
    (groups-hold AnyName WithoutEvents (clauses_of called 0 (prelude ++ program)) (clauses-plain called 0 (prelude ++ program)))) (all-plain-of (helpers_of called 0 (prelude ++ program)) (loops-plain called 0 (prelude ++ program)).each)
