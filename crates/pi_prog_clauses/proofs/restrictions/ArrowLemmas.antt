-- Arrows and events that don't fit the kind of their clause.
use Rattle.std.proofs.Common.{◌≡◌, Bool, true, false, ◌&&◌, ◌||◌, not, List, Option, Some, None, refl, ap, sym, subst, ◌∙◌}
use Rattle.std.specs.Prelude.{is_some}
use Rattle.std.specs.List.{list_any}
use Rattle.std.specs.declared.alloc.Global.{Global}
use Rattle.std.specs.declared.boxed.Box.{Box}
use Rattle.pi_syntax.specs.ExpLists.{exps_of}
use Rattle.pi_syntax.specs.ExpTree.{ExpTree, ExpTrees, exp_tree}
use Rattle.pi_syntax.specs.ProgramTree.{WrittenClause, fact, events_between, written_clause}
use Rattle.pi_syntax.specs.declared.exp.Exp.{Exp}
use Rattle.pi_syntax.specs.declared.program.Clause.{Clause}
use Rattle.pi_syntax.specs.declared.program.FunctionClause.{FunctionClause}
use Rattle.pi_syntax.specs.declared.program.RuleClause.{RuleClause}
use Rattle.pi_prog_clauses.specs.Items.{head_of, is_function, is_function_with_choice_or_events, is_open_action_rule, has_bad_events, are_bad_events, has_bad_head, is_head, breaks_pattern, are_bad_nodes}
use Rattle.pi_prog_clauses.specs.Formed.{ShowsEvents, IsFormed}
use Rattle.pi_prog_clauses.specs.Places.{head_placed, clause_placed}
use Rattle.pi_prog_clauses.specs.Reading.{WrittenPart}
use Rattle.pi_prog_clauses.specs.Shape.{Shape, bare, ruled, Equation, ruled_clause, equation, units, first_unit, other_units, clause_of, shape_events, is_open}
use Rattle.pi_prog_clauses.specs.Verdict.{clause_in, has_bad_form}
use Rattle.pi_prog_clauses.specs.declared.clause.FormedClause.{FormedClause}

-- what is forbidden of an arrow and events
abbrev pub bad_arrow : Shape → Bool
bad_arrow s = is_function_with_choice_or_events s || (is_open_action_rule s || has_bad_events s)

abbrev arrow_by : Bool → ExpTree → Bool → Option ExpTrees → Bool
arrow_by is_of_function head o es = (is_of_function && (o || is_some es)) || ((is_some es && o) || are_bad_events head es)

bad_arrow_by : (s : Shape) → bad_arrow s ≡ arrow_by (is_function (clause_of s)) (head_of (clause_of s)) (is_open s) (shape_events s)
unfolding is_function_with_choice_or_events is_open_action_rule has_bad_events
bad_arrow_by s = refl

of_function : (head : ExpTree) (o : Bool) (es : Option ExpTrees) → (o || is_some es) ≡ arrow_by true head o es
of_function head true None = refl
of_function head false None = refl
of_function head true (Some es) = refl
of_function head false (Some es) = refl

of_none : (head : ExpTree) (o : Bool) → false ≡ arrow_by false head o None
of_none head o = refl

of_rule : (head : ExpTree) (o : Bool) (es : ExpTrees) → (o || are_bad_events head (Some es)) ≡ arrow_by false head o (Some es)
of_rule head true es = refl
of_rule head false es = refl

pub function_arrow : (f : FormedClause) (boxed : Box FunctionClause Global) → f.clause ≡ Clause.Function boxed → (s : Shape) → IsFormed f s → (f.is_open || f.has_events) ≡ bad_arrow s
function_arrow f boxed is s formed =
    let clause : clause_of s ≡ written_clause (Clause.Function boxed) = sym formed.clause ∙ ap written_clause is in
    ap (λ x. x || f.has_events) formed.open_arrow ∙ ap (λ x. is_open s || x) formed.has_events
    ∙ of_function (head_of (clause_of s)) (is_open s) (shape_events s)
    ∙ ap (λ x. arrow_by x (head_of (clause_of s)) (is_open s) (shape_events s)) (sym (ap is_function clause))
    ∙ sym (bad_arrow_by s)

no_fact : (q : Option Equation) (head t body : ExpTree) (others : ExpTrees) (back : Bool) → fact t ≡ ruled_clause q head others back body → ⊥
no_fact None head t body others back h = cc
no_fact (Some q) head t body others back h = cc

fact_events : (s : Shape) (t : ExpTree) → fact t ≡ clause_of s → shape_events s ≡ None
fact_events (bare e) t h = refl
fact_events (ruled l back r) t h = absurd (no_fact (equation (first_unit (units l))) (first_unit (units l)) t r (other_units (units l)) back h)

pub fact_arrow : (f : FormedClause) (h : Box Exp Global) → f.clause ≡ Clause.Fact h → (s : Shape) → IsFormed f s → false ≡ bad_arrow s
fact_arrow f h is s formed =
    let clause : clause_of s ≡ fact (exp_tree h.value) = sym formed.clause ∙ ap written_clause is in
    of_none (head_of (clause_of s)) (is_open s)
    ∙ ap (arrow_by false (head_of (clause_of s)) (is_open s)) (sym (fact_events s (exp_tree h.value) (sym clause)))
    ∙ ap (λ x. arrow_by x (head_of (clause_of s)) (is_open s) (shape_events s)) (sym (ap is_function clause))
    ∙ sym (bad_arrow_by s)

rule_by : (c : Clause) (head : ExpTree) (events : List Exp) (o has : Bool) (es : Option ExpTrees) → has ≡ is_some es → (has ≡ true → es ≡ Some (exps_of events))
    → (has && (o || are_bad_events head (Some (exps_of events)))) ≡ arrow_by false head o es
rule_by c head events o true None is shown = absurd (cc)
rule_by c head events o false None is shown = refl
rule_by c head events o true (Some es) is shown = ap (λ x. o || are_bad_events head x) (sym (shown refl)) ∙ of_rule head o es
rule_by c head events o false (Some es) is shown = absurd (cc)

rule_events : (c : Clause) (boxed : Box RuleClause Global) (es : Option ExpTrees) (has : Bool) → c ≡ Clause.Rule boxed → has ≡ is_some es
    → ShowsEvents c es → has ≡ true → es ≡ Some (exps_of (events_between boxed.value.between))
rule_events c boxed None has is some shows holds = absurd (cc)
rule_events c boxed (Some es) has is some shows holds =
    let same : exps_of (events_between boxed.value.between) ≡ es = subst (λ x. ShowsEvents x (Some es)) is shows in ap (λ x. Some x) (sym same)

-- events beside the arrow `=>`
pub action_events : (has back bad : Bool) → has ≡ true → back ≡ false → bad ≡ (has && (back || bad))
action_events true false bad h k = refl
action_events true true bad h k = absurd (cc)
action_events false back bad h k = absurd (cc)

pub rule_arrow : (f : FormedClause) (boxed : Box RuleClause Global) (r : RuleClause) (bad : Bool) → f.clause ≡ Clause.Rule boxed → r ≡ boxed.value
    → bad ≡ (f.has_events && (f.is_open || are_bad_events (exp_tree r.head) (Some (exps_of (events_between r.between))))) → (s : Shape) → IsFormed f s → bad ≡ bad_arrow s
rule_arrow f boxed r bad is rule_is answer s formed =
    let clause : clause_of s ≡ written_clause (Clause.Rule boxed) = sym formed.clause ∙ ap written_clause is in
    let head : ExpTree = exp_tree boxed.value.head in
    answer ∙ ap (λ (x : RuleClause). f.has_events && (f.is_open || are_bad_events (exp_tree x.head) (Some (exps_of (events_between x.between))))) rule_is
    ∙ rule_by f.clause head (events_between boxed.value.between) f.is_open f.has_events (shape_events s) formed.has_events (rule_events f.clause boxed (shape_events s) f.has_events is formed.has_events formed.events)
    ∙ ap (λ x. arrow_by false head x (shape_events s)) formed.open_arrow
    ∙ ap (λ x. arrow_by false x (is_open s) (shape_events s)) (sym (ap head_of clause))
    ∙ ap (λ x. arrow_by x (head_of (clause_of s)) (is_open s) (shape_events s)) (sym (ap is_function clause))
    ∙ sym (bad_arrow_by s)

-- ---- the whole

abbrev bad_head : ExpTree → Bool
bad_head h = not (is_head h) || list_any breaks_pattern (head_placed h)

head_bad : (c : WrittenClause) → has_bad_head c ≡ bad_head (head_of c)
unfolding has_bad_head
head_bad c = refl

abbrev pub IsHeadAnswer : FormedClause → ExpTree → Bool → Type 0
IsHeadAnswer f h b = b ≡ bad_head h

form_head : (f : FormedClause) (h : ExpTree) (b : Bool) → h ≡ head_of (written_clause f.clause) → b ≡ bad_head h → (p : WrittenPart) → IsFormed f p.shape → b ≡ has_bad_head (clause_in p)
form_head f h b is answer p formed = answer ∙ ap bad_head (is ∙ ap head_of formed.clause) ∙ sym (head_bad (clause_in p))

any_first : (a b c : Bool) → a ≡ true → (a || (b || c)) ≡ true
any_first true b c h = refl
any_first false b c h = absurd (cc)

any_second : (a b c : Bool) → b ≡ true → (a || (b || c)) ≡ true
any_second true b c h = refl
any_second false true c h = refl
any_second false false c h = absurd (cc)

any_third : (a b c : Bool) → a ≡ false → b ≡ false → (a || (b || c)) ≡ c
any_third true b c h k = absurd (cc)
any_third false true c h k = absurd (cc)
any_third false false c h k = refl

pub form_by_head : (f : FormedClause) (h : ExpTree) (b : Bool) → h ≡ head_of (written_clause f.clause) → b ≡ bad_head h → b ≡ true → (p : WrittenPart) → IsFormed f p.shape → true ≡ has_bad_form p
form_by_head f h b is answer holds p formed =
    sym (any_second (bad_arrow p.shape) (has_bad_head (clause_in p)) (are_bad_nodes (clause_placed (clause_in p))) (sym (form_head f h b is answer p formed) ∙ holds))

pub form_by_arrow : (f : FormedClause) (a : Bool) → ((s : Shape) → IsFormed f s → a ≡ bad_arrow s) → a ≡ true → (p : WrittenPart) → IsFormed f p.shape → true ≡ has_bad_form p
form_by_arrow f a arrow holds p formed = sym (any_first (bad_arrow p.shape) (has_bad_head (clause_in p)) (are_bad_nodes (clause_placed (clause_in p))) (sym (arrow p.shape formed) ∙ holds))

pub form_by_nodes : (f : FormedClause) (h : ExpTree) (a b c : Bool) → ((s : Shape) → IsFormed f s → a ≡ bad_arrow s) → a ≡ false → h ≡ head_of (written_clause f.clause) → b ≡ bad_head h → b ≡ false
    → c ≡ are_bad_nodes (clause_placed (written_clause f.clause)) → (p : WrittenPart) → IsFormed f p.shape → c ≡ has_bad_form p
form_by_nodes f h a b c arrow no_arrow is answer no_head nodes p formed =
    nodes ∙ ap (λ x. are_bad_nodes (clause_placed x)) formed.clause
    ∙ sym (any_third (bad_arrow p.shape) (has_bad_head (clause_in p)) (are_bad_nodes (clause_placed (clause_in p))) (sym (arrow p.shape formed) ∙ no_arrow) (sym (form_head f h b is answer p formed) ∙ no_head))
