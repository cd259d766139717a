-- Rules and functions over names do what their clauses do over slots.
use Rattle.std.proofs.Common.{◌≡◌, ℕ, suc, ◌≤◌, Bool, true, false, cond, List, [], ◌∷◌, ◌++◌, length, refl, sym, ◌∙◌, ap, subst, arith}
use Rattle.std.specs.Prelude.{Option, Some, None, replicate}
use Rattle.std.proofs.lemmas.Bool.{false≢true}
use Rattle.pi_terms.specs.Tree.{Tree, Trees}
use Rattle.pi_terms.specs.Places.{Places}
use Rattle.pi_constraints.specs.State.{State, bindings}
use Rattle.pi_constraints.specs.HeadMatch.{matched_all_in}
use Rattle.pi_constraints.specs.Evaluation.{Evaluated}
use Rattle.pi_syntax.specs.ExpTree.{ExpTree}
use Rattle.pi_syntax.specs.ProgramTree.{RuleTree, FunctionTree}
use Rattle.pi_core.specs.GoalTree.{GoalTree, truth, fail, tick, call, apply, seq, alternatives, if_else, not, once, collect, count, catch, goals_of}
use Rattle.pi_core.specs.CoreTree.{backtracks, ClauseTree}
use Rattle.pi_traces.specs.Trace.{Trace, one, then}
use Rattle.pi_traces.specs.Control.{chosen}
use Rattle.pi_traces.proofs.TraceLemmas.{then-one, then-assoc}
use Rattle.pi_traces.proofs.RelatedLemmas.{Same, same}
use Rattle.pi_meaning.specs.Shared.Level.{Level, Applied, Point}
use Rattle.pi_meaning.specs.CoreMeaning.Builtins.{Builtins}
use Rattle.pi_meaning.specs.OverNames.Environment.{Environment, Valued}
use Rattle.pi_meaning.specs.OverNames.Place.{Place}
use Rattle.pi_meaning.specs.OverNames.WrittenRules.{head_arguments}
use Rattle.pi_meaning.specs.CoreMeaning.Meaning.{draining, strictly, meaning, meaning_of_all}
use Rattle.pi_meaning.specs.CoreMeaning.Rules.{guarded, chosen_rule, rule_before, rules, body_or_agent, value_at, value_run, rule_by, rules_by}
use Rattle.pi_meaning.specs.OverNames.Texts.{Names, behind, places}
use Rattle.pi_meaning.specs.OverNames.Stages.{RulesSetting}
use Rattle.pi_meaning.specs.OverNames.Control.{strictly as names_strictly}
use Rattle.pi_meaning.specs.OverNames.Forms.{plain}
use Rattle.pi_meaning.specs.OverNames.Goals.{goal_of, value_of}
use Rattle.pi_meaning.specs.OverNames.Heads.{patterns_matched}
use Rattle.pi_meaning.specs.OverNames.Rules as over_names
use Rattle.pi_meaning.specs.OverNames.Rules.{places_in, names_before, rule_or_later, rules_called, function_names, body_or_none, applied, function_or_later, functions_called, tried_rule, call_made}
use Rattle.pi_rewrite_spec.specs.Slots.{SlotNames}
use Rattle.pi_rewrite_spec.specs.Values.{SlotValue}
use Rattle.pi_rewrite_spec.specs.Goals.{SlotGoals, in_turn}
use Rattle.pi_rewrite_spec.specs.Clauses.{head_forms, head_slots, is_truth, as_guard, guard_of, rule_with, function_with}
use Rattle.pi_rewrite_spec.specs.Forms.{Knows, ArePatterns}
use Rattle.pi_rewrite_spec.proofs.SameLemmas.{SameBy, same-equals, same-one, same-then, same-chosen, same-equal}
use Rattle.pi_rewrite_spec.proofs.AgreeLemmas.{Room, free_room, Grows, grows-none, grows-length, Agrees}
use Rattle.pi_rewrite_spec.proofs.NewNameLemmas.{agrees-nothing}
use Rattle.pi_rewrite_spec.proofs.RunLemmas.{Alike, point, place, AtPlace, at_place, AtValue, at_value, SameGoals, SameLast, not-drained, same-strictly}
use Rattle.pi_rewrite_spec.proofs.ControlLemmas.{Drains, turn-from}
use Rattle.pi_rewrite_laws.proofs.HeadLemmas.{Both, neither, both_match, patterns-match}
use Rattle.pi_rewrite_laws.proofs.FoundLemmas.{values-behind}

-- ---- conditions

goal-guarded : (b : Builtins) (g : GoalTree) → is_truth g ≡ false → (p : Point) → guarded b g p ≡ strictly (meaning b g) p
goal-guarded b truth is p = absurd (false≢true (sym is))
goal-guarded b fail is p = refl
goal-guarded b tick is p = refl
goal-guarded b (call name args) is p = refl
goal-guarded b (apply name args slot) is p = refl
goal-guarded b (seq gs) is p = refl
goal-guarded b (alternatives gs) is p = refl
goal-guarded b (if_else test then other) is p = refl
goal-guarded b (not g) is p = refl
goal-guarded b (once g) is p = refl
goal-guarded b (collect g value into) is p = refl
goal-guarded b (count g into) is p = refl
goal-guarded b (catch g ball handler) is p = refl

just-truth : (g : GoalTree) → is_truth g ≡ true → g ≡ truth
just-truth truth is = refl
just-truth fail is = absurd (false≢true is)
just-truth tick is = absurd (false≢true is)
just-truth (call name args) is = absurd (false≢true is)
just-truth (apply name args slot) is = absurd (false≢true is)
just-truth (seq gs) is = absurd (false≢true is)
just-truth (alternatives gs) is = absurd (false≢true is)
just-truth (if_else test then other) is = absurd (false≢true is)
just-truth (not g) is = absurd (false≢true is)
just-truth (once g) is = absurd (false≢true is)
just-truth (collect g value into) is = absurd (false≢true is)
just-truth (count g into) is = absurd (false≢true is)
just-truth (catch g ball handler) is = absurd (false≢true is)

guard-runs : (b : Builtins) (l : Level) → Drains l → (g : GoalTree) (slots : Places) (s : State) → guarded b (as_guard g) (point l slots s) ≡ strictly (meaning b g) (point l slots s)
unfolding meaning strictly
guard-runs b l drains g slots s = go (is_truth g) refl
  where
    go : (test : Bool) → is_truth g ≡ test → guarded b (cond (is_truth g) (seq (goals_of (truth ∷ []))) g) (point l slots s) ≡ strictly (meaning b g) (point l slots s)
    go true is =
        ap (λ c. guarded b (cond c (seq (goals_of (truth ∷ []))) g) (point l slots s)) is
        ∙ ap (λ (t : Trace Point). then t (draining (λ q. one q))) (not-drained (meaning_of_all b (goals_of (truth ∷ []))) (point l slots s) drains ∙ then-one (meaning b truth (point l slots s)))
        ∙ ap (λ (h : GoalTree). strictly (meaning b h) (point l slots s)) (sym (just-truth g is))
    go false is = ap (λ c. guarded b (cond c (seq (goals_of (truth ∷ []))) g) (point l slots s)) is ∙ goal-guarded b g is (point l slots s)

-- ---- goals that may be left out

-- a condition is a strict place; where there is none nothing is run
pub data GuardSame (set : RulesSetting) (b : Builtins) (l m : Level) (h : ℕ) (before : Names) : Option ExpTree → (SlotNames → SlotGoals) → Type 0 where
  no_guard : GuardSame set b l m h before None (λ ns. record { goals = []; names = ns })
  a_guard : (c : ExpTree) (lg : SlotNames → SlotGoals) → SameGoals b l m h (goal_of set.calls before c) lg → GuardSame set b l m h before (Some c) lg

guard-same : (known : Knows) (set : RulesSetting) (b : Builtins) (l m : Level) (h : ℕ) → Alike known set.calls b l m → (before : Names) (o : Option ExpTree) (lg : SlotNames → SlotGoals) → GuardSame set b l m h before o lg →
    (n : Room) (ns : SlotNames) (e : Environment) (slots : Places) (s : State) → Agrees n h ns e slots → length (lg ns).names ≤ n.slots →
    SameBy (AtPlace l n h (lg ns).names) (guarded b (guard_of o (lg ns)) (point l slots s)) (over_names.guarded set before o m (place e s))
guard-same known set b l m h alike before _ _ no_guard n ns e slots s a room = same-one (AtPlace l n h ns) _ _ (at_place e slots s a)
guard-same known set b l m h alike before _ _ (a_guard c lg is) n ns e slots s a room =
    subst (λ (t : Trace Point). SameBy (AtPlace l n h (lg ns).names) t (names_strictly (goal_of set.calls before c) m (place e s))) (sym (guard-runs b l alike.core_drains (in_turn (lg ns).goals) slots s))
    (same-strictly known set.calls b l m h (goal_of set.calls before c) lg alike is n ns e slots s a room)

guard-grows : (set : RulesSetting) (b : Builtins) (l m : Level) (h : ℕ) (before : Names) (o : Option ExpTree) (lg : SlotNames → SlotGoals) → GuardSame set b l m h before o lg → (ns : SlotNames) → Grows ns (lg ns).names
guard-grows set b l m h before _ _ no_guard ns = grows-none ns
guard-grows set b l m h before _ _ (a_guard c lg is) ns = is.grows ns

-- ---- the states of answers

state-same : (l : Level) (n : Room) (h : ℕ) (ns : SlotNames) (p : Point) (q : Place) → AtPlace l n h ns p q → SameBy Same (one p.state) (one q.state)
state-same l n h ns _ _ (at_place e slots s a) = same-one Same s s (same s)

value-same : (l : Level) (n : Room) (h : ℕ) (ns : SlotNames) (t : Tree) (start : Places) (p : Point) (x : Valued) → AtValue l n h ns t start p x → SameBy Same (value_at (Some t) p) (one (applied x))
value-same l n h ns t start _ _ (at_value slots s x c extends) =
    subst (λ (y : Evaluated). SameBy Same (one (record { value = y.tree; state = y.state })) (one (applied x))) (sym c.comes) (same-one Same _ _ (same (applied x)))

-- the body of a rule
rule-body : (set : RulesSetting) (b : Builtins) (l m : Level) (h : ℕ) → Drains l → (before : Names) (e : ExpTree) (lg : SlotNames → SlotGoals) → SameGoals b l m h (goal_of set.calls before e) lg → (n : Room) (ns : SlotNames) → length (lg ns).names ≤ n.slots →
    (p : Point) (q : Place) → AtPlace l n h ns p q → then (meaning b (in_turn (lg ns).goals) p) (λ r. one r.state) ≡ then (goal_of set.calls before e m q) (λ r. one r.state)
rule-body set b l m h drains before e lg is n ns room p q at =
    same-equal _ _ (same-then (AtPlace l n h (lg ns).names) Same _ _ (λ r. one r.state) (λ r. one r.state) (turn-from b l m h (goal_of set.calls before e) lg drains is n ns room p q at) (state-same l n h (lg ns).names))

-- ---- rules, of what their parts are lowered to

-- what a head comes to, from empty slots
head-tried : (s : State) (head : ExpTree) → ArePatterns (head_arguments head) → (n : ℕ) → length (head_forms head).names ≤ n → (ts : Trees) →
    Both (free_room n) (head_forms head).names (matched_all_in (bindings s) (head_forms head).forms ts (replicate n None)) (patterns_matched (bindings s) (head_arguments head) ts [])
head-tried s head is n room ts = patterns-match (bindings s) (free_room n) (head_arguments head) is [] room [] (replicate n None) (agrees-nothing n) ts

-- a rule with these for its condition and its body
abbrev pub rule_of : RuleTree → (SlotNames → SlotGoals) → (SlotNames → SlotGoals) → ClauseTree
rule_of r lc lb =
    let guard : SlotGoals = lc (head_forms r.head).names in
    rule_with r (head_slots r.head) (head_forms r.head) guard (lb guard.names)

-- a clause that does what a rule does
pub data RuleSame (set : RulesSetting) (b : Builtins) (l m : Level) (r : RuleTree) : ClauseTree → Type 0 where
  same_rule : (lc lb : SlotNames → SlotGoals) → ArePatterns (head_arguments r.head) → r.events ≡ [] → GuardSame set b l m (head_slots r.head) (behind [] (places r.head)) r.cond lc →
      SameGoals b l m (head_slots r.head) (goal_of set.calls (names_before r.head r.cond) r.body) lb → RuleSame set b l m r (rule_of r lc lb)

rule-answer : (known : Knows) (set : RulesSetting) (b : Builtins) (l m : Level) → Alike known set.calls b l m → (r : RuleTree) (lc lb : SlotNames → SlotGoals) → r.events ≡ [] → GuardSame set b l m (head_slots r.head) (behind [] (places r.head)) r.cond lc →
    SameGoals b l m (head_slots r.head) (goal_of set.calls (names_before r.head r.cond) r.body) lb → (the_call : Tree) (i : ℕ) (s : State) (rest later : Trace State) → rest ≡ later →
    (o : Option Places) (p : Option Environment) → Both (free_room (rule_of r lc lb).slots) (head_forms r.head).names o p →
    rule_before b l (rule_by (rule_of r lc lb) r.back (λ q. body_or_agent b the_call i (rule_of r lc lb) [] q)) s rest o ≡ rule_or_later set (tried_rule the_call i r) m s later p
rule-answer known set b l m alike r lc lb events guard body the_call i s rest later e _ _ neither = e
rule-answer known set b l m alike r lc lb events guard body the_call i s rest later e _ _ (both_match names slots a) =
    same-equal _ _ (same-chosen (AtPlace l n h ms) Same _ _ _ _ _ _
    (guard-same known set b l m h alike (behind [] (places r.head)) r.cond lc guard n (head_forms r.head).names names slots s a (omega (arith, grows-length ms _ (body.grows ms))))
    (λ p q at. same-equals _ _ (ap (λ (t : Trace State). chosen_rule r.back t rest) (rule-body set b l m h alike.core_drains (names_before r.head r.cond) r.body lb body n ms (omega arith) p q at)
    ∙ ap (chosen_rule r.back (then (goal_of set.calls (names_before r.head r.cond) r.body m q) (λ x. one x.state))) e))
    (same-equals _ _ e))
    ∙ ap (λ (es : List ExpTree). chosen (over_names.guarded set (behind [] (places r.head)) r.cond m (place names s)) (λ q. chosen_rule (over_names.leaves_later r es) (over_names.body_or_agent set (over_names.tried_rule the_call i r) es m q) later) later) (sym events)
  where
    h : ℕ
    h = head_slots r.head

    ms : SlotNames
    ms = (lc (head_forms r.head).names).names

    n : Room
    n = free_room (length (lb ms).names)

-- slots enough for the head
rule-room : (set : RulesSetting) (b : Builtins) (l m : Level) (r : RuleTree) (lc lb : SlotNames → SlotGoals) → GuardSame set b l m (head_slots r.head) (behind [] (places r.head)) r.cond lc →
    SameGoals b l m (head_slots r.head) (goal_of set.calls (names_before r.head r.cond) r.body) lb → length (head_forms r.head).names ≤ (rule_of r lc lb).slots
rule-room set b l m r lc lb guard body =
    let ms : SlotNames = (lc (head_forms r.head).names).names in
    omega (arith, grows-length (head_forms r.head).names ms (guard-grows set b l m (head_slots r.head) (behind [] (places r.head)) r.cond lc guard (head_forms r.head).names), grows-length ms _ (body.grows ms))

pub data RulesSame (set : RulesSetting) (b : Builtins) (l m : Level) : List RuleTree → List ClauseTree → Type 0 where
  no_rules : RulesSame set b l m [] []
  more_rules : (r : RuleTree) (rs : List RuleTree) (c : ClauseTree) (cs : List ClauseTree) → RuleSame set b l m r c → RulesSame set b l m rs cs → RulesSame set b l m (r ∷ rs) (c ∷ cs)

pub clauses-same : (known : Knows) (set : RulesSetting) (b : Builtins) (l m : Level) → Alike known set.calls b l m → (rs : List RuleTree) (cs : List ClauseTree) → RulesSame set b l m rs cs → (the_call : Tree) (i : ℕ) (ts : Trees) (s : State) →
    rules (rules_by b l (λ c. backtracks c.back c.watches) (λ i c p. body_or_agent b the_call i c c.watches p)) i cs ts s ≡ rules_called set the_call i rs (call_made m ts s)
unfolding rules rules_called
clauses-same known set b l m alike _ _ no_rules the_call i ts s = refl
clauses-same known set b l m alike _ _ (more_rules r rs _ cs (same_rule lc lb head events guard body) rest) the_call i ts s =
    rule-answer known set b l m alike r lc lb events guard body the_call i s
    (rules (rules_by b l (λ c. backtracks c.back c.watches) (λ i c p. body_or_agent b the_call i c c.watches p)) (suc i) cs ts s) (rules_called set the_call (suc i) rs (call_made m ts s))
    (clauses-same known set b l m alike rs cs rest the_call (suc i) ts s) _ _ (head-tried s r.head head (rule_of r lc lb).slots (rule-room set b l m r lc lb guard body) ts)

-- ---- functions, of what their parts are lowered to

abbrev pub function_of : FunctionTree → (SlotNames → SlotGoals) → (SlotNames → SlotGoals) → (SlotNames → SlotValue) → ClauseTree
function_of f lc lb lv =
    let guard : SlotGoals = lc (head_forms f.head).names in
    let body : SlotGoals = lb guard.names in
    function_with f (head_forms f.head) guard body (lv body.names)

-- a body that may be missing, and behind it the value
pub record FunctionParts (set : RulesSetting) (b : Builtins) (l m : Level) (f : FunctionTree) (lc lb : SlotNames → SlotGoals) (lv : SlotNames → SlotValue) : Type 0 where
  pub head : ArePatterns (head_arguments f.head)
  pub guard : GuardSame set b l m (head_slots f.head) (function_names f) f.cond lc
  pub body : SameGoals b l m (head_slots f.head) (body_or_none set (behind (function_names f) (places_in f.cond)) f.body) lb
  pub value : SameLast b l m (head_slots f.head) (value_of set.calls plain (behind (names_before f.head f.cond) (places_in f.body)) f.value) lv

run-same : (known : Knows) (set : RulesSetting) (b : Builtins) (l m : Level) → Alike known set.calls b l m → (f : FunctionTree) (lc lb : SlotNames → SlotGoals) (lv : SlotNames → SlotValue) → FunctionParts set b l m f lc lb lv → (n : Room) (ns : SlotNames) →
    length (lv (lb ns).names).names ≤ n.slots → (p : Point) (q : Place) → AtPlace l n (head_slots f.head) ns p q →
    then (strictly (meaning b (in_turn ((lb ns).goals ++ (lv (lb ns).names).goals))) p) (value_at (Some (lv (lb ns).names).tree)) ≡ over_names.value_run set f m q
run-same known set b l m alike f lc lb lv is n ns room _ _ (at_place e slots s a) =
    let h : ℕ = head_slots f.head in
    let before : Names = behind (function_names f) (places_in f.cond) in
    let within : Names = behind (names_before f.head f.cond) (places_in f.body) in
    let ms : SlotNames = (lb ns).names in
    same-equal _ _ (same-then (AtValue l n h (lv ms).names (lv ms).tree []) Same _ _ (value_at (Some (lv ms).tree)) (λ x. one (applied x))
    (values-behind known set.calls b l m h (body_or_none set before f.body) (value_of set.calls plain within f.value) lb lv alike is.body is.value n ns e slots s a room)
    (value-same l n h (lv ms).names (lv ms).tree []))
    ∙ then-assoc (names_strictly (body_or_none set before f.body) m (place e s)) (value_of set.calls plain within f.value m) (λ x. one (applied x))

function-answer : (known : Knows) (set : RulesSetting) (b : Builtins) (l m : Level) → Alike known set.calls b l m → (f : FunctionTree) (lc lb : SlotNames → SlotGoals) (lv : SlotNames → SlotValue) → FunctionParts set b l m f lc lb lv → (s : State) (rest later : Trace Applied) →
    rest ≡ later → (o : Option Places) (p : Option Environment) → Both (free_room (function_of f lc lb lv).slots) (head_forms f.head).names o p →
    rule_before b l (rule_by (function_of f lc lb lv) false (λ q. value_run b (function_of f lc lb lv) q)) s rest o ≡ function_or_later set f m s later p
function-answer known set b l m alike f lc lb lv is s rest later e _ _ neither = e
function-answer known set b l m alike f lc lb lv is s rest later e _ _ (both_match names slots a) =
    same-equal _ _ (same-chosen (AtPlace l n h ms) Same _ _ _ _ _ _
    (guard-same known set b l m h alike (function_names f) f.cond lc is.guard n (head_forms f.head).names names slots s a (omega (arith, grows-length ms ks (is.body.grows ms), grows-length ks _ (is.value.grows ks))))
    (λ p q at. same-equals _ _ (run-same known set b l m alike f lc lb lv is n ms (omega arith) p q at))
    (same-equals _ _ e))
  where
    h : ℕ
    h = head_slots f.head

    ms : SlotNames
    ms = (lc (head_forms f.head).names).names

    ks : SlotNames
    ks = (lb ms).names

    n : Room
    n = free_room (length (lv ks).names)

function-room : (set : RulesSetting) (b : Builtins) (l m : Level) (f : FunctionTree) (lc lb : SlotNames → SlotGoals) (lv : SlotNames → SlotValue) → FunctionParts set b l m f lc lb lv → length (head_forms f.head).names ≤ (function_of f lc lb lv).slots
function-room set b l m f lc lb lv is =
    let ms : SlotNames = (lc (head_forms f.head).names).names in
    let ks : SlotNames = (lb ms).names in
    omega (
      arith,
      grows-length (head_forms f.head).names ms (guard-grows set b l m (head_slots f.head) (function_names f) f.cond lc is.guard (head_forms f.head).names),
      grows-length ms ks (is.body.grows ms),
      grows-length ks _ (is.value.grows ks),
    )

pub data FunctionsSame (set : RulesSetting) (b : Builtins) (l m : Level) : List FunctionTree → List ClauseTree → Type 0 where
  no_functions : FunctionsSame set b l m [] []
  more_functions : (f : FunctionTree) (fs : List FunctionTree) (cs : List ClauseTree) (lc lb : SlotNames → SlotGoals) (lv : SlotNames → SlotValue) → FunctionParts set b l m f lc lb lv → FunctionsSame set b l m fs cs → FunctionsSame set b l m (f ∷ fs) (function_of f lc lb lv ∷ cs)

pub values-same : (known : Knows) (set : RulesSetting) (b : Builtins) (l m : Level) → Alike known set.calls b l m → (fs : List FunctionTree) (cs : List ClauseTree) → FunctionsSame set b l m fs cs → (i : ℕ) (ts : Trees) (s : State) →
    rules (rules_by b l (λ c. false) (λ i c p. value_run b c p)) i cs ts s ≡ functions_called set fs m ts s
unfolding rules functions_called
values-same known set b l m alike _ _ no_functions i ts s = refl
values-same known set b l m alike _ _ (more_functions f fs cs lc lb lv is rest) i ts s =
    function-answer known set b l m alike f lc lb lv is s (rules (rules_by b l (λ c. false) (λ i c p. value_run b c p)) (suc i) cs ts s) (functions_called set fs m ts s) (values-same known set b l m alike fs cs rest (suc i) ts s) _ _
    (head-tried s f.head is.head (function_of f lc lb lv).slots (function-room set b l m f lc lb lv is) ts)
