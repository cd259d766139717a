-- The rules of a call, tried from one on.
use Rattle.std.proofs.Common.{◌≡◌, ℕ, ◌+◌, ◌-◌, ◌≤◌, ◌<◌, Bool, true, false, List, [], ◌∷◌, Option, Some, None, length, refl, sym, ◌∙◌, ap, subst, arith}
use Rattle.std.specs.Prelude.{slice_get, replicate}
use Rattle.std.proofs.lemmas.List.{length-drop}
use Rattle.pi_terms.specs.Places.{Places}
use Rattle.pi_constraints.specs.State.{State, bindings}
use Rattle.pi_constraints.specs.HeadMatch.{matched_all_in}
use Rattle.pi_constraints.specs.Store.{StoreView, Terms}
use Rattle.pi_constraints.specs.declared.store.Ref.{Ref}
use Rattle.pi_core.specs.GoalTree.{GoalTree, truth}
use Rattle.pi_core.specs.CoreTree.{ClauseTree}
use Rattle.pi_engine_code.specs.declared.code.Rule.{Rule}
use Rattle.pi_engine_code.specs.declared.code.Step.{Step}
use Rattle.pi_engine_code.specs.declared.code.Predicate.{Predicate}
use Rattle.pi_engine_arenas.specs.declared.run.Now.{Now}
use Rattle.pi_engine_code.specs.Code.{Tables}
use Rattle.pi_engine_arenas.specs.Arenas.{ArenasView}
use Rattle.pi_meaning.specs.Machine.Configuration.{Frame, Called, Config, Entry as EntryData}
use Rattle.pi_meaning.specs.Machine.Step.{try_rules, tried, guarding, taken, back_to, trial}
use Rattle.pi_engine_stands.specs.Here.{Block, Holds}
use Rattle.pi_engine_stands.specs.Stands.{World, now_here, tables_in, IsGuardHere, IsPredicateOf, clause_block, Stands}
use Rattle.pi_engine_stands.specs.Tries.{CallIs, Applies, KeepsBelow, TellsHead, HasArguments, MatchesHead}
use Rattle.pi_engine_stands.proofs.StandsLemmas.{moved}
use Rattle.pi_engine_stands.proofs.RulesTaken.{predicate-of, StackAfter}
use Rattle.pi_engine_stands.proofs.CallsStand.{arguments-move}
use Rattle.pi_engine_stands.proofs.CallsTried.{call-tried, call-passed, call-ended, below-moves}
use Rattle.pi_engine_stands.proofs.GuardsAnswered.{rule-of, rule-found}
use Rattle.pi_engine_stands.specs.Changes.{change}
use Rattle.pi_engine_arenas.specs.Frames.{call_at}

-- what is left to try comes to the same as the whole
pub record Trying {M : Type 0} (w : World M) (p base frame number : ℕ) (called : Called) (s : State) (k : List Frame) (es : List EntryData) (again : Bool) (whole : Config) : Type 0 where
  pub rest : List ClauseTree
  pub is : CallIs w p base frame number called rest s k es again
  pub args : HasArguments w base is.call.call.pred.arity called
  pub now : s ≡ w.store.now.state
  pub same : whole ≡ try_rules called rest (back_to [] s k) es

-- a rule of a call, with the rules behind it
pub record NextRule {M : Type 0} (w : World M) (p base frame number : ℕ) (called : Called) (s : State) (k : List Frame) (es : List EntryData) (again : Bool) (whole : Config) : Type 0 where
  pub clause : ClauseTree
  pub behind : List ClauseTree
  pub is : CallIs w p base frame number called (clause ∷ behind) s k es again
  pub args : HasArguments w base is.call.call.pred.arity called
  pub now : s ≡ w.store.now.state
  pub same : whole ≡ try_rules called (clause ∷ behind) (back_to [] s k) es

rest-count : {M : Type 0} (w : World M) (p base frame number : ℕ) (called : Called) (cs : List ClauseTree) (s : State) (k : List Frame) (es : List EntryData) (again : Bool) (predicate : Predicate) →
    (is : CallIs w p base frame number called cs s k es again) → is.call.call.predicate ≡ predicate → length cs ≡ predicate.end - number
rest-count w p base frame number called cs s k es again predicate is same =
    let in_tables : IsPredicateOf w.loaded.code (tables_in w.loaded) w.store.names is.call.call.pred is.call.call.predicate = predicate-of w p number called cs is.code is.call.call in
    let last : predicate.end ≡ is.call.call.predicate.first + length is.call.call.pred.clauses = ap (λ q. q.end) (sym same) ∙ in_tables.rules in
    let count : length cs ≡ length is.call.call.pred.clauses - (number - is.call.call.predicate.first) = ap length is.call.call.rules ∙ length-drop (number - is.call.call.predicate.first) is.call.call.pred.clauses in
    omega (arith, count, last, is.call.call.from)

next-of : {M : Type 0} (w : World M) (p base frame number : ℕ) (called : Called) (rest : List ClauseTree) (s : State) (k : List Frame) (es : List EntryData) (again : Bool) (whole : Config) → 0 < length rest →
    (is : CallIs w p base frame number called rest s k es again) → HasArguments w base is.call.call.pred.arity called → s ≡ w.store.now.state → whole ≡ try_rules called rest (back_to [] s k) es →
    NextRule w p base frame number called s k es again whole
next-of w p base frame number called [] s k es again whole some is args now same = absurd (omega (arith, some))
next-of w p base frame number called (c ∷ cs) s k es again whole some is args now same = record { clause = c; behind = cs; is = is; args = args; now = now; same = same }

pub next-rule : {M : Type 0} (w : World M) (p base frame number : ℕ) (called : Called) (s : State) (k : List Frame) (es : List EntryData) (again : Bool) (whole : Config) (predicate : Predicate) →
    (trying : Trying w p base frame number called s k es again whole) → trying.is.call.call.predicate ≡ predicate → number < predicate.end → NextRule w p base frame number called s k es again whole
next-rule w p base frame number called s k es again whole predicate trying same more =
    next-of w p base frame number called trying.rest s k es again whole (omega (arith, rest-count w p base frame number called trying.rest s k es again predicate trying.is same, more))
    trying.is trying.args trying.now trying.same

-- what a matched head says
tells-false : (t : Terms) (xs : List (Option Ref)) (b : Block) (m : Option Places) → TellsHead t xs b false m → m ≡ None
tells-false t xs b None told = refl
tells-false t xs b (Some e) told = absurd told

pub record Filled (t : Terms) (xs : List (Option Ref)) (b : Block) (m : Option Places) : Type 0 where
  pub slots : Places
  pub holds : Holds t xs b slots
  pub is : m ≡ Some slots

tells-true : (t : Terms) (xs : List (Option Ref)) (b : Block) (m : Option Places) → TellsHead t xs b true m → Filled t xs b m
tells-true t xs b None told = absurd told
tells-true t xs b (Some e) told = record { slots = e; holds = told; is = refl }

-- the head of the next rule doesn't match
pub rule-passed : {M : Type 0} (w : World M) (b : ArenasView M) (p base frame number : ℕ) (called : Called) (s : State) (k : List Frame) (es : List EntryData) (again : Bool) (whole : Config) →
    (n : NextRule w p base frame number called s k es again whole) → KeepsBelow w.arenas b (base + n.is.call.call.pred.arity) →
    TellsHead w.store.now.terms b.blocks.slots (clause_block base n.is.call.call.pred n.clause) false (matched_all_in (bindings w.store.now.state) n.clause.head called.args (replicate n.clause.slots None)) →
    Trying (moved w w.store b) p base frame (number + 1) called s k es again whole
unfolding try_rules
rule-passed w b p base frame number called s k es again whole n keeps told =
    let limit : ℕ = base + n.is.call.call.pred.arity in
    let none : matched_all_in (bindings s) n.clause.head called.args (replicate n.clause.slots None) ≡ None =
    ap (λ u. matched_all_in (bindings u) n.clause.head called.args (replicate n.clause.slots None)) n.now ∙ tells-false w.store.now.terms b.blocks.slots (clause_block base n.is.call.call.pred n.clause) _ told in
    record {
      rest = n.behind;
      is = call-passed (moved w w.store b) p base frame number called n.clause n.behind s k es again (call-tried w b p base frame number limit called (n.clause ∷ n.behind) s k es again n.is refl keeps);
      args = arguments-move (now_here w) (now_here (moved w w.store b)) base n.is.call.call.pred.arity limit frame called.args (omega arith) (below-moves w b limit frame keeps) n.args;
      now = n.now;
      same = n.same ∙ ap (λ m. tried (trial called n.clause n.behind (back_to [] s k) es) m (try_rules called n.behind (back_to [] s k) es)) none;
    }

-- it matches
pub record RuleApplies {M : Type 0} (w : World M) (p base frame number : ℕ) (called : Called) (s : State) (k : List Frame) (es : List EntryData) (again : Bool) (whole : Config) (predicate : Predicate) (rule : Rule) : Type 0 where
  pub clause : ClauseTree
  pub behind : List ClauseTree
  pub slots : Places
  pub applies : Applies w p base frame number called clause behind s k es again predicate rule slots
  pub same : whole ≡ guarding clause.guard (trial called clause behind (back_to [] s k) es) slots

pub rule-applies : {M : Type 0} (w : World M) (b : ArenasView M) (p base frame number : ℕ) (called : Called) (s : State) (k : List Frame) (es : List EntryData) (again : Bool) (whole : Config) (predicate : Predicate) (rule : Rule) →
    (n : NextRule w p base frame number called s k es again whole) → KeepsBelow w.arenas b (base + n.is.call.call.pred.arity) → n.is.call.call.predicate ≡ predicate → slice_get w.loaded.code.rules.items number ≡ Some rule →
    TellsHead w.store.now.terms b.blocks.slots (clause_block base n.is.call.call.pred n.clause) true (matched_all_in (bindings w.store.now.state) n.clause.head called.args (replicate n.clause.slots None)) →
    RuleApplies (moved w w.store b) p base frame number called s k es again whole predicate rule
unfolding try_rules
rule-applies w b p base frame number called s k es again whole predicate rule n keeps is_predicate found told =
    let limit : ℕ = base + n.is.call.call.pred.arity in
    let filled : Filled w.store.now.terms b.blocks.slots (clause_block base n.is.call.call.pred n.clause) (matched_all_in (bindings w.store.now.state) n.clause.head called.args (replicate n.clause.slots None)) =
    tells-true w.store.now.terms b.blocks.slots (clause_block base n.is.call.call.pred n.clause) _ told in
    let some : matched_all_in (bindings s) n.clause.head called.args (replicate n.clause.slots None) ≡ Some filled.slots =
    ap (λ u. matched_all_in (bindings u) n.clause.head called.args (replicate n.clause.slots None)) n.now ∙ filled.is in
    record {
      clause = n.clause;
      behind = n.behind;
      slots = filled.slots;
      applies = record {
        is = call-tried w b p base frame number limit called (n.clause ∷ n.behind) s k es again n.is refl keeps;
        is_predicate = is_predicate;
        is_rule = rule-of w p number called n.clause n.behind rule n.is.code n.is.call.call found;
        found = found;
        slots = filled.holds;
      };
      same = n.same ∙ ap (λ m. tried (trial called n.clause n.behind (back_to [] s k) es) m (try_rules called n.behind (back_to [] s k) es)) some;
    }

-- ---- a rule that has no condition

no-guard : (t : Tables) (steps : List Step) (b : Block) (found : Option ℕ) (g : GoalTree) → found ≡ None → IsGuardHere t steps b found g → g ≡ truth
no-guard t steps b None g is here = here
no-guard t steps b (Some place) g is here = absurd cc

pub guarding-taken : {M : Type 0} (w : World M) (p base frame number : ℕ) (called : Called) (c : ClauseTree) (cs : List ClauseTree) (s : State) (k : List Frame) (es : List EntryData) (again : Bool) (predicate : Predicate) (rule : Rule) (e : Places) →
    Applies w p base frame number called c cs s k es again predicate rule e → rule.guard ≡ None → s ≡ w.store.now.state →
    taken (trial called c cs (back_to [] s k) es) e w.store.now.state ≡ guarding c.guard (trial called c cs (back_to [] s k) es) e
guarding-taken w p base frame number called c cs s k es again predicate rule e applies none now =
    let without : c.guard ≡ truth = no-guard (tables_in w.loaded) w.loaded.code.steps.items (clause_block base applies.is.call.call.pred c) rule.guard c.guard none (applies.is_rule.guard base) in
    ap (λ u. taken (trial called c cs (back_to [] s k) es) e u) (sym now) ∙ ap (λ g. guarding g (trial called c cs (back_to [] s k) es) e) (sym without)

-- ---- by the arguments of the functions

-- the predicate that is found by a call's number
abbrev pub IsFound : {M : Type 0} → World M → ℕ → Predicate → Type 0
IsFound w p predicate = (q : Predicate) → slice_get w.loaded.code.predicates.items p ≡ Some q → predicate ≡ q

found-once : (o : Option Predicate) (p q : Predicate) → o ≡ Some p → o ≡ Some q → p ≡ q
found-once o p q h k = cc

pub found-there : {M : Type 0} (w : World M) (p : ℕ) (predicate : Predicate) → slice_get w.loaded.code.predicates.items p ≡ Some predicate → IsFound w p predicate
found-there w p predicate at = λ q h. found-once (slice_get w.loaded.code.predicates.items p) predicate q at h

-- there is one
pub call-has : {M X : Type 0} (w : World M) (p base frame from : ℕ) (called : Called) (cs : List ClauseTree) (s : State) (k : List Frame) (es : List EntryData) (again : Bool) → slice_get w.loaded.code.predicates.items p ≡ None → CallIs w p base frame from called cs s k es again → X
call-has w p base frame from called cs s k es again none is =
    let both : Some is.call.call.predicate ≡ None = sym is.call.call.is_predicate ∙ none in
    absurd cc

no-rest : (cs : List ClauseTree) → length cs ≡ 0 → cs ≡ []
no-rest [] h = refl
no-rest (c ∷ cs) h = absurd (omega (arith, h))

same-arity : {M : Type 0} (w : World M) (p base frame number : ℕ) (called : Called) (cs : List ClauseTree) (s : State) (k : List Frame) (es : List EntryData) (again : Bool) (predicate : Predicate) →
    (is : CallIs w p base frame number called cs s k es again) → is.call.call.predicate ≡ predicate → predicate.arity ≡ is.call.call.pred.arity
same-arity w p base frame number called cs s k es again predicate is same = ap (λ q. q.arity) (sym same) ∙ (predicate-of w p number called cs is.code is.call.call).arity

pub trying-passes : {M : Type 0} (w : World M) (v : StoreView M) (b : ArenasView M) (p base frame number : ℕ) (called : Called) (s : State) (k : List Frame) (es : List EntryData) (again : Bool) (whole : Config) (predicate : Predicate) (rule : Rule) →
    Trying w p base frame number called s k es again whole → IsFound w p predicate → number < predicate.end → slice_get w.loaded.code.rules.items number ≡ Some rule →
    MatchesHead (call_at p base frame) number predicate.arity rule false (change w (moved w v b) Now.Failing) → Trying (moved w v b) p base frame (number + 1) called s k es again whole
trying-passes w v b p base frame number called s k es again whole predicate rule trying known more found matches =
    let same : trying.is.call.call.predicate ≡ predicate = sym (known trying.is.call.call.predicate trying.is.call.call.is_predicate) in
    let n : NextRule w p base frame number called s k es again whole = next-rule w p base frame number called s k es again whole predicate trying same more in
    let also : n.is.call.call.predicate ≡ predicate = sym (known n.is.call.call.predicate n.is.call.call.is_predicate) in
    let told : (v ≡ w.store) × KeepsBelow w.arenas b (base + n.is.call.call.pred.arity)
    × TellsHead w.store.now.terms b.blocks.slots (clause_block base n.is.call.call.pred n.clause) false (matched_all_in (bindings w.store.now.state) n.clause.head called.args (replicate n.clause.slots None)) =
    matches called n.clause n.behind s k es again n.is found (same-arity w p base frame number called (n.clause ∷ n.behind) s k es again predicate n.is also) n.args in
    subst (λ u. Trying (moved w u b) p base frame (number + 1) called s k es again whole) (sym told.0) (rule-passed w b p base frame number called s k es again whole n told.1 told.2)

pub trying-applies : {M : Type 0} (w : World M) (v : StoreView M) (b : ArenasView M) (p base frame number : ℕ) (called : Called) (s : State) (k : List Frame) (es : List EntryData) (again : Bool) (whole : Config) (predicate : Predicate) (rule : Rule) →
    Trying w p base frame number called s k es again whole → IsFound w p predicate → number < predicate.end → slice_get w.loaded.code.rules.items number ≡ Some rule →
    MatchesHead (call_at p base frame) number predicate.arity rule true (change w (moved w v b) Now.Failing) → RuleApplies (moved w v b) p base frame number called s k es again whole predicate rule × (s ≡ v.now.state)
trying-applies w v b p base frame number called s k es again whole predicate rule trying known more found matches =
    let same : trying.is.call.call.predicate ≡ predicate = sym (known trying.is.call.call.predicate trying.is.call.call.is_predicate) in
    let n : NextRule w p base frame number called s k es again whole = next-rule w p base frame number called s k es again whole predicate trying same more in
    let also : n.is.call.call.predicate ≡ predicate = sym (known n.is.call.call.predicate n.is.call.call.is_predicate) in
    let told : (v ≡ w.store) × KeepsBelow w.arenas b (base + n.is.call.call.pred.arity)
    × TellsHead w.store.now.terms b.blocks.slots (clause_block base n.is.call.call.pred n.clause) true (matched_all_in (bindings w.store.now.state) n.clause.head called.args (replicate n.clause.slots None)) =
    matches called n.clause n.behind s k es again n.is found (same-arity w p base frame number called (n.clause ∷ n.behind) s k es again predicate n.is also) n.args in (
      subst (λ u. RuleApplies (moved w u b) p base frame number called s k es again whole predicate rule) (sym told.0) (rule-applies w b p base frame number called s k es again whole predicate rule n told.1 also found told.2),
      n.now ∙ ap (λ u. u.now.state) (sym told.0),
    )

pub trying-ends : {M : Type 0} (w : World M) (a : ArenasView M) (p base frame number : ℕ) (called : Called) (s : State) (k : List Frame) (es : List EntryData) (again : Bool) (whole : Config) (predicate : Predicate) →
    (trying : Trying w p base frame number called s k es again whole) → IsFound w p predicate → predicate.end ≤ number → StackAfter w w.store a es es → Stands (moved w w.store a) Now.Failing whole
unfolding try_rules
trying-ends w a p base frame number called s k es again whole predicate trying known last after =
    let same : trying.is.call.call.predicate ≡ predicate = sym (known trying.is.call.call.predicate trying.is.call.call.is_predicate) in
    let none : trying.rest ≡ [] = no-rest trying.rest (omega (arith, rest-count w p base frame number called trying.rest s k es again predicate trying.is same, last)) in
    subst (Stands (moved w w.store a) Now.Failing) (sym (trying.same ∙ ap (λ cs. try_rules called cs (back_to [] s k) es) none))
    (call-ended w a p base frame number called trying.rest s k es again trying.is after)

pub trying-found : {M : Type 0} (w : World M) (p base frame number : ℕ) (called : Called) (s : State) (k : List Frame) (es : List EntryData) (again : Bool) (whole : Config) (predicate : Predicate) →
    Trying w p base frame number called s k es again whole → IsFound w p predicate → number < predicate.end → (r : Rule) × (slice_get w.loaded.code.rules.items number ≡ Some r)
trying-found w p base frame number called s k es again whole predicate trying known more =
    let same : trying.is.call.call.predicate ≡ predicate = sym (known trying.is.call.call.predicate trying.is.call.call.is_predicate) in
    let n : NextRule w p base frame number called s k es again whole = next-rule w p base frame number called s k es again whole predicate trying same more in
    rule-found w p number called n.clause n.behind n.is.code n.is.call.call
