-- Lemmas on facts: what a call of a predicate of facts goes on with.
use Rattle.std.proofs.Common.{◌≡◌, List, [], ◌∷◌, refl, ap, sym, ◌∙◌}
use Rattle.std.proofs.Math.Path.{fun_ext}
use Rattle.std.specs.Prelude.{cond, Option, Some, None, is_some}
use Rattle.pi_terms.specs.Tree.{Trees}
use Rattle.pi_constraints.specs.State.{State}
use Rattle.pi_core.specs.CoreTree.{ClauseTree}
use Rattle.pi_traces.specs.Trace.{Trace, alt, then}
use Rattle.pi_meaning.specs.CoreMeaning.Builtins.{Builtins}
use Rattle.pi_meaning.specs.Shared.Settle.{settled, settled_from}
use Rattle.pi_meaning.specs.CoreMeaning.Facts.{facts}
use Rattle.pi_meaning.specs.Shared.Level.{Level, Point}
use Rattle.pi_traces.proofs.TraceLemmas.{alt-done, then-alt}
use Rattle.pi_meaning.specs.Machine.Configuration.{Back, Entry}
use Rattle.pi_meaning.specs.Machine.Remaining.{point, continued, facts_trace, choice_trace, around, now_trace}
use Rattle.pi_meaning.specs.Machine.Step.{with_fact, from_unifying, later_facts, fact_tried, try_facts}
use Rattle.pi_meaning.proofs.Machine.GoalSteps.{Is}
use Rattle.pi_meaning.proofs.Machine.RunLemmas.{no-goal}

from-there : (ts : Trees) (s : State) (c : ClauseTree) (cs : List ClauseTree) → facts (from_unifying ts s cs) ts s ≡ facts cs ts s → (o : Option State) → with_fact ts s c ≡ o →
    facts (cond (is_some o) (c ∷ cs) (from_unifying ts s cs)) ts s ≡ facts (c ∷ cs) ts s
unfolding facts alt
from-there ts s c cs h None is = h ∙ sym (ap (λ o. alt (settled_from s o) (facts cs ts s)) is)
from-there ts s c cs h (Some r) is = refl

-- facts that don't unify have no answer
pub from-unifying : (ts : Trees) (s : State) (cs : List ClauseTree) → facts (from_unifying ts s cs) ts s ≡ facts cs ts s
unfolding from_unifying
from-unifying ts s [] = refl
from-unifying ts s (c ∷ cs) = from-there ts s c cs (from-unifying ts s cs) (with_fact ts s c) refl

later-facts-wait : (given : Builtins) (l : Level) (ts : Trees) (cs : List ClauseTree) (b : Back) (es : List Entry) (t : Trace Point) →
    around given l es (alt t (facts_trace given l ts cs b)) [] ≡ around given l (later_facts ts cs b es) t []
unfolding around choice_trace facts_trace facts then
later-facts-wait given l ts [] b es t = ap (λ u. around given l es u []) (alt-done t)
later-facts-wait given l ts (c ∷ cs) b es t = refl

-- what is behind a call of facts, from a state
abbrev pub behind_fact : Builtins → Level → Back → State → Trace Point
behind_fact given l b r = continued given l b.frames (point l b.slots r)

fact-tried : (given : Builtins) (l : Level) (ts : Trees) (cs : List ClauseTree) (b : Back) (es : List Entry) (o : Option State) → Is given l es (facts_trace given l ts cs b) (try_facts ts cs b es) →
    Is given l es (then (alt (settled_from b.state o) (facts cs ts b.state)) (behind_fact given l b)) (fact_tried ts cs b es o (try_facts ts cs b es))
unfolding facts_trace then alt now_trace
fact-tried given l ts cs b es None h = h
fact-tried given l ts cs b es (Some r) h =
    ap (λ u. around given l es u []) (then-alt (settled b.state r) (facts cs ts b.state) (behind_fact given l b))
    ∙ (ap (λ (u : Trace State). around given l es (alt (then (settled b.state r) (behind_fact given l b)) (then u (behind_fact given l b))) []) (sym (from-unifying ts b.state cs))
    ∙ (later-facts-wait given l ts (from_unifying ts b.state cs) b es (then (settled b.state r) (behind_fact given l b))
    ∙ ap (λ f. around given l (later_facts ts (from_unifying ts b.state cs) b es) (then (settled b.state r) f) []) (fun_ext (λ q. sym (no-goal given l b.slots q b.frames)))))

pub facts-tried : (given : Builtins) (l : Level) (ts : Trees) (cs : List ClauseTree) (b : Back) (es : List Entry) → Is given l es (facts_trace given l ts cs b) (try_facts ts cs b es)
unfolding facts_trace facts try_facts then now_trace
facts-tried given l ts [] b es = refl
facts-tried given l ts (c ∷ cs) b es = fact-tried given l ts cs b es (with_fact ts b.state c) (facts-tried given l ts cs b es)
