use Rattle.std.proofs.Common.{◌≡◌, List, [], Some}
use Rattle.std.specs.Prelude.{slice_get}
use Rattle.pi_core.specs.CoreTree.{ClauseTree}
use Rattle.pi_constraints.specs.State.{State}
use Rattle.pi_engine_arenas.specs.Arenas.{view_of}
use Rattle.pi_meaning.specs.Machine.Configuration.{Called, Frame, Entry}
use Rattle.pi_engine_stands.specs.Stands.{Loaded, world}
use Rattle.pi_meaning.specs.Machine.Step.{try_rules, back_to}
use Rattle.pi_engine_stands.specs.Tries.{CallIs, HasArguments}
use Rattle.pi_engine_stands.proofs.RulesTried.{Trying}
use Rattle.pi_engine_steps.proofs.rules.try_rules.Given as goal

-- the rules from a number on are left
abbrev pub invariant-loop-number : goal.invariant-loop-number
invariant-loop-number g l =
    (p : Loaded) → p.code ≡ l.code → slice_get l.code.predicates.items l.call.predicate ≡ Some l.predicate → (called : Called) (cs : List ClauseTree) (s : State) (k : List Frame) (es : List Entry) →
    (is : CallIs (world p (g.S.StateStore.seen l.initial.run.store) g.S.StateStore.order (view_of l.initial.run.arenas)) l.call.predicate l.call.base l.call.frame l.from called cs s k es l.is_again) →
    HasArguments (world p (g.S.StateStore.seen l.initial.run.store) g.S.StateStore.order (view_of l.initial.run.arenas)) l.call.base is.call.call.pred.arity called → s ≡ (g.S.StateStore.seen l.initial.run.store).now.state →
    Trying (world p (g.S.StateStore.seen l.run.store) g.S.StateStore.order (view_of l.run.arenas)) l.call.predicate l.call.base l.call.frame l.number called s k es l.is_again (try_rules called cs (back_to [] s k) es)
