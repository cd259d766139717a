use Rattle.std.proofs.Common.{length, drop, None}
use Rattle.std.specs.Prelude.{replicate}
use Rattle.pi_terms.specs.Tree.{Trees}
use Rattle.pi_core.specs.CoreTree.{pattern_trees}
use Rattle.pi_constraints.specs.HeadMatch.{matched_all_in}
use Rattle.pi_constraints.specs.State.{IsState, bindings}
use Rattle.pi_engine_stands.specs.Here.{HoldsArguments}
use Rattle.pi_engine_stands.proofs.HeadsMatch.{PatternsLeft}
use Rattle.pi_engine_steps.proofs.heads.matches_patterns.Given as goal

-- the patterns from i on are left
abbrev pub invariant-loop-i : goal.invariant-loop-i
invariant-loop-i g l =
    (ts : Trees) → IsState (g.S.StateStore.seen l.store).now.state → HoldsArguments (g.S.StateStore.seen l.store).now.terms l.blocks.slots l.base (length l.patterns) ts →
    PatternsLeft (g.S.StateStore.seen l.store) l.blocks.slots l.base l.i l.count (drop l.i l.patterns) l.slots.items (matched_all_in (bindings (g.S.StateStore.seen l.store).now.state) (pattern_trees l.patterns) ts (replicate l.count None))
