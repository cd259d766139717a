use Rattle.std.proofs.Common.{◌≡◌, ◌+◌, ◌≤◌, length, drop}
use Rattle.pi_terms.specs.Tree.{Trees}
use Rattle.pi_terms.specs.Places.{Places}
use Rattle.pi_terms.specs.PatternTree.{PatternTrees}
use Rattle.pi_constraints.specs.HeadMatch.{matched_all_in}
use Rattle.pi_meaning.specs.CoreMeaning.Sound.{pattern_count}
use Rattle.pi_constraints.specs.State.{bindings}
use Rattle.pi_engine_stands.specs.Here.{Block, HoldsArguments}
use Rattle.pi_engine_stands.specs.Stands.{AreTestsOf, NoneIsDeep}
use Rattle.pi_engine_stands.specs.Tries.{RuleSlots}
use Rattle.pi_engine_stands.proofs.HeadsMatch.{TestsLeft}
use Rattle.pi_engine_steps.proofs.heads.pass_tests.Given as goal

-- the tests from i on are left
abbrev pub invariant-loop-i : goal.invariant-loop-i
invariant-loop-i g l =
    (b : Block) (ps : PatternTrees) (ts : Trees) (e : Places) → l.first ≡ b.base + b.first → l.base + length l.tests ≤ l.first → RuleSlots (g.S.StateStore.seen l.store) l.initial.blocks b e → pattern_count ps ≡ length l.tests →
    AreTestsOf (g.S.StateStore.seen l.store).names ps l.tests → NoneIsDeep l.tests → HoldsArguments (g.S.StateStore.seen l.store).now.terms l.initial.blocks.slots l.base (length l.tests) ts →
    TestsLeft (g.S.StateStore.seen l.store) l.initial.blocks l.blocks b l.base l.i (drop l.i l.tests) (matched_all_in (bindings (g.S.StateStore.seen l.store).now.state) ps ts e)
