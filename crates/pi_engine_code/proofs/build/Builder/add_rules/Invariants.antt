use Rattle.pi_core.specs.CoreTree.{pred_tree}
use Rattle.pi_engine_code.proofs.LaidRuleLemmas.{RulesAdded}
use Rattle.pi_engine_code.proofs.build.Builder.add_rules.Given as goal

-- so many rules were added
abbrev pub invariant-loop-clause : goal.invariant-loop-clause
invariant-loop-clause g l = RulesAdded l.self.numbers (g.S.StateStore.seen l.initial.store) (g.S.StateStore.seen l.store) l.initial.code l.code (pred_tree l.pred) l.clause-items l.clause-index
