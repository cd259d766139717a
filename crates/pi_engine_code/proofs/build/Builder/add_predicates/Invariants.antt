use Rattle.pi_engine_code.proofs.LaidRuleLemmas.{PredicatesAdded}
use Rattle.pi_engine_code.proofs.build.Builder.add_predicates.Given as goal

-- so many predicates were added
abbrev pub invariant-loop-pred : goal.invariant-loop-pred
invariant-loop-pred g l = PredicatesAdded l.self.numbers (g.S.StateStore.seen l.initial.store) (g.S.StateStore.seen l.store) l.initial.code l.code l.preds l.pred-index
