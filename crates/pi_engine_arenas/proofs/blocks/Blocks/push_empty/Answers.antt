use Rattle.std.proofs.Common.{rules, None, replicate}
use Rattle.pi_engine_arenas.proofs.BlocksLemmas.{keeps_more, keeps_slots, filled_up}
use Rattle.pi_engine_arenas.proofs.blocks.Blocks.push_empty.Goals as goal

pub returns-clause-ok : goal.returns-clause-ok
returns-clause-ok c = filled_up c.args.self.now.slots c.resize.new.self.items c.args.count c.in-Some.end None (search rules) (search rules)

pub returns-clause-keeps : goal.returns-clause-keeps
returns-clause-keeps c =
    keeps_more _ _ (replicate c.args.count None) (filled_up c.args.self.now.slots c.resize.new.self.items c.args.count c.in-Some.end None (search rules) (search rules)) (search rules) (search rules)

pub returns-in_err-resize-clause-keeps : goal.returns-in_err-resize-clause-keeps
returns-in_err-resize-clause-keeps c = keeps_slots _ _ (search rules) (search rules) (search rules)
