use Rattle.std.proofs.Common.{◌∙◌, not, ap}
use Rattle.pi_rewrite_sound.proofs.BuiltCallLemmas.{some-listed}
use Rattle.pi_rewrite_sound.proofs.goals.are_some.Goals as goal

pub returns : goal.returns
returns c = ap not c.is_empty.ensures ∙ some-listed c.args.exps.now
