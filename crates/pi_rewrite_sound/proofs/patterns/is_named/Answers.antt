use Rattle.std.proofs.Common.{◌∙◌, not, ap}
use Rattle.pi_rewrite_sound.proofs.BuiltCallLemmas.{named-listed}
use Rattle.pi_rewrite_sound.proofs.patterns.is_named.Goals as goal

pub returns : goal.returns
returns c = ap not c.is_empty.ensures ∙ named-listed c.args.name.now
