use Rattle.std.proofs.Common.{◌∙◌, ap, min}
use Rattle.pi_region.proofs.NotedLemmas.{ends_before}
use Rattle.pi_region.proofs.trailed.Trailed.end_before.Goals as goal

pub returns : goal.returns
returns c = λ j region end. ends_before j c.entry_at-entry.result c.args.end c.lesser.result (c.entry_at-entry.ensures j region end) end (c.lesser.ensures ∙ ap (min c.entry_at-entry.result.link) c.saturating_sub.ensures)
