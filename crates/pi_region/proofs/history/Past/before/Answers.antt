use Rattle.std.proofs.Common.{ap, min, ◌∙◌}
use Rattle.pi_region.specs.Since.{is_variables}
use Rattle.pi_region.proofs.HistoryLemmas.{other_before}
use Rattle.pi_region.proofs.history.Past.before.Goals as goal

pub returns-in-Variables : goal.returns-in-Variables
returns-in-Variables c = λ j s. c.before_change.ensures j s (c.entry_at-entry.ensures j s.region s.end) c.in-Variables.is (c.lesser-end.ensures ∙ ap (min c.entry_at-entry.result.link) c.saturating_sub.ensures)

pub returns-in-Constraints : goal.returns-in-Constraints
returns-in-Constraints c = λ j s. other_before c.args.words.now j c.args.n c.lesser-end.result c.args.self c.ending_at.result c.entry_at-entry.result s (c.entry_at-entry.ensures j s.region s.end) (ap is_variables c.in-Constraints.is)
    (c.lesser-end.ensures ∙ ap (min c.entry_at-entry.result.link) c.saturating_sub.ensures) c.ending_at.ensures

pub returns-in-Agents : goal.returns-in-Agents
returns-in-Agents c = λ j s. other_before c.args.words.now j c.args.n c.lesser-end.result c.args.self c.ending_at-in-Agents.result c.entry_at-entry.result s (c.entry_at-entry.ensures j s.region s.end) (ap is_variables c.in-Agents.is)
    (c.lesser-end.ensures ∙ ap (min c.entry_at-entry.result.link) c.saturating_sub.ensures) c.ending_at-in-Agents.ensures

pub returns-in-Waiting : goal.returns-in-Waiting
returns-in-Waiting c = λ j s. other_before c.args.words.now j c.args.n c.lesser-end.result c.args.self c.ending_at-in-Waiting.result c.entry_at-entry.result s (c.entry_at-entry.ensures j s.region s.end) (ap is_variables c.in-Waiting.is)
    (c.lesser-end.ensures ∙ ap (min c.entry_at-entry.result.link) c.saturating_sub.ensures) c.ending_at-in-Waiting.ensures

pub returns-in-Heads : goal.returns-in-Heads
returns-in-Heads c = λ j s. other_before c.args.words.now j c.args.n c.lesser-end.result c.args.self c.ending_at-in-Heads.result c.entry_at-entry.result s (c.entry_at-entry.ensures j s.region s.end) (ap is_variables c.in-Heads.is)
    (c.lesser-end.ensures ∙ ap (min c.entry_at-entry.result.link) c.saturating_sub.ensures) c.ending_at-in-Heads.ensures
