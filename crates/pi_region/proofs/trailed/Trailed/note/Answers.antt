use Rattle.std.proofs.Common.{ap}
use Rattle.pi_region.specs.Since.{is_variables}
use Rattle.pi_region.proofs.NotedLemmas.{leads_other}
use Rattle.pi_region.proofs.trailed.Trailed.note.Goals as goal

pub returns-in_ok-note_change-in-Variables : goal.returns-in_ok-note_change-in-Variables
returns-in_ok-note_change-in-Variables c = λ j now region end l. c.in_ok-note_change-in-Variables.ensures j now region end (c.entry_at-entry.ensures j region end) c.in-Variables.is l

pub returns-in-Constraints : goal.returns-in-Constraints
returns-in-Constraints c = λ j now region end l. leads_other j now c.args.found.now.count c.args.found.now.words.entries c.entry_at-entry.result (c.entry_at-entry.ensures j region end) (ap is_variables c.in-Constraints.is) l

pub returns-in-Agents : goal.returns-in-Agents
returns-in-Agents c = λ j now region end l. leads_other j now c.args.found.now.count c.args.found.now.words.entries c.entry_at-entry.result (c.entry_at-entry.ensures j region end) (ap is_variables c.in-Agents.is) l

pub returns-in-Waiting : goal.returns-in-Waiting
returns-in-Waiting c = λ j now region end l. leads_other j now c.args.found.now.count c.args.found.now.words.entries c.entry_at-entry.result (c.entry_at-entry.ensures j region end) (ap is_variables c.in-Waiting.is) l

pub returns-in-Heads : goal.returns-in-Heads
returns-in-Heads c = λ j now region end l. leads_other j now c.args.found.now.count c.args.found.now.words.entries c.entry_at-entry.result (c.entry_at-entry.ensures j region end) (ap is_variables c.in-Heads.is) l
