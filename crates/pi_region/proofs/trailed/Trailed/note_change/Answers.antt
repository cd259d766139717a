use Rattle.pi_region.proofs.HistoryLemmas.{filled, replaced_at}
use Rattle.pi_region.proofs.NotedLemmas.{leads_pushed, leads_set}
use Rattle.pi_region.specs.Back.{back_once}
use Rattle.pi_region.proofs.trailed.Trailed.note_change.Goals as goal

pub returns-in-Pushed : goal.returns-in-Pushed
returns-in-Pushed c = λ j now region end is table l. leads_pushed j now c.args.found.now.count c.saturating_sub-found.result c.args.found.now.words.entries c.args.entry is table c.in-Pushed.is c.saturating_sub-found.ensures l

pub returns-in_ok-insert-in-Filled : goal.returns-in_ok-insert-in-Filled
returns-in_ok-insert-in-Filled c = λ j now region end is table l.
    leads_set j.variables (back_once j).variables now c.args.found.now.count c.place_at-place.result 0 c.args.found.now.words.entries c.insert.new.self.entries
    (filled j c.args.entry c.place_at-place.result is table c.in-Filled.is (c.place_at-place.ensures j region end)) c.in_ok-insert-in-Filled.ensures.entries l

pub returns-in_ok-insert-in-Replaced : goal.returns-in_ok-insert-in-Replaced
returns-in_ok-insert-in-Replaced c = λ j now region end is table l.
    leads_set j.variables (back_once j).variables now c.args.found.now.count c.place_at-place.result c.old.result c.args.found.now.words.entries c.insert-in-Replaced.new.self.entries
    (replaced_at j c.args.entry c.place_at-place.result c.old.result is table c.in-Replaced.is (c.place_at-place.ensures j region end) (c.old.ensures j region end)) c.in_ok-insert-in-Replaced.ensures.entries l
