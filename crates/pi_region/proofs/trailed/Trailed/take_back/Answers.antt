use Rattle.std.proofs.Common.{refl, ap, sym, ◌∙◌, slice_set}
use Rattle.pi_region.specs.Image.{Image}
use Rattle.pi_region.specs.Back.{newest_old}
use Rattle.pi_region.specs.declared.entry.Change.{Change}
use Rattle.pi_region.proofs.ChangeLemmas.{took}
use Rattle.pi_region.proofs.trailed.Trailed.take_back.Goals as goal

pub returns-in-Pushed : goal.returns-in-Pushed
returns-in-Pushed c = rw (← c.self.view_is) (took _ _ c.of-entry.result Change.Pushed _ _ _ _ _ c.old-old.result _
    c.saturating_sub-last.ensures c.saturating_sub.ensures c.get.ensures c.of-entry.ensures c.get-2.ensures c.value-place.ensures (λ xs. refl) c.lesser-self-inside.ensures c.in-Pushed.is c.drop_last.ensures)

pub returns-in-Filled : goal.returns-in-Filled
returns-in-Filled c = rw (← c.self.view_is) (took _ _ c.of-entry.result Change.Filled _ _ _ _ _ c.old-old.result _
    c.saturating_sub-last.ensures c.saturating_sub.ensures c.get.ensures c.of-entry.ensures c.get-2.ensures c.value-place.ensures (λ xs. refl) c.lesser-self-inside.ensures c.in-Filled.is c.put.ensures)

pub returns-in-Replaced : goal.returns-in-Replaced
returns-in-Replaced c = rw (← c.self.view_is) (took _ _ c.of-entry.result Change.Replaced _ _ _ _ _ c.old-old.result _
    c.saturating_sub-last.ensures c.saturating_sub.ensures c.get.ensures c.of-entry.ensures c.get-2.ensures c.value-place.ensures (λ xs. ap (slice_set xs c.value-place.result) (c.old-old.ensures c.args.self.now refl (ap (λ (v : Image). v.trail) c.self.view_is) ∙ ap newest_old (sym c.self.view_is))) c.lesser-self-inside.ensures c.in-Replaced.is c.put-in-Replaced.ensures)
