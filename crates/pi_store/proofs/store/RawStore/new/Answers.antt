use Rattle.std.proofs.Common.{ap}
use Rattle.pi_region.specs.Image.{Image}
use Rattle.pi_store_blocks.specs.NameTable.{NameTable}
use Rattle.pi_store.proofs.SoundLemmas.{sound_new}
use Rattle.pi_store.proofs.store.RawStore.new.Goals as goal

pub invariant_of-result : goal.invariant_of-result
invariant_of-result c =
    sound_new c.new.result c.new-2.result (ap (λ (t : NameTable). t.texts) c.new.ensures)
    (ap (λ (i : Image). i.trail) c.new-2.ensures) (ap (λ (i : Image). i.region) c.new-2.ensures) (ap (λ (i : Image). i.variables) c.new-2.ensures) (ap (λ (i : Image). i.constraints) c.new-2.ensures) (ap (λ (i : Image). i.agents) c.new-2.ensures) (ap (λ (i : Image). i.waiting) c.new-2.ensures) (ap (λ (i : Image). i.heads) c.new-2.ensures)
