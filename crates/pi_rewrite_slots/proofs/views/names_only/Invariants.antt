use Rattle.std.proofs.Common.{ℕ, List, cond}
use Rattle.pi_meaning.specs.OverNames.Texts.{is_among}
use Rattle.pi_rewrite_spec.specs.Slots.{unnamed}
use Rattle.pi_rewrite_slots.specs.Indexed.{names_in}
use Rattle.pi_rewrite_slots.proofs.ViewLemmas.{MappedTo}
use Rattle.pi_rewrite_slots.proofs.views.names_only.Given as goal

abbrev pub invariant-loop-name : goal.invariant-loop-name
invariant-loop-name l = MappedTo (λ (name : List ℕ). cond (is_among (names_in l.some) name) name unnamed) l.names l.name-index l.made.items
