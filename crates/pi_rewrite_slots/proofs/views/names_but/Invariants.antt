use Rattle.std.proofs.Common.{ℕ, List, cond}
use Rattle.std.specs.Prelude.{not}
use Rattle.std.specs.Str.{bytes_eq}
use Rattle.pi_rewrite_spec.specs.Slots.{unnamed}
use Rattle.pi_rewrite_slots.proofs.ViewLemmas.{MappedTo}
use Rattle.pi_rewrite_slots.proofs.views.names_but.Given as goal

abbrev pub invariant-loop-name : goal.invariant-loop-name
invariant-loop-name l = MappedTo (λ (name : List ℕ). cond (not (bytes_eq name l.but)) name unnamed) l.names l.name-index l.made.items
