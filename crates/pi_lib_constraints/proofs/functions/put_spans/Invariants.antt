use Rattle.std.proofs.Common.{drop, map}
use Rattle.pi_constraints.specs.Domain.{values_of}
use Rattle.pi_constraints.specs.Store.{IsTerm, Stays}
use Rattle.pi_effects.specs.Items.{list_of}
use Rattle.pi_terms.specs.Tree.{int}
use Rattle.pi_lib_constraints.proofs.functions.put_spans.Given as goal

-- the values from a span on are put
abbrev pub invariant-loop-k : goal.invariant-loop-k
invariant-loop-k g l =
    let v = g.S.StateStore.seen l.fn.s in
    let w = g.S.StateStore.seen l.s in
    record { stays : Stays v w; list : IsTerm w l.list (list_of (map int (values_of (drop l.k l.spans)))) }
