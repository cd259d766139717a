use Rattle.std.proofs.Common.{◌≡◌, ◌∙◌, ◌==◌, ◌&&◌, ap, subst, rules}
use Rattle.std.specs.Str.{bytes_eq}
use Rattle.pi_terms.specs.ListNames.{cell_name}
use Rattle.pi_constraints.specs.Store.{ShowsCell}
use Rattle.pi_lib_builtin.proofs.KindLemmas.{cell-shown}
use Rattle.pi_lib_builtin.proofs.kinds.is_list_cell.Goals as goal

pub returns-in-Comp : goal.returns-in-Comp
returns-in-Comp g c = λ t shows.
    let v = g.S.StateStore.seen c.args.s.now in
    let named : c.eq.result ≡ bytes_eq c.name.result.now cell_name = search rules in
    ap (λ q. (c.in-Comp.count == 2) && q) named ∙ cell-shown v t c.in-Comp.k c.in-Comp.count c.name.result.now c.name.ensures (subst (ShowsCell v t) c.in-Comp.is shows)
