use Rattle.std.proofs.Common.{◌≤◌, ◌*◌, ap, sym, ◌∙◌, arith}
use Rattle.std.specs.Prelude.{Ok}
use Rattle.std.proofs.lemmas.Result.{err_from_is_err_and}
use Rattle.pi_unify.proofs.KeepsLemmas.{makes_none}
use Rattle.pi_effects.specs.Ranges.{most_items}
use Rattle.pi_lib.proofs.GridLemmas.{Sizes, grid_stops, grid_given}
use Rattle.pi_lib.proofs.grids.new_grid.Goals as goal

pub returns-in_err-size-clause-makes : goal.returns-in_err-size-clause-makes
returns-in_err-size-clause-makes g c = (0, makes_none (g.S.StateStore.seen c.args.s.now))

pub returns-in_err-rows-clause-makes : goal.returns-in_err-rows-clause-makes
returns-in_err-rows-clause-makes g c = (0, makes_none (g.S.StateStore.seen c.args.s.now))

pub returns-in_err-columns-clause-makes : goal.returns-in_err-columns-clause-makes
returns-in_err-columns-clause-makes g c = (0, makes_none (g.S.StateStore.seen c.args.s.now))

pub returns-in_err-allowed-clause-makes : goal.returns-in_err-allowed-clause-makes
returns-in_err-allowed-clause-makes g c = (0, makes_none (g.S.StateStore.seen c.args.s.now))

pub returns-in_err-allowed-clause-shows : goal.returns-in_err-allowed-clause-shows
returns-in_err-allowed-clause-shows g c = λ t u a first second.
    let v = g.S.StateStore.seen c.args.s.now in
    let rows = c.in_ok-rows.rows in
    let n = c.in_ok-columns.columns in
    let sizes : Sizes v t u rows n = record {
      first = c.in_ok-size.ensures t a first ∙ ap Ok (sym c.in_ok-rows.ensures.ok.0);
      few = c.in_ok-rows.ensures.ok.1;
      second = c.in_ok-columns.ensures u a second;
    } in
    let less : c.saturating_mul.result ≤ n * rows = omega (arith, c.saturating_mul.ensures, ap (λ k. n * k) c.from.ensures) in
    let p = err_from_is_err_and c.from_residual-in_err-allowed.result c.from_residual-in_err-allowed.ensures.1 in
    rw p.1 (grid_stops v t u rows n c.saturating_mul.result p.0 sizes (p.2 ∙ c.in_err-allowed.ensures.err.0) less c.in_err-allowed.ensures.err.1)

pub returns-clause-shows : goal.returns-clause-shows
returns-clause-shows g c = λ t u a first second.
    let v = g.S.StateStore.seen c.args.s.now in
    let w = g.S.StateStore.seen c.put_rows.new.s in
    let rows = c.in_ok-rows.rows in
    let n = c.in_ok-columns.columns in
    let sizes : Sizes v t u rows n = record {
      first = c.in_ok-size.ensures t a first ∙ ap Ok (sym c.in_ok-rows.ensures.ok.0);
      few = c.in_ok-rows.ensures.ok.1;
      second = c.in_ok-columns.ensures u a second;
    } in
    let few : n * rows ≤ most_items = omega (arith, c.saturating_mul.ensures, ap (λ k. n * k) c.from.ensures, c.in_ok-allowed.ensures.ok.0, c.in_ok-allowed.ensures.ok.1) in
    grid_given v w t u rows n c.min-columns.result c.in_ok-made.made sizes few c.min-columns.ensures c.in_ok-made.ensures.ok
