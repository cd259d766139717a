use Rattle.std.proofs.Common.{◌+◌, refl, sym, subst}
use Rattle.pi_terms.specs.Tree.{Tree}
use Rattle.pi_plan.specs.Place.{place_of}
use Rattle.pi_plan.specs.Searching.{weight}
use Rattle.pi_plan.specs.Search.{Adds, start_way}
use Rattle.pi_plan.specs.declared.search.Search.{Search}
use Rattle.pi_plan.proofs.AdvanceLemmas.{next_of}
use Rattle.pi_plan.proofs.advance.begin_next.Goals as goal

pub returns-clause-ready : goal.returns-clause-ready
returns-clause-ready c = λ w given start less h.
    let t : Search = record c.args.search.now { whole = c.args.search.now.whole + 1; ways = c.clear.new.self } in
    let adds : Adds t c.add_start.new.self (place_of t.by_rest w.start t.whole) (start_way t.by_rest w.start t.whole) (weight t.by_rest t.whole t.whole) =
    subst (λ (x : Tree). Adds t c.add_start.new.self (place_of t.by_rest x t.whole) (start_way t.by_rest x t.whole) (weight t.by_rest t.whole t.whole)) (sym start) c.in_ok-add_start.ensures.adds in
    next_of w given c.args.search.now t c.add_start.new.self refl refl c.clear.ensures.items refl refl less h adds
