use Rattle.std.proofs.Common.{◌≡◌, Some, None, ap, sym, ◌∙◌, rules}
use Rattle.std.specs.Prelude.{slice_get, false, true}
use Rattle.pi_plan.specs.Search.{known_of, opens}
use Rattle.pi_plan.proofs.SearchLemmas.{take_none, take_stale, take_marked}
use Rattle.pi_plan.proofs.search.Search.take.Goals as goal

pub returns-in_default-clause-takes : goal.returns-in_default-clause-takes
returns-in_default-clause-takes c =
    let at_none : None ≡ slice_get c.deref.result.now c.args.due.way = c.in_default.ensures in
    let none : slice_get c.args.self.now.ways.items c.args.due.way ≡ None = ap (λ ws. slice_get ws c.args.due.way) (sym c.deref.ensures.value) ∙ sym at_none in
    λ level unfolded asked h. take_none c.args.self.now level unfolded asked c.args.due none h

pub returns-then-not-is_open-clause-takes : goal.returns-then-not-is_open-clause-takes
returns-then-not-is_open-clause-takes c =
    let at : slice_get c.args.self.now.ways.items c.args.due.way ≡ Some c.in-Some.way.now = ap (λ ws. slice_get ws c.args.due.way) (sym c.deref.ensures.value) ∙ sym c.in-Some.ensures in
    let closed : opens (known_of c.args.self.now c.in-Some.way.now.place) ≡ false = search rules in
    λ level unfolded asked h. take_stale c.args.self.now level unfolded asked c.args.due c.in-Some.way.now at closed h

pub returns-clause-takes : goal.returns-clause-takes
returns-clause-takes c =
    let at : slice_get c.args.self.now.ways.items c.args.due.way ≡ Some c.in-Some.way.now = ap (λ ws. slice_get ws c.args.due.way) (sym c.deref.ensures.value) ∙ sym c.in-Some.ensures in
    let open_now : opens (known_of c.args.self.now c.in-Some.way.now.place) ≡ true = search rules in
    λ level unfolded asked h. take_marked c.args.self.now c.mark.new.known level unfolded asked c.args.due c.in-Some.way.now at open_now (c.mark.ensures open_now) h
