use Rattle.std.proofs.Common.{ℤ, rules, refl, sym, ◌∙◌, subst}
use Rattle.std.proofs.lemmas.Result.{err_from_is_err_and}
use Rattle.pi_effects.specs.Exception.{bad_index}
use Rattle.pi_terms.specs.Tree.{Tree}
use Rattle.pi_effects.specs.Answer.{Answer, or_raised}
use Rattle.pi_effects.specs.Indexing.{item_at as numbered}
use Rattle.pi_effects.specs.Results.{ShowsTerm}
use Rattle.pi_effects.specs.declared.fault.Fault.{Fault}
use Rattle.pi_effects.proofs.FaultLemmas.{integer-stops, integer-is}
use Rattle.pi_lib_builtin.proofs.CollectionLemmas.{index-stops, indexed-is, numbered-or}
use Rattle.pi_lib_builtin.proofs.reading.item_at.Goals as goal

pub returns-in_err-items : goal.returns-in_err-items
returns-in_err-items g c = λ t i a one two.
    let p = err_from_is_err_and c.from_residual.result c.from_residual.ensures.1 in
    rw (p.1, p.2) (index-stops (g.S.StateStore.seen c.args.s.now) _ t i (c.in_err-items.ensures t a one))

pub returns-in_err-number : goal.returns-in_err-number
returns-in_err-number g c = λ t i a one two.
    let v = g.S.StateStore.seen c.args.s.now in
    let items = c.in_ok-items.ensures t a one in
    let p = err_from_is_err_and c.from_residual-in_err-number.result c.from_residual-in_err-number.ensures.1 in
    rw (p.1, p.2) (rw (indexed-is v t i items.0 items.1) (integer-stops v _ i (λ n. or_raised (numbered items.0 n) (bad_index i v.now.state)) (c.in_err-number.ensures i a two)))

pub returns : goal.returns
returns g c = λ t i a one two.
    let v = g.S.StateStore.seen c.args.s.now in
    let items = c.in_ok-items.ensures t a one in
    let f : ℤ → Answer Tree = λ n. or_raised (numbered items.0 n) (bad_index i v.now.state) in
    let n = c.in_ok-number.number in
    let found = c.numbered_item.result in
    subst (ShowsTerm v v c.ok_or.result) (sym (indexed-is v t i items.0 items.1 ∙ integer-is v.now.state i f n (c.in_ok-number.ensures i a two)))
    (subst (λ r. ShowsTerm v v r (f n)) (sym c.ok_or.ensures.value)
    (numbered-or v items.0 n _ found (Fault.BadIndex c.args.index) (bad_index i v.now.state) (c.numbered_item.ensures items.0 a items.2) (search rules) (i, two, refl)))
