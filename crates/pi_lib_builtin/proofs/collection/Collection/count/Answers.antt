use Rattle.std.proofs.Common.{◌≡◌, length, sym, ◌∙◌, subst, rules}
use Rattle.pi_lib_builtin.specs.Items.{HasItems}
use Rattle.pi_lib_builtin.proofs.RowLemmas.{as-many}
use Rattle.pi_lib_builtin.proofs.collection.Collection.count.Goals as goal

pub returns-in-Listed : goal.returns-in-Listed
returns-in-Listed g c = λ ts has.
    let v = g.S.StateStore.seen c.args.s.now in
    let many : c.len.result ≡ length c.in-Listed.items.items = search rules in
    many ∙ sym (as-many v c.in-Listed.items.items ts (subst (λ k. HasItems v k ts) c.in-Listed.is has))
