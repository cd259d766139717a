use Rattle.std.proofs.Common.{◌≡◌, subst, sym, rules}
use Rattle.std.specs.Prelude.{Err}
use Rattle.pi_lib_builtin.specs.Items.{AreItems}
use Rattle.pi_label.specs.Reads.{ShowsOptions}
use Rattle.pi_label.proofs.WordLemmas.{with-items, without-items, not-measured}
use Rattle.pi_label.proofs.reading.read_options.Goals as goal

pub returns-in-Err : goal.returns-in-Err
returns-in-Err g c = λ t a is. not-measured (g.S.StateStore.seen c.args.s.now) t c.in-Err.fault (c.in-Err.ensures t a is)

pub returns-in-Ok-list_items : goal.returns-in-Ok-list_items
returns-in-Ok-list_items g c = λ t a is.
    let v = g.S.StateStore.seen c.args.s.now in
    let same : c.deref.result.now ≡ c.in-Ok-list_items.words.items = search rules in
    with-items v t c.in-Ok-list_items.words.items c.read_words.result (c.in-Ok.ensures t a is) (c.in-Ok-list_items.ensures t a is) (λ ts h. c.read_words.ensures ts a (subst (λ rs. AreItems v rs ts) (sym same) h))

pub returns-in-Err-list_items : goal.returns-in-Err-list_items
returns-in-Err-list_items g c = λ t a is.
    let v = g.S.StateStore.seen c.args.s.now in
    subst (λ e. ShowsOptions v t (Err e)) (sym c.refusal.ensures) (without-items v t c.args.options c.in-Err-list_items.stop (c.in-Ok.ensures t a is) is (c.in-Err-list_items.ensures t a is))
