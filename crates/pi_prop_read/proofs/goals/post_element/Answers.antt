-- The index, the list, the value and the items, each as it was read.
use Rattle.std.proofs.Common.{sym, subst}
use Rattle.pi_prop_spec.specs.Lists.{read_each}
use Rattle.pi_prop_read.specs.Refs.{value_at}
use Rattle.pi_prop_read.specs.OperandFrames.{AreThere}
use Rattle.pi_prop_read.specs.Items.{values_at, ShowsEach}
use Rattle.pi_prop_read.proofs.GoalLemmas.{index-refused, list-refused, value-refused, items-refused, element-posted}
use Rattle.pi_prop_read.proofs.goals.post_element.Goals as goal

pub returns-in-Err : goal.returns-in-Err
returns-in-Err g c = λ m s p q r shown.
    let w = (g.S.StateStore.seen c.args.s.now).now in
    index-refused w c.in-Err.stop (value_at w c.args.index) (value_at w c.args.collection) (value_at w c.args.value) m (c.in-Err.ensures m s p)

pub returns-in-Err-collected : goal.returns-in-Err-collected
returns-in-Err-collected g c = λ m s p q r shown.
    let w = (g.S.StateStore.seen c.args.s.now).now in
    let i = c.in-Ok.ensures m s p in
    list-refused w c.in-Err-collected.stop (value_at w c.args.index) (value_at w c.args.collection) (value_at w c.args.value) m i.0 i.1 (c.in-Err-collected.ensures m s q)

pub returns-in-Err-item_at : goal.returns-in-Err-item_at
returns-in-Err-item_at g c = λ m s p q r shown.
    let w = (g.S.StateStore.seen c.args.s.now).now in
    let i = c.in-Ok.ensures m s p in
    let l = c.in-Ok-collected.ensures m s q in
    value-refused w c.in-Err-item_at.stop (value_at w c.args.index) (value_at w c.args.collection) (value_at w c.args.value) m i.0 (values_at w c.in-Ok-collected.terms.items) i.1 l.0 (c.in-Err-item_at.ensures m s r)

pub returns-in-Err-items_at : goal.returns-in-Err-items_at
returns-in-Err-items_at g c = λ m s p q r shown.
    let w = (g.S.StateStore.seen c.args.s.now).now in
    let i = c.in-Ok.ensures m s p in
    let l = c.in-Ok-collected.ensures m s q in
    let v = c.in-Ok-item_at.ensures m s r in
    let own = c.items_at.ensures m s (subst (AreThere w) (sym c.deref.ensures.value) l.1) in
    let all : ShowsEach w c.items_at.result (read_each (values_at w c.in-Ok-collected.terms.items) m) m = subst (λ rs. ShowsEach w c.items_at.result (read_each (values_at w rs) m) m) c.deref.ensures.value own in
    items-refused w c.in-Err-items_at.stop (value_at w c.args.index) (value_at w c.args.collection) (value_at w c.args.value) m i.0 v.0 (values_at w c.in-Ok-collected.terms.items) i.1 l.0 v.1 (rw c.in-Err-items_at.is at all)

pub returns-in-Ok-post_element : goal.returns-in-Ok-post_element
returns-in-Ok-post_element g c = λ m s p q r shown.
    let w = (g.S.StateStore.seen c.args.s.now).now in
    let i = c.in-Ok.ensures m s p in
    let l = c.in-Ok-collected.ensures m s q in
    let v = c.in-Ok-item_at.ensures m s r in
    let own = c.items_at.ensures m s (subst (AreThere w) (sym c.deref.ensures.value) l.1) in
    let all : ShowsEach w c.items_at.result (read_each (values_at w c.in-Ok-collected.terms.items) m) m = subst (λ rs. ShowsEach w c.items_at.result (read_each (values_at w rs) m) m) c.deref.ensures.value own in
    let e = (rw c.in-Ok-items_at.is at all) in
    element-posted (value_at w c.args.index) (value_at w c.args.collection) (value_at w c.args.value) m c.post_element.new.self i.0 v.0 (values_at w c.in-Ok-collected.terms.items) e.0 i.1 l.0 v.1 e.1
    (c.in-Ok-post_element.ensures m i.0 v.0 e.0 i.2 v.2 e.2 shown)
