-- The left side, the right side behind it, and their difference.
use Rattle.std.proofs.lemmas.Result.{err_from_is_err_and}
use Rattle.pi_prop_read.specs.Refs.{operand_at}
use Rattle.pi_prop_read.specs.Relations.{comparison_of}
use Rattle.pi_prop_read.proofs.RelationLemmas.{left-refused, right-refused, related, apart-refused}
use Rattle.pi_prop_read.proofs.relations.read_relation.Goals as goal

pub returns-in_err-left : goal.returns-in_err-left
returns-in_err-left g c = λ m s p q shown l.
    let w = (g.S.StateStore.seen c.args.s.now).now in
    let e = err_from_is_err_and c.from_residual.result c.from_residual.ensures.1 in
    rw (e.1, e.2) (left-refused w c.in_err-left.field-0.0 (comparison_of c.args.comparison) (operand_at w c.args.left) (operand_at w c.args.right) m (c.in_err-left.ensures m s p shown l))

pub returns-in-Err : goal.returns-in-Err
returns-in-Err g c = λ m s p q shown l.
    let w = (g.S.StateStore.seen c.args.s.now).now in
    let h = c.in_ok-left.ensures m s p shown l in
    right-refused w c.read_operand.new.making c.in-Err.stop (comparison_of c.args.comparison) (operand_at w c.args.left) (operand_at w c.args.right) m c.in_ok-left.left h (c.in-Err.ensures h.made s q h.shown h.enough)

pub returns-in-Ok-apart : goal.returns-in-Ok-apart
returns-in-Ok-apart g c = λ m s p q shown l.
    let w = (g.S.StateStore.seen c.args.s.now).now in
    let h = c.in_ok-left.ensures m s p shown l in
    related w c.read_operand.new.making c.read_operand-2.new.making (comparison_of c.args.comparison) c.to_zero.result (operand_at w c.args.left) (operand_at w c.args.right) m c.in_ok-left.left c.in-Ok.right c.in-Ok-apart.sum c.to_zero.ensures h (c.in-Ok.ensures h.made s q h.shown h.enough)
    c.in-Ok-apart.ensures

pub returns-in-Err-Wide : goal.returns-in-Err-Wide
returns-in-Err-Wide g c = λ m s p q shown l.
    let w = (g.S.StateStore.seen c.args.s.now).now in
    let h = c.in_ok-left.ensures m s p shown l in
    apart-refused w c.read_operand.new.making c.read_operand-2.new.making (comparison_of c.args.comparison) (operand_at w c.args.left) (operand_at w c.args.right) m c.in_ok-left.left c.in-Ok.right h (c.in-Ok.ensures h.made s q h.shown h.enough)
    (rw c.in-Err-Wide.field-0-is at c.in-Err-Wide.ensures)
