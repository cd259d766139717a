use Rattle.std.proofs.Common.{refl}
use Rattle.pi_expr_phrases.specs.Machine as m
use Rattle.pi_expr.proofs.TurnLemmas.{collects, collects_no, none_is}
use Rattle.pi_syntax.specs.ExpTree.{no_exps}
use Rattle.pi_expr.proofs.close.collect_by.Goals as goal

pub returns-then-is_empty : goal.returns-then-is_empty
returns-then-is_empty c = λ fs es e h i. rw (collects c.args.is_array es fs e _ (none_is _ es _ (c.is_empty.ensures es h) c.if-is_empty.true)) (m.items (m.of_collect c.args.is_array e) no_exps, (refl, (m.of_collect c.args.is_array e, (no_exps, (refl, (e, (refl, (i, c.new.ensures))))))))

pub returns : goal.returns
returns c = λ fs es e h i. rw (collects_no c.args.is_array es fs e _ (none_is _ es _ (c.is_empty.ensures es h) c.if-is_empty.false)) refl
