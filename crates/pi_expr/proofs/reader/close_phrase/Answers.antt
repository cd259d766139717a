use Rattle.std.proofs.Common.{sym, ◌∙◌}
use Rattle.pi_expr.proofs.ReaderLemmas.{popped, none_popped}
use Rattle.pi_expr.proofs.reader.close_phrase.Goals as goal

pub returns-in_ok-turn-in-Some : goal.returns-in_ok-turn-in-Some
returns-in_ok-turn-in-Some c = λ fs e h i. let k = popped _ _ c.in-Some.frame fs c.in-Some.ensures.items h in rw k.1.1.0 (c.take.ensures k.1.0 _ k.1.1.1.1 (c.in_ok-turn-in-Some.ensures k.1.0 k.0 e k.1.1.1.0 i))

pub returns-in-None : goal.returns-in-None
returns-in-None c = λ fs e h i. rw (none_popped _ fs (sym c.args.stack.now.ok.0 ∙ c.in-None.ensures.cases.0) h) (c.finish.ensures _ e i)
