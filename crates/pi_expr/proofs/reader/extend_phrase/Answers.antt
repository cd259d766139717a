use Rattle.pi_expr.proofs.reader.extend_phrase.Goals as goal

pub returns : goal.returns
returns c = λ fs e h i. c.take.ensures fs _ h (c.in_ok-turn.ensures fs e i)
