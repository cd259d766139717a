use Rattle.std.proofs.Common.{refl, ◌∷◌}
use Rattle.pi_expr_phrases.specs.Machine as m
use Rattle.pi_expr.proofs.ReaderLemmas.{push_stack}
use Rattle.pi_expr.proofs.reader.take.Goals as goal

pub returns-in_ok-push-in-Open : goal.returns-in_ok-push-in-Open
returns-in_ok-push-in-Open c = λ fs o hs ht. let t = rw c.in-Open.is at ht in (m.operand (t.0 ∷ fs) _, (t.1.0, (t.0 ∷ fs, (refl, push_stack _ _ _ t.0 fs c.in_ok-push-in-Open.ensures.items t.1.1 hs))))

pub returns-in-Found : goal.returns-in-Found
returns-in-Found c = λ fs o hs ht. let t = rw c.in-Found.is at ht in (m.value fs _ _ t.0 _, (t.1.0, (fs, (t.0, (refl, (t.1.1, hs))))))

pub returns-in-Fail : goal.returns-in-Fail
returns-in-Fail c = λ fs o hs ht. rw c.in-Fail.is at ht
