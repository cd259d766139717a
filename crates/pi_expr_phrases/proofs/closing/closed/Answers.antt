use Rattle.std.proofs.Common.{refl}
use Rattle.pi_expr_phrases.specs.Machine as m
use Rattle.pi_syntax.specs.ExpTree.{call, list, array, exp}
use Rattle.pi_expr_phrases.proofs.closing.closed.Goals as goal

pub returns-in_ok-call-in-Call : goal.returns-in_ok-call-in-Call
returns-in_ok-call-in-Call c = λ fs k es h. let i = rw c.in-Call.is at h in rw i.0 (call c.in-Call.name.now es, (refl, c.in_ok-call-in-Call.ensures es i.1))

pub returns-in_ok-quoted-in-Quote : goal.returns-in_ok-quoted-in-Quote
returns-in_ok-quoted-in-Quote c = λ fs k es h. let i = rw c.in-Quote.is at h in rw i.0 (c.found.ensures fs _ (c.in_ok-quoted-in-Quote.ensures (call c.in-Quote.name.now es) (c.in_ok-call-in-Quote.ensures es i.1)))

pub returns-in_ok-call-in-Method : goal.returns-in_ok-call-in-Method
returns-in_ok-call-in-Method c = λ fs k es h. let i = rw c.in-Method.is at h in rw i.1.0 (call c.in-Method.name.now (exp i.0 es), (refl, c.in_ok-call-in-Method.ensures (exp i.0 es) i.1.1))

pub returns-in-List : goal.returns-in-List
returns-in-List c = λ fs k es h. let i = rw c.in-List.is at h in rw i.0 (c.found-in-List.ensures fs (list es) (c.list.ensures es i.1))

pub returns-in-Array : goal.returns-in-Array
returns-in-Array c = λ fs k es h. let i = rw c.in-Array.is at h in rw i.0 (c.found-in-Array.ensures fs (array es) (c.array.ensures es i.1))

pub returns-in_ok-all-in-Collect : goal.returns-in_ok-all-in-Collect
returns-in_ok-all-in-Collect c = λ fs k es h. let i = rw c.in-Collect.is at h in rw i.1.0 (c.found-in-Collect.ensures fs _ (c.in_ok-all-in-Collect.ensures i.0 es i.1.1.0 i.1.1.1))

pub returns-in-Foreach : goal.returns-in-Foreach
returns-in-Foreach c = λ fs k es h. let i = rw c.in-Foreach.is at h in rw i.0 (m.foreach_body es, (refl, (es, (refl, i.1))))
