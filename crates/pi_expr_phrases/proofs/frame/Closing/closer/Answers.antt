use Rattle.std.proofs.Common.{refl}
use Rattle.pi_expr_phrases.proofs.frame.Closing.closer.Goals as goal

pub returns-in-Call : goal.returns-in-Call
returns-in-Call c = λ xs k es h. let i = rw c.in-Call.is at h in rw i.0 refl

pub returns-in-Quote : goal.returns-in-Quote
returns-in-Quote c = λ xs k es h. let i = rw c.in-Quote.is at h in rw i.0 refl

pub returns-in-List : goal.returns-in-List
returns-in-List c = λ xs k es h. let i = rw c.in-List.is at h in rw i.0 refl

pub returns-in-Array : goal.returns-in-Array
returns-in-Array c = λ xs k es h. let i = rw c.in-Array.is at h in rw i.0 refl

pub returns-in-Foreach : goal.returns-in-Foreach
returns-in-Foreach c = λ xs k es h. let i = rw c.in-Foreach.is at h in rw i.0 refl

pub returns-in-Method : goal.returns-in-Method
returns-in-Method c = λ xs k es h. let i = rw c.in-Method.is at h in rw i.1.0 refl

pub returns-in-Collect : goal.returns-in-Collect
returns-in-Collect c = λ xs k es h. let i = rw c.in-Collect.is at h in rw i.1.0 (c.closer_of_collect.ensures i.0)
