use Rattle.std.proofs.Common.{refl}
use Rattle.pi_expr_phrases.specs.Machine as m
use Rattle.pi_expr.proofs.close.close_items.Goals as goal

pub returns-in-List : goal.returns-in-List
returns-in-List c = λ fs k es e h i. let j = rw c.in-List.is at h in rw j.0 (c.close_list.ensures fs es e j.1 i)

pub returns-in-Array : goal.returns-in-Array
returns-in-Array c = λ fs k es e h i. let j = rw c.in-Array.is at h in rw j.0 (c.close_array.ensures fs es e j.1 i)

pub returns-in-Call : goal.returns-in-Call
returns-in-Call c = λ fs k es e h i. let j = rw c.in-Call.is at h in rw j.0 (c.close_by.ensures fs (m.of_call c.in-Call.name.now) es e (refl, j.1) i)

pub returns-in-Quote : goal.returns-in-Quote
returns-in-Quote c = λ fs k es e h i. let j = rw c.in-Quote.is at h in rw j.0 (c.close_by-in-Quote.ensures fs (m.of_quote c.in-Quote.name.now) es e (refl, j.1) i)

pub returns-in-Method : goal.returns-in-Method
returns-in-Method c = λ fs k es e h i. let j = rw c.in-Method.is at h in rw j.1.0 (c.close_by-in-Method.ensures fs (m.of_method c.in-Method.name.now j.0) es e (j.0, (refl, j.1.1)) i)

pub returns-in-Collect : goal.returns-in-Collect
returns-in-Collect c = λ fs k es e h i. let j = rw c.in-Collect.is at h in rw j.1.0 (c.close_by-in-Collect.ensures fs (m.of_collect c.in-Collect.is_array j.0) es e (j.0, (refl, j.1.1)) i)

pub returns-in-Foreach : goal.returns-in-Foreach
returns-in-Foreach c = λ fs k es e h i. let j = rw c.in-Foreach.is at h in rw j.0 (c.close_by-in-Foreach.ensures fs m.of_foreach es e (refl, j.1) i)
