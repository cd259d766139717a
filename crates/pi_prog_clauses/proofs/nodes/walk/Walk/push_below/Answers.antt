use Rattle.pi_prog_clauses.proofs.nodes.BelowLemmas.{below-var, below-int, below-atom, below-str, below-list, below-array, below-call, below-quote, below-index, below-range, below-at, below-collect, below-and, below-or, below-arrow, below-if, below-foreach, below-while_do, below-do_while}
use Rattle.pi_prog_clauses.proofs.nodes.WalkLemmas.{once_ok, twice_ok, thrice_ok}
use Rattle.pi_prog_clauses.proofs.nodes.walk.Walk.push_below.Goals as goal

pub returns-in-Var : goal.returns-in-Var
returns-in-Var c = below-var _ _ _ _ c.in-Var.is

pub returns-in-Int : goal.returns-in-Int
returns-in-Int c = below-int _ _ _ _ c.in-Int.is

pub returns-in-Atom : goal.returns-in-Atom
returns-in-Atom c = below-atom _ _ _ _ c.in-Atom.is

pub returns-in-Str : goal.returns-in-Str
returns-in-Str c = below-str _ _ _ _ c.in-Str.is

pub returns-in-List : goal.returns-in-List
returns-in-List c = twice_ok c.push_held.result c.push_all.result c.and.result c.and.ensures c.push_held.ensures c.push_all.ensures (λ one now. below-list _ _ _ _ _ _ _ _ _ c.in-List.is c.inside-inside.ensures c.as_slice.ensures.value one now)

pub returns-in-Array : goal.returns-in-Array
returns-in-Array c = once_ok c.push_all-in-Array.result c.push_all-in-Array.ensures (λ now. below-array _ _ _ _ _ _ _ c.in-Array.is c.inside-inside.ensures c.as_slice-in-Array.ensures.value now)

pub returns-in-Call : goal.returns-in-Call
returns-in-Call c = once_ok c.push_arguments.result c.push_arguments.ensures (λ now. below-call _ _ _ _ _ _ _ _ c.in-Call.is c.as_str.ensures c.as_slice-in-Call.ensures.value now)

pub returns-in-Quote : goal.returns-in-Quote
returns-in-Quote c = once_ok c.push.result c.push.ensures (λ now. below-quote _ _ _ _ _ _ c.in-Quote.is c.quoted.ensures (rw c.deref.ensures at now))

pub returns-in-Index : goal.returns-in-Index
returns-in-Index c = twice_ok c.push_all-in-Index.result c.push-in-Index.result c.and-in-Index.result c.and-in-Index.ensures c.push_all-in-Index.ensures c.push-in-Index.ensures (λ one now. below-index _ _ _ _ _ _ _ _ _ c.in-Index.is c.inside-inside.ensures c.as_slice-in-Index.ensures.value one (rw c.deref-in-Index.ensures at now))

pub returns-in-Range : goal.returns-in-Range
returns-in-Range c = thrice_ok c.push-in-Range.result c.push_held-in-Range.result c.push-in-Range-2.result c.and-in-Range.result c.and-in-Range-2.result c.and-in-Range.ensures c.and-in-Range-2.ensures c.push-in-Range.ensures c.push_held-in-Range.ensures c.push-in-Range-2.ensures (λ one two now. below-range _ _ _ _ _ _ _ _ _ _ c.in-Range.is c.inside-inside.ensures (rw c.deref-in-Range.ensures at one) two (rw c.deref-in-Range-2.ensures at now))

pub returns-in-At : goal.returns-in-At
returns-in-At c = once_ok c.push-in-At.result c.push-in-At.ensures (λ now. below-at _ _ _ _ _ _ _ c.in-At.is c.inside-inside.ensures (rw c.deref-in-At.ensures at now))

pub returns-in-Collect : goal.returns-in-Collect
returns-in-Collect c = twice_ok c.push_all-in-Collect.result c.push-in-Collect.result c.and-in-Collect.result c.and-in-Collect.ensures c.push_all-in-Collect.ensures c.push-in-Collect.ensures (λ one now. below-collect _ _ _ _ _ _ _ _ _ _ c.in-Collect.is c.inside-inside.ensures c.as_slice-in-Collect.ensures.value one (rw c.deref-in-Collect.ensures at now))

pub returns-in-And : goal.returns-in-And
returns-in-And c = once_ok c.push_all-in-And.result c.push_all-in-And.ensures (λ now. below-and _ _ _ _ _ _ _ c.in-And.is c.body-body.ensures c.as_slice-in-And.ensures.value now)

pub returns-in-Or : goal.returns-in-Or
returns-in-Or c = once_ok c.push_all-in-Or.result c.push_all-in-Or.ensures (λ now. below-or _ _ _ _ _ _ _ c.in-Or.is c.body-body.ensures c.as_slice-in-Or.ensures.value now)

pub returns-in-Arrow : goal.returns-in-Arrow
returns-in-Arrow c = twice_ok c.push-in-Arrow.result c.push-in-Arrow-2.result c.and-in-Arrow.result c.and-in-Arrow.ensures c.push-in-Arrow.ensures c.push-in-Arrow-2.ensures (λ one now. below-arrow _ _ _ _ _ _ _ _ c.in-Arrow.is c.body-body.ensures (rw c.deref-in-Arrow.ensures at one) (rw c.deref-in-Arrow-2.ensures at now))

pub returns-in-If : goal.returns-in-If
returns-in-If c = twice_ok c.push_held-in-If.result c.push_branches.result c.and-in-If.result c.and-in-If.ensures c.push_held-in-If.ensures c.push_branches.ensures (λ one now. below-if _ _ _ _ _ _ _ _ _ c.in-If.is c.body-body.ensures c.as_slice-in-If.ensures.value one now)

pub returns-in-Foreach : goal.returns-in-Foreach
returns-in-Foreach c = twice_ok c.push-in-Foreach.result c.push_all-in-Foreach.result c.and-in-Foreach.result c.and-in-Foreach.ensures c.push-in-Foreach.ensures c.push_all-in-Foreach.ensures (λ one now. below-foreach _ _ _ _ _ _ _ _ _ c.in-Foreach.is c.body-body.ensures c.as_slice-in-Foreach.ensures.value (rw c.deref-in-Foreach.ensures at one) now)

pub returns-in-While : goal.returns-in-While
returns-in-While c = twice_ok c.push-in-While.result c.push-in-While-2.result c.and-in-While.result c.and-in-While.ensures c.push-in-While.ensures c.push-in-While-2.ensures (λ one now. below-while_do _ _ _ _ _ _ _ _ c.in-While.is c.body-body.ensures (rw c.deref-in-While.ensures at one) (rw c.deref-in-While-2.ensures at now))

pub returns-in-DoWhile : goal.returns-in-DoWhile
returns-in-DoWhile c = twice_ok c.push-in-DoWhile.result c.push-in-DoWhile-2.result c.and-in-DoWhile.result c.and-in-DoWhile.ensures c.push-in-DoWhile.ensures c.push-in-DoWhile-2.ensures (λ one now. below-do_while _ _ _ _ _ _ _ _ c.in-DoWhile.is c.body-body.ensures (rw c.deref-in-DoWhile.ensures at one) (rw c.deref-in-DoWhile-2.ensures at now))
