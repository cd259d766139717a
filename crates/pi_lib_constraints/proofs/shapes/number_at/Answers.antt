use Rattle.std.proofs.Common.{◌∙◌, ap, rules}
use Rattle.std.specs.Prelude.{ℤ, Some}
use Rattle.pi_lib_constraints.proofs.SideLemmas.{number-is, no-number-var, no-number-atom, no-number-comp}
use Rattle.pi_lib_constraints.proofs.shapes.number_at.Goals as goal

pub returns-in-Int : goal.returns-in-Int
returns-in-Int g c = λ t a is. ap (λ (n : ℤ). Some n) (search rules) ∙ number-is (g.S.StateStore.seen c.args.s.now) t c.in-Int.n a (c.in-Int.ensures.shows t is a)

pub returns-in-Var : goal.returns-in-Var
returns-in-Var g c = λ t a is. no-number-var (g.S.StateStore.seen c.args.s.now) t c.in-Var.field-0 a (c.in-Var.ensures.shows t is a)

pub returns-in-Atom : goal.returns-in-Atom
returns-in-Atom g c = λ t a is. no-number-atom (g.S.StateStore.seen c.args.s.now) t c.in-Atom.field-0 a (c.in-Atom.ensures.shows t is a)

pub returns-in-Comp : goal.returns-in-Comp
returns-in-Comp g c = λ t a is. no-number-comp (g.S.StateStore.seen c.args.s.now) t c.in-Comp.field-0 c.in-Comp.field-1 a (c.in-Comp.ensures.shows t is a)
