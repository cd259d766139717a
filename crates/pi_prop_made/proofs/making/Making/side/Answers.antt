-- A new variable, and its difference to the sum.
use Rattle.std.specs.Prelude.{ℕ}
use Rattle.std.proofs.Common.{sym, subst}
use Rattle.pi_prop_made.specs.Making.{AllBelow, with_variable}
use Rattle.pi_prop_made.proofs.SideLemmas.{new_side}
use Rattle.pi_prop_made.proofs.making.Making.side.Goals as goal

pub returns-in_ok-define-in-None : goal.returns-in_ok-define-in-None
returns-in_ok-define-in-None c = λ m s b.
    new_side c.args.sum m c.in_ok-variable-in-None.variable c.define.new.self c.in-None.ensures (c.in_ok-variable-in-None.ensures m s).0
    (c.in_ok-define-in-None.ensures (with_variable m) (c.in_ok-variable-in-None.ensures m s).1 (subst (λ (k : ℕ). AllBelow k c.args.sum.terms) (sym (c.in_ok-variable-in-None.ensures m s).0) b))
