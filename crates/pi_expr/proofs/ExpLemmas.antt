-- What the whole reader answers, against the definition.
use Rattle.std.proofs.Common.{◌≡◌, List, map, subst, Result, Ok, Err, inr, IfOk, IfErr}
use Rattle.pi_syntax.specs.declared.exp.Exp.{Exp}
use Rattle.pi_syntax.specs.ExpTree.{exp_tree}
use Rattle.pi_syntax.specs.Tokens.{Token}
use Rattle.pi_syntax.specs.Terminals as t
use Rattle.pi_syntax.specs.Crowding.{IsCrowded, IsRead}
use Rattle.pi_expr.specs.Faults.{IsFault}
use Rattle.pi_expr_phrases.specs.Machine.{begin}
use Rattle.pi_expr.specs.States.{EndsAs}
use Rattle.pi_expr.specs.declared.fault.ExpFault.{ExpFault}
use Rattle.pi_expr.specs.declared.fault.ExpFault.TheVariants as fault
use Rattle.pi_expr.proofs.Complete.{runs_to}
use Rattle.pi_expr.proofs.Exact.{runs_from}

ends_read : (tokens : List Token) (r : Result Exp ExpFault) → (IsCrowded tokens → ⊥) → EndsAs r (begin (map t.terminal tokens))
    → IfOk r (λ e. IsRead tokens (exp_tree e)) × IfErr r (λ f. IsFault tokens f)
ends_read tokens (Ok e) few h = ((runs_from tokens (exp_tree e) h.0, few, h.1), tt)
ends_read tokens (Err fault.NoExpression) few h = (tt, (few, λ e d. h e (runs_to tokens e d)))
ends_read tokens (Err fault.TooDeep) few h = (tt, inr (h.0, runs_from tokens h.0 h.1.0, h.1.1))
ends_read tokens (Err fault.Memory) few h = (tt, tt)

pub read_is : (tokens : List Token) (ts : List t.Terminal) (r : Result Exp ExpFault) → ts ≡ map t.terminal tokens → ¬ IsCrowded tokens → EndsAs r (begin ts)
    → IfOk r (λ e. IsRead tokens (exp_tree e)) × IfErr r (λ f. IsFault tokens f)
read_is tokens ts r p few h = ends_read tokens r few (subst (λ (all : List t.Terminal). EndsAs r (begin all)) p h)
