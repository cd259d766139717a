use Rattle.std.proofs.Common.{◌∙◌, ap, sym, rules}
use Rattle.pi_terms.specs.Tree.{int}
use Rattle.pi_store_blocks.proofs.LookLemmas.{shows_var, shows_int, shows_atom, shows_pair, shows_comp, no_data}
use Rattle.pi_store_blocks.proofs.look.cell.Goals as goal

pub returns-in-Var : goal.returns-in-Var
returns-in-Var c = λ h t same is. shows_var h c.args.r.number c.in-Var.n t (sym c.of.ensures ∙ c.in-Var.is) is

pub returns-in-Int : goal.returns-in-Int
returns-in-Int c = λ h t same is. shows_int h c.args.r.number c.in-Int.n t (sym c.of.ensures ∙ c.in-Int.is) is ∙ ap int (search rules)

pub returns-in-Atom : goal.returns-in-Atom
returns-in-Atom c = λ h t same is. shows_atom h c.args.r.number c.in-Atom.k t (sym c.of.ensures ∙ c.in-Atom.is) is

pub returns-in-Pair : goal.returns-in-Pair
returns-in-Pair c = λ h t same is. shows_pair h c.args.r.number c.in-Pair.field-0 c.in-Pair.field-1 t (sym c.of.ensures ∙ c.in-Pair.is) is

pub returns-in-Comp : goal.returns-in-Comp
returns-in-Comp c = λ h t same is.
    rw (c.headed.ensures, ← same) (shows_comp h c.args.r.number c.in-Comp.place c.in-Comp.field-1 t (sym c.of.ensures ∙ c.in-Comp.is) is)

pub returns-in-Data : goal.returns-in-Data
returns-in-Data c = λ h t same is. absurd (no_data h c.args.r.number c.in-Data.n t (sym c.of.ensures ∙ c.in-Data.is) is)
