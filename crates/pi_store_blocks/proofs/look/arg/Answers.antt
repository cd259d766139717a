use Rattle.std.proofs.Common.{◌+◌, ◌∙◌, slice_index, ap, sym}
use Rattle.pi_store_blocks.specs.Form.{header_of}
use Rattle.pi_store_blocks.specs.Heap.{term_at}
use Rattle.pi_store_blocks.specs.Look.{headed_arg}
use Rattle.pi_store_blocks.proofs.LookLemmas.{pair_arg, comp_arg, var_arg, int_arg, atom_arg, no_data}
use Rattle.pi_store_blocks.proofs.look.arg.Goals as goal

pub returns-in-Pair : goal.returns-in-Pair
returns-in-Pair c = λ h t u same is a.
    let q = pair_arg h c.args.r.number c.in-Pair.place c.in-Pair.field-1 t u c.args.i (sym c.of.ensures ∙ c.in-Pair.is) is a in
    ap (term_at h) (c.at.ensures ∙ ap (λ ws. slice_index ws (c.in-Pair.place + c.args.i)) (sym same)) ∙ q.0

pub returns-in-Comp : goal.returns-in-Comp
returns-in-Comp c = λ h t u same is a.
    ap (term_at h) (c.behind.ensures ∙ ap (λ ws. headed_arg ws c.args.r.number c.in-Comp.place c.args.i (header_of (slice_index ws c.in-Comp.place))) (sym same))
    ∙ comp_arg h c.args.r.number c.in-Comp.place c.in-Comp.field-1 t u c.args.i (sym c.of.ensures ∙ c.in-Comp.is) is a

pub returns-in-Var : goal.returns-in-Var
returns-in-Var c = λ h t u same is a. absurd (var_arg h c.args.r.number c.in-Var.field-0 t u c.args.i (sym c.of.ensures ∙ c.in-Var.is) is a)

pub returns-in-Int : goal.returns-in-Int
returns-in-Int c = λ h t u same is a. absurd (int_arg h c.args.r.number c.in-Int.field-0 t u c.args.i (sym c.of.ensures ∙ c.in-Int.is) is a)

pub returns-in-Atom : goal.returns-in-Atom
returns-in-Atom c = λ h t u same is a. absurd (atom_arg h c.args.r.number c.in-Atom.field-0 t u c.args.i (sym c.of.ensures ∙ c.in-Atom.is) is a)

pub returns-in-Data : goal.returns-in-Data
returns-in-Data c = λ h t u same is a. absurd (no_data h c.args.r.number c.in-Data.field-0 t (sym c.of.ensures ∙ c.in-Data.is) is)
