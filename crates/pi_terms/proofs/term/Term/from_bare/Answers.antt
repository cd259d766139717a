use Rattle.std.proofs.Common.{◌∙◌, arith}
use Rattle.pi_terms.proofs.TermLemmas.{tree_of-spelt, flat-spelt}
use Rattle.pi_terms.proofs.BareLemmas.{vec_whole}
use Rattle.pi_terms.proofs.term.Term.from_bare.Goals as goal

pub invariant_of-result : goal.invariant_of-result
invariant_of-result c =
    let w = vec_whole c.args.cells.items c.set_sizes.new.cells c.args.cells.len (omega arith) (omega arith) in
    flat-spelt _ c.requires.0 (w ∙ c.set_sizes.ensures c.requires.0 (c.deref_mut.ensures.value ∙ c.requires.1))

pub returns : goal.returns
returns c = λ t e.
    let w = vec_whole c.args.cells.items c.set_sizes.new.cells c.args.cells.len (omega arith) (omega arith) in
    tree_of-spelt _ t (w ∙ c.set_sizes.ensures t (c.deref_mut.ensures.value ∙ e))
