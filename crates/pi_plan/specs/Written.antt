-- The cells of a term that is written, before the sizes of its compounds are set.
use Rattle.pi_terms.specs.declared.term.TermCell.{TermCell}
use Rattle.pi_terms.specs.declared.term.TermHead.{TermHead}

abbrev pub bare_head : TermHead → TermCell
bare_head (TermHead.Var n) = TermCell.Var n
bare_head (TermHead.Int n) = TermCell.Int n
bare_head (TermHead.Atom name) = TermCell.Atom name.now
bare_head (TermHead.Comp name k) = TermCell.Comp name.now k 0
