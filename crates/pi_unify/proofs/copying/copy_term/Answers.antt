use Rattle.pi_unify.proofs.copying.copy_term.Goals as goal

pub returns-clause-copies : goal.returns-clause-copies
returns-clause-copies g c = λ t is a. c.copy_by_nodes-copied.ensures.copies t (record { refs = c.new.ensures.items; numbers = c.new-2.ensures; left = c.new-3.ensures.items }) is a
