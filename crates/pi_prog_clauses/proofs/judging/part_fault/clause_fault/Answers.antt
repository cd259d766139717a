use Rattle.std.proofs.Common.{sym, ◌∙◌}
use Rattle.pi_prog_clauses.specs.Seen.{seen_clause}
use Rattle.pi_prog_clauses.specs.Verdict.{all_defined, all_indexed}
use Rattle.pi_prog_clauses.proofs.judging.JudgeLemmas.{fault_of_declaration, fault_of_clause, fault_of_names, no_fault}
use Rattle.pi_prog_clauses.proofs.judging.part_fault.clause_fault.Goals as goal

pub returns-then-declares_badly : goal.returns-then-declares_badly
returns-then-declares_badly c = λ all parts is before. fault_of_declaration all parts (seen_clause c.args.part.now) (sym (c.declares_badly.ensures (all_defined parts) before.defined) ∙ c.if-declares_badly.true)

pub returns-then-part-names_badly : goal.returns-then-part-names_badly
returns-then-part-names_badly c = λ all parts is before. fault_of_clause all parts (seen_clause c.args.part.now) c.names_badly.result c.is_kind_of_other.result (sym (c.declares_badly.ensures (all_defined parts) before.defined) ∙ c.if-declares_badly.false) (c.names_badly.ensures all is) (c.is_kind_of_other.ensures (all_indexed parts) before.indexed) c.if-part-names_badly.true

pub returns-then-part : goal.returns-then-part
returns-then-part c = λ all parts is before. fault_of_names all parts (seen_clause c.args.part.now) c.names_badly.result c.is_kind_of_other.result (sym (c.declares_badly.ensures (all_defined parts) before.defined) ∙ c.if-declares_badly.false) (c.names_badly.ensures all is) (c.is_kind_of_other.ensures (all_indexed parts) before.indexed) c.if-part-names_badly.false c.if-part.true

pub returns : goal.returns
returns c = λ all parts is before. no_fault all parts (seen_clause c.args.part.now) c.names_badly.result c.is_kind_of_other.result (sym (c.declares_badly.ensures (all_defined parts) before.defined) ∙ c.if-declares_badly.false) (c.names_badly.ensures all is) (c.is_kind_of_other.ensures (all_indexed parts) before.indexed) c.if-part-names_badly.false c.if-part.false
