use Rattle.pi_expr.proofs.CrowdLemmas.{few_by}
use Rattle.pi_prog.proofs.reading.declaration.ModesLemmas.{opens_few}
use Rattle.pi_prog.proofs.reading.ReadingLemmas.{part_crowded, part_misdeclared, clause_plain, clause_indexed}
use Rattle.pi_prog.proofs.reading.read_part.Goals as goal

pub returns-then-is_crowded : goal.returns-then-is_crowded
returns-then-is_crowded c = part_crowded _ _ (c.is_crowded.ensures.0 c.if-is_crowded.true)

pub returns-in-Misdeclared : goal.returns-in-Misdeclared
returns-in-Misdeclared c =
    let opens = rw c.in-Misdeclared.is at c.in_ok-opening.ensures in
    part_misdeclared _ _ (few_by _ _ c.is_crowded.ensures c.if-is_crowded.false) opens

pub returns-in-Importing : goal.returns-in-Importing
returns-in-Importing c =
    let opens = rw c.in-Importing.is at c.in_ok-opening.ensures in
    c.import_part.ensures _ (few_by _ _ c.is_crowded.ensures c.if-is_crowded.false) opens

pub read_behind-requires-clause-uncrowded : goal.read_behind-requires-clause-uncrowded
read_behind-requires-clause-uncrowded c =
    let opens = rw c.in-Indexing.is at c.in_ok-opening.ensures in
    opens_few opens.2 (few_by _ _ c.is_crowded.ensures c.if-is_crowded.false)

pub returns-in_ok-part-in-Indexing : goal.returns-in_ok-part-in-Indexing
returns-in_ok-part-in-Indexing c =
    let opens = rw c.in-Indexing.is at c.in_ok-opening.ensures in
    c.in_ok-part-in-Indexing.ensures _ (clause_indexed _ _ _ (few_by _ _ c.is_crowded.ensures c.if-is_crowded.false) opens.2)

pub returns-in_ok-part-in-Undeclared : goal.returns-in_ok-part-in-Undeclared
returns-in_ok-part-in-Undeclared c =
    let opens = rw c.in-Undeclared.is at c.in_ok-opening.ensures in
    c.in_ok-part-in-Undeclared.ensures _ (clause_plain _ (few_by _ _ c.is_crowded.ensures c.if-is_crowded.false) opens)
