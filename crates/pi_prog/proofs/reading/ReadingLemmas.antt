-- What a part is, by how it begins and what its clause is.
use Rattle.std.proofs.Common.{◌≡◌, ◌≢◌, ℕ, Bool, true, false, List, Option, Some, None, refl, sym, subst}
use Rattle.pi_syntax.specs.Crowding.{IsCrowded}
use Rattle.pi_expr.specs.declared.fault.ExpFault.TheVariants as fault
use Rattle.pi_syntax.specs.Tokens.{Token}
use Rattle.pi_syntax.specs.declared.program.Mode.{Mode}
use Rattle.pi_prog_clauses.specs.Declaration.{Opening, undeclared, importing, indexing, misdeclared, Opens}
use Rattle.pi_prog.specs.Pieces.{ShowsPart, IsMarkedOf, IsShapeFault, IsClauseOf}
use Rattle.pi_prog_clauses.specs.Reading as spec
use Rattle.pi_prog_clauses.specs.Reading.{whole, behind_index, variable_names}
use Rattle.pi_prog_clauses.specs.Stretch.{stretch}
use Rattle.pi_prog.specs.declared.reading.MarkedClause.{MarkedClause}
use Rattle.pi_prog_clauses.specs.declared.parts.PartReading.{PartReading}
use Rattle.pi_prog_clauses.specs.declared.parts.PartReading.TheVariants as part
use Rattle.pi_prog_clauses.specs.declared.parts.WrittenPart.{WrittenPart}

pub part_crowded : (ts : List Token) (ended : Bool) → IsCrowded ts → ShowsPart (stretch ts ended) part.TooDeep
part_crowded ts ended h = (spec.too_deep, spec.crowded h, tt)

pub part_misdeclared : (ts : List Token) (ended : Bool) → ¬ IsCrowded ts → Opens ts misdeclared → ShowsPart (stretch ts ended) part.BadDeclaration
part_misdeclared ts ended few opens = (spec.misdeclared_part, spec.no_declaration few opens, tt)

pub part_import : (ts : List Token) (ended : Bool) (names : List (List ℕ)) → ended ≡ true → ¬ IsCrowded ts → Opens ts (importing names) → ShowsPart (stretch ts ended) (part.Import names)
part_import ts ended names is few opens = (spec.imports_part names, spec.an_import few opens is, refl)

pub part_open : (ts : List Token) (ended : Bool) (o : Opening) → ended ≡ false → ¬ IsCrowded ts → Opens ts o → o ≢ misdeclared → ShowsPart (stretch ts ended) part.NoClause
part_open ts ended o is few opens sound = (spec.no_clause, spec.not_ended few opens sound is, tt)

pub import_sound : (names : List (List ℕ)) → importing names ≢ misdeclared
import_sound names h = cc

pub index_sound : (modes : List (List Mode)) (rest : List Token) → indexing modes rest ≢ misdeclared
index_sound modes rest h = cc

pub plain_sound : undeclared ≢ misdeclared
plain_sound h = cc

pub part_written : (p ts : List Token) (o : Opening) (modes : Option (List (List Mode))) (m : MarkedClause) (w : WrittenPart)
    → w ≡ record { modes = modes; clause = m.clause; has_bad_form = m.marks.has_bad_form; has_too_many_names = m.marks.has_too_many_names }
    → IsClauseOf p o modes ts → IsMarkedOf p ts m → ShowsPart (stretch p true) (part.Written w)
part_written p ts o modes m w made of (s, has, flat, is, marks) =
    let v : spec.WrittenPart = record { modes = modes; shape = s; names = variable_names p } in
    subst (λ x. ShowsPart (stretch p true) (part.Written x)) (sym made)
    (spec.written v, spec.a_clause of.few of.opens of.clause refl has flat, record { modes = refl; clause = is; form = marks.form v refl; names = marks.names })

pub part_deep : (p ts : List Token) (o : Opening) (modes : Option (List (List Mode))) → IsClauseOf p o modes ts → IsShapeFault ts fault.TooDeep → ShowsPart (stretch p true) part.TooDeep
part_deep p ts o modes of (s, has, deep) = (spec.too_deep, spec.too_many_levels of.few of.opens of.clause refl has deep, tt)

pub part_without : (p ts : List Token) (o : Opening) (modes : Option (List (List Mode))) → IsClauseOf p o modes ts → IsShapeFault ts fault.NoExpression → ShowsPart (stretch p true) part.NoClause
part_without p ts o modes of none = (spec.no_clause, spec.without_form of.few of.opens of.clause refl none, tt)

pub clause_plain : (ts : List Token) → ¬ IsCrowded ts → Opens ts undeclared → IsClauseOf ts undeclared None ts
clause_plain ts few opens = record { few = few; opens = opens; declared = plain_sound; clause = whole }

pub clause_indexed : (ts rest : List Token) (modes : List (List Mode)) → ¬ IsCrowded ts → Opens ts (indexing modes rest) → IsClauseOf ts (indexing modes rest) (Some modes) rest
clause_indexed ts rest modes few opens = record { few = few; opens = opens; declared = index_sound modes rest; clause = behind_index }

pub part_ended : (ts : List Token) (ended : Bool) (p : PartReading) → ended ≡ true → ShowsPart (stretch ts true) p → ShowsPart (stretch ts ended) p
part_ended ts ended p is shows = subst (λ b. ShowsPart (stretch ts b) p) (sym is) shows
