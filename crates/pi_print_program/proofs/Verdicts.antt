-- Where the verdict of parts is a program, none of them has a fault.
use Rattle.std.proofs.Common.{◌≡◌, ℕ, ◌+◌, Bool, true, false, ◌||◌, List, [], ◌∷◌, ◌++◌, length, Option, Some, None, refl, if◌then◌else◌}
use Rattle.pi_prog_clauses.specs.Calls.{Named}
use Rattle.pi_prog_clauses.specs.Items.{is_fact}
use Rattle.pi_prog_clauses.specs.Verdict.{PartFault, JudgedPart, refused, libraries, one_clause, all_defined, all_indexed, declares_badly, names_badly, is_kind_of_other, is_indexed, is_bad_clause, BadDeclaration, BadClause, TooManyVariables, part_fault, Faulty, faulty_or, first_faulty, Unknown, first_apart, first_unknown_in, parts_of, a_program, verdict_by, verdict}
use Rattle.pi_syntax.specs.ProgramTree.{ProgramTree}
use Rattle.pi_print_program.proofs.Calls.{neither}

-- what is judged of a part by itself is no fault
abbrev pub IsSound : JudgedPart → Type 0
IsSound (refused fault) = ⊥
IsSound (libraries names) = Unit {0}
IsSound (one_clause c) = (c.bad_form ≡ false) × (c.many_names ≡ false)

abbrev pub AreSound : List JudgedPart → Type 0
AreSound [] = Unit {0}
AreSound (j ∷ js) = IsSound j × AreSound js

no_fault : (declares bad many : Bool) (a b d : PartFault) → (if declares then Some a else if bad then Some b else if many then Some d else None) ≡ None → (bad ≡ false) × (many ≡ false)
no_fault true bad many a b d none = absurd cc
no_fault false true many a b d none = absurd cc
no_fault false false true a b d none = absurd cc
no_fault false false false a b d none = (refl, refl)

sound_part : (all : List Named) (before : List JudgedPart) (j : JudgedPart) → part_fault all before j ≡ None → IsSound j
sound_part all before (refused fault) none = absurd cc
sound_part all before (libraries names) none = tt
sound_part all before (one_clause c) none =
    let (good, few) = no_fault (declares_badly (all_defined before) c) (is_bad_clause all before c) c.many_names BadDeclaration BadClause TooManyVariables none in
    ((neither c.bad_form (names_badly all c || is_kind_of_other (is_fact c.clause) (is_indexed (all_indexed before) c)) good).0, few)

no_faulty : (fault : Option PartFault) (number : ℕ) (later : Option Faulty) → faulty_or fault number later ≡ None → (fault ≡ None) × (later ≡ None)
no_faulty None number later none = (refl, none)
no_faulty (Some fault) number later none = absurd cc

sound_parts : (all : List Named) (before js : List JudgedPart) → first_faulty all before js ≡ None → AreSound js
sound_parts all before [] none = tt
sound_parts all before (j ∷ js) none =
    let (here, later) = no_faulty (part_fault all before j) (length before + 1) (first_faulty all (before ++ j ∷ []) js) none in
    (sound_part all before j here, sound_parts all (before ++ j ∷ []) js later)

-- the parts of a program
pub record AreParts (js : List JudgedPart) (program : ProgramTree) : Type 0 where
  pub sound : AreSound js
  pub same : program ≡ parts_of js

program_same : (p q : ProgramTree) → a_program p ≡ a_program q → p ≡ q
program_same p q same = cc

parts_by : (js : List JudgedPart) (program : ProgramTree) (fault : Option Faulty) (apart : Option Named) (unknown : Option Unknown) → a_program program ≡ verdict_by js fault apart unknown
    → (fault ≡ None) × (program ≡ parts_of js)
parts_by js program (Some f) apart unknown is = absurd cc
parts_by js program None (Some d) unknown is = absurd cc
parts_by js program None None (Some u) is = absurd cc
parts_by js program None None None is = (refl, program_same program (parts_of js) is)

pub parts_judged : (js : List JudgedPart) (program : ProgramTree) → a_program program ≡ verdict js → AreParts js program
unfolding verdict
parts_judged js program is =
    let (none, same) = parts_by js program (first_faulty (all_defined js) [] js) (first_apart [] (all_defined js)) (first_unknown_in (all_defined js) 0 js) is in
    record { sound = sound_parts (all_defined js) [] js none; same = same }
