-- What a program's parts come to together: the program, or its first fault. A part is judged with the clauses of all parts; a part
-- that is too deep has none.
use Rattle.std.specs.Prelude.{◌≡◌, ℕ, ◌+◌, suc, Bool, false, not, ◌&&◌, ◌||◌, ◌==◌, nat_lt, if◌then◌else◌, List, [], ◌∷◌, ◌++◌, length, map, Option, Some, None, is_some}
use Rattle.std.specs.List.{list_any}
use Rattle.std.specs.Str.{bytes_eq}
use Rattle.pi_syntax.specs.Names.{kind_of}
use Rattle.pi_syntax.specs.ProgramTree.{WrittenClause, PartTree, ProgramTree}
use Rattle.pi_syntax.specs.Signature.{Signature, signature}
use Rattle.pi_syntax.specs.Tokens.{Token}
use Rattle.pi_syntax.specs.declared.program.Decl.{Decl}
use Rattle.pi_syntax.specs.declared.program.Mode.{Mode}
use Rattle.pi_prog_clauses.specs.Calls.{Named, named, same_bool, calls_among, first_unknown}
use Rattle.pi_prog_clauses.specs.Items.{head_of, is_function, is_fact, has_bad_head, is_function_with_choice_or_events, is_open_action_rule, has_bad_events, are_bad_nodes}
use Rattle.pi_prog_clauses.specs.Places.{clause_placed}
use Rattle.pi_prog_clauses.specs.Reading.{Reading, too_deep, misdeclared_part, no_clause, imports_part, written, WrittenPart, ReadAll}
use Rattle.pi_prog_clauses.specs.Shape.{clause_of}
use Rattle.pi_prog_clauses.specs.Stretch.{stretches}

-- why a part is refused
pub data PartFault : Type 0 where
  TooDeep : PartFault
  BadDeclaration : PartFault
  BadClause : PartFault
  TooManyVariables : PartFault

-- the most different names of variables in a part; all `_` are one name
abbrev pub most_names : ℕ
most_names = 4_096

-- ---- what is judged of a part by itself

abbrev pub clause_in : WrittenPart → WrittenClause
clause_in p = clause_of p.shape

-- what its shape and its nodes forbid
abbrev pub has_bad_form : WrittenPart → Bool
has_bad_form p =
    (is_function_with_choice_or_events p.shape || (is_open_action_rule p.shape || has_bad_events p.shape))
    || (has_bad_head (clause_in p) || are_bad_nodes (clause_placed (clause_in p)))

-- how many different names are among these
abbrev pub different : List (List ℕ) → ℕ
different [] = 0
different (name ∷ names) = if list_any (bytes_eq name) names then different names else suc (different names)

abbrev pub has_too_many_names : List (List ℕ) → Bool
has_too_many_names names = nat_lt most_names (different names)

-- a clause with its mode lists, whether it has a form that is forbidden, and whether its variables have too many names
pub record JudgedClause : Type 0 where
  pub modes : Option (List (List Mode))
  pub clause : WrittenClause
  pub bad_form : Bool
  pub many_names : Bool

pub data JudgedPart : Type 0 where
  refused : PartFault → JudgedPart
  libraries : List (List ℕ) → JudgedPart
  one_clause : JudgedClause → JudgedPart

abbrev pub judged_clause : WrittenPart → JudgedClause
judged_clause p = record { modes = p.modes; clause = clause_in p; bad_form = has_bad_form p; many_names = has_too_many_names p.names }

abbrev pub judged : Reading → JudgedPart
judged too_deep = refused TooDeep
judged misdeclared_part = refused BadDeclaration
judged no_clause = refused BadClause
judged (imports_part names) = libraries names
judged (written p) = one_clause (judged_clause p)

-- ---- what clauses define

-- a predicate's or a function's name, where there is one
abbrev pub named_of : Bool → Option Signature → Option Named
named_of as_function None = None
named_of as_function (Some s) = Some (named s.name s.arity as_function)

-- what a clause defines
abbrev pub definition : WrittenClause → Option Named
definition c = named_of (is_function c) (signature (head_of c))

abbrev pub as_list : Option Named → List Named
as_list None = []
as_list (Some d) = d ∷ []

-- the predicate or function that a clause is of
abbrev pub clause_signature : JudgedClause → Option Signature
clause_signature c = signature (head_of c.clause)

abbrev pub defined_by : JudgedPart → Option Named
defined_by (one_clause c) = definition c.clause
defined_by p = None

-- what stands behind an `index`
abbrev pub indexed_in_clause : JudgedClause → Option Named
indexed_in_clause c = if is_some c.modes then named_of false (clause_signature c) else None

abbrev pub indexed_by : JudgedPart → Option Named
indexed_by (one_clause c) = indexed_in_clause c
indexed_by p = None

-- what the clauses of these parts define, in order
abbrev pub all_defined : List JudgedPart → List Named
all_defined [] = []
all_defined (p ∷ ps) = as_list (defined_by p) ++ all_defined ps

abbrev pub all_indexed : List JudgedPart → List Named
all_indexed [] = []
all_indexed (p ∷ ps) = as_list (indexed_by p) ++ all_indexed ps

abbrev pub is_of : Signature → Named → Bool
is_of s d = bytes_eq s.name d.name && s.arity == d.arity

-- one of these is of the predicate or function
abbrev pub holds : List Named → Option Signature → Bool
holds ds None = false
holds ds (Some s) = list_any (is_of s) ds

-- ---- a part's declaration

abbrev pub is_length_of : ℕ → List Mode → Bool
is_length_of arity modes = length modes == arity

abbrev pub has_other_length : Option (List (List Mode)) → Option Signature → Bool
has_other_length (Some lists) (Some s) = list_any (λ modes. not (is_length_of s.arity modes)) lists
has_other_length _ _ = false

-- the length of a mode list isn't the number of arguments
abbrev pub has_wrong_modes : JudgedClause → Bool
has_wrong_modes c = has_other_length c.modes (clause_signature c)

-- it has an `index`, and its predicate is one of these, which earlier parts define
abbrev pub is_late_index : List Named → JudgedClause → Bool
is_late_index defined c = is_some c.modes && holds defined (clause_signature c)

abbrev pub declares_badly : List Named → JudgedClause → Bool
declares_badly defined c = has_wrong_modes c || is_late_index defined c

-- ---- a part's clause

abbrev pub is_built_in_signature : Option Signature → Bool
is_built_in_signature None = false
is_built_in_signature (Some s) = is_some (kind_of s.name s.arity)

-- the head has the name and the number of arguments of something built in
abbrev pub is_built_in : JudgedClause → Bool
is_built_in c = is_built_in_signature (clause_signature c)

abbrev pub is_other_kind : Signature → Bool → Named → Bool
is_other_kind s as_function d = is_of s d && not (same_bool as_function d.function)

abbrev pub holds_other_kind : List Named → Bool → Option Signature → Bool
holds_other_kind ds as_function None = false
holds_other_kind ds as_function (Some s) = list_any (is_other_kind s as_function) ds

-- it is a predicate's in this clause and a function's in another of these, which all parts define, or the reverse
abbrev pub has_two_kinds : List Named → JudgedClause → Bool
has_two_kinds all c = holds_other_kind all (is_function c.clause) (clause_signature c)

abbrev pub names_badly : List Named → JudgedClause → Bool
names_badly all c = is_built_in c || has_two_kinds all c

-- there is an `index` of its predicate, in this part or an earlier one
abbrev pub is_indexed : List Named → JudgedClause → Bool
is_indexed indexed c = is_some c.modes || holds indexed (clause_signature c)

-- a fact of a predicate without `index`
abbrev pub is_stray_fact : Bool → Bool → Bool
is_stray_fact fact indexed = fact && not indexed

-- no fact, of a predicate with `index`
abbrev pub is_indexed_rule : Bool → Bool → Bool
is_indexed_rule fact indexed = not fact && indexed

abbrev pub is_kind_of_other : Bool → Bool → Bool
is_kind_of_other fact indexed = is_stray_fact fact indexed || is_indexed_rule fact indexed

abbrev pub is_bad_clause : List Named → List JudgedPart → JudgedClause → Bool
is_bad_clause all before c = c.bad_form || (names_badly all c || is_kind_of_other (is_fact c.clause) (is_indexed (all_indexed before) c))

-- ---- the first fault

abbrev pub clause_fault : List Named → List JudgedPart → JudgedClause → Option PartFault
clause_fault all before c =
    if declares_badly (all_defined before) c then Some BadDeclaration
    else if is_bad_clause all before c then Some BadClause
    else if c.many_names then Some TooManyVariables
    else None

-- of a part, where all parts define these, and these parts stand before it
abbrev pub part_fault : List Named → List JudgedPart → JudgedPart → Option PartFault
part_fault all before (refused fault) = Some fault
part_fault all before (libraries names) = None
part_fault all before (one_clause c) = clause_fault all before c

-- a part's number, counted from 1, and its fault
pub record Faulty : Type 0 where
  pub number : ℕ
  pub fault : PartFault

abbrev pub faulty_or : Option PartFault → ℕ → Option Faulty → Option Faulty
faulty_or None number later = later
faulty_or (Some fault) number later = Some (record { number = number; fault = fault })

-- the first faulty part of those that are left
abbrev pub first_faulty : List Named → List JudgedPart → List JudgedPart → Option Faulty
first_faulty all before [] = None
first_faulty all before (p ∷ ps) = faulty_or (part_fault all before p) (length before + 1) (first_faulty all (before ++ p ∷ []) ps)

-- ---- clauses that stand apart

abbrev pub same_signature : Named → Named → Bool
same_signature a b = bytes_eq a.name b.name && a.arity == b.arity

-- it isn't that of the clause just before, and is that of an earlier one; those before come with the nearest first
abbrev pub stands_apart : List Named → Named → Bool
stands_apart [] d = false
stands_apart (last ∷ before) d = not (same_signature d last) && list_any (same_signature d) before

-- the first clause that does
abbrev pub first_apart : List Named → List Named → Option Named
first_apart before [] = None
first_apart before (d ∷ ds) = if stands_apart before d then Some d else first_apart (d ∷ before) ds

-- ---- names that are called and are not there

pub record Unknown : Type 0 where
  pub called : Named
  pub number : ℕ

abbrev pub unknown_or : Option Named → ℕ → Option Unknown → Option Unknown
unknown_or None number later = later
unknown_or (Some c) number later = Some (record { called = c; number = number })

abbrev pub part_calls : JudgedPart → List Named
part_calls (one_clause c) = calls_among (clause_placed c.clause)
part_calls p = []

-- by part and place, the first; so many parts come before
abbrev pub first_unknown_in : List Named → ℕ → List JudgedPart → Option Unknown
first_unknown_in defined before [] = None
first_unknown_in defined before (p ∷ ps) = unknown_or (first_unknown defined (part_calls p)) (before + 1) (first_unknown_in defined (before + 1) ps)

-- ---- the whole

abbrev pub decl_of : Option (List (List Mode)) → Decl
decl_of None = Decl.Plain
decl_of (Some lists) = Decl.Index lists

-- the part of a program that it is, where it isn't refused
abbrev pub part_of : JudgedPart → List PartTree
part_of (refused fault) = []
part_of (libraries names) = record { decl = Decl.Import names; clause = None } ∷ []
part_of (one_clause c) = record { decl = decl_of c.modes; clause = Some c.clause } ∷ []

-- the parts of a program without a fault
abbrev pub parts_of : List JudgedPart → ProgramTree
parts_of [] = []
parts_of (p ∷ ps) = part_of p ++ parts_of ps

pub data Verdict : Type 0 where
  a_program : ProgramTree → Verdict
  part_is_faulty : Faulty → Verdict
  -- by the first clause that stands apart
  is_scattered : Named → Verdict
  is_unknown : Unknown → Verdict

-- the first faulty part comes first, then a clause that stands apart, then an unknown name
abbrev pub verdict_by : List JudgedPart → Option Faulty → Option Named → Option Unknown → Verdict
verdict_by all (Some f) apart unknown = part_is_faulty f
verdict_by all None (Some d) unknown = is_scattered d
verdict_by all None None (Some u) = is_unknown u
verdict_by all None None None = a_program (parts_of all)

unfoldable pub verdict : List JudgedPart → Verdict
verdict all = verdict_by all (first_faulty (all_defined all) [] all) (first_apart [] (all_defined all)) (first_unknown_in (all_defined all) 0 all)

-- what a program's tokens come to
pub record HasVerdict (tokens : List Token) (v : Verdict) : Type 0 where
  pub readings : List Reading
  pub read : ReadAll (stretches tokens) readings
  pub is : v ≡ verdict (map judged readings)
