-- What a program without a fault has.
use Rattle.std.proofs.Common.{◌≡◌, ℕ, Bool, true, false, if◌then◌else◌, List, [], ◌∷◌, ◌++◌, map, refl, ap}
use Rattle.std.specs.Prelude.{◌&&◌, ◌||◌, not, Option, Some, None, is_some, ⊤}
use Rattle.std.specs.List.{list_any}
use Rattle.std.proofs.lemmas.Bool.{or_parts}
use Rattle.pi_syntax.specs.ProgramTree.{WrittenClause, ProgramTree}
use Rattle.pi_syntax.specs.Signature.{signature}
use Rattle.pi_syntax.specs.Tokens.{Token}
use Rattle.pi_prog_clauses.specs.Calls.{Named}
use Rattle.pi_prog_clauses.specs.Items.{head_of, is_function, is_fact, is_head, has_bad_head, is_misplaced, misplaces, are_bad_nodes}
use Rattle.pi_prog_clauses.specs.Places.{clause_placed}
use Rattle.pi_prog_clauses.specs.Reading.{Reading, too_deep, misdeclared_part, no_clause, imports_part, written, WrittenPart}
use Rattle.pi_prog_clauses.specs.Verdict.{PartFault, Faulty, Unknown, Verdict, a_program, part_is_faulty, is_scattered, is_unknown, JudgedClause, JudgedPart, refused, libraries, one_clause, clause_in, judged_clause, judged, all_defined, all_indexed, holds, has_other_length, has_wrong_modes, is_late_index, is_kind_of_other, is_built_in_signature, is_built_in, holds_other_kind, has_two_kinds, names_badly, declares_badly, is_bad_clause, clause_fault, part_fault, faulty_or, first_faulty, first_apart, first_unknown_in, parts_of, verdict_by, verdict, HasVerdict}

-- a clause without a fault, where all parts define these
pub record IsGood (all : List Named) (c : WrittenClause) : Type 0 where
  pub head : is_head (head_of c) ≡ true
  pub own : is_built_in_signature (signature (head_of c)) ≡ false
  pub kinds : holds_other_kind all (is_function c) (signature (head_of c)) ≡ false
  pub placed : list_any is_misplaced (clause_placed c) ≡ false

abbrev pub AreGood : List Named → List JudgedPart → Type 0
AreGood all [] = ⊤
AreGood all (refused fault ∷ js) = ⊥
AreGood all (libraries names ∷ js) = AreGood all js
AreGood all (one_clause j ∷ js) = IsGood all j.clause × AreGood all js

-- a clause whose mode lists, and whose kind, are right behind these parts
pub record IsIndexedWell (before : List JudgedPart) (j : JudgedClause) : Type 0 where
  pub lengths : has_other_length j.modes (signature (head_of j.clause)) ≡ false
  pub early : (is_some j.modes && holds (all_defined before) (signature (head_of j.clause))) ≡ false
  pub kind : is_kind_of_other (is_fact j.clause) (is_some j.modes || holds (all_indexed before) (signature (head_of j.clause))) ≡ false

abbrev pub AreIndexedWell : List JudgedPart → List JudgedPart → Type 0
AreIndexedWell before [] = ⊤
AreIndexedWell before (refused fault ∷ js) = ⊥
AreIndexedWell before (libraries names ∷ js) = AreIndexedWell (before ++ libraries names ∷ []) js
AreIndexedWell before (one_clause j ∷ js) = IsIndexedWell before j × AreIndexedWell (before ++ one_clause j ∷ []) js

-- ---- clauses

first-fault : {X : Type 0} (a b c : Bool) (x y z : X) → (if a then Some x else if b then Some y else if c then Some z else None) ≡ None → a ≡ false
first-fault true b c x y z h = absurd cc
first-fault false b c x y z h = refl

no-fault : {X : Type 0} (a b c : Bool) (x y z : X) → (if a then Some x else if b then Some y else if c then Some z else None) ≡ None → b ≡ false
no-fault true b c x y z h = absurd cc
no-fault false true c x y z h = absurd cc
no-fault false false c x y z h = refl

good-head : (c : WrittenClause) → has_bad_head c ≡ false → is_head (head_of c) ≡ true
unfolding has_bad_head
good-head c h = is-good (is_head (head_of c)) _ h
  where
    is-good : (a b : Bool) → (not a || b) ≡ false → a ≡ true
    is-good true b h = refl
    is-good false b h = absurd cc

good-clause : (all : List Named) (before : List JudgedPart) (w : WrittenPart) → clause_fault all before (judged_clause w) ≡ None → IsGood all (clause_in w)
unfolding misplaces
good-clause all before w none =
    let bad : is_bad_clause all before (judged_clause w) ≡ false = no-fault (declares_badly (all_defined before) (judged_clause w)) (is_bad_clause all before (judged_clause w)) _ _ _ _ none in
    let parts = or_parts _ _ bad in
    let form = or_parts (has_bad_head (clause_in w)) (are_bad_nodes (clause_placed (clause_in w))) (or_parts _ _ parts.0).1 in
    let nodes = or_parts (misplaces (clause_placed (clause_in w))) _ form.1 in
    let names = or_parts (is_built_in (judged_clause w)) (has_two_kinds all (judged_clause w)) (or_parts (names_badly all (judged_clause w)) _ parts.1).0 in
    record { head = good-head (clause_in w) form.0; own = names.0; kinds = names.1; placed = nodes.0 }

well-indexed : (all : List Named) (before : List JudgedPart) (w : WrittenPart) → clause_fault all before (judged_clause w) ≡ None → IsIndexedWell before (judged_clause w)
well-indexed all before w none =
    let declared : declares_badly (all_defined before) (judged_clause w) ≡ false = first-fault (declares_badly (all_defined before) (judged_clause w)) (is_bad_clause all before (judged_clause w)) _ _ _ _ none in
    let bad : is_bad_clause all before (judged_clause w) ≡ false = no-fault (declares_badly (all_defined before) (judged_clause w)) (is_bad_clause all before (judged_clause w)) _ _ _ _ none in
    let modes = or_parts (has_wrong_modes (judged_clause w)) (is_late_index (all_defined before) (judged_clause w)) declared in
    let names = or_parts (names_badly all (judged_clause w)) _ (or_parts _ _ bad).1 in
    record { lengths = modes.0; early = modes.1; kind = names.1 }

-- ---- parts

none-faulty : (o : Option PartFault) (number : ℕ) (later : Option Faulty) → faulty_or o number later ≡ None → (o ≡ None) × (later ≡ None)
none-faulty None number later h = (refl, h)
none-faulty (Some fault) number later h = absurd cc

good-parts : (all : List Named) (before : List JudgedPart) (rs : List Reading) → first_faulty all before (map judged rs) ≡ None → AreGood all (map judged rs)
good-parts all before [] none = tt
good-parts all before (too_deep ∷ rs) none = absurd cc
good-parts all before (misdeclared_part ∷ rs) none = absurd cc
good-parts all before (no_clause ∷ rs) none = absurd cc
good-parts all before (imports_part names ∷ rs) none = good-parts all (before ++ libraries names ∷ []) rs none
good-parts all before (written w ∷ rs) none =
    let both = none-faulty (part_fault all before (one_clause (judged_clause w))) _ (first_faulty all (before ++ one_clause (judged_clause w) ∷ []) (map judged rs)) none in
    (good-clause all before w both.0, good-parts all (before ++ one_clause (judged_clause w) ∷ []) rs both.1)

well-parts : (all : List Named) (before : List JudgedPart) (rs : List Reading) → first_faulty all before (map judged rs) ≡ None → AreIndexedWell before (map judged rs)
well-parts all before [] none = tt
well-parts all before (too_deep ∷ rs) none = absurd cc
well-parts all before (misdeclared_part ∷ rs) none = absurd cc
well-parts all before (no_clause ∷ rs) none = absurd cc
well-parts all before (imports_part names ∷ rs) none = well-parts all (before ++ libraries names ∷ []) rs none
well-parts all before (written w ∷ rs) none =
    let both = none-faulty (part_fault all before (one_clause (judged_clause w))) _ (first_faulty all (before ++ one_clause (judged_clause w) ∷ []) (map judged rs)) none in
    (well-indexed all before w both.0, well-parts all (before ++ one_clause (judged_clause w) ∷ []) rs both.1)

-- ---- the verdict

pub record IsFaultless (program : ProgramTree) (js : List JudgedPart) : Type 0 where
  pub parts : program ≡ parts_of js
  pub good : AreGood (all_defined js) js
  pub indexed : AreIndexedWell [] js
  pub adjacent : first_apart [] (all_defined js) ≡ None
  pub known : first_unknown_in (all_defined js) 0 js ≡ None

program_in : Verdict → ProgramTree
program_in (a_program p) = p
program_in (part_is_faulty f) = []
program_in (is_scattered d) = []
program_in (is_unknown u) = []

by-all : (p : ProgramTree) (js : List JudgedPart) (f : Option Faulty) (d : Option Named) (u : Option Unknown) → a_program p ≡ verdict_by js f d u → ((f ≡ None) × (d ≡ None)) × ((u ≡ None) × (p ≡ parts_of js))
unfolding program_in
by-all p js (Some f) d u e = absurd cc
by-all p js None (Some d) u e = absurd cc
by-all p js None None (Some u) e = absurd cc
by-all p js None None None e = ((refl, refl), (refl, ap program_in e))

pub faultless : (tokens : List Token) (program : ProgramTree) (has : HasVerdict tokens (a_program program)) → IsFaultless program (map judged has.readings)
unfolding verdict
faultless tokens program has =
    let js : List JudgedPart = map judged has.readings in
    let all = by-all program js (first_faulty (all_defined js) [] js) (first_apart [] (all_defined js)) (first_unknown_in (all_defined js) 0 js) has.is in
    record { parts = all.1.1; good = good-parts (all_defined js) [] has.readings all.0.0; indexed = well-parts (all_defined js) [] has.readings all.0.0; adjacent = all.0.1; known = all.1.0 }
