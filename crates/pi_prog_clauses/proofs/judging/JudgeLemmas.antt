-- Loops over parts, by the parts that are left.
use Rattle.std.proofs.Common.{◌≡◌, ℕ, ◌+◌, ◌<◌, ◌≤◌, suc, Bool, true, false, cond, ◌||◌, List, [], ◌∷◌, ◌++◌, length, take, drop, get_or, map, Option, Some, None, refl, ap, ◌∙◌, sym, subst, arith, length-take}
use Rattle.std.proofs.lemmas.List.{get_or-map, length-map, take_more, take_all, drop_all}
use Rattle.std.proofs.Math.Seq.{drop-cons}
use Rattle.pi_prog_clauses.specs.Called.{named_by}
use Rattle.pi_prog_clauses.specs.Calls.{Named, first_unknown, is_known}
use Rattle.pi_prog_clauses.specs.Defined.{IsSetOf}
use Rattle.pi_prog_clauses.specs.Items.{is_fact}
use Rattle.pi_prog_clauses.specs.Seen.{seen}
use Rattle.pi_prog_clauses.specs.Verdict.{JudgedPart, JudgedClause, clause_fault, declares_badly, names_badly, is_kind_of_other, is_indexed, is_bad_clause, all_indexed, BadDeclaration, BadClause, TooManyVariables, as_list, defined_by, all_defined, first_faulty, part_fault, first_unknown_in, part_calls, PartFault, Faulty, faulty_or, Unknown, unknown_or, first_apart, stands_apart}
use Rattle.pi_prog_clauses.specs.Judge.{IsEarlier}
use Rattle.pi_prog_clauses.specs.declared.names.calls.Called.{Called}
use Rattle.pi_prog_clauses.specs.declared.names.definitions.Definitions.{Definitions}
use Rattle.pi_prog_clauses.specs.declared.parts.PartReading.{PartReading}
use Rattle.pi_prog_clauses.proofs.judging.JudgedLemmas.{defined_same, defined_more}

-- the part at a place, among those before and those behind

pub length-seen : (ps : List PartReading) → length (map seen ps) ≡ length ps
length-seen ps = length-map ps seen

module _ (ps : List PartReading) (i : ℕ) (p : PartReading) (here : i < length ps) (is : p ≡ get_or ps i p) where
  seen_at : get_or (map seen ps) i (seen p) ≡ seen p
  seen_at = get_or-map seen ps i p (seen p) here ∙ ap seen (sym is)

  seen_here : i < length (map seen ps)
  seen_here = subst (λ n. i < n) (sym (length-seen ps)) here

  pub take_next : take (i + 1) (map seen ps) ≡ take i (map seen ps) ++ seen p ∷ []
  take_next = take_more (map seen ps) i (seen p) seen_here ∙ ap (λ x. take i (map seen ps) ++ x ∷ []) seen_at

  pub drop_next : drop i (map seen ps) ≡ seen p ∷ drop (i + 1) (map seen ps)
  drop_next = let step : i + 1 ≡ suc i = omega arith in
      drop-cons (map seen ps) i (seen p) seen_here ∙ ap (λ x. x ∷ drop (suc i) (map seen ps)) seen_at ∙ ap (λ n. seen p ∷ drop n (map seen ps)) (sym step)

  length_before : length (take i (map seen ps)) ≡ i
  length_before = let h = seen_here in simp length-take (omega arith)

  -- definitions

  pub set_same : (set : Definitions) → None ≡ defined_by (seen p) → IsSetOf set (all_defined (take i (map seen ps))) → IsSetOf set (all_defined (take (i + 1) (map seen ps)))
  set_same set none old = subst (λ ss. IsSetOf set (all_defined ss)) (sym take_next) (defined_same set (take i (map seen ps)) (seen p) (sym none) old)

  pub set_more : (set : Definitions) (d : Named) → Some d ≡ defined_by (seen p) → IsSetOf set (all_defined (take i (map seen ps)) ++ d ∷ []) → IsSetOf set (all_defined (take (i + 1) (map seen ps)))
  set_more set d some new = subst (λ ss. IsSetOf set (all_defined ss)) (sym take_next) (defined_more set (take i (map seen ps)) (seen p) d (sym some) new)

  -- faults

  fault_here : (all : List Named) → first_faulty all (take i (map seen ps)) (drop i (map seen ps))
      ≡ faulty_or (part_fault all (take i (map seen ps)) (seen p)) (i + 1) (first_faulty all (take (i + 1) (map seen ps)) (drop (i + 1) (map seen ps)))
  fault_here all = ap (first_faulty all (take i (map seen ps))) drop_next
      ∙ ap (λ n. faulty_or (part_fault all (take i (map seen ps)) (seen p)) (n + 1) (first_faulty all (take i (map seen ps) ++ seen p ∷ []) (drop (i + 1) (map seen ps)))) length_before
      ∙ ap (λ ss. faulty_or (part_fault all (take i (map seen ps)) (seen p)) (i + 1) (first_faulty all ss (drop (i + 1) (map seen ps)))) (sym take_next)

  pub fault_found : (all : List Named) (f : PartFault) → first_faulty all [] (map seen ps) ≡ first_faulty all (take i (map seen ps)) (drop i (map seen ps))
      → Some f ≡ part_fault all (take i (map seen ps)) (seen p) → Some (let r : Faulty = record { number = i + 1; fault = f } in r) ≡ first_faulty all [] (map seen ps)
  fault_found all f same some = sym (same ∙ fault_here all ∙ ap (λ o. faulty_or o (i + 1) (first_faulty all (take (i + 1) (map seen ps)) (drop (i + 1) (map seen ps)))) (sym some))

  pub fault_passed : (all : List Named) → first_faulty all [] (map seen ps) ≡ first_faulty all (take i (map seen ps)) (drop i (map seen ps))
      → None ≡ part_fault all (take i (map seen ps)) (seen p) → first_faulty all [] (map seen ps) ≡ first_faulty all (take (i + 1) (map seen ps)) (drop (i + 1) (map seen ps))
  fault_passed all same none = same ∙ fault_here all ∙ ap (λ o. faulty_or o (i + 1) (first_faulty all (take (i + 1) (map seen ps)) (drop (i + 1) (map seen ps)))) (sym none)

  -- unknown names

  unknown_here : (all : List Named) → first_unknown_in all i (drop i (map seen ps)) ≡ unknown_or (first_unknown all (part_calls (seen p))) (i + 1) (first_unknown_in all (i + 1) (drop (i + 1) (map seen ps)))
  unknown_here all = ap (first_unknown_in all i) drop_next

  pub unknown_found : (all : List Named) (d : Named) → first_unknown_in all 0 (map seen ps) ≡ first_unknown_in all i (drop i (map seen ps))
      → Some d ≡ first_unknown all (part_calls (seen p)) → Some (let r : Unknown = record { called = d; number = i + 1 } in r) ≡ first_unknown_in all 0 (map seen ps)
  unknown_found all d same some = sym (same ∙ unknown_here all ∙ ap (λ o. unknown_or o (i + 1) (first_unknown_in all (i + 1) (drop (i + 1) (map seen ps)))) (sym some))

  pub unknown_passed : (all : List Named) → first_unknown_in all 0 (map seen ps) ≡ first_unknown_in all i (drop i (map seen ps))
      → None ≡ first_unknown all (part_calls (seen p)) → first_unknown_in all 0 (map seen ps) ≡ first_unknown_in all (i + 1) (drop (i + 1) (map seen ps))
  unknown_passed all same none = same ∙ unknown_here all ∙ ap (λ o. unknown_or o (i + 1) (first_unknown_in all (i + 1) (drop (i + 1) (map seen ps)))) (sym none)

-- the end

pub no_more : (ps : List PartReading) (i : ℕ) → length ps ≤ i → drop i (map seen ps) ≡ []
no_more ps i end = drop_all i (map seen ps) (subst (λ n. n ≤ i) (sym (length-seen ps)) end)

pub all_before : (ps : List PartReading) (i : ℕ) → length ps ≤ i → take i (map seen ps) ≡ map seen ps
all_before ps i end = take_all i (map seen ps) (subst (λ n. n ≤ i) (sym (length-seen ps)) end)

-- clauses that stand apart

pub record Apart (earlier : Definitions) (last : Option Called) (ps : List PartReading) (i : ℕ) : Type 0 where
  pub before : List Named
  pub is : IsEarlier earlier last before
  pub same : first_apart [] (all_defined (map seen ps)) ≡ first_apart before (all_defined (drop i (map seen ps)))

apart_here : (ps : List PartReading) (i : ℕ) (p : PartReading) → i < length ps → p ≡ get_or ps i p → (before : List Named) (o : Option Named) → o ≡ defined_by (seen p) →
    first_apart before (all_defined (drop i (map seen ps))) ≡ first_apart before (as_list o ++ all_defined (drop (i + 1) (map seen ps)))
apart_here ps i p here is before o e = ap (λ ss. first_apart before (all_defined ss)) (drop_next ps i p here is) ∙ ap (λ d. first_apart before (as_list d ++ all_defined (drop (i + 1) (map seen ps)))) (sym e)

pub apart_same : (earlier : Definitions) (last : Option Called) (ps : List PartReading) (i : ℕ) (p : PartReading) → i < length ps → p ≡ get_or ps i p → None ≡ defined_by (seen p) → Apart earlier last ps i → Apart earlier last ps (i + 1)
apart_same earlier last ps i p here is none old = record { before = old.before; is = old.is; same = old.same ∙ apart_here ps i p here is old.before None none }

apart_or : (apart : Bool) (d : Named) (before ds : List Named) → apart ≡ false → cond apart (Some d) (first_apart (d ∷ before) ds) ≡ first_apart (d ∷ before) ds
apart_or true d before ds e = absurd cc
apart_or false d before ds e = refl

pub apart_more : (earlier more : Definitions) (last : Option Called) (name : Called) (ps : List PartReading) (i : ℕ) (p : PartReading) → i < length ps → p ≡ get_or ps i p → Some (named_by name) ≡ defined_by (seen p) →
    (old : Apart earlier last ps i) → stands_apart old.before (named_by name) ≡ false → ((names : List Named) → IsSetOf earlier names → IsSetOf more (named_by name ∷ names)) → Apart more (Some name) ps (i + 1)
apart_more earlier more last name ps i p here is some old together adds = record {
  before = named_by name ∷ old.before;
  is = record { names = adds old.before old.is.names; newest = refl };
  same = old.same ∙ apart_here ps i p here is old.before (Some (named_by name)) some ∙ apart_or (stands_apart old.before (named_by name)) (named_by name) old.before (all_defined (drop (i + 1) (map seen ps))) together;
}

apart_then : (apart : Bool) (d : Named) (o : Option Named) → apart ≡ true → cond apart (Some d) o ≡ Some d
apart_then true d o e = refl
apart_then false d o e = absurd cc

pub apart_found : (earlier : Definitions) (last : Option Called) (name : Called) (ps : List PartReading) (i : ℕ) (p : PartReading) → i < length ps → p ≡ get_or ps i p → Some (named_by name) ≡ defined_by (seen p) →
    (old : Apart earlier last ps i) → stands_apart old.before (named_by name) ≡ true → Some (named_by name) ≡ first_apart [] (all_defined (map seen ps))
apart_found earlier last name ps i p here is some old apart =
    sym (old.same ∙ apart_here ps i p here is old.before (Some (named_by name)) some ∙ apart_then (stands_apart old.before (named_by name)) (named_by name) (first_apart (named_by name ∷ old.before) (all_defined (drop (i + 1) (map seen ps)))) apart)

pub none_apart : (earlier : Definitions) (last : Option Called) (ps : List PartReading) (i : ℕ) → length ps ≤ i → Apart earlier last ps i → None ≡ first_apart [] (all_defined (map seen ps))
none_apart earlier last ps i end old = sym (old.same ∙ ap (λ ss. first_apart old.before (all_defined ss)) (no_more ps i end))

-- ---- calls, one after the other

pub unknown_past : (all ahead rest : List Named) (d : Named) (knows : Bool) → ahead ≡ d ∷ rest → knows ≡ is_known all d → knows ≡ true → first_unknown all ahead ≡ first_unknown all rest
unknown_past all ahead rest d knows first is known = ap (first_unknown all) first ∙ ap (λ k. cond k (first_unknown all rest) (Some d)) (sym is ∙ known)

pub unknown_met : (all ahead rest : List Named) (d : Named) (knows : Bool) → ahead ≡ d ∷ rest → knows ≡ is_known all d → knows ≡ false → first_unknown all ahead ≡ Some d
unknown_met all ahead rest d knows first is known = ap (first_unknown all) first ∙ ap (λ k. cond k (first_unknown all rest) (Some d)) (sym is ∙ known)

-- ---- the fault of a clause

or_joined : (a b c : Bool) → (a || (b || c)) ≡ ((a || b) || c)
or_joined true b c = refl
or_joined false b c = refl

pub fault_of_declaration : (all : List Named) (parts : List JudgedPart) (clause : JudgedClause) → declares_badly (all_defined parts) clause ≡ true → Some BadDeclaration ≡ clause_fault all parts clause
fault_of_declaration all parts clause d = rw d refl

module _ (all : List Named) (parts : List JudgedPart) (clause : JudgedClause) (b k : Bool) (d : declares_badly (all_defined parts) clause ≡ false) (names : b ≡ names_badly all clause)
    (kind : k ≡ is_kind_of_other (is_fact clause.clause) (is_indexed (all_indexed parts) clause)) where
  bad_by_tests : is_bad_clause all parts clause ≡ ((clause.bad_form || b) || k)
  bad_by_tests =
      ap (λ x. clause.bad_form || (x || is_kind_of_other (is_fact clause.clause) (is_indexed (all_indexed parts) clause))) (sym names)
      ∙ ap (λ x. clause.bad_form || (b || x)) (sym kind) ∙ or_joined clause.bad_form b k

  pub fault_of_clause : ((clause.bad_form || b) || k) ≡ true → Some BadClause ≡ clause_fault all parts clause
  fault_of_clause bad = let e : is_bad_clause all parts clause ≡ true = bad_by_tests ∙ bad in rw (d, e) refl

  pub fault_of_names : ((clause.bad_form || b) || k) ≡ false → clause.many_names ≡ true → Some TooManyVariables ≡ clause_fault all parts clause
  fault_of_names bad many = let e : is_bad_clause all parts clause ≡ false = bad_by_tests ∙ bad in rw (d, e, many) refl

  pub no_fault : ((clause.bad_form || b) || k) ≡ false → clause.many_names ≡ false → None ≡ clause_fault all parts clause
  no_fault bad few = let e : is_bad_clause all parts clause ≡ false = bad_by_tests ∙ bad in rw (d, e, few) refl
