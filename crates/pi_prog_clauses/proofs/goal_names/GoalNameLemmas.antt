-- What the parts of a program define, up to a place.
use Rattle.std.proofs.Common.{◌≡◌, ℕ, ◌+◌, ◌<◌, ◌≤◌, List, [], ◌∷◌, ◌++◌, length, map, take, get_or, Option, Some, None, refl, ap, ◌∙◌, sym, subst, append_assoc}
use Rattle.std.proofs.lemmas.List.{get_or-map, length-map, take_more, take_all}
use Rattle.pi_syntax.specs.ProgramTree.{WrittenClause, PartTree, part_tree}
use Rattle.pi_syntax.specs.declared.program.Part.{Part}
use Rattle.pi_prog_clauses.specs.Calls.{Named}
use Rattle.pi_prog_clauses.specs.Defined.{IsSetOf}
use Rattle.pi_prog_clauses.specs.Verdict.{as_list}
use Rattle.pi_prog_clauses.specs.GoalNames.{defined_by_one, defined_by_part}
use Rattle.pi_prog_clauses.specs.GoalVerdict.{defined_by_clause, defined_by_program}
use Rattle.pi_prog_clauses.specs.declared.names.definitions.Definitions.{Definitions}
use Rattle.pi_prog_clauses.proofs.judging.JudgedLemmas.{append_none}

one_clause : (c : Option WrittenClause) → defined_by_clause c ≡ as_list (defined_by_one c)
one_clause None = refl
one_clause (Some c) = refl

defined-append : (ps : List PartTree) (p : PartTree) → defined_by_program (ps ++ p ∷ []) ≡ defined_by_program ps ++ as_list (defined_by_part p)
defined-append [] p = append_none (defined_by_clause p.clause) ∙ one_clause p.clause
defined-append (q ∷ ps) p = ap (λ ds. defined_by_clause q.clause ++ ds) (defined-append ps p) ∙ sym (append_assoc (defined_by_clause q.clause) (defined_by_program ps) (as_list (defined_by_part p)))

module _ (ps : List Part) (i : ℕ) (p : Part) (here : i < length ps) (is : p ≡ get_or ps i p) where
  part_at : get_or (map part_tree ps) i (part_tree p) ≡ part_tree p
  part_at = get_or-map part_tree ps i p (part_tree p) here ∙ ap part_tree (sym is)

  part_here : i < length (map part_tree ps)
  part_here = subst (λ n. i < n) (sym (length-map ps part_tree)) here

  defined_next : defined_by_program (take (i + 1) (map part_tree ps)) ≡ defined_by_program (take i (map part_tree ps)) ++ as_list (defined_by_part (part_tree p))
  defined_next = ap defined_by_program (take_more (map part_tree ps) i (part_tree p) part_here ∙ ap (λ x. take i (map part_tree ps) ++ x ∷ []) part_at)
      ∙ defined-append (take i (map part_tree ps)) (part_tree p)

  pub part_without : (set : Definitions) → None ≡ defined_by_part (part_tree p) → IsSetOf set (defined_by_program (take i (map part_tree ps))) → IsSetOf set (defined_by_program (take (i + 1) (map part_tree ps)))
  part_without set none old = subst (IsSetOf set) (sym (defined_next ∙ ap (λ o. defined_by_program (take i (map part_tree ps)) ++ as_list o) (sym none) ∙ append_none (defined_by_program (take i (map part_tree ps))))) old

  pub part_with : (set : Definitions) (d : Named) → Some d ≡ defined_by_part (part_tree p) → IsSetOf set (defined_by_program (take i (map part_tree ps)) ++ d ∷ []) → IsSetOf set (defined_by_program (take (i + 1) (map part_tree ps)))
  part_with set d some new = subst (IsSetOf set) (sym (defined_next ∙ ap (λ o. defined_by_program (take i (map part_tree ps)) ++ as_list o) (sym some))) new

pub all_parts : (ps qs : List Part) (i : ℕ) (set : Definitions) → ps ≡ qs → length ps ≤ i → IsSetOf set (defined_by_program (take i (map part_tree ps))) → IsSetOf set (defined_by_program (map part_tree qs))
all_parts ps qs i set same end is =
    subst (λ (rs : List Part). IsSetOf set (defined_by_program (map part_tree rs))) same
    (subst (λ ts. IsSetOf set (defined_by_program ts)) (take_all i (map part_tree ps) (subst (λ n. n ≤ i) (sym (length-map ps part_tree)) end)) is)
