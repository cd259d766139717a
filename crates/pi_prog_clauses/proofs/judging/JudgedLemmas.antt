-- Parts by what is judged of them.
use Rattle.std.proofs.Common.{◌≡◌, Bool, true, false, cond, List, [], ◌∷◌, ◌++◌, Option, Some, None, refl, ap, ◌∙◌, sym, subst, append_assoc}
use Rattle.std.specs.Prelude.{is_some}
use Rattle.pi_syntax.specs.Signature.{Signature}
use Rattle.pi_prog_clauses.specs.Calls.{Named, named, calls_among}
use Rattle.pi_prog_clauses.specs.Defined.{IsSetOf}
use Rattle.pi_prog_clauses.specs.Places.{clause_placed}
use Rattle.pi_prog_clauses.specs.Seen.{seen, seen_clause}
use Rattle.pi_prog_clauses.specs.Verdict.{named_of, definition, JudgedPart, as_list, defined_by, all_defined, indexed_by, clause_signature, all_indexed, part_calls}
use Rattle.pi_syntax.specs.ProgramTree.{written_clause}
use Rattle.pi_syntax.specs.declared.program.Mode.{Mode}
use Rattle.pi_prog_clauses.specs.Before.{IsBefore}
use Rattle.pi_prog_clauses.specs.declared.judging.part_fault.Before.{Before}
use Rattle.pi_prog_clauses.specs.declared.parts.PartReading.{PartReading}
use Rattle.pi_prog_clauses.specs.declared.parts.PartReading.TheVariants as part
use Rattle.pi_prog_clauses.specs.declared.parts.WrittenPart.{WrittenPart}
use Rattle.pi_prog_clauses.specs.Items.{is_function}
use Rattle.pi_prog_clauses.specs.declared.names.definitions.Definitions.{Definitions}

pub append_none : {X : Type 0} (xs : List X) → xs ++ [] ≡ xs
append_none [] = refl
append_none (x ∷ xs) = ap (λ ys. x ∷ ys) (append_none xs)

pub all_defined-append : (ss : List JudgedPart) (s : JudgedPart) → all_defined (ss ++ s ∷ []) ≡ all_defined ss ++ as_list (defined_by s)
all_defined-append [] s = append_none (as_list (defined_by s))
all_defined-append (x ∷ ss) s = ap (λ ds. as_list (defined_by x) ++ ds) (all_defined-append ss s) ∙ sym (append_assoc (as_list (defined_by x)) (all_defined ss) (as_list (defined_by s)))

pub all_indexed-append : (ss : List JudgedPart) (s : JudgedPart) → all_indexed (ss ++ s ∷ []) ≡ all_indexed ss ++ as_list (indexed_by s)
all_indexed-append [] s = append_none (as_list (indexed_by s))
all_indexed-append (x ∷ ss) s = ap (λ ds. as_list (indexed_by x) ++ ds) (all_indexed-append ss s) ∙ sym (append_assoc (as_list (indexed_by x)) (all_indexed ss) (as_list (indexed_by s)))

-- a set that has one more, or the same

pub defined_same : (set : Definitions) (ss : List JudgedPart) (s : JudgedPart) → defined_by s ≡ None → IsSetOf set (all_defined ss) → IsSetOf set (all_defined (ss ++ s ∷ []))
defined_same set ss s none is = subst (IsSetOf set) (sym (all_defined-append ss s ∙ ap (λ d. all_defined ss ++ as_list d) none ∙ append_none (all_defined ss))) is

pub defined_more : (set : Definitions) (ss : List JudgedPart) (s : JudgedPart) (d : Named) → defined_by s ≡ Some d → IsSetOf set (all_defined ss ++ d ∷ []) → IsSetOf set (all_defined (ss ++ s ∷ []))
defined_more set ss s d some is = subst (IsSetOf set) (sym (all_defined-append ss s ∙ ap (λ d. all_defined ss ++ as_list d) some)) is

pub indexed_same : (set : Definitions) (ss : List JudgedPart) (s : JudgedPart) → indexed_by s ≡ None → IsSetOf set (all_indexed ss) → IsSetOf set (all_indexed (ss ++ s ∷ []))
indexed_same set ss s none is = subst (IsSetOf set) (sym (all_indexed-append ss s ∙ ap (λ d. all_indexed ss ++ as_list d) none ∙ append_none (all_indexed ss))) is

pub indexed_more : (set : Definitions) (ss : List JudgedPart) (s : JudgedPart) (d : Named) → indexed_by s ≡ Some d → IsSetOf set (all_indexed ss ++ d ∷ []) → IsSetOf set (all_indexed (ss ++ s ∷ []))
indexed_more set ss s d some is = subst (IsSetOf set) (sym (all_indexed-append ss s ∙ ap (λ d. all_indexed ss ++ as_list d) some)) is

-- what a part adds

index_of : Option (List (List Mode)) → Option Signature → Option Named
index_of modes s = cond (is_some modes) (named_of false s) None

index_none : (modes : Option (List (List Mode))) (k : Bool) (s : Option Signature) → named_of k s ≡ None → index_of modes s ≡ None
unfolding index_of
index_none None k s e = refl
index_none (Some ms) k None e = refl
index_none (Some ms) k (Some s) e = absurd cc

index_some : (modes : Option (List (List Mode))) (k : Bool) (s : Option Signature) (d : Named) → Some d ≡ named_of k s → is_some modes ≡ true → index_of modes s ≡ Some (named d.name d.arity false)
unfolding index_of
index_some None k s d e h = absurd cc
index_some (Some ms) k None d e h = absurd cc
index_some (Some ms) k (Some s) d e h = let same : named s.name s.arity k ≡ d = cc in ap (λ (n : Named). Some (named n.name n.arity false)) same

index_not : (modes : Option (List (List Mode))) (s : Option Signature) → is_some modes ≡ false → index_of modes s ≡ None
unfolding index_of
index_not None s h = refl
index_not (Some ms) s h = absurd cc

pub nothing_more : (b : Before) (ss : List JudgedPart) (s : JudgedPart) → defined_by s ≡ None → indexed_by s ≡ None → IsBefore b ss → IsBefore b (ss ++ s ∷ [])
nothing_more b ss s no_name no_index is = record { defined = defined_same b.defined ss s no_name is.defined; indexed = indexed_same b.indexed ss s no_index is.indexed }

pub written_calls : (p : PartReading) (w : WrittenPart) → p ≡ part.Written w → calls_among (clause_placed (written_clause w.clause)) ≡ part_calls (seen p)
written_calls p w is = ap (λ q. part_calls (seen q)) (sym is)

pub none_written : (p : PartReading) → ((w : WrittenPart) → p ≡ part.Written w → ⊥) → (defined_by (seen p) ≡ None) × (indexed_by (seen p) ≡ None)
none_written part.TooDeep never = (refl, refl)
none_written part.BadDeclaration never = (refl, refl)
none_written part.NoClause never = (refl, refl)
none_written (part.Import names) never = (refl, refl)
none_written (part.Written w) never = absurd (never w refl)

pub none_defined : (p : PartReading) (w : WrittenPart) → p ≡ part.Written w → None ≡ definition (written_clause w.clause) → (defined_by (seen p) ≡ None) × (indexed_by (seen p) ≡ None)
unfolding index_of
none_defined p w is none =
    (ap (λ q. defined_by (seen q)) is ∙ sym none, ap (λ q. indexed_by (seen q)) is ∙ index_none w.modes (is_function (written_clause w.clause)) (clause_signature (seen_clause w)) (sym none))

pub one_more : (b : Before) (set : Definitions) (ss : List JudgedPart) (p : PartReading) (w : WrittenPart) (d : Named) → p ≡ part.Written w → Some d ≡ definition (written_clause w.clause) → is_some w.modes ≡ false →
    IsBefore b ss → IsSetOf set (all_defined ss ++ d ∷ []) → IsBefore (record { defined = set; indexed = b.indexed }) (ss ++ seen p ∷ [])
unfolding index_of
one_more b set ss p w d is some no_index before more = record {
  defined = defined_more set ss (seen p) d (ap (λ q. defined_by (seen q)) is ∙ sym some) more;
  indexed = indexed_same b.indexed ss (seen p) (ap (λ q. indexed_by (seen q)) is ∙ index_not w.modes (clause_signature (seen_clause w)) no_index) before.indexed;
}

pub two_more : (set index : Definitions) (ss : List JudgedPart) (p : PartReading) (w : WrittenPart) (d : Named) → p ≡ part.Written w → Some d ≡ definition (written_clause w.clause) → is_some w.modes ≡ true →
    IsSetOf set (all_defined ss ++ d ∷ []) → IsSetOf index (all_indexed ss ++ named d.name d.arity false ∷ []) → IsBefore (record { defined = set; indexed = index }) (ss ++ seen p ∷ [])
unfolding index_of
two_more set index ss p w d is some indexed more more_index = record {
  defined = defined_more set ss (seen p) d (ap (λ q. defined_by (seen q)) is ∙ sym some) more;
  indexed = indexed_more index ss (seen p) (named d.name d.arity false)
      (ap (λ q. indexed_by (seen q)) is ∙ index_some w.modes (is_function (written_clause w.clause)) (clause_signature (seen_clause w)) d some indexed) more_index;
}
