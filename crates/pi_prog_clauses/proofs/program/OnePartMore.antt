-- The program of parts, of which one after the other leaves the readings that are left.
use Rattle.std.proofs.Common.{◌≡◌, ℕ, List, [], ◌∷◌, ◌++◌, length, map, Option, Some, None, reverse, refl, ap, ◌∙◌, sym, append_assoc}
use Rattle.std.proofs.lemmas.List.{reverse-append, reverse-reverse}
use Rattle.std.specs.Prelude.{option_map}
use Rattle.pi_syntax.specs.ProgramTree.{PartTree, part_tree, ProgramTree, written_clause}
use Rattle.pi_syntax.specs.declared.program.Clause.{Clause}
use Rattle.pi_syntax.specs.declared.program.Decl.{Decl}
use Rattle.pi_syntax.specs.declared.program.Part.{Part}
use Rattle.pi_prog_clauses.specs.Seen.{seen}
use Rattle.pi_prog_clauses.specs.Verdict.{decl_of, part_of, parts_of}
use Rattle.pi_prog_clauses.specs.declared.parts.PartReading.{PartReading}
use Rattle.pi_prog_clauses.specs.declared.parts.PartReading.TheVariants as part
use Rattle.pi_prog_clauses.specs.declared.parts.WrittenPart.{WrittenPart}
use Rattle.pi_prog_clauses.proofs.judging.JudgedLemmas.{append_none}

pub none_yet : (ps : List Part) (all left : List PartReading) → ps ≡ [] → left ≡ reverse all → map part_tree ps ++ parts_of (map seen (reverse left)) ≡ parts_of (map seen all)
none_yet ps all left none turned =
    ap (λ qs. map part_tree qs ++ parts_of (map seen (reverse left))) none ∙ ap (λ rs. parts_of (map seen (reverse rs))) turned ∙ ap (λ rs. parts_of (map seen rs)) (reverse-reverse all)

-- the one that leaves comes first of those that are left
first_left : (left rest : List PartReading) (p : PartReading) → left ≡ rest ++ p ∷ [] → parts_of (map seen (reverse left)) ≡ part_of (seen p) ++ parts_of (map seen (reverse rest))
first_left left rest p is = ap (λ rs. parts_of (map seen (reverse rs))) is ∙ ap (λ rs. parts_of (map seen rs)) (reverse-append rest (p ∷ []))

pub parts_next : (old new all : ProgramTree) (left rest : List PartReading) (p : PartReading) → left ≡ rest ++ p ∷ [] → new ≡ old ++ part_of (seen p)
    → old ++ parts_of (map seen (reverse left)) ≡ all → new ++ parts_of (map seen (reverse rest)) ≡ all
parts_next old new all left rest p is now was =
    ap (λ ps. ps ++ parts_of (map seen (reverse rest))) now ∙ append_assoc old (part_of (seen p)) (parts_of (map seen (reverse rest))) ∙ sym (ap (λ ps. old ++ ps) (first_left left rest p is)) ∙ was

no_more : (left : List PartReading) → length left ≡ 0 → parts_of (map seen (reverse left)) ≡ []
no_more [] none = refl
no_more (p ∷ ps) none = absurd cc

pub none_left : (ps all : ProgramTree) (left : List PartReading) → length left ≡ 0 → ps ++ parts_of (map seen (reverse left)) ≡ all → ps ≡ all
none_left ps all left none was = sym (append_none ps) ∙ sym (ap (λ qs. ps ++ qs) (no_more left none)) ∙ was

-- one part more

pushed-tree : (old : List Part) (p : Part) → map part_tree (old ++ p ∷ []) ≡ map part_tree old ++ part_tree p ∷ []
pushed-tree [] p = refl
pushed-tree (q ∷ old) p = ap (λ ps. part_tree q ∷ ps) (pushed-tree old p)

part_more : (old new : List Part) (p : Part) (r : PartReading) → new ≡ old ++ p ∷ [] → part_of (seen r) ≡ part_tree p ∷ [] → map part_tree new ≡ map part_tree old ++ part_of (seen r)
part_more old new p r so is = ap (map part_tree) so ∙ pushed-tree old p ∙ ap (λ ps. map part_tree old ++ ps) (sym is)

abbrev tree_of : Decl → Option Clause → List PartTree
tree_of d c = record { decl = d; clause = option_map written_clause c } ∷ []

pub import_more : (old new : List Part) (p : Part) (r : PartReading) {names : List (List ℕ)} → new ≡ old ++ p ∷ [] → r ≡ part.Import names → p.decl ≡ Decl.Import names → p.clause ≡ None → map part_tree new ≡ map part_tree old ++ part_of (seen r)
import_more old new p r so is decl clause =
    part_more old new p r so (ap (λ q. part_of (seen q)) is ∙ ap (λ d. tree_of d None) (sym decl) ∙ ap (tree_of p.decl) (sym clause))

pub written_more : (old new : List Part) (p : Part) (r : PartReading) {w : WrittenPart} → new ≡ old ++ p ∷ [] → r ≡ part.Written w → p.decl ≡ decl_of w.modes → p.clause ≡ Some w.clause → map part_tree new ≡ map part_tree old ++ part_of (seen r)
written_more old new p r {w} so is decl clause =
    part_more old new p r so (ap (λ q. part_of (seen q)) is ∙ ap (λ d. tree_of d (Some w.clause)) (sym decl) ∙ ap (tree_of p.decl) (sym clause))

pub refused_more : (ps : List Part) (r : PartReading) → ((names : List (List ℕ)) → r ≡ part.Import names → ⊥) → ((w : WrittenPart) → r ≡ part.Written w → ⊥) → map part_tree ps ≡ map part_tree ps ++ part_of (seen r)
refused_more ps part.TooDeep no_import no_clause = sym (append_none (map part_tree ps))
refused_more ps part.BadDeclaration no_import no_clause = sym (append_none (map part_tree ps))
refused_more ps part.NoClause no_import no_clause = sym (append_none (map part_tree ps))
refused_more ps (part.Import names) no_import no_clause = absurd (no_import names refl)
refused_more ps (part.Written w) no_import no_clause = absurd (no_clause w refl)
