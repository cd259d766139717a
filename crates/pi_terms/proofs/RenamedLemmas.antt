-- The cells of a term whose variables are renamed, and the variables at cells.
use Rattle.std.proofs.Common.{◌≡◌, ◌<◌, ◌+◌, ℕ, zero, suc, List, [], ◌∷◌, ◌++◌, map, take, get_or, length, refl, ap, sym, ◌∙◌, inl, inr, arith}
use Rattle.std.proofs.lemmas.List.{map-append, append-nil, take_more}
use Rattle.pi_terms.specs.Tree.{Tree, var, int, atom, comp, Trees, no_trees, tree, tree_count, cells_all}
use Rattle.pi_terms.specs.TermCells.{flat, flat_all}
use Rattle.pi_terms.specs.declared.term.TermCell.{TermCell}
use Rattle.pi_terms.specs.declared.term.TermCell.TheVariants.{Var, Int, Atom, Comp}
use Rattle.pi_terms.specs.Variables.{occurrences, occurrences_all, firsts, variables}
use Rattle.pi_terms.specs.Substitution.{instance, instances}
use Rattle.pi_terms.specs.Copy.{place_in, renamed, copy}
use Rattle.pi_terms.specs.RenamedCells.{variables_at, noted_cell, renamed_cell, IsKnown}
use Rattle.pi_terms.proofs.VariableLemmas.{Has, Has-firsts, only_its_variables_count, tree_count-instances}
use Rattle.pi_terms.proofs.CopyLemmas.{cells_all-renamed}
use Rattle.pi_terms.proofs.NumberLemmas.{noted-firsts, contains_from}

-- ---- the variables at cells

variables_at-append : (cs ds : List TermCell) → variables_at (cs ++ ds) ≡ variables_at cs ++ variables_at ds
variables_at-append [] ds = refl
variables_at-append (Var n ∷ cs) ds = ap (λ ns. n ∷ ns) (variables_at-append cs ds)
variables_at-append (Int n ∷ cs) ds = variables_at-append cs ds
variables_at-append (Atom name ∷ cs) ds = variables_at-append cs ds
variables_at-append (Comp name k size ∷ cs) ds = variables_at-append cs ds

mutual
  unfolding flat occurrences

  variables_at-flat : (t : Tree) → variables_at (flat t) ≡ occurrences t
  variables_at-flat (var n) = refl
  variables_at-flat (int n) = refl
  variables_at-flat (atom name) = refl
  variables_at-flat (comp name ts) = variables_at-flat_all ts

  variables_at-flat_all : (ts : Trees) → variables_at (flat_all ts) ≡ occurrences_all ts
  variables_at-flat_all no_trees = refl
  variables_at-flat_all (tree t ts) =
      variables_at-append (flat t) (flat_all ts)
      ∙ (ap (λ ns. ns ++ variables_at (flat_all ts)) (variables_at-flat t) ∙ ap (λ ns. occurrences t ++ ns) (variables_at-flat_all ts))

noted-variables : (cs : List TermCell) (c : TermCell) → noted_cell (firsts (variables_at cs)) c ≡ firsts (variables_at cs ++ variables_at (c ∷ []))
noted-variables cs (Var n) = noted-firsts (variables_at cs) n
noted-variables cs (Int n) = ap firsts (sym (append-nil (variables_at cs)))
noted-variables cs (Atom name) = ap firsts (sym (append-nil (variables_at cs)))
noted-variables cs (Comp name k size) = ap firsts (sym (append-nil (variables_at cs)))

-- the variable at one more cell is noted
pub one_noted : (cs : List TermCell) (i : ℕ) (c : TermCell) (ns : List ℕ) → i < length cs → c ≡ get_or cs i c → ns ≡ firsts (variables_at (take i cs)) → noted_cell ns c ≡ firsts (variables_at (take (i + 1) cs))
one_noted cs i c ns within is known =
    ap (λ ms. noted_cell ms c) known
    ∙ (noted-variables (take i cs) c
    ∙ ap firsts (sym (variables_at-append (take i cs) (c ∷ []))
    ∙ ap variables_at (ap (λ d. take i cs ++ d ∷ []) is ∙ sym (take_more cs i c within))))

has_at : (cs : List TermCell) (i n : ℕ) (d : TermCell) → i < length cs → Var n ≡ get_or cs i d → Has (variables_at cs) n
has_at [] i n d within is = absurd (omega arith)
has_at (Var m ∷ cs) zero n d within is = inl (cc)
has_at (Int m ∷ cs) zero n d within is = cc
has_at (Atom name ∷ cs) zero n d within is = cc
has_at (Comp name k size ∷ cs) zero n d within is = cc
has_at (Var m ∷ cs) (suc i) n d within is = inr (has_at cs i n d (omega arith) is)
has_at (Int m ∷ cs) (suc i) n d within is = has_at cs i n d (omega arith) is
has_at (Atom name ∷ cs) (suc i) n d within is = has_at cs i n d (omega arith) is
has_at (Comp name k size ∷ cs) (suc i) n d within is = has_at cs i n d (omega arith) is

-- the variable at a cell is among those at all
pub known_at : (cs : List TermCell) (i : ℕ) (c : TermCell) → i < length cs → c ≡ get_or cs i c → IsKnown (firsts (variables_at cs)) c
known_at cs i (Var n) within is = contains_from (firsts (variables_at cs)) n (Has-firsts (variables_at cs) n (has_at cs i n (Var n) within is))
known_at cs i (Int n) within is = tt
known_at cs i (Atom name) within is = tt
known_at cs i (Comp name k size) within is = tt

-- ---- renamed cells

mutual
  unfolding flat instance

  flat-renamed : (r : ℕ → ℕ) (t : Tree) → flat (renamed r t) ≡ map (renamed_cell r) (flat t)
  flat-renamed r (var n) = refl
  flat-renamed r (int n) = refl
  flat-renamed r (atom name) = refl
  flat-renamed r (comp name ts) =
      ap (λ k. Comp name k (suc (cells_all (instances (λ n. var (r n)) ts))) ∷ flat_all (instances (λ n. var (r n)) ts)) (tree_count-instances (λ n. var (r n)) ts)
      ∙ (ap (λ k. Comp name (tree_count ts) (suc k) ∷ flat_all (instances (λ n. var (r n)) ts)) (cells_all-renamed r ts)
      ∙ ap (λ cs. Comp name (tree_count ts) (suc (cells_all ts)) ∷ cs) (flat_all-renamed r ts))

  flat_all-renamed : (r : ℕ → ℕ) (ts : Trees) → flat_all (instances (λ n. var (r n)) ts) ≡ map (renamed_cell r) (flat_all ts)
  flat_all-renamed r no_trees = refl
  flat_all-renamed r (tree t ts) =
      ap (λ cs. cs ++ flat_all (instances (λ n. var (r n)) ts)) (flat-renamed r t)
      ∙ (ap (λ cs. map (renamed_cell r) (flat t) ++ cs) (flat_all-renamed r ts) ∙ sym (map-append (renamed_cell r) (flat t) (flat_all ts)))

renamed_by_place : (t : Tree) → renamed (place_in (variables t)) t ≡ copy 0 t
unfolding copy
renamed_by_place t = only_its_variables_count (λ n. var (place_in (variables t) n)) (λ n. var (0 + place_in (variables t) n)) t (λ n h. ap var (omega arith))

-- cells that have the places of a term's variables in place of their numbers are those of its copy
pub renumbered_spells : (cs made : List TermCell) (ns : List ℕ) (t : Tree) → cs ≡ flat t → ns ≡ firsts (variables_at cs) → made ≡ map (renamed_cell (place_in ns)) cs → made ≡ flat (copy 0 t)
renumbered_spells cs made ns t spells known is =
    let numbers : ns ≡ variables t = known ∙ ap firsts (ap variables_at spells ∙ variables_at-flat t) in
    is
    ∙ (ap (map (renamed_cell (place_in ns))) spells
    ∙ (ap (λ ms. map (renamed_cell (place_in ms)) (flat t)) numbers
    ∙ (sym (flat-renamed (place_in (variables t)) t) ∙ ap flat (renamed_by_place t))))
