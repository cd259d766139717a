-- The variables of terms, met one after another.
use Rattle.std.proofs.Common.{◌≡◌, ℕ, zero, suc, List, [], ◌∷◌, ◌++◌, refl, ap, sym, ◌∙◌, append_assoc}
use Rattle.std.proofs.lemmas.List.{append-nil}
use Rattle.pi_terms.specs.Tree.{Tree, Trees, no_trees, tree, drop_trees}
use Rattle.pi_terms.specs.TermCells.{take_trees}
use Rattle.pi_terms.specs.Variables.{occurrences, occurrences_all, firsts}
use Rattle.pi_terms.specs.Numbers.{noted}
use Rattle.pi_terms.proofs.NumberLemmas.{noted-firsts}
use Rattle.pi_terms.specs.declared.term.TermHead.{TermHead}
use Rattle.pi_print_terms.specs.Ahead.{built, behind}
use Rattle.pi_print_terms.specs.Numbers.{noted_all, variables_at}

-- noting all gives the first occurrences
pub noted_firsts : (ns ms : List ℕ) → noted_all (firsts ns) ms ≡ firsts (ns ++ ms)
unfolding noted_all
noted_firsts ns [] = ap firsts (sym (append-nil ns))
noted_firsts ns (m ∷ ms) =
    ap (λ vs. noted_all vs ms) (noted-firsts ns m) ∙ (noted_firsts (ns ++ m ∷ []) ms ∙ ap firsts (append_assoc ns (m ∷ []) ms))

pub noted_none : (vars : List ℕ) → noted_all vars [] ≡ vars
unfolding noted_all
noted_none vars = refl

pub noted_one : (vars : List ℕ) (n : ℕ) (ns : List ℕ) → noted_all vars (n ∷ ns) ≡ noted_all (noted vars n) ns
unfolding noted_all
noted_one vars n ns = refl

pub noted_append : (vars ns ms : List ℕ) → noted_all vars (ns ++ ms) ≡ noted_all (noted_all vars ns) ms
unfolding noted_all
noted_append vars [] ms = refl
noted_append vars (n ∷ ns) ms = noted_append (noted vars n) ns ms

-- ---- variables ahead

occurrences_split : (k : ℕ) (ts : Trees) → occurrences_all (take_trees k ts) ++ occurrences_all (drop_trees k ts) ≡ occurrences_all ts
unfolding occurrences
occurrences_split zero ts = refl
occurrences_split (suc k) no_trees = refl
occurrences_split (suc k) (tree t ts) = append_assoc (occurrences t) (occurrences_all (take_trees k ts)) (occurrences_all (drop_trees k ts)) ∙ ap (λ r. occurrences t ++ r) (occurrences_split k ts)

pub occurrences_ahead : (h : TermHead) (ts : Trees) → occurrences_all (tree (built h ts) (behind h ts)) ≡ variables_at h ++ occurrences_all ts
unfolding occurrences
occurrences_ahead (TermHead.Var n) ts = refl
occurrences_ahead (TermHead.Int n) ts = refl
occurrences_ahead (TermHead.Atom name) ts = refl
occurrences_ahead (TermHead.Comp name count) ts = occurrences_split count ts

pub occurrences_whole : (t : Tree) → occurrences_all (tree t no_trees) ≡ occurrences t
unfolding occurrences
occurrences_whole t = append-nil (occurrences t)

pub occurrences_none : occurrences_all no_trees ≡ []
unfolding occurrences
occurrences_none = refl

pub noted_ahead : (vars new : List ℕ) (h : TermHead) (old ts : Trees) → old ≡ tree (built h ts) (behind h ts) → new ≡ noted_all vars (variables_at h)
    → noted_all new (occurrences_all ts) ≡ noted_all vars (occurrences_all old)
noted_ahead vars new h old ts e n =
    ap (λ v. noted_all v (occurrences_all ts)) n
    ∙ (sym (noted_append vars (variables_at h) (occurrences_all ts)) ∙ ap (noted_all vars) (sym (ap occurrences_all e ∙ occurrences_ahead h ts)))
