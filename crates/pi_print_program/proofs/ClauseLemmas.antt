-- What a part of a clause and of a program comes to.
use Rattle.std.proofs.Common.{◌≡◌, ℕ, ◌+◌, ◌<◌, ◌≤◌, false, List, [], ◌∷◌, ◌++◌, length, get_or, drop, codes, refl, sym, ◌∙◌, ap, append_assoc, arith}
use Rattle.std.proofs.lemmas.List.{drop_more, drop_all, append-nil}
use Rattle.std.specs.Prelude.{map}
use Rattle.std.specs.List.{flat_map}
use Rattle.pi_syntax.specs.ExpTree.{ExpTree, and, ExpTrees, exp_tree}
use Rattle.pi_syntax.specs.ExpLists.{exps_of}
use Rattle.pi_syntax.specs.ProgramTree.{part_tree}
use Rattle.pi_syntax.specs.declared.exp.Exp.{Exp}
use Rattle.pi_syntax.specs.declared.program.Part.{Part}
use Rattle.pi_print_program.specs.Texts.{parted, comma}
use Rattle.pi_print_program.specs.CanonicalExp.{exp_text, exp_texts, is_conjunction, top_text}
use Rattle.pi_print_program.specs.Canonical.{events_text, part_text}

pub top-and : (e : ExpTree) (es : ExpTrees) → e ≡ and es → parted comma (exp_texts es) ≡ top_text e
unfolding top_text
top-and e es is = ap top_text (sym is)

pub top-other : (e : ExpTree) → is_conjunction e ≡ false → exp_text e ≡ top_text e
unfolding top_text
top-other (and es) is = absurd cc
top-other e is = refl

texts-mapped : (xs : List Exp) → exp_texts (exps_of xs) ≡ map exp_text (map exp_tree xs)
unfolding exp_texts
texts-mapped [] = refl
texts-mapped (x ∷ xs) = ap (λ ts. exp_text (exp_tree x) ∷ ts) (texts-mapped xs)

pub events-some : (xs : List Exp) (old new : List ℕ) → 0 < length xs → new ≡ old ++ (codes ", {" ++ (parted comma (exp_texts (exps_of xs)) ++ codes "}")) → new ≡ old ++ events_text (map exp_tree xs)
events-some [] old new some is = absurd (omega arith)
events-some (x ∷ xs) old new some is = is ∙ ap (λ ts. old ++ (codes ", {" ++ (parted comma ts ++ codes "}"))) (texts-mapped (x ∷ xs))

pub program-more : (xs : List Part) (i : ℕ) (x : Part) (old new whole : List ℕ) → i < length xs → x ≡ get_or xs i x → new ≡ old ++ part_text (part_tree x)
    → old ++ flat_map part_text (map part_tree (drop i xs)) ≡ whole → new ++ flat_map part_text (map part_tree (drop (i + 1) xs)) ≡ whole
program-more xs i x old new whole here is next left =
    let rest = flat_map part_text (map part_tree (drop (i + 1) xs)) in
    ap (λ t. t ++ rest) next ∙ (append_assoc old (part_text (part_tree x)) rest
    ∙ (ap (λ ys. old ++ flat_map part_text (map part_tree ys)) (sym (drop_more xs i x here ∙ ap (λ y. y ∷ drop (i + 1) xs) (sym is))) ∙ left))

pub program-end : (xs : List Part) (i : ℕ) (old whole : List ℕ) → length xs ≤ i → old ++ flat_map part_text (map part_tree (drop i xs)) ≡ whole → old ≡ whole
program-end xs i old whole end left =
    sym (append-nil old) ∙ (ap (λ ys. old ++ flat_map part_text (map part_tree ys)) (sym (drop_all i xs end)) ∙ left)
