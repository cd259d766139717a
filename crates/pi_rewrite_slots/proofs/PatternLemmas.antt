-- Patterns, one after the other.
use Rattle.std.proofs.Common.{◌≡◌, ℕ, ◌+◌, ◌<◌, ◌≤◌, List, [], ◌∷◌, ◌++◌, length, get_or, take, map, refl, sym, ◌∙◌, ap}
use Rattle.std.proofs.lemmas.List.{take_more, take_all, map-append}
use Rattle.std.specs.Prelude.{Vec}
use Rattle.std.specs.Char.{encode_utf8}
use Rattle.std.specs.Str.{chars}
use Rattle.std.specs.declared.alloc.Global.{Global}
use Rattle.pi_terms.specs.Tree.{Tree, atom, trees_of}
use Rattle.pi_terms.specs.PatternTree.{PatternTree, compound, PatternTrees, no_patterns, pattern}
use Rattle.pi_terms.specs.ListNames.{nil, cell_name}
use Rattle.pi_core.specs.CoreTree.{pattern_tree, pattern_row, pattern_trees}
use Rattle.pi_core.specs.declared.core_program.Pattern as p
use Rattle.pi_core.specs.declared.core_program.Pattern.{Pattern}
use Rattle.pi_effects.specs.Texts.{text_list}
use Rattle.pi_effects.specs.Items.{list_of, list_onto}
use Rattle.pi_syntax.specs.ExpTree.{exp_tree}
use Rattle.pi_syntax.specs.ExpLists.{exps_of}
use Rattle.pi_syntax.specs.declared.exp.Exp.{Exp}
use Rattle.pi_rewrite_spec.specs.Slots.{SlotNames}
use Rattle.pi_rewrite_spec.specs.Values.{SlotPattern, SlotPatterns, slot_pattern, slot_patterns, before_forms, cells_onto, exact_term, exact_terms}
use Rattle.pi_rewrite_slots.specs.ItemCells.{letter_atoms}

-- ---- structures

row-patterns : (n : _) (row : p.Row_of-Pattern n) → pattern_row row ≡ pattern_trees (p.items-the_row-Pattern n row)
unfolding pattern_tree pattern_row pattern_trees
row-patterns n p.end_of-Pattern = refl
row-patterns n (p.more_of-Pattern x xs) = ap (pattern (pattern_tree x)) (row-patterns _ xs)

abbrev row_in : Pattern → (n : _) × p.Row_of-Pattern n
row_in (p.Comp' name _ row) = (_, row)
row_in _ = (_, p.end_of-Pattern)

pub structure-tree : (name other : List ℕ) (ps : Vec Pattern Global) → name ≡ other → pattern_tree (p.Comp name ps) ≡ compound other (pattern_trees ps.items)
unfolding pattern_tree
structure-tree name other ps e =
    let row = row_in (p.Comp name ps) in
    ap (compound name) (row-patterns row.0 row.1 ∙ ap pattern_trees (p.items_hidden-the_row-Pattern-0 ps)) ∙ ap (λ (n : List ℕ). compound n (pattern_trees ps.items)) e

-- ---- lists

onto-push : (ps : List Pattern) (x : Pattern) (rest : PatternTree) → cells_onto (pattern_trees (ps ++ x ∷ [])) rest ≡ cells_onto (pattern_trees ps) (compound cell_name (pattern (pattern_tree x) (pattern rest no_patterns)))
unfolding pattern_trees cells_onto
onto-push [] x rest = refl
onto-push (y ∷ ps) x rest = ap (λ r. compound cell_name (pattern (pattern_tree y) (pattern r no_patterns))) (onto-push ps x rest)

pub onto-popped : (items rest : List Pattern) (x : Pattern) (made new : PatternTree) (whole : PatternTree) → items ≡ rest ++ x ∷ [] → new ≡ compound cell_name (pattern (pattern_tree x) (pattern made no_patterns)) →
    cells_onto (pattern_trees items) made ≡ whole → cells_onto (pattern_trees rest) new ≡ whole
onto-popped items rest x made new whole last put so =
    ap (cells_onto (pattern_trees rest)) put ∙ (sym (onto-push rest x made) ∙ (ap (λ ps. cells_onto (pattern_trees ps) made) (sym last) ∙ so))

-- ---- the first few

abbrev with_form : PatternTrees → PatternTree → PatternTrees
with_form no_patterns q = pattern q no_patterns
with_form (pattern p ps) q = pattern p (with_form ps q)

trees-push : (ps : List Pattern) (x : Pattern) → pattern_trees (ps ++ x ∷ []) ≡ with_form (pattern_trees ps) (pattern_tree x)
unfolding pattern_trees
trees-push [] x = refl
trees-push (y ∷ ps) x = ap (pattern (pattern_tree y)) (trees-push ps x)

abbrev with_pattern : SlotPatterns → SlotPattern → SlotPatterns
with_pattern ps p = record { forms = with_form ps.forms p.form; names = p.names }

patterns-push : (es : List Exp) (e : Exp) (ns : SlotNames) → slot_patterns (exps_of (es ++ e ∷ [])) ns ≡ with_pattern (slot_patterns (exps_of es) ns) (slot_pattern (exp_tree e) (slot_patterns (exps_of es) ns).names)
unfolding slot_patterns
patterns-push [] e ns = refl
patterns-push (x ∷ es) e ns = ap (before_forms (slot_pattern (exp_tree x) ns)) (patterns-push es e (slot_pattern (exp_tree x) ns).names)

patterns-next : (es : List Exp) (i : ℕ) (e : Exp) (ns : SlotNames) → i < length es → e ≡ get_or es i e →
    slot_patterns (exps_of (take (i + 1) es)) ns ≡ with_pattern (slot_patterns (exps_of (take i es)) ns) (slot_pattern (exp_tree e) (slot_patterns (exps_of (take i es)) ns).names)
patterns-next es i e ns h is = ap (λ xs. slot_patterns (exps_of xs) ns) (take_more es i e h ∙ ap (λ x. take i es ++ x ∷ []) (sym is)) ∙ patterns-push (take i es) e ns

pub record PatternsSoFar (es : List Exp) (i : ℕ) (ns m : SlotNames) (made : List Pattern) : Type 0 where
  pub are : pattern_trees made ≡ (slot_patterns (exps_of (take i es)) ns).forms
  pub slots : m ≡ (slot_patterns (exps_of (take i es)) ns).names

pub patterns-none : (es : List Exp) (ns : SlotNames) (made : List Pattern) → made ≡ [] → PatternsSoFar es 0 ns ns made
unfolding slot_patterns pattern_trees
patterns-none es ns made e = record { are = ap pattern_trees e; slots = refl }

pub patterns-more : (es : List Exp) (i : ℕ) (e : Exp) (ns m n : SlotNames) (made new : List Pattern) (q : Pattern) → i < length es → e ≡ get_or es i e → PatternsSoFar es i ns m made →
    new ≡ made ++ q ∷ [] → pattern_tree q ≡ (slot_pattern (exp_tree e) m).form → n ≡ (slot_pattern (exp_tree e) m).names → PatternsSoFar es (i + 1) ns n new
patterns-more es i e ns m n made new q h is so put form names = record {
  are = ap pattern_trees put ∙ (trees-push made q ∙ (ap (λ ps. with_form ps (pattern_tree q)) so.are
      ∙ (ap (with_form (slot_patterns (exps_of (take i es)) ns).forms) (form ∙ ap (λ ms. (slot_pattern (exp_tree e) ms).form) so.slots)
      ∙ sym (ap (λ ps. ps.forms) (patterns-next es i e ns h is)))));
  slots = names ∙ (ap (λ ms. (slot_pattern (exp_tree e) ms).names) so.slots ∙ sym (ap (λ ps. ps.names) (patterns-next es i e ns h is)));
}

pub patterns-end : (es : List Exp) (i : ℕ) (ns m : SlotNames) (made : List Pattern) → length es ≤ i → PatternsSoFar es i ns m made → (pattern_trees made ≡ (slot_patterns (exps_of es) ns).forms) × (m ≡ (slot_patterns (exps_of es) ns).names)
patterns-end es i ns m made all so = (
  so.are ∙ ap (λ xs. (slot_patterns (exps_of xs) ns).forms) (take_all i es all),
  so.slots ∙ ap (λ xs. (slot_patterns (exps_of xs) ns).names) (take_all i es all),
)

-- ---- texts

forms-push : (ts : List Tree) (t : Tree) → exact_terms (trees_of (ts ++ t ∷ [])) ≡ with_form (exact_terms (trees_of ts)) (exact_term t)
unfolding exact_term
forms-push [] t = refl
forms-push (u ∷ ts) t = ap (pattern (exact_term u)) (forms-push ts t)

abbrev letter : ℕ → Tree
letter c = atom (encode_utf8 c)

pub record LetterForms (cs : List ℕ) (i : ℕ) (made : List Pattern) : Type 0 where
  pub are : pattern_trees made ≡ exact_terms (letter_atoms (take i cs))

pub letters-none : (cs : List ℕ) (made : List Pattern) → made ≡ [] → LetterForms cs 0 made
unfolding exact_term pattern_trees
letters-none cs made e = record { are = ap pattern_trees e }

pub letters-more : (cs : List ℕ) (i : ℕ) (c : ℕ) (name : List ℕ) (made new : List Pattern) → i < length cs → c ≡ get_or cs i c → LetterForms cs i made → name ≡ encode_utf8 c → new ≡ made ++ p.Atom name ∷ [] → LetterForms cs (i + 1) new
unfolding exact_term pattern_tree
letters-more cs i c name made new h is so named put = record {
  are =
      let next : map letter (take (i + 1) cs) ≡ map letter (take i cs) ++ letter c ∷ [] =
      ap (map letter) (take_more cs i c h ∙ ap (λ x. take i cs ++ x ∷ []) (sym is)) ∙ map-append letter (take i cs) (c ∷ []) in
      ap pattern_trees put ∙ (trees-push made (p.Atom name) ∙ (ap (λ ps. with_form ps (PatternTree.exact_atom name)) so.are
      ∙ (ap (λ (n : List ℕ). with_form (exact_terms (letter_atoms (take i cs))) (PatternTree.exact_atom n)) named
      ∙ (sym (forms-push (map letter (take i cs)) (letter c)) ∙ ap (λ ts. exact_terms (trees_of ts)) (sym next)))));
}

pub letters-end : (cs : List ℕ) (i : ℕ) (made : List Pattern) → length cs ≤ i → LetterForms cs i made → pattern_trees made ≡ exact_terms (letter_atoms cs)
letters-end cs i made past so = so.are ∙ ap (λ xs. exact_terms (letter_atoms xs)) (take_all i cs past)

list-form : (ts : List Tree) → cells_onto (exact_terms (trees_of ts)) (PatternTree.exact_atom nil) ≡ exact_term (list_of ts)
unfolding exact_term cells_onto list_onto
list-form [] = refl
list-form (t ∷ ts) = ap (λ r. compound cell_name (pattern (exact_term t) (pattern r no_patterns))) (list-form ts)

pub text-form : (text cs : List ℕ) (items : List Pattern) (rest made : PatternTree) → cs ≡ chars text → pattern_trees items ≡ exact_terms (letter_atoms cs) → rest ≡ PatternTree.exact_atom nil → made ≡ cells_onto (pattern_trees items) rest → made ≡ exact_term (text_list text)
text-form text cs items rest made is are e put =
    put ∙ (ap (λ ps. cells_onto ps rest) are ∙ (ap (cells_onto (exact_terms (letter_atoms cs))) e ∙ (list-form (map letter cs) ∙ ap (λ xs. exact_term (list_of (map letter xs))) is)))

pub pair-form : (parts : List Pattern) (x y : Pattern) → parts ≡ x ∷ y ∷ [] → compound cell_name (pattern_trees parts) ≡ compound cell_name (pattern (pattern_tree x) (pattern (pattern_tree y) no_patterns))
unfolding pattern_trees
pair-form parts x y e = ap (λ ps. compound cell_name (pattern_trees ps)) e

pub onto-none : (items : List Pattern) (made whole : PatternTree) → items ≡ [] → cells_onto (pattern_trees items) made ≡ whole → made ≡ whole
unfolding pattern_trees cells_onto
onto-none items made whole e so = sym (ap (λ ps. cells_onto (pattern_trees ps) made) e) ∙ so
