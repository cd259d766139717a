-- The cells of a term, one by one, and those of a text.
use Rattle.std.proofs.Common.{◌≡◌, ℕ, zero, suc, ◌+◌, ◌<◌, ◌≤◌, List, [], ◌∷◌, ◌++◌, length, get_or, take, map, Some, refl, ap, sym, ◌∙◌, append_assoc, subst}
use Rattle.std.specs.Prelude.{IsSomeAnd, slice_get}
use Rattle.std.specs.Char.{encode_utf8}
use Rattle.std.specs.Str.{chars}
use Rattle.std.proofs.lemmas.List.{append-nil, map-append, take_all, take_more as take_next, length-map}
use Rattle.pi_terms.specs.Tree.{Tree, var, int, atom, comp, Trees, no_trees, tree, trees_of, tree_count, subterms, subterms_all, cells, ShowsHead}
use Rattle.pi_terms.specs.ListNames.{nil, cell_name}
use Rattle.pi_terms.specs.TermCells.{flat, flat_all}
use Rattle.pi_terms.specs.BareCells.{bare, bare_all, with_size}
use Rattle.pi_terms.specs.declared.term.TermCell.{TermCell}
use Rattle.pi_terms.specs.declared.term.TermHead.{TermHead}
use Rattle.pi_terms.proofs.TermLemmas.{subterm_for_each_cell}
use Rattle.pi_terms.proofs.GetLemmas.{take_more}
use Rattle.pi_effects.specs.Texts.{text_list}
use Rattle.pi_effects.specs.Items.{list_of, list_onto}
use Rattle.pi_meaning.specs.OverNames.Terms.{items_onto}
use Rattle.pi_rewrite_slots.specs.ItemCells.{item_cells, letter_atoms, cell_of}
use Rattle.pi_rewrite_slots.proofs.TermLemmas.{bare-cell, bare-items, bare-atom, items-push}

-- ---- a term

abbrev root_cell : Tree → TermCell
root_cell (var n) = TermCell.Var n
root_cell (int n) = TermCell.Int n
root_cell (atom name) = TermCell.Atom name
root_cell (comp name ts) = TermCell.Comp name (tree_count ts) 0

shown : (t : Tree) (h : TermHead) → ShowsHead t h → cell_of h ≡ root_cell t
shown t (TermHead.Var n) e = ap root_cell (sym e)
shown t (TermHead.Int n) e = ap root_cell (sym e)
shown t (TermHead.Atom name) e = ap root_cell (sym e)
shown t (TermHead.Comp name k) e = ap (λ (c : ℕ). TermCell.Comp name.now c 0) e.1 ∙ ap root_cell (sym e.0)

mutual
  unfolding flat subterms

  bare-subterms : (t : Tree) → bare t ≡ map root_cell (subterms t)
  bare-subterms (var n) = refl
  bare-subterms (int n) = refl
  bare-subterms (atom name) = refl
  bare-subterms (comp name ts) = ap (λ cs. TermCell.Comp name (tree_count ts) 0 ∷ cs) (bare_all-subterms ts)

  bare_all-subterms : (ts : Trees) → bare_all ts ≡ map root_cell (subterms_all ts)
  bare_all-subterms no_trees = refl
  bare_all-subterms (tree t ts) =
      map-append (λ c. with_size c 0) (flat t) (flat_all ts) ∙ (ap (λ cs. cs ++ map (λ c. with_size c 0) (flat_all ts)) (bare-subterms t)
      ∙ (ap (λ cs. map root_cell (subterms t) ++ cs) (bare_all-subterms ts) ∙ sym (map-append root_cell (subterms t) (subterms_all ts))))

get_map : {X Y : Type 0} (f : X → Y) (P : X → Type 0) (xs : List X) (i : ℕ) (y : Y) → IsSomeAnd (slice_get xs i) P → ((x : X) → P x → y ≡ f x) → slice_get (map f xs) i ≡ Some y
get_map f P [] i y h g = absurd h
get_map f P (x ∷ xs) zero y h g = ap (λ z. Some z) (sym (g x h))
get_map f P (x ∷ xs) (suc i) y h g = get_map f P xs i y h g

-- so many cells are there
pub record CopiedTo (old now : List TermCell) (t : Tree) (i : ℕ) : Type 0 where
  pub are : now ≡ old ++ take i (bare t)

pub copied-none : (old : List TermCell) (t : Tree) → CopiedTo old old t 0
copied-none old t = record { are = sym (append-nil old) }

pub copied-more : (old now new : List TermCell) (t : Tree) (i : ℕ) (h : TermHead) (cell : TermCell) → CopiedTo old now t i → IsSomeAnd (slice_get (subterms t) i) (λ u. ShowsHead u h) → new ≡ now ++ cell ∷ [] → cell ≡ cell_of h → CopiedTo old new t (i + 1)
copied-more old now new t i h cell w at e is =
    let here : slice_get (bare t) i ≡ Some (cell_of h) =
    ap (λ cs. slice_get cs i) (bare-subterms t) ∙ get_map root_cell (λ u. ShowsHead u h) (subterms t) i (cell_of h) at (λ u s. shown u h s) in
    record {
      are = e ∙ (ap (λ c. now ++ c ∷ []) is ∙ (ap (λ cs. cs ++ cell_of h ∷ []) w.are
          ∙ (append_assoc old (take i (bare t)) (cell_of h ∷ []) ∙ ap (λ cs. old ++ cs) (sym (take_more (bare t) i (cell_of h) here)))));
    }

length_bare : (t : Tree) → length (bare t) ≡ cells t
length_bare t = ap length (bare-subterms t) ∙ (length-map (subterms t) root_cell ∙ subterm_for_each_cell t)

pub copied-all : (old now : List TermCell) (t : Tree) (i : ℕ) → CopiedTo old now t i → cells t ≤ i → now ≡ old ++ bare t
copied-all old now t i w past = w.are ∙ ap (λ cs. old ++ cs) (take_all i (bare t) (subst (λ n. n ≤ i) (sym (length_bare t)) past))

-- ---- a text

abbrev letter : ℕ → Tree
letter c = atom (encode_utf8 c)

bare-text : (cs : List ℕ) → bare (list_of (map letter cs)) ≡ item_cells (trees_of (map letter cs)) ++ TermCell.Atom nil ∷ []
unfolding item_cells list_onto
bare-text [] = bare-atom nil
bare-text (c ∷ cs) =
    bare-cell (letter c) (list_of (map letter cs))
    ∙ ap (λ xs. TermCell.Comp cell_name 2 0 ∷ xs) (ap (λ xs. bare (letter c) ++ xs) (bare-text cs) ∙ sym (append_assoc (bare (letter c)) (item_cells (trees_of (map letter cs))) (TermCell.Atom nil ∷ [])))

-- so many letters are there
pub record LettersTo (cs : List ℕ) (i : ℕ) (old now : List TermCell) : Type 0 where
  pub are : now ≡ old ++ item_cells (letter_atoms (take i cs))

pub letters-none : (cs : List ℕ) (old : List TermCell) → LettersTo cs 0 old old
unfolding item_cells
letters-none cs old = record { are = sym (append-nil old) }

pub letters-more : (cs : List ℕ) (i : ℕ) (c : ℕ) (name : List ℕ) (old now mid new : List TermCell) → i < length cs → c ≡ get_or cs i c → LettersTo cs i old now →
    mid ≡ now ++ TermCell.Comp cell_name 2 0 ∷ [] → new ≡ mid ++ TermCell.Atom name ∷ [] → name ≡ encode_utf8 c → LettersTo cs (i + 1) old new
letters-more cs i c name old now mid new h is so cell put named = record {
  are =
      let next : map letter (take (i + 1) cs) ≡ map letter (take i cs) ++ letter c ∷ [] =
      ap (map letter) (take_next cs i c h ∙ ap (λ x. take i cs ++ x ∷ []) (sym is)) ∙ map-append letter (take i cs) (c ∷ []) in
      let here : TermCell.Atom name ∷ [] ≡ bare (letter c) = ap (λ (n : List ℕ). TermCell.Atom n ∷ []) named ∙ sym (bare-atom (encode_utf8 c)) in
      put ∙ (ap (λ xs. xs ++ TermCell.Atom name ∷ []) cell ∙ (append_assoc now (TermCell.Comp cell_name 2 0 ∷ []) (TermCell.Atom name ∷ [])
      ∙ (ap (λ xs. now ++ TermCell.Comp cell_name 2 0 ∷ xs) here ∙ (ap (λ xs. xs ++ TermCell.Comp cell_name 2 0 ∷ bare (letter c)) so.are
      ∙ (append_assoc old (item_cells (letter_atoms (take i cs))) (TermCell.Comp cell_name 2 0 ∷ bare (letter c))
      ∙ (ap (λ xs. old ++ xs) (sym (items-push (map letter (take i cs)) (letter c))) ∙ ap (λ ts. old ++ item_cells (trees_of ts)) (sym next)))))));
}

pub letters-end : (cs : List ℕ) (i : ℕ) (old now : List TermCell) → length cs ≤ i → LettersTo cs i old now → now ≡ old ++ item_cells (letter_atoms cs)
letters-end cs i old now past so = so.are ∙ ap (λ xs. old ++ item_cells (letter_atoms xs)) (take_all i cs past)

pub text-cells : (text cs : List ℕ) (old now new : List TermCell) (name : List ℕ) → cs ≡ chars text → now ≡ old ++ item_cells (letter_atoms cs) → name ≡ nil → new ≡ now ++ TermCell.Atom name ∷ [] → new ≡ old ++ bare (text_list text)
text-cells text cs old now new name is so named put =
    put ∙ (ap (λ xs. xs ++ TermCell.Atom name ∷ []) so ∙ (ap (λ (n : List ℕ). (old ++ item_cells (letter_atoms cs)) ++ TermCell.Atom n ∷ []) named
    ∙ (append_assoc old (item_cells (letter_atoms cs)) (TermCell.Atom nil ∷ [])
    ∙ (ap (λ xs. old ++ (item_cells (letter_atoms xs) ++ TermCell.Atom nil ∷ [])) is ∙ ap (λ xs. old ++ xs) (sym (bare-text (chars text)))))))

-- ---- items of a list

pub record CopiesTo (ts : List Tree) (i : ℕ) (now : List TermCell) : Type 0 where
  pub are : now ≡ item_cells (trees_of (take i ts))

pub copies-none : (ts : List Tree) (now : List TermCell) → now ≡ [] → CopiesTo ts 0 now
unfolding item_cells
copies-none ts now e = record { are = e }

pub copies-more : (ts : List Tree) (i : ℕ) (t : Tree) (now mid new : List TermCell) → i < length ts → t ≡ get_or ts i t → CopiesTo ts i now → mid ≡ now ++ TermCell.Comp cell_name 2 0 ∷ [] → new ≡ mid ++ bare t → CopiesTo ts (i + 1) new
copies-more ts i t now mid new h is so cell put = record {
  are =
      let next : take (i + 1) ts ≡ take i ts ++ t ∷ [] = take_next ts i t h ∙ ap (λ x. take i ts ++ x ∷ []) (sym is) in
      put ∙ (ap (λ xs. xs ++ bare t) cell ∙ (append_assoc now (TermCell.Comp cell_name 2 0 ∷ []) (bare t)
      ∙ (ap (λ xs. xs ++ TermCell.Comp cell_name 2 0 ∷ bare t) so.are ∙ (sym (items-push (take i ts) t) ∙ ap (λ us. item_cells (trees_of us)) (sym next)))));
}

pub copies-end : (ts : List Tree) (i : ℕ) (rest : Tree) (now new : List TermCell) → length ts ≤ i → CopiesTo ts i now → new ≡ now ++ bare rest → new ≡ bare (items_onto (trees_of ts) rest)
copies-end ts i rest now new past so put =
    put ∙ (ap (λ xs. xs ++ bare rest) (so.are ∙ ap (λ us. item_cells (trees_of us)) (take_all i ts past)) ∙ sym (bare-items (trees_of ts) rest))
