-- The cells of terms, one term after the other.
use Rattle.std.proofs.Common.{◌≡◌, ℕ, ◌+◌, ◌<◌, ◌≤◌, List, [], ◌∷◌, ◌++◌, length, get_or, take, refl, sym, ◌∙◌, ap, append_assoc}
use Rattle.std.proofs.lemmas.List.{take_more, take_all, append-nil, map-append}
use Rattle.pi_terms.specs.Tree.{Tree, Trees, no_trees, tree, trees_of, tree_count}
use Rattle.pi_terms.specs.ListNames.{cell_name}
use Rattle.pi_terms.specs.TermCells.{flat, flat_all}
use Rattle.pi_terms.specs.BareCells.{bare, bare_all, with_size}
use Rattle.pi_terms.specs.declared.term.TermCell.{TermCell}
use Rattle.pi_syntax.specs.ExpTree.{exp_tree}
use Rattle.pi_syntax.specs.ExpLists.{exps_of}
use Rattle.pi_syntax.specs.declared.exp.Exp.{Exp}
use Rattle.pi_meaning.specs.OverNames.Terms.{items_onto}
use Rattle.pi_rewrite_spec.specs.Slots.{SlotNames}
use Rattle.pi_rewrite_spec.specs.Values.{SlotTerm, SlotTerms, slot_term, slot_terms, before_terms}
use Rattle.pi_rewrite_slots.specs.ItemCells.{item_cells}

-- one more term at the end
abbrev with_term : SlotTerms → SlotTerm → SlotTerms
with_term ts t = record { trees = ts.trees ++ t.tree ∷ []; names = t.names }

terms-push : (es : List Exp) (e : Exp) (ns : SlotNames) → slot_terms (exps_of (es ++ e ∷ [])) ns ≡ with_term (slot_terms (exps_of es) ns) (slot_term (exp_tree e) (slot_terms (exps_of es) ns).names)
unfolding slot_terms
terms-push [] e ns = refl
terms-push (x ∷ es) e ns = ap (before_terms (slot_term (exp_tree x) ns)) (terms-push es e (slot_term (exp_tree x) ns).names)

pub terms-next : (es : List Exp) (i : ℕ) (e : Exp) (ns : SlotNames) → i < length es → e ≡ get_or es i e →
    slot_terms (exps_of (take (i + 1) es)) ns ≡ with_term (slot_terms (exps_of (take i es)) ns) (slot_term (exp_tree e) (slot_terms (exps_of (take i es)) ns).names)
terms-next es i e ns h is = ap (λ xs. slot_terms (exps_of xs) ns) (take_more es i e h ∙ ap (λ x. take i es ++ x ∷ []) (sym is)) ∙ terms-push (take i es) e ns

-- ---- cells

pub bare_all-cons : (t : Tree) (ts : Trees) → bare_all (tree t ts) ≡ bare t ++ bare_all ts
unfolding flat
bare_all-cons t ts = map-append (λ c. with_size c 0) (flat t) (flat_all ts)

pub bare_all-none : bare_all no_trees ≡ []
unfolding flat
bare_all-none = refl

bare_all-push : (ts : List Tree) (t : Tree) → bare_all (trees_of (ts ++ t ∷ [])) ≡ bare_all (trees_of ts) ++ bare t
bare_all-push [] t = bare_all-cons t no_trees ∙ (ap (λ cs. bare t ++ cs) bare_all-none ∙ (append-nil (bare t) ∙ sym (ap (λ cs. cs ++ bare t) bare_all-none)))
bare_all-push (u ∷ ts) t =
    bare_all-cons u (trees_of (ts ++ t ∷ [])) ∙ (ap (λ cs. bare u ++ cs) (bare_all-push ts t)
    ∙ (sym (append_assoc (bare u) (bare_all (trees_of ts)) (bare t)) ∙ sym (ap (λ cs. cs ++ bare t) (bare_all-cons u (trees_of ts)))))

pub items-push : (ts : List Tree) (t : Tree) → item_cells (trees_of (ts ++ t ∷ [])) ≡ item_cells (trees_of ts) ++ TermCell.Comp cell_name 2 0 ∷ bare t
unfolding item_cells
items-push [] t = ap (λ cs. TermCell.Comp cell_name 2 0 ∷ cs) (append-nil (bare t))
items-push (u ∷ ts) t =
    ap (λ cs. TermCell.Comp cell_name 2 0 ∷ cs)
    (ap (λ cs. bare u ++ cs) (items-push ts t) ∙ sym (append_assoc (bare u) (item_cells (trees_of ts)) (TermCell.Comp cell_name 2 0 ∷ bare t)))

-- the cells of a list
pub bare-cell : (t rest : Tree) → bare (Tree.comp cell_name (tree t (tree rest no_trees))) ≡ TermCell.Comp cell_name 2 0 ∷ (bare t ++ bare rest)
unfolding flat tree_count
bare-cell t rest =
    ap (λ cs. TermCell.Comp cell_name 2 0 ∷ cs)
    (bare_all-cons t (tree rest no_trees) ∙ ap (λ cs. bare t ++ cs) (bare_all-cons rest no_trees ∙ (ap (λ cs. bare rest ++ cs) bare_all-none ∙ append-nil (bare rest))))

pub bare-items : (ts : Trees) (rest : Tree) → bare (items_onto ts rest) ≡ item_cells ts ++ bare rest
unfolding items_onto item_cells
bare-items no_trees rest = refl
bare-items (tree t ts) rest =
    bare-cell t (items_onto ts rest)
    ∙ ap (λ cs. TermCell.Comp cell_name 2 0 ∷ cs) (ap (λ cs. bare t ++ cs) (bare-items ts rest) ∙ sym (append_assoc (bare t) (item_cells ts) (bare rest)))

pub bare-comp : (name : List ℕ) (ts : Trees) (k : ℕ) → k ≡ tree_count ts → bare (Tree.comp name ts) ≡ TermCell.Comp name k 0 ∷ bare_all ts
unfolding flat
bare-comp name ts k e = ap (λ (n : ℕ). TermCell.Comp name n 0 ∷ bare_all ts) (sym e)

pub bare-atom : (name : List ℕ) → bare (Tree.atom name) ≡ TermCell.Atom name ∷ []
unfolding flat
bare-atom name = refl

-- ---- the first few

pub record TermsSoFar (es : List Exp) (i : ℕ) (ns m : SlotNames) (old now : List TermCell) : Type 0 where
  pub cells : now ≡ old ++ bare_all (trees_of (slot_terms (exps_of (take i es)) ns).trees)
  pub slots : m ≡ (slot_terms (exps_of (take i es)) ns).names

pub record ItemsSoFar (es : List Exp) (i : ℕ) (ns m : SlotNames) (old now : List TermCell) : Type 0 where
  pub cells : now ≡ old ++ item_cells (trees_of (slot_terms (exps_of (take i es)) ns).trees)
  pub slots : m ≡ (slot_terms (exps_of (take i es)) ns).names

pub terms-none : (es : List Exp) (ns : SlotNames) (old : List TermCell) → TermsSoFar es 0 ns ns old old
unfolding slot_terms
terms-none es ns old = record { cells = sym (ap (λ cs. old ++ cs) bare_all-none ∙ append-nil old); slots = refl }

pub items-none : (es : List Exp) (ns : SlotNames) (old : List TermCell) → ItemsSoFar es 0 ns ns old old
unfolding slot_terms item_cells
items-none es ns old = record { cells = sym (append-nil old); slots = refl }

pub terms-more : (es : List Exp) (i : ℕ) (e : Exp) (ns m n : SlotNames) (old now new : List TermCell) → i < length es → e ≡ get_or es i e → TermsSoFar es i ns m old now →
    new ≡ now ++ bare (slot_term (exp_tree e) m).tree → n ≡ (slot_term (exp_tree e) m).names → TermsSoFar es (i + 1) ns n old new
terms-more es i e ns m n old now new h is so put names =
    let before : SlotTerms = slot_terms (exps_of (take i es)) ns in
    let here : SlotTerm = slot_term (exp_tree e) before.names in
    record {
      cells = put ∙ (ap (λ cs. cs ++ bare (slot_term (exp_tree e) m).tree) so.cells
          ∙ (ap (λ ms. (old ++ bare_all (trees_of before.trees)) ++ bare (slot_term (exp_tree e) ms).tree) so.slots
          ∙ (append_assoc old (bare_all (trees_of before.trees)) (bare here.tree)
          ∙ (ap (λ cs. old ++ cs) (sym (bare_all-push before.trees here.tree))
          ∙ sym (ap (λ ts. old ++ bare_all (trees_of ts.trees)) (terms-next es i e ns h is))))));
      slots = names ∙ (ap (λ ms. (slot_term (exp_tree e) ms).names) so.slots ∙ sym (ap (λ ts. ts.names) (terms-next es i e ns h is)));
    }

pub items-more : (es : List Exp) (i : ℕ) (e : Exp) (ns m n : SlotNames) (old now mid new : List TermCell) → i < length es → e ≡ get_or es i e → ItemsSoFar es i ns m old now →
    mid ≡ now ++ TermCell.Comp cell_name 2 0 ∷ [] → new ≡ mid ++ bare (slot_term (exp_tree e) m).tree → n ≡ (slot_term (exp_tree e) m).names → ItemsSoFar es (i + 1) ns n old new
items-more es i e ns m n old now mid new h is so cell put names =
    let before : SlotTerms = slot_terms (exps_of (take i es)) ns in
    let here : SlotTerm = slot_term (exp_tree e) before.names in
    record {
      cells = put ∙ (ap (λ cs. cs ++ bare (slot_term (exp_tree e) m).tree) cell
          ∙ (append_assoc now (TermCell.Comp cell_name 2 0 ∷ []) (bare (slot_term (exp_tree e) m).tree)
          ∙ (ap (λ cs. cs ++ TermCell.Comp cell_name 2 0 ∷ bare (slot_term (exp_tree e) m).tree) so.cells
          ∙ (ap (λ ms. (old ++ item_cells (trees_of before.trees)) ++ TermCell.Comp cell_name 2 0 ∷ bare (slot_term (exp_tree e) ms).tree) so.slots
          ∙ (append_assoc old (item_cells (trees_of before.trees)) (TermCell.Comp cell_name 2 0 ∷ bare here.tree)
          ∙ (ap (λ cs. old ++ cs) (sym (items-push before.trees here.tree))
          ∙ sym (ap (λ ts. old ++ item_cells (trees_of ts.trees)) (terms-next es i e ns h is))))))));
      slots = names ∙ (ap (λ ms. (slot_term (exp_tree e) ms).names) so.slots ∙ sym (ap (λ ts. ts.names) (terms-next es i e ns h is)));
    }

pub terms-end : (es : List Exp) (i : ℕ) (ns m : SlotNames) (old now : List TermCell) → length es ≤ i → TermsSoFar es i ns m old now → (now ≡ old ++ bare_all (trees_of (slot_terms (exps_of es) ns).trees)) × (m ≡ (slot_terms (exps_of es) ns).names)
terms-end es i ns m old now all so = (
  so.cells ∙ ap (λ xs. old ++ bare_all (trees_of (slot_terms (exps_of xs) ns).trees)) (take_all i es all),
  so.slots ∙ ap (λ xs. (slot_terms (exps_of xs) ns).names) (take_all i es all),
)

pub items-end : (es : List Exp) (i : ℕ) (ns m : SlotNames) (old now : List TermCell) → length es ≤ i → ItemsSoFar es i ns m old now → (now ≡ old ++ item_cells (trees_of (slot_terms (exps_of es) ns).trees)) × (m ≡ (slot_terms (exps_of es) ns).names)
items-end es i ns m old now all so = (
  so.cells ∙ ap (λ xs. old ++ item_cells (trees_of (slot_terms (exps_of xs) ns).trees)) (take_all i es all),
  so.slots ∙ ap (λ xs. (slot_terms (exps_of xs) ns).names) (take_all i es all),
)
