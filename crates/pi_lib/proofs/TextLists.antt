-- A text as the list of its characters, from the last one on.
use Rattle.std.proofs.Common.{◌≡◌, ℕ, zero, suc, ◌+◌, ◌<◌, ◌≤◌, List, [], ◌∷◌, length, map, drop, get_or, Some, refl, ap, sym, ◌∙◌, arith, add-one}
use Rattle.std.specs.Char.{encode_utf8}
use Rattle.std.specs.Str.{chars}
use Rattle.std.proofs.Math.Seq.{drop-cons}
use Rattle.pi_terms.specs.Tree.{Tree, Trees, no_trees, tree, atom, comp}
use Rattle.pi_terms.specs.ListNames.{nil, cell_name}
use Rattle.pi_constraints.specs.Store.{StoreView, IsTerm, AreTerms}
use Rattle.pi_constraints.specs.declared.store.Ref.{Ref}
use Rattle.pi_effects.specs.Items.{list_onto, list_of}
use Rattle.pi_effects.specs.Texts.{text_list}

-- the list of these characters
abbrev pub list_for : List ℕ → Tree
list_for cs = list_of (map (λ c. atom (encode_utf8 c)) cs)

drop_past : (cs : List ℕ) (k : ℕ) → length cs ≤ k → drop k cs ≡ []
drop_past [] zero h = refl
drop_past [] (suc k) h = refl
drop_past (c ∷ cs) zero h = absurd (omega arith)
drop_past (c ∷ cs) (suc k) h = drop_past cs k (omega arith)

pub no_characters : {M : Type 0} (w : StoreView M) (list : Ref) (cs : List ℕ) (k : ℕ) → length cs ≤ k → IsTerm w list (atom nil) → IsTerm w list (list_for (drop k cs))
unfolding list_onto
no_characters w list cs k past is = is ∙ ap (λ ds. Some (list_for ds)) (sym (drop_past cs k past))

pub one_character : {M : Type 0} (v w x : StoreView M) (item list made : Ref) (cs : List ℕ) (c i k d : ℕ) → i + 1 ≡ k → i < length cs → c ≡ get_or cs i d → IsTerm w item (atom (encode_utf8 c)) → IsTerm w list (list_for (drop k cs)) → ((ts : Trees) → AreTerms w (item ∷ list ∷ []) ts → IsTerm x made (comp cell_name ts)) → IsTerm x made (list_for (drop i cs))
unfolding list_onto AreTerms
one_character v w x item list made cs c i k d next within is h rest puts =
    let front : drop i cs ≡ c ∷ drop k cs = drop-cons cs i d within ∙ (ap (λ e. e ∷ drop (suc i) cs) (sym is) ∙ ap (λ j. c ∷ drop j cs) (sym (add-one i) ∙ next)) in
    puts (tree (atom (encode_utf8 c)) (tree (list_for (drop k cs)) no_trees)) (h, (rest, tt)) ∙ ap (λ ds. Some (list_for ds)) (sym front)

-- at the first character the list is that of the text
pub all_characters : {M : Type 0} (w : StoreView M) (list : Ref) (cs text : List ℕ) (k : ℕ) → k ≡ 0 → cs ≡ chars text → IsTerm w list (list_for (drop k cs)) → IsTerm w list (text_list text)
all_characters w list cs text k first same is = is ∙ (ap (λ j. Some (list_for (drop j cs))) first ∙ ap (λ ds. Some (list_for ds)) same)
