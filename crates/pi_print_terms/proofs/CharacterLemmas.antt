-- Lists that are read as their characters.
use Rattle.std.proofs.Common.{◌≡◌, ℕ, ◌≤◌, ◌==◌, true, false, List, [], ◌++◌, length, refl, ap, sym, ◌∙◌, append_assoc, arith}
use Rattle.std.specs.Str.{chars, bytes_eq}
use Rattle.std.proofs.lemmas.Bool.{eqb-true}
use Rattle.std.proofs.lemmas.List.{append-nil}
use Rattle.pi_terms.specs.Tree.{Tree, atom, Trees, no_trees, tree, tree_count, drop_trees}
use Rattle.pi_terms.specs.TermCells.{take_trees}
use Rattle.pi_syntax.specs.PrintTerm.{cell_name, is_character, is_characters, cell_is_characters, characters, cell_characters}
use Rattle.pi_terms.specs.declared.term.TermHead.{TermHead}
use Rattle.std.specs.Borrow.{Bor}
use Rattle.pi_print_terms.specs.Ahead.{built, behind, count_of}
use Rattle.pi_print_terms.specs.Roots.{root_is_cell, root_is_nil, SameList}
use Rattle.pi_print_terms.proofs.TaskLemmas.{no_characters, cell_taken, and_left, and_right, count_of_cell, count_of_nil}

pub no_character : (t : Tree) (ts : Trees) → is_character t ≡ false → cell_is_characters (take_trees 2 (tree t ts)) ≡ false
unfolding is_characters
no_character t no_trees e = refl
no_character t (tree u ts) e = rw e refl

pub no_atom : (h : TermHead) (ts : Trees) → ((name : Bor (List ℕ)) → h ≡ TermHead.Atom name → ⊥) → is_character (built h ts) ≡ false
no_atom (TermHead.Var n) ts other = refl
no_atom (TermHead.Int n) ts other = refl
no_atom (TermHead.Atom name) ts other = absurd (other name refl)
no_atom (TermHead.Comp name count) ts other = refl

pub none_left : (ts : Trees) → 2 ≤ tree_count ts → ts ≡ no_trees → ⊥
unfolding tree_count
none_left ts enough e = omega (arith, ap tree_count e)

-- an item was read, and then the root of the list behind it
pub record Item (ahead : Trees) (text : List ℕ) (name : List ℕ) (rest left : Trees) : Type 0 where
  pub same : SameList ahead text rest
  pub item : rest ≡ tree (atom name) left
  pub one : (length (chars name) == 1) ≡ true

pub some_left : (ahead : Trees) (text name : List ℕ) (rest : Trees) → Item ahead text name rest no_trees → ⊥
unfolding tree_count
some_left ahead text name rest i = omega (arith, i.same.enough, ap tree_count i.item)

seen : (ahead : Trees) (text name : List ℕ) (rest us : Trees) (u : Tree) → Item ahead text name rest (tree u us)
    → (cell_is_characters (take_trees 2 ahead) ≡ is_characters u) × (cell_characters (take_trees 2 ahead) ≡ text ++ (name ++ characters u)) × (drop_trees 2 ahead ≡ us)
unfolding is_characters characters
seen ahead text name rest us u i = (
  sym i.same.proper ∙ (ap (λ r. cell_is_characters (take_trees 2 r)) i.item ∙ rw i.one refl),
  sym i.same.characters ∙ ap (λ r. text ++ cell_characters (take_trees 2 r)) i.item,
  sym i.same.behind ∙ ap (drop_trees 2) i.item,
)

nil_is_characters : (h : TermHead) (ts : Trees) → root_is_nil h ≡ true → (is_characters (built h ts) ≡ true) × (characters (built h ts) ≡ [])
unfolding is_characters characters
nil_is_characters (TermHead.Var n) ts e = absurd (cc)
nil_is_characters (TermHead.Int n) ts e = absurd (cc)
nil_is_characters (TermHead.Atom name) ts e = (e, refl)
nil_is_characters (TermHead.Comp name count) ts e = absurd (cc)

cell_as_characters : (h : TermHead) (ts : Trees) → root_is_cell h ≡ true
    → (is_characters (built h ts) ≡ cell_is_characters (take_trees 2 ts)) × (characters (built h ts) ≡ cell_characters (take_trees 2 ts))
unfolding is_characters characters
cell_as_characters (TermHead.Var n) ts e = absurd (cc)
cell_as_characters (TermHead.Int n) ts e = absurd (cc)
cell_as_characters (TermHead.Atom name) ts e = absurd (cc)
cell_as_characters (TermHead.Comp name count) ts e =
    let two : count ≡ 2 = eqb-true count 2 (and_right _ _ e) in
    let cell : bytes_eq name.now cell_name ≡ true = and_left (bytes_eq name.now cell_name) (count == 2) e in
    (rw cell (ap (λ k. cell_is_characters (take_trees k ts)) two), ap (λ k. cell_characters (take_trees k ts)) two)

other_as_characters : (h : TermHead) (ts : Trees) → count_of h ≤ tree_count ts → root_is_cell h ≡ false → root_is_nil h ≡ false → is_characters (built h ts) ≡ false
unfolding is_characters
other_as_characters (TermHead.Var n) ts enough cell nil = refl
other_as_characters (TermHead.Int n) ts enough cell nil = refl
other_as_characters (TermHead.Atom name) ts enough cell nil = nil
other_as_characters (TermHead.Comp name count) ts enough cell nil = no_characters name.now (take_trees count ts) (cell_taken name.now count ts enough ∙ cell)

pub record AtNil (ahead : Trees) (text : List ℕ) (left : Trees) : Type 0 where
  pub proper : cell_is_characters (take_trees 2 ahead) ≡ true
  pub text_is : text ≡ cell_characters (take_trees 2 ahead)
  pub behind_is : left ≡ drop_trees 2 ahead

pub at_nil : (ahead : Trees) (text name : List ℕ) (rest left ts : Trees) (h : TermHead) → Item ahead text name rest left
    → left ≡ tree (built h ts) (behind h ts) → root_is_nil h ≡ true → AtNil ahead (text ++ name) ts
at_nil ahead text name rest left ts h i root nil =
    let j : Item ahead text name rest (tree (built h ts) (behind h ts)) = record { same = i.same; item = i.item ∙ ap (tree (atom name)) root; one = i.one } in
    let s = seen ahead text name rest (behind h ts) (built h ts) j in
    let n = nil_is_characters h ts nil in
    record {
      proper = s.0 ∙ n.0;
      text_is = sym (s.1 ∙ (ap (λ r. text ++ (name ++ r)) n.1 ∙ ap (λ r. text ++ r) (append-nil name)));
      behind_is = sym (s.2 ∙ ap (λ k. drop_trees k ts) (count_of_nil h nil));
    }

pub at_cell : (ahead : Trees) (text name : List ℕ) (rest left ts : Trees) (h : TermHead) → Item ahead text name rest left
    → left ≡ tree (built h ts) (behind h ts) → count_of h ≤ tree_count ts → root_is_cell h ≡ true → SameList ahead (text ++ name) ts
at_cell ahead text name rest left ts h i root enough cell =
    let j : Item ahead text name rest (tree (built h ts) (behind h ts)) = record { same = i.same; item = i.item ∙ ap (tree (atom name)) root; one = i.one } in
    let s = seen ahead text name rest (behind h ts) (built h ts) j in
    let n = cell_as_characters h ts cell in
    record {
      enough = omega (arith, count_of_cell h cell);
      proper = sym (s.0 ∙ n.0);
      characters = append_assoc text name (cell_characters (take_trees 2 ts)) ∙ sym (s.1 ∙ ap (λ r. text ++ (name ++ r)) n.1);
      behind = sym (s.2 ∙ ap (λ k. drop_trees k ts) (count_of_cell h cell));
    }

pub at_other : (ahead : Trees) (text name : List ℕ) (rest left ts : Trees) (h : TermHead) → Item ahead text name rest left
    → left ≡ tree (built h ts) (behind h ts) → count_of h ≤ tree_count ts → root_is_cell h ≡ false → root_is_nil h ≡ false → cell_is_characters (take_trees 2 ahead) ≡ false
at_other ahead text name rest left ts h i root enough cell nil =
    let j : Item ahead text name rest (tree (built h ts) (behind h ts)) = record { same = i.same; item = i.item ∙ ap (tree (atom name)) root; one = i.one } in
    (seen ahead text name rest (behind h ts) (built h ts) j).0 ∙ other_as_characters h ts enough cell nil

pub one_tree : (ts : Trees) (t : Tree) (us : Trees) → 2 ≤ tree_count ts → ts ≡ tree t us → is_character t ≡ false → cell_is_characters (take_trees 2 ts) ≡ false
one_tree ts t us enough e other = ap (λ r. cell_is_characters (take_trees 2 r)) e ∙ no_character t us other

pub shown_atom : (h : TermHead) (name : Bor (List ℕ)) (ts : Trees) → h ≡ TermHead.Atom name → (length (chars name.now) == 1) ≡ false → is_character (built h ts) ≡ false
shown_atom h name ts e other = ap (λ r. is_character (built r ts)) e ∙ other
