-- The walk over a text, cell by cell.
use Rattle.std.proofs.Common.{◌≡◌, ℕ, ℤ, ◌+◌, ◌*◌, ◌==◌, Bool, true, false, List, [], ◌++◌, length, Some, refl, ap, sym, ◌∙◌, subst, arith, append_assoc}
use Rattle.std.specs.Prelude.{◌&&◌}
use Rattle.std.specs.Str.{chars, bytes_eq}
use Rattle.std.proofs.lemmas.List.{append-nil}
use Rattle.std.proofs.lemmas.Slice.Eq.{bytes_eq-Decides}
use Rattle.std.proofs.lemmas.Bool.Decides.{nat_tests}
use Rattle.pi_terms.specs.Tree.{Tree, var, int, atom, comp, Trees, no_trees, tree, tree_count, tree_at, args, arity, cells}
use Rattle.pi_terms.specs.ListNames.{nil, cell_name}
use Rattle.pi_terms.specs.ListCopies.{list_cell}
use Rattle.pi_terms.specs.Tree.{arg_at}
use Rattle.pi_constraints.specs.Value.{IsAcyclic}
use Rattle.pi_constraints.specs.State.{bindings, followed}
use Rattle.pi_constraints.specs.Store.{StoreView, IsTerm, IsName, ShowsCell}
use Rattle.pi_constraints.specs.declared.store.Ref.{Ref}
use Rattle.pi_constraints.specs.declared.store.Cell.{Cell}
use Rattle.pi_syntax.specs.PrintTerm.{is_characters, cell_is_characters, characters, is_character}
use Rattle.pi_unify.specs.Terms.{IsGiven, HoldsNoCycle, value_of}
use Rattle.pi_unify.proofs.TermValues.{IsArgument, argument}
use Rattle.pi_lib.specs.declared.characters.Characters.{Characters}
use Rattle.pi_lib.specs.declared.characters.Link.{Link}
use Rattle.pi_lib.specs.Characters.{AreCharacters, IsCharacter, ShowsLink}

-- ---- terms that are no rest of a text

pub no_text_var : (t : Tree) (n : ℕ) → t ≡ var n → is_characters t ≡ false
unfolding is_characters
no_text_var t n e = ap is_characters e

pub no_text_int : (t : Tree) (n : ℤ) → t ≡ int n → is_characters t ≡ false
unfolding is_characters
no_text_int t n e = ap is_characters e

pub no_text_atom : (t : Tree) (name : List ℕ) → t ≡ atom name → bytes_eq name nil ≡ false → is_characters t ≡ false
unfolding is_characters
no_text_atom t name e other = ap is_characters e ∙ other

and_false : (c : Bool) → (c && false) ≡ false
and_false true = refl
and_false false = refl

other_count : (name : List ℕ) (ts : Trees) → (tree_count ts == 2) ≡ false → (bytes_eq name cell_name && cell_is_characters ts) ≡ false
unfolding is_characters tree_count
other_count name no_trees h = and_false (bytes_eq name cell_name)
other_count name (tree t no_trees) h = and_false (bytes_eq name cell_name)
other_count name (tree t (tree u no_trees)) h = cc
other_count name (tree t (tree u (tree w ts))) h = and_false (bytes_eq name cell_name)

other_cell : (name : List ℕ) (c : Bool) (ts : Trees) → bytes_eq name cell_name ≡ c → (c && (tree_count ts == 2)) ≡ false → (bytes_eq name cell_name && cell_is_characters ts) ≡ false
other_cell name false ts e h = ap (λ q. q && cell_is_characters ts) e
other_cell name true ts e h = other_count name ts h

pub no_text_comp : (t : Tree) (name : List ℕ) (ts : Trees) → t ≡ comp name ts → (bytes_eq name cell_name && (tree_count ts == 2)) ≡ false → is_characters t ≡ false
unfolding is_characters
no_text_comp t name ts e h = ap is_characters e ∙ other_cell name (bytes_eq name cell_name) ts refl h

-- ---- list cells

pub two_args : (ts : Trees) (t u : Tree) → tree_count ts ≡ 2 → tree_at ts 0 ≡ Some t → tree_at ts 1 ≡ Some u → ts ≡ tree t (tree u no_trees)
unfolding tree_count tree_at
two_args no_trees t u many first second = cc
two_args (tree a no_trees) t u many first second = cc
two_args (tree a (tree b no_trees)) t u many first second = cc
two_args (tree a (tree b (tree c ts))) t u many first second = absurd (omega arith)

no_character : {M : Type 0} (v : StoreView M) (t : Tree) (c : Cell) → ((k : ℕ) → c ≡ Cell.Atom k → ⊥) → ShowsCell v t c → is_character t ≡ false
no_character v t (Cell.Var n) other shows = ap is_character shows
no_character v t (Cell.Int n) other shows = ap is_character shows
no_character v t (Cell.Atom k) other shows = absurd (other k refl)
no_character v t (Cell.Comp k count) other shows = ap is_character shows.2

cell_is : (t u : Tree) → is_characters (list_cell t u) ≡ (is_character t && is_characters u)
unfolding is_characters
cell_is t u = refl

pub no_item : {M : Type 0} (v : StoreView M) (t u : Tree) (c : Cell) → ((k : ℕ) → c ≡ Cell.Atom k → ⊥) → ShowsCell v t c → is_characters (list_cell t u) ≡ false
no_item v t u c other shows = cell_is t u ∙ ap (λ q. q && is_characters u) (no_character v t c other shows)

pub long_item : (t u : Tree) (name : List ℕ) → t ≡ atom name → (length (chars name) == 1) ≡ false → is_characters (list_cell t u) ≡ false
long_item t u name e long = cell_is t u ∙ ap (λ q. q && is_characters u) (ap is_character e ∙ long)

-- ---- the walk

-- of a text so many characters are read, and this is its rest
pub record Walked {M : Type 0} (v : StoreView M) (whole at : Ref) (text : List ℕ) (count : ℕ) : Type 0 where
  pub given : IsGiven v at
  pub proper : is_characters (value_of v whole) ≡ is_characters (value_of v at)
  pub characters : text ++ characters (value_of v at) ≡ characters (value_of v whole)
  pub many : cells (value_of v whole) ≡ 2 * count + cells (value_of v at)

pub walk_begins : {M : Type 0} (v : StoreView M) (whole : Ref) (text : List ℕ) → IsGiven v whole → text ≡ [] → Walked v whole whole text 0
walk_begins v whole text given e = record {
  given = given;
  proper = refl;
  characters = ap (λ xs. xs ++ characters (value_of v whole)) e;
  many = omega arith;
}

pub walk_more : {M : Type 0} (v : StoreView M) (whole at rest : Ref) (text new more : List ℕ) (count k : ℕ) → Walked v whole at text count → IsCharacter v (value_of v at) k rest → ((name : List ℕ) → IsName v k name → more ≡ name) → new ≡ text ++ more → Walked v whole rest new (count + 1)
unfolding is_characters characters cells
walk_more v whole at rest text new more count k walked is named e =
    let u : Tree = value_of v rest in
    let here : value_of v at ≡ list_cell (atom is.name) u = is.cell in
    record {
      given = is.given;
      proper = walked.proper ∙ (ap is_characters here ∙ ap (λ q. q && is_characters u) is.one);
      characters = ap (λ xs. xs ++ characters u) (e ∙ ap (λ xs. text ++ xs) (named is.name is.named)) ∙ (append_assoc text is.name (characters u) ∙ (ap (λ xs. text ++ xs) (sym (ap characters here)) ∙ walked.characters));
      many = omega (arith, walked.many, ap cells here);
    }

pub walk_ends : {M : Type 0} (v : StoreView M) (whole at : Ref) (text : List ℕ) (count : ℕ) (found : Characters) → Walked v whole at text count → value_of v at ≡ atom nil → found.text ≡ text → found.count ≡ count → AreCharacters (value_of v whole) found
unfolding is_characters characters cells
walk_ends v whole at text count found walked end e n = record {
  proper = walked.proper ∙ ap is_characters end;
  text = e ∙ (sym (append-nil text) ∙ (ap (λ xs. text ++ xs) (sym (ap characters end)) ∙ walked.characters));
  many = omega (arith, walked.many, ap cells end);
}

pub walk_fails : {M : Type 0} (v : StoreView M) (whole at : Ref) (text : List ℕ) (count : ℕ) → Walked v whole at text count → is_characters (value_of v at) ≡ false → is_characters (value_of v whole) ≡ false
walk_fails v whole at text count walked other = walked.proper ∙ other

-- ---- what a store shows of a list cell

-- a list cell, by its item and its rest
pub record IsCell {M : Type 0} (v : StoreView M) (t : Tree) (item rest : Ref) : Type 0 where
  pub item_given : IsGiven v item
  pub rest_given : IsGiven v rest
  pub cell : t ≡ list_cell (value_of v item) (value_of v rest)

tested : (n : ℕ) → (n == 2) ≡ true → n ≡ 2
tested n h = grind (arith, nat_tests)

both_true : (a b : Bool) → (a && b) ≡ true → (a ≡ true) × (b ≡ true)
both_true true true h = (refl, refl)
both_true true false h = cc
both_true false b h = cc

pub cell_shown : {M : Type 0} (v : StoreView M) (at item rest : Ref) (k count : ℕ) (test : Bool) → HoldsNoCycle v → IsGiven v at → (shows : ShowsCell v (value_of v at) (Cell.Comp k count)) → test ≡ (bytes_eq shows.0 cell_name && (count == 2)) → test ≡ true →
    ((t u : Tree) → IsTerm v at t → IsAcyclic (bindings v.now.state) → arg_at (followed (bindings v.now.state) t) 0 ≡ Some u → IsTerm v item u) →
    ((t u : Tree) → IsTerm v at t → IsAcyclic (bindings v.now.state) → arg_at (followed (bindings v.now.state) t) 1 ≡ Some u → IsTerm v rest u) → IsCell v (value_of v at) item rest
cell_shown v at item rest k count test a given shows is hit first second =
    let w : Tree = value_of v at in
    let both = both_true (bytes_eq shows.0 cell_name) (count == 2) (sym is ∙ hit) in
    let name : shows.0 ≡ cell_name = (bytes_eq-Decides shows.0 cell_name).0 both.0 in
    let two : count ≡ 2 = tested count both.1 in
    let many : arity w ≡ 2 = sym shows.3 ∙ two in
    let one : IsArgument v item w 0 = argument v at item 0 a given (omega (arith, many)) first in
    let other : IsArgument v rest w 1 = argument v at rest 1 a given (omega (arith, many)) second in
    record {
      item_given = one.given;
      rest_given = other.given;
      cell = shows.2 ∙ (ap (λ f. comp f (args w)) name ∙ ap (comp cell_name) (two_args (args w) (value_of v item) (value_of v rest) many one.is other.is));
    }

pub no_cell : {M : Type 0} (v : StoreView M) (t : Tree) (k count : ℕ) (test : Bool) → (shows : ShowsCell v t (Cell.Comp k count)) → test ≡ (bytes_eq shows.0 cell_name && (count == 2)) → test ≡ false → is_characters t ≡ false
no_cell v t k count test shows is miss = no_text_comp t shows.0 (args t) shows.2 (ap (λ n. bytes_eq shows.0 cell_name && (n == 2)) (sym shows.3) ∙ (sym is ∙ miss))

pub link_of_cell : {M : Type 0} (v : StoreView M) (t : Tree) (item rest : Ref) (link : Link) → IsCell v t item rest → ShowsLink v (list_cell (value_of v item) (value_of v rest)) link → ShowsLink v t link
link_of_cell v t item rest link is h = subst (λ (u : Tree). ShowsLink v u link) (sym is.cell) h

pub nil_shown : {M : Type 0} (v : StoreView M) (t : Tree) (k : ℕ) (test : Bool) → (shows : ShowsCell v t (Cell.Atom k)) → test ≡ bytes_eq shows.0 nil → test ≡ true → t ≡ atom nil
nil_shown v t k test shows is hit = shows.2 ∙ ap atom ((bytes_eq-Decides shows.0 nil).0 (sym is ∙ hit))

pub no_nil : {M : Type 0} (v : StoreView M) (t : Tree) (k : ℕ) (test : Bool) → (shows : ShowsCell v t (Cell.Atom k)) → test ≡ bytes_eq shows.0 nil → test ≡ false → is_characters t ≡ false
no_nil v t k test shows is miss = no_text_atom t shows.0 shows.2 (sym is ∙ miss)

pub no_list : {M : Type 0} (v : StoreView M) (t : Tree) (c : Cell) → ((k : ℕ) → c ≡ Cell.Atom k → ⊥) → ((k count : ℕ) → c ≡ Cell.Comp k count → ⊥) → ShowsCell v t c → is_characters t ≡ false
no_list v t (Cell.Var n) other compound shows = no_text_var t n shows
no_list v t (Cell.Int n) other compound shows = no_text_int t n shows
no_list v t (Cell.Atom k) other compound shows = absurd (other k refl)
no_list v t (Cell.Comp k count) other compound shows = absurd (compound k count refl)
