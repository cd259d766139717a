-- Trees as they are read: two conjuncts and branches at least, an arrow in a disjunction alone and not last, one place an index, which stands behind
-- what takes one, an item before a bar, and names that a text can have.
use Rattle.std.proofs.Common.{◌≡◌, ℕ, ◌^◌, ◌<◌, true, false, ℤ, pos, ◌-ℤ◌, List, IsUtf8, refl}
use Rattle.pi_print_program.specs.Signs.{is_two_place, is_prefix_word, is_prefix_sign, is_sign}
use Rattle.pi_syntax.specs.ExpTree.{ExpTree, var, int, atom, str, list, list_onto, array, call, quote, index, range, range_by, at, collect, and, or, arrow, if_then, if_else, foreach, while_do, do_while, ExpTrees, no_exps, exp, ExpBranches, no_branches, branch, one_exp}
use Rattle.pi_syntax.specs.Grammar.{call_one, call_two, conjunction, disjunction, indexed}
use Rattle.pi_syntax.specs.Signature.{exp_count}
use Rattle.pi_print_program.proofs.NameTexts.{IsVariableName, IsAtomName}
use Rattle.pi_print_program.specs.Patterns.{is_index}
use Rattle.pi_print_program.proofs.Writes.{takes_places}

mutual
  pub data Tree : ExpTree → Type 0 where
    a_variable : {name : List ℕ} → IsVariableName name → Tree (var name)
    an_at : {name : List ℕ} {e : ExpTree} → IsVariableName name → Tree e → is_index e ≡ false → Tree (at name e)
    a_natural : {n : ℤ} (m : ℕ) → n ≡ pos m → m < 2 ^ 127 → Tree (int n)
    a_negative : {n : ℤ} (m : ℕ) → n ≡ pos 0 -ℤ pos m → m < 2 ^ 127 → Tree (int n)
    an_atom : {name : List ℕ} → IsAtomName name → Tree (atom name)
    a_text : {text : List ℕ} → IsUtf8 text → Tree (str text)
    two : {name : List ℕ} {a b : ExpTree} → is_two_place name 2 ≡ true → Tree a → Tree b → Tree (call_two name a b)
    behind_word : {name : List ℕ} {e : ExpTree} → is_prefix_word name 1 ≡ true → Tree e → Tree (call_one name e)
    behind_sign : {name : List ℕ} {e : ExpTree} → is_prefix_sign name 1 ≡ true → Tree e → Tree (call_one name e)
    a_call : {name : List ℕ} {es : ExpTrees} → IsAtomName name → is_sign name (exp_count es) ≡ false → Trees es → Tree (call name es)
    a_term : {e : ExpTree} → Tree e → Tree (quote e)
    an_index : {e i : ExpTree} → takes_places e ≡ true → Tree e → Tree i → Tree (index e (one_exp i))
    no_list : Tree (list no_exps)
    a_list : {es : ExpTrees} → TreeItems es → Tree (list es)
    a_list_onto : {es : ExpTrees} {e : ExpTree} → TreeItems es → Tree e → Tree (list_onto es e)
    no_array : Tree (array no_exps)
    an_array : {es : ExpTrees} → TreeItems es → Tree (array es)
    a_list_of : {e : ExpTree} {es : ExpTrees} → Tree e → TreeItems es → Tree (collect false e es)
    an_array_of : {e : ExpTree} {es : ExpTrees} → Tree e → TreeItems es → Tree (collect true e es)
    a_range : {a b : ExpTree} → Tree a → Tree b → Tree (range a b)
    a_stepped_range : {a b c : ExpTree} → Tree a → Tree b → Tree c → Tree (range_by a b c)
    conjuncts : {e f : ExpTree} {es : ExpTrees} → TreeItems (exp e (exp f es)) → Tree (and (exp e (exp f es)))
    disjuncts : {e f : ExpTree} {es : ExpTrees} → TreeBranches (exp e (exp f es)) → Tree (or (exp e (exp f es)))
    an_if : {bs : ExpBranches} → TreeChoices bs → Tree (if_then bs)
    an_if_else : {bs : ExpBranches} {e : ExpTree} → TreeChoices bs → Tree e → Tree (if_else bs e)
    a_foreach : {es : ExpTrees} {e : ExpTree} → TreeItems es → Tree e → Tree (foreach es e)
    a_while : {c e : ExpTree} → Tree c → Tree e → Tree (while_do c e)
    a_do_while : {e c : ExpTree} → Tree e → Tree c → Tree (do_while e c)

  -- one or more
  pub data TreeItems : ExpTrees → Type 0 where
    last_item : {e : ExpTree} → Tree e → TreeItems (one_exp e)
    more_items : {e : ExpTree} {es : ExpTrees} → Tree e → TreeItems es → TreeItems (exp e es)

  pub data Trees : ExpTrees → Type 0 where
    none : Trees no_exps
    some : {es : ExpTrees} → TreeItems es → Trees es

  pub data TreeBranch : ExpTree → Type 0 where
    plain_branch : {e : ExpTree} → Tree e → TreeBranch e
    arrow_branch : {c e : ExpTree} → Tree c → Tree e → TreeBranch (arrow c e)

  -- the last of them no arrow
  pub data TreeBranches : ExpTrees → Type 0 where
    last_branch : {e : ExpTree} → Tree e → TreeBranches (one_exp e)
    more_branches : {e : ExpTree} {es : ExpTrees} → TreeBranch e → TreeBranches es → TreeBranches (exp e es)

  pub data TreeChoices : ExpBranches → Type 0 where
    last_choice : {c e : ExpTree} → Tree c → Tree e → TreeChoices (branch c e no_branches)
    more_choices : {c e : ExpTree} {bs : ExpBranches} → Tree c → Tree e → TreeChoices bs → TreeChoices (branch c e bs)

pub tree_conjunction : {es : ExpTrees} → TreeItems es → Tree (conjunction es)
tree_conjunction (last_item t) = t
tree_conjunction (more_items t (last_item u)) = conjuncts (more_items t (last_item u))
tree_conjunction (more_items t (more_items u us)) = conjuncts (more_items t (more_items u us))

pub tree_disjunction : {es : ExpTrees} → TreeBranches es → Tree (disjunction es)
tree_disjunction (last_branch t) = t
tree_disjunction (more_branches t (last_branch u)) = disjuncts (more_branches t (last_branch u))
tree_disjunction (more_branches t (more_branches u us)) = disjuncts (more_branches t (more_branches u us))

pub tree_indexed : {a : ExpTree} {is : ExpTrees} → takes_places a ≡ true → Tree a → TreeItems is → Tree (indexed a is)
tree_indexed takes t (last_item u) = an_index takes t u
tree_indexed takes t (more_items u us) = tree_indexed refl (an_index takes t u) us

pub takes_indexed : (a : ExpTree) (is : ExpTrees) → takes_places a ≡ true → takes_places (indexed a is) ≡ true
takes_indexed a no_exps takes = takes
takes_indexed a (exp i is) takes = takes_indexed (index a (one_exp i)) is refl

pub one_before : {a : ExpTree} {es : ExpTrees} → Tree a → Trees es → Trees (exp a es)
one_before t none = some (last_item t)
one_before t (some items) = some (more_items t items)
