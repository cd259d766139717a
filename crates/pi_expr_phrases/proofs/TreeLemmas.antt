-- The trees of expressions that are made of parts.
use Rattle.std.proofs.Common.{◌≡◌, ℕ, ◌≤◌, ◌<◌, suc, max, Bool, List, [], ◌∷◌, ◌++◌, None, Some, refl, ap, ◌∙◌, sym, arith, lit≤, ℤ, true, false, length, ◌==◌}
use Rattle.std.proofs.lemmas.Bool.Decides.{nat_tests}
use Rattle.std.specs.Prelude.{Vec}
use Rattle.std.specs.declared.alloc.Global.{Global}
use Rattle.std.specs.declared.boxed.Box.{Box}
use Rattle.pi_syntax.specs.ExpTree.{ExpTree, var, int, atom, str, list, list_onto, array, call, quote, index, range, range_by, at, collect, and, or, arrow, if_then, if_else, foreach, while_do, do_while, ExpTrees, no_exps, exp as exp_before, ExpBranches, no_branches, branch as branch_before, levels, levels_all, levels_of_branches, exp_tree, exp_trees, branch_trees, held_tree}
use Rattle.pi_syntax.specs.Crowding.{most_levels}
use Rattle.pi_syntax.specs.Grammar.{is_atom}
use Rattle.pi_syntax.specs.declared.exp.Exp as e
use Rattle.pi_syntax.specs.declared.exp.Exp.{Exp}
use Rattle.pi_expr_phrases.specs.Trees.{trees_of, branches_of, is_none}
use Rattle.pi_expr_phrases.specs.Machine.{with_exp, with_branch}

row-trees : (n : _) (row : e.Row_of-Exp n) → exp_trees row ≡ trees_of (e.items-the_row-Exp n row)
unfolding exp_tree exp_trees
row-trees n e.end_of-Exp = refl
row-trees n (e.more_of-Exp x xs) = ap (exp_before (exp_tree x)) (row-trees _ xs)

abbrev row_in : Exp → (n : _) × e.Row_of-Exp n
row_in (e.List' _ row tail) = (_, row)
row_in (e.Array' _ row) = (_, row)
row_in (e.Call' name _ row) = (_, row)
row_in (e.Index' _ of _ row) = (_, row)
row_in (e.Collect' is_array _ item _ row) = (_, row)
row_in (e.And' _ row) = (_, row)
row_in (e.Or' _ row) = (_, row)
row_in (e.Foreach' _ row _ body) = (_, row)
row_in _ = (_, e.end_of-Exp)

row_of-list : (es : Vec Exp Global) → exp_trees (row_in (e.List es None)).1 ≡ trees_of es.items
row_of-list es = let row = row_in (e.List es None) in row-trees row.0 row.1 ∙ ap trees_of (e.items_hidden-the_row-Exp-0 es)

pub list-tree : (es : Vec Exp Global) → exp_tree (e.List es None) ≡ list (trees_of es.items)
unfolding exp_tree held_tree
list-tree es = ap list (row_of-list es)

pub list_onto-tree : (es : Vec Exp Global) (tail : Box Exp Global) → exp_tree (e.List es (Some tail)) ≡ list_onto (trees_of es.items) (exp_tree tail.value)
unfolding exp_tree held_tree
list_onto-tree es tail = ap (λ ts. list_onto ts (exp_tree tail.value)) (row_of-list es)

pub array-tree : (es : Vec Exp Global) → exp_tree (e.Array es) ≡ array (trees_of es.items)
unfolding exp_tree
array-tree es = ap array (row_of-list es)

pub call-tree : (name : List ℕ) (es : Vec Exp Global) → exp_tree (e.Call name es) ≡ call name (trees_of es.items)
unfolding exp_tree
call-tree name es = ap (call name) (row_of-list es)

pub and-tree : (es : Vec Exp Global) → exp_tree (e.And es) ≡ and (trees_of es.items)
unfolding exp_tree
and-tree es = ap and (row_of-list es)

pub or-tree : (es : Vec Exp Global) → exp_tree (e.Or es) ≡ or (trees_of es.items)
unfolding exp_tree
or-tree es = ap or (row_of-list es)

pub index-tree : (of : Box Exp Global) (es : Vec Exp Global) → exp_tree (e.Index of es) ≡ index (exp_tree of.value) (trees_of es.items)
unfolding exp_tree
index-tree of es = ap (index (exp_tree of.value)) (row_of-list es)

pub collect-tree : (is_array : Bool) (item : Box Exp Global) (es : Vec Exp Global)
    → exp_tree (e.Collect is_array item es) ≡ collect is_array (exp_tree item.value) (trees_of es.items)
unfolding exp_tree
collect-tree is_array item es = ap (collect is_array (exp_tree item.value)) (row_of-list es)

pub foreach-tree : (es : Vec Exp Global) (body : Box Exp Global) → exp_tree (e.Foreach es body) ≡ foreach (trees_of es.items) (exp_tree body.value)
unfolding exp_tree
foreach-tree es body = ap (λ ts. foreach ts (exp_tree body.value)) (row_of-list es)

branch_row-trees : (n : _) (row : e.Row_of-Exp-If-0-2 n) → branch_trees row ≡ branches_of (e.items-the_row-Exp-If-0-2 n row)
unfolding exp_tree branch_trees
branch_row-trees n e.end_of-Exp-If-0-2 = refl
branch_row-trees n (e.more_of-Exp-If-0-2 c b bs) = ap (branch_before (exp_tree c) (exp_tree b)) (branch_row-trees _ bs)

abbrev branch_row_in : Exp → (n : _) × e.Row_of-Exp-If-0-2 n
branch_row_in (e.If' _ row last) = (_, row)
branch_row_in _ = (_, e.end_of-Exp-If-0-2)

row_of-branches : (bs : Vec (Exp × Exp) Global) → branch_trees (branch_row_in (e.If bs None)).1 ≡ branches_of bs.items
row_of-branches bs =
    let row = branch_row_in (e.If bs None) in
    branch_row-trees row.0 row.1 ∙ ap branches_of (e.items_hidden-the_row-Exp-If-0-2-1 bs)

pub if_then-tree : (bs : Vec (Exp × Exp) Global) → exp_tree (e.If bs None) ≡ if_then (branches_of bs.items)
unfolding exp_tree held_tree
if_then-tree bs = ap if_then (row_of-branches bs)

pub if_else-tree : (bs : Vec (Exp × Exp) Global) (last : Box Exp Global) → exp_tree (e.If bs (Some last)) ≡ if_else (branches_of bs.items) (exp_tree last.value)
unfolding exp_tree held_tree
if_else-tree bs last = ap (λ ts. if_else ts (exp_tree last.value)) (row_of-branches bs)

-- more at the end

pub trees_of-push : (es : List Exp) (x : Exp) → trees_of (es ++ x ∷ []) ≡ with_exp (trees_of es) (exp_tree x)
trees_of-push [] x = refl
trees_of-push (y ∷ es) x = ap (exp_before (exp_tree y)) (trees_of-push es x)

pub branches_of-push : (bs : List (Exp × Exp)) (b : Exp × Exp)
    → branches_of (bs ++ b ∷ []) ≡ with_branch (branches_of bs) (exp_tree b.0) (exp_tree b.1)
branches_of-push [] b = refl
branches_of-push (y ∷ bs) b = ap (branch_before (exp_tree y.0) (exp_tree y.1)) (branches_of-push bs b)

pub levels_all-with : (es : ExpTrees) (x : ExpTree) → levels_all (with_exp es x) ≡ max (levels_all es) (levels x)
unfolding levels levels_all
levels_all-with no_exps x = omega arith
levels_all-with (exp_before y es) x = let more = levels_all-with es x in omega arith

pub levels_of-with : (bs : ExpBranches) (c x : ExpTree)
    → levels_of_branches (with_branch bs c x) ≡ max (levels_of_branches bs) (max (levels c) (levels x))
unfolding levels levels_all levels_of_branches
levels_of-with no_branches c x = omega arith
levels_of-with (branch_before d y bs) c x = let more = levels_of-with bs c x in omega arith

-- what is shown

pub deep-over : (m n : ℕ) → n ≡ suc m → most_levels < m → most_levels < n
deep-over m n p h = omega arith

pub no_items-shown : (xs : List Exp) → xs ≡ [] → (trees_of xs ≡ no_exps) × (levels_all no_exps ≡ 0) × (0 ≤ most_levels)
unfolding levels levels_all
no_items-shown xs p = (ap trees_of p, refl, lit≤ tt)

pub no_choices-shown : (xs : List (Exp × Exp)) → xs ≡ []
    → (branches_of xs ≡ no_branches) × (levels_of_branches no_branches ≡ 0) × (0 ≤ most_levels)
unfolding levels levels_of_branches
no_choices-shown xs p = (ap branches_of p, refl, lit≤ tt)

pub items_with-shown : (xs ys : List Exp) (x : Exp) (m n k : ℕ) → ys ≡ xs ++ x ∷ [] → k ≡ max m n → (es : ExpTrees) (a : ExpTree)
    → (trees_of xs ≡ es) × (levels_all es ≡ m) × (m ≤ most_levels) → (exp_tree x ≡ a) × (levels a ≡ n) × (n ≤ most_levels)
    → (trees_of ys ≡ with_exp es a) × (levels_all (with_exp es a) ≡ k) × (k ≤ most_levels)
items_with-shown xs ys x m n k p q es a h i =
    let all = levels_all-with es a in (
      ap trees_of p ∙ trees_of-push xs x ∙ ap (λ ts. with_exp ts (exp_tree x)) h.0 ∙ ap (with_exp es) i.0,
      all ∙ ap (λ l. max l (levels a)) h.1 ∙ ap (max m) i.1 ∙ sym q,
      omega (arith, q, h.2, i.2),
    )

pub items_with-deep_last : (es : ExpTrees) (a : ExpTree) → most_levels < levels a → most_levels < levels_all (with_exp es a)
items_with-deep_last es a h = omega (arith, levels_all-with es a)

pub items_with-deep : (es : ExpTrees) (a : ExpTree) → most_levels < levels_all es → most_levels < levels_all (with_exp es a)
items_with-deep es a h = omega (arith, levels_all-with es a)

pub choices_with-shown : (xs ys : List (Exp × Exp)) (x y : Exp) (m n k : ℕ) → ys ≡ xs ++ (x, y) ∷ [] → k ≡ max m n
    → (bs : ExpBranches) (a b : ExpTree)
    → (branches_of xs ≡ bs) × (levels_of_branches bs ≡ m) × (m ≤ most_levels)
    → (exp_tree x ≡ a) × (exp_tree y ≡ b) × (max (levels a) (levels b) ≡ n) × (n ≤ most_levels)
    → (branches_of ys ≡ with_branch bs a b) × (levels_of_branches (with_branch bs a b) ≡ k) × (k ≤ most_levels)
choices_with-shown xs ys x y m n k p q bs a b h i =
    let all = levels_of-with bs a b in (
      ap branches_of p ∙ branches_of-push xs (x, y) ∙ ap (λ ts. with_branch ts (exp_tree x) (exp_tree y)) h.0
          ∙ ap (λ t. with_branch bs t (exp_tree y)) i.0 ∙ ap (with_branch bs a) i.1,
      all ∙ ap (λ l. max l (max (levels a) (levels b))) h.1 ∙ ap (max m) i.2 ∙ sym q,
      omega (arith, q, h.2, i.3),
    )

pub choices_with-deep_last : (bs : ExpBranches) (a b : ExpTree) → most_levels < max (levels a) (levels b)
    → most_levels < levels_of_branches (with_branch bs a b)
choices_with-deep_last bs a b h = let all = levels_of-with bs a b in omega arith

pub choices_with-deep : (bs : ExpBranches) (a b : ExpTree) → most_levels < levels_of_branches bs
    → most_levels < levels_of_branches (with_branch bs a b)
choices_with-deep bs a b h = let all = levels_of-with bs a b in omega arith

pub var-shown : (n m : List ℕ) → n ≡ m → (exp_tree (e.Var n) ≡ var m) × (levels (var m) ≡ 1) × (1 ≤ most_levels)
unfolding exp_tree levels
var-shown n m p = (ap var p, refl, lit≤ tt)

pub atom-shown : (n m : List ℕ) → n ≡ m → (exp_tree (e.Atom n) ≡ atom m) × (levels (atom m) ≡ 1) × (1 ≤ most_levels)
unfolding exp_tree levels
atom-shown n m p = (ap atom p, refl, lit≤ tt)

pub str-shown : (n m : List ℕ) → n ≡ m → (exp_tree (e.Str n) ≡ str m) × (levels (str m) ≡ 1) × (1 ≤ most_levels)
unfolding exp_tree levels
str-shown n m p = (ap str p, refl, lit≤ tt)

pub int-shown : (n m : ℤ) → n ≡ m → (exp_tree (e.Int n) ≡ int m) × (levels (int m) ≡ 1) × (1 ≤ most_levels)
unfolding exp_tree levels
int-shown n m p = (ap int p, refl, lit≤ tt)

pub list-shown : (es : Vec Exp Global) (ts : ExpTrees) → trees_of es.items ≡ ts → exp_tree (e.List es None) ≡ list ts
list-shown es ts p = list-tree es ∙ ap list p

pub levels-list : (ts : ExpTrees) → levels (list ts) ≡ suc (levels_all ts)
unfolding levels
levels-list ts = refl

pub array-shown : (es : Vec Exp Global) (ts : ExpTrees) → trees_of es.items ≡ ts → exp_tree (e.Array es) ≡ array ts
array-shown es ts p = array-tree es ∙ ap array p

pub levels-array : (ts : ExpTrees) → levels (array ts) ≡ suc (levels_all ts)
unfolding levels
levels-array ts = refl

pub and-shown : (es : Vec Exp Global) (ts : ExpTrees) → trees_of es.items ≡ ts → exp_tree (e.And es) ≡ and ts
and-shown es ts p = and-tree es ∙ ap and p

pub levels-and : (ts : ExpTrees) → levels (and ts) ≡ suc (levels_all ts)
unfolding levels
levels-and ts = refl

pub or-shown : (es : Vec Exp Global) (ts : ExpTrees) → trees_of es.items ≡ ts → exp_tree (e.Or es) ≡ or ts
or-shown es ts p = or-tree es ∙ ap or p

pub levels-or : (ts : ExpTrees) → levels (or ts) ≡ suc (levels_all ts)
unfolding levels
levels-or ts = refl

pub call-shown : (n m : List ℕ) (es : Vec Exp Global) (ts : ExpTrees) → n ≡ m → trees_of es.items ≡ ts → exp_tree (e.Call n es) ≡ call m ts
call-shown n m es ts p q = call-tree n es ∙ ap (λ k. call k (trees_of es.items)) p ∙ ap (call m) q

pub levels-call : (m : List ℕ) (ts : ExpTrees) → levels (call m ts) ≡ suc (levels_all ts)
unfolding levels
levels-call m ts = refl

pub quote-shown : (x : Box Exp Global) (a : ExpTree) → exp_tree x.value ≡ a → exp_tree (e.Quote x) ≡ quote a
unfolding exp_tree
quote-shown x a p = ap quote p

pub levels-quote : (a : ExpTree) → levels (quote a) ≡ suc (levels a)
unfolding levels
levels-quote a = refl

pub at-shown : (n m : List ℕ) (x : Box Exp Global) (a : ExpTree) → n ≡ m → exp_tree x.value ≡ a → exp_tree (e.At n x) ≡ at m a
unfolding exp_tree
at-shown n m x a p q = ap (λ k. at k (exp_tree x.value)) p ∙ ap (at m) q

pub levels-at : (m : List ℕ) (a : ExpTree) → levels (at m a) ≡ suc (levels a)
unfolding levels
levels-at m a = refl

pub index-shown : (x : Box Exp Global) (es : Vec Exp Global) (a : ExpTree) (ts : ExpTrees) → exp_tree x.value ≡ a → trees_of es.items ≡ ts
    → exp_tree (e.Index x es) ≡ index a ts
index-shown x es a ts p q = index-tree x es ∙ ap (λ t. index t (trees_of es.items)) p ∙ ap (index a) q

pub levels-index : (a : ExpTree) (ts : ExpTrees) → levels (index a ts) ≡ suc (max (levels a) (levels_all ts))
unfolding levels
levels-index a ts = refl

pub list_onto-shown : (x : Box Exp Global) (es : Vec Exp Global) (a : ExpTree) (ts : ExpTrees) → exp_tree x.value ≡ a → trees_of es.items ≡ ts
    → exp_tree (e.List es (Some x)) ≡ list_onto ts a
list_onto-shown x es a ts p q = list_onto-tree es x ∙ ap (λ t. list_onto t (exp_tree x.value)) q ∙ ap (list_onto ts) p

pub levels-list_onto : (a : ExpTree) (ts : ExpTrees) → levels (list_onto ts a) ≡ suc (max (levels a) (levels_all ts))
unfolding levels
levels-list_onto a ts = omega arith

pub collect-shown : (b : Bool) (x : Box Exp Global) (es : Vec Exp Global) (a : ExpTree) (ts : ExpTrees) → exp_tree x.value ≡ a
    → trees_of es.items ≡ ts → exp_tree (e.Collect b x es) ≡ collect b a ts
collect-shown b x es a ts p q = collect-tree b x es ∙ ap (λ t. collect b t (trees_of es.items)) p ∙ ap (collect b a) q

pub levels-collect : (b : Bool) (a : ExpTree) (ts : ExpTrees) → levels (collect b a ts) ≡ suc (max (levels a) (levels_all ts))
unfolding levels
levels-collect b a ts = refl

pub foreach-shown : (x : Box Exp Global) (es : Vec Exp Global) (a : ExpTree) (ts : ExpTrees) → exp_tree x.value ≡ a → trees_of es.items ≡ ts
    → exp_tree (e.Foreach es x) ≡ foreach ts a
foreach-shown x es a ts p q = foreach-tree es x ∙ ap (λ t. foreach t (exp_tree x.value)) q ∙ ap (foreach ts) p

pub levels-foreach : (a : ExpTree) (ts : ExpTrees) → levels (foreach ts a) ≡ suc (max (levels a) (levels_all ts))
unfolding levels
levels-foreach a ts = omega arith

pub range-shown : (x y : Box Exp Global) (a b : ExpTree) → exp_tree x.value ≡ a → exp_tree y.value ≡ b → exp_tree (e.Range x None y) ≡ range a b
unfolding exp_tree held_tree
range-shown x y a b p q = ap (λ t. range t (exp_tree y.value)) p ∙ ap (range a) q

pub levels-range : (a b : ExpTree) → levels (range a b) ≡ suc (max (levels a) (levels b))
unfolding levels
levels-range a b = refl

pub arrow-shown : (x y : Box Exp Global) (a b : ExpTree) → exp_tree x.value ≡ a → exp_tree y.value ≡ b → exp_tree (e.Arrow x y) ≡ arrow a b
unfolding exp_tree held_tree
arrow-shown x y a b p q = ap (λ t. arrow t (exp_tree y.value)) p ∙ ap (arrow a) q

pub levels-arrow : (a b : ExpTree) → levels (arrow a b) ≡ suc (max (levels a) (levels b))
unfolding levels
levels-arrow a b = refl

pub while_do-shown : (x y : Box Exp Global) (a b : ExpTree) → exp_tree x.value ≡ a → exp_tree y.value ≡ b → exp_tree (e.While x y) ≡ while_do a b
unfolding exp_tree held_tree
while_do-shown x y a b p q = ap (λ t. while_do t (exp_tree y.value)) p ∙ ap (while_do a) q

pub levels-while_do : (a b : ExpTree) → levels (while_do a b) ≡ suc (max (levels a) (levels b))
unfolding levels
levels-while_do a b = refl

pub do_while-shown : (x y : Box Exp Global) (a b : ExpTree) → exp_tree x.value ≡ a → exp_tree y.value ≡ b → exp_tree (e.DoWhile x y) ≡ do_while a b
unfolding exp_tree held_tree
do_while-shown x y a b p q = ap (λ t. do_while t (exp_tree y.value)) p ∙ ap (do_while a) q

pub levels-do_while : (a b : ExpTree) → levels (do_while a b) ≡ suc (max (levels a) (levels b))
unfolding levels
levels-do_while a b = refl

pub range_by-shown : (x y z : Box Exp Global) (a b c : ExpTree) → exp_tree x.value ≡ a → exp_tree y.value ≡ b → exp_tree z.value ≡ c
    → exp_tree (e.Range x (Some y) z) ≡ range_by a b c
unfolding exp_tree held_tree
range_by-shown x y z a b c p q r =
    ap (λ t. range_by t (exp_tree y.value) (exp_tree z.value)) p ∙ ap (λ t. range_by a t (exp_tree z.value)) q ∙ ap (range_by a b) r

pub levels-range_by : (a b c : ExpTree) → levels (range_by a b c) ≡ suc (max (levels a) (max (levels b) (levels c)))
unfolding levels
levels-range_by a b c = refl

pub if_then-shown : (bs : Vec (Exp × Exp) Global) (ts : ExpBranches) → branches_of bs.items ≡ ts → exp_tree (e.If bs None) ≡ if_then ts
if_then-shown bs ts p = if_then-tree bs ∙ ap if_then p

pub levels-if_then : (ts : ExpBranches) → levels (if_then ts) ≡ suc (levels_of_branches ts)
unfolding levels
levels-if_then ts = refl

pub if_else-shown : (bs : Vec (Exp × Exp) Global) (x : Box Exp Global) (ts : ExpBranches) (a : ExpTree) → branches_of bs.items ≡ ts
    → exp_tree x.value ≡ a → exp_tree (e.If bs (Some x)) ≡ if_else ts a
if_else-shown bs x ts a p q = if_else-tree bs x ∙ ap (λ t. if_else t (exp_tree x.value)) p ∙ ap (if_else ts) q

pub levels-if_else : (ts : ExpBranches) (a : ExpTree) → levels (if_else ts a) ≡ suc (max (levels_of_branches ts) (levels a))
unfolding levels
levels-if_else ts a = refl

pub deep-left : (a b n : ℕ) → n ≡ suc (max a b) → most_levels < a → most_levels < n
deep-left a b n p h = omega arith

pub deep-right : (a b n : ℕ) → n ≡ suc (max a b) → most_levels < b → most_levels < n
deep-right a b n p h = omega arith

pub atom_is : (x : Exp) (n : List ℕ) → x ≡ e.Atom n → true ≡ is_atom (exp_tree x)
unfolding exp_tree
atom_is x n p = rw p refl

pub not_atom : (x : Exp) → ((n : List ℕ) → x ≡ e.Atom n → ⊥) → false ≡ is_atom (exp_tree x)
unfolding exp_tree held_tree
not_atom (e.Var n) h = refl
not_atom (e.Int n) h = refl
not_atom (e.Atom n) h = absurd (h n refl)
not_atom (e.Str n) h = refl
not_atom (e.List' place es e.None') h = refl
not_atom (e.List' place es (e.Some' there x)) h = refl
not_atom (e.Array' place es) h = refl
not_atom (e.Call' n place es) h = refl
not_atom (e.Quote' place x) h = refl
not_atom (e.Index' place x places es) h = refl
not_atom (e.Range' place x e.None' places y) h = refl
not_atom (e.Range' place x (e.Some' there z) places y) h = refl
not_atom (e.At' n place x) h = refl
not_atom (e.Collect' b place x places es) h = refl
not_atom (e.And' place es) h = refl
not_atom (e.Or' place es) h = refl
not_atom (e.Arrow' place x places y) h = refl
not_atom (e.If' place bs e.None') h = refl
not_atom (e.If' place bs (e.Some' there x)) h = refl
not_atom (e.Foreach' place es places x) h = refl
not_atom (e.While' place x places y) h = refl
not_atom (e.DoWhile' place x places y) h = refl

pub deep_is_no_atom : (a : ExpTree) → most_levels < levels a → false ≡ is_atom a
unfolding levels
deep_is_no_atom (atom n) h = absurd (omega arith)
deep_is_no_atom _ h = refl

suc_is_no_zero : (k n : ℕ) → n ≡ suc k → (n == 0) ≡ false
suc_is_no_zero k n p = grind (arith, nat_tests)

pub empty_is : (xs : List Exp) (n : ℕ) (es : ExpTrees) → n ≡ length xs → trees_of xs ≡ es → (n == 0) ≡ is_none es
empty_is [] n es p q = rw (p, sym q) refl
empty_is (x ∷ xs) n es p q = rw (sym q) (suc_is_no_zero (length xs) n p)

pub deep_is_not_none : (es : ExpTrees) → most_levels < levels_all es → false ≡ is_none es
unfolding levels levels_all
deep_is_not_none no_exps h = absurd (omega arith)
deep_is_not_none (exp_before x es) h = refl
