-- The tree of an expression by its kind, over the parts that code has taken out of it.
use Rattle.std.proofs.Common.{◌≡◌, ℕ, Bool, List, None, Some, refl, sym, ◌∙◌, ap}
use Rattle.std.specs.Prelude.{Vec, Option}
use Rattle.std.specs.declared.alloc.Global.{Global}
use Rattle.std.specs.declared.boxed.Box.{Box}
use Rattle.pi_syntax.specs.ExpTree.{ExpTree, ExpTrees, no_exps, exp_tree}
use Rattle.pi_syntax.specs.ExpLists.{exps_of}
use Rattle.pi_syntax.specs.declared.exp.Exp as e
use Rattle.pi_syntax.specs.declared.exp.Exp.{Exp}
use Rattle.pi_rewrite_slots.specs.Branches.{branches_in}
use Rattle.pi_rewrite_slots.proofs.ExpTrees.{list-is, list_onto-is, array-is, call-is, index-is, range-is, range_by-is, and-is, or-is, if_then-is, if_else-is}

pub atom-now : (x : Exp) (name : List ℕ) → x ≡ e.Atom name → exp_tree x ≡ ExpTree.atom name
unfolding exp_tree
atom-now x name p = ap exp_tree p

pub list-now : (x : Exp) (es : Vec Exp Global) (tail : Option (Box Exp Global)) (now : List Exp) → x ≡ e.List es tail → tail ≡ None → now ≡ es.items → exp_tree x ≡ ExpTree.list (exps_of now)
list-now x es tail now p q s = list-is x es tail p q ∙ ap (λ xs. ExpTree.list (exps_of xs)) (sym s)

pub onto-now : (x : Exp) (es : Vec Exp Global) (tail : Option (Box Exp Global)) (b : Box Exp Global) (now : List Exp) (y : Exp) → x ≡ e.List es tail → tail ≡ Some b → now ≡ es.items → y ≡ b.value →
    exp_tree x ≡ ExpTree.list_onto (exps_of now) (exp_tree y)
onto-now x es tail b now y p q s u =
    list_onto-is x es tail b p q ∙ (ap (λ xs. ExpTree.list_onto (exps_of xs) (exp_tree b.value)) (sym s) ∙ ap (λ z. ExpTree.list_onto (exps_of now) (exp_tree z)) (sym u))

pub array-now : (x : Exp) (es : Vec Exp Global) (now : List Exp) → x ≡ e.Array es → now ≡ es.items → exp_tree x ≡ ExpTree.array (exps_of now)
array-now x es now p s = array-is x es p ∙ ap (λ xs. ExpTree.array (exps_of xs)) (sym s)

pub call-now : (x : Exp) (name : List ℕ) (es : Vec Exp Global) (now : List Exp) → x ≡ e.Call name es → now ≡ es.items → exp_tree x ≡ ExpTree.call name (exps_of now)
call-now x name es now p s = call-is x name es p ∙ ap (λ xs. ExpTree.call name (exps_of xs)) (sym s)

pub quote-now : (x : Exp) (b : Box Exp Global) (y : Exp) → x ≡ e.Quote b → y ≡ b.value → exp_tree x ≡ ExpTree.quote (exp_tree y)
unfolding exp_tree
quote-now x b y p u = ap exp_tree p ∙ ap (λ z. ExpTree.quote (exp_tree z)) (sym u)

pub index-now : (x : Exp) (of : Box Exp Global) (es : Vec Exp Global) (now : List Exp) (y : Exp) → x ≡ e.Index of es → now ≡ es.items → y ≡ of.value → exp_tree x ≡ ExpTree.index (exp_tree y) (exps_of now)
index-now x of es now y p s u =
    index-is x of es p ∙ (ap (λ xs. ExpTree.index (exp_tree of.value) (exps_of xs)) (sym s) ∙ ap (λ z. ExpTree.index (exp_tree z) (exps_of now)) (sym u))

pub range-now : (x : Exp) (first : Box Exp Global) (step : Option (Box Exp Global)) (last : Box Exp Global) (a c : Exp) → x ≡ e.Range first step last → step ≡ None → a ≡ first.value → c ≡ last.value →
    exp_tree x ≡ ExpTree.range (exp_tree a) (exp_tree c)
range-now x first step last a c p q s u =
    range-is x first step last p q ∙ (ap (λ z. ExpTree.range (exp_tree z) (exp_tree last.value)) (sym s) ∙ ap (λ z. ExpTree.range (exp_tree a) (exp_tree z)) (sym u))

pub range_by-now : (x : Exp) (first : Box Exp Global) (step : Option (Box Exp Global)) (last b : Box Exp Global) (a y c : Exp) → x ≡ e.Range first step last → step ≡ Some b → a ≡ first.value → y ≡ b.value → c ≡ last.value →
    exp_tree x ≡ ExpTree.range_by (exp_tree a) (exp_tree y) (exp_tree c)
range_by-now x first step last b a y c p q s t u =
    range_by-is x first step last b p q
    ∙ (ap (λ z. ExpTree.range_by (exp_tree z) (exp_tree b.value) (exp_tree last.value)) (sym s)
    ∙ (ap (λ z. ExpTree.range_by (exp_tree a) (exp_tree z) (exp_tree last.value)) (sym t) ∙ ap (λ z. ExpTree.range_by (exp_tree a) (exp_tree y) (exp_tree z)) (sym u)))

pub at-now : (x : Exp) (name : List ℕ) (b : Box Exp Global) (y : Exp) → x ≡ e.At name b → y ≡ b.value → exp_tree x ≡ ExpTree.at name (exp_tree y)
unfolding exp_tree
at-now x name b y p u = ap exp_tree p ∙ ap (λ z. ExpTree.at name (exp_tree z)) (sym u)

pub and-now : (x : Exp) (es : Vec Exp Global) (now : List Exp) → x ≡ e.And es → now ≡ es.items → exp_tree x ≡ ExpTree.and (exps_of now)
and-now x es now p s = and-is x es p ∙ ap (λ xs. ExpTree.and (exps_of xs)) (sym s)

pub or-now : (x : Exp) (es : Vec Exp Global) (now : List Exp) → x ≡ e.Or es → now ≡ es.items → exp_tree x ≡ ExpTree.or (exps_of now)
or-now x es now p s = or-is x es p ∙ ap (λ xs. ExpTree.or (exps_of xs)) (sym s)

pub arrow-now : (x : Exp) (a b : Box Exp Global) (y z : Exp) → x ≡ e.Arrow a b → y ≡ a.value → z ≡ b.value → exp_tree x ≡ ExpTree.arrow (exp_tree y) (exp_tree z)
unfolding exp_tree
arrow-now x a b y z p s u = ap exp_tree p ∙ (ap (λ w. ExpTree.arrow (exp_tree w) (exp_tree b.value)) (sym s) ∙ ap (λ w. ExpTree.arrow (exp_tree y) (exp_tree w)) (sym u))

pub if_then-now : (x : Exp) (bs : Vec (Exp × Exp) Global) (last : Option (Box Exp Global)) (now : List (Exp × Exp)) → x ≡ e.If bs last → last ≡ None → now ≡ bs.items → exp_tree x ≡ ExpTree.if_then (branches_in now)
if_then-now x bs last now p q s = if_then-is x bs last p q ∙ ap (λ xs. ExpTree.if_then (branches_in xs)) (sym s)

pub if_else-now : (x : Exp) (bs : Vec (Exp × Exp) Global) (last : Option (Box Exp Global)) (b : Box Exp Global) (now : List (Exp × Exp)) (y : Exp) → x ≡ e.If bs last → last ≡ Some b → now ≡ bs.items → y ≡ b.value →
    exp_tree x ≡ ExpTree.if_else (branches_in now) (exp_tree y)
if_else-now x bs last b now y p q s u =
    if_else-is x bs last b p q ∙ (ap (λ xs. ExpTree.if_else (branches_in xs) (exp_tree b.value)) (sym s) ∙ ap (λ z. ExpTree.if_else (branches_in now) (exp_tree z)) (sym u))

-- ---- loops

abbrev items_of : ExpTree → ExpTrees
items_of (ExpTree.and es) = es
items_of e = no_exps

row-is : (es : Vec Exp Global) → items_of (exp_tree (e.And es)) ≡ exps_of es.items
row-is es = ap items_of (and-is (e.And es) es refl)

pub foreach-now : (x : Exp) (es : Vec Exp Global) (b : Box Exp Global) (now : List Exp) (y : Exp) → x ≡ e.Foreach es b → now ≡ es.items → y ≡ b.value → exp_tree x ≡ ExpTree.foreach (exps_of now) (exp_tree y)
unfolding exp_tree
foreach-now x es b now y p s u =
    ap exp_tree p ∙ (ap (λ ts. ExpTree.foreach ts (exp_tree b.value)) (row-is es ∙ ap exps_of (sym s)) ∙ ap (λ z. ExpTree.foreach (exps_of now) (exp_tree z)) (sym u))

pub collect-now : (x : Exp) (is_array : Bool) (b : Box Exp Global) (es : Vec Exp Global) (now : List Exp) (y : Exp) → x ≡ e.Collect is_array b es → now ≡ es.items → y ≡ b.value → exp_tree x ≡ ExpTree.collect is_array (exp_tree y) (exps_of now)
unfolding exp_tree
collect-now x is_array b es now y p s u =
    ap exp_tree p ∙ (ap (λ ts. ExpTree.collect is_array (exp_tree b.value) ts) (row-is es ∙ ap exps_of (sym s)) ∙ ap (λ z. ExpTree.collect is_array (exp_tree z) (exps_of now)) (sym u))

pub while-now : (x : Exp) (a b : Box Exp Global) (y z : Exp) → x ≡ e.While a b → y ≡ a.value → z ≡ b.value → exp_tree x ≡ ExpTree.while_do (exp_tree y) (exp_tree z)
unfolding exp_tree
while-now x a b y z p s u = ap exp_tree p ∙ (ap (λ w. ExpTree.while_do (exp_tree w) (exp_tree b.value)) (sym s) ∙ ap (λ w. ExpTree.while_do (exp_tree y) (exp_tree w)) (sym u))

pub do-now : (x : Exp) (a b : Box Exp Global) (y z : Exp) → x ≡ e.DoWhile a b → y ≡ a.value → z ≡ b.value → exp_tree x ≡ ExpTree.do_while (exp_tree y) (exp_tree z)
unfolding exp_tree
do-now x a b y z p s u = ap exp_tree p ∙ (ap (λ w. ExpTree.do_while (exp_tree w) (exp_tree b.value)) (sym s) ∙ ap (λ w. ExpTree.do_while (exp_tree y) (exp_tree w)) (sym u))
