-- What stands below a node, put on top of a stack from the last to the first.
use Rattle.std.proofs.Common.{◌≡◌, ℕ, ℤ, Bool, true, false, suc, List, [], ◌∷◌, ◌++◌, length, drop, None, Some, refl, ap, sym, ◌∙◌, append_assoc}
use Rattle.std.specs.Prelude.{Vec, Option, option_map}
use Rattle.std.specs.Borrow.{Bor}
use Rattle.std.proofs.lemmas.List.{append-nil}
use Rattle.std.specs.declared.alloc.Global.{Global}
use Rattle.std.specs.declared.boxed.Box.{Box}
use Rattle.pi_syntax.specs.ExpTree.{ExpTree, var, int, atom, str, list_before, range_with, if_with, array, call, quote, index, at, collect, and, or, arrow, foreach, while_do, do_while, ExpTrees, ExpBranches, exp_tree}
use Rattle.pi_syntax.specs.ExpLists.{exps_of}
use Rattle.pi_syntax.specs.ProgramTree.{rule, function, rule_tree, function_tree, cond_between, cond_behind, body_behind, written_clause}
use Rattle.pi_syntax.specs.Signature.{exp_count}
use Rattle.pi_syntax.specs.declared.exp.Exp as e
use Rattle.pi_syntax.specs.declared.exp.Exp.{Exp}
use Rattle.pi_syntax.specs.declared.program.Clause.{Clause}
use Rattle.pi_syntax.specs.declared.program.FunctionClause.{FunctionClause}
use Rattle.pi_syntax.specs.declared.program.RuleClause.{RuleClause}
use Rattle.pi_syntax.proofs.ExpListLemmas.{exp_count-exps_of}
use Rattle.pi_prog_clauses.specs.Places.{Place, goal, expression, iterator, pattern, inside, quoted, body, test, argument, Placed, placed, below, all_placed, arguments_placed, branches_placed, placed_if, clause_placed, head_placed}
use Rattle.pi_prog_clauses.specs.Form.{form_of, calling, shown_form}
use Rattle.pi_prog_clauses.specs.Walk.{held_exp, branches_of}
use Rattle.pi_prog_clauses.specs.declared.nodes.form.Form.{Form as CodeForm}
use Rattle.pi_prog_clauses.specs.declared.nodes.form.Form.TheVariants as code
use Rattle.pi_prog_clauses.proofs.clause.ExpTreeLemmas.{list-tree, array-tree, call-tree, index-tree, range-tree, collect-tree, and-tree, or-tree, if-tree, foreach-tree}

-- ---- what stands below a node

-- two are put on top, the first one last
join : (first second old mid new : List Placed) → mid ≡ second ++ old → new ≡ first ++ mid → new ≡ (first ++ second) ++ old
join first second old mid new h k = k ∙ ap (λ ps. first ++ ps) h ∙ sym (append_assoc first second old)

-- below what the tree of an expression is
below_tree : (p : Place) (x : Exp) (e : ExpTree) (old new : List Placed) → exp_tree x ≡ e → new ≡ below p e ++ old → new ≡ below p (exp_tree x) ++ old
below_tree p x e old new is h = h ∙ ap (λ t. below p t ++ old) (sym is)

pub below-leaf : (p : Place) (x : Exp) (e : ExpTree) (ps : List Placed) → exp_tree x ≡ e → below p e ≡ [] → ps ≡ below p (exp_tree x) ++ ps
below-leaf p x e ps is h = ap (λ qs. qs ++ ps) (sym h) ∙ ap (λ t. below p t ++ ps) (sym is)

pub below-var : (p : Place) (x : Exp) (name : List ℕ) (ps : List Placed) → x ≡ e.Var name → ps ≡ below p (exp_tree x) ++ ps
unfolding below exp_tree
below-var p x name ps is = below-leaf p x (var name) ps (ap exp_tree is) refl

pub below-int : (p : Place) (x : Exp) (n : ℤ) (ps : List Placed) → x ≡ e.Int n → ps ≡ below p (exp_tree x) ++ ps
unfolding below exp_tree
below-int p x n ps is = below-leaf p x (int n) ps (ap exp_tree is) refl

pub below-atom : (p : Place) (x : Exp) (name : List ℕ) (ps : List Placed) → x ≡ e.Atom name → ps ≡ below p (exp_tree x) ++ ps
unfolding below exp_tree
below-atom p x name ps is = below-leaf p x (atom name) ps (ap exp_tree is) refl

pub below-str : (p : Place) (x : Exp) (text : List ℕ) (ps : List Placed) → x ≡ e.Str text → ps ≡ below p (exp_tree x) ++ ps
unfolding below exp_tree
below-str p x text ps is = below-leaf p x (str text) ps (ap exp_tree is) refl

-- a list, before the optional tail
list_below : (p : Place) (es : ExpTrees) (tail : Option ExpTree) (old mid new : List Placed)
    → mid ≡ placed_if (inside p) tail ++ old → new ≡ all_placed (inside p) es ++ mid → new ≡ below p (list_before es tail) ++ old
unfolding below
list_below p es None old mid new h k = k ∙ ap (λ ps. all_placed (inside p) es ++ ps) h
list_below p es (Some e) old mid new h k = join (all_placed (inside p) es) (placed (inside p) e) old mid new h k

pub below-list : (p q : Place) (x : Exp) (es : Vec Exp Global) (tail : Option (Box Exp Global)) (xs : List Exp) (old mid new : List Placed)
    → x ≡ e.List es tail → q ≡ inside p → xs ≡ es.items
    → mid ≡ placed_if q (held_exp tail) ++ old → new ≡ all_placed q (exps_of xs) ++ mid → new ≡ below p (exp_tree x) ++ old
below-list p q x es tail xs old mid new is i items h k =
    below_tree p x _ old new (ap exp_tree is ∙ list-tree es tail)
    (list_below p (exps_of es.items) (held_exp tail) old mid new (rw i at h) (rw (i, items) at k))

pub below-array : (p q : Place) (x : Exp) (es : Vec Exp Global) (xs : List Exp) (old new : List Placed)
    → x ≡ e.Array es → q ≡ inside p → xs ≡ es.items → new ≡ all_placed q (exps_of xs) ++ old → new ≡ below p (exp_tree x) ++ old
unfolding below
below-array p q x es xs old new is i items h =
    below_tree p x (array (exps_of es.items)) old new (ap exp_tree is ∙ array-tree es) (rw (i, items) at h)

pub below-call : (p : Place) (x : Exp) (name other : List ℕ) (es : Vec Exp Global) (xs : List Exp) (old new : List Placed)
    → x ≡ e.Call name es → other ≡ name → xs ≡ es.items
    → new ≡ arguments_placed p other (length xs) 0 (exps_of xs) ++ old → new ≡ below p (exp_tree x) ++ old
unfolding below
below-call p x name other es xs old new is same items h =
    below_tree p x (call name (exps_of es.items)) old new (ap exp_tree is ∙ call-tree name es)
    ((rw (same, items) at h) ∙ ap (λ n. arguments_placed p name n 0 (exps_of es.items) ++ old) (sym (exp_count-exps_of es.items)))

pub below-quote : (p q : Place) (x : Exp) (b : Box Exp Global) (old new : List Placed)
    → x ≡ e.Quote b → q ≡ quoted p → new ≡ placed q (exp_tree b.value) ++ old → new ≡ below p (exp_tree x) ++ old
unfolding below exp_tree
below-quote p q x b old new is i h = below_tree p x (quote (exp_tree b.value)) old new (ap exp_tree is) (rw i at h)

pub below-index : (p q : Place) (x : Exp) (b : Box Exp Global) (es : Vec Exp Global) (xs : List Exp) (old mid new : List Placed)
    → x ≡ e.Index b es → q ≡ inside p → xs ≡ es.items
    → mid ≡ all_placed q (exps_of xs) ++ old → new ≡ placed q (exp_tree b.value) ++ mid → new ≡ below p (exp_tree x) ++ old
unfolding below
below-index p q x b es xs old mid new is i items h k =
    below_tree p x (index (exp_tree b.value) (exps_of es.items)) old new (ap exp_tree is ∙ index-tree b es)
    (join (placed (inside p) (exp_tree b.value)) (all_placed (inside p) (exps_of es.items)) old mid new (rw (i, items) at h) (rw i at k))

range_below : (p : Place) (first : ExpTree) (step : Option ExpTree) (last : ExpTree) (old mid later new : List Placed)
    → mid ≡ placed (inside p) last ++ old → later ≡ placed_if (inside p) step ++ mid → new ≡ placed (inside p) first ++ later
    → new ≡ below p (range_with first step last) ++ old
unfolding below
range_below p first None last old mid later new h k l = join (placed (inside p) first) (placed (inside p) last) old later new (k ∙ h) l
range_below p first (Some step) last old mid later new h k l =
    join (placed (inside p) first) (placed (inside p) step ++ placed (inside p) last) old later new
    (join (placed (inside p) step) (placed (inside p) last) old mid later h k) l

pub below-range : (p q : Place) (x : Exp) (first : Box Exp Global) (step : Option (Box Exp Global)) (last : Box Exp Global) (old mid later new : List Placed)
    → x ≡ e.Range first step last → q ≡ inside p
    → mid ≡ placed q (exp_tree last.value) ++ old → later ≡ placed_if q (held_exp step) ++ mid → new ≡ placed q (exp_tree first.value) ++ later
    → new ≡ below p (exp_tree x) ++ old
below-range p q x first step last old mid later new is i h k l =
    below_tree p x _ old new (ap exp_tree is ∙ range-tree first step last)
    (range_below p (exp_tree first.value) (held_exp step) (exp_tree last.value) old mid later new (rw i at h) (rw i at k) (rw i at l))

pub below-at : (p q : Place) (x : Exp) (name : List ℕ) (b : Box Exp Global) (old new : List Placed)
    → x ≡ e.At name b → q ≡ inside p → new ≡ placed q (exp_tree b.value) ++ old → new ≡ below p (exp_tree x) ++ old
unfolding below exp_tree
below-at p q x name b old new is i h = below_tree p x (at name (exp_tree b.value)) old new (ap exp_tree is) (rw i at h)

pub below-collect : (p q : Place) (x : Exp) (is_array : Bool) (b : Box Exp Global) (es : Vec Exp Global) (xs : List Exp) (old mid new : List Placed)
    → x ≡ e.Collect is_array b es → q ≡ inside p → xs ≡ es.items
    → mid ≡ all_placed iterator (exps_of xs) ++ old → new ≡ placed q (exp_tree b.value) ++ mid → new ≡ below p (exp_tree x) ++ old
unfolding below
below-collect p q x is_array b es xs old mid new is i items h k =
    below_tree p x (collect is_array (exp_tree b.value) (exps_of es.items)) old new (ap exp_tree is ∙ collect-tree is_array b es)
    (join (placed (inside p) (exp_tree b.value)) (all_placed iterator (exps_of es.items)) old mid new (rw items at h) (rw i at k))

pub below-and : (p q : Place) (x : Exp) (es : Vec Exp Global) (xs : List Exp) (old new : List Placed)
    → x ≡ e.And es → q ≡ body p → xs ≡ es.items → new ≡ all_placed q (exps_of xs) ++ old → new ≡ below p (exp_tree x) ++ old
unfolding below
below-and p q x es xs old new is i items h =
    below_tree p x (and (exps_of es.items)) old new (ap exp_tree is ∙ and-tree es) (rw (i, items) at h)

pub below-or : (p q : Place) (x : Exp) (es : Vec Exp Global) (xs : List Exp) (old new : List Placed)
    → x ≡ e.Or es → q ≡ body p → xs ≡ es.items → new ≡ all_placed q (exps_of xs) ++ old → new ≡ below p (exp_tree x) ++ old
unfolding below
below-or p q x es xs old new is i items h =
    below_tree p x (or (exps_of es.items)) old new (ap exp_tree is ∙ or-tree es) (rw (i, items) at h)

pub below-arrow : (p q : Place) (x : Exp) (c b : Box Exp Global) (old mid new : List Placed)
    → x ≡ e.Arrow c b → q ≡ body p → mid ≡ placed q (exp_tree b.value) ++ old → new ≡ placed test (exp_tree c.value) ++ mid → new ≡ below p (exp_tree x) ++ old
unfolding below exp_tree
below-arrow p q x c b old mid new is i h k =
    below_tree p x (arrow (exp_tree c.value) (exp_tree b.value)) old new (ap exp_tree is)
    (join (placed test (exp_tree c.value)) (placed (body p) (exp_tree b.value)) old mid new (rw i at h) k)

pub below-while_do : (p q : Place) (x : Exp) (c b : Box Exp Global) (old mid new : List Placed)
    → x ≡ e.While c b → q ≡ body p → mid ≡ placed q (exp_tree b.value) ++ old → new ≡ placed test (exp_tree c.value) ++ mid → new ≡ below p (exp_tree x) ++ old
unfolding below exp_tree
below-while_do p q x c b old mid new is i h k =
    below_tree p x (while_do (exp_tree c.value) (exp_tree b.value)) old new (ap exp_tree is)
    (join (placed test (exp_tree c.value)) (placed (body p) (exp_tree b.value)) old mid new (rw i at h) k)

pub below-do_while : (p q : Place) (x : Exp) (b c : Box Exp Global) (old mid new : List Placed)
    → x ≡ e.DoWhile b c → q ≡ body p → mid ≡ placed test (exp_tree c.value) ++ old → new ≡ placed q (exp_tree b.value) ++ mid → new ≡ below p (exp_tree x) ++ old
unfolding below exp_tree
below-do_while p q x b c old mid new is i h k =
    below_tree p x (do_while (exp_tree b.value) (exp_tree c.value)) old new (ap exp_tree is)
    (join (placed (body p) (exp_tree b.value)) (placed test (exp_tree c.value)) old mid new h (rw i at k))

if_below : (p : Place) (bs : ExpBranches) (last : Option ExpTree) (old mid new : List Placed)
    → mid ≡ placed_if (body p) last ++ old → new ≡ branches_placed p bs ++ mid → new ≡ below p (if_with bs last) ++ old
unfolding below
if_below p bs None old mid new h k = k ∙ ap (λ ps. branches_placed p bs ++ ps) h
if_below p bs (Some e) old mid new h k = join (branches_placed p bs) (placed (body p) e) old mid new h k

pub below-if : (p q : Place) (x : Exp) (bs : Vec (Exp × Exp) Global) (last : Option (Box Exp Global)) (ys : List (Exp × Exp)) (old mid new : List Placed)
    → x ≡ e.If bs last → q ≡ body p → ys ≡ bs.items
    → mid ≡ placed_if q (held_exp last) ++ old → new ≡ branches_placed p (branches_of ys) ++ mid → new ≡ below p (exp_tree x) ++ old
below-if p q x bs last ys old mid new is i items h k =
    below_tree p x _ old new (ap exp_tree is ∙ if-tree bs last)
    (if_below p (branches_of bs.items) (held_exp last) old mid new (rw i at h) (rw items at k))

pub below-foreach : (p q : Place) (x : Exp) (es : Vec Exp Global) (b : Box Exp Global) (xs : List Exp) (old mid new : List Placed)
    → x ≡ e.Foreach es b → q ≡ body p → xs ≡ es.items
    → mid ≡ placed q (exp_tree b.value) ++ old → new ≡ all_placed iterator (exps_of xs) ++ mid → new ≡ below p (exp_tree x) ++ old
unfolding below
below-foreach p q x es b xs old mid new is i items h k =
    below_tree p x (foreach (exps_of es.items) (exp_tree b.value)) old new (ap exp_tree is ∙ foreach-tree es b)
    (join (all_placed iterator (exps_of es.items)) (placed (body p) (exp_tree b.value)) old mid new (rw i at h) (rw items at k))

-- ---- one more of a list, from the back

pub all-more : (p : Place) (xs : List Exp) (i j : ℕ) (x : Exp) (start old new : List Placed) → drop i xs ≡ x ∷ drop j xs
    → old ≡ all_placed p (exps_of (drop j xs)) ++ start → new ≡ placed p (exp_tree x) ++ old → new ≡ all_placed p (exps_of (drop i xs)) ++ start
unfolding all_placed
all-more p xs i j x start old new here_is h k =
    rw here_is (k ∙ ap (λ ps. placed p (exp_tree x) ++ ps) h ∙ sym (append_assoc (placed p (exp_tree x)) (all_placed p (exps_of (drop j xs))) start))

pub arguments-more : (p q : Place) (name : List ℕ) (n : ℕ) (xs : List Exp) (i j : ℕ) (x : Exp) (start old new : List Placed) → drop i xs ≡ x ∷ drop j xs → j ≡ suc i
    → q ≡ argument p name n i
    → old ≡ arguments_placed p name n j (exps_of (drop j xs)) ++ start → new ≡ placed q (exp_tree x) ++ old → new ≡ arguments_placed p name n i (exps_of (drop i xs)) ++ start
unfolding arguments_placed
arguments-more p q name n xs i j x start old new here_is next there h k =
    let more : old ≡ arguments_placed p name n (suc i) (exps_of (drop j xs)) ++ start = h ∙ ap (λ m. arguments_placed p name n m (exps_of (drop j xs)) ++ start) next in
    let here : new ≡ placed (argument p name n i) (exp_tree x) ++ old = k ∙ ap (λ r. placed r (exp_tree x) ++ old) there in
    rw here_is (here ∙ ap (λ ps. placed (argument p name n i) (exp_tree x) ++ ps) more
    ∙ sym (append_assoc (placed (argument p name n i) (exp_tree x)) (arguments_placed p name n (suc i) (exps_of (drop j xs))) start))

pub branches-more : (p q : Place) (bs : List (Exp × Exp)) (i j : ℕ) (b : Exp × Exp) (start old mid new : List Placed) → drop i bs ≡ b ∷ drop j bs
    → q ≡ body p → old ≡ branches_placed p (branches_of (drop j bs)) ++ start
    → mid ≡ placed q (exp_tree b.1) ++ old → new ≡ placed test (exp_tree b.0) ++ mid → new ≡ branches_placed p (branches_of (drop i bs)) ++ start
unfolding branches_placed
branches-more p q bs i j b start old mid new here_is there h k l =
    let rest = branches_placed p (branches_of (drop j bs)) in
    let second : mid ≡ (placed (body p) (exp_tree b.1) ++ rest) ++ start = join (placed (body p) (exp_tree b.1)) rest start old mid h (rw there at k) in
    rw here_is (join (placed test (exp_tree b.0)) (placed (body p) (exp_tree b.1) ++ rest) start mid new second l)

-- ---- none of a list yet

pub all_none : (p : Place) (xs : List Exp) (i : ℕ) (ps : List Placed) → drop i xs ≡ [] → ps ≡ all_placed p (exps_of (drop i xs)) ++ ps
unfolding all_placed
all_none p xs i ps h = rw h refl

pub arguments_none : (p : Place) (name : List ℕ) (n k : ℕ) (xs : List Exp) (i : ℕ) (ps : List Placed) → drop i xs ≡ []
    → ps ≡ arguments_placed p name n k (exps_of (drop i xs)) ++ ps
unfolding arguments_placed
arguments_none p name n k xs i ps h = rw h refl

pub branches_none : (p : Place) (bs : List (Exp × Exp)) (i : ℕ) (ps : List Placed) → drop i bs ≡ [] → ps ≡ branches_placed p (branches_of (drop i bs)) ++ ps
unfolding branches_placed
branches_none p bs i ps h = rw h refl

-- ---- what may be missing

pub optional-some : (p : Place) (exp : Option Exp) (x : Exp) (old new : List Placed) → exp ≡ Some x → new ≡ placed p (exp_tree x) ++ old → new ≡ placed_if p (option_map exp_tree exp) ++ old
optional-some p exp x old new is h = h ∙ ap (λ o. placed_if p (option_map exp_tree o) ++ old) (sym is)

pub held-some : (p : Place) (exp : Option (Box Exp Global)) (b : Box Exp Global) (old new : List Placed) → exp ≡ Some b → new ≡ placed p (exp_tree b.value) ++ old → new ≡ placed_if p (held_exp exp) ++ old
held-some p exp b old new is h = h ∙ ap (λ o. placed_if p (held_exp o) ++ old) (sym is)

-- ---- of a clause

pub clause-rule : (r : RuleClause) (old mid new : List Placed) → mid ≡ placed (goal true) (exp_tree r.body) ++ old → new ≡ placed_if test (option_map exp_tree (cond_between r.between)) ++ mid
    → new ≡ clause_placed (rule (rule_tree r)) ++ old
clause-rule r old mid new h k = join (placed_if test (option_map exp_tree (cond_between r.between))) (placed (goal true) (exp_tree r.body)) old mid new h k

pub clause-function : (f : FunctionClause) (old mid later new : List Placed) → mid ≡ placed_if (goal true) (option_map exp_tree (body_behind f.behind)) ++ old → later ≡ placed_if test (option_map exp_tree (cond_behind f.behind)) ++ mid
    → new ≡ placed expression (exp_tree f.value) ++ later → new ≡ clause_placed (function (function_tree f)) ++ old
clause-function f old mid later new h k l =
    let cond : List Placed = placed_if test (option_map exp_tree (cond_behind f.behind)) in
    let end : List Placed = placed_if (goal true) (option_map exp_tree (body_behind f.behind)) in
    join (placed expression (exp_tree f.value)) (cond ++ end) old later new (join cond end old mid later h k) l

pub clause-fact : (c : Clause) (head : Box Exp Global) (ps : List Placed) → c ≡ Clause.Fact head → ps ≡ clause_placed (written_clause c) ++ ps
clause-fact c head ps is = ap (λ w. clause_placed (written_clause w) ++ ps) (sym is)

-- ---- of a head

pub head_arguments : (e : ExpTree) (name : List ℕ) (n : ℕ) (es : ExpTrees) (old new : List Placed) → calling name n es ≡ form_of e → old ≡ []
    → new ≡ all_placed (pattern false) es ++ old → new ≡ head_placed e
head_arguments (call name es) other n others old new of none h =
    h ∙ ap (λ ps. all_placed (pattern false) others ++ ps) none ∙ append-nil (all_placed (pattern false) others) ∙ ap (all_placed (pattern false)) (same_arguments other name n (exp_count es) others es of)
  where
    same_arguments : (a b : List ℕ) (m n : ℕ) (xs ys : ExpTrees) → calling a m xs ≡ calling b n ys → xs ≡ ys
    same_arguments a b m n xs ys h = cc
head_arguments _ other n es old new of none h = absurd (cc)

no_call_here : (f : CodeForm) (name : List ℕ) (n : ℕ) (es : ExpTrees) → shown_form f ≡ calling name n es
    → ((m : Bor (List ℕ)) (k : ℕ) (xs : Bor (List Exp)) → f ≡ code.Call m k xs → ⊥) → ⊥
no_call_here (code.Call m k xs) name n es h other = other m k xs refl
no_call_here _ name n es h other = cc

pub head_without : (f : CodeForm) (e : ExpTree) (ps : List Placed) → shown_form f ≡ form_of e
    → ((m : Bor (List ℕ)) (k : ℕ) (xs : Bor (List Exp)) → f ≡ code.Call m k xs → ⊥) → ps ≡ [] → ps ≡ head_placed e
head_without f (call name es) ps of other none = absurd (no_call_here f name _ _ of other)
head_without f _ ps of other none = none
