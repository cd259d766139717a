-- What an expression is as a term and as a pattern, by its kind.
use Rattle.std.proofs.Common.{◌≡◌, ℕ, suc, Bool, List, [], ◌∷◌, ◌++◌, length, None, Some, refl, sym, ◌∙◌, ap, append_assoc}
use Rattle.std.proofs.lemmas.List.{append-nil}
use Rattle.std.specs.Prelude.{Vec, Option, codes}
use Rattle.std.specs.declared.alloc.Global.{Global}
use Rattle.std.specs.declared.boxed.Box.{Box}
use Rattle.pi_terms.specs.Tree.{Tree, no_trees, tree, trees_of, tree_count}
use Rattle.pi_terms.specs.ListNames.{nil}
use Rattle.pi_terms.specs.TermCells.{flat}
use Rattle.pi_terms.specs.BareCells.{bare, bare_all}
use Rattle.pi_terms.specs.declared.term.TermCell.{TermCell}
use Rattle.pi_syntax.specs.PrintTerm.{array_name}
use Rattle.pi_syntax.specs.ExpTree.{exp_tree, held_tree}
use Rattle.pi_syntax.specs.ExpLists.{exps_of}
use Rattle.pi_syntax.specs.declared.exp.Exp as e
use Rattle.pi_syntax.specs.declared.exp.Exp.{Exp}
use Rattle.pi_effects.specs.Texts.{text_list}
use Rattle.pi_meaning.specs.OverNames.Terms.{items_onto}
use Rattle.pi_rewrite_spec.specs.Slots.{SlotNames, slot_for, slots_for}
use Rattle.pi_rewrite_spec.specs.Values.{SlotTerm, SlotTerms, slot_term, slot_terms, constant, made_of, made_onto, before_terms, no_terms}
use Rattle.pi_rewrite_slots.specs.ItemCells.{item_cells}
use Rattle.pi_rewrite_slots.proofs.ExpTrees.{list-is, list_onto-is, array-is, call-is, range-is, range_by-is}
use Rattle.pi_rewrite_slots.proofs.TermLemmas.{bare-items, bare-comp, bare-atom, bare_all-cons, bare_all-none}

-- ---- the term that an expression is

pub term-list : (x : Exp) (es : Vec Exp Global) (tail : Option (Box Exp Global)) (now : List Exp) (ns : SlotNames) → x ≡ e.List es tail → tail ≡ None → now ≡ es.items →
    slot_term (exp_tree x) ns ≡ made_of (λ ts. items_onto ts (Tree.atom nil)) (slot_terms (exps_of now) ns)
unfolding slot_term
term-list x es tail now ns p q s = ap (λ t. slot_term t ns) (list-is x es tail p q) ∙ ap (λ xs. made_of (λ ts. items_onto ts (Tree.atom nil)) (slot_terms (exps_of xs) ns)) (sym s)

pub term-onto : (x : Exp) (es : Vec Exp Global) (tail : Option (Box Exp Global)) (b : Box Exp Global) (now : List Exp) (y : Exp) (ns m : SlotNames) → x ≡ e.List es tail → tail ≡ Some b → now ≡ es.items → y ≡ b.value →
    m ≡ (slot_terms (exps_of now) ns).names → slot_term (exp_tree x) ns ≡ made_onto (slot_terms (exps_of now) ns) (slot_term (exp_tree y) m)
unfolding slot_term
term-onto x es tail b now y ns m p q s u v =
    ap (λ t. slot_term t ns) (list_onto-is x es tail b p q) ∙ (ap (λ xs. made_onto (slot_terms (exps_of xs) ns) (slot_term (exp_tree b.value) (slot_terms (exps_of xs) ns).names)) (sym s)
    ∙ (ap (λ z. made_onto (slot_terms (exps_of now) ns) (slot_term (exp_tree z) (slot_terms (exps_of now) ns).names)) (sym u)
    ∙ ap (λ ms. made_onto (slot_terms (exps_of now) ns) (slot_term (exp_tree y) ms)) (sym v)))

pub term-array : (x : Exp) (es : Vec Exp Global) (now : List Exp) (ns : SlotNames) → x ≡ e.Array es → now ≡ es.items → slot_term (exp_tree x) ns ≡ made_of (Tree.comp array_name) (slot_terms (exps_of now) ns)
unfolding slot_term
term-array x es now ns p s = ap (λ t. slot_term t ns) (array-is x es p) ∙ ap (λ xs. made_of (Tree.comp array_name) (slot_terms (exps_of xs) ns)) (sym s)

pub term-call : (x : Exp) (name : List ℕ) (es : Vec Exp Global) (now : List Exp) (ns : SlotNames) → x ≡ e.Call name es → now ≡ es.items → slot_term (exp_tree x) ns ≡ made_of (Tree.comp name) (slot_terms (exps_of now) ns)
unfolding slot_term
term-call x name es now ns p s = ap (λ t. slot_term t ns) (call-is x name es p) ∙ ap (λ xs. made_of (Tree.comp name) (slot_terms (exps_of xs) ns)) (sym s)

pub term-quote : (x : Exp) (b : Box Exp Global) (y : Exp) (ns : SlotNames) → x ≡ e.Quote b → y ≡ b.value → slot_term (exp_tree x) ns ≡ slot_term (exp_tree y) ns
unfolding slot_term exp_tree
term-quote x b y ns p s = ap (λ z. slot_term (exp_tree z) ns) p ∙ ap (λ z. slot_term (exp_tree z) ns) (sym s)

abbrev pub two_terms : SlotTerm → SlotTerm → SlotTerm
two_terms a b = made_of (Tree.comp (codes "..")) (before_terms a (before_terms b (no_terms b.names)))

abbrev pub three_terms : SlotTerm → SlotTerm → SlotTerm → SlotTerm
three_terms a b c = made_of (Tree.comp (codes "..")) (before_terms a (before_terms b (before_terms c (no_terms c.names))))

pub term-range : (x : Exp) (first : Box Exp Global) (step : Option (Box Exp Global)) (last : Box Exp Global) (a b : Exp) (ns m : SlotNames) → x ≡ e.Range first step last → step ≡ None → a ≡ first.value → b ≡ last.value →
    m ≡ (slot_term (exp_tree a) ns).names → slot_term (exp_tree x) ns ≡ two_terms (slot_term (exp_tree a) ns) (slot_term (exp_tree b) m)
unfolding slot_term
term-range x first step last a b ns m p q s u v =
    ap (λ t. slot_term t ns) (range-is x first step last p q)
    ∙ (ap (λ z. two_terms (slot_term (exp_tree z) ns) (slot_term (exp_tree last.value) (slot_term (exp_tree z) ns).names)) (sym s)
    ∙ (ap (λ z. two_terms (slot_term (exp_tree a) ns) (slot_term (exp_tree z) (slot_term (exp_tree a) ns).names)) (sym u)
    ∙ ap (λ ms. two_terms (slot_term (exp_tree a) ns) (slot_term (exp_tree b) ms)) (sym v)))

pub term-range_by : (x : Exp) (first : Box Exp Global) (step : Option (Box Exp Global)) (last c : Box Exp Global) (a b d : Exp) (ns m n : SlotNames) → x ≡ e.Range first step last → step ≡ Some c → a ≡ first.value → b ≡ c.value → d ≡ last.value →
    m ≡ (slot_term (exp_tree a) ns).names → n ≡ (slot_term (exp_tree b) m).names → slot_term (exp_tree x) ns ≡ three_terms (slot_term (exp_tree a) ns) (slot_term (exp_tree b) m) (slot_term (exp_tree d) n)
unfolding slot_term
term-range_by x first step last c a b d ns m n p q s t u v w =
    ap (λ z. slot_term z ns) (range_by-is x first step last c p q)
    ∙ (ap (λ z. let one : SlotTerm = slot_term (exp_tree z) ns in let two : SlotTerm = slot_term (exp_tree c.value) one.names in three_terms one two (slot_term (exp_tree last.value) two.names)) (sym s)
    ∙ (ap (λ z. let two : SlotTerm = slot_term (exp_tree z) (slot_term (exp_tree a) ns).names in three_terms (slot_term (exp_tree a) ns) two (slot_term (exp_tree last.value) two.names)) (sym t)
    ∙ (ap (λ z. let two : SlotTerm = slot_term (exp_tree b) (slot_term (exp_tree a) ns).names in three_terms (slot_term (exp_tree a) ns) two (slot_term (exp_tree z) two.names)) (sym u)
    ∙ (ap (λ ms. let two : SlotTerm = slot_term (exp_tree b) ms in three_terms (slot_term (exp_tree a) ns) two (slot_term (exp_tree d) two.names)) (sym v)
    ∙ ap (λ ms. three_terms (slot_term (exp_tree a) ns) (slot_term (exp_tree b) m) (slot_term (exp_tree d) ms)) (sym w)))))

-- ---- its cells

pub count-terms : (es : List Exp) (ns : SlotNames) → tree_count (trees_of (slot_terms (exps_of es) ns).trees) ≡ length es
unfolding slot_terms tree_count
count-terms [] ns = refl
count-terms (x ∷ es) ns = ap suc (count-terms es (slot_term (exp_tree x) ns).names)

pub cells-comp : (t : SlotTerm) (name label : List ℕ) (es : List Exp) (ns : SlotNames) (k : ℕ) (old mid new : List TermCell) → t ≡ made_of (Tree.comp name) (slot_terms (exps_of es) ns) → label ≡ name → k ≡ length es → mid ≡ old ++ TermCell.Comp label k 0 ∷ [] →
    new ≡ mid ++ bare_all (trees_of (slot_terms (exps_of es) ns).trees) → new ≡ old ++ bare t.tree
cells-comp t name label es ns k old mid new is same count put behind =
    let ts : List Tree = (slot_terms (exps_of es) ns).trees in
    behind ∙ (ap (λ cs. cs ++ bare_all (trees_of ts)) put ∙ (append_assoc old (TermCell.Comp label k 0 ∷ []) (bare_all (trees_of ts))
    ∙ (ap (λ (n : List ℕ). old ++ TermCell.Comp n k 0 ∷ bare_all (trees_of ts)) same
    ∙ (ap (λ cs. old ++ cs) (sym (bare-comp name (trees_of ts) k (count ∙ sym (count-terms es ns)))) ∙ ap (λ u. old ++ bare u.tree) (sym is)))))

pub cells-list : (t : SlotTerm) (ts : SlotTerms) (old mid new : List TermCell) (name : List ℕ) → t ≡ made_of (λ us. items_onto us (Tree.atom nil)) ts → name ≡ nil → mid ≡ old ++ item_cells (trees_of ts.trees) → new ≡ mid ++ TermCell.Atom name ∷ [] → new ≡ old ++ bare t.tree
cells-list t ts old mid new name is named put behind =
    behind ∙ (ap (λ cs. cs ++ TermCell.Atom name ∷ []) put ∙ (append_assoc old (item_cells (trees_of ts.trees)) (TermCell.Atom name ∷ [])
    ∙ (ap (λ (n : List ℕ). old ++ (item_cells (trees_of ts.trees) ++ TermCell.Atom n ∷ [])) named
    ∙ (ap (λ cs. old ++ (item_cells (trees_of ts.trees) ++ cs)) (sym (bare-atom nil))
    ∙ (ap (λ cs. old ++ cs) (sym (bare-items (trees_of ts.trees) (Tree.atom nil))) ∙ ap (λ u. old ++ bare u.tree) (sym is))))))

pub cells-onto : (t : SlotTerm) (ts : SlotTerms) (u : SlotTerm) (old mid new : List TermCell) → t ≡ made_onto ts u → mid ≡ old ++ item_cells (trees_of ts.trees) → new ≡ mid ++ bare u.tree → new ≡ old ++ bare t.tree
cells-onto t ts u old mid new is put behind =
    behind ∙ (ap (λ cs. cs ++ bare u.tree) put ∙ (append_assoc old (item_cells (trees_of ts.trees)) (bare u.tree)
    ∙ (ap (λ cs. old ++ cs) (sym (bare-items (trees_of ts.trees) u.tree)) ∙ ap (λ v. old ++ bare v.tree) (sym is))))

one-cells : (a : Tree) → bare_all (tree a no_trees) ≡ bare a
one-cells a = bare_all-cons a no_trees ∙ (ap (λ cs. bare a ++ cs) bare_all-none ∙ append-nil (bare a))

pub cells-two : (t a b : SlotTerm) (name : List ℕ) (old zero one new : List TermCell) → t ≡ two_terms a b → name ≡ codes ".." → zero ≡ old ++ TermCell.Comp name 2 0 ∷ [] → one ≡ zero ++ bare a.tree → new ≡ one ++ bare b.tree → new ≡ old ++ bare t.tree
unfolding tree_count
cells-two t a b name old zero one new is named put first second =
    let all : bare_all (tree a.tree (tree b.tree no_trees)) ≡ bare a.tree ++ bare b.tree = bare_all-cons a.tree (tree b.tree no_trees) ∙ ap (λ cs. bare a.tree ++ cs) (one-cells b.tree) in
    second ∙ (ap (λ cs. cs ++ bare b.tree) (first ∙ ap (λ cs. cs ++ bare a.tree) put)
    ∙ (append_assoc (old ++ TermCell.Comp name 2 0 ∷ []) (bare a.tree) (bare b.tree)
    ∙ (append_assoc old (TermCell.Comp name 2 0 ∷ []) (bare a.tree ++ bare b.tree)
    ∙ (ap (λ (n : List ℕ). old ++ TermCell.Comp n 2 0 ∷ (bare a.tree ++ bare b.tree)) named
    ∙ (ap (λ cs. old ++ TermCell.Comp (codes "..") 2 0 ∷ cs) (sym all)
    ∙ (ap (λ cs. old ++ cs) (sym (bare-comp (codes "..") (tree a.tree (tree b.tree no_trees)) 2 refl)) ∙ ap (λ u. old ++ bare u.tree) (sym is)))))))

pub cells-three : (t a b d : SlotTerm) (name : List ℕ) (old zero one two new : List TermCell) → t ≡ three_terms a b d → name ≡ codes ".." → zero ≡ old ++ TermCell.Comp name 3 0 ∷ [] → one ≡ zero ++ bare a.tree → two ≡ one ++ bare b.tree → new ≡ two ++ bare d.tree → new ≡ old ++ bare t.tree
unfolding tree_count
cells-three t a b d name old zero one two new is named put first second third =
    let all : bare_all (tree a.tree (tree b.tree (tree d.tree no_trees))) ≡ bare a.tree ++ (bare b.tree ++ bare d.tree) =
    bare_all-cons a.tree (tree b.tree (tree d.tree no_trees)) ∙ ap (λ cs. bare a.tree ++ cs) (bare_all-cons b.tree (tree d.tree no_trees) ∙ ap (λ cs. bare b.tree ++ cs) (one-cells d.tree)) in
    third ∙ (ap (λ cs. cs ++ bare d.tree) (second ∙ ap (λ cs. cs ++ bare b.tree) (first ∙ ap (λ cs. cs ++ bare a.tree) put))
    ∙ (append_assoc ((old ++ TermCell.Comp name 3 0 ∷ []) ++ bare a.tree) (bare b.tree) (bare d.tree)
    ∙ (append_assoc (old ++ TermCell.Comp name 3 0 ∷ []) (bare a.tree) (bare b.tree ++ bare d.tree)
    ∙ (append_assoc old (TermCell.Comp name 3 0 ∷ []) (bare a.tree ++ (bare b.tree ++ bare d.tree))
    ∙ (ap (λ (n : List ℕ). old ++ TermCell.Comp n 3 0 ∷ (bare a.tree ++ (bare b.tree ++ bare d.tree))) named
    ∙ (ap (λ cs. old ++ TermCell.Comp (codes "..") 3 0 ∷ cs) (sym all)
    ∙ (ap (λ cs. old ++ cs) (sym (bare-comp (codes "..") (tree a.tree (tree b.tree (tree d.tree no_trees))) 3 refl)) ∙ ap (λ u. old ++ bare u.tree) (sym is))))))))

-- ---- what has no parts

pub cells-var : (x : Exp) (name label : List ℕ) (ns : SlotNames) (old new : List TermCell) → x ≡ e.Var name → label ≡ name → new ≡ old ++ TermCell.Var (slot_for label ns) ∷ [] → new ≡ old ++ bare (slot_term (exp_tree x) ns).tree
unfolding slot_term exp_tree flat
cells-var x name label ns old new is same put = put ∙ (ap (λ (n : List ℕ). old ++ TermCell.Var (slot_for n ns) ∷ []) same ∙ sym (ap (λ y. old ++ bare (slot_term (exp_tree y) ns).tree) is))

pub names-var : (x : Exp) (name label : List ℕ) (ns m : SlotNames) → x ≡ e.Var name → label ≡ name → m ≡ slots_for label ns → m ≡ (slot_term (exp_tree x) ns).names
unfolding slot_term exp_tree
names-var x name label ns m is same put = put ∙ (ap (λ (n : List ℕ). slots_for n ns) same ∙ sym (ap (λ y. (slot_term (exp_tree y) ns).names) is))

pub cells-atom : (x : Exp) (name label : List ℕ) (ns : SlotNames) (old new : List TermCell) → x ≡ e.Atom name → label ≡ name → new ≡ old ++ TermCell.Atom label ∷ [] → new ≡ old ++ bare (slot_term (exp_tree x) ns).tree
unfolding slot_term exp_tree flat
cells-atom x name label ns old new is same put = put ∙ (ap (λ (n : List ℕ). old ++ TermCell.Atom n ∷ []) same ∙ sym (ap (λ y. old ++ bare (slot_term (exp_tree y) ns).tree) is))

pub names-atom : (x : Exp) (name : List ℕ) (ns : SlotNames) → x ≡ e.Atom name → ns ≡ (slot_term (exp_tree x) ns).names
unfolding slot_term exp_tree
names-atom x name ns is = sym (ap (λ y. (slot_term (exp_tree y) ns).names) is)

pub cells-str : (x : Exp) (text label : List ℕ) (ns : SlotNames) (old new : List TermCell) → x ≡ e.Str text → label ≡ text → new ≡ old ++ bare (text_list label) → new ≡ old ++ bare (slot_term (exp_tree x) ns).tree
unfolding slot_term exp_tree
cells-str x text label ns old new is same put = put ∙ (ap (λ (n : List ℕ). old ++ bare (text_list n)) same ∙ sym (ap (λ y. old ++ bare (slot_term (exp_tree y) ns).tree) is))

pub names-str : (x : Exp) (text : List ℕ) (ns : SlotNames) → x ≡ e.Str text → ns ≡ (slot_term (exp_tree x) ns).names
unfolding slot_term exp_tree
names-str x text ns is = sym (ap (λ y. (slot_term (exp_tree y) ns).names) is)

-- ---- what is no term

pub nameless-index : (x : Exp) (a : Box Exp Global) (es : Vec Exp Global) (ns : SlotNames) → x ≡ e.Index a es → slot_term (exp_tree x) ns ≡ constant (Tree.atom []) ns
unfolding slot_term exp_tree
nameless-index x a es ns p = ap (λ z. slot_term (exp_tree z) ns) p

pub nameless-at : (x : Exp) (name : List ℕ) (a : Box Exp Global) (ns : SlotNames) → x ≡ e.At name a → slot_term (exp_tree x) ns ≡ constant (Tree.atom []) ns
unfolding slot_term exp_tree
nameless-at x name a ns p = ap (λ z. slot_term (exp_tree z) ns) p

pub nameless-collect : (x : Exp) (b : Bool) (a : Box Exp Global) (es : Vec Exp Global) (ns : SlotNames) → x ≡ e.Collect b a es → slot_term (exp_tree x) ns ≡ constant (Tree.atom []) ns
unfolding slot_term exp_tree
nameless-collect x b a es ns p = ap (λ z. slot_term (exp_tree z) ns) p

pub nameless-and : (x : Exp) (es : Vec Exp Global) (ns : SlotNames) → x ≡ e.And es → slot_term (exp_tree x) ns ≡ constant (Tree.atom []) ns
unfolding slot_term exp_tree
nameless-and x es ns p = ap (λ z. slot_term (exp_tree z) ns) p

pub nameless-or : (x : Exp) (es : Vec Exp Global) (ns : SlotNames) → x ≡ e.Or es → slot_term (exp_tree x) ns ≡ constant (Tree.atom []) ns
unfolding slot_term exp_tree
nameless-or x es ns p = ap (λ z. slot_term (exp_tree z) ns) p

pub nameless-arrow : (x : Exp) (a b : Box Exp Global) (ns : SlotNames) → x ≡ e.Arrow a b → slot_term (exp_tree x) ns ≡ constant (Tree.atom []) ns
unfolding slot_term exp_tree
nameless-arrow x a b ns p = ap (λ z. slot_term (exp_tree z) ns) p

pub nameless-foreach : (x : Exp) (es : Vec Exp Global) (b : Box Exp Global) (ns : SlotNames) → x ≡ e.Foreach es b → slot_term (exp_tree x) ns ≡ constant (Tree.atom []) ns
unfolding slot_term exp_tree
nameless-foreach x es b ns p = ap (λ z. slot_term (exp_tree z) ns) p

pub nameless-while : (x : Exp) (a b : Box Exp Global) (ns : SlotNames) → x ≡ e.While a b → slot_term (exp_tree x) ns ≡ constant (Tree.atom []) ns
unfolding slot_term exp_tree
nameless-while x a b ns p = ap (λ z. slot_term (exp_tree z) ns) p

pub nameless-do_while : (x : Exp) (a b : Box Exp Global) (ns : SlotNames) → x ≡ e.DoWhile a b → slot_term (exp_tree x) ns ≡ constant (Tree.atom []) ns
unfolding slot_term exp_tree
nameless-do_while x a b ns p = ap (λ z. slot_term (exp_tree z) ns) p

pub nameless-if : (x : Exp) (bs : Vec (Exp × Exp) Global) (last : Option (Box Exp Global)) (ns : SlotNames) → x ≡ e.If bs last → slot_term (exp_tree x) ns ≡ constant (Tree.atom []) ns
unfolding slot_term exp_tree held_tree
nameless-if x bs None ns p = ap (λ z. slot_term (exp_tree z) ns) p
nameless-if x bs (Some b) ns p = ap (λ z. slot_term (exp_tree z) ns) p

pub cells-nameless : (t : SlotTerm) (ns : SlotNames) (old new : List TermCell) → t ≡ constant (Tree.atom []) ns → new ≡ old ++ TermCell.Atom [] ∷ [] → new ≡ old ++ bare t.tree
cells-nameless t ns old new is put = put ∙ (ap (λ cs. old ++ cs) (sym (bare-atom [])) ∙ ap (λ u. old ++ bare u.tree) (sym is))

pub names-as : (t u : SlotTerm) (m : SlotNames) → t ≡ u → m ≡ u.names → m ≡ t.names
names-as t u m is e = e ∙ sym (ap (λ v. v.names) is)

pub cells-same : (t u : SlotTerm) (old new : List TermCell) → t ≡ u → new ≡ old ++ bare u.tree → new ≡ old ++ bare t.tree
cells-same t u old new is put = put ∙ ap (λ v. old ++ bare v.tree) (sym is)
