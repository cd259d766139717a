-- What an expression is as a pattern, by its kind.
use Rattle.std.proofs.Common.{◌≡◌, ℕ, Bool, List, [], ◌∷◌, ◌++◌, map, None, Some, refl, sym, ◌∙◌, ap}
use Rattle.std.proofs.lemmas.List.{map-append}
use Rattle.std.specs.Prelude.{Vec, Option, codes}
use Rattle.std.specs.declared.alloc.Global.{Global}
use Rattle.std.specs.declared.boxed.Box.{Box}
use Rattle.pi_terms.specs.ListNames.{nil}
use Rattle.pi_terms.specs.PatternTree.{PatternTree, slot, compound, exact_atom, PatternTrees, no_patterns, pattern}
use Rattle.pi_effects.specs.Texts.{text_list}
use Rattle.pi_syntax.specs.PrintTerm.{array_name}
use Rattle.pi_core.specs.CoreTree.{pattern_tree, pattern_trees}
use Rattle.pi_core.specs.declared.core_program.Pattern.{Pattern}
use Rattle.pi_syntax.specs.ExpTree.{exp_tree, held_tree}
use Rattle.pi_syntax.specs.ExpLists.{exps_of}
use Rattle.pi_syntax.specs.declared.exp.Exp as e
use Rattle.pi_syntax.specs.declared.exp.Exp.{Exp}
use Rattle.pi_rewrite_spec.specs.Slots.{SlotNames, slot_for, slots_for}
use Rattle.pi_rewrite_spec.specs.Values.{SlotPattern, SlotPatterns, exact, exact_term, slot_pattern, slot_patterns, structure, before_forms, no_forms, cells_onto}
use Rattle.pi_rewrite_slots.proofs.ExpTrees.{list-is, list_onto-is, array-is, call-is, range-is, range_by-is}

abbrev pub onto_pattern : SlotPatterns → SlotPattern → SlotPattern
onto_pattern ps p = record { form = cells_onto ps.forms p.form; names = p.names }

abbrev pub list_pattern : SlotPatterns → SlotPattern
list_pattern ps = record { form = cells_onto ps.forms (exact_atom nil); names = ps.names }

pub pattern-list : (x : Exp) (es : Vec Exp Global) (tail : Option (Box Exp Global)) (now : List Exp) (ns : SlotNames) → x ≡ e.List es tail → tail ≡ None → now ≡ es.items → slot_pattern (exp_tree x) ns ≡ list_pattern (slot_patterns (exps_of now) ns)
unfolding slot_pattern
pattern-list x es tail now ns p q s = ap (λ t. slot_pattern t ns) (list-is x es tail p q) ∙ ap (λ xs. list_pattern (slot_patterns (exps_of xs) ns)) (sym s)

pub pattern-onto : (x : Exp) (es : Vec Exp Global) (tail : Option (Box Exp Global)) (b : Box Exp Global) (now : List Exp) (y : Exp) (ns m : SlotNames) → x ≡ e.List es tail → tail ≡ Some b → now ≡ es.items → y ≡ b.value →
    m ≡ (slot_patterns (exps_of now) ns).names → slot_pattern (exp_tree x) ns ≡ onto_pattern (slot_patterns (exps_of now) ns) (slot_pattern (exp_tree y) m)
unfolding slot_pattern
pattern-onto x es tail b now y ns m p q s u v =
    ap (λ t. slot_pattern t ns) (list_onto-is x es tail b p q) ∙ (ap (λ xs. onto_pattern (slot_patterns (exps_of xs) ns) (slot_pattern (exp_tree b.value) (slot_patterns (exps_of xs) ns).names)) (sym s)
    ∙ (ap (λ z. onto_pattern (slot_patterns (exps_of now) ns) (slot_pattern (exp_tree z) (slot_patterns (exps_of now) ns).names)) (sym u)
    ∙ ap (λ ms. onto_pattern (slot_patterns (exps_of now) ns) (slot_pattern (exp_tree y) ms)) (sym v)))

pub pattern-array : (x : Exp) (es : Vec Exp Global) (now : List Exp) (ns : SlotNames) → x ≡ e.Array es → now ≡ es.items → slot_pattern (exp_tree x) ns ≡ structure array_name (slot_patterns (exps_of now) ns)
unfolding slot_pattern
pattern-array x es now ns p s = ap (λ t. slot_pattern t ns) (array-is x es p) ∙ ap (λ xs. structure array_name (slot_patterns (exps_of xs) ns)) (sym s)

pub pattern-call : (x : Exp) (name : List ℕ) (es : Vec Exp Global) (now : List Exp) (ns : SlotNames) → x ≡ e.Call name es → now ≡ es.items → slot_pattern (exp_tree x) ns ≡ structure name (slot_patterns (exps_of now) ns)
unfolding slot_pattern
pattern-call x name es now ns p s = ap (λ t. slot_pattern t ns) (call-is x name es p) ∙ ap (λ xs. structure name (slot_patterns (exps_of xs) ns)) (sym s)

pub pattern-quote : (x : Exp) (b : Box Exp Global) (y : Exp) (ns : SlotNames) → x ≡ e.Quote b → y ≡ b.value → slot_pattern (exp_tree x) ns ≡ slot_pattern (exp_tree y) ns
unfolding slot_pattern exp_tree
pattern-quote x b y ns p s = ap (λ z. slot_pattern (exp_tree z) ns) p ∙ ap (λ z. slot_pattern (exp_tree z) ns) (sym s)

abbrev pub two_patterns : SlotPattern → SlotPattern → SlotPattern
two_patterns a b = structure (codes "..") (before_forms a (before_forms b (no_forms b.names)))

abbrev pub three_patterns : SlotPattern → SlotPattern → SlotPattern → SlotPattern
three_patterns a b c = structure (codes "..") (before_forms a (before_forms b (before_forms c (no_forms c.names))))

pub pattern-range : (x : Exp) (first : Box Exp Global) (step : Option (Box Exp Global)) (last : Box Exp Global) (a b : Exp) (ns m : SlotNames) → x ≡ e.Range first step last → step ≡ None → a ≡ first.value → b ≡ last.value →
    m ≡ (slot_pattern (exp_tree a) ns).names → slot_pattern (exp_tree x) ns ≡ two_patterns (slot_pattern (exp_tree a) ns) (slot_pattern (exp_tree b) m)
unfolding slot_pattern
pattern-range x first step last a b ns m p q s u v =
    ap (λ t. slot_pattern t ns) (range-is x first step last p q)
    ∙ (ap (λ z. two_patterns (slot_pattern (exp_tree z) ns) (slot_pattern (exp_tree last.value) (slot_pattern (exp_tree z) ns).names)) (sym s)
    ∙ (ap (λ z. two_patterns (slot_pattern (exp_tree a) ns) (slot_pattern (exp_tree z) (slot_pattern (exp_tree a) ns).names)) (sym u)
    ∙ ap (λ ms. two_patterns (slot_pattern (exp_tree a) ns) (slot_pattern (exp_tree b) ms)) (sym v)))

pub pattern-range_by : (x : Exp) (first : Box Exp Global) (step : Option (Box Exp Global)) (last c : Box Exp Global) (a b d : Exp) (ns m n : SlotNames) → x ≡ e.Range first step last → step ≡ Some c → a ≡ first.value → b ≡ c.value → d ≡ last.value →
    m ≡ (slot_pattern (exp_tree a) ns).names → n ≡ (slot_pattern (exp_tree b) m).names → slot_pattern (exp_tree x) ns ≡ three_patterns (slot_pattern (exp_tree a) ns) (slot_pattern (exp_tree b) m) (slot_pattern (exp_tree d) n)
unfolding slot_pattern
pattern-range_by x first step last c a b d ns m n p q s t u v w =
    ap (λ z. slot_pattern z ns) (range_by-is x first step last c p q)
    ∙ (ap (λ z. let one : SlotPattern = slot_pattern (exp_tree z) ns in let two : SlotPattern = slot_pattern (exp_tree c.value) one.names in three_patterns one two (slot_pattern (exp_tree last.value) two.names)) (sym s)
    ∙ (ap (λ z. let two : SlotPattern = slot_pattern (exp_tree z) (slot_pattern (exp_tree a) ns).names in three_patterns (slot_pattern (exp_tree a) ns) two (slot_pattern (exp_tree last.value) two.names)) (sym t)
    ∙ (ap (λ z. let two : SlotPattern = slot_pattern (exp_tree b) (slot_pattern (exp_tree a) ns).names in three_patterns (slot_pattern (exp_tree a) ns) two (slot_pattern (exp_tree z) two.names)) (sym u)
    ∙ (ap (λ ms. let two : SlotPattern = slot_pattern (exp_tree b) ms in three_patterns (slot_pattern (exp_tree a) ns) two (slot_pattern (exp_tree d) two.names)) (sym v)
    ∙ ap (λ ms. three_patterns (slot_pattern (exp_tree a) ns) (slot_pattern (exp_tree b) m) (slot_pattern (exp_tree d) ms)) (sym w)))))

-- ---- what is made of it

pub form-structure : (p : SlotPattern) (name label : List ℕ) (ps : SlotPatterns) (parts : PatternTrees) (made : PatternTree) → p ≡ structure name ps → label ≡ name → parts ≡ ps.forms → made ≡ compound label parts → made ≡ p.form
form-structure p name label ps parts made is same e put = put ∙ (ap (λ (n : List ℕ). compound n parts) same ∙ (ap (compound name) e ∙ sym (ap (λ q. q.form) is)))

pub form-onto : (p : SlotPattern) (ps : SlotPatterns) (q : SlotPattern) (parts : PatternTrees) (rest made : PatternTree) → p ≡ onto_pattern ps q → parts ≡ ps.forms → rest ≡ q.form → made ≡ cells_onto parts rest → made ≡ p.form
form-onto p ps q parts rest made is e f put = put ∙ (ap (λ xs. cells_onto xs rest) e ∙ (ap (cells_onto ps.forms) f ∙ sym (ap (λ r. r.form) is)))

pub form-list : (p : SlotPattern) (ps : SlotPatterns) (parts : PatternTrees) (rest made : PatternTree) → p ≡ list_pattern ps → parts ≡ ps.forms → rest ≡ exact_atom nil → made ≡ cells_onto parts rest → made ≡ p.form
form-list p ps parts rest made is e f put = put ∙ (ap (λ xs. cells_onto xs rest) e ∙ (ap (cells_onto ps.forms) f ∙ sym (ap (λ r. r.form) is)))

-- patterns that are pushed one after the other
pub put-form : (old new : List Pattern) (made : Pattern) (t : PatternTree) → new ≡ old ++ made ∷ [] → pattern_tree made ≡ t → map pattern_tree new ≡ map pattern_tree old ++ t ∷ []
put-form old new made t put is = ap (map pattern_tree) put ∙ (map-append pattern_tree old (made ∷ []) ∙ ap (λ (u : PatternTree). map pattern_tree old ++ u ∷ []) is)

abbrev joined : List PatternTree → PatternTrees
joined [] = no_patterns
joined (t ∷ ts) = pattern t (joined ts)

joined-is : (ps : List Pattern) → pattern_trees ps ≡ joined (map pattern_tree ps)
unfolding pattern_trees
joined-is [] = refl
joined-is (p ∷ ps) = ap (pattern (pattern_tree p)) (joined-is ps)

pub form-two : (p q r : SlotPattern) (none one two : List Pattern) (made : PatternTree) → p ≡ two_patterns q r → none ≡ [] → map pattern_tree one ≡ map pattern_tree none ++ q.form ∷ [] → map pattern_tree two ≡ map pattern_tree one ++ r.form ∷ [] → made ≡ compound (codes "..") (pattern_trees two) → made ≡ p.form
form-two p q r none one two made is empty first second put =
    put ∙ (ap (compound (codes "..")) (joined-is two ∙ ap joined (second ∙ ap (λ ts. ts ++ r.form ∷ []) (first ∙ ap (λ ps. map pattern_tree ps ++ q.form ∷ []) empty))) ∙ sym (ap (λ s. s.form) is))

pub form-three : (p q r s : SlotPattern) (none one two three : List Pattern) (made : PatternTree) → p ≡ three_patterns q r s → none ≡ [] → map pattern_tree one ≡ map pattern_tree none ++ q.form ∷ [] → map pattern_tree two ≡ map pattern_tree one ++ r.form ∷ [] →
    map pattern_tree three ≡ map pattern_tree two ++ s.form ∷ [] → made ≡ compound (codes "..") (pattern_trees three) → made ≡ p.form
form-three p q r s none one two three made is empty first second third put =
    put ∙ (ap (compound (codes "..")) (joined-is three ∙ ap joined (third ∙ ap (λ ts. ts ++ s.form ∷ []) (second ∙ ap (λ ts. ts ++ r.form ∷ []) (first ∙ ap (λ ps. map pattern_tree ps ++ q.form ∷ []) empty)))) ∙ sym (ap (λ t. t.form) is))

pub names-as : (p q : SlotPattern) (m : SlotNames) → p ≡ q → m ≡ q.names → m ≡ p.names
names-as p q m is e = e ∙ sym (ap (λ r. r.names) is)

pub form-same : (p q : SlotPattern) (made : PatternTree) → p ≡ q → made ≡ q.form → made ≡ p.form
form-same p q made is e = e ∙ sym (ap (λ r. r.form) is)

-- ---- what has no parts

pub form-var : (x : Exp) (name label : List ℕ) (ns : SlotNames) (k : ℕ) → x ≡ e.Var name → label ≡ name → k ≡ slot_for label ns → pattern_tree (Pattern.Slot k) ≡ (slot_pattern (exp_tree x) ns).form
unfolding slot_pattern exp_tree pattern_tree
form-var x name label ns k is same put = ap slot put ∙ (ap (λ (n : List ℕ). slot (slot_for n ns)) same ∙ sym (ap (λ y. (slot_pattern (exp_tree y) ns).form) is))

pub names-var : (x : Exp) (name label : List ℕ) (ns m : SlotNames) → x ≡ e.Var name → label ≡ name → m ≡ slots_for label ns → m ≡ (slot_pattern (exp_tree x) ns).names
unfolding slot_pattern exp_tree
names-var x name label ns m is same put = put ∙ (ap (λ (n : List ℕ). slots_for n ns) same ∙ sym (ap (λ y. (slot_pattern (exp_tree y) ns).names) is))

pub form-atom : (x : Exp) (name label : List ℕ) (ns : SlotNames) (made : PatternTree) → x ≡ e.Atom name → label ≡ name → made ≡ exact_atom label → made ≡ (slot_pattern (exp_tree x) ns).form
unfolding slot_pattern exp_tree
form-atom x name label ns made is same put = put ∙ (ap exact_atom same ∙ sym (ap (λ y. (slot_pattern (exp_tree y) ns).form) is))

pub names-atom : (x : Exp) (name : List ℕ) (ns : SlotNames) → x ≡ e.Atom name → ns ≡ (slot_pattern (exp_tree x) ns).names
unfolding slot_pattern exp_tree
names-atom x name ns is = sym (ap (λ y. (slot_pattern (exp_tree y) ns).names) is)

pub form-str : (x : Exp) (text label : List ℕ) (ns : SlotNames) (made : PatternTree) → x ≡ e.Str text → label ≡ text → made ≡ exact_term (text_list label) → made ≡ (slot_pattern (exp_tree x) ns).form
unfolding slot_pattern exp_tree
form-str x text label ns made is same put = put ∙ (ap (λ (n : List ℕ). exact_term (text_list n)) same ∙ sym (ap (λ y. (slot_pattern (exp_tree y) ns).form) is))

pub names-str : (x : Exp) (text : List ℕ) (ns : SlotNames) → x ≡ e.Str text → ns ≡ (slot_pattern (exp_tree x) ns).names
unfolding slot_pattern exp_tree
names-str x text ns is = sym (ap (λ y. (slot_pattern (exp_tree y) ns).names) is)

-- ---- what is no pattern

pub nameless-index : (x : Exp) (a : Box Exp Global) (es : Vec Exp Global) (ns : SlotNames) → x ≡ e.Index a es → slot_pattern (exp_tree x) ns ≡ exact (exact_atom []) ns
unfolding slot_pattern exp_tree
nameless-index x a es ns p = ap (λ z. slot_pattern (exp_tree z) ns) p

pub nameless-collect : (x : Exp) (b : Bool) (a : Box Exp Global) (es : Vec Exp Global) (ns : SlotNames) → x ≡ e.Collect b a es → slot_pattern (exp_tree x) ns ≡ exact (exact_atom []) ns
unfolding slot_pattern exp_tree
nameless-collect x b a es ns p = ap (λ z. slot_pattern (exp_tree z) ns) p

pub nameless-and : (x : Exp) (es : Vec Exp Global) (ns : SlotNames) → x ≡ e.And es → slot_pattern (exp_tree x) ns ≡ exact (exact_atom []) ns
unfolding slot_pattern exp_tree
nameless-and x es ns p = ap (λ z. slot_pattern (exp_tree z) ns) p

pub nameless-or : (x : Exp) (es : Vec Exp Global) (ns : SlotNames) → x ≡ e.Or es → slot_pattern (exp_tree x) ns ≡ exact (exact_atom []) ns
unfolding slot_pattern exp_tree
nameless-or x es ns p = ap (λ z. slot_pattern (exp_tree z) ns) p

pub nameless-arrow : (x : Exp) (a b : Box Exp Global) (ns : SlotNames) → x ≡ e.Arrow a b → slot_pattern (exp_tree x) ns ≡ exact (exact_atom []) ns
unfolding slot_pattern exp_tree
nameless-arrow x a b ns p = ap (λ z. slot_pattern (exp_tree z) ns) p

pub nameless-foreach : (x : Exp) (es : Vec Exp Global) (b : Box Exp Global) (ns : SlotNames) → x ≡ e.Foreach es b → slot_pattern (exp_tree x) ns ≡ exact (exact_atom []) ns
unfolding slot_pattern exp_tree
nameless-foreach x es b ns p = ap (λ z. slot_pattern (exp_tree z) ns) p

pub nameless-while : (x : Exp) (a b : Box Exp Global) (ns : SlotNames) → x ≡ e.While a b → slot_pattern (exp_tree x) ns ≡ exact (exact_atom []) ns
unfolding slot_pattern exp_tree
nameless-while x a b ns p = ap (λ z. slot_pattern (exp_tree z) ns) p

pub nameless-do_while : (x : Exp) (a b : Box Exp Global) (ns : SlotNames) → x ≡ e.DoWhile a b → slot_pattern (exp_tree x) ns ≡ exact (exact_atom []) ns
unfolding slot_pattern exp_tree
nameless-do_while x a b ns p = ap (λ z. slot_pattern (exp_tree z) ns) p

pub nameless-if : (x : Exp) (bs : Vec (Exp × Exp) Global) (last : Option (Box Exp Global)) (ns : SlotNames) → x ≡ e.If bs last → slot_pattern (exp_tree x) ns ≡ exact (exact_atom []) ns
unfolding slot_pattern exp_tree held_tree
nameless-if x bs None ns p = ap (λ z. slot_pattern (exp_tree z) ns) p
nameless-if x bs (Some b) ns p = ap (λ z. slot_pattern (exp_tree z) ns) p
