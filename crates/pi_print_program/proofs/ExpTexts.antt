-- The canonical text of each kind of expression, by the texts of its parts: over the vectors and boxes that hold them, as the code reads them.
use Rattle.std.proofs.Common.{◌≡◌, ℕ, ℤ, Bool, true, false, List, ◌++◌, length, codes, refl, sym, ap, ◌∙◌, append_assoc}
use Rattle.std.specs.Prelude.{if◌then◌else◌, not, ◌||◌}
use Rattle.std.proofs.lemmas.List.{append-nil}
use Rattle.std.specs.Prelude.{Vec}
use Rattle.std.specs.declared.alloc.Global.{Global}
use Rattle.std.specs.declared.boxed.Box.{Box}
use Rattle.pi_syntax.specs.ExpTree.{ExpTree, list_onto, call, quote, index, range, range_by, collect, arrow, if_then, if_else, foreach, while_do, do_while, ExpTrees, ExpBranches, exp_tree}
use Rattle.pi_syntax.specs.ExpLists.{exps_of}
use Rattle.pi_syntax.specs.Signature.{exp_count}
use Rattle.pi_syntax.proofs.ExpListLemmas.{exp_count-exps_of}
use Rattle.pi_syntax.specs.declared.exp.Exp as e
use Rattle.pi_syntax.specs.declared.exp.Exp.{Exp}
use Rattle.pi_print_program.specs.Branches.{branches_in}
use Rattle.pi_print_program.specs.CanonicalExp.{exp_text, exp_texts, choice_texts, is_structure}
use Rattle.pi_print_program.specs.Signs.{is_two_place, is_prefix_word, is_prefix_sign}
use Rattle.pi_print_program.specs.Texts.{between, in_parens, parted, comma, spaced, name_text, integer_text, string_text}
use Rattle.pi_print_program.proofs.ExpTrees as tree

-- ---- by what is written for a list of expressions

pub of-exps : (f : List (List ℕ) → List ℕ) (node : ExpTrees → ExpTree) → ((ts : ExpTrees) → exp_text (node ts) ≡ f (exp_texts ts)) → (x : Exp) (items now : List Exp)
    → exp_tree x ≡ node (exps_of items) → now ≡ items → f (exp_texts (exps_of now)) ≡ exp_text (exp_tree x)
of-exps f node opens x items now is same =
    ap (λ ts. f (exp_texts (exps_of ts))) same ∙ (sym (opens (exps_of items)) ∙ ap exp_text (sym is))

pub of-exps-and : (f : List (List ℕ) → List ℕ → List ℕ) (node : ExpTrees → ExpTree → ExpTree) → ((ts : ExpTrees) (t : ExpTree) → exp_text (node ts t) ≡ f (exp_texts ts) (exp_text t))
    → (x last y : Exp) (items now : List Exp) → exp_tree x ≡ node (exps_of items) (exp_tree last) → now ≡ items → y ≡ last
    → f (exp_texts (exps_of now)) (exp_text (exp_tree y)) ≡ exp_text (exp_tree x)
of-exps-and f node opens x last y items now is same here =
    ap (λ ts. f (exp_texts (exps_of ts)) (exp_text (exp_tree y))) same ∙ (ap (λ z. f (exp_texts (exps_of items)) (exp_text (exp_tree z))) here
    ∙ (sym (opens (exps_of items) (exp_tree last)) ∙ ap exp_text (sym is)))

pub of-two : (f : List ℕ → List ℕ → List ℕ) (node : ExpTree → ExpTree → ExpTree) → ((t u : ExpTree) → exp_text (node t u) ≡ f (exp_text t) (exp_text u))
    → (x a b y z : Exp) → exp_tree x ≡ node (exp_tree a) (exp_tree b) → y ≡ a → z ≡ b → f (exp_text (exp_tree y)) (exp_text (exp_tree z)) ≡ exp_text (exp_tree x)
of-two f node opens x a b y z is same next =
    ap (λ w. f (exp_text (exp_tree w)) (exp_text (exp_tree z))) same ∙ (ap (λ w. f (exp_text (exp_tree a)) (exp_text (exp_tree w))) next
    ∙ (sym (opens (exp_tree a) (exp_tree b)) ∙ ap exp_text (sym is)))

pub of-led : (f : List ℕ → List (List ℕ) → List ℕ) (node : ExpTree → ExpTrees → ExpTree) → ((t : ExpTree) (ts : ExpTrees) → exp_text (node t ts) ≡ f (exp_text t) (exp_texts ts))
    → (x first y : Exp) (items now : List Exp) → exp_tree x ≡ node (exp_tree first) (exps_of items) → y ≡ first → now ≡ items
    → f (exp_text (exp_tree y)) (exp_texts (exps_of now)) ≡ exp_text (exp_tree x)
of-led f node opens x first y items now is here same =
    ap (λ z. f (exp_text (exp_tree z)) (exp_texts (exps_of now))) here ∙ (ap (λ ts. f (exp_text (exp_tree first)) (exp_texts (exps_of ts))) same
    ∙ (sym (opens (exp_tree first) (exps_of items)) ∙ ap exp_text (sym is)))

-- ---- forms that are written in pieces

pub onto-opens : (es : ExpTrees) (e : ExpTree) → exp_text (list_onto es e) ≡ between (codes "[") (parted comma (exp_texts es)) (codes " | ") ++ between (codes "") (exp_text e) (codes "]")
unfolding exp_text
onto-opens es e = simp append_assoc

pub index-opens : (e : ExpTree) (es : ExpTrees) → exp_text (index e es) ≡ exp_text e ++ between (codes "[") (parted comma (exp_texts es)) (codes "]")
unfolding exp_text
index-opens e es = refl

pub range-opens : (a b : ExpTree) → exp_text (range a b) ≡ between (codes "(") (exp_text a) (codes " .. ") ++ between (codes "") (exp_text b) (codes ")")
unfolding exp_text
range-opens a b = simp append_assoc

pub stepped-opens : (a b d : ExpTree) → exp_text (range_by a b d) ≡ (between (codes "(") (exp_text a) (codes " .. ") ++ between (codes "") (exp_text b) (codes " .. ")) ++ between (codes "") (exp_text d) (codes ")")
unfolding exp_text
stepped-opens a b d = simp append_assoc

pub arrow-opens : (a b : ExpTree) → exp_text (arrow a b) ≡ between (codes "") (exp_text a) (codes " -> ") ++ exp_text b
unfolding exp_text
arrow-opens a b = simp append_assoc

pub collect-opens : (is_array : Bool) (a : ExpTree) (es : ExpTrees)
    → exp_text (collect is_array a es) ≡ between (if is_array then codes "{" else codes "[") (exp_text a) (codes " : ") ++ between (codes "") (parted comma (exp_texts es)) (if is_array then codes "}" else codes "]")
unfolding exp_text
collect-opens true a es = simp append_assoc
collect-opens false a es = simp append_assoc

pub else-opens : (bs : ExpBranches) (e : ExpTree) → exp_text (if_else bs e) ≡ between (codes "if ") (parted (codes " elseif ") (choice_texts bs)) (codes " else ") ++ between (codes "") (exp_text e) (codes " end")
unfolding exp_text
else-opens bs e = simp append_assoc

pub if-opens : (bs : ExpBranches) → exp_text (if_then bs) ≡ between (codes "if ") (parted (codes " elseif ") (choice_texts bs)) (codes " end")
unfolding exp_text
if-opens bs = refl

pub foreach-opens : (es : ExpTrees) (e : ExpTree) → exp_text (foreach es e) ≡ between (codes "foreach(") (parted comma (exp_texts es)) (codes ") ") ++ between (codes "") (exp_text e) (codes " end")
unfolding exp_text
foreach-opens es e = simp append_assoc

pub while-opens : (a b : ExpTree) → exp_text (while_do a b) ≡ between (codes "while (") (exp_text a) (codes ") ") ++ between (codes "") (exp_text b) (codes " end")
unfolding exp_text
while-opens a b = simp append_assoc

pub do-opens : (a b : ExpTree) → exp_text (do_while a b) ≡ between (codes "do ") (exp_text a) (codes " while (") ++ between (codes "") (exp_text b) (codes ")")
unfolding exp_text
do-opens a b = simp append_assoc

pub at-text : (x : Exp) (name text : List ℕ) (b : Box Exp Global) (y : Exp) → x ≡ e.At name b → text ≡ name → y ≡ b.value → text ++ between (codes "@") (exp_text (exp_tree y)) (codes "") ≡ exp_text (exp_tree x)
unfolding exp_text
at-text x name text b y is same inner =
    ap (λ t. text ++ (codes "@" ++ t)) (append-nil (exp_text (exp_tree y))) ∙ (ap (λ n. n ++ (codes "@" ++ exp_text (exp_tree y))) same
    ∙ (ap (λ z. name ++ (codes "@" ++ exp_text (exp_tree z))) inner ∙ ap exp_text (sym (tree.at-is x name b is))))

-- a choice of three
pub of-three : (x a b d y z w : Exp) → exp_tree x ≡ range_by (exp_tree a) (exp_tree b) (exp_tree d) → y ≡ a → z ≡ b → w ≡ d
    → (between (codes "(") (exp_text (exp_tree y)) (codes " .. ") ++ between (codes "") (exp_text (exp_tree z)) (codes " .. ")) ++ between (codes "") (exp_text (exp_tree w)) (codes ")") ≡ exp_text (exp_tree x)
of-three x a b d y z w is one next last =
    sym (stepped-opens (exp_tree y) (exp_tree z) (exp_tree w))
    ∙ (ap (λ v. exp_text (range_by (exp_tree v) (exp_tree z) (exp_tree w))) one ∙ (ap (λ v. exp_text (range_by (exp_tree a) (exp_tree v) (exp_tree w))) next
    ∙ (ap (λ v. exp_text (range_by (exp_tree a) (exp_tree b) (exp_tree v))) last ∙ ap exp_text (sym is))))

pub of-else : (x last y : Exp) (items now : List (Exp × Exp)) → exp_tree x ≡ if_else (branches_in items) (exp_tree last) → now ≡ items → y ≡ last
    → between (codes "if ") (parted (codes " elseif ") (choice_texts (branches_in now))) (codes " else ") ++ between (codes "") (exp_text (exp_tree y)) (codes " end") ≡ exp_text (exp_tree x)
of-else x last y items now is same here =
    sym (else-opens (branches_in now) (exp_tree y)) ∙ (ap (λ bs. exp_text (if_else (branches_in bs) (exp_tree y))) same ∙ (ap (λ z. exp_text (if_else (branches_in items) (exp_tree z))) here ∙ ap exp_text (sym is)))

pub of-if : (x : Exp) (items now : List (Exp × Exp)) → exp_tree x ≡ if_then (branches_in items) → now ≡ items
    → between (codes "if ") (parted (codes " elseif ") (choice_texts (branches_in now))) (codes " end") ≡ exp_text (exp_tree x)
of-if x items now is same = sym (if-opens (branches_in now)) ∙ (ap (λ bs. exp_text (if_then (branches_in bs))) same ∙ ap exp_text (sym is))

-- ---- words

pub var-text : (x : Exp) (name text old new : List ℕ) → x ≡ e.Var name → text ≡ name → new ≡ old ++ text → new ≡ old ++ exp_text (exp_tree x)
unfolding exp_text exp_tree
var-text x name text old new is same wrote = wrote ∙ ap (λ t. old ++ t) (same ∙ ap (λ y. exp_text (exp_tree y)) (sym is))

pub int-text : (x : Exp) (n : ℤ) → x ≡ e.Int n → integer_text n ≡ exp_text (exp_tree x)
unfolding exp_text exp_tree
int-text x n is = ap (λ y. exp_text (exp_tree y)) (sym is)

pub atom-text : (x : Exp) (name text : List ℕ) → x ≡ e.Atom name → text ≡ name → name_text text ≡ exp_text (exp_tree x)
unfolding exp_text exp_tree
atom-text x name text is same = ap name_text same ∙ ap (λ y. exp_text (exp_tree y)) (sym is)

pub str-text : (x : Exp) (name text : List ℕ) → x ≡ e.Str name → text ≡ name → string_text text ≡ exp_text (exp_tree x)
unfolding exp_text exp_tree
str-text x name text is same = ap string_text same ∙ ap (λ y. exp_text (exp_tree y)) (sym is)

-- ---- names, calls and what stands behind `$`

pub call-text : (x : Exp) (name text : List ℕ) (es : Vec Exp Global) (now : List Exp) → x ≡ e.Call name es → text ≡ name → now ≡ es.items → exp_text (call text (exps_of now)) ≡ exp_text (exp_tree x)
call-text x name text es now is same items =
    ap (λ n. exp_text (call n (exps_of now))) same ∙ (ap (λ ts. exp_text (call name (exps_of ts))) items ∙ ap exp_text (sym (tree.call-is x name es is)))

pub quote-text : (x : Exp) (b : Box Exp Global) (y : Exp) → x ≡ e.Quote b → y ≡ b.value → exp_text (quote (exp_tree y)) ≡ exp_text (exp_tree x)
quote-text x b y is same = ap (λ z. exp_text (quote (exp_tree z))) same ∙ ap exp_text (sym (tree.quote-is x b is))

if-true : {A : Type 0} (b : Bool) (x y : A) → b ≡ true → x ≡ (if b then x else y)
if-true b x y is = sym (ap (λ c. if c then x else y) is)

if-false : {A : Type 0} (b : Bool) (x y z : A) → b ≡ false → z ≡ y → z ≡ (if b then x else y)
if-false b x y z is same = same ∙ sym (ap (λ c. if c then x else y) is)

counted : (test : ℕ → Bool) (args : List Exp) (b : Bool) → test (length args) ≡ b → test (exp_count (exps_of args)) ≡ b
counted test args b is = ap test (exp_count-exps_of args) ∙ is

pub call-two : (name parting : List ℕ) (args : List Exp) → is_two_place name (length args) ≡ true → parting ≡ spaced name
    → between (codes "(") (parted parting (exp_texts (exps_of args))) (codes ")") ≡ exp_text (call name (exps_of args))
unfolding exp_text
call-two name parting args is same =
    ap (λ p. in_parens (parted p (exp_texts (exps_of args)))) same ∙ if-true (is_two_place name (exp_count (exps_of args))) _ _ (counted (is_two_place name) args true is)

pub call-word : (name : List ℕ) (args : List Exp) → is_two_place name (length args) ≡ false → is_prefix_word name (length args) ≡ true
    → (codes "(" ++ name) ++ between (codes " (") (parted comma (exp_texts (exps_of args))) (codes "))") ≡ exp_text (call name (exps_of args))
unfolding exp_text
call-word name args apart is =
    if-false (is_two_place name (exp_count (exps_of args))) _ _ _ (counted (is_two_place name) args false apart)
    (simp append_assoc (if-true (is_prefix_word name (exp_count (exps_of args))) _ _ (counted (is_prefix_word name) args true is)))

pub call-prefix : (name : List ℕ) (args : List Exp) → is_two_place name (length args) ≡ false → is_prefix_word name (length args) ≡ false → is_prefix_sign name (length args) ≡ true
    → (codes "(" ++ name) ++ between (codes "(") (parted comma (exp_texts (exps_of args))) (codes "))") ≡ exp_text (call name (exps_of args))
unfolding exp_text
call-prefix name args apart nor is =
    if-false (is_two_place name (exp_count (exps_of args))) _ _ _ (counted (is_two_place name) args false apart)
    (if-false (is_prefix_word name (exp_count (exps_of args))) _ _ _ (counted (is_prefix_word name) args false nor)
    (simp append_assoc (if-true (is_prefix_sign name (exp_count (exps_of args))) _ _ (counted (is_prefix_sign name) args true is))))

pub call-plain : (name : List ℕ) (args : List Exp) → is_two_place name (length args) ≡ false → is_prefix_word name (length args) ≡ false → is_prefix_sign name (length args) ≡ false
    → name_text name ++ between (codes "(") (parted comma (exp_texts (exps_of args))) (codes ")") ≡ exp_text (call name (exps_of args))
unfolding exp_text
call-plain name args apart nor neither =
    if-false (is_two_place name (exp_count (exps_of args))) _ _ _ (counted (is_two_place name) args false apart)
    (if-false (is_prefix_word name (exp_count (exps_of args))) _ _ _ (counted (is_prefix_word name) args false nor)
    (if-false (is_prefix_sign name (exp_count (exps_of args))) _ _ _ (counted (is_prefix_sign name) args false neither) refl))

pub quote-structure : (e : ExpTree) → is_structure e ≡ true → codes "$" ++ exp_text e ≡ exp_text (quote e)
unfolding exp_text
quote-structure e is = ap (λ t. codes "$" ++ t) (if-true (is_structure e) (exp_text e) (in_parens (exp_text e)) is)

pub quote-other : (e : ExpTree) (old new : List ℕ) → is_structure e ≡ false → new ≡ old ++ (codes "$" ++ in_parens (exp_text e)) → new ≡ old ++ exp_text (quote e)
unfolding exp_text
quote-other e old new is wrote = wrote ∙ ap (λ t. old ++ (codes "$" ++ t)) (if-false (is_structure e) (exp_text e) (in_parens (exp_text e)) (in_parens (exp_text e)) is refl)

pub structure-is : (x : Exp) (name text : List ℕ) (es : Vec Exp Global) (n : ℕ) (a b d : Bool) → x ≡ e.Call name es → text ≡ name → n ≡ length es.items
    → a ≡ is_two_place text n → b ≡ is_prefix_word text n → d ≡ is_prefix_sign text n → not (a || (b || d)) ≡ is_structure (exp_tree x)
structure-is x name text es n a b d is same count p q r =
    let k : n ≡ exp_count (exps_of es.items) = count ∙ sym (exp_count-exps_of es.items) in
    let of = λ (test : List ℕ → ℕ → Bool) (v : Bool) (h : v ≡ test text n). h ∙ (ap (λ t. test t n) same ∙ ap (test name) k) in
    ap (λ v. not (v || (b || d))) (of is_two_place a p)
    ∙ (ap (λ v. not (is_two_place name (exp_count (exps_of es.items)) || (v || d))) (of is_prefix_word b q)
    ∙ (ap (λ v. not (is_two_place name (exp_count (exps_of es.items)) || (is_prefix_word name (exp_count (exps_of es.items)) || v))) (of is_prefix_sign d r)
    ∙ ap is_structure (sym (tree.call-is x name es is))))
