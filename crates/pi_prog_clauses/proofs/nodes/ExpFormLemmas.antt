-- The forms of expressions, over the vectors and boxes that hold their parts.
use Rattle.std.proofs.Common.{◌≡◌, ℕ, Bool, false, List, [], ◌∷◌, ◌<◌, length, get_or, Option, None, Some, refl, ap, sym, ◌∙◌, arith}
use Rattle.std.specs.Prelude.{Vec}
use Rattle.std.specs.declared.alloc.Global.{Global}
use Rattle.std.specs.declared.boxed.Box.{Box}
use Rattle.pi_syntax.specs.ExpTree.{ExpTree, ExpTrees, no_exps, exp, ExpBranches, list_before, range_with, if_with, exp_tree}
use Rattle.pi_syntax.specs.ExpLists.{exps_of}
use Rattle.pi_syntax.specs.Signature.{exp_count}
use Rattle.pi_syntax.specs.declared.exp.Exp as e
use Rattle.pi_syntax.specs.declared.exp.Exp.{Exp}
use Rattle.pi_syntax.proofs.ExpListLemmas.{exp_count-exps_of}
use Rattle.pi_prog_clauses.specs.Form.{Form, form_of, calling, value, ranging, control, has_variable_first, is_event_call, is_event_of_one_form, is_event_of_two_form}
use Rattle.pi_prog_clauses.specs.Items.{is_variable}
use Rattle.pi_prog_clauses.proofs.clause.ExpTreeLemmas.{list-tree, call-tree, range-tree, if-tree}

list_is_value : (es : ExpTrees) (tail : Option ExpTree) → form_of (list_before es tail) ≡ value
list_is_value es None = refl
list_is_value es (Some e) = refl

range_is_range : (a : ExpTree) (step : Option ExpTree) (b : ExpTree) → form_of (range_with a step b) ≡ ranging
range_is_range a None b = refl
range_is_range a (Some e) b = refl

if_is_control : (bs : ExpBranches) (last : Option ExpTree) → form_of (if_with bs last) ≡ control
if_is_control bs None = refl
if_is_control bs (Some e) = refl

pub form-list : (x : Exp) (es : Vec Exp Global) (tail : Option (Box Exp Global)) → x ≡ e.List es tail → value ≡ form_of (exp_tree x)
form-list x es tail is = sym (ap form_of (ap exp_tree is ∙ list-tree es tail) ∙ list_is_value _ _)

pub form-range : (x : Exp) (a : Box Exp Global) (step : Option (Box Exp Global)) (b : Box Exp Global) → x ≡ e.Range a step b → ranging ≡ form_of (exp_tree x)
form-range x a step b is = sym (ap form_of (ap exp_tree is ∙ range-tree a step b) ∙ range_is_range _ _ _)

pub form-if : (x : Exp) (bs : Vec (Exp × Exp) Global) (last : Option (Box Exp Global)) → x ≡ e.If bs last → control ≡ form_of (exp_tree x)
form-if x bs last is = sym (ap form_of (ap exp_tree is ∙ if-tree bs last) ∙ if_is_control _ _)

pub form-call : (x : Exp) (name other : List ℕ) (es : Vec Exp Global) (n : ℕ) (xs : List Exp) → x ≡ e.Call name es → other ≡ name → n ≡ length es.items
    → xs ≡ es.items → calling other n (exps_of xs) ≡ form_of (exp_tree x)
form-call x name other es n xs is same count items =
    let count2 : n ≡ exp_count (exps_of es.items) = count ∙ sym (exp_count-exps_of es.items) in
    ap (λ m. calling m n (exps_of xs)) same ∙ ap (λ m. calling name m (exps_of xs)) count2 ∙ ap (λ ys. calling name (exp_count (exps_of es.items)) (exps_of ys)) items
    ∙ sym (ap form_of (ap exp_tree is ∙ call-tree name es))

-- the first of some arguments
pub variable_first : (xs : List Exp) (x : Exp) (b : Bool) → 0 < length xs → x ≡ get_or xs 0 x → b ≡ is_variable (exp_tree x) → b ≡ has_variable_first (exps_of xs)
variable_first [] x b h at is = absurd (omega arith)
variable_first (y ∷ ys) x b h at is = is ∙ ap (λ z. is_variable (exp_tree z)) at

pub no_variable_first : (xs : List Exp) → length xs ≡ 0 → false ≡ has_variable_first (exps_of xs)
no_variable_first [] h = refl
no_variable_first (x ∷ xs) h = absurd (omega arith)

-- one argument, and two
pub one_argument : (xs : List Exp) (x : Exp) → length xs ≡ 1 → x ≡ get_or xs 0 x → exps_of xs ≡ exp (exp_tree x) no_exps
one_argument [] x h at = absurd (omega arith)
one_argument (y ∷ []) x h at = ap (λ z. exp (exp_tree z) no_exps) (sym at)
one_argument (y ∷ (z ∷ zs)) x h at = absurd (omega arith)

pub two_arguments : (xs : List Exp) (x y : Exp) → length xs ≡ 2 → x ≡ get_or xs 0 x → y ≡ get_or xs 1 y → exps_of xs ≡ exp (exp_tree x) (exp (exp_tree y) no_exps)
two_arguments [] x y h at next = absurd (omega arith)
two_arguments (a ∷ []) x y h at next = absurd (omega arith)
two_arguments (a ∷ (b ∷ [])) x y h at next = ap (λ z. exp (exp_tree z) (exp (exp_tree b) no_exps)) (sym at) ∙ ap (λ z. exp (exp_tree x) (exp (exp_tree z) no_exps)) (sym next)
two_arguments (a ∷ (b ∷ (z ∷ zs))) x y h at next = absurd (omega arith)

pub event_with_one : (occurs : List ℕ → Bool) (name : List ℕ) (xs : List Exp) (x : Exp) (f : Form) (b : Bool) → length xs ≡ 1 → x ≡ get_or xs 0 x → f ≡ form_of (exp_tree x)
    → b ≡ is_event_of_one_form occurs name f → b ≡ is_event_call occurs name (exps_of xs)
event_with_one occurs name xs x f b h at of is =
    is ∙ ap (is_event_of_one_form occurs name) of ∙ sym (ap (is_event_call occurs name) (one_argument xs x h at))

pub event_with_two : (occurs : List ℕ → Bool) (name : List ℕ) (xs : List Exp) (x y : Exp) (f g : Form) (b : Bool) → length xs ≡ 2 → x ≡ get_or xs 0 x → y ≡ get_or xs 1 y
    → f ≡ form_of (exp_tree x) → g ≡ form_of (exp_tree y)
    → b ≡ is_event_of_two_form occurs name f g → b ≡ is_event_call occurs name (exps_of xs)
event_with_two occurs name xs x y f g b h at next of of_message is =
    is ∙ ap (λ k. is_event_of_two_form occurs name k g) of ∙ ap (is_event_of_two_form occurs name (form_of (exp_tree x))) of_message
    ∙ sym (ap (is_event_call occurs name) (two_arguments xs x y h at next))

pub event_with_others : (occurs : List ℕ → Bool) (name : List ℕ) (xs : List Exp) → (length xs ≡ 1 → ⊥) → (length xs ≡ 2 → ⊥) → false ≡ is_event_call occurs name (exps_of xs)
event_with_others occurs name [] h k = refl
event_with_others occurs name (a ∷ []) h k = absurd (h refl)
event_with_others occurs name (a ∷ (b ∷ [])) h k = absurd (k refl)
event_with_others occurs name (a ∷ (b ∷ (z ∷ zs))) h k = refl
