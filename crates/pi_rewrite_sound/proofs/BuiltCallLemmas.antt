-- A call's test by its name and its arguments, as the code finds it: by the number of them, and by the form that it has.
use Rattle.std.proofs.Common.{◌≡◌, ℕ, suc, zero, Bool, true, false, not, ◌==◌, ◌&&◌, ◌<◌, ◌≤◌, cond, List, [], ◌∷◌, length, get_or, Option, Some, None, refl, sym, ◌∙◌, ap, arith}
use Rattle.std.proofs.lemmas.Bool.{false_from_ne_true, eqb-true}
use Rattle.pi_syntax.specs.ExpTree.{ExpTree, ExpTrees, no_exps, exp, exp_tree}
use Rattle.pi_syntax.specs.ExpLists.{exps_of}
use Rattle.pi_syntax.specs.Signature.{exp_count}
use Rattle.pi_syntax.specs.declared.exp.Exp.{Exp}
use Rattle.pi_syntax.proofs.ExpListLemmas.{exp_count-exps_of}
use Rattle.pi_meaning.specs.OverNames.Forms.{form_of, is_find_all, is_count_all, Form}
use Rattle.pi_rewrite_sound.specs.declared.forms.Form as code
use Rattle.pi_rewrite_sound.specs.Shown.{form_shown}
use Rattle.pi_rewrite_sound.specs.Built.{is_built_function, are_some, is_built_form, is_built_value_call, is_built_value, are_built_values, is_built_value_at, is_built_goal, is_built_goal_at, is_assigned, is_named}

-- a call as an expression, and as a goal
abbrev pub value_called : List ℕ → ExpTrees → Bool
value_called name ts = is_built_value_call name (exp_count ts) (are_built_values ts) (is_built_value_at ts) (is_built_goal_at ts)

abbrev pub goal_called : List ℕ → ExpTrees → Bool
goal_called name ts = is_built_form (form_of name (exp_count ts)) name (exp_count ts) (are_built_values ts) (is_built_value_at ts) (is_built_goal_at ts) && is_assigned (form_of name (exp_count ts)) ts

-- with the number of arguments that the vector has
pub value-counted : (name : List ℕ) (es : List Exp) (k : ℕ) (r : Bool) → k ≡ length es
    → r ≡ is_built_value_call name k (are_built_values (exps_of es)) (is_built_value_at (exps_of es)) (is_built_goal_at (exps_of es)) → r ≡ value_called name (exps_of es)
value-counted name es k r count is =
    is ∙ ap (λ n. is_built_value_call name n (are_built_values (exps_of es)) (is_built_value_at (exps_of es)) (is_built_goal_at (exps_of es))) (count ∙ sym (exp_count-exps_of es))

-- by the form that the code finds
abbrev tested_by : Option Form → List ℕ → List Exp → ℕ → Bool
tested_by form name es k = is_built_form form name k (are_built_values (exps_of es)) (is_built_value_at (exps_of es)) (is_built_goal_at (exps_of es)) && is_assigned form (exps_of es)

goal-formed : (name : List ℕ) (es : List Exp) (k : ℕ) (form : Option code.Form) (r : Bool) → k ≡ length es → form_shown form ≡ form_of name k → r ≡ tested_by (form_shown form) name es k → r ≡ goal_called name (exps_of es)
goal-formed name es k form r count formed is =
    is ∙ (ap (λ f. tested_by f name es k) formed ∙ ap (λ n. tested_by (form_of name n) name es n) (count ∙ sym (exp_count-exps_of es)))

pub goal-assigns : (name : List ℕ) (es : List Exp) (k : ℕ) (form : Option code.Form) (some kind : code.Form) (r : Bool) → k ≡ length es → form_shown form ≡ form_of name k → form ≡ Some some → some ≡ kind
    → r ≡ tested_by (form_shown (Some kind)) name es k → r ≡ goal_called name (exps_of es)
goal-assigns name es k form some kind r count formed is so tested =
    goal-formed name es k (Some kind) r count (sym (ap form_shown (is ∙ ap Some so)) ∙ formed) tested

and-no-more : (a b : Bool) → b ≡ true → a ≡ (a && b)
and-no-more true b h = sym h
and-no-more false b h = refl

-- of what is no assignment nothing more is asked
pub goal-of : (name : List ℕ) (es : List Exp) (k : ℕ) (form : Option code.Form) (some kind : code.Form) (r : Bool) → k ≡ length es → form_shown form ≡ form_of name k → form ≡ Some some → some ≡ kind → is_assigned (form_shown (Some kind)) (exps_of es) ≡ true
    → r ≡ is_built_form (form_shown (Some kind)) name k (are_built_values (exps_of es)) (is_built_value_at (exps_of es)) (is_built_goal_at (exps_of es)) → r ≡ goal_called name (exps_of es)
goal-of name es k form some kind r count formed is so none tested =
    goal-assigns name es k form some kind r count formed is so
    (tested ∙ and-no-more (is_built_form (form_shown (Some kind)) name k (are_built_values (exps_of es)) (is_built_value_at (exps_of es)) (is_built_goal_at (exps_of es))) (is_assigned (form_shown (Some kind)) (exps_of es)) none)

pub goal-of-none : (name : List ℕ) (es : List Exp) (k : ℕ) (form : Option code.Form) (r : Bool) → k ≡ length es → form_shown form ≡ form_of name k → form ≡ None
    → r ≡ is_built_form None name k (are_built_values (exps_of es)) (is_built_value_at (exps_of es)) (is_built_goal_at (exps_of es)) → r ≡ goal_called name (exps_of es)
goal-of-none name es k form r count formed is tested =
    goal-formed name es k None r count (sym (ap form_shown is) ∙ formed)
    (tested ∙ and-no-more (is_built_form None name k (are_built_values (exps_of es)) (is_built_value_at (exps_of es)) (is_built_goal_at (exps_of es))) true refl)

-- the three kinds of calls as an expression
pub finds : (name : List ℕ) (k : ℕ) (all : Bool) (value goal : ℕ → Bool) (find r s : Bool) → find ≡ is_find_all name k → find ≡ true → r ≡ value 0 → s ≡ goal 1 → (r && s) ≡ is_built_value_call name k all value goal
finds name k all value goal find r s tested found is so =
    ap (λ b. b && s) is ∙ (ap (λ b. value 0 && b) so
    ∙ sym (ap (λ b. cond b (value 0 && goal 1) (cond (is_count_all name k) (goal 0) (all && is_built_function name k))) (sym tested ∙ found)))

pub counts : (name : List ℕ) (k : ℕ) (all : Bool) (value goal : ℕ → Bool) (find count r : Bool) → find ≡ is_find_all name k → find ≡ false → count ≡ is_count_all name k → count ≡ true → r ≡ goal 0 → r ≡ is_built_value_call name k all value goal
counts name k all value goal find count r tested other counted found is =
    is ∙ sym (ap (λ b. cond b (value 0 && goal 1) (cond (is_count_all name k) (goal 0) (all && is_built_function name k))) (sym tested ∙ other)
    ∙ ap (λ b. cond b (goal 0) (all && is_built_function name k)) (sym counted ∙ found))

pub applies : (name : List ℕ) (k : ℕ) (all : Bool) (value goal : ℕ → Bool) (find count r s : Bool) → find ≡ is_find_all name k → find ≡ false → count ≡ is_count_all name k → count ≡ false → r ≡ all → s ≡ is_built_function name k → (r && s) ≡ is_built_value_call name k all value goal
applies name k all value goal find count r s tested other counted none is so =
    ap (λ b. b && s) is ∙ (ap (λ b. all && b) so
    ∙ sym (ap (λ b. cond b (value 0 && goal 1) (cond (is_count_all name k) (goal 0) (all && is_built_function name k))) (sym tested ∙ other)
    ∙ ap (λ b. cond b (goal 0) (all && is_built_function name k)) (sym counted ∙ none)))

-- ---- the argument at a place

-- a test of the one at a place, by a test of each
pub record IsAt (one : ExpTree → Bool) (at : ExpTrees → ℕ → Bool) : Type 0 where
  pub none : (i : ℕ) → at no_exps i ≡ false
  pub first : (e : ExpTree) (es : ExpTrees) → at (exp e es) zero ≡ one e
  pub later : (e : ExpTree) (es : ExpTrees) (i : ℕ) → at (exp e es) (suc i) ≡ at es i

pub at-value : IsAt is_built_value is_built_value_at
unfolding is_built_value is_built_value_at
at-value = record { none = λ i. refl; first = λ e es. refl; later = λ e es i. refl }

pub at-goal : IsAt is_built_goal is_built_goal_at
unfolding is_built_goal is_built_goal_at
at-goal = record { none = λ i. refl; first = λ e es. refl; later = λ e es i. refl }

pub there : (one : ExpTree → Bool) (at : ExpTrees → ℕ → Bool) → IsAt one at → (es : List Exp) (i : ℕ) (x : Exp) (r : Bool) → i < length es → x ≡ get_or es i x → r ≡ one (exp_tree x) → r ≡ at (exps_of es) i
there one at by [] i x r h is tested = absurd (omega arith)
there one at by (y ∷ es) zero x r h is tested = tested ∙ (ap (λ z. one (exp_tree z)) is ∙ sym (by.first (exp_tree y) (exps_of es)))
there one at by (y ∷ es) (suc i) x r h is tested = there one at by es i x r (omega arith) is tested ∙ sym (by.later (exp_tree y) (exps_of es) i)

pub past : (one : ExpTree → Bool) (at : ExpTrees → ℕ → Bool) → IsAt one at → (es : List Exp) (i : ℕ) → length es ≤ i → false ≡ at (exps_of es) i
past one at by [] i h = sym (by.none i)
past one at by (y ∷ es) zero h = absurd (omega arith)
past one at by (y ∷ es) (suc i) h = past one at by es i (omega arith) ∙ sym (by.later (exp_tree y) (exps_of es) i)

one-more : (n : ℕ) → not (suc n == 0) ≡ true
one-more n = ap not (false_from_ne_true (suc n == 0) (λ e. let h : suc n ≡ 0 = eqb-true (suc n) 0 e in absurd (omega arith)))

pub some-listed : (es : List Exp) → not (length es == 0) ≡ are_some (exps_of es)
some-listed [] = refl
some-listed (x ∷ es) = one-more (length es)

pub named-listed : (name : List ℕ) → not (length name == 0) ≡ is_named name
named-listed [] = refl
named-listed (c ∷ name) = one-more (length name)
