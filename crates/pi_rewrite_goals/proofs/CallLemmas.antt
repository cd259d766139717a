-- Calls by their form, over their arguments.
use Rattle.std.proofs.Common.{◌≡◌, ℕ, Bool, true, false, cond, List, [], ◌∷◌, ◌++◌, length, get_or, None, Some, refl, sym, ◌∙◌, ap, subst, arith}
use Rattle.std.proofs.lemmas.Bool.{eqb-true, cond-true, cond-false}
use Rattle.std.proofs.lemmas.List.{append-nil}
use Rattle.std.specs.Prelude.{◌==◌, ◌&&◌, Option, codes}
use Rattle.std.specs.Str.{bytes_eq}
use Rattle.pi_core.specs.GoalTree.{GoalTree}
use Rattle.pi_core.specs.CoreTree.{PredTree}
use Rattle.pi_syntax.specs.ExpTree.{ExpTree, ExpTrees, no_exps, exp, exp_tree}
use Rattle.pi_syntax.specs.ExpLists.{exps_of}
use Rattle.pi_syntax.specs.Signature.{exp_count}
use Rattle.pi_syntax.specs.declared.exp.Exp.{Exp}
use Rattle.pi_meaning.specs.OverNames.Forms.{Form, negation, once, assignment, catch, by_term, membership, form_of, readings, is_find_all, is_count_all}
use Rattle.pi_meaning.specs.OverNames.Texts.{places, places_all, variable_first}
use Rattle.pi_rewrite_spec.specs.Slots.{SlotNames}
use Rattle.pi_rewrite_spec.specs.Goals.{SlotParts, goal_by, goals_at, value_at, assigned, catching, called, never, found_by, all_counted}
use Rattle.pi_rewrite_spec.specs.Values.{SlotValue, applied}
use Rattle.pi_rewrite_spec.specs.Sites.{Site, helpers_in, behind_site, behind_exp, following_sites, value_sites}
use Rattle.pi_rewrite_spec.specs.Written.{made_as, goal_of, arguments_as, arguments}
use Rattle.pi_rewrite_spec.specs.Helpers.{HelperParts, helpers_at, value_helpers, goal_helpers, all_helpers}
use Rattle.pi_rewrite_goals.specs.Lowering.{value_of, parts_at, helpers_by, goal_with, value_with, goal_helpers_with, value_helpers_with, call_as_goal, call_as_value, call_goal_helpers, call_value_helpers}
use Rattle.pi_rewrite_goals.specs.Calls.{IsForm, HasCount, is_plain}
use Rattle.pi_rewrite_goals.specs.declared.calls.CallForm.{CallForm}
use Rattle.pi_rewrite_goals.proofs.PartLemmas.{count-exps}
use Rattle.pi_rewrite_goals.proofs.FormLemmas.{value-found, value-counted, value-applied}

-- ---- so many arguments

pub one-item : (es : List Exp) (x : Exp) → length es ≡ 1 → x ≡ get_or es 0 x → es ≡ x ∷ []
one-item [] x count is = absurd (omega (arith, count))
one-item (e ∷ []) x count is = ap (λ y. y ∷ []) (sym is)
one-item (e ∷ f ∷ es) x count is = absurd (omega (arith, count))

pub two-items : (es : List Exp) (x y : Exp) → length es ≡ 2 → x ≡ get_or es 0 x → y ≡ get_or es 1 y → es ≡ x ∷ y ∷ []
two-items [] x y count is second = absurd (omega (arith, count))
two-items (e ∷ []) x y count is second = absurd (omega (arith, count))
two-items (e ∷ f ∷ []) x y count is second = ap (λ z. z ∷ f ∷ []) (sym is) ∙ ap (λ z. x ∷ z ∷ []) (sym second)
two-items (e ∷ f ∷ g ∷ es) x y count is second = absurd (omega (arith, count))

pub three-items : (es : List Exp) (x y z : Exp) → length es ≡ 3 → x ≡ get_or es 0 x → y ≡ get_or es 1 y → z ≡ get_or es 2 z → es ≡ x ∷ y ∷ z ∷ []
three-items [] x y z count is second third = absurd (omega (arith, count))
three-items (e ∷ []) x y z count is second third = absurd (omega (arith, count))
three-items (e ∷ f ∷ []) x y z count is second third = absurd (omega (arith, count))
three-items (e ∷ f ∷ g ∷ []) x y z count is second third = ap (λ w. w ∷ f ∷ g ∷ []) (sym is) ∙ (ap (λ w. x ∷ w ∷ g ∷ []) (sym second) ∙ ap (λ w. x ∷ y ∷ w ∷ []) (sym third))
three-items (e ∷ f ∷ g ∷ h ∷ es) x y z count is second third = absurd (omega (arith, count))

-- ---- goals

-- what code found of a call with n arguments
pub record Found (name : List ℕ) (es : List Exp) (n : ℕ) (f : CallForm) : Type 0 where
  pub same : n ≡ length es
  pub has : HasCount f n
  pub is : IsForm f (form_of name n)

goal-form : (s : Site) (name : List ℕ) (es : List Exp) (n : ℕ) (form : Option Form) (ns : SlotNames) → n ≡ length es → form_of name n ≡ form → call_as_goal s name (exps_of es) ns ≡ goal_with form s name (exps_of es) ns
unfolding call_as_goal
goal-form s name es n form ns same is =
    ap (λ k. goal_with (form_of name k) s name (exps_of es) ns) (count-exps es ∙ sym same) ∙ ap (λ (f : Option Form). goal_with f s name (exps_of es) ns) is

helpers-form : (s : Site) (name : List ℕ) (es : List Exp) (n : ℕ) (form : Option Form) → n ≡ length es → form_of name n ≡ form → call_goal_helpers s name (exps_of es) ≡ goal_helpers_with form s (exps_of es)
unfolding call_goal_helpers
helpers-form s name es n form same is =
    ap (λ k. goal_helpers_with (form_of name k) s (exps_of es)) (count-exps es ∙ sym same) ∙ ap (λ (f : Option Form). goal_helpers_with f s (exps_of es)) is

abbrev formed : (f form : CallForm) (name : List ℕ) (n : ℕ) → IsForm f (form_of name n) → f ≡ form → IsForm form (form_of name n)
formed f form name n is by = subst (λ (g : CallForm). IsForm g (form_of name n)) by is

abbrev counted : (f form : CallForm) (n : ℕ) → HasCount f n → f ≡ form → HasCount form n
counted f form n has by = subst (λ (g : CallForm). HasCount g n) by has

pub goal-not : (s : Site) (name : List ℕ) (es : List Exp) (n : ℕ) (f : CallForm) (x : Exp) (ns : SlotNames) → Found name es n f → f ≡ CallForm.Negation → x ≡ get_or es 0 x → call_as_goal s name (exps_of es) ns ≡ goal_by GoalTree.not (goal_of s (exp_tree x) ns)
unfolding made_as goals_at following_sites
goal-not s name es n f x ns found by at =
    goal-form s name es n (Some negation) ns found.same (formed f CallForm.Negation name n found.is by)
    ∙ ap (λ xs. goal_with (Some negation) s name (exps_of xs) ns) (one-item es x (sym found.same ∙ counted f CallForm.Negation n found.has by) at)

pub helpers-not : (s : Site) (name : List ℕ) (es : List Exp) (n : ℕ) (f : CallForm) (x : Exp) → Found name es n f → f ≡ CallForm.Negation → x ≡ get_or es 0 x → call_goal_helpers s name (exps_of es) ≡ goal_helpers s (exp_tree x)
unfolding value_helpers helpers_at following_sites
helpers-not s name es n f x found by at =
    helpers-form s name es n (Some negation) found.same (formed f CallForm.Negation name n found.is by)
    ∙ ap (λ xs. goal_helpers_with (Some negation) s (exps_of xs)) (one-item es x (sym found.same ∙ counted f CallForm.Negation n found.has by) at)

pub goal-once : (s : Site) (name : List ℕ) (es : List Exp) (n : ℕ) (f : CallForm) (x : Exp) (ns : SlotNames) → Found name es n f → f ≡ CallForm.Once → x ≡ get_or es 0 x → call_as_goal s name (exps_of es) ns ≡ goal_by GoalTree.once (goal_of s (exp_tree x) ns)
unfolding made_as goals_at following_sites
goal-once s name es n f x ns found by at =
    goal-form s name es n (Some once) ns found.same (formed f CallForm.Once name n found.is by)
    ∙ ap (λ xs. goal_with (Some once) s name (exps_of xs) ns) (one-item es x (sym found.same ∙ counted f CallForm.Once n found.has by) at)

pub helpers-once : (s : Site) (name : List ℕ) (es : List Exp) (n : ℕ) (f : CallForm) (x : Exp) → Found name es n f → f ≡ CallForm.Once → x ≡ get_or es 0 x → call_goal_helpers s name (exps_of es) ≡ goal_helpers s (exp_tree x)
unfolding value_helpers helpers_at following_sites
helpers-once s name es n f x found by at =
    helpers-form s name es n (Some once) found.same (formed f CallForm.Once name n found.is by)
    ∙ ap (λ xs. goal_helpers_with (Some once) s (exps_of xs)) (one-item es x (sym found.same ∙ counted f CallForm.Once n found.has by) at)

pub goal-assigned : (s : Site) (name : List ℕ) (es : List Exp) (n : ℕ) (f : CallForm) (x y : Exp) (ns : SlotNames) → Found name es n f → f ≡ CallForm.Assignment → x ≡ get_or es 0 x → y ≡ get_or es 1 y →
    call_as_goal s name (exps_of es) ns ≡ assigned (variable_first (exp (exp_tree x) (exp (exp_tree y) no_exps))) (value_of (behind_exp s (exp_tree x)) (exp_tree y) ns)
unfolding made_as value_at following_sites
goal-assigned s name es n f x y ns found by at second =
    goal-form s name es n (Some assignment) ns found.same (formed f CallForm.Assignment name n found.is by)
    ∙ ap (λ xs. goal_with (Some assignment) s name (exps_of xs) ns) (two-items es x y (sym found.same ∙ counted f CallForm.Assignment n found.has by) at second)

pub helpers-assigned : (s : Site) (name : List ℕ) (es : List Exp) (n : ℕ) (f : CallForm) (x y : Exp) → Found name es n f → f ≡ CallForm.Assignment → x ≡ get_or es 0 x → y ≡ get_or es 1 y →
    call_goal_helpers s name (exps_of es) ≡ value_helpers (behind_exp s (exp_tree x)) (exp_tree y)
unfolding value_helpers helpers_at following_sites
helpers-assigned s name es n f x y found by at second =
    helpers-form s name es n (Some assignment) found.same (formed f CallForm.Assignment name n found.is by)
    ∙ ap (λ xs. goal_helpers_with (Some assignment) s (exps_of xs)) (two-items es x y (sym found.same ∙ counted f CallForm.Assignment n found.has by) at second)

-- where the parts of a `catch` stand
abbrev pub ball_site : Site → ExpTree → Site
ball_site s g = behind_site s (places g) 0

abbrev pub handler_site : Site → ExpTree → ExpTree → Site
handler_site s g ball = behind_site (behind_exp (behind_exp s ball) g) (places ball) 0

pub goal-catch : (s : Site) (name : List ℕ) (es : List Exp) (n : ℕ) (f : CallForm) (x y z : Exp) (ns : SlotNames) → Found name es n f → f ≡ CallForm.Catch → x ≡ get_or es 0 x → y ≡ get_or es 1 y → z ≡ get_or es 2 z →
    call_as_goal s name (exps_of es) ns ≡ catching (goal_of (behind_exp s (exp_tree y)) (exp_tree x)) (goal_of (handler_site s (exp_tree x) (exp_tree y)) (exp_tree z)) (value_of (ball_site s (exp_tree x)) (exp_tree y) ns)
unfolding made_as goals_at value_at
goal-catch s name es n f x y z ns found by at second third =
    goal-form s name es n (Some catch) ns found.same (formed f CallForm.Catch name n found.is by)
    ∙ ap (λ xs. goal_with (Some catch) s name (exps_of xs) ns) (three-items es x y z (sym found.same ∙ counted f CallForm.Catch n found.has by) at second third)

pub helpers-catch : (s : Site) (name : List ℕ) (es : List Exp) (n : ℕ) (f : CallForm) (x y z : Exp) → Found name es n f → f ≡ CallForm.Catch → x ≡ get_or es 0 x → y ≡ get_or es 1 y → z ≡ get_or es 2 z →
    call_goal_helpers s name (exps_of es) ≡ value_helpers (ball_site s (exp_tree x)) (exp_tree y) ++ (goal_helpers (behind_exp s (exp_tree y)) (exp_tree x) ++ goal_helpers (handler_site s (exp_tree x) (exp_tree y)) (exp_tree z))
unfolding value_helpers helpers_at
helpers-catch s name es n f x y z found by at second third =
    helpers-form s name es n (Some catch) found.same (formed f CallForm.Catch name n found.is by)
    ∙ ap (λ xs. goal_helpers_with (Some catch) s (exps_of xs)) (three-items es x y z (sym found.same ∙ counted f CallForm.Catch n found.has by) at second third)

pub goal-never : (s : Site) (name : List ℕ) (es : List Exp) (n : ℕ) (f : CallForm) (ns : SlotNames) → Found name es n f → f ≡ CallForm.Never → call_as_goal s name (exps_of es) ns ≡ never ns
goal-never s name es n f ns found by = goal-form s name es n (Some membership) ns found.same (formed f CallForm.Never name n found.is by)

pub helpers-never : (s : Site) (name : List ℕ) (es : List Exp) (n : ℕ) (f : CallForm) → Found name es n f → f ≡ CallForm.Never → call_goal_helpers s name (exps_of es) ≡ []
helpers-never s name es n f found by = helpers-form s name es n (Some membership) found.same (formed f CallForm.Never name n found.is by)

apart : false ≡ true → ⊥
apart h = cc

plain-goals : (form : Option Form) (s : Site) (name : List ℕ) (es : ExpTrees) (ns : SlotNames) → is_plain form ≡ true → goal_with form s name es ns ≡ called name (arguments_as s (readings name (exp_count es)) es ns)
plain-goals None s name es ns plain = refl
plain-goals (Some negation) s name es ns plain = absurd (apart plain)
plain-goals (Some once) s name es ns plain = absurd (apart plain)
plain-goals (Some assignment) s name es ns plain = absurd (apart plain)
plain-goals (Some catch) s name es ns plain = absurd (apart plain)
plain-goals (Some by_term) s name es ns plain = refl
plain-goals (Some membership) s name es ns plain = absurd (apart plain)

plain-helpers : (form : Option Form) (s : Site) (es : ExpTrees) → is_plain form ≡ true → goal_helpers_with form s es ≡ all_helpers s es
plain-helpers None s es plain = refl
plain-helpers (Some negation) s es plain = absurd (apart plain)
plain-helpers (Some once) s es plain = absurd (apart plain)
plain-helpers (Some assignment) s es plain = absurd (apart plain)
plain-helpers (Some catch) s es plain = absurd (apart plain)
plain-helpers (Some by_term) s es plain = refl
plain-helpers (Some membership) s es plain = absurd (apart plain)

pub goal-plain : (s : Site) (name : List ℕ) (es : List Exp) (n : ℕ) (f : CallForm) (ns : SlotNames) → Found name es n f → f ≡ CallForm.Plain →
    call_as_goal s name (exps_of es) ns ≡ called name (arguments_as s (readings name (length es)) (exps_of es) ns)
goal-plain s name es n f ns found by =
    goal-form s name es n (form_of name n) ns found.same refl ∙ (plain-goals (form_of name n) s name (exps_of es) ns (formed f CallForm.Plain name n found.is by)
    ∙ ap (λ k. called name (arguments_as s (readings name k) (exps_of es) ns)) (count-exps es))

pub helpers-plain : (s : Site) (name : List ℕ) (es : List Exp) (n : ℕ) (f : CallForm) → Found name es n f → f ≡ CallForm.Plain → call_goal_helpers s name (exps_of es) ≡ all_helpers s (exps_of es)
helpers-plain s name es n f found by =
    helpers-form s name es n (form_of name n) found.same refl ∙ plain-helpers (form_of name n) s (exps_of es) (formed f CallForm.Plain name n found.is by)

-- ---- values

and-first : (a b : Bool) → (a && b) ≡ true → a ≡ true
and-first true b h = refl
and-first false b h = absurd (apart h)

pub count-is : (n k : ℕ) (b : Bool) → (n == k && b) ≡ true → n ≡ k
count-is n k b holds = eqb-true n k (and-first (n == k) b holds)

-- where the expression of a `find_all` stands
abbrev pub item_site : Site → ExpTree → Site
item_site s g = behind_site s (places_all (exp g no_exps)) (helpers_in g)

item-behind : (s : Site) (g : ExpTree) → item_site s g ≡ behind_exp s g
unfolding places
item-behind s g = ap (λ ns. behind_site s ns (helpers_in g)) (append-nil (places g))

value-form : (s : Site) (name : List ℕ) (es : List Exp) (finds : Bool) (ns : SlotNames) → is_find_all name (length es) ≡ finds → call_as_value s name (exps_of es) ns ≡ value_with finds s name (exps_of es) ns
unfolding call_as_value
value-form s name es finds ns is = ap (λ b. value_with b s name (exps_of es) ns) (ap (is_find_all name) (count-exps es) ∙ is)

helpers-value : (s : Site) (name : List ℕ) (es : List Exp) (finds : Bool) → is_find_all name (length es) ≡ finds → call_value_helpers s name (exps_of es) ≡ value_helpers_with finds s name (exps_of es)
unfolding call_value_helpers
helpers-value s name es finds is = ap (λ b. value_helpers_with b s name (exps_of es)) (ap (is_find_all name) (count-exps es) ∙ is)

abbrev value_parts : Bool → Site → List Exp → SlotParts
value_parts finds s es = parts_at (value_sites finds s (exps_of es)) s [] (exps_of es)

abbrev value_helper_parts : Bool → Site → List Exp → HelperParts
value_helper_parts finds s es = helpers_by (value_sites finds s (exps_of es)) s (exps_of es)

abbrev found_in : Site → List Exp → SlotNames → SlotValue
found_in s es ns = found_by (goals_at (value_parts true s es).goals 1 ns) (value_at (value_parts true s es).values 0)

abbrev found_helpers_in : Site → List Exp → List PredTree
found_helpers_in s es = helpers_at (value_helper_parts true s es).goals 1 ++ helpers_at (value_helper_parts true s es).values 0

pub value-collected : (s : Site) (name : List ℕ) (es : List Exp) (x y : Exp) (ns : SlotNames) → is_find_all name (length es) ≡ true → x ≡ get_or es 0 x → y ≡ get_or es 1 y →
    call_as_value s name (exps_of es) ns ≡ found_by (goal_of (ball_site s (exp_tree x)) (exp_tree y) ns) (λ ms. value_of (behind_exp s (exp_tree y)) (exp_tree x) ms)
unfolding made_as goals_at value_at
value-collected s name es x y ns holds at second =
    value-form s name es true ns holds
    ∙ (value-found name (exp_count (exps_of es)) (length es) (value_parts true s es) ns (sym (count-exps es)) holds
    ∙ (ap (λ xs. found_in s xs ns) (two-items es x y (count-is (length es) 2 (bytes_eq name (codes "find_all")) holds) at second)
    ∙ ap (λ (t : Site). found_by (goal_of (ball_site s (exp_tree x)) (exp_tree y) ns) (λ ms. value_of t (exp_tree x) ms)) (item-behind s (exp_tree y))))

pub helpers-collected : (s : Site) (name : List ℕ) (es : List Exp) (x y : Exp) → is_find_all name (length es) ≡ true → x ≡ get_or es 0 x → y ≡ get_or es 1 y →
    call_value_helpers s name (exps_of es) ≡ goal_helpers (ball_site s (exp_tree x)) (exp_tree y) ++ value_helpers (behind_exp s (exp_tree y)) (exp_tree x)
unfolding value_helpers helpers_at
helpers-collected s name es x y holds at second =
    helpers-value s name es true holds
    ∙ (cond-true (is_find_all name (exp_count (exps_of es))) (found_helpers_in s es) (cond (is_count_all name (exp_count (exps_of es))) (helpers_at (value_helper_parts true s es).goals 0) (all_helpers s (exps_of es))) (ap (is_find_all name) (count-exps es) ∙ holds)
    ∙ (ap (λ xs. found_helpers_in s xs) (two-items es x y (count-is (length es) 2 (bytes_eq name (codes "find_all")) holds) at second)
    ∙ ap (λ (t : Site). goal_helpers (ball_site s (exp_tree x)) (exp_tree y) ++ value_helpers t (exp_tree x)) (item-behind s (exp_tree y))))

pub value-count : (s : Site) (name : List ℕ) (es : List Exp) (x : Exp) (ns : SlotNames) → is_find_all name (length es) ≡ false → is_count_all name (length es) ≡ true → x ≡ get_or es 0 x → call_as_value s name (exps_of es) ns ≡ all_counted (goal_of s (exp_tree x) ns)
unfolding made_as goals_at following_sites
value-count s name es x ns fails holds at =
    value-form s name es false ns fails
    ∙ (value-counted name (exp_count (exps_of es)) (length es) (value_parts false s es) ns (sym (count-exps es)) fails holds
    ∙ ap (λ xs. all_counted (goals_at (value_parts false s xs).goals 0 ns)) (one-item es x (count-is (length es) 1 (bytes_eq name (codes "count_all")) holds) at))

abbrev rest_of : List ℕ → ℕ → HelperParts → List PredTree
rest_of name k parts = cond (is_count_all name k) (helpers_at parts.goals 0) parts.all

helpers-behind : (s : Site) (name : List ℕ) (es : List Exp) → is_find_all name (length es) ≡ false → call_value_helpers s name (exps_of es) ≡ rest_of name (length es) (value_helper_parts false s es)
helpers-behind s name es fails =
    helpers-value s name es false fails
    ∙ (cond-false (is_find_all name (exp_count (exps_of es))) (helpers_at (value_helper_parts false s es).goals 1 ++ helpers_at (value_helper_parts false s es).values 0) (rest_of name (exp_count (exps_of es)) (value_helper_parts false s es)) (ap (is_find_all name) (count-exps es) ∙ fails)
    ∙ ap (λ k. rest_of name k (value_helper_parts false s es)) (count-exps es))

pub helpers-count : (s : Site) (name : List ℕ) (es : List Exp) (x : Exp) → is_find_all name (length es) ≡ false → is_count_all name (length es) ≡ true → x ≡ get_or es 0 x → call_value_helpers s name (exps_of es) ≡ goal_helpers s (exp_tree x)
unfolding value_helpers helpers_at following_sites
helpers-count s name es x fails holds at =
    helpers-behind s name es fails
    ∙ (cond-true (is_count_all name (length es)) (helpers_at (value_helper_parts false s es).goals 0) (all_helpers s (exps_of es)) holds
    ∙ ap (λ xs. helpers_at (value_helper_parts false s xs).goals 0) (one-item es x (count-is (length es) 1 (bytes_eq name (codes "count_all")) holds) at))

pub value-apply : (s : Site) (name : List ℕ) (es : List Exp) (ns : SlotNames) → is_find_all name (length es) ≡ false → is_count_all name (length es) ≡ false → call_as_value s name (exps_of es) ns ≡ applied name (arguments s (exps_of es) ns)
value-apply s name es ns fails nor =
    value-form s name es false ns fails ∙ value-applied name (exp_count (exps_of es)) (length es) (value_parts false s es) ns (sym (count-exps es)) fails nor

pub helpers-apply : (s : Site) (name : List ℕ) (es : List Exp) → is_find_all name (length es) ≡ false → is_count_all name (length es) ≡ false → call_value_helpers s name (exps_of es) ≡ all_helpers s (exps_of es)
helpers-apply s name es fails nor =
    helpers-behind s name es fails ∙ cond-false (is_count_all name (length es)) (helpers_at (value_helper_parts false s es).goals 0) (all_helpers s (exps_of es)) nor

-- ---- a call as an expression's tree says it

pub goal-call-helpers : (s : Site) (e : ExpTree) (name label : List ℕ) (es : ExpTrees) → e ≡ ExpTree.call name es → label ≡ name → goal_helpers s e ≡ call_goal_helpers s label es
unfolding value_helpers call_goal_helpers
goal-call-helpers s e name label es p same = ap (goal_helpers s) p ∙ ap (λ l. goal_helpers_with (form_of l (exp_count es)) s es) (sym same)

pub value-call-helpers : (s : Site) (e : ExpTree) (name label : List ℕ) (es : ExpTrees) → e ≡ ExpTree.call name es → label ≡ name → value_helpers s e ≡ call_value_helpers s label es
unfolding value_helpers call_value_helpers
value-call-helpers s e name label es p same = ap (value_helpers s) p ∙ ap (λ l. value_helpers_with (is_find_all l (exp_count es)) s l es) (sym same)

-- where the parts of a `catch` stand, by what code has
pub caught-helpers : (s b g h : Site) (x y z : ExpTree) → b ≡ ball_site s x → g ≡ behind_exp s y → h ≡ handler_site s x y →
    (value_helpers (ball_site s x) y ++ (goal_helpers (behind_exp s y) x ++ goal_helpers (handler_site s x y) z)) ≡ (value_helpers b y ++ (goal_helpers g x ++ goal_helpers h z))
caught-helpers s b g h x y z first second third =
    ap (λ w. value_helpers w y ++ (goal_helpers (behind_exp s y) x ++ goal_helpers (handler_site s x y) z)) (sym first)
    ∙ (ap (λ w. value_helpers b y ++ (goal_helpers w x ++ goal_helpers (handler_site s x y) z)) (sym second) ∙ ap (λ w. value_helpers b y ++ (goal_helpers g x ++ goal_helpers w z)) (sym third))
