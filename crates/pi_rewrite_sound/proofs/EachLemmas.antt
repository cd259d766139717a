-- Tests of all expressions of a list, by a loop that goes on while the next one passes.
use Rattle.std.proofs.Common.{◌≡◌, ℕ, ◌+◌, ◌<◌, ◌≤◌, Bool, true, false, ◌&&◌, List, [], ◌∷◌, length, get_or, drop, refl, sym, ◌∙◌, ap}
use Rattle.std.proofs.lemmas.List.{drop_more, drop_all}
use Rattle.pi_syntax.specs.ExpTree.{ExpTree, ExpTrees, exp_tree}
use Rattle.pi_syntax.specs.ExpLists.{exps_of}
use Rattle.pi_syntax.specs.declared.exp.Exp.{Exp}
use Rattle.pi_meaning.specs.OverNames.Texts.{iterated}
use Rattle.pi_rewrite_slots.specs.Branches.{branches_in}
use Rattle.pi_rewrite_sound.specs.Built.{is_built_term, are_built_terms, is_built_pattern, are_built_patterns, is_built_value, are_built_values, is_built_goal, are_built_goals, is_built_branch, are_built_branches, have_built_goals, is_built_unit, is_built_collection, are_built_units}

-- ---- any test

-- what a list passes where each of its items passes a test
pub record IsEach (A : Type 0) (one : A → Bool) (all : List A → Bool) : Type 0 where
  pub none : all [] ≡ true
  pub more : (x : A) (xs : List A) → all (x ∷ xs) ≡ (one x && all xs)

pub both : (a b p q : Bool) → a ≡ p → b ≡ q → (a && b) ≡ (p && q)
both a b p q e f = ap (λ c. c && b) e ∙ ap (λ c. p && c) f

and-true : (a b : Bool) → a ≡ true → (a && b) ≡ b
and-true a b h = ap (λ c. c && b) h

and-false : (a b : Bool) → a ≡ false → (a && b) ≡ false
and-false a b h = ap (λ c. c && b) h

next : {A : Type 0} {one : A → Bool} {all : List A → Bool} → IsEach A one all → (xs : List A) (i : ℕ) (x : A) → i < length xs → x ≡ get_or xs i x → all (drop i xs) ≡ (one x && all (drop (i + 1) xs))
next {one = one} {all = all} each xs i x here is =
    ap all (drop_more xs i x here) ∙ (ap (λ y. all (y ∷ drop (i + 1) xs)) (sym is) ∙ each.more x (drop (i + 1) xs))

-- the invariant: those that are left decide it
abbrev pub LeftDecide : {A : Type 0} → (List A → Bool) → List A → ℕ → Type 0
LeftDecide all xs i = all (drop i xs) ≡ all xs

pub goes-on : {A : Type 0} {one : A → Bool} {all : List A → Bool} → IsEach A one all → (xs : List A) (i : ℕ) (x : A) (r : Bool) → i < length xs → x ≡ get_or xs i x → r ≡ one x → r ≡ true → LeftDecide all xs i → LeftDecide all xs (i + 1)
goes-on {one = one} {all = all} each xs i x r here is tested passed left =
    sym (next each xs i x here is ∙ and-true (one x) (all (drop (i + 1) xs)) (sym tested ∙ passed)) ∙ left

pub stops : {A : Type 0} {one : A → Bool} {all : List A → Bool} → IsEach A one all → (xs : List A) (i : ℕ) (x : A) (r : Bool) → i < length xs → x ≡ get_or xs i x → r ≡ one x → r ≡ false → LeftDecide all xs i → false ≡ all xs
stops {one = one} {all = all} each xs i x r here is tested failed left =
    sym (next each xs i x here is ∙ and-false (one x) (all (drop (i + 1) xs)) (sym tested ∙ failed)) ∙ left

pub ends : {A : Type 0} {one : A → Bool} {all : List A → Bool} → IsEach A one all → (xs : List A) (i : ℕ) → length xs ≤ i → LeftDecide all xs i → true ≡ all xs
ends {all = all} each xs i end left = sym (ap all (drop_all i xs end) ∙ each.none) ∙ left

-- ---- those of the definition

abbrev pub Each : (ExpTree → Bool) → (ExpTrees → Bool) → Type 0
Each one all = IsEach Exp (λ x. one (exp_tree x)) (λ xs. all (exps_of xs))

pub each-term : Each is_built_term are_built_terms
unfolding is_built_term are_built_terms
each-term = record { none = refl; more = λ x xs. refl }

pub each-pattern : Each is_built_pattern are_built_patterns
unfolding is_built_pattern are_built_patterns
each-pattern = record { none = refl; more = λ x xs. refl }

pub each-value : Each is_built_value are_built_values
unfolding is_built_value are_built_values
each-value = record { none = refl; more = λ x xs. refl }

pub each-goal : Each is_built_goal are_built_goals
unfolding is_built_goal are_built_goals
each-goal = record { none = refl; more = λ x xs. refl }

pub each-branch : Each is_built_branch are_built_branches
unfolding is_built_branch are_built_branches
each-branch = record { none = refl; more = λ x xs. refl }

-- an iterator or a test
abbrev pub is_built_loop_unit : ExpTree → Bool
is_built_loop_unit u = is_built_unit (iterated u) (is_built_collection u) (is_built_goal u)

pub each-unit : Each is_built_loop_unit are_built_units
unfolding are_built_units
each-unit = record { none = refl; more = λ x xs. refl }

-- a condition with its body
abbrev pub is_built_pair : Exp × Exp → Bool
is_built_pair b = is_built_goal (exp_tree b.0) && is_built_goal (exp_tree b.1)

and-assoc : (a b c : Bool) → (a && (b && c)) ≡ ((a && b) && c)
and-assoc true b c = refl
and-assoc false b c = refl

abbrev pub are_built_pairs : List (Exp × Exp) → Bool
are_built_pairs bs = have_built_goals (branches_in bs)

pub each-pair : IsEach (Exp × Exp) is_built_pair are_built_pairs
unfolding is_built_goal have_built_goals
each-pair = record { none = refl; more = λ b bs. and-assoc (is_built_goal (exp_tree b.0)) (is_built_goal (exp_tree b.1)) (have_built_goals (branches_in bs)) }

pub condition-stops : (bs : List (Exp × Exp)) (i : ℕ) (b : Exp × Exp) (r : Bool) → i < length bs → b ≡ get_or bs i b → r ≡ is_built_goal (exp_tree b.0) → r ≡ false → LeftDecide are_built_pairs bs i → false ≡ are_built_pairs bs
condition-stops bs i b r here is tested failed left =
    let body : Bool = is_built_goal (exp_tree b.1) in
    stops each-pair bs i b (r && body) here is (both r body (is_built_goal (exp_tree b.0)) body tested refl) (and-false r body failed) left

pub body-stops : (bs : List (Exp × Exp)) (i : ℕ) (b : Exp × Exp) (r s : Bool) → i < length bs → b ≡ get_or bs i b → r ≡ is_built_goal (exp_tree b.0) → r ≡ true → s ≡ is_built_goal (exp_tree b.1) → s ≡ false → LeftDecide are_built_pairs bs i → false ≡ are_built_pairs bs
body-stops bs i b r s here is tested passed so failed left =
    stops each-pair bs i b (r && s) here is (both r s (is_built_goal (exp_tree b.0)) (is_built_goal (exp_tree b.1)) tested so) (and-true r s passed ∙ failed) left

pub pair-goes-on : (bs : List (Exp × Exp)) (i : ℕ) (b : Exp × Exp) (r s : Bool) → i < length bs → b ≡ get_or bs i b → r ≡ is_built_goal (exp_tree b.0) → r ≡ true → s ≡ is_built_goal (exp_tree b.1) → s ≡ true → LeftDecide are_built_pairs bs i → LeftDecide are_built_pairs bs (i + 1)
pair-goes-on bs i b r s here is tested passed so also left =
    goes-on each-pair bs i b (r && s) here is (both r s (is_built_goal (exp_tree b.0)) (is_built_goal (exp_tree b.1)) tested so) (and-true r s passed ∙ also) left
