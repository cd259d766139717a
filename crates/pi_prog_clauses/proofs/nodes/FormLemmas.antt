-- What a node's form says of it.
use Rattle.std.proofs.Common.{◌≡◌, ℕ, Bool, true, false, ◌||◌, List, [], ◌∷◌, refl, ap, sym, ◌∙◌}
use Rattle.std.specs.List.{list_any}
use Rattle.pi_syntax.specs.ExpTree.{ExpTree, var, call, no_exps, exp}
use Rattle.pi_syntax.specs.Signature.{exp_count}
use Rattle.pi_prog_clauses.specs.Operators.{is_assignment}
use Rattle.pi_prog_clauses.specs.Places.{Place, goal, asked, expression, operand, iterator, term, pattern, Placed}
use Rattle.pi_prog_clauses.specs.Items.{is_head, is_variable, is_event, is_event_of_one, is_event_of_two, breaks_pattern_at, is_variable_of, is_misplaced_at, is_misassigned_at, is_stray_at, is_no_goal_at, are_bad_nodes, misplaces, misassigns, has_stray_at, lacks_goal, is_misplaced, is_misassigned, is_stray, is_no_goal, occurs_in_head}
use Rattle.pi_prog_clauses.specs.Calls.{calls_at}
use Rattle.pi_prog_clauses.specs.Called.{calls_of_form}
use Rattle.pi_prog_clauses.specs.Form.{form_of, is_head_form, is_misplaced_form, is_misassigned_form, is_stray_form, is_no_goal_form, is_bad_form, is_bad_node, breaks_pattern_form, is_variable_form, is_variable_alone, is_event_of_one_form, is_event_of_two_form, is_event_form}

pub head_by_form : (e : ExpTree) → is_head e ≡ is_head_form (form_of e)
head_by_form (var name) = refl
head_by_form _ = refl

pub breaks_by_form : (p : Place) (e : ExpTree) → breaks_pattern_at p e ≡ breaks_pattern_form p (form_of e)
breaks_by_form (pattern quoted) (var name) = refl
breaks_by_form (pattern quoted) _ = refl
breaks_by_form _ e = refl

pub variable_by_form : (name : List ℕ) (e : ExpTree) → is_variable_of name e ≡ is_variable_form name (form_of e)
variable_by_form name (var other) = refl
variable_by_form name _ = refl

misplaced_by_form : (p : Place) (e : ExpTree) → is_misplaced_at p e ≡ is_misplaced_form p (form_of e)
misplaced_by_form (goal assigns) (var name) = refl
misplaced_by_form (goal assigns) _ = refl
misplaced_by_form asked e = refl
misplaced_by_form expression (var name) = refl
misplaced_by_form expression _ = refl
misplaced_by_form operand (var name) = refl
misplaced_by_form operand _ = refl
misplaced_by_form iterator (var name) = refl
misplaced_by_form iterator _ = refl
misplaced_by_form term (var name) = refl
misplaced_by_form term _ = refl
misplaced_by_form (pattern quoted) (var name) = refl
misplaced_by_form (pattern quoted) _ = refl

misassigned_by_form : (p : Place) (e : ExpTree) → is_misassigned_at p e ≡ is_misassigned_form p (form_of e)
unfolding is_assignment exp_count
misassigned_by_form p (call name no_exps) = refl
misassigned_by_form p (call name (exp x es)) = refl
misassigned_by_form p _ = refl

stray_by_form : (p : Place) (e : ExpTree) → is_stray_at p e ≡ is_stray_form p (form_of e)
stray_by_form (pattern quoted) e = refl
stray_by_form (goal assigns) (var name) = refl
stray_by_form (goal assigns) _ = refl
stray_by_form asked (var name) = refl
stray_by_form asked _ = refl
stray_by_form expression (var name) = refl
stray_by_form expression _ = refl
stray_by_form operand (var name) = refl
stray_by_form operand _ = refl
stray_by_form iterator (var name) = refl
stray_by_form iterator _ = refl
stray_by_form term (var name) = refl
stray_by_form term _ = refl

no_goal_by_form : (p : Place) (e : ExpTree) → is_no_goal_at p e ≡ is_no_goal_form p (form_of e)
no_goal_by_form asked (var name) = refl
no_goal_by_form asked _ = refl
no_goal_by_form _ e = refl

pub alone_by_form : (e : ExpTree) → is_variable e ≡ is_variable_alone (form_of e)
alone_by_form (var name) = refl
alone_by_form _ = refl

-- ---- events

of_one_by_form : (head : ExpTree) (name : List ℕ) (e : ExpTree) → is_event_of_one head name e ≡ is_event_of_one_form (λ x. occurs_in_head x head) name (form_of e)
of_one_by_form head name (var x) = refl
of_one_by_form head name _ = refl

of_two_by_form : (head : ExpTree) (name : List ℕ) (a b : ExpTree) → is_event_of_two head name a b ≡ is_event_of_two_form (λ x. occurs_in_head x head) name (form_of a) (form_of b)
of_two_by_form head name (var x) (var t) = refl
of_two_by_form head name (var x) _ = refl
of_two_by_form head name _ b = refl

pub event_by_form : (head : ExpTree) (e : ExpTree) → is_event head e ≡ is_event_form (λ x. occurs_in_head x head) (form_of e)
event_by_form head (call name no_exps) = refl
event_by_form head (call name (exp x no_exps)) = of_one_by_form head name x
event_by_form head (call name (exp x (exp t no_exps))) = of_two_by_form head name x t
event_by_form head (call name (exp x (exp t (exp u es)))) = refl
event_by_form head _ = refl

-- ---- any of the four

all_four : (a b c d v w x y : Bool) → a ≡ v → b ≡ w → c ≡ x → d ≡ y → (a || (b || (c || d))) ≡ (v || (w || (x || y)))
all_four a b c d v w x y h i j k = rw (h, i, j, k) refl

pub bad_by_form : (p : Place) (e : ExpTree)
    → (is_misplaced_at p e || (is_misassigned_at p e || (is_stray_at p e || is_no_goal_at p e))) ≡ is_bad_form p (form_of e)
bad_by_form p e = all_four _ _ _ _ _ _ _ _ (misplaced_by_form p e) (misassigned_by_form p e) (stray_by_form p e) (no_goal_by_form p e)

pub calls_by_form : (p : Place) (e : ExpTree) → calls_at p e ≡ calls_of_form p (form_of e)
calls_by_form (goal assigns) (var name) = refl
calls_by_form (goal assigns) _ = refl
calls_by_form asked (var name) = refl
calls_by_form asked _ = refl
calls_by_form expression (var name) = refl
calls_by_form expression _ = refl
calls_by_form operand (var name) = refl
calls_by_form operand _ = refl
calls_by_form iterator (var name) = refl
calls_by_form iterator _ = refl
calls_by_form term e = refl
calls_by_form (pattern quoted) e = refl

-- ---- of many nodes

shuffle : (a b c d e : Bool) → (b || d) ≡ e → ((a || b) || (c || d)) ≡ ((a || c) || e)
shuffle true b c d e h = refl
shuffle false true true d e h = refl
shuffle false true false d e h = h
shuffle false false true d e h = refl
shuffle false false false d e h = h

any_of_two : (p q : Placed → Bool) (ns : List Placed) → (list_any p ns || list_any q ns) ≡ list_any (λ n. p n || q n) ns
any_of_two p q [] = refl
any_of_two p q (n ∷ ns) = shuffle (p n) (list_any p ns) (q n) (list_any q ns) (list_any (λ m. p m || q m) ns) (any_of_two p q ns)

or_any : (p q : Placed → Bool) (ns : List Placed) (b : Bool) → b ≡ list_any q ns → (list_any p ns || b) ≡ list_any (λ n. p n || q n) ns
or_any p q ns b h = ap (λ x. list_any p ns || x) h ∙ any_of_two p q ns

pub bad_nodes : (ns : List Placed) → are_bad_nodes ns ≡ list_any is_bad_node ns
unfolding misplaces misassigns has_stray_at lacks_goal
bad_nodes ns =
    or_any is_misplaced (λ n. is_misassigned n || (is_stray n || is_no_goal n)) ns _
    (or_any is_misassigned (λ n. is_stray n || is_no_goal n) ns _ (any_of_two is_stray is_no_goal ns))

-- a node that isn't it is left behind
pub any_behind : (p : Placed → Bool) (old new : List Placed) (n : Placed) (whole : Bool) → old ≡ n ∷ new → p n ≡ false → list_any p old ≡ whole → list_any p new ≡ whole
any_behind p old new n whole h lacks is = sym (ap (λ b. b || list_any p new) lacks) ∙ sym (ap (list_any p) h) ∙ is

pub any_here : (p : Placed → Bool) (old new : List Placed) (n : Placed) (whole : Bool) → old ≡ n ∷ new → p n ≡ true → list_any p old ≡ whole → true ≡ whole
any_here p old new n whole h yes_it_is is = sym (ap (λ b. b || list_any p new) yes_it_is) ∙ sym (ap (list_any p) h) ∙ is

pub none_left : (p : Placed → Bool) (old : List Placed) (whole : Bool) → old ≡ [] → list_any p old ≡ whole → false ≡ whole
none_left p old whole h is = sym (ap (list_any p) h) ∙ is
