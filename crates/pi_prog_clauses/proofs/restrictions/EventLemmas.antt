-- Events and the variables of heads.
use Rattle.std.proofs.Common.{◌≡◌, ℕ, Bool, true, false, not, ◌||◌, ◌==◌, List, [], ◌∷◌, length, codes, Some, refl, ap, sym, ◌∙◌, arith}
use Rattle.std.proofs.lemmas.Bool.Decides.{Decides-eqb}
use Rattle.std.specs.List.{list_any}
use Rattle.std.specs.Str.{bytes_eq}
use Rattle.pi_syntax.specs.ExpTree.{ExpTree, exp_tree}
use Rattle.pi_syntax.specs.ExpLists.{exps_of}
use Rattle.pi_syntax.specs.Tokens.{is_one_of}
use Rattle.pi_syntax.specs.declared.exp.Exp.{Exp}
use Rattle.pi_prog_clauses.specs.Items.{is_event, are_bad_events}
use Rattle.pi_prog_clauses.specs.Shape.{listed}

-- one of these is no event of the head
abbrev pub has_other : ExpTree → List Exp → Bool
has_other head es = list_any (λ e. not (is_event head e)) (listed (exps_of es))

pub other_here : (head : ExpTree) (es rest : List Exp) (x : Exp) (whole : Bool) → es ≡ x ∷ rest → is_event head (exp_tree x) ≡ false → has_other head es ≡ whole → true ≡ whole
unfolding listed
other_here head es rest x whole h lacks is = sym (ap (λ b. not b || has_other head rest) lacks) ∙ sym (ap (has_other head) h) ∙ is

pub other_behind : (head : ExpTree) (es rest : List Exp) (x : Exp) (whole : Bool) → es ≡ x ∷ rest → is_event head (exp_tree x) ≡ true → has_other head es ≡ whole → has_other head rest ≡ whole
unfolding listed
other_behind head es rest x whole h is_one is = sym (ap (λ b. not b || has_other head rest) is_one) ∙ sym (ap (has_other head) h) ∙ is

pub no_other : (head : ExpTree) (es : List Exp) (whole : Bool) → es ≡ [] → has_other head es ≡ whole → false ≡ whole
unfolding listed
no_other head es whole h is = sym (ap (has_other head) h) ∙ is

-- none at all is bad
pub bad_none : (head : ExpTree) (es : List Exp) (b : Bool) → b ≡ (length es == 0) → b ≡ true → true ≡ are_bad_events head (Some (exps_of es))
unfolding listed
bad_none head [] b is yes_it_is = refl
bad_none head (e ∷ es) b is yes_it_is = let none : length (e ∷ es) ≡ 0 = (Decides-eqb (length (e ∷ es)) 0).0 (sym is ∙ yes_it_is) in absurd (omega arith)

pub bad_some : (head : ExpTree) (es : List Exp) (b bad : Bool) → b ≡ (length es == 0) → b ≡ false → bad ≡ has_other head es → bad ≡ are_bad_events head (Some (exps_of es))
unfolding listed
bad_some head [] b bad is lacks h = absurd (cc)
bad_some head (e ∷ es) b bad is lacks h = h

-- ---- names of events

one_of_two : (a b : Bool) → (a || (b || false)) ≡ (a || b)
one_of_two true b = refl
one_of_two false true = refl
one_of_two false false = refl

one_of_three : (a b c : Bool) → (a || (b || (c || false))) ≡ (a || (b || c))
one_of_three true b c = refl
one_of_three false b c = one_of_two b c

pub names_of_one : (name : List ℕ) → is_one_of (codes "ins" ∷ codes "bound" ∷ []) name ≡ (bytes_eq name (codes "ins") || bytes_eq name (codes "bound"))
names_of_one name = one_of_two (bytes_eq name (codes "ins")) (bytes_eq name (codes "bound"))

pub names_of_two : (name : List ℕ) → is_one_of (codes "dom" ∷ codes "dom_any" ∷ codes "event" ∷ []) name ≡ (bytes_eq name (codes "dom") || (bytes_eq name (codes "dom_any") || bytes_eq name (codes "event")))
names_of_two name = one_of_three (bytes_eq name (codes "dom")) (bytes_eq name (codes "dom_any")) (bytes_eq name (codes "event"))
