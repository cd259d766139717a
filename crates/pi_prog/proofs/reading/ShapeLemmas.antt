-- The first arrow, and the sides of it.
use Rattle.std.proofs.Common.{◌≡◌, ℕ, ◌+◌, ◌<◌, ◌≤◌, Bool, true, inl, inr, List, [], ◌∷◌, ◌++◌, slice_get, codes, Option, Some, None, refl, ap, sym, subst, ◌∙◌, arith, append_assoc, append-nil}
use Rattle.std.specs.Prelude.{option_map}
use Rattle.std.specs.Str.{bytes_eq}
use Rattle.std.proofs.lemmas.Bool.{cases_Bool}
use Rattle.std.proofs.lemmas.Slice.Eq.{bytes_eq-Decides}
use Rattle.pi_syntax.specs.Crowding.{IsCrowded, IsRead, most_levels, is_opening, is_closing}
use Rattle.pi_syntax.specs.ExpTree.{ExpTree, levels, exp_tree}
use Rattle.pi_syntax.specs.Grammar.{HasExp}
use Rattle.pi_syntax.specs.Tokens.{Token, Var, Atom, Word, Int, Str, Sign, End}
use Rattle.pi_syntax.specs.declared.exp.Exp.{Exp}
use Rattle.pi_expr.specs.Faults.{stretch, IsFault}
use Rattle.pi_expr.specs.declared.fault.ExpFault.{ExpFault}
use Rattle.pi_expr.specs.declared.fault.ExpFault.TheVariants as fault
use Rattle.pi_expr.proofs.CrowdLemmas.{stretch_step, stretch_none}
use Rattle.pi_prog.specs.Pieces.{IsShape, IsShapeFault, sides_at}
use Rattle.pi_prog_clauses.specs.Reading.{HasNoShape, IsDeepShape}
use Rattle.pi_prog_clauses.specs.Shape.{bare, ruled, HasShape, without_arrow, with_arrow, Sides, sides, sides_by, with_left, arrow_of}
use Rattle.pi_prog.specs.declared.reading.shape.ReadShape.TheVariants as shape
use Rattle.pi_prog.proofs.reading.BalanceLemmas.{exp_balances}
use Rattle.pi_prog.proofs.reading.CrowdingLemmas.{few_in_front, few_behind, balanced_more}
use Rattle.pi_prog.proofs.reading.PlaceLemmas.{stretch_more}

-- ---- the walk to the first arrow

abbrev pub with_front : List Token → Sides → Sides
with_front xs s = record { left = xs ++ s.left; back = s.back; right = s.right }

pub front_none : (o : Option Sides) → o ≡ option_map (with_front []) o
front_none None = refl
front_none (Some s) = refl

front_more : (xs : List Token) (t : Token) (o : Option Sides) → option_map (with_front xs) (option_map (with_left t) o) ≡ option_map (with_front (xs ++ t ∷ [])) o
front_more xs t None = refl
front_more xs t (Some s) = ap (λ l. let x : Sides = record { left = l; back = s.back; right = s.right } in Some x) (sym (append_assoc xs (t ∷ []) s.left))

sides_on : (t : Token) (ts : List Token) → arrow_of t ≡ None → sides (t ∷ ts) ≡ option_map (with_left t) (sides ts)
unfolding sides
sides_on t ts h = ap (λ o. sides_by o t ts (sides ts)) h

sides_here : (t : Token) (ts : List Token) (back : Bool) → arrow_of t ≡ Some back → sides (t ∷ ts) ≡ Some (record { left = []; back = back; right = ts })
unfolding sides
sides_here t ts back h = ap (λ o. sides_by o t ts (sides ts)) h

sides_none : sides [] ≡ None
unfolding sides
sides_none = refl

abbrev pub Walked : List Token → ℕ → ℕ → ℕ → Type 0
Walked ts from at to = sides (stretch ts from to) ≡ option_map (with_front (stretch ts from at)) (sides (stretch ts at to))

pub walked_none : (ts : List Token) (from to : ℕ) → Walked ts from from to
walked_none ts from to = front_none (sides (stretch ts from to)) ∙ ap (λ xs. option_map (with_front xs) (sides (stretch ts from to))) (sym (stretch_none ts from from (omega arith)))

pub walked_more : (ts : List Token) (from at next to : ℕ) (t : Token) → next ≡ at + 1 → from ≤ at → at < to → slice_get ts at ≡ Some t → arrow_of t ≡ None → Walked ts from at to → Walked ts from next to
walked_more ts from at next to t n h k is none walked =
    walked ∙ ap (λ xs. option_map (with_front (stretch ts from at)) (sides xs)) (stretch_step ts at next to t n is k)
    ∙ ap (option_map (with_front (stretch ts from at))) (sides_on t (stretch ts next to) none)
    ∙ front_more (stretch ts from at) t (sides (stretch ts next to))
    ∙ ap (λ xs. option_map (with_front xs) (sides (stretch ts next to))) (sym (stretch_more ts from at next t n h is))

pub walked_here : (ts : List Token) (from at to : ℕ) (t : Token) (back : Bool) → from ≤ at → at < to → slice_get ts at ≡ Some t → arrow_of t ≡ Some back → Walked ts from at to
    → sides (stretch ts from to) ≡ Some (sides_at ts from at back to)
walked_here ts from at to t back h k is here walked =
    walked ∙ ap (λ xs. option_map (with_front (stretch ts from at)) (sides xs)) (stretch_step ts at (at + 1) to t refl is k)
    ∙ ap (option_map (with_front (stretch ts from at))) (sides_here t (stretch ts (at + 1) to) back here)
    ∙ ap (λ l. let x : Sides = record { left = l; back = back; right = stretch ts (at + 1) to } in Some x) (append-nil (stretch ts from at))

pub walked_all : (ts : List Token) (from at to : ℕ) → to ≤ at → Walked ts from at to → sides (stretch ts from to) ≡ None
walked_all ts from at to h walked =
    walked ∙ ap (λ xs. option_map (with_front (stretch ts from at)) (sides xs)) (stretch_none ts at to h) ∙ ap (option_map (with_front (stretch ts from at))) sides_none

-- ---- the tokens of the sides

some_same : {X : Type 0} (x y : X) → Some x ≡ Some y → x ≡ y
some_same x y e = cc

none_is_some : {X : Type 0} (x : X) (o : Option X) → o ≡ None → o ≡ Some x → ⊥
none_is_some x o a b = cc

-- an arrow stands between the sides
abbrev Stands : List Token → Sides → Type 0
Stands ts s = (t : Token) × (arrow_of t ≡ Some s.back) × (ts ≡ s.left ++ t ∷ s.right)

stands_on : (t : Token) (ts : List Token) (s : Sides) → Stands ts s → Stands (t ∷ ts) (with_left t s)
stands_on t ts s (u, here, is) = (u, here, ap (λ xs. t ∷ xs) is)

abbrev AllStand : List Token → Type 0
AllStand ts = (s : Sides) → sides ts ≡ Some s → Stands ts s

stands_later : (t : Token) (ts : List Token) (s : Sides) → AllStand ts → (o : Option Sides) → sides ts ≡ o → option_map (with_left t) o ≡ Some s → Stands (t ∷ ts) s
stands_later t ts s all None is h = absurd (cc)
stands_later t ts s all (Some r) is h = subst (Stands (t ∷ ts)) (some_same (with_left t r) s h) (stands_on t ts r (all r is))

stands_by : (t : Token) (ts : List Token) (s : Sides) → AllStand ts → (o : Option Bool) → arrow_of t ≡ o → sides_by o t ts (sides ts) ≡ Some s → Stands (t ∷ ts) s
stands_by t ts s all (Some back) here h = let first : Sides = record { left = []; back = back; right = ts } in subst (Stands (t ∷ ts)) (some_same first s h) (t, here, refl)
stands_by t ts s all None here h = stands_later t ts s all (sides ts) refl h

sides_step : (t : Token) (ts : List Token) → sides (t ∷ ts) ≡ sides_by (arrow_of t) t ts (sides ts)
unfolding sides
sides_step t ts = refl

stands : (ts : List Token) (s : Sides) → sides ts ≡ Some s → Stands ts s
stands [] s h = absurd (none_is_some s (sides []) sides_none h)
stands (t ∷ ts) s h = stands_by t ts s (stands ts) (arrow_of t) refl (sym (sides_step t ts) ∙ h)

spelled_no_bracket : (s t : List ℕ) → bytes_eq s t ≡ true → is_opening (Sign t) ≡ is_closing (Sign t) → is_opening (Sign s) ≡ is_closing (Sign s)
spelled_no_bracket s t h lacks = subst (λ x. is_opening (Sign x) ≡ is_closing (Sign x)) (sym ((bytes_eq-Decides s t).0 h)) lacks

arrow_here : is_opening (Sign (codes "=>")) ≡ is_closing (Sign (codes "=>"))
unfolding is_opening is_closing
arrow_here = refl

open_arrow_here : is_opening (Sign (codes "?=>")) ≡ is_closing (Sign (codes "?=>"))
unfolding is_opening is_closing
open_arrow_here = refl

arrow_no_bracket : (t : Token) (back : Bool) → arrow_of t ≡ Some back → is_opening t ≡ is_closing t
unfolding is_opening is_closing
arrow_no_bracket (Sign s) back h =
    elim (cases_Bool (bytes_eq s (codes "=>"))) [
      | inl here ↦ spelled_no_bracket s (codes "=>") here arrow_here
      | inr not_here ↦ elim (cases_Bool (bytes_eq s (codes "?=>"))) [
        | inl here ↦ spelled_no_bracket s (codes "?=>") here open_arrow_here
        | inr none ↦ absurd (none_is_some back (arrow_of (Sign s)) (rw (not_here, none) refl) h)
      ]
    ]
arrow_no_bracket (Var n) back h = refl
arrow_no_bracket (Atom n) back h = refl
arrow_no_bracket (Word n) back h = refl
arrow_no_bracket (Int n) back h = refl
arrow_no_bracket (Str n) back h = refl
arrow_no_bracket End back h = refl

pub few_left : (ts : List Token) (s : Sides) → sides ts ≡ Some s → ¬ IsCrowded ts → ¬ IsCrowded s.left
few_left ts s h few = let (t, here, is) = stands ts s h in few_in_front ts s.left (t ∷ s.right) is few

pub few_right : (ts : List Token) (s : Sides) (e : ExpTree) → sides ts ≡ Some s → HasExp s.left e → ¬ IsCrowded ts → ¬ IsCrowded s.right
few_right ts s e h left few =
    let (t, here, is) = stands ts s h in
    few_behind ts (s.left ++ t ∷ []) s.right (is ∙ sym (append_assoc s.left (t ∷ []) s.right)) (balanced_more s.left t (arrow_no_bracket t s.back here) (exp_balances s.left e left)) few

-- ---- shapes

pub bare_none : (ts : List Token) → sides ts ≡ None → ((e : ExpTree) → ¬ HasExp ts e) → HasNoShape ts
bare_none ts none lacks s (without_arrow is h) = lacks _ h
bare_none ts none lacks s (with_arrow is l r) = absurd (cc)

same_left : (a b : Sides) (e : ExpTree) → a ≡ b → HasExp a.left e → HasExp b.left e
same_left a b e is h = subst (λ s. HasExp s.left e) is h

same_right : (a b : Sides) (e : ExpTree) → a ≡ b → HasExp a.right e → HasExp b.right e
same_right a b e is h = subst (λ s. HasExp s.right e) is h

pub left_none : (ts : List Token) (a : Sides) → sides ts ≡ Some a → ((e : ExpTree) → ¬ HasExp a.left e) → HasNoShape ts
left_none ts a at lacks s (without_arrow is h) = absurd (cc)
left_none ts a at lacks s (with_arrow {s = b} {l = l} is h r) = lacks l (same_left b a l (some_same b a (sym is ∙ at)) h)

pub right_none : (ts : List Token) (a : Sides) → sides ts ≡ Some a → ((e : ExpTree) → ¬ HasExp a.right e) → HasNoShape ts
right_none ts a at lacks s (without_arrow is h) = absurd (cc)
right_none ts a at lacks s (with_arrow {s = b} {r = r} is l h) = lacks r (same_right b a r (some_same b a (sym is ∙ at)) h)

-- with no arrow
pub shape_bare : (ts : List Token) (e : Exp) → sides ts ≡ None → IsRead ts (exp_tree e) → IsShape ts (shape.Bare e)
shape_bare ts e none (has, few, low) = (without_arrow none has, λ deep. omega arith)

pub bare_fault : (ts : List Token) (f : ExpFault) → ¬ IsCrowded ts → sides ts ≡ None → IsFault ts f → IsShapeFault ts f
bare_fault ts fault.NoExpression few none h = bare_none ts none h.1
bare_fault ts fault.TooDeep few none (inl crowded) = absurd (few crowded)
bare_fault ts fault.TooDeep few none (inr (e, has, deep)) = (bare e, without_arrow none has, deep)
bare_fault ts fault.Memory few none h = tt

not_deep : (l r : ExpTree) (back : Bool) → levels l ≤ most_levels → levels r ≤ most_levels → ¬ IsDeepShape (ruled l back r)
not_deep l r back a b (inl deep) = omega arith
not_deep l r back a b (inr deep) = omega arith

-- with both sides
pub shape_ruled : (ts : List Token) (s : Sides) (l r : Exp) (back : Bool) → sides ts ≡ Some s → s.back ≡ back → IsRead s.left (exp_tree l) → IsRead s.right (exp_tree r) → IsShape ts (shape.Ruled l back r)
shape_ruled ts s l r back at is (left, few_l, low_l) (right, few_r, low_r) =
    (subst (λ b. HasShape ts (ruled (exp_tree l) b (exp_tree r))) is (with_arrow at left right), not_deep (exp_tree l) (exp_tree r) back low_l low_r)

-- behind a left side that is an expression
pub right_fault : (ts : List Token) (s : Sides) (l : ExpTree) (f : ExpFault) → sides ts ≡ Some s → ¬ IsCrowded ts → HasExp s.left l → IsFault s.right f → IsShapeFault ts f
right_fault ts s l fault.NoExpression at few left h = right_none ts s at h.1
right_fault ts s l fault.TooDeep at few left (inl crowded) = absurd (few_right ts s l at left few crowded)
right_fault ts s l fault.TooDeep at few left (inr (e, right, deep)) = (ruled l s.back e, with_arrow at left right, inr deep)
right_fault ts s l fault.Memory at few left h = tt

-- an expression of tokens that aren't crowded is too deep
abbrev pub IsDeep : List Token → Type 0
IsDeep ts = (e : ExpTree) × HasExp ts e × (most_levels < levels e)

pub left_deep : (ts : List Token) (s : Sides) → sides ts ≡ Some s → ¬ IsCrowded ts → IsFault s.left fault.TooDeep → IsDeep s.left
left_deep ts s at few (inl crowded) = absurd (few_left ts s at few crowded)
left_deep ts s at few (inr deep) = deep

pub shape_deep_left : (ts : List Token) (s : Sides) (r : ExpTree) → sides ts ≡ Some s → IsDeep s.left → HasExp s.right r → IsShapeFault ts fault.TooDeep
shape_deep_left ts s r at (e, left, deep) right = (ruled e s.back r, with_arrow at left right, inl deep)
