-- Tables of built-ins: which names they have, and what holds of whatever a line gives.
use Rattle.std.proofs.Common.{◌≡◌, ℕ, Bool, true, false, cond, List, [], ◌∷◌, refl, ap, subst, ◌∙◌}
use Rattle.std.specs.Prelude.{◌&&◌, ◌||◌, nat_lt, Option, Some, None, is_some, option_map}
use Rattle.std.specs.Option.{option_or}
use Rattle.std.specs.Str.{bytes_eq}
use Rattle.pi_terms.specs.Tree.{Tree, Trees, no_trees, tree, tree_count}
use Rattle.pi_constraints.specs.State.{State}
use Rattle.pi_effects.specs.Items.{each_tree}
use Rattle.pi_effects.specs.Rows.{Body, of_none, of_one, of_two, of_three, of_many, Row, with_arguments, done_by_row, done_by, fits, has_line}

-- ---- whether there is something

pub some-or : {A : Type 0} (x y : Option A) → is_some (option_or x y) ≡ (is_some x || is_some y)
some-or None y = refl
some-or (Some x) y = refl

pub some-map : {A B : Type 0} (f : A → B) (x : Option A) → is_some (option_map f x) ≡ is_some x
some-map f None = refl
some-map f (Some x) = refl

some-if : {A : Type 0} (c : Bool) (x : Option A) → is_some (cond c x None) ≡ (c && is_some x)
some-if true x = refl
some-if false x = refl

some-where : {A : Type 0} (c : Bool) (x : A) → is_some (cond c (Some x) None) ≡ c
some-where true x = refl
some-where false x = refl

body-fits : {R : Type 0} (body : Body R) (ts : Trees) (s : State) → is_some (with_arguments body ts s) ≡ fits body (tree_count ts)
unfolding tree_count
body-fits (of_none f) no_trees s = refl
body-fits (of_none f) (tree t ts) s = refl
body-fits (of_one f) no_trees s = refl
body-fits (of_one f) (tree t no_trees) s = refl
body-fits (of_one f) (tree t (tree u us)) s = refl
body-fits (of_two f) no_trees s = refl
body-fits (of_two f) (tree t no_trees) s = refl
body-fits (of_two f) (tree t (tree u no_trees)) s = refl
body-fits (of_two f) (tree t (tree u (tree w ws))) s = refl
body-fits (of_three f) no_trees s = refl
body-fits (of_three f) (tree t no_trees) s = refl
body-fits (of_three f) (tree t (tree u no_trees)) s = refl
body-fits (of_three f) (tree t (tree u (tree w no_trees))) s = refl
body-fits (of_three f) (tree t (tree u (tree w (tree v vs)))) s = refl
body-fits (of_many most f) no_trees s = refl
body-fits (of_many most f) (tree t ts) s = some-where (nat_lt (tree_count ts) most) (f s t (each_tree ts))

pub lines-fit : {R : Type 0} (rows : List (Row R)) (name : List ℕ) (ts : Trees) (s : State) → is_some (done_by rows name ts s) ≡ has_line rows name (tree_count ts)
unfolding done_by has_line
lines-fit [] name ts s = refl
lines-fit (r ∷ rows) name ts s =
    some-or (done_by_row r name ts s) (done_by rows name ts s)
    ∙ (ap (λ x. x || is_some (done_by rows name ts s)) (some-if (bytes_eq r.name name) (with_arguments r.body ts s) ∙ ap (λ x. bytes_eq r.name name && x) (body-fits r.body ts s))
    ∙ ap (λ x. (bytes_eq r.name name && fits r.body (tree_count ts)) || x) (lines-fit rows name ts s))

-- ---- what holds of whatever is given

abbrev pub BodyGives : {R : Type 0} → (R → Type 0) → State → Body R → Type 0
BodyGives P s (of_none f) = P (f s)
BodyGives P s (of_one f) = (t : Tree) → P (f s t)
BodyGives P s (of_two f) = (t u : Tree) → P (f s t u)
BodyGives P s (of_three f) = (t u w : Tree) → P (f s t u w)
BodyGives P s (of_many most f) = (t : Tree) (ts : List Tree) → P (f s t ts)

abbrev pub LinesGive : {R : Type 0} → (R → Type 0) → State → List (Row R) → Type 0
LinesGive P s [] = Unit {0}
LinesGive P s (r ∷ rows) = BodyGives P s r.body × LinesGive P s rows

none_is_some : {A : Type 0} {x : A} {Q : Type 0} → None ≡ Some x → Q
none_is_some e = absurd (cc)

-- from one value to another that it is, in an Option
pub same_given : {R : Type 0} (P : R → Type 0) {x y : R} → Some x ≡ Some y → P x → P y
same_given {R} P {x} {y} e h = let same : x ≡ y = cc in subst P same h

pub given-or : {R : Type 0} (P : R → Type 0) (x y : Option R) (e : R) → option_or x y ≡ Some e → (x ≡ Some e → P e) → (y ≡ Some e → P e) → P e
given-or P None y e h f g = g h
given-or P (Some x) y e h f g = f h

pub given-map : {A R : Type 0} (P : R → Type 0) (f : A → R) (x : Option A) (e : R) → ((z : A) → P (f z)) → option_map f x ≡ Some e → P e
given-map P f None e all h = none_is_some h
given-map P f (Some x) e all h = same_given P h (all x)

given-if : {R : Type 0} (P : R → Type 0) (c : Bool) (x : Option R) (e : R) → (x ≡ Some e → P e) → cond c x None ≡ Some e → P e
given-if P true x e f h = f h
given-if P false x e f h = none_is_some h

body-gives : {R : Type 0} (P : R → Type 0) (body : Body R) (ts : Trees) (s : State) (e : R) → BodyGives P s body → with_arguments body ts s ≡ Some e → P e
body-gives P (of_none f) no_trees s e all h = same_given P h all
body-gives P (of_none f) (tree t ts) s e all h = none_is_some h
body-gives P (of_one f) no_trees s e all h = none_is_some h
body-gives P (of_one f) (tree t no_trees) s e all h = same_given P h (all t)
body-gives P (of_one f) (tree t (tree u us)) s e all h = none_is_some h
body-gives P (of_two f) no_trees s e all h = none_is_some h
body-gives P (of_two f) (tree t no_trees) s e all h = none_is_some h
body-gives P (of_two f) (tree t (tree u no_trees)) s e all h = same_given P h (all t u)
body-gives P (of_two f) (tree t (tree u (tree w ws))) s e all h = none_is_some h
body-gives P (of_three f) no_trees s e all h = none_is_some h
body-gives P (of_three f) (tree t no_trees) s e all h = none_is_some h
body-gives P (of_three f) (tree t (tree u no_trees)) s e all h = none_is_some h
body-gives P (of_three f) (tree t (tree u (tree w no_trees))) s e all h = same_given P h (all t u w)
body-gives P (of_three f) (tree t (tree u (tree w (tree v vs)))) s e all h = none_is_some h
body-gives P (of_many most f) no_trees s e all h = none_is_some h
body-gives P (of_many most f) (tree t ts) s e all h =
    given-if P (nat_lt (tree_count ts) most) (Some (f s t (each_tree ts))) e (λ k. same_given P k (all t (each_tree ts))) h

pub lines-give : {R : Type 0} (P : R → Type 0) (rows : List (Row R)) (name : List ℕ) (ts : Trees) (s : State) (e : R) → LinesGive P s rows → done_by rows name ts s ≡ Some e → P e
unfolding done_by
lines-give P [] name ts s e all h = none_is_some h
lines-give P (r ∷ rows) name ts s e all h =
    given-or P (done_by_row r name ts s) (done_by rows name ts s) e h (given-if P (bytes_eq r.name name) (with_arguments r.body ts s) e (body-gives P r.body ts s e all.0))
    (lines-give P rows name ts s e all.1)
