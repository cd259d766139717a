-- Answers of functions that leave the state as it is: a value of them speaks of variables below a number where what it is made of does. And tables of
-- functions: what holds of whatever a line gives for arguments that speak of variables that were made.
use Rattle.std.proofs.Common.{◌≡◌, ℕ, ℤ, Bool, true, false, cond, List, [], ◌∷◌, ◌++◌}
use Rattle.std.specs.Prelude.{nat_lt, Option, Some, None, Ok, Err, ⊤}
use Rattle.std.specs.Str.{bytes_eq}
use Rattle.pi_terms.specs.Tree.{Tree, Trees, no_trees, tree, tree_count}
use Rattle.pi_effects.specs.Range.{Outcome}
use Rattle.pi_constraints.specs.State.{State, bindings, next, followed, SpeaksBelow}
use Rattle.pi_effects.specs.Answer.{Answer, found_or, or_raised, integer_at, integer_then, integers_then}
use Rattle.pi_effects.specs.Integers.{outcome_then, number}
use Rattle.pi_effects.specs.Items.{each_tree}
use Rattle.pi_effects.specs.Rows.{Body, of_none, of_one, of_two, of_three, of_many, Row, with_arguments, done_by_row, done_by}
use Rattle.pi_effects.proofs.RowLemmas.{same_given, given-or}
use Rattle.pi_constraints.proofs.KeepsLemmas.{TreesBelow, first-below, rest-below, int-below}
use Rattle.pi_meaning.proofs.CoreMeaning.ItemsBelow.{ItemsBelow, SomeBelow, SomeItemsBelow, each-below}

-- the value, if there is one
abbrev pub AnswerBelow : ℕ → Answer Tree → Type 0
AnswerBelow n (Ok t) = SpeaksBelow n t
AnswerBelow n (Err ball) = ⊤

pub found-below : {A : Type 0} (n : ℕ) (o : Option A) (ball : Tree) (f : A → Answer Tree) → ((x : A) → AnswerBelow n (f x)) → AnswerBelow n (found_or o ball f)
found-below n None ball f each = tt
found-below n (Some x) ball f each = each x

pub items-found-below : (n : ℕ) (o : Option (List Tree)) (ball : Tree) (f : List Tree → Answer Tree) → SomeItemsBelow n o →
    ((ts : List Tree) → ItemsBelow n ts → AnswerBelow n (f ts)) → AnswerBelow n (found_or o ball f)
items-found-below n None ball f all each = tt
items-found-below n (Some ts) ball f all each = each ts all

pub raised-below : (n : ℕ) (o : Option Tree) (ball : Tree) → SomeBelow n o → AnswerBelow n (or_raised o ball)
raised-below n None ball below = tt
raised-below n (Some t) ball below = below

pub unless-below : (n : ℕ) (c : Bool) (ball : Tree) (a : Answer Tree) → AnswerBelow n a → AnswerBelow n (cond c (Err ball) a)
unless-below n true ball a below = tt
unless-below n false ball a below = below

pub number-below : (n : ℕ) (i : ℤ) → AnswerBelow n (number i)
number-below n i = int-below n i

pub outcome-below : (n : ℕ) (o : Outcome) (f : ℤ → Answer Tree) → ((i : ℤ) → AnswerBelow n (f i)) → AnswerBelow n (outcome_then o f)
outcome-below n (Ok i) f each = each i
outcome-below n (Err fault) f each = tt

pub integer-below : (n : ℕ) (s : State) (t : Tree) (f : ℤ → Answer Tree) → ((i : ℤ) → AnswerBelow n (f i)) → AnswerBelow n (integer_then s t f)
integer-below n s t f each = found-below n (integer_at (followed (bindings s) t)) _ f each

pub integers-below : (n : ℕ) (s : State) (t u : Tree) (f : ℤ → ℤ → Answer Tree) → ((i j : ℤ) → AnswerBelow n (f i j)) → AnswerBelow n (integers_then s t u f)
integers-below n s t u f each = integer-below n s t (λ i. integer_then s u (f i)) (λ i. integer-below n s u (f i) (each i))

-- ---- tables

-- what is given for arguments that speak of variables that were made
abbrev pub BodyKeeps : {R : Type 0} → (R → Type 0) → State → Body R → Type 0
BodyKeeps P s (of_none f) = P (f s)
BodyKeeps P s (of_one f) = (t : Tree) → SpeaksBelow (next s) t → P (f s t)
BodyKeeps P s (of_two f) = (t u : Tree) → SpeaksBelow (next s) t → SpeaksBelow (next s) u → P (f s t u)
BodyKeeps P s (of_three f) = (t u w : Tree) → SpeaksBelow (next s) t → SpeaksBelow (next s) u → SpeaksBelow (next s) w → P (f s t u w)
BodyKeeps P s (of_many most f) = (t : Tree) (ts : List Tree) → SpeaksBelow (next s) t → ItemsBelow (next s) ts → P (f s t ts)

abbrev pub LinesKeep : {R : Type 0} → (R → Type 0) → State → List (Row R) → Type 0
LinesKeep P s [] = ⊤
LinesKeep P s (r ∷ rows) = BodyKeeps P s r.body × LinesKeep P s rows

-- a line in front of the rest of its table
infixr 20 ◌&◌
abbrev pub ◌&◌ : {A B : Type 0} → A → B → A × B
line & rows = (line, rows)

pub both-keep : {R : Type 0} (P : R → Type 0) (s : State) (rows others : List (Row R)) → LinesKeep P s rows → LinesKeep P s others → LinesKeep P s (rows ++ others)
both-keep P s [] others a b = b
both-keep P s (r ∷ rows) others a b = (a.0, both-keep P s rows others a.1 b)

none_is_some : {A : Type 0} {x : A} {Q : Type 0} → None ≡ Some x → Q
none_is_some e = absurd (cc)

given-where : {R : Type 0} (P : R → Type 0) (c : Bool) (x : Option R) (e : R) → (x ≡ Some e → P e) → cond c x None ≡ Some e → P e
given-where P true x e f h = f h
given-where P false x e f h = none_is_some h

body-keeps : {R : Type 0} (P : R → Type 0) (body : Body R) (ts : Trees) (s : State) (e : R) → BodyKeeps P s body → TreesBelow (next s) ts → with_arguments body ts s ≡ Some e → P e
body-keeps P (of_none f) no_trees s e all below h = same_given P h all
body-keeps P (of_none f) (tree t ts) s e all below h = none_is_some h
body-keeps P (of_one f) no_trees s e all below h = none_is_some h
body-keeps P (of_one f) (tree t no_trees) s e all below h = same_given P h (all t (first-below (next s) t no_trees below))
body-keeps P (of_one f) (tree t (tree u us)) s e all below h = none_is_some h
body-keeps P (of_two f) no_trees s e all below h = none_is_some h
body-keeps P (of_two f) (tree t no_trees) s e all below h = none_is_some h
body-keeps P (of_two f) (tree t (tree u no_trees)) s e all below h =
    let behind : TreesBelow (next s) (tree u no_trees) = rest-below (next s) t (tree u no_trees) below in
    same_given P h (all t u (first-below (next s) t (tree u no_trees) below) (first-below (next s) u no_trees behind))
body-keeps P (of_two f) (tree t (tree u (tree w ws))) s e all below h = none_is_some h
body-keeps P (of_three f) no_trees s e all below h = none_is_some h
body-keeps P (of_three f) (tree t no_trees) s e all below h = none_is_some h
body-keeps P (of_three f) (tree t (tree u no_trees)) s e all below h = none_is_some h
body-keeps P (of_three f) (tree t (tree u (tree w no_trees))) s e all below h =
    let behind : TreesBelow (next s) (tree u (tree w no_trees)) = rest-below (next s) t (tree u (tree w no_trees)) below in
    let last : TreesBelow (next s) (tree w no_trees) = rest-below (next s) u (tree w no_trees) behind in
    same_given P h (all t u w (first-below (next s) t (tree u (tree w no_trees)) below) (first-below (next s) u (tree w no_trees) behind) (first-below (next s) w no_trees last))
body-keeps P (of_three f) (tree t (tree u (tree w (tree v vs)))) s e all below h = none_is_some h
body-keeps P (of_many most f) no_trees s e all below h = none_is_some h
body-keeps P (of_many most f) (tree t ts) s e all below h =
    given-where P (nat_lt (tree_count ts) most) (Some (f s t (each_tree ts))) e
    (λ k. same_given P k (all t (each_tree ts) (first-below (next s) t ts below) (each-below (next s) ts (rest-below (next s) t ts below)))) h

pub lines-keep : {R : Type 0} (P : R → Type 0) (rows : List (Row R)) (name : List ℕ) (ts : Trees) (s : State) (e : R) → LinesKeep P s rows → TreesBelow (next s) ts →
    done_by rows name ts s ≡ Some e → P e
unfolding done_by
lines-keep P [] name ts s e all below h = none_is_some h
lines-keep P (r ∷ rows) name ts s e all below h =
    given-or P (done_by_row r name ts s) (done_by rows name ts s) e h (given-where P (bytes_eq r.name name) (with_arguments r.body ts s) e (body-keeps P r.body ts s e all.0 below))
    (lines-keep P rows name ts s e all.1 below)
