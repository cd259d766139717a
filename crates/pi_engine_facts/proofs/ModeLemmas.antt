-- Mode lists from a place on.
use Rattle.std.proofs.Common.{◌≡◌, ℕ, zero, suc, ◌+◌, ◌<◌, ◌≤◌, Bool, true, false, ◌&&◌, ◌||◌, List, [], ◌∷◌, drop, length, Option, Some, None, get_or, refl, ap, sym, ◌∙◌, subst, arith}
use Rattle.std.proofs.lemmas.List.{drop_all, drop_more}
use Rattle.std.specs.List.{list_any}
use Rattle.std.specs.Prelude.{slice_get, Ok}
use Rattle.pi_terms.specs.Tree.{Tree, Trees, no_trees, tree, drop_trees}
use Rattle.pi_constraints.specs.Value.{Bindings}
use Rattle.pi_constraints.specs.Store.{StoreView, IsTerm, AreTerms}
use Rattle.pi_constraints.specs.declared.store.Ref.{Ref}
use Rattle.pi_effects.specs.Answer.{Answer}
use Rattle.pi_effects.specs.Kinds.{holds_no_variable}
use Rattle.pi_meaning.specs.CoreMeaning.Facts.{fits_modes}
use Rattle.pi_syntax.specs.declared.program.Mode.{Mode}
use Rattle.pi_engine_facts.specs.Modes.{fits_first}

-- the argument in a place
pub arg-there : {M : Type 0} (v : StoreView M) (rs : List Ref) (ts : Trees) (i : ℕ) (r : Ref) → AreTerms v rs ts → slice_get rs i ≡ Some r → (t : Tree) × (rest : Trees) × (drop_trees i ts ≡ tree t rest) × IsTerm v r t
unfolding AreTerms
arg-there v [] ts i r are at = absurd cc
arg-there v (q ∷ rs) no_trees i r are at = absurd are
arg-there v (q ∷ rs) (tree t ts) zero r are at = (t, ts, refl, subst (λ x. IsTerm v x t) (one q r at) are.0)
  where
    one : (q r : Ref) → Some q ≡ Some r → q ≡ r
    one q r h = cc
arg-there v (q ∷ rs) (tree t ts) (suc i) r are at = arg-there v rs ts i r are.1 at

pub no-arg : {M : Type 0} (v : StoreView M) (rs : List Ref) (ts : Trees) (i : ℕ) → AreTerms v rs ts → slice_get rs i ≡ None → drop_trees i ts ≡ no_trees
unfolding AreTerms
no-arg v [] no_trees zero are at = refl
no-arg v [] no_trees (suc i) are at = refl
no-arg v [] (tree t ts) i are at = absurd are
no-arg v (q ∷ rs) no_trees i are at = absurd are
no-arg v (q ∷ rs) (tree t ts) zero are at = absurd cc
no-arg v (q ∷ rs) (tree t ts) (suc i) are at = no-arg v rs ts i are.1 at

drop-one : (i : ℕ) (ts : Trees) → drop_trees 1 (drop_trees i ts) ≡ drop_trees (suc i) ts
drop-one zero ts = refl
drop-one (suc i) no_trees = refl
drop-one (suc i) (tree t ts) = drop-one i ts

none-fits : (b : Bindings) (ms : List Mode) → fits_modes b ms no_trees ≡ true
unfolding fits_modes
none-fits b [] = refl
none-fits b (m ∷ ms) = refl

first-fits : (b : Bindings) (m : Mode) (ms : List Mode) (ts : Trees) → fits_modes b (m ∷ ms) ts ≡ (fits_first b m ts && fits_modes b ms (drop_trees 1 ts))
unfolding fits_modes
first-fits b m ms no_trees = sym (none-fits b ms)
first-fits b m ms (tree t ts) = refl

-- a list fits where the rest of it does
pub record FitsOn (b : Bindings) (ms : List Mode) (ts : Trees) (i : ℕ) : Type 0 where
  pub same : fits_modes b ms ts ≡ fits_modes b (drop i ms) (drop_trees i ts)

pub fits-none : (b : Bindings) (ms : List Mode) (ts : Trees) → FitsOn b ms ts 0
fits-none b ms ts = record { same = refl }

mode-there : (ms : List Mode) (i : ℕ) → i < length ms → (m : Mode) × (slice_get ms i ≡ Some m)
mode-there [] i less = absurd (omega (arith, less))
mode-there (m ∷ ms) zero less = (m, refl)
mode-there (m ∷ ms) (suc i) less = mode-there ms i (omega (arith, less))

mode-item : (ms : List Mode) (i : ℕ) (m : Mode) → slice_get ms i ≡ Some m → (i < length ms) × (get_or ms i m ≡ m)
mode-item [] i m at = absurd cc
mode-item (x ∷ ms) zero m at = (omega arith, one x m at)
  where
    one : (x m : Mode) → Some x ≡ Some m → x ≡ m
    one x m h = cc
mode-item (x ∷ ms) (suc i) m at = let rest : _ = mode-item ms i m at in (omega (arith, rest.0), rest.1)

mode-next : (ms : List Mode) (i : ℕ) (m : Mode) → slice_get ms i ≡ Some m → drop i ms ≡ m ∷ drop (i + 1) ms
mode-next ms i m at =
    let it : (i < length ms) × (get_or ms i m ≡ m) = mode-item ms i m at in
    drop_more ms i m it.0 ∙ ap (λ x. x ∷ drop (i + 1) ms) it.1

one-more : (i : ℕ) → suc i ≡ i + 1
one-more i = omega arith

next-place : (b : Bindings) (ms : List Mode) (ts : Trees) (i : ℕ) (m : Mode) → slice_get ms i ≡ Some m → fits_modes b (drop i ms) (drop_trees i ts) ≡ (fits_first b m (drop_trees i ts) && fits_modes b (drop (i + 1) ms) (drop_trees (i + 1) ts))
next-place b ms ts i m at =
    let rest : drop_trees 1 (drop_trees i ts) ≡ drop_trees (i + 1) ts = drop-one i ts ∙ ap (λ n. drop_trees n ts) (one-more i) in
    ap (λ xs. fits_modes b xs (drop_trees i ts)) (mode-next ms i m at)
    ∙ (first-fits b m (drop (i + 1) ms) (drop_trees i ts) ∙ ap (λ us. fits_first b m (drop_trees i ts) && fits_modes b (drop (i + 1) ms) us) rest)

-- what is told of a place
abbrev pub TellsPlace : Bindings → List Mode → Trees → ℕ → Bool → Type 0
TellsPlace b ms ts i one = (m : Mode) → slice_get ms i ≡ Some m → one ≡ fits_first b m (drop_trees i ts)

pub fits-more : (b : Bindings) (ms : List Mode) (ts : Trees) (i : ℕ) → i < length ms → TellsPlace b ms ts i true → FitsOn b ms ts i → FitsOn b ms ts (i + 1)
fits-more b ms ts i less tells so =
    let m : (m : Mode) × (slice_get ms i ≡ Some m) = mode-there ms i less in
    record { same = so.same ∙ (next-place b ms ts i m.0 m.1 ∙ ap (λ f. f && fits_modes b (drop (i + 1) ms) (drop_trees (i + 1) ts)) (sym (tells m.0 m.1))) }

pub fits-not : (b : Bindings) (ms : List Mode) (ts : Trees) (i : ℕ) → i < length ms → TellsPlace b ms ts i false → FitsOn b ms ts i → false ≡ fits_modes b ms ts
fits-not b ms ts i less tells so =
    let m : (m : Mode) × (slice_get ms i ≡ Some m) = mode-there ms i less in
    sym (so.same ∙ (next-place b ms ts i m.0 m.1 ∙ ap (λ f. f && fits_modes b (drop (i + 1) ms) (drop_trees (i + 1) ts)) (sym (tells m.0 m.1))))

pub fits-all : (b : Bindings) (ms : List Mode) (ts : Trees) (i : ℕ) → length ms ≤ i → FitsOn b ms ts i → true ≡ fits_modes b ms ts
unfolding fits_modes
fits-all b ms ts i past so = sym (so.same ∙ ap (λ xs. fits_modes b xs (drop_trees i ts)) (drop_all i ms past))

-- ---- one place

pub place-past : {M : Type 0} (v : StoreView M) (b : Bindings) (m : Mode) (rs : List Ref) (ts : Trees) (i : ℕ) → AreTerms v rs ts → slice_get rs i ≡ None → true ≡ fits_first b m (drop_trees i ts)
place-past v b m rs ts i are at = sym (ap (fits_first b m) (no-arg v rs ts i are at))

any-mode : (b : Bindings) (us : Trees) → true ≡ fits_first b Mode.Minus us
any-mode b no_trees = refl
any-mode b (tree t us) = refl

one-mode : (o : Option Mode) (m n : Mode) → o ≡ Some m → o ≡ Some n → n ≡ m
one-mode o m n h k = cc

pub place-none : {X : Type 0} (ms : List Mode) (i : ℕ) (m : Mode) → slice_get ms i ≡ None → slice_get ms i ≡ Some m → X
place-none ms i m none some = absurd cc

pub place-any : (b : Bindings) (ms : List Mode) (i : ℕ) (m n : Mode) (us : Trees) → slice_get ms i ≡ Some n → n ≡ Mode.Minus → slice_get ms i ≡ Some m → true ≡ fits_first b m us
place-any b ms i m n us found is at = any-mode b us ∙ sym (ap (λ x. fits_first b x us) (one-mode (slice_get ms i) n m found at ∙ is))

pub place-closed : {M : Type 0} (v : StoreView M) (b : Bindings) (ms : List Mode) (m n : Mode) (rs : List Ref) (ts : Trees) (i : ℕ) (r : Ref) (closed : Bool) → slice_get ms i ≡ Some n → n ≡ Mode.Plus → slice_get ms i ≡ Some m → AreTerms v rs ts → slice_get rs i ≡ Some r →
    ((t : Tree) → IsTerm v r t → closed ≡ holds_no_variable b t) → closed ≡ fits_first b m (drop_trees i ts)
place-closed v b ms m n rs ts i r closed found is at are there tells =
    let it : (t : Tree) × (rest : Trees) × (drop_trees i ts ≡ tree t rest) × IsTerm v r t = arg-there v rs ts i r are there in
    tells it.0 it.3 ∙ sym (ap (λ x. fits_first b x (drop_trees i ts)) (one-mode (slice_get ms i) n m found at ∙ is) ∙ ap (fits_first b Mode.Plus) it.2)

-- ---- one list after the other

pub record NoneFits (f : List Mode → Bool) (lists : List (List Mode)) (i : ℕ) : Type 0 where
  pub same : list_any f lists ≡ list_any f (drop i lists)

pub no-list : (f : List Mode → Bool) (lists : List (List Mode)) → NoneFits f lists 0
no-list f lists = record { same = refl }

next-list : (f : List Mode → Bool) (lists : List (List Mode)) (i : ℕ) (ms : List Mode) → i < length lists → ms ≡ get_or lists i ms → list_any f (drop i lists) ≡ list_any f (ms ∷ drop (i + 1) lists)
next-list f lists i ms less is = ap (list_any f) (drop_more lists i ms less ∙ ap (λ x. x ∷ drop (i + 1) lists) (sym is))

any-first : (f : List Mode → Bool) (ms : List Mode) (rest : List (List Mode)) (one : Bool) → one ≡ f ms → list_any f (ms ∷ rest) ≡ (one || list_any f rest)
any-first f ms rest one is = ap (λ o. o || list_any f rest) (sym is)

pub list-fits : (f : List Mode → Bool) (lists : List (List Mode)) (i : ℕ) (ms : List Mode) → i < length lists → ms ≡ get_or lists i ms → true ≡ f ms → NoneFits f lists i → true ≡ list_any f lists
list-fits f lists i ms less is fit so = sym (so.same ∙ (next-list f lists i ms less is ∙ any-first f ms (drop (i + 1) lists) true fit))

pub list-not : (f : List Mode → Bool) (lists : List (List Mode)) (i : ℕ) (ms : List Mode) → i < length lists → ms ≡ get_or lists i ms → false ≡ f ms → NoneFits f lists i → NoneFits f lists (i + 1)
list-not f lists i ms less is fit so = record { same = so.same ∙ (next-list f lists i ms less is ∙ any-first f ms (drop (i + 1) lists) false fit) }

pub no-list_fits : (f : List Mode → Bool) (lists : List (List Mode)) (i : ℕ) → length lists ≤ i → NoneFits f lists i → false ≡ list_any f lists
no-list_fits f lists i past so = sym (so.same ∙ ap (list_any f) (drop_all i lists past))

-- ---- what a test tells

pub ok-same : (x closed : Bool) → ◌≡◌ {A = Answer Bool} (Ok x) (Ok closed) → closed ≡ x
ok-same x closed is = cc
