-- Variables that were confined are confined still where more variables are bound, all of them to integers.
use Rattle.std.specs.Prelude.{◌≡◌, ◌⊎◌, ℕ, ◌≤◌, ℤ, List, [], ◌∷◌, refl}
use Rattle.std.proofs.Common.{arith, sym, ◌∙◌, ap, subst, inl, inr}
use Rattle.std.proofs.lemmas.List.{set_past}
use Rattle.pi_terms.specs.Tree.{Tree, var, int, atom, comp}
use Rattle.pi_constraints.specs.declared.constraint.Item.{Item}
use Rattle.pi_constraints.specs.State.{State, Variable, free, within, bound, bindings, next, followed}
use Rattle.pi_constraints.proofs.StateLemmas.{variable, changed_next, changed_here}
use Rattle.pi_settling.specs.Roots.{item_of, root_item, all_values}
use Rattle.pi_settling.specs.Confined.{with_default, confined_at, confined}
use Rattle.pi_settling.proofs.ConfinedLemmas.{confining_binds_nothing, root-same}
use Rattle.pi_settling.proofs.TwiceLemmas.{less_or_not}
use Rattle.pi_meaning.proofs.Shared.BoundIntegers.{BindsIntegers, confining-binds}
use Rattle.pi_meaning.proofs.Shared.BoundValues.{IsStill, followed-still}

-- an integer, or a variable that isn't free or isn't there: confining it changes nothing
abbrev pub IsTaken : State → Item → Type 0
IsTaken s (Item.Var n) = variable s n ≡ free → next s ≤ n
IsTaken s (Item.Int i) = Unit {0}

abbrev pub AreTaken : State → List Item → Type 0
AreTaken s [] = Unit {0}
AreTaken s (x ∷ xs) = IsTaken s (root_item s x) × AreTaken s xs

default-stays : (s : State) (n : ℕ) (v : Variable) → (v ≡ free → next s ≤ n) → with_default s n v ≡ s
default-stays s n free past =
    ap (λ (vs : List Variable). record { variables = vs; constraints = s.constraints; agents = s.agents; waiting = s.waiting }) (set_past s.variables n (within all_values) (past refl))
default-stays s n (within d) past = refl
default-stays s n (bound t) past = refl

one-stays : (s : State) (x : Item) → IsTaken s x → confined_at s x ≡ s
one-stays s (Item.Var n) h = default-stays s n (variable s n) h
one-stays s (Item.Int i) h = refl

pub taken-stay : (s : State) (xs : List Item) → AreTaken s xs → confined s xs ≡ s
unfolding confined
taken-stay s [] h = refl
taken-stay s (x ∷ xs) h = ap (λ (r : State). confined r xs) (one-stays s (root_item s x) h.0) ∙ taken-stay s xs h.1

-- ---- what was confined

default-taken : (s : State) (n : ℕ) (v : Variable) → variable s n ≡ v → IsTaken (with_default s n v) (Item.Var n)
default-taken s n free is = λ none. elim (less_or_not n (next s)) [
  | inl made ↦ absurd (let no : within all_values ≡ free = sym (changed_here s n (within all_values) made) ∙ none in cc)
  | inr past ↦ omega (arith, changed_next s n (within all_values), past)
]
default-taken s n (within d) is = λ none. absurd (let no : within d ≡ free = sym is ∙ none in cc)
default-taken s n (bound t) is = λ none. absurd (let no : bound t ≡ free = sym is ∙ none in cc)

one-taken : (s : State) (x : Item) → IsTaken (confined_at s x) x
one-taken s (Item.Var n) = default-taken s n (variable s n) refl
one-taken s (Item.Int i) = tt

taken-later : (s r : State) → BindsIntegers s r → (x : Item) → IsTaken s x → IsTaken r x
taken-later s r h (Item.Var n) taken = λ none. omega (arith, h.count, taken ((h.each n).freed none))
taken-later s r h (Item.Int i) taken = tt

pub confining-takes : (s : State) (xs : List Item) → AreTaken (confined s xs) xs
unfolding confined
confining-takes s [] = tt
confining-takes s (x ∷ xs) =
    let r : State = confined_at s (root_item s x) in
    let root : root_item (confined s (x ∷ xs)) x ≡ root_item s x = root-same s (confined s (x ∷ xs)) (confining_binds_nothing s (x ∷ xs)) x in (
      subst (IsTaken (confined s (x ∷ xs))) (sym root) (taken-later r (confined r xs) (confining-binds r xs) (root_item s x) (one-taken s (root_item s x))),
      confining-takes r xs,
    )

-- ---- later

root-of : (n : ℕ) (t u : Tree) → IsStill t u → (item_of n u ≡ item_of n t) ⊎ ((i : ℤ) × (item_of n u ≡ Item.Int i))
root-of n (var m) u (inl is) = inl (ap (item_of n) is)
root-of n (var m) u (inr (i, is)) = inr (i, ap (item_of n) is)
root-of n (int i) u is = inl (ap (item_of n) is)
root-of n (atom name) u is = inl (ap (item_of n) is)
root-of n (comp name ts) u is = inl (ap (item_of n) is)

-- an item comes to what it came to, or to an integer
pub root-later : (s r : State) → BindsIntegers s r → (x : Item) → (root_item r x ≡ root_item s x) ⊎ ((i : ℤ) × (root_item r x ≡ Item.Int i))
root-later s r h (Item.Var n) = root-of n (followed (bindings s) (var n)) (followed (bindings r) (var n)) (followed-still s r h (var n))
root-later s r h (Item.Int i) = inl refl

root-taken : (s r : State) → BindsIntegers s r → (x : Item) → IsTaken s (root_item s x) → IsTaken r (root_item r x)
root-taken s r h x taken = elim (root-later s r h x) [
  | inl same ↦ subst (IsTaken r) (sym same) (taken-later s r h (root_item s x) taken)
  | inr (i, is) ↦ subst (IsTaken r) (sym is) tt
]

pub are-taken-later : (s r : State) → BindsIntegers s r → (xs : List Item) → AreTaken s xs → AreTaken r xs
are-taken-later s r h [] taken = tt
are-taken-later s r h (x ∷ xs) taken = (root-taken s r h x taken.0, are-taken-later s r h xs taken.1)
