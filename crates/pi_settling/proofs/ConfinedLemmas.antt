-- Where labelling begins each of its variables has a domain.
use Rattle.std.specs.Prelude.{◌≡◌, ℕ, zero, suc, ◌<◌, List, [], ◌∷◌, length, get_or, Some, None, refl}
use Rattle.std.proofs.Common.{arith, sym, ◌∙◌, ap, subst, inl, inr}
use Rattle.pi_terms.specs.Tree.{var}
use Rattle.pi_terms.specs.Places.{held}
use Rattle.pi_constraints.specs.declared.constraint.Item.{Item}
use Rattle.pi_constraints.specs.declared.domain.Span.{Span}
use Rattle.pi_constraints.specs.Value.{Bindings}
use Rattle.pi_constraints.specs.State.{State, Variable, free, within, bound, binding, domain_in, bindings, next, domain_of, followed}
use Rattle.pi_constraints.proofs.StateLemmas.{variable, held_is, changed_next, same_or_not, domain_here, domain_elsewhere, domain_bindings}
use Rattle.pi_settling.specs.Roots.{item_of, root_item, all_values}
use Rattle.pi_settling.specs.Confined.{with_default, confined_at, confined}
use Rattle.pi_settling.specs.LabelLaws.{ConfinedHaveDomains, ConfiningBindsNothing}

-- ---- one variable

default-bindings : (s : State) (n : ℕ) (v : Variable) → variable s n ≡ v → bindings (with_default s n v) ≡ bindings s
default-bindings s n free e = domain_bindings s n all_values (held_is s n ∙ ap binding e)
default-bindings s n (within d) e = refl
default-bindings s n (bound t) e = refl

default-next : (s : State) (n : ℕ) (v : Variable) → next (with_default s n v) ≡ next s
default-next s n free = changed_next s n (within all_values)
default-next s n (within d) = refl
default-next s n (bound t) = refl

default-keeps : (s : State) (n : ℕ) (v : Variable) (m : ℕ) (d : List Span) → variable s n ≡ v → domain_of s m ≡ Some d → domain_of (with_default s n v) m ≡ Some d
default-keeps s n free m d e has = elim (same_or_not m n) [
  | inl same ↦ absurd (let none : domain_of s m ≡ None = ap (λ (k : ℕ). domain_of s k) same ∙ ap domain_in e in cc)
  | inr other ↦ domain_elsewhere s n (within all_values) m other ∙ has
]
default-keeps s n (within c) m d e has = has
default-keeps s n (bound t) m d e has = has

-- a domain that a variable has
abbrev HasDomain : State → ℕ → Type 0
HasDomain s n = (d : List Span) × (domain_of s n ≡ Some d)

default-has : (s : State) (n : ℕ) (v : Variable) → variable s n ≡ v → n < next s → held (bindings s) n ≡ None → HasDomain (with_default s n v) n
default-has s n free e made is = (all_values, domain_here s n (within all_values) made)
default-has s n (within d) e made is = (d, ap domain_in e)
default-has s n (bound t) e made is = absurd (let held_by : held (bindings s) n ≡ Some t = held_is s n ∙ ap binding e in cc)

-- ---- one item

one-bindings : (s : State) (x : Item) → bindings (confined_at s x) ≡ bindings s
one-bindings s (Item.Var n) = default-bindings s n (variable s n) refl
one-bindings s (Item.Int i) = refl

pub one-next : (s : State) (x : Item) → next (confined_at s x) ≡ next s
one-next s (Item.Var n) = default-next s n (variable s n)
one-next s (Item.Int i) = refl

one-keeps : (s : State) (x : Item) (m : ℕ) (d : List Span) → domain_of s m ≡ Some d → domain_of (confined_at s x) m ≡ Some d
one-keeps s (Item.Var n) m d has = default-keeps s n (variable s n) m d refl has
one-keeps s (Item.Int i) m d has = has

-- ---- all of them

pub confining_binds_nothing : ConfiningBindsNothing
unfolding confined
confining_binds_nothing s [] = refl
confining_binds_nothing s (x ∷ xs) = confining_binds_nothing (confined_at s (root_item s x)) xs ∙ one-bindings s (root_item s x)

pub all-keep : (s : State) (xs : List Item) (m : ℕ) (d : List Span) → domain_of s m ≡ Some d → domain_of (confined s xs) m ≡ Some d
unfolding confined
all-keep s [] m d has = has
all-keep s (x ∷ xs) m d has = all-keep (confined_at s (root_item s x)) xs m d (one-keeps s (root_item s x) m d has)

pub root-same : (s r : State) → bindings r ≡ bindings s → (x : Item) → root_item r x ≡ root_item s x
root-same s r e (Item.Var n) = ap (λ (b : Bindings). item_of n (followed b (var n))) e
root-same s r e (Item.Int i) = refl

at-place : (s : State) (xs : List Item) (k : ℕ) (x : Item) (n : ℕ) → k < length xs → get_or xs k x ≡ x → root_item s x ≡ Item.Var n → n < next s → held (bindings s) n ≡ None → HasDomain (confined s xs) n
unfolding confined
at-place s [] k x n l e root made is = absurd (omega arith)
at-place s (y ∷ xs) zero x n l e root made is =
    let at : root_item s y ≡ Item.Var n = subst (λ (z : Item). root_item s z ≡ Item.Var n) (sym e) root in
    let here : HasDomain (confined_at s (root_item s y)) n = subst (λ (z : Item). HasDomain (confined_at s z) n) (sym at) (default-has s n (variable s n) refl made is) in
    (here.0, all-keep (confined_at s (root_item s y)) xs n here.0 here.1)
at-place s (y ∷ xs) (suc k) x n l e root made is =
    let c : State = confined_at s (root_item s y) in
    let same : bindings c ≡ bindings s = one-bindings s (root_item s y) in
    at-place c xs k x n (omega arith) e (root-same s c same x ∙ root) (subst (λ (m : ℕ). n < m) (sym (one-next s (root_item s y))) made) (subst (λ (b : Bindings). held b n ≡ None) (sym same) is)

pub confined_have_domains : ConfinedHaveDomains
confined_have_domains s items x n (k, l, e) root made is = at-place s items k x n l e root made is
