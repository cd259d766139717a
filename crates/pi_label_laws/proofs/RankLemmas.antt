-- Where all items of the call come to integers in a stable state, all items of posted constraints do.
use Rattle.std.specs.Prelude.{◌≡◌, ◌⊎◌, ℕ, zero, suc, ◌<◌, ◌≤◌, ℤ, IsTrue, List, [], ◌∷◌, length, Some, Contains, refl}
use Rattle.std.proofs.Common.{arith, sym, ◌∙◌, ap, inl, inr}
use Rattle.pi_constraints.specs.declared.constraint.Constraint.{Constraint}
use Rattle.pi_constraints.specs.declared.constraint.Item.{Item}
use Rattle.pi_constraints.specs.declared.domain.Span.{Span}
use Rattle.pi_constraints.specs.Domain.{IsDomain, has_value, values_of, size_of}
use Rattle.pi_constraints.specs.State.{State, domain_of}
use Rattle.pi_constraints.proofs.CommonLemmas.{first_value}
use Rattle.pi_constraints.proofs.StateLemmas.{domain_good}
use Rattle.pi_prop_spec.specs.Places.{places_of}
use Rattle.pi_prop_spec.specs.Solutions.{Holds}
use Rattle.pi_settling.specs.Roots.{root_item}
use Rattle.pi_settling.specs.SettlingLaws.{MaySettle}
use Rattle.pi_settling.proofs.UniqueLemmas.{not_one}
use Rattle.pi_label_laws.specs.Made.{Makes, IsKnown, of_call, by_reading, AreKnown}
use Rattle.pi_label_laws.proofs.RestLemmas.{Rests, IsTold, valued-told}
use Rattle.pi_label_laws.proofs.MadeLemmas.{OpenAt, with_value, OthersTold, value-here, made-holds}

-- a variable has a domain
abbrev pub HasDomain : State → ℕ → Type 0
HasDomain s n = (d : List Span) × (domain_of s n ≡ Some d)

-- an item comes to a variable with a domain, or to an integer
abbrev pub ComesOut : State → Item → Type 0
ComesOut r y = ((v : ℕ) × (root_item r y ≡ Item.Var v) × HasDomain r v) ⊎ ((i : ℤ) × (root_item r y ≡ Item.Int i))

-- a stable state behind another one: all is posted there that was posted, items go on from where they were, and what had a domain comes out
pub record Behind (s r : State) : Type 0 where
  pub rests : Rests r
  pub posted : (c : Constraint) → Contains s.constraints c → Contains r.constraints c
  pub roots : (y : Item) → root_item r (root_item s y) ≡ root_item r y
  pub comes : (n : ℕ) → HasDomain s n → ComesOut r (Item.Var n)

told-by_root : (s r : State) (y : Item) (n : ℕ) → Behind s r → root_item s y ≡ Item.Var n → IsTold r (Item.Var n) → IsTold r y
told-by_root s r y n b e (i, f) = (i, sym (b.roots y) ∙ (ap (root_item r) e ∙ f))

root-told : (s r : State) (y : Item) (n : ℕ) → Behind s r → root_item s y ≡ Item.Var n → IsTold r y → IsTold r (Item.Var n)
root-told s r y n b e (i, f) = (i, sym (ap (root_item r) e) ∙ (b.roots y ∙ f))

-- ---- a variable that a reading made

-- all other places of its constraints come to integers, so it can't have two values
made-told : (s r : State) (m v : ℕ) (d : List Span) (cs : List Constraint) → Behind s r → ((c : Constraint) → Contains cs c → Contains s.constraints c) → Makes m cs →
    ((c : Constraint) → Contains cs c → OthersTold r m c) → root_item r (Item.Var m) ≡ Item.Var v → domain_of r v ≡ Some d → ⊥
made-told s r m v d cs b posted makes others root has =
    let good = domain_good r v d b.rests.state has in
    let has_at : (i : ℤ) → IsTrue (has_value d i) → OpenAt r m v d i = λ i h. record { rests = b.rests; root = root; has = has; inside = h } in
    let hold : (i : ℤ) → IsTrue (has_value d i) → (c : Constraint) → Contains cs c → Holds c (with_value r i) =
    λ i h c at. made-holds r m v d i c (has_at i h) (b.posted c (posted c at)) (others c at) (makes.places c at) in
    let one : (i j : ℤ) → IsTrue (has_value d i) → IsTrue (has_value d j) → i ≡ j =
    λ i j h k.
    sym (value-here r m v d i (has_at i h))
    ∙ (makes.one (with_value r i) (with_value r j) (hold i h) (hold j k)
    (λ c y at there apart. let told = others c at y there apart in valued-told r (λ n. i) y told.0 told.1 ∙ sym (valued-told r (λ n. j) y told.0 told.1))
    ∙ value-here r m v d j (has_at j k)) in
    two-values d good.0 good.1 one
  where
    by : (d : List Span) → IsDomain d → 2 ≤ size_of d → ((i j : ℤ) → IsTrue (has_value d i) → IsTrue (has_value d j) → i ≡ j) → (vs : List ℤ) → values_of d ≡ vs → ⊥
    by d up two one [] e = let none : size_of d ≡ 0 = ap length e in omega arith
    by d up two one (i ∷ vs) e = not_one d i up two (λ j h. one j i h (first_value d i vs up e))

    two-values : (d : List Span) → IsDomain d → 2 ≤ size_of d → ((i j : ℤ) → IsTrue (has_value d i) → IsTrue (has_value d j) → i ≡ j) → ⊥
    two-values d up two one = by d up two one (values_of d) refl

-- ---- by rank

abbrev pub CallTold : State → List Item → Type 0
CallTold r items = (x : Item) → Contains items x → IsTold r x

-- an item of a posted constraint, where variables of lower ranks than these do
place-told : (s r : State) (items : List Item) (rank : ℕ → ℕ) → Behind s r → MaySettle s → AreKnown s items rank → (bound : ℕ) →
    ((n : ℕ) → rank n < bound → HasDomain s n → IsKnown s items rank n → IsTold r (Item.Var n)) → (c : Constraint) (y : Item) → Contains s.constraints c → Contains (places_of c) y →
    ((k : ℕ) → root_item s y ≡ Item.Var k → rank k < bound) → IsTold r y
place-told s r items rank b may known bound lower c y posted at below = elim (may c y posted at) [
  | inl (k, d, e, has) ↦ told-by_root s r y k b e (lower k (below k e) (d, has) (known c y k posted at e))
  | inr (i, e, bounds) ↦ (i, sym (b.roots y) ∙ ap (root_item r) e)
]

known-told : (s r : State) (items : List Item) (rank : ℕ → ℕ) → Behind s r → MaySettle s → AreKnown s items rank → CallTold r items → (bound n : ℕ) → rank n < bound → HasDomain s n → IsKnown s items rank n → IsTold r (Item.Var n)
known-told s r items rank b may known call zero n l has k = absurd (omega arith)
known-told s r items rank b may known call (suc bound) n l has (of_call x at e) = root-told s r x n b e (call x at)
known-told s r items rank b may known call (suc bound) n l has (by_reading m cs posted makes e lower) = elim (b.comes n has) [
  | inr told ↦ told
  | inl (v, root, dom) ↦ absurd (made-told s r m v dom.0 cs b posted makes
      (λ c at y place apart. place-told s r items rank b may known bound (known-told s r items rank b may known call bound) c y (posted c at) place
      (λ k f. let below : rank k < rank n = lower c y k at place apart f in omega arith))
      (sym (b.roots (Item.Var m)) ∙ (ap (root_item r) e ∙ root)) dom.1)
]

pub all-told : (s r : State) (items : List Item) (rank : ℕ → ℕ) → Behind s r → MaySettle s → AreKnown s items rank → CallTold r items → (c : Constraint) (y : Item) → Contains s.constraints c → Contains (places_of c) y → IsTold r y
all-told s r items rank b may known call c y posted at = elim (may c y posted at) [
  | inl (k, d, e, has) ↦ told-by_root s r y k b e (known-told s r items rank b may known call (suc (rank k)) k (omega arith) (d, has) (known c y k posted at e))
  | inr (i, e, bounds) ↦ (i, sym (b.roots y) ∙ ap (root_item r) e)
]
