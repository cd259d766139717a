-- The end of the way down: each variable has one value, which a constraint refutes, or which solve all of them.
use Rattle.std.specs.Prelude.{◌≡◌, ◌≢◌, ◌⊎◌, ℕ, ◌+◌, ◌<◌, ◌≤◌, false, nat_eq, IsTrue, Option, Some, List, [], ◌∷◌, length, get_or, slice_get, map, All, ℤ, ◌<ℤ◌, ◌≤ℤ◌, refl}
use Rattle.std.proofs.Common.{arith, sym, ◌∙◌, ap, ap₂, subst, inl, inr}
use Rattle.std.proofs.lemmas.Bool.{cases_Bool, both_ways}
use Rattle.std.proofs.lemmas.Int.{ints}
use Rattle.std.proofs.lemmas.List.{get_or_default}
use Rattle.std.proofs.lemmas.List.Elements.{All-head, All-tail}
use Rattle.pi_constraints.specs.declared.constraint.Constraint.{Constraint}
use Rattle.pi_constraints.specs.declared.constraint.Item.{Item}
use Rattle.pi_constraints.specs.declared.domain.Span.{Span}
use Rattle.pi_constraints.specs.declared.var_domain.VarDomain.{VarDomain}
use Rattle.pi_constraints.specs.Constraint.{IsItem, IsWithinLimits}
use Rattle.pi_constraints.specs.Domain.{IsDomain, IsWithinBounds, has_value}
use Rattle.pi_constraints.proofs.DomainLemmas.{same_values_same_domain, values_are_within_bounds}
use Rattle.pi_prop_spec.specs.Ends.{least_of, greatest_of}
use Rattle.pi_prop_spec.specs.Places.{places_of, domain_at}
use Rattle.pi_prop_spec.specs.Solutions.{value_of, Holds}
use Rattle.pi_prop_spec.proofs.EndLemmas.{least-has, least-below, greatest-above}
use Rattle.pi_sat_spec.specs.declared.entry.SatEntry.{SatEntry}
use Rattle.pi_sat_spec.specs.declared.literal.Literal.{Literal}
use Rattle.pi_sat_spec.specs.Domains.{domain_of, cut, refuted, item_domain, only, at_places}
use Rattle.pi_sat_spec.specs.Literals.{negated}
use Rattle.pi_sat_spec.specs.Fixed.{fixed_places}
use Rattle.pi_sat_spec.specs.Logs.{Refutes, Empties}
use Rattle.pi_sat_spec.specs.Solutions.{IsSolution}
use Rattle.pi_sat_spec.proofs.CutLemmas.{domain-good}
use Rattle.pi_sat_spec.proofs.FixedLemmas.{fixed_places_tell}
use Rattle.pi_sat_spec.proofs.PlaceLemmas.{place_at, place-domain, place-item, only-domain, only-has}
use Rattle.pi_sat_search.specs.Assigned.{assigned}
use Rattle.pi_sat_search.specs.Nodes.{IsOpen, IsNode, NoneOpen, MayGo, IsNext, IsRefuting, least_values}
use Rattle.pi_sat_search.proofs.NodeLemmas.{node-lemma, new-lemma}
use Rattle.pi_sat_search.proofs.PickLemmas.{domain-here}
use Rattle.pi_sat_search.proofs.ShrinkLemmas.{Has, refuted-before, cut-count, cut-var, some-domain}

-- ---- a domain of one value

not-open : (a b : ℤ) → (a <ℤ b → ⊥) → b ≤ℤ a
not-open a b h = grind (arith, ints, h)

one-value : (d : List Span) (n : ℤ) → IsDomain d → (IsOpen d → ⊥) → IsTrue (has_value d n) → n ≡ least_of d
one-value d n good closed h =
    let down : least_of d ≤ℤ n = least-below d n good h in
    let up : n ≤ℤ greatest_of d = greatest-above d n good h in
    let same : greatest_of d ≤ℤ least_of d = not-open (least_of d) (greatest_of d) closed in
    omega (arith, ints, down, up, same)

only-value : (v n : ℤ) → IsTrue (has_value (only v) n) → n ≡ v
unfolding has_value
only-value v n h = grind (arith, ints, h)

pub one-only : (d : List Span) → IsDomain d → d ≢ [] → (IsOpen d → ⊥) → d ≡ only (least_of d)
one-only d good some closed =
    let has : IsTrue (has_value d (least_of d)) = least-has d good some in
    let bounds : IsWithinBounds (least_of d) = values_are_within_bounds d (least_of d) good has in
    same_values_same_domain d (only (least_of d)) good (only-domain (least_of d) bounds) (λ n. elim (cases_Bool (has_value d n)) [
      | inl t ↦ t ∙ sym (subst (λ (m : ℤ). IsTrue (has_value (only (least_of d)) m)) (sym (one-value d n good closed t)) (only-has (least_of d)))
      | inr f ↦ f ∙ sym (none d n f has)
    ])
  where
    none : (e : List Span) (n : ℤ) → has_value e n ≡ false → IsTrue (has_value e (least_of e)) → has_value (only (least_of e)) n ≡ false
    none e n f h = elim (cases_Bool (has_value (only (least_of e)) n)) [
      | inl t ↦ absurd (both_ways (has_value e n) f (subst (λ (m : ℤ). IsTrue (has_value e m)) (sym (only-value (least_of e) n t)) h))
      | inr g ↦ g
    ]

-- ---- the values

assigned-least : (present : List VarDomain) (n : ℕ) → domain_of present n ≢ [] → assigned (least_values present) n ≡ least_of (domain_of present n)
unfolding assigned domain_of
assigned-least [] n some = absurd (some refl)
assigned-least (x ∷ xs) n some = elim (cases_Bool (nat_eq x.var n)) [
  | inl e ↦ rw e refl
  | inr e ↦ let there : domain_of xs n ≢ [] = rw e at some in rw e (assigned-least xs n there)
]

refuted-count : (xs : List VarDomain) (lemma : List Literal) → length (refuted xs lemma) ≡ length xs
unfolding refuted
refuted-count xs [] = refl
refuted-count xs (l ∷ ls) = refuted-count (cut xs (negated l)) ls ∙ cut-count xs (negated l)

refuted-var : (xs : List VarDomain) (lemma : List Literal) (i : ℕ) (other : VarDomain) → i < length xs → (get_or (refuted xs lemma) i other).var ≡ (get_or xs i other).var
unfolding refuted
refuted-var xs [] i other lt = refl
refuted-var xs (l ∷ ls) i other lt = refuted-var (cut xs (negated l)) ls i other (omega (arith, lt, cut-count xs (negated l))) ∙ cut-var xs (negated l) i other lt

-- ---- none of a list, one after the other

pub none-so-far : (cs : List Constraint) (i : ℕ) (c : Constraint) (P : Constraint → Type 0) → i < length cs → c ≡ get_or cs i c → (P c → ⊥) → ((k : ℕ) (other : Constraint) → k < i → P (get_or cs k other) → ⊥) →
    (k : ℕ) (other : Constraint) → k < i + 1 → P (get_or cs k other) → ⊥
none-so-far cs i c P lt read none before k other l p = elim (before-or-here k i l) [
  | inl less ↦ before k other less p
  | inr e ↦ none (subst P (ap (λ (j : ℕ). get_or cs j other) e ∙ (get_or_default cs i other c lt ∙ sym read)) p)
]
  where
    before-or-here : (j n : ℕ) → j < n + 1 → (j < n) ⊎ (j ≡ n)
    before-or-here j n h = grind (arith, h)

pub none-at-all : (cs : List Constraint) (i : ℕ) (P : Constraint → Type 0) → length cs ≤ i → ((k : ℕ) (other : Constraint) → k < i → P (get_or cs k other) → ⊥) → All (λ c. P c → ⊥) cs
none-at-all cs i P past before = λ k other l p. before k other (omega (arith, l, past)) p

-- what was found over other names of the same
pub as-given : (bs : List Constraint) (ys : List VarDomain) (cs : List Constraint) (present : List VarDomain) (found told : Option ℕ) → bs ≡ cs → ys ≡ present → found ≡ told → IsRefuting bs ys found → IsRefuting cs present told
as-given bs ys cs present found told e f g h =
    subst (λ (ds : List Constraint). IsRefuting ds present told) e (subst (λ (zs : List VarDomain). IsRefuting bs zs told) f (subst (IsRefuting bs ys) g h))

module _ (xs : List VarDomain) (cs : List Constraint) (log : List SatEntry) (present : List VarDomain) (lemma : List Literal) (may : MayGo xs cs log) (node : IsNode xs log present lemma) (closed : NoneOpen present) where
  abbrev a : ℕ → ℤ
  a = assigned (least_values present)

  value-has : (n : ℕ) → domain_of present n ≢ [] → Has present n (a n)
  value-has n some =
      subst (λ (v : ℤ). Has present n v) (sym (assigned-least present n some)) (least-has (domain_of present n) (domain-good present n node.domains) some)

  within-at : (i : ℕ) (other : VarDomain) → i < length xs → IsTrue (has_value (get_or xs i other).domain (a (get_or xs i other).var))
  within-at i other lt =
      let count : length present ≡ length xs = ap length node.cut ∙ refuted-count xs lemma in
      let var : (get_or present i other).var ≡ (get_or xs i other).var = ap (λ (ys : List VarDomain). (get_or ys i other).var) node.cut ∙ refuted-var xs lemma i other lt in
      let some : domain_of present (get_or xs i other).var ≢ [] =
      subst (λ (n : ℕ). domain_of present n ≢ []) var (some-domain present i other node.some (omega (arith, lt, count))) in
      let has : Has present (get_or xs i other).var (a (get_or xs i other).var) = value-has (get_or xs i other).var some in
      subst (λ (d : List Span). IsTrue (has_value d (a (get_or xs i other).var))) (domain-here xs i other may.once lt)
      (refuted-before xs lemma (get_or xs i other).var (a (get_or xs i other).var) node.given (subst (λ (ys : List VarDomain). Has ys (get_or xs i other).var (a (get_or xs i other).var)) node.cut has))

  -- a place whose variable has no value is emptied
  place-some : (c : Constraint) (k n : ℕ) → (Refutes c present → ⊥) → k < length (places_of c) → place_at c k ≡ Item.Var n → domain_of present n ≢ []
  unfolding has_value
  place-some c k n fine l is none =
      fine (inr (
        k,
        l,
        λ v stays.
            let given : IsTrue (has_value (domain_at (at_places present c) k) v) = (stays k l (inl refl)).given in
            let empty : domain_at (at_places present c) k ≡ [] = place-domain present c k l ∙ (ap (item_domain present) is ∙ none) in
            let had : IsTrue (has_value [] v) = subst (λ (d : List Span). IsTrue (has_value d v)) empty given in
            no-value v had,
      ))
    where
      no-value : (v : ℤ) → IsTrue (has_value [] v) → ⊥
      no-value v h = cc

  item-fixed : (x : Item) → IsItem x → ((n : ℕ) → x ≡ Item.Var n → domain_of present n ≢ []) → (item_domain present x ≡ only (value_of a x)) × IsWithinBounds (value_of a x)
  item-fixed (Item.Var n) is some =
      let s : domain_of present n ≢ [] = some n refl in (
        one-only (domain_of present n) (domain-good present n node.domains) s (closed n) ∙ ap only (sym (assigned-least present n s)),
        values_are_within_bounds (domain_of present n) (a n) (domain-good present n node.domains) (value-has n s),
      )
  item-fixed (Item.Int i) is some = (refl, is)

  item-at : (c : Constraint) → IsWithinLimits c → (Refutes c present → ⊥) → (k : ℕ) → k < length (places_of c) →
      (item_domain present (place_at c k) ≡ only (value_of a (place_at c k))) × IsWithinBounds (value_of a (place_at c k))
  item-at c limits fine k l = item-fixed (place_at c k) (place-item c k limits l) (λ n is. place-some c k n fine l is)

  same-map : (items : List Item) → All (λ x. item_domain present x ≡ only (value_of a x)) items → map (item_domain present) items ≡ map (λ x. only (value_of a x)) items
  same-map [] h = refl
  same-map (x ∷ items) h =
      ap₂ (λ (d : List Span) (ds : List (List Span)). d ∷ ds) (All-head (λ (y : Item). item_domain present y ≡ only (value_of a y)) x items h)
      (same-map items (All-tail (λ (y : Item). item_domain present y ≡ only (value_of a y)) x items h))

  constraint-holds : (c : Constraint) → IsWithinLimits c → (Refutes c present → ⊥) → Holds c a
  constraint-holds c limits fine =
      let here : (k : ℕ) (other : Item) → k < length (places_of c) → place_at c k ≡ get_or (places_of c) k other = λ k other l. get_or_default (places_of c) k _ other l in
      let same : at_places present c ≡ fixed_places a c =
      same-map (places_of c) (λ k other l. subst (λ (x : Item). item_domain present x ≡ only (value_of a x)) (here k other l) (item-at c limits fine k l).0) in
      fixed_places_tell c a limits (λ k other l. subst (λ (x : Item). IsWithinBounds (value_of a x)) (here k other l) (item-at c limits fine k l).1)
      (λ e. fine (inr (subst (λ (ds : List (List Span)). Empties c ds) (sym same) e)))

  pub leaf-solution : All (λ c. Refutes c present → ⊥) cs → IsSolution xs cs (assigned (least_values present))
  leaf-solution fine = record { within = within-at; holds = λ k other l. constraint-holds (get_or cs k other) (may.limits k other l) (fine k other l) }

  pub leaf-next : (i : ℕ) (c : Constraint) → slice_get cs i ≡ Some c → Refutes c present → IsNext xs cs log (SatEntry.FromConstraint lemma i)
  leaf-next i c is refutes =
      ((node-lemma xs log present lemma node, (c, is, subst (λ (ys : List VarDomain). Refutes c ys) node.cut refutes)), new-lemma xs log present lemma node)
