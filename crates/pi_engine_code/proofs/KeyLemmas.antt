-- The first key of a range: of one place, from one number on to before another.
use Rattle.std.proofs.Common.{◌≡◌, ℕ, ◌≤◌, ◌<◌, Bool, true, false, cond, List, [], ◌∷◌, Option, Some, refl, ap, sym, ◌∙◌, subst, arith}
use Rattle.std.specs.Prelude.{IfSome, slice_get}
use Rattle.std.specs.BTreeSet.{BTreeSet, IsKeyInRange, IsKeyRangeOf, contains, contains_by}
use Rattle.std.specs.BTreeMap.Range.{IsInRange, IsLeBy}
use Rattle.std.specs.Ordering.{nat_cmp, ordering_then, ordering_reverse, is_gt}
use Rattle.std.specs.declared.cmp.Ordering.{Ordering}
use Rattle.std.specs.declared.cmp.Ordering.TheVariants.{Less, Equal, Greater}
use Rattle.std.specs.declared.ops.Bound.TheVariants.{Included, Excluded}
use Rattle.std.specs.Cmp.{nat_cmp_total}
use Rattle.std.proofs.lemmas.Cmp.{ranked, tied_itself, tied_back}
use Rattle.pi_engine_code.specs.declared.fact_keys.FactKeys.{FactKeys}
use Rattle.pi_engine_code.specs.declared.key.FactKey.{FactKey}
use Rattle.pi_engine_code.specs.declared.key.FactPlace.{FactPlace}
use Rattle.pi_engine_code.specs.Order.{key, key_order, key_order_total, place_of, place_order, place_order_total}
use Rattle.pi_engine_code.specs.Keys.{Has, items_of}
use Rattle.std.specs.declared.vec.Vec.{Vec}
use Rattle.std.specs.declared.alloc.Global.{Global}

-- ---- numbers

up-to : (a b : ℕ) (o : Ordering) → o ≡ nat_cmp a b → is_gt o ≡ false → a ≤ b
up-to a b Less is not = let less : a < b = ranked a b Less is in omega (arith, less)
up-to a b Equal is not = let same : a ≡ b = ranked a b Equal is in omega (arith, same)
up-to a b Greater is not = absurd cc

not-above : (a b : ℕ) (o : Ordering) → o ≡ nat_cmp a b → a ≤ b → is_gt o ≡ false
not-above a b Less is low = refl
not-above a b Equal is low = refl
not-above a b Greater is low = let more : b < a = ranked a b Greater is in absurd (omega (arith, low, more))

below : (a b : ℕ) (o : Ordering) → o ≡ nat_cmp a b → a < b → o ≡ Less
below a b Less is less = refl
below a b Equal is less = let same : a ≡ b = ranked a b Equal is in absurd (omega (arith, less, same))
below a b Greater is less = let more : b < a = ranked a b Greater is in absurd (omega (arith, less, more))

-- ---- keys of one place

at-one : (p : FactPlace) (a b : ℕ) → key_order (key p a) (key p b) ≡ nat_cmp a b
at-one p a b = ap (λ (o : Ordering). ordering_then o (nat_cmp a b)) (tied_itself place_order_total p)

forward : (p : FactPlace) (from end : ℕ) → from ≤ end → IsLeBy key_order (key p from) (key p end)
forward p from end low = ap is_gt (at-one p from end) ∙ not-above from end (nat_cmp from end) refl low

in-range : (p : FactPlace) (from end n : ℕ) → from ≤ n → n < end → IsInRange key_order (Included (key p from)) (Excluded (key p end)) (key p n)
in-range p from end n low high = (ap is_gt (at-one p from n) ∙ not-above from n (nat_cmp from n) refl low, at-one p n end ∙ below n end (nat_cmp n end) refl high)

-- a key of a place, from a number on
record IsBehind (p : FactPlace) (from : ℕ) (x : FactKey) : Type 0 where
  pub same : place_order (place_of x) p ≡ Equal
  pub low : from ≤ x.number

never : false ≡ true → ⊥
never h = cc

greater-less : Greater ≡ Less → ⊥
greater-less h = cc

-- what lies between two keys of a place is one of it
inside : (p : FactPlace) (from end : ℕ) (x : FactKey) (o : Ordering) → place_order p (place_of x) ≡ o → is_gt (ordering_then o (nat_cmp from x.number)) ≡ false → ordering_then (place_order (place_of x) p) (nat_cmp x.number end) ≡ Less → IsBehind p from x
inside p from end x Less is low high =
    absurd (greater-less (sym (ap (λ (o : Ordering). ordering_then o (nat_cmp x.number end)) (place_order_total.antisymm (place_of x) p ∙ ap ordering_reverse is)) ∙ high))
inside p from end x Equal is low high = record { same = tied_back place_order_total p (place_of x) is; low = up-to from x.number (nat_cmp from x.number) refl low }
inside p from end x Greater is low high = absurd cc

up-to-key : (p : FactPlace) (x : FactKey) (n : ℕ) → place_order (place_of x) p ≡ Equal → IsLeBy key_order x (key p n) → x.number ≤ n
up-to-key p x n same le = up-to x.number n (nat_cmp x.number n) refl (sym (ap (λ (o : Ordering). is_gt (ordering_then o (nat_cmp x.number n))) same) ∙ le)

-- what lies in front of a key of its place has a smaller number
before : (p : FactPlace) (x : FactKey) (end : ℕ) → place_order (place_of x) p ≡ Equal → key_order x (key p end) ≡ Less → x.number < end
before p x end same less = ranked x.number end Less (sym (sym (ap (λ (o : Ordering). ordering_then o (nat_cmp x.number end)) same) ∙ less))

-- a key of a place is that of the place and its number
same-number : (p : FactPlace) (x : FactKey) → place_order (place_of x) p ≡ Equal → key_order x (key p x.number) ≡ Equal
same-number p x same = ap (λ (o : Ordering). ordering_then o (nat_cmp x.number x.number)) same ∙ tied_itself nat_cmp_total x.number

same-known : (keys : BTreeSet FactKey) (x y : FactKey) → key_order x y ≡ Equal → contains key_order keys x ≡ contains key_order keys y
same-known keys x y same = ap (λ (compare : FactKey → Ordering). contains_by compare keys) (λ i z. key_order_total.congr x y z same i)

-- ---- the first key of a range

pub record IsFirst (m : FactKeys) (p : FactPlace) (from end number : ℕ) : Type 0 where
  pub low : from ≤ number
  pub high : number ≤ end
  pub found : number < end → Has m p number
  pub least : (n : ℕ) → from ≤ n → n < end → Has m p n → number ≤ n

first-of : (m : FactKeys) (p : FactPlace) (from end : ℕ) (r rest : List FactKey) (x : FactKey) → IsKeyRangeOf key_order (Included (key p from)) (Excluded (key p end)) m.keys r → r ≡ x ∷ rest → IsFirst m p from end x.number
first-of m p from end r rest x range is =
    let it : IsKeyInRange key_order (Included (key p from)) (Excluded (key p end)) m.keys x =
    subst (λ (rs : List FactKey). IfSome (slice_get rs 0) (IsKeyInRange key_order (Included (key p from)) (Excluded (key p end)) m.keys)) is range.1 in
    let behind : IsBehind p from x = inside p from end x (place_order p (place_of x)) refl it.0.0 it.0.1 in
    record {
      low = behind.low;
      high = let less : x.number < end = before p x end behind.same it.0.1 in omega (arith, less);
      found = λ _. sym (same-known m.keys x (key p x.number) (same-number p x behind.same)) ∙ it.1;
      least = λ n low high has.
          up-to-key p x n behind.same
          (subst (λ (rs : List FactKey). IfSome (slice_get rs 0) (λ (k : FactKey). IsLeBy key_order k (key p n))) is (range.2 (key p n) (in-range p from end n low high) has));
    }

none-of : (m : FactKeys) (p : FactPlace) (from end : ℕ) (r : List FactKey) → from ≤ end → IsKeyRangeOf key_order (Included (key p from)) (Excluded (key p end)) m.keys r → r ≡ [] → IsFirst m p from end end
none-of m p from end r order range is =
    record {
      low = order;
      high = omega arith;
      found = λ less. absurd (omega (arith, less));
      least = λ n low high has. absurd (never (sym (range.5 is (key p n) (in-range p from end n low high)) ∙ has));
    }

-- the same, where the two keys are given
pub ordered : (p : FactPlace) (from end : ℕ) (low high : FactKey) → low ≡ key p from → high ≡ key p end → from ≤ end → IsLeBy key_order low high
ordered p from end low high is_low is_high order = subst (λ (k : FactKey). IsLeBy key_order k high) (sym is_low) (subst (IsLeBy key_order (key p from)) (sym is_high) (forward p from end order))

abbrev Lies : FactKeys → List FactKey → FactKey → FactKey → Type 0
Lies m r low high = IsKeyRangeOf key_order (Included low) (Excluded high) m.keys r

lies-so : (m : FactKeys) (p : FactPlace) (from end : ℕ) (low high : FactKey) (r : List FactKey) → low ≡ key p from → high ≡ key p end → Lies m r low high → Lies m r (key p from) (key p end)
lies-so m p from end low high r is_low is_high range = subst (Lies m r (key p from)) is_high (subst (λ (k : FactKey). Lies m r k high) is_low range)

pub first-found : (m : FactKeys) (p : FactPlace) (from end : ℕ) (low high : FactKey) (r rest : List FactKey) (x : FactKey) (number : ℕ) → low ≡ key p from → high ≡ key p end → IsKeyRangeOf key_order (Included low) (Excluded high) m.keys r → r ≡ x ∷ rest → number ≡ x.number →
    IsFirst m p from end number
first-found m p from end low high r rest x number is_low is_high range is same = subst (IsFirst m p from end) (sym same) (first-of m p from end r rest x (lies-so m p from end low high r is_low is_high range) is)

pub none-found : (m : FactKeys) (p : FactPlace) (from end : ℕ) (low high : FactKey) (r : List FactKey) → low ≡ key p from → high ≡ key p end → from ≤ end → IsKeyRangeOf key_order (Included low) (Excluded high) m.keys r → r ≡ [] → IsFirst m p from end end
none-found m p from end low high r is_low is_high order range is = none-of m p from end r order (lies-so m p from end low high r is_low is_high range) is

-- ---- the places of a predicate

pub items-cond : (b : Bool) (v : Vec ℕ Global) (o : Option (Vec ℕ Global)) → items_of (cond b (Some v) o) ≡ cond b v.items (items_of o)
items-cond true v o = refl
items-cond false v o = refl
