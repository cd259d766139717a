-- What kept entries are, as terms.
use Rattle.std.specs.Prelude.{◌≡◌, ◌≢◌, ℕ, ◌+◌, ◌-◌, List, [], Bool, true, false, cond, Option, Some, None, ℤ, pos, refl}
use Rattle.std.proofs.Common.{arith, subst, sym, ◌∙◌, ap}
use Rattle.std.proofs.lemmas.Int.{ints}
use Rattle.std.specs.BTreeMap.{is_at, insert_entry}
use Rattle.std.specs.Map.{remove_entry}
use Rattle.std.specs.Ordering.{nat_cmp}
use Rattle.pi_prop_spec.specs.PostingSums.{Ascend, coefficient}
use Rattle.pi_prop_made.specs.declared.coefficient.Coefficient.{Coefficient}
use Rattle.pi_prop_made.specs.declared.sum_limits.Limits.{Limits}
use Rattle.pi_prop_made.specs.Signed.{signed}
use Rattle.pi_prop_made.specs.Kept.{counted, terms_of, limit_of, limit_found, limits_of, LimitsMore, LimitsFewer, IsKept}
use Rattle.pi_prop_made.specs.Changes.{Sets}
use Rattle.pi_prop_made.proofs.KeptLemmas.{number_found, found, coefficient-found, same_variable, ascend-put, ascend-taken, limits-put, limits-taken}

pub kept_none : (es : List (ℕ × Coefficient)) (limits : Limits) → es ≡ [] → limits.plain ≡ 0 → limits.negated ≡ 0 → IsKept false es limits
unfolding Ascend terms_of limits_of
kept_none es limits e p n = subst (λ (es : List (ℕ × Coefficient)). IsKept false es limits) (sym e) (record { ascend = tt; plain = p; turned = n })

pub terms_none : (f : Bool) (es : List (ℕ × Coefficient)) → es ≡ [] → terms_of f es ≡ []
unfolding terms_of
terms_none f es e = ap (terms_of f) e

-- a sign that is turned twice
pub signed_twice : (f : Bool) (z : ℤ) → signed f (signed f z) ≡ z
signed_twice false z = refl
signed_twice true z = omega (arith, ints)

-- a number that is kept under the sign in front
pub counted_new : (f : Bool) (c : Coefficient) (z : ℤ) → c.value ≡ z → c.negated ≡ f → counted f c ≡ z
counted_new f c z e g = ap (λ (b : Bool). signed f (signed b c.value)) g ∙ (signed_twice f c.value ∙ e)

-- a coefficient that isn't negated is its value
pub number_of : (c : Coefficient) (z : ℤ) → c.negated ≡ false → c.value ≡ z → signed c.negated c.value ≡ z
number_of c z g e = ap (λ (b : Bool). signed b c.value) g ∙ e

-- ---- what is found

pub is_coefficient : (f : Bool) (k : ℕ) (es : List (ℕ × Coefficient)) (limits : Limits) (ts : List (ℤ × ℕ)) (o : Option Coefficient) → IsKept f es limits → terms_of f es ≡ ts → o ≡ found k es → number_found f o ≡ coefficient ts k
is_coefficient f k es limits ts o kept view e = ap (number_found f) e ∙ (sym (coefficient-found f 0 k es kept.ascend) ∙ ap (λ (us : List (ℤ × ℕ)). coefficient us k) view)

-- ---- one coefficient is put

pub put_kept : (f : Bool) (k : ℕ) (c : Coefficient) (es new : List (ℕ × Coefficient)) (before more limits : Limits) (o : Option Coefficient) → IsKept f es before → (z : ℤ) → counted f c ≡ z → z ≢ pos 0 →
    new ≡ insert_entry nat_cmp es k c → o ≡ found k es → LimitsMore before c more → LimitsFewer more o limits → IsKept f new limits
put_kept f k c es new before more limits o kept z is some entries old m l =
    subst (λ (ns : List (ℕ × Coefficient)). IsKept f ns limits) (sym entries) (record {
      ascend = ascend-put f 0 k c es kept.ascend (omega arith) (λ e. some (sym is ∙ e));
      plain = count false before.plain more.plain limits.plain kept.plain m.0 l.0;
      turned = count true before.negated more.negated limits.negated kept.turned m.1 l.1;
    })
  where
    count : (b : Bool) (was more now : ℕ) → was ≡ limits_of b es → more ≡ was + limit_of b c → now ≡ more - limit_found b o → now ≡ limits_of b (insert_entry nat_cmp es k c)
    count b was more now e m l =
        let h : limits_of b (insert_entry nat_cmp es k c) + limit_found b (found k es) ≡ limits_of b es + limit_of b c = limits-put b f 0 k c es kept.ascend in
        let g : limit_found b o ≡ limit_found b (found k es) = ap (limit_found b) old in
        omega (arith, e, m, l, h, g)

-- what changes, told by what is found
changed : (f : Bool) (k : ℕ) (w : Option Coefficient) (z : ℤ) (es new : List (ℕ × Coefficient)) (ts : List (ℤ × ℕ)) → Ascend 0 (terms_of f es) → Ascend 0 (terms_of f new) → terms_of f es ≡ ts → number_found f w ≡ z →
    ((q : ℕ) → found q new ≡ cond (is_at (nat_cmp k) q) w (found q es)) → Sets ts (terms_of f new) k z
changed f k w z es new ts s r view is updates n = coefficient-found f 0 n new r ∙ (ap (number_found f) (updates n) ∙ (by n (is_at (nat_cmp k) n) ∙ ap (λ (b : Bool). cond b z (coefficient ts n)) (same_variable k n)))
  where
    by : (n : ℕ) (b : Bool) → number_found f (cond b w (found n es)) ≡ cond b z (coefficient ts n)
    by n true = is
    by n false = sym (coefficient-found f 0 n es s) ∙ ap (λ (us : List (ℤ × ℕ)). coefficient us n) view

pub put_sets : (f : Bool) (k : ℕ) (c : Coefficient) (z : ℤ) (es new : List (ℕ × Coefficient)) (before limits : Limits) (ts : List (ℤ × ℕ)) → IsKept f es before → IsKept f new limits → terms_of f es ≡ ts → counted f c ≡ z →
    ((q : ℕ) → found q new ≡ cond (is_at (nat_cmp k) q) (Some c) (found q es)) → Sets ts (terms_of f new) k z
put_sets f k c z es new before limits ts kept now view is updates = changed f k (Some c) z es new ts kept.ascend now.ascend view is updates

-- ---- one coefficient is taken

pub taken_kept : (f : Bool) (k : ℕ) (es new : List (ℕ × Coefficient)) (before limits : Limits) (o : Option Coefficient) → IsKept f es before → new ≡ remove_entry (is_at (nat_cmp k)) es → o ≡ found k es →
    LimitsFewer before o limits → IsKept f new limits
taken_kept f k es new before limits o kept entries old l =
    subst (λ (ns : List (ℕ × Coefficient)). IsKept f ns limits) (sym entries) (record {
      ascend = ascend-taken f 0 k es kept.ascend;
      plain = count false before.plain limits.plain kept.plain l.0;
      turned = count true before.negated limits.negated kept.turned l.1;
    })
  where
    count : (b : Bool) (was now : ℕ) → was ≡ limits_of b es → now ≡ was - limit_found b o → now ≡ limits_of b (remove_entry (is_at (nat_cmp k)) es)
    count b was now e l =
        let h : limits_of b (remove_entry (is_at (nat_cmp k)) es) + limit_found b (found k es) ≡ limits_of b es = limits-taken b k es in
        let g : limit_found b o ≡ limit_found b (found k es) = ap (limit_found b) old in
        omega (arith, e, l, h, g)

pub taken_sets : (f : Bool) (k : ℕ) (es new : List (ℕ × Coefficient)) (before limits : Limits) (ts : List (ℤ × ℕ)) → IsKept f es before → IsKept f new limits → terms_of f es ≡ ts →
    ((q : ℕ) → found q new ≡ cond (is_at (nat_cmp k) q) None (found q es)) → Sets ts (terms_of f new) k (pos 0)
taken_sets f k es new before limits ts kept now view updates = changed f k None (pos 0) es new ts kept.ascend now.ascend view refl updates
