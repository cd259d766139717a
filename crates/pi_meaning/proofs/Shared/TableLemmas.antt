-- Tests of names that hold of each line of a table hold of each name that the table has.
use Rattle.std.proofs.Common.{◌≡◌, ℕ, zero, suc, ◌+◌, ◌-◌, ◌<◌, ◌≤◌, Bool, true, false, List, [], ◌∷◌, refl, sym, subst, arith}
use Rattle.std.specs.Prelude.{◌==◌, ◌&&◌, ◌||◌, nat_le}
use Rattle.std.specs.List.{list_any}
use Rattle.std.specs.Str.{bytes_eq}
use Rattle.std.proofs.lemmas.Bool.{and_parts, eqb-true, eqb-false, ltb-true, leb-true}
use Rattle.std.proofs.lemmas.Slice.Eq.{bytes_eq-Decides}
use Rattle.pi_syntax.specs.Tokens.{is_one_of}
use Rattle.pi_syntax.specs.Signature.{Signature}
use Rattle.pi_effects.specs.Rows.{Body, of_none, of_one, of_two, of_three, of_many, Row, fits, has_line}
use Rattle.pi_syntax.specs.Names.{Row as LibraryRow, is_listed}

abbrev pub Test : Type 0
Test = List ℕ → ℕ → Bool

pub same-name : (a b : List ℕ) → bytes_eq a b ≡ true → a ≡ b
same-name a b e = (bytes_eq-Decides a b).0 e

pub one-of : (a b c : Bool) → (a ≡ true → c ≡ true) → (b ≡ true → c ≡ true) → (a || b) ≡ true → c ≡ true
one-of true b c f g h = f refl
one-of false b c f g h = g h

-- ---- spellings, with one number of arguments

unfoldable pub each-spelled : Test → ℕ → List (List ℕ) → Bool
each-spelled P k [] = true
each-spelled P k (spelling ∷ spellings) = P spelling k && each-spelled P k spellings

pub spellings-hold : (P : Test) (k : ℕ) (spellings : List (List ℕ)) → each-spelled P k spellings ≡ true → (name : List ℕ) → is_one_of spellings name ≡ true → P name k ≡ true
unfolding each-spelled
spellings-hold P k [] h name found = absurd cc
spellings-hold P k (spelling ∷ spellings) h name found =
    let parts : (P spelling k ≡ true) × (each-spelled P k spellings ≡ true) = and_parts (P spelling k) (each-spelled P k spellings) h in
    one-of (bytes_eq name spelling) _ (P name k) (λ here. subst (λ (n : List ℕ). P n k ≡ true) (sym (same-name name spelling here)) parts.0) (spellings-hold P k spellings parts.1 name) found

-- ---- signatures

unfoldable pub each-signed : Test → List Signature → Bool
each-signed P [] = true
each-signed P (s ∷ ss) = P s.name s.arity && each-signed P ss

pub signatures-hold : (P : Test) (ss : List Signature) → each-signed P ss ≡ true → (name : List ℕ) (k : ℕ) → list_any (λ s. bytes_eq s.name name && (s.arity == k)) ss ≡ true → P name k ≡ true
unfolding each-signed
signatures-hold P [] h name k found = absurd cc
signatures-hold P (s ∷ ss) h name k found =
    let parts : (P s.name s.arity ≡ true) × (each-signed P ss ≡ true) = and_parts (P s.name s.arity) (each-signed P ss) h in
    one-of (bytes_eq s.name name && (s.arity == k)) _ (P name k) (λ here. this (and_parts (bytes_eq s.name name) (s.arity == k) here) parts.0) (signatures-hold P ss parts.1 name k) found
  where
    this : (bytes_eq s.name name ≡ true) × ((s.arity == k) ≡ true) → P s.name s.arity ≡ true → P name k ≡ true
    this h found = subst (λ (j : ℕ). P name j ≡ true) (eqb-true s.arity k h.1) (subst (λ (n : List ℕ). P n s.arity ≡ true) (same-name s.name name h.0) found)

-- ---- lines of the tables of effects

-- with 1 to so many arguments
unfoldable pub each-below : Test → List ℕ → ℕ → Bool
each-below P name zero = true
each-below P name (suc m) = P name (suc m) && each-below P name m

below-least : (P : Test) (name : List ℕ) (m k : ℕ) → each-below P name m ≡ true → k < m → P name (suc k) ≡ true
unfolding each-below
below-least P name zero k h less = absurd (omega arith)
below-least P name (suc m) k h less =
    let parts : (P name (suc m) ≡ true) × (each-below P name m ≡ true) = and_parts (P name (suc m)) (each-below P name m) h in
    tested (k == m) refl parts.0 (below-least P name m k parts.1)
  where
    tested : (b : Bool) → (k == m) ≡ b → P name (suc m) ≡ true → (k < m → P name (suc k) ≡ true) → P name (suc k) ≡ true
    tested true e last rest = subst (λ (j : ℕ). P name (suc j) ≡ true) (sym (eqb-true k m e)) last
    tested false e last rest = rest (omega (arith, less, eqb-false k m e))

unfoldable pub body-holds : {R : Type 0} → Test → List ℕ → Body R → Bool
body-holds P name (of_none f) = P name 0
body-holds P name (of_one f) = P name 1
body-holds P name (of_two f) = P name 2
body-holds P name (of_three f) = P name 3
body-holds P name (of_many most f) = each-below P name most

fits-hold : {R : Type 0} (P : Test) (name : List ℕ) (b : Body R) (k : ℕ) → body-holds P name b ≡ true → fits b k ≡ true → P name k ≡ true
unfolding body-holds
fits-hold P name (of_none f) zero h fit = h
fits-hold P name (of_none f) (suc k) h fit = absurd cc
fits-hold P name (of_one f) zero h fit = absurd cc
fits-hold P name (of_one f) (suc zero) h fit = h
fits-hold P name (of_one f) (suc (suc k)) h fit = absurd cc
fits-hold P name (of_two f) zero h fit = absurd cc
fits-hold P name (of_two f) (suc zero) h fit = absurd cc
fits-hold P name (of_two f) (suc (suc zero)) h fit = h
fits-hold P name (of_two f) (suc (suc (suc k))) h fit = absurd cc
fits-hold P name (of_three f) zero h fit = absurd cc
fits-hold P name (of_three f) (suc zero) h fit = absurd cc
fits-hold P name (of_three f) (suc (suc zero)) h fit = absurd cc
fits-hold P name (of_three f) (suc (suc (suc zero))) h fit = h
fits-hold P name (of_three f) (suc (suc (suc (suc k)))) h fit = absurd cc
fits-hold P name (of_many most f) zero h fit = absurd cc
fits-hold P name (of_many most f) (suc k) h fit = below-least P name most k h (ltb-true k most fit)

unfoldable pub each-line : {R : Type 0} → Test → List (Row R) → Bool
each-line P [] = true
each-line P (r ∷ rows) = body-holds P r.name r.body && each-line P rows

pub lines-hold : {R : Type 0} (P : Test) (rows : List (Row R)) → each-line P rows ≡ true → (name : List ℕ) (k : ℕ) → has_line rows name k ≡ true → P name k ≡ true
unfolding each-line has_line
lines-hold P [] h name k found = absurd cc
lines-hold P (r ∷ rows) h name k found =
    let parts : (body-holds P r.name r.body ≡ true) × (each-line P rows ≡ true) = and_parts (body-holds P r.name r.body) (each-line P rows) h in
    one-of (bytes_eq r.name name && fits r.body k) _ (P name k) (λ here. this (and_parts (bytes_eq r.name name) (fits r.body k) here) parts.0) (lines-hold P rows parts.1 name k) found
  where
    this : (bytes_eq r.name name ≡ true) × (fits r.body k ≡ true) → body-holds P r.name r.body ≡ true → P name k ≡ true
    this h found = subst (λ (n : List ℕ). P n k ≡ true) (same-name r.name name h.0) (fits-hold P r.name r.body k found h.1)

-- ---- rows of the names that are built in

-- with so many arguments, and with up to so many more
unfoldable pub each-from : Test → List ℕ → ℕ → ℕ → Bool
each-from P name least zero = P name least
each-from P name least (suc m) = P name least && each-from P name (suc least) m

from-holds : (P : Test) (name : List ℕ) (least m k : ℕ) → each-from P name least m ≡ true → least ≤ k → k ≤ least + m → P name k ≡ true
unfolding each-from
from-holds P name least zero k h low high = let same : least ≡ k = omega (arith, low, high) in subst (λ (j : ℕ). P name j ≡ true) same h
from-holds P name least (suc m) k h low high =
    let parts : (P name least ≡ true) × (each-from P name (suc least) m ≡ true) = and_parts (P name least) (each-from P name (suc least) m) h in
    tested (least == k) refl parts.0 (from-holds P name (suc least) m k parts.1)
  where
    tested : (b : Bool) → (least == k) ≡ b → P name least ≡ true → (suc least ≤ k → k ≤ suc least + m → P name k ≡ true) → P name k ≡ true
    tested true e here rest = subst (λ (j : ℕ). P name j ≡ true) (eqb-true least k e) here
    tested false e here rest = rest (omega (arith, low, eqb-false least k e)) (omega (arith, high))

unfoldable pub each-row : Test → List LibraryRow → Bool
each-row P [] = true
each-row P (r ∷ rows) = each-from P r.name r.least (r.most - r.least) && each-row P rows

pub rows-hold : (P : Test) (rows : List LibraryRow) → each-row P rows ≡ true → (name : List ℕ) (k : ℕ) → is_listed rows name k ≡ true → P name k ≡ true
unfolding each-row
rows-hold P [] h name k found = absurd cc
rows-hold P (r ∷ rows) h name k found =
    let parts : (each-from P r.name r.least (r.most - r.least) ≡ true) × (each-row P rows ≡ true) = and_parts (each-from P r.name r.least (r.most - r.least)) (each-row P rows) h in
    one-of (bytes_eq r.name name && (nat_le r.least k && nat_le k r.most)) _ (P name k)
    (λ here. this (and_parts (bytes_eq r.name name) (nat_le r.least k && nat_le k r.most) here) parts.0) (rows-hold P rows parts.1 name k) found
  where
    this : (bytes_eq r.name name ≡ true) × ((nat_le r.least k && nat_le k r.most) ≡ true) → each-from P r.name r.least (r.most - r.least) ≡ true → P name k ≡ true
    this h found =
        let ends : (nat_le r.least k ≡ true) × (nat_le k r.most ≡ true) = and_parts (nat_le r.least k) (nat_le k r.most) h.1 in
        let low : r.least ≤ k = leb-true r.least k ends.0 in
        let high : k ≤ r.most = leb-true k r.most ends.1 in
        subst (λ (n : List ℕ). P n k ≡ true) (same-name r.name name h.0) (from-holds P r.name r.least (r.most - r.least) k found low (omega (arith, low, high)))
