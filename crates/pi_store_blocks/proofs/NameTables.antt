-- Tables of names: a name that is added changes none of the names that terms may have.
use Rattle.std.proofs.Common.{◌≡◌, ℕ, zero, suc, ◌<◌, ◌≤◌, Bool, true, false, cond, ◌&&◌, nat_lt, nat_le, List, [], ◌∷◌, ◌++◌, length, Option, Some, None, slice_get, slice_index, refl, ap, sym, subst, ◌∙◌, arith, length-append, append-nil, ⊎_elim}
use Rattle.std.proofs.lemmas.Bool.{cases_lt, le-leb, leb-true}
use Rattle.std.specs.Str.{bytes_eq}
use Rattle.std.proofs.lemmas.Slice.Eq.{bytes_eq-Decides}
use Rattle.pi_terms.specs.ListNames.{cell_name}
use Rattle.pi_terms.proofs.GetLemmas.{get_append_left, get_append_cases, get_some}
use Rattle.pi_atoms.specs.Names.{HasDistinct, Gains}
use Rattle.pi_store_blocks.specs.NameTable.{NameTable, is_from, is_given, names_of, table_of, IsTable, NamesStay}

abbrev Texts : Type 0
Texts = List (List ℕ)

-- a name that isn't among these, and these
first_same : (x : List ℕ) (names : Texts) → ((i : ℕ) → slice_get names i ≡ Some x → ⊥) → HasDistinct names
    → (j k : ℕ) (name : List ℕ) → slice_get (x ∷ names) j ≡ Some name → slice_get (x ∷ names) k ≡ Some name → j ≡ k
first_same x names none d zero zero name p q = refl
first_same x names none d zero (suc k) name p q = let e : slice_get names k ≡ Some x = cc in absurd (none k e)
first_same x names none d (suc j) zero name p q = let e : slice_get names j ≡ Some x = cc in absurd (none j e)
first_same x names none d (suc j) (suc k) name p q = ap suc (d.same j k name p q)

-- the first of names of which no two are the same is none of the others
first_alone : (x : List ℕ) (names : Texts) → HasDistinct (x ∷ names) → (i : ℕ) → slice_get names i ≡ Some x → ⊥
first_alone x names d i e = let same : 0 ≡ suc i = d.same 0 (suc i) x refl e in absurd (omega arith)

-- nor is it one that is added
still_alone : (x : List ℕ) (names more : Texts) (name : List ℕ) → HasDistinct (x ∷ names) → (name ≡ x → ⊥) → Gains names more name → (i : ℕ) → slice_get more i ≡ Some x → ⊥
still_alone x names more name d ne g i e =
    let at : slice_get (names ++ g.0) i ≡ Some x = subst (λ (l : Texts). slice_get l i ≡ Some x) g.1 e in
    ⊎_elim
    (λ none. let same : slice_get names i ≡ Some x = subst (λ (l : Texts). slice_get l i ≡ Some x) (ap (λ l. names ++ l) none ∙ append-nil names) at in first_alone x names d i same)
    (λ one. let last : slice_get (names ++ name ∷ []) i ≡ Some x = subst (λ (l : Texts). slice_get (names ++ l) i ≡ Some x) one at in
    ⊎_elim (λ same. first_alone x names d i same) (λ new. ne (sym new.1)) (get_append_cases names name i x last))
    g.2

pub distinct_still : (names more : Texts) (name : List ℕ) → HasDistinct (cell_name ∷ names) → bytes_eq name cell_name ≡ false → Gains names more name → HasDistinct more → HasDistinct (cell_name ∷ more)
distinct_still names more name d ne g m = record { same = first_same cell_name more (still_alone cell_name names more name d (λ e. let is : bytes_eq name cell_name ≡ true = (bytes_eq-Decides name cell_name).1 e in absurd (cc)) g) m }

one_at_most : (names more : Texts) (name : List ℕ) → Gains names more name → length more ≤ suc (length names)
one_at_most names more name g = ⊎_elim
    (λ none. let n : length g.0 ≡ 0 = ap length none in let l : length more ≡ length (names ++ g.0) = ap length g.1 in omega (arith, length-append names g.0))
    (λ one. let n : length g.0 ≡ 1 = ap length one in let l : length more ≡ length (names ++ g.0) = ap length g.1 in omega (arith, length-append names g.0))
    g.2

no_fewer : (names more : Texts) (name : List ℕ) → Gains names more name → length names ≤ length more
no_fewer names more name g = let l : length more ≡ length (names ++ g.0) = ap length g.1 in omega (arith, length-append names g.0)

-- the table with one more name, where there is a word for it
pub table_still : (names more : Texts) (ws vs name : List ℕ) → IsTable names ws → bytes_eq name cell_name ≡ false → Gains names more name → HasDistinct more
    → ((k : ℕ) → slice_index vs k ≡ slice_index ws k) → length names < length vs → IsTable more vs
table_still names more ws vs name t ne g m same room = record {
  distinct = distinct_still names more name t.distinct ne g m;
  room = let one : length more ≤ suc (length names) = one_at_most names more name g in omega arith;
  fresh = λ k le. let few : length names ≤ length more = no_fewer names more name g in same k ∙ t.fresh k (omega arith);
}

-- the names that terms may have are those of before
names_within : (names more : Texts) (name : List ℕ) (k : ℕ) → Gains names more name → k < length names → slice_get more k ≡ slice_get names k
names_within names more name k g lt =
    let s = get_some names k lt in
    ap (λ l. slice_get l k) g.1 ∙ (get_append_left names g.0 k s.0 s.1 ∙ sym s.1)

pub names_still : (names more : Texts) (ws vs name : List ℕ) → IsTable names ws → Gains names more name → ((k : ℕ) → slice_index vs k ≡ slice_index ws k)
    → (len k : ℕ) → names_of (table_of more vs) len k ≡ names_of (table_of names ws) len k
names_still names more ws vs name t g same len zero = refl
names_still names more ws vs name t g same len (suc k) =
    ap (λ w. cond (is_from w len) (slice_get more k) None) (same k) ∙ ⊎_elim
    (λ lt. ap (λ o. cond (is_from (slice_index ws k) len) o None) (names_within names more name k g lt))
    (λ le. ap (λ w. cond (is_from w len) (slice_get more k) None) (t.fresh k le) ∙ sym (ap (λ w. cond (is_from w len) (slice_get names k) None) (t.fresh k le)))
    (cases_lt k (length names))

-- and a name that they may have, they may have in a longer region
both : (a b : Bool) → (a && b) ≡ true → (a ≡ true) × (b ≡ true)
both true b e = (refl, e)
both false b e = absurd (cc)

from_more : (word m n : ℕ) → m ≤ n → is_from word m ≡ true → is_from word n ≡ true
from_more word m n le e =
    let p = both (nat_lt 0 word) (nat_le word (suc m)) e in
    let h : word ≤ suc m = leb-true word (suc m) p.1 in
    let k : word ≤ suc n = omega arith in
    ap (λ b. b && nat_le word (suc n)) p.0 ∙ le-leb word (suc n) k

pub given_more : (t : NameTable) (m n k : ℕ) → m ≤ n → is_given t m k ≡ true → is_given t n k ≡ true
given_more t m n zero le e = refl
given_more t m n (suc k) le e = from_more (slice_index t.from (suc k)) m n le e

-- which of the two it is, by the name
pub given_by : (b : Bool) (o : Option (List ℕ)) (name : List ℕ) → cond b o None ≡ Some name → (b ≡ true) × (o ≡ Some name)
given_by true o name e = (refl, e)
given_by false o name e = absurd (cc)

pub names_stay : NamesStay
names_stay t m n k name le e =
    let g = given_by (is_given t m k) (slice_get t.texts k) name e in
    ap (λ b. cond b (slice_get t.texts k) None) (given_more t m n k le g.0) ∙ g.1

-- only numbers that have a name have a word that says so
pub given_known : (names : Texts) (ws : List ℕ) (place word len : ℕ) (b : Bool) → IsTable names ws → word ≡ slice_index ws place → b ≡ is_from word len → b ≡ true → place < length names
given_known names ws place word len b t is said e = ⊎_elim
    (λ lt. lt)
    (λ le. let none : is_from word len ≡ false = ap (λ w. is_from w len) (is ∙ t.fresh place le) in let some : is_from word len ≡ true = sym said ∙ e in absurd (cc))
    (cases_lt place (length names))
