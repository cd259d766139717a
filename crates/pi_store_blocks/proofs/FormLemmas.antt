-- Forms, headers and wide integers are what their numbers say.
use Rattle.std.proofs.Common.{◌≡◌, ℕ, ◌+◌, ◌*◌, ◌/◌, ◌%◌, ◌^◌, ◌<◌, ◌≤◌, Bool, true, false, nat_lt, refl, ap, ◌∙◌, lit<, arith, ℤ, pos, negsuc}
use Rattle.std.proofs.lemmas.Nat.{div-mul-add, mod-mul-add, div_below, div-add-mod'}
use Rattle.std.proofs.lemmas.Bool.{lt-ltb, le-ltb, cond-true, cond-false}
use Rattle.std.proofs.lemmas.Int.{ints, to_z-of_z}
use mir.Syntax.{w64, w128}
use mir.Val.{to_z, of_z, SFits}
use Rattle.pi_store_blocks.specs.Form.{form_with, form_of, number_of, IsFitting, IsSmall, small_of, small_number, header_with, header_of, comp_number, comp_word, wide_word, wide_top, wide_mid, wide_low, wide_sum, wide_of}
use Rattle.std.specs.Prelude.{◌==◌}
use Rattle.pi_region.specs.Entry.{data_of}
use Rattle.pi_store_blocks.specs.declared.form.Form.{Form}
use Rattle.pi_store_blocks.specs.declared.header.Header.{Header}

pub small_of-small_number : (n : ℤ) → IsSmall n → small_of (small_number n) ≡ n
small_of-small_number (pos n) h = omega (arith, ints)
small_of-small_number (negsuc n) h = omega (arith, ints)

pub small_number-below : (n : ℤ) → IsSmall n → small_number n < 2 ^ 61
small_number-below (pos n) h = omega arith
small_number-below (negsuc n) h = omega arith

round : (tag p : ℕ) (f : Form) → tag < 8 → form_with tag p ≡ f → form_of (p * 8 + tag) ≡ f
round tag p f lt e = ap (λ x. form_with x ((p * 8 + tag) / 8)) (mod-mul-add p 8 tag lt) ∙ (ap (form_with tag) (div-mul-add p 8 tag lt) ∙ e)

pub form_of-number_of : (f : Form) → IsFitting f → form_of (number_of f) ≡ f
form_of-number_of (Form.Var n) h = round 0 n (Form.Var n) (lit< tt) refl
form_of-number_of (Form.Int n) h = round 1 (small_number n) (Form.Int n) (lit< tt) (ap Form.Int (small_of-small_number n h))
form_of-number_of (Form.Atom k) h = round 2 k (Form.Atom k) (lit< tt) refl
form_of-number_of (Form.Pair place false) h = round 3 place (Form.Pair place false) (lit< tt) refl
form_of-number_of (Form.Pair place true) h = round 4 place (Form.Pair place true) (lit< tt) refl
form_of-number_of (Form.Comp place false) h = round 5 place (Form.Comp place false) (lit< tt) refl
form_of-number_of (Form.Comp place true) h = round 6 place (Form.Comp place true) (lit< tt) refl
form_of-number_of (Form.Data n) h = round 7 n (Form.Data n) (lit< tt) refl

header_at : (kind n : ℕ) → kind < 32 → header_of (n * 32 + kind) ≡ header_with kind n
header_at kind n lt = ap (λ x. header_with x ((n * 32 + kind) / 32)) (mod-mul-add n 32 kind lt) ∙ ap (header_with kind) (div-mul-add n 32 kind lt)

comp_of : (name count x bit : ℕ) (g : Bool) → count < 2 ^ 32 → x ≡ name * 2 ^ 32 + count → bit < 2 → (bit == 1) ≡ g
    → Header.Comp ((x * 2 + bit) / 2 / 2 ^ 32) ((x * 2 + bit) / 2 % 2 ^ 32) ((x * 2 + bit) % 2 == 1) ≡ Header.Comp name count g
comp_of name count x bit g few is lt e =
    let half : (x * 2 + bit) / 2 ≡ x = div-mul-add x 2 bit lt in
    let names : (x * 2 + bit) / 2 / 2 ^ 32 ≡ name = ap (λ v. v / 2 ^ 32) half ∙ (ap (λ v. v / 2 ^ 32) is ∙ div-mul-add name (2 ^ 32) count few) in
    let counts : (x * 2 + bit) / 2 % 2 ^ 32 ≡ count = ap (λ v. v % 2 ^ 32) half ∙ (ap (λ v. v % 2 ^ 32) is ∙ mod-mul-add name (2 ^ 32) count few) in
    let flag : ((x * 2 + bit) % 2 == 1) ≡ g = ap (λ v. v == 1) (mod-mul-add x 2 bit lt) ∙ e in
    ap (λ v. Header.Comp v ((x * 2 + bit) / 2 % 2 ^ 32) ((x * 2 + bit) % 2 == 1)) names
    ∙ (ap (λ v. Header.Comp name v ((x * 2 + bit) % 2 == 1)) counts ∙ ap (Header.Comp name count) flag)

pub header_of-comp_word : (name count : ℕ) (g : Bool) → count < 2 ^ 32 → header_of (comp_word name count g) ≡ Header.Comp name count g
header_of-comp_word name count true few = header_at 15 (comp_number name count true) (lit< tt) ∙ comp_of name count (name * 2 ^ 32 + count) 1 true few refl (lit< tt) refl
header_of-comp_word name count false few = header_at 15 (comp_number name count false) (lit< tt) ∙ comp_of name count (name * 2 ^ 32 + count) 0 false few refl (lit< tt) refl

pub header_of-data_of : (n : ℕ) → header_of (data_of n) ≡ Header.Nothing
header_of-data_of n = header_at 7 n (lit< tt)

pub header_of-wide_word : (top : ℕ) → header_of (wide_word top) ≡ Header.Wide top
header_of-wide_word top = header_at 23 top (lit< tt)

abbrev pub IsWide : ℤ → Type 0
IsWide (pos n) = n < 2 ^ 127
IsWide (negsuc n) = n < 2 ^ 127

parts_of : (n : ℕ) → (n / 2 ^ 59 / 2 ^ 59 * 2 ^ 59 + n / 2 ^ 59 % 2 ^ 59) * 2 ^ 59 + n % 2 ^ 59 ≡ n
parts_of n = ap (λ v. v * 2 ^ 59 + n % 2 ^ 59) (div-add-mod' (n / 2 ^ 59) (2 ^ 59)) ∙ div-add-mod' n (2 ^ 59)

top_below : (n : ℕ) → n < 2 ^ 127 → n / 2 ^ 59 / 2 ^ 59 < 512
top_below n h = div_below (n / 2 ^ 59) (2 ^ 59) 512 (lit< tt) (div_below n (2 ^ 59) (512 * 2 ^ 59) (lit< tt) h)

-- a part with and without the mark of integers below 0
sum_of : (n top : ℕ) → top % 512 ≡ n / 2 ^ 59 / 2 ^ 59 → wide_sum top (n / 2 ^ 59 % 2 ^ 59) (n % 2 ^ 59) ≡ n
sum_of n top e = ap (λ v. (v * 2 ^ 59 + n / 2 ^ 59 % 2 ^ 59) * 2 ^ 59 + n % 2 ^ 59) e ∙ parts_of n

pub wide_of-parts : (n : ℤ) → IsWide n → wide_of (wide_top n) (wide_mid n) (wide_low n) ≡ n
wide_of-parts (pos n) h =
    let q : ℕ = n / 2 ^ 59 / 2 ^ 59 in
    let lt : q < 512 = top_below n h in
    let whole : q % 512 ≡ q = omega arith in
    cond-true (nat_lt q 512) (pos (wide_sum q (n / 2 ^ 59 % 2 ^ 59) (n % 2 ^ 59))) (negsuc (wide_sum q (n / 2 ^ 59 % 2 ^ 59) (n % 2 ^ 59))) (lt-ltb q 512 lt)
    ∙ ap pos (sum_of n q whole)
wide_of-parts (negsuc n) h =
    let q : ℕ = n / 2 ^ 59 / 2 ^ 59 in
    let lt : q < 512 = top_below n h in
    let above : 512 ≤ 512 + q = omega arith in
    let whole : (512 + q) % 512 ≡ q = omega arith in
    cond-false (nat_lt (512 + q) 512) (pos (wide_sum (512 + q) (n / 2 ^ 59 % 2 ^ 59) (n % 2 ^ 59))) (negsuc (wide_sum (512 + q) (n / 2 ^ 59 % 2 ^ 59) (n % 2 ^ 59))) (le-ltb (512 + q) 512 above)
    ∙ ap negsuc (sum_of n (512 + q) whole)

-- an integer of 128 bits, as code passes it on
pub small_fits : (n : ℤ) → IsSmall n → SFits w64 n
small_fits (pos n) h = record { sfits = omega arith }
small_fits (negsuc n) h = record { sfits = omega arith }

pub wide_fits : (n : ℤ) → SFits w128 n → IsWide n
wide_fits (pos n) h = h.sfits
wide_fits (negsuc n) h = h.sfits

pub small_passed : (n : ℤ) → SFits w128 n → IsSmall n → to_z w64 (of_z w64 (to_z w128 (of_z w128 n))) ≡ n
small_passed n fits small = ap (λ k. to_z w64 (of_z w64 k)) (to_z-of_z w128 n fits) ∙ to_z-of_z w64 n (small_fits n small)

pub parts_passed : (n : ℤ) (top mid low : ℕ) → SFits w128 n → top ≡ wide_top (to_z w128 (of_z w128 n)) → mid ≡ wide_mid (to_z w128 (of_z w128 n)) → low ≡ wide_low (to_z w128 (of_z w128 n)) → wide_of top mid low ≡ n
parts_passed n top mid low fits a b c =
    let same : to_z w128 (of_z w128 n) ≡ n = to_z-of_z w128 n fits in
    ap (λ v. wide_of v mid low) (a ∙ ap wide_top same)
    ∙ (ap (λ v. wide_of (wide_top n) v low) (b ∙ ap wide_mid same) ∙ (ap (wide_of (wide_top n) (wide_mid n)) (c ∙ ap wide_low same) ∙ wide_of-parts n (wide_fits n fits)))
