-- What a word says: a Ref by its tag, and a word that is none by its lowest five bits.
use Rattle.std.specs.Prelude.{ℕ, zero, suc, ◌+◌, ◌-◌, ◌*◌, ◌/◌, ◌%◌, ◌^◌, ◌<◌, nat_lt, Bool, true, false, cond, ◌==◌, List, [], ◌∷◌, ℤ, pos, negsuc, ◌-ℤ◌}
use Rattle.pi_store_blocks.specs.declared.form.Form.{Form}
use Rattle.pi_store_blocks.specs.declared.header.Header.{Header}

-- an integer of 61 bits with a sign is moved up by 2 ^ 60
abbrev pub small_of : ℕ → ℤ
small_of p = pos p -ℤ pos (2 ^ 60)

abbrev pub small_number : ℤ → ℕ
small_number (pos n) = 2 ^ 60 + n
small_number (negsuc n) = 2 ^ 60 - suc n

abbrev pub IsSmall : ℤ → Type 0
IsSmall (pos n) = n < 2 ^ 60
IsSmall (negsuc n) = n < 2 ^ 60

-- the tag, and the number beside it
abbrev pub form_with : ℕ → ℕ → Form
form_with zero p = Form.Var p
form_with (suc zero) p = Form.Int (small_of p)
form_with (suc (suc zero)) p = Form.Atom p
form_with (suc (suc (suc zero))) p = Form.Pair p false
form_with (suc (suc (suc (suc zero)))) p = Form.Pair p true
form_with (suc (suc (suc (suc (suc zero))))) p = Form.Comp p false
form_with (suc (suc (suc (suc (suc (suc zero)))))) p = Form.Comp p true
form_with (suc (suc (suc (suc (suc (suc (suc t))))))) p = Form.Data p

abbrev pub form_of : ℕ → Form
form_of n = form_with (n % 8) (n / 8)

abbrev pub tag_of : Form → ℕ
tag_of (Form.Var n) = 0
tag_of (Form.Int n) = 1
tag_of (Form.Atom k) = 2
tag_of (Form.Pair place is_ground) = cond is_ground 4 3
tag_of (Form.Comp place is_ground) = cond is_ground 6 5
tag_of (Form.Data n) = 7

abbrev pub payload_of : Form → ℕ
payload_of (Form.Var n) = n
payload_of (Form.Int n) = small_number n
payload_of (Form.Atom k) = k
payload_of (Form.Pair place is_ground) = place
payload_of (Form.Comp place is_ground) = place
payload_of (Form.Data n) = n

abbrev pub number_of : Form → ℕ
number_of f = payload_of f * 8 + tag_of f

abbrev pub IsFitting : Form → Type 0
IsFitting (Form.Var n) = n < 2 ^ 61
IsFitting (Form.Int n) = IsSmall n
IsFitting (Form.Atom k) = k < 2 ^ 61
IsFitting (Form.Pair place is_ground) = place < 2 ^ 61
IsFitting (Form.Comp place is_ground) = place < 2 ^ 61
IsFitting (Form.Data n) = n < 2 ^ 61

-- no variable occurs in it, as it was made
abbrev pub is_ground_form : Form → Bool
is_ground_form (Form.Var n) = false
is_ground_form (Form.Int n) = true
is_ground_form (Form.Atom k) = true
is_ground_form (Form.Pair place is_ground) = is_ground
is_ground_form (Form.Comp place is_ground) = is_ground
is_ground_form (Form.Data n) = false

unfoldable pub all_ground : List ℕ → Bool
all_ground [] = true
all_ground (r ∷ rs) = cond (is_ground_form (form_of r)) (all_ground rs) false

-- the word is a Ref
abbrev pub is_ref_form : Form → Bool
is_ref_form (Form.Var n) = true
is_ref_form (Form.Int n) = true
is_ref_form (Form.Atom k) = true
is_ref_form (Form.Pair place is_ground) = true
is_ref_form (Form.Comp place is_ground) = true
is_ref_form (Form.Data n) = false

abbrev pub is_ref : ℕ → Bool
is_ref w = is_ref_form (form_of w)

-- what a word says of the words below it: that they are the arguments of a compound, with the number of its name, how many they are and
-- whether they are ground; or the lower two parts of an integer
abbrev pub header_with : ℕ → ℕ → Header
header_with kind n = cond (kind == 15) (Header.Comp (n / 2 / 2 ^ 32) (n / 2 % 2 ^ 32) (n % 2 == 1)) (cond (kind == 23) (Header.Wide n) Header.Nothing)

abbrev pub header_of : ℕ → Header
header_of w = header_with (w % 32) (w / 32)

abbrev pub comp_number : ℕ → ℕ → Bool → ℕ
comp_number name count is_ground = (name * 2 ^ 32 + count) * 2 + cond is_ground 1 0

abbrev pub comp_word : ℕ → ℕ → Bool → ℕ
comp_word name count is_ground = comp_number name count is_ground * 32 + 15

abbrev pub wide_word : ℕ → ℕ
wide_word top = top * 32 + 23

-- an integer of 128 bits in three parts: that of 0 or above it, and below 0 that of its distance from -1, with 512 more in the first part
abbrev pub wide_top : ℤ → ℕ
wide_top (pos n) = n / 2 ^ 59 / 2 ^ 59
wide_top (negsuc n) = 512 + n / 2 ^ 59 / 2 ^ 59

abbrev pub wide_mid : ℤ → ℕ
wide_mid (pos n) = n / 2 ^ 59 % 2 ^ 59
wide_mid (negsuc n) = n / 2 ^ 59 % 2 ^ 59

abbrev pub wide_low : ℤ → ℕ
wide_low (pos n) = n % 2 ^ 59
wide_low (negsuc n) = n % 2 ^ 59

abbrev pub wide_sum : ℕ → ℕ → ℕ → ℕ
wide_sum top mid low = (top % 512 * 2 ^ 59 + mid) * 2 ^ 59 + low

abbrev pub wide_of : ℕ → ℕ → ℕ → ℤ
wide_of top mid low = cond (nat_lt top 512) (pos (wide_sum top mid low)) (negsuc (wide_sum top mid low))
