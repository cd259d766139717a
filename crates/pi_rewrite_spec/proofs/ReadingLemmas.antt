-- Calls by how they are read: what stays as a structure is one of what its arguments come to, and any other call is a function's, whose arguments are evaluated.
use Rattle.std.proofs.Common.{◌≡◌, ℕ, Bool, true, false, cond, List, [], ◌∷◌, refl, sym, ◌∙◌, ap, subst}
use Rattle.std.specs.Prelude.{◌==◌, ◌&&◌, ◌||◌, codes}
use Rattle.std.specs.Str.{bytes_eq}
use Rattle.std.proofs.lemmas.Bool.{true≢false, false≢true, and_parts, eqb-true}
use Rattle.pi_terms.specs.Tree.{comp}
use Rattle.pi_meaning.specs.Shared.Given.{Setting}
use Rattle.pi_meaning.specs.OverNames.Control.{made_of}
use Rattle.pi_meaning.specs.OverNames.Forms.{Parts, Reading, plain, operand, boolean, ranged, operand_readings, is_operand_node, is_sum, is_connective, is_constraint, is_find_all, is_count_all, function_value, call_value}
use Rattle.pi_meaning.proofs.Shared.TableLemmas.{same-name}
use Rattle.pi_rewrite_spec.specs.Values.{stays}
use Rattle.pi_rewrite_spec.specs.Forms.{IsNode}

neither : (a b : Bool) → a || b ≡ false → (a ≡ false) × (b ≡ false)
neither true b h = absurd (true≢false h)
neither false b h = (refl, h)

-- what a call comes to over names
pub structure-value : (set : Setting) (r : Reading) (name : List ℕ) (k : ℕ) (parts : Parts) → stays r name k ≡ true → call_value set r name k parts ≡ made_of (comp name) parts.all
unfolding call_value
structure-value set plain name k parts is = absurd (false≢true is)
structure-value set ranged name k parts is = absurd (false≢true is)
structure-value set operand name k parts is = ap (λ (test : Bool). cond test (made_of (comp name) parts.all) (function_value set name k parts)) is
structure-value set boolean name k parts is = ap (λ (test : Bool). cond test (made_of (comp name) parts.all) (function_value set name k parts)) is

pub function-value : (set : Setting) (r : Reading) (name : List ℕ) (k : ℕ) (parts : Parts) → stays r name k ≡ false → call_value set r name k parts ≡ function_value set name k parts
unfolding call_value
function-value set plain name k parts is = refl
function-value set ranged name k parts is = refl
function-value set operand name k parts is = ap (λ (test : Bool). cond test (made_of (comp name) parts.all) (function_value set name k parts)) is
function-value set boolean name k parts is = ap (λ (test : Bool). cond test (made_of (comp name) parts.all) (function_value set name k parts)) is

-- the arguments of a function are evaluated
pub function-readings : (r : Reading) (name : List ℕ) (k : ℕ) → stays r name k ≡ false → operand_readings r name k ≡ []
unfolding operand_readings
function-readings plain name k is = refl
function-readings ranged name k is = refl
function-readings operand name k is = ap (λ (test : Bool). cond test (operand ∷ operand ∷ []) []) (neither (is_operand_node name k) (is_sum name k) is).0
function-readings boolean name k is = none (is_connective name k) (is_constraint name k) is
  where
    none : (a b : Bool) → a || b ≡ false → cond a (boolean ∷ boolean ∷ []) (cond b (operand ∷ operand ∷ []) []) ≡ []
    none true b h = absurd (true≢false h)
    none false true h = absurd (true≢false h)
    none false false h = refl

-- ---- `find_all` and `count_all` never stay

apart : (t u : Bool) → (u ≡ true → t ≡ false) → t ≡ true → u ≡ false
apart true true h is = absurd (let e : true ≡ false = h refl in cc)
apart true false h is = refl
apart false u h is = absurd cc

-- of this spelling, with so many arguments
spelled : (P : List ℕ → ℕ → Bool) (name spelling : List ℕ) (k j : ℕ) → (k == j && bytes_eq name spelling) ≡ true → P spelling j ≡ false → P name k ≡ false
spelled P name spelling k j found h =
    let parts = and_parts (k == j) (bytes_eq name spelling) found in
    subst (λ (i : ℕ). P name i ≡ false) (sym (eqb-true k j parts.0)) (subst (λ (n : List ℕ). P n j ≡ false) (sym (same-name name spelling parts.1)) h)

pub stays-apart : (r : Reading) (name : List ℕ) (k : ℕ) → stays r name k ≡ true → (is_find_all name k ≡ false) × (is_count_all name k ≡ false)
stays-apart plain name k is = absurd (false≢true is)
stays-apart ranged name k is = absurd (false≢true is)
stays-apart operand name k is = (
  apart (stays operand name k) (is_find_all name k) (λ found. spelled (λ n j. stays operand n j) name (codes "find_all") k 2 found refl) is,
  apart (stays operand name k) (is_count_all name k) (λ found. spelled (λ n j. stays operand n j) name (codes "count_all") k 1 found refl) is,
)
stays-apart boolean name k is = (
  apart (stays boolean name k) (is_find_all name k) (λ found. spelled (λ n j. stays boolean n j) name (codes "find_all") k 2 found refl) is,
  apart (stays boolean name k) (is_count_all name k) (λ found. spelled (λ n j. stays boolean n j) name (codes "count_all") k 1 found refl) is,
)

-- so of three that go by these names a structure has the last
pub third-of : {A : Type 0} (r : Reading) (name : List ℕ) (k : ℕ) → stays r name k ≡ true → (x y z : A) → cond (is_find_all name k) x (cond (is_count_all name k) y z) ≡ z
third-of r name k is x y z =
    let apart : (is_find_all name k ≡ false) × (is_count_all name k ≡ false) = stays-apart r name k is in
    ap (λ (test : Bool). cond test x (cond (is_count_all name k) y z)) apart.0 ∙ ap (λ (test : Bool). cond test y z) apart.1

-- what is a structure's, and what is a function's
pub own-of : (own called : Type 0) (test : Bool) → test ≡ true → IsNode test own called → own
own-of own called true is node = node
own-of own called false is node = absurd (false≢true is)

pub called-of : (own called : Type 0) (test : Bool) → test ≡ false → IsNode test own called → called
called-of own called true is node = absurd (true≢false is)
called-of own called false is node = node
