-- Texts and writing, worked out.
use Rattle.std.proofs.Common.{◌≡◌, [], ◌∷◌, refl}
use Rattle.std.specs.Prelude.{ℕ, nat_lt, Bool, true, false, List, ◌++◌, map, replicate, Some, None, Ok, Err, codes}
use Rattle.std.specs.List.{flat_map}
use Rattle.pi_terms.specs.Tree.{Tree, var, atom, cells, most_cells}
use Rattle.pi_constraints.specs.Value.{value}
use Rattle.pi_constraints.specs.State.{State, free, bound, bindings}
use Rattle.pi_syntax.specs.PrintTerm.{text_of}
use Rattle.pi_effects.specs.Effect.{Gives, Writes, Raises}
use Rattle.pi_effects.specs.Format.{any_term, argument_text}
use Rattle.pi_effects.specs.Items.{list_of}
use Rattle.pi_effects.specs.Texts.{text_before, text_list, plain_text_list}
use Rattle.pi_effects.proofs.Worked.{a_state, n, a, b, compound, gives, does}

abbrev two : State
two = a_state (free ∷ free ∷ [])

-- a text of characters that are one byte each
abbrev text : List ℕ → Tree
text cs = list_of (map (λ c. atom (c ∷ [])) cs)

abbrev writes : List ℕ → List Tree → List ℕ → Type 0
writes name ts out = does name ts two ≡ Some (Writes out two)

abbrev is_bad : Tree → List Tree → Type 0
is_bad format ts = does (codes "printf") (format ∷ ts) two ≡ Some (Raises (compound (codes "bad_format") (format ∷ [])))

-- the plain form has texts without brackets and no quotes; variables are numbered for each term by itself
pub forms : writes (codes "println") (text (codes "ab") ∷ []) (codes "ab\n")
    × writes (codes "print") (compound (codes "f") (var 1 ∷ var 0 ∷ var 1 ∷ []) ∷ []) (codes "f(_1,_2,_1)")
    × writes (codes "print") (atom (codes "B c") ∷ []) (codes "B c")
    × writes (codes "write") (text (codes "ab") ∷ []) (codes "[a,b]")
    × writes (codes "writeln") (atom (codes "B c") ∷ []) (codes "'B c'\n")
    × writes (codes "nl") [] (codes "\n")
unfolding does
forms = (refl, refl, refl, refl, refl, refl)

pub formats : writes (codes "printf") (text (codes "%w %w%n") ∷ var 0 ∷ var 1 ∷ []) (codes "_1 _1\n")
    × writes (codes "printf") (text (codes "%d%%%s") ∷ n 12 ∷ text (codes "ab") ∷ []) (codes "12%ab")
    × writes (codes "printf") (text [] ∷ []) []
unfolding does
formats = (refl, refl, refl)

-- a format and 15 arguments, and no more
abbrev signs : ℕ → List ℕ
signs k = flat_map {X = ℕ} (λ c. codes "%w") (replicate k 0)

pub most-arguments : writes (codes "printf") (text (signs 15) ∷ replicate 15 (n 1)) (codes "111111111111111")
    × (does (codes "printf") (text (signs 16) ∷ replicate 16 (n 1)) two ≡ None)
unfolding does
most-arguments = (refl, refl)

-- a bound variable counts as what it is bound to
abbrev given : State
given = a_state (bound (text (codes "%d")) ∷ bound (n 12) ∷ [])

pub bound-arguments : (does (codes "printf") (var 0 ∷ var 1 ∷ []) given ≡ Some (Writes (codes "12") given))
    × (does (codes "println") (compound (codes "f") (var 1 ∷ []) ∷ []) given ≡ Some (Writes (codes "f(12)\n") given))
    × (does (codes "write") (var 1 ∷ []) given ≡ Some (Writes (codes "12") given))
    × (gives (codes "to_string") (var 1 ∷ []) given ≡ Some (Gives (text (codes "12")) given))
unfolding does gives
bound-arguments = (refl, refl, refl, refl)

-- a wrong sign, kind or number of arguments; what is no text is no format
pub bad-formats : is_bad (text (codes "%d")) (a ∷ []) × is_bad (text (codes "%s")) (n 1 ∷ []) × is_bad (text (codes "%x")) (a ∷ []) × is_bad (text (codes "a%")) []
    × is_bad (text (codes "%w")) [] × is_bad (text (codes "a")) (b ∷ []) × is_bad (n 1) []
unfolding does
bad-formats = (refl, refl, refl, refl, refl, refl, refl)

-- the plain text, as the list of its characters
pub strings : (gives (codes "to_string") (compound (codes "f") (n 12 ∷ []) ∷ []) two ≡ Some (Gives (text (codes "f(12)")) two))
    × (gives (codes "to_string") (atom (codes "B c") ∷ []) two ≡ Some (Gives (text (codes "B c")) two))
unfolding gives
strings = (refl, refl)

-- ---- a term past the limit has no text, and one at it has

abbrev is_past : Tree → Type 0
is_past t = nat_lt most_cells (cells (value (bindings two) t)) ≡ true

abbrev is_within : Tree → Type 0
is_within t = nat_lt most_cells (cells (value (bindings two) t)) ≡ false

pub past-the_limit : (form : Bool) (behind : List ℕ) (t : Tree) → is_past t → (text_before form behind two t ≡ Err (atom (codes "term_too_large")))
    × (plain_text_list two t ≡ Err (atom (codes "term_too_large"))) × (argument_text any_term a (value (bindings two) t) ≡ Err (atom (codes "term_too_large")))
past-the_limit form behind t past = (rw past refl, rw past refl, rw past refl)

pub within-the_limit : (form : Bool) (behind : List ℕ) (t : Tree) → is_within t → (text_before form behind two t ≡ Ok (text_of form (value (bindings two) t) ++ behind))
    × (plain_text_list two t ≡ Ok (text_list (text_of false (value (bindings two) t)))) × (argument_text any_term a (value (bindings two) t) ≡ Ok (text_of false (value (bindings two) t)))
within-the_limit form behind t within = (rw within refl, rw within refl, rw within refl)
