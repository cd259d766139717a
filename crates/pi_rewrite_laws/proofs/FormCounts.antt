-- How many arguments a call of a form has.
use Rattle.std.proofs.Common.{◌≡◌, ℕ, Bool, true, false, cond, List, refl}
use Rattle.std.specs.Prelude.{◌==◌, ◌&&◌, Option, Some, None, codes}
use Rattle.std.specs.Str.{bytes_eq}
use Rattle.std.proofs.lemmas.Bool.{and_parts}
use Rattle.pi_meaning.specs.Shared.Names.{is_catch, is_call}
use Rattle.pi_meaning.specs.OverNames.Forms.{Form, negation, once, assignment, catch, by_term, membership, form_of}

abbrev first_form : Bool → Bool → Bool → Bool → Bool → Bool → Option Form
first_form a b c d e f = cond a (Some negation) (cond b (Some once) (cond c (Some assignment) (cond d (Some catch) (cond e (Some by_term) (cond f (Some membership) None)))))

is-negation : (a b c d e f : Bool) → first_form a b c d e f ≡ Some negation → a ≡ true
is-negation true b c d e f is = refl
is-negation false true c d e f is = absurd cc
is-negation false false true d e f is = absurd cc
is-negation false false false true e f is = absurd cc
is-negation false false false false true f is = absurd cc
is-negation false false false false false true is = absurd cc
is-negation false false false false false false is = absurd cc

is-once : (a b c d e f : Bool) → first_form a b c d e f ≡ Some once → b ≡ true
is-once true b c d e f is = absurd cc
is-once false true c d e f is = refl
is-once false false true d e f is = absurd cc
is-once false false false true e f is = absurd cc
is-once false false false false true f is = absurd cc
is-once false false false false false true is = absurd cc
is-once false false false false false false is = absurd cc

is-catching : (a b c d e f : Bool) → first_form a b c d e f ≡ Some catch → d ≡ true
is-catching true b c d e f is = absurd cc
is-catching false true c d e f is = absurd cc
is-catching false false true d e f is = absurd cc
is-catching false false false true e f is = refl
is-catching false false false false true f is = absurd cc
is-catching false false false false false true is = absurd cc
is-catching false false false false false false is = absurd cc

pub negates-one : (name : List ℕ) (k : ℕ) → form_of name k ≡ Some negation → (k == 1) ≡ true
unfolding form_of
negates-one name k is = (and_parts (k == 1) (bytes_eq name (codes "not")) (is-negation (k == 1 && bytes_eq name (codes "not")) (k == 1 && bytes_eq name (codes "once")) (k == 2 && bytes_eq name (codes ":=")) (is_catch name k) (is_call name k) (k == 2 && bytes_eq name (codes "in")) is)).0

pub takes-one : (name : List ℕ) (k : ℕ) → form_of name k ≡ Some once → (k == 1) ≡ true
unfolding form_of
takes-one name k is = (and_parts (k == 1) (bytes_eq name (codes "once")) (is-once (k == 1 && bytes_eq name (codes "not")) (k == 1 && bytes_eq name (codes "once")) (k == 2 && bytes_eq name (codes ":=")) (is_catch name k) (is_call name k) (k == 2 && bytes_eq name (codes "in")) is)).0

pub catches-three : (name : List ℕ) (k : ℕ) → form_of name k ≡ Some catch → is_catch name k ≡ true
unfolding form_of
catches-three name k is = is-catching (k == 1 && bytes_eq name (codes "not")) (k == 1 && bytes_eq name (codes "once")) (k == 2 && bytes_eq name (codes ":=")) (is_catch name k) (is_call name k) (k == 2 && bytes_eq name (codes "in")) is
