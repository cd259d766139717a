-- What calls that have a form are called.
use Rattle.std.specs.Prelude.{◌≡◌, ◌==◌, ◌&&◌, ℕ, Bool, true, false, cond, List, Some, None, codes, refl}
use Rattle.std.specs.Str.{bytes_eq}
use Rattle.pi_meaning.specs.Shared.Names.{is_catch, is_call}
use Rattle.pi_meaning.specs.OverNames.Forms.{negation, once, assignment, catch, by_term, membership, form_of}

by-test : (n o s c t i : Bool) → cond n (Some negation) (cond o (Some once) (cond s (Some assignment) (cond c (Some catch) (cond t (Some by_term) (cond i (Some membership) None))))) ≡ Some by_term → t ≡ true
by-test true o s c t i h = absurd cc
by-test false true s c t i h = absurd cc
by-test false false true c t i h = absurd cc
by-test false false false true t i h = absurd cc
by-test false false false false true i h = refl
by-test false false false false false true h = absurd cc
by-test false false false false false false h = absurd cc

-- one that calls a term is named `call`
pub by_term-named : (name : List ℕ) (k : ℕ) → form_of name k ≡ Some by_term → is_call name k ≡ true
unfolding form_of
by_term-named name k h =
    by-test (k == 1 && bytes_eq name (codes "not")) (k == 1 && bytes_eq name (codes "once")) (k == 2 && bytes_eq name (codes ":=")) (is_catch name k) (is_call name k) (k == 2 && bytes_eq name (codes "in")) h
