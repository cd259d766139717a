-- Tables of names: what is found in one, and that the tables of built-ins have no other names.
use Rattle.std.proofs.Common.{◌≡◌, ℕ, Bool, true, false, cond, ◌&&◌, List, [], ◌∷◌, refl, ap, sym, subst, ◌∙◌}
use Rattle.std.specs.Prelude.{Option, Some, None, is_some, not, ◌||◌, ⊤}
use Rattle.std.specs.Str.{bytes_eq}
use Rattle.std.specs.List.{list_all}
use Rattle.std.proofs.lemmas.Slice.Eq.{bytes_eq-Decides}
use Rattle.pi_effects.specs.Rows.{Row, fits, has_line}
use Rattle.pi_lib_builtin.specs.Resolved.{Named, first_named}

same-some : {F : Type 0} {x y : F} → Some x ≡ Some y → x ≡ y
same-some h = cc

pub bytes-same : (a b : List ℕ) → bytes_eq a b ≡ true → a ≡ b
bytes-same a b e = (bytes_eq-Decides a b).0 e

-- another name, told the other way round
pub other-name : (a b : List ℕ) → (b ≡ a → ⊥) → bytes_eq a b ≡ false
other-name a b not = tested (bytes_eq a b) refl
  where
    tested : (q : Bool) → bytes_eq a b ≡ q → q ≡ false
    tested true e = absurd (not (sym (bytes-same a b e)))
    tested false e = refl

both : (a b : Bool) → (a && b) ≡ true → (a ≡ true) × (b ≡ true)
both true b h = (refl, h)
both false b h = absurd cc

-- ---- what is found

-- each row says the truth of its name
abbrev pub Each : {F : Type 0} → (List ℕ → F → Type 0) → List (Named F) → Type 0
Each Same [] = ⊤
Each Same (r ∷ rows) = Same r.0 r.1 × Each Same rows

found-here : {F : Type 0} (Same : List ℕ → F → Type 0) (name : List ℕ) (r : Named F) (rest : Option F) (f : F) (here : Bool) → bytes_eq r.0 name ≡ here → Same r.0 r.1 → (rest ≡ Some f → Same name f) → cond here (Some r.1) rest ≡ Some f → Same name f
found-here Same name r rest f true e one other is = subst (Same name) (same-some is) (subst (λ n. Same n r.1) (bytes-same r.0 name e) one)
found-here Same name r rest f false e one other is = other is

pub found-same : {F : Type 0} (Same : List ℕ → F → Type 0) (name : List ℕ) (rows : List (Named F)) (f : F) → Each Same rows → first_named name rows ≡ Some f → Same name f
unfolding first_named
found-same Same name [] f each is = absurd cc
found-same Same name (r ∷ rows) f each is = found-here Same name r (first_named name rows) f (bytes_eq r.0 name) refl each.0 (found-same Same name rows f each.1) is

-- each row has a name that is known
known-here : {F : Type 0} (known : List ℕ → Bool) (name : List ℕ) (r : Named F) (rest : Option F) (f : F) (here : Bool) → bytes_eq r.0 name ≡ here → known r.0 ≡ true → (rest ≡ Some f → known name ≡ true) → cond here (Some r.1) rest ≡ Some f → known name ≡ true
known-here known name r rest f true e one other is = ap known (sym (bytes-same r.0 name e)) ∙ one
known-here known name r rest f false e one other is = other is

pub found-known : {F : Type 0} (known : List ℕ → Bool) (name : List ℕ) (rows : List (Named F)) (f : F) → list_all (λ r. known r.0) rows ≡ true → first_named name rows ≡ Some f → known name ≡ true
unfolding first_named
found-known known name [] f all is = absurd cc
found-known known name (r ∷ rows) f all is =
    let parts = both (known r.0) (list_all (λ q. known q.0) rows) all in
    known-here known name r (first_named name rows) f (bytes_eq r.0 name) refl parts.0 (found-known known name rows f parts.1) is

-- ---- names that aren't there

-- a name is among these rows
abbrev pub is_there : {F : Type 0} → List (Named F) → List ℕ → Bool
is_there rows name = is_some (first_named name rows)

-- lines that take so many arguments have names that are known
abbrev pub knows : {R : Type 0} → (List ℕ → Bool) → ℕ → Row R → Bool
knows known k l = known l.name || not (fits l.body k)

or-false : (a : Bool) → (a || false) ≡ a
or-false true = refl
or-false false = refl

no-line : {R : Type 0} (known : List ℕ → Bool) (k : ℕ) (l : Row R) (name : List ℕ) (here fit : Bool) → bytes_eq l.name name ≡ here → fits l.body k ≡ fit → (known l.name || not fit) ≡ true → known name ≡ false → (here && fit) ≡ false
no-line known k l name true true e g is none = sym is ∙ or-false (known l.name) ∙ ap known (bytes-same l.name name e) ∙ none
no-line known k l name true false e g is none = refl
no-line known k l name false fit e g is none = refl

pub neither : (a b : Bool) → a ≡ false → b ≡ false → (a || b) ≡ false
neither a b h g = ap (λ q. q || b) h ∙ g

pub no-lines : {R : Type 0} (known : List ℕ → Bool) (k : ℕ) (lines : List (Row R)) (name : List ℕ) → list_all (knows known k) lines ≡ true → known name ≡ false → has_line lines name k ≡ false
unfolding has_line
no-lines known k [] name all none = refl
no-lines known k (l ∷ lines) name all none =
    let parts = both (knows known k l) (list_all (knows known k) lines) all in
    neither (bytes_eq l.name name && fits l.body k) (has_line lines name k)
    (no-line known k l name (bytes_eq l.name name) (fits l.body k) refl refl parts.0 none) (no-lines known k lines name parts.1 none)
