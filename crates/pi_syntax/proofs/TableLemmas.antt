-- Tables without a common name list no name with the same number of arguments.
use Rattle.std.proofs.Common.{◌≡◌, ℕ, ◌&&◌, ◌||◌, nat_le, Bool, true, false, List, [], ◌∷◌, refl, subst, ◌⊎◌, inl, inr}
use Rattle.std.specs.List.{list_any}
use Rattle.std.specs.Str.{bytes_eq}
use Rattle.std.proofs.lemmas.Slice.Eq.{bytes_eq-Decides}
use Rattle.pi_syntax.specs.Names.{Row, is_listed, function_rows, predicate_rows, prelude_rows}

-- a row of the table has the name
abbrev has_name : List Row → List ℕ → Bool
has_name rows name = list_any (λ (r : Row). bytes_eq r.name name) rows

-- a row of the one table has the name of a row of the other
abbrev share_a_name : List Row → List Row → Bool
share_a_name others rows = list_any (λ (r : Row). has_name others r.name) rows

none_here : (same within more listed : Bool) → (same || more) ≡ false → (more ≡ false → listed ≡ false)
    → ((same && within) || listed) ≡ false
none_here true within more listed h rest = cc
none_here false within more listed h rest = rest h

unlisted : (name : List ℕ) (arity : ℕ) (rows : List Row) → has_name rows name ≡ false → is_listed rows name arity ≡ false
unlisted name arity [] h = refl
unlisted name arity (r ∷ rows) h =
    none_here (bytes_eq r.name name) (nat_le r.least arity && nat_le arity r.most) (has_name rows name)
    (is_listed rows name arity) h (unlisted name arity rows)

here_or_behind : (same within listed : Bool) → ((same && within) || listed) ≡ true → (same ≡ true) ⊎ (listed ≡ true)
here_or_behind true within listed h = inl refl
here_or_behind false within listed h = inr h

neither : (a b : Bool) → (a || b) ≡ false → (a ≡ false) × (b ≡ false)
neither true b h = cc
neither false b h = (refl, h)

pub apart : (others rows : List Row) → share_a_name others rows ≡ false → (name : List ℕ) (arity : ℕ)
    → is_listed rows name arity ≡ true → is_listed others name arity ≡ false
apart others [] none name arity listed = cc
apart others (r ∷ rows) none name arity listed =
    let both = neither (has_name others r.name) (share_a_name others rows) none in
    elim (here_or_behind (bytes_eq r.name name) (nat_le r.least arity && nat_le arity r.most)
    (is_listed rows name arity) listed) [
      | inl same ↦ unlisted name arity others
          (subst (λ n. has_name others n ≡ false) ((bytes_eq-Decides r.name name).0 same) both.0)
      | inr behind ↦ apart others rows both.1 name arity behind
    ]

pub functions_apart_from_predicates : share_a_name predicate_rows function_rows ≡ false
unfolding function_rows predicate_rows
functions_apart_from_predicates = refl

pub functions_apart_from_prelude : share_a_name prelude_rows function_rows ≡ false
unfolding function_rows prelude_rows
functions_apart_from_prelude = refl

pub predicates_apart_from_prelude : share_a_name prelude_rows predicate_rows ≡ false
unfolding predicate_rows prelude_rows
predicates_apart_from_prelude = refl
