-- Nothing is built in with more than 16 arguments.
use Rattle.std.proofs.Common.{◌≡◌, ℕ, ◌<◌, ◌&&◌, ◌||◌, Bool, true, false, cond, List, [], ◌∷◌, Some, None, refl, arith}
use Rattle.std.specs.Prelude.{nat_le}
use Rattle.std.specs.List.{list_all}
use Rattle.std.specs.Str.{bytes_eq}
use Rattle.std.proofs.lemmas.Bool.Decides.{nat_tests}
use Rattle.pi_syntax.specs.declared.builtin.BuiltinKind.{BuiltinKind}
use Rattle.pi_syntax.specs.Names.{Row, kind_of, is_named_by, is_listed, function_rows, predicate_rows, prelude_rows}

and_first : (a b : Bool) → (a && b) ≡ true → a ≡ true
and_first true b h = refl
and_first false b h = absurd cc

and_second : (a b : Bool) → (a && b) ≡ true → b ≡ true
and_second true b h = h
and_second false b h = absurd cc

and_last : (a b c : Bool) → c ≡ false → (a && (b && c)) ≡ false
and_last true true c h = h
and_last true false c h = refl
and_last false b c h = refl

neither : (a b : Bool) → a ≡ false → b ≡ false → (a || b) ≡ false
neither a b p q = cc

not_most : (n m : ℕ) → 16 < n → nat_le m 16 ≡ true → nat_le n m ≡ false
not_most n m more most = grind (arith, nat_tests)

no_row : (name : List ℕ) (n : ℕ) (r : Row) → 16 < n → nat_le r.most 16 ≡ true → is_named_by name n r ≡ false
no_row name n r more most = and_last (bytes_eq r.name name) (nat_le r.least n) (nat_le n r.most) (not_most n r.most more most)

abbrev few : Row → Bool
few r = nat_le r.most 16

no_rows : (name : List ℕ) (n : ℕ) (rows : List Row) → 16 < n → list_all few rows ≡ true → is_listed rows name n ≡ false
no_rows name n [] more most = refl
no_rows name n (r ∷ rows) more most = neither (is_named_by name n r) (is_listed rows name n)
    (no_row name n r more (and_first (few r) (list_all few rows) most)) (no_rows name n rows more (and_second (few r) (list_all few rows) most))

few_functions : list_all few function_rows ≡ true
unfolding function_rows
few_functions = refl

few_predicates : list_all few predicate_rows ≡ true
unfolding predicate_rows
few_predicates = refl

few_preludes : list_all few prelude_rows ≡ true
unfolding prelude_rows
few_preludes = refl

third : {X : Type 0} (a b c : Bool) (x y z w : X) → a ≡ false → b ≡ false → c ≡ false → cond a x (cond b y (cond c z w)) ≡ w
third a b c x y z w p q r = cc

pub none_built_in : (name : List ℕ) (n : ℕ) → 16 < n → kind_of name n ≡ None
unfolding kind_of
none_built_in name n more = third (is_listed function_rows name n) (is_listed predicate_rows name n) (is_listed prelude_rows name n)
    (Some BuiltinKind.Function) (Some BuiltinKind.Predicate) (Some BuiltinKind.Prelude) None
    (no_rows name n function_rows more few_functions) (no_rows name n predicate_rows more few_predicates) (no_rows name n prelude_rows more few_preludes)
