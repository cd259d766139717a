-- Parts that are rules, computed from their tokens.
use Rattle.std.proofs.Common.{◌≡◌, ◌<◌, ◌≤◌, Bool, true, false, ◌&&◌, nat_le, List, [], ◌∷◌, length, take, count_by, Option, Some, None, is_none, inl, inr, refl, subst, arith, leb-true, le_trans}
use Rattle.std.proofs.lemmas.List.Sums.{count_by-le-length}
use Rattle.std.proofs.lemmas.List.{length-take}
use Rattle.pi_syntax.specs.Crowding.{IsCrowded, most_open, most_levels, is_opening, is_block_word}
use Rattle.pi_prog_clauses.specs.Declaration.{declared, undeclared, Opens, clause_alone}
use Rattle.pi_syntax.specs.ExpTree.{ExpTree, levels}
use Rattle.pi_prog_clauses.specs.Reading.{Reading, written, variable_names, IsDeepShape, whole, Reads, a_clause, ReadAll, none, next}
use Rattle.pi_prog_clauses.specs.Shape.{Shape, bare, ruled, Sides, sides, HasShape, with_arrow}
use Rattle.pi_prog_clauses.specs.Stretch.{Stretch}
use Rattle.pi_syntax.specs.Tokens.{Token}
use Rattle.pi_prog.proofs.ExpressionLemmas.{exp_in, exp-has}
use Rattle.pi_prog.proofs.TokenLemmas.{some_is}

-- ---- what is computed

abbrev pub ruled_by : Bool → Option ExpTree → Option ExpTree → Option Shape
ruled_by back None r = None
ruled_by back (Some l) None = None
ruled_by back (Some l) (Some r) = Some (ruled l back r)

-- of tokens with an arrow
abbrev pub shape_by : Option Sides → Option Shape
shape_by None = None
shape_by (Some s) = ruled_by s.back (exp_in s.left) (exp_in s.right)

abbrev pub is_shallow : Shape → Bool
is_shallow (bare e) = nat_le (levels e) most_levels
is_shallow (ruled l back r) = nat_le (levels l) most_levels && nat_le (levels r) most_levels

abbrev pub reading_if : Bool → Shape → List Token → Option Reading
reading_if false shape ts = None
reading_if true shape ts = Some (written (record { modes = None; shape = shape; names = variable_names ts }))

abbrev pub reading_by : Option Shape → List Token → Option Reading
reading_by None ts = None
reading_by (Some shape) ts = reading_if (is_shallow shape) shape ts

-- ended, without a declaration, and with no more tokens than brackets may be open
abbrev pub is_plain : Stretch → Bool
is_plain s = s.ended && (is_none (declared s.tokens) && nat_le (length s.tokens) most_open)

abbrev pub rule_if : Bool → Stretch → Option Reading
rule_if false s = None
rule_if true s = reading_by (shape_by (sides s.tokens)) s.tokens

-- the rule that a part is
unfoldable pub rule_in : Stretch → Option Reading
rule_in s = rule_if (is_plain s) s

abbrev pub with_reading : Option Reading → Option (List Reading) → Option (List Reading)
with_reading None rs = None
with_reading (Some r) None = None
with_reading (Some r) (Some rs) = Some (r ∷ rs)

-- the rules that parts are
unfoldable pub rules_in : List Stretch → Option (List Reading)
rules_in [] = Some []
rules_in (s ∷ ss) = with_reading (rule_in s) (rules_in ss)

-- ---- it is what the parts are

few : (ts : List Token) → nat_le (length ts) most_open ≡ true → ¬ IsCrowded ts
few ts short (inl opens) =
    let most : length ts ≤ most_open = leb-true _ _ short in
    let opening : count_by is_opening (take opens.0 ts) ≤ length ts = le_trans (count_by-le-length is_opening (take opens.0 ts)) (omega (arith, length-take opens.0 ts)) in
    omega (arith, opens.1, most, opening)
few ts short (inr words) =
    let most : length ts ≤ most_open = leb-true _ _ short in
    omega (arith, words, most, count_by-le-length is_block_word ts)

pub both : (a b : Bool) → (a && b) ≡ true → (a ≡ true) × (b ≡ true)
both true true h = (refl, refl)
both true false h = absurd cc
both false b h = absurd cc

too_deep : (e : ExpTree) → nat_le (levels e) most_levels ≡ true → ¬ (most_levels < levels e)
too_deep e h deep = let most : levels e ≤ most_levels = leb-true _ _ h in omega (arith, deep, most)

shallow : (s : Shape) → is_shallow s ≡ true → ¬ IsDeepShape s
shallow (bare e) h deep = too_deep e h deep
shallow (ruled l back r) h (inl deep) = too_deep l (both _ _ h).0 deep
shallow (ruled l back r) h (inr deep) = too_deep r (both _ _ h).1 deep

ruled-has : (ts : List Token) (s : Sides) (l r : Option ExpTree) (shape : Shape) → sides ts ≡ Some s → exp_in s.left ≡ l → exp_in s.right ≡ r
    → ruled_by s.back l r ≡ Some shape → HasShape ts shape
ruled-has ts s None r shape is left right e = absurd cc
ruled-has ts s (Some l) None shape is left right e = absurd cc
ruled-has ts s (Some l) (Some r) shape is left right e =
    subst (HasShape ts) (some_is (ruled l s.back r) shape e) (with_arrow is (exp-has s.left l left) (exp-has s.right r right))

shape-has : (ts : List Token) (o : Option Sides) (shape : Shape) → sides ts ≡ o → shape_by o ≡ Some shape → HasShape ts shape
shape-has ts None shape is e = absurd cc
shape-has ts (Some s) shape is e = ruled-has ts s (exp_in s.left) (exp_in s.right) shape is refl refl e

reading-reads : (s : Stretch) (shape : Shape) (ok : Bool) (r : Reading) → ¬ IsCrowded s.tokens → Opens s.tokens undeclared → s.ended ≡ true → HasShape s.tokens shape
    → is_shallow shape ≡ ok → reading_if ok shape s.tokens ≡ Some r → Reads s r
reading-reads s shape false r few opens end has is e = absurd cc
reading-reads s shape true r few opens end has is e =
    subst (Reads s) (some_is (written (record { modes = None; shape = shape; names = variable_names s.tokens })) r e) (a_clause few opens whole end has (shallow shape is))

shaped-reads : (s : Stretch) (o : Option Shape) (r : Reading) → ¬ IsCrowded s.tokens → Opens s.tokens undeclared → s.ended ≡ true → shape_by (sides s.tokens) ≡ o
    → reading_by o s.tokens ≡ Some r → Reads s r
shaped-reads s None r few opens end is e = absurd cc
shaped-reads s (Some shape) r few opens end is e = reading-reads s shape (is_shallow shape) r few opens end (shape-has s.tokens (sides s.tokens) shape refl is) refl e

is_none-None : {X : Type 0} (o : Option X) → is_none o ≡ true → o ≡ None
is_none-None None h = refl
is_none-None (Some x) h = absurd cc

none-declared : (ts : List Token) → is_none (declared ts) ≡ true → Opens ts undeclared
none-declared ts h = clause_alone (is_none-None (declared ts) h)

plain-reads : (s : Stretch) (ok : Bool) (r : Reading) → is_plain s ≡ ok → rule_if ok s ≡ Some r → Reads s r
plain-reads s false r is e = absurd cc
plain-reads s true r is e =
    let ended = both s.ended _ is in
    let rest = both (is_none (declared s.tokens)) (nat_le (length s.tokens) most_open) ended.1 in
    shaped-reads s (shape_by (sides s.tokens)) r (few s.tokens rest.1) (none-declared s.tokens rest.0) ended.0 refl e

rule-reads : (s : Stretch) (r : Reading) → rule_in s ≡ Some r → Reads s r
unfolding rule_in
rule-reads s r e = plain-reads s (is_plain s) r refl e

all-read : (s : Stretch) (ss : List Stretch) (o : Option Reading) (os : Option (List Reading)) (rs : List Reading) → rule_in s ≡ o → ((us : List Reading) → os ≡ Some us → ReadAll ss us)
    → with_reading o os ≡ Some rs → ReadAll (s ∷ ss) rs
all-read s ss None os rs is rest e = absurd cc
all-read s ss (Some r) None rs is rest e = absurd cc
all-read s ss (Some r) (Some us) rs is rest e = subst (ReadAll (s ∷ ss)) (some_is (r ∷ us) rs e) (next (rule-reads s r is) (rest us refl))

pub rules-read : (ss : List Stretch) (rs : List Reading) → rules_in ss ≡ Some rs → ReadAll ss rs
unfolding rules_in
rules-read [] rs e = subst (ReadAll []) (some_is [] rs e) none
rules-read (s ∷ ss) rs e = all-read s ss (rule_in s) (rules_in ss) rs refl (rules-read ss) e
