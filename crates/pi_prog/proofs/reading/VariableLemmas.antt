-- Different names, counted from the last to the first.
use Rattle.std.proofs.Common.{◌≡◌, ℕ, ◌+◌, ◌<◌, ◌≤◌, suc, Bool, true, false, ◌||◌, not, inl, inr, List, [], ◌∷◌, ◌++◌, length, slice_get, Some, refl, ap, sym, subst, ◌∙◌, arith}
use Rattle.std.specs.Prelude.{nat_lt, if◌then◌else◌}
use Rattle.std.specs.Borrow.{Bor}
use Rattle.std.specs.List.{list_any}
use Rattle.std.specs.Str.{bytes_eq}
use Rattle.std.specs.Ordering.{is_eq, match_ordering, nat_cmp}
use Rattle.std.specs.Cmp.Lexicographic.{slice_cmp}
use Rattle.std.specs.BTreeMap.{is_at}
use Rattle.std.specs.BTreeSet.{insert_key}
use Rattle.std.specs.declared.cmp.Ordering.{Ordering}
use Rattle.std.specs.declared.cmp.Ordering.TheVariants.{Less, Equal, Greater}
use Rattle.std.proofs.lemmas.Bool.{cases_Bool}
use Rattle.std.proofs.lemmas.Bool.Decides.{nat_tests}
use Rattle.std.proofs.lemmas.Map.Text.{is_eq-slice_cmp}
use Rattle.std.proofs.lemmas.Slice.Eq.{bytes_eq-Decides}
use Rattle.pi_syntax.specs.Tokens.{Token, Var, Atom, Word, Int, Str, Sign, End}
use Rattle.pi_expr.specs.Faults.{stretch}
use Rattle.pi_expr.proofs.CrowdLemmas.{stretch_step, stretch_none}
use Rattle.pi_prog.specs.Pieces.{HoldsNames, named_before}
use Rattle.pi_prog_clauses.specs.Reading.{variable_names}
use Rattle.pi_prog_clauses.specs.Verdict.{different, most_names, has_too_many_names}
use Rattle.pi_prog.proofs.reading.PlaceLemmas.{stretch_split}

abbrev Key : Type 0
Key = Bor (List ℕ)

abbrev text_order : Key → Key → Ordering
text_order x y = slice_cmp nat_cmp x.now y.now

abbrev has : List Key → List ℕ → Bool
has keys q = list_any (λ (k : Key). bytes_eq q k.now) keys

contains_same : (key : Key) (keys : List Key) → list_any (is_at (text_order key)) keys ≡ has keys key.now
contains_same key [] = refl
contains_same key (k ∷ ks) = ap (λ b. b || list_any (is_at (text_order key)) ks) (is_eq-slice_cmp key.now k.now) ∙ ap (λ b. bytes_eq key.now k.now || b) (contains_same key ks)

or_swap : (a b c : Bool) → (a || (b || c)) ≡ (b || (a || c))
or_swap true true c = refl
or_swap true false c = refl
or_swap false true c = refl
or_swap false false c = refl

or_twice : (a c : Bool) → (a || c) ≡ (a || (a || c))
or_twice true c = refl
or_twice false c = refl

same_key : (key k : Key) → text_order key k ≡ Equal → key.now ≡ k.now
same_key key k h = (bytes_eq-Decides key.now k.now).0 (sym (is_eq-slice_cmp key.now k.now) ∙ ap is_eq h)

has_inserted : (q : List ℕ) (key k : Key) (ks : List Key) (rest : Bool) (o : Ordering) (later : List Key) → text_order key k ≡ o → has later q ≡ (bytes_eq q key.now || has ks q)
    → has (match_ordering o (key ∷ k ∷ ks) (k ∷ ks) (k ∷ later)) q ≡ (bytes_eq q key.now || (bytes_eq q k.now || has ks q))
has_inserted q key k ks rest Less later h ih = refl
has_inserted q key k ks rest Equal later h ih = or_twice (bytes_eq q k.now) (has ks q) ∙ ap (λ x. bytes_eq q x || (bytes_eq q k.now || has ks q)) (sym (same_key key k h))
has_inserted q key k ks rest Greater later h ih = ap (λ b. bytes_eq q k.now || b) ih ∙ or_swap (bytes_eq q k.now) (bytes_eq q key.now) (has ks q)

has-insert : (q : List ℕ) (key : Key) (keys : List Key) → has (insert_key text_order keys key) q ≡ (bytes_eq q key.now || has keys q)
has-insert q key [] = refl
has-insert q key (k ∷ ks) = has_inserted q key k ks true (text_order key k) (insert_key text_order ks key) refl (has-insert q key ks)

different_more : (name : List ℕ) (names : List (List ℕ)) (there added : Bool) (n old : ℕ) → list_any (bytes_eq name) names ≡ there → added ≡ not there → old ≡ different names → n ≡ old + (if added then 1 else 0) → n ≡ different (name ∷ names)
different_more name names true added n old is a o h = let same : n ≡ old = h ∙ ap (λ b. old + (if b then 1 else 0)) a ∙ omega arith in same ∙ o ∙ sym (rw is refl)
different_more name names false added n old is a o h =
    let more : n ≡ suc old = h ∙ ap (λ b. old + (if b then 1 else 0)) a ∙ omega arith in
    let counted : different (name ∷ names) ≡ suc (different names) = rw is refl in
    more ∙ ap suc o ∙ sym counted

pub holds_none : HoldsNames [] []
holds_none = record { same = λ q. refl; count = refl }

pub holds_more : (old new : List Key) (key : Key) (added : Bool) (names : List (List ℕ)) → added ≡ not (list_any (is_at (text_order key)) old) → new ≡ insert_key text_order old key → length new ≡ length old + (if added then 1 else 0)
    → HoldsNames old names → HoldsNames new (key.now ∷ names)
holds_more old new key added names a made counts held = record {
  same = λ q. ap (λ ks. has ks q) made ∙ has-insert q key old ∙ ap (λ b. bytes_eq q key.now || b) (held.same q);
  count = different_more key.now names (list_any (bytes_eq key.now) names) added (length new) (length old) refl (a ∙ ap not (contains_same key old ∙ held.same key.now)) held.count counts;
}

-- ---- the names of tokens

names_step : (t : Token) (ts : List Token) → variable_names (t ∷ ts) ≡ named_before t (variable_names ts)
names_step (Var n) ts = refl
names_step (Atom n) ts = refl
names_step (Word n) ts = refl
names_step (Int n) ts = refl
names_step (Str n) ts = refl
names_step (Sign n) ts = refl
names_step End ts = refl

pub holds_end : (ts : List Token) (to : ℕ) (keys : List Key) → keys ≡ [] → HoldsNames keys (variable_names (stretch ts to to))
holds_end ts to keys is = subst (λ ks. HoldsNames ks (variable_names (stretch ts to to))) (sym is) (subst (λ xs. HoldsNames [] (variable_names xs)) (sym (stretch_none ts to to (omega arith))) holds_none)

pub holds_before : (ts : List Token) (at next to : ℕ) (t : Token) (keys : List Key) → next ≡ at + 1 → at < to → slice_get ts at ≡ Some t → HoldsNames keys (named_before t (variable_names (stretch ts next to))) → HoldsNames keys (variable_names (stretch ts at to))
holds_before ts at next to t keys n h is held =
    subst (λ xs. HoldsNames keys (variable_names xs)) (sym (stretch_step ts at next to t n is h)) (subst (HoldsNames keys) (sym (names_step t (stretch ts next to))) held)

different_front : (t : Token) (names : List (List ℕ)) → different names ≤ different (named_before t names)
different_front (Var n) names = elim (cases_Bool (list_any (bytes_eq n) names)) [
  | inl there ↦ let e : different (n ∷ names) ≡ different names = rw there refl in omega (arith, e)
  | inr not_there ↦ let e : different (n ∷ names) ≡ suc (different names) = rw not_there refl in omega (arith, e)
]
different_front (Atom n) names = omega arith
different_front (Word n) names = omega arith
different_front (Int n) names = omega arith
different_front (Str n) names = omega arith
different_front (Sign n) names = omega arith
different_front End names = omega arith

different_behind : (xs ys : List Token) → different (variable_names ys) ≤ different (variable_names (xs ++ ys))
different_behind [] ys = omega arith
different_behind (x ∷ xs) ys = omega (arith, different_behind xs ys, different_front x (variable_names (xs ++ ys)), ap different (names_step x (xs ++ ys)))

over : (n m : ℕ) → n < m → nat_lt n m ≡ true
over n m h = grind (arith, nat_tests)

under : (n m : ℕ) → m ≤ n → nat_lt n m ≡ false
under n m h = grind (arith, nat_tests)

pub too_many : (ts : List Token) (from at to : ℕ) (keys : List Key) (n : ℕ) → from ≤ at → at ≤ to → n ≡ length keys → most_names < n → HoldsNames keys (variable_names (stretch ts at to)) → true ≡ has_too_many_names (variable_names (stretch ts from to))
too_many ts from at to keys n a b is many held =
    let more : different (variable_names (stretch ts at to)) ≤ different (variable_names (stretch ts from to)) =
    subst (λ xs. different (variable_names (stretch ts at to)) ≤ different (variable_names xs)) (sym (stretch_split ts from at to a b)) (different_behind (stretch ts from at) (stretch ts at to)) in
    sym (over most_names (different (variable_names (stretch ts from to))) (omega (arith, more, many, is, held.count)))

pub few_names : (ts : List Token) (from at to : ℕ) (keys : List Key) → at ≡ from → length keys ≤ most_names → HoldsNames keys (variable_names (stretch ts at to)) → false ≡ has_too_many_names (variable_names (stretch ts from to))
few_names ts from at to keys is few held =
    sym (ap (λ k. has_too_many_names (variable_names (stretch ts k to))) (sym is) ∙ under most_names (different (variable_names (stretch ts at to))) (omega (arith, few, held.count)))
