-- The spans of ascending integers, one integer more at a time.
use Rattle.std.specs.Prelude.{◌≡◌, ℕ, ◌<◌, ◌+◌, Bool, true, false, ◌||◌, List, [], ◌∷◌, ◌++◌, ℤ, pos, ◌+ℤ◌, neg_ℤ, ◌≤ℤ◌, ◌<ℤ◌, int_le, refl, ◌⊎◌, take, All, Contains, zero, suc}
use Rattle.std.specs.Ordering.{int_eq, int_cmp, is_lt}
use Rattle.std.specs.List.Sorted.{IsSorted}
use Rattle.std.specs.List.{list_any}
use Rattle.std.proofs.Common.{◌-◌, length, get_or, arith, sym, ◌∙◌, ap, subst, inl, inr}
use Rattle.std.proofs.lemmas.Int.{ints}
use Rattle.std.proofs.lemmas.List.{take_more}
use Rattle.std.proofs.lemmas.List.Elements.{All-get_or}
use Rattle.std.proofs.lemmas.Bool.Decides.{Decides-int_eq}
use Rattle.std.proofs.lemmas.List.Folds.{list_any-append}
use Rattle.pi_constraints.specs.declared.domain.TheConstants.{MAX_VALUE}
use Rattle.pi_constraints.specs.declared.domain.Span.{Span}
use Rattle.pi_constraints.specs.Domain.{AscendFrom, IsDomain, IsWithinBounds, span_has, has_value}
use Rattle.pi_constraints.proofs.ClipLemmas.{int_eq_is}
use Rattle.pi_constraints.proofs.SpanLemmas.{AscendFrom-append, AscendFrom-first, AscendFrom-last, has_value-append, next_start-push}

-- the spans of some integers, of which the last is the end of the last span
pub record Joins (numbers : List ℤ) (done : List Span) (last : Span) : Type 0 where
  pub domain : IsDomain (done ++ last ∷ [])
  pub values : (n : ℤ) → has_value (done ++ last ∷ []) n ≡ list_any (λ m. int_eq n m) numbers

has_value-one : (s : Span) (n : ℤ) → has_value (s ∷ []) n ≡ span_has s n
unfolding has_value
has_value-one s n = grind arith

equal_cases : (v n : ℤ) (b : Bool) → ((b ≡ true) × (n ≡ v)) ⊎ ((b ≡ false) × ((n <ℤ v) ⊎ (v <ℤ n))) → span_has (record { lo = v; hi = v }) n ≡ b
equal_cases v n b (inl e) = let p : int_le v n ≡ true = grind (arith, ints) in let q : int_le n v ≡ true = grind (arith, ints) in grind (arith, p, q, e.0)
equal_cases v n b (inr (f, inl l)) = let p : int_le v n ≡ false = grind (arith, ints) in grind (arith, p, f)
equal_cases v n b (inr (f, inr g)) = let q : int_le n v ≡ false = grind (arith, ints) in grind (arith, q, f)

is_one : (v n : ℤ) → span_has (record { lo = v; hi = v }) n ≡ int_eq n v
is_one v n = equal_cases v n (int_eq n v) (int_eq_is n v)

or_false : (b : Bool) → b ≡ (b || false)
or_false true = refl
or_false false = refl

pub Joins-first : (v : ℤ) → IsWithinBounds v → Joins (v ∷ []) [] (record { lo = v; hi = v })
unfolding AscendFrom
Joins-first v h = record {
  domain = (h.0, omega (arith, ints), h.1, tt);
  values = λ n. has_value-one (record { lo = v; hi = v }) n ∙ (is_one v n ∙ or_false (int_eq n v));
}

longer_cases : (s : Span) (v n : ℤ) (b : Bool) → s.lo ≤ℤ s.hi → s.hi ≤ℤ v → v ≤ℤ (s.hi +ℤ pos 1) → ((b ≡ true) × (n ≡ v)) ⊎ ((b ≡ false) × ((n <ℤ v) ⊎ (v <ℤ n)))
    → span_has (record { lo = s.lo; hi = v }) n ≡ (span_has s n || b)
longer_cases s v n b o l h (inl e) =
    let p : int_le s.lo n ≡ true = grind (arith, ints) in let q : int_le n v ≡ true = grind (arith, ints) in grind (arith, p, q, e.0)
longer_cases s v n b o l h (inr (f, inl g)) =
    let p : int_le n v ≡ true = grind (arith, ints) in let q : int_le n s.hi ≡ true = grind (arith, ints) in grind (arith, p, q, f)
longer_cases s v n b o l h (inr (f, inr g)) =
    let p : int_le n v ≡ false = grind (arith, ints) in let q : int_le n s.hi ≡ false = grind (arith, ints) in grind (arith, p, q, f)

one_more : (o s s' e : Bool) → s' ≡ (s || e) → (o || s') ≡ ((o || s) || (e || false))
one_more true s s' e h = refl
one_more false true s' e h = h
one_more false false s' true h = h
one_more false false s' false h = h

at_end : (numbers : List ℤ) (v n : ℤ) → list_any (λ m. int_eq n m) (numbers ++ v ∷ []) ≡ (list_any (λ m. int_eq n m) numbers || (int_eq n v || false))
at_end numbers v n = list_any-append (λ m. int_eq n m) numbers (v ∷ [])

whole_values : (done : List Span) (last : Span) (n : ℤ) → has_value (done ++ last ∷ []) n ≡ (has_value done n || span_has last n)
whole_values done last n = has_value-append done (last ∷ []) n ∙ ap (λ (x : Bool). has_value done n || x) (has_value-one last n)

-- a number that is the last one or touches it
pub Joins-longer : (numbers : List ℤ) (done : List Span) (last : Span) (v : ℤ) → Joins numbers done last → last.hi ≤ℤ v → v ≤ℤ (last.hi +ℤ pos 1) → v ≤ℤ MAX_VALUE
    → Joins (numbers ++ v ∷ []) done (record { lo = last.lo; hi = v })
unfolding AscendFrom
Joins-longer numbers done last v h l t top =
    let tail = AscendFrom-last (neg_ℤ MAX_VALUE) done (last ∷ []) h.domain in
    record {
      domain = AscendFrom-append (neg_ℤ MAX_VALUE) done ((record { lo = last.lo; hi = v }) ∷ []) (AscendFrom-first (neg_ℤ MAX_VALUE) done (last ∷ []) h.domain) (tail.0, omega (arith, ints, tail.1), top, tt);
      values = λ n.
          has_value-append done ((record { lo = last.lo; hi = v }) ∷ []) n
          ∙ (ap (λ (x : Bool). has_value done n || x) (has_value-one (record { lo = last.lo; hi = v }) n)
          ∙ (one_more (has_value done n) (span_has last n) (span_has (record { lo = last.lo; hi = v }) n) (int_eq n v) (longer_cases last v n (int_eq n v) tail.1 l t (int_eq_is n v))
          ∙ (ap (λ (x : Bool). x || (int_eq n v || false)) (sym (whole_values done last n) ∙ h.values n)
          ∙ sym (at_end numbers v n))));
    }

-- a number that leaves out another behind the last one
pub Joins-further : (numbers : List ℤ) (done : List Span) (last : Span) (v : ℤ) → Joins numbers done last → (last.hi +ℤ pos 1) <ℤ v → v ≤ℤ MAX_VALUE
    → Joins (numbers ++ v ∷ []) (done ++ last ∷ []) (record { lo = v; hi = v })
unfolding AscendFrom
Joins-further numbers done last v h l top = record {
  domain = AscendFrom-append (neg_ℤ MAX_VALUE) (done ++ last ∷ []) ((record { lo = v; hi = v }) ∷ []) h.domain
      (subst (λ (x : ℤ). AscendFrom x ((record { lo = v; hi = v }) ∷ [])) (sym (next_start-push (neg_ℤ MAX_VALUE) done last)) (omega (arith, ints), omega (arith, ints), top, tt));
  values = λ n.
      has_value-append (done ++ last ∷ []) ((record { lo = v; hi = v }) ∷ []) n
      ∙ (ap (λ (x : Bool). has_value (done ++ last ∷ []) n || x) (has_value-one (record { lo = v; hi = v }) n ∙ (is_one v n ∙ or_false (int_eq n v)))
      ∙ (ap (λ (x : Bool). x || (int_eq n v || false)) (h.values n)
      ∙ sym (at_end numbers v n)));
}

not_below : (x y : ℤ) → is_lt (int_cmp x y) ≡ false → y ≤ℤ x
not_below x y h = grind (arith, ints)

-- each number isn't below the one before it
pub rises : (numbers : List ℤ) (i : ℕ) (d : ℤ) → IsSorted int_cmp numbers → 0 < i → i < length numbers → get_or numbers (i - 1) d ≤ℤ get_or numbers i d
rises numbers i d up h below =
    let at : (i - 1) + 1 ≡ i = omega arith in
    not_below (get_or numbers i d) (get_or numbers (i - 1) d)
    (subst (λ (k : ℕ). is_lt (int_cmp (get_or numbers k d) (get_or numbers (i - 1) d)) ≡ false) at (up (i - 1) d (omega arith) (omega arith)))

-- the numbers before a place, and the last of them as the end of the last span
pub record JoinsBefore (numbers : List ℤ) (i : ℕ) (done : List Span) (last : Span) : Type 0 where
  pub joins : Joins (take i numbers) done last
  pub ends : last.hi ≡ get_or numbers (i - 1) (pos 0)

ends_at : (numbers : List ℤ) (i : ℕ) (v : ℤ) → v ≡ get_or numbers i (pos 0) → v ≡ get_or numbers (i + 1 - 1) (pos 0)
ends_at numbers i v e = let k : i ≡ i + 1 - 1 = omega arith in e ∙ ap (λ (x : ℕ). get_or numbers x (pos 0)) k

more_numbers : (numbers : List ℤ) (i : ℕ) (v : ℤ) → i < length numbers → v ≡ get_or numbers i (pos 0) → take i numbers ++ v ∷ [] ≡ take (i + 1) numbers
more_numbers numbers i v h e = ap (λ (x : ℤ). take i numbers ++ x ∷ []) e ∙ sym (take_more numbers i (pos 0) h)

top_of : (numbers : List ℤ) (i : ℕ) (v : ℤ) → All IsWithinBounds numbers → i < length numbers → v ≡ get_or numbers i (pos 0) → IsWithinBounds v
top_of numbers i v all h e = subst IsWithinBounds (sym e) (All-get_or IsWithinBounds numbers i (pos 0) h all)

pub JoinsBefore-first : (numbers : List ℤ) (done : List Span) (v : ℤ) → All IsWithinBounds numbers → 0 < length numbers → v ≡ get_or numbers 0 (pos 0) → done ≡ [] → JoinsBefore numbers 1 done (record { lo = v; hi = v })
JoinsBefore-first numbers done v all h e none = record {
  joins = subst (λ (x : List ℤ). Joins x done (record { lo = v; hi = v })) (more_numbers numbers 0 v h e)
      (subst (λ (x : List Span). Joins (v ∷ []) x (record { lo = v; hi = v })) (sym none) (Joins-first v (top_of numbers 0 v all h e)));
  ends = e;
}

pub JoinsBefore-further : (numbers : List ℤ) (i : ℕ) (done new : List Span) (last : Span) (lo v : ℤ) → All IsWithinBounds numbers → i < length numbers → JoinsBefore numbers i done last
    → v ≡ get_or numbers i (pos 0) → (last.hi +ℤ pos 1) <ℤ v → new ≡ done ++ last ∷ [] → lo ≡ v → JoinsBefore numbers (i + 1) new (record { lo = lo; hi = v })
JoinsBefore-further numbers i done new last lo v all h before e far is starts = record {
  joins = subst (λ (x : ℤ). Joins (take (i + 1) numbers) new (record { lo = x; hi = v })) (sym starts)
      (subst (λ (x : List Span). Joins (take (i + 1) numbers) x (record { lo = v; hi = v })) (sym is)
      (subst (λ (x : List ℤ). Joins x (done ++ last ∷ []) (record { lo = v; hi = v })) (more_numbers numbers i v h e)
      (Joins-further (take i numbers) done last v before.joins far (top_of numbers i v all h e).1)));
  ends = ends_at numbers i v e;
}

pub JoinsBefore-longer : (numbers : List ℤ) (i : ℕ) (done new : List Span) (last : Span) (lo v : ℤ) → IsSorted int_cmp numbers → All IsWithinBounds numbers → 0 < i → i < length numbers → JoinsBefore numbers i done last
    → v ≡ get_or numbers i (pos 0) → v ≤ℤ (last.hi +ℤ pos 1) → new ≡ done → lo ≡ last.lo → JoinsBefore numbers (i + 1) new (record { lo = lo; hi = v })
JoinsBefore-longer numbers i done new last lo v up all pos_i h before e near is starts =
    let rise = rises numbers i (pos 0) up pos_i h in
    let low : last.hi ≤ℤ v = omega (arith, ints, before.ends, e, rise) in
    record {
      joins = subst (λ (x : ℤ). Joins (take (i + 1) numbers) new (record { lo = x; hi = v })) (sym starts)
          (subst (λ (x : List Span). Joins (take (i + 1) numbers) x (record { lo = last.lo; hi = v })) (sym is)
          (subst (λ (x : List ℤ). Joins x done (record { lo = last.lo; hi = v })) (more_numbers numbers i v h e)
          (Joins-longer (take i numbers) done last v before.joins low near (top_of numbers i v all h e).1)));
      ends = ends_at numbers i v e;
    }

pub last_within : (numbers : List ℤ) (i : ℕ) (done : List Span) (last : Span) → All IsWithinBounds numbers → i < length numbers → JoinsBefore numbers i done last → IsWithinBounds last.hi
last_within numbers i done last all h before = subst IsWithinBounds (sym before.ends) (All-get_or IsWithinBounds numbers (i - 1) (pos 0) (omega arith) all)

listed_cases : (x : ℤ) (xs : List ℤ) (n : ℤ) (b : Bool) → ((b ≡ true) × (n ≡ x)) ⊎ ((b ≡ false) × ((n <ℤ x) ⊎ (x <ℤ n))) → (b || list_any (λ m. int_eq n m) xs) ≡ true
    → (list_any (λ m. int_eq n m) xs ≡ true → Contains xs n) → Contains (x ∷ xs) n
listed_cases x xs n b (inl e) t rest = (0, omega arith, sym e.1)
listed_cases x xs n b (inr e) t rest =
    let later : list_any (λ m. int_eq n m) xs ≡ true = sym (ap (λ (y : Bool). y || list_any (λ m. int_eq n m) xs) e.0) ∙ t in
    let found = rest later in
    (suc found.0, omega (arith, found.1), found.2)

pub listed : (xs : List ℤ) (n : ℤ) → list_any (λ m. int_eq n m) xs ≡ true → Contains xs n
listed [] n t = cc
listed (x ∷ xs) n t = listed_cases x xs n (int_eq n x) (int_eq_is n x) t (listed xs n)

or_true : (b : Bool) → (b || true) ≡ true
or_true true = refl
or_true false = refl

listed_at : (xs : List ℤ) (n : ℤ) (k : ℕ) → k < length xs → get_or xs k n ≡ n → list_any (λ m. int_eq n m) xs ≡ true
listed_at [] n k h e = absurd (omega arith)
listed_at (x ∷ xs) n zero h e = ap (λ (y : Bool). y || list_any (λ m. int_eq n m) xs) ((Decides-int_eq n x).1 (sym e))
listed_at (x ∷ xs) n (suc k) h e = ap (λ (y : Bool). int_eq n x || y) (listed_at xs n k (omega arith) e) ∙ or_true (int_eq n x)

pub from_listed : (xs : List ℤ) (n : ℤ) → Contains xs n → list_any (λ m. int_eq n m) xs ≡ true
from_listed xs n c = listed_at xs n c.0 c.1 c.2
