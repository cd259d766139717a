-- The full intervals from a number on, place by place in the order of their greatest values.
use Rattle.std.specs.Prelude.{◌≡◌, ◌↔◌, ◌⊎◌, ℕ, ◌+◌, ◌<◌, ◌≤◌, cond, List, [], ◌∷◌, ◌++◌, length, take, get_or, All, Contains, ℤ, pos, ◌≤ℤ◌, ◌<ℤ◌, refl}
use Rattle.std.proofs.Common.{arith, sym, ◌∙◌, ap, subst, inl, inr}
use Rattle.std.proofs.lemmas.Bool.{cases_lt}
use Rattle.std.proofs.lemmas.Int.{ints, by_lt_z}
use Rattle.std.proofs.lemmas.List.{take_all, length_push, get_or_push, get_or_append_left}
use Rattle.std.proofs.lemmas.List.Sums.{sum_by-take-le}
use Rattle.std.proofs.lemmas.List.Elements.{All-push, Contains-get_or, Contains-append_left, Contains-push, Contains-push_cases}
use Rattle.pi_constraints.specs.Domain.{IsWithinBounds}
use Rattle.pi_prop_spec.specs.Rules.{width}
use Rattle.pi_prop_filters.specs.Intervals.{IsEnds, ByGreatest, IsAscending, is_inside, count_inside, IsOverfull, HasRoom, IsFull, AreFullEnds}
use Rattle.pi_prop_filters.proofs.CountLemmas.{count_from, count_inside-le, counted, counts, nowhere, passed_over}

-- ---- what is known of the first so many places

pub record FullBefore (a : ℤ) (ends : List (ℤ × ℤ)) (i : ℕ) (full : List ℤ) : Type 0 where
  pub room : HasRoom a (take i ends)
  pub are : (b : ℤ) → Contains full b ↔ IsFull a b (take i ends)
  pub bounds : All IsWithinBounds full
  pub ascend : IsAscending full

pub not_in_none : (b : ℤ) → Contains {X = ℤ} [] b → ⊥
not_in_none b (k, l, e) = omega arith

pub full_at_first : (a : ℤ) (ends : List (ℤ × ℤ)) → FullBefore a ends 0 []
full_at_first a ends = record {
  room = λ b h. omega (arith, ints);
  are = λ b. (λ c. absurd (not_in_none b c), λ f. let low : a ≤ℤ b = f.0 in let e : pos 0 ≡ width a b = f.1 in absurd (omega (arith, ints)));
  bounds = λ k d l. absurd (omega arith);
  ascend = λ i j d l m. absurd (omega arith);
}

full_same : (a b : ℤ) (xs ys : List (ℤ × ℤ)) → count_inside a b ys ≡ count_inside a b xs → IsFull a b xs → IsFull a b ys
full_same a b xs ys e f = (f.0, ap (λ (n : ℕ). pos n) e ∙ f.1)

pub full_passed : (a : ℤ) (ends : List (ℤ × ℤ)) (i : ℕ) (full : List ℤ) → i < length ends → (get_or ends i nowhere).1 <ℤ a → FullBefore a ends i full → FullBefore a ends (i + 1) full
full_passed a ends i full l h f = record {
  room = λ b m. subst (λ (n : ℕ). pos n ≤ℤ width a b) (sym (passed_over a b ends i l h)) (f.room b m);
  are = λ b. (
    λ c. full_same a b (take i ends) (take (i + 1) ends) (passed_over a b ends i l h) ((f.are b).0 c),
    λ g. (f.are b).1 (full_same a b (take (i + 1) ends) (take i ends) (sym (passed_over a b ends i l h)) g),
  );
  bounds = f.bounds;
  ascend = f.ascend;
}

-- what one more place from a on comes to
record Next (a : ℤ) (ends : List (ℤ × ℤ)) (i n : ℕ) (h : ℤ) : Type 0 where
  ends_at : (get_or ends i nowhere).0 ≡ h
  from : a ≤ℤ h
  before : (b : ℤ) → h ≤ℤ b → count_inside a b (take i ends) ≡ n
  below : (b : ℤ) → b <ℤ h → count_inside a b (take (i + 1) ends) ≡ count_inside a b (take i ends)
  above : (b : ℤ) → h ≤ℤ b → count_inside a b (take (i + 1) ends) ≡ n + 1

next : (a : ℤ) (ends : List (ℤ × ℤ)) (i : ℕ) → ByGreatest ends → i < length ends → IsEnds (get_or ends i nowhere) → a ≤ℤ (get_or ends i nowhere).1 → Next a ends i (count_from a (take i ends)) ((get_or ends i nowhere).0)
next a ends i s l e low = record {
  ends_at = refl;
  from = let o = e.ordered in omega (arith, ints);
  before = λ b h. (counts a ends i s l).before b h;
  below = λ b h. (counts a ends i s l).below b h;
  above = λ b h. counted a b ends i s l low h;
}

room_more : (a h b : ℤ) (n c m : ℕ) → pos (n + 1) ≤ℤ width a h → h ≤ℤ b → c ≡ n + 1 → pos c ≤ℤ width a b
room_more a h b n c m r l e = omega (arith, ints)

room_next : (a : ℤ) (ends : List (ℤ × ℤ)) (i n : ℕ) (h : ℤ) → Next a ends i n h → pos (n + 1) ≤ℤ width a h → HasRoom a (take i ends) → HasRoom a (take (i + 1) ends)
room_next a ends i n h x r f b m = by_lt_z b h
    (λ l. subst (λ (k : ℕ). pos k ≤ℤ width a b) (sym (x.below b l)) (f b m))
    (λ l. room_more a h b n (count_inside a b (take (i + 1) ends)) 0 r l (x.above b l))

-- where it leaves room the intervals that were full stay so, and end below it
still_full : (a h b : ℤ) (n c : ℕ) → pos (n + 1) ≤ℤ width a h → h ≤ℤ b → c ≡ n → pos c ≡ width a b → ⊥
still_full a h b n c r l e f = omega (arith, ints)

full_below : (a : ℤ) (ends : List (ℤ × ℤ)) (i n : ℕ) (h b : ℤ) → Next a ends i n h → pos (n + 1) ≤ℤ width a h → IsFull a b (take i ends) → b <ℤ h
full_below a ends i n h b x r f = by_lt_z b h (λ l. l) (λ l. absurd (still_full a h b n (count_inside a b (take i ends)) r l (x.before b l) f.1))

full_kept : (a : ℤ) (ends : List (ℤ × ℤ)) (i n : ℕ) (h b : ℤ) → Next a ends i n h → pos (n + 1) ≤ℤ width a h → IsFull a b (take i ends) → IsFull a b (take (i + 1) ends)
full_kept a ends i n h b x r f = full_same a b (take i ends) (take (i + 1) ends) (x.below b (full_below a ends i n h b x r f)) f

not_full : (a h b : ℤ) (n c : ℕ) → pos (n + 1) ≤ℤ width a h → h ≤ℤ b → c ≡ n + 1 → pos c ≡ width a b → b ≡ h
not_full a h b n c r l e f = omega (arith, ints)

full_or_here : (a : ℤ) (ends : List (ℤ × ℤ)) (i n : ℕ) (h b : ℤ) → Next a ends i n h → pos (n + 1) ≤ℤ width a h → IsFull a b (take (i + 1) ends) → IsFull a b (take i ends) ⊎ (b ≡ h)
full_or_here a ends i n h b x r f = by_lt_z b h
    (λ l. inl (full_same a b (take (i + 1) ends) (take i ends) (sym (x.below b l)) f))
    (λ l. inr (not_full a h b n (count_inside a b (take (i + 1) ends)) r l (x.above b l) f.1))

here_too_few : (a h b : ℤ) (n c : ℕ) → pos (n + 1) <ℤ width a h → b ≡ h → c ≡ n + 1 → pos c ≡ width a b → ⊥
here_too_few a h b n c r l e f = omega (arith, ints)

-- it leaves more room than one number
pub full_open : (a : ℤ) (ends : List (ℤ × ℤ)) (i : ℕ) (full : List ℤ) → ByGreatest ends → i < length ends → IsEnds (get_or ends i nowhere) → a ≤ℤ (get_or ends i nowhere).1
    → pos (count_from a (take i ends) + 1) <ℤ width a ((get_or ends i nowhere).0) → FullBefore a ends i full → FullBefore a ends (i + 1) full
full_open a ends i full s l e low r f =
    let n : ℕ = count_from a (take i ends) in
    let h : ℤ = (get_or ends i nowhere).0 in
    let x : Next a ends i n h = next a ends i s l e low in
    let room : pos (n + 1) ≤ℤ width a h = omega (arith, ints) in
    record {
      room = room_next a ends i n h x room f.room;
      are = λ b. (
        λ c. full_kept a ends i n h b x room ((f.are b).0 c),
        λ g. elim (full_or_here a ends i n h b x room g) [
          | inl o ↦ (f.are b).1 o
          | inr o ↦ absurd (here_too_few a h b n (count_inside a b (take (i + 1) ends)) r o (x.above b (omega (arith, ints))) g.1)
        ],
      );
      bounds = f.bounds;
      ascend = f.ascend;
    }

ascend_push : (full : List ℤ) (h : ℤ) → IsAscending full → ((b : ℤ) → Contains full b → b ≤ℤ h) → IsAscending (full ++ h ∷ [])
ascend_push full h up last i j d l m =
    let count : length (full ++ h ∷ []) ≡ length full + 1 = length_push full h in
    elim (cases_lt j (length full)) [
      | inl b ↦
          let at_i : get_or (full ++ h ∷ []) i d ≡ get_or full i d = get_or_append_left full (h ∷ []) d i (omega arith) in
          let at_j : get_or (full ++ h ∷ []) j d ≡ get_or full j d = get_or_append_left full (h ∷ []) d j b in
          let rise : get_or full i d ≤ℤ get_or full j d = up i j d l b in
          subst (λ (z : ℤ). z ≤ℤ get_or (full ++ h ∷ []) j d) (sym at_i) (subst (λ (z : ℤ). get_or full i d ≤ℤ z) (sym at_j) rise)
      | inr b ↦
          let at_j : get_or (full ++ h ∷ []) j d ≡ h = get_or_push full h d j (omega arith) in
          elim (cases_lt i (length full)) [
            | inl c ↦
                let at_i : get_or (full ++ h ∷ []) i d ≡ get_or full i d = get_or_append_left full (h ∷ []) d i c in
                let low : get_or full i d ≤ℤ h = last (get_or full i d) (Contains-get_or full i d c) in
                subst (λ (z : ℤ). z ≤ℤ get_or (full ++ h ∷ []) j d) (sym at_i) (subst (λ (z : ℤ). get_or full i d ≤ℤ z) (sym at_j) low)
            | inr c ↦
                let at_i : get_or (full ++ h ∷ []) i d ≡ h = get_or_push full h d i (omega arith) in
                subst (λ (z : ℤ). z ≤ℤ get_or (full ++ h ∷ []) j d) (sym at_i) (subst (λ (z : ℤ). h ≤ℤ z) (sym at_j) (omega (arith, ints)))
          ]
    ]

-- it leaves no room
pub full_closed : (a : ℤ) (ends : List (ℤ × ℤ)) (i : ℕ) (full : List ℤ) → ByGreatest ends → i < length ends → IsEnds (get_or ends i nowhere) → a ≤ℤ (get_or ends i nowhere).1
    → pos (count_from a (take i ends) + 1) ≡ width a ((get_or ends i nowhere).0) → FullBefore a ends i full → FullBefore a ends (i + 1) (full ++ (get_or ends i nowhere).0 ∷ [])
full_closed a ends i full s l e low r f =
    let n : ℕ = count_from a (take i ends) in
    let h : ℤ = (get_or ends i nowhere).0 in
    let x : Next a ends i n h = next a ends i s l e low in
    let room : pos (n + 1) ≤ℤ width a h = omega (arith, ints) in
    record {
      room = room_next a ends i n h x room f.room;
      are = λ b. (
        λ c. elim (Contains-push_cases full h b c) [
          | inl o ↦ full_kept a ends i n h b x room ((f.are b).0 o)
          | inr o ↦ (subst (λ (z : ℤ). a ≤ℤ z) o x.from, ap (λ (m : ℕ). pos m) (x.above b (omega (arith, ints))) ∙ (r ∙ ap (width a) o))
        ],
        λ g. elim (full_or_here a ends i n h b x room g) [
          | inl o ↦ Contains-append_left full (h ∷ []) b ((f.are b).1 o)
          | inr o ↦ subst (Contains (full ++ h ∷ [])) (sym o) (Contains-push full h)
        ],
      );
      bounds = All-push IsWithinBounds full h f.bounds e.greatest;
      ascend = ascend_push full h f.ascend (λ b c. let m = full_below a ends i n h b x room ((f.are b).0 c) in omega (arith, ints));
    }

-- ---- how the search ends

pub full_all : (a : ℤ) (ends : List (ℤ × ℤ)) (i : ℕ) (full : List ℤ) → length ends ≤ i → FullBefore a ends i full → AreFullEnds a ends full
full_all a ends i full l f =
    let all : take i ends ≡ ends = take_all i ends l in
    record {
      room = subst (HasRoom a) all f.room;
      are = λ b. (λ c. subst (IsFull a b) all ((f.are b).0 c), λ g. (f.are b).1 (subst (IsFull a b) (sym all) g));
      bounds = f.bounds;
      ascend = f.ascend;
    }

too_many : (a h : ℤ) (n c w : ℕ) → width a h <ℤ pos (n + 1) → c ≡ n + 1 → c ≤ w → width a h <ℤ pos w
too_many a h n c w r e l = omega (arith, ints)

pub overfull_here : (a : ℤ) (ends : List (ℤ × ℤ)) (i : ℕ) → ByGreatest ends → i < length ends → IsEnds (get_or ends i nowhere) → a ≤ℤ (get_or ends i nowhere).1
    → width a ((get_or ends i nowhere).0) <ℤ pos (count_from a (take i ends) + 1) → IsOverfull a ends
overfull_here a ends i s l e low r =
    let n : ℕ = count_from a (take i ends) in
    let h : ℤ = (get_or ends i nowhere).0 in
    let x : Next a ends i n h = next a ends i s l e low in
    (h, x.from, too_many a h n (count_inside a h (take (i + 1) ends)) (count_inside a h ends) r (x.above h (omega (arith, ints))) (sum_by-take-le (λ z. cond (is_inside a h z) 1 0) ends (i + 1)))

enough : (a h b : ℤ) (c w : ℕ) → pos w <ℤ width a h → h ≤ℤ b → c ≤ w → pos c <ℤ width a b
enough a h b c w r l m = omega (arith, ints)

filled : (a b : ℤ) (c w : ℕ) → pos c ≡ width a b → c ≤ w → pos w <ℤ width a b → ⊥
filled a b c w e l r = omega (arith, ints)

-- an interval with more numbers than there are places: those that end there or above have room
pub full_far : (a : ℤ) (ends : List (ℤ × ℤ)) (i : ℕ) (full : List ℤ) → ByGreatest ends → i < length ends → pos (length ends) <ℤ width a ((get_or ends i nowhere).0) → FullBefore a ends i full → AreFullEnds a ends full
full_far a ends i full s l r f =
    let h : ℤ = (get_or ends i nowhere).0 in
    let x = counts a ends i s l in
    let wide : (b : ℤ) → h ≤ℤ b → pos (count_inside a b ends) <ℤ width a b = λ b m. enough a h b (count_inside a b ends) (length ends) r m (count_inside-le a b ends) in
    let part : (b : ℤ) → count_inside a b (take i ends) ≤ count_inside a b ends = λ b. sum_by-take-le (λ z. cond (is_inside a b z) 1 0) ends i in
    record {
      room = λ b m. by_lt_z b h
          (λ n. subst (λ (k : ℕ). pos k ≤ℤ width a b) (sym (x.rest b n)) (f.room b m))
          (λ n. let w = wide b n in omega (arith, ints));
      are = λ b. (
        λ c. let g : IsFull a b (take i ends) = (f.are b).0 c in by_lt_z b h
            (λ n. full_same a b (take i ends) ends (x.rest b n) g)
            (λ n. absurd (filled a b (count_inside a b (take i ends)) (count_inside a b ends) g.1 (part b) (wide b n))),
        λ g. by_lt_z b h
            (λ n. (f.are b).1 (full_same a b ends (take i ends) (sym (x.rest b n)) g))
            (λ n. absurd (filled a b (count_inside a b ends) (count_inside a b ends) g.1 (omega arith) (wide b n))),
      );
      bounds = f.bounds;
      ascend = f.ascend;
    }
