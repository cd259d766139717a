-- How many places lie within the intervals from a number on, place by place in the order of their greatest values.
use Rattle.std.specs.Prelude.{◌≡◌, ℕ, suc, ◌+◌, ◌-◌, ◌<◌, ◌≤◌, Bool, true, false, ◌&&◌, cond, List, [], ◌∷◌, length, take, drop, get_or, ℤ, pos, ◌≤ℤ◌, ◌<ℤ◌, int_le, refl}
use Rattle.std.specs.List.{sum_by}
use Rattle.std.proofs.Common.{arith, sym, ◌∙◌, ap, subst}
use Rattle.std.proofs.lemmas.Bool.{and_from}
use Rattle.std.proofs.lemmas.Int.{ints}
use Rattle.std.proofs.lemmas.List.{get_or-take, get_or-drop, length-take-le, length-drop}
use Rattle.std.proofs.lemmas.List.Sums.{sum_by-cons, sum_by_more, sum_by-take-drop, sum_by-le}
use Rattle.pi_prop_filters.specs.Intervals.{ByGreatest, is_inside, count_inside}

abbrev pub nowhere : ℤ × ℤ
nowhere = (pos 0, pos 0)

abbrev pub one_if : Bool → ℕ
one_if b = cond b 1 0

-- so many places have no value below a
abbrev pub count_from : ℤ → List (ℤ × ℤ) → ℕ
count_from a ends = sum_by (λ e. cond (int_le a e.1) 1 0) ends

one_if-le : (b : Bool) → one_if b ≤ 1
one_if-le true = omega arith
one_if-le false = omega arith

pub count_inside-le : (a b : ℤ) (ends : List (ℤ × ℤ)) → count_inside a b ends ≤ length ends
count_inside-le a b ends = let h = sum_by-le (λ e. cond (is_inside a b e) 1 0) 1 ends (λ k d l. one_if-le (is_inside a b (get_or ends k d))) in omega arith

alone : (p q : Bool) → q ≡ true → (p && q) ≡ p
alone true q t = t
alone false q t = refl

pub never : (p q : Bool) → q ≡ false → (p && q) ≡ false
never true q f = f
never false q f = refl

-- where all end at b or below, all from a on lie within
count_below : (a b : ℤ) (ends : List (ℤ × ℤ)) → ((i : ℕ) → i < length ends → (get_or ends i nowhere).0 ≤ℤ b) → count_inside a b ends ≡ count_from a ends
count_below a b [] h = refl
count_below a b (e ∷ es) h =
    let first : e.0 ≤ℤ b = h 0 (omega arith) in
    let t : int_le e.0 b ≡ true = grind (arith, ints) in
    let same : is_inside a b e ≡ int_le a e.1 = alone (int_le a e.1) (int_le e.0 b) t in
    let rest : count_inside a b es ≡ count_from a es = count_below a b es (λ i l. h (suc i) (omega arith)) in
    sum_by-cons (λ x. cond (is_inside a b x) 1 0) e es ∙ ((λ j. one_if (same j) + rest j) ∙ sym (sum_by-cons (λ x. cond (int_le a x.1) 1 0) e es))

-- where all end above b none lies within
count_above : (a b : ℤ) (ends : List (ℤ × ℤ)) → ((i : ℕ) → i < length ends → b <ℤ (get_or ends i nowhere).0) → count_inside a b ends ≡ 0
count_above a b [] h = refl
count_above a b (e ∷ es) h =
    let first : b <ℤ e.0 = h 0 (omega arith) in
    let f : int_le e.0 b ≡ false = grind (arith, ints) in
    let none : is_inside a b e ≡ false = never (int_le a e.1) (int_le e.0 b) f in
    let rest : count_inside a b es ≡ 0 = count_above a b es (λ i l. h (suc i) (omega arith)) in
    let both : one_if (is_inside a b e) + count_inside a b es ≡ 0 = (λ j. one_if (none j) + rest j) in
    sum_by-cons (λ x. cond (is_inside a b x) 1 0) e es ∙ both

-- ---- the first so many places, by ascending greatest values

front_below : (ends : List (ℤ × ℤ)) (i : ℕ) (b : ℤ) → ByGreatest ends → i < length ends → (get_or ends i nowhere).0 ≤ℤ b → (k : ℕ) → k < length (take i ends) → (get_or (take i ends) k nowhere).0 ≤ℤ b
front_below ends i b s l h k m =
    let count : length (take i ends) ≡ i = length-take-le i ends (omega arith) in
    let below : k < i = omega arith in
    let rise : (get_or ends k nowhere).0 ≤ℤ (get_or ends i nowhere).0 = s k i nowhere (omega arith) l in
    let at : get_or (take i ends) k nowhere ≡ get_or ends k nowhere = get_or-take i ends k nowhere below in
    subst (λ (e : ℤ × ℤ). e.0 ≤ℤ b) (sym at) (omega (arith, ints))

rest_above : (ends : List (ℤ × ℤ)) (i : ℕ) (b : ℤ) → ByGreatest ends → i < length ends → b <ℤ (get_or ends i nowhere).0 → (k : ℕ) → k < length (drop i ends) → b <ℤ (get_or (drop i ends) k nowhere).0
rest_above ends i b s l h k m =
    let count : length (drop i ends) ≡ length ends - i = length-drop i ends in
    let rise : (get_or ends i nowhere).0 ≤ℤ (get_or ends (i + k) nowhere).0 = s i (i + k) nowhere (omega arith) (omega arith) in
    let at : get_or (drop i ends) k nowhere ≡ get_or ends (i + k) nowhere = get_or-drop i ends k nowhere in
    subst (λ (e : ℤ × ℤ). b <ℤ e.0) (sym at) (omega (arith, ints))

-- how the counts go on with one more place
pub record Counts (a : ℤ) (ends : List (ℤ × ℤ)) (i : ℕ) : Type 0 where
  pub below : (b : ℤ) → b <ℤ (get_or ends i nowhere).0 → count_inside a b (take (i + 1) ends) ≡ count_inside a b (take i ends)
  pub before : (b : ℤ) → (get_or ends i nowhere).0 ≤ℤ b → count_inside a b (take i ends) ≡ count_from a (take i ends)
  pub rest : (b : ℤ) → b <ℤ (get_or ends i nowhere).0 → count_inside a b ends ≡ count_inside a b (take i ends)

pub counts : (a : ℤ) (ends : List (ℤ × ℤ)) (i : ℕ) → ByGreatest ends → i < length ends → Counts a ends i
counts a ends i s l = record {
  below = λ b h.
      let e : ℤ × ℤ = get_or ends i nowhere in
      let f : int_le e.0 b ≡ false = grind (arith, ints) in
      let none : one_if (is_inside a b e) ≡ 0 = ap one_if (never (int_le a e.1) (int_le e.0 b) f) in
      sum_by_more (λ x. cond (is_inside a b x) 1 0) ends i nowhere l ∙ (ap (λ (n : ℕ). count_inside a b (take i ends) + n) none ∙ omega arith);
  before = λ b h. count_below a b (take i ends) (front_below ends i b s l h);
  rest = λ b h.
      let none : count_inside a b (drop i ends) ≡ 0 = count_above a b (drop i ends) (rest_above ends i b s l h) in
      let whole : count_inside a b (take i ends) + count_inside a b (drop i ends) ≡ count_inside a b ends = sum_by-take-drop (λ x. cond (is_inside a b x) 1 0) ends i in
      omega arith;
}

-- a place with a value below a is passed over
pub passed_over : (a b : ℤ) (ends : List (ℤ × ℤ)) (i : ℕ) → i < length ends → (get_or ends i nowhere).1 <ℤ a → count_inside a b (take (i + 1) ends) ≡ count_inside a b (take i ends)
passed_over a b ends i l h =
    let e : ℤ × ℤ = get_or ends i nowhere in
    let f : int_le a e.1 ≡ false = grind (arith, ints) in
    let none : one_if (is_inside a b e) ≡ 0 = ap (λ (p : Bool). one_if (p && int_le e.0 b)) f in
    sum_by_more (λ x. cond (is_inside a b x) 1 0) ends i nowhere l ∙ (ap (λ (n : ℕ). count_inside a b (take i ends) + n) none ∙ omega arith)

pub from_passed : (a : ℤ) (ends : List (ℤ × ℤ)) (i : ℕ) → i < length ends → (get_or ends i nowhere).1 <ℤ a → count_from a (take (i + 1) ends) ≡ count_from a (take i ends)
from_passed a ends i l h =
    let e : ℤ × ℤ = get_or ends i nowhere in
    let f : int_le a e.1 ≡ false = grind (arith, ints) in
    sum_by_more (λ x. cond (int_le a x.1) 1 0) ends i nowhere l ∙ (ap (λ (p : Bool). count_from a (take i ends) + one_if p) f ∙ omega arith)

pub from_counted : (a : ℤ) (ends : List (ℤ × ℤ)) (i : ℕ) → i < length ends → a ≤ℤ (get_or ends i nowhere).1 → count_from a (take (i + 1) ends) ≡ count_from a (take i ends) + 1
from_counted a ends i l h =
    let e : ℤ × ℤ = get_or ends i nowhere in
    let t : int_le a e.1 ≡ true = grind (arith, ints) in
    sum_by_more (λ x. cond (int_le a x.1) 1 0) ends i nowhere l ∙ ap (λ (p : Bool). count_from a (take i ends) + one_if p) t

-- a place from a on is counted in each interval that ends where it ends or above
pub counted : (a b : ℤ) (ends : List (ℤ × ℤ)) (i : ℕ) → ByGreatest ends → i < length ends → a ≤ℤ (get_or ends i nowhere).1 → (get_or ends i nowhere).0 ≤ℤ b
    → count_inside a b (take (i + 1) ends) ≡ count_from a (take i ends) + 1
counted a b ends i s l low high =
    let e : ℤ × ℤ = get_or ends i nowhere in
    let t : int_le a e.1 ≡ true = grind (arith, ints) in
    let u : int_le e.0 b ≡ true = grind (arith, ints) in
    let one : one_if (is_inside a b e) ≡ 1 = ap one_if (and_from (int_le a e.1) (int_le e.0 b) t u) in
    sum_by_more (λ x. cond (is_inside a b x) 1 0) ends i nowhere l ∙ ((λ j. (counts a ends i s l).before b high j + one j) ∙ refl)
