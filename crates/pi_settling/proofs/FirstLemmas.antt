-- There is one first assignment at most.
use Rattle.std.specs.Prelude.{◌≡◌, ◌⊎◌, zero, suc, ℤ, ◌<ℤ◌, List, [], ◌∷◌, length, get_or, AllPairs, Contains, refl}
use Rattle.std.proofs.Common.{arith, sym, ◌∙◌, ap, subst, inl, inr}
use Rattle.std.proofs.lemmas.Int.{ints}
use Rattle.std.proofs.lemmas.List.{length-map}
use Rattle.pi_constraints.specs.declared.constraint.Item.{Item}
use Rattle.pi_prop_spec.specs.Solutions.{value_of}
use Rattle.pi_traces.specs.Trace.{Trace}
use Rattle.pi_constraints.specs.State.{State}
use Rattle.pi_settling.specs.Settled.{IsSettled}
use Rattle.pi_settling.proofs.UniqueLemmas.{settled_is_one}
use Rattle.pi_settling.specs.Confined.{confined}
use Rattle.pi_settling.specs.SearchLoad.{search_load}
use Rattle.pi_settling.specs.Assignments.{Extends, ComesBefore, IsFirst, all_bound, with_load}
use Rattle.pi_settling.specs.LabelLaws.{FirstIsOne, FirstOfAll, SatSolvedIsOne}

data Compared (is js : List ℤ) : Type 0 where
  before : ComesBefore is js → Compared is js
  same : is ≡ js → Compared is js
  behind : ComesBefore js is → Compared is js

numbers : (i j : ℤ) → (i <ℤ j) ⊎ ((i ≡ j) ⊎ (j <ℤ i))
numbers i j = grind (arith, ints)

first-compared : (i j : ℤ) (is js : List ℤ) → (i <ℤ j) ⊎ ((i ≡ j) ⊎ (j <ℤ i)) → Compared is js → Compared (i ∷ is) (j ∷ js)
unfolding ComesBefore
first-compared i j is js (inl less) rest = before (inl less)
first-compared i j is js (inr (inl e)) (before h) = before (inr (e, h))
first-compared i j is js (inr (inl e)) (same f) = same (cc)
first-compared i j is js (inr (inl e)) (behind h) = behind (inr (sym e, h))
first-compared i j is js (inr (inr more)) rest = behind (inl more)

compared : (is js : List ℤ) → length is ≡ length js → Compared is js
compared [] [] e = same refl
compared [] (j ∷ js) e = absurd (omega arith)
compared (i ∷ is) [] e = absurd (omega arith)
compared (i ∷ is) (j ∷ js) e = first-compared i j is js (numbers i j) (compared is js (omega arith))

as_many : (s : State) (items : List Item) (values : List ℤ) → Extends s items values → length values ≡ length items
as_many s items values e = ap length (sym e.are) ∙ length-map items (value_of e.assignment)

decide : (s : State) (items : List Item) (values others : List ℤ) → IsFirst s items values → IsFirst s items others → Compared values others → values ≡ others
decide s items values others f g (before h) = absurd (g.none_before values f.extends h)
decide s items values others f g (same e) = e
decide s items values others f g (behind h) = absurd (f.none_before others g.extends h)

pub first_is_one : FirstIsOne
first_is_one s items values others f g = decide s items values others f g (compared values others (as_many s items values f.extends ∙ sym (as_many s items others g.extends)))

pub sat_solved_is_one : SatSolvedIsOne
sat_solved_is_one s items t u (inl (values, v, f, a, e)) (inl (others, w, g, b, h)) =
    let same : values ≡ others = first_is_one (confined s items) items values others f g in
    let moved : IsSettled s (all_bound (confined s items) items others) v = subst (λ (vs : List ℤ). IsSettled s (all_bound (confined s items) items vs) v) same a in
    e ∙ (ap (λ (x : Trace State). with_load (search_load s items) x) (settled_is_one s (all_bound (confined s items) items others) v w moved b) ∙ sym h)
sat_solved_is_one s items t u (inl (values, v, f, a, e)) (inr (none, h)) = absurd (none values f.extends)
sat_solved_is_one s items t u (inr (none, e)) (inl (others, w, g, b, h)) = absurd (none others g.extends)
sat_solved_is_one s items t u (inr (none, e)) (inr (still, h)) = e ∙ sym h

-- nothing comes before itself, nor before what comes before it
not_itself : (is : List ℤ) → ComesBefore is is → ⊥
unfolding ComesBefore
not_itself [] h = h
not_itself (i ∷ is) (inl less) = omega (arith, ints)
not_itself (i ∷ is) (inr h) = not_itself is h.1

not_back : (is js : List ℤ) → ComesBefore is js → ComesBefore js is → ⊥
unfolding ComesBefore
not_back [] js h k = h
not_back (i ∷ is) [] h k = h
not_back (i ∷ is) (j ∷ js) (inl less) (inl more) = omega (arith, ints)
not_back (i ∷ is) (j ∷ js) (inl less) (inr k) = let same : j ≡ i = k.0 in omega (arith, ints)
not_back (i ∷ is) (j ∷ js) (inr h) (inl more) = let same : i ≡ j = h.0 in omega (arith, ints)
not_back (i ∷ is) (j ∷ js) (inr h) (inr k) = not_back is js h.1 k.1

none-first : (values : List ℤ) (more : List (List ℤ)) (others : List ℤ) → AllPairs ComesBefore (values ∷ more) → Contains (values ∷ more) others → ComesBefore others values → ⊥
none-first values more others rise (zero, l, e) h = not_itself values (subst (λ (v : List ℤ). ComesBefore v values) (sym e) h)
none-first values more others rise (suc k, l, e) h =
    let after : ComesBefore values (get_or more k others) = rise 0 (suc k) others (omega arith) l in
    not_back values others (subst (λ (v : List ℤ). ComesBefore values v) e after) h

pub first_of_all : FirstOfAll
first_of_all s items values more all = record {
  extends = all.sound 0 values (omega arith);
  none_before = λ others extends h. none-first values more others all.in_order (all.complete others extends) h;
}
