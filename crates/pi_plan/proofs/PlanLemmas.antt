-- Valid plans, what is reached, and exhausted numbers.
use Rattle.std.proofs.Common.{◌≡◌, ℕ, ◌+◌, ◌-◌, ◌≤◌, List, subst, arith}
use Rattle.pi_terms.specs.Tree.{Tree}
use Rattle.pi_plan.specs.Plan.{Bodies, Step, Valid, at_goal, then_plan, Reached, at_start, then_step, Exhausted}

pub cost_within : (b : Bodies) (s : Tree) (r : ℕ) (plan : List Tree) (cost : ℕ) → Valid b s r plan cost → cost ≤ r
cost_within b s r plan cost (at_goal f) = omega arith
cost_within b s r plan cost (then_plan {c = c} {t = t} {plan = rest} {cost = d} step v) =
    let here : c ≤ r = step.within in
    let later : d ≤ r - c = cost_within b t (r - c) rest d v in
    omega arith

-- a plan that is valid from what is reached leads through what is reached, so where nothing that is reached is final there
-- is none
pub none_where_none_final : (b : Bodies) (start : Tree) (m : ℕ) → ((s : Tree) (r : ℕ) → Reached b start m s r → b.Final s r → ⊥) →
    (s : Tree) (r : ℕ) (plan : List Tree) (cost : ℕ) → Reached b start m s r → Valid b s r plan cost → ⊥
none_where_none_final b start m none s r plan cost reached (at_goal f) = none s r reached f
none_where_none_final b start m none s r plan cost reached (then_plan {c = c} {t = t} {plan = rest} {cost = d} step v) =
    none_where_none_final b start m none t (r - c) rest d (then_step reached (none s r reached) step) v

-- ---- bodies that come to the same at every rest

pub record RestFree (b : Bodies) : Type 0 where
  pub final : (s : Tree) (r m : ℕ) → b.Final s r → b.Final s m
  pub gives : (s : Tree) (r m : ℕ) (a : Tree) (c : ℕ) (t : Tree) → b.Gives s r a c t → b.Gives s m a c t
  pub done : (s : Tree) (r m : ℕ) → b.Done s r → b.Done s m

pub step_at : (b : Bodies) → RestFree b → (s : Tree) (r m : ℕ) (a : Tree) (c : ℕ) (t : Tree) → Step b s r a c t → c ≤ m → Step b s m a c t
step_at b free s r m a c t step within = record { given = free.gives s r m a c t step.given; within = within }

pub valid_at : (b : Bodies) → RestFree b → (s : Tree) (r m : ℕ) (plan : List Tree) (cost : ℕ) → Valid b s r plan cost → cost ≤ m → Valid b s m plan cost
valid_at b free s r m plan cost (at_goal f) h = at_goal (free.final s r m f)
valid_at b free s r m plan cost (then_plan {a = a} {c = c} {t = t} {plan = rest} {cost = d} step v) h =
    let here : c ≤ m = omega arith in
    let later : d ≤ m - c = omega arith in
    then_plan (step_at b free s r m a c t step here) (valid_at b free t (r - c) (m - c) rest d v later)

-- what is reached under a number is reached with more left under a greater one
pub reached_above : (b : Bodies) → RestFree b → (start : Tree) (m d : ℕ) (s : Tree) (r : ℕ) → Reached b start m s r → Reached b start (m + d) s (r + d)
reached_above b free start m d s r at_start = at_start
reached_above b free start m d s r (then_step {s = u} {r = q} {a = a} {c = c} reached not_final step) =
    let here : c ≤ q = step.within in
    let within : c ≤ q + d = omega arith in
    let same : (q + d) - c ≡ (q - c) + d = omega arith in
    let P : ℕ → Type 0 = λ n. Reached b start (m + d) s n in
    subst P same (then_step (reached_above b free start m d u q reached) (λ f. not_final (free.final u (q + d) q f)) (step_at b free u q (q + d) a c s step within))

-- and under a smaller one, as long as what is left suffices
pub reached_below : (b : Bodies) → RestFree b → (start : Tree) (m d : ℕ) (s : Tree) (r : ℕ) → d ≤ r → Reached b start m s r → Reached b start (m - d) s (r - d)
reached_below b free start m d s r h at_start = at_start
reached_below b free start m d s r h (then_step {s = u} {r = q} {a = a} {c = c} reached not_final step) =
    let here : c ≤ q = step.within in
    let enough : d ≤ q = omega arith in
    let within : c ≤ q - d = omega arith in
    let same : (q - d) - c ≡ (q - c) - d = omega arith in
    let P : ℕ → Type 0 = λ n. Reached b start (m - d) s n in
    subst P same (then_step (reached_below b free start m d u q enough reached) (λ f. not_final (free.final u (q - d) q f)) (step_at b free u q (q - d) a c s step within))

pub smaller_is_exhausted : (b : Bodies) → RestFree b → (start : Tree) (m n : ℕ) → Exhausted b start m → n ≤ m → Exhausted b start n
smaller_is_exhausted b free start m n ex h = record {
  none = λ plan cost v.
      let bound : cost ≤ n = cost_within b start n plan cost v in
      let within : cost ≤ m = omega arith in
      ex.none plan cost (valid_at b free start n m plan cost v within);
  done = λ s r reached.
      let sum : n + (m - n) ≡ m = omega arith in
      let P : ℕ → Type 0 = λ k. Reached b start k s (r + (m - n)) in
      free.done s (r + (m - n)) r (ex.done s (r + (m - n)) (subst P sum (reached_above b free start n (m - n) s r reached)));
}
