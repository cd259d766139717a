-- Two steps, of which each does something where it goes well.
use Rattle.std.proofs.Common.{◌≡◌, sym, subst, Result, Ok, Err, IfOk}
use Rattle.std.proofs.lemmas.Result.{IfOk-weaker}
use Rattle.pi_rewrite_slots.specs.Steps.{Went}

went : {A E : Type 0} (r : Result A E) → IfOk r (λ _. Went r)
went (Ok x) = tt
went (Err e) = tt

pub both-went : {A E : Type 0} (one other : Result A E) (x : A) → one ≡ Ok x → IfOk other (λ _. Went one × Went other)
both-went one other x is = IfOk-weaker other (λ _. Went other) (λ _. Went one × Went other) (λ _ w. (subst Went (sym is) tt, w)) (went other)

-- what a step did that went well
pub did : {A E : Type 0} (r : Result A E) (P : Type 0) → Went r → IfOk r (λ _. P) → P
did (Ok x) P w is = is
did (Err e) P w is = absurd w
