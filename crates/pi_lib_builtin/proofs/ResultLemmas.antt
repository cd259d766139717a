-- What a call hands on at the exit of a `?`.
use Rattle.std.proofs.Common.{◌≡◌, ℤ, refl, sym, ap, ◌∙◌, subst}
use Rattle.std.specs.Prelude.{Result, Ok, Err}
use Rattle.std.specs.Result.{IsErrAnd}
use Rattle.pi_constraints.specs.Store.{StoreView, Stays}
use Rattle.pi_effects.specs.Answer.{Answer}
use Rattle.pi_effects.specs.Results.{Stops, Shows, ShowsSame}
use Rattle.pi_effects.specs.declared.fault.Stop.{Stop}
use Rattle.pi_unify.proofs.KeepsLemmas.{keeps_none}

pub stays-none : {M : Type 0} (v : StoreView M) → Stays v v
stays-none v = record { keeps = keeps_none v; state = refl }

pub memory-stops : {M A : Type 0} (v : StoreView M) (stop : Stop) (a : Answer A) → stop ≡ Stop.Memory → Stops v stop a
memory-stops v stop a e = subst (λ (s : Stop). Stops v s a) (sym e) tt

-- what stopped the call is what stops the body
pub stopped-shows : {M A B : Type 0} (is : A → B → Type 0) (v : StoreView M) (result : Result A Stop) (stop : Stop) (a : Answer B) → IsErrAnd result (λ e. e ≡ stop) → Stops v stop a → Shows is v result a
stopped-shows is v (Ok x) stop a e h = absurd e
stopped-shows is v (Err other) stop a e h = subst (λ (s : Stop). Stops v s a) (sym e) h

pub stopped-same : {M A : Type 0} (v : StoreView M) (result : Result A Stop) (stop : Stop) (a : Answer A) → IsErrAnd result (λ e. e ≡ stop) → Stops v stop a → ShowsSame v result a
stopped-same v (Ok x) stop a e h = absurd e
stopped-same v (Err other) stop a e h = subst (λ (s : Stop). Stops v s a) (sym e) h

-- an integer of two that stand in a call by their bits
pub of-two : (f : ℤ → ℤ → ℤ) (a b m n result : ℤ) → a ≡ m → b ≡ n → result ≡ f a b → f m n ≡ result
of-two f a b m n result p q e = sym (e ∙ (ap (λ z. f z b) p ∙ ap (f m) q))
