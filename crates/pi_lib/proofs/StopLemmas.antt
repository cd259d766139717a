-- What a call hands on at the exit of a `?`.
use Rattle.std.proofs.Common.{◌≡◌, ℤ, sym, ap, ◌∙◌, subst, to_z, of_z}
use Rattle.std.specs.Prelude.{Result, Ok, Err}
use Rattle.std.specs.Int.{w128}
use Rattle.std.specs.Result.{IsErrAnd}
use Rattle.pi_constraints.specs.Store.{StoreView}
use Rattle.pi_constraints.specs.declared.store.Ref.{Ref}
use Rattle.pi_effects.specs.Effect.{FunctionEffect}
use Rattle.pi_effects.specs.Answer.{Answer}
use Rattle.pi_effects.specs.Results.{Stops, Shows, ShowsEffect}
use Rattle.pi_effects.specs.declared.fault.Stop.{Stop}

-- what stopped the call is what stops the body
pub stop_shown : {M A B : Type 0} (is : A → B → Type 0) (v : StoreView M) (result : Result A Stop) (stop : Stop) (a : Answer B) → IsErrAnd result (λ e. e ≡ stop) → Stops v stop a → Shows is v result a
stop_shown is v (Ok x) stop a e h = absurd e
stop_shown is v (Err other) stop a e h = subst (λ (s : Stop). Stops v s a) (sym e) h

-- want of memory, which says nothing
pub memory_shown : {M A B : Type 0} (is : A → B → Type 0) (v : StoreView M) (result : Result A Stop) (a : Answer B) → IsErrAnd result (λ e. e ≡ Stop.Memory) → Shows is v result a
memory_shown is v result a e = stop_shown is v result Stop.Memory a e tt

-- the same of an effect
pub effect_stopped : {M : Type 0} (v w : StoreView M) (result : Result Ref Stop) (stop : Stop) (e : FunctionEffect) → IsErrAnd result (λ x. x ≡ stop) → ShowsEffect v w (Err stop) e → ShowsEffect v w result e
effect_stopped v w (Ok x) stop e is h = absurd is
effect_stopped v w (Err other) stop e is h = subst (λ (s : Stop). ShowsEffect v w (Err s) e) (sym is) h

-- three numbers that stand in a call by their bits
pub of_three_bits : {A : Type 0} (f : ℤ → ℤ → ℤ → A) (a b c : ℤ) → to_z w128 (of_z w128 a) ≡ a → to_z w128 (of_z w128 b) ≡ b → to_z w128 (of_z w128 c) ≡ c → f (to_z w128 (of_z w128 a)) (to_z w128 (of_z w128 b)) (to_z w128 (of_z w128 c)) ≡ f a b c
of_three_bits f a b c p q r = ap (λ z. f z (to_z w128 (of_z w128 b)) (to_z w128 (of_z w128 c))) p ∙ (ap (λ z. f a z (to_z w128 (of_z w128 c))) q ∙ ap (f a b) r)
