-- Where a goal began is remembered as long as marks are kept.
use Rattle.std.specs.Prelude.{◌≡◌, ℕ, List, [], ◌∷◌, length, Some, None, refl}
use Rattle.std.proofs.Common.{arith, ◌∙◌, ap}
use Rattle.pi_constraints.specs.State.{State}
use Rattle.pi_constraints.specs.Store.{StoreView, Moment, Marks}
use Rattle.pi_engine_settle.specs.declared.since.Since.{Since}
use Rattle.pi_engine_settle.specs.Due.{SinceIs}
use Rattle.pi_engine_settle.specs.DueLaws.{SinceStays}

abbrev state_of : Moment → State
state_of m = m.state

-- it stays in every call but a return
pub since-stays : {M : Type 0} → SinceStays M
since-stays v w before None keeps none = none
since-stays v w before (Some x) keeps (good, at, many) = (keeps.good x.mark good, ap state_of (keeps.same x.mark good) ∙ at, many)

-- a mark that is made now
pub since-marked : {M : Type 0} (order : M → ℕ) (v w : StoreView M) (x : Since M) → Marks order v w x.mark → x.constraints ≡ length v.now.state.constraints → SinceIs w v.now.state (Some x)
since-marked order v w x made many = (made.good, ap state_of made.brings_back, many)

-- no constraint was posted
pub none-posted : {X : Type 0} (cs : List X) (n : ℕ) → n ≡ length cs → n ≡ 0 → cs ≡ []
none-posted [] n many none = refl
none-posted (c ∷ cs) n many none = absurd (omega (arith, many, none))
