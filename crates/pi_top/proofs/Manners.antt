-- The manner in which a goal is asked, by the mode.
use Rattle.std.proofs.Common.{◌≡◌, ◌<◌, ℕ, true, Option, None, Some, is_some, arith, refl}
use Rattle.pi_top_words.specs.declared.asked.Options.{Options}
use Rattle.pi_top_words.specs.declared.run_mode.RunMode.{RunMode}
use Rattle.pi_top_words.specs.declared.run_mode.RunMode.TheVariants.{Query, Run, Session, Print, Demo}
use Rattle.pi_top.specs.Manner.{manner_in, manner_of}
use Rattle.pi_top.specs.Took.{bounds_of, bounds_asked}

bounds-in : (mode : RunMode) (asked : Options) → bounds_of (manner_in mode asked) ≡ bounds_asked asked
bounds-in Query asked = refl
bounds-in Run asked = refl
bounds-in Session asked = refl
bounds-in Print asked = refl
bounds-in Demo asked = refl

pub manner-bounds : (asked : Options) → bounds_of (manner_of asked) ≡ bounds_asked asked
manner-bounds asked = bounds-in asked.mode asked

answers-in : (mode : RunMode) (asked : Options) → 0 < asked.answers → 0 < (manner_in mode asked).answers
answers-in Query asked some = some
answers-in Run asked some = omega arith
answers-in Session asked some = some
answers-in Print asked some = some
answers-in Demo asked some = omega arith

pub manner-answers : (asked : Options) → 0 < asked.answers → 0 < (manner_of asked).answers
manner-answers asked some = answers-in asked.mode asked some

pub no-places : (places : Option ℕ) → places ≡ None → is_some places ≡ true → ⊥
no-places None is has = cc
no-places (Some places) is has = cc
