-- Ticks that are counted.
use Rattle.std.proofs.Common.{◌≡◌, ℕ, zero, suc, ◌+◌, List, [], ◌∷◌, ◌++◌, ◌∙◌, ap, refl, arith}
use Rattle.pi_traces.specs.Trace.{Tick, Load, Out, Emitted, noted, answered, count_ticks}
use Rattle.pi_meaning.specs.CoreMeaning.Run.{Solution}
use Rattle.pi_meaning.specs.Machine.Next.{some_ticks}

pub count-some : (k : ℕ) → count_ticks (some_ticks k) ≡ k
unfolding count_ticks
count-some zero = refl
count-some (suc k) = ap suc (count-some k)

pub count-added : (events : List (Emitted Solution)) (k : ℕ) → count_ticks (events ++ some_ticks k) ≡ count_ticks events + k
unfolding count_ticks
count-added [] k = count-some k ∙ omega arith
count-added (noted Tick ∷ events) k = ap suc (count-added events k) ∙ omega arith
count-added (noted (Load n) ∷ events) k = count-added events k
count-added (noted (Out text) ∷ events) k = count-added events k
count-added (answered x ∷ events) k = count-added events k
