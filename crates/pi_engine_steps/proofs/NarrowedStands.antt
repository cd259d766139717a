-- What is next after an alternative of a labelling, by what the store says of the narrowing.
use Rattle.std.proofs.Common.{◌≡◌, ℕ, Bool, true, false, List, Option, Some, None, sym}
use Rattle.pi_constraints.specs.declared.domain.Span.{Span}
use Rattle.pi_constraints.specs.State.{State, domain_of}
use Rattle.pi_settling.specs.Choices.{Alternative, left_by, narrowed_to}
use Rattle.pi_meaning.proofs.CoreMeaning.NarrowedLeft.{left-narrowed}
use Rattle.pi_lib_constraints.specs.Kept.{IsLeft}
use Rattle.pi_engine_settle.specs.Settles.{LeftBy}
use Rattle.pi_engine_settle.proofs.LeftLemmas.{left-by}
use Rattle.pi_engine_arenas.specs.declared.frames.Point.{Point}
use Rattle.pi_engine_arenas.specs.declared.run.Now.{Now}
use Rattle.pi_engine_stands.specs.Rests.{Rests}
use Rattle.pi_engine_stands.specs.Settling.{NextAfter, NextLeft}

next-by : (before s : State) (o : Option State) (some : Bool) (p : Point) (now : Now) → IsLeft some s o → ((r : State) → o ≡ Some r → LeftBy before r) → ((some ≡ true → LeftBy before s) → NextAfter some before s p now) → NextLeft before o s p now
next-by before s None true p now left by next = absurd cc
next-by before s None false p now left by next = next (λ so. absurd cc)
next-by before s (Some r) true p now left by next =
    let same : r ≡ s = cc in
    let left_is : LeftBy before s = by s left in
    (sym same, left_is, next (λ so. left_is))
next-by before s (Some r) false p now left by next = absurd cc

pub narrowed-next : (before s : State) (n : ℕ) (d : List Span) (a : Alternative) (some : Bool) (p : Point) (now : Now) → Rests before → domain_of before n ≡ Some d → IsLeft some s (narrowed_to before n (left_by a d)) →
    ((some ≡ true → LeftBy before s) → NextAfter some before s p now) → NextLeft before (narrowed_to before n (left_by a d)) s p now
narrowed-next before s n d a some p now rests domain left next =
    next-by before s (narrowed_to before n (left_by a d)) some p now left
    (λ r is. left-by before r rests.calm rests.none_made (left-narrowed before r n d a rests.calm domain is)) next
