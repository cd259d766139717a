-- A query ends in one way.
use Rattle.std.proofs.Common.{◌≡◌, ℕ, ◌+◌, List, [], ◌∷◌, ◌++◌, length, length-append, refl, sym, ◌∙◌, ap, arith}
use Rattle.pi_terms.specs.Tree.{Tree}
use Rattle.pi_traces.specs.Trace.{Done, Raise, Load, Emitted, noted}
use Rattle.pi_traces.specs.Depth.{Cut, Stop, Ended, Spent}
use Rattle.pi_top.specs.QueryEnd.{Stopped, NoMore, No, Exception, StepsSpent, WorkSpent, EndsWithLast, IsWhole, IsBeforeLoad, EndingIsOne}

last-or-whole : {X A : Type 0} (asked : ℕ) (part : List (Emitted A)) (run : Cut A) (stop : Stop) → EndsWithLast asked part → IsWhole asked part run stop → X
last-or-whole asked part run stop last whole = absurd (omega (arith, last.all, whole.fewer))

last-or-load : {X A : Type 0} (asked : ℕ) (part : List (Emitted A)) (run : Cut A) → EndsWithLast asked part → IsBeforeLoad asked part run → X
last-or-load asked part run last load = absurd (omega (arith, last.all, load.fewer))

-- the whole of a run is no part that it goes on behind
whole-or-load : {X A : Type 0} (asked : ℕ) (part : List (Emitted A)) (run : Cut A) (stop : Stop) → IsWhole asked part run stop → IsBeforeLoad asked part run → X
whole-or-load asked part run stop whole load =
    let front : List (Emitted _) = part ++ noted (Load load.load) ∷ [] in
    let same : part ≡ front ++ load.next.rest = sym whole.whole ∙ load.next.whole_is in
    let all : length part ≡ length (front ++ load.next.rest) = ap length same in
    let split : length (front ++ load.next.rest) ≡ length front + length load.next.rest = length-append front load.next.rest in
    let more : length front ≡ length part + 1 = length-append part (noted (Load load.load) ∷ []) in
    absurd (omega (arith, all, split, more))

one-stop : {A : Type 0} (asked : ℕ) (part : List (Emitted A)) (run : Cut A) (a b : Stop) → IsWhole asked part run a → IsWhole asked part run b → a ≡ b
one-stop asked part run a b first second = sym first.stops ∙ second.stops

done-raise : {X : Type 0} (ball : Tree) → Ended Done ≡ Ended (Raise ball) → X
done-raise ball e = absurd (cc)

done-spent : {X : Type 0} → Ended Done ≡ Spent → X
done-spent e = absurd (cc)

raise-spent : {X : Type 0} (ball : Tree) → Ended (Raise ball) ≡ Spent → X
raise-spent ball e = absurd (cc)

one-ball : (a b : Tree) → Ended (Raise a) ≡ Ended (Raise b) → Exception a ≡ Exception b
one-ball a b e = let same : a ≡ b = cc in ap Exception same

pub ending-is-one : EndingIsOne
ending-is-one asked part run Stopped Stopped a b = refl
ending-is-one asked part run Stopped NoMore a b = last-or-whole asked part run (Ended Done) a b.0
ending-is-one asked part run Stopped No a b = last-or-whole asked part run (Ended Done) a b.0
ending-is-one asked part run Stopped (Exception ball) a b = last-or-whole asked part run (Ended (Raise ball)) a b
ending-is-one asked part run Stopped StepsSpent a b = last-or-whole asked part run Spent a b
ending-is-one asked part run NoMore Stopped a b = last-or-whole asked part run (Ended Done) b a.0
ending-is-one asked part run NoMore NoMore a b = refl
ending-is-one asked part run NoMore No a b = absurd (omega (arith, a.1, b.1))
ending-is-one asked part run NoMore (Exception ball) a b = done-raise ball (one-stop asked part run (Ended Done) (Ended (Raise ball)) a.0 b)
ending-is-one asked part run NoMore StepsSpent a b = done-spent (one-stop asked part run (Ended Done) Spent a.0 b)
ending-is-one asked part run No Stopped a b = last-or-whole asked part run (Ended Done) b a.0
ending-is-one asked part run No NoMore a b = absurd (omega (arith, a.1, b.1))
ending-is-one asked part run No No a b = refl
ending-is-one asked part run No (Exception ball) a b = done-raise ball (one-stop asked part run (Ended Done) (Ended (Raise ball)) a.0 b)
ending-is-one asked part run No StepsSpent a b = done-spent (one-stop asked part run (Ended Done) Spent a.0 b)
ending-is-one asked part run (Exception ball) Stopped a b = last-or-whole asked part run (Ended (Raise ball)) b a
ending-is-one asked part run (Exception ball) NoMore a b = done-raise ball (one-stop asked part run (Ended Done) (Ended (Raise ball)) b.0 a)
ending-is-one asked part run (Exception ball) No a b = done-raise ball (one-stop asked part run (Ended Done) (Ended (Raise ball)) b.0 a)
ending-is-one asked part run (Exception ball) (Exception other) a b = one-ball ball other (one-stop asked part run (Ended (Raise ball)) (Ended (Raise other)) a b)
ending-is-one asked part run (Exception ball) StepsSpent a b = raise-spent ball (one-stop asked part run (Ended (Raise ball)) Spent a b)
ending-is-one asked part run StepsSpent Stopped a b = last-or-whole asked part run Spent b a
ending-is-one asked part run StepsSpent NoMore a b = done-spent (one-stop asked part run (Ended Done) Spent b.0 a)
ending-is-one asked part run StepsSpent No a b = done-spent (one-stop asked part run (Ended Done) Spent b.0 a)
ending-is-one asked part run StepsSpent (Exception ball) a b = raise-spent ball (one-stop asked part run (Ended (Raise ball)) Spent b a)
ending-is-one asked part run StepsSpent StepsSpent a b = refl
ending-is-one asked part run Stopped WorkSpent a b = last-or-load asked part run a b
ending-is-one asked part run NoMore WorkSpent a b = whole-or-load asked part run (Ended Done) a.0 b
ending-is-one asked part run No WorkSpent a b = whole-or-load asked part run (Ended Done) a.0 b
ending-is-one asked part run (Exception ball) WorkSpent a b = whole-or-load asked part run (Ended (Raise ball)) a b
ending-is-one asked part run StepsSpent WorkSpent a b = whole-or-load asked part run Spent a b
ending-is-one asked part run WorkSpent Stopped a b = last-or-load asked part run b a
ending-is-one asked part run WorkSpent NoMore a b = whole-or-load asked part run (Ended Done) b.0 a
ending-is-one asked part run WorkSpent No a b = whole-or-load asked part run (Ended Done) b.0 a
ending-is-one asked part run WorkSpent (Exception ball) a b = whole-or-load asked part run (Ended (Raise ball)) b a
ending-is-one asked part run WorkSpent StepsSpent a b = whole-or-load asked part run Spent b a
ending-is-one asked part run WorkSpent WorkSpent a b = refl
