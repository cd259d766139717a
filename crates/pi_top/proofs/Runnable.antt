-- What a program and a goal are lowered to is what the machine runs.
use Rattle.std.proofs.Common.{◌≡◌, ℕ, List, [], ◌∷◌, ◌++◌}
use Rattle.std.specs.Prelude.{All}
use Rattle.std.proofs.lemmas.List.Elements.{All-head, All-tail}
use Rattle.pi_core.specs.CoreTree.{ClauseTree, PredTree, QueryTree}
use Rattle.pi_syntax.specs.ExpTree.{ExpTree}
use Rattle.pi_syntax.specs.ProgramTree.{ProgramTree}
use Rattle.pi_meaning.specs.Machine.Built.{WithoutEvents, AreOfRules, IsRunnable}
use Rattle.pi_rewrite_sound.specs.Laws.{IsPlain}
use Rattle.pi_rewrite.specs.Laws.{IsLowered}
use Rattle.pi_top.specs.JudgedCode.{IsAsked}

without-events : (cs : List ClauseTree) → All (λ (c : ClauseTree). c.watches ≡ []) cs → WithoutEvents cs
unfolding WithoutEvents
without-events [] all = tt
without-events (c ∷ cs) all =
    let P : ClauseTree → Type 0 = λ d. d.watches ≡ [] in
    (All-head P c cs all, without-events cs (All-tail P c cs all))

of-rules : (ps : List PredTree) → All IsPlain ps → AreOfRules ps
unfolding AreOfRules
of-rules [] all = tt
of-rules (p ∷ ps) all =
    let plain : IsPlain p = All-head IsPlain p ps all in
    (record { without_events = without-events p.clauses plain.watches }, of-rules ps (All-tail IsPlain p ps all))

pub lowered-runnable : (source : ProgramTree) (asked : ExpTree) (program : List PredTree) (q : QueryTree) → IsLowered source asked program q → IsRunnable program q
lowered-runnable source asked program q is =
    record { sound = is.sound; calls = is.closed; free = is.free; rules = of-rules (program ++ q.helpers) is.plain }

pub asked-runnable : (text goal : List ℕ) (program : List PredTree) (q : QueryTree) → IsAsked text goal program q → IsRunnable program q
asked-runnable text goal program q is = lowered-runnable is.source is.asked program q is.lowered
