-- Runs of a query whose machine is about to tell a load.
use Rattle.std.proofs.Common.{◌≡◌, ℕ, zero, suc, ◌+◌, List, [], ◌∷◌, ◌++◌, refl, sym, ◌∙◌, ap, subst, arith}
use Rattle.pi_core.specs.CoreTree.{PredTree, QueryTree}
use Rattle.pi_traces.specs.Trace.{Trace, note, Tick, Load, Out, Emitted, noted, answered, emit, count_ticks}
use Rattle.pi_traces.specs.Depth.{Below, Cut, with_events, cut}
use Rattle.pi_traces.proofs.BelowLemmas.{below-events}
use Rattle.pi_traces.proofs.CutLemmas.{cut-emit}
use Rattle.pi_traces.proofs.TraceLemmas.{emit-append}
use Rattle.pi_meaning.specs.Shared.View.{View}
use Rattle.pi_meaning.specs.CoreMeaning.Instances.{built_later, whole}
use Rattle.pi_meaning.specs.CoreMeaning.Run.{Solution, query_trace, IsRunUnder}
use Rattle.pi_meaning.specs.Machine.Configuration.{Config}
use Rattle.pi_meaning.specs.Machine.Leads.{Leads, IsAtNote}
use Rattle.pi_meaning.specs.Machine.Remaining.{remaining}
use Rattle.pi_meaning.specs.Machine.Step.{start}
use Rattle.pi_meaning.proofs.Machine.LeadLemmas.{starts, led}
use Rattle.pi_meaning.specs.CoreMeaning.Builtins.{Builtins}
use Rattle.pi_meaning.proofs.CoreMeaning.QueryLemmas.{run-deeper}
use Rattle.pi_meaning.proofs.Shared.CallLemmas.{built-later-adds, whole-adds}
use Rattle.pi_engine.proofs.TurnsGo.{both-ticks}

-- a query's run at a greater depth
later-cut : (v : View) (program : List PredTree) (q : QueryTree) (n : ℕ) (run : Cut Solution) → (r : IsRunUnder (whole v built_later (program ++ q.helpers)) program q n run) → (more : ℕ) →
    cut n (query_trace (whole v built_later (program ++ q.helpers)) program q (more + r.depth)) ≡ run
later-cut v program q n run r more =
    let given : Builtins = whole v built_later (program ++ q.helpers) in
    subst (λ d. cut n (query_trace given program q d) ≡ run) (omega arith) (run-deeper given (whole-adds v built_later (program ++ q.helpers) built-later-adds) program q n run r more)

-- each run of the query goes on with the load
pub load-prefix : (v : View) (program : List PredTree) (q : QueryTree) (events : List (Emitted Solution)) (c : Config) (k n : ℕ) (run : Cut Solution) →
    Leads v (program ++ q.helpers) q.names events (start q) c → IsAtNote v (program ++ q.helpers) q.names (Load k) c → IsRunUnder (whole v built_later (program ++ q.helpers)) program q (count_ticks events + n) run →
    (rest : Cut Solution) × (run ≡ with_events (events ++ noted (Load k) ∷ []) rest)
unfolding emit count_ticks
load-prefix v program q events c k n run h at r =
    let preds : List PredTree = program ++ q.helpers in
    let more : List (Emitted Solution) = events ++ noted (Load k) ∷ [] in
    let depth : ℕ = h.depth at.depth + r.depth in
    let whole_trace : Trace Solution = query_trace (whole v built_later preds) program q depth in
    let begins : emit events (remaining v preds q.names at.depth c) ≡ emit more at.rest = ap (emit events) at.begins ∙ sym (emit-append events (noted (Load k) ∷ []) at.rest) in
    let below : Below (emit more at.rest) whole_trace = subst (λ u. Below u whole_trace) begins (subst (λ u. Below (emit events (remaining v preds q.names at.depth c)) u) (starts v program q depth) (led v preds q.names events (start q) c h at.depth r.depth)) in
    let found : (rest : Trace Solution) × (whole_trace ≡ emit more rest) × Below at.rest rest = below-events more at.rest whole_trace below in
    let ticks : count_ticks more ≡ count_ticks events + 0 = both-ticks events (noted (Load k) ∷ []) in
    let many : count_ticks more + n ≡ count_ticks events + n = omega (arith, ticks) in (
      cut n found.0,
      sym (later-cut v program q (count_ticks events + n) run r (h.depth at.depth))
          ∙ (ap (cut (count_ticks events + n)) found.1 ∙ (ap (λ m. cut m (emit more found.0)) (sym many) ∙ cut-emit more n found.0)),
    )
