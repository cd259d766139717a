-- Lemmas on queries: each depth adds to a query's trace at the one before, and so its run is one.
use Rattle.std.proofs.Common.{◌≡◌, ℕ, suc, ◌+◌, List, ◌++◌, refl, sym, ◌∙◌}
use Rattle.pi_traces.specs.Trace.{then, WithoutDeep}
use Rattle.pi_traces.specs.Depth.{Below, DepthOnlyAdds, Cut, cut}
use Rattle.pi_traces.specs.Related.{BelowBy}
use Rattle.pi_core.specs.CoreTree.{PredTree, QueryTree}
use Rattle.pi_core.specs.declared.core_program.NameSlot.{NameSlot}
use Rattle.pi_meaning.specs.CoreMeaning.Builtins.{Builtins, BuiltinsOnlyAdd}
use Rattle.pi_meaning.specs.Shared.Level.{Level, Point, LevelBelow, PointBelow, same_but_level}
use Rattle.pi_meaning.specs.CoreMeaning.Meaning.{meaning, strictly}
use Rattle.pi_meaning.specs.CoreMeaning.Rules.{level_at}
use Rattle.pi_meaning.specs.CoreMeaning.Run.{Solution, answered_with, query_start, query_trace, IsRunUnder}
use Rattle.pi_traces.proofs.RelatedLemmas.{Same, below-by, by-same, by-then}
use Rattle.pi_traces.proofs.BelowLemmas.{below-later, depth-enough}
use Rattle.pi_traces.proofs.CutLemmas.{cut-below, depths-agree}
use Rattle.pi_meaning.proofs.CoreMeaning.MeaningLemmas.{place, Callable, CallsMore, CallsIn, more-strictly, anything, calls-any, only-more}
use Rattle.pi_meaning.proofs.CoreMeaning.RuleLemmas.{level-below}

same-answer : (names : List NameSlot) (p q : Point) → PointBelow p q → BelowBy Same (answered_with names p) (answered_with names q)
same-answer names _ _ (same_but_level {l = l} h e s) = by-same (answered_with names (place l e s))

-- a query at two levels, with two kinds of built-ins
pub query-below : (K : Callable) (b d : Builtins) → CallsMore K b d → (q : QueryTree) → CallsIn K q.goal → (l m : Level) → LevelBelow l m →
    Below (then (strictly (meaning b q.goal) (query_start l q)) (answered_with q.names)) (then (strictly (meaning d q.goal) (query_start m q)) (answered_with q.names))
query-below K b d more q k l m h =
    let start : Point = query_start l q in
    let start' : Point = query_start m q in
    below-by (then (strictly (meaning b q.goal) start) (answered_with q.names)) (then (strictly (meaning d q.goal) start') (answered_with q.names))
    (by-then PointBelow Same (strictly (meaning b q.goal) start) (strictly (meaning d q.goal) start') (answered_with q.names) (answered_with q.names)
    (more-strictly K b d more q.goal k start start' (same_but_level h start.slots start.state)) (same-answer q.names))

pub query-deeper : (b : Builtins) → BuiltinsOnlyAdd b → (program : List PredTree) (q : QueryTree) → DepthOnlyAdds (query_trace b program q)
unfolding query_trace
query-deeper b adds program q d =
    query-below anything b b (only-more b adds) q (calls-any q.goal) (level_at b (program ++ q.helpers) d) (level_at b (program ++ q.helpers) (suc d))
    (level-below b adds (program ++ q.helpers) d)

pub whole-query : (b : Builtins) → BuiltinsOnlyAdd b → (program : List PredTree) (q : QueryTree) (depth more : ℕ) → WithoutDeep (query_trace b program q depth) →
    query_trace b program q depth ≡ query_trace b program q (depth + more)
whole-query b adds program q depth more h = depth-enough (query_trace b program q) (query-deeper b adds program q) depth more h

pub one-run : (b : Builtins) → BuiltinsOnlyAdd b → (program : List PredTree) (q : QueryTree) (n : ℕ) (c d : Cut Solution) →
    IsRunUnder b program q n c → IsRunUnder b program q n d → c ≡ d
one-run b adds program q n c d r r' =
    r.is_cut ∙ (depths-agree n (query_trace b program q) (query-deeper b adds program q) r.depth r'.depth r.reaches r'.reaches ∙ sym r'.is_cut)

-- each greater depth gives the run too
pub run-deeper : (b : Builtins) → BuiltinsOnlyAdd b → (program : List PredTree) (q : QueryTree) (n : ℕ) (c : Cut Solution) → (r : IsRunUnder b program q n c) →
    (more : ℕ) → cut n (query_trace b program q (r.depth + more)) ≡ c
run-deeper b adds program q n c r more =
    sym (r.is_cut ∙ cut-below n (query_trace b program q r.depth) (query_trace b program q (r.depth + more))
    (below-later (query_trace b program q) (query-deeper b adds program q) r.depth more (r.depth + more) refl) r.reaches)
