-- Runs that tell paths, and resumed runs, are one; they resume; and their work is counted.
use Rattle.std.specs.Prelude.{◌≡◌, ℕ, zero, suc, ◌+◌, List, [], ◌∷◌, ◌++◌, refl}
use Rattle.std.proofs.Common.{arith, sym, ◌∙◌, ap, subst, append-nil}
use Rattle.pi_core.specs.CoreTree.{PredTree, QueryTree}
use Rattle.pi_traces.specs.Trace.{Miss}
use Rattle.pi_traces.specs.Depth.{DepthOnlyAdds, cut}
use Rattle.pi_traces.proofs.BelowLemmas.{below-trans, below-later}
use Rattle.pi_traces.proofs.CutLemmas.{cut-below, depths-agree}
use Rattle.pi_meaning.specs.Shared.View.{query_view}
use Rattle.pi_meaning.specs.CoreMeaning.Run.{Solution}
use Rattle.pi_solve_spec.specs.Counted.{loads_of}
use Rattle.pi_resume_spec.specs.Resumed.{Passing, a_tick, a_load, Following, Leads}
use Rattle.pi_resume_spec.specs.Longest.{told_behind}
use Rattle.pi_resume_spec.specs.ResumedCut.{ResumedCut, behind_way, resumed_cut, ResumedWithoutDeep, passings, with_passings}
use Rattle.pi_resume_spec.specs.ByName.{Offers, all_names}
use Rattle.pi_resume_spec.specs.Queries.{query_search, resumed_query}
use Rattle.pi_resume_spec.specs.PathRuns.{path_trace, resumed_trace}
use Rattle.pi_resume_spec.specs.ResumedWork.{stop_of, as_run, loads_among}
use Rattle.pi_resume_spec.specs.More.{FollowsBelow, deeper_way, same_way, same_reached, same_cut, same_bad, OffersOnlyAdd}
use Rattle.pi_resume_spec.specs.RunLaws.{PathsDoMore, QueriesFollowMore, PathRunIsOne, DeeperPathRuns, ResumedRunIsOne, DeeperResumedRuns, ToldRunsResume, CutRunsResume, ToldPathsAreGood, QueriesBehindAreOne, LoadsOfTheWayCount, AskedOnTheWay}
use Rattle.pi_resume_spec.proofs.LanguageLemmas.{runs-resume}
use Rattle.pi_resume_spec.proofs.CutResumed.{cut-behind_way, bad-then, ends-on_way, more-leaves_cuts, leads-not_bad}
use Rattle.pi_resume_spec.proofs.LongPaths.{told-below, behind-below, told-at, leads-told}
use Rattle.pi_resume_spec.proofs.MoreLemmas.{follows-itself}
use Rattle.pi_resume_spec.proofs.MoreRules.{query-more, resumed-more}
use Rattle.pi_resume_spec.proofs.MoreNames.{names-more}

-- ---- all greater depths

follows-trans : {A : Type 0} (f g h : Following A) → FollowsBelow f g → FollowsBelow g h → FollowsBelow f h
follows-trans _ _ h (deeper_way _) b = deeper_way h
follows-trans _ _ _ (same_way p {f = f} {g = g} a) (same_way _ {g = h} b) = same_way p (follows-trans f g h a b)
follows-trans _ _ _ (same_reached made x left {t = t} {u = u} a) (same_reached _ _ _ {u = v} b) = same_reached made x left (below-trans t u v a b)
follows-trans _ _ h (same_cut e) b = b
follows-trans _ _ h same_bad b = b

-- each depth adds to the one before
FollowsMore : {A : Type 0} → (ℕ → Following A) → Type 0
FollowsMore f = (d : ℕ) → FollowsBelow (f d) (f (suc d))

follows-later : {A : Type 0} (f : ℕ → Following A) → FollowsMore f → (depth more later : ℕ) → depth + more ≡ later → FollowsBelow (f depth) (f later)
unfolding FollowsMore
follows-later f step depth zero later e = subst (λ (d : ℕ). FollowsBelow (f depth) (f d)) (omega arith) (follows-itself (f depth))
follows-later f step depth (suc more) later e =
    let near : ℕ = depth + more in
    let last : suc near ≡ later = omega arith in
    subst (λ (d : ℕ). FollowsBelow (f depth) (f d)) last (follows-trans (f depth) (f near) (f (suc near)) (follows-later f step depth more near refl) (step near))

cuts-agree : {A : Type 0} (n : ℕ) (f : ℕ → Following A) → FollowsMore f → (depth other : ℕ) → ResumedWithoutDeep n (f depth) → ResumedWithoutDeep n (f other) → resumed_cut n (f depth) ≡ resumed_cut n (f other)
cuts-agree n f step depth other h g =
    let both : ℕ = depth + other in
    more-leaves_cuts n (f depth) (f both) (follows-later f step depth other both refl) h
    ∙ sym (more-leaves_cuts n (f other) (f both) (follows-later f step other depth both (omega arith)) g)

-- ---- queries

pub paths-do_more : PathsDoMore
paths-do_more b adds program q d = (query-more b adds program q d).ways

pub queries-follow_more : QueriesFollowMore
queries-follow_more b adds program q path d = resumed-more b adds program q path d

pub told-deeper : (most : ℕ) (b : Offers) → OffersOnlyAdd b → (program : List PredTree) (q : QueryTree) → DepthOnlyAdds (path_trace most b program q)
told-deeper most b adds program q d = told-below most (query_search b program q d).ways (query_search b program q (suc d)).ways (paths-do_more b adds program q d)

resumed-deeper : (most : ℕ) (b : Offers) → OffersOnlyAdd b → (program : List PredTree) (q : QueryTree) (path : List ℕ) → FollowsMore (resumed_trace most b program q path)
unfolding FollowsMore
resumed-deeper most b adds program q path d = behind-below most (resumed_query b program q d path) (resumed_query b program q (suc d) path) (resumed-more b adds program q path d)

query-deeper : (b : Offers) → OffersOnlyAdd b → (program : List PredTree) (q : QueryTree) (path : List ℕ) → FollowsMore (λ d. resumed_query b program q d path)
unfolding FollowsMore
query-deeper b adds program q path d = resumed-more b adds program q path d

pub one-path_run : PathRunIsOne
one-path_run most b adds program q n c d r k =
    r.is_cut ∙ (depths-agree n (path_trace most b program q) (told-deeper most b adds program q) r.depth k.depth r.reaches k.reaches ∙ sym k.is_cut)

pub deeper-path_run : DeeperPathRuns
deeper-path_run most b adds program q n c r more =
    sym (r.is_cut ∙ cut-below n (path_trace most b program q r.depth) (path_trace most b program q (r.depth + more))
    (below-later (path_trace most b program q) (told-deeper most b adds program q) r.depth more (r.depth + more) refl) r.reaches)

pub one-resumed_run : ResumedRunIsOne
one-resumed_run most b adds program q path n c d r k =
    r.is_cut ∙ (cuts-agree n (resumed_trace most b program q path) (resumed-deeper most b adds program q path) r.depth k.depth r.reaches k.reaches ∙ sym k.is_cut)

pub deeper-resumed_run : DeeperResumedRuns
deeper-resumed_run most b adds program q path n c r more =
    sym (r.is_cut ∙ more-leaves_cuts n (resumed_trace most b program q path r.depth) (resumed_trace most b program q path (r.depth + more))
    (follows-later (resumed_trace most b program q path) (resumed-deeper most b adds program q path) r.depth more (r.depth + more) refl) r.reaches)

-- ---- resuming

pub told-resume : ToldRunsResume
told-resume most v later is program q d w rest at =
    let b : Offers = all_names v later (program ++ q.helpers) in
    let h = told-at most (query_search b program q d).ways w rest at in
    let f : Following Solution = resumed_query b program q d w.path in
    subst (λ t. Leads (told_behind most f) w.path w.answer [] t) h.is_told (leads-told most f w.path w.answer [] h.behind (runs-resume v later is program q d w h.behind h.is_there))

pub cut-resume : CutRunsResume
cut-resume most v later is program q d w rest at n =
    cut-behind_way n (resumed_trace most (all_names v later (program ++ q.helpers)) program q w.path d) w.path w.answer [] rest (told-resume most v later is program q d w rest at)

pub told-good : ToldPathsAreGood
told-good most v later is program q d w rest at n e =
    let f : Following Solution = resumed_trace most (all_names v later (program ++ q.helpers)) program q w.path d in
    leads-not_bad f w.path w.answer [] rest (told-resume most v later is program q d w rest at) (bad-then n f e).0

-- ---- work

pub one-behind : QueriesBehindAreOne
one-behind later adds program q path steps log depth other h k =
    let b : Offers = all_names (query_view log) later (program ++ q.helpers) in
    ap as_run (cuts-agree steps (λ d. resumed_query b program q d path) (query-deeper b (names-more (query_view log) later adds (program ++ q.helpers)) program q path) depth other
    (λ e. h (ap stop_of e)) (λ e. k (ap stop_of e)))

passings-loads : {A : Type 0} (ps : List Passing) (c : ResumedCut A) → loads_of (with_passings ps c).events ≡ loads_among ps + loads_of c.events
unfolding with_passings loads_among loads_of
passings-loads [] c = omega arith
passings-loads (a_tick ∷ ps) c = let more = passings-loads ps c in omega (arith, more)
passings-loads (a_load k ∷ ps) c = let more = passings-loads ps c in omega (arith, more)

pub way-loads : LoadsOfTheWayCount
way-loads later program q path n log depth x rest leads =
    let f : Following Solution = resumed_query (all_names (query_view log) later (program ++ q.helpers)) program q depth path in
    ap (λ (c : ResumedCut _). loads_of c.events) (cut-behind_way n f path x [] rest leads) ∙ passings-loads (passings f) (behind_way (cut n rest))

pub asked-on_way : AskedOnTheWay
asked-on_way later program q path steps known log depth c ends few enough = record {
  front = log;
  is_front = record { behind = []; parts = sym (append-nil log); enough = enough };
  depth = depth;
  ends = ap stop_of (ends-on_way steps (resumed_query (all_names (query_view log) later (program ++ q.helpers)) program q depth path) (Miss c) ends few);
}
