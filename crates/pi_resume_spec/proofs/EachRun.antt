-- With what is built of later stages each sound query has its run that tells paths, and its resumed run from each path.
use Rattle.std.specs.Prelude.{◌≡◌, ℕ, zero, suc, Bool, true, false, cond, nat_lt, List, ◌++◌, length, refl}
use Rattle.std.proofs.Common.{ap}
use Rattle.pi_core.specs.CoreTree.{PredTree, QueryTree}
use Rattle.pi_traces.specs.Trace.{end, note, ans, Deep, Tick, Load, Out}
use Rattle.pi_traces.specs.Depth.{Ended, cut}
use Rattle.pi_traces.proofs.LastLemmas.{Any, cut-lasts}
use Rattle.pi_meaning.specs.Shared.View.{View, query_view}
use Rattle.pi_resume_spec.specs.Ways.{Way, Ways}
use Rattle.pi_resume_spec.specs.Resumed.{a_tick, a_load, Following, on_way, reached, cut_off, bad}
use Rattle.pi_resume_spec.specs.Longest.{path_too_long, told_paths, told_behind}
use Rattle.pi_resume_spec.specs.ResumedCut.{ResumedStop, stops, bad_path, resumed_cut}
use Rattle.pi_resume_spec.specs.ByName.{Offers, built_searches, all_names}
use Rattle.pi_resume_spec.specs.Queries.{query_search, resumed_query}
use Rattle.pi_resume_spec.specs.PathRuns.{path_trace, resumed_trace}
use Rattle.pi_resume_spec.specs.ResumedWork.{stop_of}
use Rattle.pi_resume_spec.specs.RunLaws.{SoundQueriesTellPaths, SoundQueriesAreResumed, SoundQueriesReach}
use Rattle.pi_resume_spec.proofs.LastLemmas.{OnWay}
use Rattle.pi_resume_spec.proofs.LastRules.{twice, query-lasts}
use Rattle.pi_resume_spec.proofs.LastNames.{names-last, resumed-reaches}

-- where paths are told a cut comes to Deep only where it does without that
told-if : {A : Type 0} (n : ℕ) (b : Bool) (w : Way A) (t u : Ways A) → ((cut n t).stop ≡ Ended Deep → (cut n u).stop ≡ Ended Deep) →
    (cut n (cond b (end path_too_long) (ans w t))).stop ≡ Ended Deep → (cut n (ans w u)).stop ≡ Ended Deep
unfolding cut
told-if n true w t u later h = absurd cc
told-if n false w t u later h = later h

told-deep : {A : Type 0} (n most : ℕ) (t : Ways A) → (cut n (told_paths most t)).stop ≡ Ended Deep → (cut n t).stop ≡ Ended Deep
unfolding told_paths cut
told-deep n most (end e) h = h
told-deep zero most (note Tick t) h = absurd cc
told-deep (suc n) most (note Tick t) h = told-deep n most t h
told-deep n most (note (Load k) t) h = told-deep n most t h
told-deep n most (note (Out text) t) h = told-deep n most t h
told-deep n most (ans w t) h = told-if n (nat_lt most (length w.path)) w (told_paths most t) t (told-deep n most t) h

behind-deep : {A : Type 0} (n most : ℕ) (f : Following A) → (resumed_cut n (told_behind most f)).stop ≡ stops (Ended Deep) → (resumed_cut n f).stop ≡ stops (Ended Deep)
unfolding told_behind resumed_cut
behind-deep n most (reached made x left later) h = ap stops (told-deep n most later (ap stop_of h))
behind-deep n most (cut_off e) h = h
behind-deep n most bad h = h
behind-deep zero most (on_way a_tick f) h = h
behind-deep (suc n) most (on_way a_tick f) h = behind-deep n most f h
behind-deep n most (on_way (a_load k) f) h = behind-deep n most f h

stop-deep : (s : ResumedStop) → stop_of s ≡ Ended Deep → s ≡ stops (Ended Deep)
stop-deep (stops s) e = ap stops e
stop-deep bad_path e = absurd cc

abbrev alone : View → List PredTree → QueryTree → Offers
alone v program q = all_names v built_searches (program ++ q.helpers)

pub sound-tell : SoundQueriesTellPaths
sound-tell most v program q sound n =
    let preds : List PredTree = program ++ q.helpers in
    let d : ℕ = twice (suc n) in
    let lasts = query-lasts (alone v program q) program q sound.preds.ticks (names-last v preds sound.preds.ticks) (suc n) in
    let t : Ways _ = (query_search (alone v program q) program q d).ways in
    (cut n (path_trace most (alone v program q) program q d), record { depth = d; reaches = λ e. cut-lasts (OnWay Any) n t lasts.ways (told-deep n most t e); is_cut = refl })

pub sound-resumed : SoundQueriesAreResumed
sound-resumed most v program q sound path n =
    let r = resumed-reaches v program q sound.preds.ticks path n in
    let f : Following _ = resumed_query (alone v program q) program q r.0 path in
    (resumed_cut n (resumed_trace most (alone v program q) program q path r.0), record { depth = r.0; reaches = λ e. r.1 (behind-deep n most f e); is_cut = refl })

pub sound-reach : SoundQueriesReach
sound-reach program q sound path steps log =
    let r = resumed-reaches (query_view log) program q sound.preds.ticks path steps in
    (r.0, λ e. r.1 (stop-deep (resumed_cut steps (resumed_query (alone (query_view log) program q) program q r.0 path)).stop e))
