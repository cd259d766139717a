-- The laws of the paths of the core language.
use Rattle.std.specs.Prelude.{◌≡◌, ℕ, pos, codes, false, List, [], ◌∷◌, ◌++◌, Option, Some, None, option_map, unwrap_or}
use Rattle.std.proofs.Common.{sym, subst, append-nil}
use Rattle.pi_resume_spec.specs.Ways.{Ways}
use Rattle.pi_resume_spec.specs.Resumed.{Following, on_way, reached, cut_off, bad, resumed, Leads}
use Rattle.pi_resume_spec.specs.ByName.{all_names}
use Rattle.pi_resume_spec.specs.Queries.{query_search}
use Rattle.pi_resume_spec.specs.LanguageLaws.{OneAtMost, BuiltIsLater, SoundIsCommitted, PathsAddNothing, GoalsAddNothing, AnswersHaveTheirPaths, RunsResume}
use Rattle.pi_resume_spec.proofs.ApartLemmas.{no_two_paths_are_one}
use Rattle.pi_resume_spec.proofs.PlainGoals.{goal-plain}
use Rattle.pi_resume_spec.proofs.PlainRules.{query-plain}
use Rattle.pi_resume_spec.proofs.PlainNames.{names-plain}
use Rattle.pi_resume_spec.proofs.GuidedGoals.{query-guided}
use Rattle.pi_resume_spec.proofs.GuidedNames.{one-effect, names-offered}
use Rattle.pi_terms.specs.Tree.{Trees, atom, int, comp, no_trees, tree, tree_count}
use Rattle.pi_constraints.specs.State.{State}
use Rattle.pi_core.specs.CoreTree.{backtracks, ClauseTree}
use Rattle.pi_effects.specs.Effect.{Effect, FunctionEffect, Gives, Refuses}
use Rattle.pi_settling.specs.DomainValues.{domain_function}
use Rattle.pi_settling.specs.Goals.{constraint_effect}
use Rattle.pi_traces.specs.Trace.{Trace, Raise, Done, done}
use Rattle.pi_meaning.specs.Shared.View.{View}
use Rattle.pi_meaning.specs.Shared.Builtin.{settled_effect, function_trace}
use Rattle.pi_meaning.specs.Shared.Level.{Applied}
use Rattle.pi_meaning.specs.Shared.Calls.{unknown_name}
use Rattle.pi_resume_spec.proofs.GuidedLemmas.{one-end, one-one}
use Rattle.pi_resume_spec.proofs.SolvePlain.{built-plain, others-alone}
use Rattle.pi_resume_spec.proofs.SolveGuided.{solve-guided}

-- ---- what is asked

one-built : (v : View) (name : List ℕ) (ts : Trees) (s : State) (o : Option Effect) → OneAtMost (unwrap_or (option_map (settled_effect v s) o) (unknown_name name (tree_count ts)))
one-built v name ts s None = one-end State (Raise (comp (codes "unknown_name") (tree (atom name) (tree (int (pos (tree_count ts))) no_trees))))
one-built v name ts s (Some e) = one-effect v s e

one-value : (o : Option FunctionEffect) → OneAtMost (unwrap_or (option_map function_trace o) done)
one-value None = one-end Applied Done
one-value (Some (Gives t s)) = one-one (record { value = t; state = s })
one-value (Some (Refuses ball)) = one-end Applied (Raise ball)

pub built-is-later : BuiltIsLater
built-is-later = record {
  plain = λ v l name ts s is. built-plain v l name ts s is;
  guided = λ v l h name ts s is. solve-guided l h name ts s;
  others = λ v l name ts s is. subst (λ (t : Trace State). OneAtMost t) (sym (others-alone v l name ts s is)) (one-built v name ts s (constraint_effect name ts s));
  functions = λ name ts s. one-value (domain_function name ts s);
}

backtracks-none : (c : ClauseTree) → c.back ≡ false → c.watches ≡ [] → backtracks c.back c.watches ≡ false
backtracks-none c a b = cc

pub sound-is-committed : SoundIsCommitted
sound-is-committed preds sound pred has quiet c within =
    let h = (sound.clauses pred has c within).quiet quiet in
    backtracks-none c h.0 h.1

pub paths-add-nothing : PathsAddNothing
paths-add-nothing v later is program q committed d =
    query-plain (all_names v later (program ++ q.helpers)) (names-plain v later is (program ++ q.helpers)) program q committed d

pub goals-add-nothing : GoalsAddNothing
goals-add-nothing v later is preds g p = goal-plain (all_names v later preds) (names-plain v later is preds) g p

pub answers-have-their-paths : AnswersHaveTheirPaths
answers-have-their-paths v later is program q d =
    let g = query-guided (all_names v later (program ++ q.helpers)) (names-offered v later is (program ++ q.helpers)) program q d in
    (g.apart, no_two_paths_are_one (query_search (all_names v later (program ++ q.helpers)) program q d).ways g.apart)

leads-resumed : {A : Type 0} (f : Following A) (path : List ℕ) (x : A) (rest : Ways A) → Leads f path x [] rest → Leads (resumed f) path x [] rest
unfolding Leads resumed
leads-resumed (on_way n f) path x rest h = leads-resumed f path x rest h
leads-resumed (reached made y [] later) path x rest h = h
leads-resumed (reached made y (n ∷ left) later) path x rest h = absurd (cc)
leads-resumed (cut_off e) path x rest h = h
leads-resumed bad path x rest h = h

pub runs-resume : RunsResume
runs-resume v later is program q d w rest at =
    let s = query_search (all_names v later (program ++ q.helpers)) program q d in
    let g = query-guided (all_names v later (program ++ q.helpers)) (names-offered v later is (program ++ q.helpers)) program q d in
    leads-resumed (s.follows w.path) w.path w.answer rest (subst (λ (p : List ℕ). Leads (s.follows p) w.path w.answer [] rest) (append-nil w.path) (g.resumes w rest [] at))
