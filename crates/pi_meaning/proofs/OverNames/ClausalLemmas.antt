-- Parts of a program without a clause count for nothing.
use Rattle.std.proofs.Common.{◌≡◌, ℕ, zero, suc, Bool, List, [], ◌∷◌, ◌++◌, refl, sym, ◌∙◌, ap}
use Rattle.std.proofs.Math.Path.{fun_ext}
use Rattle.std.specs.Prelude.{cond, codes, Option, Some, None, filter, filter_map}
use Rattle.std.specs.List.{cons_option, list_any}
use Rattle.pi_terms.specs.Tree.{comp, Trees, tree_count}
use Rattle.pi_constraints.specs.State.{State, bindings}
use Rattle.pi_syntax.specs.ExpTree.{ExpTree}
use Rattle.pi_syntax.specs.ProgramTree.{RuleTree, FunctionTree, WrittenClause, ProgramTree}
use Rattle.pi_syntax.specs.declared.program.Decl.{Decl}
use Rattle.pi_syntax.specs.declared.program.Mode.{Mode}
use Rattle.pi_traces.specs.Trace.{Trace, done, one, then}
use Rattle.pi_traces.specs.Control.{chosen}
use Rattle.pi_meaning.specs.Shared.Drain.{drained}
use Rattle.pi_meaning.specs.Shared.Raise.{raised_with}
use Rattle.pi_meaning.specs.CoreMeaning.Facts.{fits_modes}
use Rattle.pi_meaning.specs.Shared.Level.{Level, Applied, Calls, level_of, ticked}
use Rattle.pi_meaning.specs.OverNames.WrittenRules.{rule_in, is_rule_of}
use Rattle.pi_meaning.specs.OverNames.Telling.{telling}
use Rattle.pi_meaning.specs.OverNames.Place.{beginning}
use Rattle.pi_meaning.specs.Shared.View.{View}
use Rattle.pi_meaning.specs.OverNames.Stages.{LaterStages, RulesSetting}
use Rattle.pi_meaning.specs.OverNames.Control.{strictly}
use Rattle.pi_meaning.specs.OverNames.Goals.{goal_of}
use Rattle.pi_meaning.specs.OverNames.Rules.{predicate_head, fact_head, function_in, is_head_of, heads_named, first_modes, modes_before, modes_named, rules_called, facts_called, functions_called, calls_by, level_for, predicate_run, function_run, call_made}
use Rattle.pi_core.specs.CoreTree.{index_of}
use Rattle.pi_meaning.specs.OverNames.Prelude.{prelude}
use Rattle.pi_meaning.specs.OverNames.Run.{is_some_head, setting, answer_names, names_from, names_trace}
use Rattle.pi_meaning.specs.OverNames.Laws.{clausal, ClausesCountAlone}

part-kept : {X : Type 0} (g : Option WrittenClause → Option X) → g None ≡ None → (d : Decl) (c : Option WrittenClause) (ps : ProgramTree) →
    filter_map (λ p. g p.clause) (clausal ps) ≡ filter_map (λ p. g p.clause) ps →
    filter_map (λ p. g p.clause) (clausal (record { decl = d; clause = c } ∷ ps)) ≡ filter_map (λ p. g p.clause) (record { decl = d; clause = c } ∷ ps)
part-kept g none d None ps same = same ∙ sym (ap (λ o. cons_option o (filter_map (λ p. g p.clause) ps)) none)
part-kept g none d (Some c) ps same = ap (cons_option (g (Some c))) same

parts-kept : {X : Type 0} (g : Option WrittenClause → Option X) → g None ≡ None → (ps : ProgramTree) → filter_map (λ p. g p.clause) (clausal ps) ≡ filter_map (λ p. g p.clause) ps
parts-kept g none [] = refl
parts-kept g none (p ∷ ps) = part-kept g none p.decl p.clause ps (parts-kept g none ps)

mode-kept : (name : List ℕ) (k : ℕ) (d : Decl) (c : Option WrittenClause) (ps : ProgramTree) → modes_named name k (clausal ps) ≡ modes_named name k ps →
    modes_named name k (clausal (record { decl = d; clause = c } ∷ ps)) ≡ modes_named name k (record { decl = d; clause = c } ∷ ps)
unfolding modes_named
mode-kept name k Decl.Plain None ps same = same
mode-kept name k (Decl.Import names) None ps same = same
mode-kept name k (Decl.Index lists) None ps same = same
mode-kept name k d (Some c) ps same = ap (first_modes (modes_before name k (record { decl = d; clause = Some c }) (index_of d))) same

modes-kept : (name : List ℕ) (k : ℕ) (ps : ProgramTree) → modes_named name k (clausal ps) ≡ modes_named name k ps
modes-kept name k [] = refl
modes-kept name k (p ∷ ps) = mode-kept name k p.decl p.clause ps (modes-kept name k ps)

run-kept : (set : RulesSetting) (ps : ProgramTree) (l : Level) (name : List ℕ) (ts : Trees) (s : State) (o : Option (List (List Mode))) →
    predicate_run set (clausal ps) name (call_made l ts s) o ≡ predicate_run set ps name (call_made l ts s) o
run-kept set ps l name ts s None =
    ap (λ (rs : List RuleTree). rules_called set (comp name ts) 0 (filter (is_rule_of name (tree_count ts)) rs) (call_made l ts s)) (parts-kept rule_in refl ps)
run-kept set ps l name ts s (Some lists) =
    ap (λ (fs : List ExpTree). cond (list_any (λ modes. fits_modes (bindings s) modes ts) lists) (facts_called (filter (is_head_of name (tree_count ts)) fs) ts s) done) (parts-kept fact_head refl ps)

called-kept : (set : RulesSetting) (ps : ProgramTree) (name : List ℕ) (ts : Trees) (s : State) (l : Level) →
    predicate_run set (clausal ps) name (call_made l ts s) (modes_named name (tree_count ts) (clausal ps)) ≡ predicate_run set ps name (call_made l ts s) (modes_named name (tree_count ts) ps)
called-kept set ps name ts s l =
    ap (λ (o : Option (List (List Mode))). predicate_run set (clausal ps) name (call_made l ts s) o) (modes-kept name (tree_count ts) ps)
    ∙ run-kept set ps l name ts s (modes_named name (tree_count ts) ps)

applied-kept : (set : RulesSetting) (ps : ProgramTree) (name : List ℕ) (ts : Trees) (s : State) (l : Level) → function_run set (clausal ps) l name ts s ≡ function_run set ps l name ts s
applied-kept set ps name ts s l =
    ap (λ (fs : List FunctionTree). chosen (functions_called set (filter (λ f. is_head_of name (tree_count ts) f.head) fs) l ts s) (λ a. one a)
    (raised_with (codes "unresolved_function_call") (comp name ts) s)) (parts-kept function_in refl ps)

-- calls by what they do
calls-with : (List ℕ → Trees → State → Trace State) → (List ℕ → Trees → State → Trace Applied) → Calls
calls-with called applied = record { called = called; applied = applied; drained = λ s. drained s }

calls-kept : (set : RulesSetting) (ps : ProgramTree) (below : Option Level) → calls_by set (clausal ps) below ≡ calls_by set ps below
unfolding calls_by calls-with
calls-kept set ps below =
    ap (λ f. calls-with f (λ name ts s. ticked below (λ l. function_run set (clausal ps) l name ts s)))
    (fun_ext (λ name. fun_ext (λ ts. fun_ext (λ s. ap (ticked below) (fun_ext (called-kept set ps name ts s))))))
    ∙ ap (calls-with (λ name ts s. ticked below (λ l. predicate_run set ps name (call_made l ts s) (modes_named name (tree_count ts) ps))))
    (fun_ext (λ name. fun_ext (λ ts. fun_ext (λ s. ap (ticked below) (fun_ext (applied-kept set ps name ts s))))))

level-kept : (set : RulesSetting) (ps : ProgramTree) (d : ℕ) → level_for set (clausal ps) d ≡ level_for set ps d
unfolding level_for
level-kept set ps zero = ap (λ (c : Calls). level_of c None) (calls-kept set ps None)
level-kept set ps (suc d) =
    ap (λ (l : Level). level_of (calls_by set (clausal ps) (Some l)) (Some l)) (level-kept set ps d)
    ∙ ap (λ (c : Calls). level_of c (Some (level_for set ps d))) (calls-kept set ps (Some (level_for set ps d)))

-- each part of the prelude has a clause
prelude-clausal : (ps : ProgramTree) → clausal (prelude ++ ps) ≡ prelude ++ clausal ps
unfolding prelude
prelude-clausal ps = refl

defines-kept : (ps : ProgramTree) (name : List ℕ) (k : ℕ) → is_some_head (heads_named name k (prelude ++ clausal ps)) ≡ is_some_head (heads_named name k (prelude ++ ps))
defines-kept ps name k =
    ap (λ (qs : ProgramTree). is_some_head (heads_named name k qs)) (sym (prelude-clausal ps))
    ∙ ap (λ (hs : List ExpTree). is_some_head (filter (is_head_of name k) hs)) (parts-kept predicate_head refl (prelude ++ ps))

-- a setting by its predicates
abbrev setting-with : View → LaterStages → (List ℕ → ℕ → Bool) → RulesSetting
setting-with v later defines = record { calls = record { view = v; later = later.calls; defines = defines }; agent = later.agent }

setting-kept : (v : View) (later : LaterStages) (ps : ProgramTree) → setting v later (clausal ps) ≡ setting v later ps
setting-kept v later ps = ap (setting-with v later) (fun_ext (λ name. fun_ext (λ k. defines-kept ps name k)))

pub clauses-count_alone : ClausesCountAlone
unfolding names_trace names_from
clauses-count_alone v later program goal d =
    sym (ap (λ (set : RulesSetting). then (strictly (goal_of set.calls [] goal) (level_for set (prelude ++ clausal program) d) beginning) (telling (answer_names goal))) (setting-kept v later program)
    ∙ ap (λ (l : Level). then (strictly (goal_of (setting v later program).calls [] goal) l beginning) (telling (answer_names goal)))
    (ap (λ (qs : ProgramTree). level_for (setting v later program) qs d) (sym (prelude-clausal program)) ∙ level-kept (setting v later program) (prelude ++ program) d))
