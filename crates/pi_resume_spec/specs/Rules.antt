-- What a call of the program's predicates does, as a search, at each depth: the number of a rule or fact that it takes is a choice, in the order of the text. A quiet
-- predicate, which is made for a loop and has committed rules alone, makes none by itself. (Own.)
use Rattle.std.specs.Prelude.{ℕ, zero, suc, ◌+◌, Bool, true, false, cond, List, [], ◌∷◌, length, map, replicate, Option, Some, None, option_and_then, option_map}
use Rattle.std.specs.List.{list_any}
use Rattle.std.specs.Prelude.{not as opposite}
use Rattle.pi_terms.specs.Tree.{Tree, comp, Trees, tree_count}
use Rattle.pi_terms.specs.Places.{Places}
use Rattle.pi_constraints.specs.State.{State, bindings}
use Rattle.pi_constraints.specs.HeadMatch.{matched_all_in}
use Rattle.pi_core.specs.GoalTree.{GoalTree, truth}
use Rattle.pi_core.specs.CoreTree.{backtracks, find_pred, ClauseTree, PredTree}
use Rattle.pi_core.specs.declared.core_program.SlotWatch.{SlotWatch}
use Rattle.pi_syntax.specs.declared.program.Mode.{Mode}
use Rattle.pi_traces.specs.Trace.{Trace, done, one}
use Rattle.pi_meaning.specs.Shared.Settle.{settled_from}
use Rattle.pi_meaning.specs.Shared.Drain.{drained}
use Rattle.pi_meaning.specs.CoreMeaning.Facts.{fact_terms, unified_with, fits_modes}
use Rattle.pi_meaning.specs.CoreMeaning.Rules.{suspended, application_run}
use Rattle.pi_resume_spec.specs.Resumed.{Search, simple, sequence, alternatives, RuleSearch, rules_search, chosen_search}
use Rattle.pi_resume_spec.specs.Searches.{Searches, SearchLevel, Spot, plain_level, level_with, only, ticked_at, unticked_at}
use Rattle.pi_resume_spec.specs.ByName.{Offers}
use Rattle.pi_resume_spec.specs.Goals.{search, strict}

-- a rule's condition, a strict place; `truth` stands for none
abbrev pub guarded : Offers → GoalTree → Spot → Trace Spot
guarded b truth p = one p
guarded b g p = strict (search b g) p

-- where the head matches, the condition from there
abbrev pub applies_from : Offers → SearchLevel → ClauseTree → State → Option Places → Trace Spot
applies_from b l c s None = done
applies_from b l c s (Some e) = guarded b c.guard (record { level = l; slots = e; state = s })

-- how rules are tried: what is built in, the level, which of them aren't committed, and what the body of one does, by its number
pub record RulesBy (X : Type 0) : Type 0 where
  pub offers : Offers
  pub level : SearchLevel
  pub back : ClauseTree → Bool
  pub body : ℕ → ClauseTree → Spot → Search X

abbrev pub searched_by : {X : Type 0} → Offers → SearchLevel → (ClauseTree → Bool) → (ℕ → ClauseTree → Spot → Search X) → RulesBy X
searched_by b l back body = record { offers = b; level = l; back = back; body = body }

-- the rules in order
unfoldable pub rule_searches : {X : Type 0} → RulesBy X → ℕ → List ClauseTree → Trees → State → List (RuleSearch Spot X)
rule_searches by i [] ts s = []
rule_searches by i (c ∷ cs) ts s =
    record {
      applies = applies_from by.offers by.level c s (matched_all_in (bindings s) c.head ts (replicate c.slots None));
      committed = opposite (by.back c);
      body = by.body i c;
    } ∷ rule_searches by (suc i) cs ts s

-- rules that are all committed and whose numbers count for nothing: the first that applies
unfoldable pub quiet_search : {X A : Type 0} → List (RuleSearch X A) → Search A
quiet_search [] = simple done
quiet_search (r ∷ rs) = chosen_search r.applies r.body (quiet_search rs)

abbrev pub by_rules : {X A : Type 0} → Bool → List (RuleSearch X A) → Search A
by_rules true rs = quiet_search rs
by_rules false rs = rules_search rs

abbrev pub body_search : Offers → ClauseTree → Spot → Search State
body_search b c p = sequence (search b c.body p) (λ q. only q.state)

-- an action rule has one answer, in which the call is a new agent
abbrev pub body_or_agent : Offers → Tree → ℕ → ClauseTree → List SlotWatch → Spot → Search State
body_or_agent b the_call i c [] p = body_search b c p
body_or_agent b the_call i c (w ∷ ws) p = only (suspended the_call i (w ∷ ws) p.slots p.state)

abbrev pub rules_of : Offers → SearchLevel → List ℕ → Trees → RulesBy State
rules_of b l name ts = searched_by b l (λ c. backtracks c.back c.watches) (λ i c p. body_or_agent b (comp name ts) i c c.watches p)

-- facts, each a choice, whether or not it unifies
abbrev pub fact_search : Trees → State → ClauseTree → Search State
fact_search ts s c = simple (settled_from s (option_and_then (unified_with ts) (fact_terms c.head (replicate c.slots None) s)))

abbrev pub facts_search : List (List Mode) → List ClauseTree → Trees → State → Search State
facts_search lists cs ts s = cond (list_any (λ modes. fits_modes (bindings s) modes ts) lists) (alternatives (map (fact_search ts s) cs)) (simple done)

unfoldable pub pred_search : Offers → SearchLevel → PredTree → Option (List (List Mode)) → Trees → State → Search State
pred_search b l pred None ts s =
    by_rules pred.quiet (rule_searches (rules_of b l pred.name ts) 0 pred.clauses ts s)
pred_search b l pred (Some lists) ts s = facts_search lists pred.clauses ts s

-- ---- calls, and levels

abbrev pub entered : {X : Type 0} → Bool → Option SearchLevel → Option SearchLevel → (SearchLevel → Search X) → Search X
entered true inner below f = unticked_at inner f
entered false inner below f = ticked_at below f

abbrev pub call_search : Offers → Option SearchLevel → Option SearchLevel → Option PredTree → Trees → State → Search State
call_search b inner below None ts s = simple done
call_search b inner below (Some pred) ts s = entered pred.quiet inner below (λ l. pred_search b l pred pred.index ts s)

-- what calls do, by the level for quiet calls and the level for all others
unfoldable pub searches_of : Offers → List PredTree → Option SearchLevel → Option SearchLevel → Searches
searches_of b preds inner below = record {
  called = λ name ts s. call_search b inner below (find_pred false name (tree_count ts) preds) ts s;
  applied = λ name ts s. application_run b.plain (option_map plain_level inner) (option_map plain_level below) (find_pred true name (tree_count ts) preds) ts s;
  drained = λ s. simple (drained s);
}

-- the level above another one, where so many quiet calls may nest
unfoldable pub quiet_level : Offers → List PredTree → Option SearchLevel → ℕ → SearchLevel
quiet_level b preds below zero = level_with (searches_of b preds None below) below
quiet_level b preds below (suc k) = level_with (searches_of b preds (Some (quiet_level b preds below k)) below) below

-- the level of a depth
unfoldable pub search_level : Offers → List PredTree → ℕ → SearchLevel
search_level b preds zero = quiet_level b preds None (length preds)
search_level b preds (suc d) = quiet_level b preds (Some (search_level b preds d)) (suc (length preds + d))
