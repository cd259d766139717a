-- Facts: the clauses of a predicate behind its `index` (A User's Guide to Picat, 'Predicates and Functions'; that a call
-- fails which no mode list fits is own).
use Rattle.std.specs.Prelude.{ℕ, Bool, true, cond, ◌&&◌, List, [], ◌∷◌, Option, Some, None, option_and_then, option_map, replicate}
use Rattle.std.specs.List.{list_any}
use Rattle.pi_terms.specs.Tree.{Tree, int, atom, comp, Trees, no_trees, tree}
use Rattle.pi_terms.specs.Places.{Places, held}
use Rattle.pi_terms.specs.PatternTree.{PatternTree, slot, exact_int, exact_atom, compound, named, PatternTrees, no_patterns, pattern}
use Rattle.pi_constraints.specs.Value.{Bindings}
use Rattle.pi_constraints.specs.State.{State, bindings}
use Rattle.pi_constraints.specs.Unify.{unified}
use Rattle.pi_traces.specs.Trace.{Trace, done, alt}
use Rattle.pi_effects.specs.Kinds.{holds_no_variable}
use Rattle.pi_constraints.specs.Evaluation.{Evaluated, EvaluatedAll, slot_term}
use Rattle.pi_meaning.specs.Shared.Settle.{settled_from}
use Rattle.pi_core.specs.CoreTree.{ClauseTree}
use Rattle.pi_syntax.specs.declared.program.Mode.{Mode}

abbrev pub fits_mode : Bindings → Mode → Tree → Bool
fits_mode b Mode.Plus t = holds_no_variable b t
fits_mode b Mode.Minus t = true

-- a mode list fits a call: each place `+` holds no unbound variable
unfoldable pub fits_modes : Bindings → List Mode → Trees → Bool
fits_modes b [] ts = true
fits_modes b (m ∷ ms) no_trees = true
fits_modes b (m ∷ ms) (tree t ts) = fits_mode b m t && fits_modes b ms ts

-- The head of a fact is terms, read from the left with new variables. A named part is a variable that is made equal to
-- its term.

abbrev pub also_named : Evaluated → Evaluated → Option Evaluated
also_named whole part = option_map (λ s. record { tree = whole.tree; slots = part.slots; state = s }) (unified part.state whole.tree part.tree)

abbrev pub with_name : List ℕ → EvaluatedAll → Evaluated
with_name name all = record { tree = comp name all.trees; slots = all.slots; state = all.state }

abbrev pub in_front : Evaluated → EvaluatedAll → EvaluatedAll
in_front first rest = record { trees = tree first.tree rest.trees; slots = rest.slots; state = rest.state }

unfoldable mutual
  pub fact_term : PatternTree → Places → State → Option Evaluated
  fact_term (slot k) e s = Some (slot_term (held e k) k e s)
  fact_term (exact_int n) e s = Some (record { tree = int n; slots = e; state = s })
  fact_term (exact_atom name) e s = Some (record { tree = atom name; slots = e; state = s })
  fact_term (compound name ps) e s = option_map (with_name name) (fact_terms ps e s)
  fact_term (named k p) e s =
      let whole : Evaluated = slot_term (held e k) k e s in
      option_and_then (also_named whole) (fact_term p whole.slots whole.state)

  pub fact_terms : PatternTrees → Places → State → Option EvaluatedAll
  fact_terms no_patterns e s = Some (record { trees = no_trees; slots = e; state = s })
  fact_terms (pattern p ps) e s = option_and_then (λ first. option_map (in_front first) (fact_terms ps first.slots first.state)) (fact_term p e s)

-- the arguments of a call are unified with those of a fact: as two compounds of one name
abbrev pub unified_with : Trees → EvaluatedAll → Option State
unified_with ts all = unified all.state (comp [] ts) (comp [] all.trees)

-- one fact after the other, each unified with the call in the call's state and settled. Of a fact only the head counts, and
-- the number of its slots.
unfoldable pub facts : List ClauseTree → Trees → State → Trace State
facts [] ts s = done
facts (c ∷ cs) ts s = alt (settled_from s (option_and_then (unified_with ts) (fact_terms c.head (replicate c.slots None) s))) (facts cs ts s)

-- a call of a predicate of facts; it fails where no mode list fits, and which one does counts for nothing
abbrev pub facts_called : List (List Mode) → List ClauseTree → Trees → State → Trace State
facts_called lists cs ts s = cond (list_any (λ modes. fits_modes (bindings s) modes ts) lists) (facts cs ts s) done
