-- One-way matching in a state: a pattern against a term whose variables may be bound. It goes by the term's value, as
-- `Match` says of values; a slot takes the part of the term as it stands, with bound variables in it, so that a later
-- goal meets the same variables as the caller.
use Rattle.std.specs.Prelude.{◌≡◌, ℕ, nat_lt, cond, List, [], map, Option, Some, None, length, slice_set, option_and_then, option_map}
use Rattle.std.specs.Ordering.{is_eq}
use Rattle.pi_terms.specs.Tree.{Tree, var, int, atom, comp, Trees, no_trees, tree, args}
use Rattle.pi_terms.specs.Places.{Places, held}
use Rattle.pi_terms.specs.Order.{name_order, identical}
use Rattle.pi_terms.specs.PatternTree.{PatternTree, slot, exact_int, exact_atom, compound, named, PatternTrees, no_patterns, pattern}
use Rattle.pi_constraints.specs.Value.{Bindings, value, IsAcyclic}
use Rattle.pi_constraints.specs.State.{followed}
use Rattle.pi_constraints.specs.Match.{matched, matched_all}

-- an empty slot takes the term; a filled one takes a term of the same value
abbrev pub taken_in : Bindings → Option Tree → Places → ℕ → Tree → Option Places
taken_in b (Some u) e k t = cond (identical (value b u) (value b t)) (Some e) None
taken_in b None e k t = cond (nat_lt k (length e)) (Some (slice_set e k (Some t))) None

abbrev pub filled_in : Bindings → ℕ → Tree → Places → Option Places
filled_in b k t e = taken_in b (held e k) e k t

-- a compound takes a compound of its name with arguments that match from the left
abbrev pub compound_in : (Trees → Option Places) → List ℕ → Tree → Option Places
compound_in arguments f (var n) = None
compound_in arguments f (int n) = None
compound_in arguments f (atom name) = None
compound_in arguments f (comp g ts) = cond (is_eq (name_order f g)) (arguments ts) None

-- the slots after the pattern is matched against the term, from the left
unfoldable mutual
  pub matched_in : Bindings → PatternTree → Tree → Places → Option Places
  matched_in b (slot k) t e = filled_in b k t e
  matched_in b (exact_int n) t e = cond (identical (int n) (followed b t)) (Some e) None
  matched_in b (exact_atom name) t e = cond (identical (atom name) (followed b t)) (Some e) None
  matched_in b (compound f ps) t e = compound_in (λ ts. matched_all_in b ps ts e) f (followed b t)
  matched_in b (named k p) t e = option_and_then (matched_in b p t) (filled_in b k t e)

  pub matched_all_in : Bindings → PatternTrees → Trees → Places → Option Places
  matched_all_in b no_patterns no_trees e = Some e
  matched_all_in b no_patterns (tree t ts) e = None
  matched_all_in b (pattern p ps) no_trees e = None
  matched_all_in b (pattern p ps) (tree t ts) e = option_and_then (matched_all_in b ps ts) (matched_in b p t e)

-- what the slots hold, with all bindings replaced
abbrev pub slot_values : Bindings → Places → Places
slot_values b e = map (option_map (value b)) e

-- it is matching of values
abbrev pub MatchesByValue : Type 0
MatchesByValue = (b : Bindings) (p : PatternTree) (t : Tree) (e : Places) → IsAcyclic b →
    option_map (slot_values b) (matched_in b p t e) ≡ matched p (value b t) (slot_values b e)

-- so it is of the patterns of a head and the arguments of a call, whose values are the arguments of the call's value
abbrev pub HeadMatchesByValue : Type 0
HeadMatchesByValue = (b : Bindings) (ps : PatternTrees) (ts : Trees) (e : Places) → IsAcyclic b →
    option_map (slot_values b) (matched_all_in b ps ts e) ≡ matched_all ps (args (value b (comp [] ts))) (slot_values b e)
