-- What a search by learned clauses adds to the load of `sat_solve`, which bounds what it learns. (Own.)
use Rattle.std.specs.Prelude.{ℕ, zero, suc, ◌*◌, List, [], ◌∷◌, ◌++◌, Option, Some, None, flat_map, filter_map, map, sum_by, length}
use Rattle.pi_terms.specs.Tree.{Tree, var, int, atom, comp}
use Rattle.pi_terms.specs.Places.{held}
use Rattle.pi_terms.specs.Variables.{firsts}
use Rattle.pi_constraints.specs.declared.constraint.Item.{Item}
use Rattle.pi_prop_spec.specs.Places.{places_of}
use Rattle.pi_constraints.specs.Value.{Bindings}
use Rattle.pi_constraints.specs.State.{State, bindings}
use Rattle.pi_settling.specs.Load.{count_values}

abbrev pub variable_in : Item → Option ℕ
variable_in (Item.Var n) = Some n
variable_in (Item.Int i) = None

-- the variables among items, each once, as they stand there
abbrev pub variables_in : List Item → List ℕ
variables_in xs = firsts (filter_map variable_in xs)

abbrev pub way_on : (ℕ → List ℕ) → Option Tree → List ℕ
way_on way None = []
way_on way (Some (var m)) = way m
way_on way (Some (int i)) = []
way_on way (Some (atom name)) = []
way_on way (Some (comp name ts)) = []

-- a variable and those that it is bound to, directly or through so many others at most
unfoldable pub way_for : ℕ → Bindings → ℕ → List ℕ
way_for zero b n = n ∷ []
way_for (suc k) b n = n ∷ way_on (way_for k b) (held b n)

-- The variables that a search is given, each once: those of `sat_solve` and of the posted constraints, and those that these are bound to.
abbrev pub searched : State → List Item → List ℕ
searched s xs = firsts (flat_map (way_for (length (bindings s)) (bindings s)) (variables_in (xs ++ flat_map places_of s.constraints)))

-- how many values a variable has, taken through its bindings
abbrev pub values_of_variable : State → ℕ → ℕ
values_of_variable s n = count_values s (Item.Var n)

-- of so many values each: a product of squares of one more
unfoldable pub squares : List ℕ → ℕ
squares [] = 1
squares (n ∷ ns) = (suc n * suc n) * squares ns

-- (1 + v)*p: v is the number of values of the variables of `sat_solve`, and p bounds the log of one search
unfoldable pub search_load : State → List Item → ℕ
search_load s xs = suc (sum_by (values_of_variable s) (variables_in xs)) * squares (map (values_of_variable s) (searched s xs))
