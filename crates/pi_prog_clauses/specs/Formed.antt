-- What the code's clause and its parts show.
use Rattle.std.specs.Prelude.{◌≡◌, if◌then◌else◌, Bool, true, false, List, [], ◌∷◌, Option, Some, None, is_some}
use Rattle.pi_syntax.specs.ExpLists.{exps_of}
use Rattle.pi_syntax.specs.ExpTree.{ExpTree, array, call, and, ExpTrees, no_exps, exp, exp_tree}
use Rattle.pi_syntax.specs.ProgramTree.{written_clause, events_between}
use Rattle.pi_syntax.specs.declared.exp.Exp.{Exp}
use Rattle.pi_syntax.specs.declared.program.Clause.{Clause}
use Rattle.pi_prog_clauses.specs.Shape.{Shape, equation, clause_of, shape_events, is_open, events_in, conditions, first_unit, other_units}
use Rattle.pi_syntax.specs.declared.exp.Apart.{Apart}
use Rattle.pi_syntax.specs.declared.exp.Apart.TheVariants as apart
use Rattle.pi_prog_clauses.specs.declared.clause.FormedClause.{FormedClause}
use Rattle.pi_prog_clauses.specs.declared.clause.Headed.{Headed}
use Rattle.pi_prog_clauses.specs.declared.clause.SplitUnits.{SplitUnits}
use Rattle.pi_prog_clauses.specs.declared.clause.Units.{Units}
use Rattle.pi_prog_clauses.specs.declared.clause.Headed.TheVariants as headed

-- whether a unit stands in braces
abbrev pub is_braces : ExpTree → Bool
is_braces (array es) = true
is_braces e = false

-- neither a conjunction nor an array nor a call
abbrev pub is_other : ExpTree → Bool
is_other (and es) = false
is_other (array es) = false
is_other (call name es) = false
is_other e = true

abbrev pub ShowsApart : Apart → ExpTree → Type 0
ShowsApart (apart.Conjunction es) e = e ≡ and (exps_of es.items)
ShowsApart (apart.Array es) e = e ≡ array (exps_of es.items)
ShowsApart (apart.Call name es) e = e ≡ call name (exps_of es.items)
ShowsApart (apart.Other x) e = (exp_tree x ≡ e) × (is_other e ≡ true)

-- the trees of these with one more at the end
abbrev pub exps_of_before : List Exp → ExpTree → ExpTrees
exps_of_before [] e = exp e no_exps
exps_of_before (x ∷ xs) e = exp (exp_tree x) (exps_of_before xs e)

-- head and value, or an expression that is no equation
abbrev pub ShowsHeaded : Headed → ExpTree → Type 0
ShowsHeaded (headed.Equation head value) e = equation e ≡ Some (record { head = exp_tree head; value = exp_tree value })
ShowsHeaded (headed.Alone x) e = (exp_tree x ≡ e) × (equation e ≡ None)

-- the first unit and the others
pub record IsUnits (u : Units) (es : ExpTrees) : Type 0 where
  pub first : exp_tree u.first ≡ first_unit es
  pub others : exps_of u.others.items ≡ other_units es

-- the conditions and the events
pub record IsSplit (s : SplitUnits) (es : ExpTrees) : Type 0 where
  pub conditions : exps_of s.conditions.items ≡ conditions es
  pub events : events_in es ≡ (if s.has_events then Some (exps_of s.events.items) else None)
  pub no_events : s.has_events ≡ false → s.events.items ≡ []

-- the events of a rule
abbrev pub ShowsEvents : Clause → Option ExpTrees → Type 0
ShowsEvents (Clause.Rule boxed) (Some es) = exps_of (events_between boxed.value.between) ≡ es
ShowsEvents c es = Unit {0}

-- the clause of a shape
pub record IsFormed (f : FormedClause) (s : Shape) : Type 0 where
  pub clause : written_clause f.clause ≡ clause_of s
  pub open_arrow : f.is_open ≡ is_open s
  pub has_events : f.has_events ≡ is_some (shape_events s)
  pub events : ShowsEvents f.clause (shape_events s)
