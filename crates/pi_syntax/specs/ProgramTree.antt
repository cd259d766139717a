-- Programs and goals as they are written, as trees: parts in the order of the text, over the trees of their expressions (A
-- User's Guide to Picat, 'Predicates and Functions', and for events 'Action Rules').
use Rattle.std.specs.Prelude.{Bool, List, [], map, Option, None, Some, option_map}
use Rattle.std.specs.declared.alloc.Global.{Global}
use Rattle.std.specs.declared.boxed.Box.{Box}
use Rattle.pi_syntax.specs.ExpTree.{ExpTree, exp_tree}
use Rattle.pi_syntax.specs.declared.exp.Exp.{Exp}
use Rattle.pi_syntax.specs.declared.program.Clause.{Clause}
use Rattle.pi_syntax.specs.declared.program.RuleClause.{RuleClause}
use Rattle.pi_syntax.specs.declared.program.Between.{Between}
use Rattle.pi_syntax.specs.declared.program.Between.TheVariants as between
use Rattle.pi_syntax.specs.declared.program.FunctionClause.{FunctionClause}
use Rattle.pi_syntax.specs.declared.program.FunctionBody.{FunctionBody}
use Rattle.pi_syntax.specs.declared.program.Decl.{Decl}
use Rattle.pi_syntax.specs.declared.program.Part.{Part}
use Rattle.pi_syntax.specs.declared.program.Program.{Program}
use Rattle.pi_syntax.specs.declared.program.Goal.{Goal}

-- a predicate's rule
pub record RuleTree : Type 0 where
  pub head : ExpTree
  pub cond : Option ExpTree
  pub events : List ExpTree
  -- later rules stay as alternatives where this one applies
  pub back : Bool
  pub body : ExpTree

-- a function's rule or, without condition and body, its fact
pub record FunctionTree : Type 0 where
  pub head : ExpTree
  pub value : ExpTree
  pub cond : Option ExpTree
  pub body : Option ExpTree

pub data WrittenClause : Type 0 where
  rule : RuleTree → WrittenClause
  function : FunctionTree → WrittenClause
  -- of a predicate behind its `index`: its head
  fact : ExpTree → WrittenClause

-- what stands between two end points: a declaration, and a clause behind it
pub record PartTree : Type 0 where
  pub decl : Decl
  pub clause : Option WrittenClause

abbrev pub ProgramTree : Type 0
ProgramTree = List PartTree

-- the condition between a rule's head and its arrow, and the events there
abbrev pub cond_between : Between → Option Exp
cond_between between.Nothing = None
cond_between (between.Condition boxed) = Some boxed.value
cond_between (between.Triggers boxed) = boxed.value.cond

abbrev pub events_between : Between → List Exp
events_between between.Nothing = []
events_between (between.Condition boxed) = []
events_between (between.Triggers boxed) = boxed.value.events.items

abbrev pub rule_tree : RuleClause → RuleTree
rule_tree r = record { head = exp_tree r.head; cond = option_map exp_tree (cond_between r.between); events = map exp_tree (events_between r.between); back = r.back; body = exp_tree r.body }

-- the condition behind a function's value, and the body there
abbrev pub cond_behind : Option (Box FunctionBody Global) → Option Exp
cond_behind None = None
cond_behind (Some behind) = behind.value.cond

abbrev pub body_behind : Option (Box FunctionBody Global) → Option Exp
body_behind None = None
body_behind (Some behind) = Some behind.value.body

abbrev pub function_tree : FunctionClause → FunctionTree
function_tree f = record { head = exp_tree f.head; value = exp_tree f.value; cond = option_map exp_tree (cond_behind f.behind); body = option_map exp_tree (body_behind f.behind) }

abbrev pub written_clause : Clause → WrittenClause
written_clause (Clause.Rule boxed) = rule (rule_tree boxed.value)
written_clause (Clause.Function boxed) = function (function_tree boxed.value)
written_clause (Clause.Fact head) = fact (exp_tree head.value)

abbrev pub part_tree : Part → PartTree
part_tree p = record { decl = p.decl; clause = option_map written_clause p.clause }

-- the tree that a program is, and that a goal is
abbrev pub source_tree : Program → ProgramTree
source_tree p = map part_tree p.parts

abbrev pub goal_source : Goal → ExpTree
goal_source g = exp_tree g.body
