-- What the code that lowers has made so far, against the definition.
use Rattle.std.specs.Prelude.{ℕ, suc, max, Bool, true, false, List, [], ◌∷◌, ◌++◌, ◌&&◌, length, replicate, Option, Some, None}
use Rattle.pi_core.specs.CoreTree.{PredTree}
use Rattle.pi_core.specs.declared.goal_node.GoalNode.{GoalNode}
use Rattle.pi_syntax.specs.ExpTree.{ExpTree}
use Rattle.pi_syntax.specs.ProgramTree.{WrittenClause, ProgramTree}
use Rattle.pi_syntax.specs.Signature.{Signature, signature}
use Rattle.pi_meaning.specs.OverNames.WrittenRules.{is_signature}
use Rattle.pi_meaning.specs.OverNames.Prelude.{prelude}
use Rattle.pi_rewrite_spec.specs.Clauses.{Lowering, named_by, same_kind, grouped, grouped_all}

-- predicates of which the last one may go on, and the clauses behind them
unfoldable pub lowered_behind : List PredTree → List Lowering → List PredTree
lowered_behind [] cs = grouped_all cs
lowered_behind (p ∷ []) cs = grouped p cs
lowered_behind (p ∷ q ∷ ps) cs = p ∷ lowered_behind (q ∷ ps) cs

-- whether a clause of this name goes on with a predicate or function
abbrev pub is_clause_named : PredTree → Bool → Signature → Bool
is_clause_named p function s = same_kind p.function function && is_signature p.name p.arity (Some s)

-- a node shows `truth`
abbrev pub is_true_node : GoalNode → Bool
is_true_node GoalNode.True = true
is_true_node n = false

-- ---- what helpers are called: they begin with `~`, once more than any name that is there has bytes

-- how many bytes the name of a head has
abbrev pub name_length : ExpTree → ℕ
name_length head = length (named_by (signature head)).name

abbrev pub head_length : Option WrittenClause → ℕ
head_length None = 0
head_length (Some (WrittenClause.rule r)) = name_length r.head
head_length (Some (WrittenClause.function f)) = name_length f.head
head_length (Some (WrittenClause.fact head)) = name_length head

-- the most that a head of these parts has, or so many where none has more
unfoldable pub longest_head : ℕ → ProgramTree → ℕ
longest_head most [] = most
longest_head most (p ∷ parts) = longest_head (max most (head_length p.clause)) parts

-- and that a predicate or function has
unfoldable pub longest_name : ℕ → List PredTree → ℕ
longest_name most [] = most
longest_name most (p ∷ preds) = longest_name (max most (length p.name)) preds

abbrev pub tildes : ℕ → List ℕ
tildes count = replicate count 126

-- of a program's helpers
abbrev pub program_prefix : ProgramTree → List ℕ
program_prefix program = tildes (suc (longest_head 0 (prelude ++ program)))

-- of those of a goal that is asked of a core program
abbrev pub query_prefix : List PredTree → List ℕ
query_prefix preds = tildes (suc (longest_name 0 preds))
