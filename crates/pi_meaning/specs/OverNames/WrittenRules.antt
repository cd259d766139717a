-- The rules of a program as it is written, which are those of a predicate, and of which predicates it has rules. (A User's Guide to Picat, 'Predicates and Functions'.)
use Rattle.std.specs.Prelude.{ℕ, ◌==◌, ◌&&◌, Bool, false, List, map, filter_map, Option, Some, None, Contains}
use Rattle.std.specs.Str.{bytes_eq}
use Rattle.pi_syntax.specs.ExpTree.{ExpTree, ExpTrees, no_exps}
use Rattle.pi_syntax.specs.ProgramTree.{RuleTree, WrittenClause, rule, function, fact, ProgramTree}
use Rattle.pi_syntax.specs.Signature.{Signature, signature}

-- the rule that a part has, where it has one
abbrev pub rule_in : Option WrittenClause → Option RuleTree
rule_in None = None
rule_in (Some (rule r)) = Some r
rule_in (Some (function f)) = None
rule_in (Some (fact head)) = None

-- the rules of a program, in order
abbrev pub rules_of : ProgramTree → List RuleTree
rules_of program = filter_map (λ p. rule_in p.clause) program

-- whether a rule is one of a predicate
abbrev pub is_signature : List ℕ → ℕ → Option Signature → Bool
is_signature name k None = false
is_signature name k (Some s) = bytes_eq s.name name && (s.arity == k)

abbrev pub is_rule_of : List ℕ → ℕ → RuleTree → Bool
is_rule_of name k r = is_signature name k (signature r.head)

-- the arguments of a head
abbrev pub head_arguments : ExpTree → ExpTrees
head_arguments (ExpTree.call name es) = es
head_arguments e = no_exps

-- the predicate that a part has a rule of
abbrev pub defined_by : Option WrittenClause → Option Signature
defined_by None = None
defined_by (Some (rule r)) = signature r.head
defined_by (Some (function f)) = None
defined_by (Some (fact head)) = None

-- the predicates of a program, part by part
abbrev pub heads : ProgramTree → List (Option Signature)
heads program = map (λ p. defined_by p.clause) program

-- a program with these heads has a rule of the predicate
abbrev pub Defines : List (Option Signature) → List ℕ → ℕ → Type 0
Defines defined name k = Contains defined (Some (record { name = name; arity = k }))
