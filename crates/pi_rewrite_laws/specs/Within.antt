-- Which programs and goals have a core program that keeps their meaning: rules, facts and functions, each of forms that are lowered, with a head whose name means nothing else, and the
-- clauses of each predicate and function together. And which names the helpers of loops may have. (Own.)
use Rattle.std.specs.Prelude.{◌≡◌, ◌⊎◌, ℕ, Bool, true, false, ◌||◌, List, [], ◌∷◌, ◌++◌, length, filter_map, Option, Some, None, IsSome, All, Contains, ⊤}
use Rattle.pi_syntax.specs.ExpTree.{ExpTree}
use Rattle.pi_syntax.specs.ProgramTree.{RuleTree, FunctionTree, WrittenClause, rule, function, fact, PartTree, ProgramTree}
use Rattle.pi_syntax.specs.Signature.{Signature, signature, exp_count}
use Rattle.pi_syntax.specs.declared.program.Mode.{Mode}
use Rattle.pi_core.specs.CoreTree.{PredTree, index_of}
use Rattle.pi_meaning.specs.Shared.Names.{is_given_predicate, is_given_function}
use Rattle.pi_meaning.specs.OverNames.WrittenRules.{head_arguments}
use Rattle.pi_meaning.specs.OverNames.Rules.{fact_head, is_head_in, rules_named, facts_named, heads_named, functions_named}
use Rattle.pi_meaning.specs.OverNames.Prelude.{prelude}
use Rattle.pi_meaning.specs.OverNames.Run.{is_some_head}
use Rattle.pi_rewrite_spec.specs.Forms.{Knows, IsExpression, IsGoal, ArePatterns}
use Rattle.pi_rewrite_spec.specs.Programs.{Naming}

abbrev pub is_some_function : List FunctionTree → Bool
is_some_function [] = false
is_some_function (f ∷ fs) = true

-- what a program defines
abbrev pub knows : ProgramTree → Knows
knows program = record {
  predicate = λ name k. is_some_head (heads_named name k program);
  function = λ name k. is_some_function (functions_named name k program);
}

abbrev pub IsGoalOrNone : Knows → Option ExpTree → Type 0
IsGoalOrNone known None = ⊤
IsGoalOrNone known (Some e) = IsGoal known e

pub record IsRule (known : Knows) (r : RuleTree) : Type 0 where
  pub head : ArePatterns (head_arguments r.head)
  pub cond : IsGoalOrNone known r.cond
  pub events : r.events ≡ []
  pub body : IsGoal known r.body

pub record IsFunction (known : Knows) (f : FunctionTree) : Type 0 where
  pub head : ArePatterns (head_arguments f.head)
  pub cond : IsGoalOrNone known f.cond
  pub body : IsGoalOrNone known f.body
  pub value : IsExpression known f.value

-- a clause is of something whose name means nothing else
pub record IsFree (head : ExpTree) : Type 0 where
  pub named : Signature
  pub is_named : signature head ≡ Some named
  pub free : is_given_predicate named.name named.arity || is_given_function named.name named.arity ≡ false

abbrev pub IsClause : Knows → Option WrittenClause → Type 0
IsClause known None = ⊤
IsClause known (Some (rule r)) = IsRule known r × IsFree r.head
IsClause known (Some (function f)) = IsFunction known f × IsFree f.head
IsClause known (Some (fact head)) = ArePatterns (head_arguments head) × IsFree head

-- mode lists stand before a fact alone, each as long as this has arguments
abbrev pub AreModes : Option (List (List Mode)) → Option WrittenClause → Type 0
AreModes None c = ⊤
AreModes (Some lists) (Some (fact head)) = All (λ modes. length modes ≡ exp_count (head_arguments head)) lists
AreModes (Some lists) c = ⊥

pub record IsPart (known : Knows) (p : PartTree) : Type 0 where
  pub modes : AreModes (index_of p.decl) p.clause
  pub clause : IsClause known p.clause

-- a predicate, or a function where the first is true
pub record Key : Type 0 where
  pub kind : Bool
  pub named : Option Signature

-- what a part has a clause of
abbrev pub key_of : Option WrittenClause → Option Key
key_of None = None
key_of (Some (rule r)) = Some (record { kind = false; named = signature r.head })
key_of (Some (function f)) = Some (record { kind = true; named = signature f.head })
key_of (Some (fact head)) = Some (record { kind = false; named = signature head })

abbrev pub keys : ProgramTree → List Key
keys program = filter_map (λ p. key_of p.clause) program

-- one is that of the clause just before, or of none before; those before come with the nearest first
abbrev pub GoesOn : List Key → Key → Type 0
GoesOn [] a = ⊤
GoesOn (last ∷ before) a = (a ≡ last) ⊎ (Contains (last ∷ before) a → ⊥)

-- the clauses of each predicate and each function stand together
unfoldable pub StandTogether : List Key → List Key → Type 0
StandTogether before [] = ⊤
StandTogether before (a ∷ rest) = GoesOn before a × StandTogether (a ∷ before) rest

-- ---- facts

-- what stands before each fact of a predicate
abbrev pub declared_if : Bool → Option (List (List Mode)) → Option (Option (List (List Mode)))
declared_if true modes = Some modes
declared_if false modes = None

abbrev pub declared_before : List ℕ → ℕ → ProgramTree → List (Option (List (List Mode)))
declared_before name k program = filter_map (λ p. declared_if (is_head_in name k (fact_head p.clause)) (index_of p.decl)) program

abbrev pub BeginsWithModes : List (Option (List (List Mode))) → Type 0
BeginsWithModes [] = ⊤
BeginsWithModes (modes ∷ rest) = IsSome modes

-- The clauses of a predicate are rules alone or facts alone, and before the first fact stands an `index`.
pub record IsIndexed (name : List ℕ) (k : ℕ) (program : ProgramTree) : Type 0 where
  pub alone : (rules_named name k program ≡ []) ⊎ (facts_named name k program ≡ [])
  pub first : BeginsWithModes (declared_before name k program)

-- A program that is lowered. The clauses of the prelude stand in front of its own, so that what these define is known, and no clause of its own is of one of theirs.
pub record HasForms (program : ProgramTree) : Type 0 where
  pub parts : All (IsPart (knows (prelude ++ program))) (prelude ++ program)
  pub together : StandTogether [] (keys (prelude ++ program))
  pub indexed : (name : List ℕ) (k : ℕ) → IsIndexed name k (prelude ++ program)

-- a goal that is asked of it
abbrev pub IsAsked : ProgramTree → ExpTree → Type 0
IsAsked program goal = IsGoal (knows (prelude ++ program)) goal

-- Names for helpers: none is one of a predicate of the program, or does anything by itself, and no two are one.
pub record AreOwn (known : Knows) (called : Naming) : Type 0 where
  pub unknown : (n k : ℕ) → known.predicate (called n) k ≡ false
  pub plain : (n k : ℕ) → is_given_predicate (called n) k ≡ false
  pub apart : (i j : ℕ) → called i ≡ called j → i ≡ j

-- further predicates that no one calls but helpers
abbrev pub AreQuiet : List PredTree → Type 0
AreQuiet [] = ⊤
AreQuiet (p ∷ ps) = (p.quiet ≡ true) × (p.function ≡ false) × AreQuiet ps
