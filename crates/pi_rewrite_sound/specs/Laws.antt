-- What a program and a goal are lowered to, loops among the rest, is sound where all of it is built: slots, calls and clauses fit each other, a Tick stands on each way round, and nothing
-- is called but what the program defines, the helpers of its loops, what is built, and `call`. So it is under any names of helpers that are no one else's. (Own.)
use Rattle.std.specs.Prelude.{◌≡◌, ◌++◌, ◌&&◌, ℕ, Bool, true, false, List, [], ◌∷◌, map, filter, Option, Some, None, All}
use Rattle.std.specs.Option.{option_or}
use Rattle.pi_syntax.specs.ExpTree.{ExpTree}
use Rattle.pi_syntax.specs.ProgramTree.{ProgramTree}
use Rattle.pi_core.specs.CoreTree.{PredTree, find_pred}
use Rattle.pi_meaning.specs.OverNames.WrittenRules.{is_signature}
use Rattle.pi_meaning.specs.CoreMeaning.Sound.{IsSound, IsSoundQuery}
use Rattle.pi_meaning.specs.CoreMeaning.Defined.{ProgramCallsDefined, QueryCallsDefined, NamesAreFree}
use Rattle.pi_meaning.specs.OverNames.Prelude.{prelude}
use Rattle.pi_rewrite_spec.specs.Clauses.{Lowering, same_kind}
use Rattle.pi_rewrite_spec.specs.Programs.{Naming, clauses_of, helpers_of, core_program, core_query}
use Rattle.pi_rewrite_laws.specs.Within.{IsAsked, AreOwn}
use Rattle.pi_rewrite_laws.specs.Laws.{known_of, DefinesTheSame, AreNew}
use Rattle.pi_rewrite_sound.specs.Built.{unbuilt_part, is_built_goal}
use Rattle.pi_rewrite_sound.specs.Within.{IsWithin}

-- names for helpers that are own, and that no function of the program has either
pub record AreNames (program : ProgramTree) (called : Naming) : Type 0 where
  pub own : AreOwn (known_of program) called
  pub functions : (n k : ℕ) → (known_of program).function (called n) k ≡ false

-- ---- programs

-- a predicate or function whose clauses have no events
pub record IsPlain (pred : PredTree) : Type 0 where
  pub watches : All (λ c. c.watches ≡ []) pred.clauses

-- Each call is of what is there with so many arguments, slots are those that a clause has, no two predicates or functions have one name and number of arguments, and no helper of a loop
-- leads round to itself past no Tick.
abbrev pub LoweredProgramsAreSound : Type 0
LoweredProgramsAreSound = (program : ProgramTree) → IsWithin program → unbuilt_part program ≡ None → (called : Naming) → AreNames program called → IsSound (core_program called program)

-- they call what they define, what is built, and `call`, and nothing that they define has a name that the language gives
abbrev pub LoweredProgramsAreClosed : Type 0
LoweredProgramsAreClosed = (program : ProgramTree) → IsWithin program → unbuilt_part program ≡ None → (called : Naming) → AreNames program called →
    ProgramCallsDefined (core_program called program) × NamesAreFree (core_program called program)

-- whether their parts are built or not
abbrev pub LoweredProgramsArePlain : Type 0
LoweredProgramsArePlain = (program : ProgramTree) → IsWithin program → (called : Naming) → All IsPlain (core_program called program)

-- the clauses of a predicate, or of a function where the first is true, in order
abbrev pub clauses_named : Bool → List ℕ → ℕ → List Lowering → List Lowering
clauses_named function name k cs = filter (λ c. same_kind function c.is_function && is_signature name k (Some c.head)) cs

-- as one, with the mode lists before the first
abbrev pub pred_made : Bool → List ℕ → ℕ → List Lowering → Option PredTree
pred_made function name k [] = None
pred_made function name k (c ∷ cs) = Some (record { name = name; arity = k; function = function; quiet = false; index = c.modes; clauses = c.clause ∷ map (λ d. d.clause) cs })

-- they have just the lowered clauses of each predicate and function, the prelude's among them, and the helpers of loops
abbrev pub LoweredProgramsHaveClauses : Type 0
LoweredProgramsHaveClauses = (program : ProgramTree) → IsWithin program → (called : Naming) → (function : Bool) (name : List ℕ) (k : ℕ) →
    find_pred function name k (core_program called program)
    ≡ option_or (pred_made function name k (clauses_named function name k (clauses_of called 0 (prelude ++ program)))) (find_pred function name k (helpers_of called 0 (prelude ++ program)))

-- ---- goals

-- A query may be asked of any sound core program that defines what the program does, under names that this doesn't have.
pub record QueryFits (preds : List PredTree) (goal : ExpTree) (other : Naming) : Type 0 where
  pub sound : IsSoundQuery preds (core_query other goal)
  pub closed : QueryCallsDefined preds (core_query other goal)
  pub free : NamesAreFree (preds ++ (core_query other goal).helpers)
  pub plain : All IsPlain (preds ++ (core_query other goal).helpers)

abbrev pub LoweredQueriesAreSound : Type 0
LoweredQueriesAreSound = (program : ProgramTree) (goal : ExpTree) (preds : List PredTree) → DefinesTheSame program preds → IsSound preds → ProgramCallsDefined preds → NamesAreFree preds → All IsPlain preds →
    IsAsked program goal → is_built_goal goal ≡ true → (other : Naming) → AreNames program other → AreNew preds other → QueryFits preds goal other
