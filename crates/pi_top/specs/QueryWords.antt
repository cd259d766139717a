-- What is said of a query of the core language in each step of its run, and of a session in each of its lines.
use Rattle.std.specs.Prelude.{ℕ, List}
use Rattle.pi_core.specs.CoreTree.{PredTree, QueryTree}
use Rattle.pi_syntax.specs.ProgramTree.{ProgramTree}
use Rattle.pi_constraints.specs.Store.{StoreView}
use Rattle.pi_top.specs.declared.manner.Lines.{Lines}
use Rattle.pi_top.specs.declared.manner.Manner.{Manner}
use Rattle.pi_top.specs.declared.runs.QueryRun.{QueryRun}
use Rattle.pi_top.specs.Took.{Bounds, bounds_of}

-- a query of a core program, and which lines of its run are written
pub record ToldQuery : Type 0 where
  pub lines : Lines
  pub program : List PredTree
  pub query : QueryTree

abbrev pub told_query : Lines → List PredTree → QueryTree → ToldQuery
told_query lines program query = record { lines = lines; program = program; query = query }

-- the same with how many answers are asked for, and what it may take
pub record AskedQuery : Type 0 where
  pub lines : Lines
  pub answers : ℕ
  pub bounds : Bounds
  pub program : List PredTree
  pub query : QueryTree

abbrev pub asked_query : Lines → ℕ → Bounds → List PredTree → QueryTree → AskedQuery
asked_query lines answers bounds program query = record { lines = lines; answers = answers; bounds = bounds; program = program; query = query }

-- in some manner
abbrev pub asked_in : Manner → List PredTree → QueryTree → AskedQuery
asked_in manner program query = asked_query manner.lines manner.answers (bounds_of manner) program query

-- a query of a core program of which so many answers were written, listed behind these
pub record BegunQuery : Type 0 where
  pub program : List PredTree
  pub query : QueryTree
  pub given : ℕ
  pub earlier : List QueryRun

abbrev pub begun_query : List PredTree → QueryTree → ℕ → List QueryRun → BegunQuery
begun_query program query given earlier = record { program = program; query = query; given = given; earlier = earlier }

-- how goals are asked of a program in a session, and the core program that it is lowered to; what its machines' stores hold, and the order of their marks
pub record SessionOf (S M : Type 0) : Type 0 where
  pub seen : S → StoreView M
  pub order : M → ℕ
  pub manner : Manner
  pub program : ProgramTree
  pub core : List PredTree

abbrev pub session_of : {S M : Type 0} → (S → StoreView M) → (M → ℕ) → Manner → ProgramTree → List PredTree → SessionOf S M
session_of seen order manner program core = record { seen = seen; order = order; manner = manner; program = program; core = core }

-- the queries that are listed before a step and after it
pub record ListedOver : Type 0 where
  pub old : List QueryRun
  pub new : List QueryRun

abbrev pub listed_over : List QueryRun → List QueryRun → ListedOver
listed_over old new = record { old = old; new = new }
