-- What is added to lists, and what is changed once it is.
use Rattle.std.specs.Prelude.{◌≡◌, ℕ, suc, ◌≤◌, Bool, true, false, Some, length}
use Rattle.pi_constraints.specs.Constraint.{SpeaksOf}
use Rattle.pi_constraints.specs.declared.constraint.Constraint.{Constraint}
use Rattle.pi_region.specs.Image.{Image, pushed, replaced}
use Rattle.pi_region.specs.Back.{Advances}
use Rattle.pi_region.specs.declared.entry.Table.{Table}
use Rattle.pi_store_blocks.specs.Form.{form_of}
use Rattle.pi_store_blocks.specs.Block.{Writes}
use Rattle.pi_store_blocks.specs.Node.{IsListed}
use Rattle.pi_store_blocks.specs.Constraint.{numbers_of, constraint_in}
use Rattle.pi_store_blocks.specs.ConstraintTable.{constraint_at}
use Rattle.pi_store_blocks.specs.NameTable.{NameTable}
use Rattle.pi_store.specs.Walk.{variable_of}
use Rattle.pi_store.specs.Heads.{taken_in}
use Rattle.pi_store.specs.Lists.{Leads, IsOnList}
use Rattle.pi_store.specs.Sound.{IsSound}

-- the tables of two images are the same, save where lists end
pub record SameTables (i j : Image) : Type 0 where
  pub variables : j.variables ≡ i.variables
  pub constraints : j.constraints ≡ i.constraints
  pub agents : j.agents ≡ i.agents
  pub waiting : j.waiting ≡ i.waiting
  pub taken : taken_in j ≡ taken_in i

-- more words, and other lists, of which none loses a number
pub record AddsToLists (old new : Image) : Type 0 where
  pub advances : Advances old new
  pub tables : SameTables old new
  pub sound : (t : NameTable) → IsSound t old → IsSound t new
  pub lists : (t : NameTable) → IsSound t old → (v k : ℕ) → IsOnList old v k → IsOnList new v k

-- a number, and what the list that ends at a place had, are in the list of a variable
pub record IsAddedTo (old new : Image) (k extra v : ℕ) : Type 0 where
  pub number : IsOnList new v k
  pub others : (n : ℕ) → IsListed old.region extra n → IsOnList new v n

-- and in the lists of all variables to which one leads
abbrev pub IsAddedAlong : Image → Image → ℕ → ℕ → ℕ → Type 0
IsAddedAlong old new k extra n = (t : NameTable) → IsSound t old → extra ≤ length old.region → (v : ℕ) → Leads old.variables n v → IsAddedTo old new k extra v

-- a number is in the lists of all to which variables of a kind lead; or one of these variables wasn't made
abbrev pub IsPutOn : (ℕ → Type 0) → Image → Image → ℕ → Bool → Type 0
IsPutOn P old new k true = (t : NameTable) → IsSound t old → (n v : ℕ) → P n → Leads old.variables n v → IsOnList new v k
IsPutOn P old new k false = (n : ℕ) × P n × (length old.variables ≤ n)

-- a constraint is posted: its block, its number in lists, and then its word in the table
pub record Posts (old new : Image) (c : Constraint) : Type 0 where
  pub mid : Image
  pub end : ℕ
  pub written : Writes old mid (numbers_of c) end
  pub listed : Image
  pub adds : AddsToLists mid listed
  pub put : IsPutOn (SpeaksOf (constraint_at mid.region end)) mid listed (length old.constraints) true
  pub added : new ≡ pushed listed Table.Constraints end
  pub advances : Advances old new

-- a variable in it, as it is written, wasn't made
abbrev pub IsNotMade : Image → Constraint → Type 0
IsNotMade i c = (n : ℕ) × SpeaksOf (constraint_in (numbers_of c)) n × (length i.variables ≤ n)

-- which of both a try came to; and where it isn't posted, nothing is changed in the end
abbrev pub TriesToPost : Image → Image → Constraint → Bool → Type 0
TriesToPost old new c true = Posts old new c
TriesToPost old new c false = IsNotMade old c

abbrev pub PostsIfMade : Image → Image → Constraint → Bool → Type 0
PostsIfMade old new c true = Posts old new c
PostsIfMade old new c false = (new ≡ old) × IsNotMade old c

-- what the list of a variable has is in the lists of all to which the variable leads that a Ref is
abbrev pub IsJoinedTo : Image → Image → ℕ → ℕ → Type 0
IsJoinedTo old new n r = (t : NameTable) → IsSound t old → (m v k : ℕ) → variable_of (form_of r) ≡ Some m → Leads old.variables m v → IsOnList old n k → IsOnList new v k

-- a variable is bound to a Ref: lists are joined, and then it gets another word
pub record BindsTo (old new : Image) (n r : ℕ) : Type 0 where
  pub mid : Image
  pub adds : AddsToLists old mid
  pub joined : IsJoinedTo old mid n r
  pub set : new ≡ replaced mid Table.Variables n (suc r)
  pub advances : Advances old new
