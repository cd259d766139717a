-- What the code finds in the tokens of a part, from one place up to another.
use Rattle.std.specs.Prelude.{◌≡◌, ◌<◌, ◌≤◌, ◌+◌, ◌≢◌, if◌then◌else◌, ℕ, Bool, true, false, List, [], ◌∷◌, Option, Some, None, is_some, codes, length}
use Rattle.std.specs.Borrow.{Bor}
use Rattle.std.specs.List.{list_any}
use Rattle.std.specs.Str.{bytes_eq}
use Rattle.pi_expr.specs.Faults.{stretch}
use Rattle.pi_expr.specs.declared.fault.ExpFault.{ExpFault}
use Rattle.pi_expr.specs.declared.fault.ExpFault.TheVariants as fault
use Rattle.pi_syntax.specs.Crowding.{IsCrowded}
use Rattle.pi_syntax.specs.ExpLists.{exps_of}
use Rattle.pi_syntax.specs.ExpTree.{ExpTree, array, call, and, ExpTrees, no_exps, exp, exp_tree}
use Rattle.pi_syntax.specs.ProgramTree.{written_clause}
use Rattle.pi_syntax.specs.Tokens.{Token, Var, Atom, End, is_one_of}
use Rattle.pi_syntax.specs.declared.exp.Exp.{Exp}
use Rattle.pi_syntax.specs.declared.program.Clause.{Clause}
use Rattle.pi_syntax.specs.declared.program.Mode.{Mode}
use Rattle.pi_prog_clauses.specs.Declaration.{Opening, undeclared, importing, indexing, misdeclared, libraries, imported, declared, ModeList, ModeLists, Modes, Declares, Opens}
use Rattle.pi_prog_clauses.specs.Formed.{IsFormed}
use Rattle.pi_prog_clauses.specs.Reading as spec
use Rattle.pi_prog_clauses.specs.Reading.{IsDeepShape, HasNoShape, variable_names}
use Rattle.pi_prog_clauses.specs.Shape.{Shape, bare, ruled, HasShape, Sides, sides, equation, clause_of, shape_events, is_open, events_in, conditions, first_unit, other_units}
use Rattle.pi_prog_clauses.specs.Shown.{IsShown}
use Rattle.pi_prog_clauses.specs.Stretch.{Stretch}
use Rattle.pi_prog_clauses.specs.Verdict.{has_bad_form, has_too_many_names, different}
use Rattle.pi_prog_clauses.specs.declared.clause.FormedClause.{FormedClause}
use Rattle.pi_prog.specs.declared.reading.declaration.DeclarationWord.{DeclarationWord}
use Rattle.pi_prog.specs.declared.reading.declaration.DeclarationWord.TheVariants as word
use Rattle.pi_prog.specs.declared.reading.declaration.PartOpening.{PartOpening}
use Rattle.pi_prog.specs.declared.reading.declaration.PartOpening.TheVariants as opening
use Rattle.pi_prog.specs.declared.reading.declaration.modes.FoundLists.{FoundLists}
use Rattle.pi_prog.specs.declared.reading.declaration.modes.FoundModes.{FoundModes}
use Rattle.pi_prog.specs.declared.reading.declaration.modes.FoundModes.TheVariants as found
use Rattle.pi_prog.specs.declared.reading.MarkedClause.{MarkedClause}
use Rattle.pi_prog.specs.declared.reading.Marks.{Marks}
use Rattle.pi_prog_clauses.specs.declared.parts.PartReading.{PartReading}
use Rattle.pi_prog.specs.declared.reading.shape.Arrow.{Arrow}
use Rattle.pi_prog.specs.declared.reading.shape.Arrow.TheVariants as arrow
use Rattle.pi_prog.specs.declared.reading.shape.ReadShape.{ReadShape}
use Rattle.pi_prog.specs.declared.reading.shape.ReadShape.TheVariants as shape

-- the code's reading of a part shows what the part is
abbrev pub ShowsPart : Stretch → PartReading → Type 0
ShowsPart s p = (r : spec.Reading) × spec.Reads s r × IsShown p r

-- the tokens of a clause, and how the part begins
pub record IsClauseOf (part : List Token) (o : Opening) (modes : Option (List (List Mode))) (ts : List Token) : Type 0 where
  pub few : ¬ IsCrowded part
  pub opens : Opens part o
  pub declared : o ≢ misdeclared
  pub clause : spec.ClauseOf part o modes ts

-- whether a token is the end point
abbrev pub is_end : Token → Bool
is_end End = true
is_end t = false

-- ---- names of variables

-- the keys of a set are these names, each once
pub record HoldsNames (keys : List (Bor (List ℕ))) (names : List (List ℕ)) : Type 0 where
  pub same : (q : List ℕ) → list_any (λ (k : Bor (List ℕ)). bytes_eq q k.now) keys ≡ list_any (bytes_eq q) names
  pub count : length keys ≡ different names

-- with the name that the token is before them, where it is a variable
abbrev pub named_before : Token → List (List ℕ) → List (List ℕ)
named_before (Var name) names = name ∷ names
named_before t names = names

-- ---- declarations

-- the word that a declaration begins with, or that the token begins none
abbrev pub ShowsWord : DeclarationWord → Token → Type 0
ShowsWord word.Import t = t ≡ Atom (codes "import")
ShowsWord word.Index t = t ≡ Atom (codes "index")
ShowsWord word.Other t = (name : List ℕ) × (t ≡ Atom name) × (is_one_of (codes "table" ∷ codes "module" ∷ codes "private" ∷ []) name ≡ true)
ShowsWord word.Nothing t = (ts : List Token) → declared (t ∷ ts) ≡ None

-- the name of a library, where the token is one
abbrev pub library_of : Token → Option (List ℕ)
library_of (Atom name) = if is_one_of libraries name then Some name else None
library_of t = None

-- what stands behind `import`
abbrev pub ShowsImport : List Token → PartOpening → Type 0
ShowsImport ts (opening.Importing names) = imported ts ≡ Some names
ShowsImport ts opening.Misdeclared = imported ts ≡ None
ShowsImport ts o = ⊥

-- modes behind a parenthesis, or none
abbrev pub ShowsModes : List Token → ℕ → ℕ → FoundModes → Type 0
ShowsModes ts from to (found.Found modes end) = (from < end) × (end ≤ to) × Modes (stretch ts from to) modes (stretch ts end to)
ShowsModes ts from to found.Nothing = (ms : _) (rest : List Token) → ¬ Modes (stretch ts from to) ms rest

-- a mode list, or none
abbrev pub ShowsModeList : List Token → ℕ → ℕ → FoundModes → Type 0
ShowsModeList ts from to (found.Found modes end) = (from < end) × (end ≤ to) × ModeList (stretch ts from to) modes (stretch ts end to)
ShowsModeList ts from to found.Nothing = (ms : _) (rest : List Token) → ¬ ModeList (stretch ts from to) ms rest

-- the mode lists that stand there
pub record IsListed (ts : List Token) (from to : ℕ) (f : FoundLists) : Type 0 where
  pub behind : from ≤ f.end
  pub within : f.end ≤ to
  pub lists : ModeLists (stretch ts from to) f.lists (stretch ts f.end to)

-- what stands behind `index`
abbrev pub ShowsIndex : List Token → ℕ → ℕ → PartOpening → Type 0
ShowsIndex ts from to (opening.Indexing modes start) = (from ≤ start) × (start ≤ to) × Declares (codes "index") (stretch ts from to) (indexing modes (stretch ts start to))
ShowsIndex ts from to opening.Misdeclared = Declares (codes "index") (stretch ts from to) misdeclared
ShowsIndex ts from to o = ⊥

-- how a part begins, and where its clause does
abbrev pub ShowsOpening : List Token → ℕ → ℕ → PartOpening → Type 0
ShowsOpening ts from to opening.Undeclared = Opens (stretch ts from to) undeclared
ShowsOpening ts from to (opening.Importing names) = Opens (stretch ts from to) (importing names)
ShowsOpening ts from to (opening.Indexing modes start) = (from ≤ start) × (start ≤ to) × Opens (stretch ts from to) (indexing modes (stretch ts start to))
ShowsOpening ts from to opening.Misdeclared = Opens (stretch ts from to) misdeclared

-- ---- shapes

-- the sides of an arrow at a place
abbrev pub sides_at : List Token → ℕ → ℕ → Bool → ℕ → Sides
sides_at ts from at back to = record { left = stretch ts from at; back = back; right = stretch ts (at + 1) to }

abbrev pub ShowsArrow : List Token → ℕ → ℕ → Arrow → Type 0
ShowsArrow ts from to (arrow.At i back) = (from ≤ i) × (i < to) × (sides (stretch ts from to) ≡ Some (sides_at ts from i back to))
ShowsArrow ts from to arrow.Nowhere = sides (stretch ts from to) ≡ None

-- the shape of tokens
abbrev pub IsShape : List Token → ReadShape → Type 0
IsShape ts (shape.Bare e) = HasShape ts (bare (exp_tree e)) × (¬ IsDeepShape (bare (exp_tree e)))
IsShape ts (shape.Ruled l back r) = HasShape ts (ruled (exp_tree l) back (exp_tree r)) × (¬ IsDeepShape (ruled (exp_tree l) back (exp_tree r)))

-- why tokens that aren't crowded have none
abbrev pub IsShapeFault : List Token → ExpFault → Type 0
IsShapeFault ts fault.TooDeep = (s : Shape) × HasShape ts s × IsDeepShape s
IsShapeFault ts fault.NoExpression = HasNoShape ts
IsShapeFault ts fault.Memory = Unit {0}

-- ---- clauses

-- a clause of the tokens
abbrev pub IsFormedOf : List Token → FormedClause → Type 0
IsFormedOf ts f = (s : Shape) × HasShape ts s × (¬ IsDeepShape s) × IsFormed f s

-- what is told of a part's clause by itself
pub record AreMarks (part : List Token) (s : Shape) (m : Marks) : Type 0 where
  pub form : (w : spec.WrittenPart) → w.shape ≡ s → m.has_bad_form ≡ has_bad_form w
  pub names : m.has_too_many_names ≡ has_too_many_names (variable_names part)

-- the same with what is told of it
abbrev pub IsMarkedOf : List Token → List Token → MarkedClause → Type 0
IsMarkedOf part ts m = (s : Shape) × HasShape ts s × (¬ IsDeepShape s) × (written_clause m.clause ≡ clause_of s) × AreMarks part s m.marks
