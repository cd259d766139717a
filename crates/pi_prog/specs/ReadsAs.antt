-- What a text reads as, part by part: what parts are together isn't asked, as that none defines a name that is built in. (Own.)
use Rattle.std.specs.Prelude.{◌≡◌, ℕ, Bool, true, false, ◌||◌, List, map}
use Rattle.std.specs.List.{list_any}
use Rattle.pi_lex.specs.Kinds.{kinds}
use Rattle.pi_syntax.specs.ProgramTree.{ProgramTree}
use Rattle.pi_syntax.specs.Tokens.{Located, HasTokens}
use Rattle.pi_prog_clauses.specs.Reading.{Reading, ReadAll}
use Rattle.pi_prog_clauses.specs.Stretch.{stretches}
use Rattle.pi_prog_clauses.specs.Verdict.{JudgedPart, refused, libraries, one_clause, judged, parts_of}

-- a part that is refused whatever the others are
abbrev pub is_refused : JudgedPart → Bool
is_refused (refused fault) = true
is_refused (libraries names) = false
is_refused (one_clause c) = c.bad_form || c.many_names

-- the text has tokens, each of their parts has a reading, none is refused, and they are the program's
pub record ReadsAs (text : List ℕ) (program : ProgramTree) : Type 0 where
  pub tokens : List Located
  pub lexed : HasTokens text tokens
  pub readings : List Reading
  pub read : ReadAll (stretches (kinds tokens)) readings
  pub sound : list_any is_refused (map judged readings) ≡ false
  pub parts : parts_of (map judged readings) ≡ program
