-- A line, or a text, that is all that is written of a run.
use Rattle.std.specs.Prelude.{◌≡◌, ℕ, List, [], ◌∷◌}
use lib.Chars.{codes}
use Rattle.pi_top.specs.declared.runs.QueryRun.{QueryRun}

abbrev pub read_fault_line : List ℕ
read_fault_line = codes "read fault\n"

-- this line, or this text, is all that is written, this is its status, and no goal was run
pub record IsLine (line : List ℕ) (its status : ℕ) (queries : List QueryRun) (texts : List (List ℕ)) : Type 0 where
  pub is_its : status ≡ its
  pub none_ran : queries ≡ []
  pub written : texts ≡ line ∷ []
