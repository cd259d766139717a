-- What a table of spellings shows.
use Rattle.std.specs.Prelude.{ℕ, List, map, Option, Some, None}
use Rattle.std.specs.Borrow.{Bor}
use Rattle.pi_syntax.specs.Terminals as t
use Rattle.pi_expr_phrases.specs.Shown.{terminal_shown}
use Rattle.pi_expr_phrases.specs.declared.terminal.Terminal.{Terminal}

abbrev pub rows_shown : List (Bor (List ℕ) × Terminal) → List t.Row
rows_shown rows = map (λ (row : Bor (List ℕ) × Terminal). (row.0.now, terminal_shown row.1)) rows

abbrev pub found_shown : Option Terminal → Option t.Terminal
found_shown None = None
found_shown (Some found) = Some (terminal_shown found)
