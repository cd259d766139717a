use Rattle.std.proofs.Common.{◌≡◌, drop}
use Rattle.std.specs.List.{list_any}
use Rattle.pi_syntax.specs.Names.{is_named_by, rows_shown}
use Rattle.pi_syntax.proofs.builtin.is_listed.Given as goal

-- the rows from here on say what all say
abbrev pub invariant-loop-row : goal.invariant-loop-row
invariant-loop-row l =
    list_any (is_named_by l.name l.arity) (rows_shown (drop l.row-index l.rows))
    ≡ list_any (is_named_by l.name l.arity) (rows_shown l.rows)
