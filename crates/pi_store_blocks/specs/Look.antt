-- What is read at a header.
use Rattle.std.specs.Prelude.{ℕ, ◌+◌, ◌-◌, List, slice_index}
use Rattle.pi_constraints.specs.declared.store.Cell.{Cell}
use Rattle.pi_region.specs.Entry.{value_of}
use Rattle.pi_store_blocks.specs.declared.header.Header.{Header}
use Rattle.pi_store_blocks.specs.Form.{wide_of}

-- what a header at a place stands for
abbrev pub headed_cell : List ℕ → ℕ → Header → Cell
headed_cell words place Header.Nothing = Cell.Atom 0
headed_cell words place (Header.Comp name count flag) = Cell.Comp name count
headed_cell words place (Header.Wide top) = Cell.Int (wide_of top (value_of (slice_index words (place - 2))) (value_of (slice_index words (place - 1))))

-- the number of an argument below it, and of the Ref itself where there is none
abbrev pub headed_arg : List ℕ → ℕ → ℕ → ℕ → Header → ℕ
headed_arg words r place i Header.Nothing = r
headed_arg words r place i (Header.Comp name count flag) = slice_index words (place - count + i)
headed_arg words r place i (Header.Wide top) = r
