use Rattle.std.proofs.Common.{◌++◌, codes, refl, ap, ◌∙◌, rules}
use Rattle.std.specs.Prelude.{map}
use Rattle.std.specs.String.{string_bytes}
use Rattle.pi_print_program.specs.Canonical.{modes_text}
use Rattle.pi_print_program.proofs.PartedLemmas.{parts-begin, parts-more, parts-end}
use Rattle.pi_print_program.proofs.declarations.write_lists.Goals as goal

pub loop-modes-init : goal.loop-modes-init
loop-modes-init c = record { text = search rules; written = parts-begin (string_bytes c.args.out.now) (codes " ") (map modes_text c.args.lists.now) }

pub loop-modes-preserved : goal.loop-modes-preserved
loop-modes-preserved c = record {
  text = search rules;
  written =
      parts-more modes_text (map modes_text) (λ x xs. refl) c.args.lists.now c.loop-modes.modes-index c.modes-item.result c.loop-modes.before.now (codes " ") (string_bytes c.loop-modes.out) (string_bytes c.push_str.new.self) (string_bytes c.write_modes.new.out) _
      c.loop-modes-test.true c.modes-item.is c.in_ok-push_str.ensures.bytes (c.in_ok-write_modes.ensures ∙ ap (λ n. string_bytes c.push_str.new.self ++ modes_text n) c.as_slice.ensures) c.loop-modes.invariant.written;
}

pub returns : goal.returns
returns c = parts-end (map modes_text) refl c.args.lists.now c.loop-modes.modes-index c.loop-modes.before.now (codes " ") (string_bytes c.loop-modes.out) _ c.loop-modes-test.false c.loop-modes.invariant.written
