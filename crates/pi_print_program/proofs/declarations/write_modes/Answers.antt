use Rattle.std.proofs.Common.{◌++◌, codes, refl, ap, ◌∙◌, rules}
use Rattle.std.specs.Prelude.{map}
use Rattle.std.specs.String.{string_bytes}
use Rattle.pi_syntax.specs.declared.program.Mode.TheVariants.{Plus}
use Rattle.pi_print_program.specs.Canonical.{mode_text}
use Rattle.pi_print_program.proofs.PartedLemmas.{parts-begin, parts-at}
use Rattle.pi_print_program.proofs.declarations.write_modes.Goals as goal

pub loop-mode-init : goal.loop-mode-init
loop-mode-init c = record { text = search rules; written = parts-begin (string_bytes c.push_str.new.self) (codes ",") (map mode_text c.args.modes.now) }

pub loop-mode-preserved : goal.loop-mode-preserved
loop-mode-preserved c = record {
  text = search rules;
  written =
      parts-at mode_text (map mode_text) (λ x xs. refl) c.args.modes.now c.loop-mode.mode-index Plus c.loop-mode.before.now (codes ",") (string_bytes c.loop-mode.out) (string_bytes c.push_str-in-loop-mode.new.self) (string_bytes c.push_str-in-loop-mode-2.new.self) _
      c.loop-mode-test.true c.in_ok-push_str-2.ensures.bytes (c.in_ok-push_str-3.ensures.bytes ∙ ap (λ m. string_bytes c.push_str-in-loop-mode.new.self ++ m) c.sign_of.ensures) c.loop-mode.invariant.written;
}
