use Rattle.std.proofs.Common.{◌++◌, codes, refl, ap, ◌∙◌, rules}
use Rattle.std.specs.Prelude.{map}
use Rattle.std.specs.String.{string_bytes}
use Rattle.pi_print_program.specs.Texts.{name_text}
use Rattle.pi_print_program.proofs.PartedLemmas.{parts-begin, parts-more, parts-end}
use Rattle.pi_print_program.proofs.declarations.write_names.Goals as goal

pub loop-name-init : goal.loop-name-init
loop-name-init c = record { text = search rules; written = parts-begin (string_bytes c.args.out.now) (codes ", ") (map name_text c.args.names.now) }

pub loop-name-preserved : goal.loop-name-preserved
loop-name-preserved c = record {
  text = search rules;
  written =
      parts-more name_text (map name_text) (λ x xs. refl) c.args.names.now c.loop-name.name-index c.name-item.result c.loop-name.before.now (codes ", ") (string_bytes c.loop-name.out) (string_bytes c.push_str.new.self) (string_bytes c.write_name.new.out) _
      c.loop-name-test.true c.name-item.is c.in_ok-push_str.ensures.bytes (c.in_ok-write_name.ensures.ok ∙ ap (λ n. string_bytes c.push_str.new.self ++ name_text n) c.as_str.ensures) c.loop-name.invariant.written;
}

pub returns : goal.returns
returns c = parts-end (map name_text) refl c.args.names.now c.loop-name.name-index c.loop-name.before.now (codes ", ") (string_bytes c.loop-name.out) _ c.loop-name-test.false c.loop-name.invariant.written
