use Rattle.std.proofs.Common.{◌∙◌, ap, sym, ◌++◌, append_assoc}
use Rattle.std.proofs.lemmas.List.{append-nil}
use Rattle.std.specs.String.{string_bytes}
use Rattle.pi_top.specs.Demo.{place_lines, edge_lines}
use Rattle.pi_top.proofs.EdgeLemmas.{no-edges, one-place}
use Rattle.pi_top.proofs.demo.demo_text.Goals as goal

pub loop-place-init : goal.loop-place-init
loop-place-init c = sym (append-nil (string_bytes c.in_ok-text.text)) ∙ ap (λ t. string_bytes c.in_ok-text.text ++ t) (sym (no-edges c.args.places))

pub loop-place-preserved : goal.loop-place-preserved
loop-place-preserved c =
    c.in_ok-push_edges.ensures.ok ∙ ap (λ t. t ++ place_lines c.args.places c.loop-place.place) c.loop-place.invariant
    ∙ append_assoc (string_bytes c.in_ok-text.text) (edge_lines c.args.places c.loop-place.place) (place_lines c.args.places c.loop-place.place)
    ∙ ap (λ t. string_bytes c.in_ok-text.text ++ t) (sym (one-place c.args.places c.loop-place.place))
