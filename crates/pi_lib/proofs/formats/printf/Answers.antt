use Rattle.std.proofs.Common.{◌≡◌, ap, sym, ◌∙◌, subst, false}
use Rattle.std.proofs.lemmas.Result.{err_from_is_err_and}
use Rattle.pi_constraints.specs.State.{bindings}
use Rattle.pi_constraints.specs.Value.{value}
use Rattle.pi_effects.specs.Exception.{bad_format}
use Rattle.pi_effects.specs.Items.{each_tree}
use Rattle.pi_effects.specs.Format.{a_text, argument_text, formatted, filled_in, pieces}
use Rattle.pi_effects.specs.Results.{ShowsSame}
use Rattle.pi_effects.proofs.FaultLemmas.{stops-whole}
use Rattle.pi_lib.proofs.FormatLemmas.{format_stops, format_is}
use Rattle.pi_lib.proofs.formats.printf.Goals as goal

pub returns-in_err-text : goal.returns-in_err-text
returns-in_err-text g c = λ t ts a first are.
    let v = g.S.StateStore.seen c.args.s.now in
    let s = v.now.state in
    let p = err_from_is_err_and c.from_residual.result c.from_residual.ensures.1 in
    rw (p.1, p.2)
    (stops-whole v c.in_err-text.field-0.0 (argument_text a_text (bad_format t s) (value (bindings s) t)) (formatted s t (each_tree ts)) (format_stops s t (each_tree ts)) (c.in_err-text.ensures t t a first first))

pub returns : goal.returns
returns g c = λ t ts a first are.
    let v = g.S.StateStore.seen c.args.s.now in
    let s = v.now.state in
    let whole : formatted s t (each_tree ts) ≡ filled_in s (bad_format t s) (pieces c.as_str.result.now false) (each_tree ts) =
    format_is s t (each_tree ts) c.in_ok-text.text (c.in_ok-text.ensures t t a first first) ∙ ap (λ xs. filled_in s (bad_format t s) (pieces xs false) (each_tree ts)) (sym c.as_str.ensures) in
    subst (ShowsSame v c.fill.result) (sym whole) (c.fill.ensures t ts a first are)
