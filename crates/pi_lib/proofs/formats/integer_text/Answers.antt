use Rattle.std.proofs.Common.{◌≡◌, rules}
use Rattle.std.specs.Fmt.{signed_decimal}
use Rattle.pi_constraints.specs.State.{bindings}
use Rattle.pi_constraints.specs.Value.{value}
use Rattle.pi_constraints.specs.Store.{ShowsCell}
use Rattle.pi_constraints.specs.declared.store.Cell.{Cell}
use Rattle.pi_effects.specs.Exception.{bad_format}
use Rattle.pi_effects.specs.Format.{an_integer, argument_text}
use Rattle.pi_unify.proofs.TermValues.{shows_value}
use Rattle.pi_lib.proofs.FormatLemmas.{bad_stops, integer_none, integer_given}
use Rattle.pi_lib.proofs.formats.integer_text.Goals as goal

pub returns-in_default : goal.returns-in_default
returns-in_default g c = λ t u a first second.
    let v = g.S.StateStore.seen c.args.s.now in
    let x = value (bindings v.now.state) t in
    let bad = bad_format u v.now.state in
    let shows : ShowsCell v x c.look.result = shows_value v t c.look.result a (c.look.ensures.shows t first a) in
    bad_stops v c.args.format u (argument_text an_integer bad x) second (integer_none v bad x c.look.result c.in_default.not-Int shows)

pub returns : goal.returns
returns g c = λ t u a first second.
    let v = g.S.StateStore.seen c.args.s.now in
    let x = value (bindings v.now.state) t in
    let shows : ShowsCell v x (Cell.Int c.in-Int.n) = shows_value v t (Cell.Int c.in-Int.n) a (c.in-Int.ensures.shows t first a) in
    let text : c.in_ok-made.made ≡ signed_decimal c.in-Int.n = search rules in
    integer_given (bad_format u v.now.state) x c.in-Int.n c.in_ok-made.made shows text
