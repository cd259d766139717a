use Rattle.std.proofs.Common.{◌≡◌, false, ap, sym, ◌∙◌, subst}
use Rattle.pi_constraints.specs.State.{bindings}
use Rattle.pi_constraints.specs.Value.{value}
use Rattle.pi_syntax.specs.PrintTerm.{is_characters}
use Rattle.pi_effects.specs.Exception.{bad_format}
use Rattle.pi_effects.specs.Format.{a_text, argument_text}
use Rattle.pi_unify.specs.Terms.{value_of}
use Rattle.pi_unify.proofs.TermValues.{term_given, value_is}
use Rattle.pi_lib.specs.Characters.{ShowsCharacters}
use Rattle.pi_lib.proofs.FormatLemmas.{bad_stops, text_none}
use Rattle.pi_lib.proofs.characters.text_argument.Goals as goal

pub returns-in_default : goal.returns-in_default
returns-in_default g c = λ t u a first second.
    let v = g.S.StateStore.seen c.args.s.now in
    let b = bindings v.now.state in
    let none : is_characters (value_of v c.args.term) ≡ false = subst (ShowsCharacters (value_of v c.args.term)) c.in_default.is (c.in_ok-found.ensures (term_given v c.args.term t first) a) in
    let other : is_characters (value b t) ≡ false = ap is_characters (sym (value_is v c.args.term t first)) ∙ none in
    bad_stops v c.args.format u (argument_text a_text (bad_format u v.now.state) (value b t)) second (text_none (bad_format u v.now.state) (value b t) other)
