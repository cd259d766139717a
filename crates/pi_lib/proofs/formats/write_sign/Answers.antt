use Rattle.std.proofs.Common.{◌≡◌, [], ◌∷◌, ◌++◌, arith, Option, Some, Ok, ap, sym, ◌∙◌, subst}
use Rattle.std.specs.Borrow.{Bor}
use Rattle.std.specs.String.{string_bytes}
use Rattle.std.specs.Prelude.{option_copied}
use Rattle.std.proofs.lemmas.Result.{err_from_is_err_and}
use Rattle.pi_constraints.specs.State.{bindings}
use Rattle.pi_constraints.specs.Value.{value}
use Rattle.pi_constraints.specs.declared.store.Ref.{Ref}
use Rattle.pi_effects.specs.Exception.{bad_format}
use Rattle.pi_effects.specs.Format.{argument, argument_text, filled_in}
use Rattle.pi_effects.proofs.FaultLemmas.{stops-whole}
use Rattle.pi_lib.specs.Signs.{form_of}
use Rattle.pi_lib.specs.Filling.{IsNext}
use Rattle.pi_lib.proofs.FormatLemmas.{argument_lacks, no_sign_stops, argument_raised, argument_filled, character_filled}
use Rattle.pi_lib.proofs.formats.write_sign.Goals as goal

pub returns-in_default-clause-fills : goal.returns-in_default-clause-fills
returns-in_default-clause-fills g c = λ t us a is next.
    let v = g.S.StateStore.seen c.args.s.now in
    let none : us ≡ [] = subst (λ (o : Option (Bor Ref)). IsNext v (option_copied o) us) c.in_default.is next in
    rw c.in-Argument.is (λ ps. argument_lacks v c.args.format t (form_of c.in-Argument.form) us ps is none)

pub returns-in_err-text-in-Argument-clause-fills : goal.returns-in_err-text-in-Argument-clause-fills
returns-in_err-text-in-Argument-clause-fills g c = λ t us a is next.
    let v = g.S.StateStore.seen c.args.s.now in
    let s = v.now.state in
    let form = form_of c.in-Argument.form in
    let bad = bad_format t s in
    let first : IsNext v (Some c.in-Some.argument.now) us = rw c.in-Some.argument-is (subst (λ (o : Option (Bor Ref)). IsNext v (option_copied o) us) c.in-Some.is next) in
    let p = err_from_is_err_and c.from_residual.result c.from_residual.ensures.1 in
    rw (p.1, p.2, c.in-Argument.is) (λ ps.
    stops-whole v c.in_err-text-in-Argument.field-0.0 (argument_text form bad (value (bindings s) first.0)) (filled_in s bad (argument form ∷ ps) us)
    (λ ball. argument_raised s bad form first.0 first.1 us ps ball first.3) (c.in_err-text-in-Argument.ensures first.0 t a first.2 is))

pub returns-in_ok-push_str-in-Argument-clause-fills : goal.returns-in_ok-push_str-in-Argument-clause-fills
returns-in_ok-push_str-in-Argument-clause-fills g c = λ t us a is next.
    let v = g.S.StateStore.seen c.args.s.now in
    let s = v.now.state in
    let form = form_of c.in-Argument.form in
    let bad = bad_format t s in
    let first : IsNext v (Some c.in-Some.argument.now) us = rw c.in-Some.argument-is (subst (λ (o : Option (Bor Ref)). IsNext v (option_copied o) us) c.in-Some.is next) in
    let given : argument_text form bad (value (bindings s) first.0) ≡ Ok c.as_str.result.now = c.in_ok-text-in-Argument.ensures first.0 t a first.2 is ∙ ap Ok (sym c.as_str.ensures) in
    (c.as_str.result.now, c.in_ok-push_str-in-Argument.ensures.bytes, λ ps. rw c.in-Argument.is (argument_filled s bad form first.0 first.1 us ps c.as_str.result.now first.3 given))

pub returns-in_ok-push-in-LineFeed-clause-fills : goal.returns-in_ok-push-in-LineFeed-clause-fills
returns-in_ok-push-in-LineFeed-clause-fills g c = λ t us a is next.
    let s = (g.S.StateStore.seen c.args.s.now).now.state in
    (10 ∷ [], c.in_ok-push-in-LineFeed.ensures.bytes ∙ ap (λ xs. string_bytes c.args.out.now ++ xs) (c.in_ok-push-in-LineFeed.ensures.ascii (omega arith)), λ ps. rw c.in-LineFeed.is (character_filled s (bad_format t s) 10 us ps))

pub returns-in_ok-push-in-Percent-clause-fills : goal.returns-in_ok-push-in-Percent-clause-fills
returns-in_ok-push-in-Percent-clause-fills g c = λ t us a is next.
    let s = (g.S.StateStore.seen c.args.s.now).now.state in
    (37 ∷ [], c.in_ok-push-in-Percent.ensures.bytes ∙ ap (λ xs. string_bytes c.args.out.now ++ xs) (c.in_ok-push-in-Percent.ensures.ascii (omega arith)), λ ps. rw c.in-Percent.is (character_filled s (bad_format t s) 37 us ps))

pub returns-in-Unknown-clause-fills : goal.returns-in-Unknown-clause-fills
returns-in-Unknown-clause-fills g c = λ t us a is next. rw c.in-Unknown.is (λ ps. no_sign_stops (g.S.StateStore.seen c.args.s.now) c.args.format t us ps is)
