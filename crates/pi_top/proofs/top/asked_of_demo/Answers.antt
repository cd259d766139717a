use Rattle.std.proofs.Common.{◌≡◌, ◌∙◌, None, Some, sym}
use Rattle.std.proofs.lemmas.Result.{err_from_is_err_and}
use Rattle.pi_outside.proofs.WriteRuns.{ByWrites-none, ByWrites-so}
use Rattle.pi_top_words.specs.Words.{places_of}
use Rattle.pi_top.specs.Demo.{demo_program}
use Rattle.pi_top.specs.declared.query.Stop.TheVariants.{Memory}
use Rattle.pi_top.proofs.Endings.{made-nothing, made-text}
use Rattle.pi_top.proofs.Manners.{no-places}
use Rattle.pi_top.proofs.top.asked_of_demo.Goals as goal

pub returns-in_default-clause-answers : goal.returns-in_default-clause-answers
returns-in_default-clause-answers g c =
    let none : places_of c.args.asked.now ≡ None = cc in
    ByWrites-so c.ended.ensures.told (λ writes told. λ some has. absurd (no-places (places_of c.args.asked.now) none has))

pub returns-in_err-text-clause-answers : goal.returns-in_err-text-clause-answers
returns-in_err-text-clause-answers g c =
    let p = err_from_is_err_and c.from_residual.result c.from_residual.ensures.1 in
    let memory : p.0 ≡ Memory = p.2 in
    rw (p.1, memory) (ByWrites-none g.O.Sink.wrote g.O.Sink.taken c.args.out.now _ (λ some has none files stands. made-nothing c.args.asked.now files c.args.queries.now stands none))

pub returns-in_err-bytes-clause-answers : goal.returns-in_err-bytes-clause-answers
returns-in_err-bytes-clause-answers g c =
    let p = err_from_is_err_and c.from_residual-in_err-bytes.result c.from_residual-in_err-bytes.ensures.1 in
    let memory : p.0 ≡ Memory = p.2 in
    rw (p.1, memory) (ByWrites-none g.O.Sink.wrote g.O.Sink.taken c.args.out.now _ (λ some has none files stands. made-nothing c.args.asked.now files c.args.queries.now stands none))

pub returns-clause-answers : goal.returns-clause-answers
returns-clause-answers g c =
    let asked = c.args.asked.now in
    let text : c.in_ok-bytes.bytes.items ≡ demo_program c.in-Some.places = c.in_ok-bytes.ensures.items ∙ (c.as_bytes.ensures.value ∙ (c.as_str.ensures ∙ c.in_ok-text.ensures.ok)) in
    let number : places_of asked ≡ Some c.in-Some.places = sym c.places.ensures.number ∙ c.in-Some.is in
    ByWrites-so c.asked_of_text.ensures.answers (λ writes answers. λ some has none files stands.
    made-text asked files c.in-Some.places c.in_ok-bytes.bytes.items c.asked_of_text.new.queries c.asked_of_text.result writes stands number text (answers some none))
