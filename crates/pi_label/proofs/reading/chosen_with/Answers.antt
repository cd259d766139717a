use Rattle.std.proofs.Common.{subst}
use Rattle.std.specs.Prelude.{Some}
use Rattle.pi_constraints.specs.State.{bindings, followed}
use Rattle.pi_settling.specs.Options.{word_of}
use Rattle.pi_label.specs.Reads.{ShowsWord}
use Rattle.pi_label.specs.declared.words.Word.{Word}
use Rattle.pi_label.proofs.WordLemmas.{picks-more, tries-more, seeks-more}
use Rattle.pi_label.proofs.reading.chosen_with.Goals as goal

pub returns-in-None : goal.returns-in-None
returns-in-None g c = λ t d a is are.
    let v = g.S.StateStore.seen c.args.s.now in
    picks-more v c.args.chosen d c.in-Picks.word _ are (subst (λ (x : Word). ShowsWord v (Some x) (word_of (followed (bindings v.now.state) t))) c.in-Picks.is (c.in-Some.ensures t a is)) c.in-None.is

pub returns-in-None-value : goal.returns-in-None-value
returns-in-None-value g c = λ t d a is are.
    let v = g.S.StateStore.seen c.args.s.now in
    tries-more v c.args.chosen d c.in-Tries.word _ are (subst (λ (x : Word). ShowsWord v (Some x) (word_of (followed (bindings v.now.state) t))) c.in-Tries.is (c.in-Some.ensures t a is)) c.in-None-value.is

pub returns-in-None-objective : goal.returns-in-None-objective
returns-in-None-objective g c = λ t d a is are.
    let v = g.S.StateStore.seen c.args.s.now in
    seeks-more v c.args.chosen d c.in-Seeks.objective (word_of (followed (bindings v.now.state) t)) are (subst (λ (x : Word). ShowsWord v (Some x) (word_of (followed (bindings v.now.state) t))) c.in-Seeks.is (c.in-Some.ensures t a is)) c.in-None-objective.is
