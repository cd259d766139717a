use Rattle.std.proofs.Common.{◌≡◌, ◌<◌, ◌≤◌, length, get_or, ap, ◌∙◌, rules, arith}
use Rattle.std.specs.Prelude.{unwrap_or}
use Rattle.std.proofs.lemmas.List.{get_or_default}
use Rattle.pi_constraints.specs.declared.store.Ref.{Ref}
use Rattle.pi_label.specs.Words.{variable_word, value_word}
use Rattle.pi_label.specs.declared.options.VariableWord.{VariableWord}
use Rattle.pi_label.specs.declared.options.ValueWord.{ValueWord}
use Rattle.pi_label.proofs.WordLemmas.{none-read, one-read, one-refused, all-read, variable-chosen, value-chosen}
use Rattle.pi_label.proofs.reading.read_words.Goals as goal

pub loop-word-init : goal.loop-word-init
loop-word-init g c = λ ts a h. none-read (g.S.StateStore.seen c.args.s.now) ts

pub returns-in-None : goal.returns-in-None
returns-in-None g c = λ ts a h.
    let v = g.S.StateStore.seen c.args.s.now in
    let rs = c.args.words.now in
    let i = c.loop-word.word-index in
    let low : i < length rs = omega (arith, c.loop-word-test.true) in
    let none : Ref = record { number = 0 } in
    let r : Ref = get_or rs i none in
    one-refused v rs ts i r c.loop-word.chosen a h low (get_or_default rs i none r low) (c.loop-word.invariant ts a h) (λ t d is are. c.in-None.ensures t d a is are)

pub loop-word-preserved : goal.loop-word-preserved
loop-word-preserved g c = λ ts a h.
    let v = g.S.StateStore.seen c.args.s.now in
    let rs = c.args.words.now in
    let i = c.loop-word.word-index in
    let low : i < length rs = omega (arith, c.loop-word-test.true) in
    let none : Ref = record { number = 0 } in
    let r : Ref = get_or rs i none in
    one-read v rs ts i r c.loop-word.chosen c.in-Some.more h low (get_or_default rs i none r low) (c.loop-word.invariant ts a h) (λ t d is are. c.in-Some.ensures t d a is are)

pub returns : goal.returns
returns g c = λ ts a h.
    let v = g.S.StateStore.seen c.args.s.now in
    let rs = c.args.words.now in
    let i = c.loop-word.word-index in
    let past : length rs ≤ i = omega (arith, c.loop-word-test.false) in
    let picked : c.unwrap_or.result ≡ unwrap_or c.loop-word.chosen.variable VariableWord.Forward = search rules in
    let tried : c.unwrap_or-2.result ≡ unwrap_or c.loop-word.chosen.value ValueWord.Up = search rules in
    all-read v rs ts i c.loop-word.chosen c.unwrap_or.result c.unwrap_or-2.result h past (c.loop-word.invariant ts a h) (ap variable_word picked ∙ variable-chosen c.loop-word.chosen.variable) (ap value_word tried ∙ value-chosen c.loop-word.chosen.value)
