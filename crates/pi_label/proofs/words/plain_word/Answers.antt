use Rattle.pi_label.proofs.WordLemmas.{plain-picks, plain-tries, plain-none}
use Rattle.pi_label.proofs.words.plain_word.Goals as goal

pub returns-in-Some : goal.returns-in-Some
returns-in-Some c = plain-picks c.args.name.now c.variable_named.result c.in-Some.word c.variable_named.ensures c.in-Some.is

pub returns-in-Some-value_named : goal.returns-in-Some-value_named
returns-in-Some-value_named c = plain-tries c.args.name.now c.variable_named.result c.value_named.result c.in-Some-value_named.word c.variable_named.ensures c.in-None.is c.value_named.ensures c.in-Some-value_named.is

pub returns-in-None-value_named : goal.returns-in-None-value_named
returns-in-None-value_named c = plain-none c.args.name.now c.variable_named.result c.value_named.result c.variable_named.ensures c.in-None.is c.value_named.ensures c.in-None-value_named.is
