use Rattle.pi_lib_solve.proofs.SeekLemmas.{words-shown}
use Rattle.pi_lib_solve.proofs.seeking.plain_words.Goals as goal

pub returns-clause-ok : goal.returns-clause-ok
returns-clause-ok g c = λ o are.
    words-shown (g.S.StateStore.seen c.args.s.now) (g.S.StateStore.seen c.put_atom.new.self) (g.S.StateStore.seen c.put_atom-2.new.self) (g.S.StateStore.seen c.put_list.new.s) c.args.options.now o c.in_ok-variable.variable c.in_ok-value.value
    c.in_ok-made.made c.variable_name.result.now c.value_name.result.now are c.in_ok-variable.ensures.ok.term c.in_ok-value.ensures.ok.changes.keeps c.in_ok-value.ensures.ok.term c.variable_name.ensures c.value_name.ensures c.in_ok-made.ensures.ok
