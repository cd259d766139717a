use Rattle.pi_engine_code.proofs.callables.Callables.add.Goals as goal

pub returns : goal.returns
returns c = λ n k. c.in_ok-insert.ensures.updates.0 (record { name = n; arity = k })
