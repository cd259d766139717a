use Rattle.tables_values.proofs.planners.give_entry.Goals as goal

pub returns-in-Ok-clause-idle : goal.returns-in-Ok-clause-idle
returns-in-Ok-clause-idle c = λ taken. c.in-Ok.ensures.ok.waits
