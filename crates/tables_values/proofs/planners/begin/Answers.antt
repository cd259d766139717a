use Rattle.tables_values.proofs.planners.begin.Goals as goal

pub follow-requires-clause-idle : goal.follow-requires-clause-idle
follow-requires-clause-idle c = c.in-Ok.ensures.begun.waits
