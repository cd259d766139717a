use Rattle.tables_values.proofs.planners.take_steps.Goals as goal

pub loop-preserved : goal.loop-preserved
loop-preserved c = (c.take_step.ensures.sound c.if-not-take_step.false, c.take_step.ensures.idle c.if-not-take_step.false)
