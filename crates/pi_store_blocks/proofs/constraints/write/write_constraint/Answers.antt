use Rattle.pi_store_blocks.specs.Constraint.{numbers_of}
use Rattle.pi_store_blocks.proofs.constraints.write.write_constraint.Goals as goal

pub returns-in_ok-close-in-Ok-clause-ok : goal.returns-in_ok-close-in-Ok-clause-ok
returns-in_ok-close-in-Ok-clause-ok c =
    c.in_ok-close-in-Ok.ensures.ok c.args.words.now (numbers_of c.args.constraint.now) (record { trail = c.len-start.ensures.sound; at = c.len-start.ensures.len }) c.in-Ok.ensures.ok
