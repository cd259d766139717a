use Rattle.std.specs.Prelude.{pos, Ok, Err}
use Rattle.std.proofs.Common.{subst}
use Rattle.pi_constraints.specs.declared.constraint.Rel.{Rel}
use Rattle.pi_prop_spec.specs.PostingSums.{of_number, of_item, difference}
use Rattle.pi_prop_spec.specs.Relations.{posts_standing}
use Rattle.pi_prop_spec.specs.Truths.{read_truth}
use Rattle.pi_prop_read.specs.TruthFrames.{ShowsMade}
use Rattle.pi_prop_read.proofs.GoalLemmas.{refused-then, reads-then}
use Rattle.pi_prop_read.proofs.goals.post_known.Goals as goal

pub returns-in-Ok-post_so : goal.returns-in-Ok-post_so
returns-in-Ok-post_so c = λ w m b made.
    let h = subst (λ x. ShowsMade w c.args.making.now x (read_truth b m)) c.in-Ok.is made in
    reads-then (read_truth b) (λ t. posts_standing Rel.Equal (difference (of_item t) (of_number (pos 1)))) m h.made c.in-Ok.truth tt c.post_so.new.making h.is (c.in-Ok-post_so.ensures h.made h.shown)

pub returns-in-Err : goal.returns-in-Err
returns-in-Err c = λ w m b made.
    let h = subst (λ x. ShowsMade w c.args.making.now x (read_truth b m)) c.in-Err.is made in
    refused-then w c.in-Err.stop (read_truth b m) (λ t. posts_standing Rel.Equal (difference (of_item t) (of_number (pos 1)))) h
