use Rattle.std.proofs.Common.{◌≤◌, ◌^◌, length, arith}
use Rattle.pi_store.proofs.NameLemmas.{keeps_itself}
use Rattle.pi_store.proofs.KeepLemmas.{keeps_all}
use Rattle.pi_store.proofs.PostLemmas.{sound_tried, tried_advances, tried_to}
use Rattle.pi_store.proofs.PartLemmas.{refused}
use Rattle.pi_store.proofs.store.RawStore.post.Goals as goal

pub returns-in_err-_posted-clause-err : goal.returns-in_err-_posted-clause-err
returns-in_err-_posted-clause-err c = rw (← c.self.view_is) (refused c.from_residual.result c.self.inside.names c.self.inside.words c.post_constraint.new.words c.in_err-_posted.ensures.err)

pub invariant_of-self-2 : goal.invariant_of-self-2
invariant_of-self-2 c = sound_tried c.self.inside.names c.self.inside.words c.post_constraint.new.words c.args.c.now c.in_ok-_posted._posted c.self.invariant c.in_ok-_posted.ensures.ok

pub returns-clause-keeps : goal.returns-clause-keeps
returns-clause-keeps c =
    let t = c.self.inside.names in
    let i = c.self.inside.words in
    rw (← c.self.view_is) (keeps_all t t i c.post_constraint.new.words (keeps_itself t (length i.region)) (tried_advances i c.post_constraint.new.words c.args.c.now c.in_ok-_posted._posted c.self.invariant.right.trail c.in_ok-_posted.ensures.ok))

pub returns-clause-ok : goal.returns-clause-ok
returns-clause-ok c =
    let i = c.self.inside.words in
    let few : length i.variables ≤ 2 ^ 58 = omega (arith, c.count.ensures.len) in
    rw (← c.self.view_is) (λ may. tried_to c.self.inside.names i c.post_constraint.new.words c.args.c.now c.in_ok-_posted._posted c.self.invariant few c.in_ok-_posted.ensures.ok may)
