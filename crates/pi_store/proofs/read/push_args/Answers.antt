use Rattle.std.proofs.Common.{◌≡◌, ◌<◌, ◌-◌, ◌+◌, ◌∙◌, suc, ap, arith}
use Rattle.pi_terms.specs.Tree.{arg_at}
use Rattle.pi_store.proofs.ReadLemmas.{pushes_none, pushes_more, pushes_all}
use Rattle.pi_store.proofs.read.push_args.Goals as goal

pub loop-k-init : goal.loop-k-init
loop-k-init c = pushes_none c.args.words.now.region c.args.r c.args.count (c.args.count - 0) c.args.stack.now.items (omega arith)

pub returns : goal.returns
returns c = pushes_all c.args.words.now.region c.args.r c.args.count (c.args.count - c.loop-k.k) c.args.stack.now.items c.loop-k.stack.items c.loop-k.invariant (omega arith)

pub loop-k-preserved : goal.loop-k-preserved
loop-k-preserved c =
    let n = c.args.count in
    let k = c.loop-k.k in
    let less : c.loop-k.k < c.args.count = omega arith in
    let from : c.args.count - c.loop-k.k ≡ suc (c.args.count - (c.loop-k.k + 1)) = omega arith in
    let place : c.args.count - 1 - c.loop-k.k ≡ c.args.count - (c.loop-k.k + 1) = omega arith in
    pushes_more c.args.words.now.region c.args.r c.arg.result n (n - k) (n - (k + 1)) c.args.stack.now.items c.loop-k.stack.items c.push.new.self.items c.loop-k.invariant from c.in_ok-push.ensures.items
    (λ h t u same is at. c.arg.ensures h t u same is (ap (arg_at t) place ∙ at))
