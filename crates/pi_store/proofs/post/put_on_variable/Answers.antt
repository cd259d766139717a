use Rattle.std.proofs.Common.{◌≡◌, ◌≤◌, length, refl, arith}
use Rattle.pi_store.proofs.AddLemmas.{adds_none}
use Rattle.pi_store.proofs.PutLemmas.{put_one}
use Rattle.pi_store.proofs.post.put_on_variable.Goals as goal

pub returns-then-n-count-clause-ok : goal.returns-then-n-count-clause-ok
returns-then-n-count-clause-ok c =
    let many : c.count.result ≡ length c.args.words.now.variables = c.count.ensures.len in
    let past : c.count.result ≤ c.args.n = c.if-n-count.true in
    (c.args.n, refl, omega arith)

pub returns-then-n-count-clause-adds : goal.returns-then-n-count-clause-adds
returns-then-n-count-clause-adds c = adds_none c.args.words.now c.len-len.ensures.sound

pub returns-clause-ok : goal.returns-clause-ok
returns-clause-ok c = put_one c.args.words.now c.add_along.new.words c.args.n c.args.number c.in_ok-add_along.ensures.ok
