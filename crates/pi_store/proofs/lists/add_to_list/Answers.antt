use Rattle.std.proofs.Common.{◌≡◌, ◌+◌, ℕ, suc, subst, arith}
use Rattle.pi_store.specs.Heads.{SetsHead}
use Rattle.pi_store.proofs.AddLemmas.{adds_none, adds_by, node_refused, adds_put, is_added}
use Rattle.pi_store.proofs.lists.add_to_list.Goals as goal

pub returns-then-v-ge-MOST_LISTS-clause-adds : goal.returns-then-v-ge-MOST_LISTS-clause-adds
returns-then-v-ge-MOST_LISTS-clause-adds c = adds_none c.args.words.now c.len-len.ensures.sound

pub returns-in_err-end-clause-adds : goal.returns-in_err-end-clause-adds
returns-in_err-end-clause-adds c = adds_by c.args.words.now c.add_node.new.words c.len-len.ensures.sound c.in_err-end.ensures.err

pub returns-in_err-write_head-clause-adds : goal.returns-in_err-write_head-clause-adds
returns-in_err-write_head-clause-adds c =
    node_refused c.args.words.now c.add_node.new.words c.write_head.new.words c.args.number c.args.extra c.list_end-rest.result c.in_ok-end.end c.len-len.ensures.sound c.in_ok-end.ensures.ok c.in_err-write_head.ensures.pads

pub returns-clause-ok : goal.returns-clause-ok
returns-clause-ok c =
    let next : c.args.v + 1 ≡ suc c.args.v = omega arith in
    is_added c.args.words.now c.add_node.new.words c.write_head.new.words c.args.v c.args.number c.args.extra c.list_end-rest.result c.in_ok-end.end c.len-len.ensures.sound c.list_end-rest.ensures c.in_ok-end.ensures.ok
    (subst (λ (n : ℕ). SetsHead c.add_node.new.words c.write_head.new.words n c.in_ok-end.end) next c.in_ok-write_head.ensures.ok)

pub returns-clause-adds : goal.returns-clause-adds
returns-clause-adds c =
    let next : c.args.v + 1 ≡ suc c.args.v = omega arith in
    adds_put c.args.words.now c.add_node.new.words c.write_head.new.words c.args.v c.args.number c.args.extra c.list_end-rest.result c.in_ok-end.end c.len-len.ensures.sound c.list_end-rest.ensures c.in_ok-end.ensures.ok
    (subst (λ (n : ℕ). SetsHead c.add_node.new.words c.write_head.new.words n c.in_ok-end.end) next c.in_ok-write_head.ensures.ok)
