use Rattle.std.proofs.Common.{◌-◌, arith}
use Rattle.std.proofs.lemmas.Result.{IfOk-from_err}
use Rattle.pi_unify.proofs.KeepsLemmas.{stays_then}
use Rattle.pi_lib.proofs.StoreLemmas.{stays_none}
use Rattle.pi_lib.proofs.TextLists.{no_characters, one_character, all_characters}
use Rattle.pi_lib.proofs.lists.put_characters.Goals as goal

pub loop-k-init : goal.loop-k-init
loop-k-init g c = record {
  stays = c.in_ok-list.ensures.ok.changes;
  list = no_characters (g.S.StateStore.seen c.put_atom.new.self) c.in_ok-list.list c.in_ok-characters.characters.items _ (omega arith) c.in_ok-list.ensures.ok.term;
}

pub loop-k-preserved : goal.loop-k-preserved
loop-k-preserved g c =
    let v = g.S.StateStore.seen c.args.s.now in
    let w = g.S.StateStore.seen c.loop-k.s in
    let x = g.S.StateStore.seen c.put_character.new.s in
    let y = g.S.StateStore.seen c.put_comp.new.self in
    record {
      stays = stays_then v x y v.now.state (stays_then v w x v.now.state c.loop-k.invariant.stays c.in_ok-character.ensures.stays) c.in_ok-list-2.ensures.stays;
      list = one_character v x y c.in_ok-character.character c.loop-k.list c.in_ok-list-2.list c.in_ok-characters.characters.items c.index.result.now (c.loop-k.k - 1) c.loop-k.k _ (omega arith) (omega arith) c.index.ensures c.in_ok-character.ensures.ok (c.in_ok-character.ensures.stays.keeps.terms c.loop-k.list _ c.loop-k.invariant.list) c.in_ok-list-2.ensures.ok;
    }

pub returns-in_err-characters-clause-stays : goal.returns-in_err-characters-clause-stays
returns-in_err-characters-clause-stays g c = stays_none (g.S.StateStore.seen c.args.s.now)

pub returns-in_err-characters-clause-ok : goal.returns-in_err-characters-clause-ok
returns-in_err-characters-clause-ok g c = IfOk-from_err c.from_residual.result _ c.from_residual.ensures.0

pub returns-in_err-list-clause-stays : goal.returns-in_err-list-clause-stays
returns-in_err-list-clause-stays g c = c.in_err-list.ensures.err

pub returns-in_err-list-clause-ok : goal.returns-in_err-list-clause-ok
returns-in_err-list-clause-ok g c = IfOk-from_err c.from_residual-in_err-list.result _ c.from_residual-in_err-list.ensures.0

pub returns-in_err-character-clause-stays : goal.returns-in_err-character-clause-stays
returns-in_err-character-clause-stays g c =
    let v = g.S.StateStore.seen c.args.s.now in
    stays_then v (g.S.StateStore.seen c.loop-k.s) (g.S.StateStore.seen c.put_character.new.s) v.now.state c.loop-k.invariant.stays c.in_err-character.ensures.stays

pub returns-in_err-character-clause-ok : goal.returns-in_err-character-clause-ok
returns-in_err-character-clause-ok g c = IfOk-from_err c.from_residual-in_err-character.result _ c.from_residual-in_err-character.ensures.0

pub returns-in_err-list-2-clause-stays : goal.returns-in_err-list-2-clause-stays
returns-in_err-list-2-clause-stays g c =
    let v = g.S.StateStore.seen c.args.s.now in
    let x = g.S.StateStore.seen c.put_character.new.s in
    stays_then v x (g.S.StateStore.seen c.put_comp.new.self) v.now.state (stays_then v (g.S.StateStore.seen c.loop-k.s) x v.now.state c.loop-k.invariant.stays c.in_ok-character.ensures.stays) c.in_err-list-2.ensures.stays

pub returns-in_err-list-2-clause-ok : goal.returns-in_err-list-2-clause-ok
returns-in_err-list-2-clause-ok g c = IfOk-from_err c.from_residual-in_err-list-2.result _ c.from_residual-in_err-list-2.ensures.0

pub returns-clause-stays : goal.returns-clause-stays
returns-clause-stays g c = c.loop-k.invariant.stays

pub returns-clause-ok : goal.returns-clause-ok
returns-clause-ok g c =
    all_characters (g.S.StateStore.seen c.loop-k.s) c.loop-k.list c.in_ok-characters.characters.items c.args.text.now c.loop-k.k (omega arith) c.in_ok-characters.ensures.ok c.loop-k.invariant.list
