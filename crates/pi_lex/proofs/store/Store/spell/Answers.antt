use Rattle.pi_lex.proofs.KeepLemmas.{kept_referred, span_appended}
use Rattle.pi_lex.proofs.store.Store.spell.Goals as goal

pub refer-requires-clause-span : goal.refer-requires-clause-span
refer-requires-clause-span c = span_appended c.args.self.now.buffer c.push_all.new.buffer _ _ c.in_ok-push_all.ensures.bytes c.len-from.ensures

pub returns : goal.returns
returns c =
    let appended = c.in_ok-push_all.ensures in
    kept_referred c.args.self.now c.refer.new.self c.push_all.new.buffer _ _ c.refer.result c.args.kind _ _ appended.bytes c.len-from.ensures appended.grows c.refer.ensures
