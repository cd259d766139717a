use Rattle.std.proofs.Common.{◌≡◌, refl, subst}
use Rattle.pi_engine_arenas.specs.Arenas.{view_of, ReturnsToNewest, between}
use Rattle.pi_terms.proofs.OptionLemmas.{one-some}
use Rattle.pi_engine_steps.proofs.choices.come_back.Goals as goal

pub returns-in-Some-clause-some : goal.returns-in-Some-clause-some
returns-in-Some-clause-some g c = λ x at.
    let seen = g.S.StateStore.seen in
    let run = c.args.run.now in
    let entry = c.in-Some.entry.now in
    let same : entry ≡ x = one-some _ entry x c.in-Some.ensures.some at in
    let returns : ReturnsToNewest g.S.StateStore.order (between (seen run.store) (seen c.undo.new.self) (view_of run.arenas) (view_of c.come_back.new.self)) entry.back =
    record {
      entry = entry;
      newest_is = c.in-Some.ensures.some;
      back_is = refl;
      comes = record {
        entries = c.come_back.ensures.entries;
        frames = c.come_back.ensures.frames;
        slots = λ kept. c.come_back.ensures.back kept;
        kept = c.come_back.ensures.kept;
        keeps = λ m good kept older. c.come_back.ensures.older m good kept older;
        level = c.come_back.ensures.level;
        collected = c.come_back.ensures.collected;
      };
      returns = c.undo.ensures;
    } in
    subst (λ e. ReturnsToNewest g.S.StateStore.order (between (seen run.store) (seen c.undo.new.self) (view_of run.arenas) (view_of c.come_back.new.self)) e.back) same returns
