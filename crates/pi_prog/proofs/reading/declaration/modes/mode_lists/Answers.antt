use Rattle.std.proofs.Common.{arith}
use Rattle.pi_lex.specs.Kinds.{kinds}
use Rattle.pi_prog.proofs.reading.declaration.ModesLemmas.{goes_more, goes_all}
use Rattle.pi_prog.proofs.reading.declaration.modes.mode_lists.Goals as goal

pub lists-preserved : goal.lists-preserved
lists-preserved c =
    let shows = rw c.in-Found.is at c.in_ok-found.ensures in
    record {
      goes = goes_more (kinds c.args.tokens.now) c.args.from c.lists.end c.in-Found.behind c.args.to _ _ _ c.in_ok-push-in-Found.ensures.ok shows.2 c.lists.invariant.goes;
      ordered = omega (arith, shows.0, c.lists.invariant.ordered);
      within = shows.1;
    }

pub returns-in-Nothing : goal.returns-in-Nothing
returns-in-Nothing c =
    let shows = rw c.in-Nothing.is at c.in_ok-found.ensures in
    record { behind = c.lists.invariant.ordered; within = c.lists.invariant.within; lists = goes_all (kinds c.args.tokens.now) c.args.from c.lists.end c.args.to _ shows c.lists.invariant.goes }
