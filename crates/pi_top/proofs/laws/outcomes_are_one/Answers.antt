use Rattle.pi_top.proofs.EndingLemmas.{ending-is-one}
use Rattle.pi_top.proofs.Judging.{AreOne}
use Rattle.pi_top.proofs.Refusing.{refused-written, asked-run, one-outcome, one-printed}
use Rattle.pi_top.proofs.laws.outcomes_are_one.Goals as goal

pub returns : goal.returns
returns c =
    let o : AreOne = record { reading = c.one_reading.ensures; verdict = c.one_verdict.ensures.program; goal = c.one_verdict.ensures.goal } in
    record {
      endings = ending-is-one;
      refused = refused-written o;
      run = asked-run o;
      status = λ asked text goal texts more queries runs log status other a b left right. (one-outcome o asked text goal texts more queries runs log status other a b left right).same_status;
      queries = λ asked text goal texts more queries runs log status other a b left right. (one-outcome o asked text goal texts more queries runs log status other a b left right).same_queries;
      printed = λ text texts more queries runs status other a b. let is = one-printed o text queries runs status other texts more a b in (is.same_queries, is.same_status, is.same_texts);
      texts = λ asked text goal texts more queries runs log status other a b left right. (one-outcome o asked text goal texts more queries runs log status other a b left right).same_texts;
    }
