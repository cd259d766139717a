use Rattle.std.proofs.Common.{◌≤◌, length, inr, refl, arith}
use Rattle.pi_lex.specs.Kinds.{kinds}
use Rattle.pi_prog.proofs.EndLemmas.{length-kinds}
use Rattle.pi_where.proofs.PlaceLemmas.{begins_next, lacks_from}
use Rattle.pi_where.proofs.places.part_begin.Goals as goal

pub returns-then-at-count : goal.returns-then-at-count
returns-then-at-count c =
    let l = c.loop-part in
    let all : length (kinds c.args.tokens.now) ≤ l.at = omega (arith, length-kinds c.args.tokens.now, c.len-count.ensures, c.if-at-count.true) in
    inr (omega (arith, lacks_from (kinds c.args.tokens.now) l.part l.at all l.invariant, c.loop-part-test.true))

pub loop-part-preserved : goal.loop-part-preserved
loop-part-preserved c = begins_next _ _ _ _ _ refl c.loop-part.invariant c.part_end-at.ensures

pub returns-then-at-count-2 : goal.returns-then-at-count-2
returns-then-at-count-2 c =
    let l = c.loop-part in
    let all : length (kinds c.args.tokens.now) ≤ l.at = omega (arith, length-kinds c.args.tokens.now, c.len-count.ensures, c.if-at-count-2.true) in
    let last : l.part ≤ c.args.number = l.auto.part-end (omega (arith, c.if-number-eq0.false)) in
    inr (omega (arith, lacks_from (kinds c.args.tokens.now) l.part l.at all l.invariant, last))
