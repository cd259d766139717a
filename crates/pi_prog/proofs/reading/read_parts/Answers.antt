use Rattle.std.proofs.Common.{◌≡◌, length, sym, ◌∙◌, arith}
use Rattle.pi_lex.specs.Kinds.{kinds}
use Rattle.pi_prog.proofs.EndLemmas.{length-kinds}
use Rattle.pi_prog.proofs.reading.PartLemmas.{so_far_start, so_far_all, so_far_rest}
use Rattle.pi_prog.proofs.reading.read_parts.Goals as goal

pub loop-i-init : goal.loop-i-init
loop-i-init c = so_far_start _ _ c.new-parts.ensures.items

pub loop-i-preserved : goal.loop-i-preserved
loop-i-preserved c = c.in_ok-next.ensures c.loop-i.invariant

pub returns-then-from-count : goal.returns-then-from-count
returns-then-from-count c =
    let all : length (kinds c.args.tokens.now) ≡ c.len-count.result = length-kinds c.args.tokens.now ∙ sym c.len-count.ensures in
    so_far_all _ _ _ c.loop-i.i (omega (arith, all)) (omega (arith, all)) c.loop-i.invariant

pub returns : goal.returns
returns c =
    let all : length (kinds c.args.tokens.now) ≡ c.len-count.result = length-kinds c.args.tokens.now ∙ sym c.len-count.ensures in
    so_far_rest _ _ _ _ c.loop-i.i _ _ all (omega arith) c.if-from-count.false c.in_ok-push.ensures.items c.in_ok-part.ensures c.loop-i.invariant
