use Rattle.std.proofs.Common.{◌≡◌, ◌<◌, length, refl, sym, subst, ◌∙◌, arith}
use Rattle.pi_lex.specs.Kinds.{kinds}
use Rattle.pi_prog.proofs.EndLemmas.{length-kinds}
use Rattle.pi_where.proofs.PlaceLemmas.{IsOpenTo, open_none, open_more, ends_at_point, ends_at_last}
use Rattle.pi_where.proofs.places.part_end.Goals as goal

pub loop-at-init : goal.loop-at-init
loop-at-init c = open_none (kinds c.args.tokens.now) c.args.from

pub returns-then-is_end : goal.returns-then-is_end
returns-then-is_end c =
    let l = c.loop-at in
    let short : l.at < length (kinds c.args.tokens.now) = omega (arith, length-kinds c.args.tokens.now, c.len-count.ensures, c.loop-at-test.true) in
    ends_at_point _ _ _ _ _ refl l.auto.at short c.kind.ensures.token (sym c.is_end.ensures ∙ c.if-is_end.true) l.invariant

pub loop-at-preserved : goal.loop-at-preserved
loop-at-preserved c = open_more _ _ _ _ _ refl c.loop-at.auto.at c.kind.ensures.token (sym c.is_end.ensures ∙ c.if-is_end.false) c.loop-at.invariant

pub returns : goal.returns
returns c =
    let l = c.loop-at in
    let ts = kinds c.args.tokens.now in
    let all : c.len-count.result ≡ length ts = c.len-count.ensures ∙ sym (length-kinds c.args.tokens.now) in
    let some : c.args.from < c.len-count.result = omega (arith, c.len-count.ensures, c.requires) in
    let last : l.at ≡ c.len-count.result = omega (arith, c.loop-at-test.false, l.auto.at-end (omega (arith, some))) in
    ends_at_last ts c.args.from c.len-count.result all some (subst (IsOpenTo ts c.args.from) last l.invariant)
