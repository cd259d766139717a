use Rattle.std.proofs.Common.{refl, sym}
use Rattle.pi_expr_phrases.specs.Machine as m
use Rattle.pi_expr.proofs.StepLemmas.{continues_no}
use Rattle.pi_syntax.specs.ExpTree.{one_exp, no_exps}
use Rattle.pi_expr.proofs.go_on.go_on_mark.Goals as goal

pub returns-in-Plus : goal.returns-in-Plus
returns-in-Plus c = λ fs e h. rw c.in-Plus.is (c.join.ensures fs e h)

pub returns-in-Minus : goal.returns-in-Minus
returns-in-Minus c = λ fs e h. rw c.in-Minus.is (c.join-in-Minus.ensures fs e h)

pub returns-in-Dots : goal.returns-in-Dots
returns-in-Dots c = λ fs e h. rw (c.in-Dots.is, sym c.rank-rank.ensures) (c.open_when.ensures fs (m.range_from e) (e, (refl, h)))

pub returns-in-Power : goal.returns-in-Power
returns-in-Power c = λ fs e h. rw (c.in-Power.is, sym c.rank-rank.ensures) (c.open_when-in-Power.ensures fs (m.power e) (e, (refl, h)))

pub returns-in_ok-units-in-Comma : goal.returns-in_ok-units-in-Comma
returns-in_ok-units-in-Comma c = λ fs e h. rw (c.in-Comma.is, sym c.rank-rank.ensures) (c.open_when-in-Comma.ensures fs (m.conjuncts (one_exp e)) (e, (no_exps, (refl, c.in_ok-units-in-Comma.ensures e h))))

pub returns-in_ok-parts-in-Semicolon : goal.returns-in_ok-parts-in-Semicolon
returns-in_ok-parts-in-Semicolon c = λ fs e h. rw (c.in-Semicolon.is, sym c.rank-rank.ensures) (c.open_when-in-Semicolon.ensures fs (m.branches (one_exp e)) (e, (no_exps, (refl, c.in_ok-parts-in-Semicolon.ensures e h))))

pub returns-in-Arrow : goal.returns-in-Arrow
returns-in-Arrow c = λ fs e h. rw (c.in-Arrow.is, sym c.rank-rank.ensures) (c.open_when-in-Arrow.ensures fs (m.arrow e) (e, (refl, h)))

pub returns-in-OpenBracket : goal.returns-in-OpenBracket
returns-in-OpenBracket c = λ fs e h. rw (c.in-OpenBracket.is, sym c.rank-rank.ensures) (c.index.ensures fs e h)

pub returns-in-Dot : goal.returns-in-Dot
returns-in-Dot c = λ fs e h. rw (c.in-Dot.is, sym c.rank-rank.ensures) (c.dot.ensures fs e h)

pub returns-in_default : goal.returns-in_default
returns-in_default c = λ fs e h. rw (continues_no fs _ c.args.indexable e c.args.mark _ c.in_default.not-Plus c.in_default.not-Minus c.in_default.not-Dots c.in_default.not-Power c.in_default.not-Comma c.in_default.not-Semicolon c.in_default.not-Arrow c.in_default.not-OpenBracket c.in_default.not-Dot) (c.refuse.ensures fs)
