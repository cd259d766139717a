use Rattle.std.proofs.Common.{◌++◌, ap, ◌∙◌}
use Rattle.pi_resume.specs.Scanned.{scanned_on}
use Rattle.pi_resume.proofs.TokenLemmas.{point-ends, digit-goes-on}
use Rattle.pi_resume.proofs.reader.go_on.Goals as goal

pub returns-in_ok-push : goal.returns-in_ok-push
returns-in_ok-push c = λ rest. ap (λ ns. ns ++ scanned_on rest 0) c.in_ok-push.ensures.ok ∙ point-ends c.args.path.now rest c.args.value c.args.byte c.if-byte-eq46.true

pub returns-else-byte-eq46 : goal.returns-else-byte-eq46
returns-else-byte-eq46 c = λ rest. digit-goes-on c.args.path.now rest c.args.value c.args.byte c.with_digit.result c.if-byte-eq46.false c.with_digit.ensures
