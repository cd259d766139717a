use Rattle.std.proofs.Common.{◌≡◌, ◌∙◌, ap, sym, subst}
use Rattle.std.proofs.lemmas.Slice.Eq.{bytes_eq-Decides}
use Rattle.pi_resume.specs.Token.{token}
use Rattle.pi_resume.specs.Scanned.{MayName, scanned}
use Rattle.pi_resume.proofs.TokenLemmas.{body-is, scanned-is, names-path}
use Rattle.pi_resume.proofs.reader.read_path.Goals as goal

pub returns-then-not-may_name-clause-bad : goal.returns-then-not-may_name-clause-bad
returns-then-not-may_name-clause-bad c = λ bad path is.
    let read : c.in-Ok.path ≡ path = c.in-Ok.ensures ∙ (ap scanned c.without_line_feed-body.ensures ∙ scanned-is c.args.text.now path is) in
    let may : MayName c.as_slice.result.now = subst MayName (sym (c.as_slice.ensures ∙ read)) (record { long = is.long; numbers = is.numbers }) in
    let yes_it_may = c.may_name.ensures.1 may in
    let no_it_may_not = c.if-not-may_name.true in
    absurd cc

pub returns-then-eq-clause-read : goal.returns-then-eq-clause-read
returns-then-eq-clause-read c =
    let may : MayName c.in-Ok.path = subst MayName c.as_slice.ensures (c.may_name.ensures.0 c.if-not-may_name.false) in
    let same : c.as_bytes.result.now ≡ c.without_line_feed-body.result.now = (bytes_eq-Decides c.as_bytes.result.now c.without_line_feed-body.result.now).0 (sym c.eq.ensures ∙ c.if-eq.true) in
    let written : c.as_bytes.result.now ≡ token c.in-Ok.path = c.as_bytes.ensures.value ∙ (c.as_str.ensures ∙ c.in-Ok-path_text.ensures) in
    names-path c.args.text.now c.in-Ok.path may.numbers may.long (sym written ∙ (same ∙ c.without_line_feed-body.ensures))

pub returns-else-eq-clause-bad : goal.returns-else-eq-clause-bad
returns-else-eq-clause-bad c = λ bad path is.
    let read : c.in-Ok.path ≡ path = c.in-Ok.ensures ∙ (ap scanned c.without_line_feed-body.ensures ∙ scanned-is c.args.text.now path is) in
    let written : c.as_bytes.result.now ≡ token c.in-Ok.path = c.as_bytes.ensures.value ∙ (c.as_str.ensures ∙ c.in-Ok-path_text.ensures) in
    let same : c.as_bytes.result.now ≡ c.without_line_feed-body.result.now = written ∙ (ap token read ∙ (sym (body-is c.args.text.now path is) ∙ sym c.without_line_feed-body.ensures)) in
    let found = (bytes_eq-Decides c.as_bytes.result.now c.without_line_feed-body.result.now).1 same in
    let test = c.eq.ensures in
    let other = c.if-eq.false in
    absurd cc
