use Rattle.std.proofs.Common.{rules, arith, ◌≡◌, ◌<◌, ◌-◌, ◌++◌, length, sym, ◌∙◌, ap}
use Rattle.pi_lex.proofs.KeepLemmas.{taken_some}
use Rattle.pi_lex.proofs.LineLemmas.{listed_pushed, IsSound-pushed, passed_more}
use Rattle.pi_lex.specs.Store.{listed, Keeps}
use Rattle.pi_lex.proofs.store.Store.push.Goals as goal

pub returns-in_ok-push-clause-listed : goal.returns-in_ok-push-clause-listed
returns-in_ok-push-clause-listed c =
    let old = c.args.self.now in
    let mid = c.keep.new.self in
    let held = taken_some _ _ _ _ _ c.args.line c.in_ok-form.ensures c.in-Some.is in
    let keeps : Keeps old mid = held.1 in
    let before : length mid.feeds.items < c.args.line = omega (arith, c.requires.before, ap length keeps.feeds) in
    let n = c.args.line - 1 - length mid.feeds.items in
    let count : c.len-here.result ≡ length mid.forms.items = omega (arith, c.len-here.ensures) in
    let passed = passed_more mid.feeds.items c.resize.new.self.items c.args.line c.len-here.result before (search rules) in
    listed_pushed old mid c.push.new.self c.resize.new.self c.in-Some.form n c.len-here.result c.args.line c.requires.sound keeps c.in_ok-push.ensures.items passed count
    (omega (arith, before))
    ∙ ap (λ more. listed old ++ more) (sym held.3)

pub returns-in_ok-push-clause-sound : goal.returns-in_ok-push-clause-sound
returns-in_ok-push-clause-sound c =
    let old = c.args.self.now in
    let mid = c.keep.new.self in
    let held = taken_some _ _ _ _ _ c.args.line c.in_ok-form.ensures c.in-Some.is in
    let keeps : Keeps old mid = held.1 in
    let before : length mid.feeds.items < c.args.line = omega (arith, c.requires.before, ap length keeps.feeds) in
    let n = c.args.line - 1 - length mid.feeds.items in
    let count : c.len-here.result ≡ length mid.forms.items = omega (arith, c.len-here.ensures) in
    let passed = passed_more mid.feeds.items c.resize.new.self.items c.args.line c.len-here.result before (search rules) in
    IsSound-pushed old mid c.push.new.self c.resize.new.self c.in-Some.form n c.len-here.result c.requires.sound keeps held.0 c.in_ok-push.ensures.items passed count
