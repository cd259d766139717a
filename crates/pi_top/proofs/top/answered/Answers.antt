use Rattle.std.proofs.Common.{map, refl}
use Rattle.std.specs.String.{string_bytes}
use Rattle.pi_outside.proofs.InputRuns.{ByInput-none, ByInput-so}
use Rattle.pi_outside.proofs.ReadRuns.{ByReads-none, ByReads-so}
use Rattle.pi_outside.proofs.WriteRuns.{ByWrites-none, ByWrites-so}
use Rattle.pi_top_words.specs.declared.run_mode.RunMode.TheVariants.{Query, Run, Session, Print, Demo}
use Rattle.pi_top_words.specs.Words.{options}
use Rattle.pi_top_words.proofs.AskedWords.{some-answer, demo-places}
use Rattle.pi_top.specs.Faults.{counted}
use Rattle.pi_top.proofs.SessionEndings.{file-unread}
use Rattle.pi_top.proofs.Endings.{by-demo, by-file, by-nothing, by-usage, no-unread}
use Rattle.pi_top.proofs.SessionStatuses.{none-asks, other-asks, is-asked, asks-this}
use Rattle.pi_top.proofs.top.answered.Goals as goal

-- ---- the words ask nothing, or aren't read

pub returns-in-Err-NoRecord-clause-answers : goal.returns-in-Err-NoRecord-clause-answers
returns-in-Err-NoRecord-clause-answers g c =
    let files = counted (g.F.Files.faults c.args.files.now) (g.F.Files.faults c.args.files.now) in
    let line = c.ended.ensures in
    ByReads-none g.F.Files.has_read c.args.files.now _ (ByWrites-so line.told (λ writes told. λ none no_session.
    by-usage (map string_bytes c.args.words.now) (g.F.Files.held c.args.files.now) files c.args.queries.now c.ended.result writes
    (c.in-Err-NoRecord.ensures.no_record c.in-Err-NoRecord.field-0-is) refl none line.status line.stops told))

pub returns-in-Err-NoRecord-clause-session : goal.returns-in-Err-NoRecord-clause-session
returns-in-Err-NoRecord-clause-session g c =
    ByReads-none g.F.Files.has_read c.args.files.now _ (ByInput-none g.I.Source.has_read g.I.Source.rest c.args.input.now _ (ByWrites-so c.ended.ensures.told (λ writes told. λ none asked is.
    none-asks (options (map string_bytes c.args.words.now)) asked (c.in-Err-NoRecord.ensures.no_record c.in-Err-NoRecord.field-0-is) is)))

pub returns-in-Err-NoRecord-clause-spent : goal.returns-in-Err-NoRecord-clause-spent
returns-in-Err-NoRecord-clause-spent g c = λ asked is. none-asks (options (map string_bytes c.args.words.now)) asked (c.in-Err-NoRecord.ensures.no_record c.in-Err-NoRecord.field-0-is) is

pub returns-in-Err-Memory-clause-answers : goal.returns-in-Err-Memory-clause-answers
returns-in-Err-Memory-clause-answers g c =
    let files = counted (g.F.Files.faults c.args.files.now) (g.F.Files.faults c.args.files.now) in
    ByReads-none g.F.Files.has_read c.args.files.now _ (ByWrites-none g.O.Sink.wrote g.O.Sink.taken c.args.out.now _ (λ none no_session.
    by-nothing (options (map string_bytes c.args.words.now)) (g.F.Files.held c.args.files.now) files c.args.queries.now no_session refl none))

pub returns-in-Err-Memory-clause-session : goal.returns-in-Err-Memory-clause-session
returns-in-Err-Memory-clause-session g c =
    ByReads-none g.F.Files.has_read c.args.files.now _ (ByInput-none g.I.Source.has_read g.I.Source.rest c.args.input.now _ (ByWrites-none g.O.Sink.wrote g.O.Sink.taken c.args.out.now _ (λ none asked is.
    file-unread asked (g.F.Files.held c.args.files.now) c.args.most _ _ c.args.queries.now refl refl none)))

pub returns-in-Err-Memory-clause-spent : goal.returns-in-Err-Memory-clause-spent
returns-in-Err-Memory-clause-spent g c = λ asked is. tt

-- ---- the mode `query`

pub returns-in-Query-clause-unread : goal.returns-in-Query-clause-unread
returns-in-Query-clause-unread g c = λ none. absurd (no-unread (map string_bytes c.args.words.now) c.in-Ok.asked Query c.in-Ok.ensures.ok c.in-Query.is refl none)

pub returns-in-Query-clause-answers : goal.returns-in-Query-clause-answers
returns-in-Query-clause-answers g c =
    let words = map string_bytes c.args.words.now in
    let run = c.asked_of_file in
    let files = counted (g.F.Files.faults c.args.files.now) (g.F.Files.faults run.new.files) in
    ByReads-so run.ensures.answers (λ reads by. ByWrites-so by (λ writes answers. λ none no_session.
    by-file words c.in-Ok.asked (g.F.Files.held run.new.files) files run.new.queries run.result reads writes c.in-Ok.ensures.ok Query c.in-Query.is refl
    (answers (some-answer words c.in-Ok.asked c.in-Ok.ensures.ok) none)))

pub returns-in-Query-clause-session : goal.returns-in-Query-clause-session
returns-in-Query-clause-session g c =
    ByReads-so c.asked_of_file.ensures.answers (λ reads by. ByInput-none g.I.Source.has_read g.I.Source.rest c.args.input.now _ (ByWrites-so by (λ writes answers. λ none asked is.
    other-asks (options (map string_bytes c.args.words.now)) c.in-Ok.asked asked Query c.in-Ok.ensures.ok c.in-Query.is refl is)))

pub returns-in-Query-clause-spent : goal.returns-in-Query-clause-spent
returns-in-Query-clause-spent g c = λ asked is. other-asks (options (map string_bytes c.args.words.now)) c.in-Ok.asked asked Query c.in-Ok.ensures.ok c.in-Query.is refl is

-- ---- the mode `run`

pub returns-in-Run-clause-unread : goal.returns-in-Run-clause-unread
returns-in-Run-clause-unread g c = λ none. absurd (no-unread (map string_bytes c.args.words.now) c.in-Ok.asked Run c.in-Ok.ensures.ok c.in-Run.is refl none)

pub returns-in-Run-clause-answers : goal.returns-in-Run-clause-answers
returns-in-Run-clause-answers g c =
    let words = map string_bytes c.args.words.now in
    let run = c.asked_of_file-in-Run in
    let files = counted (g.F.Files.faults c.args.files.now) (g.F.Files.faults run.new.files) in
    ByReads-so run.ensures.answers (λ reads by. ByWrites-so by (λ writes answers. λ none no_session.
    by-file words c.in-Ok.asked (g.F.Files.held run.new.files) files run.new.queries run.result reads writes c.in-Ok.ensures.ok Run c.in-Run.is refl
    (answers (some-answer words c.in-Ok.asked c.in-Ok.ensures.ok) none)))

pub returns-in-Run-clause-session : goal.returns-in-Run-clause-session
returns-in-Run-clause-session g c =
    ByReads-so c.asked_of_file-in-Run.ensures.answers (λ reads by. ByInput-none g.I.Source.has_read g.I.Source.rest c.args.input.now _ (ByWrites-so by (λ writes answers. λ none asked is.
    other-asks (options (map string_bytes c.args.words.now)) c.in-Ok.asked asked Run c.in-Ok.ensures.ok c.in-Run.is refl is)))

pub returns-in-Run-clause-spent : goal.returns-in-Run-clause-spent
returns-in-Run-clause-spent g c = λ asked is. other-asks (options (map string_bytes c.args.words.now)) c.in-Ok.asked asked Run c.in-Ok.ensures.ok c.in-Run.is refl is

-- ---- the mode `print`

pub returns-in-Print-clause-unread : goal.returns-in-Print-clause-unread
returns-in-Print-clause-unread g c = λ none. absurd (no-unread (map string_bytes c.args.words.now) c.in-Ok.asked Print c.in-Ok.ensures.ok c.in-Print.is refl none)

pub returns-in-Print-clause-answers : goal.returns-in-Print-clause-answers
returns-in-Print-clause-answers g c =
    let words = map string_bytes c.args.words.now in
    let run = c.asked_of_file-in-Print in
    let files = counted (g.F.Files.faults c.args.files.now) (g.F.Files.faults run.new.files) in
    ByReads-so run.ensures.answers (λ reads by. ByWrites-so by (λ writes answers. λ none no_session.
    by-file words c.in-Ok.asked (g.F.Files.held run.new.files) files run.new.queries run.result reads writes c.in-Ok.ensures.ok Print c.in-Print.is refl
    (answers (some-answer words c.in-Ok.asked c.in-Ok.ensures.ok) none)))

pub returns-in-Print-clause-session : goal.returns-in-Print-clause-session
returns-in-Print-clause-session g c =
    ByReads-so c.asked_of_file-in-Print.ensures.answers (λ reads by. ByInput-none g.I.Source.has_read g.I.Source.rest c.args.input.now _ (ByWrites-so by (λ writes answers. λ none asked is.
    other-asks (options (map string_bytes c.args.words.now)) c.in-Ok.asked asked Print c.in-Ok.ensures.ok c.in-Print.is refl is)))

pub returns-in-Print-clause-spent : goal.returns-in-Print-clause-spent
returns-in-Print-clause-spent g c = λ asked is. other-asks (options (map string_bytes c.args.words.now)) c.in-Ok.asked asked Print c.in-Ok.ensures.ok c.in-Print.is refl is

-- ---- the mode `demo`

pub returns-in-Demo-clause-answers : goal.returns-in-Demo-clause-answers
returns-in-Demo-clause-answers g c =
    let words = map string_bytes c.args.words.now in
    let files = counted (g.F.Files.faults c.args.files.now) (g.F.Files.faults c.args.files.now) in
    ByReads-none g.F.Files.has_read c.args.files.now _ (ByWrites-so c.asked_of_demo.ensures.answers (λ writes answers. λ none no_session.
    by-demo words c.in-Ok.asked (g.F.Files.held c.args.files.now) files c.asked_of_demo.new.queries c.asked_of_demo.result writes c.in-Ok.ensures.ok c.in-Demo.is
    (answers (some-answer words c.in-Ok.asked c.in-Ok.ensures.ok) (demo-places words c.in-Ok.asked c.in-Ok.ensures.ok c.in-Demo.is) none files refl)))

pub returns-in-Demo-clause-session : goal.returns-in-Demo-clause-session
returns-in-Demo-clause-session g c =
    ByReads-none g.F.Files.has_read c.args.files.now _ (ByInput-none g.I.Source.has_read g.I.Source.rest c.args.input.now _ (ByWrites-so c.asked_of_demo.ensures.answers (λ writes answers. λ none asked is.
    other-asks (options (map string_bytes c.args.words.now)) c.in-Ok.asked asked Demo c.in-Ok.ensures.ok c.in-Demo.is refl is)))

pub returns-in-Demo-clause-spent : goal.returns-in-Demo-clause-spent
returns-in-Demo-clause-spent g c = λ asked is. other-asks (options (map string_bytes c.args.words.now)) c.in-Ok.asked asked Demo c.in-Ok.ensures.ok c.in-Demo.is refl is

-- ---- the mode `session`

pub returns-clause-unread : goal.returns-clause-unread
returns-clause-unread g c = λ none. absurd (no-unread (map string_bytes c.args.words.now) c.in-Ok.asked Session c.in-Ok.ensures.ok c.in-Session.is refl none)

pub returns-clause-no_input : goal.returns-clause-no_input
returns-clause-no_input g c = λ no_session. is-asked (options (map string_bytes c.args.words.now)) c.in-Ok.asked c.in-Ok.ensures.ok c.in-Session.is no_session

pub returns-clause-spent : goal.returns-clause-spent
returns-clause-spent g c = λ asked is. c.session_of_file.ensures.spent

pub returns-clause-answers : goal.returns-clause-answers
returns-clause-answers g c =
    ByReads-so c.session_of_file.ensures.answers (λ reads by. ByWrites-so by.holds (λ writes answers. λ none no_session.
    is-asked (options (map string_bytes c.args.words.now)) c.in-Ok.asked c.in-Ok.ensures.ok c.in-Session.is no_session))

pub returns-clause-session : goal.returns-clause-session
returns-clause-session g c =
    let words = map string_bytes c.args.words.now in
    let run = c.session_of_file in
    ByReads-so run.ensures.answers (λ reads by. ByInput-so by (λ inputs by_writes. ByWrites-so by_writes (λ writes answers. λ none asked is.
    asks-this words c.in-Ok.asked asked _ _ _ _ _ run.result reads inputs writes c.in-Ok.ensures.ok is (answers (some-answer words c.in-Ok.asked c.in-Ok.ensures.ok) none))))
