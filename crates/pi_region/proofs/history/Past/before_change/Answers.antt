use Rattle.pi_region.proofs.HistoryLemmas.{push_before, word_before, filled, replaced_at}
use Rattle.pi_region.proofs.history.Past.before_change.Goals as goal

pub returns-in-Pushed : goal.returns-in-Pushed
returns-in-Pushed c = λ j s e t h. push_before c.args.words.now j c.args.n c.args.end c.args.self c.before_push.result c.args.entry s e t c.in-Pushed.is h c.before_push.ensures

pub returns-in-Filled : goal.returns-in-Filled
returns-in-Filled c = λ j s e t h.
    word_before c.args.words.now j c.args.n c.args.end c.place_at-place.result 0 c.args.self c.before_word.result c.args.entry s e (filled j c.args.entry c.place_at-place.result e t c.in-Filled.is (c.place_at-place.ensures j s.region s.end)) h c.before_word.ensures

pub returns-in-Replaced : goal.returns-in-Replaced
returns-in-Replaced c = λ j s e t h.
    word_before c.args.words.now j c.args.n c.args.end c.place_at-place.result c.old.result c.args.self c.before_word-in-Replaced.result c.args.entry s e
    (replaced_at j c.args.entry c.place_at-place.result c.old.result e t c.in-Replaced.is (c.place_at-place.ensures j s.region s.end) (c.old.ensures j s.region s.end)) h c.before_word-in-Replaced.ensures
