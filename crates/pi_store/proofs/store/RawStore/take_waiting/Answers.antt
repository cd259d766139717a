use Rattle.std.proofs.Common.{◌<◌, ◌+◌, ◌≡◌, IfOk, OnErr, length, slice_index, ap, sym, subst, ◌∙◌, arith}
use Rattle.pi_constraints.specs.Store.{TakesFirst, Stays}
use Rattle.pi_store.specs.Waiting.{WaitsAt}
use Rattle.pi_store.specs.Heads.{taken_in, SetsHead}
use Rattle.pi_store.specs.Sound.{IsSound}
use Rattle.pi_store.specs.Holding.{heap_of, activation_in, view_of}
use Rattle.pi_store.proofs.PartLemmas.{refused}
use Rattle.pi_store.proofs.WaitLemmas.{waits_at, takes_first, sound_takes, taken_ok, taken_err}
use Rattle.pi_store.proofs.store.RawStore.take_waiting.Goals as goal
use Rattle.pi_store.proofs.store.RawStore.take_waiting.Goals.{in-Ok, in-Err}

pub invariant_of-self : goal.invariant_of-self
invariant_of-self c =
    let t = c.self.inside.names in
    let i = c.self.inside.words in
    let n : c.taken_in-taken.result ≡ taken_in i = c.taken_in-taken.ensures in
    let more : taken_in i < length i.waiting = omega (arith, c.count.ensures.len) in
    elim c.match-count_taken.branch [
      | in-Ok w ↦ sound_takes t i c.count_taken.new.words c.self.invariant more (subst (λ m. SetsHead i c.count_taken.new.words 0 m) (ap (λ m. m + 1) n) w.in-Ok.ensures.ok)
      | in-Err w ↦ subst (IsSound t) (sym w.in-Err.ensures.err) c.self.invariant
    ]

pub returns-clause-ok : goal.returns-clause-ok
returns-clause-ok c =
    let t = c.self.inside.names in
    let i = c.self.inside.words in
    let h = heap_of c.self.inside.names c.self.inside.words in
    let v = view_of c.self.inside.names c.self.inside.words in
    let j = c.count_taken.new.words in
    let x = view_of c.self.inside.names c.count_taken.new.words in
    let n : c.taken_in-taken.result ≡ taken_in i = c.taken_in-taken.ensures in
    let more : taken_in i < length i.waiting = omega (arith, c.count.ensures.len) in
    let word : c.get-word.result ≡ slice_index i.waiting (taken_in i) = c.get-word.ensures ∙ ap (slice_index i.waiting) n in
    let at : WaitsAt h c.get-word.result = subst (WaitsAt h) (sym word) (waits_at t i (taken_in i) c.self.invariant) in
    let first : c.in_ok-first.first ≡ activation_in h (slice_index i.waiting (taken_in i)) = c.in_ok-first.ensures at ∙ ap (activation_in h) word in
    let all : IfOk c.match-count_taken.result (TakesFirst v x) = elim c.match-count_taken.branch [
      | in-Ok w ↦ taken_ok c.match-count_taken.result v x c.in_ok-first.first w.result-is (takes_first t i j c.in_ok-first.first c.self.invariant more w.in-Ok.ensures.advances (subst (λ m. SetsHead i j 0 m) (ap (λ m. m + 1) n) w.in-Ok.ensures.ok) first)
      | in-Err w ↦ taken_err c.match-count_taken.result _ (TakesFirst v x) w.result-is
    ] in
    rw (← c.self.view_is) all

pub returns-clause-err : goal.returns-clause-err
returns-clause-err c =
    let i = c.self.inside.words in
    let all : OnErr c.match-count_taken.result (Stays (view_of c.self.inside.names c.self.inside.words) (view_of c.self.inside.names c.count_taken.new.words)) = elim c.match-count_taken.branch [
      | in-Ok w ↦ subst (λ r. OnErr r (Stays (view_of c.self.inside.names c.self.inside.words) (view_of c.self.inside.names c.count_taken.new.words))) (sym w.result-is) tt
      | in-Err w ↦ refused c.match-count_taken.result c.self.inside.names c.self.inside.words c.count_taken.new.words w.in-Err.ensures.err
    ] in
    rw (← c.self.view_is) all
