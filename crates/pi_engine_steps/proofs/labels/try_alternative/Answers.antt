use Rattle.std.proofs.Common.{inl, inr, subst}
use Rattle.std.specs.Prelude.{option_map}
use Rattle.pi_settling.specs.Choices.{alternatives as alternatives_of, left_by, narrowed_to}
use Rattle.pi_label.specs.Follows.{Follows}
use Rattle.pi_label.specs.Words.{value_word, alternative_of}
use Rattle.pi_engine_arenas.specs.Arenas.{view_of}
use Rattle.pi_engine_stands.specs.Goes.{Ticks, counting}
use Rattle.pi_engine_stands.specs.Settling.{NextLeft}
use Rattle.pi_engine_stands.specs.Stands.{World, world}
use Rattle.pi_engine_stands.proofs.AlternativesStand.{alone_at, alternative-tried, alternative-found}
use Rattle.pi_engine_steps.proofs.labels.try_alternative.Goals as goal

pub returns-in_default-clause-tries : goal.returns-in_default-clause-tries
returns-in_default-clause-tries g c = λ l named name args p alts b es it.
    let run = c.args.run.now in
    let left = c.args.left in
    let w : World _ = world l (g.S.StateStore.seen run.store) g.S.StateStore.order (view_of run.arenas) in
    absurd (alternative-found w c.args.back c.args.place left name args p alts b es named it
    (λ d state domain. subst (λ r. Follows (alternatives_of (value_word left.word) d) (option_map alternative_of left.after) (option_map alternative_of r)) c.in_default.is (c.next_choice.ensures d state domain)))

pub returns-then-tick-clause-tries : goal.returns-then-tick-clause-tries
returns-then-tick-clause-tries g c = λ l named name args p alts b es it.
    let run = c.args.run.now in
    let left = c.args.left in
    let tried = c.in-Some.choice in
    let next = c.in_ok-next.next in
    let point = alone_at c.args.back c.args.place in
    let w : World _ = world l (g.S.StateStore.seen run.store) g.S.StateStore.order (view_of run.arenas) in
    let u = g.S.StateStore.seen c.narrowed.new.store in
    let a = view_of c.leave_later.new.arenas in
    let ticks = subst (Ticks c.args.mode c.args.budget.now c.tick.new.budget run.now c.tick.new.now) c.if-tick.true c.tick.ensures.ticks in
    alternative-tried w u a c.args.back c.args.place left tried name args p alts b es (counting c.args.mode c.args.budget.now c.tick.new.budget) next next named it c.narrowed.ensures.keeps
    (λ d rests domain.
    let all = alternatives_of (value_word left.word) d in
    let later = c.leave_later.ensures d rests.calm.state domain in
    record {
      found = subst (λ r. Follows all (option_map alternative_of left.after) (option_map alternative_of r)) c.in-Some.is (c.next_choice.ensures d rests.calm.state domain);
      next = later.0;
      follows = later.1;
      keeps = later.2;
      comes = subst (λ q. NextLeft w.store.now.state (narrowed_to w.store.now.state left.variable (left_by (alternative_of tried) d)) u.now.state q next) c.alone-point.ensures (c.in_ok-next.ensures.next d rests domain);
    })
    (λ x stands. inl (ticks.0, stands))

pub returns-else-tick-clause-tries : goal.returns-else-tick-clause-tries
returns-else-tick-clause-tries g c = λ l named name args p alts b es it.
    let run = c.args.run.now in
    let left = c.args.left in
    let tried = c.in-Some.choice in
    let next = c.in_ok-next.next in
    let point = alone_at c.args.back c.args.place in
    let w : World _ = world l (g.S.StateStore.seen run.store) g.S.StateStore.order (view_of run.arenas) in
    let u = g.S.StateStore.seen c.narrowed.new.store in
    let a = view_of c.leave_later.new.arenas in
    let ticks = subst (Ticks c.args.mode c.args.budget.now c.tick.new.budget run.now c.tick.new.now) c.if-tick.false c.tick.ensures.ticks in
    alternative-tried w u a c.args.back c.args.place left tried name args p alts b es (counting c.args.mode c.args.budget.now c.tick.new.budget) next c.tick.new.now named it c.narrowed.ensures.keeps
    (λ d rests domain.
    let all = alternatives_of (value_word left.word) d in
    let later = c.leave_later.ensures d rests.calm.state domain in
    record {
      found = subst (λ r. Follows all (option_map alternative_of left.after) (option_map alternative_of r)) c.in-Some.is (c.next_choice.ensures d rests.calm.state domain);
      next = later.0;
      follows = later.1;
      keeps = later.2;
      comes = subst (λ q. NextLeft w.store.now.state (narrowed_to w.store.now.state left.variable (left_by (alternative_of tried) d)) u.now.state q next) c.alone-point.ensures (c.in_ok-next.ensures.next d rests domain);
    })
    (λ x stands. inr ticks)
