use Rattle.std.proofs.Common.{Some, None, subst}
use Rattle.std.specs.Prelude.{option_map}
use Rattle.pi_settling.specs.Choices.{alternatives as alternatives_of}
use Rattle.pi_label.specs.Follows.{Follows}
use Rattle.pi_label.specs.Words.{value_word, alternative_of}
use Rattle.pi_engine_arenas.specs.declared.arenas.Kind.{Kind}
use Rattle.pi_engine_arenas.specs.Arenas.{view_of}
use Rattle.pi_engine_stands.specs.Fails.{those_after}
use Rattle.pi_engine_stands.proofs.BackStand.{drops-newest}
use Rattle.pi_engine_stands.proofs.CallEntries.{arenas-renamed}
use Rattle.pi_engine_steps.proofs.labels.leave_later.Goals as goal

pub returns-in-Some : goal.returns-in-Some
returns-in-Some g c = λ d state domain.
    let a = view_of c.args.arenas.now in
    let b = view_of c.set_newest.new.self in
    let kind = Kind.Alternatives c.args.place (those_after c.args.left c.args.choice) in (
      Some c.in-Some.field-0,
      subst (λ r. Follows (alternatives_of (value_word c.args.left.word) d) (Some (alternative_of c.args.choice)) (option_map alternative_of r)) c.in-Some.is (c.next_choice.ensures d state domain),
      λ x newest. arenas-renamed a b x kind (c.set_newest.ensures.entries x newest) c.set_newest.ensures.blocks c.set_newest.ensures.frames c.set_newest.ensures.level c.set_newest.ensures.collected,
    )

pub returns-in-None : goal.returns-in-None
returns-in-None g c = λ d state domain.
    let a = view_of c.args.arenas.now in
    let b = view_of c.pop.new.self in (
      None,
      subst (λ r. Follows (alternatives_of (value_word c.args.left.word) d) (Some (alternative_of c.args.choice)) (option_map alternative_of r)) c.in-None.is (c.next_choice.ensures d state domain),
      drops-newest a b c.pop.ensures.entries c.pop.ensures.kept c.pop.ensures.slots c.pop.ensures.keeps c.pop.ensures.collected c.pop.ensures.frames c.pop.ensures.level,
    )
