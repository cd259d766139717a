use Rattle.std.proofs.Common.{arith, ◌≡◌, ◌+◌, ℕ, sym, ◌∙◌, subst}
use Rattle.std.proofs.lemmas.Int.{ints}
use Rattle.std.proofs.lemmas.Bool.{false≢true}
use Rattle.pi_prop_filters.specs.Choices.{AreNumbers}
use Rattle.pi_prop_filters.proofs.ItemLemmas.{numbers_none, numbers_passed, numbers_pushed}
use Rattle.pi_prop_filters.proofs.items.chosen_numbers.Goals as goal
use Rattle.pi_prop_filters.proofs.items.chosen_numbers.Goals.{then-is_chosen+in_ok-push, else-is_chosen}

pub loop-i-init : goal.loop-i-init
loop-i-init g c = subst (AreNumbers c.args.count 1 (g.P.Places.domains c.args.places.now)) (sym c.new-spans.ensures.items) (numbers_none c.args.count (g.P.Places.domains c.args.places.now))

pub loop-i-preserved : goal.loop-i-preserved
loop-i-preserved g c =
    let ds = g.P.Places.domains c.args.places.now in
    elim c.if-is_chosen.branch [
      | then-is_chosen+in_ok-push w ↦ rw w.spans-is (numbers_pushed c.args.count c.loop-i.i ds c.loop-i.spans.items _ _ _ (omega (arith, ints)) (omega (arith, ints)) w.in_ok-push.ensures.items (omega arith) (omega arith) (c.is_chosen.ensures.0 w.if-is_chosen.true) c.loop-i.invariant)
      | else-is_chosen w ↦ rw w.spans-is (numbers_passed c.args.count c.loop-i.i ds c.loop-i.spans.items (λ h. false≢true (sym w.if-is_chosen.false ∙ c.is_chosen.ensures.1 h)) c.loop-i.invariant)
    ]

pub returns : goal.returns
returns g c =
    let all : c.loop-i.i ≡ c.args.count + 1 = omega (arith, c.loop-i-test.false, c.loop-i.auto.i-end) in
    subst (λ (m : ℕ). AreNumbers c.args.count m (g.P.Places.domains c.args.places.now) c.loop-i.spans.items) all c.loop-i.invariant
