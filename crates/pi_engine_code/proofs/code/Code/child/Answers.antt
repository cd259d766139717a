use Rattle.std.proofs.Common.{◌≡◌, ◌+◌, ◌<◌, ◌^◌, sym, ◌∙◌, ap, subst, arith}
use Rattle.pi_core.specs.GoalTree.{nodes, child}
use Rattle.pi_engine_code.specs.Code.{tables_of, StandsAt, child_place}
use Rattle.pi_engine_code.proofs.CodeLemmas.{child_place-first, child_place-more, stands-child}
use Rattle.pi_core.proofs.GoalPlaces.{nodes-children}
use Rattle.pi_engine_code.proofs.code.Code.child.Goals as goal

pub loop-k-init : goal.loop-k-init
loop-k-init c = λ terms g at within.
    let fits : c.args.place + nodes g < 2 ^ 32 = at.fits in
    omega (arith, child_place-first g c.args.place, nodes-children g)

pub loop-k-preserved : goal.loop-k-preserved
loop-k-preserved c = λ terms g at within.
    let here : c.loop-k.at ≡ child_place g c.args.place c.loop-k._k = c.loop-k.invariant terms g at within in
    let stands : StandsAt (tables_of terms c.args.self.now) c.args.self.now.steps.items c.loop-k.at (child g c.loop-k._k) =
    subst (λ p. StandsAt (tables_of terms c.args.self.now) c.args.self.now.steps.items p (child g c.loop-k._k)) (sym here)
    (stands-child (tables_of terms c.args.self.now) c.args.self.now.steps.items c.args.place g c.loop-k._k at (omega arith)) in
    c.behind-at.ensures terms (child g c.loop-k._k) stands
    ∙ ap (λ n. n + nodes (child g c.loop-k._k)) here
    ∙ sym (child_place-more g c.args.place c.loop-k._k (omega arith))

pub returns : goal.returns
returns c = λ terms g at within.
    let all : c.loop-k._k ≡ c.args.number = omega arith in
    c.loop-k.invariant terms g at within ∙ ap (λ n. child_place g c.args.place n) all
