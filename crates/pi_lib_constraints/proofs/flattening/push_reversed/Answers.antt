use Rattle.std.proofs.Common.{◌≡◌, ◌<◌, ◌-◌, suc, length, drop, get_or, reverse, ◌++◌, refl, arith, ap, ◌∙◌}
use Rattle.std.proofs.lemmas.List.{get_or_default}
use Rattle.pi_constraints.specs.declared.store.Ref.{Ref}
use Rattle.pi_lib_constraints.proofs.LeafLemmas.{pushed-none, pushed-more}
use Rattle.pi_lib_constraints.proofs.flattening.push_reversed.Goals as goal

pub loop-k-init : goal.loop-k-init
loop-k-init c = pushed-none c.args.left.now.items c.args.items.now (length c.args.items.now) refl

pub loop-k-preserved : goal.loop-k-preserved
loop-k-preserved c =
    let rs = c.args.items.now in
    let k = c.loop-k.k - 1 in
    let up : c.loop-k.k ≡ suc k = omega (arith, c.loop-k-test.true) in
    let low : k < length rs = omega (arith, c.loop-k-test.true, c.loop-k.auto.k) in
    let none : Ref = record { number = 0 } in
    let r : Ref = get_or rs k none in
    pushed-more c.args.left.now.items c.loop-k.left.items c.push.new.self.items rs k r low (get_or_default rs k none r low) (c.loop-k.invariant ∙ ap (λ n. c.args.left.now.items ++ reverse (drop n rs)) up) c.in_ok-push.ensures.items

pub returns : goal.returns
returns c =
    let none : c.loop-k.k ≡ 0 = omega (arith, c.loop-k-test.false) in
    c.loop-k.invariant ∙ ap (λ n. c.args.left.now.items ++ reverse (drop n c.args.items.now)) none
