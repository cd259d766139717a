use Rattle.std.proofs.Common.{◌≡◌, ◌+◌, ◌-◌, ◌<◌, sym, refl, subst, arith}
use Rattle.pi_core.specs.GoalTree.{nodes}
use Rattle.pi_engine_code.specs.Laid.{Sized}
use Rattle.pi_engine_code.proofs.LaidSizes.{sized-more}
use Rattle.pi_engine_code.proofs.build.sizes.sizes_of.Goals as goal

pub loop-i-init : goal.loop-i-init
loop-i-init c =
    let long : c.len-i.result ≡ nodes c.args.goal.now = omega (arith, c.len-i.ensures, c.in_ok-sizes.ensures.ok.long) in
    (subst (λ n. Sized c.args.goal.now c.in_ok-sizes.sizes.items n) (sym long) c.in_ok-sizes.ensures.ok, omega (arith, long))

pub size_at-requires : goal.size_at-requires
size_at-requires c =
    let up : c.loop-i.i ≡ c.loop-i.i - 1 + 1 = omega (arith, c.loop-i-test.true) in (
      c.args.goal.now,
      omega (arith, c.loop-i-test.true, c.loop-i.invariant.1),
      subst (λ xs. Sized c.args.goal.now xs (c.loop-i.i - 1 + 1)) (sym c.deref.ensures.value) (subst (λ n. Sized c.args.goal.now c.loop-i.sizes.items n) up c.loop-i.invariant.0),
    )

pub index_mut-requires : goal.index_mut-requires
index_mut-requires c = omega (arith, c.loop-i-test.true, c.loop-i.invariant.1, c.loop-i.invariant.0.long)

pub loop-i-preserved : goal.loop-i-preserved
loop-i-preserved c =
    let up : c.loop-i.i ≡ c.loop-i.i - 1 + 1 = omega (arith, c.loop-i-test.true) in
    let within : c.loop-i.i - 1 < nodes c.args.goal.now = omega (arith, c.loop-i-test.true, c.loop-i.invariant.1) in
    let before : Sized c.args.goal.now c.loop-i.sizes.items (c.loop-i.i - 1 + 1) = subst (λ n. Sized c.args.goal.now c.loop-i.sizes.items n) up c.loop-i.invariant.0 in (
      sized-more c.args.goal.now c.loop-i.sizes.items _ (c.loop-i.i - 1) c.size_at.result within before
          (c.size_at.ensures c.args.goal.now within (subst (λ xs. Sized c.args.goal.now xs (c.loop-i.i - 1 + 1)) (sym c.deref.ensures.value) before)) refl,
      omega (arith, within),
    )

pub returns : goal.returns
returns c = record { ok = subst (λ n. Sized c.args.goal.now c.loop-i.sizes.items n) (omega (arith, c.loop-i-test.false)) c.loop-i.invariant.0 }
