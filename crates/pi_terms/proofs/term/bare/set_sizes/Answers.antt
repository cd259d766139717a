use Rattle.std.proofs.Common.{arith, ◌-◌, ◌+◌, ◌≡◌, length, ℕ, subst}
use Rattle.pi_terms.proofs.BareLemmas.{SetFrom, round, none_set, all_set}
use Rattle.pi_terms.proofs.term.bare.set_sizes.Goals as goal

pub loop-k-init : goal.loop-k-init
loop-k-init c = none_set _ _ (omega arith)

pub set_size-requires : goal.set_size-requires
set_size-requires c =
    let r = round c.args.cells.now c.loop-k.cells c.requires.0 (length c.args.cells.now - c.loop-k.k) (length c.args.cells.now - 1 - c.loop-k.k) c.requires.1 c.loop-k.invariant (omega arith) (omega arith) in
    record { within = r.within; spelt = r.spelt; behind = r.behind_is }

pub loop-k-preserved : goal.loop-k-preserved
loop-k-preserved c =
    let r = round c.args.cells.now c.loop-k.cells c.requires.0 (length c.args.cells.now - c.loop-k.k) (length c.args.cells.now - 1 - c.loop-k.k) c.requires.1 c.loop-k.invariant (omega arith) (omega arith) in
    let e : length c.args.cells.now - 1 - c.loop-k.k ≡ length c.args.cells.now - (c.loop-k.k + 1) = omega arith in
    let P : ℕ → Type 0 = λ j. SetFrom c.args.cells.now c.set_size.new.cells j in
    subst P e (r.then_set c.set_size.new.cells c.set_size.ensures)

pub returns : goal.returns
returns c = λ t e. all_set c.args.cells.now c.loop-k.cells t (length c.args.cells.now - c.loop-k.k) (omega arith) c.loop-k.invariant e
