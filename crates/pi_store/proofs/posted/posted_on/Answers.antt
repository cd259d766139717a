use Rattle.std.proofs.Common.{◌≡◌, ℕ, List, refl, slice_index, sym, subst, arith}
use Rattle.std.specs.Prelude.{Contains}
use Rattle.std.specs.List.Sorted.{IsNonDecreasing}
use Rattle.pi_store.specs.Lists.{IsOnList}
use Rattle.pi_store.proofs.ScanLemmas.{scan_starts, scan_turns, scan_ends}
use Rattle.pi_store.proofs.posted.posted_on.Goals as goal

pub loop-n-init : goal.loop-n-init
loop-n-init c = scan_starts c.args.words.now c.args.v c.deref-n-items.result.now _ c.new-found.ensures

pub loop-n-preserved : goal.loop-n-preserved
loop-n-preserved c =
    let items : List ℕ = c.deref-n-items.result.now in
    let same : c.in_ok-numbers.numbers.items ≡ c.deref-n-items.result.now = sym c.deref-n-items.ensures.value in
    scan_turns c.args.words.now c.args.v c.deref-n-items.result.now c.loop-n.n-index c.loop-n.least c.loop-n.found (slice_index c.deref-n-items.result.now c.loop-n.n-index) _ _ c.loop-n.invariant
    (subst IsNonDecreasing same c.in_ok-numbers.ensures.ascend) (subst (λ (xs : List ℕ). (k : ℕ) → IsOnList c.args.words.now c.args.v k → Contains xs k) same c.in_ok-numbers.ensures.all) refl c.in_ok-least.ensures

pub returns : goal.returns
returns c =
    let same : c.in_ok-numbers.numbers.items ≡ c.deref-n-items.result.now = sym c.deref-n-items.ensures.value in
    scan_ends c.args.words.now c.args.v c.deref-n-items.result.now c.loop-n.n-index c.loop-n.least c.loop-n.found c.loop-n.invariant
    (subst IsNonDecreasing same c.in_ok-numbers.ensures.ascend) (subst (λ (xs : List ℕ). (k : ℕ) → IsOnList c.args.words.now c.args.v k → Contains xs k) same c.in_ok-numbers.ensures.all) (omega arith)
