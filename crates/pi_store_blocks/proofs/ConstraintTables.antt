-- Constraints in their table are the same when there is more.
use Rattle.std.proofs.Common.{◌≡◌, ℕ, ◌+◌, ◌≤◌, List, ◌++◌, length, take, refl, ap, ◌∙◌, arith, length-append}
use Rattle.pi_store_blocks.specs.Heap.{Heap, Grows}
use Rattle.pi_store_blocks.specs.Placed.{WritesRight}
use Rattle.pi_store_blocks.proofs.WriteLemmas.{writes_by}
use Rattle.pi_store_blocks.specs.Block.{block_of}
use Rattle.pi_store_blocks.proofs.BlockLemmas.{in_more, say_nothing}
use Rattle.pi_store_blocks.specs.Constraint.{constraint_in}
use Rattle.pi_store_blocks.specs.ConstraintTable.{constraint_at, IsConstraintIn}

-- What a block writes is right behind any words
pub block_right : (h : Heap) (numbers : List ℕ) → WritesRight h (h.words ++ block_of numbers)
block_right h numbers = writes_by h (h.words ++ block_of numbers) (block_of numbers) refl (λ k lt. say_nothing (record h { words = h.words ++ take k (block_of numbers) }) numbers k lt)

-- When there is more

pub constraint_stays : (h k : Heap) → Grows h k → (end : ℕ) → IsConstraintIn h end → IsConstraintIn k end
constraint_stays h k grows end is =
    let long : length k.words ≡ length h.words + length grows.words.0 = ap length grows.words.1 ∙ length-append h.words grows.words.0 in
    let below : end ≤ length h.words = is in
    omega arith

pub same_constraint : (h k : Heap) → Grows h k → (end : ℕ) → IsConstraintIn h end → constraint_at k.words end ≡ constraint_at h.words end
same_constraint h k grows end is = ap (λ ws. constraint_at ws end) grows.words.1 ∙ ap constraint_in (in_more h.words grows.words.0 end is)
