-- Slots in order.
use Rattle.std.proofs.Common.{◌≡◌, ℕ, suc, ◌+◌, ◌-◌, ◌<◌, List, [], ◌∷◌, ◌++◌, ap, sym, ◌∙◌, arith, append_assoc}
use Rattle.pi_terms.specs.Tree.{Tree, var}
use Rattle.pi_meaning.specs.Machine.NamedGoals.{slots_from}

-- the first of those that are left
first-slot : (i k left : ℕ) → left ≡ suc k → slots_from i left ≡ var i ∷ slots_from (suc i) k
unfolding slots_from
first-slot i k left e = ap (slots_from i) e

pub slot-more : (i n : ℕ) (xs ys all : List Tree) → i < n → ys ≡ xs ++ var i ∷ [] → xs ++ slots_from i (n - i) ≡ all → ys ++ slots_from (i + 1) (n - (i + 1)) ≡ all
slot-more i n xs ys all lt e is =
    let one : slots_from i (n - i) ≡ var i ∷ slots_from (suc i) (n - (i + 1)) = first-slot i (n - (i + 1)) (n - i) (omega (arith, lt)) in
    let next : slots_from (i + 1) (n - (i + 1)) ≡ slots_from (suc i) (n - (i + 1)) = ap (λ j. slots_from j (n - (i + 1))) (omega arith) in
    ap (λ r. r ++ slots_from (i + 1) (n - (i + 1))) e ∙ append_assoc xs (var i ∷ []) (slots_from (i + 1) (n - (i + 1))) ∙ ap (λ r. xs ++ var i ∷ r) next ∙ ap (λ r. xs ++ r) (sym one) ∙ is
