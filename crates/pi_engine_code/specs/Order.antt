-- The order of what facts show: by the predicate, by the place, by what stands there, and by the number of the fact.
use Rattle.std.specs.Prelude.{ℕ, ℤ, pos}
use Rattle.std.specs.Ordering.{nat_cmp, int_cmp, ordering_then}
use Rattle.std.specs.Cmp.{IsTotalOrder, then_total, on_total, nat_cmp_total, int_cmp_total}
use Rattle.std.specs.declared.cmp.Ordering.{Ordering}
use Rattle.pi_engine_code.specs.declared.key.FactKey.{FactKey}
use Rattle.pi_engine_code.specs.declared.key.FactPlace.{FactPlace}
use Rattle.pi_engine_code.specs.declared.key.FactValue.{FactValue}

abbrev pub rank : FactValue → ℕ
rank FactValue.Any = 0
rank (FactValue.Int n) = 1
rank (FactValue.Atom k) = 2

abbrev pub integer : FactValue → ℤ
integer FactValue.Any = pos 0
integer (FactValue.Int n) = n
integer (FactValue.Atom k) = pos 0

abbrev pub atom : FactValue → ℕ
atom FactValue.Any = 0
atom (FactValue.Int n) = 0
atom (FactValue.Atom k) = k

abbrev pub value_order : FactValue → FactValue → Ordering
value_order v w = ordering_then (ordering_then (nat_cmp (rank v) (rank w)) (int_cmp (integer v) (integer w))) (nat_cmp (atom v) (atom w))

abbrev pub place_order : FactPlace → FactPlace → Ordering
place_order p q = ordering_then (ordering_then (nat_cmp p.predicate q.predicate) (nat_cmp p.place q.place)) (value_order p.value q.value)

abbrev pub place_of : FactKey → FactPlace
place_of k = record { predicate = k.predicate; place = k.place; value = k.value }

abbrev pub key : FactPlace → ℕ → FactKey
key at n = record { predicate = at.predicate; place = at.place; number = n; value = at.value }

abbrev pub key_order : FactKey → FactKey → Ordering
key_order j k = ordering_then (place_order (place_of j) (place_of k)) (nat_cmp j.number k.number)

-- they are total orders
pub value_order_total : IsTotalOrder value_order
value_order_total = then_total (then_total (on_total rank nat_cmp_total) (on_total integer int_cmp_total)) (on_total atom nat_cmp_total)

pub place_order_total : IsTotalOrder place_order
place_order_total =
    then_total (then_total (on_total (λ (p : FactPlace). p.predicate) nat_cmp_total) (on_total (λ (p : FactPlace). p.place) nat_cmp_total))
    (on_total (λ (p : FactPlace). p.value) value_order_total)

pub key_order_total : IsTotalOrder key_order
key_order_total = then_total (on_total place_of place_order_total) (on_total (λ (k : FactKey). k.number) nat_cmp_total)
