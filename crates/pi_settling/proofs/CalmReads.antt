-- What variables readings speak of: if what is read has variables of which this is so, and it is so of all new ones, it is so of the variables of what is posted.
use Rattle.std.specs.Prelude.{◌≡◌, ⊤, ℕ, zero, suc, ◌==◌, ◌≤◌, nat_lt, Bool, true, false, cond, ◌&&◌, List, [], ◌∷◌, ◌++◌, ℤ, pos, negsuc, ◌+ℤ◌, ◌*ℤ◌, Option, Some, None, Ok}
use Rattle.std.specs.Ordering.{int_eq}
use Rattle.std.proofs.Common.{arith, subst}
use Rattle.pi_constraints.specs.declared.constraint.Rel.{Rel}
use Rattle.pi_constraints.specs.declared.constraint.Item.{Item}
use Rattle.pi_constraints.specs.declared.constraint.Constraint.{Constraint}
use Rattle.pi_effects.specs.Range.{has_128_bits}
use Rattle.pi_prop_spec.specs.Places.{sum_places, places_of}
use Rattle.pi_prop_spec.specs.Rules.{magnitude}
use Rattle.pi_prop_spec.specs.Operands.{Operand, number, variable, plus, minus, times, positive, negative, absolute, total, Operands, no_operands, operand}
use Rattle.pi_prop_spec.specs.PostingSums.{Sum, of_number, of_variable, of_item, in_front, with_term, with_terms, scaled_terms, added, scaled, opposite, difference}
use Rattle.pi_prop_spec.specs.Steps.{Refusal, wide_coefficient, Made, Known, Reading, gives, refuses, then, new_variable, posting, linear, have_128_bits, step, constant_of, variable_of_terms, variable_of, side_by, side, product_variable, product_by, product, absolute_variable, absolute_by, absolute_sum, read_operand, read_items}
use Rattle.pi_prop_spec.proofs.GrowLemmas.{after_is, is_known}

-- ---- variables of which Q is so

abbrev pub ItemOnly : (ℕ → Type 0) → Item → Type 0
ItemOnly Q (Item.Var n) = Q n
ItemOnly Q (Item.Int i) = ⊤

-- of each item
unfoldable pub Each : (Item → Type 0) → List Item → Type 0
Each P [] = ⊤
Each P (x ∷ xs) = P x × Each P xs

abbrev pub ItemsOnly : (ℕ → Type 0) → List Item → Type 0
ItemsOnly Q xs = Each (ItemOnly Q) xs

abbrev pub PlacesOnly : (ℕ → Type 0) → Constraint → Type 0
PlacesOnly Q c = ItemsOnly Q (places_of c)

unfoldable pub AllOnly : (ℕ → Type 0) → List Constraint → Type 0
AllOnly Q [] = ⊤
AllOnly Q (c ∷ cs) = PlacesOnly Q c × AllOnly Q cs

unfoldable pub TermsOnly : (ℕ → Type 0) → List (ℤ × ℕ) → Type 0
TermsOnly Q [] = ⊤
TermsOnly Q (t ∷ ts) = Q t.1 × TermsOnly Q ts

abbrev pub SumOnly : (ℕ → Type 0) → Sum → Type 0
SumOnly Q u = TermsOnly Q u.terms

pub each-append : (P : Item → Type 0) (xs ys : List Item) → Each P xs → Each P ys → Each P (xs ++ ys)
unfolding Each
each-append P [] ys h g = g
each-append P (x ∷ xs) ys h g = (h.0, each-append P xs ys h.1 g)

all-behind : (Q : ℕ → Type 0) (cs : List Constraint) (c : Constraint) → AllOnly Q cs → PlacesOnly Q c → AllOnly Q (cs ++ c ∷ [])
unfolding AllOnly
all-behind Q [] c h g = (g, tt)
all-behind Q (d ∷ cs) c h g = (h.0, all-behind Q cs c h.1 g)

pub places-only : (Q : ℕ → Type 0) (ts : List (ℤ × ℕ)) → TermsOnly Q ts → ItemsOnly Q (sum_places ts)
unfolding TermsOnly Each sum_places
places-only Q [] h = tt
places-only Q (t ∷ ts) h = (h.0, places-only Q ts h.1)

-- ---- sums

front-only : (Q : ℕ → Type 0) (c : ℤ) (n : ℕ) (ts : List (ℤ × ℕ)) → Q n → TermsOnly Q ts → TermsOnly Q (in_front c n ts)
unfolding TermsOnly
front-only Q (pos zero) n ts q h = h
front-only Q (pos (suc c)) n ts q h = (q, h)
front-only Q (negsuc c) n ts q h = (q, h)

term-only : (Q : ℕ → Type 0) (c : ℤ) (n : ℕ) (ts : List (ℤ × ℕ)) → Q n → TermsOnly Q ts → TermsOnly Q (with_term c n ts)
unfolding TermsOnly with_term
term-only Q c n [] q h = front-only Q c n [] q tt
term-only Q c n (t ∷ ts) q h = by (term-only Q c n ts q h.1) (nat_lt n t.1) (n == t.1)
  where
    by : TermsOnly Q (with_term c n ts) → (below same : Bool) → TermsOnly Q (cond below (in_front c n (t ∷ ts)) (cond same (in_front (c +ℤ t.0) n ts) (t ∷ with_term c n ts)))
    by rest true same = front-only Q c n (t ∷ ts) q h
    by rest false true = front-only Q (c +ℤ t.0) n ts q h.1
    by rest false false = (h.0, rest)

terms-only : (Q : ℕ → Type 0) (ts us : List (ℤ × ℕ)) → TermsOnly Q ts → TermsOnly Q us → TermsOnly Q (with_terms ts us)
unfolding TermsOnly with_terms
terms-only Q [] us h g = g
terms-only Q (t ∷ ts) us h g = term-only Q t.0 t.1 (with_terms ts us) h.0 (terms-only Q ts us h.1 g)

scaled-only : (Q : ℕ → Type 0) (c : ℤ) (ts : List (ℤ × ℕ)) → TermsOnly Q ts → TermsOnly Q (scaled_terms c ts)
unfolding TermsOnly scaled_terms
scaled-only Q c [] h = tt
scaled-only Q c (t ∷ ts) h = front-only Q (c *ℤ t.0) t.1 (scaled_terms c ts) h.0 (scaled-only Q c ts h.1)

pub number-only : (Q : ℕ → Type 0) (i : ℤ) → SumOnly Q (of_number i)
unfolding TermsOnly
number-only Q i = tt

pub variable-only : (Q : ℕ → Type 0) (n : ℕ) → Q n → SumOnly Q (of_variable n)
unfolding TermsOnly
variable-only Q n q = (q, tt)

pub item-only : (Q : ℕ → Type 0) (x : Item) → ItemOnly Q x → SumOnly Q (of_item x)
item-only Q (Item.Var n) q = variable-only Q n q
item-only Q (Item.Int i) q = number-only Q i

pub added-only : (Q : ℕ → Type 0) (u v : Sum) → SumOnly Q u → SumOnly Q v → SumOnly Q (added u v)
added-only Q u v h g = terms-only Q u.terms v.terms h g

opposite-only : (Q : ℕ → Type 0) (u : Sum) → SumOnly Q u → SumOnly Q (opposite u)
opposite-only Q u h = scaled-only Q (negsuc 0) u.terms h

pub difference-only : (Q : ℕ → Type 0) (u v : Sum) → SumOnly Q u → SumOnly Q v → SumOnly Q (difference u v)
difference-only Q u v h g = added-only Q u (opposite v) h (opposite-only Q v g)

-- ---- readings

-- so of what was made, and of all variables that will be
abbrev pub MadeOnly : (ℕ → Type 0) → Made → Type 0
MadeOnly Q m = AllOnly Q m.constraints × ((n : ℕ) → m.unused ≤ n → Q n)

-- a reading keeps that, and what it reads is good
pub record Reads (Q : ℕ → Type 0) {A : Type 0} (Good : A → Type 0) (r : Reading A) : Type 0 where
  pub each : (m : Made) (k : Known A) → MadeOnly Q m → r m ≡ Ok k → MadeOnly Q k.made × Good k.what

pub gives-reads : (Q : ℕ → Type 0) {A : Type 0} (Good : A → Type 0) (x : A) → Good x → Reads Q Good (gives x)
gives-reads Q {A} Good x h = record { each = λ m k only e. subst (λ (l : Known A). MadeOnly Q l.made × Good l.what) (is_known (record { what = x; made = m }) k e) (only, h) }

pub refuses-reads : (Q : ℕ → Type 0) {A : Type 0} (Good : A → Type 0) (r : Refusal) → Reads Q Good (refuses {A = A} r)
refuses-reads Q Good r = record { each = λ m k only e. absurd cc }

pub then-reads : (Q : ℕ → Type 0) {A B : Type 0} (Good : A → Type 0) (Fine : B → Type 0) (r : Reading A) (f : A → Reading B) → Reads Q Good r → ((x : A) → Good x → Reads Q Fine (f x)) → Reads Q Fine (then r f)
then-reads Q {A} {B} Good Fine r f h g = record {
  each = λ m l only e.
      let b : (k : Known A) × (r m ≡ Ok k) × (f k.what k.made ≡ Ok l) = after_is (r m) f l e in
      let first : MadeOnly Q b.0.made × Good b.0.what = h.each m b.0 only b.1 in
      (g b.0.what first.1).each b.0.made l first.0 b.2;
}

pub posting-reads : (Q : ℕ → Type 0) {A : Type 0} (Good : A → Type 0) (c : Constraint) (r : Reading A) → PlacesOnly Q c → Reads Q Good r → Reads Q Good (posting c r)
posting-reads Q Good c r q h = record {
  each = λ m k only e. h.each (record { unused = m.unused; constraints = m.constraints ++ c ∷ [] }) k (all-behind Q m.constraints c only.0 q, only.1) e;
}

pub new-reads : (Q : ℕ → Type 0) → Reads Q Q new_variable
new-reads Q = record {
  each = λ m k only e.
      let this : MadeOnly Q (record { unused = suc m.unused; constraints = m.constraints }) × Q m.unused = ((only.0, λ n l. only.1 n (omega (arith, l))), only.1 m.unused (omega arith)) in
      subst (λ (l : Known ℕ). MadeOnly Q l.made × Q l.what) (is_known (record { what = m.unused; made = record { unused = suc m.unused; constraints = m.constraints } }) k e) this;
}

pub either-reads : (Q : ℕ → Type 0) {A : Type 0} (Good : A → Type 0) (b : Bool) (r s : Reading A) → Reads Q Good r → Reads Q Good s → Reads Q Good (cond b r s)
either-reads Q Good true r s h g = h
either-reads Q Good false r s h g = g

-- ---- operands

abbrev pub ReadsSum : (ℕ → Type 0) → Reading Sum → Type 0
ReadsSum Q r = Reads Q (SumOnly Q) r

pub step-reads : (Q : ℕ → Type 0) (u : Sum) → SumOnly Q u → ReadsSum Q (step u)
step-reads Q u h = either-reads Q (SumOnly Q) (have_128_bits u.terms && has_128_bits u.constant) (gives u) (refuses wide_coefficient) (gives-reads Q (SumOnly Q) u h) (refuses-reads Q (SumOnly Q) wide_coefficient)

pub linear-only : (Q : ℕ → Type 0) (rel : Rel) (u : Sum) → SumOnly Q u → PlacesOnly Q (linear rel u)
linear-only Q rel u h = places-only Q u.terms h

SomeOnly : (ℕ → Type 0) → Option ℕ → Type 0
SomeOnly Q None = ⊤
SomeOnly Q (Some n) = Q n

its-variable : (Q : ℕ → Type 0) (ts : List (ℤ × ℕ)) (k : ℤ) → TermsOnly Q ts → SomeOnly Q (variable_of_terms ts k)
unfolding TermsOnly SomeOnly
its-variable Q [] k h = tt
its-variable Q (t ∷ []) k h = by (int_eq t.0 (pos 1) && int_eq k (pos 0))
  where
    by : (b : Bool) → SomeOnly Q (cond b (Some t.1) None)
    by true = h.0
    by false = tt
its-variable Q (t ∷ u ∷ ts) k h = tt

side-by : (Q : ℕ → Type 0) (o : Option ℕ) (u : Sum) → SomeOnly Q o → SumOnly Q u → Reads Q Q (side_by o u)
unfolding SomeOnly
side-by Q (Some n) u q h = gives-reads Q Q n q
side-by Q None u q h =
    then-reads Q Q Q new_variable (λ n. posting (linear Rel.Equal (difference (of_variable n) u)) (gives n)) (new-reads Q)
    (λ n p. posting-reads Q Q (linear Rel.Equal (difference (of_variable n) u)) (gives n) (linear-only Q Rel.Equal (difference (of_variable n) u) (difference-only Q (of_variable n) u (variable-only Q n p) h)) (gives-reads Q Q n p))

side-reads : (Q : ℕ → Type 0) (u : Sum) → SumOnly Q u → Reads Q Q (side u)
side-reads Q u h = side-by Q (variable_of u) u (its-variable Q u.terms u.constant h) h

product-variable : (Q : ℕ → Type 0) (x y : ℕ) → Q x → Q y → ReadsSum Q (product_variable x y)
unfolding Each
product-variable Q x y p q =
    then-reads Q Q (SumOnly Q) new_variable (λ z. posting (Constraint.Product (Item.Var z) (Item.Var x) (Item.Var y)) (gives (of_variable z))) (new-reads Q)
    (λ z r. posting-reads Q (SumOnly Q) (Constraint.Product (Item.Var z) (Item.Var x) (Item.Var y)) (gives (of_variable z)) (r, (p, (q, tt))) (gives-reads Q (SumOnly Q) (of_variable z) (variable-only Q z r)))

product-by : (Q : ℕ → Type 0) (c d : Option ℤ) (u v : Sum) → SumOnly Q u → SumOnly Q v → ReadsSum Q (product_by c d u v)
product-by Q (Some c) d u v h g = gives-reads Q (SumOnly Q) (scaled c v) (scaled-only Q c v.terms g)
product-by Q None (Some d) u v h g = gives-reads Q (SumOnly Q) (scaled d u) (scaled-only Q d u.terms h)
product-by Q None None u v h g =
    then-reads Q Q (SumOnly Q) (side u) (λ x. then (side v) (λ y. product_variable x y)) (side-reads Q u h)
    (λ x p. then-reads Q Q (SumOnly Q) (side v) (λ y. product_variable x y) (side-reads Q v g) (λ y q. product-variable Q x y p q))

absolute-by : (Q : ℕ → Type 0) (c : Option ℤ) (u : Sum) → SumOnly Q u → ReadsSum Q (absolute_by c u)
unfolding Each
absolute-by Q (Some c) u h = gives-reads Q (SumOnly Q) (of_number (magnitude c)) (number-only Q (magnitude c))
absolute-by Q None u h =
    then-reads Q Q (SumOnly Q) (side u) absolute_variable (side-reads Q u h)
    (λ x p. then-reads Q Q (SumOnly Q) new_variable (λ z. posting (Constraint.Absolute (Item.Var z) (Item.Var x)) (gives (of_variable z))) (new-reads Q)
    (λ z r. posting-reads Q (SumOnly Q) (Constraint.Absolute (Item.Var z) (Item.Var x)) (gives (of_variable z)) (r, (p, tt)) (gives-reads Q (SumOnly Q) (of_variable z) (variable-only Q z r))))

-- an operand whose reading has only such variables
abbrev pub ReadsOperand : (ℕ → Type 0) → Operand → Type 0
ReadsOperand Q x = ReadsSum Q (read_operand x)

-- and operands that are added to any such sum
pub record ReadsItems (Q : ℕ → Type 0) (xs : Operands) : Type 0 where
  pub onto : (u : Sum) → SumOnly Q u → ReadsSum Q (read_items xs u)

pub number-reads : (Q : ℕ → Type 0) (i : ℤ) → ReadsOperand Q (number i)
unfolding read_operand
number-reads Q i = gives-reads Q (SumOnly Q) (of_number i) (number-only Q i)

pub variable-reads : (Q : ℕ → Type 0) (n : ℕ) → Q n → ReadsOperand Q (variable n)
unfolding read_operand
variable-reads Q n q = gives-reads Q (SumOnly Q) (of_variable n) (variable-only Q n q)

pub plus-reads : (Q : ℕ → Type 0) (x y : Operand) → ReadsOperand Q x → ReadsOperand Q y → ReadsOperand Q (plus x y)
unfolding read_operand
plus-reads Q x y h g =
    then-reads Q (SumOnly Q) (SumOnly Q) (read_operand x) (λ u. then (read_operand y) (λ v. step (added u v))) h
    (λ u p. then-reads Q (SumOnly Q) (SumOnly Q) (read_operand y) (λ v. step (added u v)) g (λ v q. step-reads Q (added u v) (added-only Q u v p q)))

pub minus-reads : (Q : ℕ → Type 0) (x y : Operand) → ReadsOperand Q x → ReadsOperand Q y → ReadsOperand Q (minus x y)
unfolding read_operand
minus-reads Q x y h g =
    then-reads Q (SumOnly Q) (SumOnly Q) (read_operand x) (λ u. then (read_operand y) (λ v. step (difference u v))) h
    (λ u p. then-reads Q (SumOnly Q) (SumOnly Q) (read_operand y) (λ v. step (difference u v)) g (λ v q. step-reads Q (difference u v) (difference-only Q u v p q)))

pub times-reads : (Q : ℕ → Type 0) (x y : Operand) → ReadsOperand Q x → ReadsOperand Q y → ReadsOperand Q (times x y)
unfolding read_operand
times-reads Q x y h g =
    then-reads Q (SumOnly Q) (SumOnly Q) (read_operand x) (λ u. then (read_operand y) (λ v. then (product u v) step)) h
    (λ u p. then-reads Q (SumOnly Q) (SumOnly Q) (read_operand y) (λ v. then (product u v) step) g
    (λ v q. then-reads Q (SumOnly Q) (SumOnly Q) (product u v) step (product-by Q (constant_of u) (constant_of v) u v p q) (step-reads Q)))

pub positive-reads : (Q : ℕ → Type 0) (x : Operand) → ReadsOperand Q x → ReadsOperand Q (positive x)
unfolding read_operand
positive-reads Q x h = then-reads Q (SumOnly Q) (SumOnly Q) (read_operand x) step h (step-reads Q)

pub negative-reads : (Q : ℕ → Type 0) (x : Operand) → ReadsOperand Q x → ReadsOperand Q (negative x)
unfolding read_operand
negative-reads Q x h = then-reads Q (SumOnly Q) (SumOnly Q) (read_operand x) (λ u. step (opposite u)) h (λ u p. step-reads Q (opposite u) (opposite-only Q u p))

pub absolute-reads : (Q : ℕ → Type 0) (x : Operand) → ReadsOperand Q x → ReadsOperand Q (absolute x)
unfolding read_operand
absolute-reads Q x h =
    then-reads Q (SumOnly Q) (SumOnly Q) (read_operand x) (λ u. then (absolute_sum u) step) h
    (λ u p. then-reads Q (SumOnly Q) (SumOnly Q) (absolute_sum u) step (absolute-by Q (constant_of u) u p) (step-reads Q))

pub total-reads : (Q : ℕ → Type 0) (xs : Operands) → ReadsItems Q xs → ReadsOperand Q (total xs)
unfolding read_operand
total-reads Q xs h = h.onto (of_number (pos 0)) (number-only Q (pos 0))

pub no-items-read : (Q : ℕ → Type 0) → ReadsItems Q no_operands
unfolding read_operand
no-items-read Q = record { onto = λ u p. gives-reads Q (SumOnly Q) u p }

pub item-reads : (Q : ℕ → Type 0) (x : Operand) (xs : Operands) → ReadsOperand Q x → ReadsItems Q xs → ReadsItems Q (operand x xs)
unfolding read_operand
item-reads Q x xs h g = record {
  onto = λ u p. then-reads Q (SumOnly Q) (SumOnly Q) (read_operand x) (λ v. then (step (added u v)) (read_items xs)) h
      (λ v q. then-reads Q (SumOnly Q) (SumOnly Q) (step (added u v)) (read_items xs) (step-reads Q (added u v) (added-only Q u v p q)) (λ w r. g.onto w r));
}
