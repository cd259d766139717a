-- The value that an expression has by an assignment, and in a state where the items come to that.
use Rattle.std.specs.Prelude.{◌≡◌, ◌⊎◌, ℕ, zero, suc, ◌==◌, ℤ, pos, ◌+ℤ◌, Bool, true, false, cond, List, [], ◌∷◌, map, Some, None, Contains, Result, Ok, Err, refl}
use Rattle.std.proofs.Common.{arith, tests, eqb-true, sym, ◌∙◌, ap, subst, inl, inr}
use Rattle.std.proofs.lemmas.Int.{ints}
use Rattle.pi_terms.specs.Tree.{Tree, var, int, atom, comp}
use Rattle.pi_terms.specs.Variables.{Occurs}
use Rattle.pi_terms.specs.Places.{held}
use Rattle.pi_terms.specs.Substitution.{instance}
use Rattle.pi_constraints.specs.declared.constraint.Item.{Item}
use Rattle.pi_constraints.specs.Value.{value}
use Rattle.pi_constraints.specs.State.{State, bindings, next, followed, SpeaksBelow, IsState}
use Rattle.pi_constraints.proofs.FollowLemmas.{followed_value, followed_unbound}
use Rattle.pi_constraints.proofs.ValueLemmas.{occurs_in_instance, value_goes_by_variables, unbound_is_its_own_value}
use Rattle.pi_prop_spec.specs.Solutions.{value_of, sum_of}
use Rattle.pi_prop_spec.specs.Terms.{operand_of}
use Rattle.pi_prop_spec.specs.PostingSums.{sum_value}
use Rattle.pi_prop_spec.specs.PostingSums as Sums
use Rattle.pi_prop_spec.specs.Steps.{Refusal, Known, read_operand}
use Rattle.pi_prop_spec.specs.Says.{operand_value}
use Rattle.pi_prop_spec.specs.Postings.{Posting, nothing_made, finished}
use Rattle.pi_prop_spec.proofs.PostingLemmas.{operands_have_their_values}
use Rattle.pi_settling.specs.Roots.{root_item, item_of}
use Rattle.pi_settling.specs.Settle.{is_variable}
use Rattle.pi_settling.specs.Reading.{Operand, reads, refuses, constant_of}
use Rattle.pi_settling.specs.Reading as Readings
use Rattle.pi_settling.specs.Read.{operand_as, operand_read, operand_in}
use Rattle.pi_settling.proofs.RootLemmas.{root-by_value, value_later}
use Rattle.pi_label_laws.specs.LabelledLaws.{AreAmong}
use Rattle.pi_label_laws.specs.SolutionLaws.{AreTold}
use Rattle.pi_label_laws.specs.ObjectiveLaws.{value_by, expression_value}
use Rattle.pi_label_laws.proofs.AlikeLemmas.{instance-same}
use Rattle.pi_label_laws.proofs.LabelledLemmas.{same-number}
use Rattle.pi_label_laws.proofs.PickLemmas.{told_value, told-is, told_values, value-told}

-- ---- values by items

variable-is : (n : ℕ) (y : Item) → is_variable n y ≡ true → y ≡ Item.Var n
variable-is n (Item.Var m) e = ap Item.Var (eqb-true m n e)
variable-is n (Item.Int i) e = absurd cc

itself : (n : ℕ) → is_variable n (Item.Var n) ≡ true
itself n = eqb-same n
  where
    eqb-same : (n : ℕ) → (n == n) ≡ true
    eqb-same n = grind (arith, tests)

-- what comes to a variable stands behind an item that doesn't
behind : (s : State) (n : ℕ) (y : Item) (items : List Item) (x : Item) → is_variable n (root_item s y) ≡ false → root_item s x ≡ Item.Var n → Contains (y ∷ items) x → Contains items x
behind s n y items x e at (zero, l, g) = absurd (let same : is_variable n (root_item s y) ≡ true = ap (is_variable n) (ap (root_item s) g ∙ at) ∙ itself n in let none : false ≡ true = sym e ∙ same in cc)
behind s n y items x e at (suc k, l, g) = (k, omega arith, g)

first-found : (s : State) (f : Item → ℤ) (v : ℤ) (n : ℕ) (y : Item) (items : List Item) → (root_item s y ≡ Item.Var n → f y ≡ v) → (x : Item) → root_item s x ≡ Item.Var n → Contains (y ∷ items) x → (Contains items x → value_by s items (map f items) n ≡ v) →
    (b : Bool) → is_variable n (root_item s y) ≡ b → cond b (f y) (value_by s items (map f items) n) ≡ v
first-found s f v n y items here x at there rest true e = here (variable-is n (root_item s y) e)
first-found s f v n y items here x at there rest false e = rest (behind s n y items x e at there)

-- where each item that comes to a variable has one value it has that
pub value-found : (s : State) (f : Item → ℤ) (v : ℤ) (n : ℕ) (items : List Item) → ((x : Item) → Contains items x → root_item s x ≡ Item.Var n → f x ≡ v) → (x : Item) → Contains items x → root_item s x ≡ Item.Var n → value_by s items (map f items) n ≡ v
unfolding value_by
value-found s f v n [] all x (k, l, e) at = absurd (omega arith)
value-found s f v n (y ∷ items) all x there at =
    first-found s f v n y items (all y (0, omega arith, refl)) x at there
    (λ in_rest. value-found s f v n items (λ z z_in root. all z (suc z_in.0, omega (arith, z_in.1), z_in.2) root) x in_rest at) (is_variable n (root_item s y)) refl

-- ---- in a state where the items are told

to-integer : (w : ℕ) (u : Tree) (i : ℤ) → item_of w u ≡ Item.Int i → u ≡ int i
to-integer w (var m) i e = absurd cc
to-integer w (int j) i e = let same : j ≡ i = cc in ap int same
to-integer w (atom name) i e = absurd cc
to-integer w (comp name ts) i e = absurd cc

-- what an item comes to that came to a variable, that variable has as its value
variable-told : (s r : State) (w n : ℕ) (i : ℤ) (u : Tree) → IsState s → IsState r → ((k : ℕ) (t : Tree) → held (bindings s) k ≡ Some t → held (bindings r) k ≡ Some t) → followed (bindings s) (var w) ≡ u → item_of w u ≡ Item.Var n →
    value (bindings r) (var w) ≡ int i → value (bindings r) (var n) ≡ int i
unfolding instance
variable-told s r w n i (var m) is is' kept e at told =
    let same : m ≡ n = same-number m n at in
    let none : held (bindings s) m ≡ None = followed_unbound (bindings s) (var w) m is.acyclic e in
    let before : value (bindings s) (var w) ≡ var m = sym (followed_value (bindings s) (var w) is.acyclic) ∙ (ap (value (bindings s)) e ∙ unbound_is_its_own_value (bindings s) m none) in
    let later : value (bindings r) (var m) ≡ value (bindings r) (var w) =
    sym (ap (instance (λ k. value (bindings r) (var k))) before) ∙ value_later (bindings s) (bindings r) (var w) is'.acyclic kept in
    ap (λ (k : ℕ). value (bindings r) (var k)) (sym same) ∙ (later ∙ told)
variable-told s r w n i (int j) is is' kept e at told = absurd cc
variable-told s r w n i (atom name) is is' kept e at told = ap (λ (k : ℕ). value (bindings r) (var k)) (sym (same-number w n at)) ∙ told
variable-told s r w n i (comp name ts) is is' kept e at told = ap (λ (k : ℕ). value (bindings r) (var k)) (sym (same-number w n at)) ∙ told

item-told : (s r : State) (x : Item) (n : ℕ) (i : ℤ) → IsState s → IsState r → ((k : ℕ) (t : Tree) → held (bindings s) k ≡ Some t → held (bindings r) k ≡ Some t) → root_item s x ≡ Item.Var n → root_item r x ≡ Item.Int i →
    value (bindings r) (var n) ≡ int i
item-told s r (Item.Int j) n i is is' kept e told = absurd cc
item-told s r (Item.Var w) n i is is' kept e told =
    variable-told s r w n i (followed (bindings s) (var w)) is is' kept refl e (to-integer w (value (bindings r) (var w)) i (sym (root-by_value (bindings r) w is'.acyclic) ∙ told))

told-at : (r : State) (items : List Item) (values : List ℤ) → AreTold items r values → (x : Item) → Contains items x → root_item r x ≡ Item.Int (told_value r x)
told-at r [] values told x (k, l, e) = absurd (omega arith)
told-at r (y ∷ items) [] told x at = absurd cc
told-at r (y ∷ items) (i ∷ values) told x (zero, l, e) =
    let first : root_item r y ≡ Item.Int i = head-same (root_item r y) (Item.Int i) (map (root_item r) items) (map (λ j. Item.Int j) values) told in
    subst (λ (z : Item). root_item r z ≡ Item.Int (told_value r z)) e (first ∙ ap Item.Int (sym (value-told r y i first)))
  where
    head-or : Item → List Item → Item
    head-or x [] = x
    head-or x (y ∷ ys) = y

    head-same : (x y : Item) (xs ys : List Item) → ◌≡◌ {A = List Item} (x ∷ xs) (y ∷ ys) → x ≡ y
    head-same x y xs ys e = ap (head-or x) e
told-at r (y ∷ items) (i ∷ values) told x (suc k, l, e) = told-at r items values (rest-same (root_item r y) (Item.Int i) (map (root_item r) items) (map (λ j. Item.Int j) values) told) x (k, omega arith, e)
  where
    rest-of : List Item → List Item
    rest-of [] = []
    rest-of (y ∷ ys) = ys

    rest-same : (x y : Item) (xs ys : List Item) → ◌≡◌ {A = List Item} (x ∷ xs) (y ∷ ys) → xs ≡ ys
    rest-same x y xs ys e = ap rest-of e

values-are : (values : List ℤ) → map (value_of (λ n. pos 0)) (map (λ i. Item.Int i) values) ≡ values
values-are [] = refl
values-are (i ∷ values) = let rest = values-are values in (λ j. i ∷ rest j)

told-are : (r : State) (items : List Item) → map (value_of (λ n. pos 0)) (map (root_item r) items) ≡ told_values r items
told-are r [] = refl
told-are r (x ∷ items) = let first : value_of (λ n. pos 0) (root_item r x) ≡ told_value r x = sym (told-is r x) in let rest = told-are r items in (λ j. first j ∷ rest j)

pub told-values : (r : State) (items : List Item) (values : List ℤ) → AreTold items r values → values ≡ told_values r items
told-values r items values told = sym (values-are values) ∙ (sym (ap (map (value_of (λ n. pos 0))) told) ∙ told-are r items)

-- a variable of the expression has the value that the items tell
pub variable-value : (s r : State) (items : List Item) (values : List ℤ) (n : ℕ) → IsState s → IsState r → ((k : ℕ) (t : Tree) → held (bindings s) k ≡ Some t → held (bindings r) k ≡ Some t) → AreTold items r values →
    (x : Item) → Contains items x → root_item s x ≡ Item.Var n → value (bindings r) (var n) ≡ int (value_by s items values n)
variable-value s r items values n is is' kept told x at root =
    let here : value (bindings r) (var n) ≡ int (told_value r x) = item-told s r x n (told_value r x) is is' kept root (told-at r items values told x at) in
    let found : value_by s items (told_values r items) n ≡ told_value r x =
    value-found s (told_value r) (told_value r x) n items (λ y there e. same-int (told_value r y) (told_value r x) (sym (item-told s r y n (told_value r y) is is' kept e (told-at r items values told y there)) ∙ here)) x at root in
    here ∙ ap int (sym (ap (λ (vs : List ℤ). value_by s items vs n) (told-values r items values told) ∙ found))
  where
    int-of : Tree → ℤ
    int-of (var n) = pos 0
    int-of (int i) = i
    int-of (atom name) = pos 0
    int-of (comp name ts) = pos 0

    same-int : (i j : ℤ) → int i ≡ int j → i ≡ j
    same-int i j e = ap int-of e

-- ---- what the expression is read to

zero-more : (x : ℤ) → (x +ℤ pos 0) ≡ x
zero-more x = omega (arith, ints)

constant-sum : (a : ℕ → ℤ) (u : Sums.Sum) → u.terms ≡ [] → u.constant ≡ sum_value a u
unfolding sum_of
constant-sum a u none = sym (ap (λ ts. u.constant +ℤ sum_of a ts) none ∙ zero-more u.constant)

by-reading : (s r : State) (items : List Item) (values : List ℤ) (t : Tree) (k : Known Sums.Sum) → IsState s → IsState r → ((k : ℕ) (u : Tree) → held (bindings s) k ≡ Some u → held (bindings r) k ≡ Some u) → AreAmong s items t →
    AreTold items r values → read_operand (operand_of (value (bindings r) t)) (nothing_made (next r)) ≡ Ok k → k.what.terms ≡ [] → k.what.constant ≡ expression_value s items t values
unfolding Occurs
by-reading s r items values t k is is' kept among told e none =
    let u : Tree = value (bindings s) t in
    let put : ℕ → Tree = λ n. value (bindings r) (var n) in
    let var_is : (n : ℕ) → Occurs n u → value (bindings r) (var n) ≡ int (value_by s items values n) = λ n o. let x = among n o in variable-value s r items values n is is' kept told x.0 x.1 x.2 in
    let later : value (bindings r) t ≡ instance put u = value_goes_by_variables (bindings r) t ∙ sym (value_later (bindings s) (bindings r) t is'.acyclic kept) in
    let below : SpeaksBelow (next r) (value (bindings r) t) =
    λ m o. let from = occurs_in_instance put u m (subst (Occurs m) later o) in absurd (subst (λ (w : Tree). Occurs m w → ⊥) (sym (var_is from.0 from.1)) (λ z. z) from.2) in
    let law = operands_have_their_values (next r) (value (bindings r) t) k below e in
    let b = law.1 (λ n. pos 0) in
    let sum : sum_value b.0 k.what ≡ operand_value b.0 (operand_of (value (bindings r) t)) = law.0 b.0 b.2 in
    let constant : k.what.constant ≡ sum_value b.0 k.what = constant-sum b.0 k.what none in
    let same : operand_value b.0 (operand_of (instance put u)) ≡ operand_value (value_by s items values) (operand_of u) = instance-same put b.0 (value_by s items values) u (λ n o. inr (value_by s items values n, var_is n o, refl)) in
    constant ∙ (sum ∙ (ap (λ (w : Tree). operand_value b.0 (operand_of w)) later ∙ same))

by-terms : (ts : List (ℤ × ℕ)) (c v : ℤ) → (ts ≡ [] → c ≡ v) → (constant_of ts c ≡ None) ⊎ (constant_of ts c ≡ Some v)
by-terms [] c v h = inr (ap Some (h refl))
by-terms (t ∷ ts) c v h = inl refl

pub worth-of : (s r : State) (items : List Item) (values : List ℤ) (t : Tree) → IsState s → IsState r → ((k : ℕ) (u : Tree) → held (bindings s) k ≡ Some u → held (bindings r) k ≡ Some u) → AreAmong s items t → AreTold items r values →
    (Readings.operand_value (operand_in t r) ≡ None) ⊎ (Readings.operand_value (operand_in t r) ≡ Some (expression_value s items t values))
worth-of s r items values t is is' kept among told = by (read_operand (operand_of (value (bindings r) t)) (nothing_made (next r))) refl
  where
    posted : (k : Known Sums.Sum) (p : Result Posting Refusal) → read_operand (operand_of (value (bindings r) t)) (nothing_made (next r)) ≡ Ok k →
        (Readings.operand_value (operand_as r (Ok k) p) ≡ None) ⊎ (Readings.operand_value (operand_as r (Ok k) p) ≡ Some (expression_value s items t values))
    posted k (Err e) f = inl refl
    posted k (Ok p) f = by-terms k.what.terms k.what.constant (expression_value s items t values) (λ none. by-reading s r items values t k is is' kept among told f none)

    by : (o : Result (Known Sums.Sum) Refusal) → read_operand (operand_of (value (bindings r) t)) (nothing_made (next r)) ≡ o →
        (Readings.operand_value (operand_read r o) ≡ None) ⊎ (Readings.operand_value (operand_read r o) ≡ Some (expression_value s items t values))
    by (Err e) f = inl refl
    by (Ok k) f = posted k (finished (next r) (Ok k)) f
