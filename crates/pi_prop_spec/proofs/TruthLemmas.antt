-- What the reading of a Boolean expression gives: an item that is 1 where the expression is so, and 0 where it isn't.
use Rattle.std.specs.Prelude.{◌≡◌, ◌≢◌, ℕ, zero, suc, ◌<◌, Bool, true, false, List, [], ◌∷◌, ℤ, pos, negsuc, ◌+ℤ◌, ◌-ℤ◌, ◌≤ℤ◌, Some, Ok, refl, ◌⊎◌}
use Rattle.std.specs.Ordering.{int_eq}
use Rattle.std.proofs.Common.{arith, ◌∙◌, ap, sym, subst, inl, inr}
use Rattle.std.proofs.lemmas.Int.{ints}
use Rattle.pi_constraints.specs.declared.constraint.Rel.{Rel}
use Rattle.pi_constraints.specs.declared.constraint.Item.{Item}
use Rattle.pi_constraints.specs.declared.constraint.Constraint.{Constraint}
use Rattle.pi_prop_spec.specs.Solutions.{value_of, Stands, Holds}
use Rattle.pi_prop_spec.specs.PostingSums.{Sum, of_number, of_variable, with_term, with_terms, scaled_terms, added, difference, sum_value}
use Rattle.pi_prop_spec.specs.Steps.{Made, Known, linear}
use Rattle.pi_prop_spec.specs.Relations.{stands}
use Rattle.pi_prop_spec.specs.Truths.{bit, truth_by_terms, truth_of_standing}
use Rattle.pi_prop_spec.specs.Says.{truth_of_number, AllHold, AgreeBelow}
use Rattle.pi_prop_spec.proofs.PostingSumLemmas.{sums_add, value-difference, value-of_variable, value-of_number}
use Rattle.pi_prop_spec.proofs.FormLemmas.{ascend_below, IsJoined, joined-difference, joined-of_number, joined-of_variable, ItemBelow, IsFormed, items_agree, sum_values_agree}
use Rattle.pi_prop_spec.proofs.GrowLemmas.{AreFormed, Any, Grows, grows_none, grows_defined, changed, changed_there, changed_below, with_all, formed-with_all, hold-with_all, hold-first, hold-added, Defines, is_known}
use Rattle.pi_prop_spec.proofs.RelationLemmas.{stands_true, true_stands, no_terms-value}

-- ---- what sums come to, part by part

pub diff : (a : ℕ → ℤ) (u v : Sum) (x y : ℤ) → sum_value a u ≡ x → sum_value a v ≡ y → sum_value a (difference u v) ≡ x -ℤ y
diff a u v x y e f = value-difference a u v ∙ (λ i. e i -ℤ f i)

pub plus : (a : ℕ → ℤ) (u v : Sum) (x y : ℤ) → sum_value a u ≡ x → sum_value a v ≡ y → sum_value a (added u v) ≡ x +ℤ y
plus a u v x y e f = sums_add a u v ∙ (λ i. e i +ℤ f i)

-- ---- sums out of a new truth T and two items

-- a sum out of these, by the value that it has
pub record TruthSum (n : ℕ) (x y : Item) (u : Sum) (f : ℤ → ℤ → ℤ → ℤ) : Type 0 where
  pub joined : IsJoined (suc n) u
  pub value : (a : ℕ → ℤ) → sum_value a u ≡ f (a n) (value_of a x) (value_of a y)
  -- T counts
  pub counts : (p q : ℤ) → f (pos 1) p q ≢ f (pos 0) p q

pub next_item : (n : ℕ) (x : Item) → ItemBelow n x → ItemBelow (suc n) x
next_item n x h m e = omega (arith, h m e)

nothing : ℕ → ℤ
nothing m = pos 0

some_terms : (n : ℕ) (x y : Item) (u : Sum) (f : ℤ → ℤ → ℤ → ℤ) → ItemBelow n x → ItemBelow n y → TruthSum n x y u f → u.terms ≢ []
some_terms n x y u f s t r e =
    let one : ℕ → ℤ = changed nothing n (pos 1) in
    let none : ℕ → ℤ = changed nothing n (pos 0) in
    let alike : AgreeBelow n one none = λ m l. changed_below nothing n (pos 0) m l ∙ sym (changed_below nothing n (pos 1) m l) in
    let same : sum_value one u ≡ sum_value none u = no_terms-value one u e ∙ sym (no_terms-value none u e) in
    let at_one : sum_value one u ≡ f (pos 1) (value_of one x) (value_of one y) = r.value one ∙ ap (λ (z : ℤ). f z (value_of one x) (value_of one y)) (changed_there nothing n (pos 1)) in
    let at_none : sum_value none u ≡ f (pos 0) (value_of one x) (value_of one y) =
    r.value none ∙ ((λ i. f (changed_there nothing n (pos 0) i) (items_agree n x one none s alike i) (items_agree n y one none t alike i))) in
    r.counts (value_of one x) (value_of one y) (sym at_one ∙ (same ∙ at_none))

-- a sum stands so to 0
holds-sum : (rel : Rel) (n : ℕ) (x y : Item) (u : Sum) (f : ℤ → ℤ → ℤ → ℤ) (a : ℕ → ℤ) → TruthSum n x y u f → Holds (linear rel u) a → Stands rel (f (a n) (value_of a x) (value_of a y))
holds-sum rel n x y u f a r h = subst (Stands rel) (r.value a) h

sum-holds : (rel : Rel) (n : ℕ) (x y : Item) (u : Sum) (f : ℤ → ℤ → ℤ → ℤ) (a : ℕ → ℤ) → TruthSum n x y u f → Stands rel (f (a n) (value_of a x) (value_of a y)) → Holds (linear rel u) a
sum-holds rel n x y u f a r h = subst (Stands rel) (sym (r.value a)) h

formed-sum : (rel : Rel) (n : ℕ) (x y : Item) (u : Sum) (f : ℤ → ℤ → ℤ → ℤ) → ItemBelow n x → ItemBelow n y → TruthSum n x y u f → IsFormed (suc n) (linear rel u)
formed-sum rel n x y u f s t r = (some_terms n x y u f s t r, r.joined)

-- ---- bits

pub bits-known : (z : ℤ) (p : Bool) → truth_of_number z ≡ Some p → z ≡ bit p
bits-known (pos zero) true e = absurd cc
bits-known (pos zero) false e = refl
bits-known (pos (suc zero)) true e = refl
bits-known (pos (suc zero)) false e = absurd cc
bits-known (pos (suc (suc k))) p e = absurd cc
bits-known (negsuc k) p e = absurd cc

pub truth-bit : (p : Bool) → truth_of_number (bit p) ≡ Some p
truth-bit true = refl
truth-bit false = refl

-- whether an item is 1
pub so : ℤ → Bool
so z = int_eq z (pos 1)

pub so-bit : (p : Bool) → so (bit p) ≡ p
unfolding so
so-bit true = refl
so-bit false = refl

-- V - 1 <= 0 and -V <= 0
unfoldable pub bounds : ℕ → List Constraint
bounds v = linear Rel.AtMost (difference (of_variable v) (of_number (pos 1))) ∷ linear Rel.AtMost (difference (of_number (pos 0)) (of_variable v)) ∷ []

pub bounds-formed : (n v : ℕ) → v < n → AreFormed n (bounds v)
unfolding bounds AreFormed with_terms with_term scaled_terms
bounds-formed n v h = (
  ((λ e. absurd cc), joined-difference n (of_variable v) (of_number (pos 1)) (joined-of_variable n v h) (joined-of_number n (pos 1))),
  (((λ e. absurd cc), joined-difference n (of_number (pos 0)) (of_variable v) (joined-of_number n (pos 0)) (joined-of_variable n v h)), tt),
)

upper : (a : ℕ → ℤ) (v : ℕ) → sum_value a (difference (of_variable v) (of_number (pos 1))) ≡ a v -ℤ pos 1
upper a v = diff a (of_variable v) (of_number (pos 1)) (a v) (pos 1) (value-of_variable a v) (value-of_number a (pos 1))

lower : (a : ℕ → ℤ) (v : ℕ) → sum_value a (difference (of_number (pos 0)) (of_variable v)) ≡ pos 0 -ℤ a v
lower a v = diff a (of_number (pos 0)) (of_variable v) (pos 0) (a v) (value-of_number a (pos 0)) (value-of_variable a v)

pub bounds-hold : (a : ℕ → ℤ) (v : ℕ) (p : Bool) → a v ≡ bit p → AllHold (bounds v) a
unfolding bounds AllHold
bounds-hold a v p e =
    (subst (λ (x : ℤ). x ≤ℤ pos 0) (sym (upper a v)) (high (a v) p e), (subst (λ (x : ℤ). x ≤ℤ pos 0) (sym (lower a v)) (low (a v) p e), tt))
  where
    high : (x : ℤ) (p : Bool) → x ≡ bit p → (x -ℤ pos 1) ≤ℤ pos 0
    high x true e = omega (arith, ints)
    high x false e = omega (arith, ints)

    low : (x : ℤ) (p : Bool) → x ≡ bit p → (pos 0 -ℤ x) ≤ℤ pos 0
    low x true e = omega (arith, ints)
    low x false e = omega (arith, ints)

pub bounds-only : (a : ℕ → ℤ) (v : ℕ) → AllHold (bounds v) a → (p : Bool) × (a v ≡ bit p)
unfolding bounds AllHold
bounds-only a v h = by (a v) (subst (λ (x : ℤ). x ≤ℤ pos 0) (upper a v) h.0) (subst (λ (x : ℤ). x ≤ℤ pos 0) (lower a v) h.1.0) (int_eq (a v) (pos 1)) refl
  where
    by : (x : ℤ) → (x -ℤ pos 1) ≤ℤ pos 0 → (pos 0 -ℤ x) ≤ℤ pos 0 → (t : Bool) → int_eq x (pos 1) ≡ t → (p : Bool) × (x ≡ bit p)
    by x h k true e = (true, grind (arith, ints))
    by x h k false e = (false, grind (arith, ints))

-- ---- a new truth

pub record NewTruth (m : Made) (l : Known Item) (t : (ℕ → ℤ) → Bool) : Type 0 where
  pub grows : Grows Any m l.made
  pub below : ItemBelow l.made.unused l.what
  pub value : (a : ℕ → ℤ) → AllHold l.made.constraints a → value_of a l.what ≡ bit (t a)

-- a truth variable with its bounds and what says when it is so
pub new-truth : (m : Made) (cs : List Constraint) (t : (ℕ → ℤ) → Bool) → Defines Any m.unused m.constraints (with_all (bounds m.unused) cs) (λ a. bit (t a)) →
    NewTruth m (record { what = Item.Var m.unused; made = record { unused = suc m.unused; constraints = with_all m.constraints (with_all (bounds m.unused) cs) } }) t
new-truth m cs t d = record {
  grows = grows_defined Any m (with_all (bounds m.unused) cs) (λ a. bit (t a)) d;
  below = λ k e. omega (arith, e);
  value = λ a h. d.only a (hold-first m.constraints (with_all (bounds m.unused) cs) a h) (hold-added m.constraints (with_all (bounds m.unused) cs) a h);
}

-- whether a sum stands so
reified-defines : (n : ℕ) (before : List Constraint) (rel : Rel) (u : Sum) → IsJoined n u → u.terms ≢ [] →
    Defines Any n before (with_all (bounds n) (Constraint.Reified (Item.Var n) rel u.terms u.constant ∷ [])) (λ a. bit (stands rel (sum_value a u)))
unfolding AreFormed AllHold
reified-defines n before rel u s some = record {
  formed = formed-with_all (suc n) (bounds n) (Constraint.Reified (Item.Var n) rel u.terms u.constant ∷ []) (bounds-formed (suc n) n (omega arith)) formed;
  agrees = λ a b g. ap (λ (x : ℤ). bit (stands rel x)) (sum_values_agree n u a b s g);
  possible = λ a b p g. tt;
  holds = λ a p z e. hold-with_all (bounds n) (Constraint.Reified (Item.Var n) rel u.terms u.constant ∷ []) a (bounds-hold a n (stands rel (sum_value a u)) e) (holds a (stands rel (sum_value a u)) refl e);
  only = λ a z h. only a (hold-added (bounds n) (Constraint.Reified (Item.Var n) rel u.terms u.constant ∷ []) a h);
}
  where
    formed : AreFormed (suc n) (Constraint.Reified (Item.Var n) rel u.terms u.constant ∷ [])
    formed = (((λ k e. omega (arith, e)), some, ascend_below n (suc n) 0 u.terms (omega arith) s), tt)

    holds : (a : ℕ → ℤ) (b : Bool) → stands rel (sum_value a u) ≡ b → a n ≡ bit b → AllHold (Constraint.Reified (Item.Var n) rel u.terms u.constant ∷ []) a
    holds a true f e = (inl (e, stands_true rel (sum_value a u) f), tt)
    holds a false f e = (inr (e, λ h. (let contrary : true ≡ false = sym (true_stands rel (sum_value a u) h) ∙ f in absurd cc)), tt)

    of_case : (a : ℕ → ℤ) → ((a n ≡ pos 1) × Stands rel (sum_value a u)) ⊎ ((a n ≡ pos 0) × (Stands rel (sum_value a u) → ⊥)) → a n ≡ bit (stands rel (sum_value a u))
    of_case a (inl h) = h.0 ∙ ap bit (sym (true_stands rel (sum_value a u) h.1))
    of_case a (inr h) = h.0 ∙ ap bit (not_so (stands rel (sum_value a u)) refl)
      where
        not_so : (b : Bool) → stands rel (sum_value a u) ≡ b → false ≡ stands rel (sum_value a u)
        not_so true f = absurd (h.1 (stands_true rel (sum_value a u) f))
        not_so false f = sym f

    only : (a : ℕ → ℤ) → AllHold (Constraint.Reified (Item.Var n) rel u.terms u.constant ∷ []) a → a n ≡ bit (stands rel (sum_value a u))
    only a h = of_case a h.0

pub standing-truth : (m : Made) (rel : Rel) (u : Sum) (l : Known Item) → IsJoined m.unused u → truth_of_standing rel u m ≡ Ok l → NewTruth m l (λ a. stands rel (sum_value a u))
unfolding bounds
standing-truth m rel u l s e = by u.terms refl e
  where
    by : (ts : List (ℤ × ℕ)) → u.terms ≡ ts → truth_by_terms ts rel u m ≡ Ok l → NewTruth m l (λ a. stands rel (sum_value a u))
    by [] f e = subst (λ k. NewTruth m k (λ a. stands rel (sum_value a u))) (is_known (record { what = Item.Int (bit (stands rel u.constant)); made = m }) l e) (record {
      grows = grows_none Any m;
      below = λ k e. absurd e;
      value = λ a h. ap (λ (x : ℤ). bit (stands rel x)) (sym (no_terms-value a u f));
    })
    by (t ∷ ts) f e =
        let some : u.terms ≢ [] = λ g. (let contrary : t ∷ ts ≡ [] = sym f ∙ g in absurd cc) in
        let cs : List Constraint = Constraint.Reified (Item.Var m.unused) rel u.terms u.constant ∷ [] in
        subst (λ k. NewTruth m k (λ a. stands rel (sum_value a u)))
        (is_known (record { what = Item.Var m.unused; made = record { unused = suc m.unused; constraints = with_all m.constraints (with_all (bounds m.unused) cs) } }) l e)
        (new-truth m cs (λ a. stands rel (sum_value a u)) (reified-defines m.unused m.constraints rel u s some))

-- ---- a truth out of those of two items, by sums

-- an item has one of the values 0 and 1 wherever all holds that was made
abbrev pub Bits : List Constraint → Item → Type 0
Bits before x = (a : ℕ → ℤ) → AllHold before a → (p : Bool) × (value_of a x ≡ bit p)

-- of bits: T is so just where the other two say
pub record Settles (g : Bool → Bool → Bool) (holds : ℤ → ℤ → ℤ → Type 0) : Type 0 where
  pub works : (p q : Bool) → holds (bit (g p q)) (bit p) (bit q)
  pub forces : (t p q : Bool) → holds (bit t) (bit p) (bit q) → t ≡ g p q

-- the constraints of sums: formed, and what they say of T and the two items
pub record Table (n : ℕ) (x y : Item) (cs : List Constraint) (holds : ℤ → ℤ → ℤ → Type 0) : Type 0 where
  pub formed : AreFormed (suc n) cs
  pub so_where : (a : ℕ → ℤ) → holds (a n) (value_of a x) (value_of a y) → AllHold cs a
  pub where_so : (a : ℕ → ℤ) → AllHold cs a → holds (a n) (value_of a x) (value_of a y)

-- the two, as they stand for bits
abbrev pub said : (Bool → Bool → Bool) → Item → Item → (ℕ → ℤ) → Bool
said g x y a = g (so (value_of a x)) (so (value_of a y))

pub said-bits : (g : Bool → Bool → Bool) (x y : Item) (a : ℕ → ℤ) (p q : Bool) → value_of a x ≡ bit p → value_of a y ≡ bit q → said g x y a ≡ g p q
said-bits g x y a p q e f = (λ i. g (so (e i)) (so (f i))) ∙ (λ i. g (so-bit p i) (so-bit q i))

pub table-defines : (n : ℕ) (before : List Constraint) (x y : Item) (cs : List Constraint) (holds : ℤ → ℤ → ℤ → Type 0) (g : Bool → Bool → Bool) → ItemBelow n x → ItemBelow n y → Bits before x → Bits before y →
    Table n x y cs holds → Settles g holds → Defines Any n before (with_all (bounds n) cs) (λ a. bit (said g x y a))
table-defines n before x y cs holds g s t bx by_ table settles = record {
  formed = formed-with_all (suc n) (bounds n) cs (bounds-formed (suc n) n (omega arith)) table.formed;
  agrees = λ a b h. (λ i. bit (g (so (items_agree n x a b s h i)) (so (items_agree n y a b t h i))));
  possible = λ a b p h. tt;
  holds = λ a p z e.
      let p : (p : Bool) × (value_of a x ≡ bit p) = bx a z in
      let q : (q : Bool) × (value_of a y ≡ bit q) = by_ a z in
      let same : said g x y a ≡ g p.0 q.0 = said-bits g x y a p.0 q.0 p.1 q.1 in
      let t : a n ≡ bit (g p.0 q.0) = e ∙ ap bit same in
      hold-with_all (bounds n) cs a (bounds-hold a n (g p.0 q.0) t) (table.so_where a ((subst (λ (w : ℤ). holds w (value_of a x) (value_of a y)) (sym t)
      (subst (λ (w : ℤ). holds (bit (g p.0 q.0)) w (value_of a y)) (sym p.1) (subst (λ (w : ℤ). holds (bit (g p.0 q.0)) (bit p.0) w) (sym q.1) (settles.works p.0 q.0))))));
  only = λ a z h.
      let p : (p : Bool) × (value_of a x ≡ bit p) = bx a z in
      let q : (q : Bool) × (value_of a y ≡ bit q) = by_ a z in
      let there : holds (a n) (value_of a x) (value_of a y) = table.where_so a (hold-added (bounds n) cs a h) in
      let t : (t : Bool) × (a n ≡ bit t) = bounds-only a n (hold-first (bounds n) cs a h) in
      let bits : holds (bit t.0) (bit p.0) (bit q.0) =
      subst (λ (w : ℤ). holds w (bit p.0) (bit q.0)) t.1 (subst (λ (w : ℤ). holds (a n) (bit p.0) w) q.1 (subst (λ (w : ℤ). holds (a n) w (value_of a y)) p.1 there)) in
      t.1 ∙ (ap bit (settles.forces t.0 p.0 q.0 bits) ∙ ap bit (sym (said-bits g x y a p.0 q.0 p.1 q.1)));
}

-- one sum equal to 0, or three at most 0
abbrev pub one_equal : (ℤ → ℤ → ℤ → ℤ) → ℤ → ℤ → ℤ → Type 0
one_equal f t p q = f t p q ≡ pos 0

abbrev pub three_at_most : (f g h : ℤ → ℤ → ℤ → ℤ) → ℤ → ℤ → ℤ → Type 0
three_at_most f g h t p q = (f t p q ≤ℤ pos 0) × (g t p q ≤ℤ pos 0) × (h t p q ≤ℤ pos 0)

pub one-table : (n : ℕ) (x y : Item) (u : Sum) (f : ℤ → ℤ → ℤ → ℤ) → ItemBelow n x → ItemBelow n y → TruthSum n x y u f → Table n x y (linear Rel.Equal u ∷ []) (one_equal f)
unfolding AreFormed AllHold
one-table n x y u f s t r = record {
  formed = (formed-sum Rel.Equal n x y u f s t r, tt);
  so_where = λ a h. (sum-holds Rel.Equal n x y u f a r h, tt);
  where_so = λ a h. holds-sum Rel.Equal n x y u f a r h.0;
}

pub three-table : (n : ℕ) (x y : Item) (u v w : Sum) (f g h : ℤ → ℤ → ℤ → ℤ) → ItemBelow n x → ItemBelow n y → TruthSum n x y u f → TruthSum n x y v g → TruthSum n x y w h →
    Table n x y (linear Rel.AtMost u ∷ linear Rel.AtMost v ∷ linear Rel.AtMost w ∷ []) (three_at_most f g h)
unfolding AreFormed AllHold
three-table n x y u v w f g h s t p q r = record {
  formed = (formed-sum Rel.AtMost n x y u f s t p, (formed-sum Rel.AtMost n x y v g s t q, (formed-sum Rel.AtMost n x y w h s t r, tt)));
  so_where = λ a z. (sum-holds Rel.AtMost n x y u f a p z.0, (sum-holds Rel.AtMost n x y v g a q z.1, (sum-holds Rel.AtMost n x y w h a r z.2, tt)));
  where_so = λ a z. (holds-sum Rel.AtMost n x y u f a p z.0, holds-sum Rel.AtMost n x y v g a q z.1.0, holds-sum Rel.AtMost n x y w h a r z.1.1.0);
}
