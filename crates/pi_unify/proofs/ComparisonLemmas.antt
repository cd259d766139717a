-- What is left to compare.
use Rattle.std.proofs.Common.{◌≡◌, ℕ, ℤ, zero, suc, ◌+◌, ◌<◌, ◌≤◌, true, false, List, [], ◌∷◌, ◌++◌, Some, refl, ap, sym, ◌∙◌, subst, inl, inr, add-one, arith}
use Rattle.std.specs.Ordering.{ordering_then, is_ne, nat_cmp, int_cmp}
use Rattle.std.specs.declared.cmp.Ordering.{Ordering}
use Rattle.std.specs.declared.cmp.Ordering.TheVariants.{Less, Equal, Greater}
use Rattle.pi_terms.specs.Tree.{Tree, var, int, atom, comp, Trees, no_trees, tree, tree_count, args, arity, drop_trees}
use Rattle.pi_terms.specs.Order.{name_order, order, order_all}
use Rattle.pi_constraints.specs.Value.{IsAcyclic, value}
use Rattle.pi_constraints.specs.State.{bindings, followed}
use Rattle.pi_constraints.specs.Store.{StoreView, IsTerm, IsName, ShowsCell}
use Rattle.pi_constraints.specs.declared.store.Cell.{Cell}
use Rattle.pi_constraints.specs.declared.store.Ref.{Ref}
use Rattle.pi_unify.specs.Terms.{IsGiven, HoldsNoCycle, term_of, value_of}
use Rattle.pi_unify.specs.Comparison.{cell_arity, Begins, pair_order, IsPair, IsRest, AreRests, rest_order, order_with, Takes, TakesPair}
use Rattle.pi_unify.specs.declared.ahead.Rest.{Rest}
use Rattle.pi_unify.specs.declared.ahead.RefPair.{RefPair}
use Rattle.pi_unify.specs.Rests.{with_all, after, Taken}
use Rattle.pi_unify.proofs.RestLemmas.{put, IsBehind, behind}
use Rattle.std.proofs.lemmas.Cmp.{ranked, by_ranked}
use Rattle.pi_unify.proofs.AheadLemmas.{ArgSays}
use Rattle.pi_unify.proofs.TermValues.{IsArgument, argument, given_term, shows_value, value_is}

-- ---- orders one after another

then_equal : (o : Ordering) → ordering_then o Equal ≡ o
then_equal Less = refl
then_equal Equal = refl
then_equal Greater = refl

then_decided : (o p : Ordering) → is_ne o ≡ true → ordering_then o p ≡ o
then_decided Less p h = refl
then_decided Equal p h = cc
then_decided Greater p h = refl

equal_from : (o : Ordering) → is_ne o ≡ false → o ≡ Equal
equal_from Less h = cc
equal_from Equal h = refl
equal_from Greater h = cc

then_assoc : (o p q : Ordering) → ordering_then (ordering_then o p) q ≡ ordering_then o (ordering_then p q)
then_assoc Less p q = refl
then_assoc Equal p q = refl
then_assoc Greater p q = refl

-- ---- the rests

pub order_with-more : {M : Type 0} (v : StoreView M) (fs : List (Rest RefPair)) (f : Rest RefPair) (o : Ordering) → order_with v (fs ++ f ∷ []) o ≡ order_with v fs (ordering_then o (rest_order v f))
unfolding order_with
order_with-more v [] f o = refl
order_with-more v (g ∷ fs) f o = ap (λ p. ordering_then p (rest_order v g)) (order_with-more v fs f o)

pub order_with-decided : {M : Type 0} (v : StoreView M) (fs : List (Rest RefPair)) (o : Ordering) → is_ne o ≡ true → order_with v fs o ≡ o
unfolding order_with
order_with-decided v [] o h = refl
order_with-decided v (f ∷ fs) o h = ap (λ p. ordering_then p (rest_order v f)) (order_with-decided v fs o h) ∙ then_decided o (rest_order v f) h

pub rests_more : {M : Type 0} (v : StoreView M) (fs : List (Rest RefPair)) (f : Rest RefPair) → AreRests v fs → IsRest v f → AreRests v (fs ++ f ∷ [])
unfolding AreRests
rests_more v [] f all is = (is, tt)
rests_more v (g ∷ fs) f all is = (all.0, rests_more v fs f all.1 is)

rests_but_last : {M : Type 0} (v : StoreView M) (fs : List (Rest RefPair)) (f : Rest RefPair) → AreRests v (fs ++ f ∷ []) → AreRests v fs × IsRest v f
unfolding AreRests
rests_but_last v [] f all = (tt, all.0)
rests_but_last v (g ∷ fs) f all = let r : AreRests v fs × IsRest v f = rests_but_last v fs f all.1 in ((all.0, r.0), r.1)

-- ---- no arguments are left

drop_all : (ts : Trees) (k : ℕ) → tree_count ts ≡ k → drop_trees k ts ≡ no_trees
unfolding tree_count
drop_all no_trees zero e = refl
drop_all no_trees (suc k) e = refl
drop_all (tree t ts) zero e = cc
drop_all (tree t ts) (suc k) e = drop_all ts k (omega arith)

no_arguments : (ts : Trees) → tree_count ts ≡ 0 → ts ≡ no_trees
unfolding tree_count
no_arguments no_trees e = refl
no_arguments (tree t ts) e = absurd (omega arith)

-- ---- two terms at their roots

abbrev pub kind : Cell → ℕ
kind (Cell.Var n) = 0
kind (Cell.Int n) = 1
kind (Cell.Atom k) = 2
kind (Cell.Comp k count) = 3

abbrev rank : Tree → ℕ
rank (var n) = 0
rank (int n) = 1
rank (atom name) = 2
rank (comp name ts) = 3

rank_is : {M : Type 0} (v : StoreView M) (t : Tree) (c : Cell) → ShowsCell v t c → rank t ≡ kind c
rank_is v t (Cell.Var n) h = ap rank h
rank_is v t (Cell.Int n) h = ap rank h
rank_is v t (Cell.Atom k) (name, is, h) = ap rank h
rank_is v t (Cell.Comp k count) (name, is, h, many) = ap rank h

pub arity_shown : {M : Type 0} (v : StoreView M) (t : Tree) (c : Cell) → ShowsCell v t c → cell_arity c ≡ arity t
unfolding tree_count
arity_shown v t (Cell.Var n) h = sym (ap arity h)
arity_shown v t (Cell.Int n) h = sym (ap arity h)
arity_shown v t (Cell.Atom k) (name, is, h) = sym (ap arity h)
arity_shown v t (Cell.Comp k count) (name, is, h, many) = many

ranked_before : (t u : Tree) → rank t < rank u → order t u ≡ Less
unfolding order
ranked_before (var m) (var n) h = absurd (omega arith)
ranked_before (int m) (var n) h = absurd (omega arith)
ranked_before (int m) (int n) h = absurd (omega arith)
ranked_before (atom a) (var n) h = absurd (omega arith)
ranked_before (atom a) (int n) h = absurd (omega arith)
ranked_before (atom a) (atom b) h = absurd (omega arith)
ranked_before (comp f ts) (var n) h = absurd (omega arith)
ranked_before (comp f ts) (int n) h = absurd (omega arith)
ranked_before (comp f ts) (atom b) h = absurd (omega arith)
ranked_before (comp f ts) (comp g us) h = absurd (omega arith)
ranked_before t u h = refl

ranked_after : (t u : Tree) → rank u < rank t → order t u ≡ Greater
unfolding order
ranked_after (var m) u h = absurd (omega arith)
ranked_after (int m) (int n) h = absurd (omega arith)
ranked_after (int m) (atom b) h = absurd (omega arith)
ranked_after (int m) (comp g us) h = absurd (omega arith)
ranked_after (atom a) (atom b) h = absurd (omega arith)
ranked_after (atom a) (comp g us) h = absurd (omega arith)
ranked_after (comp f ts) (comp g us) h = absurd (omega arith)
ranked_after t u h = refl

pub begins_before : {M : Type 0} (v : StoreView M) (c d : Cell) → kind c < kind d → Begins v c d Less
begins_before v c d h = λ t u left right. (ranked_before t u (omega (arith, rank_is v t c left, rank_is v u d right)), λ e. cc)

pub begins_after : {M : Type 0} (v : StoreView M) (c d : Cell) → kind d < kind c → Begins v c d Greater
begins_after v c d h = λ t u left right. (ranked_after t u (omega (arith, rank_is v t c left, rank_is v u d right)), λ e. cc)

pub begins_variables : {M : Type 0} (v : StoreView M) (m n : ℕ) → Begins v (Cell.Var m) (Cell.Var n) (nat_cmp m n)
unfolding order tree_count
begins_variables v m n = λ t u left right. rw (left, right) (sym (then_equal (nat_cmp m n)), λ e. refl)

pub begins_integers : {M : Type 0} (v : StoreView M) (m n : ℤ) → Begins v (Cell.Int m) (Cell.Int n) (int_cmp m n)
unfolding order tree_count
begins_integers v m n = λ t u left right. rw (left, right) (sym (then_equal (int_cmp m n)), λ e. refl)

abbrev IsOrderOfNames : {M : Type 0} → StoreView M → ℕ → ℕ → Ordering → Type 0
IsOrderOfNames v j k o = (f g : List ℕ) → IsName v j f → IsName v k g → o ≡ name_order f g

pub begins_atoms : {M : Type 0} (v : StoreView M) (j k : ℕ) (o : Ordering) → IsOrderOfNames v j k o → Begins v (Cell.Atom j) (Cell.Atom k) o
unfolding order tree_count
begins_atoms v j k o names = λ t u (f, is_f, left) (g, is_g, right). rw (left, right) (sym (names f g is_f is_g) ∙ sym (then_equal o), λ e. refl)

begins_compounds_at : (t u : Tree) (f g : List ℕ) (m n : ℕ) (o : Ordering) → t ≡ comp f (args t) → u ≡ comp g (args u) → m ≡ arity t → n ≡ arity u → o ≡ name_order f g → order t u ≡ ordering_then (ordering_then (nat_cmp m n) o) (order_all (args t) (args u))
unfolding order
begins_compounds_at t u f g m n o left right many_left many_right names =
    ap (λ w. order w u) left ∙ (ap (λ w. order (comp f (args t)) w) right
    ∙ (ap (λ k. ordering_then (nat_cmp k (arity u)) (ordering_then (name_order f g) (order_all (args t) (args u)))) (sym many_left)
    ∙ (ap (λ k. ordering_then (nat_cmp m k) (ordering_then (name_order f g) (order_all (args t) (args u)))) (sym many_right)
    ∙ (ap (λ p. ordering_then (nat_cmp m n) (ordering_then p (order_all (args t) (args u)))) (sym names)
    ∙ sym (then_assoc (nat_cmp m n) o (order_all (args t) (args u)))))))

numbers_same : (m n : ℕ) → nat_cmp m n ≡ Equal → m ≡ n
numbers_same m n e = by_ranked (m < n) (m ≡ n) (n < m) (nat_cmp m n) (ranked m n (nat_cmp m n) refl) (λ d h. cc) (λ d h. h) (λ d h. cc)

first_equal : (o p : Ordering) → ordering_then o p ≡ Equal → o ≡ Equal
first_equal Less p e = cc
first_equal Equal p e = refl
first_equal Greater p e = cc

pub begins_compounds : {M : Type 0} (v : StoreView M) (j k m n : ℕ) (o : Ordering) → IsOrderOfNames v j k o → Begins v (Cell.Comp j m) (Cell.Comp k n) (ordering_then (nat_cmp m n) o)
begins_compounds v j k m n o names = λ t u (f, is_f, left, many_left) (g, is_g, right, many_right). (
  begins_compounds_at t u f g m n o left right many_left many_right (names f g is_f is_g),
  λ e. sym many_left ∙ (numbers_same m n (first_equal (nat_cmp m n) o e) ∙ many_right),
)

-- ---- a cell that was found not to be of some kinds

pub above_variables : (d : Cell) → ((n : ℕ) → d ≡ Cell.Var n → ⊥) → 0 < kind d
above_variables (Cell.Var n) other = absurd (other n refl)
above_variables (Cell.Int n) other = omega arith
above_variables (Cell.Atom k) other = omega arith
above_variables (Cell.Comp k count) other = omega arith

pub above_integers : (d : Cell) → ((n : ℕ) → d ≡ Cell.Var n → ⊥) → ((n : ℤ) → d ≡ Cell.Int n → ⊥) → 1 < kind d
above_integers (Cell.Var n) other third = absurd (other n refl)
above_integers (Cell.Int n) other third = absurd (third n refl)
above_integers (Cell.Atom k) other third = omega arith
above_integers (Cell.Comp k count) other third = omega arith

pub below_atoms : (d : Cell) → ((k : ℕ) → d ≡ Cell.Atom k → ⊥) → ((k count : ℕ) → d ≡ Cell.Comp k count → ⊥) → kind d < 2
below_atoms (Cell.Var n) other third = omega arith
below_atoms (Cell.Int n) other third = omega arith
below_atoms (Cell.Atom k) other third = absurd (other k refl)
below_atoms (Cell.Comp k count) other third = absurd (third k count refl)

pub below_compounds : (d : Cell) → ((k count : ℕ) → d ≡ Cell.Comp k count → ⊥) → kind d < 3
below_compounds (Cell.Var n) other = omega arith
below_compounds (Cell.Int n) other = omega arith
below_compounds (Cell.Atom k) other = omega arith
below_compounds (Cell.Comp k count) other = absurd (other k count refl)

pub begins_as : {M : Type 0} (v : StoreView M) (c d : Cell) (c' d' : Cell) (o o' : Ordering) → c ≡ c' → d ≡ d' → o ≡ o' → Begins v c' d' o' → Begins v c d o
begins_as v c d c' d' o o' left right same h = λ t u shown shown'.
    let k : (order t u ≡ ordering_then o' (order_all (args t) (args u))) × (o' ≡ Equal → arity t ≡ arity u) =
    h t u (subst (ShowsCell v t) left shown) (subst (ShowsCell v u) right shown') in
    (k.0 ∙ ap (λ p. ordering_then p (order_all (args t) (args u))) (sym same), λ e. k.1 (sym same ∙ e))

-- ---- the next pair

abbrev behind_left : {M : Type 0} → StoreView M → Rest RefPair → Trees
behind_left v f = drop_trees (suc f.next) (args (value_of v f.of.left))

abbrev behind_right : {M : Type 0} → StoreView M → Rest RefPair → Trees
behind_right v f = drop_trees (suc f.next) (args (value_of v f.of.right))

rest_from_front : {M : Type 0} (v : StoreView M) (f : Rest RefPair) (p : RefPair) → IsArgument v p.left (value_of v f.of.left) f.next → IsArgument v p.right (value_of v f.of.right) f.next → rest_order v f ≡ ordering_then (pair_order v p) (order_all (behind_left v f) (behind_right v f))
unfolding order
rest_from_front v f p left right = ap (λ ts. order_all ts (drop_trees f.next (args (value_of v f.of.right)))) left.front ∙ ap (λ us. order_all (tree (value_of v p.left) (behind_left v f)) us) right.front

after_order : {M : Type 0} (v : StoreView M) (f : Rest RefPair) → rest_order v (after f) ≡ order_all (behind_left v f) (behind_right v f)
after_order v f = ap (λ k. order_all (drop_trees k (args (value_of v f.of.left))) (drop_trees k (args (value_of v f.of.right)))) (add-one f.next)

-- more arguments are left behind the pair
takes_more : {M : Type 0} (v : StoreView M) (old fs new : List (Rest RefPair)) (f : Rest RefPair) (p : RefPair) → old ≡ fs ++ f ∷ [] → new ≡ fs ++ after f ∷ [] → AreRests v old → f.next + 1 < f.count → IsArgument v p.left (value_of v f.of.left) f.next → IsArgument v p.right (value_of v f.of.right) f.next → Takes v old new p
takes_more v old fs new f p was is all more left right =
    let parts : AreRests v fs × IsRest v f = rests_but_last v fs f (subst (AreRests v) was all) in
    let here : IsRest v f = parts.1 in
    record {
      pair = (left.given, right.given);
      rests = subst (AreRests v) (sym is) (rests_more v fs (after f) parts.0 (record { pair = here.pair; left = here.left; right = here.right; within = more }));
      order =
          ap (λ rs. order_with v rs Equal) was ∙ (order_with-more v fs f Equal
          ∙ (ap (order_with v fs) (rest_from_front v f p left right ∙ ap (ordering_then (pair_order v p)) (sym (after_order v f)))
          ∙ (sym (order_with-more v fs (after f) (pair_order v p)) ∙ ap (λ rs. order_with v rs (pair_order v p)) (sym is))));
    }

none_behind : {M : Type 0} (v : StoreView M) (f : Rest RefPair) → IsRest v f → f.count ≤ f.next + 1 → (behind_left v f ≡ no_trees) × (behind_right v f ≡ no_trees)
none_behind v f here last =
    let within : f.next < f.count = here.within in
    let many : arity (value_of v f.of.left) ≡ suc f.next = here.left ∙ omega arith in
    let many' : arity (value_of v f.of.right) ≡ suc f.next = here.right ∙ omega arith in
    (drop_all (args (value_of v f.of.left)) (suc f.next) many, drop_all (args (value_of v f.of.right)) (suc f.next) many')

-- the pair was the last one of its compounds
takes_last : {M : Type 0} (v : StoreView M) (old new : List (Rest RefPair)) (f : Rest RefPair) (p : RefPair) → old ≡ new ++ f ∷ [] → AreRests v old → f.count ≤ f.next + 1 → IsArgument v p.left (value_of v f.of.left) f.next → IsArgument v p.right (value_of v f.of.right) f.next → Takes v old new p
unfolding order
takes_last v old new f p was all last left right =
    let parts : AreRests v new × IsRest v f = rests_but_last v new f (subst (AreRests v) was all) in
    let none : (behind_left v f ≡ no_trees) × (behind_right v f ≡ no_trees) = none_behind v f parts.1 last in
    let equal : order_all (behind_left v f) (behind_right v f) ≡ Equal = ap (λ ts. order_all ts (behind_right v f)) none.0 ∙ ap (order_all no_trees) none.1 in
    record {
      pair = (left.given, right.given);
      rests = parts.0;
      order =
          ap (λ rs. order_with v rs Equal) was ∙ (order_with-more v new f Equal
          ∙ ap (order_with v new) (rest_from_front v f p left right ∙ (ap (ordering_then (pair_order v p)) equal ∙ then_equal (pair_order v p))));
    }

takes_pair_by : {M : Type 0} (v : StoreView M) (old fs new : List (Rest RefPair)) (f : Rest RefPair) (p : RefPair) → old ≡ fs ++ f ∷ [] → AreRests v old → IsArgument v p.left (value_of v f.of.left) f.next → IsArgument v p.right (value_of v f.of.right) f.next → IsBehind f fs new → Takes v old new p
takes_pair_by v old fs new f p was all left right (inl more) = takes_more v old fs new f p was more.1 all more.0 left right
takes_pair_by v old fs new f p was all left right (inr last) = takes_last v old new f p (was ∙ ap (λ rs. rs ++ f ∷ []) (sym last.1)) all last.0 left right

-- what a store says of the arguments of both
pub takes_pair : {M : Type 0} (v : StoreView M) (old new : List (Rest RefPair)) (f : Rest RefPair) (p : RefPair) → Taken old new f → HoldsNoCycle v → AreRests v old → ArgSays v f.of.left f.next p.left → ArgSays v f.of.right f.next p.right → TakesPair v old new (Some p)
takes_pair v old new f p t a all left right =
    let here : IsRest v f = (rests_but_last v t.older f (subst (AreRests v) t.was all)).1 in
    let within : f.next < f.count = here.within in
    let one : arity (value_of v f.of.left) ≡ f.count = here.left in
    let other : arity (value_of v f.of.right) ≡ f.count = here.right in
    takes_pair_by v old t.older new f p t.was all (argument v f.of.left p.left f.next a here.pair.0 (omega arith) left) (argument v f.of.right p.right f.next a here.pair.1 (omega arith) right) (behind old new f t)

-- ---- all arguments of a pair that is equal at its roots

-- the whole as it stands when the roots of a pair were found equal
pub record Pushed {M : Type 0} (v : StoreView M) (fs new : List (Rest RefPair)) (p : RefPair) : Type 0 where
  pub rests : AreRests v new
  pub order : order_with v new Equal ≡ order_with v fs (pair_order v p)

pub pushed : {M : Type 0} (v : StoreView M) (fs new : List (Rest RefPair)) (p : RefPair) (count : ℕ) → AreRests v fs → IsPair v p → pair_order v p ≡ order_all (args (value_of v p.left)) (args (value_of v p.right)) → count ≡ arity (value_of v p.left) → arity (value_of v p.left) ≡ arity (value_of v p.right) → new ≡ with_all fs p count → Pushed v fs new p
unfolding order
pushed v fs new p count all is roots many same e = elim (put fs new p count e) [
  | inl none ↦
      let is_new : new ≡ fs = none.1 in
      let left : args (value_of v p.left) ≡ no_trees = no_arguments (args (value_of v p.left)) (sym many ∙ none.0) in
      let right : args (value_of v p.right) ≡ no_trees = no_arguments (args (value_of v p.right)) (sym same ∙ (sym many ∙ none.0)) in
      let equal : pair_order v p ≡ Equal = roots ∙ (ap (λ ts. order_all ts (args (value_of v p.right))) left ∙ ap (order_all no_trees) right) in
      record {
        rests = subst (AreRests v) (sym is_new) all;
        order = ap (λ rs. order_with v rs Equal) is_new ∙ ap (order_with v fs) (sym equal);
      }
  | inr some ↦
      let f : Rest RefPair = record { of = p; next = 0; count = count } in
      let is_new : new ≡ fs ++ f ∷ [] = some.1 in
      let here : IsRest v f = record { pair = is; left = sym many; right = sym same ∙ sym many; within = some.0 } in
      record {
        rests = subst (AreRests v) (sym is_new) (rests_more v fs f all here);
        order = ap (λ rs. order_with v rs Equal) is_new ∙ (order_with-more v fs f Equal ∙ ap (order_with v fs) (sym roots));
      }
]

-- ---- the loop

-- where a pair's comparison stands in that of the whole
pub record Goes {M : Type 0} (v : StoreView M) (fs : List (Rest RefPair)) (p whole : RefPair) : Type 0 where
  pub pair : IsPair v p
  pub rests : AreRests v fs
  pub order : order_with v fs (pair_order v p) ≡ pair_order v whole

pub started : {M : Type 0} (v : StoreView M) (fs : List (Rest RefPair)) (p : RefPair) → fs ≡ [] → IsPair v p → Goes v fs p p
unfolding order_with AreRests
started v fs p e is = record { pair = is; rests = subst (AreRests v) (sym e) tt; order = ap (λ rs. order_with v rs (pair_order v p)) e }

-- the roots of a pair as they were looked at
pub record Roots {M : Type 0} (v : StoreView M) (p : RefPair) (o : Ordering) (count : ℕ) : Type 0 where
  pub order : pair_order v p ≡ ordering_then o (order_all (args (value_of v p.left)) (args (value_of v p.right)))
  pub same : o ≡ Equal → arity (value_of v p.left) ≡ arity (value_of v p.right)
  pub many : count ≡ arity (value_of v p.left)

abbrev pub ShownBy : {M : Type 0} → StoreView M → Ref → Cell → Type 0
ShownBy v r c = (t : Tree) → IsTerm v r t → IsAcyclic (bindings v.now.state) → ShowsCell v (followed (bindings v.now.state) t) c

pub shown : {M : Type 0} (v : StoreView M) (r : Ref) (c : Cell) → HoldsNoCycle v → IsGiven v r → ShownBy v r c → ShowsCell v (value_of v r) c
shown v r c a given h = shows_value v (term_of v r) c a (h (term_of v r) (given_term v r given) a)

pub roots : {M : Type 0} (v : StoreView M) (p : RefPair) (c d : Cell) (o : Ordering) (count : ℕ) → HoldsNoCycle v → IsPair v p → ShownBy v p.left c → ShownBy v p.right d → Begins v c d o → count ≡ cell_arity c → Roots v p o count
roots v p c d o count a is left right begins many =
    let one : ShowsCell v (value_of v p.left) c = shown v p.left c a is.0 left in
    let two : ShowsCell v (value_of v p.right) d = shown v p.right d a is.1 right in
    let both : (pair_order v p ≡ ordering_then o (order_all (args (value_of v p.left)) (args (value_of v p.right)))) × (o ≡ Equal → arity (value_of v p.left) ≡ arity (value_of v p.right)) =
    begins (value_of v p.left) (value_of v p.right) one two in
    record { order = both.0; same = both.1; many = many ∙ arity_shown v (value_of v p.left) c one }

-- the roots decide
pub decided : {M : Type 0} (v : StoreView M) (fs : List (Rest RefPair)) (p whole : RefPair) (o : Ordering) (count : ℕ) → Goes v fs p whole → Roots v p o count → is_ne o ≡ true → o ≡ pair_order v whole
decided v fs p whole o count goes at ne =
    sym (ap (order_with v fs) (at.order ∙ then_decided o (order_all (args (value_of v p.left)) (args (value_of v p.right))) ne) ∙ order_with-decided v fs o ne) ∙ goes.order

-- the roots are equal
pub pushed_equal : {M : Type 0} (v : StoreView M) (fs new : List (Rest RefPair)) (p whole : RefPair) (o : Ordering) (count : ℕ) → Goes v fs p whole → Roots v p o count → is_ne o ≡ false → new ≡ with_all fs p count → Pushed v fs new p
pushed_equal v fs new p whole o count goes at ne e =
    let equal : o ≡ Equal = equal_from o ne in
    pushed v fs new p count goes.rests goes.pair (at.order ∙ ap (λ q. ordering_then q (order_all (args (value_of v p.left)) (args (value_of v p.right)))) equal) at.many (at.same equal) e

pub goes_on : {M : Type 0} (v : StoreView M) (fs pushed new : List (Rest RefPair)) (p q whole : RefPair) → Goes v fs p whole → Pushed v fs pushed p → Takes v pushed new q → Goes v new q whole
goes_on v fs pushed new p q whole goes at taken = record { pair = taken.pair; rests = taken.rests; order = sym taken.order ∙ (at.order ∙ goes.order) }

pub ends_equal : {M : Type 0} (v : StoreView M) (fs pushed : List (Rest RefPair)) (p whole : RefPair) → Goes v fs p whole → Pushed v fs pushed p → pushed ≡ [] → Equal ≡ pair_order v whole
unfolding order_with
ends_equal v fs pushed p whole goes at e = sym (ap (λ rs. order_with v rs Equal) e) ∙ (at.order ∙ goes.order)

-- the order of two Refs is that of their terms' values
pub order_of_terms : {M : Type 0} (v : StoreView M) (whole : RefPair) (t u : Tree) → IsTerm v whole.left t → IsTerm v whole.right u → pair_order v whole ≡ order (value (bindings v.now.state) t) (value (bindings v.now.state) u)
order_of_terms v whole t u left right = ap (λ w. order w (value_of v whole.right)) (value_is v whole.left t left) ∙ ap (order (value (bindings v.now.state) t)) (value_is v whole.right u right)

-- all that the loop knows when it has looked at a pair
pub looked : {M : Type 0} (v : StoreView M) (fs : List (Rest RefPair)) (p whole : RefPair) (c d : Cell) (o : Ordering) (count : ℕ) → HoldsNoCycle v → Goes v fs p whole → ShownBy v p.left c → ShownBy v p.right d → Begins v c d o → count ≡ cell_arity c → Roots v p o count
looked v fs p whole c d o count a goes left right begins many = roots v p c d o count a goes.pair left right begins many

-- and when it has put what is in the pair on the stack
pub looked_equal : {M : Type 0} (v : StoreView M) (fs new : List (Rest RefPair)) (p whole : RefPair) (c d : Cell) (o : Ordering) (count : ℕ) → HoldsNoCycle v → Goes v fs p whole → ShownBy v p.left c → ShownBy v p.right d → Begins v c d o → count ≡ cell_arity c → is_ne o ≡ false → new ≡ with_all fs p count → Pushed v fs new p
looked_equal v fs new p whole c d o count a goes left right begins many ne e = pushed_equal v fs new p whole o count goes (looked v fs p whole c d o count a goes left right begins many) ne e
