-- Items of constraints, one after the other.
use Rattle.std.specs.Prelude.{◌≡◌, ℕ, zero, suc, ◌+◌, ◌<◌, ◌≤◌, List, [], ◌∷◌, ◌++◌, length, map, drop, Option, Some, None, option_map, Result, Ok, Err, Vec, refl}
use Rattle.std.specs.List.{AllZip}
use Rattle.std.specs.declared.alloc.Global.{Global}
use Rattle.std.proofs.Common.{arith, ◌∙◌, ap, sym, subst, append_assoc, get_or}
use Rattle.std.proofs.Math.Seq.{drop-cons}
use Rattle.std.proofs.lemmas.List.{append-nil}
use Rattle.pi_terms.specs.Tree.{Tree, atom, comp, Trees, args}
use Rattle.pi_constraints.specs.declared.constraint.Item.{Item}
use Rattle.pi_constraints.specs.Value.{IsAcyclic, value}
use Rattle.pi_constraints.specs.State.{IsState, bindings}
use Rattle.pi_constraints.specs.Store.{Moment, StoreView, IsTerm, ShowsCell}
use Rattle.pi_constraints.specs.declared.store.Ref.{Ref}
use Rattle.pi_constraints.specs.declared.store.Cell.{Cell}
use Rattle.pi_constraints.proofs.RootLemmas.{with_values}
use Rattle.pi_effects.specs.Answer.{found_or}
use Rattle.pi_effects.specs.Items.{collection_items as items_of}
use Rattle.pi_prop_spec.specs.Steps.{Refusal, not_a_constraint, Made, Known, gives, after, then}
use Rattle.pi_prop_spec.specs.Lists.{read_item, read_each, read_collection, items_or_refused}
use Rattle.pi_prop_made.specs.declared.items.JudgedItems.{JudgedItems}
use Rattle.pi_prop_made.specs.Items.{IsJudged, AreJudged}
use Rattle.pi_prop_read.specs.declared.operands.stop.OperandStop.{OperandStop}
use Rattle.pi_prop_read.specs.Refs.{IsThere, value_at}
use Rattle.pi_prop_read.specs.OperandFrames.{AreThere, Refuses}
use Rattle.pi_prop_read.proofs.RootLemmas.{root_of, value_is, variable-root, integer-root, atom-root, compound-root}
use Rattle.pi_prop_read.proofs.AfterLemmas.{after_after, after_same, after_gives}
use Rattle.pi_prop_read.proofs.CollectionLemmas.{collection-values, are-there}
use Rattle.pi_prop_read.proofs.LoopLemmas.{found-items, no-items}
use Rattle.pi_prop_read.specs.Items.{values_at, gives_all, ShowsItem, ShowsEach, ShowsCollection}

-- ---- one item

pub variable-item : {M : Type 0} (v : StoreView M) (r : Ref) (cell : Cell) (n : ℕ) (m : Made) → IsState v.now.state → cell ≡ Cell.Var n → ShowsCell v (root_of v.now r) cell → ShowsItem v.now (Ok (Some (Item.Var n))) (read_item (value_at v.now r) m) m
variable-item v r cell n m s is e = (Item.Var n, ap (λ t. read_item t m) (variable-root v.now r n s.acyclic (subst (ShowsCell v (root_of v.now r)) is e)), (refl, refl))

pub integer-item : {M : Type 0} (v : StoreView M) (r : Ref) (cell : Cell) (i : _) (o : Option Item) (m : Made) → IsState v.now.state → cell ≡ Cell.Int i → ShowsCell v (root_of v.now r) cell → IsJudged o (Item.Int i) → ShowsItem v.now (Ok o) (read_item (value_at v.now r) m) m
integer-item v r cell i o m s is e judged = (Item.Int i, ap (λ t. read_item t m) (integer-root v.now r i s.acyclic (subst (ShowsCell v (root_of v.now r)) is e)), judged)

-- any other term is told
refused-item : (w : Moment) (r : Ref) (t : Tree) (m : Made) → IsThere w r → value_at w r ≡ t → read_item t m ≡ Err (not_a_constraint t) → Refuses w (OperandStop.NotLinear r) (read_item (value_at w r) m)
refused-item w r t m here e is = (here, ap (λ u. read_item u m) e ∙ (is ∙ ap (λ u. Err (not_a_constraint u)) (sym e)))

pub atom-item : {M : Type 0} (v : StoreView M) (r : Ref) (k : ℕ) (m : Made) → IsState v.now.state → IsThere v.now r → ShowsCell v (root_of v.now r) (Cell.Atom k) → ShowsItem v.now (Err (OperandStop.NotLinear r)) (read_item (value_at v.now r) m) m
atom-item v r k m s here (name, is, e) = refused-item v.now r (atom name) m here (atom-root v.now r name s.acyclic e) refl

pub compound-item : {M : Type 0} (v : StoreView M) (r : Ref) (k count : ℕ) (m : Made) → IsState v.now.state → IsThere v.now r → ShowsCell v (root_of v.now r) (Cell.Comp k count) → ShowsItem v.now (Err (OperandStop.NotLinear r)) (read_item (value_at v.now r) m) m
compound-item v r k count m s here (name, is, e, many) =
    let ts : Trees = args (root_of v.now r) in
    refused-item v.now r (comp name (with_values (bindings v.now.state) ts)) m here (compound-root v.now r name ts s.acyclic e) refl

-- ---- several

abbrev Each : Type 0
Each = Result (Known (List Item)) Refusal

-- items were read, and those that are left come behind them
abbrev pub with_front : List Item → List Item → Made → Each
with_front xs ys m = gives (xs ++ ys) m

pub record EachSoFar (w : Moment) (m : Made) (a : JudgedItems) (rest : List Ref) (whole : Each) : Type 0 where
  pub items : List Item
  pub judged : AreJudged a items
  pub goes : after (read_each (values_at w rest) m) (with_front items) ≡ whole

pub each-none : (w : Moment) (m : Made) (a : JudgedItems) (rs : List Ref) → AreJudged a [] → EachSoFar w m a rs (read_each (values_at w rs) m)
each-none w m a rs j = record { items = []; judged = j; goes = after_gives (read_each (values_at w rs) m) }

-- one item, and the rest
each-by : (w : Moment) (m : Made) (r : Ref) (rest : List Ref) → read_each (values_at w (r ∷ rest)) m ≡ after (read_item (value_at w r) m) (λ x. then (read_each (values_at w rest)) (λ ys. gives (x ∷ ys)))
unfolding read_each
each-by w m r rest = refl

pub each-more : (w : Moment) (m : Made) (old new : JudgedItems) (r : Ref) (rest : List Ref) (o : Option Item) (whole : Each) → AreThere w (r ∷ rest) → ShowsItem w (Ok o) (read_item (value_at w r) m) m → ((x : Item) (xs : List Item) → IsJudged o x → AreJudged old xs → AreJudged new (xs ++ x ∷ [])) →
    EachSoFar w m old (r ∷ rest) whole → EachSoFar w m new rest whole
each-more w m old new r rest o whole are (x, is, judged) push s =
    let own : Each = read_each (values_at w rest) m in
    record {
      items = s.items ++ x ∷ [];
      judged = push x s.items judged s.judged;
      goes = after_same own (with_front (s.items ++ x ∷ [])) (λ ys. then (gives (x ∷ ys)) (with_front s.items)) (λ ys k. ap (λ zs. gives zs k) (append_assoc s.items (x ∷ []) ys))
          ∙ (sym (after_after own (λ ys. gives (x ∷ ys)) (with_front s.items))
          ∙ (ap (λ e. after (after e (λ y. then (read_each (values_at w rest)) (λ ys. gives (y ∷ ys)))) (with_front s.items)) (sym is)
          ∙ (ap (λ e. after e (with_front s.items)) (sym (each-by w m r rest)) ∙ s.goes)));
    }

pub each-refused : (w : Moment) (m : Made) (a : JudgedItems) (r : Ref) (rest : List Ref) (stop : OperandStop) (whole : Each) → ShowsItem w (Err stop) (read_item (value_at w r) m) m → EachSoFar w m a (r ∷ rest) whole → Refuses w stop whole
each-refused w m a r rest (OperandStop.NotLinear q) whole h s =
    (h.0, sym s.goes ∙ (ap (λ e. after e (with_front s.items)) (each-by w m r rest) ∙ ap (λ e. after (after e (λ y. then (read_each (values_at w rest)) (λ ys. gives (y ∷ ys)))) (with_front s.items)) h.1))
each-refused w m a r rest OperandStop.Wide whole h s =
    sym s.goes ∙ (ap (λ e. after e (with_front s.items)) (each-by w m r rest) ∙ ap (λ e. after (after e (λ y. then (read_each (values_at w rest)) (λ ys. gives (y ∷ ys)))) (with_front s.items)) h)
each-refused w m a r rest OperandStop.Memory whole h s = tt

pub each-done : (w : Moment) (m : Made) (a : JudgedItems) (rest : List Ref) (whole : Each) → rest ≡ [] → EachSoFar w m a rest whole → ShowsEach w (Ok a) whole m
unfolding read_each
each-done w m a rest whole none s =
    (s.items, sym s.goes ∙ (ap (λ rs. after (read_each (values_at w rs) m) (with_front s.items)) none ∙ ap (λ xs. gives_all xs m) (append-nil s.items)), s.judged)

-- the Ref at a place, and those behind it
pub rest-at : (rs : List Ref) (i : ℕ) (r : Ref) → i < length rs → drop i rs ≡ get_or rs i r ∷ drop (i + 1) rs
rest-at rs i r l = let up : suc i ≡ i + 1 = omega arith in drop-cons rs i r l ∙ ap (λ (n : ℕ). get_or rs i r ∷ drop n rs) up

pub there-at : (w : Moment) (rs : List Ref) (i : ℕ) → AreThere w rs → AreThere w (drop i rs)
unfolding AreThere
there-at w rs zero h = h
there-at w [] (suc i) h = tt
there-at w (r ∷ rs) (suc i) h = there-at w rs i h.1

pub none-behind : (rs : List Ref) (n : ℕ) → length rs ≤ n → drop n rs ≡ []
none-behind [] zero l = refl
none-behind [] (suc n) l = refl
none-behind (r ∷ rs) zero l = absurd (omega (arith, l))
none-behind (r ∷ rs) (suc n) l = none-behind rs n (omega (arith, l))

pub first-there : (w : Moment) (r : Ref) (rs : List Ref) → AreThere w (r ∷ rs) → IsThere w r
unfolding AreThere
first-there w r rs h = h.0

-- ---- a list or an array

values-are : {M : Type 0} (v : StoreView M) (rs : List Ref) (ts : List Tree) → AllZip (IsTerm v) rs ts → map (value (bindings v.now.state)) ts ≡ values_at v.now rs
values-are v [] [] h = refl
values-are v [] (t ∷ ts) h = absurd h
values-are v (r ∷ rs) [] h = absurd h
values-are v (r ∷ rs) (t ∷ ts) h = let own = sym (value_is v.now r t h.0) in let rest = values-are v rs ts h.1 in (λ i. own i ∷ rest i)

-- the items of a Ref's value are the values of its items
collected-as : {M : Type 0} (v : StoreView M) (r : Ref) (t : Tree) (o : Option (List Tree)) (m : Made) → IsAcyclic (bindings v.now.state) → IsTerm v r t → items_of (bindings v.now.state) t ≡ o →
    read_collection (value_at v.now r) m ≡ items_or_refused (value_at v.now r) (option_map (map (value (bindings v.now.state))) o) m
collected-as v r t o m a is e =
    let b = bindings v.now.state in
    ap (λ p. items_or_refused (value_at v.now r) p m) (ap (items_of []) (value_is v.now r t is) ∙ (collection-values b t a ∙ ap (option_map (map (value b))) e))

pub collected-items : {M : Type 0} (v : StoreView M) (r : Ref) (t : Tree) (found : Vec Ref Global) (ball : Tree) (ts : List Tree) (m : Made) → IsAcyclic (bindings v.now.state) → IsTerm v r t → found_or (items_of (bindings v.now.state) t) ball (λ us. Ok us) ≡ Ok ts → AllZip (IsTerm v) found.items ts →
    ShowsCollection v.now (Ok found) (read_collection (value_at v.now r) m) m
collected-items v r t found ball ts m a is e are =
    (collected-as v r t (Some ts) m a is (found-items (items_of (bindings v.now.state) t) ball ts e) ∙ ap (λ us. gives_all us m) (values-are v found.items ts are), are-there v found.items ts are)

pub collected-none : {M : Type 0} (v : StoreView M) (r : Ref) (t : Tree) (ball raised : Tree) (m : Made) → IsAcyclic (bindings v.now.state) → IsTerm v r t → IsThere v.now r → found_or (items_of (bindings v.now.state) t) ball (λ us. Ok us) ≡ Err raised →
    ShowsCollection v.now (Err (OperandStop.NotLinear r)) (read_collection (value_at v.now r) m) m
collected-none v r t ball raised m a is here e = (here, collected-as v r t None m a is (no-items (items_of (bindings v.now.state) t) ball raised e))
