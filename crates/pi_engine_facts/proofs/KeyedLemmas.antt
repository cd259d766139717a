-- Facts that are passed over by their keys don't unify with a call.
use Rattle.std.proofs.Common.{◌≡◌, ℕ, ◌+◌, ◌-◌, ◌≤◌, ◌<◌, List, [], Some, None, length, get_or, refl, ap, sym, subst, ◌∙◌, arith}
use Rattle.std.specs.Prelude.{ℤ, slice_get, Contains}
use Rattle.std.specs.Ordering.{nat_cmp}
use Rattle.std.specs.declared.cmp.Ordering.{Ordering}
use Rattle.std.specs.declared.cmp.Ordering.TheVariants.{Less, Equal, Greater}
use Rattle.std.proofs.lemmas.Cmp.{ranked}
use Rattle.std.proofs.lemmas.Option.{slice_get_within}
use Rattle.std.proofs.lemmas.List.Elements.{Contains-get_or}
use Rattle.pi_terms.specs.Tree.{Tree, Trees, comp, tree_at, arg_at}
use Rattle.pi_terms.specs.PatternTree.{PatternTree, exact_int, exact_atom}
use Rattle.pi_constraints.specs.Value.{IsAcyclic}
use Rattle.pi_constraints.specs.State.{State, bindings, next, followed, SpeaksBelow, IsState}
use Rattle.pi_constraints.specs.Store.{StoreView, IsName, IsTerm, ShowsCell, Keeps}
use Rattle.pi_constraints.specs.declared.store.Ref.{Ref}
use Rattle.pi_constraints.specs.declared.store.Cell.{Cell}
use Rattle.pi_constraints.proofs.KeepsLemmas.{args-below}
use Rattle.pi_core.specs.CoreTree.{clause_tree, pattern_tree}
use Rattle.pi_core.specs.declared.core_program.CoreClause.{CoreClause}
use Rattle.pi_meaning.specs.Machine.Step.{with_fact}
use Rattle.pi_engine_code.specs.declared.fact_keys.FactKeys.{FactKeys}
use Rattle.pi_engine_code.specs.declared.key.FactValue.{FactValue}
use Rattle.pi_engine_code.specs.Keys.{Has, places_in}
use Rattle.pi_engine_facts.specs.Roots.{Differs}
use Rattle.pi_engine_facts.specs.Keyed.{IsShown, at_place, HasKey, HaveKeys, NoneBetween, sought}
use Rattle.pi_engine_facts.proofs.RootLemmas.{no-fact, shown-at}

-- ---- what shows something else is another thing

abbrev pub AreDistinct : {M : Type 0} → StoreView M → Type 0
AreDistinct v = (j k : ℕ) (name : List ℕ) → IsName v j name → IsName v k name → j ≡ k

the-value : (v w : FactValue) → Some v ≡ Some w → v ≡ w
the-value v w h = cc

not-sought : {X : Type 0} (w : FactValue) → None ≡ Some w → X
not-sought w h = absurd cc

int-apart : {M : Type 0} (v : StoreView M) (t : Tree) (n : ℤ) (value : FactValue) (cell : Cell) → sought cell ≡ Some value → ShowsCell v t cell → (FactValue.Int n ≡ value → ⊥) → Differs (exact_int n) t
unfolding Differs
int-apart v t n value (Cell.Var k) is shows other = not-sought value is
int-apart v t n value (Cell.Int m) is shows other = subst (Differs (exact_int n)) (sym shows) (λ same. other (ap FactValue.Int same ∙ the-value (FactValue.Int m) value is))
int-apart v t n value (Cell.Atom k) is shows other = subst (Differs (exact_int n)) (sym shows.2) tt
int-apart v t n value (Cell.Comp k count) is shows other = subst (Differs (exact_int n)) (sym shows.2) tt

atom-apart : {M : Type 0} (v : StoreView M) (t : Tree) (j : ℕ) (name : List ℕ) (value : FactValue) (cell : Cell) → sought cell ≡ Some value → ShowsCell v t cell → IsName v j name → AreDistinct v → (FactValue.Atom j ≡ value → ⊥) → Differs (exact_atom name) t
unfolding Differs
atom-apart v t j name value (Cell.Var k) is shows named distinct other = not-sought value is
atom-apart v t j name value (Cell.Int m) is shows named distinct other = subst (Differs (exact_atom name)) (sym shows) tt
atom-apart v t j name value (Cell.Atom k) is shows named distinct other =
    subst (Differs (exact_atom name)) (sym shows.2)
    (λ same. other (ap FactValue.Atom (distinct j k shows.0 (subst (λ (f : List ℕ). IsName v j f) same named) shows.1) ∙ the-value (FactValue.Atom k) value is))
atom-apart v t j name value (Cell.Comp k count) is shows named distinct other = subst (Differs (exact_atom name)) (sym shows.2) tt

apart : {M : Type 0} (v : StoreView M) (p : PatternTree) (t : Tree) (value : FactValue) (cell : Cell) (shown : FactValue) → IsShown v.names p shown → sought cell ≡ Some value → ShowsCell v t cell → AreDistinct v → (shown ≡ value → ⊥) → (shown ≡ FactValue.Any → ⊥) →
    Differs p t
apart v p t value cell FactValue.Any it is shows distinct other known = absurd (known refl)
apart v p t value cell (FactValue.Int n) it is shows distinct other known = subst (λ (q : PatternTree). Differs q t) (sym it) (int-apart v t n value cell is shows other)
apart v p t value cell (FactValue.Atom k) it is shows distinct other known = subst (λ (q : PatternTree). Differs q t) (sym it.2) (atom-apart v t k it.0 value cell is shows it.1 distinct other)

-- ---- a fact that is known to show something else

-- what a store tells of the argument in a place, which is the one of a Ref and shows a cell
pub record TellsArgument {M : Type 0} (v : StoreView M) (call arg : Ref) (place : ℕ) (cell : Cell) : Type 0 where
  pub below : (q : Ref) (t : Tree) → IsTerm v q t → SpeaksBelow (next v.now.state) t
  pub args : (t u : Tree) → IsTerm v call t → IsAcyclic (bindings v.now.state) → arg_at (followed (bindings v.now.state) t) place ≡ Some u → IsTerm v arg u
  pub shows : (t : Tree) → IsTerm v arg t → IsAcyclic (bindings v.now.state) → ShowsCell v (followed (bindings v.now.state) t) cell
  pub distinct : AreDistinct v

key-passed : {M : Type 0} (v : StoreView M) (ts : Trees) (m : FactKeys) (predicate place number : ℕ) (d : CoreClause) (call arg : Ref) (cell : Cell) (value : FactValue) → IsState v.now.state → IsTerm v call (comp [] ts) → TellsArgument v call arg place cell →
    sought cell ≡ Some value → HasKey v.names m predicate place number d → (Has m (at_place predicate place value) number → ⊥) → (Has m (at_place predicate place FactValue.Any) number → ⊥) → with_fact ts v.now.state (clause_tree d) ≡ None
key-passed v ts m predicate place number d call arg cell value is asked tells found it other known =
    no-fact ts v.now.state d.head.items d.slots place it.pattern is (args-below (next v.now.state) [] ts (tells.below call (comp [] ts) asked)) it.at
    (shown-at v ts place (pattern_tree it.pattern) call arg cell is asked tells.args tells.shows
    (λ t shows. apart v (pattern_tree it.pattern) t value cell it.value it.shown found shows tells.distinct
    (λ same. other (subst (λ (w : FactValue). Has m (at_place predicate place w) number) same it.key))
    (λ same. known (subst (λ (w : FactValue). Has m (at_place predicate place w) number) same it.key)))
    (tree_at ts place) refl)

-- ---- one place

-- the next one that shows this, or what has no key
abbrev pub IsLeast : FactKeys → ℕ → ℕ → FactValue → ℕ → ℕ → ℕ → Type 0
IsLeast m predicate place value from end number = (n : ℕ) → from ≤ n → n < end → Has m (at_place predicate place value) n → number ≤ n

-- facts in front of both don't unify
pub both-passed : {M : Type 0} (v : StoreView M) (ts : Trees) (m : FactKeys) (predicate place first from end alike any to : ℕ) (ds : List CoreClause) (call arg : Ref) (cell : Cell) (value : FactValue) → TellsArgument v call arg place cell → sought cell ≡ Some value →
    IsLeast m predicate place value from end alike → IsLeast m predicate place FactValue.Any from end any → to ≤ alike → to ≤ any →
    IsState v.now.state → IsTerm v call (comp [] ts) → HaveKeys v.names m predicate ds first → Contains (places_in m predicate) place → first ≤ from → end ≡ first + length ds → NoneBetween ts v.now.state ds first from to
both-passed v ts m predicate place first from end alike any to ds call arg cell value tells found alike_is any_is one two is asked keys listed low ends = λ number d here before at.
    let within : number - first < length ds = slice_get_within ds (number - first) d at in
    let less : number < end = omega (arith, within, low, here, ends) in
    let it : HasKey v.names m predicate place number d =
    subst (λ n. HasKey v.names m predicate place n d) (omega (arith, low, here)) (keys place (number - first) d listed at) in
    key-passed v ts m predicate place number d call arg cell value is asked tells found it
    (λ has. let le : alike ≤ number = alike_is number here less has in omega (arith, le, one, before))
    (λ has. let le : any ≤ number = any_is number here less has in omega (arith, le, two, before))

-- ---- one place after the other

pub listed-place : (places : List ℕ) (m : FactKeys) (predicate i d : ℕ) → places ≡ places_in m predicate → i < length places → Contains (places_in m predicate) (get_or places i d)
listed-place places m predicate i d same less = subst (λ (xs : List ℕ). Contains xs (get_or places i d)) same (Contains-get_or places i d less)

pub none-between : (ts : Trees) (s : State) (ds : List CoreClause) (first from : ℕ) → NoneBetween ts s ds first from from
none-between ts s ds first from = λ number d low high at. absurd (omega (arith, low, high))

further-by : (ts : Trees) (s : State) (ds : List CoreClause) (first from mid to number : ℕ) (d : CoreClause) (o : Ordering) → o ≡ nat_cmp number mid → NoneBetween ts s ds first from mid → NoneBetween ts s ds first mid to → from ≤ number → number < to → slice_get ds (number - first) ≡ Some d →
    with_fact ts s (clause_tree d) ≡ None
further-by ts s ds first from mid to number d Less is one two low high at = one number d low (ranked number mid Less is) at
further-by ts s ds first from mid to number d Equal is one two low high at = let same : number ≡ mid = ranked number mid Equal is in two number d (omega (arith, same)) high at
further-by ts s ds first from mid to number d Greater is one two low high at = let more : mid < number = ranked number mid Greater is in two number d (omega (arith, more)) high at

pub none-further : (ts : Trees) (s : State) (ds : List CoreClause) (first from mid to : ℕ) → NoneBetween ts s ds first from mid → NoneBetween ts s ds first mid to → NoneBetween ts s ds first from to
none-further ts s ds first from mid to one two = λ number d low high at. further-by ts s ds first from mid to number d (nat_cmp number mid) refl one two low high at

-- ---- a later store has the same keys

shown-kept : {M : Type 0} (v w : StoreView M) (p : PatternTree) (value : FactValue) → Keeps v w → IsShown v.names p value → IsShown w.names p value
shown-kept v w p FactValue.Any keeps it = tt
shown-kept v w p (FactValue.Int n) keeps it = it
shown-kept v w p (FactValue.Atom k) keeps it = (it.0, keeps.names k it.0 it.1, it.2)

pub keys-kept : {M : Type 0} (v w : StoreView M) (m : FactKeys) (predicate first : ℕ) (ds : List CoreClause) → Keeps v w → HaveKeys v.names m predicate ds first → HaveKeys w.names m predicate ds first
keys-kept v w m predicate first ds keeps have = λ place i d listed at.
    let it : HasKey v.names m predicate place (first + i) d = have place i d listed at in
    record { pattern = it.pattern; at = it.at; value = it.value; shown = shown-kept v w (pattern_tree it.pattern) it.value keeps it.shown; key = it.key }
