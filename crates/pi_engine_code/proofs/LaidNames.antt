-- Goals by name that are added, with their places.
use Rattle.std.proofs.Common.{◌≡◌, inl, inr, ℕ, ◌+◌, ◌<◌, ◌≤◌, ◌==◌, ◌&&◌, Bool, true, false, cond, List, [], ◌∷◌, ◌++◌, Option, Some, None, length, take, map, get_or, refl, sym, ◌∙◌, ap, subst, arith, eqb-true, eq-eqb}
use Rattle.std.specs.Prelude.{IsSome, Contains, AllPairs}
use Rattle.std.proofs.lemmas.List.{take_more, take_all}
use Rattle.std.proofs.lemmas.List.Elements.{Contains-get_or, Contains-push_cases}
use Rattle.pi_constraints.specs.State.{bindings}
use Rattle.pi_constraints.specs.Value.{IsAcyclic}
use Rattle.pi_constraints.specs.Store.{StoreView, IsName, Keeps, Stays}
use Rattle.pi_core.specs.GoalTree.{GoalTree}
use Rattle.pi_core.specs.CoreTree.{pred_tree}
use Rattle.pi_core.specs.declared.core_program.CorePred.{CorePred}
use Rattle.pi_meaning.specs.CoreMeaning.Sound.{IsAnother}
use Rattle.pi_meaning.specs.Machine.NamedGoals.{goal_by_name}
use Rattle.pi_lib_builtin.specs.Resolved.{Named}
use Rattle.pi_engine_code.specs.declared.code.Code.{Code}
use Rattle.pi_engine_code.specs.declared.callables.Callables.{Callables}
use Rattle.pi_engine_code.specs.declared.build.numbers.Numbers.{Numbers}
use Rattle.pi_engine_code.specs.Numbers.{IsNumbering}
use Rattle.pi_engine_code.specs.Laid.{Adds, AddsSteps, tables_for, IsLaid, AreResolved, layout}
use Rattle.pi_engine_code.specs.Callables.{place_in, IsPlaceOf, ArePlaces, HasPlace, AreCallable, AddsPlaces, HasPlaces, AreNamed, placing}
use Rattle.pi_engine_code.proofs.LaidTables.{steps-none, steps-then}
use Rattle.pi_engine_code.proofs.LaidRuleLemmas.{laid-then}
use Rattle.pi_engine_code.proofs.LaidTests.{acyclic-stays}

-- ---- one place more

-- the place of a name is found, and what was found for others
abbrev pub Updated : Callables → Callables → ℕ → ℕ → ℕ → Type 0
Updated m n number k place = (i j : ℕ) → place_in n i j ≡ cond ((number == i) && (k == j)) (Some place) (place_in m i j)

both : (a b : Bool) → (a && b) ≡ true → (a ≡ true) × (b ≡ true)
both true b h = (refl, h)
both false b h = absurd cc

place-wider : {M : Type 0} (all : List CorePred) (v w : StoreView M) (c d : Code) (i j p : ℕ) → Adds v w c d → IsPlaceOf all (tables_for all v.now.terms c) v.names c.steps.items i j p → IsPlaceOf all (tables_for all w.now.terms d) w.names d.steps.items i j p
place-wider all v w c d i j p adds is =
    record {
      name = is.name;
      it = is.it;
      name_is = adds.stays.keeps.names i is.name is.name_is;
      goal_is = is.goal_is;
      laid = laid-then all v w c d 0 j p is.it true adds is.laid;
    }

either-place : {M : Type 0} (all : List CorePred) (w : StoreView M) (d : Code) (number k place i j p : ℕ) (name : List ℕ) (g : GoalTree) (old : Option ℕ) (here : Bool) → ((number == i) && (k == j)) ≡ here → IsName w number name →
    goal_by_name (map pred_tree all) name k ≡ Some g → IsLaid (layout all (tables_for all w.now.terms d) d.steps.items 0 k) place g true → (old ≡ Some p → IsPlaceOf all (tables_for all w.now.terms d) w.names d.steps.items i j p) →
    cond here (Some place) old ≡ Some p → IsPlaceOf all (tables_for all w.now.terms d) w.names d.steps.items i j p
either-place all w d number k place i j p name g old true is named goal_is laid before found =
    let parts : (number == i ≡ true) × (k == j ≡ true) = both (number == i) (k == j) is in
    let same : place ≡ p = cc found in
    subst (λ n. IsPlaceOf all (tables_for all w.now.terms d) w.names d.steps.items n j p) (eqb-true number i parts.0)
    (subst (λ n. IsPlaceOf all (tables_for all w.now.terms d) w.names d.steps.items number n p) (eqb-true k j parts.1)
    (subst (IsPlaceOf all (tables_for all w.now.terms d) w.names d.steps.items number k) same (record { name = name; it = g; name_is = named; goal_is = goal_is; laid = laid })))
either-place all w d number k place i j p name g old false is named goal_is laid before found = before found

-- the number that a store has for a name
pub one-number : {M : Type 0} (v : StoreView M) (found : Option ℕ) (number : ℕ) (name : List ℕ) → (n : ℕ) × (found ≡ Some n) × IsName v n name → found ≡ Some number → IsName v number name
one-number v found number name (n, is, named) same = let equal : n ≡ number = cc (is, same) in subst (λ k. IsName v k name) equal named

-- tables stay, where the store gets a term
store-only : {M : Type 0} (v w : StoreView M) (c : Code) → Stays v w → Adds v w c c
store-only v w c stays =
    record {
      stays = stays;
      core = refl;
      steps = λ i x at. at;
      operands = λ i x at. at;
      parts = λ i x at. at;
      names = λ i x at. at;
      tests = λ i x at. at;
      rules = λ i x at. at;
      predicates = λ i x at. at;
    }

pub place-added : {M : Type 0} (all : List CorePred) (u v w : StoreView M) (c d : Code) (m n : Callables) (number place : ℕ) (name : List ℕ) (k : ℕ) (made : GoalTree) → Stays u v → IsName v number name → AddsSteps v w c d →
    IsLaid (layout all (tables_for all w.now.terms d) d.steps.items 0 k) place made true → ((g : GoalTree) → goal_by_name (map pred_tree all) name k ≡ Some g → made ≡ g) → Updated m n number k place → AddsPlaces all (placing u c m) (placing w d n) name k
place-added all u v w c d m n number place name k made first named adds laid is_made updated g goal_is right i j p found =
    either-place all w d number k place i j p name g (place_in m i j) ((number == i) && (k == j)) refl (adds.adds.stays.keeps.names number name named) goal_is
    (subst (λ h. IsLaid (layout all (tables_for all w.now.terms d) d.steps.items 0 k) place h true) (is_made g goal_is) laid)
    (λ old. place-wider all v w c d i j p adds.adds (place-wider all u v c c i j p (store-only u v c first) (right i j p old))) (sym (updated i j) ∙ found)

some-place : (b : Bool) (x y : ℕ) → (z : ℕ) × (cond b (Some x) (Some y) ≡ Some z)
some-place true x y = (x, refl)
some-place false x y = (y, refl)

itself : (a b : Bool) → a ≡ true → b ≡ true → (a && b) ≡ true
itself a b h k = ap (λ r. r && b) h ∙ k

same-number : (n : ℕ) → (n == n) ≡ true
same-number n = eq-eqb n n refl

pub has-added : {M : Type 0} (u v w : StoreView M) (m n : Callables) (number place : ℕ) (name : List ℕ) (k : ℕ) → Keeps u v → IsName v number name → Keeps v w → Updated m n number k place → HasPlaces u.names w.names m n name k
has-added u v w m n number place name k first named second updated =
    record {
      still = λ other j has.
          let one : (z : ℕ) × (cond ((number == has.number) && (k == j)) (Some place) (Some has.place) ≡ Some z) = some-place ((number == has.number) && (k == j)) place has.place in
          record {
            number = has.number;
            place = one.0;
            name_is = second.names has.number other (first.names has.number other has.name_is);
            place_is = updated has.number j ∙ ap (cond ((number == has.number) && (k == j)) (Some place)) has.place_is ∙ one.1;
          };
      named = record {
        number = number;
        place = place;
        name_is = second.names number name named;
        place_is = updated number k ∙ ap (λ b. cond b (Some place) (place_in m number k)) (itself (number == number) (k == k) (same-number number) (same-number k));
      };
    }

-- ---- one after the other

-- the goals of the first so many names were added
pub record PlacesAdded {M : Type 0} (numbers : Numbers) (u v : StoreView M) (c d : Code) (names : List (Named ℕ)) (m : Callables) (i : ℕ) : Type 0 where
  pub adds : AddsSteps u v c d
  pub resolved : (all : List CorePred) → IsNumbering numbers all → AreResolved all c.steps.items → AreResolved all d.steps.items
  pub right : (all : List CorePred) → IsNumbering numbers all → IsAcyclic (bindings u.now.state) → ((name : List ℕ) (k : ℕ) → Contains names (name, k) → IsSome (goal_by_name (map pred_tree all) name k)) → ArePlaces all (tables_for all v.now.terms d) v.names d.steps.items m
  pub has : IsAcyclic (bindings u.now.state) → (name : List ℕ) (k : ℕ) → Contains (take i names) (name, k) → HasPlace v.names m name k

pub no-places-added : {M : Type 0} (numbers : Numbers) (v : StoreView M) (c : Code) (names : List (Named ℕ)) (m : Callables) → ((n k : ℕ) → place_in m n k ≡ None) → PlacesAdded numbers v v c c names m 0
no-places-added numbers v c names m none =
    record {
      adds = steps-none v c;
      resolved = λ all numbered are. are;
      right = λ all numbered acyclic some n k place found. absurd (cc (found, none n k));
      has = λ acyclic name k there. absurd (omega (arith, there.1));
    }

some-of : {A : Type 0} (o : Option A) → IsSome o → (x : A) × (o ≡ Some x)
some-of (Some x) h = (x, refl)
some-of None h = absurd cc

pub places-added : {M : Type 0} (numbers : Numbers) (u v w : StoreView M) (c d e : Code) (names : List (Named ℕ)) (m n : Callables) (i : ℕ) (name : List ℕ) (k : ℕ) → PlacesAdded numbers u v c d names m i → i < length names → (name, k) ≡ get_or names i (name, k) →
    AddsSteps v w d e → ((all : List CorePred) → IsNumbering numbers all → AreResolved all d.steps.items → AreResolved all e.steps.items) →
    ((all : List CorePred) → IsNumbering numbers all → IsAcyclic (bindings v.now.state) → AddsPlaces all (placing v d m) (placing w e n) name k) → (IsAcyclic (bindings v.now.state) → HasPlaces v.names w.names m n name k) → PlacesAdded numbers u w c e names n (i + 1)
places-added numbers u v w c d e names m n i name k before within item adds resolved right has =
    record {
      adds = steps-then u v w c d e before.adds adds;
      resolved = λ all numbered are. resolved all numbered (before.resolved all numbered are);
      right = λ all numbered acyclic some.
          let there : Contains names (name, k) = subst (Contains names) (sym item) (Contains-get_or names i (name, k) within) in
          let goal_is : (g : GoalTree) × (goal_by_name (map pred_tree all) name k ≡ Some g) = some-of (goal_by_name (map pred_tree all) name k) (some name k there) in
          right all numbered (acyclic-stays u v before.adds.adds.stays acyclic) goal_is.0 goal_is.1 (before.right all numbered acyclic some);
      has = λ acyclic other j there.
          let places : HasPlaces v.names w.names m n name k = has (acyclic-stays u v before.adds.adds.stays acyclic) in
          let more : take (i + 1) names ≡ take i names ++ (name, k) ∷ [] = take_more names i (name, k) within ∙ ap (λ x. take i names ++ x ∷ []) (sym item) in
          elim (Contains-push_cases (take i names) (name, k) (other, j) (subst (λ ns. Contains ns (other, j)) more there)) [
            | inl old ↦ places.still other j (before.has acyclic other j old)
            | inr same ↦ subst (λ r. HasPlace w.names n r.0 r.1) same places.named
          ];
    }

pub all-places-added : {M : Type 0} (numbers : Numbers) (u v : StoreView M) (c d : Code) (all : List CorePred) (names : List (Named ℕ)) (m : Callables) (i : ℕ) → PlacesAdded numbers u v c d names m i → length names ≤ i → AreNamed all names → IsNumbering numbers all →
    IsAcyclic (bindings u.now.state) → AllPairs IsAnother (map pred_tree all) → AreCallable all (tables_for all v.now.terms d) v.names d.steps.items m
all-places-added numbers u v c d all names m i added whole named numbered acyclic apart =
    record {
      right = added.right all numbered acyclic (named.right apart);
      each = λ name k g is. added.has acyclic name k (subst (λ ns. Contains ns (name, k)) (sym (take_all i names whole)) (named.each name k g is));
    }
