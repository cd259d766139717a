-- Matching in a state is matching of values.
use Rattle.std.proofs.Common.{◌≡◌, ℕ, ℤ, Bool, true, false, cond, List, [], Option, Some, None, length, nat_lt, refl, ap, sym, ◌∙◌}
use Rattle.std.proofs.Math.ListN.{get_or-map}
use Rattle.std.proofs.lemmas.List.{map-set, length-map}
use Rattle.std.specs.Prelude.{option_map, option_and_then, slice_set}
use Rattle.std.specs.Ordering.{is_eq}
use Rattle.pi_terms.specs.Tree.{Tree, var, int, atom, comp, Trees, no_trees, tree, args}
use Rattle.pi_terms.specs.Places.{Places, held}
use Rattle.pi_terms.specs.Order.{name_order, order, identical}
use Rattle.pi_terms.specs.Substitution.{instance, instances}
use Rattle.pi_terms.specs.PatternTree.{slot, exact_int, exact_atom, compound, named, PatternTrees, no_patterns, pattern}
use Rattle.pi_constraints.specs.Value.{Bindings, value, IsAcyclic}
use Rattle.pi_constraints.specs.State.{followed}
use Rattle.pi_constraints.specs.Match.{taken, filled, matched, matched_all}
use Rattle.pi_constraints.specs.HeadMatch.{taken_in, filled_in, compound_in, matched_in, matched_all_in, slot_values, MatchesByValue, HeadMatchesByValue}
use Rattle.pi_constraints.proofs.ValueLemmas.{value_goes_by_variables, unbound_is_its_own_value}
use Rattle.pi_constraints.proofs.FollowLemmas.{followed_value, followed_unbound}

-- the values of arguments
abbrev values : Bindings → Trees → Trees
values b ts = instances (λ n. value b (var n)) ts

-- the value of a term whose root was followed
abbrev value_at_root : Bindings → Tree → Tree
value_at_root b (var n) = var n
value_at_root b (int n) = int n
value_at_root b (atom name) = atom name
value_at_root b (comp name ts) = comp name (values b ts)

root-value : (b : Bindings) (u : Tree) → ((n : ℕ) → u ≡ var n → held b n ≡ None) → value b u ≡ value_at_root b u
unfolding instance
root-value b (var n) h = unbound_is_its_own_value b n (h n refl)
root-value b (int n) h = value_goes_by_variables b (int n)
root-value b (atom name) h = value_goes_by_variables b (atom name)
root-value b (comp name ts) h = value_goes_by_variables b (comp name ts)

followed-root : (b : Bindings) (t : Tree) → IsAcyclic b → value b t ≡ value_at_root b (followed b t)
followed-root b t a = sym (followed_value b t a) ∙ root-value b (followed b t) (λ n is. followed_unbound b t n a is)

-- a test before a result
cond-mapped : {A B : Type 0} (f : A → B) (c : Bool) (o : Option A) → option_map f (cond c o None) ≡ cond c (option_map f o) None
cond-mapped f true o = refl
cond-mapped f false o = refl

then-mapped : {A B : Type 0} (h : A → B) (f : A → Option A) (g : B → Option B) → ((x : A) → option_map h (f x) ≡ g (h x)) → (o : Option A) →
    option_map h (option_and_then f o) ≡ option_and_then g (option_map h o)
then-mapped h f g same None = refl
then-mapped h f g same (Some x) = same x

-- one slot

taken-value : (b : Bindings) (o : Option Tree) (e : Places) (k : ℕ) (t : Tree) →
    option_map (slot_values b) (taken_in b o e k t) ≡ taken (option_map (value b) o) (slot_values b e) k (value b t)
taken-value b (Some u) e k t = cond-mapped (slot_values b) (identical (value b u) (value b t)) (Some e)
taken-value b None e k t =
    cond-mapped (slot_values b) (nat_lt k (length e)) (Some (slice_set e k (Some t)))
    ∙ (ap (λ r. cond (nat_lt k (length e)) (Some r) None) (map-set (option_map (value b)) e k (Some t))
    ∙ ap (λ n. cond (nat_lt k n) (Some (slice_set (slot_values b e) k (Some (value b t)))) None) (sym (length-map e (option_map (value b)))))

filled-value : (b : Bindings) (k : ℕ) (t : Tree) (e : Places) → option_map (slot_values b) (filled_in b k t e) ≡ filled k (value b t) (slot_values b e)
filled-value b k t e =
    taken-value b (held e k) e k t ∙ ap (λ o. taken o (slot_values b e) k (value b t)) (sym (get_or-map (option_map (value b)) e k None))

-- an integer and an atom are told by the root

int-at-root : (b : Bindings) (n : ℤ) (u : Tree) → identical (int n) u ≡ identical (int n) (value_at_root b u)
unfolding order
int-at-root b n (var m) = refl
int-at-root b n (int m) = refl
int-at-root b n (atom name) = refl
int-at-root b n (comp name ts) = refl

atom-at-root : (b : Bindings) (f : List ℕ) (u : Tree) → identical (atom f) u ≡ identical (atom f) (value_at_root b u)
unfolding order
atom-at-root b f (var m) = refl
atom-at-root b f (int m) = refl
atom-at-root b f (atom name) = refl
atom-at-root b f (comp name ts) = refl

exact-value : (b : Bindings) (t : Tree) (e : Places) → IsAcyclic b → (test : Tree → Bool) → ((u : Tree) → test u ≡ test (value_at_root b u)) →
    option_map (slot_values b) (cond (test (followed b t)) (Some e) None) ≡ cond (test (value b t)) (Some (slot_values b e)) None
exact-value b t e a test same =
    cond-mapped (slot_values b) (test (followed b t)) (Some e)
    ∙ ap (λ c. cond c (Some (slot_values b e)) None) (same (followed b t) ∙ ap test (sym (followed-root b t a)))

-- a compound

compound-at-root : (b : Bindings) (f : List ℕ) (ps : PatternTrees) (e : Places) →
    ((ts : Trees) → option_map (slot_values b) (matched_all_in b ps ts e) ≡ matched_all ps (values b ts) (slot_values b e)) → (u : Tree) →
    option_map (slot_values b) (compound_in (λ ts. matched_all_in b ps ts e) f u) ≡ matched (compound f ps) (value_at_root b u) (slot_values b e)
unfolding matched
compound-at-root b f ps e same (var n) = refl
compound-at-root b f ps e same (int n) = refl
compound-at-root b f ps e same (atom name) = refl
compound-at-root b f ps e same (comp g ts) =
    cond-mapped (slot_values b) (is_eq (name_order f g)) (matched_all_in b ps ts e) ∙ ap (λ o. cond (is_eq (name_order f g)) o None) (same ts)

mutual
  unfolding matched_in matched instance

  pub matches-by_value : MatchesByValue
  matches-by_value b (slot k) t e a = filled-value b k t e
  matches-by_value b (exact_int n) t e a = exact-value b t e a (λ u. identical (int n) u) (int-at-root b n)
  matches-by_value b (exact_atom name) t e a = exact-value b t e a (λ u. identical (atom name) u) (atom-at-root b name)
  matches-by_value b (compound f ps) t e a =
      compound-at-root b f ps e (λ ts. all-by_value b ps ts e a) (followed b t)
      ∙ ap (λ u. matched (compound f ps) u (slot_values b e)) (sym (followed-root b t a))
  matches-by_value b (named k p) t e a =
      then-mapped (slot_values b) (matched_in b p t) (matched p (value b t)) (λ x. matches-by_value b p t x a) (filled_in b k t e)
      ∙ ap (option_and_then (matched p (value b t))) (filled-value b k t e)

  all-by_value : (b : Bindings) (ps : PatternTrees) (ts : Trees) (e : Places) → IsAcyclic b →
      option_map (slot_values b) (matched_all_in b ps ts e) ≡ matched_all ps (values b ts) (slot_values b e)
  all-by_value b no_patterns no_trees e a = refl
  all-by_value b no_patterns (tree t ts) e a = refl
  all-by_value b (pattern p ps) no_trees e a = refl
  all-by_value b (pattern p ps) (tree t ts) e a =
      then-mapped (slot_values b) (matched_all_in b ps ts) (matched_all ps (values b ts)) (λ x. all-by_value b ps ts x a) (matched_in b p t e)
      ∙ (ap (option_and_then (matched_all ps (values b ts))) (matches-by_value b p t e a)
      ∙ ap (λ u. option_and_then (matched_all ps (values b ts)) (matched p u (slot_values b e))) (value_goes_by_variables b t))

pub head-matches-by_value : HeadMatchesByValue
unfolding instance
head-matches-by_value b ps ts e a =
    all-by_value b ps ts e a ∙ ap (λ u. matched_all ps (args u) (slot_values b e)) (sym (value_goes_by_variables b (comp [] ts)))
