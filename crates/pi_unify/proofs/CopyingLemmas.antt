-- Copies of listed terms, put from the last to the first.
use Rattle.std.proofs.Common.{◌≡◌, ℕ, ℤ, zero, suc, ◌+◌, ◌<◌, ◌≤◌, List, [], ◌∷◌, ◌++◌, length, get_or, take, drop, reverse, Some, inl, inr, refl, ap, sym, ◌∙◌, subst, arith}
use Rattle.std.specs.Prelude.{Contains, nat_eq}
use Rattle.std.specs.List.{list_any}
use Rattle.std.proofs.lemmas.Bool.{cases_Bool, eqb-true}
use Rattle.std.proofs.lemmas.List.{reverse-append, reverse-reverse, length-reverse}
use Rattle.std.proofs.lemmas.List.Elements.{Contains-append_right}
use Rattle.std.proofs.lemmas.Map.Views.{Contains-from_any}
use Rattle.pi_terms.specs.Tree.{Tree, var, int, atom, comp, Trees, no_trees, tree, tree_count, args, arity, drop_trees}
use Rattle.pi_terms.specs.TermCells.{take_trees}
use Rattle.pi_terms.specs.Variables.{firsts, IsGround}
use Rattle.pi_terms.specs.Substitution.{instance, instances}
use Rattle.pi_constraints.specs.Value.{IsAcyclic, value}
use Rattle.pi_terms.specs.Copy.{renamed}
use Rattle.pi_constraints.specs.State.{State, next, bindings}
use Rattle.pi_constraints.specs.Store.{StoreView, IsTerm, AreTerms, Keeps, Stays}
use Rattle.pi_constraints.specs.declared.store.Ref.{Ref}
use Rattle.pi_terms.proofs.VariableLemmas.{Has, ground_stays, tree_count-instances}
use Rattle.pi_terms.specs.Numbers.{noted}
use Rattle.pi_terms.proofs.NumberLemmas.{noted-firsts, contains_from}
use Rattle.pi_terms.proofs.CopyLemmas.{firsts-known}
use Rattle.pi_constraints.proofs.ValueLemmas.{ground_is_its_own_value}
use Rattle.pi_unify.specs.Terms.{IsGiven, HoldsNoCycle, term_of, value_of}
use Rattle.pi_unify.specs.Copying.{renumbered, AreBuilt, AreGiven, values_of, forest, Nested, root_variables, IsReadyFor, AreListed, MayCopy, PutsCopy}
use Rattle.pi_unify.proofs.TermValues.{given_term, term_given, term_is}
use Rattle.pi_unify.proofs.KeepsLemmas.{keeps_none, stays_then, terms_kept}
use Rattle.pi_unify.proofs.BuildLemmas.{rest_left, are_as_many, count_taken, take_trees-instances, drop_trees-instances, nested-drop, one_only, has_node}

-- ---- numbers that were met

pub noted_contains : (ns : List ℕ) (n : ℕ) → Contains (noted ns n) n
noted_contains ns n = elim (cases_Bool (list_any (nat_eq n) ns)) [
  | inl hit ↦ rw hit (Contains-from_any eqb-true n ns hit)
  | inr miss ↦ rw miss (Contains-append_right ns (n ∷ []) n (contains_from (n ∷ []) n (inl refl)))
]

-- ---- a copy by its kind

pub copies_variable : {M : Type 0} (v : StoreView M) (rename : ℕ → ℕ) (u : Tree) (n : ℕ) (built : List Ref) (made : Ref) (ts : Trees) → u ≡ var n → IsTerm v made (var (rename n)) → AreBuilt v built ts → PutsCopy v rename u built made ts
unfolding tree_count instance
copies_variable v rename u n built made ts here term put = subst (λ (w : Tree). PutsCopy v rename w built made ts) (sym here) (record { term = term; rest = put })

pub copies_integer : {M : Type 0} (v w : StoreView M) (rename : ℕ → ℕ) (u : Tree) (n : ℤ) (built : List Ref) (made : Ref) (ts : Trees) → u ≡ int n → Keeps v w → IsTerm w made (int n) → AreBuilt v built ts → PutsCopy w rename u built made ts
unfolding tree_count instance
copies_integer v w rename u n built made ts here kept term put =
    subst (λ (x : Tree). PutsCopy w rename x built made ts) (sym here) (record { term = term; rest = terms_kept v w (reverse built) ts kept put })

pub copies_atom : {M : Type 0} (v w : StoreView M) (rename : ℕ → ℕ) (u : Tree) (name : List ℕ) (built : List Ref) (made : Ref) (ts : Trees) → u ≡ atom name → Keeps v w → IsTerm w made (atom name) → AreBuilt v built ts → PutsCopy w rename u built made ts
unfolding tree_count instance
copies_atom v w rename u name built made ts here kept term put =
    subst (λ (x : Tree). PutsCopy w rename x built made ts) (sym here) (record { term = term; rest = terms_kept v w (reverse built) ts kept put })

renamed_comp : (rename : ℕ → ℕ) (u : Tree) (name : List ℕ) → u ≡ comp name (args u) → renamed rename u ≡ comp name (args (renamed rename u))
unfolding instance
renamed_comp rename u name here =
    let whole : renamed rename u ≡ comp name (instances (λ n. var (rename n)) (args u)) = ap (renamed rename) here in
    whole ∙ ap (comp name) (sym (ap args whole))

pub copies_compound : {M : Type 0} (w : StoreView M) (rename : ℕ → ℕ) (u : Tree) (name : List ℕ) (count : ℕ) (new : List Ref) (made : Ref) (ts : Trees) → u ≡ comp name (args u) → count ≡ arity u → take_trees (arity u) ts ≡ args (renamed rename u) → IsTerm w made (comp name (take_trees count ts)) × AreBuilt w new (drop_trees count ts) → PutsCopy w rename u new made ts
copies_compound w rename u name count new made ts here many front puts = record {
  term = puts.0 ∙ ap Some (ap (λ k. comp name (take_trees k ts)) many ∙ (ap (comp name) front ∙ sym (renamed_comp rename u name here)));
  rest = subst (λ (k : ℕ). AreBuilt w new (drop_trees k ts)) many puts.1;
}

-- a term without variables is its own copy
pub copies_ground : {M : Type 0} (v : StoreView M) (rename : ℕ → ℕ) (r : Ref) (count m : ℕ) (built new : List Ref) (ts : Trees) → IsGiven v r → IsGround (term_of v r) → count ≡ arity (value_of v r) → m + count ≡ length built → new ≡ take m built → AreBuilt v built ts → PutsCopy v rename (value_of v r) new r ts
copies_ground v rename r count m built new ts given ground many e is put =
    let own : value_of v r ≡ term_of v r = ground_is_its_own_value (bindings v.now.state) (term_of v r) ground in
    record {
      term = given_term v r given ∙ ap Some (sym (ap (renamed rename) own ∙ ground_stays (λ n. var (rename n)) (term_of v r) ground));
      rest = subst (λ (k : ℕ). AreBuilt v new (drop_trees k ts)) many (rest_left v v count m built new ts e is (keeps_none v) put);
    }

-- ---- a Ref after calls that change nothing

pub record Kept {M : Type 0} (v w : StoreView M) (r : Ref) : Type 0 where
  pub given : IsGiven w r
  pub same : value_of w r ≡ value_of v r

pub kept : {M : Type 0} (v w : StoreView M) (r : Ref) → Stays v w → IsGiven v r → Kept v w r
kept v w r stays given =
    let term : IsTerm w r (term_of v r) = stays.keeps.terms r (term_of v r) (given_term v r given) in
    record {
      given = term_given w r (term_of v r) term;
      same = ap (value (bindings w.now.state)) (term_is w r (term_of v r) term) ∙ ap (λ s. value (bindings s) (term_of v r)) stays.state;
    }

pub still_acyclic : {M : Type 0} (v w : StoreView M) → Stays v w → HoldsNoCycle v → HoldsNoCycle w
still_acyclic v w stays a = subst (λ (s : State). IsAcyclic (bindings s)) (sym stays.state) a

-- ---- one listed term after another

pub given_of : {M : Type 0} (v : StoreView M) (refs : List Ref) (i : ℕ) (r : Ref) → AreGiven v refs → i < length refs → r ≡ get_or refs i r → IsGiven v r
unfolding AreGiven
given_of v [] i r all within is = absurd (omega arith)
given_of v (q ∷ refs) zero r all within is = subst (IsGiven v) (sym is) all.0
given_of v (q ∷ refs) (suc i) r all within is = given_of v refs i r all.1 (omega arith) is

front_of : {M : Type 0} (v : StoreView M) (refs : List Ref) (i : ℕ) (r : Ref) → i < length refs → r ≡ get_or refs i r → drop i (values_of v refs) ≡ value_of v r ∷ drop (suc i) (values_of v refs)
front_of v [] i r within is = absurd (omega arith)
front_of v (q ∷ refs) zero r within is = ap (λ x. value_of v x ∷ values_of v refs) (sym is)
front_of v (q ∷ refs) (suc i) r within is = front_of v refs i r (omega arith) is

-- the copies of the terms from a number on were put
pub record Copying {M : Type 0} (v w : StoreView M) (ns : List ℕ) (refs : List Ref) (k : ℕ) (built : List Ref) : Type 0 where
  pub stays : Stays v w
  pub within : k ≤ length refs
  pub terms : AreBuilt w built (instances (λ n. var (renumbered v.now.state ns n)) (forest (drop k (values_of v refs))))

drop_all_values : {M : Type 0} (v : StoreView M) (k : ℕ) (refs : List Ref) → length refs ≡ k → drop k (values_of v refs) ≡ []
drop_all_values v zero [] e = refl
drop_all_values v zero (r ∷ refs) e = cc
drop_all_values v (suc k) [] e = refl
drop_all_values v (suc k) (r ∷ refs) e = drop_all_values v k refs (omega arith)

pub none_copied : {M : Type 0} (v : StoreView M) (ns : List ℕ) (refs : List Ref) (k : ℕ) (built : List Ref) → k ≡ length refs → built ≡ [] → Copying v v ns refs k built
unfolding forest instance AreTerms
none_copied v ns refs k built e empty =
    let rename : ℕ → Tree = λ n. var (renumbered v.now.state ns n) in
    record {
      stays = record { keeps = keeps_none v; state = refl };
      within = omega arith;
      terms = subst (λ (us : List Tree). AreBuilt v built (instances rename (forest us))) (sym (drop_all_values v k refs (sym e))) (subst (λ (rs : List Ref). AreTerms v (reverse rs) no_trees) (sym empty) tt);
    }

-- the copy of a term is ready to be put once those behind it were
pub copy_ready : {M : Type 0} (v w : StoreView M) (ns : List ℕ) (refs : List Ref) (i : ℕ) (r : Ref) (built : List Ref) → ns ≡ firsts (root_variables (values_of v refs)) → Nested (values_of v refs) → AreGiven v refs → Copying v w ns refs (suc i) built → r ≡ get_or refs i r → IsReadyFor ns built (value_of w r)
unfolding Nested
copy_ready v w ns refs i r built known nested all put is =
    let here : i < length refs = put.within in
    let same : value_of w r ≡ value_of v r = (kept v w r put.stays (given_of v refs i r all here is)).same in
    let us : List Tree = drop (suc i) (values_of v refs) in
    let rename : ℕ → Tree = λ n. var (renumbered v.now.state ns n) in
    let front : drop i (values_of v refs) ≡ value_of v r ∷ us = front_of v refs i r here is in
    let own : Nested (value_of v r ∷ us) = subst Nested front (nested-drop i (values_of v refs) nested) in
    let many : tree_count (take_trees (arity (value_of v r)) (forest us)) ≡ arity (value_of v r) = ap tree_count own.0 in
    let as_many : length (reverse built) ≡ tree_count (instances rename (forest us)) = are_as_many w (reverse built) (instances rename (forest us)) put.terms in
    record {
      known = λ n e.
          let has : Has (root_variables (values_of v refs)) n = has_node (values_of v refs) i n us (front ∙ ap (λ u. u ∷ us) (sym same ∙ e)) in
          subst (λ (ms : List ℕ). noted ms n ≡ ms) (sym known) (noted-firsts (root_variables (values_of v refs)) n ∙ firsts-known (root_variables (values_of v refs)) n has);
      enough = omega (arith, ap arity same, count_taken (arity (value_of v r)) (forest us), tree_count-instances rename (forest us), length-reverse built);
    }

pub may_copy : {M : Type 0} (v w : StoreView M) (ns : List ℕ) (refs : List Ref) (i : ℕ) (r : Ref) (built : List Ref) → AreListed v ns refs → Copying v w ns refs (suc i) built → r ≡ get_or refs i r → MayCopy w ns built r
may_copy v w ns refs i r built listed put is =
    let within : i < length refs = put.within in
    record {
      acyclic = still_acyclic v w put.stays listed.acyclic;
      given = (kept v w r put.stays (given_of v refs i r listed.given within is)).given;
      ready = copy_ready v w ns refs i r built listed.known listed.nested listed.given put is;
      made = subst (λ (s : State). length ns ≤ next s) (sym put.stays.state) listed.made;
    }

args-renamed : (rename : ℕ → ℕ) (u : Tree) → args (renamed rename u) ≡ instances (λ n. var (rename n)) (args u)
unfolding instance
args-renamed rename (var n) = refl
args-renamed rename (int n) = refl
args-renamed rename (atom name) = refl
args-renamed rename (comp name ts) = refl

-- what putting a copy comes to
abbrev pub PutsNext : {M : Type 0} → StoreView M → StoreView M → List ℕ → Ref → List Ref → List Ref → Ref → Type 0
PutsNext w x ns r built middle made =
    (ts : Trees) → AreBuilt w built ts → take_trees (arity (value_of w r)) ts ≡ args (renamed (renumbered w.now.state ns) (value_of w r)) → PutsCopy x (renumbered w.now.state ns) (value_of w r) middle made ts

-- one more copy was put
pub one_copied : {M : Type 0} (v w x : StoreView M) (ns : List ℕ) (refs : List Ref) (i : ℕ) (r : Ref) (built middle new : List Ref) (made : Ref) → Nested (values_of v refs) → AreGiven v refs → Copying v w ns refs (suc i) built → r ≡ get_or refs i r → Stays w x → PutsNext w x ns r built middle made → new ≡ middle ++ made ∷ [] → Copying v x ns refs i new
unfolding Nested forest instance AreTerms
one_copied v w x ns refs i r built middle new made nested all put is stays puts e =
    let here : i < length refs = put.within in
    let same : value_of w r ≡ value_of v r = (kept v w r put.stays (given_of v refs i r all here is)).same in
    let u : Tree = value_of v r in
    let us : List Tree = drop (suc i) (values_of v refs) in
    let number : ℕ → ℕ = renumbered v.now.state ns in
    let rename : ℕ → Tree = λ n. var (number n) in
    let ts : Trees = instances rename (forest us) in
    let front : drop i (values_of v refs) ≡ u ∷ us = front_of v refs i r here is in
    let own : Nested (u ∷ us) = subst Nested front (nested-drop i (values_of v refs) nested) in
    let P : State → Tree → Type 0 = λ s a. take_trees (arity a) ts ≡ args (renamed (renumbered s ns) a) → PutsCopy x (renumbered s ns) a middle made ts in
    let with_state : P v.now.state (value_of w r) = subst (λ (s : State). P s (value_of w r)) put.stays.state (puts ts put.terms) in
    let with_value : P v.now.state u = subst (λ (a : Tree). P v.now.state a) same with_state in
    let one : PutsCopy x number u middle made ts = with_value (take_trees-instances rename (arity u) (forest us) ∙ (ap (instances rename) own.0 ∙ sym (args-renamed number u))) in
    let rest : AreTerms x (reverse middle) (instances rename (drop_trees (arity u) (forest us))) = subst (λ (vs : Trees). AreTerms x (reverse middle) vs) (drop_trees-instances rename (arity u) (forest us)) one.rest in
    let list : reverse new ≡ made ∷ reverse middle = ap reverse e ∙ reverse-append middle (made ∷ []) in
    record {
      stays = stays_then v w x v.now.state put.stays stays;
      within = omega arith;
      terms = subst (λ (ws : List Tree). AreBuilt x new (instances rename (forest ws))) (sym front)
          (subst (λ (rs : List Ref). AreTerms x rs (instances rename (forest (u ∷ us)))) (sym list) (one.term, rest));
    }

-- all copies were put
pub all_copied : {M : Type 0} (v w : StoreView M) (ns : List ℕ) (refs : List Ref) (k : ℕ) (built : List Ref) (u : Tree) → k ≡ 0 → Copying v w ns refs k built → forest (values_of v refs) ≡ tree u no_trees → (r : Ref) × (built ≡ r ∷ []) × IsTerm w r (renamed (renumbered v.now.state ns) u)
unfolding instance
all_copied v w ns refs k built u e put one =
    let rename : ℕ → Tree = λ n. var (renumbered v.now.state ns n) in
    let whole : forest (drop k (values_of v refs)) ≡ tree u no_trees = ap (λ j. forest (drop j (values_of v refs))) e ∙ one in
    let only : (r : Ref) × (reverse built ≡ r ∷ []) × IsTerm w r (instance rename u) = one_only w (reverse built) (instance rename u) (subst (λ (f : Trees). AreTerms w (reverse built) (instances rename f)) whole put.terms) in
    (only.0, sym (reverse-reverse built) ∙ ap reverse only.1, only.2)
