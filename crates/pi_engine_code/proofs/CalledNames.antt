-- The names that are called by a goal: those of the tables of predicates, of goals of constraints, `solve`, `catch` and `call`, and those of predicates that aren't quiet.
use Rattle.std.proofs.Common.{◌≡◌, ◌↔◌, ◌⊎◌, inl, inr, ℕ, zero, suc, ◌<◌, ◌==◌, ◌&&◌, Bool, true, false, cond, not, List, [], ◌∷◌, ◌++◌, Option, Some, None, map, get_or, refl, sym, ◌∙◌, ap, subst, arith, eqb-true}
use Rattle.std.specs.Prelude.{option_map, IsTrue, IsSome, Contains, All, filter, AllPairs, slice_get, nat_le, ◌||◌, codes}
use Rattle.std.specs.Str.{bytes_eq}
use Rattle.std.specs.List.{list_all, list_any}
use Rattle.std.proofs.lemmas.Slice.Eq.{bytes_eq-Decides}
use Rattle.std.proofs.lemmas.Option.{slice_get-map}
use Rattle.std.proofs.lemmas.List.{map-append}
use Rattle.std.proofs.lemmas.List.Elements.{All-contains, All-map, All-filter, All-contains_itself, filter_passes, filter-append, Contains-append_left, Contains-append_right, Contains-append_cases, Contains-push, Contains-push_cases}
use Rattle.std.proofs.lemmas.List.Sums.{AllPass-from_list_all}
use Rattle.pi_terms.proofs.GetLemmas.{get_some}
use Rattle.std.proofs.lemmas.Option.{get_or_from_slice_get}
use Rattle.pi_core.specs.GoalTree.{GoalTree}
use Rattle.pi_core.specs.CoreTree.{PredTree, pred_tree, is_pred, find_pred}
use Rattle.pi_core.specs.declared.core_program.CorePred.{CorePred}
use Rattle.pi_effects.specs.BuiltIns.{is_predicate}
use Rattle.pi_effects.specs.Rows.{has_line}
use Rattle.pi_settling.specs.Goals.{constraint_goals, is_constraint_goal}
use Rattle.pi_settling.specs.SolveCalls.{solve_calls, is_solve}
use Rattle.pi_meaning.specs.Shared.Effects.{is_effect_name, is_built_name}
use Rattle.pi_meaning.specs.Shared.Names.{is_catch, is_call}
use Rattle.pi_meaning.specs.CoreMeaning.Sound.{IsAnother}
use Rattle.pi_meaning.specs.CoreMeaning.Instances.{is_called_by_name}
use Rattle.pi_meaning.specs.Machine.NamedGoals.{goal_by_name}
use Rattle.pi_meaning.proofs.Machine.NamedLemmas.{NamedBy, by_catch, by_call, by_name, IsUnnamed, Names, names-it, named-by}
use Rattle.pi_meaning.proofs.Shared.FoundLemmas.{named, found-by-number}
use Rattle.pi_meaning.proofs.Shared.TableLemmas.{Test, body-holds, each-line, lines-hold}
use Rattle.pi_lib_builtin.specs.Resolved.{Named}
use Rattle.pi_engine_code.specs.Callables.{names_called, AreNamed}

-- `call` with one argument to so many
abbrev pub call_names : ℕ → List (Named ℕ)
call_names zero = []
call_names (suc k) = call_names k ++ (codes "call", suc k) ∷ []

abbrev pub all_named : List (Named ℕ) → List CorePred → List CorePred → List (Named ℕ)
all_named built ps qs = (((built ++ (codes "catch", 3) ∷ []) ++ call_names 8) ++ names_called ps) ++ names_called qs

-- ---- which names have a goal

both : (a b : Bool) → (a && b) ≡ true → (a ≡ true) × (b ≡ true)
both true b h = (refl, h)
both false b h = absurd cc

is-catch : (name : List ℕ) (k : ℕ) → is_catch name k ≡ true → (name ≡ codes "catch") × (k ≡ 3)
is-catch name k is =
    let parts : (k == 3 ≡ true) × (bytes_eq name (codes "catch") ≡ true) = both (k == 3) (bytes_eq name (codes "catch")) is in
    ((bytes_eq-Decides name (codes "catch")).0 parts.1, eqb-true k 3 parts.0)

pub is-call : (name : List ℕ) (k : ℕ) → is_call name k ≡ true → (name ≡ codes "call") × ((nat_le 1 k && nat_le k 8) ≡ true)
is-call name k is =
    let parts : ((nat_le 1 k && nat_le k 8) ≡ true) × (bytes_eq name (codes "call") ≡ true) = both (nat_le 1 k && nat_le k 8) (bytes_eq name (codes "call")) is in
    ((bytes_eq-Decides name (codes "call")).0 parts.1, parts.0)

abbrev IsOneOf : List PredTree → List ℕ → ℕ → Type 0
IsOneOf preds name k = (is_catch name k ≡ true) ⊎ ((is_call name k ≡ true) ⊎ ((is_built_name name k ≡ true) ⊎ (is_called_by_name (find_pred false name k preds) ≡ true)))

either-there : (a b : Bool) → (a || b) ≡ true → (a ≡ true) ⊎ (b ≡ true)
either-there true b h = inl refl
either-there false b h = inr h

has-goal : (preds : List PredTree) (name : List ℕ) (k : ℕ) (g : GoalTree) → NamedBy preds name k g → IsOneOf preds name k
has-goal preds name k _ (by_catch catches) = inl catches
has-goal preds name k _ (by_call other calls) = inr (inl calls)
has-goal preds name k _ (by_name other another there) = inr (inr (either-there (is_built_name name k) (is_called_by_name (find_pred false name k preds)) there))

neither-there : (a b : Bool) → (a || b) ≡ false → (a ≡ true) ⊎ (b ≡ true) → ⊥
neither-there true b none h = cc none
neither-there false b none (inl h) = cc h
neither-there false b none (inr h) = cc (none, h)

not-one : (preds : List PredTree) (name : List ℕ) (k : ℕ) → IsUnnamed preds name k → IsOneOf preds name k → ⊥
not-one preds name k none (inl catches) = cc (catches, none.no_catch)
not-one preds name k none (inr (inl calls)) = cc (calls, none.no_call)
not-one preds name k none (inr (inr there)) = neither-there (is_built_name name k) (is_called_by_name (find_pred false name k preds)) none.not_there there

named-some : (preds : List PredTree) (name : List ℕ) (k : ℕ) (o : Option GoalTree) → Names preds name k o → IsOneOf preds name k → IsSome o
named-some preds name k (Some g) names h = refl
named-some preds name k None names h = absurd (not-one preds name k names h)

is-some-goal : (preds : List PredTree) (name : List ℕ) (k : ℕ) → IsOneOf preds name k → IsSome (goal_by_name preds name k)
is-some-goal preds name k h = named-some preds name k (goal_by_name preds name k) (names-it preds name k) h

-- ---- predicates

contains-first : {X : Type 0} (x : X) (xs : List X) → Contains (x ∷ xs) x
contains-first x xs = Contains-append_left (x ∷ []) xs x (Contains-push [] x)

-- one more in front
abbrev passes : CorePred → Bool
passes p = not p.function && not p.quiet

contains-further : (p : CorePred) (ps : List CorePred) (one : Named ℕ) (b : Bool) → passes p ≡ b → Contains (names_called ps) one → Contains (names_called (p ∷ ps)) one
contains-further p ps one true e there =
    subst (λ q. Contains (map (λ p. (p.name, p.arity)) (cond q (p ∷ filter passes ps) (filter passes ps))) one) (sym e) (Contains-append_right ((p.name, p.arity) ∷ []) (names_called ps) one there)
contains-further p ps one false e there = subst (λ q. Contains (map (λ p. (p.name, p.arity)) (cond q (p ∷ filter passes ps) (filter passes ps))) one) (sym e) there

contains-here : (p : CorePred) (ps : List CorePred) → passes p ≡ true → Contains (names_called (p ∷ ps)) (p.name, p.arity)
contains-here p ps e =
    let one : Named ℕ = (p.name, p.arity) in
    subst (λ q. Contains (map (λ p. (p.name, p.arity)) (cond q (p ∷ filter passes ps) (filter passes ps))) one) (sym e) (contains-first one (names_called ps))

untrue : (f b : Bool) → cond f false b ≡ true → f ≡ false
untrue true b e = absurd cc
untrue false b e = refl

no-function : (p : PredTree) (name : List ℕ) (k : ℕ) → is_pred false name k p ≡ true → p.function ≡ false
no-function p name k is = untrue p.function _ is

may-pass : (p : CorePred) → p.function ≡ false → not p.quiet ≡ true → passes p ≡ true
may-pass p is loud = ap (λ f. not f && not p.quiet) is ∙ loud

called-contained : (p : CorePred) (ps : List CorePred) (name : List ℕ) (k : ℕ) (b : Bool) → is_pred false name k (pred_tree p) ≡ b → (is_called_by_name (find_pred false name k (map pred_tree ps)) ≡ true → Contains (names_called ps) (name, k)) →
    is_called_by_name (cond b (Some (pred_tree p)) (find_pred false name k (map pred_tree ps))) ≡ true → Contains (names_called (p ∷ ps)) (name, k)
called-contained p ps name k true is rest called =
    let same : (p.name ≡ name) × (p.arity ≡ k) = named false name k (pred_tree p) is in
    subst (λ j. Contains (names_called (p ∷ ps)) (name, j)) same.1 (subst (λ n. Contains (names_called (p ∷ ps)) (n, p.arity)) same.0 (contains-here p ps (may-pass p (no-function (pred_tree p) name k is) called)))
called-contained p ps name k false is rest called = contains-further p ps (name, k) (passes p) refl (rest called)

all-called : (ps : List CorePred) (name : List ℕ) (k : ℕ) → is_called_by_name (find_pred false name k (map pred_tree ps)) ≡ true → Contains (names_called ps) (name, k)
unfolding find_pred
all-called [] name k called = absurd cc
all-called (p ∷ ps) name k called = called-contained p ps name k (is_pred false name k (pred_tree p)) refl (all-called ps name k) called

-- where no two are alike, a call finds each of them
parts-pass : (f q : Bool) → (not f && not q) ≡ true → (f ≡ false) × (not q ≡ true)
parts-pass true q h = absurd cc
parts-pass false q h = (refl, h)

found-called : (all : List CorePred) (p : CorePred) → AllPairs IsAnother (map pred_tree all) → Contains all p → passes p ≡ true → is_called_by_name (find_pred false p.name p.arity (map pred_tree all)) ≡ true
found-called all p apart (n, within, is) pass =
    let there : (x : CorePred) × (slice_get all n ≡ Some x) = get_some all n within in
    let same : there.0 ≡ p = sym (get_or_from_slice_get all n there.0 p there.1) ∙ is in
    let parts : (p.function ≡ false) × (not p.quiet ≡ true) = parts-pass p.function p.quiet pass in
    let found : find_pred false p.name p.arity (map pred_tree all) ≡ Some (pred_tree p) =
    found-by-number false (map pred_tree all) n (pred_tree p) apart (slice_get-map pred_tree all n ∙ ap (option_map pred_tree) there.1 ∙ ap (λ x. Some (pred_tree x)) same) parts.0 in
    ap is_called_by_name found ∙ parts.1

some-called : (all : List CorePred) → AllPairs IsAnother (map pred_tree all) → (name : List ℕ) (k : ℕ) → Contains (names_called all) (name, k) → IsSome (goal_by_name (map pred_tree all) name k)
some-called all apart name k there =
    let P : Named ℕ → Type 0 = λ r. IsSome (goal_by_name (map pred_tree all) r.0 r.1) in
    let among : All (Contains all) (filter passes all) = All-filter passes (Contains all) all (All-contains_itself all) in
    let pass : All (λ p. passes p ≡ true) (filter passes all) = filter_passes passes all in
    All-contains P (names_called all) (name, k)
    (All-map P (λ p. (p.name, p.arity)) (filter passes all)
    (λ i d within. is-some-goal (map pred_tree all) (get_or (filter passes all) i d).name (get_or (filter passes all) i d).arity (inr (inr (inr (found-called all (get_or (filter passes all) i d) apart (among i d within) (pass i d within))))))) there

-- ---- `catch` and `call`

all-calls : list_all (λ r. is_call r.0 r.1) (call_names 8) ≡ true
all-calls = refl

call-either : (k most : ℕ) → (k < most → Contains (call_names most) (codes "call", suc k)) → (k < most) ⊎ (k ≡ most) → Contains (call_names (suc most)) (codes "call", suc k)
call-either k most before (inl below) = Contains-append_left (call_names most) ((codes "call", suc most) ∷ []) (codes "call", suc k) (before below)
call-either k most before (inr same) = subst (λ j. Contains (call_names (suc most)) (codes "call", suc j)) (sym same) (Contains-push (call_names most) (codes "call", suc most))

call-there : (k most : ℕ) → k < most → Contains (call_names most) (codes "call", suc k)
call-there k zero lt = absurd (omega (arith, lt))
call-there k (suc most) lt = call-either k most (call-there k most) (grind (arith, lt))

call-contained : (k : ℕ) → (nat_le 1 k && nat_le k 8) ≡ true → Contains (call_names 8) (codes "call", k)
call-contained zero is = absurd cc
call-contained (suc k) is = call-there k 8 (grind (arith, is))

alone : {X : Type 0} (x y : X) → Contains (x ∷ []) y → x ≡ y
alone x y there = elim (Contains-push_cases [] x y there) [
  | inl none ↦ absurd (omega (arith, none.1))
  | inr same ↦ same
]

-- ---- goals of constraints

abbrev pub constraint_names : List (Named ℕ)
constraint_names =
    (codes "::", 2) ∷
    (codes "notin", 2) ∷
    (codes "#=", 2) ∷
    (codes "#!=", 2) ∷
    (codes "#<", 2) ∷
    (codes "#=<", 2) ∷
    (codes "#<=", 2) ∷
    (codes "#>", 2) ∷
    (codes "#>=", 2) ∷
    (codes "#~", 1) ∷
    (codes "#/\\", 2) ∷
    (codes "#\\/", 2) ∷
    (codes "#^", 2) ∷
    (codes "#=>", 2) ∷
    (codes "#<=>", 2) ∷
    (codes "all_different", 1) ∷
    (codes "all_distinct", 1) ∷
    (codes "element", 3) ∷
    []

-- each that stands there is one
all-constraints : list_all (λ r. is_constraint_goal r.0 r.1) constraint_names ≡ true
unfolding constraint_goals has_line
all-constraints = refl

-- a name stands there with so many arguments
abbrev stands : List (Named ℕ) → List ℕ → ℕ → Bool
stands rows name k = list_any (λ r. bytes_eq r.0 name && (r.1 == k)) rows

first-or-later : (r : Named ℕ) (rows : List (Named ℕ)) (name : List ℕ) (k : ℕ) (here : Bool) → (bytes_eq r.0 name && (r.1 == k)) ≡ here → (stands rows name k ≡ true → Contains rows (name, k)) → (here || stands rows name k) ≡ true → Contains (r ∷ rows) (name, k)
first-or-later r rows name k true e later is =
    let parts : (bytes_eq r.0 name ≡ true) × (r.1 == k ≡ true) = both (bytes_eq r.0 name) (r.1 == k) e in
    subst (λ j. Contains (r ∷ rows) (name, j)) (eqb-true r.1 k parts.1) (subst (λ n. Contains (r ∷ rows) (n, r.1)) ((bytes_eq-Decides r.0 name).0 parts.0) (contains-first r rows))
first-or-later r rows name k false e later is = Contains-append_right (r ∷ []) rows (name, k) (later is)

standing : (rows : List (Named ℕ)) (name : List ℕ) (k : ℕ) → stands rows name k ≡ true → Contains rows (name, k)
standing [] name k is = absurd cc
standing (r ∷ rows) name k is = first-or-later r rows name k (bytes_eq r.0 name && (r.1 == k)) refl (standing rows name k) is

constraint-there : (name : List ℕ) (k : ℕ) → is_constraint_goal name k ≡ true → Contains constraint_names (name, k)
unfolding constraint_goals each-line body-holds
constraint-there name k is = standing constraint_names name k (lines-hold (stands constraint_names) constraint_goals refl name k is)

either-listed : (a b : Bool) → a ≡ true → (a || b) ≡ true
either-listed true b h = refl
either-listed false b h = absurd cc

other-listed : (a b : Bool) → b ≡ true → (a || b) ≡ true
other-listed true b h = refl
other-listed false b h = h

-- a table more
more-named : (first more : Test) (built rows names : List (Named ℕ)) → ((name : List ℕ) (k : ℕ) → IsTrue (first name k) ↔ Contains built (name, k)) → list_all (λ r. more r.0 r.1) rows ≡ true → ((name : List ℕ) (k : ℕ) → more name k ≡ true → Contains rows (name, k)) →
    names ≡ built ++ rows → (name : List ℕ) (k : ℕ) → IsTrue (first name k || more name k) ↔ Contains names (name, k)
more-named first more built rows names all listed standing_there e name k = (
  λ is. subst (λ ns. Contains ns (name, k)) (sym e) (elim (either-there (first name k) (more name k) is) [
    | inl known ↦ Contains-append_left built rows (name, k) ((all name k).0 known)
    | inr another ↦ Contains-append_right built rows (name, k) (standing_there name k another)
  ]),
  λ there. elim (Contains-append_cases built rows (name, k) (subst (λ ns. Contains ns (name, k)) e there)) [
    | inl known ↦ either-listed (first name k) (more name k) ((all name k).1 known)
    | inr another ↦ other-listed (first name k) (more name k) (All-contains (λ r. more r.0 r.1 ≡ true) rows (name, k) (AllPass-from_list_all (λ r. more r.0 r.1) rows listed) another)
  ],
)

-- with the names of built-in predicates these are the names of all that has an effect
pub effects-named : (built names : List (Named ℕ)) → ((name : List ℕ) (k : ℕ) → IsTrue (is_predicate name k) ↔ Contains built (name, k)) → names ≡ built ++ constraint_names → (name : List ℕ) (k : ℕ) → IsTrue (is_effect_name name k) ↔ Contains names (name, k)
effects-named built names all e = more-named is_predicate is_constraint_goal built constraint_names names all all-constraints constraint-there e

-- ---- calls that label

abbrev pub solve_names : List (Named ℕ)
solve_names = (codes "solve", 1) ∷ (codes "solve", 2) ∷ []

all-solves : list_all (λ r. is_solve r.0 r.1) solve_names ≡ true
unfolding solve_calls has_line
all-solves = refl

solve-there : (name : List ℕ) (k : ℕ) → is_solve name k ≡ true → Contains solve_names (name, k)
unfolding solve_calls each-line body-holds
solve-there name k is = standing solve_names name k (lines-hold (stands solve_names) solve_calls refl name k is)

-- with those before they are the names of all that is built
pub all-built-named : (built names : List (Named ℕ)) → ((name : List ℕ) (k : ℕ) → IsTrue (is_effect_name name k) ↔ Contains built (name, k)) → names ≡ built ++ solve_names → (name : List ℕ) (k : ℕ) → IsTrue (is_built_name name k) ↔ Contains names (name, k)
all-built-named built names all e = more-named is_effect_name is_solve built solve_names names all all-solves solve-there e

-- ---- all names

all-append : (ps qs : List CorePred) → names_called (ps ++ qs) ≡ names_called ps ++ names_called qs
all-append ps qs = ap (map (λ p. (p.name, p.arity))) (filter-append passes ps qs) ∙ map-append (λ p. (p.name, p.arity)) (filter passes ps) (filter passes qs)

some-named : (ps qs : List CorePred) (built : List (Named ℕ)) → ((name : List ℕ) (k : ℕ) → IsTrue (is_built_name name k) ↔ Contains built (name, k)) → AllPairs IsAnother (map pred_tree (ps ++ qs)) → (name : List ℕ) (k : ℕ) →
    Contains (all_named built ps qs) (name, k) → IsSome (goal_by_name (map pred_tree (ps ++ qs)) name k)
some-named ps qs built all apart name k there =
    let called : Contains (names_called ps ++ names_called qs) (name, k) → IsSome (goal_by_name (map pred_tree (ps ++ qs)) name k) =
    λ h. some-called (ps ++ qs) apart name k (subst (λ ns. Contains ns (name, k)) (sym (all-append ps qs)) h) in
    elim (Contains-append_cases (((built ++ (codes "catch", 3) ∷ []) ++ call_names 8) ++ names_called ps) (names_called qs) (name, k) there) [
      | inr own ↦ called (Contains-append_right (names_called ps) (names_called qs) (name, k) own)
      | inl most ↦
          elim (Contains-append_cases ((built ++ (codes "catch", 3) ∷ []) ++ call_names 8) (names_called ps) (name, k) most) [
            | inr own ↦ called (Contains-append_left (names_called ps) (names_called qs) (name, k) own)
            | inl more ↦
                elim (Contains-append_cases (built ++ (codes "catch", 3) ∷ []) (call_names 8) (name, k) more) [
                  | inr calls ↦ is-some-goal (map pred_tree (ps ++ qs)) name k (inr (inl (All-contains (λ r. is_call r.0 r.1 ≡ true) (call_names 8) (name, k) (AllPass-from_list_all (λ r. is_call r.0 r.1) (call_names 8) all-calls) calls)))
                  | inl few ↦
                      elim (Contains-append_cases built ((codes "catch", 3) ∷ []) (name, k) few) [
                        | inr catches ↦
                            let same : (codes "catch", 3) ≡ (name, k) = alone (codes "catch", 3) (name, k) catches in
                            subst (λ r. IsSome (goal_by_name (map pred_tree (ps ++ qs)) r.0 r.1)) same (is-some-goal (map pred_tree (ps ++ qs)) (codes "catch") 3 (inl refl))
                        | inl known ↦ is-some-goal (map pred_tree (ps ++ qs)) name k (inr (inr (inl ((all name k).1 known))))
                      ]
                ]
          ]
    ]

each-named : (ps qs : List CorePred) (built : List (Named ℕ)) → ((name : List ℕ) (k : ℕ) → IsTrue (is_built_name name k) ↔ Contains built (name, k)) → (name : List ℕ) (k : ℕ) → IsOneOf (map pred_tree (ps ++ qs)) name k →
    Contains (all_named built ps qs) (name, k)
each-named ps qs built all name k (inl catches) =
    let same : (name ≡ codes "catch") × (k ≡ 3) = is-catch name k catches in
    let one : Contains (built ++ (codes "catch", 3) ∷ []) (name, k) = subst (λ j. Contains (built ++ (codes "catch", 3) ∷ []) (name, j)) (sym same.1) (subst (λ n. Contains (built ++ (codes "catch", 3) ∷ []) (n, 3)) (sym same.0) (Contains-push built (codes "catch", 3))) in
    Contains-append_left (((built ++ (codes "catch", 3) ∷ []) ++ call_names 8) ++ names_called ps) (names_called qs) (name, k)
    (Contains-append_left ((built ++ (codes "catch", 3) ∷ []) ++ call_names 8) (names_called ps) (name, k) (Contains-append_left (built ++ (codes "catch", 3) ∷ []) (call_names 8) (name, k) one))
each-named ps qs built all name k (inr (inl calls)) =
    let same : (name ≡ codes "call") × ((nat_le 1 k && nat_le k 8) ≡ true) = is-call name k calls in
    Contains-append_left (((built ++ (codes "catch", 3) ∷ []) ++ call_names 8) ++ names_called ps) (names_called qs) (name, k)
    (Contains-append_left ((built ++ (codes "catch", 3) ∷ []) ++ call_names 8) (names_called ps) (name, k)
    (Contains-append_right (built ++ (codes "catch", 3) ∷ []) (call_names 8) (name, k) (subst (λ n. Contains (call_names 8) (n, k)) (sym same.0) (call-contained k same.1))))
each-named ps qs built all name k (inr (inr (inl known))) =
    Contains-append_left (((built ++ (codes "catch", 3) ∷ []) ++ call_names 8) ++ names_called ps) (names_called qs) (name, k)
    (Contains-append_left ((built ++ (codes "catch", 3) ∷ []) ++ call_names 8) (names_called ps) (name, k)
    (Contains-append_left (built ++ (codes "catch", 3) ∷ []) (call_names 8) (name, k) (Contains-append_left built ((codes "catch", 3) ∷ []) (name, k) ((all name k).0 known))))
each-named ps qs built all name k (inr (inr (inr called))) =
    elim (Contains-append_cases (names_called ps) (names_called qs) (name, k) (subst (λ ns. Contains ns (name, k)) (all-append ps qs) (all-called (ps ++ qs) name k called))) [
      | inr own ↦ Contains-append_right (((built ++ (codes "catch", 3) ∷ []) ++ call_names 8) ++ names_called ps) (names_called qs) (name, k) own
      | inl program ↦
          Contains-append_left (((built ++ (codes "catch", 3) ∷ []) ++ call_names 8) ++ names_called ps) (names_called qs) (name, k)
          (Contains-append_right ((built ++ (codes "catch", 3) ∷ []) ++ call_names 8) (names_called ps) (name, k) program)
    ]

pub are-named : (ps qs : List CorePred) (built names : List (Named ℕ)) → ((name : List ℕ) (k : ℕ) → IsTrue (is_built_name name k) ↔ Contains built (name, k)) → names ≡ all_named built ps qs → AreNamed (ps ++ qs) names
are-named ps qs built names all e =
    record {
      right = λ apart name k there. some-named ps qs built all apart name k (subst (λ ns. Contains ns (name, k)) e there);
      each = λ name k g is. subst (λ ns. Contains ns (name, k)) (sym e) (each-named ps qs built all name k (has-goal (map pred_tree (ps ++ qs)) name k g (named-by (map pred_tree (ps ++ qs)) name k g is)));
    }
