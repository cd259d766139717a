-- Calls that lowering makes of its own, in any state: an equation of a new variable with itself, which leaves the state as it is, and that of an index. (`InnerLemmas` has those that no text can make.)
use Rattle.std.proofs.Common.{◌≡◌, ℕ, zero, suc, ◌+◌, ◌*◌, Bool, true, false, List, [], ◌∷◌, ◌++◌, length, map, refl, ◌∙◌, ap, arith}
use Rattle.std.specs.Prelude.{Option, Some, None, codes, ◌==◌, ◌||◌, nat_lt, ◌≤◌, IsTrue}
use Rattle.std.proofs.lemmas.Bool.{cond-true, false≢true, ltb-false}
use Rattle.std.proofs.lemmas.Bool.Decides.{Decides-eqb}
use Rattle.pi_terms.specs.Tree.{Tree, var, int, atom, comp, Trees, no_trees, tree, cells, cells_all}
use Rattle.pi_terms.specs.Places.{held}
use Rattle.pi_constraints.specs.Value.{Bindings, value}
use Rattle.pi_constraints.specs.State.{State, Variable, free, binding, bindings, next, with_new, followed}
use Rattle.pi_constraints.specs.Unify.{unified, Pair, outcome, go_on, unified_for, unbound_in, cells_of_pairs, most_pairs, all_unified}
use Rattle.pi_constraints.proofs.FollowLemmas.{followed_itself}
use Rattle.pi_effects.specs.Effect.{succeeds_in}
use Rattle.pi_effects.specs.Rows.{done_by, has_line}
use Rattle.pi_effects.specs.Integers.{integer_functions}
use Rattle.pi_effects.specs.Comparing.{comparing_tests}
use Rattle.pi_effects.specs.Kinds.{kind_tests}
use Rattle.pi_effects.specs.Collections.{collection_functions}
use Rattle.pi_effects.specs.Sorting.{sorting_functions}
use Rattle.pi_effects.specs.Indexing.{index_name, indexed, index_functions}
use Rattle.pi_effects.specs.Ranges.{range_functions}
use Rattle.pi_effects.specs.Naming.{naming_functions}
use Rattle.pi_effects.specs.Texts.{text_functions, writing_predicates}
use Rattle.pi_effects.specs.BuiltIns.{reading_functions, built_in_function, tests, other_predicates, built_in_predicate, is_predicate, is_function, answer_in}
use Rattle.pi_traces.specs.Trace.{one}
use Rattle.pi_meaning.specs.Shared.Level.{Level}
use Rattle.pi_meaning.specs.Shared.Builtin.{settled_effect, function_trace}
use Rattle.pi_meaning.specs.Shared.Given.{Setting}
use Rattle.pi_meaning.specs.Shared.Names.{is_given_predicate, is_later_predicate, is_given_function, is_resource, is_later_function}
use Rattle.pi_meaning.specs.Shared.Calls.{predicate_given, predicate_called, function_given, function_called}
use Rattle.pi_meaning.proofs.Shared.SettleLemmas.{settled-same}

-- ---- a new variable is one with itself

new-held : (vs : List Variable) → held (map binding (vs ++ free ∷ [])) (length vs) ≡ None
new-held [] = refl
new-held (v ∷ vs) = new-held vs

most-some : (n m : ℕ) → (k : ℕ) × (most_pairs n (suc m) ≡ suc k)
unfolding most_pairs
most-some zero m = (m, refl)
most-some (suc n) m = (m + most_pairs n (suc m * suc m), omega arith)

cells-some : (t : Tree) → (k : ℕ) × (cells t ≡ suc k)
unfolding cells
cells-some (var n) = (0, refl)
cells-some (int n) = (0, refl)
cells-some (atom name) = (0, refl)
cells-some (comp name ts) = (cells_all ts, refl)

pairs-some : (b : Bindings) (t u : Tree) → (k : ℕ) × (most_pairs (unbound_in b) (cells_of_pairs b ((t, u) ∷ [])) ≡ suc k)
unfolding cells_of_pairs
pairs-some b t u = go (cells-some (value b t))
  where
    go : (k : ℕ) × (cells (value b t) ≡ suc k) → (j : ℕ) × (most_pairs (unbound_in b) ((cells (value b t) + cells (value b u)) + 0) ≡ suc j)
    go (k, is) =
        let more : (cells (value b t) + cells (value b u)) + 0 ≡ suc (k + cells (value b u)) = omega (arith, is) in
        let some : (j : ℕ) × (most_pairs (unbound_in b) (suc (k + cells (value b u))) ≡ suc j) = most-some (unbound_in b) (k + cells (value b u)) in
        (some.0, ap (most_pairs (unbound_in b)) more ∙ some.1)

unified-turn : (k : ℕ) (s : State) (p : Pair) (ps : List Pair) → unified_for (suc k) s (p ∷ ps) ≡ go_on (unified_for k) s ps (outcome s (followed (bindings s) p.0) (followed (bindings s) p.1))
unfolding unified_for
unified-turn k s p ps = refl

unified-none : (k : ℕ) (s : State) → unified_for k s [] ≡ Some s
unfolding unified_for
unified-none zero s = refl
unified-none (suc k) s = refl

same-parts : (k : ℕ) (s : State) (n : ℕ) → go_on (unified_for k) s [] (outcome s (var n) (var n)) ≡ Some s
unfolding outcome
same-parts k s n =
    ap (go_on (unified_for k) s []) (cond-true (n == n) _ _ ((Decides-eqb n n).1 refl)) ∙ unified-none k s

pub unified-new : (s : State) → unified (with_new s) (var (next s)) (var (next s)) ≡ Some (with_new s)
unfolding all_unified
unified-new s = go (pairs-some (bindings (with_new s)) (var (next s)) (var (next s)))
  where
    r : State
    r = with_new s

    root : followed (bindings r) (var (next s)) ≡ var (next s)
    root = followed_itself (bindings r) (next s) (new-held s.variables)

    go : (k : ℕ) × (most_pairs (unbound_in (bindings r)) (cells_of_pairs (bindings r) ((var (next s), var (next s)) ∷ [])) ≡ suc k) → unified r (var (next s)) (var (next s)) ≡ Some r
    go (k, is) =
        ap (λ j. unified_for j r ((var (next s), var (next s)) ∷ [])) is
        ∙ unified-turn k r (var (next s), var (next s)) []
        ∙ ap (λ t. go_on (unified_for k) r [] (outcome r t t)) root
        ∙ same-parts k r (next s)

-- ---- `=`

pub equals-called : (set : Setting) (m : Level) (t u : Tree) (s : State) →
    predicate_called set m (codes "=") (tree t (tree u no_trees)) s ≡ settled_effect set.view s (succeeds_in (unified s t u))
unfolding predicate_called predicate_given built_in_predicate done_by tests comparing_tests kind_tests writing_predicates other_predicates
equals-called set m t u s = refl

pub equals-itself : (set : Setting) (m : Level) (s : State) → predicate_called set m (codes "=") (tree (var (next s)) (tree (var (next s)) no_trees)) (with_new s) ≡ one (with_new s)
equals-itself set m s =
    equals-called set m (var (next s)) (var (next s)) (with_new s)
    ∙ ap (λ (o : Option State). settled_effect set.view (with_new s) (succeeds_in o)) (unified-new s)
    ∙ settled-same (with_new s)

equals-given : is_predicate (codes "=") 2 ≡ true
unfolding is_predicate has_line tests comparing_tests kind_tests writing_predicates other_predicates
equals-given = refl

pub given-first : (a b c : Bool) → a ≡ true → IsTrue ((a || b) || c)
given-first true b c is = refl
given-first false b c is = absurd (false≢true is)

pub equals-known : (known : Bool) → IsTrue (is_given_predicate (codes "=") 2 || known)
equals-known known = given-first (is_predicate (codes "=") 2) (is_later_predicate (codes "=") 2) known equals-given

pub not-less : (k n : ℕ) → nat_lt k n ≡ false → n ≤ k
not-less k n is = ltb-false k n is

-- ---- an item

pub no-variable : (name : List ℕ) (ts : Trees) (n : ℕ) → comp name ts ≡ var n → ⊥
no-variable name ts n e = absurd cc

pub no-number : (i : _) (n : ℕ) → int i ≡ var n → ⊥
no-number i n e = absurd cc

pub item-called : (set : Setting) (m : Level) (t u : Tree) (s : State) → function_called set m index_name (tree t (tree u no_trees)) s ≡ function_trace (answer_in s (indexed s t u))
unfolding function_called function_given built_in_function done_by reading_functions integer_functions collection_functions sorting_functions index_functions range_functions naming_functions text_functions
item-called set m t u s = refl

-- ---- names that are functions

listed : is_function index_name 2 ≡ true
unfolding is_function has_line reading_functions integer_functions collection_functions sorting_functions index_functions range_functions naming_functions text_functions
listed = refl

ranges-listed : (is_function (codes "..") 2 ≡ true) × (is_function (codes "..") 3 ≡ true)
unfolding is_function has_line reading_functions integer_functions collection_functions sorting_functions index_functions range_functions naming_functions text_functions
ranges-listed = (refl, refl)

pub given-of : (a b : Bool) → a ≡ true → IsTrue (a || b)
given-of true b is = refl
given-of false b is = absurd (false≢true is)

pub item-given : IsTrue (is_given_function index_name 2)
item-given = given-of (is_function index_name 2) (is_resource index_name 2 || is_later_function index_name 2) listed

pub range-given : IsTrue (is_given_function (codes "..") 2) × IsTrue (is_given_function (codes "..") 3)
range-given = (
  given-of (is_function (codes "..") 2) (is_resource (codes "..") 2 || is_later_function (codes "..") 2) ranges-listed.0,
  given-of (is_function (codes "..") 3) (is_resource (codes "..") 3 || is_later_function (codes "..") 3) ranges-listed.1,
)

pub item-known : (known : Bool) → IsTrue (is_given_function index_name 2 || known)
item-known known = given-of (is_given_function index_name 2) known item-given
