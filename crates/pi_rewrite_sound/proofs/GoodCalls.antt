-- Calls of a text, of what stands in them, and where that stands.
use Rattle.std.proofs.Common.{◌≡◌, ◌⊎◌, inl, inr, ℕ, zero, suc, Bool, true, false, cond, List, [], ◌++◌, length, refl}
use Rattle.std.specs.Prelude.{Option, Some, None, IsTrue, ◌||◌, ◌&&◌}
use Rattle.std.proofs.lemmas.Bool.{false≢true, and_parts, or_left, or_right}
use Rattle.pi_syntax.specs.ExpTree.{ExpTrees, no_exps, exp}
use Rattle.pi_core.specs.GoalTree.{truth, fail, call}
use Rattle.pi_meaning.specs.Shared.Effects.{is_built_name, is_value_name}
use Rattle.pi_meaning.specs.Shared.Names.{is_call, is_given_predicate, is_given_function}
use Rattle.pi_meaning.specs.CoreMeaning.Defined.{is_machine_predicate}
use Rattle.pi_meaning.specs.OverNames.Texts.{places, places_all}
use Rattle.pi_meaning.specs.OverNames.Forms.{Form, negation, once, assignment, catch, by_term, membership}
use Rattle.pi_meaning.proofs.OverNames.LoopNames.{AreNamed, behind-named}
use Rattle.pi_rewrite_spec.specs.Slots.{SlotNames}
use Rattle.pi_rewrite_spec.specs.Values.{applied}
use Rattle.pi_rewrite_spec.specs.Goals.{SlotParts, just, goals_at, value_at, found_by, all_counted, call_goals}
use Rattle.pi_rewrite_spec.specs.Forms.{Knows, IsFunctionCall, IsPredicateCall, IsAtomGoal}
use Rattle.pi_rewrite_spec.specs.Sites.{Site, helpers_in, behind_site, behind_exp, following_sites, caught_sites, goal_sites, found_sites, value_sites}
use Rattle.pi_rewrite_spec.specs.Helpers.{HelperParts, helpers_at, goal_call_helpers}
use Rattle.pi_rewrite_laws.proofs.BelowLemmas.{none-below}
use Rattle.pi_rewrite_sound.specs.Built.{is_built_predicate, is_built_function, is_built_form}
use Rattle.pi_rewrite_sound.proofs.NameLemmas.{predicate-there, function-there}
use Rattle.pi_rewrite_sound.proofs.FineGoals.{fine-truth, fine-fail, fine-call}
use Rattle.pi_rewrite_sound.proofs.GoodHelpers.{Allows}
use Rattle.pi_rewrite_sound.proofs.GoodGoals.{GoodGoals, GoodValue, GoodValues, good-just, good-not, good-once, good-catching}
use Rattle.pi_rewrite_sound.proofs.GoodValues.{good-called, good-applied, good-assigned, good-found, good-counted}

-- ---- names

-- of a predicate that is given or known, and may be called
predicate-good : (known : Knows) (name : List ℕ) (k : ℕ) → IsTrue (is_given_predicate name k || known.predicate name k) → is_built_predicate name k ≡ true → (may : Knows) → Allows known may → IsTrue (may.predicate name k)
predicate-good known name k there built may allows = go (predicate-there name k (known.predicate name k) there (or_right (is_call name k) (is_built_predicate name k) built))
  where
    go : IsTrue (known.predicate name k) ⊎ IsTrue (is_machine_predicate name k) → IsTrue (may.predicate name k)
    go (inl own) = allows.predicates name k own
    go (inr machine) = allows.machine name k machine

function-good : (known : Knows) (name : List ℕ) (k : ℕ) → IsTrue (is_given_function name k || known.function name k) → is_built_function name k ≡ true → (may : Knows) → Allows known may → IsTrue (may.function name k)
function-good known name k there built may allows = go (function-there name k (known.function name k) there built)
  where
    go : IsTrue (known.function name k) ⊎ IsTrue (is_value_name name k) → IsTrue (may.function name k)
    go (inl own) = allows.functions name k own
    go (inr table) = allows.tables name k table

-- ---- calls

-- the parts of a call: each as a goal, each as an expression, and all of them as arguments
pub record GoodParts (known : Knows) (are : Type 0) (are_built : Bool) (is_value is_goal : ℕ → Type 0) (value goal : ℕ → Bool) (k : ℕ) (helpers : HelperParts) (parts : SlotParts) : Type 0 where
  pub goals : (i : ℕ) → is_goal i → goal i ≡ true → GoodGoals known (helpers_at helpers.goals i) (goals_at parts.goals i)
  pub values : (i : ℕ) → is_value i → value i ≡ true → GoodValue known (helpers_at helpers.values i) (value_at parts.values i)
  pub all : are → are_built ≡ true → GoodValues known helpers.all parts.all
  pub long : (ns : SlotNames) → length (parts.all ns).trees ≡ k

module _ (known : Knows) (name : List ℕ) (k : ℕ) (are : Type 0) (are_built : Bool) (is_value is_goal : ℕ → Type 0) (value goal : ℕ → Bool) (helpers : HelperParts) (parts : SlotParts) (good : GoodParts known are are_built is_value is_goal value goal k helpers parts) where
  pub good-value-call : (find number : Bool) → IsFunctionCall known find number name k are is_value is_goal → cond find (value 0 && goal 1) (cond number (goal 0) (are_built && is_built_function name k)) ≡ true →
      GoodValue known (cond find (helpers_at helpers.goals 1 ++ helpers_at helpers.values 0) (cond number (helpers_at helpers.goals 0) helpers.all))
      (λ ns. cond find (found_by (goals_at parts.goals 1 ns) (value_at parts.values 0)) (cond number (all_counted (goals_at parts.goals 0 ns)) (applied name (parts.all ns))))
  good-value-call true number is built =
      let both : (value 0 ≡ true) × (goal 1 ≡ true) = and_parts (value 0) (goal 1) built in good-found (good.goals 1 is.1 both.1) (good.values 0 is.0 both.0)
  good-value-call false true is built = good-counted (good.goals 0 is built)
  good-value-call false false is built =
      let both : (are_built ≡ true) × (is_built_function name k ≡ true) = and_parts are_built (is_built_function name k) built in
      good-applied name k (good.all is.0 both.0) good.long (function-good known name k is.1 both.1)

  pub good-goal-call : (form : Option Form) → (form ≡ Some by_term → is_call name k ≡ true) → IsPredicateCall known form name k are is_value is_goal → is_built_form form name k are_built value goal ≡ true →
      GoodGoals known (goal_call_helpers form helpers) (λ ns. call_goals name form parts ns)
  good-goal-call None term is built =
      let both : (are_built ≡ true) × (is_built_predicate name k ≡ true) = and_parts are_built (is_built_predicate name k) built in
      good-called name k (good.all is.0 both.0) good.long (predicate-good known name k is.1 both.1)
  good-goal-call (Some negation) term is built = good-not (good.goals 0 is built)
  good-goal-call (Some once) term is built = good-once (good.goals 0 is built)
  good-goal-call (Some assignment) term is built = good-assigned parts.variable (good.values 1 is built)
  good-goal-call (Some catch) term is built =
      let first : (goal 0 ≡ true) × ((value 1 && goal 2) ≡ true) = and_parts (goal 0) (value 1 && goal 2) built in
      let rest : (value 1 ≡ true) × (goal 2 ≡ true) = and_parts (value 1) (goal 2) first.1 in
      good-catching (good.values 1 is.1 rest.0) (good.goals 0 is.0 first.0) (good.goals 2 is.2 rest.1)
  good-goal-call (Some by_term) term is built = good-called name k (good.all is built) good.long (λ may allows. allows.machine name k (or_left (is_call name k) (is_built_name name k) (term refl)))
  good-goal-call (Some membership) term is built = absurd (false≢true built)

pub good-atom : (known : Knows) (name : List ℕ) (is_true is_fail : Bool) → IsAtomGoal known is_true is_fail name → (is_true || (is_fail || is_built_predicate name 0)) ≡ true →
    GoodGoals known [] (λ ns. just (cond is_true truth (cond is_fail fail (call name []))) ns)
good-atom known name true is_fail is built = good-just truth (λ n may allows. fine-truth n may)
good-atom known name false true is built = good-just fail (λ n may allows. fine-fail n may)
good-atom known name false false is built = good-just (call name []) (λ n may allows. fine-call n may name [] (none-below n) (predicate-good known name 0 is built may allows))

-- ---- where they stand

pub following-named : (s : Site) (es : ExpTrees) → AreNamed s.before → (i : ℕ) → AreNamed (following_sites s es i).before
unfolding following_sites
following-named s no_exps named i = named
following-named s (exp e es) named zero = named
following-named s (exp e es) named (suc i) = following-named (behind_exp s e) es (behind-named s.before (places e) named) i

caught-named : (s : Site) (es : ExpTrees) → AreNamed s.before → (i : ℕ) → AreNamed (caught_sites s es i).before
caught-named s (exp g (exp ball (exp handler no_exps))) named zero = behind-named s.before (places ball) named
caught-named s (exp g (exp ball (exp handler no_exps))) named (suc zero) = behind-named s.before (places g) named
caught-named s (exp g (exp ball (exp handler no_exps))) named (suc (suc i)) =
    let t : Site = behind_site s (places ball) (helpers_in ball) in
    let u : Site = behind_site t (places g) (helpers_in g) in
    behind-named u.before (places ball) (behind-named t.before (places g) (behind-named s.before (places ball) named))
caught-named s es named i = named

pub goal-sites-named : (form : Option Form) (s : Site) (es : ExpTrees) → AreNamed s.before → (i : ℕ) → AreNamed (goal_sites form s es i).before
goal-sites-named (Some catch) s es named i = caught-named s es named i
goal-sites-named form s es named i = following-named s es named i

found-named : (s : Site) (es : ExpTrees) → AreNamed s.before → (i : ℕ) → AreNamed (found_sites s es i).before
found-named s (exp e (exp g no_exps)) named zero = behind-named s.before (places_all (exp g no_exps)) named
found-named s (exp e (exp g no_exps)) named (suc i) = behind-named s.before (places e) named
found-named s es named i = named

pub value-sites-named : (found : Bool) (s : Site) (es : ExpTrees) → AreNamed s.before → (i : ℕ) → AreNamed (value_sites found s es i).before
value-sites-named true s es named i = found-named s es named i
value-sites-named false s es named i = following-named s es named i
