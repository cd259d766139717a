-- Clauses of built rules and functions fit what they are of, and call what may be called, where the helpers of their loops may be.
use Rattle.std.proofs.Common.{◌≡◌, ◌++◌, ℕ, Bool, true, false, cond, List, [], ◌∷◌, length, refl, sym, ◌∙◌, ap, subst, arith}
use Rattle.std.proofs.lemmas.Bool.{false≢true, and_parts}
use Rattle.std.specs.Prelude.{Option, Some, None, ◌↔◌, IsSome, IsTrue, ◌&&◌}
use Rattle.pi_terms.specs.Tree.{Tree}
use Rattle.pi_constraints.specs.State.{SpeaksBelow}
use Rattle.pi_core.specs.GoalTree.{truth, seq, goals_of}
use Rattle.pi_core.specs.CoreTree.{ClauseTree, PredTree}
use Rattle.pi_syntax.specs.ExpTree.{ExpTree}
use Rattle.pi_syntax.specs.ProgramTree.{RuleTree, FunctionTree}
use Rattle.pi_syntax.specs.Signature.{Signature, signature, exp_count}
use Rattle.pi_meaning.specs.OverNames.WrittenRules.{head_arguments}
use Rattle.pi_meaning.specs.CoreMeaning.Sound.{KeepsSlots, pattern_count}
use Rattle.pi_meaning.specs.OverNames.Texts.{places, behind}
use Rattle.pi_meaning.specs.OverNames.Rules.{places_in, names_before}
use Rattle.pi_meaning.proofs.OverNames.LoopNames.{AreNamed, behind-named}
use Rattle.pi_meaning.specs.OverNames.Forms.{plain}
use Rattle.pi_rewrite_spec.specs.Slots.{SlotNames}
use Rattle.pi_rewrite_spec.specs.Values.{SlotValue, last_value}
use Rattle.pi_rewrite_spec.specs.Goals.{SlotGoals, in_turn}
use Rattle.pi_rewrite_spec.specs.Forms.{Knows, ArePatterns}
use Rattle.pi_rewrite_spec.specs.Clauses.{head_forms, head_slots, is_truth, guard_of, lowered_fact, named_by}
use Rattle.pi_rewrite_spec.specs.Sites.{Site}
use Rattle.pi_rewrite_spec.specs.Written.{made, goal_of}
use Rattle.pi_rewrite_spec.specs.Helpers.{value_helpers, goal_helpers}
use Rattle.pi_rewrite_spec.specs.Programs.{Naming, option_goals, option_helpers, behind_option, rule_site, written_rule, rule_helpers, function_site, value_site, written_function, function_helpers}
use Rattle.pi_rewrite_laws.specs.Within.{IsFree, IsGoalOrNone, IsRule, IsFunction}
use Rattle.pi_rewrite_laws.proofs.SoundLemmas.{nothing-in, patterns-below, patterns-count}
use Rattle.pi_rewrite_laws.proofs.TextLevels.{nothing-named}
use Rattle.pi_rewrite_sound.specs.Built.{are_built_patterns, are_none, is_built_value, is_built_goal, is_built_goal_or_none, is_built_rule, is_built_function_rule}
use Rattle.pi_rewrite_sound.proofs.FineGoals.{Fine, AllFine, fine-one, fine-append, fine-turn, fine-truth, slots-below}
use Rattle.pi_rewrite_sound.proofs.GoodHelpers.{Allows, Has, has-first, has-last, GoodHelpers, both-helpers}
use Rattle.pi_rewrite_sound.proofs.GoodGoals.{GoodGoals, GoodValue, good-nothing}
use Rattle.pi_rewrite_sound.proofs.GoodValues.{good-last}
use Rattle.pi_rewrite_sound.proofs.GoodTexts.{value-good, goal-good}

-- a clause of a predicate, or of a function where the first is true
pub record GoodClause (may : Knows) (kind : Bool) (s : Signature) (c : ClauseTree) : Type 0 where
  pub slots : KeepsSlots c
  pub arity : pattern_count c.head ≡ s.arity
  pub value : IsTrue kind ↔ IsSome c.value
  pub guard : Fine c.slots may c.guard
  pub body : Fine c.slots may c.body

-- with these helpers
pub record GoodWith (known : Knows) (kind : Bool) (s : Signature) (ps : List PredTree) (c : ClauseTree) : Type 0 where
  pub helpers : GoodHelpers known ps
  pub clause : (may : Knows) → Allows known may → Has may ps → GoodClause may kind s c

-- ---- heads

pub head-count : (head : ExpTree) (s : Signature) → signature head ≡ Some s → exp_count (head_arguments head) ≡ s.arity
unfolding exp_count
head-count (ExpTree.atom n) s e = let is : record { name = n; arity = 0 } ≡ s = cc in ap (λ (t : Signature). t.arity) is
head-count (ExpTree.call n es) s e = let is : record { name = n; arity = exp_count es } ≡ s = cc in ap (λ (t : Signature). t.arity) is
head-count x s e = absurd cc

head-fits : (head : ExpTree) → IsFree head → pattern_count (head_forms head).forms ≡ (named_by (signature head)).arity
head-fits head free =
    patterns-count (head_arguments head) [] ∙ head-count head free.named free.is_named ∙ sym (ap (λ (o : Option Signature). (named_by o).arity) free.is_named)

head-named : (head : ExpTree) → AreNamed (behind [] (places head))
head-named head = behind-named [] (places head) nothing-named

-- ---- goals that may be left out

option-good : (known : Knows) (s : Site) (o : Option ExpTree) → AreNamed s.before → IsGoalOrNone known o → is_built_goal_or_none o ≡ true → GoodGoals known (option_helpers s o) (λ ns. option_goals s o ns)
option-good known s None named is built = good-nothing
option-good known s (Some e) named is built = goal-good known s e named is built

-- a condition that is written `true` is a `seq` of it
seq-fine : (n : ℕ) (may : Knows) → Fine n may (seq (goals_of (truth ∷ [])))
unfolding Fine
seq-fine n may = fine-one n may truth (fine-truth n may)

guard-fine : (n : ℕ) (may : Knows) (o : Option ExpTree) (gs : SlotGoals) → AllFine n may gs.goals → Fine n may (guard_of o gs)
guard-fine n may None gs are = fine-truth n may
guard-fine n may (Some c) gs are = go (is_truth (in_turn gs.goals))
  where
    go : (test : Bool) → Fine n may (cond test (seq (goals_of (truth ∷ []))) (in_turn gs.goals))
    go true = seq-fine n may
    go false = fine-turn n may gs.goals are

-- ---- rules

pub rule-good : (known : Knows) (called : Naming) (n : ℕ) (r : RuleTree) → IsRule known r → IsFree r.head → is_built_rule r ≡ true → GoodWith known false (named_by (signature r.head)) (rule_helpers called n r) (written_rule called n r)
rule-good known called n r is free built = record {
  helpers = both-helpers known (option_helpers s r.cond) (goal_helpers t r.body) guard.helpers body.helpers;
  clause = λ may allows has.
      let first : Fine slots may (guard_of r.cond (option_goals s r.cond ks)) = guard-fine slots may r.cond (option_goals s r.cond ks) (guard.fine may allows (has-first may (option_helpers s r.cond) (goal_helpers t r.body) has) slots ks (omega (arith, body.longer ms))) in
      let second : Fine slots may (in_turn (goal_of t r.body ms).goals) = fine-turn slots may (goal_of t r.body ms).goals (body.fine may allows (has-last may (option_helpers s r.cond) (goal_helpers t r.body) has) slots ms (omega arith)) in
      record {
        slots = record {
          head = λ k there. patterns-below slots (head_arguments r.head) is.head [] (omega (arith, guard.longer ks, body.longer ms)) k there;
          guard = slots-below slots may _ first;
          watches = λ w there. absurd (nothing-in w there);
          body = slots-below slots may _ second;
          value = λ t e. absurd cc;
        };
        arity = head-fits r.head free;
        value = ((λ e. absurd (false≢true e)), (λ e. absurd (false≢true e)));
        guard = first;
        body = second;
      };
}
  where
    goals : (is_built_goal_or_none r.cond ≡ true) × (is_built_goal r.body ≡ true)
    goals = and_parts (is_built_goal_or_none r.cond) (is_built_goal r.body) (and_parts (are_built_patterns (head_arguments r.head)) _ (and_parts (are_none r.events) _ built).1).1

    s : Site
    s = rule_site called n r

    t : Site
    t = behind_option (rule_site called n r) r.cond

    ks : SlotNames
    ks = (head_forms r.head).names

    ms : SlotNames
    ms = (option_goals (rule_site called n r) r.cond (head_forms r.head).names).names

    slots : ℕ
    slots = length (goal_of (behind_option (rule_site called n r) r.cond) r.body (option_goals (rule_site called n r) r.cond (head_forms r.head).names).names).names

    guard : GoodGoals known (option_helpers (rule_site called n r) r.cond) (λ ns. option_goals (rule_site called n r) r.cond ns)
    guard = option-good known (rule_site called n r) r.cond (head-named r.head) is.cond goals.0

    body : GoodGoals known (goal_helpers (behind_option (rule_site called n r) r.cond) r.body) (λ ns. goal_of (behind_option (rule_site called n r) r.cond) r.body ns)
    body = goal-good known (behind_option (rule_site called n r) r.cond) r.body (behind-named (behind [] (places r.head)) (places_in r.cond) (head-named r.head)) is.body goals.1

-- ---- facts

pub fact-good : (known : Knows) (head : ExpTree) → ArePatterns (head_arguments head) → IsFree head → (may : Knows) → GoodClause may false (named_by (signature head)) (lowered_fact head)
unfolding lowered_fact
fact-good known head is free may = record {
  slots = record {
    head = λ k there. patterns-below (head_slots head) (head_arguments head) is [] (omega arith) k there;
    guard = slots-below (head_slots head) may truth (fine-truth (head_slots head) may);
    watches = λ w there. absurd (nothing-in w there);
    body = slots-below (head_slots head) may truth (fine-truth (head_slots head) may);
    value = λ t e. absurd cc;
  };
  arity = head-fits head free;
  value = ((λ e. absurd (false≢true e)), (λ e. absurd (false≢true e)));
  guard = fine-truth (head_slots head) may;
  body = fine-truth (head_slots head) may;
}

-- ---- functions

same-value : (n : ℕ) (t u : Tree) → SpeaksBelow n t → Some t ≡ Some u → SpeaksBelow n u
same-value n t u below e = let is : t ≡ u = cc in subst (SpeaksBelow n) is below

pub function-good : (known : Knows) (called : Naming) (n : ℕ) (f : FunctionTree) → IsFunction known f → IsFree f.head → is_built_function_rule f ≡ true → GoodWith known true (named_by (signature f.head)) (function_helpers called n f) (written_function called n f)
function-good known called n f is free built = record {
  helpers = both-helpers known (option_helpers s f.cond) later guard.helpers (both-helpers known (option_helpers t f.body) (value_helpers u f.value) body.helpers value.helpers);
  clause = λ may allows has.
      let rest : Has may later = has-last may (option_helpers s f.cond) later has in
      let first : Fine slots may (guard_of f.cond (option_goals s f.cond ks)) =
      guard-fine slots may f.cond (option_goals s f.cond ks) (guard.fine may allows (has-first may (option_helpers s f.cond) later has) slots ks (omega (arith, body.longer ms, value.longer js))) in
      let second : Fine slots may (in_turn ((option_goals t f.body ms).goals ++ v.goals)) =
      fine-turn slots may ((option_goals t f.body ms).goals ++ v.goals)
      (fine-append slots may (option_goals t f.body ms).goals v.goals (body.fine may allows (has-first may (option_helpers t f.body) (value_helpers u f.value) rest) slots ms (omega (arith, value.longer js)))
      (value.fine may allows (has-last may (option_helpers t f.body) (value_helpers u f.value) rest) slots js (omega arith))) in
      record {
        slots = record {
          head = λ k there. patterns-below slots (head_arguments f.head) is.head [] (omega (arith, guard.longer ks, body.longer ms, value.longer js)) k there;
          guard = slots-below slots may _ first;
          watches = λ w there. absurd (nothing-in w there);
          body = slots-below slots may _ second;
          value = λ t e. same-value slots v.tree t (value.below slots js (omega arith)) e;
        };
        arity = head-fits f.head free;
        value = ((λ e. refl), (λ e. refl));
        guard = first;
        body = second;
      };
}
  where
    goals : (is_built_goal_or_none f.cond ≡ true) × ((is_built_goal_or_none f.body && is_built_value f.value) ≡ true)
    goals = and_parts (is_built_goal_or_none f.cond) _ (and_parts (are_built_patterns (head_arguments f.head)) _ built).1

    run : (is_built_goal_or_none f.body ≡ true) × (is_built_value f.value ≡ true)
    run = and_parts (is_built_goal_or_none f.body) (is_built_value f.value) goals.1

    s : Site
    s = function_site called n f

    t : Site
    t = behind_option (function_site called n f) f.cond

    u : Site
    u = value_site called n f

    later : List PredTree
    later = option_helpers (behind_option (function_site called n f) f.cond) f.body ++ value_helpers (value_site called n f) f.value

    ks : SlotNames
    ks = (head_forms f.head).names

    ms : SlotNames
    ms = (option_goals (function_site called n f) f.cond (head_forms f.head).names).names

    js : SlotNames
    js = (option_goals (behind_option (function_site called n f) f.cond) f.body (option_goals (function_site called n f) f.cond (head_forms f.head).names).names).names

    v : SlotValue
    v = last_value f.value js (made (value_site called n f) f.value js)

    slots : ℕ
    slots = length v.names

    named : AreNamed (function_site called n f).before
    named = behind-named (behind [] (places f.head)) (places f.value) (head-named f.head)

    guard : GoodGoals known (option_helpers (function_site called n f) f.cond) (λ ns. option_goals (function_site called n f) f.cond ns)
    guard = option-good known (function_site called n f) f.cond (behind-named (behind [] (places f.head)) (places f.value) (head-named f.head)) is.cond goals.0

    body : GoodGoals known (option_helpers (behind_option (function_site called n f) f.cond) f.body) (λ ns. option_goals (behind_option (function_site called n f) f.cond) f.body ns)
    body = option-good known (behind_option (function_site called n f) f.cond) f.body
        (behind-named (behind (behind [] (places f.head)) (places f.value)) (places_in f.cond) (behind-named (behind [] (places f.head)) (places f.value) (head-named f.head))) is.body run.0

    value : GoodValue known (value_helpers (value_site called n f) f.value) (λ ns. last_value f.value ns (made (value_site called n f) f.value ns))
    value = good-last plain f.value
        (value-good known (value_site called n f) plain f.value (behind-named (names_before f.head f.cond) (places_in f.body) (behind-named (behind [] (places f.head)) (places_in f.cond) (head-named f.head))) is.value run.1)
