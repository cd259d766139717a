-- Clauses and queries, from the parts that the code makes.
use Rattle.std.proofs.Common.{◌≡◌, ℕ, ◌+◌, ◌<◌, Bool, true, false, List, [], ◌∷◌, ◌++◌, length, map, refl, sym, ◌∙◌, ap, append_assoc, arith}
use Rattle.std.specs.Prelude.{Option, Some, None}
use Rattle.std.proofs.lemmas.Bool.{cond-true, cond-false}
use Rattle.pi_terms.specs.Tree.{Tree}
use Rattle.pi_syntax.specs.ExpTree.{ExpTree}
use Rattle.pi_syntax.specs.ProgramTree.{RuleTree, FunctionTree}
use Rattle.pi_core.specs.GoalTree.{GoalTree, truth, fail, tick, call, apply, seq, alternatives, if_else, not, once, collect, count, catch, goals_of, subgoals, subgoal, nodes, ShowsNode}
use Rattle.pi_core.specs.CoreTree.{PredTree, pattern_trees, clause_tree, pred_tree, query_tree}
use Rattle.pi_core.specs.declared.goal_node.GoalNode.{GoalNode}
use Rattle.pi_core.specs.declared.core_program.CoreClause.{CoreClause}
use Rattle.pi_core.specs.declared.core_program.CoreQuery.{CoreQuery}
use Rattle.pi_core.proofs.GoalPlaces.{nodes-children}
use Rattle.pi_meaning.specs.OverNames.WrittenRules.{head_arguments}
use Rattle.pi_meaning.specs.OverNames.Texts.{Names, places, behind}
use Rattle.pi_meaning.specs.OverNames.Rules.{places_in, names_before, function_names}
use Rattle.pi_meaning.specs.OverNames.Run.{answer_names}
use Rattle.pi_rewrite_spec.specs.Slots.{SlotNames, named_slots, slots_behind}
use Rattle.pi_rewrite_spec.specs.Values.{slot_patterns, last_value}
use Rattle.pi_rewrite_spec.specs.Goals.{in_turn}
use Rattle.pi_rewrite_spec.specs.Sites.{Site, behind_site}
use Rattle.pi_rewrite_spec.specs.Written.{made, goal_of}
use Rattle.pi_rewrite_spec.specs.Helpers.{goal_helpers}
use Rattle.pi_rewrite_spec.specs.Programs.{Naming, option_goals, option_count, behind_option, rule_site, written_rule, function_site, value_site, written_function, query_site, core_query}
use Rattle.pi_rewrite_spec.specs.Clauses.{head_slots, is_truth, as_guard, guard_of, lowered_fact}
use Rattle.pi_rewrite.specs.Built.{is_true_node}

-- ---- conditions

pub some-node : (g : GoalTree) → 0 < nodes g
some-node g = omega (arith, nodes-children g)

first-node : (g : GoalTree) → subgoal g 0 ≡ g
unfolding subgoals
first-node truth = refl
first-node fail = refl
first-node tick = refl
first-node (call name args) = refl
first-node (apply name args slot) = refl
first-node (seq gs) = refl
first-node (alternatives gs) = refl
first-node (if_else test yes_goal other) = refl
first-node (not g) = refl
first-node (once g) = refl
first-node (collect g value into) = refl
first-node (count g into) = refl
first-node (catch g ball handler) = refl

shown-truth : (g : GoalTree) (n : GoalNode) → ShowsNode g n → is_true_node n ≡ is_truth g
shown-truth g GoalNode.True is = sym (ap is_truth is)
shown-truth g GoalNode.Fail is = sym (ap is_truth is)
shown-truth g GoalNode.Tick is = sym (ap is_truth is)
shown-truth g (GoalNode.Call name args) is = sym (ap is_truth is)
shown-truth g (GoalNode.Apply name args slot) is = sym (ap is_truth is)
shown-truth g (GoalNode.Seq k) is = sym (ap is_truth is.0)
shown-truth g (GoalNode.Alt k) is = sym (ap is_truth is.0)
shown-truth g GoalNode.If is = sym (ap is_truth is)
shown-truth g GoalNode.Not is = sym (ap is_truth is)
shown-truth g GoalNode.Once is = sym (ap is_truth is)
shown-truth g (GoalNode.Collect value into) is = sym (ap is_truth is)
shown-truth g (GoalNode.Count into) is = sym (ap is_truth is)
shown-truth g (GoalNode.Catch ball) is = sym (ap is_truth is)

pub truth-shown : (g : GoalTree) (n : GoalNode) (r : Bool) → ShowsNode (subgoal g 0) n → r ≡ is_true_node n → r ≡ is_truth g
truth-shown g n r shows is = is ∙ (shown-truth (subgoal g 0) n shows ∙ ap is_truth (first-node g))

the-truth : (g : GoalTree) → is_truth g ≡ true → g ≡ truth
the-truth truth h = refl
the-truth fail h = absurd cc
the-truth tick h = absurd cc
the-truth (call name args) h = absurd cc
the-truth (apply name args slot) h = absurd cc
the-truth (seq gs) h = absurd cc
the-truth (alternatives gs) h = absurd cc
the-truth (if_else test yes_goal other) h = absurd cc
the-truth (not g) h = absurd cc
the-truth (once g) h = absurd cc
the-truth (collect g value into) h = absurd cc
the-truth (count g into) h = absurd cc
the-truth (catch g ball handler) h = absurd cc

pub guard-other : (g : GoalTree) → is_truth g ≡ false → g ≡ as_guard g
guard-other g h = sym (cond-false (is_truth g) (seq (goals_of (truth ∷ []))) g h)

pub guard-truth : (g one : GoalTree) (start goals : List GoalTree) → is_truth g ≡ true → start ≡ [] → goals ≡ start ++ g ∷ [] → one ≡ seq (goals_of goals) → one ≡ as_guard g
guard-truth g one start goals h none put is =
    is ∙ (ap (λ gs. seq (goals_of gs)) (put ∙ ap (λ xs. xs ++ g ∷ []) none) ∙ (ap (λ x. seq (goals_of (x ∷ []))) (the-truth g h) ∙ sym (cond-true (is_truth g) (seq (goals_of (truth ∷ []))) g h)))

-- ---- clauses

-- helpers of two parts, one behind the other
pub two-behind : {A : Type 0} (before mid after one two first second : List A) → mid ≡ before ++ first → after ≡ mid ++ second → first ≡ one → second ≡ two → after ≡ before ++ (one ++ two)
two-behind before mid after one two first second p q a b =
    q ∙ (ap (λ xs. xs ++ second) p ∙ (append_assoc before first second ∙ (ap (λ xs. before ++ (xs ++ second)) a ∙ ap (λ xs. before ++ (one ++ xs)) b)))

abbrev pub site : ℕ → Names → ℕ → Naming → Site
site filled before helpers called = record { filled = filled; before = before; helpers = helpers; called = called }

same-site : (h i : ℕ) (before : Names) (m n : ℕ) (called : Naming) → h ≡ i → m ≡ n → site h before m called ≡ site i before n called
same-site h i before m n called p q = cc

-- behind the names of a head
pub head-site : (s t : Site) (start names : Names) (h n : ℕ) (called : Naming) (head : ExpTree) → s ≡ site h start n called → start ≡ [] → names ≡ places head → t ≡ behind_site s names 0 → t ≡ site h (behind [] (places head)) n called
head-site s t start names h n called head is none named q =
    q ∙ (ap (λ x. behind_site x names 0) is ∙ (ap (λ b. behind_site (site h b n called) names 0) none ∙ (ap (λ ns. behind_site (site h [] n called) ns 0) named
    ∙ same-site h h (behind [] (places head)) (n + 0) n called refl (omega arith))))

-- behind what is left out
pub pass-none : (s : Site) (o : Option ExpTree) → o ≡ None → s ≡ behind_option s o
unfolding behind
pass-none s o is = same-site s.filled s.filled s.before s.helpers (s.helpers + 0) s.called refl (omega arith) ∙ ap (behind_option s) (sym is)

-- where a rule's condition stands, and its body
pub rule-site-is : (r : RuleTree) (called : Naming) (n h : ℕ) (one : SlotNames) (s : Site) → one ≡ (slot_patterns (head_arguments r.head) []).names → h ≡ length one → s ≡ site h (behind [] (places r.head)) n called → s ≡ rule_site called n r
rule-site-is r called n h one s o k is = cc

pub rule-is : (c : CoreClause) (r : RuleTree) (called : Naming) (n : ℕ) (zero one two three : SlotNames) (s t : Site) → zero ≡ [] → pattern_trees c.head.items ≡ (slot_patterns (head_arguments r.head) zero).forms →
    one ≡ (slot_patterns (head_arguments r.head) zero).names → s ≡ rule_site called n r → c.guard ≡ guard_of r.cond (option_goals s r.cond one) → two ≡ (option_goals s r.cond one).names → t ≡ behind_option s r.cond → c.back ≡ r.back →
    c.watches ≡ [] → c.body ≡ in_turn (goal_of t r.body two).goals → three ≡ (goal_of t r.body two).names → c.value ≡ None → c.slots ≡ length three → clause_tree c ≡ written_rule called n r
rule-is c r called n zero one two three s t z head o p guard w q back watches body e value slots = cc

pub fact-is : (c : CoreClause) (head : ExpTree) (zero one : SlotNames) → zero ≡ [] → pattern_trees c.head.items ≡ (slot_patterns (head_arguments head) zero).forms → one ≡ (slot_patterns (head_arguments head) zero).names →
    c.guard ≡ truth → c.back ≡ false → c.watches ≡ [] → c.body ≡ truth → c.value ≡ None → c.slots ≡ length one → clause_tree c ≡ lowered_fact head
unfolding lowered_fact
fact-is c head zero one z patterns o guard back watches body value slots = cc

-- where a function's condition stands, and its value
pub function-site-is : (f : FunctionTree) (called : Naming) (n h : ℕ) (one : SlotNames) (s t : Site) → one ≡ (slot_patterns (head_arguments f.head) []).names → h ≡ length one → s ≡ site h (behind [] (places f.head)) n called →
    t ≡ behind_site s (places f.value) 0 → t ≡ function_site called n f
function-site-is f called n h one s t o k is q = q ∙ (ap (λ x. behind_site x (places f.value) 0) is ∙ same-site h (head_slots f.head) (function_names f) (n + 0) n called (k ∙ ap length o) (omega arith))

pub value-site-is : (f : FunctionTree) (called : Naming) (n h : ℕ) (one : SlotNames) (s t u : Site) → one ≡ (slot_patterns (head_arguments f.head) []).names → h ≡ length one → s ≡ site h (behind [] (places f.head)) n called →
    t ≡ behind_option s f.cond → u ≡ behind_option t f.body → u ≡ value_site called n f
value-site-is f called n h one s t u o k is p q =
    q ∙ (ap (λ x. behind_option x f.body) (p ∙ ap (λ x. behind_option x f.cond) is)
    ∙ same-site h (head_slots f.head) (behind (names_before f.head f.cond) (places_in f.body)) ((n + option_count f.cond) + option_count f.body) (n + (option_count f.cond + option_count f.body)) called (k ∙ ap length o) (omega arith))

pub function-is : (c : CoreClause) (f : FunctionTree) (called : Naming) (n : ℕ) (zero one two three four : SlotNames) (s t u : Site) (v : Tree) (some most all : List GoalTree) → zero ≡ [] →
    pattern_trees c.head.items ≡ (slot_patterns (head_arguments f.head) zero).forms → one ≡ (slot_patterns (head_arguments f.head) zero).names → s ≡ function_site called n f → c.guard ≡ guard_of f.cond (option_goals s f.cond one) →
    two ≡ (option_goals s f.cond one).names → t ≡ behind_option s f.cond → c.back ≡ false → c.watches ≡ [] → some ≡ [] → most ≡ some ++ (option_goals t f.body two).goals → three ≡ (option_goals t f.body two).names →
    u ≡ value_site called n f → all ≡ most ++ (last_value f.value three (made u f.value three)).goals → v ≡ (last_value f.value three (made u f.value three)).tree →
    four ≡ (last_value f.value three (made u f.value three)).names → c.body ≡ in_turn all → c.value ≡ Some v → c.slots ≡ length four → clause_tree c ≡ written_function called n f
function-is c f called n zero one two three four s t u v some most all z head o p guard w q back watches none m e r a tree l body value slots = cc

-- ---- queries

pub query-is : (q : CoreQuery) (goal : ExpTree) (called : Naming) (zero one two : SlotNames) (told : List (List ℕ)) (none helpers : List PredTree) (s : Site) → zero ≡ [] → s ≡ query_site called → q.goal ≡ in_turn (goal_of s goal zero).goals →
    one ≡ (goal_of s goal zero).names → told ≡ answer_names goal → none ≡ [] → helpers ≡ none ++ goal_helpers s goal → map pred_tree q.helpers ≡ helpers → q.names ≡ named_slots told one → two ≡ slots_behind told one → q.slots ≡ length two →
    query_tree q ≡ core_query called goal
unfolding core_query
query-is q goal called zero one two told none helpers s z p body o t h m e names w slots = cc
