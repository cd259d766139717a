-- What a run stands for: which configuration its store and its arenas are.
use Rattle.std.specs.Prelude.{not as is_not}
use Rattle.pi_constraints.specs.Store.{Extend, Terms, StoreView, IsGood, Beside, StandsBeside}
use Rattle.pi_engine_code.specs.Laid.{IsNotBuiltIn}
use Rattle.pi_engine_code.specs.LaidRules.{IsTestOf}
use Rattle.std.specs.Prelude.{◌≡◌, ◌≢◌, ◌↔◌, ℕ, zero, suc, ◌+◌, ◌-◌, ◌≤◌, Bool, true, false, List, [], ◌∷◌, Option, Some, None, length, map, take, drop, slice_get, AllPairs, IsTrue, IsSome, is_some, option_map, ⊤}
use Rattle.pi_terms.specs.Tree.{Tree, Trees, no_trees, tree, comp}
use Rattle.pi_terms.specs.Places.{Places}
use Rattle.pi_constraints.specs.State.{State, domain_of}
use Rattle.pi_engine_stands.specs.Rests.{Rests}
use Rattle.pi_core.specs.GoalTree.{GoalTree, GoalTrees, count_goals, truth, apply, if_else, not, once, collect, count, catch, goal, no_goals}
use Rattle.pi_terms.specs.PatternTree.{PatternTrees, no_patterns, pattern}
use Rattle.pi_core.specs.CoreTree.{ClauseTree, PredTree, pred_tree, leaves_others}
use Rattle.pi_constraints.specs.Evaluation.{evaluated}
use Rattle.pi_meaning.specs.CoreMeaning.Sound.{IsAnother, pattern_count}
use Rattle.pi_meaning.specs.CoreMeaning.Defined.{NamesAreFree}
use Rattle.pi_meaning.specs.Machine.NamedGoals.{goal_by_name}
use Rattle.pi_engine_code.specs.Callables.{place_in, HasPlace}
use Rattle.pi_engine_code.specs.Keyed.{AreKeyed}
use Rattle.pi_engine_code.specs.declared.code.Node.{Node}
use Rattle.pi_engine_code.specs.declared.code.Step.{Step}
use Rattle.pi_engine_code.specs.declared.code.HeadTest.{HeadTest}
use Rattle.pi_engine_code.specs.declared.code.Rule.{Rule}
use Rattle.pi_engine_code.specs.declared.code.Predicate.{Predicate}
use Rattle.pi_engine_code.specs.declared.code.Code.{Code}
use Rattle.pi_engine_arenas.specs.declared.frames.Point.{Point}
use Rattle.pi_engine_arenas.specs.declared.arenas.Kind.{Kind}
use Rattle.pi_engine_arenas.specs.declared.arenas.Strict.{Strict}
use Rattle.pi_engine_arenas.specs.declared.arenas.Search.{Search as Site}
use Rattle.pi_settling.specs.Words.{plain_words}
use Rattle.pi_meaning.specs.Machine.Step.{round_goal}
use Rattle.pi_engine_arenas.specs.declared.arenas.Alternatives.{Alternatives}
use Rattle.pi_label.specs.Words.{value_word, alternative_of}
use Rattle.pi_settling.specs.Choices.{Pending, Alternative, alternatives as alternatives_of}
use Rattle.std.specs.Prelude.{Box}
use Rattle.std.specs.Global.{Global}
use Rattle.pi_engine_arenas.specs.declared.run.Settling.{Settling}
use Rattle.pi_engine_arenas.specs.declared.run.Telling.{Telling}
use Rattle.pi_engine_arenas.specs.declared.run.Now.{Now}
use Rattle.pi_engine_code.specs.Code.{Tables, tables_of, preds_of}
use Rattle.pi_engine_arenas.specs.Blocks.{IsKept, IsOlder, brought_back}
use Rattle.pi_engine_arenas.specs.Arenas.{ArenasView, entry_at, newest, slots_kept_by, view_of}
use Rattle.pi_engine_arenas.specs.declared.arenas.Entry.{Entry}
use Rattle.pi_engine_stands.specs.Here.{Block, block_end, Holds, HoldsArguments, IsHere, AreHere, AreBranches, valued, Ends, in_block, with_value, Here, LeftBehind, GoesOn}
use Rattle.pi_meaning.specs.Machine.Shape.{open_level}
use Rattle.pi_meaning.specs.Shared.Settle.{settlement}
use Rattle.pi_engine_settle.specs.Due.{IsDueFor}
use Rattle.pi_engine_settle.specs.Settles.{LeftBy}
use Rattle.pi_meaning.specs.Machine.Configuration.{Called, rules_left, facts_left, branches_left, alternatives_left, Search, Found, once_level, not_level, if_level, guard_level, value_level, list_level, number_level, search_level, Frame, Entry as EntryData, choice, strict, catch_level, left, Now as NowData, going, settling, telling, failed, raising, Config, config}
use Rattle.pi_engine_arenas.specs.declared.run.Run.{Run}

-- ---- programs in tables

unfoldable pub AreTestsOf : List (List ℕ) → PatternTrees → List HeadTest → Type 0
AreTestsOf names no_patterns ts = ⊤
AreTestsOf names (pattern p ps) [] = ⊥
AreTestsOf names (pattern p ps) (t ∷ ts) = IsTestOf names p t × AreTestsOf names ps ts

-- no test is left to the program
abbrev pub NoneIsDeep : List HeadTest → Type 0
NoneIsDeep ts = (i : ℕ) (t : HeadTest) → slice_get ts i ≡ Some t → t ≢ HeadTest.Deep

-- the slots of a clause whose call has so many arguments, in a block that begins at a base
abbrev pub clause_block : ℕ → PredTree → ClauseTree → Block
clause_block base pred c = record { base = base; first = pred.arity; count = c.slots }

-- a condition stands at a place; `truth` has none
abbrev pub IsGuardHere : Tables → List Step → Block → Option ℕ → GoalTree → Type 0
IsGuardHere t steps b None g = g ≡ truth
IsGuardHere t steps b (Some place) g = (g ≢ truth) × IsHere t steps b place g false

pub record IsRuleOf (code : Code) (t : Tables) (names : List (List ℕ)) (pred : PredTree) (c : ClauseTree) (r : Rule) : Type 0 where
  pub slots : r.slots ≡ c.slots
  pub leaves_others : r.leaves_others ≡ leaves_others pred.function c
  pub patterns : pattern_count c.head ≡ pred.arity
  pub tests : AreTestsOf names c.head (drop r.tests code.tests.items)
  pub shallow : r.is_deep ≡ false → NoneIsDeep (take pred.arity (drop r.tests code.tests.items))
  pub value : IsTrue pred.function ↔ IsSome c.value
  pub guard : (base : ℕ) → IsGuardHere t code.steps.items (clause_block base pred c) r.guard c.guard
  pub last : Bool
  pub body : (base : ℕ) → AreHere t code.steps.items (clause_block base pred c) r.body r.goals (goal c.body no_goals) c.value last

pub record IsPredicateOf (code : Code) (t : Tables) (names : List (List ℕ)) (pred : PredTree) (p : Predicate) : Type 0 where
  pub arity : p.arity ≡ pred.arity
  pub quiet : p.is_quiet ≡ pred.quiet
  pub facts : p.is_facts ≡ is_some pred.index
  pub rules : p.end ≡ p.first + length pred.clauses
  pub each : (i : ℕ) (c : ClauseTree) → slice_get pred.clauses i ≡ Some c → (r : Rule) × (slice_get code.rules.items (p.first + i) ≡ Some r) × IsRuleOf code t names pred c r

-- a call's number is that of a predicate that isn't built in, a function call's that of such a function
abbrev pub IsNumberOf : List PredTree → Bool → ℕ → Type 0
IsNumberOf preds function n = (pred : PredTree) × (slice_get preds n ≡ Some pred) × (pred.function ≡ function) × IsNotBuiltIn function pred.name pred.arity

abbrev pub HasNumber : List PredTree → Node → Type 0
HasNumber preds (Node.Call p first) = IsNumberOf preds false p
HasNumber preds (Node.Apply p first into) = IsNumberOf preds true p
HasNumber preds node = ⊤

-- the goal by which the name with a number is called with so many arguments stands at a place, in a block that has just the arguments
pub record NamedHere (code : Code) (t : Tables) (names : List (List ℕ)) (preds : List PredTree) (n k place : ℕ) : Type 0 where
  pub name : List ℕ
  pub name_is : slice_get names n ≡ Some name
  pub it : GoalTree
  pub is : goal_by_name preds name k ≡ Some it
  pub here : (base : ℕ) → IsHere t code.steps.items (record { base = base; first = 0; count = k }) place it true

-- where a place is found for a name that goal stands there, and for each name with such a goal a place is found
pub record AreNamed (code : Code) (t : Tables) (names : List (List ℕ)) (preds : List PredTree) : Type 0 where
  pub right : (n k place : ℕ) → place_in code.callables n k ≡ Some place → NamedHere code t names preds n k place
  pub each : (name : List ℕ) (k : ℕ) (g : GoalTree) → goal_by_name preds name k ≡ Some g → HasPlace names code.callables name k

-- the predicates of a program and a query's own stand in the tables, and the goals by which names are called; facts have the keys by which they are found
pub record IsCodeOf (code : Code) (t : Tables) (names : List (List ℕ)) (preds : List PredTree) : Type 0 where
  pub source : preds ≡ map pred_tree (preds_of code)
  pub apart : AllPairs IsAnother preds
  pub free : NamesAreFree preds
  pub predicates : (n : ℕ) (pred : PredTree) → slice_get preds n ≡ Some pred → (p : Predicate) × (slice_get code.predicates.items n ≡ Some p) × IsPredicateOf code t names pred p
  pub numbers : (i : ℕ) (s : Step) → slice_get code.steps.items i ≡ Some s → HasNumber preds s.node
  pub named : AreNamed code t names preds
  pub keyed : AreKeyed code.predicates.items code.rules.items code.tests.items code.keys

-- ---- a run

-- what is run: the tables, and the terms that were in the store when the run began, by which they are read; the program; how
-- many slots the query has
pub record Loaded : Type 0 where
  pub code : Code
  pub terms : Terms
  pub preds : List PredTree
  pub query_slots : ℕ

abbrev pub tables_in : Loaded → Tables
tables_in l = tables_of l.terms l.code

abbrev pub steps_of : Loaded → List Step
steps_of p = p.code.steps.items

-- what a run has: what is run, the store and the order of its marks, the arenas
pub record World (M : Type 0) : Type 0 where
  pub loaded : Loaded
  pub store : StoreView M
  pub order : M → ℕ
  pub arenas : ArenasView M

abbrev pub world : {M : Type 0} → Loaded → StoreView M → (M → ℕ) → ArenasView M → World M
world l s order a = record { loaded = l; store = s; order = order; arenas = a }

-- what a run has, by what its kind of store holds and by the order of its marks
abbrev pub world_of : {S M : Type 0} → (S → StoreView M) → (M → ℕ) → Loaded → Run S M → World M
world_of seen order l run = world l (seen run.store) order (view_of run.arenas)

abbrev pub entries_of : {M : Type 0} → World M → List (Entry M)
entries_of w = w.arenas.entries

-- the slots of the clause that a step at a place belongs to, in a block that begins at a base
abbrev pub shape_of : Option Step → ℕ → Block
shape_of None base = record { base = base; first = 0; count = 0 }
shape_of (Some s) base = record { base = base; first = s.first_slot; count = s.slots }

abbrev pub block_at : Loaded → ℕ → ℕ → Block
block_at l place base = shape_of (slice_get (steps_of l) place) base

-- the same of a rule of a call
abbrev pub rule_shape : Option Predicate → Option Rule → ℕ → Block
rule_shape (Some p) (Some r) base = record { base = base; first = p.arity; count = r.slots }
rule_shape p r base = record { base = base; first = 0; count = 0 }

abbrev pub rule_block : Loaded → ℕ → ℕ → ℕ → Block
rule_block l p r base = rule_shape (slice_get l.code.predicates.items p) (slice_get l.code.rules.items r) base

-- the block of the call that labels in a round of a search: it has the words and the variables alone
abbrev pub round_block : ℕ → Block
round_block base = record { base = base; first = 0; count = 2 }

-- what the block of a search holds: the arguments of that call, and the expression
abbrev pub search_held : Search → Trees
search_held x = tree (plain_words x.options) (tree x.vars (tree x.objective.expression no_trees))

-- how the level of an entry ends
abbrev pub ends_of : Loaded → Kind → ℕ → Ends
ends_of l (Kind.Strict (Strict.Once place)) base = in_block (block_at l place base)
ends_of l (Kind.Strict (Strict.Not place)) base = in_block (block_at l place base)
ends_of l (Kind.Strict (Strict.If place)) base = in_block (block_at l place base)
ends_of l (Kind.Strict (Strict.Guard p r)) base = in_block (rule_block l p r base)
ends_of l (Kind.Strict (Strict.Apply place caller)) base = with_value base
ends_of l (Kind.Strict (Strict.Collect place first)) base = in_block (block_at l place base)
ends_of l (Kind.Strict (Strict.Count place n)) base = in_block (block_at l place base)
ends_of l (Kind.Strict (Strict.Search it)) base = in_block (round_block base)
ends_of l (Kind.Catch place) base = in_block (block_at l place base)
ends_of l (Kind.Rules p r) base = with_value base
ends_of l (Kind.Facts p r) base = with_value base
ends_of l (Kind.Branches place n) base = with_value base
ends_of l (Kind.Alternatives place it) base = with_value base
ends_of l Kind.Exit base = with_value base

-- how a level ends, by the number of its entry; without one the query has an answer
abbrev pub entry_ends : {M : Type 0} → Loaded → Option (Entry M) → Ends
entry_ends l None = in_block (record { base = 0; first = 0; count = l.query_slots })
entry_ends l (Some x) = ends_of l x.back.kind x.back.base

abbrev pub level_ends : {M : Type 0} → World M → ℕ → Ends
level_ends w level = entry_ends w.loaded (entry_at (entries_of w) level)

-- what an entry brings back
abbrev pub back_here : {M : Type 0} → World M → Entry M → Here
back_here w x = record {
  terms = (w.store.at_mark x.mark).terms;
  slots = brought_back x.back.blocks w.arenas.blocks;
  frames = take x.back.frames w.arenas.frames;
  ends = level_ends w x.back.level;
}

-- what is there now
abbrev pub now_here : {M : Type 0} → World M → Here
now_here w = record { terms = w.store.now.terms; slots = w.arenas.blocks.slots; frames = w.arenas.frames; ends = level_ends w w.arenas.level }

-- what runs inside of a level leaves the blocks in front of the level's as they were
abbrev pub agrees_from : {M : Type 0} → World M → Option (Entry M) → Here → Type 0
agrees_from w None h = ⊤
agrees_from w (Some x) h =
    Extend (back_here w x).terms h.terms × (take x.back.base (back_here w x).slots ≡ take x.back.base h.slots) × (x.back.base ≤ length h.slots)
    × (take x.back.frames h.frames ≡ (back_here w x).frames)

abbrev pub Agrees : {M : Type 0} → World M → ℕ → Here → Type 0
Agrees w level h = agrees_from w (entry_at (entries_of w) level) h

-- a block and the frames behind it
pub record StandsBehind (l : Loaded) (h : Here) (b : Block) (frame : ℕ) (e : Places) (k : List Frame) : Type 0 where
  pub slots : Holds h.terms h.slots b e
  pub leaves : Bool
  pub frames : GoesOn (tables_in l) (steps_of l) h b leaves frame k

-- the values that are collected at a level, of those that are collected at all
abbrev pub values_between : List Tree → ℕ → ℕ → List Tree
values_between collected from to = take (to - from) (drop from collected)

-- a call whose rules are tried: its predicate, its block, the rules from one on
pub record IsCall (l : Loaded) (h : Here) (base p r : ℕ) (called : Called) (cs : List ClauseTree) : Type 0 where
  pub pred : PredTree
  pub predicate : Predicate
  pub is_pred : slice_get l.preds p ≡ Some pred
  pub is_predicate : slice_get l.code.predicates.items p ≡ Some predicate
  pub function : called.function ≡ pred.function
  pub args : HoldsArguments h.terms h.slots base pred.arity called.args
  pub from : predicate.first ≤ r
  pub rules : cs ≡ drop (r - predicate.first) pred.clauses

-- what is kept of a call: its arguments, and the frames behind it, of which none goes on with its block
pub record CallStands (l : Loaded) (h : Here) (base frame p r : ℕ) (called : Called) (cs : List ClauseTree) (k : List Frame) : Type 0 where
  pub call : IsCall l h base p r called cs
  pub frames : GoesOn (tables_in l) (steps_of l) h (record { base = base; first = call.pred.arity; count = 0 }) true frame k
  pub returns : called.function ≡ false → k ≢ []
  pub alone : called.function ≡ true → k ≡ []

-- a goal stands at a place, where it says that it is last only where nothing behind it goes on with its block
pub record GoalStands (l : Loaded) (h : Here) (base place frame : ℕ) (g : GoalTree) (e : Places) (k : List Frame) : Type 0 where
  pub last : Bool
  pub goal : IsHere (tables_in l) (steps_of l) (block_at l place base) place g last
  pub behind : StandsBehind l h (block_at l place base) frame e k
  pub leaves : LeftBehind None last behind.leaves k

-- so many alternatives were tried, and this is the last of them
abbrev pub IsTriedLast : List Alternative → ℕ → Option Alternative → Type 0
IsTriedLast all zero a = a ≡ None
IsTriedLast all (suc k) a = (a ≢ None) × (slice_get all k ≡ a)

-- the alternatives that a variable has in a state, those that follow the last one that was tried, of which there are some
pub record AreAlternatives (s : State) (it : Alternatives) (p : Pending) (alts : List Alternative) : Type 0 where
  pub variable : it.variable ≡ p.variable
  pub domain : domain_of s p.variable ≡ Some p.domain
  pub tried : ℕ
  pub last : IsTriedLast (alternatives_of (value_word it.word) p.domain) tried (option_map alternative_of it.after)
  pub left : alts ≡ drop tried (alternatives_of (value_word it.word) p.domain)
  pub some : alts ≢ []

-- What an entry stands for, by its kind and what it comes back to. Of the values that are collected, those from `from` to
-- before `to` are the entry's. That of a function's call begins where the call's arguments do, behind the caller's block.
pub data KindIs (l : Loaded) (collected : List Tree) (h : Here) (s : State) (base frame slots from to : ℕ) : Kind → EntryData → Type 0 where
  rules_kind : {p r : ℕ} {called : Called} {cs : List ClauseTree} {k : List Frame} →
      (stands : CallStands l h base frame p r called cs k) → slots ≤ base + stands.call.pred.arity → from ≡ to →
      KindIs l collected h s base frame slots from to (Kind.Rules p r) (choice (rules_left called cs) (record { slots = []; state = s; frames = k }))
  facts_kind : {p r : ℕ} {ts : Trees} {cs : List ClauseTree} {k : List Frame} →
      (stands : CallStands l h base frame p r (record { function = false; args = ts }) cs k) → slots ≤ base + stands.call.pred.arity → from ≡ to →
      KindIs l collected h s base frame slots from to (Kind.Facts p r) (choice (facts_left ts cs) (record { slots = []; state = s; frames = k }))
  branches_kind : {place n : ℕ} {b : Block} {g : GoalTree} {gs : GoalTrees} {last : Bool} {e : Places} {k : List Frame} → (behind : StandsBehind l h b frame e k) →
      b.base ≡ base → AreBranches (tables_in l) (steps_of l) b place (goal g gs) last → LeftBehind None last behind.leaves k → count_goals (goal g gs) ≡ n → from ≡ to →
      KindIs l collected h s base frame slots from to (Kind.Branches place n) (choice (branches_left (goal g gs)) (record { slots = e; state = s; frames = k }))
  alternatives_kind : {place : ℕ} {it : Alternatives} {name : List ℕ} {args : List Tree} {p : Pending} {alts : List Alternative} {e : Places} {k : List Frame} →
      GoalStands l h base place frame (GoalTree.call name args) e k → AreAlternatives s it p alts → from ≡ to →
      KindIs l collected h s base frame slots from to (Kind.Alternatives place it) (choice (alternatives_left name args p alts) (record { slots = e; state = s; frames = k }))
  once_kind : {place : ℕ} {g : GoalTree} {e : Places} {k : List Frame} → GoalStands l h base place frame (once g) e k → from ≡ to →
      KindIs l collected h s base frame slots from to (Kind.Strict (Strict.Once place)) (strict once_level (record { slots = e; state = s; frames = k }))
  not_kind : {place : ℕ} {g : GoalTree} {e : Places} {k : List Frame} → GoalStands l h base place frame (not g) e k → from ≡ to →
      KindIs l collected h s base frame slots from to (Kind.Strict (Strict.Not place)) (strict not_level (record { slots = e; state = s; frames = k }))
  if_kind : {place : ℕ} {test g other : GoalTree} {e : Places} {k : List Frame} → GoalStands l h base place frame (if_else test g other) e k → from ≡ to →
      KindIs l collected h s base frame slots from to (Kind.Strict (Strict.If place)) (strict (if_level g other) (record { slots = e; state = s; frames = k }))
  guard_kind : {p r : ℕ} {called : Called} {c : ClauseTree} {cs : List ClauseTree} {k : List Frame} →
      (stands : CallStands l h base frame p r called (c ∷ cs) k) → slots ≤ base + stands.call.pred.arity → from ≡ to →
      KindIs l collected h s base frame slots from to (Kind.Strict (Strict.Guard p r)) (strict (guard_level called c cs) (record { slots = []; state = s; frames = k }))
  apply_kind : {place caller into : ℕ} {name : List ℕ} {args : List Tree} {ts : Trees} {e : Places} {k : List Frame} →
      GoalStands l h caller place frame (apply name args into) e k → IsNotBuiltIn true name (length args) →
      HoldsArguments h.terms h.slots base (length args) ts → block_end (block_at l place caller) ≤ base → from ≡ to →
      KindIs l collected h s base frame slots from to (Kind.Strict (Strict.Apply place caller)) (strict (value_level (comp name ts) into) (record { slots = e; state = s; frames = k }))
  collect_kind : {place value into : ℕ} {g : GoalTree} {e : Places} {k : List Frame} → GoalStands l h base place frame (collect g value into) e k →
      from ≤ to → to ≤ length collected →
      KindIs l collected h s base frame slots from to (Kind.Strict (Strict.Collect place from)) (strict (list_level value into (values_between collected from to)) (record { slots = e; state = s; frames = k }))
  count_kind : {place into n : ℕ} {g : GoalTree} {e : Places} {k : List Frame} → GoalStands l h base place frame (count g into) e k → from ≡ to →
      KindIs l collected h s base frame slots from to (Kind.Strict (Strict.Count place n)) (strict (number_level into n) (record { slots = e; state = s; frames = k }))
  search_kind : {it : Site} {name : List ℕ} {args : List Tree} {x : Search} {f : Option Found} {e : Places} {k : List Frame} →
      GoalStands l h it.caller it.place frame (GoalTree.call name args) e k → IsHere (tables_in l) (steps_of l) (round_block base) it.goal round_goal true →
      HoldsArguments h.terms h.slots base 3 (search_held x) → block_end (block_at l it.place it.caller) ≤ base → it.greatest ≡ x.objective.greatest → from ≡ to →
      KindIs l collected h s base frame slots from to (Kind.Strict (Strict.Search it)) (strict (search_level x (is_not it.is_settling) f) (record { slots = e; state = s; frames = k }))
  catch_kind : {place : ℕ} {g handler : GoalTree} {wanted : Tree} {e : Places} {k : List Frame} → GoalStands l h base place frame (catch g wanted handler) e k →
      evaluated wanted e s ≡ record { tree = (evaluated wanted e s).tree; slots = e; state = s } → from ≡ to →
      KindIs l collected h s base frame slots from to (Kind.Catch place) (catch_level (evaluated wanted e s).tree handler (record { slots = e; state = s; frames = k }))
  exit_kind : from ≡ to → KindIs l collected h s base frame slots from to Kind.Exit left

-- what is kept beside the mark of a search is the answer that was found last, and how many rounds may follow
abbrev pub IsFoundBeside : Option Beside → Option Found → Type 0
IsFoundBeside None None = ⊤
IsFoundBeside None (Some f) = ⊥
IsFoundBeside (Some b) None = ⊥
IsFoundBeside (Some b) (Some f) = (b.state ≡ f.state) × (b.number ≡ f.left) × Rests f.state

-- the mark of a search keeps that, and it can be brought back
abbrev pub KeepsFound : {M : Type 0} → StoreView M → M → EntryData → Type 0
KeepsFound v m (choice c b) = ⊤
KeepsFound v m (strict once_level b) = ⊤
KeepsFound v m (strict not_level b) = ⊤
KeepsFound v m (strict (if_level g other) b) = ⊤
KeepsFound v m (strict (guard_level called c cs) b) = ⊤
KeepsFound v m (strict (value_level called into) b) = ⊤
KeepsFound v m (strict (list_level slot into got) b) = ⊤
KeepsFound v m (strict (number_level into n) b) = ⊤
KeepsFound v m (strict (search_level x labelled f) b) = IsFoundBeside (v.beside m) f × StandsBeside v m
KeepsFound v m (catch_level ball handler b) = ⊤
KeepsFound v m left = ⊤

-- an entry was made at or behind the one below it
abbrev pub IsAbove : {M : Type 0} → World M → Option (Entry M) → Entry M → Type 0
IsAbove w None x = ⊤
IsAbove w (Some y) x = IsOlder y.back.blocks x.back.blocks × (y.back.frames ≤ x.back.frames) × (w.order y.mark ≤ w.order x.mark)

-- an entry, above those of a stack
pub record EntryIs {M : Type 0} (w : World M) (es : List EntryData) (below : Option (Entry M)) (from to : ℕ) (x : Entry M) (y : EntryData) : Type 0 where
  pub good : IsGood w.store x.mark
  pub state : Rests (w.store.at_mark x.mark).state
  pub tables : Extend w.loaded.terms (w.store.at_mark x.mark).terms
  pub level : x.back.level ≡ open_level zero es
  pub kept : IsKept w.arenas.blocks x.back.blocks
  pub frames : x.back.frames ≤ length w.arenas.frames
  pub agrees : Agrees w x.back.level (back_here w x)
  pub kind : KindIs w.loaded w.arenas.collected (back_here w x) (w.store.at_mark x.mark).state x.back.base x.back.frame x.back.blocks.slots from to x.back.kind y
  pub older : IsAbove w below x
  pub found : KeepsFound w.store x.mark y

-- the stack of the first so many entries, with the number of values that were collected below
pub data StackIs {M : Type 0} (w : World M) : ℕ → ℕ → List EntryData → Type 0 where
  no_entries : StackIs w 0 0 []
  entry_above : {to : ℕ} (n from : ℕ) (es : List EntryData) (x : Entry M) (y : EntryData) → slice_get (entries_of w) n ≡ Some x →
      EntryIs w es (entry_at (entries_of w) n) from to x y → StackIs w n from es → StackIs w (suc n) to (y ∷ es)

-- goals that run
pub record GoingIs {M : Type 0} (w : World M) (p : Point) (gs : GoalTrees) (e : Places) (k : List Frame) : Type 0 where
  pub block : Block
  pub base : block.base ≡ p.base
  pub value : Option Tree
  pub last : Bool
  pub rest : List Frame
  pub goals : AreHere (tables_in w.loaded) (steps_of w.loaded) block p.place p.count gs value last
  pub behind : StandsBehind w.loaded (now_here w) block p.frame e rest
  pub leaves : LeftBehind value last behind.leaves rest
  pub frames : k ≡ valued value rest
  pub agrees : Agrees w w.arenas.level (now_here w)

-- What runs. A point whose goals are next also stands for a state that is settled first, where nothing is left to settle; else what is due is noted with the point.
pub data NowIs {M : Type 0} (w : World M) : Now → NowData → Type 0 where
  going_now : {p : Point} {gs : GoalTrees} {e : Places} {k : List Frame} → GoingIs w p gs e k → NowIs w (Now.Going p) (going gs e w.store.now.state k)
  settling_now : {p : Point} {before : State} {gs : GoalTrees} {e : Places} {k : List Frame} → GoingIs w p gs e k → Rests w.store.now.state → settlement before w.store.now.state ≡ record { load = 0; left = Some w.store.now.state } →
      NowIs w (Now.Going p) (settling before w.store.now.state gs e k)
  due_now : {it : Box Settling Global} {before : State} {gs : GoalTrees} {e : Places} {k : List Frame} → GoingIs w it.value.point gs e k → LeftBy before w.store.now.state → IsDueFor before w.store.now.state it.value.due →
      NowIs w (Now.Settling it) (settling before w.store.now.state gs e k)
  telling_now : {told : Box Telling Global} {gs : GoalTrees} {e : Places} {k : List Frame} → GoingIs w told.value.point gs e k → NowIs w (Now.Telling told) (telling told.value.text gs e w.store.now.state k)
  failing_now : NowIs w Now.Failing failed
  raising_now : {ball : Tree} → NowIs w (Now.Raising ball) (raising ball)

-- a run's entries stand for a stack, whatever the state is that it has now
pub record StackLies {M : Type 0} (w : World M) (es : List EntryData) : Type 0 where
  pub code : IsCodeOf w.loaded.code (tables_in w.loaded) w.store.names w.loaded.preds
  pub tables : Extend w.loaded.terms w.store.now.terms
  pub level : w.arenas.level ≡ open_level zero es
  pub kept : w.arenas.blocks.kept ≡ slots_kept_by (newest (entries_of w))
  pub stack : StackIs w (length (entries_of w)) (length w.arenas.collected) es

-- the same of a run whose state is one from which goals begin
pub record StackStands {M : Type 0} (w : World M) (es : List EntryData) : Type 0 where
  pub code : IsCodeOf w.loaded.code (tables_in w.loaded) w.store.names w.loaded.preds
  pub state : Rests w.store.now.state
  pub tables : Extend w.loaded.terms w.store.now.terms
  pub level : w.arenas.level ≡ open_level zero es
  pub kept : w.arenas.blocks.kept ≡ slots_kept_by (newest (entries_of w))
  pub stack : StackIs w (length (entries_of w)) (length w.arenas.collected) es

-- The stack below what runs. Where that goes on from an entry alone, or settles first, nothing is asked of the present state: a unification that
-- failed may have bound variables.
abbrev pub StackBelow : {M : Type 0} → World M → NowData → List EntryData → Type 0
StackBelow w failed es = StackLies w es
StackBelow w (raising ball) es = StackLies w es
StackBelow w (going gs e s k) es = StackStands w es
StackBelow w (settling before s gs e k) es = StackLies w es
StackBelow w (telling text gs e s k) es = StackStands w es

-- a run stands for a configuration
pub record Stands {M : Type 0} (w : World M) (now : Now) (c : Config) : Type 0 where
  pub entries : StackBelow w c.now c.stack
  pub runs : NowIs w now c.now

-- the same of goals that run at a point, whatever it is that is noted to come next
abbrev pub StandsGoing : {M : Type 0} → World M → Point → GoalTrees → Places → List Frame → List EntryData → Type 0
StandsGoing w p gs e k es = Stands w (Now.Going p) (config (going gs e w.store.now.state k) es)
