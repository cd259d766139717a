-- The rules of a call that are tried: what a run has for them.
use Rattle.std.specs.Prelude.{◌≡◌, ℕ, suc, ◌+◌, ◌-◌, ◌≤◌, ◌==◌, ◌≢◌, Bool, true, false, List, [], ◌∷◌, Option, Some, None, length, take, drop, max, slice_get, slice_set, replicate, ⊤}
use Rattle.pi_terms.specs.Tree.{Trees}
use Rattle.pi_terms.specs.Places.{Places}
use Rattle.pi_constraints.specs.State.{State, IsState, bindings}
use Rattle.pi_engine_stands.specs.Rests.{Rests}
use Rattle.pi_constraints.specs.HeadMatch.{matched_all_in}
use Rattle.pi_constraints.specs.declared.store.Ref.{Ref}
use Rattle.pi_constraints.specs.declared.store.Cell.{Cell}
use Rattle.pi_constraints.specs.Store.{StoreView, Terms, Extend}
use Rattle.pi_core.specs.CoreTree.{ClauseTree, PredTree}
use Rattle.pi_engine_arenas.specs.declared.arenas.Kind.{Kind}
use Rattle.pi_engine_arenas.specs.declared.arenas.Strict.{Strict}
use Rattle.pi_engine_arenas.specs.declared.arenas.Back.{Back}
use Rattle.pi_engine_arenas.specs.declared.blocks.BlocksMark.{BlocksMark}
use Rattle.pi_engine_arenas.specs.Blocks.{BlocksView, IsKept, KeepsBlocks, brought_back}
use Rattle.pi_engine_code.specs.declared.code.Predicate.{Predicate}
use Rattle.pi_engine_code.specs.declared.code.Rule.{Rule}
use Rattle.pi_engine_arenas.specs.Arenas.{ArenasView, entry_at, newest, slots_kept_by, noted_by, with_kind, PushesEntry, DropsNewest, Between, keeping, Keeping}
use Rattle.pi_engine_arenas.specs.declared.arenas.Entry.{Entry}
use Rattle.pi_meaning.specs.Machine.Configuration.{Frame, Called, strict, guard_level, Entry as EntryData}
use Rattle.pi_meaning.specs.Machine.Shape.{open_level}
use Rattle.pi_engine_stands.specs.Here.{Block, block_end, Here, Holds, HoldsArguments, GoesOn}
use Rattle.pi_engine_stands.specs.Stands.{Loaded, World, tables_in, steps_of, entries_of, back_here, now_here, Agrees, agrees_from, IsCodeOf, IsRuleOf, clause_block, rule_block, CallStands, EntryIs, StackIs, Stands}
use Rattle.pi_meaning.specs.Machine.Step.{taken, guarding, try_rules, try_facts, try_clauses, back_to, trial}
use Rattle.pi_engine_stands.specs.Changes.{Change}
use Rattle.pi_engine_arenas.specs.declared.frames.Call.{Call}

-- the rules of a predicate from one on, with which a call goes on
pub record RulesLeft (l : Loaded) (p r : ℕ) (called : Called) (cs : List ClauseTree) : Type 0 where
  pub pred : PredTree
  pub predicate : Predicate
  pub is_pred : slice_get l.preds p ≡ Some pred
  pub is_predicate : slice_get l.code.predicates.items p ≡ Some predicate
  pub function : called.function ≡ pred.function
  pub from : predicate.first ≤ r
  pub rules : cs ≡ drop (r - predicate.first) pred.clauses

-- what is there of a call whose head may have matched before: of its arguments nothing is said but that they have their places
pub record CallGoes (l : Loaded) (h : Here) (base frame p r : ℕ) (called : Called) (cs : List ClauseTree) (k : List Frame) : Type 0 where
  pub call : RulesLeft l p r called cs
  pub fits : base + call.pred.arity ≤ length h.slots
  pub frames : GoesOn (tables_in l) (steps_of l) h (record { base = base; first = call.pred.arity; count = 0 }) true frame k
  pub returns : called.function ≡ false → k ≢ []
  pub alone : called.function ≡ true → k ≡ []

-- the newest entry is the call's own: it comes back to the call as it was made, in this state, whatever it waits for
pub record OwnEntry {M : Type 0} (w : World M) (p base frame from : ℕ) (called : Called) (cs : List ClauseTree) (s : State) (k : List Frame) (es : List EntryData) : Type 0 where
  pub below : ℕ
  pub entry : Entry M
  pub stood : EntryData
  pub all : length (entries_of w) ≡ suc below
  pub at : slice_get (entries_of w) below ≡ Some entry
  pub is : EntryIs w es (entry_at (entries_of w) below) (length w.arenas.collected) (length w.arenas.collected) entry stood
  pub begins : entry.back.base ≡ base
  pub goes_on : entry.back.frame ≡ frame
  pub state : (w.store.at_mark entry.mark).state ≡ s
  pub call : CallStands w.loaded (back_here w entry) base frame p from called cs k
  pub over : entry.back.blocks.slots ≤ base + call.call.pred.arity
  pub agrees : agrees_from w (Some entry) (now_here w)
  pub stack : StackIs w below (length w.arenas.collected) es

-- whether the newest entry is the call's; without one the call is as it was made
pub data HasEntry {M : Type 0} (w : World M) (p base frame from : ℕ) (called : Called) (cs : List ClauseTree) (s : State) (k : List Frame) (es : List EntryData) : Bool → Type 0 where
  no_entry : w.store.now.state ≡ s → CallStands w.loaded (now_here w) base frame p from called cs k → StackIs w (length (entries_of w)) (length w.arenas.collected) es → HasEntry w p base frame from called cs s k es false
  own_entry : OwnEntry w p base frame from called cs s k es → HasEntry w p base frame from called cs s k es true

-- A call whose rules from one on are left, above a stack. An entry for them comes back to this state and goes on with these
-- frames.
pub record CallIs {M : Type 0} (w : World M) (p base frame from : ℕ) (called : Called) (cs : List ClauseTree) (s : State) (k : List Frame) (es : List EntryData) (again : Bool) : Type 0 where
  pub code : IsCodeOf w.loaded.code (tables_in w.loaded) w.store.names w.loaded.preds
  pub state : Rests w.store.now.state
  pub tables : Extend w.loaded.terms w.store.now.terms
  pub level : w.arenas.level ≡ open_level 0 es
  pub kept : w.arenas.blocks.kept ≡ slots_kept_by (newest (entries_of w))
  pub call : CallGoes w.loaded (now_here w) base frame p from called cs k
  pub agrees : Agrees w w.arenas.level (now_here w)
  pub over : w.arenas.blocks.kept ≤ base + call.call.pred.arity
  pub inside : (x : Entry M) → entry_at (entries_of w) w.arenas.level ≡ Some x → x.back.base ≤ base + call.call.pred.arity
  pub entry : HasEntry w p base frame from called cs s k es again

-- the newest entry waits for something else
abbrev pub renamed : {M : Type 0} → ArenasView M → Entry M → Kind → ArenasView M
renamed a x kind =
    record { frames = a.frames; blocks = a.blocks; entries = slice_set a.entries (length a.entries - 1) (with_kind x kind); level = a.level; collected = a.collected }

-- the call is kept: in the newest entry where that is the call's, else in one more
pub data KeepsCall {M : Type 0} (order : M → ℕ) (x : Between M) (k : Keeping) : Bool → Type 0 where
  keeps_new : PushesEntry order x k → KeepsCall order x k false
  keeps_own : x.store_then ≡ x.store → ((y : Entry M) → newest x.arenas.entries ≡ Some y → x.arenas_then ≡ renamed x.arenas y k.kind) → KeepsCall order x k true

-- a rule of a call whose head matches: the rule stands in the tables, and the slots that its head fills in the call's block
pub record Applies {M : Type 0} (w : World M) (p base frame number : ℕ) (called : Called) (c : ClauseTree) (cs : List ClauseTree) (s : State) (k : List Frame) (es : List EntryData) (again : Bool) (predicate : Predicate) (rule : Rule) (e : Places) : Type 0 where
  pub is : CallIs w p base frame number called (c ∷ cs) s k es again
  pub is_predicate : is.call.call.predicate ≡ predicate
  pub is_rule : IsRuleOf w.loaded.code (tables_in w.loaded) w.store.names is.call.call.pred c rule
  pub found : slice_get w.loaded.code.rules.items number ≡ Some rule
  pub slots : Holds w.store.now.terms w.arenas.blocks.slots (clause_block base is.call.call.pred c) e

-- A step of a run: a rule that applies is taken, where the entry of the call, if it has one,
-- is the newest.
abbrev pub TakesRule : {M : Type 0} → Call → ℕ → Bool → Predicate → Rule → Change M → Type 0
TakesRule call number again predicate rule made =
    (called : Called) (c : ClauseTree) (cs : List ClauseTree) (s : State) (k : List Frame) (es : List EntryData) (e : Places) →
    Applies made.before call.predicate call.base call.frame number called c cs s k es again predicate rule e →
    Stands made.after made.now (taken (trial called c cs (back_to [] s k) es) e made.before.store.now.state)

-- the condition of such a rule is entered, by a call that comes back to the present state
abbrev pub EntersGuard : {M : Type 0} → Call → ℕ → Bool → Predicate → ℕ → Change M → Type 0
EntersGuard call number again predicate guard made =
    (rule : Rule) (called : Called) (c : ClauseTree) (cs : List ClauseTree) (s : State) (k : List Frame) (es : List EntryData) (e : Places) →
    Applies made.before call.predicate call.base call.frame number called c cs s k es again predicate rule e → rule.guard ≡ Some guard → s ≡ made.before.store.now.state →
    Stands made.after made.now (guarding c.guard (trial called c cs (back_to [] s k) es) e)

-- a level's entry stays, and what lies behind it is given back but for the first so many slots
pub record ReturnsTo {M : Type 0} (a b : ArenasView M) (number : ℕ) (back : Back) (slots : ℕ) : Type 0 where
  pub entries : b.entries ≡ take number a.entries
  pub kept : b.blocks.kept ≡ slots_kept_by (newest (take number a.entries))
  pub held : b.blocks.slots ≡ take (max slots b.blocks.kept) a.blocks.slots
  pub keeps : (m : BlocksMark) → IsKept a.blocks m → m.slots ≤ b.blocks.kept → m.trail ≤ noted_by (newest (take number a.entries)) → IsKept b.blocks m × (brought_back m b.blocks ≡ brought_back m a.blocks)
  pub frames : b.frames ≡ take back.frames a.frames
  pub level : b.level ≡ back.level
  pub collected : b.collected ≡ a.collected

-- The condition of a call's rule has an answer: its level, by the number of its entry, with the stack from it on down. What
-- was collected was collected below it.
pub record GuardAnswers {M : Type 0} (w : World M) (level : ℕ) (back : Back) (p number : ℕ) (called : Called) (c : ClauseTree) (cs : List ClauseTree) (s : State) (k : List Frame) (below : List EntryData) (e : Places) : Type 0 where
  pub code : IsCodeOf w.loaded.code (tables_in w.loaded) w.store.names w.loaded.preds
  pub state : Rests w.store.now.state
  pub tables : Extend w.loaded.terms w.store.now.terms
  pub is_level : level ≡ suc (length below)
  pub within : level ≤ length (entries_of w)
  pub stack : StackIs w (suc (length below)) (length w.arenas.collected) (strict (guard_level called c cs) (back_to [] s k) ∷ below)
  pub is_back : (x : Entry M) → entry_at (entries_of w) level ≡ Some x → x.back ≡ back
  pub is_kind : back.kind ≡ Kind.Strict (Strict.Guard p number)
  pub slots : Holds w.store.now.terms w.arenas.blocks.slots (rule_block w.loaded p number back.base) e
  pub agrees : Agrees w level (now_here w)
  pub inside : (z : Entry M) → entry_at (entries_of w) back.level ≡ Some z → z.back.base ≤ back.base

-- a rule whose condition has an answer is taken
abbrev pub TakesGuarded : {M : Type 0} → ℕ → Back → ℕ → ℕ → Change M → Type 0
TakesGuarded level back p number made =
    (called : Called) (c : ClauseTree) (cs : List ClauseTree) (s : State) (k : List Frame) (below : List EntryData) (e : Places) →
    GuardAnswers made.before level back p number called c cs s k below e → Stands made.after made.now (taken (trial called c cs (back_to [] s k) below) e made.before.store.now.state)

-- the arenas are the same but for the slots from one on
pub record KeepsBelow {M : Type 0} (a b : ArenasView M) (limit : ℕ) : Type 0 where
  pub long : limit ≤ length b.blocks.slots
  pub front : take limit b.blocks.slots ≡ take limit a.blocks.slots
  pub keeps : KeepsBlocks a.blocks b.blocks
  pub kept : b.blocks.kept ≡ a.blocks.kept
  pub frames : b.frames ≡ a.frames
  pub entries : b.entries ≡ a.entries
  pub level : b.level ≡ a.level
  pub collected : b.collected ≡ a.collected

-- blocks are the same but for the slots from one on
pub record KeepsFront (a b : BlocksView) (limit : ℕ) : Type 0 where
  pub long : limit ≤ length b.slots
  pub front : take limit b.slots ≡ take limit a.slots
  pub keeps : KeepsBlocks a b
  pub kept : b.kept ≡ a.kept

-- the slots of a rule behind the arguments of its call, which are the last slots
pub record RuleSlots {M : Type 0} (v : StoreView M) (a : BlocksView) (b : Block) (e : Places) : Type 0 where
  pub state : IsState v.now.state
  pub last : length a.slots ≡ block_end b
  pub over : a.kept ≤ b.base + b.first
  pub holds : Holds v.now.terms a.slots b e

-- whether a head matches, and that the block then holds its slots
abbrev pub TellsHead : Terms → List (Option Ref) → Block → Bool → Option Places → Type 0
TellsHead t slots b true (Some e) = Holds t slots b e
TellsHead t slots b true None = ⊥
TellsHead t slots b false (Some e) = ⊥
TellsHead t slots b false None = ⊤

-- the same of what was done to the blocks: none of the arguments is changed
pub record FillsHead (t : Terms) (a b : BlocksView) (block : Block) (found : Bool) (m : Option Places) : Type 0 where
  pub keeps : KeepsFront a b (block.base + block.first)
  pub tells : TellsHead t b.slots block found m

-- nor is the number of slots
pub record FillsSlots (t : Terms) (a b : BlocksView) (block : Block) (found : Bool) (m : Option Places) : Type 0 where
  pub as_many : length b.slots ≡ length a.slots
  pub head : FillsHead t a b block found m

-- whether a term that shows this at its root is the atom with this number
abbrev pub is_atom_cell : ℕ → Cell → Bool
is_atom_cell k (Cell.Var m) = false
is_atom_cell k (Cell.Int m) = false
is_atom_cell k (Cell.Atom j) = j == k
is_atom_cell k (Cell.Comp j count) = false

-- a call's arguments are there
abbrev pub HasArguments : {M : Type 0} → World M → ℕ → ℕ → Called → Type 0
HasArguments w base arity called = HoldsArguments w.store.now.terms w.arenas.blocks.slots base arity called.args

-- A step of a run: the head of the first rule that is left of a call is matched against the
-- call's arguments.
abbrev pub MatchesHead : {M : Type 0} → Call → ℕ → ℕ → Rule → Bool → Change M → Type 0
MatchesHead call number arity rule found made =
    (called : Called) (c : ClauseTree) (cs : List ClauseTree) (s : State) (k : List Frame) (es : List EntryData) (again : Bool) →
    (is : CallIs made.before call.predicate call.base call.frame number called (c ∷ cs) s k es again) → slice_get made.before.loaded.code.rules.items number ≡ Some rule → arity ≡ is.call.call.pred.arity → HasArguments made.before call.base is.call.call.pred.arity called →
    (made.after.store ≡ made.before.store) × KeepsBelow made.before.arenas made.after.arenas (call.base + is.call.call.pred.arity)
    × TellsHead made.before.store.now.terms made.after.arenas.blocks.slots (clause_block call.base is.call.call.pred c) found (matched_all_in (bindings made.before.store.now.state) c.head called.args (replicate c.slots None))

-- the rules of a call from one on are tried
abbrev pub TriesRules : {M : Type 0} → Call → ℕ → Bool → Change M → Type 0
TriesRules call from again made =
    (called : Called) (cs : List ClauseTree) (s : State) (k : List Frame) (es : List EntryData) → (is : CallIs made.before call.predicate call.base call.frame from called cs s k es again) →
    HasArguments made.before call.base is.call.call.pred.arity called → s ≡ made.before.store.now.state → Stands made.after made.now (try_rules called cs (back_to [] s k) es)

-- a rule whose head matches: its condition is entered, or its body where it has none
abbrev pub AppliesRule : {M : Type 0} → Call → ℕ → Bool → Predicate → Rule → Change M → Type 0
AppliesRule call number again predicate rule made =
    (called : Called) (c : ClauseTree) (cs : List ClauseTree) (s : State) (k : List Frame) (es : List EntryData) (e : Places) →
    Applies made.before call.predicate call.base call.frame number called c cs s k es again predicate rule e → s ≡ made.before.store.now.state →
    Stands made.after made.now (guarding c.guard (trial called c cs (back_to [] s k) es) e)

-- the facts of a call from one on are tried
abbrev pub TriesFacts : {M : Type 0} → Call → ℕ → Bool → Change M → Type 0
TriesFacts call from again made =
    (ts : Trees) (cs : List ClauseTree) (s : State) (k : List Frame) (es : List EntryData) → (is : CallIs made.before call.predicate call.base call.frame from (record { function = false; args = ts }) cs s k es again) →
    HasArguments made.before call.base is.call.call.pred.arity (record { function = false; args = ts }) → s ≡ made.before.store.now.state → Stands made.after made.now (try_facts ts cs (back_to [] s k) es)

-- the clauses of a call that was made just now
abbrev pub TriesClauses : {M : Type 0} → Call → ℕ → Change M → Type 0
TriesClauses call from made =
    (ts : Trees) (cs : List ClauseTree) (s : State) (k : List Frame) (es : List EntryData) → (is : CallIs made.before call.predicate call.base call.frame from (record { function = false; args = ts }) cs s k es false) →
    HasArguments made.before call.base is.call.call.pred.arity (record { function = false; args = ts }) → s ≡ made.before.store.now.state → Stands made.after made.now (try_clauses is.call.call.pred.index cs ts (back_to [] s k) es)

-- a call's entry waits for the fact with a number, or is gone where none is left
abbrev pub LeavesLater : {M : Type 0} → (M → ℕ) → Between M → Call → ℕ → Bool → Option ℕ → Type 0
LeavesLater order x call slots again (Some next) = KeepsCall order x (keeping slots call.base call.frame (Kind.Facts call.predicate next)) again
LeavesLater order x call slots again None = (x.store_then ≡ x.store) × (again ≡ true → DropsNewest x.arenas x.arenas_then) × (again ≡ false → x.arenas_then ≡ x.arenas)
