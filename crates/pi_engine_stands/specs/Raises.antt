-- What becomes of a run in which an exception was raised.
use Rattle.std.specs.Prelude.{◌≡◌, ℕ, zero, List, Option, Some, slice_get, ⊤}
use Rattle.pi_terms.specs.Tree.{Tree}
use Rattle.pi_terms.specs.Places.{Places}
use Rattle.pi_terms.specs.Copy.{copy, new_variables}
use Rattle.pi_constraints.specs.State.{next}
use Rattle.pi_constraints.specs.Unify.{unified}
use Rattle.pi_core.specs.GoalTree.{GoalTree, catch}
use Rattle.pi_constraints.specs.Evaluation.{evaluated, with_new_variables}
use Rattle.pi_engine_arenas.specs.declared.arenas.Back.{Back}
use Rattle.pi_engine_arenas.specs.declared.arenas.Kind.{Kind}
use Rattle.pi_engine_arenas.specs.declared.arenas.Strict.{Strict}
use Rattle.pi_engine_code.specs.declared.code.Step.{Step}
use Rattle.pi_engine_arenas.specs.declared.frames.Point.{Point}
use Rattle.pi_engine_arenas.specs.declared.run.Now.{Now}
use Rattle.pi_engine_arenas.specs.Arenas.{newest, between}
use Rattle.pi_engine_arenas.specs.declared.arenas.Entry.{Entry}
use Rattle.pi_meaning.specs.Machine.Configuration.{Frame, Entry as EntryData}
use Rattle.pi_meaning.specs.Machine.Step.{raise_step}
use Rattle.pi_meaning.specs.Machine.Shape.{IsBalanced}
use Rattle.pi_engine_stands.specs.Rests.{Rests}
use Rattle.pi_engine_stands.specs.Settling.{NextCaught}
use Rattle.pi_engine_stands.specs.Stands.{steps_of, entries_of, now_here, block_at, GoalStands, StackLies}
use Rattle.pi_constraints.specs.Store.{Extend}
use Rattle.pi_engine_stands.specs.Evaluates.{Writes}
use Rattle.pi_engine_stands.specs.Fails.{ComesTo}
use Rattle.pi_engine_stands.specs.Changes.{Change}

-- A step of a run: an exception is handed to the newest entry.
abbrev pub Raises : {M : Type 0} → Now → Change M → Type 0
Raises old made =
    (ball : Tree) (es : List EntryData) → old ≡ Now.Raising ball → StackLies made.before es → IsBalanced zero es → ComesTo made.after made.now (raise_step ball es)

-- the same where the newest entry comes back to this
abbrev pub RaisesFrom : {M : Type 0} → Back → Now → Change M → Type 0
RaisesFrom back old made = (x : Entry _) → newest (entries_of made.before) ≡ Some x → x.back ≡ back → Raises old made

-- entries that catch nothing, and pass nothing
abbrev pub IsDropped : Kind → Type 0
IsDropped (Kind.Rules p r) = ⊤
IsDropped (Kind.Facts p r) = ⊤
IsDropped (Kind.Branches place n) = ⊤
IsDropped (Kind.Alternatives place it) = ⊤
IsDropped (Kind.Strict s) = ⊤
IsDropped kind = ⊥

-- how many values were collected before an entry, where there are so many now: no entry but that of collecting has its own
abbrev pub collected_below : Kind → ℕ → ℕ
collected_below (Kind.Strict (Strict.Collect place first)) n = first
collected_below kind n = n

-- Whether a `catch`, whose entry is gone, catches the ball that was raised, and what is next then, where its handler is at a point: its term, which was evaluated
-- when it was entered, is unified with a copy of the ball.
abbrev pub TellsCaught : {M : Type 0} → Back → Step → Tree → Point → Option Now → Change M → Type 0
TellsCaught back s ball handler_at next_now made =
    (place : ℕ) (g handler : GoalTree) (wanted : Tree) (e : Places) (k : List Frame) → slice_get (steps_of made.before.loaded) place ≡ Some s →
    GoalStands made.before.loaded (now_here made.before) back.base place back.frame (catch g wanted handler) e k →
    evaluated wanted e made.before.store.now.state ≡ record { tree = (evaluated wanted e made.before.store.now.state).tree; slots = e; state = made.before.store.now.state } →
    Rests made.before.store.now.state → Extend made.before.loaded.terms made.before.store.now.terms →
    Writes (block_at made.before.loaded place back.base) (between made.before.store made.after.store made.before.arenas made.after.arenas) e made.after.store.now.state
    × NextCaught made.before.store.now.state (unified (with_new_variables (new_variables ball) made.before.store.now.state) (evaluated wanted e made.before.store.now.state).tree (copy (next made.before.store.now.state) ball))
    made.after.store.now.state handler_at next_now
