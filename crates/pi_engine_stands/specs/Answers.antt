-- What a run does with an answer of its query: the named variables are told with their values.
use Rattle.std.specs.Prelude.{◌≡◌, ℕ, ◌≤◌, ◌<◌, Option, Some, None, List, [], ◌∷◌, Result, Ok, Err, ⊤}
use Rattle.pi_terms.specs.Tree.{Tree, cells, most_cells}
use Rattle.pi_terms.specs.Places.{Places}
use Rattle.pi_constraints.specs.State.{bindings}
use Rattle.pi_constraints.specs.Value.{value}
use Rattle.pi_core.specs.GoalTree.{no_goals}
use Rattle.pi_constraints.specs.Evaluation.{Evaluated}
use Rattle.pi_meaning.specs.Shared.View.{View}
use Rattle.pi_meaning.specs.CoreMeaning.Run.{Solution}
use Rattle.pi_core.specs.declared.core_program.NameSlot.{NameSlot}
use Rattle.pi_core.specs.declared.answer.NamedTerm.{NamedTerm}
use Rattle.pi_core.specs.declared.answer.Answer.{Answer}
use Rattle.pi_engine_arenas.specs.declared.frames.Point.{Point}
use Rattle.pi_engine_arenas.specs.declared.run.Now.{Now}
use Rattle.pi_engine_arenas.specs.Arenas.{Between}
use Rattle.pi_meaning.specs.Machine.Configuration.{Frame, Entry, config, going, failed, raising}
use Rattle.pi_meaning.specs.Machine.Step.{silently, answering, step}
use Rattle.pi_engine_stands.specs.Here.{Block}
use Rattle.pi_engine_stands.specs.Stands.{Stands, StandsGoing}
use Rattle.pi_engine_stands.specs.Evaluates.{Writes}
use Rattle.pi_engine_stands.specs.Makes.{SilentlyTo}
use Rattle.pi_meaning.specs.Machine.Next.{Tells}
use Rattle.pi_engine_stands.specs.Changes.{Change}

-- each name is that of one of so many slots
unfoldable pub AreNames : ℕ → List NameSlot → Type 0
AreNames n [] = ⊤
AreNames n (name ∷ names) = (name.slot < n) × AreNames n names

-- a name with its value, where it isn't too large
abbrev pub IsNamed : NameSlot → Tree → Option NamedTerm → Type 0
IsNamed n t (Some x) = (x ≡ record { name = n.name; value = t }) × (cells t ≤ most_cells)
IsNamed n t None = most_cells < cells t

-- a name's slot is evaluated, and its value is told
abbrev pub NamesValue : {M : Type 0} → Block → Between M → NameSlot → Evaluated → Option NamedTerm → Type 0
NamesValue b x n to found = Writes b x to.slots to.state × IsNamed n (value (bindings to.state) to.tree) found

-- what is told of an answer: its named variables, and the next answer is looked for; or the exception in its place
abbrev pub IsTold : {M : Type 0} → View → Change M → List NameSlot → Solution → List Entry → Result Answer Tree → Type 0
IsTold view made names x es (Ok a) =
    (step view made.before.loaded.preds names (config (going no_goals x.slots x.state []) es) ≡ answering x (config failed es)) × Tells names x a × Stands made.after Now.Failing (config failed es)
IsTold view made names x es (Err ball) = step view made.before.loaded.preds names (config (going no_goals x.slots x.state []) es) ≡ silently (config (raising ball) [])

-- A step of a run: no level is open, goals are done and no frame is left, and the query has an answer.
abbrev pub AnswersQuery : {M : Type 0} → List NameSlot → Result Answer Tree → Change M → Type 0
AnswersQuery names told made =
    (view : View) (p : Point) (e : Places) (k : List Frame) (es : List Entry) → StandsGoing made.before p no_goals e k es → p.count ≡ 0 → p.frame ≡ 0 → made.before.arenas.level ≡ 0 → AreNames made.before.loaded.query_slots names →
    (x : Solution) × SilentlyTo view made.before.loaded.preds names (config (going no_goals e made.before.store.now.state k) es) (config (going no_goals x.slots x.state []) es)
    × IsTold view made names x es told
