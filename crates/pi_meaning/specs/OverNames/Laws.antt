-- The laws of the meaning over names.
use Rattle.std.specs.Prelude.{◌≡◌, ℕ, ◌||◌, Bool, false, List, [], ◌∷◌, filter, None, is_some}
use Rattle.std.specs.Char.{encode_utf8}
use Rattle.std.specs.Str.{chars}
use Rattle.pi_terms.specs.Tree.{Tree, Trees}
use Rattle.pi_constraints.specs.Value.{Bindings}
use Rattle.pi_constraints.specs.State.{State}
use Rattle.pi_syntax.specs.ExpTree.{ExpTree, atom, str, list, call, ExpTrees, no_exps, exp}
use Rattle.pi_syntax.specs.ProgramTree.{ProgramTree}
use Rattle.pi_syntax.specs.Signature.{exp_count}
use Rattle.pi_effects.specs.BuiltIns.{is_predicate}
use Rattle.pi_traces.specs.Trace.{Trace, one, then}
use Rattle.pi_traces.specs.Depth.{DepthOnlyAdds, Cut, CutWithoutDeep}
use Rattle.pi_meaning.specs.Shared.View.{View}
use Rattle.pi_meaning.specs.Shared.Level.{Level, Applied}
use Rattle.pi_meaning.specs.Shared.Names.{is_later_predicate}
use Rattle.pi_meaning.specs.Shared.Given.{Setting, LaterOnlyAdds}
use Rattle.pi_meaning.specs.OverNames.Environment.{Environment, Valued}
use Rattle.pi_meaning.specs.OverNames.Place.{Place}
use Rattle.pi_meaning.specs.OverNames.WrittenRules.{heads, Defines}
use Rattle.pi_meaning.specs.OverNames.Telling.{Told}
use Rattle.pi_syntax.specs.Names.{kind_of}
use Rattle.pi_syntax.specs.Forms.{is_form}
use Rattle.pi_meaning.specs.OverNames.Texts.{Names}
use Rattle.pi_meaning.specs.OverNames.Stages.{LaterStages}
use Rattle.pi_meaning.specs.OverNames.Heads.{pattern_matched}
use Rattle.pi_meaning.specs.OverNames.Control.{Values, draining, applied_to, called_with}
use Rattle.pi_meaning.specs.OverNames.Forms.{form_of, readings}
use Rattle.pi_meaning.specs.OverNames.Goals.{values_of, goal_of}
use Rattle.pi_meaning.specs.OverNames.Kinds.{means_prelude}
use Rattle.pi_meaning.specs.OverNames.Run.{names_trace, IsNamesRun}

-- ---- names

-- a name with so many arguments is a form of control, is built in, or is a predicate of the prelude
unfoldable pub is_taken : List ℕ → ℕ → Bool
is_taken name k = is_some (form_of name k) || (is_predicate name k || (is_later_predicate name k || means_prelude name k))

-- no predicate of a program has such a name, as in no program without a fault
abbrev pub HeadsAreFree : ProgramTree → Type 0
HeadsAreFree program = (name : List ℕ) (k : ℕ) → Defines (heads program) name k → is_taken name k ≡ false

-- which are the names that the language builds in, and the forms that are no calls
abbrev pub OtherNamesAreFree : Type 0
OtherNamesAreFree = (name : List ℕ) (k : ℕ) → kind_of name k ≡ None → is_form name k ≡ false → is_taken name k ≡ false

-- ---- depths and runs

-- each depth adds to a goal's trace at the depth before, where more depth only adds to what later stages give
abbrev pub NamesDoMore : Type 0
NamesDoMore = (v : View) (later : LaterStages) → LaterOnlyAdds later.calls → (program : ProgramTree) (goal : ExpTree) → DepthOnlyAdds (names_trace v later program goal)

-- so all depths that reach to a cut give the same one, and there is a run where some depth does
abbrev pub NamesRunsAreOne : Type 0
NamesRunsAreOne = (v : View) (later : LaterStages) → LaterOnlyAdds later.calls → (program : ProgramTree) (goal : ExpTree) (n : ℕ) (c d : Cut Told) →
    IsNamesRun v later program goal n c → IsNamesRun v later program goal n d → c ≡ d

abbrev pub NamesRunsReach : Type 0
NamesRunsReach = (v : View) (later : LaterStages) (program : ProgramTree) (goal : ExpTree) (n depth : ℕ) → CutWithoutDeep n (names_trace v later program goal depth) →
    (c : Cut Told) × IsNamesRun v later program goal n c

-- ---- calls go by values

-- what arguments come to, without the names behind them
pub record ArgumentsGiven : Type 0 where
  pub trees : Trees
  pub state : State

abbrev pub given_by : Values → Level → Place → Trace ArgumentsGiven
given_by vs l p = then (vs l p) (λ all. one (record { trees = all.trees; state = all.state }))

abbrev pub states_of : Trace Place → Trace State
states_of t = then t (λ p. one p.state)

abbrev pub told_values_of : Trace Valued → Trace Applied
told_values_of t = then t (λ x. one (record { value = x.tree; state = x.state }))

-- A call of a predicate that is no form of control does by what its arguments come to: two calls of one name do the same, in whatever environments they stand and whatever stands before
-- them, where their arguments have the same notes, values and states.
abbrev pub CallsGoByValues : Type 0
CallsGoByValues = (set : Setting) (l : Level) (name : List ℕ) (vs ws : Values) (p q : Place) → given_by vs l p ≡ given_by ws l q →
    states_of (called_with set name vs l p) ≡ states_of (called_with set name ws l q)

-- and so does a call of a function, with its value
abbrev pub FunctionsGoByValues : Type 0
FunctionsGoByValues = (set : Setting) (l : Level) (name : List ℕ) (vs ws : Values) (p q : Place) → given_by vs l p ≡ given_by ws l q →
    told_values_of (applied_to set name vs l p) ≡ told_values_of (applied_to set name ws l q)

-- a goal of the text that is no form of control is such a call, behind its draining
abbrev pub GoalsAreCalls : Type 0
GoalsAreCalls = (set : Setting) (before : Names) (name : List ℕ) (es : ExpTrees) (l : Level) (p : Place) → form_of name (exp_count es) ≡ None →
    goal_of set before (call name es) l p ≡ draining (called_with set name (values_of set (readings name (exp_count es)) before es)) l p

-- ---- texts in heads

-- the one-character atoms of a text, as items of a list that is written
abbrev pub character_items : List ℕ → ExpTrees
character_items [] = no_exps
character_items (c ∷ cs) = exp (atom (encode_utf8 c)) (character_items cs)

-- a text as a pattern is the list pattern of these atoms
abbrev pub TextsMatchAsLists : Type 0
TextsMatchAsLists = (b : Bindings) (text : List ℕ) (t : Tree) (e : Environment) →
    pattern_matched b (str text) t e ≡ pattern_matched b (list (character_items (chars text))) t e

-- ---- programs

-- the parts that have a clause: all but an `import`
abbrev pub clausal : ProgramTree → ProgramTree
clausal parts = filter (λ p. is_some p.clause) parts

-- the other parts of a program count for nothing
abbrev pub ClausesCountAlone : Type 0
ClausesCountAlone = (v : View) (later : LaterStages) (program : ProgramTree) (goal : ExpTree) (d : ℕ) → names_trace v later program goal d ≡ names_trace v later (clausal program) goal d
