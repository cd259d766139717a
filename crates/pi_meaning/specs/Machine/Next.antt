-- What a call of `next` does: what remained before it begins with the Ticks that it counts; then comes its answer or its
-- end, and the rest is what remains after it.
use Rattle.std.specs.Prelude.{◌≡◌, ℕ, List, [], ◌∷◌, ◌++◌, replicate}
use Rattle.pi_core.specs.CoreTree.{PredTree}
use Rattle.pi_traces.specs.Trace.{Done, Raise, Tick, Out, Emitted, noted, answered}
use Rattle.pi_meaning.specs.Shared.View.{View}
use Rattle.pi_meaning.specs.CoreMeaning.Run.{Solution}
use Rattle.pi_meaning.specs.Shared.Told.{answer_of}
use Rattle.pi_core.specs.declared.core_program.NameSlot.{NameSlot}
use Rattle.pi_core.specs.declared.answer.Answer.{Answer}
use Rattle.pi_meaning.specs.declared.happening.Happening.{Happening}
use Rattle.pi_meaning.specs.Machine.Configuration.{Config}
use Rattle.pi_meaning.specs.Machine.Leads.{Leads, IsAtTick, IsAtEnd}

-- it is told whole: the named values, and the domains of their variables
abbrev pub Tells : List NameSlot → Solution → Answer → Type 0
Tells names x a = a ≡ answer_of names x

abbrev pub some_ticks : ℕ → List (Emitted Solution)
some_ticks k = replicate k (noted Tick)

-- A call that counts k Ticks. There is no planner so far. Where memory is wanted, its Ticks come next all the
-- same, and no more is said.
abbrev pub NextIs : View → List PredTree → List NameSlot → ℕ → Happening → Config → Config → Type 0
NextIs v preds names k (Happening.Answer a) before after = (x : Solution) × Tells names x a × Leads v preds names (some_ticks k ++ answered x ∷ []) before after
NextIs v preds names k Happening.Done before after = Leads v preds names (some_ticks k) before after × IsAtEnd v preds names Done after
NextIs v preds names k (Happening.Raised ball) before after = Leads v preds names (some_ticks k) before after × IsAtEnd v preds names (Raise ball) after
NextIs v preds names k Happening.StepsSpent before after = Leads v preds names (some_ticks k) before after × IsAtTick v preds names after
NextIs v preds names k Happening.WorkSpent before after = Leads v preds names (some_ticks k) before after × IsAtTick v preds names after
NextIs v preds names k (Happening.Out text) before after = Leads v preds names (some_ticks k ++ noted (Out text) ∷ []) before after
NextIs v preds names k (Happening.NeedPlan c) before after = ⊥
NextIs v preds names k Happening.Memory before after = Leads v preds names (some_ticks k) before after
