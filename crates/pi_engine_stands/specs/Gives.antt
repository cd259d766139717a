-- A function's value: the level of its call, which waits for it, has it as its answer.
use Rattle.std.specs.Prelude.{ℕ, List}
use Rattle.pi_meaning.specs.Shared.View.{View}
use Rattle.pi_core.specs.declared.core_program.NameSlot.{NameSlot}
use Rattle.pi_engine_arenas.specs.declared.arenas.Back.{Back}
use Rattle.pi_engine_code.specs.declared.code.Step.{Step}
use Rattle.pi_engine_arenas.specs.declared.frames.Point.{Point}
use Rattle.pi_meaning.specs.Machine.Configuration.{Config}
use Rattle.pi_engine_stands.specs.Goes.{AtGoal}
use Rattle.pi_engine_stands.specs.Makes.{SilentlyTo}
use Rattle.pi_engine_stands.specs.Stands.{Stands}
use Rattle.pi_engine_stands.specs.Changes.{Change}

-- what an entry comes back to, in the caller's block and without the slots of the call
abbrev pub without_call : Back → ℕ → Back
without_call back caller = record {
  frames = back.frames;
  blocks = record { slots = back.base; trail = back.blocks.trail };
  base = caller;
  frame = back.frame;
  level = back.level;
  kind = back.kind;
}

-- A step of a run: at a point whose step is a function's value, silent steps lead to where the
-- value is in the caller's slot.
abbrev pub GivesValue : {M : Type 0} → Point → Step → Change M → Type 0
GivesValue p s made =
    (view : View) (names : List NameSlot) (c : Config) → AtGoal made.before p s c → (d : Config) × SilentlyTo view made.before.loaded.preds names c d × Stands made.after made.now d
