-- What stands in a turn keeps roots at each level, where calls by name do: so a walk asks no more of it than that it does the same.
use Rattle.std.proofs.Common.{ℕ, ◌+◌, List, length}
use Rattle.pi_syntax.specs.ProgramTree.{ProgramTree}
use Rattle.pi_core.specs.CoreTree.{PredTree}
use Rattle.pi_meaning.specs.CoreMeaning.Builtins.{Builtins}
use Rattle.pi_meaning.specs.OverNames.Stages.{RulesSetting}
use Rattle.pi_meaning.specs.OverNames.Control.{Goal}
use Rattle.pi_rewrite_spec.specs.Slots.{SlotNames}
use Rattle.pi_rewrite_spec.specs.Values.{SlotPattern}
use Rattle.pi_rewrite_spec.specs.Forms.{Knows}
use Rattle.pi_rewrite_spec.specs.Goals.{SlotGoals}
use Rattle.pi_rewrite_spec.specs.Loops.{Loop, loop_slots}
use Rattle.pi_rewrite_spec.specs.Iterators.{turn_slots}
use Rattle.pi_rewrite_spec.proofs.RunLemmas.{Alike, SameGoals}
use Rattle.pi_rewrite_laws.proofs.ElementLemmas.{turn_front, TurnSame}
use Rattle.pi_rewrite_laws.proofs.RootGoals.{NamesKeepRoots}
use Rattle.pi_rewrite_laws.proofs.RootUnify.{unifying-keeps-roots}
use Rattle.pi_rewrite_laws.proofs.RootRules.{runs-keep, level-keeps-roots}
use Rattle.pi_rewrite_laws.proofs.TurnLevels.{core_level, EachLevel}

pub turn-keeps : (known : Knows) (set : RulesSetting) (b : Builtins) → NamesKeepRoots b → (program : ProgramTree) (preds : List PredTree) (w : Loop) (p : SlotPattern) (body : Goal) (lb : SlotNames → SlotGoals) (most rank : ℕ) →
    EachLevel b preds set program most (λ l k. Alike known set.calls b l k × SameGoals b l k (length (turn_front p) + length (loop_slots w)) body lb) rank → EachLevel b preds set program most (TurnSame known set.calls b w p body lb) rank
turn-keeps known set b names program preds w p body lb most rank each d k up less = record {
  alike = (each d k up less).0;
  turn = (each d k up less).1;
  roots = λ slots s. runs-keep unifying-keeps-roots b names (lb (turn_slots w p)).goals (core_level b preds d k) (level-keeps-roots unifying-keeps-roots b names preds d k) slots s;
}
