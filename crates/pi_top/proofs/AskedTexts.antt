-- What is asked is within what is lowered, and lowered it is what is run.
use Rattle.std.proofs.Common.{◌≡◌, List, ℕ, None, true}
use Rattle.pi_core.specs.CoreTree.{PredTree, QueryTree}
use Rattle.pi_lex.specs.Kinds.{kinds}
use Rattle.pi_syntax.specs.ExpTree.{ExpTree}
use Rattle.pi_syntax.specs.ProgramTree.{ProgramTree}
use Rattle.pi_rewrite_laws.specs.Within as loops
use Rattle.pi_rewrite_sound.specs.Within as within
use Rattle.pi_rewrite_sound.specs.Built.{unbuilt_part, unbuilt_goal, is_built_goal}
use Rattle.pi_rewrite_sound.proofs.FaultlessGoals.{faultless-goals-are-asked}
use Rattle.pi_rewrite_sound.proofs.FaultlessPrograms.{faultless-programs-are-within}
use Rattle.pi_rewrite.specs.Laws.{IsLoweredProgram, IsLowered}
use Rattle.pi_top.specs.JudgedCode.{IsAsked}
use Rattle.pi_top.specs.Judged.{AreFaultless, Asks}
use Rattle.pi_top.proofs.UnbuiltLines.{unbuilt_line-none, unbuilt_line-none-parts}

-- two texts without a fault, all of which is built, ask what they are lowered to
pub is-asked : (text goal : List ℕ) (p : ProgramTree) (e : ExpTree) (core : List PredTree) (query : QueryTree) → AreFaultless text goal p e → None ≡ unbuilt_part p → None ≡ unbuilt_goal e →
    (within.IsWithin p → IsLoweredProgram p core)
    → ((program : ProgramTree) → within.IsWithin program → unbuilt_part program ≡ None → loops.IsAsked program e → IsLoweredProgram program core → IsLowered program e core query)
    → IsAsked text goal core query
is-asked text goal p e core query faultless part whole is means =
    let asks : Asks text goal p e = record { faultless = faultless; built = unbuilt_line-none p e part whole } in
    let built : (unbuilt_part p ≡ None) × (is_built_goal e ≡ true) = unbuilt_line-none-parts p e asks.built in
    let program : within.IsWithin p = faultless-programs-are-within (kinds faultless.is_program.tokens) p faultless.is_program.holds built.0 in
    let goal : loops.IsAsked p e = faultless-goals-are-asked (kinds faultless.is_goal.tokens) p e faultless.is_goal.holds built.1 in
    record { source = p; asked = e; asks = asks; lowered = means p program built.0 goal (is program) }
