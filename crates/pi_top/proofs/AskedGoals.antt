-- A program of which goals are asked, and a goal that is asked of it, once it was lowered.
use Rattle.std.proofs.Common.{◌≡◌, ℕ, Bool, true, false, if◌then◌else◌, List, Option, None, Some, sym, ap, ◌∙◌, refl}
use Rattle.pi_core.specs.CoreTree.{PredTree, QueryTree}
use Rattle.pi_lex.specs.Kinds.{kinds}
use Rattle.pi_syntax.specs.ExpTree.{ExpTree}
use Rattle.pi_syntax.specs.ProgramTree.{ProgramTree}
use Rattle.pi_rewrite_laws.specs.Within as loops
use Rattle.pi_rewrite_sound.specs.Within as within
use Rattle.pi_rewrite_sound.specs.Built.{unbuilt_part, unbuilt_goal, is_built_goal}
use Rattle.pi_rewrite_sound.proofs.FaultlessGoals.{faultless-goals-are-asked}
use Rattle.pi_rewrite_sound.proofs.FaultlessPrograms.{faultless-programs-are-within}
use Rattle.pi_rewrite.specs.Laws.{IsLoweredProgram, IsLowered}
use Rattle.pi_top.specs.Asking.{IsUnready, RefusesOf}
use Rattle.pi_top.specs.FaultLines.{not_built_line, of_program, of_goal}
use Rattle.pi_top.specs.Judged.{IsProgramText, IsGoalText}
use Rattle.pi_top.specs.AskingCode.{MayBeAsked, IsReadied, IsAskedOf}

is-built : (b : Bool) → ◌≡◌ {A = Option ℕ} None (if b then None else Some 1) → b ≡ true
is-built true is = refl
is-built false is = absurd (cc)

not-built : (b : Bool) (number : ℕ) → Some number ≡ (if b then None else Some 1) → (b ≡ false) × (number ≡ 1)
not-built true number is = absurd (cc)
not-built false number is = (refl, cc)

pub asked-goal : (text : List ℕ) (p : ProgramTree) (e : ExpTree) (core : List PredTree) (q : QueryTree) → MayBeAsked p core → IsGoalText text p e → None ≡ unbuilt_goal e →
    ((program : ProgramTree) → within.IsWithin program → unbuilt_part program ≡ None → loops.IsAsked program e → IsLoweredProgram program core → IsLowered program e core q) → IsAskedOf p core text q
asked-goal text p e core q may is whole means =
    let built : is_built_goal e ≡ true = is-built (is_built_goal e) whole in
    let program : within.IsWithin p = faultless-programs-are-within (kinds may.is_ready.is_program.tokens) p may.is_ready.is_program.holds may.is_ready.built in
    let goal : loops.IsAsked p e = faultless-goals-are-asked (kinds is.tokens) p e is.holds built in
    record { goal = e; asks = record { is_goal = is; built = built }; lowered = means p program may.is_ready.built goal may.lowered }

pub refused-goal : (text : List ℕ) (p : ProgramTree) (e : ExpTree) (number : ℕ) (line whole : List ℕ) → IsGoalText text p e → Some number ≡ unbuilt_goal e → line ≡ not_built_line number → whole ≡ of_goal line →
    RefusesOf p text whole
refused-goal text p e number line whole is part its of =
    let found : (is_built_goal e ≡ false) × (number ≡ 1) = not-built (is_built_goal e) number part in
    RefusesOf.not_built e is found.0 (of ∙ ap of_goal (its ∙ ap not_built_line found.1))

-- ---- the program

pub readied-program : (text : List ℕ) (p : ProgramTree) (core : List PredTree) → IsProgramText text p → None ≡ unbuilt_part p → (within.IsWithin p → IsLoweredProgram p core) → IsReadied text p core
readied-program text p core is whole lowered =
    record { is_ready = record { is_program = is; built = sym whole }; lowered = lowered (faultless-programs-are-within (kinds is.tokens) p is.holds (sym whole)) }

pub unready-program : (text : List ℕ) (p : ProgramTree) (number : ℕ) (line whole : List ℕ) → IsProgramText text p → Some number ≡ unbuilt_part p → line ≡ not_built_line number → whole ≡ of_program line →
    IsUnready text whole
unready-program text p number line whole is part its of = IsUnready.not_built p number is (sym part) (of ∙ ap of_program its)

pub may-be-asked : (text : List ℕ) (p : ProgramTree) (core : List PredTree) → IsReadied text p core → MayBeAsked p core
may-be-asked text p core is = record { text = text; is_ready = is.is_ready; lowered = is.lowered }
