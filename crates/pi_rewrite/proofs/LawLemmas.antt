-- What a program and a goal are lowered to keeps their meaning: by what the crates below say of it, that it is sound and that nothing that is built asks what later stages give.
use Rattle.std.proofs.Common.{◌≡◌, true, List, sym, subst}
use Rattle.std.specs.Prelude.{None}
use Rattle.pi_syntax.specs.ExpTree.{ExpTree}
use Rattle.pi_syntax.specs.ProgramTree.{ProgramTree}
use Rattle.pi_core.specs.CoreTree.{PredTree, QueryTree}
use Rattle.pi_rewrite_spec.specs.Programs.{core_program, core_query}
use Rattle.pi_rewrite_laws.specs.Within.{IsAsked}
use Rattle.pi_rewrite_laws.proofs.LawLemmas.{programs-are-kept, goals-are-kept}
use Rattle.pi_rewrite_sound.specs.Built.{unbuilt_part, is_built_goal}
use Rattle.pi_rewrite_sound.specs.Within.{IsWithin}
use Rattle.pi_rewrite_sound.proofs.RunLemmas.{levels-are-the-same, goals-are-the-same}
use Rattle.pi_rewrite_sound.proofs.ProgramLemmas.{programs-sound, programs-closed}
use Rattle.pi_rewrite_sound.proofs.PlainLemmas.{programs-plain}
use Rattle.pi_rewrite_sound.proofs.QueryLemmas.{queries-sound}
use Rattle.pi_rewrite_sites.specs.OwnNames.{own_name}
use Rattle.pi_rewrite.specs.Built.{program_prefix, query_prefix}
use Rattle.pi_rewrite.specs.Laws.{IsLoweredProgram, IsLowered, ProgramsHaveCorePrograms, GoalsHaveQueries}
use Rattle.pi_rewrite.proofs.OwnLemmas.{program-names, query-names, query-new}
use Rattle.pi_rewrite.proofs.ProgramLemmas.{program-kept}
use Rattle.pi_rewrite.proofs.QueryLemmas.{query-kept}

-- with the names that code makes
kept : (program : ProgramTree) → IsWithin program → unbuilt_part program ≡ None → IsLoweredProgram program (core_program (own_name (program_prefix program)) program)
kept program within built =
    program-kept programs-are-kept levels-are-the-same programs-sound programs-closed programs-plain program within built (own_name (program_prefix program)) (program-names program)

kept-query : (program : ProgramTree) (goal : ExpTree) (preds : List PredTree) → IsWithin program → unbuilt_part program ≡ None → IsAsked program goal → is_built_goal goal ≡ true → IsLoweredProgram program preds →
    IsLowered program goal preds (core_query (own_name (query_prefix preds)) goal)
kept-query program goal preds within built asked built_goal is =
    query-kept goals-are-kept goals-are-the-same queries-sound program goal preds within built asked built_goal is (own_name (query_prefix preds)) (query-names program preds is.defines) (query-new preds)

pub lowered-program : (program : ProgramTree) (preds : List PredTree) → preds ≡ core_program (own_name (program_prefix program)) program → unbuilt_part program ≡ None → IsWithin program → IsLoweredProgram program preds
lowered-program program preds is built within = subst (IsLoweredProgram program) (sym is) (kept program within built)

pub lowered-goal : (program : ProgramTree) (goal : ExpTree) (preds : List PredTree) (q : QueryTree) → q ≡ core_query (own_name (query_prefix preds)) goal → is_built_goal goal ≡ true → IsWithin program →
    unbuilt_part program ≡ None → IsAsked program goal → IsLoweredProgram program preds → IsLowered program goal preds q
lowered-goal program goal preds q is built_goal within built asked of = subst (IsLowered program goal preds) (sym is) (kept-query program goal preds within built asked built_goal of)

pub programs-have-core-programs : ProgramsHaveCorePrograms
programs-have-core-programs program within built = (core_program (own_name (program_prefix program)) program, kept program within built)

pub goals-have-queries : GoalsHaveQueries
goals-have-queries program goal preds within built asked built_goal of = (core_query (own_name (query_prefix preds)) goal, kept-query program goal preds within built asked built_goal of)
