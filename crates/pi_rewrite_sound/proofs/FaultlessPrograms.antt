-- A program without a fault, all of whose parts are built, is within what is lowered.
use Rattle.std.proofs.Common.{◌≡◌, ℕ, ◌+◌, Bool, true, false, List, [], ◌∷◌, ◌++◌, map, refl, ap, sym, subst}
use Rattle.std.specs.Prelude.{◌&&◌, Option, Some, None, All}
use Rattle.std.proofs.lemmas.Bool.{and_parts}
use Rattle.std.proofs.lemmas.List.Elements.{All-nil, All-cons, All-from_recursion, recursion_from_All}
use Rattle.pi_syntax.specs.ExpTree.{ExpTree}
use Rattle.pi_syntax.specs.ProgramTree.{RuleTree, FunctionTree, WrittenClause, rule, function, fact, PartTree, ProgramTree}
use Rattle.pi_syntax.specs.declared.program.Decl.{Decl}
use Rattle.pi_syntax.specs.declared.program.Mode.{Mode}
use Rattle.pi_meaning.specs.OverNames.WrittenRules.{head_arguments}
use Rattle.pi_meaning.specs.OverNames.Prelude.{prelude}
use Rattle.pi_prog_clauses.specs.Calls.{Named, calls_among, first_unknown}
use Rattle.pi_prog_clauses.specs.GoalVerdict.{defined_by_program}
use Rattle.pi_prog_clauses.specs.Places.{goal, expression, test, placed, placed_if, clause_placed}
use Rattle.pi_prog_clauses.specs.Verdict.{Unknown, JudgedClause, JudgedPart, refused, libraries, one_clause, judged, as_list, definition, all_defined, part_calls, unknown_or, first_unknown_in, decl_of, parts_of}
use Rattle.pi_rewrite_sound.specs.Built.{are_built_patterns, is_built_goal, is_built_value, is_built_goal_or_none, are_none, is_built_rule, is_built_function_rule, is_built_clause, is_built, is_built_part, unbuilt_from, unbuilt_part}
use Rattle.pi_rewrite_spec.specs.Forms.{Knows}
use Rattle.pi_rewrite_laws.specs.Within.{knows, IsGoalOrNone, IsRule, IsFunction, IsClause, IsPart}
use Rattle.pi_rewrite_sound.specs.Within.{IsWithin}
use Rattle.pi_rewrite_sound.specs.FaultlessLaws.{FaultlessProgramsAreWithin}
use Rattle.pi_rewrite_sound.proofs.KnownCalls.{goes-on, AreFine, nodes-apart, nodes-fine}
use Rattle.pi_rewrite_sound.proofs.BuiltTerms.{patterns-of}
use Rattle.pi_rewrite_sound.proofs.BuiltCalls.{Has}
use Rattle.pi_rewrite_sound.proofs.BuiltGoals.{value-of, goal-of}
use Rattle.pi_rewrite_sound.proofs.KnownNames.{program-has}
use Rattle.pi_rewrite_sound.proofs.PreludeParts.{prelude-parts}
use Rattle.pi_rewrite_sound.proofs.FreeHeads.{head-free}
use Rattle.pi_rewrite_sound.proofs.FaultlessParts.{IsGood, AreGood, IsIndexedWell, AreIndexedWell, IsFaultless, faultless}
use Rattle.pi_rewrite_sound.proofs.IndexedFacts.{modes-fit, program-indexed}
use Rattle.pi_rewrite_sound.proofs.AdjacentClauses.{program-together, program-apart}

-- ---- clauses

goal-or-none : (defined : List Named) (known : Knows) → Has defined known → (assigns : Bool) (o : Option ExpTree) → is_built_goal_or_none o ≡ true → AreFine defined (placed_if (goal assigns) o) → IsGoalOrNone known o
goal-or-none defined known has assigns None built fine = tt
goal-or-none defined known has assigns (Some e) built fine = goal-of defined known has assigns e built fine.0.0 fine.1

no-events : (es : List ExpTree) → are_none es ≡ true → es ≡ []
no-events [] h = refl
no-events (e ∷ es) h = absurd cc

rule-of : (defined : List Named) (known : Knows) → Has defined known → (r : RuleTree) → is_built_rule r ≡ true → AreFine defined (clause_placed (rule r)) → IsRule known r
rule-of defined known has r built fine =
    let events = and_parts (are_none r.events) (are_built_patterns (head_arguments r.head) && (is_built_goal_or_none r.cond && is_built_goal r.body)) built in
    let head = and_parts (are_built_patterns (head_arguments r.head)) (is_built_goal_or_none r.cond && is_built_goal r.body) events.1 in
    let goals = and_parts (is_built_goal_or_none r.cond) (is_built_goal r.body) head.1 in
    let parts = nodes-apart defined (placed_if test r.cond) (placed (goal true) r.body) fine in
    record {
      head = patterns-of (head_arguments r.head) head.0;
      cond = goal-or-none defined known has false r.cond goals.0 parts.0;
      events = no-events r.events events.0;
      body = goal-of defined known has true r.body goals.1 parts.1.0.0 parts.1.1;
    }

function-of : (defined : List Named) (known : Knows) → Has defined known → (f : FunctionTree) → is_built_function_rule f ≡ true → AreFine defined (clause_placed (function f)) → IsFunction known f
function-of defined known has f built fine =
    let head = and_parts (are_built_patterns (head_arguments f.head)) (is_built_goal_or_none f.cond && (is_built_goal_or_none f.body && is_built_value f.value)) built in
    let cond = and_parts (is_built_goal_or_none f.cond) (is_built_goal_or_none f.body && is_built_value f.value) head.1 in
    let body = and_parts (is_built_goal_or_none f.body) (is_built_value f.value) cond.1 in
    let parts = nodes-apart defined (placed expression f.value) (placed_if test f.cond ++ placed_if (goal true) f.body) fine in
    let goals = nodes-apart defined (placed_if test f.cond) (placed_if (goal true) f.body) parts.1 in
    record {
      head = patterns-of (head_arguments f.head) head.0;
      cond = goal-or-none defined known has false f.cond cond.0 goals.0;
      body = goal-or-none defined known has true f.body body.0 goals.1;
      value = value-of defined known has f.value body.1 parts.0;
    }

clause-of : (defined : List Named) (known : Knows) → Has defined known → (c : WrittenClause) → is_built_clause c ≡ true → IsGood defined c → AreFine defined (clause_placed c) → IsClause known (Some c)
clause-of defined known has (rule r) built good fine = (rule-of defined known has r built fine, head-free r.head good.head good.own)
clause-of defined known has (function f) built good fine = (function-of defined known has f built fine, head-free f.head good.head good.own)
clause-of defined known has (fact head) built good fine = (patterns-of (head_arguments head) built, head-free head good.head good.own)

-- ---- parts

clause-built : (modes : Option (List (List Mode))) (c : WrittenClause) → is_built (decl_of modes) (Some c) ≡ true → is_built_clause c ≡ true
clause-built None c built = built
clause-built (Some lists) c built = built

part-of : (defined : List Named) (known : Knows) → Has defined known → (before : List JudgedPart) (j : JudgedClause) → is_built (decl_of j.modes) (Some j.clause) ≡ true → IsGood defined j.clause → IsIndexedWell before j →
    first_unknown defined (calls_among (clause_placed j.clause)) ≡ None → IsPart known (record { decl = decl_of j.modes; clause = Some j.clause })
part-of defined known has before j built good well none = record {
  modes = modes-fit defined before j good well;
  clause = clause-of defined known has j.clause (clause-built j.modes j.clause built) good (nodes-fine defined (clause_placed j.clause) none good.placed);
}

none-behind : (o : Option Named) (number : ℕ) (later : Option Unknown) → unknown_or o number later ≡ None → (o ≡ None) × (later ≡ None)
none-behind None number later e = (refl, e)
none-behind (Some c) number later e = absurd cc

parts-within : (defined : List Named) (known : Knows) → Has defined known → (number count : ℕ) (before js : List JudgedPart) → AreGood defined js → AreIndexedWell before js → unbuilt_from number (parts_of js) ≡ None →
    first_unknown_in defined count js ≡ None → All (IsPart known) (parts_of js)
unfolding unbuilt_from
parts-within defined known has number count before [] good well built none = All-nil (IsPart known)
parts-within defined known has number count before (refused fault ∷ js) good well built none = absurd good
parts-within defined known has number count before (libraries names ∷ js) good well built none =
    All-cons (IsPart known) (record { decl = Decl.Import names; clause = None }) (parts_of js) (record { modes = tt; clause = tt })
    (parts-within defined known has (number + 1) (count + 1) (before ++ libraries names ∷ []) js good well built none)
parts-within defined known has number count before (one_clause j ∷ js) good well built none =
    let part : PartTree = record { decl = decl_of j.modes; clause = Some j.clause } in
    let built_here = goes-on (is_built_part part) (unbuilt_from (number + 1) (parts_of js)) number built in
    let known_here = none-behind (first_unknown defined (part_calls (one_clause j))) (count + 1) (first_unknown_in defined (count + 1) js) none in
    All-cons (IsPart known) part (parts_of js) (part-of defined known has before j built_here.0 good.0 well.0 known_here.0)
    (parts-within defined known has (number + 1) (count + 1) (before ++ one_clause j ∷ []) js good.1 well.1 built_here.1 known_here.1)

-- ---- the whole

parts-define : (js : List JudgedPart) → defined_by_program (parts_of js) ≡ all_defined js
parts-define [] = refl
parts-define (refused fault ∷ js) = parts-define js
parts-define (libraries names ∷ js) = parts-define js
parts-define (one_clause j ∷ js) = ap (λ ds. as_list (definition j.clause) ++ ds) (parts-define js)

within : (program : ProgramTree) (js : List JudgedPart) → IsFaultless program js → unbuilt_part program ≡ None → IsWithin program
within program js is built =
    let known : Knows = knows (prelude ++ parts_of js) in
    let has : Has (all_defined js) known = subst (λ ds. Has ds known) (parts-define js) (program-has (parts_of js)) in
    let own : All (IsPart known) (parts_of js) = parts-within (all_defined js) known has 1 0 [] js is.good is.indexed (subst (λ p. unbuilt_part p ≡ None) is.parts built) is.known in
    let judged_parts : IsWithin (parts_of js) = record {
      forms = record {
        parts = All-from_recursion (IsPart known) (prelude ++ parts_of js) (prelude-parts (parts_of js) (recursion_from_All (IsPart known) (parts_of js) own));
        together = program-together js is.good is.adjacent;
        indexed = program-indexed (all_defined js) js is.good is.indexed;
      };
      apart = program-apart js is.good;
    } in
    subst IsWithin (sym is.parts) judged_parts

pub faultless-programs-are-within : FaultlessProgramsAreWithin
faultless-programs-are-within tokens program has built = within program (map judged has.readings) (faultless tokens program has) built
