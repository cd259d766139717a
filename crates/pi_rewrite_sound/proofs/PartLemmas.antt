-- Where all parts of a program are built and call no term, so with its rules and its functions, and with those of the prelude.
use Rattle.std.specs.Prelude.{◌≡◌, ◌++◌, ℕ, ◌+◌, Bool, true, false, cond, if◌then◌else◌, List, [], ◌∷◌, filter, filter_map, Option, Some, None, ⊤, refl}
use Rattle.std.proofs.lemmas.Bool.{or_parts}
use Rattle.pi_syntax.specs.ProgramTree.{RuleTree, FunctionTree, WrittenClause, rule, function, fact, ProgramTree}
use Rattle.pi_syntax.specs.Signature.{exp_count}
use Rattle.pi_syntax.specs.declared.program.Decl.{Decl}
use Rattle.pi_effects.specs.Rows.{has_line}
use Rattle.pi_effects.specs.Integers.{integer_functions}
use Rattle.pi_effects.specs.Comparing.{comparing_tests}
use Rattle.pi_effects.specs.Kinds.{kind_tests}
use Rattle.pi_effects.specs.Collections.{collection_functions}
use Rattle.pi_effects.specs.Sorting.{sorting_functions}
use Rattle.pi_effects.specs.Indexing.{index_functions}
use Rattle.pi_effects.specs.Ranges.{range_functions}
use Rattle.pi_effects.specs.Naming.{naming_functions}
use Rattle.pi_effects.specs.Texts.{text_functions, writing_predicates}
use Rattle.pi_effects.specs.Making.{making_functions}
use Rattle.pi_settling.specs.DomainValues.{domain_functions}
use Rattle.pi_settling.specs.Goals.{constraint_goals}
use Rattle.pi_settling.specs.SolveCalls.{solve_calls}
use Rattle.pi_effects.specs.BuiltIns.{reading_functions, tests, other_predicates, is_predicate, is_function}
use Rattle.pi_syntax.specs.Names.{function_rows, predicate_rows, prelude_rows, kind_of}
use Rattle.pi_meaning.specs.OverNames.WrittenRules.{rules_of}
use Rattle.pi_meaning.specs.OverNames.Forms.{form_of}
use Rattle.pi_meaning.specs.OverNames.Rules.{function_in}
use Rattle.pi_meaning.specs.OverNames.Prelude.{prelude}
use Rattle.pi_rewrite_sound.specs.Built.{is_built_pattern, are_built_patterns, is_built_value, are_built_values, is_built_value_at, is_built_goal_at, is_built_goal, are_built_goals, is_built_rule, is_built_function_rule, is_built, is_built_part, unbuilt_from}
use Rattle.pi_rewrite_sound.specs.TermCalls.{calls_terms, some_call_terms, rule_calls_terms, function_calls_terms, clause_calls_terms, program_calls_terms}

-- each is built, and calls no term
unfoldable pub PartsAreBuilt : ProgramTree → Type 0
PartsAreBuilt [] = ⊤
PartsAreBuilt (p ∷ ps) = ((is_built_part p ≡ true) × (clause_calls_terms p.clause ≡ false)) × PartsAreBuilt ps

unfoldable pub RulesAreBuilt : List RuleTree → Type 0
RulesAreBuilt [] = ⊤
RulesAreBuilt (r ∷ rs) = ((is_built_rule r ≡ true) × (rule_calls_terms r ≡ false)) × RulesAreBuilt rs

unfoldable pub FunctionsAreBuilt : List FunctionTree → Type 0
FunctionsAreBuilt [] = ⊤
FunctionsAreBuilt (f ∷ fs) = ((is_built_function_rule f ≡ true) × (function_calls_terms f ≡ false)) × FunctionsAreBuilt fs

-- ---- parts

this-built : (b : Bool) (number : ℕ) (rest : Option ℕ) → (if b then rest else Some number) ≡ None → (b ≡ true) × (rest ≡ None)
this-built true number rest h = (refl, h)
this-built false number rest h = absurd cc

pub parts-built : (number : ℕ) (ps : ProgramTree) → unbuilt_from number ps ≡ None → program_calls_terms ps ≡ false → PartsAreBuilt ps
unfolding unbuilt_from program_calls_terms PartsAreBuilt
parts-built number [] h none = tt
parts-built number (p ∷ ps) h none =
    let this = this-built (is_built_part p) number (unbuilt_from (number + 1) ps) h in
    let free = or_parts (clause_calls_terms p.clause) (program_calls_terms ps) none in
    ((this.0, free.0), parts-built (number + 1) ps this.1 free.1)

pub both-built : (ps qs : ProgramTree) → PartsAreBuilt ps → PartsAreBuilt qs → PartsAreBuilt (ps ++ qs)
unfolding PartsAreBuilt
both-built [] qs h rest = rest
both-built (p ∷ ps) qs h rest = (h.0, both-built ps qs h.1 rest)

-- those of the prelude
pub prelude-built : PartsAreBuilt prelude
unfolding PartsAreBuilt calls_terms some_call_terms prelude exp_count form_of is_built_pattern are_built_patterns is_built_value are_built_values is_built_value_at is_built_goal_at is_built_goal are_built_goals
    is_predicate constraint_goals solve_calls is_function domain_functions has_line tests comparing_tests kind_tests writing_predicates other_predicates reading_functions making_functions integer_functions collection_functions sorting_functions index_functions
    range_functions naming_functions text_functions kind_of function_rows predicate_rows prelude_rows
prelude-built = ((refl, refl), ((refl, refl), ((refl, refl), ((refl, refl), ((refl, refl), ((refl, refl), ((refl, refl), ((refl, refl), ((refl, refl), ((refl, refl), tt))))))))))

-- ---- rules

part-rules : (d : Decl) (c : Option WrittenClause) (ps : ProgramTree) → is_built d c ≡ true → clause_calls_terms c ≡ false → RulesAreBuilt (rules_of ps) → RulesAreBuilt (rules_of (record { decl = d; clause = c } ∷ ps))
unfolding RulesAreBuilt
part-rules d None ps h none rest = rest
part-rules Decl.Plain (Some (rule r)) ps h none rest = ((h, none), rest)
part-rules (Decl.Import names) (Some (rule r)) ps h none rest = absurd cc
part-rules (Decl.Index lists) (Some (rule r)) ps h none rest = ((h, none), rest)
part-rules d (Some (function f)) ps h none rest = rest
part-rules d (Some (fact head)) ps h none rest = rest

pub rules-built : (ps : ProgramTree) → PartsAreBuilt ps → RulesAreBuilt (rules_of ps)
unfolding PartsAreBuilt RulesAreBuilt
rules-built [] h = tt
rules-built (p ∷ ps) h = part-rules p.decl p.clause ps h.0.0 h.0.1 (rules-built ps h.1)

kept-rule : (b : Bool) (r : RuleTree) (rs : List RuleTree) → (is_built_rule r ≡ true) × (rule_calls_terms r ≡ false) → RulesAreBuilt rs → RulesAreBuilt (cond b (r ∷ rs) rs)
unfolding RulesAreBuilt
kept-rule true r rs h rest = (h, rest)
kept-rule false r rs h rest = rest

pub kept-rules : (test : RuleTree → Bool) (rs : List RuleTree) → RulesAreBuilt rs → RulesAreBuilt (filter test rs)
unfolding RulesAreBuilt
kept-rules test [] h = tt
kept-rules test (r ∷ rs) h = kept-rule (test r) r (filter test rs) h.0 (kept-rules test rs h.1)

-- ---- functions

abbrev pub functions_of : ProgramTree → List FunctionTree
functions_of program = filter_map (λ p. function_in p.clause) program

part-functions : (d : Decl) (c : Option WrittenClause) (ps : ProgramTree) → is_built d c ≡ true → clause_calls_terms c ≡ false → FunctionsAreBuilt (functions_of ps) → FunctionsAreBuilt (functions_of (record { decl = d; clause = c } ∷ ps))
unfolding FunctionsAreBuilt
part-functions d None ps h none rest = rest
part-functions d (Some (rule r)) ps h none rest = rest
part-functions Decl.Plain (Some (function f)) ps h none rest = ((h, none), rest)
part-functions (Decl.Import names) (Some (function f)) ps h none rest = absurd cc
part-functions (Decl.Index lists) (Some (function f)) ps h none rest = ((h, none), rest)
part-functions d (Some (fact head)) ps h none rest = rest

pub functions-built : (ps : ProgramTree) → PartsAreBuilt ps → FunctionsAreBuilt (functions_of ps)
unfolding PartsAreBuilt FunctionsAreBuilt
functions-built [] h = tt
functions-built (p ∷ ps) h = part-functions p.decl p.clause ps h.0.0 h.0.1 (functions-built ps h.1)

kept-function : (b : Bool) (f : FunctionTree) (fs : List FunctionTree) → (is_built_function_rule f ≡ true) × (function_calls_terms f ≡ false) → FunctionsAreBuilt fs → FunctionsAreBuilt (cond b (f ∷ fs) fs)
unfolding FunctionsAreBuilt
kept-function true f fs h rest = (h, rest)
kept-function false f fs h rest = rest

pub kept-functions : (test : FunctionTree → Bool) (fs : List FunctionTree) → FunctionsAreBuilt fs → FunctionsAreBuilt (filter test fs)
unfolding FunctionsAreBuilt
kept-functions test [] h = tt
kept-functions test (f ∷ fs) h = kept-function (test f) f (filter test fs) h.0 (kept-functions test fs h.1)
