-- What kind of name the language builds in, said by what calls of names mean: functions, predicates, and predicates of the prelude. (Own.)
use Rattle.std.specs.Prelude.{◌≡◌, ℕ, ◌==◌, ◌&&◌, ◌||◌, Bool, true, false, not, cond, List, [], ◌∷◌, Option, Some, None, codes}
use Rattle.std.specs.Str.{bytes_eq}
use Rattle.pi_effects.specs.BuiltIns.{is_function, is_predicate}
use Rattle.pi_syntax.specs.ProgramTree.{RuleTree}
use Rattle.pi_syntax.specs.Forms.{is_form}
use Rattle.pi_syntax.specs.Names.{kind_of}
use Rattle.pi_syntax.specs.declared.builtin.BuiltinKind.{BuiltinKind}
use Rattle.pi_syntax.specs.declared.builtin.BuiltinKind.TheVariants.{Predicate, Function, Prelude}
use Rattle.pi_meaning.specs.Shared.Names.{is_later_predicate, is_later_function, is_resource, is_catch, is_call}
use Rattle.pi_meaning.specs.OverNames.Forms.{is_find_all, is_count_all}
use Rattle.pi_meaning.specs.OverNames.Rules.{rules_named}
use Rattle.pi_meaning.specs.OverNames.Prelude.{prelude}

-- functions of the tables that no program calls by their names: those that have the name of a form, `X[I]` among them, and ranges
abbrev pub is_unwritten : List ℕ → ℕ → Bool
is_unwritten name k = is_form name k || ((k == 2 || k == 3) && bytes_eq name (codes ".."))

-- functions: the others of the tables, those of later stages, what is left of a limit, and those with a goal in them
abbrev pub means_function : List ℕ → ℕ → Bool
means_function name k = (is_function name k && not (is_unwritten name k)) || (is_later_function name k || (is_resource name k || (is_find_all name k || is_count_all name k)))

-- predicates: those of the tables, those of later stages, and calls of terms
abbrev pub means_predicate : List ℕ → ℕ → Bool
means_predicate name k = is_predicate name k || (is_later_predicate name k || (is_catch name k || is_call name k))

-- predicates of the prelude
abbrev pub are_some : List RuleTree → Bool
are_some [] = false
are_some (r ∷ rs) = true

abbrev pub means_prelude : List ℕ → ℕ → Bool
means_prelude name k = are_some (rules_named name k prelude)

abbrev pub kind_meant : List ℕ → ℕ → Option BuiltinKind
kind_meant name k =
    cond (means_function name k) (Some Function) (cond (means_predicate name k) (Some Predicate) (cond (means_prelude name k) (Some Prelude) None))

-- just these names are built in, each as what it means
abbrev pub NamesHaveTheirKinds : Type 0
NamesHaveTheirKinds = (name : List ℕ) (k : ℕ) → kind_of name k ≡ kind_meant name k
