-- The canonical text of a program: a line for each part, and one more for the `index` before a fact. (A User's Guide to Picat,
-- 'Predicates and Functions', and for events 'Action Rules'; which form is the canonical one is own.)
use Rattle.std.specs.Prelude.{ℕ, Bool, false, if◌then◌else◌, List, [], ◌∷◌, ◌++◌, map, Option, None, Some, codes}
use Rattle.std.specs.List.{flat_map}
use Rattle.pi_syntax.specs.ExpTree.{ExpTree, atom, call}
use Rattle.pi_syntax.specs.ProgramTree.{RuleTree, FunctionTree, WrittenClause, rule, function, fact, PartTree, ProgramTree}
use Rattle.pi_syntax.specs.Tokens.{is_one_of}
use Rattle.pi_syntax.specs.declared.program.Decl.{Decl}
use Rattle.pi_syntax.specs.declared.program.Decl.TheVariants.{Plain, Import, Index}
use Rattle.pi_syntax.specs.declared.program.Mode.{Mode}
use Rattle.pi_syntax.specs.declared.program.Mode.TheVariants.{Plus, Minus}
use Rattle.pi_print_program.specs.Texts.{between, in_parens, parted, comma, name_text}
use Rattle.pi_print_program.specs.CanonicalExp.{exp_text, top_text}

-- ---- clauses

-- the words that begin a declaration
abbrev pub declaration_words : List (List ℕ)
declaration_words = codes "import" ∷ codes "table" ∷ codes "index" ∷ codes "module" ∷ codes "private" ∷ []

unfoldable pub begins_declaration : ExpTree → Bool
begins_declaration (atom name) = is_one_of declaration_words name
begins_declaration (call name es) = is_one_of declaration_words name
begins_declaration e = false

-- A head stands as any expression does. One whose name begins a declaration stands in parentheses, since its part would be read as that
-- declaration.
abbrev pub head_text : ExpTree → List ℕ
head_text e = if begins_declaration e then in_parens (exp_text e) else exp_text e

abbrev pub condition_text : Option ExpTree → List ℕ
condition_text None = []
condition_text (Some e) = comma ++ top_text e

-- the events, in braces
abbrev pub events_text : List ExpTree → List ℕ
events_text [] = []
events_text (e ∷ es) = comma ++ between (codes "{") (parted comma (map exp_text (e ∷ es))) (codes "}")

abbrev pub arrow_text : Bool → List ℕ
arrow_text back = if back then codes " ?=> " else codes " => "

abbrev pub rule_text : RuleTree → List ℕ
rule_text r = head_text r.head ++ (condition_text r.cond ++ (events_text r.events ++ (arrow_text r.back ++ top_text r.body)))

-- the body of a function's rule, which its fact hasn't
abbrev pub body_text : Option ExpTree → List ℕ
body_text None = []
body_text (Some e) = arrow_text false ++ top_text e

abbrev pub function_text : FunctionTree → List ℕ
function_text f = head_text f.head ++ (codes " = " ++ (exp_text f.value ++ (condition_text f.cond ++ body_text f.body)))

abbrev pub clause_text : WrittenClause → List ℕ
clause_text (rule r) = rule_text r
clause_text (function f) = function_text f
clause_text (fact head) = head_text head

-- ---- declarations

abbrev pub mode_text : Mode → List ℕ
mode_text Plus = codes "+"
mode_text Minus = codes "-"

abbrev pub modes_text : List Mode → List ℕ
modes_text modes = in_parens (parted (codes ",") (map mode_text modes))

abbrev pub declaration_text : Decl → List ℕ
declaration_text Plain = []
declaration_text (Import names) = between (codes "import ") (parted comma (map name_text names)) (codes ".\n")
declaration_text (Index lists) = between (codes "index ") (parted (codes " ") (map modes_text lists)) (codes "\n")

-- ---- parts

abbrev pub clause_line : Option WrittenClause → List ℕ
clause_line None = []
clause_line (Some c) = clause_text c ++ codes ".\n"

unfoldable pub part_text : PartTree → List ℕ
part_text p = declaration_text p.decl ++ clause_line p.clause

unfoldable pub canonical_text : ProgramTree → List ℕ
canonical_text parts = flat_map part_text parts
