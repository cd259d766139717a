-- The names that the language builds in, each with its least and its greatest number of arguments. (A User's Guide to Picat,
-- 'Appendix: Predicates and Functions'; which of them are there, and the prelude, are own.)
use Rattle.std.specs.Prelude.{ℕ, ◌&&◌, nat_le, Bool, if◌then◌else◌, List, [], ◌∷◌, map, Option, Some, None, codes}
use Rattle.std.specs.List.{list_any}
use Rattle.std.specs.Str.{bytes_eq}
use Rattle.std.specs.Borrow.{Bor}
use Rattle.pi_syntax.specs.declared.builtin.BuiltinKind.{BuiltinKind}

-- a name, with its least and its greatest number of arguments
pub record Row : Type 0 where
  pub name : List ℕ
  pub least : ℕ
  pub most : ℕ

abbrev pub row : List ℕ → ℕ → ℕ → Row
row name least most = record { name = name; least = least; most = most }

-- signs and names of functions; `div` is `/<`
unfoldable pub function_rows : List Row
function_rows =
    row (codes "+") 1 2 ∷
    row (codes "-") 1 2 ∷
    row (codes "*") 2 2 ∷
    row (codes "abs") 1 1 ∷
    row (codes "sign") 1 1 ∷
    row (codes "//") 2 2 ∷
    row (codes "/<") 2 2 ∷
    row (codes "div") 2 2 ∷
    row (codes "/>") 2 2 ∷
    row (codes "mod") 2 2 ∷
    row (codes "rem") 2 2 ∷
    row (codes "**") 2 2 ∷
    row (codes ">>") 2 2 ∷
    row (codes "<<") 2 2 ∷
    row (codes "/\\") 2 2 ∷
    row (codes "\\/") 2 2 ∷
    row (codes "^") 2 2 ∷
    row (codes "~") 1 1 ∷
    row (codes "min") 1 2 ∷
    row (codes "max") 1 2 ∷
    row (codes "length") 1 1 ∷
    row (codes "len") 1 1 ∷
    row (codes "head") 1 1 ∷
    row (codes "tail") 1 1 ∷
    row (codes "first") 1 1 ∷
    row (codes "last") 1 1 ∷
    row (codes "reverse") 1 1 ∷
    row (codes "sort") 1 1 ∷
    row (codes "sort_remove_dups") 1 1 ∷
    row (codes "remove_dups") 1 1 ∷
    row (codes "++") 2 2 ∷
    row (codes "delete_all") 2 2 ∷
    row (codes "zip") 2 2 ∷
    row (codes "sum") 1 1 ∷
    row (codes "prod") 1 1 ∷
    row (codes "to_list") 1 1 ∷
    row (codes "to_array") 1 1 ∷
    row (codes "new_list") 1 1 ∷
    row (codes "new_array") 1 2 ∷
    row (codes "name") 1 1 ∷
    row (codes "arity") 1 1 ∷
    row (codes "to_string") 1 1 ∷
    row (codes "copy_term") 1 1 ∷
    row (codes "fd_min") 1 1 ∷
    row (codes "fd_max") 1 1 ∷
    row (codes "fd_size") 1 1 ∷
    row (codes "fd_dom") 1 1 ∷
    row (codes "find_all") 2 2 ∷
    row (codes "count_all") 1 1 ∷
    row (codes "current_resource") 0 0 ∷
    []

-- signs and names of predicates: relations, tests, control, output, constraints, labelling and planning
unfoldable pub predicate_rows : List Row
predicate_rows =
    row (codes "=") 2 2 ∷
    row (codes "!=") 2 2 ∷
    row (codes "==") 2 2 ∷
    row (codes "!==") 2 2 ∷
    row (codes "<") 2 2 ∷
    row (codes "=<") 2 2 ∷
    row (codes ">") 2 2 ∷
    row (codes ">=") 2 2 ∷
    row (codes "=:=") 2 2 ∷
    row (codes "=\\=") 2 2 ∷
    row (codes "@<") 2 2 ∷
    row (codes "@=<") 2 2 ∷
    row (codes "@>") 2 2 ∷
    row (codes "@>=") 2 2 ∷
    row (codes "var") 1 1 ∷
    row (codes "nonvar") 1 1 ∷
    row (codes "integer") 1 1 ∷
    row (codes "int") 1 1 ∷
    row (codes "atom") 1 1 ∷
    row (codes "atomic") 1 1 ∷
    row (codes "compound") 1 1 ∷
    row (codes "list") 1 1 ∷
    row (codes "array") 1 1 ∷
    row (codes "struct") 1 1 ∷
    row (codes "ground") 1 1 ∷
    row (codes "true") 0 0 ∷
    row (codes "fail") 0 0 ∷
    row (codes "throw") 1 1 ∷
    row (codes "catch") 3 3 ∷
    row (codes "call") 1 8 ∷
    row (codes "print") 1 1 ∷
    row (codes "println") 1 1 ∷
    row (codes "write") 1 1 ∷
    row (codes "writeln") 1 1 ∷
    row (codes "nl") 0 0 ∷
    row (codes "printf") 1 16 ∷
    row (codes "post_event") 2 2 ∷
    row (codes "::") 2 2 ∷
    row (codes "notin") 2 2 ∷
    row (codes "#=") 2 2 ∷
    row (codes "#!=") 2 2 ∷
    row (codes "#<") 2 2 ∷
    row (codes "#=<") 2 2 ∷
    row (codes "#<=") 2 2 ∷
    row (codes "#>") 2 2 ∷
    row (codes "#>=") 2 2 ∷
    row (codes "#~") 1 1 ∷
    row (codes "#/\\") 2 2 ∷
    row (codes "#\\/") 2 2 ∷
    row (codes "#^") 2 2 ∷
    row (codes "#=>") 2 2 ∷
    row (codes "#<=>") 2 2 ∷
    row (codes "all_different") 1 1 ∷
    row (codes "all_distinct") 1 1 ∷
    row (codes "element") 3 3 ∷
    row (codes "solve") 1 2 ∷
    row (codes "plan") 2 4 ∷
    row (codes "best_plan") 2 4 ∷
    []

-- predicates whose rules are the prelude's
unfoldable pub prelude_rows : List Row
prelude_rows =
    row (codes "member") 2 2 ∷
    row (codes "append") 3 3 ∷
    row (codes "select") 3 3 ∷
    row (codes "between") 3 3 ∷
    []

-- a row names it with this number of arguments
abbrev pub is_named_by : List ℕ → ℕ → Row → Bool
is_named_by name arity r = bytes_eq r.name name && (nat_le r.least arity && nat_le arity r.most)

abbrev pub is_listed : List Row → List ℕ → ℕ → Bool
is_listed rows name arity = list_any (is_named_by name arity) rows

-- what a name is with this number of arguments, where it is built in; no name and number stands in two of the tables
unfoldable pub kind_of : List ℕ → ℕ → Option BuiltinKind
kind_of name arity =
    if is_listed function_rows name arity then Some BuiltinKind.Function
    else if is_listed predicate_rows name arity then Some BuiltinKind.Predicate
    else if is_listed prelude_rows name arity then Some BuiltinKind.Prelude
    else None

-- the rows of a table of the code
abbrev pub rows_shown : List (Bor (List ℕ) × ℕ × ℕ) → List Row
rows_shown rows = map (λ (r : Bor (List ℕ) × ℕ × ℕ). row r.0.now r.1 r.2) rows
