-- The canonical text of an expression. It has parentheses round each sign with its operands, so that it is read without any order of
-- signs. (The forms are those of A User's Guide to Picat, 'Data Types, Operators, and Built-ins', 'Assignments and Loops' and 'List
-- Comprehensions'; which of them is the canonical one is own.)
use Rattle.std.specs.Prelude.{ℕ, Bool, true, false, not, if◌then◌else◌, List, [], ◌∷◌, ◌++◌, codes}
use Rattle.pi_syntax.specs.ExpTree.{ExpTree, var, int, atom, str, list, list_onto, array, call, quote, index, range, range_by, at, collect, and, or, arrow, if_then, if_else, foreach, while_do, do_while, ExpTrees, no_exps, exp, ExpBranches, no_branches, branch}
use Rattle.pi_syntax.specs.Signature.{exp_count}
use Rattle.pi_print_program.specs.Signs.{is_two_place, is_prefix_word, is_prefix_sign, is_sign}
use Rattle.pi_print_program.specs.Texts.{between, in_parens, parted, comma, spaced, name_text, integer_text, string_text}

-- a call of a name: behind `$` it stands as it is, and any other expression in parentheses
abbrev pub is_structure : ExpTree → Bool
is_structure (call name es) = not (is_sign name (exp_count es))
is_structure e = false

unfoldable mutual
  pub exp_text : ExpTree → List ℕ
  exp_text (var name) = name
  exp_text (int n) = integer_text n
  exp_text (atom name) = name_text name
  exp_text (str text) = string_text text
  exp_text (list es) = between (codes "[") (parted comma (exp_texts es)) (codes "]")
  exp_text (list_onto es e) = codes "[" ++ (parted comma (exp_texts es) ++ between (codes " | ") (exp_text e) (codes "]"))
  exp_text (array es) = between (codes "{") (parted comma (exp_texts es)) (codes "}")
  exp_text (call name es) =
      if is_two_place name (exp_count es) then in_parens (parted (spaced name) (exp_texts es))
      else if is_prefix_word name (exp_count es) then in_parens (name ++ (codes " " ++ in_parens (parted comma (exp_texts es))))
      else if is_prefix_sign name (exp_count es) then in_parens (name ++ in_parens (parted comma (exp_texts es)))
      else name_text name ++ in_parens (parted comma (exp_texts es))
  exp_text (quote e) = codes "$" ++ (if is_structure e then exp_text e else in_parens (exp_text e))
  exp_text (index e es) = exp_text e ++ between (codes "[") (parted comma (exp_texts es)) (codes "]")
  exp_text (range first last) = in_parens (exp_text first ++ (codes " .. " ++ exp_text last))
  exp_text (range_by first step last) = in_parens (exp_text first ++ (codes " .. " ++ (exp_text step ++ (codes " .. " ++ exp_text last))))
  exp_text (at name e) = name ++ (codes "@" ++ exp_text e)
  exp_text (collect is_array e es) =
      if is_array then between (codes "{") (exp_text e ++ (codes " : " ++ parted comma (exp_texts es))) (codes "}")
      else between (codes "[") (exp_text e ++ (codes " : " ++ parted comma (exp_texts es))) (codes "]")
  exp_text (and es) = in_parens (parted comma (exp_texts es))
  exp_text (or es) = in_parens (parted (codes " ; ") (exp_texts es))
  -- a branch of a disjunction, which has the parentheses
  exp_text (arrow c e) = exp_text c ++ (codes " -> " ++ exp_text e)
  exp_text (if_then bs) = between (codes "if ") (parted (codes " elseif ") (choice_texts bs)) (codes " end")
  exp_text (if_else bs e) = codes "if " ++ (parted (codes " elseif ") (choice_texts bs) ++ between (codes " else ") (exp_text e) (codes " end"))
  exp_text (foreach es e) = codes "foreach(" ++ (parted comma (exp_texts es) ++ between (codes ") ") (exp_text e) (codes " end"))
  exp_text (while_do c e) = codes "while (" ++ (exp_text c ++ between (codes ") ") (exp_text e) (codes " end"))
  exp_text (do_while e c) = codes "do " ++ (exp_text e ++ between (codes " while (") (exp_text c) (codes ")"))

  pub exp_texts : ExpTrees → List (List ℕ)
  exp_texts no_exps = []
  exp_texts (exp e es) = exp_text e ∷ exp_texts es

  -- each condition with its body
  pub choice_texts : ExpBranches → List (List ℕ)
  choice_texts no_branches = []
  choice_texts (branch c e bs) = (exp_text c ++ (codes " then " ++ exp_text e)) ∷ choice_texts bs

abbrev pub is_conjunction : ExpTree → Bool
is_conjunction (and es) = true
is_conjunction e = false

-- at the top of a clause's body or condition, where conjuncts stand as they are
unfoldable pub top_text : ExpTree → List ℕ
top_text (and es) = parted comma (exp_texts es)
top_text e = exp_text e
