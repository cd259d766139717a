-- Canonical texts of small programs.
use Rattle.std.proofs.Common.{◌≡◌, ℕ, true, false, pos, negsuc, List, [], ◌∷◌, codes, None, Some, refl}
use Rattle.std.specs.Char.{encode_utf8}
use Rattle.std.specs.Fmt.{digits}
use Rattle.std.specs.Str.{chars}
use Rattle.pi_syntax.specs.ExpTree.{ExpTree, var, int, atom, str, list, list_onto, array, call, quote, index, range, range_by, at, collect, and, or, arrow, if_then, if_else, foreach, while_do, do_while, ExpTrees, no_exps, exp, one_exp, no_branches, branch}
use Rattle.pi_syntax.specs.ProgramTree.{WrittenClause, rule, function, fact, PartTree}
use Rattle.pi_syntax.specs.declared.program.Decl.TheVariants.{Plain, Import, Index}
use Rattle.pi_syntax.specs.declared.program.Mode.TheVariants.{Plus, Minus}
use Rattle.pi_syntax.specs.Signature.{exp_count}
use Rattle.pi_syntax.specs.Tokens.{is_reserved}
use Rattle.pi_syntax.specs.PrintAtom.{atom_text, stands_bare, is_unquoted_atom}
use Rattle.pi_print_program.specs.Signs.{is_two_place, is_prefix_word, is_prefix_sign}
use Rattle.pi_print_program.specs.Texts.{each_behind, parted, integer_text, string_text}
use Rattle.pi_print_program.specs.CanonicalExp.{exp_text, exp_texts, choice_texts, top_text}
use Rattle.pi_print_program.specs.Canonical.{begins_declaration, part_text, canonical_text}

-- ---- what is computed, in one definition that opens all of it

unfoldable text_of : ExpTree → List ℕ
unfolding exp_text exp_texts choice_texts each_behind parted integer_text string_text is_two_place is_prefix_word is_prefix_sign exp_count atom_text stands_bare is_unquoted_atom is_reserved chars encode_utf8 digits
text_of e = exp_text e

unfoldable program_of : List PartTree → List ℕ
unfolding canonical_text part_text begins_declaration top_text exp_text exp_texts choice_texts each_behind parted integer_text string_text is_two_place is_prefix_word is_prefix_sign exp_count atom_text stands_bare is_unquoted_atom is_reserved chars encode_utf8 digits
program_of parts = canonical_text parts

abbrev two : ExpTree → ExpTree → ExpTrees
two p q = exp p (one_exp q)

abbrev of_one : List ℕ → ExpTree → ExpTree
of_one name p = call name (one_exp p)

abbrev of_two : List ℕ → ExpTree → ExpTree → ExpTree
of_two name p q = call name (two p q)

abbrev x : ExpTree
x = var (codes "X")

abbrev y : ExpTree
y = var (codes "Y")

abbrev a : ExpTree
a = atom (codes "a")

abbrev b : ExpTree
b = atom (codes "b")

abbrev plain : WrittenClause → PartTree
plain c = record { decl = Plain; clause = Some c }

-- ---- words

names : text_of (list (exp (atom (codes "a1")) (exp (atom (codes "A")) (exp (atom (codes "not")) (exp (atom (codes "it's")) (one_exp (atom (codes ""))))))))
    ≡ codes "[a1, 'A', 'not', 'it\\'s', '']"
unfolding text_of
names = refl

integers : text_of (array (exp (int (pos 0)) (exp (int (pos 42)) (one_exp (int (negsuc 6)))))) ≡ codes "{0, 42, (-7)}"
unfolding text_of
integers = refl

text : text_of (str (codes "a\"b\\c\nd\te'f")) ≡ codes "\"a\\\"b\\\\c\\nd\\te'f\""
unfolding text_of
text = refl

-- ---- signs

sum : text_of (of_two (codes "-") (of_two (codes "*") x (int (pos 2))) y) ≡ codes "((X * 2) - Y)"
unfolding text_of
sum = refl

prefixes : text_of (array (exp (of_one (codes "-") (int (pos 7))) (exp (of_one (codes "~") x) (exp (of_one (codes "not") a) (one_exp (of_one (codes "#~") (of_two (codes "#=") x y)))))))
    ≡ codes "{(-(7)), (~(X)), (not (a)), (#~((X #= Y)))}"
unfolding text_of
prefixes = refl

-- names of signs with other numbers of arguments, and signs that are read as others
no_signs : text_of (array (exp (of_one (codes "*") x) (exp (of_two (codes "not") x y) (exp (of_two (codes "div") x y) (one_exp (of_two (codes "..") x y))))))
    ≡ codes "{'*'(X), 'not'(X, Y), 'div'(X, Y), '..'(X, Y)}"
unfolding text_of
no_signs = refl

ranges : text_of (array (exp (range (int (pos 1)) x) (one_exp (range_by x (int (negsuc 0)) (int (pos 1)))))) ≡ codes "{(1 .. X), (X .. (-1) .. 1)}"
unfolding text_of
ranges = refl

-- ---- other forms

calls : text_of (of_two (codes "f") (call (codes "g") no_exps) (index (index x (one_exp (int (pos 1)))) (one_exp y))) ≡ codes "f(g(), X[1][Y])"
unfolding text_of
calls = refl

terms : text_of (array (exp (quote (of_one (codes "f") x)) (exp (quote (of_two (codes "+") x a)) (exp (quote a) (one_exp (at (codes "X") (list (one_exp y))))))))
    ≡ codes "{$f(X), $((X + a)), $(a), X@[Y]}"
unfolding text_of
terms = refl

lists : text_of (list (exp (list no_exps) (exp (list_onto (two a b) x) (one_exp (array no_exps))))) ≡ codes "[[], [a, b | X], {}]"
unfolding text_of
lists = refl

comprehensions : text_of (list (exp (collect false x (two (of_two (codes "in") x (range (int (pos 1)) y)) a)) (one_exp (collect true x (one_exp (of_two (codes "in") x y))))))
    ≡ codes "[[X : (X in (1 .. Y)), a], {X : (X in Y)}]"
unfolding text_of
comprehensions = refl

disjunction : text_of (or (two (arrow (and (two a b)) a) (or (two a b)))) ≡ codes "((a, b) -> a ; (a ; b))"
unfolding text_of
disjunction = refl

choices : text_of (and (two (if_then (branch a (and (two a b)) no_branches)) (if_else (branch a b (branch b a no_branches)) b)))
    ≡ codes "(if a then (a, b) end, if a then b elseif b then a else b end)"
unfolding text_of
choices = refl

loops : text_of (and (exp (foreach (two (of_two (codes "in") x y) a) b) (exp (while_do (of_two (codes "<") x y) (and (two a b))) (one_exp (do_while a b)))))
    ≡ codes "(foreach((X in Y), a) b end, while ((X < Y)) (a, b) end, do a while (b))"
unfolding text_of
loops = refl

-- ---- programs

rules : program_of (plain (rule (record { head = of_one (codes "p") x; cond = Some (of_two (codes ">") x (int (pos 1))); events = []; back = false; body = and (two (of_two (codes "=") y (of_two (codes "+") x (int (pos 1)))) (of_one (codes "q") y)) }))
    ∷ plain (rule (record { head = of_one (codes "q") (var (codes "_")); cond = None; events = []; back = true; body = atom (codes "true") })) ∷ [])
    ≡ codes "p(X), (X > 1) => (Y = (X + 1)), q(Y).\nq(_) ?=> true.\n"
unfolding program_of
rules = refl

functions : program_of (plain (function (record { head = of_one (codes "f") x; value = of_two (codes "+") (of_two (codes "**") (of_one (codes "-") x) (int (pos 2))) (index (of_one (codes "g") x) (one_exp (int (pos 1)))); cond = None; body = None }))
    ∷ plain (function (record { head = of_one (codes "g") x; value = y; cond = Some a; body = Some (of_two (codes "=") y x) })) ∷ [])
    ≡ codes "f(X) = (((-(X)) ** 2) + g(X)[1]).\ng(X) = Y, a => (Y = X).\n"
unfolding program_of
functions = refl

events : program_of (plain (rule (record { head = of_two (codes "w") x y; cond = Some (and (two a (and (two a b)))); events = of_one (codes "ins") x ∷ of_two (codes "event") y (var (codes "T")) ∷ []; back = false; body = or (two a b) })) ∷ [])
    ≡ codes "w(X, Y), a, (a, b), {ins(X), event(Y, T)} => (a ; b).\n"
unfolding program_of
events = refl

declarations : program_of (record { decl = Import (codes "cp" ∷ codes "planner" ∷ []); clause = None }
    ∷ record { decl = Index ((Plus ∷ Minus ∷ []) ∷ (Minus ∷ Plus ∷ []) ∷ []); clause = Some (fact (of_two (codes "edge") a b)) } ∷ plain (fact (of_two (codes "edge") b a)) ∷ [])
    ≡ codes "import cp, planner.\nindex (+,-) (-,+)\nedge(a, b).\nedge(b, a).\n"
unfolding program_of
declarations = refl

-- a predicate whose name begins a declaration
no_declaration : program_of (plain (rule (record { head = of_one (codes "import") x; cond = None; events = []; back = false; body = atom (codes "true") })) ∷ []) ≡ codes "(import(X)) => true.\n"
unfolding program_of
no_declaration = refl
