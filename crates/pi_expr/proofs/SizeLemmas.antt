-- Each step of the machine leaves less to do: it reads a terminal, or closes an open phrase.
use Rattle.std.proofs.Common.{◌≡◌, ℕ, ◌+◌, ◌*◌, ◌<◌, suc, Bool, true, false, List, [], ◌∷◌, length, subst, arith, nat_le, nat_lt, ◌==◌, ◌&&◌, not, if◌then◌else◌, codes}
use Rattle.pi_syntax.specs.ExpTree.{ExpTree, ExpTrees, no_exps, exp as exp_before, one_exp}
use Rattle.pi_syntax.specs.ExpTree as tree
use Rattle.pi_syntax.specs.Terminals as t
use Rattle.pi_syntax.specs.Terminals.{Line, Terminal}
use Rattle.pi_syntax.specs.Grammar as g
use Rattle.pi_syntax.specs.Ranks.{line_rank, rank, reach_of}
use Rattle.pi_expr_phrases.specs.Machine as m
use Rattle.pi_expr_phrases.specs.Machine.{Closing, Frame, State, operand, value, Outcome, next, done, fail, wanted, number, choose, when, opened, closed, arguments, enter, enter_term, enter_sign, enter_dot, join_line, continue, collect_by, close_items, closer, resume, resume_last, finish, step, with_exp, with_branch}
use Rattle.pi_expr.specs.Sizes.{size}

abbrev pub Smaller : ℕ → Outcome → Type 0
Smaller n (next s) = size s < n
Smaller n (done e) = Unit {0}
Smaller n fail = Unit {0}

if_smaller : (b : Bool) (n : ℕ) (x y : Outcome) → Smaller n x → Smaller n y → Smaller n (if b then x else y)
if_smaller true n x y p q = p
if_smaller false n x y p q = q

when_smaller : (b : Bool) (n : ℕ) (x : Outcome) → Smaller n x → Smaller n (when b x)
when_smaller true n x p = p
when_smaller false n x p = tt

choose_smaller : (n : ℕ) (k : Terminal) (ts : List Terminal) (f : List Terminal → Outcome) (o : Outcome)
    → ((rest : List Terminal) → length rest < length ts → Smaller n (f rest)) → Smaller n o → Smaller n (choose k ts f o)
choose_smaller n k [] f o p q = q
choose_smaller n k (first ∷ ts) f o p q = if_smaller (number first == number k) n (f ts) o (p ts (omega arith)) q

-- the numbers alone
opened_down : (n : ℕ) (fs : List Frame) (ts : List Terminal) → 2 * length ts + suc (length fs) < n → 2 * length ts + suc (length fs) < n
opened_down n fs ts h = h

value_down : (n : ℕ) (fs : List Frame) (ts : List Terminal) → 2 * length ts + length fs < n → 2 * length ts + length fs < n
value_down n fs ts h = h

closes : (n : ℕ) (fs : List Frame) (c : Closing) (es : ExpTrees) (ts : List Terminal) → 2 * length ts + suc (length fs) < n
    → Smaller n (closed fs c es ts)
closes n fs (m.of_call name) es ts h = value_down n fs ts (omega arith)
closes n fs (m.of_quote name) es ts h = value_down n fs ts (omega arith)
closes n fs (m.of_method name e) es ts h = value_down n fs ts (omega arith)
closes n fs m.of_list es ts h = value_down n fs ts (omega arith)
closes n fs m.of_array es ts h = value_down n fs ts (omega arith)
closes n fs (m.of_collect b e) es ts h = value_down n fs ts (omega arith)
closes n fs m.of_foreach es ts h = h

argues : (n : ℕ) (c : Closing) (fs : List Frame) (ts : List Terminal) → 2 * length ts + suc (length fs) < n → Smaller n (arguments c fs ts)
argues n c fs ts h = choose_smaller n t.close_paren ts (closed fs c no_exps) (opened (m.items c no_exps) fs ts) (λ rest r. closes n fs c no_exps rest (omega arith)) (opened_down n fs ts h)

-- where nothing but a bracket may come next
opens_behind : (n : ℕ) (k : Terminal) (f : Frame) (fs : List Frame) (ts : List Terminal) → 2 * length ts + length fs < n
    → Smaller n (choose k ts (opened f fs) fail)
opens_behind n k f fs ts h = choose_smaller n k ts (opened f fs) fail (λ rest r. opened_down n fs rest (omega arith)) tt

finds_behind : (n : ℕ) (k : Terminal) (fs : List Frame) (e : ExpTree) (ts : List Terminal) → 2 * length ts + length fs < n
    → Smaller n (choose k ts (m.found fs e) fail)
finds_behind n k fs e ts h = choose_smaller n k ts (m.found fs e) fail (λ rest r. value_down n fs rest (omega arith)) tt

enters_term : (n : ℕ) (fs : List Frame) (ts : List Terminal) → 2 * length ts + length fs < n → Smaller n (enter_term fs ts)
enters_term n fs [] h = tt
enters_term n fs (t.plus ∷ ts) h = opens_behind n t.open_paren (m.parens true) fs (t.plus ∷ ts) h
enters_term n fs (t.minus ∷ ts) h = opens_behind n t.open_paren (m.parens true) fs (t.minus ∷ ts) h
enters_term n fs (t.dots ∷ ts) h = opens_behind n t.open_paren (m.parens true) fs (t.dots ∷ ts) h
enters_term n fs (t.power ∷ ts) h = opens_behind n t.open_paren (m.parens true) fs (t.power ∷ ts) h
enters_term n fs (t.complement ∷ ts) h = opens_behind n t.open_paren (m.parens true) fs (t.complement ∷ ts) h
enters_term n fs (t.constraint_not ∷ ts) h = opens_behind n t.open_paren (m.parens true) fs (t.constraint_not ∷ ts) h
enters_term n fs (t.open_paren ∷ ts) h = opens_behind n t.open_paren (m.parens true) fs (t.open_paren ∷ ts) h
enters_term n fs (t.close_paren ∷ ts) h = opens_behind n t.open_paren (m.parens true) fs (t.close_paren ∷ ts) h
enters_term n fs (t.open_bracket ∷ ts) h = opens_behind n t.open_paren (m.parens true) fs (t.open_bracket ∷ ts) h
enters_term n fs (t.close_bracket ∷ ts) h = opens_behind n t.open_paren (m.parens true) fs (t.close_bracket ∷ ts) h
enters_term n fs (t.open_brace ∷ ts) h = opens_behind n t.open_paren (m.parens true) fs (t.open_brace ∷ ts) h
enters_term n fs (t.close_brace ∷ ts) h = opens_behind n t.open_paren (m.parens true) fs (t.close_brace ∷ ts) h
enters_term n fs (t.comma ∷ ts) h = opens_behind n t.open_paren (m.parens true) fs (t.comma ∷ ts) h
enters_term n fs (t.semicolon ∷ ts) h = opens_behind n t.open_paren (m.parens true) fs (t.semicolon ∷ ts) h
enters_term n fs (t.arrow ∷ ts) h = opens_behind n t.open_paren (m.parens true) fs (t.arrow ∷ ts) h
enters_term n fs (t.bar ∷ ts) h = opens_behind n t.open_paren (m.parens true) fs (t.bar ∷ ts) h
enters_term n fs (t.colon ∷ ts) h = opens_behind n t.open_paren (m.parens true) fs (t.colon ∷ ts) h
enters_term n fs (t.dot ∷ ts) h = opens_behind n t.open_paren (m.parens true) fs (t.dot ∷ ts) h
enters_term n fs (t.dollar ∷ ts) h = opens_behind n t.open_paren (m.parens true) fs (t.dollar ∷ ts) h
enters_term n fs (t.at ∷ ts) h = opens_behind n t.open_paren (m.parens true) fs (t.at ∷ ts) h
enters_term n fs (t.word_if ∷ ts) h = opens_behind n t.open_paren (m.parens true) fs (t.word_if ∷ ts) h
enters_term n fs (t.word_then ∷ ts) h = opens_behind n t.open_paren (m.parens true) fs (t.word_then ∷ ts) h
enters_term n fs (t.word_elseif ∷ ts) h = opens_behind n t.open_paren (m.parens true) fs (t.word_elseif ∷ ts) h
enters_term n fs (t.word_else ∷ ts) h = opens_behind n t.open_paren (m.parens true) fs (t.word_else ∷ ts) h
enters_term n fs (t.word_end ∷ ts) h = opens_behind n t.open_paren (m.parens true) fs (t.word_end ∷ ts) h
enters_term n fs (t.word_foreach ∷ ts) h = opens_behind n t.open_paren (m.parens true) fs (t.word_foreach ∷ ts) h
enters_term n fs (t.word_while ∷ ts) h = opens_behind n t.open_paren (m.parens true) fs (t.word_while ∷ ts) h
enters_term n fs (t.word_do ∷ ts) h = opens_behind n t.open_paren (m.parens true) fs (t.word_do ∷ ts) h
enters_term n fs (t.foreign ∷ ts) h = opens_behind n t.open_paren (m.parens true) fs (t.foreign ∷ ts) h
enters_term n fs (t.variable name ∷ ts) h = opens_behind n t.open_paren (m.parens true) fs (t.variable name ∷ ts) h
enters_term n fs (t.atom name ∷ ts) h = choose_smaller n t.open_paren ts (arguments (m.of_quote name) fs) fail (λ rest r. argues n (m.of_quote name) fs rest (omega arith)) tt
enters_term n fs (t.integer i ∷ ts) h = opens_behind n t.open_paren (m.parens true) fs (t.integer i ∷ ts) h
enters_term n fs (t.text name ∷ ts) h = opens_behind n t.open_paren (m.parens true) fs (t.text name ∷ ts) h
enters_term n fs (t.joint l name ∷ ts) h = opens_behind n t.open_paren (m.parens true) fs (t.joint l name ∷ ts) h
enters_term n fs (t.relation name ∷ ts) h = opens_behind n t.open_paren (m.parens true) fs (t.relation name ∷ ts) h
enters_term n fs (t.goal_sign name ∷ ts) h = opens_behind n t.open_paren (m.parens true) fs (t.goal_sign name ∷ ts) h

enters : (n : ℕ) (fs : List Frame) (ts : List Terminal) → 2 * length ts + length fs < suc n → Smaller n (enter fs ts)
enters n fs [] h = tt
enters n fs (t.plus ∷ ts) h = when_smaller (nat_le (wanted fs) (rank g.unary)) n (opened (m.signed g.unary (codes "+")) fs ts) (opened_down n fs ts (omega arith))
enters n fs (t.minus ∷ ts) h = when_smaller (nat_le (wanted fs) 19) n (opened (m.minus ts) fs ts) (opened_down n fs ts (omega arith))
enters n fs (t.dots ∷ ts) h = tt
enters n fs (t.power ∷ ts) h = tt
enters n fs (t.complement ∷ ts) h = when_smaller (nat_le (wanted fs) (rank g.unary)) n (opened (m.signed g.unary (codes "~")) fs ts) (opened_down n fs ts (omega arith))
enters n fs (t.constraint_not ∷ ts) h = when_smaller (nat_le (wanted fs) (rank g.negation)) n (opened (m.signed g.negation (codes "#~")) fs ts) (opened_down n fs ts (omega arith))
enters n fs (t.open_paren ∷ ts) h = opened_down n fs ts (omega arith)
enters n fs (t.close_paren ∷ ts) h = tt
enters n fs (t.open_bracket ∷ ts) h = choose_smaller n t.close_bracket ts (m.found fs (tree.list no_exps)) (opened (m.items m.of_list no_exps) fs ts) (λ rest r. value_down n fs rest (omega arith)) (opened_down n fs ts (omega arith))
enters n fs (t.close_bracket ∷ ts) h = tt
enters n fs (t.open_brace ∷ ts) h = choose_smaller n t.close_brace ts (m.found fs (tree.array no_exps)) (opened (m.items m.of_array no_exps) fs ts) (λ rest r. value_down n fs rest (omega arith)) (opened_down n fs ts (omega arith))
enters n fs (t.close_brace ∷ ts) h = tt
enters n fs (t.comma ∷ ts) h = tt
enters n fs (t.semicolon ∷ ts) h = tt
enters n fs (t.arrow ∷ ts) h = tt
enters n fs (t.bar ∷ ts) h = tt
enters n fs (t.colon ∷ ts) h = tt
enters n fs (t.dot ∷ ts) h = tt
enters n fs (t.dollar ∷ ts) h = enters_term n fs ts (omega arith)
enters n fs (t.at ∷ ts) h = tt
enters n fs (t.word_if ∷ ts) h = opened_down n fs ts (omega arith)
enters n fs (t.word_then ∷ ts) h = tt
enters n fs (t.word_elseif ∷ ts) h = tt
enters n fs (t.word_else ∷ ts) h = tt
enters n fs (t.word_end ∷ ts) h = tt
enters n fs (t.word_foreach ∷ ts) h = opens_behind n t.open_paren (m.items m.of_foreach no_exps) fs ts (omega arith)
enters n fs (t.word_while ∷ ts) h = opens_behind n t.open_paren m.while_test fs ts (omega arith)
enters n fs (t.word_do ∷ ts) h = opened_down n fs ts (omega arith)
enters n fs (t.foreign ∷ ts) h = tt
enters n fs (t.variable name ∷ ts) h = choose_smaller n t.at ts (opened (m.pattern name) fs) (next (value fs g.prim true (tree.var name) ts)) (λ rest r. opened_down n fs rest (omega arith)) (value_down n fs ts (omega arith))
enters n fs (t.atom name ∷ ts) h = choose_smaller n t.open_paren ts (arguments (m.of_call name) fs) (m.found fs (tree.atom name) ts) (λ rest r. argues n (m.of_call name) fs rest (omega arith)) (value_down n fs ts (omega arith))
enters n fs (t.integer i ∷ ts) h = value_down n fs ts (omega arith)
enters n fs (t.text name ∷ ts) h = value_down n fs ts (omega arith)
enters n fs (t.joint l name ∷ ts) h = tt
enters n fs (t.relation name ∷ ts) h = tt
enters n fs (t.goal_sign name ∷ ts) h = when_smaller (nat_le (wanted fs) (rank g.unit)) n (opened (m.signed g.unit name) fs ts) (opened_down n fs ts (omega arith))

enters_dot : (n : ℕ) (fs : List Frame) (e : ExpTree) (ts : List Terminal) → 2 * length ts + length fs < n → Smaller n (enter_dot fs e ts)
enters_dot n fs e [] h = tt
enters_dot n fs e (t.plus ∷ ts) h = tt
enters_dot n fs e (t.minus ∷ ts) h = tt
enters_dot n fs e (t.dots ∷ ts) h = tt
enters_dot n fs e (t.power ∷ ts) h = tt
enters_dot n fs e (t.complement ∷ ts) h = tt
enters_dot n fs e (t.constraint_not ∷ ts) h = tt
enters_dot n fs e (t.open_paren ∷ ts) h = tt
enters_dot n fs e (t.close_paren ∷ ts) h = tt
enters_dot n fs e (t.open_bracket ∷ ts) h = tt
enters_dot n fs e (t.close_bracket ∷ ts) h = tt
enters_dot n fs e (t.open_brace ∷ ts) h = tt
enters_dot n fs e (t.close_brace ∷ ts) h = tt
enters_dot n fs e (t.comma ∷ ts) h = tt
enters_dot n fs e (t.semicolon ∷ ts) h = tt
enters_dot n fs e (t.arrow ∷ ts) h = tt
enters_dot n fs e (t.bar ∷ ts) h = tt
enters_dot n fs e (t.colon ∷ ts) h = tt
enters_dot n fs e (t.dot ∷ ts) h = tt
enters_dot n fs e (t.dollar ∷ ts) h = tt
enters_dot n fs e (t.at ∷ ts) h = tt
enters_dot n fs e (t.word_if ∷ ts) h = tt
enters_dot n fs e (t.word_then ∷ ts) h = tt
enters_dot n fs e (t.word_elseif ∷ ts) h = tt
enters_dot n fs e (t.word_else ∷ ts) h = tt
enters_dot n fs e (t.word_end ∷ ts) h = tt
enters_dot n fs e (t.word_foreach ∷ ts) h = tt
enters_dot n fs e (t.word_while ∷ ts) h = tt
enters_dot n fs e (t.word_do ∷ ts) h = tt
enters_dot n fs e (t.foreign ∷ ts) h = tt
enters_dot n fs e (t.variable name ∷ ts) h = tt
enters_dot n fs e (t.atom name ∷ ts) h = choose_smaller n t.open_paren ts (arguments (m.of_method name e) fs) (next (value fs g.post true (g.call_one name e) ts)) (λ rest r. argues n (m.of_method name e) fs rest (omega arith)) (value_down n fs ts (omega arith))
enters_dot n fs e (t.integer i ∷ ts) h = tt
enters_dot n fs e (t.text name ∷ ts) h = tt
enters_dot n fs e (t.joint l name ∷ ts) h = tt
enters_dot n fs e (t.relation name ∷ ts) h = tt
enters_dot n fs e (t.goal_sign name ∷ ts) h = tt

continues : (n : ℕ) (fs : List Frame) (k : g.Phrase) (b : Bool) (e : ExpTree) (ts : List Terminal) → 2 * length ts + length fs < suc n
    → Smaller n (continue fs k b e ts)
continues n fs k b e [] h = tt
continues n fs k b e (t.plus ∷ ts) h = when_smaller (nat_le (line_rank t.sum) (rank k)) n (opened (m.joining t.sum (codes "+") e) fs ts) (opened_down n fs ts (omega arith))
continues n fs k b e (t.minus ∷ ts) h = when_smaller (nat_le (line_rank t.sum) (rank k)) n (opened (m.joining t.sum (codes "-") e) fs ts) (opened_down n fs ts (omega arith))
continues n fs k b e (t.dots ∷ ts) h = when_smaller (nat_le 13 (rank k)) n (opened (m.range_from e) fs ts) (opened_down n fs ts (omega arith))
continues n fs k b e (t.power ∷ ts) h = when_smaller (nat_le 21 (rank k)) n (opened (m.power e) fs ts) (opened_down n fs ts (omega arith))
continues n fs k b e (t.complement ∷ ts) h = tt
continues n fs k b e (t.constraint_not ∷ ts) h = tt
continues n fs k b e (t.open_paren ∷ ts) h = tt
continues n fs k b e (t.close_paren ∷ ts) h = tt
continues n fs k b e (t.open_bracket ∷ ts) h = when_smaller (nat_le 21 (rank k) && b) n (opened (m.indexing e) fs ts) (opened_down n fs ts (omega arith))
continues n fs k b e (t.close_bracket ∷ ts) h = tt
continues n fs k b e (t.open_brace ∷ ts) h = tt
continues n fs k b e (t.close_brace ∷ ts) h = tt
continues n fs k b e (t.comma ∷ ts) h = when_smaller (nat_le 4 (rank k)) n (opened (m.conjuncts (one_exp e)) fs ts) (opened_down n fs ts (omega arith))
continues n fs k b e (t.semicolon ∷ ts) h = when_smaller (nat_le 2 (rank k)) n (opened (m.branches (one_exp e)) fs ts) (opened_down n fs ts (omega arith))
continues n fs k b e (t.arrow ∷ ts) h = when_smaller (nat_le 3 (rank k)) n (opened (m.arrow e) fs ts) (opened_down n fs ts (omega arith))
continues n fs k b e (t.bar ∷ ts) h = tt
continues n fs k b e (t.colon ∷ ts) h = tt
continues n fs k b e (t.dot ∷ ts) h = when_smaller (nat_le 21 (rank k) && not (g.is_atom e)) n (enter_dot fs e ts) (enters_dot n fs e ts (omega arith))
continues n fs k b e (t.dollar ∷ ts) h = tt
continues n fs k b e (t.at ∷ ts) h = tt
continues n fs k b e (t.word_if ∷ ts) h = tt
continues n fs k b e (t.word_then ∷ ts) h = tt
continues n fs k b e (t.word_elseif ∷ ts) h = tt
continues n fs k b e (t.word_else ∷ ts) h = tt
continues n fs k b e (t.word_end ∷ ts) h = tt
continues n fs k b e (t.word_foreach ∷ ts) h = tt
continues n fs k b e (t.word_while ∷ ts) h = tt
continues n fs k b e (t.word_do ∷ ts) h = tt
continues n fs k b e (t.foreign ∷ ts) h = tt
continues n fs k b e (t.variable name ∷ ts) h = tt
continues n fs k b e (t.atom name ∷ ts) h = tt
continues n fs k b e (t.integer i ∷ ts) h = tt
continues n fs k b e (t.text name ∷ ts) h = tt
continues n fs k b e (t.joint l name ∷ ts) h = when_smaller (nat_le (line_rank l) (rank k)) n (opened (m.joining l name e) fs ts) (opened_down n fs ts (omega arith))
continues n fs k b e (t.relation name ∷ ts) h = when_smaller (nat_le 12 (rank k)) n (opened (m.relation name e) fs ts) (opened_down n fs ts (omega arith))
continues n fs k b e (t.goal_sign name ∷ ts) h = tt

collects : (n : ℕ) (b : Bool) (es : ExpTrees) (fs : List Frame) (e : ExpTree) (ts : List Terminal) → 2 * length ts + suc (length fs) < n
    → Smaller n (collect_by b es fs e ts)
collects n b no_exps fs e ts h = h
collects n b (exp_before f es) fs e ts h = tt

ends_units : (n : ℕ) (k : Terminal) (c : Closing) (es : ExpTrees) (fs : List Frame) (ts : List Terminal) → 2 * length ts + length fs < n
    → Smaller n (choose k ts (closed fs c es) fail)
ends_units n k c es fs ts h = choose_smaller n k ts (closed fs c es) fail (λ rest r. closes n fs c es rest (omega arith)) tt

ends_items : (n : ℕ) (c : Closing) (es : ExpTrees) (fs : List Frame) (e : ExpTree) (ts : List Terminal) → 2 * length ts + length fs < n
    → Smaller n (close_items c es fs e ts)
ends_items n m.of_list es fs e ts h =
    choose_smaller n t.bar ts (opened (m.list_tail (with_exp es e)) fs) (choose t.colon ts (collect_by false es fs e) (choose t.close_bracket ts (closed fs m.of_list (with_exp es e)) fail)) (λ rest r. opened_down n fs rest (omega arith))
    (choose_smaller n t.colon ts (collect_by false es fs e) (choose t.close_bracket ts (closed fs m.of_list (with_exp es e)) fail) (λ rest r. collects n false es fs e rest (omega arith))
    (ends_units n t.close_bracket m.of_list (with_exp es e) fs ts h))
ends_items n m.of_array es fs e ts h =
    choose_smaller n t.colon ts (collect_by true es fs e) (choose t.close_brace ts (closed fs m.of_array (with_exp es e)) fail)
    (λ rest r. collects n true es fs e rest (omega arith)) (ends_units n t.close_brace m.of_array (with_exp es e) fs ts h)
ends_items n (m.of_call name) es fs e ts h = ends_units n t.close_paren (m.of_call name) (with_exp es e) fs ts h
ends_items n (m.of_quote name) es fs e ts h = ends_units n t.close_paren (m.of_quote name) (with_exp es e) fs ts h
ends_items n (m.of_method name o) es fs e ts h = ends_units n t.close_paren (m.of_method name o) (with_exp es e) fs ts h
ends_items n (m.of_collect b o) es fs e ts h = ends_units n (closer (m.of_collect b o)) (m.of_collect b o) (with_exp es e) fs ts h
ends_items n m.of_foreach es fs e ts h = ends_units n t.close_paren m.of_foreach (with_exp es e) fs ts h

resumes : (n : ℕ) (f : Frame) (fs : List Frame) (e : ExpTree) (ts : List Terminal) → 2 * length ts + length fs < n → Smaller n (resume f fs e ts)
resumes n (m.signed k name) fs e ts h = value_down n fs ts h
resumes n (m.minus start) fs e ts h = value_down n fs ts h
resumes n (m.joining l name a) fs e ts h = value_down n fs ts h
resumes n (m.relation name a) fs e ts h = value_down n fs ts h
resumes n (m.range_from a) fs e ts h = choose_smaller n t.dots ts (opened (m.range_step a e) fs) (next (value fs g.range false (tree.range a e) ts)) (λ rest r. opened_down n fs rest (omega arith)) (value_down n fs ts h)
resumes n (m.range_step a b) fs e ts h = value_down n fs ts h
resumes n (m.power a) fs e ts h = value_down n fs ts h
resumes n (m.conjuncts es) fs e ts h = choose_smaller n t.comma ts (opened (m.conjuncts (with_exp es e)) fs) (next (value fs g.conj false (g.conjunction (with_exp es e)) ts)) (λ rest r. opened_down n fs rest (omega arith)) (value_down n fs ts h)
resumes n (m.branches es) fs e ts h = choose_smaller n t.semicolon ts (opened (m.branches (with_exp es e)) fs) (next (value fs g.exp false (g.disjunction (with_exp es e)) ts)) (λ rest r. opened_down n fs rest (omega arith)) (value_down n fs ts h)
resumes n (m.arrow a) fs e ts h = when_smaller (m.headed t.semicolon ts) n (next (value fs g.branch false (tree.arrow a e) ts)) (value_down n fs ts h)
resumes n (m.pattern name) fs e ts h = value_down n fs ts h
resumes n (m.parens q) fs e ts h = finds_behind n t.close_paren fs (if q then tree.quote e else e) ts h
resumes n (m.items c es) fs e ts h = choose_smaller n t.comma ts (opened (m.items c (with_exp es e)) fs) (close_items c es fs e ts) (λ rest r. opened_down n fs rest (omega arith)) (ends_items n c es fs e ts h)
resumes n (m.list_tail es) fs e ts h = finds_behind n t.close_bracket fs (tree.list_onto es e) ts h
resumes n (m.indexing a) fs e ts h = choose_smaller n t.comma ts (opened (m.indexing (tree.index a (one_exp e))) fs) (choose t.close_bracket ts (λ rest. next (value fs g.post true (tree.index a (one_exp e)) rest)) fail) (λ rest r. opened_down n fs rest (omega arith)) (choose_smaller n t.close_bracket ts (λ rest. next (value fs g.post true (tree.index a (one_exp e)) rest)) fail (λ rest r. value_down n fs rest (omega arith)) tt)
resumes n (m.foreach_body es) fs e ts h = finds_behind n t.word_end fs (tree.foreach es e) ts h
resumes n m.while_test fs e ts h = opens_behind n t.close_paren (m.while_body e) fs ts h
resumes n (m.while_body a) fs e ts h = finds_behind n t.word_end fs (tree.while_do a e) ts h
resumes n m.do_body fs e ts h = choose_smaller n t.word_while ts (λ rest. choose t.open_paren rest (opened (m.do_test e) fs) fail) fail (λ rest r. opens_behind n t.open_paren (m.do_test e) fs rest (omega arith)) tt
resumes n (m.do_test a) fs e ts h = finds_behind n t.close_paren fs (tree.do_while a e) ts h
resumes n (m.if_test bs) fs e ts h = opens_behind n t.word_then (m.if_body bs e) fs ts h
resumes n (m.if_body bs a) fs e ts h = choose_smaller n t.word_elseif ts (opened (m.if_test (with_branch bs a e)) fs) (choose t.word_else ts (opened (m.if_last (with_branch bs a e)) fs) (choose t.word_end ts (m.found fs (tree.if_then (with_branch bs a e))) fail)) (λ rest r. opened_down n fs rest (omega arith)) (choose_smaller n t.word_else ts (opened (m.if_last (with_branch bs a e)) fs) (choose t.word_end ts (m.found fs (tree.if_then (with_branch bs a e))) fail) (λ rest r. opened_down n fs rest (omega arith)) (finds_behind n t.word_end fs (tree.if_then (with_branch bs a e)) ts h))
resumes n (m.if_last bs) fs e ts h = finds_behind n t.word_end fs (tree.if_else bs e) ts h

ends : (n : ℕ) (fs : List Frame) (e : ExpTree) (ts : List Terminal) → 2 * length ts + length fs < suc n → Smaller n (resume_last fs e ts)
ends n [] e [] h = tt
ends n [] e (first ∷ ts) h = tt
ends n (f ∷ fs) e ts h = resumes n f fs e ts (omega arith)

pub steps_down : (s : State) → Smaller (size s) (step s)
unfolding step
steps_down (operand fs ts) = enters (2 * length ts + length fs) fs ts (omega arith)
steps_down (value fs k b e ts) =
    let n = 2 * length ts + length fs in
    if_smaller (nat_lt (reach_of ts) (wanted fs)) n (resume_last fs e ts) (continue fs k b e ts)
    (ends n fs e ts (omega arith)) (continues n fs k b e ts (omega arith))

-- the next state is smaller
pub next_down : (s n : State) → step s ≡ next n → size n < size s
next_down s n p = let P : Outcome → Type 0 = λ o. Smaller (size s) o in subst P p (steps_down s)
