-- The steps of the reader, on trees: a machine with a stack of open phrases, each of which waits for an operand. The
-- contracts of private functions say that the code takes these steps. What they come to is the grammar: no public
-- contract speaks of them.
use Rattle.std.specs.Prelude.{◌≡◌, ℕ, Bool, true, false, ◌&&◌, ◌==◌, not, nat_le, nat_lt, if◌then◌else◌, List, [], ◌∷◌, codes}
use Rattle.pi_syntax.specs.ExpTree.{ExpTree, var, int, atom as atom_of, str, list, list_onto, array, call, quote, index, range as range_of, range_by, at as at_of, collect, arrow as arrow_of, if_then, if_else, foreach, while_do, do_while, ExpTrees, no_exps, exp as exp_before, ExpBranches, no_branches, branch as branch_before, one_exp}
use Rattle.pi_syntax.specs.Terminals as t
use Rattle.pi_syntax.specs.Terminals.{Line, sum, Terminal}
use Rattle.pi_syntax.specs.Grammar.{Phrase, exp, branch, conj, unit, line, negation, relating, range, unary, pow, post, prim, operand as operand_of, call_one, call_two, conjunction, disjunction, integer_alone, negated, is_atom}
use Rattle.pi_syntax.specs.Ranks.{line_rank, rank, reach_of}

-- with one more at the end

abbrev pub with_exp : ExpTrees → ExpTree → ExpTrees
with_exp no_exps e = one_exp e
with_exp (exp_before f fs) e = exp_before f (with_exp fs e)

abbrev pub with_branch : ExpBranches → ExpTree → ExpTree → ExpBranches
with_branch no_branches c e = branch_before c e no_branches
with_branch (branch_before d f bs) c e = branch_before d f (with_branch bs c e)

-- a number for each terminal that says no more than its kind, and 0 for the others
abbrev pub number : Terminal → ℕ
number t.plus = 1
number t.minus = 2
number t.dots = 3
number t.power = 4
number t.complement = 5
number t.constraint_not = 6
number t.open_paren = 7
number t.close_paren = 8
number t.open_bracket = 9
number t.close_bracket = 10
number t.open_brace = 11
number t.close_brace = 12
number t.comma = 13
number t.semicolon = 14
number t.arrow = 15
number t.bar = 16
number t.colon = 17
number t.dot = 18
number t.dollar = 19
number t.at = 20
number t.word_if = 21
number t.word_then = 22
number t.word_elseif = 23
number t.word_else = 24
number t.word_end = 25
number t.word_foreach = 26
number t.word_while = 27
number t.word_do = 28
number t.foreign = 29
number _ = 0

-- whether the first terminal is this one, which says no more than its kind
abbrev pub headed : Terminal → List Terminal → Bool
headed mark [] = false
headed mark (first ∷ ts) = number first == number mark

abbrev pub tail : List Terminal → List Terminal
tail [] = []
tail (first ∷ ts) = ts

-- what units between brackets are for
pub data Closing : Type 0 where
  of_call : List ℕ → Closing
  of_quote : List ℕ → Closing
  -- behind a dot, with what stands before it
  of_method : List ℕ → ExpTree → Closing
  of_list : Closing
  of_array : Closing
  -- of an array, or not; with the item
  of_collect : Bool → ExpTree → Closing
  of_foreach : Closing

-- An open phrase, which waits for an operand.
pub data Frame : Type 0 where
  signed : Phrase → List ℕ → Frame
  -- `-`, with the terminals behind it
  minus : List Terminal → Frame
  joining : Line → List ℕ → ExpTree → Frame
  relation : List ℕ → ExpTree → Frame
  range_from : ExpTree → Frame
  range_step : ExpTree → ExpTree → Frame
  power : ExpTree → Frame
  conjuncts : ExpTrees → Frame
  branches : ExpTrees → Frame
  arrow : ExpTree → Frame
  pattern : List ℕ → Frame
  -- parentheses, behind `$` or not
  parens : Bool → Frame
  items : Closing → ExpTrees → Frame
  list_tail : ExpTrees → Frame
  indexing : ExpTree → Frame
  foreach_body : ExpTrees → Frame
  while_test : Frame
  while_body : ExpTree → Frame
  do_body : Frame
  do_test : ExpTree → Frame
  if_test : ExpBranches → Frame
  if_body : ExpBranches → ExpTree → Frame
  if_last : ExpBranches → Frame

-- Before an operand; or behind a phrase, which may be indexed or not. The newest open phrase comes first.
pub data State : Type 0 where
  operand : List Frame → List Terminal → State
  value : List Frame → Phrase → Bool → ExpTree → List Terminal → State

pub data Outcome : Type 0 where
  next : State → Outcome
  done : ExpTree → Outcome
  fail : Outcome

-- the rank of the operand that is waited for
abbrev pub wants : Frame → ℕ
wants (signed k name) = rank k
wants (minus ts) = 19
wants (joining l name a) = rank (operand_of l)
wants (relation name a) = 12
wants (range_from a) = 13
wants (range_step a b) = 13
wants (power a) = 19
wants (conjuncts es) = 4
wants (branches es) = 2
wants (arrow c) = 3
wants (pattern name) = 22
wants (parens quoted) = 1
wants (items c es) = 4
wants (list_tail es) = 4
wants (indexing e) = 4
wants (foreach_body es) = 1
wants while_test = 1
wants (while_body c) = 1
wants do_body = 1
wants (do_test e) = 1
wants (if_test bs) = 1
wants (if_body bs c) = 1
wants (if_last bs) = 1

abbrev pub wanted : List Frame → ℕ
wanted [] = 1
wanted (f ∷ fs) = wants f

-- behind the terminal, where it comes first
abbrev pub choose : Terminal → List Terminal → (List Terminal → Outcome) → Outcome → Outcome
choose mark ts behind otherwise = if headed mark ts then behind (tail ts) else otherwise

abbrev pub opened : Frame → List Frame → List Terminal → Outcome
opened f fs ts = next (operand (f ∷ fs) ts)

abbrev pub found : List Frame → ExpTree → List Terminal → Outcome
found fs e ts = next (value fs prim false e ts)

abbrev pub when : Bool → Outcome → Outcome
when holds outcome = if holds then outcome else fail

-- units that are closed by their bracket, behind which `ts` stands
abbrev pub closed : List Frame → Closing → ExpTrees → List Terminal → Outcome
closed fs (of_call name) es ts = next (value fs prim true (call name es) ts)
closed fs (of_quote name) es ts = found fs (quote (call name es)) ts
closed fs (of_method name e) es ts = next (value fs post true (call name (exp_before e es)) ts)
closed fs of_list es ts = found fs (list es) ts
closed fs of_array es ts = found fs (array es) ts
closed fs (of_collect is_array e) es ts = found fs (collect is_array e es) ts
closed fs of_foreach es ts = opened (foreach_body es) fs ts

-- the bracket that closes units
abbrev pub closer : Closing → Terminal
closer (of_call name) = t.close_paren
closer (of_quote name) = t.close_paren
closer (of_method name e) = t.close_paren
closer of_list = t.close_bracket
closer of_array = t.close_brace
closer (of_collect true e) = t.close_brace
closer (of_collect false e) = t.close_bracket
closer of_foreach = t.close_paren

-- behind `(`: units in parentheses, or none
abbrev pub arguments : Closing → List Frame → List Terminal → Outcome
arguments c fs ts = choose t.close_paren ts (closed fs c no_exps) (opened (items c no_exps) fs ts)

abbrev pub enter_term : List Frame → List Terminal → Outcome
enter_term fs (t.atom name ∷ ts) = choose t.open_paren ts (arguments (of_quote name) fs) fail
enter_term fs ts = choose t.open_paren ts (opened (parens true) fs) fail

abbrev pub enter_sign : Phrase → List ℕ → List Frame → List Terminal → Outcome
enter_sign k name fs ts = when (nat_le (wanted fs) (rank k)) (opened (signed k name) fs ts)

-- the step before an operand
abbrev pub enter : List Frame → List Terminal → Outcome
enter fs (t.goal_sign name ∷ ts) = enter_sign unit name fs ts
enter fs (t.constraint_not ∷ ts) = enter_sign negation (codes "#~") fs ts
enter fs (t.plus ∷ ts) = enter_sign unary (codes "+") fs ts
enter fs (t.complement ∷ ts) = enter_sign unary (codes "~") fs ts
enter fs (t.minus ∷ ts) = when (nat_le (wanted fs) 19) (opened (minus ts) fs ts)
enter fs (t.variable name ∷ ts) = choose t.at ts (opened (pattern name) fs) (next (value fs prim true (var name) ts))
enter fs (t.integer n ∷ ts) = found fs (int n) ts
enter fs (t.text meaning ∷ ts) = found fs (str meaning) ts
enter fs (t.atom name ∷ ts) = choose t.open_paren ts (arguments (of_call name) fs) (found fs (atom_of name) ts)
enter fs (t.open_paren ∷ ts) = opened (parens false) fs ts
enter fs (t.open_bracket ∷ ts) = choose t.close_bracket ts (found fs (list no_exps)) (opened (items of_list no_exps) fs ts)
enter fs (t.open_brace ∷ ts) = choose t.close_brace ts (found fs (array no_exps)) (opened (items of_array no_exps) fs ts)
enter fs (t.dollar ∷ ts) = enter_term fs ts
enter fs (t.word_if ∷ ts) = opened (if_test no_branches) fs ts
enter fs (t.word_foreach ∷ ts) = choose t.open_paren ts (opened (items of_foreach no_exps) fs) fail
enter fs (t.word_while ∷ ts) = choose t.open_paren ts (opened while_test fs) fail
enter fs (t.word_do ∷ ts) = opened do_body fs ts
enter fs _ = fail

abbrev pub enter_dot : List Frame → ExpTree → List Terminal → Outcome
enter_dot fs e (t.atom name ∷ ts) =
    choose t.open_paren ts (arguments (of_method name e) fs) (next (value fs post true (call_one name e) ts))
enter_dot fs e _ = fail

abbrev pub join_line : Line → List ℕ → List Frame → Phrase → ExpTree → List Terminal → Outcome
join_line l name fs k e ts = when (nat_le (line_rank l) (rank k)) (opened (joining l name e) fs ts)

-- the step behind a phrase that the next terminal goes on with
abbrev pub continue : List Frame → Phrase → Bool → ExpTree → List Terminal → Outcome
continue fs k indexable e (t.joint l name ∷ ts) = join_line l name fs k e ts
continue fs k indexable e (t.plus ∷ ts) = join_line sum (codes "+") fs k e ts
continue fs k indexable e (t.minus ∷ ts) = join_line sum (codes "-") fs k e ts
continue fs k indexable e (t.relation name ∷ ts) = when (nat_le 12 (rank k)) (opened (relation name e) fs ts)
continue fs k indexable e (t.dots ∷ ts) = when (nat_le 13 (rank k)) (opened (range_from e) fs ts)
continue fs k indexable e (t.power ∷ ts) = when (nat_le 21 (rank k)) (opened (power e) fs ts)
continue fs k indexable e (t.comma ∷ ts) = when (nat_le 4 (rank k)) (opened (conjuncts (one_exp e)) fs ts)
continue fs k indexable e (t.semicolon ∷ ts) = when (nat_le 2 (rank k)) (opened (branches (one_exp e)) fs ts)
continue fs k indexable e (t.arrow ∷ ts) = when (nat_le 3 (rank k)) (opened (arrow e) fs ts)
continue fs k indexable e (t.open_bracket ∷ ts) = when (nat_le 21 (rank k) && indexable) (opened (indexing e) fs ts)
continue fs k indexable e (t.dot ∷ ts) = when (nat_le 21 (rank k) && not (is_atom e)) (enter_dot fs e ts)
continue fs k indexable e _ = fail

-- a comprehension, behind its `:`, with no item before the one that was read
abbrev pub collect_by : Bool → ExpTrees → List Frame → ExpTree → List Terminal → Outcome
collect_by is_array no_exps fs e ts = opened (items (of_collect is_array e) no_exps) fs ts
collect_by is_array (exp_before f es) fs e ts = fail

-- what stands behind the units between brackets, where no comma does
abbrev pub close_items : Closing → ExpTrees → List Frame → ExpTree → List Terminal → Outcome
close_items of_list es fs e ts =
    choose t.bar ts (opened (list_tail (with_exp es e)) fs)
    (choose t.colon ts (collect_by false es fs e) (choose t.close_bracket ts (closed fs of_list (with_exp es e)) fail))
close_items of_array es fs e ts =
    choose t.colon ts (collect_by true es fs e) (choose t.close_brace ts (closed fs of_array (with_exp es e)) fail)
close_items c es fs e ts = choose (closer c) ts (closed fs c (with_exp es e)) fail

-- the step behind the operand of an open phrase
abbrev pub resume : Frame → List Frame → ExpTree → List Terminal → Outcome
resume (signed k name) fs e ts = next (value fs k false (call_one name e) ts)
resume (minus start) fs e ts = next (value fs unary false (negated (integer_alone start ts) e) ts)
resume (joining l name a) fs e ts = next (value fs (line l) false (call_two name a e) ts)
resume (relation name a) fs e ts = next (value fs relating false (call_two name a e) ts)
resume (range_from a) fs e ts = choose t.dots ts (opened (range_step a e) fs) (next (value fs range false (range_of a e) ts))
resume (range_step a b) fs e ts = next (value fs range false (range_by a b e) ts)
resume (power a) fs e ts = next (value fs pow false (call_two (codes "**") a e) ts)
resume (conjuncts es) fs e ts =
    choose t.comma ts (opened (conjuncts (with_exp es e)) fs) (next (value fs conj false (conjunction (with_exp es e)) ts))
resume (branches es) fs e ts =
    choose t.semicolon ts (opened (branches (with_exp es e)) fs) (next (value fs exp false (disjunction (with_exp es e)) ts))
resume (arrow c) fs e ts = when (headed t.semicolon ts) (next (value fs branch false (arrow_of c e) ts))
resume (pattern name) fs e ts = found fs (at_of name e) ts
resume (parens quoted) fs e ts = choose t.close_paren ts (found fs (if quoted then quote e else e)) fail
resume (items c es) fs e ts = choose t.comma ts (opened (items c (with_exp es e)) fs) (close_items c es fs e ts)
resume (list_tail es) fs e ts = choose t.close_bracket ts (found fs (list_onto es e)) fail
resume (indexing a) fs e ts =
    choose t.comma ts (opened (indexing (index a (one_exp e))) fs)
    (choose t.close_bracket ts (λ rest. next (value fs post true (index a (one_exp e)) rest)) fail)
resume (foreach_body es) fs e ts = choose t.word_end ts (found fs (foreach es e)) fail
resume while_test fs e ts = choose t.close_paren ts (opened (while_body e) fs) fail
resume (while_body c) fs e ts = choose t.word_end ts (found fs (while_do c e)) fail
resume do_body fs e ts =
    choose t.word_while ts (λ rest. choose t.open_paren rest (opened (do_test e) fs) fail) fail
resume (do_test body) fs e ts = choose t.close_paren ts (found fs (do_while body e)) fail
resume (if_test bs) fs e ts = choose t.word_then ts (opened (if_body bs e) fs) fail
resume (if_body bs c) fs e ts =
    choose t.word_elseif ts (opened (if_test (with_branch bs c e)) fs)
    (choose t.word_else ts (opened (if_last (with_branch bs c e)) fs)
    (choose t.word_end ts (found fs (if_then (with_branch bs c e))) fail))
resume (if_last bs) fs e ts = choose t.word_end ts (found fs (if_else bs e)) fail

-- where nothing is open, the whole is read if nothing is left
abbrev pub finish : ExpTree → List Terminal → Outcome
finish e [] = done e
finish e (first ∷ ts) = fail

abbrev pub resume_last : List Frame → ExpTree → List Terminal → Outcome
resume_last [] e ts = finish e ts
resume_last (f ∷ fs) e ts = resume f fs e ts

-- one step
unfoldable pub step : State → Outcome
step (operand fs ts) = enter fs ts
step (value fs k indexable e ts) =
    if nat_lt (reach_of ts) (wanted fs) then resume_last fs e ts else continue fs k indexable e ts

-- the state before the first step
abbrev pub begin : List Terminal → State
begin ts = operand [] ts

-- steps from a state end with this tree
pub data Runs : State → ExpTree → Type 0 where
  stop : {s : State} {e : ExpTree} → step s ≡ done e → Runs s e
  go : {s : State} {e : ExpTree} (n : State) → step s ≡ next n → Runs n e → Runs s e
