-- Each step of the machine keeps what is open as the grammar says.
use Rattle.std.proofs.Common.{◌≡◌, ℕ, ◌<◌, ◌≤◌, Bool, true, false, ◌&&◌, not, List, ◌∷◌, refl, sym, ap, subst, ◌∙◌, arith, nat_le}
use Rattle.pi_syntax.specs.ExpTree.{var as var_of, atom as atom_of, ExpTree, ExpTrees, ExpBranches, no_exps, no_branches, exp as exp_before, branch as branch_before, one_exp, call, list, array, quote, list_onto, index, range as range_of, foreach, while_do, do_while, if_then, if_else, arrow as arrow_of}
use Rattle.pi_syntax.specs.Terminals as t
use Rattle.pi_syntax.specs.Terminals.{Line, equivalence, implication, constraint_or, constraint_xor, constraint_and, bit_or, bit_xor, bit_and, shift, sum, product, Terminal, terminal}
use Rattle.pi_syntax.specs.Ranks.{line_rank, rank, reach_of}
use Rattle.pi_syntax.specs.Grammar.{Phrase, exp, branch, conj, unit, line, range, unary, post, prim, operand as operand_of, Joins, a_joint, a_plus, a_minus, call_one, conjunction, disjunction, integer_alone, negated, indexed, takes_index, is_atom, Reads, branches, an_arrow, conjuncts, related, a_range, a_stepped_range, with_minus, a_power, a_variable, a_pattern, an_integer, an_atom, a_call, a_text, no_list, a_list, a_list_onto, a_list_of, no_array, an_array, an_array_of, in_parens, a_structure, a_term, an_if, an_if_else, a_foreach, a_while, a_do_while, Branches, last_branch, more_branches, Units, last_unit, more_units, Postfixes, an_index, a_dot, a_dot_call, Arguments, no_arguments, arguments as in_arguments, Choices, last_choice, more_choices}
use Rattle.pi_syntax.proofs.GrammarLemmas.{line_rank-above, line_rank-operand}
use Rattle.pi_expr_phrases.specs.Machine as m
use Rattle.pi_expr_phrases.specs.Machine.{with_exp, with_branch, number, headed, tail, Closing, of_call, of_quote, of_method, of_list, of_array, of_collect, of_foreach, Frame, State, operand, value, Outcome, next, done, fail, wants, wanted, enter, continue, resume, resume_last, finish, when, choose, closed, closer, close_items, collect_by, arguments, enter_term, enter_sign, enter_dot, join_line, step, begin, Runs, stop, go}
use Rattle.pi_expr.proofs.Steps.{plus_exps-one, plus_exps-none, variable_takes, atom_takes_no}
use Rattle.pi_expr.proofs.Complete.{plus_branches-none, IsArgument, a_called, a_quoted, a_method}
use Rattle.pi_expr.proofs.Sound.{Signs, goal, inverse, plus, complement, PostSo, UnitsSo, ChoicesSo, Begins, gives_units, Stacked, Held, GoodOutcome, good_choose, good_when, wanted_most, nat_le-is, and-left, and-right, not-true, holds_at, holds_branch, holds_conj, holds_exp, holds_post, reads_holds, reads_signed, signs_rank, reads_joined, reads_from, reads_to, good_prim}

units_none : (ts : List Terminal) → UnitsSo ts no_exps ts
units_none ts us rest u = subst (λ (x : ExpTrees). Units ts x rest) (sym (plus_exps-none us)) u

choices_none : (ts : List Terminal) → ChoicesSo ts no_branches ts
choices_none ts cs rest c = subst (λ (x : ExpBranches). Choices ts x rest) (sym (plus_branches-none cs)) c

no_units : {ts rest : List Terminal} → Units ts no_exps rest → ⊥
no_units u = elim u [ ]

one_unit : {ts rest : List Terminal} {e : ExpTree} → Units ts (one_exp e) rest → Reads unit ts e rest
one_unit (last_unit d) = d
one_unit (more_units d us) = absurd (no_units us)

units_to : {ts rest other : List Terminal} {es : ExpTrees} → rest ≡ other → Units ts es rest → Units ts es other
units_to {ts} {es = es} p d = subst (λ (x : List Terminal). Units ts es x) p d

choices_to : {ts rest other : List Terminal} {bs : ExpBranches} → rest ≡ other → Choices ts bs rest → Choices ts bs other
choices_to {ts} {bs = bs} p d = subst (λ (x : List Terminal). Choices ts bs x) p d

behind : (u : Terminal) {ts us : List Terminal} → ts ≡ us → ◌≡◌ {A = List Terminal} (u ∷ ts) (u ∷ us)
behind u p = ap (λ (x : List Terminal). u ∷ x) p

arguments_from : {first rest : List Terminal} → first ≡ t.close_paren ∷ rest → Arguments (t.open_paren ∷ first) no_exps rest
arguments_from {rest = rest} p = subst (λ (x : List Terminal). Arguments (t.open_paren ∷ x) no_exps rest) (sym p) no_arguments

good_index : (k : Phrase) (b : Bool) (e : ExpTree) (before ts : List Terminal) → Held k b before e (t.open_bracket ∷ ts) → 21 ≤ rank k
    → b ≡ true → (is : ExpTrees) (rest : List Terminal) → Units ts is (t.close_bracket ∷ rest) → PostSo true before (indexed e is) rest
good_index k b e before ts d h p is rest u f end q =
    holds_post k h d f end (subst (λ (x : Bool). Postfixes x e (t.open_bracket ∷ ts) f end) (sym p) (an_index u q))

module _ (start : List Terminal) where
  -- before an operand

  good_sign : {k : Phrase} {name : List ℕ} {u : Terminal} (fs : List Frame) (ts : List Terminal) → Signs k name u → Stacked start fs (u ∷ ts)
      → GoodOutcome start (enter_sign k name fs ts)
  good_sign {k} {name} {u} fs ts g st =
      good_when start (nat_le (wanted fs) (rank k)) (m.opened (m.signed k name) fs ts) (λ h. (u ∷ ts, st, (u, g, refl), nat_le-is (wanted fs) (rank k) h))

  good_called : {c : Closing} → IsArgument c → (fs : List Frame) (before first : List Terminal) (es : ExpTrees) (rest : List Terminal)
      → Stacked start fs before → Begins c before first → wanted fs ≤ rank (gives_units c) → Arguments (t.open_paren ∷ first) es rest
      → GoodOutcome start (closed fs c es rest)
  good_called (a_called {name}) fs before first es rest st b w a =
      good_prim start fs before rest (call name es) true st (reads_from b (a_call a)) (sym (ap takes_index b))
  good_called (a_quoted {name}) fs before first es rest st b w a =
      good_prim start fs before rest (quote (call name es)) false st (reads_from b (a_structure a)) (sym (ap takes_index b))
  good_called (a_method {name} {e}) fs before first es rest st b w a =
      (before, st, record { is = λ f end p. b.1 f end (a_dot_call b.2 a p) }, w)

  good_arguments : {c : Closing} → IsArgument c → (fs : List Frame) (before first : List Terminal)
      → Stacked start fs before → Begins c before first → wanted fs ≤ rank (gives_units c) → GoodOutcome start (arguments c fs first)
  good_arguments {c} i fs before first st b w =
      good_choose start t.close_paren first (closed fs c no_exps) (m.opened (m.items c no_exps) fs first) (omega arith)
      (λ rest p. good_called i fs before first no_exps rest st b w (arguments_from p))
      (λ no. (before, st, (first, b, units_none first), w))

  good_term : (fs : List Frame) (ts : List Terminal) → Stacked start fs (t.dollar ∷ ts) → GoodOutcome start (enter_term fs ts)
  good_term fs (t.atom name ∷ ts) st =
      good_choose start t.open_paren ts (arguments (of_quote name) fs) fail (omega arith)
      (λ rest p. good_arguments (a_quoted {name = name}) fs (t.dollar ∷ t.atom name ∷ ts) rest st (behind t.dollar (behind (t.atom name) p)) (wanted_most fs))
      (λ no. tt)
  good_term fs ts st =
      good_choose start t.open_paren ts (m.opened (m.parens true) fs) fail (omega arith)
      (λ rest p. (t.dollar ∷ ts, st, behind t.dollar p, wanted_most fs))
      (λ no. tt)

  pub good_enter : (fs : List Frame) (ts : List Terminal) → Stacked start fs ts → GoodOutcome start (enter fs ts)
  good_enter fs (t.goal_sign name ∷ ts) st = good_sign fs ts goal st
  good_enter fs (t.constraint_not ∷ ts) st = good_sign fs ts inverse st
  good_enter fs (t.plus ∷ ts) st = good_sign fs ts plus st
  good_enter fs (t.complement ∷ ts) st = good_sign fs ts complement st
  good_enter fs (t.minus ∷ ts) st =
      good_when start (nat_le (wanted fs) 19) (m.opened (m.minus ts) fs ts) (λ h. (t.minus ∷ ts, st, (refl, refl), nat_le-is (wanted fs) 19 h))
  good_enter fs (t.variable name ∷ ts) st =
      good_choose start t.at ts (m.opened (m.pattern name) fs) (next (value fs prim true (var_of name) ts)) (omega arith)
      (λ rest p. (t.variable name ∷ ts, st, behind (t.variable name) p, wanted_most fs))
      (λ no. good_prim start fs (t.variable name ∷ ts) ts (var_of name) true st a_variable (sym (variable_takes name ts no)))
  good_enter fs (t.integer n ∷ ts) st = good_prim start fs (t.integer n ∷ ts) ts _ false st an_integer refl
  good_enter fs (t.text meaning ∷ ts) st = good_prim start fs (t.text meaning ∷ ts) ts _ false st a_text refl
  good_enter fs (t.atom name ∷ ts) st =
      good_choose start t.open_paren ts (arguments (of_call name) fs) (m.found fs (atom_of name) ts) (omega arith)
      (λ rest p. good_arguments (a_called {name = name}) fs (t.atom name ∷ ts) rest st (behind (t.atom name) p) (wanted_most fs))
      (λ no. good_prim start fs (t.atom name ∷ ts) ts _ false st an_atom (sym (atom_takes_no name ts no)))
  good_enter fs (t.open_paren ∷ ts) st = (t.open_paren ∷ ts, st, refl, wanted_most fs)
  good_enter fs (t.open_bracket ∷ ts) st =
      good_choose start t.close_bracket ts (m.found fs (list no_exps)) (m.opened (m.items of_list no_exps) fs ts) (omega arith)
      (λ rest p. good_prim start fs (t.open_bracket ∷ ts) rest _ false st (reads_from (behind t.open_bracket p) no_list) refl)
      (λ no. (t.open_bracket ∷ ts, st, (ts, refl, units_none ts), wanted_most fs))
  good_enter fs (t.open_brace ∷ ts) st =
      good_choose start t.close_brace ts (m.found fs (array no_exps)) (m.opened (m.items of_array no_exps) fs ts) (omega arith)
      (λ rest p. good_prim start fs (t.open_brace ∷ ts) rest _ false st (reads_from (behind t.open_brace p) no_array) refl)
      (λ no. (t.open_brace ∷ ts, st, (ts, refl, units_none ts), wanted_most fs))
  good_enter fs (t.dollar ∷ ts) st = good_term fs ts st
  good_enter fs (t.word_if ∷ ts) st = (t.word_if ∷ ts, st, (ts, refl, choices_none ts), wanted_most fs)
  good_enter fs (t.word_foreach ∷ ts) st =
      good_choose start t.open_paren ts (m.opened (m.items of_foreach no_exps) fs) fail (omega arith)
      (λ rest p. (t.word_foreach ∷ ts, st, (rest, behind t.word_foreach p, units_none rest), wanted_most fs))
      (λ no. tt)
  good_enter fs (t.word_while ∷ ts) st =
      good_choose start t.open_paren ts (m.opened m.while_test fs) fail (omega arith)
      (λ rest p. (t.word_while ∷ ts, st, behind t.word_while p, wanted_most fs))
      (λ no. tt)
  good_enter fs (t.word_do ∷ ts) st = (t.word_do ∷ ts, st, refl, wanted_most fs)
  good_enter fs _ st = tt

  -- behind a phrase

  good_line : {l : Line} {u : Terminal} {name : List ℕ} (fs : List Frame) (k : Phrase) {b : Bool} {e : ExpTree} (before ts : List Terminal)
      → Joins l u name → Stacked start fs before → Held k b before e (u ∷ ts) → wanted fs ≤ line_rank l
      → GoodOutcome start (join_line l name fs k e ts)
  good_line {l} {u} {name} fs k {b} {e} before ts j st d w =
      good_when start (nat_le (line_rank l) (rank k)) (m.opened (m.joining l name e) fs ts)
      (λ h. (before, st, (u, j, holds_at (line l) k (omega (arith, line_rank-above l)) (nat_le-is (line_rank l) (rank k) h) d), w))

  good_dot : (fs : List Frame) (e : ExpTree) (b : Bool) (before ts : List Terminal) → Stacked start fs before → PostSo b before e (t.dot ∷ ts)
      → is_atom e ≡ false → wanted fs ≤ 21 → GoodOutcome start (enter_dot fs e ts)
  good_dot fs e b before (t.atom name ∷ ts) st so apart w =
      good_choose start t.open_paren ts (arguments (of_method name e) fs) (next (value fs post true (call_one name e) ts)) (omega arith)
      (λ rest p. good_arguments (a_method {name = name} {e = e}) fs before rest st
      (b, subst (λ (x : List Terminal). PostSo b before e (t.dot ∷ t.atom name ∷ x)) p so, apart) w)
      (λ other. (before, st, record { is = λ f end p. so f end (a_dot apart p) }, w))
  good_dot fs e b before _ st so apart w = tt

  pub good_continue : (fs : List Frame) (k : Phrase) (b : Bool) (e : ExpTree) (before ts : List Terminal) → Stacked start fs before
      → Held k b before e ts → wanted fs ≤ reach_of ts → GoodOutcome start (continue fs k b e ts)
  good_continue fs k b e before (t.joint l name ∷ ts) st d w = good_line fs k before ts a_joint st d w
  good_continue fs k b e before (t.plus ∷ ts) st d w = good_line fs k before ts a_plus st d w
  good_continue fs k b e before (t.minus ∷ ts) st d w = good_line fs k before ts a_minus st d w
  good_continue fs k b e before (t.relation name ∷ ts) st d w =
      good_when start (nat_le 12 (rank k)) (m.opened (m.relation name e) fs ts)
      (λ h. (before, st, holds_at range k (omega arith) (nat_le-is 12 (rank k) h) d, w))
  good_continue fs k b e before (t.dots ∷ ts) st d w =
      good_when start (nat_le 13 (rank k)) (m.opened (m.range_from e) fs ts)
      (λ h. (before, st, holds_at (line bit_or) k (omega arith) (nat_le-is 13 (rank k) h) d, w))
  good_continue fs k b e before (t.power ∷ ts) st d w =
      good_when start (nat_le 21 (rank k)) (m.opened (m.power e) fs ts)
      (λ h. (before, st, holds_at post k (omega arith) (nat_le-is 21 (rank k) h) d, w))
  good_continue fs k b e before (t.comma ∷ ts) st d w =
      good_when start (nat_le 4 (rank k)) (m.opened (m.conjuncts (one_exp e)) fs ts)
      (λ h. (
        before,
        st,
        (λ us rest u. subst (λ (x : ExpTrees). Units before x rest) (sym (plus_exps-one e us))
            (more_units (holds_at unit k (omega arith) (nat_le-is 4 (rank k) h) d) u)),
        w,
      ))
  good_continue fs k b e before (t.semicolon ∷ ts) st d w =
      good_when start (nat_le 2 (rank k)) (m.opened (m.branches (one_exp e)) fs ts)
      (λ h. (
        before,
        st,
        (λ bs rest u. subst (λ (x : ExpTrees). Branches before x rest) (sym (plus_exps-one e bs))
            (more_branches (holds_branch k (nat_le-is 2 (rank k) h) d) u)),
        w,
      ))
  good_continue fs k b e before (t.arrow ∷ ts) st d w =
      good_when start (nat_le 3 (rank k)) (m.opened (m.arrow e) fs ts)
      (λ h. (before, st, holds_at conj k (omega arith) (nat_le-is 3 (rank k) h) d, w))
  good_continue fs k b e before (t.open_bracket ∷ ts) st d w =
      good_when start (nat_le 21 (rank k) && b) (m.opened (m.indexing e) fs ts)
      (λ h. (before, st, good_index k b e before ts d (nat_le-is 21 (rank k) (and-left _ b h)) (and-right (nat_le 21 (rank k)) b h), w))
  good_continue fs k b e before (t.dot ∷ ts) st d w =
      good_when start (nat_le 21 (rank k) && not (is_atom e)) (enter_dot fs e ts)
      (λ h. good_dot fs e b before ts st (holds_post k (nat_le-is 21 (rank k) (and-left _ _ h)) d)
      (not-true (is_atom e) (and-right (nat_le 21 (rank k)) _ h)) w)
  good_continue fs k b e before _ st d w = tt

  -- behind the operand of an open phrase

  good_collect : (is_array : Bool) (es : ExpTrees) (fs : List Frame) (before first here rest : List Terminal) (e : ExpTree)
      → Stacked start fs before → UnitsSo first es here → Reads unit here e (t.colon ∷ rest)
      → (Reads unit first e (t.colon ∷ rest) → Begins (of_collect is_array e) before rest)
      → GoodOutcome start (collect_by is_array es fs e rest)
  good_collect is_array no_exps fs before first here rest e st so d f =
      (before, st, (rest, f (one_unit (so (one_exp e) (t.colon ∷ rest) (last_unit d))), units_none rest), wanted_most fs)
  good_collect is_array (exp_before g es) fs before first here rest e st so d f = tt

  good_items : (c : Closing) (es : ExpTrees) (fs : List Frame) (before first here ts : List Terminal) (e : ExpTree)
      → Stacked start fs before → Begins c before first → UnitsSo first es here → wanted fs ≤ rank (gives_units c) → Reads unit here e ts
      → GoodOutcome start (close_items c es fs e ts)
  good_items of_list es fs before first here ts e st b so w d =
      let u = so (one_exp e) ts (last_unit d) in
      good_choose start t.bar ts (m.opened (m.list_tail (with_exp es e)) fs) _ (omega arith)
      (λ rest p. (before, st, (first, b, units_to p u), wanted_most fs))
      (λ no. good_choose start t.colon ts (collect_by false es fs e)
      (choose t.close_bracket ts (closed fs of_list (with_exp es e)) fail) (omega arith)
      (λ rest p. good_collect false es fs before first here rest e st so (reads_to p d) (λ r. (first, b, r)))
      (λ other. good_choose start t.close_bracket ts (closed fs of_list (with_exp es e)) fail (omega arith)
      (λ rest p. good_prim start fs before rest _ false st (reads_from b (a_list (units_to p u))) (sym (ap takes_index b)))
      (λ none. tt)))
  good_items of_array es fs before first here ts e st b so w d =
      let u = so (one_exp e) ts (last_unit d) in
      good_choose start t.colon ts (collect_by true es fs e)
      (choose t.close_brace ts (closed fs of_array (with_exp es e)) fail) (omega arith)
      (λ rest p. good_collect true es fs before first here rest e st so (reads_to p d) (λ r. (first, b, r)))
      (λ other. good_choose start t.close_brace ts (closed fs of_array (with_exp es e)) fail (omega arith)
      (λ rest p. good_prim start fs before rest _ false st (reads_from b (an_array (units_to p u))) (sym (ap takes_index b)))
      (λ none. tt))
  good_items (of_call name) es fs before first here ts e st b so w d =
      good_choose start t.close_paren ts (closed fs (of_call name) (with_exp es e)) fail (omega arith)
      (λ rest p. good_called (a_called {name = name}) fs before first (with_exp es e) rest st b w
      (in_arguments (units_to p (so (one_exp e) ts (last_unit d)))))
      (λ none. tt)
  good_items (of_quote name) es fs before first here ts e st b so w d =
      good_choose start t.close_paren ts (closed fs (of_quote name) (with_exp es e)) fail (omega arith)
      (λ rest p. good_called (a_quoted {name = name}) fs before first (with_exp es e) rest st b w
      (in_arguments (units_to p (so (one_exp e) ts (last_unit d)))))
      (λ none. tt)
  good_items (of_method name o) es fs before first here ts e st b so w d =
      good_choose start t.close_paren ts (closed fs (of_method name o) (with_exp es e)) fail (omega arith)
      (λ rest p. good_called (a_method {name = name} {e = o}) fs before first (with_exp es e) rest st b w
      (in_arguments (units_to p (so (one_exp e) ts (last_unit d)))))
      (λ none. tt)
  good_items (of_collect false i) es fs before first here ts e st b so w d =
      good_choose start t.close_bracket ts (closed fs (of_collect false i) (with_exp es e)) fail (omega arith)
      (λ rest p. good_prim start fs before rest _ false st
      (reads_from b.1 (a_list_of b.2 (units_to p (so (one_exp e) ts (last_unit d))))) (sym (ap takes_index b.1)))
      (λ none. tt)
  good_items (of_collect true i) es fs before first here ts e st b so w d =
      good_choose start t.close_brace ts (closed fs (of_collect true i) (with_exp es e)) fail (omega arith)
      (λ rest p. good_prim start fs before rest _ false st
      (reads_from b.1 (an_array_of b.2 (units_to p (so (one_exp e) ts (last_unit d))))) (sym (ap takes_index b.1)))
      (λ none. tt)
  good_items of_foreach es fs before first here ts e st b so w d =
      good_choose start t.close_paren ts (closed fs of_foreach (with_exp es e)) fail (omega arith)
      (λ rest p. (before, st, (first, b, units_to p (so (one_exp e) ts (last_unit d))), wanted_most fs))
      (λ none. tt)

  pub good_resume : (f : Frame) (fs : List Frame) (k : Phrase) (b : Bool) (e : ExpTree) (here ts : List Terminal) → Stacked start (f ∷ fs) here
      → Held k b here e ts → wants f ≤ rank k → reach_of ts < wants f → GoodOutcome start (resume f fs e ts)
  good_resume (m.signed j name) fs k b e here ts st d w r =
      let o = st.2 in
      let h = signs_rank o.1 in
      let x = reads_signed o.1 (holds_at j k (omega arith) w d) in
      (st.0, st.1, record { is = reads_holds j h.0 h.1 (reads_from o.2 x) }, st.3)
  good_resume (m.minus start_of_it) fs k b e here ts st d w r =
      let o = st.2 in
      let x = with_minus (holds_at unary k (omega arith) w d) in (
        st.0,
        st.1,
        record {
          is = reads_holds unary (omega arith) (omega arith) (reads_from o.0
              (subst (λ (y : List Terminal). Reads unary (t.minus ∷ here) (negated (integer_alone y ts) e) ts) (sym o.1) x));
        },
        st.3,
      )
  good_resume (m.joining l name a) fs k b e here ts st d w r =
      let o = st.2 in
      let x = reads_joined o.2 o.1 (holds_at (operand_of l) k (omega (arith, line_rank-above l, line_rank-operand l)) w d) in
      (st.0, st.1, record { is = x }, st.3)
  good_resume (m.relation name a) fs k b e here ts st d w r =
      (st.0, st.1, record { is = related st.2 (holds_at range k (omega arith) w d) }, st.3)
  good_resume (m.range_from a) fs k b e here ts st d w r =
      let x = holds_at (line bit_or) k (omega arith) w d in
      good_choose start t.dots ts (m.opened (m.range_step a e) fs) (next (value fs range false (range_of a e) ts)) (omega arith)
      (λ rest p. (st.0, st.1, (here, st.2, reads_to p x), st.3))
      (λ no. (st.0, st.1, record { is = a_range st.2 x }, st.3))
  good_resume (m.range_step a c) fs k b e here ts st d w r =
      let o = st.2 in
      (st.0, st.1, record { is = a_stepped_range o.1 o.2 (holds_at (line bit_or) k (omega arith) w d) }, st.3)
  good_resume (m.power a) fs k b e here ts st d w r =
      (st.0, st.1, record { is = a_power st.2 (holds_at unary k (omega arith) w d) }, st.3)
  good_resume (m.conjuncts es) fs k b e here ts st d w r =
      let x = holds_at unit k (omega arith) w d in
      good_choose start t.comma ts (m.opened (m.conjuncts (with_exp es e)) fs) (next (value fs conj false (conjunction (with_exp es e)) ts)) (omega arith)
      (λ rest p. (st.0, st.1, (λ us end u. st.2 (exp_before e us) end (more_units (reads_to p x) u)), st.3))
      (λ no. (st.0, st.1, record { is = conjuncts (st.2 (one_exp e) ts (last_unit x)) }, st.3))
  good_resume (m.branches es) fs k b e here ts st d w r =
      good_choose start t.semicolon ts (m.opened (m.branches (with_exp es e)) fs) (next (value fs exp false (disjunction (with_exp es e)) ts)) (omega arith)
      (λ rest p. (st.0, st.1, (λ us end u. st.2 (exp_before e us) end (more_branches (reads_to p (holds_branch k w d)) u)), st.3))
      (λ no. (st.0, st.1, record { is = branches (st.2 (one_exp e) ts (last_branch (holds_conj k w no d))) }, st.3))
  good_resume (m.arrow c) fs k b e here ts st d w r =
      good_when start (headed t.semicolon ts) (next (value fs branch false (arrow_of c e) ts))
      (λ h. (st.0, st.1, record { is = (an_arrow st.2 (holds_at conj k (omega arith) w d), h) }, st.3))
  good_resume (m.pattern name) fs k b e here ts st d w r =
      good_prim start fs st.0 ts _ false st.1 (reads_from st.2 (a_pattern (holds_at prim k (omega arith) w d))) (sym (ap takes_index st.2))
  good_resume (m.parens false) fs k b e here ts st d w r =
      good_choose start t.close_paren ts (m.found fs e) fail (omega arith)
      (λ rest p. good_prim start fs st.0 rest _ false st.1 (reads_from st.2 (in_parens (reads_to p (holds_exp k r d)))) (sym (ap takes_index st.2)))
      (λ no. tt)
  good_resume (m.parens true) fs k b e here ts st d w r =
      good_choose start t.close_paren ts (m.found fs (quote e)) fail (omega arith)
      (λ rest p. good_prim start fs st.0 rest _ false st.1 (reads_from st.2 (a_term (reads_to p (holds_exp k r d)))) (sym (ap takes_index st.2)))
      (λ no. tt)
  good_resume (m.items c es) fs k b e here ts st d w r =
      let o = st.2 in
      let x = holds_at unit k (omega arith) w d in
      good_choose start t.comma ts (m.opened (m.items c (with_exp es e)) fs) (close_items c es fs e ts) (omega arith)
      (λ rest p. (st.0, st.1, (o.0, o.1, λ us end u. o.2 (exp_before e us) end (more_units (reads_to p x) u)), st.3))
      (λ no. good_items c es fs st.0 o.0 here ts e st.1 o.1 o.2 st.3 x)
  good_resume (m.list_tail es) fs k b e here ts st d w r =
      let o = st.2 in
      good_choose start t.close_bracket ts (m.found fs (list_onto es e)) fail (omega arith)
      (λ rest p. good_prim start fs st.0 rest _ false st.1 (reads_from o.1 (a_list_onto o.2 (reads_to p (holds_at unit k (omega arith) w d)))) (sym (ap takes_index o.1)))
      (λ no. tt)
  good_resume (m.indexing a) fs k b e here ts st d w r =
      let x = holds_at unit k (omega arith) w d in
      good_choose start t.comma ts (m.opened (m.indexing (index a (one_exp e))) fs)
      (choose t.close_bracket ts (λ rest. next (value fs post true (index a (one_exp e)) rest)) fail) (omega arith)
      (λ rest p. (st.0, st.1, (λ is end u. st.2 (exp_before e is) end (more_units (reads_to p x) u)), st.3))
      (λ no. good_choose start t.close_bracket ts (λ rest. next (value fs post true (index a (one_exp e)) rest)) fail (omega arith)
      (λ rest p. (st.0, st.1, record { is = st.2 (one_exp e) rest (last_unit (reads_to p x)) }, st.3))
      (λ other. tt))
  good_resume (m.foreach_body es) fs k b e here ts st d w r =
      let o = st.2 in
      good_choose start t.word_end ts (m.found fs (foreach es e)) fail (omega arith)
      (λ rest p. good_prim start fs st.0 rest _ false st.1 (reads_from o.1 (a_foreach o.2 (reads_to p (holds_exp k r d)))) (sym (ap takes_index o.1)))
      (λ no. tt)
  good_resume m.while_test fs k b e here ts st d w r =
      good_choose start t.close_paren ts (m.opened (m.while_body e) fs) fail (omega arith)
      (λ rest p. (st.0, st.1, (here, st.2, reads_to p (holds_exp k r d)), st.3))
      (λ no. tt)
  good_resume (m.while_body c) fs k b e here ts st d w r =
      let o = st.2 in
      good_choose start t.word_end ts (m.found fs (while_do c e)) fail (omega arith)
      (λ rest p. good_prim start fs st.0 rest _ false st.1 (reads_from o.1 (a_while o.2 (reads_to p (holds_exp k r d)))) (sym (ap takes_index o.1)))
      (λ no. tt)
  good_resume m.do_body fs k b e here ts st d w r =
      good_choose start t.word_while ts (λ rest. choose t.open_paren rest (m.opened (m.do_test e) fs) fail) fail (omega arith)
      (λ rest p. good_choose start t.open_paren rest (m.opened (m.do_test e) fs) fail (omega arith)
      (λ end q. (st.0, st.1, (here, st.2, reads_to (p ∙ behind t.word_while q) (holds_exp k r d)), st.3))
      (λ no. tt))
      (λ no. tt)
  good_resume (m.do_test body) fs k b e here ts st d w r =
      let o = st.2 in
      good_choose start t.close_paren ts (m.found fs (do_while body e)) fail (omega arith)
      (λ rest p. good_prim start fs st.0 rest _ false st.1 (reads_from o.1 (a_do_while o.2 (reads_to p (holds_exp k r d)))) (sym (ap takes_index o.1)))
      (λ no. tt)
  good_resume (m.if_test bs) fs k b e here ts st d w r =
      let o = st.2 in
      good_choose start t.word_then ts (m.opened (m.if_body bs e) fs) fail (omega arith)
      (λ rest p. (st.0, st.1, (o.0, here, o.1, o.2, reads_to p (holds_exp k r d)), st.3))
      (λ no. tt)
  good_resume (m.if_body bs c) fs k b e here ts st d w r =
      let o = st.2 in
      let x = holds_exp k r d in
      good_choose start t.word_elseif ts (m.opened (m.if_test (with_branch bs c e)) fs) _ (omega arith)
      (λ rest p. (st.0, st.1, (o.0, o.2, λ cs end u. o.3 (branch_before c e cs) end (more_choices o.4 (reads_to p x) u)), st.3))
      (λ no. good_choose start t.word_else ts (m.opened (m.if_last (with_branch bs c e)) fs)
      (choose t.word_end ts (m.found fs (if_then (with_branch bs c e))) fail) (omega arith)
      (λ rest p. (st.0, st.1, (o.0, o.2, choices_to p (o.3 (branch_before c e no_branches) ts (last_choice o.4 x))), st.3))
      (λ other. good_choose start t.word_end ts (m.found fs (if_then (with_branch bs c e))) fail (omega arith)
      (λ rest p. good_prim start fs st.0 rest _ false st.1
      (reads_from o.2 (an_if (choices_to p (o.3 (branch_before c e no_branches) ts (last_choice o.4 x))))) (sym (ap takes_index o.2)))
      (λ none. tt)))
  good_resume (m.if_last bs) fs k b e here ts st d w r =
      let o = st.2 in
      good_choose start t.word_end ts (m.found fs (if_else bs e)) fail (omega arith)
      (λ rest p. good_prim start fs st.0 rest _ false st.1 (reads_from o.1 (an_if_else o.2 (reads_to p (holds_exp k r d)))) (sym (ap takes_index o.1)))
      (λ no. tt)
