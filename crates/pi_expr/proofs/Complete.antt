-- The machine reads every expression of the grammar: from a place before a phrase it comes to a place behind it.
use Rattle.std.proofs.Common.{◌≡◌, ℕ, ◌<◌, ◌≤◌, Bool, true, false, List, [], ◌∷◌, map, codes, refl, sym, ap, subst, ◌∙◌, arith, nat_le}
use Rattle.pi_syntax.specs.ExpTree.{ExpTree, ExpTrees, ExpBranches, no_exps, no_branches, exp as exp_before, branch as branch_before, one_exp, call, list, array, collect, index, if_then}
use Rattle.pi_syntax.specs.Terminals as t
use Rattle.pi_syntax.specs.Terminals.{Line, equivalence, implication, constraint_or, constraint_xor, constraint_and, bit_or, bit_xor, bit_and, shift, sum, product, Terminal, terminal}
use Rattle.pi_syntax.specs.Tokens.{Token}
use Rattle.pi_syntax.specs.Ranks.{line_rank, rank, reach, reach_of}
use Rattle.pi_syntax.proofs.GrammarLemmas.{line_rank-operand, reach-joins, reach_of-pow, stops_joined, stops_postfixes, begins, begins_units, ends_reach, EndsChoice}
use Rattle.pi_syntax.specs.Grammar.{Phrase, exp, branch, conj, unit, line, negation, relating, range, unary, pow, post, prim, operand as operand_of, Joins, a_joint, a_plus, a_minus, call_one, call_two, conjunction, disjunction, indexed, takes_index, HasExp, Reads, branches, no_arrow, an_arrow, conjuncts, signed_goal, plain_unit, joined, negative, positive, unrelated, related, no_range, a_range, a_stepped_range, with_plus, with_minus, with_complement, unsigned, no_power, a_power, postfixes, a_variable, a_pattern, an_integer, an_atom, a_call, a_text, no_list, a_list, a_list_onto, a_list_of, no_array, an_array, an_array_of, in_parens, a_structure, a_term, an_if, an_if_else, a_foreach, a_while, a_do_while, Branches, last_branch, more_branches, Units, last_unit, more_units, Joined, no_more, join, Postfixes, no_postfix, an_index, a_dot, a_dot_call, no_arguments, arguments as in_arguments, Choices, last_choice, more_choices}
use Rattle.pi_expr_phrases.specs.Machine as m
use Rattle.pi_expr_phrases.specs.Machine.{with_exp, with_branch, headed, tail, Closing, of_call, of_quote, of_method, of_list, of_array, of_collect, of_foreach, Frame, State, operand, value, Outcome, next, done, fail, wants, wanted, enter, continue, resume, when, choose, closed, closer, close_items, arguments, join_line, step, begin, Runs, stop, go}
use Rattle.pi_expr.proofs.Steps.{Goes, goes_then, enters, resumes, continues, resumed_last, nat_le-yes, plus_exps, plus_exps-none, plus_exps-one, not_semicolon, not_comma, not_dots, not_open_paren, not_at, not_close_paren, not_close_bracket, not_close_brace, variable_takes, atom_takes_no}

-- the machine comes from before the phrase to behind it, with a phrase that binds as tightly at least
pub record Arrives (k : Phrase) (fs : List Frame) (s : State) (e : ExpTree) (rest : List Terminal) : Type 0 where
  pub phrase : Phrase
  pub indexable : Bool
  pub tight : rank k ≤ rank phrase
  pub goes : Goes s (value fs phrase indexable e rest)

-- a branch stands before a semicolon, and behind another phrase nothing stands that goes on with it
abbrev pub Stops : Phrase → List Terminal → Type 0
Stops branch rest = headed t.semicolon rest ≡ true
Stops k rest = reach_of rest < rank k

pub reach-semicolon : (ts : List Terminal) → headed t.semicolon ts ≡ true → reach_of ts ≡ 1
reach-semicolon [] h = absurd (cc)
reach-semicolon (t.semicolon ∷ ts) h = refl
reach-semicolon (_ ∷ ts) h = absurd (cc)

stops_operand : (l : Line) (rest : List Terminal) → reach_of rest < rank (operand_of l) → Stops (operand_of l) rest
stops_operand equivalence rest h = h
stops_operand implication rest h = h
stops_operand constraint_or rest h = h
stops_operand constraint_xor rest h = h
stops_operand constraint_and rest h = h
stops_operand bit_or rest h = h
stops_operand bit_xor rest h = h
stops_operand bit_and rest h = h
stops_operand shift rest h = h
stops_operand sum rest h = h
stops_operand product rest h = h

operand_below : (l : Line) → rank (operand_of l) ≤ 21
operand_below equivalence = omega arith
operand_below implication = omega arith
operand_below constraint_or = omega arith
operand_below constraint_xor = omega arith
operand_below constraint_and = omega arith
operand_below bit_or = omega arith
operand_below bit_xor = omega arith
operand_below bit_and = omega arith
operand_below shift = omega arith
operand_below sum = omega arith
operand_below product = omega arith

continue-joins : {l : Line} {t : Terminal} {name : List ℕ} → Joins l t name → (fs : List Frame) (k : Phrase) (b : Bool) (e : ExpTree)
    (ts : List Terminal) → continue fs k b e (t ∷ ts) ≡ join_line l name fs k e ts
continue-joins a_joint fs k b e ts = refl
continue-joins a_plus fs k b e ts = refl
continue-joins a_minus fs k b e ts = refl

-- passing on what a phrase of a tighter line did
looser : {j : Phrase} {fs : List Frame} {s : State} {e : ExpTree} {rest : List Terminal} (k : Phrase) → rank k ≤ rank j
    → Arrives j fs s e rest → Arrives k fs s e rest
looser k h a = record { phrase = a.phrase; indexable = a.indexable; tight = omega arith; goes = a.goes }

arrived : {k : Phrase} {fs : List Frame} {s : State} {e : ExpTree} {rest : List Terminal} (j : Phrase) (b : Bool) → rank k ≤ rank j
    → Goes s (value fs j b e rest) → Arrives k fs s e rest
arrived j b h g = record { phrase = j; indexable = b; tight = h; goes = g }

when_le : (c n : ℕ) → c ≤ n → (o : Outcome) → when (nat_le c n) o ≡ o
when_le c n h o = rw (nat_le-yes c n h) refl

-- the terminal behind a phrase opens another
pushes : {k : Phrase} {fs : List Frame} {s n : State} {e : ExpTree} {ts : List Terminal} → Arrives k fs s e ts
    → wanted fs ≤ reach_of ts → ((j : Phrase) (b : Bool) → rank k ≤ rank j → continue fs j b e ts ≡ next n) → Goes s n
pushes a w f = goes_then a.goes (continues w (f a.phrase a.indexable a.tight))

-- a phrase is an open one's operand
closes : {k : Phrase} {f : Frame} {fs : List Frame} {s n : State} {e : ExpTree} {ts : List Terminal} → Arrives k (f ∷ fs) s e ts
    → reach_of ts < wants f → resume f fs e ts ≡ next n → Goes s n
closes a h p = goes_then a.goes (resumes h p)

choose_no : (mark : Terminal) (ts : List Terminal) (f : List Terminal → Outcome) (o : Outcome) → headed mark ts ≡ false
    → choose mark ts f o ≡ o
choose_no mark ts f o h = rw h refl

-- behind the bracket that closes arguments, for what these may be
pub data IsArgument : Closing → Type 0 where
  a_called : {name : List ℕ} → IsArgument (of_call name)
  a_quoted : {name : List ℕ} → IsArgument (of_quote name)
  a_method : {name : List ℕ} {e : ExpTree} → IsArgument (of_method name e)

close_argument : {c : Closing} → IsArgument c → (acc : ExpTrees) (fs : List Frame) (e : ExpTree) (ts : List Terminal)
    → close_items c acc fs e (t.close_paren ∷ ts) ≡ closed fs c (with_exp acc e) ts
close_argument a_called acc fs e ts = refl
close_argument a_quoted acc fs e ts = refl
close_argument a_method acc fs e ts = refl

-- The last of units between brackets: the ones before it are in the open phrase.
record Listed (c : Closing) (fs : List Frame) (s : State) (all : ExpTrees) (rest : List Terminal) : Type 0 where
  before : ExpTrees
  last : ExpTree
  phrase : Phrase
  indexable : Bool
  whole : all ≡ with_exp before last
  goes : Goes s (value (m.items c before ∷ fs) phrase indexable last rest)

-- and its bracket
ends : {c : Closing} {fs : List Frame} {s n : State} {all : ExpTrees} {mark : Terminal} {rest : List Terminal}
    → Listed c fs s all (mark ∷ rest) → reach mark < 3
    → ((acc : ExpTrees) (e : ExpTree) → all ≡ with_exp acc e → close_items c acc fs e (mark ∷ rest) ≡ next n) → Goes s n
ends {c} {fs} {mark = mark} {rest = rest} a h f =
    goes_then a.goes
    (resumes (omega arith) (choose_no t.comma (mark ∷ rest) (m.opened (m.items c (with_exp a.before a.last)) fs) _ (not_comma (mark ∷ rest) h) ∙ f a.before a.last a.whole))

first_of_two : (e : ExpTree) (es : ExpTrees) → conjunction (plus_exps (one_exp e) es) ≡ conjunction (exp_before e es)
first_of_two e es = ap conjunction (plus_exps-one e es)

-- a sign before an operand

signs : {k : Phrase} {name : List ℕ} {fs : List Frame} {ts rest : List Terminal} {s : State} {e : ExpTree}
    → Goes s (operand (m.signed k name ∷ fs) ts) → Arrives k (m.signed k name ∷ fs) (operand (m.signed k name ∷ fs) ts) e rest
    → reach_of rest < rank k → Arrives k fs s (call_one name e) rest
signs {k} g a h = arrived k false (omega arith) (goes_then g (goes_then a.goes (resumes h refl)))

-- behind the branches of an `if`

abbrev pub plus_branches : ExpBranches → ExpBranches → ExpBranches
plus_branches acc no_branches = acc
plus_branches acc (branch_before c e bs) = plus_branches (with_branch acc c e) bs

plus_branches-before : (c e : ExpTree) (acc bs : ExpBranches)
    → plus_branches (branch_before c e acc) bs ≡ branch_before c e (plus_branches acc bs)
plus_branches-before c e acc no_branches = refl
plus_branches-before c e acc (branch_before d f bs) = plus_branches-before c e (with_branch acc d f) bs

pub plus_branches-none : (bs : ExpBranches) → plus_branches no_branches bs ≡ bs
plus_branches-none no_branches = refl
plus_branches-none (branch_before c e bs) =
    plus_branches-before c e no_branches bs ∙ ap (branch_before c e) (plus_branches-none bs)

abbrev after_choices : List Frame → ExpBranches → List Terminal → Outcome
after_choices fs bs ts =
    choose t.word_else ts (m.opened (m.if_last bs) fs) (choose t.word_end ts (m.found fs (if_then bs)) fail)

not_elseif : (ts : List Terminal) → EndsChoice ts → headed t.word_elseif ts ≡ false
not_elseif [] h = refl
not_elseif (t.word_elseif ∷ ts) h = absurd h
not_elseif (_ ∷ ts) h = refl

-- the units of the open phrase and the last one
all_items : (es acc : ExpTrees) (e : ExpTree) → plus_exps no_exps es ≡ with_exp acc e → with_exp acc e ≡ es
all_items es acc e p = sym p ∙ plus_exps-none es

listed : {c : Closing} {fs : List Frame} {s : State} {rest : List Terminal} (es : ExpTrees) (n : State)
    → Listed c fs s (plus_exps no_exps es) (t.close_paren ∷ rest) → IsArgument c → closed fs c es rest ≡ next n → Goes s n
listed {c} {fs} {rest = rest} es n l i p = ends l (omega arith) (λ acc e q. close_argument i acc fs e rest
    ∙ (ap (λ (x : ExpTrees). closed fs c x rest) (all_items es acc e q) ∙ p))

mutual
  pub reads : {k : Phrase} {ts rest : List Terminal} {e : ExpTree} → Reads k ts e rest → Stops k rest → (fs : List Frame)
      → wanted fs ≤ rank k → rank k ≤ 21 → Arrives k fs (operand fs ts) e rest
  reads (branches (last_branch d)) s fs w b = looser exp (omega arith) (reads d (omega arith) fs (omega arith) (omega arith))
  reads (branches {ts} {rest} (more_branches {e = e} {es = es} d bs)) s fs w b =
      let a = reads d refl fs (omega arith) (omega arith) in
      let g = pushes {n = operand (m.branches (one_exp e) ∷ fs) _} a (omega arith) (λ j i h. when_le 2 (rank j) h _) in
      let r = subst (λ (x : ExpTrees). Goes (operand fs ts) (value fs exp false (disjunction x) rest)) (plus_exps-one e es)
      (goes_then g (reads_branches bs s (one_exp e) fs)) in
      arrived exp false (omega arith) r
  reads (no_arrow {rest = rest} d) s fs w b =
      looser branch (omega arith) (reads d (omega (arith, reach-semicolon rest s)) fs (omega arith) (omega arith))
  reads (an_arrow {mid = mid} {rest = rest} {c = e} c d) s fs w b =
      let a = reads c (omega arith) fs (omega arith) (omega arith) in
      let g = pushes {n = operand (m.arrow e ∷ fs) mid} a (omega arith) (λ j i h. when_le 3 (rank j) h _) in
      let r = reads d (omega (arith, reach-semicolon rest s)) (m.arrow e ∷ fs) (omega arith) (omega arith) in
      arrived branch false (omega arith) (goes_then g (closes r (omega (arith, reach-semicolon rest s)) (rw s refl)))
  reads (conjuncts (last_unit d)) s fs w b = looser conj (omega arith) (reads d (omega arith) fs (omega arith) (omega arith))
  reads (conjuncts {ts} {rest} (more_units {e = e} {es = es} d us)) s fs w b =
      let a = reads d (omega arith) fs (omega arith) (omega arith) in
      let g = pushes {n = operand (m.conjuncts (one_exp e) ∷ fs) _} a (omega arith) (λ j i h. when_le 4 (rank j) h _) in
      let r = subst (λ (x : ExpTrees). Goes (operand fs ts) (value fs conj false (conjunction x) rest)) (plus_exps-one e es)
      (goes_then g (reads_conjuncts us s (one_exp e) fs)) in
      arrived conj false (omega arith) r
  reads (signed_goal {name} {ts} d) s fs w b =
      signs (enters (when_le (wanted fs) 4 w _)) (reads d s (m.signed unit name ∷ fs) (omega arith) (omega arith)) s
  reads (plain_unit d) s fs w b = looser unit (omega arith) (reads d (omega arith) fs (omega arith) (omega arith))
  reads (joined {l} {rest = rest} d more) s fs w b =
      let a = reads d (stops_operand l _ (stops_joined more s)) fs (omega (arith, line_rank-operand l)) (operand_below l) in
      reads_joined more s fs w (operand fs _) (looser (line l) (omega (arith, line_rank-operand l)) a)
  reads (negative {ts} d) s fs w b =
      signs (enters (when_le (wanted fs) 10 w _)) (reads d s (m.signed negation (codes "#~") ∷ fs) (omega arith) (omega arith)) s
  reads (positive d) s fs w b = looser negation (omega arith) (reads d (omega arith) fs (omega arith) (omega arith))
  reads (unrelated d) s fs w b = looser relating (omega arith) (reads d (omega arith) fs (omega arith) (omega arith))
  reads (related {name} {a = e} d c) s fs w b =
      let a = reads d (omega arith) fs (omega arith) (omega arith) in
      let g = pushes {n = operand (m.relation name e ∷ fs) _} a (omega arith) (λ j i h. when_le 12 (rank j) h _) in
      let r = reads c (omega arith) (m.relation name e ∷ fs) (omega arith) (omega arith) in
      arrived relating false (omega arith) (goes_then g (closes r (omega arith) refl))
  reads (no_range d) s fs w b = looser range (omega arith) (reads d (omega arith) fs (omega arith) (omega arith))
  reads (a_range {rest = rest} {a = e} {b = f} d c) s fs w b =
      let a = reads d (omega arith) fs (omega arith) (omega arith) in
      let g = pushes {n = operand (m.range_from e ∷ fs) _} a (omega arith) (λ j i h. when_le 13 (rank j) h _) in
      let r = reads c (omega arith) (m.range_from e ∷ fs) (omega arith) (omega arith) in
      arrived range false (omega arith)
      (goes_then g (closes r (omega arith) (choose_no t.dots rest (m.opened (m.range_step e f) fs) _ (not_dots rest s))))
  reads (a_stepped_range {a = e} {b = f} d c x) s fs w b =
      let a = reads d (omega arith) fs (omega arith) (omega arith) in
      let g = pushes {n = operand (m.range_from e ∷ fs) _} a (omega arith) (λ j i h. when_le 13 (rank j) h _) in
      let r = reads c (omega arith) (m.range_from e ∷ fs) (omega arith) (omega arith) in
      let q = reads x (omega arith) (m.range_step e f ∷ fs) (omega arith) (omega arith) in
      arrived range false (omega arith)
      (goes_then g (goes_then (closes r (omega arith) refl) (closes q (omega arith) refl)))
  reads (with_plus d) s fs w b =
      signs (enters (when_le (wanted fs) 19 w _)) (reads d s (m.signed unary (codes "+") ∷ fs) (omega arith) (omega arith)) s
  reads (with_minus {ts} d) s fs w b =
      let a = reads d s (m.minus ts ∷ fs) (omega arith) (omega arith) in
      arrived unary false (omega arith) (goes_then (enters (when_le (wanted fs) 19 w _)) (closes a (omega arith) refl))
  reads (with_complement d) s fs w b =
      signs (enters (when_le (wanted fs) 19 w _)) (reads d s (m.signed unary (codes "~") ∷ fs) (omega arith) (omega arith)) s
  reads (unsigned d) s fs w b = looser unary (omega arith) (reads d (omega arith) fs (omega arith) (omega arith))
  reads (no_power d) s fs w b = looser pow (omega arith) (reads d (omega arith) fs (omega arith) (omega arith))
  reads (a_power {a = e} d c) s fs w b =
      let a = reads d (omega arith) fs (omega arith) (omega arith) in
      let g = pushes {n = operand (m.power e ∷ fs) _} a (omega arith) (λ j i h. when_le 21 (rank j) h _) in
      let r = reads c (reach_of-pow _ s) (m.power e ∷ fs) (omega arith) (omega arith) in
      arrived pow false (omega arith) (goes_then g (closes r (reach_of-pow _ s) refl))
  reads (postfixes d more) s fs w b =
      reads_postfixes more s fs w (operand fs _) prim (omega arith) (reads_prim d (stops_postfixes more s) fs)
  reads _ s fs w b = absurd (omega arith)

  reads_branches : {ts rest : List Terminal} {es : ExpTrees} → Branches ts es rest → reach_of rest < 1 → (acc : ExpTrees)
      (fs : List Frame) → Goes (operand (m.branches acc ∷ fs) ts) (value fs exp false (disjunction (plus_exps acc es)) rest)
  reads_branches {rest = rest} (last_branch {e = e} d) s acc fs =
      let a = reads d (omega arith) (m.branches acc ∷ fs) (omega arith) (omega arith) in
      closes a (omega arith) (choose_no t.semicolon rest (m.opened (m.branches (with_exp acc e)) fs) _ (not_semicolon rest s))
  reads_branches (more_branches {e = e} d bs) s acc fs =
      let a = reads d refl (m.branches acc ∷ fs) (omega arith) (omega arith) in
      goes_then (closes {n = operand (m.branches (with_exp acc e) ∷ fs) _} a (omega arith) refl) (reads_branches bs s (with_exp acc e) fs)

  reads_conjuncts : {ts rest : List Terminal} {es : ExpTrees} → Units ts es rest → reach_of rest < 3 → (acc : ExpTrees)
      (fs : List Frame) → Goes (operand (m.conjuncts acc ∷ fs) ts) (value fs conj false (conjunction (plus_exps acc es)) rest)
  reads_conjuncts {rest = rest} (last_unit {e = e} d) s acc fs =
      let a = reads d (omega arith) (m.conjuncts acc ∷ fs) (omega arith) (omega arith) in
      closes a (omega arith) (choose_no t.comma rest (m.opened (m.conjuncts (with_exp acc e)) fs) _ (not_comma rest s))
  reads_conjuncts (more_units {e = e} d us) s acc fs =
      let a = reads d (omega arith) (m.conjuncts acc ∷ fs) (omega arith) (omega arith) in
      goes_then (closes {n = operand (m.conjuncts (with_exp acc e) ∷ fs) _} a (omega arith) refl) (reads_conjuncts us s (with_exp acc e) fs)

  reads_items : {ts rest : List Terminal} {es : ExpTrees} → Units ts es rest → reach_of rest < 3 → (c : Closing) (acc : ExpTrees)
      (fs : List Frame) → Listed c fs (operand (m.items c acc ∷ fs) ts) (plus_exps acc es) rest
  reads_items (last_unit {e = e} d) s c acc fs =
      let a = reads d (omega arith) (m.items c acc ∷ fs) (omega arith) (omega arith) in
      record { before = acc; last = e; phrase = a.phrase; indexable = a.indexable; whole = refl; goes = a.goes }
  reads_items (more_units {e = e} d us) s c acc fs =
      let a = reads d (omega arith) (m.items c acc ∷ fs) (omega arith) (omega arith) in
      let g = closes {n = operand (m.items c (with_exp acc e) ∷ fs) _} a (omega arith) refl in
      let l = reads_items us s c (with_exp acc e) fs in
      record { before = l.before; last = l.last; phrase = l.phrase; indexable = l.indexable; whole = l.whole; goes = goes_then g l.goes }

  reads_index : {ts rest : List Terminal} {is : ExpTrees} → Units ts is (t.close_bracket ∷ rest) → (e : ExpTree) (fs : List Frame)
      → Goes (operand (m.indexing e ∷ fs) ts) (value fs post true (indexed e is) rest)
  reads_index (last_unit d) e fs =
      let a = reads d (omega arith) (m.indexing e ∷ fs) (omega arith) (omega arith) in
      closes a (omega arith) refl
  reads_index (more_units {e = i} d us) e fs =
      let a = reads d (omega arith) (m.indexing e ∷ fs) (omega arith) (omega arith) in
      goes_then (closes {n = operand (m.indexing (index e (one_exp i)) ∷ fs) _} a (omega arith) refl) (reads_index us (index e (one_exp i)) fs)

  reads_joined : {l : Line} {a e : ExpTree} {ts rest : List Terminal} → Joined l a ts e rest → reach_of rest < line_rank l
      → (fs : List Frame) → wanted fs ≤ line_rank l → (s : State) → Arrives (line l) fs s a ts → Arrives (line l) fs s e rest
  reads_joined no_more s fs w from a = a
  reads_joined {l} {a = e} (join {b = f} {name = name} j d more) s fs w from a =
      let g = pushes {n = operand (m.joining l name e ∷ fs) _} a (omega (arith, reach-joins j))
      (λ k i h. continue-joins j fs k i e _ ∙ when_le (line_rank l) (rank k) h _) in
      let c = reads d (stops_operand l _ (stops_joined more s)) (m.joining l name e ∷ fs) (omega arith) (operand_below l) in
      let r = closes {n = value fs (line l) false (call_two name e f) _} c (stops_joined more s) refl in
      reads_joined more s fs w from (arrived (line l) false (omega arith) (goes_then g r))

  reads_postfixes : {x : Bool} {a e : ExpTree} {ts rest : List Terminal} → Postfixes x a ts e rest → reach_of rest < 21
      → (fs : List Frame) → wanted fs ≤ 21 → (s : State) (j : Phrase) → 21 ≤ rank j → Goes s (value fs j x a ts) → Arrives post fs s e rest
  reads_postfixes {x} no_postfix s fs w from j h g = arrived j x h g
  reads_postfixes {a = e} (an_index {is = is} us more) s fs w from j h g =
      let p = continues {n = operand (m.indexing e ∷ fs) _} w (rw (nat_le-yes 21 (rank j) h) refl) in
      reads_postfixes more s fs w from post (omega arith) (goes_then g (goes_then p (reads_index us e fs)))
  reads_postfixes {a = e} (a_dot {name = name} {ts = ts} o more) s fs w from j h g =
      let p = continues {n = value fs post true (call_one name e) ts} w
      (rw (nat_le-yes 21 (rank j) h, o, not_open_paren ts (stops_postfixes more s)) refl) in
      reads_postfixes more s fs w from post (omega arith) (goes_then g p)
  reads_postfixes {x} {a = e} (a_dot_call {name = name} o (no_arguments {rest = mid}) more) s fs w from j h g =
      let p = continues {n = value fs post true (call name (one_exp e)) mid} w (rw (nat_le-yes 21 (rank j) h, o) refl) in
      reads_postfixes more s fs w from post (omega arith) (goes_then g p)
  reads_postfixes {a = e} (a_dot_call {name = name} {es = es} o (in_arguments {ts} us) more) s fs w from j h g =
      let p = continues {n = operand (m.items (of_method name e) no_exps ∷ fs) ts} w
      (rw (nat_le-yes 21 (rank j) h, o, not_close_paren ts (omega (arith, begins_units us))) refl) in
      reads_postfixes more s fs w from post (omega arith) (goes_then g (goes_then p (listed es _ (reads_items us (omega arith) (of_method name e) no_exps fs) a_method refl)))

  reads_choices : {ts rest : List Terminal} {bs : ExpBranches} → Choices ts bs rest → EndsChoice rest → (acc : ExpBranches)
      (fs : List Frame) (n : State) → after_choices fs (plus_branches acc bs) rest ≡ next n → Goes (operand (m.if_test acc ∷ fs) ts) n
  reads_choices {rest = rest} (last_choice {mid = mid} {c = c} {e = e} d f) s acc fs n p =
      let a = reads d (omega arith) (m.if_test acc ∷ fs) (omega arith) (omega arith) in
      let g = closes {n = operand (m.if_body acc c ∷ fs) mid} a (omega arith) refl in
      let r = reads f (ends_reach rest s) (m.if_body acc c ∷ fs) (omega arith) (omega arith) in
      goes_then g (closes r (ends_reach rest s)
      (choose_no t.word_elseif rest (m.opened (m.if_test (with_branch acc c e)) fs) _ (not_elseif rest s) ∙ p))
  reads_choices {rest = rest} (more_choices {mid = mid} {more = more} {c = c} {e = e} d f bs) s acc fs n p =
      let a = reads d (omega arith) (m.if_test acc ∷ fs) (omega arith) (omega arith) in
      let g = closes {n = operand (m.if_body acc c ∷ fs) mid} a (omega arith) refl in
      let r = reads f (omega arith) (m.if_body acc c ∷ fs) (omega arith) (omega arith) in
      let h = closes {n = operand (m.if_test (with_branch acc c e) ∷ fs) more} r (omega arith) refl in
      goes_then g (goes_then h (reads_choices bs s (with_branch acc c e) fs n p))

  reads_prim : {ts rest : List Terminal} {e : ExpTree} → Reads prim ts e rest → reach_of rest < 22 → (fs : List Frame)
      → Goes (operand fs ts) (value fs prim (takes_index ts) e rest)
  reads_prim (a_variable {name} {rest}) s fs = rw (variable_takes name rest (not_at rest s))
      (enters (choose_no t.at rest (m.opened (m.pattern name) fs) _ (not_at rest s)))
  reads_prim (a_pattern {name} d) s fs =
      goes_then (enters {n = operand (m.pattern name ∷ fs) _} refl) (goes_then (reads_prim d s (m.pattern name ∷ fs)) (resumes s refl))
  reads_prim an_integer s fs = enters refl
  reads_prim (an_atom {name} {rest}) s fs = rw (atom_takes_no name rest (not_open_paren rest s))
      (enters (choose_no t.open_paren rest (arguments (of_call name) fs) _ (not_open_paren rest s)))
  reads_prim (a_call no_arguments) s fs = enters refl
  reads_prim (a_call {name} {es = es} (in_arguments {ts} us)) s fs =
      goes_then (enters (choose_no t.close_paren ts (closed fs (of_call name) no_exps) _ (not_close_paren ts (omega (arith, begins_units us)))))
      (listed es _ (reads_items us (omega arith) (of_call name) no_exps fs) a_called refl)
  reads_prim a_text s fs = enters refl
  reads_prim no_list s fs = enters refl
  reads_prim (a_list {ts} {rest} {es} us) s fs =
      goes_then (enters (choose_no t.close_bracket ts (m.found fs (list no_exps)) _ (not_close_bracket ts (omega (arith, begins_units us)))))
      (ends (reads_items us (omega arith) of_list no_exps fs) (omega arith)
      (λ acc x q. ap (λ (xs : ExpTrees). m.found fs (list xs) rest) (all_items es acc x q)))
  reads_prim (a_list_onto {ts} {mid} {rest} {es} us d) s fs =
      let g = enters (choose_no t.close_bracket ts (m.found fs (list no_exps)) _ (not_close_bracket ts (omega (arith, begins_units us)))) in
      let l = ends {n = operand (m.list_tail es ∷ fs) mid} (reads_items us (omega arith) of_list no_exps fs) (omega arith)
      (λ acc x q. ap (λ (xs : ExpTrees). m.opened (m.list_tail xs) fs mid) (all_items es acc x q)) in
      let a = reads d (omega arith) (m.list_tail es ∷ fs) (omega arith) (omega arith) in
      goes_then g (goes_then l (closes a (omega arith) refl))
  reads_prim (a_list_of {ts} {mid} {rest} {es} {e} d us) s fs =
      let g = enters (choose_no t.close_bracket ts (m.found fs (list no_exps)) _ (not_close_bracket ts (omega (arith, begins d)))) in
      let a = reads d (omega arith) (m.items of_list no_exps ∷ fs) (omega arith) (omega arith) in
      let c = closes {n = operand (m.items (of_collect false e) no_exps ∷ fs) mid} a (omega arith) refl in
      let l = ends {n = value fs prim false (collect false e es) rest} (reads_items us (omega arith) (of_collect false e) no_exps fs) (omega arith)
      (λ acc x q. ap (λ (xs : ExpTrees). m.found fs (collect false e xs) rest) (all_items es acc x q)) in
      goes_then g (goes_then c l)
  reads_prim no_array s fs = enters refl
  reads_prim (an_array {ts} {rest} {es} us) s fs =
      goes_then (enters (choose_no t.close_brace ts (m.found fs (array no_exps)) _ (not_close_brace ts (omega (arith, begins_units us)))))
      (ends (reads_items us (omega arith) of_array no_exps fs) (omega arith)
      (λ acc x q. ap (λ (xs : ExpTrees). m.found fs (array xs) rest) (all_items es acc x q)))
  reads_prim (an_array_of {ts} {mid} {rest} {es} {e} d us) s fs =
      let g = enters (choose_no t.close_brace ts (m.found fs (array no_exps)) _ (not_close_brace ts (omega (arith, begins d)))) in
      let a = reads d (omega arith) (m.items of_array no_exps ∷ fs) (omega arith) (omega arith) in
      let c = closes {n = operand (m.items (of_collect true e) no_exps ∷ fs) mid} a (omega arith) refl in
      let l = ends {n = value fs prim false (collect true e es) rest} (reads_items us (omega arith) (of_collect true e) no_exps fs) (omega arith)
      (λ acc x q. ap (λ (xs : ExpTrees). m.found fs (collect true e xs) rest) (all_items es acc x q)) in
      goes_then g (goes_then c l)
  reads_prim (in_parens d) s fs =
      let a = reads d (omega arith) (m.parens false ∷ fs) (omega arith) (omega arith) in
      goes_then (enters refl) (closes a (omega arith) refl)
  reads_prim (a_structure no_arguments) s fs = enters refl
  reads_prim (a_structure {name} {es = es} (in_arguments {ts} us)) s fs =
      goes_then (enters (choose_no t.close_paren ts (closed fs (of_quote name) no_exps) _ (not_close_paren ts (omega (arith, begins_units us)))))
      (listed es _ (reads_items us (omega arith) (of_quote name) no_exps fs) a_quoted refl)
  reads_prim (a_term d) s fs =
      let a = reads d (omega arith) (m.parens true ∷ fs) (omega arith) (omega arith) in
      goes_then (enters refl) (closes a (omega arith) refl)
  reads_prim (an_if {rest = rest} {bs = bs} d) s fs =
      goes_then (enters refl) (reads_choices d tt no_branches fs _ (ap (λ (x : ExpBranches). m.found fs (if_then x) rest) (plus_branches-none bs)))
  reads_prim (an_if_else {mid = mid} {bs = bs} d e) s fs =
      let c = reads_choices d tt no_branches fs (operand (m.if_last bs ∷ fs) mid)
      (ap (λ (x : ExpBranches). m.opened (m.if_last x) fs mid) (plus_branches-none bs)) in
      let a = reads e (omega arith) (m.if_last bs ∷ fs) (omega arith) (omega arith) in
      goes_then (enters refl) (goes_then c (closes a (omega arith) refl))
  reads_prim (a_foreach {mid = mid} {es = es} us d) s fs =
      let l = ends {n = operand (m.foreach_body es ∷ fs) mid} (reads_items us (omega arith) of_foreach no_exps fs) (omega arith)
      (λ acc x q. ap (λ (xs : ExpTrees). m.opened (m.foreach_body xs) fs mid) (all_items es acc x q)) in
      let a = reads d (omega arith) (m.foreach_body es ∷ fs) (omega arith) (omega arith) in
      goes_then (enters refl) (goes_then l (closes a (omega arith) refl))
  reads_prim (a_while {mid = mid} {c = c} d e) s fs =
      let a = reads d (omega arith) (m.while_test ∷ fs) (omega arith) (omega arith) in
      let g = closes {n = operand (m.while_body c ∷ fs) mid} a (omega arith) refl in
      let b = reads e (omega arith) (m.while_body c ∷ fs) (omega arith) (omega arith) in
      goes_then (enters refl) (goes_then g (closes b (omega arith) refl))
  reads_prim (a_do_while {mid = mid} {e = e} d c) s fs =
      let a = reads d (omega arith) (m.do_body ∷ fs) (omega arith) (omega arith) in
      let g = closes {n = operand (m.do_test e ∷ fs) mid} a (omega arith) refl in
      let b = reads c (omega arith) (m.do_test e ∷ fs) (omega arith) (omega arith) in
      goes_then (enters refl) (goes_then g (closes b (omega arith) refl))

-- an expression is read to its end
pub runs_to : (tokens : List Token) (e : ExpTree) → HasExp tokens e → Runs (begin (map terminal tokens)) e
runs_to tokens e d =
    let a = reads d (omega arith) [] (omega arith) (omega arith) in
    a.goes.runs e (stop (resumed_last [] a.phrase a.indexable e [] (omega arith)))
