-- The names of variables of terminals that are read as a tree are those of the tree, from the left.
use Rattle.std.proofs.Common.{◌≡◌, ℕ, ◌==◌, Bool, ℤ, List, [], ◌∷◌, ◌++◌, length, refl, sym, ap, subst, ◌∙◌, arith, append_assoc, append-nil, length-append, inl, inr}
use Rattle.std.proofs.lemmas.Bool.{cases_Bool, eqb-true}
use Rattle.pi_syntax.specs.ExpTree.{ExpTree, var, int, atom, str, list, list_onto, array, call, quote, index, range, range_by, at, collect, and, or, arrow, if_then, if_else, foreach, while_do, do_while, ExpTrees, no_exps, exp as exp_before, ExpBranches, no_branches, branch as branch_before, one_exp}
use Rattle.pi_syntax.specs.Terminals.{Line, Terminal, variable, integer, close_bracket, close_brace, close_paren, word_end}
use Rattle.pi_syntax.specs.Grammar.{Phrase, exp, Joins, a_joint, a_plus, a_minus, negated, integer_alone, indexed, conjunction, disjunction, Reads, branches, no_arrow, an_arrow, conjuncts, signed_goal, plain_unit, joined, negative, positive, unrelated, related, no_range, a_range, a_stepped_range, with_plus, with_minus, with_complement, unsigned, no_power, a_power, postfixes, a_variable, a_pattern, an_integer, an_atom, a_call, a_text, no_list, a_list, a_list_onto, a_list_of, no_array, an_array, an_array_of, in_parens, a_structure, a_term, an_if, an_if_else, a_foreach, a_while, a_do_while, Branches, last_branch, more_branches, Units, last_unit, more_units, Joined, no_more, join, Postfixes, no_postfix, an_index, a_dot, a_dot_call, Arguments, no_arguments, arguments, Choices, last_choice, more_choices}

-- ---- names

unfoldable mutual
  pub names_of : ExpTree → List (List ℕ)
  names_of (var name) = name ∷ []
  names_of (int n) = []
  names_of (atom name) = []
  names_of (str text) = []
  names_of (list es) = all_names es
  names_of (list_onto es e) = all_names es ++ names_of e
  names_of (array es) = all_names es
  names_of (call name es) = all_names es
  names_of (quote e) = names_of e
  names_of (index e es) = names_of e ++ all_names es
  names_of (range first last) = names_of first ++ names_of last
  names_of (range_by first step last) = names_of first ++ (names_of step ++ names_of last)
  names_of (at name e) = name ∷ names_of e
  names_of (collect is_array e es) = names_of e ++ all_names es
  names_of (and es) = all_names es
  names_of (or es) = all_names es
  names_of (arrow c e) = names_of c ++ names_of e
  names_of (if_then bs) = branch_names bs
  names_of (if_else bs e) = branch_names bs ++ names_of e
  names_of (foreach es e) = all_names es ++ names_of e
  names_of (while_do c e) = names_of c ++ names_of e
  names_of (do_while e c) = names_of e ++ names_of c

  pub all_names : ExpTrees → List (List ℕ)
  all_names no_exps = []
  all_names (exp_before e es) = names_of e ++ all_names es

  pub branch_names : ExpBranches → List (List ℕ)
  branch_names no_branches = []
  branch_names (branch_before c e bs) = names_of c ++ (names_of e ++ branch_names bs)

abbrev pub terminal_name : Terminal → List (List ℕ)
terminal_name (variable name) = name ∷ []
terminal_name _ = []

abbrev pub terminal_names : List Terminal → List (List ℕ)
terminal_names [] = []
terminal_names (t ∷ ts) = terminal_name t ++ terminal_names ts

terminal_names-append : (xs ys : List Terminal) → terminal_names (xs ++ ys) ≡ terminal_names xs ++ terminal_names ys
terminal_names-append [] ys = refl
terminal_names-append (x ∷ xs) ys = ap (λ l. terminal_name x ++ l) (terminal_names-append xs ys) ∙ sym (append_assoc (terminal_name x) (terminal_names xs) (terminal_names ys))

-- ---- what stands in front of the rest

-- terminals with these names, and then the rest
pub record Leads (ts : List Terminal) (names : List (List ℕ)) (rest : List Terminal) : Type 0 where
  pub front : List Terminal
  pub same : ts ≡ front ++ rest
  pub are : terminal_names front ≡ names

leads_nothing : {rest : List Terminal} → Leads rest [] rest
leads_nothing = record { front = []; same = refl; are = refl }

leads_one : (t : Terminal) {ts rest : List Terminal} {names : List (List ℕ)} → Leads ts names rest → Leads (t ∷ ts) (terminal_name t ++ names) rest
leads_one t l = record { front = t ∷ l.front; same = ap (λ xs. t ∷ xs) l.same; are = ap (λ xs. terminal_name t ++ xs) l.are }

leads_then : {ts mid rest : List Terminal} {ns ms : List (List ℕ)} → Leads ts ns mid → Leads mid ms rest → Leads ts (ns ++ ms) rest
leads_then {rest = rest} {ns} {ms} x y = record {
  front = x.front ++ y.front;
  same = x.same ∙ ap (λ xs. x.front ++ xs) y.same ∙ sym (append_assoc x.front y.front rest);
  are = terminal_names-append x.front y.front ∙ ap (λ xs. xs ++ terminal_names y.front) x.are ∙ ap (λ xs. ns ++ xs) y.are;
}

leads_as : {ts rest : List Terminal} {ns ms : List (List ℕ)} → ns ≡ ms → Leads ts ns rest → Leads ts ms rest
leads_as same l = record { front = l.front; same = l.same; are = l.are ∙ same }

-- ---- trees that are put together

pub conjunction_names : (es : ExpTrees) → all_names es ≡ names_of (conjunction es)
unfolding names_of all_names
conjunction_names no_exps = refl
conjunction_names (exp_before e no_exps) = append-nil (names_of e)
conjunction_names (exp_before e (exp_before f es)) = refl

disjunction_names : (es : ExpTrees) → all_names es ≡ names_of (disjunction es)
unfolding names_of all_names
disjunction_names no_exps = refl
disjunction_names (exp_before e no_exps) = append-nil (names_of e)
disjunction_names (exp_before e (exp_before f es)) = refl

indexed_names : (a : ExpTree) (is : ExpTrees) → names_of (indexed a is) ≡ names_of a ++ all_names is
unfolding names_of all_names
indexed_names a no_exps = sym (append-nil (names_of a))
indexed_names a (exp_before i is) =
    indexed_names (index a (one_exp i)) is
    ∙ ap (λ xs. (names_of a ++ xs) ++ all_names is) (append-nil (names_of i))
    ∙ append_assoc (names_of a) (names_of i) (all_names is)

one_names : (e : ExpTree) → names_of e ≡ all_names (one_exp e)
unfolding all_names
one_names e = sym (append-nil (names_of e))

-- how a tree goes on with more names
record GoesOn (a e : ExpTree) (ts rest : List Terminal) : Type 0 where
  names : List (List ℕ)
  leads : Leads ts names rest
  same : names_of e ≡ names_of a ++ names

goes_nowhere : {a : ExpTree} {rest : List Terminal} → GoesOn a a rest rest
goes_nowhere {a} = record { names = []; leads = leads_nothing; same = sym (append-nil (names_of a)) }

goes_on : {a b e : ExpTree} {ts mid rest : List Terminal} {ns : List (List ℕ)} → names_of b ≡ names_of a ++ ns → Leads ts ns mid → GoesOn b e mid rest → GoesOn a e ts rest
goes_on {a} {ns = ns} same l g = record {
  names = ns ++ g.names;
  leads = leads_then l g.leads;
  same = g.same ∙ ap (λ xs. xs ++ g.names) same ∙ append_assoc (names_of a) ns g.names;
}

goes_behind : {a e : ExpTree} {ts mid rest : List Terminal} → Leads ts (names_of a) mid → GoesOn a e mid rest → Leads ts (names_of e) rest
goes_behind l g = leads_as (sym g.same) (leads_then l g.leads)

-- ---- an integer alone

no_front : {P : Type 0} (front rest : List Terminal) (n : ℕ) → n ≡ length (front ++ rest) → n ≡ length rest → (front ≡ [] → P) → P
no_front [] rest n long same found = found refl
no_front (t ∷ front) rest n long same found = absurd (omega (arith, long, same, length-append front rest))

-- where nothing but an integer was read there are no names
tail_names : (n : ℤ) (t : Terminal) → integer n ≡ t → terminal_name t ≡ []
tail_names n t same = subst (λ (u : Terminal). terminal_name u ≡ []) same refl

alone_by : (n : ℤ) (ts rest front : List Terminal) → integer n ∷ ts ≡ front ++ rest → length ts ≡ length rest → terminal_names front ≡ []
alone_by n ts rest [] is same = refl
alone_by n ts rest (t ∷ front) is same =
    let here : integer n ≡ t = cc in
    let behind : ts ≡ front ++ rest = cc in
    no_front front rest (length ts) (ap length behind) same (λ none. rw none (rw (tail_names n t here) refl))

alone_names : (n : ℤ) (ts rest : List Terminal) (names : List (List ℕ)) → Leads (integer n ∷ ts) names rest → length ts ≡ length rest → names ≡ []
alone_names n ts rest names l same = sym l.are ∙ alone_by n ts rest l.front l.same same

minus_names : (ts rest : List Terminal) (e : ExpTree) → Leads ts (names_of e) rest → names_of e ≡ names_of (negated (integer_alone ts rest) e)
unfolding names_of all_names
minus_names [] rest e l = one_names e
minus_names (integer n ∷ ts) rest e l =
    elim (cases_Bool (length ts == length rest)) [
      | inl alone ↦ rw alone (alone_names n ts rest (names_of e) l (eqb-true (length ts) (length rest) alone))
      | inr more ↦ rw more (one_names e)
    ]
minus_names (_ ∷ ts) rest e l = one_names e

joins_names : {l : Line} {t : Terminal} {name : List ℕ} → Joins l t name → terminal_name t ≡ []
joins_names a_joint = refl
joins_names a_plus = refl
joins_names a_minus = refl

leads_join : {l : Line} {t : Terminal} {name : List ℕ} {ts rest : List Terminal} {ns : List (List ℕ)} → Joins l t name → Leads ts ns rest → Leads (t ∷ ts) ns rest
leads_join {t = t} {ns = ns} j l = leads_as (ap (λ xs. xs ++ ns) (joins_names j)) (leads_one t l)

-- one more terminal, which is no variable
leads_close : (t : Terminal) {ts rest : List Terminal} {ns : List (List ℕ)} → terminal_name t ≡ [] → Leads ts ns (t ∷ rest) → Leads ts ns rest
leads_close t {ns = ns} none l = leads_as (ap (λ xs. ns ++ (xs ++ [])) none ∙ append-nil ns) (leads_then l (leads_one t leads_nothing))

-- ---- each phrase

mutual
  unfolding names_of all_names branch_names

  pub leads : {k : Phrase} {ts rest : List Terminal} {e : ExpTree} → Reads k ts e rest → Leads ts (names_of e) rest
  leads (branches {es = es} bs) = leads_as (disjunction_names es) (leads_branches bs)
  leads (no_arrow d) = leads d
  leads (an_arrow c d) = leads_then (leads c) (leads_one _ (leads d))
  leads (conjuncts {es = es} us) = leads_as (conjunction_names es) (leads_units us)
  leads (signed_goal {e = e} d) = leads_as (one_names e) (leads_one _ (leads d))
  leads (plain_unit d) = leads d
  leads (joined d more) = goes_behind (leads d) (goes_joined more)
  leads (negative {e = e} d) = leads_as (one_names e) (leads_one _ (leads d))
  leads (positive d) = leads d
  leads (unrelated d) = leads d
  leads (related {b = b} c d) = leads_then (leads c) (leads_as (one_names b) (leads_one _ (leads d)))
  leads (no_range d) = leads d
  leads (a_range c d) = leads_then (leads c) (leads_one _ (leads d))
  leads (a_stepped_range c d e) = leads_then (leads c) (leads_one _ (leads_then (leads d) (leads_one _ (leads e))))
  leads (with_plus {e = e} d) = leads_as (one_names e) (leads_one _ (leads d))
  leads (with_minus {ts} {rest} {e} d) = let l = leads d in leads_as (minus_names ts rest e l) (leads_one _ l)
  leads (with_complement {e = e} d) = leads_as (one_names e) (leads_one _ (leads d))
  leads (unsigned d) = leads d
  leads (no_power d) = leads d
  leads (a_power {b = b} c d) = leads_then (leads c) (leads_as (one_names b) (leads_one _ (leads d)))
  leads (postfixes d more) = goes_behind (leads d) (goes_postfixes more)
  leads (a_variable {name}) = leads_one (variable name) leads_nothing
  leads (a_pattern {name} d) = leads_one (variable name) (leads_one _ (leads d))
  leads (an_integer {n}) = leads_one (integer n) leads_nothing
  leads (an_atom {name}) = leads_one (Terminal.atom name) leads_nothing
  leads (a_call d) = leads_one _ (leads_arguments d)
  leads (a_text {meaning}) = leads_one (Terminal.text meaning) leads_nothing
  leads no_list = leads_one _ (leads_one _ leads_nothing)
  leads (a_list us) = leads_close close_bracket refl (leads_one _ (leads_units us))
  leads (a_list_onto us d) = leads_close close_bracket refl (leads_one _ (leads_then (leads_units us) (leads_one _ (leads d))))
  leads (a_list_of d us) = leads_close close_bracket refl (leads_one _ (leads_then (leads d) (leads_one _ (leads_units us))))
  leads no_array = leads_one _ (leads_one _ leads_nothing)
  leads (an_array us) = leads_close close_brace refl (leads_one _ (leads_units us))
  leads (an_array_of d us) = leads_close close_brace refl (leads_one _ (leads_then (leads d) (leads_one _ (leads_units us))))
  leads (in_parens d) = leads_close close_paren refl (leads_one _ (leads d))
  leads (a_structure d) = leads_one _ (leads_one _ (leads_arguments d))
  leads (a_term d) = leads_close close_paren refl (leads_one _ (leads_one _ (leads d)))
  leads (an_if d) = leads_close word_end refl (leads_one _ (leads_choices d))
  leads (an_if_else c d) = leads_close word_end refl (leads_one _ (leads_then (leads_choices c) (leads_one _ (leads d))))
  leads (a_foreach us d) = leads_close word_end refl (leads_one _ (leads_one _ (leads_then (leads_units us) (leads_one _ (leads d)))))
  leads (a_while c d) = leads_close word_end refl (leads_one _ (leads_one _ (leads_then (leads c) (leads_one _ (leads d)))))
  leads (a_do_while d c) = leads_close close_paren refl (leads_one _ (leads_then (leads d) (leads_one _ (leads_one _ (leads c)))))

  leads_branches : {ts rest : List Terminal} {es : ExpTrees} → Branches ts es rest → Leads ts (all_names es) rest
  leads_branches (last_branch {e = e} d) = leads_as (one_names e) (leads d)
  leads_branches (more_branches d bs) = leads_then (leads d) (leads_one _ (leads_branches bs))

  leads_units : {ts rest : List Terminal} {es : ExpTrees} → Units ts es rest → Leads ts (all_names es) rest
  leads_units (last_unit {e = e} d) = leads_as (one_names e) (leads d)
  leads_units (more_units d us) = leads_then (leads d) (leads_one _ (leads_units us))

  goes_joined : {l : Line} {a e : ExpTree} {ts rest : List Terminal} → Joined l a ts e rest → GoesOn a e ts rest
  goes_joined no_more = goes_nowhere
  goes_joined {a = a} (join {b = b} j d more) = goes_on (ap (λ xs. names_of a ++ xs) (append-nil (names_of b))) (leads_join j (leads d)) (goes_joined more)

  goes_postfixes : {b : Bool} {a e : ExpTree} {ts rest : List Terminal} → Postfixes b a ts e rest → GoesOn a e ts rest
  goes_postfixes no_postfix = goes_nowhere
  goes_postfixes {a = a} (an_index {is = is} us more) = goes_on (indexed_names a is) (leads_close close_bracket refl (leads_one _ (leads_units us))) (goes_postfixes more)
  goes_postfixes (a_dot o more) = goes_on refl (leads_one _ (leads_one _ leads_nothing)) (goes_postfixes more)
  goes_postfixes (a_dot_call o us more) = goes_on refl (leads_one _ (leads_one _ (leads_arguments us))) (goes_postfixes more)

  leads_arguments : {ts rest : List Terminal} {es : ExpTrees} → Arguments ts es rest → Leads ts (all_names es) rest
  leads_arguments no_arguments = leads_one _ (leads_one _ leads_nothing)
  leads_arguments (arguments us) = leads_close close_paren refl (leads_one _ (leads_units us))

  leads_choices : {ts rest : List Terminal} {bs : ExpBranches} → Choices ts bs rest → Leads ts (branch_names bs) rest
  leads_choices (last_choice {e = e} c d) = leads_then (leads c) (leads_as (sym (append-nil (names_of e))) (leads_one _ (leads d)))
  leads_choices (more_choices c d bs) = leads_then (leads c) (leads_one _ (leads_then (leads d) (leads_one _ (leads_choices bs))))

-- ---- the whole

pub names_read : {ts : List Terminal} {e : ExpTree} → Reads exp ts e [] → terminal_names ts ≡ names_of e
names_read d = let l = leads d in ap terminal_names (l.same ∙ append-nil l.front) ∙ l.are
