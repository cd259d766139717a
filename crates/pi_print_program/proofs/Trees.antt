-- What terminals are read as is such a tree, where no index stands behind `@`.
use Rattle.std.proofs.Common.{◌≡◌, ℕ, ◌==◌, Bool, true, false, ℤ, pos, ◌-ℤ◌, List, [], ◌∷◌, length, Option, Some, None, refl, ap, subst, codes, if◌then◌else◌}
use Rattle.std.proofs.lemmas.Bool.{false≢true}
use Rattle.pi_print_program.specs.Signs.{is_two_place, is_prefix_sign}
use Rattle.pi_syntax.specs.ExpTree.{ExpTree, ExpTrees, exp as exp_before, ExpBranches, one_exp}
use Rattle.pi_syntax.specs.Signature.{exp_count}
use Rattle.pi_syntax.specs.Terminals.{Line, equivalence, implication, constraint_or, constraint_xor, constraint_and, bit_or, bit_xor, bit_and, shift, sum, product, Terminal, integer, open_paren, open_bracket}
use Rattle.pi_syntax.specs.Grammar.{Phrase, branch, prim, operand, Joins, a_joint, a_plus, a_minus, negated, integer_alone, takes_index, Reads, branches, no_arrow, an_arrow, conjuncts, signed_goal, plain_unit, joined, negative, positive, unrelated, related, no_range, a_range, a_stepped_range, with_plus, with_minus, with_complement, unsigned, no_power, a_power, postfixes, a_variable, a_pattern, an_integer, an_atom, a_call, a_text, no_list, a_list, a_list_onto, a_list_of, no_array, an_array, an_array_of, in_parens, a_structure, a_term, an_if, an_if_else, a_foreach, a_while, a_do_while, Branches, last_branch, more_branches, Units, last_unit, more_units, Joined, no_more, join, Postfixes, no_postfix, an_index, a_dot, a_dot_call, Arguments, no_arguments, arguments, Choices, last_choice, more_choices}
use Rattle.pi_print_program.proofs.Writes.{takes_places}
use Rattle.pi_print_program.proofs.Tree.{Tree, TreeItems, Trees, TreeBranch, TreeBranches, TreeChoices, tree_conjunction, tree_disjunction, tree_indexed, takes_indexed, one_before}
use Rattle.pi_print_program.proofs.Tree as t
use Rattle.pi_print_program.specs.Patterns.{Fine, AllFine, BranchesFine}
use Rattle.pi_print_program.proofs.Fine.{fine_conjunction, fine_disjunction, fine_indexed, IsPlainName, IsWritten, IsGood, AreGood}

-- what is told of a tree: a branch of a disjunction may be an arrow
abbrev Told : Phrase → ExpTree → Type 0
Told branch e = Fine e → TreeBranch e
Told _ e = Fine e → Tree e

told_operand : {e : ExpTree} (l : Line) → Told (operand l) e → Fine e → Tree e
told_operand equivalence told = told
told_operand implication told = told
told_operand constraint_or told = told
told_operand constraint_xor told = told
told_operand constraint_and told = told
told_operand bit_or told = told
told_operand bit_xor told = told
told_operand bit_and told = told
told_operand shift told = told
told_operand sum told = told
told_operand product told = told

joins_two : {l : Line} {t : Terminal} {name : List ℕ} → Joins l t name → IsGood t → is_two_place name 2 ≡ true
unfolding is_two_place
joins_two a_joint good = good
joins_two a_plus good = refl
joins_two a_minus good = refl

prefix_plus : is_prefix_sign (codes "+") 1 ≡ true
unfolding is_prefix_sign
prefix_plus = refl

prefix_minus : is_prefix_sign (codes "-") 1 ≡ true
unfolding is_prefix_sign
prefix_minus = refl

prefix_complement : is_prefix_sign (codes "~") 1 ≡ true
unfolding is_prefix_sign
prefix_complement = refl

prefix_constraint : is_prefix_sign (codes "#~") 1 ≡ true
unfolding is_prefix_sign
prefix_constraint = refl

power_two : is_two_place (codes "**") 2 ≡ true
unfolding is_two_place
power_two = refl

-- ---- integers

none_some : {n : ℤ} {P : Type 0} → ◌≡◌ {A = Option ℤ} None (Some n) → P
none_some e = absurd (cc)

alone_if : (b : Bool) (m n : ℤ) → IsWritten m → (if b then Some m else None) ≡ Some n → IsWritten n
alone_if true m n is same = let e : m ≡ n = cc in subst IsWritten e is
alone_if false m n is same = none_some same

alone_good : (ts rest : List Terminal) (n : ℤ) → AreGood ts → integer_alone ts rest ≡ Some n → IsWritten n
alone_good [] rest n good same = none_some same
alone_good (integer m ∷ ts) rest n good same = alone_if (length ts == length rest) m n good.0 same
alone_good (_ ∷ ts) rest n good same = none_some same

minus_told : (o : Option ℤ) {e : ExpTree} → ((n : ℤ) → o ≡ Some n → IsWritten n) → (Fine e → Tree e) → Fine (negated o e) → Tree (negated o e)
unfolding Fine AllFine
minus_told None is told fine = t.behind_sign prefix_minus (told fine.0)
minus_told (Some n) is told fine =
    let w = is n refl in
    t.a_negative w.natural (ap (λ (z : ℤ). pos 0 -ℤ z) w.same) w.fits

-- ---- indexes

abbrev starts_bracket : List Terminal → Bool
starts_bracket (open_bracket ∷ ts) = true
starts_bracket _ = false

never : {P : Type 0} → ◌≡◌ {A = Bool} false true → P
never e = absurd (false≢true e)

call_takes : (name : List ℕ) (es : ExpTrees) → IsPlainName name → takes_places (ExpTree.call name es) ≡ true
call_takes name es is = rw (is.plain (exp_count es)) refl

atom_index : (name : List ℕ) (e : ExpTree) (rest : List Terminal) → takes_index (Terminal.atom name ∷ rest) ≡ true → starts_bracket rest ≡ true → takes_places e ≡ true
atom_index name e [] takes starts = never starts
atom_index name e (open_paren ∷ ts) takes starts = never starts
atom_index name e (_ ∷ ts) takes starts = never takes

indexable : {ts mid : List Terminal} {a : ExpTree} → Reads prim ts a mid → AreGood ts → takes_index ts ≡ true → starts_bracket mid ≡ true → takes_places a ≡ true
indexable a_variable good takes starts = refl
indexable (a_pattern d) good takes starts = never takes
indexable an_integer good takes starts = never takes
indexable (an_atom {name} {rest}) good takes starts = atom_index name (ExpTree.atom name) rest takes starts
indexable (a_call {name} {es = es} d) good takes starts = call_takes name es good.0
indexable a_text good takes starts = never takes
indexable no_list good takes starts = never takes
indexable (a_list us) good takes starts = never takes
indexable (a_list_onto us d) good takes starts = never takes
indexable (a_list_of d us) good takes starts = never takes
indexable no_array good takes starts = never takes
indexable (an_array us) good takes starts = never takes
indexable (an_array_of d us) good takes starts = never takes
indexable (in_parens d) good takes starts = never takes
indexable (a_structure d) good takes starts = never takes
indexable (a_term d) good takes starts = never takes
indexable (an_if d) good takes starts = never takes
indexable (an_if_else d e) good takes starts = never takes
indexable (a_foreach us d) good takes starts = never takes
indexable (a_while c d) good takes starts = never takes
indexable (a_do_while d c) good takes starts = never takes

-- ---- each phrase

mutual
  unfolding Fine AllFine BranchesFine

  pub told : {k : Phrase} {ts rest : List Terminal} {e : ExpTree} → Reads k ts e rest → AreGood ts → Told k e × AreGood rest
  told (branches {es = es} bs) good = let (w, rest) = told_branches bs good in ((λ fine. tree_disjunction (w (fine_disjunction es fine))), rest)
  told (no_arrow d) good = let (w, rest) = told d good in ((λ fine. t.plain_branch (w fine)), rest)
  told (an_arrow c d) good =
      let (v, mid) = told c good in
      let (w, rest) = told d mid.1 in
      ((λ fine. t.arrow_branch (v fine.0) (w fine.1)), rest)
  told (conjuncts {es = es} us) good = let (w, rest) = told_units us good in ((λ fine. tree_conjunction (w (fine_conjunction es fine))), rest)
  told (signed_goal {name} d) good = let (w, rest) = told d good.1 in ((λ fine. t.behind_word good.0 (w fine.0)), rest)
  told (plain_unit d) good = told d good
  told (joined {l} d more) good = let (w, mid) = told d good in told_joined more (told_operand l w) mid
  told (negative d) good = let (w, rest) = told d good.1 in ((λ fine. t.behind_sign prefix_constraint (w fine.0)), rest)
  told (positive d) good = told d good
  told (unrelated d) good = told d good
  told (related {name} c d) good =
      let (v, mid) = told c good in
      let (w, rest) = told d mid.1 in
      ((λ fine. t.two mid.0 (v fine.0) (w fine.1.0)), rest)
  told (no_range d) good = told d good
  told (a_range c d) good =
      let (v, mid) = told c good in
      let (w, rest) = told d mid.1 in
      ((λ fine. t.a_range (v fine.0) (w fine.1)), rest)
  told (a_stepped_range c d e) good =
      let (v, mid) = told c good in
      let (w, end) = told d mid.1 in
      let (x, rest) = told e end.1 in
      ((λ fine. t.a_stepped_range (v fine.0) (w fine.1.0) (x fine.1.1)), rest)
  told (with_plus d) good = let (w, rest) = told d good.1 in ((λ fine. t.behind_sign prefix_plus (w fine.0)), rest)
  told (with_minus {ts} {rest} d) good = let (w, behind) = told d good.1 in ((λ fine. minus_told (integer_alone ts rest) (λ n same. alone_good ts rest n good.1 same) w fine), behind)
  told (with_complement d) good = let (w, rest) = told d good.1 in ((λ fine. t.behind_sign prefix_complement (w fine.0)), rest)
  told (unsigned d) good = told d good
  told (no_power d) good = told d good
  told (a_power c d) good =
      let (v, mid) = told c good in
      let (w, rest) = told d mid.1 in
      ((λ fine. t.two power_two (v fine.0) (w fine.1.0)), rest)
  told (postfixes d more) good = let (w, mid) = told d good in told_postfixes more w (λ takes starts. indexable d good takes starts) mid
  told (a_variable {name}) good = ((λ fine. t.a_variable good.0), good.1)
  told (a_pattern {name} d) good = let (w, rest) = told d good.1.1 in ((λ fine. t.an_at good.0 (w fine.1) fine.0), rest)
  told (an_integer {n}) good = ((λ fine. t.a_natural good.0.natural good.0.same good.0.fits), good.1)
  told (an_atom {name}) good = ((λ fine. t.an_atom good.0.is), good.1)
  told (a_call {name} d) good = let (w, rest) = told_arguments d good.1 in ((λ fine. t.a_call good.0.is (good.0.plain _) (w fine)), rest)
  told (a_text {meaning}) good = ((λ fine. t.a_text good.0), good.1)
  told no_list good = ((λ fine. t.no_list), good.1.1)
  told (a_list us) good = let (w, rest) = told_units us good.1 in ((λ fine. t.a_list (w fine)), rest.1)
  told (a_list_onto us d) good =
      let (v, mid) = told_units us good.1 in
      let (w, rest) = told d mid.1 in
      ((λ fine. t.a_list_onto (v fine.0) (w fine.1)), rest.1)
  told (a_list_of d us) good =
      let (v, mid) = told d good.1 in
      let (w, rest) = told_units us mid.1 in
      ((λ fine. t.a_list_of (v fine.0) (w fine.1)), rest.1)
  told no_array good = ((λ fine. t.no_array), good.1.1)
  told (an_array us) good = let (w, rest) = told_units us good.1 in ((λ fine. t.an_array (w fine)), rest.1)
  told (an_array_of d us) good =
      let (v, mid) = told d good.1 in
      let (w, rest) = told_units us mid.1 in
      ((λ fine. t.an_array_of (v fine.0) (w fine.1)), rest.1)
  told (in_parens d) good = let (w, rest) = told d good.1 in (w, rest.1)
  told (a_structure {name} d) good =
      let (w, rest) = told_arguments d good.1.1 in
      ((λ fine. t.a_term (t.a_call good.1.0.is (good.1.0.plain _) (w fine))), rest)
  told (a_term d) good = let (w, rest) = told d good.1.1 in ((λ fine. t.a_term (w fine)), rest.1)
  told (an_if d) good = let (w, rest) = told_choices d good.1 in ((λ fine. t.an_if (w fine)), rest.1)
  told (an_if_else c d) good =
      let (v, mid) = told_choices c good.1 in
      let (w, rest) = told d mid.1 in
      ((λ fine. t.an_if_else (v fine.0) (w fine.1)), rest.1)
  told (a_foreach us d) good =
      let (v, mid) = told_units us good.1.1 in
      let (w, rest) = told d mid.1 in
      ((λ fine. t.a_foreach (v fine.0) (w fine.1)), rest.1)
  told (a_while c d) good =
      let (v, mid) = told c good.1.1 in
      let (w, rest) = told d mid.1 in
      ((λ fine. t.a_while (v fine.0) (w fine.1)), rest.1)
  told (a_do_while d c) good =
      let (w, mid) = told d good.1 in
      let (v, rest) = told c mid.1.1 in
      ((λ fine. t.a_do_while (w fine.0) (v fine.1)), rest.1)

  told_branches : {ts rest : List Terminal} {es : ExpTrees} → Branches ts es rest → AreGood ts → (AllFine es → TreeBranches es) × AreGood rest
  told_branches (last_branch d) good = let (w, rest) = told d good in ((λ fine. t.last_branch (w fine.0)), rest)
  told_branches (more_branches d bs) good =
      let (v, mid) = told d good in
      let (w, rest) = told_branches bs mid.1 in
      ((λ fine. t.more_branches (v fine.0) (w fine.1)), rest)

  told_units : {ts rest : List Terminal} {es : ExpTrees} → Units ts es rest → AreGood ts → (AllFine es → TreeItems es) × AreGood rest
  told_units (last_unit d) good = let (w, rest) = told d good in ((λ fine. t.last_item (w fine.0)), rest)
  told_units (more_units d us) good =
      let (v, mid) = told d good in
      let (w, rest) = told_units us mid.1 in
      ((λ fine. t.more_items (v fine.0) (w fine.1)), rest)

  told_joined : {l : Line} {a e : ExpTree} {ts rest : List Terminal} → Joined l a ts e rest → (Fine a → Tree a) → AreGood ts → (Fine e → Tree e) × AreGood rest
  told_joined no_more w good = (w, good)
  told_joined {l} (join {name = name} j d more) v good =
      let (w, mid) = told d good.1 in
      told_joined more (λ fine. t.two (joins_two j good.0) (v fine.0) (told_operand l w fine.1.0)) mid

  told_postfixes : {b : Bool} {a e : ExpTree} {ts rest : List Terminal} → Postfixes b a ts e rest → (Fine a → Tree a)
      → (b ≡ true → starts_bracket ts ≡ true → takes_places a ≡ true) → AreGood ts → (Fine e → Tree e) × AreGood rest
  told_postfixes no_postfix w takes good = (w, good)
  told_postfixes {a = a} (an_index {is = is} us more) v takes good =
      let (w, mid) = told_units us good.1 in
      let here = takes refl refl in
      told_postfixes more (λ fine. let (first', rest) = fine_indexed a is fine in tree_indexed here (v first') (w rest)) (λ t s. takes_indexed a is here) mid.1
  told_postfixes {a = a} (a_dot {name = name} o more) v takes good =
      told_postfixes more (λ fine. t.a_call good.1.0.is (good.1.0.plain _) (t.some (t.last_item (v fine.0)))) (λ t s. call_takes name (one_exp a) good.1.0) good.1.1
  told_postfixes {a = a} (a_dot_call {name = name} {es = es} o us more) v takes good =
      let (w, mid) = told_arguments us good.1.1 in
      told_postfixes more (λ fine. t.a_call good.1.0.is (good.1.0.plain _) (one_before (v fine.0) (w fine.1))) (λ t s. call_takes name (exp_before a es) good.1.0) mid

  told_arguments : {ts rest : List Terminal} {es : ExpTrees} → Arguments ts es rest → AreGood ts → (AllFine es → Trees es) × AreGood rest
  told_arguments no_arguments good = ((λ fine. t.none), good.1.1)
  told_arguments (arguments us) good = let (w, rest) = told_units us good.1 in ((λ fine. t.some (w fine)), rest.1)

  told_choices : {ts rest : List Terminal} {bs : ExpBranches} → Choices ts bs rest → AreGood ts → (BranchesFine bs → TreeChoices bs) × AreGood rest
  told_choices (last_choice c d) good =
      let (v, mid) = told c good in
      let (w, rest) = told d mid.1 in
      ((λ fine. t.last_choice (v fine.0) (w fine.1.0)), rest)
  told_choices (more_choices c d bs) good =
      let (v, mid) = told c good in
      let (w, more) = told d mid.1 in
      let (x, rest) = told_choices bs more.1 in
      ((λ fine. t.more_choices (v fine.0) (w fine.1.0) (x fine.1.1)), rest)
