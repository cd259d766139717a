-- Each tree as it is read has its canonical text, which is read as that tree.
use Rattle.std.proofs.Common.{ℕ, zero, suc, ◌^◌, ◌<◌, ℤ, pos, ◌-ℤ◌, sym, subst}
use Rattle.pi_syntax.specs.ExpTree.{ExpTree, int, ExpTrees, ExpBranches}
use Rattle.pi_print_program.proofs.Writes.{Writes}
use Rattle.pi_print_program.proofs.Sequences.{Items, last_item, more_items, Each, none, some, sequence, disjuncts, WritesBranch, plain_branch, arrow_branch, Alternatives, last_alternative, more_alternatives, Conditions, last_condition, more_conditions}
use Rattle.pi_print_program.proofs.Forms.{writes_variable, writes_at, below_zero, writes_natural, writes_negative, writes_atom, writes_text}
use Rattle.pi_print_program.proofs.Calls.{writes_two, writes_word, writes_sign, writes_call, writes_quote, writes_index}
use Rattle.pi_print_program.proofs.Bracketed.{writes_no_list, writes_list, writes_list_onto, writes_no_array, writes_array, writes_list_of, writes_array_of, writes_range, writes_range_by}
use Rattle.pi_print_program.proofs.Blocks.{writes_and, writes_or, writes_if, writes_if_else, writes_foreach, writes_while, writes_do}
use Rattle.pi_print_program.proofs.Tree.{Tree, TreeItems, Trees, TreeBranch, TreeBranches, TreeChoices}
use Rattle.pi_print_program.proofs.Tree as t

writes_less : (m : ℕ) → m < 2 ^ 127 → Writes (int (pos 0 -ℤ pos m))
writes_less zero fits = writes_natural 0 fits
writes_less (suc m) fits = subst (λ (z : ℤ). Writes (int z)) (sym (below_zero m)) (writes_negative m fits)

mutual
  pub writes : {e : ExpTree} → Tree e → Writes e
  writes (t.a_variable {name} is) = writes_variable name is
  writes (t.an_at {name} is u other) = writes_at name is (writes u) other
  writes (t.a_natural m same fits) = subst (λ (z : ℤ). Writes (int z)) (sym same) (writes_natural m fits)
  writes (t.a_negative m same fits) = subst (λ (z : ℤ). Writes (int z)) (sym same) (writes_less m fits)
  writes (t.an_atom {name} is) = writes_atom name is
  writes (t.a_text {text} is) = writes_text text is
  writes (t.two {name} is u v) = writes_two name is (writes u) (writes v)
  writes (t.behind_word {name} is u) = writes_word name is (writes u)
  writes (t.behind_sign {name} is u) = writes_sign name is (writes u)
  writes (t.a_call {name} is free us) = writes_call name is free (writes_trees us)
  writes (t.a_term u) = writes_quote (writes u)
  writes (t.an_index takes u v) = writes_index takes (writes u) (writes v)
  writes t.no_list = writes_no_list
  writes (t.a_list us) = writes_list (writes_items us)
  writes (t.a_list_onto us u) = writes_list_onto (writes_items us) (writes u)
  writes t.no_array = writes_no_array
  writes (t.an_array us) = writes_array (writes_items us)
  writes (t.a_list_of u us) = writes_list_of (writes u) (writes_items us)
  writes (t.an_array_of u us) = writes_array_of (writes u) (writes_items us)
  writes (t.a_range u v) = writes_range (writes u) (writes v)
  writes (t.a_stepped_range u v w) = writes_range_by (writes u) (writes v) (writes w)
  writes (t.conjuncts us) = writes_and (sequence (writes_items us))
  writes (t.disjuncts us) = writes_or (disjuncts (writes_branches us))
  writes (t.an_if us) = writes_if (writes_choices us)
  writes (t.an_if_else us u) = writes_if_else (writes_choices us) (writes u)
  writes (t.a_foreach us u) = writes_foreach (writes_items us) (writes u)
  writes (t.a_while u v) = writes_while (writes u) (writes v)
  writes (t.a_do_while u v) = writes_do (writes u) (writes v)

  pub writes_items : {es : ExpTrees} → TreeItems es → Items es
  writes_items (t.last_item u) = last_item (writes u)
  writes_items (t.more_items u us) = more_items (writes u) (writes_items us)

  writes_trees : {es : ExpTrees} → Trees es → Each es
  writes_trees t.none = none
  writes_trees (t.some us) = some (writes_items us)

  writes_branch : {e : ExpTree} → TreeBranch e → WritesBranch e
  writes_branch (t.plain_branch u) = plain_branch (writes u)
  writes_branch (t.arrow_branch u v) = arrow_branch (writes u) (writes v)

  writes_branches : {es : ExpTrees} → TreeBranches es → Alternatives es
  writes_branches (t.last_branch u) = last_alternative (writes u)
  writes_branches (t.more_branches u us) = more_alternatives (writes_branch u) (writes_branches us)

  writes_choices : {bs : ExpBranches} → TreeChoices bs → Conditions bs
  writes_choices (t.last_choice u v) = last_condition (writes u) (writes v)
  writes_choices (t.more_choices u v us) = more_conditions (writes u) (writes v) (writes_choices us)
