-- Lemmas on expressions in which no index stands behind `@`; and terminals as tokens of a text make them.
use Rattle.std.proofs.Common.{◌≡◌, ℕ, ◌^◌, ◌<◌, true, false, ℤ, pos, List, [], ◌∷◌, IsUtf8}
use Rattle.pi_print_program.specs.Signs.{is_two_place, is_prefix_word, is_sign}
use Rattle.pi_syntax.specs.ExpTree.{ExpTree, index, ExpTrees, no_exps, exp, one_exp}
use Rattle.pi_syntax.specs.Grammar.{conjunction, disjunction, indexed}
use Rattle.pi_syntax.specs.Terminals.{Terminal, variable, atom as atom_terminal, integer, text as text_terminal, joint, relation, goal_sign}
use Rattle.pi_print_program.specs.Patterns.{Fine, AllFine}
use Rattle.pi_print_program.proofs.NameTexts.{IsVariableName, IsAtomName}

pub fine_conjunction : (es : ExpTrees) → Fine (conjunction es) → AllFine es
unfolding Fine AllFine
fine_conjunction no_exps fine = fine
fine_conjunction (exp e no_exps) fine = (fine, tt)
fine_conjunction (exp e (exp f es)) fine = fine

pub fine_disjunction : (es : ExpTrees) → Fine (disjunction es) → AllFine es
unfolding Fine AllFine
fine_disjunction no_exps fine = fine
fine_disjunction (exp e no_exps) fine = (fine, tt)
fine_disjunction (exp e (exp f es)) fine = fine

pub fine_indexed : (a : ExpTree) (is : ExpTrees) → Fine (indexed a is) → Fine a × AllFine is
unfolding Fine AllFine
fine_indexed a no_exps fine = (fine, tt)
fine_indexed a (exp i is) fine =
    let (first', rest) = fine_indexed (index a (one_exp i)) is fine in
    (first'.0, (first'.1.0, rest))

-- ---- terminals

-- a name of an atom that spells no sign
pub record IsPlainName (name : List ℕ) : Type 0 where
  pub is : IsAtomName name
  pub plain : (arity : ℕ) → is_sign name arity ≡ false

-- an integer that a text can have
pub record IsWritten (n : ℤ) : Type 0 where
  pub natural : ℕ
  pub same : n ≡ pos natural
  pub fits : natural < 2 ^ 127

abbrev pub IsGood : Terminal → Type 0
IsGood (variable name) = IsVariableName name
IsGood (atom_terminal name) = IsPlainName name
IsGood (integer n) = IsWritten n
IsGood (text_terminal meaning) = IsUtf8 meaning
IsGood (joint l name) = is_two_place name 2 ≡ true
IsGood (relation name) = is_two_place name 2 ≡ true
IsGood (goal_sign name) = is_prefix_word name 1 ≡ true
IsGood _ = Unit {0}

abbrev pub AreGood : List Terminal → Type 0
AreGood [] = Unit {0}
AreGood (t ∷ ts) = IsGood t × AreGood ts
