-- The tokens of signs, and how they are read between two operands or before one: those of numbers, and the tables of all.
use Rattle.std.proofs.Common.{◌≡◌, ℕ, true, List, refl, codes}
use lib.Utf8.{encode}
use Rattle.pi_syntax.specs.Terminals.{bit_or, bit_xor, bit_and, shift, sum, product, sign_terminal, word_terminal}
use Rattle.pi_syntax.specs.Grammar.{a_joint, a_plus, a_minus}
use Rattle.pi_syntax.specs.Tokens.{sign, is_end_point, atom_or_word, is_reserved, Sign, Word, is_one_of}
use Rattle.pi_print_program.specs.Signs.{two_place_signs, prefix_words, prefix_signs}
use Rattle.pi_print_program.proofs.Says.{says-token, item_some, Spaced, Parenthesized}
use Rattle.pi_print_program.proofs.Climb.{joined_unit, power_unit, goal_sign_unit, plus_unit, minus_unit, complement_unit, constraint_not_unit}
use Rattle.pi_print_program.proofs.SignForms.{TwoPlace, PrefixWord, PrefixSign, before_blank, before_paren, each_name}
use Rattle.pi_print_program.proofs.GoalSigns.{two_0, two_1, two_2, two_3, two_4, two_5, two_6, two_7, two_8, two_9, two_10, two_11, two_12, two_13, two_14, two_15, two_16, two_17, two_18, two_19, two_20, two_21, two_22, two_23, two_24, two_25, two_26, two_27, two_28}

two_29 : TwoPlace (codes "\\/")
unfolding sign is_end_point atom_or_word is_reserved encode sign_terminal word_terminal
two_29 = record {
  token = Sign (codes "\\/");
  says = says-token (codes "\\/") (codes "\\/") (Sign (codes "\\/")) Spaced refl refl refl (before_blank (codes "\\/") (Sign (codes "\\/")) (λ more. item_some _ _));
  dark = λ more. refl;
  joins = λ a b. joined_unit {l = bit_or} a_joint a b;
}

two_30 : TwoPlace (codes "^")
unfolding sign is_end_point atom_or_word is_reserved encode sign_terminal word_terminal
two_30 = record {
  token = Sign (codes "^");
  says = says-token (codes "^") (codes "^") (Sign (codes "^")) Spaced refl refl refl (before_blank (codes "^") (Sign (codes "^")) (λ more. item_some _ _));
  dark = λ more. refl;
  joins = λ a b. joined_unit {l = bit_xor} a_joint a b;
}

two_31 : TwoPlace (codes "/\\")
unfolding sign is_end_point atom_or_word is_reserved encode sign_terminal word_terminal
two_31 = record {
  token = Sign (codes "/\\");
  says = says-token (codes "/\\") (codes "/\\") (Sign (codes "/\\")) Spaced refl refl refl (before_blank (codes "/\\") (Sign (codes "/\\")) (λ more. item_some _ _));
  dark = λ more. refl;
  joins = λ a b. joined_unit {l = bit_and} a_joint a b;
}

two_32 : TwoPlace (codes ">>")
unfolding sign is_end_point atom_or_word is_reserved encode sign_terminal word_terminal
two_32 = record {
  token = Sign (codes ">>");
  says = says-token (codes ">>") (codes ">>") (Sign (codes ">>")) Spaced refl refl refl (before_blank (codes ">>") (Sign (codes ">>")) (λ more. item_some _ _));
  dark = λ more. refl;
  joins = λ a b. joined_unit {l = shift} a_joint a b;
}

two_33 : TwoPlace (codes "<<")
unfolding sign is_end_point atom_or_word is_reserved encode sign_terminal word_terminal
two_33 = record {
  token = Sign (codes "<<");
  says = says-token (codes "<<") (codes "<<") (Sign (codes "<<")) Spaced refl refl refl (before_blank (codes "<<") (Sign (codes "<<")) (λ more. item_some _ _));
  dark = λ more. refl;
  joins = λ a b. joined_unit {l = shift} a_joint a b;
}

two_34 : TwoPlace (codes "+")
unfolding sign is_end_point atom_or_word is_reserved encode sign_terminal word_terminal
two_34 = record {
  token = Sign (codes "+");
  says = says-token (codes "+") (codes "+") (Sign (codes "+")) Spaced refl refl refl (before_blank (codes "+") (Sign (codes "+")) (λ more. item_some _ _));
  dark = λ more. refl;
  joins = λ a b. joined_unit a_plus a b;
}

two_35 : TwoPlace (codes "-")
unfolding sign is_end_point atom_or_word is_reserved encode sign_terminal word_terminal
two_35 = record {
  token = Sign (codes "-");
  says = says-token (codes "-") (codes "-") (Sign (codes "-")) Spaced refl refl refl (before_blank (codes "-") (Sign (codes "-")) (λ more. item_some _ _));
  dark = λ more. refl;
  joins = λ a b. joined_unit a_minus a b;
}

two_36 : TwoPlace (codes "++")
unfolding sign is_end_point atom_or_word is_reserved encode sign_terminal word_terminal
two_36 = record {
  token = Sign (codes "++");
  says = says-token (codes "++") (codes "++") (Sign (codes "++")) Spaced refl refl refl (before_blank (codes "++") (Sign (codes "++")) (λ more. item_some _ _));
  dark = λ more. refl;
  joins = λ a b. joined_unit {l = sum} a_joint a b;
}

two_37 : TwoPlace (codes "*")
unfolding sign is_end_point atom_or_word is_reserved encode sign_terminal word_terminal
two_37 = record {
  token = Sign (codes "*");
  says = says-token (codes "*") (codes "*") (Sign (codes "*")) Spaced refl refl refl (before_blank (codes "*") (Sign (codes "*")) (λ more. item_some _ _));
  dark = λ more. refl;
  joins = λ a b. joined_unit {l = product} a_joint a b;
}

two_38 : TwoPlace (codes "//")
unfolding sign is_end_point atom_or_word is_reserved encode sign_terminal word_terminal
two_38 = record {
  token = Sign (codes "//");
  says = says-token (codes "//") (codes "//") (Sign (codes "//")) Spaced refl refl refl (before_blank (codes "//") (Sign (codes "//")) (λ more. item_some _ _));
  dark = λ more. refl;
  joins = λ a b. joined_unit {l = product} a_joint a b;
}

two_39 : TwoPlace (codes "/>")
unfolding sign is_end_point atom_or_word is_reserved encode sign_terminal word_terminal
two_39 = record {
  token = Sign (codes "/>");
  says = says-token (codes "/>") (codes "/>") (Sign (codes "/>")) Spaced refl refl refl (before_blank (codes "/>") (Sign (codes "/>")) (λ more. item_some _ _));
  dark = λ more. refl;
  joins = λ a b. joined_unit {l = product} a_joint a b;
}

two_40 : TwoPlace (codes "/<")
unfolding sign is_end_point atom_or_word is_reserved encode sign_terminal word_terminal
two_40 = record {
  token = Sign (codes "/<");
  says = says-token (codes "/<") (codes "/<") (Sign (codes "/<")) Spaced refl refl refl (before_blank (codes "/<") (Sign (codes "/<")) (λ more. item_some _ _));
  dark = λ more. refl;
  joins = λ a b. joined_unit {l = product} a_joint a b;
}

two_41 : TwoPlace (codes "mod")
unfolding sign is_end_point atom_or_word is_reserved encode sign_terminal word_terminal
two_41 = record {
  token = Word (codes "mod");
  says = says-token (codes "mod") (codes "mod") (Word (codes "mod")) Spaced refl refl refl (before_blank (codes "mod") (Word (codes "mod")) (λ more. item_some _ _));
  dark = λ more. refl;
  joins = λ a b. joined_unit {l = product} a_joint a b;
}

two_42 : TwoPlace (codes "rem")
unfolding sign is_end_point atom_or_word is_reserved encode sign_terminal word_terminal
two_42 = record {
  token = Word (codes "rem");
  says = says-token (codes "rem") (codes "rem") (Word (codes "rem")) Spaced refl refl refl (before_blank (codes "rem") (Word (codes "rem")) (λ more. item_some _ _));
  dark = λ more. refl;
  joins = λ a b. joined_unit {l = product} a_joint a b;
}

two_43 : TwoPlace (codes "**")
unfolding sign is_end_point atom_or_word is_reserved encode sign_terminal word_terminal
two_43 = record {
  token = Sign (codes "**");
  says = says-token (codes "**") (codes "**") (Sign (codes "**")) Spaced refl refl refl (before_blank (codes "**") (Sign (codes "**")) (λ more. item_some _ _));
  dark = λ more. refl;
  joins = λ a b. power_unit a b;
}

pub two_place : (name : List ℕ) → is_one_of two_place_signs name ≡ true → TwoPlace name
two_place name is = each_name TwoPlace two_place_signs name (two_0, (two_1, (two_2, (two_3, (two_4, (two_5, (two_6, (two_7, (two_8, (two_9, (two_10, (two_11, (two_12, (two_13, (two_14, (two_15, (two_16, (two_17, (two_18, (two_19, (two_20, (two_21, (two_22, (two_23, (two_24, (two_25, (two_26, (two_27, (two_28, (two_29, (two_30, (two_31, (two_32, (two_33, (two_34, (two_35, (two_36, (two_37, (two_38, (two_39, (two_40, (two_41, (two_42, (two_43, tt)))))))))))))))))))))))))))))))))))))))))))) is

before_not : PrefixWord (codes "not")
unfolding sign is_end_point atom_or_word is_reserved encode sign_terminal word_terminal
before_not = record {
  token = Word (codes "not");
  says = says-token (codes "not") (codes "not") (Word (codes "not")) Spaced refl refl refl (before_blank (codes "not") (Word (codes "not")) (λ more. item_some _ _));
  joins = λ d. goal_sign_unit d;
}

before_once : PrefixWord (codes "once")
unfolding sign is_end_point atom_or_word is_reserved encode sign_terminal word_terminal
before_once = record {
  token = Word (codes "once");
  says = says-token (codes "once") (codes "once") (Word (codes "once")) Spaced refl refl refl (before_blank (codes "once") (Word (codes "once")) (λ more. item_some _ _));
  joins = λ d. goal_sign_unit d;
}

pub prefix_word : (name : List ℕ) → is_one_of prefix_words name ≡ true → PrefixWord name
prefix_word name is = each_name PrefixWord prefix_words name (before_not, (before_once, tt)) is

before_minus : PrefixSign (codes "-")
unfolding sign is_end_point atom_or_word is_reserved encode sign_terminal word_terminal
before_minus = record {
  token = Sign (codes "-");
  says = says-token (codes "-") (codes "-") (Sign (codes "-")) Parenthesized refl refl refl (before_paren (codes "-") (Sign (codes "-")) (λ more. item_some _ _));
  no_word = refl;
  joins = λ d. minus_unit d;
}

before_plus : PrefixSign (codes "+")
unfolding sign is_end_point atom_or_word is_reserved encode sign_terminal word_terminal
before_plus = record {
  token = Sign (codes "+");
  says = says-token (codes "+") (codes "+") (Sign (codes "+")) Parenthesized refl refl refl (before_paren (codes "+") (Sign (codes "+")) (λ more. item_some _ _));
  no_word = refl;
  joins = λ d. plus_unit d;
}

before_complement : PrefixSign (codes "~")
unfolding sign is_end_point atom_or_word is_reserved encode sign_terminal word_terminal
before_complement = record {
  token = Sign (codes "~");
  says = says-token (codes "~") (codes "~") (Sign (codes "~")) Parenthesized refl refl refl (before_paren (codes "~") (Sign (codes "~")) (λ more. item_some _ _));
  no_word = refl;
  joins = λ d. complement_unit d;
}

before_constraint : PrefixSign (codes "#~")
unfolding sign is_end_point atom_or_word is_reserved encode sign_terminal word_terminal
before_constraint = record {
  token = Sign (codes "#~");
  says = says-token (codes "#~") (codes "#~") (Sign (codes "#~")) Parenthesized refl refl refl (before_paren (codes "#~") (Sign (codes "#~")) (λ more. item_some _ _));
  no_word = refl;
  joins = λ d. constraint_not_unit d;
}

pub prefix_sign : (name : List ℕ) → is_one_of prefix_signs name ≡ true → PrefixSign name
prefix_sign name is = each_name PrefixSign prefix_signs name (before_minus, (before_plus, (before_complement, (before_constraint, tt)))) is
