-- The signs of goals and constraints between two operands.
use Rattle.std.proofs.Common.{refl, codes}
use lib.Utf8.{encode}
use Rattle.pi_syntax.specs.Terminals.{equivalence, implication, constraint_or, constraint_xor, constraint_and, sign_terminal, word_terminal}
use Rattle.pi_syntax.specs.Grammar.{a_joint}
use Rattle.pi_syntax.specs.Tokens.{sign, is_end_point, atom_or_word, is_reserved, Sign, Word}
use Rattle.pi_print_program.proofs.Says.{says-token, item_some, Spaced}
use Rattle.pi_print_program.proofs.Climb.{joined_unit, related_unit}
use Rattle.pi_print_program.proofs.SignForms.{TwoPlace, before_blank}

pub two_0 : TwoPlace (codes "#<=>")
unfolding sign is_end_point atom_or_word is_reserved encode sign_terminal word_terminal
two_0 = record {
  token = Sign (codes "#<=>");
  says = says-token (codes "#<=>") (codes "#<=>") (Sign (codes "#<=>")) Spaced refl refl refl (before_blank (codes "#<=>") (Sign (codes "#<=>")) (λ more. item_some _ _));
  dark = λ more. refl;
  joins = λ a b. joined_unit {l = equivalence} a_joint a b;
}

pub two_1 : TwoPlace (codes "#=>")
unfolding sign is_end_point atom_or_word is_reserved encode sign_terminal word_terminal
two_1 = record {
  token = Sign (codes "#=>");
  says = says-token (codes "#=>") (codes "#=>") (Sign (codes "#=>")) Spaced refl refl refl (before_blank (codes "#=>") (Sign (codes "#=>")) (λ more. item_some _ _));
  dark = λ more. refl;
  joins = λ a b. joined_unit {l = implication} a_joint a b;
}

pub two_2 : TwoPlace (codes "#\\/")
unfolding sign is_end_point atom_or_word is_reserved encode sign_terminal word_terminal
two_2 = record {
  token = Sign (codes "#\\/");
  says = says-token (codes "#\\/") (codes "#\\/") (Sign (codes "#\\/")) Spaced refl refl refl (before_blank (codes "#\\/") (Sign (codes "#\\/")) (λ more. item_some _ _));
  dark = λ more. refl;
  joins = λ a b. joined_unit {l = constraint_or} a_joint a b;
}

pub two_3 : TwoPlace (codes "#^")
unfolding sign is_end_point atom_or_word is_reserved encode sign_terminal word_terminal
two_3 = record {
  token = Sign (codes "#^");
  says = says-token (codes "#^") (codes "#^") (Sign (codes "#^")) Spaced refl refl refl (before_blank (codes "#^") (Sign (codes "#^")) (λ more. item_some _ _));
  dark = λ more. refl;
  joins = λ a b. joined_unit {l = constraint_xor} a_joint a b;
}

pub two_4 : TwoPlace (codes "#/\\")
unfolding sign is_end_point atom_or_word is_reserved encode sign_terminal word_terminal
two_4 = record {
  token = Sign (codes "#/\\");
  says = says-token (codes "#/\\") (codes "#/\\") (Sign (codes "#/\\")) Spaced refl refl refl (before_blank (codes "#/\\") (Sign (codes "#/\\")) (λ more. item_some _ _));
  dark = λ more. refl;
  joins = λ a b. joined_unit {l = constraint_and} a_joint a b;
}

pub two_5 : TwoPlace (codes "=")
unfolding sign is_end_point atom_or_word is_reserved encode sign_terminal word_terminal
two_5 = record {
  token = Sign (codes "=");
  says = says-token (codes "=") (codes "=") (Sign (codes "=")) Spaced refl refl refl (before_blank (codes "=") (Sign (codes "=")) (λ more. item_some _ _));
  dark = λ more. refl;
  joins = λ a b. related_unit a b;
}

pub two_6 : TwoPlace (codes "!=")
unfolding sign is_end_point atom_or_word is_reserved encode sign_terminal word_terminal
two_6 = record {
  token = Sign (codes "!=");
  says = says-token (codes "!=") (codes "!=") (Sign (codes "!=")) Spaced refl refl refl (before_blank (codes "!=") (Sign (codes "!=")) (λ more. item_some _ _));
  dark = λ more. refl;
  joins = λ a b. related_unit a b;
}

pub two_7 : TwoPlace (codes "==")
unfolding sign is_end_point atom_or_word is_reserved encode sign_terminal word_terminal
two_7 = record {
  token = Sign (codes "==");
  says = says-token (codes "==") (codes "==") (Sign (codes "==")) Spaced refl refl refl (before_blank (codes "==") (Sign (codes "==")) (λ more. item_some _ _));
  dark = λ more. refl;
  joins = λ a b. related_unit a b;
}

pub two_8 : TwoPlace (codes "!==")
unfolding sign is_end_point atom_or_word is_reserved encode sign_terminal word_terminal
two_8 = record {
  token = Sign (codes "!==");
  says = says-token (codes "!==") (codes "!==") (Sign (codes "!==")) Spaced refl refl refl (before_blank (codes "!==") (Sign (codes "!==")) (λ more. item_some _ _));
  dark = λ more. refl;
  joins = λ a b. related_unit a b;
}

pub two_9 : TwoPlace (codes "=:=")
unfolding sign is_end_point atom_or_word is_reserved encode sign_terminal word_terminal
two_9 = record {
  token = Sign (codes "=:=");
  says = says-token (codes "=:=") (codes "=:=") (Sign (codes "=:=")) Spaced refl refl refl (before_blank (codes "=:=") (Sign (codes "=:=")) (λ more. item_some _ _));
  dark = λ more. refl;
  joins = λ a b. related_unit a b;
}

pub two_10 : TwoPlace (codes "=\\=")
unfolding sign is_end_point atom_or_word is_reserved encode sign_terminal word_terminal
two_10 = record {
  token = Sign (codes "=\\=");
  says = says-token (codes "=\\=") (codes "=\\=") (Sign (codes "=\\=")) Spaced refl refl refl (before_blank (codes "=\\=") (Sign (codes "=\\=")) (λ more. item_some _ _));
  dark = λ more. refl;
  joins = λ a b. related_unit a b;
}

pub two_11 : TwoPlace (codes "<")
unfolding sign is_end_point atom_or_word is_reserved encode sign_terminal word_terminal
two_11 = record {
  token = Sign (codes "<");
  says = says-token (codes "<") (codes "<") (Sign (codes "<")) Spaced refl refl refl (before_blank (codes "<") (Sign (codes "<")) (λ more. item_some _ _));
  dark = λ more. refl;
  joins = λ a b. related_unit a b;
}

pub two_12 : TwoPlace (codes "=<")
unfolding sign is_end_point atom_or_word is_reserved encode sign_terminal word_terminal
two_12 = record {
  token = Sign (codes "=<");
  says = says-token (codes "=<") (codes "=<") (Sign (codes "=<")) Spaced refl refl refl (before_blank (codes "=<") (Sign (codes "=<")) (λ more. item_some _ _));
  dark = λ more. refl;
  joins = λ a b. related_unit a b;
}

pub two_13 : TwoPlace (codes ">")
unfolding sign is_end_point atom_or_word is_reserved encode sign_terminal word_terminal
two_13 = record {
  token = Sign (codes ">");
  says = says-token (codes ">") (codes ">") (Sign (codes ">")) Spaced refl refl refl (before_blank (codes ">") (Sign (codes ">")) (λ more. item_some _ _));
  dark = λ more. refl;
  joins = λ a b. related_unit a b;
}

pub two_14 : TwoPlace (codes ">=")
unfolding sign is_end_point atom_or_word is_reserved encode sign_terminal word_terminal
two_14 = record {
  token = Sign (codes ">=");
  says = says-token (codes ">=") (codes ">=") (Sign (codes ">=")) Spaced refl refl refl (before_blank (codes ">=") (Sign (codes ">=")) (λ more. item_some _ _));
  dark = λ more. refl;
  joins = λ a b. related_unit a b;
}

pub two_15 : TwoPlace (codes "@<")
unfolding sign is_end_point atom_or_word is_reserved encode sign_terminal word_terminal
two_15 = record {
  token = Sign (codes "@<");
  says = says-token (codes "@<") (codes "@<") (Sign (codes "@<")) Spaced refl refl refl (before_blank (codes "@<") (Sign (codes "@<")) (λ more. item_some _ _));
  dark = λ more. refl;
  joins = λ a b. related_unit a b;
}

pub two_16 : TwoPlace (codes "@=<")
unfolding sign is_end_point atom_or_word is_reserved encode sign_terminal word_terminal
two_16 = record {
  token = Sign (codes "@=<");
  says = says-token (codes "@=<") (codes "@=<") (Sign (codes "@=<")) Spaced refl refl refl (before_blank (codes "@=<") (Sign (codes "@=<")) (λ more. item_some _ _));
  dark = λ more. refl;
  joins = λ a b. related_unit a b;
}

pub two_17 : TwoPlace (codes "@>")
unfolding sign is_end_point atom_or_word is_reserved encode sign_terminal word_terminal
two_17 = record {
  token = Sign (codes "@>");
  says = says-token (codes "@>") (codes "@>") (Sign (codes "@>")) Spaced refl refl refl (before_blank (codes "@>") (Sign (codes "@>")) (λ more. item_some _ _));
  dark = λ more. refl;
  joins = λ a b. related_unit a b;
}

pub two_18 : TwoPlace (codes "@>=")
unfolding sign is_end_point atom_or_word is_reserved encode sign_terminal word_terminal
two_18 = record {
  token = Sign (codes "@>=");
  says = says-token (codes "@>=") (codes "@>=") (Sign (codes "@>=")) Spaced refl refl refl (before_blank (codes "@>=") (Sign (codes "@>=")) (λ more. item_some _ _));
  dark = λ more. refl;
  joins = λ a b. related_unit a b;
}

pub two_19 : TwoPlace (codes ":=")
unfolding sign is_end_point atom_or_word is_reserved encode sign_terminal word_terminal
two_19 = record {
  token = Sign (codes ":=");
  says = says-token (codes ":=") (codes ":=") (Sign (codes ":=")) Spaced refl refl refl (before_blank (codes ":=") (Sign (codes ":=")) (λ more. item_some _ _));
  dark = λ more. refl;
  joins = λ a b. related_unit a b;
}

pub two_20 : TwoPlace (codes "::")
unfolding sign is_end_point atom_or_word is_reserved encode sign_terminal word_terminal
two_20 = record {
  token = Sign (codes "::");
  says = says-token (codes "::") (codes "::") (Sign (codes "::")) Spaced refl refl refl (before_blank (codes "::") (Sign (codes "::")) (λ more. item_some _ _));
  dark = λ more. refl;
  joins = λ a b. related_unit a b;
}

pub two_21 : TwoPlace (codes "in")
unfolding sign is_end_point atom_or_word is_reserved encode sign_terminal word_terminal
two_21 = record {
  token = Word (codes "in");
  says = says-token (codes "in") (codes "in") (Word (codes "in")) Spaced refl refl refl (before_blank (codes "in") (Word (codes "in")) (λ more. item_some _ _));
  dark = λ more. refl;
  joins = λ a b. related_unit a b;
}

pub two_22 : TwoPlace (codes "notin")
unfolding sign is_end_point atom_or_word is_reserved encode sign_terminal word_terminal
two_22 = record {
  token = Word (codes "notin");
  says = says-token (codes "notin") (codes "notin") (Word (codes "notin")) Spaced refl refl refl (before_blank (codes "notin") (Word (codes "notin")) (λ more. item_some _ _));
  dark = λ more. refl;
  joins = λ a b. related_unit a b;
}

pub two_23 : TwoPlace (codes "#=")
unfolding sign is_end_point atom_or_word is_reserved encode sign_terminal word_terminal
two_23 = record {
  token = Sign (codes "#=");
  says = says-token (codes "#=") (codes "#=") (Sign (codes "#=")) Spaced refl refl refl (before_blank (codes "#=") (Sign (codes "#=")) (λ more. item_some _ _));
  dark = λ more. refl;
  joins = λ a b. related_unit a b;
}

pub two_24 : TwoPlace (codes "#!=")
unfolding sign is_end_point atom_or_word is_reserved encode sign_terminal word_terminal
two_24 = record {
  token = Sign (codes "#!=");
  says = says-token (codes "#!=") (codes "#!=") (Sign (codes "#!=")) Spaced refl refl refl (before_blank (codes "#!=") (Sign (codes "#!=")) (λ more. item_some _ _));
  dark = λ more. refl;
  joins = λ a b. related_unit a b;
}

pub two_25 : TwoPlace (codes "#<")
unfolding sign is_end_point atom_or_word is_reserved encode sign_terminal word_terminal
two_25 = record {
  token = Sign (codes "#<");
  says = says-token (codes "#<") (codes "#<") (Sign (codes "#<")) Spaced refl refl refl (before_blank (codes "#<") (Sign (codes "#<")) (λ more. item_some _ _));
  dark = λ more. refl;
  joins = λ a b. related_unit a b;
}

pub two_26 : TwoPlace (codes "#=<")
unfolding sign is_end_point atom_or_word is_reserved encode sign_terminal word_terminal
two_26 = record {
  token = Sign (codes "#=<");
  says = says-token (codes "#=<") (codes "#=<") (Sign (codes "#=<")) Spaced refl refl refl (before_blank (codes "#=<") (Sign (codes "#=<")) (λ more. item_some _ _));
  dark = λ more. refl;
  joins = λ a b. related_unit a b;
}

pub two_27 : TwoPlace (codes "#>")
unfolding sign is_end_point atom_or_word is_reserved encode sign_terminal word_terminal
two_27 = record {
  token = Sign (codes "#>");
  says = says-token (codes "#>") (codes "#>") (Sign (codes "#>")) Spaced refl refl refl (before_blank (codes "#>") (Sign (codes "#>")) (λ more. item_some _ _));
  dark = λ more. refl;
  joins = λ a b. related_unit a b;
}

pub two_28 : TwoPlace (codes "#>=")
unfolding sign is_end_point atom_or_word is_reserved encode sign_terminal word_terminal
two_28 = record {
  token = Sign (codes "#>=");
  says = says-token (codes "#>=") (codes "#>=") (Sign (codes "#>=")) Spaced refl refl refl (before_blank (codes "#>=") (Sign (codes "#>=")) (λ more. item_some _ _));
  dark = λ more. refl;
  joins = λ a b. related_unit a b;
}
