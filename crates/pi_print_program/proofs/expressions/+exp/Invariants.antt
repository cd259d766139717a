-- What is written, and what those that are left come to, are the whole.
use Rattle.std.proofs.Common.{◌≡◌, ◌++◌, codes, drop}
use Rattle.std.specs.String.{string_bytes}
use denote.Shadow.{shadow}
use denote.Text.{Utf8}
use Rattle.pi_syntax.specs.ExpLists.{exps_of}
use Rattle.pi_print_program.specs.Branches.{branches_in}
use Rattle.pi_print_program.specs.CanonicalExp.{exp_texts, choice_texts}
use Rattle.pi_print_program.specs.Texts.{parted}
use Rattle.pi_print_program.proofs.PartedLemmas.{led}
use Rattle.pi_print_program.proofs.expressions.+exp.Given as goal

abbrev pub invariant-write_exps-loop-exp : goal.invariant-write_exps-loop-exp
invariant-write_exps-loop-exp l = record {
  text : shadow (Utf8 l.before);
  written : string_bytes l.out ++ led l.before l.parting (exp_texts (exps_of (drop l.exp-index l.exps))) ≡ string_bytes l.initial.out ++ parted l.parting (exp_texts (exps_of l.exps));
}

abbrev pub invariant-write_choices-loop-branch : goal.invariant-write_choices-loop-branch
invariant-write_choices-loop-branch l = record {
  text : shadow (Utf8 l.before);
  written : string_bytes l.out ++ led l.before (codes " elseif ") (choice_texts (branches_in (drop l.branch-index l.branches))) ≡ string_bytes l.initial.out ++ parted (codes " elseif ") (choice_texts (branches_in l.branches));
}
