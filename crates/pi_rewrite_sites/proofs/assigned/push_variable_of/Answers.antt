-- What stands first, where anything does.
use Rattle.std.proofs.Common.{sym, ◌∙◌, ap}
use Rattle.pi_syntax.specs.ExpTree.{one_exp, exp_tree}
use Rattle.pi_syntax.specs.ExpLists.{exps_of}
use Rattle.pi_meaning.specs.OverNames.Texts.{the_name, variable_first}
use Rattle.pi_rewrite_slots.specs.Indexed.{names_in}
use Rattle.pi_rewrite_sites.proofs.NameLemmas.{put-first, put-nothing}
use Rattle.pi_rewrite_sites.proofs.AssignedLemmas.{first-of, first-none}
use Rattle.pi_rewrite_sites.proofs.assigned.push_variable_of.Goals as goal

pub returns-then-is_empty : goal.returns-then-is_empty
returns-then-is_empty c =
    put-nothing (names_in c.args.names.now.items) (the_name (variable_first (exps_of c.args.args.now))) (ap the_name (first-none c.args.args.now (sym c.is_empty.ensures ∙ c.if-is_empty.true)))

pub returns : goal.returns
returns c =
    put-first (names_in c.args.names.now.items) (names_in c.push_variable.new.names.items) (the_name (variable_first (exps_of c.args.args.now))) (the_name (variable_first (one_exp (exp_tree c.index-args-0.result))))
    (ap the_name (first-of c.args.args.now c.index-args-0.result (sym c.is_empty.ensures ∙ c.if-is_empty.false) c.index-args-0.is)) c.in_ok-push_variable.ensures
