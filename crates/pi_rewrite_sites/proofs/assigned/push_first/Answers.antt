-- An assignment, and any other call.
use Rattle.std.proofs.Common.{sym, ◌∙◌}
use Rattle.pi_syntax.specs.ExpLists.{exps_of}
use Rattle.pi_rewrite_slots.specs.Indexed.{names_in}
use Rattle.pi_rewrite_sites.proofs.AssignedLemmas.{call-assigns, call-leaves}
use Rattle.pi_rewrite_sites.proofs.assigned.push_first.Goals as goal

pub returns-then-eq : goal.returns-then-eq
returns-then-eq c =
    call-assigns c.args.name.now (exps_of c.args.args.now) (names_in c.args.names.now.items) (names_in c.push_variable_of.new.names.items) (sym c.eq.ensures ∙ c.if-eq.true) c.in_ok-push_variable_of.ensures

pub returns : goal.returns
returns c = call-leaves c.args.name.now (exps_of c.args.args.now) (names_in c.args.names.now.items) (sym c.eq.ensures ∙ c.if-eq.false)
