use Rattle.std.proofs.Common.{ap, sym, ◌∙◌, refl}
use Rattle.std.specs.Prelude.{option_map}
use Rattle.pi_lex.specs.Kinds.{kinds}
use Rattle.pi_syntax.specs.ExpTree.{exp_tree}
use Rattle.pi_syntax.specs.ProgramTree.{source_tree}
use Rattle.pi_prog_clauses.specs.Called.{named_by}
use Rattle.pi_prog_clauses.specs.Reading.{variable_names}
use Rattle.pi_prog_clauses.specs.Stretch.{without_end}
use Rattle.pi_prog_clauses.specs.Verdict.{has_too_many_names}
use Rattle.pi_prog.proofs.goal.GoalLemmas.{bad_told, many_told, unknown_told, goal_calls}
use Rattle.pi_prog.proofs.goal.judge_goal.Goals as goal

pub returns-then-is_bad-clause-fault : goal.returns-then-is_bad-clause-fault
returns-then-is_bad-clause-fault c =
    bad_told (source_tree c.args.program.now) (exp_tree c.args.body.now) (variable_names (without_end (kinds c.args.tokens.now))) (sym c.in_ok-is_bad.ensures ∙ c.if-is_bad.true)

pub returns-then-has_too_many-clause-fault : goal.returns-then-has_too_many-clause-fault
returns-then-has_too_many-clause-fault c =
    many_told (source_tree c.args.program.now) (exp_tree c.args.body.now) (variable_names (without_end (kinds c.args.tokens.now))) (sym c.in_ok-is_bad.ensures ∙ c.if-is_bad.false)
    (sym (ap (λ ts. has_too_many_names (variable_names ts)) c.goal_end-to.ensures.before) ∙ sym c.in_ok-has_too_many.ensures ∙ c.if-has_too_many.true)

pub returns-in-Some-clause-fault : goal.returns-in-Some-clause-fault
returns-in-Some-clause-fault c =
    unknown_told (source_tree c.args.program.now) (exp_tree c.args.body.now) (variable_names (without_end (kinds c.args.tokens.now))) (record { called = named_by c.in-Some.called; number = 1 }) c.unknown_name.result
    (sym c.in_ok-is_bad.ensures ∙ c.if-is_bad.false)
    (sym (ap (λ ts. has_too_many_names (variable_names ts)) c.goal_end-to.ensures.before) ∙ sym c.in_ok-has_too_many.ensures ∙ c.if-has_too_many.false)
    (ap (option_map named_by) (sym c.in-Some.is) ∙ c.in_ok-unknown.ensures) refl c.unknown_name.ensures

pub returns-clause-ok : goal.returns-clause-ok
returns-clause-ok c =
    goal_calls (source_tree c.args.program.now) (exp_tree c.args.body.now) (variable_names (without_end (kinds c.args.tokens.now)))
    (sym c.in_ok-is_bad.ensures ∙ c.if-is_bad.false)
    (sym (ap (λ ts. has_too_many_names (variable_names ts)) c.goal_end-to.ensures.before) ∙ sym c.in_ok-has_too_many.ensures ∙ c.if-has_too_many.false)
    _ (ap (option_map named_by) (sym c.in_default.is) ∙ c.in_ok-unknown.ensures)
