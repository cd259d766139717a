use Rattle.std.proofs.Common.{◌++◌, ◌∙◌, ap, sym, arith}
use Rattle.std.specs.String.{string_bytes}
use Rattle.pi_print_terms.specs.Tasks.{tasks_text}
use Rattle.pi_print_terms.proofs.WritingLemmas.{all_done}
use Rattle.pi_print_terms.proofs.TaskLemmas.{tasks_text-push}
use Rattle.pi_print_terms.proofs.PrinterLemmas.{first_task}
use Rattle.pi_print_terms.proofs.printer.Printer.term.Goals as goal

pub loop-task-init : goal.loop-task-init
loop-task-init c =
    ap (λ r. string_bytes c.args.out.now ++ r) (rw (c.in_ok-push.ensures.items, c.new-2.ensures.items, c.new.ensures) (first_task _ _ _))

pub loop-task-preserved : goal.loop-task-preserved
loop-task-preserved c =
    c.in_ok-step.ensures.ok
    ∙ (ap (λ r. string_bytes c.loop-task.out ++ r) (sym (tasks_text-push c.args.self.now.is_quoted c.args.self.now.numbers c.pop.new.self.items c.in-Some.task c.loop-task.todo.ahead)
    ∙ ap (λ ks. tasks_text c.args.self.now.is_quoted c.args.self.now.numbers ks c.loop-task.todo.ahead) (sym c.in-Some.ensures.items))
    ∙ c.loop-task.invariant)

pub returns : goal.returns
returns c = record { ok = all_done _ _ _ _ c.loop-task.todo.tasks.items _ (omega (arith, c.in_default.ensures.cases.0, c.loop-task.todo.tasks.ok.0)) c.loop-task.invariant }
