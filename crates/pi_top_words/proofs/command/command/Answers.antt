use Rattle.std.proofs.Common.{rules, ap, ap₂, codes, ◌≡◌, ◌∙◌}
use Rattle.clap.specs.Words.{app_of, new_app, with_rule}
use Rattle.clap.specs.Simple.{app_of_fields}
use Rattle.pi_top_words.specs.Command.{the_command, without_name}
use Rattle.pi_top_words.proofs.command.command.Goals as goal

pub returns : goal.returns
unfolding the_command
returns c =
    let named : app_of c.no_binary_name.result ≡ without_name (new_app (codes "picatq")) = ap app_of_fields c.no_binary_name.ensures ∙ ap without_name c.new.ensures.app in
    let answers = c.in_ok-arg.ensures.shape (search rules) ∙ ap₂ with_rule named c.option.ensures.rule in
    let steps = c.in_ok-arg-2.ensures.shape (search rules) ∙ ap₂ with_rule answers c.option-2.ensures.rule in
    let work = c.in_ok-arg-3.ensures.shape (search rules) ∙ ap₂ with_rule steps c.option-3.ensures.rule in
    let mode = c.in_ok-arg-4.ensures.shape (search rules) ∙ ap₂ with_rule work c.option-4.ensures.rule in
    let file = c.in_ok-arg-5.ensures.shape (search rules) ∙ ap₂ with_rule mode c.word.ensures.rule in
    c.in_ok-command.ensures.shape (search rules) ∙ ap₂ with_rule file c.word-2.ensures.rule
