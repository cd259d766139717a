-- The command of which the words are a command line: four options with a value each, FILE, and GOAL, which may be absent.
use Rattle.std.specs.Prelude.{Bool, true, false, Some}
use lib.Chars.{codes}
use Rattle.clap.specs.Words.{App, Rule, Text, new_app, new_rule, with_rule}
use Rattle.clap.specs.Simple.{on_top}
use Rattle.clap.specs.declared.builder.action.ArgAction.TheVariants.{Set}

-- `--name VALUE` or `--name=VALUE`
abbrev pub option_rule : Text → Rule
option_rule name = record (new_rule name) { long = Some name; action = Some Set }

-- a word that stands for itself
abbrev pub word_rule : Text → Bool → Rule
word_rule name is_required = record (new_rule name) { action = Some Set; required = is_required }

-- all words belong to the command: the program's name isn't among them
abbrev pub without_name : App → App
without_name = on_top (λ s. record s { no_binary_name = true })

unfoldable pub the_command : App
the_command =
    with_rule (with_rule (with_rule (with_rule (with_rule (with_rule (without_name (new_app (codes "picatq")))
    (option_rule (codes "answers"))) (option_rule (codes "steps"))) (option_rule (codes "work"))) (option_rule (codes "mode")))
    (word_rule (codes "file") true)) (word_rule (codes "goal") false)
