-- Some words, and what they ask.
use Rattle.std.proofs.Common.{◌≡◌, refl, ℕ, List, [], ◌∷◌, Option, None, Some}
use lib.Chars.{codes}
use Rattle.clap.proofs.OnLiterals.{clap_on_literals}
use Rattle.pi_top_words.specs.Command.{the_command}
use Rattle.pi_top_words.specs.Words.{options, default_answers, default_steps, default_work}
use Rattle.pi_top_words.specs.declared.asked.Options.{Options}
use Rattle.pi_top_words.specs.declared.run_mode.RunMode.{RunMode}
use Rattle.pi_top_words.specs.declared.run_mode.RunMode.TheVariants.{Query, Run, Demo}

f : List ℕ
f = codes "f"

g : List ℕ
g = codes "g"

a_query : ℕ → List ℕ → List ℕ → Option Options
a_query answers file goal =
    Some record { answers = answers; steps = default_steps; work = default_work; mode = Query; file = file; goal = Some goal }

other_mode : RunMode → List ℕ → Option Options
other_mode mode file =
    Some record { answers = default_answers; steps = default_steps; work = default_work; mode = mode; file = file; goal = None }

plain : options (codes "f" ∷ codes "g" ∷ []) ≡ a_query default_answers f g
unfolding clap_on_literals the_command options a_query f g
plain = refl

with_sign : options (codes "--answers=1" ∷ codes "f" ∷ codes "g" ∷ []) ≡ a_query 1 f g
unfolding clap_on_literals the_command options a_query f g
with_sign = refl

two_words : options (codes "--answers" ∷ codes "1" ∷ codes "f" ∷ codes "g" ∷ []) ≡ a_query 1 f g
unfolding clap_on_literals the_command options a_query f g
two_words = refl

behind_the_file : options (codes "f" ∷ codes "--answers" ∷ codes "1" ∷ codes "g" ∷ []) ≡ a_query 1 f g
unfolding clap_on_literals the_command options a_query f g
behind_the_file = refl

twice : options (codes "--answers=1" ∷ codes "--answers=1" ∷ codes "f" ∷ codes "g" ∷ []) ≡ None
unfolding clap_on_literals the_command options
twice = refl

out_of_range : options (codes "--answers=0" ∷ codes "f" ∷ codes "g" ∷ []) ≡ None
unfolding clap_on_literals the_command options
out_of_range = refl

no_words : options [] ≡ None
unfolding clap_on_literals the_command options
no_words = refl

no_goal : options (codes "f" ∷ []) ≡ None
unfolding clap_on_literals the_command options
no_goal = refl

word_too_many : options (codes "f" ∷ codes "g" ∷ codes "h" ∷ []) ≡ None
unfolding clap_on_literals the_command options
word_too_many = refl

help : options (codes "--help" ∷ codes "f" ∷ codes "g" ∷ []) ≡ None
unfolding clap_on_literals the_command options
help = refl

version : options (codes "--version" ∷ []) ≡ None
unfolding clap_on_literals the_command options
version = refl

dashed_goal : options (codes "f" ∷ codes "-1 = X" ∷ []) ≡ None
unfolding clap_on_literals the_command options
dashed_goal = refl

dashed_goal_behind : options (codes "f" ∷ codes "--" ∷ codes "-1 = X" ∷ []) ≡ a_query default_answers f (codes "-1 = X")
unfolding clap_on_literals the_command options a_query f
dashed_goal_behind = refl

dashed_file_behind : options (codes "--" ∷ codes "--f" ∷ codes "g" ∷ []) ≡ a_query default_answers (codes "--f") g
unfolding clap_on_literals the_command options a_query g
dashed_file_behind = refl

in_run : options (codes "--mode" ∷ codes "run" ∷ codes "f" ∷ []) ≡ other_mode Run f
unfolding clap_on_literals the_command options other_mode f
in_run = refl

in_run_with_goal : options (codes "--mode" ∷ codes "run" ∷ codes "f" ∷ codes "g" ∷ []) ≡ None
unfolding clap_on_literals the_command options
in_run_with_goal = refl

in_demo : options (codes "--mode=demo" ∷ codes "10" ∷ []) ≡ other_mode Demo (codes "10")
unfolding clap_on_literals the_command options other_mode
in_demo = refl

in_demo_past : options (codes "--mode=demo" ∷ codes "401" ∷ []) ≡ None
unfolding clap_on_literals the_command options
in_demo_past = refl

no_mode : options (codes "--mode=runs" ∷ codes "f" ∷ []) ≡ None
unfolding clap_on_literals the_command options
no_mode = refl
