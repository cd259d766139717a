-- What holds of all that words ask: one answer at least, a goal exactly in the mode `query`, and in the mode `demo` a number of places.
use Rattle.std.proofs.Common.{◌≡◌, ◌<◌, ℕ, Bool, true, false, ◌&&◌, nat_le, List, [], ◌∷◌, Option, None, Some, is_some, if◌then◌else◌, arith, refl, lit<}
use Rattle.std.proofs.lemmas.Bool.Decides.{nat_tests}
use Rattle.std.specs.Prelude.{⊤}
use Rattle.std.specs.Str.Parse.{digits_value}
use lib.Chars.{codes}
use Rattle.clap.specs.Words.{Kinds, Row, first_of, fault_of, matches_of}
use Rattle.pi_top_words.specs.declared.asked.Options.{Options}
use Rattle.pi_top_words.specs.declared.run_mode.RunMode.{RunMode}
use Rattle.pi_top_words.specs.declared.run_mode.RunMode.TheVariants.{Query, Run, Session, Print, Demo}
use Rattle.pi_top_words.specs.declared.settings.Settings.{Settings}
use Rattle.pi_top_words.specs.Command.{the_command}
use Rattle.pi_top_words.specs.Words.{is_number, number_within, mode_named, value_or, default_answers, default_steps, default_work, together, settings_in, places_by, places_of, takes_file, takes_goal, asked_with, asked_in, where_parsed, options}

abbrev pub GoalByMode : RunMode → Option (List ℕ) → Type 0
GoalByMode Query (Some goal) = Unit {0}
GoalByMode Query None = ⊥
GoalByMode other (Some goal) = ⊥
GoalByMode other None = Unit {0}

record IsRight (asked : Options) : Type 0 where
  some_answer : 0 < asked.answers
  by_mode : GoalByMode asked.mode asked.goal
  places : asked.mode ≡ Demo → is_some (places_of asked) ≡ true

abbrev OfAll : Option Options → Type 0
OfAll None = ⊤
OfAll (Some asked) = IsRight asked

abbrev OfSettings : Option Settings → Type 0
OfSettings None = ⊤
OfSettings (Some settings) = 0 < settings.answers

abbrev OfNumber : Option ℕ → Type 0
OfNumber None = ⊤
OfNumber (Some n) = 0 < n

of-test : (number least most : Bool) (n : ℕ) → least ≡ nat_le 1 n → OfNumber (if number && least && most then Some n else None)
of-test true true true n e = grind (arith, nat_tests, e)
of-test true true false n e = tt
of-test true false most n e = tt
of-test false least most n e = tt

of-answers : (word : Option (List ℕ)) → OfNumber (value_or default_answers (number_within 1 1000000000) word)
of-answers None = lit< tt
of-answers (Some word) = of-test (is_number word) (nat_le 1 (digits_value 10 word)) (nat_le (digits_value 10 word) 1000000000) (digits_value 10 word) refl

of-together : (answers steps work : Option ℕ) (mode : Option RunMode) → OfNumber answers → OfSettings (together answers steps work mode)
of-together None steps work mode some = tt
of-together (Some a) None work mode some = tt
of-together (Some a) (Some s) None mode some = tt
of-together (Some a) (Some s) (Some w) None some = tt
of-together (Some a) (Some s) (Some w) (Some mode) some = some

if-of : (test : Bool) (asked : Options) → (test ≡ true → OfAll (Some asked)) → OfAll (if test then Some asked else None)
if-of true asked of = of refl
if-of false asked of = tt

by-mode : (mode : RunMode) (goal : Option (List ℕ)) → takes_goal mode (is_some goal) ≡ true → GoalByMode mode goal
by-mode Query (Some goal) takes = tt
by-mode Query None takes = absurd cc
by-mode Run None takes = tt
by-mode Run (Some goal) takes = absurd cc
by-mode Session None takes = tt
by-mode Session (Some goal) takes = absurd cc
by-mode Print None takes = tt
by-mode Print (Some goal) takes = absurd cc
by-mode Demo None takes = tt
by-mode Demo (Some goal) takes = absurd cc

places-by : (mode : RunMode) (file : List ℕ) → takes_file mode file ≡ true → mode ≡ Demo → is_some (places_by file) ≡ true
places-by mode file takes is = rw is at takes

first : (a b : Bool) → (a && b) ≡ true → a ≡ true
first true b both = refl
first false b both = absurd cc

second : (a b : Bool) → (a && b) ≡ true → b ≡ true
second true b both = both
second false b both = absurd cc

of-settings : (settings : Option Settings) (file goal : Option (List ℕ)) → OfSettings settings → OfAll (asked_with settings file goal)
of-settings None file goal some = tt
of-settings (Some settings) None goal some = tt
of-settings (Some settings) (Some file) goal some =
    if-of (takes_file settings.mode file && takes_goal settings.mode (is_some goal)) _ (λ takes. record {
      some_answer = some;
      places = places-by settings.mode file (first (takes_file settings.mode file) (takes_goal settings.mode (is_some goal)) takes);
      by_mode = by-mode settings.mode goal (second (takes_file settings.mode file) (takes_goal settings.mode (is_some goal)) takes);
    })

of-rows : (rows : List Row) → OfAll (asked_in rows)
of-rows rows =
    of-settings (settings_in rows) (first_of (codes "file") rows) (first_of (codes "goal") rows)
    (of-together
    (value_or default_answers (number_within 1 1000000000) (first_of (codes "answers") rows))
    (value_or default_steps (number_within 0 1000000000000) (first_of (codes "steps") rows))
    (value_or default_work (number_within 0 1000000000000) (first_of (codes "work") rows))
    (value_or Query mode_named (first_of (codes "mode") rows))
    (of-answers (first_of (codes "answers") rows)))

of-parsed : (kinds : Kinds) (asked : Option Options) → OfAll asked → OfAll (where_parsed kinds asked)
of-parsed [] asked of = of
of-parsed (kind ∷ more) asked of = tt

of-words : (words : List (List ℕ)) → OfAll (options words)
unfolding options
of-words words = of-parsed (fault_of the_command words) (asked_in (matches_of the_command words)) (of-rows (matches_of the_command words))

are-right : (words : List (List ℕ)) (asked : Options) → options words ≡ Some asked → IsRight asked
are-right words asked is = rw is at (of-words words)

pub some-answer : (words : List (List ℕ)) (asked : Options) → options words ≡ Some asked → 0 < asked.answers
some-answer words asked is = (are-right words asked is).some_answer

pub goal-by-mode : (words : List (List ℕ)) (asked : Options) → options words ≡ Some asked → GoalByMode asked.mode asked.goal
goal-by-mode words asked is = (are-right words asked is).by_mode

pub demo-places : (words : List (List ℕ)) (asked : Options) → options words ≡ Some asked → asked.mode ≡ Demo → is_some (places_of asked) ≡ true
demo-places words asked is = (are-right words asked is).places
