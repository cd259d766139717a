-- The words of a command line, and what they ask.
use Rattle.std.specs.Prelude.{ℕ, Bool, true, not, ◌&&◌, List, [], ◌∷◌, Option, None, Some, is_some, option_map, length, nat_le, if◌then◌else◌}
use Rattle.std.specs.Borrow.{Bor}
use Rattle.std.specs.Char.{is_ascii_digit}
use Rattle.std.specs.List.{list_all}
use Rattle.std.specs.Option.{option_and_then}
use Rattle.std.specs.Str.{bytes_eq}
use Rattle.std.specs.Str.Parse.{digits_value}
use lib.Chars.{codes}
use Rattle.clap.specs.Words.{Row, Kinds, first_of, fault_of, matches_of}
use Rattle.pi_top_words.specs.declared.asked.Options.{Options}
use Rattle.pi_top_words.specs.declared.run_mode.RunMode.{RunMode}
use Rattle.pi_top_words.specs.declared.run_mode.RunMode.TheVariants.{Query, Run, Session, Print, Demo}
use Rattle.pi_top_words.specs.declared.settings.Settings.{Settings}
use Rattle.pi_top_words.specs.Command.{the_command}

-- a number is 1 to 19 ASCII digits
abbrev pub is_number : List ℕ → Bool
is_number word = nat_le 1 (length word) && nat_le (length word) 19 && list_all is_ascii_digit word

-- the number that a word is, where it lies within these bounds
abbrev pub number_within : ℕ → ℕ → List ℕ → Option ℕ
number_within least most word =
    let value = digits_value 10 word in
    if is_number word && nat_le least value && nat_le value most then Some value else None

abbrev pub mode_named : List ℕ → Option RunMode
mode_named word =
    if bytes_eq word (codes "query") then Some Query
    else if bytes_eq word (codes "run") then Some Run
    else if bytes_eq word (codes "session") then Some Session
    else if bytes_eq word (codes "print") then Some Print
    else if bytes_eq word (codes "demo") then Some Demo
    else None

abbrev pub default_answers : ℕ
default_answers = 1000000000

abbrev pub default_steps : ℕ
default_steps = 100000000

abbrev pub default_work : ℕ
default_work = 100000000

-- the bytes of a word that is there
abbrev pub told : Option (Bor (List ℕ)) → Option (List ℕ)
told = option_map (λ word. word.now)

-- what an option's word is read as, and where it doesn't stand there its default
abbrev pub value_or : {T : Type 0} → T → (List ℕ → Option T) → Option (List ℕ) → Option T
value_or default read None = Some default
value_or default read (Some word) = read word

abbrev pub and_then : {T U : Type 0} → Option T → (T → Option U) → Option U
and_then answer f = option_and_then f answer

-- what all options set, where each has one of its values
abbrev pub together : Option ℕ → Option ℕ → Option ℕ → Option RunMode → Option Settings
together answers steps work mode =
    and_then answers (λ answers. and_then steps (λ steps. and_then work (λ work. and_then mode (λ mode.
    Some record { answers = answers; steps = steps; work = work; mode = mode }))))

-- what the options among a command line's matches set
abbrev pub settings_in : List Row → Option Settings
settings_in rows =
    together
    (value_or default_answers (number_within 1 1000000000) (first_of (codes "answers") rows))
    (value_or default_steps (number_within 0 1000000000000) (first_of (codes "steps") rows))
    (value_or default_work (number_within 0 1000000000000) (first_of (codes "work") rows))
    (value_or Query mode_named (first_of (codes "mode") rows))

-- how many places the program of the mode `demo` has, by the word in FILE's place
abbrev pub places_by : List ℕ → Option ℕ
places_by file = number_within 1 400 file

abbrev pub places_of : Options → Option ℕ
places_of asked = places_by asked.file

-- the name of a file, or in the mode `demo` a number
abbrev pub takes_file : RunMode → List ℕ → Bool
takes_file Demo file = is_some (places_by file)
takes_file other file = true

-- a goal stands in the words exactly in the mode `query`
abbrev pub takes_goal : RunMode → Bool → Bool
takes_goal Query has_goal = has_goal
takes_goal other has_goal = not has_goal

-- what options, FILE and GOAL ask together
abbrev pub asked_by : Settings → List ℕ → Option (List ℕ) → Option Options
asked_by settings file goal =
    if takes_file settings.mode file && takes_goal settings.mode (is_some goal)
    then Some record {
      answers = settings.answers;
      steps = settings.steps;
      work = settings.work;
      mode = settings.mode;
      file = file;
      goal = goal;
    }
    else None

-- the same, where the options have their values and FILE is there
abbrev pub asked_with : Option Settings → Option (List ℕ) → Option (List ℕ) → Option Options
asked_with settings file goal = and_then settings (λ settings. and_then file (λ file. asked_by settings file goal))

-- what a command line's matches ask
abbrev pub asked_in : List Row → Option Options
asked_in rows = asked_with (settings_in rows) (first_of (codes "file") rows) (first_of (codes "goal") rows)

-- where no kind of error may come
abbrev pub where_parsed : {T : Type 0} → Kinds → Option T → Option T
where_parsed [] asked = asked
where_parsed (kind ∷ more) asked = None

-- What the words ask, and none where they aren't those of a command line: where a parse by the command fails for another cause than
-- want of memory, as it does at a call for help, or where its matches ask nothing.
unfoldable pub options : List (List ℕ) → Option Options
options words = where_parsed (fault_of the_command words) (asked_in (matches_of the_command words))
