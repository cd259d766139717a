-- The command's matches, and when a parse by it fails.
use Rattle.std.proofs.Common.{◌≡◌, ◌∙◌, ◌≢◌, sym, ap, refl, subst, true, List, [], ◌∷◌, Option, None, inl, inr}
use Rattle.clap.specs.Words.{App, HasKind, HasMatchesOf, IsAmong, Kinds, Text, fault_of, is_simple, is_simple_and_free, kind_of, matches_of, found_of, rows_of}
use Rattle.clap.specs.declared.error.Error.{Error}
use Rattle.clap.specs.declared.error.kind.ErrorKind.TheVariants.{OutOfMemory}
use Rattle.clap.specs.declared.parser.matches.ArgMatches.{ArgMatches}
use Rattle.clap.proofs.OnLiterals.{clap_on_literals}
use Rattle.pi_top_words.specs.Command.{the_command}
use Rattle.pi_top_words.specs.Words.{asked_in, options, where_parsed}
use Rattle.pi_top_words.specs.declared.asked.Options.{Options}

is_simple_one : is_simple the_command ≡ true
unfolding clap_on_literals the_command
is_simple_one = refl

is_free_one : is_simple_and_free the_command ≡ true
unfolding clap_on_literals the_command
is_free_one = refl

-- a parse that is Ok: the words ask what its matches ask
pub parsed : (app : App) (words : List Text) (m : ArgMatches) → app ≡ the_command → HasMatchesOf app words m
    → (is_simple_and_free app ≡ true → fault_of app words ≡ []) → options words ≡ asked_in (rows_of (found_of m))
unfolding options
parsed app words m is has_matches fails =
    let none : fault_of the_command words ≡ [] = subst (λ a. fault_of a words ≡ []) is (fails (ap is_simple_and_free is ∙ is_free_one)) in
    let rows : rows_of (found_of m) ≡ matches_of the_command words = (has_matches (ap is_simple is ∙ is_simple_one)).0 ∙ ap (λ a. matches_of a words) is in
    ap (λ kinds. where_parsed kinds (asked_in (matches_of the_command words))) none ∙ ap asked_in (sym rows)

nothing : (kinds : Kinds) (asked : Option Options) (error : Error) → IsAmong (kind_of error) kinds → where_parsed kinds asked ≡ None
nothing [] asked error among = absurd among
nothing (kind ∷ more) asked error among = refl

of_kind : (kinds : Kinds) (asked : Option Options) (error : Error) → HasKind kinds error → kind_of error ≢ OutOfMemory → where_parsed kinds asked ≡ None
of_kind kinds asked error (inl memory) other = absurd (other memory)
of_kind kinds asked error (inr among) other = nothing kinds asked error among

-- one that fails, and not for want of memory: they ask nothing
pub refused : (app : App) (words : List Text) (error : Error) → app ≡ the_command → (is_simple_and_free app ≡ true → HasKind (fault_of app words) error)
    → kind_of error ≢ OutOfMemory → options words ≡ None
unfolding options
refused app words error is fails other =
    let has : HasKind (fault_of the_command words) error = subst (λ a. HasKind (fault_of a words) error) is (fails (ap is_simple_and_free is ∙ is_free_one)) in
    of_kind (fault_of the_command words) (asked_in (matches_of the_command words)) error has other
