-- What a reading posts in the end. (Own.)
use Rattle.std.specs.Prelude.{◌≡◌, Result, Ok, Err}
use Rattle.pi_prop_spec.specs.Steps.{Refusal}
use Rattle.pi_prop_spec.specs.Postings.{Posting as PostingOf}
use Rattle.pi_prop_made.specs.declared.limits.Limit.{Limit}
use Rattle.pi_prop_made.specs.declared.posting.Posting.{Posting}
use Rattle.pi_prop_made.specs.Making.{refusal_for}

-- the posting as a definition has it
abbrev pub posting_as : Posting → PostingOf
posting_as p = record { fresh = p.fresh; list = p.list }

abbrev pub ShowsFinished : Result Posting Limit → Result PostingOf Refusal → Type 0
ShowsFinished (Ok p) o = o ≡ Ok (posting_as p)
ShowsFinished (Err limit) o = o ≡ Err (refusal_for limit)
