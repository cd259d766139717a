-- What an answer on a line says of it.
use Rattle.std.specs.Prelude.{◌≡◌}
use Rattle.pi_outside.specs.Requests.{Asked, nothing, another, too_long, a_goal}
use Rattle.pi_outside.specs.declared.request.Request.{Request}
use Rattle.pi_outside.specs.declared.request.Request.TheVariants.{Nothing, Another, TooLong, Goal}

abbrev pub ShowsRequest : Request → Asked → Type 0
ShowsRequest Nothing asked = asked ≡ nothing
ShowsRequest Another asked = asked ≡ another
ShowsRequest TooLong asked = asked ≡ too_long
ShowsRequest (Goal text) asked = asked ≡ a_goal text.now
