use Rattle.pi_meaning.proofs.OverNames.TextLemmas.{texts-match-as-lists}
use Rattle.pi_meaning.proofs.laws.names.texts_match_as_lists.Goals as goal

pub returns : goal.returns
returns c = texts-match-as-lists
