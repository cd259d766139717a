-- The names of a pattern.
use Rattle.std.proofs.Common.{sym, ap}
use Rattle.pi_syntax.specs.ExpTree.{exp_tree}
use Rattle.pi_meaning.specs.OverNames.Texts.{places, pattern_places, iterated as iterated_of}
use Rattle.pi_rewrite_slots.specs.Indexed.{names_in}
use Rattle.pi_rewrite_sites.specs.TextNames.{names_of}
use Rattle.pi_rewrite_sites.proofs.NameLemmas.{put-first}
use Rattle.pi_rewrite_sites.proofs.units.push_pattern.Goals as goal

pub returns-in_ok-push_names-in-Some : goal.returns-in_ok-push_names-in-Some
unfolding names_of
returns-in_ok-push_names-in-Some c =
    put-first (names_in c.args.names.now.items) (names_in c.push_names.new.names.items) (pattern_places (iterated_of (exp_tree c.args.unit.now))) (places (exp_tree c.in-Some.pattern.now)) (ap (λ o. pattern_places o) (sym c.in-Some.ensures)) c.in_ok-push_names-in-Some.ensures
