-- Each once, by first assignment.
use Rattle.std.proofs.Common.{[], ◌∙◌, ap}
use Rattle.std.specs.Prelude.{filter}
use Rattle.pi_meaning.specs.OverNames.Texts.{is_among, behind}
use Rattle.pi_rewrite_slots.specs.Indexed.{names_in}
use Rattle.pi_rewrite_sites.proofs.names.kept_names.Goals as goal

pub returns : goal.returns
returns c =
    c.in_ok-kept.ensures
    ∙ ap (filter (is_among (names_in c.args.before.now))) (ap names_in c.as_slice-2.ensures.value ∙ (c.in_ok-put_behind.ensures
    ∙ (ap (λ ns. behind ns (names_in c.as_slice.result.now)) (ap names_in c.new-once.ensures.items) ∙ ap (behind []) (ap names_in c.as_slice.ensures.value ∙ c.in_ok-outer.ensures))))
