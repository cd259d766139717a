-- The parts of a loop, as they were found.
use Rattle.std.proofs.Common.{◌+◌, [], ◌++◌, ◌∙◌, ap}
use Rattle.std.specs.Prelude.{filter}
use Rattle.pi_syntax.specs.ExpTree.{exp_tree, no_exps}
use Rattle.pi_meaning.specs.OverNames.Texts.{is_among, occurring, assigned, patterns_of, shared_names, kept_names}
use Rattle.pi_rewrite_spec.specs.Sites.{helpers_in}
use Rattle.pi_rewrite_slots.specs.Indexed.{names_in}
use Rattle.pi_rewrite_sites.specs.OwnNames.{own_name}
use Rattle.pi_rewrite_sites.specs.TextNames.{names_of, kept_of}
use Rattle.pi_rewrite_goals.proofs.LoopLemmas.{loop-by, both-names}
use Rattle.pi_rewrite_goals.proofs.loops.loop_of_two.Goals as goal

pub returns : goal.returns
unfolding names_of patterns_of
returns c =
    loop-by c.in_ok-name.name (own_name c.args.site.now.naming.now.prefix (c.args.site.now.helpers + (helpers_in (exp_tree c.args.first.now) + helpers_in (exp_tree c.args.second.now)))) (names_in c.in_ok-shared.shared.items) (shared_names (names_in c.args.site.now.before.items) (occurring (exp_tree c.args.first.now) ++ occurring (exp_tree c.args.second.now)))
    (names_in c.in_ok-kept.kept.items) (kept_names (names_in c.args.site.now.before.items) no_exps (assigned (exp_tree c.args.body.now)))
    (c.in_ok-name.ensures ∙ ap (λ k. own_name c.args.site.now.naming.now.prefix (c.args.site.now.helpers + k)) (c.in_ok-count.ensures ∙ (ap (λ k. k + c.in_ok-other.other) c.in_ok-one.ensures ∙ ap (λ k. helpers_in (exp_tree c.args.first.now) + k) c.in_ok-other.ensures)))
    (c.in_ok-shared.ensures
    ∙ (ap (λ ns. filter (is_among ns) (names_in c.as_slice.result.now))
    (ap names_in c.as_slice-2.ensures.value ∙ both-names (names_in c.new-used.result.items) (names_in c.push_names.new.names.items) (names_in c.push_names-2.new.names.items) (occurring (exp_tree c.args.first.now)) (occurring (exp_tree c.args.second.now)) (ap names_in c.new-used.ensures.items) c.in_ok-push_names.ensures c.in_ok-push_names-2.ensures)
    ∙ ap (filter (is_among (occurring (exp_tree c.args.first.now) ++ occurring (exp_tree c.args.second.now)))) (ap names_in c.as_slice.ensures.value)))
    (c.in_ok-kept.ensures
    ∙ (ap (λ ns. kept_of ns (names_in c.as_slice-4.result.now) (names_in c.as_slice-5.result.now)) (ap names_in c.as_slice-3.ensures.value)
    ∙ (ap (λ ns. kept_of (names_in c.args.site.now.before.items) ns (names_in c.as_slice-5.result.now)) (ap names_in c.as_slice-4.ensures.value ∙ ap names_in c.new-none.ensures.items)
    ∙ ap (λ ns. kept_of (names_in c.args.site.now.before.items) [] ns) (ap names_in c.as_slice-5.ensures.value ∙ (c.in_ok-push_assigned.ensures ∙ ap (λ ns. ns ++ assigned (exp_tree c.args.body.now)) (ap names_in c.new-assigned.ensures.items))))))
