use Rattle.std.proofs.Common.{◌∙◌, ◌∷◌, ◌++◌, [], List, length, ap, sym, subst}
use Rattle.std.proofs.lemmas.Result.{IfOk-from_err}
use Rattle.pi_constraints.specs.declared.constraint.Item.{Item}
use Rattle.pi_prop_filters.specs.Variables.{AreMet}
use Rattle.pi_prop_filters.proofs.LeftLemmas.{no_terms_taken, term_taken, all_terms_taken}
use Rattle.pi_prop_filters.proofs.ApartLemmas.{apart_met}
use Rattle.pi_prop_filters.proofs.meeting.meet_reified.Goals as goal

pub returns-then-is_truth_apart : goal.returns-then-is_truth_apart
returns-then-is_truth_apart g c = apart_met _ (g.P.Places.domains c.args.places.now) (c.is_truth_apart.ensures c.if-is_truth_apart.true) c.requires.count

pub loop-i-init : goal.loop-i-init
loop-i-init g c = no_terms_taken c.args.truth c.args.terms.now _ (c.in_ok-push.ensures.items ∙ ap (λ (is : List Item). is ++ c.args.truth ∷ []) c.new-all.ensures.items)

pub loop-i-preserved : goal.loop-i-preserved
loop-i-preserved g c = term_taken c.args.truth c.args.terms.now c.loop-i.i c.loop-i.all.items _ c.loop-i-test.true c.loop-i.invariant c.in_ok-push-2.ensures.items

pub meet_items-requires : goal.meet_items-requires
meet_items-requires g c =
    let all = c.as_slice.ensures.value ∙ all_terms_taken c.args.truth c.args.terms.now c.loop-i.i c.loop-i.all.items c.loop-i-test.false c.loop-i.invariant in
    c.requires.count ∙ ap (λ (is : List Item). length is) (sym all)

pub returns-in_err-push : goal.returns-in_err-push
returns-in_err-push g c = IfOk-from_err c.from_residual.result _ c.from_residual.ensures.0

pub returns-in_err-push-2 : goal.returns-in_err-push-2
returns-in_err-push-2 g c = IfOk-from_err c.from_residual-in_err-push-2.result _ c.from_residual-in_err-push-2.ensures.0

pub returns-in_err-meet_items : goal.returns-in_err-meet_items
returns-in_err-meet_items g c = IfOk-from_err c.from_residual-in_err-meet_items.result _ c.from_residual-in_err-meet_items.ensures.0

pub returns : goal.returns
returns g c =
    let all = c.as_slice.ensures.value ∙ all_terms_taken c.args.truth c.args.terms.now c.loop-i.i c.loop-i.all.items c.loop-i-test.false c.loop-i.invariant in
    subst (λ (is : List Item). AreMet is (g.P.Places.domains c.args.places.now) (g.P.Places.domains c.meet_items.new.places)) all c.in_ok-meet_items.ensures
