use Rattle.std.proofs.lemmas.Result.{IfOk-from_err}
use Rattle.pi_prop_filters.proofs.ApartLemmas.{apart_met}
use Rattle.pi_prop_filters.proofs.meeting.meet_element.Goals as goal

pub returns-then-is_element_apart : goal.returns-then-is_element_apart
returns-then-is_element_apart g c = apart_met _ (g.P.Places.domains c.args.places.now) (c.is_element_apart.ensures c.if-is_element_apart.true) c.requires

pub returns-in_err-push : goal.returns-in_err-push
returns-in_err-push g c = IfOk-from_err c.from_residual.result _ c.from_residual.ensures.0

pub returns-in_err-extend_from_slice : goal.returns-in_err-extend_from_slice
returns-in_err-extend_from_slice g c = IfOk-from_err c.from_residual-in_err-extend_from_slice.result _ c.from_residual-in_err-extend_from_slice.ensures.0

pub returns-in_err-push-2 : goal.returns-in_err-push-2
returns-in_err-push-2 g c = IfOk-from_err c.from_residual-in_err-push-2.result _ c.from_residual-in_err-push-2.ensures.0

pub returns-in_err-meet_items : goal.returns-in_err-meet_items
returns-in_err-meet_items g c = IfOk-from_err c.from_residual-in_err-meet_items.result _ c.from_residual-in_err-meet_items.ensures.0
