use Rattle.std.proofs.Common.{sym, ◌∙◌}
use Rattle.pi_rewrite_slots.specs.ReadAs.{reading_of, readings_of}
use Rattle.pi_rewrite_slots.proofs.FlatLemmas.{flat-list, flat-list_onto, flat-array, flat-call, flat-applied, flat-structure, flat-more, flat-not, flat-all}
use Rattle.pi_rewrite_slots.proofs.flat.+flatness.Goals as goal

pub is_flat-returns-in-Some : goal.is_flat-returns-in-Some
is_flat-returns-in-Some t c =
    flat-list_onto (reading_of c.args.reading) c.args.exp.now c.in-List.items c.in-List.tail c.in-Some.tail c.as_slice.result.now c.deref.result.now c.are_flat.result c.is_flat.result c.in-List.is c.in-Some.is c.as_slice.ensures.value c.deref.ensures c.are_flat.ensures c.is_flat.ensures

pub is_flat-returns-in-None : goal.is_flat-returns-in-None
is_flat-returns-in-None t c = flat-list (reading_of c.args.reading) c.args.exp.now c.in-List.items c.in-List.tail c.as_slice-in-None.result.now c.are_flat-in-None.result c.in-List.is c.in-None.is c.as_slice-in-None.ensures.value c.are_flat-in-None.ensures

pub is_flat-returns-in-Array : goal.is_flat-returns-in-Array
is_flat-returns-in-Array t c = flat-array (reading_of c.args.reading) c.args.exp.now c.in-Array.items c.as_slice-in-Array.result.now c.are_flat-in-Array.result c.in-Array.is c.as_slice-in-Array.ensures.value c.are_flat-in-Array.ensures

pub is_flat-returns-in-Call : goal.is_flat-returns-in-Call
is_flat-returns-in-Call t c =
    flat-call (reading_of c.args.reading) c.args.exp.now c.in-Call.name c.as_str.result.now c.in-Call.args c.as_slice-in-Call.result.now c.is_flat_call.result c.in-Call.is c.as_str.ensures c.as_slice-in-Call.ensures.value c.is_flat_call.ensures

pub is_flat_call-returns-then-not-stays : goal.is_flat_call-returns-then-not-stays
is_flat_call-returns-then-not-stays t c = flat-applied (reading_of c.args.reading) c.args.name.now c.args.args.now (sym c.stays.ensures ∙ c.if-not-stays.true)

pub is_flat_call-returns : goal.is_flat_call-returns
is_flat_call-returns t c =
    flat-structure (reading_of c.args.reading) c.args.name.now c.args.args.now (readings_of c.of_parts.result) c.are_flat.result (sym c.stays.ensures ∙ c.if-not-stays.false) c.of_parts.ensures c.are_flat.ensures

pub are_flat-returns-then-not-is_flat : goal.are_flat-returns-then-not-is_flat
are_flat-returns-then-not-is_flat t c =
    sym (flat-not (readings_of c.args.readings) c.args.exps.now c.loop-i.i (reading_of c.at.result) c.index-exps-i.result c.loop-i-test.true c.index-exps-i.is c.at.ensures (sym c.is_flat.ensures ∙ c.if-not-is_flat.true)) ∙ c.loop-i.invariant

pub are_flat-loop-i-preserved : goal.are_flat-loop-i-preserved
are_flat-loop-i-preserved t c =
    sym (flat-more (readings_of c.args.readings) c.args.exps.now c.loop-i.i (reading_of c.at.result) c.index-exps-i.result c.loop-i-test.true c.index-exps-i.is c.at.ensures (sym c.is_flat.ensures ∙ c.if-not-is_flat.false)) ∙ c.loop-i.invariant

pub are_flat-returns : goal.are_flat-returns
are_flat-returns t c = sym (flat-all (readings_of c.args.readings) c.args.exps.now c.loop-i.i c.loop-i-test.false) ∙ c.loop-i.invariant
