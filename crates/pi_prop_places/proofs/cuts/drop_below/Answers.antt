use Rattle.std.proofs.Common.{◌≤◌, ◌<◌, ◌≤ℤ◌, neg_ℤ, length, get_or, List, to_z, of_z, subst, sym, ◌∙◌}
use Rattle.std.specs.Int.{w128}
use Rattle.pi_constraints.specs.declared.domain.TheConstants.{MAX_VALUE}
use Rattle.pi_constraints.specs.declared.domain.Span.{Span}
use Rattle.pi_constraints.specs.Domain.{IsDomain}
use Rattle.pi_constraints.proofs.SpanLemmas.{AscendFrom-drop}
use Rattle.pi_prop_places.proofs.NarrowedCuts.{turned_off, next_left}
use Rattle.pi_prop_places.proofs.cuts.drop_below.Goals as goal

pub raise_first-requires-clause-domain : goal.raise_first-requires-clause-domain
raise_first-requires-clause-domain c =
    let few = subst (λ (x : List Span). c.count_below-gone.result ≤ length x) (c.as_slice.ensures.value ∙ sym c.as_mut_slice.ensures.value) c.count_below-gone.ensures.few in
    let left = turned_off c.as_mut_slice.result.now c.rotate_left.new.self _ c.truncate.new.self.items c.count_below-gone.result c.len.result _ (c.len.ensures ∙ sym c.as_mut_slice.ensures.len) (sym c.as_mut_slice.ensures.len) few c.rotate_left.ensures.after c.truncate.ensures.items in
    subst IsDomain (sym left) (AscendFrom-drop (neg_ℤ MAX_VALUE) c.count_below-gone.result c.as_mut_slice.result.now (subst IsDomain (sym c.as_mut_slice.ensures.value) c.requires))

pub raise_first-requires-clause-first : goal.raise_first-requires-clause-first
raise_first-requires-clause-first c =
    let few = subst (λ (x : List Span). c.count_below-gone.result ≤ length x) (c.as_slice.ensures.value ∙ sym c.as_mut_slice.ensures.value) c.count_below-gone.ensures.few in
    let left = turned_off c.as_mut_slice.result.now c.rotate_left.new.self _ c.truncate.new.self.items c.count_below-gone.result c.len.result _ (c.len.ensures ∙ sym c.as_mut_slice.ensures.len) (sym c.as_mut_slice.ensures.len) few c.rotate_left.ensures.after c.truncate.ensures.items in
    next_left c.as_mut_slice.result.now c.truncate.new.self.items c.count_below-gone.result _ left (subst (λ (x : List Span). (e : Span) → c.count_below-gone.result < length x → to_z w128 (of_z w128 c.args.n) ≤ℤ (get_or x c.count_below-gone.result e).hi) (c.as_slice.ensures.value ∙ sym c.as_mut_slice.ensures.value) c.count_below-gone.ensures.next)
