use Rattle.std.proofs.Common.{rules, arith, ◌≡◌, List, [], ◌++◌, ap, sym, ◌∙◌, subst, to_z, of_z}
use Rattle.std.specs.Prelude.{ℤ, pos, ◌+ℤ◌, ◌-ℤ◌, neg_ℤ}
use Rattle.std.specs.Int.{w128}
use Rattle.std.proofs.lemmas.Int.{ints}
use Rattle.pi_constraints.specs.declared.domain.TheConstants.{MAX_VALUE}
use Rattle.pi_constraints.specs.declared.domain.Span.{Span}
use Rattle.pi_constraints.specs.Domain.{IsDomain, IsWithinBounds, has_value, overlap}
use Rattle.pi_constraints.proofs.ClipLemmas.{whole, first_clip, clip_at, IsDomain-clips, has_value-clips}
use Rattle.std.proofs.lemmas.Result.{IfOk-from_err}
use Rattle.pi_constraints.proofs.make.all_but.Goals as goal

both : (none mid new : List Span) (n l g m h : ℤ) → mid ≡ none ++ overlap (record { lo = l; hi = g }) whole → new ≡ mid ++ overlap (record { lo = m; hi = h }) whole → none ≡ []
    → l ≡ neg_ℤ MAX_VALUE → g ≡ (n -ℤ pos 1) → m ≡ (n +ℤ pos 1) → h ≡ MAX_VALUE
    → new ≡ overlap (record { lo = neg_ℤ MAX_VALUE; hi = n -ℤ pos 1 }) whole ++ overlap (record { lo = n +ℤ pos 1; hi = MAX_VALUE }) whole
both none mid new n l g m h first second empty low below above high =
    clip_at mid new (n +ℤ pos 1) MAX_VALUE m h above high second
    ∙ ap (λ (x : List Span). x ++ overlap (record { lo = n +ℤ pos 1; hi = MAX_VALUE }) whole) (first_clip none mid (neg_ℤ MAX_VALUE) (n -ℤ pos 1) l g empty low below first)

pub new-requires : goal.new-requires
new-requires c =
    let inside : IsWithinBounds (to_z w128 (of_z w128 c.args.n)) = c.is_within_bounds.ensures.0 (search rules) in
    let within : IsWithinBounds c.args.n = (omega (arith, ints), omega (arith, ints)) in
    let made = both c.new-spans.result.items c.push_clipped.new.spans.items c.push_clipped-2.new.spans.items c.args.n _ _ _ _ c.in_ok-push_clipped.ensures.ok c.in_ok-push_clipped-2.ensures.ok c.new-spans.ensures.items
    (omega (arith, ints)) (omega (arith, ints)) (omega (arith, ints)) (omega (arith, ints)) in
    subst IsDomain (sym made) (IsDomain-clips _ _ (omega (arith, ints)))

pub returns : goal.returns
returns c = record {
  values = λ m h.
      let inside : IsWithinBounds (to_z w128 (of_z w128 c.args.n)) = c.is_within_bounds.ensures.0 (search rules) in
      let within : IsWithinBounds c.args.n = (omega (arith, ints), omega (arith, ints)) in
      let made = both c.new-spans.result.items c.push_clipped.new.spans.items c.push_clipped-2.new.spans.items c.args.n _ _ _ _ c.in_ok-push_clipped.ensures.ok c.in_ok-push_clipped-2.ensures.ok c.new-spans.ensures.items
      (omega (arith, ints)) (omega (arith, ints)) (omega (arith, ints)) (omega (arith, ints)) in
      ap (λ (d : List Span). has_value d m) (c.new.ensures ∙ made) ∙ has_value-clips c.args.n m h;
}

pub returns-in_err-push_clipped : goal.returns-in_err-push_clipped
returns-in_err-push_clipped c = record { values = IfOk-from_err c.from_residual.result _ c.from_residual.ensures.0 }

pub returns-in_err-push_clipped-2 : goal.returns-in_err-push_clipped-2
returns-in_err-push_clipped-2 c = record { values = IfOk-from_err c.from_residual-in_err-push_clipped-2.result _ c.from_residual-in_err-push_clipped-2.ensures.0 }

pub overflow_add-n : goal.overflow_add-n
overflow_add-n c =
    let inside : IsWithinBounds (to_z w128 (of_z w128 c.args.n)) = c.is_within_bounds.ensures.0 (search rules) in
    omega (arith, ints, inside.0, inside.1)
