-- The events of a variable, put together.
use Rattle.std.specs.Prelude.{◌≡◌, ℕ, Bool, List, ◌++◌, Option, Some, None}
use Rattle.std.proofs.Common.{sym, ◌∙◌, ap, append_assoc, append-nil}
use Rattle.pi_constraints.specs.declared.domain.Span.{Span}
use Rattle.pi_constraints.specs.declared.event.Event.{Event}
use Rattle.pi_settling.specs.Events.{ins_events, bound_events, excluded_events, variable_events}

pub without-old : (v : ℕ) (o n : Option (List Span)) (is_term : Bool) (events : List Event) → o ≡ None → events ≡ ins_events is_term v → events ≡ variable_events v o n is_term
unfolding variable_events
without-old v o n is_term events old is = is ∙ (sym (append-nil (ins_events is_term v)) ∙ ap (λ (x : Option (List Span)). variable_events v x n is_term) (sym old))

pub without-new : (v : ℕ) (o n : Option (List Span)) (is_term : Bool) (d : List Span) (events : List Event) → o ≡ Some d → n ≡ None → events ≡ ins_events is_term v → events ≡ variable_events v o n is_term
unfolding variable_events
without-new v o n is_term d events old new is =
    is ∙ (sym (append-nil (ins_events is_term v)) ∙ (ap (λ (x : Option (List Span)). variable_events v (Some d) x is_term) (sym new) ∙ ap (λ (x : Option (List Span)). variable_events v x n is_term) (sym old)))

pub with-both : (v : ℕ) (o n : Option (List Span)) (is_term : Bool) (d e : List Span) (first second third : List Event) → o ≡ Some d → n ≡ Some e → first ≡ ins_events is_term v → second ≡ first ++ bound_events v d e → third ≡ second ++ excluded_events v d e →
    third ≡ variable_events v o n is_term
unfolding variable_events
with-both v o n is_term d e first second third old new is more last =
    last ∙ (ap (λ (xs : List Event). xs ++ excluded_events v d e) (more ∙ ap (λ (xs : List Event). xs ++ bound_events v d e) is)
    ∙ (append_assoc (ins_events is_term v) (bound_events v d e) (excluded_events v d e)
    ∙ (ap (λ (x : Option (List Span)). variable_events v (Some d) x is_term) (sym new) ∙ ap (λ (x : Option (List Span)). variable_events v x n is_term) (sym old))))
