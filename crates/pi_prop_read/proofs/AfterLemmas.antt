-- Readings one after the other.
use Rattle.std.specs.Prelude.{◌≡◌, List, [], ◌∷◌, ◌++◌, Result, Ok, Err, refl}
use Rattle.std.proofs.Common.{◌∙◌, ap, sym, append_assoc}
use Rattle.std.proofs.lemmas.List.{append-nil}
use Rattle.pi_constraints.specs.Store.{Moment}
use Rattle.pi_constraints.specs.declared.store.Ref.{Ref}
use Rattle.pi_prop_spec.specs.PostingSums.{Sum, added}
use Rattle.pi_prop_spec.specs.Steps.{Refusal, Made, Known, Reading, gives, after, then, step, read_operand, read_items}
use Rattle.pi_prop_read.specs.declared.operands.node.Binary.{Binary}
use Rattle.pi_prop_read.specs.declared.operands.frames.Frame.{Frame}
use Rattle.pi_prop_read.specs.Refs.{operand_at, operands_at}
use Rattle.pi_prop_read.specs.OperandFrames.{come, back, stacked}

pub after_after : {A B C : Type 0} (o : Result (Known A) Refusal) (f : A → Reading B) (g : B → Reading C) → after (after o f) g ≡ after o (λ x. then (f x) g)
after_after (Err r) f g = refl
after_after (Ok k) f g = refl

pub after_same : {A B : Type 0} (o : Result (Known A) Refusal) (f g : A → Reading B) → ((x : A) (m : Made) → f x m ≡ g x m) → after o f ≡ after o g
after_same (Err r) f g h = refl
after_same (Ok k) f g h = h k.what k.made

pub after_gives : {A : Type 0} (o : Result (Known A) Refusal) → after o gives ≡ o
after_gives (Err r) = refl
after_gives (Ok k) = refl

-- the last one that waits is the next
pub back-last : (w : Moment) (fs : List Frame) (f : Frame) (u : Sum) (m : Made) → back w (fs ++ f ∷ []) u m ≡ after (come w f u m) (back w fs)
unfolding back
back-last w [] f u m = sym (after_gives (come w f u m))
back-last w (g ∷ fs) f u m = ap (λ (o : Result (Known Sum) Refusal). after o (come w g)) (back-last w fs f u m) ∙ after_after (come w f u m) (back w fs) (come w g)

-- the items of `sum`, before what else waits
pub back-stacked : (w : Moment) (fs : List Frame) (rs : List Ref) (u : Sum) (m : Made) → back w (fs ++ stacked rs) u m ≡ after (read_items (operands_at w rs) u m) (back w fs)
unfolding stacked operands_at read_operand
back-stacked w fs [] u m = ap (λ (gs : List Frame). back w gs u m) (append-nil fs)
back-stacked w fs (r ∷ rs) u m =
    let f : Frame = Frame.Left Binary.Plus r in
    let own : Result (Known Sum) Refusal = read_operand (operand_at w r) m in
    ap (λ (gs : List Frame). back w gs u m) (sym (append_assoc fs (stacked rs) (f ∷ [])))
    ∙ (back-last w (fs ++ stacked rs) f u m
    ∙ (after_same (come w f u m) (back w (fs ++ stacked rs)) (λ v. then (read_items (operands_at w rs) v) (back w fs)) (back-stacked w fs rs)
    ∙ (after_after own (λ v. step (added u v)) (λ v. then (read_items (operands_at w rs) v) (back w fs))
    ∙ (after_same own (λ v. then (step (added u v)) (λ x. then (read_items (operands_at w rs) x) (back w fs))) (λ v. then (then (step (added u v)) (read_items (operands_at w rs))) (back w fs))
    (λ v k. sym (after_after (step (added u v) k) (read_items (operands_at w rs)) (back w fs)))
    ∙ sym (after_after own (λ v. then (step (added u v)) (read_items (operands_at w rs))) (back w fs))))))
