use Rattle.std.proofs.Common.{◌≡◌, ◌++◌, [], ◌∷◌, ℕ, zero, suc, replicate, refl, sym, ◌∙◌, ap, arith, append_assoc, add-one}
use Rattle.std.proofs.lemmas.List.{append-nil}
use Rattle.pi_engine_code.proofs.build.goals.push_times.Goals as goal

one-more : {A : Type 0} (n : ℕ) (x : A) → replicate n x ++ x ∷ [] ≡ replicate (suc n) x
one-more zero x = refl
one-more (suc n) x = ap (λ r. x ∷ r) (one-more n x)

pub loop-k-init : goal.loop-k-init
loop-k-init c = sym (append-nil c.args.marks.now.items)

pub loop-k-preserved : goal.loop-k-preserved
loop-k-preserved c =
    c.in_ok-push.ensures.items ∙ ap (λ r. r ++ c.args.mark ∷ []) c.loop-k.invariant ∙ append_assoc c.args.marks.now.items (replicate c.loop-k._k c.args.mark) (c.args.mark ∷ [])
    ∙ ap (λ r. c.args.marks.now.items ++ r) (one-more c.loop-k._k c.args.mark ∙ ap (λ n. replicate n c.args.mark) (sym (add-one c.loop-k._k)))

pub returns : goal.returns
returns c = c.loop-k.invariant ∙ ap (λ n. c.args.marks.now.items ++ replicate n c.args.mark) (omega arith)
