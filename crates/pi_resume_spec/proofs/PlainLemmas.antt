-- Traces without their paths.
use Rattle.std.specs.Prelude.{◌≡◌, suc, refl}
use Rattle.std.proofs.Common.{sym, ◌∙◌, ap}
use Rattle.pi_terms.specs.Tree.{Tree}
use Rattle.pi_traces.specs.Trace.{Trace, end, note, ans, Done, Raise, Abort, Miss, Deep, one, alt, then}
use Rattle.pi_traces.specs.Control.{caught, chosen}
use Rattle.pi_traces.proofs.TraceLemmas.{then-alt, then-assoc}
use Rattle.pi_resume_spec.specs.Ways.{plain, choosing, numbered, behind, choice_from}
use Rattle.pi_resume_spec.specs.Resumed.{rest_unless, rules_ways}
use Rattle.pi_resume_spec.specs.PathLaws.{PlainOfNumbered, PlainOfSequence, PlainOfChoice, PlainOfCatch, PlainOfRules}

-- a trace whose answers are renamed keeps what follows that doesn't look at the names
pub then-renamed : {A B C : Type 0} (t : Trace A) (g : A → B) (f : B → Trace C) → then (then t (λ x. one (g x))) f ≡ then t (λ x. f (g x))
unfolding then alt
then-renamed (end e) g f = refl
then-renamed (note n t) g f = ap (note n) (then-renamed t g f)
then-renamed (ans x t) g f = ap (alt (f (g x))) (then-renamed t g f)

pub plain_of_numbered : {A : Type 0} → PlainOfNumbered A
plain_of_numbered k t = then-renamed t (choosing k) (λ w. one w.answer)

pub same-then : {A B : Type 0} (t : Trace A) (f g : A → Trace B) → ((x : A) → f x ≡ g x) → then t f ≡ then t g
unfolding then
same-then (end e) f g all = refl
same-then (note n t) f g all = ap (note n) (same-then t f g all)
same-then (ans x t) f g all = let here : f x ≡ g x = all x in let rest : then t f ≡ then t g = same-then t f g all in cc

pub plain_of_sequence : {A B : Type 0} → PlainOfSequence A B
plain_of_sequence t f =
    then-assoc t (λ w. then (f w.answer) (λ v. one (behind w.path v))) (λ w. one w.answer)
    ∙ (same-then t (λ w. then (then (f w.answer) (λ v. one (behind w.path v))) (λ w. one w.answer)) (λ w. plain (f w.answer)) (λ w. then-renamed (f w.answer) (behind w.path) (λ v. one v.answer))
    ∙ sym (then-renamed t (λ w. w.answer) (λ x. plain (f x))))

pub plain_of_choice : {A : Type 0} → PlainOfChoice A
unfolding choice_from
plain_of_choice k t more = then-alt (numbered k t) (choice_from (suc k) more) (λ w. one w.answer) ∙ ap (λ u. alt u (plain (choice_from (suc k) more))) (plain_of_numbered k t)

pub then-caught : {A B : Type 0} (t : Trace A) (g : A → B) (f : Tree → Trace A) → then (caught t f) (λ x. one (g x)) ≡ caught (then t (λ x. one (g x))) (λ ball. then (f ball) (λ x. one (g x)))
unfolding then caught alt
then-caught (end Done) g f = refl
then-caught (end (Raise ball)) g f = refl
then-caught (end (Abort ball)) g f = refl
then-caught (end (Miss c)) g f = refl
then-caught (end Deep) g f = refl
then-caught (note n t) g f = ap (note n) (then-caught t g f)
then-caught (ans x t) g f = ap (ans (g x)) (then-caught t g f)

pub same-caught : {A : Type 0} (t : Trace A) (f g : Tree → Trace A) → ((ball : Tree) → f ball ≡ g ball) → caught t f ≡ caught t g
unfolding caught
same-caught (end Done) f g all = refl
same-caught (end (Raise ball)) f g all = all ball
same-caught (end (Abort ball)) f g all = refl
same-caught (end (Miss c)) f g all = refl
same-caught (end Deep) f g all = refl
same-caught (note n t) f g all = ap (note n) (same-caught t f g all)
same-caught (ans x t) f g all = ap (ans x) (same-caught t f g all)

pub plain_of_catch : {A : Type 0} → PlainOfCatch A
plain_of_catch t handler =
    then-caught (numbered 1 t) (λ w. w.answer) (λ ball. numbered 2 (handler ball))
    ∙ (ap (λ u. caught u (λ ball. plain (numbered 2 (handler ball)))) (plain_of_numbered 1 t)
    ∙ same-caught (plain t) (λ ball. plain (numbered 2 (handler ball))) (λ ball. plain (handler ball)) (λ ball. plain_of_numbered 2 (handler ball)))

pub then-chosen : {X A B : Type 0} (t : Trace X) (g : A → B) (f : X → Trace A) (u : Trace A) → then (chosen t f u) (λ x. one (g x)) ≡ chosen t (λ x. then (f x) (λ y. one (g y))) (then u (λ y. one (g y)))
unfolding then chosen
then-chosen (end Done) g f u = refl
then-chosen (end (Raise ball)) g f u = refl
then-chosen (end (Abort ball)) g f u = refl
then-chosen (end (Miss c)) g f u = refl
then-chosen (end Deep) g f u = refl
then-chosen (note n t) g f u = ap (note n) (then-chosen t g f u)
then-chosen (ans x t) g f u = refl

pub same-chosen : {X A : Type 0} (t : Trace X) (f g : X → Trace A) (u : Trace A) → ((x : X) → f x ≡ g x) → chosen t f u ≡ chosen t g u
unfolding chosen
same-chosen (end Done) f g u all = refl
same-chosen (end (Raise ball)) f g u all = refl
same-chosen (end (Abort ball)) f g u all = refl
same-chosen (end (Miss c)) f g u all = refl
same-chosen (end Deep) f g u all = refl
same-chosen (note n t) f g u all = ap (note n) (same-chosen t f g u all)
same-chosen (ans x t) f g u all = all x

pub plain_of_rules : {X A : Type 0} → PlainOfRules X A
unfolding rules_ways
plain_of_rules k r rs =
    then-chosen r.applies (λ w. w.answer) (λ x. alt (numbered k (r.body x).ways) (rest_unless r.committed (rules_ways (suc k) rs))) (rules_ways (suc k) rs)
    ∙ same-chosen r.applies (λ x. plain (alt (numbered k (r.body x).ways) (rest_unless r.committed (rules_ways (suc k) rs)))) (λ x. alt (plain (r.body x).ways) (plain (rest_unless r.committed (rules_ways (suc k) rs))))
    (plain (rules_ways (suc k) rs))
    (λ x. then-alt (numbered k (r.body x).ways) (rest_unless r.committed (rules_ways (suc k) rs)) (λ w. one w.answer)
    ∙ ap (λ t. alt t (plain (rest_unless r.committed (rules_ways (suc k) rs)))) (plain_of_numbered k (r.body x).ways))
