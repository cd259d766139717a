-- More depth only adds to labelling.
use Rattle.std.specs.Prelude.{ℕ, zero, suc, ℤ, List, [], ◌∷◌, Option, Some, None, codes}
use Rattle.std.proofs.Common.{ap}
use Rattle.pi_constraints.specs.declared.constraint.Item.{Item}
use Rattle.pi_traces.specs.Trace.{Trace, end, Raise, Tick, done, one, then}
use Rattle.pi_traces.specs.Depth.{Below, deeper, same_note, DepthOnlyAdds}
use Rattle.pi_traces.proofs.BelowLemmas.{below-refl, below-alt, below-then, below-chosen}
use Rattle.pi_constraints.specs.State.{State}
use Rattle.pi_effects.specs.Exception.{type_error}
use Rattle.pi_settling.specs.Options.{Options, Objective}
use Rattle.pi_settling.specs.Confined.{confined}
use Rattle.pi_settling.specs.Choices.{Pending, Alternative, picked, pending, alternatives, left_by, narrowed_to}
use Rattle.pi_settling.specs.Label.{Settling, Lower, tried, one_tried, all_tried, labelled_by, labelled, labelled_at, labelling}
use Rattle.pi_settling.specs.Reading.{Solving}
use Rattle.pi_settling.specs.Rounds.{begins, betters, worth, round, weighed, bettered, sought, solved_for}
use Rattle.pi_settling.specs.LabelLaws.{LabellingNothing, LabellingDoesMore, SolvingDoesMore}

pub labelling_nothing : LabellingNothing
labelling_nothing settle below o items s e = ap (λ (ps : List Pending). labelled_by settle below o s (picked ps o.variable)) e

-- the lowest depth does less than any
abbrev DoMore : Option Lower → Option Lower → Type 0
DoMore None m = Unit {0}
DoMore (Some l) None = ⊥
DoMore (Some l) (Some m) = ((s : State) → Below (l.drains s) (m.drains s)) × ((s : State) → Below (l.labels s) (m.labels s))

tried-more : (settle : Settling) (l m : Lower) (s : State) (r : Option State) → DoMore (Some l) (Some m) → Below (tried settle l s r) (tried settle m s r)
tried-more settle l m s None more = below-refl done
tried-more settle l m s (Some r) more =
    below-then (then (settle s r) l.drains) (then (settle s r) m.drains) l.labels m.labels (below-then (settle s r) (settle s r) l.drains m.drains (below-refl (settle s r)) more.0) more.1

one-more : (settle : Settling) (l m : Option Lower) (s : State) (r : Option State) → DoMore l m → Below (one_tried settle l s r) (one_tried settle m s r)
one-more settle None m s r more = deeper (one_tried settle m s r)
one-more settle (Some l) None s r more = absurd more
one-more settle (Some l) (Some m) s r more = same_note Tick (tried-more settle l m s r more)

all-more : (settle : Settling) (l m : Option Lower) (s : State) (p : Pending) (alts : List Alternative) → DoMore l m → Below (all_tried settle l s p alts) (all_tried settle m s p alts)
unfolding all_tried
all-more settle l m s p [] more = below-refl done
all-more settle l m s p (a ∷ rest) more =
    below-alt (one_tried settle l s (narrowed_to s p.variable (left_by a p.domain))) (one_tried settle m s (narrowed_to s p.variable (left_by a p.domain))) (all_tried settle l s p rest) (all_tried settle m s p rest)
    (one-more settle l m s (narrowed_to s p.variable (left_by a p.domain)) more) (all-more settle l m s p rest more)

by-more : (settle : Settling) (l m : Option Lower) (o : Options) (s : State) (p : Option Pending) → DoMore l m → Below (labelled_by settle l o s p) (labelled_by settle m o s p)
by-more settle l m o s None more = below-refl (one s)
by-more settle l m o s (Some p) more = all-more settle l m s p (alternatives o.value p.domain) more

labelled-more : (settle : Settling) (l m : Option Lower) (o : Options) (items : List Item) (s : State) → DoMore l m → Below (labelled settle l o items s) (labelled settle m o items s)
labelled-more settle l m o items s more = by-more settle l m o s (picked (pending s items) o.variable) more

at-more : (settle : Settling) (drains : ℕ → State → Trace State) (o : Options) (items : List Item) → ((s : State) → DepthOnlyAdds (λ d. drains d s)) → (d : ℕ) (s : State) →
    Below (labelled_at settle drains o items d s) (labelled_at settle drains o items (suc d) s)
unfolding labelled_at
at-more settle drains o items more zero s = labelled-more settle None (Some (record { drains = drains 0; labels = labelled_at settle drains o items 0 })) o items s tt
at-more settle drains o items more (suc d) s =
    labelled-more settle (Some (record { drains = drains d; labels = labelled_at settle drains o items d })) (Some (record { drains = drains (suc d); labels = labelled_at settle drains o items (suc d) })) o items s
    (λ r. more r d, λ r. at-more settle drains o items more d r)

pub labelling_does_more : LabellingDoesMore
labelling_does_more settle drains o items more s d = at-more settle drains o items more d (confined s items)

-- ---- with an objective

round-more : (p : Solving) (d : ℕ) (t : Trace State) → ((s : State) → DepthOnlyAdds (λ d. p.drains d s)) → Below (round p d t) (round p (suc d) t)
round-more p d t drains =
    below-then (then t (p.drains d)) (then t (p.drains (suc d))) (labelling p.settle p.drains p.chosen_options p.items d) (labelling p.settle p.drains p.chosen_options p.items (suc d))
    (below-then t t (p.drains d) (p.drains (suc d)) (below-refl t) (λ s. drains s d)) (λ s. labelling_does_more p.settle p.drains p.chosen_options p.items drains s d)

weighed-more : (o : Objective) (r : State) (w : Option ℤ) (f g : ℤ → Trace State) → ((v : ℤ) → Below (f v) (g v)) → Below (weighed o r w f) (weighed o r w g)
weighed-more o r None f g more = below-refl (end (Raise (type_error (codes "integer") o.expression r)))
weighed-more o r (Some v) f g more = more v

better-more : (p : Solving) (o : Objective) → ((s : State) → DepthOnlyAdds (λ d. p.drains d s)) → (d : ℕ) (s r : State) (v : ℤ) → Below (bettered p o d s r v) (bettered p o (suc d) s r v)
unfolding bettered
better-more p o drains zero s r v = deeper (bettered p o 1 s r v)
better-more p o drains (suc d) s r v =
    below-chosen (round p d (betters p o v s)) (round p (suc d) (betters p o v s)) (λ q. weighed o q (worth p o q) (bettered p o d s q)) (λ q. weighed o q (worth p o q) (bettered p o (suc d) s q)) (one r) (one r)
    (round-more p d (betters p o v s) drains) (λ q. weighed-more o q (worth p o q) (bettered p o d s q) (bettered p o (suc d) s q) (λ w. better-more p o drains d s q w)) (below-refl (one r))

sought-more : (p : Solving) (o : Objective) → ((s : State) → DepthOnlyAdds (λ d. p.drains d s)) → (s : State) (d : ℕ) → Below (sought p o d s) (sought p o (suc d) s)
sought-more p o drains s d =
    below-chosen (round p d (begins p o s)) (round p (suc d) (begins p o s)) (λ q. weighed o q (worth p o q) (bettered p o d s q)) (λ q. weighed o q (worth p o q) (bettered p o (suc d) s q)) done done
    (round-more p d (begins p o s) drains) (λ q. weighed-more o q (worth p o q) (bettered p o d s q) (bettered p o (suc d) s q) (λ w. better-more p o drains d s q w)) (below-refl done)

solved-more : (p : Solving) (o : Option Objective) → ((s : State) → DepthOnlyAdds (λ d. p.drains d s)) → (s : State) (d : ℕ) → Below (solved_for p o d s) (solved_for p o (suc d) s)
solved-more p None drains s d = labelling_does_more p.settle p.drains p.chosen_options p.items drains s d
solved-more p (Some o) drains s d = sought-more p o drains s d

pub solving_does_more : SolvingDoesMore
solving_does_more p drains s d = solved-more p p.chosen_options.objective drains s d
