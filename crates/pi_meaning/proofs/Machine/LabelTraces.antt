-- Lemmas on traces: labelling at a level is what its alternatives leave, one after the other, where the call labels on at the level below.
use Rattle.std.proofs.Common.{◌≡◌, List, [], ◌∷◌, refl, ap, sym, ◌∙◌}
use Rattle.std.specs.Prelude.{Option, Some, None}
use Rattle.pi_constraints.specs.declared.constraint.Item.{Item}
use Rattle.pi_constraints.specs.State.{State}
use Rattle.pi_core.specs.GoalTree.{GoalTree}
use Rattle.pi_core.specs.CoreTree.{PredTree}
use Rattle.pi_traces.specs.Trace.{Trace, note, Tick, done, alt, then}
use Rattle.pi_traces.proofs.TraceLemmas.{then-alt, then-assoc, alt-done}
use Rattle.pi_settling.specs.Options.{Options}
use Rattle.pi_settling.specs.Settled.{loaded}
use Rattle.pi_settling.specs.Settle.{answer_with}
use Rattle.pi_settling.specs.Label.{one_tried, all_tried, labelled}
use Rattle.pi_settling.specs.Choices.{Pending, Alternative, left_by, narrowed_to}
use Rattle.pi_meaning.specs.CoreMeaning.Builtins.{Builtins}
use Rattle.pi_meaning.specs.CoreMeaning.Meaning.{Action, meaning}
use Rattle.pi_meaning.specs.Shared.Level.{Level, lowest, over, lower, ticked, Point, calls_at}
use Rattle.pi_meaning.specs.Shared.Settle.{settlement, settled}
use Rattle.pi_meaning.specs.Shared.Solve.{labelled_in, lower_in}
use Rattle.pi_meaning.specs.Machine.Configuration.{Back}
use Rattle.pi_meaning.specs.Machine.Remaining.{point, continued, alternative_tried, alternatives_trace}
use Rattle.pi_meaning.proofs.Shared.SettleLemmas.{then-loaded}
use Rattle.pi_meaning.proofs.Machine.RunLemmas.{CallsAre, drains-at}
use Rattle.pi_meaning.proofs.Machine.RuleForms.{then-same}

-- ---- what follows a state that is settled goes by the state that is left

left-follows : {A : Type 0} (o : Option State) (f g : State → Trace A) → ((q : State) → o ≡ Some q → f q ≡ g q) → then (answer_with o) f ≡ then (answer_with o) g
unfolding then
left-follows None f g h = refl
left-follows (Some q) f g h = ap (λ t. alt t done) (h q refl)

pub settled-follows : {A : Type 0} (s r : State) (f g : State → Trace A) → ((q : State) → (settlement s r).left ≡ Some q → f q ≡ g q) → then (settled s r) f ≡ then (settled s r) g
unfolding settled
settled-follows s r f g h =
    then-loaded (settlement s r).load (answer_with (settlement s r).left) f
    ∙ (ap (loaded (settlement s r).load) (left-follows (settlement s r).left f g h)
    ∙ sym (then-loaded (settlement s r).load (answer_with (settlement s r).left) g))

-- ---- one alternative after the other

-- what is after the call, at this level, whatever level an answer has
abbrev pub behind_call : Builtins → Level → Back → Action
behind_call given l b x = continued given l b.frames (point l x.slots x.state)

-- from each state that such an alternative leaves the goal labels on at the level below, with what is after the call
abbrev pub LabelsOn : Builtins → Level → Options → List Item → GoalTree → Back → (State → Trace Point) → Option State → Type 0
LabelsOn given l o items g b f r =
    (k : Level) → lower l ≡ Some k → (x q : State) → r ≡ Some x → (settlement b.state x).left ≡ Some q →
    then (meaning given g (point k b.slots q)) (behind_call given l b) ≡ then (labelled_in o items k q) f

tried-is : (given : Builtins) (preds : List PredTree) (l : Level) → ((k : Level) → lower l ≡ Some k → CallsAre given preds k) →
    (o : Options) (items : List Item) (g : GoalTree) (b : Back) (f : State → Trace Point) (r : Option State) → LabelsOn given l o items g b f r →
    then (one_tried settled (lower_in o items l) b.state r) f ≡ ticked (lower l) (alternative_tried given l g b r)
unfolding then
tried-is given preds (lowest c) calls o items g b f r on = refl
tried-is given preds (over c k) calls o items g b f None on = refl
tried-is given preds (over c k) calls o items g b f (Some x) on =
    let t : Trace State = settled b.state x in
    let drains : State → Trace State = (calls_at k).drained in
    let on_label : State → Trace Point = λ q. then (labelled_in o items k q) f in
    let on_call : State → Trace Point = λ q. then (meaning given g (point k b.slots q)) (behind_call given (over c k) b) in
    ap (note Tick)
    (then-assoc (then t drains) (labelled_in o items k) f
    ∙ (then-assoc t drains on_label
    ∙ (then-same t (λ q. then (drains q) on_label) on_label (λ q. ap (λ u. then u on_label) (drains-at given preds k (calls k refl) q) ∙ alt-done (on_label q))
    ∙ settled-follows b.state x on_label on_call (λ q left. sym (on k refl x q refl left)))))

pub alternatives-are : (given : Builtins) (preds : List PredTree) (l : Level) → ((k : Level) → lower l ≡ Some k → CallsAre given preds k) →
    (o : Options) (items : List Item) (g : GoalTree) (p : Pending) (b : Back) (f : State → Trace Point) →
    ((a : Alternative) → LabelsOn given l o items g b f (narrowed_to b.state p.variable (left_by a p.domain))) → (alts : List Alternative) →
    then (all_tried settled (lower_in o items l) b.state p alts) f ≡ alternatives_trace given l g p alts b
unfolding all_tried alternatives_trace then
alternatives-are given preds l calls o items g p b f on [] = refl
alternatives-are given preds l calls o items g p b f on (a ∷ alts) =
    let r : Option State = narrowed_to b.state p.variable (left_by a p.domain) in
    then-alt (one_tried settled (lower_in o items l) b.state r) (all_tried settled (lower_in o items l) b.state p alts) f
    ∙ (ap (λ t. alt t (then (all_tried settled (lower_in o items l) b.state p alts) f)) (tried-is given preds l calls o items g b f r (on a))
    ∙ ap (alt (ticked (lower l) (alternative_tried given l g b r))) (alternatives-are given preds l calls o items g p b f on alts))

-- labelling at a level, by what the level below does
pub labelled-at : (o : Options) (items : List Item) (l : Level) (s : State) → labelled_in o items l s ≡ labelled settled (lower_in o items l) o items s
unfolding labelled_in
labelled-at o items (lowest c) s = refl
labelled-at o items (over c k) s = refl
