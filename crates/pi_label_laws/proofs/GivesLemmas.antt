-- The answers of a labelling are exactly the assignments that extend to a solution, each once, in order.
use Rattle.std.specs.Prelude.{◌≡◌, ◌⊎◌, ℕ, suc, ℤ, List, [], ◌∷◌, length, map, get_or, All, AllPairs, Option, Contains, refl}
use Rattle.std.proofs.Common.{arith, sym, ◌∙◌, ap, subst, inl, inr}
use Rattle.std.proofs.lemmas.List.{length-map, get_or-map}
use Rattle.std.proofs.lemmas.List.Elements.{All-map}
use Rattle.pi_constraints.specs.declared.constraint.Constraint.{Constraint}
use Rattle.pi_constraints.specs.declared.constraint.Item.{Item}
use Rattle.pi_constraints.specs.State.{State, Variable, free, within, bound}
use Rattle.pi_prop_spec.specs.Solutions.{value_of}
use Rattle.pi_traces.specs.Trace.{Trace, end, note, ans, Done, answers, end_of}
use Rattle.pi_settling.specs.Roots.{root_item}
use Rattle.pi_settling.specs.Stable.{IsStable}
use Rattle.pi_settling.specs.Solves.{Solves}
use Rattle.pi_settling.specs.SettlingLaws.{Settles}
use Rattle.pi_settling.specs.Options.{Options, Objective}
use Rattle.pi_settling.specs.Confined.{with_default, confined_at, confined}
use Rattle.pi_settling.specs.Label.{Settling, labelled_at}
use Rattle.pi_settling.specs.Rounds.{solved_for, solved}
use Rattle.pi_settling.specs.Assignments.{Extends, AreAllBy}
use Rattle.pi_settling.specs.KeepLaws.{SolvesSome}
use Rattle.pi_settling.specs.CalmLaws.{MaySettleAfter}
use Rattle.pi_settling.proofs.StableLemmas.{root-value}
use Rattle.pi_settling.proofs.ConfinedLemmas.{confining_binds_nothing, all-keep, root-same}
use Rattle.pi_settling.proofs.CalmPosted.{confined_may_settle}
use Rattle.pi_settling.proofs.LabelKeeps.{GoesOnFrom, labelling_keeps_solutions}
use Rattle.pi_settling.proofs.EndLemmas.{labelling_ends}
use Rattle.pi_settling.proofs.SettleLemmas.{settled_settles}
use Rattle.pi_label_laws.specs.Made.{MayLabel}
use Rattle.pi_label_laws.specs.SolutionLaws.{RunsWhatWaits, AreTold, AnswersTell, StandsBefore, LabellingGivesTheSolutions, call_of, SolveGivesTheSolutions}
use Rattle.pi_label_laws.proofs.RestLemmas.{Rests, IsTold}
use Rattle.pi_label_laws.proofs.RankLemmas.{Behind, all-told}
use Rattle.pi_label_laws.proofs.SolvedLemmas.{least_solution, told-solved}
use Rattle.pi_label_laws.proofs.LaterLemmas.{later-itself}
use Rattle.pi_label_laws.proofs.TraceLemmas.{EachAnswer, each-all, each-more, order-all}
use Rattle.pi_label_laws.proofs.PickLemmas.{none-told, told_value, told_values, value-told, AreOut}
use Rattle.pi_label_laws.proofs.AnswerLemmas.{are-out, Answer, Ordered, Solved, at-answers}
use Rattle.pi_label_laws.proofs.BeginLemmas.{IsGood, asked-good, good-out, integers-stay}

-- ---- confining posts nothing

default-constraints : (s : State) (n : ℕ) (v : Variable) → (with_default s n v).constraints ≡ s.constraints
default-constraints s n free = refl
default-constraints s n (within d) = refl
default-constraints s n (bound t) = refl

one-constraints : (s : State) (x : Item) → (confined_at s x).constraints ≡ s.constraints
one-constraints s (Item.Var n) = default-constraints s n (get_or s.variables n free)
one-constraints s (Item.Int i) = refl

pub confined-constraints : (items : List Item) (s : State) → (confined s items).constraints ≡ s.constraints
unfolding confined
confined-constraints [] s = refl
confined-constraints (x ∷ items) s = confined-constraints items (confined_at s (root_item s x)) ∙ one-constraints s (root_item s x)

-- ---- answers are told and solved

pub confined-goes_on : (s : State) (items : List Item) → MayLabel s items → GoesOnFrom (confined s items)
confined-goes_on s items m =
    let after : MaySettleAfter s (confined s items) = confined_may_settle s items m.state m.settles in
    record { state = after.state; may = after.settles; agents = after.agents ∙ m.agents; waiting = after.waiting ∙ m.waiting }

pub answer-told : (s r : State) (items : List Item) → AreOut s items → Answer items s s r → (x : Item) → Contains items x → IsTold r x
answer-told s r items out a x at = none-told r items a.none x at (are-out s r items a.later out x at)

root-confined : (s : State) (items : List Item) (y : Item) → root_item (confined s items) y ≡ root_item s y
root-confined s items y = root-same s (confined s items) (confining_binds_nothing s items) y

answer-rests : (s r : State) (items : List Item) → MayLabel s items → AreOut (confined s items) items → Answer items (confined s items) (confined s items) r → IsStable r r ⊎ (r ≡ confined s items) → IsStable r r
answer-rests s r items m out a (inl stable) = stable
answer-rests s r items m out a (inr same) =
    let told : (x : Item) → Contains items x → (i : ℤ) × (root_item s x ≡ Item.Int i) =
    λ x at.
    let there = answer-told (confined s items) r items out a x at in
    (there.0, sym (root-confined s items x) ∙ (ap (λ (q : State). root_item q x) (sym same) ∙ there.1)) in
    let is : r ≡ s = same ∙ integers-stay items s told in
    subst (λ (q : State). IsStable q q) (sym is) m.stable

pub answers-solved : (s : State) (items : List Item) → MayLabel s items → AreOut (confined s items) items → Solved items (confined s items)
answers-solved s items m out r a =
    let rests : Rests r = record { state = a.later.on.state; may = a.later.on.may; stable = answer-rests s r items m out a a.settled } in
    let posted : s.constraints ≡ r.constraints = sym (a.later.constraints ∙ confined-constraints items s) in
    let behind : Behind s r = record {
      rests = rests;
      posted = λ c at. subst (λ (cs : List Constraint). Contains cs c) posted at;
      roots = λ y. ap (root_item r) (sym (root-confined s items y)) ∙ a.later.roots y;
      comes = λ n has. a.later.comes n (has.0, all-keep s items n has.0 has.1);
    } in
    let told = all-told s r items m.rank behind m.settles m.known (answer-told (confined s items) r items out a) in
    (least_solution r, told-solved r rests (λ c y at place. told c y (subst (λ (cs : List Constraint). Contains cs c) (sym posted) at) place))

-- ---- what they tell

pub roots-told : (r : State) (items : List Item) → ((x : Item) → Contains items x → IsTold r x) → AreTold items r (told_values r items)
roots-told r [] told = refl
roots-told r (x ∷ items) told =
    let first = told x (0, omega arith, refl) in
    let here : root_item r x ≡ Item.Int (told_value r x) = first.1 ∙ ap Item.Int (sym (value-told r x first.0 first.1)) in
    let rest : AreTold items r (told_values r items) = roots-told r items (λ y at. told y (suc at.0, omega (arith, at.1), at.2)) in
    (λ i. here i ∷ rest i)

pub values-told : (r : State) (a : ℕ → ℤ) (items : List Item) → Solves r a → ((x : Item) → Contains items x → IsTold r x) → map (value_of a) items ≡ told_values r items
values-told r a [] h told = refl
values-told r a (x ∷ items) h told =
    let first = told x (0, omega arith, refl) in
    let here : value_of a x ≡ told_value r x = sym (root-value r a h x) ∙ (ap (value_of a) first.1 ∙ sym (value-told r x first.0 first.1)) in
    let rest : map (value_of a) items ≡ told_values r items = values-told r a items h (λ y at. told y (suc at.0, omega (arith, at.1), at.2)) in
    (λ i. here i ∷ rest i)

all-tell : (items : List Item) (t : Trace State) → EachAnswer (λ r. AreTold items r (told_values r items)) t → AnswersTell items t (map (λ r. told_values r items) (answers t))
unfolding EachAnswer answers
all-tell items (end e) h = refl
all-tell items (note n t) h = all-tell items t h
all-tell items (ans r t) h = let first = h.0 in let rest = all-tell items t h.1 in (λ i. first i ∷ rest i)

pairs-map : (f : State → List ℤ) (R : List ℤ → List ℤ → Type 0) (xs : List State) → AllPairs (λ r q. R (f r) (f q)) xs → AllPairs R (map f xs)
pairs-map f R [] h i j d l m = absurd (omega arith)
pairs-map f R (x ∷ xs) h i j d l m =
    let many : length (map f (x ∷ xs)) ≡ length (x ∷ xs) = length-map (x ∷ xs) f in
    let first : get_or (map f (x ∷ xs)) i d ≡ f (get_or (x ∷ xs) i x) = get_or-map f (x ∷ xs) i x d (omega arith) in
    let second : get_or (map f (x ∷ xs)) j d ≡ f (get_or (x ∷ xs) j x) = get_or-map f (x ∷ xs) j x d (omega arith) in
    subst (λ (ys : List ℤ). R ys (get_or (map f (x ∷ xs)) j d)) (sym first) (subst (R (f (get_or (x ∷ xs) i x))) (sym second) (h i j x l (omega arith)))

pub contains-map : (f : State → List ℤ) (xs : List State) (r : State) → Contains xs r → Contains (map f xs) (f r)
contains-map f xs r (k, l, e) =
    let many : length (map f xs) ≡ length xs = length-map xs f in
    (k, omega arith, get_or-map f xs k r (f r) l ∙ ap f e)

all-here : (P : State → Type 0) (xs : List State) (r : State) → All P xs → Contains xs r → P r
all-here P xs r h (k, l, e) = subst P e (h k r l)

-- ---- a labelling from where it begins

pub record Gives (settle : Settling) (drains : ℕ → State → Trace State) (o : Options) (items : List Item) (s : State) : Type 0 where
  pub depth : ℕ
  pub ends : end_of (labelled_at settle drains o items depth s) ≡ Done
  pub answers_are : EachAnswer (Answer items s s) (labelled_at settle drains o items depth s)
  pub tell : AnswersTell items (labelled_at settle drains o items depth s) (map (λ r. told_values r items) (answers (labelled_at settle drains o items depth s)))
  pub all : AreAllBy (StandsBefore o.variable o.value) s items (map (λ r. told_values r items) (answers (labelled_at settle drains o items depth s)))

pub gives : (settle : Settling) (drains : ℕ → State → Trace State) (o : Options) (items : List Item) (s : State) → Settles settle → RunsWhatWaits drains → GoesOnFrom s → AreOut s items → Solved items s → Gives settle drains o items s
gives settle drains o items s settles runs g out solved =
    let ending = labelling_ends settle drains o items settles runs s g.state g.may g.agents g.waiting in
    let d : ℕ = ending.0 in
    let t : Trace State = labelled_at settle drains o items d s in
    let found = at-answers settle drains o items s settles runs solved out d s (later-itself s g) (inr refl) ending.1 in
    let each : All (Answer items s s) (answers t) = each-all (Answer items s s) t found.0 in
    record {
      depth = d;
      ends = ending.1;
      answers_are = found.0;
      tell = all-tell items t (told-all t found.0);
      all = record {
        sound = All-map (Extends s items) (λ r. told_values r items) (answers t) (λ k r l. extends (get_or (answers t) k r) (each k r l));
        complete = λ values e.
            let some : SolvesSome t e.assignment = (labelling_keeps_solutions settle drains o items settles runs s g.state g.may g.agents g.waiting d ending.1 e.assignment).0 e.solves in
            let told = answer-told s some.0 items out (all-here (Answer items s s) (answers t) some.0 each some.1) in
            let same : told_values some.0 items ≡ values = sym (values-told some.0 e.assignment items some.2 told) ∙ e.are in
            subst (Contains (map (λ r. told_values r items) (answers t))) same (contains-map (λ r. told_values r items) (answers t) some.0 some.1);
        in_order = pairs-map (λ r. told_values r items) (StandsBefore o.variable o.value) (answers t) (order-all (Ordered o items) t found.1);
      };
    }
  where
    told-all : (t : Trace State) → EachAnswer (Answer items s s) t → EachAnswer (λ r. AreTold items r (told_values r items)) t
    told-all t h = each-more (Answer items s s) (λ r. AreTold items r (told_values r items)) t (λ r a. roots-told r items (answer-told s r items out a)) h

    extends : (r : State) → Answer items s s r → Extends s items (told_values r items)
    extends r a =
        let solution = solved r a in
        record { assignment = solution.0; solves = a.later.back solution.0 solution.1; are = values-told r solution.0 items solution.1 (answer-told s r items out a) }

-- ---- without an objective

pub labelling_gives_the_solutions : LabellingGivesTheSolutions
labelling_gives_the_solutions p s words vars asks none below settles runs m =
    let c : State = confined s p.items in
    let good : (x : Item) → Contains p.items x → IsGood s x = asked-good s words vars p.chosen_options p.items m.state below asks in
    let out : AreOut c p.items = good-out s p.items good in
    let all : Gives p.settle p.drains p.chosen_options p.items c = gives p.settle p.drains p.chosen_options p.items c settles runs (confined-goes_on s p.items m) out (answers-solved s p.items m out) in
    let same : solved p all.depth s ≡ labelled_at p.settle p.drains p.chosen_options p.items all.depth c = ap (λ (o : Option Objective). solved_for p o all.depth s) none in (
      all.depth,
      map (λ r. told_values r p.items) (answers (labelled_at p.settle p.drains p.chosen_options p.items all.depth c)),
      ap end_of same ∙ all.ends,
      subst (λ (t : Trace State). AnswersTell p.items t (map (λ r. told_values r p.items) (answers (labelled_at p.settle p.drains p.chosen_options p.items all.depth c)))) (sym same) all.tell,
      all.all,
    )

pub solve_gives_the_solutions : SolveGivesTheSolutions
solve_gives_the_solutions drains o items s words vars asks none below runs m = labelling_gives_the_solutions (call_of drains o items) s words vars asks none below settled_settles runs m
