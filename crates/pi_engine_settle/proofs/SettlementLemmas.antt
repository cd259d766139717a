-- What settling comes to what a goal left, by its settlement.
use Rattle.std.specs.Prelude.{◌≡◌, ℕ, zero, suc, ◌+◌, ◌==◌, ◌<◌, nat_le, Bool, true, false, cond, not, ◌&&◌, ◌||◌, List, [], ◌∷◌, length, Option, Some, None, slice_index_or, refl}
use Rattle.std.specs.List.{list_any}
use Rattle.std.proofs.Common.{arith, sym, ◌∙◌, ap, subst, inl, inr}
use Rattle.std.proofs.lemmas.Bool.{cases_Bool}
use Rattle.std.proofs.lemmas.Bool.Decides.{nat_tests}
use Rattle.std.proofs.lemmas.Option.{slice_get_within}
use Rattle.pi_core.specs.declared.log.Work.{Work}
use Rattle.pi_constraints.specs.declared.constraint.Constraint.{Constraint}
use Rattle.pi_constraints.specs.declared.constraint.Item.{Item}
use Rattle.pi_constraints.specs.State.{State, Variable, free, within, bound, IsState}
use Rattle.pi_traces.specs.Trace.{done, one}
use Rattle.pi_prop_spec.specs.Places.{places_of}
use Rattle.pi_settling.specs.Roots.{root_item}
use Rattle.pi_settling.specs.Load.{is_another, has_changed, is_due, load, load_of_failure}
use Rattle.pi_settling.specs.Settled.{loaded, with_events, IsSettled}
use Rattle.pi_settling.specs.SettlingLaws.{MaySettle}
use Rattle.pi_settling.specs.Stable.{IsStable, IsEmptied}
use Rattle.pi_settling.specs.Calm.{IsCalm}
use Rattle.pi_settling.specs.Settle.{stable_state, settlement_by, settlement as settlement_of_goal}
use Rattle.pi_settling.proofs.SettleLemmas.{gives_the_stable_state, finds_what_is_emptied, gives_no_other, finds_each_that_is_emptied}
use Rattle.pi_settling.proofs.SettleKeeps.{settling_keeps_the_rest}
use Rattle.pi_settling.proofs.CalmLemmas.{stable_is_calm}
use Rattle.pi_settling.proofs.SizeLemmas.{none-there}
use Rattle.pi_meaning.specs.Shared.Settle.{is_free, are_unchanged, is_unchanged, settlement}
use Rattle.pi_meaning.proofs.Shared.SettleLemmas.{nothing_to_settle, settlement-unchanged, no-events}
use Rattle.pi_queue.specs.Ends.{Worked, worked}
use Rattle.pi_queue.proofs.WaitingLemmas.{none-differ}
use Rattle.pi_engine_settle.specs.declared.propagating.Settled.{Settled}
use Rattle.pi_meaning.specs.Shared.Follows.{Follows}
use Rattle.pi_engine_settle.specs.Due.{IsDueFor}
use Rattle.pi_engine_settle.specs.Settles.{HasSettled, HasLost, HasStopped, LeftBy, ComesTo, SettlesAs}
use Rattle.pi_engine_settle.proofs.MemberLemmas.{IsDueAt}
use Rattle.pi_engine_settle.proofs.DueLemmas.{old-due, new-due, due-for}
use Rattle.pi_engine_settle.proofs.EndLemmas.{calm-left, settled-left}

-- ---- a goal that changed nothing leaves nothing due

passed-both : (p q : Bool) → (p && q) ≡ true → (p ≡ true) × (q ≡ true)
passed-both true q h = (refl, h)
passed-both false q h = absurd cc

is-no-other : (v : Variable) → is_free v ≡ true → is_another free v ≡ false
is-no-other free h = refl
is-no-other (within d) h = absurd cc
is-no-other (bound t) h = absurd cc

new-is-free : (ws : List Variable) → are_unchanged [] ws ≡ true → (n : ℕ) → is_another free (slice_index_or ws n free) ≡ false
unfolding are_unchanged
new-is-free [] h n = refl
new-is-free (w ∷ ws) h zero = is-no-other w (passed-both (is_free w) (are_unchanged [] ws) h).0
new-is-free (w ∷ ws) h (suc n) = new-is-free ws (passed-both (is_free w) (are_unchanged [] ws) h).1 n

no-other : (b : Bool) → not b ≡ true → b ≡ false
no-other true h = absurd cc
no-other false h = refl

is-no-longer : (vs ws : List Variable) → are_unchanged vs ws ≡ true → (n : ℕ) → is_another (slice_index_or vs n free) (slice_index_or ws n free) ≡ false
unfolding are_unchanged
is-no-longer [] ws h n = new-is-free ws h n
is-no-longer (v ∷ vs) [] h n = absurd cc
is-no-longer (v ∷ vs) (w ∷ ws) h zero = no-other (is_another v w) (passed-both (not (is_another v w)) (are_unchanged vs ws) h).0
is-no-longer (v ∷ vs) (w ∷ ws) h (suc n) = is-no-longer vs ws (passed-both (not (is_another v w)) (are_unchanged vs ws) h).1 n

item-stays : (before s : State) → are_unchanged before.variables s.variables ≡ true → (x : Item) → has_changed before s x ≡ false
item-stays before s h (Item.Var n) = is-no-longer before.variables s.variables h n
item-stays before s h (Item.Int i) = refl

none-changed : (before s : State) → are_unchanged before.variables s.variables ≡ true → (xs : List Item) → list_any (λ x. has_changed before s (root_item before x)) xs ≡ false
none-changed before s h [] = refl
none-changed before s h (x ∷ xs) = ap (λ b. b || list_any (λ y. has_changed before s (root_item before y)) xs) (item-stays before s h (root_item before x)) ∙ none-changed before s h xs

below-not : (m n : ℕ) → n < m → nat_le m n ≡ false
below-not m n l = grind (arith, nat_tests)

not-due-now : (before s : State) → length before.constraints ≡ length s.constraints → are_unchanged before.variables s.variables ≡ true → (i : ℕ) → i < length s.constraints → (c : Constraint) →
    is_due before s i c ≡ false
not-due-now before s many h i l c =
    ap (λ b. b || list_any (λ x. has_changed before s (root_item before x)) (places_of c)) (below-not (length before.constraints) i (omega (arith, many, l))) ∙ none-changed before s h (places_of c)

none-due : (before s : State) → IsCalm before → Follows before s → IsState s → is_unchanged before s ≡ true → IsDueFor before s []
unfolding is_unchanged
none-due before s calm f is h =
    let parts : _ = passed-both (length before.constraints == length s.constraints) (are_unchanged before.variables s.variables) h in
    let many : length before.constraints ≡ length s.constraints = grind (arith, nat_tests, parts.0) in
    let never : (i : ℕ) → IsDueAt before s 0 s.constraints i → ⊥ = λ i at.
    let l : at.place < length s.constraints = slice_get_within s.constraints at.place at.constraint at.there in
    let no : is_due before s at.place at.constraint ≡ false = not-due-now before s many parts.1 at.place l at.constraint in
    let same : i ≡ at.place = omega (arith, at.number) in
    let yes : is_due before s at.place at.constraint ≡ true = subst (λ (k : ℕ). is_due before s k at.constraint ≡ true) same at.is in
    let both : true ≡ false = sym yes ∙ no in cc in
    due-for before s [] calm f is none-differ (λ i.
    ((λ there. absurd (none-there i there)), (λ either. absurd (elim either [ inl old ↦ never i (old-due before s i calm f old) | inr new ↦ never i (new-due before s i new) ]))))

-- ---- in the states of a run the settlement is that of the stable state

by-outcome : (before s : State) (o : Option State) → stable_state s ≡ o → settlement_of_goal before s ≡ settlement_by before s o
unfolding settlement_of_goal
by-outcome before s o e = ap (settlement_by before s) e

no-answer : {A : Type 0} (n : ℕ) (x : A) → one x ≡ loaded n done → ⊥
unfolding loaded
no-answer zero x h = cc
no-answer (suc n) x h = cc

the-answer : {A : Type 0} (n : ℕ) (x y : A) → one x ≡ loaded n (one y) → (n ≡ 0) × (x ≡ y)
unfolding loaded
the-answer zero x y h = (refl, cc)
the-answer (suc n) x y h = absurd cc

as-it-stands : (before s : State) → IsState s → MaySettle s → IsSettled before s (one s) → settlement_of_goal before s ≡ nothing_to_settle s
as-it-stands before s is may (inl h) = absurd (no-answer (load_of_failure before s) s h.1)
as-it-stands before s is may (inr (r, stable, same)) =
    let parts : (load before s r ≡ 0) × (s ≡ with_events before r) = the-answer (load before s r) s (with_events before r) same in
    by-outcome before s (Some r) (gives_no_other s r is may stable)
    ∙ (ap (λ n. record { load = n; left = Some (with_events before r) }) parts.0 ∙ ap (λ q. nothing_to_settle q) (sym parts.1))

unchanged-stands : (before s : State) → IsCalm before → Follows before s → IsState s → MaySettle s → s.agents ≡ [] → is_unchanged before s ≡ true → settlement_of_goal before s ≡ nothing_to_settle s
unchanged-stands before s calm f is may none h = as-it-stands before s is may (settled-left before s [] refl (none-due before s calm f is h) is may none)

otherwise : (before s : State) → is_unchanged before s ≡ false → settlement before s ≡ settlement_of_goal before s
unfolding settlement
otherwise before s h = ap (λ b. cond b (nothing_to_settle s) (settlement_of_goal before s)) h

pub settlement-of-goal : (before s : State) → IsCalm before → Follows before s → IsState s → MaySettle s → s.agents ≡ [] → settlement before s ≡ settlement_of_goal before s
settlement-of-goal before s calm f is may none = elim (cases_Bool (is_unchanged before s)) [
  | inl yes_it_is ↦ settlement-unchanged before s yes_it_is ∙ sym (unchanged-stands before s calm f is may none yes_it_is)
  | inr no_it_is_not ↦ otherwise before s no_it_is_not
]

-- ---- how it ends

-- no agent is made by it
none-after : {before : State} (s r : State) → LeftBy before s → IsStable s r → r.agents ≡ []
none-after s r g stable = (settling_keeps_the_rest s r (gives_no_other s r g.state g.settles stable)).1 ∙ g.none_made

by-stable : (before s r : State) → LeftBy before s → IsStable s r → settlement before s ≡ record { load = load before s r; left = Some r }
by-stable before s r g stable =
    let is : stable_state s ≡ Some r = gives_no_other s r g.state g.settles stable in
    let agents : r.agents ≡ [] = none-after s r g stable in
    settlement-of-goal before s g.calm g.follows g.state g.settles g.none_made
    ∙ (by-outcome before s (Some r) is ∙ ap (λ q. record { load = load before s r; left = Some q }) (no-events before r agents))

by-emptied : (before s : State) → LeftBy before s → IsEmptied s → settlement before s ≡ record { load = load_of_failure before s; left = None }
by-emptied before s g emptied =
    settlement-of-goal before s g.calm g.follows g.state g.settles g.none_made ∙ by-outcome before s None (finds_each_that_is_emptied s g.state g.settles emptied)

pub left-as : (before s r : State) (limit : ℕ) (old new : Work) → LeftBy before s → HasSettled before s r old new → SettlesAs (settlement before s) (worked limit old new) r Settled.Left
left-as before s r limit old new g h =
    subst (λ m. SettlesAs m (worked limit old new) r Settled.Left) (sym (by-stable before s r g h.stable)) (refl, stable_is_calm s r g.state g.settles h.stable, none-after s r g h.stable, h.runs)

pub lost-as : (before s r : State) (limit : ℕ) (old new : Work) → LeftBy before s → HasLost before s old new → SettlesAs (settlement before s) (worked limit old new) r Settled.Lost
lost-as before s r limit old new g h =
    subst (λ m. SettlesAs m (worked limit old new) r Settled.Lost) (sym (by-emptied before s g h.emptied)) (refl, h.runs)

-- by the stable state, or that there is none
fewer-in-either : (before s : State) (due : List ℕ) (w : Worked) → LeftBy before s → HasStopped before s due w → (o : Option State) → stable_state s ≡ o → w.new.runs < w.old.runs + (settlement before s).load
fewer-in-either before s due w g h (Some q) is =
    let stable : IsStable s q = gives_the_stable_state s q g.state g.settles is in
    subst (λ (n : ℕ). w.new.runs < w.old.runs + n) (ap (λ m. m.load) (sym (by-stable before s q g stable))) (h.fewer q stable)
fewer-in-either before s due w g h None is =
    let emptied : IsEmptied s = finds_what_is_emptied s g.state g.settles is in
    subst (λ (n : ℕ). w.new.runs < w.old.runs + n) (ap (λ m. m.load) (sym (by-emptied before s g emptied))) h.fewer_where_lost

pub spent-as : (before s r : State) (due : List ℕ) (w : Worked) → LeftBy before s → HasStopped before s due w → SettlesAs (settlement before s) w r Settled.Spent
spent-as before s r due w g h = (h.spent, h.just, fewer-in-either before s due w g h (stable_state s) refl)

-- where nothing is due the state is settled as it stands
stands-so : (before s : State) (due : List ℕ) → LeftBy before s → due ≡ [] → IsDueFor before s due → (settlement before s ≡ nothing_to_settle s) × IsCalm s
stands-so before s due g none d = (
  settlement-of-goal before s g.calm g.follows g.state g.settles g.none_made ∙ as-it-stands before s g.state g.settles (settled-left before s due none d g.state g.settles g.none_made),
  calm-left before s due none d g.state g.settles,
)

none-of : {A : Type 0} (xs : List A) → length xs ≡ 0 → xs ≡ []
none-of [] h = refl
none-of (x ∷ xs) h = absurd (omega (arith, h))

pub none-due-stands : (before s : State) (due : List ℕ) → LeftBy before s → length due ≡ 0 → IsDueFor before s due → (settlement before s ≡ nothing_to_settle s) × IsCalm s
none-due-stands before s due g none d = stands-so before s due g (none-of due none) d

pub none-left : (before s : State) (limit : ℕ) (old : Work) (due : List ℕ) → LeftBy before s → length due ≡ 0 → IsDueFor before s due → SettlesAs (settlement before s) (worked limit old old) s Settled.Left
none-left before s limit old due g none d =
    let it : (settlement before s ≡ nothing_to_settle s) × IsCalm s = none-due-stands before s due g none d in
    subst (λ m. SettlesAs m (worked limit old old) s Settled.Left) (sym it.0) (refl, it.1, g.none_made, omega arith)

pub settles-as : (before s r : State) (due : List ℕ) (limit : ℕ) (old new : Work) → LeftBy before s → (settled : Settled) → ComesTo before s due (worked limit old new) r settled →
    SettlesAs (settlement before s) (worked limit old new) r settled
settles-as before s r due limit old new g Settled.Left h = left-as before s r limit old new g h
settles-as before s r due limit old new g Settled.Lost h = lost-as before s r limit old new g h
settles-as before s r due limit old new g Settled.Spent h = spent-as before s r due (worked limit old new) g h
