-- Agents that an event wakes.
use Rattle.std.specs.Prelude.{◌≡◌, ◌↔◌, ℕ, ℤ, zero, suc, ◌+◌, ◌<◌, ◌≤◌, Bool, true, false, cond, ◌&&◌, IsTrue, List, [], ◌∷◌, ◌++◌, length, is_some, slice_get, Option, Some, None, refl}
use Rattle.std.proofs.Common.{arith, sym, ◌∙◌, ap, subst, get_or, append_assoc, append-nil, drop}
use Rattle.std.proofs.lemmas.Option.{slice_get-get_or}
use Rattle.pi_terms.specs.Tree.{Tree, int}
use Rattle.pi_constraints.specs.Value.{Bindings, IsAcyclic}
use Rattle.pi_constraints.specs.State.{State, Agent, WatchTree, on_ins, on_bound, on_dom, on_dom_any, on_posted, bindings, LeadsTo}
use Rattle.pi_constraints.specs.Store.{StoreView, IsTerm, IsWatch, AreWatches}
use Rattle.pi_constraints.specs.declared.event.Watch.{Watch}
use Rattle.pi_constraints.specs.declared.event.Event.{Event}
use Rattle.pi_constraints.specs.declared.event.Activation.{Activation}
use Rattle.pi_constraints.specs.declared.store.Ref.{Ref}
use Rattle.pi_settling.specs.Answers.{leads_to, given_if, answer_to, activation_or, first_answered, activations_from, activations}
use Rattle.pi_settling.proofs.AnswerLemmas.{leads_are_followed}
use Rattle.pi_agent.specs.Woken.{event_value}

-- ---- patterns that are answered

same-truth : (b c : Bool) → (IsTrue b → IsTrue c) → (IsTrue c → IsTrue b) → b ≡ c
same-truth true true f g = refl
same-truth true false f g = sym (f refl)
same-truth false true f g = g refl
same-truth false false f g = refl

given-some : (p : Bool) (value : Option Tree) → p ≡ is_some (given_if p value)
given-some true value = refl
given-some false value = refl

-- what the store tells of a term
abbrev pub Tells : {M : Type 0} → StoreView M → Bindings → Ref → ℕ → Bool → Type 0
Tells v b r n p = (t : Tree) → IsTerm v r t → IsAcyclic b → IsTrue p ↔ LeadsTo b t n

told : {M : Type 0} (v : StoreView M) (b : Bindings) (r : Ref) (n : ℕ) (p : Bool) (t : Tree) → Tells v b r n p → IsTerm v r t → IsAcyclic b → p ≡ leads_to b t n
told v b r n p t tells is a = same-truth p (leads_to b t n) (λ h. (leads_are_followed b t n a).1 ((tells t is a).0 h)) (λ h. (tells t is a).1 ((leads_are_followed b t n a).0 h))

pub ins-answers : {M : Type 0} (v : StoreView M) (b : Bindings) (e : Event) (n : ℕ) (watch : Watch) (r : Ref) (p : Bool) (w : WatchTree) → e ≡ Event.Ins n → watch ≡ Watch.Ins r → IsAcyclic b → Tells v b r n p → IsWatch v watch w →
    p ≡ is_some (answer_to b e w)
ins-answers v b e n watch r p w at is a tells has =
    let h = subst (λ x. IsWatch v x w) is has in
    told v b r n p h.0 tells h.1 a ∙ (given-some (leads_to b h.0 n) None ∙ (ap (λ x. is_some (answer_to b (Event.Ins n) x)) (sym h.2) ∙ ap (λ x. is_some (answer_to b x w)) (sym at)))

pub bound-answers : {M : Type 0} (v : StoreView M) (b : Bindings) (e : Event) (n : ℕ) (watch : Watch) (r : Ref) (p : Bool) (w : WatchTree) → e ≡ Event.Bound n → watch ≡ Watch.Bound r → IsAcyclic b → Tells v b r n p → IsWatch v watch w →
    p ≡ is_some (answer_to b e w)
bound-answers v b e n watch r p w at is a tells has =
    let h = subst (λ x. IsWatch v x w) is has in
    told v b r n p h.0 tells h.1 a ∙ (given-some (leads_to b h.0 n) None ∙ (ap (λ x. is_some (answer_to b (Event.Bound n) x)) (sym h.2) ∙ ap (λ x. is_some (answer_to b x w)) (sym at)))

pub dom-answers : {M : Type 0} (v : StoreView M) (b : Bindings) (e : Event) (n : ℕ) (i : ℤ) (inner : Bool) (watch : Watch) (r : Ref) (slot : ℕ) (p : Bool) (w : WatchTree) → e ≡ Event.Excluded n i inner → watch ≡ Watch.Dom r slot → IsAcyclic b →
    Tells v b r n p → IsWatch v watch w → (inner && p) ≡ is_some (answer_to b e w)
dom-answers v b e n i inner watch r slot p w at is a tells has =
    let h = subst (λ x. IsWatch v x w) is has in
    ap (λ q. inner && q) (told v b r n p h.0 tells h.1 a)
    ∙ (given-some (inner && leads_to b h.0 n) (Some (int i)) ∙ (ap (λ x. is_some (answer_to b (Event.Excluded n i inner) x)) (sym h.2) ∙ ap (λ x. is_some (answer_to b x w)) (sym at)))

pub any-answers : {M : Type 0} (v : StoreView M) (b : Bindings) (e : Event) (n : ℕ) (i : ℤ) (inner : Bool) (watch : Watch) (r : Ref) (slot : ℕ) (p : Bool) (w : WatchTree) → e ≡ Event.Excluded n i inner → watch ≡ Watch.DomAny r slot → IsAcyclic b →
    Tells v b r n p → IsWatch v watch w → p ≡ is_some (answer_to b e w)
any-answers v b e n i inner watch r slot p w at is a tells has =
    let h = subst (λ x. IsWatch v x w) is has in
    told v b r n p h.0 tells h.1 a
    ∙ (given-some (leads_to b h.0 n) (Some (int i)) ∙ (ap (λ x. is_some (answer_to b (Event.Excluded n i inner) x)) (sym h.2) ∙ ap (λ x. is_some (answer_to b x w)) (sym at)))

pub posted-answers : {M : Type 0} (v : StoreView M) (b : Bindings) (e : Event) (n : ℕ) (u : Tree) (watch : Watch) (r : Ref) (slot : ℕ) (p : Bool) (w : WatchTree) → e ≡ Event.Posted n u → watch ≡ Watch.Posted r slot → IsAcyclic b →
    Tells v b r n p → IsWatch v watch w → p ≡ is_some (answer_to b e w)
posted-answers v b e n u watch r slot p w at is a tells has =
    let h = subst (λ x. IsWatch v x w) is has in
    told v b r n p h.0 tells h.1 a
    ∙ (given-some (leads_to b h.0 n) (Some u) ∙ (ap (λ x. is_some (answer_to b (Event.Posted n u) x)) (sym h.2) ∙ ap (λ x. is_some (answer_to b x w)) (sym at)))

-- ---- an answer is nothing or the event's value

if-value : (p : Bool) (value : Option Tree) → is_some (given_if p value) ≡ true → given_if p value ≡ Some value
if-value true value e = refl
if-value false value e = absurd (cc)

pub answer-value : (b : Bindings) (e : Event) (w : WatchTree) → is_some (answer_to b e w) ≡ true → answer_to b e w ≡ Some (event_value e)
answer-value b (Event.Ins n) (on_ins t) h = if-value (leads_to b t n) None h
answer-value b (Event.Ins n) (on_bound t) h = absurd (cc)
answer-value b (Event.Ins n) (on_dom t slot) h = absurd (cc)
answer-value b (Event.Ins n) (on_dom_any t slot) h = absurd (cc)
answer-value b (Event.Ins n) (on_posted t slot) h = absurd (cc)
answer-value b (Event.Bound n) (on_ins t) h = absurd (cc)
answer-value b (Event.Bound n) (on_bound t) h = if-value (leads_to b t n) None h
answer-value b (Event.Bound n) (on_dom t slot) h = absurd (cc)
answer-value b (Event.Bound n) (on_dom_any t slot) h = absurd (cc)
answer-value b (Event.Bound n) (on_posted t slot) h = absurd (cc)
answer-value b (Event.Excluded n i inner) (on_ins t) h = absurd (cc)
answer-value b (Event.Excluded n i inner) (on_bound t) h = absurd (cc)
answer-value b (Event.Excluded n i inner) (on_dom t slot) h = if-value (inner && leads_to b t n) (Some (int i)) h
answer-value b (Event.Excluded n i inner) (on_dom_any t slot) h = if-value (leads_to b t n) (Some (int i)) h
answer-value b (Event.Excluded n i inner) (on_posted t slot) h = absurd (cc)
answer-value b (Event.Posted n u) (on_ins t) h = absurd (cc)
answer-value b (Event.Posted n u) (on_bound t) h = absurd (cc)
answer-value b (Event.Posted n u) (on_dom t slot) h = absurd (cc)
answer-value b (Event.Posted n u) (on_dom_any t slot) h = absurd (cc)
answer-value b (Event.Posted n u) (on_posted t slot) h = if-value (leads_to b t n) (Some u) h

answer-none : (o : Option (Option Tree)) → is_some o ≡ false → o ≡ None
answer-none None e = refl
answer-none (Some x) e = absurd (cc)

-- ---- the patterns of an agent

pub watch-at : {M : Type 0} (v : StoreView M) (rs : List Watch) (ws : List WatchTree) (i : ℕ) (r : Watch) → AreWatches v rs ws → slice_get rs i ≡ Some r → (w : WatchTree) × (rest : List WatchTree) × (drop i ws ≡ w ∷ rest) × (drop (suc i) ws ≡ rest) × IsWatch v r w
unfolding AreWatches
watch-at v [] ws i r are is = absurd (cc)
watch-at v (q ∷ rs) [] i r are is = absurd are
watch-at v (q ∷ rs) (w ∷ ws) zero r are is = (w, ws, refl, refl, subst (λ x. IsWatch v x w) (let same : q ≡ r = cc in same) are.0)
watch-at v (q ∷ rs) (w ∷ ws) (suc i) r are is = watch-at v rs ws i r are.1 is

pub watch-count : {M : Type 0} (v : StoreView M) (rs : List Watch) (ws : List WatchTree) → AreWatches v rs ws → length ws ≡ length rs
unfolding AreWatches
watch-count v [] [] are = refl
watch-count v [] (w ∷ ws) are = absurd are
watch-count v (r ∷ rs) [] are = absurd are
watch-count v (r ∷ rs) (w ∷ ws) are = ap suc (watch-count v rs ws are.1)

-- those from the pattern with number i on
pub answered-here : (b : Bindings) (e : Event) (agent i : ℕ) (w : WatchTree) (rest : List WatchTree) → is_some (answer_to b e w) ≡ true →
    first_answered b e agent i (w ∷ rest) ≡ record { agent = agent; watch = i; value = event_value e } ∷ []
unfolding first_answered
answered-here b e agent i w rest h = ap (λ o. activation_or agent i o (first_answered b e agent (suc i) rest)) (answer-value b e w h)

pub passed-here : (b : Bindings) (e : Event) (agent i : ℕ) (w : WatchTree) (rest : List WatchTree) → is_some (answer_to b e w) ≡ false → first_answered b e agent i (w ∷ rest) ≡ first_answered b e agent (suc i) rest
unfolding first_answered
passed-here b e agent i w rest h = ap (λ o. activation_or agent i o (first_answered b e agent (suc i) rest)) (answer-none (answer_to b e w) h)

pub none-answered : (b : Bindings) (e : Event) (agent i : ℕ) → first_answered b e agent i [] ≡ []
unfolding first_answered
none-answered b e agent i = refl

-- ---- turns of the loops

drop_past : {X : Type 0} (k : ℕ) (xs : List X) → length xs ≤ k → drop k xs ≡ []
drop_past zero [] h = refl
drop_past (suc k) [] h = refl
drop_past zero (x ∷ xs) h = absurd (omega arith)
drop_past (suc k) (x ∷ xs) h = drop_past k xs (omega arith)

drop_at : {X : Type 0} (k : ℕ) (xs : List X) (x : X) → slice_get xs k ≡ Some x → drop k xs ≡ x ∷ drop (suc k) xs
drop_at k [] x h = absurd (cc)
drop_at zero (y ∷ ys) x h = ap (λ z. z ∷ ys) (let same : y ≡ x = cc in same)
drop_at (suc k) (y ∷ ys) x h = drop_at k ys x h

pub found-turn : {M : Type 0} (v : StoreView M) (b : Bindings) (e : Event) (agent i : ℕ) (rs : List Watch) (ws : List WatchTree) (r : Watch) (old pushed : List Activation) (value : Option Tree) → AreWatches v rs ws → slice_get rs i ≡ Some r →
    ((w : WatchTree) → IsWatch v r w → true ≡ is_some (answer_to b e w)) → first_answered b e agent 0 ws ≡ first_answered b e agent i (drop i ws) → value ≡ event_value e → pushed ≡ old ++ record { agent = agent; watch = i; value = value } ∷ [] →
    pushed ≡ old ++ first_answered b e agent 0 ws
found-turn v b e agent i rs ws r old pushed value are at answers h is push =
    let found = watch-at v rs ws i r are at in
    let here = answered-here b e agent i found.0 found.1 (sym (answers found.0 found.4)) in
    push ∙ (ap (λ (x : Option Tree). old ++ record { agent = agent; watch = i; value = x } ∷ []) is
    ∙ ap (λ (xs : List Activation). old ++ xs) (sym (h ∙ (ap (first_answered b e agent i) found.2 ∙ here))))

pub passed-turn : {M : Type 0} (v : StoreView M) (b : Bindings) (e : Event) (agent i : ℕ) (rs : List Watch) (ws : List WatchTree) (r : Watch) → AreWatches v rs ws → slice_get rs i ≡ Some r →
    ((w : WatchTree) → IsWatch v r w → false ≡ is_some (answer_to b e w)) → first_answered b e agent 0 ws ≡ first_answered b e agent i (drop i ws) → first_answered b e agent 0 ws ≡ first_answered b e agent (i + 1) (drop (i + 1) ws)
passed-turn v b e agent i rs ws r are at answers h =
    let found = watch-at v rs ws i r are at in
    let here = passed-here b e agent i found.0 found.1 (sym (answers found.0 found.4)) in
    let more : suc i ≡ i + 1 = omega arith in
    h ∙ (ap (first_answered b e agent i) found.2 ∙ (here ∙ (ap (first_answered b e agent (suc i)) (sym found.3) ∙ ap (λ (k : ℕ). first_answered b e agent k (drop k ws)) more)))

pub none-turn : {M : Type 0} (v : StoreView M) (b : Bindings) (e : Event) (agent i : ℕ) (rs : List Watch) (ws : List WatchTree) (old : List Activation) → AreWatches v rs ws → length rs ≤ i → first_answered b e agent 0 ws ≡ first_answered b e agent i (drop i ws) →
    old ≡ old ++ first_answered b e agent 0 ws
none-turn v b e agent i rs ws old are past h =
    let count = watch-count v rs ws are in
    let end : drop i ws ≡ [] = drop_past i ws (omega (arith, count, past)) in
    sym (ap (λ (xs : List Activation). old ++ xs) (h ∙ (ap (first_answered b e agent i) end ∙ none-answered b e agent i)) ∙ append-nil old)

pub agent-turn : (b : Bindings) (e : Event) (n : ℕ) (agents : List Agent) (a : Agent) (old new whole : List Activation) → slice_get agents n ≡ Some a → old ++ activations_from b e n (drop n agents) ≡ whole →
    new ≡ old ++ cond a.alive (first_answered b e n 0 a.watches) [] → new ++ activations_from b e (n + 1) (drop (n + 1) agents) ≡ whole
unfolding activations_from
agent-turn b e n agents a old new whole at h push =
    let here : List Activation = cond a.alive (first_answered b e n 0 a.watches) [] in
    let rest : List Activation = activations_from b e (n + 1) (drop (n + 1) agents) in
    let one : suc n ≡ n + 1 = omega arith in
    let split : activations_from b e n (drop n agents) ≡ here ++ rest =
    ap (activations_from b e n) (drop_at n agents a at) ∙ ap (λ (k : ℕ). here ++ activations_from b e k (drop k agents)) one in
    ap (λ (xs : List Activation). xs ++ rest) push ∙ (append_assoc old here rest ∙ (ap (λ (xs : List Activation). old ++ xs) (sym split) ∙ h))

pub agent-at : (agents : List Agent) (n : ℕ) → n < length agents → (a : Agent) × (slice_get agents n ≡ Some a)
agent-at [] n l = absurd (omega arith)
agent-at (a ∷ agents) zero l = (a, refl)
agent-at (a ∷ agents) (suc n) l = agent-at agents n (omega arith)

-- an agent that has ended makes nothing
pub ended-turn : (b : Bindings) (e : Event) (n : ℕ) (a : Agent) (old : List Activation) → a.alive ≡ false → old ≡ old ++ cond a.alive (first_answered b e n 0 a.watches) []
ended-turn b e n a old is = sym (append-nil old) ∙ ap (λ (p : Bool). old ++ cond p (first_answered b e n 0 a.watches) []) (sym is)

pub agents-done : (b : Bindings) (e : Event) (n : ℕ) (agents : List Agent) (old whole : List Activation) → length agents ≤ n → old ++ activations_from b e n (drop n agents) ≡ whole → old ≡ whole
unfolding activations_from
agents-done b e n agents old whole past h = sym (append-nil old) ∙ (ap (λ (xs : List Agent). old ++ activations_from b e n xs) (sym (drop_past n agents past)) ∙ h)

pub event-turn : (s : State) (es : List Event) (i : ℕ) (e : Event) (old new whole : List Activation) → slice_get es i ≡ Some e → old ++ activations s (drop i es) ≡ whole → new ≡ old ++ activations_from (bindings s) e 0 s.agents →
    new ++ activations s (drop (i + 1) es) ≡ whole
unfolding activations
event-turn s es i e old new whole at h push =
    let one : suc i ≡ i + 1 = omega arith in
    let here : activations s (drop i es) ≡ activations_from (bindings s) e 0 s.agents ++ activations s (drop (i + 1) es) =
    ap (activations s) (drop_at i es e at) ∙ ap (λ (k : ℕ). activations_from (bindings s) e 0 s.agents ++ activations s (drop k es)) one in
    ap (λ (xs : List Activation). xs ++ activations s (drop (i + 1) es)) push ∙ (append_assoc old (activations_from (bindings s) e 0 s.agents) (activations s (drop (i + 1) es)) ∙ (ap (λ (xs : List Activation). old ++ xs) (sym here) ∙ h))

pub events-done : (s : State) (es : List Event) (i : ℕ) (old whole : List Activation) → length es ≤ i → old ++ activations s (drop i es) ≡ whole → old ≡ whole
unfolding activations
events-done s es i old whole past h = sym (append-nil old) ∙ (ap (λ (xs : List Event). old ++ activations s xs) (sym (drop_past i es past)) ∙ h)

pub event-at : (es : List Event) (i : ℕ) (e : Event) → i < length es → get_or es i e ≡ e → slice_get es i ≡ Some e
event-at es i e l is = slice_get-get_or es i e l ∙ ap Some is
