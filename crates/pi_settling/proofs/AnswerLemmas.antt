-- Terms that lead to a variable, and agents that are woken.
use Rattle.std.specs.Prelude.{◌≡◌, ◌⊎◌, ◌==◌, ℕ, zero, suc, ◌<◌, Bool, true, false, ◌||◌, IsTrue, List, [], ◌∷◌, length, slice_get, Option, Some, None, refl}
use Rattle.std.proofs.Common.{arith, sym, subst, inl, inr, eq-eqb}
use Rattle.std.proofs.lemmas.Bool.{or_cases, eqb-true}
use Rattle.pi_terms.specs.Tree.{Tree, var, int, atom, comp}
use Rattle.pi_terms.specs.Places.{held}
use Rattle.pi_terms.specs.Variables.{Occurs}
use Rattle.pi_constraints.specs.Value.{Bindings}
use Rattle.pi_constraints.specs.State.{WatchTree, LeadsTo, is_it, through}
use Rattle.pi_constraints.specs.declared.event.Event.{Event}
use Rattle.pi_constraints.specs.declared.event.Activation.{Activation}
use Rattle.pi_constraints.proofs.ValueLemmas.{Ranked, ranked}
use Rattle.pi_settling.specs.Answers.{leads_on, leads_for, answer_to, activation_or, first_answered}
use Rattle.pi_settling.specs.SettlingLaws.{LeadsAreFollowed, ByFirst, AgentsAreWokenOnce}

-- ---- terms that lead to a variable

on_leads : (b : Bindings) (k n m : ℕ) (o : Option Tree) → held b m ≡ o → ((u : Tree) → IsTrue (leads_for k b n u) → LeadsTo b u n) → IsTrue (leads_on (leads_for k b n) o) → LeadsTo b (var m) n
on_leads b k n m None is later h = absurd (cc)
on_leads b k n m (Some u) is later h = through m u is (later u h)

same_leads : (b : Bindings) (m n : ℕ) → IsTrue (m == n) → LeadsTo b (var m) n
same_leads b m n h = let same : m ≡ n = eqb-true m n h in subst (λ (j : ℕ). LeadsTo b (var j) n) (sym same) (is_it n)

leads-from : (k : ℕ) (b : Bindings) (n : ℕ) (t : Tree) → IsTrue (leads_for k b n t) → LeadsTo b t n
unfolding leads_for
leads-from zero b n (var m) h = same_leads b m n h
leads-from (suc k) b n (var m) h = elim (or_cases (m == n) (leads_on (leads_for k b n) (held b m)) h) [
  | inl e ↦ same_leads b m n e
  | inr later ↦ on_leads b k n m (held b m) refl (leads-from k b n) later
]
leads-from zero b n (int i) h = absurd (cc)
leads-from (suc k) b n (int i) h = absurd (cc)
leads-from zero b n (atom name) h = absurd (cc)
leads-from (suc k) b n (atom name) h = absurd (cc)
leads-from zero b n (comp name ts) h = absurd (cc)
leads-from (suc k) b n (comp name ts) h = absurd (cc)

or_first : (p q : Bool) → IsTrue p → IsTrue (p || q)
or_first true q h = refl
or_first false q h = absurd (cc)

or_second : (p q : Bool) → IsTrue q → IsTrue (p || q)
or_second true q h = refl
or_second false q h = h

-- so many steps are enough for the variable at the root
abbrev Enough : (b : Bindings) → Ranked b → ℕ → Tree → Type 0
Enough b r k t = (m : ℕ) (u : Tree) → t ≡ var m → held b m ≡ Some u → r.rank m < k

itself-leads : (k : ℕ) (b : Bindings) (n : ℕ) → IsTrue (leads_for k b n (var n))
unfolding leads_for
itself-leads zero b n = eq-eqb n n refl
itself-leads (suc k) b n = or_first (n == n) (leads_on (leads_for k b n) (held b n)) (eq-eqb n n refl)

through-leads : (k : ℕ) (b : Bindings) (m n : ℕ) (u : Tree) → held b m ≡ Some u → IsTrue (leads_for k b n u) → IsTrue (leads_for (suc k) b n (var m))
unfolding leads_for
through-leads k b m n u is h = or_second (m == n) (leads_on (leads_for k b n) (held b m)) (subst (λ o. IsTrue (leads_on (leads_for k b n) o)) (sym is) h)

leads-along : (b : Bindings) (r : Ranked b) (k : ℕ) (t : Tree) (n : ℕ) → Enough b r k t → LeadsTo b t n → IsTrue (leads_for k b n t)
unfolding Occurs
leads-along b r k _ n enough (is_it _) = itself-leads k b n
leads-along b r zero _ n enough (through m u is h) = absurd (let less : r.rank m < zero = enough m u refl is in omega arith)
leads-along b r (suc k) _ n enough (through m u is h) =
    let here : r.rank m < suc k = enough m u refl is in
    through-leads k b m n u is (leads-along b r k u n (λ j w root bound.
    let falls : r.rank j < r.rank m = r.falls m j u w is (subst (Occurs j) (sym root) refl) bound in omega arith) h)

pub leads_are_followed : LeadsAreFollowed
leads_are_followed b t n a =
    let r : Ranked b = ranked b a in
    (leads-from (length b) b n t, leads-along b r (length b) t n (λ m u root bound. r.below m u bound))

-- ---- agents that are woken

abbrev Woken : Bindings → Event → ℕ → ℕ → List WatchTree → List Activation → Type 0
Woken b e agent i ws made =
    ((made ≡ []) × ((j : ℕ) (w : WatchTree) → slice_get ws j ≡ Some w → answer_to b e w ≡ None)) ⊎ ((a : Activation) × (made ≡ a ∷ []) × ByFirst b e agent i ws a)

none-before : (b : Bindings) (e : Event) (w : WatchTree) (ws : List WatchTree) → answer_to b e w ≡ None → ((j : ℕ) (v : WatchTree) → slice_get ws j ≡ Some v → answer_to b e v ≡ None) →
    (j : ℕ) (v : WatchTree) → slice_get (w ∷ ws) j ≡ Some v → answer_to b e v ≡ None
none-before b e w ws is none zero v at = let same : w ≡ v = cc in subst (λ x. answer_to b e x ≡ None) same is
none-before b e w ws is none (suc j) v at = none j v at

later-first : (b : Bindings) (e : Event) (agent i : ℕ) (w : WatchTree) (ws : List WatchTree) (a : Activation) → answer_to b e w ≡ None → ByFirst b e agent (suc i) ws a → ByFirst b e agent i (w ∷ ws) a
later-first b e agent i w ws a is h = record {
  place = suc h.place;
  pattern = h.pattern;
  there = h.there;
  answers = h.answers;
  before = before-later b e w ws h.place is h.before;
  numbers = (h.numbers.0, let n = h.numbers.1 in omega arith);
}
  where
    before-later : (b : Bindings) (e : Event) (w : WatchTree) (ws : List WatchTree) (k : ℕ) → answer_to b e w ≡ None → ((j : ℕ) (v : WatchTree) → j < k → slice_get ws j ≡ Some v → answer_to b e v ≡ None) →
        (j : ℕ) (v : WatchTree) → j < suc k → slice_get (w ∷ ws) j ≡ Some v → answer_to b e v ≡ None
    before-later b e w ws k is before zero v l at = let same : w ≡ v = cc in subst (λ x. answer_to b e x ≡ None) same is
    before-later b e w ws k is before (suc j) v l at = before j v (omega arith) at

woken-by : (b : Bindings) (e : Event) (agent i : ℕ) (w : WatchTree) (ws : List WatchTree) (made : List Activation) (o : Option (Option Tree)) → answer_to b e w ≡ o → Woken b e agent (suc i) ws made →
    Woken b e agent i (w ∷ ws) (activation_or agent i o made)
woken-by b e agent i w ws made None is (inl (none, all)) = inl (none, none-before b e w ws is all)
woken-by b e agent i w ws made None is (inr (a, one, first)) = inr (a, one, later-first b e agent i w ws a is first)
woken-by b e agent i w ws made (Some value) is rest =
    inr (record { agent = agent; watch = i; value = value }, refl, record { place = 0; pattern = w; there = refl; answers = is; before = λ j v l at. absurd (omega arith); numbers = (refl, omega arith) })

pub agents_are_woken_once : AgentsAreWokenOnce
unfolding first_answered
agents_are_woken_once b e agent i [] = inl (refl, λ j w at. absurd (cc))
agents_are_woken_once b e agent i (w ∷ ws) = woken-by b e agent i w ws (first_answered b e agent (suc i) ws) (answer_to b e w) refl (agents_are_woken_once b e agent (suc i) ws)
