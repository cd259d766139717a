-- What a goal posts in a state: constraints over the variables of its term and new ones.
use Rattle.std.specs.Prelude.{◌≡◌, ℕ, zero, suc, ◌+◌, ◌<◌, ◌≤◌, List, [], ◌∷◌, ◌++◌, length, map, Option, Some, None, unwrap_or, Contains, Ok, refl}
use Rattle.std.proofs.Common.{arith, sym, ◌∙◌, ap, subst, inl, inr, append_assoc, append-nil}
use Rattle.std.proofs.lemmas.List.Elements.{Contains-append_right}
use Rattle.pi_terms.specs.Tree.{Tree, var}
use Rattle.pi_terms.specs.Places.{held}
use Rattle.pi_terms.specs.Variables.{Occurs}
use Rattle.pi_constraints.specs.declared.constraint.Constraint.{Constraint}
use Rattle.pi_constraints.specs.declared.constraint.Item.{Item}
use Rattle.pi_constraints.specs.Value.{Bindings, replaced_once, rounds, value}
use Rattle.pi_constraints.specs.State.{State, binding, bindings, next, with_constraint, SpeaksBelow, IsState}
use Rattle.pi_constraints.specs.Evaluation.{with_new_variables}
use Rattle.pi_constraints.proofs.KeepsLemmas.{news-next}
use Rattle.pi_constraints.proofs.StateLemmas.{held_is, bound_below}
use Rattle.pi_constraints.proofs.ValueLemmas.{occurs_in_instance, value_has_none_bound}
use Rattle.pi_prop_spec.specs.Places.{places_of}
use Rattle.pi_prop_spec.specs.Terms.{goal_of}
use Rattle.pi_prop_spec.specs.Postings.{Posting, nothing_made, posting_in}
use Rattle.pi_settling.specs.Roots.{root_item}
use Rattle.pi_settling.specs.SettlingLaws.{MaySettle}
use Rattle.pi_settling.specs.Confined.{confined_at, confined}
use Rattle.pi_settling.specs.Posted.{with_constraints, places_of_all, posted_in, effect_of_posting}
use Rattle.pi_settling.specs.CalmLaws.{MaySettleAfter}
use Rattle.pi_settling.proofs.TwiceLemmas.{past_free, unbound-root}
use Rattle.pi_settling.proofs.UniqueLemmas.{domain_made}
use Rattle.pi_settling.proofs.ConfinedLemmas.{one-next, root-same, confining_binds_nothing}
use Rattle.pi_settling.proofs.CalmItems.{news-like}
use Rattle.pi_settling.proofs.CalmFollowed.{news-held, with-variables}
use Rattle.pi_settling.proofs.CalmLemmas.{without_constraints_is_calm, calm_is_stable}
use Rattle.pi_settling.proofs.CalmPosted.{posted_may_settle}
use Rattle.pi_settling.proofs.CalmReads.{ItemOnly, PlacesOnly, Each, AllOnly}
use Rattle.pi_settling.proofs.CalmTerms.{goal-reads}
use Rattle.pi_label_laws.specs.LabelledLaws.{AreAmong, WithoutConstraintsMayBeLabelled, PostingsMayBeLabelled}
use Rattle.pi_label_laws.proofs.GivesLemmas.{confined-constraints}
use Rattle.pi_label_laws.proofs.LabelledLemmas.{PostsNew, same-number, posts-new-labelled}
use Rattle.pi_label_laws.proofs.NewGoals.{WasRead, was-read, new_variables_are_made}

-- ---- the values of terms

once-below : (b : Bindings) (n j m : ℕ) (o : Option Tree) → ((k : ℕ) (u : Tree) → held b k ≡ Some u → SpeaksBelow n u) → held b j ≡ o → j < n → Occurs m (unwrap_or o (var j)) → m < n
unfolding Occurs
once-below b n j m None all at less occurs = subst (λ (k : ℕ). k < n) occurs less
once-below b n j m (Some u) all at less occurs = all j u at m occurs

rounds-below : (k : ℕ) (b : Bindings) (n : ℕ) (t : Tree) → ((m : ℕ) (u : Tree) → held b m ≡ Some u → SpeaksBelow n u) → SpeaksBelow n t → SpeaksBelow n (rounds k b t)
unfolding rounds
rounds-below zero b n t all below = below
rounds-below (suc k) b n t all below =
    rounds-below k b n (replaced_once b t) all
    (λ m occurs. let from = occurs_in_instance (λ j. unwrap_or (held b j) (var j)) t m occurs in once-below b n from.0 m (held b from.0) all refl (below from.0 from.1) from.2)

pub value-below : (s : State) (t : Tree) → IsState s → SpeaksBelow (next s) t → SpeaksBelow (next s) (value (bindings s) t)
unfolding value
value-below s t is below = rounds-below (length (bindings s)) (bindings s) (next s) t (λ m u held. bound_below s m u is held) below

-- ---- the state that a posting leaves

with-list : (cs : List Constraint) (q : State) → (with_constraints cs q).constraints ≡ q.constraints ++ cs
unfolding with_constraints
with-list [] q = sym (append-nil q.constraints)
with-list (c ∷ cs) q = with-list cs (with_constraint q c) ∙ append_assoc q.constraints (c ∷ []) cs

confined-next : (xs : List Item) (s : State) → next (confined s xs) ≡ next s
unfolding confined
confined-next [] s = refl
confined-next (x ∷ xs) s = confined-next xs (confined_at s (root_item s x)) ∙ one-next s (root_item s x)

pub posted-next : (s : State) (p : Posting) → next (posted_in s p) ≡ next s + p.fresh
posted-next s p =
    let q : State = with_new_variables p.fresh s in
    confined-next (places_of_all p.list) (with_constraints p.list q) ∙ (ap (λ vs. length vs) (with-variables p.list q) ∙ news-next p.fresh s)

pub posted-roots : (s : State) (p : Posting) → IsState s → (y : Item) → root_item (posted_in s p) y ≡ root_item s y
posted-roots s p is y =
    let q : State = with_new_variables p.fresh s in
    let c : State = with_constraints p.list q in
    root-same c (confined c (places_of_all p.list)) (confining_binds_nothing c (places_of_all p.list)) y
    ∙ (root-same q c (ap (map binding) (with-variables p.list q)) y ∙ (news-like p.fresh s is).roots y)

pub posted-constraints : (s : State) (p : Posting) → IsState s → (posted_in s p).constraints ≡ s.constraints ++ p.list
posted-constraints s p is =
    let q : State = with_new_variables p.fresh s in
    confined-constraints (places_of_all p.list) (with_constraints p.list q) ∙ (with-list p.list q ∙ ap (λ (cs : List Constraint). cs ++ p.list) (news-like p.fresh s is).constraints)

pub posted-held : (s : State) (p : Posting) (n : ℕ) → held (bindings (posted_in s p)) n ≡ held (bindings s) n
posted-held s p n =
    let q : State = with_new_variables p.fresh s in
    let c : State = with_constraints p.list q in
    ap (λ (b : Bindings). held b n) (confining_binds_nothing c (places_of_all p.list)) ∙ (ap (λ vs. held (map binding vs) n) (with-variables p.list q) ∙ news-held p.fresh s n)

-- ---- the variables of what is posted

each-at : (P : Item → Type 0) (xs : List Item) (x : Item) → Each P xs → Contains xs x → P x
unfolding Each
each-at P [] x h (k, l, e) = absurd (omega arith)
each-at P (y ∷ xs) x h (zero, l, e) = subst P e h.0
each-at P (y ∷ xs) x h (suc k, l, e) = each-at P xs x h.1 (k, omega arith, e)

pub only-at : (Q : ℕ → Type 0) (cs : List Constraint) (c : Constraint) (w : ℕ) → AllOnly Q cs → Contains cs c → Contains (places_of c) (Item.Var w) → Q w
unfolding AllOnly
only-at Q [] c w h (k, l, e) place = absurd (omega arith)
only-at Q (d ∷ cs) c w h (zero, l, e) place = each-at (ItemOnly Q) (places_of c) (Item.Var w) (subst (PlacesOnly Q) e h.0) place
only-at Q (d ∷ cs) c w h (suc k, l, e) place = only-at Q cs c w h.1 (k, omega arith, e) place

-- an unbound variable, which stands in the term where it was made before
abbrev pub IsOf : State → Tree → ℕ → Type 0
IsOf s t w = (held (bindings s) w ≡ None) × (w < next s → Occurs w t)

pub past-of : (s : State) (t : Tree) (w : ℕ) → next s ≤ w → IsOf s t w
past-of s t w past = (held_is s w ∙ ap binding (past_free s w past), λ l. absurd (omega (arith, l, past)))

pub value-of : (s : State) (t : Tree) → IsState s → (w : ℕ) → Occurs w (value (bindings s) t) → IsOf s (value (bindings s) t) w
value-of s t is w o = (value_has_none_bound (bindings s) t w is.acyclic o, λ l. o)

goal-of : (s : State) (t : Tree) (p : Posting) → IsState s → posting_in s t ≡ Ok p → AllOnly (IsOf s (value (bindings s) t)) p.list
unfolding AllOnly
goal-of s t p is e =
    let u : Tree = value (bindings s) t in
    let w : WasRead (next s) (goal_of u) p = was-read (next s) (goal_of u) p e in
    subst (λ (q : Posting). AllOnly (IsOf s u) q.list) w.same ((goal-reads (IsOf s u) u (value-of s t is)).each (nothing_made (next s)) w.known (tt, past-of s u) w.read).0.0

-- a variable of what is posted is made there
pub posted-made : (s : State) (p : Posting) (c : Constraint) (w : ℕ) → IsState s → MaySettleAfter s (posted_in s p) → held (bindings s) w ≡ None → Contains p.list c → Contains (places_of c) (Item.Var w) → w < next s + p.fresh
posted-made s p c w is after none at place =
    let q : State = posted_in s p in
    let itself : root_item q (Item.Var w) ≡ Item.Var w = posted-roots s p is (Item.Var w) ∙ unbound-root s w (sym (held_is s w) ∙ none) in
    let posted : Contains q.constraints c = subst (λ (cs : List Constraint). Contains cs c) (sym (posted-constraints s p is)) (Contains-append_right s.constraints p.list c at) in
    elim (after.settles c (Item.Var w) posted place) [
      | inl (v, d, e, has) ↦ let same : w ≡ v = same-number w v (sym itself ∙ e) in let made : v < next q = domain_made q v d has in omega (arith, posted-next s p, same, made)
      | inr (i, e, b) ↦ absurd cc
    ]

-- ---- goals

pub goal-posts : (s : State) (items : List Item) (t : Tree) (p : Posting) → IsState s → MaySettle s → SpeaksBelow (next s) t → AreAmong s items t → posting_in s t ≡ Ok p → PostsNew s (posted_in s p) items p.list
goal-posts s items t p is may below among e =
    let after : MaySettleAfter s (posted_in s p) = posted_may_settle s (posted_in s p) t is may below (ap (effect_of_posting s) e) in
    let all : AllOnly (IsOf s (value (bindings s) t)) p.list = goal-of s t p is e in
    record {
      after = after;
      roots = posted-roots s p is;
      constraints = posted-constraints s p is;
      free = λ c w at place. (only-at (IsOf s (value (bindings s) t)) p.list c w all at place).0;
      old = λ c w at place l. among w ((only-at (IsOf s (value (bindings s) t)) p.list c w all at place).1 l);
      made = λ c w at place new. new_variables_are_made (next s) (value (bindings s) t) p (value-below s t is below) e w new (posted-made s p c w is after ((only-at (IsOf s (value (bindings s) t)) p.list c w all at place).0) at place);
    }

pub postings_may_be_labelled : PostingsMayBeLabelled
postings_may_be_labelled s r items t p m below among e f = posts-new-labelled s (posted_in s p) r items p.list m (goal-posts s items t p m.state m.settles below among e) f

pub without_constraints_may_be_labelled : WithoutConstraintsMayBeLabelled
without_constraints_may_be_labelled s items is none agents waiting =
    let empty : (c : Constraint) → Contains s.constraints c → ⊥ = λ c at. no-place c (subst (λ (cs : List Constraint). Contains cs c) none at) in
    record {
      state = is;
      settles = λ c y posted at. absurd (empty c posted);
      stable = calm_is_stable s (without_constraints_is_calm s is none);
      agents = agents;
      waiting = waiting;
      rank = λ n. n;
      known = λ c y n posted at e. absurd (empty c posted);
    }
  where
    no-place : (c : Constraint) → Contains [] c → ⊥
    no-place c (k, l, e) = omega arith
