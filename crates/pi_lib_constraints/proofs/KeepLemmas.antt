-- What an item is left, and what items are left one after the other.
use Rattle.std.specs.Prelude.{◌≡◌, ℕ, zero, suc, ◌<◌, ◌≤◌, ◌+◌, ℤ, pos, Bool, true, false, IsTrue, List, [], ◌∷◌, length, drop, get_or, Option, Some, None, option_and_then, refl}
use Rattle.std.proofs.Common.{arith, sym, ◌∙◌, ap, subst}
use Rattle.pi_terms.specs.Tree.{Tree, var, int, atom, comp, args}
use Rattle.pi_terms.specs.Places.{held}
use Rattle.pi_terms.specs.Variables.{Occurs}
use Rattle.pi_constraints.specs.declared.constraint.Item.{Item}
use Rattle.pi_constraints.specs.declared.domain.Span.{Span}
use Rattle.pi_constraints.specs.declared.store.Ref.{Ref}
use Rattle.pi_constraints.specs.declared.store.Cell.{Cell}
use Rattle.pi_constraints.specs.Domain.{IsDomain, has_value, values_of, size_of, common}
use Rattle.pi_constraints.specs.State.{State, IsState, within, bound, bindings, next, domain_of, domain_at_root, followed, with_binding, with_domain, SpeaksBelow}
use Rattle.pi_constraints.specs.Store.{StoreView, IsTerm, Keeps, Binds, Confines, Gives, ShowsCell}
use Rattle.pi_constraints.specs.Value.{Bindings, MayBind, value}
use Rattle.pi_constraints.proofs.CommonLemmas.{IsDomain-common, no_value, first_value, one_value, two_values}
use Rattle.pi_constraints.proofs.DomainLemmas.{not_both, values_are_within_bounds}
use Rattle.pi_constraints.proofs.FollowLemmas.{followed_itself, followed_unbound, followed_below, followed_other}
use Rattle.pi_constraints.proofs.RootLemmas.{value_int}
use Rattle.pi_constraints.proofs.StateLemmas.{as_many, bound_below, domain_good}
use Rattle.pi_settling.specs.Choices.{with_values, narrowed_to}
use Rattle.pi_settling.specs.Roots.{item_of, root_item, domain_or_all, given, all_values}
use Rattle.pi_settling.specs.Within.{unless_bound, kept_in, only_where, item_in, item_not_in, each_item}
use Rattle.pi_settling.specs.Values.{all_but}
use Rattle.pi_settling.proofs.TwiceLemmas.{all-domain}
use Rattle.pi_settling.proofs.CalmGoals.{left_with, fixed_to, fixed-keeps-state}
use Rattle.pi_lib_constraints.specs.Kept.{item_term, AreRefsOf, as_wanted, item_kept, IsLeft, LeadsToVariable}
use Rattle.pi_lib_constraints.proofs.GoalLemmas.{AllBelow}

-- ---- states stay states

values-keep : (s : State) (n : ℕ) (e : List Span) (vs : List ℤ) (m : State) → IsState s → held (bindings s) n ≡ None → IsDomain e → values_of e ≡ vs → with_values s n e vs ≡ Some m → IsState m
values-keep s n e [] m is none up at same = absurd cc
values-keep s n e (i ∷ []) m is none up at same =
    let here : with_binding s n (int i) ≡ m = cc in
    subst IsState here (fixed-keeps-state s n (bound (int i)) is none (fixed_to i (values_are_within_bounds e i up (first_value e i [] up at))))
values-keep s n e (i ∷ j ∷ rest) m is none up at same =
    let here : with_domain s n e ≡ m = cc in
    subst IsState here (fixed-keeps-state s n (within e) is none (left_with e up (two_values e i j rest at)))

given-domain : (s : State) (n : ℕ) (o : Option (List Span)) → IsState s → domain_of s n ≡ o → IsDomain (domain_or_all o)
given-domain s n None is has = all-domain
given-domain s n (Some d) is has = (domain_good s n d is has).0

kept-by : (d : List Span) (s : State) (n : ℕ) (m : State) (o : Option Tree) → IsDomain d → IsState s → held (bindings s) n ≡ o → unless_bound s o (narrowed_to s n (common (given s (Item.Var n)) d)) ≡ Some m → IsState m
kept-by d s n m None up is none same =
    let e : List Span = common (given s (Item.Var n)) d in
    values-keep s n e (values_of e) m is none (IsDomain-common (given s (Item.Var n)) d (given-domain s n (domain_of s n) is refl) up) refl same
kept-by d s n m (Some t) up is at same = let here : s ≡ m = cc in subst IsState here is

only-is : (b : Bool) (s m : State) → only_where b s ≡ Some m → s ≡ m
only-is true s m same = cc
only-is false s m same = absurd cc

item-state : (wanted : Bool) (d kept : List Span) (s : State) (x : Item) (m : State) → IsDomain kept → IsState s → item_kept wanted d kept s x ≡ Some m → IsState m
item-state wanted d kept s (Item.Var n) m up is same = kept-by kept s n m (held (bindings s) n) up is refl same
item-state wanted d kept s (Item.Int i) m up is same = subst IsState (only-is (as_wanted wanted (has_value d i)) s m same) is

-- ---- one after the other

abbrev pub Step : Type 0
Step = State → Item → Option State

same-then : (f g : State → Option State) → ((s : State) → f s ≡ g s) → (o : Option State) → option_and_then f o ≡ option_and_then g o
same-then f g same None = refl
same-then f g same (Some m) = same m

pub same-each : (f g : Step) → ((s : State) (x : Item) → f s x ≡ g s x) → (xs : List Item) (s : State) → each_item f xs s ≡ each_item g xs s
unfolding each_item
same-each f g same [] s = refl
same-each f g same (x ∷ xs) s = ap (option_and_then (each_item f xs)) (same s (root_item s x)) ∙ same-then (each_item f xs) (each_item g xs) (λ m. same-each f g same xs m) (g s (root_item s x))

within-same : (d : List Span) (s : State) (x : Item) → item_kept true d d s x ≡ item_in d s x
within-same d s (Item.Var n) = refl
within-same d s (Item.Int i) = refl

notin-same : (d : List Span) (s : State) (x : Item) → item_kept false d (all_but d) s x ≡ item_not_in d s x
notin-same d s (Item.Var n) = refl
notin-same d s (Item.Int i) = refl

pub within-each : (d : List Span) (xs : List Item) (s : State) → each_item (item_kept true d d) xs s ≡ each_item (item_in d) xs s
within-each d xs s = same-each (item_kept true d d) (item_in d) (within-same d) xs s

pub notin-each : (d : List Span) (xs : List Item) (s : State) → each_item (item_kept false d (all_but d)) xs s ≡ each_item (item_not_in d) xs s
notin-each d xs s = same-each (item_kept false d (all_but d)) (item_not_in d) (notin-same d) xs s

-- the item in a place
pub record ItemAt {M : Type 0} (v : StoreView M) (xs : List Item) (k : ℕ) (r : Ref) : Type 0 where
  pub it : Item
  pub is : IsTerm v r (item_term it)
  pub behind : drop k xs ≡ it ∷ drop (suc k) xs

pub item-at : {M : Type 0} (v : StoreView M) (rs : List Ref) (xs : List Item) (k : ℕ) (r : Ref) → AreRefsOf v rs xs → k < length rs → r ≡ get_or rs k r → ItemAt v xs k r
item-at v [] xs k r h low e = absurd (omega (arith, low))
item-at v (q ∷ rs) [] k r h low e = absurd h
item-at v (q ∷ rs) (x ∷ xs) zero r h low e = record { it = x; is = subst (λ (p : Ref). IsTerm v p (item_term x)) (sym e) h.0; behind = refl }
item-at v (q ∷ rs) (x ∷ xs) (suc k) r h low e =
    let rest : ItemAt v xs k r = item-at v rs xs k r h.1 (omega (arith, low)) e in
    record { it = rest.it; is = rest.is; behind = rest.behind }

pub none-behind : {M : Type 0} (v : StoreView M) (rs : List Ref) (xs : List Item) (k : ℕ) → AreRefsOf v rs xs → length rs ≤ k → drop k xs ≡ []
none-behind v [] [] zero h l = refl
none-behind v [] [] (suc k) h l = refl
none-behind v [] (x ∷ xs) k h l = absurd h
none-behind v (r ∷ rs) [] k h l = absurd h
none-behind v (r ∷ rs) (x ∷ xs) zero h l = absurd (omega (arith, l))
none-behind v (r ∷ rs) (x ∷ xs) (suc k) h l = none-behind v rs xs k h.1 (omega (arith, l))

-- the items from one on, in the state that those before it left
pub record SoFar (f : Step) (xs : List Item) (k : ℕ) (s r : State) : Type 0 where
  pub state : IsState r
  pub goes : each_item f xs s ≡ each_item f (drop k xs) r

pub so-none : (f : Step) (xs : List Item) (s : State) → IsState s → SoFar f xs 0 s s
so-none f [] s is = record { state = is; goes = refl }
so-none f (x ∷ xs) s is = record { state = is; goes = refl }

add-one : (k : ℕ) → suc k ≡ k + 1
add-one k = omega arith

each-more : (f : Step) (x : Item) (xs : List Item) (s : State) → each_item f (x ∷ xs) s ≡ option_and_then (each_item f xs) (f s (root_item s x))
unfolding each_item
each-more f x xs s = refl

each-none : (f : Step) (s : State) → each_item f [] s ≡ Some s
unfolding each_item
each-none f s = refl

pub so-more : {M : Type 0} (v : StoreView M) (wanted : Bool) (d kept : List Span) (xs : List Item) (k : ℕ) (r : Ref) (s t q : State) (some : Bool) → IsDomain kept → SoFar (item_kept wanted d kept) xs k s t → (at : ItemAt v xs k r) →
    IsLeft some q (item_kept wanted d kept t (root_item t at.it)) → some ≡ true → SoFar (item_kept wanted d kept) xs (k + 1) s q
so-more v wanted d kept xs k r s t q some up so at left holds =
    let f : Step = item_kept wanted d kept in
    let there : f t (root_item t at.it) ≡ Some q = subst (λ (b : Bool). IsLeft b q (f t (root_item t at.it))) holds left in
    record {
      state = item-state wanted d kept t (root_item t at.it) q up so.state there;
      goes =
          so.goes
          ∙ (ap (λ (ys : List Item). each_item f ys t) at.behind
          ∙ (each-more f at.it (drop (suc k) xs) t ∙ (ap (option_and_then (each_item f (drop (suc k) xs))) there ∙ ap (λ (j : ℕ). each_item f (drop j xs) q) (add-one k))));
    }

pub so-stops : {M : Type 0} (v : StoreView M) (wanted : Bool) (d kept : List Span) (xs : List Item) (k : ℕ) (r : Ref) (s t q : State) (some : Bool) → SoFar (item_kept wanted d kept) xs k s t → (at : ItemAt v xs k r) →
    IsLeft some q (item_kept wanted d kept t (root_item t at.it)) → some ≡ false → each_item (item_kept wanted d kept) xs s ≡ None
so-stops v wanted d kept xs k r s t q some so at left fails =
    let f : Step = item_kept wanted d kept in
    let there : f t (root_item t at.it) ≡ None = subst (λ (b : Bool). IsLeft b q (f t (root_item t at.it))) fails left in
    so.goes ∙ (ap (λ (ys : List Item). each_item f ys t) at.behind ∙ (each-more f at.it (drop (suc k) xs) t ∙ ap (option_and_then (each_item f (drop (suc k) xs))) there))

pub so-all : {M : Type 0} (v : StoreView M) (f : Step) (rs : List Ref) (xs : List Item) (k : ℕ) (s t : State) → AreRefsOf v rs xs → length rs ≤ k → SoFar f xs k s t → each_item f xs s ≡ Some t
so-all v f rs xs k s t are l so = so.goes ∙ (ap (λ (ys : List Item). each_item f ys t) (none-behind v rs xs k are l) ∙ each-none f t)

-- ---- one item, by what its Ref shows

abbrev int-of : Tree → ℤ
int-of (var n) = pos 0
int-of (int i) = i
int-of (atom name) = pos 0
int-of (comp name ts) = pos 0

root-int : (s : State) (x : Item) (i : ℤ) → followed (bindings s) (item_term x) ≡ int i → root_item s x ≡ Item.Int i
root-int s (Item.Var n) i e = ap (item_of n) e
root-int s (Item.Int j) i e = ap (λ (t : Tree). Item.Int (int-of t)) (sym (followed_other (bindings s) (int j) (λ m h. cc)) ∙ e)

pub root-var : (s : State) (x : Item) (n : ℕ) → followed (bindings s) (item_term x) ≡ var n → root_item s x ≡ Item.Var n
root-var s (Item.Var m) n e = ap (item_of m) e
root-var s (Item.Int j) n e = absurd (let same : int j ≡ var n = sym (followed_other (bindings s) (int j) (λ m h. cc)) ∙ e in cc)

only-left : (b some : Bool) (s : State) → some ≡ b → IsLeft some s (only_where b s)
only-left true some s e = subst (λ (c : Bool). IsLeft c s (Some s)) (sym e) refl
only-left false some s e = subst (λ (c : Bool). IsLeft c s None) (sym e) refl

pub integer-left : (wanted some has : Bool) (d kept : List Span) (s : State) (x : Item) (i j : ℤ) → followed (bindings s) (item_term x) ≡ int i → some ≡ as_wanted wanted has → has ≡ has_value d j → i ≡ j → IsLeft some s (item_kept wanted d kept s (root_item s x))
integer-left wanted some has d kept s x i j e told is same =
    subst (λ (y : Item). IsLeft some s (item_kept wanted d kept s y)) (sym (root-int s x i e))
    (only-left (as_wanted wanted (has_value d i)) some s (told ∙ (ap (as_wanted wanted) is ∙ ap (λ (k : ℤ). as_wanted wanted (has_value d k)) (sym same))))

pub leads : {M : Type 0} (v : StoreView M) (r : Ref) (x : Item) (n : ℕ) → IsTerm v r (item_term x) → followed (bindings v.now.state) (item_term x) ≡ var n → LeadsToVariable v r n
leads v r x n is e = record { term = item_term x; is = is; root = e }

pub variable-left : (wanted some : Bool) (d kept : List Span) (s q : State) (x : Item) (n : ℕ) → followed (bindings s) (item_term x) ≡ var n → IsLeft some q (kept_in kept s n) → IsLeft some q (item_kept wanted d kept s (root_item s x))
variable-left wanted some d kept s q x n e left = subst (λ (y : Item). IsLeft some q (item_kept wanted d kept s y)) (sym (root-var s x n e)) left

bound-by : (d : List Span) (s : State) (n : ℕ) (t : Tree) (o : Option Tree) → held (bindings s) n ≡ o → followed (bindings s) (var n) ≡ t → ((m : ℕ) → t ≡ var m → ⊥) → unless_bound s o (narrowed_to s n (common (given s (Item.Var n)) d)) ≡ Some s
bound-by d s n t None at e other = absurd (other n (sym e ∙ followed_itself (bindings s) n at))
bound-by d s n t (Some u) at e other = refl

-- a variable that leads to an atom or a compound stays as it is
other-left : (wanted : Bool) (d kept : List Span) (s : State) (x : Item) (t : Tree) → followed (bindings s) (item_term x) ≡ t → ((m : ℕ) → t ≡ var m → ⊥) → ((i : ℤ) → t ≡ int i → ⊥) → ((n : ℕ) → item_of n t ≡ Item.Var n) →
    item_kept wanted d kept s (root_item s x) ≡ Some s
other-left wanted d kept s (Item.Var n) t e var-not int-not own =
    ap (item_kept wanted d kept s) (ap (item_of n) e ∙ own n) ∙ bound-by kept s n t (held (bindings s) n) refl e var-not
other-left wanted d kept s (Item.Int j) t e var-not int-not own = absurd (int-not j (sym e ∙ followed_other (bindings s) (int j) (λ m h. cc)))

pub atom-left : {M : Type 0} (v : StoreView M) (wanted : Bool) (d kept : List Span) (s : State) (x : Item) (k : ℕ) → ShowsCell v (followed (bindings s) (item_term x)) (Cell.Atom k) → item_kept wanted d kept s (root_item s x) ≡ Some s
atom-left v wanted d kept s x k (name, is, e) = other-left wanted d kept s x (atom name) e (λ m h. cc) (λ i h. cc) (λ n. refl)

pub comp-left : {M : Type 0} (v : StoreView M) (wanted : Bool) (d kept : List Span) (s : State) (x : Item) (k count : ℕ) → ShowsCell v (followed (bindings s) (item_term x)) (Cell.Comp k count) → item_kept wanted d kept s (root_item s x) ≡ Some s
comp-left v wanted d kept s x k count (name, is, e, many) = other-left wanted d kept s x (comp name (args (followed (bindings s) (item_term x)))) e (λ m h. cc) (λ i h. cc) (λ n. refl)

-- ---- a variable that is left some values

pub unbound-at : {M : Type 0} (v : StoreView M) (r : Ref) (n : ℕ) → IsState v.now.state → LeadsToVariable v r n → held (bindings v.now.state) n ≡ None
unbound-at v r n is h = followed_unbound (bindings v.now.state) h.term n is.acyclic h.root

made-at : {M : Type 0} (v : StoreView M) (r : Ref) (n : ℕ) → IsState v.now.state → AllBelow v → LeadsToVariable v r n → n < next v.now.state
unfolding Occurs
made-at v r n is all h =
    let s : State = v.now.state in
    (subst (SpeaksBelow (next s)) h.root (followed_below (next s) (bindings s) h.term (λ k u held. bound_below s k u is held) (all r h.term h.is))) n refl

kept-is : (s : State) (n : ℕ) (kept left : List Span) → held (bindings s) n ≡ None → left ≡ common (given s (Item.Var n)) kept → kept_in kept s n ≡ with_values s n left (values_of left)
kept-is s n kept left none is =
    ap (λ (o : Option Tree). unless_bound s o (narrowed_to s n (common (given s (Item.Var n)) kept))) none ∙ ap (λ (e : List Span). with_values s n e (values_of e)) (sym is)

pub left-none : (s : State) (n : ℕ) (kept left : List Span) → held (bindings s) n ≡ None → left ≡ common (given s (Item.Var n)) kept → left ≡ [] → kept_in kept s n ≡ None
unfolding values_of
left-none s n kept left none is empty = kept-is s n kept left none is ∙ ap (λ (e : List Span). with_values s n left (values_of e)) empty

pub left-by : (s r : State) (n : ℕ) (left : List Span) (least : ℤ) (vs : List ℤ) → values_of left ≡ vs → IsDomain left → IsTrue (has_value left least) → (size_of left ≡ 1 → r ≡ with_binding s n (int least)) → (2 ≤ size_of left → r ≡ with_domain s n left) →
    with_values s n left vs ≡ Some r
left-by s r n left least [] at up has one more = absurd (not_both (has_value left least) has (no_value left least at))
left-by s r n left least (i ∷ []) at up has one more =
    let same : least ≡ i = one_value left i least up at (true-is (has_value left least) has) in
    ap (λ (j : ℤ). Some (with_binding s n (int j))) (sym same) ∙ ap Some (sym (one (ap length at)))
  where
    true-is : (b : Bool) → IsTrue b → b ≡ true
    true-is true h = refl
    true-is false h = absurd (not_both false h refl)
left-by s r n left least (i ∷ j ∷ rest) at up has one more = ap Some (sym (more (two_values left i j rest at)))

pub left-some : (s r : State) (n : ℕ) (kept left : List Span) (least : ℤ) → held (bindings s) n ≡ None → left ≡ common (given s (Item.Var n)) kept → IsDomain left → IsTrue (has_value left least) → (size_of left ≡ 1 → r ≡ with_binding s n (int least)) →
    (2 ≤ size_of left → r ≡ with_domain s n left) → kept_in kept s n ≡ Some r
left-some s r n kept left least none is up has one more = kept-is s n kept left none is ∙ left-by s r n left least (values_of left) refl up has one more

-- its bits
pub left-some-at : (s r : State) (n : ℕ) (kept left : List Span) (least j : ℤ) → held (bindings s) n ≡ None → left ≡ common (given s (Item.Var n)) kept → IsDomain left → IsTrue (has_value left least) → (size_of left ≡ 1 → r ≡ with_binding s n (int j)) →
    (2 ≤ size_of left → r ≡ with_domain s n left) → least ≡ j → kept_in kept s n ≡ Some r
left-some-at s r n kept left least j none is up has one more same =
    left-some s r n kept left least none is up has (subst (λ (i : ℤ). size_of left ≡ 1 → r ≡ with_binding s n (int i)) (sym same) one) more

-- what it had
pub had-some : (s : State) (n : ℕ) (t : Tree) (d : List Span) (found : Option (List Span)) → followed (bindings s) t ≡ var n → found ≡ domain_at_root s (followed (bindings s) t) → found ≡ Some d → d ≡ given s (Item.Var n)
had-some s n t d found e is at = ap domain_or_all (sym at ∙ (is ∙ ap (domain_at_root s) e))

pub had-none : (s : State) (n : ℕ) (t : Tree) (d : List Span) (found : Option (List Span)) → followed (bindings s) t ≡ var n → found ≡ domain_at_root s (followed (bindings s) t) → found ≡ None → d ≡ all_values → d ≡ given s (Item.Var n)
had-none s n t d found e is at all = all ∙ ap domain_or_all (sym at ∙ (is ∙ ap (domain_at_root s) e))

-- ---- what is written

no-variable-in : (b : Bindings) (i : ℤ) (n : ℕ) → Occurs n (value b (int i)) → ⊥
unfolding Occurs
no-variable-in b i n o = subst (Occurs n) (value_int b i) o

bound-at : {M : Type 0} (w z : StoreView M) (a r : Ref) (n : ℕ) (i : ℤ) → IsState w.now.state → n < next w.now.state → LeadsToVariable w a n → IsTerm w r (int i) → Binds w z a r → z.now.state ≡ with_binding w.now.state n (int i)
bound-at w z a r n i is made h value-at binds =
    let s : State = w.now.state in
    let none : held (bindings s) n ≡ None = unbound-at w a n is h in
    let may : MayBind (bindings s) n (int i) = record { acyclic = is.acyclic; made = subst (λ (k : ℕ). n < k) (sym (as_many s)) made; unbound = none; apart = no-variable-in (bindings s) i n } in
    (binds n h.term (int i) h.is value-at h.root may).state ∙ ap (with_binding s n) (followed_other (bindings s) (int i) (λ m e. cc))

leads-later : {M : Type 0} (v w : StoreView M) (a : Ref) (n : ℕ) → Keeps v w → w.now.state ≡ v.now.state → LeadsToVariable v a n → LeadsToVariable w a n
leads-later v w a n keeps same h = record { term = h.term; is = keeps.terms a h.term h.is; root = ap (λ (s : State). followed (bindings s) h.term) same ∙ h.root }

-- the integer was put before
pub fixed : {M : Type 0} (v w z : StoreView M) (a r : Ref) (n : ℕ) (i j : ℤ) → IsState v.now.state → AllBelow v → LeadsToVariable v a n → Gives v w v.now.state r (int i) → Binds w z a r → i ≡ j → z.now.state ≡ with_binding v.now.state n (int j)
fixed v w z a r n i j is all h gives binds same =
    let one : w.now.state ≡ v.now.state = gives.changes.state in
    let is' : IsState w.now.state = subst IsState (sym one) is in
    let made : n < next w.now.state = subst (λ (s : State). n < next s) (sym one) (made-at v a n is all h) in
    bound-at w z a r n i is' made (leads-later v w a n gives.changes.keeps one h) gives.term binds
    ∙ (ap (λ (s : State). with_binding s n (int i)) one ∙ ap (λ (k : ℤ). with_binding v.now.state n (int k)) same)

pub confined-at : {M : Type 0} (v z : StoreView M) (a : Ref) (n : ℕ) (e : List Span) → IsState v.now.state → AllBelow v → LeadsToVariable v a n → 2 ≤ size_of e → Confines v z a e → z.now.state ≡ with_domain v.now.state n e
confined-at v z a n e is all h two confines = (confines n h.term h.is is.acyclic h.root (made-at v a n is all h, unbound-at v a n is h) two).state
