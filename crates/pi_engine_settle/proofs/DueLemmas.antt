-- The constraints that are due after a goal are those that it posted, and those of a variable that changed.
use Rattle.std.specs.Prelude.{◌≡◌, ◌≢◌, ◌⊎◌, ◌↔◌, ℕ, zero, suc, ◌<◌, ◌≤◌, nat_le, ℤ, Bool, true, false, not, ◌&&◌, List, [], ◌∷◌, ◌++◌, length, Option, Some, None, slice_get, Contains, refl}
use Rattle.std.specs.List.{list_any}
use Rattle.std.specs.Ordering.{is_eq, int_cmp}
use Rattle.std.proofs.Common.{arith, sym, ◌∙◌, ap, subst, inl, inr}
use Rattle.std.proofs.lemmas.Bool.{cases_Bool}
use Rattle.std.proofs.lemmas.Bool.Decides.{nat_tests}
use Rattle.std.proofs.lemmas.List.Folds.{Any-from_list_any, list_any-from_Any}
use Rattle.std.proofs.lemmas.Option.{slice_get_within}
use Rattle.pi_terms.specs.Tree.{Tree, var, int, atom, comp}
use Rattle.pi_terms.specs.Places.{held}
use Rattle.pi_terms.specs.Substitution.{instance}
use Rattle.pi_constraints.specs.declared.constraint.Constraint.{Constraint}
use Rattle.pi_constraints.specs.declared.constraint.Item.{Item}
use Rattle.pi_constraints.specs.declared.domain.Span.{Span}
use Rattle.pi_constraints.specs.Value.{Bindings, IsAcyclic, value}
use Rattle.pi_constraints.specs.Constraint.{SpeaksOf}
use Rattle.pi_constraints.specs.State.{State, Variable, free, within, bound, binding, bindings, domain_in, domain_of, LeadsTo, is_it, through, IsState}
use Rattle.pi_constraints.specs.Store.{HasChanged}
use Rattle.pi_constraints.proofs.StateLemmas.{variable, held_is, domain_unbound}
use Rattle.pi_prop_spec.specs.Places.{places_of}
use Rattle.pi_settling.specs.Roots.{item_of, root_item, domain_or_all, given}
use Rattle.pi_settling.specs.Load.{same_domain, is_another, has_changed, is_due, count_due}
use Rattle.pi_settling.specs.Run.{ChangesNothing}
use Rattle.pi_settling.specs.Calm.{IsCalm}
use Rattle.pi_settling.proofs.RootLemmas.{Kept, root-by_value, value_later}
use Rattle.pi_settling.proofs.ChoiceLemmas.{allowed_is}
use Rattle.pi_settling.proofs.LoadLemmas.{same-itself}
use Rattle.pi_settling.proofs.UniqueLemmas.{domain_made}
use Rattle.pi_settling.proofs.TwiceLemmas.{within_of, less_or_not}
use Rattle.pi_settling.proofs.KeepLemmas.{MayCome}
use Rattle.pi_settling.proofs.RunLemmas.{contained}
use Rattle.pi_settling.proofs.WakeLemmas.{still-nothing}
use Rattle.pi_settling.proofs.CalmLemmas.{same_map_in}
use Rattle.pi_queue.proofs.WaitingLemmas.{Differ, none-differ}
use Rattle.pi_settling.proofs.SizeLemmas.{none-there}
use Rattle.pi_queue.proofs.PlaceLemmas.{leads-root, root-leads, speaks-place, place-speaks}
use Rattle.pi_meaning.specs.Shared.Follows.{Follows}
use Rattle.pi_engine_settle.specs.Due.{IsDueFor, IsOnChanged, IsFrom}
use Rattle.pi_engine_settle.proofs.MemberLemmas.{IsDueAt, count-is}

-- ---- domains and variables that are others

both-true : (b c : Bool) → (b && c) ≡ true → (b ≡ true) × (c ≡ true)
both-true true c e = (refl, e)
both-true false c e = absurd cc

same-spans : (s t : Span) (ss ts : List Span) → s.lo ≡ t.lo → s.hi ≡ t.hi → ss ≡ ts → s ∷ ss ≡ t ∷ ts
same-spans s t ss ts lo hi rest = ap (λ (xs : List Span). s ∷ xs) rest ∙ (ap (λ (l : ℤ). record { lo = l; hi = s.hi } ∷ ts) lo ∙ ap (λ (h : ℤ). record { lo = t.lo; hi = h } ∷ ts) hi)

same-is : (d e : List Span) → same_domain d e ≡ true → d ≡ e
unfolding same_domain
same-is [] [] h = refl
same-is [] (t ∷ ts) h = absurd cc
same-is (s ∷ ss) [] h = absurd cc
same-is (s ∷ ss) (t ∷ ts) h =
    let first = both-true (is_eq (int_cmp s.lo t.lo)) (is_eq (int_cmp s.hi t.hi) && same_domain ss ts) h in
    let second = both-true (is_eq (int_cmp s.hi t.hi)) (same_domain ss ts) first.1 in
    same-spans s t ss ts (sym (allowed_is s.lo t.lo first.0)) (sym (allowed_is s.hi t.hi second.0)) (same-is ss ts second.1)

-- what a variable is now that had this domain
abbrev Another : List Span → Variable → Type 0
Another d w = (binding w ≢ None) ⊎ (domain_in w ≢ Some d)

other-domain : (d e : List Span) (b : Bool) → same_domain d e ≡ b → not b ≡ true → domain_in (within e) ≢ Some d
other-domain d e true same is = absurd cc
other-domain d e false same is = λ equal.
    let one : d ≡ e = cc in
    let itself : same_domain d e ≡ true = subst (λ (f : List Span). same_domain d f ≡ true) one (same-itself d) in
    cc

another-tells : (d : List Span) (w : Variable) → is_another (within d) w ≡ true → Another d w
another-tells d free is = inr (λ equal. cc)
another-tells d (within e) is = inr (other-domain d e (same_domain d e) refl is)
another-tells d (bound t) is = inl (λ equal. cc)

not-same : (d e : List Span) → (domain_in (within e) ≢ Some d) → (b : Bool) → same_domain d e ≡ b → not b ≡ true
not-same d e other true same = absurd (other (ap Some (sym (same-is d e same))))
not-same d e other false same = refl

another-told : (d : List Span) (w : Variable) → Another d w → is_another (within d) w ≡ true
another-told d free other = refl
another-told d (within e) (inl other) = absurd (other refl)
another-told d (within e) (inr other) = not-same d e other (same_domain d e) refl
another-told d (bound t) other = refl

same-domain : (d e : List Span) (b : Bool) → same_domain d e ≡ b → not b ≡ false → within e ≡ within d
same-domain d e true same is = ap within (sym (same-is d e same))
same-domain d e false same is = absurd cc

not-another : (d : List Span) (w : Variable) → is_another (within d) w ≡ false → w ≡ within d
not-another d free is = absurd cc
not-another d (within e) is = same-domain d e (same_domain d e) refl is
not-another d (bound t) is = absurd cc

has-domain : (s : State) (n : ℕ) (d : List Span) → domain_of s n ≡ Some d → variable s n ≡ within d
has-domain s n d has = within_of (variable s n) d has

-- ---- bindings that stay

pub leads-later : (b c : Bindings) (t : Tree) (n : ℕ) → Kept b c → LeadsTo b t n → LeadsTo c t n
leads-later b c _ n keeps (is_it _) = is_it n
leads-later b c _ n keeps (through m u is h) = through m u (keeps m u is) (leads-later b c u n keeps h)

-- where a term led in the first bindings that leads to a variable in the second: to that variable, or to one that is bound now
record Led (b c : Bindings) (t : Tree) (n : ℕ) : Type 0 where
  at : ℕ
  leads : LeadsTo b t at
  unbound : held b at ≡ None
  now : (at ≡ n) ⊎ (held c at ≢ None)

led-itself : (b c : Bindings) (n : ℕ) → held b n ≡ None → Led b c (var n) n
led-itself b c n none = record { at = n; leads = is_it n; unbound = none; now = inl refl }

led-through : (b c : Bindings) (m n : ℕ) (u : Tree) → Kept b c → held c m ≡ Some u → Led b c u n → (o : Option Tree) → held b m ≡ o → Led b c (var m) n
led-through b c m n u keeps is l None none = record { at = m; leads = is_it m; unbound = none; now = inr (λ gone. cc) }
led-through b c m n u keeps is l (Some v) here =
    let later : held c m ≡ Some v = keeps m v here in
    let same : v ≡ u = cc in
    record { at = l.at; leads = through m u (here ∙ ap Some same) l.leads; unbound = l.unbound; now = l.now }

led : (b c : Bindings) (t : Tree) (n : ℕ) → Kept b c → held b n ≡ None → LeadsTo c t n → Led b c t n
led b c _ n keeps none (is_it _) = led-itself b c n none
led b c _ n keeps none (through m u is h) = led-through b c m n u keeps is (led b c u n keeps none h) (held b m) refl

integer-stays : (b c : Bindings) (k : ℕ) (i : ℤ) (w : Tree) → IsAcyclic c → Kept b c → value b (var k) ≡ w → item_of k w ≡ Item.Int i → value c (var k) ≡ int i
unfolding instance
integer-stays b c k i (var m) a keeps is e = absurd cc
integer-stays b c k i (int j) a keeps is e =
    let same : j ≡ i = cc in
    sym (value_later b c (var k) a keeps) ∙ (ap (instance (λ n. value c (var n))) is ∙ ap int same)
integer-stays b c k i (atom name) a keeps is e = absurd cc
integer-stays b c k i (comp name ts) a keeps is e = absurd cc

-- ---- an item of a posted constraint

variable-stays : (before s : State) (x : Item) (n : ℕ) (d : List Span) → IsState s → Kept (bindings before) (bindings s) → root_item before x ≡ Item.Var n → domain_of before n ≡ Some d → variable s n ≡ within d →
    root_item s x ≡ Item.Var n
variable-stays before s (Item.Var k) n d is keeps e has now =
    let none : held (bindings s) n ≡ None = held_is s n ∙ ap binding now in
    leads-root s k n is.acyclic none (leads-later (bindings before) (bindings s) (var k) n keeps (root-leads before k n (domain_unbound before n d has) e))
variable-stays before s (Item.Int i) n d is keeps e has now = absurd cc

integer-root : (before s : State) (x : Item) (i : ℤ) → IsState before → IsState s → Kept (bindings before) (bindings s) → root_item before x ≡ Item.Int i → root_item s x ≡ Item.Int i
integer-root before s (Item.Var k) i was is keeps e =
    root-by_value (bindings s) k is.acyclic
    ∙ ap (item_of k) (integer-stays (bindings before) (bindings s) k i (value (bindings before) (var k)) is.acyclic keeps refl (sym (root-by_value (bindings before) k was.acyclic) ∙ e))
integer-root before s (Item.Int j) i was is keeps e = e

-- an item that comes to what didn't change has the values that it had
item-same : (before s : State) (x : Item) → IsState before → IsState s → Kept (bindings before) (bindings s) → MayCome before (root_item before x) →
    has_changed before s (root_item before x) ≡ false → given s (root_item s x) ≡ given before (root_item before x)
item-same before s x was is keeps (inl (n, d, e, has)) quiet =
    let was-domain : variable before n ≡ within d = has-domain before n d has in
    let here : is_another (variable before n) (variable s n) ≡ false = subst (λ (y : Item). has_changed before s y ≡ false) e quiet in
    let now : variable s n ≡ within d = not-another d (variable s n) (subst (λ (v : Variable). is_another v (variable s n) ≡ false) was-domain here) in
    ap (given s) (variable-stays before s x n d is keeps e has now)
    ∙ (ap (λ (v : Variable). domain_or_all (domain_in v)) now ∙ (sym (ap domain_or_all has) ∙ sym (ap (given before) e)))
item-same before s x was is keeps (inr (i, e, b)) quiet = ap (given s) (integer-root before s x i was is keeps e) ∙ sym (ap (given before) e)

-- ---- constraints that were posted before

front-get : {X : Type 0} (xs ys : List X) (i : ℕ) (x : X) → i < length xs → slice_get (xs ++ ys) i ≡ Some x → slice_get xs i ≡ Some x
front-get [] ys i x l at = absurd (omega (arith, l))
front-get (y ∷ xs) ys zero x l at = at
front-get (y ∷ xs) ys (suc i) x l at = front-get xs ys i x (omega (arith, l)) at

was-posted : (before s : State) (i : ℕ) (c : Constraint) → Follows before s → i < length before.constraints → slice_get s.constraints i ≡ Some c → slice_get before.constraints i ≡ Some c
was-posted before s i c f l at = front-get before.constraints f.posted i c l (subst (λ (cs : List Constraint). slice_get cs i ≡ Some c) f.constraints at)

abbrev changed_in : State → State → Constraint → Bool
changed_in before s c = list_any (λ x. has_changed before s (root_item before x)) (places_of c)

any-there : {X : Type 0} (p : X → Bool) (xs : List X) (x : X) → Contains xs x → p x ≡ true → list_any p xs ≡ true
any-there p xs x (k, l, e) is = list_any-from_Any p xs (k, x, l, e, is)

-- where none of its variables changed its filter changes nothing
quiet-places : (before s : State) (i : ℕ) (c : Constraint) → IsCalm before → Follows before s → IsState s → slice_get before.constraints i ≡ Some c → changed_in before s c ≡ false → ChangesNothing s c
quiet-places before s i c calm f is at quiet =
    still-nothing before s c (same_map_in (λ x. given s (root_item s x)) (λ x. given before (root_item before x)) (places_of c) (λ x there.
    item-same before s x calm.state is f.bound (calm.settles c x (contained before.constraints i c at) there) (elim (cases_Bool (has_changed before s (root_item before x))) [
      | inl hit ↦ absurd (let some : changed_in before s c ≡ true = any-there (λ y. has_changed before s (root_item before y)) (places_of c) x there hit in cc)
      | inr miss ↦ miss
    ]))) (calm.unchanged i c at)

-- ---- the constraints of a variable that changed

-- a place that comes to a variable with a domain that changed
on-variable : (before s : State) (i : ℕ) (c : Constraint) (x : Item) (n : ℕ) (d : List Span) → Follows before s → slice_get s.constraints i ≡ Some c → Contains (places_of c) x → root_item before x ≡ Item.Var n → domain_of before n ≡ Some d →
    is_another (variable before n) (variable s n) ≡ true → IsOnChanged before s i
on-variable before s i c (Item.Int j) n d f at there e has other = absurd cc
on-variable before s i c (Item.Var k) n d f at there e has other =
    let was : variable before n ≡ within d = has-domain before n d has in
    let none : held (bindings before) n ≡ None = domain_unbound before n d has in
    let now : Another d (variable s n) = another-tells d (variable s n) (subst (λ (v : Variable). is_another v (variable s n) ≡ true) was other) in (
      n,
      (
        (domain_made before n d has, none),
        elim now [
          | inl bound-now ↦ inl (λ gone. bound-now (sym (held_is s n) ∙ gone))
          | inr domain-now ↦ inr (λ same. domain-now (same ∙ has))
        ],
      ),
      (c, k, at, place-speaks c k there, leads-later (bindings before) (bindings s) (var k) n f.bound (root-leads before k n none e)),
    )

on-place : (before s : State) (i : ℕ) (c : Constraint) (x : Item) → Follows before s → slice_get s.constraints i ≡ Some c → Contains (places_of c) x → MayCome before (root_item before x) →
    has_changed before s (root_item before x) ≡ true → IsOnChanged before s i
on-place before s i c x f at there (inl (n, d, e, has)) changed =
    on-variable before s i c x n d f at there e has (subst (λ (y : Item). has_changed before s y ≡ true) e changed)
on-place before s i c x f at there (inr (j, e, b)) changed = absurd (let same : has_changed before s (Item.Int j) ≡ true = subst (λ (y : Item). has_changed before s y ≡ true) e changed in cc)

old-told : (before s : State) (i : ℕ) (c : Constraint) → IsCalm before → Follows before s → i < length before.constraints → slice_get s.constraints i ≡ Some c → changed_in before s c ≡ true → IsOnChanged before s i
old-told before s i c calm f l at changed =
    let (k, x, inside, e, is) = Any-from_list_any (λ y. has_changed before s (root_item before y)) (places_of c) changed in
    on-place before s i c x f at (k, inside, e) (calm.settles c x (contained before.constraints i c (was-posted before s i c f l at)) (k, inside, e)) is

led-changed : (before s : State) (n : ℕ) (t : Tree) (l : Led (bindings before) (bindings s) t n) (d : List Span) → HasChanged before s n → domain_of before l.at ≡ Some d → Another d (variable s l.at)
led-changed before s n t l d changed has = elim l.now [
  | inl same ↦ elim changed.1 [
    | inl bound-now ↦ inl (λ gone. bound-now (subst (λ (m : ℕ). held (bindings s) m ≡ None) same (held_is s l.at ∙ gone)))
    | inr domain-now ↦ inr (λ equal. domain-now (subst (λ (m : ℕ). domain_of s m ≡ domain_of before m) same (equal ∙ sym has)))
  ]
  | inr bound-now ↦ inl (λ gone. bound-now (held_is s l.at ∙ gone))
]

led-place : (before s : State) (k n : ℕ) (l : Led (bindings before) (bindings s) (var k) n) → IsState before → HasChanged before s n → MayCome before (Item.Var l.at) → has_changed before s (root_item before (Item.Var k)) ≡ true
led-place before s k n l was changed (inl (m, d, e, has)) =
    let same : m ≡ l.at = cc in
    let here : domain_of before l.at ≡ Some d = subst (λ (j : ℕ). domain_of before j ≡ Some d) same has in
    let other : is_another (variable before l.at) (variable s l.at) ≡ true =
    subst (λ (v : Variable). is_another v (variable s l.at) ≡ true) (sym (has-domain before l.at d here)) (another-told d (variable s l.at) (led-changed before s n (var k) l d changed here)) in
    subst (λ (y : Item). has_changed before s y ≡ true) (sym (leads-root before k l.at was.acyclic l.unbound l.leads)) other
led-place before s k n l was changed (inr (i, e, b)) = absurd cc

old-changed : (before s : State) (i : ℕ) (c : Constraint) (n k : ℕ) → IsCalm before → Follows before s → i < length before.constraints → slice_get s.constraints i ≡ Some c → HasChanged before s n → SpeaksOf c k →
    LeadsTo (bindings s) (var k) n → changed_in before s c ≡ true
old-changed before s i c n k calm f less at changed speaks leads =
    let l : Led (bindings before) (bindings s) (var k) n = led (bindings before) (bindings s) (var k) n f.bound changed.0.1 leads in
    let there : Contains (places_of c) (Item.Var k) = speaks-place c k speaks in
    let come : MayCome before (root_item before (Item.Var k)) = calm.settles c (Item.Var k) (contained before.constraints i c (was-posted before s i c f less at)) there in
    any-there (λ x. has_changed before s (root_item before x)) (places_of c) (Item.Var k) there
    (led-place before s k n l calm.state changed (subst (MayCome before) (leads-root before k l.at calm.state.acyclic l.unbound l.leads) come))

-- ---- all that are due

-- it was posted after the goal began
abbrev IsNew : State → State → ℕ → Type 0
IsNew before s i = IsFrom (length before.constraints) (length s.constraints) i

at-most : (m n : ℕ) → m ≤ n → nat_le m n ≡ true
at-most m n l = grind (arith, nat_tests)

above : (m n : ℕ) → n < m → nat_le m n ≡ false
above m n l = grind (arith, nat_tests)

due-new : (before s : State) (i : ℕ) (c : Constraint) → length before.constraints ≤ i → is_due before s i c ≡ true
due-new before s i c l = rw (at-most (length before.constraints) i l) refl

due-old : (before s : State) (i : ℕ) (c : Constraint) → i < length before.constraints → is_due before s i c ≡ changed_in before s c
due-old before s i c l = rw (above (length before.constraints) i l) refl

number-there : {X : Type 0} (xs : List X) (i : ℕ) → i < length xs → (x : X) × (slice_get xs i ≡ Some x)
number-there [] i l = absurd (omega (arith, l))
number-there (x ∷ xs) zero l = (x, refl)
number-there (x ∷ xs) (suc i) l = number-there xs i (omega (arith, l))

at-number : (before s : State) (i : ℕ) (c : Constraint) → slice_get s.constraints i ≡ Some c → is_due before s i c ≡ true → IsDueAt before s 0 s.constraints i
at-number before s i c at is = record { place = i; constraint = c; there = at; number = omega arith; is = is }

pub new-due : (before s : State) (i : ℕ) → IsNew before s i → IsDueAt before s 0 s.constraints i
new-due before s i new =
    let (c, at) = number-there s.constraints i new.1 in
    at-number before s i c at (due-new before s i c new.0)

pub old-due : (before s : State) (i : ℕ) → IsCalm before → Follows before s → IsOnChanged before s i → IsDueAt before s 0 s.constraints i
old-due before s i calm f (n, changed, (c, k, at, speaks, leads)) = at-number before s i c at (elim (less_or_not i (length before.constraints)) [
  | inl less ↦ due-old before s i c less ∙ old-changed before s i c n k calm f less at changed speaks leads
  | inr new ↦ due-new before s i c new
])

due-either : (before s : State) (i : ℕ) → IsCalm before → Follows before s → IsDueAt before s 0 s.constraints i → IsOnChanged before s i ⊎ IsNew before s i
due-either before s i calm f at =
    let same : i ≡ at.place = omega (arith, at.number) in
    let there : slice_get s.constraints i ≡ Some at.constraint = subst (λ (k : ℕ). slice_get s.constraints k ≡ Some at.constraint) (sym same) at.there in
    elim (less_or_not i (length before.constraints)) [
      | inl less ↦ inl (old-told before s i at.constraint calm f less there (sym (due-old before s i at.constraint less) ∙ at.is))
      | inr new ↦ inr (new, slice_get_within s.constraints i at.constraint there)
    ]

not-due : (before s : State) (i : ℕ) (c : Constraint) → IsCalm before → Follows before s → IsState s → slice_get s.constraints i ≡ Some c → (IsDueAt before s 0 s.constraints i → ⊥) → ChangesNothing s c
not-due before s i c calm f is at none = elim (less_or_not i (length before.constraints)) [
  | inl less ↦ elim (cases_Bool (changed_in before s c)) [
    | inl hit ↦ absurd (none (at-number before s i c at (due-old before s i c less ∙ hit)))
    | inr miss ↦ quiet-places before s i c calm f is (was-posted before s i c f less at) miss
  ]
  | inr new ↦ absurd (none (at-number before s i c at (due-new before s i c new)))
]

pub due-for : (before s : State) (due : List ℕ) → IsCalm before → Follows before s → IsState s → Differ due → ((i : ℕ) → Contains due i ↔ (IsOnChanged before s i ⊎ IsNew before s i)) → IsDueFor before s due
due-for before s due calm f is different has =
    let to : (i : ℕ) → Contains due i → IsDueAt before s 0 s.constraints i = λ i h. elim ((has i).0 h) [ inl old ↦ old-due before s i calm f old | inr new ↦ new-due before s i new ] in
    let from : (i : ℕ) → IsDueAt before s 0 s.constraints i → Contains due i = λ i h. (has i).1 (due-either before s i calm f h) in
    record {
      different = different;
      posted = λ i h. let at : IsDueAt before s 0 s.constraints i = to i h in let l : at.place < length s.constraints = slice_get_within s.constraints at.place at.constraint at.there in omega (arith, l, at.number);
      others = λ i c at none. not-due before s i c calm f is at (λ h. none (from i h));
      count = count-is before s due different (λ i. (to i, from i));
    }

-- none is due where none was posted
pub due-none : (before s : State) → s.constraints ≡ [] → IsDueFor before s []
unfolding count_due
due-none before s none = record {
  different = none-differ;
  posted = λ i h. absurd (none-there i h);
  others = λ i c at missing. absurd (let gone : slice_get [] i ≡ Some c = subst (λ (cs : List Constraint). slice_get cs i ≡ Some c) none at in cc);
  count = sym (ap (count_due before s 0) none);
}
