-- What calls of a store say of a variable and of an integer.
use Rattle.std.specs.Prelude.{◌≡◌, ℕ, ◌<◌, ◌≤◌, ℤ, List, Option, Some, None, refl}
use Rattle.std.proofs.Common.{sym, ◌∙◌, ap, subst, inl, inr}
use Rattle.pi_terms.specs.Tree.{var, int, atom}
use Rattle.pi_terms.specs.Places.{held}
use Rattle.pi_terms.specs.Variables.{Occurs}
use Rattle.pi_constraints.specs.declared.constraint.Item.{Item}
use Rattle.pi_constraints.specs.declared.domain.Span.{Span}
use Rattle.pi_constraints.specs.Domain.{IsWithinBounds, size_of}
use Rattle.pi_constraints.specs.Value.{Bindings, value, MayBind}
use Rattle.pi_constraints.specs.State.{State, IsState, bindings, binding, next, domain_of, domain_at_root, followed, with_binding, with_domain}
use Rattle.pi_constraints.specs.Store.{StoreView, IsTerm, ShowsCell, Keeps, Gives, Binds, Confines}
use Rattle.pi_constraints.specs.declared.store.Ref.{Ref}
use Rattle.pi_constraints.specs.declared.store.Cell.{Cell}
use Rattle.pi_constraints.proofs.StateLemmas.{variable, as_many, domain_unbound}
use Rattle.pi_constraints.proofs.RootLemmas.{value_int}
use Rattle.pi_constraints.proofs.FollowLemmas.{followed_itself, followed_other}
use Rattle.pi_settling.specs.Roots.{item_of, root_item}
use Rattle.pi_settling.proofs.TwiceLemmas.{past_free, less_or_not, unbound-root}
use Rattle.pi_settling.proofs.UniqueLemmas.{domain_made}
use Rattle.pi_queue.specs.Reading.{IsRoot}
use Rattle.pi_queue.specs.Leaving.{IsLater}

-- ---- calls one after the other

pub keeps-itself : {M : Type 0} (v : StoreView M) → Keeps v v
keeps-itself v = record { good = λ m h. h; same = λ m h. refl; beside = λ m. refl; terms = λ r t h. h; names = λ k name h. h }

pub keeps-then : {M : Type 0} (u v w : StoreView M) → Keeps u v → Keeps v w → Keeps u w
keeps-then u v w f g = record {
  good = λ m h. g.good m (f.good m h);
  same = λ m h. g.same m (f.good m h) ∙ f.same m h;
  beside = λ m. g.beside m ∙ f.beside m;
  terms = λ r t h. g.terms r t (f.terms r t h);
  names = λ k name h. g.names k name (f.names k name h);
}

-- ---- a variable that comes to something was made

root-made : (s : State) (n : ℕ) → next s ≤ n → IsRoot s (root_item s (Item.Var n)) → n < next s
root-made s n past is =
    let none : binding (variable s n) ≡ None = ap binding (past_free s n past) in
    let had = subst (IsRoot s) (unbound-root s n none) is in
    domain_made s n had.0 had.1

pub made-root : (s : State) (n : ℕ) → IsRoot s (root_item s (Item.Var n)) → n < next s
made-root s n is = elim (less_or_not n (next s)) [ inl l ↦ l | inr past ↦ root-made s n past is ]

later-of : (s : State) (n : ℕ) → next s ≤ n → IsLater s (Item.Var n) → n < next s
later-of s n past (inl (d, has)) = domain_made s n d has
later-of s n past (inr (i, is)) = absurd (let none : binding (variable s n) ≡ None = ap binding (past_free s n past) in let own : root_item s (Item.Var n) ≡ Item.Var n = unbound-root s n none in let both : Item.Var n ≡ Item.Int i = sym own ∙ is in cc)

pub later-made : (s : State) (n : ℕ) → IsLater s (Item.Var n) → n < next s
later-made s n later = elim (less_or_not n (next s)) [ inl l ↦ l | inr past ↦ later-of s n past later ]

-- ---- what a variable is at its root

pub shown-variable : (s : State) (n m : ℕ) → followed (bindings s) (var n) ≡ var m → root_item s (Item.Var n) ≡ Item.Var m
shown-variable s n m e = ap (item_of n) e

pub shown-integer : (s : State) (n : ℕ) (i : ℤ) → followed (bindings s) (var n) ≡ int i → root_item s (Item.Var n) ≡ Item.Int i
shown-integer s n i e = ap (item_of n) e

pub shown-atom : (s : State) (n : ℕ) (name : List ℕ) → followed (bindings s) (var n) ≡ atom name → root_item s (Item.Var n) ≡ Item.Var n
shown-atom s n name e = ap (item_of n) e

pub shown-compound : {M : Type 0} (v : StoreView M) (s : State) (n k count : ℕ) → ShowsCell v (followed (bindings s) (var n)) (Cell.Comp k count) → root_item s (Item.Var n) ≡ Item.Var n
shown-compound v s n k count h = ap (item_of n) h.2

pub shown-name : {M : Type 0} (v : StoreView M) (s : State) (n k : ℕ) → ShowsCell v (followed (bindings s) (var n)) (Cell.Atom k) → root_item s (Item.Var n) ≡ Item.Var n
shown-name v s n k h = ap (item_of n) h.2

pub shown-bounded : (s : State) (n : ℕ) (i j : ℤ) (x : Item) → followed (bindings s) (var n) ≡ int i → IsRoot s (root_item s (Item.Var n)) → (IsWithinBounds j → x ≡ Item.Int j) → i ≡ j → x ≡ root_item s (Item.Var n)
shown-bounded s n i j x shows is made same =
    let e : root_item s (Item.Var n) ≡ Item.Int i = shown-integer s n i shows in
    let bounds : IsWithinBounds i = subst (IsRoot s) e is in
    made (subst IsWithinBounds same bounds) ∙ (ap Item.Int (sym same) ∙ sym e)

-- ---- a variable with a domain

pub domain-read : (s : State) (n : ℕ) (d : List Span) (found : Option (List Span)) → domain_of s n ≡ Some d → found ≡ domain_at_root s (followed (bindings s) (var n)) → found ≡ Some d
domain-read s n d found has is = is ∙ (ap (domain_at_root s) (followed_itself (bindings s) n (domain_unbound s n d has)) ∙ has)

no-variable-in : (b : Bindings) (i : ℤ) (n : ℕ) → Occurs n (value b (int i)) → ⊥
unfolding Occurs
no-variable-in b i n o = subst (Occurs n) (value_int b i) o

bound-at : {M : Type 0} (w z : StoreView M) (a r : Ref) (n : ℕ) (i : ℤ) (d : List Span) → IsState w.now.state → domain_of w.now.state n ≡ Some d → IsTerm w a (var n) → IsTerm w r (int i) → Binds w z a r → z.now.state ≡ with_binding w.now.state n (int i)
bound-at w z a r n i d is has at value-at binds =
    let s : State = w.now.state in
    let none : held (bindings s) n ≡ None = domain_unbound s n d has in
    let may : MayBind (bindings s) n (int i) = record { acyclic = is.acyclic; made = subst (λ (k : ℕ). n < k) (sym (as_many s)) (domain_made s n d has); unbound = none; apart = no-variable-in (bindings s) i n } in
    (binds n (var n) (int i) at value-at (followed_itself (bindings s) n none) may).state ∙ ap (with_binding s n) (followed_other (bindings s) (int i) (λ m e. cc))

-- the integer was put before
pub fixed : {M : Type 0} (v w z : StoreView M) (a r : Ref) (n : ℕ) (i j : ℤ) (d : List Span) → IsState v.now.state → domain_of v.now.state n ≡ Some d → Gives v w v.now.state r (int i) → (n < next w.now.state → IsTerm w a (var n)) → Binds w z a r → i ≡ j → z.now.state ≡ with_binding v.now.state n (int j)
fixed v w z a r n i j d is has gives at binds same =
    let one : w.now.state ≡ v.now.state = gives.changes.state in
    let is' : IsState w.now.state = subst IsState (sym one) is in
    let has' : domain_of w.now.state n ≡ Some d = subst (λ (s : State). domain_of s n ≡ Some d) (sym one) has in
    bound-at w z a r n i d is' has' (at (domain_made w.now.state n d has')) gives.term binds
    ∙ (ap (λ (s : State). with_binding s n (int i)) one ∙ ap (λ (k : ℤ). with_binding v.now.state n (int k)) same)

pub confined : {M : Type 0} (v z : StoreView M) (a : Ref) (n : ℕ) (d e : List Span) → IsState v.now.state → domain_of v.now.state n ≡ Some d → 2 ≤ size_of e → (n < next v.now.state → IsTerm v a (var n)) → Confines v z a e → z.now.state ≡ with_domain v.now.state n e
confined v z a n d e is has two at confines =
    let s : State = v.now.state in
    let none : held (bindings s) n ≡ None = domain_unbound s n d has in
    let made : n < next s = domain_made s n d has in
    (confines n (var n) (at made) is.acyclic (followed_itself (bindings s) n none) (made, none) two).state
