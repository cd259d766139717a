-- Terms whose bindings at the root are followed.
use Rattle.std.proofs.Common.{◌≡◌, ℕ, zero, suc, ◌<◌, Option, Some, None, length, refl, ap, sym, ◌∙◌, subst, arith}
use Rattle.std.specs.Option.{unwrap_or}
use Rattle.pi_terms.specs.Tree.{Tree, var, int, atom, comp}
use Rattle.pi_terms.specs.Places.{held}
use Rattle.pi_terms.specs.Variables.{Occurs}
use Rattle.pi_terms.specs.Substitution.{instance}
use Rattle.pi_constraints.specs.Value.{Bindings, value, IsAcyclic, Solves}
use Rattle.pi_constraints.specs.State.{followed_for, followed, SpeaksBelow}
use Rattle.pi_constraints.proofs.ValueLemmas.{Ranked, ranked, none_from, bound_has_value_of_its_term}

abbrev next_at : Bindings → ℕ → Option Tree → Tree
next_at b n o = unwrap_or o (var n)

-- ---- what is kept along the way

-- what each bound variable has in common with its term, a term has in common with what it leads to
followed_for_same : (A : Type 0) (f : Tree → A) (b : Bindings) → ((n : ℕ) (u : Tree) → held b n ≡ Some u → f (var n) ≡ f u) → (k : ℕ) (t : Tree) → f (followed_for k b t) ≡ f t
unfolding followed_for
followed_for_same A f b same zero t = refl
followed_for_same A f b same (suc k) (var n) =
    let one : (o : Option Tree) → held b n ≡ o → f (next_at b n o) ≡ f (var n) = λ o. elim o as (λ o. held b n ≡ o → f (next_at b n o) ≡ f (var n)) [ None ↦ λ is. refl | Some u ↦ λ is. sym (same n u is) ] in
    followed_for_same A f b same k (next_at b n (held b n)) ∙ one (held b n) refl
followed_for_same A f b same (suc k) (int n) = refl
followed_for_same A f b same (suc k) (atom name) = refl
followed_for_same A f b same (suc k) (comp name ts) = refl

pub followed_value : (b : Bindings) (t : Tree) → IsAcyclic b → value b (followed b t) ≡ value b t
unfolding followed
followed_value b t a = followed_for_same Tree (value b) b (λ n u is. bound_has_value_of_its_term b n u a is) (length b) t

pub followed_instance : (s : ℕ → Tree) (b : Bindings) (t : Tree) → Solves s b → instance s (followed b t) ≡ instance s t
unfolding followed instance
followed_instance s b t solves = followed_for_same Tree (instance s) b solves (length b) t

-- what holds of a term and of all that variables are bound to, holds of what the term leads to
followed_for_keeps : (P : Tree → Type 0) (b : Bindings) → ((n : ℕ) (u : Tree) → held b n ≡ Some u → P u) → (k : ℕ) (t : Tree) → P t → P (followed_for k b t)
unfolding followed_for
followed_for_keeps P b all zero t h = h
followed_for_keeps P b all (suc k) (var n) h =
    let one : (o : Option Tree) → held b n ≡ o → P (next_at b n o) = λ o. elim o as (λ o. held b n ≡ o → P (next_at b n o)) [ None ↦ λ is. h | Some u ↦ λ is. all n u is ] in
    followed_for_keeps P b all k (next_at b n (held b n)) (one (held b n) refl)
followed_for_keeps P b all (suc k) (int n) h = h
followed_for_keeps P b all (suc k) (atom name) h = h
followed_for_keeps P b all (suc k) (comp name ts) h = h

pub followed_below : (m : ℕ) (b : Bindings) (t : Tree) → ((n : ℕ) (u : Tree) → held b n ≡ Some u → SpeaksBelow m u) → SpeaksBelow m t → SpeaksBelow m (followed b t)
unfolding followed
followed_below m b t all h = followed_for_keeps (SpeaksBelow m) b all (length b) t h

-- ---- the end of the way

-- a term is followed far enough: so many steps suffice for the variable at its root
abbrev Reaches : (b : Bindings) → Ranked b → ℕ → Tree → Type 0
Reaches b r k t = (n : ℕ) (u : Tree) → t ≡ var n → held b n ≡ Some u → r.rank n < k

reaches_next : (b : Bindings) (r : Ranked b) (k n : ℕ) → Reaches b r (suc k) (var n) → (o : Option Tree) → held b n ≡ o → Reaches b r k (next_at b n o)
unfolding Occurs
reaches_next b r k n reach None is m w root bound = absurd (let same : held b n ≡ held b m = ap (held b) (cc) in cc)
reaches_next b r k n reach (Some u) is m w root bound =
    let occurs : Occurs m u = subst (Occurs m) (sym root) refl in
    let here : r.rank n < suc k = reach n u refl is in
    omega (arith, r.falls n m u w is occurs bound)

ends_unbound : (b : Bindings) (r : Ranked b) (k : ℕ) (t : Tree) (n : ℕ) → Reaches b r k t → followed_for k b t ≡ var n → held b n ≡ None
unfolding followed_for
ends_unbound b r zero t n reach e = none_from (held b n) (λ u is. absurd (let less : r.rank n < zero = reach n u e is in omega arith))
ends_unbound b r (suc k) (var m) n reach e = ends_unbound b r k (next_at b m (held b m)) n (reaches_next b r k m reach (held b m) refl) e
ends_unbound b r (suc k) (int i) n reach e = absurd (cc)
ends_unbound b r (suc k) (atom name) n reach e = absurd (cc)
ends_unbound b r (suc k) (comp name ts) n reach e = absurd (cc)

-- a term that leads to a variable leads to one that is not bound
pub followed_unbound : (b : Bindings) (t : Tree) (n : ℕ) → IsAcyclic b → followed b t ≡ var n → held b n ≡ None
unfolding followed
followed_unbound b t n a e =
    let r : Ranked b = ranked b a in
    ends_unbound b r (length b) t n (λ m u root bound. r.below m u bound) e

-- ---- terms that are followed already

-- a term that is no variable
abbrev pub IsNoVariable : Tree → Type 0
IsNoVariable t = (n : ℕ) → t ≡ var n → ⊥

followed_for_other : (k : ℕ) (b : Bindings) (t : Tree) → IsNoVariable t → followed_for k b t ≡ t
unfolding followed_for
followed_for_other zero b t other = refl
followed_for_other (suc k) b (var n) other = absurd (other n refl)
followed_for_other (suc k) b (int i) other = refl
followed_for_other (suc k) b (atom name) other = refl
followed_for_other (suc k) b (comp name ts) other = refl

pub followed_other : (b : Bindings) (t : Tree) → IsNoVariable t → followed b t ≡ t
unfolding followed
followed_other b t other = followed_for_other (length b) b t other

followed_for_unbound : (k : ℕ) (b : Bindings) (n : ℕ) → held b n ≡ None → followed_for k b (var n) ≡ var n
unfolding followed_for
followed_for_unbound zero b n is = refl
followed_for_unbound (suc k) b n is = ap (λ o. followed_for k b (next_at b n o)) is ∙ followed_for_unbound k b n is

pub followed_itself : (b : Bindings) (n : ℕ) → held b n ≡ None → followed b (var n) ≡ var n
unfolding followed
followed_itself b n is = followed_for_unbound (length b) b n is

-- ---- more bindings

-- a term leads to the same end where more variables are bound, if the end is not among them
followed_for_later : (k : ℕ) (b c : Bindings) (t e : Tree) → ((n : ℕ) (u : Tree) → held b n ≡ Some u → held c n ≡ Some u) → ((n : ℕ) → e ≡ var n → held c n ≡ None) → followed_for k b t ≡ e → followed_for k c t ≡ e
unfolding followed_for
followed_for_later zero b c t e keeps end is = is
followed_for_later (suc k) b c (var n) e keeps end is =
    let one : (o : Option Tree) → held b n ≡ o → followed_for k b (next_at b n o) ≡ e → followed_for k c (next_at c n (held c n)) ≡ e = λ o. elim o as (λ o. held b n ≡ o → followed_for k b (next_at b n o) ≡ e → followed_for k c (next_at c n (held c n)) ≡ e) [
      | None ↦ λ none goes.
          let itself : e ≡ var n = sym goes ∙ followed_for_unbound k b n none in
          let ends : held c n ≡ None = end n itself in
          ap (λ o. followed_for k c (next_at c n o)) ends ∙ (followed_for_unbound k c n ends ∙ sym itself)
      | Some u ↦ λ some goes. ap (λ o. followed_for k c (next_at c n o)) (keeps n u some) ∙ followed_for_later k b c u e keeps end goes
    ] in
    one (held b n) refl is
followed_for_later (suc k) b c (int n) e keeps end is = is
followed_for_later (suc k) b c (atom name) e keeps end is = is
followed_for_later (suc k) b c (comp name ts) e keeps end is = is

pub followed_later : (b c : Bindings) (t e : Tree) → length c ≡ length b → ((n : ℕ) (u : Tree) → held b n ≡ Some u → held c n ≡ Some u) → ((n : ℕ) → e ≡ var n → held c n ≡ None) → followed b t ≡ e → followed c t ≡ e
unfolding followed
followed_later b c t e many keeps end is =
    ap (λ (k : ℕ). followed_for k c t) many ∙ followed_for_later (length b) b c t e keeps end is
