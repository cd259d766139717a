-- What the calls on variables make of a state.
use Rattle.std.proofs.Common.{◌≡◌, true≢false, is_err, ℕ, suc, ◌<◌, ◌≤◌, Bool, true, false, cond, not, ◌&&◌, List, [], ◌∷◌, Option, Some, None, Result, Ok, Err, zero, length, refl, ap, sym, ◌∙◌, subst, arith}
use Rattle.std.specs.Prelude.{ℤ, IfOk, OnOk, OnErr, IsNone}
use Rattle.pi_terms.specs.Tree.{Tree, var, int}
use Rattle.pi_terms.specs.Places.{held}
use Rattle.pi_terms.specs.Variables.{Occurs}
use Rattle.pi_constraints.specs.Domain.{IsDomain, has_value, values_of, size_of, common}
use Rattle.pi_constraints.specs.Value.{value, Bindings}
use Rattle.pi_constraints.proofs.RootLemmas.{value_int}
use Rattle.pi_constraints.specs.State.{State, bindings, followed, domain_of, IsState, with_binding, with_domain}
use Rattle.pi_constraints.specs.Store.{StoreView, IsTerm, Keeps, Gives, Binds, Confines}
use Rattle.pi_constraints.specs.Unify.{clash, changed, does_occur, admits, assigned, confined, joined_with, joined, Grows}
use Rattle.pi_constraints.specs.declared.store.Ref.{Ref}
use Rattle.pi_constraints.specs.declared.domain.Span.{Span}
use Rattle.pi_constraints.proofs.CommonLemmas.{empty_if_none, one_value, IsDomain-common}
use Rattle.pi_constraints.proofs.StateLemmas.{domain_good}
use Rattle.pi_constraints.proofs.FollowLemmas.{followed_other, followed_value}
use Rattle.pi_constraints.proofs.UnifyBindings.{grows-refl}
use Rattle.pi_constraints.proofs.UnifyJoined.{tied}
use Rattle.pi_unify.specs.declared.variables.Variable.{Variable}
use Rattle.pi_unify.specs.Refs.{IsRef, term_of, root_of, IsVariable, IsNoVariable}
use Rattle.pi_unify.specs.Answers.{Makes}
use Rattle.pi_unify.proofs.RefLemmas.{term_is, ref_of_term, ref_kept, root_kept, variable_unbound, bind_is, tie_is, domain_call_is, low_after}

pub on_ok : {A E : Type 0} (r : Result A E) (P : A → Type 0) (R : Type 0) → IfOk r P → ((x : A) → P x → R) → OnOk r R
on_ok (Ok x) P R h f = f x h
on_ok (Err e) P R h f = tt

pub if_ok : {A E : Type 0} (r : Result A E) (P Q : A → Type 0) → IfOk r P → ((x : A) → P x → Q x) → IfOk r Q
if_ok (Ok x) P Q h f = f x h
if_ok (Err e) P Q h f = tt

pub if_any : {A E : Type 0} (r : Result A E) (P : A → Type 0) → ((x : A) → P x) → IfOk r P
if_any (Ok x) P f = f x
if_any (Err y) P f = tt

pub either_way : {A E : Type 0} (r : Result A E) (P : A → Type 0) (R : Type 0) → IfOk r P → OnErr r R → ((x : A) → P x → R) → R
either_way (Ok x) P R h k f = f x h
either_way (Err y) P R h k f = k

pub if_err : {A E : Type 0} (r : Result A E) (P : A → Type 0) → is_err r ≡ true → IfOk r P
if_err (Ok x) P e = absurd (true≢false (sym e))
if_err (Err y) P e = tt

pub narrow_is : {M : Type 0} (v w z : StoreView M) (low high : Variable) (d : List Span) → IsState v.now.state → IsVariable v low → IsVariable v high → low.number < high.number → 2 ≤ size_of d → Keeps v w → Binds v w high.at low.at → Confines w z low.at d → z.now.state ≡ with_domain (with_binding v.now.state high.number (var low.number)) low.number d
narrow_is v w z low high d is l h less two keeps binds confines =
    let now : w.now.state ≡ tied v.now.state low.number high.number = tie_is v w low high is l h less binds in
    let after : IsState w.now.state × IsVariable w low = low_after v w low high is l h less keeps now in
    domain_call_is w z low d after.0 after.1 two confines ∙ ap (λ (s : State). with_domain s low.number d) now

abbrev followed_at : {M : Type 0} → StoreView M → Tree → Tree
followed_at v t = followed (bindings v.now.state) t

var_number : (m n : ℕ) → var m ≡ var n → m ≡ n
var_number m n e = cc

-- an integer
int_ref : {M : Type 0} (v : StoreView M) (r : Ref) (n : ℤ) → IsTerm v r (int n) → IsRef v r × (root_of v r ≡ int n)
unfolding Occurs
int_ref v r n is =
    let other : IsNoVariable (int n) = λ m e. cc in
    (ref_of_term v r (int n) is (λ m h. absurd h), ap (followed_at v) (term_is v r (int n) is) ∙ followed_other (bindings v.now.state) (int n) other)

-- no variable occurs in an integer's value
no_variable_in : (b : Bindings) (t : Tree) (n : ℤ) (k : ℕ) → t ≡ int n → Occurs k (value b t) → ⊥
unfolding Occurs
no_variable_in b t n k is o = subst (Occurs k) (ap (value b) is ∙ value_int b n) o

pub fix_is : {M : Type 0} (v w y z : StoreView M) (low high : Variable) (r : Ref) (n m : ℤ) → IsState v.now.state → IsVariable v low → IsVariable v high → low.number < high.number → Keeps v w → Binds v w high.at low.at → Gives w y w.now.state r (int n) → Binds y z low.at r → n ≡ m → z.now.state ≡ with_binding (with_binding v.now.state high.number (var low.number)) low.number (int m)
fix_is v w y z low high r n m is l h less keeps binds gives fixes e =
    let now : w.now.state ≡ tied v.now.state low.number high.number = tie_is v w low high is l h less binds in
    let after : IsState w.now.state × IsVariable w low = low_after v w low high is l h less keeps now in
    let same : y.now.state ≡ w.now.state = gives.changes.state in
    let grows : Grows w.now.state y.now.state = subst (Grows w.now.state) (sym same) (grows-refl w.now.state) in
    let state : IsState y.now.state = subst IsState (sym same) after.0 in
    let at : IsRef y low.at = ref_kept w y low.at gives.changes.keeps grows.as_many after.1.at in
    let unbound : held (bindings y.now.state) low.number ≡ None = subst (λ (s : State). held (bindings s) low.number ≡ None) (sym same) (variable_unbound w low after.0 after.1).1 in
    let low_root : root_of w low.at ≡ var low.number = after.1.root in
    let root : root_of y low.at ≡ var low.number = root_kept w y low.at gives.changes.keeps grows after.1.at (λ m e. let one : low.number ≡ m = var_number low.number m (sym low_root ∙ e) in subst (λ (k : ℕ). held (bindings y.now.state) k ≡ None) one unbound) ∙ low_root in
    let number : IsRef y r × (root_of y r ≡ int n) = int_ref y r n gives.term in
    let apart : Occurs low.number (value (bindings y.now.state) (term_of y r)) → ⊥ = no_variable_in (bindings y.now.state) (term_of y r) n low.number (term_is y r (int n) gives.term) in
    bind_is y z low r state (record { at = at; root = root }) number.0 apart fixes
    ∙ (ap (with_binding y.now.state low.number) (number.1 ∙ ap int e) ∙ ap (λ (s : State). with_binding s low.number (int m)) (same ∙ now))

two_from : (n : ℕ) → (n ≡ 0 → ⊥) → (n ≡ 1 → ⊥) → 2 ≤ n
two_from zero f g = absurd (f refl)
two_from (suc zero) f g = absurd (g refl)
two_from (suc (suc n)) f g = omega arith

pub two_or_more : (d : List Span) → (d ≡ [] → ⊥) → (size_of d ≡ 1 → ⊥) → 2 ≤ size_of d
two_or_more d some many = two_from (size_of d) (λ e. some (empty_if_none d e)) many

-- ---- common values

pub confined_none : (s now : State) (low high : ℕ) (d : List Span) → d ≡ [] → Makes (confined s low high d (values_of d)) false now
unfolding values_of
confined_none s now low high [] is = refl
confined_none s now low high (e ∷ d) is = absurd (cc)

confined_fixed_by : (s now : State) (low high : ℕ) (d : List Span) (n : ℤ) (values : List ℤ) → values_of d ≡ values → IsDomain d → size_of d ≡ 1 → has_value d n ≡ true → now ≡ with_binding (with_binding s high (var low)) low (int n) → Makes (confined s low high d values) true now
confined_fixed_by s now low high d n [] is up one has e = absurd (let many : size_of d ≡ 0 = ap length is in omega arith)
confined_fixed_by s now low high d n (i ∷ []) is up one has e =
    let same : n ≡ i = one_value d i n up is has in
    (refl, e ∙ ap (λ (k : ℤ). with_binding (with_binding s high (var low)) low (int k)) same)
confined_fixed_by s now low high d n (i ∷ j ∷ rest) is up one has e = absurd (let many : size_of d ≡ suc (suc (length rest)) = ap length is in omega arith)

pub confined_fixed : (s now : State) (low high : ℕ) (d : List Span) (n : ℤ) → IsDomain d → size_of d ≡ 1 → has_value d n ≡ true → now ≡ with_binding (with_binding s high (var low)) low (int n) → Makes (confined s low high d (values_of d)) true now
confined_fixed s now low high d n up one has e = confined_fixed_by s now low high d n (values_of d) refl up one has e

pub confined_fixed_at : (s now : State) (low high : ℕ) (d : List Span) (n m : ℤ) → IsDomain d → size_of d ≡ 1 → has_value d n ≡ true → now ≡ with_binding (with_binding s high (var low)) low (int m) → n ≡ m → Makes (confined s low high d (values_of d)) true now
confined_fixed_at s now low high d n m up one has e same = confined_fixed s now low high d n up one has (e ∙ ap (λ (k : ℤ). with_binding (with_binding s high (var low)) low (int k)) (sym same))

confined_narrowed_by : (s now : State) (low high : ℕ) (d : List Span) (values : List ℤ) → values_of d ≡ values → (d ≡ [] → ⊥) → (size_of d ≡ 1 → ⊥) → now ≡ with_domain (with_binding s high (var low)) low d → Makes (confined s low high d values) true now
confined_narrowed_by s now low high d [] is some many e = absurd (some (empty_if_none d (ap length is)))
confined_narrowed_by s now low high d (i ∷ []) is some many e = absurd (many (ap length is))
confined_narrowed_by s now low high d (i ∷ j ∷ rest) is some many e = (refl, e)

pub confined_narrowed : (s now : State) (low high : ℕ) (d : List Span) → (d ≡ [] → ⊥) → (size_of d ≡ 1 → ⊥) → now ≡ with_domain (with_binding s high (var low)) low d → Makes (confined s low high d (values_of d)) true now
confined_narrowed s now low high d some many e = confined_narrowed_by s now low high d (values_of d) refl some many e

-- ---- two variables

joined_free_by : (s now : State) (low high : ℕ) (d : Option (List Span)) → now ≡ with_binding s high (var low) → Makes (joined_with s low high d None) true now
joined_free_by s now low high None e = (refl, e)
joined_free_by s now low high (Some d) e = (refl, e)

pub joined_free : (s now : State) (low high : ℕ) → domain_of s high ≡ None → now ≡ with_binding s high (var low) → Makes (joined s low high) true now
unfolding joined
joined_free s now low high none e = subst (λ (d : Option (List Span)). Makes (joined_with s low high (domain_of s low) d) true now) (sym none) (joined_free_by s now low high (domain_of s low) e)

pub joined_high : (s now : State) (low high : ℕ) (e : List Span) → domain_of s low ≡ None → domain_of s high ≡ Some e → now ≡ with_domain (with_binding s high (var low)) low e → Makes (joined s low high) true now
unfolding joined
joined_high s now low high e none some is = subst (λ o. Makes o true now) (sym (ap (λ (d : Option (List Span)). joined_with s low high d (domain_of s high)) none ∙ ap (joined_with s low high None) some)) (refl, is)

pub joined_common : (s now : State) (one : Bool) (low high : ℕ) (d e c : List Span) → domain_of s low ≡ Some d → domain_of s high ≡ Some e → c ≡ common d e → Makes (confined s low high c (values_of c)) one now → Makes (joined s low high) one now
unfolding joined
joined_common s now one low high d e c l h is makes =
    let both : joined_with s low high (domain_of s low) (domain_of s high) ≡ confined s low high (common d e) (values_of (common d e)) = ap (λ (x : Option (List Span)). joined_with s low high x (domain_of s high)) l ∙ ap (joined_with s low high (Some d)) h in
    subst (λ o. Makes o one now) (sym both) (subst (λ (x : List Span). Makes (confined s low high x (values_of x)) one now) is makes)

-- ---- a variable and a term that is none

assigned_value : {M : Type 0} (v : StoreView M) (r : Ref) → IsState v.now.state → value (bindings v.now.state) (root_of v r) ≡ value (bindings v.now.state) (term_of v r)
assigned_value v r is = followed_value (bindings v.now.state) (term_of v r) is.acyclic

assigned_by : (s now : State) (one : Bool) (n : ℕ) (u : Tree) (o a : Bool) → does_occur n (value (bindings s) u) ≡ o → admits (domain_of s n) u ≡ a → Makes (cond (not o && a) (changed (with_binding s n u)) clash) one now → Makes (assigned s n u) one now
unfolding assigned
assigned_by s now one n u o a is has makes = rw (is, has) makes

pub assigned_occurs : {M : Type 0} (v : StoreView M) (now : State) (n : ℕ) (r : Ref) → IsState v.now.state → true ≡ does_occur n (value (bindings v.now.state) (term_of v r)) → Makes (assigned v.now.state n (root_of v r)) false now
assigned_occurs v now n r is occurs =
    assigned_by v.now.state now false n (root_of v r) true (admits (domain_of v.now.state n) (root_of v r))
    (ap (does_occur n) (assigned_value v r is) ∙ sym occurs) refl refl

pub assigned_refused : {M : Type 0} (v : StoreView M) (now : State) (n : ℕ) (r : Ref) → IsState v.now.state → false ≡ does_occur n (value (bindings v.now.state) (term_of v r)) → false ≡ admits (domain_of v.now.state n) (root_of v r) → Makes (assigned v.now.state n (root_of v r)) false now
assigned_refused v now n r is occurs can =
    assigned_by v.now.state now false n (root_of v r) false false (ap (does_occur n) (assigned_value v r is) ∙ sym occurs) (sym can) refl

pub assigned_bound : {M : Type 0} (v : StoreView M) (now : State) (n : ℕ) (r : Ref) → IsState v.now.state → false ≡ does_occur n (value (bindings v.now.state) (term_of v r)) → true ≡ admits (domain_of v.now.state n) (root_of v r) → now ≡ with_binding v.now.state n (root_of v r) → Makes (assigned v.now.state n (root_of v r)) true now
assigned_bound v now n r is occurs can e =
    assigned_by v.now.state now true n (root_of v r) false true (ap (does_occur n) (assigned_value v r is) ∙ sym occurs) (sym can) (refl, e)

pub not_empty : {A B : Type 0} (xs : List A) (o : Option B) (x : B) → o ≡ Some x → (xs ≡ [] → IsNone o) → xs ≡ [] → ⊥
not_empty xs o x is none e = let gone : IsNone (Some x) = subst IsNone is (none e) in absurd (cc gone)

pub common_good : (s : State) (low high : ℕ) (d e c : List Span) → IsState s → domain_of s low ≡ Some d → domain_of s high ≡ Some e → c ≡ common d e → IsDomain c
common_good s low high d e c is l h same =
    let left : IsDomain d × (2 ≤ size_of d) = domain_good s low d is l in
    let right : IsDomain e × (2 ≤ size_of e) = domain_good s high e is h in
    subst IsDomain (sym same) (IsDomain-common d e left.0 right.0)
