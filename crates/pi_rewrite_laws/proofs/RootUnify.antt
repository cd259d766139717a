-- Unification keeps what terms are followed to, in any state: it changes what a variable is bound to only where nothing is reached from that variable.
use Rattle.std.proofs.Common.{◌≡◌, ℕ, zero, suc, ◌+◌, ◌≤◌, ◌<◌, ◌⊎◌, inl, inr, Bool, true, false, cond, List, [], ◌∷◌, ◌++◌, length, map, eqb, refl, sym, ◌∙◌, ap, subst, arith}
use Rattle.std.specs.Prelude.{◌==◌, ℤ, pos, Option, Some, None, nat_lt, slice_set, unwrap_or, ◌||◌, ⊤}
use Rattle.std.specs.List.{list_any, AllByRecursion, IsDistinct}
use Rattle.std.proofs.lemmas.Bool.{true≢false}
use Rattle.std.proofs.lemmas.Bool.Decides.{Decides-eqb}
use Rattle.std.proofs.lemmas.List.{length-set}
use Rattle.std.proofs.lemmas.Map.Steps.{length-le_from_distinct_below}
use Rattle.pi_terms.specs.Tree.{Tree, var, int, atom, comp}
use Rattle.pi_terms.specs.Places.{Places, held}
use Rattle.pi_constraints.specs.Value.{Bindings}
use Rattle.pi_constraints.specs.Domain.{values_of, common}
use Rattle.pi_constraints.specs.declared.domain.Span.{Span}
use Rattle.pi_constraints.specs.State.{State, Variable, within, bound, binding, bindings, domain_of, followed_for, followed, with_variable, with_binding}
use Rattle.pi_constraints.specs.Unify.{Pair, Outcome, clash, changed, parts, in_pairs, assigned, confined, joined_with, joined, outcome, go_on, unified_for, pairs_ahead, all_unified}
use Rattle.pi_rewrite_laws.specs.Roots.{RootsStay}
use Rattle.pi_rewrite_laws.proofs.ElementLemmas.{roots-stay-itself}
use Rattle.pi_rewrite_laws.proofs.StayLemmas.{IsRooted, unbound-itself, roots-stay-then}
use Rattle.pi_rewrite_laws.proofs.RootGoals.{UnifyingKeepsRoots}

-- ---- what is reached

-- a term leads to one that is no variable, in so many steps
data Reaches (b : Bindings) : Tree → ℕ → Type 0 where
  at_root : (u : Tree) → IsRooted u → Reaches b u 0
  one_step : (m : ℕ) (v : Tree) (j : ℕ) → held b m ≡ Some v → Reaches b v j → Reaches b (var m) (suc j)

abbrev the_tree : Option Tree → Tree
the_tree o = unwrap_or o (int (pos 0))

-- in one number of steps
reaches-once : (b : Bindings) (t u : Tree) (i j : ℕ) → t ≡ u → Reaches b t i → Reaches b u j → i ≡ j
reaches-once b t u _ _ same (at_root _ is) (at_root _ it) = refl
reaches-once b t u _ _ same (at_root _ is) (one_step m v j at r) = absurd (subst (λ (x : Tree). IsRooted x) same is)
reaches-once b t u _ _ same (one_step m v i at r) (at_root _ it) = absurd (subst (λ (x : Tree). IsRooted x) (sym same) it)
reaches-once b t u _ _ same (one_step m v i at r) (one_step n w j here q) =
    ap suc (reaches-once b v w i j (ap the_tree (sym at ∙ ap (held b) (ap number same) ∙ here)) r q)
  where
    number : Tree → ℕ
    number (var k) = k
    number (int k) = 0
    number (atom name) = 0
    number (comp name ts) = 0

-- what is followed to its root reaches it
followed-reaches : (k : ℕ) (b : Bindings) (t u : Tree) → IsRooted u → followed_for k b t ≡ u → (j : ℕ) × Reaches b t j
unfolding followed_for
followed-reaches zero b t u is found = (0, at_root t (subst (λ (x : Tree). IsRooted x) (sym found) is))
followed-reaches (suc k) b (int n) u is found = (0, at_root (int n) tt)
followed-reaches (suc k) b (atom name) u is found = (0, at_root (atom name) tt)
followed-reaches (suc k) b (comp name ts) u is found = (0, at_root (comp name ts) tt)
followed-reaches (suc k) b (var n) u is found = go (held b n) refl (λ v at. followed-reaches k b v u is at)
  where
    go : (o : Option Tree) → held b n ≡ o → ((v : Tree) → followed_for k b v ≡ u → (j : ℕ) × Reaches b v j) → (j : ℕ) × Reaches b (var n) j
    go None at each = absurd (subst (λ (x : Tree). IsRooted x) (sym found ∙ ap (λ (o : Option Tree). followed_for k b (unwrap_or o (var n))) at ∙ unbound-itself k b n at) is)
    go (Some v) at each = let r : (j : ℕ) × Reaches b v j = each v (sym (ap (λ (o : Option Tree). followed_for k b (unwrap_or o (var n))) at) ∙ found) in (suc r.0, one_step n v r.0 at r.1)

-- a term that is followed for so many steps to a variable that reaches a root takes these steps too
further-reaches : (k : ℕ) (b : Bindings) (t : Tree) (n r : ℕ) (w : Tree) → followed_for k b t ≡ var n → held b n ≡ Some w → Reaches b (var n) r → Reaches b t (k + r)
unfolding followed_for
further-reaches zero b t n r w found tied is = subst (λ (j : ℕ). Reaches b t j) (omega arith) (subst (λ (x : Tree). Reaches b x r) (sym found) is)
further-reaches (suc k) b (int m) n r w found tied is = absurd (cc found)
further-reaches (suc k) b (atom name) n r w found tied is = absurd (cc found)
further-reaches (suc k) b (comp name ts) n r w found tied is = absurd (cc found)
further-reaches (suc k) b (var m) n r w found tied is = go (held b m) refl (λ v at. further-reaches k b v n r w at tied is)
  where
    number : Tree → ℕ
    number (var k) = k
    number (int k) = 0
    number (atom name) = 0
    number (comp name ts) = 0

    go : (o : Option Tree) → held b m ≡ o → ((v : Tree) → followed_for k b v ≡ var n → Reaches b v (k + r)) → Reaches b (var m) (suc k + r)
    go None at each =
        let same : m ≡ n = ap number (sym (unbound-itself k b m at) ∙ sym (ap (λ (o : Option Tree). followed_for k b (unwrap_or o (var m))) at) ∙ found) in absurd (cc (sym at ∙ ap (held b) same ∙ tied))
    go (Some v) at each = subst (λ (j : ℕ). Reaches b (var m) j) (omega arith) (one_step m v (k + r) at (each v (sym (ap (λ (o : Option Tree). followed_for k b (unwrap_or o (var m))) at) ∙ found)))

-- ---- no way is longer than there are bindings

-- the variables on a way, each of which is another one
record Way (b : Bindings) (j : ℕ) : Type 0 where
  places : List ℕ
  count : length places ≡ j
  distinct : IsDistinct eqb places
  below : (q : ℕ) → list_any (eqb q) places ≡ true → q < length b
  ranks : (q : ℕ) → list_any (eqb q) places ≡ true → (i : ℕ) × (suc i ≤ suc j) × Reaches b (var q) i

held-below : (b : Places) (m : ℕ) (v : Tree) → held b m ≡ Some v → m < length b
held-below [] m v is = absurd cc
held-below (x ∷ b) zero v is = omega arith
held-below (x ∷ b) (suc m) v is = omega (arith, held-below b m v is)

apart : (m : ℕ) (xs : List ℕ) → (list_any (eqb m) xs ≡ true → ⊥) → AllByRecursion (λ (y : ℕ). eqb m y ≡ false) xs
apart m [] none = tt
apart m (y ∷ xs) none = (first (eqb m y) refl, apart m xs (λ is. none (later (eqb m y) (list_any (eqb m) xs) is)))
  where
    later : (a c : Bool) → c ≡ true → a || c ≡ true
    later true c is = refl
    later false c is = is

    first : (c : Bool) → eqb m y ≡ c → eqb m y ≡ false
    first false is = is
    first true is = absurd (none (ap (λ (c : Bool). c || list_any (eqb m) xs) is))

way : (b : Bindings) (t : Tree) (j : ℕ) → Reaches b t j → Way b j
unfolding IsDistinct
way b _ _ (at_root u is) = record { places = []; count = refl; distinct = tt; below = λ q h. absurd (true≢false (sym h)); ranks = λ q h. absurd (true≢false (sym h)) }
way b _ _ (one_step m v j at r) =
    let rest : Way b j = way b v j r in
    record {
      places = m ∷ rest.places;
      count = ap suc rest.count;
      distinct = (apart m rest.places (λ h. other rest h), rest.distinct);
      below = λ q h. below rest q (eqb q m) refl h;
      ranks = λ q h. ranks rest q (eqb q m) refl h;
    }
  where
    whole : Reaches b (var m) (suc j)
    whole = one_step m v j at r

    other : (rest : Way b j) → list_any (eqb m) rest.places ≡ true → ⊥
    other rest h =
        let i : (i : ℕ) × (suc i ≤ suc j) × Reaches b (var m) i = rest.ranks m h in
        let same : i.0 ≡ suc j = reaches-once b (var m) (var m) i.0 (suc j) refl i.2 whole in omega (arith, same, i.1)

    below : (rest : Way b j) (q : ℕ) (c : Bool) → eqb q m ≡ c → c || list_any (eqb q) rest.places ≡ true → q < length b
    below rest q true is h = let same : q ≡ m = (Decides-eqb q m).0 is in omega (arith, same, held-below b m v at)
    below rest q false is h = rest.below q h

    ranks : (rest : Way b j) (q : ℕ) (c : Bool) → eqb q m ≡ c → c || list_any (eqb q) rest.places ≡ true → (i : ℕ) × (suc i ≤ suc (suc j)) × Reaches b (var q) i
    ranks rest q true is h = (suc j, omega arith, subst (λ (k : ℕ). Reaches b (var k) (suc j)) (sym ((Decides-eqb q m).0 is)) whole)
    ranks rest q false is h = let i : (i : ℕ) × (suc i ≤ suc j) × Reaches b (var q) i = rest.ranks q h in (i.0, omega (arith, i.1), i.2)

way-short : (b : Bindings) (t : Tree) (j : ℕ) → Reaches b t j → j ≤ length b
way-short b t j r = let w : Way b j = way b t j r in omega (arith, w.count, length-le_from_distinct_below w.places (length b) w.distinct w.below)

-- A variable that a term is followed to reaches nothing.
pub IsStuck : Bindings → ℕ → Type 0
IsStuck b n = (k : ℕ) (u : Tree) → IsRooted u → followed_for k b (var n) ≡ u → ⊥

pub followed-stuck : (b : Bindings) (t : Tree) (n : ℕ) → followed b t ≡ var n → IsStuck b n
unfolding followed IsStuck
followed-stuck b t n found k u is reached = go (held b n) refl
  where
    way-on : (j : ℕ) × Reaches b (var n) j
    way-on = followed-reaches k b (var n) u is reached

    long : (r : ℕ) → Reaches b (var n) r → (w : Tree) → held b n ≡ Some w → ⊥
    long zero (at_root _ rooted) w at = rooted
    long (suc r) reaches w at = omega (arith, way-short b t (length b + suc r) (further-reaches (length b) b t n (suc r) w found at reaches))

    go : (o : Option Tree) → held b n ≡ o → ⊥
    go None at = subst (λ (x : Tree). IsRooted x) (sym reached ∙ unbound-itself k b n at) is
    go (Some w) at = long way-on.0 way-on.1 w at

-- ---- changes

-- where nothing is changed but for such variables, roots stay
kept-root : (k : ℕ) (b c : Bindings) → ((m : ℕ) → (held c m ≡ held b m) ⊎ IsStuck b m) → (t u : Tree) → IsRooted u → followed_for k b t ≡ u → followed_for k c t ≡ u
unfolding followed_for IsStuck
kept-root zero b c each t u is found = found
kept-root (suc k) b c each (int n) u is found = found
kept-root (suc k) b c each (atom name) u is found = found
kept-root (suc k) b c each (comp name ts) u is found = found
kept-root (suc k) b c each (var n) u is found = go (each n) (held b n) refl (λ v at. kept-root k b c each v u is at)
  where
    go : (held c n ≡ held b n) ⊎ IsStuck b n → (o : Option Tree) → held b n ≡ o → ((v : Tree) → followed_for k b v ≡ u → followed_for k c v ≡ u) → followed_for k c (unwrap_or (held c n) (var n)) ≡ u
    go (inr stuck) o at later = absurd (stuck (suc k) u is found)
    go (inl same) None at later = absurd (subst (λ (x : Tree). IsRooted x) (sym found ∙ ap (λ (o : Option Tree). followed_for k b (unwrap_or o (var n))) at ∙ unbound-itself k b n at) is)
    go (inl same) (Some v) at later = ap (λ (o : Option Tree). followed_for k c (unwrap_or o (var n))) (same ∙ at) ∙ later v (sym (ap (λ (o : Option Tree). followed_for k b (unwrap_or o (var n))) at) ∙ found)

changes-stay : (s r : State) → length (bindings r) ≡ length (bindings s) → ((m : ℕ) → (held (bindings r) m ≡ held (bindings s) m) ⊎ IsStuck (bindings s) m) → RootsStay s r
unfolding followed
changes-stay s r long each = record {
  compounds = λ t f ts is. ap (λ (k : ℕ). followed_for k (bindings r) t) long ∙ kept-root (length (bindings s)) (bindings s) (bindings r) each t (comp f ts) tt is;
  atoms = λ t name is. ap (λ (k : ℕ). followed_for k (bindings r) t) long ∙ kept-root (length (bindings s)) (bindings s) (bindings r) each t (atom name) tt is;
}

-- a variable is changed
set-others : (vs : List Variable) (n : ℕ) (v : Variable) (m : ℕ) → (m ≡ n → ⊥) → held (map binding (slice_set vs n v)) m ≡ held (map binding vs) m
set-others [] n v m other = refl
set-others (w ∷ vs) zero v zero other = absurd (other refl)
set-others (w ∷ vs) zero v (suc m) other = refl
set-others (w ∷ vs) (suc n) v zero other = refl
set-others (w ∷ vs) (suc n) v (suc m) other = set-others vs n v m (λ same. other (ap suc same))

as-many : (vs : List Variable) (n : ℕ) (v : Variable) → length (map binding (slice_set vs n v)) ≡ length (map binding vs)
as-many vs n v = mapped (slice_set vs n v) ∙ length-set vs n v ∙ sym (mapped vs)
  where
    mapped : (vs : List Variable) → length (map binding vs) ≡ length vs
    mapped [] = refl
    mapped (w ∷ vs) = ap suc (mapped vs)

one-change : (s : State) (n : ℕ) (v : Variable) → IsStuck (bindings s) n → RootsStay s (with_variable s n v)
one-change s n v stuck = changes-stay s (with_variable s n v) (as-many s.variables n v) (λ m. go m (eqb m n) refl)
  where
    go : (m : ℕ) (c : Bool) → eqb m n ≡ c → (held (map binding (slice_set s.variables n v)) m ≡ held (bindings s) m) ⊎ IsStuck (bindings s) m
    go m true is = inr (subst (IsStuck (bindings s)) (sym ((Decides-eqb m n).0 is)) stuck)
    go m false is = inl (set-others s.variables n v m (λ same. true≢false (sym ((Decides-eqb m n).1 same) ∙ is)))

two-changes : (s : State) (n l : ℕ) (v w : Variable) → IsStuck (bindings s) n → IsStuck (bindings s) l → RootsStay s (with_variable (with_variable s n v) l w)
two-changes s n l v w stuck other =
    changes-stay s (with_variable (with_variable s n v) l w) (as-many (slice_set s.variables n v) l w ∙ as-many s.variables n v) (λ m. go m (eqb m n) refl (eqb m l) refl)
  where
    go : (m : ℕ) (c : Bool) → eqb m n ≡ c → (d : Bool) → eqb m l ≡ d → (held (map binding (slice_set (slice_set s.variables n v) l w)) m ≡ held (bindings s) m) ⊎ IsStuck (bindings s) m
    go m true is d here = inr (subst (IsStuck (bindings s)) (sym ((Decides-eqb m n).0 is)) stuck)
    go m false is true here = inr (subst (IsStuck (bindings s)) (sym ((Decides-eqb m l).0 here)) other)
    go m false is false here =
        inl (set-others (slice_set s.variables n v) l w m (λ same. true≢false (sym ((Decides-eqb m l).1 same) ∙ here)) ∙ set-others s.variables n v m (λ same. true≢false (sym ((Decides-eqb m n).1 same) ∙ is)))

-- ---- unification

abbrev OutcomeStays : State → Outcome → Type 0
OutcomeStays s clash = ⊤
OutcomeStays s (changed r) = RootsStay s r
OutcomeStays s (parts ps) = ⊤

either-stays : (s : State) (c : Bool) (a d : Outcome) → OutcomeStays s a → OutcomeStays s d → OutcomeStays s (cond c a d)
either-stays s true a d x y = x
either-stays s false a d x y = y

assigned-stays : (s : State) (n : ℕ) (t : Tree) → IsStuck (bindings s) n → OutcomeStays s (assigned s n t)
unfolding assigned
assigned-stays s n t stuck = either-stays s _ (changed (with_binding s n t)) clash (one-change s n (bound t) stuck) tt

joined-stays : (s : State) (low high : ℕ) → IsStuck (bindings s) low → IsStuck (bindings s) high → OutcomeStays s (joined s low high)
unfolding joined
joined-stays s low high a b = go (domain_of s low) (domain_of s high)
  where
    confined-stays : (d : List Span) (is : List ℤ) → OutcomeStays s (confined s low high d is)
    confined-stays d [] = tt
    confined-stays d (i ∷ []) = two-changes s high low (bound (var low)) (bound (int i)) b a
    confined-stays d (i ∷ j ∷ rest) = two-changes s high low (bound (var low)) (within d) b a

    go : (o p : Option (List Span)) → OutcomeStays s (joined_with s low high o p)
    go o None = one-change s high (bound (var low)) b
    go None (Some e) = two-changes s high low (bound (var low)) (within e) b a
    go (Some d) (Some e) = confined-stays (common d e) (values_of (common d e))

outcome-stays : (s : State) (t u : Tree) → ((n : ℕ) → t ≡ var n → IsStuck (bindings s) n) → ((n : ℕ) → u ≡ var n → IsStuck (bindings s) n) → OutcomeStays s (outcome s t u)
unfolding outcome
outcome-stays s (var m) (var n) a b = either-stays s (m == n) (parts []) _ tt (either-stays s (nat_lt m n) (joined s m n) (joined s n m) (joined-stays s m n (a m refl) (b n refl)) (joined-stays s n m (b n refl) (a m refl)))
outcome-stays s (var n) (int i) a b = assigned-stays s n (int i) (a n refl)
outcome-stays s (var n) (atom f) a b = assigned-stays s n (atom f) (a n refl)
outcome-stays s (var n) (comp f ts) a b = assigned-stays s n (comp f ts) (a n refl)
outcome-stays s (int i) (var n) a b = assigned-stays s n (int i) (b n refl)
outcome-stays s (int i) (int j) a b = either-stays s _ (parts []) clash tt tt
outcome-stays s (int i) (atom f) a b = tt
outcome-stays s (int i) (comp f ts) a b = tt
outcome-stays s (atom f) (var n) a b = assigned-stays s n (atom f) (b n refl)
outcome-stays s (atom f) (int i) a b = tt
outcome-stays s (atom f) (atom g) a b = either-stays s _ (parts []) clash tt tt
outcome-stays s (atom f) (comp g us) a b = tt
outcome-stays s (comp f ts) (var n) a b = assigned-stays s n (comp f ts) (b n refl)
outcome-stays s (comp f ts) (int i) a b = tt
outcome-stays s (comp f ts) (atom g) a b = tt
outcome-stays s (comp f ts) (comp g us) a b = either-stays s _ (parts (in_pairs ts us)) clash tt tt

state_of_some : State → Option State → State
state_of_some s None = s
state_of_some s (Some r) = r

pairs-stay : (k : ℕ) (s r : State) (ps : List Pair) → unified_for k s ps ≡ Some r → RootsStay s r
unfolding unified_for state_of_some
pairs-stay zero s r [] is = subst (λ (q : State). RootsStay s q) (ap (state_of_some s) is) (roots-stay-itself s)
pairs-stay zero s r (p ∷ ps) is = absurd (cc is)
pairs-stay (suc k) s r [] is = subst (λ (q : State). RootsStay s q) (ap (state_of_some s) is) (roots-stay-itself s)
pairs-stay (suc k) s r (p ∷ ps) is =
    go (outcome s (followed (bindings s) p.0) (followed (bindings s) p.1)) (outcome-stays s (followed (bindings s) p.0) (followed (bindings s) p.1) (λ n at. followed-stuck (bindings s) p.0 n at) (λ n at. followed-stuck (bindings s) p.1 n at)) is
    (λ q qs at. pairs-stay k q r qs at)
  where
    go : (o : Outcome) → OutcomeStays s o → go_on (unified_for k) s ps o ≡ Some r → ((q : State) (qs : List Pair) → unified_for k q qs ≡ Some r → RootsStay q r) → RootsStay s r
    go clash stays found later = absurd (cc found)
    go (changed q) stays found later = roots-stay-then s q r stays (later q ps found)
    go (parts qs) stays found later = later s (qs ++ ps) found

pub unifying-keeps-roots : UnifyingKeepsRoots
unfolding all_unified
unifying-keeps-roots s r t u is = pairs-stay (pairs_ahead s ((t, u) ∷ [])) s r ((t, u) ∷ []) is
