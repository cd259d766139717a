-- What a term is followed to stays where bindings are only added, as by new variables.
use Rattle.std.proofs.Common.{◌≡◌, ℕ, zero, suc, ◌≤◌, [], ◌∷◌, ◌++◌, length, refl, sym, ◌∙◌, ap, subst, arith}
use Rattle.std.specs.Prelude.{Option, Some, None, ⊤, unwrap_or}
use Rattle.std.proofs.lemmas.List.{length-append, map-append}
use Rattle.pi_terms.specs.Tree.{Tree, var, int, atom, comp}
use Rattle.pi_terms.specs.Places.{Places, held}
use Rattle.pi_constraints.specs.Value.{Bindings}
use Rattle.pi_constraints.specs.State.{State, free, binding, bindings, followed_for, followed, with_new}
use Rattle.pi_constraints.specs.Evaluation.{with_new_variables}
use Rattle.pi_settling.specs.CalmLaws.{FollowedStay}
use Rattle.pi_rewrite_laws.specs.Roots.{RootsStay}
use Rattle.pi_rewrite_laws.proofs.ElementLemmas.{roots-stay-itself}

-- no variable
abbrev pub IsRooted : Tree → Type 0
IsRooted (var n) = ⊥
IsRooted (int n) = ⊤
IsRooted (atom name) = ⊤
IsRooted (comp name ts) = ⊤

-- all that is bound is bound to the same
abbrev pub BindsMore : Bindings → Bindings → Type 0
BindsMore b c = (n : ℕ) (u : Tree) → held b n ≡ Some u → held c n ≡ Some u

rooted-itself : (k : ℕ) (c : Bindings) (t : Tree) → IsRooted t → followed_for k c t ≡ t
unfolding followed_for
rooted-itself zero c t is = refl
rooted-itself (suc k) c (var n) is = absurd is
rooted-itself (suc k) c (int n) is = refl
rooted-itself (suc k) c (atom name) is = refl
rooted-itself (suc k) c (comp name ts) is = refl

pub unbound-itself : (k : ℕ) (b : Bindings) (n : ℕ) → held b n ≡ None → followed_for k b (var n) ≡ var n
unfolding followed_for
unbound-itself zero b n is = refl
unbound-itself (suc k) b n is = ap (λ (o : Option Tree). followed_for k b (unwrap_or o (var n))) is ∙ unbound-itself k b n is

followed-further : (k j : ℕ) (b c : Bindings) → k ≤ j → BindsMore b c → (t u : Tree) → IsRooted u → followed_for k b t ≡ u → followed_for j c t ≡ u
unfolding followed_for
followed-further zero j b c less more t u is found = subst (λ (x : Tree). followed_for j c x ≡ u) (sym found) (rooted-itself j c u is)
followed-further (suc k) zero b c less more t u is found = absurd (omega (arith, less))
followed-further (suc k) (suc j) b c less more (int n) u is found = found
followed-further (suc k) (suc j) b c less more (atom name) u is found = found
followed-further (suc k) (suc j) b c less more (comp name ts) u is found = found
followed-further (suc k) (suc j) b c less more (var n) u is found = go (λ v at. followed-further k j b c (omega (arith, less)) more v u is at) (held b n) refl
  where
    go : ((v : Tree) → followed_for k b v ≡ u → followed_for j c v ≡ u) → (o : Option Tree) → held b n ≡ o → followed_for j c (unwrap_or (held c n) (var n)) ≡ u
    go later None at = absurd (subst (λ (x : Tree). IsRooted x) (sym found ∙ ap (λ (o : Option Tree). followed_for k b (unwrap_or o (var n))) at ∙ unbound-itself k b n at) is)
    go later (Some v) at = ap (λ (o : Option Tree). followed_for j c (unwrap_or o (var n))) (more n v at) ∙ later v (sym (ap (λ (o : Option Tree). followed_for k b (unwrap_or o (var n))) at) ∙ found)

pub roots-stay : (s r : State) → length (bindings s) ≤ length (bindings r) → BindsMore (bindings s) (bindings r) → RootsStay s r
unfolding followed
roots-stay s r less more = record {
  compounds = λ t f ts is. followed-further (length (bindings s)) (length (bindings r)) (bindings s) (bindings r) less more t (comp f ts) tt is;
  atoms = λ t name is. followed-further (length (bindings s)) (length (bindings r)) (bindings s) (bindings r) less more t (atom name) tt is;
}

pub roots-stay-then : (s r q : State) → RootsStay s r → RootsStay r q → RootsStay s q
roots-stay-then s r q a b = record { compounds = λ t f ts is. b.compounds t f ts (a.compounds t f ts is); atoms = λ t name is. b.atoms t name (a.atoms t name is) }

-- so it is where each term that is followed to no variable stays
pub roots-by : (s r : State) → FollowedStay s r → RootsStay s r
roots-by s r h = record { compounds = λ t f ts at. h t (comp f ts) (λ n e. cc) at; atoms = λ t name at. h t (atom name) (λ n e. cc) at }

held-more : (xs ys : Places) (n : ℕ) (u : Tree) → held xs n ≡ Some u → held (xs ++ ys) n ≡ Some u
held-more [] ys n u is = absurd cc
held-more (x ∷ xs) ys zero u is = is
held-more (x ∷ xs) ys (suc n) u is = held-more xs ys n u is

-- one more variable binds nothing
pub new-stays : (s : State) → RootsStay s (with_new s)
new-stays s = roots-stay s (with_new s) (subst (λ (bs : Bindings). length (bindings s) ≤ length bs) (sym (map-append binding s.variables (free ∷ []))) (omega (arith, length-append (bindings s) (None ∷ []))))
    (λ n u is. subst (λ (bs : Bindings). held bs n ≡ Some u) (sym (map-append binding s.variables (free ∷ []))) (held-more (bindings s) (None ∷ []) n u is))

pub new-variables-stay : (k : ℕ) (s : State) → RootsStay s (with_new_variables k s)
unfolding with_new_variables
new-variables-stay zero s = roots-stay-itself s
new-variables-stay (suc k) s = roots-stay-then s (with_new s) (with_new_variables k (with_new s)) (new-stays s) (new-variables-stay k (with_new s))
