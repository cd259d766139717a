-- The variables of a term as a list, and what a substitution does to a term.
use Rattle.std.proofs.Common.{Some, ◌≡◌, ◌≢◌, ◌⊎◌, ℕ, zero, suc, get_or, arith, false, ◌==◌, Bool, true, not, List, [], ◌∷◌, ◌++◌, filter, refl, ap, sym, ◌∙◌, subst, inl, inr}
use Rattle.pi_terms.specs.Tree.{tree_at, tree_count, Tree, var, int, atom, comp, Trees, no_trees, tree}
use Rattle.std.specs.Prelude.{Contains, All, AllPairs}
use Rattle.std.proofs.lemmas.Bool.{cases_Bool, eqb-true, not-true}
use Rattle.std.proofs.lemmas.Bool.Decides.{nat_tests}
use Rattle.std.proofs.lemmas.List.Elements.{Contains-get_or}
use Rattle.std.proofs.lemmas.List.Kept.{AllPairs-cons, AllPairs-filter}
use Rattle.pi_terms.specs.Variables.{occurrences, occurrences_all, firsts, variables, IsGround, Occurs, OccursInAny, VariablesAreThoseThatOccur, VariablesStandOnce, GroundHasNoVariable}
use Rattle.pi_terms.specs.Substitution.{instance, instances, after, SubstitutionComposes, GroundStays, OnlyItsVariablesCount}

-- ---- numbers in a list

abbrev pub Has : List ℕ → ℕ → Type 0
Has [] n = ⊥
Has (m ∷ ms) n = (m ≡ n) ⊎ Has ms n

pub Has-append_left : (xs ys : List ℕ) (n : ℕ) → Has xs n → Has (xs ++ ys) n
Has-append_left [] ys n h = absurd h
Has-append_left (x ∷ xs) ys n (inl e) = inl e
Has-append_left (x ∷ xs) ys n (inr h) = inr (Has-append_left xs ys n h)

pub Has-append_right : (xs ys : List ℕ) (n : ℕ) → Has ys n → Has (xs ++ ys) n
Has-append_right [] ys n h = h
Has-append_right (x ∷ xs) ys n h = inr (Has-append_right xs ys n h)

pub Has-append_cases : (xs ys : List ℕ) (n : ℕ) → Has (xs ++ ys) n → Has xs n ⊎ Has ys n
Has-append_cases [] ys n h = inr h
Has-append_cases (x ∷ xs) ys n (inl e) = inl (inl e)
Has-append_cases (x ∷ xs) ys n (inr h) = elim (Has-append_cases xs ys n h) [ inl k ↦ inl (inr k) | inr k ↦ inr k ]

pub Has-filter : (p : ℕ → Bool) (xs : List ℕ) (n : ℕ) → p n ≡ true → Has xs n → Has (filter p xs) n
Has-filter p [] n e h = absurd h
Has-filter p (x ∷ xs) n e (inl same) = rw (ap p same ∙ e) (inl same)
Has-filter p (x ∷ xs) n e (inr h) = elim (cases_Bool (p x)) [ inl hit ↦ rw hit (inr (Has-filter p xs n e h)) | inr miss ↦ rw miss (Has-filter p xs n e h) ]

pub Has-from_filter : (p : ℕ → Bool) (xs : List ℕ) (n : ℕ) → Has (filter p xs) n → Has xs n × (p n ≡ true)
Has-from_filter p [] n h = absurd h
Has-from_filter p (x ∷ xs) n h = elim (cases_Bool (p x)) [
  | inl hit ↦
      let k : (x ≡ n) ⊎ Has (filter p xs) n = rw hit at h in
      elim k [
        | inl same ↦ (inl same, ap p (sym same) ∙ hit)
        | inr rest ↦ let r : Has xs n × (p n ≡ true) = Has-from_filter p xs n rest in (inr r.0, r.1)
      ]
  | inr miss ↦
      let k : Has (filter p xs) n = rw miss at h in
      let r : Has xs n × (p n ≡ true) = Has-from_filter p xs n k in (inr r.0, r.1)
]

pub Has-firsts : (xs : List ℕ) (n : ℕ) → Has xs n → Has (firsts xs) n
unfolding firsts
Has-firsts [] n h = absurd h
Has-firsts (x ∷ xs) n (inl e) = inl e
Has-firsts (x ∷ xs) n (inr h) = elim (cases_Bool (n == x)) [
  | inl hit ↦ inl (sym (eqb-true n x hit))
  | inr miss ↦ inr (Has-filter (λ m. not (m == x)) (firsts xs) n (ap not miss) (Has-firsts xs n h))
]

pub Has-from_firsts : (xs : List ℕ) (n : ℕ) → Has (firsts xs) n → Has xs n
unfolding firsts
Has-from_firsts [] n h = absurd h
Has-from_firsts (x ∷ xs) n (inl e) = inl e
Has-from_firsts (x ∷ xs) n (inr h) = inr (Has-from_firsts xs n (Has-from_filter (λ m. not (m == x)) (firsts xs) n h).0)

no_firsts : (xs : List ℕ) → ((n : ℕ) → Has xs n → ⊥) → firsts xs ≡ []
unfolding firsts
no_firsts [] none = refl
no_firsts (x ∷ xs) none = absurd (none x (inl refl))

Has-from_contains : (xs : List ℕ) (n : ℕ) → Contains xs n → Has xs n
Has-from_contains [] n (k, within, e) = absurd (omega arith)
Has-from_contains (x ∷ xs) n (zero, within, e) = inl e
Has-from_contains (x ∷ xs) n (suc k, within, e) = inr (Has-from_contains xs n (k, omega arith, e))

contains-from_Has : (xs : List ℕ) (n : ℕ) → Has xs n → Contains xs n
contains-from_Has [] n h = absurd h
contains-from_Has (x ∷ xs) n (inl e) = (0, omega arith, e)
contains-from_Has (x ∷ xs) n (inr h) = let r : Contains xs n = contains-from_Has xs n h in let within = r.1 in (suc r.0, omega arith, r.2)

-- what is left of numbers without one differs from it
others : (x : ℕ) (xs : List ℕ) → All (λ n. x ≢ n) (filter (λ m. not (m == x)) xs)
others x xs k d within same =
    let kept : List ℕ = filter (λ m. not (m == x)) xs in
    let n : ℕ = get_or kept k d in
    let passes : not (n == x) ≡ true = (Has-from_filter (λ m. not (m == x)) xs n (Has-from_contains kept n (Contains-get_or kept k d within))).1 in
    let differs : (n == x) ≡ false = not-true (n == x) passes in
    absurd (grind (arith, nat_tests))

firsts_once : (xs : List ℕ) → AllPairs (λ m n. m ≢ n) (firsts xs)
unfolding firsts
firsts_once [] = λ i j d below within. absurd (omega arith)
firsts_once (x ∷ xs) =
    AllPairs-cons (λ m n. m ≢ n) x (filter (λ m. not (m == x)) (firsts xs)) (others x (firsts xs))
    (AllPairs-filter (λ m n. m ≢ n) (λ m. not (m == x)) (firsts xs) (firsts_once xs))

-- ---- variables that occur in a term

mutual
  unfolding occurrences Occurs

  pub Has-from_occurs : (t : Tree) (n : ℕ) → Occurs n t → Has (occurrences t) n
  Has-from_occurs (var m) n h = inl h
  Has-from_occurs (int m) n h = absurd h
  Has-from_occurs (atom name) n h = absurd h
  Has-from_occurs (comp name ts) n h = Has-from_occurs_any ts n h

  Has-from_occurs_any : (ts : Trees) (n : ℕ) → OccursInAny n ts → Has (occurrences_all ts) n
  Has-from_occurs_any no_trees n h = absurd h
  Has-from_occurs_any (tree t ts) n (inl h) = Has-append_left (occurrences t) (occurrences_all ts) n (Has-from_occurs t n h)
  Has-from_occurs_any (tree t ts) n (inr h) = Has-append_right (occurrences t) (occurrences_all ts) n (Has-from_occurs_any ts n h)

mutual
  unfolding occurrences Occurs

  pub occurs_from_Has : (t : Tree) (n : ℕ) → Has (occurrences t) n → Occurs n t
  occurs_from_Has (var m) n (inl e) = e
  occurs_from_Has (var m) n (inr h) = absurd h
  occurs_from_Has (int m) n h = absurd h
  occurs_from_Has (atom name) n h = absurd h
  occurs_from_Has (comp name ts) n h = occurs_any_from_Has ts n h

  occurs_any_from_Has : (ts : Trees) (n : ℕ) → Has (occurrences_all ts) n → OccursInAny n ts
  occurs_any_from_Has no_trees n h = absurd h
  occurs_any_from_Has (tree t ts) n h = elim (Has-append_cases (occurrences t) (occurrences_all ts) n h) [
    | inl k ↦ inl (occurs_from_Has t n k)
    | inr k ↦ inr (occurs_any_from_Has ts n k)
  ]

pub none_occurs : (t : Tree) (n : ℕ) → IsGround t → Occurs n t → ⊥
none_occurs t n ground h = let P : List ℕ → Type 0 = λ ns. Has ns n in subst P ground (Has-firsts (occurrences t) n (Has-from_occurs t n h))

pub ground_has_no_variable : GroundHasNoVariable
ground_has_no_variable t = (λ ground n h. none_occurs t n ground h, λ none. no_firsts (occurrences t) (λ n h. none n (occurs_from_Has t n h)))

pub variables_are_those_that_occur : VariablesAreThoseThatOccur
variables_are_those_that_occur t n = (
  λ h. occurs_from_Has t n (Has-from_firsts (occurrences t) n (Has-from_contains (variables t) n h)),
  λ h. contains-from_Has (variables t) n (Has-firsts (occurrences t) n (Has-from_occurs t n h)),
)

pub variables_stand_once : VariablesStandOnce
variables_stand_once t = firsts_once (occurrences t)

-- ---- substitution

mutual
  unfolding instance Occurs

  pub only_its_variables_count : OnlyItsVariablesCount
  only_its_variables_count r s (var n) same = same n refl
  only_its_variables_count r s (int n) same = refl
  only_its_variables_count r s (atom name) same = refl
  only_its_variables_count r s (comp name ts) same = ap (comp name) (only_their_variables_count r s ts same)

  only_their_variables_count : (r s : ℕ → Tree) (ts : Trees) → ((n : ℕ) → OccursInAny n ts → r n ≡ s n) → instances r ts ≡ instances s ts
  only_their_variables_count r s no_trees same = refl
  only_their_variables_count r s (tree t ts) same =
      let this : instance r t ≡ instance s t = only_its_variables_count r s t (λ n h. same n (inl h)) in
      let rest : instances r ts ≡ instances s ts = only_their_variables_count r s ts (λ n h. same n (inr h)) in
      cc

mutual
  unfolding instance

  pub instance-var : (t : Tree) → instance var t ≡ t
  instance-var (var n) = refl
  instance-var (int n) = refl
  instance-var (atom name) = refl
  instance-var (comp name ts) = ap (comp name) (instances-var ts)

  instances-var : (ts : Trees) → instances var ts ≡ ts
  instances-var no_trees = refl
  instances-var (tree t ts) = let this : instance var t ≡ t = instance-var t in let rest : instances var ts ≡ ts = instances-var ts in cc

mutual
  unfolding instance

  pub substitution : SubstitutionComposes
  substitution r s (var n) = refl
  substitution r s (int n) = refl
  substitution r s (atom name) = refl
  substitution r s (comp name ts) = ap (comp name) (substitutions r s ts)

  substitutions : (r s : ℕ → Tree) (ts : Trees) → instances r (instances s ts) ≡ instances (after r s) ts
  substitutions r s no_trees = refl
  substitutions r s (tree t ts) =
      let this : instance r (instance s t) ≡ instance (after r s) t = substitution r s t in
      let rest : instances r (instances s ts) ≡ instances (after r s) ts = substitutions r s ts in
      cc

pub ground_stays : GroundStays
ground_stays s t ground = only_its_variables_count s var t (λ n h. absurd (none_occurs t n ground h)) ∙ instance-var t

pub tree_count-instances : (s : ℕ → Tree) (ts : Trees) → tree_count (instances s ts) ≡ tree_count ts
unfolding tree_count instance
tree_count-instances s no_trees = refl
tree_count-instances s (tree t ts) = ap suc (tree_count-instances s ts)

pub tree_at-instances : (s : ℕ → Tree) (ts : Trees) (i : ℕ) (u : Tree) → tree_at ts i ≡ Some u → tree_at (instances s ts) i ≡ Some (instance s u)
unfolding tree_at instance
tree_at-instances s no_trees i u e = cc
tree_at-instances s (tree t ts) zero u e = ap Some (ap (instance s) (cc))
tree_at-instances s (tree t ts) (suc i) u e = tree_at-instances s ts i u e
