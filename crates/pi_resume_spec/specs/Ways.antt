-- Paths: the choices on the way to each answer of a trace, in the order in which they were made. The rule or fact of a call that isn't quiet, the branch of a
-- disjunction, the alternative of a labelling and the side of a `catch` are numbers from 1 on; what runs at a strict place adds none. (Own.)
use Rattle.std.specs.Prelude.{◌≢◌, ◌⊎◌, ℕ, suc, List, [], ◌∷◌, ◌++◌, AllPairs}
use Rattle.pi_terms.specs.Tree.{Tree}
use Rattle.pi_traces.specs.Trace.{Trace, done, one, alt, then, answers}
use Rattle.pi_traces.specs.Control.{caught}

-- an answer with its path
pub record Way (A : Type 0) : Type 0 where
  pub path : List ℕ
  pub answer : A

abbrev pub Ways : Type 0 → Type 0
Ways A = Trace (Way A)

-- the answers by themselves
abbrev pub plain : {A : Type 0} → Ways A → Trace A
plain t = then t (λ w. one w.answer)

-- ---- how paths come about

-- an answer without a choice
abbrev pub straight : {A : Type 0} → A → Way A
straight x = record { path = []; answer = x }

abbrev pub here : {A : Type 0} → A → Ways A
here x = one (straight x)

-- a goal at a strict place, or one that makes no choice: its answers, of which there is one at most, have no choices on their way
abbrev pub without_choices : {A : Type 0} → Trace A → Ways A
without_choices t = then t (λ x. here x)

-- one more choice in front
abbrev pub choosing : {A : Type 0} → ℕ → Way A → Way A
choosing k w = record { path = k ∷ w.path; answer = w.answer }

abbrev pub numbered : {A : Type 0} → ℕ → Ways A → Ways A
numbered k t = then t (λ w. one (choosing k w))

-- these choices in front
abbrev pub behind : {A : Type 0} → List ℕ → Way A → Way A
behind path w = record { path = path ++ w.path; answer = w.answer }

-- one goal after another
abbrev pub followed_by : {A B : Type 0} → Ways A → (A → Ways B) → Ways B
followed_by t f = then t (λ w. then (f w.answer) (λ v. one (behind w.path v)))

-- the alternatives of a choice, from this number on
unfoldable pub choice_from : {A : Type 0} → ℕ → List (Ways A) → Ways A
choice_from k [] = done
choice_from k (t ∷ ts) = alt (numbered k t) (choice_from (suc k) ts)

abbrev pub choice : {A : Type 0} → List (Ways A) → Ways A
choice ts = choice_from 1 ts

-- a `catch`: 1 in its goal, 2 in its handler
abbrev pub catching : {A : Type 0} → Ways A → (Tree → Ways A) → Ways A
catching t handler = caught (numbered 1 t) (λ ball. numbered 2 (handler ball))

-- ---- paths that lead apart: neither goes on with the other

unfoldable pub Diverge : List ℕ → List ℕ → Type 0
Diverge [] q = ⊥
Diverge (j ∷ p) [] = ⊥
Diverge (j ∷ p) (k ∷ q) = (j ≢ k) ⊎ Diverge p q

-- the paths of a trace's answers do, each two of them
abbrev pub Apart : {A : Type 0} → Ways A → Type 0
Apart t = AllPairs (λ v w. Diverge v.path w.path) (answers t)
