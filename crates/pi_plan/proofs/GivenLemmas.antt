-- What was given as bodies: every rest where the search isn't by rests, and one more entry.
use Rattle.std.proofs.Common.{◌≡◌, ℕ, List, [], ◌∷◌, ◌++◌, Bool, true, false, sym, subst, inl, inr}
use Rattle.std.specs.Prelude.{Contains}
use Rattle.std.proofs.lemmas.List.Elements.{Contains-append_left, Contains-push_cases}
use Rattle.pi_terms.specs.Tree.{Tree}
use Rattle.pi_plan.specs.declared.given.GivenState.{GivenState}
use Rattle.pi_plan.specs.Plan.{Step, Reached, at_start, then_step, Exhausted}
use Rattle.pi_plan.specs.Given.{StandsFor, GivenFinal, GivenStep, IsGiven, GivenDone, over}
use Rattle.pi_plan.proofs.PlanLemmas.{RestFree, none_where_none_final}

-- ---- not by rests

pub stands_anywhere : (e : GivenState) (s : Tree) (r m : ℕ) → StandsFor false e s r → StandsFor false e s m
stands_anywhere e s r m h = record { state = h.state; rest = λ e. absurd (cc) }

final_anywhere : (given : List GivenState) (s : Tree) (r m : ℕ) → GivenFinal given false s r → GivenFinal given false s m
final_anywhere given s r m f = record { entry = f.entry; among = f.among; stands = stands_anywhere f.entry s r m f.stands; is_final = f.is_final }

gives_anywhere : (given : List GivenState) (s : Tree) (r m : ℕ) (a : Tree) (c : ℕ) (t : Tree) → GivenStep given false s r a c t → GivenStep given false s m a c t
gives_anywhere given s r m a c t g = record {
  entry = g.entry;
  among = g.among;
  stands = stands_anywhere g.entry s r m g.stands;
  successor = g.successor;
  offered = g.offered;
  faultless = g.faultless;
  action = g.action;
  state = g.state;
}

given_anywhere : (given : List GivenState) (s : Tree) (r m : ℕ) → IsGiven given false s r → IsGiven given false s m
given_anywhere given s r m g = record { entry = g.entry; among = g.among; stands = stands_anywhere g.entry s r m g.stands }

done_anywhere : (given : List GivenState) (s : Tree) (r m : ℕ) → GivenDone given false s r → GivenDone given false s m
done_anywhere given s r m d = record {
  is_given = given_anywhere given s r m d.is_given;
  not_final = λ e among stands. d.not_final e among (stands_anywhere e s m r stands);
  faultless = λ e among stands. d.faultless e among (stands_anywhere e s m r stands);
}

pub over_is_free : (given : List GivenState) → RestFree (over given false)
over_is_free given = record { final = final_anywhere given; gives = gives_anywhere given; done = done_anywhere given }

-- ---- one more entry

pub final_stays : (given : List GivenState) (e : GivenState) (by_rest : Bool) (s : Tree) (r : ℕ) → GivenFinal given by_rest s r → GivenFinal (given ++ e ∷ []) by_rest s r
final_stays given e by_rest s r f = record { entry = f.entry; among = Contains-append_left given (e ∷ []) f.entry f.among; stands = f.stands; is_final = f.is_final }

pub gives_stays : (given : List GivenState) (e : GivenState) (by_rest : Bool) (s : Tree) (r : ℕ) (a : Tree) (c : ℕ) (t : Tree) →
    GivenStep given by_rest s r a c t → GivenStep (given ++ e ∷ []) by_rest s r a c t
gives_stays given e by_rest s r a c t g = record {
  entry = g.entry;
  among = Contains-append_left given (e ∷ []) g.entry g.among;
  stands = g.stands;
  successor = g.successor;
  offered = g.offered;
  faultless = g.faultless;
  action = g.action;
  state = g.state;
}

pub step_stays : (given : List GivenState) (e : GivenState) (by_rest : Bool) (s : Tree) (r : ℕ) (a : Tree) (c : ℕ) (t : Tree) →
    Step (over given by_rest) s r a c t → Step (over (given ++ e ∷ []) by_rest) s r a c t
step_stays given e by_rest s r a c t step = record { given = gives_stays given e by_rest s r a c t step.given; within = step.within }

pub given_stays : (given : List GivenState) (e : GivenState) (by_rest : Bool) (s : Tree) (r : ℕ) → IsGiven given by_rest s r → IsGiven (given ++ e ∷ []) by_rest s r
given_stays given e by_rest s r g = record { entry = g.entry; among = Contains-append_left given (e ∷ []) g.entry g.among; stands = g.stands }

-- an entry stands for nothing that another one stands for
pub record IsNew (given : List GivenState) (e : GivenState) (by_rest : Bool) : Type 0 where
  pub apart : (s : Tree) (r : ℕ) → IsGiven given by_rest s r → StandsFor by_rest e s r → ⊥

-- an entry that stands for what was given before is one of those before
older : (given : List GivenState) (e : GivenState) (by_rest : Bool) → IsNew given e by_rest → (s : Tree) (r : ℕ) → IsGiven given by_rest s r →
    (f : GivenState) → Contains (given ++ e ∷ []) f → StandsFor by_rest f s r → Contains given f
older given e by_rest new s r g f among stands = elim (Contains-push_cases given e f among) [
  | inl old ↦ old
  | inr same ↦ let P : GivenState → Type 0 = λ x. StandsFor by_rest x s r in absurd (new.apart s r g (subst P (sym same) stands))
]

done_stays : (given : List GivenState) (e : GivenState) (by_rest : Bool) → IsNew given e by_rest → (s : Tree) (r : ℕ) → GivenDone given by_rest s r → GivenDone (given ++ e ∷ []) by_rest s r
done_stays given e by_rest new s r d = record {
  is_given = given_stays given e by_rest s r d.is_given;
  not_final = λ f among stands. d.not_final f (older given e by_rest new s r d.is_given f among stands) stands;
  faultless = λ f among stands. d.faultless f (older given e by_rest new s r d.is_given f among stands) stands;
}

step_back : (given : List GivenState) (e : GivenState) (by_rest : Bool) → IsNew given e by_rest → (s : Tree) (r : ℕ) (a : Tree) (c : ℕ) (t : Tree) →
    IsGiven given by_rest s r → Step (over (given ++ e ∷ []) by_rest) s r a c t → Step (over given by_rest) s r a c t
step_back given e by_rest new s r a c t g step = record {
  given = record {
    entry = step.given.entry;
    among = older given e by_rest new s r g step.given.entry step.given.among step.given.stands;
    stands = step.given.stands;
    successor = step.given.successor;
    offered = step.given.offered;
    faultless = step.given.faultless;
    action = step.given.action;
    state = step.given.state;
  };
  within = step.within;
}

reached_back : (given : List GivenState) (e : GivenState) (by_rest : Bool) → IsNew given e by_rest → (start : Tree) (m : ℕ) → Exhausted (over given by_rest) start m →
    (s : Tree) (r : ℕ) → Reached (over (given ++ e ∷ []) by_rest) start m s r → Reached (over given by_rest) start m s r
reached_back given e by_rest new start m ex s r at_start = at_start
reached_back given e by_rest new start m ex s r (then_step {s = u} {r = q} {a = a} {c = c} reached not_final step) =
    let before : Reached (over given by_rest) start m u q = reached_back given e by_rest new start m ex u q reached in
    then_step before (λ f. not_final (final_stays given e by_rest u q f)) (step_back given e by_rest new u q a c s (ex.done u q before).is_given step)

not_true : (x : Bool) → x ≡ true → x ≡ false → ⊥
not_true x e h = cc

done_not_final : (given : List GivenState) (by_rest : Bool) (s : Tree) (r : ℕ) → GivenDone given by_rest s r → GivenFinal given by_rest s r → ⊥
done_not_final given by_rest s r d f = not_true f.entry.is_final f.is_final (d.not_final f.entry f.among f.stands)

-- a number that is exhausted stays so, when one more entry is given that is new
pub exhausted_stays : (given : List GivenState) (e : GivenState) (by_rest : Bool) → IsNew given e by_rest → (start : Tree) (m : ℕ) →
    Exhausted (over given by_rest) start m → Exhausted (over (given ++ e ∷ []) by_rest) start m
exhausted_stays given e by_rest new start m ex =
    let done : (s : Tree) (r : ℕ) → Reached (over (given ++ e ∷ []) by_rest) start m s r → GivenDone (given ++ e ∷ []) by_rest s r =
    λ s r reached. done_stays given e by_rest new s r (ex.done s r (reached_back given e by_rest new start m ex s r reached)) in
    record {
      none = λ plan cost v. none_where_none_final (over (given ++ e ∷ []) by_rest) start m
          (λ s r reached. done_not_final (given ++ e ∷ []) by_rest s r (done s r reached)) start m plan cost at_start v;
      done = done;
    }
