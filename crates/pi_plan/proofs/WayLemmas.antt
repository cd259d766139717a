-- Ways lead to what is reached.
use Rattle.std.proofs.Common.{◌≡◌, ℕ, zero, suc, ◌<◌, List, [], ◌∷◌, ◌++◌, length, Some, sym, subst, inl, inr, arith}
use Rattle.std.specs.Prelude.{Bool, slice_get}
use Rattle.pi_terms.specs.Tree.{Tree}
use Rattle.pi_terms.proofs.GetLemmas.{get_append_left, get_append_cases}
use Rattle.pi_plan.specs.declared.given.GivenState.{GivenState}
use Rattle.pi_plan.specs.Plan.{Bodies, Reached, at_start, then_step}
use Rattle.pi_plan.specs.Given.{over}
use Rattle.pi_plan.proofs.GivenLemmas.{step_stays}
use Rattle.pi_plan.specs.declared.search.Way.{Way}
use Rattle.pi_plan.specs.declared.search.Origin.{Origin}
use Rattle.pi_plan.specs.Ways.{ComesFrom, AreWays, root}

-- ---- one more way

comes_stays : (b : Bodies) (start : Tree) (whole : ℕ) (ways : List Way) (v : Way) (i : ℕ) (w : Way) (o : Origin) → ComesFrom b (root start whole) ways i w o → ComesFrom b (root start whole) (ways ++ v ∷ []) i w o
comes_stays b start whole ways v i w Origin.Start h = h
comes_stays b start whole ways v i w (Origin.Step parent action) h = record {
  earlier = h.earlier;
  before = h.before;
  is_before = get_append_left ways (v ∷ []) parent h.before h.is_before;
  cost = h.cost;
  step = h.step;
  rest = h.rest;
}

pub ways_put : (b : Bodies) (start : Tree) (whole : ℕ) (ways : List Way) (v : Way) → AreWays b start whole ways → ComesFrom b (root start whole) ways (length ways) v v.origin → AreWays b start whole (ways ++ v ∷ [])
ways_put b start whole ways v are new = record {
  each = λ i w at. elim (get_append_cases ways v i w at) [
    | inl before ↦ comes_stays b start whole ways v i w w.origin (are.each i w before)
    | inr last ↦
        let P : ℕ → Way → Type 0 = λ j x. ComesFrom b (root start whole) (ways ++ v ∷ []) j x x.origin in
        let here : P (length ways) v = comes_stays b start whole ways v (length ways) v v.origin new in
        subst (λ (j : ℕ). P j w) (sym last.0) (subst (λ (x : Way). P (length ways) x) (sym last.1) here)
  ];
}

-- ---- one more entry

comes_given : (given : List GivenState) (e : GivenState) (by_rest : Bool) (start : Tree) (whole : ℕ) (ways : List Way) (i : ℕ) (w : Way) (o : Origin) →
    ComesFrom (over given by_rest) (root start whole) ways i w o → ComesFrom (over (given ++ e ∷ []) by_rest) (root start whole) ways i w o
comes_given given e by_rest start whole ways i w Origin.Start h = h
comes_given given e by_rest start whole ways i w (Origin.Step parent action) h = record {
  earlier = h.earlier;
  before = h.before;
  is_before = h.is_before;
  cost = h.cost;
  step = step_stays given e by_rest h.before.place.state h.before.rest action h.cost w.place.state h.step;
  rest = h.rest;
}

pub ways_given : (given : List GivenState) (e : GivenState) (by_rest : Bool) (start : Tree) (whole : ℕ) (ways : List Way) → AreWays (over given by_rest) start whole ways →
    AreWays (over (given ++ e ∷ []) by_rest) start whole ways
ways_given given e by_rest start whole ways are = record { each = λ i w at. comes_given given e by_rest start whole ways i w w.origin (are.each i w at) }

-- ---- what they lead to

reached_from : (b : Bodies) (start : Tree) (whole : ℕ) (ways : List Way) → ((s : Tree) (r : ℕ) → b.Final s r → ⊥) → (i : ℕ) (w : Way) (o : Origin) → ComesFrom b (root start whole) ways i w o →
    ((j : ℕ) (v : Way) → j < i → slice_get ways j ≡ Some v → Reached b start whole v.place.state v.rest) → Reached b start whole w.place.state w.rest
reached_from b start whole ways none i w Origin.Start h before =
    subst (λ (s : Tree). Reached b start whole s w.rest) (sym h.state) (subst (λ (r : ℕ). Reached b start whole start r) (sym h.rest) at_start)
reached_from b start whole ways none i w (Origin.Step parent action) h before =
    subst (λ (r : ℕ). Reached b start whole w.place.state r) (sym h.rest)
    (then_step (before parent h.before h.earlier h.is_before) (none h.before.place.state h.before.rest) h.step)

reached_below : (b : Bodies) (start : Tree) (whole : ℕ) (ways : List Way) → AreWays b start whole ways → ((s : Tree) (r : ℕ) → b.Final s r → ⊥) → (n i : ℕ) → i < n → (w : Way) → slice_get ways i ≡ Some w →
    Reached b start whole w.place.state w.rest
reached_below b start whole ways are none zero i h w at = absurd (omega arith)
reached_below b start whole ways are none (suc n) i h w at =
    reached_from b start whole ways none i w w.origin (are.each i w at) (λ j v less here. reached_below b start whole ways are none n j (omega arith) v here)

pub reached_way : (b : Bodies) (start : Tree) (whole : ℕ) (ways : List Way) → AreWays b start whole ways → ((s : Tree) (r : ℕ) → b.Final s r → ⊥) → (i : ℕ) (w : Way) → slice_get ways i ≡ Some w →
    Reached b start whole w.place.state w.rest
reached_way b start whole ways are none i w at = reached_below b start whole ways are none (suc i) i (omega arith) w at
