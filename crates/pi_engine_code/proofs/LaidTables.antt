-- Tables that get longer, and stores that get terms.
use Rattle.std.proofs.Common.{◌≡◌, List, [], ◌∷◌, ◌++◌, refl, ◌∙◌, ap}
use Rattle.std.specs.Prelude.{slice_get}
use Rattle.pi_constraints.specs.Store.{StoreView}
use Rattle.pi_terms.proofs.GetLemmas.{get_append_left}
use Rattle.pi_unify.proofs.KeepsLemmas.{keeps_none, stays_then}
use Rattle.pi_engine_code.specs.declared.code.Code.{Code}
use Rattle.pi_engine_code.specs.Laid.{Longer, Adds, AddsParts, AddsOperands, AddsSteps}

-- ---- lists

pub longer-same : {A : Type 0} (xs ys : List A) → ys ≡ xs → Longer xs ys
longer-same xs ys e i x at = ap (λ r. slice_get r i) e ∙ at

pub longer-pushed : {A : Type 0} (xs ys : List A) (y : A) → ys ≡ xs ++ y ∷ [] → Longer xs ys
longer-pushed xs ys y e i x at = ap (λ r. slice_get r i) e ∙ get_append_left xs (y ∷ []) i x at

-- ---- tables

pub adds-none : {M : Type 0} (v : StoreView M) (c : Code) → Adds v v c c
adds-none v c =
    record {
      stays = record { keeps = keeps_none v; state = refl };
      core = refl;
      steps = λ i x at. at;
      operands = λ i x at. at;
      parts = λ i x at. at;
      names = λ i x at. at;
      tests = λ i x at. at;
      rules = λ i x at. at;
      predicates = λ i x at. at;
    }

pub adds-then : {M : Type 0} (u v w : StoreView M) (c d e : Code) → Adds u v c d → Adds v w d e → Adds u w c e
adds-then u v w c d e a b =
    record {
      stays = stays_then u v w u.now.state a.stays b.stays;
      core = b.core ∙ a.core;
      steps = λ i x at. b.steps i x (a.steps i x at);
      operands = λ i x at. b.operands i x (a.operands i x at);
      parts = λ i x at. b.parts i x (a.parts i x at);
      names = λ i x at. b.names i x (a.names i x at);
      tests = λ i x at. b.tests i x (a.tests i x at);
      rules = λ i x at. b.rules i x (a.rules i x at);
      predicates = λ i x at. b.predicates i x (a.predicates i x at);
    }

pub parts-none : {M : Type 0} (v : StoreView M) (c : Code) → AddsParts v v c c
parts-none v c = record { adds = adds-none v c; steps = refl; operands = refl; tests = refl; rules = refl; predicates = refl }

pub parts-then : {M : Type 0} (u v w : StoreView M) (c d e : Code) → AddsParts u v c d → AddsParts v w d e → AddsParts u w c e
parts-then u v w c d e a b =
    record {
      adds = adds-then u v w c d e a.adds b.adds;
      steps = b.steps ∙ a.steps;
      operands = b.operands ∙ a.operands;
      tests = b.tests ∙ a.tests;
      rules = b.rules ∙ a.rules;
      predicates = b.predicates ∙ a.predicates;
    }

pub operands-none : {M : Type 0} (v : StoreView M) (c : Code) → AddsOperands v v c c
operands-none v c = record { adds = adds-none v c; steps = refl; tests = refl; rules = refl; predicates = refl }

pub operands-by-parts : {M : Type 0} (v w : StoreView M) (c d : Code) → AddsParts v w c d → AddsOperands v w c d
operands-by-parts v w c d a = record { adds = a.adds; steps = a.steps; tests = a.tests; rules = a.rules; predicates = a.predicates }

pub operands-then : {M : Type 0} (u v w : StoreView M) (c d e : Code) → AddsOperands u v c d → AddsOperands v w d e → AddsOperands u w c e
operands-then u v w c d e a b =
    record { adds = adds-then u v w c d e a.adds b.adds; steps = b.steps ∙ a.steps; tests = b.tests ∙ a.tests; rules = b.rules ∙ a.rules; predicates = b.predicates ∙ a.predicates }

pub steps-none : {M : Type 0} (v : StoreView M) (c : Code) → AddsSteps v v c c
steps-none v c = record { adds = adds-none v c; tests = refl; rules = refl; predicates = refl }

pub steps-by-operands : {M : Type 0} (v w : StoreView M) (c d : Code) → AddsOperands v w c d → AddsSteps v w c d
steps-by-operands v w c d a = record { adds = a.adds; tests = a.tests; rules = a.rules; predicates = a.predicates }

pub steps-then : {M : Type 0} (u v w : StoreView M) (c d e : Code) → AddsSteps u v c d → AddsSteps v w d e → AddsSteps u w c e
steps-then u v w c d e a b =
    record { adds = adds-then u v w c d e a.adds b.adds; tests = b.tests ∙ a.tests; rules = b.rules ∙ a.rules; predicates = b.predicates ∙ a.predicates }
