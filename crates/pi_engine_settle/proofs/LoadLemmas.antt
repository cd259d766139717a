-- Steps that have a load, or none: what they lead to.
use Rattle.std.proofs.Common.{◌≡◌, ℕ, zero, suc, ◌<◌, List, [], ◌∷◌, subst, arith}
use Rattle.pi_core.specs.CoreTree.{PredTree}
use Rattle.pi_core.specs.declared.core_program.NameSlot.{NameSlot}
use Rattle.pi_traces.specs.Trace.{note, Load, Emitted, noted, emit}
use Rattle.pi_traces.specs.Depth.{Below}
use Rattle.pi_traces.proofs.BelowLemmas.{below-refl}
use Rattle.pi_meaning.specs.CoreMeaning.Run.{Solution}
use Rattle.pi_meaning.specs.Shared.View.{View}
use Rattle.pi_meaning.specs.Machine.Built.{AreOfRules}
use Rattle.pi_meaning.specs.Machine.Configuration.{Config}
use Rattle.pi_meaning.specs.Machine.Laws.{Comes, GoesOnGood}
use Rattle.pi_meaning.specs.Machine.Leads.{Leads, IsAtNote}
use Rattle.pi_meaning.specs.Machine.Remaining.{remaining}
use Rattle.pi_meaning.specs.Machine.Shape.{IsGood}
use Rattle.pi_meaning.specs.Machine.Step.{loading, loaded_step, step}
use Rattle.pi_meaning.proofs.Machine.GoodSteps.{step-good}
use Rattle.pi_meaning.proofs.Machine.LeadLemmas.{leads-none, leads-silent, step-silent, good-silent}
use Rattle.pi_meaning.proofs.Machine.MachineSteps.{step-comes}

-- the notes of a settlement: its load, where it has one
abbrev pub load_notes : ℕ → List (Emitted Solution)
load_notes zero = []
load_notes (suc n) = noted (Load (suc n)) ∷ []

loading-leads : (v : View) (preds : List PredTree) (names : List NameSlot) (a b : Config) (n : ℕ) → ((d : ℕ) → remaining v preds names d a ≡ note (Load n) (remaining v preds names d b)) → Leads v preds names (noted (Load n) ∷ []) a b
unfolding emit
loading-leads v preds names a b n h = record { depth = λ d. d; below = λ d. subst (λ t. Below t (remaining v preds names d a)) (h d) (below-refl (remaining v preds names d a)) }

pub step-loads : (v : View) (preds : List PredTree) (names : List NameSlot) (c after : Config) (n : ℕ) → AreOfRules preds → IsGood c → step v preds names c ≡ loading n after → Leads v preds names (noted (Load n) ∷ []) c after
step-loads v preds names c after n sound good h = loading-leads v preds names c after n (subst (Comes v preds names c) h (step-comes v preds names c sound good))

-- it is about to tell the load
pub step-at_load : (v : View) (preds : List PredTree) (names : List NameSlot) (c after : Config) (n : ℕ) → AreOfRules preds → IsGood c → step v preds names c ≡ loading n after → IsAtNote v preds names (Load n) c
step-at_load v preds names c after n sound good h =
    let comes : (d : ℕ) → remaining v preds names d c ≡ note (Load n) (remaining v preds names d after) = subst (Comes v preds names c) h (step-comes v preds names c sound good) in
    record { depth = 0; rest = remaining v preds names 0 after; begins = comes 0 }

pub good-loading : (v : View) (preds : List PredTree) (names : List NameSlot) (c after : Config) (n : ℕ) → IsGood c → step v preds names c ≡ loading n after → IsGood after
good-loading v preds names c after n good h = subst GoesOnGood h (step-good v preds names c good)

-- with a load, or without one
pub step-loaded : (v : View) (preds : List PredTree) (names : List NameSlot) (c after : Config) (n : ℕ) → AreOfRules preds → IsGood c → step v preds names c ≡ loaded_step n after → Leads v preds names (load_notes n) c after × IsGood after
step-loaded v preds names c after zero sound good h = (leads-silent v preds names [] c c after (leads-none v preds names c) (step-silent v preds names c after sound good h), good-silent v preds names c after good h)
step-loaded v preds names c after (suc n) sound good h = (step-loads v preds names c after (suc n) sound good h, good-loading v preds names c after (suc n) good h)

pub at-load : (v : View) (preds : List PredTree) (names : List NameSlot) (c after : Config) (n : ℕ) → AreOfRules preds → IsGood c → 0 < n → step v preds names c ≡ loaded_step n after → (k : ℕ) × IsAtNote v preds names (Load k) c
at-load v preds names c after zero sound good some h = absurd (omega (arith, some))
at-load v preds names c after (suc n) sound good some h = (suc n, step-at_load v preds names c after (suc n) sound good h)
