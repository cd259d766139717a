-- Settling keeps what terms are followed to, in any state: it binds only variables, to integers.
use Rattle.pi_constraints.specs.State.{State}
use Rattle.pi_traces.proofs.AnswerLemmas.{EachAnswer}
use Rattle.pi_settling.specs.Settled.{with_events}
use Rattle.pi_settling.proofs.SettleKeeps.{followed_stay}
use Rattle.pi_meaning.specs.Shared.Settle.{settled}
use Rattle.pi_meaning.proofs.Shared.SettleLemmas.{settled-each}
use Rattle.pi_rewrite_laws.specs.Roots.{RootsStay}
use Rattle.pi_rewrite_laws.proofs.StayLemmas.{roots-stay-then}

-- what stays up to the state that a goal left stays when that is settled, whatever state the goal began in
pub settling-stays : (s before r : State) → RootsStay s r → EachAnswer (RootsStay s) (settled before r)
settling-stays s before r h =
    settled-each (RootsStay s) before r (λ unchanged. h)
    (λ q is. roots-stay-then s r (with_events before q) h (record { compounds = λ t f ts at. (followed_stay r q t is).2 f ts at; atoms = λ t name at. (followed_stay r q t is).1 name at }))
