-- A goal without choices resumes behind its answer.
use Rattle.std.specs.Prelude.{◌≡◌, ◌≤◌, ℕ, List, ◌++◌, length}
use Rattle.std.proofs.Common.{arith, sym, ap, inl, inr}
use Rattle.pi_traces.specs.Trace.{Trace, end, note, ans, alt, then, answers}
use Rattle.pi_resume_spec.specs.Ways.{Way, Ways, straight, here}
use Rattle.pi_resume_spec.specs.Resumed.{to_answer, At, Leads}
use Rattle.pi_resume_spec.specs.PathLaws.{SimpleIsResumable}
use Rattle.pi_resume_spec.proofs.ResumedLemmas.{Begun, begun}
use Rattle.pi_resume_spec.proofs.ChoiceLemmas.{leads-passed}

none-there : {A : Type 0} (t : Trace A) (w : Way A) (rest : Ways A) → length (answers t) ≤ 0 → At (then t (λ x. here x)) w rest → ⊥
unfolding answers then alt Begun
none-there (end e) w rest l a = begun a
none-there (note n t) w rest l a = none-there t w rest l (begun a)
none-there (ans x t) w rest l a = absurd (omega arith)

first-leads : {A : Type 0} (x : A) (t : Trace A) (w : Way A) (rest : Ways A) (left : List ℕ) → w ≡ straight x → rest ≡ then t (λ y. here y) → Leads (to_answer (w.path ++ left) (ans x t)) w.path w.answer left rest
unfolding to_answer Leads
first-leads {A = A} x t w rest left e f = (sym (ap (λ (v : Way A). v.path) e), sym (ap (λ (v : Way A). v.answer) e), ap (λ (v : Way A). v.path ++ left) e, sym f)

pub simple_is_resumable : {A : Type 0} → SimpleIsResumable A
unfolding answers then alt to_answer Begun
simple_is_resumable (end e) l w rest left a = absurd (begun a)
simple_is_resumable (note n t) l w rest left a = leads-passed n (to_answer (w.path ++ left) t) w.path w.answer left rest (simple_is_resumable t l w rest left (begun a))
simple_is_resumable (ans x t) l w rest left a = elim (begun a) [
  | inl is ↦ first-leads x t w rest left is.0 is.1
  | inr later ↦ absurd (none-there t w rest (omega arith) later)
]
