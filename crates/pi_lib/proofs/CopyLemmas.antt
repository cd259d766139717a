-- Copies as the effect of a function.
use Rattle.std.proofs.Common.{◌≡◌, cond, Ok, Err, refl, ap, sym, subst, lt-ltb}
use Rattle.pi_terms.specs.Tree.{Tree, cells, most_cells}
use Rattle.pi_terms.specs.Copy.{copy, new_variables}
use Rattle.pi_terms.proofs.OptionLemmas.{not-less}
use Rattle.pi_constraints.specs.State.{next}
use Rattle.pi_constraints.specs.Store.{StoreView}
use Rattle.pi_constraints.specs.Evaluation.{with_new_variables}
use Rattle.pi_constraints.specs.declared.store.Ref.{Ref}
use Rattle.pi_constraints.specs.declared.store.ReadStop.{ReadStop}
use Rattle.pi_unify.specs.Copying.{ShowsCopy}
use Rattle.pi_effects.specs.Effect.{Gives, Refuses}
use Rattle.pi_effects.specs.Exception.{term_too_large}
use Rattle.pi_effects.specs.Making.{copied}
use Rattle.pi_effects.specs.declared.fault.Stop.{Stop}
use Rattle.pi_effects.specs.Reads.{stop_of}
use Rattle.pi_effects.specs.Results.{ShowsEffect}
use Rattle.pi_lib.proofs.SizeLemmas.{gives_so}

pub copy_given : {M : Type 0} (v w : StoreView M) (u : Tree) (made : Ref) → ShowsCopy v w u (Ok made) → ShowsEffect v w (Ok made) (copied v.now.state u)
copy_given v w u made h =
    gives_so v w (new_variables u) made (copy (next v.now.state) u) (copied v.now.state u)
    (ap (λ q. cond q (Refuses term_too_large) (Gives (copy (next v.now.state) u) (with_new_variables (new_variables u) v.now.state))) (not-less most_cells (cells u) h.1)) h.0

copy_stops : {M : Type 0} (v w : StoreView M) (u : Tree) (stop : ReadStop) → ShowsCopy v w u (Err stop) → ShowsEffect v w (Err (stop_of stop)) (copied v.now.state u)
copy_stops v w u ReadStop.TooLarge h = (
  term_too_large,
  ap (λ q. cond q (Refuses term_too_large) (Gives (copy (next v.now.state) u) (with_new_variables (new_variables u) v.now.state))) (lt-ltb most_cells (cells u) h.1),
  refl,
  h.0,
)
copy_stops v w u ReadStop.Memory h = tt

pub copy_refused : {M : Type 0} (v w : StoreView M) (u : Tree) (stop : ReadStop) (e : Stop) → e ≡ stop_of stop → ShowsCopy v w u (Err stop) → ShowsEffect v w (Err e) (copied v.now.state u)
copy_refused v w u stop e is h = subst (λ (x : Stop). ShowsEffect v w (Err x) (copied v.now.state u)) (sym is) (copy_stops v w u stop h)
