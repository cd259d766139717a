-- One more run, or another one in a run's place.
use Rattle.std.proofs.Common.{◌≡◌, ℕ, zero, suc, List, [], ◌∷◌, ◌++◌, set, Result, Ok, Err, IfOk, OnErr}
use Rattle.pi_top.specs.declared.runs.QueryRun.{QueryRun}
use Rattle.pi_top.specs.Runs.{RanWithin, AllWithin}
use Rattle.pi_top.specs.Took.{Bounds}

pub AllWithin-push : (may : Bounds) (runs : List QueryRun) (run : QueryRun) → RanWithin may run → AllWithin may runs → AllWithin may (runs ++ run ∷ [])
AllWithin-push may [] run within all = (within, tt)
AllWithin-push may (first ∷ more) run within all = (all.0, AllWithin-push may more run within all.1)

pub AllWithin-set : (may : Bounds) (runs : List QueryRun) (i : ℕ) (run : QueryRun) → RanWithin may run → AllWithin may runs → AllWithin may (set runs i run)
AllWithin-set may [] i run within all = tt
AllWithin-set may (first ∷ more) zero run within all = (within, all.1)
AllWithin-set may (first ∷ more) (suc i) run within all = (all.0, AllWithin-set may more i run within all.1)

pub AllWithin-pushed : {T E : Type 0} (r : Result T E) (may : Bounds) (old new : List QueryRun) (run : QueryRun)
    → IfOk r (λ _. new ≡ old ++ run ∷ []) → OnErr r (new ≡ old) → RanWithin may run → AllWithin may old → AllWithin may new
AllWithin-pushed (Ok x) may old new run ok err within all = rw ok (AllWithin-push may old run within all)
AllWithin-pushed (Err e) may old new run ok err within all = rw err all

pub AllWithin-put : (may : Bounds) (old new : List QueryRun) (i : ℕ) (run : QueryRun) → new ≡ set old i run → RanWithin may run
    → AllWithin may old → AllWithin may new
AllWithin-put may old new i run is within all = rw is (AllWithin-set may old i run within all)
