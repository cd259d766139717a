-- Calls of a store over raw words that change nothing.
use Rattle.std.proofs.Common.{◌≡◌, Result, Ok, Err, refl, sym, subst}
use Rattle.std.specs.Result.{OnErr}
use Rattle.pi_constraints.specs.Store.{Stays}
use Rattle.pi_region.specs.Image.{Image}
use Rattle.pi_store_blocks.specs.NameTable.{NameTable}
use Rattle.pi_store.specs.Holding.{view_of}

-- what stays as it is
pub stays_itself : (t : NameTable) (i : Image) → Stays (view_of t i) (view_of t i)
stays_itself t i = record { keeps = record { good = λ m e. e; same = λ m e. refl; beside = λ m. refl; terms = λ r x e. e; names = λ k name e. e }; state = refl }

-- a call that is refused leaves all as it was
pub refused : {A E : Type 0} (r : Result A E) (t : NameTable) (i j : Image) → j ≡ i → OnErr r (Stays (view_of t i) (view_of t j))
refused (Ok x) t i j same = tt
refused (Err e) t i j same = subst (λ (k : Image). Stays (view_of t i) (view_of t k)) (sym same) (stays_itself t i)

pub on_err : {A E : Type 0} (r : Result A E) (P : Type 0) → P → OnErr r P
on_err (Ok x) P h = tt
on_err (Err e) P h = h
