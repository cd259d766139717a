-- Terms that are read, and their texts.
use Rattle.std.specs.Prelude.{nat_lt}
use Rattle.std.proofs.Common.{◌≡◌, ℕ, ◌<◌, ◌≤◌, Bool, true, false, cond, List, Ok, Err, refl, ap, sym, ◌∙◌, subst, lt-ltb}
use Rattle.pi_terms.specs.Tree.{Tree, cells, most_cells}
use Rattle.pi_terms.proofs.OptionLemmas.{not-less}
use Rattle.pi_constraints.specs.Store.{StoreView, ShowsRead}
use Rattle.pi_constraints.specs.declared.store.ReadStop.{ReadStop}
use Rattle.pi_syntax.specs.PrintTerm.{text_of}
use Rattle.pi_effects.specs.Answer.{Answer, measured}
use Rattle.pi_effects.specs.Exception.{term_too_large}
use Rattle.pi_effects.specs.declared.fault.Stop.{Stop}
use Rattle.pi_effects.specs.Reads.{stop_of}
use Rattle.pi_effects.specs.Results.{Stops}

-- ---- what is measured

pub few_cells : {A : Type 0} (u : Tree) (a : Answer A) → cells u ≤ most_cells → measured u a ≡ a
few_cells u a few = ap (λ q. cond q (Err term_too_large) a) (not-less most_cells (cells u) few)

pub many_cells : {A : Type 0} (u : Tree) (a : Answer A) → most_cells < cells u → measured u a ≡ Err term_too_large
many_cells u a many = ap (λ q. cond q (Err term_too_large) a) (lt-ltb most_cells (cells u) many)

-- a term that is read, and one that is refused
pub read_is : (quoted : Bool) (u read : Tree) (text : List ℕ) → ShowsRead u (Ok read) → text ≡ text_of quoted read → measured u (Ok (text_of quoted u)) ≡ Ok text
read_is quoted u read text h e = few_cells u (Ok (text_of quoted u)) h.1 ∙ ap Ok (ap (text_of quoted) (sym h.0) ∙ sym e)

read_refused : {M A : Type 0} (v : StoreView M) (u : Tree) (a : Answer A) (stop : ReadStop) → ShowsRead u (Err stop) → Stops v (stop_of stop) (measured u a)
read_refused v u a ReadStop.TooLarge many = (term_too_large, many_cells u a many, refl)
read_refused v u a ReadStop.Memory h = tt

pub read_stops : {M A : Type 0} (v : StoreView M) (u : Tree) (a : Answer A) (stop : ReadStop) (e : Stop) → e ≡ stop_of stop → ShowsRead u (Err stop) → Stops v e (measured u a)
read_stops v u a stop e is h = subst (λ (x : Stop). Stops v x (measured u a)) (sym is) (read_refused v u a stop h)

-- ---- what follows from a text that is measured

measured_raised : {A B : Type 0} (q : Bool) (x : A) (b : Answer B) (ball : Tree) → cond q (Err term_too_large) (Ok x) ≡ Err ball → cond q (Err term_too_large) b ≡ Err ball
measured_raised true x b ball e = cc
measured_raised false x b ball e = cc

pub raised_too : {A B : Type 0} (u : Tree) (x : A) (b : Answer B) (ball : Tree) → measured u (Ok x) ≡ Err ball → measured u b ≡ Err ball
raised_too u x b ball e = measured_raised (nat_lt most_cells (cells u)) x b ball e

measured_given : {A B : Type 0} (q : Bool) (x y : A) (f : A → B) → cond q (Err term_too_large) (Ok x) ≡ Ok y → cond q (Err term_too_large) (Ok (f x)) ≡ Ok (f y)
measured_given true x y f e = cc
measured_given false x y f e = cc

pub given_too : {A B : Type 0} (u : Tree) (x y : A) (f : A → B) → measured u (Ok x) ≡ Ok y → measured u (Ok (f x)) ≡ Ok (f y)
given_too u x y f e = measured_given (nat_lt most_cells (cells u)) x y f e
