-- The slots of a compound are filled, one part after the other.
use Rattle.std.proofs.Common.{◌≡◌, ℕ, ◌+◌, ◌-◌, ◌≤◌, ◌<◌, List, [], ◌∷◌, ◌++◌, Some, None, length, take, drop, sym, ◌∙◌, ap, subst, arith}
use Rattle.std.specs.Prelude.{slice_get}
use Rattle.pi_terms.specs.Places.{Places}
use Rattle.pi_constraints.specs.State.{State}
use Rattle.pi_constraints.specs.Store.{StoreView}
use Rattle.pi_terms.proofs.GetLemmas.{take_more}
use Rattle.pi_engine_code.specs.declared.code.Part.{Part}
use Rattle.pi_engine_code.specs.Code.{Tables}
use Rattle.pi_engine_arenas.specs.Arenas.{ArenasView, between}
use Rattle.pi_engine_stands.specs.Here.{Block, Holds, IsReadablePart}
use Rattle.pi_engine_stands.specs.Evaluates.{Filling, filled_one, filled_by, parts_between, AreReadableParts, WritesFilling}
use Rattle.pi_terms.proofs.ListLemmas.{take-take, none-past}
use Rattle.pi_engine_stands.proofs.PartsStand.{part-between, filled-last}
use Rattle.pi_engine_stands.proofs.SlotsStand.{writes-none, writes-then}

-- after the parts in front of one
abbrev pub filling : Tables → ℕ → ℕ → ℕ → Places → State → Filling
filling t from to i e s = filled_by (take (i - from) (parts_between t from to)) (record { slots = e; state = s })

-- these slots and this state

nothing : (n : ℕ) → 0 ≡ n - n
nothing n = omega arith

pub fills-none : {M : Type 0} (b : Block) (v : StoreView M) (a : ArenasView M) (t : Tables) (from to : ℕ) (e : Places) → Holds v.now.terms a.blocks.slots b e →
    WritesFilling b (between v v a a) (filling t from to from e v.now.state)
unfolding filled_by
fills-none b v a t from to e holds =
    subst (λ n. WritesFilling b (between v v a a) (filled_by (take n (parts_between t from to)) (record { slots = e; state = v.now.state }))) (nothing from) (writes-none b v a e holds)

pub part-here : (t : Tables) (from to i : ℕ) → from ≤ i → i < to → slice_get (parts_between t from to) (i - from) ≡ slice_get t.parts i
part-here t from to i above below = part-between t.parts from (to - from) (i - from) (omega (arith, above, below)) ∙ ap (slice_get t.parts) (omega (arith, above))

pub readable-here : (t : Tables) (b : Block) (from to i : ℕ) (p : Part) → from ≤ i → i < to → slice_get t.parts i ≡ Some p → AreReadableParts t b (parts_between t from to) → IsReadablePart t.terms b p
readable-here t b from to i p above below at readable = readable (i - from) p (part-here t from to i above below ∙ at)

pub fills-one : {M : Type 0} (b : Block) (v w x : StoreView M) (a c d : ArenasView M) (t : Tables) (from to i : ℕ) (p : Part) (e : Places) → from ≤ i → i < to → slice_get t.parts i ≡ Some p →
    WritesFilling b (between v w a c) (filling t from to i e v.now.state) →
    WritesFilling b (between w x c d) (filled_one p (record { slots = (filling t from to i e v.now.state).slots; state = w.now.state })) →
    WritesFilling b (between v x a d) (filling t from to (i + 1) e v.now.state)
fills-one b v w x a c d t from to i p e above below at before one =
    let f : Filling = filling t from to i e v.now.state in
    let ps : List Part = parts_between t from to in
    let more : take ((i + 1) - from) ps ≡ take (i - from) ps ++ p ∷ [] =
    ap (λ n. take n ps) (omega (arith, above)) ∙ take_more ps (i - from) p (part-here t from to i above below ∙ at) in
    let is : filled_one p (record { slots = f.slots; state = w.now.state }) ≡ filling t from to (i + 1) e v.now.state =
    ap (λ s. filled_one p (record { slots = f.slots; state = s })) before.state
    ∙ sym (filled-last (take (i - from) ps) p (record { slots = e; state = v.now.state }))
    ∙ ap (λ qs. filled_by qs (record { slots = e; state = v.now.state })) (sym more) in
    subst (λ g. WritesFilling b (between v x a d) g) is
    (writes-then b v w x a c d f.slots (filled_one p (record { slots = f.slots; state = w.now.state })).slots f.state (filled_one p (record { slots = f.slots; state = w.now.state })).state before one)

pub fills-all : {M : Type 0} (b : Block) (v w : StoreView M) (a c : ArenasView M) (t : Tables) (from to i : ℕ) (e : Places) → i ≡ to →
    WritesFilling b (between v w a c) (filling t from to i e v.now.state) → WritesFilling b (between v w a c) (filled_by (parts_between t from to) (record { slots = e; state = v.now.state }))
fills-all b v w a c t from to i e is writes =
    subst (λ qs. WritesFilling b (between v w a c) (filled_by qs (record { slots = e; state = v.now.state })))
    (ap (λ n. take (n - from) (parts_between t from to)) is ∙ take-take (to - from) (to - from) (drop from t.parts) (omega arith)) writes

-- a part in front of the end is there
pub part-there : (t : Tables) (to i : ℕ) → i < to → to ≤ length t.parts → slice_get t.parts i ≡ None → ⊥
part-there t to i below fits none = omega (arith, below, fits, none-past t.parts i none)
