-- What operands come to.
use Rattle.std.proofs.Common.{◌≡◌, ℕ, ◌+◌, ◌-◌, ◌≤◌, ◌<◌, List, Option, Some, length, take, drop, sym, ◌∙◌, ap, subst, arith}
use Rattle.std.specs.Prelude.{slice_get}
use Rattle.std.proofs.lemmas.List.{length-take, length-drop}
use Rattle.std.proofs.lemmas.Option.{slice_get_within}
use Rattle.pi_terms.specs.Tree.{Tree, tree, no_trees}
use Rattle.pi_terms.specs.TermCells.{first_tree}
use Rattle.pi_terms.specs.Places.{Places, held}
use Rattle.pi_constraints.specs.State.{State, SpeaksBelow}
use Rattle.pi_constraints.proofs.KeepsLemmas.{TreesBelow, first-below}
use Rattle.pi_constraints.specs.Store.{Terms, StoreView, Extend}
use Rattle.pi_constraints.specs.Evaluation.{evaluated, slot_term}
use Rattle.pi_constraints.specs.declared.store.Ref.{Ref}
use Rattle.pi_engine_code.specs.declared.code.Part.{Part}
use Rattle.pi_engine_code.specs.declared.code.Operand.{Operand}
use Rattle.pi_engine_arenas.specs.Arenas.{ArenasView, between}
use Rattle.pi_engine_code.specs.Code.{Tables, term_at, spelled_parts, operand_tree}
use Rattle.pi_engine_stands.specs.Here.{Block, Holds, IsReadable, IsReadablePart}
use Rattle.pi_engine_stands.specs.Evaluates.{Writes, Evaluates, Filling, filled_by, parts_between, AreReadableParts, AreFilledParts}
use Rattle.pi_engine_stands.proofs.SlotsStand.{writes-none, writes-then, held-length}
use Rattle.pi_engine_stands.proofs.PartsStand.{part-between, known-is, known-evaluated, all-filled, made-is, slot-below, known-below, parts-below}

pub known-value : {M : Type 0} (b : Block) (v : StoreView M) (a : ArenasView M) (t : Tables) (e : Places) (o : Operand) (r : Ref) → o ≡ Operand.Known r → IsReadable t b o → Extend t.terms v.now.terms →
    Holds v.now.terms a.blocks.slots b e → Evaluates b (between v v a a) (evaluated (operand_tree t o) e v.now.state) r
unfolding operand_tree
known-value b v a t e o r is readable extend holds =
    let it : IsReadable t b (Operand.Known r) = subst (λ q. IsReadable t b q) is readable in
    subst (λ q. Evaluates b (between v v a a) (evaluated (operand_tree t q) e v.now.state) r) (sym is)
    (subst (λ x. Evaluates b (between v v a a) x r) (sym (known-evaluated t b r e v.now.state it))
    (record { writes = writes-none b v a e holds; term = extend r.number (term_at t r) (it.1 ∙ ap (λ x. Some x) (sym (known-is t r it.0 it.1))) }))

pub slot-operand : {M : Type 0} (b : Block) (v w : StoreView M) (a c : ArenasView M) (t : Tables) (e : Places) (o : Operand) (k : ℕ) (r : Ref) → o ≡ Operand.Slot k →
    Evaluates b (between v w a c) (slot_term (held e k) k e v.now.state) r → Evaluates b (between v w a c) (evaluated (operand_tree t o) e v.now.state) r
unfolding operand_tree evaluated
slot-operand b v w a c t e o k r is value = subst (λ q. Evaluates b (between v w a c) (evaluated (operand_tree t q) e v.now.state) r) (sym is) value

pub readable-parts : (t : Tables) (b : Block) (from to : ℕ) → to ≤ length t.parts →
    ((i : ℕ) (p : Part) → from ≤ i → i < to → slice_get t.parts i ≡ Some p → IsReadablePart t.terms b p) → AreReadableParts t b (parts_between t from to)
readable-parts t b from to fits readable i p at =
    let within : i < to - from = omega (arith, slice_get_within (parts_between t from to) i p at, length-take (to - from) (drop from t.parts)) in
    readable (from + i) p (omega arith) (omega (arith, within)) (sym (part-between t.parts from (to - from) i within) ∙ at)

pub slots-of : (t : Terms) (xs : List (Option Ref)) (b : Block) (e : Places) → Holds t xs b e → length e ≡ b.count
slots-of t xs b e holds =
    held-length t (take b.count (drop (b.base + b.first) xs)) e holds.held
    ∙ length-take b.count (drop (b.base + b.first) xs) ∙ omega (arith, length-drop (b.base + b.first) xs, holds.within)

abbrev filling_of : Tables → ℕ → ℕ → Places → State → Filling
filling_of t from to e s = filled_by (parts_between t from to) (record { slots = e; state = s })

-- what is put together, where the slots of its parts were filled before
pub made-filled : (t : Tables) (b : Block) (from to : ℕ) (e : Places) (s : State) → AreReadableParts t b (parts_between t from to) → length e ≡ b.count → AreFilledParts (filling_of t from to e s).slots (parts_between t from to)
made-filled t b from to e s readable many = all-filled t b (parts_between t from to) (record { slots = e; state = s }) readable many

pub made-value : {M : Type 0} (b : Block) (v w x : StoreView M) (a c d : ArenasView M) (t : Tables) (e : Places) (o : Operand) (from to : ℕ) (u : Tree) (r : Ref) → o ≡ Operand.Made from to →
    AreReadableParts t b (parts_between t from to) → spelled_parts t (parts_between t from to) ≡ tree u no_trees → length e ≡ b.count →
    Writes b (between v w a c) (filling_of t from to e v.now.state).slots (filling_of t from to e v.now.state).state →
    Evaluates b (between w x c d) (record { tree = (evaluated u (filling_of t from to e v.now.state).slots w.now.state).tree; slots = (filling_of t from to e v.now.state).slots; state = w.now.state }) r →
    Evaluates b (between v x a d) (evaluated (operand_tree t o) e v.now.state) r
unfolding operand_tree
made-value b v w x a c d t e o from to u r is readable spelled many fills puts =
    let f : Filling = filling_of t from to e v.now.state in
    let made : Evaluates b (between v x a d) (record { tree = (evaluated u f.slots w.now.state).tree; slots = f.slots; state = w.now.state }) r =
    record { writes = writes-then b v w x a c d f.slots f.slots f.state w.now.state fills puts.writes; term = puts.term } in
    subst (λ q. Evaluates b (between v x a d) (evaluated (operand_tree t q) e v.now.state) r) (sym is)
    (subst (λ y. Evaluates b (between v x a d) (evaluated (first_tree y) e v.now.state) r) (sym spelled)
    (subst (λ y. Evaluates b (between v x a d) y r) (made-is t b (parts_between t from to) u (record { slots = e; state = v.now.state }) readable spelled many)
    (subst (λ s. Evaluates b (between v x a d) (record { tree = (evaluated u f.slots s).tree; slots = f.slots; state = s }) r) fills.state made)))

-- an operand speaks of the block's slots alone
pub operand-below : (t : Tables) (b : Block) (o : Operand) → IsReadable t b o → SpeaksBelow b.count (operand_tree t o)
unfolding operand_tree
operand-below t b (Operand.Slot k) is = slot-below b.count k is
operand-below t b (Operand.Known r) is = known-below b.count t b r is
operand-below t b (Operand.Made from to) is =
    let u : Tree = is.3.0 in
    subst (λ ts. SpeaksBelow b.count (first_tree ts)) (sym is.3.1)
    (first-below b.count u no_trees (subst (λ ts. TreesBelow b.count ts) is.3.1 (parts-below t b (parts_between t from to) (readable-parts t b from to is.1 is.2))))
