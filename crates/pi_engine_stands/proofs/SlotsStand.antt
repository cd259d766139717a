-- A slot of a block that is read, and filled where it is empty.
use Rattle.pi_constraints.proofs.StateLemmas.{extends}
use Rattle.std.proofs.Common.{◌≡◌, ℕ, zero, suc, ◌+◌, ◌≤◌, ◌<◌, List, [], ◌∷◌, Option, Some, None, length, take, drop, set, get_or, refl, sym, ◌∙◌, ap, subst, arith}
use Rattle.std.specs.Prelude.{⊤}
use Rattle.std.proofs.lemmas.List.{take-set-le, drop-set-lt, drop-set-add, get_or-take, get_or-drop, length-set}
use Rattle.pi_terms.specs.Tree.{Tree, var}
use Rattle.pi_terms.specs.Places.{Places, held}
use Rattle.pi_constraints.specs.State.{State, with_new, next}
use Rattle.pi_constraints.specs.Store.{Terms, StoreView, Gives}
use Rattle.pi_constraints.specs.Evaluation.{slot_term}
use Rattle.pi_constraints.specs.declared.store.Ref.{Ref}
use Rattle.pi_unify.proofs.KeepsLemmas.{keeps_none, keeps_then}
use Rattle.pi_engine_arenas.specs.Blocks.{BlocksView, KeepsBlocks}
use Rattle.pi_engine_arenas.specs.Arenas.{ArenasView, between}
use Rattle.pi_engine_stands.specs.Here.{Block, block_end, AreHeld, Holds}
use Rattle.pi_engine_arenas.specs.Frames.{slot_number}
use Rattle.pi_engine_stands.specs.Evaluates.{with_blocks, Writes, Evaluates}
use Rattle.pi_engine_arenas.proofs.BlocksLemmas.{keeps_same, keeps_then as blocks_then}
use Rattle.pi_engine_stands.proofs.HereLemmas.{holds-extends}
use Rattle.pi_terms.proofs.ListLemmas.{take-set}

-- ---- one after the other

pub writes-none : {M : Type 0} (b : Block) (v : StoreView M) (a : ArenasView M) (e : Places) → Holds v.now.terms a.blocks.slots b e → Writes b (between v v a a) e v.now.state
writes-none b v a e holds =
    record { keeps = keeps_none v; state = refl; holds = holds; as_many = refl; front = refl; back = refl; blocks = keeps_same a.blocks; kept = refl; rest = refl }

pub writes-then : {M : Type 0} (b : Block) (v w x : StoreView M) (a c d : ArenasView M) (e f : Places) (s t : State) → Writes b (between v w a c) e s → Writes b (between w x c d) f t → Writes b (between v x a d) f t
writes-then b v w x a c d e f s t one two =
    record {
      keeps = keeps_then v w x one.keeps two.keeps;
      state = two.state;
      holds = two.holds;
      as_many = two.as_many ∙ one.as_many;
      front = two.front ∙ one.front;
      back = two.back ∙ one.back;
      blocks = blocks_then a.blocks c.blocks d.blocks one.blocks two.blocks;
      kept = two.kept ∙ one.kept;
      rest = two.rest ∙ ap (λ r. with_blocks r d.blocks) one.rest;
    }

-- ---- what a slot holds

abbrev pub IsHeldAt : Terms → Option Ref → Option Tree → Type 0
IsHeldAt t None None = ⊤
IsHeldAt t None (Some x) = ⊥
IsHeldAt t (Some r) None = ⊥
IsHeldAt t (Some r) (Some x) = t r.number ≡ Some x

pub held-at : (t : Terms) (rs : List (Option Ref)) (e : Places) (k : ℕ) → AreHeld t rs e → IsHeldAt t (get_or rs k None) (held e k)
unfolding AreHeld
held-at t [] [] k h = tt
held-at t [] (x ∷ e) k h = absurd h
held-at t (r ∷ rs) [] k h = absurd h
held-at t (None ∷ rs) (None ∷ e) zero h = tt
held-at t (None ∷ rs) (None ∷ e) (suc k) h = held-at t rs e k h
held-at t (None ∷ rs) (Some x ∷ e) k h = absurd h
held-at t (Some r ∷ rs) (None ∷ e) k h = absurd h
held-at t (Some r ∷ rs) (Some x ∷ e) zero h = h.0
held-at t (Some r ∷ rs) (Some x ∷ e) (suc k) h = held-at t rs e k h.1

pub held-set : (t : Terms) (rs : List (Option Ref)) (e : Places) (k : ℕ) (r : Ref) (x : Tree) → t r.number ≡ Some x → AreHeld t rs e → AreHeld t (set rs k (Some r)) (set e k (Some x))
unfolding AreHeld
held-set t [] [] k r x is h = h
held-set t [] (y ∷ e) k r x is h = absurd h
held-set t (q ∷ rs) [] k r x is h = absurd h
held-set t (None ∷ rs) (None ∷ e) zero r x is h = (is, h)
held-set t (None ∷ rs) (None ∷ e) (suc k) r x is h = held-set t rs e k r x is h
held-set t (None ∷ rs) (Some y ∷ e) k r x is h = absurd h
held-set t (Some q ∷ rs) (None ∷ e) k r x is h = absurd h
held-set t (Some q ∷ rs) (Some y ∷ e) zero r x is h = (is, h.1)
held-set t (Some q ∷ rs) (Some y ∷ e) (suc k) r x is h = (h.0, held-set t rs e k r x is h.1)

pub held-length : (t : Terms) (rs : List (Option Ref)) (e : Places) → AreHeld t rs e → length e ≡ length rs
unfolding AreHeld
held-length t [] [] h = refl
held-length t [] (x ∷ e) h = absurd h
held-length t (r ∷ rs) [] h = absurd h
held-length t (None ∷ rs) (None ∷ e) h = ap suc (held-length t rs e h)
held-length t (None ∷ rs) (Some x ∷ e) h = absurd h
held-length t (Some r ∷ rs) (None ∷ e) h = absurd h
held-length t (Some r ∷ rs) (Some x ∷ e) h = ap suc (held-length t rs e h.1)

pub holds-at : (t : Terms) (xs : List (Option Ref)) (b : Block) (e : Places) (k : ℕ) → k < b.count → Holds t xs b e → IsHeldAt t (get_or xs (b.base + b.first + k) None) (held e k)
holds-at t xs b e k within holds =
    subst (λ o. IsHeldAt t o (held e k))
    (get_or-take b.count (drop (b.base + b.first) xs) k None within ∙ get_or-drop (b.base + b.first) xs k None)
    (held-at t (take b.count (drop (b.base + b.first) xs)) e k holds.held)

pub holds-set : (t : Terms) (xs : List (Option Ref)) (b : Block) (e : Places) (k : ℕ) (r : Ref) (x : Tree) → t r.number ≡ Some x → Holds t xs b e →
    Holds t (set xs (b.base + b.first + k) (Some r)) b (set e k (Some x))
holds-set t xs b e k r x is holds =
    record {
      within = omega (arith, holds.within, length-set xs (b.base + b.first + k) (Some r));
      held = subst (λ rs. AreHeld t rs (set e k (Some x)))
          (sym (take-set b.count k (drop (b.base + b.first) xs) (Some r)) ∙ ap (take b.count) (sym (drop-set-add (b.base + b.first) xs k (Some r))))
          (held-set t (take b.count (drop (b.base + b.first) xs)) e k r x is holds.held);
    }

-- the number of a slot
pub slot-is : (b : Block) (k slot many : ℕ) → slot ≡ slot_number (slot_number b.base b.first) k → k < b.count → block_end b ≤ many → many ≤ 18446744073709551615 → slot ≡ b.base + b.first + k
slot-is b k slot many is within fits most = omega (arith, is, within, fits, most)

-- ---- a slot is read

some-held : (t : Terms) (r : Ref) (o : Option Tree) → IsHeldAt t (Some r) o → (x : Tree) × (o ≡ Some x) × (t r.number ≡ Some x)
some-held t r None h = absurd h
some-held t r (Some x) h = (x, refl, h)

none-held : (t : Terms) (o : Option Tree) → IsHeldAt t None o → o ≡ None
none-held t None h = refl
none-held t (Some x) h = absurd h

pub slot-read : {M : Type 0} (b : Block) (v : StoreView M) (a : ArenasView M) (e : Places) (k slot : ℕ) (r : Ref) →
    slot ≡ b.base + b.first + k → k < b.count → Holds v.now.terms a.blocks.slots b e → get_or a.blocks.slots slot None ≡ Some r →
    Evaluates b (between v v a a) (slot_term (held e k) k e v.now.state) r
slot-read b v a e k slot r at within holds is =
    let it : (x : Tree) × (held e k ≡ Some x) × (v.now.terms r.number ≡ Some x) = some-held v.now.terms r (held e k)
    (subst (λ o. IsHeldAt v.now.terms o (held e k)) (ap (λ i. get_or a.blocks.slots i None) (sym at) ∙ is) (holds-at v.now.terms a.blocks.slots b e k within holds)) in
    subst (λ o. Evaluates b (between v v a a) (slot_term o k e v.now.state) r) (sym it.1)
    (record { writes = writes-none b v a e holds; term = it.2 })

pub slot-filled : {M : Type 0} (b : Block) (v w : StoreView M) (a : ArenasView M) (new : BlocksView) (e : Places) (k slot : ℕ) (r : Ref) →
    slot ≡ b.base + b.first + k → k < b.count → Holds v.now.terms a.blocks.slots b e → get_or a.blocks.slots slot None ≡ None →
    Gives v w (with_new v.now.state) r (var (next v.now.state)) → new.slots ≡ set a.blocks.slots slot (Some r) → new.kept ≡ a.blocks.kept → KeepsBlocks a.blocks new →
    Evaluates b (between v w a (with_blocks a new)) (slot_term (held e k) k e v.now.state) r
slot-filled b v w a new e k slot r at within holds is gives slots kept keeps =
    let none : held e k ≡ None = none-held v.now.terms (held e k)
    (subst (λ o. IsHeldAt v.now.terms o (held e k)) (ap (λ i. get_or a.blocks.slots i None) (sym at) ∙ is) (holds-at v.now.terms a.blocks.slots b e k within holds)) in
    let now : new.slots ≡ set a.blocks.slots (b.base + b.first + k) (Some r) = slots ∙ ap (λ i. set a.blocks.slots i (Some r)) at in
    subst (λ o. Evaluates b (between v w a (with_blocks a new)) (slot_term o k e v.now.state) r) (sym none)
    (record {
      writes = record {
        keeps = gives.changes.keeps;
        state = gives.changes.state;
        holds = subst (λ xs. Holds w.now.terms xs b (set e k (Some (var (next v.now.state))))) (sym now)
            (holds-set w.now.terms a.blocks.slots b e k r (var (next v.now.state)) gives.term
            (holds-extends v.now.terms w.now.terms a.blocks.slots b e (extends v w gives.changes.keeps) holds));
        as_many = ap length now ∙ length-set a.blocks.slots (b.base + b.first + k) (Some r);
        front = ap (take (b.base + b.first)) now ∙ take-set-le (b.base + b.first) a.blocks.slots (b.base + b.first + k) (Some r) (omega arith);
        back = ap (drop (block_end b)) now ∙ drop-set-lt (block_end b) a.blocks.slots (b.base + b.first + k) (Some r) (omega (arith, within));
        blocks = keeps;
        kept = kept;
        rest = refl;
      };
      term = gives.term;
    })
