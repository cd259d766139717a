-- The answer of a query: the named variables with their values.
use Rattle.std.proofs.Common.{◌≡◌, ◌⊎◌, inl, inr, ℕ, zero, suc, ◌+◌, ◌≤◌, ◌<◌, false, List, [], ◌∷◌, ◌++◌, Option, Some, None, length, drop, set, refl, sym, ◌∙◌, ap, subst, arith}
use Rattle.std.specs.Prelude.{slice_get, codes, cond, Ok, Err, ⊤}
use Rattle.std.proofs.lemmas.Bool.{lt-ltb}
use Rattle.std.proofs.lemmas.List.{append_assoc, append-nil, drop_all}
use Rattle.pi_terms.specs.Tree.{Tree, var, atom, cells, most_cells}
use Rattle.pi_terms.specs.Places.{Places, held}
use Rattle.pi_constraints.specs.State.{State, IsState, bindings, next}
use Rattle.pi_constraints.specs.Value.{IsAcyclic, value}
use Rattle.pi_constraints.specs.Store.{StoreView, IsTerm}
use Rattle.pi_meaning.specs.Shared.View.{View}
use Rattle.pi_constraints.specs.Evaluation.{Evaluated, evaluated, slot_term}
use Rattle.pi_meaning.specs.CoreMeaning.Meaning.{slot_value}
use Rattle.pi_core.specs.GoalTree.{no_goals}
use Rattle.pi_meaning.specs.CoreMeaning.Run.{Solution}
use Rattle.pi_core.specs.AnswerVariables.{answer_variables}
use Rattle.pi_meaning.specs.Shared.Told.{named_values}
use Rattle.pi_constraints.specs.ToldDomains.{told_domains}
use Rattle.pi_constraints.specs.declared.store.Ref.{Ref}
use Rattle.pi_core.specs.declared.core_program.NameSlot.{NameSlot}
use Rattle.pi_core.specs.declared.answer.NamedTerm.{NamedTerm}
use Rattle.pi_core.specs.declared.answer.Answer.{Answer}
use Rattle.pi_engine_arenas.specs.declared.frames.Point.{Point}
use Rattle.pi_engine_arenas.specs.Arenas.{ArenasView, entry_at, between}
use Rattle.pi_meaning.specs.Machine.Configuration.{Frame, Entry as EntryData, config, going, raising}
use Rattle.pi_meaning.specs.Machine.Step.{silently, step, answer_step, told_step, fits, Open, none_open, strict_open, catch_open, newest_open}
use Rattle.pi_engine_stands.specs.Here.{Block, Holds}
use Rattle.pi_engine_stands.specs.Stands.{World, entries_of, entry_ends, StandsGoing, failing_now}
use Rattle.pi_engine_arenas.specs.Frames.{slot_number}
use Rattle.pi_engine_stands.specs.Evaluates.{Writes, Evaluates}
use Rattle.pi_engine_stands.specs.Makes.{SilentlyTo, IsRead}
use Rattle.pi_unify.specs.Domains.{AreUnbound}
use Rattle.pi_engine_stands.specs.Answers.{AreNames, IsNamed, NamesValue, IsTold}
use Rattle.pi_meaning.proofs.Machine.LaterStates.{IsLaterState, later-same-state, later-new, value-past, value-new}
use Rattle.pi_engine_steps.proofs.ToldStand.{slot-is, value_in, named-more, told-whole}
use Rattle.pi_unify.specs.Domains.{occurring}
use Rattle.pi_engine_stands.proofs.StandsLemmas.{moved}
use Rattle.pi_meaning.proofs.Machine.StackLemmas.{number_of, newest-number}
use Rattle.pi_terms.proofs.OptionLemmas.{none-some, same-some, not-less}
use Rattle.pi_engine_stands.proofs.SlotsStand.{writes-none, writes-then}
use Rattle.pi_engine_stands.proofs.EqualStands.{lies-moved}
use Rattle.pi_engine_stands.proofs.AnswerStand.{Arrives, arrives}
use Rattle.pi_engine_stands.specs.Changes.{change}
use Rattle.pi_engine_arenas.specs.declared.run.Now.{Now}
use Rattle.pi_constraints.proofs.KeepsLemmas.{new-keeps}
use Rattle.pi_engine_stands.proofs.StacksLie.{stack-lies}

-- ---- slots that are read one after the other

-- what a slot holds after some were read: what it held, or a variable that was made for it
unfoldable pub IsLaterSlot : State → Option Tree → Option Tree → Type 0
IsLaterSlot s (Some t) q = q ≡ Some t
IsLaterSlot s None None = ⊤
IsLaterSlot s None (Some t) = (m : ℕ) × (next s ≤ m) × (t ≡ var m)

later-same : (s : State) (q : Option Tree) → IsLaterSlot s q q
unfolding IsLaterSlot
later-same s None = tt
later-same s (Some t) = refl

abbrev pub AreLaterSlots : State → Places → Places → Type 0
AreLaterSlots s e f = (k : ℕ) → IsLaterSlot s (held e k) (held f k)

held-other : (f : Places) (j k : ℕ) (x : Option Tree) → (held (set f j x) k ≡ held f k) ⊎ ((held (set f j x) k ≡ x) × (k ≡ j))
held-other [] j k x = inl refl
held-other (o ∷ f) zero zero x = inr (refl, refl)
held-other (o ∷ f) zero (suc k) x = inl refl
held-other (o ∷ f) (suc j) zero x = inl refl
held-other (o ∷ f) (suc j) (suc k) x =
    elim (held-other f j k x) as (λ w. (held (set (o ∷ f) (suc j) x) (suc k) ≡ held (o ∷ f) (suc k)) ⊎ ((held (set (o ∷ f) (suc j) x) (suc k) ≡ x) × (suc k ≡ suc j))) [
      | inl same ↦ inl same
      | inr h ↦ inr (h.0, ap suc h.1)
    ]

filled-slot : (s : State) (q : Option Tree) (n : ℕ) → IsLaterSlot s q None → next s ≤ n → IsLaterSlot s q (Some (var n))
unfolding IsLaterSlot
filled-slot s None n later past = (n, past, refl)
filled-slot s (Some t) n later past = absurd (none-some refl later)

slots-filled : (s r : State) (e f : Places) (j : ℕ) → AreLaterSlots s e f → held f j ≡ None → next s ≤ next r → AreLaterSlots s e (set f j (Some (var (next r))))
slots-filled s r e f j later none more k =
    elim (held-other f j k (Some (var (next r)))) as (λ w. IsLaterSlot s (held e k) (held (set f j (Some (var (next r)))) k)) [
      | inl same ↦ subst (IsLaterSlot s (held e k)) (sym same) (later k)
      | inr h ↦ subst (IsLaterSlot s (held e k)) (sym h.0)
          (filled-slot s (held e k) (next r) (subst (IsLaterSlot s (held e k)) (ap (held f) h.1 ∙ none) (later k)) more)
    ]

-- what is there after some slots were read
pub record IsLater (s r : State) (e f : Places) : Type 0 where
  pub state : IsLaterState s r
  pub slots : AreLaterSlots s e f

pub later-none : (s : State) (e : Places) → IsAcyclic (bindings s) → IsLater s s e e
later-none s e acyclic = record { state = later-same-state s acyclic; slots = λ k. later-same s (held e k) }

later-slot : (s r : State) (e f : Places) (j : ℕ) (o : Option Tree) → held f j ≡ o → IsLater s r e f → IsLater s (slot_term o j f r).state e (slot_term o j f r).slots
later-slot s r e f j None is later = record { state = later-new s r later.state; slots = slots-filled s r e f j later.slots is later.state.more }
later-slot s r e f j (Some t) is later = later

later-read : (s r : State) (e f : Places) (j : ℕ) → IsLater s r e f → IsLater s (evaluated (var j) f r).state e (evaluated (var j) f r).slots
later-read s r e f j later =
    subst (λ (y : Evaluated). IsLater s y.state e y.slots) (sym (slot-is j f r)) (later-slot s r e f j (held f j) refl later)

one-cell : (m n : ℕ) → cells (var m) ≡ cells (var n)
unfolding cells
one-cell m n = refl

-- the value of a slot has as many cells as if it were read first
as-many-in : (s r : State) (k : ℕ) (e f : Places) (p q : Option Tree) → IsAcyclic (bindings s) → IsLaterState s r → IsLaterSlot s p q → cells (value_in (slot_term q k f r)) ≡ cells (value_in (slot_term p k e s))
unfolding IsLaterSlot
as-many-in s r k e f None None acyclic later slot = ap cells (value-new r later.acyclic) ∙ one-cell (next r) (next s) ∙ ap cells (sym (value-new s acyclic))
as-many-in s r k e f None (Some t) acyclic later slot =
    ap (λ u. cells (value (bindings r) u)) slot.2 ∙ ap cells (later.values (var slot.0) ∙ value-past s slot.0 slot.1) ∙ one-cell slot.0 (next s) ∙ ap cells (sym (value-new s acyclic))
as-many-in s r k e f (Some t) None acyclic later slot = absurd (none-some refl slot)
as-many-in s r k e f (Some t) (Some u) acyclic later slot = ap (λ x. cells (value (bindings r) x)) (same-some slot) ∙ ap cells (later.values t)

as-many : (s r : State) (k : ℕ) (e f : Places) → IsAcyclic (bindings s) → IsLater s r e f → cells (value_in (evaluated (var k) f r)) ≡ cells (slot_value k e s)
as-many s r k e f acyclic later =
    ap (λ y. cells (value_in y)) (slot-is k f r) ∙ as-many-in s r k e f (held e k) (held f k) acyclic later.state (later.slots k) ∙ ap (λ y. cells (value_in y)) (sym (slot-is k e s))

-- ---- the names one after the other

drop-first : {A : Type 0} (xs : List A) (i : ℕ) (x : A) → slice_get xs i ≡ Some x → drop i xs ≡ x ∷ drop (i + 1) xs
drop-first [] i x at = absurd cc
drop-first (y ∷ xs) zero x at = ap (λ r. r ∷ xs) (same-some at)
drop-first (y ∷ xs) (suc i) x at = let e : suc (i + 1) ≡ suc i + 1 = omega arith in drop-first xs i x at ∙ ap (λ n. x ∷ drop n (y ∷ xs)) e

pub names-at : (n : ℕ) (names : List NameSlot) (i : ℕ) (x : NameSlot) → AreNames n names → slice_get names i ≡ Some x → x.slot < n
unfolding AreNames
names-at n [] i x are at = absurd cc
names-at n (y ∷ names) zero x are at = subst (λ (z : NameSlot). z.slot < n) (same-some at) are.0
names-at n (y ∷ names) (suc i) x are at = names-at n names i x are.1 at

-- a state stays one where a name's slot gets a variable
slot-state : (o : Option Tree) (k : ℕ) (e : Places) (s : State) → IsState s → IsState (slot_term o k e s).state
slot-state (Some t) k e s is = is
slot-state None k e s is = new-keeps s is

named-state : (k : ℕ) (e : Places) (s : State) → IsState s → IsState (evaluated (var k) e s).state
unfolding evaluated
named-state k e s is = slot-state (held e k) k e s is

-- the first names are told; the others are left, in what is there then
pub record TellsFirst {M : Type 0} (b : Block) (v w : StoreView M) (a c : ArenasView M) (names : List NameSlot) (e : Places) (i : ℕ) (values : List NamedTerm) : Type 0 where
  pub slots : Places
  pub writes : Writes b (between v w a c) slots w.now.state
  pub state : IsState w.now.state
  pub later : IsLater v.now.state w.now.state e slots
  pub all : values ++ named_values (drop i names) slots w.now.state ≡ named_values names e v.now.state
  pub fit : fits names (record { slots = e; state = v.now.state }) ≡ fits (drop i names) (record { slots = e; state = v.now.state })

pub tells-none : {M : Type 0} (b : Block) (v : StoreView M) (a : ArenasView M) (names : List NameSlot) (e : Places) (values : List NamedTerm) → values ≡ [] → Holds v.now.terms a.blocks.slots b e → IsState v.now.state → TellsFirst b v v a a names e 0 values
tells-none b v a names e values none holds state =
    record {
      slots = e;
      writes = writes-none b v a e holds;
      state = state;
      later = later-none v.now.state e state.acyclic;
      all = ap (λ xs. xs ++ named_values names e v.now.state) none;
      fit = refl;
    }

fits-one : (n : NameSlot) (names : List NameSlot) (x : Solution) → cells (slot_value n.slot x.slots x.state) ≤ most_cells → fits (n ∷ names) x ≡ fits names x
unfolding fits
fits-one n names x few = ap (λ q. cond q false (fits names x)) (not-less most_cells (cells (slot_value n.slot x.slots x.state)) few)

fits-not : (n : NameSlot) (names : List NameSlot) (x : Solution) → most_cells < cells (slot_value n.slot x.slots x.state) → fits (n ∷ names) x ≡ false
unfolding fits
fits-not n names x many = ap (λ q. cond q false (fits names x)) (lt-ltb most_cells (cells (slot_value n.slot x.slots x.state)) many)

-- one name more
pub tells-more : {M : Type 0} (b : Block) (v w u : StoreView M) (a c d : ArenasView M) (names : List NameSlot) (e : Places) (i : ℕ) (values new : List NamedTerm) (n : NameSlot) (x : NamedTerm) → slice_get names i ≡ Some n → IsState v.now.state →
    (before : TellsFirst b v w a c names e i values) → NamesValue b (between w u c d) n (evaluated (var n.slot) before.slots w.now.state) (Some x) → new ≡ values ++ x ∷ [] → TellsFirst b v u a d names e (i + 1) new
tells-more b v w u a c d names e i values new n x at state before one pushed =
    let y : Evaluated = evaluated (var n.slot) before.slots w.now.state in
    let left : drop i names ≡ n ∷ drop (i + 1) names = drop-first names i n at in
    let now : u.now.state ≡ y.state = one.0.state in
    let there : Writes b (between w u c d) y.slots u.now.state = subst (λ q. Writes b (between w u c d) y.slots q) (sym now) one.0 in
    let few : cells (slot_value n.slot e v.now.state) ≤ most_cells = subst (λ k. k ≤ most_cells) (as-many v.now.state w.now.state n.slot e before.slots state.acyclic before.later) one.1.1 in
    record {
      slots = y.slots;
      writes = writes-then b v w u a c d before.slots y.slots w.now.state u.now.state before.writes there;
      state = subst IsState (sym now) (named-state n.slot before.slots w.now.state before.state);
      later = subst (λ q. IsLater v.now.state q e y.slots) (sym now) (later-read v.now.state w.now.state e before.slots n.slot before.later);
      all = ap (λ xs. xs ++ named_values (drop (i + 1) names) y.slots u.now.state) pushed
          ∙ ap (λ q. (values ++ x ∷ []) ++ named_values (drop (i + 1) names) y.slots q) now
          ∙ append_assoc values (x ∷ []) (named_values (drop (i + 1) names) y.slots y.state)
          ∙ ap (λ q. values ++ q ∷ named_values (drop (i + 1) names) y.slots y.state) one.1.0
          ∙ ap (λ xs. values ++ xs) (sym (named-more n (drop (i + 1) names) before.slots w.now.state))
          ∙ ap (λ ns. values ++ named_values ns before.slots w.now.state) (sym left) ∙ before.all;
      fit = before.fit ∙ ap (λ ns. fits ns (record { slots = e; state = v.now.state })) left ∙ fits-one n (drop (i + 1) names) (record { slots = e; state = v.now.state }) few;
    }

-- ---- the answer

-- no level is open
no-open : (es : List EntryData) (o : Open) → newest_open zero es ≡ o → number_of o ≡ 0 → newest_open zero es ≡ none_open
no-open es none_open is none = is
no-open es (strict_open above s b below) is none = absurd (omega (arith, none))
no-open es (catch_open above ball handler b below) is none = absurd (omega (arith, none))

query-answer : {M : Type 0} (w : World M) (view : View) (names : List NameSlot) (e : Places) (s : State) (es : List EntryData) → newest_open zero es ≡ none_open →
    step view w.loaded.preds names (config (going no_goals e s []) es) ≡ told_step (fits names (record { slots = e; state = s })) (record { slots = e; state = s }) es
unfolding step answer_step
query-answer w view names e s es none = ap (answer_step names e s es) none

-- the query's block
abbrev pub query_block : ℕ → Block
query_block n = record { base = 0; first = 0; count = n }

query-arrives : {M : Type 0} (w : World M) (p : Point) (view : View) (names : List NameSlot) (e : Places) (k : List Frame) (es : List EntryData) → StandsGoing w p no_goals e k es → p.count ≡ 0 → p.frame ≡ 0 → w.arenas.level ≡ 0 →
    Arrives w view names (query_block w.loaded.query_slots) e k es
query-arrives w p view names e k es stands none last level =
    arrives w view names p (query_block w.loaded.query_slots) e k es (ap (λ n. entry_ends w.loaded (entry_at (entries_of w) n)) level) last none stands

-- what holds of the loop: for each block and slots that are there
abbrev pub TellsSo : {M : Type 0} → StoreView M → StoreView M → ArenasView M → ArenasView M → List NameSlot → ℕ → List NamedTerm → Type 0
TellsSo v w a c names i values =
    (n : ℕ) (e : Places) → AreNames n names → Holds v.now.terms a.blocks.slots (query_block n) e → IsState v.now.state → TellsFirst (query_block n) v w a c names e i values

pub query-told : {M : Type 0} (w : World M) (u : StoreView M) (c : ArenasView M) (names : List NameSlot) (i : ℕ) (answer : Answer) (p : Point) (view : View) (e : Places) (k : List Frame) (es : List EntryData) → TellsSo w.store u w.arenas c names i answer.values →
    (IsAcyclic (bindings u.now.state) → AreUnbound u.now.state (occurring answer.values) → answer.domains ≡ told_domains u.now.state (answer_variables answer.values)) →
    length names ≤ i → StandsGoing w p no_goals e k es → p.count ≡ 0 → p.frame ≡ 0 → w.arenas.level ≡ 0 → AreNames w.loaded.query_slots names →
    (x : Solution) × SilentlyTo view w.loaded.preds names (config (going no_goals e w.store.now.state k) es) (config (going no_goals x.slots x.state []) es) × IsTold view (change w (moved w u c) Now.Failing) names x es (Ok answer)
unfolding fits named_values
query-told w u c names i answer p view e k es tells domains all stands none last level are =
    let there : Arrives w view names (query_block w.loaded.query_slots) e k es = query-arrives w p view names e k es stands none last level in
    let f : Places = there.slots in
    let x : Solution = record { slots = f; state = w.store.now.state } in
    let done : TellsFirst (query_block w.loaded.query_slots) w.store u w.arenas c names f i answer.values = tells w.loaded.query_slots f are there.holds stands.entries.state.calm.state in
    let nothing : drop i names ≡ [] = drop_all i names all in
    let values : answer.values ≡ named_values names f w.store.now.state =
    sym (append-nil answer.values) ∙ ap (λ ns. answer.values ++ named_values ns done.slots u.now.state) (sym nothing) ∙ done.all in
    let open_none : newest_open zero es ≡ none_open = no-open es (newest_open zero es) refl (newest-number zero es ∙ sym stands.entries.level ∙ level) in (
      x,
      there.silently,
      (
        query-answer w view names f w.store.now.state es open_none ∙ ap (λ q. told_step q x es) (done.fit ∙ ap (λ ns. fits ns x) nothing),
        told-whole names x u.now.state answer stands.entries.state.calm.state.acyclic done.later.state values domains,
        record { entries = lies-moved w u c (query_block w.loaded.query_slots) done.slots u.now.state es done.writes (stack-lies w es stands.entries); runs = failing_now },
      ),
    )

pub query-raises : {M : Type 0} (w after : World M) (u z : StoreView M) (c d : ArenasView M) (names : List NameSlot) (i : ℕ) (values : List NamedTerm) (n : NameSlot) (ball : Tree) (p : Point) (view : View) (e : Places) (k : List Frame) (es : List EntryData) →
    TellsSo w.store u w.arenas c names i values → slice_get names i ≡ Some n →
    ((b : Block) (f : Places) → b.base ≡ 0 → b.first ≡ 0 → n.slot < b.count → Holds u.now.terms c.blocks.slots b f → IsState u.now.state → NamesValue b (between u z c d) n (evaluated (var n.slot) f u.now.state) None) →
    ball ≡ atom (codes "term_too_large") → StandsGoing w p no_goals e k es → p.count ≡ 0 → p.frame ≡ 0 → w.arenas.level ≡ 0 → AreNames w.loaded.query_slots names →
    (x : Solution) × SilentlyTo view w.loaded.preds names (config (going no_goals e w.store.now.state k) es) (config (going no_goals x.slots x.state []) es) × IsTold view (change w after Now.Failing) names x es (Err ball)
query-raises w after u z c d names i values n ball p view e k es tells at one raised stands none last level are =
    let b : Block = query_block w.loaded.query_slots in
    let there : Arrives w view names b e k es = query-arrives w p view names e k es stands none last level in
    let f : Places = there.slots in
    let s : State = w.store.now.state in
    let x : Solution = record { slots = f; state = s } in
    let done : TellsFirst b w.store u w.arenas c names f i values = tells w.loaded.query_slots f are there.holds stands.entries.state.calm.state in
    let large : NamesValue b (between u z c d) n (evaluated (var n.slot) done.slots u.now.state) None = one b done.slots refl refl (names-at w.loaded.query_slots names i n are at) done.writes.holds done.state in
    let many : most_cells < cells (slot_value n.slot f s) = subst (λ m. most_cells < m) (as-many s u.now.state n.slot f done.slots stands.entries.state.calm.state.acyclic done.later) large.1 in
    let open_none : newest_open zero es ≡ none_open = no-open es (newest_open zero es) refl (newest-number zero es ∙ sym stands.entries.level ∙ level) in
    let not_fit : fits names x ≡ false = done.fit ∙ ap (λ ns. fits ns x) (drop-first names i n at) ∙ fits-not n (drop (i + 1) names) x many in (
      x,
      there.silently,
      query-answer w view names f s es open_none ∙ ap (λ q. told_step q x es) not_fit ∙ ap (λ t. silently (config (raising t) [])) (sym raised),
    )

-- ---- one name

pub name-read : {M : Type 0} (b : Block) (v w : StoreView M) (a c : ArenasView M) (n : NameSlot) (e : Places) (slot : ℕ) (r : Ref) (read : Option Tree) (found : Option NamedTerm) → b.base ≡ 0 → b.first ≡ 0 → n.slot < b.count → Holds v.now.terms a.blocks.slots b e → IsState v.now.state →
    slot ≡ slot_number 0 n.slot →
    ((d : Block) (k : ℕ) (f : Places) → slot ≡ slot_number (slot_number d.base d.first) k → k < d.count → Holds v.now.terms a.blocks.slots d f → Evaluates d (between v w a c) (slot_term (held f k) k f v.now.state) r) →
    ((t : Tree) → IsTerm w r t → IsAcyclic (bindings w.now.state) → IsRead (value (bindings w.now.state) t) read) → ((t : Tree) → IsRead t read → IsNamed n t found) →
    NamesValue b (between v w a c) n (evaluated (var n.slot) e v.now.state) found
name-read b v w a c n e slot r read found base first within holds state at reads tells names =
    let y : Evaluated = evaluated (var n.slot) e v.now.state in
    let zero_is : 0 ≡ slot_number b.base b.first = omega (arith, base, first) in
    let got : Evaluates b (between v w a c) y r =
    subst (λ q. Evaluates b (between v w a c) q r) (sym (slot-is n.slot e v.now.state)) (reads b n.slot e (at ∙ ap (λ m. slot_number m n.slot) zero_is) within holds) in
    let sound : IsState w.now.state = subst IsState (sym got.writes.state) (named-state n.slot e v.now.state state) in
    (got.writes, subst (λ q. IsNamed n (value (bindings q) y.tree) found) got.writes.state (names (value (bindings w.now.state) y.tree) (tells y.tree got.term sound.acyclic)))

pub read-named : (n : NameSlot) (name : List ℕ) (read : Option Tree) (x t : Tree) → read ≡ Some x → name ≡ n.name → IsRead t read → IsNamed n t (Some (record { name = name; value = x }))
read-named n name read x t is same h =
    let it : IsRead t (Some x) = subst (IsRead t) is h in
    (ap (λ q. record { name = q; value = x }) same ∙ ap (λ q. record { name = n.name; value = q }) it.0, it.1)

pub none-named : (n : NameSlot) (read : Option Tree) (t : Tree) → read ≡ None → IsRead t read → IsNamed n t None
none-named n read t is h = subst (IsRead t) is h
