-- Answers that are collected.
use Rattle.std.proofs.Common.{◌≡◌, ◌⊎◌, inl, inr, ℕ, zero, suc, ◌+◌, ◌-◌, ◌≤◌, ◌<◌, nat_lt, List, [], ◌∷◌, ◌++◌, Some, length, take, drop, refl, sym, ◌∙◌, ap, subst, arith}
use Rattle.std.specs.Prelude.{slice_get, slice_set, codes, cond}
use Rattle.std.proofs.lemmas.Bool.{lt-ltb}
use Rattle.std.proofs.lemmas.List.{take_all, length-append, length-drop, drop-append-le, take-append-le}
use Rattle.pi_terms.specs.Tree.{Tree, var, atom, cells, most_cells}
use Rattle.pi_terms.specs.Places.{Places, held}
use Rattle.pi_constraints.specs.State.{State, bindings}
use Rattle.pi_engine_stands.specs.Rests.{Rests}
use Rattle.pi_constraints.specs.Value.{value as value_of, IsAcyclic}
use Rattle.pi_constraints.specs.Store.{StoreView, IsTerm}
use Rattle.pi_meaning.specs.Shared.View.{View}
use Rattle.pi_constraints.specs.Evaluation.{Evaluated, evaluated, slot_term}
use Rattle.pi_meaning.specs.CoreMeaning.Meaning.{slot_value}
use Rattle.pi_core.specs.GoalTree.{GoalTree, no_goals, collect}
use Rattle.pi_core.specs.GoalCells.{kind_of}
use Rattle.pi_constraints.specs.declared.store.Ref.{Ref}
use Rattle.pi_core.specs.declared.core_program.NameSlot.{NameSlot}
use Rattle.pi_engine_arenas.specs.declared.arenas.Kind.{Kind}
use Rattle.pi_engine_arenas.specs.declared.arenas.Strict.{Strict as StrictKind}
use Rattle.pi_engine_code.specs.declared.code.Code.{Code}
use Rattle.pi_engine_code.specs.declared.code.Node.{Node}
use Rattle.pi_engine_code.specs.declared.code.Step.{Step}
use Rattle.pi_engine_arenas.specs.declared.frames.Point.{Point}
use Rattle.pi_engine_arenas.specs.declared.run.Now.{Now}
use Rattle.pi_engine_code.specs.Code.{Tables, node_kind}
use Rattle.pi_engine_arenas.specs.Arenas.{ArenasView, with_kind, with_collected, between}
use Rattle.pi_engine_arenas.specs.declared.arenas.Entry.{Entry}
use Rattle.pi_meaning.specs.Machine.Configuration.{Frame, Entry as EntryData, Config, config, going, failed, raising, Strict, strict, list_level, Back as BackData}
use Rattle.pi_meaning.specs.Machine.Step.{strict_step}
use Rattle.pi_meaning.specs.Machine.Shape.{IsBalanced}
use Rattle.pi_engine_stands.specs.Here.{Here, Block, Holds, NodeIsReadable}
use Rattle.pi_engine_stands.specs.Stands.{World, Loaded, tables_in, steps_of, entries_of, back_here, block_at, values_between, GoalStands, KindIs, once_kind, not_kind, if_kind, guard_kind, apply_kind, collect_kind, count_kind, search_kind, StackStands, Stands, StandsGoing, failing_now, raising_now}
use Rattle.pi_engine_arenas.specs.Frames.{slot_number}
use Rattle.pi_engine_stands.specs.Evaluates.{Evaluates}
use Rattle.pi_engine_stands.specs.Makes.{SilentlyTo}
use Rattle.pi_engine_stands.proofs.NodeLemmas.{kind-here}
use Rattle.pi_meaning.proofs.Machine.StackLemmas.{IsClosed}
use Rattle.pi_terms.proofs.OptionLemmas.{same-some, not-less}
use Rattle.pi_engine_stands.proofs.StandsLemmas.{moved}
use Rattle.pi_engine_stands.proofs.EqualStands.{stack-moved}
use Rattle.pi_engine_stands.proofs.OnceStand.{Found, found, level-answers}
use Rattle.pi_engine_stands.proofs.WrittenGoals.{own-step, own-block, own-slots}
use Rattle.pi_engine_stands.proofs.CountsStand.{Around, lies-around}
use Rattle.pi_engine_stands.proofs.AltersStand.{altered-stands}
use Rattle.pi_engine_stands.proofs.RestLemmas.{evaluated-rests}
use Rattle.pi_engine_stands.proofs.StacksLie.{stack-lies}

pub collect-node : (t : Tables) (node : Node) (g : GoalTree) (v i : ℕ) → node_kind t node ≡ kind_of (collect g v i) → node ≡ Node.Collect v i
unfolding node_kind kind_of
collect-node t Node.True g v i h = absurd cc
collect-node t Node.Fail g v i h = absurd cc
collect-node t Node.Tick g v i h = absurd cc
collect-node t (Node.Seq n) g v i h = absurd cc
collect-node t (Node.Alt n) g v i h = absurd cc
collect-node t Node.If g v i h = absurd cc
collect-node t Node.Not g v i h = absurd cc
collect-node t Node.Once g v i h = absurd cc
collect-node t (Node.Collect q r) g v i h = cc
collect-node t (Node.Count q) g v i h = absurd cc
collect-node t (Node.Catch operand) g v i h = absurd cc
collect-node t (Node.Unify left right) g v i h = absurd cc
collect-node t (Node.Throw ball) g v i h = absurd cc
collect-node t (Node.BuiltIn built name first arity) g v i h = absurd cc
collect-node t (Node.BuiltInValue built name first arity slot) g v i h = absurd cc
collect-node t (Node.Constrain c name first arity) g v i h = absurd cc
collect-node t (Node.DomainValue f name first arity slot) g v i h = absurd cc
collect-node t (Node.Solve name first arity) g v i h = absurd cc
collect-node t (Node.Call p first) g v i h = absurd cc
collect-node t (Node.Apply p first q) g v i h = absurd cc
collect-node t (Node.Value u) g v i h = absurd cc
collect-node t (Node.CallTerm first arity) g v i h = absurd cc

-- ---- one value more

-- the level that collects
pub record CollectsAt (l : Loaded) (c : List Tree) (h : Here) (t : State) (base frame slots from place : ℕ) (s : Strict) (b : BackData) : Type 0 where
  pub goal : GoalTree
  pub value : ℕ
  pub into : ℕ
  pub places : Places
  pub frames : List Frame
  pub own : GoalStands l h base place frame (collect goal value into) places frames
  pub level : s ≡ list_level value into (values_between c from (length c))
  pub back_is : b ≡ record { slots = places; state = t; frames = frames }
  pub order : from ≤ length c

pub collects-at : (l : Loaded) (c : List Tree) (h : Here) (t : State) (base frame slots from place first : ℕ) (kind : Kind) (s : Strict) (b : BackData) → kind ≡ Kind.Strict (StrictKind.Collect place first) →
    KindIs l c h t base frame slots from (length c) kind (strict s b) → CollectsAt l c h t base frame slots from place s b × (from ≡ first)
collects-at l c h t base frame slots from place first kind s b named (once_kind own one) = absurd cc
collects-at l c h t base frame slots from place first kind s b named (not_kind own one) = absurd cc
collects-at l c h t base frame slots from place first kind s b named (if_kind own one) = absurd cc
collects-at l c h t base frame slots from place first kind s b named (guard_kind call over one) = absurd cc
collects-at l c h t base frame slots from place first kind s b named (apply_kind own free args fit one) = absurd cc
collects-at l c h t base frame slots from place first kind s b named (collect_kind {place = at} {value = value} {into = into} {g = g} {e = e} {k = k} own order some) =
    let same : at ≡ place = cc in
    let starts : from ≡ first = cc in (
      record { goal = g; value = value; into = into; places = e; frames = k; own = subst (λ q. GoalStands l h base q frame (collect g value into) e k) same own; level = refl; back_is = refl; order = order },
      starts,
    )
collects-at l c h t base frame slots from place first kind s b named (count_kind own one) = absurd cc
collects-at l c h t base frame slots from place first kind s b named (search_kind own labels held fit order one) = absurd cc

same-value : (node : Node) (v i a b : ℕ) → node ≡ Node.Collect v i → node ≡ Node.Collect a b → v ≡ a
same-value node v i a b h k = cc

-- one more behind those of the level
values-more : (c : List Tree) (from : ℕ) (t : Tree) → from ≤ length c → values_between (c ++ t ∷ []) from (length (c ++ t ∷ [])) ≡ values_between c from (length c) ++ t ∷ []
values-more c from t order =
    let all : drop from (c ++ t ∷ []) ≡ drop from c ++ t ∷ [] = drop-append-le from c (t ∷ []) order in
    let many : length (c ++ t ∷ []) ≡ length c + 1 = length-append c (t ∷ []) in
    let left : length (drop from c) ≡ length c - from = length-drop from c in
    ap (take (length (c ++ t ∷ []) - from)) all
    ∙ take_all (length (c ++ t ∷ []) - from) (drop from c ++ t ∷ []) (omega (arith, many, left, length-append (drop from c) (t ∷ []), order))
    ∙ ap (λ xs. xs ++ t ∷ []) (sym (take_all (length c - from) (drop from c) (omega (arith, left))))

waits-more : (l : Loaded) (c : List Tree) (h : Here) (t : State) (base frame slots from place first : ℕ) (kind : Kind) (s : Strict) (b : BackData) (x : Tree) (value into : ℕ) (got : List Tree) → kind ≡ Kind.Strict (StrictKind.Collect place first) →
    s ≡ list_level value into got → KindIs l c h t base frame slots from (length c) kind (strict s b) → KindIs l (c ++ x ∷ []) h t base frame slots from (length (c ++ x ∷ [])) kind (strict (list_level value into (got ++ x ∷ [])) b)
waits-more l c h t base frame slots from place first kind s b x value into got named is (once_kind own one) = absurd cc
waits-more l c h t base frame slots from place first kind s b x value into got named is (not_kind own one) = absurd cc
waits-more l c h t base frame slots from place first kind s b x value into got named is (if_kind own one) = absurd cc
waits-more l c h t base frame slots from place first kind s b x value into got named is (guard_kind call over one) = absurd cc
waits-more l c h t base frame slots from place first kind s b x value into got named is (apply_kind own free args fit one) = absurd cc
waits-more l c h t base frame slots from place first kind s b x value into got named is (collect_kind {place = at} {value = v} {into = i} {g = g} {e = e} {k = k} own order some) =
    let same_value : v ≡ value = cc in
    let same_into : i ≡ into = cc in
    let same_got : values_between c from (length c) ≡ got = cc in
    subst (λ r. KindIs l (c ++ x ∷ []) h t base frame slots from (length (c ++ x ∷ [])) kind (strict r (record { slots = e; state = t; frames = k })))
    (ap (list_level v i) (values-more c from x order ∙ ap (λ xs. xs ++ x ∷ []) same_got) ∙ ap (λ n. list_level n i (got ++ x ∷ [])) same_value ∙ ap (λ n. list_level value n (got ++ x ∷ [])) same_into)
    (collect_kind own (omega (arith, order, length-append c (x ∷ []))) (omega arith))
waits-more l c h t base frame slots from place first kind s b x value into got named is (count_kind own one) = absurd cc
waits-more l c h t base frame slots from place first kind s b x value into got named is (search_kind own labels held fit order one) = absurd cc

same-kind : {M : Type 0} (x : Entry M) → with_kind x x.back.kind ≡ x
same-kind x = refl

set-same : {A : Type 0} (xs : List A) (i : ℕ) (x : A) → slice_get xs i ≡ Some x → slice_set xs i x ≡ xs
set-same [] i x at = refl
set-same (y ∷ xs) zero x at = ap (λ r. r ∷ xs) (sym (same-some at))
set-same (y ∷ xs) (suc i) x at = ap (λ r. y ∷ r) (set-same xs i x at)

-- the stack with one value more
collect-stands : {M : Type 0} (w : World M) (i place first value into : ℕ) (x : Entry M) (s : Strict) (b : BackData) (t : Tree) (got : List Tree) (above below : List EntryData) → slice_get (entries_of w) i ≡ Some x →
    x.back.kind ≡ Kind.Strict (StrictKind.Collect place first) → s ≡ list_level value into got → IsClosed zero above → length (entries_of w) ≡ length above + suc i → StackStands w (above ++ strict s b ∷ below) →
    StackStands (moved w w.store (with_collected w.arenas (w.arenas.collected ++ t ∷ []))) (above ++ strict (list_level value into (got ++ t ∷ [])) b ∷ below)
collect-stands w i place first value into x s b t got above below at named is closed number stands =
    let c : List Tree = w.arenas.collected in
    let top : ℕ = length c in
    subst (λ r. StackStands (moved w w.store (record { frames = w.arenas.frames; blocks = w.arenas.blocks; entries = r; level = w.arenas.level; collected = c ++ t ∷ [] })) (above ++ strict (list_level value into (got ++ t ∷ [])) b ∷ below))
    (ap (slice_set (entries_of w) i) (same-kind x) ∙ set-same (entries_of w) i x at)
    (altered-stands w i zero x x.back.kind (c ++ t ∷ []) s (list_level value into (got ++ t ∷ [])) b above below
    (record {
      at = at;
      ends = λ base. refl;
      more = take-append-le top c (t ∷ []) (omega arith) ∙ take_all top c (omega arith);
      long = omega (arith, length-append c (t ∷ []));
      waits = λ from kind_is. waits-more w.loaded c (back_here w x) (w.store.at_mark x.mark).state x.back.base x.back.frame x.back.blocks.slots from place first x.back.kind s b t value into got named is kind_is;
      found = λ has. tt;
    }) closed number stands)

-- what the code makes of a value: it is collected, or is too large
abbrev pub CollectedAs : {M : Type 0} → Tree → ArenasView M → ArenasView M → Now → Type 0
CollectedAs t a b now =
    ((cells t ≤ most_cells) × (b ≡ with_collected a (a.collected ++ t ∷ [])) × (now ≡ Now.Failing)) ⊎ ((most_cells < cells t) × (b ≡ a) × (now ≡ Now.Raising (atom (codes "term_too_large"))))

list-step : (value into : ℕ) (got : List Tree) (s : Strict) (e : Places) (q : State) (above : List EntryData) (b : BackData) (below : List EntryData) → s ≡ list_level value into got →
    strict_step s e q above b below ≡ config (cond (nat_lt most_cells (cells (slot_value value e q))) (raising (atom (codes "term_too_large"))) failed)
    (above ++ strict (list_level value into (cond (nat_lt most_cells (cells (slot_value value e q))) got (got ++ slot_value value e q ∷ []))) b ∷ below)
unfolding strict_step
list-step value into got s e q above b below is = ap (λ r. strict_step r e q above b below) is

-- a value that fits, and one that doesn't
collect-by : {M : Type 0} (w : World M) (v : StoreView M) (a b : ArenasView M) (now : Now) (i place first value into : ℕ) (x : Entry M) (s : Strict) (d : BackData) (t : Tree) (got : List Tree) (above below : List EntryData) → StackStands (moved w v a) (above ++ strict s d ∷ below) →
    a.entries ≡ entries_of w → slice_get (entries_of w) i ≡ Some x → x.back.kind ≡ Kind.Strict (StrictKind.Collect place first) → s ≡ list_level value into got → IsClosed zero above → length (entries_of w) ≡ length above + suc i → CollectedAs t a b now →
    Stands (moved w v b) now (config (cond (nat_lt most_cells (cells t)) (raising (atom (codes "term_too_large"))) failed) (above ++ strict (list_level value into (cond (nat_lt most_cells (cells t)) got (got ++ t ∷ []))) d ∷ below))
collect-by w v a b now i place first value into x s d t got above below stands same at named is closed number (inl h) =
    subst (λ q. Stands (moved w v b) now (config (cond q (raising (atom (codes "term_too_large"))) failed) (above ++ strict (list_level value into (cond q got (got ++ t ∷ []))) d ∷ below))) (sym (not-less most_cells (cells t) h.0))
    (subst (λ r. Stands (moved w v b) r (config failed (above ++ strict (list_level value into (got ++ t ∷ [])) d ∷ below))) (sym h.2)
    (subst (λ r. Stands (moved w v r) Now.Failing (config failed (above ++ strict (list_level value into (got ++ t ∷ [])) d ∷ below))) (sym h.1)
    (record {
      entries = stack-lies _ _ (collect-stands (moved w v a) i place first value into x s d t got above below (ap (λ r. slice_get r i) same ∙ at) named is closed (ap length same ∙ number) stands);
      runs = failing_now;
    })))
collect-by w v a b now i place first value into x s d t got above below stands same at named is closed number (inr h) =
    subst (λ q. Stands (moved w v b) now (config (cond q (raising (atom (codes "term_too_large"))) failed) (above ++ strict (list_level value into (cond q got (got ++ t ∷ []))) d ∷ below))) (sym (lt-ltb most_cells (cells t) h.0))
    (subst (λ r. Stands (moved w v b) r (config (raising (atom (codes "term_too_large"))) (above ++ strict (list_level value into got) d ∷ below))) (sym h.2)
    (subst (λ r. Stands (moved w v r) (Now.Raising (atom (codes "term_too_large"))) (config (raising (atom (codes "term_too_large"))) (above ++ strict (list_level value into got) d ∷ below))) (sym h.1)
    (record { entries = stack-lies (moved w v a) _ (subst (λ r. StackStands (moved w v a) (above ++ strict r d ∷ below)) is stands); runs = raising_now })))

-- ---- an answer of the level's goal

slot-is-read : (k : ℕ) (e : Places) (s : State) → evaluated (var k) e s ≡ slot_term (held e k) k e s
unfolding evaluated
slot-is-read k e s = refl

pub collect-answers : {M : Type 0} (w : World M) (v : StoreView M) (a b : ArenasView M) (now : Now) (i place first begins slot value other : ℕ) (step : Step) (code : Code) (r : Ref) (x : Entry M) (p : Point) (es : List EntryData) (view : View) (names : List NameSlot) (e : Places) (k : List Frame) →
    StandsGoing w p no_goals e k es → p.count ≡ 0 → p.frame ≡ 0 → IsBalanced zero es → w.arenas.level ≡ suc i → slice_get (entries_of w) i ≡ Some x → x.back.kind ≡ Kind.Strict (StrictKind.Collect place first) → w.loaded.code ≡ code →
    ((q : Step) → slice_get code.steps.items place ≡ Some q → step ≡ q) → step.node ≡ Node.Collect value other → begins ≡ slot_number x.back.base step.first_slot → slot ≡ slot_number begins value →
    ((d : Block) (n : ℕ) (f : Places) → slot ≡ slot_number (slot_number d.base d.first) n → n < d.count → Holds w.store.now.terms w.arenas.blocks.slots d f → Evaluates d (between w.store v w.arenas a) (slot_term (held f n) n f w.store.now.state) r) →
    ((t : Tree) → IsTerm v r t → IsAcyclic (bindings v.now.state) → CollectedAs (value_of (bindings v.now.state) t) a b now) →
    (c : Config) × SilentlyTo view w.loaded.preds names (config (going no_goals e w.store.now.state k) es) c × Stands (moved w v b) now c
collect-answers w v a b now i place first begins slot value other step code r x p es view names e k stands none last balanced level at named is_code finds node starts slot_is reads tells =
    level-answers w v b i (block_at w.loaded place x.back.base) x (StrictKind.Collect place first) now p es view names e k stands none last balanced level at named refl
    (λ it f agrees holds.
    let top : ℕ = length w.arenas.collected in
    let lies : Around w i x es it = lies-around w i x es stands.entries balanced it in
    let col : _ = (collects-at w.loaded w.arenas.collected (back_here w x) (w.store.at_mark x.mark).state x.back.base x.back.frame x.back.blocks.slots it.from place first x.back.kind it.level it.back named it.is.kind).0 in
    let d : Block = block_at w.loaded place x.back.base in
    let there : (q : Step) × (slice_get (steps_of w.loaded) place ≡ Some q) = own-step w x.back.base place x.back.frame (collect col.goal col.value col.into) col.places col.frames col.own in
    let at_step : slice_get (steps_of w.loaded) place ≡ Some step = there.1 ∙ ap Some (sym (finds there.0 (ap (λ q. slice_get q.steps.items place) (sym is_code) ∙ there.1))) in
    let own_node : step.node ≡ Node.Collect col.value col.into =
    collect-node (tables_in w.loaded) step.node col.goal col.value col.into (kind-here (tables_in w.loaded) (steps_of w.loaded) d place (collect col.goal col.value col.into) col.own.last step step.node col.own.goal at_step refl) in
    let same : value ≡ col.value = same-value step.node value other col.value col.into node own_node in
    let readable : NodeIsReadable (tables_in w.loaded) d (Node.Collect col.value col.into) =
    subst (λ q. NodeIsReadable (tables_in w.loaded) d q) own_node (own-block w x.back.base place x.back.frame (collect col.goal col.value col.into) col.places col.frames step col.own at_step).readable in
    let slots_begin : begins ≡ slot_number d.base d.first = own-slots w x.back.base place x.back.frame begins (collect col.goal col.value col.into) col.places col.frames step col.own at_step starts in
    let read : Evaluated = evaluated (var col.value) f w.store.now.state in
    let got_it : Evaluates d (between w.store v w.arenas a) read r =
    subst (λ y. Evaluates d (between w.store v w.arenas a) y r) (sym (slot-is-read col.value f w.store.now.state))
    (reads d col.value f (slot_is ∙ ap (λ n. slot_number n value) slots_begin ∙ ap (slot_number (slot_number d.base d.first)) same) readable.0 holds) in
    let sound : Rests v.now.state = subst Rests (sym got_it.writes.state) (evaluated-rests (var col.value) f w.store.now.state stands.entries.state) in
    let told : CollectedAs (slot_value col.value f w.store.now.state) a b now =
    subst (λ q. CollectedAs (value_of (bindings q) read.tree) a b now) got_it.writes.state (tells read.tree got_it.term sound.calm.state.acyclic) in
    let entries : StackStands (moved w v a) (it.above ++ strict it.level it.back ∷ it.below) =
    subst (StackStands (moved w v a)) lies.whole (stack-moved w v a d read.slots read.state es got_it.writes sound stands.entries) in
    subst (Stands (moved w v b) now) (sym (list-step col.value col.into (values_between w.arenas.collected it.from top) it.level f w.store.now.state it.above it.back it.below col.level))
    (collect-by w v a b now i place first col.value col.into x it.level it.back (slot_value col.value f w.store.now.state) (values_between w.arenas.collected it.from top) it.above it.below entries (ap (λ r. r.entries) got_it.writes.rest) at named col.level lies.closed lies.number told))

-- the step is always one of collecting
pub no-other-node : {M : Type 0} (w : World M) (i place first : ℕ) (step : Step) (code : Code) (x : Entry M) (es : List EntryData) → StackStands w es → IsBalanced zero es → w.arenas.level ≡ suc i → slice_get (entries_of w) i ≡ Some x →
    x.back.kind ≡ Kind.Strict (StrictKind.Collect place first) → w.loaded.code ≡ code → ((q : Step) → slice_get code.steps.items place ≡ Some q → step ≡ q) → (value : ℕ) × (into : ℕ) × (step.node ≡ Node.Collect value into)
no-other-node w i place first step code x es stands balanced level at named is_code finds =
    let it : Found w i x es = found w i x (StrictKind.Collect place first) es stands balanced level at named in
    let col : _ = (collects-at w.loaded w.arenas.collected (back_here w x) (w.store.at_mark x.mark).state x.back.base x.back.frame x.back.blocks.slots it.from place first x.back.kind it.level it.back named it.is.kind).0 in
    let there : (q : Step) × (slice_get (steps_of w.loaded) place ≡ Some q) = own-step w x.back.base place x.back.frame (collect col.goal col.value col.into) col.places col.frames col.own in
    let at_step : slice_get (steps_of w.loaded) place ≡ Some step = there.1 ∙ ap Some (sym (finds there.0 (ap (λ q. slice_get q.steps.items place) (sym is_code) ∙ there.1))) in (
      col.value,
      col.into,
      collect-node (tables_in w.loaded) step.node col.goal col.value col.into (kind-here (tables_in w.loaded) (steps_of w.loaded) (block_at w.loaded place x.back.base) place (collect col.goal col.value col.into) col.own.last step step.node col.own.goal at_step refl),
    )

pub collected-fits : {M : Type 0} (t copy : Tree) (a b : ArenasView M) (now : Now) → (copy ≡ t) × (cells t ≤ most_cells) → b ≡ with_collected a (a.collected ++ copy ∷ []) → now ≡ Now.Failing → CollectedAs t a b now
collected-fits t copy a b now read pushed is = inl (read.1, pushed ∙ ap (λ u. with_collected a (a.collected ++ u ∷ [])) read.0, is)

pub collected-not : {M : Type 0} (t : Tree) (a b : ArenasView M) (now : Now) → most_cells < cells t → b ≡ a → now ≡ Now.Raising (atom (codes "term_too_large")) → CollectedAs t a b now
collected-not t a b now read same is = inr (read, same, is)
