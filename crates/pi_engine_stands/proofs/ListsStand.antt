-- The values that are collected become a list, and the list goes into its slot.
use Rattle.std.proofs.Common.{◌≡◌, ℕ, zero, suc, ◌+◌, ◌-◌, ◌≤◌, ◌<◌, List, [], ◌∷◌, ◌++◌, Some, None, length, take, drop, refl, sym, ◌∙◌, ap, subst, arith}
use Rattle.std.specs.Prelude.{slice_get, slice_set, codes}
use Rattle.std.proofs.lemmas.List.{length-take-le}
use Rattle.pi_terms.specs.Tree.{Tree, atom, comp, Trees, no_trees, tree, drop_trees}
use Rattle.pi_terms.specs.TermCells.{append_trees}
use Rattle.pi_terms.specs.Copy.{copy, new_variables}
use Rattle.pi_terms.specs.Places.{Places}
use Rattle.pi_constraints.specs.State.{State, next, with_new}
use Rattle.pi_constraints.specs.Store.{StoreView, Keeps, Stays, Gives, IsTerm, AreTerms}
use Rattle.pi_constraints.specs.Evaluation.{with_new_variables}
use Rattle.pi_terms.specs.ListCopies.{list_cell, list_of_copies, new_in_all}
use Rattle.pi_core.specs.GoalTree.{no_goals, collect}
use Rattle.pi_constraints.specs.declared.store.Ref.{Ref}
use Rattle.pi_terms.proofs.GetLemmas.{get_some, take_more}
use Rattle.pi_constraints.proofs.KeepsLemmas.{news-next}
use Rattle.pi_unify.specs.Copying.{with_variables}
use Rattle.pi_unify.proofs.KeepsLemmas.{keeps_none, keeps_then}
use Rattle.pi_engine_arenas.specs.declared.arenas.Back.{Back}
use Rattle.pi_engine_arenas.specs.declared.arenas.Kind.{Kind}
use Rattle.pi_engine_arenas.specs.declared.arenas.Strict.{Strict as StrictKind}
use Rattle.pi_engine_code.specs.declared.code.Code.{Code}
use Rattle.pi_engine_code.specs.declared.code.Node.{Node}
use Rattle.pi_engine_code.specs.declared.code.Step.{Step}
use Rattle.pi_engine_arenas.specs.declared.run.Now.{Now}
use Rattle.pi_engine_arenas.specs.Blocks.{BlocksView, KeepsBlocks}
use Rattle.pi_engine_arenas.specs.Arenas.{ArenasView, DropsNewest, with_collected}
use Rattle.pi_meaning.specs.Machine.Configuration.{Frame, Entry as EntryData, Strict, strict, list_level, Back as BackData, config, going}
use Rattle.pi_meaning.specs.Machine.Step.{end_step}
use Rattle.pi_engine_stands.specs.Here.{NodeIsReadable}
use Rattle.pi_engine_stands.specs.Stands.{World, tables_in, steps_of, entries_of, now_here, block_at, values_between, StackIs, StackStands, Stands}
use Rattle.pi_engine_arenas.specs.Frames.{slot_number}
use Rattle.pi_engine_stands.specs.Evaluates.{with_blocks}
use Rattle.pi_engine_stands.specs.Fails.{IsBack}
use Rattle.pi_engine_stands.specs.Lists.{copies, list_of, PlacesValues}
use Rattle.pi_terms.proofs.ListLemmas.{take-take}
use Rattle.pi_terms.proofs.OptionLemmas.{none-some, same-some}
use Rattle.pi_engine_stands.proofs.NodeLemmas.{kind-here}
use Rattle.pi_engine_stands.proofs.StandsLemmas.{moved, stack-moves}
use Rattle.pi_engine_stands.proofs.ArgumentsStand.{behind-first, terms-more}
use Rattle.pi_engine_stands.proofs.BackStand.{back-kind, Popped, popped}
use Rattle.pi_engine_stands.proofs.WrittenGoals.{own-step, own-block}
use Rattle.pi_engine_stands.proofs.CaughtStand.{news-are}
use Rattle.pi_engine_stands.proofs.SlotsGiven.{given}
use Rattle.pi_engine_stands.proofs.CollectsStand.{CollectsAt, collects-at, collect-node}
use Rattle.pi_engine_stands.proofs.RestLemmas.{news-rest}

-- ---- values are placed

nothing : (n : ℕ) → n - n ≡ 0
nothing n = omega arith

places-nothing : {M : Type 0} (v : StoreView M) → PlacesValues v v [] []
unfolding with_new_variables new_in_all copies AreTerms
places-nothing v = record { keeps = keeps_none v; state = refl; terms = tt }

news-more : (a b : ℕ) (s : State) → with_new_variables b (with_new_variables a s) ≡ with_new_variables (a + b) s
unfolding with_new_variables
news-more zero b s = let e : b ≡ 0 + b = omega arith in ap (λ n. with_new_variables n s) e
news-more (suc a) b s = let e : suc (a + b) ≡ suc a + b = omega arith in news-more a b (with_new s) ∙ ap (λ n. with_new_variables n s) e

new-more : (ts : List Tree) (t : Tree) → new_in_all (ts ++ t ∷ []) ≡ new_in_all ts + new_variables t
unfolding new_in_all
new-more [] t = omega arith
new-more (x ∷ ts) t = omega (arith, new-more ts t)

copies-more : (n : ℕ) (ts : List Tree) (t : Tree) → copies n (ts ++ t ∷ []) ≡ append_trees (copies n ts) (tree (copy (n + new_in_all ts) t) no_trees)
unfolding copies new_in_all
copies-more n [] t = let e : n ≡ n + 0 = omega arith in ap (λ m. tree (copy m t) no_trees) e
copies-more n (x ∷ ts) t =
    let e : n + new_variables x + new_in_all ts ≡ n + (new_variables x + new_in_all ts) = omega arith in
    ap (λ us. tree (copy n x) us) (copies-more (n + new_variables x) ts t ∙ ap (λ m. append_trees (copies (n + new_variables x) ts) (tree (copy m t) no_trees)) e)

terms-keep : {M : Type 0} (v w : StoreView M) (rs : List Ref) (ts : Trees) → Keeps v w → AreTerms v rs ts → AreTerms w rs ts
unfolding AreTerms
terms-keep v w [] no_trees keeps h = h
terms-keep v w [] (tree t ts) keeps h = absurd h
terms-keep v w (r ∷ rs) no_trees keeps h = absurd h
terms-keep v w (r ∷ rs) (tree t ts) keeps h = (keeps.terms r t h.0, terms-keep v w rs ts keeps h.1)

pub places-none : {M : Type 0} (v : StoreView M) (c : List Tree) (first : ℕ) (rs : List Ref) → rs ≡ [] → PlacesValues v v (values_between c first first) rs
places-none v c first rs none =
    subst (λ ts. PlacesValues v v ts rs) (sym (ap (λ n. take n (drop first c)) (nothing first))) (subst (λ (qs : List Ref). PlacesValues v v [] qs) (sym none) (places-nothing v))

-- one value more
pub places-more : {M : Type 0} (v w x : StoreView M) (c : List Tree) (first i : ℕ) (t : Tree) (rs new : List Ref) (r : Ref) → first ≤ i → slice_get c i ≡ Some t → PlacesValues v w (values_between c first i) rs →
    Gives w x (with_variables (new_variables t) w.now.state) r (copy (next w.now.state) t) → new ≡ rs ++ r ∷ [] → PlacesValues v x (values_between c first (i + 1)) new
places-more v w x c first i t rs new r order at before one pushed =
    let got : List Tree = values_between c first i in
    let s : State = v.now.state in
    let here : slice_get (drop first c) (i - first) ≡ Some t = behind-first c first (i - first) ∙ ap (slice_get c) (omega (arith, order)) ∙ at in
    let more : values_between c first (i + 1) ≡ got ++ t ∷ [] = ap (λ n. take n (drop first c)) (omega (arith, order)) ∙ take_more (drop first c) (i - first) t here in
    let number : next w.now.state ≡ next s + new_in_all got = ap next before.state ∙ news-next (new_in_all got) s in
    let state : x.now.state ≡ with_new_variables (new_in_all (got ++ t ∷ [])) s =
    one.changes.state ∙ news-are (new_variables t) w.now.state ∙ ap (with_new_variables (new_variables t)) before.state ∙ news-more (new_in_all got) (new_variables t) s ∙ ap (λ n. with_new_variables n s) (sym (new-more got t)) in
    subst (λ ts. PlacesValues v x ts new) (sym more)
    (record {
      keeps = keeps_then v w x before.keeps one.changes.keeps;
      state = state;
      terms = subst (λ (qs : List Ref). AreTerms x qs (copies (next s) (got ++ t ∷ []))) (sym pushed)
          (subst (λ us. AreTerms x (rs ++ r ∷ []) us) (sym (copies-more (next s) got t))
          (terms-more x rs (copies (next s) got) r (copy (next s + new_in_all got) t) (terms-keep w x rs (copies (next s) got) one.changes.keeps before.terms)
          (subst (λ n. IsTerm x r (copy n t)) number one.term)));
    })

pub there-is : {A : Type 0} (xs : List A) (i : ℕ) → i < length xs → slice_get xs i ≡ None → ⊥
there-is xs i within none = none-some none (get_some xs i within).1

-- ---- the list of terms

pub list-of-copies : (n : ℕ) (ts : List Tree) → list_of (copies n ts) ≡ list_of_copies n ts
unfolding list_of copies list_of_copies
list-of-copies n [] = refl
list-of-copies n (t ∷ ts) = ap (list_cell (copy n t)) (list-of-copies (n + new_variables t) ts)

-- behind all of them there is nothing
pub nothing-behind : {M : Type 0} (v : StoreView M) (rs : List Ref) (ts : Trees) → AreTerms v rs ts → list_of (drop_trees (length rs) ts) ≡ atom (codes "[]")
unfolding AreTerms list_of
nothing-behind v [] no_trees h = refl
nothing-behind v [] (tree t ts) h = absurd h
nothing-behind v (r ∷ rs) no_trees h = absurd h
nothing-behind v (r ∷ rs) (tree t ts) h = nothing-behind v rs ts h.1

pub one-before : {M : Type 0} (v : StoreView M) (rs : List Ref) (ts : Trees) (i : ℕ) (r : Ref) → AreTerms v rs ts → slice_get rs i ≡ Some r → (t : Tree) × (list_of (drop_trees i ts) ≡ list_cell t (list_of (drop_trees (suc i) ts))) × IsTerm v r t
unfolding AreTerms list_of
one-before v [] ts i r h at = absurd cc
one-before v (q ∷ rs) no_trees i r h at = absurd h
one-before v (q ∷ rs) (tree t ts) zero r h at = (t, refl, subst (λ p. IsTerm v p t) (same-some at) h.0)
one-before v (q ∷ rs) (tree t ts) (suc i) r h at = one-before v rs ts i r h.1 at

pub list-more : {M : Type 0} (v w x : StoreView M) (rs : List Ref) (ts : Trees) (i : ℕ) (r list made : Ref) → AreTerms v rs ts → Stays v w → IsTerm w list (list_of (drop_trees (suc i) ts)) → slice_get rs i ≡ Some r → Stays w x →
    ((us : Trees) → AreTerms w (r ∷ list ∷ []) us → IsTerm x made (comp (codes "[|]") us)) → Stays v x × IsTerm x made (list_of (drop_trees i ts))
unfolding AreTerms
list-more v w x rs ts i r list made terms before rest at stays puts =
    let one : _ = one-before v rs ts i r terms at in (
      record { keeps = keeps_then v w x before.keeps stays.keeps; state = stays.state ∙ before.state },
      subst (IsTerm x made) (sym one.1) (puts (tree one.0 (tree (list_of (drop_trees (suc i) ts)) no_trees)) (before.keeps.terms r one.0 one.2, (rest, tt))),
    )

-- ---- the end of the level

step-of-list : {M : Type 0} (w : World M) (back : Back) (c : List Tree) (t : State) (from slots place : ℕ) (code : Code) (step : Step) (s : Strict) (b : BackData) → (it : CollectsAt w.loaded c (now_here w) t back.base back.frame slots from place s b) → w.loaded.code ≡ code →
    ((r : Step) → slice_get code.steps.items place ≡ Some r → step ≡ r) → (slice_get (steps_of w.loaded) place ≡ Some step) × (step.node ≡ Node.Collect it.value it.into) × (it.into < (block_at w.loaded place back.base).count)
step-of-list w back c t from slots place code step s b it is_code finds =
    let there : (r : Step) × (slice_get (steps_of w.loaded) place ≡ Some r) = own-step w back.base place back.frame (collect it.goal it.value it.into) it.places it.frames it.own in
    let at : slice_get (steps_of w.loaded) place ≡ Some step = there.1 ∙ ap Some (sym (finds there.0 (ap (λ q. slice_get q.steps.items place) (sym is_code) ∙ there.1))) in
    let node : step.node ≡ Node.Collect it.value it.into =
    collect-node (tables_in w.loaded) step.node it.goal it.value it.into
    (kind-here (tables_in w.loaded) (steps_of w.loaded) (block_at w.loaded place back.base) place (collect it.goal it.value it.into) it.own.last step step.node it.own.goal at refl) in
    let readable : NodeIsReadable (tables_in w.loaded) (block_at w.loaded place back.base) (Node.Collect it.value it.into) =
    subst (λ q. NodeIsReadable (tables_in w.loaded) (block_at w.loaded place back.base) q) node (own-block w back.base place back.frame (collect it.goal it.value it.into) it.places it.frames step it.own at).readable in
    (at, node, readable.1)

same-into : (node : Node) (v i a b : ℕ) → node ≡ Node.Collect v i → node ≡ Node.Collect a b → b ≡ i
same-into node v i a b h k = cc

-- the step is always one of collecting
pub no-other-end : {M : Type 0} (w : World M) (back : Back) (place first : ℕ) (code : Code) (step : Step) (s : Strict) (b : BackData) (es : List EntryData) → back.kind ≡ Kind.Strict (StrictKind.Collect place first) → w.loaded.code ≡ code →
    ((r : Step) → slice_get code.steps.items place ≡ Some r → step ≡ r) → IsBack w back (strict s b) es → (value : ℕ) × (into : ℕ) × (step.node ≡ Node.Collect value into)
no-other-end w back place first code step s b es named is_code finds it =
    let at : _ = (collects-at w.loaded w.arenas.collected (now_here w) w.store.now.state back.base back.frame back.blocks.slots it.from place first back.kind s b named (back-kind w back (strict s b) es it)).0 in
    (at.value, at.into, (step-of-list w back w.arenas.collected w.store.now.state it.from back.blocks.slots place code step s b at is_code finds).1)

list-step : (s : Strict) (value into : ℕ) (got : List Tree) (b : BackData) (e : Places) (t : State) (k : List Frame) (es : List EntryData) → s ≡ list_level value into got → b ≡ record { slots = e; state = t; frames = k } →
    end_step s b es ≡ config (going no_goals (slice_set e into (Some (list_of_copies (next t) got))) (with_new_variables (new_in_all got) t) k) es
unfolding end_step
list-step s value into got b e t k es level back = ap (λ q. end_step q b es) level ∙ ap (λ q. end_step (list_level value into got) q es) back

-- the values that were collected for the level are gone
values-gone : {M : Type 0} (w : World M) (back : Back) (c d : List Tree) (from : ℕ) (y : EntryData) (es : List EntryData) → Popped w back c from y es → d ≡ take from c → StackStands (moved w w.store (with_collected w.arenas d)) es
values-gone w back c d from y es out taken =
    let many : length d ≡ from = ap length taken ∙ length-take-le from c out.order in
    record {
      code = out.code;
      state = out.state;
      tables = out.tables;
      level = out.level;
      kept = out.kept;
      stack = subst (λ n. StackIs (moved w w.store (with_collected w.arenas d)) (length (entries_of w)) n es) (sym many)
          (stack-moves w w.store (with_collected w.arenas d) (length (entries_of w)) from (length (entries_of w)) from es
          (record {
            entries = refl;
            marks = λ i x h at good. (good, refl);
            blocks = λ i x h at kept. (kept, refl);
            frames = λ i x h at fit. (fit, refl);
            collected = ap (take from) out.same ∙ sym (take-take from from c (omega arith)) ∙ ap (take from) (sym taken);
            enough = omega (arith, many);
            beside = λ m. refl;
            names = λ k name has. has;
          }) (omega arith) (omega arith) out.stack);
    }

pub list-given : {M : Type 0} (w : World M) (c : ArenasView M) (v u : StoreView M) (d : List Tree) (new : BlocksView) (back : Back) (place first value into begins slot : ℕ) (code : Code) (step : Step) (rs : List Ref) (r : Ref) (s : Strict) (b : BackData) (es : List EntryData) →
    back.kind ≡ Kind.Strict (StrictKind.Collect place first) → w.loaded.code ≡ code → ((q : Step) → slice_get code.steps.items place ≡ Some q → step ≡ q) → step.node ≡ Node.Collect value into → IsBack w back (strict s b) es → DropsNewest w.arenas c →
    (first ≤ length c.collected → PlacesValues w.store v (values_between c.collected first (length c.collected)) rs) → ((ts : Trees) → AreTerms v rs ts → Stays v u × IsTerm u r (list_of ts)) → d ≡ take first c.collected →
    begins ≡ slot_number back.base step.first_slot → slot ≡ slot_number begins into → new.slots ≡ slice_set c.blocks.slots slot (Some r) → new.kept ≡ c.blocks.kept → KeepsBlocks c.blocks new → length c.blocks.slots ≤ 18446744073709551615 →
    Stands (moved w u (with_blocks (with_collected c d) new)) (Now.Going (record { place = 0; count = 0; base = back.base; frame = back.frame })) (end_step s b es)
list-given w c v u d new back place first value into begins slot code step rs r s b es named is_code finds node it drops places lists taken starts is slots kept stays most =
    let after : World _ = moved w w.store c in
    let all : List Tree = w.arenas.collected in
    let out : Popped after back all it.from (strict s b) es = popped w c back (strict s b) es it drops in
    let two : _ = collects-at after.loaded all (now_here after) after.store.now.state back.base back.frame back.blocks.slots it.from place first back.kind s b named out.kind in
    let at : _ = two.0 in
    let same : c.collected ≡ all = out.same in
    let got : List Tree = values_between all it.from (length all) in
    let own : _ = step-of-list after back all after.store.now.state it.from back.blocks.slots place code step s b at is_code finds in
    let put : PlacesValues w.store v got rs =
    subst (λ n. PlacesValues w.store v (values_between all n (length all)) rs) (sym two.1)
    (subst (λ xs. PlacesValues w.store v (values_between xs first (length xs)) rs) same (places (omega (arith, out.order, two.1, ap length same)))) in
    let list : Stays v u × IsTerm u r (list_of (copies (next w.store.now.state) got)) = lists (copies (next w.store.now.state) got) put.terms in
    let gone : StackStands (moved after after.store (with_collected c d)) es = values-gone after back all d it.from (strict s b) es out (taken ∙ ap (take first) same ∙ ap (λ n. take n all) (sym two.1)) in
    subst (Stands (moved w u (with_blocks (with_collected c d) new)) (Now.Going (record { place = 0; count = 0; base = back.base; frame = back.frame })))
    (sym (list-step s at.value at.into got b at.places w.store.now.state at.frames es at.level at.back_is))
    (given (moved after after.store (with_collected c d)) u new back.base place back.frame at.into begins slot step r (list_of_copies (next w.store.now.state) got) (with_new_variables (new_in_all got) w.store.now.state) (collect at.goal at.value at.into) at.places at.frames es
    gone at.own out.agrees own.0 own.2 starts (is ∙ ap (slot_number begins) (sym (same-into step.node value into at.value at.into node own.1))) (keeps_then w.store v u put.keeps list.0.keeps) (list.0.state ∙ put.state)
    (news-rest (new_in_all got) w.store.now.state out.state) (subst (IsTerm u r) (list-of-copies (next w.store.now.state) got) list.1) slots kept stays most)
