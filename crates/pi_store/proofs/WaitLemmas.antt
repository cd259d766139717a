-- What waits: an activation is the term that was made of it, one more waits behind the others, and the first is taken.
use Rattle.std.proofs.Common.{◌≡◌, ℕ, zero, suc, ◌+◌, ◌^◌, ◌<◌, ◌≤◌, cond, List, [], ◌∷◌, ◌++◌, length, map, drop, slice_index, slice_set, Option, Some, None, Result, Ok, Err, IfOk, refl, ap, sym, subst, ◌∙◌, arith}
use Rattle.std.proofs.lemmas.Bool.{lt-ltb}
use Rattle.std.proofs.lemmas.List.{map-append, length-map, drop_all, drop-append-le}
use Rattle.pi_terms.specs.Tree.{Tree, var, Trees, no_trees, tree, tree_count, tree_at, args, arity, arg_at}
use Rattle.pi_terms.proofs.TermLemmas.{tree_at-below}
use Rattle.pi_constraints.specs.Value.{value}
use Rattle.pi_constraints.specs.State.{State, SpeaksBelow, next, IsActivation, with_waiting}
use Rattle.pi_constraints.specs.Store.{StoreView, IsTerm, AreTerms, Stays, Changes, TakesFirst}
use Rattle.pi_constraints.specs.declared.store.Ref.{Ref}
use Rattle.pi_constraints.specs.declared.store.Cell.{Cell}
use Rattle.pi_constraints.specs.declared.event.Activation.{Activation}
use Rattle.pi_region.specs.Image.{Image, pushed}
use Rattle.pi_region.specs.Back.{Advances}
use Rattle.pi_region.specs.declared.entry.Table.{Table}
use Rattle.pi_store_blocks.specs.Form.{form_of}
use Rattle.pi_store_blocks.specs.Heap.{Heap, Names, Grows, term_at, Shows}
use Rattle.pi_store_blocks.specs.Placed.{IsRefIn}
use Rattle.pi_store_blocks.proofs.HeapLemmas.{trees_stay}
use Rattle.pi_store_blocks.proofs.LookLemmas.{shows_var}
use Rattle.pi_store_blocks.proofs.RefLemmas.{form_stays}
use Rattle.pi_store_blocks.specs.NameTable.{NameTable}
use Rattle.pi_store_blocks.proofs.BuiltLemmas.{keeps_then}
use Rattle.pi_store.specs.declared.mark.RawMark.{RawMark}
use Rattle.pi_store.specs.Read.{arity_of}
use Rattle.pi_store.specs.Waiting.{number_tree, activation_tree, number_in, number_at, activation_of, number_shown, ShowsArgument, HasValueBelow, WaitsAt, IsWaitingIn}
use Rattle.pi_store.specs.Holding.{heap_of, activation_in, waiting_in, state_of, view_of}
use Rattle.pi_store.specs.Heads.{taken_in, SetsHead}
use Rattle.pi_store.specs.Sound.{IsSound}
use Rattle.pi_store.proofs.LookLemmas.{tree_is}
use Rattle.pi_store.proofs.ReadLemmas.{shown_arity, made_value}
use Rattle.pi_store.proofs.NameLemmas.{keeps_itself}
use Rattle.pi_store.proofs.PartLemmas.{stays_itself}
use Rattle.pi_store.proofs.SoundLemmas.{has_waiting, has_taken, ref_has_term, term_is_ref, has_constraints, has_lists, sound_waiting, sound_head}
use Rattle.pi_store.proofs.CompleteLemmas.{complete_taken}
use Rattle.pi_store.proofs.AddLemmas.{sound_pads, tables_pads}
use Rattle.pi_store.proofs.KeepLemmas.{heap_grows, keeps_all, same_states, same_parts, parts_stay}

-- An activation as a term

number_back : (n : ℕ) → n < 2 ^ 64 → number_at (Some (number_tree n)) ≡ n
number_back n lt = ap (λ b. cond b n 0) (lt-ltb n (2 ^ 64) lt)

activation_with : ℕ → ℕ → Option Tree → Activation
activation_with agent watch value = record { agent = agent; watch = watch; value = value }

value_back : (agent watch : ℕ) (value : Option Tree) → arg_at (activation_tree agent watch value) 2 ≡ value
unfolding tree_at
value_back agent watch None = refl
value_back agent watch (Some t) = refl

pub activation_back : (agent watch : ℕ) (value : Option Tree) → agent < 2 ^ 64 → watch < 2 ^ 64 → activation_of (activation_tree agent watch value) ≡ record { agent = agent; watch = watch; value = value }
unfolding activation_with tree_at
activation_back agent watch value a w =
    ap (λ n. activation_with n (number_at (Some (number_tree watch))) (arg_at (activation_tree agent watch value) 2)) (number_back agent a)
    ∙ (ap (λ n. activation_with agent n (arg_at (activation_tree agent watch value) 2)) (number_back watch w)
    ∙ ap (activation_with agent watch) (value_back agent watch value))

-- What is read of it

number_is : (names : Names) (u : Tree) (cell : Cell) → Shows names u cell → number_shown cell ≡ number_in u
number_is names u (Cell.Var n) s = ap number_in (sym s)
number_is names u (Cell.Int n) s = ap number_in (sym s)
number_is names u (Cell.Atom k) s = ap number_in (sym s.2)
number_is names u (Cell.Comp k count) s = ap number_in (sym s.2)

pub number_found : (h : Heap) (o : Option Tree) (r : Ref) (cell : Cell) → ShowsArgument h o (Some r) → ((u : Tree) → term_at h r.number ≡ Some u → Shows h.names u cell) → number_shown cell ≡ number_at o
number_found h None r cell s shows = absurd s
number_found h (Some u) r cell s shows = number_is h.names u cell (shows u s)

pub number_none : (h : Heap) (o : Option Tree) → ShowsArgument h o None → 0 ≡ number_at o
number_none h None s = refl
number_none h (Some u) s = absurd s

none_past : (ts : Trees) (i : ℕ) → tree_count ts ≤ i → tree_at ts i ≡ None
unfolding tree_count tree_at
none_past no_trees i le = refl
none_past (tree t ts) zero le = absurd (omega arith)
none_past (tree t ts) (suc i) le = none_past ts i (omega arith)

pub argument_none : (h : Heap) (t : Tree) (cell : Cell) (i n : ℕ) → Shows h.names t cell → n ≡ arity_of cell → n ≤ i → ShowsArgument h (arg_at t i) None
argument_none h t cell i n s e le =
    let counts : arity_of cell ≡ arity t = shown_arity h.names t cell s in
    let many : arity_of cell ≡ tree_count (args t) = counts in
    subst (λ (o : Option Tree). ShowsArgument h o None) (sym (none_past (args t) i (omega arith))) tt

pub argument_some : (h : Heap) (t : Tree) (cell : Cell) (i n : ℕ) (r : Ref) → Shows h.names t cell → n ≡ arity_of cell → i < n → ((u : Tree) → arg_at t i ≡ Some u → term_at h r.number ≡ Some u) → ShowsArgument h (arg_at t i) (Some r)
argument_some h t cell i n r s e lt arg =
    let counts : arity_of cell ≡ arity t = shown_arity h.names t cell s in
    let many : arity_of cell ≡ tree_count (args t) = counts in
    let there = tree_at-below (args t) i (omega arith) in
    subst (λ (o : Option Tree). ShowsArgument h o (Some r)) (sym there.is) (arg there.it there.is)

pub value_none : (h : Heap) (o : Option Tree) → ShowsArgument h o None → None ≡ o
value_none h None s = refl
value_none h (Some u) s = absurd s

pub value_read : (h : Heap) (o : Option Tree) (r : Ref) (read : Tree) → ShowsArgument h o (Some r) → ((u : Tree) → term_at h r.number ≡ Some u → read ≡ value [] u) → Some read ≡ o
value_read h None r read s is = absurd s
value_read h (Some u) r read s is = ap Some (is u s ∙ made_value u)

-- an activation by its word
pub activation_found : (h : Heap) (w : ℕ) (agent watch : ℕ) (value : Option Tree) → 0 < w → ((t : Tree) → term_at h w ≡ Some t → (agent ≡ number_at (arg_at t 0)) × (watch ≡ number_at (arg_at t 1)) × (value ≡ arg_at t 2)) → WaitsAt h w
    → record { agent = agent; watch = watch; value = value } ≡ activation_in h w
unfolding activation_with
activation_found h zero agent watch value some parts at = absurd (omega arith)
activation_found h (suc w) agent watch value some parts at =
    let p = parts at.0 at.1 in
    ap (λ n. activation_with n watch value) p.0 ∙ (ap (λ n. activation_with (number_at (arg_at at.0 0)) n value) p.1 ∙ (ap (activation_with (number_at (arg_at at.0 0)) (number_at (arg_at at.0 1))) p.2 ∙ ap activation_of (sym (tree_is h (suc w) at.0 at.1))))

-- One more

is_waiting : (h : Heap) (w : ℕ) → IsRefIn h (form_of w) → IsWaitingIn h w
is_waiting h zero is = tt
is_waiting h (suc w) is = is

pub sound_waits : (t : NameTable) (i j : Image) (w : ℕ) → IsSound t i → IsRefIn (heap_of t i) (form_of w) → Advances i j → j ≡ pushed i Table.Waiting w → IsSound t j
sound_waits t i j w s is a words =
    let grows : Grows (heap_of t i) (heap_of t j) = heap_grows t t i j (keeps_itself t (length i.region)) a in
    let here : IsWaitingIn (heap_of t j) w = is_waiting (heap_of t j) w (form_stays (heap_of t i) (heap_of t j) grows (form_of w) is) in
    subst (IsSound t) (sym words) (sound_waiting t i w (subst (λ (l : Image). IsWaitingIn (heap_of t l) w) words here) s)

-- the word of a term is that of its activation
word_activation : (h : Heap) (w : ℕ) (x : Tree) → term_at h w ≡ Some x → activation_in h w ≡ activation_of x
unfolding tree_at
word_activation h zero x is = let same : x ≡ var 0 = shows_var h 0 0 x refl is in ap activation_of (sym same)
word_activation h (suc w) x is = ap activation_of (tree_is h (suc w) x is)

pub waits_then : (t : NameTable) (i j : Image) (r : Ref) (x : Tree) → IsSound t i → Advances i j → j ≡ pushed i Table.Waiting r.number → IsTerm (view_of t i) r x
    → Changes (view_of t i) (view_of t j) (with_waiting (state_of (heap_of t i) i) (waiting_in (heap_of t i) i ++ activation_of x ∷ []))
waits_then t i j r x s a words is =
    let h : Heap = heap_of t i in
    let k : Heap = heap_of t j in
    let keeps = keeps_itself t (length i.region) in
    let grows : Grows h k = heap_grows t t i j keeps a in
    let p = parts_stay t t i j s grows in
    let q = same_parts h k i j p in
    let few : taken_in i ≤ length i.waiting = has_taken t i s in
    let l : length (map (activation_in h) i.waiting) ≡ length i.waiting = length-map i.waiting (activation_in h) in
    let made : activation_in k r.number ≡ activation_of x = word_activation k r.number x (trees_stay h k grows r.number x is) in
    let all : map (activation_in k) j.waiting ≡ map (activation_in h) i.waiting ++ activation_of x ∷ [] =
    ap (λ (m : Image). map (activation_in k) m.waiting) words ∙ (map-append (activation_in k) i.waiting (r.number ∷ [])
    ∙ (ap (λ xs. xs ++ activation_in k r.number ∷ []) p.waiting ∙ ap (λ b. map (activation_in h) i.waiting ++ b ∷ []) made)) in
    let waits : waiting_in k j ≡ waiting_in h i ++ activation_of x ∷ [] =
    ap (λ (m : Image). drop (taken_in m) (map (activation_in k) j.waiting)) words
    ∙ (ap (drop (taken_in i)) all ∙ drop-append-le (taken_in i) (map (activation_in h) i.waiting) (activation_of x ∷ []) (omega arith)) in
    record {
      keeps = keeps_all t t i j keeps a;
      state = same_states _ _ (q.variables (ap (λ (m : Image). m.variables) words)) (q.constraints (ap (λ (m : Image). m.constraints) words)) (q.agents (ap (λ (m : Image). m.agents) words)) waits;
    }

-- nothing waits where it is no term
pub waits_none : (t : NameTable) (i : Image) (r : Ref) (P : Tree → Type 0) → IsSound t i → (IsRefIn (heap_of t i) (form_of r.number) → ⊥) → (x : Tree) → IsTerm (view_of t i) r x → P x
waits_none t i r P s none x is = absurd (none (term_is_ref t i s r.number x is))

-- an activation that was put as a term before
pub waits_to : (v w x : StoreView RawMark) (agent watch : ℕ) (value : Option Tree) → agent < 2 ^ 64 → watch < 2 ^ 64 → Stays v w → Changes w x (with_waiting w.now.state (w.now.state.waiting ++ activation_of (activation_tree agent watch value) ∷ []))
    → Changes v x (with_waiting v.now.state (v.now.state.waiting ++ record { agent = agent; watch = watch; value = value } ∷ []))
waits_to v w x agent watch value a b stays changes = record {
  keeps = keeps_then v w x stays.keeps changes.keeps;
  state = changes.state
      ∙ (ap (λ (s : State). with_waiting s (s.waiting ++ activation_of (activation_tree agent watch value) ∷ [])) stays.state
      ∙ ap (λ made. with_waiting v.now.state (v.now.state.waiting ++ made ∷ [])) (activation_back agent watch value a b));
}

-- arguments of such a term
pub two_terms : (v : StoreView RawMark) (r q : Ref) (x y : Tree) → IsTerm v r x → IsTerm v q y → AreTerms v (r ∷ q ∷ []) (tree x (tree y no_trees))
unfolding AreTerms
two_terms v r q x y a b = (a, (b, tt))

pub three_terms : (v : StoreView RawMark) (r q p : Ref) (x y z : Tree) → IsTerm v r x → IsTerm v q y → IsTerm v p z → AreTerms v (r ∷ q ∷ p ∷ []) (tree x (tree y (tree z no_trees)))
unfolding AreTerms
three_terms v r q p x y z a b c = (a, (b, (c, tt)))

-- its value speaks of variables that were made
pub value_below : (s : State) (a : Activation) → IsActivation s a → HasValueBelow (next s) a.value
value_below s a is = by a.value is.value
  where
    by : (o : Option Tree) → ((t : Tree) → o ≡ Some t → SpeaksBelow (next s) t) → HasValueBelow (next s) o
    by None below = tt
    by (Some t) below = below t refl

-- One that is taken

drop_one : (xs : List Activation) (ws : List ℕ) (f : ℕ → Activation) (n : ℕ) → xs ≡ map f ws → n < length ws → drop n xs ≡ f (slice_index ws n) ∷ drop (suc n) xs
drop_one xs [] f n e lt = absurd (omega arith)
drop_one xs (w ∷ ws) f zero e lt = e ∙ ap (λ ys. f w ∷ drop 1 ys) (sym e)
drop_one xs (w ∷ ws) f (suc n) e lt = ap (drop (suc n)) e ∙ (drop_one (map f ws) ws f n refl (omega arith) ∙ ap (λ ys. f (slice_index ws n) ∷ drop (suc (suc n)) ys) (sym e))

pub waits_at : (t : NameTable) (i : Image) (n : ℕ) → IsSound t i → WaitsAt (heap_of t i) (slice_index i.waiting n)
waits_at t i n s = by (slice_index i.waiting n) (has_waiting t i s n)
  where
    by : (w : ℕ) → IsWaitingIn (heap_of t i) w → WaitsAt (heap_of t i) w
    by zero is = tt
    by (suc w) is = ref_has_term t i s (suc w) is

pub takes_none : (t : NameTable) (i : Image) → length i.waiting ≤ taken_in i → TakesFirst (view_of t i) (view_of t i) None
takes_none t i le =
    let l : length (map (activation_in (heap_of t i)) i.waiting) ≡ length i.waiting = length-map i.waiting (activation_in (heap_of t i)) in
    (drop_all (taken_in i) (map (activation_in (heap_of t i)) i.waiting) (omega arith), stays_itself t i)

set_first : (hs : List ℕ) (w : ℕ) → 0 < length hs → slice_index (slice_set hs 0 w) 0 ≡ w
set_first [] w some = absurd (omega arith)
set_first (h ∷ hs) w some = refl

pub taken_then : (i j : Image) (w : ℕ) → SetsHead i j 0 w → taken_in j ≡ w
taken_then i j w is = ap taken_in is.set ∙ set_first is.mid.heads w is.there

pub sound_takes : (t : NameTable) (i j : Image) → IsSound t i → taken_in i < length i.waiting → SetsHead i j 0 (taken_in i + 1) → IsSound t j
sound_takes t i j s more is =
    let mid : IsSound t is.mid = sound_pads t i is.padded s in
    let waiting : is.mid.waiting ≡ i.waiting = (tables_pads i is.padded).waiting in
    let many : length is.mid.waiting ≡ length i.waiting = ap length waiting in
    let first : slice_index (slice_set is.mid.heads 0 (taken_in i + 1)) 0 ≡ taken_in i + 1 = set_first is.mid.heads (taken_in i + 1) is.there in
    subst (IsSound t) (sym is.set) (sound_head t is.mid 0 (taken_in i + 1) (omega arith) (complete_taken is.mid (taken_in i + 1) (has_constraints t is.mid mid) (has_lists t is.mid mid)) mid)

pub takes_first : (t : NameTable) (i j : Image) (first : Activation) → IsSound t i → taken_in i < length i.waiting → Advances i j → SetsHead i j 0 (taken_in i + 1) → first ≡ activation_in (heap_of t i) (slice_index i.waiting (taken_in i))
    → TakesFirst (view_of t i) (view_of t j) (Some first)
takes_first t i j first s more a set is =
    let h : Heap = heap_of t i in
    let k : Heap = heap_of t j in
    let keeps = keeps_itself t (length i.region) in
    let p = parts_stay t t i j s (heap_grows t t i j keeps a) in
    let q = same_parts h k i j p in
    let all : List Activation = map (activation_in h) i.waiting in
    let n : ℕ = taken_in i in
    let rest : List Activation = drop (suc n) all in
    let same = tables_pads i set.padded in
    let one : taken_in j ≡ suc n = let e : taken_in j ≡ n + 1 = taken_then i j (n + 1) set in omega arith in
    let waiting : j.waiting ≡ i.waiting = ap (λ (m : Image). m.waiting) set.set ∙ same.waiting in
    let left : waiting_in k j ≡ drop (suc n) (map (activation_in h) i.waiting) =
    ap (λ m. drop m (map (activation_in k) j.waiting)) one
    ∙ (ap (λ ws. drop (suc n) (map (activation_in k) ws)) waiting ∙ ap (drop (suc n)) p.waiting) in (
      rest,
      drop_one all i.waiting (activation_in h) n refl more ∙ ap (λ b. b ∷ rest) (sym is),
      record {
        keeps = keeps_all t t i j keeps a;
        state = same_states _ _ (q.variables (ap (λ (m : Image). m.variables) set.set ∙ same.variables)) (q.constraints (ap (λ (m : Image). m.constraints) set.set ∙ same.constraints)) (q.agents (ap (λ (m : Image). m.agents) set.set ∙ same.agents)) left;
      },
    )

pub taken_ok : {E : Type 0} (r : Result (Option Activation) E) (v w : StoreView RawMark) (first : Activation) → r ≡ Ok (Some first) → TakesFirst v w (Some first) → IfOk r (TakesFirst v w)
taken_ok r v w first e takes = subst (λ x. IfOk x (TakesFirst v w)) (sym e) takes

pub taken_err : {A E : Type 0} (r : Result A E) (e : E) (P : A → Type 0) → r ≡ Err e → IfOk r P
taken_err r e P is = subst (λ x. IfOk x P) (sym is) tt
