-- A comprehension does over slots what it does over names, whatever its loop is: the loop leaves what names stand for but for the one that has the items.
use Rattle.std.proofs.Common.{◌≡◌, ℕ, suc, ◌+◌, ◌-◌, ◌≤◌, ◌<◌, Bool, true, false, cond, List, [], ◌∷◌, ◌++◌, length, refl, sym, ◌∙◌, ap, subst, arith, length-append}
use Rattle.std.specs.Prelude.{Option, Some, None, option_and_then, option_map, IsSome, slice_set, replicate, not, nat_lt, ◌||◌}
use Rattle.std.specs.Str.{bytes_eq}
use Rattle.std.proofs.lemmas.Bool.{true≢false, ltb-false}
use Rattle.std.proofs.lemmas.Bool.Decides.{Decides-ltb}
use Rattle.std.proofs.lemmas.List.{length-set, get_or-set_same}
use Rattle.pi_terms.specs.Tree.{Tree, atom, no_trees, tree, tree_count}
use Rattle.pi_terms.specs.ListNames.{nil}
use Rattle.pi_terms.specs.Places.{Places, held}
use Rattle.pi_constraints.specs.State.{State}
use Rattle.pi_effects.specs.Inner.{itself_name}
use Rattle.pi_core.specs.GoalTree.{GoalTree}
use Rattle.pi_traces.specs.Trace.{Trace, one, then}
use Rattle.pi_traces.proofs.TraceLemmas.{then-one}
use Rattle.pi_traces.proofs.AnswerLemmas.{EachAnswer}
use Rattle.pi_meaning.specs.Shared.Level.{Level, Point}
use Rattle.pi_meaning.specs.CoreMeaning.Builtins.{Builtins}
use Rattle.pi_meaning.specs.Shared.Given.{Setting}
use Rattle.pi_meaning.specs.CoreMeaning.Meaning.{meaning}
use Rattle.pi_meaning.specs.OverNames.Environment.{Environment, meant, Valued}
use Rattle.pi_meaning.specs.OverNames.Place.{Place}
use Rattle.pi_meaning.specs.OverNames.Texts.{Names, is_among}
use Rattle.pi_meaning.specs.OverNames.Assigning.{with_names, with_value}
use Rattle.pi_meaning.specs.OverNames.Control.{Goal}
use Rattle.pi_meaning.specs.OverNames.Loops.{hidden, now, comprehended}
use Rattle.pi_meaning.proofs.OverNames.OtherEnvironments.{meant-value}
use Rattle.pi_meaning.proofs.OverNames.LoopNames.{among-append}
use Rattle.pi_rewrite_spec.specs.Slots.{SlotNames, unnamed, slot_of}
use Rattle.pi_rewrite_spec.specs.Forms.{Knows}
use Rattle.pi_rewrite_spec.specs.Goals.{SlotGoals}
use Rattle.pi_rewrite_spec.specs.Loops.{started}
use Rattle.pi_rewrite_spec.specs.Iterators.{found_by, behind_collection}
use Rattle.pi_rewrite_spec.specs.Comprehensions.{begun, comprehension}
use Rattle.pi_rewrite_spec.proofs.SameLemmas.{SameBy, same-one, same-then, same-each}
use Rattle.pi_rewrite_spec.proofs.FilledLemmas.{is_atom, in_slot, none_filled, one_filled, Extends, extends-then}
use Rattle.pi_rewrite_spec.proofs.AgreeLemmas.{Room, or_last, Grows, by, grows-then, grows-length, finds, slot-among, slot-below, slot-alone, name_at, Agrees, set-other, set-firm, holding, is_found, found-slot, agrees-holding, held-still}
use Rattle.pi_rewrite_spec.proofs.RunLemmas.{Alike, point, place, AtPlace, at_place, AtFilled, at_filled, runs, SameGoals, SameFilled, then-of-one, runs-append, runs-one}
use Rattle.pi_rewrite_spec.proofs.InnerLemmas.{itself-called, itself-known}
use Rattle.pi_rewrite_spec.proofs.EndLemmas.{applied-runs}
use Rattle.pi_rewrite_spec.proofs.LoopLemmas.{started-grows, started-stays}
use Rattle.pi_rewrite_spec.proofs.HandedLemmas.{some-again}
use Rattle.pi_rewrite_spec.proofs.EnteredLemmas.{slot-stays}
use Rattle.pi_rewrite_laws.proofs.EnterLemmas.{AllThere, names-there}
use Rattle.pi_rewrite_laws.proofs.ElementLemmas.{unnamed-long}
use Rattle.pi_rewrite_laws.proofs.CollectionLemmas.{found-long, found-slots, still-agrees}

-- ---- where the loop begins

abbrev but_hidden : List ℕ → Bool
but_hidden name = not (bytes_eq name hidden)

-- the slots where the loop begins
abbrev first_slots : SlotNames → SlotNames
first_slots ns = found_by but_hidden ns ++ hidden ∷ []

first-long : (ns : SlotNames) → length (first_slots ns) ≡ suc (length ns)
first-long ns = length-append (found_by but_hidden ns) (hidden ∷ []) ∙ omega (arith, found-long but_hidden ns)

first-slot : (ns : SlotNames) (name : List ℕ) → bytes_eq name unnamed ≡ false → slot_of name (first_slots ns) ≡ cond (bytes_eq name hidden) (Some (length ns)) (slot_of name ns)
first-slot ns name named =
    slot-among name (found_by but_hidden ns) (hidden ∷ [])
    ∙ ap (λ (o : Option ℕ). or_last o (option_map (λ k. length (found_by but_hidden ns) + k) (slot_of name (hidden ∷ [])))) (found-slots but_hidden ns name named)
    ∙ ap (λ (o : Option ℕ). or_last (cond (not (bytes_eq name hidden)) (slot_of name ns) None) (option_map (λ k. length (found_by but_hidden ns) + k) o)) (slot-alone name hidden)
    ∙ go (bytes_eq name hidden) (slot_of name ns)
  where
    last : length (found_by but_hidden ns) + 0 ≡ length ns
    last = omega (arith, found-long but_hidden ns)

    go : (b : Bool) (o : Option ℕ) → or_last (cond (not b) o None) (option_map (λ k. length (found_by but_hidden ns) + k) (cond b (Some 0) None)) ≡ cond b (Some (length ns)) o
    go true o = ap (λ (k : ℕ). Some k) last
    go false None = refl
    go false (Some k) = refl

-- that slot gets no items
first-agrees : (n : Room) (h : ℕ) (ns : SlotNames) (e : Environment) (slots : Places) (t : Tree) → Agrees n h ns e slots → suc (length ns) ≤ n.slots → Agrees n h (first_slots ns) (with_value e hidden t) (slice_set slots (length ns) (Some t))
first-agrees n h ns e slots t a room = record {
  long = length-set slots (length ns) (Some t) ∙ a.long;
  names = λ name named. meant-value name hidden t e ∙ found name named (bytes_eq name hidden) refl;
  empty = λ k past. set-other slots (length ns) (Some t) k (λ same. omega (arith, same, past, first-long ns)) ∙ a.empty k (omega (arith, past, first-long ns));
  firm = λ k less. set-firm slots (length ns) t k (a.firm k less);
  fixed = λ k u is. record {
    has = set-other slots (length ns) (Some t) k (λ same. omega (arith, same, (a.fixed k u is).below)) ∙ (a.fixed k u is).has;
    below = omega (arith, (a.fixed k u is).below, first-long ns);
    nameless = λ name named at. other name named k (a.fixed k u is).below ((a.fixed k u is).nameless name named) (bytes_eq name hidden) (sym (first-slot ns name named) ∙ at);
  };
}
  where
    some-value : Option ℕ → ℕ
    some-value None = 0
    some-value (Some j) = j

    other : (name : List ℕ) → bytes_eq name unnamed ≡ false → (k : ℕ) → k < length ns → (slot_of name ns ≡ Some k → ⊥) → (b : Bool) → cond b (Some (length ns)) (slot_of name ns) ≡ Some k → ⊥
    other name named k less none true at = let last : length ns ≡ k = ap some-value at in omega (arith, less, last)
    other name named k less none false at = none at

    kept : (name : List ℕ) (o : Option ℕ) → slot_of name ns ≡ o → option_and_then (held slots) o ≡ option_and_then (held (slice_set slots (length ns) (Some t))) o
    kept name None at = refl
    kept name (Some k) at = sym (set-other slots (length ns) (Some t) k (λ same. omega (arith, same, slot-below name ns k at)))

    found : (name : List ℕ) → bytes_eq name unnamed ≡ false → (b : Bool) → bytes_eq name hidden ≡ b → cond b (Some t) (meant name e) ≡ finds name (first_slots ns) (slice_set slots (length ns) (Some t))
    found name named true is =
        sym (ap (option_and_then (held (slice_set slots (length ns) (Some t)))) (first-slot ns name named ∙ ap (λ (c : Bool). cond c (Some (length ns)) (slot_of name ns)) is)
        ∙ get_or-set_same slots (length ns) (Some t) None (omega (arith, room, a.long)))
    found name named false is =
        a.names name named ∙ kept name (slot_of name ns) refl
        ∙ sym (ap (option_and_then (held (slice_set slots (length ns) (Some t)))) (first-slot ns name named ∙ ap (λ (c : Bool). cond c (Some (length ns)) (slot_of name ns)) is))

-- ---- what the loop leaves

-- names stand for what they stood for, but for the one that has the items, which stands for something
pub record Left (e f : Environment) : Type 0 where
  pub others : (name : List ℕ) → bytes_eq name unnamed ≡ false → bytes_eq name hidden ≡ false → meant name f ≡ meant name e
  pub gathered : IsSome (meant hidden f)

abbrev pub LeavesNames : Level → Names → Goal → Type 0
LeavesNames m before g = (p : Place) → AllThere before p.names → EachAnswer (λ q. Left p.names q.names) (g m p)

-- all names that stand before the loop are there where it begins
first-there : (before : Names) (e : Environment) (t : Tree) → AllThere before e → AllThere (before ++ hidden ∷ []) (with_value e hidden t)
first-there before e t there name among named = subst (λ (o : Option Tree). IsSome o) (sym (meant-value name hidden t e)) (go (bytes_eq name hidden) refl)
  where
    before-is : (a b : Bool) → b ≡ false → a || (b || false) ≡ true → a ≡ true
    before-is true b other is = refl
    before-is false true other is = absurd (true≢false other)
    before-is false false other is = absurd (true≢false (sym is))

    go : (b : Bool) → bytes_eq name hidden ≡ b → IsSome (cond b (Some t) (meant name e))
    go true is = refl
    go false is = there name (before-is (is_among before name) (bytes_eq name hidden) is (sym (among-append before (hidden ∷ []) name) ∙ among)) named

-- Slots that there were before have what they had.
slots-stay : (n : Room) (h : ℕ) (ns ms : SlotNames) (e f : Environment) (slots after : Places) (t : Tree) → Agrees n h ns e slots → suc (length ns) ≤ n.slots → Grows (first_slots ns) ms →
    Agrees (holding n (first_slots ns) (slice_set slots (length ns) (Some t))) h ms f after → Left (with_value e hidden t) f → (k : ℕ) → k < length ns → held after k ≡ held slots k
slots-stay n h ns ms e f slots after t a room grows b left k less = go (is_found (first_slots ns) k) refl ∙ set-other slots (length ns) (Some t) k (λ same. omega (arith, same, less))
  where
    first : Places
    first = slice_set slots (length ns) (Some t)

    go : (c : Bool) → is_found (first_slots ns) k ≡ c → held after k ≡ held (slice_set slots (length ns) (Some t)) k
    go false other = held-still n h (first_slots ns) ms f first after b k (omega (arith, less, first-long ns)) other
    go true found =
        sym (b.names name has.0 ∙ ap (option_and_then (held after)) (slot-stays name (first_slots ns) ms grows k has.1)) ∙ left.others name has.0 (no-other (bytes_eq name hidden) refl)
        ∙ (first-agrees n h ns e slots t a room).names name has.0 ∙ ap (option_and_then (held first)) has.1
      where
        name : List ℕ
        name = name_at (first_slots ns) k

        has : (bytes_eq name unnamed ≡ false) × (slot_of name (first_slots ns) ≡ Some k)
        has = found-slot (first_slots ns) k found

        some-value : Option ℕ → ℕ
        some-value None = 0
        some-value (Some j) = j

        no-other : (c : Bool) → bytes_eq name hidden ≡ c → bytes_eq name hidden ≡ false
        no-other false is = is
        no-other true is =
            let last : length ns ≡ k = ap some-value (sym (first-slot ns name has.0 ∙ ap (λ (c : Bool). cond c (Some (length ns)) (slot_of name ns)) is) ∙ has.1) in
            absurd (omega (arith, last, less))

-- ---- the whole

-- where the loop ends
ends-same : (l : Level) (n : Room) (h : ℕ) (ns ms : SlotNames) (e : Environment) (start slots : Places) (t : Tree) → Agrees n h ns e slots → Extends start slots → suc (length ns) ≤ n.slots → Grows (first_slots ns) ms → (p : Point) (q : Place) →
    AtPlace l (holding n (first_slots ns) (slice_set slots (length ns) (Some t))) h ms p q × Left (with_value e hidden t) q.names →
    SameBy (AtFilled l n h (behind_collection ns ms) (Tree.var (length ns)) start) (one p) (one (record { tree = now hidden q.names; names = e; state = q.state }))
ends-same l n h ns ms e start slots t a extends room grows _ _ (at_place f after s b, left) =
    same-one _ _ _ (at_filled e after s (now hidden f) agrees (extends-then start slots after extends stay) (in_slot (length ns) (now hidden f) gathered))
  where
    longer : suc (length ns) ≤ length ms
    longer = omega (arith, grows-length (first_slots ns) ms grows, first-long ns)

    still : (k : ℕ) → k < length ns → held after k ≡ held slots k
    still k less = slots-stay n h ns ms e f slots after t a room grows b left k less

    stay : Extends slots after
    stay k u is = tested (nat_lt k (length ns)) refl
      where
        tested : (c : Bool) → nat_lt k (length ns) ≡ c → held after k ≡ Some u
        tested true less = still k ((Decides-ltb k (length ns)).0 less) ∙ is
        tested false past = absurd (cc (sym is ∙ a.empty k (ltb-false k (length ns) past)))

    agrees : Agrees n h (behind_collection ns ms) e after
    agrees = still-agrees n h (length ms - length ns) ns e slots after a b.long still (λ k past. b.empty k (omega (arith, past, longer)))

    slot : slot_of hidden ms ≡ Some (length ns)
    slot = slot-stays hidden (first_slots ns) ms grows (length ns) (first-slot ns hidden refl)

    gathered : held after (length ns) ≡ Some (now hidden f)
    gathered = sym (b.names hidden refl ∙ ap (option_and_then (held after)) slot) ∙ some-again (meant hidden f) left.gathered

pub comprehension-same : (known : Knows) (set : Setting) (b : Builtins) (l m : Level) (h : ℕ) → Alike known set b l m → (before : Names) (loop : Goal) (lowered : SlotNames → SlotGoals) → SameGoals b l m h loop lowered → LeavesNames m (before ++ hidden ∷ []) loop →
    SameFilled b l m h (comprehended before loop) (comprehension h before lowered)
unfolding comprehended EachAnswer meaning tree_count
comprehension-same known set b l m h alike before loop lowered is leaves = record {
  grows = λ ns. grows-then ns _ _ (started-grows known set b l m h alike before ns) (by _);
  same = λ n ns e slots s a room. whole n ns e slots s a room;
}
  where
    -- over names, from where those that stand before are there
    goes : Place → Trace Valued
    goes start = then (loop m (record { names = with_value start.names hidden (atom nil); state = start.state })) (λ q. one (record { tree = now hidden q.names; names = start.names; state = q.state }))

    begins : (ns : SlotNames) (slots : Places) (s : State) → runs b ((begun ns).goals ++ (lowered (first_slots ns)).goals) (point l slots s) ≡ runs b (lowered (first_slots ns)).goals (point l (slice_set slots (length ns) (Some (atom nil))) s)
    begins ns slots s =
        runs-append b (begun ns).goals (lowered (first_slots ns)).goals (point l slots s)
        ∙ ap (λ (t : Trace Point). then t (runs b (lowered (first_slots ns)).goals)) (runs-one b (GoalTree.apply itself_name (atom nil ∷ []) (length ns)) (point l slots s)
        ∙ applied-runs b l alike.core_drains itself_name (atom nil ∷ []) (atom nil ∷ []) (length ns) slots s (atom nil) (one_filled (is_atom nil) none_filled)
        (alike.functions itself_name (tree (atom nil) no_trees) s (itself-known (known.function itself_name 1)) ∙ itself-called set m (atom nil) s))
        ∙ then-of-one (point l (slice_set slots (length ns) (Some (atom nil))) s) (runs b (lowered (first_slots ns)).goals)

    behind : (n : Room) (ns : SlotNames) (start : Places) → length (behind_collection ns (lowered (first_slots ns)).names) ≤ n.slots → (p : Point) (q : Place) → (AtPlace l n h ns p q × Extends start p.slots) × AllThere before q.names →
        SameBy (AtFilled l n h (behind_collection ns (lowered (first_slots ns)).names) (Tree.var (length ns)) start) (runs b ((begun ns).goals ++ (lowered (first_slots ns)).goals) p) (goes q)
    behind n ns start room _ _ ((at_place e slots s a, extends), there) =
        subst (λ (t : Trace Point). SameBy S t (goes (place e s))) (sym (begins ns slots s ∙ sym (then-one (runs b (lowered (first_slots ns)).goals (point l first s)))))
        (same-then (λ p q. AtPlace l R h ms p q × Left (with_value e hidden (atom nil)) q.names) S _ _ (λ p. one p) (λ q. one (record { tree = now hidden q.names; names = e; state = q.state }))
        (same-each (AtPlace l R h ms) (λ q. Left (with_value e hidden (atom nil)) q.names) _ _
        (is.same R (first_slots ns) (with_value e hidden (atom nil)) first s (agrees-holding n h (first_slots ns) (with_value e hidden (atom nil)) first (first-agrees n h ns e slots (atom nil) a (omega (arith, fits, longer)))) fits)
        (leaves (place (with_value e hidden (atom nil)) s) (first-there before e (atom nil) there)))
        (ends-same l n h ns ms e start slots (atom nil) a extends (omega (arith, fits, longer)) (is.grows (first_slots ns))))
      where
        ms : SlotNames
        ms = (lowered (first_slots ns)).names

        first : Places
        first = slice_set slots (length ns) (Some (atom nil))

        R : Room
        R = holding n (first_slots ns) (slice_set slots (length ns) (Some (atom nil)))

        S : Point → Valued → Type 0
        S = AtFilled l n h (behind_collection ns (lowered (first_slots ns)).names) (Tree.var (length ns)) start

        longer : suc (length ns) ≤ length (lowered (first_slots ns)).names
        longer = omega (arith, grows-length (first_slots ns) _ (is.grows (first_slots ns)), first-long ns)

        fits : length (lowered (first_slots ns)).names ≤ n.slots
        fits = omega (arith, room, longer, length-append ns (replicate (length (lowered (first_slots ns)).names - length ns) unnamed), unnamed-long (length (lowered (first_slots ns)).names - length ns))

    whole : (n : Room) (ns : SlotNames) (e : Environment) (slots : Places) (s : State) → Agrees n h ns e slots → length (comprehension h before lowered ns).names ≤ n.slots →
        SameBy (AtFilled l n h (comprehension h before lowered ns).names (comprehension h before lowered ns).tree slots) (runs b (comprehension h before lowered ns).goals (point l slots s)) (comprehended before loop m (place e s))
    whole n ns e slots s a room =
        subst (λ (t : Trace Point). SameBy S t (goes (with_names before (place e s)))) (sym (runs-append b (started h before ns).goals ((begun ms).goals ++ (lowered (first_slots ms)).goals) (point l slots s)))
        (subst (λ (t : Trace Valued). SameBy S (then (runs b (started h before ns).goals (point l slots s)) (runs b ((begun ms).goals ++ (lowered (first_slots ms)).goals))) t) (then-of-one (with_names before (place e s)) goes)
        (same-then (λ p q. (AtPlace l n h ms p q × Extends slots p.slots) × AllThere before q.names) S _ _ (runs b ((begun ms).goals ++ (lowered (first_slots ms)).goals)) goes
        (same-each (λ p q. AtPlace l n h ms p q × Extends slots p.slots) (λ q. AllThere before q.names) _ _
        (started-stays known set b l m h alike before n ns e slots s a (omega (arith, room, length-append ms (replicate (length (lowered (first_slots ms)).names - length ms) unnamed)))) (names-there before (place e s), tt))
        (behind n ms slots room)))
      where
        ms : SlotNames
        ms = (started h before ns).names

        S : Point → Valued → Type 0
        S = AtFilled l n h (comprehension h before lowered ns).names (comprehension h before lowered ns).tree slots
