-- Names that stand before a loop have slots when it starts; terms over slots from one on.
use Rattle.std.proofs.Common.{◌≡◌, inl, inr, ℕ, zero, suc, ◌+◌, ◌-◌, ◌≤◌, ◌<◌, Bool, true, false, cond, List, [], ◌∷◌, ◌++◌, length, refl, sym, ◌∙◌, ap, subst, arith, length-append}
use Rattle.std.specs.Prelude.{Option, Some, None, is_some, replicate, ◌||◌}
use Rattle.std.specs.Str.{bytes_eq}
use Rattle.std.proofs.lemmas.Bool.{true≢false}
use Rattle.pi_terms.specs.Tree.{Tree, trees_of}
use Rattle.pi_terms.specs.PatternTree.{HaveSlot}
use Rattle.pi_constraints.proofs.KeepsLemmas.{TreesBelow}
use Rattle.pi_meaning.specs.CoreMeaning.Sound.{pattern_count}
use Rattle.pi_meaning.specs.OverNames.Texts.{Names, is_among}
use Rattle.pi_meaning.proofs.OverNames.LoopNames.{among-append, Within}
use Rattle.pi_rewrite_spec.specs.Slots.{SlotNames, unnamed, slot_of, slot_known, slot_or_next, slots_with, slot_for, slots_for}
use Rattle.pi_rewrite_spec.specs.Values.{slot_terms}
use Rattle.pi_rewrite_spec.specs.Loops.{slots_for_names, slots_from, slots_head, with_values, as_written, started}
use Rattle.pi_rewrite_spec.specs.Iterators.{behind_collection}
use Rattle.pi_rewrite_spec.proofs.AgreeLemmas.{text_itself, text_same, Grows, by, slot-below}
use Rattle.pi_rewrite_spec.proofs.NewNameLemmas.{from_known}
use Rattle.pi_rewrite_spec.proofs.TermLemmas.{terms-grow}
use Rattle.pi_rewrite_laws.proofs.BelowLemmas.{none-below, front-below, first-of, rest-of, var-below}
use Rattle.pi_rewrite_spec.proofs.EnteredLemmas.{among-slot, values-grow}
use Rattle.pi_rewrite_laws.proofs.HelperLemmas.{AreAmong}
use Rattle.pi_rewrite_laws.proofs.ElementLemmas.{unnamed-long}

-- ---- names that have slots

pub among-room : (name : List ℕ) (ns : SlotNames) → is_among ns name ≡ true → bytes_eq name unnamed ≡ false → slot_for name ns < length ns
among-room name ns among named = go (slot_of name ns) refl
  where
    go : (o : Option ℕ) → slot_of name ns ≡ o → slot_for name ns < length ns
    go None is = absurd (true≢false (sym among ∙ among-slot name ns ∙ ap is_some is))
    go (Some k) is =
        let at : slot_for name ns ≡ k = ap (λ (b : Bool). slot_or_next (cond b None (slot_of name ns)) ns) named ∙ ap (λ (o : Option ℕ). slot_or_next o ns) is in
        omega (arith, at, slot-below name ns k is)

pub grows-within : (ns ms : SlotNames) → Grows ns ms → Within ns ms
grows-within ns _ (by more) name is = among-append ns more name ∙ ap (λ (b : Bool). b || is_among more name) is

pub among-wider : (names ns ms : Names) → Within ns ms → AreAmong ns names → AreAmong ms names
unfolding AreAmong
among-wider [] ns ms within are = tt
among-wider (name ∷ names) ns ms within are = (within name are.0, are.1, among-wider names ns ms within are.2)

pub among-values : (names kept : Names) (ns : SlotNames) → AreAmong ns names → AreAmong (with_values kept ns) names
among-values names kept ns are = among-wider names ns (with_values kept ns) (grows-within ns (with_values kept ns) (values-grow kept ns)) are

pub among-last : (names more ns : Names) → AreAmong ns names → AreAmong (more ++ ns) names
among-last names more ns are = among-wider names ns (more ++ ns) (λ name is. among-append more ns name ∙ last (is_among more name) (is_among ns name) is) are
  where
    last : (a b : Bool) → b ≡ true → a || b ≡ true
    last true b is = refl
    last false b is = is

pub among-behind : (names : Names) (ns after : SlotNames) → AreAmong ns names → AreAmong (behind_collection ns after) names
among-behind names ns after are = among-wider names ns (behind_collection ns after) (grows-within ns _ (by (replicate (length after - length ns) unnamed))) are

-- a name has a slot behind its occurrence
occurrence-among : (name : List ℕ) (ns : SlotNames) → is_among (slots_for name ns) name ≡ true
occurrence-among name ns = go (slot_known name ns) refl
  where
    last : (b : Bool) → b || true ≡ true
    last true = refl
    last false = refl

    go : (o : Option ℕ) → slot_known name ns ≡ o → is_among (slots_with o name ns) name ≡ true
    go None is = among-append ns (name ∷ []) name ∙ ap (λ (b : Bool). is_among ns name || (b || false)) (text_itself name) ∙ last (is_among ns name)
    go (Some k) is = among-slot name ns ∙ ap is_some (from_known (bytes_eq name unnamed) (slot_of name ns) k is)

written-within : (names : Names) (ns : SlotNames) → Within names (slot_terms (as_written names) ns).names
unfolding as_written slot_terms
written-within [] ns n is = absurd (true≢false (sym is))
written-within (name ∷ names) ns n is = go (bytes_eq n name) refl is (λ h. written-within names (slots_for name ns) n h)
  where
    ms : SlotNames
    ms = slots_for name ns

    go : (b : Bool) → bytes_eq n name ≡ b → b || is_among names n ≡ true → (is_among names n ≡ true → is_among (slot_terms (as_written names) ms).names n ≡ true) → is_among (slot_terms (as_written names) ms).names n ≡ true
    go true same h rest =
        grows-within ms _ (terms-grow (as_written names) ms) n (subst (λ (x : List ℕ). is_among (slots_for name ns) x ≡ true) (sym (text_same n name same)) (occurrence-among name ns))
    go false other h rest = rest h

-- those before a loop, when it starts
pub started-within : (h : ℕ) (before : Names) (ns : SlotNames) → Within before (started h before ns).names
unfolding slot_terms
started-within h before ns = written-within before ns

pub started-among : (h : ℕ) (before names : Names) (ns : SlotNames) → AreAmong before names → AreAmong (started h before ns).names names
started-among h before names ns are = among-wider names before (started h before ns).names (started-within h before ns) are

pub behind-long : (ns after : SlotNames) → length ns ≤ length after → length (behind_collection ns after) ≡ length after
behind-long ns after less = length-append ns (replicate (length after - length ns) unnamed) ∙ omega (arith, less, unnamed-long (length after - length ns))

-- ---- terms

pub both-below : (n : ℕ) (ts us : List Tree) → TreesBelow n (trees_of ts) → TreesBelow n (trees_of us) → TreesBelow n (trees_of (ts ++ us))
both-below n [] us one two = two
both-below n (t ∷ ts) us one two = front-below n t (trees_of (ts ++ us)) (first-of n t (trees_of ts) one) (both-below n ts us (rest-of n t (trees_of ts) one) two)

pub one-below : (n : ℕ) (k : ℕ) → k < n → TreesBelow n (trees_of (Tree.var k ∷ []))
one-below n k less = front-below n (Tree.var k) _ (var-below n k less) (none-below n)

pub names-below : (names : Names) (ns : SlotNames) (n : ℕ) → AreAmong ns names → length ns ≤ n → TreesBelow n (trees_of (slots_for_names names ns))
unfolding AreAmong
names-below [] ns n are room = none-below n
names-below (name ∷ names) ns n are room = front-below n (Tree.var (slot_for name ns)) _ (var-below n (slot_for name ns) (omega (arith, room, among-room name ns are.0 are.1))) (names-below names ns n are.2 room)

pub names-count : (names : Names) (ns : SlotNames) → length (slots_for_names names ns) ≡ length names
names-count [] ns = refl
names-count (name ∷ names) ns = ap suc (names-count names ns)

pub slots-below : (k j n : ℕ) → k + j ≤ n → TreesBelow n (trees_of (slots_from k j))
unfolding slots_from
slots-below k zero n room = none-below n
slots-below k (suc j) n room = front-below n (Tree.var k) _ (var-below n k (omega (arith, room))) (slots-below (suc k) j n (omega (arith, room)))

pub slots-count : (k j : ℕ) → length (slots_from k j) ≡ j
unfolding slots_from
slots-count k zero = refl
slots-count k (suc j) = ap suc (slots-count (suc k) j)

-- ---- heads

pub head-below : (k j i : ℕ) → HaveSlot (slots_head k j) i → i < k + j
unfolding slots_head HaveSlot
head-below k zero i there = absurd there
head-below k (suc j) i (inl first) = omega (arith, first)
head-below k (suc j) i (inr later) = omega (arith, head-below (suc k) j i later)

pub head-count : (k j : ℕ) → pattern_count (slots_head k j) ≡ j
unfolding slots_head pattern_count
head-count k zero = refl
head-count k (suc j) = ap suc (head-count (suc k) j)
