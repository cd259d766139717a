-- Slots of patterns are those that a clause has, and there are as many patterns as arguments.
use Rattle.std.proofs.Common.{◌≡◌, ◌⊎◌, inl, inr, ℕ, suc, ◌≤◌, ◌<◌, List, [], ◌∷◌, length, refl, ap, subst, arith}
use Rattle.std.specs.Prelude.{Contains, map}
use Rattle.std.specs.Char.{encode_utf8}
use Rattle.std.specs.Str.{chars}
use Rattle.std.proofs.lemmas.List.Elements.{Contains-append_cases, Contains-push_cases}
use Rattle.pi_terms.specs.Tree.{Tree}
use Rattle.pi_terms.specs.PatternTree.{PatternTree, exact_atom, PatternTrees, no_patterns, pattern, HasSlot, HaveSlot}
use Rattle.pi_effects.specs.Items.{list_onto as list_before, list_of}
use Rattle.pi_syntax.specs.ExpTree.{ExpTree, var, int, atom, str, list, list_onto, array, quote, range, range_by, at, ExpTrees, no_exps, exp}
use Rattle.pi_syntax.specs.ExpTree as written
use Rattle.pi_syntax.specs.Signature.{exp_count}
use Rattle.pi_meaning.specs.CoreMeaning.Sound.{pattern_count}
use Rattle.pi_rewrite_spec.specs.Slots.{SlotNames, slots_for}
use Rattle.pi_rewrite_spec.specs.Values.{cells_onto, exact_term, slot_pattern, slot_patterns}
use Rattle.pi_rewrite_spec.specs.Forms.{IsPattern, ArePatterns}
use Rattle.pi_rewrite_spec.proofs.AgreeLemmas.{grows-length}
use Rattle.pi_rewrite_spec.proofs.TermLemmas.{name-room}
use Rattle.pi_rewrite_laws.proofs.HeadLemmas.{pattern-grows, patterns-grow}

-- ---- lists

pub nothing-in : {A : Type 0} (x : A) → Contains [] x → ⊥
nothing-in x there = omega (arith, there.1)

pub cons-cases : {A : Type 0} (x : A) (xs : List A) (y : A) → Contains (x ∷ xs) y → (x ≡ y) ⊎ Contains xs y
cons-cases x xs y there = go (Contains-append_cases (x ∷ []) xs y there)
  where
    first : Contains [] y ⊎ (x ≡ y) → (x ≡ y) ⊎ Contains xs y
    first (inl none) = absurd (nothing-in y none)
    first (inr same) = inl same

    go : Contains (x ∷ []) y ⊎ Contains xs y → (x ≡ y) ⊎ Contains xs y
    go (inl here) = first (Contains-push_cases [] x y here)
    go (inr later) = inr later

-- ---- patterns

cells-below : (n : ℕ) (ps : PatternTrees) (rest : PatternTree) → ((k : ℕ) → HaveSlot ps k → k < n) → ((k : ℕ) → HasSlot rest k → k < n) → (k : ℕ) → HasSlot (cells_onto ps rest) k → k < n
unfolding cells_onto HasSlot
cells-below n no_patterns rest items last k there = last k there
cells-below n (pattern p ps) rest items last k (inl first) = items k (inl first)
cells-below n (pattern p ps) rest items last k (inr (inl later)) = cells-below n ps rest (λ j at. items j (inr at)) last k later
cells-below n (pattern p ps) rest items last k (inr (inr none)) = absurd none

-- a text has no slot
text-slots : (cs : List ℕ) (k : ℕ) → HasSlot (exact_term (list_of (map (λ c. Tree.atom (encode_utf8 c)) cs))) k → ⊥
unfolding exact_term list_before HasSlot
text-slots [] k there = there
text-slots (c ∷ cs) k (inl character) = character
text-slots (c ∷ cs) k (inr (inl later)) = text-slots cs k later
text-slots (c ∷ cs) k (inr (inr none)) = none

mutual
  unfolding slot_pattern HasSlot IsPattern

  pub pattern-below : (n : ℕ) (e : ExpTree) → IsPattern e → (ns : SlotNames) → length (slot_pattern e ns).names ≤ n → (k : ℕ) → HasSlot (slot_pattern e ns).form k → k < n
  pattern-below n (var name) is ns room k there = subst (λ (j : ℕ). j < n) there (name-room name ns n room)
  pattern-below n (int i) is ns room k there = absurd there
  pattern-below n (atom name) is ns room k there = absurd there
  pattern-below n (str text) is ns room k there = absurd (text-slots (chars text) k there)
  pattern-below n (list es) is ns room k there = cells-below n (slot_patterns es ns).forms (exact_atom _) (patterns-below n es is ns room) (λ j none. absurd none) k there
  pattern-below n (list_onto es e) is ns room k there =
      let ms : SlotNames = (slot_patterns es ns).names in
      cells-below n (slot_patterns es ns).forms (slot_pattern e ms).form (patterns-below n es is.0 ns (omega (arith, room, grows-length ms _ (pattern-grows e ms)))) (pattern-below n e is.1 ms room) k there
  pattern-below n (array es) is ns room k there = patterns-below n es is ns room k there
  pattern-below n (written.call name es) is ns room k there = patterns-below n es is ns room k there
  pattern-below n (quote e) is ns room k there = pattern-below n e is ns room k there
  pattern-below n (range first last) is ns room k (inl one) =
      let ms : SlotNames = (slot_pattern first ns).names in pattern-below n first is.0 ns (omega (arith, room, grows-length ms _ (pattern-grows last ms))) k one
  pattern-below n (range first last) is ns room k (inr (inl two)) = pattern-below n last is.1 (slot_pattern first ns).names room k two
  pattern-below n (range first last) is ns room k (inr (inr none)) = absurd none
  pattern-below n (range_by first step last) is ns room k (inl one) =
      let ms : SlotNames = (slot_pattern first ns).names in
      let ks : SlotNames = (slot_pattern step ms).names in
      pattern-below n first is.0 ns (omega (arith, room, grows-length ms ks (pattern-grows step ms), grows-length ks _ (pattern-grows last ks))) k one
  pattern-below n (range_by first step last) is ns room k (inr (inl two)) =
      let ms : SlotNames = (slot_pattern first ns).names in
      let ks : SlotNames = (slot_pattern step ms).names in
      pattern-below n step is.1 ms (omega (arith, room, grows-length ks _ (pattern-grows last ks))) k two
  pattern-below n (range_by first step last) is ns room k (inr (inr (inl three))) = pattern-below n last is.2 (slot_pattern step (slot_pattern first ns).names).names room k three
  pattern-below n (range_by first step last) is ns room k (inr (inr (inr none))) = absurd none
  pattern-below n (at name e) is ns room k (inl same) =
      let ms : SlotNames = slots_for name ns in subst (λ (j : ℕ). j < n) same (name-room name ns n (omega (arith, room, grows-length ms _ (pattern-grows e ms))))
  pattern-below n (at name e) is ns room k (inr part) = pattern-below n e is (slots_for name ns) room k part
  pattern-below n e is ns room k there = absurd is

  pub patterns-below : (n : ℕ) (es : ExpTrees) → ArePatterns es → (ns : SlotNames) → length (slot_patterns es ns).names ≤ n → (k : ℕ) → HaveSlot (slot_patterns es ns).forms k → k < n
  patterns-below n no_exps is ns room k there = absurd there
  patterns-below n (exp e es) is ns room k (inl first) =
      let ms : SlotNames = (slot_pattern e ns).names in pattern-below n e is.0 ns (omega (arith, room, grows-length ms _ (patterns-grow es ms))) k first
  patterns-below n (exp e es) is ns room k (inr later) = patterns-below n es is.1 (slot_pattern e ns).names room k later

pub patterns-count : (es : ExpTrees) (ns : SlotNames) → pattern_count (slot_patterns es ns).forms ≡ exp_count es
unfolding slot_pattern pattern_count exp_count
patterns-count no_exps ns = refl
patterns-count (exp e es) ns = ap suc (patterns-count es (slot_pattern e ns).names)
