-- Where a loop ends: one variable after the other.
use Rattle.std.proofs.Common.{◌≡◌, ℕ, suc, ◌+◌, ◌<◌, ◌≤◌, Bool, true, false, List, [], ◌∷◌, ◌++◌, length, get_or, drop, refl, sym, ◌∙◌, ap, append_assoc, arith}
use Rattle.std.specs.Prelude.{codes}
use Rattle.std.specs.Borrow.{Bor}
use Rattle.std.proofs.lemmas.List.{append-nil, drop_all}
use Rattle.pi_terms.specs.Tree.{Tree}
use Rattle.pi_core.specs.GoalTree.{GoalTree}
use Rattle.pi_effects.specs.Inner.{itself_name, in_order_name}
use Rattle.pi_meaning.specs.OverNames.Texts.{Names}
use Rattle.pi_rewrite_slots.specs.Indexed.{names_in}
use Rattle.pi_rewrite_slots.proofs.FlatLemmas.{drop-next}
use Rattle.pi_rewrite_slots.proofs.SlotLemmas.{length_names}
use Rattle.pi_rewrite_spec.specs.Slots.{SlotNames, slot_for}
use Rattle.pi_rewrite_spec.specs.Loops.{Ending as EndingTree, ended, closing, closing_slots, kept_goals}
use Rattle.pi_rewrite_loops.specs.Helpers.{ending_of}
use Rattle.pi_rewrite_loops.specs.declared.loops.Ending.{Ending}
use Rattle.pi_rewrite_loops.specs.declared.loops.Ending.TheVariants.{AsItIs, InOrder}

-- ---- one variable

pub ended-plain : (o : Ending) (k value free : ℕ) (old new : List GoalTree) → o ≡ AsItIs → new ≡ old ++ GoalTree.call (codes "=") (Tree.var k ∷ Tree.var value ∷ []) ∷ [] → new ≡ old ++ ended (ending_of o) k value free
ended-plain o k value free old new is put = put ∙ ap (λ (e : Ending). old ++ ended (ending_of e) k value free) (sym is)

pub ended-list : (o : Ending) (b : Bool) (k value free : ℕ) (old mid new : List GoalTree) → o ≡ InOrder b → b ≡ false → mid ≡ old ++ GoalTree.apply in_order_name (Tree.var value ∷ []) free ∷ [] →
    new ≡ mid ++ GoalTree.call (codes "=") (Tree.var k ∷ Tree.var free ∷ []) ∷ [] → new ≡ old ++ ended (ending_of o) k value free
ended-list o b k value free old mid new is list first put =
    let last : List GoalTree = GoalTree.call (codes "=") (Tree.var k ∷ Tree.var free ∷ []) ∷ [] in
    put ∙ (ap (λ gs. gs ++ last) first ∙ (append_assoc old (GoalTree.apply in_order_name (Tree.var value ∷ []) free ∷ []) last ∙ ap (λ (e : Ending). old ++ ended (ending_of e) k value free) (sym (is ∙ ap InOrder list))))

pub ended-array : (o : Ending) (b : Bool) (k value free : ℕ) (old mid new : List GoalTree) → o ≡ InOrder b → b ≡ true → mid ≡ old ++ GoalTree.apply in_order_name (Tree.var value ∷ []) free ∷ [] →
    new ≡ mid ++ GoalTree.apply (codes "to_array") (Tree.var free ∷ []) (suc free) ∷ GoalTree.call (codes "=") (Tree.var k ∷ Tree.var (suc free) ∷ []) ∷ [] → new ≡ old ++ ended (ending_of o) k value free
ended-array o b k value free old mid new is array first put =
    let last : List GoalTree = GoalTree.apply (codes "to_array") (Tree.var free ∷ []) (suc free) ∷ GoalTree.call (codes "=") (Tree.var k ∷ Tree.var (suc free) ∷ []) ∷ [] in
    put ∙ (ap (λ gs. gs ++ last) first ∙ (append_assoc old (GoalTree.apply in_order_name (Tree.var value ∷ []) free ∷ []) last ∙ ap (λ (e : Ending). old ++ ended (ending_of e) k value free) (sym (is ∙ ap InOrder array))))

-- the array of a list, in the slot behind
pub array-behind : (k list array : ℕ) (old mid new : List GoalTree) → array ≡ list + 1 → mid ≡ old ++ GoalTree.apply (codes "to_array") (Tree.var list ∷ []) array ∷ [] → new ≡ mid ++ GoalTree.call (codes "=") (Tree.var k ∷ Tree.var array ∷ []) ∷ [] →
    new ≡ old ++ GoalTree.apply (codes "to_array") (Tree.var list ∷ []) (suc list) ∷ GoalTree.call (codes "=") (Tree.var k ∷ Tree.var (suc list) ∷ []) ∷ []
array-behind k list array old mid new next first put =
    let both : ℕ → List GoalTree = λ j. GoalTree.apply (codes "to_array") (Tree.var list ∷ []) j ∷ GoalTree.call (codes "=") (Tree.var k ∷ Tree.var j ∷ []) ∷ [] in
    put ∙ (ap (λ gs. gs ++ GoalTree.call (codes "=") (Tree.var k ∷ Tree.var array ∷ []) ∷ []) first ∙ (append_assoc old (GoalTree.apply (codes "to_array") (Tree.var list ∷ []) array ∷ []) (GoalTree.call (codes "=") (Tree.var k ∷ Tree.var array ∷ []) ∷ [])
    ∙ ap (λ (j : ℕ). old ++ both j) (next ∙ omega arith)))

-- ---- all variables: those so far stand in front of those that are left

pub record ClosedTo (o : EndingTree) (names : List (Bor (List ℕ))) (k next : ℕ) (ns : SlotNames) (old : List GoalTree) (i j free : ℕ) (now : List GoalTree) : Type 0 where
  pub is : now ++ closing o (names_in (drop i names)) j free ns ≡ old ++ closing o (names_in names) k next ns

pub closed-none : (o : EndingTree) (names : List (Bor (List ℕ))) (k next : ℕ) (ns : SlotNames) (old : List GoalTree) → ClosedTo o names k next ns old 0 k next old
closed-none o names k next ns old = record { is = refl }

closed-first : (o : EndingTree) (names : List (Bor (List ℕ))) (i j free : ℕ) (x : Bor (List ℕ)) (ns : SlotNames) → i < length names → x ≡ get_or names i x →
    closing o (names_in (drop i names)) j free ns ≡ ended o j (slot_for x.now ns) free ++ closing o (names_in (drop (i + 1) names)) (j + 1) (free + 2) ns
unfolding closing
closed-first o names i j free x ns less item =
    ap (λ xs. closing o (names_in xs) j free ns) (drop-next names i x less item) ∙ ap (λ (m : ℕ). ended o j (slot_for x.now ns) free ++ closing o (names_in (drop (i + 1) names)) m (free + 2) ns) (omega arith)

pub closed-more : (o : EndingTree) (names : List (Bor (List ℕ))) (k next : ℕ) (ns : SlotNames) (old now new : List GoalTree) (i j free value j' free' : ℕ) (x : Bor (List ℕ)) → i < length names → x ≡ get_or names i x → value ≡ slot_for x.now ns →
    new ≡ now ++ ended o j value free → j' ≡ j + 1 → free' ≡ free + 2 → ClosedTo o names k next ns old i j free now → ClosedTo o names k next ns old (i + 1) j' free' new
closed-more o names k next ns old now new i j free value j' free' x less item at put one two so =
    let rest : ℕ → ℕ → List GoalTree = λ m f. closing o (names_in (drop (i + 1) names)) m f ns in
    record {
      is = ap (λ gs. gs ++ rest j' free') put ∙ (ap (λ m. (now ++ ended o j value free) ++ rest m free') one ∙ (ap (λ f. (now ++ ended o j value free) ++ rest (j + 1) f) two
          ∙ (append_assoc now (ended o j value free) (rest (j + 1) (free + 2)) ∙ (ap (λ v. now ++ (ended o j v free ++ rest (j + 1) (free + 2))) at
          ∙ (ap (λ gs. now ++ gs) (sym (closed-first o names i j free x ns less item)) ∙ so.is)))));
    }

pub closed-all : (o : EndingTree) (names : List (Bor (List ℕ))) (k next : ℕ) (ns : SlotNames) (old now : List GoalTree) (i j free : ℕ) → length names ≤ i → ClosedTo o names k next ns old i j free now → now ≡ old ++ closing o (names_in names) k next ns
unfolding closing
closed-all o names k next ns old now i j free past so = sym (append-nil now) ∙ (ap (λ xs. now ++ closing o (names_in xs) j free ns) (sym (drop_all i names past)) ∙ so.is)

-- slots enough for that
pub closing-count : (names : Names) (free m : ℕ) → m ≡ free + (length names + length names) → m ≡ closing_slots names free
unfolding closing_slots
closing-count [] free m is = omega (arith, is)
closing-count (name ∷ names) free m is = closing-count names (free + 2) m (omega (arith, is))

pub closing-fit : (names : List (Bor (List ℕ))) (free count both m : ℕ) → count ≡ length names → both ≡ count + count → m ≡ free + both → m ≡ closing_slots (names_in names) free
closing-fit names free count both m is two sum =
    let long : length names ≡ length (names_in names) = length_names names in
    closing-count (names_in names) free m (omega (arith, is, two, sum, long))

-- ---- behind the loop

pub record KeptTo (names : List (Bor (List ℕ))) (k : ℕ) (ns : SlotNames) (old : List GoalTree) (i j : ℕ) (now : List GoalTree) : Type 0 where
  pub is : now ++ kept_goals (names_in (drop i names)) j ns ≡ old ++ kept_goals (names_in names) k ns

pub kept-none : (names : List (Bor (List ℕ))) (k : ℕ) (ns : SlotNames) (old : List GoalTree) → KeptTo names k ns old 0 k old
kept-none names k ns old = record { is = refl }

kept-first : (names : List (Bor (List ℕ))) (i j : ℕ) (x : Bor (List ℕ)) (ns : SlotNames) → i < length names → x ≡ get_or names i x → kept_goals (names_in (drop i names)) j ns ≡ GoalTree.apply itself_name (Tree.var j ∷ []) (slot_for x.now ns) ∷ kept_goals (names_in (drop (i + 1) names)) (j + 1) ns
unfolding kept_goals
kept-first names i j x ns less item =
    ap (λ xs. kept_goals (names_in xs) j ns) (drop-next names i x less item) ∙ ap (λ (m : ℕ). GoalTree.apply itself_name (Tree.var j ∷ []) (slot_for x.now ns) ∷ kept_goals (names_in (drop (i + 1) names)) m ns) (omega arith)

pub kept-more : (names : List (Bor (List ℕ))) (k : ℕ) (ns : SlotNames) (old now new : List GoalTree) (i j into j' : ℕ) (x : Bor (List ℕ)) → i < length names → x ≡ get_or names i x → into ≡ slot_for x.now ns → new ≡ now ++ GoalTree.apply itself_name (Tree.var j ∷ []) into ∷ [] → j' ≡ j + 1 →
    KeptTo names k ns old i j now → KeptTo names k ns old (i + 1) j' new
kept-more names k ns old now new i j into j' x less item at put next so =
    let rest : ℕ → List GoalTree = λ m. kept_goals (names_in (drop (i + 1) names)) m ns in
    let goal : ℕ → GoalTree = λ v. GoalTree.apply itself_name (Tree.var j ∷ []) v in
    record {
      is = ap (λ gs. gs ++ rest j') put ∙ (ap (λ m. (now ++ goal into ∷ []) ++ rest m) next ∙ (append_assoc now (goal into ∷ []) (rest (j + 1))
          ∙ (ap (λ v. now ++ goal v ∷ rest (j + 1)) at ∙ (ap (λ gs. now ++ gs) (sym (kept-first names i j x ns less item)) ∙ so.is))));
    }

pub kept-all : (names : List (Bor (List ℕ))) (k : ℕ) (ns : SlotNames) (old now : List GoalTree) (i j : ℕ) → length names ≤ i → KeptTo names k ns old i j now → now ≡ old ++ kept_goals (names_in names) k ns
unfolding kept_goals
kept-all names k ns old now i j past so = sym (append-nil now) ∙ (ap (λ xs. now ++ kept_goals (names_in xs) j ns) (sym (drop_all i names past)) ∙ so.is)
