-- Lists are the same where the words below their end are, and a node that was written reads back.
use Rattle.std.proofs.Common.{◌≡◌, ◌⊎◌, inl, inr, ℕ, zero, suc, ◌+◌, ◌-◌, ◌<◌, ◌≤◌, min, List, [], ◌∷◌, ◌++◌, length, take, slice_index, refl, ap, sym, subst, ◌∙◌, arith, length-append}
use Rattle.std.specs.Prelude.{◌↔◌}
use Rattle.std.proofs.lemmas.List.{get_or-take, get_or-append-add, get_or_append_left}
use Rattle.pi_region.specs.Entry.{data_of, value_of}
use Rattle.pi_region.specs.Image.{Image}
use Rattle.pi_region.specs.Back.{Advances, at_length}
use Rattle.pi_region.proofs.EntryLemmas.{value_of-data_of}
use Rattle.pi_region.proofs.BackLemmas.{region_back}
use Rattle.pi_store_blocks.specs.Heap.{Heap}
use Rattle.pi_store_blocks.specs.Placed.{IsWordIn, WritesRight}
use Rattle.pi_store_blocks.proofs.WriteLemmas.{data_word, writes_by}
use Rattle.pi_store_blocks.specs.Node.{node_of, node_at, list_within, IsListed, here, in_first, in_second, WritesNode}
use Rattle.pi_store_blocks.specs.ListLaws.{ListsReadBack, ListsOutlast, ListsComeBack, NodesSayNothing}

-- The same words below a place

abbrev SameBelow : List ℕ → List ℕ → ℕ → Type 0
SameBelow ws vs end = (n : ℕ) → n < end → slice_index vs n ≡ slice_index ws n

within_same : (ws vs : List ℕ) (place most : ℕ) → slice_index vs place ≡ slice_index ws place → list_within ws place most ≡ list_within vs place most
within_same ws vs place most e = ap (λ w. min (value_of w) most) (sym e)

below_less : (ws vs : List ℕ) (end less : ℕ) → SameBelow ws vs end → less ≤ end → SameBelow ws vs less
below_less ws vs end less same le n lt = same n (omega arith)

-- it has what it has over other words that are the same below it
pub carried : (ws vs : List ℕ) {end k : ℕ} → IsListed ws end k → SameBelow ws vs end → IsListed vs end k
carried ws vs (here end some) same = subst (IsListed vs end) (ap value_of (same (end - 3) (omega arith))) (here end some)
carried ws vs (in_first end {k} some sub) same =
    let e : (node_at ws end).first ≡ (node_at vs end).first = within_same ws vs (end - 2) (end - 3) (same (end - 2) (omega arith)) in
    let le : (node_at ws end).first ≤ end = omega arith in
    in_first end some (subst (λ (p : ℕ). IsListed vs p k) e (carried ws vs sub (below_less ws vs end (node_at ws end).first same le)))
carried ws vs (in_second end {k} some sub) same =
    let e : (node_at ws end).second ≡ (node_at vs end).second = within_same ws vs (end - 1) (end - 3) (same (end - 1) (omega arith)) in
    let le : (node_at ws end).second ≤ end = omega arith in
    in_second end some (subst (λ (p : ℕ). IsListed vs p k) e (carried ws vs sub (below_less ws vs end (node_at ws end).second same le)))

-- and where there are more words behind it
pub in_more : (ws more : List ℕ) (end k : ℕ) → end ≤ length ws → IsListed ws end k → IsListed (ws ++ more) end k
in_more ws more end k le l = carried ws (ws ++ more) l (λ n lt. get_or_append_left ws more 0 n (omega arith))

of_more : (ws more : List ℕ) (end k : ℕ) → end ≤ length ws → IsListed (ws ++ more) end k → IsListed ws end k
of_more ws more end k le l = carried (ws ++ more) ws l (λ n lt. sym (get_or_append_left ws more 0 n (omega arith)))

in_cut : (len end k : ℕ) (ws : List ℕ) → end ≤ len → IsListed (take len ws) end k ↔ IsListed ws end k
in_cut len end k ws le = (
  λ l. carried (take len ws) ws l (λ n lt. sym (get_or-take len ws n 0 (omega arith))),
  λ l. carried ws (take len ws) l (λ n lt. get_or-take len ws n 0 (omega arith)),
)

pub come_back : ListsComeBack
come_back len end i le within k = subst (λ (ws : List ℕ). IsListed (take len ws) end k ↔ IsListed i.region end k) (sym (region_back len i)) (in_cut len end k i.region le)

turned : {A B : Type 0} → A ↔ B → B ↔ A
turned e = (e.1, e.0)

pub outlast : ListsOutlast
outlast old new end a le k =
    let longer : length old.region ≤ length new.region = a.longer in
    turned (subst (λ (i : Image). IsListed i.region end k ↔ IsListed new.region end k) a.back (come_back (length old.region) end new le (omega arith) k))

-- A node

-- what a list has, by the node that ends it
abbrev pub HasNode : List ℕ → ℕ → ℕ → Type 0
HasNode ws end k = (k ≡ (node_at ws end).number) ⊎ (IsListed ws (node_at ws end).first k ⊎ IsListed ws (node_at ws end).second k)

pub unrolled : (ws : List ℕ) {end k : ℕ} → IsListed ws end k → (0 < end) × HasNode ws end k
unrolled ws (here end some) = (some, inl refl)
unrolled ws (in_first end some sub) = (some, inr (inl sub))
unrolled ws (in_second end some sub) = (some, inr (inr sub))

pub rolled : (ws : List ℕ) (end k : ℕ) → 0 < end → HasNode ws end k → IsListed ws end k
rolled ws end k some (inl e) = subst (IsListed ws end) (sym e) (here end some)
rolled ws end k some (inr (inl l)) = in_first end some l
rolled ws end k some (inr (inr l)) = in_second end some l

-- nothing is in the list that ends at 0
pub nothing_listed : (ws : List ℕ) (k : ℕ) → IsListed ws 0 k → ⊥
nothing_listed ws k l = let some : 0 < 0 = (unrolled ws l).0 in absurd (omega arith)

-- the words of a node at the end of others
read_node : (ws : List ℕ) (number first second n place : ℕ) → place ≡ length ws + n → slice_index (ws ++ node_of number first second) place ≡ slice_index (node_of number first second) n
read_node ws number first second n place e = ap (slice_index (ws ++ node_of number first second)) e ∙ get_or-append-add ws (node_of number first second) n 0

second_is : (ws : List ℕ) (number first second end : ℕ) → end ≡ length ws + 3 → second ≤ length ws → (node_at (ws ++ node_of number first second) end).second ≡ second
second_is ws number first second end e lower =
    let all : List ℕ = ws ++ node_of number first second in
    let d : value_of (slice_index all (end - 1)) ≡ second = ap value_of (read_node ws number first second 2 (end - 1) (omega arith)) ∙ value_of-data_of second in
    let n : min second (end - 3) ≡ second = omega arith in
    ap (λ x. min x (end - 3)) d ∙ n

-- the second of its lists, whatever the first is
pub second_written : (old new : Image) (number first second end k : ℕ) → WritesNode old new number first second end → second ≤ length old.region → IsListed old.region second k → IsListed new.region end k
second_written old new number first second end k w lower l =
    let node : List ℕ = node_of number first second in
    let all : List ℕ = old.region ++ node in
    let region : new.region ≡ all = ap (λ (i : Image). i.region) w.words in
    let long : end ≡ length old.region + 3 = w.end ∙ (ap length region ∙ length-append old.region node) in
    let is : (node_at all end).second ≡ second = second_is old.region number first second end long lower in
    subst (λ (ws : List ℕ). IsListed ws end k) (sym region) (in_second end (omega arith) (subst (λ (p : ℕ). IsListed all p k) (sym is) (in_more old.region node second k lower l)))

abbrev IsNode : List ℕ → ℕ → ℕ → ℕ → ℕ → Type 0
IsNode ws end number first second = ((node_at ws end).number ≡ number) × ((node_at ws end).first ≡ first) × ((node_at ws end).second ≡ second)

written_is : (ws : List ℕ) (number first second end : ℕ) → end ≡ length ws + 3 → first ≤ length ws → second ≤ length ws → IsNode (ws ++ node_of number first second) end number first second
written_is ws number first second end e low lower =
    let all : List ℕ = ws ++ node_of number first second in
    let a : value_of (slice_index all (end - 3)) ≡ number = ap value_of (read_node ws number first second 0 (end - 3) (omega arith)) ∙ value_of-data_of number in
    let b : value_of (slice_index all (end - 2)) ≡ first = ap value_of (read_node ws number first second 1 (end - 2) (omega arith)) ∙ value_of-data_of first in
    let m : min first (end - 3) ≡ first = omega arith in
    (a, ap (λ x. min x (end - 3)) b ∙ m, second_is ws number first second end e lower)

written_has : (ws : List ℕ) (number first second end k : ℕ) → end ≡ length ws + 3 → first ≤ length ws → second ≤ length ws
    → IsListed (ws ++ node_of number first second) end k ↔ ((k ≡ number) ⊎ (IsListed ws first k ⊎ IsListed ws second k))
written_has ws number first second end k e low lower =
    let node : List ℕ = node_of number first second in
    let all : List ℕ = ws ++ node in
    let is : IsNode all end number first second = written_is ws number first second end e low lower in
    let On : ℕ → Type 0 = λ p. IsListed all p k in (
      λ l. elim ((unrolled all l).1) [
        | inl f ↦ inl (f ∙ is.0)
        | inr r ↦ elim r [
          | inl f ↦ inr (inl (of_more ws node first k low (subst On is.1 f)))
          | inr f ↦ inr (inr (of_more ws node second k lower (subst On is.2 f)))
        ]
      ],
      λ h. rolled all end k (omega arith) (elim h [
        | inl f ↦ inl (f ∙ sym is.0)
        | inr r ↦ elim r [
          | inl f ↦ inr (inl (subst On (sym is.1) (in_more ws node first k low f)))
          | inr f ↦ inr (inr (subst On (sym is.2) (in_more ws node second k lower f)))
        ]
      ]),
    )

pub read_back : ListsReadBack
read_back old new number first second end w low lower k =
    let region : new.region ≡ old.region ++ node_of number first second = ap (λ (i : Image). i.region) w.words in
    let long : end ≡ length old.region + 3 = w.end ∙ (ap length region ∙ length-append old.region (node_of number first second)) in
    subst (λ (ws : List ℕ). IsListed ws end k ↔ ((k ≡ number) ⊎ (IsListed old.region first k ⊎ IsListed old.region second k))) (sym region) (written_has old.region number first second end k long low lower)

pub say_nothing : NodesSayNothing
say_nothing h number first second zero lt = data_word h number
say_nothing h number first second (suc zero) lt = data_word h first
say_nothing h number first second (suc (suc zero)) lt = data_word h second
say_nothing h number first second (suc (suc (suc n))) lt = absurd (omega arith)

-- so a node is right behind any words
pub node_right : (h : Heap) (number first second : ℕ) → WritesRight h (h.words ++ node_of number first second)
node_right h number first second = writes_by h (h.words ++ node_of number first second) (node_of number first second) refl (λ k lt. say_nothing (record h { words = h.words ++ take k (node_of number first second) }) number first second k lt)
