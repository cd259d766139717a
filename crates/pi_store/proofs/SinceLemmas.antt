-- What changed of variables since a mark is what was picked of the words that lead back to it.
use Rattle.std.proofs.Common.{◌≡◌, ◌⊎◌, inl, inr, ⊎_elim, ℕ, suc, ◌%◌, ◌==◌, ◌<◌, ◌≤◌, Bool, true, false, cond, List, [], ◌∷◌, ◌++◌, length, map, slice_index, None, refl, ap, sym, subst, ◌∙◌, arith, tests, eqb-true, append_assoc, append-nil}
use Rattle.std.specs.Prelude.{IsTrue, ◌↔◌, Contains, option_map}
use Rattle.std.proofs.lemmas.List.{length-map}
use Rattle.std.proofs.lemmas.List.Elements.{Contains-append_left, Contains-append_right, Contains-append_cases}
use Rattle.pi_terms.specs.Places.{held}
use Rattle.pi_constraints.specs.State as state
use Rattle.pi_constraints.specs.Store.{AscendAbove, Lists, HasChanged}
use Rattle.pi_region.specs.Image.{Image}
use Rattle.pi_region.specs.Back.{at_length}
use Rattle.pi_region.specs.Changes.{noted, AscendFrom}
use Rattle.pi_store_blocks.specs.Heap.{Heap}
use Rattle.pi_store_blocks.specs.NameTable.{NameTable}
use Rattle.pi_store.specs.Walk.{bound_ref_by}
use Rattle.pi_store.specs.Domains.{domain_by}
use Rattle.pi_store.specs.Since.{IsChanged, Picks, AreSince}
use Rattle.pi_store.specs.Holding.{variable_in, heap_of, state_of}
use Rattle.pi_store.specs.Sound.{IsSound}
use Rattle.pi_store.specs.Bindings.{bound_in}
use Rattle.pi_store.proofs.LookLemmas.{tree_at_ref, held_is}
use Rattle.pi_store.proofs.FoundLemmas.{one_is, has_one}
use Rattle.pi_store.proofs.DomainLemmas.{none_zero, is_zero, domain_is, shows_past}

abbrev pub Notes : Type 0
Notes = List (ℕ × ℕ)

-- The walk over what is noted

-- what is picked of what is left goes on what was picked so far
abbrev pub GoesOn : Image → ℕ → Notes → List ℕ → Notes → Type 0
GoesOn i count es found here = (more : List ℕ) → Picks i count here more → Picks i count es (found ++ more)

pub begins : (i : Image) (count : ℕ) (es : Notes) (found : List ℕ) → found ≡ [] → GoesOn i count es found es
begins i count es found e = λ more p. subst (λ xs. Picks i count es (xs ++ more)) (sym e) p

picked : (i : Image) (count k w : ℕ) (rest : Notes) (more : List ℕ) → IsChanged i count k w → Picks i count rest more → Picks i count ((k, w) ∷ rest) (k ∷ more)
unfolding Picks
picked i count k w rest more is p = inl (is, (more, refl, p))

passed : (i : Image) (count k w : ℕ) (rest : Notes) (more : List ℕ) → (IsChanged i count k w → ⊥) → Picks i count rest more → Picks i count ((k, w) ∷ rest) more
unfolding Picks
passed i count k w rest more not p = inr (not, p)

pub goes_on : (i : Image) (count : ℕ) (es here rest : Notes) (found next : List ℕ) (k w : ℕ) (b : Bool) → GoesOn i count es found here → here ≡ (k, w) ∷ rest → IsTrue b ↔ IsChanged i count k w → next ≡ cond b (found ++ k ∷ []) found → GoesOn i count es next rest
goes_on i count es here rest found next k w true g at is e = λ more p.
    subst (λ xs. Picks i count es (xs ++ more)) (sym e) (subst (Picks i count es) (sym (append_assoc found (k ∷ []) more))
    (g (k ∷ more) (subst (λ ns. Picks i count ns (k ∷ more)) (sym at) (picked i count k w rest more (is.0 refl) p))))
goes_on i count es here rest found next k w false g at is e = λ more p.
    subst (λ xs. Picks i count es (xs ++ more)) (sym e) (g more (subst (λ ns. Picks i count ns more) (sym at) (passed i count k w rest more (λ h. let f : IsTrue false = is.1 h in absurd (cc)) p)))

nothing : (i : Image) (count : ℕ) → Picks i count [] []
unfolding Picks
nothing i count = refl

pub ends : (i : Image) (count : ℕ) (es here : Notes) (found : List ℕ) → GoesOn i count es found here → here ≡ [] → Picks i count es found
ends i count es here found g at = subst (Picks i count es) (append-nil found) (g [] (subst (λ ns. Picks i count ns []) (sym at) (nothing i count)))

-- What was picked

ascend_less : (least l : ℕ) (ns : List ℕ) → l ≤ least → AscendAbove least ns → AscendAbove l ns
unfolding AscendAbove
ascend_less least l [] le a = tt
ascend_less least l (n ∷ ns) le a = let b : least ≤ n = a.0 in (omega arith, a.1)

ascends : (i : Image) (count least : ℕ) (es : Notes) (found : List ℕ) → AscendFrom least es → Picks i count es found → AscendAbove least found
unfolding AscendFrom Picks AscendAbove
ascends i count least [] found a p = subst (AscendAbove least) (sym p) tt
ascends i count least (e ∷ es) found a (inl q) = subst (AscendAbove least) (sym q.1.1) (a.0, ascends i count (suc e.0) es q.1.0 a.1 q.1.2)
ascends i count least (e ∷ es) found a (inr q) = let le : least ≤ e.0 = a.0 in ascend_less (suc e.0) least found (omega arith) (ascends i count (suc e.0) es found a.1 q.1)

-- a word is noted for a place
abbrev Has : Notes → ℕ → ℕ → Type 0
Has [] n w = ⊥
Has (e ∷ es) n w = ((e.0 ≡ n) × (e.1 ≡ w)) ⊎ Has es n w

abbrev Found : Image → ℕ → Notes → ℕ → Type 0
Found i count es n = (w : ℕ) × Has es n w × IsChanged i count n w

later : (i : Image) (count : ℕ) (e : ℕ × ℕ) (es : Notes) (n : ℕ) → Found i count es n → Found i count (e ∷ es) n
later i count e es n f = (f.0, inr f.1, f.2)

here : (i : Image) (count : ℕ) (e : ℕ × ℕ) (es : Notes) (n : ℕ) → e.0 ≡ n → IsChanged i count e.0 e.1 → Found i count (e ∷ es) n
here i count e es n same is = (e.1, inl (same, refl), subst (λ m. IsChanged i count m e.1) same is)

none_in : (n : ℕ) → Contains {X = ℕ} [] n → ⊥
none_in n (k, l, e) = omega arith

picks_found : (i : Image) (count : ℕ) (es : Notes) (found : List ℕ) → Picks i count es found → (n : ℕ) → Contains found n → Found i count es n
unfolding Picks
picks_found i count [] found p n c = absurd (none_in n (subst (λ xs. Contains xs n) p c))
picks_found i count (e ∷ es) found (inl q) n c =
    ⊎_elim
    (λ first. here i count e es n (one_is e.0 n first) q.0)
    (λ rest. later i count e es n (picks_found i count es q.1.0 q.1.2 n rest))
    (Contains-append_cases (e.0 ∷ []) q.1.0 n (subst (λ xs. Contains xs n) q.1.1 c))
picks_found i count (e ∷ es) found (inr q) n c = later i count e es n (picks_found i count es found q.1 n c)

found_picks : (i : Image) (count : ℕ) (es : Notes) (found : List ℕ) → Picks i count es found → (n w : ℕ) → Has es n w → IsChanged i count n w → Contains found n
unfolding Picks
found_picks i count [] found p n w has is = absurd has
found_picks i count (e ∷ es) found (inl q) n w (inl h) is = subst (λ xs. Contains xs n) (sym q.1.1) (subst (λ m. Contains (e.0 ∷ q.1.0) m) h.0 (Contains-append_left (e.0 ∷ []) q.1.0 e.0 (has_one e.0)))
found_picks i count (e ∷ es) found (inl q) n w (inr h) is = subst (λ xs. Contains xs n) (sym q.1.1) (Contains-append_right (e.0 ∷ []) q.1.0 n (found_picks i count es q.1.0 q.1.2 n w h is))
found_picks i count (e ∷ es) found (inr q) n w (inl h) is = absurd (q.0 (subst (λ m. IsChanged i count m e.1) (sym h.0) (subst (IsChanged i count n) (sym h.1) is)))
found_picks i count (e ∷ es) found (inr q) n w (inr h) is = found_picks i count es found q.1 n w h is

-- What is noted

has_least : (least : ℕ) (es : Notes) (n w : ℕ) → AscendFrom least es → Has es n w → least ≤ n
unfolding AscendFrom
has_least least [] n w a h = absurd h
has_least least (e ∷ es) n w a (inl h) = let le : least ≤ e.0 = a.0 in let same : e.0 ≡ n = h.0 in omega arith
has_least least (e ∷ es) n w a (inr h) = let le : least ≤ e.0 = a.0 in let more : suc e.0 ≤ n = has_least (suc e.0) es n w a.1 h in omega arith

same_key : (n k : ℕ) → n ≡ k → (n == k) ≡ true
same_key n k e = grind (arith, tests, e)

other_key : (n k : ℕ) → k < n → (n == k) ≡ false
other_key n k e = grind (arith, tests, e)

has_noted : (least : ℕ) (es : Notes) (n w x : ℕ) → AscendFrom least es → Has es n w → noted es n x ≡ w
unfolding AscendFrom noted
has_noted least [] n w x a h = absurd h
has_noted least (e ∷ es) n w x a (inl h) = ap (λ b. cond b e.1 (noted es n x)) (same_key n e.0 (sym h.0)) ∙ h.1
has_noted least (e ∷ es) n w x a (inr h) = ap (λ b. cond b e.1 (noted es n x)) (other_key n e.0 (has_least (suc e.0) es n w a.1 h)) ∙ has_noted (suc e.0) es n w x a.1 h

noted_or_not : (es : Notes) (n x : ℕ) → Has es n (noted es n x) ⊎ (noted es n x ≡ x)
unfolding noted
noted_or_not [] n x = inr refl
noted_or_not (e ∷ es) n x = by (n == e.0) refl (noted_or_not es n x)
  where
    by : (b : Bool) → (n == e.0) ≡ b → Has es n (noted es n x) ⊎ (noted es n x ≡ x) → Has (e ∷ es) n (cond b e.1 (noted es n x)) ⊎ (cond b e.1 (noted es n x) ≡ x)
    by true s rest = inl (inl (sym (eqb-true n e.0 s), refl))
    by false s (inl h) = inl (inr h)
    by false s (inr h) = inr h

-- The states

unbound_if : (h : Heap) (b : Bool) (w : ℕ) → (w % 8 == 0) ≡ b → option_map (tree_at_ref h) (bound_ref_by b w) ≡ None → w % 8 ≡ 0
unbound_if h true w e none = none_zero (w % 8) e
unbound_if h false w e none = absurd (cc)

held_none : (h : Heap) (vs : List ℕ) (n : ℕ) → held (bound_in h vs) n ≡ None → slice_index vs n % 8 ≡ 0
held_none h vs n e = unbound_if h (slice_index vs n % 8 == 0) (slice_index vs n) refl (sym (held_is h vs n) ∙ e)

none_held : (h : Heap) (vs : List ℕ) (n : ℕ) → slice_index vs n % 8 ≡ 0 → held (bound_in h vs) n ≡ None
none_held h vs n e = held_is h vs n ∙ ap (λ b. option_map (tree_at_ref h) (bound_ref_by b (slice_index vs n))) (is_zero (slice_index vs n % 8) e)

-- by the word that a variable had
module _ (t : NameTable) (i : Image) (s : IsSound t i) (len count n : ℕ) (many : count ≡ length (at_length len i).variables) where
  before : List ℕ
  before = (at_length len i).variables

  abbrev Changed : Type 0
  Changed = HasChanged (state_of (heap_of t (at_length len i)) (at_length len i)) (state_of (heap_of t i) i) n

  pub to_changed : (w : ℕ) → slice_index (at_length len i).variables n ≡ w → IsChanged i count n w → HasChanged (state_of (heap_of t (at_length len i)) (at_length len i)) (state_of (heap_of t i) i) n
  to_changed w at is =
      let j : Image = at_length len i in
      let l : length (map (variable_in (heap_of t j)) j.variables) ≡ length j.variables = length-map j.variables (variable_in (heap_of t j)) in
      let lt : n < count = is.0 in
      let none : slice_index j.variables n % 8 ≡ 0 = ap (λ v. v % 8) at ∙ is.1 in
      let past : domain_by i.region w ≡ state.domain_of (state_of (heap_of t j) j) n = shows_past t i s len n (domain_by i.region w) (ap (domain_by i.region) (sym at)) in (
        (omega arith, none_held (heap_of t j) j.variables n none),
        ⊎_elim
            (λ bound. inl (λ e. bound (held_none (heap_of t i) i.variables n e)))
            (λ other. inr (λ e. other (sym (domain_is (heap_of t i) i.variables n) ∙ (e ∙ sym past))))
            is.2,
      )

  pub from_changed : (w : ℕ) → slice_index (at_length len i).variables n ≡ w → HasChanged (state_of (heap_of t (at_length len i)) (at_length len i)) (state_of (heap_of t i) i) n → IsChanged i count n w
  from_changed w at h =
      let j : Image = at_length len i in
      let l : length (map (variable_in (heap_of t j)) j.variables) ≡ length j.variables = length-map j.variables (variable_in (heap_of t j)) in
      let lt : n < length (map (variable_in (heap_of t j)) j.variables) = h.0.0 in
      let past : domain_by i.region w ≡ state.domain_of (state_of (heap_of t j) j) n = shows_past t i s len n (domain_by i.region w) (ap (domain_by i.region) (sym at)) in (
        omega arith,
        ap (λ v. v % 8) (sym at) ∙ held_none (heap_of t j) j.variables n h.0.1,
        ⊎_elim
            (λ bound. inl (λ e. bound (none_held (heap_of t i) i.variables n e)))
            (λ other. inr (λ e. other (domain_is (heap_of t i) i.variables n ∙ (e ∙ past))))
            h.1,
      )

  -- a variable with the word that it had hasn't changed
  pub unchanged : (w : ℕ) → slice_index i.variables n ≡ w → IsChanged i count n w → ⊥
  unchanged w same is = ⊎_elim
      (λ bound. bound (ap (λ v. v % 8) same ∙ is.1))
      (λ other. other (ap (domain_by i.region) same))
      is.2

pub changed_are : (t : NameTable) (i : Image) → IsSound t i → (len : ℕ) (found : List ℕ) → AreSince i len found → Lists (HasChanged (state_of (heap_of t (at_length len i)) (at_length len i)) (state_of (heap_of t i) i)) found
changed_are t i s len found since = record {
  ascend = ascends i since.count 0 since.notes found since.leads.ascend since.picks;
  has = λ n. (
    λ c.
        let f = picks_found i since.count since.notes found since.picks n c in
        let lt : n < since.count = f.2.0 in
        let many : since.count ≡ length (at_length len i).variables = since.leads.many in
        let word : slice_index (at_length len i).variables n ≡ f.0 = since.leads.word n (omega arith) ∙ has_noted 0 since.notes n f.0 (slice_index i.variables n) since.leads.ascend f.1 in
        to_changed t i s len since.count n many f.0 word f.2,
    λ h.
        let j : Image = at_length len i in
        let many : since.count ≡ length j.variables = since.leads.many in
        let now : ℕ = slice_index i.variables n in
        let l : length (map (variable_in (heap_of t j)) j.variables) ≡ length j.variables = length-map j.variables (variable_in (heap_of t j)) in
        let lt : n < length (map (variable_in (heap_of t j)) j.variables) = h.0.0 in
        let word : slice_index j.variables n ≡ noted since.notes n now = since.leads.word n (omega arith) in
        let is : IsChanged i since.count n (noted since.notes n now) = from_changed t i s len since.count n many (noted since.notes n now) word h in
        ⊎_elim
        (λ has. found_picks i since.count since.notes found since.picks n (noted since.notes n now) has is)
        (λ none. absurd (unchanged t i s len since.count n many (noted since.notes n now) (sym none) is))
        (noted_or_not since.notes n now),
  );
}
