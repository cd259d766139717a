-- The walk over a list with a stack of where lists end.
use Rattle.std.proofs.Common.{◌≡◌, ◌⊎◌, inl, inr, ℕ, zero, suc, ◌+◌, ◌-◌, ◌*◌, ◌<◌, ◌≤◌, List, [], ◌∷◌, ◌++◌, length, refl, ap, sym, subst, ◌∙◌, arith, append_assoc}
use Rattle.std.specs.Prelude.{◌↔◌, Contains}
use Rattle.std.proofs.lemmas.List.Elements.{Contains-append_left, Contains-append_right, Contains-append_cases}
use Rattle.pi_store_blocks.specs.declared.lists.node.Node.{Node}
use Rattle.pi_store_blocks.specs.Node.{node_at, IsListed, numbers_at, ends_at}
use Rattle.pi_store_blocks.proofs.ListLemmas.{nothing_listed, unrolled, rolled}

-- a number is in one of the lists that end at these places
pub AreListed : List ℕ → List ℕ → ℕ → Type 0
AreListed ws [] k = ⊥
AreListed ws (e ∷ es) k = IsListed ws e k ⊎ AreListed ws es k

-- so far: what was found, and what the lists on the stack have, is what the whole has
pub record Walked (ws : List ℕ) (end : ℕ) (found ends : List ℕ) : Type 0 where
  pub found_or_left : (k : ℕ) → IsListed ws end k → Contains found k ⊎ AreListed ws ends k
  pub all_found : (k : ℕ) → Contains found k → IsListed ws end k
  pub left : (k : ℕ) → AreListed ws ends k → IsListed ws end k

one_is : (i n : ℕ) → Contains (i ∷ []) n → i ≡ n
one_is i n (zero, l, e) = e
one_is i n (suc k, l, e) = absurd (omega arith)

has_one : (i n : ℕ) → n ≡ i → Contains (i ∷ []) n
has_one i n e = (0, omega arith, sym e)

has_none : (n : ℕ) → Contains [] n → ⊥
has_none n (k, l, e) = absurd (omega arith)

listed_cases : (ws es fs : List ℕ) (k : ℕ) → AreListed ws (es ++ fs) k → AreListed ws es k ⊎ AreListed ws fs k
unfolding AreListed
listed_cases ws [] fs k l = inr l
listed_cases ws (e ∷ es) fs k (inl l) = inl (inl l)
listed_cases ws (e ∷ es) fs k (inr l) = elim (listed_cases ws es fs k l) [ inl m ↦ inl (inr m) | inr m ↦ inr m ]

listed_left : (ws es fs : List ℕ) (k : ℕ) → AreListed ws es k → AreListed ws (es ++ fs) k
unfolding AreListed
listed_left ws [] fs k l = absurd l
listed_left ws (e ∷ es) fs k (inl l) = inl l
listed_left ws (e ∷ es) fs k (inr l) = inr (listed_left ws es fs k l)

listed_right : (ws es fs : List ℕ) (k : ℕ) → AreListed ws fs k → AreListed ws (es ++ fs) k
unfolding AreListed
listed_right ws [] fs k l = l
listed_right ws (e ∷ es) fs k l = inr (listed_right ws es fs k l)

listed_one : (ws : List ℕ) (e k : ℕ) → AreListed ws (e ∷ []) k → IsListed ws e k
unfolding AreListed
listed_one ws e k (inl l) = l
listed_one ws e k (inr l) = absurd l

one_listed : (ws : List ℕ) (e k : ℕ) → IsListed ws e k → AreListed ws (e ∷ []) k
unfolding AreListed
one_listed ws e k l = inl l

listed_two : (ws : List ℕ) (d e k : ℕ) → AreListed ws (d ∷ e ∷ []) k → IsListed ws d k ⊎ IsListed ws e k
unfolding AreListed
listed_two ws d e k (inl l) = inl l
listed_two ws d e k (inr (inl l)) = inr l
listed_two ws d e k (inr (inr l)) = absurd l

two_listed : (ws : List ℕ) (d e k : ℕ) → IsListed ws d k ⊎ IsListed ws e k → AreListed ws (d ∷ e ∷ []) k
unfolding AreListed
two_listed ws d e k (inl l) = inl l
two_listed ws d e k (inr l) = inr (inl l)

-- a list is its number and its lists
opened : (ws : List ℕ) (e k : ℕ) → IsListed ws e k → Contains (numbers_at ws e) k ⊎ AreListed ws (ends_at ws e) k
opened ws zero k l = absurd (nothing_listed ws k l)
opened ws (suc last) k l = elim ((unrolled ws l).1) [
  | inl f ↦ inl (has_one (node_at ws (suc last)).number k f)
  | inr r ↦ inr (two_listed ws (node_at ws (suc last)).first (node_at ws (suc last)).second k r)
]

number_listed : (ws : List ℕ) (e k : ℕ) → Contains (numbers_at ws e) k → IsListed ws e k
number_listed ws zero k c = absurd (has_none k c)
number_listed ws (suc last) k c = rolled ws (suc last) k (omega arith) (inl (sym (one_is (node_at ws (suc last)).number k c)))

ends_listed : (ws : List ℕ) (e k : ℕ) → AreListed ws (ends_at ws e) k → IsListed ws e k
unfolding AreListed
ends_listed ws zero k l = absurd l
ends_listed ws (suc last) k l = rolled ws (suc last) k (omega arith) (inr (listed_two ws (node_at ws (suc last)).first (node_at ws (suc last)).second k l))

-- the beginning, a turn and the end

pub walk_starts : (ws : List ℕ) (end : ℕ) (found ends : List ℕ) → found ≡ [] → ends ≡ end ∷ [] → Walked ws end found ends
walk_starts ws end found ends none one = record {
  found_or_left = λ k l. inr (subst (λ es. AreListed ws es k) (sym one) (one_listed ws end k l));
  all_found = λ k c. absurd (has_none k (subst (λ (xs : List ℕ). Contains xs k) none c));
  left = λ k l. listed_one ws end k (subst (λ es. AreListed ws es k) one l);
}

pub walk_turns : (ws : List ℕ) (end : ℕ) (found more ends rest next : List ℕ) (at : ℕ) → Walked ws end found ends → ends ≡ rest ++ at ∷ [] → more ≡ found ++ numbers_at ws at → next ≡ rest ++ ends_at ws at → Walked ws end more next
walk_turns ws end found more ends rest next at w popped numbers pushed =
    let top : (k : ℕ) → IsListed ws at k → IsListed ws end k = λ k l. w.left k (subst (λ es. AreListed ws es k) (sym popped) (listed_right ws rest (at ∷ []) k (one_listed ws at k l))) in
    let In : ℕ → List ℕ → Type 0 = λ k xs. Contains xs k in
    let On : ℕ → List ℕ → Type 0 = λ k es. AreListed ws es k in
    record {
      found_or_left = λ k l. elim (w.found_or_left k l) [
        | inl c ↦ inl (subst (In k) (sym numbers) (Contains-append_left found (numbers_at ws at) k c))
        | inr m ↦ elim (listed_cases ws rest (at ∷ []) k (subst (On k) popped m)) [
          | inl n ↦ inr (subst (On k) (sym pushed) (listed_left ws rest (ends_at ws at) k n))
          | inr n ↦ elim (opened ws at k (listed_one ws at k n)) [
            | inl c ↦ inl (subst (In k) (sym numbers) (Contains-append_right found (numbers_at ws at) k c))
            | inr o ↦ inr (subst (On k) (sym pushed) (listed_right ws rest (ends_at ws at) k o))
          ]
        ]
      ];
      all_found = λ k c. elim (Contains-append_cases found (numbers_at ws at) k (subst (In k) numbers c)) [
        | inl d ↦ w.all_found k d
        | inr d ↦ top k (number_listed ws at k d)
      ];
      left = λ k l. elim (listed_cases ws rest (ends_at ws at) k (subst (On k) pushed l)) [
        | inl n ↦ w.left k (subst (On k) (sym popped) (listed_left ws rest (at ∷ []) k n))
        | inr n ↦ top k (ends_listed ws at k n)
      ];
    }

none_listed : (ws : List ℕ) (k : ℕ) → AreListed ws [] k → ⊥
unfolding AreListed
none_listed ws k l = l

pub walk_ends : (ws : List ℕ) (end : ℕ) (found ends : List ℕ) → Walked ws end found ends → length ends ≡ 0 → (k : ℕ) → Contains found k ↔ IsListed ws end k
walk_ends ws end found [] w none k = (w.all_found k, λ l. elim (w.found_or_left k l) [ inl c ↦ c | inr m ↦ absurd (none_listed ws k m) ])
walk_ends ws end found (e ∷ es) w none k = absurd (omega arith)

-- A node that is entered

pub number_found : (ws : List ℕ) (end : ℕ) (old new : List ℕ) (node : Node) → (end ≡ 0 → ⊥) → node ≡ node_at ws end → new ≡ old ++ node.number ∷ [] → new ≡ old ++ numbers_at ws end
number_found ws zero old new node some is e = absurd (some refl)
number_found ws (suc last) old new node some is e = e ∙ ap (λ (n : Node). old ++ n.number ∷ []) is

pub ends_found : (ws : List ℕ) (end : ℕ) (old mid new : List ℕ) (node : Node) → (end ≡ 0 → ⊥) → node ≡ node_at ws end → mid ≡ old ++ node.first ∷ [] → new ≡ mid ++ node.second ∷ [] → new ≡ old ++ ends_at ws end
ends_found ws zero old mid new node some is first second = absurd (some refl)
ends_found ws (suc last) old mid new node some is first second =
    second
    ∙ (ap (λ l. l ++ node.second ∷ []) first
    ∙ (append_assoc old (node.first ∷ []) (node.second ∷ [])
    ∙ ap (λ (n : Node). old ++ n.first ∷ n.second ∷ []) is))

-- A turn takes from the stack: each place weighs three times what the one before it weighs

pub weight : ℕ → ℕ
weight zero = 1
weight (suc n) = 3 * weight n

pub weights : List ℕ → ℕ
weights [] = 0
weights (e ∷ es) = weight e + weights es

some_weight : (n : ℕ) → 0 < weight n
unfolding weight
some_weight zero = omega arith
some_weight (suc n) = let h : 0 < weight n = some_weight n in omega arith

heavier : (n d : ℕ) → weight n ≤ weight (n + d)
unfolding weight
heavier n zero = let e : n + 0 ≡ n = omega arith in subst (λ m. weight n ≤ weight m) (sym e) (omega arith)
heavier n (suc d) =
    let e : n + suc d ≡ suc (n + d) = omega arith in
    let h : weight n ≤ weight (n + d) = heavier n d in
    subst (λ m. weight n ≤ weight m) (sym e) (omega arith)

weight_most : (m n : ℕ) → m ≤ n → weight m ≤ weight n
weight_most m n le = let e : m + (n - m) ≡ n = omega arith in subst (λ k. weight m ≤ weight k) e (heavier m (n - m))

weights-append : (xs ys : List ℕ) → weights (xs ++ ys) ≡ weights xs + weights ys
unfolding weights
weights-append [] ys = omega arith
weights-append (x ∷ xs) ys = let h : weights (xs ++ ys) ≡ weights xs + weights ys = weights-append xs ys in omega arith

weight_one : (e : ℕ) → weights (e ∷ []) ≡ weight e
unfolding weights
weight_one e = omega arith

ends_weigh_less : (ws : List ℕ) (e : ℕ) → weights (ends_at ws e) < weight e
unfolding weight weights
ends_weigh_less ws zero = omega arith
ends_weigh_less ws (suc last) =
    let a : (node_at ws (suc last)).first ≤ last = omega arith in
    let b : (node_at ws (suc last)).second ≤ last = omega arith in
    let c : weight (node_at ws (suc last)).first ≤ weight last = weight_most (node_at ws (suc last)).first last a in
    let d : weight (node_at ws (suc last)).second ≤ weight last = weight_most (node_at ws (suc last)).second last b in
    let s : 0 < weight last = some_weight last in
    omega arith

pub turn_weighs_less : (ws ends rest next : List ℕ) (at : ℕ) → ends ≡ rest ++ at ∷ [] → next ≡ rest ++ ends_at ws at → weights next < weights ends
turn_weighs_less ws ends rest next at popped pushed =
    let a : weights ends ≡ weights rest + weights (at ∷ []) = ap weights popped ∙ weights-append rest (at ∷ []) in
    let b : weights (at ∷ []) ≡ weight at = weight_one at in
    let c : weights next ≡ weights rest + weights (ends_at ws at) = ap weights pushed ∙ weights-append rest (ends_at ws at) in
    let d : weights (ends_at ws at) < weight at = ends_weigh_less ws at in
    omega arith
