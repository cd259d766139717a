-- The slot of a name, and one more.
use Rattle.std.proofs.Common.{◌≡◌, ℕ, suc, ◌+◌, ◌<◌, ◌≤◌, true, false, cond, List, [], ◌∷◌, ◌++◌, Option, Some, None, length, get_or, drop, refl, sym, ◌∙◌, ap, arith}
use Rattle.std.specs.Prelude.{option_map}
use Rattle.std.specs.Borrow.{Bor}
use Rattle.std.specs.Str.{bytes_eq}
use Rattle.std.proofs.lemmas.Bool.{cond-true, cond-false}
use Rattle.std.proofs.lemmas.List.{map-append, drop_all, drop_more, length-map}
use Rattle.pi_rewrite_spec.specs.Slots.{SlotNames, unnamed, slot_of, slot_known, slot_or_next, slots_with, slot_for, slots_for, with_value}
use Rattle.pi_rewrite_slots.specs.Indexed.{names_in}

-- ---- looking for a name

-- a place behind so many
abbrev behind : ℕ → Option ℕ → Option ℕ
behind k found = option_map (λ n. k + n) found

behind-none : (o : Option ℕ) → behind 0 o ≡ o
behind-none None = refl
behind-none (Some n) = ap Some (omega arith)

behind-more : (k : ℕ) (o : Option ℕ) → behind k (option_map (λ n. suc n) o) ≡ behind (k + 1) o
behind-more k None = refl
behind-more k (Some n) = ap Some (omega arith)

pub record SoughtTo (name : List ℕ) (names : List (Bor (List ℕ))) (k : ℕ) : Type 0 where
  pub is : slot_of name (names_in names) ≡ behind k (slot_of name (names_in (drop k names)))

pub sought-none : (name : List ℕ) (names : List (Bor (List ℕ))) → SoughtTo name names 0
sought-none name names = record { is = sym (behind-none (slot_of name (names_in names))) }

at : (name : List ℕ) (names : List (Bor (List ℕ))) (k : ℕ) (d : Bor (List ℕ)) → k < length names →
    slot_of name (names_in (drop k names)) ≡ cond (bytes_eq name (get_or names k d).now) (Some 0) (option_map (λ n. suc n) (slot_of name (names_in (drop (k + 1) names))))
unfolding slot_of
at name names k d h = ap (λ xs. slot_of name (names_in xs)) (drop_more names k d h)

pub sought-more : (name : List ℕ) (names : List (Bor (List ℕ))) (k : ℕ) (d : Bor (List ℕ)) → k < length names → bytes_eq name (get_or names k d).now ≡ false → SoughtTo name names k → SoughtTo name names (k + 1)
sought-more name names k d h other so = record {
  is = so.is ∙ (ap (behind k) (at name names k d h ∙ cond-false (bytes_eq name (get_or names k d).now) (Some 0) (option_map (λ n. suc n) (slot_of name (names_in (drop (k + 1) names)))) other)
      ∙ behind-more k (slot_of name (names_in (drop (k + 1) names))));
}

pub sought-found : (name : List ℕ) (names : List (Bor (List ℕ))) (k : ℕ) (d : Bor (List ℕ)) → k < length names → bytes_eq name (get_or names k d).now ≡ true → SoughtTo name names k → Some k ≡ slot_of name (names_in names)
sought-found name names k d h same so =
    sym (so.is ∙ (ap (behind k) (at name names k d h ∙ cond-true (bytes_eq name (get_or names k d).now) (Some 0) (option_map (λ n. suc n) (slot_of name (names_in (drop (k + 1) names)))) same) ∙ ap Some (omega arith)))

pub sought-all : (name : List ℕ) (names : List (Bor (List ℕ))) (k : ℕ) → length names ≤ k → SoughtTo name names k → None ≡ slot_of name (names_in names)
unfolding slot_of
sought-all name names k h so = sym (so.is ∙ ap (λ xs. behind k (slot_of name (names_in xs))) (drop_all k names h))

-- ---- one more name

pub pushed : (old new : List (Bor (List ℕ))) (x : Bor (List ℕ)) (name : List ℕ) → new ≡ old ++ x ∷ [] → x.now ≡ name → names_in new ≡ names_in old ++ name ∷ []
pushed old new x name e same = ap names_in e ∙ (map-append (λ (n : Bor (List ℕ)). n.now) old (x ∷ []) ∙ ap (λ (n : List ℕ). names_in old ++ n ∷ []) same)

pub length_names : (names : List (Bor (List ℕ))) → length names ≡ length (names_in names)
length_names names = sym (length-map names (λ (n : Bor (List ℕ)). n.now))

-- an occurrence of `_`, of a name that has a slot, and of one that has none

pub unnamed-for : (name : List ℕ) (ns : SlotNames) (k : ℕ) → bytes_eq name unnamed ≡ true → k ≡ length ns → k ≡ slot_for name ns
unnamed-for name ns k h e = e ∙ sym (ap (λ o. slot_or_next o ns) (cond-true (bytes_eq name unnamed) None (slot_of name ns) h))

pub unnamed-behind : (name : List ℕ) (ns m : SlotNames) → bytes_eq name unnamed ≡ true → name ≡ unnamed → m ≡ with_value ns → m ≡ slots_for name ns
unnamed-behind name ns m h same e = e ∙ (ap (λ (n : List ℕ). ns ++ n ∷ []) (sym same) ∙ sym (ap (λ o. slots_with o name ns) (cond-true (bytes_eq name unnamed) None (slot_of name ns) h)))

known : (name : List ℕ) (ns : SlotNames) (found : Option ℕ) → bytes_eq name unnamed ≡ false → found ≡ slot_of name ns → slot_known name ns ≡ found
known name ns found h e = cond-false (bytes_eq name unnamed) None (slot_of name ns) h ∙ sym e

pub found-for : (name : List ℕ) (ns : SlotNames) (k : ℕ) → bytes_eq name unnamed ≡ false → Some k ≡ slot_of name ns → k ≡ slot_for name ns
found-for name ns k h e = sym (ap (λ o. slot_or_next o ns) (known name ns (Some k) h e))

pub found-behind : (name : List ℕ) (ns m : SlotNames) (k : ℕ) → bytes_eq name unnamed ≡ false → Some k ≡ slot_of name ns → m ≡ ns → m ≡ slots_for name ns
found-behind name ns m k h e same = same ∙ sym (ap (λ o. slots_with o name ns) (known name ns (Some k) h e))

pub new-for : (name : List ℕ) (ns : SlotNames) (k : ℕ) → bytes_eq name unnamed ≡ false → None ≡ slot_of name ns → k ≡ length ns → k ≡ slot_for name ns
new-for name ns k h e count = count ∙ sym (ap (λ o. slot_or_next o ns) (known name ns None h e))

pub new-behind : (name : List ℕ) (ns m : SlotNames) → bytes_eq name unnamed ≡ false → None ≡ slot_of name ns → m ≡ ns ++ name ∷ [] → m ≡ slots_for name ns
new-behind name ns m h e put = put ∙ sym (ap (λ o. slots_with o name ns) (known name ns None h e))
