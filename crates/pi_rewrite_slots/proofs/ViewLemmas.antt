-- Slots of given names, slots without names, and those that some names find.
use Rattle.std.proofs.Common.{◌≡◌, ℕ, ◌+◌, ◌-◌, ◌<◌, ◌≤◌, Bool, true, false, cond, List, [], ◌∷◌, ◌++◌, Option, Some, None, length, get_or, drop, map, sym, ◌∙◌, ap, append_assoc}
use Rattle.std.specs.Prelude.{is_some, replicate}
use Rattle.std.specs.Borrow.{Bor}
use Rattle.std.specs.Str.{bytes_eq}
use Rattle.std.proofs.lemmas.Bool.{cond-true, cond-false}
use Rattle.std.proofs.lemmas.List.{append-nil, map-append, drop_all, drop_more, replicate-append-replicate}
use Rattle.pi_meaning.specs.OverNames.Texts.{is_among}
use Rattle.pi_rewrite_spec.specs.Slots.{SlotNames, unnamed, slot_of, slot_known, slot_or_next, slot_for}
use Rattle.pi_rewrite_spec.specs.Loops.{with_values}
use Rattle.pi_rewrite_spec.specs.Iterators.{behind_collection}
use Rattle.pi_rewrite_spec.proofs.EnteredLemmas.{among-slot}
use Rattle.pi_rewrite_spec.proofs.CarriedLemmas.{values-are}
use Rattle.pi_rewrite_slots.specs.Indexed.{names_in}
use Rattle.pi_rewrite_slots.proofs.SlotLemmas.{length_names}

-- ---- the slot of an occurrence

pub known-blank : (name : List ℕ) (ns : SlotNames) → bytes_eq name unnamed ≡ true → None ≡ slot_known name ns
known-blank name ns h = sym (cond-true (bytes_eq name unnamed) None (slot_of name ns) h)

pub known-name : (name : List ℕ) (ns : SlotNames) (o : Option ℕ) → bytes_eq name unnamed ≡ false → o ≡ slot_of name ns → o ≡ slot_known name ns
known-name name ns o h is = is ∙ sym (cond-false (bytes_eq name unnamed) None (slot_of name ns) h)

pub known-for : (name : List ℕ) (ns : SlotNames) (k : ℕ) → Some k ≡ slot_known name ns → k ≡ slot_for name ns
known-for name ns k is = ap (λ o. slot_or_next o ns) is

pub next-for : (name : List ℕ) (ns : SlotNames) (k : ℕ) → None ≡ slot_known name ns → k ≡ length ns → k ≡ slot_for name ns
next-for name ns k is count = count ∙ ap (λ o. slot_or_next o ns) is

-- ---- more slots

pub names-behind : (old new more : List (Bor (List ℕ))) → new ≡ old ++ more → names_in new ≡ names_in old ++ names_in more
names-behind old new more is = ap names_in is ∙ map-append (λ (n : Bor (List ℕ)). n.now) old more

pub valued : (names : List (Bor (List ℕ))) (ns ms : SlotNames) → ms ≡ ns ++ replicate (length names) unnamed → ms ≡ with_values (names_in names) ns
valued names ns ms is = is ∙ (ap (λ (k : ℕ). ns ++ replicate k unnamed) (length_names names) ∙ sym (values-are (names_in names) ns))

pub covered : (old after : List (Bor (List ℕ))) (ms : SlotNames) (k : ℕ) → k ≡ length after - length old → ms ≡ names_in old ++ replicate k unnamed → ms ≡ behind_collection (names_in old) (names_in after)
covered old after ms k count is =
    is ∙ ap (λ (n : ℕ). names_in old ++ replicate n unnamed) (count ∙ (ap (λ (n : ℕ). n - length old) (length_names after) ∙ ap (λ (n : ℕ). length (names_in after) - n) (length_names old)))

pub record UnnamedTo (old : List (Bor (List ℕ))) (k : ℕ) (now : List (Bor (List ℕ))) : Type 0 where
  pub is : names_in now ≡ names_in old ++ replicate k unnamed

pub unnamed-none : (old : List (Bor (List ℕ))) → UnnamedTo old 0 old
unnamed-none old = record { is = sym (append-nil (names_in old)) }

replicate-last : (k : ℕ) → replicate k unnamed ++ unnamed ∷ [] ≡ replicate (k + 1) unnamed
replicate-last k = replicate-append-replicate k 1 unnamed

pub unnamed-more : (old now new : List (Bor (List ℕ))) (k : ℕ) (x : Bor (List ℕ)) → new ≡ now ++ x ∷ [] → x.now ≡ unnamed → UnnamedTo old k now → UnnamedTo old (k + 1) new
unnamed-more old now new k x put same so = record {
  is = names-behind now new (x ∷ []) put ∙ (ap (λ (n : List ℕ). names_in now ++ n ∷ []) same ∙ (ap (λ (ns : SlotNames). ns ++ unnamed ∷ []) so.is ∙ (append_assoc (names_in old) (replicate k unnamed) (unnamed ∷ []) ∙ ap (λ ns. names_in old ++ ns) (replicate-last k))));
}

-- ---- names that find their slots

-- what is made of the first few stands in front of what is to be made of the others
pub record MappedTo (f : List ℕ → List ℕ) (names : List (Bor (List ℕ))) (k : ℕ) (made : List (Bor (List ℕ))) : Type 0 where
  pub is : names_in made ++ map f (names_in (drop k names)) ≡ map f (names_in names)

pub mapped-none : (f : List ℕ → List ℕ) (names made : List (Bor (List ℕ))) → made ≡ [] → MappedTo f names 0 made
mapped-none f names made empty = record { is = ap (λ xs. names_in xs ++ map f (names_in names)) empty }

pub mapped-more : (f : List ℕ → List ℕ) (names made new : List (Bor (List ℕ))) (k : ℕ) (d y : Bor (List ℕ)) → k < length names → new ≡ made ++ y ∷ [] → y.now ≡ f (get_or names k d).now → MappedTo f names k made → MappedTo f names (k + 1) new
mapped-more f names made new k d y less put same so =
    let rest : List (List ℕ) = map f (names_in (drop (k + 1) names)) in
    record {
      is = ap (λ ns. ns ++ rest) (names-behind made new (y ∷ []) put) ∙ (ap (λ (n : List ℕ). (names_in made ++ n ∷ []) ++ rest) same ∙ (append_assoc (names_in made) (f (get_or names k d).now ∷ []) rest
          ∙ (ap (λ xs. names_in made ++ map f (names_in xs)) (sym (drop_more names k d less)) ∙ so.is)));
    }

pub mapped-all : (f : List ℕ → List ℕ) (names made : List (Bor (List ℕ))) (k : ℕ) → length names ≤ k → MappedTo f names k made → names_in made ≡ map f (names_in names)
mapped-all f names made k past so = sym (append-nil (names_in made)) ∙ (ap (λ xs. names_in made ++ map f (names_in xs)) (sym (drop_all k names past)) ∙ so.is)

-- by a test
pub among-is : (names : SlotNames) (name : List ℕ) (o : Option ℕ) (b : Bool) → o ≡ slot_of name names → b ≡ is_some o → b ≡ is_among names name
among-is names name o b at is = is ∙ (ap is_some at ∙ sym (among-slot name names))

pub found-name : (b c : Bool) (name made : List ℕ) → c ≡ b → made ≡ cond c name unnamed → made ≡ cond b name unnamed
found-name b c name made same is = is ∙ ap (λ (d : Bool). cond d name unnamed) same
