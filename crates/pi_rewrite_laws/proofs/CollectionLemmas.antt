-- What an iterator goes over finds the slots of names that stand before the loop alone, and behind it all slots are as they were.
use Rattle.std.proofs.Common.{◌≡◌, ℕ, suc, ◌+◌, ◌≤◌, ◌<◌, Bool, true, false, cond, List, [], ◌∷◌, ◌++◌, length, refl, sym, ◌∙◌, ap, subst, arith, length-append, nat_lt}
use Rattle.std.specs.Prelude.{Option, Some, None, option_and_then, option_map, IsSome, replicate}
use Rattle.std.specs.Str.{bytes_eq}
use Rattle.std.proofs.lemmas.Bool.{ltb-false}
use Rattle.std.proofs.lemmas.Bool.Decides.{Decides-ltb}
use Rattle.pi_terms.specs.Tree.{Tree}
use Rattle.pi_terms.specs.Places.{Places, held}
use Rattle.pi_meaning.specs.OverNames.Environment.{Environment, meant}
use Rattle.pi_meaning.specs.OverNames.Texts.{Names, is_among}
use Rattle.pi_meaning.specs.OverNames.Assigning.{narrowed}
use Rattle.pi_meaning.proofs.OverNames.OtherEnvironments.{meant-narrowed}
use Rattle.pi_rewrite_spec.specs.Slots.{SlotNames, unnamed, slot_of}
use Rattle.pi_rewrite_spec.specs.Iterators.{found_by, only}
use Rattle.pi_rewrite_spec.proofs.FilledLemmas.{Extends}
use Rattle.pi_rewrite_spec.proofs.AgreeLemmas.{Room, Fixed, text_same, by, or_last, finds, slot-among, name_at, fixed-more, slot-below, Agrees, holding, is_found, found-slot, agrees-holding, held-still}
use Rattle.pi_rewrite_laws.proofs.EnterLemmas.{AllThere}
use Rattle.pi_rewrite_laws.proofs.ElementLemmas.{unnamed-none, unnamed-long}

-- ---- names that stand before

pub found-long : (finds : List ℕ → Bool) (ns : SlotNames) → length (found_by finds ns) ≡ length ns
found-long finds [] = refl
found-long finds (n ∷ ns) = ap suc (found-long finds ns)

pub only-long : (before : Names) (ns : SlotNames) → length (only before ns) ≡ length ns
only-long before ns = found-long (is_among before) ns

none-either : {A B : Type 0} (c : Bool) (f : A → B) (o : Option A) → option_map f (cond c o None) ≡ cond c (option_map f o) None
none-either true f o = refl
none-either false f o = refl

-- a name finds the slot that it has, where it is one of these
pub found-slots : (these : List ℕ → Bool) (ns : SlotNames) (name : List ℕ) → bytes_eq name unnamed ≡ false → slot_of name (found_by these ns) ≡ cond (these name) (slot_of name ns) None
unfolding slot_of
found-slots these [] name named = same (these name) None
  where
    same : (c : Bool) (o : Option ℕ) → o ≡ cond c o o
    same true o = refl
    same false o = refl
found-slots these (n ∷ ns) name named =
    ap (λ (o : Option ℕ). cond (bytes_eq name (cond (these n) n unnamed)) (Some 0) (option_map (λ k. suc k) o)) (found-slots these ns name named)
    ∙ ap (λ (o : Option ℕ). cond (bytes_eq name (cond (these n) n unnamed)) (Some 0) o) (none-either (these name) (λ k. suc k) (slot_of name ns))
    ∙ go (bytes_eq name n) refl (these n) refl
  where
    rest : Option ℕ
    rest = option_map (λ k. suc k) (slot_of name ns)

    go : (b : Bool) → bytes_eq name n ≡ b → (c : Bool) → these n ≡ c →
        cond (bytes_eq name (cond c n unnamed)) (Some 0) (cond (these name) (option_map (λ k. suc k) (slot_of name ns)) None) ≡ cond (these name) (cond b (Some 0) (option_map (λ k. suc k) (slot_of name ns))) None
    go true same true is =
        ap (λ (d : Bool). cond d (Some 0) (cond (these name) rest None)) same ∙ sym (ap (λ (d : Bool). cond d (Some 0) None) (ap these (text_same name n same) ∙ is))
    go true same false is =
        ap (λ (d : Bool). cond d (Some 0) (cond (these name) rest None)) named ∙ ap (λ (d : Bool). cond d rest None) (ap these (text_same name n same) ∙ is)
        ∙ sym (ap (λ (d : Bool). cond d (Some 0) None) (ap these (text_same name n same) ∙ is))
    go false other true is = ap (λ (d : Bool). cond d (Some 0) (cond (these name) rest None)) other
    go false other false is = ap (λ (d : Bool). cond d (Some 0) (cond (these name) rest None)) named

only-slot : (before : Names) (ns : SlotNames) (name : List ℕ) → bytes_eq name unnamed ≡ false → slot_of name (only before ns) ≡ cond (is_among before name) (slot_of name ns) None
only-slot before ns name named = found-slots (is_among before) ns name named

pub only-agrees : (before : Names) (n : Room) (h : ℕ) (ns : SlotNames) (e : Environment) (slots : Places) → Agrees n h ns e slots → Agrees (holding n (only before ns) slots) h (only before ns) (narrowed before e) slots
only-agrees before n h ns e slots a = agrees-holding n h (only before ns) (narrowed before e) slots (record {
  long = a.long;
  names = λ name named. meant-narrowed name before e ∙ go name named (is_among before name) refl;
  empty = λ k past. a.empty k (omega (arith, past, only-long before ns));
  firm = a.firm;
  fixed = λ k t is. record {
    has = (a.fixed k t is).has;
    below = omega (arith, (a.fixed k t is).below, only-long before ns);
    nameless = λ name named at. (a.fixed k t is).nameless name named (within name (is_among before name) k (sym (only-slot before ns name named) ∙ at));
  };
})
  where
    within : (name : List ℕ) (c : Bool) (k : ℕ) → cond c (slot_of name ns) None ≡ Some k → slot_of name ns ≡ Some k
    within name true k is = is
    within name false k is = absurd (cc is)

    go : (name : List ℕ) → bytes_eq name unnamed ≡ false → (c : Bool) → is_among before name ≡ c → cond c (meant name e) None ≡ finds name (only before ns) slots
    go name named true is = a.names name named ∙ sym (ap (option_and_then (held slots)) (only-slot before ns name named ∙ ap (λ (d : Bool). cond d (slot_of name ns) None) is))
    go name named false is = sym (ap (option_and_then (held slots)) (only-slot before ns name named ∙ ap (λ (d : Bool). cond d (slot_of name ns) None) is))

-- ---- and behind it

-- slots that are filled stay, and so do those that no name finds there: so all do
pub slot-still : (before : Names) (n : Room) (h : ℕ) (ns ms : SlotNames) (e f : Environment) (slots after : Places) → Agrees n h ns e slots → AllThere before e → Agrees (holding n (only before ns) slots) h ms f after → Extends slots after → (k : ℕ) → k < length ns →
    held after k ≡ held slots k
slot-still before n h ns ms e f slots after a there c extends k less = go (is_found (only before ns) k) refl
  where
    go : (b : Bool) → is_found (only before ns) k ≡ b → held after k ≡ held slots k
    go false other = held-still n h (only before ns) ms f slots after c k (omega (arith, less, only-long before ns)) other
    go true found = filled (held slots k) refl
      where
        name : List ℕ
        name = name_at (only before ns) k

        has : (bytes_eq name unnamed ≡ false) × (slot_of name (only before ns) ≡ Some k)
        has = found-slot (only before ns) k found

        both : (d : Bool) → is_among before name ≡ d → cond d (slot_of name ns) None ≡ Some k → (is_among before name ≡ true) × (slot_of name ns ≡ Some k)
        both true is at = (is, at)
        both false is at = absurd (cc at)

        at : (is_among before name ≡ true) × (slot_of name ns ≡ Some k)
        at = both (is_among before name) refl (sym (only-slot before ns name has.0) ∙ has.1)

        is-there : IsSome (held slots k)
        is-there = subst (λ (o : Option Tree). IsSome o) (a.names name has.0 ∙ ap (option_and_then (held slots)) at.1) (there name at.0 has.0)

        filled : (o : Option Tree) → held slots k ≡ o → held after k ≡ held slots k
        filled None is = absurd (cc (subst (λ (o : Option Tree). IsSome o) is is-there))
        filled (Some t) is = extends k t is ∙ sym is

-- slots that the head fills are no new ones
firm-below : (n : Room) (h : ℕ) (ns : SlotNames) (e : Environment) (slots : Places) → Agrees n h ns e slots → (k : ℕ) → k < h → k < length ns
firm-below n h ns e slots a k less = go (nat_lt k (length ns)) refl
  where
    go : (b : Bool) → nat_lt k (length ns) ≡ b → k < length ns
    go true is = (Decides-ltb k (length ns)).0 is
    go false is = absurd (cc (subst (λ (o : Option Tree). IsSome o) (a.empty k (ltb-false k (length ns) is)) (a.firm k less)))

-- where slots are added behind that no name finds
pub still-agrees : (n : Room) (h more : ℕ) (ns : SlotNames) (e : Environment) (slots after : Places) → Agrees n h ns e slots → length after ≡ n.slots → ((k : ℕ) → k < length ns → held after k ≡ held slots k) → ((k : ℕ) → length ns + more ≤ k → held after k ≡ None) →
    Agrees n h (ns ++ replicate more unnamed) e after
still-agrees n h more ns e slots after a long still empty = record {
  long = long;
  names = λ name named. a.names name named ∙ found name named (slot_of name ns) refl;
  empty = λ k past. empty k (omega (arith, past, length-append ns (replicate more unnamed), unnamed-long more));
  firm = λ k less. subst (λ (o : Option Tree). IsSome o) (sym (still k (firm-below n h ns e slots a k less))) (a.firm k less);
  fixed = λ k t is.
      let f : Fixed k t (ns ++ replicate more unnamed) slots = fixed-more k t ns (ns ++ replicate more unnamed) slots (by (replicate more unnamed)) (a.fixed k t is) in
      record { has = still k (a.fixed k t is).below ∙ f.has; below = f.below; nameless = f.nameless };
}
  where
    none : (name : List ℕ) → bytes_eq name unnamed ≡ false → (k : ℕ) → slot_of name (replicate k unnamed) ≡ None
    none name named k = unnamed-none name k named

    found : (name : List ℕ) → bytes_eq name unnamed ≡ false → (o : Option ℕ) → slot_of name ns ≡ o → option_and_then (held slots) (slot_of name ns) ≡ finds name (ns ++ replicate more unnamed) after
    found name named None at =
        ap (option_and_then (held slots)) at
        ∙ sym (ap (option_and_then (held after)) (slot-among name ns (replicate more unnamed) ∙ ap (λ (o : Option ℕ). or_last o (option_map (λ k. length ns + k) (slot_of name (replicate more unnamed)))) at
        ∙ ap (option_map (λ k. length ns + k)) (none name named more)))
    found name named (Some k) at =
        ap (option_and_then (held slots)) at ∙ sym (still k (slot-below name ns k at))
        ∙ sym (ap (option_and_then (held after)) (slot-among name ns (replicate more unnamed) ∙ ap (λ (o : Option ℕ). or_last o (option_map (λ k. length ns + k) (slot_of name (replicate more unnamed)))) at))
