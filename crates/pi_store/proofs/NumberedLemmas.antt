-- A name that got a number, and that terms may have from now on.
use Rattle.std.proofs.Common.{◌≡◌, inl, inr, ℕ, ◌+◌, ◌<◌, true, List, [], ◌∷◌, length, Some, slice_get, ap, sym, subst, ◌∙◌, arith, length-append}
use Rattle.std.proofs.lemmas.Option.{slice_get_within}
use Rattle.pi_region.specs.Entry.{data_of}
use Rattle.pi_region.specs.Image.{Image, appended}
use Rattle.pi_atoms.specs.Names.{HasDistinct, Gains}
use Rattle.pi_terms.proofs.GetLemmas.{get_append_left}
use Rattle.pi_store_blocks.specs.NameTable.{NameTable, is_given, names_of}
use Rattle.pi_store.specs.Changed.{IsNumbered}
use Rattle.pi_store.proofs.NameLemmas.{given_text}

abbrev Texts : Type 0
Texts = List (List ℕ)

gains_keeps : (old new : Texts) (name : List ℕ) → Gains old new name → (k : ℕ) (x : List ℕ) → slice_get old k ≡ Some x → slice_get new k ≡ Some x
gains_keeps old new name g k x e = subst (λ (texts : Texts). slice_get texts k ≡ Some x) (sym g.1) (get_append_left old g.0 k x e)

pub numbered_so : (old new : NameTable) (i j : Image) (name : List ℕ) → Gains old.texts new.texts name → ((n k : ℕ) → names_of new n k ≡ names_of old n k) → HasDistinct new.texts → j ≡ i → IsNumbered old new i j name
numbered_so old new i j name gains same distinct e = record {
  keeps = record { texts = gains_keeps old.texts new.texts name gains; same = λ n k _. same n k };
  grow = record { texts = gains_keeps old.texts new.texts name gains; given = λ n k x e. same n k ∙ e };
  distinct = λ _. distinct;
  words = inl e;
}

pub numbered_by_word : (old mid new : NameTable) (i j : Image) (name : List ℕ) (len word : ℕ) → Gains old.texts mid.texts name → ((n k : ℕ) → names_of mid n k ≡ names_of old n k) → HasDistinct mid.texts
    → new.texts ≡ mid.texts → ((n k : ℕ) → n < len → names_of new n k ≡ names_of mid n k) → ((n k : ℕ) (x : List ℕ) → names_of mid n k ≡ Some x → names_of new n k ≡ Some x) → len ≡ length j.region → word ≡ data_of 0 → j ≡ appended i (word ∷ []) → IsNumbered old new i j name
numbered_by_word old mid new i j name len word gains same distinct texts earlier stays l w e =
    let longer : length j.region ≡ length i.region + 1 = ap (λ (m : Image). length m.region) e ∙ length-append i.region (word ∷ []) in
    record {
      keeps = record {
        texts = λ k x at. ap (λ (all : Texts). slice_get all k) texts ∙ gains_keeps old.texts mid.texts name gains k x at;
        same = λ n k le. earlier n k (omega (arith, le, l, longer)) ∙ same n k;
      };
      grow = record {
        texts = λ k x at. ap (λ (all : Texts). slice_get all k) texts ∙ gains_keeps old.texts mid.texts name gains k x at;
        given = λ n k x at. stays n k x (same n k ∙ at);
      };
      distinct = λ _. subst HasDistinct (sym texts) distinct;
      words = inr (e ∙ ap (λ x. appended i (x ∷ [])) w);
    }

pub named_so : (t : NameTable) (len n number k : ℕ) (name : List ℕ) → number ≡ k → len ≡ n → is_given t len number ≡ true → slice_get t.texts k ≡ Some name → names_of t n k ≡ Some name
named_so t len n number k name same l given text = given_text t n k name (ap (λ m. is_given t m k) (sym l) ∙ (ap (is_given t len) (sym same) ∙ given)) text

pub named_then : (mid new : NameTable) (len n number k : ℕ) (name : List ℕ) → number ≡ k → len ≡ n → new.texts ≡ mid.texts → (number < length mid.texts → is_given new len number ≡ true) → slice_get mid.texts k ≡ Some name
    → names_of new n k ≡ Some name
named_then mid new len n number k name same l texts given text =
    let known : k < length mid.texts = slice_get_within mid.texts k name text in
    named_so new len n number k name same l (given (omega (arith, known, same))) (ap (λ (all : Texts). slice_get all k) texts ∙ text)
