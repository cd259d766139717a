-- Words of a later moment, where there may be more names by then.
use Rattle.std.proofs.Common.{Box, Global, ◌≡◌, ℕ, ◌≤◌, nat_le, true, ⊎_elim, List, [], length, get_or, Some, None, option_map, slice_get, refl, ap, sym, subst, ◌∙◌, arith, append-nil}
use Rattle.std.proofs.lemmas.Bool.{cases_lt}
use Rattle.pi_terms.specs.ListNames.{cell_name}
use Rattle.pi_terms.proofs.OptionLemmas.{same-some}
use Rattle.pi_constraints.specs.Store.{Beside, Changes, KeepsBeside, BringsBack, IsGood, AreNames}
use Rattle.pi_region.specs.Image.{Image}
use Rattle.pi_region.specs.Back.{at_length, Advances}
use Rattle.pi_region.specs.declared.entry.Table.{Table}
use Rattle.pi_region.proofs.BackLemmas.{from_itself}
use Rattle.pi_atoms.specs.Names.{HasDistinct}
use Rattle.pi_store_blocks.specs.Heap.{Grows}
use Rattle.pi_store_blocks.specs.Right.{HasMoreNames}
use Rattle.pi_store_blocks.specs.NameTable.{NameTable, names_of}
use Rattle.pi_store_blocks.specs.ConstraintTable.{IsConstraintIn}
use Rattle.pi_store_blocks.specs.AgentTable.{IsAgentIn}
use Rattle.pi_store_blocks.proofs.ConstraintTables.{constraint_stays}
use Rattle.pi_store_blocks.proofs.AgentTables.{agent_stays}
use Rattle.pi_store_blocks.proofs.PastLemmas.{now_is, past_end, advances_past}
use Rattle.pi_store_blocks.proofs.KeptLemmas as kept
use Rattle.pi_store_blocks.proofs.TermRightLemmas as right
use Rattle.pi_store_blocks.proofs.BoundLemmas as bound
use Rattle.pi_store.specs.Held.{Holding}
use Rattle.pi_store.specs.declared.mark.KeptStore.{KeptStore}
use Rattle.pi_store.specs.declared.mark.RawMark.{RawMark}
use Rattle.pi_store.specs.Holding.{words_of, heap_of, state_of, moment_of, beside_in, view_of, seen, order}
use Rattle.pi_store.specs.Sound.{IsSound}
use Rattle.pi_store.specs.Waiting.{IsWaitingIn}
use Rattle.pi_store.proofs.SoundLemmas.{waiting_stays}
use Rattle.pi_store.proofs.NameLemmas.{keeps_itself}
use Rattle.pi_store.proofs.KeepLemmas.{same_states, parts_stay, same_parts, keeps_all}

-- images with the same words are the same
pub same_image : (i j : Image) → words_of i ≡ words_of j → i ≡ j
same_image i j e =
    let part : (k : ℕ) → get_or (words_of i) k [] ≡ get_or (words_of j) k [] = λ k. ap (λ ws. get_or ws k []) e in
    let trail : i.trail ≡ j.trail = ap (λ (ws : List ℕ). get_or ws 0 0) (part 1) in
    λ x. record { region = part 0 x; trail = trail x; variables = part 2 x; constraints = part 3 x; agents = part 4 x; waiting = part 5 x; heads = part 6 x }

-- terms of a region of each length may have by the second table all names that they may have by the first
abbrev pub HasAll : NameTable → NameTable → Type 0
HasAll t u = (n k : ℕ) (name : List ℕ) → names_of t n k ≡ Some name → names_of u n k ≡ Some name

-- what is sound is so under such names
pub sound_more : (t u : NameTable) (i : Image) → HasAll t u → slice_get u.texts 0 ≡ Some cell_name → HasDistinct u.texts → IsSound t i → IsSound u i
sound_more t u i all cells distinct s =
    let more : HasMoreNames (names_of t) (names_of u) (length i.region) = λ n k text le e. all n k text e in
    record {
      cells = cells;
      distinct = distinct;
      right = right.by_names (names_of t) (names_of u) i more s.right;
      bound = bound.by_names (names_of t) (names_of u) i more s.bound;
      constraints = kept.by_names IsConstraintIn constraint_stays Table.Constraints (names_of t) (names_of u) i more s.constraints;
      agents = kept.by_names IsAgentIn agent_stays Table.Agents (names_of t) (names_of u) i more s.agents;
      waiting = kept.by_names IsWaitingIn waiting_stays Table.Waiting (names_of t) (names_of u) i more s.waiting;
      taken = s.taken;
      lists = s.lists;
    }

-- and says the same state
pub state_more : (t u : NameTable) (i : Image) → HasAll t u → IsSound t i → state_of (heap_of u i) i ≡ state_of (heap_of t i) i
state_more t u i all s =
    let grows : Grows (heap_of t i) (heap_of u i) = record { names = λ k name e. all (length i.region) k name e; next = omega arith; words = ([], sym (append-nil i.region)) } in
    let p = same_parts (heap_of t i) (heap_of u i) i i (parts_stay t u i i s grows) in
    same_states _ _ (p.variables refl) (p.constraints refl) (p.agents refl) (p.waiting refl refl)

-- an image leads back to what it was at each length
leads_back : (len : ℕ) (i : Image) → i.trail ≤ length i.region → Advances (at_length len i) i
leads_back len i low = ⊎_elim
    (λ large. subst (λ j. Advances j i) (sym (past_end len i (omega arith) (omega arith))) (from_itself i low))
    (λ small. subst (Advances (at_length len i)) (now_is i low) (advances_past i len (length i.region) small (omega arith)))
    (cases_lt (length i.region) len)

-- the words of a sound image in the place of those that it had at a length
pub put_back : (t u : NameTable) (i k : Image) (len : ℕ) → HasAll t u → IsSound t k → words_of (at_length len k) ≡ words_of i → Changes (view_of u i) (view_of u k) (state_of (heap_of t k) k)
put_back t u i k len all s from = record {
  keeps = keeps_all u u i k (keeps_itself u (length i.region)) (subst (λ j. Advances j k) (same_image (at_length len k) i from) (leads_back len k s.right.trail));
  state = state_more t u k all s;
}

-- a mark of the same length with a copy of the store beside, and a number
pub keeps_beside : (s : Holding) (m kept : RawMark) (k : Box KeptStore Global) (number : ℕ) → kept.length ≡ m.length → kept.beside ≡ Some k → k.value ≡ record { store = s; number = number } → IsGood (seen s) m → KeepsBeside order (seen s) m kept number
keeps_beside s m kept k number same is copy good =
    let x : KeptStore = record { store = s; number = number } in
    let holds : (seen s).beside kept ≡ Some (beside_in kept.length x) = ap (option_map (λ b. beside_in kept.length b.value)) is ∙ ap (λ y. Some (beside_in kept.length y)) copy in
    record {
      order_is = same;
      good = subst (λ n. nat_le n (length s.image.region) ≡ true) (sym same) good;
      same = ap (λ n. moment_of s.names (at_length n s.image)) same;
      beside = beside_in kept.length x;
      is_beside = holds;
      state = refl;
      number_is = refl;
      stands = λ b e. subst (λ (y : Beside). (y.from ≡ words_of (at_length kept.length s.image)) × AreNames (seen s) y.names) (same-some (sym holds ∙ e)) (refl, λ n name f. f);
    }

-- the number of what a mark has beside
pub number_of_beside : (s : Holding) (m : RawMark) (k : Box KeptStore Global) (x : KeptStore) → m.beside ≡ Some k → x ≡ k.value → Some x.number ≡ option_map (λ b. b.number) ((seen s).beside m)
number_of_beside s m k x is same =
    ap (λ (y : KeptStore). Some y.number) same ∙ sym (ap (λ o. option_map (λ (b : Beside). b.number) (option_map (λ b. beside_in m.length b.value) o)) is)

pub number_of_nothing : (s : Holding) (m : RawMark) → m.beside ≡ None → None ≡ option_map (λ b. b.number) ((seen s).beside m)
number_of_nothing s m is = sym (ap (λ o. option_map (λ (b : Beside). b.number) (option_map (λ b. beside_in m.length b.value) o)) is)

-- what a mark has beside is brought back
pub brings_back : (s u : Holding) (m : RawMark) (k : Box KeptStore Global) (x : KeptStore) → m.beside ≡ Some k → x ≡ k.value → ((len : ℕ) → words_of (at_length len x.store.image) ≡ words_of s.image → Changes (seen s) (seen u) (seen x.store).now.state) → BringsBack (seen s) (seen u) m
brings_back s u m k x is same put = λ b e from names.
    let holds : (seen s).beside m ≡ Some (beside_in m.length x) = ap (option_map (λ y. beside_in m.length y.value)) is ∙ ap (λ y. Some (beside_in m.length y)) (sym same) in
    subst (λ (y : Beside). y.from ≡ words_of s.image → Changes (seen s) (seen u) y.state) (same-some (sym holds ∙ e)) (put m.length) from

-- where it has nothing, nothing is asked for
pub nothing_beside : (s u : Holding) (m : RawMark) → m.beside ≡ None → BringsBack (seen s) (seen u) m
nothing_beside s u m is = λ b e from names.
    let no : None ≡ Some b = sym (ap (option_map (λ k. beside_in m.length k.value)) is) ∙ e in
    absurd (cc)
