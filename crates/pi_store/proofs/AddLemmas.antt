-- What adds to lists.
use Rattle.std.proofs.lemmas.List.{get_or-set_same}
use Rattle.std.proofs.Common.{◌≡◌, ◌⊎◌, inl, inr, ℕ, suc, ◌+◌, ◌≤◌, List, [], ◌∷◌, length, Some, None, refl, ap, sym, subst, ◌∙◌, arith, length-append}
use Rattle.pi_region.specs.Image.{Image, appended, pushed, replaced}
use Rattle.pi_region.specs.Back.{Advances}
use Rattle.pi_region.specs.declared.entry.Table.{Table}
use Rattle.pi_region.proofs.BackLemmas.{from_itself, through}
use Rattle.pi_region.proofs.ChangeLemmas.{push_word, pushed_advances, replaced_advances}
use Rattle.pi_store_blocks.specs.Node.{node_of, IsListed, WritesNode}
use Rattle.pi_store_blocks.proofs.ListLemmas.{read_back, second_written, node_right, outlast}
use Rattle.pi_store_blocks.specs.NameTable.{NameTable}
use Rattle.pi_store.specs.Walk.{next_at}
use Rattle.pi_store.specs.Heads.{taken_in, list_end, Pads, none_more, one_more, SetsHead}
use Rattle.pi_store.specs.Lists.{Leads, at_once, by_next, IsOnList}
use Rattle.pi_store.specs.Sound.{IsTakenWithin, IsSound}
use Rattle.pi_store.specs.Added.{SameTables, AddsToLists, IsAddedTo, IsAddedAlong}
use Rattle.pi_store.specs.Holding.{heap_of}
use Rattle.pi_store.proofs.CompleteLemmas.{on_more, on_head, complete_head, read_first, read_zero}
use Rattle.pi_store.proofs.SoundLemmas.{sound_words, sound_pad, sound_head, has_constraints, has_lists, has_taken}
use Rattle.pi_store.proofs.KeepLemmas.{same_itself, same_then}

abbrev pub Low : Image → Type 0
Low i = i.trail ≤ length i.region

-- One after the other

pub adds_none : (i : Image) → Low i → AddsToLists i i
adds_none i low = record { advances = from_itself i low; tables = same_itself i; sound = λ t s. s; lists = λ t s v k on. on }

pub adds_then : (i j k : Image) → AddsToLists i j → AddsToLists j k → AddsToLists i k
adds_then i j k a b = record {
  advances = through i j k a.advances b.advances;
  tables = same_then i j k a.tables b.tables;
  sound = λ t s. b.sound t (a.sound t s);
  lists = λ t s v n on. b.lists t (a.sound t s) v n (a.lists t s v n on);
}

pub adds_by : (i j : Image) → Low i → j ≡ i → AddsToLists i j
adds_by i j low same = subst (AddsToLists i) (sym same) (adds_none i low)

-- Zeros

pads_low : (i : Image) → Low i → {j : Image} → Pads i j → Low j
pads_low i low none_more = low
pads_low i low (one_more {j} pads) = omega arith

pub pads_advance : (i : Image) → Low i → {j : Image} → Pads i j → Advances i j
pads_advance i low none_more = from_itself i low
pads_advance i low (one_more {j} pads) = through i j (pushed j Table.Heads 0) (pads_advance i low pads) (pushed_advances j Table.Heads 0 (pads_low i low pads))

pub tables_pads : (i : Image) {j : Image} → Pads i j → SameTables i j
tables_pads i none_more = same_itself i
tables_pads i (one_more {j} pads) =
    same_then i j (pushed j Table.Heads 0) (tables_pads i pads) (record { variables = refl; constraints = refl; agents = refl; waiting = refl; taken = read_zero j.heads 0 })

pub sound_pads : (t : NameTable) (i : Image) {j : Image} → Pads i j → IsSound t i → IsSound t j
sound_pads t i none_more s = s
sound_pads t i (one_more {j} pads) s = sound_pad t j (sound_pads t i pads s)

lists_pads : (t : NameTable) (i : Image) {j : Image} → Pads i j → IsSound t i → (v k : ℕ) → IsOnList i v k → IsOnList j v k
lists_pads t i none_more s v k on = on
lists_pads t i (one_more {j} pads) s v k on =
    on_more j (pushed j Table.Heads 0) (push_word j Table.Heads ∷ []) v k ((has_lists t j (sound_pads t i pads s)).within v) refl (read_zero j.heads (suc v)) (lists_pads t i pads s v k on)

pub adds_pads : (i j : Image) → Low i → Pads i j → AddsToLists i j
adds_pads i j low pads = record { advances = pads_advance i low pads; tables = tables_pads i pads; sound = λ t s. sound_pads t i pads s; lists = λ t s v k on. lists_pads t i pads s v k on }

-- A node

pub adds_node : (i j : Image) (number first second end : ℕ) → WritesNode i j number first second end → AddsToLists i j
adds_node i j number first second end w =
    let ws : List ℕ = node_of number first second in
    record {
      advances = w.advances;
      tables = subst (SameTables i) (sym w.words) (record { variables = refl; constraints = refl; agents = refl; waiting = refl; taken = refl });
      sound = λ t s. subst (IsSound t) (sym w.words) (sound_words t i ws (node_right (heap_of t i) number first second) s);
      lists = λ t s v k on. subst (λ (l : Image). IsOnList l v k) (sym w.words) (on_more i (appended i ws) ws v k ((has_lists t i s).within v) refl refl on);
    }

-- A number and a list, into the list of a variable

node_low : (i mid : Image) (number first second end : ℕ) → Low i → WritesNode i mid number first second end → Low mid
node_low i mid number first second end low w =
    let trail : mid.trail ≡ i.trail = ap (λ (l : Image). l.trail) w.words in
    let longer : length i.region ≤ length mid.region = w.advances.longer in
    omega arith

-- where the head is refused
pub node_refused : (i mid j : Image) (number first second end : ℕ) → Low i → WritesNode i mid number first second end → Pads mid j → AddsToLists i j
node_refused i mid j number first second end low w pads =
    adds_then i mid j (adds_node i mid number first second end w) (adds_pads mid j (node_low i mid number first second end low w) pads)

ends_pads : (i : Image) {j : Image} → Pads i j → (v : ℕ) → list_end j v ≡ list_end i v
ends_pads i none_more v = refl
ends_pads i (one_more {j} pads) v = read_zero j.heads (suc v) ∙ ends_pads i pads v

-- the list of a variable as it was is in the list that the node ends
rest_then : (t : NameTable) (i mid j : Image) (v number extra rest end : ℕ) → Low i → IsSound t i → rest ≡ list_end i v → WritesNode i mid number extra rest end → Pads mid j → (k : ℕ) → IsOnList j v k → IsListed j.region end k
rest_then t i mid j v number extra rest end low s is w pads k on =
    let a : Advances mid j = pads_advance mid (node_low i mid number extra rest end low w) pads in
    let ends : list_end j v ≡ rest = ends_pads mid pads v ∙ (ap (λ (l : Image). list_end l v) w.words ∙ sym is) in
    let within : list_end i v ≤ length i.region = (has_lists t i s).within v in
    let lower : rest ≤ length i.region = omega arith in
    let e : end ≡ length mid.region = w.end in
    let here : IsListed i.region rest k = (outlast i j rest (through i mid j w.advances a) lower k).0 (subst (λ (p : ℕ). IsListed j.region p k) ends on) in
    (outlast mid j end a (omega arith) k).1 (second_written i mid number extra rest end k w lower here)

taken_behind : (i : Image) (v w : ℕ) → taken_in (replaced i Table.Heads (suc v) w) ≡ taken_in i
taken_behind i v w = read_first i.heads v w

sound_end : (t : NameTable) (i : Image) (v w : ℕ) → w ≤ length i.region → ((k : ℕ) → IsOnList i v k → IsListed i.region w k) → IsSound t i → IsSound t (replaced i Table.Heads (suc v) w)
sound_end t i v w le more s =
    let few : taken_in i ≤ length i.waiting = has_taken t i s in
    let same : taken_in (replaced i Table.Heads (suc v) w) ≡ taken_in i = taken_behind i v w in
    let within : IsTakenWithin (replaced i Table.Heads (suc v) w) = omega arith in
    sound_head t i (suc v) w within (complete_head i v w (has_constraints t i s) (has_lists t i s) le more) s

-- the node, zeros, and the head
module _ (i mid j : Image) (v number extra rest end : ℕ) (low : Low i) (is : rest ≡ list_end i v) (w : WritesNode i mid number extra rest end) (h : SetsHead mid j (suc v) end) where
  padded_by : AddsToLists i h.mid
  padded_by = node_refused i mid h.mid number extra rest end low w h.padded

  padded_then : Advances mid h.mid
  padded_then = pads_advance mid (node_low i mid number extra rest end low w) h.padded

  end_within : end ≤ length h.mid.region
  end_within = let e : end ≡ length mid.region = w.end in let longer : length mid.region ≤ length h.mid.region = padded_then.longer in omega arith

  rest_kept : (t : NameTable) → IsSound t i → (k : ℕ) → IsOnList h.mid v k → IsListed h.mid.region end k
  rest_kept t s = rest_then t i mid h.mid v number extra rest end low s is w h.padded

  ends_there : list_end j v ≡ end
  ends_there = ap (λ (l : Image). list_end l v) h.set ∙ get_or-set_same h.mid.heads (suc v) end 0 h.there

  head_then : Advances h.mid j
  head_then = subst (Advances h.mid) (sym h.set) (replaced_advances h.mid Table.Heads (suc v) end (pads_low mid (node_low i mid number extra rest end low w) h.padded))

  pub adds_put : AddsToLists i j
  adds_put = record {
    advances = through i h.mid j padded_by.advances head_then;
    tables = same_then i h.mid j padded_by.tables (subst (SameTables h.mid) (sym h.set) (record { variables = refl; constraints = refl; agents = refl; waiting = refl; taken = taken_behind h.mid v end }));
    sound = λ t s. subst (IsSound t) (sym h.set) (sound_end t h.mid v end end_within (rest_kept t s) (padded_by.sound t s));
    lists = λ t s u k on.
        let m : IsSound t h.mid = padded_by.sound t s in
        subst (λ (l : Image). IsOnList l u k) (sym h.set) (on_head h.mid v end (has_lists t h.mid m).within end_within (rest_kept t s) u k (padded_by.lists t s u k on));
  }

  -- what its node has is in the list of the variable
  put_has : (t : NameTable) → IsSound t i → extra ≤ length i.region → (k : ℕ) → (k ≡ number) ⊎ (IsListed i.region extra k ⊎ IsListed i.region rest k) → IsOnList j v k
  put_has t s le k has =
      let within : list_end i v ≤ length i.region = (has_lists t i s).within v in
      let e : end ≡ length mid.region = w.end in
      let a : Advances mid j = through mid h.mid j padded_then head_then in
      subst (λ (p : ℕ). IsListed j.region p k) (sym ends_there) ((outlast mid j end a (omega arith) k).1 ((read_back i mid number extra rest end w le (omega arith) k).1 has))

  pub is_added : (t : NameTable) → IsSound t i → extra ≤ length i.region → IsAddedTo i j number extra v
  is_added t s le = record { number = put_has t s le number (inl refl); others = λ n l. put_has t s le n (inr (inl l)) }

-- Along a chain

-- so far: all to which the first leads have it, or the one where the walk stands leads to them
pub record Along (i j : Image) (number extra from at : ℕ) : Type 0 where
  pub adds : AddsToLists i j
  pub along : (t : NameTable) → IsSound t i → extra ≤ length i.region → (v : ℕ) → Leads i.variables from v → IsAddedTo i j number extra v ⊎ Leads i.variables at v

pub along_starts : (i : Image) (number extra from : ℕ) → Low i → Along i i number extra from from
along_starts i number extra from low = record { adds = adds_none i low; along = λ t s le v leads. inr leads }

added_then : (t : NameTable) (i j k : Image) (number extra v : ℕ) → AddsToLists j k → IsSound t j → IsAddedTo i j number extra v → IsAddedTo i k number extra v
added_then t i j k number extra v b s a = record { number = b.lists t s v number a.number; others = λ n l. b.lists t s v n (a.others n l) }

added_since : (i j k : Image) (number extra v : ℕ) → Advances i j → extra ≤ length i.region → IsAddedTo j k number extra v → IsAddedTo i k number extra v
added_since i j k number extra v a le d = record { number = d.number; others = λ n l. d.others n ((outlast i j extra a le n).1 l) }

-- a chain is at its variable, or a step is before it
ahead : (vs : List ℕ) {n v : ℕ} → Leads vs n v → (n ≡ v) ⊎ ((m : ℕ) × (next_at vs n ≡ Some m) × Leads vs m v)
ahead vs (at_once n) = inl refl
ahead vs (by_next n m e l) = inr (m, e, l)

-- the variable where it stands gets it
turned : (i j k : Image) (number extra from at : ℕ) → Along i j number extra from at → AddsToLists j k → ((t : NameTable) → IsSound t j → extra ≤ length j.region → IsAddedTo j k number extra at)
    → (t : NameTable) → IsSound t i → extra ≤ length i.region → (v : ℕ) → Leads i.variables from v → IsAddedTo i k number extra v ⊎ ((m : ℕ) × (next_at k.variables at ≡ Some m) × Leads i.variables m v)
turned i j k number extra from at a b here t s le v leads =
    let sj : IsSound t j = a.adds.sound t s in
    let longer : length i.region ≤ length j.region = a.adds.advances.longer in
    let one : IsAddedTo i k number extra at = added_since i j k number extra at a.adds.advances le (here t sj (omega arith)) in
    let vars : i.variables ≡ k.variables = sym (b.tables.variables ∙ a.adds.tables.variables) in
    elim (a.along t s le v leads) [
      | inl d ↦ inl (added_then t i j k number extra v b sj d)
      | inr l ↦ elim (ahead i.variables l) [
        | inl e ↦ inl (subst (λ (u : ℕ). IsAddedTo i k number extra u) e one)
        | inr p ↦ inr (p.0, subst (λ (vs : List ℕ). next_at vs at ≡ Some p.0) vars p.1, p.2)
      ]
    ]

pub along_turns : (i j k : Image) (number extra from at next : ℕ) → Along i j number extra from at → AddsToLists j k → ((t : NameTable) → IsSound t j → extra ≤ length j.region → IsAddedTo j k number extra at)
    → next_at k.variables at ≡ Some next → Along i k number extra from next
along_turns i j k number extra from at next a b here e = record {
  adds = adds_then i j k a.adds b;
  along = λ t s le v leads. elim (turned i j k number extra from at a b here t s le v leads) [
    | inl d ↦ inl d
    | inr p ↦ let same : p.0 ≡ next = let f : next_at k.variables at ≡ Some p.0 = p.1 in cc in inr (subst (λ (m : ℕ). Leads i.variables m v) same p.2)
  ];
}

pub along_ends : (i j k : Image) (number extra from at : ℕ) → Along i j number extra from at → AddsToLists j k → ((t : NameTable) → IsSound t j → extra ≤ length j.region → IsAddedTo j k number extra at)
    → next_at k.variables at ≡ None → IsAddedAlong i k number extra from
along_ends i j k number extra from at a b here e t s le v leads = elim (turned i j k number extra from at a b here t s le v leads) [
  | inl d ↦ d
  | inr p ↦ let f : next_at k.variables at ≡ Some p.0 = p.1 in absurd (cc)
]

-- zeros, one after another
pub pads_more : (i j k : Image) (n : ℕ) → Pads i j → length j.heads ≡ n → k ≡ pushed j Table.Heads 0 → Pads i k × (length k.heads ≡ n + 1)
pads_more i j k n pads many is = (subst (Pads i) (sym is) (one_more pads), ap (λ (l : Image). length l.heads) is ∙ (length-append j.heads (0 ∷ []) ∙ ap (λ m. m + 1) many))

pub pads_refused : (i j k : Image) → Pads i j → k ≡ j → Pads i k
pads_refused i j k pads same = subst (Pads i) (sym same) pads

pub head_advances : (i j k : Image) (place w : ℕ) → Low i → Pads i j → k ≡ replaced j Table.Heads place w → Advances i k
head_advances i j k place w low pads is = subst (Advances i) (sym is) (through i j (replaced j Table.Heads place w) (pads_advance i low pads) (replaced_advances j Table.Heads place w (pads_low i low pads)))
