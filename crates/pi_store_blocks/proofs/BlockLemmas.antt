-- Blocks read back, and stay behind what follows.
use Rattle.std.proofs.Common.{◌≡◌, ℕ, zero, suc, ◌+◌, ◌-◌, ◌/◌, ◌%◌, ◌<◌, ◌≤◌, List, [], ◌∷◌, ◌++◌, length, map, take, drop, slice_index, refl, ap, sym, subst, ◌∙◌, arith, length-append, append_assoc, append-nil}
use Rattle.std.proofs.lemmas.List.{get_or-take, get_or-append-add, get_or-append_right, take-take, drop-take, take_at, drop_at, length-map, map-append, drop_more}
use Rattle.std.proofs.lemmas.Nat.{mod-mul-add}
use Rattle.pi_region.specs.Entry.{data_of, value_of}
use Rattle.pi_region.specs.Image.{Image, appended}
use Rattle.pi_region.specs.Back.{Advances, at_length}
use Rattle.pi_region.proofs.EntryLemmas.{value_of-data_of}
use Rattle.pi_region.proofs.BackLemmas.{region_back, restored}
use Rattle.pi_region.proofs.ChangeLemmas.{appended_advances}
use Rattle.pi_store_blocks.specs.Form.{form_with, header_with}
use Rattle.pi_store_blocks.specs.Heap.{Heap, Appends}
use Rattle.pi_store_blocks.specs.Placed.{IsWordIn, IsWordOf, IsHeaderIn}
use Rattle.pi_store_blocks.specs.Block.{block_of, numbers_in, block_closed_at, block_at, IsBefore, Writes, BlocksReadBack, BlocksOutlast, BlocksComeBack, BlocksSayNothing}

abbrev Numbers : Type 0
Numbers = List ℕ

-- words that stand within a length are read the same in the region cut to it
numbers_in_cut : (len start count : ℕ) (ws : Numbers) → start + count ≤ len → numbers_in (take len ws) start count ≡ numbers_in ws start count
numbers_in_cut len start count ws le =
    let m : ℕ = len - start in
    let whole : len ≡ start + m = omega arith in
    let within : count ≤ m = omega arith in
    ap (λ l. map value_of (take count (drop start (take l ws)))) whole
    ∙ (ap (λ l. map value_of (take count l)) (drop-take start m ws)
    ∙ ap (map value_of) (take-take count m (drop start ws) within))

closed_in_cut : (len last : ℕ) (ws : Numbers) → suc last ≤ len → block_closed_at (take len ws) last ≡ block_closed_at ws last
closed_in_cut len last ws le =
    let start : ℕ = last - value_of (slice_index ws last) in
    let within : start + (last - start) ≤ len = omega arith in
    ap (λ w. numbers_in (take len ws) (last - value_of w) (last - (last - value_of w))) (get_or-take len ws last 0 (omega arith))
    ∙ numbers_in_cut len start (last - start) ws within

in_cut : (len end : ℕ) (ws : Numbers) → end ≤ len → block_at (take len ws) end ≡ block_at ws end
in_cut len zero ws le = refl
in_cut len (suc last) ws le = closed_in_cut len last ws le

-- and where there are more words behind them
pub in_more : (ws more : Numbers) (end : ℕ) → end ≤ length ws → block_at (ws ++ more) end ≡ block_at ws end
in_more ws more end le = sym (in_cut (length ws) end (ws ++ more) le) ∙ ap (λ l. block_at l end) (take_at ws more (length ws) refl)

pub come_back : BlocksComeBack
come_back len end i le within = ap (λ ws. block_at (take len ws) end) (region_back len i) ∙ in_cut len end i.region le

pub outlast : BlocksOutlast
outlast old new end a le =
    let longer : length old.region ≤ length new.region = a.longer in
    sym (come_back (length old.region) end new le (omega arith)) ∙ ap (λ (i : Image). block_at i.region end) a.back

values_back : (numbers : Numbers) → map value_of (map data_of numbers) ≡ numbers
values_back [] = refl
values_back (v ∷ vs) = ap (λ w. w ∷ map value_of (map data_of vs)) (value_of-data_of v) ∙ ap (λ l. v ∷ l) (values_back vs)

closing_word : (ws numbers : Numbers) → slice_index (ws ++ block_of numbers) (length ws + length numbers) ≡ data_of (length numbers)
closing_word ws numbers =
    let n : ℕ = length numbers in
    let none : n - n ≡ 0 = omega arith in
    get_or-append-add ws (block_of numbers) n 0
    ∙ (get_or-append_right (map data_of numbers) (data_of n ∷ []) n n 0 (length-map numbers data_of) (omega arith)
    ∙ ap (slice_index (data_of n ∷ [])) none)

numbers_written : (ws numbers : Numbers) → numbers_in (ws ++ block_of numbers) (length ws) (length numbers) ≡ numbers
numbers_written ws numbers =
    ap (λ l. map value_of (take (length numbers) l)) (drop_at ws (block_of numbers) (length ws) refl)
    ∙ (ap (map value_of) (take_at (map data_of numbers) (data_of (length numbers) ∷ []) (length numbers) (length-map numbers data_of))
    ∙ values_back numbers)

closed_back : (ws numbers : Numbers) → block_closed_at (ws ++ block_of numbers) (length ws + length numbers) ≡ numbers
closed_back ws numbers =
    let all : Numbers = ws ++ block_of numbers in
    let n : ℕ = length numbers in
    let last : ℕ = length ws + n in
    let begins : last - n ≡ length ws = omega arith in
    let many : last - length ws ≡ n = omega arith in
    ap (λ w. numbers_in all (last - value_of w) (last - (last - value_of w))) (closing_word ws numbers)
    ∙ (ap (λ k. numbers_in all (last - k) (last - (last - k))) (value_of-data_of n)
    ∙ (ap (λ s. numbers_in all s (last - s)) begins
    ∙ (ap (numbers_in all (length ws)) many
    ∙ numbers_written ws numbers)))

pub read_back : BlocksReadBack
read_back old new numbers end w =
    let region : new.region ≡ old.region ++ block_of numbers = ap (λ (i : Image). i.region) w.words in
    let many : length (block_of numbers) ≡ length numbers + 1 = length-append (map data_of numbers) (data_of (length numbers) ∷ []) ∙ ap (λ k. k + 1) (length-map numbers data_of) in
    let all : length (old.region ++ block_of numbers) ≡ length old.region + length (block_of numbers) = length-append old.region (block_of numbers) in
    let ends : end ≡ length (old.region ++ block_of numbers) = w.end ∙ ap length region in
    let last : end ≡ suc (length old.region + length numbers) = omega arith in
    ap (block_at new.region) last ∙ (ap (λ l. block_closed_at l (length old.region + length numbers)) region ∙ closed_back old.region numbers)

data_says_nothing : (h : Heap) (w : ℕ) → w % 32 ≡ 7 → IsWordIn h w
data_says_nothing h w e =
    let tag : w % 8 ≡ 7 = omega arith in
    subst (λ t. IsWordOf h w (form_with t (w / 8))) (sym tag) (subst (λ k. IsHeaderIn h (header_with k (w / 32))) (sym e) tt)

says_nothing : (numbers : Numbers) (count n : ℕ) → n < length (map data_of numbers ++ data_of count ∷ []) → slice_index (map data_of numbers ++ data_of count ∷ []) n % 32 ≡ 7
says_nothing [] count zero lt = mod-mul-add count 32 7 (omega arith)
says_nothing [] count (suc n) lt = absurd (omega arith)
says_nothing (v ∷ vs) count zero lt = mod-mul-add v 32 7 (omega arith)
says_nothing (v ∷ vs) count (suc n) lt = says_nothing vs count n (omega arith)

pub say_nothing : BlocksSayNothing
say_nothing h numbers n lt = data_says_nothing h (slice_index (block_of numbers) n) (says_nothing numbers (length numbers) n lt)

-- words that were only added to are brought back by the length that they had
pub gone : (before old new : Image) (start : ℕ) → IsBefore before start → Appends before old → new ≡ at_length start old → new ≡ before
gone before old new start b a e =
    let added : Advances before old = subst (Advances before) (sym a.1) (appended_advances before a.0 b.trail) in
    e ∙ restored start before old added b.at

-- the numbers of a block, and then how many they are
pub closes : (before old new : Image) (numbers : Numbers) (start count end : ℕ) → IsBefore before start → old ≡ appended before (map data_of numbers)
    → count ≡ length old.region - start → new ≡ appended old (data_of count ∷ []) → end ≡ length new.region → Writes before new numbers end
closes before old new numbers start count end b o c n e =
    let at : start ≡ length before.region = b.at in
    let many : length old.region ≡ length before.region + length numbers = ap (λ (i : Image). length i.region) o ∙ (length-append before.region (map data_of numbers) ∙ ap (λ k. length before.region + k) (length-map numbers data_of)) in
    let counted : count ≡ length numbers = omega arith in
    let all : new ≡ appended before (block_of numbers) =
    n ∙ (ap (λ (i : Image). appended i (data_of count ∷ [])) o ∙ (ap (λ k. appended (appended before (map data_of numbers)) (data_of k ∷ [])) counted
    ∙ ap (λ r. record before { region = r }) (append_assoc before.region (map data_of numbers) (data_of (length numbers) ∷ [])))) in
    record {
      words = all;
      end = e;
      advances = subst (Advances before) (sym all) (appended_advances before (block_of numbers) b.trail);
    }

-- numbers that are appended one after the other
pub appended_more : (before : Image) (ns ms : Numbers) → appended (appended before (map data_of ns)) (map data_of ms) ≡ appended before (map data_of (ns ++ ms))
appended_more before ns ms =
    ap (λ r. record before { region = r }) (append_assoc before.region (map data_of ns) (map data_of ms) ∙ ap (λ l. before.region ++ l) (sym (map-append data_of ns ms)))

pub appended_then : (before old new : Image) (ns ms : Numbers) → old ≡ appended before (map data_of ns) → new ≡ appended old (map data_of ms) → new ≡ appended before (map data_of (ns ++ ms))
appended_then before old new ns ms o n = n ∙ (ap (λ (i : Image). appended i (map data_of ms)) o ∙ appended_more before ns ms)

pub appended_none : (before : Image) → before ≡ appended before (map data_of [])
appended_none before = ap (λ r. record before { region = r }) (sym (append-nil before.region))

pub only_appends : (before new : Image) (ns : Numbers) → new ≡ appended before (map data_of ns) → Appends before new
only_appends before new ns e = (map data_of ns, e)

-- two numbers that stand together
pub drop_two : (ns : Numbers) (n : ℕ) → n + 1 < length ns → drop n ns ≡ slice_index ns n ∷ slice_index ns (n + 1) ∷ drop (n + 2) ns
drop_two ns n lt =
    let last : n + 1 + 1 ≡ n + 2 = omega arith in
    drop_more ns n 0 (omega arith) ∙ (ap (λ l. slice_index ns n ∷ l) (drop_more ns (n + 1) 0 lt) ∙ ap (λ k. slice_index ns n ∷ slice_index ns (n + 1) ∷ drop k ns) last)

-- what only appends to words that were appended to
pub appends_then : (before old new : Image) (ws : Numbers) → old ≡ appended before ws → Appends old new → Appends before new
appends_then before old new ws o a =
    (ws ++ a.0, a.1 ∙ (ap (λ (i : Image). appended i a.0) o ∙ ap (λ r. record before { region = r }) (append_assoc before.region ws a.0)))
