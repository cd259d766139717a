-- Agents read back, and stay behind what follows.
use Rattle.std.proofs.Common.{◌≡◌, ℕ, ◌+◌, ◌-◌, ◌*◌, ◌^◌, ◌<◌, ◌≤◌, min, List, ◌++◌, length, take, drop, refl, ap, sym, subst, ◌∙◌, arith, length-append, append_assoc}
use Rattle.std.specs.Prelude.{slice_index}
use Rattle.std.proofs.lemmas.List.{get_or-take, get_or-append-add, take-take, take_at, drop_at, length-take}
use Rattle.pi_constraints.specs.declared.store.Ref.{Ref}
use Rattle.pi_constraints.specs.declared.event.Watch.{Watch}
use Rattle.pi_region.specs.Entry.{data_of, value_of}
use Rattle.pi_region.specs.Image.{Image, appended}
use Rattle.pi_region.specs.Back.{Advances}
use Rattle.pi_region.proofs.EntryLemmas.{value_of-data_of}
use Rattle.pi_region.proofs.BackLemmas.{region_back}
use Rattle.pi_region.proofs.ChangeLemmas.{appended_advances}
use Rattle.pi_store_blocks.specs.Block.{IsBefore}
use Rattle.pi_store_blocks.specs.Numbers.{first_half, second_half, whole}
use Rattle.pi_store_blocks.proofs.NumberLemmas.{halves_whole}
use Rattle.pi_store_blocks.specs.Events.{watch_words, watches_of, HaveSlots}
use Rattle.pi_store_blocks.specs.Agent.{call_words, agent_words, WritesAgent, call_at, rule_at, watches_at, IsAgentAt, AgentsReadBack, AgentsOutlast}
use Rattle.pi_store_blocks.proofs.EventLemmas.{watches_back, length_words}

abbrev Words : Type 0
Words = List ℕ

-- the words that are read lie below the end, so they are the same in the region cut behind it
abbrev watches_with : Words → ℕ → ℕ → List Watch
watches_with words last count = watches_of (drop (last - 2 * value_of count) (take last words))

word_cut : (len k : ℕ) (ws : Words) → k < len → slice_index (take len ws) k ≡ slice_index ws k
word_cut len k ws lt = get_or-take len ws k 0 lt

call_cut : (len end : ℕ) (ws : Words) → 0 < end → end ≤ len → call_at (take len ws) end ≡ call_at ws end
call_cut len end ws some le = ap (λ n. record { number = n }) (word_cut len (end - 4) ws (omega arith))

rule_cut : (len end : ℕ) (ws : Words) → 0 < end → end ≤ len → rule_at (take len ws) end ≡ rule_at ws end
rule_cut len end ws some le =
    ap (λ n. whole (value_of n) (value_of (slice_index (take len ws) (end - 2)))) (word_cut len (end - 3) ws (omega arith))
    ∙ ap (λ n. whole (value_of (slice_index ws (end - 3))) (value_of n)) (word_cut len (end - 2) ws (omega arith))

watches_cut : (len end : ℕ) (ws : Words) → 0 < end → end ≤ len → len ≤ length ws → watches_at (take len ws) end ≡ watches_at ws end
watches_cut len end ws some le within =
    let many : length (take len ws) ≡ min len (length ws) = length-take len ws in
    let last : ℕ = min (end - 4) (length ws) in
    let same : min (end - 4) (length (take len ws)) ≡ last = omega arith in
    let short : last ≤ len = omega arith in
    ap (λ l. watches_with (take len ws) l (slice_index (take len ws) (end - 1))) same
    ∙ (ap (λ l. watches_of (drop (last - 2 * value_of (slice_index (take len ws) (end - 1))) l)) (take-take last len ws short)
    ∙ ap (watches_with ws last) (word_cut len (end - 1) ws (omega arith)))

pub outlast : AgentsOutlast
outlast old new end a some le =
    let len : ℕ = length old.region in
    let longer : len ≤ length new.region = a.longer in
    let cut : take len new.region ≡ old.region = ap (take len) (sym (region_back len new)) ∙ ap (λ (i : Image). i.region) a.back in
    record {
      call = sym (call_cut len end new.region some le) ∙ ap (λ l. call_at l end) cut;
      rule = sym (rule_cut len end new.region some le) ∙ ap (λ l. rule_at l end) cut;
      watches = sym (watches_cut len end new.region some le longer) ∙ ap (λ l. watches_at l end) cut;
    }

-- and where there are more words behind them
pub in_more : (ws more : Words) (end : ℕ) → 0 < end → end ≤ length ws → IsAgentAt (ws ++ more) end (call_at ws end) (rule_at ws end) (watches_at ws end)
in_more ws more end some le =
    let all : Words = ws ++ more in
    let len : ℕ = length ws in
    let cut : take len all ≡ ws = take_at ws more len refl in
    let longer : len ≤ length all = omega (arith, length-append ws more) in
    record {
      call = sym (call_cut len end all some le) ∙ ap (λ l. call_at l end) cut;
      rule = sym (rule_cut len end all some le) ∙ ap (λ l. rule_at l end) cut;
      watches = sym (watches_cut len end all some le longer) ∙ ap (λ l. watches_at l end) cut;
    }

-- the words behind the events
word_in : (ws vs : Words) (n k : ℕ) → n ≡ length ws + k → slice_index (ws ++ vs) n ≡ slice_index vs k
word_in ws vs n k e = ap (slice_index (ws ++ vs)) e ∙ get_or-append-add ws vs k 0

rule_back : (call : Ref) (rule count : ℕ) (front : Words) (end : ℕ) → rule < 2 ^ 64 → end ≡ length front + 4 → rule_at (front ++ call_words call rule count) end ≡ rule
rule_back call rule count front end small e =
    let behind : Words = call_words call rule count in
    let all : Words = front ++ behind in
    let one : end - 3 ≡ length front + 1 = omega arith in
    let two : end - 2 ≡ length front + 2 = omega arith in
    ap (λ n. whole (value_of n) (value_of (slice_index all (end - 2)))) (word_in front behind (end - 3) 1 one)
    ∙ (ap (λ n. whole (value_of (data_of (first_half rule))) (value_of n)) (word_in front behind (end - 2) 2 two)
    ∙ (ap (λ n. whole n (value_of (data_of (second_half rule)))) (value_of-data_of (first_half rule))
    ∙ (ap (λ n. whole (first_half rule) n) (value_of-data_of (second_half rule))
    ∙ halves_whole rule small)))

events_back : (ws : Words) (call : Ref) (rule : ℕ) (watches : List Watch) (end : ℕ) → HaveSlots watches → end ≡ length ws + length (watch_words watches) + 4
    → watches_at ((ws ++ watch_words watches) ++ call_words call rule (length watches)) end ≡ watches
events_back ws call rule watches end slots e =
    let front : Words = ws ++ watch_words watches in
    let behind : Words = call_words call rule (length watches) in
    let all : Words = front ++ behind in
    let fronts : length front ≡ length ws + length (watch_words watches) = length-append ws (watch_words watches) in
    let alls : length all ≡ length front + 4 = length-append front behind in
    let many : length (watch_words watches) ≡ 2 * length watches = length_words watches in
    let last : min (end - 4) (length all) ≡ length front = omega arith in
    let closing : end - 1 ≡ length front + 3 = omega arith in
    let start : length front - 2 * length watches ≡ length ws = omega arith in
    ap (λ l. watches_with all l (slice_index all (end - 1))) last
    ∙ (ap (watches_with all (length front)) (word_in front behind (end - 1) 3 closing)
    ∙ (ap (λ n. watches_of (drop (length front - 2 * n) (take (length front) all))) (value_of-data_of (length watches))
    ∙ (ap (λ n. watches_of (drop n (take (length front) all))) start
    ∙ (ap (λ l. watches_of (drop (length ws) l)) (take_at front behind (length front) refl)
    ∙ (ap watches_of (drop_at ws (watch_words watches) (length ws) refl)
    ∙ watches_back watches slots)))))

pub read_back : AgentsReadBack
read_back old new call rule watches end w =
    let front : Words = old.region ++ watch_words watches in
    let behind : Words = call_words call rule (length watches) in
    let region : new.region ≡ front ++ behind = ap (λ (i : Image). i.region) w.words ∙ sym (append_assoc old.region (watch_words watches) behind) in
    let fronts : length front ≡ length old.region + length (watch_words watches) = length-append old.region (watch_words watches) in
    let alls : length (front ++ behind) ≡ length front + 4 = length-append front behind in
    let ends : end ≡ length (front ++ behind) = w.end ∙ ap length region in
    let first : end - 4 ≡ length front + 0 = omega arith in
    record {
      call = ap (λ l. call_at l end) region ∙ ap (λ n. record { number = n }) (word_in front behind (end - 4) 0 first);
      rule = ap (λ l. rule_at l end) region ∙ rule_back call rule (length watches) front end w.small (omega arith);
      watches = ap (λ l. watches_at l end) region ∙ events_back old.region call rule watches end w.slots (omega arith);
    }

-- the words of an agent behind what there was
pub written : (before new : Image) (call : Ref) (rule : ℕ) (watches : List Watch) (start end : ℕ) → IsBefore before start → rule < 2 ^ 64 → HaveSlots watches
    → new ≡ appended before (agent_words call rule watches) → end ≡ length new.region → WritesAgent before new call rule watches end
written before new call rule watches start end b small slots n e = record {
  words = n;
  end = e;
  small = small;
  slots = slots;
  advances = subst (Advances before) (sym n) (appended_advances before (agent_words call rule watches) b.trail);
}
