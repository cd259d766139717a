-- What an agent writes is right where its call and the terms of its events are Refs.
use Rattle.std.proofs.Common.{◌≡◌, ◌⊎◌, inl, inr, ⊎_elim, ℕ, zero, suc, ◌<◌, List, [], ◌∷◌, ◌++◌, length, take, slice_index, refl, sym, subst, arith}
use Rattle.pi_constraints.specs.declared.store.Ref.{Ref}
use Rattle.pi_constraints.specs.declared.event.Watch.{Watch}
use Rattle.pi_region.specs.Entry.{data_of}
use Rattle.pi_store_blocks.specs.Form.{form_of}
use Rattle.pi_store_blocks.specs.Heap.{Heap}
use Rattle.pi_store_blocks.specs.Placed.{IsRefIn, IsWordIn, WritesRight}
use Rattle.pi_store_blocks.proofs.PutLemmas.{grown}
use Rattle.pi_store_blocks.proofs.RefLemmas.{form_stays}
use Rattle.pi_store_blocks.proofs.WriteLemmas.{word_by_ref, data_word, writes_by}
use Rattle.pi_store_blocks.specs.Numbers.{first_half, second_half}
use Rattle.pi_store_blocks.specs.Events.{watch_number, watch_words}
use Rattle.pi_store_blocks.specs.Agent.{call_words, agent_words}
use Rattle.pi_store_blocks.specs.AgentTable.{AreEventsIn}

-- a Ref, or a word that says nothing
abbrev IsEither : Heap → ℕ → Type 0
IsEither h w = IsRefIn h (form_of w) ⊎ ((n : ℕ) × (w ≡ data_of n))

abbrev AreEither : Heap → List ℕ → Type 0
AreEither h ws = (k : ℕ) → k < length ws → IsEither h (slice_index ws k)

either_later : (h : Heap) (front : List ℕ) (w : ℕ) → IsEither h w → IsWordIn (record h { words = h.words ++ front }) w
either_later h front w is =
    let k : Heap = record h { words = h.words ++ front } in
    ⊎_elim
    (λ ref. word_by_ref k w (form_of w) (form_stays h k (grown h k front refl refl refl) (form_of w) ref))
    (λ data_is. subst (IsWordIn k) (sym data_is.1) (data_word k data_is.0))
    is

either_right : (h : Heap) (ws : List ℕ) → AreEither h ws → WritesRight h (h.words ++ ws)
either_right h ws are = writes_by h (h.words ++ ws) ws refl (λ k lt. either_later h (take k ws) (slice_index ws k) (are k lt))

call_either : (h : Heap) (call : Ref) (rule count : ℕ) → IsRefIn h (form_of call.number) → AreEither h (call_words call rule count)
call_either h call rule count is zero lt = inl is
call_either h call rule count is (suc zero) lt = inr (first_half rule, refl)
call_either h call rule count is (suc (suc zero)) lt = inr (second_half rule, refl)
call_either h call rule count is (suc (suc (suc zero))) lt = inr (count, refl)
call_either h call rule count is (suc (suc (suc (suc k)))) lt = absurd (omega arith)

events_either : (h : Heap) (watches : List Watch) (rest : List ℕ) → AreEventsIn h watches → AreEither h rest → AreEither h (watch_words watches ++ rest)
events_either h [] rest are more k lt = more k lt
events_either h (w ∷ ws) rest are more zero lt = inl are.0
events_either h (w ∷ ws) rest are more (suc zero) lt = inr (watch_number w, refl)
events_either h (w ∷ ws) rest are more (suc (suc k)) lt = events_either h ws rest are.1 more k (omega arith)

pub agent_right : (h : Heap) (call : Ref) (rule : ℕ) (watches : List Watch) → IsRefIn h (form_of call.number) → AreEventsIn h watches → WritesRight h (h.words ++ agent_words call rule watches)
agent_right h call rule watches is are =
    either_right h (agent_words call rule watches) (events_either h watches (call_words call rule (length watches)) are (call_either h call rule (length watches) is))
