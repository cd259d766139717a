-- The writes that hand over a text, one after the other.
use Rattle.std.proofs.Common.{◌≡◌, ◌<◌, ◌≤◌, ◌+◌, ℕ, zero, suc, List, [], ◌∷◌, length, take, drop, Option, refl, sym, subst, arith}
use Rattle.std.proofs.lemmas.Grind.{common_steps}
use Rattle.std.proofs.lemmas.List.{append-nil}
use Rattle.pi_outside.specs.Taken.{Takes}
use Rattle.pi_outside.specs.Writes.{SinkWrite, ByWrites}
use Rattle.pi_outside.proofs.WriteRuns.{ByWrites-one, ByWrites-so, ByWrites-then}
use Rattle.pi_top.specs.Handing.{takes_of, failed_write, Hands, all_taken, Fails, failed}
use Rattle.pi_top.proofs.HandedTexts.{GoesOn, goes-on-more}

drop-past : (n : ℕ) (xs : List ℕ) → length xs ≤ n → drop n xs ≡ []
drop-past zero [] within = refl
drop-past zero (x ∷ xs) within = absurd (omega (arith, within))
drop-past (suc n) [] within = refl
drop-past (suc n) (x ∷ xs) within = drop-past n xs (omega (arith, within))

-- one write more, of all that is left
pub write-more : {S : Type 0} (wrote : S → SinkWrite → S → Type 0) (taken : S → Option (List ℕ)) (start before after : S) (text : List ℕ) (at count : ℕ) → 0 < count → count ≤ length (drop at text) →
    ByWrites wrote taken start before (GoesOn text (drop at text)) → wrote before (takes_of (drop at text) count) after → Takes (taken before) (take count (drop at text)) (taken after) →
    ByWrites wrote taken start after (GoesOn text (drop (at + count) text))
write-more wrote taken start before after text at count some within so_far did takes =
    let write : SinkWrite = takes_of (drop at text) count in
    ByWrites-then so_far (ByWrites-one wrote taken before after (λ writes. writes ≡ write ∷ []) write did takes refl)
    (λ first second goes is. rw is (goes-on-more text at count first some within goes))

-- it fails
pub write-fails : {S : Type 0} (wrote : S → SinkWrite → S → Type 0) (taken : S → Option (List ℕ)) (start before after : S) (text : List ℕ) (at : ℕ) → at < length text →
    ByWrites wrote taken start before (GoesOn text (drop at text)) → wrote before (failed_write (drop at text)) after → Takes (taken before) [] (taken after) →
    ByWrites wrote taken start after (Fails text)
write-fails wrote taken start before after text at less so_far did takes =
    let write : SinkWrite = failed_write (drop at text) in
    let left : 0 < length (drop at text) = grind (arith, common_steps) in
    ByWrites-then so_far (ByWrites-one wrote taken before after (λ writes. writes ≡ write ∷ []) write did takes refl)
    (λ first second goes is. rw is (goes.fails (write ∷ []) (failed (drop at text) left)))

-- nothing is left
pub write-ends : {S : Type 0} {wrote : S → SinkWrite → S → Type 0} {taken : S → Option (List ℕ)} {start after : S} (text : List ℕ) (at : ℕ) → length text ≤ at →
    ByWrites wrote taken start after (GoesOn text (drop at text)) → ByWrites wrote taken start after (Hands text)
write-ends text at all so_far =
    let nothing : drop at text ≡ [] = drop-past at text all in
    ByWrites-so so_far (λ writes goes. subst (Hands text) (append-nil writes) (goes.hands [] (subst (λ (l : List ℕ). Hands l []) (sym nothing) all_taken)))
