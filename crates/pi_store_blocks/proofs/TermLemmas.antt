-- Terms of sums as numbers.
use Rattle.std.proofs.Common.{◌≡◌, inl, inr, ℕ, suc, ◌+◌, ◌*◌, ◌%◌, ◌^◌, ◌<◌, ◌≤◌, List, [], ◌∷◌, ◌++◌, length, take, drop, map, ℤ, pos, negsuc, nat_abs, refl, ap, sym, ◌∙◌, arith, append_assoc, append-nil}
use Rattle.std.proofs.Math.ListN.{get_or}
use Rattle.std.proofs.lemmas.List.{take_more, length-drop}
use Rattle.pi_constraints.specs.Constraint.{IsSum, SumHasVariable}
use Rattle.pi_region.specs.Entry.{data_of}
use Rattle.pi_region.specs.Image.{Image, appended}
use Rattle.pi_store_blocks.specs.Numbers.{IsMovable, moved_up, moved_down}
use Rattle.pi_store_blocks.proofs.NumberLemmas.{moved_back}
use Rattle.pi_store_blocks.proofs.BlockLemmas.{appended_then, drop_two}
use Rattle.pi_store_blocks.specs.Terms.{term_numbers, terms_of, term_at}

abbrev Terms : Type 0
Terms = List (ℤ × ℕ)

narrow : (z : ℤ) → nat_abs z ≤ 2 ^ 40 → IsMovable z
narrow (pos n) h = omega arith
narrow (negsuc n) h = omega arith

term_back : (c : ℤ) (n : ℕ) (rest : Terms) → IsMovable c → n < 2 ^ 58 → (moved_down (moved_up c), n % 2 ^ 59) ∷ rest ≡ (c, n) ∷ rest
term_back c n rest m lt =
    let same : n % 2 ^ 59 ≡ n = omega arith in
    ap (λ (x : ℤ). (x, n % 2 ^ 59) ∷ rest) (moved_back c m) ∙ ap (λ (k : ℕ). (c, k) ∷ rest) same

pub terms_back : (least : ℕ) (ts : Terms) → IsSum least ts → ((n : ℕ) → SumHasVariable ts n → n < 2 ^ 58) → terms_of (term_numbers ts) ≡ ts
unfolding IsSum SumHasVariable
terms_back least [] h b = refl
terms_back least ((c, n) ∷ ts) h b =
    term_back c n (terms_of (term_numbers ts)) (narrow c h.1) (b n (inl refl)) ∙ ap (λ (l : Terms). (c, n) ∷ l) (terms_back (suc n) ts h.3 (λ m v. b m (inr v)))

numbers_append : (ts us : Terms) → term_numbers (ts ++ us) ≡ term_numbers ts ++ term_numbers us
numbers_append [] us = refl
numbers_append ((c, n) ∷ ts) us = ap (λ l. moved_up c ∷ (n % 2 ^ 59) ∷ l) (numbers_append ts us)

pub term_written : (before old new : Image) (ts : Terms) (k : ℕ) (t : ℤ × ℕ) → k < length ts → old ≡ appended before (map data_of (term_numbers (take k ts)))
    → new ≡ appended old (map data_of (term_numbers (get_or ts k t ∷ []))) → new ≡ appended before (map data_of (term_numbers (take (k + 1) ts)))
term_written before old new ts k t lt o n =
    let more : term_numbers (take (k + 1) ts) ≡ term_numbers (take k ts) ++ term_numbers (get_or ts k t ∷ []) = ap term_numbers (take_more ts k t lt) ∙ numbers_append (take k ts) (get_or ts k t ∷ []) in
    appended_then before old new (term_numbers (take k ts)) (term_numbers (get_or ts k t ∷ [])) o n ∙ ap (λ l. appended before (map data_of l)) (sym more)

one_more : (ns : List ℕ) (from k : ℕ) → from + 2 * k + 1 < length ns → terms_of (drop (from + 2 * k) ns) ≡ term_at ns (from + 2 * k) ∷ terms_of (drop (from + 2 * (k + 1)) ns)
one_more ns from k lt =
    let next : from + 2 * k + 2 ≡ from + 2 * (k + 1) = omega arith in
    ap terms_of (drop_two ns (from + 2 * k) lt) ∙ ap (λ j. term_at ns (from + 2 * k) ∷ terms_of (drop j ns)) next

few_terms : (ns : List ℕ) → length ns ≤ 1 → terms_of ns ≡ []
few_terms [] le = refl
few_terms (n ∷ []) le = refl
few_terms (n ∷ m ∷ rest) le = absurd (omega arith)

pub term_read : (ns : List ℕ) (from k : ℕ) (before after all : Terms) (t : ℤ × ℕ) → after ≡ before ++ t ∷ [] → t ≡ term_at ns (from + 2 * k) → from + 2 * k + 1 < length ns
    → before ++ terms_of (drop (from + 2 * k) ns) ≡ all → after ++ terms_of (drop (from + 2 * (k + 1)) ns) ≡ all
term_read ns from k before after all t a e lt h =
    let behind : Terms = terms_of (drop (from + 2 * (k + 1)) ns) in
    ap (λ l. l ++ behind) a
    ∙ (append_assoc before (t ∷ []) behind
    ∙ (ap (λ u. before ++ u ∷ behind) e
    ∙ (ap (λ l. before ++ l) (sym (one_more ns from k lt))
    ∙ h)))

pub terms_read : (ns : List ℕ) (from k : ℕ) (items all : Terms) → length ns ≤ from + 2 * k + 1 → items ++ terms_of (drop (from + 2 * k) ns) ≡ all → items ≡ all
terms_read ns from k items all le h =
    let none : terms_of (drop (from + 2 * k) ns) ≡ [] = few_terms (drop (from + 2 * k) ns) (omega (arith, length-drop (from + 2 * k) ns)) in
    sym (append-nil items) ∙ (ap (λ l. items ++ l) (sym none) ∙ h)
