-- The longest name, one part or predicate after the other; and `~` so many times.
use Rattle.std.proofs.Common.{◌≡◌, ℕ, suc, zero, ◌+◌, ◌<◌, ◌≤◌, List, [], ◌∷◌, ◌++◌, length, max, map, get_or, drop, refl, sym, ◌∙◌, ap}
use Rattle.std.proofs.lemmas.List.{drop_more, drop_all}
use Rattle.pi_syntax.specs.ProgramTree.{ProgramTree, part_tree}
use Rattle.pi_syntax.specs.declared.program.Part.{Part}
use Rattle.pi_core.specs.CoreTree.{pred_tree}
use Rattle.pi_core.specs.declared.core_program.CorePred.{CorePred}
use Rattle.pi_rewrite.specs.Built.{head_length, longest_head, longest_name, tildes}

pub one-more-tilde : (n : ℕ) → tildes n ++ 126 ∷ [] ≡ tildes (suc n)
one-more-tilde zero = refl
one-more-tilde (suc n) = ap (λ (xs : List ℕ). 126 ∷ xs) (one-more-tilde n)

pub head-more : (parts : List Part) (i : ℕ) (p : Part) (least most next : ℕ) → i < length parts → p ≡ get_or parts i p → next ≡ max most (head_length (part_tree p).clause) →
    longest_head most (map part_tree (drop i parts)) ≡ longest_head least (map part_tree parts) → longest_head next (map part_tree (drop (i + 1) parts)) ≡ longest_head least (map part_tree parts)
unfolding longest_head
head-more parts i p least most next here is larger so =
    ap (λ m. longest_head m (map part_tree (drop (i + 1) parts))) larger
    ∙ (sym (ap (λ ps. longest_head most (map part_tree ps)) (drop_more parts i p here ∙ ap (λ q. q ∷ drop (i + 1) parts) (sym is))) ∙ so)

pub head-end : (parts : List Part) (i least most : ℕ) → length parts ≤ i → longest_head most (map part_tree (drop i parts)) ≡ longest_head least (map part_tree parts) → most ≡ longest_head least (map part_tree parts)
unfolding longest_head
head-end parts i least most end so = sym (ap (λ ps. longest_head most (map part_tree ps)) (drop_all i parts end)) ∙ so

-- behind other parts
pub head-append : (most : ℕ) (ps qs : ProgramTree) → longest_head (longest_head most ps) qs ≡ longest_head most (ps ++ qs)
unfolding longest_head
head-append most [] qs = refl
head-append most (p ∷ ps) qs = head-append (max most (head_length p.clause)) ps qs

pub name-more : (preds : List CorePred) (i : ℕ) (p : CorePred) (most next : ℕ) → i < length preds → p ≡ get_or preds i p → next ≡ max most (length p.name) →
    longest_name most (map pred_tree (drop i preds)) ≡ longest_name 0 (map pred_tree preds) → longest_name next (map pred_tree (drop (i + 1) preds)) ≡ longest_name 0 (map pred_tree preds)
unfolding longest_name
name-more preds i p most next here is larger so =
    ap (λ m. longest_name m (map pred_tree (drop (i + 1) preds))) larger
    ∙ (sym (ap (λ ps. longest_name most (map pred_tree ps)) (drop_more preds i p here ∙ ap (λ q. q ∷ drop (i + 1) preds) (sym is))) ∙ so)

pub name-end : (preds : List CorePred) (i most : ℕ) → length preds ≤ i → longest_name most (map pred_tree (drop i preds)) ≡ longest_name 0 (map pred_tree preds) → most ≡ longest_name 0 (map pred_tree preds)
unfolding longest_name
name-end preds i most end so = sym (ap (λ ps. longest_name most (map pred_tree ps)) (drop_all i preds end)) ∙ so
