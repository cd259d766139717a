-- What a helper of a loop is handed: values for the slots of its head, by the slots from one on.
use Rattle.std.proofs.Common.{◌≡◌, ℕ, zero, suc, ◌+◌, ◌≤◌, ◌<◌, List, [], ◌∷◌, ◌++◌, length, map, refl, sym, ◌∙◌, ap, arith, length-append, append_assoc, nat_lt}
use Rattle.std.specs.Prelude.{Option, Some, None, option_and_then, IsSome, replicate, slice_set, unwrap_or}
use Rattle.std.proofs.lemmas.Bool.{cond-true}
use Rattle.std.proofs.lemmas.Bool.Decides.{Decides-ltb}
use Rattle.std.proofs.Math.Seq.{get_or-append_seam}
use Rattle.pi_terms.specs.Tree.{Tree, trees_of}
use Rattle.pi_terms.specs.Places.{Places, held}
use Rattle.pi_terms.specs.PatternTree.{slot}
use Rattle.pi_constraints.specs.Value.{Bindings}
use Rattle.pi_constraints.specs.State.{State}
use Rattle.pi_constraints.specs.HeadMatch.{matched_in, matched_all_in, taken_in}
use Rattle.pi_constraints.specs.Evaluation.{evaluated_all}
use Rattle.pi_rewrite_spec.specs.Loops.{slots_from, slots_head}
use Rattle.pi_rewrite_spec.proofs.FilledLemmas.{in_slot, AllFilled, none_filled, one_filled, terms_at, all-filled-comes}

-- ---- what a head takes

-- the slots of a clause behind others that are filled: these, and then empty ones
abbrev pub entered : List Tree → ℕ → Places
entered vs m = map Some vs ++ replicate m None

-- as many empty slots
abbrev empties : List Tree → Places
empties vs = map (λ v. None) vs

set-seam : (ps : Places) (x y : Option Tree) (rest : Places) → slice_set (ps ++ x ∷ rest) (length ps) y ≡ ps ++ y ∷ rest
set-seam [] x y rest = refl
set-seam (p ∷ ps) x y rest = ap (λ (qs : Places). p ∷ qs) (set-seam ps x y rest)

-- an empty slot takes what stands there
slot-takes : (b : Bindings) (ps rest : Places) (v : Tree) → matched_in b (slot (length ps)) v (ps ++ None ∷ rest) ≡ Some (ps ++ Some v ∷ rest)
unfolding matched_in
slot-takes b ps rest v =
    ap (λ (o : Option Tree). taken_in b o (ps ++ None ∷ rest) (length ps) v) (get_or-append_seam ps None rest None)
    ∙ cond-true (nat_lt (length ps) (length (ps ++ None ∷ rest))) (Some (slice_set (ps ++ None ∷ rest) (length ps) (Some v))) None
    ((Decides-ltb (length ps) (length (ps ++ None ∷ rest))).1 (omega (arith, length-append ps (None ∷ rest))))
    ∙ ap Some (set-seam ps None (Some v) rest)

-- A head of slots takes each value as it is.
pub head-takes : (b : Bindings) (ps : Places) (vs : List Tree) (more : Places) → matched_all_in b (slots_head (length ps) (length vs)) (trees_of vs) (ps ++ (empties vs ++ more)) ≡ Some (ps ++ (map Some vs ++ more))
unfolding matched_in slots_head
head-takes b ps [] more = refl
head-takes b ps (v ∷ vs) more =
    ap (option_and_then (matched_all_in b (slots_head (suc (length ps)) (length vs)) (trees_of vs))) (slot-takes b ps (empties vs ++ more) v)
    ∙ ap (λ (k : ℕ). matched_all_in b (slots_head k (length vs)) (trees_of vs) (ps ++ Some v ∷ (empties vs ++ more))) longer
    ∙ ap (matched_all_in b (slots_head (length (ps ++ Some v ∷ [])) (length vs)) (trees_of vs)) (sym (append_assoc ps (Some v ∷ []) (empties vs ++ more)))
    ∙ head-takes b (ps ++ Some v ∷ []) vs more
    ∙ ap Some (append_assoc ps (Some v ∷ []) (map Some vs ++ more))
  where
    longer : suc (length ps) ≡ length (ps ++ Some v ∷ [])
    longer = omega (arith, length-append ps (Some v ∷ []))

pub empties-stand : (vs : List Tree) (m : ℕ) → replicate (length vs + m) None ≡ empties vs ++ replicate m None
empties-stand [] m = ap (λ (k : ℕ). replicate {A = Option Tree} k None) (omega arith)
empties-stand (v ∷ vs) m =
    let longer : length (v ∷ vs) + m ≡ suc (length vs + m) = omega arith in
    ap (λ (k : ℕ). replicate {A = Option Tree} k None) longer ∙ ap (λ (ps : Places). None ∷ ps) (empties-stand vs m)

-- where no slot is filled before
pub head-entered : (b : Bindings) (vs : List Tree) (n m : ℕ) → n ≡ length vs + m → matched_all_in b (slots_head 0 (length vs)) (trees_of vs) (replicate n None) ≡ Some (entered vs m)
head-entered b vs n m is = ap (λ (k : ℕ). matched_all_in b (slots_head 0 (length vs)) (trees_of vs) (replicate k None)) is ∙ ap (matched_all_in b (slots_head 0 (length vs)) (trees_of vs)) (empties-stand vs m) ∙ head-takes b [] vs (replicate m None)

pub entered-long : (vs : List Tree) (m : ℕ) → length (entered vs m) ≡ length vs + m
entered-long [] zero = refl
entered-long [] (suc m) = ap suc (entered-long [] m) ∙ omega arith
entered-long (v ∷ vs) m = ap suc (entered-long vs m) ∙ omega arith

pub entered-empty : (vs : List Tree) (m k : ℕ) → length vs ≤ k → held (entered vs m) k ≡ None
entered-empty [] zero k past = refl
entered-empty [] (suc m) zero past = refl
entered-empty [] (suc m) (suc k) past = entered-empty [] m k (omega arith)
entered-empty (v ∷ vs) m zero past = absurd (omega (arith, past))
entered-empty (v ∷ vs) m (suc k) past = entered-empty vs m k (omega (arith, past))

pub entered-held : (vs : List Tree) (m k : ℕ) → k < length vs → held (entered vs m) k ≡ held (map Some vs) k
entered-held [] m k less = absurd (omega (arith, less))
entered-held (v ∷ vs) m zero less = refl
entered-held (v ∷ vs) m (suc k) less = entered-held vs m k (omega (arith, less))

pub entered-firm : (vs : List Tree) (m k : ℕ) → k < length vs → IsSome (held (entered vs m) k)
entered-firm [] m k less = absurd (omega (arith, less))
entered-firm (v ∷ vs) m zero less = refl
entered-firm (v ∷ vs) m (suc k) less = entered-firm vs m k (omega (arith, less))

-- values as filled slots
pub some-long : (us : List Tree) → length (map {B = Option Tree} Some us) ≡ length us
some-long [] = refl
some-long (u ∷ us) = ap suc (some-long us)

pub some-held : (us : List Tree) (k : ℕ) → k < length us → IsSome (held (map Some us) k)
some-held [] k less = absurd (omega (arith, less))
some-held (u ∷ us) zero less = refl
some-held (u ∷ us) (suc k) less = some-held us k (omega (arith, less))

-- ---- what slots hand on

-- the values of so many slots from one on
unfoldable pub values_from : ℕ → ℕ → Places → List Tree
values_from j zero slots = []
values_from j (suc k) slots = unwrap_or (held slots j) (Tree.atom []) ∷ values_from (suc j) k slots

pub values-count : (j k : ℕ) (slots : Places) → length (values_from j k slots) ≡ k
unfolding values_from
values-count j zero slots = refl
values-count j (suc k) slots = ap suc (values-count (suc j) k slots)

pub some-again : (o : Option Tree) → IsSome o → o ≡ Some (unwrap_or o (Tree.atom []))
some-again None is = absurd cc
some-again (Some t) is = refl

-- they evaluate to themselves
pub slots-filled : (j k : ℕ) (slots : Places) → ((i : ℕ) → j ≤ i → i < j + k → IsSome (held slots i)) → AllFilled slots (trees_of (slots_from j k)) (trees_of (values_from j k slots))
unfolding slots_from values_from
slots-filled j zero slots firm = none_filled
slots-filled j (suc k) slots firm =
    one_filled (in_slot j (unwrap_or (held slots j) (Tree.atom [])) (some-again (held slots j) (firm j (omega arith) (omega arith)))) (slots-filled (suc j) k slots (λ i from less. firm i (omega (arith, from)) (omega (arith, less))))

pub slots-come : (k : ℕ) (slots : Places) (s : State) → ((i : ℕ) → i < k → IsSome (held slots i)) → evaluated_all (trees_of (slots_from 0 k)) slots s ≡ terms_at (trees_of (values_from 0 k slots)) slots s
slots-come k slots s firm = all-filled-comes slots (trees_of (slots_from 0 k)) (trees_of (values_from 0 k slots)) (slots-filled 0 k slots (λ i from less. firm i (omega (arith, less)))) s

-- each of them is there again
pub values-held : (j k : ℕ) (slots : Places) → ((i : ℕ) → j ≤ i → i < j + k → IsSome (held slots i)) → (i : ℕ) → i < k → held (map Some (values_from j k slots)) i ≡ held slots (j + i)
unfolding values_from
values-held j zero slots firm i less = absurd (omega (arith, less))
values-held j (suc k) slots firm zero less = sym (some-again (held slots j) (firm j (omega arith) (omega arith))) ∙ ap (held slots) (omega arith)
values-held j (suc k) slots firm (suc i) less = values-held (suc j) k slots (λ n from less. firm n (omega (arith, from)) (omega (arith, less))) i (omega (arith, less)) ∙ ap (held slots) (omega arith)

pub handed-held : (k : ℕ) (slots : Places) → ((i : ℕ) → i < k → IsSome (held slots i)) → (i : ℕ) → i < k → held (map Some (values_from 0 k slots)) i ≡ held slots i
handed-held k slots firm i less = values-held 0 k slots (λ n from less. firm n (omega (arith, less))) i less ∙ ap (held slots) (omega arith)
