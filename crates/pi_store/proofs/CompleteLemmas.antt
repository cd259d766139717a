-- What keeps lists complete, at one moment.
use Rattle.std.proofs.Common.{◌≡◌, ◌⊎◌, inl, inr, ⊎_elim, ℕ, zero, suc, ◌+◌, ◌*◌, ◌%◌, ◌-◌, ◌≤◌, ◌==◌, Bool, true, false, List, [], ◌∷◌, ◌++◌, length, Some, slice_index, slice_set, refl, ap, sym, subst, ◌∙◌, arith, length-append, append_assoc}
use Rattle.std.proofs.lemmas.Bool.{cases_lt}
use Rattle.std.proofs.lemmas.Bool.Decides.{nat_tests}
use Rattle.std.proofs.lemmas.List.{get_or_append_left, get_or_push}
use Rattle.pi_constraints.specs.Constraint.{SpeaksOf}
use Rattle.pi_constraints.specs.declared.constraint.Constraint.{Constraint}
use Rattle.pi_region.specs.Image.{Image, appended, pushed, replacing, replaced}
use Rattle.pi_region.specs.declared.entry.Table.{Table}
use Rattle.pi_region.proofs.ChangeLemmas.{push_word}
use Rattle.pi_store_blocks.specs.Form.{form_of}
use Rattle.pi_store_blocks.proofs.BlockLemmas.{in_more}
use Rattle.pi_store_blocks.specs.Node.{IsListed}
use Rattle.pi_store_blocks.proofs.ListLemmas as listed
use Rattle.pi_store_blocks.specs.Constraint.{constraint_in}
use Rattle.pi_store_blocks.specs.ConstraintTable.{constraint_at}
use Rattle.pi_store.specs.Walk.{bound_ref_by, variable_of, variable_of_any, next_at}
use Rattle.pi_store.specs.Heads.{list_end}
use Rattle.pi_store.specs.Lists.{Leads, at_once, by_next, IsOnList, IsComplete}

-- Chains

-- a chain of steps that there were before is one that there was before
leads_within : (vs ws : List ℕ) → ((n m : ℕ) → next_at ws n ≡ Some m → next_at vs n ≡ Some m) → {n v : ℕ} → Leads ws n v → Leads vs n v
leads_within vs ws old (at_once n) = at_once n
leads_within vs ws old (by_next n m e l) = by_next n m (old n m e) (leads_within vs ws old l)

-- a chain of which n got a step to one of these: it is one that there was, or one to n and one from there
abbrev Through : List ℕ → ℕ → (ℕ → Type 0) → ℕ → ℕ → Type 0
Through vs n To a v = Leads vs a n × ((m : ℕ) × To m × Leads vs m v)

step_old : (vs : List ℕ) (n : ℕ) (To : ℕ → Type 0) (a m v : ℕ) → next_at vs a ≡ Some m → Leads vs m v ⊎ Through vs n To m v → Leads vs a v ⊎ Through vs n To a v
step_old vs n To a m v e (inl l) = inl (by_next a m e l)
step_old vs n To a m v e (inr t) = inr (by_next a m e t.0, t.1)

step_new : (vs : List ℕ) (n : ℕ) (To : ℕ → Type 0) (a m v : ℕ) → a ≡ n → To m → Leads vs m v ⊎ Through vs n To m v → Leads vs a v ⊎ Through vs n To a v
step_new vs n To a m v e to (inl l) = inr (subst (Leads vs a) e (at_once a), (m, to, l))
step_new vs n To a m v e to (inr t) = inr (subst (Leads vs a) e (at_once a), t.1)

leads_split : (vs ws : List ℕ) (n : ℕ) (To : ℕ → Type 0) → ((a m : ℕ) → next_at ws a ≡ Some m → (next_at vs a ≡ Some m) ⊎ ((a ≡ n) × To m)) → {a v : ℕ} → Leads ws a v → Leads vs a v ⊎ Through vs n To a v
leads_split vs ws n To steps (at_once a) = inl (at_once a)
leads_split vs ws n To steps (by_next a m {v} e l) =
    let rest = leads_split vs ws n To steps l in
    elim (steps a m e) [ inl f ↦ step_old vs n To a m v f rest | inr p ↦ step_new vs n To a m v p.0 p.1 rest ]

-- What is read

-- a word more that is zero changes no reading
pub read_zero : (vs : List ℕ) (n : ℕ) → slice_index (vs ++ 0 ∷ []) n ≡ slice_index vs n
read_zero [] zero = refl
read_zero [] (suc n) = refl
read_zero (v ∷ vs) zero = refl
read_zero (v ∷ vs) (suc n) = read_zero vs n

pub set_cases : (vs : List ℕ) (n m w : ℕ) → (slice_index (slice_set vs n w) m ≡ slice_index vs m) ⊎ ((m ≡ n) × (slice_index (slice_set vs n w) m ≡ w))
set_cases [] n m w = inl refl
set_cases (v ∷ vs) zero zero w = inr (refl, refl)
set_cases (v ∷ vs) zero (suc m) w = inl refl
set_cases (v ∷ vs) (suc n) zero w = inl refl
set_cases (v ∷ vs) (suc n) (suc m) w = elim (set_cases vs n m w) [ inl e ↦ inl e | inr p ↦ inr (ap suc p.0, p.1) ]

abbrev NextBy : ℕ → ℕ → Type 0
NextBy w m = variable_of_any (bound_ref_by (w % 8 == 0) w) ≡ Some m

next_zero : (vs : List ℕ) (n m : ℕ) → next_at (vs ++ 0 ∷ []) n ≡ Some m → next_at vs n ≡ Some m
next_zero vs n m e = subst (λ (w : ℕ). NextBy w m) (read_zero vs n) e

no_next_by : (b : Bool) (w m : ℕ) → b ≡ true → variable_of_any (bound_ref_by b w) ≡ Some m → ⊥
no_next_by true w m t e = absurd (cc)
no_next_by false w m t e = absurd (cc)

is_multiple : (end : ℕ) → ((8 * end) % 8 == 0) ≡ true
is_multiple end = let none : (8 * end) % 8 ≡ 0 = omega arith in test ((8 * end) % 8) none
  where
    test : (n : ℕ) → n ≡ 0 → (n == 0) ≡ true
    test n e = grind (arith, nat_tests)

-- a domain leads nowhere
next_domain : (vs : List ℕ) (place end n m : ℕ) → next_at (slice_set vs place (8 * end)) n ≡ Some m → next_at vs n ≡ Some m
next_domain vs place end n m e = elim (set_cases vs place n (8 * end)) [
  | inl same ↦ subst (λ (w : ℕ). NextBy w m) same e
  | inr p ↦ absurd (no_next_by ((8 * end) % 8 == 0) (8 * end) m (is_multiple end) (subst (λ (w : ℕ). NextBy w m) p.1 e))
]

-- a binding leads to the variable that its Ref is
next_ref_by : (b : Bool) (r m : ℕ) → variable_of_any (bound_ref_by b (suc r)) ≡ Some m → variable_of (form_of r) ≡ Some m
next_ref_by true r m e = absurd (cc)
next_ref_by false r m e = let one : suc r - 1 ≡ r = omega arith in subst (λ (q : ℕ). variable_of (form_of q) ≡ Some m) one e

next_bound : (vs : List ℕ) (place r n m : ℕ) → next_at (slice_set vs place (suc r)) n ≡ Some m → (next_at vs n ≡ Some m) ⊎ ((n ≡ place) × (variable_of (form_of r) ≡ Some m))
next_bound vs place r n m e = elim (set_cases vs place n (suc r)) [
  | inl same ↦ inl (subst (λ (w : ℕ). NextBy w m) same e)
  | inr p ↦ inr (p.0, next_ref_by (suc r % 8 == 0) r m (subst (λ (w : ℕ). NextBy w m) p.1 e))
]

-- Blocks and lists where there is more

abbrev pub HasBlocks : Image → Type 0
HasBlocks i = (k : ℕ) → slice_index i.constraints k ≤ length i.region

same_block : (i j : Image) (ws : List ℕ) (k : ℕ) → HasBlocks i → j.region ≡ i.region ++ ws → constraint_at j.region (slice_index i.constraints k) ≡ constraint_at i.region (slice_index i.constraints k)
same_block i j ws k blocks region = ap (λ r. constraint_at r (slice_index i.constraints k)) region ∙ ap constraint_in (in_more i.region ws (slice_index i.constraints k) (blocks k))

pub on_more : (i j : Image) (ws : List ℕ) (v k : ℕ) → list_end i v ≤ length i.region → j.region ≡ i.region ++ ws → list_end j v ≡ list_end i v → IsOnList i v k → IsOnList j v k
on_more i j ws v k le region end on =
    subst (λ (e : ℕ). IsListed j.region e k) (sym end) (subst (λ (r : List ℕ). IsListed r (list_end i v) k) (sym region) (listed.in_more i.region ws (list_end i v) k le on))

longer : (i j : Image) (ws : List ℕ) → j.region ≡ i.region ++ ws → length i.region ≤ length j.region
longer i j ws region = let l : length j.region ≡ length i.region + length ws = ap length region ∙ length-append i.region ws in omega arith

-- Changes

-- chains come of those that there were, and lists have what was in theirs
pub complete_by : (i j : Image) (ws : List ℕ) → HasBlocks i → IsComplete i → j.region ≡ i.region ++ ws → j.constraints ≡ i.constraints → ((v : ℕ) → list_end j v ≤ length j.region)
    → ((n v k : ℕ) → Leads j.variables n v → ((u : ℕ) → Leads i.variables n u → IsOnList i u k) → IsOnList j v k) → IsComplete j
complete_by i j ws blocks c region same within lists = record {
  within = within;
  listed = λ k n v lt speaks leads.
      let at : constraint_at j.region (slice_index j.constraints k) ≡ constraint_at i.region (slice_index i.constraints k) =
      ap (λ cs. constraint_at j.region (slice_index cs k)) same ∙ same_block i j ws k blocks region in
      let few : length j.constraints ≡ length i.constraints = ap length same in
      lists n v k leads (λ u l. c.listed k n u (omega arith) (subst (λ (x : Constraint). SpeaksOf x n) at speaks) l);
}

-- lists end where they did
pub complete_same : (i j : Image) (ws : List ℕ) → HasBlocks i → IsComplete i → j.region ≡ i.region ++ ws → j.constraints ≡ i.constraints → ((v : ℕ) → list_end j v ≡ list_end i v)
    → ((n m : ℕ) → next_at j.variables n ≡ Some m → next_at i.variables n ≡ Some m) → IsComplete j
complete_same i j ws blocks c region same ends steps =
    complete_by i j ws blocks c region same
    (λ v. let e : list_end j v ≡ list_end i v = ends v in let le : list_end i v ≤ length i.region = c.within v in let l : length i.region ≤ length j.region = longer i j ws region in omega arith)
    (λ n v k leads on. on_more i j ws v k (c.within v) region (ends v) (on v (leads_within i.variables j.variables steps leads)))

pub complete_words : (i : Image) → HasBlocks i → IsComplete i → (ws : List ℕ) → IsComplete (appended i ws)
complete_words i blocks c ws = complete_same i (appended i ws) ws blocks c refl refl (λ v. refl) (λ n m e. e)

pub complete_variable : (i : Image) → HasBlocks i → IsComplete i → IsComplete (pushed i Table.Variables 0)
complete_variable i blocks c = complete_same i (pushed i Table.Variables 0) (push_word i Table.Variables ∷ []) blocks c refl refl (λ v. refl) (next_zero i.variables)

pub complete_domain : (i : Image) (n end : ℕ) → HasBlocks i → IsComplete i → IsComplete (replaced i Table.Variables n (8 * end))
complete_domain i n end blocks c =
    complete_same i (replaced i Table.Variables n (8 * end)) (replacing i.trail Table.Variables n (slice_index i.variables n)) blocks c refl refl (λ v. refl) (next_domain i.variables n end)

pub complete_agent : (i : Image) (w : ℕ) → HasBlocks i → IsComplete i → IsComplete (pushed i Table.Agents w)
complete_agent i w blocks c = complete_same i (pushed i Table.Agents w) (push_word i Table.Agents ∷ []) blocks c refl refl (λ v. refl) (λ n m e. e)

pub complete_agent_for : (i : Image) (n w : ℕ) → HasBlocks i → IsComplete i → IsComplete (replaced i Table.Agents n w)
complete_agent_for i n w blocks c = complete_same i (replaced i Table.Agents n w) (replacing i.trail Table.Agents n (slice_index i.agents n)) blocks c refl refl (λ v. refl) (λ n m e. e)

pub complete_waiting : (i : Image) (w : ℕ) → HasBlocks i → IsComplete i → IsComplete (pushed i Table.Waiting w)
complete_waiting i w blocks c = complete_same i (pushed i Table.Waiting w) (push_word i Table.Waiting ∷ []) blocks c refl refl (λ v. refl) (λ n m e. e)

-- a zero behind the heads, and another count of what was taken
pub complete_pad : (i : Image) → HasBlocks i → IsComplete i → IsComplete (pushed i Table.Heads 0)
complete_pad i blocks c = complete_same i (pushed i Table.Heads 0) (push_word i Table.Heads ∷ []) blocks c refl refl (λ v. read_zero i.heads (suc v)) (λ n m e. e)

read_behind : (hs : List ℕ) (v w : ℕ) → slice_index (slice_set hs 0 w) (suc v) ≡ slice_index hs (suc v)
read_behind [] v w = refl
read_behind (h ∷ hs) v w = refl

pub read_first : (hs : List ℕ) (v w : ℕ) → slice_index (slice_set hs (suc v) w) 0 ≡ slice_index hs 0
read_first [] v w = refl
read_first (h ∷ hs) v w = refl

pub complete_taken : (i : Image) (w : ℕ) → HasBlocks i → IsComplete i → IsComplete (replaced i Table.Heads 0 w)
complete_taken i w blocks c =
    complete_same i (replaced i Table.Heads 0 w) (replacing i.trail Table.Heads 0 (slice_index i.heads 0)) blocks c refl refl (λ v. read_behind i.heads v w) (λ n m e. e)

-- another end for a list, which has what was in the one before it
pub on_head : (i : Image) (u w : ℕ) → ((v : ℕ) → list_end i v ≤ length i.region) → w ≤ length i.region → ((k : ℕ) → IsOnList i u k → IsListed i.region w k)
    → (v k : ℕ) → IsOnList i v k → IsOnList (replaced i Table.Heads (suc u) w) v k
on_head i u w within le more v k on =
    let j : Image = replaced i Table.Heads (suc u) w in
    let ws : List ℕ = replacing i.trail Table.Heads (suc u) (slice_index i.heads (suc u)) in
    elim (set_cases i.heads (suc u) (suc v) w) [
      | inl same ↦ on_more i j ws v k (within v) refl same on
      | inr p ↦
          let e : v ≡ u = let f : suc v ≡ suc u = p.0 in omega arith in
          let OnOf : ℕ → Type 0 = λ x. IsOnList i x k in
          let OnAt : ℕ → Type 0 = λ x. IsListed j.region x k in
          subst OnAt (sym p.1) (listed.in_more i.region ws w k le (more k (subst OnOf e on)))
    ]

pub complete_head : (i : Image) (u w : ℕ) → HasBlocks i → IsComplete i → w ≤ length i.region → ((k : ℕ) → IsOnList i u k → IsListed i.region w k) → IsComplete (replaced i Table.Heads (suc u) w)
complete_head i u w blocks c le more =
    let j : Image = replaced i Table.Heads (suc u) w in
    let ws : List ℕ = replacing i.trail Table.Heads (suc u) (slice_index i.heads (suc u)) in
    let l : length i.region ≤ length j.region = longer i j ws refl in
    complete_by i j ws blocks c refl refl
    (λ v. elim (set_cases i.heads (suc u) (suc v) w) [
      | inl same ↦ let e : list_end j v ≡ list_end i v = same in let low : list_end i v ≤ length i.region = c.within v in omega arith
      | inr p ↦ let e : list_end j v ≡ w = p.1 in omega arith
    ])
    (λ n v k leads on. on_head i u w c.within le more v k (on v leads))

-- a constraint more, which is in the lists of all to which its variables lead
pub complete_posted : (i : Image) (end : ℕ) → HasBlocks i → IsComplete i → end ≤ length i.region → ((n v : ℕ) → SpeaksOf (constraint_at i.region end) n → Leads i.variables n v → IsOnList i v (length i.constraints))
    → IsComplete (pushed i Table.Constraints end)
complete_posted i end blocks c le put =
    let j : Image = pushed i Table.Constraints end in
    let ws : List ℕ = push_word i Table.Constraints ∷ [] in
    let l : length i.region ≤ length j.region = longer i j ws refl in
    let cs : List ℕ = i.constraints in
    let many : length (cs ++ end ∷ []) ≡ length cs + 1 = length-append cs (end ∷ []) in
    record {
      within = λ v. let low : list_end i v ≤ length i.region = c.within v in omega arith;
      listed = λ k n v lt speaks leads. ⊎_elim
          (λ old.
          let word : slice_index (cs ++ end ∷ []) k ≡ slice_index cs k = get_or_append_left cs (end ∷ []) 0 k old in
          let at : constraint_at j.region (slice_index j.constraints k) ≡ constraint_at i.region (slice_index cs k) = ap (constraint_at j.region) word ∙ same_block i j ws k blocks refl in
          on_more i j ws v k (c.within v) refl refl (c.listed k n v old (subst (λ (x : Constraint). SpeaksOf x n) at speaks) leads))
          (λ new.
          let last : length cs ≡ k = omega arith in
          let word : slice_index (cs ++ end ∷ []) k ≡ end = get_or_push cs end 0 k last in
          let at : constraint_at j.region (slice_index j.constraints k) ≡ constraint_at i.region end = ap (constraint_at j.region) word ∙ ap constraint_in (in_more i.region ws end le) in
          on_more i j ws v k (c.within v) refl refl (subst (IsOnList i v) last (put n v (subst (λ (x : Constraint). SpeaksOf x n) at speaks) leads)))
          (cases_lt k (length cs));
    }

-- a variable that is bound, where the list of each that the Ref leads to has what was in its list before
pub complete_bound : (i mid : Image) (ws : List ℕ) (n r : ℕ) → HasBlocks i → IsComplete i → IsComplete mid → mid.region ≡ i.region ++ ws → mid.constraints ≡ i.constraints → mid.variables ≡ i.variables
    → ((v k : ℕ) → IsOnList i v k → IsOnList mid v k) → ((m v k : ℕ) → variable_of (form_of r) ≡ Some m → Leads i.variables m v → IsOnList i n k → IsOnList mid v k) → IsComplete (replaced mid Table.Variables n (suc r))
complete_bound i mid ws n r blocks c d region same variables kept joined =
    let j : Image = replaced mid Table.Variables n (suc r) in
    let entry : List ℕ = replacing mid.trail Table.Variables n (slice_index mid.variables n) in
    let all : j.region ≡ i.region ++ (ws ++ entry) = ap (λ x. x ++ entry) region ∙ append_assoc i.region ws entry in
    let l : length mid.region ≤ length j.region = longer mid j entry refl in
    let steps : (a m : ℕ) → next_at j.variables a ≡ Some m → (next_at i.variables a ≡ Some m) ⊎ ((a ≡ n) × (variable_of (form_of r) ≡ Some m)) =
    λ a m e. next_bound i.variables n r a m (subst (λ (vs : List ℕ). next_at (slice_set vs n (suc r)) a ≡ Some m) variables e) in
    complete_by i j (ws ++ entry) blocks c all same
    (λ v. let low : list_end mid v ≤ length mid.region = d.within v in omega arith)
    (λ a v k leads on. on_more mid j entry v k (d.within v) refl refl (elim (leads_split i.variables j.variables n (λ m. variable_of (form_of r) ≡ Some m) steps leads) [
      | inl old ↦ kept v k (on v old)
      | inr t ↦ let rest = t.1 in joined rest.0 v k rest.1 rest.2 (on n t.0)
    ]))

-- nothing at all
pub complete_none : (i : Image) → i.constraints ≡ [] → i.heads ≡ [] → IsComplete i
complete_none i constraints heads = record {
  within = λ v. let none : list_end i v ≡ 0 = ap (λ hs. slice_index hs (suc v)) heads in omega arith;
  listed = λ k n v lt speaks leads. let none : length i.constraints ≡ 0 = ap length constraints in absurd (omega arith);
}
