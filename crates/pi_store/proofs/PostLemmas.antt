-- What a constraint that is posted changes.
use Rattle.std.proofs.Common.{◌≡◌, ℕ, ◌^◌, ◌<◌, ◌≤◌, Bool, true, false, List, [], ◌∷◌, ◌++◌, length, map, Some, refl, ap, sym, subst, ◌∙◌, arith}
use Rattle.std.specs.Prelude.{slice_get, slice_index, IsTrue, IsFalse}
use Rattle.std.proofs.lemmas.List.{map-append}
use Rattle.pi_constraints.specs.Constraint.{SpeaksOf}
use Rattle.pi_constraints.specs.declared.constraint.Constraint.{Constraint}
use Rattle.pi_constraints.specs.State.{MayPost, with_constraint}
use Rattle.pi_constraints.specs.Store.{Changes}
use Rattle.pi_region.specs.Image.{Image}
use Rattle.pi_store_blocks.specs.Heap.{Heap}
use Rattle.pi_region.specs.Back.{Advances}
use Rattle.pi_region.specs.declared.entry.Table.{Table}
use Rattle.pi_region.proofs.BackLemmas.{from_itself, through}
use Rattle.pi_region.proofs.ChangeLemmas.{pushed_advances}
use Rattle.pi_store_blocks.specs.Block.{block_of, Writes}
use Rattle.pi_store_blocks.proofs.BlockLemmas.{outlast, read_back}
use Rattle.pi_store_blocks.specs.Constraint.{numbers_of, constraint_in}
use Rattle.pi_store_blocks.specs.ConstraintTable.{constraint_at}
use Rattle.pi_store_blocks.proofs.ConstraintTables.{block_right}
use Rattle.pi_store_blocks.proofs.RoundLemmas.{back}
use Rattle.pi_store_blocks.specs.NameTable.{NameTable}
use Rattle.pi_store.specs.Heads.{taken_in}
use Rattle.pi_store.specs.Holding.{heap_of, state_of, view_of}
use Rattle.pi_store.specs.Lists.{Leads, IsOnList}
use Rattle.pi_store.specs.Sound.{IsSound}
use Rattle.pi_store.specs.Added.{SameTables, IsPutOn, Posts, IsNotMade, TriesToPost, PostsIfMade}
use Rattle.pi_store.proofs.LookLemmas.{below_next}
use Rattle.pi_store.proofs.NameLemmas.{keeps_itself}
use Rattle.pi_store.proofs.SoundLemmas.{sound_words, sound_constraint}
use Rattle.pi_store.proofs.TableLemmas.{get_mapped}
use Rattle.pi_store.proofs.KeepLemmas.{heap_grows, keeps_all, same_states, same_parts, parts_stay}

-- Its block, lists, and its word

block_there : (i j : Image) (end : ℕ) → Advances i j → end ≤ length i.region → constraint_at j.region end ≡ constraint_at i.region end
block_there i j end a le = ap constraint_in (outlast i j end a le)

pub sound_posted : (t : NameTable) (i j : Image) (c : Constraint) → IsSound t i → Posts i j c → IsSound t j
sound_posted t i j c s p =
    let mid : IsSound t p.mid = subst (IsSound t) (sym p.written.words) (sound_words t i (block_of (numbers_of c)) (block_right (heap_of t i) (numbers_of c)) s) in
    let e : p.end ≡ length p.mid.region = p.written.end in
    let longer : length p.mid.region ≤ length p.listed.region = p.adds.advances.longer in
    let same : constraint_at p.listed.region p.end ≡ constraint_at p.mid.region p.end = block_there p.mid p.listed p.end p.adds.advances (omega arith) in
    let many : length i.constraints ≡ length p.listed.constraints = sym (ap length (p.adds.tables.constraints ∙ ap (λ (l : Image). l.constraints) p.written.words)) in
    subst (IsSound t) (sym p.added) (sound_constraint t p.listed p.end (omega arith)
    (λ n v speaks leads. subst (IsOnList p.listed v) many
    (p.put t mid n v (subst (λ (x : Constraint). SpeaksOf x n) same speaks) (subst (λ (vs : List ℕ). Leads vs n v) p.adds.tables.variables leads)))
    (p.adds.sound t mid))

-- what is said of it by a test whether it was posted

pub sound_tried : (t : NameTable) (i j : Image) (c : Constraint) (posted : Bool) → IsSound t i → PostsIfMade i j c posted → IsSound t j
sound_tried t i j c true s p = sound_posted t i j c s p
sound_tried t i j c false s p = subst (IsSound t) (sym p.0) s

pub tried_advances : (i j : Image) (c : Constraint) (posted : Bool) → i.trail ≤ length i.region → PostsIfMade i j c posted → Advances i j
tried_advances i j c true low p = p.advances
tried_advances i j c false low p = subst (Advances i) (sym p.0) (from_itself i low)

-- the tables behind it
tables_posted : (i j : Image) (c : Constraint) → Posts i j c → SameTables i (record j { constraints = i.constraints })
tables_posted i j c p =
    let w = p.written.words in
    let a = p.adds.tables in
    record {
      variables = ap (λ (l : Image). l.variables) p.added ∙ (a.variables ∙ ap (λ (l : Image). l.variables) w);
      constraints = refl;
      agents = ap (λ (l : Image). l.agents) p.added ∙ (a.agents ∙ ap (λ (l : Image). l.agents) w);
      waiting = ap (λ (l : Image). l.waiting) p.added ∙ (a.waiting ∙ ap (λ (l : Image). l.waiting) w);
      taken = ap taken_in p.added ∙ (a.taken ∙ ap taken_in w);
    }

pub posts_to : (t : NameTable) (i j : Image) (c : Constraint) → IsSound t i → length i.variables ≤ 2 ^ 58 → Posts i j c → MayPost (state_of (heap_of t i) i) c
    → Changes (view_of t i) (view_of t j) (with_constraint (state_of (heap_of t i) i) c)
posts_to t i j c s few p may =
    let h : Heap = heap_of t i in
    let k : Heap = heap_of t j in
    let keeps = keeps_itself t (length i.region) in
    let parts = parts_stay t t i j s (heap_grows t t i j keeps p.advances) in
    let q = same_parts h k i j parts in
    let same = tables_posted i j c p in
    let more : j.constraints ≡ i.constraints ++ p.end ∷ [] =
    ap (λ (l : Image). l.constraints) p.added ∙ (ap (λ cs. cs ++ p.end ∷ []) p.adds.tables.constraints ∙ ap (λ (l : Image). l.constraints ++ p.end ∷ []) p.written.words) in
    let e : p.end ≡ length p.mid.region = p.written.end in
    let le : p.end ≤ length p.mid.region = omega arith in
    let low : p.listed.trail ≤ length p.listed.region = (p.adds.sound t (subst (IsSound t) (sym p.written.words) (sound_words t i (block_of (numbers_of c)) (block_right h (numbers_of c)) s))).right.trail in
    let then : Advances p.mid j = through p.mid p.listed j p.adds.advances (subst (Advances p.listed) (sym p.added) (pushed_advances p.listed Table.Constraints p.end low)) in
    let made : constraint_at k.words p.end ≡ c = block_there p.mid j p.end then le ∙ (ap constraint_in (read_back i p.mid (numbers_of c) p.end p.written) ∙ back c may.0 (λ n speaks. let lt : n < length i.variables = below_next h i n (may.1 n speaks) in omega arith)) in
    let all : map (constraint_at k.words) j.constraints ≡ map (constraint_at h.words) i.constraints ++ c ∷ [] =
    ap (map (constraint_at k.words)) more ∙ (map-append (constraint_at k.words) i.constraints (p.end ∷ [])
    ∙ (ap (λ cs. cs ++ constraint_at k.words p.end ∷ []) parts.constraints ∙ ap (λ b. map (constraint_at h.words) i.constraints ++ b ∷ []) made)) in
    record {
      keeps = keeps_all t t i j keeps p.advances;
      state = same_states _ _ (q.variables same.variables) all (q.agents same.agents) (q.waiting same.waiting same.taken);
    }

pub tried_to : (t : NameTable) (i j : Image) (c : Constraint) (posted : Bool) → IsSound t i → length i.variables ≤ 2 ^ 58 → PostsIfMade i j c posted → MayPost (state_of (heap_of t i) i) c
    → Changes (view_of t i) (view_of t j) (with_constraint (state_of (heap_of t i) i) c)
tried_to t i j c true s few p may = posts_to t i j c s few p may
tried_to t i j c false s few p may =
    let below : (n : ℕ) → SpeaksOf c n → n < length i.variables = λ n speaks. below_next (heap_of t i) i n (may.1 n speaks) in
    let same : constraint_in (numbers_of c) ≡ c = back c may.0 (λ n speaks. let lt : n < length i.variables = below n speaks in omega arith) in
    let not = p.1 in
    let lt : not.0 < length i.variables = below not.0 (subst (λ (x : Constraint). SpeaksOf x not.0) same not.1) in
    let le : length i.variables ≤ not.0 = not.2 in
    absurd (omega arith)

-- a variable of what was written wasn't made
pub not_made : (i mid l : Image) (c : Constraint) (end k : ℕ) → Writes i mid (numbers_of c) end → IsPutOn (SpeaksOf (constraint_at mid.region end)) mid l k false → IsNotMade i c
not_made i mid l c end k w p =
    let n : ℕ = p.0 in
    let block : constraint_at mid.region end ≡ constraint_in (numbers_of c) = ap constraint_in (read_back i mid (numbers_of c) end w) in
    (n, subst (λ (x : Constraint). SpeaksOf x n) block p.1, subst (λ (m : Image). length m.variables ≤ n) w.words p.2)

-- what is left where it isn't posted is what there was
pub kept_if : (i j k : Image) (c : Constraint) (posted b : Bool) → b ≡ posted → TriesToPost i j c posted → (IsTrue posted → k ≡ j) → (IsFalse posted → k ≡ i) → PostsIfMade i k c b
kept_if i j k c true b e p kept undone = subst (PostsIfMade i k c) (sym e) (subst (λ (l : Image). Posts i l c) (sym (kept refl)) p)
kept_if i j k c false b e p kept undone = subst (PostsIfMade i k c) (sym e) (undone refl, p)

-- the constraint with a number
pub shows_constraint : (t : NameTable) (i : Image) (n : ℕ) (found : Constraint) → found ≡ constraint_at i.region (slice_index i.constraints n) → n < length i.constraints → slice_get (view_of t i).now.state.constraints n ≡ Some found
shows_constraint t i n found is lt = get_mapped (constraint_at i.region) i.constraints n lt ∙ ap Some (sym is)
