-- What keeps a store over raw words sound.
use Rattle.std.proofs.Common.{◌≡◌, ⊎_elim, ℕ, zero, suc, ◌/◌, ◌%◌, ◌^◌, ◌<◌, ◌≤◌, List, [], ◌∷◌, ◌++◌, length, slice_get, slice_index, Some, refl, ap, sym, subst, ◌∙◌, arith, length-append, ◌≢◌, ◌*◌, ◌-◌, ◌==◌, Bool, true, false}
use Rattle.std.proofs.lemmas.Bool.{cases_lt}
use Rattle.std.proofs.lemmas.Bool.Decides.{nat_tests}
use Rattle.pi_terms.specs.Tree.{Tree}
use Rattle.pi_terms.specs.ListNames.{cell_name}
use Rattle.pi_region.specs.Entry.{data_of}
use Rattle.pi_region.specs.Image.{Image, table_in, appended, pushed, replaced}
use Rattle.pi_region.specs.Back.{cut, at_length}
use Rattle.pi_region.proofs.BackLemmas.{back_stop}
use Rattle.pi_region.proofs.ChangeLemmas.{push_word}
use Rattle.pi_region.specs.declared.entry.Table.{Table}
use Rattle.pi_store_blocks.specs.Form.{form_with, form_of}
use Rattle.pi_store_blocks.specs.Heap.{Heap, Grows, term_at}
use Rattle.pi_store_blocks.specs.Placed.{IsRefIn, WritesRight}
use Rattle.pi_store_blocks.proofs.RefLemmas.{form_stays}
use Rattle.pi_store_blocks.proofs.WriteLemmas.{data_word}
use Rattle.pi_store_blocks.specs.Right.{HasMoreNames}
use Rattle.pi_store_blocks.specs.Past.{past_of}
use Rattle.pi_store_blocks.specs.Bound.{IsBoundIn}
use Rattle.pi_store_blocks.specs.Kept.{AreKept}
use Rattle.pi_store_blocks.proofs.KeptLemmas as kept
use Rattle.pi_store_blocks.proofs.TermRightLemmas as right
use Rattle.pi_store_blocks.proofs.BoundLemmas as bound
use Rattle.pi_constraints.specs.Constraint.{SpeaksOf}
use Rattle.pi_store_blocks.specs.ConstraintTable.{constraint_at, IsConstraintIn}
use Rattle.pi_store_blocks.proofs.ConstraintTables.{constraint_stays}
use Rattle.pi_store_blocks.specs.AgentTable.{IsAgentIn}
use Rattle.pi_store_blocks.proofs.AgentTables.{agent_stays}
use Rattle.pi_atoms.specs.Names.{HasDistinct}
use Rattle.pi_store_blocks.specs.NameTable.{NameTable, names_of}
use Rattle.pi_store.specs.Holding.{heap_of}
use Rattle.pi_store.specs.Waiting.{IsWaitingIn}
use Rattle.pi_store.specs.Heads.{taken_in}
use Rattle.pi_store.specs.Lists.{Leads, IsOnList, IsComplete}
use Rattle.pi_store.specs.Sound.{AtEach, IsTakenWithin, IsSound}
use Rattle.pi_store.specs.Changed.{KeepsNames, IsNumbered}
use Rattle.pi_store.proofs.NameLemmas.{stay}
use Rattle.pi_store.proofs.MomentLemmas as each
use Rattle.pi_store.proofs.CompleteLemmas.{complete_words, complete_variable, complete_domain, complete_agent, complete_agent_for, complete_waiting, complete_pad, complete_posted, complete_none, read_zero}
use Rattle.pi_constraints.specs.declared.store.Ref.{Ref}
use Rattle.pi_store.specs.Walk.{bound_ref_by}
use Rattle.pi_store.specs.Bindings.{HasBound}

-- a word of what waits is one still when there is more
pub waiting_stays : (h k : Heap) → Grows h k → (w : ℕ) → IsWaitingIn h w → IsWaitingIn k w
waiting_stays h k grows zero is = tt
waiting_stays h k grows (suc w) is = form_stays h k grows (form_of (suc w)) is

-- nothing at all
one_distinct : (name : List ℕ) → HasDistinct (name ∷ [])
one_distinct name = record { same = one }
  where
    one : (j k : ℕ) (x : List ℕ) → slice_get (name ∷ []) j ≡ Some x → slice_get (name ∷ []) k ≡ Some x → j ≡ k
    one zero zero x p q = refl
    one zero (suc k) x p q = absurd (cc)
    one (suc j) k x p q = absurd (cc)

-- the tables are empty at each length
none_there : (P : Heap → ℕ → Type 0) (table : Table) (t : NameTable) (i : Image) → ((h : Heap) → P h 0) → i.trail ≡ 0 → table_in i table ≡ [] → AreKept P table (names_of t) i
none_there P table t i none trail empty = record {
  at = λ len n.
      let same : at_length len i ≡ cut len i = ap (cut len) (back_stop len i (omega arith)) in
      let words : table_in (at_length len i) table ≡ [] = ap (λ (j : Image). table_in j table) same ∙ (table_cut len i table ∙ empty) in
      subst (λ (ws : List ℕ). P (past_of (names_of t) i len) (slice_index ws n)) (sym words) (none (past_of (names_of t) i len));
}
  where
    table_cut : (len : ℕ) (i : Image) (table : Table) → table_in (cut len i) table ≡ table_in i table
    table_cut len i Table.Variables = refl
    table_cut len i Table.Constraints = refl
    table_cut len i Table.Agents = refl
    table_cut len i Table.Waiting = refl
    table_cut len i Table.Heads = refl

-- something that is so of all images with the same constraints and heads
at_each : (Q : Image → Type 0) (i : Image) → i.trail ≡ 0 → ((j : Image) → (j.constraints ≡ i.constraints) × (j.heads ≡ i.heads) → Q j) → AtEach Q i
at_each Q i trail all = λ len. subst Q (sym (ap (cut len) (back_stop len i (omega arith)))) (all (cut len i) (refl, refl))

pub sound_new : (t : NameTable) (i : Image) → t.texts ≡ cell_name ∷ [] → i.trail ≡ 0 → i.region ≡ [] → i.variables ≡ [] → i.constraints ≡ [] → i.agents ≡ [] → i.waiting ≡ [] → i.heads ≡ [] → IsSound t i
sound_new t i texts trail region variables constraints agents waiting heads = record {
  cells = ap (λ xs. slice_get xs 0) texts;
  distinct = subst HasDistinct (sym texts) (one_distinct cell_name);
  right = record {
    trail = omega arith;
    written = λ n lt. let l : length i.region ≡ 0 = ap length region in absurd (omega arith);
  };
  bound = none_there IsBoundIn Table.Variables t i bound.free_in trail variables;
  constraints = none_there IsConstraintIn Table.Constraints t i (λ h. let least : 0 ≤ length h.words = omega arith in least) trail constraints;
  agents = none_there IsAgentIn Table.Agents t i (λ h. tt) trail agents;
  waiting = none_there IsWaitingIn Table.Waiting t i (λ h. tt) trail waiting;
  taken = at_each IsTakenWithin i trail (λ j same. let none : taken_in j ≡ 0 = ap (λ hs. slice_index hs 0) (same.1 ∙ heads) in omega arith);
  lists = at_each IsComplete i trail (λ j same. complete_none j (same.0 ∙ constraints) (same.1 ∙ heads));
}

-- What each change goes by

pub has_constraints : (t : NameTable) (i : Image) → IsSound t i → (n : ℕ) → IsConstraintIn (heap_of t i) (slice_index i.constraints n)
has_constraints t i s n = kept.kept_now IsConstraintIn constraint_stays Table.Constraints (names_of t) i s.right.trail s.constraints n

pub has_taken : (t : NameTable) (i : Image) → IsSound t i → IsTakenWithin i
has_taken t i s = each.now IsTakenWithin i s.right.trail s.taken

pub has_lists : (t : NameTable) (i : Image) → IsSound t i → IsComplete i
has_lists t i s = each.now IsComplete i s.right.trail s.lists

-- lists behind more words
list_words : (t : NameTable) (i : Image) → IsSound t i → (ws : List ℕ) → IsComplete (appended i ws)
list_words t i s ws = complete_words i (has_constraints t i s) (has_lists t i s) ws

-- more names

pub sound_names : (t u : NameTable) (i : Image) → KeepsNames t u (length i.region) → (HasDistinct t.texts → HasDistinct u.texts) → IsSound t i → IsSound u i
sound_names t u i keeps distinct s =
    let more : HasMoreNames (names_of t) (names_of u) (length i.region) = λ n k text le e. keeps.same n k le ∙ e in
    record {
      cells = keeps.texts 0 cell_name s.cells;
      distinct = distinct s.distinct;
      right = right.by_names (names_of t) (names_of u) i more s.right;
      bound = bound.by_names (names_of t) (names_of u) i more s.bound;
      constraints = kept.by_names IsConstraintIn constraint_stays Table.Constraints (names_of t) (names_of u) i more s.constraints;
      agents = kept.by_names IsAgentIn agent_stays Table.Agents (names_of t) (names_of u) i more s.agents;
      waiting = kept.by_names IsWaitingIn waiting_stays Table.Waiting (names_of t) (names_of u) i more s.waiting;
      taken = s.taken;
      lists = s.lists;
    }

-- more words

pub sound_words : (t : NameTable) (i : Image) (ws : List ℕ) → WritesRight (heap_of t i) (i.region ++ ws) → IsSound t i → IsSound t (appended i ws)
sound_words t i ws writes s = record {
  cells = s.cells;
  distinct = s.distinct;
  right = right.by_writes (names_of t) i ws (stay t) s.right writes;
  bound = bound.by_words (names_of t) i ws (stay t) s.right s.bound;
  constraints = kept.by_words IsConstraintIn constraint_stays Table.Constraints (names_of t) i s.right.trail s.constraints (stay t) ws;
  agents = kept.by_words IsAgentIn agent_stays Table.Agents (names_of t) i s.right.trail s.agents (stay t) ws;
  waiting = kept.by_words IsWaitingIn waiting_stays Table.Waiting (names_of t) i s.right.trail s.waiting (stay t) ws;
  taken = each.by_words IsTakenWithin i s.right.trail s.taken (λ vs. has_taken t i s) ws;
  lists = each.by_words IsComplete i s.right.trail s.lists (list_words t i s) ws;
}

sound_data : (t : NameTable) (i : Image) → IsSound t i → IsSound t (appended i (data_of 0 ∷ []))
sound_data t i s = record {
  cells = s.cells;
  distinct = s.distinct;
  right = right.by_word (names_of t) i (data_of 0) (stay t) s.right (data_word (heap_of t i) 0);
  bound = bound.by_words (names_of t) i (data_of 0 ∷ []) (stay t) s.right s.bound;
  constraints = kept.by_words IsConstraintIn constraint_stays Table.Constraints (names_of t) i s.right.trail s.constraints (stay t) (data_of 0 ∷ []);
  agents = kept.by_words IsAgentIn agent_stays Table.Agents (names_of t) i s.right.trail s.agents (stay t) (data_of 0 ∷ []);
  waiting = kept.by_words IsWaitingIn waiting_stays Table.Waiting (names_of t) i s.right.trail s.waiting (stay t) (data_of 0 ∷ []);
  taken = each.by_words IsTakenWithin i s.right.trail s.taken (λ vs. has_taken t i s) (data_of 0 ∷ []);
  lists = each.by_words IsComplete i s.right.trail s.lists (list_words t i s) (data_of 0 ∷ []);
}

pub sound_numbered : (t u : NameTable) (i j : Image) (name : List ℕ) → IsNumbered t u i j name → IsSound t i → IsSound u j
sound_numbered t u i j name is s =
    let v : IsSound u i = sound_names t u i is.keeps is.distinct s in
    ⊎_elim
    (λ e. subst (IsSound u) (sym e) v)
    (λ e. subst (IsSound u) (sym e) (sound_data u i v))
    is.words

-- a change of the variables

pub sound_variable : (t : NameTable) (i : Image) → IsSound t i → IsSound t (pushed i Table.Variables 0)
sound_variable t i s = record {
  cells = s.cells;
  distinct = s.distinct;
  right = right.by_push (names_of t) i Table.Variables 0 s.right;
  bound = bound.by_new (names_of t) i (stay t) s.right s.bound;
  constraints = kept.by_other_push IsConstraintIn constraint_stays Table.Constraints (names_of t) i s.right.trail s.constraints (stay t) Table.Variables 0 (λ e. absurd (cc));
  agents = kept.by_other_push IsAgentIn agent_stays Table.Agents (names_of t) i s.right.trail s.agents (stay t) Table.Variables 0 (λ e. absurd (cc));
  waiting = kept.by_other_push IsWaitingIn waiting_stays Table.Waiting (names_of t) i s.right.trail s.waiting (stay t) Table.Variables 0 (λ e. absurd (cc));
  taken = each.by_push IsTakenWithin i s.right.trail s.taken (λ vs. has_taken t i s) Table.Variables 0 (has_taken t i s);
  lists = each.by_push IsComplete i s.right.trail s.lists (list_words t i s) Table.Variables 0 (complete_variable i (has_constraints t i s) (has_lists t i s));
}

pub sound_binding : (t : NameTable) (i : Image) (n r : ℕ) → IsRefIn (heap_of t i) (form_of r) → IsComplete (replaced i Table.Variables n (suc r)) → IsSound t i → IsSound t (replaced i Table.Variables n (suc r))
sound_binding t i n r is complete s = record {
  cells = s.cells;
  distinct = s.distinct;
  right = right.by_replace (names_of t) i Table.Variables n (suc r) s.right;
  bound = bound.by_binding (names_of t) i n r (stay t) s.right s.bound is;
  constraints = kept.by_other_replace IsConstraintIn constraint_stays Table.Constraints (names_of t) i s.right.trail s.constraints (stay t) Table.Variables n (suc r) (λ e. absurd (cc));
  agents = kept.by_other_replace IsAgentIn agent_stays Table.Agents (names_of t) i s.right.trail s.agents (stay t) Table.Variables n (suc r) (λ e. absurd (cc));
  waiting = kept.by_other_replace IsWaitingIn waiting_stays Table.Waiting (names_of t) i s.right.trail s.waiting (stay t) Table.Variables n (suc r) (λ e. absurd (cc));
  taken = each.by_replace IsTakenWithin i s.right.trail s.taken (λ vs. has_taken t i s) Table.Variables n (suc r) (has_taken t i s);
  lists = each.by_replace IsComplete i s.right.trail s.lists (list_words t i s) Table.Variables n (suc r) complete;
}

pub sound_undo : (t : NameTable) (i : Image) (n : ℕ) → IsSound t i → IsSound t (at_length n i)
sound_undo t i n s = record {
  cells = s.cells;
  distinct = s.distinct;
  right = right.by_undo (names_of t) i s.right n;
  bound = bound.by_undo (names_of t) i s.right s.bound n;
  constraints = kept.by_undo IsConstraintIn constraint_stays Table.Constraints (names_of t) i s.right.trail s.constraints n;
  agents = kept.by_undo IsAgentIn agent_stays Table.Agents (names_of t) i s.right.trail s.agents n;
  waiting = kept.by_undo IsWaitingIn waiting_stays Table.Waiting (names_of t) i s.right.trail s.waiting n;
  taken = each.by_undo IsTakenWithin i s.right.trail s.taken n;
  lists = each.by_undo IsComplete i s.right.trail s.lists n;
}

pub sound_domain : (t : NameTable) (i : Image) (n end : ℕ) → end ≤ length i.region → IsSound t i → IsSound t (replaced i Table.Variables n (8 * end))
sound_domain t i n end le s = record {
  cells = s.cells;
  distinct = s.distinct;
  right = right.by_replace (names_of t) i Table.Variables n (8 * end) s.right;
  bound = bound.by_domain (names_of t) i n end (stay t) s.right s.bound le;
  constraints = kept.by_other_replace IsConstraintIn constraint_stays Table.Constraints (names_of t) i s.right.trail s.constraints (stay t) Table.Variables n (8 * end) (λ e. absurd (cc));
  agents = kept.by_other_replace IsAgentIn agent_stays Table.Agents (names_of t) i s.right.trail s.agents (stay t) Table.Variables n (8 * end) (λ e. absurd (cc));
  waiting = kept.by_other_replace IsWaitingIn waiting_stays Table.Waiting (names_of t) i s.right.trail s.waiting (stay t) Table.Variables n (8 * end) (λ e. absurd (cc));
  taken = each.by_replace IsTakenWithin i s.right.trail s.taken (λ vs. has_taken t i s) Table.Variables n (8 * end) (has_taken t i s);
  lists = each.by_replace IsComplete i s.right.trail s.lists (list_words t i s) Table.Variables n (8 * end) (complete_domain i n end (has_constraints t i s) (has_lists t i s));
}

-- one more constraint

constraint_pushed : (i : Image) (w : ℕ) → w ≤ length i.region → w ≤ length (pushed i Table.Constraints w).region
constraint_pushed i w le = omega (arith, length-append i.region (push_word i Table.Constraints ∷ []))

pub sound_constraint : (t : NameTable) (i : Image) (w : ℕ) → w ≤ length i.region → ((n v : ℕ) → SpeaksOf (constraint_at i.region w) n → Leads i.variables n v → IsOnList i v (length i.constraints)) → IsSound t i → IsSound t (pushed i Table.Constraints w)
sound_constraint t i w le put s = record {
  cells = s.cells;
  distinct = s.distinct;
  right = right.by_push (names_of t) i Table.Constraints w s.right;
  bound = bound.by_push (names_of t) i Table.Constraints w (λ e. absurd (cc)) (stay t) s.right s.bound;
  constraints = kept.by_push IsConstraintIn constraint_stays Table.Constraints (names_of t) i s.right.trail s.constraints (stay t) w (constraint_pushed i w le);
  agents = kept.by_other_push IsAgentIn agent_stays Table.Agents (names_of t) i s.right.trail s.agents (stay t) Table.Constraints w (λ e. absurd (cc));
  waiting = kept.by_other_push IsWaitingIn waiting_stays Table.Waiting (names_of t) i s.right.trail s.waiting (stay t) Table.Constraints w (λ e. absurd (cc));
  taken = each.by_push IsTakenWithin i s.right.trail s.taken (λ vs. has_taken t i s) Table.Constraints w (has_taken t i s);
  lists = each.by_push IsComplete i s.right.trail s.lists (list_words t i s) Table.Constraints w (complete_posted i w (has_constraints t i s) (has_lists t i s) le put);
}

-- agents

-- one more word of the agents, and another one in its place
pub sound_agent : (t : NameTable) (i : Image) (w : ℕ) → IsAgentIn (heap_of t (pushed i Table.Agents w)) w → IsSound t i → IsSound t (pushed i Table.Agents w)
sound_agent t i w is s = record {
  cells = s.cells;
  distinct = s.distinct;
  right = right.by_push (names_of t) i Table.Agents w s.right;
  bound = bound.by_push (names_of t) i Table.Agents w (λ e. absurd (cc)) (stay t) s.right s.bound;
  constraints = kept.by_other_push IsConstraintIn constraint_stays Table.Constraints (names_of t) i s.right.trail s.constraints (stay t) Table.Agents w (λ e. absurd (cc));
  agents = kept.by_push IsAgentIn agent_stays Table.Agents (names_of t) i s.right.trail s.agents (stay t) w is;
  waiting = kept.by_other_push IsWaitingIn waiting_stays Table.Waiting (names_of t) i s.right.trail s.waiting (stay t) Table.Agents w (λ e. absurd (cc));
  taken = each.by_push IsTakenWithin i s.right.trail s.taken (λ vs. has_taken t i s) Table.Agents w (has_taken t i s);
  lists = each.by_push IsComplete i s.right.trail s.lists (list_words t i s) Table.Agents w (complete_agent i w (has_constraints t i s) (has_lists t i s));
}

pub sound_agent_for : (t : NameTable) (i : Image) (n w : ℕ) → IsAgentIn (heap_of t (replaced i Table.Agents n w)) w → IsSound t i → IsSound t (replaced i Table.Agents n w)
sound_agent_for t i n w is s = record {
  cells = s.cells;
  distinct = s.distinct;
  right = right.by_replace (names_of t) i Table.Agents n w s.right;
  bound = bound.by_replace (names_of t) i Table.Agents n w (λ e. absurd (cc)) (stay t) s.right s.bound;
  constraints = kept.by_other_replace IsConstraintIn constraint_stays Table.Constraints (names_of t) i s.right.trail s.constraints (stay t) Table.Agents n w (λ e. absurd (cc));
  agents = kept.by_replace IsAgentIn agent_stays Table.Agents (names_of t) i s.right.trail s.agents (stay t) n w is;
  waiting = kept.by_other_replace IsWaitingIn waiting_stays Table.Waiting (names_of t) i s.right.trail s.waiting (stay t) Table.Agents n w (λ e. absurd (cc));
  taken = each.by_replace IsTakenWithin i s.right.trail s.taken (λ vs. has_taken t i s) Table.Agents n w (has_taken t i s);
  lists = each.by_replace IsComplete i s.right.trail s.lists (list_words t i s) Table.Agents n w (complete_agent_for i n w (has_constraints t i s) (has_lists t i s));
}

-- what waits: one more, and one more that is taken

pub sound_waiting : (t : NameTable) (i : Image) (w : ℕ) → IsWaitingIn (heap_of t (pushed i Table.Waiting w)) w → IsSound t i → IsSound t (pushed i Table.Waiting w)
sound_waiting t i w is s = record {
  cells = s.cells;
  distinct = s.distinct;
  right = right.by_push (names_of t) i Table.Waiting w s.right;
  bound = bound.by_push (names_of t) i Table.Waiting w (λ e. absurd (cc)) (stay t) s.right s.bound;
  constraints = kept.by_other_push IsConstraintIn constraint_stays Table.Constraints (names_of t) i s.right.trail s.constraints (stay t) Table.Waiting w (λ e. absurd (cc));
  agents = kept.by_other_push IsAgentIn agent_stays Table.Agents (names_of t) i s.right.trail s.agents (stay t) Table.Waiting w (λ e. absurd (cc));
  waiting = kept.by_push IsWaitingIn waiting_stays Table.Waiting (names_of t) i s.right.trail s.waiting (stay t) w is;
  taken = each.by_push IsTakenWithin i s.right.trail s.taken (λ vs. has_taken t i s) Table.Waiting w (let before : taken_in i ≤ length i.waiting = has_taken t i s in omega (arith, length-append i.waiting (w ∷ [])));
  lists = each.by_push IsComplete i s.right.trail s.lists (list_words t i s) Table.Waiting w (complete_waiting i w (has_constraints t i s) (has_lists t i s));
}

-- heads: a zero more, and another word for one of them

pub sound_pad : (t : NameTable) (i : Image) → IsSound t i → IsSound t (pushed i Table.Heads 0)
sound_pad t i s = record {
  cells = s.cells;
  distinct = s.distinct;
  right = right.by_push (names_of t) i Table.Heads 0 s.right;
  bound = bound.by_push (names_of t) i Table.Heads 0 (λ e. absurd (cc)) (stay t) s.right s.bound;
  constraints = kept.by_other_push IsConstraintIn constraint_stays Table.Constraints (names_of t) i s.right.trail s.constraints (stay t) Table.Heads 0 (λ e. absurd (cc));
  agents = kept.by_other_push IsAgentIn agent_stays Table.Agents (names_of t) i s.right.trail s.agents (stay t) Table.Heads 0 (λ e. absurd (cc));
  waiting = kept.by_other_push IsWaitingIn waiting_stays Table.Waiting (names_of t) i s.right.trail s.waiting (stay t) Table.Heads 0 (λ e. absurd (cc));
  taken = each.by_push IsTakenWithin i s.right.trail s.taken (λ vs. has_taken t i s) Table.Heads 0 (let few : taken_in i ≤ length i.waiting = has_taken t i s in omega (arith, read_zero i.heads 0));
  lists = each.by_push IsComplete i s.right.trail s.lists (list_words t i s) Table.Heads 0 (complete_pad i (has_constraints t i s) (has_lists t i s));
}

pub sound_head : (t : NameTable) (i : Image) (place w : ℕ) → IsTakenWithin (replaced i Table.Heads place w) → IsComplete (replaced i Table.Heads place w) → IsSound t i → IsSound t (replaced i Table.Heads place w)
sound_head t i place w within complete s = record {
  cells = s.cells;
  distinct = s.distinct;
  right = right.by_replace (names_of t) i Table.Heads place w s.right;
  bound = bound.by_replace (names_of t) i Table.Heads place w (λ e. absurd (cc)) (stay t) s.right s.bound;
  constraints = kept.by_other_replace IsConstraintIn constraint_stays Table.Constraints (names_of t) i s.right.trail s.constraints (stay t) Table.Heads place w (λ e. absurd (cc));
  agents = kept.by_other_replace IsAgentIn agent_stays Table.Agents (names_of t) i s.right.trail s.agents (stay t) Table.Heads place w (λ e. absurd (cc));
  waiting = kept.by_other_replace IsWaitingIn waiting_stays Table.Waiting (names_of t) i s.right.trail s.waiting (stay t) Table.Heads place w (λ e. absurd (cc));
  taken = each.by_replace IsTakenWithin i s.right.trail s.taken (λ vs. has_taken t i s) Table.Heads place w within;
  lists = each.by_replace IsComplete i s.right.trail s.lists (list_words t i s) Table.Heads place w complete;
}

-- What it gives

pub has_agents : (t : NameTable) (i : Image) → IsSound t i → (n : ℕ) → IsAgentIn (heap_of t i) (slice_index i.agents n)
has_agents t i s n = kept.kept_now IsAgentIn agent_stays Table.Agents (names_of t) i s.right.trail s.agents n

pub has_waiting : (t : NameTable) (i : Image) → IsSound t i → (n : ℕ) → IsWaitingIn (heap_of t i) (slice_index i.waiting n)
has_waiting t i s n = kept.kept_now IsWaitingIn waiting_stays Table.Waiting (names_of t) i s.right.trail s.waiting n

pub has_words : (t : NameTable) (i : Image) → IsSound t i → (n : ℕ) → IsBoundIn (heap_of t i) (slice_index i.variables n)
has_words t i s n = bound.kept_at (names_of t) i s.right s.bound n

-- the word of a variable that is bound
bound_by : (b : Bool) (w : ℕ) (q : Ref) → (w % 8 == 0) ≡ b → bound_ref_by b w ≡ Some q → (w % 8 ≢ 0) × (q.number ≡ w - 1)
bound_by true w q e is = absurd (cc)
bound_by false w q e is = (not_none (w % 8) e, number is)
  where
    not_none : (n : ℕ) → (n == 0) ≡ false → n ≢ 0
    not_none n e = grind (arith, nat_tests)

    number : Some (record { number = w - 1 }) ≡ Some q → q.number ≡ w - 1
    number is = let same : record { number = w - 1 } ≡ q = cc in ap (λ (r : Ref). r.number) (sym same)

pub has_bound : (t : NameTable) (i : Image) → IsSound t i → HasBound (heap_of t i) i.variables
has_bound t i s n q e =
    let w : ℕ = slice_index i.variables n in
    let b = bound_by (w % 8 == 0) w q refl e in
    let x = bound.bound_trees (names_of t) i (stay t) s.right s.bound n b.0 in
    (x.0, ap (term_at (heap_of t i)) b.1 ∙ x.1)

pub term_is_ref : (t : NameTable) (i : Image) → IsSound t i → (r : ℕ) (u : Tree) → term_at (heap_of t i) r ≡ Some u → IsRefIn (heap_of t i) (form_of r)
term_is_ref t i s r u e = right.are_refs (names_of t) i (stay t) s.right r u e

pub ref_has_term : (t : NameTable) (i : Image) → IsSound t i → (r : ℕ) → IsRefIn (heap_of t i) (form_of r) → (u : Tree) × (term_at (heap_of t i) r ≡ Some u)
ref_has_term t i s r is = right.have_trees (names_of t) i (stay t) s.right r is

-- no Ref is the greatest number
pub ref_below : (h : Heap) (r : ℕ) → IsRefIn h (form_of r) → r < 2 ^ 64 → suc r < 2 ^ 64
ref_below h r is lt = ⊎_elim (λ less. less) (λ most. absurd (no_data (omega arith))) (cases_lt (suc r) (2 ^ 64))
  where
    no_data : r % 8 ≡ 7 → ⊥
    no_data e = subst (IsRefIn h) (ap (λ tag. form_with tag (r / 8)) e) is
