-- What calls of a store keep: good marks, terms and names; and the state, where no table changes.
use Rattle.std.proofs.Common.{◌≡◌, ◌≢◌, ℕ, zero, suc, ◌-◌, ◌/◌, ◌%◌, ◌==◌, ◌≤◌, ⊎_elim, min, Bool, true, false, List, [], ◌∷◌, ◌++◌, length, map, drop, slice_index, Some, None, option_map, refl, ap, sym, subst, ◌∙◌, arith}
use Rattle.std.proofs.lemmas.Bool.{leb-true, le-leb}
use Rattle.std.proofs.lemmas.Bool.Decides.{nat_tests}
use Rattle.std.proofs.lemmas.List.{map-append, length-map}
use Rattle.std.proofs.lemmas.Option.{get_or_from_slice_get}
use Rattle.pi_terms.specs.Tree.{Tree, var}
use Rattle.pi_terms.proofs.GetLemmas.{map_same}
use Rattle.pi_constraints.specs.State.{State, free, within, bound, with_new, next}
use Rattle.pi_constraints.specs.Store.{Moment, Keeps, Stays, Gives, Marks, Returns, IsGood}
use Rattle.pi_constraints.specs.declared.store.Ref.{Ref}
use Rattle.pi_region.specs.Entry.{data_of}
use Rattle.pi_region.specs.Image.{Image, pushed}
use Rattle.pi_region.specs.Back.{at_length, Advances}
use Rattle.pi_region.specs.declared.entry.Table.{Table}
use Rattle.pi_region.proofs.BackLemmas.{from_itself, two_parts, len_back}
use Rattle.pi_region.proofs.ChangeLemmas.{appended_advances}
use Rattle.pi_store_blocks.specs.Heap.{Heap, term_at, Grows, Appends}
use Rattle.pi_store_blocks.specs.Placed.{WritesRight}
use Rattle.pi_store_blocks.proofs.HeapLemmas.{trees_stay}
use Rattle.pi_store_blocks.proofs.PastLemmas.{now_is, before, heaps_grow}
use Rattle.pi_store_blocks.specs.Block.{block_at}
use Rattle.pi_store_blocks.proofs.BlockLemmas.{in_more}
use Rattle.pi_store_blocks.specs.Domain.{domain_in}
use Rattle.pi_store_blocks.specs.Bound.{IsBoundIn}
use Rattle.pi_store_blocks.specs.ConstraintTable.{constraint_at, IsConstraintIn}
use Rattle.pi_store_blocks.proofs.ConstraintTables.{same_constraint}
use Rattle.pi_store_blocks.specs.NameTable.{NameTable, names_of}
use Rattle.pi_store.specs.Heads.{taken_in}
use Rattle.pi_store.specs.declared.mark.RawMark.{RawMark}
use Rattle.pi_store.specs.Waiting.{activation_of, IsWaitingIn}
use Rattle.pi_store.specs.Holding.{unbound_at, variable_by, variable_in, agent_in, activation_in, waiting_in, heap_of, state_of, words_of, moment_of, beside_in, view_of, order}
use Rattle.pi_store.specs.Sound.{IsSound}
use Rattle.pi_store.specs.Changed.{KeepsNames, IsNumbered}
use Rattle.pi_store.specs.Added.{SameTables}
use Rattle.pi_store.proofs.NameLemmas.{stay, keeps_itself, heap_kept}
use Rattle.pi_store.proofs.PartLemmas.{stays_itself}
use Rattle.pi_store.proofs.SoundLemmas.{has_words, has_constraints, has_agents, has_waiting, ref_has_term, sound_words}
use Rattle.pi_store.proofs.AgentLemmas.{RefsHaveTrees, tree_stays, agents_stay}

-- Moments

over : Heap → Image → Moment
over h i = record { state = state_of h i; terms = term_at h; words = words_of i }

pub moment_kept : (t u : NameTable) (i : Image) (len : ℕ) → KeepsNames t u len → length i.region ≤ len → moment_of u i ≡ moment_of t i
unfolding over
moment_kept t u i len keeps le = ap (λ h. over h i) (heap_kept t u i len keeps le)

pub heap_grows : (t u : NameTable) (i j : Image) → KeepsNames t u (length i.region) → Advances i j → Grows (heap_of t i) (heap_of u j)
heap_grows t u i j keeps a =
    subst (λ (h : Heap). Grows h (heap_of u j)) (heap_kept t u i (length i.region) keeps (omega arith)) (heaps_grow (names_of u) i j (stay u) a)

pub keeps_all : (t u : NameTable) (i j : Image) → KeepsNames t u (length i.region) → Advances i j → Keeps (view_of t i) (view_of u j)
keeps_all t u i j keeps a = record {
  good = λ m e.
      let le : m.length ≤ length i.region = leb-true m.length (length i.region) e in
      let more : length i.region ≤ length j.region = a.longer in
      le-leb m.length (length j.region) (omega arith);
  same = λ m e.
      let le : m.length ≤ length i.region = leb-true m.length (length i.region) e in
      let l : length (at_length m.length i).region ≡ min m.length (length i.region) = len_back m.length i in
      ap (moment_of u) (before i j m.length a le) ∙ moment_kept t u (at_length m.length i) (length i.region) keeps (omega arith);
  beside = λ m. refl;
  terms = λ r x e. trees_stay (heap_of t i) (heap_of u j) (heap_grows t u i j keeps a) r.number x e;
  names = λ k name e. keeps.texts k name e;
}

-- The state

unbound_stays : (h k : Heap) → Grows h k → (end : ℕ) → end ≤ length h.words → unbound_at k end ≡ unbound_at h end
unbound_stays h k grows zero le = refl
unbound_stays h k grows (suc last) le = ap (λ ns. within (domain_in ns)) (ap (λ ws. block_at ws (suc last)) grows.words.1 ∙ in_more h.words grows.words.0 (suc last) le)

variable_stays : (h k : Heap) → Grows h k → RefsHaveTrees h → (b : Bool) (w : ℕ) → (w % 8 == 0) ≡ b → IsBoundIn h w → variable_by b k w ≡ variable_by b h w
variable_stays h k grows has true w e is = unbound_stays h k grows (w / 8) (is.place (none (w % 8) e))
  where
    none : (n : ℕ) → (n == 0) ≡ true → n ≡ 0
    none n e = grind (arith, nat_tests)
variable_stays h k grows has false w e is = ap bound (tree_stays h k grows has (w - 1) (is.ref (some (w % 8) e)))
  where
    some : (n : ℕ) → (n == 0) ≡ false → n ≢ 0
    some n e = grind (arith, nat_tests)

variables_stay : (h k : Heap) → Grows h k → RefsHaveTrees h → (vs : List ℕ) → ((n : ℕ) → IsBoundIn h (slice_index vs n)) → map (variable_in k) vs ≡ map (variable_in h) vs
variables_stay h k grows has vs are =
    map_same (variable_in k) (variable_in h) vs (λ n w e. variable_stays h k grows has (w % 8 == 0) w refl (subst (IsBoundIn h) (get_or_from_slice_get vs n w 0 e) (are n)))

activation_stays : (h k : Heap) → Grows h k → RefsHaveTrees h → (w : ℕ) → IsWaitingIn h w → activation_in k w ≡ activation_in h w
activation_stays h k grows has zero is = refl
activation_stays h k grows has (suc w) is = ap activation_of (tree_stays h k grows has (suc w) is)

waiting_stays : (h k : Heap) → Grows h k → RefsHaveTrees h → (ws : List ℕ) → ((n : ℕ) → IsWaitingIn h (slice_index ws n)) → map (activation_in k) ws ≡ map (activation_in h) ws
waiting_stays h k grows has ws are = map_same (activation_in k) (activation_in h) ws (λ n w e. activation_stays h k grows has w (subst (IsWaitingIn h) (get_or_from_slice_get ws n w 0 e) (are n)))

-- a state by its parts
pub same_states : (r q : State) → r.variables ≡ q.variables → r.constraints ≡ q.constraints → r.agents ≡ q.agents → r.waiting ≡ q.waiting → r ≡ q
same_states r q v c a w =
    ap (λ x. record r { variables = x }) v ∙ (ap (λ x. record { variables = q.variables; constraints = x; agents = r.agents; waiting = r.waiting }) c
    ∙ (ap (λ x. record { variables = q.variables; constraints = q.constraints; agents = x; waiting = r.waiting }) a ∙ ap (λ x. record q { waiting = x }) w))

pub same_itself : (i : Image) → SameTables i i
same_itself i = record { variables = refl; constraints = refl; agents = refl; waiting = refl; taken = refl }

pub same_then : (i j k : Image) → SameTables i j → SameTables j k → SameTables i k
same_then i j k s q = record {
  variables = q.variables ∙ s.variables;
  constraints = q.constraints ∙ s.constraints;
  agents = q.agents ∙ s.agents;
  waiting = q.waiting ∙ s.waiting;
  taken = q.taken ∙ s.taken;
}

pub same_appended : (i j : Image) → Appends i j → SameTables i j
same_appended i j more = subst (SameTables i) (sym more.1) (record { variables = refl; constraints = refl; agents = refl; waiting = refl; taken = refl })

-- what the tables of the first image say is the same in what terms are read from behind it
pub record PartsStay (h k : Heap) (i : Image) : Type 0 where
  pub variables : map (variable_in k) i.variables ≡ map (variable_in h) i.variables
  pub constraints : map (constraint_at k.words) i.constraints ≡ map (constraint_at h.words) i.constraints
  pub agents : map (agent_in k) i.agents ≡ map (agent_in h) i.agents
  pub waiting : map (activation_in k) i.waiting ≡ map (activation_in h) i.waiting

pub parts_stay : (t u : NameTable) (i j : Image) → IsSound t i → Grows (heap_of t i) (heap_of u j) → PartsStay (heap_of t i) (heap_of u j) i
parts_stay t u i j s grows =
    let h : Heap = heap_of t i in
    let k : Heap = heap_of u j in
    record {
      variables = variables_stay h k grows (ref_has_term t i s) i.variables (has_words t i s);
      constraints = map_same (constraint_at k.words) (constraint_at h.words) i.constraints (λ n w e. same_constraint h k grows w (subst (IsConstraintIn h) (get_or_from_slice_get i.constraints n w 0 e) (has_constraints t i s n)));
      agents = agents_stay h k grows (ref_has_term t i s) i.agents (has_agents t i s);
      waiting = waiting_stays h k grows (ref_has_term t i s) i.waiting (has_waiting t i s);
    }

-- the tables of the second one say the same where they are the same
pub record SameParts (h k : Heap) (i j : Image) : Type 0 where
  pub variables : j.variables ≡ i.variables → map (variable_in k) j.variables ≡ map (variable_in h) i.variables
  pub constraints : j.constraints ≡ i.constraints → map (constraint_at k.words) j.constraints ≡ map (constraint_at h.words) i.constraints
  pub agents : j.agents ≡ i.agents → map (agent_in k) j.agents ≡ map (agent_in h) i.agents
  pub waiting : j.waiting ≡ i.waiting → taken_in j ≡ taken_in i → waiting_in k j ≡ waiting_in h i

pub same_parts : (h k : Heap) (i j : Image) → PartsStay h k i → SameParts h k i j
same_parts h k i j p = record {
  variables = λ e. ap (map (variable_in k)) e ∙ p.variables;
  constraints = λ e. ap (map (constraint_at k.words)) e ∙ p.constraints;
  agents = λ e. ap (map (agent_in k)) e ∙ p.agents;
  waiting = λ e f. ap (λ n. drop n (map (activation_in k) j.waiting)) f ∙ (ap (λ ws. drop (taken_in i) (map (activation_in k) ws)) e ∙ ap (drop (taken_in i)) p.waiting);
}

pub stays_all : (t u : NameTable) (i j : Image) → IsSound t i → KeepsNames t u (length i.region) → Advances i j → SameTables i j → Stays (view_of t i) (view_of u j)
stays_all t u i j s keeps a same =
    let p = same_parts (heap_of t i) (heap_of u j) i j (parts_stay t u i j s (heap_grows t u i j keeps a)) in
    record {
      keeps = keeps_all t u i j keeps a;
      state = same_states _ _ (p.variables same.variables) (p.constraints same.constraints) (p.agents same.agents) (p.waiting same.waiting same.taken);
    }

-- A name that gets a number

pub advances_numbered : (t u : NameTable) (i j : Image) (name : List ℕ) → IsNumbered t u i j name → IsSound t i → Advances i j
advances_numbered t u i j name is s = ⊎_elim
    (λ e. subst (Advances i) (sym e) (from_itself i s.right.trail))
    (λ e. subst (Advances i) (sym e) (appended_advances i (data_of 0 ∷ []) s.right.trail))
    is.words

pub tables_numbered : (t u : NameTable) (i j : Image) (name : List ℕ) → IsNumbered t u i j name → SameTables i j
tables_numbered t u i j name is = ⊎_elim (λ e. subst (SameTables i) (sym e) (same_itself i)) (λ e. same_appended i j (data_of 0 ∷ [], e)) is.words

pub stays_numbered : (t u : NameTable) (i j : Image) (name : List ℕ) → IsNumbered t u i j name → IsSound t i → Stays (view_of t i) (view_of u j)
stays_numbered t u i j name is s = stays_all t u i j s is.keeps (advances_numbered t u i j name is s) (tables_numbered t u i j name is)

-- Words that are appended

pub advances_appends : (i j : Image) → i.trail ≤ length i.region → Appends i j → Advances i j
advances_appends i j low more = subst (Advances i) (sym more.1) (appended_advances i more.0 low)

pub sound_appends : (t : NameTable) (i j : Image) → Appends i j → WritesRight (heap_of t i) j.region → IsSound t i → IsSound t j
sound_appends t i j more writes s =
    subst (IsSound t) (sym more.1) (sound_words t i more.0 (subst (WritesRight (heap_of t i)) (ap (λ (k : Image). k.region) more.1) writes) s)

pub gives_appended : (t : NameTable) (i j : Image) (r : Ref) (x : Tree) → Appends i j → IsSound t i → term_at (heap_of t j) r.number ≡ Some x → Gives (view_of t i) (view_of t j) (state_of (heap_of t i) i) r x
gives_appended t i j r x more s term = record {
  changes = stays_all t t i j s (keeps_itself t (length i.region)) (advances_appends i j s.right.trail more) (same_appended i j more);
  term = term;
}

-- One more variable

pub gives_variable : (t : NameTable) (i j : Image) (r : Ref) → IsSound t i → j ≡ pushed i Table.Variables 0 → Advances i j → term_at (heap_of t j) r.number ≡ Some (var (length i.variables))
    → Gives (view_of t i) (view_of t j) (with_new (state_of (heap_of t i) i)) r (var (next (state_of (heap_of t i) i)))
gives_variable t i j r s is a term =
    let keeps : KeepsNames t t (length i.region) = keeps_itself t (length i.region) in
    let grows : Grows (heap_of t i) (heap_of t j) = heap_grows t t i j keeps a in
    let more : j.variables ≡ i.variables ++ 0 ∷ [] = ap (λ (k : Image). k.variables) is in
    let p = parts_stay t t i j s grows in
    let q = same_parts (heap_of t i) (heap_of t j) i j p in
    let all : map (variable_in (heap_of t j)) j.variables ≡ map (variable_in (heap_of t i)) i.variables ++ free ∷ [] =
    ap (map (variable_in (heap_of t j))) more ∙ (map-append (variable_in (heap_of t j)) i.variables (0 ∷ []) ∙ ap (λ xs. xs ++ free ∷ []) p.variables) in
    record {
      changes = record { keeps = keeps_all t t i j keeps a; state = same_states _ _ all (q.constraints (ap (λ (k : Image). k.constraints) is)) (q.agents (ap (λ (k : Image). k.agents) is)) (q.waiting (ap (λ (k : Image). k.waiting) is) (ap taken_in is)) };
      term = term ∙ ap (λ n. Some (var n)) (sym (length-map i.variables (variable_in (heap_of t i))));
    }

-- Marks

pub marks_now : (t : NameTable) (i : Image) (m : RawMark) → IsSound t i → m.length ≡ length i.region → m.beside ≡ None → Marks order (view_of t i) (view_of t i) m
marks_now t i m s is nothing =
    let same : at_length m.length i ≡ i = ap (λ n. at_length n i) is ∙ now_is i s.right.trail in
    record {
      stays = stays_itself t i;
      good = le-leb m.length (length i.region) (omega arith);
      brings_back = ap (moment_of t) same;
      nothing = ap (option_map (λ k. beside_in m.length k.value)) nothing;
      newest = λ n e. let le : n.length ≤ length i.region = leb-true n.length (length i.region) e in omega arith;
    }

pub returns_to : (t : NameTable) (i j : Image) (m : RawMark) → j ≡ at_length m.length i → IsGood (view_of t i) m → Returns order (view_of t i) (view_of t j) m
returns_to t i j m is good =
    let l : length j.region ≡ min m.length (length i.region) = ap (λ (k : Image). length k.region) is ∙ len_back m.length i in
    record {
      now = ap (moment_of t) is;
      beside = λ n. refl;
      good = λ n e older. let le : n.length ≤ length i.region = leb-true n.length (length i.region) e in let o : n.length ≤ m.length = older in le-leb n.length (length j.region) (omega arith);
      same = λ n e older. let o : n.length ≤ m.length = older in ap (λ k. moment_of t (at_length n.length k)) is ∙ ap (moment_of t) (two_parts n.length m.length i o);
      names = λ k name e. e;
    }
