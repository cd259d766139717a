-- Where a loop stands.
use Rattle.std.proofs.Common.{◌≡◌, ℕ, ◌+◌, ◌<◌, ◌≤◌, cond, List, [], ◌∷◌, ◌++◌, length, get_or, drop, refl, sym, ◌∙◌, ap, append_assoc}
use Rattle.std.specs.Borrow.{Bor}
use Rattle.std.proofs.lemmas.List.{append-nil, drop_all}
use Rattle.pi_terms.specs.Tree.{Tree, comp, trees_of}
use Rattle.pi_syntax.specs.PrintTerm.{array_name}
use Rattle.pi_core.specs.GoalTree.{GoalTree}
use Rattle.pi_meaning.specs.OverNames.Texts.{Names}
use Rattle.pi_rewrite_slots.specs.Indexed.{names_in}
use Rattle.pi_rewrite_slots.proofs.FlatLemmas.{drop-next}
use Rattle.pi_rewrite_spec.specs.Slots.{SlotNames, slot_for, slots_for}
use Rattle.pi_rewrite_spec.specs.Values.{SlotTerms, slot_terms, slot_term, is_below, filling}
use Rattle.pi_rewrite_spec.specs.Loops.{Loop, as_written, started, slots_for_names, slots_from, kept_goals, with_values, entered, loop_goals}
use Rattle.pi_rewrite_loops.specs.Parts.{AreGoals, goals_before}
use Rattle.pi_rewrite_loops.specs.Turns.{entry_call}

-- ---- names as they are written: those so far stand in front of those that are left

pub record WrittenTo (names : List (Bor (List ℕ))) (ns : SlotNames) (i : ℕ) (ms : SlotNames) (ts : List Tree) : Type 0 where
  pub trees : ts ++ (slot_terms (as_written (names_in (drop i names))) ms).trees ≡ (slot_terms (as_written (names_in names)) ns).trees
  pub slots : (slot_terms (as_written (names_in (drop i names))) ms).names ≡ (slot_terms (as_written (names_in names)) ns).names

pub written-none : (names : List (Bor (List ℕ))) (ns : SlotNames) (ts : List Tree) → ts ≡ [] → WrittenTo names ns 0 ns ts
written-none names ns ts empty = record { trees = ap (λ us. us ++ (slot_terms (as_written (names_in names)) ns).trees) empty; slots = refl }

written-first : (names : List (Bor (List ℕ))) (i : ℕ) (x : Bor (List ℕ)) (ms : SlotNames) → i < length names → x ≡ get_or names i x →
    slot_terms (as_written (names_in (drop i names))) ms ≡ record { trees = Tree.var (slot_for x.now ms) ∷ (slot_terms (as_written (names_in (drop (i + 1) names))) (slots_for x.now ms)).trees; names = (slot_terms (as_written (names_in (drop (i + 1) names))) (slots_for x.now ms)).names }
unfolding slot_terms as_written
written-first names i x ms less item = ap (λ xs. slot_terms (as_written (names_in xs)) ms) (drop-next names i x less item)

pub written-more : (names : List (Bor (List ℕ))) (ns : SlotNames) (i k : ℕ) (x : Bor (List ℕ)) (ms next : SlotNames) (ts us : List Tree) (t : Tree) → i < length names → x ≡ get_or names i x → k ≡ slot_for x.now ms → next ≡ slots_for x.now ms → t ≡ Tree.var k → us ≡ ts ++ t ∷ [] →
    WrittenTo names ns i ms ts → WrittenTo names ns (i + 1) next us
written-more names ns i k x ms next ts us t less item at behind is put so =
    let rest : SlotNames → SlotTerms = λ ks. slot_terms (as_written (names_in (drop (i + 1) names))) ks in
    record {
      trees = ap (λ vs. vs ++ (rest next).trees) put ∙ (append_assoc ts (t ∷ []) (rest next).trees ∙ (ap (λ (u : Tree). ts ++ u ∷ (rest next).trees) (is ∙ ap Tree.var at)
          ∙ (ap (λ ks. ts ++ Tree.var (slot_for x.now ms) ∷ (rest ks).trees) behind ∙ (ap (λ (s : SlotTerms). ts ++ s.trees) (sym (written-first names i x ms less item)) ∙ so.trees))));
      slots = ap (λ ks. (rest ks).names) behind ∙ (ap (λ (s : SlotTerms). s.names) (sym (written-first names i x ms less item)) ∙ so.slots);
    }

pub written-trees : (names : List (Bor (List ℕ))) (ns : SlotNames) (i : ℕ) (ms : SlotNames) (ts : List Tree) → length names ≤ i → WrittenTo names ns i ms ts → ts ≡ (slot_terms (as_written (names_in names)) ns).trees
unfolding slot_terms as_written
written-trees names ns i ms ts past so = sym (append-nil ts) ∙ (ap (λ xs. ts ++ (slot_terms (as_written (names_in xs)) ms).trees) (sym (drop_all i names past)) ∙ so.trees)

pub written-names : (names : List (Bor (List ℕ))) (ns : SlotNames) (i : ℕ) (ms : SlotNames) (ts : List Tree) → length names ≤ i → WrittenTo names ns i ms ts → ms ≡ (slot_terms (as_written (names_in names)) ns).names
unfolding slot_terms as_written
written-names names ns i ms ts past so = ap (λ xs. (slot_terms (as_written (names_in xs)) ms).names) (sym (drop_all i names past)) ∙ so.slots

-- ---- the names before it are there

pub started-is : (h count : ℕ) (names : Names) (ns ms : SlotNames) (old new : List GoalTree) (t : Tree) → count ≡ length ns → t ≡ comp array_name (trees_of (slot_terms (as_written names) ns).trees) → ms ≡ (slot_terms (as_written names) ns).names →
    new ≡ old ++ cond (is_below h t) [] (filling count t ∷ []) → AreGoals (goals_before (started h names ns)) old new ms
unfolding slot_term
started-is h count names ns ms old new t many is behind put = record {
  goals = put ∙ (ap (λ (u : Tree). old ++ cond (is_below h u) [] (filling count u ∷ [])) is
      ∙ ap (λ (n : ℕ). old ++ cond (is_below h (comp array_name (trees_of (slot_terms (as_written names) ns).trees))) [] (filling n (comp array_name (trees_of (slot_terms (as_written names) ns).trees)) ∷ [])) many);
  names = behind;
}

pub all-written : (ts us vs : List Tree) (t : Tree) → ts ≡ vs → us ≡ ts → t ≡ comp array_name (trees_of us) → t ≡ comp array_name (trees_of vs)
all-written ts us vs t are same is = is ∙ ap (λ xs. comp array_name (trees_of xs)) (same ∙ are)

-- ---- the call of its helper

pub entry-call : (l : Loop) (variable many : ℕ) (ns : SlotNames) (first named all args : List Tree) (name : List ℕ) (g : GoalTree) → many ≡ length l.kept → named ≡ first ++ slots_for_names l.shared ns → all ≡ named ++ slots_from variable many → args ≡ all → name ≡ l.name → g ≡ GoalTree.call name args →
    g ≡ entry_call l first variable ns
entry-call l variable many ns first named all args name g long some more same called is =
    is ∙ (ap (λ (n : List ℕ). GoalTree.call n args) called ∙ ap (GoalTree.call l.name) (same ∙ (more ∙ (ap (λ ts. ts ++ slots_from variable many) some ∙ ap (λ n. (first ++ slots_for_names l.shared ns) ++ slots_from variable n) long))))

pub entered-is : (l : Loop) (count : ℕ) (ns ms : SlotNames) (old mid new : List GoalTree) (first : List Tree) (g : GoalTree) → count ≡ length ns → g ≡ entry_call l first count ns → mid ≡ old ++ g ∷ [] → new ≡ mid ++ kept_goals l.kept count ns → ms ≡ with_values l.kept ns → AreGoals (entered l [] first ns) old new ms
entered-is l count ns ms old mid new first g at is put kept behind = record {
  goals = kept ∙ (ap (λ gs. gs ++ kept_goals l.kept count ns) put ∙ (append_assoc old (g ∷ []) (kept_goals l.kept count ns) ∙ (ap (λ (x : GoalTree). old ++ x ∷ kept_goals l.kept count ns) is
      ∙ ap (λ n. old ++ entry_call l first n ns ∷ kept_goals l.kept n ns) at)));
  names = behind;
}

pub loop-is : (h : ℕ) (before : Names) (l : Loop) (ns ms ks : SlotNames) (old mid new : List GoalTree) (first : List Tree) → first ≡ [] → AreGoals (goals_before (started h before ns)) old mid ms → AreGoals (entered l [] first ms) mid new ks → AreGoals (loop_goals h before l ns) old new ks
loop-is h before l ns ms ks old mid new first none start enter =
    let gs : List GoalTree = (started h before ns).goals in
    let calls : List Tree → SlotNames → List GoalTree = λ ts us. (entered l [] ts us).goals in
    record {
      goals = enter.goals ∙ (ap (λ xs. xs ++ calls first ms) start.goals ∙ (append_assoc old gs (calls first ms) ∙ (ap (λ (ts : List Tree). old ++ (gs ++ calls ts ms)) none ∙ ap (λ (us : SlotNames). old ++ (gs ++ calls [] us)) start.names)));
      names = enter.names ∙ ap (λ (us : SlotNames). with_values l.kept us) start.names;
    }
