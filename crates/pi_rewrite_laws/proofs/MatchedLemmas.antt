-- An iterator's second helper, called with an element: it matches and has its turn, or is passed over.
use Rattle.std.proofs.Common.{◌≡◌, ℕ, suc, ◌+◌, ◌-◌, ◌≤◌, false, List, [], ◌∷◌, ◌++◌, length, map, refl, sym, ◌∙◌, ap, subst, arith, length-append, append_assoc}
use Rattle.std.specs.Prelude.{Option, Some, None, option_and_then, replicate}
use Rattle.std.specs.Str.{bytes_eq}
use Rattle.std.proofs.lemmas.List.{map-append}
use Rattle.pi_terms.specs.Tree.{Tree, tree, trees_of}
use Rattle.pi_terms.specs.Places.{Places, held}
use Rattle.pi_constraints.specs.State.{State, bindings}
use Rattle.pi_constraints.specs.HeadMatch.{matched_in, matched_all_in}
use Rattle.pi_syntax.specs.ExpTree.{ExpTree}
use Rattle.pi_core.specs.GoalTree.{GoalTree}
use Rattle.pi_core.specs.CoreTree.{ClauseTree}
use Rattle.pi_terms.specs.PatternTree.{pattern}
use Rattle.pi_traces.specs.Trace.{Trace, one, then, done}
use Rattle.pi_traces.specs.Control.{chosen}
use Rattle.pi_traces.proofs.TraceLemmas.{then-one, then-assoc}
use Rattle.pi_meaning.specs.Shared.Level.{Level, Point}
use Rattle.pi_meaning.specs.CoreMeaning.Builtins.{Builtins, predicate_by}
use Rattle.pi_meaning.specs.Shared.Given.{Setting}
use Rattle.pi_meaning.specs.CoreMeaning.Meaning.{meaning}
use Rattle.pi_meaning.specs.CoreMeaning.Rules.{pred_run, rules, rule_before, rule_by}
use Rattle.pi_meaning.specs.OverNames.Environment.{Environment, meant}
use Rattle.pi_meaning.specs.OverNames.Place.{Place}
use Rattle.pi_meaning.specs.OverNames.Heads.{pattern_matched}
use Rattle.pi_meaning.specs.OverNames.Control.{Goal}
use Rattle.pi_meaning.specs.OverNames.Loops.{matched_turn}
use Rattle.pi_rewrite_spec.specs.Slots.{SlotNames, unnamed, slot_of}
use Rattle.pi_rewrite_spec.specs.Values.{SlotPattern, slot_pattern}
use Rattle.pi_rewrite_spec.specs.Forms.{Knows, IsPattern}
use Rattle.pi_rewrite_spec.specs.Goals.{SlotGoals, in_turn}
use Rattle.pi_rewrite_spec.specs.Loops.{slots_from, slots_head, clause_of, helper, Loop, loop_slots}
use Rattle.pi_rewrite_spec.specs.Iterators.{handed, turn_slots, turn_helper}
use Rattle.pi_rewrite_spec.proofs.FilledLemmas.{AllFilled, none_filled, one_filled, in_slot, all-filled-comes}
use Rattle.pi_rewrite_spec.proofs.AgreeLemmas.{free_room, grows-length, slot-below}
use Rattle.pi_rewrite_spec.proofs.NewNameLemmas.{agrees-nothing}
use Rattle.pi_rewrite_laws.proofs.HeadLemmas.{Both, neither, both_match, pattern-match}
use Rattle.pi_rewrite_spec.proofs.RunLemmas.{point, place, then-of-one}
use Rattle.pi_rewrite_spec.proofs.ControlLemmas.{Drains}
use Rattle.pi_rewrite_spec.proofs.HandedLemmas.{entered, empties-stand, head-takes, head-entered, values_from, values-count, some-long}
use Rattle.pi_rewrite_spec.proofs.EnteredLemmas.{values-long}
use Rattle.pi_rewrite_spec.proofs.CarriedLemmas.{Handed, Apart}
use Rattle.pi_rewrite_laws.proofs.HelperLemmas.{state_of, HelperCalled, count-trees, called-runs}
use Rattle.pi_rewrite_laws.proofs.ElementLemmas.{roots-stay-itself, matched-slots, held-again, turn_front, TurnSame, handed-long, front-long, walked, asks, in_front, LastDoes, turn-goes-on, asked-last}

-- ---- slots that are handed on as they are

seam-held : (us : List Tree) (v : Tree) (vs : List Tree) (m : ℕ) → held (entered (us ++ v ∷ vs) m) (length us) ≡ Some v
seam-held [] v vs m = refl
seam-held (u ∷ us) v vs m = seam-held us v vs m

pub slots-hold : (us vs : List Tree) (m : ℕ) → AllFilled (entered (us ++ vs) m) (trees_of (slots_from (length us) (length vs))) (trees_of vs)
unfolding slots_from
slots-hold us [] m = none_filled
slots-hold us (v ∷ vs) m =
    one_filled (in_slot (length us) v (seam-held us v vs m))
    (subst (λ (k : ℕ). AllFilled (entered (us ++ v ∷ vs) m) (trees_of (slots_from k (length vs))) (trees_of vs)) longer
    (subst (λ (ws : List Tree). AllFilled (entered ws m) (trees_of (slots_from (length (us ++ v ∷ [])) (length vs))) (trees_of vs)) (append_assoc us (v ∷ []) vs) (slots-hold (us ++ v ∷ []) vs m)))
  where
    longer : length (us ++ v ∷ []) ≡ suc (length us)
    longer = length-append us (v ∷ []) ∙ omega arith

-- a call with slots that a head has filled
pub hands-on : (b : Builtins) (l : Level) → Drains l → (name : List ℕ) (us vs : List Tree) (m j k : ℕ) (s : State) → length us ≡ j → length vs ≡ k →
    then (meaning b (GoalTree.call name (slots_from j k)) (point l (entered (us ++ vs) m) s)) state_of ≡ predicate_by b l name (trees_of vs) s
hands-on b l drains name us vs m j k s is many =
    ap (λ (i : ℕ). then (meaning b (GoalTree.call name (slots_from i k)) (point l (entered (us ++ vs) m) s)) state_of) (sym is)
    ∙ ap (λ (i : ℕ). then (meaning b (GoalTree.call name (slots_from (length us) i)) (point l (entered (us ++ vs) m) s)) state_of) (sym many)
    ∙ ap (λ (t : Trace Point). then t state_of) (called-runs b l drains name (slots_from (length us) (length vs)) vs (entered (us ++ vs) m) (entered (us ++ vs) m) s s (all-filled-comes _ _ _ (slots-hold us vs m) s))
    ∙ then-assoc (predicate_by b l name (trees_of vs) s) (λ q. one (point l (entered (us ++ vs) m) q)) state_of
    ∙ ap (then (predicate_by b l name (trees_of vs) s)) (λ i q. then-of-one (point l (entered (us ++ vs) m) q) state_of i)
    ∙ then-one (predicate_by b l name (trees_of vs) s)

-- ---- an element

pub walked-long : (w : Loop) (base : ℕ) (e : Environment) (hs : List Tree) → Handed w base e hs → (rest i all : Tree) → length (walked rest i all hs) ≡ handed w
walked-long w base e hs given rest i all = omega (arith, given.count, handed-long w)

-- one that doesn't match
passed-over : (b : Builtins) (l : Level) (x : Tree) (vs : List Tree) (k n m : ℕ) (passed : GoalTree) (s : State) → length vs ≡ k → n ≡ suc k + m → (rest : Trace State) →
    rule_before b l (rule_by (clause_of (slots_head 0 (suc k)) passed n) false (λ p. then (meaning b passed p) state_of)) s rest (matched_all_in (bindings s) (slots_head 0 (suc k)) (tree x (trees_of vs)) (replicate n None))
    ≡ then (meaning b passed (point l (entered (x ∷ vs) m) s)) state_of
unfolding chosen
passed-over b l x vs k n m passed s count is rest = ap (rule_before b l (rule_by (clause_of (slots_head 0 (suc k)) passed n) false (λ p. then (meaning b passed p) state_of)) s rest) taken
  where
    taken : matched_all_in (bindings s) (slots_head 0 (suc k)) (tree x (trees_of vs)) (replicate n None) ≡ Some (entered (x ∷ vs) m)
    taken =
        ap (λ (j : ℕ). matched_all_in (bindings s) (slots_head 0 (suc j)) (tree x (trees_of vs)) (replicate n None)) (sym count)
        ∙ head-entered (bindings s) (x ∷ vs) n m (omega (arith, count, is))

-- the clause of a turn, and what stands last in it
abbrev first_clause : Loop → ExpTree → (SlotNames → SlotGoals) → GoalTree → ℕ → ClauseTree
first_clause w e0 lb last n =
    let p : SlotPattern = slot_pattern e0 [] in clause_of (pattern p.form (slots_head (length p.names) (handed w))) (in_turn ((lb (turn_slots w p)).goals ++ last ∷ [])) n

-- the first clause, by whether the pattern matches
turn-answer : (known : Knows) (set : Setting) (b : Builtins) (w : Loop) (e0 : ExpTree) (body others : Goal) (lb : SlotNames → SlotGoals) (l k : Level) → TurnSame known set b w (slot_pattern e0 []) body lb l k → Apart w (turn_front (slot_pattern e0 [])) → (base : ℕ)
    (ends : Place → Trace State) (e : Environment) (hs : List Tree) (rest i all : Tree) (s : State) → Handed w base e hs → (last : GoalTree) (n : ℕ) → length (lb (turn_slots w (slot_pattern e0 []))).names ≤ n →
    LastDoes b l w (slot_pattern e0 []) base n (length (lb (turn_slots w (slot_pattern e0 []))).names) rest i all s last (λ q. then (others k q) ends) → (later : Trace State) → later ≡ then (others k (place e s)) ends → (o : Option Places) (q : Option Environment) → Both (free_room n) (slot_pattern e0 []).names o q →
    rule_before b l (rule_by (first_clause w e0 lb last n) false (λ p. then (meaning b (first_clause w e0 lb last n).body p) state_of)) s later
    (option_and_then (matched_all_in (bindings s) (slots_head (length (slot_pattern e0 []).names) (handed w)) (trees_of (walked rest i all hs))) o)
    ≡ then (matched_turn w.shared body others k (place e s) q) ends
unfolding chosen
turn-answer known set b w e0 body others lb l k same apart base ends e hs rest i all s given last n room does later passed _ _ neither = passed
turn-answer known set b w e0 body others lb l k same apart base ends e hs rest i all s given last n enough does later passed _ _ (both_match f slots a) =
    ap (rule_before b l (rule_by (first_clause w e0 lb last n) false (λ x. then (meaning b (first_clause w e0 lb last n).body x) state_of)) s later) taken
    ∙ turn-goes-on known set b w p body lb l k same apart base (others k) ends e f us hs rest i all s given (values-count 0 (length p.names) slots) found n m fits enough last does
  where
    p : SlotPattern
    p = slot_pattern e0 []

    us : List Tree
    us = values_from 0 (length (slot_pattern e0 []).names) slots

    m : ℕ
    m = n - (length (turn_front (slot_pattern e0 [])) + length (loop_slots w))

    wide : length (turn_front (slot_pattern e0 [])) + length (loop_slots w) ≤ n
    wide = omega (arith, enough, grows-length (turn_slots w (slot_pattern e0 [])) _ (same.turn.grows (turn_slots w (slot_pattern e0 []))), values-long w.kept (turn_front (slot_pattern e0 []) ++ w.shared), length-append (turn_front (slot_pattern e0 [])) w.shared, values-long w.kept w.shared)

    fits : n ≡ (length (turn_front (slot_pattern e0 [])) + length (loop_slots w)) + (n - (length (turn_front (slot_pattern e0 [])) + length (loop_slots w)))
    fits = omega (arith, wide)

    found : (name : List ℕ) → bytes_eq name unnamed ≡ false → meant name f ≡ option_and_then (held (map Some (values_from 0 (length (slot_pattern e0 []).names) slots))) (slot_of name (slot_pattern e0 []).names)
    found name named = a.names name named ∙ go (slot_of name (slot_pattern e0 []).names) refl
      where
        go : (o : Option ℕ) → slot_of name (slot_pattern e0 []).names ≡ o → option_and_then (held slots) o ≡ option_and_then (held (map Some (values_from 0 (length (slot_pattern e0 []).names) slots))) o
        go None at = refl
        go (Some j) at = sym (held-again slots (length (slot_pattern e0 []).names) j a.firm (slot-below name (slot_pattern e0 []).names j at))

    vs : List Tree
    vs = walked rest i all hs

    taken : matched_all_in (bindings s) (slots_head (length (slot_pattern e0 []).names) (handed w)) (trees_of (walked rest i all hs)) slots
        ≡ Some (entered (in_front (values_from 0 (length (slot_pattern e0 []).names) slots) rest i all ++ hs) (n - (length (turn_front (slot_pattern e0 [])) + length (loop_slots w))))
    taken =
        ap (λ (j : ℕ). matched_all_in (bindings s) (slots_head (length p.names) j) (trees_of vs) slots) (sym (walked-long w base e hs given rest i all))
        ∙ ap (λ (j : ℕ). matched_all_in (bindings s) (slots_head j (length vs)) (trees_of vs) slots) (sym many)
        ∙ ap (matched_all_in (bindings s) (slots_head (length (map {B = Option Tree} Some us)) (length vs)) (trees_of vs))
        (matched-slots n (length p.names) p.names f slots a refl (omega (arith, wide, front-long p))
        ∙ ap (λ (j : ℕ). map Some us ++ replicate {A = Option Tree} j None) room ∙ ap (λ (ps : Places). map Some us ++ ps) (empties-stand vs m))
        ∙ head-takes (bindings s) (map Some us) vs (replicate m None)
        ∙ ap Some (sym (append_assoc (map Some us) (map Some vs) (replicate m None)) ∙ ap (λ (ps : Places). ps ++ replicate m None) (sym (map-append Some us vs) ∙ ap (map Some) (sym (append_assoc us (rest ∷ i ∷ all ∷ []) hs))))
      where
        many : length (map {B = Option Tree} Some (values_from 0 (length (slot_pattern e0 []).names) slots)) ≡ length (slot_pattern e0 []).names
        many = some-long us ∙ values-count 0 (length p.names) slots

        room : n - length (slot_pattern e0 []).names ≡ length (walked rest i all hs) + (n - (length (turn_front (slot_pattern e0 [])) + length (loop_slots w)))
        room = omega (arith, wide, front-long p, given.count)

-- A call of the second helper does what the element's turn does over names, and then what follows it.
pub element-runs : (known : Knows) (set : Setting) (b : Builtins) (w : Loop) (name : List ℕ) (e0 : ExpTree) → IsPattern e0 → (body others : Goal) (lb : SlotNames → SlotGoals) (l inside k : Level) (last passed : GoalTree) (n n' m : ℕ) → length (lb (turn_slots w (slot_pattern e0 []))).names ≤ n → n' ≡ suc (handed w) + m →
    HelperCalled b l (helper name (suc (handed w)) (first_clause w e0 lb last n ∷ clause_of (slots_head 0 (suc (handed w))) passed n' ∷ [])) inside → TurnSame known set b w (slot_pattern e0 []) body lb inside k → Apart w (turn_front (slot_pattern e0 [])) → (base : ℕ) (ends : Place → Trace State) (e : Environment)
    (x : Tree) (hs : List Tree) (rest i all : Tree) (s : State) → Handed w base e hs → LastDoes b inside w (slot_pattern e0 []) base n (length (lb (turn_slots w (slot_pattern e0 []))).names) rest i all s last (λ q. then (others k q) ends) →
    then (meaning b passed (point inside (entered (x ∷ walked rest i all hs) m) s)) state_of ≡ then (others k (place e s)) ends →
    predicate_by b l name (trees_of (x ∷ walked rest i all hs)) s ≡ then (matched_turn w.shared body others k (place e s) (pattern_matched (bindings s) e0 x [])) ends
unfolding pred_run rules matched_in
element-runs known set b w name e0 is-pattern body others lb l inside k last passed n n' m enough is called same apart base ends e x hs rest i all s given does passes =
    called (trees_of (x ∷ walked rest i all hs)) s (count-trees (x ∷ walked rest i all hs) ∙ ap suc (walked-long w base e hs given rest i all))
    ∙ turn-answer known set b w e0 body others lb inside k same apart base ends e hs rest i all s given last n enough does _
    (passed-over b inside x (walked rest i all hs) (handed w) n' m passed s (walked-long w base e hs given rest i all) is done ∙ passes)
    (matched_in (bindings s) (slot_pattern e0 []).form x (replicate n None)) (pattern_matched (bindings s) e0 x [])
    (pattern-match (bindings s) (free_room n) e0 is-pattern [] room [] (replicate n None) (agrees-nothing n) x)
  where
    room : length (slot_pattern e0 []).names ≤ n
    room = omega (
      arith,
      enough,
      grows-length (turn_slots w (slot_pattern e0 [])) _ (same.turn.grows (turn_slots w (slot_pattern e0 []))),
      values-long w.kept (turn_front (slot_pattern e0 []) ++ w.shared),
      length-append (turn_front (slot_pattern e0 [])) w.shared,
      front-long (slot_pattern e0 []),
    )

-- of a walk, which asks for the next element by a call of the first helper
pub element-called : (known : Knows) (set : Setting) (b : Builtins) (w : Loop) (name : List ℕ) (e0 : ExpTree) → IsPattern e0 → (body others : Goal) (lb : SlotNames → SlotGoals) (l inside k : Level) → HelperCalled b l (turn_helper name w e0 lb) inside →
    TurnSame known set b w (slot_pattern e0 []) body lb inside k → Apart w (turn_front (slot_pattern e0 [])) → (base : ℕ) (ends : Place → Trace State) (e : Environment) (x : Tree) (hs : List Tree) (rest i all : Tree) (s : State) → Handed w base e hs →
    asks b inside w base rest i all s (λ q. then (others k q) ends) →
    predicate_by b l name (trees_of (x ∷ walked rest i all hs)) s ≡ then (matched_turn w.shared body others k (place e s) (pattern_matched (bindings s) e0 x [])) ends
element-called known set b w name e0 is-pattern body others lb l inside k called same apart base ends e x hs rest i all s given asked =
    element-runs known set b w name e0 is-pattern body others lb l inside k _ (GoalTree.call w.name (slots_from 1 (handed w))) (length (lb (turn_slots w (slot_pattern e0 []))).names) (suc (handed w)) 0 (omega arith) (omega arith) called same apart base ends e x hs rest i all s given
    (asked-last b inside same.alike.core_drains w (slot_pattern e0 []) base _ _ rest i all s (λ q. then (others k q) ends) asked)
    (hands-on b inside same.alike.core_drains w.name (x ∷ []) (walked rest i all hs) 0 1 (handed w) s refl (walked-long w base e hs given rest i all) ∙ asked e hs s (roots-stay-itself s) given)
