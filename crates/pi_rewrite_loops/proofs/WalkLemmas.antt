-- Iterators over lists and arrays.
use Rattle.std.proofs.Common.{◌≡◌, ℕ, suc, ◌+◌, ◌-◌, List, [], ◌∷◌, ◌++◌, length, ◌∙◌, ap, append_assoc, arith, length-append}
use Rattle.std.proofs.lemmas.List.{length-replicate}
use Rattle.std.specs.Prelude.{pos, codes, replicate}
use Rattle.pi_terms.specs.Tree.{Tree}
use Rattle.pi_terms.specs.PatternTree.{PatternTree, PatternTrees, slot, exact_atom, compound, no_patterns, pattern}
use Rattle.pi_terms.specs.ListNames.{nil, cell_name}
use Rattle.pi_core.specs.GoalTree.{GoalTree}
use Rattle.pi_core.specs.CoreTree.{ClauseTree}
use Rattle.pi_rewrite_spec.specs.Slots.{SlotNames, unnamed, with_value}
use Rattle.pi_rewrite_spec.specs.Values.{SlotPattern}
use Rattle.pi_rewrite_spec.specs.Goals.{in_turn}
use Rattle.pi_rewrite_spec.specs.Loops.{Loop, slots_from, slots_head, with_values, closing, closing_slots, clause_of, entered}
use Rattle.pi_rewrite_spec.specs.Iterators.{handed, end_slots, turn_clause, tick_then, cell_clause, nil_clause, behind_collection, walked, over}
use Rattle.pi_rewrite_spec.proofs.EnteredLemmas.{values-long}
use Rattle.pi_rewrite_loops.specs.Helpers.{lowered}
use Rattle.pi_rewrite_loops.specs.Parts.{AreGoals, goals_before}
use Rattle.pi_rewrite_loops.specs.Turns.{walk_end}
use Rattle.pi_rewrite_loops.proofs.PushedLemmas.{pushed-two, pushed-three}

-- ---- where one stands

-- the call of a helper behind other goals
pub entered-behind : (l : Loop) (gs old mid new : List GoalTree) (ts us : List Tree) (ms ns ks : SlotNames) → mid ≡ old ++ gs → ts ≡ us → ms ≡ ns → AreGoals (entered l [] ts ms) mid new ks → AreGoals (entered l gs us ns) old new ks
entered-behind l gs old mid new ts us ms ns ks put same slots enter =
    let calls : List Tree → SlotNames → List GoalTree = λ xs ls. (entered l [] xs ls).goals in
    record {
      goals = enter.goals ∙ (ap (λ xs. xs ++ calls ts ms) put ∙ (append_assoc old gs (calls ts ms) ∙ (ap (λ (xs : List Tree). old ++ (gs ++ calls xs ms)) same ∙ ap (λ (ls : SlotNames). old ++ (gs ++ calls us ls)) slots)));
      names = enter.names ∙ ap (λ (ls : SlotNames). with_values l.kept ls) slots;
    }

-- the items are counted, and the number behind the last one is found
pub counted-is : (t u : Tree) (ns ms ks found : SlotNames) (count past : ℕ) (old mid new : List GoalTree) → u ≡ t → count ≡ length found → ms ≡ with_value found → past ≡ length ms → ks ≡ with_value ms →
    mid ≡ old ++ GoalTree.apply (codes "length") (u ∷ []) count ∷ [] → new ≡ mid ++ GoalTree.apply (codes "+") (Tree.var count ∷ Tree.int (pos 1) ∷ []) past ∷ [] →
    AreGoals (record { goals = (walked ns (record { goals = []; tree = t; names = found })).goals; names = with_value (with_value found) }) old new ks
counted-is t u ns ms ks found count past old mid new same at slots last behind first second =
    let sum : ℕ → ℕ → GoalTree = λ j k. GoalTree.apply (codes "+") (Tree.var j ∷ Tree.int (pos 1) ∷ []) k in
    let further : past ≡ suc (length found) = last ∙ (ap length slots ∙ omega (arith, length-append found (unnamed ∷ []))) in
    record {
      goals = second ∙ (ap (λ gs. gs ++ sum count past ∷ []) first ∙ (append_assoc old (GoalTree.apply (codes "length") (u ∷ []) count ∷ []) (sum count past ∷ [])
          ∙ (ap (λ (x : Tree). old ++ GoalTree.apply (codes "length") (x ∷ []) count ∷ sum count past ∷ []) same
          ∙ (ap (λ (k : ℕ). old ++ GoalTree.apply (codes "length") (t ∷ []) count ∷ sum count k ∷ []) further
          ∙ ap (λ (k : ℕ). old ++ GoalTree.apply (codes "length") (t ∷ []) k ∷ sum k (suc (length found)) ∷ []) at))));
      names = behind ∙ ap with_value slots;
    }

pub walked-is : (t : Tree) (found after ns ms : SlotNames) (old mid : List GoalTree) → AreGoals (record { goals = (walked ns (record { goals = []; tree = t; names = found })).goals; names = with_value (with_value found) }) old mid after → ms ≡ behind_collection ns after →
    AreGoals (goals_before (walked ns (record { goals = []; tree = t; names = found }))) old mid ms
walked-is t found after ns ms old mid counted behind = record { goals = counted.goals; names = behind ∙ ap (behind_collection ns) counted.names }

pub walk-args : (t one : Tree) (past : ℕ) (none first second third : List Tree) → none ≡ [] → first ≡ none ++ t ∷ [] → one ≡ Tree.int (pos 1) → second ≡ first ++ one ∷ [] → third ≡ second ++ Tree.var past ∷ [] → third ≡ t ∷ Tree.int (pos 1) ∷ Tree.var past ∷ []
walk-args t one past none first second third empty a int b c = pushed-three none first second third t one (Tree.var past) empty a b c ∙ ap (λ (x : Tree). t ∷ x ∷ Tree.var past ∷ []) int

pub over-is : (l : Loop) (t : Tree) (found ns ms ks : SlotNames) (count past : ℕ) (old mid new : List GoalTree) (args : List Tree) → AreGoals (goals_before (walked ns (record { goals = []; tree = t; names = found }))) old mid ms → count ≡ length ms → past ≡ count - 1 →
    args ≡ t ∷ Tree.int (pos 1) ∷ Tree.var past ∷ [] → AreGoals (entered l [] args ms) mid new ks → AreGoals (over l [] (walked ns (record { goals = []; tree = t; names = found }))) old new ks
over-is l t found ns ms ks count past old mid new args counted long before are enter =
    let last : past ≡ length (behind_collection ns (with_value (with_value found))) - 1 = before ∙ ap (λ (k : ℕ). k - 1) (long ∙ ap length counted.names) in
    entered-behind l (walked ns (record { goals = []; tree = t; names = found })).goals old mid new args _ ms _ ks counted.goals (are ∙ ap (λ (k : ℕ). t ∷ Tree.int (pos 1) ∷ Tree.var k ∷ []) last) counted.names enter

-- ---- the second helper

pub next-is : (l : Loop) (first count : ℕ) (none args now : List Tree) (name : List ℕ) (g : GoalTree) → count ≡ handed l → none ≡ [] → args ≡ none ++ slots_from first count → now ≡ args → name ≡ l.name → g ≡ GoalTree.call name now → g ≡ GoalTree.call l.name (slots_from first (handed l))
next-is l first count none args now name g many empty put same called is =
    is ∙ (ap (λ (n : List ℕ). GoalTree.call n now) called ∙ ap (GoalTree.call l.name) (same ∙ (put ∙ (ap (λ ts. ts ++ slots_from first count) empty ∙ ap (slots_from first) many))))

-- a turn, and its clause
pub turn-body : (turn all : List GoalTree) (next g made : GoalTree) → next ≡ g → all ≡ turn ++ next ∷ [] → made ≡ in_turn all → made ≡ in_turn (turn ++ g ∷ [])
turn-body turn all next g made on put turned = turned ∙ ap in_turn (put ∙ ap (λ (x : GoalTree). turn ++ x ∷ []) on)

pub turn-is : (l : Loop) (p : SlotPattern) (form : PatternTree) (width size : ℕ) (turn : List GoalTree) (ns : SlotNames) (body : GoalTree) (head : PatternTrees) (c : ClauseTree) → form ≡ p.form → width ≡ length p.names → size ≡ length ns → body ≡ in_turn (turn ++ GoalTree.call l.name (slots_from width (handed l)) ∷ []) →
    head ≡ pattern form (slots_head width (handed l)) → c ≡ clause_of head body size → c ≡ turn_clause l p (lowered turn ns)
turn-is l p form width size turn ns body head c same wide long turned at is =
    is ∙ (ap (λ (h : PatternTrees). clause_of h body size) (at ∙ (ap (λ (f : PatternTree). pattern f (slots_head width (handed l))) same ∙ ap (λ (k : ℕ). pattern p.form (slots_head k (handed l))) wide))
    ∙ (ap (λ (b : GoalTree). clause_of (pattern p.form (slots_head (length p.names) (handed l))) b size) (turned ∙ ap (λ (k : ℕ). in_turn (turn ++ GoalTree.call l.name (slots_from k (handed l)) ∷ [])) wide)
    ∙ ap (λ (k : ℕ). clause_of (pattern p.form (slots_head (length p.names) (handed l))) (in_turn (turn ++ GoalTree.call l.name (slots_from (length p.names) (handed l)) ∷ [])) k) long))

-- an element that doesn't match
pub passed-is : (arity n : ℕ) (g over : GoalTree) (head : PatternTrees) (c : ClauseTree) → arity ≡ n → over ≡ g → head ≡ slots_head 0 arity → c ≡ clause_of head over arity → c ≡ clause_of (slots_head 0 n) g n
passed-is arity n g over head c more on at is =
    is ∙ (ap (λ (h : PatternTrees). clause_of h over arity) at ∙ (ap (λ (x : GoalTree). clause_of (slots_head 0 arity) x arity) on ∙ ap (λ (k : ℕ). clause_of (slots_head 0 k) g k) more))

-- ---- the first helper

pub ticked-call : (asked g made : GoalTree) (none one two : List GoalTree) → none ≡ [] → one ≡ none ++ GoalTree.tick ∷ [] → asked ≡ g → two ≡ one ++ asked ∷ [] → made ≡ in_turn two → made ≡ tick_then (g ∷ [])
ticked-call asked g made none one two empty first is second turned = turned ∙ ap in_turn (pushed-two none one two GoalTree.tick asked empty first second ∙ ap (λ (x : GoalTree). GoalTree.tick ∷ x ∷ []) is)

pub cell-body : (turn : List ℕ) (slots : ℕ) (none args now : List Tree) (body : GoalTree) → none ≡ [] → args ≡ none ++ slots_from 0 slots → now ≡ args → body ≡ tick_then (GoalTree.call turn now ∷ []) → body ≡ tick_then (GoalTree.call turn (slots_from 0 slots) ∷ [])
cell-body turn slots none args now body empty put same does = does ∙ ap (λ ts. tick_then (GoalTree.call turn ts ∷ [])) (same ∙ (put ∙ ap (λ ts. ts ++ slots_from 0 slots) empty))

-- a pattern in front of all slots but the first
pub fewer-head : (l : Loop) (form given : PatternTree) (first count less : ℕ) (head : PatternTrees) → count ≡ handed l → less ≡ count - 1 → form ≡ given → head ≡ pattern form (slots_head first less) → head ≡ pattern given (slots_head first (handed l - 1))
fewer-head l form given first count less head many fewer is at = at ∙ (ap (λ (f : PatternTree). pattern f (slots_head first less)) is ∙ ap (λ (k : ℕ). pattern given (slots_head first k)) (fewer ∙ ap (λ (k : ℕ). k - 1) many))

pub cell-is : (l : Loop) (turn : List ℕ) (slots : ℕ) (body : GoalTree) (head : PatternTrees) (c : ClauseTree) → slots ≡ suc (handed l) → body ≡ tick_then (GoalTree.call turn (slots_from 0 slots) ∷ []) →
    head ≡ pattern (compound cell_name (pattern (slot 0) (pattern (slot 1) no_patterns))) (slots_head 2 (handed l - 1)) → c ≡ clause_of head body slots → c ≡ cell_clause turn l
cell-is l turn slots body head c long does at is =
    is ∙ (ap (λ (h : PatternTrees). clause_of h body slots) at ∙ (ap (λ (b : GoalTree). clause_of (pattern (compound cell_name (pattern (slot 0) (pattern (slot 1) no_patterns))) (slots_head 2 (handed l - 1))) b slots) does
    ∙ ap (λ (k : ℕ). clause_of (pattern (compound cell_name (pattern (slot 0) (pattern (slot 1) no_patterns))) (slots_head 2 (handed l - 1))) (tick_then (GoalTree.call turn (slots_from 0 k) ∷ [])) k) long))

-- how many slots a clause without a pattern has
pub slots-long : (l : Loop) (first count : ℕ) → count ≡ first + length l.shared + length l.kept → count ≡ length (end_slots first l)
slots-long l first count is = omega (arith, is, values-long l.kept (replicate first unnamed ++ l.shared), length-append (replicate first unnamed) l.shared, length-replicate first unnamed)

pub walk-end : (l : Loop) (first free k : ℕ) (ns ms : SlotNames) (g : GoalTree) → k ≡ first + length l.shared → ns ≡ ms → g ≡ in_turn (closing l.ending l.kept k free ns) → g ≡ walk_end l first free ms
walk-end l first free k ns ms g variables slots ended = ended ∙ (ap (λ (j : ℕ). in_turn (closing l.ending l.kept j free ns)) variables ∙ ap (walk_end l first free) slots)

pub nil-is : (l : Loop) (free size : ℕ) (body : GoalTree) (head : PatternTrees) (c : ClauseTree) → free ≡ 2 + length l.shared + length l.kept → size ≡ closing_slots l.kept free → body ≡ walk_end l 2 free (end_slots 2 l) → head ≡ pattern (exact_atom nil) (slots_head 0 (handed l - 1)) → c ≡ clause_of head body size → c ≡ nil_clause l
nil-is l free size body head c many sized does at is =
    let long : free ≡ length (end_slots 2 l) = slots-long l 2 free many in
    is ∙ (ap (λ (h : PatternTrees). clause_of h body size) at ∙ (ap (λ (b : GoalTree). clause_of (pattern (exact_atom nil) (slots_head 0 (handed l - 1))) b size) (does ∙ ap (λ (j : ℕ). walk_end l 2 j (end_slots 2 l)) long)
    ∙ ap (λ (j : ℕ). clause_of (pattern (exact_atom nil) (slots_head 0 (handed l - 1))) (walk_end l 2 (length (end_slots 2 l)) (end_slots 2 l)) j) (sized ∙ ap (closing_slots l.kept) long)))
