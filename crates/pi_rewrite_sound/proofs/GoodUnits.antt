-- Iterators, tests, whole loops and comprehensions of a text, of what stands in them.
use Rattle.std.proofs.Common.{◌≡◌, ℕ, suc, ◌≤◌, Bool, true, false, List, [], ◌∷◌, ◌++◌, length, refl, sym, ◌∙◌, ap, subst, arith, length-append, append_assoc}
use Rattle.std.specs.Prelude.{Option, Some, None, IsTrue, ◌||◌, not}
use Rattle.std.specs.Str.{bytes_eq}
use Rattle.std.proofs.lemmas.Bool.{and_parts}
use Rattle.std.proofs.lemmas.List.{append-nil}
use Rattle.pi_terms.specs.Tree.{Tree, no_trees}
use Rattle.pi_terms.specs.ListNames.{nil, cell_name}
use Rattle.pi_terms.specs.ListCopies.{list_cell}
use Rattle.pi_constraints.proofs.KeepsLemmas.{comp-below}
use Rattle.pi_effects.specs.Inner.{itself_name}
use Rattle.pi_syntax.specs.ExpTree.{ExpTree, array, ExpTrees, exp}
use Rattle.pi_core.specs.GoalTree.{truth, apply}
use Rattle.pi_core.specs.CoreTree.{PredTree}
use Rattle.pi_meaning.specs.OverNames.Texts.{Names, is_among, places, occurring_all, iterated, pattern_places, patterns_of, shared_names, names_inside}
use Rattle.pi_meaning.specs.OverNames.Loops.{hidden}
use Rattle.pi_meaning.proofs.OverNames.LoopNames.{among-append, Within, AreNamed, behind-named, shared-before, inside-before}
use Rattle.pi_rewrite_spec.specs.Slots.{SlotNames, slot_for, slots_for}
use Rattle.pi_rewrite_spec.specs.Values.{SlotValue}
use Rattle.pi_rewrite_spec.specs.Goals.{SlotGoals}
use Rattle.pi_rewrite_spec.specs.Forms.{Knows, IsPattern, IsUnit}
use Rattle.pi_rewrite_spec.specs.Sites.{Site, behind_exp}
use Rattle.pi_rewrite_spec.specs.Loops.{Ending, as_it_is, Loop, started, as_written, only_turn_helper}
use Rattle.pi_rewrite_spec.specs.Iterators.{tested, found_by}
use Rattle.pi_rewrite_spec.specs.Comprehensions.{adding, begun, comprehension}
use Rattle.pi_rewrite_spec.specs.Written.{Inner, start_loop, iterator_loop, turn_name, is_range, gone_over, elements_of, turns_of, unit_goals, started_goals, units, goal_of, collection_of, bounds_of}
use Rattle.pi_rewrite_spec.specs.Helpers.{own_helpers, iterated_helpers, unit_helpers, started_helpers, iterator_text}
use Rattle.pi_rewrite_spec.proofs.AgreeLemmas.{grows-length, grows-for}
use Rattle.pi_rewrite_spec.proofs.TermLemmas.{name-room, term-grows}
use Rattle.pi_rewrite_laws.proofs.BelowLemmas.{none-below, front-below, var-below, atom-below}
use Rattle.pi_rewrite_laws.proofs.CollectionLemmas.{found-long}
use Rattle.pi_rewrite_laws.proofs.HelperLemmas.{AreAmong}
use Rattle.pi_rewrite_laws.proofs.LoopTexts.{shared-among, inside-among, kept-before, kept-among-inside}
use Rattle.pi_rewrite_laws.proofs.UnitLemmas.{within-behind}
use Rattle.pi_rewrite_sound.specs.Built.{is_built_pattern, is_built_unit}
use Rattle.pi_rewrite_sound.proofs.FineGoals.{fine-one, fine-append, fine-truth, fine-apply}
use Rattle.pi_rewrite_sound.proofs.GivenNames.{itself-there}
use Rattle.pi_rewrite_sound.proofs.GoodHelpers.{Allows, Has, has-first, has-last, FineHelpers, Falls, GoodHelpers, both-helpers, more-helpers}
use Rattle.pi_rewrite_sound.proofs.GoodGoals.{GoodGoals, GoodValue, GoodValues, good-just, good-choosing, good-same}
use Rattle.pi_rewrite_sound.proofs.SlotRoom.{behind-long}
use Rattle.pi_rewrite_sound.proofs.LoopGoals.{Enters, started-fine, good-loop, good-iterator, good-range}
use Rattle.pi_rewrite_sound.proofs.LoopHelpers.{enters-again, good-only}
use Rattle.pi_rewrite_sound.proofs.IteratorHelpers.{elements-fine, elements-fall, steps-fine, steps-fall}

-- ---- iterators

-- what an iterator goes over: a value, or a range with its bounds and its step
pub data GoodCollection (known : Knows) (over : List PredTree) (s : Site) (u : ExpTree) : Bool → Type 0 where
  by_value : GoodValue known over (λ ns. collection_of s u ns) → GoodCollection known over s u false
  by_range : GoodValues known over (λ ns. bounds_of s u ns) → GoodCollection known over s u true

-- a name that stands in no pattern of a loop stands in none of its first iterator
apart-first : (u : ExpTree) (us : ExpTrees) (e : ExpTree) → iterated u ≡ Some e → (name : List ℕ) → is_among (patterns_of (exp u us)) name ≡ false → is_among (places e) name ≡ false
unfolding patterns_of
apart-first u us e is name out =
    first (is_among (places e) name) (is_among (patterns_of us) name) (sym (among-append (places e) (patterns_of us) name) ∙ ap (λ (o : Option ExpTree). is_among (pattern_places o ++ patterns_of us) name) (sym is) ∙ out)
  where
    first : (a b : Bool) → a || b ≡ false → a ≡ false
    first true b h = h
    first false b h = refl

-- its own helpers
own-good : (known : Knows) (r : Bool) (name : List ℕ) (l : Loop) → AreAmong l.shared l.kept → (e : ExpTree) → IsPattern e → (ps : List PredTree) (turn : SlotNames → SlotGoals) → GoodGoals known ps turn →
    ((may : Knows) → Allows known may → Has may ps → Has may (own_helpers r name l e turn) → FineHelpers may (own_helpers r name l e turn)) × Falls known ps (own_helpers r name l e turn)
own-good known true name l among e is ps turn one = (steps-fine known l among name e is ps turn one, steps-fall known l among name e is ps turn one)
own-good known false name l among e is ps turn one = (elements-fine known l among name e is ps turn one, elements-fall known l among name e is ps turn one)

-- the first one is entered
own-enters : (may : Knows) (r : Bool) (name : List ℕ) (l : Loop) (e : ExpTree) (turn : SlotNames → SlotGoals) → Has may (own_helpers r name l e turn) → Enters may l 3
own-enters may true name l e turn has = subst (λ (k : ℕ). IsTrue (may.predicate l.name k)) (omega arith) has.0
own-enters may false name l e turn has = subst (λ (k : ℕ). IsTrue (may.predicate l.name k)) (omega arith) has.0

-- helpers of what it goes over stand in front of those of its turns, which needn't be there for the former
turn-later : {known : Knows} (over : List PredTree) {ps : List PredTree} {turn : SlotNames → SlotGoals} → GoodHelpers known over → GoodGoals known ps turn → GoodGoals known (over ++ ps) turn
turn-later {known} over {ps} {turn} before is = record {
  longer = is.longer;
  fine = λ may allows has n ns room. is.fine may allows (has-last may over ps has) n ns room;
  helpers = both-helpers known over ps before is.helpers;
}

collected-helpers : {known : Knows} {over : List PredTree} {s : Site} {u : ExpTree} {r : Bool} → GoodCollection known over s u r → GoodHelpers known over
collected-helpers (by_value is) = is.helpers
collected-helpers (by_range are) = are.helpers

good-gone-over : (known : Knows) (over ps : List PredTree) (s : Site) (u : ExpTree) (r : Bool) (l : Loop) → AreAmong s.before l.shared → AreAmong s.before l.kept → GoodCollection known over s u r → GoodHelpers known ps →
    ((may : Knows) → Has may ps → Has may over) → ((may : Knows) → Has may ps → Enters may l 3) → GoodGoals known ps (λ ns. gone_over r s l (bounds_of s u) (collection_of s u) ns)
good-gone-over known over ps s u _ l shared kept (by_value is) helpers there enters = good-iterator s.filled s.before l shared kept is helpers there enters
good-gone-over known over ps s u _ l shared kept (by_range are) helpers there enters = good-range s.filled s.before l shared kept are helpers there enters

-- what stands behind an iterator or a test, at any site
abbrev pub RestGood : Knows → Inner → ExpTrees → (Site → SlotNames → SlotGoals) → (Site → Ending → List PredTree) → Type 0
RestGood known i us body helpers = (t : Site) (ending : Ending) → AreNamed t.before → GoodGoals known (helpers t ending) (λ ns. units t ending i us body ns)

iterator-good : (known : Knows) (s : Site) (ending : Ending) (i : Inner) (u : ExpTree) (us : ExpTrees) (e : ExpTree) → iterated u ≡ Some e → IsPattern e → AreNamed s.before → Within i.assigned i.used → (body : Site → SlotNames → SlotGoals)
    (helpers : Site → Ending → List PredTree) (over : List PredTree) → GoodCollection known over s u (is_range u) → RestGood known i us body helpers →
    GoodGoals known (iterated_helpers (iterator_text s ending i u us e) over (helpers (elements_of s (iterator_loop s ending i u us e) u e) as_it_is) (λ ns. units (elements_of s (iterator_loop s ending i u us e) u e) as_it_is i us body ns))
    (λ ns. gone_over (is_range u) s (iterator_loop s ending i u us e) (bounds_of s u) (collection_of s u) ns)
iterator-good known s ending i u us e is pattern named within body helpers over collected rest =
    good-same (append_assoc over ps own)
    (good-gone-over known over ((over ++ ps) ++ own) s u (is_range u) loop (inside-among s.before (Some e) used named) (kept-before s.before (exp u us) i.assigned) collected all
    (λ may has. has-first may over ps (has-first may (over ++ ps) own has)) (λ may has. own-enters may (is_range u) name loop e turn (has-last may (over ++ ps) own has)))
  where
    used : Names
    used = occurring_all us ++ i.used

    loop : Loop
    loop = iterator_loop s ending i u us e

    name : List ℕ
    name = turn_name s i u us

    inner : Site
    inner = elements_of s (iterator_loop s ending i u us e) u e

    ps : List PredTree
    ps = helpers (elements_of s (iterator_loop s ending i u us e) u e) as_it_is

    turn : SlotNames → SlotGoals
    turn ns = units (elements_of s (iterator_loop s ending i u us e) u e) as_it_is i us body ns

    own : List PredTree
    own = own_helpers (is_range u) (turn_name s i u us) (iterator_loop s ending i u us e) e (λ ns. units (elements_of s (iterator_loop s ending i u us e) u e) as_it_is i us body ns)

    among : AreAmong (iterator_loop s ending i u us e).shared (iterator_loop s ending i u us e).kept
    among = kept-among-inside s.before u us e i.assigned (occurring_all us ++ i.used) (within-behind i.assigned (occurring_all us) i.used within) (apart-first u us e is)

    one : GoodGoals known (over ++ helpers (elements_of s (iterator_loop s ending i u us e) u e) as_it_is) (λ ns. units (elements_of s (iterator_loop s ending i u us e) u e) as_it_is i us body ns)
    one = turn-later over (collected-helpers collected)
        (rest (elements_of s (iterator_loop s ending i u us e) u e) as_it_is (behind-named (names_inside s.before (Some e) (occurring_all us ++ i.used)) (places e) (λ n at. named n (inside-before s.before (Some e) (occurring_all us ++ i.used) n at))))

    all : GoodHelpers known ((over ++ helpers (elements_of s (iterator_loop s ending i u us e) u e) as_it_is)
        ++ own_helpers (is_range u) (turn_name s i u us) (iterator_loop s ending i u us e) e (λ ns. units (elements_of s (iterator_loop s ending i u us e) u e) as_it_is i us body ns))
    all =
        let both = own-good known (is_range u) (turn_name s i u us) (iterator_loop s ending i u us e) among e pattern (over ++ helpers (elements_of s (iterator_loop s ending i u us e) u e) as_it_is) (λ ns. units (elements_of s (iterator_loop s ending i u us e) u e) as_it_is i us body ns) one in
        more-helpers known (over ++ helpers (elements_of s (iterator_loop s ending i u us e) u e) as_it_is)
        (own_helpers (is_range u) (turn_name s i u us) (iterator_loop s ending i u us e) e (λ ns. units (elements_of s (iterator_loop s ending i u us e) u e) as_it_is i us body ns)) one.helpers both.0 both.1

pub unit-good : (known : Knows) (s : Site) (ending : Ending) (i : Inner) (u : ExpTree) (us : ExpTrees) (collected tests : Type 0) (built tested_built : Bool) → AreNamed s.before → Within i.assigned i.used → (body : Site → SlotNames → SlotGoals)
    (helpers : Site → Ending → List PredTree) (over test : List PredTree) → (collected → built ≡ true → GoodCollection known over s u (is_range u)) → (tests → tested_built ≡ true → GoodGoals known test (λ ns. goal_of s u ns)) → RestGood known i us body helpers →
    (o : Option ExpTree) → iterated u ≡ o → IsUnit o collected tests → is_built_unit o built tested_built ≡ true →
    GoodGoals known (unit_helpers o (λ e. iterated_helpers (iterator_text s ending i u us e) over (helpers (elements_of s (iterator_loop s ending i u us e) u e) as_it_is) (λ ns. units (elements_of s (iterator_loop s ending i u us e) u e) as_it_is i us body ns))
    (test ++ helpers (behind_exp s u) as_it_is))
    (λ ns. unit_goals o (λ e ms. gone_over (is_range u) s (iterator_loop s ending i u us e) (bounds_of s u) (collection_of s u) ms) (λ ms. tested (goal_of s u ms) (λ ks. units (behind_exp s u) as_it_is i us body ks)) ns)
unit-good known s ending i u us collected tests built tested_built named within body helpers over test collection condition rest None is fits fine =
    good-same (ap (λ (qs : List PredTree). test ++ qs) (append-nil (helpers (behind_exp s u) as_it_is)))
    (good-choosing (condition fits fine) (rest (behind_exp s u) as_it_is (behind-named s.before (places u) named)) (good-just truth (λ n may allows. fine-truth n may)))
unit-good known s ending i u us collected tests built tested_built named within body helpers over test collection condition rest (Some e) is fits fine =
    iterator-good known s ending i u us e is fits.0 named within body helpers over (collection fits.1 (and_parts (is_built_pattern e) built fine).1) rest

-- ---- a loop from its beginning

pub started-good : (known : Knows) (s : Site) (ending : Ending) (kept : Names) (i : Inner) (us : ExpTrees) (body : Site → SlotNames → SlotGoals) (helpers : Site → Ending → List PredTree) → AreNamed s.before → AreAmong s.before kept →
    AreAmong (shared_names s.before (occurring_all us ++ i.used)) kept → RestGood known i us body helpers → (begins : Bool) →
    GoodGoals known (started_helpers begins helpers (λ t ns. units t as_it_is i us body ns) s (start_loop s ending kept i us)) (λ ns. started_goals begins (λ ms. units s ending i us body ms) s (start_loop s ending kept i us) ns)
started-good known s ending kept i us body helpers named stand among rest true = rest s ending named
started-good known s ending kept i us body helpers named stand among rest false =
    good-loop s.filled s.before loop (shared-among s.before (occurring_all us ++ i.used) named) stand
    (good-only known loop among ps (λ ns. units (turns_of s loop) as_it_is i us body ns) (rest (turns_of s loop) as_it_is (λ n at. named n (shared-before s.before (occurring_all us ++ i.used) n at))))
    (λ may has. enters-again may loop (has-last may ps (only_turn_helper loop (λ ns. units (turns_of s loop) as_it_is i us body ns) ∷ []) has).0)
  where
    loop : Loop
    loop = start_loop s ending kept i us

    ps : List PredTree
    ps = helpers (turns_of s (start_loop s ending kept i us)) as_it_is

-- ---- comprehensions

pub good-adding : {known : Knows} {ps : List PredTree} {v : SlotNames → SlotValue} → GoodValue known ps v → GoodGoals known ps (λ ns. adding (v ns))
good-adding {known} {ps} {v} is = record {
  longer = λ ns. omega (arith, is.longer ns, grows-length (v ns).names _ (grows-for hidden (v ns).names), grows-length (slots_for hidden (v ns).names) _ (grows-for hidden (slots_for hidden (v ns).names)));
  fine = λ may allows has n ns room.
      let ms : SlotNames = slots_for hidden (v ns).names in
      let wide : length ms ≤ n = omega (arith, room, grows-length ms _ (grows-for hidden ms)) in
      let fits : length (v ns).names ≤ n = omega (arith, wide, grows-length (v ns).names _ (grows-for hidden (v ns).names)) in
      fine-append n may (v ns).goals (apply itself_name (list_cell (v ns).tree (Tree.var (slot_for hidden (v ns).names)) ∷ []) (slot_for hidden ms) ∷ []) (is.fine may allows has n ns fits)
      (fine-one n may _
      (fine-apply n may itself_name (list_cell (v ns).tree (Tree.var (slot_for hidden (v ns).names)) ∷ []) (slot_for hidden ms)
      (front-below n _ no_trees (comp-below n cell_name _ (front-below n (v ns).tree _ (is.below n ns fits) (front-below n _ no_trees (var-below n _ (name-room hidden (v ns).names n wide)) (none-below n)))) (none-below n)) (name-room hidden ms n room)
      (allows.tables itself_name 1 itself-there)));
  helpers = is.helpers;
}

begun-long : (ns : SlotNames) → length (begun ns).names ≡ suc (length ns)
begun-long ns = length-append (found_by (λ name. not (bytes_eq name hidden)) ns) (hidden ∷ []) ∙ omega (arith, found-long (λ name. not (bytes_eq name hidden)) ns)

pub good-comprehension : {known : Knows} {ps : List PredTree} {loop : SlotNames → SlotGoals} (h : ℕ) (before : Names) → GoodGoals known ps loop → GoodValue known ps (λ ns. comprehension h before loop ns)
good-comprehension {known} {ps} {loop} h before is = record {
  longer = λ ns. omega (arith, wide ns, long ns, grows-length ns _ (term-grows (array (as_written before)) ns));
  fine = λ may allows has n ns room.
      let start : SlotValue = started h before ns in
      let begins : SlotGoals = begun start.names in
      let fits : length (loop begins.names).names ≤ n = omega (arith, room, long ns) in
      fine-append n may start.goals (begins.goals ++ (loop begins.names).goals) (started-fine known may allows n h before ns (omega (arith, fits, wide ns)))
      (fine-append n may begins.goals (loop begins.names).goals
      (fine-one n may _ (fine-apply n may itself_name (Tree.atom nil ∷ []) (length start.names) (front-below n _ no_trees (atom-below n nil) (none-below n)) (omega (arith, fits, wide ns)) (allows.tables itself_name 1 itself-there)))
      (is.fine may allows has n begins.names fits));
  below = λ n ns room. var-below n (length (started h before ns).names) (omega (arith, room, long ns, wide ns));
  helpers = is.helpers;
}
  where
    wide : (ns : SlotNames) → suc (length (started h before ns).names) ≤ length (loop (begun (started h before ns).names).names).names
    wide ns = omega (arith, begun-long (started h before ns).names, is.longer (begun (started h before ns).names).names)

    long : (ns : SlotNames) → length (comprehension h before loop ns).names ≡ length (loop (begun (started h before ns).names).names).names
    long ns = behind-long (started h before ns).names (loop (begun (started h before ns).names).names).names (omega (arith, wide ns))
