-- An iterator's second helper: an element that matches has its turn, and one that doesn't is passed over.
use Rattle.std.proofs.Common.{◌≡◌, ℕ, zero, suc, ◌+◌, ◌-◌, ◌≤◌, ◌<◌, Bool, false, cond, List, [], ◌∷◌, ◌++◌, length, map, refl, sym, ◌∙◌, ap, arith, length-append}
use Rattle.std.specs.Prelude.{Option, Some, None, option_and_then, option_map, IsSome, replicate, unwrap_or}
use Rattle.std.specs.Str.{bytes_eq}
use Rattle.pi_terms.specs.Tree.{Tree, trees_of}
use Rattle.pi_terms.specs.Places.{Places, held}
use Rattle.pi_constraints.specs.State.{State}
use Rattle.pi_constraints.specs.Evaluation.{evaluated_all}
use Rattle.pi_core.specs.GoalTree.{GoalTree}
use Rattle.pi_traces.specs.Trace.{Trace, one, then}
use Rattle.pi_traces.proofs.RelatedLemmas.{Same}
use Rattle.pi_traces.proofs.TraceLemmas.{then-one, then-assoc}
use Rattle.pi_traces.proofs.AnswerLemmas.{EachAnswer}
use Rattle.pi_meaning.specs.Shared.Level.{Level, Point}
use Rattle.pi_meaning.specs.CoreMeaning.Builtins.{Builtins, predicate_by}
use Rattle.pi_meaning.specs.Shared.Given.{Setting}
use Rattle.pi_meaning.specs.CoreMeaning.Meaning.{meaning}
use Rattle.pi_meaning.specs.OverNames.Environment.{Environment, meant}
use Rattle.pi_meaning.specs.OverNames.Place.{Place}
use Rattle.pi_meaning.specs.OverNames.Assigning.{carried, narrowed}
use Rattle.pi_meaning.specs.OverNames.Control.{Goal}
use Rattle.pi_rewrite_spec.specs.Slots.{SlotNames, unnamed, slot_of}
use Rattle.pi_rewrite_spec.specs.Values.{SlotPattern}
use Rattle.pi_rewrite_spec.specs.Forms.{Knows}
use Rattle.pi_rewrite_laws.specs.Roots.{RootsStay}
use Rattle.pi_rewrite_spec.specs.Goals.{SlotGoals, in_turn}
use Rattle.pi_rewrite_spec.specs.Loops.{slots_from, Loop, loop_slots}
use Rattle.pi_rewrite_spec.specs.Iterators.{walk_slots, handed, turn_slots}
use Rattle.pi_rewrite_spec.proofs.SameLemmas.{SameBy, same-then, same-equal, same-equals, same-each-left}
use Rattle.pi_rewrite_spec.proofs.FilledLemmas.{terms_at, all-filled-comes}
use Rattle.pi_rewrite_spec.proofs.AgreeLemmas.{Room, free_room, text_itself, or_last, slot-among, slot-below, Agrees, holding, agrees-holding, unnamed-still}
use Rattle.pi_rewrite_laws.proofs.HeadLemmas.{AllFirm}
use Rattle.pi_rewrite_spec.proofs.RunLemmas.{Alike, point, place, AtPlace, at_place, runs, SameGoals, then-of-one, runs-append, runs-one, turn-runs}
use Rattle.pi_rewrite_spec.proofs.ControlLemmas.{Drains}
use Rattle.pi_rewrite_spec.proofs.HandedLemmas.{entered, entered-held, some-again, values_from, slots-filled, handed-held}
use Rattle.pi_rewrite_spec.proofs.EnteredLemmas.{values-long}
use Rattle.pi_rewrite_spec.proofs.CarriedLemmas.{Handed, name-at-behind, name-at-unnamed, front-unnamed, held-front, held-behind, clause-agrees, Apart, carried-on}
use Rattle.pi_rewrite_laws.proofs.HelperLemmas.{state_of, called-runs}

-- ---- states

pub roots-stay-itself : (s : State) → RootsStay s s
roots-stay-itself s = record { compounds = λ t f ts is. is; atoms = λ t name is. is }

-- ---- slots that a pattern fills

slots-split : (p j : ℕ) (slots all : Places) → ((k : ℕ) → held slots k ≡ held all (j + k)) → ((k : ℕ) → k < p → IsSome (held slots k)) → ((k : ℕ) → p ≤ k → held slots k ≡ None) → p ≤ length slots →
    slots ≡ map Some (values_from j p all) ++ replicate (length slots - p) None
unfolding values_from
slots-split zero j [] all at firm empty less = refl
slots-split zero j (x ∷ slots) all at firm empty less =
    ap (λ (y : Option Tree). y ∷ slots) (empty 0 (omega arith))
    ∙ ap (λ (ps : Places). None ∷ ps) (slots-split zero (suc j) slots all (λ k. at (suc k) ∙ ap (held all) (omega arith)) (λ k under. absurd (omega (arith, under))) (λ k past. empty (suc k) (omega arith)) (omega arith))
    ∙ ap (λ (n : ℕ). replicate {A = Option Tree} n None) longer
  where
    longer : suc (length slots - zero) ≡ length (x ∷ slots) - zero
    longer = omega arith
slots-split (suc p) j [] all at firm empty less = absurd (omega (arith, less))
slots-split (suc p) j (x ∷ slots) all at firm empty less =
    ap (λ (y : Option Tree). y ∷ slots) (some-again x (firm 0 (omega arith)) ∙ ap (λ (o : Option Tree). Some (unwrap_or o (Tree.atom []))) (at 0 ∙ ap (held all) (omega arith)))
    ∙ ap (λ (ps : Places). Some (unwrap_or (held all j) (Tree.atom [])) ∷ ps)
    (slots-split p (suc j) slots all (λ k. at (suc k) ∙ ap (held all) (omega arith)) (λ k under. firm (suc k) (omega (arith, under))) (λ k past. empty (suc k) (omega (arith, past))) (omega (arith, less)))
    ∙ ap (λ (n : ℕ). Some (unwrap_or (held all j) (Tree.atom [])) ∷ (map Some (values_from (suc j) p all) ++ replicate n None)) shorter
  where
    shorter : length slots - p ≡ length (x ∷ slots) - suc p
    shorter = omega arith

-- what matching leaves
pub matched-slots : (n p : ℕ) (front : SlotNames) (f : Environment) (slots : Places) → AllFirm (free_room n) front f slots → length front ≡ p → p ≤ n → slots ≡ map Some (values_from 0 p slots) ++ replicate (n - p) None
matched-slots n p front f slots a count less =
    slots-split p 0 slots slots (λ k. ap (held slots) (omega arith)) (λ k under. a.firm k (omega (arith, under, count))) (λ k past. a.empty k (omega (arith, past, count))) (omega (arith, less, a.long))
    ∙ ap (λ (j : ℕ). map Some (values_from 0 p slots) ++ replicate (j - p) None) a.long

pub held-again : (slots : Places) (p k : ℕ) → ((i : ℕ) → i < p → IsSome (held slots i)) → k < p → held (map Some (values_from 0 p slots)) k ≡ held slots k
held-again slots p k firm less = handed-held p slots firm k less

-- ---- an element

-- The slots of the second helper's clauses: an element's pattern, and the walk.
abbrev pub turn_front : SlotPattern → SlotNames
turn_front p = p.names ++ replicate walk_slots unnamed

-- what stands in a turn: its goals, over slots and over names, at the levels inside the second helper
pub record TurnSame (known : Knows) (set : Setting) (b : Builtins) (w : Loop) (p : SlotPattern) (body : Goal) (lb : SlotNames → SlotGoals) (l k : Level) : Type 0 where
  pub alike : Alike known set b l k
  pub turn : SameGoals b l k (length (turn_front p) + length (loop_slots w)) body lb
  pub roots : (slots : Places) (s : State) → EachAnswer (λ q. RootsStay s q.state) (runs b (lb (turn_slots w p)).goals (point l slots s))

pub handed-long : (w : Loop) → handed w ≡ suc (suc (suc (length (loop_slots w))))
handed-long w = omega (arith, values-long w.kept w.shared)

pub front-long : (p : SlotPattern) → length (turn_front p) ≡ length p.names + 3
front-long p = length-append p.names (replicate walk_slots unnamed) ∙ omega arith

-- what the second helper is handed behind the element
abbrev pub walked : Tree → Tree → Tree → List Tree → List Tree
walked rest i all hs = rest ∷ i ∷ all ∷ hs

-- the next element is asked for
abbrev pub asks : Builtins → Level → Loop → ℕ → Tree → Tree → Tree → State → (Place → Trace State) → Type 0
asks b l w base rest i all s next = (e : Environment) (hs : List Tree) (r : State) → RootsStay s r → Handed w base e hs → predicate_by b l w.name (trees_of (walked rest i all hs)) r ≡ next (place e r)

-- the values in front of what is handed on
abbrev pub in_front : List Tree → Tree → Tree → Tree → List Tree
in_front us rest i all = us ++ rest ∷ i ∷ all ∷ []

in-front-long : (us : List Tree) (rest i all : Tree) → length (in_front us rest i all) ≡ length us + 3
in-front-long us rest i all = length-append us (rest ∷ i ∷ all ∷ []) ∙ omega arith

pub unnamed-long : (k : ℕ) → length (replicate {A = List ℕ} k unnamed) ≡ k
unnamed-long zero = refl
unnamed-long (suc k) = ap suc (unnamed-long k)

pub unnamed-none : (name : List ℕ) (k : ℕ) → bytes_eq name unnamed ≡ false → slot_of name (replicate k unnamed) ≡ None
unfolding slot_of
unnamed-none name zero named = refl
unnamed-none name (suc k) named =
    ap (λ (b : Bool). cond b (Some 0) (option_map (λ j. suc j) (slot_of name (replicate k unnamed)))) named ∙ ap (option_map (λ j. suc j)) (unnamed-none name k named)

pub front-slot : (p : SlotPattern) (name : List ℕ) → bytes_eq name unnamed ≡ false → slot_of name (turn_front p) ≡ slot_of name p.names
front-slot p name named = slot-among name p.names (replicate walk_slots unnamed) ∙ ap (λ (o : Option ℕ). or_last (slot_of name p.names) (option_map (λ k. length p.names + k) o)) (unnamed-none name walk_slots named) ∙ last (slot_of name p.names)
  where
    last : (o : Option ℕ) → or_last o None ≡ o
    last None = refl
    last (Some k) = refl

-- The slots of the walk have what they had.
walk-stays : (w : Loop) (p : SlotPattern) (base : ℕ) (e after : Environment) (us hs : List Tree) (rest i all : Tree) → Handed w base e hs → length us ≡ length p.names → (n m : ℕ) (ms : SlotNames) (slots : Places) →
    Agrees (holding (free_room n) (turn_slots w p) (entered (in_front us rest i all ++ hs) m)) (length (turn_front p) + length (loop_slots w)) ms after slots → (k : ℕ) (x : Tree) → k < 3 → held (map Some (rest ∷ i ∷ all ∷ [])) k ≡ Some x →
    held slots (length p.names + k) ≡ Some x
walk-stays w p base e after us hs rest i all given count n m ms slots a k x less is =
    unnamed-still (free_room n) (length (turn_front p) + length (loop_slots w)) (turn_slots w p) ms after (entered (in_front us rest i all ++ hs) m) slots a (length p.names + k)
    (front-unnamed w (turn_front p) (length p.names + k) (omega (arith, less, front-long p)) (ap (λ (y : List ℕ). bytes_eq y unnamed) (name-at-behind p.names (replicate walk_slots unnamed) k ∙ name-at-unnamed walk_slots k less) ∙ text_itself unnamed))
    ∙ entered-held (in_front us rest i all ++ hs) m (length p.names + k) (omega (arith, less, count, in-front-long us rest i all, length-append (in_front us rest i all) hs))
    ∙ held-front (in_front us rest i all) hs (length p.names + k) (omega (arith, less, count, in-front-long us rest i all))
    ∙ ap (λ (j : ℕ). held (map Some (in_front us rest i all)) (j + k)) (sym count) ∙ held-behind us (rest ∷ i ∷ all ∷ []) k ∙ is

handed-again : (w : Loop) (p : SlotPattern) (base : ℕ) (e after : Environment) (us hs : List Tree) (rest i all : Tree) → Handed w base e hs → length us ≡ length p.names → (n m : ℕ) (ms : SlotNames) (slots : Places) →
    Agrees (holding (free_room n) (turn_slots w p) (entered (in_front us rest i all ++ hs) m)) (length (turn_front p) + length (loop_slots w)) ms after slots →
    values_from (length p.names) (handed w) slots ≡ walked rest i all (values_from (length (turn_front p)) (length (loop_slots w)) slots)
unfolding values_from
handed-again w p base e after us hs rest i all given count n m ms slots a =
    ap (λ (c : ℕ). values_from (length p.names) c slots) (handed-long w)
    ∙ ap (λ (t : Tree). t ∷ value (suc (length p.names)) ∷ value (suc (suc (length p.names))) ∷ values_from (suc (suc (suc (length p.names)))) (length (loop_slots w)) slots) (stays 0 rest (length p.names) (omega arith) (omega arith) refl)
    ∙ ap (λ (t : Tree). rest ∷ t ∷ value (suc (suc (length p.names))) ∷ values_from (suc (suc (suc (length p.names)))) (length (loop_slots w)) slots) (stays 1 i (suc (length p.names)) (omega arith) (omega arith) refl)
    ∙ ap (λ (t : Tree). rest ∷ i ∷ t ∷ values_from (suc (suc (suc (length p.names)))) (length (loop_slots w)) slots) (stays 2 all (suc (suc (length p.names))) (omega arith) (omega arith) refl)
    ∙ ap (λ (j : ℕ). walked rest i all (values_from j (length (loop_slots w)) slots)) (omega (arith, front-long p))
  where
    value : ℕ → Tree
    value j = unwrap_or (held slots j) (Tree.atom [])

    stays : (k : ℕ) (x : Tree) (j : ℕ) → k < 3 → length p.names + k ≡ j → held (map Some (rest ∷ i ∷ all ∷ [])) k ≡ Some x → unwrap_or (held slots j) (Tree.atom []) ≡ x
    stays k x j less is at = ap (λ (o : Option Tree). unwrap_or o (Tree.atom [])) (ap (held slots) (sym is) ∙ walk-stays w p base e after us hs rest i all given count n m ms slots a k x less at)

-- What stands last in a turn, behind its goals: by what slots have where these have come to, from `free` on nothing.
abbrev pub LastDoes : Builtins → Level → Loop → SlotPattern → ℕ → ℕ → ℕ → Tree → Tree → Tree → State → GoalTree → (Place → Trace State) → Type 0
LastDoes b l w p base n free rest i all s last next = (after : Environment) (places : Places) (r : State) → RootsStay s r → length places ≡ n → ((j : ℕ) → j < length (turn_front p) + length (loop_slots w) → IsSome (held places j)) → ((j : ℕ) → free ≤ j → held places j ≡ None) →
    values_from (length p.names) (handed w) places ≡ walked rest i all (values_from (length (turn_front p)) (length (loop_slots w)) places) → Handed w base (narrowed w.shared after) (values_from (length (turn_front p)) (length (loop_slots w)) places) →
    then (meaning b last (point l places r)) state_of ≡ next (place (narrowed w.shared after) r)

-- goals of a turn, and then what stands last
pub turn-goes-on : (known : Knows) (set : Setting) (b : Builtins) (w : Loop) (p : SlotPattern) (body : Goal) (lb : SlotNames → SlotGoals) (l k : Level) → TurnSame known set b w p body lb l k → Apart w (turn_front p) → (base : ℕ) (others : Place → Trace Place)
    (ends : Place → Trace State) (e f : Environment) (us hs : List Tree) (rest i all : Tree) (s : State) → Handed w base e hs → length us ≡ length p.names → ((name : List ℕ) → bytes_eq name unnamed ≡ false → meant name f ≡ option_and_then (held (map Some us)) (slot_of name p.names)) →
    (n m : ℕ) → n ≡ (length (turn_front p) + length (loop_slots w)) + m → length (lb (turn_slots w p)).names ≤ n → (last : GoalTree) → LastDoes b l w p base n (length (lb (turn_slots w p)).names) rest i all s last (λ q. then (others q) ends) →
    then (meaning b (in_turn ((lb (turn_slots w p)).goals ++ last ∷ [])) (point l (entered (in_front us rest i all ++ hs) m) s)) state_of
    ≡ then (then (body k (place (f ++ e) s)) (λ q. others (carried w.shared q))) ends
turn-goes-on known set b w p body lb l k same apart base others ends e f us hs rest i all s given count found n m is room last does =
    ap (λ (t : Trace Point). then t state_of) (turn-runs b l same.alike.core_drains (goals ++ last ∷ []) slots s ∙ runs-append b goals (last ∷ []) (point l slots s))
    ∙ then-assoc (runs b goals (point l slots s)) (runs b (last ∷ [])) state_of
    ∙ same-equal _ _ (same-then (λ x y. AtPlace l R (length front + length (loop_slots w)) (lb (turn_slots w p)).names x y × RootsStay s x.state) Same _ _ (λ x. then (runs b (last ∷ []) x) state_of) (λ q. then (others (carried w.shared q)) ends)
    (same-each-left (AtPlace l R (length front + length (loop_slots w)) (lb (turn_slots w p)).names) (λ x. RootsStay s x.state) _ _ (same.turn.same R (turn_slots w p) (f ++ e) slots s agrees room) (same.roots slots s)) next)
    ∙ sym (then-assoc (body k (place (f ++ e) s)) (λ q. others (carried w.shared q)) ends)
  where
    front : SlotNames
    front = turn_front p

    slots : Places
    slots = entered (in_front us rest i all ++ hs) m

    goals : List GoalTree
    goals = (lb (turn_slots w p)).goals

    R : Room
    R = holding (free_room n) (turn_slots w p) (entered (in_front us rest i all ++ hs) m)

    long : length (in_front us rest i all) ≡ length (turn_front p)
    long = in-front-long us rest i all ∙ omega (arith, count, front-long p)

    fronts : (name : List ℕ) → bytes_eq name unnamed ≡ false → meant name f ≡ option_and_then (held (map Some (in_front us rest i all))) (slot_of name (turn_front p))
    fronts name named = found name named ∙ in-us (slot_of name p.names) refl ∙ ap (option_and_then (held (map Some (in_front us rest i all)))) (sym (front-slot p name named))
      where
        in-us : (o : Option ℕ) → slot_of name p.names ≡ o → option_and_then (held (map Some us)) o ≡ option_and_then (held (map Some (in_front us rest i all))) o
        in-us None at = refl
        in-us (Some j) at = sym (held-front us (rest ∷ i ∷ all ∷ []) j (omega (arith, slot-below name p.names j at, count)))

    agrees : Agrees (holding (free_room n) (turn_slots w p) (entered (in_front us rest i all ++ hs) m)) (length (turn_front p) + length (loop_slots w)) (turn_slots w p) (f ++ e) (entered (in_front us rest i all ++ hs) m)
    agrees = agrees-holding (free_room n) (length (turn_front p) + length (loop_slots w)) (turn_slots w p) (f ++ e) (entered (in_front us rest i all ++ hs) m)
        (clause-agrees w base e hs given (turn_front p) (in_front us rest i all) long f fronts n m is)

    next : (x : Point) (y : Place) → AtPlace l (holding (free_room n) (turn_slots w p) (entered (in_front us rest i all ++ hs) m)) (length (turn_front p) + length (loop_slots w)) (lb (turn_slots w p)).names x y × RootsStay s x.state →
        SameBy Same (then (runs b (last ∷ []) x) state_of) (then (others (carried w.shared y)) ends)
    next _ _ (at_place after places r a, stay) =
        same-equals _ _ (ap (λ (t : Trace Point). then t state_of) (runs-one b last (point l places r))
        ∙ does after places r stay a.long (λ j less. a.firm j less) (λ j past. a.empty j past) (handed-again w p base e after us hs rest i all given count n m (lb (turn_slots w p)).names places a)
        (carried-on w base e after hs given (turn_front p) (in_front us rest i all) long apart (free_room n) m (lb (turn_slots w p)).names places (same.turn.grows (turn_slots w p)) a))

-- the next element is asked for by a call of the first helper
pub asked-last : (b : Builtins) (l : Level) → Drains l → (w : Loop) (p : SlotPattern) (base n free : ℕ) (rest i all : Tree) (s : State) (next : Place → Trace State) → asks b l w base rest i all s next →
    LastDoes b l w p base n free rest i all s (GoalTree.call w.name (slots_from (length p.names) (handed w))) next
asked-last b l drains w p base n free rest i all s next asked after places r stay long firm empty again given =
    ap (λ (t : Trace Point). then t state_of) (called-runs b l drains w.name (slots_from (length p.names) (handed w)) vs places places r r come)
    ∙ then-assoc (predicate_by b l w.name (trees_of vs) r) (λ q. one (point l places q)) state_of
    ∙ ap (then (predicate_by b l w.name (trees_of vs) r)) (λ j q. then-of-one (point l places q) state_of j)
    ∙ then-one (predicate_by b l w.name (trees_of vs) r)
    ∙ ap (λ (us : List Tree). predicate_by b l w.name (trees_of us) r) again
    ∙ asked (narrowed w.shared after) (values_from (length (turn_front p)) (length (loop_slots w)) places) r stay given
  where
    vs : List Tree
    vs = values_from (length p.names) (handed w) places

    come : evaluated_all (trees_of (slots_from (length p.names) (handed w))) places r ≡ terms_at (trees_of (values_from (length p.names) (handed w) places)) places r
    come = all-filled-comes places (trees_of (slots_from (length p.names) (handed w))) (trees_of (values_from (length p.names) (handed w) places))
        (slots-filled (length p.names) (handed w) places (λ j from less. firm j (omega (arith, less, handed-long w, front-long p)))) r
