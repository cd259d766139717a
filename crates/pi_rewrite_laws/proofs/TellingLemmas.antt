-- An answer of a query tells what the answer over names tells.
use Rattle.std.proofs.Common.{◌≡◌, ℕ, ◌≤◌, Bool, true, false, cond, List, [], ◌∷◌, length, refl, sym, ◌∙◌, ap, subst, arith, nat_lt}
use Rattle.pi_terms.specs.Tree.{Tree, most_cells, cells}
use Rattle.pi_terms.specs.Places.{Places}
use Rattle.pi_constraints.specs.Value.{value}
use Rattle.pi_constraints.specs.State.{State, bindings}
use Rattle.pi_constraints.specs.Evaluation.{Evaluated}
use Rattle.pi_core.specs.declared.answer.NamedTerm.{NamedTerm}
use Rattle.pi_traces.specs.Trace.{Trace, end, one}
use Rattle.pi_traces.proofs.RelatedLemmas.{Same, same}
use Rattle.pi_meaning.specs.Shared.Raise.{too_large, within_limit}
use Rattle.pi_meaning.specs.Shared.Level.{Level, Point}
use Rattle.pi_meaning.specs.OverNames.Environment.{Environment, Valued, known, name_valued}
use Rattle.pi_meaning.specs.OverNames.Place.{Place}
use Rattle.pi_meaning.specs.CoreMeaning.Run.{Solution, told, answered_with}
use Rattle.pi_meaning.specs.OverNames.Telling.{told_values, if_tellable, telling, Told, place_told}
use Rattle.pi_meaning.specs.Shared.Told.{named_values, solution_told}
use Rattle.pi_meaning.specs.OverNames.Texts.{Names}
use Rattle.pi_rewrite_spec.specs.Slots.{SlotNames, slot_for, slots_for, named_slots, slots_behind}
use Rattle.pi_rewrite_spec.proofs.SameLemmas.{SameBy, same_end, same-one}
use Rattle.pi_rewrite_spec.proofs.AgreeLemmas.{Room, Grows, grows-none, grows-then, grows-length, grows-for, Agrees, agrees-more}
use Rattle.pi_rewrite_spec.proofs.TermLemmas.{Comes, name-comes}
use Rattle.pi_rewrite_spec.proofs.RunLemmas.{place, AtPlace, at_place}

pub behind-grows : (names : Names) (ns : SlotNames) → Grows ns (slots_behind names ns)
unfolding slots_behind
behind-grows [] ns = grows-none ns
behind-grows (name ∷ names) ns = grows-then ns _ _ (grows-for name ns) (behind-grows names (slots_for name ns))

-- one value, and those behind it
abbrev value_before : List ℕ → Tree → State → List NamedTerm → List NamedTerm
value_before name t s rest = record { name = name; value = value (bindings s) t } ∷ rest

values-same : (names : Names) (n : Room) (h : ℕ) (ns : SlotNames) (e : Environment) (slots : Places) (s : State) → Agrees n h ns e slots → length (slots_behind names ns) ≤ n.slots →
    named_values (named_slots names ns) slots s ≡ told_values names e s
unfolding named_values named_slots told_values slots_behind
values-same [] n h ns e slots s a room = refl
values-same (name ∷ names) n h ns e slots s a room =
    let ms : SlotNames = slots_for name ns in
    let x : Valued = name_valued (known name e) name e s in
    let c : Comes n h ms (Tree.var (slot_for name ns)) slots s x = name-comes n h ns e slots s a name (omega (arith, room, grows-length ms _ (behind-grows names ms))) in
    ap (λ (y : Evaluated). value_before name y.tree y.state (named_values (named_slots names ms) y.slots y.state)) c.comes
    ∙ ap (value_before name x.tree x.state) (values-same names n h ms x.names c.after x.state c.agrees room)

limited : {A B : Type 0} (R : A → B → Type 0) (t : Tree) (a : Trace A) (b : Trace B) → SameBy R a b → SameBy R (within_limit t a) (within_limit t b)
limited R t a b h = tested (nat_lt most_cells (cells t))
  where
    tested : (c : Bool) → SameBy R (cond c (end too_large) a) (cond c (end too_large) b)
    tested true = same_end too_large
    tested false = h

told-same : (R : Solution → Place → Type 0) (names : Names) (n : Room) (h : ℕ) (ns : SlotNames) (e : Environment) (slots : Places) (s : State) → Agrees n h ns e slots → length (slots_behind names ns) ≤ n.slots → (a : Trace Solution) (b : Trace Place) → SameBy R a b →
    SameBy R (told (named_slots names ns) (record { slots = slots; state = s }) a) (if_tellable names (place e s) b)
unfolding told named_slots if_tellable slots_behind
told-same R [] n h ns e slots s agrees room a b is = is
told-same R (name ∷ names) n h ns e slots s agrees room a b is =
    let ms : SlotNames = slots_for name ns in
    let x : Valued = name_valued (known name e) name e s in
    let c : Comes n h ms (Tree.var (slot_for name ns)) slots s x = name-comes n h ns e slots s agrees name (omega (arith, room, grows-length ms _ (behind-grows names ms))) in
    subst (λ (y : Evaluated). SameBy R (within_limit (value (bindings y.state) y.tree) (told (named_slots names ms) (record { slots = slots; state = s }) a)) (within_limit (value (bindings x.state) x.tree) (if_tellable names (place e s) b))) (sym c.comes)
    (limited R (value (bindings x.state) x.tree) _ _ (told-same R names n h ms e slots s (agrees-more n h ns ms e slots (grows-for name ns) agrees) room a b is))

-- an answer and an answer that tell the same
pub data TellSame (names : Names) (ns : SlotNames) : Solution → Place → Type 0 where
  tell_same : (x : Solution) (p : Place) → solution_told (named_slots names ns) x ≡ place_told names p → TellSame names ns x p

pub answered-same : (names : Names) (l : Level) (n : Room) (h : ℕ) (ns : SlotNames) → length (slots_behind names ns) ≤ n.slots → (p : Point) (q : Place) → AtPlace l n h ns p q →
    SameBy (TellSame names ns) (answered_with (named_slots names ns) p) (telling names q)
answered-same names l n h ns room _ _ (at_place e slots s a) =
    told-same (TellSame names ns) names n h ns e slots s a room (one (record { slots = slots; state = s })) (one (place e s))
    (same-one (TellSame names ns) _ _ (tell_same _ _ (ap (λ (vs : List NamedTerm). record { values = vs; state = s }) (values-same names n h ns e slots s a room))))

pub told-one : (names : Names) (ns : SlotNames) (x : Solution) (p : Place) → TellSame names ns x p → SameBy Same (one (solution_told (named_slots names ns) x)) (one (place_told names p))
told-one names ns _ _ (tell_same x p e) = subst (λ (t : Told). SameBy Same (one (solution_told (named_slots names ns) x)) (one t)) e (same-one Same _ _ (same (solution_told (named_slots names ns) x)))
