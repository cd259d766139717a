-- Parts of loops do over slots what they do over names: what is there when a loop starts, and what stands behind it.
use Rattle.std.proofs.Common.{◌≡◌, ℕ, suc, ◌≤◌, ◌<◌, true, List, [], ◌∷◌, length, refl, sym, ◌∙◌, ap, subst, arith}
use Rattle.std.specs.Prelude.{Option, Some, slice_set, ⊤}
use Rattle.pi_terms.specs.Tree.{Tree, no_trees, tree, tree_count, comp}
use Rattle.pi_terms.specs.Places.{Places, held}
use Rattle.pi_syntax.specs.PrintTerm.{array_name}
use Rattle.pi_constraints.specs.State.{State}
use Rattle.pi_effects.specs.Inner.{itself_name}
use Rattle.pi_syntax.specs.ExpTree.{ExpTrees, array}
use Rattle.pi_core.specs.GoalTree.{GoalTree}
use Rattle.pi_traces.specs.Trace.{Trace, one, then}
use Rattle.pi_traces.proofs.TraceLemmas.{then-one}
use Rattle.pi_meaning.specs.Shared.Level.{Level, Point}
use Rattle.pi_meaning.specs.CoreMeaning.Builtins.{Builtins}
use Rattle.pi_meaning.specs.Shared.Given.{Setting}
use Rattle.pi_meaning.specs.CoreMeaning.Meaning.{meaning}
use Rattle.pi_meaning.specs.OverNames.Environment.{Environment, known, Valued, ValuedAll, name_valued}
use Rattle.pi_meaning.specs.OverNames.Place.{Place}
use Rattle.pi_meaning.specs.OverNames.Texts.{Names}
use Rattle.pi_meaning.specs.OverNames.Assigning.{place_of, with_names, with_value}
use Rattle.pi_meaning.specs.OverNames.Forms.{plain}
use Rattle.pi_meaning.specs.OverNames.Goals.{value_of, values_of}
use Rattle.pi_rewrite_spec.specs.Slots.{SlotNames, slot_known, slot_or_next, slots_with, slot_for, slots_for}
use Rattle.pi_rewrite_spec.specs.Values.{is_flat_as, is_flat, are_flat}
use Rattle.pi_rewrite_spec.specs.Forms.{Knows, IsTerm, AreTerms}
use Rattle.pi_rewrite_spec.specs.Loops.{as_written, started, kept_goals}
use Rattle.pi_rewrite_spec.proofs.SameLemmas.{SameBy, same-one, same-map, same-then}
use Rattle.pi_rewrite_spec.proofs.FilledLemmas.{in_slot, one_filled, none_filled, Extends}
use Rattle.pi_rewrite_spec.proofs.AgreeLemmas.{Room, Grows, Agrees, set-other, agrees-assigned}
use Rattle.pi_rewrite_spec.proofs.RunLemmas.{Alike, point, place, AtPlace, at_place, AtFilled, at_filled, runs, SameFilled, then-of-one}
use Rattle.pi_rewrite_spec.proofs.TouchLemmas.{flat-filled}
use Rattle.pi_rewrite_spec.proofs.InnerLemmas.{itself-called, itself-known}
use Rattle.pi_rewrite_spec.proofs.EndLemmas.{applied-runs, kept_environment}

-- ---- names that stand before a loop

-- what they come to, as they are written
unfoldable written_values : Names → Place → ValuedAll
written_values [] p = record { trees = no_trees; names = p.names; state = p.state }
written_values (name ∷ names) p =
    let x : Valued = name_valued (known name p.names) name p.names p.state in
    let rest : ValuedAll = written_values names (place_of x) in
    record { trees = tree x.tree rest.trees; names = rest.names; state = rest.state }

names-come : (set : Setting) (m : Level) (before names : Names) (p : Place) → values_of set [] before (as_written names) m p ≡ one (written_values names p)
unfolding value_of as_written written_values
names-come set m before [] p = refl
names-come set m before (name ∷ names) p =
    let x : Valued = name_valued (known name p.names) name p.names p.state in
    then-of-one x (λ y. then (values_of set [] (Rattle.pi_meaning.specs.OverNames.Texts.behind before (Rattle.pi_meaning.specs.OverNames.Texts.places (Rattle.pi_syntax.specs.ExpTree.var name))) (as_written names) m (place_of y)) (λ all. one (record { trees = tree y.tree all.trees; names = all.names; state = all.state })))
    ∙ ap (λ (t : Trace ValuedAll). then t (λ all. one (record { trees = tree x.tree all.trees; names = all.names; state = all.state })))
    (names-come set m (Rattle.pi_meaning.specs.OverNames.Texts.behind before (Rattle.pi_meaning.specs.OverNames.Texts.places (Rattle.pi_syntax.specs.ExpTree.var name))) names (place_of x))
    ∙ then-of-one (written_values names (place_of x)) (λ all. one (record { trees = tree x.tree all.trees; names = all.names; state = all.state }))

abbrev behind_values : ValuedAll → Place
behind_values all = record { names = all.names; state = all.state }

names-stand : (names : Names) (p : Place) → behind_values (written_values names p) ≡ with_names names p
unfolding with_names written_values
names-stand [] p = refl
names-stand (name ∷ names) p = names-stand names (place_of (name_valued (known name p.names) name p.names p.state))

are-terms : (names : Names) → AreTerms (as_written names)
unfolding IsTerm as_written
are-terms [] = tt
are-terms (name ∷ names) = (tt, are-terms names)

written-flat : (names : Names) → are_flat (as_written names) ≡ true
unfolding is_flat_as as_written
written-flat [] = refl
written-flat (name ∷ names) = written-flat names

array-is-term : (names : Names) → IsTerm (array (as_written names))
unfolding IsTerm
array-is-term names = are-terms names

array-is-flat : (names : Names) → is_flat (array (as_written names)) ≡ true
unfolding is_flat_as
array-is-flat names = written-flat names

array-comes : (set : Setting) (m : Level) (before names : Names) (p : Place) →
    value_of set plain before (array (as_written names)) m p ≡ one (record { tree = comp array_name (written_values names p).trees; names = (written_values names p).names; state = (written_values names p).state })
unfolding value_of
array-comes set m before names p =
    ap (λ (t : Trace ValuedAll). then t (λ all. one (record { tree = comp array_name all.trees; names = all.names; state = all.state }))) (names-come set m before names p)
    ∙ then-of-one (written_values names p) (λ all. one (record { tree = comp array_name all.trees; names = all.names; state = all.state }))

pub started-grows : (known : Knows) (set : Setting) (b : Builtins) (l m : Level) (h : ℕ) → Alike known set b l m → (before : Names) (ns : SlotNames) → Grows ns (started h before ns).names
started-grows known set b l m h alike before ns = (flat-filled known set b l m h plain before (array (as_written before)) alike (array-is-term before) (array-is-flat before)).grows ns

-- All of them are there when the loop starts, and what slots have stays.
pub started-stays : (known : Knows) (set : Setting) (b : Builtins) (l m : Level) (h : ℕ) → Alike known set b l m → (before : Names) (n : Room) (ns : SlotNames) (e : Environment) (slots : Places) (s : State) → Agrees n h ns e slots →
    length (started h before ns).names ≤ n.slots → SameBy (λ p q. AtPlace l n h (started h before ns).names p q × Extends slots p.slots) (runs b (started h before ns).goals (point l slots s)) (one (with_names before (place e s)))
started-stays known set b l m h alike before n ns e slots s a room =
    subst (λ (t : Trace Point). SameBy R t (one (with_names before (place e s)))) (then-one (runs b (started h before ns).goals (point l slots s)))
    (subst (λ (u : Trace Place). SameBy R (then (runs b (started h before ns).goals (point l slots s)) (λ p. one p)) u)
    (ap (λ (t : Trace Valued). then t (λ x. one (place_of x))) (array-comes set m before before (place e s))
    ∙ then-of-one (record { tree = comp array_name (written_values before (place e s)).trees; names = (written_values before (place e s)).names; state = (written_values before (place e s)).state }) (λ x. one (place_of x))
    ∙ ap (λ (p : Place). one p) (names-stand before (place e s)))
    (same-then (AtFilled l n h (started h before ns).names (started h before ns).tree slots) R _ _ (λ p. one p) (λ x. one (place_of x)) (filled.same n ns e slots s a room) behind))
  where
    R : Point → Place → Type 0
    R p q = AtPlace l n h (started h before ns).names p q × Extends slots p.slots

    filled : SameFilled b l m h (value_of set plain before (array (as_written before))) (started h before)
    filled = flat-filled known set b l m h plain before (array (as_written before)) alike (array-is-term before) (array-is-flat before)

    behind : (p : Point) (x : Valued) → AtFilled l n h (started h before ns).names (started h before ns).tree slots p x → SameBy R (one p) (one (place_of x))
    behind _ _ (at_filled f more r u agrees extends holds) = same-one R _ _ (at_place f more r agrees, extends)

pub started-same : (known : Knows) (set : Setting) (b : Builtins) (l m : Level) (h : ℕ) → Alike known set b l m → (before : Names) (n : Room) (ns : SlotNames) (e : Environment) (slots : Places) (s : State) → Agrees n h ns e slots →
    length (started h before ns).names ≤ n.slots → SameBy (AtPlace l n h (started h before ns).names) (runs b (started h before ns).goals (point l slots s)) (one (with_names before (place e s)))
started-same known set b l m h alike before n ns e slots s a room =
    same-map (λ p q. AtPlace l n h (started h before ns).names p q × Extends slots p.slots) (AtPlace l n h (started h before ns).names) (λ p q both. both.0) _ _ (started-stays known set b l m h alike before n ns e slots s a room)

-- ---- behind a loop

-- a value goes from slot to slot
put-runs : (known : Knows) (set : Setting) (b : Builtins) (l m : Level) → Alike known set b l m → (k j : ℕ) (slots : Places) (s : State) (u : Tree) → held slots k ≡ Some u →
    meaning b (GoalTree.apply itself_name (Tree.var k ∷ []) j) (point l slots s) ≡ one (point l (slice_set slots j (Some u)) s)
unfolding tree_count
put-runs known set b l m alike k j slots s u there =
    applied-runs b l alike.core_drains itself_name (Tree.var k ∷ []) (u ∷ []) j slots s u (one_filled (in_slot k u there) none_filled)
    (alike.functions itself_name (tree u no_trees) s (itself-known (known.function itself_name 1)) ∙ itself-called set m u s)

-- variables stand in slots from k on; names have slots below
unfoldable pub InSlots : Names → ℕ → ℕ → Places → Type 0
InSlots [] k base slots = ⊤
InSlots (name ∷ names) k base slots = (held slots k ≡ Some (Tree.var base)) × InSlots names (suc k) (suc base) slots

in-slots-set : (names : Names) (j k base : ℕ) (x : Option Tree) (slots : Places) → j < k → InSlots names k base slots → InSlots names k base (slice_set slots j x)
unfolding InSlots
in-slots-set [] j k base x slots less is = tt
in-slots-set (name ∷ names) j k base x slots less is = (set-other slots j x k (λ same. omega (arith, less, same)) ∙ is.0, in-slots-set names j (suc k) (suc base) x slots (omega (arith, less)) is.1)

pub record HasSlot (name : List ℕ) (k : ℕ) (ns : SlotNames) : Type 0 where
  pub slot : ℕ
  pub is : slot_known name ns ≡ Some slot
  pub below : slot < k

unfoldable pub HaveSlots : Names → ℕ → SlotNames → Type 0
HaveSlots [] k ns = ⊤
HaveSlots (name ∷ names) k ns = HasSlot name k ns × HaveSlots names (suc k) ns

unfoldable put_all : Names → ℕ → SlotNames → Places → Places
put_all [] base ns slots = slots
put_all (name ∷ names) base ns slots = put_all names (suc base) ns (slice_set slots (slot_for name ns) (Some (Tree.var base)))

all-put : (known : Knows) (set : Setting) (b : Builtins) (l m : Level) → Alike known set b l m → (names : Names) (k base : ℕ) (ns : SlotNames) (slots : Places) (s : State) → InSlots names k base slots → HaveSlots names k ns →
    runs b (kept_goals names k ns) (point l slots s) ≡ one (point l (put_all names base ns slots) s)
unfolding kept_goals put_all InSlots HaveSlots meaning
all-put known set b l m alike [] k base ns slots s are have = refl
all-put known set b l m alike (name ∷ names) k base ns slots s are have =
    ap (λ (t : Trace Point). then t (runs b (kept_goals names (suc k) ns))) (put-runs known set b l m alike k (slot_for name ns) slots s (Tree.var base) are.0)
    ∙ then-of-one (point l (slice_set slots (slot_for name ns) (Some (Tree.var base))) s) (runs b (kept_goals names (suc k) ns))
    ∙ all-put known set b l m alike names (suc k) (suc base) ns (slice_set slots (slot_for name ns) (Some (Tree.var base))) s
    (in-slots-set names (slot_for name ns) (suc k) (suc base) (Some (Tree.var base)) slots (omega (arith, have.0.below, there)) are.1) have.1
  where
    there : slot_for name ns ≡ have.0.slot
    there = ap (λ o. slot_or_next o ns) have.0.is

put-agrees : (n : Room) (h : ℕ) (names : Names) (k base : ℕ) (ns : SlotNames) (e : Environment) (slots : Places) → Agrees n h ns e slots → length ns ≤ n.slots → HaveSlots names k ns → Agrees n h ns (kept_environment names base e) (put_all names base ns slots)
unfolding put_all kept_environment HaveSlots
put-agrees n h [] k base ns e slots a room have = a
put-agrees n h (name ∷ names) k base ns e slots a room have =
    put-agrees n h names (suc k) (suc base) ns (with_value e name (Tree.var base)) (slice_set slots (slot_for name ns) (Some (Tree.var base)))
    (subst (λ (ms : SlotNames). Agrees n h ms (with_value e name (Tree.var base)) (slice_set slots (slot_for name ns) (Some (Tree.var base)))) stays
    (agrees-assigned n h ns e slots name (Tree.var base) a (subst (λ (ms : SlotNames). length ms ≤ n.slots) (sym stays) room))) room have.1
  where
    stays : slots_for name ns ≡ ns
    stays = ap (λ o. slots_with o name ns) have.0.is

-- Behind the loop the names that it keeps stand for their variables.
pub kept-same : (known : Knows) (set : Setting) (b : Builtins) (l m : Level) (n : Room) (h : ℕ) → Alike known set b l m → (names : Names) (k base : ℕ) (ns : SlotNames) (e : Environment) (slots : Places) (s : State) → Agrees n h ns e slots → length ns ≤ n.slots →
    InSlots names k base slots → HaveSlots names k ns → SameBy (AtPlace l n h ns) (runs b (kept_goals names k ns) (point l slots s)) (one (place (kept_environment names base e) s))
kept-same known set b l m n h alike names k base ns e slots s a room are have =
    subst (λ (t : Trace Point). SameBy (AtPlace l n h ns) t (one (place (kept_environment names base e) s))) (sym (all-put known set b l m alike names k base ns slots s are have))
    (same-one (AtPlace l n h ns) _ _ (at_place (kept_environment names base e) (put_all names base ns slots) s (put-agrees n h names k base ns e slots a room have)))
