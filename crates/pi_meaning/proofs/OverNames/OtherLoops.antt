-- Environments that differ in one name: loops and comprehensions.
use Rattle.std.proofs.Common.{◌≡◌, ℕ, suc, Bool, true, false, List, [], ◌∷◌, ap, subst}
use Rattle.std.specs.Prelude.{Option, Some, None, unwrap_or, length, pos, Ok, Err}
use Rattle.pi_terms.specs.Tree.{Tree, atom, var as variable}
use Rattle.pi_terms.specs.ListNames.{nil}
use Rattle.pi_constraints.specs.State.{State, bindings, next}
use Rattle.pi_constraints.specs.Unify.{unified}
use Rattle.pi_effects.specs.Range.{Outcome}
use Rattle.pi_effects.specs.Value.{value_of as operation}
use Rattle.pi_effects.specs.declared.operation.Op.TheVariants.{Add}
use Rattle.pi_effects.specs.Items.{collection_items}
use Rattle.pi_effects.specs.Indexing.{index_name}
use Rattle.pi_syntax.specs.ExpTree.{ExpTree}
use Rattle.pi_traces.specs.Trace.{Trace, Deep, Tick, end, one, then}
use Rattle.pi_traces.specs.Related.{BelowBy, end_by, note_by}
use Rattle.pi_traces.proofs.RelatedLemmas.{by-one, by-then, by-chosen}
use Rattle.pi_meaning.specs.Shared.Settle.{settled_from}
use Rattle.pi_meaning.specs.Shared.Level.{Level, lowest, over, calls_at, lower, ticked}
use Rattle.pi_meaning.specs.OverNames.Environment.{Environment, Valued}
use Rattle.pi_meaning.specs.OverNames.Place.{Place}
use Rattle.pi_meaning.specs.OverNames.Texts.{Names}
use Rattle.pi_meaning.specs.OverNames.Assigning.{with_value, with_names}
use Rattle.pi_meaning.specs.OverNames.Terms.{items_onto}
use Rattle.pi_meaning.specs.OverNames.Heads.{pattern_matched}
use Rattle.pi_meaning.specs.Shared.Given.{Setting}
use Rattle.pi_meaning.specs.OverNames.Control.{Goal, Value, draining, strictly, nothing, in_front, applied_to, choosing}
use Rattle.pi_meaning.specs.OverNames.Loops.{Finish, as_it_is, now, closed, framed, matched_turn, element, elements, if_numbered, items_then, iterating, turning, unit, while_turns, do_turns, hidden, so_far, adding, comprehended, names_around}
use Rattle.pi_meaning.specs.OverNames.Forms.{indexed_by}
use Rattle.pi_meaning.specs.OverNames.Goals.{started}
use Rattle.pi_meaning.specs.OverNames.OtherNames.{IsOther, AreOther, Agree, AgreeAt, agree_at}
use Rattle.pi_meaning.proofs.OverNames.OtherEnvironments.{AgreeValued, agree_valued, agree-append, agree-value, agree-itself, agree-narrowed, names-agree, carried-agree}
use Rattle.pi_meaning.proofs.OverNames.OtherControl.{SteadyGoal, SteadyValue, one-answer, by-state, draining-steady, strictly-steady, choosing-steady, front-steady, onto-steady, applied-steady, name-steady, nothing-steady, assigning-steady, AllSteady}

now-agrees : (x name : List ℕ) (e f : Environment) → Agree x e f → IsOther x name → now name e ≡ now name f
now-agrees x name e f a other = ap (λ (o : Option Tree). unwrap_or o (atom [])) (a name other)

-- what stands behind a loop: of the last place only the names that are kept count
closed-steady : (x : List ℕ) (finish : Finish) (names : Names) → AreOther x names → (k : ℕ) (e f : Environment) → Agree x e f → (l : Level) (p q : Place) → AgreeAt x p q →
    BelowBy (AgreeAt x) (closed finish names k e l p) (closed finish names k f l q)
unfolding closed AreOther
closed-steady x finish [] other k e f a l _ _ (agree_at g h b s) = by-one (AgreeAt x) _ _ (agree_at e f a s)
closed-steady x finish (name ∷ names) other k e f a l _ _ (agree_at g h b s) =
    by-state (AgreeAt x) ((calls_at l).drained s) _ _ (λ r. subst (λ (t : Tree). BelowBy (AgreeAt x)
    (then (settled_from r (unified r (variable k) (finish (bindings r) (now name g)))) (λ u. closed finish names (suc k) (with_value e name (variable k)) l (record { names = g; state = u })))
    (then (settled_from r (unified r (variable k) (finish (bindings r) t))) (λ u. closed finish names (suc k) (with_value f name (variable k)) l (record { names = h; state = u }))))
    (now-agrees x name g h b other.0)
    (by-state (AgreeAt x) (settled_from r (unified r (variable k) (finish (bindings r) (now name g)))) _ _
    (λ u. closed-steady x finish names other.1 (suc k) _ _ (agree-value x name (variable k) e f a) l _ _ (agree_at g h b u))))

framed-steady : (x : List ℕ) (finish : Finish) (inside kept : Names) → AreOther x kept → (turns : Goal) → SteadyGoal x turns → SteadyGoal x (framed finish inside kept turns)
framed-steady x finish inside kept other turns steady l _ _ (agree_at e f a s) =
    by-then (AgreeAt x) (AgreeAt x) _ _ _ _ (steady l _ _ (agree_at _ _ (agree-narrowed x inside e f a) _)) (closed-steady x finish kept other (next s) e f a l)

matched-steady : (x : List ℕ) (inside : Names) (body others : Goal) → SteadyGoal x body → SteadyGoal x others → (l : Level) (p q : Place) → AgreeAt x p q → (o : Option Environment) →
    BelowBy (AgreeAt x) (matched_turn inside body others l p o) (matched_turn inside body others l q o)
matched-steady x inside body others steady more l p q a None = more l p q a
matched-steady x inside body others steady more l _ _ (agree_at e f a s) (Some g) =
    by-then (AgreeAt x) (AgreeAt x) _ _ _ _ (steady l _ _ (agree_at _ _ (agree-append x g g e f (agree-itself x g) a) s))
    (λ u w r. more l _ _ (carried-agree x inside u w r))

element-steady : (x : List ℕ) (inside : Names) (pattern : ExpTree) (body : Goal) (t : Tree) (others : Goal) → SteadyGoal x body → SteadyGoal x others → SteadyGoal x (element inside pattern body t others)
element-steady x inside pattern body t others steady more l _ _ (agree_at e f a s) =
    matched-steady x inside body others steady more l _ _ (agree_at e f a s) (pattern_matched (bindings s) pattern t [])

ticked-steady : (x : List ℕ) (g : Goal) → SteadyGoal x g → SteadyGoal x (λ l p. ticked (lower l) (λ k. g k p))
ticked-steady x g steady (lowest c) p q a = end_by Deep
ticked-steady x g steady (over c l) p q a = note_by Tick (steady l p q a)

elements-steady : (x : List ℕ) (inside : Names) (pattern : ExpTree) (body : Goal) → SteadyGoal x body → (ts : List Tree) → SteadyGoal x (elements inside pattern body ts)
unfolding elements
elements-steady x inside pattern body steady [] = draining-steady x (λ m q. one q) (one-answer x)
elements-steady x inside pattern body steady (t ∷ ts) =
    let turn : Goal = element inside pattern body t (elements inside pattern body ts) in
    draining-steady x (λ m q. ticked (lower m) (λ k. turn k q))
    (ticked-steady x turn (element-steady x inside pattern body t (elements inside pattern body ts) steady (elements-steady x inside pattern body steady ts)))

items-steady : (x : List ℕ) (f g : List Tree → Trace Place) → ((ts : List Tree) → BelowBy (AgreeAt x) (f ts) (g ts)) → (d : Tree) (s : State) (o : Option (List Tree)) → BelowBy (AgreeAt x) (items_then f d s o) (items_then g d s o)
items-steady x f g each d s None = end_by _
items-steady x f g each d s (Some ts) = numbered (operation Add (pos (length ts)) (pos 1))
  where
    numbered : (o : Outcome) → BelowBy (AgreeAt x) (if_numbered o (f ts)) (if_numbered o (g ts))
    numbered (Ok n) = each ts
    numbered (Err fault) = end_by _

pub iterating-steady : (x : List ℕ) (finish : Finish) (before inside kept : Names) → AreOther x before → AreOther x kept → (pattern : ExpTree) (collection : Value) (body : Goal) → SteadyValue x collection → SteadyGoal x body →
    SteadyGoal x (iterating (names_around finish before inside kept) pattern collection body)
unfolding iterating
iterating-steady x finish before inside kept o other pattern collection body a c l p q r =
    by-then (AgreeValued x) (AgreeAt x) _ _ _ _ (a l _ _ (carried-agree x before _ _ (names-agree x before o p q r))) (after (with_names before p) (with_names before q) (names-agree x before o p q r))
  where
    after : (p q : Place) → AgreeAt x p q → (u w : Valued) → AgreeValued x u w →
        BelowBy (AgreeAt x) (items_then (λ ts. framed finish inside kept (elements inside pattern body ts) l (record { names = p.names; state = u.state })) u.tree u.state (collection_items (bindings u.state) u.tree))
        (items_then (λ ts. framed finish inside kept (elements inside pattern body ts) l (record { names = q.names; state = w.state })) w.tree w.state (collection_items (bindings w.state) w.tree))
    after _ _ (agree_at e f b s) _ _ (agree_valued t g h d k) =
        items-steady x _ _ (λ ts. framed-steady x finish inside kept other (elements inside pattern body ts) (elements-steady x inside pattern body c ts) l _ _ (agree_at e f b k)) t k _

pub turning-steady : (x : List ℕ) (finish : Finish) (before inside kept : Names) → AreOther x before → AreOther x kept → (turns : Goal) → SteadyGoal x turns → SteadyGoal x (turning (names_around finish before inside kept) turns)
unfolding turning
turning-steady x finish before inside kept o other turns steady l p q a = framed-steady x finish inside kept other turns steady l _ _ (names-agree x before o p q a)

pub unit-steady : (x : List ℕ) (finish : Finish) (before inside kept : Names) → AreOther x before → AreOther x kept → (o : Option ExpTree) (collection : Value) (test rest : Goal) → SteadyValue x collection → SteadyGoal x test → SteadyGoal x rest →
    SteadyGoal x (unit (names_around finish before inside kept) o collection test rest)
unit-steady x finish before inside kept b other (Some pattern) collection test rest a c d = iterating-steady x finish before inside kept b other pattern collection rest a d
unit-steady x finish before inside kept b other None collection test rest a c d = choosing-steady x test rest (λ l p. one p) c d (one-answer x)

-- forms of control whose parts differ from one environment to the other
drained-steady : (x : List ℕ) (f g : Goal) (l : Level) (p q : Place) → AgreeAt x p q → ((u w : Place) → AgreeAt x u w → BelowBy (AgreeAt x) (f l u) (g l w)) →
    BelowBy (AgreeAt x) (draining f l p) (draining g l q)
unfolding draining
drained-steady x f g l _ _ (agree_at e h a s) each = by-state (AgreeAt x) ((calls_at l).drained s) _ _ (λ r. each _ _ (agree_at e h a r))

choice-steady : (x : List ℕ) (test f g : Goal) → SteadyGoal x test → (l : Level) (p q : Place) → AgreeAt x p q → ((u w : Place) → AgreeAt x u w → BelowBy (AgreeAt x) (f l u) (g l w)) →
    BelowBy (AgreeAt x) (draining (choosing test f (λ m u. one u)) l p) (draining (choosing test g (λ m u. one u)) l q)
unfolding choosing
choice-steady x test f g steady l p q a each =
    drained-steady x (choosing test f (λ m u. one u)) (choosing test g (λ m u. one u)) l p q a
    (λ u w b. by-chosen (AgreeAt x) (AgreeAt x) _ _ _ _ _ _ (strictly-steady x test steady l u w b) each (by-one (AgreeAt x) u w b))

pub while-steady : (x : List ℕ) (inside : Names) (test body : Goal) → SteadyGoal x test → SteadyGoal x body → SteadyGoal x (while_turns inside test body)
unfolding while_turns
while-steady x inside test body a c (lowest k) p q r =
    draining-steady x (choosing test (λ m u. end Deep) (λ m u. one u)) (choosing-steady x test (λ m u. end Deep) (λ m u. one u) a (λ l u w b. end_by Deep) (one-answer x)) (lowest k) p q r
while-steady x inside test body a c (over k l) p q r =
    choice-steady x test _ _ a (over k l) p q r (λ u w b. note_by Tick (by-then (AgreeAt x) (AgreeAt x) _ _ _ _ (c l u w b)
    (λ y z d. while-steady x inside test body a c l _ _ (carried-agree x inside y z d))))

pub do-steady : (x : List ℕ) (inside : Names) (body test : Goal) → SteadyGoal x body → SteadyGoal x test → SteadyGoal x (do_turns inside body test)
unfolding do_turns
do-steady x inside body test a c (lowest k) p q r = drained-steady x (λ m u. end Deep) (λ m u. end Deep) (lowest k) p q r (λ u w b. end_by Deep)
do-steady x inside body test a c (over k l) p q r =
    drained-steady x _ _ (over k l) p q r (λ u w b. note_by Tick (by-then (AgreeAt x) (AgreeAt x) _ _ _ _ (a l u w b)
    (λ y z d. choice-steady x test _ _ c l y z d (λ g h m. do-steady x inside body test a c l _ _ (carried-agree x inside g h m)))))

pub adding-steady : (x : List ℕ) → IsOther x hidden → (item : Value) → SteadyValue x item → SteadyGoal x (adding item)
adding-steady x other item steady =
    assigning-steady x (Some hidden) _ (onto-steady x items_onto (in_front item nothing) so_far (front-steady x item nothing steady (nothing-steady x)) (name-steady x hidden other))

pub comprehended-steady : (x : List ℕ) → IsOther x hidden → (before : Names) → AreOther x before → (loop : Goal) → SteadyGoal x loop → SteadyValue x (comprehended before loop)
unfolding comprehended
comprehended-steady x other before o loop steady l p q a = inside (with_names before p) (with_names before q) (names-agree x before o p q a)
  where
    inside : (p q : Place) → AgreeAt x p q → BelowBy (AgreeValued x) (then (loop l (record { names = with_value p.names hidden (atom nil); state = p.state })) (λ y. one (record { tree = now hidden y.names; names = p.names; state = y.state })))
        (then (loop l (record { names = with_value q.names hidden (atom nil); state = q.state })) (λ y. one (record { tree = now hidden y.names; names = q.names; state = y.state })))
    inside _ _ (agree_at e f b s) = by-then (AgreeAt x) (AgreeValued x) _ _ _ _ (steady l _ _ (agree_at _ _ (agree-value x hidden (atom nil) e f b) s)) (behind e f b)
      where
        behind : (e f : Environment) → Agree x e f → (u w : Place) → AgreeAt x u w → BelowBy (AgreeValued x) (one (record { tree = now hidden u.names; names = e; state = u.state })) (one (record { tree = now hidden w.names; names = f; state = w.state }))
        behind e f b _ _ (agree_at g h d k) =
            by-one (AgreeValued x) _ _ (subst (λ (v : Tree). AgreeValued x (record { tree = now hidden g; names = e; state = k }) (record { tree = v; names = f; state = k })) (now-agrees x hidden g h d other) (agree_valued _ e f b k))

pub started-steady : (x : List ℕ) (begins : Bool) (finish : Finish) (before inside kept : Names) → AreOther x before → AreOther x inside → AreOther x kept → (turns : Finish → Names → Goal) → ((f : Finish) (names : Names) → AreOther x names → SteadyGoal x (turns f names)) →
    SteadyGoal x (started begins finish before inside kept turns)
started-steady x true finish before inside kept o i other turns steady = steady finish before o
started-steady x false finish before inside kept o i other turns steady =
    turning-steady x finish before inside kept o other (strictly (turns as_it_is inside)) (strictly-steady x (turns as_it_is inside) (steady as_it_is inside i))

pub indexed-steady : (x : List ℕ) (set : Setting) (v : Value) (is : List Value) → SteadyValue x v → AllSteady x (AgreeValued x) is → SteadyValue x (indexed_by set v is)
unfolding indexed_by
indexed-steady x set v [] steady h = steady
indexed-steady x set v (i ∷ is) steady h =
    indexed-steady x set (applied_to set index_name (in_front v (in_front i nothing))) is
    (applied-steady x set index_name (in_front v (in_front i nothing)) (front-steady x v (in_front i nothing) steady (front-steady x i nothing h.0 (nothing-steady x)))) h.1
