-- More depth only adds: loops and comprehensions, over whatever grows with the depth.
use Rattle.std.proofs.Common.{ℕ, suc, Bool, true, false, List, [], ◌∷◌}
use Rattle.std.specs.Prelude.{Option, Some, None, length, pos, Ok, Err}
use Rattle.pi_terms.specs.Tree.{Tree}
use Rattle.pi_constraints.specs.State.{State, bindings, next}
use Rattle.pi_effects.specs.Range.{Outcome}
use Rattle.pi_effects.specs.Value.{value_of}
use Rattle.pi_effects.specs.declared.operation.Op.TheVariants.{Add}
use Rattle.pi_effects.specs.Items.{collection_items}
use Rattle.pi_syntax.specs.ExpTree.{ExpTree}
use Rattle.pi_traces.specs.Trace.{Trace, Tick, one}
use Rattle.pi_traces.specs.Depth.{Below, deeper, same_note}
use Rattle.pi_traces.proofs.BelowLemmas.{below-refl, below-then, below-chosen}
use Rattle.pi_meaning.specs.Shared.Level.{Level, lowest, over, Calls, lower, ticked, LevelBelow}
use Rattle.pi_meaning.proofs.CoreMeaning.MeaningLemmas.{calls-below}
use Rattle.pi_meaning.specs.OverNames.Environment.{Environment}
use Rattle.pi_meaning.specs.OverNames.Place.{Place}
use Rattle.pi_meaning.specs.OverNames.Texts.{Names}
use Rattle.pi_meaning.specs.OverNames.Assigning.{with_names, carried}
use Rattle.pi_meaning.specs.OverNames.Terms.{items_onto}
use Rattle.pi_meaning.specs.OverNames.Heads.{pattern_matched}
use Rattle.pi_meaning.specs.Shared.Given.{Setting}
use Rattle.pi_meaning.specs.OverNames.Control.{Goal, Value, draining, strictly, choosing, nothing, in_front, applied_to}
use Rattle.pi_meaning.specs.OverNames.Loops.{Finish, as_it_is, closed, opened, framed, matched_turn, element, elements, if_numbered, items_then, iterating, turning, unit, while_turns, do_turns, hidden, so_far, adding, comprehended, names_around}
use Rattle.pi_meaning.specs.OverNames.Forms.{indexed_by}
use Rattle.pi_meaning.specs.OverNames.Goals.{started}
use Rattle.pi_effects.specs.Indexing.{index_name}
use Rattle.pi_meaning.proofs.OverNames.GrowControl.{Grows, stays, draining-grows, strictly-grows, choosing-grows, front-grows, onto-grows, applied-grows, assigning-grows, AllGrow}

closed-grows : (finish : Finish) (names : Names) (k : ℕ) (e : Environment) → Grows (closed finish names k e)
unfolding closed
closed-grows finish [] k e l m b p = below-refl _
closed-grows finish (name ∷ names) k e l m b p =
    below-then _ _ _ _ ((calls-below l m b).drained p.state) (λ s. below-then _ _ _ _ (below-refl _) (λ r. closed-grows finish names (suc k) _ l m b _))

framed-grows : (finish : Finish) (inside kept : Names) (turns : Goal) → Grows turns → Grows (framed finish inside kept turns)
framed-grows finish inside kept turns grows l m b p = below-then _ _ _ _ (grows l m b (opened inside kept p)) (closed-grows finish kept (next p.state) p.names l m b)

matched-grows : (inside : Names) (body others : Goal) → Grows body → Grows others → (l m : Level) → LevelBelow l m → (p : Place) (o : Option Environment) →
    Below (matched_turn inside body others l p o) (matched_turn inside body others m p o)
matched-grows inside body others grows more l m b p None = more l m b p
matched-grows inside body others grows more l m b p (Some e) = below-then _ _ _ _ (grows l m b _) (λ q. more l m b (carried inside q))

-- a Tick, and what follows at the lower level
ticked-grows : (g : Goal) → Grows g → (l m : Level) → LevelBelow l m → (p : Place) → Below (ticked (lower l) (λ k. g k p)) (ticked (lower m) (λ k. g k p))
ticked-grows g grows (lowest c) m b p = deeper _
ticked-grows g grows (over c l) (lowest d) b p = absurd b
ticked-grows g grows (over c l) (over d m) b p = same_note Tick (grows l m b.1 p)

elements-grow : (inside : Names) (pattern : ExpTree) (body : Goal) → Grows body → (ts : List Tree) → Grows (elements inside pattern body ts)
unfolding elements
elements-grow inside pattern body grows [] = draining-grows (λ m q. one q) (stays (λ q. one q))
elements-grow inside pattern body grows (t ∷ ts) =
    let turn : Goal = element inside pattern body t (elements inside pattern body ts) in
    let grown : Grows turn = λ l m b p. matched-grows inside body (elements inside pattern body ts) grows (elements-grow inside pattern body grows ts) l m b p (pattern_matched (bindings p.state) pattern t []) in
    draining-grows (λ m q. ticked (lower m) (λ k. turn k q)) (λ l m b p. ticked-grows turn grown l m b p)

items-below : (f g : List Tree → Trace Place) → ((ts : List Tree) → Below (f ts) (g ts)) → (d : Tree) (s : State) (o : Option (List Tree)) → Below (items_then f d s o) (items_then g d s o)
items-below f g each d s None = below-refl _
items-below f g each d s (Some ts) = numbered (value_of Add (pos (length ts)) (pos 1))
  where
    numbered : (o : Outcome) → Below (if_numbered o (f ts)) (if_numbered o (g ts))
    numbered (Ok n) = each ts
    numbered (Err fault) = below-refl _

pub iterating-grows : (finish : Finish) (before inside kept : Names) (pattern : ExpTree) (collection : Value) (body : Goal) → Grows collection → Grows body → Grows (iterating (names_around finish before inside kept) pattern collection body)
unfolding iterating
iterating-grows finish before inside kept pattern collection body a c l m b p =
    below-then _ _ _ _ (a l m b (carried before (with_names before p)))
    (λ x. items-below _ _ (λ ts. framed-grows finish inside kept (elements inside pattern body ts) (elements-grow inside pattern body c ts) l m b _) x.tree x.state (collection_items (bindings x.state) x.tree))

pub turning-grows : (finish : Finish) (before inside kept : Names) (turns : Goal) → Grows turns → Grows (turning (names_around finish before inside kept) turns)
unfolding turning
turning-grows finish before inside kept turns grows l m b p = framed-grows finish inside kept turns grows l m b (with_names before p)

pub unit-grows : (finish : Finish) (before inside kept : Names) (o : Option ExpTree) (collection : Value) (test rest : Goal) → Grows collection → Grows test → Grows rest → Grows (unit (names_around finish before inside kept) o collection test rest)
unit-grows finish before inside kept (Some pattern) collection test rest a c d = iterating-grows finish before inside kept pattern collection rest a d
unit-grows finish before inside kept None collection test rest a c d = choosing-grows test rest (λ l p. one p) c d (stays (λ p. one p))

-- a form of control whose parts differ from one level to the next
choosing-below : (test f g h : Goal) → Grows test → (l m : Level) → LevelBelow l m → ((q : Place) → Below (f l q) (g m q)) → ((q : Place) → Below (h l q) (h m q)) → (p : Place) →
    Below (choosing test f h l p) (choosing test g h m p)
unfolding choosing
choosing-below test f g h grows l m b each other p = below-chosen _ _ _ _ _ _ (strictly-grows test grows l m b p) each (other p)

draining-below : (f g : Goal) (l m : Level) → LevelBelow l m → ((q : Place) → Below (f l q) (g m q)) → (p : Place) → Below (draining f l p) (draining g m p)
unfolding draining
draining-below f g l m b each p = below-then _ _ _ _ ((calls-below l m b).drained p.state) (λ s. each _)

pub while-grows : (inside : Names) (test body : Goal) → Grows test → Grows body → Grows (while_turns inside test body)
unfolding while_turns
while-grows inside test body a c (lowest k) (lowest d) b p = draining-below _ _ (lowest k) (lowest d) b (λ q. choosing-below test _ _ (λ m u. one u) a (lowest k) (lowest d) b (λ u. deeper _) (λ u. below-refl _) q) p
while-grows inside test body a c (lowest k) (over d m) b p = draining-below _ _ (lowest k) (over d m) b (λ q. choosing-below test _ _ (λ m u. one u) a (lowest k) (over d m) b (λ u. deeper _) (λ u. below-refl _) q) p
while-grows inside test body a c (over k l) (lowest d) b p = absurd b
while-grows inside test body a c (over k l) (over d m) b p =
    draining-below _ _ (over k l) (over d m) b (λ q. choosing-below test _ _ (λ m u. one u) a (over k l) (over d m) b
    (λ u. same_note Tick (below-then _ _ _ _ (c l m b.1 u) (λ r. while-grows inside test body a c l m b.1 (carried inside r)))) (λ u. below-refl _) q) p

do-lowest : (inside : Names) (body test : Goal) (k : Calls) (m : Level) → LevelBelow (lowest k) m → (p : Place) → Below (do_turns inside body test (lowest k) p) (do_turns inside body test m p)
unfolding do_turns
do-lowest inside body test k (lowest d) b p = draining-below _ _ (lowest k) (lowest d) b (λ q. deeper _) p
do-lowest inside body test k (over d m) b p = draining-below _ _ (lowest k) (over d m) b (λ q. deeper _) p

pub do-grows : (inside : Names) (body test : Goal) → Grows body → Grows test → Grows (do_turns inside body test)
unfolding do_turns
do-grows inside body test a c (lowest k) m b p = do-lowest inside body test k m b p
do-grows inside body test a c (over k l) (lowest d) b p = absurd b
do-grows inside body test a c (over k l) (over d m) b p =
    draining-below _ _ (over k l) (over d m) b (λ q. same_note Tick (below-then _ _ _ _ (a l m b.1 q)
    (λ r. draining-below _ _ l m b.1 (λ u. choosing-below test _ _ (λ k u. one u) c l m b.1 (λ w. do-grows inside body test a c l m b.1 (carried inside w)) (λ w. below-refl _) u) r))) p

pub adding-grows : (item : Value) → Grows item → Grows (adding item)
adding-grows item grows = assigning-grows (Some hidden) _ (onto-grows items_onto (in_front item nothing) so_far (front-grows item nothing grows (stays _)) (stays _))

pub comprehended-grows : (before : Names) (loop : Goal) → Grows loop → Grows (comprehended before loop)
unfolding comprehended
comprehended-grows before loop grows l m b p = below-then _ _ _ _ (grows l m b _) (λ q. below-refl _)

pub started-grows : (begins : Bool) (finish : Finish) (before inside kept : Names) (turns : Finish → Names → Goal) → ((f : Finish) (names : Names) → Grows (turns f names)) → Grows (started begins finish before inside kept turns)
started-grows true finish before inside kept turns grows = grows finish before
started-grows false finish before inside kept turns grows = turning-grows finish before inside kept (strictly (turns as_it_is inside)) (strictly-grows (turns as_it_is inside) (grows as_it_is inside))

pub indexed-grows : (set : Setting) (v : Value) (is : List Value) → Grows v → AllGrow is → Grows (indexed_by set v is)
unfolding indexed_by
indexed-grows set v [] grows h = grows
indexed-grows set v (i ∷ is) grows h =
    indexed-grows set (applied_to set index_name (in_front v (in_front i nothing))) is
    (applied-grows set index_name (in_front v (in_front i nothing)) (front-grows v (in_front i nothing) grows (front-grows i nothing h.0 (stays _)))) h.1
