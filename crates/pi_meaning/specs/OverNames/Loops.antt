-- Loops and comprehensions, of the meanings of what stands in them (A User's Guide to Picat, 'Assignments and Loops' and 'List and Array Comprehensions'; Ticks, which
-- names a turn leaves to the next, and the variables that stand for them behind the loop, are own). Several iterators are loops in each other.
use Rattle.std.specs.Prelude.{ℕ, suc, Bool, true, false, List, [], ◌∷◌, ◌++◌, length, reverse, Option, Some, None, unwrap_or, pos, codes, Ok, Err}
use Rattle.pi_terms.specs.Tree.{Tree, var, atom}
use Rattle.pi_terms.specs.ListNames.{nil}
use Rattle.pi_constraints.specs.Value.{Bindings}
use Rattle.pi_constraints.specs.State.{State, bindings, next}
use Rattle.pi_constraints.specs.Unify.{unified}
use Rattle.pi_constraints.specs.Evaluation.{with_new_variables}
use Rattle.pi_effects.specs.Items.{list_of, array_of, list_items, collection_items}
use Rattle.pi_effects.specs.Range.{Outcome}
use Rattle.pi_effects.specs.Value.{value_of}
use Rattle.pi_effects.specs.declared.operation.Op.TheVariants.{Add}
use Rattle.pi_effects.specs.Exception.{type_error}
use Rattle.pi_effects.specs.Integers.{fault_term}
use Rattle.pi_syntax.specs.ExpTree.{ExpTree}
use Rattle.pi_traces.specs.Trace.{Trace, end, note, Tick, Deep, Raise, one, then}
use Rattle.pi_meaning.specs.Shared.Settle.{settled_from}
use Rattle.pi_meaning.specs.Shared.Level.{Level, lowest, over, calls_at, lower, ticked}
use Rattle.pi_meaning.specs.OverNames.Environment.{Environment, meant, known, name_valued}
use Rattle.pi_meaning.specs.OverNames.Place.{Place}
use Rattle.pi_meaning.specs.OverNames.Texts.{Names}
use Rattle.pi_meaning.specs.OverNames.Assigning.{with_value, with_names, narrowed, carried}
use Rattle.pi_meaning.specs.OverNames.Terms.{items_onto}
use Rattle.pi_meaning.specs.OverNames.Heads.{pattern_matched}
use Rattle.pi_meaning.specs.OverNames.Control.{Goal, Value, draining, nothing, in_front, made_onto, choosing, assigning}

-- ---- what stands behind a loop

-- the value that a name has at last, as it stands behind the loop
abbrev pub Finish : Type 0
Finish = Bindings → Tree → Tree

abbrev pub as_it_is : Finish
as_it_is b t = t

-- what a name stands for, which is there
abbrev pub now : List ℕ → Environment → Tree
now name e = unwrap_or (meant name e) (atom [])

-- Where a loop ends, each name that it keeps stands for a variable that was made when it started, from number k on. One after the other is unified with its last value, as
-- by a goal `=`.
unfoldable pub closed : Finish → Names → ℕ → Environment → Level → Place → Trace Place
closed finish [] k e l p = one (record { names = e; state = p.state })
closed finish (name ∷ names) k e l p =
    then ((calls_at l).drained p.state) (λ s. then (settled_from s (unified s (var k) (finish (bindings s) (now name p.names))))
    (λ r. closed finish names (suc k) (with_value e name (var k)) l (record { names = p.names; state = r })))

-- When a loop starts, variables are made for the names that it keeps. Of other names its turns have those that stand before it and no more: a name that the environment has from further
-- behind, as of the expression of a `find_all` in whose goal a loop stands, is local to each turn.
abbrev pub opened : Names → Names → Place → Place
opened inside kept p = record { names = narrowed inside p.names; state = with_new_variables (length kept) p.state }

-- a loop's turns from their start to their end, where the names that stand before it are there
abbrev pub framed : Finish → Names → Names → Goal → Goal
framed finish inside kept turns l p = then (turns l (opened inside kept p)) (closed finish kept (next p.state) p.names l)

-- ---- turns

-- the turn of an element that was matched, in which the pattern's names are new, and then the others; one that wasn't is passed over
abbrev pub matched_turn : Names → Goal → Goal → Level → Place → Option Environment → Trace Place
matched_turn inside body others l p None = others l p
matched_turn inside body others l p (Some e) = then (body l (record { names = e ++ p.names; state = p.state })) (λ q. others l (carried inside q))

abbrev pub element : Names → ExpTree → Goal → Tree → Goal → Goal
element inside pattern body t others l p = matched_turn inside body others l p (pattern_matched (bindings p.state) pattern t [])

-- Each element takes one from the depth, by a Tick in front of its turn, before it is matched. What waits is run before each turn and at the end.
unfoldable pub elements : Names → ExpTree → Goal → List Tree → Goal
elements inside pattern body [] l p = draining (λ m q. one q) l p
elements inside pattern body (t ∷ ts) l p = draining (λ m q. ticked (lower m) (λ k. element inside pattern body t (elements inside pattern body ts) k q)) l p

-- The number of the items of a collection, and one more, is to be an integer.
abbrev pub if_numbered : Outcome → Trace Place → Trace Place
if_numbered (Ok n) turns = turns
if_numbered (Err fault) turns = end (Raise (fault_term fault))

-- an iterator goes over the items of a proper list or of an array
abbrev pub items_then : (List Tree → Trace Place) → Tree → State → Option (List Tree) → Trace Place
items_then turns d s None = end (Raise (type_error (codes "collection") d s))
items_then turns d s (Some ts) = if_numbered (value_of Add (pos (length ts)) (pos 1)) (turns ts)

-- the names of a loop: their last values as they stand behind it, those that stand before it, those that its turns begin with, and those that it keeps
pub record NamesAround : Type 0 where
  pub finish : Finish
  pub before : Names
  pub inside : Names
  pub kept : Names

abbrev pub names_around : Finish → Names → Names → Names → NamesAround
names_around finish before inside kept = record { finish = finish; before = before; inside = inside; kept = kept }

-- What an iterator goes over is evaluated first, with names of its own: it has those that stand before the loop, and none that it meets is there behind it. The variables of the names that the loop keeps stand
-- behind those that this makes.
unfoldable pub iterating : NamesAround → ExpTree → Value → Goal → Goal
iterating n pattern collection body l p =
    let start : Place = with_names n.before p in
    then (collection l (carried n.before start))
    (λ x. items_then (λ ts. framed n.finish n.inside n.kept (elements n.inside pattern body ts) l (record { names = start.names; state = x.state })) x.tree x.state
    (collection_items (bindings x.state) x.tree))

-- a loop that begins with no iterator
unfoldable pub turning : NamesAround → Goal → Goal
turning n turns l p = framed n.finish n.inside n.kept turns l (with_names n.before p)

-- an iterator or a test, and what stands behind it; where a test fails the turn is passed over
abbrev pub unit : NamesAround → Option ExpTree → Value → Goal → Goal → Goal
unit n (Some pattern) collection test rest = iterating n pattern collection rest
unit n None collection test rest = choosing test rest (λ l p. one p)

-- A turn of `while` begins with its test; its Tick, which takes one from the depth, stands between test and body.
unfoldable pub while_turns : Names → Goal → Goal → Goal
while_turns inside test body (lowest c) p = draining (choosing test (λ m q. end Deep) (λ m q. one q)) (lowest c) p
while_turns inside test body (over c l) p =
    draining (choosing test (λ m q. note Tick (then (body l q) (λ r. while_turns inside test body l (carried inside r)))) (λ m q. one q)) (over c l) p

-- A turn of `do` begins with its Tick; then come its body and its test.
unfoldable pub do_turns : Names → Goal → Goal → Goal
do_turns inside body test (lowest c) p = draining (λ m q. end Deep) (lowest c) p
do_turns inside body test (over c l) p =
    draining (λ m q. note Tick (then (body l q) (draining (choosing test (λ k r. do_turns inside body test l (carried inside r)) (λ k r. one r)) l))) (over c l) p

-- ---- comprehensions

-- A comprehension is a loop that assigns a name which no text has, X say: the items so far, the last one first. Each turn is `X := [E|X]`.
abbrev pub hidden : List ℕ
hidden = []

abbrev pub so_far : Value
so_far l p = one (name_valued (known hidden p.names) hidden p.names p.state)

abbrev pub adding : Value → Goal
adding item = assigning (Some hidden) (made_onto items_onto (in_front item nothing) so_far)

-- behind the loop they stand in order, as a list or an array
abbrev pub in_order : Bool → Finish
in_order true b t = array_of (reverse (unwrap_or (list_items b t) []))
in_order false b t = list_of (reverse (unwrap_or (list_items b t) []))

unfoldable pub comprehended : Names → Goal → Value
comprehended before loop l p =
    let start : Place = with_names before p in
    then (loop l (record { names = with_value start.names hidden (atom nil); state = start.state }))
    (λ q. one (record { tree = now hidden q.names; names = start.names; state = q.state }))
