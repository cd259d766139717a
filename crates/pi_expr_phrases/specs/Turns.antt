-- What open phrases and steps show.
use Rattle.std.specs.Prelude.{◌≡◌, List, ◌∷◌, Result, Ok, Err}
use Rattle.std.specs.declared.alloc.AllocError.{AllocError}
use Rattle.pi_syntax.specs.ExpTree.{ExpTree, ExpTrees, exp as exp_before, ExpBranches}
use Rattle.pi_expr_phrases.specs.Machine as m
use Rattle.pi_expr_phrases.specs.Shown.{line_shown, phrase_shown, terminals}
use Rattle.pi_expr_phrases.specs.Trees.{Shows, ShowsItems, ShowsChoices}
use Rattle.pi_expr_phrases.specs.declared.items.Items.{Items}
use Rattle.pi_expr_phrases.specs.declared.frame.Closing.{Closing}
use Rattle.pi_expr_phrases.specs.declared.frame.Closing.TheVariants as closing
use Rattle.pi_expr_phrases.specs.declared.frame.Frame.{Frame}
use Rattle.pi_expr_phrases.specs.declared.frame.Frame.TheVariants as frame
use Rattle.pi_expr_phrases.specs.declared.frame.Turn.{Turn}
use Rattle.pi_expr_phrases.specs.declared.frame.Turn.TheVariants as turn

-- What closes units, and the units so far. Behind a dot the first of the items is what stands before the dot.
abbrev pub ShowsUnits : Closing → Items → m.Closing → ExpTrees → Type 0
ShowsUnits (closing.Call name) items c es = (c ≡ m.of_call name.now) × ShowsItems items es
ShowsUnits (closing.Quote name) items c es = (c ≡ m.of_quote name.now) × ShowsItems items es
ShowsUnits (closing.Method name) items c es = (e : ExpTree) × ((c ≡ m.of_method name.now e) × ShowsItems items (exp_before e es))
ShowsUnits closing.List items c es = (c ≡ m.of_list) × ShowsItems items es
ShowsUnits closing.Array items c es = (c ≡ m.of_array) × ShowsItems items es
ShowsUnits (closing.Collect is_array built) items c es =
    (e : ExpTree) × ((c ≡ m.of_collect is_array e) × (Shows built e × ShowsItems items es))
ShowsUnits closing.Foreach items c es = (c ≡ m.of_foreach) × ShowsItems items es

abbrev pub ShowsFrame : Frame → m.Frame → Type 0
ShowsFrame (frame.Signed k name) f = f ≡ m.signed (phrase_shown k) name.now
ShowsFrame (frame.Minus ts) f = f ≡ m.minus (terminals ts)
ShowsFrame (frame.Joining l name built) f = (a : ExpTree) × ((f ≡ m.joining (line_shown l) name.now a) × Shows built a)
ShowsFrame (frame.Relation name built) f = (a : ExpTree) × ((f ≡ m.relation name.now a) × Shows built a)
ShowsFrame (frame.RangeFrom built) f = (a : ExpTree) × ((f ≡ m.range_from a) × Shows built a)
ShowsFrame (frame.RangeStep first step) f =
    (a : ExpTree) × ((b : ExpTree) × ((f ≡ m.range_step a b) × (Shows first a × Shows step b)))
ShowsFrame (frame.Power built) f = (a : ExpTree) × ((f ≡ m.power a) × Shows built a)
ShowsFrame (frame.Conjuncts items) f =
    (a : ExpTree) × ((es : ExpTrees) × ((f ≡ m.conjuncts (exp_before a es)) × ShowsItems items (exp_before a es)))
ShowsFrame (frame.Branches items) f =
    (a : ExpTree) × ((es : ExpTrees) × ((f ≡ m.branches (exp_before a es)) × ShowsItems items (exp_before a es)))
ShowsFrame (frame.Arrow built) f = (a : ExpTree) × ((f ≡ m.arrow a) × Shows built a)
ShowsFrame (frame.Pattern name) f = f ≡ m.pattern name.now
ShowsFrame (frame.Parens quoted) f = f ≡ m.parens quoted
ShowsFrame (frame.Items c items) f = (d : m.Closing) × ((es : ExpTrees) × ((f ≡ m.items d es) × ShowsUnits c items d es))
ShowsFrame (frame.ListTail items) f = (es : ExpTrees) × ((f ≡ m.list_tail es) × ShowsItems items es)
ShowsFrame (frame.Indexing built) f = (a : ExpTree) × ((f ≡ m.indexing a) × Shows built a)
ShowsFrame (frame.ForeachBody items) f = (es : ExpTrees) × ((f ≡ m.foreach_body es) × ShowsItems items es)
ShowsFrame frame.WhileTest f = f ≡ m.while_test
ShowsFrame (frame.WhileBody built) f = (a : ExpTree) × ((f ≡ m.while_body a) × Shows built a)
ShowsFrame frame.DoBody f = f ≡ m.do_body
ShowsFrame (frame.DoTest built) f = (a : ExpTree) × ((f ≡ m.do_test a) × Shows built a)
ShowsFrame (frame.IfTest choices) f = (bs : ExpBranches) × ((f ≡ m.if_test bs) × ShowsChoices choices bs)
ShowsFrame (frame.IfBody choices built) f =
    (bs : ExpBranches) × ((a : ExpTree) × ((f ≡ m.if_body bs a) × (ShowsChoices choices bs × Shows built a)))
ShowsFrame (frame.IfLast choices) f = (bs : ExpBranches) × ((f ≡ m.if_last bs) × ShowsChoices choices bs)

-- a step over these open phrases, with this outcome
abbrev pub ShowsTurn : Turn → List m.Frame → m.Outcome → Type 0
ShowsTurn (turn.Open opened rest) fs o =
    (f : m.Frame) × ((o ≡ m.next (m.operand (f ∷ fs) (terminals rest))) × ShowsFrame opened f)
ShowsTurn (turn.Found k indexable built rest) fs o =
    (e : ExpTree) × ((o ≡ m.next (m.value fs (phrase_shown k) indexable e (terminals rest))) × Shows built e)
ShowsTurn turn.Fail fs o = o ≡ m.fail

-- the same, where memory didn't run out
abbrev pub ShowsStep : Result Turn AllocError → List m.Frame → m.Outcome → Type 0
ShowsStep (Ok found) fs o = ShowsTurn found fs o
ShowsStep (Err error) fs o = Unit {0}
