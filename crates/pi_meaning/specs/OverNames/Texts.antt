-- What the text alone says of names: where they occur outside of loops, which a loop assigns, and which stand before a place. (A User's Guide to Picat,
-- 'Variables' and 'Loops'; which names a loop keeps to itself is own.)
use Rattle.std.specs.Prelude.{ℕ, Bool, false, not, ◌||◌, cond, List, [], ◌∷◌, ◌++◌, filter, Option, Some, None, codes, is_some}
use Rattle.std.specs.Str.{bytes_eq}
use Rattle.std.specs.List.{list_any}
use Rattle.pi_syntax.specs.ExpTree.{ExpTree, var, int, atom, str, list, list_onto, array, call, quote, index, range, range_by, at, collect, and, or, arrow, if_then, if_else, foreach, while_do, do_while, ExpTrees, no_exps, exp, ExpBranches, no_branches, branch}

abbrev pub Names : Type 0
Names = List (List ℕ)

abbrev pub is_among : Names → List ℕ → Bool
is_among names name = list_any (bytes_eq name) names

-- each `_` is a name of its own
abbrev pub is_blank : List ℕ → Bool
is_blank name = bytes_eq name (codes "_")

-- ---- names outside of loops

-- The names at all places of an expression, from the left, `_` among them. What stands in a loop or a comprehension isn't counted: a name that occurs before it
-- is there already, and one that doesn't is local to each turn, so that it is another one behind.
unfoldable mutual
  pub places : ExpTree → Names
  places (var name) = name ∷ []
  places (int n) = []
  places (atom name) = []
  places (str text) = []
  places (list es) = places_all es
  places (list_onto es e) = places_all es ++ places e
  places (array es) = places_all es
  places (call name es) = places_all es
  places (quote e) = places e
  places (index e es) = places e ++ places_all es
  places (range first last) = places first ++ places last
  places (range_by first step last) = places first ++ (places step ++ places last)
  places (at name e) = name ∷ places e
  places (collect is_array e es) = []
  places (and es) = places_all es
  places (or es) = places_all es
  places (arrow c e) = places c ++ places e
  places (if_then bs) = places_of_branches bs
  places (if_else bs e) = places_of_branches bs ++ places e
  places (foreach es e) = []
  places (while_do c e) = []
  places (do_while e c) = []

  pub places_all : ExpTrees → Names
  places_all no_exps = []
  places_all (exp e es) = places e ++ places_all es

  pub places_of_branches : ExpBranches → Names
  places_of_branches no_branches = []
  places_of_branches (branch c e bs) = places c ++ (places e ++ places_of_branches bs)

-- those of the arguments behind the first one
abbrev pub places_behind : ExpTrees → Names
places_behind no_exps = []
places_behind (exp e es) = places_all es

-- those of what a `catch` is to catch, which is evaluated before its goal
unfoldable pub places_caught : List ℕ → ExpTrees → Names
places_caught name (exp e (exp ball (exp handler no_exps))) = cond (bytes_eq name (codes "catch")) (places ball) []
places_caught name es = []

-- ---- names anywhere

-- the names at all places of an expression, those in loops and comprehensions among them
unfoldable mutual
  pub occurring : ExpTree → Names
  occurring (var name) = name ∷ []
  occurring (int n) = []
  occurring (atom name) = []
  occurring (str text) = []
  occurring (list es) = occurring_all es
  occurring (list_onto es e) = occurring_all es ++ occurring e
  occurring (array es) = occurring_all es
  occurring (call name es) = occurring_all es
  occurring (quote e) = occurring e
  occurring (index e es) = occurring e ++ occurring_all es
  occurring (range first last) = occurring first ++ occurring last
  occurring (range_by first step last) = occurring first ++ (occurring step ++ occurring last)
  occurring (at name e) = name ∷ occurring e
  occurring (collect is_array e es) = occurring_all es ++ occurring e
  occurring (and es) = occurring_all es
  occurring (or es) = occurring_all es
  occurring (arrow c e) = occurring c ++ occurring e
  occurring (if_then bs) = occurring_in_branches bs
  occurring (if_else bs e) = occurring_in_branches bs ++ occurring e
  occurring (foreach es e) = occurring_all es ++ occurring e
  occurring (while_do c e) = occurring c ++ occurring e
  occurring (do_while e c) = occurring e ++ occurring c

  pub occurring_all : ExpTrees → Names
  occurring_all no_exps = []
  occurring_all (exp e es) = occurring e ++ occurring_all es

  pub occurring_in_branches : ExpBranches → Names
  occurring_in_branches no_branches = []
  occurring_in_branches (branch c e bs) = occurring c ++ (occurring e ++ occurring_in_branches bs)

-- ---- names before a place

-- a name behind those before it, where it is none of them
abbrev pub with_one : Names → List ℕ → Names
with_one before name = cond (is_blank name || is_among before name) before (before ++ name ∷ [])

-- Names that stand before a place of the text: those before, and then these, each once by first occurrence. Every name that stands before a loop, whether in another
-- branch or in the goal of a `not`, is in the environment when the loop starts.
unfoldable pub behind : Names → Names → Names
behind before [] = before
behind before (name ∷ names) = behind (with_one before name) names

-- ---- loops

-- an iterator's pattern; None for a test
abbrev pub iterated : ExpTree → Option ExpTree
iterated (call name (exp e (exp d no_exps))) = cond (bytes_eq name (codes "in")) (Some e) None
iterated e = None

-- the names that are new in each turn of an iterator
abbrev pub pattern_places : Option ExpTree → Names
pattern_places None = []
pattern_places (Some e) = places e

-- the names that stand behind an iterator or a test, in the turn: those of the pattern, or of the test. What an iterator goes over belongs to no turn.
abbrev pub unit_places : Option ExpTree → ExpTree → Names
unit_places (Some e) u = places e
unit_places None u = places u

-- the names of the patterns of iterators
unfoldable pub patterns_of : ExpTrees → Names
patterns_of no_exps = []
patterns_of (exp u us) = pattern_places (iterated u) ++ patterns_of us

abbrev pub begins_with_iterator : ExpTrees → Bool
begins_with_iterator no_exps = false
begins_with_iterator (exp u us) = is_some (iterated u)

-- these names but for some
abbrev pub without : Names → Names → Names
without names some = filter (λ name. not (is_among some name)) names

-- Of the names that stand before a loop those that occur in it: of these alone a turn knows. All others are local to each turn.
abbrev pub shared_names : Names → Names → Names
shared_names before used = filter (is_among used) before

-- The names that stand before what is behind an iterator or a test, but for its own, where these are used there. An iterator begins a loop, in whose turns the names of its pattern are new.
abbrev pub names_inside : Names → Option ExpTree → Names → Names
names_inside before None used = before
names_inside before (Some e) used = without (shared_names before used) (places e)

-- `X := E` stands in a call of two arguments, of which the first is X
abbrev pub variable_first : ExpTrees → Option (List ℕ)
variable_first (exp (var name) es) = Some name
variable_first es = None

abbrev pub the_name : Option (List ℕ) → Names
the_name None = []
the_name (Some name) = name ∷ []

-- The names that a goal assigns, from the left: in conjunctions, branches and the bodies of loops, where alone an assignment may stand. In a loop a name of a pattern
-- is another one.
unfoldable mutual
  pub assigned : ExpTree → Names
  assigned (var name) = []
  assigned (int n) = []
  assigned (atom name) = []
  assigned (str text) = []
  assigned (list es) = []
  assigned (list_onto es e) = []
  assigned (array es) = []
  assigned (call name es) = cond (bytes_eq name (codes ":=")) (the_name (variable_first es)) []
  assigned (quote e) = []
  assigned (index e es) = []
  assigned (range first last) = []
  assigned (range_by first step last) = []
  assigned (at name e) = []
  assigned (collect is_array e es) = []
  assigned (and es) = assigned_all es
  assigned (or es) = assigned_all es
  assigned (arrow c e) = assigned e
  assigned (if_then bs) = assigned_in_branches bs
  assigned (if_else bs e) = assigned_in_branches bs ++ assigned e
  assigned (foreach es e) = without (assigned e) (patterns_of es)
  assigned (while_do c e) = assigned e
  assigned (do_while e c) = assigned e

  pub assigned_all : ExpTrees → Names
  assigned_all no_exps = []
  assigned_all (exp e es) = assigned e ++ assigned_all es

  pub assigned_in_branches : ExpBranches → Names
  assigned_in_branches no_branches = []
  assigned_in_branches (branch c e bs) = assigned e ++ assigned_in_branches bs

-- The names that have other values behind a loop: those that it assigns and that stand before it, each once by first assignment. `us` are the iterators and tests that
-- the loop has from here on.
abbrev pub kept_names : Names → ExpTrees → Names → Names
kept_names before us names = filter (is_among before) (behind [] (without names (patterns_of us)))
