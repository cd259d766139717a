-- The options of `solve` (A User's Guide to Picat, 'Constraints'): at most one word of each group. The first wrong word from the left is told.
use Rattle.std.specs.Prelude.{ℕ, Bool, true, false, cond, List, [], ◌∷◌, Option, Some, None, codes}
use Rattle.std.specs.Str.{bytes_eq}
use Rattle.pi_terms.specs.Tree.{Tree, var, int, atom, comp, no_trees, tree}

-- which variable is picked: the first unbound one, the last, or the leftmost of those with the smallest domain
pub data VariableWord : Type 0 where
  forward : VariableWord
  backward : VariableWord
  ff : VariableWord

-- which alternatives it has: its values ascending or descending, or the halves of its domain, the lower or the upper first
pub data ValueWord : Type 0 where
  up : ValueWord
  down : ValueWord
  split : ValueWord
  reverse_split : ValueWord

-- the expression whose least or greatest value is wanted
pub record Objective : Type 0 where
  pub greatest : Bool
  pub expression : Tree

pub record Options : Type 0 where
  pub variable : VariableWord
  pub value : ValueWord
  pub objective : Option Objective

-- a word, by its group
pub data Word : Type 0 where
  picks : VariableWord → Word
  tries : ValueWord → Word
  seeks : Objective → Word

abbrev pub named_word : List ℕ → Option Word
named_word name =
    cond (bytes_eq name (codes "forward")) (Some (picks forward))
    (cond (bytes_eq name (codes "backward")) (Some (picks backward))
    (cond (bytes_eq name (codes "ff")) (Some (picks ff))
    (cond (bytes_eq name (codes "up")) (Some (tries up))
    (cond (bytes_eq name (codes "down")) (Some (tries down))
    (cond (bytes_eq name (codes "split")) (Some (tries split))
    (cond (bytes_eq name (codes "reverse_split")) (Some (tries reverse_split)) None))))))

abbrev pub objective_word : List ℕ → Tree → Option Word
objective_word name t =
    cond (bytes_eq name (codes "min")) (Some (seeks (record { greatest = false; expression = t })))
    (cond (bytes_eq name (codes "max")) (Some (seeks (record { greatest = true; expression = t }))) None)

-- the word that a term is, with its bindings at the root followed
abbrev pub word_of : Tree → Option Word
word_of (var n) = None
word_of (int i) = None
word_of (atom name) = named_word name
word_of (comp name (tree t no_trees)) = objective_word name t
word_of (comp name ts) = None

-- what was chosen so far, of each group
pub record Chosen : Type 0 where
  pub variable : Option VariableWord
  pub value : Option ValueWord
  pub objective : Option Objective

-- one more word; None for a second one of its group
abbrev pub set_variable : Chosen → Option VariableWord → VariableWord → Option Chosen
set_variable c None w = Some (record { variable = Some w; value = c.value; objective = c.objective })
set_variable c (Some other) w = None

abbrev pub set_value : Chosen → Option ValueWord → ValueWord → Option Chosen
set_value c None w = Some (record { variable = c.variable; value = Some w; objective = c.objective })
set_value c (Some other) w = None

abbrev pub set_objective : Chosen → Option Objective → Objective → Option Chosen
set_objective c None w = Some (record { variable = c.variable; value = c.value; objective = Some w })
set_objective c (Some other) w = None

abbrev pub with_word : Chosen → Option Word → Option Chosen
with_word c None = None
with_word c (Some (picks w)) = set_variable c c.variable w
with_word c (Some (tries w)) = set_value c c.value w
with_word c (Some (seeks w)) = set_objective c c.objective w

abbrev pub variable_or : Option VariableWord → VariableWord
variable_or None = forward
variable_or (Some w) = w

abbrev pub value_or : Option ValueWord → ValueWord
value_or None = up
value_or (Some w) = w

-- the options, or the first word that is none
pub data ReadOptions : Type 0 where
  options : Options → ReadOptions
  bad_option : Tree → ReadOptions

abbrev pub read_on : Tree → (Chosen → ReadOptions) → Option Chosen → ReadOptions
read_on t f None = bad_option t
read_on t f (Some c) = f c

-- the words from the left, each with its bindings at the root followed
unfoldable pub words_read : List Tree → Chosen → ReadOptions
words_read [] c = options (record { variable = variable_or c.variable; value = value_or c.value; objective = c.objective })
words_read (t ∷ ts) c = read_on t (words_read ts) (with_word c (word_of t))

abbrev pub read_options : List Tree → ReadOptions
read_options ts = words_read ts (record { variable = None; value = None; objective = None })
