-- What a printer still has to do, and what it then writes: its tasks, the last one first, over the terms ahead.
use Rattle.std.specs.Prelude.{◌≡◌, ℕ, Bool, not, ◌&&◌, if◌then◌else◌, codes, List, [], ◌∷◌, ◌++◌, ◌+◌, ◌*◌, vec_len}
use Rattle.std.specs.Char.{encode_utf8}
use Rattle.pi_terms.specs.Tree.{Trees, no_trees, tree, drop_trees, cells_all}
use Rattle.pi_terms.specs.TermCells.{take_trees}
use Rattle.pi_syntax.specs.PrintTerm.{written, items_text, rest_text, more_arguments_text, cell_is_characters, cell_characters}
use Rattle.pi_print_terms.specs.declared.printer.Printer.{Printer}
use Rattle.pi_print_terms.specs.declared.printer.Todo.{Todo}
use Rattle.pi_print_terms.specs.declared.printer.Task.{Task}
use Rattle.pi_print_terms.specs.declared.printer.Task.TheVariants.{Value, Rest, Arguments}

-- what one task writes
unfoldable pub task_text : Bool → List ℕ → Task → Trees → List ℕ
task_text is_quoted vars Value no_trees = []
task_text is_quoted vars Value (tree t ts) = written is_quoted vars t
task_text is_quoted vars Rest no_trees = []
task_text is_quoted vars Rest (tree t ts) = rest_text is_quoted vars t
task_text is_quoted vars (Arguments count close) ts = more_arguments_text is_quoted vars (take_trees count ts) ++ encode_utf8 close

-- what it leaves ahead
abbrev pub task_left : Task → Trees → Trees
task_left Value ts = drop_trees 1 ts
task_left Rest ts = drop_trees 1 ts
task_left (Arguments count close) ts = drop_trees count ts

-- what some tasks leave
unfoldable pub tasks_left : List Task → Trees → Trees
tasks_left [] ts = ts
tasks_left (k ∷ ks) ts = task_left k (tasks_left ks ts)

-- what they write
unfoldable pub tasks_text : Bool → List ℕ → List Task → Trees → List ℕ
tasks_text is_quoted vars [] ts = []
tasks_text is_quoted vars (k ∷ ks) ts = tasks_text is_quoted vars ks ts ++ task_text is_quoted vars k (tasks_left ks ts)

-- a list whose first cell has these arguments
unfoldable pub list_text : Bool → List ℕ → Trees → List ℕ
list_text is_quoted vars ts =
    if not is_quoted && cell_is_characters ts then cell_characters ts else codes "[" ++ items_text is_quoted vars ts

-- how much is to be done, in steps at most
abbrev pub to_do : Todo → ℕ
to_do todo = 4 * cells_all todo.ahead + vec_len todo.tasks

-- From an output on, a text was begun over some tasks and terms: what is written by now, with what is still to be done,
-- is that output, then the text, then what those tasks write.
abbrev pub Begins : Printer → List ℕ → List ℕ → Todo → List ℕ → Todo → Type 0
Begins p old text over new todo =
    new ++ tasks_text p.is_quoted p.numbers todo.tasks.items todo.ahead
    ≡ old ++ (text ++ tasks_text p.is_quoted p.numbers over.tasks.items over.ahead)
