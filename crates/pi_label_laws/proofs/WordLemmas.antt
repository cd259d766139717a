-- The expression of an objective is a part of the options that a call was handed.
use Rattle.std.specs.Prelude.{◌≡◌, ⊤, ℕ, nat_lt, Bool, true, false, cond, List, [], ◌∷◌, map, Option, Some, None, codes}
use Rattle.std.specs.Str.{bytes_eq}
use Rattle.std.proofs.Common.{subst, inl}
use Rattle.pi_terms.specs.Tree.{Tree, var, int, atom, comp, no_trees, tree, cells, most_cells}
use Rattle.pi_terms.specs.Variables.{Occurs}
use Rattle.pi_constraints.specs.declared.constraint.Item.{Item}
use Rattle.pi_constraints.specs.Value.{value}
use Rattle.pi_constraints.specs.State.{State, bindings, next, followed, SpeaksBelow, IsState}
use Rattle.pi_effects.specs.Items.{list_items}
use Rattle.pi_settling.specs.Options.{forward, backward, ff, up, down, split, reverse_split, Objective, Options, Word, picks, tries, seeks, named_word, objective_word, word_of, Chosen, set_variable, set_value, set_objective, VariableWord, ValueWord, with_word, ReadOptions, options, bad_option, read_on, words_read, read_options}
use Rattle.pi_settling.specs.Asked.{Flat, flat, no_item, flat_items, Asked, labels, raises, with_items, with_options, with_words, asked}
use Rattle.pi_label_laws.proofs.BeginLemmas.{EachBelow, SomeBelow, list-below, below-followed}

-- ---- words

abbrev GoodObjective : ℕ → Option Objective → Type 0
GoodObjective n None = ⊤
GoodObjective n (Some o) = SpeaksBelow n o.expression

abbrev GoodWord : ℕ → Option Word → Type 0
GoodWord n None = ⊤
GoodWord n (Some (picks w)) = ⊤
GoodWord n (Some (tries w)) = ⊤
GoodWord n (Some (seeks o)) = SpeaksBelow n o.expression

either-good : (n : ℕ) (b : Bool) (x y : Option Word) → GoodWord n x → GoodWord n y → GoodWord n (cond b x y)
either-good n true x y h k = h
either-good n false x y h k = k

named-good : (n : ℕ) (name : List ℕ) → GoodWord n (named_word name)
named-good n name =
    either-good n (bytes_eq name (codes "forward")) (Some (picks forward)) _ tt
    (either-good n (bytes_eq name (codes "backward")) (Some (picks backward)) _ tt
    (either-good n (bytes_eq name (codes "ff")) (Some (picks ff)) _ tt
    (either-good n (bytes_eq name (codes "up")) (Some (tries up)) _ tt
    (either-good n (bytes_eq name (codes "down")) (Some (tries down)) _ tt
    (either-good n (bytes_eq name (codes "split")) (Some (tries split)) _ tt
    (either-good n (bytes_eq name (codes "reverse_split")) (Some (tries reverse_split)) None tt tt))))))

objective-good : (n : ℕ) (name : List ℕ) (t : Tree) → SpeaksBelow n t → GoodWord n (objective_word name t)
objective-good n name t h =
    either-good n (bytes_eq name (codes "min")) (Some (seeks (record { greatest = false; expression = t }))) _ h
    (either-good n (bytes_eq name (codes "max")) (Some (seeks (record { greatest = true; expression = t }))) None h tt)

word-good : (n : ℕ) (t : Tree) → SpeaksBelow n t → GoodWord n (word_of t)
unfolding Occurs
word-good n (var m) h = tt
word-good n (int i) h = tt
word-good n (atom name) h = named-good n name
word-good n (comp name no_trees) h = tt
word-good n (comp name (tree t no_trees)) h = objective-good n name t (λ m o. h m (inl o))
word-good n (comp name (tree t (tree u ts))) h = tt

-- ---- options

abbrev GoodSome : ℕ → Option Chosen → Type 0
GoodSome n None = ⊤
GoodSome n (Some c) = GoodObjective n c.objective

chosen-good : (n : ℕ) (c : Chosen) (w : Option Word) → GoodObjective n c.objective → GoodWord n w → GoodSome n (with_word c w)
chosen-good n c None h k = tt
chosen-good n c (Some (picks w)) h k = by c.variable
  where
    by : (v : Option VariableWord) → GoodSome n (set_variable c v w)
    by None = h
    by (Some other) = tt
chosen-good n c (Some (tries w)) h k = by c.value
  where
    by : (v : Option ValueWord) → GoodSome n (set_value c v w)
    by None = h
    by (Some other) = tt
chosen-good n c (Some (seeks o)) h k = by c.objective
  where
    by : (v : Option Objective) → GoodSome n (set_objective c v o)
    by None = k
    by (Some other) = tt

abbrev GoodRead : ℕ → ReadOptions → Type 0
GoodRead n (options o) = GoodObjective n o.objective
GoodRead n (bad_option t) = ⊤

read-good : (n : ℕ) (t : Tree) (f : Chosen → ReadOptions) (c : Option Chosen) → ((c : Chosen) → GoodObjective n c.objective → GoodRead n (f c)) → GoodSome n c → GoodRead n (read_on t f c)
read-good n t f None all h = tt
read-good n t f (Some c) all h = all c h

words-good : (n : ℕ) (ts : List Tree) (c : Chosen) → EachBelow n ts → GoodObjective n c.objective → GoodRead n (words_read ts c)
unfolding words_read EachBelow
words-good n [] c h k = k
words-good n (t ∷ ts) c h k = read-good n t (words_read ts) (with_word c (word_of t)) (λ d g. words-good n ts d h.1 g) (chosen-good n c (word_of t) k (word-good n t h.0))

-- ---- the call

followed-each : (s : State) (ts : List Tree) → IsState s → EachBelow (next s) ts → EachBelow (next s) (map (followed (bindings s)) ts)
unfolding EachBelow
followed-each s [] is h = tt
followed-each s (t ∷ ts) is h = (below-followed s t is h.0, followed-each s ts is h.1)

abbrev GoodAsked : ℕ → Asked → Type 0
GoodAsked n (labels o xs) = GoodObjective n o.objective
GoodAsked n (raises t) = ⊤

items-good : (s : State) (o : Options) (f : Flat) → GoodObjective (next s) o.objective → GoodAsked (next s) (with_items s o f)
items-good s o (flat xs) h = h
items-good s o (no_item t) h = tt

options-good : (s : State) (vars : Tree) (r : ReadOptions) → GoodRead (next s) r → GoodAsked (next s) (with_options s vars r)
options-good s vars (options o) h = items-good s o (flat_items (bindings s) vars) h
options-good s vars (bad_option t) h = tt

list-good : (s : State) (words vars : Tree) (o : Option (List Tree)) → IsState s → SomeBelow (next s) o → GoodAsked (next s) (with_words s words vars o)
list-good s words vars None is h = tt
list-good s words vars (Some ts) is h =
    options-good s vars (read_options (map (followed (bindings s)) ts)) (words-good (next s) (map (followed (bindings s)) ts) (record { variable = None; value = None; objective = None }) (followed-each s ts is h) tt)

size-good : (s : State) (words vars t : Tree) (b : Bool) → GoodAsked (next s) (with_words s words vars (list_items (bindings s) words)) → GoodAsked (next s) (cond b (raises t) (with_words s words vars (list_items (bindings s) words)))
size-good s words vars t true h = tt
size-good s words vars t false h = h

pub expression-below : (s : State) (words vars : Tree) (chosen : Options) (items : List Item) (o : Objective) → IsState s → SpeaksBelow (next s) words → asked s words vars ≡ labels chosen items → chosen.objective ≡ Some o → SpeaksBelow (next s) o.expression
unfolding list_items
expression-below s words vars chosen items o is below asks has =
    let some : SomeBelow (next s) (list_items (bindings s) words) = list-below s (cells (value (bindings s) words)) words is below in
    let all : GoodAsked (next s) (asked s words vars) = size-good s words vars _ (nat_lt most_cells (cells (value (bindings s) words))) (list-good s words vars (list_items (bindings s) words) is some) in
    subst (GoodObjective (next s)) has (subst (GoodAsked (next s)) asks all)
