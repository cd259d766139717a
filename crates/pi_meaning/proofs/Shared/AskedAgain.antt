-- A call of `solve` asks for the same once an alternative of it is settled, and its variables are confined then: so labelling goes on by the call itself.
use Rattle.std.specs.Prelude.{◌≡◌, ℕ, zero, suc, nat_lt, Bool, true, false, cond, List, [], ◌∷◌, length, map, Option, Some, None, option_map, unwrap_or, codes, refl}
use Rattle.std.specs.Option.{option_or}
use Rattle.std.specs.Str.{bytes_eq}
use Rattle.std.proofs.Common.{sym, ◌∙◌, ap, ap₂}
use Rattle.pi_terms.specs.Tree.{Tree, var, atom, Trees, no_trees, tree, cells, most_cells}
use Rattle.pi_terms.specs.ListNames.{nil}
use Rattle.pi_terms.specs.Substitution.{instance}
use Rattle.pi_terms.specs.Places.{held}
use Rattle.pi_constraints.specs.declared.constraint.Item.{Item}
use Rattle.pi_constraints.specs.declared.domain.Span.{Span}
use Rattle.pi_constraints.specs.Value.{Bindings, rounds, value}
use Rattle.pi_constraints.specs.State.{State, bindings, followed}
use Rattle.pi_effects.specs.Exception.{term_too_large}
use Rattle.pi_effects.specs.Items.{items_of_root, items_for, list_items}
use Rattle.pi_effects.specs.Rows.{of_one, of_two, with_arguments, done_by}
use Rattle.pi_settling.specs.Options.{Options, Objective, VariableWord, forward, backward, ff, ValueWord, up, down, split, reverse_split, ReadOptions, options, bad_option, word_of, Chosen, with_word, read_on, words_read, read_options}
use Rattle.pi_settling.specs.Asked.{Flat, flat, no_item, flat_items, Asked, labels, raises, with_items, with_options, with_words, asked, asked_plainly}
use Rattle.pi_settling.specs.SolveCalls.{solve_calls, solve_asked}
use Rattle.pi_settling.specs.Confined.{confined}
use Rattle.pi_settling.specs.Choices.{Alternative, left_by, narrowed_to}
use Rattle.pi_meaning.specs.Shared.Settle.{settlement}
use Rattle.pi_meaning.specs.Shared.Solve.{plain}
use Rattle.pi_settling.specs.Words.{variable_name, value_name, cell, plain_words, second_of}
use Rattle.pi_meaning.proofs.Shared.BoundIntegers.{BindsIntegers, binds-then, narrowing-binds, confining-binds, settlement-binds}
use Rattle.pi_meaning.proofs.Shared.BoundValues.{followed-still, seen-same, value-cells, items-same, flat-same}
use Rattle.pi_meaning.proofs.Shared.MoreVariables.{fixed-stays}
use Rattle.pi_meaning.proofs.Shared.ConfinedAgain.{taken-stay, confining-takes, are-taken-later}

-- ---- the options

read-again : (t u : Tree) (f g : Chosen → ReadOptions) (o : Options) → ((c : Chosen) → f c ≡ options o → g c ≡ options o) → (w : Option Chosen) → read_on t f w ≡ options o → read_on u g w ≡ options o
read-again t u f g o again None is = absurd (cc)
read-again t u f g o again (Some c) is = again c is

words-again : (s r : State) → BindsIntegers s r → (ts : List Tree) (o : Options) (c : Chosen) → words_read (map (followed (bindings s)) ts) c ≡ options o → words_read (map (followed (bindings r)) ts) c ≡ options o
unfolding words_read
words-again s r h [] o c is = is
words-again s r h (t ∷ ts) o c is =
    let b : Tree = followed (bindings s) t in
    let u : Tree = followed (bindings r) t in
    let f : Chosen → ReadOptions = words_read (map (followed (bindings s)) ts) in
    let g : Chosen → ReadOptions = words_read (map (followed (bindings r)) ts) in
    let word : with_word c (word_of u) ≡ with_word c (word_of b) = ap (with_word c) (seen-same word_of (λ n i. refl) b u (followed-still s r h t)) in
    ap (read_on u g) word ∙ read-again b u f g o (words-again s r h ts o) (with_word c (word_of b)) is

-- ---- the call

-- it labels these by these options
abbrev Labels : Options → List Item → Asked → Type 0
Labels o items a = a ≡ labels o items

items-again : (s r : State) (o p : Options) (items : List Item) (x : Flat) → Labels o items (with_items s p x) → Labels o items (with_items r p x)
items-again s r o p items (flat xs) is = is
items-again s r o p items (no_item t) is = absurd (cc)

options-again : (s r : State) → BindsIntegers s r → (vars : Tree) (ts : List Tree) (o : Options) (items : List Item) (x : ReadOptions) → read_options (map (followed (bindings s)) ts) ≡ x →
    Labels o items (with_options s vars x) → Labels o items (with_options r vars (read_options (map (followed (bindings r)) ts)))
options-again s r h vars ts o items (options p) read is =
    ap (with_options r vars) (words-again s r h ts p _ read)
    ∙ (ap (with_items r p) (flat-same s r h vars) ∙ items-again s r o p items (flat_items (bindings s) vars) is)
options-again s r h vars ts o items (bad_option t) read is = absurd (cc)

words-labels : (s r : State) → BindsIntegers s r → (words vars : Tree) (o : Options) (items : List Item) (x : Option (List Tree)) → Labels o items (with_words s words vars x) → Labels o items (with_words r words vars x)
words-labels s r h words vars o items None is = absurd (cc)
words-labels s r h words vars o items (Some ts) is = options-again s r h vars ts o items (read_options (map (followed (bindings s)) ts)) refl is

size-again : (o : Options) (items : List Item) (large : Bool) (x y : Asked) → (Labels o items x → Labels o items y) → Labels o items (cond large (raises term_too_large) x) → Labels o items (cond large (raises term_too_large) y)
size-again o items true x y again is = absurd (cc)
size-again o items false x y again is = again is

labels-again : (s r : State) → BindsIntegers s r → (words vars : Tree) (o : Options) (items : List Item) → Labels o items (asked s words vars) → Labels o items (asked r words vars)
labels-again s r h words vars o items is =
    let x : Asked = with_words s words vars (list_items (bindings s) words) in
    let y : Asked = with_words r words vars (list_items (bindings r) words) in
    let again : Labels o items x → Labels o items y = λ e. ap (with_words r words vars) (items-same s r h words) ∙ words-labels s r h words vars o items (list_items (bindings s) words) e in
    ap (λ (k : ℕ). cond (nat_lt most_cells k) (raises term_too_large) y) (value-cells s r h words)
    ∙ size-again o items (nat_lt most_cells (cells (value (bindings s) words))) x y again is

-- ---- by the table of calls

abbrev by_row : Bool → Trees → State → Option Asked
by_row b ts s = option_or (cond b (with_arguments (of_one asked_plainly) ts s) None) (option_or (cond b (with_arguments (of_two asked) ts s) None) None)

some-again : (o : Options) (items : List Item) (x y : Asked) → (Labels o items x → Labels o items y) → Some x ≡ Some (labels o items) → Some y ≡ Some (labels o items)
some-again o items x y again is = let same : x ≡ labels o items = cc in ap Some (again same)

row-again : (s r : State) → BindsIntegers s r → (b : Bool) (ts : Trees) (o : Options) (items : List Item) → by_row b ts s ≡ Some (labels o items) → by_row b ts r ≡ Some (labels o items)
row-again s r h false ts o items is = absurd (cc)
row-again s r h true no_trees o items is = absurd (cc)
row-again s r h true (tree t no_trees) o items is = some-again o items (asked_plainly s t) (asked_plainly r t) (labels-again s r h _ t o items) is
row-again s r h true (tree t (tree u no_trees)) o items is = some-again o items (asked s t u) (asked r t u) (labels-again s r h t u o items) is
row-again s r h true (tree t (tree u (tree w ts))) o items is = absurd (cc)

pub solve-again : (name : List ℕ) (ts : Trees) (s r : State) → BindsIntegers s r → (o : Options) (items : List Item) → solve_asked name ts s ≡ Some (labels o items) → solve_asked name ts r ≡ Some (labels o items)
unfolding done_by solve_calls
solve-again name ts s r h o items is = row-again s r h (bytes_eq (codes "solve") name) ts o items is

-- the call asks for the same from what an alternative leaves once that is settled, and its variables are confined there
pub asked-again : (name : List ℕ) (ts : Trees) (s : State) (o : Options) (items : List Item) (n : ℕ) (d : List Span) (a : Alternative) (r q : State) →
    solve_asked name ts s ≡ Some (labels o items) →
    narrowed_to (confined s items) n (left_by a d) ≡ Some r → held (bindings (confined s items)) n ≡ None →
    (settlement (confined s items) r).left ≡ Some q →
    (solve_asked name ts q ≡ Some (labels o items)) × (confined q items ≡ q)
asked-again name ts s o items n d a r q asks narrowed none settles =
    let c : State = confined s items in
    let later : BindsIntegers c q = binds-then c r q (narrowing-binds c r n (left_by a d) none narrowed) (settlement-binds c r q settles) in (
      solve-again name ts s q (binds-then s c q (confining-binds s items) later) o items asks,
      taken-stay q items (are-taken-later c q later items (confining-takes s items)),
    )

-- ---- the call of a round

-- a term without variables, each of which is replaced
rounds-same : (k : ℕ) (b : Bindings) (t : Tree) → ((f : ℕ → Tree) → instance f t ≡ t) → rounds k b t ≡ t
unfolding rounds
rounds-same zero b t h = refl
rounds-same (suc k) b t h = ap (rounds k b) (h (λ n. unwrap_or (held b n) (var n))) ∙ rounds-same k b t h

value-same : (b : Bindings) (t : Tree) → ((f : ℕ → Tree) → instance f t ≡ t) → value b t ≡ t
unfolding value
value-same b t h = rounds-same (length b) b t h

atom-followed : (b : Bindings) (name : List ℕ) → followed b (atom name) ≡ atom name
unfolding followed
atom-followed b name = fixed-stays (length b) b (atom name) tt

cell-followed : (b : Bindings) (t u : Tree) → followed b (cell t u) ≡ cell t u
unfolding followed
cell-followed b t u = fixed-stays (length b) b (cell t u) tt

none-listed : (k : ℕ) (b : Bindings) → items_for (suc k) b (atom nil) ≡ Some []
unfolding items_for
none-listed k b = ap (items_of_root (items_for k b)) (atom-followed b nil)

cell-listed : (k : ℕ) (b : Bindings) (t u : Tree) (ts : List Tree) → items_for k b u ≡ Some ts → items_for (suc k) b (cell t u) ≡ Some (t ∷ ts)
unfolding items_for
cell-listed k b t u ts is = ap (items_of_root (items_for k b)) (cell-followed b t u) ∙ ap (option_map (λ us. t ∷ us)) is

-- two words as a term
abbrev two_words : List ℕ → List ℕ → Tree
two_words v w = cell (atom v) (cell (atom w) (atom nil))

words-value : (b : Bindings) (v w : List ℕ) → value b (two_words v w) ≡ two_words v w
unfolding instance
words-value b v w = value-same b (two_words v w) (λ f. refl)

words-cells : (b : Bindings) (v w : List ℕ) → cells (value b (two_words v w)) ≡ 5
unfolding cells
words-cells b v w = ap cells (words-value b v w)

words-listed : (b : Bindings) (v w : List ℕ) → list_items b (two_words v w) ≡ Some (atom v ∷ atom w ∷ [])
unfolding list_items
words-listed b v w =
    ap (λ (k : ℕ). items_for k b (two_words v w)) (words-cells b v w)
    ∙ cell-listed 4 b (atom v) (cell (atom w) (atom nil)) (atom w ∷ []) (cell-listed 3 b (atom w) (atom nil) [] (none-listed 2 b))

words-told : (v : VariableWord) (w : ValueWord) → read_options (atom (variable_name v) ∷ atom (value_name w) ∷ []) ≡ options (record { variable = v; value = w; objective = None })
unfolding words_read
words-told forward up = refl
words-told forward down = refl
words-told forward split = refl
words-told forward reverse_split = refl
words-told backward up = refl
words-told backward down = refl
words-told backward split = refl
words-told backward reverse_split = refl
words-told ff up = refl
words-told ff down = refl
words-told ff split = refl
words-told ff reverse_split = refl

words-asked : (s : State) (o : Options) (vars : Tree) → asked s (plain_words o) vars ≡ with_items s (plain o) (flat_items (bindings s) vars)
words-asked s o vars =
    let b : Bindings = bindings s in
    let v : List ℕ = variable_name o.variable in
    let w : List ℕ = value_name o.value in
    ap (λ (k : ℕ). cond (nat_lt most_cells k) (raises term_too_large) (with_words s (plain_words o) vars (list_items b (plain_words o)))) (words-cells b v w)
    ∙ (ap (with_words s (plain_words o) vars) (words-listed b v w)
    ∙ (ap₂ (λ (t u : Tree). with_options s vars (read_options (t ∷ u ∷ []))) (atom-followed b v) (atom-followed b w) ∙ ap (with_options s vars) (words-told o.variable o.value)))

-- a round asks for its variables by the plain options
pub round-asks : (s : State) (o : Options) (vars : Tree) → solve_asked (codes "solve") (tree (plain_words o) (tree vars no_trees)) s ≡ Some (with_items s (plain o) (flat_items (bindings s) vars))
unfolding done_by solve_calls
round-asks s o vars = ap Some (words-asked s o vars)

-- ---- the variables of a call with an objective are its second argument

items-flat : (s : State) (o p : Options) (items : List Item) (x : Flat) → Labels o items (with_items s p x) → (p ≡ o) × (x ≡ flat items)
items-flat s o p items (flat xs) is = (cc, cc)
items-flat s o p items (no_item t) is = absurd (cc)

options-flat : (s : State) (vars : Tree) (o : Options) (items : List Item) (x : ReadOptions) → Labels o items (with_options s vars x) → (x ≡ options o) × (flat_items (bindings s) vars ≡ flat items)
options-flat s vars o items (options p) is = let h : _ = items-flat s o p items (flat_items (bindings s) vars) is in (ap options h.0, h.1)
options-flat s vars o items (bad_option t) is = absurd (cc)

words-flat : (s : State) (words vars : Tree) (o : Options) (items : List Item) (x : Option (List Tree)) → Labels o items (with_words s words vars x) → flat_items (bindings s) vars ≡ flat items
words-flat s words vars o items None is = absurd (cc)
words-flat s words vars o items (Some ts) is = (options-flat s vars o items (read_options (map (followed (bindings s)) ts)) is).1

not-large : (o : Options) (items : List Item) (large : Bool) (x : Asked) → Labels o items (cond large (raises term_too_large) x) → Labels o items x
not-large o items true x is = absurd (cc)
not-large o items false x is = is

asked-flat : (s : State) (words vars : Tree) (o : Options) (items : List Item) → Labels o items (asked s words vars) → flat_items (bindings s) vars ≡ flat items
asked-flat s words vars o items is =
    let large : Bool = nat_lt most_cells (cells (value (bindings s) words)) in
    let x : Asked = with_words s words vars (list_items (bindings s) words) in
    words-flat s words vars o items (list_items (bindings s) words) (not-large o items large x is)

nil-listed : (b : Bindings) → list_items b (atom nil) ≡ Some []
unfolding list_items instance cells
nil-listed b = ap (λ (t : Tree). items_for (cells t) b (atom nil)) (value-same b (atom nil) (λ f. refl)) ∙ none-listed 0 b

-- without words there is no objective
plainly-none : (s : State) (vars : Tree) (o : Options) (items : List Item) → Labels o items (asked_plainly s vars) → o.objective ≡ None
unfolding words_read
plainly-none s vars o items is =
    let large : Bool = nat_lt most_cells (cells (value (bindings s) (atom nil))) in
    let x : Asked = with_words s (atom nil) vars (list_items (bindings s) (atom nil)) in
    let plain_ones : Labels o items (with_words s (atom nil) vars (Some [])) = sym (ap (with_words s (atom nil) vars) (nil-listed (bindings s))) ∙ not-large o items large x is in
    let read : (read_options [] ≡ options o) × (flat_items (bindings s) vars ≡ flat items) = options-flat s vars o items (read_options []) plain_ones in
    sym (ap objective_of read.0)
  where
    objective_of : ReadOptions → Option Objective
    objective_of (options p) = p.objective
    objective_of (bad_option t) = None

some-labels : (o : Options) (items : List Item) (x : Asked) → Some x ≡ Some (labels o items) → Labels o items x
some-labels o items x is = cc

row-flat : (b : Bool) (ts : Trees) (s : State) (o : Options) (w : Objective) (items : List Item) → by_row b ts s ≡ Some (labels o items) → o.objective ≡ Some w → flat_items (bindings s) (second_of ts) ≡ flat items
row-flat false ts s o w items is has = absurd (cc)
row-flat true no_trees s o w items is has = absurd (cc)
row-flat true (tree t no_trees) s o w items is has =
    absurd (let no : None ≡ Some w = sym (plainly-none s t o items (some-labels o items (asked_plainly s t) is)) ∙ has in cc)
row-flat true (tree t (tree u no_trees)) s o w items is has = asked-flat s t u o items (some-labels o items (asked s t u) is)
row-flat true (tree t (tree u (tree x ts))) s o w items is has = absurd (cc)

pub labelled-flat : (name : List ℕ) (ts : Trees) (s : State) (o : Options) (w : Objective) (items : List Item) → solve_asked name ts s ≡ Some (labels o items) → o.objective ≡ Some w →
    flat_items (bindings s) (second_of ts) ≡ flat items
unfolding done_by solve_calls
labelled-flat name ts s o w items is has = row-flat (bytes_eq (codes "solve") name) ts s o w items is has
