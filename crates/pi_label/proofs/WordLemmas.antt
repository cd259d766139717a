-- The words of options, and what they add.
use Rattle.std.proofs.Common.{◌≡◌, ℕ, suc, ◌+◌, ◌<◌, ◌≤◌, Bool, true, false, cond, List, [], length, map, drop, get_or, refl, sym, ap, ◌∙◌, subst, arith, add-one}
use Rattle.std.specs.Prelude.{nat_lt, Option, Some, None, option_map, codes, unwrap_or, Ok, Err, Result}
use Rattle.std.specs.Str.{bytes_eq}
use Rattle.pi_terms.specs.Tree.{Tree, Trees, no_trees, tree, tree_count, int, comp, args, arg_at, tree_at, cells, most_cells}
use Rattle.pi_constraints.specs.Value.{IsAcyclic, value}
use Rattle.pi_constraints.specs.State.{State, bindings, followed}
use Rattle.pi_constraints.specs.Store.{StoreView, IsTerm, IsName, ShowsCell}
use Rattle.pi_constraints.specs.declared.store.Cell.{Cell}
use Rattle.pi_constraints.specs.declared.store.Ref.{Ref}
use Rattle.pi_constraints.proofs.FollowLemmas.{followed_value}
use Rattle.pi_effects.specs.Answer.{found_or}
use Rattle.pi_effects.specs.Exception.{term_too_large}
use Rattle.pi_effects.specs.Items.{list_items}
use Rattle.pi_effects.specs.Collections.{list_then}
use Rattle.pi_effects.specs.Results.{Stops}
use Rattle.pi_effects.specs.declared.fault.Stop.{Stop}
use Rattle.pi_lib_builtin.specs.Items.{AreItems}
use Rattle.pi_lib_builtin.proofs.RowLemmas.{as-many, ItemAt, item-at, none-behind}
use Rattle.pi_settling.specs.Options.{VariableWord as Picks, forward, backward, ff, ValueWord as Tries, up, down, split, reverse_split, Objective as Wanted, Word as Meant, picks, tries, seeks, named_word, objective_word, word_of, Chosen as Had, set_variable, set_value, set_objective, with_word, variable_or, value_or, read_on, words_read, read_options}
use Rattle.pi_settling.specs.Asked.{raises, with_words, with_options}
use Rattle.pi_label.specs.OptionLaws.{CallsGoByOptions}
use Rattle.pi_label.specs.Words.{variable_word, value_word, picking_word, trying_word}
use Rattle.pi_label.specs.Reads.{AreObjectives, ShowsObjective, ShowsWord, ShowsPlain, AreChosen, ShowsChosen, ShowsWords, words_in, options_in, refusal_of, IsUnmeasured, ShowsOptions}
use Rattle.pi_label.specs.declared.options.VariableWord.{VariableWord}
use Rattle.pi_label.specs.declared.options.ValueWord.{ValueWord}
use Rattle.pi_label.specs.declared.options.Objective.{Objective}
use Rattle.pi_label.specs.declared.options.Options.{Options}
use Rattle.pi_label.specs.declared.fault.OptFault.{OptFault}
use Rattle.pi_label.specs.declared.words.Word.{Word}
use Rattle.pi_label.specs.declared.reading.Chosen.{Chosen}

-- ---- names

abbrev joined_words : Option Picks → Option Tries → Option Meant
joined_words (Some w) t = Some (picks w)
joined_words None (Some t) = Some (tries t)
joined_words None None = None

tests : (a b c d e f g : Bool) →
    cond a (Some (picks forward)) (cond b (Some (picks backward)) (cond c (Some (picks ff)) (cond d (Some (tries up)) (cond e (Some (tries down)) (cond f (Some (tries split)) (cond g (Some (tries reverse_split)) None))))))
    ≡ joined_words (cond a (Some forward) (cond b (Some backward) (cond c (Some ff) None))) (cond d (Some up) (cond e (Some down) (cond f (Some split) (cond g (Some reverse_split) None))))
tests true b c d e f g = refl
tests false true c d e f g = refl
tests false false true d e f g = refl
tests false false false true e f g = refl
tests false false false false true f g = refl
tests false false false false false true g = refl
tests false false false false false false true = refl
tests false false false false false false false = refl

named-by_group : (name : List ℕ) → named_word name ≡ joined_words (picking_word name) (trying_word name)
named-by_group name = tests (bytes_eq name (codes "forward")) (bytes_eq name (codes "backward")) (bytes_eq name (codes "ff")) (bytes_eq name (codes "up")) (bytes_eq name (codes "down")) (bytes_eq name (codes "split")) (bytes_eq name (codes "reverse_split"))

pub plain-picks : (name : List ℕ) (o : Option VariableWord) (w : VariableWord) → option_map variable_word o ≡ picking_word name → o ≡ Some w → ShowsPlain name (Some (Word.Picks w))
plain-picks name o w e is = named-by_group name ∙ ap (λ p. joined_words p (trying_word name)) (sym e ∙ ap (option_map variable_word) is)

pub plain-tries : (name : List ℕ) (o : Option VariableWord) (q : Option ValueWord) (w : ValueWord) → option_map variable_word o ≡ picking_word name → o ≡ None → option_map value_word q ≡ trying_word name → q ≡ Some w → ShowsPlain name (Some (Word.Tries w))
plain-tries name o q w e none f is =
    named-by_group name ∙ (ap (λ p. joined_words p (trying_word name)) (sym e ∙ ap (option_map variable_word) none) ∙ ap (joined_words None) (sym f ∙ ap (option_map value_word) is))

pub plain-none : (name : List ℕ) (o : Option VariableWord) (q : Option ValueWord) → option_map variable_word o ≡ picking_word name → o ≡ None → option_map value_word q ≡ trying_word name → q ≡ None → ShowsPlain name None
plain-none name o q e none f is =
    named-by_group name ∙ (ap (λ p. joined_words p (trying_word name)) (sym e ∙ ap (option_map variable_word) none) ∙ ap (joined_words None) (sym f ∙ ap (option_map value_word) is))

-- ---- a term by its root

pub atom-word : {M : Type 0} (v : StoreView M) (u : Tree) (k : ℕ) (name : List ℕ) (w : Option Word) → ShowsCell v u (Cell.Atom k) → ((f : List ℕ) → IsName v k f → name ≡ f) → ShowsPlain name w → ShowsWord v w (word_of u)
atom-word v u k name w (f, is, e) named shows = subst (λ t. ShowsWord v w (word_of t)) (sym e) (subst (λ g. ShowsWord v w (named_word g)) (named f is) (plain w shows))
  where
    plain : (w : Option Word) → ShowsPlain name w → ShowsWord v w (named_word name)
    plain None h = h
    plain (Some (Word.Picks p)) h = h
    plain (Some (Word.Tries t)) h = h
    plain (Some (Word.Seeks o)) h = absurd h

one-argument : (ts : Trees) → tree_count ts ≡ 1 → (x : Tree) × (ts ≡ tree x no_trees)
unfolding tree_count
one-argument no_trees h = absurd (omega arith)
one-argument (tree x no_trees) h = (x, refl)
one-argument (tree x (tree y ts)) h = absurd (omega arith)

no-word : (name : List ℕ) (ts : Trees) → (tree_count ts ≡ 1 → ⊥) → word_of (comp name ts) ≡ None
unfolding tree_count
no-word name no_trees h = refl
no-word name (tree x no_trees) h = absurd (h refl)
no-word name (tree x (tree y ts)) h = refl

pub variable-word : {M : Type 0} (v : StoreView M) (u : Tree) (n : ℕ) → ShowsCell v u (Cell.Var n) → ShowsWord v None (word_of u)
variable-word v u n e = ap word_of e

pub integer-word : {M : Type 0} (v : StoreView M) (u : Tree) (cell : Cell) (n : _) → cell ≡ Cell.Int n → ShowsCell v u cell → ShowsWord v None (word_of u)
integer-word v u cell n is shows = let e : u ≡ int n = subst (ShowsCell v u) is shows in ap word_of e

pub other-word : {M : Type 0} (v : StoreView M) (u : Tree) (k count : ℕ) → ShowsCell v u (Cell.Comp k count) → (count ≡ 1 → ⊥) → ShowsWord v None (word_of u)
other-word v u k count (name, is, e, many) other = ap word_of e ∙ no-word name (args u) (λ h. other (many ∙ h))

-- a compound of one argument, by the objective that its name makes of it
pub one-word : {M : Type 0} (v : StoreView M) (u : Tree) (k count : ℕ) (o : Option Objective) → ShowsCell v u (Cell.Comp k count) → count ≡ 1 →
    ((name : List ℕ) (x : Tree) → IsName v k name → arg_at u 0 ≡ Some x → ShowsObjective v o (objective_word name x)) → ShowsObjective v o (word_of u)
unfolding tree_at
one-word v u k count o (name, is, e, many) one shows =
    let only : (x : Tree) × (args u ≡ tree x no_trees) = one-argument (args u) (sym many ∙ one) in
    let whole : u ≡ comp name (tree only.0 no_trees) = e ∙ ap (comp name) only.1 in
    subst (λ t. ShowsObjective v o (word_of t)) (sym whole) (shows name only.0 is (ap (λ t. arg_at t 0) whole))

-- ---- the objective that a name makes

pub objective-least : {M : Type 0} (v : StoreView M) (name f : List ℕ) (r : Ref) (t : Tree) → name ≡ f → bytes_eq name (codes "min") ≡ true → IsTerm v r t → ShowsObjective v (Some (record { greatest = false; expression = r })) (objective_word f t)
objective-least v name f r t e is at = (
  record { greatest = false; expression = t },
  ap (λ b. cond b (Some (seeks (record { greatest = false; expression = t }))) (cond (bytes_eq f (codes "max")) (Some (seeks (record { greatest = true; expression = t }))) None)) (sym (ap (λ g. bytes_eq g (codes "min")) e) ∙ is),
  (refl, at),
)

not-least : (f : List ℕ) (t : Tree) → bytes_eq f (codes "min") ≡ false → objective_word f t ≡ cond (bytes_eq f (codes "max")) (Some (seeks (record { greatest = true; expression = t }))) None
not-least f t is = ap (λ b. cond b (Some (seeks (record { greatest = false; expression = t }))) (cond (bytes_eq f (codes "max")) (Some (seeks (record { greatest = true; expression = t }))) None)) is

pub objective-greatest : {M : Type 0} (v : StoreView M) (name f : List ℕ) (r : Ref) (t : Tree) → name ≡ f → bytes_eq name (codes "min") ≡ false → bytes_eq name (codes "max") ≡ true → IsTerm v r t → ShowsObjective v (Some (record { greatest = true; expression = r })) (objective_word f t)
objective-greatest v name f r t e other is at = (
  record { greatest = true; expression = t },
  not-least f t (sym (ap (λ g. bytes_eq g (codes "min")) e) ∙ other) ∙ ap (λ b. cond b (Some (seeks (record { greatest = true; expression = t }))) None) (sym (ap (λ g. bytes_eq g (codes "max")) e) ∙ is),
  (refl, at),
)

pub objective-none : {M : Type 0} (v : StoreView M) (name f : List ℕ) (t : Tree) → name ≡ f → bytes_eq name (codes "min") ≡ false → bytes_eq name (codes "max") ≡ false → ShowsObjective v None (objective_word f t)
objective-none v name f t e other is =
    not-least f t (sym (ap (λ g. bytes_eq g (codes "min")) e) ∙ other) ∙ ap (λ b. cond b (Some (seeks (record { greatest = true; expression = t }))) None) (sym (ap (λ g. bytes_eq g (codes "max")) e) ∙ is)

-- ---- what a word adds

pub picks-more : {M : Type 0} (v : StoreView M) (c : Chosen) (d : Had) (w : VariableWord) (o : Option Meant) → AreChosen v c d → o ≡ Some (picks (variable_word w)) → c.variable ≡ None →
    ShowsChosen v (Some (record { variable = Some w; value = c.value; objective = c.objective })) (with_word d o)
picks-more v c d w o are e none =
    let free : d.variable ≡ None = sym are.picked ∙ ap (option_map variable_word) none in (
      record { variable = Some (variable_word w); value = d.value; objective = d.objective },
      ap (with_word d) e ∙ ap (λ p. set_variable d p (variable_word w)) free,
      record { picked = refl; tried = are.tried; sought = are.sought },
    )

pub picks-again : {M : Type 0} (v : StoreView M) (c : Chosen) (d : Had) (w x : VariableWord) (o : Option Meant) → AreChosen v c d → o ≡ Some (picks (variable_word w)) → c.variable ≡ Some x → ShowsChosen v None (with_word d o)
picks-again v c d w x o are e some =
    let taken : d.variable ≡ Some (variable_word x) = sym are.picked ∙ ap (option_map variable_word) some in
    ap (with_word d) e ∙ ap (λ p. set_variable d p (variable_word w)) taken

pub tries-more : {M : Type 0} (v : StoreView M) (c : Chosen) (d : Had) (w : ValueWord) (o : Option Meant) → AreChosen v c d → o ≡ Some (tries (value_word w)) → c.value ≡ None →
    ShowsChosen v (Some (record { variable = c.variable; value = Some w; objective = c.objective })) (with_word d o)
tries-more v c d w o are e none =
    let free : d.value ≡ None = sym are.tried ∙ ap (option_map value_word) none in (
      record { variable = d.variable; value = Some (value_word w); objective = d.objective },
      ap (with_word d) e ∙ ap (λ p. set_value d p (value_word w)) free,
      record { picked = are.picked; tried = refl; sought = are.sought },
    )

pub tries-again : {M : Type 0} (v : StoreView M) (c : Chosen) (d : Had) (w x : ValueWord) (o : Option Meant) → AreChosen v c d → o ≡ Some (tries (value_word w)) → c.value ≡ Some x → ShowsChosen v None (with_word d o)
tries-again v c d w x o are e some =
    let taken : d.value ≡ Some (value_word x) = sym are.tried ∙ ap (option_map value_word) some in
    ap (with_word d) e ∙ ap (λ p. set_value d p (value_word w)) taken

no-objective : {M : Type 0} (v : StoreView M) (o : Option Objective) (p : Option Wanted) → AreObjectives v o p → o ≡ None → p ≡ None
no-objective v None None h e = refl
no-objective v None (Some p) h e = absurd h
no-objective v (Some o) p h e = cc

an-objective : {M : Type 0} (v : StoreView M) (o : Option Objective) (p : Option Wanted) (x : Objective) → AreObjectives v o p → o ≡ Some x → (q : Wanted) × (p ≡ Some q)
an-objective v None p x h e = cc
an-objective v (Some o) None x h e = absurd h
an-objective v (Some o) (Some p) x h e = (p, refl)

pub seeks-more : {M : Type 0} (v : StoreView M) (c : Chosen) (d : Had) (q : Objective) (o : Option Meant) → AreChosen v c d → ShowsObjective v (Some q) o → c.objective ≡ None →
    ShowsChosen v (Some (record { variable = c.variable; value = c.value; objective = Some q })) (with_word d o)
seeks-more v c d q o are (p, e, is) none =
    let free : d.objective ≡ None = no-objective v c.objective d.objective are.sought none in (
      record { variable = d.variable; value = d.value; objective = Some p },
      ap (with_word d) e ∙ ap (λ w. set_objective d w p) free,
      record { picked = are.picked; tried = are.tried; sought = is },
    )

pub seeks-again : {M : Type 0} (v : StoreView M) (c : Chosen) (d : Had) (q x : Objective) (o : Option Meant) → AreChosen v c d → ShowsObjective v (Some q) o → c.objective ≡ Some x → ShowsChosen v None (with_word d o)
seeks-again v c d q x o are (p, e, is) some =
    let taken : (r : Wanted) × (d.objective ≡ Some r) = an-objective v c.objective d.objective x are.sought some in
    ap (with_word d) e ∙ ap (λ w. set_objective d w p) taken.1

pub no-word-more : {M : Type 0} (v : StoreView M) (d : Had) (o : Option Meant) → ShowsWord v None o → ShowsChosen v None (with_word d o)
no-word-more v d o e = ap (with_word d) e

-- ---- all words

-- the words before one were read, and these were chosen
pub record AreReadTo {M : Type 0} (v : StoreView M) (ts : List Tree) (c : Chosen) (i : ℕ) : Type 0 where
  pub had : Had
  pub are : AreChosen v c had
  pub goes : read_options (map (followed (bindings v.now.state)) ts) ≡ words_read (map (followed (bindings v.now.state)) (drop i ts)) had

pub none-read : {M : Type 0} (v : StoreView M) (ts : List Tree) → AreReadTo v ts (record { variable = None; value = None; objective = None }) 0
none-read v ts = record {
  had = record { variable = None; value = None; objective = None };
  are = record { picked = refl; tried = refl; sought = tt };
  goes = refl;
}

pub one-read : {M : Type 0} (v : StoreView M) (rs : List Ref) (ts : List Tree) (i : ℕ) (r : Ref) (c more : Chosen) → AreItems v rs ts → i < length rs → r ≡ get_or rs i r → AreReadTo v ts c i
    → ((t : Tree) (d : Had) → IsTerm v r t → AreChosen v c d → ShowsChosen v (Some more) (with_word d (word_of (followed (bindings v.now.state) t)))) → AreReadTo v ts more (i + 1)
unfolding words_read
one-read v rs ts i r c more h low e before adds =
    let at : ItemAt v ts i r = item-at v rs ts i r h low e in
    let f : Tree → Tree = followed (bindings v.now.state) in
    let added = adds at.it before.had at.is before.are in
    record {
      had = added.0;
      are = added.2;
      goes = before.goes ∙ (ap (λ us. words_read (map f us) before.had) at.behind
          ∙ (ap (read_on (f at.it) (words_read (map f (drop (suc i) ts)))) added.1 ∙ ap (λ k. words_read (map f (drop k ts)) added.0) (sym (add-one i))));
    }

pub one-refused : {M : Type 0} (v : StoreView M) (rs : List Ref) (ts : List Tree) (i : ℕ) (r : Ref) (c : Chosen) → IsAcyclic (bindings v.now.state) → AreItems v rs ts → i < length rs → r ≡ get_or rs i r → AreReadTo v ts c i
    → ((t : Tree) (d : Had) → IsTerm v r t → AreChosen v c d → ShowsChosen v None (with_word d (word_of (followed (bindings v.now.state) t))))
    → ShowsWords v (Err (OptFault.BadOption r)) (read_options (map (followed (bindings v.now.state)) ts))
unfolding words_read
one-refused v rs ts i r c a h low e before refuses =
    let at : ItemAt v ts i r = item-at v rs ts i r h low e in
    let f : Tree → Tree = followed (bindings v.now.state) in (
      f at.it,
      before.goes ∙ (ap (λ us. words_read (map f us) before.had) at.behind ∙ ap (read_on (f at.it) (words_read (map f (drop (suc i) ts)))) (refuses at.it before.had at.is before.are)),
      (at.it, at.is, sym (followed_value (bindings v.now.state) at.it a)),
    )

pub all-read : {M : Type 0} (v : StoreView M) (rs : List Ref) (ts : List Tree) (i : ℕ) (c : Chosen) (p : VariableWord) (q : ValueWord) → AreItems v rs ts → length rs ≤ i → AreReadTo v ts c i
    → variable_word p ≡ variable_or (option_map variable_word c.variable) → value_word q ≡ value_or (option_map value_word c.value)
    → ShowsWords v (Ok (record { variable = p; value = q; objective = c.objective })) (read_options (map (followed (bindings v.now.state)) ts))
unfolding words_read
all-read v rs ts i c p q h past before e f =
    let many : length ts ≡ length rs = as-many v rs ts h in
    let done : drop i ts ≡ [] = none-behind ts i (omega arith) in (
      record { variable = variable_or before.had.variable; value = value_or before.had.value; objective = before.had.objective },
      before.goes ∙ ap (λ us. words_read (map (followed (bindings v.now.state)) us) before.had) done,
      record { picked = e ∙ ap variable_or before.are.picked; tried = f ∙ ap value_or before.are.tried; sought = before.are.sought },
    )

pub variable-chosen : (o : Option VariableWord) → variable_word (unwrap_or o VariableWord.Forward) ≡ variable_or (option_map variable_word o)
variable-chosen None = refl
variable-chosen (Some w) = refl

pub value-chosen : (o : Option ValueWord) → value_word (unwrap_or o ValueWord.Up) ≡ value_or (option_map value_word o)
value-chosen None = refl
value-chosen (Some w) = refl

-- ---- a term and its words

items-are : (items : Option (List Tree)) (ball : Tree) (ts : List Tree) → found_or {B = List Tree} items ball (λ us. Ok us) ≡ Ok ts → items ≡ Some ts
items-are None ball ts e = cc
items-are (Some us) ball ts e = ap Some cc

no-items : (items : Option (List Tree)) (ball other : Tree) → found_or {B = List Tree} items ball (λ us. Ok us) ≡ Err other → items ≡ None
no-items None ball other e = refl
no-items (Some us) ball other e = cc

pub with-items : {M : Type 0} (v : StoreView M) (t : Tree) (rs : List Ref) (result : Result Options OptFault) (measured : cells (value (bindings v.now.state) t) ≤ most_cells)
    (found : (ts : List Tree) × (list_then v.now.state t (λ us. Ok us) ≡ Ok ts) × AreItems v rs ts) → ((ts : List Tree) → AreItems v rs ts → ShowsWords v result (read_options (map (followed (bindings v.now.state)) ts))) → ShowsOptions v t result
with-items v t rs result measured (ts, e, are) reads = sized result (subst (λ items. ShowsWords v result (words_in (bindings v.now.state) t items)) (sym (items-are (list_items (bindings v.now.state) t) _ ts e)) (reads ts are))
  where
    sized : (r : Result Options OptFault) → ShowsWords v r (options_in (bindings v.now.state) t) → ShowsOptions v t r
    sized (Ok o) h = (measured, h)
    sized (Err OptFault.TooLarge) h = absurd h
    sized (Err (OptFault.BadOption q)) h = (measured, h)
    sized (Err OptFault.Memory) h = tt

pub without-items : {M : Type 0} (v : StoreView M) (t : Tree) (r : Ref) (stop : Stop) → cells (value (bindings v.now.state) t) ≤ most_cells → IsTerm v r t → Stops v stop (list_then {A = List Tree} v.now.state t (λ us. Ok us)) → ShowsOptions v t (Err (refusal_of stop r))
without-items v t r (Stop.Raised f) measured is (ball, e, told) =
    (measured, (t, ap (words_in (bindings v.now.state) t) (no-items (list_items (bindings v.now.state) t) _ ball e), (t, is, refl)))
without-items v t r Stop.Memory measured is h = tt

pub not-measured : {M : Type 0} (v : StoreView M) (t : Tree) (e : OptFault) → IsUnmeasured (value (bindings v.now.state) t) e → ShowsOptions v t (Err e)
not-measured v t OptFault.TooLarge h = h
not-measured v t (OptFault.BadOption q) h = absurd h
not-measured v t OptFault.Memory h = tt

-- ---- calls

words-by_items : (s : State) (words vars : Tree) (items : Option (List Tree)) → with_words s words vars items ≡ with_options s vars (words_in (bindings s) words items)
words-by_items s words vars None = refl
words-by_items s words vars (Some ts) = refl

pub calls-go_by_options : CallsGoByOptions
calls-go_by_options s words vars = ap (cond (nat_lt most_cells (cells (value (bindings s) words))) (raises term_too_large)) (words-by_items s words vars (list_items (bindings s) words))
