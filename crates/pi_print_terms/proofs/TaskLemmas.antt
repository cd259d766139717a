-- What the printer's tasks write.
use Rattle.std.proofs.Common.{◌≡◌, ℕ, zero, suc, ◌≤◌, ◌==◌, Bool, true, false, not, ◌&&◌, List, [], ◌∷◌, ◌++◌, refl, ap, sym, ◌∙◌, append_assoc, arith, eq-eqb, inl, inr}
use Rattle.std.specs.Prelude.{codes}
use Rattle.std.specs.Char.{encode_utf8}
use Rattle.std.specs.Str.{bytes_eq}
use Rattle.std.proofs.lemmas.Bool.{cases_Bool, eqb-true}
use Rattle.std.proofs.lemmas.List.{append-nil}
use Rattle.pi_terms.specs.Tree.{Tree, comp, Trees, no_trees, tree, tree_count, drop_trees}
use Rattle.pi_terms.specs.TermCells.{take_trees}
use Rattle.pi_syntax.specs.PrintTerm.{cell_name, is_cell, is_characters, cell_is_characters, characters, compound_text, tail_text, written, items_text, rest_text, arguments_text, more_arguments_text}
use Rattle.pi_terms.specs.declared.term.TermHead.{TermHead}
use Rattle.pi_print_terms.specs.declared.printer.Task.{Task}
use Rattle.pi_print_terms.specs.declared.printer.Task.TheVariants.{Value, Rest, Arguments}
use Rattle.pi_print_terms.specs.Ahead.{built, count_of}
use Rattle.pi_print_terms.specs.Roots.{root_is_cell, root_is_nil}
use Rattle.pi_print_terms.specs.Tasks.{task_text, task_left, tasks_left, tasks_text, list_text}

-- ---- the last task comes first

tasks_left-push : (ks : List Task) (k : Task) (ts : Trees) → tasks_left (ks ++ k ∷ []) ts ≡ tasks_left ks (task_left k ts)
unfolding tasks_left
tasks_left-push [] k ts = refl
tasks_left-push (j ∷ ks) k ts = ap (task_left j) (tasks_left-push ks k ts)

pub tasks_text-push : (q : Bool) (vs : List ℕ) (ks : List Task) (k : Task) (ts : Trees) → tasks_text q vs (ks ++ k ∷ []) ts ≡ task_text q vs k ts ++ tasks_text q vs ks (task_left k ts)
unfolding tasks_text tasks_left
tasks_text-push q vs [] k ts = sym (append-nil (task_text q vs k ts))
tasks_text-push q vs (j ∷ ks) k ts =
    ap (λ r. r ++ task_text q vs j (tasks_left (ks ++ k ∷ []) ts)) (tasks_text-push q vs ks k ts)
    ∙ (ap (λ us. (task_text q vs k ts ++ tasks_text q vs ks (task_left k ts)) ++ task_text q vs j us) (tasks_left-push ks k ts)
    ∙ append_assoc (task_text q vs k ts) (tasks_text q vs ks (task_left k ts)) _)

pub tasks_text-none : (q : Bool) (vs : List ℕ) (ts : Trees) → tasks_text q vs [] ts ≡ []
unfolding tasks_text
tasks_text-none q vs ts = refl

pub value_text : (q : Bool) (vs : List ℕ) (t : Tree) (ts : Trees) → task_text q vs Value (tree t ts) ≡ written q vs t
unfolding task_text
value_text q vs t ts = refl

-- ---- what a list or a compound begins with

pub items_tasks : (q : Bool) (vs : List ℕ) (ks : List Task) (ts : Trees) → 2 ≤ tree_count ts
    → tasks_text q vs ((ks ++ Rest ∷ []) ++ Value ∷ []) ts ≡ items_text q vs (take_trees 2 ts) ++ tasks_text q vs ks (drop_trees 2 ts)
unfolding task_text written tree_count
items_tasks q vs ks no_trees h = absurd (omega arith)
items_tasks q vs ks (tree item no_trees) h = absurd (omega arith)
items_tasks q vs ks (tree item (tree rest ts)) h =
    tasks_text-push q vs (ks ++ Rest ∷ []) Value (tree item (tree rest ts))
    ∙ (ap (λ r. written q vs item ++ r) (tasks_text-push q vs ks Rest (tree rest ts))
    ∙ sym (append_assoc (written q vs item) (rest_text q vs rest) (tasks_text q vs ks ts)))

pub arguments_tasks : (q : Bool) (vs : List ℕ) (ks : List Task) (count close : ℕ) (ts : Trees)
    → tasks_text q vs ((ks ++ Arguments count close ∷ []) ++ Value ∷ []) ts
    ≡ (arguments_text q vs (take_trees (suc count) ts) ++ encode_utf8 close) ++ tasks_text q vs ks (drop_trees (suc count) ts)
unfolding task_text written
arguments_tasks q vs ks zero close no_trees =
    tasks_text-push q vs (ks ++ Arguments zero close ∷ []) Value no_trees ∙ tasks_text-push q vs ks (Arguments zero close) no_trees
arguments_tasks q vs ks (suc count) close no_trees =
    tasks_text-push q vs (ks ++ Arguments (suc count) close ∷ []) Value no_trees ∙ tasks_text-push q vs ks (Arguments (suc count) close) no_trees
arguments_tasks q vs ks count close (tree t ts) =
    tasks_text-push q vs (ks ++ Arguments count close ∷ []) Value (tree t ts)
    ∙ (ap (λ r. written q vs t ++ r) (tasks_text-push q vs ks (Arguments count close) ts)
    ∙ (sym (append_assoc (written q vs t) (more_arguments_text q vs (take_trees count ts) ++ encode_utf8 close) (tasks_text q vs ks (drop_trees count ts)))
    ∙ ap (λ r. r ++ tasks_text q vs ks (drop_trees count ts)) (sym (append_assoc (written q vs t) (more_arguments_text q vs (take_trees count ts)) (encode_utf8 close)))))

-- ---- how terms are written, by their roots

count_taken : (k : ℕ) (ts : Trees) → k ≤ tree_count ts → tree_count (take_trees k ts) ≡ k
unfolding tree_count
count_taken zero ts h = refl
count_taken (suc k) no_trees h = absurd (omega arith)
count_taken (suc k) (tree t ts) h = ap suc (count_taken k ts (omega arith))

-- a list of characters has cells of two arguments
characters_are_two : (ts : Trees) → cell_is_characters ts ≡ true → tree_count ts ≡ 2
unfolding is_characters tree_count
characters_are_two no_trees e = cc
characters_are_two (tree item no_trees) e = cc
characters_are_two (tree item (tree rest no_trees)) e = refl
characters_are_two (tree item (tree rest (tree t ts))) e = cc

pub no_characters : (name : List ℕ) (ts : Trees) → is_cell name ts ≡ false → is_characters (comp name ts) ≡ false
unfolding is_characters
no_characters name ts e = elim (cases_Bool (cell_is_characters ts)) [
  | inl is ↦
      let two : (tree_count ts == 2) ≡ true = eq-eqb _ _ (characters_are_two ts is) in
      elim (cases_Bool (bytes_eq name cell_name)) [
        | inl cell ↦ let f : is_cell name ts ≡ true = rw (cell, two) refl in cc
        | inr other ↦ rw other refl
      ]
  | inr isnt ↦ elim (cases_Bool (bytes_eq name cell_name)) [ inl cell ↦ rw (cell, isnt) refl | inr other ↦ rw other refl ]
]

pub and_left : (b c : Bool) → (b && c) ≡ true → b ≡ true
and_left true c e = refl
and_left false c e = cc

pub and_right : (b c : Bool) → (b && c) ≡ true → c ≡ true
and_right true c e = e
and_right false c e = cc

false_right : (b : Bool) → (b && false) ≡ false
false_right true = refl
false_right false = refl

pub written_list : (q : Bool) (vs : List ℕ) (name : List ℕ) (ts : Trees) → is_cell name ts ≡ true → bytes_eq name cell_name ≡ true → written q vs (comp name ts) ≡ list_text q vs ts
unfolding written list_text is_characters characters
written_list q vs name ts e f = let two : (tree_count ts == 2) ≡ true = and_right (bytes_eq name cell_name) (tree_count ts == 2) e in rw (f, two) refl

pub written_compound : (q : Bool) (vs : List ℕ) (name : List ℕ) (ts : Trees) → is_cell name ts ≡ false → written q vs (comp name ts) ≡ compound_text q name (arguments_text q vs ts)
unfolding written
written_compound q vs name ts e = rw (no_characters name ts e, false_right (not q), e) refl

pub cell_taken : (name : List ℕ) (k : ℕ) (ts : Trees) → k ≤ tree_count ts → is_cell name (take_trees k ts) ≡ (bytes_eq name cell_name && (k == 2))
cell_taken name k ts h = ap (λ n. bytes_eq name cell_name && (n == 2)) (count_taken k ts h)

rest_of_compound : (q : Bool) (vs : List ℕ) (name : List ℕ) (ts : Trees) → is_cell name ts ≡ false → rest_text q vs (comp name ts) ≡ tail_text (compound_text q name (arguments_text q vs ts))
unfolding written
rest_of_compound q vs name ts e = rw e refl

pub rest_of_tail : (q : Bool) (vs : List ℕ) (h : TermHead) (ts : Trees) → root_is_cell h ≡ false → root_is_nil h ≡ false → count_of h ≤ tree_count ts
    → rest_text q vs (built h ts) ≡ tail_text (written q vs (built h ts))
unfolding written
rest_of_tail q vs (TermHead.Var n) ts cell nil enough = refl
rest_of_tail q vs (TermHead.Int n) ts cell nil enough = refl
rest_of_tail q vs (TermHead.Atom name) ts cell nil enough = rw nil refl
rest_of_tail q vs (TermHead.Comp name count) ts cell nil enough =
    let other : is_cell name.now (take_trees count ts) ≡ false = cell_taken name.now count ts enough ∙ cell in
    rest_of_compound q vs name.now (take_trees count ts) other ∙ ap tail_text (sym (written_compound q vs name.now (take_trees count ts) other))

pub rest_of_nil : (q : Bool) (vs : List ℕ) (h : TermHead) (ts : Trees) → root_is_nil h ≡ true → rest_text q vs (built h ts) ≡ codes "]"
unfolding written
rest_of_nil q vs (TermHead.Var n) ts e = cc
rest_of_nil q vs (TermHead.Int n) ts e = cc
rest_of_nil q vs (TermHead.Atom name) ts e = rw e refl
rest_of_nil q vs (TermHead.Comp name count) ts e = cc

pub count_of_cell : (h : TermHead) → root_is_cell h ≡ true → count_of h ≡ 2
count_of_cell (TermHead.Var n) e = cc
count_of_cell (TermHead.Int n) e = cc
count_of_cell (TermHead.Atom name) e = cc
count_of_cell (TermHead.Comp name count) e = eqb-true count 2 (and_right _ _ e)

pub count_of_nil : (h : TermHead) → root_is_nil h ≡ true → count_of h ≡ 0
count_of_nil (TermHead.Var n) e = refl
count_of_nil (TermHead.Int n) e = refl
count_of_nil (TermHead.Atom name) e = refl
count_of_nil (TermHead.Comp name count) e = cc

pub rest_of_cell : (q : Bool) (vs : List ℕ) (h : TermHead) (ts : Trees) → root_is_cell h ≡ true → count_of h ≤ tree_count ts
    → rest_text q vs (built h ts) ≡ codes "," ++ items_text q vs (take_trees 2 ts)
unfolding written
rest_of_cell q vs (TermHead.Var n) ts e enough = cc
rest_of_cell q vs (TermHead.Int n) ts e enough = cc
rest_of_cell q vs (TermHead.Atom name) ts e enough = cc
rest_of_cell q vs (TermHead.Comp name count) ts e enough =
    let cell : is_cell name.now (take_trees count ts) ≡ true = cell_taken name.now count ts enough ∙ e in
    let two : count ≡ 2 = eqb-true count 2 (and_right _ _ e) in
    rw cell (ap (λ k. codes "," ++ items_text q vs (take_trees k ts)) two)
