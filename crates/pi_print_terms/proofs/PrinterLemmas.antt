-- What each step of the printer writes.
use Rattle.std.proofs.Common.{◌≡◌, ℕ, zero, suc, ◌-◌, ◌≤◌, ◌==◌, Bool, true, false, not, ◌&&◌, List, [], ◌∷◌, ◌++◌, refl, ap, sym, ◌∙◌, append_assoc, arith}
use Rattle.std.specs.Prelude.{codes, ℤ}
use Rattle.std.specs.Char.{encode_utf8}
use Rattle.std.specs.Str.{bytes_eq}
use Rattle.std.specs.Fmt.{signed_decimal}
use Rattle.std.proofs.lemmas.Bool.{eqb-true}
use Rattle.std.proofs.lemmas.List.{append-nil}
use Rattle.pi_terms.specs.Tree.{Tree, var, int, atom, comp, Trees, no_trees, tree, tree_count, cells_all, drop_trees}
use Rattle.pi_terms.specs.TermCells.{take_trees}
use Rattle.pi_syntax.specs.PrintAtom.{atom_text}
use Rattle.pi_syntax.specs.PrintTerm.{cell_name, cell_is_characters, cell_characters, compound_text, variable_text, written, items_text, rest_text, arguments_text, more_arguments_text}
use Rattle.pi_terms.specs.declared.term.TermHead.{TermHead}
use Rattle.pi_print_terms.specs.declared.printer.Task.{Task}
use Rattle.pi_print_terms.specs.declared.printer.Task.TheVariants.{Value, Rest, Arguments}
use Rattle.pi_print_terms.specs.Ahead.{built, behind, count_of}
use Rattle.pi_print_terms.specs.Roots.{root_is_cell, root_is_nil}
use Rattle.pi_print_terms.specs.Tasks.{task_text, tasks_text, list_text}
use Rattle.pi_print_terms.proofs.TaskLemmas.{tasks_text-push, tasks_text-none, value_text, items_tasks, arguments_tasks, written_list, written_compound, cell_taken, rest_of_tail, rest_of_nil, rest_of_cell, count_of_cell, count_of_nil, and_left, and_right}

-- ---- terms without arguments

pub leaf : (q : Bool) (vs : List ℕ) (h : TermHead) (ts : Trees) (ks : List Task) (old new text : List ℕ) → written q vs (built h ts) ≡ text → count_of h ≡ 0 → new ≡ old ++ text
    → new ++ tasks_text q vs ks ts ≡ old ++ (written q vs (built h ts) ++ tasks_text q vs ks (behind h ts))
leaf q vs h ts ks old new text is none e =
    ap (λ r. r ++ tasks_text q vs ks ts) (e ∙ ap (λ r. old ++ r) (sym is))
    ∙ (append_assoc old (written q vs (built h ts)) (tasks_text q vs ks ts)
    ∙ ap (λ k. old ++ (written q vs (built h ts) ++ tasks_text q vs ks (drop_trees k ts))) (sym none))

pub written_var : (q : Bool) (vs : List ℕ) (n : ℕ) → written q vs (var n) ≡ variable_text vs n
unfolding written
written_var q vs n = refl

pub written_int : (q : Bool) (vs : List ℕ) (n : ℤ) → written q vs (int n) ≡ signed_decimal n
unfolding written
written_int q vs n = refl

pub written_atom : (q : Bool) (vs : List ℕ) (name : List ℕ) → written q vs (atom name) ≡ atom_text q name
unfolding written
written_atom q vs name = refl

-- ---- a term

pub value_none : (q : Bool) (vs : List ℕ) (ks : List Task) (ts : Trees) → ts ≡ no_trees → tasks_text q vs ks ts ≡ task_text q vs Value ts ++ tasks_text q vs ks (drop_trees 1 ts)
unfolding task_text
value_none q vs ks ts e = rw e refl

pub value_some : (q : Bool) (vs : List ℕ) (ks : List Task) (ts : Trees) (t : Tree) (us : Trees) → ts ≡ tree t us
    → written q vs t ++ tasks_text q vs ks us ≡ task_text q vs Value ts ++ tasks_text q vs ks (drop_trees 1 ts)
unfolding task_text
value_some q vs ks ts t us e = rw e refl

-- ---- the rest of a list

pub rest_none : (q : Bool) (vs : List ℕ) (ks : List Task) (ts : Trees) → ts ≡ no_trees → tasks_text q vs ks ts ≡ task_text q vs Rest ts ++ tasks_text q vs ks (drop_trees 1 ts)
unfolding task_text
rest_none q vs ks ts e = rw e refl

rest_some : (q : Bool) (vs : List ℕ) (ks : List Task) (ts : Trees) (t : Tree) (us : Trees) → ts ≡ tree t us
    → rest_text q vs t ++ tasks_text q vs ks us ≡ task_text q vs Rest ts ++ tasks_text q vs ks (drop_trees 1 ts)
unfolding task_text
rest_some q vs ks ts t us e = rw e refl

pub rest_nil : (q : Bool) (vs : List ℕ) (ks : List Task) (h : TermHead) (ts us : Trees) (old new : List ℕ) → ts ≡ tree (built h us) (behind h us)
    → root_is_nil h ≡ true → new ≡ old ++ codes "]" → new ++ tasks_text q vs ks us ≡ old ++ (task_text q vs Rest ts ++ tasks_text q vs ks (drop_trees 1 ts))
rest_nil q vs ks h ts us old new e nil n =
    ap (λ r. r ++ tasks_text q vs ks us) n
    ∙ (append_assoc old (codes "]") (tasks_text q vs ks us)
    ∙ ap (λ r. old ++ r) (ap (λ r. r ++ tasks_text q vs ks us) (sym (rest_of_nil q vs h us nil))
    ∙ (ap (λ k. rest_text q vs (built h us) ++ tasks_text q vs ks (drop_trees k us)) (sym (count_of_nil h nil))
    ∙ rest_some q vs ks ts (built h us) (behind h us) e)))

pub rest_cell : (q : Bool) (vs : List ℕ) (ks : List Task) (h : TermHead) (ts us : Trees) (old new : List ℕ) → ts ≡ tree (built h us) (behind h us)
    → count_of h ≤ tree_count us → root_is_cell h ≡ true → new ≡ old ++ codes ","
    → new ++ tasks_text q vs ((ks ++ Rest ∷ []) ++ Value ∷ []) us ≡ old ++ (task_text q vs Rest ts ++ tasks_text q vs ks (drop_trees 1 ts))
rest_cell q vs ks h ts us old new e enough cell n =
    let two : count_of h ≡ 2 = count_of_cell h cell in
    let items : List ℕ = items_text q vs (take_trees 2 us) in
    let left : List ℕ = tasks_text q vs ks (drop_trees 2 us) in
    ap (λ r. r ++ tasks_text q vs ((ks ++ Rest ∷ []) ++ Value ∷ []) us) n
    ∙ (append_assoc old (codes ",") (tasks_text q vs ((ks ++ Rest ∷ []) ++ Value ∷ []) us)
    ∙ ap (λ r. old ++ r) (ap (λ r. codes "," ++ r) (items_tasks q vs ks us (omega arith))
    ∙ (sym (append_assoc (codes ",") items left)
    ∙ (ap (λ r. r ++ left) (sym (rest_of_cell q vs h us cell enough))
    ∙ (ap (λ k. rest_text q vs (built h us) ++ tasks_text q vs ks (drop_trees k us)) (sym two)
    ∙ rest_some q vs ks ts (built h us) (behind h us) e)))))

pub rest_tail : (q : Bool) (vs : List ℕ) (ks : List Task) (h : TermHead) (ts us : Trees) (old mid all : List ℕ) (close : ℕ) → ts ≡ tree (built h us) (behind h us)
    → count_of h ≤ tree_count us → root_is_cell h ≡ false → root_is_nil h ≡ false → mid ≡ old ++ codes "|" → encode_utf8 close ≡ codes "]"
    → all ≡ mid ++ (written q vs (built h us) ++ tasks_text q vs (ks ++ Arguments 0 close ∷ []) (behind h us))
    → all ≡ old ++ (task_text q vs Rest ts ++ tasks_text q vs ks (drop_trees 1 ts))
unfolding task_text written
rest_tail q vs ks h ts us old mid all close e enough cell nil m c a =
    let w : List ℕ = written q vs (built h us) in
    let left : List ℕ = tasks_text q vs ks (behind h us) in
    let k : tasks_text q vs (ks ++ Arguments 0 close ∷ []) (behind h us) ≡ codes "]" ++ left = tasks_text-push q vs ks (Arguments 0 close) (behind h us) ∙ ap (λ r. r ++ left) c in
    a ∙ (ap (λ r. mid ++ (w ++ r)) k
    ∙ (ap (λ r. r ++ (w ++ (codes "]" ++ left))) m
    ∙ (append_assoc old (codes "|") (w ++ (codes "]" ++ left))
    ∙ ap (λ r. old ++ r) (ap (λ r. codes "|" ++ r) (sym (append_assoc w (codes "]") left))
    ∙ (sym (append_assoc (codes "|") (w ++ codes "]") left)
    ∙ (ap (λ r. r ++ left) (sym (rest_of_tail q vs h us cell nil enough))
    ∙ rest_some q vs ks ts (built h us) (behind h us) e))))))

-- ---- arguments

pub arguments_zero : (q : Bool) (vs : List ℕ) (ks : List Task) (count close : ℕ) (ts : Trees) (old new : List ℕ) → count ≡ 0 → new ≡ old ++ encode_utf8 close
    → new ++ tasks_text q vs ks ts ≡ old ++ (task_text q vs (Arguments count close) ts ++ tasks_text q vs ks (drop_trees count ts))
unfolding task_text written
arguments_zero q vs ks count close ts old new z n =
    ap (λ r. r ++ tasks_text q vs ks ts) n
    ∙ (append_assoc old (encode_utf8 close) (tasks_text q vs ks ts)
    ∙ ap (λ k. old ++ (task_text q vs (Arguments k close) ts ++ tasks_text q vs ks (drop_trees k ts))) (sym z))

no_more : (q : Bool) (vs : List ℕ) (ks : List Task) (count close : ℕ) → encode_utf8 close ++ tasks_text q vs ks no_trees ≡ task_text q vs (Arguments count close) no_trees ++ tasks_text q vs ks (drop_trees count no_trees)
unfolding task_text written
no_more q vs ks zero close = refl
no_more q vs ks (suc count) close = refl

pub arguments_none : (q : Bool) (vs : List ℕ) (ks : List Task) (count close : ℕ) (ts : Trees) (old new : List ℕ) → ts ≡ no_trees → new ≡ old ++ encode_utf8 close
    → new ++ tasks_text q vs ks ts ≡ old ++ (task_text q vs (Arguments count close) ts ++ tasks_text q vs ks (drop_trees count ts))
arguments_none q vs ks count close ts old new e n =
    ap (λ r. r ++ tasks_text q vs ks ts) n
    ∙ (append_assoc old (encode_utf8 close) (tasks_text q vs ks ts)
    ∙ ap (λ r. old ++ r) (rw e (no_more q vs ks count close)))

one_more : (q : Bool) (vs : List ℕ) (ks : List Task) (k close : ℕ) (t : Tree) (us : Trees)
    → codes "," ++ (written q vs t ++ tasks_text q vs (ks ++ Arguments k close ∷ []) us)
    ≡ task_text q vs (Arguments (suc k) close) (tree t us) ++ tasks_text q vs ks (drop_trees (suc k) (tree t us))
unfolding task_text written
one_more q vs ks k close t us =
    let w : List ℕ = written q vs t in
    let more : List ℕ = more_arguments_text q vs (take_trees k us) in
    let left : List ℕ = tasks_text q vs ks (drop_trees k us) in
    ap (λ r. codes "," ++ (w ++ r)) (tasks_text-push q vs ks (Arguments k close) us)
    ∙ (ap (λ r. codes "," ++ r) (sym (append_assoc w (more ++ encode_utf8 close) left) ∙ ap (λ r. r ++ left) (sym (append_assoc w more (encode_utf8 close)))) ∙ refl)

one_less : (count : ℕ) → (count ≡ 0 → ⊥) → count ≡ suc (count - 1)
one_less count some = omega arith

pub arguments_some : (q : Bool) (vs : List ℕ) (ks : List Task) (count close : ℕ) (ts : Trees) (t : Tree) (us : Trees) (old mid all : List ℕ) → (count ≡ 0 → ⊥) → ts ≡ tree t us
    → mid ≡ old ++ codes "," → all ≡ mid ++ (written q vs t ++ tasks_text q vs (ks ++ Arguments (count - 1) close ∷ []) us)
    → all ≡ old ++ (task_text q vs (Arguments count close) ts ++ tasks_text q vs ks (drop_trees count ts))
arguments_some q vs ks count close ts t us old mid all some e m a =
    let rest : List ℕ = written q vs t ++ tasks_text q vs (ks ++ Arguments (count - 1) close ∷ []) us in
    a ∙ (ap (λ r. r ++ rest) m
    ∙ (append_assoc old (codes ",") rest
    ∙ ap (λ r. old ++ r) (one_more q vs ks (count - 1) close t us
    ∙ (ap (λ k. task_text q vs (Arguments k close) (tree t us) ++ tasks_text q vs ks (drop_trees k (tree t us))) (sym (one_less count some))
    ∙ ap (λ r. task_text q vs (Arguments count close) r ++ tasks_text q vs ks (drop_trees count r)) (sym e)))))

-- ---- compounds

pub structure_none : (q : Bool) (vs : List ℕ) (ks : List Task) (name : List ℕ) (count close : ℕ) (ts : Trees) (old mid new : List ℕ) → count ≡ 0
    → ((inner : List ℕ) → mid ++ (inner ++ encode_utf8 close) ≡ old ++ compound_text q name inner) → new ≡ mid ++ encode_utf8 close
    → new ++ tasks_text q vs ks ts ≡ old ++ (compound_text q name (arguments_text q vs (take_trees count ts)) ++ tasks_text q vs ks (drop_trees count ts))
unfolding written
structure_none q vs ks name count close ts old mid new z opened n =
    ap (λ r. r ++ tasks_text q vs ks ts) (n ∙ opened [])
    ∙ (append_assoc old (compound_text q name []) (tasks_text q vs ks ts)
    ∙ ap (λ k. old ++ (compound_text q name (arguments_text q vs (take_trees k ts)) ++ tasks_text q vs ks (drop_trees k ts))) (sym z))

pub structure_some : (q : Bool) (vs : List ℕ) (ks : List Task) (name : List ℕ) (count close : ℕ) (ts : Trees) (old mid : List ℕ) → (count ≡ 0 → ⊥)
    → ((inner : List ℕ) → mid ++ (inner ++ encode_utf8 close) ≡ old ++ compound_text q name inner)
    → mid ++ tasks_text q vs ((ks ++ Arguments (count - 1) close ∷ []) ++ Value ∷ []) ts
    ≡ old ++ (compound_text q name (arguments_text q vs (take_trees count ts)) ++ tasks_text q vs ks (drop_trees count ts))
structure_some q vs ks name count close ts old mid some opened =
    let k : ℕ = count - 1 in
    let inner : List ℕ = arguments_text q vs (take_trees (suc k) ts) in
    let left : List ℕ = tasks_text q vs ks (drop_trees (suc k) ts) in
    ap (λ r. mid ++ r) (arguments_tasks q vs ks k close ts)
    ∙ (sym (append_assoc mid (inner ++ encode_utf8 close) left)
    ∙ (ap (λ r. r ++ left) (opened inner)
    ∙ (append_assoc old (compound_text q name inner) left
    ∙ ap (λ j. old ++ (compound_text q name (arguments_text q vs (take_trees j ts)) ++ tasks_text q vs ks (drop_trees j ts))) (sym (one_less count some)))))

-- ---- lists

list_is_characters : (q : Bool) (vs : List ℕ) (ts : Trees) → q ≡ false → cell_is_characters ts ≡ true → list_text q vs ts ≡ cell_characters ts
unfolding list_text
list_is_characters q vs ts e f = rw (e, f) refl

list_is_items : (q : Bool) (vs : List ℕ) (ts : Trees) → (not q && cell_is_characters ts) ≡ false → list_text q vs ts ≡ codes "[" ++ items_text q vs ts
unfolding list_text
list_is_items q vs ts e = rw e refl

pub list_characters : (q : Bool) (vs : List ℕ) (ks : List Task) (ts us : Trees) (old new text : List ℕ) → q ≡ false → cell_is_characters (take_trees 2 ts) ≡ true
    → text ≡ cell_characters (take_trees 2 ts) → us ≡ drop_trees 2 ts → new ≡ old ++ text
    → new ++ tasks_text q vs ks us ≡ old ++ (list_text q vs (take_trees 2 ts) ++ tasks_text q vs ks (drop_trees 2 ts))
list_characters q vs ks ts us old new text plain is t u n =
    ap (λ r. r ++ tasks_text q vs ks us) (n ∙ ap (λ r. old ++ r) (t ∙ sym (list_is_characters q vs (take_trees 2 ts) plain is)))
    ∙ (append_assoc old (list_text q vs (take_trees 2 ts)) (tasks_text q vs ks us)
    ∙ ap (λ r. old ++ (list_text q vs (take_trees 2 ts) ++ tasks_text q vs ks r)) u)

pub list_items : (q : Bool) (vs : List ℕ) (ks : List Task) (ts : Trees) (old new : List ℕ) → 2 ≤ tree_count ts → (not q && cell_is_characters (take_trees 2 ts)) ≡ false
    → new ≡ old ++ codes "["
    → new ++ tasks_text q vs ((ks ++ Rest ∷ []) ++ Value ∷ []) ts ≡ old ++ (list_text q vs (take_trees 2 ts) ++ tasks_text q vs ks (drop_trees 2 ts))
list_items q vs ks ts old new enough e n =
    let items : List ℕ = items_text q vs (take_trees 2 ts) in
    let left : List ℕ = tasks_text q vs ks (drop_trees 2 ts) in
    ap (λ r. r ++ tasks_text q vs ((ks ++ Rest ∷ []) ++ Value ∷ []) ts) n
    ∙ (append_assoc old (codes "[") (tasks_text q vs ((ks ++ Rest ∷ []) ++ Value ∷ []) ts)
    ∙ ap (λ r. old ++ r) (ap (λ r. codes "[" ++ r) (items_tasks q vs ks ts enough)
    ∙ (sym (append_assoc (codes "[") items left) ∙ ap (λ r. r ++ left) (sym (list_is_items q vs (take_trees 2 ts) e)))))

pub compound_list : (q : Bool) (vs : List ℕ) (ks : List Task) (name : List ℕ) (count : ℕ) (ts : Trees) (old all : List ℕ) → count ≤ tree_count ts
    → (bytes_eq name cell_name && (count == 2)) ≡ true
    → all ≡ old ++ (list_text q vs (take_trees 2 ts) ++ tasks_text q vs ks (drop_trees 2 ts))
    → all ≡ old ++ (written q vs (comp name (take_trees count ts)) ++ tasks_text q vs ks (drop_trees count ts))
compound_list q vs ks name count ts old all enough e a =
    let two : count ≡ 2 = eqb-true count 2 (and_right (bytes_eq name cell_name) (count == 2) e) in
    let cell : bytes_eq name cell_name ≡ true = and_left (bytes_eq name cell_name) (count == 2) e in
    a ∙ (ap (λ k. old ++ (list_text q vs (take_trees k ts) ++ tasks_text q vs ks (drop_trees k ts))) (sym two)
    ∙ ap (λ r. old ++ (r ++ tasks_text q vs ks (drop_trees count ts))) (sym (written_list q vs name (take_trees count ts) (cell_taken name count ts enough ∙ e) cell)))

pub compound_structure : (q : Bool) (vs : List ℕ) (ks : List Task) (name : List ℕ) (count : ℕ) (ts : Trees) (old all : List ℕ) → count ≤ tree_count ts
    → (bytes_eq name cell_name && (count == 2)) ≡ false
    → all ≡ old ++ (compound_text q name (arguments_text q vs (take_trees count ts)) ++ tasks_text q vs ks (drop_trees count ts))
    → all ≡ old ++ (written q vs (comp name (take_trees count ts)) ++ tasks_text q vs ks (drop_trees count ts))
compound_structure q vs ks name count ts old all enough e a =
    a ∙ ap (λ r. old ++ (r ++ tasks_text q vs ks (drop_trees count ts))) (sym (written_compound q vs name (take_trees count ts) (cell_taken name count ts enough ∙ e)))

pub dropped-le : (k : ℕ) (ts : Trees) → cells_all (drop_trees k ts) ≤ cells_all ts
unfolding cells_all
dropped-le zero ts = omega arith
dropped-le (suc k) no_trees = omega arith
dropped-le (suc k) (tree t ts) = omega (arith, dropped-le k ts)

-- ---- the whole

pub first_task : (q : Bool) (vs : List ℕ) (t : Tree) → tasks_text q vs ([] ++ Value ∷ []) (tree t no_trees) ≡ written q vs t
first_task q vs t = tasks_text-push q vs [] Value (tree t no_trees) ∙ (ap (λ r. r ++ tasks_text q vs [] no_trees) (value_text q vs t no_trees) ∙ (ap (λ r. written q vs t ++ r) (tasks_text-none q vs no_trees) ∙ append-nil (written q vs t)))
