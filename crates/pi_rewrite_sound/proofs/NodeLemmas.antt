-- A test of an expression's node, by tests of its parts: over any test, and any kind of node.
use Rattle.std.proofs.Common.{◌≡◌, ℕ, Bool, ◌&&◌, List, sym, ◌∙◌, ap}
use Rattle.pi_syntax.specs.ExpTree.{ExpTree, ExpTrees, exp_tree}
use Rattle.pi_syntax.specs.ExpLists.{exps_of}
use Rattle.pi_syntax.specs.declared.exp.Exp.{Exp}

-- what is left of a lemma: the node's test at its tree
to-tree : (test : ExpTree → Bool) (x : Exp) (t : ExpTree) (b r : Bool) → test t ≡ b → exp_tree x ≡ t → r ≡ b → r ≡ test (exp_tree x)
to-tree test x t b r opens tree is = is ∙ (sym opens ∙ ap test (sym tree))

-- over a list
pub of-list : {A X : Type 0} (shown : List A → X) (test : ExpTree → Bool) (all : X → Bool) (node : X → ExpTree) → ((ts : X) → test (node ts) ≡ all ts) → (x : Exp) (items now : List A) (r : Bool) → exp_tree x ≡ node (shown items) → now ≡ items → r ≡ all (shown now) → r ≡ test (exp_tree x)
of-list shown test all node opens x items now r tree same is =
    to-tree test x (node (shown items)) (all (shown items)) r (opens (shown items)) tree (is ∙ ap (λ xs. all (shown xs)) same)

-- over a name and a list
pub of-call : (test : ExpTree → Bool) (all : List ℕ → ExpTrees → Bool) (node : List ℕ → ExpTrees → ExpTree) → ((n : List ℕ) (ts : ExpTrees) → test (node n ts) ≡ all n ts) → (x : Exp) (name text : List ℕ) (items now : List Exp) (r : Bool) → exp_tree x ≡ node name (exps_of items) → text ≡ name → now ≡ items → r ≡ all text (exps_of now) → r ≡ test (exp_tree x)
of-call test all node opens x name text items now r tree named same is =
    of-list exps_of test (all name) (node name) (opens name) x items now r tree same (is ∙ ap (λ n. all n (exps_of now)) named)

-- over a list and what stands behind it
pub of-list-and : {A X : Type 0} (shown : List A → X) (test : ExpTree → Bool) (all : X → Bool) (one : ExpTree → Bool) (node : X → ExpTree → ExpTree) → ((ts : X) (t : ExpTree) → test (node ts t) ≡ (all ts && one t)) → (x last y : Exp) (items now : List A) (r s : Bool) → exp_tree x ≡ node (shown items) (exp_tree last) → now ≡ items → y ≡ last → r ≡ all (shown now) → s ≡ one (exp_tree y) → (r && s) ≡ test (exp_tree x)
of-list-and shown test all one node opens x last y items now r s tree same behind is so =
    to-tree test x (node (shown items) (exp_tree last)) (all (shown items) && one (exp_tree last)) (r && s) (opens (shown items) (exp_tree last)) tree
    (ap (λ b. b && s) (is ∙ ap (λ xs. all (shown xs)) same) ∙ ap (λ b. all (shown items) && b) (so ∙ ap (λ z. one (exp_tree z)) behind))

-- over what stands in front of a list, with a second test of the list
pub of-and-list : (test one : ExpTree → Bool) (all some : ExpTrees → Bool) (node : ExpTree → ExpTrees → ExpTree) → ((t : ExpTree) (ts : ExpTrees) → test (node t ts) ≡ (one t && (all ts && some ts))) → (x first y : Exp) (items now here : List Exp) (r s u : Bool) → exp_tree x ≡ node (exp_tree first) (exps_of items) → y ≡ first → now ≡ items → here ≡ items → r ≡ one (exp_tree y) → s ≡ all (exps_of now) → u ≡ some (exps_of here) → (r && (s && u)) ≡ test (exp_tree x)
of-and-list test one all some node opens x first y items now here r s u tree before same again is so too =
    to-tree test x (node (exp_tree first) (exps_of items)) (one (exp_tree first) && (all (exps_of items) && some (exps_of items))) (r && (s && u)) (opens (exp_tree first) (exps_of items)) tree
    (ap (λ b. b && (s && u)) (is ∙ ap (λ z. one (exp_tree z)) before)
    ∙ (ap (λ b. one (exp_tree first) && (b && u)) (so ∙ ap (λ xs. all (exps_of xs)) same)
    ∙ ap (λ b. one (exp_tree first) && (all (exps_of items) && b)) (too ∙ ap (λ xs. some (exps_of xs)) again)))

-- over two expressions, and three
pub of-two : (test one : ExpTree → Bool) (node : ExpTree → ExpTree → ExpTree) → ((t u : ExpTree) → test (node t u) ≡ (one t && one u)) → (x a b y z : Exp) (r s : Bool) → exp_tree x ≡ node (exp_tree a) (exp_tree b) → y ≡ a → z ≡ b → r ≡ one (exp_tree y) → s ≡ one (exp_tree z) → (r && s) ≡ test (exp_tree x)
of-two test one node opens x a b y z r s tree same next is so =
    to-tree test x (node (exp_tree a) (exp_tree b)) (one (exp_tree a) && one (exp_tree b)) (r && s) (opens (exp_tree a) (exp_tree b)) tree
    (ap (λ c. c && s) (is ∙ ap (λ w. one (exp_tree w)) same) ∙ ap (λ c. one (exp_tree a) && c) (so ∙ ap (λ w. one (exp_tree w)) next))

pub of-three : (test one : ExpTree → Bool) (node : ExpTree → ExpTree → ExpTree → ExpTree) → ((t u v : ExpTree) → test (node t u v) ≡ (one t && (one u && one v))) → (x a b d y z w : Exp) (r s q : Bool) → exp_tree x ≡ node (exp_tree a) (exp_tree b) (exp_tree d) → y ≡ a → z ≡ b → w ≡ d → r ≡ one (exp_tree y) → s ≡ one (exp_tree z) → q ≡ one (exp_tree w) → (r && (s && q)) ≡ test (exp_tree x)
of-three test one node opens x a b d y z w r s q tree same next last is so too =
    to-tree test x (node (exp_tree a) (exp_tree b) (exp_tree d)) (one (exp_tree a) && (one (exp_tree b) && one (exp_tree d))) (r && (s && q)) (opens (exp_tree a) (exp_tree b) (exp_tree d)) tree
    (ap (λ c. c && (s && q)) (is ∙ ap (λ v. one (exp_tree v)) same)
    ∙ (ap (λ c. one (exp_tree a) && (c && q)) (so ∙ ap (λ v. one (exp_tree v)) next)
    ∙ ap (λ c. one (exp_tree a) && (one (exp_tree b) && c)) (too ∙ ap (λ v. one (exp_tree v)) last)))
