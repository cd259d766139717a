-- The names of an expression by its kind.
use Rattle.std.proofs.Common.{◌≡◌, ℕ, ◌+◌, ◌<◌, ◌≤◌, Bool, true, false, List, [], ◌∷◌, ◌++◌, length, get_or, drop, refl, sym, ◌∙◌, ap, append_assoc}
use Rattle.std.proofs.lemmas.List.{append-nil, drop_all}
use Rattle.pi_syntax.specs.ExpTree.{ExpTree, ExpTrees, ExpBranches, no_exps, exp, no_branches, branch, exp_tree}
use Rattle.pi_syntax.specs.ExpLists.{exps_of}
use Rattle.pi_syntax.specs.declared.exp.Exp.{Exp}
use Rattle.pi_meaning.specs.OverNames.Texts.{Names, places, occurring}
use Rattle.pi_rewrite_slots.specs.Branches.{branches_in}
use Rattle.pi_rewrite_slots.proofs.FlatLemmas.{drop-next}
use Rattle.pi_rewrite_sites.specs.TextNames.{names_of, names_of_all, names_of_branches}

pub of-var : (b : Bool) (name : List ℕ) → names_of b (ExpTree.var name) ≡ name ∷ []
unfolding names_of places occurring
of-var true name = refl
of-var false name = refl

pub of-list : (b : Bool) (es : ExpTrees) → names_of b (ExpTree.list es) ≡ names_of_all b es
unfolding names_of names_of_all places occurring
of-list true es = refl
of-list false es = refl

pub of-onto : (b : Bool) (es : ExpTrees) (e : ExpTree) → names_of b (ExpTree.list_onto es e) ≡ names_of_all b es ++ names_of b e
unfolding names_of names_of_all places occurring
of-onto true es e = refl
of-onto false es e = refl

pub of-array : (b : Bool) (es : ExpTrees) → names_of b (ExpTree.array es) ≡ names_of_all b es
unfolding names_of names_of_all places occurring
of-array true es = refl
of-array false es = refl

pub of-call : (b : Bool) (name : List ℕ) (es : ExpTrees) → names_of b (ExpTree.call name es) ≡ names_of_all b es
unfolding names_of names_of_all places occurring
of-call true name es = refl
of-call false name es = refl

pub of-quote : (b : Bool) (e : ExpTree) → names_of b (ExpTree.quote e) ≡ names_of b e
unfolding names_of places occurring
of-quote true e = refl
of-quote false e = refl

pub of-index : (b : Bool) (e : ExpTree) (es : ExpTrees) → names_of b (ExpTree.index e es) ≡ names_of b e ++ names_of_all b es
unfolding names_of names_of_all places occurring
of-index true e es = refl
of-index false e es = refl

pub of-range : (b : Bool) (first last : ExpTree) → names_of b (ExpTree.range first last) ≡ names_of b first ++ names_of b last
unfolding names_of places occurring
of-range true first last = refl
of-range false first last = refl

pub of-range_by : (b : Bool) (first step last : ExpTree) → names_of b (ExpTree.range_by first step last) ≡ names_of b first ++ (names_of b step ++ names_of b last)
unfolding names_of places occurring
of-range_by true first step last = refl
of-range_by false first step last = refl

pub of-at : (b : Bool) (name : List ℕ) (e : ExpTree) → names_of b (ExpTree.at name e) ≡ (name ∷ []) ++ names_of b e
unfolding names_of places occurring
of-at true name e = refl
of-at false name e = refl

pub of-and : (b : Bool) (es : ExpTrees) → names_of b (ExpTree.and es) ≡ names_of_all b es
unfolding names_of names_of_all places occurring
of-and true es = refl
of-and false es = refl

pub of-or : (b : Bool) (es : ExpTrees) → names_of b (ExpTree.or es) ≡ names_of_all b es
unfolding names_of names_of_all places occurring
of-or true es = refl
of-or false es = refl

pub of-arrow : (b : Bool) (c e : ExpTree) → names_of b (ExpTree.arrow c e) ≡ names_of b c ++ names_of b e
unfolding names_of places occurring
of-arrow true c e = refl
of-arrow false c e = refl

pub of-if_then : (b : Bool) (bs : ExpBranches) → names_of b (ExpTree.if_then bs) ≡ names_of_branches b bs
unfolding names_of names_of_branches places occurring
of-if_then true bs = refl
of-if_then false bs = refl

pub of-if_else : (b : Bool) (bs : ExpBranches) (e : ExpTree) → names_of b (ExpTree.if_else bs e) ≡ names_of_branches b bs ++ names_of b e
unfolding names_of names_of_branches places occurring
of-if_else true bs e = refl
of-if_else false bs e = refl

-- ---- loops, whose names are counted or not

bool-apart : false ≡ true → ⊥
bool-apart h = cc

pub of-collect : (b : Bool) (is_array : Bool) (e : ExpTree) (es : ExpTrees) → b ≡ true → names_of b (ExpTree.collect is_array e es) ≡ names_of_all b es ++ names_of b e
unfolding names_of names_of_all places occurring
of-collect true is_array e es h = refl
of-collect false is_array e es h = absurd (bool-apart h)

pub no-collect : (b : Bool) (is_array : Bool) (e : ExpTree) (es : ExpTrees) → b ≡ false → names_of b (ExpTree.collect is_array e es) ≡ []
unfolding names_of places
no-collect true is_array e es h = absurd (bool-apart (sym h))
no-collect false is_array e es h = refl

pub of-foreach : (b : Bool) (es : ExpTrees) (e : ExpTree) → b ≡ true → names_of b (ExpTree.foreach es e) ≡ names_of_all b es ++ names_of b e
unfolding names_of names_of_all places occurring
of-foreach true es e h = refl
of-foreach false es e h = absurd (bool-apart h)

pub no-foreach : (b : Bool) (es : ExpTrees) (e : ExpTree) → b ≡ false → names_of b (ExpTree.foreach es e) ≡ []
unfolding names_of places
no-foreach true es e h = absurd (bool-apart (sym h))
no-foreach false es e h = refl

pub of-while : (b : Bool) (c e : ExpTree) → b ≡ true → names_of b (ExpTree.while_do c e) ≡ names_of b c ++ names_of b e
unfolding names_of places occurring
of-while true c e h = refl
of-while false c e h = absurd (bool-apart h)

pub no-while : (b : Bool) (c e : ExpTree) → b ≡ false → names_of b (ExpTree.while_do c e) ≡ []
unfolding names_of places
no-while true c e h = absurd (bool-apart (sym h))
no-while false c e h = refl

pub of-do : (b : Bool) (e c : ExpTree) → b ≡ true → names_of b (ExpTree.do_while e c) ≡ names_of b e ++ names_of b c
unfolding names_of places occurring
of-do true e c h = refl
of-do false e c h = absurd (bool-apart h)

pub no-do : (b : Bool) (e c : ExpTree) → b ≡ false → names_of b (ExpTree.do_while e c) ≡ []
unfolding names_of places
no-do true e c h = absurd (bool-apart (sym h))
no-do false e c h = refl

-- ---- one after the other

all-exp : (b : Bool) (e : ExpTree) (es : ExpTrees) → names_of_all b (exp e es) ≡ names_of b e ++ names_of_all b es
unfolding names_of names_of_all places occurring
all-exp true e es = refl
all-exp false e es = refl

all-none : (b : Bool) → names_of_all b no_exps ≡ []
unfolding names_of_all places occurring
all-none true = refl
all-none false = refl

branches-one : (b : Bool) (c e : ExpTree) (bs : ExpBranches) → names_of_branches b (branch c e bs) ≡ names_of b c ++ (names_of b e ++ names_of_branches b bs)
unfolding names_of names_of_branches places occurring
branches-one true c e bs = refl
branches-one false c e bs = refl

branches-none : (b : Bool) → names_of_branches b no_branches ≡ []
unfolding names_of_branches places occurring
branches-none true = refl
branches-none false = refl

-- what is put so far, and the names of those that are left
abbrev pub AllTo : Bool → Names → List Exp → ℕ → Names → Type 0
AllTo b old es i now = now ++ names_of_all b (exps_of (drop i es)) ≡ old ++ names_of_all b (exps_of es)

pub all-more : (b : Bool) (old : Names) (es : List Exp) (i : ℕ) (x : Exp) (now new : Names) → i < length es → x ≡ get_or es i x → new ≡ now ++ names_of b (exp_tree x) → AllTo b old es i now → AllTo b old es (i + 1) new
all-more b old es i x now new h is put so =
    let rest : Names = names_of_all b (exps_of (drop (i + 1) es)) in
    ap (λ ns. ns ++ rest) put ∙ (append_assoc now (names_of b (exp_tree x)) rest
    ∙ (ap (λ ns. now ++ ns) (sym (ap (λ xs. names_of_all b (exps_of xs)) (drop-next es i x h is) ∙ all-exp b (exp_tree x) (exps_of (drop (i + 1) es)))) ∙ so))

pub all-end : (b : Bool) (old : Names) (es : List Exp) (i : ℕ) (now : Names) → length es ≤ i → AllTo b old es i now → now ≡ old ++ names_of_all b (exps_of es)
all-end b old es i now h so = sym (append-nil now) ∙ (ap (λ ns. now ++ ns) (sym (ap (λ xs. names_of_all b (exps_of xs)) (drop_all i es h) ∙ all-none b)) ∙ so)

abbrev pub BranchesTo : Bool → Names → List (Exp × Exp) → ℕ → Names → Type 0
BranchesTo b old bs i now = now ++ names_of_branches b (branches_in (drop i bs)) ≡ old ++ names_of_branches b (branches_in bs)

pub branches-more : (b : Bool) (old : Names) (bs : List (Exp × Exp)) (i : ℕ) (x : Exp × Exp) (now one new : Names) → i < length bs → x ≡ get_or bs i x → one ≡ now ++ names_of b (exp_tree x.0) → new ≡ one ++ names_of b (exp_tree x.1) → BranchesTo b old bs i now →
    BranchesTo b old bs (i + 1) new
branches-more b old bs i x now one new h is first second so =
    let rest : Names = names_of_branches b (branches_in (drop (i + 1) bs)) in
    let c : Names = names_of b (exp_tree x.0) in
    let e : Names = names_of b (exp_tree x.1) in
    ap (λ ns. ns ++ rest) second ∙ (append_assoc one e rest ∙ (ap (λ ns. ns ++ (e ++ rest)) first ∙ (append_assoc now c (e ++ rest)
    ∙ (ap (λ ns. now ++ ns) (sym (ap (λ xs. names_of_branches b (branches_in xs)) (drop-next bs i x h is) ∙ branches-one b (exp_tree x.0) (exp_tree x.1) (branches_in (drop (i + 1) bs)))) ∙ so))))

pub branches-end : (b : Bool) (old : Names) (bs : List (Exp × Exp)) (i : ℕ) (now : Names) → length bs ≤ i → BranchesTo b old bs i now → now ≡ old ++ names_of_branches b (branches_in bs)
branches-end b old bs i now h so = sym (append-nil now) ∙ (ap (λ ns. now ++ ns) (sym (ap (λ xs. names_of_branches b (branches_in xs)) (drop_all i bs h) ∙ branches-none b)) ∙ so)
