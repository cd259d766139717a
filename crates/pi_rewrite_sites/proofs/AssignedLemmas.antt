-- The names that goals assign, one after the other.
use Rattle.std.proofs.Common.{◌≡◌, ℕ, ◌+◌, ◌<◌, ◌≤◌, false, true, List, [], ◌∷◌, ◌++◌, length, get_or, drop, refl, sym, ◌∙◌, ap, append_assoc, arith}
use Rattle.std.specs.Prelude.{codes, None, ◌==◌}
use Rattle.std.specs.Borrow.{Bor}
use Rattle.std.specs.Str.{bytes_eq}
use Rattle.std.proofs.lemmas.Bool.{cond-true, cond-false, eqb-true}
use Rattle.std.proofs.lemmas.List.{append-nil, drop_all}
use Rattle.pi_syntax.specs.ExpTree.{ExpTree, ExpTrees, call, var, exp, one_exp, exp_tree}
use Rattle.pi_syntax.specs.ExpLists.{exps_of}
use Rattle.pi_syntax.specs.declared.exp.Exp.{Exp}
use Rattle.pi_meaning.specs.OverNames.Texts.{Names, assigned, assigned_all, assigned_in_branches, patterns_of, without, the_name, variable_first}
use Rattle.pi_rewrite_slots.specs.Branches.{branches_in}
use Rattle.pi_rewrite_slots.specs.Indexed.{names_in}
use Rattle.pi_rewrite_slots.proofs.FlatLemmas.{drop-next}
use Rattle.pi_rewrite_sites.proofs.NameLemmas.{names-append, put-first, put-nothing}

-- what is put so far, and the names that those assign that are left
abbrev pub AllTo : Names → List Exp → ℕ → Names → Type 0
AllTo old es i now = now ++ assigned_all (exps_of (drop i es)) ≡ old ++ assigned_all (exps_of es)

pub all-more : (old : Names) (es : List Exp) (i : ℕ) (x : Exp) (now new : Names) → i < length es → x ≡ get_or es i x → new ≡ now ++ assigned (exp_tree x) → AllTo old es i now → AllTo old es (i + 1) new
unfolding assigned
all-more old es i x now new h is put so =
    let rest : Names = assigned_all (exps_of (drop (i + 1) es)) in
    ap (λ ns. ns ++ rest) put ∙ (append_assoc now (assigned (exp_tree x)) rest ∙ (ap (λ ns. now ++ ns) (sym (ap (λ xs. assigned_all (exps_of xs)) (drop-next es i x h is))) ∙ so))

pub all-end : (old : Names) (es : List Exp) (i : ℕ) (now : Names) → length es ≤ i → AllTo old es i now → now ≡ old ++ assigned_all (exps_of es)
unfolding assigned
all-end old es i now h so = sym (append-nil now) ∙ (ap (λ ns. now ++ ns) (sym (ap (λ xs. assigned_all (exps_of xs)) (drop_all i es h))) ∙ so)

abbrev pub BranchesTo : Names → List (Exp × Exp) → ℕ → Names → Type 0
BranchesTo old bs i now = now ++ assigned_in_branches (branches_in (drop i bs)) ≡ old ++ assigned_in_branches (branches_in bs)

pub branches-more : (old : Names) (bs : List (Exp × Exp)) (i : ℕ) (x : Exp × Exp) (now new : Names) → i < length bs → x ≡ get_or bs i x → new ≡ now ++ assigned (exp_tree x.1) → BranchesTo old bs i now → BranchesTo old bs (i + 1) new
unfolding assigned
branches-more old bs i x now new h is put so =
    let rest : Names = assigned_in_branches (branches_in (drop (i + 1) bs)) in
    ap (λ ns. ns ++ rest) put ∙ (append_assoc now (assigned (exp_tree x.1)) rest ∙ (ap (λ ns. now ++ ns) (sym (ap (λ xs. assigned_in_branches (branches_in xs)) (drop-next bs i x h is))) ∙ so))

pub branches-end : (old : Names) (bs : List (Exp × Exp)) (i : ℕ) (now : Names) → length bs ≤ i → BranchesTo old bs i now → now ≡ old ++ assigned_in_branches (branches_in bs)
unfolding assigned
branches-end old bs i now h so = sym (append-nil now) ∙ (ap (λ ns. now ++ ns) (sym (ap (λ xs. assigned_in_branches (branches_in xs)) (drop_all i bs h))) ∙ so)

-- ---- a turn of iterators

pub turn-assigned : (old new outer : List (Bor (List ℕ))) (inner start patterns : Names) (one two : List (Bor (List ℕ))) (us : ExpTrees) → start ≡ [] → patterns ≡ start ++ patterns_of us → names_in one ≡ inner → names_in two ≡ patterns →
    names_in outer ≡ without (names_in one) (names_in two) → new ≡ old ++ outer → names_in new ≡ names_in old ++ without inner (patterns_of us)
turn-assigned old new outer inner start patterns one two us begin more first second less all =
    ap names_in all ∙ (names-append old outer ∙ ap (λ ns. names_in old ++ ns)
    (less ∙ (ap (λ ns. without ns (names_in two)) first ∙ ap (λ ns. without inner ns) (second ∙ (more ∙ ap (λ ns. ns ++ patterns_of us) begin)))))

-- ---- calls

pub call-assigns : (name : List ℕ) (es : ExpTrees) (old new : Names) → bytes_eq name (codes ":=") ≡ true → new ≡ old ++ the_name (variable_first es) → new ≡ old ++ assigned (call name es)
unfolding assigned
call-assigns name es old new is put = put-first old new (assigned (call name es)) (the_name (variable_first es)) (cond-true (bytes_eq name (codes ":=")) (the_name (variable_first es)) [] is) put

pub call-leaves : (name : List ℕ) (es : ExpTrees) (old : Names) → bytes_eq name (codes ":=") ≡ false → old ≡ old ++ assigned (call name es)
unfolding assigned
call-leaves name es old not = put-nothing old (assigned (call name es)) (cond-false (bytes_eq name (codes ":=")) (the_name (variable_first es)) [] not)

first-only : (e : ExpTree) (es : ExpTrees) → variable_first (exp e es) ≡ variable_first (one_exp e)
first-only (var name) es = refl
first-only (ExpTree.int n) es = refl
first-only (ExpTree.atom name) es = refl
first-only (ExpTree.str text) es = refl
first-only (ExpTree.list fs) es = refl
first-only (ExpTree.list_onto fs f) es = refl
first-only (ExpTree.array fs) es = refl
first-only (call name fs) es = refl
first-only (ExpTree.quote f) es = refl
first-only (ExpTree.index f fs) es = refl
first-only (ExpTree.range f g) es = refl
first-only (ExpTree.range_by f g k) es = refl
first-only (ExpTree.at name f) es = refl
first-only (ExpTree.collect is_array f fs) es = refl
first-only (ExpTree.and fs) es = refl
first-only (ExpTree.or fs) es = refl
first-only (ExpTree.arrow f g) es = refl
first-only (ExpTree.if_then bs) es = refl
first-only (ExpTree.if_else bs f) es = refl
first-only (ExpTree.foreach fs f) es = refl
first-only (ExpTree.while_do f g) es = refl
first-only (ExpTree.do_while f g) es = refl

pub first-of : (es : List Exp) (x : Exp) → (length es == 0) ≡ false → x ≡ get_or es 0 x → variable_first (exps_of es) ≡ variable_first (one_exp (exp_tree x))
first-of [] x some is = absurd (apart some)
  where
    apart : true ≡ false → ⊥
    apart h = cc
first-of (e ∷ es) x some is = first-only (exp_tree e) (exps_of es) ∙ ap (λ y. variable_first (one_exp (exp_tree y))) (sym is)

pub first-none : (es : List Exp) → (length es == 0) ≡ true → variable_first (exps_of es) ≡ None
first-none [] none = refl
first-none (e ∷ es) none =
    let empty : length (e ∷ es) ≡ 0 = eqb-true (length (e ∷ es)) 0 none in
    absurd (omega (arith, empty))
