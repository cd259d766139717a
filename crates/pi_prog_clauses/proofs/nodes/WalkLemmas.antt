-- What a walk has ahead of it.
use Rattle.std.proofs.Common.{◌≡◌, ℕ, suc, zero, ◌+◌, ◌-◌, ◌<◌, ◌≤◌, List, [], ◌∷◌, ◌++◌, length, get_or, drop, refl, ap, sym, subst, ◌∙◌, append_assoc, add-one, arith}
use Rattle.std.specs.Prelude.{Result, Ok, Err, OnOk}
use Rattle.std.proofs.Math.Seq.{drop-cons}
use Rattle.std.proofs.lemmas.List.{append-nil}
use Rattle.pi_syntax.proofs.ExpListLemmas.{exp_count-exps_of}
use Rattle.pi_syntax.specs.ExpLists.{exps_of}
use Rattle.pi_syntax.specs.ExpTree.{ExpTree, ExpTrees, no_exps, exp, exp_tree}
use Rattle.pi_syntax.specs.Signature.{exp_count}
use Rattle.pi_syntax.specs.declared.exp.Exp.{Exp}
use Rattle.pi_prog_clauses.specs.Places.{Place, argument, Placed, placed_at, below, placed, all_placed, arguments_placed}
use Rattle.pi_prog_clauses.specs.Walk.{shown_place, side_place, last_placed, side_placed, all_of_row, stacked}
use Rattle.pi_prog_clauses.specs.declared.nodes.place.Place.{Place as CodePlace}
use Rattle.pi_prog_clauses.specs.declared.nodes.row.Row.{Row}
use Rattle.pi_prog_clauses.specs.declared.nodes.row.Side.{Side}
use Rattle.pi_prog_clauses.specs.declared.nodes.row.Side.TheVariants as side

-- a function that ends with a call ends without a fault where the call does
pub once_ok : {T E P Q : Type 0} (r : Result T E) → OnOk r P → (P → Q) → OnOk r Q
once_ok (Ok x) h f = f h
once_ok (Err e) h f = tt

-- what two steps come to, of which each is taken
abbrev both_of : {T E : Type 0} → Result T E → Result T E → Result T E
both_of (Ok x) s = s
both_of (Err e) s = Err e

pub twice_ok : {T E P Q R : Type 0} (r s both : Result T E) → both ≡ both_of r s → OnOk r P → OnOk s Q → (P → Q → R) → OnOk both R
twice_ok {T} {E} {P} {Q} {R} (Ok x) s both is h k f = subst (λ (t : Result T E). OnOk t R) (sym is) (once_ok s k (f h))
twice_ok {T} {E} {P} {Q} {R} (Err e) s both is h k f = subst (λ (t : Result T E). OnOk t R) (sym is) tt

pub thrice_ok : {T E P Q R S : Type 0} (r s t two all : Result T E) → two ≡ both_of r s → all ≡ both_of two t → OnOk r P → OnOk s Q → OnOk t R → (P → Q → R → S) → OnOk all S
thrice_ok r s t two all is also h k l f = twice_ok two t all also (twice_ok r s two is h k f) l (λ g. g)

pub front : {A : Type 0} (xs : List A) (i : ℕ) (x : A) → i < length xs → x ≡ get_or xs i x → drop i xs ≡ x ∷ drop (i + 1) xs
front xs i x h e =
    drop-cons xs i x h ∙ (ap (λ y. y ∷ drop (suc i) xs) (sym e) ∙ ap (λ k. x ∷ drop k xs) (sym (add-one i)))

pub past : {A : Type 0} (i : ℕ) (xs : List A) → length xs ≤ i → drop i xs ≡ []
past zero [] h = refl
past (suc i) [] h = refl
past zero (x ∷ xs) h = absurd (omega arith)
past (suc i) (x ∷ xs) h = past i xs (omega arith)

-- ---- the stack

-- the row that is put on top comes first
pub stacked-push : (rs : List Row) (r : Row) → stacked (rs ++ r ∷ []) ≡ all_of_row r ++ stacked rs
stacked-push [] r = sym (append-nil _)
stacked-push (q ∷ rs) r = ap (λ ps. ps ++ all_of_row q) (stacked-push rs r) ∙ append_assoc (all_of_row r) (stacked rs) (all_of_row q)

pub pushed : (old new : List Row) (r : Row) → new ≡ old ++ r ∷ [] → stacked new ≡ all_of_row r ++ stacked old
pushed old new r h = ap stacked h ∙ stacked-push old r

-- a row of one node
pub pushed-one : (old new : List Row) (r : Row) (p : CodePlace) (e : ExpTree) → new ≡ old ++ r ∷ [] → all_of_row r ≡ placed (shown_place p) e ++ []
    → stacked new ≡ placed (shown_place p) e ++ stacked old
pushed-one old new r p e h is = pushed old new r h ∙ ap (λ (ps : List Placed). ps ++ stacked old) (is ∙ append-nil (placed (shown_place p) e))

-- a row of these expressions, and of none
pub pushed-row : (old new : List Row) (r : Row) (xs : List Exp) → new ≡ old ++ r ∷ [] → xs ≡ r.first.now ∷ r.others.now
    → stacked new ≡ side_placed r.side (exps_of xs) ++ stacked old
pushed-row old new r xs h is = pushed old new r h ∙ ap (λ ys. side_placed r.side (exps_of ys) ++ stacked old) (sym is)

pub row-none : (s : Side) (xs : List Exp) (ps : List Placed) → length xs ≡ 0 → ps ≡ side_placed s (exps_of xs) ++ ps
unfolding all_placed last_placed
row-none (side.Alike p) [] ps h = refl
row-none (side.Arguments p name arity) [] ps h = refl
row-none s (x ∷ xs) ps h = absurd (omega arith)

-- the first of a row, before the others
row-split : (s : Side) (e : ExpTree) (es : List Exp) → side_placed s (exp e (exps_of es)) ≡ placed (side_place s (length es)) e ++ side_placed s (exps_of es)
unfolding all_placed last_placed
row-split (side.Alike p) e es = refl
row-split (side.Arguments p name arity) e es = ap (λ n. placed (argument (shown_place p) name.now arity (arity - suc n)) e ++ last_placed (shown_place p) name.now arity (exps_of es)) (exp_count-exps_of es)

-- the last row is taken off, and what stands behind its first node, and then below it, put there
pub taken : (old rest : List Row) (r : Row) (p : CodePlace) (mid new : List Placed) → old ≡ rest ++ r ∷ []
    → shown_place p ≡ side_place r.side (length r.others.now)
    → mid ≡ side_placed r.side (exps_of r.others.now) ++ stacked rest → new ≡ below (shown_place p) (exp_tree r.first.now) ++ mid
    → stacked old ≡ placed_at (shown_place p) (exp_tree r.first.now) ∷ new
taken old rest r p mid new h place k l =
    let e : ExpTree = exp_tree r.first.now in
    let others : List Placed = side_placed r.side (exps_of r.others.now) in
    let whole : stacked old ≡ placed (shown_place p) e ++ mid =
    pushed rest old r h
    ∙ ap (λ ps. ps ++ stacked rest) (row-split r.side e r.others.now)
    ∙ ap (λ q. (placed q e ++ others) ++ stacked rest) (sym place)
    ∙ append_assoc (placed (shown_place p) e) others (stacked rest)
    ∙ ap (λ ps. placed (shown_place p) e ++ ps) (sym k) in
    whole ∙ ap (λ ps. placed_at (shown_place p) e ∷ ps) (sym l)

-- the arguments of a call are its last ones from the first on
pub last-is-all : (p : Place) (name : List ℕ) (arity i : ℕ) (es : ExpTrees) → i + exp_count es ≡ arity → arguments_placed p name arity i es ≡ last_placed p name arity es
unfolding arguments_placed last_placed exp_count
last-is-all p name arity i no_exps h = refl
last-is-all p name arity i (exp e es) h =
    let here : i ≡ arity - suc (exp_count es) = omega arith in
    ap (λ k. placed (argument p name arity k) e ++ arguments_placed p name arity (suc i) es) here
    ∙ ap (λ ps. placed (argument p name arity (arity - suc (exp_count es))) e ++ ps) (last-is-all p name arity (suc i) es (omega arith))
