-- How the cells of a list of actions are written.
use Rattle.std.proofs.Common.{◌≡◌, ℕ, zero, suc, ◌+◌, ◌<◌, ◌≤◌, List, [], ◌∷◌, ◌++◌, length, take, map, Some, refl, ap, sym, ◌∙◌, append_assoc, arith, get_or}
use Rattle.std.specs.Prelude.{IsSomeAnd, slice_get, reverse}
use Rattle.std.proofs.lemmas.List.{append-nil, map-append, take_all, length-map, reverse-append}
use Rattle.pi_terms.specs.Tree.{Tree, var, int, atom, comp, Trees, no_trees, tree, tree_count, subterms, subterms_all, cells, ShowsHead}
use Rattle.pi_terms.specs.ListNames.{nil, cell_name}
use Rattle.pi_terms.specs.TermCells.{flat, flat_all}
use Rattle.pi_terms.specs.BareCells.{bare, with_size}
use Rattle.pi_terms.specs.declared.term.TermCell.{TermCell}
use Rattle.pi_terms.specs.declared.term.TermHead.{TermHead}
use Rattle.pi_terms.proofs.TermLemmas.{subterm_for_each_cell}
use Rattle.pi_terms.proofs.GetLemmas.{take_more}
use Rattle.pi_plan.specs.Plan.{plan_term}
use Rattle.pi_plan.specs.Written.{bare_head}

-- ---- the cells of a term, one by one

abbrev root_cell : Tree → TermCell
root_cell (var n) = TermCell.Var n
root_cell (int n) = TermCell.Int n
root_cell (atom name) = TermCell.Atom name
root_cell (comp name ts) = TermCell.Comp name (tree_count ts) 0

shown : (t : Tree) (h : TermHead) → ShowsHead t h → bare_head h ≡ root_cell t
shown t (TermHead.Var n) e = ap root_cell (sym e)
shown t (TermHead.Int n) e = ap root_cell (sym e)
shown t (TermHead.Atom name) e = ap root_cell (sym e)
shown t (TermHead.Comp name k) e = ap (λ (c : ℕ). TermCell.Comp name.now c 0) e.1 ∙ ap root_cell (sym e.0)

mutual
  unfolding flat subterms

  bare-subterms : (t : Tree) → bare t ≡ map root_cell (subterms t)
  bare-subterms (var n) = refl
  bare-subterms (int n) = refl
  bare-subterms (atom name) = refl
  bare-subterms (comp name ts) = ap (λ cs. TermCell.Comp name (tree_count ts) 0 ∷ cs) (bare_all-subterms ts)

  bare_all-subterms : (ts : Trees) → map (λ c. with_size c 0) (flat_all ts) ≡ map root_cell (subterms_all ts)
  bare_all-subterms no_trees = refl
  bare_all-subterms (tree t ts) =
      map-append (λ c. with_size c 0) (flat t) (flat_all ts) ∙ (ap (λ cs. cs ++ map (λ c. with_size c 0) (flat_all ts)) (bare-subterms t)
      ∙ (ap (λ cs. map root_cell (subterms t) ++ cs) (bare_all-subterms ts) ∙ sym (map-append root_cell (subterms t) (subterms_all ts))))

get_map : {X Y : Type 0} (f : X → Y) (P : X → Type 0) (xs : List X) (i : ℕ) (y : Y) → IsSomeAnd (slice_get xs i) P → ((x : X) → P x → y ≡ f x) → slice_get (map f xs) i ≡ Some y
get_map f P [] i y h g = absurd h
get_map f P (x ∷ xs) zero y h g = ap (λ z. Some z) (sym (g x h))
get_map f P (x ∷ xs) (suc i) y h g = get_map f P xs i y h g

-- so many cells are written
pub record WrittenTo (old now : List TermCell) (t : Tree) (i : ℕ) : Type 0 where
  pub are : now ≡ old ++ take i (bare t)

pub written_more : (old now new : List TermCell) (t : Tree) (i : ℕ) (h : TermHead) → WrittenTo old now t i → IsSomeAnd (slice_get (subterms t) i) (λ u. ShowsHead u h) → new ≡ now ++ bare_head h ∷ [] → WrittenTo old new t (i + 1)
written_more old now new t i h w at e =
    let here : slice_get (bare t) i ≡ Some (bare_head h) =
    ap (λ cs. slice_get cs i) (bare-subterms t) ∙ get_map root_cell (λ u. ShowsHead u h) (subterms t) i (bare_head h) at (λ u s. shown u h s) in
    record { are = e ∙ (ap (λ cs. cs ++ bare_head h ∷ []) w.are ∙ (append_assoc old (take i (bare t)) (bare_head h ∷ []) ∙ ap (λ cs. old ++ cs) (sym (take_more (bare t) i (bare_head h) here)))) }

length_bare : (t : Tree) → length (bare t) ≡ cells t
length_bare t = ap length (bare-subterms t) ∙ (length-map (subterms t) root_cell ∙ subterm_for_each_cell t)

pub written_end : (old now : List TermCell) (t : Tree) (i : ℕ) → WrittenTo old now t i → cells t ≤ i → now ≡ old ++ bare t
written_end old now t i w past = w.are ∙ ap (λ cs. old ++ cs) (take_all i (bare t) (omega (arith, length_bare t)))

-- ---- the cells of a list

bare_cons : (a : Tree) (plan : List Tree) → bare (plan_term (a ∷ plan)) ≡ TermCell.Comp cell_name 2 0 ∷ (bare a ++ bare (plan_term plan))
unfolding plan_term flat tree_count
bare_cons a plan = ap (λ cs. TermCell.Comp cell_name 2 0 ∷ cs)
    (ap (λ cs. map (λ c. with_size c 0) (flat a ++ cs)) (append-nil (flat (plan_term plan))) ∙ map-append (λ c. with_size c 0) (flat a) (flat (plan_term plan)))

bare_nil : bare (plan_term []) ≡ TermCell.Atom nil ∷ []
unfolding plan_term flat
bare_nil = refl

reverse_more : (xs : List Tree) (k : ℕ) (x : Tree) → slice_get xs k ≡ Some x → reverse (take (k + 1) xs) ≡ x ∷ reverse (take k xs)
reverse_more xs k x at = ap reverse (take_more xs k x at) ∙ reverse-append (take k xs) (x ∷ [])

-- what is written, and what is still to be written, are the whole
pub record ListWritten (now : List TermCell) (plan : List Tree) (left : ℕ) : Type 0 where
  pub whole : now ++ bare (plan_term (reverse (take left plan))) ≡ bare (plan_term (reverse plan))

pub list_more : (now new : List TermCell) (plan : List Tree) (k : ℕ) (a : Tree) → ListWritten now plan (k + 1) → slice_get plan k ≡ Some a → new ≡ now ++ TermCell.Comp cell_name 2 0 ∷ bare a → ListWritten new plan k
list_more now new plan k a w at e = record {
  whole =
      let step : bare (plan_term (reverse (take (k + 1) plan))) ≡ TermCell.Comp cell_name 2 0 ∷ (bare a ++ bare (plan_term (reverse (take k plan)))) =
      ap (λ ts. bare (plan_term ts)) (reverse_more plan k a at) ∙ bare_cons a (reverse (take k plan)) in
      ap (λ cs. cs ++ bare (plan_term (reverse (take k plan)))) e
      ∙ (append_assoc now (TermCell.Comp cell_name 2 0 ∷ bare a) (bare (plan_term (reverse (take k plan))))
      ∙ (ap (λ cs. now ++ cs) (sym step) ∙ w.whole));
}

pub list_end : (now new : List TermCell) (plan : List Tree) → ListWritten now plan 0 → new ≡ now ++ TermCell.Atom nil ∷ [] → new ≡ bare (plan_term (reverse plan))
list_end now new plan w e = e ∙ (ap (λ cs. now ++ cs) (sym bare_nil) ∙ w.whole)

pub list_step : (now new : List TermCell) (plan : List Tree) (n m : ℕ) (a : Tree) → n ≡ m + 1 → ListWritten now plan n → slice_get plan m ≡ Some a → new ≡ now ++ TermCell.Comp cell_name 2 0 ∷ bare a → ListWritten new plan m
list_step now new plan n m a e w at f = list_more now new plan m a (rw e at w) at f

pub action_written : (old now : List TermCell) (t : Tree) (i : ℕ) → WrittenTo (old ++ TermCell.Comp cell_name 2 0 ∷ []) now t i → cells t ≤ i → now ≡ old ++ TermCell.Comp cell_name 2 0 ∷ bare t
action_written old now t i w past = written_end (old ++ TermCell.Comp cell_name 2 0 ∷ []) now t i w past ∙ append_assoc old (TermCell.Comp cell_name 2 0 ∷ []) (bare t)

pub list_done : (now new : List TermCell) (plan : List Tree) (n : ℕ) (name : List ℕ) → n ≡ 0 → ListWritten now plan n → new ≡ now ++ TermCell.Atom name ∷ [] → name ≡ nil → new ≡ bare (plan_term (reverse plan))
list_done now new plan n name e w f g = list_end now new plan (rw e at w) (f ∙ ap (λ x. now ++ TermCell.Atom x ∷ []) g)

at_map : {X : Type 0} (f : X → Tree) (xs : List X) (k : ℕ) (x : X) → k < length xs → x ≡ get_or xs k x → slice_get (map f xs) k ≡ Some (f x)
at_map f [] k x less e = absurd (omega arith)
at_map f (y ∷ ys) zero x less e = ap (λ z. Some (f z)) (sym e)
at_map f (y ∷ ys) (suc k) x less e = at_map f ys k x (omega arith) e

pub item_at : {X : Type 0} (f : X → Tree) (xs : List X) (k m : ℕ) (x : X) → k ≡ m → k < length xs → x ≡ get_or xs k x → slice_get (map f xs) m ≡ Some (f x)
item_at f xs k m x same less e = ap (λ (n : ℕ). slice_get (map f xs) n) (sym same) ∙ at_map f xs k x less e
