-- Expressions without a call, and terms whose slots a head fills.
use Rattle.std.proofs.Common.{◌≡◌, ℕ, suc, ◌+◌, ◌<◌, ◌≤◌, Bool, true, false, nat_lt, ◌&&◌, List, [], ◌∷◌, ◌++◌, length, get_or, drop, Some, None, refl, sym, ◌∙◌, ap, subst, zero, add-one}
use Rattle.std.proofs.lemmas.List.{drop_more, drop_all}
use Rattle.std.specs.Prelude.{Vec, Option, IsSomeAnd, slice_get}
use Rattle.std.specs.declared.alloc.Global.{Global}
use Rattle.std.specs.declared.boxed.Box.{Box}
use Rattle.pi_terms.specs.Tree.{Tree, var, int, atom, comp, Trees, no_trees, tree, subterms, subterms_all, cells, ShowsHead}
use Rattle.pi_terms.specs.declared.term.TermHead.{TermHead}
use Rattle.pi_terms.proofs.TermLemmas.{subterm_for_each_cell}
use Rattle.pi_syntax.specs.ExpTree.{exp_tree, call}
use Rattle.pi_syntax.specs.Signature.{exp_count}
use Rattle.pi_syntax.proofs.ExpListLemmas.{exp_count-exps_of}
use Rattle.pi_meaning.specs.OverNames.Forms.{Reading, first_reading, later_readings, operand_readings}
use Rattle.pi_syntax.specs.ExpLists.{exps_of}
use Rattle.pi_syntax.specs.declared.exp.Exp as e
use Rattle.pi_syntax.specs.declared.exp.Exp.{Exp}
use Rattle.pi_rewrite_spec.specs.Values.{stays, is_ranged, is_flat_as, are_flat_as, is_flat, are_flat, is_below, are_below}
use Rattle.pi_rewrite_slots.specs.ItemCells.{is_cell_below}
use Rattle.pi_rewrite_slots.proofs.ExpTrees.{list-is, list_onto-is, array-is, call-is, range-is, range_by-is}

-- ---- expressions

pub drop-next : {A : Type 0} (xs : List A) (i : ℕ) (x : A) → i < length xs → x ≡ get_or xs i x → drop i xs ≡ x ∷ drop (i + 1) xs
drop-next xs i x h is = drop_more xs i x h ∙ ap (λ y. y ∷ drop (i + 1) xs) (sym is)

and-true : (a b : Bool) → a ≡ true → (a && b) ≡ b
and-true true b h = refl
and-true false b h = absurd (bool-apart h)
  where
    bool-apart : false ≡ true → ⊥
    bool-apart h = cc

and-false : (a b : Bool) → a ≡ false → (a && b) ≡ false
and-false a b h = ap (λ c. c && b) h

pub later-drop : (rs : List Reading) (i : ℕ) → later_readings (drop i rs) ≡ drop (i + 1) rs
later-drop rs i = later rs i ∙ ap (λ n. drop n rs) (sym (add-one i))
  where
    later : (rs : List Reading) (i : ℕ) → later_readings (drop i rs) ≡ drop (suc i) rs
    later [] zero = refl
    later [] (suc i) = refl
    later (r ∷ rs) zero = refl
    later (r ∷ rs) (suc i) = later rs i

pub flat-next : (rs : List Reading) (es : List Exp) (i : ℕ) (x : Exp) → i < length es → x ≡ get_or es i x →
    are_flat_as (drop i rs) (exps_of (drop i es)) ≡ (is_flat_as (first_reading (drop i rs)) (exp_tree x) && are_flat_as (drop (i + 1) rs) (exps_of (drop (i + 1) es)))
unfolding is_flat_as
flat-next rs es i x h is =
    ap (λ xs. are_flat_as (drop i rs) (exps_of xs)) (drop-next es i x h is) ∙ ap (λ qs. is_flat_as (first_reading (drop i rs)) (exp_tree x) && are_flat_as qs (exps_of (drop (i + 1) es))) (later-drop rs i)

pub flat-more : (rs : List Reading) (es : List Exp) (i : ℕ) (r : Reading) (x : Exp) → i < length es → x ≡ get_or es i x → r ≡ first_reading (drop i rs) → is_flat_as r (exp_tree x) ≡ true →
    are_flat_as (drop i rs) (exps_of (drop i es)) ≡ are_flat_as (drop (i + 1) rs) (exps_of (drop (i + 1) es))
flat-more rs es i r x h is same flat =
    flat-next rs es i x h is ∙ and-true (is_flat_as (first_reading (drop i rs)) (exp_tree x)) (are_flat_as (drop (i + 1) rs) (exps_of (drop (i + 1) es))) (ap (λ q. is_flat_as q (exp_tree x)) (sym same) ∙ flat)

pub flat-not : (rs : List Reading) (es : List Exp) (i : ℕ) (r : Reading) (x : Exp) → i < length es → x ≡ get_or es i x → r ≡ first_reading (drop i rs) → is_flat_as r (exp_tree x) ≡ false → are_flat_as (drop i rs) (exps_of (drop i es)) ≡ false
flat-not rs es i r x h is same flat =
    flat-next rs es i x h is ∙ and-false (is_flat_as (first_reading (drop i rs)) (exp_tree x)) (are_flat_as (drop (i + 1) rs) (exps_of (drop (i + 1) es))) (ap (λ q. is_flat_as q (exp_tree x)) (sym same) ∙ flat)

pub flat-all : (rs : List Reading) (es : List Exp) (i : ℕ) → length es ≤ i → are_flat_as (drop i rs) (exps_of (drop i es)) ≡ true
unfolding is_flat_as
flat-all rs es i h = ap (λ xs. are_flat_as (drop i rs) (exps_of xs)) (drop_all i es h)

pub flat-list : (r : Reading) (x : Exp) (es : Vec Exp Global) (tail : Option (Box Exp Global)) (now : List Exp) (b : Bool) → x ≡ e.List es tail → tail ≡ None → now ≡ es.items → b ≡ are_flat (exps_of now) → b ≡ is_flat_as r (exp_tree x)
unfolding is_flat_as
flat-list r x es tail now b p q s t = t ∙ (ap (λ xs. are_flat (exps_of xs)) s ∙ sym (ap (is_flat_as r) (list-is x es tail p q)))

pub flat-list_onto : (r : Reading) (x : Exp) (es : Vec Exp Global) (tail : Option (Box Exp Global)) (b : Box Exp Global) (now : List Exp) (y : Exp) (c d : Bool) → x ≡ e.List es tail → tail ≡ Some b → now ≡ es.items → y ≡ b.value →
    c ≡ are_flat (exps_of now) → d ≡ is_flat (exp_tree y) → (c && d) ≡ is_flat_as r (exp_tree x)
unfolding is_flat_as
flat-list_onto r x es tail b now y c d p q same behind t u =
    ap (λ f. f && d) (t ∙ ap (λ xs. are_flat (exps_of xs)) same) ∙ (ap (λ f. are_flat (exps_of es.items) && f) (u ∙ ap (λ z. is_flat (exp_tree z)) behind) ∙ sym (ap (is_flat_as r) (list_onto-is x es tail b p q)))

pub flat-array : (r : Reading) (x : Exp) (es : Vec Exp Global) (now : List Exp) (b : Bool) → x ≡ e.Array es → now ≡ es.items → b ≡ are_flat (exps_of now) → b ≡ is_flat_as r (exp_tree x)
unfolding is_flat_as
flat-array r x es now b p s t = t ∙ (ap (λ xs. are_flat (exps_of xs)) s ∙ sym (ap (is_flat_as r) (array-is x es p)))

pub flat-call : (r : Reading) (x : Exp) (name here : List ℕ) (es : Vec Exp Global) (now : List Exp) (b : Bool) → x ≡ e.Call name es → here ≡ name → now ≡ es.items → b ≡ is_flat_as r (call here (exps_of now)) → b ≡ is_flat_as r (exp_tree x)
flat-call r x name here es now b p o s t = t ∙ (ap (λ n. is_flat_as r (call n (exps_of now))) o ∙ (ap (λ xs. is_flat_as r (call name (exps_of xs))) s ∙ sym (ap (is_flat_as r) (call-is x name es p))))

-- a call by whether it stays
pub flat-applied : (r : Reading) (name : List ℕ) (es : List Exp) → stays r name (length es) ≡ false → false ≡ is_flat_as r (call name (exps_of es))
unfolding is_flat_as
flat-applied r name es stay =
    sym (ap (λ b. b && are_flat_as (operand_readings r name (exp_count (exps_of es))) (exps_of es)) (ap (stays r name) (exp_count-exps_of es) ∙ stay))

pub flat-structure : (r : Reading) (name : List ℕ) (es : List Exp) (rs : List Reading) (b : Bool) → stays r name (length es) ≡ true → rs ≡ operand_readings r name (length es) → b ≡ are_flat_as rs (exps_of es) → b ≡ is_flat_as r (call name (exps_of es))
unfolding is_flat_as
flat-structure r name es rs b stay same flat =
    flat ∙ ap (λ qs. are_flat_as qs (exps_of es)) (same ∙ ap (operand_readings r name) (sym (exp_count-exps_of es)))
    ∙ sym (ap (λ c. c && are_flat_as (operand_readings r name (exp_count (exps_of es))) (exps_of es)) (ap (stays r name) (exp_count-exps_of es) ∙ stay))

pub flat-range : (r : Reading) (x : Exp) (first : Box Exp Global) (step : Option (Box Exp Global)) (last : Box Exp Global) (y z : Exp) (a b c : Bool) → x ≡ e.Range first step last → step ≡ None → y ≡ first.value → z ≡ last.value → a ≡ is_ranged r →
    b ≡ is_flat (exp_tree y) → c ≡ is_flat (exp_tree z) → (a && (b && c)) ≡ is_flat_as r (exp_tree x)
unfolding is_flat_as
flat-range r x first step last y z a b c p q one two t u v =
    ap (λ f. f && (b && c)) t ∙ (ap (λ f. is_ranged r && (f && c)) (u ∙ ap (λ w. is_flat (exp_tree w)) one) ∙ ap (λ f. is_ranged r && (is_flat (exp_tree first.value) && f)) (v ∙ ap (λ w. is_flat (exp_tree w)) two))
    ∙ sym (ap (is_flat_as r) (range-is x first step last p q))

pub flat-range_by : (r : Reading) (x : Exp) (first : Box Exp Global) (step : Option (Box Exp Global)) (last by : Box Exp Global) (y w z : Exp) (a b d c : Bool) → x ≡ e.Range first step last → step ≡ Some by → y ≡ first.value → w ≡ by.value →
    z ≡ last.value → a ≡ is_ranged r → b ≡ is_flat (exp_tree y) → d ≡ is_flat (exp_tree w) → c ≡ is_flat (exp_tree z) → (a && (b && (d && c))) ≡ is_flat_as r (exp_tree x)
unfolding is_flat_as
flat-range_by r x first step last by y w z a b d c p q one two three t u s v =
    ap (λ f. f && (b && (d && c))) t ∙ (ap (λ f. is_ranged r && (f && (d && c))) (u ∙ ap (λ o. is_flat (exp_tree o)) one)
    ∙ (ap (λ f. is_ranged r && (is_flat (exp_tree first.value) && (f && c))) (s ∙ ap (λ o. is_flat (exp_tree o)) two)
    ∙ ap (λ f. is_ranged r && (is_flat (exp_tree first.value) && (is_flat (exp_tree by.value) && f))) (v ∙ ap (λ o. is_flat (exp_tree o)) three)))
    ∙ sym (ap (is_flat_as r) (range_by-is x first step last by p q))

-- ---- slots of a term

abbrev root_below : ℕ → Tree → Bool
root_below h (var k) = nat_lt k h
root_below h (int n) = true
root_below h (atom name) = true
root_below h (comp name ts) = true

unfoldable pub all_below : ℕ → List Tree → Bool
all_below h [] = true
all_below h (t ∷ ts) = root_below h t && all_below h ts

and-assoc : (a b c : Bool) → ((a && b) && c) ≡ (a && (b && c))
and-assoc true b c = refl
and-assoc false b c = refl

and-end : (a : Bool) → (a && true) ≡ a
and-end true = refl
and-end false = refl

below-append : (h : ℕ) (ts us : List Tree) → all_below h (ts ++ us) ≡ (all_below h ts && all_below h us)
unfolding all_below
below-append h [] us = refl
below-append h (t ∷ ts) us = ap (λ b. root_below h t && b) (below-append h ts us) ∙ sym (and-assoc (root_below h t) (all_below h ts) (all_below h us))

mutual
  unfolding is_below subterms all_below

  below-subterms : (h : ℕ) (t : Tree) → all_below h (subterms t) ≡ is_below h t
  below-subterms h (var k) = and-end (nat_lt k h)
  below-subterms h (int n) = refl
  below-subterms h (atom name) = refl
  below-subterms h (comp name ts) = below-all h ts

  below-all : (h : ℕ) (ts : Trees) → all_below h (subterms_all ts) ≡ are_below h ts
  below-all h no_trees = refl
  below-all h (tree t ts) =
      below-append h (subterms t) (subterms_all ts) ∙ (ap (λ b. b && all_below h (subterms_all ts)) (below-subterms h t) ∙ ap (λ b. is_below h t && b) (below-all h ts))

shown : (h : ℕ) (t : Tree) (c : TermHead) → ShowsHead t c → is_cell_below h c ≡ root_below h t
shown h t (TermHead.Var n) e = ap (root_below h) (sym e)
shown h t (TermHead.Int n) e = ap (root_below h) (sym e)
shown h t (TermHead.Atom name) e = ap (root_below h) (sym e)
shown h t (TermHead.Comp name k) e = ap (root_below h) (sym e.0)

at : (h : ℕ) (ts : List Tree) (i : ℕ) (c : TermHead) → IsSomeAnd (slice_get ts i) (λ u. ShowsHead u c) → all_below h (drop i ts) ≡ (is_cell_below h c && all_below h (drop (suc i) ts))
unfolding all_below
at h [] i c s = absurd s
at h (t ∷ ts) zero c s = ap (λ b. b && all_below h ts) (sym (shown h t c s))
at h (t ∷ ts) (suc i) c s = at h ts i c s

pub below-start : (h : ℕ) (t : Tree) → all_below h (drop 0 (subterms t)) ≡ is_below h t
below-start h t = below-subterms h t

below-next : (h : ℕ) (t : Tree) (i : ℕ) (c : TermHead) → IsSomeAnd (slice_get (subterms t) i) (λ u. ShowsHead u c) → is_cell_below h c ≡ true → all_below h (drop i (subterms t)) ≡ is_below h t → all_below h (drop (suc i) (subterms t)) ≡ is_below h t
below-next h t i c s b so = sym (and-true (is_cell_below h c) (all_below h (drop (suc i) (subterms t))) b) ∙ (sym (at h (subterms t) i c s) ∙ so)

pub below-more : (h : ℕ) (t : Tree) (i : ℕ) (c : TermHead) → IsSomeAnd (slice_get (subterms t) i) (λ u. ShowsHead u c) → is_cell_below h c ≡ true → all_below h (drop i (subterms t)) ≡ is_below h t → all_below h (drop (i + 1) (subterms t)) ≡ is_below h t
below-more h t i c s b so = ap (λ n. all_below h (drop n (subterms t))) (add-one i) ∙ below-next h t i c s b so

pub below-not : (h : ℕ) (t : Tree) (i : ℕ) (c : TermHead) → IsSomeAnd (slice_get (subterms t) i) (λ u. ShowsHead u c) → is_cell_below h c ≡ false → all_below h (drop i (subterms t)) ≡ is_below h t → false ≡ is_below h t
below-not h t i c s b so = sym (and-false (is_cell_below h c) (all_below h (drop (suc i) (subterms t))) b) ∙ (sym (at h (subterms t) i c s) ∙ so)

pub below-end : (h : ℕ) (t : Tree) (i : ℕ) → cells t ≤ i → all_below h (drop i (subterms t)) ≡ is_below h t → true ≡ is_below h t
unfolding all_below
below-end h t i past so = sym (ap (all_below h) (drop_all i (subterms t) (subst (λ n. n ≤ i) (sym (subterm_for_each_cell t)) past))) ∙ so
