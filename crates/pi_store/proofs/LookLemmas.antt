-- What a store shows of a term: bindings are followed through the words of the variables.
use Rattle.std.proofs.Common.{◌≡◌, ℕ, zero, suc, ◌/◌, ◌%◌, ◌==◌, ◌<◌, Bool, true, false, List, [], ◌∷◌, length, Option, Some, None, map, slice_index, refl, ap, sym, subst, ◌∙◌, ℤ, pos}
use Rattle.std.specs.Prelude.{unwrap_or, option_map}
use Rattle.std.proofs.lemmas.List.{length-map}
use Rattle.pi_terms.specs.Tree.{Tree, var, int, atom, comp, Trees, args}
use Rattle.pi_terms.specs.Places.{held}
use Rattle.pi_constraints.specs.Value.{Bindings}
use Rattle.pi_constraints.specs.State.{SpeaksBelow, binding, next, followed, followed_for}
use Rattle.pi_constraints.specs.Store.{ShowsCell}
use Rattle.pi_constraints.specs.declared.store.Ref.{Ref}
use Rattle.pi_constraints.specs.declared.store.Cell.{Cell}
use Rattle.pi_region.specs.Image.{Image}
use Rattle.pi_store_blocks.specs.declared.form.Form.{Form}
use Rattle.pi_store_blocks.specs.declared.header.Header.{Header}
use Rattle.pi_store_blocks.specs.Form.{form_of, header_of}
use Rattle.pi_store_blocks.specs.Heap.{Heap, Names, term_at, Shows}
use Rattle.pi_store_blocks.specs.Look.{headed_cell}
use Rattle.pi_store_blocks.proofs.LookLemmas.{shows_var, shows_int, shows_atom, shows_pair, shows_comp, no_data}
use Rattle.pi_store_blocks.proofs.SpeakLemmas.{trees_speak_below}
use Rattle.pi_store_blocks.specs.NameTable.{NameTable, names_of}
use Rattle.pi_store.specs.Walk.{bound_ref_by, bound_ref, binding_at, variable_of, binding_of_any, step_at, steps_at, followed_at}
use Rattle.pi_store.specs.Holding.{tree_of, unbound_at, variable_by, variable_in, state_of, view_of}
use Rattle.pi_store.specs.Bindings.{HasBound, bound_in}
use Rattle.pi_store.proofs.NameLemmas.{text_of}

abbrev pub tree_at_ref : Heap → Ref → Tree
tree_at_ref h r = tree_of h r.number

pub tree_is : (h : Heap) (r : ℕ) (t : Tree) → term_at h r ≡ Some t → tree_of h r ≡ t
tree_is h r t e = ap (λ o. unwrap_or o (int (pos 0))) e

-- What a variable is bound to

unbound_word : (h : Heap) (end : ℕ) → binding (unbound_at h end) ≡ None
unbound_word h zero = refl
unbound_word h (suc last) = refl

held_word_by : (b : Bool) (h : Heap) (w : ℕ) → binding (variable_by b h w) ≡ option_map (tree_at_ref h) (bound_ref_by b w)
held_word_by true h w = unbound_word h (w / 8)
held_word_by false h w = refl

held_word : (h : Heap) (w : ℕ) → binding (variable_in h w) ≡ option_map (tree_at_ref h) (bound_ref w)
held_word h w = held_word_by (w % 8 == 0) h w

held_by : (h : Heap) (vs : List ℕ) (n : ℕ) → held (map binding (map (variable_in h) vs)) n ≡ option_map (tree_at_ref h) (bound_ref (slice_index vs n))
held_by h [] n = refl
held_by h (v ∷ vs) zero = held_word h v
held_by h (v ∷ vs) (suc n) = held_by h vs n

pub held_is : (h : Heap) (vs : List ℕ) (n : ℕ) → held (bound_in h vs) n ≡ option_map (tree_at_ref h) (binding_at vs n)
held_is h vs n = held_by h vs n

-- the Ref that a variable is bound to has a tree
pub binding_tree : (h : Heap) (vs : List ℕ) → HasBound h vs → (n : ℕ) (q : Ref) → binding_at vs n ≡ Some q → term_at h q.number ≡ Some (tree_at_ref h q)
binding_tree h vs has n q e =
    let t = has n q e in
    t.1 ∙ ap Some (sym (tree_is h q.number t.0 t.1))

-- Following

record Steps (h : Heap) (vs : List ℕ) (r : Ref) (t : Tree) : Type 0 where
  after : Tree
  at : term_at h (step_at vs r).number ≡ Some after
  same : (k : ℕ) → followed_for (suc k) (bound_in h vs) t ≡ followed_for k (bound_in h vs) after

-- a term that is no variable is followed to itself
abbrev Solid : Tree → Type 0
Solid t = (k : ℕ) (b : Bindings) → followed_for k b t ≡ t

solid_int : (n : ℤ) → Solid (int n)
unfolding followed_for
solid_int n zero b = refl
solid_int n (suc k) b = refl

solid_atom : (name : List ℕ) → Solid (atom name)
unfolding followed_for
solid_atom name zero b = refl
solid_atom name (suc k) b = refl

solid_comp : (name : List ℕ) (ts : Trees) → Solid (comp name ts)
unfolding followed_for
solid_comp name ts zero b = refl
solid_comp name ts (suc k) b = refl

solid_headed : (names : Names) (ws : List ℕ) (place : ℕ) (header : Header) (t : Tree) → Shows names t (headed_cell ws place header) → Solid t
solid_headed names ws place Header.Nothing t s = subst Solid (sym s.2) (solid_atom s.0)
solid_headed names ws place (Header.Comp name count flag) t s = subst Solid (sym s.2) (solid_comp s.0 (args t))
solid_headed names ws place (Header.Wide top) t s = subst Solid (sym s) (solid_int _)

step_by : (vs : List ℕ) (r : Ref) (f : Form) (o : Option Ref) → form_of r.number ≡ f → binding_of_any vs (variable_of f) ≡ o → step_at vs r ≡ unwrap_or o r
step_by vs r f o e b = ap (λ x. unwrap_or (binding_of_any vs (variable_of x)) r) e ∙ ap (λ x. unwrap_or x r) b

steps_solid : (h : Heap) (vs : List ℕ) (r : Ref) (t : Tree) (f : Form) → term_at h r.number ≡ Some t → form_of r.number ≡ f → variable_of f ≡ None → Solid t → Steps h vs r t
steps_solid h vs r t f is e none solid = record {
  after = t;
  at = ap (λ (q : Ref). term_at h q.number) (step_by vs r f None e (ap (binding_of_any vs) none)) ∙ is;
  same = λ k. solid (suc k) (bound_in h vs) ∙ sym (solid k (bound_in h vs));
}

steps_variable : (h : Heap) (vs : List ℕ) → HasBound h vs → (r : Ref) (n : ℕ) → term_at h r.number ≡ Some (var n) → form_of r.number ≡ Form.Var n → (o : Option Ref) → binding_at vs n ≡ o → Steps h vs r (var n)
unfolding followed_for
steps_variable h vs has r n is e None b = record {
  after = var n;
  at = ap (λ (q : Ref). term_at h q.number) (step_by vs r (Form.Var n) None e b) ∙ is;
  same = λ k. ap (λ o. followed_for k (bound_in h vs) (unwrap_or o (var n))) (held_is h vs n ∙ ap (option_map (tree_at_ref h)) b);
}
steps_variable h vs has r n is e (Some q) b = record {
  after = tree_at_ref h q;
  at = ap (λ (p : Ref). term_at h p.number) (step_by vs r (Form.Var n) (Some q) e b) ∙ binding_tree h vs has n q b;
  same = λ k. ap (λ o. followed_for k (bound_in h vs) (unwrap_or o (var n))) (held_is h vs n ∙ ap (option_map (tree_at_ref h)) b);
}

steps_by : (h : Heap) (vs : List ℕ) → HasBound h vs → (r : Ref) (t : Tree) (f : Form) → term_at h r.number ≡ Some t → form_of r.number ≡ f → Steps h vs r t
steps_by h vs has r t (Form.Var n) is e =
    let same : t ≡ var n = shows_var h r.number n t e is in
    subst (Steps h vs r) (sym same) (steps_variable h vs has r n (is ∙ ap Some same) e (binding_at vs n) refl)
steps_by h vs has r t (Form.Int n) is e = steps_solid h vs r t (Form.Int n) is e refl (subst Solid (sym (shows_int h r.number n t e is)) (solid_int n))
steps_by h vs has r t (Form.Atom k) is e = let s = shows_atom h r.number k t e is in steps_solid h vs r t (Form.Atom k) is e refl (subst Solid (sym s.2) (solid_atom s.0))
steps_by h vs has r t (Form.Pair place flag) is e =
    let s = shows_pair h r.number place flag t e is in steps_solid h vs r t (Form.Pair place flag) is e refl (subst Solid (sym s.2) (solid_comp s.0 (args t)))
steps_by h vs has r t (Form.Comp place flag) is e =
    steps_solid h vs r t (Form.Comp place flag) is e refl (solid_headed h.names h.words place (header_of (slice_index h.words place)) t (shows_comp h r.number place flag t e is))
steps_by h vs has r t (Form.Data n) is e = absurd (no_data h r.number n t e is)

follows : (h : Heap) (vs : List ℕ) → HasBound h vs → (k : ℕ) (r : Ref) (t : Tree) → term_at h r.number ≡ Some t → term_at h (steps_at k vs r).number ≡ Some (followed_for k (bound_in h vs) t)
unfolding steps_at followed_for
follows h vs has zero r t e = e
follows h vs has (suc k) r t e =
    let p : Steps h vs r t = steps_by h vs has r t (form_of r.number) e refl in
    follows h vs has k (step_at vs r) p.after p.at ∙ ap Some (sym (p.same k))

pub length_bound : (h : Heap) (vs : List ℕ) → length (bound_in h vs) ≡ length vs
length_bound h vs = length-map (map (variable_in h) vs) binding ∙ length-map vs (variable_in h)

-- the tree of the Ref that a Ref is followed to
pub followed_is : (h : Heap) (vs : List ℕ) → HasBound h vs → (r : Ref) (t : Tree) → term_at h r.number ≡ Some t → term_at h (followed_at vs r).number ≡ Some (followed (bound_in h vs) t)
unfolding followed
followed_is h vs has r t e = follows h vs has (length vs) r t e ∙ ap (λ k. Some (followed_for k (bound_in h vs) t)) (sym (length_bound h vs))

pub followed_to : (h : Heap) (vs : List ℕ) → HasBound h vs → (r q : Ref) (t : Tree) → q ≡ followed_at vs r → term_at h r.number ≡ Some t → term_at h q.number ≡ Some (followed (bound_in h vs) t)
followed_to h vs has r q t is e = ap (λ (p : Ref). term_at h p.number) is ∙ followed_is h vs has r t e

-- What a term shows

pub shows_cell : (t : NameTable) (i : Image) (u : Tree) (c : Cell) → Shows (names_of t (length i.region)) u c → ShowsCell (view_of t i) u c
shows_cell t i u (Cell.Var n) s = s
shows_cell t i u (Cell.Int n) s = s
shows_cell t i u (Cell.Atom k) s = (s.0, text_of t (length i.region) k s.0 s.1, s.2)
shows_cell t i u (Cell.Comp k count) s = (s.0, text_of t (length i.region) k s.0 s.1, s.2, s.3)

-- a Ref whose tree is a variable is that variable
pub var_form : (h : Heap) (r m : ℕ) (f : Form) → form_of r ≡ f → term_at h r ≡ Some (var m) → f ≡ Form.Var m
var_form h r m (Form.Var n) e is = let same : var m ≡ var n = shows_var h r n (var m) e is in ap Form.Var (cc)
var_form h r m (Form.Int n) e is = let same : var m ≡ int n = shows_int h r n (var m) e is in absurd (cc)
var_form h r m (Form.Atom k) e is = let s = shows_atom h r k (var m) e is in let same : var m ≡ atom s.0 = s.2 in absurd (cc)
var_form h r m (Form.Pair place flag) e is = let s = shows_pair h r place flag (var m) e is in let same : var m ≡ comp s.0 (args (var m)) = s.2 in absurd (cc)
var_form h r m (Form.Comp place flag) e is = absurd (headed_var h.names h.words place (header_of (slice_index h.words place)) m (shows_comp h r place flag (var m) e is))
  where
    not_int : (m : ℕ) (n : ℤ) → var m ≡ int n → ⊥
    not_int m n e = cc

    headed_var : (names : Names) (ws : List ℕ) (place : ℕ) (header : Header) (m : ℕ) → Shows names (var m) (headed_cell ws place header) → ⊥
    headed_var names ws place Header.Nothing m s = let same : var m ≡ atom s.0 = s.2 in cc
    headed_var names ws place (Header.Comp name count flag) m s = let same : var m ≡ comp s.0 (args (var m)) = s.2 in cc
    headed_var names ws place (Header.Wide top) m s = not_int m _ s
var_form h r m (Form.Data n) e is = absurd (no_data h r n (var m) e is)

pub form_var : (h : Heap) (r m : ℕ) → term_at h r ≡ Some (var m) → form_of r ≡ Form.Var m
form_var h r m is = var_form h r m (form_of r) refl is

-- only variables that were made occur in a term

pub next_is : (h : Heap) (i : Image) → next (state_of h i) ≡ length i.variables
next_is h i = length-map i.variables (variable_in h)

pub below_next : (h : Heap) (i : Image) (n : ℕ) → n < next (state_of h i) → n < length i.variables
below_next h i n lt = subst (λ (m : ℕ). n < m) (next_is h i) lt

pub speaks_below : (h : Heap) (i : Image) (r : ℕ) (t : Tree) → h.next ≡ length i.variables → term_at h r ≡ Some t → SpeaksBelow (next (state_of h i)) t
speaks_below h i r t same is n occurs = subst (λ (m : ℕ). n < m) (same ∙ sym (next_is h i)) (trees_speak_below h r t is n occurs)
