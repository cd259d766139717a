-- The names of a head's variables, collected node by node.
use Rattle.std.proofs.Common.{◌≡◌, ℕ, Bool, true, false, not, ◌&&◌, ◌||◌, List, [], ◌∷◌, refl, ap, sym, ◌∙◌}
use mathlib.Core.Path.{fun_ext}
use Rattle.std.specs.Prelude.{codes}
use Rattle.std.specs.Borrow.{Bor}
use Rattle.std.specs.BTreeMap.{is_at}
use Rattle.std.specs.BTreeSet.{insert_key}
use Rattle.std.specs.Cmp.Lexicographic.{slice_cmp}
use Rattle.std.specs.List.{list_any}
use Rattle.std.specs.Ordering.{is_eq, match_ordering, nat_cmp}
use Rattle.std.specs.Str.{bytes_eq}
use Rattle.std.specs.declared.cmp.Ordering.{Ordering}
use Rattle.std.specs.declared.cmp.Ordering.TheVariants.{Less, Equal, Greater}
use Rattle.std.proofs.lemmas.Map.Text.{is_eq-slice_cmp}
use Rattle.std.proofs.lemmas.Slice.Eq.{bytes_eq-Decides}
use Rattle.pi_syntax.specs.ExpTree.{ExpTree, exp_tree}
use Rattle.pi_prog_clauses.specs.Form.{Form, form_of, shown_form, is_variable_form, is_event_form}
use Rattle.pi_prog_clauses.specs.HeadNames.{is_among, holds, has, AreNamesOf}
use Rattle.pi_prog_clauses.specs.Items.{occurs_in_head, names_variable, is_event}
use Rattle.pi_prog_clauses.specs.Places.{Placed, head_placed}
use Rattle.pi_prog_clauses.specs.Walk.{shown_node}
use Rattle.pi_prog_clauses.specs.declared.nodes.form.Form.{Form as CodeForm}
use Rattle.pi_prog_clauses.specs.declared.nodes.form.Form.TheVariants as code
use Rattle.pi_prog_clauses.specs.declared.restrictions.head_names.HeadNames.{HeadNames}
use Rattle.pi_prog_clauses.specs.declared.nodes.walk.Node.{Node}
use Rattle.pi_prog_clauses.proofs.nodes.FormLemmas.{variable_by_form, event_by_form}

abbrev Key : Type 0
Key = Bor (List ℕ)

abbrev text_order : Key → Key → Ordering
text_order x y = slice_cmp nat_cmp x.now y.now

-- ---- tests

or_swap : (a b c : Bool) → (a || (b || c)) ≡ (b || (a || c))
or_swap true true c = refl
or_swap true false c = refl
or_swap false true c = refl
or_swap false false c = refl

or_twice : (a c : Bool) → (a || c) ≡ (a || (a || c))
or_twice true c = refl
or_twice false c = refl

or_turned : (a b c : Bool) → ((a || b) || c) ≡ (b || (a || c))
or_turned true true c = refl
or_turned true false c = refl
or_turned false b c = refl

or_none : (a : Bool) → (a || false) ≡ a
or_none true = refl
or_none false = refl

-- ---- the set

contains_same : (key : Key) (keys : List Key) → list_any (is_at (text_order key)) keys ≡ is_among keys key.now
contains_same key [] = refl
contains_same key (k ∷ ks) =
    ap (λ b. b || list_any (is_at (text_order key)) ks) (is_eq-slice_cmp key.now k.now) ∙ ap (λ b. bytes_eq key.now k.now || b) (contains_same key ks)

same_key : (key k : Key) → text_order key k ≡ Equal → key.now ≡ k.now
same_key key k h = (bytes_eq-Decides key.now k.now).0 (sym (is_eq-slice_cmp key.now k.now) ∙ ap is_eq h)

inserted : (name : List ℕ) (key k : Key) (ks : List Key) (o : Ordering) (later : List Key) → text_order key k ≡ o
    → is_among later name ≡ (bytes_eq name key.now || is_among ks name)
    → is_among (match_ordering o (key ∷ k ∷ ks) (k ∷ ks) (k ∷ later)) name ≡ (bytes_eq name key.now || (bytes_eq name k.now || is_among ks name))
inserted name key k ks Less later h is = refl
inserted name key k ks Equal later h is =
    or_twice (bytes_eq name k.now) (is_among ks name) ∙ ap (λ x. bytes_eq name x || (bytes_eq name k.now || is_among ks name)) (sym (same_key key k h))
inserted name key k ks Greater later h is =
    ap (λ b. bytes_eq name k.now || b) is ∙ or_swap (bytes_eq name k.now) (bytes_eq name key.now) (is_among ks name)

among-insert : (name : List ℕ) (key : Key) (keys : List Key) → is_among (insert_key text_order keys key) name ≡ (bytes_eq name key.now || is_among keys name)
among-insert name key [] = refl
among-insert name key (k ∷ ks) = inserted name key k ks (text_order key k) (insert_key text_order ks key) refl (among-insert name key ks)

among_more : (old new : List Key) (key : Key) → new ≡ insert_key text_order old key → (name : List ℕ) → is_among new name ≡ (bytes_eq name key.now || is_among old name)
among_more old new key h name = ap (λ keys. is_among keys name) h ∙ among-insert name key old

pub variable_more : (old new : List Key) (key : Key) (f : CodeForm) → f ≡ code.Variable key → new ≡ insert_key text_order old key
    → (name : List ℕ) → is_among new name ≡ (is_variable_form name (shown_form f) || is_among old name)
variable_more old new key f is h name = among_more old new key h name ∙ ap (λ g. is_variable_form name (shown_form g) || is_among old name) (sym is)

pub binding_more : (old new : List Key) (key : Key) (f : CodeForm) → f ≡ code.Binding key → new ≡ insert_key text_order old key
    → (name : List ℕ) → is_among new name ≡ (is_variable_form name (shown_form f) || is_among old name)
binding_more old new key f is h name = among_more old new key h name ∙ ap (λ g. is_variable_form name (shown_form g) || is_among old name) (sym is)

pub among_none : (keys : List Key) → keys ≡ [] → (name : List ℕ) → is_among keys name ≡ false
among_none keys h name = ap (λ ks. is_among ks name) h

-- `_` is no name
pub has_underscore : (set : HeadNames) (name : List ℕ) (b : Bool) → b ≡ bytes_eq name (codes "_") → b ≡ true → false ≡ has set name
has_underscore set name b is h = sym (ap (λ t. not t && holds set name) (sym is ∙ h))

pub has_other : (set : HeadNames) (key : Key) (b found : Bool) → b ≡ bytes_eq key.now (codes "_") → b ≡ false
    → found ≡ list_any (is_at (text_order key)) set.names.keys → found ≡ has set key.now
has_other set key b found is h look_up =
    look_up ∙ contains_same key set.names.keys ∙ sym (ap (λ t. not t && holds set key.now) (sym is ∙ h))

-- ---- the nodes of a head

-- what was given so far, and what is ahead, name the whole
abbrev pub NamesWith : HeadNames → List Placed → List Placed → Type 0
NamesWith set ahead whole = (name : List ℕ) → (holds set name || list_any (names_variable name) ahead) ≡ list_any (names_variable name) whole

pub names_none : (set : HeadNames) (nodes : List Placed) → ((name : List ℕ) → holds set name ≡ false) → NamesWith set nodes nodes
names_none set nodes none name = ap (λ b. b || list_any (names_variable name) nodes) (none name)

pub names_more : (old new : HeadNames) (n : Node) (f : Form) (ahead rest whole : List Placed) → ahead ≡ shown_node n ∷ rest → f ≡ form_of (exp_tree n.exp.now)
    → ((name : List ℕ) → holds new name ≡ (is_variable_form name f || holds old name)) → NamesWith old ahead whole → NamesWith new rest whole
names_more old new n f ahead rest whole first of more with_them name =
    ap (λ b. b || list_any (names_variable name) rest) (more name ∙ ap (λ g. is_variable_form name g || holds old name) of ∙ ap (λ b. b || holds old name) (sym (variable_by_form name (exp_tree n.exp.now))))
    ∙ or_turned (names_variable name (shown_node n)) (holds old name) (list_any (names_variable name) rest)
    ∙ ap (λ ps. holds old name || list_any (names_variable name) ps) (sym first)
    ∙ with_them name

pub names_all : (set : HeadNames) (head : ExpTree) (ahead whole : List Placed) → ahead ≡ [] → whole ≡ head_placed head → NamesWith set ahead whole → AreNamesOf set head
names_all set head ahead whole none of with_them = record {
  each = λ name.
      ap (λ b. not (bytes_eq name (codes "_")) && b)
      (sym (ap (λ ps. holds set name || list_any (names_variable name) ps) none ∙ or_none (holds set name)) ∙ with_them name ∙ ap (list_any (names_variable name)) of);
}

-- ---- events

pub event_by_names : (set : HeadNames) (head e : ExpTree) → AreNamesOf set head → is_event_form (has set) (form_of e) ≡ is_event head e
event_by_names set head e is =
    let same : has set ≡ (λ name. occurs_in_head name head) = fun_ext is.each in
    ap (λ occurs. is_event_form occurs (form_of e)) same ∙ sym (event_by_form head e)
