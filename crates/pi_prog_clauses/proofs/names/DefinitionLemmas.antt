-- Sets of names, and the lists that have the same ones.
use Rattle.std.proofs.Common.{◌≡◌, ℕ, ◌==◌, ◌&&◌, ◌||◌, Bool, true, false, not, cond, List, [], ◌∷◌, ◌++◌, refl, ap, ◌∙◌, sym}
use Rattle.std.specs.List.{list_any}
use Rattle.std.specs.Str.{bytes_eq}
use Rattle.std.specs.BTreeSet as tree
use Rattle.std.specs.BTreeMap.{is_at}
use Rattle.std.specs.Cmp.{both_tied, unsigned_tied}
use Rattle.std.specs.Cmp.Lexicographic.{slice_cmp}
use Rattle.std.specs.Ordering.{is_eq, ordering_then, nat_cmp, bool_cmp}
use Rattle.std.proofs.lemmas.Bool.Decides.{Decides-eqb}
use Rattle.std.proofs.lemmas.List.Folds.{list_any-append}
use Rattle.std.proofs.lemmas.Map.Text.{is_eq-slice_cmp}
use Rattle.std.proofs.lemmas.Slice.Eq.{bytes_eq-Decides}
use Rattle.pi_prog_clauses.specs.contracts.names.calls.CalledOrd.TheImpl as ord
use Rattle.pi_prog_clauses.specs.Called.{named_by}
use Rattle.pi_prog_clauses.specs.Calls.{Named, same_named, same_bool}
use Rattle.pi_prog_clauses.specs.Defined.{has, IsSetOf, signature_by}
use Rattle.pi_prog_clauses.specs.Verdict.{is_of, is_other_kind}
use Rattle.pi_prog_clauses.specs.declared.names.calls.Called.{Called}
use Rattle.pi_prog_clauses.specs.declared.names.definitions.Definitions.{Definitions}

-- tests

either_same : (a b c d : Bool) → a ≡ c → b ≡ d → (a || b) ≡ (c || d)
either_same a b c d p q = cc

pub or_comm : (a b : Bool) → (a || b) ≡ (b || a)
or_comm true true = refl
or_comm true false = refl
or_comm false true = refl
or_comm false false = refl

pub or_none : (a : Bool) → (a || false) ≡ a
or_none true = refl
or_none false = refl

cond_or : (a b : Bool) → cond a true b ≡ (a || b)
cond_or true b = refl
cond_or false b = refl

same_truth : (a b : Bool) → (a ≡ true → b ≡ true) → (b ≡ true → a ≡ true) → a ≡ b
same_truth true b p q = sym (p refl)
same_truth false true p q = q refl
same_truth false false p q = refl

bytes_eq-sym : (a b : List ℕ) → bytes_eq a b ≡ bytes_eq b a
bytes_eq-sym a b = same_truth (bytes_eq a b) (bytes_eq b a)
    (λ h. (bytes_eq-Decides b a).1 (sym ((bytes_eq-Decides a b).0 h)))
    (λ h. (bytes_eq-Decides a b).1 (sym ((bytes_eq-Decides b a).0 h)))

eqb-sym : (a b : ℕ) → (a == b) ≡ (b == a)
eqb-sym a b = same_truth (a == b) (b == a)
    (λ h. (Decides-eqb b a).1 (sym ((Decides-eqb a b).0 h)))
    (λ h. (Decides-eqb a b).1 (sym ((Decides-eqb b a).0 h)))

same_bool-sym : (a b : Bool) → same_bool a b ≡ same_bool b a
same_bool-sym true true = refl
same_bool-sym true false = refl
same_bool-sym false true = refl
same_bool-sym false false = refl

both_same : (a b c d : Bool) → a ≡ c → b ≡ d → (a && b) ≡ (c && d)
both_same a b c d p q = cc

same_named-sym : (a b : Named) → same_named a b ≡ same_named b a
same_named-sym a b = both_same _ _ _ _ (bytes_eq-sym a.name b.name) (both_same _ _ _ _ (eqb-sym a.arity b.arity) (same_bool-sym a.function b.function))

-- a list's two tests that agree
pub list_any_same : {X : Type 0} (p q : X → Bool) (xs : List X) → ((x : X) → p x ≡ q x) → list_any p xs ≡ list_any q xs
list_any_same p q [] e = refl
list_any_same p q (x ∷ xs) e = either_same (p x) (list_any p xs) (q x) (list_any q xs) (e x) (list_any_same p q xs e)

or_swap : (a b c d : Bool) → ((a || b) || (c || d)) ≡ ((a || c) || (b || d))
or_swap true b c d = refl
or_swap false true true d = refl
or_swap false true false d = refl
or_swap false false c d = refl

pub list_any_or : {X : Type 0} (p q : X → Bool) (xs : List X) → (list_any p xs || list_any q xs) ≡ list_any (λ x. p x || q x) xs
list_any_or p q [] = refl
list_any_or p q (x ∷ xs) = or_swap (p x) (list_any p xs) (q x) (list_any q xs) ∙ either_same (p x || q x) _ (p x || q x) _ refl (list_any_or p q xs)

-- keys

same_kind : (a b : Bool) → same_bool a b ≡ is_eq (bool_cmp a b)
same_kind true true = refl
same_kind true false = refl
same_kind false true = refl
same_kind false false = refl

pub is_same : (k q : Called) → is_at (ord.cmp-value.it k) q ≡ same_named (named_by k) (named_by q)
is_same k q = sym (both_tied (bytes_eq k.name.now q.name.now) ((k.arity == q.arity) && same_bool k.is_function q.is_function)
    (slice_cmp nat_cmp k.name.now q.name.now) (ordering_then (nat_cmp k.arity q.arity) (bool_cmp k.is_function q.is_function))
    (sym (is_eq-slice_cmp k.name.now q.name.now))
    (both_tied (k.arity == q.arity) (same_bool k.is_function q.is_function) (nat_cmp k.arity q.arity) (bool_cmp k.is_function q.is_function)
    (sym (unsigned_tied k.arity q.arity)) (same_kind k.is_function q.is_function)))

pub contains_is : (set : Definitions) (k : Called) → tree.contains ord.cmp-value.it set.names k ≡ has set (named_by k)
contains_is set k = list_any_same (is_at (ord.cmp-value.it k)) (λ (q : Called). same_named (named_by k) (named_by q)) set.names.keys (is_same k)

key_of : Named → Called
key_of c = record { name = record { ref_ptr = (0, 0); now = c.name }; arity = c.arity; is_function = c.function }

abbrev pub Adds : Definitions → Definitions → Called → Type 0
Adds old new n = (q : Called) → tree.contains ord.cmp-value.it new.names q ≡ cond (is_at (ord.cmp-value.it n) q) true (tree.contains ord.cmp-value.it old.names q)

pub set_before : (old new : Definitions) (n : Called) → Adds old new n → (names : List Named) → IsSetOf old names → IsSetOf new (named_by n ∷ names)
unfolding key_of
set_before old new n adds names is = record {
  each = λ call.
      let k : Called = key_of call in
      sym (contains_is new k) ∙ adds k ∙ cond_or (is_at (ord.cmp-value.it n) k) (tree.contains ord.cmp-value.it old.names k)
      ∙ either_same _ _ _ _ (is_same n k ∙ same_named-sym (named_by n) call) (contains_is old k ∙ is.each call);
}

pub set_behind : (old new : Definitions) (n : Called) → Adds old new n → (names : List Named) → IsSetOf old names → IsSetOf new (names ++ named_by n ∷ [])
set_behind old new n adds names is = record {
  each = λ call.
      (set_before old new n adds names is).each call
      ∙ or_comm (same_named call (named_by n)) (list_any (same_named call) names)
      ∙ sym (list_any-append (same_named call) names (named_by n ∷ []) ∙ ap (λ b. list_any (same_named call) names || b) (or_none (same_named call (named_by n))));
}

-- names of one kind or the other

split_and : (a b c : Bool) → ((a && (b && c)) || ((a && b) && not c)) ≡ (a && b)
split_and true true true = refl
split_and true true false = refl
split_and true false c = refl
split_and false b c = refl

same_named_split : (a : Called) (b : Named) → (same_named (named_by a) b || is_other_kind (signature_by a) a.is_function b) ≡ is_of (signature_by a) b
same_named_split a b = split_and (bytes_eq a.name.now b.name) (a.arity == b.arity) (same_bool a.is_function b.function)

pub either_kind : (a : Called) (names : List Named) → (list_any (same_named (named_by a)) names || list_any (is_other_kind (signature_by a) a.is_function) names) ≡ list_any (is_of (signature_by a)) names
either_kind a names = list_any_or (same_named (named_by a)) (is_other_kind (signature_by a) a.is_function) names
    ∙ list_any_same (λ b. same_named (named_by a) b || is_other_kind (signature_by a) a.is_function b) (is_of (signature_by a)) names (same_named_split a)

pub or_first : (a b c : Bool) → (a || b) ≡ c → a ≡ true → a ≡ c
or_first true b c e h = e
or_first false b c e h = absurd cc

pub or_second : (a b c : Bool) → (a || b) ≡ c → a ≡ false → b ≡ c
or_second true b c e h = absurd cc
or_second false b c e h = e
