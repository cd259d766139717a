-- The numbers of predicates, where one more gets a number.
use Rattle.std.proofs.Common.{◌≡◌, ◌⊎◌, inl, inr, ℕ, ◌+◌, ◌==◌, ◌&&◌, Bool, true, false, cond, List, [], ◌∷◌, ◌++◌, Option, Some, IsSome, length, refl, sym, ◌∙◌, ap, subst, length-append}
use Rattle.std.specs.Prelude.{slice_get}
use Rattle.std.specs.Bool.{beq}
use Rattle.std.specs.Cmp.{booleans_Decides}
use Rattle.std.specs.Str.{bytes_eq}
use Rattle.std.proofs.lemmas.Bool.Decides.{Decides-eqb}
use Rattle.std.proofs.lemmas.Slice.Eq.{bytes_eq-Decides}
use Rattle.pi_core.specs.declared.core_program.CorePred.{CorePred}
use Rattle.pi_terms.proofs.GetLemmas.{get_append_left, get_append_last, get_append_cases}
use Rattle.pi_engine_code.specs.declared.build.numbers.Numbers.{Numbers}
use Rattle.pi_engine_code.specs.Laid.{IsNamed}
use Rattle.pi_engine_code.specs.Numbers.{number_in, IsNumbering}

-- what is named is so among more predicates
pub named-more : (ps : List CorePred) (p : CorePred) (function : Bool) (n : ℕ) (name : List ℕ) (k : ℕ) → IsNamed ps function n name k → IsNamed (ps ++ p ∷ []) function n name k
named-more ps p function n name k is =
    record { pred = is.pred; is = get_append_left ps (p ∷ []) n is.pred is.is; function_is = is.function_is; name_is = is.name_is; arity_is = is.arity_is }

pub both : (a b : Bool) → (a && b) ≡ true → (a ≡ true) × (b ≡ true)
both true true h = (refl, refl)
both true false h = absurd cc
both false b h = absurd cc

and-true : (a b : Bool) → a ≡ true → b ≡ true → (a && b) ≡ true
and-true a b h k = ap (λ r. r && b) h ∙ k

-- a predicate is what a call names
abbrev pub names_it : CorePred → Bool → List ℕ → ℕ → Bool
names_it p function name k = beq p.function function && (bytes_eq p.name name && (p.arity == k))

newest-named : (ps : List CorePred) (p : CorePred) (function : Bool) (n : ℕ) (name : List ℕ) (k : ℕ) → names_it p function name k ≡ true → n ≡ length ps → IsNamed (ps ++ p ∷ []) function n name k
newest-named ps p function n name k h e =
    let first : (beq p.function function ≡ true) × ((bytes_eq p.name name && (p.arity == k)) ≡ true) = both (beq p.function function) (bytes_eq p.name name && (p.arity == k)) h in
    let second : (bytes_eq p.name name ≡ true) × ((p.arity == k) ≡ true) = both (bytes_eq p.name name) (p.arity == k) first.1 in
    record {
      pred = p;
      is = ap (slice_get (ps ++ p ∷ [])) e ∙ get_append_last ps p;
      function_is = (booleans_Decides p.function function).0 first.0;
      name_is = (bytes_eq-Decides p.name name).0 second.0;
      arity_is = (Decides-eqb p.arity k).0 second.1;
    }

found-named : (b : Bool) (ps : List CorePred) (p : CorePred) (function : Bool) (n m : ℕ) (name : List ℕ) (k : ℕ) (old : Option ℕ) → names_it p function name k ≡ b → cond b (Some m) old ≡ Some n →
    m ≡ length ps → (old ≡ Some n → IsNamed ps function n name k) → IsNamed (ps ++ p ∷ []) function n name k
found-named true ps p function n m name k old is found e before = newest-named ps p function n name k is (cc (found, e))
found-named false ps p function n m name k old is found e before = named-more ps p function n name k (before found)

some-either : (b : Bool) (m : ℕ) (old : Option ℕ) → IsSome old → IsSome (cond b (Some m) old)
some-either true m old h = refl
some-either false m old h = h

names-itself : (p : CorePred) → names_it p p.function p.name p.arity ≡ true
names-itself p =
    and-true (beq p.function p.function) (bytes_eq p.name p.name && (p.arity == p.arity)) ((booleans_Decides p.function p.function).1 refl)
    (and-true (bytes_eq p.name p.name) (p.arity == p.arity) ((bytes_eq-Decides p.name p.name).1 refl) ((Decides-eqb p.arity p.arity).1 refl))

pub names-same : (p : CorePred) (f : Bool) (named : List ℕ) (a m : ℕ) (old : Option ℕ) → f ≡ p.function → named ≡ p.name → a ≡ p.arity → (function : Bool) (name : List ℕ) (k : ℕ) →
    cond (beq f function && (bytes_eq named name && (a == k))) (Some m) old ≡ cond (names_it p function name k) (Some m) old
names-same p f named a m old is_function is_name is_arity function name k =
    ap (λ b. cond (beq b function && (bytes_eq named name && (a == k))) (Some m) old) is_function
    ∙ ap (λ b. cond (beq p.function function && (bytes_eq b name && (a == k))) (Some m) old) is_name
    ∙ ap (λ b. cond (beq p.function function && (bytes_eq p.name name && (b == k))) (Some m) old) is_arity

abbrev Updated : Numbers → Numbers → CorePred → Type 0
Updated m n p = (function : Bool) (name : List ℕ) (k : ℕ) → number_in n function name k ≡ cond (names_it p function name k) (Some m.count) (number_in m function name k)

each-more : (m n : Numbers) (ps : List CorePred) (p q : CorePred) (i : ℕ) → IsNumbering m ps → Updated m n p → (slice_get ps i ≡ Some q) ⊎ ((i ≡ length ps) × (q ≡ p)) → IsSome (number_in n q.function q.name q.arity)
each-more m n ps p q i is updated (inl at) =
    subst IsSome (sym (updated q.function q.name q.arity)) (some-either (names_it p q.function q.name q.arity) m.count (number_in m q.function q.name q.arity) (is.each i q at))
each-more m n ps p q i is updated (inr (at, same)) =
    subst (λ r. IsSome (number_in n r.function r.name r.arity)) (sym same)
    (subst IsSome (sym (updated p.function p.name p.arity ∙ ap (λ b. cond b (Some m.count) (number_in m p.function p.name p.arity)) (names-itself p))) refl)

pub numbering-more : (m n : Numbers) (ps : List CorePred) (p : CorePred) → IsNumbering m ps → n.count ≡ m.count + 1 → Updated m n p → IsNumbering n (ps ++ p ∷ [])
numbering-more m n ps p is more updated =
    record {
      count = more ∙ ap (λ k. k + 1) is.count ∙ sym (length-append ps (p ∷ []));
      names = λ function name k i found.
          found-named (names_it p function name k) ps p function i m.count name k (number_in m function name k) refl (sym (updated function name k) ∙ found) is.count (is.names function name k i);
      each = λ i q at. each-more m n ps p q i is updated (get_append_cases ps p i q at);
    }
