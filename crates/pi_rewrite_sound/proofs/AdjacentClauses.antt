-- The clauses of each predicate and each function of a program without a fault stand together, behind those of the prelude, and no name is both a predicate's and a function's.
use Rattle.std.proofs.Common.{◌≡◌, inl, inr, ℕ, zero, suc, Bool, true, false, if◌then◌else◌, List, [], ◌∷◌, ◌++◌, map, refl, ap, ◌∙◌, sym, subst, arith}
use Rattle.std.specs.Prelude.{◌&&◌, not, Option, Some, None, Contains, codes}
use Rattle.std.specs.List.{list_any}
use Rattle.std.proofs.lemmas.Bool.{or_parts, or_from, cases_Bool, false≢true}
use Rattle.std.proofs.lemmas.List.Elements.{Contains-append_cases, filter_map-append}
use Rattle.pi_syntax.specs.Signature.{Signature, exp_count}
use Rattle.pi_meaning.specs.OverNames.WrittenRules.{is_signature}
use Rattle.pi_meaning.specs.OverNames.Prelude.{prelude}
use Rattle.pi_prog_clauses.specs.Calls.{Named}
use Rattle.pi_prog_clauses.specs.Verdict.{JudgedPart, all_defined, same_signature, stands_apart, first_apart, parts_of}
use Rattle.pi_rewrite_laws.specs.Within.{Key, key_of, keys, GoesOn, StandTogether}
use Rattle.pi_rewrite_sound.proofs.FaultlessParts.{AreGood}
use Rattle.pi_rewrite_sound.proofs.ShownKeys.{signed, shown, keys-shown, none-of, IsOwn, all-own, one-kind, same-signed, named-same, is_key_of, prelude-key, members, appends, selects, prelude-before, not-before, not-in-front}

-- ---- one clause behind others

same-shown : (d e : Named) → same_signature d e ≡ true → d.function ≡ e.function → shown d ≡ shown e
same-shown d e same kind =
    ap (λ (s : Signature). record { kind = d.function; named = Some s }) (same-signed d e same) ∙ ap (λ (b : Bool). record { kind = b; named = Some (signed e) }) kind

differs : (d e : Named) → same_signature d e ≡ false → shown e ≡ shown d → ⊥
differs d e other is = false≢true (sym other ∙ named-same d e (ap (λ (k : Key). k.named) (sym is)))

absent : (d : Named) (ds : List Named) → list_any (same_signature d) ds ≡ false → Contains (map shown ds) (shown d) → ⊥
absent d [] none (i, below, is) = absurd (omega (arith, below))
absent d (e ∷ ds) none (zero, below, is) = differs d e (or_parts (same_signature d e) (list_any (same_signature d) ds) none).0 is
absent d (e ∷ ds) none (suc i, below, is) = absent d ds (or_parts (same_signature d e) (list_any (same_signature d) ds) none).1 (i, omega (arith, below), is)

not-earlier : (same earlier : Bool) → same ≡ false → (not same && earlier) ≡ false → earlier ≡ false
not-earlier true earlier other e = absurd cc
not-earlier false earlier other e = e

contains-first : {X : Type 0} (x : X) (xs : List X) → Contains (x ∷ xs) x
contains-first x xs = (0, omega arith, refl)

contains-later : {X : Type 0} (x : X) (xs : List X) (y : X) → Contains xs y → Contains (x ∷ xs) y
contains-later x xs y is = (suc is.0, omega (arith, is.1), is.2)

new-behind : (front : List Key) (a : Key) → (Contains front a → ⊥) → GoesOn front a
new-behind [] a none = tt
new-behind (last ∷ before) a none = inr none

abbrev AreWithin : List Named → List Named → Type 0
AreWithin all ds = (d : Named) → Contains ds d → Contains all d

stands : (front : List Key) (all before : List Named) (d : Named) → AreWithin all before → IsOwn all d → (Contains front (shown d) → ⊥) → stands_apart before d ≡ false → GoesOn (map shown before ++ front) (shown d)
stands front all [] d within own none e = new-behind front (shown d) none
stands front all (last ∷ before) d within own none e = elim (cases_Bool (same_signature d last)) [
  | inl same ↦ inl (same-shown d last same (one-kind all d last own (within last (contains-first last before)) same))
  | inr other ↦ inr (λ among. elim (Contains-append_cases (map shown (last ∷ before)) front (shown d) among) [
    | inl here ↦
        absent d (last ∷ before)
        (or_from (same_signature d last) (list_any (same_signature d) before) other (not-earlier (same_signature d last) (list_any (same_signature d) before) other e)) here
    | inr there ↦ none there
  ])
]

-- ---- all of them

stands-on : {X : Type 0} (b : Bool) (later : Option X) (d : X) → (if b then Some d else later) ≡ None → (b ≡ false) × (later ≡ None)
stands-on true later d e = absurd cc
stands-on false later d e = (refl, e)

more-within : (all before : List Named) (d : Named) → AreWithin all before → Contains all d → AreWithin all (d ∷ before)
more-within all before d within here e (zero, below, is) = subst (Contains all) is here
more-within all before d within here e (suc i, below, is) = within e (i, omega (arith, below), is)

together : (all before ds : List Named) → AreWithin all before → AreWithin all ds → ((d : Named) → Contains all d → IsOwn all d) → first_apart before ds ≡ None →
    StandTogether (map shown before ++ prelude-before) (map shown ds)
unfolding StandTogether
together all before [] within ahead own e = tt
together all before (d ∷ ds) within ahead own e =
    let both : (stands_apart before d ≡ false) × (first_apart (d ∷ before) ds ≡ None) = stands-on (stands_apart before d) (first_apart (d ∷ before) ds) d e in
    let here : Contains all d = ahead d (contains-first d ds) in (
      stands prelude-before all before d within (own d here) (not-before all d (own d here)) both.0,
      together all (d ∷ before) ds (more-within all before d within here) (λ x among. ahead x (contains-later d ds x among)) own both.1,
    )

-- ---- the prelude in front

apart-by : (name : List ℕ) (k : ℕ) (ks : List Key) (a : Key) → list_any (is_key_of name k) ks ≡ false → is_signature name k a.named ≡ true → Contains ks a → ⊥
apart-by name k ks a none is among = false≢true (sym (none-of (is_key_of name k) ks none a among) ∙ is)

prelude-together : (rest : List Key) → StandTogether prelude-before rest → StandTogether [] (keys prelude ++ rest)
unfolding StandTogether prelude exp_count
prelude-together rest h = (
  tt,
  (
    inl refl,
    (
      inr (λ among. apart-by (codes "append") 3 members (prelude-key (codes "append") 3) refl refl among),
      (
        inl refl,
        (
          inl refl,
          (
            inl refl,
            (
              inr (λ among. apart-by (codes "select") 3 appends (prelude-key (codes "select") 3) refl refl among),
              (
                inl refl,
                (inr (λ among. apart-by (codes "between") 3 selects (prelude-key (codes "between") 3) refl refl among), (inl refl, h)),
              ),
            ),
          ),
        ),
      ),
    ),
  ),
)

-- ---- kinds

prelude-kinds : list_any (λ (key : Key). key.kind) (keys prelude) ≡ false
unfolding prelude
prelude-kinds = refl

shown-of : (ds : List Named) (a : Key) → Contains (map shown ds) a → (d : Named) × (Contains ds d × (shown d ≡ a))
shown-of [] a (i, below, is) = absurd (omega (arith, below))
shown-of (d ∷ ds) a (zero, below, is) = (d, (contains-first d ds, is))
shown-of (d ∷ ds) a (suc i, below, is) =
    let later : (e : Named) × (Contains ds e × (shown e ≡ a)) = shown-of ds a (i, omega (arith, below), is) in
    (later.0, (contains-later d ds later.0 later.1.0, later.1.1))

one-of-both : (all : List Named) → ((d : Named) → Contains all d → IsOwn all d) → (a b : Key) → Contains (keys prelude) a → Contains (map shown all) b → a.named ≡ b.named → ⊥
one-of-both all own a b front behind same =
    let of : (d : Named) × (Contains all d × (shown d ≡ b)) = shown-of all b behind in
    not-in-front all of.0 a (own of.0 of.1.0) front (same ∙ ap (λ (k : Key). k.named) (sym of.1.1))

both-defined : (all : List Named) → ((d : Named) → Contains all d → IsOwn all d) → (a b : Key) → Contains (map shown all) a → Contains (map shown all) b → a.named ≡ b.named → a.kind ≡ b.kind
both-defined all own a b first second same =
    let d : (x : Named) × (Contains all x × (shown x ≡ a)) = shown-of all a first in
    let e : (x : Named) × (Contains all x × (shown x ≡ b)) = shown-of all b second in
    let named : Some (signed d.0) ≡ Some (signed e.0) = ap (λ (k : Key). k.named) d.1.1 ∙ same ∙ ap (λ (k : Key). k.named) (sym e.1.1) in
    ap (λ (k : Key). k.kind) (sym d.1.1) ∙ one-kind all d.0 e.0 (own d.0 d.1.0) e.1.0 (named-same d.0 e.0 named) ∙ ap (λ (k : Key). k.kind) e.1.1

kinds-apart : (all : List Named) → ((d : Named) → Contains all d → IsOwn all d) → (a b : Key) → Contains (keys prelude ++ map shown all) a → Contains (keys prelude ++ map shown all) b → a.named ≡ b.named → a.kind ≡ b.kind
kinds-apart all own a b first second same = elim (Contains-append_cases (keys prelude) (map shown all) a first) [
  | inl front ↦ elim (Contains-append_cases (keys prelude) (map shown all) b second) [
    | inl other ↦ none-of (λ (key : Key). key.kind) (keys prelude) prelude-kinds a front ∙ sym (none-of (λ (key : Key). key.kind) (keys prelude) prelude-kinds b other)
    | inr behind ↦ absurd (one-of-both all own a b front behind same)
  ]
  | inr behind ↦ elim (Contains-append_cases (keys prelude) (map shown all) b second) [
    | inl front ↦ absurd (one-of-both all own b a front behind (sym same))
    | inr other ↦ both-defined all own a b behind other same
  ]
]

-- ---- a program

pub keys-behind : (js : List JudgedPart) → AreGood (all_defined js) js → keys (prelude ++ parts_of js) ≡ keys prelude ++ map shown (all_defined js)
keys-behind js good = filter_map-append (λ p. key_of p.clause) prelude (parts_of js) ∙ ap (λ ks. keys prelude ++ ks) (keys-shown (all_defined js) js good)

pub program-together : (js : List JudgedPart) → AreGood (all_defined js) js → first_apart [] (all_defined js) ≡ None → StandTogether [] (keys (prelude ++ parts_of js))
program-together js good adjacent =
    let all : List Named = all_defined js in
    subst (StandTogether []) (sym (keys-behind js good))
    (prelude-together (map shown all) (together all [] all (λ d among. absurd (omega (arith, among.1))) (λ d among. among) (all-own all js good) adjacent))

pub program-apart : (js : List JudgedPart) → AreGood (all_defined js) js → (a b : Key) → Contains (keys (prelude ++ parts_of js)) a → Contains (keys (prelude ++ parts_of js)) b → a.named ≡ b.named → a.kind ≡ b.kind
program-apart js good a b first second same =
    kinds-apart (all_defined js) (all-own (all_defined js) js good) a b (subst (λ ks. Contains ks a) (keys-behind js good) first) (subst (λ ks. Contains ks b) (keys-behind js good) second) same
