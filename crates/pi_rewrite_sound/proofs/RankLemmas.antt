-- Quiet predicates behind others have ranks: each reaches, past no Tick, those in front of it alone.
use Rattle.std.proofs.Common.{◌≡◌, ◌⊎◌, inl, inr, ℕ, suc, ◌+◌, ◌<◌, Bool, true, false, cond, List, [], ◌∷◌, ◌++◌, length, refl, sym, ◌∙◌, ap, subst, arith, length-append, append_assoc}
use Rattle.std.specs.Prelude.{Option, Some, None, is_some, IsSome, IsTrue, Contains, ◌||◌}
use Rattle.std.proofs.lemmas.Bool.{false≢true, or_left, or_right}
use Rattle.std.proofs.lemmas.List.{append-nil}
use Rattle.std.proofs.lemmas.List.Elements.{Contains-append_right}
use Rattle.pi_core.specs.GoalTree.{truth}
use Rattle.pi_core.specs.CoreTree.{ClauseTree, PredTree, is_pred, find_pred}
use Rattle.pi_meaning.specs.CoreMeaning.Quiet.{Callee, Reaches, ReachesFrom, IsQuiet, TicksBetween}
use Rattle.pi_meaning.specs.CoreMeaning.Defined.{is_machine_predicate}
use Rattle.pi_rewrite_spec.specs.Forms.{Knows}
use Rattle.pi_rewrite_laws.specs.Within.{AreQuiet}
use Rattle.pi_rewrite_laws.proofs.OwnLemmas.{no-function}
use Rattle.pi_rewrite_laws.proofs.SoundLemmas.{nothing-in, cons-cases}
use Rattle.pi_rewrite_sound.proofs.GoodHelpers.{Allows, Has, AllBefore, ReachesBefore, Falls}
use Rattle.pi_rewrite_sound.proofs.FoundLemmas.{all-found, found-first, found-last}

-- what a program has, what the tables have, and these
abbrev known_or : Knows → List PredTree → Knows
known_or known before = record { predicate = λ name k. (known.predicate name k || is_machine_predicate name k) || is_some (find_pred false name k before); function = λ name k. true }

known-allows : (known : Knows) (before : List PredTree) → Allows known (known_or known before)
known-allows known before = record {
  predicates = λ name k is. or_left (known.predicate name k || is_machine_predicate name k) (is_some (find_pred false name k before)) (or_left (known.predicate name k) (is_machine_predicate name k) is);
  machine = λ name k is. or_left (known.predicate name k || is_machine_predicate name k) (is_some (find_pred false name k before)) (or_right (known.predicate name k) (is_machine_predicate name k) is);
  functions = λ name k is. refl;
  tables = λ name k is. refl;
}

known-has : (known : Knows) (before : List PredTree) → AreQuiet before → Has (known_or known before) before
known-has known before quiet =
    all-found [] before quiet (known_or known before) (λ name k is. or_right (known.predicate name k || is_machine_predicate name k) (is_some (find_pred false name k before)) is)

which : (a b c : Bool) → IsTrue ((a || b) || c) → (IsTrue a ⊎ IsTrue b) ⊎ IsTrue c
which true b c is = inl (inl refl)
which false true c is = inl (inr refl)
which false false c is = inr is

-- ---- places

-- where one is found
place : List PredTree → Callee → ℕ
place [] c = 0
place (p ∷ ps) c = cond (is_pred c.function c.name c.arity p) 0 (suc (place ps c))

-- one that is found stands behind those that it reaches
record At (known : Knows) (before hs : List PredTree) (c : Callee) (pred : PredTree) : Type 0 where
  front : List PredTree
  rest : List PredTree
  is : hs ≡ front ++ pred ∷ rest
  long : place hs c ≡ length front
  falls : AllBefore known (before ++ front) pred.clauses

found-at : (known : Knows) (before hs : List PredTree) → Falls known before hs → (c : Callee) (pred : PredTree) → find_pred c.function c.name c.arity hs ≡ Some pred → At known before hs c pred
unfolding find_pred place
found-at known before [] falls c pred found = absurd cc
found-at known before (p ∷ ps) falls c pred found = go (is_pred c.function c.name c.arity p) refl found (λ later. found-at known (before ++ p ∷ []) ps falls.1 c pred later)
  where
    here : Some p ≡ Some pred → p ≡ pred
    here e = cc

    go : (b : Bool) → is_pred c.function c.name c.arity p ≡ b → cond b (Some p) (find_pred c.function c.name c.arity ps) ≡ Some pred → (find_pred c.function c.name c.arity ps ≡ Some pred → At known (before ++ p ∷ []) ps c pred) → At known before (p ∷ ps) c pred
    go true test h rest = record {
      front = [];
      rest = ps;
      is = ap (λ (x : PredTree). x ∷ ps) (here h);
      long = ap (λ (b : Bool). cond b 0 (suc (place ps c))) test;
      falls = subst (λ (x : PredTree). AllBefore known (before ++ []) x.clauses) (here h) (subst (λ (xs : List PredTree). AllBefore known xs p.clauses) (sym (append-nil before)) falls.0);
    }
    go false test h rest =
        let at : At known (before ++ p ∷ []) ps c pred = rest h in
        record {
          front = p ∷ at.front;
          rest = at.rest;
          is = ap (λ (xs : List PredTree). p ∷ xs) at.is;
          long = ap (λ (b : Bool). cond b 0 (suc (place ps c))) test ∙ ap suc at.long;
          falls = subst (λ (xs : List PredTree). AllBefore known xs pred.clauses) (append_assoc before (p ∷ []) at.front) at.falls;
        }

place-in : (front rest : List PredTree) (c : Callee) → IsSome (find_pred c.function c.name c.arity front) → place (front ++ rest) c < length front
unfolding find_pred place
place-in [] rest c is = absurd (false≢true is)
place-in (p ∷ ps) rest c is = go (is_pred c.function c.name c.arity p) is (λ later. place-in ps rest c later)
  where
    go : (b : Bool) → IsSome (cond b (Some p) (find_pred c.function c.name c.arity ps)) → (IsSome (find_pred c.function c.name c.arity ps) → place (ps ++ rest) c < length ps) → cond b 0 (suc (place (ps ++ rest) c)) < length (p ∷ ps)
    go true h later = omega arith
    go false h later = omega (arith, later h)

clause-at : (known : Knows) (before : List PredTree) (cs : List ClauseTree) → AllBefore known before cs → (c : ClauseTree) → Contains cs c → ReachesBefore known before c
clause-at known before [] all c there = absurd (nothing-in c there)
clause-at known before (d ∷ cs) all c there = go (cons-cases d cs c there) (λ later. clause-at known before cs all.1 c later)
  where
    go : (d ≡ c) ⊎ Contains cs c → (Contains cs c → ReachesBefore known before c) → ReachesBefore known before c
    go (inl same) rest = subst (ReachesBefore known before) same all.0
    go (inr later) rest = rest later

-- ---- ranks

-- guards of helpers reach nothing
abbrev pub NoGuards : List PredTree → Type 0
NoGuards hs = (pred : PredTree) → Contains hs pred → (c : ClauseTree) → Contains pred.clauses c → c.guard ≡ truth

-- what helpers behind others are asked for
pub record StandBehind (known : Knows) (front hs : List PredTree) : Type 0 where
  pub quiet : AreQuiet hs
  pub falls : Falls known [] hs
  pub guards : NoGuards hs
  -- what a program has is loud, and so is what the tables have
  pub loud : (c : Callee) (pred : PredTree) → c.function ≡ false → IsTrue (known.predicate c.name c.arity) ⊎ IsTrue (is_machine_predicate c.name c.arity) → IsQuiet (front ++ hs) c pred → ⊥
  -- what a quiet predicate in front reaches stands in front
  pub apart : (c d : Callee) (pred other : PredTree) (clause : ClauseTree) → IsQuiet front c pred → Contains pred.clauses clause → ReachesFrom d clause → IsQuiet (front ++ hs) d other → IsSome (find_pred d.function d.name d.arity front)

part-quiet : (front rest : List PredTree) → AreQuiet (front ++ rest) → AreQuiet front
part-quiet [] rest quiet = tt
part-quiet (p ∷ ps) rest quiet = (quiet.0, quiet.1, part-quiet ps rest quiet.2)

found-there : (front : List PredTree) (pred : PredTree) (rest : List PredTree) → Contains (front ++ pred ∷ rest) pred
found-there front pred rest = Contains-append_right front (pred ∷ rest) pred (0, omega arith, refl)

reached-body : (d : Callee) (c : ClauseTree) → c.guard ≡ truth → ReachesFrom d c → Reaches d c.body
unfolding Reaches
reached-body d c guard (inl first) = absurd (subst (λ g. Reaches d g) guard first)
reached-body d c guard (inr second) = second.1

module _ (known : Knows) (front hs : List PredTree) (t : TicksBetween front) (b : StandBehind known front hs) where
  rank_by : Callee → Option PredTree → ℕ
  rank_by c None = length front + place hs c
  rank_by c (Some pred) = t.rank c

  same-found : (p q : PredTree) → Some p ≡ Some q → p ≡ q
  same-found p q e = cc

  quiet-front : (c : Callee) (pred : PredTree) → IsQuiet (front ++ hs) c pred → (p : PredTree) → find_pred c.function c.name c.arity front ≡ Some p → IsQuiet front c pred
  quiet-front c pred is p found = (found ∙ ap Some (same-found p pred (sym (found-first c.function c.name c.arity front hs p found) ∙ is.0)), is.1)

  -- in front by the ranks there, and behind by places
  below-by : (c : Callee) (pred : PredTree) → IsQuiet (front ++ hs) c pred → (o : Option PredTree) → find_pred c.function c.name c.arity front ≡ o → rank_by c o < length (front ++ hs)
  unfolding rank_by
  below-by c pred is (Some p) found = omega (arith, t.below c pred (quiet-front c pred is p found), length-append front hs)
  below-by c pred is None found = omega (arith, place-below, length-append front hs)
    where
      place-below : place hs c < length hs
      place-below =
          subst (λ (xs : List PredTree). place xs c < length hs) (append-nil hs) (place-in hs [] c (ap is_some (sym (found-last c.function c.name c.arity front hs found) ∙ is.0)))

  no-some : (o : Option PredTree) → IsSome o → o ≡ None → ⊥
  no-some None is e = false≢true is
  no-some (Some p) is e = absurd cc

  -- a quiet function stands in front
  behind-kind : (d : Callee) (other : PredTree) → find_pred d.function d.name d.arity hs ≡ Some other → d.function ≡ false
  behind-kind d other found = go d.function refl
    where
      go : (k : Bool) → d.function ≡ k → d.function ≡ false
      go true is = absurd (false≢true (sym (ap is_some (no-function d.name d.arity hs b.quiet)) ∙ ap is_some (ap (λ (k : Bool). find_pred k d.name d.arity hs) (sym is) ∙ found)))
      go false is = is

  falls-by : (c d : Callee) (pred other : PredTree) (clause : ClauseTree) → IsQuiet (front ++ hs) c pred → Contains pred.clauses clause → ReachesFrom d clause → IsQuiet (front ++ hs) d other → (o : Option PredTree) → find_pred c.function c.name c.arity front ≡ o →
      (i : Option PredTree) → find_pred d.function d.name d.arity front ≡ i → rank_by d i < rank_by c o
  unfolding rank_by
  falls-by c d pred other clause is inside reaches quiet (Some p) found (Some q) there = t.falls c d pred other clause (quiet-front c pred is p found) inside reaches (quiet-front d other quiet q there)
  falls-by c d pred other clause is inside reaches quiet (Some p) found None there =
      absurd (no-some (find_pred d.function d.name d.arity front) (b.apart c d pred other clause (quiet-front c pred is p found) inside reaches quiet) there)
  falls-by c d pred other clause is inside reaches quiet None found (Some q) there = omega (arith, t.below d other (quiet-front d other quiet q there))
  falls-by c d pred other clause is inside reaches quiet None found None there = go (which (known.predicate d.name d.arity) (is_machine_predicate d.name d.arity) (is_some (find_pred false d.name d.arity at.front)) may)
    where
      last : find_pred d.function d.name d.arity hs ≡ Some other
      last = sym (found-last d.function d.name d.arity front hs there) ∙ quiet.0

      kind : d.function ≡ false
      kind = behind-kind d other last

      at : At known [] hs c pred
      at = found-at known [] hs b.falls c pred (sym (found-last c.function c.name c.arity front hs found) ∙ is.0)

      guard : clause.guard ≡ truth
      guard = b.guards pred (subst (λ (xs : List PredTree). Contains xs pred) (sym at.is) (found-there at.front pred at.rest)) clause inside

      may : IsTrue ((known.predicate d.name d.arity || is_machine_predicate d.name d.arity) || is_some (find_pred false d.name d.arity at.front))
      may =
          clause-at known at.front pred.clauses at.falls clause inside (known_or known at.front) (known-allows known at.front) (known-has known at.front (part-quiet at.front (pred ∷ at.rest) (subst AreQuiet at.is b.quiet))) d
          (reached-body d clause guard reaches) kind

      go : (IsTrue (known.predicate d.name d.arity) ⊎ IsTrue (is_machine_predicate d.name d.arity)) ⊎ IsTrue (is_some (find_pred false d.name d.arity at.front)) → length front + place hs d < length front + place hs c
      go (inl loud) = absurd (b.loud d other kind loud quiet)
      go (inr before) =
          let first : IsSome (find_pred d.function d.name d.arity at.front) = subst (λ (k : Bool). IsSome (find_pred k d.name d.arity at.front)) (sym kind) before in
          let less : place hs d < length at.front = subst (λ (xs : List PredTree). place xs d < length at.front) (sym at.is) (place-in at.front (pred ∷ at.rest) d first) in
          omega (arith, less, at.long)

  pub ticks-behind : TicksBetween (front ++ hs)
  ticks-behind = record {
    rank = λ c. rank_by c (find_pred c.function c.name c.arity front);
    below = λ c pred is. below-by c pred is (find_pred c.function c.name c.arity front) refl;
    falls = λ c d pred other clause is inside reaches quiet. falls-by c d pred other clause is inside reaches quiet (find_pred c.function c.name c.arity front) refl (find_pred d.function d.name d.arity front) refl;
  }
