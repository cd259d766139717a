-- Predicates and functions that clauses make: what holds of each, and that no two are one.
use Rattle.std.proofs.Common.{◌≡◌, ◌⊎◌, inl, inr, Bool, true, false, List, [], ◌∷◌, ◌++◌, refl, sym, ◌∙◌, ap, subst, arith}
use Rattle.std.proofs.lemmas.Bool.{false≢true}
use Rattle.std.specs.Prelude.{Option, Some, None, All, AllPairs, Contains}
use Rattle.std.proofs.lemmas.List.Elements.{All-nil, All-cons, All-head, All-tail, All-push, All-weaker, Contains-append_right}
use Rattle.std.proofs.lemmas.List.Kept.{AllPairs-cons}
use Rattle.pi_core.specs.CoreTree.{ClauseTree, PredTree}
use Rattle.pi_syntax.specs.Signature.{Signature}
use Rattle.pi_rewrite_spec.specs.Clauses.{Lowering, grouped, grouped_all}
use Rattle.pi_rewrite_laws.specs.Within.{Key, GoesOn, StandTogether}
use Rattle.pi_rewrite_laws.proofs.SoundLemmas.{nothing-in, cons-cases}
use Rattle.pi_rewrite_laws.proofs.FindLemmas.{Modes, sign, of, key, matches, pred_of, matches-same, matches-itself, grouped-none, grouped-same, grouped-other, keys_of}

-- ---- each of them

-- what holds of clauses, of what they are of and of mode lists, and what then holds of predicates and functions
pub record Holds (R : Bool → Signature → Modes → Type 0) (Q : Bool → Signature → ClauseTree → Type 0) (c : Lowering) : Type 0 where
  pub named : R c.is_function c.head c.modes
  pub clause : Q c.is_function c.head c.clause

pub record HoldsOf (R : Bool → Signature → Modes → Type 0) (Q : Bool → Signature → ClauseTree → Type 0) (p : PredTree) : Type 0 where
  pub quiet : p.quiet ≡ false
  pub named : R p.function (sign p.name p.arity) p.index
  pub clauses : All (Q p.function (sign p.name p.arity)) p.clauses

module _ (R : Bool → Signature → Modes → Type 0) (Q : Bool → Signature → ClauseTree → Type 0) where
  of-clauses : (kind : Bool) (s : Signature) (m : Modes) (ds : List ClauseTree) → R kind s m → All (Q kind s) ds → HoldsOf R Q (pred_of kind s m ds)
  of-clauses kind s m ds named all = record { quiet = refl; named = named; clauses = all }

  first-clause : (c : Lowering) → Holds R Q c → All (Q c.is_function c.head) (c.clause ∷ [])
  first-clause c is = All-cons (Q c.is_function c.head) c.clause [] is.clause (All-nil (Q c.is_function c.head))

  grouped-hold : (kind : Bool) (s : Signature) (m : Modes) (ds : List ClauseTree) (cs : List Lowering) → R kind s m → All (Q kind s) ds → All (Holds R Q) cs → All (HoldsOf R Q) (grouped (pred_of kind s m ds) cs)
  grouped-hold kind s m ds [] named all rest =
      subst (All (HoldsOf R Q)) (sym (grouped-none kind s m ds)) (All-cons (HoldsOf R Q) (pred_of kind s m ds) [] (of-clauses kind s m ds named all) (All-nil (HoldsOf R Q)))
  grouped-hold kind s m ds (c ∷ cs) named all rest =
      tested (matches kind s c.is_function c.head) refl (λ more. grouped-hold kind s m (ds ++ c.clause ∷ []) cs named more (All-tail (Holds R Q) c cs rest))
      (grouped-hold c.is_function c.head c.modes (c.clause ∷ []) cs here.named (first-clause c here) (All-tail (Holds R Q) c cs rest))
    where
      here : Holds R Q c
      here = All-head (Holds R Q) c cs rest

      tested : (b : Bool) → matches kind s c.is_function c.head ≡ b → (All (Q kind s) (ds ++ c.clause ∷ []) → All (HoldsOf R Q) (grouped (pred_of kind s m (ds ++ c.clause ∷ [])) cs)) →
          All (HoldsOf R Q) (grouped (pred_of c.is_function c.head c.modes (c.clause ∷ [])) cs) → All (HoldsOf R Q) (grouped (pred_of kind s m ds) (c ∷ cs))
      tested true h same next =
          let e : (c.is_function ≡ kind) × (c.head ≡ s) = matches-same kind s c.is_function c.head h in
          let one : Q kind s c.clause = subst (λ (t : Signature). Q kind t c.clause) e.1 (subst (λ (k : Bool). Q k c.head c.clause) e.0 here.clause) in
          subst (All (HoldsOf R Q)) (sym (grouped-same kind s m ds c cs h)) (same (All-push (Q kind s) ds c.clause all one))
      tested false h same next =
          subst (All (HoldsOf R Q)) (sym (grouped-other kind s m ds c cs h))
          (All-cons (HoldsOf R Q) (pred_of kind s m ds) (grouped (pred_of c.is_function c.head c.modes (c.clause ∷ [])) cs) (of-clauses kind s m ds named all) next)

  pub groups-hold : (cs : List Lowering) → All (Holds R Q) cs → All (HoldsOf R Q) (grouped_all cs)
  groups-hold [] all = All-nil (HoldsOf R Q)
  groups-hold (c ∷ cs) all =
      let here : Holds R Q c = All-head (Holds R Q) c cs all in
      grouped-hold c.is_function c.head c.modes (c.clause ∷ []) cs here.named (first-clause c here) (All-tail (Holds R Q) c cs all)

-- ---- no two are one

abbrev pub pred_key : PredTree → Key
pred_key p = of p.function (sign p.name p.arity)

abbrev pub Differ : PredTree → PredTree → Type 0
Differ p q = pred_key p ≡ pred_key q → ⊥

-- what isn't the last doesn't come again
not-ahead : (k last : Key) (before rest : List Key) → (last ≡ k → ⊥) → Contains (last ∷ before) k → StandTogether (last ∷ before) rest → (a : Key) → Contains rest a → k ≡ a → ⊥
unfolding StandTogether
not-ahead k last before [] other there together a inside same = nothing-in a inside
not-ahead k last before (b ∷ rest) other there together a inside same =
    go (cons-cases b rest a inside) (λ later. not-ahead k b (last ∷ before) rest (apart together.0) (Contains-append_right (b ∷ []) (last ∷ before) k there) together.1 a later same)
  where
    apart : GoesOn (last ∷ before) b → b ≡ k → ⊥
    apart (inl is) e = other (sym is ∙ e)
    apart (inr new) e = new (subst (λ (x : Key). Contains (last ∷ before) x) (sym e) there)

    go : (b ≡ a) ⊎ Contains rest a → (Contains rest a → ⊥) → ⊥
    go (inl is) behind = apart together.0 (is ∙ sym same)
    go (inr later) behind = behind later

-- keys of predicates are among those of the clauses
abbrev IsAmong : List Key → Bool → Signature → Modes → Type 0
IsAmong ks kind s m = Contains ks (of kind s)

abbrev Any : Bool → Signature → ClauseTree → Type 0
Any kind s c = c ≡ c

among : (ks : List Key) (cs : List Lowering) → ((a : Key) → Contains (keys_of cs) a → Contains ks a) → All (Holds (IsAmong ks) Any) cs
among ks [] all = All-nil (Holds (IsAmong ks) Any)
among ks (c ∷ cs) all =
    All-cons (Holds (IsAmong ks) Any) c cs (record { named = all (key c) (0, omega arith, refl); clause = refl })
    (among ks cs (λ a there. all a (Contains-append_right (key c ∷ []) (keys_of cs) a there)))

differ-behind : (kind : Bool) (s : Signature) (m : Modes) (ds : List ClauseTree) (c : Lowering) (cs : List Lowering) (before : List Key) → matches kind s c.is_function c.head ≡ false → StandTogether (of kind s ∷ before) (keys_of (c ∷ cs)) →
    All (Differ (pred_of kind s m ds)) (grouped (pred_of c.is_function c.head c.modes (c.clause ∷ [])) cs)
unfolding StandTogether
differ-behind kind s m ds c cs before h together =
    All-weaker (HoldsOf (IsAmong (keys_of (c ∷ cs))) Any) (Differ (pred_of kind s m ds)) (λ p is. ahead (pred_key p) is.named) (grouped (pred_of c.is_function c.head c.modes (c.clause ∷ [])) cs)
    (groups-hold (IsAmong (keys_of (c ∷ cs))) Any (c ∷ cs) (among (keys_of (c ∷ cs)) (c ∷ cs) (λ a there. there)))
  where
    signed : Option Signature → Signature
    signed None = s
    signed (Some t) = t

    reversed : key c ≡ of kind s → matches kind s c.is_function c.head ≡ true
    reversed e = ap (λ (x : Key). matches kind s x.kind (signed x.named)) e ∙ matches-itself kind s

    other : key c ≡ of kind s → ⊥
    other e = false≢true (sym h ∙ reversed e)

    ahead : (a : Key) → Contains (keys_of (c ∷ cs)) a → of kind s ≡ a → ⊥
    ahead a there same = go (cons-cases (key c) (keys_of cs) a there)
      where
        go : (key c ≡ a) ⊎ Contains (keys_of cs) a → ⊥
        go (inl is) = other (is ∙ sym same)
        go (inr later) = not-ahead (of kind s) (key c) (of kind s ∷ before) (keys_of cs) other (1, omega arith, refl) together.1 a later same

no-pairs : AllPairs Differ []
no-pairs = λ i j d below within. absurd (omega arith)

grouped-differ : (kind : Bool) (s : Signature) (m : Modes) (ds : List ClauseTree) (cs : List Lowering) (before : List Key) → StandTogether (of kind s ∷ before) (keys_of cs) → AllPairs Differ (grouped (pred_of kind s m ds) cs)
unfolding StandTogether
grouped-differ kind s m ds [] before together =
    subst (AllPairs Differ) (sym (grouped-none kind s m ds)) (AllPairs-cons Differ (pred_of kind s m ds) [] (All-nil (Differ (pred_of kind s m ds))) no-pairs)
grouped-differ kind s m ds (c ∷ cs) before together =
    tested (matches kind s c.is_function c.head) refl (λ more. grouped-differ kind s m (ds ++ c.clause ∷ []) cs (of kind s ∷ before) more)
    (grouped-differ c.is_function c.head c.modes (c.clause ∷ []) cs (of kind s ∷ before) together.1)
  where
    tested : (b : Bool) → matches kind s c.is_function c.head ≡ b → (StandTogether (of kind s ∷ of kind s ∷ before) (keys_of cs) → AllPairs Differ (grouped (pred_of kind s m (ds ++ c.clause ∷ [])) cs)) →
        AllPairs Differ (grouped (pred_of c.is_function c.head c.modes (c.clause ∷ [])) cs) → AllPairs Differ (grouped (pred_of kind s m ds) (c ∷ cs))
    tested true h same next =
        let e : (c.is_function ≡ kind) × (c.head ≡ s) = matches-same kind s c.is_function c.head h in
        subst (AllPairs Differ) (sym (grouped-same kind s m ds c cs h)) (same (subst (λ (x : Key). StandTogether (x ∷ of kind s ∷ before) (keys_of cs)) (ap (λ k. of k c.head) e.0 ∙ ap (of kind) e.1) together.1))
    tested false h same next =
        subst (AllPairs Differ) (sym (grouped-other kind s m ds c cs h))
        (AllPairs-cons Differ (pred_of kind s m ds) (grouped (pred_of c.is_function c.head c.modes (c.clause ∷ [])) cs) (differ-behind kind s m ds c cs before h together) next)

pub groups-differ : (cs : List Lowering) → StandTogether [] (keys_of cs) → AllPairs Differ (grouped_all cs)
unfolding StandTogether
groups-differ [] together = no-pairs
groups-differ (c ∷ cs) together = grouped-differ c.is_function c.head c.modes (c.clause ∷ []) cs [] together.1

-- keys of predicates are those of clauses
pub groups-among : (cs : List Lowering) → All (HoldsOf (IsAmong (keys_of cs)) Any) (grouped_all cs)
groups-among cs = groups-hold (IsAmong (keys_of cs)) Any cs (among (keys_of cs) cs (λ a there. there))
