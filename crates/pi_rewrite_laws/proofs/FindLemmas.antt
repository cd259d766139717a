-- The predicates and functions that clauses make: each has all clauses of its name and number of arguments, in order, and the mode lists of the first.
use Rattle.std.proofs.Common.{◌≡◌, inl, inr, ℕ, Bool, true, false, List, [], ◌∷◌, ◌++◌, map, refl, sym, ◌∙◌, ap, subst, arith, append_assoc}
use Rattle.std.specs.Prelude.{Option, Some, None, filter, Contains, ◌==◌, ◌&&◌}
use Rattle.std.specs.Str.{bytes_eq}
use Rattle.std.specs.Bool.{Decides}
use Rattle.std.proofs.lemmas.Bool.{cond-true, cond-false, false≢true, and_parts}
use Rattle.std.proofs.lemmas.Bool.Decides.{Decides-eqb, Decides-and}
use Rattle.std.proofs.lemmas.Slice.Eq.{bytes_eq-Decides}
use Rattle.std.proofs.lemmas.List.Elements.{Contains-append_right}
use Rattle.std.proofs.lemmas.List.{append-nil}
use Rattle.pi_core.specs.CoreTree.{ClauseTree, PredTree, is_pred, find_pred}
use Rattle.pi_syntax.specs.Signature.{Signature}
use Rattle.pi_syntax.specs.declared.program.Mode.{Mode}
use Rattle.pi_meaning.specs.OverNames.WrittenRules.{is_signature}
use Rattle.pi_rewrite_spec.specs.Clauses.{Lowering, same_kind, is_clause_of, grouped, grouped_all}
use Rattle.pi_rewrite_laws.specs.Within.{Key, GoesOn, StandTogether}
use Rattle.pi_rewrite_laws.proofs.HeadLemmas.{text_by_order}

-- a predicate or function of these clauses, where there are some, behind these mode lists
abbrev pub pred_with : Bool → List ℕ → ℕ → Option (List (List Mode)) → List ClauseTree → Option PredTree
pred_with function name k modes [] = None
pred_with function name k modes (c ∷ cs) = Some (record { name = name; arity = k; function = function; quiet = false; index = modes; clauses = c ∷ cs })

-- ---- which clauses are of what

abbrev pub sign : List ℕ → ℕ → Signature
sign name k = record { name = name; arity = k }

abbrev pub of : Bool → Signature → Key
of kind s = record { kind = kind; named = Some s }

abbrev pub key : Lowering → Key
key c = of c.is_function c.head

abbrev pub matches : Bool → Signature → Bool → Signature → Bool
matches kind s other t = same_kind kind other && is_signature s.name s.arity (Some t)

abbrev pub Modes : Type 0
Modes = Option (List (List Mode))

abbrev pub pred_of : Bool → Signature → Modes → List ClauseTree → PredTree
pred_of kind s m cs = record { name = s.name; arity = s.arity; function = kind; quiet = false; index = m; clauses = cs }

abbrev pub chosen : Bool → Signature → List Lowering → List Lowering
chosen kind s cs = filter (λ c. matches kind s c.is_function c.head) cs

abbrev pub clauses : List Lowering → List ClauseTree
clauses cs = map (λ c. c.clause) cs

-- the mode lists of the first
abbrev pub modes_in : List Lowering → Modes
modes_in [] = None
modes_in (c ∷ cs) = c.modes

sign-decides : (name : List ℕ) (k : ℕ) (s : Signature) → Decides (is_signature name k (Some s)) ((s.name ≡ name) × (s.arity ≡ k))
sign-decides name k s = Decides-and (bytes_eq s.name name) (s.arity == k) (bytes_eq-Decides s.name name) (Decides-eqb s.arity k)

kind-same : (a b : Bool) → same_kind a b ≡ true → b ≡ a
kind-same true true h = refl
kind-same true false h = absurd (false≢true h)
kind-same false true h = absurd (false≢true h)
kind-same false false h = refl

kind-itself : (a : Bool) → same_kind a a ≡ true
kind-itself true = refl
kind-itself false = refl

pub matches-same : (kind : Bool) (s : Signature) (other : Bool) (t : Signature) → matches kind s other t ≡ true → (other ≡ kind) × (t ≡ s)
matches-same kind s other t h =
    let parts : (same_kind kind other ≡ true) × (is_signature s.name s.arity (Some t) ≡ true) = and_parts (same_kind kind other) (is_signature s.name s.arity (Some t)) h in
    let e : (t.name ≡ s.name) × (t.arity ≡ s.arity) = (sign-decides s.name s.arity t).0 parts.1 in
    (kind-same kind other parts.0, ap (λ n. sign n t.arity) e.0 ∙ ap (sign s.name) e.1)

pub matches-itself : (kind : Bool) (s : Signature) → matches kind s kind s ≡ true
matches-itself kind s = ap (λ c. c && is_signature s.name s.arity (Some s)) (kind-itself kind) ∙ (sign-decides s.name s.arity s).1 (refl, refl)

matches-not : (kind : Bool) (s : Signature) (other : Bool) (t : Signature) → (of other t ≡ of kind s → ⊥) → matches kind s other t ≡ false
matches-not kind s other t apart = go (matches kind s other t) refl
  where
    go : (c : Bool) → matches kind s other t ≡ c → matches kind s other t ≡ false
    go true h = let e : (other ≡ kind) × (t ≡ s) = matches-same kind s other t h in absurd (apart (ap (λ k. of k t) e.0 ∙ ap (of kind) e.1))
    go false h = h

-- ---- looking up

is-it : (kind : Bool) (s : Signature) (other : Bool) (t : Signature) (m : Modes) (cs : List ClauseTree) → is_pred kind s.name s.arity (pred_of other t m cs) ≡ matches kind s other t
is-it true s other t m cs = ap (λ b. other && (b && (t.arity == s.arity))) (text_by_order t.name s.name)
is-it false s true t m cs = refl
is-it false s false t m cs = ap (λ b. b && (t.arity == s.arity)) (text_by_order t.name s.name)

find-first : (kind : Bool) (s : Signature) (other : Bool) (t : Signature) (m : Modes) (cs : List ClauseTree) (ps : List PredTree) → matches kind s other t ≡ true → find_pred kind s.name s.arity (pred_of other t m cs ∷ ps) ≡ Some (pred_of other t m cs)
unfolding find_pred
find-first kind s other t m cs ps h = cond-true (is_pred kind s.name s.arity (pred_of other t m cs)) (Some (pred_of other t m cs)) (find_pred kind s.name s.arity ps) (is-it kind s other t m cs ∙ h)

find-behind : (kind : Bool) (s : Signature) (other : Bool) (t : Signature) (m : Modes) (cs : List ClauseTree) (ps : List PredTree) → matches kind s other t ≡ false → find_pred kind s.name s.arity (pred_of other t m cs ∷ ps) ≡ find_pred kind s.name s.arity ps
unfolding find_pred
find-behind kind s other t m cs ps h = cond-false (is_pred kind s.name s.arity (pred_of other t m cs)) (Some (pred_of other t m cs)) (find_pred kind s.name s.arity ps) (is-it kind s other t m cs ∙ h)

find-nothing : (kind : Bool) (s : Signature) → find_pred kind s.name s.arity [] ≡ None
unfolding find_pred
find-nothing kind s = refl

-- ---- groups

pub grouped-none : (kind : Bool) (s : Signature) (m : Modes) (ds : List ClauseTree) → grouped (pred_of kind s m ds) [] ≡ pred_of kind s m ds ∷ []
unfolding grouped
grouped-none kind s m ds = refl

pub grouped-same : (kind : Bool) (s : Signature) (m : Modes) (ds : List ClauseTree) (c : Lowering) (cs : List Lowering) → matches kind s c.is_function c.head ≡ true → grouped (pred_of kind s m ds) (c ∷ cs) ≡ grouped (pred_of kind s m (ds ++ c.clause ∷ [])) cs
unfolding grouped
grouped-same kind s m ds c cs h = cond-true (is_clause_of (pred_of kind s m ds) c) _ _ h

pub grouped-other : (kind : Bool) (s : Signature) (m : Modes) (ds : List ClauseTree) (c : Lowering) (cs : List Lowering) → matches kind s c.is_function c.head ≡ false →
    grouped (pred_of kind s m ds) (c ∷ cs) ≡ pred_of kind s m ds ∷ grouped (pred_of c.is_function c.head c.modes (c.clause ∷ [])) cs
unfolding grouped
grouped-other kind s m ds c cs h = cond-false (is_clause_of (pred_of kind s m ds) c) _ _ h

chosen-it : (kind : Bool) (s : Signature) (c : Lowering) (cs : List Lowering) → matches kind s c.is_function c.head ≡ true → chosen kind s (c ∷ cs) ≡ c ∷ chosen kind s cs
chosen-it kind s c cs h = cond-true (matches kind s c.is_function c.head) (c ∷ chosen kind s cs) (chosen kind s cs) h

chosen-not : (kind : Bool) (s : Signature) (c : Lowering) (cs : List Lowering) → matches kind s c.is_function c.head ≡ false → chosen kind s (c ∷ cs) ≡ chosen kind s cs
chosen-not kind s c cs h = cond-false (matches kind s c.is_function c.head) (c ∷ chosen kind s cs) (chosen kind s cs) h

abbrev pub keys_of : List Lowering → List Key
keys_of cs = map key cs

-- one that isn't the last doesn't come again
none-ahead : (kind : Bool) (s : Signature) (last : Key) (before : List Key) (cs : List Lowering) → (last ≡ of kind s → ⊥) → Contains (last ∷ before) (of kind s) → StandTogether (last ∷ before) (keys_of cs) → chosen kind s cs ≡ []
unfolding StandTogether
none-ahead kind s last before [] other there together = refl
none-ahead kind s last before (c ∷ cs) other there together =
    let apart : key c ≡ of kind s → ⊥ = go together.0 in
    chosen-not kind s c cs (matches-not kind s c.is_function c.head apart)
    ∙ none-ahead kind s (key c) (last ∷ before) cs apart (Contains-append_right (key c ∷ []) (last ∷ before) (of kind s) there) together.1
  where
    go : GoesOn (last ∷ before) (key c) → key c ≡ of kind s → ⊥
    go (inl same) e = other (sym same ∙ e)
    go (inr new) e = new (subst (λ (x : Key). Contains (last ∷ before) x) (sym e) there)

-- the one that is being made has all its clauses
find-here : (kind : Bool) (s : Signature) (m : Modes) (ds : List ClauseTree) (cs : List Lowering) (before : List Key) → StandTogether (of kind s ∷ before) (keys_of cs) →
    find_pred kind s.name s.arity (grouped (pred_of kind s m ds) cs) ≡ Some (pred_of kind s m (ds ++ clauses (chosen kind s cs)))
unfolding StandTogether
find-here kind s m ds [] before together =
    ap (find_pred kind s.name s.arity) (grouped-none kind s m ds) ∙ find-first kind s kind s m ds [] (matches-itself kind s) ∙ ap (λ xs. Some (pred_of kind s m xs)) (sym (append-nil ds))
find-here kind s m ds (c ∷ cs) before together = tested (matches kind s c.is_function c.head) refl (λ same. find-here kind s m (ds ++ c.clause ∷ []) cs (of kind s ∷ before) same)
  where
    tested : (b : Bool) → matches kind s c.is_function c.head ≡ b →
        (StandTogether (of kind s ∷ of kind s ∷ before) (keys_of cs) → find_pred kind s.name s.arity (grouped (pred_of kind s m (ds ++ c.clause ∷ [])) cs) ≡ Some (pred_of kind s m ((ds ++ c.clause ∷ []) ++ clauses (chosen kind s cs)))) →
        find_pred kind s.name s.arity (grouped (pred_of kind s m ds) (c ∷ cs)) ≡ Some (pred_of kind s m (ds ++ clauses (chosen kind s (c ∷ cs))))
    tested true h more =
        let e : (c.is_function ≡ kind) × (c.head ≡ s) = matches-same kind s c.is_function c.head h in
        ap (find_pred kind s.name s.arity) (grouped-same kind s m ds c cs h)
        ∙ more (subst (λ (x : Key). StandTogether (x ∷ of kind s ∷ before) (keys_of cs)) (ap (λ k. of k c.head) e.0 ∙ ap (of kind) e.1) together.1)
        ∙ ap (λ xs. Some (pred_of kind s m xs)) (append_assoc ds (c.clause ∷ []) (clauses (chosen kind s cs)))
        ∙ ap (λ xs. Some (pred_of kind s m (ds ++ clauses xs))) (sym (chosen-it kind s c cs h))
    tested false h more =
        let other : key c ≡ of kind s → ⊥ = λ e. false≢true (sym h ∙ reversed e) in
        ap (find_pred kind s.name s.arity) (grouped-other kind s m ds c cs h)
        ∙ find-first kind s kind s m ds _ (matches-itself kind s)
        ∙ ap (λ xs. Some (pred_of kind s m xs)) (sym (append-nil ds))
        ∙ ap (λ xs. Some (pred_of kind s m (ds ++ clauses xs))) (sym (chosen-not kind s c cs h ∙ none-ahead kind s (key c) (of kind s ∷ before) cs other (1, omega arith, refl) together.1))
      where
        signed : Option Signature → Signature
        signed None = s
        signed (Some t) = t

        reversed : key c ≡ of kind s → matches kind s c.is_function c.head ≡ true
        reversed e =
            ap (λ (x : Key). matches kind s x.kind (signed x.named)) e ∙ matches-itself kind s

abbrev pub pred_from : Bool → Signature → List Lowering → Option PredTree
pred_from kind s cs = pred_with kind s.name s.arity (modes_in cs) (clauses cs)

-- one that begins here
find-begun : (kind : Bool) (s : Signature) (c : Lowering) (cs : List Lowering) (before : List Key) → StandTogether (key c ∷ before) (keys_of cs) →
    (matches kind s c.is_function c.head ≡ false → find_pred kind s.name s.arity (grouped (pred_of c.is_function c.head c.modes (c.clause ∷ [])) cs) ≡ pred_from kind s (chosen kind s cs)) → (b : Bool) → matches kind s c.is_function c.head ≡ b →
    find_pred kind s.name s.arity (grouped (pred_of c.is_function c.head c.modes (c.clause ∷ [])) cs) ≡ pred_from kind s (chosen kind s (c ∷ cs))
find-begun kind s c cs before together later true h =
    let e : (c.is_function ≡ kind) × (c.head ≡ s) = matches-same kind s c.is_function c.head h in
    let same : key c ≡ of kind s = ap (λ k. of k c.head) e.0 ∙ ap (of kind) e.1 in
    ap (λ (k : Bool). find_pred kind s.name s.arity (grouped (pred_of k c.head c.modes (c.clause ∷ [])) cs)) e.0
    ∙ ap (λ (t : Signature). find_pred kind s.name s.arity (grouped (pred_of kind t c.modes (c.clause ∷ [])) cs)) e.1
    ∙ find-here kind s c.modes (c.clause ∷ []) cs before (subst (λ (x : Key). StandTogether (x ∷ before) (keys_of cs)) same together)
    ∙ ap (λ xs. pred_from kind s xs) (sym (chosen-it kind s c cs h))
find-begun kind s c cs before together later false h = later h ∙ ap (λ xs. pred_from kind s xs) (sym (chosen-not kind s c cs h))

-- another than the one that is being made
find-later : (kind : Bool) (s : Signature) (other : Bool) (t : Signature) (m : Modes) (ds : List ClauseTree) (cs : List Lowering) (before : List Key) → StandTogether (of other t ∷ before) (keys_of cs) → matches kind s other t ≡ false →
    find_pred kind s.name s.arity (grouped (pred_of other t m ds) cs) ≡ pred_from kind s (chosen kind s cs)
unfolding StandTogether
find-later kind s other t m ds [] before together apart = ap (find_pred kind s.name s.arity) (grouped-none other t m ds) ∙ find-behind kind s other t m ds [] apart ∙ find-nothing kind s
find-later kind s other t m ds (c ∷ cs) before together apart =
    tested (matches other t c.is_function c.head) refl (λ more. find-later kind s other t m (ds ++ c.clause ∷ []) cs (of other t ∷ before) more apart)
    (λ more not. find-later kind s c.is_function c.head c.modes (c.clause ∷ []) cs (of other t ∷ before) more not)
  where
    tested : (b : Bool) → matches other t c.is_function c.head ≡ b →
        (StandTogether (of other t ∷ of other t ∷ before) (keys_of cs) → find_pred kind s.name s.arity (grouped (pred_of other t m (ds ++ c.clause ∷ [])) cs) ≡ pred_from kind s (chosen kind s cs)) →
        (StandTogether (key c ∷ of other t ∷ before) (keys_of cs) → matches kind s c.is_function c.head ≡ false → find_pred kind s.name s.arity (grouped (pred_of c.is_function c.head c.modes (c.clause ∷ [])) cs) ≡ pred_from kind s (chosen kind s cs)) →
        find_pred kind s.name s.arity (grouped (pred_of other t m ds) (c ∷ cs)) ≡ pred_from kind s (chosen kind s (c ∷ cs))
    tested true h same next =
        let e : (c.is_function ≡ other) × (c.head ≡ t) = matches-same other t c.is_function c.head h in
        ap (find_pred kind s.name s.arity) (grouped-same other t m ds c cs h)
        ∙ same (subst (λ (x : Key). StandTogether (x ∷ of other t ∷ before) (keys_of cs)) (ap (λ k. of k c.head) e.0 ∙ ap (of other) e.1) together.1)
        ∙ ap (λ xs. pred_from kind s xs) (sym (chosen-not kind s c cs (ap (λ k. matches kind s k c.head) e.0 ∙ ap (matches kind s other) e.1 ∙ apart)))
    tested false h same next =
        ap (find_pred kind s.name s.arity) (grouped-other other t m ds c cs h)
        ∙ find-behind kind s other t m ds _ apart
        ∙ find-begun kind s c cs (of other t ∷ before) together.1 (next together.1) (matches kind s c.is_function c.head) refl

pub find-all : (kind : Bool) (s : Signature) (cs : List Lowering) → StandTogether [] (keys_of cs) → find_pred kind s.name s.arity (grouped_all cs) ≡ pred_from kind s (chosen kind s cs)
unfolding StandTogether
find-all kind s [] together = find-nothing kind s
find-all kind s (c ∷ cs) together =
    find-begun kind s c cs [] together.1 (λ not. find-later kind s c.is_function c.head c.modes (c.clause ∷ []) cs [] together.1 not) (matches kind s c.is_function c.head) refl
