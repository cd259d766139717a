-- Nodes that call what is known, and stand where they may.
use Rattle.std.proofs.Common.{◌≡◌, ℕ, Bool, true, false, if◌then◌else◌, List, [], ◌∷◌, ◌++◌, refl}
use Rattle.std.specs.Prelude.{Option, Some, None, ⊤}
use Rattle.std.specs.List.{list_any}
use Rattle.std.proofs.lemmas.Bool.{or_parts}
use Rattle.pi_syntax.specs.Forms.{is_form}
use Rattle.pi_prog_clauses.specs.Calls.{Named, named, is_planner_call, planner_calls, goal_calls, node_calls, calls_among, is_known, first_unknown}
use Rattle.pi_prog_clauses.specs.Items.{is_misplaced}
use Rattle.pi_prog_clauses.specs.Places.{Placed}

-- each of these calls is known
abbrev pub AreKnown : List Named → List Named → Type 0
AreKnown defined [] = ⊤
AreKnown defined (c ∷ cs) = (is_known defined c ≡ true) × AreKnown defined cs

-- all that these nodes call, and none of them is misplaced
abbrev pub AreFine : List Named → List Placed → Type 0
AreFine defined [] = ⊤
AreFine defined (n ∷ ns) = (AreKnown defined (node_calls n) × (is_misplaced n ≡ false)) × AreFine defined ns

-- ---- taking apart

pub goes-on : {X : Type 0} (b : Bool) (later : Option X) (c : X) → (if b then later else Some c) ≡ None → (b ≡ true) × (later ≡ None)
goes-on true later c e = (refl, e)
goes-on false later c e = absurd cc

calls-apart : (defined xs ys : List Named) → AreKnown defined (xs ++ ys) → AreKnown defined xs × AreKnown defined ys
calls-apart defined [] ys h = (tt, h)
calls-apart defined (x ∷ xs) ys h =
    let rest : AreKnown defined xs × AreKnown defined ys = calls-apart defined xs ys h.1 in
    ((h.0, rest.0), rest.1)

pub nodes-apart : (defined : List Named) (xs ys : List Placed) → AreFine defined (xs ++ ys) → AreFine defined xs × AreFine defined ys
nodes-apart defined [] ys h = (tt, h)
nodes-apart defined (x ∷ xs) ys h =
    let rest : AreFine defined xs × AreFine defined ys = nodes-apart defined xs ys h.1 in
    ((h.0, rest.0), rest.1)

-- ---- none is unknown, and none misplaced

calls-known : (defined cs : List Named) → first_unknown defined cs ≡ None → AreKnown defined cs
calls-known defined [] none = tt
calls-known defined (c ∷ cs) none =
    let both : (is_known defined c ≡ true) × (first_unknown defined cs ≡ None) = goes-on (is_known defined c) (first_unknown defined cs) c none in
    (both.0, calls-known defined cs both.1)

each-node : (defined : List Named) (ns : List Placed) → AreKnown defined (calls_among ns) → list_any is_misplaced ns ≡ false → AreFine defined ns
each-node defined [] h placed = tt
each-node defined (n ∷ ns) h placed =
    let both : AreKnown defined (node_calls n) × AreKnown defined (calls_among ns) = calls-apart defined (node_calls n) (calls_among ns) h in
    let parts : (is_misplaced n ≡ false) × (list_any is_misplaced ns ≡ false) = or_parts (is_misplaced n) (list_any is_misplaced ns) placed in
    ((both.0, parts.0), each-node defined ns both.1 parts.1)

pub nodes-fine : (defined : List Named) (ns : List Placed) → first_unknown defined (calls_among ns) ≡ None → list_any is_misplaced ns ≡ false → AreFine defined ns
nodes-fine defined ns none placed = each-node defined ns (calls-known defined (calls_among ns) none) placed

-- ---- what a goal calls that is no form

first-known : (defined : List Named) (form planner : Bool) (c : Named) (more : List Named) → form ≡ false → AreKnown defined (if form then [] else if planner then c ∷ more else c ∷ []) → is_known defined c ≡ true
first-known defined true planner c more no-form h = absurd cc
first-known defined false true c more no-form h = h.0
first-known defined false false c more no-form h = h.0

pub goal-known : (defined : List Named) (name : List ℕ) (k : ℕ) → is_form name k ≡ false → AreKnown defined (goal_calls name k) → is_known defined (named name k false) ≡ true
goal-known defined name k no-form h = first-known defined (is_form name k) (is_planner_call name k) (named name k false) planner_calls no-form h
