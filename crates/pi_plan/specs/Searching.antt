-- What holds while the search goes on. A way's cost in the frontier is what was spent on it, or 0 by rests, where the order
-- in which the frontier is taken doesn't count.
use Rattle.std.specs.Prelude.{◌≡◌, ℕ, ◌-◌, ◌≤◌, pos, unsigned_abs, Bool, true, false, cond, List, Option, Some, None, slice_get, Contains}
use Rattle.pi_terms.specs.Tree.{Tree, int}
use Rattle.pi_plan.specs.declared.given.Successor.{Successor}
use Rattle.pi_plan.specs.declared.given.GivenState.{GivenState}
use Rattle.pi_plan.specs.Given.{IsFaultless}
use Rattle.pi_plan.specs.Place.{place_of}
use Rattle.pi_plan.specs.declared.place.Place.{Place}
use Rattle.pi_plan.specs.declared.search.Way.{Way}
use Rattle.pi_plan.specs.declared.due.Due.{Due}
use Rattle.pi_plan.specs.declared.search.Standing.{Standing}

abbrev pub weight : Bool → ℕ → ℕ → ℕ
weight by_rest whole rest = cond by_rest 0 (whole - rest)

-- a state with a rest that was asked for
pub record Asked : Type 0 where
  pub state : Tree
  pub rest : ℕ

abbrev pub rest_of : GivenState → ℕ
rest_of e = unsigned_abs e.rest

abbrev pub asked_of : GivenState → Asked
asked_of e = record { state = e.state; rest = rest_of e }

abbrev pub asked_by : Way → Asked
asked_by w = record { state = w.place.state; rest = w.rest }

abbrev pub place_asked : Bool → Asked → Place
place_asked by_rest p = place_of by_rest p.state p.rest

-- a way is known to a place whose cost is at most this
abbrev pub Covers : Option Standing → ℕ → Type 0
Covers None cost = ⊥
Covers (Some s) cost = s.cost ≤ cost

-- the way that is due
pub record IsDue (by_rest : Bool) (whole : ℕ) (ways : List Way) (d : Due) : Type 0 where
  pub way : Way
  pub at : slice_get ways d.way ≡ Some way
  pub cost : d.cost ≡ weight by_rest whole way.rest
  pub within : way.rest ≤ whole
  pub place : way.place ≡ place_of by_rest way.place.state way.rest

-- a way to this place is due, at no more than this cost
pub record DueWithin (ways : List Way) (due : List Due) (k : Place) (most : ℕ) : Type 0 where
  pub it : Due
  pub among : Contains due it
  pub way : Way
  pub at : slice_get ways it.way ≡ Some way
  pub place : way.place ≡ k
  pub bound : it.cost ≤ most

pub record AskedAt (by_rest : Bool) (asked : List Asked) (k : Place) : Type 0 where
  pub it : Asked
  pub among : Contains asked it
  pub place : place_asked by_rest it ≡ k

-- all that an entry's successors lead to is known
abbrev pub Unfolds : Bool → ℕ → (Place → Option Standing) → GivenState → Type 0
Unfolds by_rest whole known e = (n : Successor) → Contains e.successors n → (c : ℕ) → n.cost ≡ int (pos c) → c ≤ rest_of e →
    Covers (known (place_of by_rest n.state (rest_of e - c))) (weight by_rest whole (rest_of e - c))

-- a search under a whole limit: which entries were unfolded, what was asked for, at a cost of at most the level, the ways, what is
-- known of places, and what is due
pub record IsSearch (by_rest : Bool) (whole level : ℕ) (unfolded : List GivenState) (asked : List Asked) (ways : List Way) (known : Place → Option Standing) (due : List Due) : Type 0 where
  pub dues : (d : Due) → Contains due d → IsDue by_rest whole ways d
  pub above : (d : Due) → Contains due d → level ≤ d.cost
  pub asked_known : (p : Asked) → Contains asked p → known (place_asked by_rest p) ≡ Some (record { cost = weight by_rest whole p.rest; is_asked = true })
  pub asked_below : (p : Asked) → Contains asked p → weight by_rest whole p.rest ≤ level
  pub asked_within : (p : Asked) → Contains asked p → by_rest ≡ false → p.rest ≤ whole
  pub known_asked : (k : Place) (s : Standing) → known k ≡ Some s → s.is_asked ≡ true → AskedAt by_rest asked k
  pub known_due : (k : Place) (s : Standing) → known k ≡ Some s → s.is_asked ≡ false → DueWithin ways due k s.cost
  pub unfolds : (e : GivenState) → Contains unfolded e → Unfolds by_rest whole known e

-- what is known of a place never gets worse
abbrev pub Improves : (Place → Option Standing) → (Place → Option Standing) → Type 0
Improves old new = (k : Place) (most : ℕ) → Covers (old k) most → Covers (new k) most

-- what was given has rests from 0 and no faults
pub record AreGiven (given : List GivenState) : Type 0 where
  pub rests : (e : GivenState) → Contains given e → e.rest ≡ pos (rest_of e)
  pub faultless : (e : GivenState) → Contains given e → (n : Successor) → Contains e.successors n → (c : ℕ) × IsFaultless n c

abbrev pub NoneFinal : List GivenState → Type 0
NoneFinal given = (e : GivenState) → Contains given e → e.is_final ≡ false
