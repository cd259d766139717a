-- The constraints on a variable, by the words of the variables and the constraints alone.
use Rattle.std.specs.Prelude.{◌≡◌, ◌⊎◌, ℕ, ◌+◌, ◌<◌, ◌≤◌, Bool, true, false, cond, List, [], ◌∷◌, ◌++◌, ℤ, length, slice_index}
use Rattle.pi_constraints.specs.declared.constraint.Item.{Item}
use Rattle.pi_constraints.specs.declared.constraint.Constraint.{Constraint}
use Rattle.pi_constraints.specs.Store.{Lists}
use Rattle.pi_region.specs.Image.{Image}
use Rattle.pi_store_blocks.specs.ConstraintTable.{constraint_at}
use Rattle.pi_store.specs.Walk.{leads_at}

-- a place holds a variable, or one that leads to it
abbrev pub item_leads : List ℕ → Item → ℕ → Bool
item_leads vs (Item.Var n) v = leads_at vs n v
item_leads vs (Item.Int i) v = false

unfoldable pub items_lead : List ℕ → List Item → ℕ → Bool
items_lead vs [] v = false
items_lead vs (i ∷ is) v = cond (item_leads vs i v) true (items_lead vs is v)

unfoldable pub sum_leads : List ℕ → List (ℤ × ℕ) → ℕ → Bool
sum_leads vs [] v = false
sum_leads vs (t ∷ ts) v = cond (leads_at vs t.1 v) true (sum_leads vs ts v)

abbrev pub constraint_leads : List ℕ → Constraint → ℕ → Bool
constraint_leads vs (Constraint.Linear rel terms constant) v = sum_leads vs terms v
constraint_leads vs (Constraint.Product z x y) v = cond (item_leads vs z v) true (cond (item_leads vs x v) true (item_leads vs y v))
constraint_leads vs (Constraint.Absolute z x) v = cond (item_leads vs z v) true (item_leads vs x v)
constraint_leads vs (Constraint.Different items) v = items_lead vs items v
constraint_leads vs (Constraint.Element index items value) v = cond (item_leads vs index v) true (cond (items_lead vs items v) true (item_leads vs value v))
constraint_leads vs (Constraint.Reified truth rel terms constant) v = cond (item_leads vs truth v) true (sum_leads vs terms v)
constraint_leads vs (Constraint.Distinct items) v = items_lead vs items v

-- a variable stands in the constraint with a number, itself or as one that leads to it
abbrev pub posted_at : Image → ℕ → ℕ → Bool
posted_at i v n = constraint_leads i.variables (constraint_at i.region (slice_index i.constraints n)) v

-- the numbers ascend, and are those below the bound of which this is so
abbrev pub ListsBelow : (ℕ → Type 0) → ℕ → List ℕ → Type 0
ListsBelow P bound ns = Lists (λ n. (n < bound) × P n) ns

-- the variable whose constraints are looked for, and the least number that is looked for
pub record Sought : Type 0 where
  pub variable : ℕ
  pub least : ℕ

abbrev pub sought : ℕ → ℕ → Sought
sought v least = record { variable = v; least = least }

-- A number of a list is passed: below the least that is looked for, or of no constraint, it is none; else it is looked at, and the next one is the least
abbrev pub Passes : Image → Sought → ℕ → List ℕ → List ℕ → ℕ → Type 0
Passes i x n old new next =
    (((n < x.least) ⊎ (length i.constraints ≤ n)) × (next ≡ x.least) × (new ≡ old))
    ⊎ ((x.least ≤ n) × (n < length i.constraints) × (next ≡ n + 1) × (new ≡ cond (posted_at i x.variable n) (old ++ n ∷ []) old))
