-- What variables lead to, by the words of the variables alone.
use Rattle.std.specs.Prelude.{ℕ, zero, suc, ◌-◌, ◌%◌, ◌==◌, Bool, true, false, cond, List, length, Option, Some, None, unwrap_or, slice_index}
use Rattle.pi_constraints.specs.declared.store.Ref.{Ref}
use Rattle.pi_store_blocks.specs.Form.{form_of}
use Rattle.pi_store_blocks.specs.declared.form.Form.{Form}

-- what a variable with this word is bound to: nothing where it is a multiple of 8, and else the Ref before it
abbrev pub bound_ref_by : Bool → ℕ → Option Ref
bound_ref_by true w = None
bound_ref_by false w = Some (record { number = w - 1 })

abbrev pub bound_ref : ℕ → Option Ref
bound_ref w = bound_ref_by (w % 8 == 0) w

abbrev pub binding_at : List ℕ → ℕ → Option Ref
binding_at vs n = bound_ref (slice_index vs n)

-- the variable that a form is
abbrev pub variable_of : Form → Option ℕ
variable_of (Form.Var n) = Some n
variable_of (Form.Int n) = None
variable_of (Form.Atom k) = None
variable_of (Form.Pair place is_ground) = None
variable_of (Form.Comp place is_ground) = None
variable_of (Form.Data n) = None

abbrev pub variable_at : Ref → Option ℕ
variable_at r = variable_of (form_of r.number)

abbrev pub binding_of_any : List ℕ → Option ℕ → Option Ref
binding_of_any vs None = None
binding_of_any vs (Some n) = binding_at vs n

-- what a term is bound to directly
abbrev pub bound_to : List ℕ → Ref → Option Ref
bound_to vs r = binding_of_any vs (variable_at r)

-- a term, or what it is bound to directly; so many times; and as often as there are variables
abbrev pub step_at : List ℕ → Ref → Ref
step_at vs r = unwrap_or (bound_to vs r) r

unfoldable pub steps_at : ℕ → List ℕ → Ref → Ref
steps_at zero vs r = r
steps_at (suc k) vs r = steps_at k vs (step_at vs r)

abbrev pub followed_at : List ℕ → Ref → Ref
followed_at vs r = steps_at (length vs) vs r

-- the number itself where it is that of a variable that isn't bound
abbrev pub unless_bound_by : Bool → ℕ → Option ℕ
unless_bound_by true n = Some n
unless_bound_by false n = None

abbrev pub unless_bound : ℕ → ℕ → Option ℕ
unless_bound n w = unless_bound_by (w % 8 == 0) n

abbrev pub free_of_any : List ℕ → Option ℕ → Option ℕ
free_of_any vs None = None
free_of_any vs (Some n) = unless_bound n (slice_index vs n)

-- the variable that a term is at its root and that isn't bound
abbrev pub free_at : List ℕ → Ref → Option ℕ
free_at vs r = free_of_any vs (variable_at (followed_at vs r))

-- the variable that a variable is bound to directly
abbrev pub variable_of_any : Option Ref → Option ℕ
variable_of_any None = None
variable_of_any (Some r) = variable_at r

abbrev pub next_at : List ℕ → ℕ → Option ℕ
next_at vs n = variable_of_any (binding_at vs n)

abbrev pub any_of : (ℕ → Bool) → Option ℕ → Bool
any_of test None = false
any_of test (Some n) = test n

-- a variable is the second one, or leads to it in so many steps at most
unfoldable pub leads_for : ℕ → List ℕ → ℕ → ℕ → Bool
leads_for zero vs n v = n == v
leads_for (suc k) vs n v = cond (n == v) true (any_of (λ m. leads_for k vs m v) (next_at vs n))

abbrev pub leads_at : List ℕ → ℕ → ℕ → Bool
leads_at vs n v = leads_for (length vs) vs n v
