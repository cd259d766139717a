-- How a call is lowered, by its form.
use Rattle.std.specs.Prelude.{◌≡◌, ℕ, ◌==◌, ◌&&◌, Bool, true, false, ⊤, cond, List, [], ◌∷◌, length, Option, Some, None, codes}
use Rattle.std.specs.Str.{bytes_eq}
use Rattle.pi_terms.specs.Tree.{Tree}
use Rattle.pi_core.specs.GoalTree.{GoalTree}
use Rattle.pi_syntax.specs.ExpTree.{ExpTree, var}
use Rattle.pi_meaning.specs.Shared.Names.{is_call}
use Rattle.pi_meaning.specs.OverNames.Texts.{places}
use Rattle.pi_meaning.specs.OverNames.Forms.{Form, negation, once, assignment, catch, by_term, membership}
use Rattle.pi_rewrite_spec.specs.Slots.{SlotNames, with_value}
use Rattle.pi_rewrite_spec.specs.Values.{SlotValue, slotted}
use Rattle.pi_rewrite_spec.specs.Goals.{SlotGoals, all_found, assigned}
use Rattle.pi_rewrite_spec.specs.Sites.{Site, behind_site, behind_exp}
use Rattle.pi_rewrite_sites.specs.SiteOf.{site_of}
use Rattle.pi_rewrite_goals.specs.declared.calls.CallForm.{CallForm}
use Rattle.pi_rewrite_goals.specs.declared.calls.CatchSites.{CatchSites}
use Rattle.pi_rewrite_goals.specs.declared.calls.CallForm.TheVariants.{Negation, Once, Assignment, Catch, Never, Plain}

-- the form of a call that has no goals in it
abbrev pub term_form : List ℕ → ℕ → Option Form
term_form name k = cond (is_call name k) (Some by_term) (cond (k == 2 && bytes_eq name (codes "in")) (Some membership) None)

-- the goal that an atom is
abbrev pub atom_tree : List ℕ → GoalTree
atom_tree name = cond (bytes_eq name (codes "true")) GoalTree.truth (cond (bytes_eq name (codes "fail")) GoalTree.fail (GoalTree.call name []))

-- a call of one of what a term says, or of no form
abbrev pub is_plain : Option Form → Bool
is_plain None = true
is_plain (Some by_term) = true
is_plain form = false

-- the form of a call that is lowered so
abbrev pub IsForm : CallForm → Option Form → Type 0
IsForm Negation form = form ≡ Some negation
IsForm Once form = form ≡ Some once
IsForm Assignment form = form ≡ Some assignment
IsForm Catch form = form ≡ Some catch
IsForm Never form = form ≡ Some membership
IsForm Plain form = is_plain form ≡ true

-- how many arguments it has
abbrev pub HasCount : CallForm → ℕ → Type 0
HasCount Negation n = n ≡ 1
HasCount Once n = n ≡ 1
HasCount Assignment n = n ≡ 2
HasCount Catch n = n ≡ 3
HasCount Never n = ⊤
HasCount Plain n = ⊤

-- no goal stands in it
abbrev pub IsTermForm : CallForm → Type 0
IsTermForm Negation = ⊥
IsTermForm Once = ⊥
IsTermForm Assignment = ⊥
IsTermForm Catch = ⊥
IsTermForm Never = ⊤
IsTermForm Plain = ⊤

-- a value that is assigned to what stands at the left; what is no variable is assigned nothing
abbrev pub assigned_to : ExpTree → SlotValue → SlotGoals
assigned_to (var name) v = assigned (Some name) v
assigned_to e v = assigned None v

-- a term collected after goals, and answers of a goal counted
abbrev pub collected_of : List GoalTree → Tree → SlotNames → SlotValue
collected_of inner t ns = all_found ns inner (slotted [] t ns)

abbrev pub counted_of : GoalTree → SlotNames → SlotValue
counted_of g ns = record { goals = GoalTree.count g (length ns) ∷ []; tree = Tree.var (length ns); names = with_value ns }

-- where the parts of a `catch` stand
pub record AreCatchSites (s : Site) (goal ball : ExpTree) (c : CatchSites) : Type 0 where
  pub first : site_of c.ball ≡ behind_site s (places goal) 0
  pub second : site_of c.goal ≡ behind_exp s ball
  pub last : site_of c.handler ≡ behind_site (behind_exp (behind_exp s ball) goal) (places ball) 0
