-- The units of a left side behind the first: conditions with events behind them, also where one `And` that is the only condition is taken apart.
use Rattle.std.proofs.Common.{◌≡◌, suc, ◌≤◌, max, false, ◌∷◌, ◌++◌, Option, Some, None, refl, sym, ap, subst, ◌∙◌, append_assoc, append-nil, arith}
use Rattle.std.specs.List.{list_any}
use Rattle.pi_prog_clauses.specs.Formed.{is_braces}
use Rattle.pi_prog_clauses.specs.Items.{is_misplaced}
use Rattle.pi_prog_clauses.specs.Places.{placed_at, test, below, all_placed, placed, placed_if}
use Rattle.pi_prog_clauses.specs.Shape.{units, events_in, conditions, condition}
use Rattle.pi_syntax.specs.ExpTree.{ExpTree, array, and, ExpTrees, no_exps, exp, one_exp, levels, levels_all}
use Rattle.pi_syntax.specs.Grammar.{conjunction}
use Rattle.pi_print_program.specs.CanonicalExp.{is_conjunction}
use Rattle.pi_print_program.proofs.Calls.{neither}
use Rattle.pi_print_program.proofs.FineNodes.{split, wrong}
use Rattle.pi_print_program.proofs.Names.{names_of, all_names, conjunction_names}

-- ---- conditions and events

-- conditions with these events behind them
abbrev pub with_events : ExpTrees → Option ExpTrees → ExpTrees
with_events no_exps None = no_exps
with_events no_exps (Some es) = one_exp (array es)
with_events (exp e cs) o = exp e (with_events cs o)

events_behind : (t s : ExpTree) (ts : ExpTrees) → events_in (exp t (exp s ts)) ≡ events_in (exp s ts)
unfolding events_in
events_behind (array es) s ts = refl
events_behind t s ts = refl

conditions_behind : (t s : ExpTree) (ts : ExpTrees) → conditions (exp t (exp s ts)) ≡ exp t (conditions (exp s ts))
unfolding conditions
conditions_behind (array es) s ts = refl
conditions_behind t s ts = refl

events_of_none : events_in no_exps ≡ None
unfolding events_in
events_of_none = refl

conditions_of_none : conditions no_exps ≡ no_exps
unfolding conditions
conditions_of_none = refl

events_here : (es : ExpTrees) → events_in (one_exp (array es)) ≡ Some es
unfolding events_in
events_here es = refl

conditions_here : (es : ExpTrees) → conditions (one_exp (array es)) ≡ no_exps
unfolding conditions
conditions_here es = refl

events_last : (e : ExpTree) → is_braces e ≡ false → events_in (one_exp e) ≡ None
unfolding events_in
events_last (array es) plain = wrong plain
events_last e plain = refl

conditions_last : (e : ExpTree) → is_braces e ≡ false → conditions (one_exp e) ≡ one_exp e
unfolding conditions
conditions_last (array es) plain = wrong plain
conditions_last e plain = refl

split_one : (e : ExpTree) → with_events (conditions (one_exp e)) (events_in (one_exp e)) ≡ one_exp e
unfolding conditions events_in
split_one (array es) = refl
split_one e = refl

-- units are their conditions with their events
pub split_whole : (us : ExpTrees) → with_events (conditions us) (events_in us) ≡ us
split_whole no_exps = ap (λ cs. with_events cs (events_in no_exps)) conditions_of_none ∙ ap (λ o. with_events no_exps o) events_of_none
split_whole (exp e no_exps) = split_one e
split_whole (exp e (exp f us)) =
    ap (λ cs. with_events cs (events_in (exp e (exp f us)))) (conditions_behind e f us)
    ∙ ap (λ o. with_events (exp e (conditions (exp f us))) o) (events_behind e f us)
    ∙ ap (λ cs. exp e cs) (split_whole (exp f us))

-- what is found in units
pub record IsSplit (us cs : ExpTrees) (o : Option ExpTrees) : Type 0 where
  pub has_events : events_in us ≡ o
  pub has_conditions : conditions us ≡ cs

split_behind : (e f : ExpTree) (us cs : ExpTrees) (o : Option ExpTrees) → IsSplit (exp f us) cs o → IsSplit (exp e (exp f us)) (exp e cs) o
split_behind e f us cs o s = record { has_events = events_behind e f us ∙ s.has_events; has_conditions = conditions_behind e f us ∙ ap (λ ds. exp e ds) s.has_conditions }

-- none of these is an array
abbrev pub NoArrays : ExpTrees → Type 0
NoArrays no_exps = Unit {0}
NoArrays (exp e es) = (is_braces e ≡ false) × NoArrays es

split_plain : (cs : ExpTrees) → NoArrays cs → IsSplit cs cs None
split_plain no_exps free = record { has_events = events_of_none; has_conditions = conditions_of_none }
split_plain (exp e no_exps) free = record { has_events = events_last e free.0; has_conditions = conditions_last e free.0 }
split_plain (exp e (exp f cs)) free = split_behind e f cs (exp f cs) None (split_plain (exp f cs) free.1)

split_events : (cs es : ExpTrees) → IsSplit (with_events cs (Some es)) cs (Some es)
split_events no_exps es = record { has_events = events_here es; has_conditions = conditions_here es }
split_events (exp e no_exps) es = split_behind e (array es) no_exps no_exps (Some es) (split_events no_exps es)
split_events (exp e (exp f cs)) es = split_behind e f (with_events cs (Some es)) (exp f cs) (Some es) (split_events (exp f cs) es)

without_events : (cs : ExpTrees) → with_events cs None ≡ cs
without_events no_exps = refl
without_events (exp e cs) = ap (λ ds. exp e ds) (without_events cs)

-- conditions with events behind them are found as these
pub split_with : (cs : ExpTrees) (o : Option ExpTrees) → NoArrays cs → IsSplit (with_events cs o) cs o
split_with cs None free = subst (λ us. IsSplit us cs None) (sym (without_events cs)) (split_plain cs free)
split_with cs (Some es) free = split_events cs es

-- ---- conditions taken apart

-- the conjuncts of conditions, where these are one conjunction
abbrev pub apart : ExpTrees → ExpTrees
apart cs = units (conjunction cs)

-- units whose conditions are taken apart
abbrev pub again : ExpTrees → ExpTrees
again us = with_events (apart (conditions us)) (events_in us)

goal_no_array : (e : ExpTree) → is_misplaced (placed_at test e) ≡ false → is_braces e ≡ false
goal_no_array (array es) clear = wrong clear
goal_no_array e clear = refl

goals_no_arrays : (es : ExpTrees) → list_any is_misplaced (all_placed test es) ≡ false → NoArrays es
unfolding below all_placed
goals_no_arrays no_exps clear = tt
goals_no_arrays (exp e es) clear =
    let (left, right) = split is_misplaced (placed_at test e ∷ below test e) (all_placed test es) clear in
    (goal_no_array e (neither (is_misplaced (placed_at test e)) (list_any is_misplaced (below test e)) left).0, goals_no_arrays es right)

units_no_arrays : (e : ExpTree) → list_any is_misplaced (placed test e) ≡ false → NoArrays (units e)
unfolding below all_placed
units_no_arrays (and es) clear = goals_no_arrays es (neither (is_misplaced (placed_at test (and es))) (list_any is_misplaced (all_placed test es)) clear).1
units_no_arrays e clear = (goal_no_array e (neither (is_misplaced (placed_at test e)) (list_any is_misplaced (below test e)) clear).0, tt)

-- no condition is an array where none is misplaced
pub apart_no_arrays : (cs : ExpTrees) → list_any is_misplaced (placed_if test (condition cs)) ≡ false → NoArrays (apart cs)
apart_no_arrays no_exps clear = tt
apart_no_arrays (exp e cs) clear = units_no_arrays (conjunction (exp e cs)) clear

-- ---- the first unit and the others

-- units of a conjunction whose first is none
pub units_conjunction : (e : ExpTree) (es : ExpTrees) → is_conjunction e ≡ false → units (conjunction (exp e es)) ≡ exp e es
units_conjunction (and us) no_exps plain = wrong plain
units_conjunction e no_exps plain = refl
units_conjunction e (exp f es) plain = refl

-- ---- levels

pub units_levels : (e : ExpTree) → levels_all (units e) ≤ levels e
unfolding levels levels_all
units_levels (and es) = omega arith
units_levels e = omega arith

conjunction_levels : (es : ExpTrees) → levels (conjunction es) ≤ suc (levels_all es)
unfolding levels levels_all
conjunction_levels no_exps = omega arith
conjunction_levels (exp e no_exps) = omega arith
conjunction_levels (exp e (exp f es)) = omega arith

with_levels : (cs : ExpTrees) (o : Option ExpTrees) → levels_all (with_events cs o) ≡ max (levels_all cs) (levels_all (with_events no_exps o))
unfolding levels levels_all
with_levels no_exps o = omega arith
with_levels (exp e cs) o = let rest = with_levels cs o in omega (arith, rest)

apart_levels : (h : ExpTree) (cs : ExpTrees) (o : Option ExpTrees) → levels (conjunction (exp h (with_events (apart cs) o))) ≤ levels (conjunction (exp h (with_events cs o)))
unfolding levels levels_all
apart_levels h no_exps o = omega arith
apart_levels h (exp e no_exps) o =
    let some = conjunction_levels (exp h (with_events (units e) o)) in
    let fewer = units_levels e in
    let all = with_levels (units e) o in
    omega (arith, some, fewer, all)
apart_levels h (exp e (exp f cs)) o = omega arith

pub again_levels : (h : ExpTree) (us : ExpTrees) → levels (conjunction (exp h (again us))) ≤ levels (conjunction (exp h us))
again_levels h us = subst (λ vs. levels (conjunction (exp h (again us))) ≤ levels (conjunction (exp h vs))) (split_whole us) (apart_levels h (conditions us) (events_in us))

-- ---- names

units_names : (e : ExpTree) → all_names (units e) ≡ names_of e
unfolding names_of all_names
units_names (and es) = refl
units_names e = append-nil (names_of e)

with_names : (cs : ExpTrees) (o : Option ExpTrees) → all_names (with_events cs o) ≡ all_names cs ++ all_names (with_events no_exps o)
unfolding names_of all_names
with_names no_exps o = refl
with_names (exp e cs) o = ap (λ l. names_of e ++ l) (with_names cs o) ∙ sym (append_assoc (names_of e) (all_names cs) (all_names (with_events no_exps o)))

apart_names : (cs : ExpTrees) (o : Option ExpTrees) → all_names (with_events (apart cs) o) ≡ all_names (with_events cs o)
apart_names cs o =
    with_names (apart cs) o ∙ ap (λ l. l ++ all_names (with_events no_exps o)) (units_names (conjunction cs) ∙ sym (conjunction_names cs)) ∙ sym (with_names cs o)

pub again_names : (h : ExpTree) (us : ExpTrees) → names_of (conjunction (exp h (again us))) ≡ names_of (conjunction (exp h us))
unfolding names_of all_names
again_names h us =
    sym (conjunction_names (exp h (again us)))
    ∙ ap (λ l. names_of h ++ l) (apart_names (conditions us) (events_in us) ∙ ap all_names (split_whole us))
    ∙ conjunction_names (exp h us)
