-- Trees of units, and the texts of conditions and events.
use Rattle.std.proofs.Common.{◌≡◌, false, ◌∷◌, ◌++◌, map, Option, Some, None, refl, sym, ap, subst, ◌∙◌, append_assoc, append-nil, codes}
use Rattle.pi_prog_clauses.specs.Items.{is_empty}
use Rattle.pi_prog_clauses.specs.Shape.{units, events_in, conditions, condition, listed, listed_or_none}
use Rattle.pi_syntax.specs.ExpTree.{ExpTree, array, and, ExpTrees, no_exps, exp, one_exp}
use Rattle.pi_print_program.specs.Canonical.{condition_text, events_text}
use Rattle.pi_print_program.specs.CanonicalExp.{exp_text, exp_texts, top_text}
use Rattle.pi_print_program.specs.Texts.{between, each_behind, parted, comma}
use Rattle.pi_print_program.proofs.FineNodes.{wrong}
use Rattle.pi_print_program.proofs.Sequences.{items-led}
use Rattle.pi_print_program.proofs.Tree.{Tree, TreeItems, Trees, none, some, last_item, more_items, conjuncts, tree_conjunction, one_before}
use Rattle.pi_print_program.proofs.Units.{with_events, split_whole, apart, again, NoArrays, split_with}
use Rattle.pi_print_program.proofs.WrittenTrees.{writes_items}

-- ---- trees

-- the first of these, and the others
abbrev pub TreesOf : ExpTrees → Type 0
TreesOf no_exps = Unit {0}
TreesOf (exp e es) = Tree e × Trees es

pub trees_of : {es : ExpTrees} → Trees es → TreesOf es
trees_of none = tt
trees_of (some (last_item u)) = (u, none)
trees_of (some (more_items u us)) = (u, some us)

-- that of the events in braces
abbrev EventsTree : Option ExpTrees → Type 0
EventsTree None = Unit {0}
EventsTree (Some es) = Tree (array es)

split_trees : (cs : ExpTrees) (o : Option ExpTrees) → Trees (with_events cs o) → Trees cs × EventsTree o
split_trees no_exps None us = (none, tt)
split_trees no_exps (Some es) us = (none, (trees_of us).0)
split_trees (exp e cs) o us = let rest = split_trees cs o (trees_of us).1 in (one_before (trees_of us).0 rest.0, rest.1)

joined_trees : (cs : ExpTrees) (o : Option ExpTrees) → Trees cs → EventsTree o → Trees (with_events cs o)
joined_trees no_exps None us u = none
joined_trees no_exps (Some es) us u = some (last_item u)
joined_trees (exp e cs) o us u = one_before (trees_of us).0 (joined_trees cs o (trees_of us).1 u)

pub units_trees : {e : ExpTree} → Tree e → TreeItems (units e)
units_trees (conjuncts items) = items
units_trees u = last_item u

apart_trees : (cs : ExpTrees) → Trees cs → Trees (apart cs)
apart_trees no_exps us = none
apart_trees (exp e no_exps) us = some (units_trees (trees_of us).0)
apart_trees (exp e (exp f cs)) us = us

whole_trees : (us : ExpTrees) → Trees us → Trees (with_events (conditions us) (events_in us))
whole_trees us trees = subst Trees (sym (split_whole us)) trees

pub conditions_trees : (us : ExpTrees) → Trees us → Trees (conditions us)
conditions_trees us trees = (split_trees (conditions us) (events_in us) (whole_trees us trees)).0

pub again_trees : (us : ExpTrees) → Trees us → Trees (again us)
again_trees us trees =
    let both = split_trees (conditions us) (events_in us) (whole_trees us trees) in
    joined_trees (apart (conditions us)) (events_in us) (apart_trees (conditions us) both.0) both.1

-- ---- the condition

condition_units : {e : ExpTree} → Tree e → condition (units e) ≡ Some e
condition_units (conjuncts items) = refl
condition_units u = refl

apart_condition : (cs : ExpTrees) → Trees cs → condition (apart cs) ≡ condition cs
apart_condition no_exps us = refl
apart_condition (exp e no_exps) us = condition_units (trees_of us).0
apart_condition (exp e (exp f cs)) us = refl

-- units whose conditions are taken apart have the same condition and events
pub again_condition : (us : ExpTrees) → Trees us → NoArrays (apart (conditions us)) → condition (conditions (again us)) ≡ condition (conditions us)
again_condition us trees free =
    ap condition (split_with (apart (conditions us)) (events_in us) free).has_conditions ∙ apart_condition (conditions us) (conditions_trees us trees)

pub again_events : (us : ExpTrees) → NoArrays (apart (conditions us)) → events_in (again us) ≡ events_in us
again_events us free = (split_with (apart (conditions us)) (events_in us) free).has_events

-- ---- texts

units_text : (e : ExpTree) → parted comma (exp_texts (units e)) ≡ top_text e
unfolding exp_texts parted each_behind top_text
units_text (and es) = refl
units_text e = append-nil (exp_text e)

units_led : {e : ExpTree} → Tree e → each_behind comma (exp_texts (units e)) ≡ comma ++ top_text e
units_led {e} u = items-led (writes_items (units_trees u)) ∙ ap (λ l. comma ++ l) (units_text e)

apart_text : {cs : ExpTrees} → Trees cs → each_behind comma (exp_texts (apart cs)) ≡ condition_text (condition cs)
unfolding exp_texts each_behind
apart_text none = refl
apart_text (some (last_item u)) = units_led u
apart_text (some (more_items u us)) = units_led (tree_conjunction (more_items u us))

listed_texts : (es : ExpTrees) → exp_texts es ≡ map exp_text (listed es)
unfolding exp_texts listed
listed_texts no_exps = refl
listed_texts (exp e es) = ap (λ l. exp_text e ∷ l) (listed_texts es)

-- where there are braces, something stands in them
abbrev pub AreGiven : Option ExpTrees → Type 0
AreGiven None = Unit {0}
AreGiven (Some es) = is_empty (listed es) ≡ false

braces_text : (es : ExpTrees) → is_empty (listed es) ≡ false → each_behind comma (exp_texts (one_exp (array es))) ≡ events_text (listed es)
unfolding exp_text exp_texts each_behind listed
braces_text no_exps given = wrong given
braces_text (exp e es) given =
    ap (λ l. comma ++ l) (append-nil (exp_text (array (exp e es))) ∙ ap (λ ts. between (codes "{") (parted comma ts) (codes "}")) (listed_texts (exp e es)))

events_led : (o : Option ExpTrees) → AreGiven o → each_behind comma (exp_texts (with_events no_exps o)) ≡ events_text (listed_or_none o)
unfolding exp_texts each_behind
events_led None given = refl
events_led (Some es) given = braces_text es given

with_text : (cs : ExpTrees) (o : Option ExpTrees) → AreGiven o → each_behind comma (exp_texts (with_events cs o)) ≡ each_behind comma (exp_texts cs) ++ events_text (listed_or_none o)
unfolding exp_texts each_behind
with_text no_exps o given = events_led o given
with_text (exp e cs) o given =
    ap (λ l. comma ++ (exp_text e ++ l)) (with_text cs o given)
    ∙ ap (λ l. comma ++ l) (sym (append_assoc (exp_text e) (each_behind comma (exp_texts cs)) (events_text (listed_or_none o))))
    ∙ sym (append_assoc comma (exp_text e ++ each_behind comma (exp_texts cs)) (events_text (listed_or_none o)))

-- the text of the condition and the events
pub again_text : (us : ExpTrees) → Trees us → AreGiven (events_in us)
    → each_behind comma (exp_texts (again us)) ≡ condition_text (condition (conditions us)) ++ events_text (listed_or_none (events_in us))
again_text us trees given =
    with_text (apart (conditions us)) (events_in us) given
    ∙ ap (λ l. l ++ events_text (listed_or_none (events_in us))) (apart_text (conditions_trees us trees))
