-- The canonical text of a clause whose form isn't bad is read as that clause.
use Rattle.std.proofs.Common.{◌≡◌, ℕ, ◌<◌, ◌≤◌, ◌⊎◌, inl, inr, Bool, true, false, ◌&&◌, ◌||◌, List, [], ◌++◌, map, Option, Some, None, is_some, refl, sym, ap, subst, ◌∙◌, append_assoc, append-nil, codes, arith}
use Rattle.pi_prog_clauses.specs.Reading.{IsDeepShape}
use Rattle.pi_prog_clauses.specs.Shape.{Shape, bare, ruled, Sides, sides, HasShape, without_arrow, with_arrow, units, first_unit, other_units, events_in, conditions, condition, listed_or_none, Equation, equation, bare_clause, ruled_clause, clause_of, shape_events, is_open}
use Rattle.pi_syntax.specs.Crowding.{most_levels}
use Rattle.pi_syntax.specs.ExpTree.{ExpTree, ExpTrees, no_exps, exp, levels}
use Rattle.pi_syntax.specs.Grammar.{HasExp, conjunction}
use Rattle.pi_syntax.specs.ProgramTree.{WrittenClause, rule, function}
use Rattle.pi_syntax.specs.Terminals.{terminal}
use Rattle.pi_syntax.specs.Tokens.{Token}
use Rattle.pi_print_program.specs.Canonical.{head_text, condition_text, events_text, arrow_text, clause_text}
use Rattle.pi_print_program.specs.CanonicalExp.{exp_text, exp_texts, top_text}
use Rattle.pi_print_program.specs.Patterns.{Fine}
use Rattle.pi_print_program.specs.Texts.{each_behind, comma}
use Rattle.pi_print_program.proofs.ClauseAgain.{bad_shape, ClauseAgain}
use Rattle.pi_print_program.proofs.ClauseFine.{bad_by, bad_as, IsFree, free_by, FineParts, fine_parts, left_fine, FineAlone, fine_alone}
use Rattle.pi_print_program.proofs.ClauseNames.{halves, good_sides, names_shown}
use Rattle.pi_print_program.proofs.ClauseTexts.{ShapeText, bare_text, ruled_text, shape_text_at}
use Rattle.pi_print_program.proofs.Fine.{AreGood}
use Rattle.pi_print_program.proofs.Heads.{first_text, first_unit_text, first_no_conjunction}
use Rattle.pi_print_program.proofs.Names.{names_of}
use Rattle.pi_print_program.proofs.Sides.{left_side, right_side}
use Rattle.pi_print_program.proofs.Tree.{Tree, TreeItems, Trees}
use Rattle.pi_print_program.proofs.Tree as t
use Rattle.pi_print_program.proofs.Trees.{told}
use Rattle.pi_print_program.proofs.Units.{again, again_levels, again_names, units_conjunction}
use Rattle.pi_print_program.proofs.UnitTexts.{units_trees, again_trees, again_condition, again_events, again_text}

-- the tree of an expression that was read
tree_of : (ts : List Token) {e : ExpTree} → HasExp ts e → AreGood (map terminal ts) → Fine e → Tree e
tree_of ts d good fine = (told d good).0 fine

-- ---- without an arrow

alone_text : (e : ExpTree) (q : Option Equation) → clause_text (bare_clause e q) ≡ first_text q e ++ each_behind comma (exp_texts no_exps)
unfolding exp_texts each_behind
alone_text e None = sym (append-nil (head_text e))
alone_text e (Some q) = sym (append_assoc (head_text q.head) (codes " = " ++ exp_text q.value) [])

shape_alone : (e : ExpTree) (q : Option Equation) → equation e ≡ q → FineAlone q e → Tree e → ShapeText (clause_text (bare_clause e q)) (bare e)
shape_alone e q is parts u = shape_text_at (alone_text e q) (bare_text (left_side (first_unit_text e q is parts.head.is u) t.none))

bare_again : {ts : List Token} {e : ExpTree} → AreGood (map terminal ts) → sides ts ≡ None → HasExp ts e → ¬ IsDeepShape (bare e) → bad_shape (bare e) ≡ false → ClauseAgain ts (bare e)
bare_again {ts} {e} good alone d flat free =
    let parts = fine_alone e (equation e) refl (free_by (clause_of (bare e)) false None (sym (bad_as (bare e)) ∙ free)) in
    let text = shape_alone e (equation e) refl parts (tree_of ts d good parts.fine) in
    record {
      shape = bare e;
      text = text;
      clause = refl;
      form = refl;
      flat = flat;
      names = names_shown text.shape ∙ sym (names_shown (without_arrow alone d));
    }

-- ---- with an arrow

-- the first unit and the others
record Parted (us : ExpTrees) : Type 0 where
  first : ExpTree
  others : ExpTrees
  is : us ≡ exp first others
  tree : Tree first
  trees : Trees others

parted_items : {us : ExpTrees} → TreeItems us → Parted us
parted_items (t.last_item {e} u) = record { first = e; others = no_exps; is = refl; tree = u; trees = t.none }
parted_items (t.more_items {e} {es} u us) = record { first = e; others = es; is = refl; tree = u; trees = t.some us }

abbrev clause_by : ExpTrees → Bool → ExpTree → WrittenClause
clause_by us back r = ruled_clause (equation (first_unit us)) (first_unit us) (other_units us) back r

-- the text of a clause, whose function has the arrow `=>` and no events
no_choice : (back b : Bool) → (true && (back || b)) ≡ false → back ≡ false
no_choice true b e = e
no_choice false b e = refl

no_events : (back : Bool) (o : Option ExpTrees) → (true && (back || is_some o)) ≡ false → o ≡ None
no_events back None e = refl
no_events true (Some es) e = absurd (cc)
no_events false (Some es) e = absurd (cc)

joined_text : (h b c e rest : List ℕ) → b ≡ c ++ e → h ++ (c ++ (e ++ rest)) ≡ (h ++ b) ++ rest
joined_text h b c e rest same =
    ap (λ l. h ++ l) (sym (append_assoc c e rest) ∙ ap (λ l. l ++ rest) (sym same)) ∙ sym (append_assoc h b rest)

function_text : (h q v b c rest : List ℕ) → b ≡ c ++ [] → h ++ (q ++ (v ++ (c ++ rest))) ≡ ((h ++ (q ++ v)) ++ b) ++ rest
function_text h q v b c rest same =
    ap (λ l. h ++ l) (sym (append_assoc q v (c ++ rest))) ∙ sym (append_assoc h (q ++ v) (c ++ rest))
    ∙ joined_text (h ++ (q ++ v)) b c [] rest same

ruled_clause_text : (e : ExpTree) (us : ExpTrees) (back : Bool) (r : ExpTree) (q : Option Equation) (behind : List ℕ) → IsFree (ruled_clause q e us back r) back (events_in us)
    → behind ≡ condition_text (condition (conditions us)) ++ events_text (listed_or_none (events_in us))
    → clause_text (ruled_clause q e us back r) ≡ (first_text q e ++ behind) ++ (arrow_text back ++ top_text r)
ruled_clause_text e us back r None behind free same =
    joined_text (head_text e) behind (condition_text (condition (conditions us))) (events_text (listed_or_none (events_in us))) (arrow_text back ++ top_text r) same
ruled_clause_text e us back r (Some q) behind free same =
    let no_braces = no_events back (events_in us) free.choice in
    let committed = no_choice back (is_some (events_in us)) free.choice in
    function_text (head_text q.head) (codes " = ") (exp_text q.value) behind (condition_text (condition (conditions us))) (arrow_text false ++ top_text r)
    (subst (λ o. behind ≡ condition_text (condition (conditions us)) ++ events_text (listed_or_none o)) no_braces same)
    ∙ ap (λ b. (first_text (Some q) e ++ behind) ++ (arrow_text b ++ top_text r)) (sym committed)

-- the same clause, of units with the same condition and the same events
same_clause : (e : ExpTree) (us vs : ExpTrees) (back : Bool) (r : ExpTree) (q : Option Equation) → condition (conditions us) ≡ condition (conditions vs) → events_in us ≡ events_in vs
    → ruled_clause q e us back r ≡ ruled_clause q e vs back r
same_clause e us vs back r None conds events =
    ap (λ c. rule (record { head = e; cond = c; events = listed_or_none (events_in us); back = back; body = r })) conds
    ∙ ap (λ o. rule (record { head = e; cond = condition (conditions vs); events = listed_or_none o; back = back; body = r })) events
same_clause e us vs back r (Some q) conds events =
    ap (λ c. function (record { head = q.head; value = q.value; cond = c; body = Some r })) conds

bad_same : (a b : Shape) → clause_of a ≡ clause_of b → is_open a ≡ is_open b → shape_events a ≡ shape_events b → bad_shape a ≡ bad_shape b
bad_same a b clause back events =
    bad_as a ∙ ap (λ c. bad_by c (is_open a) (shape_events a)) clause ∙ ap (λ o. bad_by (clause_of b) o (shape_events a)) back
    ∙ ap (λ es. bad_by (clause_of b) (is_open b) es) events ∙ sym (bad_as b)

-- of a left side whose units are these
ruled_by : {ts : List Token} (l : ExpTree) (back : Bool) (r : ExpTree) → HasShape ts (ruled l back r) → (p : Parted (units l)) → conjunction (units l) ≡ l → Tree r
    → IsFree (clause_by (exp p.first p.others) back r) back (events_in p.others) → FineParts (equation p.first) p.first p.others r → ¬ IsDeepShape (ruled l back r)
    → ClauseAgain ts (ruled l back r)
ruled_by {ts} l back r read p whole tree free parts flat =
    let e = p.first in
    let us = p.others in
    let left = conjunction (exp e (again us)) in
    let s : Shape = ruled left back r in
    let found : units left ≡ exp e (again us) = units_conjunction e (again us) (first_no_conjunction e (equation e) refl parts.head.is) in
    let first = first_unit_text e (equation e) refl parts.head.is p.tree in
    let words : clause_text (clause_of (ruled l back r)) ≡ (first_text (equation e) e ++ each_behind comma (exp_texts (again us))) ++ (arrow_text back ++ top_text r) =
    ap (λ vs. clause_text (clause_by vs back r)) p.is
    ∙ ruled_clause_text e us back r (equation e) (each_behind comma (exp_texts (again us))) free (again_text us p.trees parts.given) in
    let text : ShapeText (clause_text (clause_of (ruled l back r))) s = shape_text_at words (ruled_text back (left_side first (again_trees us p.trees)) (right_side tree)) in
    let clause : clause_of s ≡ clause_of (ruled l back r) =
    ap (λ vs. clause_by vs back r) found ∙ same_clause e (again us) us back r (equation e) (again_condition us p.trees parts.no_arrays) (again_events us parts.no_arrays)
    ∙ ap (λ vs. clause_by vs back r) (sym p.is) in
    let events : shape_events s ≡ shape_events (ruled l back r) =
    ap (λ vs. events_in (other_units vs)) found ∙ again_events us parts.no_arrays ∙ ap (λ vs. events_in (other_units vs)) (sym p.is) in
    let before : conjunction (exp e us) ≡ l = ap conjunction (sym p.is) ∙ whole in
    let fewer : levels left ≤ levels l = subst (λ x. levels left ≤ levels x) before (again_levels e us) in
    record {
      shape = s;
      text = text;
      clause = clause;
      form = bad_same s (ruled l back r) clause refl events;
      flat = λ deep. flat (as_deep left l r fewer deep);
      names = names_shown text.shape ∙ ap (λ n. n ++ names_of r) (again_names e us ∙ ap names_of before) ∙ sym (names_shown read);
    }
  where
    as_deep : (m n o : ExpTree) → levels m ≤ levels n → (most_levels < levels m) ⊎ (most_levels < levels o) → (most_levels < levels n) ⊎ (most_levels < levels o)
    as_deep m n o fewer (inl deep) = inl (omega (arith, fewer, deep))
    as_deep m n o fewer (inr deep) = inr deep

units_whole : {e : ExpTree} → Tree e → conjunction (units e) ≡ e
units_whole (t.conjuncts items) = refl
units_whole u = refl

ruled_again : {ts : List Token} {s : Sides} {l r : ExpTree} → AreGood (map terminal ts) → sides ts ≡ Some s → HasExp s.left l → HasExp s.right r
    → ¬ IsDeepShape (ruled l s.back r) → bad_shape (ruled l s.back r) ≡ false → ClauseAgain ts (ruled l s.back r)
ruled_again {ts} {s} {l} {r} good is dl dr flat free =
    let known = free_by (clause_of (ruled l s.back r)) s.back (shape_events (ruled l s.back r)) (sym (bad_as (ruled l s.back r)) ∙ free) in
    let both = good_sides (halves ts s is) good in
    let u = tree_of s.left dl both.0 (left_fine l s.back r known) in
    let p = parted_items (units_trees u) in
    let free' : IsFree (clause_by (exp p.first p.others) s.back r) s.back (events_in p.others) =
    subst (λ vs. IsFree (clause_by vs s.back r) s.back (events_in (other_units vs))) p.is known in
    let parts = fine_parts p.first p.others s.back r (equation p.first) refl free' in
    ruled_by l s.back r (with_arrow is dl dr) p (units_whole u) (tree_of s.right dr both.1 parts.body) free' parts flat

-- ---- the whole

pub clause_again : {ts : List Token} {s : Shape} → AreGood (map terminal ts) → HasShape ts s → ¬ IsDeepShape s → bad_shape s ≡ false → ClauseAgain ts s
clause_again good (without_arrow alone d) flat free = bare_again good alone d flat free
clause_again good (with_arrow is dl dr) flat free = ruled_again good is dl dr flat free
