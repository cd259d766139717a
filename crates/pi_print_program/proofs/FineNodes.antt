-- In a clause that has no node where it may not stand, no index stands behind `@`: that stands in patterns alone, which have no index.
use Rattle.std.proofs.Common.{◌≡◌, ℕ, suc, Bool, true, false, not, ◌||◌, List, [], ◌∷◌, ◌++◌, refl, sym, ◌∙◌}
use Rattle.std.proofs.lemmas.Bool.{false≢true}
use Rattle.std.proofs.lemmas.List.Folds.{list_any-append}
use Rattle.std.specs.List.{list_any}
use Rattle.pi_syntax.specs.ExpTree.{ExpTree, var, int, atom, str, list, list_onto, array, call, quote, index, range, range_by, at, collect, and, or, arrow, if_then, if_else, foreach, while_do, do_while, ExpTrees, no_exps, exp, ExpBranches, no_branches, branch}
use Rattle.pi_syntax.specs.Signature.{exp_count}
use Rattle.pi_prog_clauses.specs.Items.{is_pattern_node, breaks_pattern, is_misplaced_at, is_misplaced, is_stray, misplaces, misassigns, has_stray_at, lacks_goal, are_bad_nodes, is_kept_from_patterns}
use Rattle.pi_prog_clauses.specs.Places.{Place, goal, asked, expression, operand, iterator, term, pattern, Placed, placed_at, inside, quoted, body, test, argument, below, all_placed, arguments_placed, branches_placed}
use Rattle.pi_print_program.proofs.Calls.{neither}
use Rattle.pi_print_program.specs.Patterns.{is_index}
use Rattle.pi_print_program.specs.Patterns.{Fine, AllFine, BranchesFine}

pub split : (test' : Placed → Bool) (xs ys : List Placed) → list_any test' (xs ++ ys) ≡ false → (list_any test' xs ≡ false) × (list_any test' ys ≡ false)
split test' xs ys none = neither (list_any test' xs) (list_any test' ys) (sym (list_any-append test' xs ys) ∙ none)

pub wrong : {P : Type 0} → ◌≡◌ {A = Bool} true false → P
wrong e = absurd (false≢true (sym e))

no_index : (is_quoted : Bool) (e : ExpTree) → not (is_pattern_node is_quoted e) ≡ false → is_index e ≡ false
no_index is_quoted (index e es) clear = wrong clear
no_index is_quoted _ clear = refl

-- ---- patterns

mutual
  unfolding below all_placed arguments_placed branches_placed Fine AllFine BranchesFine

  pub fine_pattern : (is_quoted : Bool) (e : ExpTree) → list_any breaks_pattern (placed_at (pattern is_quoted) e ∷ below (pattern is_quoted) e) ≡ false → Fine e
  fine_pattern q (var name) clear = tt
  fine_pattern q (int n) clear = tt
  fine_pattern q (atom name) clear = tt
  fine_pattern q (str text) clear = tt
  fine_pattern q (list es) clear = fine_patterns q es clear
  fine_pattern q (list_onto es e) clear =
      let (left, right) = split breaks_pattern (all_placed (pattern q) es) (placed_at (pattern q) e ∷ below (pattern q) e) clear in
      (fine_patterns q es left, fine_pattern q e right)
  fine_pattern q (array es) clear = fine_patterns q es clear
  fine_pattern q (call name es) clear =
      fine_parts q name (exp_count es) 0 es (neither (not (q || not (is_kept_from_patterns name (exp_count es)))) (list_any breaks_pattern (arguments_placed (pattern q) name (exp_count es) 0 es)) clear).1
  fine_pattern q (quote e) clear = fine_pattern true e clear
  fine_pattern q (index e es) clear = wrong clear
  fine_pattern q (range first last) clear =
      let xs = placed_at (pattern q) first ∷ below (pattern q) first in
      let ys = placed_at (pattern q) last ∷ below (pattern q) last in
      let (left, right) = split breaks_pattern xs ys (neither (not q) (list_any breaks_pattern (xs ++ ys)) clear).1 in
      (fine_pattern q first left, fine_pattern q last right)
  fine_pattern q (range_by first step last) clear =
      let xs = placed_at (pattern q) first ∷ below (pattern q) first in
      let ys = placed_at (pattern q) step ∷ below (pattern q) step in
      let zs = placed_at (pattern q) last ∷ below (pattern q) last in
      let (left, right) = split breaks_pattern xs (ys ++ zs) (neither (not q) (list_any breaks_pattern (xs ++ (ys ++ zs))) clear).1 in
      let (mid, end) = split breaks_pattern ys zs right in
      (fine_pattern q first left, (fine_pattern q step mid, fine_pattern q last end))
  fine_pattern q (at name e) clear = (no_index q e (neither (not (is_pattern_node q e)) (list_any breaks_pattern (below (pattern q) e)) clear).0, fine_pattern q e clear)
  fine_pattern q (collect is_array e es) clear = wrong clear
  fine_pattern q (and es) clear = wrong clear
  fine_pattern q (or es) clear = wrong clear
  fine_pattern q (arrow c e) clear = wrong clear
  fine_pattern q (if_then bs) clear = wrong clear
  fine_pattern q (if_else bs e) clear = wrong clear
  fine_pattern q (foreach es e) clear = wrong clear
  fine_pattern q (while_do c e) clear = wrong clear
  fine_pattern q (do_while e c) clear = wrong clear

  pub fine_patterns : (is_quoted : Bool) (es : ExpTrees) → list_any breaks_pattern (all_placed (pattern is_quoted) es) ≡ false → AllFine es
  fine_patterns q no_exps clear = tt
  fine_patterns q (exp e es) clear =
      let (left, right) = split breaks_pattern (placed_at (pattern q) e ∷ below (pattern q) e) (all_placed (pattern q) es) clear in
      (fine_pattern q e left, fine_patterns q es right)

  fine_parts : (is_quoted : Bool) (name : List ℕ) (arity i : ℕ) (es : ExpTrees) → list_any breaks_pattern (arguments_placed (pattern is_quoted) name arity i es) ≡ false → AllFine es
  fine_parts q name arity i no_exps clear = tt
  fine_parts q name arity i (exp e es) clear =
      let (left, right) = split breaks_pattern (placed_at (pattern q) e ∷ below (pattern q) e) (arguments_placed (pattern q) name arity (suc i) es) clear in
      (fine_pattern q e left, fine_parts q name arity (suc i) es right)

-- ---- goals and expressions

-- no node is no pattern where one stands, and no `V@P` stands elsewhere
pub record AreClear (nodes : List Placed) : Type 0 where
  pub patterns : list_any breaks_pattern nodes ≡ false
  pub strays : list_any is_stray nodes ≡ false

behind : {n : Placed} {ns : List Placed} → AreClear (n ∷ ns) → AreClear ns
behind {n} {ns} c = record { patterns = (neither (breaks_pattern n) (list_any breaks_pattern ns) c.patterns).1; strays = (neither (is_stray n) (list_any is_stray ns) c.strays).1 }

pub front_clear : (xs ys : List Placed) → AreClear (xs ++ ys) → AreClear xs
front_clear xs ys c = record { patterns = (split breaks_pattern xs ys c.patterns).0; strays = (split is_stray xs ys c.strays).0 }

pub rest_clear : (xs ys : List Placed) → AreClear (xs ++ ys) → AreClear ys
rest_clear xs ys c = record { patterns = (split breaks_pattern xs ys c.patterns).1; strays = (split is_stray xs ys c.strays).1 }

at_no_index : (p : Place) (name : List ℕ) (e : ExpTree) → AreClear (placed_at p (at name e) ∷ placed_at (inside p) e ∷ below (inside p) e) → is_index e ≡ false
at_no_index (pattern q) name e clear = no_index q e (neither (not (is_pattern_node q e)) (list_any breaks_pattern (below (pattern q) e)) clear.patterns).0
at_no_index (goal assigns) name e clear = wrong clear.strays
at_no_index asked name e clear = wrong clear.strays
at_no_index expression name e clear = wrong clear.strays
at_no_index operand name e clear = wrong clear.strays
at_no_index iterator name e clear = wrong clear.strays
at_no_index term name e clear = wrong clear.strays

mutual
  unfolding below all_placed arguments_placed branches_placed Fine AllFine BranchesFine

  pub fine_placed : (p : Place) (e : ExpTree) → AreClear (placed_at p e ∷ below p e) → Fine e
  fine_placed p (var name) clear = tt
  fine_placed p (int n) clear = tt
  fine_placed p (atom name) clear = tt
  fine_placed p (str text) clear = tt
  fine_placed p (list es) clear = fine_all (inside p) es (behind clear)
  fine_placed p (list_onto es e) clear =
      let xs = all_placed (inside p) es in
      let ys = placed_at (inside p) e ∷ below (inside p) e in
      (fine_all (inside p) es (front_clear xs ys (behind clear)), fine_placed (inside p) e (rest_clear xs ys (behind clear)))
  fine_placed p (array es) clear = fine_all (inside p) es (behind clear)
  fine_placed p (call name es) clear = fine_arguments p name (exp_count es) 0 es (behind clear)
  fine_placed p (quote e) clear = fine_placed (quoted p) e (behind clear)
  fine_placed p (index e es) clear =
      let xs = placed_at (inside p) e ∷ below (inside p) e in
      let ys = all_placed (inside p) es in
      (fine_placed (inside p) e (front_clear xs ys (behind clear)), fine_all (inside p) es (rest_clear xs ys (behind clear)))
  fine_placed p (range first last) clear =
      let xs = placed_at (inside p) first ∷ below (inside p) first in
      let ys = placed_at (inside p) last ∷ below (inside p) last in
      (fine_placed (inside p) first (front_clear xs ys (behind clear)), fine_placed (inside p) last (rest_clear xs ys (behind clear)))
  fine_placed p (range_by first step last) clear =
      let xs = placed_at (inside p) first ∷ below (inside p) first in
      let ys = placed_at (inside p) step ∷ below (inside p) step in
      let zs = placed_at (inside p) last ∷ below (inside p) last in
      let right = rest_clear xs (ys ++ zs) (behind clear) in
      (fine_placed (inside p) first (front_clear xs (ys ++ zs) (behind clear)), (fine_placed (inside p) step (front_clear ys zs right), fine_placed (inside p) last (rest_clear ys zs right)))
  fine_placed p (at name e) clear = (at_no_index p name e clear, fine_placed (inside p) e (behind clear))
  fine_placed p (collect is_array e es) clear =
      let xs = placed_at (inside p) e ∷ below (inside p) e in
      let ys = all_placed iterator es in
      (fine_placed (inside p) e (front_clear xs ys (behind clear)), fine_all iterator es (rest_clear xs ys (behind clear)))
  fine_placed p (and es) clear = fine_all (body p) es (behind clear)
  fine_placed p (or es) clear = fine_all (body p) es (behind clear)
  fine_placed p (arrow c e) clear =
      let xs = placed_at test c ∷ below test c in
      let ys = placed_at (body p) e ∷ below (body p) e in
      (fine_placed test c (front_clear xs ys (behind clear)), fine_placed (body p) e (rest_clear xs ys (behind clear)))
  fine_placed p (if_then bs) clear = fine_branches p bs (behind clear)
  fine_placed p (if_else bs e) clear =
      let xs = branches_placed p bs in
      let ys = placed_at (body p) e ∷ below (body p) e in
      (fine_branches p bs (front_clear xs ys (behind clear)), fine_placed (body p) e (rest_clear xs ys (behind clear)))
  fine_placed p (foreach es e) clear =
      let xs = all_placed iterator es in
      let ys = placed_at (body p) e ∷ below (body p) e in
      (fine_all iterator es (front_clear xs ys (behind clear)), fine_placed (body p) e (rest_clear xs ys (behind clear)))
  fine_placed p (while_do c e) clear =
      let xs = placed_at test c ∷ below test c in
      let ys = placed_at (body p) e ∷ below (body p) e in
      (fine_placed test c (front_clear xs ys (behind clear)), fine_placed (body p) e (rest_clear xs ys (behind clear)))
  fine_placed p (do_while e c) clear =
      let xs = placed_at (body p) e ∷ below (body p) e in
      let ys = placed_at test c ∷ below test c in
      (fine_placed (body p) e (front_clear xs ys (behind clear)), fine_placed test c (rest_clear xs ys (behind clear)))

  pub fine_all : (p : Place) (es : ExpTrees) → AreClear (all_placed p es) → AllFine es
  fine_all p no_exps clear = tt
  fine_all p (exp e es) clear =
      let xs = placed_at p e ∷ below p e in
      (fine_placed p e (front_clear xs (all_placed p es) clear), fine_all p es (rest_clear xs (all_placed p es) clear))

  fine_arguments : (p : Place) (name : List ℕ) (arity i : ℕ) (es : ExpTrees) → AreClear (arguments_placed p name arity i es) → AllFine es
  fine_arguments p name arity i no_exps clear = tt
  fine_arguments p name arity i (exp e es) clear =
      let xs = placed_at (argument p name arity i) e ∷ below (argument p name arity i) e in
      let ys = arguments_placed p name arity (suc i) es in
      (fine_placed (argument p name arity i) e (front_clear xs ys clear), fine_arguments p name arity (suc i) es (rest_clear xs ys clear))

  fine_branches : (p : Place) (bs : ExpBranches) → AreClear (branches_placed p bs) → BranchesFine bs
  fine_branches p no_branches clear = tt
  fine_branches p (branch c e bs) clear =
      let xs = placed_at test c ∷ below test c in
      let ys = placed_at (body p) e ∷ below (body p) e in
      let zs = branches_placed p bs in
      let right = rest_clear xs (ys ++ zs) clear in
      (fine_placed test c (front_clear xs (ys ++ zs) clear), (fine_placed (body p) e (front_clear ys zs right), fine_branches p bs (rest_clear ys zs right)))

-- ---- of a clause

pattern_placed : (p : Place) (e : ExpTree) → is_misplaced_at p e ≡ false → breaks_pattern (placed_at p e) ≡ false
pattern_placed (pattern q) e clear = clear
pattern_placed (goal assigns) e clear = refl
pattern_placed asked e clear = refl
pattern_placed expression e clear = refl
pattern_placed operand e clear = refl
pattern_placed iterator e clear = refl
pattern_placed term e clear = refl

patterns_placed : (nodes : List Placed) → list_any is_misplaced nodes ≡ false → list_any breaks_pattern nodes ≡ false
patterns_placed [] clear = refl
patterns_placed (n ∷ ns) clear =
    let (here, rest) = neither (is_misplaced n) (list_any is_misplaced ns) clear in
    rw (pattern_placed n.place n.node here) (patterns_placed ns rest)

pub placed_rightly : (nodes : List Placed) → are_bad_nodes nodes ≡ false → list_any is_misplaced nodes ≡ false
unfolding misplaces
placed_rightly nodes good = (neither (misplaces nodes) (misassigns nodes || (has_stray_at nodes || lacks_goal nodes)) good).0

pub nodes_clear : (nodes : List Placed) → are_bad_nodes nodes ≡ false → AreClear nodes
unfolding has_stray_at
nodes_clear nodes good =
    let later = (neither (misplaces nodes) (misassigns nodes || (has_stray_at nodes || lacks_goal nodes)) good).1 in
    let last = (neither (misassigns nodes) (has_stray_at nodes || lacks_goal nodes) later).1 in
    record { patterns = patterns_placed nodes (placed_rightly nodes good); strays = (neither (has_stray_at nodes) (lacks_goal nodes) last).0 }
