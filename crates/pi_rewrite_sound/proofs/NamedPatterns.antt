-- No name of a pattern that is built is empty, as that of what a comprehension gathers is.
use Rattle.std.proofs.Common.{◌≡◌, Bool, true, false, [], ◌∷◌, ◌++◌, refl, ◌∙◌}
use Rattle.std.specs.Prelude.{◌&&◌, Option, Some, None}
use Rattle.std.specs.Str.{bytes_eq}
use Rattle.std.proofs.lemmas.Bool.{and_parts, or_from}
use Rattle.std.proofs.lemmas.List.Folds.{list_any-append}
use Rattle.pi_syntax.specs.ExpTree.{ExpTree, var, int, atom, str, list, list_onto, array, call, quote, range, range_by, at, ExpTrees, no_exps, exp}
use Rattle.pi_meaning.specs.OverNames.Texts.{Names, is_among, places, places_all, iterated, pattern_places, patterns_of}
use Rattle.pi_meaning.specs.OverNames.Loops.{hidden}
use Rattle.pi_rewrite_sound.specs.Built.{is_built_pattern, are_built_patterns, is_built_unit, is_built_collection, is_built_goal, are_built_units}

joined : (xs ys : Names) → is_among xs hidden ≡ false → is_among ys hidden ≡ false → is_among (xs ++ ys) hidden ≡ false
joined xs ys h i = list_any-append (bytes_eq hidden) xs ys ∙ or_from (is_among xs hidden) (is_among ys hidden) h i

mutual
  unfolding is_built_pattern places

  pattern-named : (e : ExpTree) → is_built_pattern e ≡ true → is_among (places e) hidden ≡ false
  pattern-named (var []) h = absurd cc
  pattern-named (var (c ∷ cs)) h = refl
  pattern-named (int n) h = refl
  pattern-named (atom name) h = refl
  pattern-named (str text) h = refl
  pattern-named (list es) h = patterns-named es h
  pattern-named (list_onto es e) h =
      let both = and_parts (are_built_patterns es) (is_built_pattern e) h in joined (places_all es) (places e) (patterns-named es both.0) (pattern-named e both.1)
  pattern-named (array es) h = patterns-named es h
  pattern-named (call name es) h = patterns-named es h
  pattern-named (quote e) h = pattern-named e h
  pattern-named (range first last) h =
      let both = and_parts (is_built_pattern first) (is_built_pattern last) h in joined (places first) (places last) (pattern-named first both.0) (pattern-named last both.1)
  pattern-named (range_by first step last) h =
      let both = and_parts (is_built_pattern first) (is_built_pattern step && is_built_pattern last) h in
      let rest = and_parts (is_built_pattern step) (is_built_pattern last) both.1 in
      joined (places first) (places step ++ places last) (pattern-named first both.0) (joined (places step) (places last) (pattern-named step rest.0) (pattern-named last rest.1))
  pattern-named (at [] e) h = absurd cc
  pattern-named (at (c ∷ cs) e) h = pattern-named e h
  pattern-named e h = absurd cc

  patterns-named : (es : ExpTrees) → are_built_patterns es ≡ true → is_among (places_all es) hidden ≡ false
  patterns-named no_exps h = refl
  patterns-named (exp e es) h =
      let both = and_parts (is_built_pattern e) (are_built_patterns es) h in joined (places e) (places_all es) (pattern-named e both.0) (patterns-named es both.1)

unit-named : (o : Option ExpTree) (over test : Bool) → is_built_unit o over test ≡ true → is_among (pattern_places o) hidden ≡ false
unit-named None over test h = refl
unit-named (Some e) over test h = pattern-named e (and_parts (is_built_pattern e) over h).0

pub units-named : (us : ExpTrees) → are_built_units us ≡ true → is_among (patterns_of us) hidden ≡ false
unfolding are_built_units patterns_of
units-named no_exps h = refl
units-named (exp u us) h =
    let both = and_parts (is_built_unit (iterated u) (is_built_collection u) (is_built_goal u)) (are_built_units us) h in
    joined (pattern_places (iterated u)) (patterns_of us) (unit-named (iterated u) (is_built_collection u) (is_built_goal u) both.0) (units-named us both.1)
