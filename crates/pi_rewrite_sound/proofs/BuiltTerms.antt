-- Terms behind `$` and patterns of heads that are built are of the forms that are lowered.
use Rattle.std.proofs.Common.{◌≡◌, ◌&&◌, true}
use Rattle.std.proofs.lemmas.Bool.{and_parts}
use Rattle.pi_syntax.specs.ExpTree.{ExpTree, var, int, atom, str, list, list_onto, array, call, quote, range, range_by, at, ExpTrees, no_exps, exp}
use Rattle.pi_rewrite_sound.specs.Built.{is_built_term, are_built_terms, is_named, is_built_pattern, are_built_patterns}
use Rattle.pi_rewrite_spec.specs.Forms.{IsTerm, AreTerms, IsPattern, ArePatterns}

mutual
  unfolding is_built_term IsTerm

  pub term-of : (e : ExpTree) → is_built_term e ≡ true → IsTerm e
  term-of (var name) h = tt
  term-of (int n) h = tt
  term-of (atom name) h = tt
  term-of (str text) h = tt
  term-of (list es) h = terms-of es h
  term-of (list_onto es e) h = let both = and_parts (are_built_terms es) (is_built_term e) h in (terms-of es both.0, term-of e both.1)
  term-of (array es) h = terms-of es h
  term-of (call name es) h = terms-of es h
  term-of (quote e) h = term-of e h
  term-of (range first last) h = let both = and_parts (is_built_term first) (is_built_term last) h in (term-of first both.0, term-of last both.1)
  term-of (range_by first step last) h =
      let both = and_parts (is_built_term first) (is_built_term step && is_built_term last) h in
      let rest = and_parts (is_built_term step) (is_built_term last) both.1 in
      (term-of first both.0, term-of step rest.0, term-of last rest.1)
  term-of e h = absurd cc

  terms-of : (es : ExpTrees) → are_built_terms es ≡ true → AreTerms es
  terms-of no_exps h = tt
  terms-of (exp e es) h = let both = and_parts (is_built_term e) (are_built_terms es) h in (term-of e both.0, terms-of es both.1)

mutual
  unfolding is_built_pattern IsPattern

  pub pattern-of : (e : ExpTree) → is_built_pattern e ≡ true → IsPattern e
  pattern-of (var name) h = tt
  pattern-of (int n) h = tt
  pattern-of (atom name) h = tt
  pattern-of (str text) h = tt
  pattern-of (list es) h = patterns-of es h
  pattern-of (list_onto es e) h = let both = and_parts (are_built_patterns es) (is_built_pattern e) h in (patterns-of es both.0, pattern-of e both.1)
  pattern-of (array es) h = patterns-of es h
  pattern-of (call name es) h = patterns-of es h
  pattern-of (quote e) h = pattern-of e h
  pattern-of (range first last) h = let both = and_parts (is_built_pattern first) (is_built_pattern last) h in (pattern-of first both.0, pattern-of last both.1)
  pattern-of (range_by first step last) h =
      let both = and_parts (is_built_pattern first) (is_built_pattern step && is_built_pattern last) h in
      let rest = and_parts (is_built_pattern step) (is_built_pattern last) both.1 in
      (pattern-of first both.0, pattern-of step rest.0, pattern-of last rest.1)
  pattern-of (at name e) h = pattern-of e (and_parts (is_named name) (is_built_pattern e) h).1
  pattern-of e h = absurd cc

  pub patterns-of : (es : ExpTrees) → are_built_patterns es ≡ true → ArePatterns es
  patterns-of no_exps h = tt
  patterns-of (exp e es) h = let both = and_parts (is_built_pattern e) (are_built_patterns es) h in (pattern-of e both.0, patterns-of es both.1)
