-- What the terms of a fact's head and the arguments of a call are at their roots: where they differ, the fact doesn't unify with the call.
use Rattle.std.specs.Prelude.{◌≢◌, ◌⊎◌, ⊤}
use Rattle.pi_terms.specs.Tree.{Tree, var, int, atom, comp, tree_count}
use Rattle.pi_terms.specs.PatternTree.{PatternTree, slot, exact_int, exact_atom, compound, named}
use Rattle.pi_meaning.specs.CoreMeaning.Sound.{pattern_count}

-- the terms of a pattern are at their roots another thing than a term, which is no variable
unfoldable pub Differs : PatternTree → Tree → Type 0
Differs (slot k) t = ⊥
Differs (named k p) t = ⊥
Differs (exact_int n) (var k) = ⊥
Differs (exact_int n) (int m) = n ≢ m
Differs (exact_int n) (atom g) = ⊤
Differs (exact_int n) (comp g ts) = ⊤
Differs (exact_atom f) (var k) = ⊥
Differs (exact_atom f) (int m) = ⊤
Differs (exact_atom f) (atom g) = f ≢ g
Differs (exact_atom f) (comp g ts) = ⊤
Differs (compound f ps) (var k) = ⊥
Differs (compound f ps) (int m) = ⊤
Differs (compound f ps) (atom g) = ⊤
Differs (compound f ps) (comp g ts) = (f ≢ g) ⊎ (pattern_count ps ≢ tree_count ts)
