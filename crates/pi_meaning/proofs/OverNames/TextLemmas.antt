-- A text as a pattern is the list pattern of its characters.
use Rattle.std.specs.Prelude.{◌≡◌, List, [], ◌∷◌, Option, Some, None, option_and_then, refl}
use Rattle.std.specs.Char.{encode_utf8}
use Rattle.std.specs.Str.{chars}
use Rattle.std.proofs.Common.{ℕ}
use Rattle.pi_terms.specs.Tree.{Tree}
use Rattle.pi_constraints.specs.Value.{Bindings}
use Rattle.pi_constraints.specs.State.{followed}
use Rattle.pi_terms.specs.ListNames.{nil}
use Rattle.pi_effects.specs.Items.{cell_parts}
use Rattle.pi_meaning.specs.OverNames.Environment.{Environment}
use Rattle.pi_meaning.specs.OverNames.Heads.{Matching, cell_matched, atom_matched, characters_matched, pattern_matched, items_matched}
use Rattle.pi_meaning.specs.OverNames.Laws.{character_items, TextsMatchAsLists}

-- what is behind the first item decides alike
cell-by-rest : (first rest other : Matching) → ((t : Tree) (e : Environment) → rest t e ≡ other t e) → (o : Option (Tree × Tree)) (e : Environment) → cell_matched first rest o e ≡ cell_matched first other o e
cell-by-rest first rest other same None e = refl
cell-by-rest first rest other same (Some p) e = λ i. option_and_then (λ f. same p.1 f i) (first p.0 e)

characters-as-items : (b : Bindings) (cs : List ℕ) (t : Tree) (e : Environment) → characters_matched b cs t e ≡ items_matched b (character_items cs) (atom_matched b nil) t e
unfolding characters_matched items_matched pattern_matched
characters-as-items b [] t e = refl
characters-as-items b (c ∷ cs) t e =
    cell-by-rest (atom_matched b (encode_utf8 c)) (characters_matched b cs) (items_matched b (character_items cs) (atom_matched b nil)) (λ u f. characters-as-items b cs u f) (cell_parts (followed b t)) e

pub texts-match-as-lists : TextsMatchAsLists
unfolding pattern_matched
texts-match-as-lists b text t e = characters-as-items b (chars text) t e
