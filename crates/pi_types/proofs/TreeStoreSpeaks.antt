-- The terms of a copying store speak of variables that were made.
use Rattle.std.proofs.Common.{◌≡◌, ℕ, zero, suc, ◌<◌, List, [], ◌∷◌, ◌++◌, length, Option, Some, None, sym, subst, ◌∙◌, inl, inr, arith, map, refl}
use Rattle.std.specs.Prelude.{slice_get, slice_index_or, pos}
use Rattle.std.proofs.lemmas.List.{length-map}
use Rattle.pi_terms.specs.Tree.{Tree, int}
use Rattle.pi_terms.specs.Variables.{Occurs, OccursInAny}
use Rattle.pi_constraints.specs.State.{SpeaksBelow, next}
use Rattle.pi_types.specs.TreeStore.{trees_in, term_tree, grown, trees_of, variable_of, state_of}
use Rattle.pi_types.specs.TreeStoreSound.{IsMadeBelow, IsSoundState}
use Rattle.pi_constraints.specs.declared.store.Ref.{Ref}
use Rattle.pi_types.specs.declared.tree_store.state.StoredTerm.{StoredTerm}
use Rattle.pi_types.specs.declared.tree_store.state.TreeState.{TreeState}
use Rattle.pi_terms.proofs.GetLemmas.{get_append_cases}
use Rattle.pi_types.proofs.TreeStoreTrees.{Names}

abbrev AllSpeakBelow : ℕ → List Tree → Type 0
AllSpeakBelow m trees = (i : ℕ) (t : Tree) → slice_get trees i ≡ Some t → SpeaksBelow m t

speaks_at : (m : ℕ) (trees : List Tree) (i : ℕ) → AllSpeakBelow m trees → SpeaksBelow m (slice_index_or trees i (int (pos 0)))
unfolding Occurs
speaks_at m [] i h = λ k o. absurd o
speaks_at m (t ∷ trees) zero h = h zero t refl
speaks_at m (t ∷ trees) (suc i) h = speaks_at m trees i (λ j u e. h (suc j) u e)

args_speak : (m : ℕ) (trees : List Tree) (rs : List Ref) → AllSpeakBelow m trees → (k : ℕ) → OccursInAny k (trees_in trees rs) → k < m
unfolding trees_in Occurs OccursInAny
args_speak m trees [] h k o = absurd o
args_speak m trees (r ∷ rs) h k (inl o) = speaks_at m trees r.number h k o
args_speak m trees (r ∷ rs) h k (inr o) = args_speak m trees rs h k o

term_speaks : (names : Names) (m : ℕ) (trees : List Tree) (c : StoredTerm) → AllSpeakBelow m trees → IsMadeBelow m c → SpeaksBelow m (term_tree names trees c)
unfolding Occurs
term_speaks names m trees (StoredTerm.Var n) h b = λ k o. let P : ℕ → Type 0 = λ j. j < m in subst P o b
term_speaks names m trees (StoredTerm.Int n) h b = λ k o. absurd o
term_speaks names m trees (StoredTerm.Atom n) h b = λ k o. absurd o
term_speaks names m trees (StoredTerm.Comp n args is_ground) h b = args_speak m trees args h

more_speak : (m : ℕ) (trees : List Tree) (t : Tree) → AllSpeakBelow m trees → SpeaksBelow m t → AllSpeakBelow m (trees ++ t ∷ [])
more_speak m trees t h new i u e = elim (get_append_cases trees t i u e) [
  | inl f ↦ h i u f
  | inr f ↦ let P : Tree → Type 0 = λ x. SpeaksBelow m x in subst P (sym f.1) new
]

grown_speak : (names : Names) (m : ℕ) (trees : List Tree) (cs : List StoredTerm) → AllSpeakBelow m trees → ((i : ℕ) (c : StoredTerm) → slice_get cs i ≡ Some c → IsMadeBelow m c) → AllSpeakBelow m (grown names trees cs)
unfolding grown
grown_speak names m trees [] h b = h
grown_speak names m trees (c ∷ cs) h b =
    grown_speak names m (trees ++ term_tree names trees c ∷ []) cs
    (more_speak m trees (term_tree names trees c) h (term_speaks names m trees c h (b zero c refl))) (λ i d e. b (suc i) d e)

none_speak : (m : ℕ) → AllSpeakBelow m []
none_speak m i t e = absurd (cc)

pub terms_speak : (names : Names) (s : TreeState) → IsSoundState names s → (q : Ref) (t : Tree) → slice_get (trees_of names s) q.number ≡ Some t → SpeaksBelow (next (state_of (trees_of names s) s)) t
terms_speak names s h q t e =
    let many : length s.variables ≡ next (state_of (trees_of names s) s) = sym (length-map s.variables (variable_of (trees_of names s))) in
    let P : ℕ → Type 0 = λ m. SpeaksBelow m t in
    subst P many (grown_speak names (length s.variables) [] s.terms (none_speak (length s.variables)) h.made q.number t e)
