-- A copying store stays sound: more terms, more names, and each change of a state.
use Rattle.std.proofs.Common.{◌≡◌, ℕ, zero, suc, ◌<◌, ◌≤◌, List, [], ◌∷◌, ◌++◌, length, Option, Some, None, refl, ap, sym, subst, ◌∙◌, inl, inr, arith, length-append}
use Rattle.std.proofs.lemmas.List.{length-set}
use Rattle.std.specs.Prelude.{slice_get, slice_set, slice_index_or, IsTrue, ◌↔◌, Bool}
use Rattle.pi_terms.specs.Tree.{Tree, comp, Trees}
use Rattle.pi_terms.specs.Variables.{IsGround}
use Rattle.pi_types.specs.TreeStore.{trees_in, term_tree, grown, trees_of, name_at}
use Rattle.pi_atoms.specs.Names.{HasDistinct}
use Rattle.pi_types.specs.TreeStoreWalks.{AllWatchedBelow, watched_ref, variable_at, changed}
use Rattle.pi_types.specs.TreeStoreSound.{IsSoundTerm, IsSoundState, IsSoundVariable, IsSoundAgent, IsKnownBelow, IsMadeBelow, IsSound}
use Rattle.pi_constraints.specs.declared.event.Watch.{Watch}
use Rattle.pi_constraints.specs.declared.event.Activation.{Activation}
use Rattle.pi_constraints.specs.declared.constraint.Constraint.{Constraint}
use Rattle.pi_types.specs.declared.tree_store.state.StoredTerm.{StoredTerm}
use Rattle.pi_types.specs.declared.tree_store.state.Known.{Known}
use Rattle.pi_types.specs.declared.tree_store.state.StoredVariable.{StoredVariable}
use Rattle.pi_types.specs.declared.tree_store.state.StoredAgent.{StoredAgent}
use Rattle.pi_types.specs.declared.tree_store.state.TreeState.{TreeState}
use Rattle.pi_types.specs.declared.tree_store.state.Change.{Change}
use Rattle.pi_terms.proofs.GetLemmas.{get_append_left, get_append_last, get_append_cases, get_set_cases}
use Rattle.std.proofs.lemmas.Option.{slice_get_within}
use Rattle.pi_types.proofs.TreeStoreTrees.{Names, trees_more, trees_in_more, trees_names, length_trees, name_more}

-- More terms

known_more : (m n : ℕ) (k : Known) → m ≤ n → IsKnownBelow m k → IsKnownBelow n k
known_more m n Known.Free l h = tt
known_more m n (Known.Within d) l h = tt
known_more m n (Known.Bound r) l h = omega arith

watched_more : (m n : ℕ) (ws : List Watch) → m ≤ n → AllWatchedBelow m ws → AllWatchedBelow n ws
unfolding AllWatchedBelow
watched_more m n [] l h = tt
watched_more m n (w ∷ ws) l h = let here : (watched_ref w).number < m = h.0 in (omega arith, watched_more m n ws l h.1)

agent_more : (m n : ℕ) (a : StoredAgent) → m ≤ n → IsSoundAgent m a → IsSoundAgent n a
agent_more m n a l h = let here : a.call.number < m = h.call in record { call = omega arith; watches = watched_more m n a.watches l h.watches }

own_more : (cs : List StoredTerm) (c : StoredTerm) (i n : ℕ) (o : Option StoredTerm) → slice_get cs i ≡ o → variable_at o ≡ Some n → variable_at (slice_get (cs ++ c ∷ []) i) ≡ Some n
own_more cs c i n None e h = absurd (cc)
own_more cs c i n (Some d) e h = ap variable_at (get_append_left cs (c ∷ []) i d e) ∙ h

variable_more : (cs : List StoredTerm) (c : StoredTerm) (n : ℕ) (v : StoredVariable) → IsSoundVariable cs n v → IsSoundVariable (cs ++ c ∷ []) n v
variable_more cs c n v h = record {
  own = own_more cs c v.term.number n (slice_get cs v.term.number) refl h.own;
  known = known_more (length cs) (length (cs ++ c ∷ [])) v.known (omega (arith, length-append cs (c ∷ []))) h.known;
}

flag_along : (names : Names) (k : ℕ) (is_ground : Bool) (ts us : Trees) → ts ≡ us → IsTrue is_ground ↔ IsGround (comp (name_at names k) us) → IsTrue is_ground ↔ IsGround (comp (name_at names k) ts)
flag_along names k is_ground ts us e h = let P : Trees → Type 0 = λ w. IsTrue is_ground ↔ IsGround (comp (name_at names k) w) in subst P (sym e) h

term_more : (names : Names) (trees more : List Tree) (i : ℕ) (c : StoredTerm) → i ≤ length trees → IsSoundTerm names trees i c → IsSoundTerm names (trees ++ more) i c
term_more names trees more i (StoredTerm.Var n) l h = tt
term_more names trees more i (StoredTerm.Int n) l h = tt
term_more names trees more i (StoredTerm.Atom k) l h = h
term_more names trees more i (StoredTerm.Comp k args is_ground) l h = record {
  named = h.named;
  below = h.below;
  flag = flag_along names k is_ground (trees_in (trees ++ more) args) (trees_in trees args) (trees_in_more trees more i args h.below l) h.flag;
}

term_along : (names : Names) (trees us : List Tree) (i : ℕ) (c : StoredTerm) → us ≡ trees → IsSoundTerm names trees i c → IsSoundTerm names us i c
term_along names trees us i c e h = let P : List Tree → Type 0 = λ w. IsSoundTerm names w i c in subst P (sym e) h

-- one more term keeps what is sound, and is sound itself if it was over the trees before it
terms_more : (names : Names) (s : TreeState) (c : StoredTerm) → IsSoundState names s → IsSoundTerm names (trees_of names s) (length s.terms) c
    → (i : ℕ) (d : StoredTerm) → slice_get (s.terms ++ c ∷ []) i ≡ Some d → IsSoundTerm names (grown names [] (s.terms ++ c ∷ [])) i d
terms_more names s c h new i d e =
    let l : length (trees_of names s) ≡ length s.terms = length_trees names s in
    let more : List Tree = term_tree names (trees_of names s) c ∷ [] in
    term_along names (trees_of names s ++ more) (grown names [] (s.terms ++ c ∷ [])) i d (trees_more names s.terms c)
    (elim (get_append_cases s.terms c i d e) [
      | inl f ↦ let w : i < length s.terms = slice_get_within s.terms i d f in term_more names (trees_of names s) more i d (omega arith) (h.terms i d f)
      | inr f ↦ let P : ℕ → Type 0 = λ j. IsSoundTerm names (trees_of names s ++ more) j d in
          let Q : StoredTerm → Type 0 = λ x. IsSoundTerm names (trees_of names s ++ more) (length s.terms) x in
          subst P (sym f.0) (subst Q (sym f.1) (term_more names (trees_of names s) more (length s.terms) c (omega arith) new))
    ])

made_more : (m n : ℕ) (c : StoredTerm) → m ≤ n → IsMadeBelow m c → IsMadeBelow n c
made_more m n (StoredTerm.Var k) l h = omega arith
made_more m n (StoredTerm.Int k) l h = tt
made_more m n (StoredTerm.Atom k) l h = tt
made_more m n (StoredTerm.Comp k args is_ground) l h = tt

made_with : (m n : ℕ) (cs : List StoredTerm) (c : StoredTerm) → m ≤ n → ((i : ℕ) (d : StoredTerm) → slice_get cs i ≡ Some d → IsMadeBelow m d) → IsMadeBelow n c
    → (i : ℕ) (d : StoredTerm) → slice_get (cs ++ c ∷ []) i ≡ Some d → IsMadeBelow n d
made_with m n cs c l h new i d e = elim (get_append_cases cs c i d e) [
  | inl f ↦ made_more m n d l (h i d f)
  | inr f ↦ let P : StoredTerm → Type 0 = λ x. IsMadeBelow n x in subst P (sym f.1) new
]

pub sound_term : (names : Names) (s : TreeState) (c : StoredTerm) → IsSoundState names s → IsSoundTerm names (trees_of names s) (length s.terms) c × IsMadeBelow (length s.variables) c → IsSoundState names (changed s (Change.Term c))
sound_term names s c h new = record {
  terms = terms_more names s c h new.0;
  made = made_with (length s.variables) (length s.variables) s.terms c (omega arith) h.made new.1;
  variables = λ n v e. variable_more s.terms c n v (h.variables n v e);
  agents = λ n a e. agent_more (length s.terms) (length (s.terms ++ c ∷ [])) a (omega (arith, length-append s.terms (c ∷ []))) (h.agents n a e);
}

abbrev new_one : TreeState → StoredVariable
new_one s = record { term = record { number = length s.terms }; known = Known.Free }

pub sound_new : (names : Names) (s : TreeState) → IsSoundState names s → IsSoundState names (changed s Change.NewVariable)
sound_new names s h = let c : StoredTerm = StoredTerm.Var (length s.variables) in record {
  terms = terms_more names s c h tt;
  made = made_with (length s.variables) (length (s.variables ++ new_one s ∷ [])) s.terms c (omega (arith, length-append s.variables (new_one s ∷ []))) h.made (omega (arith, length-append s.variables (new_one s ∷ [])));
  variables = λ n v e. elim (get_append_cases s.variables (new_one s) n v e) [
    | inl f ↦ variable_more s.terms c n v (h.variables n v f)
    | inr f ↦
        let P : ℕ → Type 0 = λ j. IsSoundVariable (s.terms ++ c ∷ []) j v in
        let Q : StoredVariable → Type 0 = λ w. IsSoundVariable (s.terms ++ c ∷ []) (length s.variables) w in
        subst P (sym f.0) (subst Q (sym f.1) (record { own = ap variable_at (get_append_last s.terms c); known = tt }))
  ];
  agents = λ n a e. agent_more (length s.terms) (length (s.terms ++ c ∷ [])) a (omega (arith, length-append s.terms (c ∷ []))) (h.agents n a e);
}

pub sound_set : (names : Names) (s : TreeState) (n : ℕ) (v : StoredVariable) → IsSoundState names s → IsSoundVariable s.terms n v → IsSoundState names (changed s (Change.SetVariable n v))
sound_set names s n v h new = record {
  terms = h.terms;
  made = λ i c e. made_more (length s.variables) (length (slice_set s.variables n v)) c (omega (arith, length-set s.variables n v)) (h.made i c e);
  variables = λ m w e. elim (get_set_cases s.variables n v m w e) [
    | inl f ↦ h.variables m w f
    | inr f ↦
        let P : ℕ → Type 0 = λ j. IsSoundVariable s.terms j w in
        let Q : StoredVariable → Type 0 = λ x. IsSoundVariable s.terms n x in
        subst P (sym f.0) (subst Q (sym f.1) new)
  ];
  agents = h.agents;
}

pub sound_post : (names : Names) (s : TreeState) (c : Constraint) → IsSoundState names s → IsSoundState names (changed s (Change.Post c))
sound_post names s c h = record { terms = h.terms; made = h.made; variables = h.variables; agents = h.agents }

pub sound_wait : (names : Names) (s : TreeState) (a : Activation) → IsSoundState names s → IsSoundState names (changed s (Change.Wait a))
sound_wait names s a h = record { terms = h.terms; made = h.made; variables = h.variables; agents = h.agents }

pub sound_drop : (names : Names) (s : TreeState) → IsSoundState names s → IsSoundState names (changed s Change.DropWaiting)
sound_drop names s h = record { terms = h.terms; made = h.made; variables = h.variables; agents = h.agents }

pub sound_suspend : (names : Names) (s : TreeState) (a : StoredAgent) → IsSoundState names s → IsSoundAgent (length s.terms) a → IsSoundState names (changed s (Change.Suspend a))
sound_suspend names s a h new = record {
  terms = h.terms;
  made = h.made;
  variables = h.variables;
  agents = λ n b e. elim (get_append_cases s.agents a n b e) [
    | inl f ↦ h.agents n b f
    | inr f ↦ let P : StoredAgent → Type 0 = λ x. IsSoundAgent (length s.terms) x in subst P (sym f.1) new
  ];
}

pub sound_set_agent : (names : Names) (s : TreeState) (n : ℕ) (a : StoredAgent) → IsSoundState names s → IsSoundAgent (length s.terms) a → IsSoundState names (changed s (Change.SetAgent n a))
sound_set_agent names s n a h new = record {
  terms = h.terms;
  made = h.made;
  variables = h.variables;
  agents = λ m b e. elim (get_set_cases s.agents n a m b e) [
    | inl f ↦ h.agents m b f
    | inr f ↦ let P : StoredAgent → Type 0 = λ x. IsSoundAgent (length s.terms) x in subst P (sym f.1) new
  ];
}

-- More names

term_names : (names more : Names) (trees : List Tree) (i : ℕ) (c : StoredTerm) → IsSoundTerm names trees i c → IsSoundTerm (names ++ more) trees i c
term_names names more trees i (StoredTerm.Var n) h = tt
term_names names more trees i (StoredTerm.Int n) h = tt
term_names names more trees i (StoredTerm.Atom k) h = omega (arith, length-append names more)
term_names names more trees i (StoredTerm.Comp k args is_ground) h =
    let named : k < length names = h.named in
    let P : List ℕ → Type 0 = λ name. IsTrue is_ground ↔ IsGround (comp name (trees_in trees args)) in
    record { named = omega (arith, length-append names more); below = h.below; flag = subst P (sym (name_more names more k named)) h.flag }

pub sound_names : (names more : Names) (s : TreeState) → IsSoundState names s → IsSoundState (names ++ more) s
sound_names names more s h = record {
  terms = λ i c e. term_along (names ++ more) (trees_of names s) (trees_of (names ++ more) s) i c (trees_names names more s h) (term_names names more (trees_of names s) i c (h.terms i c e));
  made = h.made;
  variables = h.variables;
  agents = h.agents;
}

pub sound_more_names : (names more now : Names) (earlier : List TreeState) (present : TreeState) → now ≡ names ++ more → HasDistinct now → IsSound names earlier present → IsSound now earlier present
sound_more_names names more now earlier present e d h = let P : Names → Type 0 = λ w. HasDistinct w → IsSound w earlier present in
    subst P (sym e) (λ f. record { distinct = f; present_is = sound_names names more present h.present_is; earlier_are = λ i s g. sound_names names more s (h.earlier_are i s g) }) d

-- The states of a store

pub sound_same : (names : Names) (e f : List TreeState) (p q : TreeState) → f ≡ e → q ≡ p → IsSound names e p → IsSound names f q
sound_same names e f p q a b h = let P : List TreeState → Type 0 = λ w. IsSound names w q in
    let Q : TreeState → Type 0 = λ w. IsSound names e w in
    subst P (sym a) (subst Q (sym b) h)

pub sound_next : (names : Names) (e f : List TreeState) (p q next : TreeState) → f ≡ e ++ p ∷ [] → q ≡ next → IsSoundState names next → IsSound names e p → IsSound names f q
sound_next names e f p q next a b n h = let P : TreeState → Type 0 = λ w. IsSoundState names w in
    sound_same names (e ++ p ∷ []) f next q a b (record {
      distinct = h.distinct;
      present_is = n;
      earlier_are = λ i s g. elim (get_append_cases e p i s g) [ inl k ↦ h.earlier_are i s k | inr k ↦ subst P (sym k.1) h.present_is ];
    })

pub sound_present : (names : Names) (e : List TreeState) (p q next : TreeState) → q ≡ next → IsSoundState names next → IsSound names e p → IsSound names e q
sound_present names e p q next b n h = let P : TreeState → Type 0 = λ w. IsSoundState names w in
    record { distinct = h.distinct; present_is = subst P (sym b) n; earlier_are = h.earlier_are }

pub sound_in : (names : Names) (e : List TreeState) (p : TreeState) → IsSoundState names p → ((i : ℕ) (s : TreeState) → slice_get e i ≡ Some s → IsSoundState names s) → (m : ℕ) → IsSoundState names (slice_index_or e m p)
sound_in names [] p h g m = h
sound_in names (s ∷ e) p h g zero = g 0 s refl
sound_in names (s ∷ e) p h g (suc m) = sound_in names e p h (λ i t k. g (suc i) t k) m

pub sound_at : (names : Names) (e : List TreeState) (p : TreeState) (m : ℕ) → IsSound names e p → IsSoundState names (slice_index_or e m p)
sound_at names e p m h = sound_in names e p h.present_is h.earlier_are m
