-- What calls ask for, by what is read of their arguments.
use Rattle.std.specs.Prelude.{◌≡◌, ◌<◌, ◌≤◌, ℕ, Bool, true, false, cond, nat_lt, List, [], ◌∷◌, Some, None, Result, Ok, Err, Vec, codes, refl}
use Rattle.std.specs.declared.alloc.Global.{Global}
use Rattle.std.proofs.Common.{arith, sym, ◌∙◌, ap, subst}
use Rattle.pi_terms.specs.Tree.{Tree, atom, no_trees, tree, cells, most_cells}
use Rattle.pi_terms.specs.ListNames.{nil}
use Rattle.pi_constraints.specs.declared.store.Ref.{Ref}
use Rattle.pi_constraints.specs.Value.{Bindings, IsAcyclic, value}
use Rattle.pi_constraints.specs.State.{State, bindings}
use Rattle.pi_constraints.specs.Store.{StoreView, IsTerm, AreTerms}
use Rattle.pi_constraints.proofs.FollowLemmas.{followed_other}
use Rattle.pi_constraints.proofs.RootLemmas.{value_atom}
use Rattle.pi_effects.specs.Exception.{term_too_large, exception_with, type_error}
use Rattle.pi_effects.specs.Items.{list_items, items_of_root}
use Rattle.pi_effects.specs.declared.fault.Stop.{Stop}
use Rattle.pi_effects.proofs.ItemLemmas.{items-by_root}
use Rattle.pi_label.specs.declared.fault.OptFault.{OptFault}
use Rattle.pi_label.specs.declared.options.Options.{Options}
use Rattle.pi_label.specs.Reads.{AreOptions, ShowsOptions, options_in}
use Rattle.pi_label.proofs.WordLemmas.{calls-go_by_options}
use Rattle.pi_lib_constraints.specs.Flattened.{ShowsFlat}
use Rattle.pi_lib_constraints.proofs.PostLemmas.{same-exception}
use Rattle.pi_settling.specs.Asked.{Flat, flat_items, raises, with_items, with_options, with_words, asked, asked_plainly}
use Rattle.pi_settling.specs.Options.{Options as Chosen, ReadOptions, forward, up, words_read}
use Rattle.pi_lib_solve.specs.declared.asking.Asked.{Asked}
use Rattle.pi_lib_solve.specs.Asks.{ShowsAsked, stop_of}

-- ---- the items

pub items-found : {M : Type 0} (v : StoreView M) (options : Options) (o : Chosen) (found : Vec Ref Global) (f : Flat) → AreOptions v options o → ShowsFlat v (Ok found) f → ShowsAsked v (Ok (record { options = options; items = found })) (with_items v.now.state o f)
items-found v options o found f are (xs, e, refs) = (o, xs, ap (with_items v.now.state o) e, are, refs)

pub items-refused : {M : Type 0} (v : StoreView M) (o : Chosen) (stop : Stop) (f : Flat) → ShowsFlat v (Err stop) f → ShowsAsked v (Err stop) (with_items v.now.state o f)
items-refused v o (Stop.Raised fault) f (t, e, ball) = (type_error (codes "integer") t v.now.state, ap (with_items v.now.state o) e, ball)
items-refused v o Stop.Memory f h = tt

-- ---- without options

abbrev pub plain : Chosen
plain = record { variable = forward; value = up; objective = None }

no-items : (b : Bindings) → IsAcyclic b → list_items b (atom nil) ≡ Some []
no-items b acyclic = items-by_root b (atom nil) acyclic ∙ ap (items_of_root (list_items b)) (followed_other b (atom nil) (λ m h. cc))

small : (b : Bindings) → nat_lt most_cells (cells (value b (atom nil))) ≡ false
unfolding cells
small b = ap (λ (t : Tree). nat_lt most_cells (cells t)) (value_atom b nil)

no-words : (s : State) (vars : Tree) → with_words s (atom nil) vars (Some []) ≡ with_items s plain (flat_items (bindings s) vars)
unfolding words_read
no-words s vars = refl

pub plainly-is : (s : State) (vars : Tree) → IsAcyclic (bindings s) → asked_plainly s vars ≡ with_items s plain (flat_items (bindings s) vars)
plainly-is s vars acyclic =
    ap (λ (test : Bool). cond test (raises term_too_large) (with_words s (atom nil) vars (list_items (bindings s) (atom nil)))) (small (bindings s))
    ∙ (ap (with_words s (atom nil) vars) (no-items (bindings s) acyclic) ∙ no-words s vars)

-- ---- with options

within : (n : ℕ) → n ≤ most_cells → nat_lt most_cells n ≡ false
within n h = grind (arith, h)

past : (n : ℕ) → most_cells < n → nat_lt most_cells n ≡ true
past n h = grind (arith, h)

sized : (s : State) (words vars : Tree) (r : ReadOptions) → cells (value (bindings s) words) ≤ most_cells → options_in (bindings s) words ≡ r → asked s words vars ≡ with_options s vars r
sized s words vars r fits e =
    calls-go_by_options s words vars
    ∙ (ap (λ (test : Bool). cond test (raises term_too_large) (with_options s vars (options_in (bindings s) words))) (within (cells (value (bindings s) words)) fits) ∙ ap (with_options s vars) e)

pub by-words : {M : Type 0} (v : StoreView M) (words vars : Tree) (options : Options) (result : Result Asked Stop) → ShowsOptions v words (Ok options) →
    ((o : Chosen) → AreOptions v options o → ShowsAsked v result (with_items v.now.state o (flat_items (bindings v.now.state) vars))) → ShowsAsked v result (asked v.now.state words vars)
by-words v words vars options result (fits, (w, e, are)) shows = subst (ShowsAsked v result) (sym (sized v.now.state words vars _ fits e)) (shows w are)

pub words-refused : {M : Type 0} (v : StoreView M) (words vars : Tree) (fault : OptFault) → ShowsOptions v words (Err fault) → ShowsAsked v (Err (stop_of fault)) (asked v.now.state words vars)
words-refused v words vars OptFault.TooLarge large =
    let s : State = v.now.state in (
      term_too_large,
      calls-go_by_options s words vars ∙ ap (λ (test : Bool). cond test (raises term_too_large) (with_options s vars (options_in (bindings s) words))) (past (cells (value (bindings s) words)) large),
      refl,
    )
words-refused v words vars (OptFault.BadOption q) (fits, (u, e, (t, is, same))) =
    let s : State = v.now.state in (
      exception_with (codes "bad_option") u s,
      sized s words vars _ fits e,
      (t, is, same-exception (codes "bad_option") s u t (sym same)),
    )
words-refused v words vars OptFault.Memory h = tt

-- ---- the arguments

pub one-term : {M : Type 0} (v : StoreView M) (args : List Ref) (a : Ref) (t : Tree) → args ≡ a ∷ [] → AreTerms v args (tree t no_trees) → IsTerm v a t
unfolding AreTerms
one-term v args a t e h = (subst (λ (rs : List Ref). AreTerms v rs (tree t no_trees)) e h).0

pub two-terms : {M : Type 0} (v : StoreView M) (args : List Ref) (a b : Ref) (t u : Tree) → args ≡ a ∷ b ∷ [] → AreTerms v args (tree t (tree u no_trees)) → IsTerm v a t × IsTerm v b u
unfolding AreTerms
two-terms v args a b t u e h = let are = subst (λ (rs : List Ref). AreTerms v rs (tree t (tree u no_trees))) e h in (are.0, are.1.0)

pub not-one : {A : Type 0} {M : Type 0} (v : StoreView M) (args : List Ref) (a b : Ref) (t : Tree) → args ≡ a ∷ b ∷ [] → AreTerms v args (tree t no_trees) → A
unfolding AreTerms
not-one v args a b t e h = absurd ((subst (λ (rs : List Ref). AreTerms v rs (tree t no_trees)) e h).1)

pub not-two : {A : Type 0} {M : Type 0} (v : StoreView M) (args : List Ref) (a : Ref) (t u : Tree) → args ≡ a ∷ [] → AreTerms v args (tree t (tree u no_trees)) → A
unfolding AreTerms
not-two v args a t u e h = absurd ((subst (λ (rs : List Ref). AreTerms v rs (tree t (tree u no_trees))) e h).1)
