-- What `call` of a term comes to: its arguments are read, and what its name finds is entered, or raised.
use Rattle.std.proofs.Common.{◌≡◌, ℕ, ◌<◌, List, [], ◌∷◌, ◌++◌, Option, Some, None, length, map, refl, sym, ◌∙◌, ap, subst, arith}
use Rattle.std.specs.Prelude.{slice_get, codes}
use Rattle.pi_terms.specs.Tree.{Tree, Trees, no_trees, tree, tree_count}
use Rattle.pi_terms.specs.Places.{Places}
use Rattle.pi_constraints.specs.Value.{IsAcyclic}
use Rattle.pi_constraints.specs.State.{bindings, followed}
use Rattle.pi_engine_stands.specs.Rests.{Rests}
use Rattle.pi_constraints.specs.Store.{StoreView, IsTerm, IsName, AreTerms}
use Rattle.pi_constraints.specs.Evaluation.{EvaluatedAll}
use Rattle.pi_constraints.specs.declared.store.Ref.{Ref}
use Rattle.pi_core.specs.GoalTree.{GoalTree, GoalTrees, goal, no_goals}
use Rattle.pi_core.specs.CoreTree.{pred_tree}
use Rattle.pi_effects.specs.Exception.{type_error}
use Rattle.pi_effects.specs.Items.{each_tree}
use Rattle.pi_effects.specs.Balls.{IsBall}
use Rattle.pi_effects.specs.declared.fault.Fault.{Fault}
use Rattle.pi_effects.specs.declared.fault.Kind.{Kind as FaultKind}
use Rattle.pi_meaning.specs.Shared.View.{View}
use Rattle.pi_meaning.specs.Shared.Calls.{Called, called_by}
use Rattle.pi_lib.proofs.RunLemmas.{terms-count}
use Rattle.pi_engine_facts.specs.Called.{IsCalled, NamesAreDistinct}
use Rattle.pi_engine_code.specs.declared.code.Node.{Node}
use Rattle.pi_engine_code.specs.declared.code.Step.{Step}
use Rattle.pi_engine_code.specs.Code.{preds_of}
use Rattle.pi_engine_code.specs.Callables.{place_in}
use Rattle.pi_engine_arenas.specs.declared.frames.Point.{Point}
use Rattle.pi_engine_arenas.specs.declared.run.Now.{Now}
use Rattle.pi_engine_arenas.specs.Blocks.{BlocksView, KeepsBlocks}
use Rattle.pi_engine_arenas.specs.Arenas.{ArenasView, between}
use Rattle.pi_engine_arenas.specs.Frames.{PushesBehind}
use Rattle.pi_meaning.specs.Machine.Configuration.{Frame, going, raising, behind, returning, Entry as EntryData, in_places}
use Rattle.pi_meaning.specs.Machine.Step.{goal_step, first_now, unknown_by, goal_called, with_rest}
use Rattle.pi_engine_stands.specs.Stands.{World, steps_of, StackStands, StandsGoing}
use Rattle.pi_engine_stands.specs.Evaluates.{with_blocks, EvaluatesAll}
use Rattle.pi_engine_stands.specs.Makes.{StandsAfter}
use Rattle.pi_engine_stands.proofs.StandsLemmas.{moved}
use Rattle.pi_engine_stands.proofs.FramesStand.{framed}
use Rattle.pi_engine_stands.proofs.EqualStands.{block_of, stack-moved}
use Rattle.pi_engine_stands.proofs.CallRuns.{GivesBack}
use Rattle.pi_engine_stands.proofs.NamedStands.{FoundNamed, found-goal, missing-called, first-none, first-unknown, first-goes}
use Rattle.pi_engine_stands.proofs.TermRuns.{term_arguments, named_point, TermReads, term-reads, term-raises, term-enters}

-- ---- the arguments

some-first : (ts : Trees) → 0 < tree_count ts → (t : Tree) × (us : Trees) × (ts ≡ tree t us)
unfolding tree_count
some-first no_trees some = absurd (omega (arith, some))
some-first (tree t us) some = (t, us, refl)

-- the term that is called, with those behind it
pub record FirstRead {M : Type 0} (u : StoreView M) (all : EvaluatedAll) (rs : List Ref) : Type 0 where
  pub called : Tree
  pub more : Trees
  pub is : all.trees ≡ tree called more
  pub are : AreTerms u rs (tree called more)
  pub state : Rests u.now.state

pub first-read : {M : Type 0} (w : World M) (u : StoreView M) (b : ArenasView M) (p : Point) (s : Step) (operands arity : ℕ) (rs : List Ref) (g : GoalTree) (gs : GoalTrees) (e : Places) (k : List Frame) (es : List EntryData) →
    s.node ≡ Node.CallTerm operands arity → slice_get (steps_of w.loaded) p.place ≡ Some s → (stands : StandsGoing w p (goal g gs) e k es) →
    EvaluatesAll (block_of w p g gs e k es stands) (between w.store u w.arenas b) (term_arguments w operands arity e) rs → FirstRead u (term_arguments w operands arity e) rs
first-read w u b p s operands arity rs g gs e k es node at stands evaluates =
    let all : EvaluatedAll = term_arguments w operands arity e in
    let reads : TermReads w p g gs e k es stands operands arity = term-reads w p s g gs e k es operands arity node at stands in
    let first : (t : Tree) × (us : Trees) × (all.trees ≡ tree t us) = some-first all.trees (omega (arith, reads.count, reads.some)) in
    record {
      called = first.0;
      more = first.1;
      is = first.2;
      are = subst (AreTerms u rs) first.2 evaluates.terms;
      state = subst Rests (sym evaluates.writes.state) reads.state;
    }

-- what is called, told of any terms that are there
abbrev pub Calls : {M : Type 0} → StoreView M → Option ℕ → List Ref → List Ref → Type 0
Calls u name rs parts =
    (t : Tree) (ts : Trees) → IsAcyclic (bindings u.now.state) → AreTerms u rs (tree t ts) → IsCalled u name parts (called_by (followed (bindings u.now.state) t) (each_tree ts))

first-is : {M : Type 0} (u : StoreView M) (rs : List Ref) (r : Ref) (t : Tree) (ts : Trees) → AreTerms u rs (tree t ts) → ((q : Ref) → slice_get rs 0 ≡ Some q → r ≡ q) → IsTerm u r t
unfolding AreTerms
first-is u [] r t ts are one = absurd are
first-is u (q ∷ rs) r t ts are one = subst (λ x. IsTerm u x t) (sym (one q refl)) are.0

-- ---- no term that can be called

pub not-callable : {M : Type 0} (w : World M) (u : StoreView M) (b : ArenasView M) (p : Point) (s : Step) (operands arity : ℕ) (rs parts : List Ref) (r : Ref) (name : Option ℕ) (ball : Tree) (view : View) (g : GoalTree) (gs : GoalTrees) (e : Places) (k : List Frame)
    (es : List EntryData) → s.node ≡ Node.CallTerm operands arity → slice_get (steps_of w.loaded) p.place ≡ Some s → (stands : StandsGoing w p (goal g gs) e k es) →
    EvaluatesAll (block_of w p g gs e k es stands) (between w.store u w.arenas b) (term_arguments w operands arity e) rs → name ≡ None → Calls u name rs parts → ((q : Ref) → slice_get rs 0 ≡ Some q → r ≡ q) →
    ((x : Tree) → IsAcyclic (bindings u.now.state) → IsBall u (Fault.WrongKind FaultKind.Callable r) x → ball ≡ x) → StandsAfter (moved w u b) (Now.Raising ball) (goal_step view w.loaded.preds g e w.store.now.state (with_rest gs k es))
not-callable w u b p s operands arity rs parts r name ball view g gs e k es node at stands evaluates none calls first told =
    let all : EvaluatedAll = term_arguments w operands arity e in
    let read : FirstRead u all rs = first-read w u b p s operands arity rs g gs e k es node at stands evaluates in
    let t : Tree = read.called in
    let frames : List Frame = returning all.slots (behind gs k) in
    let nothing : called_by (followed (bindings u.now.state) t) (each_tree read.more) ≡ None =
    subst (λ n. IsCalled u n parts (called_by (followed (bindings u.now.state) t) (each_tree read.more))) none (calls t read.more read.state.calm.state.acyclic read.are) in
    let raised : ball ≡ type_error (codes "callable") t u.now.state = told (type_error (codes "callable") t u.now.state) read.state.calm.state.acyclic (t, first-is u rs r t read.more read.are first, refl) in
    let next : first_now w.loaded.preds (tree t read.more) u.now.state frames ≡ raising ball = first-none w.loaded.preds t read.more u.now.state frames nothing ∙ ap raising (sym raised) in
    term-raises w u b p s operands arity ball view g gs e k es node at stands evaluates.writes
    (ap (λ ts. first_now w.loaded.preds ts all.state frames) read.is ∙ ap (λ x. first_now w.loaded.preds (tree t read.more) x frames) (sym evaluates.writes.state) ∙ next)

-- ---- a name that nothing has

-- what was found of a name with arguments
pub record NameRead {M : Type 0} (u : StoreView M) (n : ℕ) (parts : List Ref) (t : Tree) (ts : Trees) : Type 0 where
  pub it : Called
  pub is : called_by (followed (bindings u.now.state) t) (each_tree ts) ≡ Some it
  pub named : IsName u n it.name
  pub are : AreTerms u parts it.args
  pub count : length parts ≡ tree_count it.args

name-read : {M : Type 0} (u : StoreView M) (name : Option ℕ) (n : ℕ) (rs parts : List Ref) (t : Tree) (ts : Trees) → name ≡ Some n → Calls u name rs parts → IsAcyclic (bindings u.now.state) → AreTerms u rs (tree t ts) → NameRead u n parts t ts
name-read u name n rs parts t ts is calls acyclic are =
    let read : IsCalled u (Some n) parts (called_by (followed (bindings u.now.state) t) (each_tree ts)) =
    subst (λ m. IsCalled u m parts (called_by (followed (bindings u.now.state) t) (each_tree ts))) is (calls t ts acyclic are) in
    record { it = read.0; is = read.1; named = read.2; are = read.3; count = terms-count u parts read.0.args read.3 }

stack-there : {M : Type 0} (w : World M) (u : StoreView M) (b : ArenasView M) (p : Point) (s : Step) (operands arity : ℕ) (rs : List Ref) (g : GoalTree) (gs : GoalTrees) (e : Places) (k : List Frame) (es : List EntryData) → (stands : StandsGoing w p (goal g gs) e k es) →
    EvaluatesAll (block_of w p g gs e k es stands) (between w.store u w.arenas b) (term_arguments w operands arity e) rs → Rests u.now.state → StackStands (moved w u b) es
stack-there w u b p s operands arity rs g gs e k es stands evaluates state =
    let all : EvaluatedAll = term_arguments w operands arity e in stack-moved w u b (block_of w p g gs e k es stands) all.slots all.state es evaluates.writes state stands.entries

pub not-found : {M : Type 0} (w : World M) (u : StoreView M) (b : ArenasView M) (p : Point) (s : Step) (operands arity : ℕ) (rs parts : List Ref) (name : Option ℕ) (n : ℕ) (ball : Tree) (view : View) (g : GoalTree) (gs : GoalTrees) (e : Places) (k : List Frame)
    (es : List EntryData) → s.node ≡ Node.CallTerm operands arity → slice_get (steps_of w.loaded) p.place ≡ Some s → (stands : StandsGoing w p (goal g gs) e k es) →
    EvaluatesAll (block_of w p g gs e k es stands) (between w.store u w.arenas b) (term_arguments w operands arity e) rs → name ≡ Some n → Calls u name rs parts → NamesAreDistinct u → place_in w.loaded.code.callables n (length parts) ≡ None →
    ((text : List ℕ) → IsName u n text → ball ≡ unknown_by (map pred_tree (preds_of w.loaded.code)) text (length parts)) → StandsAfter (moved w u b) (Now.Raising ball) (goal_step view w.loaded.preds g e w.store.now.state (with_rest gs k es))
not-found w u b p s operands arity rs parts name n ball view g gs e k es node at stands evaluates some calls distinct none told =
    let all : EvaluatedAll = term_arguments w operands arity e in
    let read : FirstRead u all rs = first-read w u b p s operands arity rs g gs e k es node at stands evaluates in
    let t : Tree = read.called in
    let frames : List Frame = returning all.slots (behind gs k) in
    let found : NameRead u n parts t read.more = name-read u name n rs parts t read.more some calls read.state.calm.state.acyclic read.are in
    let stack : StackStands (moved w u b) es = stack-there w u b p s operands arity rs g gs e k es stands evaluates read.state in
    let missing : goal_called w.loaded.preds found.it.name (tree_count found.it.args) ≡ None =
    ap (goal_called w.loaded.preds found.it.name) (sym found.count) ∙ missing-called (moved w u b) n (length parts) found.it.name stack.code none found.named distinct in
    let raised : unknown_by w.loaded.preds found.it.name (tree_count found.it.args) ≡ ball =
    ap (unknown_by w.loaded.preds found.it.name) (sym found.count) ∙ ap (λ ps. unknown_by ps found.it.name (length parts)) stack.code.source ∙ sym (told found.it.name found.named) in
    let next : first_now w.loaded.preds (tree t read.more) u.now.state frames ≡ raising ball = first-unknown w.loaded.preds t read.more u.now.state frames found.it found.is missing ∙ ap raising raised in
    term-raises w u b p s operands arity ball view g gs e k es node at stands evaluates.writes
    (ap (λ ts. first_now w.loaded.preds ts all.state frames) read.is ∙ ap (λ x. first_now w.loaded.preds (tree t read.more) x frames) (sym evaluates.writes.state) ∙ next)

-- ---- a name that is called

pub found-runs : {M : Type 0} (w : World M) (u : StoreView M) (b : ArenasView M) (fs : List Point) (c d : BlocksView) (p : Point) (s : Step) (operands arity : ℕ) (rs parts : List Ref) (name : Option ℕ) (n place frame : ℕ) (view : View) (g : GoalTree) (gs : GoalTrees) (e : Places)
    (k : List Frame) (es : List EntryData) → s.node ≡ Node.CallTerm operands arity → slice_get (steps_of w.loaded) p.place ≡ Some s → (stands : StandsGoing w p (goal g gs) e k es) →
    EvaluatesAll (block_of w p g gs e k es stands) (between w.store u w.arenas b) (term_arguments w operands arity e) rs → name ≡ Some n → Calls u name rs parts → place_in w.loaded.code.callables n (length parts) ≡ Some place →
    PushesBehind p s b.frames fs frame → GivesBack b.blocks c p.base s.is_last → d.slots ≡ c.slots ++ map (λ r. Some r) parts → KeepsBlocks c d → d.kept ≡ c.kept →
    StandsAfter (moved w u (with_blocks (framed b fs) d)) (Now.Going (named_point place (length c.slots) frame)) (goal_step view w.loaded.preds g e w.store.now.state (with_rest gs k es))
found-runs w u b fs c d p s operands arity rs parts name n place frame view g gs e k es node at stands evaluates some calls there pushes gives new keeps kept =
    let all : EvaluatedAll = term_arguments w operands arity e in
    let read : FirstRead u all rs = first-read w u b p s operands arity rs g gs e k es node at stands evaluates in
    let t : Tree = read.called in
    let frames : List Frame = returning all.slots (behind gs k) in
    let found : NameRead u n parts t read.more = name-read u name n rs parts t read.more some calls read.state.calm.state.acyclic read.are in
    let stack : StackStands (moved w u b) es = stack-there w u b p s operands arity rs g gs e k es stands evaluates read.state in
    let goal_is : FoundNamed (moved w u b) found.it.name (tree_count found.it.args) place =
    subst (λ m. FoundNamed (moved w u b) found.it.name m place) found.count (found-goal (moved w u b) n (length parts) place found.it.name stack.code there found.named) in
    let next : first_now w.loaded.preds (tree t read.more) u.now.state frames ≡ going (goal goal_is.it no_goals) (in_places found.it.args) u.now.state frames =
    first-goes w.loaded.preds t read.more u.now.state frames found.it goal_is.it found.is goal_is.called in
    term-enters w u b fs c d parts p s operands arity frame place goal_is.it found.it.args view g gs e k es node at stands evaluates.writes
    (ap (λ ts. first_now w.loaded.preds ts all.state frames) read.is ∙ ap (λ x. first_now w.loaded.preds (tree t read.more) x frames) (sym evaluates.writes.state) ∙ next
    ∙ ap (λ x. going (goal goal_is.it no_goals) (in_places found.it.args) x frames) evaluates.writes.state) found.are goal_is.here pushes gives new keeps kept
