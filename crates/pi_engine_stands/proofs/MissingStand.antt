-- A function call without a value: the exception that says so.
use Rattle.std.proofs.Common.{◌≡◌, ℕ, zero, suc, ◌+◌, ◌≤◌, ◌<◌, true, false, List, [], ◌∷◌, ◌++◌, Option, Some, None, length, map, take, drop, get_or, refl, sym, ◌∙◌, ap, subst, arith}
use Rattle.std.specs.Prelude.{slice_get, slice_index_or}
use Rattle.std.proofs.lemmas.List.{length-map, map-append, length-take-le, length-drop}
use Rattle.std.proofs.lemmas.Option.{slice_get-get_or}
use Rattle.pi_terms.specs.Tree.{Tree, Trees, no_trees, tree, comp}
use Rattle.pi_terms.specs.Places.{Places}
use Rattle.pi_constraints.specs.State.{State, bindings}
use Rattle.pi_engine_stands.specs.Rests.{Rests}
use Rattle.pi_constraints.specs.Value.{value as value_of, IsAcyclic}
use Rattle.pi_constraints.specs.Store.{StoreView, Terms, Stays, IsTerm, AreTerms}
use Rattle.pi_core.specs.GoalTree.{GoalTree, apply}
use Rattle.pi_core.specs.GoalCells.{kind_of}
use Rattle.pi_core.specs.CoreTree.{PredTree, pred_tree}
use Rattle.pi_core.specs.declared.core_program.CorePred.{CorePred}
use Rattle.pi_constraints.specs.declared.store.Ref.{Ref}
use Rattle.pi_terms.proofs.GetLemmas.{take_more}
use Rattle.pi_engine_arenas.specs.declared.arenas.Back.{Back}
use Rattle.pi_engine_arenas.specs.declared.arenas.Kind.{Kind}
use Rattle.pi_engine_arenas.specs.declared.arenas.Strict.{Strict as StrictKind}
use Rattle.pi_engine_code.specs.declared.code.Code.{Code}
use Rattle.pi_engine_code.specs.declared.code.Node.{Node}
use Rattle.pi_engine_code.specs.declared.code.Predicate.{Predicate}
use Rattle.pi_engine_code.specs.declared.code.Step.{Step}
use Rattle.pi_engine_arenas.specs.declared.run.Now.{Now}
use Rattle.pi_meaning.specs.Shared.Effects.{is_value_name}
use Rattle.pi_engine_stands.proofs.ConstraintNames.{function-value, domain-known, domain-value}
use Rattle.pi_engine_code.specs.Laid.{IsNotBuiltIn}
use Rattle.pi_engine_code.specs.Code.{Tables, preds_of, arguments, operand_trees, node_kind, operand_tree}
use Rattle.pi_engine_arenas.specs.Arenas.{ArenasView, DropsNewest}
use Rattle.pi_meaning.specs.Machine.Configuration.{Frame, Entry as EntryData, Strict, strict, value_level, Back as BackData, config, raising, in_places}
use Rattle.pi_meaning.specs.Machine.Step.{end_step}
use Rattle.pi_engine_stands.specs.Here.{Block, block_end, Here, AreHeld, HoldsArguments, NodeIsReadable}
use Rattle.pi_engine_stands.specs.Stands.{World, Loaded, tables_in, steps_of, now_here, block_at, IsCodeOf, HasNumber, GoalStands, KindIs, once_kind, not_kind, if_kind, guard_kind, apply_kind, collect_kind, count_kind, search_kind, StackLies, Stands, raising_now}
use Rattle.pi_engine_stands.specs.Makes.{unresolved_for}
use Rattle.pi_engine_stands.specs.Fails.{IsBack}
use Rattle.pi_engine_stands.proofs.NodeLemmas.{kind-here}
use Rattle.pi_engine_stands.proofs.StandsLemmas.{moved, stack-moves}
use Rattle.pi_engine_stands.proofs.ProgramStands.{code-keeps}
use Rattle.pi_engine_stands.proofs.ArgumentsStand.{behind-first}
use Rattle.pi_engine_stands.proofs.BackStand.{back-kind, Popped, popped, popped-stands}
use Rattle.pi_engine_stands.proofs.CallRuns.{name-at, args-count}
use Rattle.pi_engine_stands.proofs.WrittenGoals.{own-step, own-block}
use Rattle.pi_engine_stands.proofs.StacksLie.{stack-lies}

-- ---- the slots of a block

-- where arguments are held, each slot holds a term
slot-there : (t : Terms) (rs : List (Option Ref)) (ts : Trees) (i : ℕ) → AreHeld t rs (in_places ts) → slice_get rs i ≡ Some None → ⊥
unfolding AreHeld in_places
slot-there t [] ts i held at = absurd cc
slot-there t (None ∷ rs) no_trees i held at = absurd held
slot-there t (None ∷ rs) (tree x ts) i held at = absurd held
slot-there t (Some r ∷ rs) no_trees i held at = absurd held
slot-there t (Some r ∷ rs) (tree x ts) zero held at = absurd cc
slot-there t (Some r ∷ rs) (tree x ts) (suc i) held at = slot-there t rs ts i held.1 at

slot-of-part : {A : Type 0} (xs : List A) (count i : ℕ) → i < count → slice_get (take count xs) i ≡ slice_get xs i
slot-of-part xs zero i h = absurd (omega (arith, h))
slot-of-part [] (suc count) i h = refl
slot-of-part (x ∷ xs) (suc count) zero h = refl
slot-of-part (x ∷ xs) (suc count) (suc i) h = slot-of-part xs count i (omega (arith, h))

-- one slot more
pub block-more : (slots : List (Option Ref)) (first i : ℕ) (rs new : List Ref) (r : Ref) → first + i < length slots → get_or slots (first + i) None ≡ Some r → map (λ r. Some r) rs ≡ take i (drop first slots) → new ≡ rs ++ r ∷ [] →
    map (λ r. Some r) new ≡ take (i + 1) (drop first slots)
block-more slots first i rs new r within at before pushed =
    let here : slice_get (drop first slots) i ≡ Some (Some r) = behind-first slots first i ∙ slice_get-get_or slots (first + i) None within ∙ ap Some at in
    ap (map (λ q. Some q)) pushed ∙ map-append (λ q. Some q) rs (r ∷ []) ∙ ap (λ xs. xs ++ Some r ∷ []) before ∙ sym (take_more (drop first slots) i (Some r) here)

pub block-there : (t : Terms) (slots : List (Option Ref)) (first count i : ℕ) (ts : Trees) → i < count → HoldsArguments t slots first count ts → get_or slots (first + i) None ≡ None → ⊥
block-there t slots first count i ts below holds none =
    slot-there t (take count (drop first slots)) ts i holds.held
    (slot-of-part (drop first slots) count i below ∙ behind-first slots first i ∙ slice_get-get_or slots (first + i) None (omega (arith, below, holds.within)) ∙ ap Some none)

pub terms-of-held : {M : Type 0} (v : StoreView M) (rs : List Ref) (ts : Trees) → AreHeld v.now.terms (map (λ r. Some r) rs) (in_places ts) → AreTerms v rs ts
unfolding AreHeld in_places AreTerms
terms-of-held v [] no_trees held = tt
terms-of-held v [] (tree t ts) held = absurd held
terms-of-held v (r ∷ rs) no_trees held = absurd held
terms-of-held v (r ∷ rs) (tree t ts) held = (held.0, terms-of-held v rs ts held.1)

-- ---- the call

apply-node : (t : Tables) (b : Block) (node : Node) (name : List ℕ) (args : List Tree) (into : ℕ) → NodeIsReadable t b node → IsNotBuiltIn true name (length args) → node_kind t node ≡ kind_of (apply name args into) → (p : ℕ) × (first : ℕ) × (node ≡ Node.Apply p first into) × (name ≡ slice_index_or t.called p []) × (args ≡ arguments t p first)
unfolding node_kind kind_of
apply-node t b Node.True name args into reads free h = absurd cc
apply-node t b Node.Fail name args into reads free h = absurd cc
apply-node t b Node.Tick name args into reads free h = absurd cc
apply-node t b (Node.Seq n) name args into reads free h = absurd cc
apply-node t b (Node.Alt n) name args into reads free h = absurd cc
apply-node t b Node.If name args into reads free h = absurd cc
apply-node t b Node.Not name args into reads free h = absurd cc
apply-node t b Node.Once name args into reads free h = absurd cc
apply-node t b (Node.Collect q r) name args into reads free h = absurd cc
apply-node t b (Node.Count q) name args into reads free h = absurd cc
apply-node t b (Node.Catch operand) name args into reads free h = absurd cc
apply-node t b (Node.Unify left right) name args into reads free h = absurd cc
apply-node t b (Node.Throw ball) name args into reads free h = absurd cc
apply-node t b (Node.Call p first) name args into reads free h = absurd cc
apply-node t b (Node.Apply p first q) name args into reads free h = (p, first, ap (Node.Apply p first) cc, cc, cc)
apply-node t b (Node.Value u) name args into reads free h = absurd cc
apply-node t b (Node.CallTerm first arity) name args into reads free h = absurd cc
apply-node t b (Node.BuiltIn built n first arity) name args into reads free h = absurd cc
apply-node t b (Node.BuiltInValue built n first arity q) name args into reads free h =
    let named : slice_index_or t.names n [] ≡ name = cc in
    let these : operand_trees t first arity ≡ args = cc in
    let many : arity ≡ length args = sym (args-count t first arity reads.0.0) ∙ ap length these in
    let yes : true ≡ false = sym (function-value (slice_index_or t.names n []) arity reads.1.known) ∙ ap (λ x. is_value_name x arity) named ∙ ap (is_value_name name) many ∙ free in
    absurd cc
apply-node t b (Node.Constrain c n first arity) name args into reads free h = absurd cc
apply-node t b (Node.Solve n first arity) name args into reads free h = absurd cc
apply-node t b (Node.DomainValue f n first arity q) name args into reads free h =
    let named : slice_index_or t.names n [] ≡ name = cc in
    let these : operand_trees t first arity ≡ args = cc in
    let many : arity ≡ length args = sym (args-count t first arity reads.0.0) ∙ ap length these in
    let yes : true ≡ false = sym (domain-value (slice_index_or t.names n []) arity (domain-known (slice_index_or t.names n []) arity f reads.1)) ∙ ap (λ x. is_value_name x arity) named ∙ ap (is_value_name name) many ∙ free in
    absurd cc

-- the level of the call
pub record AppliesAt (l : Loaded) (h : Here) (t : State) (base caller place frame : ℕ) (s : Strict) (b : BackData) : Type 0 where
  pub name : List ℕ
  pub args : List Tree
  pub into : ℕ
  pub called : Trees
  pub places : Places
  pub frames : List Frame
  pub own : GoalStands l h caller place frame (apply name args into) places frames
  pub free : IsNotBuiltIn true name (length args)
  pub holds : HoldsArguments h.terms h.slots base (length args) called
  pub below : block_end (block_at l place caller) ≤ base
  pub level : s ≡ value_level (comp name called) into
  pub back_is : b ≡ record { slots = places; state = t; frames = frames }

pub applies-at : (l : Loaded) (c : List Tree) (h : Here) (t : State) (base frame slots from to place caller : ℕ) (kind : Kind) (s : Strict) (b : BackData) → kind ≡ Kind.Strict (StrictKind.Apply place caller) → KindIs l c h t base frame slots from to kind (strict s b) →
    AppliesAt l h t base caller place frame s b × (from ≡ to)
applies-at l c h t base frame slots from to place caller kind s b named (once_kind own one) = absurd cc
applies-at l c h t base frame slots from to place caller kind s b named (not_kind own one) = absurd cc
applies-at l c h t base frame slots from to place caller kind s b named (if_kind own one) = absurd cc
applies-at l c h t base frame slots from to place caller kind s b named (guard_kind call over one) = absurd cc
applies-at l c h t base frame slots from to place caller kind s b named (apply_kind {place = at} {caller = outer} {into = into} {name = name} {args = args} {ts = ts} {e = e} {k = k} own free holds fit one) =
    let same : at ≡ place = cc in
    let begins : outer ≡ caller = cc in (
      record {
        name = name;
        args = args;
        into = into;
        called = ts;
        places = e;
        frames = k;
        own = subst (λ q. GoalStands l h q place frame (apply name args into) e k) begins (subst (λ q. GoalStands l h outer q frame (apply name args into) e k) same own);
        free = free;
        holds = holds;
        below = subst (λ q. block_end (block_at l place q) ≤ base) begins (subst (λ q. block_end (block_at l q outer) ≤ base) same fit);
        level = refl;
        back_is = refl;
      },
      one,
    )
applies-at l c h t base frame slots from to place caller kind s b named (collect_kind own order some) = absurd cc
applies-at l c h t base frame slots from to place caller kind s b named (count_kind own one) = absurd cc
applies-at l c h t base frame slots from to place caller kind s b named (search_kind own labels held fit order one) = absurd cc

-- which predicate it calls
pub record Applied {M : Type 0} (w : World M) (place caller : ℕ) (step : Step) (name : List ℕ) (args : List Tree) (into : ℕ) : Type 0 where
  pub at : slice_get (steps_of w.loaded) place ≡ Some step
  pub number : ℕ
  pub first : ℕ
  pub node : step.node ≡ Node.Apply number first into
  pub pred : PredTree
  pub predicate : Predicate
  pub is_predicate : slice_get w.loaded.code.predicates.items number ≡ Some predicate
  pub source : slice_get (map pred_tree (preds_of w.loaded.code)) number ≡ Some pred
  pub name_is : name ≡ pred.name
  pub arity : length args ≡ predicate.arity
  pub slot : into < (block_at w.loaded place caller).count

pub applied : {M : Type 0} {h : Here} {t : State} (w : World M) (base caller place frame : ℕ) (code : Code) (step : Step) (s : Strict) (b : BackData) → IsCodeOf w.loaded.code (tables_in w.loaded) w.store.names w.loaded.preds →
    (it : AppliesAt w.loaded h t base caller place frame s b) → w.loaded.code ≡ code → ((r : Step) → slice_get code.steps.items place ≡ Some r → step ≡ r) → Applied w place caller step it.name it.args it.into
unfolding node_kind
applied w base caller place frame code step s b is_code_of it is_code finds =
    let g : GoalTree = apply it.name it.args it.into in
    let there : (r : Step) × (slice_get (steps_of w.loaded) place ≡ Some r) = own-step w caller place frame g it.places it.frames it.own in
    let at : slice_get (steps_of w.loaded) place ≡ Some step = there.1 ∙ ap Some (sym (finds there.0 (ap (λ q. slice_get q.steps.items place) (sym is_code) ∙ there.1))) in
    let shown : _ = apply-node (tables_in w.loaded) (block_at w.loaded place caller) step.node it.name it.args it.into (own-block w caller place frame g it.places it.frames step it.own at).readable it.free (kind-here (tables_in w.loaded) (steps_of w.loaded) (block_at w.loaded place caller) place g it.own.last step step.node it.own.goal at refl) in
    let n : ℕ = shown.0 in
    let number : HasNumber w.loaded.preds (Node.Apply n shown.1 it.into) = subst (HasNumber w.loaded.preds) shown.2 (is_code_of.numbers place step at) in
    let found : _ = is_code_of.predicates n number.0 number.1 in
    let source : slice_get (map pred_tree (preds_of w.loaded.code)) n ≡ Some number.0 = ap (λ ps. slice_get ps n) (sym is_code_of.source) ∙ number.1 in
    let names : _ = name-at (preds_of w.loaded.code) n number.0 source in
    let readable : NodeIsReadable (tables_in w.loaded) (block_at w.loaded place caller) (Node.Apply n shown.1 it.into) =
    subst (NodeIsReadable (tables_in w.loaded) (block_at w.loaded place caller)) shown.2 (own-block w caller place frame g it.places it.frames step it.own at).readable in
    let many : ℕ = slice_index_or (tables_in w.loaded).arities n 0 in
    let fits : shown.1 + many ≤ length (tables_in w.loaded).operands = readable.0.0 in
    record {
      at = at;
      number = n;
      first = shown.1;
      node = shown.2;
      pred = number.0;
      predicate = found.0;
      is_predicate = found.1;
      source = source;
      name_is = shown.3 ∙ names.0;
      arity = ap length shown.4 ∙ length-map (take many (drop shown.1 (tables_in w.loaded).operands)) (operand_tree (tables_in w.loaded))
          ∙ length-take-le many (drop shown.1 (tables_in w.loaded).operands) (omega (arith, fits, length-drop shown.1 (tables_in w.loaded).operands)) ∙ names.1 ∙ sym found.2.arity;
      slot = readable.1;
    }

same-number : (node : Node) (a b c d e f : ℕ) → node ≡ Node.Apply a b c → node ≡ Node.Apply d e f → a ≡ d
same-number node a b c d e f h k = cc

source-name : (ps : List CorePred) (n : ℕ) (pred : PredTree) (p : CorePred) → slice_get (map pred_tree ps) n ≡ Some pred → slice_get ps n ≡ Some p → p.name ≡ pred.name
source-name [] n pred p at here = absurd cc
source-name (q ∷ ps) zero pred p at here = let one : pred_tree q ≡ pred = cc in let two : q ≡ p = cc in ap (λ r. r.name) (sym two) ∙ ap (λ r. r.name) one
source-name (q ∷ ps) (suc n) pred p at here = source-name ps n pred p at here

source-there : (ps : List CorePred) (n : ℕ) (pred : PredTree) → slice_get (map pred_tree ps) n ≡ Some pred → slice_get ps n ≡ None → ⊥
source-there [] n pred at none = absurd cc
source-there (q ∷ ps) zero pred at none = absurd cc
source-there (q ∷ ps) (suc n) pred at none = source-there ps n pred at none

-- its node, and its predicate as it stands in the program
pub no-other-node : {M : Type 0} (w : World M) (back : Back) (place caller : ℕ) (code : Code) (step : Step) (s : Strict) (b : BackData) (es : List EntryData) → back.kind ≡ Kind.Strict (StrictKind.Apply place caller) → w.loaded.code ≡ code →
    ((r : Step) → slice_get code.steps.items place ≡ Some r → step ≡ r) → IsBack w back (strict s b) es →
    (n : ℕ) × (first : ℕ) × (into : ℕ) × (step.node ≡ Node.Apply n first into) × (slice_get (preds_of code) n ≡ None → ⊥)
no-other-node w back place caller code step s b es named is_code finds it =
    let at : _ = (applies-at w.loaded w.arenas.collected (now_here w) w.store.now.state back.base back.frame back.blocks.slots it.from (length w.arenas.collected) place caller back.kind s b named (back-kind w back (strict s b) es it)).0 in
    let call : _ = applied w back.base caller place back.frame code step s b it.code at is_code finds in
    (call.number, call.first, at.into, call.node, λ none. source-there (preds_of w.loaded.code) call.number call.pred call.source (subst (λ c. slice_get (preds_of c) call.number ≡ None) (sym is_code) none))

apply-step : (s : Strict) (called : Tree) (into : ℕ) (b : BackData) (e : Places) (t : State) (k : List Frame) (es : List EntryData) → s ≡ value_level called into → b ≡ record { slots = e; state = t; frames = k } →
    end_step s b es ≡ config (raising (unresolved_for (value_of (bindings t) called))) es
unfolding end_step
apply-step s called into b e t k es level back = ap (λ q. end_step q b es) level ∙ ap (λ q. end_step (value_level called into) q es) back

-- a store that changes behind a stack
pub store-changes : {M : Type 0} (w : World M) (u : StoreView M) (es : List EntryData) → StackLies w es → Stays w.store u → StackLies (moved w u w.arenas) es
store-changes w u es stands stays =
    record {
      code = code-keeps w.loaded.code (tables_in w.loaded) w.store.names u.names w.loaded.preds (λ i name has. stays.keeps.names i name has) stands.code;
      tables = λ i t has. stays.keeps.terms (record { number = i }) t (stands.tables i t has);
      level = stands.level;
      kept = stands.kept;
      stack = stack-moves w u w.arenas (length w.arenas.entries) (length w.arenas.collected) (length w.arenas.entries) (length w.arenas.collected) es
          (record {
            entries = refl;
            marks = λ i x h at good. (stays.keeps.good x.mark good, stays.keeps.same x.mark good);
            blocks = λ i x h at kept. (kept, refl);
            frames = λ i x h at fit. (fit, refl);
            collected = refl;
            enough = omega arith;
            beside = stays.keeps.beside;
            names = stays.keeps.names;
          }) (omega arith) (omega arith) stands.stack;
    }

pub value-missing : {M : Type 0} (w : World M) (c : ArenasView M) (u : StoreView M) (back : Back) (place caller n operands into arity : ℕ) (code : Code) (step : Step) (source : CorePred) (rs : List Ref) (call : Ref) (ball : Tree) (s : Strict) (b : BackData) (es : List EntryData) →
    back.kind ≡ Kind.Strict (StrictKind.Apply place caller) → w.loaded.code ≡ code → ((q : Step) → slice_get code.steps.items place ≡ Some q → step ≡ q) → step.node ≡ Node.Apply n operands into → slice_get (preds_of code) n ≡ Some source → IsBack w back (strict s b) es → DropsNewest w.arenas c →
    ((q : Predicate) → slice_get code.predicates.items n ≡ Some q → arity ≡ q.arity) →
    ((t : Terms) (ts : Trees) → HoldsArguments t c.blocks.slots back.base arity ts → map (λ r. Some r) rs ≡ take arity (drop back.base c.blocks.slots)) → Stays w.store u →
    ((ts : Trees) → AreTerms w.store rs ts → IsTerm u call (comp source.name ts)) → ((t : Tree) → IsTerm u call t → IsAcyclic (bindings u.now.state) → ball ≡ unresolved_for (value_of (bindings u.now.state) t)) →
    Stands (moved w u c) (Now.Raising ball) (end_step s b es)
value-missing w c u back place caller n operands into arity code step source rs call ball s b es named is_code finds node at_source it drops arities takes stays puts tells =
    let after : World _ = moved w w.store c in
    let out : Popped after back w.arenas.collected it.from (strict s b) es = popped w c back (strict s b) es it drops in
    let two : _ = applies-at after.loaded w.arenas.collected (now_here after) w.store.now.state back.base back.frame back.blocks.slots it.from (length w.arenas.collected) place caller back.kind s b named out.kind in
    let at : _ = two.0 in
    let own : _ = applied after back.base caller place back.frame code step s b out.code at is_code finds in
    let same : own.number ≡ n = same-number step.node own.number own.first at.into n operands into own.node node in
    let many : length at.args ≡ arity = own.arity ∙ sym (arities own.predicate (ap (λ q. slice_get q.predicates.items n) (sym is_code) ∙ ap (slice_get w.loaded.code.predicates.items) (sym same) ∙ own.is_predicate)) in
    let holds : HoldsArguments w.store.now.terms c.blocks.slots back.base arity at.called = subst (λ m. HoldsArguments w.store.now.terms c.blocks.slots back.base m at.called) many at.holds in
    let terms : AreTerms w.store rs at.called = terms-of-held w.store rs at.called (subst (λ xs. AreHeld w.store.now.terms xs (in_places at.called)) (sym (takes w.store.now.terms at.called holds)) holds.held) in
    let name : source.name ≡ at.name =
    source-name (preds_of w.loaded.code) n own.pred source (ap (slice_get (map pred_tree (preds_of w.loaded.code))) (sym same) ∙ own.source) (ap (λ q. slice_get (preds_of q) n) is_code ∙ at_source) ∙ sym own.name_is in
    let is_call : IsTerm u call (comp at.name at.called) = subst (λ m. IsTerm u call (comp m at.called)) name (puts at.called terms) in
    let sound : Rests u.now.state = subst Rests (sym stays.state) out.state in
    let raised : ball ≡ unresolved_for (value_of (bindings w.store.now.state) (comp at.name at.called)) =
    subst (λ q. ball ≡ unresolved_for (value_of (bindings q) (comp at.name at.called))) stays.state (tells (comp at.name at.called) is_call sound.calm.state.acyclic) in
    subst (Stands (moved w u c) (Now.Raising ball)) (ap (λ q. config (raising q) es) raised ∙ sym (apply-step s (comp at.name at.called) at.into b at.places w.store.now.state at.frames es at.level at.back_is))
    (record { entries = store-changes after u es (stack-lies after es (popped-stands after back w.arenas.collected it.from (strict s b) es out two.1)) stays; runs = raising_now })

pub source-missing : (node : Node) (a b c d e f : ℕ) (ps : List CorePred) → node ≡ Node.Apply a b c → node ≡ Node.Apply d e f → (slice_get ps a ≡ None → ⊥) → slice_get ps d ≡ None → ⊥
source-missing node a b c d e f ps h k some none = some (ap (slice_get ps) (same-number node a b c d e f h k) ∙ none)
