-- Environments that differ in one name: terms, calls, forms of control and loops, over whatever goes by the other names alone.
use Rattle.std.proofs.Common.{ℕ, zero, suc, List, [], ◌∷◌}
use Rattle.std.specs.Prelude.{Option, Some, None, option_map, option_and_then}
use Rattle.pi_terms.specs.Tree.{Tree, Trees, comp, atom}
use Rattle.pi_constraints.specs.Value.{value}
use Rattle.pi_constraints.specs.State.{State, bindings}
use Rattle.pi_constraints.specs.Unify.{unified}
use Rattle.pi_syntax.specs.ExpTree.{ExpTree, var, int, atom as name_of, str, list, list_onto, array, call, quote, index, range, range_by, at, collect, and, or, arrow, if_then, if_else, foreach, while_do, do_while, ExpTrees, no_exps, exp}
use Rattle.pi_traces.specs.Trace.{Trace, Done, done, one, then}
use Rattle.pi_traces.specs.Related.{BelowBy, end_by}
use Rattle.pi_traces.proofs.RelatedLemmas.{Same, same, by-same, by-one, by-alt, by-then, by-first, by-negated, by-chosen, by-collected, by-counted, by-caught}
use Rattle.pi_meaning.specs.Shared.Settle.{settled}
use Rattle.pi_meaning.specs.Shared.Level.{Level, lowest, over, calls_at, lower, ticked}
use Rattle.pi_meaning.specs.CoreMeaning.Meaning.{copyable}
use Rattle.pi_meaning.specs.OverNames.Environment.{Environment, known, Valued, ValuedAll, name_valued}
use Rattle.pi_meaning.specs.OverNames.Place.{Place, at_state}
use Rattle.pi_meaning.specs.OverNames.Assigning.{place_of}
use Rattle.pi_meaning.specs.OverNames.Terms.{written_term, written_terms, with_front, list_made, made, also_named, nothing_behind}
use Rattle.pi_meaning.specs.Shared.Given.{Setting}
use Rattle.pi_meaning.specs.Shared.Calls.{predicate_called, function_called, first_called}
use Rattle.pi_meaning.specs.Shared.Handling.{handled_in, handling}
use Rattle.pi_meaning.specs.OverNames.Control.{Goal, Value, Values, behind_all, draining, strictly, nothing, in_front, made_of, made_onto, applied_to, list_in, all_found, all_counted, called_with, calling_term, following, choosing, Arrow, branch_before, denying, taken_once, with_assigned, assigning, catching, goal_at, value_at}
use Rattle.pi_meaning.specs.OverNames.Goals.{started}
use Rattle.pi_meaning.specs.OverNames.OtherNames.{IsOther, Lacks, LackAll, Agree, AgreeAt, agree_at}
use Rattle.pi_meaning.proofs.OverNames.OtherEnvironments.{AgreeValued, agree_valued, AgreeAll, agree_all, agree-value, name-agrees}

-- it does the same from two environments that agree
abbrev pub Steady : {X : Type 0} → List ℕ → (X → X → Type 0) → (Level → Place → Trace X) → Type 0
Steady x R g = (l : Level) (p q : Place) → AgreeAt x p q → BelowBy R (g l p) (g l q)

abbrev pub SteadyGoal : List ℕ → Goal → Type 0
SteadyGoal x g = Steady x (AgreeAt x) g

abbrev pub SteadyValue : List ℕ → Value → Type 0
SteadyValue x v = Steady x (AgreeValued x) v

abbrev pub SteadyValues : List ℕ → Values → Type 0
SteadyValues x vs = Steady x (AgreeAll x) vs

pub no-answer : (x : List ℕ) → SteadyGoal x (λ l p. done)
no-answer x l p q a = end_by Done

pub no-valued : (x : List ℕ) → SteadyValue x (λ l p. done)
no-valued x l p q a = end_by Done

pub one-answer : (x : List ℕ) → SteadyGoal x (λ l p. one p)
one-answer x l p q a = by-one (AgreeAt x) p q a

-- what follows one state
pub by-state : {A B : Type 0} (S : A → B → Type 0) (t : Trace State) (f : State → Trace A) (g : State → Trace B) → ((s : State) → BelowBy S (f s) (g s)) → BelowBy S (then t f) (then t g)
by-state S t f g each = by-then Same S t t f g (by-same t) after
  where
    after : (r s : State) → Same r s → BelowBy S (f r) (g s)
    after _ _ (same r) = each r

-- ---- terms as they are written

data SameOption {A : Type 0} (R : A → A → Type 0) : Option A → Option A → Type 0 where
  both_none : SameOption R None None
  both_some : {a b : A} → R a b → SameOption R (Some a) (Some b)

option-mapped : {A B : Type 0} (R : A → A → Type 0) (S : B → B → Type 0) (f g : A → B) (o q : Option A) → SameOption R o q → ((a b : A) → R a b → S (f a) (g b)) → SameOption S (option_map f o) (option_map g q)
option-mapped R S f g _ _ both_none each = both_none
option-mapped R S f g _ _ (both_some {a = a} {b = b} r) each = both_some (each a b r)

option-then : {A B : Type 0} (R : A → A → Type 0) (S : B → B → Type 0) (f g : A → Option B) (o q : Option A) → SameOption R o q → ((a b : A) → R a b → SameOption S (f a) (g b)) → SameOption S (option_and_then f o) (option_and_then g q)
option-then R S f g _ _ both_none each = both_none
option-then R S f g _ _ (both_some {a = a} {b = b} r) each = each a b r

made-agree : (x : List ℕ) (make : Trees → Tree) (a b : ValuedAll) → AgreeAll x a b → AgreeValued x (made make a) (made make b)
made-agree x make _ _ (agree_all ts e f a s) = agree_valued (make ts) e f a s

front-agree : (x : List ℕ) (a b : Valued) (c d : ValuedAll) → AgreeValued x a b → AgreeAll x c d → AgreeAll x (with_front a c) (with_front b d)
front-agree x _ _ _ _ (agree_valued t e f a s) (agree_all ts g h c r) = agree_all (Rattle.pi_terms.specs.Tree.tree t ts) g h c r

list-agree : (x : List ℕ) (a b : ValuedAll) (c d : Valued) → AgreeAll x a b → AgreeValued x c d → AgreeValued x (list_made a c) (list_made b d)
list-agree x _ _ _ _ (agree_all ts e f a s) (agree_valued t g h c r) = agree_valued _ g h c r

nothing-agree : (x : List ℕ) (a b : Valued) → AgreeValued x a b → AgreeAll x (nothing_behind a) (nothing_behind b)
nothing-agree x _ _ (agree_valued t e f a s) = agree_all _ e f a s

also-option : (x : List ℕ) (t : Tree) (e f : Environment) → Agree x e f → (o : Option State) →
    SameOption (AgreeValued x) (option_map (λ s. record { tree = t; names = e; state = s }) o) (option_map (λ s. record { tree = t; names = f; state = s }) o)
also-option x t e f a None = both_none
also-option x t e f a (Some s) = both_some (agree_valued t e f a s)

also-agree : (x : List ℕ) (a b c d : Valued) → AgreeValued x a b → AgreeValued x c d → SameOption (AgreeValued x) (also_named a c) (also_named b d)
also-agree x _ _ _ _ (agree_valued t e f a s) (agree_valued u g h c r) = also-option x t g h c (unified r t u)

as-valued : (x : List ℕ) (a b : ValuedAll) → AgreeAll x a b → AgreeValued x (record { tree = atom []; names = a.names; state = a.state }) (record { tree = atom []; names = b.names; state = b.state })
as-valued x _ _ (agree_all ts e f a s) = agree_valued (atom []) e f a s

mutual
  unfolding written_term written_terms Lacks LackAll

  term-steady : (x : List ℕ) (y : ExpTree) → Lacks x y → (a b : Valued) → AgreeValued x a b → SameOption (AgreeValued x) (written_term y a.names a.state) (written_term y b.names b.state)
  term-steady x (var name) h _ _ (agree_valued t e f a s) = both_some (name-agrees x name e f a h s)
  term-steady x (int n) h _ _ (agree_valued t e f a s) = both_some (agree_valued _ e f a s)
  term-steady x (name_of name) h _ _ (agree_valued t e f a s) = both_some (agree_valued _ e f a s)
  term-steady x (str text) h _ _ (agree_valued t e f a s) = both_some (agree_valued _ e f a s)
  term-steady x (list ys) h a b r = option-mapped (AgreeAll x) (AgreeValued x) _ _ _ _ (terms-steady x ys h a b r) (made-agree x _)
  term-steady x (list_onto ys y) h a b r =
      option-then (AgreeAll x) (AgreeValued x) _ _ _ _ (terms-steady x ys h.0 a b r)
      (λ c d q. option-mapped (AgreeValued x) (AgreeValued x) _ _ _ _ (term-steady x y h.1 _ _ (as-valued x c d q)) (λ u v w. list-agree x c d u v q w))
  term-steady x (array ys) h a b r = option-mapped (AgreeAll x) (AgreeValued x) _ _ _ _ (terms-steady x ys h a b r) (made-agree x _)
  term-steady x (call name ys) h a b r = option-mapped (AgreeAll x) (AgreeValued x) _ _ _ _ (terms-steady x ys h a b r) (made-agree x _)
  term-steady x (quote y) h a b r = term-steady x y h a b r
  term-steady x (range first last) h a b r =
      option-mapped (AgreeAll x) (AgreeValued x) _ _ _ _
      (option-then (AgreeValued x) (AgreeAll x) _ _ _ _ (term-steady x first h.0 a b r)
      (λ c d q. option-then (AgreeValued x) (AgreeAll x) _ _ _ _ (term-steady x last h.1 c d q)
      (λ u v w. both_some (front-agree x c d _ _ q (front-agree x u v _ _ w (nothing-agree x u v w)))))) (made-agree x _)
  term-steady x (range_by first step last) h a b r =
      option-mapped (AgreeAll x) (AgreeValued x) _ _ _ _
      (option-then (AgreeValued x) (AgreeAll x) _ _ _ _ (term-steady x first h.0 a b r)
      (λ c d q. option-then (AgreeValued x) (AgreeAll x) _ _ _ _ (term-steady x step h.1 c d q)
      (λ g k m. option-then (AgreeValued x) (AgreeAll x) _ _ _ _ (term-steady x last h.2 g k m)
      (λ u v w. both_some (front-agree x c d _ _ q (front-agree x g k _ _ m (front-agree x u v _ _ w (nothing-agree x u v w)))))))) (made-agree x _)
  term-steady x (at name y) h _ _ (agree_valued t e f a s) =
      option-then (AgreeValued x) (AgreeValued x) _ _ _ _ (term-steady x y h.1 _ _ (name-agrees x name e f a h.0 s))
      (λ u v w. also-agree x _ _ u v (name-agrees x name e f a h.0 s) w)
  term-steady x (index y ys) h a b r = both_none
  term-steady x (collect is_array y ys) h a b r = both_none
  term-steady x (and ys) h a b r = both_none
  term-steady x (or ys) h a b r = both_none
  term-steady x (arrow c y) h a b r = both_none
  term-steady x (if_then bs) h a b r = both_none
  term-steady x (if_else bs y) h a b r = both_none
  term-steady x (foreach ys y) h a b r = both_none
  term-steady x (while_do c y) h a b r = both_none
  term-steady x (do_while y c) h a b r = both_none

  terms-steady : (x : List ℕ) (ys : ExpTrees) → LackAll x ys → (a b : Valued) → AgreeValued x a b → SameOption (AgreeAll x) (written_terms ys a.names a.state) (written_terms ys b.names b.state)
  terms-steady x no_exps h _ _ (agree_valued t e f a s) = both_some (agree_all _ e f a s)
  terms-steady x (exp y ys) h a b r =
      option-then (AgreeValued x) (AgreeAll x) _ _ _ _ (term-steady x y h.0 a b r)
      (λ c d q. option-mapped (AgreeAll x) (AgreeAll x) _ _ _ _ (terms-steady x ys h.1 c d q) (λ u v w. front-agree x c d u v q w))

option-trace : (x : List ℕ) (o q : Option Valued) → SameOption (AgreeValued x) o q → BelowBy (AgreeValued x) (Rattle.pi_meaning.specs.OverNames.Goals.term_value o) (Rattle.pi_meaning.specs.OverNames.Goals.term_value q)
option-trace x _ _ both_none = end_by Done
option-trace x _ _ (both_some {a = a} {b = b} r) = by-one (AgreeValued x) a b r

pub quoted-steady : (x : List ℕ) (y : ExpTree) → Lacks x y → SteadyValue x (Rattle.pi_meaning.specs.OverNames.Goals.quoted_value y)
quoted-steady x y h l _ _ (agree_at e f a s) =
    option-trace x _ _ (term-steady x y h (record { tree = atom []; names = e; state = s }) (record { tree = atom []; names = f; state = s }) (agree_valued (atom []) e f a s))

-- ---- control

pub draining-steady : (x : List ℕ) (g : Goal) → SteadyGoal x g → SteadyGoal x (draining g)
unfolding draining
draining-steady x g steady l _ _ (agree_at e f a s) = by-state (AgreeAt x) ((calls_at l).drained s) _ _ (λ r. steady l _ _ (agree_at e f a r))

pub strictly-steady : (x : List ℕ) (g : Goal) → SteadyGoal x g → SteadyGoal x (strictly g)
unfolding strictly
strictly-steady x g steady l p q a = by-then (AgreeAt x) (AgreeAt x) _ _ _ _ (steady l p q a) (draining-steady x (λ m r. one r) (one-answer x) l)

constant-steady : (x : List ℕ) (t : Tree) (p q : Place) → AgreeAt x p q → AgreeValued x (record { tree = t; names = p.names; state = p.state }) (record { tree = t; names = q.names; state = q.state })
constant-steady x t _ _ (agree_at e f a s) = agree_valued t e f a s

pub constantly-steady : (x : List ℕ) (t : Tree) → SteadyValue x (λ l p. one (record { tree = t; names = p.names; state = p.state }))
constantly-steady x t l p q a = by-one (AgreeValued x) _ _ (constant-steady x t p q a)

pub name-steady : (x name : List ℕ) → IsOther x name → SteadyValue x (λ l p. one (name_valued (known name p.names) name p.names p.state))
name-steady x name other l _ _ (agree_at e f a s) = by-one (AgreeValued x) _ _ (name-agrees x name e f a other s)

pub nothing-steady : (x : List ℕ) → SteadyValues x nothing
nothing-steady x l _ _ (agree_at e f a s) = by-one (AgreeAll x) _ _ (agree_all _ e f a s)

pub front-steady : (x : List ℕ) (v : Value) (vs : Values) → SteadyValue x v → SteadyValues x vs → SteadyValues x (in_front v vs)
front-steady x v vs steady more l p q a = by-then (AgreeValued x) (AgreeAll x) _ _ _ _ (steady l p q a) after
  where
    added : (t : Tree) (c d : ValuedAll) → AgreeAll x c d → BelowBy (AgreeAll x) (one (record { trees = Rattle.pi_terms.specs.Tree.tree t c.trees; names = c.names; state = c.state })) (one (record { trees = Rattle.pi_terms.specs.Tree.tree t d.trees; names = d.names; state = d.state }))
    added t _ _ (agree_all ts e f b s) = by-one (AgreeAll x) _ _ (agree_all _ e f b s)

    after : (c d : Valued) → AgreeValued x c d → BelowBy (AgreeAll x) (then (vs l (place_of c)) (λ all. one (record { trees = Rattle.pi_terms.specs.Tree.tree c.tree all.trees; names = all.names; state = all.state }))) (then (vs l (place_of d)) (λ all. one (record { trees = Rattle.pi_terms.specs.Tree.tree d.tree all.trees; names = all.names; state = all.state })))
    after _ _ (agree_valued t e f b s) = by-then (AgreeAll x) (AgreeAll x) _ _ _ _ (more l _ _ (agree_at e f b s)) (added t)

pub made-steady : (x : List ℕ) (make : Trees → Tree) (vs : Values) → SteadyValues x vs → SteadyValue x (made_of make vs)
made-steady x make vs steady l p q a = by-then (AgreeAll x) (AgreeValued x) _ _ _ _ (steady l p q a) (λ c d r. by-one (AgreeValued x) _ _ (made-agree x make c d r))

pub onto-steady : (x : List ℕ) (make : Trees → Tree → Tree) (vs : Values) (v : Value) → SteadyValues x vs → SteadyValue x v → SteadyValue x (made_onto make vs v)
onto-steady x make vs v steady more l p q a = by-then (AgreeAll x) (AgreeValued x) _ _ _ _ (steady l p q a) after
  where
    ended : (ts : Trees) (c d : Valued) → AgreeValued x c d → BelowBy (AgreeValued x) (one (record { tree = make ts c.tree; names = c.names; state = c.state })) (one (record { tree = make ts d.tree; names = d.names; state = d.state }))
    ended ts _ _ (agree_valued t e f b s) = by-one (AgreeValued x) _ _ (agree_valued _ e f b s)

    after : (c d : ValuedAll) → AgreeAll x c d → BelowBy (AgreeValued x) (then (v l (behind_all c)) (λ y. one (record { tree = make c.trees y.tree; names = y.names; state = y.state }))) (then (v l (behind_all d)) (λ y. one (record { tree = make d.trees y.tree; names = y.names; state = y.state })))
    after _ _ (agree_all ts e f b s) = by-then (AgreeValued x) (AgreeValued x) _ _ _ _ (more l _ _ (agree_at e f b s)) (ended ts)

pub applied-steady : (x : List ℕ) (set : Setting) (name : List ℕ) (vs : Values) → SteadyValues x vs → SteadyValue x (applied_to set name vs)
unfolding applied_to
applied-steady x set name vs steady l p q a = by-then (AgreeAll x) (AgreeValued x) _ _ _ _ (steady l p q a) after
  where
    after : (c d : ValuedAll) → AgreeAll x c d → BelowBy (AgreeValued x) (then (function_called set l name c.trees c.state) (λ y. one (record { tree = y.value; names = c.names; state = y.state })))
        (then (function_called set l name d.trees d.state) (λ y. one (record { tree = y.value; names = d.names; state = y.state })))
    after _ _ (agree_all ts e f b s) = by-then Same (AgreeValued x) _ _ _ _ (by-same (function_called set l name ts s)) (λ u w r. last u w r)
      where
        last : (u w : Rattle.pi_meaning.specs.Shared.Level.Applied) → Same u w → BelowBy (AgreeValued x) (one (record { tree = u.value; names = e; state = u.state })) (one (record { tree = w.value; names = f; state = w.state }))
        last _ _ (same u) = by-one (AgreeValued x) _ _ (agree_valued u.value e f b u.state)

pub called-steady : (x : List ℕ) (set : Setting) (name : List ℕ) (vs : Values) → SteadyValues x vs → SteadyGoal x (called_with set name vs)
unfolding called_with
called-steady x set name vs steady l p q a = by-then (AgreeAll x) (AgreeAt x) _ _ _ _ (steady l p q a) after
  where
    after : (c d : ValuedAll) → AgreeAll x c d → BelowBy (AgreeAt x) (then (predicate_called set l name c.trees c.state) (λ s. one (record { names = c.names; state = s })))
        (then (predicate_called set l name d.trees d.state) (λ s. one (record { names = d.names; state = s })))
    after _ _ (agree_all ts e f b s) = by-state (AgreeAt x) (predicate_called set l name ts s) _ _ (λ r. by-one (AgreeAt x) _ _ (agree_at e f b r))

pub calling-steady : (x : List ℕ) (set : Setting) (vs : Values) → SteadyValues x vs → SteadyGoal x (calling_term set vs)
unfolding calling_term
calling-steady x set vs steady l p q a = by-then (AgreeAll x) (AgreeAt x) _ _ _ _ (steady l p q a) after
  where
    after : (c d : ValuedAll) → AgreeAll x c d → BelowBy (AgreeAt x) (then (first_called set l c.trees c.state) (λ s. one (record { names = c.names; state = s })))
        (then (first_called set l d.trees d.state) (λ s. one (record { names = d.names; state = s })))
    after _ _ (agree_all ts e f b s) = by-state (AgreeAt x) (first_called set l ts s) _ _ (λ r. by-one (AgreeAt x) _ _ (agree_at e f b r))

pub found-steady : (x : List ℕ) (v : Value) (g : Goal) → SteadyValue x v → SteadyGoal x g → SteadyValue x (all_found v g)
unfolding all_found
found-steady x v g steady more l p q a =
    by-collected (AgreeValued x) _ _ _ _ (by-then (AgreeValued x) Same _ _ _ _ (by-then (AgreeAt x) (AgreeValued x) _ _ _ _ (strictly-steady x g more l p q a) (steady l)) copied) (λ ts. by-one (AgreeValued x) _ _ (listed ts p q a))
  where
    copied : (c d : Valued) → AgreeValued x c d → BelowBy Same (copyable (value (bindings c.state) c.tree)) (copyable (value (bindings d.state) d.tree))
    copied _ _ (agree_valued t e f b s) = by-same _

    listed : (ts : List Tree) (p q : Place) → AgreeAt x p q → AgreeValued x (list_in p ts) (list_in q ts)
    listed ts _ _ (agree_at e f b s) = agree_valued _ e f b _

pub counted-steady : (x : List ℕ) (g : Goal) → SteadyGoal x g → SteadyValue x (all_counted g)
unfolding all_counted
counted-steady x g steady l p q a = by-counted (AgreeAt x) (AgreeValued x) _ _ _ _ (strictly-steady x g steady l p q a) (λ n. by-one (AgreeValued x) _ _ (constant-steady x _ p q a))

pub following-steady : (x : List ℕ) (g h : Goal) → SteadyGoal x g → SteadyGoal x h → SteadyGoal x (following g h)
following-steady x g h steady more l p q a = by-then (AgreeAt x) (AgreeAt x) _ _ _ _ (steady l p q a) (more l)

pub choosing-steady : (x : List ℕ) (test holds other : Goal) → SteadyGoal x test → SteadyGoal x holds → SteadyGoal x other → SteadyGoal x (choosing test holds other)
unfolding choosing
choosing-steady x test holds other a c d l p q r = by-chosen (AgreeAt x) (AgreeAt x) _ _ _ _ _ _ (strictly-steady x test a l p q r) (c l) (d l p q r)

pub denying-steady : (x : List ℕ) (g : Goal) → SteadyGoal x g → SteadyGoal x (denying g)
unfolding denying
denying-steady x g steady l p q a = by-negated (AgreeAt x) (AgreeAt x) _ _ p q (strictly-steady x g steady l p q a) a

pub once-steady : (x : List ℕ) (g : Goal) → SteadyGoal x g → SteadyGoal x (taken_once g)
unfolding taken_once
once-steady x g steady l p q a = by-first (AgreeAt x) _ _ (strictly-steady x g steady l p q a)

pub assigning-steady : (x : List ℕ) (name : Option (List ℕ)) (v : Value) → SteadyValue x v → SteadyGoal x (assigning name v)
assigning-steady x name v steady l p q a = by-then (AgreeValued x) (AgreeAt x) _ _ _ _ (steady l p q a) (given name)
  where
    given : (o : Option (List ℕ)) (c d : Valued) → AgreeValued x c d → BelowBy (AgreeAt x) (with_assigned o c) (with_assigned o d)
    given None c d r = end_by Done
    given (Some m) _ _ (agree_valued t e f b s) = by-one (AgreeAt x) _ _ (agree_at _ _ (agree-value x m t e f b) s)

handled-steady : (x : List ℕ) (s : State) (ball : Tree) (f g : State → Trace Place) → ((r : State) → BelowBy (AgreeAt x) (f r) (g r)) → (o : Option State) → BelowBy (AgreeAt x) (handled_in s ball f o) (handled_in s ball g o)
handled-steady x s ball f g each None = end_by _
handled-steady x s ball f g each (Some r) = by-state (AgreeAt x) (settled s r) f g each

pub catching-steady : (x : List ℕ) (g : Goal) (ball : Value) (handler : Goal) → SteadyGoal x g → SteadyValue x ball → SteadyGoal x handler → SteadyGoal x (catching g ball handler)
unfolding catching
catching-steady x g ball handler a c d l p q r = by-then (AgreeValued x) (AgreeAt x) _ _ _ _ (c l p q r) after
  where
    after : (u w : Valued) → AgreeValued x u w → BelowBy (AgreeAt x) (Rattle.pi_traces.specs.Control.caught (strictly g l (place_of u)) (handling u.state u.tree (λ s. handler l (at_state (place_of u) s))))
        (Rattle.pi_traces.specs.Control.caught (strictly g l (place_of w)) (handling w.state w.tree (λ s. handler l (at_state (place_of w) s))))
    after _ _ (agree_valued t e f b s) =
        by-caught (AgreeAt x) _ _ _ _ (strictly-steady x g a l _ _ (agree_at e f b s))
        (λ raised. handled-steady x s raised _ _ (λ k. d l _ _ (agree_at e f b k)) _)

pub data SteadyArrow (x : List ℕ) : Option Arrow → Type 0 where
  no_arrow : SteadyArrow x None
  an_arrow : (a : Arrow) → SteadyGoal x a.test → SteadyGoal x a.body → SteadyArrow x (Some a)

pub branch-steady : (x : List ℕ) (o : Option Arrow) (g others : Goal) → SteadyArrow x o → SteadyGoal x g → SteadyGoal x others → SteadyGoal x (branch_before o g others)
branch-steady x None g others no_arrow a c l p q r = by-alt (AgreeAt x) _ _ _ _ (a l p q r) (c l p q r)
branch-steady x (Some b) g others (an_arrow _ t h) a c l p q r = choosing-steady x b.test b.body others t h c l p q r

abbrev pub AllSteady : {X : Type 0} → List ℕ → (X → X → Type 0) → List (Level → Place → Trace X) → Type 0
AllSteady x R [] = Unit {0}
AllSteady x R (f ∷ fs) = Steady x R f × AllSteady x R fs

pub goal-at-steady : (x : List ℕ) (gs : List Goal) (i : ℕ) → AllSteady x (AgreeAt x) gs → SteadyGoal x (goal_at gs i)
unfolding goal_at
goal-at-steady x [] i h = no-answer x
goal-at-steady x (g ∷ gs) zero h = h.0
goal-at-steady x (g ∷ gs) (suc i) h = goal-at-steady x gs i h.1

pub value-at-steady : (x : List ℕ) (vs : List Value) (i : ℕ) → AllSteady x (AgreeValued x) vs → SteadyValue x (value_at vs i)
unfolding value_at
value-at-steady x [] i h = no-valued x
value-at-steady x (v ∷ vs) zero h = h.0
value-at-steady x (v ∷ vs) (suc i) h = value-at-steady x vs i h.1
