-- What goals post, by what their parts come to.
use Rattle.std.specs.Prelude.{◌≡◌, ℕ, Some, List, Result, Ok, Err, refl}
use Rattle.std.proofs.Common.{◌∙◌, ap, sym, subst}
use Rattle.pi_terms.specs.Tree.{Tree}
use Rattle.pi_constraints.specs.declared.constraint.Item.{Item}
use Rattle.pi_constraints.specs.declared.constraint.Constraint.{Constraint}
use Rattle.pi_constraints.specs.State.{next}
use Rattle.pi_constraints.specs.Store.{Moment}
use Rattle.pi_constraints.specs.declared.store.Ref.{Ref}
use Rattle.pi_prop_spec.specs.Operands.{Goal}
use Rattle.pi_prop_spec.specs.Terms.{goal_of}
use Rattle.pi_prop_spec.specs.Steps.{Refusal, Made, Known, Reading, gives, after, then, posting}
use Rattle.pi_prop_spec.specs.Lists.{read_item, read_each, read_collection, posts_element}
use Rattle.pi_prop_spec.specs.Limits.{first_refusal}
use Rattle.pi_prop_spec.specs.Postings.{read_goal, posting_unless, finished, nothing_made, posting_of, posting_in}
use Rattle.pi_prop_made.specs.declared.making.Making.{Making}
use Rattle.pi_prop_made.specs.Making.{Shows, Reads, with_constraint}
use Rattle.pi_prop_read.specs.declared.operands.stop.OperandStop.{OperandStop}
use Rattle.pi_prop_read.specs.OperandFrames.{Refuses}
use Rattle.pi_prop_read.proofs.RootLemmas.{value_is}
use Rattle.pi_prop_read.proofs.AfterLemmas.{after_after}
use Rattle.pi_prop_read.specs.GoalNodes.{goal_at}
use Rattle.pi_prop_read.specs.Items.{gives_all, read_listed}
use Rattle.pi_prop_read.specs.Goals.{ShowsGoal}
use Rattle.pi_prop_read.specs.Faults.{Stops}
use Rattle.pi_prop_read.specs.declared.called.PostingGoal.{PostingGoal}
use Rattle.pi_prop_read.specs.declared.called.PostingStop.{PostingStop}
use Rattle.pi_prop_read.specs.Called.{goal_as, posting_stop, ShowsCalled}

-- a refusal of a part is one of the whole
pub refused-then : {A B : Type 0} (w : Moment) (stop : OperandStop) (o : Result (Known A) Refusal) (f : A → Reading B) → Refuses w stop o → Refuses w stop (after o f)
refused-then {A = A} w (OperandStop.NotLinear r) o f h = (h.0, ap (λ (e : Result (Known A) Refusal). after e f) h.1)
refused-then {A = A} w OperandStop.Wide o f h = ap (λ (e : Result (Known A) Refusal). after e f) h
refused-then w OperandStop.Memory o f h = tt

-- a part gives this, and what is read behind it
pub reads-then : {A B : Type 0} (r : Reading A) (f : A → Reading B) (m k : Made) (x : A) (y : B) (new : Making) → r m ≡ Ok (record { what = x; made = k }) → Reads (f x) k y new → Reads (then r f) m y new
reads-then {A = A} r f m k x y new e h = record { made = h.made; is = ap (λ (o : Result (Known A) Refusal). after o f) e ∙ h.is; shown = h.shown }

pub refuses-then : {A B : Type 0} (w : Moment) (stop : OperandStop) (r : Reading A) (f : A → Reading B) (m k : Made) (x : A) → r m ≡ Ok (record { what = x; made = k }) → Refuses w stop (f x k) → Refuses w stop (then r f m)
refuses-then {A = A} w (OperandStop.NotLinear q) r f m k x e h = (h.0, ap (λ (o : Result (Known A) Refusal). after o f) e ∙ h.1)
refuses-then {A = A} w OperandStop.Wide r f m k x e h = ap (λ (o : Result (Known A) Refusal). after o f) e ∙ h
refuses-then w OperandStop.Memory r f m k x e h = tt

-- a goal, as a node
pub goal-as : (w : Moment) (r : Ref) (g : Goal) (m : Made) (new : Making) (result : Result (Unit {0}) OperandStop) → goal_at w r ≡ g → ShowsGoal w (read_goal g) m new result → ShowsGoal w (read_goal (goal_at w r)) m new result
goal-as w r g m new result e s = subst (λ h. ShowsGoal w (read_goal h) m new result) (sym e) s

-- ---- lists

-- one constraint
abbrev one : Constraint → Reading (Unit {0})
one c = posting c (gives tt)

pub posted : (c : Constraint) (m : Made) (new : Making) → Shows new (with_constraint m c) → Reads (one c) m tt new
posted c m new s = record { made = with_constraint m c; is = refl; shown = s }

-- `all_different` and `all_distinct` post one constraint behind their items
pub listed-posted : (t : Tree) (xs : List Item) (f : List Item → Constraint) (m : Made) (new : Making) → read_listed t m ≡ gives_all xs m → Shows new (with_constraint m (f xs)) → Reads (then (read_collection t) (λ ts. then (read_each ts) (λ ys. one (f ys)))) m tt new
listed-posted t xs f m new e s = record {
  made = with_constraint m (f xs);
  is = sym (after_after (read_collection t m) read_each (λ ys. one (f ys))) ∙ ap (λ (o : Result (Known (List Item)) Refusal). after o (λ ys. one (f ys))) e;
  shown = s;
}

pub listed-refused : (w : Moment) (stop : OperandStop) (t : Tree) (f : List Item → Constraint) (m : Made) → Refuses w stop (read_listed t m) → Refuses w stop (then (read_collection t) (λ ts. then (read_each ts) (λ ys. one (f ys))) m)
listed-refused w stop t f m h =
    subst (Refuses w stop) (after_after (read_collection t m) read_each (λ ys. one (f ys))) (refused-then w stop (read_listed t m) (λ ys. one (f ys)) h)

-- `element`: what is read behind the index, the list, the value
abbrev behind-value : Item → List Tree → Item → Reading (Unit {0})
behind-value x ts y = then (read_each ts) (λ xs. one (Constraint.Element x xs y))

abbrev behind-list : Tree → Item → List Tree → Reading (Unit {0})
behind-list v x ts = then (read_item v) (behind-value x ts)

abbrev behind-index : Tree → Tree → Item → Reading (Unit {0})
behind-index l v x = then (read_collection l) (behind-list v x)

pub index-refused : (w : Moment) (stop : OperandStop) (i l v : Tree) (m : Made) → Refuses w stop (read_item i m) → Refuses w stop (posts_element i l v m)
index-refused w stop i l v m h = refused-then w stop (read_item i m) (behind-index l v) h

pub list-refused : (w : Moment) (stop : OperandStop) (i l v : Tree) (m : Made) (x : Item) → read_item i m ≡ gives_all x m → Refuses w stop (read_collection l m) → Refuses w stop (posts_element i l v m)
list-refused w stop i l v m x e h = refuses-then w stop (read_item i) (behind-index l v) m m x e (refused-then w stop (read_collection l m) (behind-list v x) h)

pub value-refused : (w : Moment) (stop : OperandStop) (i l v : Tree) (m : Made) (x : Item) (ts : List Tree) → read_item i m ≡ gives_all x m → read_collection l m ≡ gives_all ts m → Refuses w stop (read_item v m) → Refuses w stop (posts_element i l v m)
value-refused w stop i l v m x ts e f h = refuses-then w stop (read_item i) (behind-index l v) m m x e (refuses-then w stop (read_collection l) (behind-list v x) m m ts f (refused-then w stop (read_item v m) (behind-value x ts) h))

pub items-refused : (w : Moment) (stop : OperandStop) (i l v : Tree) (m : Made) (x y : Item) (ts : List Tree) → read_item i m ≡ gives_all x m → read_collection l m ≡ gives_all ts m → read_item v m ≡ gives_all y m → Refuses w stop (read_each ts m) → Refuses w stop (posts_element i l v m)
items-refused w stop i l v m x y ts e f g h =
    refuses-then w stop (read_item i) (behind-index l v) m m x e
    (refuses-then w stop (read_collection l) (behind-list v x) m m ts f (refuses-then w stop (read_item v) (behind-value x ts) m m y g (refused-then w stop (read_each ts m) (λ xs. one (Constraint.Element x xs y)) h)))

pub element-posted : (i l v : Tree) (m : Made) (new : Making) (x y : Item) (ts : List Tree) (xs : List Item) → read_item i m ≡ gives_all x m → read_collection l m ≡ gives_all ts m → read_item v m ≡ gives_all y m → read_each ts m ≡ gives_all xs m → Shows new (with_constraint m (Constraint.Element x xs y)) →
    Reads (posts_element i l v) m tt new
element-posted i l v m new x y ts xs e f g k s =
    reads-then (read_item i) (behind-index l v) m m x tt new e
    (reads-then (read_collection l) (behind-list v x) m m ts tt new f
    (reads-then (read_item v) (behind-value x ts) m m y tt new g (reads-then (read_each ts) (λ zs. one (Constraint.Element x zs y)) m m xs tt new k (posted (Constraint.Element x xs y) m new s))))

-- ---- the whole

pub posting-as : (w : Moment) (r : Ref) (t : Tree) (n : ℕ) → w.terms r.number ≡ Some t → n ≡ next w.state → finished n (read_goal (goal_at w r) (nothing_made n)) ≡ posting_in w.state t
posting-as w r t n is e = (λ i. finished (e i) (read_goal (goal_of (value_is w r t is i)) (nothing_made (e i))))

-- a refused goal has no posting
pub stops-as : (w : Moment) (stop : OperandStop) (n : ℕ) (o : Result (Known (Unit {0})) Refusal) → Refuses w stop o → Stops w stop (finished n o)
stops-as w (OperandStop.NotLinear r) n o h = (h.0, ap (finished n) h.1)
stops-as w OperandStop.Wide n o h = ap (finished n) h
stops-as w OperandStop.Memory n o h = tt

pub finished-as : (n : ℕ) (r : Reading (Unit {0})) (done : Unit {0}) (new : Making) → (h : Reads r (nothing_made n) done new) → finished n (r (nothing_made n)) ≡ posting_unless (first_refusal h.made.constraints) n h.made
finished-as n r done new h = ap (finished n) h.is

-- ---- a goal by its kind and its arguments

pub called-as : (w : Moment) (goal known : PostingGoal) (m : Made) (new : Making) (result : Result (Unit {0}) OperandStop) → goal ≡ known → ShowsGoal w (read_goal (goal_as w known)) m new result → ShowsGoal w (read_goal (goal_as w goal)) m new result
called-as w goal known m new result e s = subst (λ x. ShowsGoal w (read_goal (goal_as w x)) m new result) (sym e) s

pub posting-for : (x : Goal) (n k : ℕ) → n ≡ k → finished n (read_goal x (nothing_made n)) ≡ posting_of k x
posting-for x n k e = ap (λ i. finished i (read_goal x (nothing_made i))) e

stopped : (w : Moment) (stop : OperandStop) (n : ℕ) (o : Result (Known (Unit {0})) Refusal) → Refuses w stop o → ShowsCalled w (Err (posting_stop stop)) (finished n o)
stopped w (OperandStop.NotLinear r) n o h = (h.0, ap (finished n) h.1)
stopped w OperandStop.Wide n o h = ap (finished n) h
stopped w OperandStop.Memory n o h = tt

pub stops-so : (w : Moment) (stop : OperandStop) (told : PostingStop) (n : ℕ) (x : Goal) (k : ℕ) → n ≡ k → told ≡ posting_stop stop → Refuses w stop (read_goal x (nothing_made n)) → ShowsCalled w (Err told) (posting_of k x)
stops-so w stop told n x k e is h =
    subst (λ (p : PostingStop). ShowsCalled w (Err p) (posting_of k x)) (sym is)
    (subst (ShowsCalled w (Err (posting_stop stop))) (posting-for x n k e) (stopped w stop n (read_goal x (nothing_made n)) h))
