-- Each turn comes to the same whole.
use Rattle.std.specs.Prelude.{◌≡◌, ◌≢◌, ◌⊎◌, ⊤, ℕ, zero, suc, ◌≤◌, ℤ, pos, negsuc, List, [], ◌∷◌, ◌++◌, length, Option, Some, None, Result, Ok, Err, refl}
use Rattle.std.proofs.Common.{arith, ◌∙◌, ap, sym, subst, inl, inr}
use Rattle.pi_terms.specs.Tree.{int}
use Rattle.pi_constraints.specs.declared.constraint.Item.{Item}
use Rattle.pi_constraints.specs.State.{next}
use Rattle.pi_constraints.specs.Store.{Moment}
use Rattle.pi_constraints.specs.declared.store.Ref.{Ref}
use Rattle.pi_prop_spec.specs.Operands.{Boolean, truth_variable, truth_number, relation, negation, joined, no_boolean, Comparison as ComparisonOf}
use Rattle.pi_prop_spec.specs.Steps.{Refusal, not_a_constraint, Made, Known, Reading, gives, refuses, after, then}
use Rattle.pi_prop_spec.specs.Relations.{Standing, read_relation}
use Rattle.pi_prop_spec.specs.Truths.{truth_variable_is, truth_number_is, truth_of_standing, truth_of_negation, truth_of_joined, read_truth}
use Rattle.pi_prop_made.specs.declared.making.Making.{Making}
use Rattle.pi_prop_made.specs.Making.{Shows, Reads}
use Rattle.pi_prop_made.specs.ToZero.{rel_of, sum_for}
use Rattle.pi_prop_read.specs.declared.operands.stop.OperandStop.{OperandStop}
use Rattle.pi_prop_read.specs.Refs.{IsThere, value_at, operand_at}
use Rattle.pi_prop_read.specs.OperandFrames.{Refuses}
use Rattle.pi_prop_read.proofs.AfterLemmas.{after_after, after_same, after_gives}
use Rattle.pi_prop_read.specs.declared.relations.Relation.{Relation}
use Rattle.pi_prop_read.specs.Relations.{comparison_of, HasRelation}
use Rattle.pi_prop_read.specs.declared.truths.nodes.Connective.{Connective}
use Rattle.pi_prop_read.specs.declared.truths.nodes.TruthNode.{TruthNode}
use Rattle.pi_prop_read.specs.declared.truths.frames.TruthFrame.{TruthFrame}
use Rattle.pi_prop_read.specs.declared.truths.frames.TruthTurn.{TruthTurn}
use Rattle.pi_prop_read.specs.TruthNodes.{connective_of, boolean_at, ShowsTruthNode}
use Rattle.pi_prop_read.specs.TruthFrames.{ShowsTruthNumber, come, back, FrameIs, FramesAre, TurnIs, turn_reading, IsTurn, HasMade, ShowsMade, ShowsTurn, ShowsNext, next_turn, ShowsWait}
use Rattle.pi_prop_read.proofs.JoinedLemmas.{Grown, grown-reads, grown-variable, grown-standing, grown-negation, grown-joined}

abbrev Whole : Type 0
Whole = Result (Known Item) Refusal

-- the last one that waits is the next
back-last : (w : Moment) (fs : List TruthFrame) (f : TruthFrame) (x : Item) (m : Made) → back w (fs ++ f ∷ []) x m ≡ after (come w f x m) (back w fs)
unfolding back
back-last w [] f x m = sym (after_gives (come w f x m))
back-last w (g ∷ fs) f x m = ap (λ (o : Whole). after o (come w g)) (back-last w fs f x m) ∙ after_after (come w f x m) (back w fs) (come w g)

one-more : (w : Moment) (fs : List TruthFrame) (f : TruthFrame) → FramesAre w fs → FrameIs w f → FramesAre w (fs ++ f ∷ [])
unfolding FramesAre
one-more w [] f h k = (k, tt)
one-more w (g ∷ fs) f h k = (h.0, one-more w fs f h.1 k)

all-but-last : (w : Moment) (fs : List TruthFrame) (f : TruthFrame) → FramesAre w (fs ++ f ∷ []) → FramesAre w fs × FrameIs w f
unfolding FramesAre
all-but-last w [] f h = (tt, h.0)
all-but-last w (g ∷ fs) f h = let rest : FramesAre w fs × FrameIs w f = all-but-last w fs f h.1 in ((h.0, rest.0), rest.1)

pub first-turn : (w : Moment) (a : Making) (r : Ref) (m : Made) (fs : List TruthFrame) → fs ≡ [] → IsThere w r → Shows a m → next w.state ≤ m.unused → IsTurn w a (TruthTurn.Read r) fs (read_truth (boolean_at w r) m)
unfolding back FramesAre
first-turn w a r m fs none here s l = subst (λ gs. IsTurn w a (TruthTurn.Read r) gs (read_truth (boolean_at w r) m)) (sym none) (record {
  made = m;
  shown = s;
  enough = l;
  frames = tt;
  is_here = here;
  goes = after_gives (read_truth (boolean_at w r) m);
})

-- an expression is read first, and then a frame comes
pub turn-under : (w : Moment) (a : Making) (r : Ref) (f : TruthFrame) (m : Made) (fs gs : List TruthFrame) → fs ≡ [] → gs ≡ fs ++ f ∷ [] → IsThere w r → FrameIs w f → Shows a m → next w.state ≤ m.unused →
    IsTurn w a (TruthTurn.Read r) gs (then (read_truth (boolean_at w r)) (come w f) m)
unfolding back FramesAre
turn-under w a r f m fs gs none more here frame s l = subst (λ hs. IsTurn w a (TruthTurn.Read r) hs (then (read_truth (boolean_at w r)) (come w f) m)) (sym (more ∙ ap (λ (hs : List TruthFrame). hs ++ f ∷ []) none)) (record {
  made = m;
  shown = s;
  enough = l;
  frames = (frame, tt);
  is_here = here;
  goes = refl;
})

pub as-negation : (w : Moment) (a : Making) (result : Result Item OperandStop) (b : Boolean) (m : Made) → ShowsMade w a result (then (read_truth b) (come w TruthFrame.Negation) m) → ShowsMade w a result (read_truth (negation b) m)
unfolding read_truth
as-negation w a result b m h = h

pub as-joined : (w : Moment) (a : Making) (result : Result Item OperandStop) (k : Connective) (p q : Ref) (m : Made) → ShowsMade w a result (then (read_truth (boolean_at w p)) (come w (TruthFrame.Left k q)) m) →
    ShowsMade w a result (read_truth (joined (connective_of k) (boolean_at w p) (boolean_at w q)) m)
unfolding read_truth
as-joined w a result k p q m h = h

-- ---- an expression is begun

as-boolean : (w : Moment) (a : Making) (r : Ref) (b : Boolean) (fs : List TruthFrame) (whole : Whole) → (t : IsTurn w a (TruthTurn.Read r) fs whole) → boolean_at w r ≡ b → after (read_truth b t.made) (back w fs) ≡ whole
as-boolean w a r b fs whole t e = ap (λ c. after (read_truth c t.made) (back w fs)) (sym e) ∙ t.goes

-- its truth is there
begun : (w : Moment) (old new : Making) (r : Ref) (b : Boolean) (x : Item) (k : Made) (fs : List TruthFrame) (whole : Whole) → boolean_at w r ≡ b → (t : IsTurn w old (TruthTurn.Read r) fs whole) → read_truth b t.made ≡ Ok (record { what = x; made = k }) → Shows new k → next w.state ≤ k.unused →
    IsTurn w new (TruthTurn.Have x) fs whole
begun w old new r b x k fs whole e t is s l = record {
  made = k;
  shown = s;
  enough = l;
  frames = t.frames;
  is_here = tt;
  goes = ap (λ (o : Whole). after o (back w fs)) (sym is) ∙ as-boolean w old r b fs whole t e;
}

pub begin-variable : (w : Moment) (old new : Making) (r : Ref) (n : ℕ) (fs : List TruthFrame) (whole : Whole) → ShowsTruthNode w r (TruthNode.Variable n) → ((m : Made) → Shows old m → Reads (truth_variable_is n) m (Item.Var n) new) → IsTurn w old (TruthTurn.Read r) fs whole → IsTurn w new (TruthTurn.Have (Item.Var n)) fs whole
unfolding read_truth
begin-variable w old new r n fs whole s makes t =
    let made : Reads (truth_variable_is n) t.made (Item.Var n) new = makes t.made t.shown in
    let grown = grown-reads (truth_variable_is n) t.made (Item.Var n) new (grown-variable n t.made) made in
    begun w old new r (truth_variable n) (Item.Var n) made.made fs whole s.is t made.is made.shown (omega (arith, t.enough, grown))

number-is : (i : ℤ) (x : Item) (m : Made) → ShowsTruthNumber (Some x) i → truth_number_is i m ≡ Ok (record { what = x; made = m })
number-is i x m (e, inl none) = ap (λ (j : ℤ). truth_number_is j m) none ∙ ap (λ (y : Item). Ok (record { what = y; made = m })) (sym (e ∙ ap Item.Int none))
number-is i x m (e, inr one) = ap (λ (j : ℤ). truth_number_is j m) one ∙ ap (λ (y : Item). Ok (record { what = y; made = m })) (sym (e ∙ ap Item.Int one))

pub begin-number : (w : Moment) (a : Making) (r : Ref) (i : ℤ) (x : Item) (fs : List TruthFrame) (whole : Whole) → ShowsTruthNode w r (TruthNode.Number i) → ShowsTruthNumber (Some x) i → IsTurn w a (TruthTurn.Read r) fs whole → IsTurn w a (TruthTurn.Have x) fs whole
unfolding read_truth
begin-number w a r i x fs whole s is t = begun w a a r (truth_number i) x t.made fs whole s.is t (number-is i x t.made is) t.shown t.enough

no-number : (i : ℤ) (m : Made) → ShowsTruthNumber None i → truth_number_is i m ≡ Err (not_a_constraint (int i))
no-number (pos zero) m h = absurd (h.0 refl)
no-number (pos (suc zero)) m h = absurd (h.1 refl)
no-number (pos (suc (suc n))) m h = refl
no-number (negsuc n) m h = refl

-- it is refused
refused : (w : Moment) (a : Making) (r : Ref) (b : Boolean) (fs : List TruthFrame) (whole : Whole) → boolean_at w r ≡ b → (t : IsTurn w a (TruthTurn.Read r) fs whole) → read_truth b t.made ≡ Err (not_a_constraint (value_at w r)) → Refuses w (OperandStop.NotLinear r) whole
refused w a r b fs whole e t is = (t.is_here, sym (ap (λ (o : Whole). after o (back w fs)) (sym is) ∙ as-boolean w a r b fs whole t e))

pub begin-no-number : (w : Moment) (a : Making) (r : Ref) (i : ℤ) (fs : List TruthFrame) (whole : Whole) → ShowsTruthNode w r (TruthNode.Number i) → ShowsTruthNumber None i → IsTurn w a (TruthTurn.Read r) fs whole → Refuses w (OperandStop.NotLinear r) whole
unfolding read_truth
begin-no-number w a r i fs whole s none t = refused w a r (truth_number i) fs whole s.is t (no-number i t.made none ∙ ap (λ u. Err (not_a_constraint u)) (sym s.parts))

pub begin-other : (w : Moment) (a : Making) (r : Ref) (fs : List TruthFrame) (whole : Whole) → ShowsTruthNode w r TruthNode.Other → IsTurn w a (TruthTurn.Read r) fs whole → Refuses w (OperandStop.NotLinear r) whole
unfolding read_truth
begin-other w a r fs whole s t = refused w a r (no_boolean (value_at w r)) fs whole s.is t refl

-- of a relation
pub begin-relation : (w : Moment) (old new : Making) (r : Ref) (b : Boolean) (x : Item) (fs : List TruthFrame) (whole : Whole) → boolean_at w r ≡ b → (t : IsTurn w old (TruthTurn.Read r) fs whole) → HasMade w new x (read_truth b t.made) → IsTurn w new (TruthTurn.Have x) fs whole
begin-relation w old new r b x fs whole e t h = begun w old new r b x h.made fs whole e t h.is h.shown h.enough

pub refused-relation : (w : Moment) (old : Making) (r : Ref) (b : Boolean) (stop : OperandStop) (fs : List TruthFrame) (whole : Whole) → boolean_at w r ≡ b → (t : IsTurn w old (TruthTurn.Read r) fs whole) → Refuses w stop (read_truth b t.made) → Refuses w stop whole
refused-relation w old r b (OperandStop.NotLinear q) fs whole e t h = (h.0, sym (ap (λ (o : Whole). after o (back w fs)) (sym h.1) ∙ as-boolean w old r b fs whole t e))
refused-relation w old r b OperandStop.Wide fs whole e t h = sym (ap (λ (o : Whole). after o (back w fs)) (sym h) ∙ as-boolean w old r b fs whole t e)
refused-relation w old r b OperandStop.Memory fs whole e t h = tt

pub relation-truth : (w : Moment) (mid new : Making) (d : Relation) (x : Item) (c : ComparisonOf) (m : Made) (p q : Ref) → (h : HasRelation w mid d (read_relation c (operand_at w p) (operand_at w q) m)) → ((k : Made) → Shows mid k → Reads (truth_of_standing (rel_of d.how) (sum_for d.how d.sum)) k x new) →
    HasMade w new x (read_truth (relation c (operand_at w p) (operand_at w q)) m)
unfolding read_truth
relation-truth w mid new d x c m p q h makes =
    let rel = rel_of d.how in
    let u = sum_for d.how d.sum in
    let made : Reads (truth_of_standing rel u) h.made x new = makes h.made h.shown in
    let grown = grown-reads (truth_of_standing rel u) h.made x new (grown-standing rel u h.made) made in
    record {
      made = made.made;
      is = ap (λ (o : Result (Known Standing) Refusal). after o (λ s. truth_of_standing s.rel s.sum)) h.is ∙ made.is;
      shown = made.shown;
      enough = omega (arith, h.enough, grown);
    }

pub relation-refused : (w : Moment) (stop : OperandStop) (c : ComparisonOf) (m : Made) (p q : Ref) → Refuses w stop (read_relation c (operand_at w p) (operand_at w q) m) → Refuses w stop (read_truth (relation c (operand_at w p) (operand_at w q)) m)
unfolding read_truth
relation-refused w (OperandStop.NotLinear r) c m p q h = (h.0, ap (λ (o : Result (Known Standing) Refusal). after o (λ s. truth_of_standing s.rel s.sum)) h.1)
relation-refused w OperandStop.Wide c m p q h = ap (λ (o : Result (Known Standing) Refusal). after o (λ s. truth_of_standing s.rel s.sum)) h
relation-refused w OperandStop.Memory c m p q h = tt

-- another frame waits for a truth in this one
pushed : (w : Moment) (a : Making) (r q : Ref) (f : TruthFrame) (b : Boolean) (fs gs : List TruthFrame) (whole : Whole) → gs ≡ fs ++ f ∷ [] → boolean_at w r ≡ b → IsThere w q → FrameIs w f → ((m : Made) → read_truth b m ≡ after (read_truth (boolean_at w q) m) (come w f)) →
    IsTurn w a (TruthTurn.Read r) fs whole → IsTurn w a (TruthTurn.Read q) gs whole
pushed w a r q f b fs gs whole e is here there reads t = subst (λ hs. IsTurn w a (TruthTurn.Read q) hs whole) (sym e) (record {
  made = t.made;
  shown = t.shown;
  enough = t.enough;
  frames = one-more w fs f t.frames there;
  is_here = here;
  goes = after_same (read_truth (boolean_at w q) t.made) (back w (fs ++ f ∷ [])) (λ x. then (come w f x) (back w fs)) (back-last w fs f)
      ∙ (sym (after_after (read_truth (boolean_at w q) t.made) (come w f) (back w fs))
      ∙ (ap (λ (o : Whole). after o (back w fs)) (sym (reads t.made)) ∙ as-boolean w a r b fs whole t is));
})

pub begin-negation : (w : Moment) (a : Making) (r q : Ref) (fs gs : List TruthFrame) (whole : Whole) → ShowsTruthNode w r (TruthNode.Negation q) → gs ≡ fs ++ TruthFrame.Negation ∷ [] → IsTurn w a (TruthTurn.Read r) fs whole → IsTurn w a (TruthTurn.Read q) gs whole
unfolding read_truth
begin-negation w a r q fs gs whole s e t = pushed w a r q TruthFrame.Negation (negation (boolean_at w q)) fs gs whole e s.is s.parts tt (λ m. refl) t

pub begin-joined : (w : Moment) (a : Making) (r p q : Ref) (k : Connective) (fs gs : List TruthFrame) (whole : Whole) → ShowsTruthNode w r (TruthNode.Joined k p q) → gs ≡ fs ++ TruthFrame.Left k q ∷ [] → IsTurn w a (TruthTurn.Read r) fs whole → IsTurn w a (TruthTurn.Read p) gs whole
unfolding read_truth
begin-joined w a r p q k fs gs whole s e t = pushed w a r p (TruthFrame.Left k q) (joined (connective_of k) (boolean_at w p) (boolean_at w q)) fs gs whole e s.is s.parts.0 s.parts.1 (λ m. refl) t

-- ---- a truth comes to what waits for it

came : (w : Moment) (a : Making) (f : TruthFrame) (x : Item) (fs : List TruthFrame) (whole : Whole) → (t : IsTurn w a (TruthTurn.Have x) (fs ++ f ∷ []) whole) → after (come w f x t.made) (back w fs) ≡ whole
came w a f x fs whole t = sym (back-last w fs f x t.made) ∙ t.goes

pub come-left : (w : Moment) (a : Making) (k : Connective) (r : Ref) (x : Item) (fs gs : List TruthFrame) (whole : Whole) → gs ≡ fs ++ TruthFrame.Right k x ∷ [] → IsTurn w a (TruthTurn.Have x) (fs ++ TruthFrame.Left k r ∷ []) whole → IsTurn w a (TruthTurn.Read r) gs whole
come-left w a k r x fs gs whole e t =
    let parts = all-but-last w fs (TruthFrame.Left k r) t.frames in
    let own : Whole = read_truth (boolean_at w r) t.made in
    subst (λ hs. IsTurn w a (TruthTurn.Read r) hs whole) (sym e) (record {
      made = t.made;
      shown = t.shown;
      enough = t.enough;
      frames = one-more w fs (TruthFrame.Right k x) parts.0 tt;
      is_here = parts.1;
      goes = after_same own (back w (fs ++ TruthFrame.Right k x ∷ [])) (λ y. then (truth_of_joined (connective_of k) x y) (back w fs)) (back-last w fs (TruthFrame.Right k x))
          ∙ (sym (after_after own (truth_of_joined (connective_of k) x) (back w fs)) ∙ came w a (TruthFrame.Left k r) x fs whole t);
    })

-- a truth that was made, with what waits behind it
stepped : (w : Moment) (old new : Making) (f : TruthFrame) (x y : Item) (fs : List TruthFrame) (whole : Whole) → ((m : Made) → Grown m.unused (come w f x m)) → ((m : Made) → Shows old m → Reads (come w f x) m y new) → IsTurn w old (TruthTurn.Have x) (fs ++ f ∷ []) whole → IsTurn w new (TruthTurn.Have y) fs whole
stepped w old new f x y fs whole grows makes t =
    let made : Reads (come w f x) t.made y new = makes t.made t.shown in
    let grown = grown-reads (come w f x) t.made y new (grows t.made) made in
    record {
      made = made.made;
      shown = made.shown;
      enough = omega (arith, t.enough, grown);
      frames = (all-but-last w fs f t.frames).0;
      is_here = tt;
      goes = ap (λ (o : Whole). after o (back w fs)) (sym made.is) ∙ came w old f x fs whole t;
    }

pub come-right : (w : Moment) (old new : Making) (k : Connective) (x y z : Item) (fs : List TruthFrame) (whole : Whole) → ((m : Made) → Shows old m → Reads (truth_of_joined (connective_of k) x y) m z new) → IsTurn w old (TruthTurn.Have y) (fs ++ TruthFrame.Right k x ∷ []) whole → IsTurn w new (TruthTurn.Have z) fs whole
come-right w old new k x y z fs whole makes t = stepped w old new (TruthFrame.Right k x) y z fs whole (grown-joined (connective_of k) x y) makes t

pub come-negation : (w : Moment) (old new : Making) (x y : Item) (fs : List TruthFrame) (whole : Whole) → ((m : Made) → Shows old m → Reads (truth_of_negation x) m y new) → IsTurn w old (TruthTurn.Have x) (fs ++ TruthFrame.Negation ∷ []) whole → IsTurn w new (TruthTurn.Have y) fs whole
come-negation w old new x y fs whole makes t = stepped w old new TruthFrame.Negation x y fs whole (grown-negation x) makes t

pub come-done : (w : Moment) (a : Making) (x : Item) (fs : List TruthFrame) (whole : Whole) → fs ≡ [] → IsTurn w a (TruthTurn.Have x) fs whole → HasMade w a x whole
unfolding back
come-done w a x fs whole none t = record {
  made = t.made;
  is = sym (ap (λ gs. back w gs x t.made) (sym none) ∙ t.goes);
  shown = t.shown;
  enough = t.enough;
}

-- ---- frames

pub turn-shown : (w : Moment) (a : Making) (x : Result TruthTurn OperandStop) (fs : List TruthFrame) (whole : Whole) → ShowsTurn w a x fs whole → ShowsNext w a (next_turn x) fs whole
turn-shown w a (Ok turn) fs whole s = s
turn-shown w a (Err stop) fs whole s = s

pub waited : (w : Moment) (a : Making) (x : Result TruthTurn OperandStop) (old new : List TruthFrame) (f : TruthFrame) (q : Ref) (whole : Whole) → ShowsWait x old new f q → (new ≡ old ++ f ∷ [] → IsTurn w a (TruthTurn.Read q) new whole) → ShowsTurn w a x new whole
waited w a (Ok turn) old new f q whole (is, more) h = subst (λ t. IsTurn w a t new whole) (sym is) (h more)
waited w a (Err (OperandStop.NotLinear r)) old new f q whole s h = absurd s
waited w a (Err OperandStop.Wide) old new f q whole s h = absurd s
waited w a (Err OperandStop.Memory) old new f q whole s h = tt

pub popped : (w : Moment) (a : Making) (u : Item) (old new : List TruthFrame) (x f : TruthFrame) (whole : Whole) → old ≡ new ++ x ∷ [] → x ≡ f → IsTurn w a (TruthTurn.Have u) old whole → IsTurn w a (TruthTurn.Have u) (new ++ f ∷ []) whole
popped w a u old new x f whole e is t = subst (λ gs. IsTurn w a (TruthTurn.Have u) gs whole) (e ∙ ap (λ (g : TruthFrame). new ++ g ∷ []) is) t

pub none-left : (fs : List TruthFrame) → length fs ≡ 0 → fs ≡ []
none-left [] e = refl
none-left (f ∷ fs) e = absurd (omega (arith, e))
