-- Resumed runs of choices, of `catch`, of rules and of conditions lead where they are to.
use Rattle.std.specs.Prelude.{◌≡◌, ℕ, suc, ◌+◌, Bool, true, false, List, [], ◌∷◌, ◌++◌, refl}
use Rattle.std.proofs.Common.{arith, sym, ◌∙◌, ap, subst, inl, inr}
use Rattle.pi_terms.specs.Tree.{Tree}
use Rattle.pi_traces.specs.Trace.{Trace, end, note, ans, Done, Raise, Abort, Miss, Deep, Note, Tick, Load, Out, done, one, alt, then, end_of}
use Rattle.pi_traces.specs.Control.{caught, chosen}
use Rattle.pi_traces.proofs.TraceLemmas.{alt-done}
use Rattle.pi_resume_spec.specs.Ways.{Way, Ways, choosing, numbered, choice_from}
use Rattle.pi_resume_spec.specs.Resumed.{Following, on_way, reached, cut_off, bad, passed, Search, with_rest, ways_of, taken_from, alternatives, to_exception, with_handler, caught_at, RuleSearch, rest_unless, rules_ways, on_first, bad_if, rules_taken, rules_search, chosen_search, At, at_first, past_note, past_answer, Leads, IsResumable}
use Rattle.pi_resume_spec.specs.PathLaws.{AllResumable, ChoicesAreResumable, CatchesAreResumable, AllBodies, RulesAreResumable, TicksAreResumable, ConditionsAreResumable}
use Rattle.pi_resume_spec.proofs.ResumedLemmas.{AtAlt, in_front, in_behind, Begun, begun, at-alt, AtThen, through, at-then, at-one, leads-rest}

-- ---- ways with a number in front

data AtNumbered {A : Type 0} (k : ℕ) (t : Ways A) (v : Way A) (rest : Ways A) : Type 0 where
  numbers : (w : Way A) (r : Ways A) → At t w r → v ≡ choosing k w → rest ≡ numbered k r → AtNumbered k t v rest

number-through : {A : Type 0} (k : ℕ) (t : Ways A) (v : Way A) (rest : Ways A) → AtThen t (λ w. one (choosing k w)) v rest → AtNumbered k t v rest
unfolding alt
number-through k t v rest (through w r q a b e) =
    let is = at-one (choosing k w) v q b in
    numbers w r a is.0 (e ∙ ap (λ u. alt u (numbered k r)) is.1)

at-numbered : {A : Type 0} (k : ℕ) (t : Ways A) (v : Way A) (rest : Ways A) → At (numbered k t) v rest → AtNumbered k t v rest
at-numbered k t v rest a = number-through k t v rest (at-then t (λ w. one (choosing k w)) v rest a)

-- where a goal with a number in front leads
leads-numbered : {A : Type 0} (k : ℕ) (later : Ways A) (s : Search A) (w : Way A) (r : Ways A) (left : List ℕ) → IsResumable s → At s.ways w r →
    Leads (with_rest (k ∷ []) later (s.follows (w.path ++ left))) (k ∷ w.path) w.answer left (alt (numbered k r) later)
leads-numbered k later s w r left hs a = leads-rest (k ∷ []) later (s.follows (w.path ++ left)) w.path w.answer left r (hs w r left a)

-- ---- choices

-- the number of a way, and where the alternative with that number leads
pub record TakenAt {A : Type 0} (f : ℕ → List ℕ → Following A) (k : ℕ) (v : Way A) (rest : Ways A) (left : List ℕ) : Type 0 where
  pub place : ℕ
  pub path : List ℕ
  pub is : v.path ≡ (k + place) ∷ path
  pub leads : Leads (f place (path ++ left)) v.path v.answer left rest

first-taken : {A : Type 0} (k : ℕ) (s : Search A) (more : List (Search A)) (v : Way A) (rest r : Ways A) (left : List ℕ) → IsResumable s → AtNumbered k s.ways v r → rest ≡ alt r (choice_from (suc k) (ways_of more)) →
    TakenAt (taken_from k (s ∷ more)) k v rest left
unfolding taken_from
first-taken k s more v rest r left hs (numbers w q a e f) g =
    let later : Ways _ = choice_from (suc k) (ways_of more) in
    let led = leads-numbered k later s w q left hs a in
    let whole : alt (numbered k q) later ≡ rest = ap (λ u. alt u later) (sym f) ∙ sym g in
    let placed = subst (λ u. Leads (with_rest (k ∷ []) later (s.follows (w.path ++ left))) (k ∷ w.path) w.answer left u) whole led in
    record {
      place = 0;
      path = w.path;
      is = ap (λ x. x.path) e ∙ ap (λ (n : ℕ). n ∷ w.path) (omega arith);
      leads = subst (λ x. Leads (with_rest (k ∷ []) later (s.follows (w.path ++ left))) x.path x.answer left rest) (sym e) placed;
    }

later-taken : {A : Type 0} (k : ℕ) (s : Search A) (more : List (Search A)) (v : Way A) (rest : Ways A) (left : List ℕ) → TakenAt (taken_from (suc k) more) (suc k) v rest left → TakenAt (taken_from k (s ∷ more)) k v rest left
unfolding taken_from
later-taken k s more v rest left h = record {
  place = suc h.place;
  path = h.path;
  is = h.is ∙ ap (λ (n : ℕ). n ∷ h.path) (omega arith);
  leads = h.leads;
}

choice-cases : {A : Type 0} (k : ℕ) (s : Search A) (more : List (Search A)) (v : Way A) (rest : Ways A) (left : List ℕ) → IsResumable s → AtAlt (numbered k s.ways) (choice_from (suc k) (ways_of more)) v rest →
    (At (choice_from (suc k) (ways_of more)) v rest → TakenAt (taken_from (suc k) more) (suc k) v rest left) → TakenAt (taken_from k (s ∷ more)) k v rest left
choice-cases k s more v rest left hs (in_front r a e) later = first-taken k s more v rest r left hs (at-numbered k s.ways v r a) e
choice-cases k s more v rest left hs (in_behind a) later = later-taken k s more v rest left (later a)

choice-taken : {A : Type 0} (k : ℕ) (more : List (Search A)) (v : Way A) (rest : Ways A) (left : List ℕ) → AllResumable more → At (choice_from k (ways_of more)) v rest → TakenAt (taken_from k more) k v rest left
unfolding choice_from AllResumable Begun
choice-taken k [] v rest left all a = absurd (begun a)
choice-taken k (s ∷ more) v rest left all a =
    choice-cases k s more v rest left all.0 (at-alt (numbered k s.ways) (choice_from (suc k) (ways_of more)) v rest a) (choice-taken (suc k) more v rest left all.1)

pub choices_are_resumable : {A : Type 0} → ChoicesAreResumable A
choices_are_resumable more all v rest left a =
    let h : TakenAt (taken_from 1 more) 1 v rest left = choice-taken 1 more v rest left all a in
    let is : v.path ≡ suc h.place ∷ h.path = h.is ∙ ap (λ (n : ℕ). n ∷ h.path) (omega arith) in
    subst (λ (p : List ℕ). Leads ((alternatives more).follows (p ++ left)) v.path v.answer left rest) (sym is) h.leads

-- ---- `catch`

data AtCaught {A : Type 0} (t : Trace A) (f : Tree → Trace A) (x : A) (rest : Trace A) : Type 0 where
  in_goal : (r : Trace A) → At t x r → rest ≡ caught r f → AtCaught t f x rest
  in_handler : (ball : Tree) → end_of t ≡ Raise ball → At (f ball) x rest → AtCaught t f x rest

note-caught : {A : Type 0} {t : Trace A} {f : Tree → Trace A} {x : A} {rest : Trace A} (n : Note) → AtCaught t f x rest → AtCaught (note n t) f x rest
unfolding end_of
note-caught n (in_goal r a e) = in_goal r (past_note n a) e
note-caught n (in_handler ball e a) = in_handler ball e a

answer-caught : {A : Type 0} {t : Trace A} {f : Tree → Trace A} {x : A} {rest : Trace A} (y : A) → AtCaught t f x rest → AtCaught (ans y t) f x rest
unfolding end_of
answer-caught y (in_goal r a e) = in_goal r (past_answer y a) e
answer-caught y (in_handler ball e a) = in_handler ball e a

at-caught : {A : Type 0} (t : Trace A) (f : Tree → Trace A) (x : A) (rest : Trace A) → At (caught t f) x rest → AtCaught t f x rest
unfolding caught Begun end_of
at-caught (end Done) f x rest a = absurd (begun a)
at-caught (end (Raise ball)) f x rest a = in_handler ball refl a
at-caught (end (Abort ball)) f x rest a = absurd (begun a)
at-caught (end (Miss c)) f x rest a = absurd (begun a)
at-caught (end Deep) f x rest a = absurd (begun a)
at-caught (note n t) f x rest a = note-caught n (at-caught t f x rest (begun a))
at-caught (ans y t) f x rest a = elim (begun a) [
  | inl (e, g) ↦ in_goal t (subst (λ z. At (ans y t) z t) (sym e) (at_first y t)) g
  | inr b ↦ answer-caught y (at-caught t f x rest b)
]

pub leads-passed : {A : Type 0} (n : Note) (f : Following A) (path : List ℕ) (x : A) (left : List ℕ) (rest : Ways A) → Leads f path x left rest → Leads (passed n f) path x left rest
unfolding Leads
leads-passed Tick f path x left rest h = h
leads-passed (Load k) f path x left rest h = h
leads-passed (Out text) f path x left rest h = h

leads-exception : {A B : Type 0} (t : Trace A) (f : Tree → Following B) (ball : Tree) (path : List ℕ) (x : B) (left : List ℕ) (rest : Ways B) → end_of t ≡ Raise ball → Leads (f ball) path x left rest → Leads (to_exception t f) path x left rest
unfolding to_exception end_of
leads-exception (end Done) f ball path x left rest e h = absurd (cc)
leads-exception (end (Raise thrown)) f ball path x left rest e h = let same : thrown ≡ ball = cc in subst (λ b. Leads (f b) path x left rest) (sym same) h
leads-exception (end (Abort thrown)) f ball path x left rest e h = absurd (cc)
leads-exception (end (Miss c)) f ball path x left rest e h = absurd (cc)
leads-exception (end Deep) f ball path x left rest e h = absurd (cc)
leads-exception (note n t) f ball path x left rest e h = leads-passed n (to_exception t f) path x left rest (leads-exception t f ball path x left rest e h)
leads-exception (ans y t) f ball path x left rest e h = leads-exception t f ball path x left rest e h

leads-handler : {A : Type 0} (handler : Tree → Ways A) (f : Following A) (path : List ℕ) (x : A) (left : List ℕ) (later : Ways A) → Leads f path x left later →
    Leads (with_handler handler f) (1 ∷ path) x left (caught (numbered 1 later) (λ ball. numbered 2 (handler ball)))
unfolding Leads with_handler
leads-handler handler (on_way n f) path x left later h = leads-handler handler f path x left later h
leads-handler handler (reached made y more behind_it) path x left later h =
    (ap (λ (p : List ℕ). 1 ∷ p) h.0, h.1, h.2, ap (λ t. caught (numbered 1 t) (λ ball. numbered 2 (handler ball))) h.3)
leads-handler handler (cut_off e) path x left later h = absurd h
leads-handler handler bad path x left later h = absurd h

numbered-end : {A : Type 0} (k : ℕ) (t : Ways A) → end_of (numbered k t) ≡ end_of t
unfolding then alt end_of
numbered-end k (end e) = refl
numbered-end k (note n t) = numbered-end k t
numbered-end k (ans w t) = numbered-end k t

goal-side : {A : Type 0} (s : Search A) (handler : Tree → Search A) (v : Way A) (rest r : Ways A) (left : List ℕ) → IsResumable s → AtNumbered 1 s.ways v r → rest ≡ caught r (λ ball. numbered 2 (handler ball).ways) →
    Leads (caught_at s handler (v.path ++ left)) v.path v.answer left rest
goal-side s handler v rest r left hs (numbers w q a e f) g =
    let led = leads-handler (λ ball. (handler ball).ways) (s.follows (w.path ++ left)) w.path w.answer left q (hs w q left a) in
    let whole = ap (λ u. caught u (λ ball. numbered 2 (handler ball).ways)) (sym f) ∙ sym g in
    let placed = subst (λ u. Leads (caught_at s handler (1 ∷ (w.path ++ left))) (1 ∷ w.path) w.answer left u) whole led in
    subst (λ x. Leads (caught_at s handler (x.path ++ left)) x.path x.answer left rest) (sym e) placed

handler-side : {A : Type 0} (s : Search A) (handler : Tree → Search A) (ball : Tree) (v : Way A) (rest : Ways A) (left : List ℕ) → IsResumable (handler ball) → end_of s.ways ≡ Raise ball → AtNumbered 2 (handler ball).ways v rest →
    Leads (caught_at s handler (v.path ++ left)) v.path v.answer left rest
unfolding alt
handler-side s handler ball v rest left hh raised (numbers w q a e f) =
    let led = leads-numbered 2 done (handler ball) w q left hh a in
    let whole : alt (numbered 2 q) done ≡ rest = alt-done (numbered 2 q) ∙ sym f in
    let placed = subst (λ u. Leads (with_rest (2 ∷ []) done ((handler ball).follows (w.path ++ left))) (2 ∷ w.path) w.answer left u) whole led in
    let all = leads-exception s.ways (λ b. with_rest (2 ∷ []) done ((handler b).follows (w.path ++ left))) ball (2 ∷ w.path) w.answer left rest raised placed in
    subst (λ x. Leads (caught_at s handler (x.path ++ left)) x.path x.answer left rest) (sym e) all

catch-cases : {A : Type 0} (s : Search A) (handler : Tree → Search A) (v : Way A) (rest : Ways A) (left : List ℕ) → IsResumable s → ((ball : Tree) → IsResumable (handler ball)) →
    AtCaught (numbered 1 s.ways) (λ ball. numbered 2 (handler ball).ways) v rest → Leads (caught_at s handler (v.path ++ left)) v.path v.answer left rest
catch-cases s handler v rest left hs hh (in_goal r a e) = goal-side s handler v rest r left hs (at-numbered 1 s.ways v r a) e
catch-cases s handler v rest left hs hh (in_handler ball e a) = handler-side s handler ball v rest left (hh ball) (sym (numbered-end 1 s.ways) ∙ e) (at-numbered 2 (handler ball).ways v rest a)

pub catches_are_resumable : {A : Type 0} → CatchesAreResumable A
catches_are_resumable s handler hs hh v rest left a = catch-cases s handler v rest left hs hh (at-caught (numbered 1 s.ways) (λ ball. numbered 2 (handler ball).ways) v rest a)

-- ---- the rules of calls

-- an answer of what is chosen by a condition, and where what follows the condition leads then
data AtChosen {X A : Type 0} (t : Trace X) (f : X → Ways A) (u : Ways A) (v : Way A) (rest : Ways A) : Type 0 where
  where_true : (x : X) (r : Trace X) → At t x r → At (f x) v rest →
      ((g : X → Following A) (other : Following A) (path : List ℕ) (y : A) (left : List ℕ) (later : Ways A) → Leads (g x) path y left later → Leads (on_first t g other) path y left later) → AtChosen t f u v rest
  where_false : At u v rest →
      ((g : X → Following A) (other : Following A) (path : List ℕ) (y : A) (left : List ℕ) (later : Ways A) → Leads other path y left later → Leads (on_first t g other) path y left later) → AtChosen t f u v rest

note-chosen : {X A : Type 0} {t : Trace X} {f : X → Ways A} {u : Ways A} {v : Way A} {rest : Ways A} (n : Note) → AtChosen t f u v rest → AtChosen (note n t) f u v rest
unfolding on_first
note-chosen {t = t} n (where_true x r m a lead) = where_true x r (past_note n m) a (λ g other path y left later h. leads-passed n (on_first t g other) path y left later (lead g other path y left later h))
note-chosen {t = t} n (where_false a lead) = where_false a (λ g other path y left later h. leads-passed n (on_first t g other) path y left later (lead g other path y left later h))

at-chosen : {X A : Type 0} (t : Trace X) (f : X → Ways A) (u : Ways A) (v : Way A) (rest : Ways A) → At (chosen t f u) v rest → AtChosen t f u v rest
unfolding chosen Begun on_first
at-chosen (end Done) f u v rest a = where_false a (λ g other path y left later h. h)
at-chosen (end (Raise ball)) f u v rest a = absurd (begun a)
at-chosen (end (Abort ball)) f u v rest a = absurd (begun a)
at-chosen (end (Miss c)) f u v rest a = absurd (begun a)
at-chosen (end Deep) f u v rest a = absurd (begun a)
at-chosen (note n t) f u v rest a = note-chosen n (at-chosen t f u v rest (begun a))
at-chosen (ans x t) f u v rest a = where_true x t (at_first x t) a (λ g other path y left later h. h)

-- the rules behind one that applies
rules_behind : {X A : Type 0} (k : ℕ) (r : RuleSearch X A) (rs : List (RuleSearch X A)) (x : X) (v : Way A) (rest : Ways A) (left : List ℕ) (c : Bool) → r.committed ≡ c → At (rest_unless c (rules_ways (suc k) rs)) v rest →
    ((g : X → Following A) (other : Following A) (path : List ℕ) (y : A) (left : List ℕ) (later : Ways A) → Leads (g x) path y left later → Leads (on_first r.applies g other) path y left later) →
    (At (rules_ways (suc k) rs) v rest → TakenAt (rules_taken (suc k) rs) (suc k) v rest left) → TakenAt (rules_taken k (r ∷ rs)) k v rest left
unfolding rules_taken Begun
rules_behind k r rs x v rest left true e a lead later = absurd (begun a)
rules_behind k r rs x v rest left false e a lead later =
    let h : TakenAt (rules_taken (suc k) rs) (suc k) v rest left = later a in
    let there : Leads (bad_if r.committed (rules_taken (suc k) rs h.place (h.path ++ left))) v.path v.answer left rest =
    subst (λ (c : Bool). Leads (bad_if c (rules_taken (suc k) rs h.place (h.path ++ left))) v.path v.answer left rest) (sym e) h.leads in
    record {
      place = suc h.place;
      path = h.path;
      is = h.is ∙ ap (λ (n : ℕ). n ∷ h.path) (omega arith);
      leads = lead (λ z. bad_if r.committed (rules_taken (suc k) rs h.place (h.path ++ left))) (rules_taken (suc k) rs h.place (h.path ++ left)) v.path v.answer left rest there;
    }

-- the rule itself
rule_here : {X A : Type 0} (k : ℕ) (r : RuleSearch X A) (rs : List (RuleSearch X A)) (x : X) (v : Way A) (rest q : Ways A) (left : List ℕ) → IsResumable (r.body x) → AtNumbered k (r.body x).ways v q →
    rest ≡ alt q (rest_unless r.committed (rules_ways (suc k) rs)) →
    ((g : X → Following A) (other : Following A) (path : List ℕ) (y : A) (left : List ℕ) (later : Ways A) → Leads (g x) path y left later → Leads (on_first r.applies g other) path y left later) →
    TakenAt (rules_taken k (r ∷ rs)) k v rest left
unfolding rules_taken
rule_here k r rs x v rest q left hb (numbers w p a e f) g lead =
    let later : Ways _ = rest_unless r.committed (rules_ways (suc k) rs) in
    let led = leads-numbered k later (r.body x) w p left hb a in
    let whole : alt (numbered k p) later ≡ rest = ap (λ u. alt u later) (sym f) ∙ sym g in
    let placed = subst (λ u. Leads (with_rest (k ∷ []) later ((r.body x).follows (w.path ++ left))) (k ∷ w.path) w.answer left u) whole led in
    let here = subst (λ z. Leads (with_rest (k ∷ []) later ((r.body x).follows (w.path ++ left))) z.path z.answer left rest) (sym e) placed in
    record {
      place = 0;
      path = w.path;
      is = ap (λ z. z.path) e ∙ ap (λ (n : ℕ). n ∷ w.path) (omega arith);
      leads = lead (λ z. with_rest (k ∷ []) later ((r.body z).follows (w.path ++ left))) bad v.path v.answer left rest here;
    }

applied-cases : {X A : Type 0} (k : ℕ) (r : RuleSearch X A) (rs : List (RuleSearch X A)) (x : X) (v : Way A) (rest : Ways A) (left : List ℕ) → IsResumable (r.body x) →
    AtAlt (numbered k (r.body x).ways) (rest_unless r.committed (rules_ways (suc k) rs)) v rest →
    ((g : X → Following A) (other : Following A) (path : List ℕ) (y : A) (left : List ℕ) (later : Ways A) → Leads (g x) path y left later → Leads (on_first r.applies g other) path y left later) →
    (At (rules_ways (suc k) rs) v rest → TakenAt (rules_taken (suc k) rs) (suc k) v rest left) → TakenAt (rules_taken k (r ∷ rs)) k v rest left
applied-cases k r rs x v rest left hb (in_front q a e) lead later = rule_here k r rs x v rest q left hb (at-numbered k (r.body x).ways v q a) e lead
applied-cases k r rs x v rest left hb (in_behind a) lead later = rules_behind k r rs x v rest left r.committed refl a lead later

rule-cases : {X A : Type 0} (k : ℕ) (r : RuleSearch X A) (rs : List (RuleSearch X A)) (v : Way A) (rest : Ways A) (left : List ℕ) → ((x : X) (q : Trace X) → At r.applies x q → IsResumable (r.body x)) →
    AtChosen r.applies (λ x. alt (numbered k (r.body x).ways) (rest_unless r.committed (rules_ways (suc k) rs))) (rules_ways (suc k) rs) v rest →
    (At (rules_ways (suc k) rs) v rest → TakenAt (rules_taken (suc k) rs) (suc k) v rest left) → TakenAt (rules_taken k (r ∷ rs)) k v rest left
unfolding rules_taken
rule-cases k r rs v rest left hb (where_true x q m a lead) later =
    applied-cases k r rs x v rest left (hb x q m) (at-alt (numbered k (r.body x).ways) (rest_unless r.committed (rules_ways (suc k) rs)) v rest a) lead later
rule-cases k r rs v rest left hb (where_false a lead) later =
    let h : TakenAt (rules_taken (suc k) rs) (suc k) v rest left = later a in
    record {
      place = suc h.place;
      path = h.path;
      is = h.is ∙ ap (λ (n : ℕ). n ∷ h.path) (omega arith);
      leads = lead (λ z. bad_if r.committed (rules_taken (suc k) rs h.place (h.path ++ left))) (rules_taken (suc k) rs h.place (h.path ++ left)) v.path v.answer left rest h.leads;
    }

-- the bodies of rules resume from each answer of their conditions
unfoldable pub BodiesResume : {X A : Type 0} → List (RuleSearch X A) → Type 0
BodiesResume [] = Unit {0}
BodiesResume {X = X} (r ∷ rs) = ((x : X) (q : Trace X) → At r.applies x q → IsResumable (r.body x)) × BodiesResume rs

rules-taken : {X A : Type 0} (k : ℕ) (rs : List (RuleSearch X A)) (v : Way A) (rest : Ways A) (left : List ℕ) → BodiesResume rs → At (rules_ways k rs) v rest → TakenAt (rules_taken k rs) k v rest left
unfolding rules_ways BodiesResume Begun
rules-taken k [] v rest left all a = absurd (begun a)
rules-taken k (r ∷ rs) v rest left all a =
    rule-cases k r rs v rest left all.0 (at-chosen r.applies (λ x. alt (numbered k (r.body x).ways) (rest_unless r.committed (rules_ways (suc k) rs))) (rules_ways (suc k) rs) v rest a) (rules-taken (suc k) rs v rest left all.1)

pub rules-resume : {X A : Type 0} (rs : List (RuleSearch X A)) → BodiesResume rs → IsResumable (rules_search rs)
rules-resume rs all v rest left a =
    let h : TakenAt (rules_taken 1 rs) 1 v rest left = rules-taken 1 rs v rest left all a in
    let is : v.path ≡ suc h.place ∷ h.path = h.is ∙ ap (λ (n : ℕ). n ∷ h.path) (omega arith) in
    subst (λ (p : List ℕ). Leads ((rules_search rs).follows (p ++ left)) v.path v.answer left rest) (sym is) h.leads

any-resume : {X A : Type 0} (rs : List (RuleSearch X A)) → AllBodies rs → BodiesResume rs
unfolding AllBodies BodiesResume
any-resume [] all = tt
any-resume (r ∷ rs) all = (λ x q m. all.0 x, any-resume rs all.1)

pub rules_are_resumable : {X A : Type 0} → RulesAreResumable X A
rules_are_resumable rs all = rules-resume rs (any-resume rs all)

pub ticks_are_resumable : {A : Type 0} → TicksAreResumable A
unfolding Begun Leads
ticks_are_resumable s hs v rest left a = hs v rest left (begun a)

-- ---- conditions

condition-cases : {X A : Type 0} (t : Trace X) (f : X → Search A) (other : Search A) (v : Way A) (rest : Ways A) (left : List ℕ) → ((x : X) (q : Trace X) → At t x q → IsResumable (f x)) → IsResumable other →
    AtChosen t (λ x. (f x).ways) other.ways v rest → Leads ((chosen_search t f other).follows (v.path ++ left)) v.path v.answer left rest
condition-cases t f other v rest left hf ho (where_true x q m a lead) =
    lead (λ z. (f z).follows (v.path ++ left)) (other.follows (v.path ++ left)) v.path v.answer left rest (hf x q m v rest left a)
condition-cases t f other v rest left hf ho (where_false a lead) =
    lead (λ z. (f z).follows (v.path ++ left)) (other.follows (v.path ++ left)) v.path v.answer left rest (ho v rest left a)

pub conditions-resume : {X A : Type 0} (t : Trace X) (f : X → Search A) (other : Search A) → ((x : X) (q : Trace X) → At t x q → IsResumable (f x)) → IsResumable other →
    IsResumable (chosen_search t f other)
conditions-resume t f other hf ho v rest left a = condition-cases t f other v rest left hf ho (at-chosen t (λ x. (f x).ways) other.ways v rest a)

pub conditions_are_resumable : {X A : Type 0} → ConditionsAreResumable X A
conditions_are_resumable t f other hf ho = conditions-resume t f other (λ x q m. hf x) ho
