-- Resumed runs lead where they are to.
use Rattle.std.specs.Prelude.{◌≡◌, ◌⊎◌, ℕ, List, ◌++◌, refl}
use Rattle.std.proofs.Common.{sym, ◌∙◌, ap, subst, inl, inr, append_assoc}
use Rattle.pi_traces.specs.Trace.{Trace, end, note, ans, Done, Raise, Abort, Miss, Deep, Note, done, one, alt, then}
use Rattle.pi_resume_spec.specs.Ways.{Way, Ways, behind, followed_by}
use Rattle.pi_resume_spec.specs.Resumed.{Following, on_way, reached, cut_off, bad, Search, with_rest, follows_then, sequence, At, at_first, past_note, past_answer, Leads, IsResumable}
use Rattle.pi_resume_spec.specs.PathLaws.{SequencesAreResumable}

-- ---- answers of traces that are put together

-- an answer of a trace, or of the one behind it
pub data AtAlt {A : Type 0} (t u : Trace A) (x : A) (rest : Trace A) : Type 0 where
  in_front : (r : Trace A) → At t x r → rest ≡ alt r u → AtAlt t u x rest
  in_behind : At u x rest → AtAlt t u x rest

note-alt : {A : Type 0} {t u : Trace A} {x : A} {rest : Trace A} (n : Note) → AtAlt t u x rest → AtAlt (note n t) u x rest
note-alt n (in_front r a e) = in_front r (past_note n a) e
note-alt n (in_behind a) = in_behind a

answer-alt : {A : Type 0} {t u : Trace A} {x : A} {rest : Trace A} (y : A) → AtAlt t u x rest → AtAlt (ans y t) u x rest
answer-alt y (in_front r a e) = in_front r (past_answer y a) e
answer-alt y (in_behind a) = in_behind a

-- what an answer of a trace is, by what the trace begins with
unfoldable pub Begun : {A : Type 0} → Trace A → A → Trace A → Type 0
Begun (end e) x rest = ⊥
Begun (note n t) x rest = At t x rest
Begun (ans y t) x rest = ((x ≡ y) × (rest ≡ t)) ⊎ At t x rest

pub begun : {A : Type 0} {t : Trace A} {x : A} {rest : Trace A} → At t x rest → Begun t x rest
unfolding Begun
begun (at_first x t) = inl (refl, refl)
begun (past_note n a) = a
begun (past_answer y a) = inr a

pub at-alt : {A : Type 0} (t u : Trace A) (x : A) (rest : Trace A) → At (alt t u) x rest → AtAlt t u x rest
unfolding alt Begun
at-alt (end Done) u x rest a = in_behind a
at-alt (end (Raise ball)) u x rest a = absurd (begun a)
at-alt (end (Abort ball)) u x rest a = absurd (begun a)
at-alt (end (Miss c)) u x rest a = absurd (begun a)
at-alt (end Deep) u x rest a = absurd (begun a)
at-alt (note n t) u x rest a = note-alt n (at-alt t u x rest (begun a))
at-alt (ans y t) u x rest a = elim (begun a) [
  | inl (e, f) ↦ in_front t (subst (λ z. At (ans y t) z t) (sym e) (at_first y t)) f
  | inr b ↦ answer-alt y (at-alt t u x rest b)
]

-- an answer of what follows an answer
pub data AtThen {A B : Type 0} (t : Trace A) (f : A → Trace B) (v : B) (rest : Trace B) : Type 0 where
  through : (w : A) (r : Trace A) (q : Trace B) → At t w r → At (f w) v q → rest ≡ alt q (then r f) → AtThen t f v rest

note-then : {A B : Type 0} {t : Trace A} {f : A → Trace B} {v : B} {rest : Trace B} (n : Note) → AtThen t f v rest → AtThen (note n t) f v rest
note-then n (through w r q a b e) = through w r q (past_note n a) b e

answer-then : {A B : Type 0} {t : Trace A} {f : A → Trace B} {v : B} {rest : Trace B} (y : A) → AtThen t f v rest → AtThen (ans y t) f v rest
answer-then y (through w r q a b e) = through w r q (past_answer y a) b e

first-then : {A B : Type 0} (w : A) (t : Trace A) (f : A → Trace B) (v : B) (rest : Trace B) → AtAlt (f w) (then t f) v rest → (At (then t f) v rest → AtThen t f v rest) → AtThen (ans w t) f v rest
first-then w t f v rest (in_front r a e) later = through w t r (at_first w t) a e
first-then w t f v rest (in_behind a) later = answer-then w (later a)

pub at-then : {A B : Type 0} (t : Trace A) (f : A → Trace B) (v : B) (rest : Trace B) → At (then t f) v rest → AtThen t f v rest
unfolding then Begun
at-then (end e) f v rest a = absurd (begun a)
at-then (note n t) f v rest a = note-then n (at-then t f v rest (begun a))
at-then (ans w t) f v rest a = first-then w t f v rest (at-alt (f w) (then t f) v rest a) (at-then t f v rest)

pub at-one : {A : Type 0} (x y : A) (rest : Trace A) → At (one x) y rest → (y ≡ x) × (rest ≡ done)
unfolding Begun
at-one x y rest a = elim (begun a) [ inl p ↦ p | inr b ↦ absurd (begun b) ]

-- ---- where following leads

abbrev pub onward : {A : Type 0} → List ℕ → Ways A → Ways A
onward made t = then t (λ w. one (behind made w))

pub leads-rest : {A : Type 0} (made : List ℕ) (rest : Ways A) (f : Following A) (path : List ℕ) (x : A) (left : List ℕ) (later : Ways A) →
    Leads f path x left later → Leads (with_rest made rest f) (made ++ path) x left (alt (onward made later) rest)
unfolding Leads with_rest
leads-rest made rest (on_way n f) path x left later h = leads-rest made rest f path x left later h
leads-rest made rest (reached choices y more behind_it) path x left later h =
    (ap (λ (p : List ℕ). made ++ p) h.0, h.1, h.2, ap (λ t. alt (onward made t) rest) h.3)
leads-rest made rest (cut_off e) path x left later h = absurd h
leads-rest made rest bad path x left later h = absurd h

leads-then : {A B : Type 0} (g : A → Search B) (f : Following A) (p : List ℕ) (w : A) (q : List ℕ) (r : Ways A) (path : List ℕ) (y : B) (left : List ℕ) (later : Ways B) →
    Leads f p w q r → Leads ((g w).follows q) path y left later → Leads (follows_then f g) (p ++ path) y left (alt (onward p later) (followed_by r (λ x. (g x).ways)))
unfolding Leads follows_then
leads-then g (on_way n f) p w q r path y left later h k = leads-then g f p w q r path y left later h k
leads-then g (reached made x more behind_it) p w q r path y left later h k =
    let there : Leads ((g x).follows more) path y left later = subst (λ z. Leads ((g z).follows more) path y left later) (sym h.1) (subst (λ (l : List ℕ). Leads ((g w).follows l) path y left later) (sym h.2) k) in
    let all = leads-rest made (followed_by behind_it (λ z. (g z).ways)) ((g x).follows more) path y left later there in
    subst (λ t. Leads (with_rest made (followed_by behind_it (λ z. (g z).ways)) ((g x).follows more)) (p ++ path) y left (alt (onward p later) (followed_by t (λ z. (g z).ways)))) h.3
    (subst (λ (m : List ℕ). Leads (with_rest made (followed_by behind_it (λ z. (g z).ways)) ((g x).follows more)) (m ++ path) y left (alt (onward m later) (followed_by behind_it (λ z. (g z).ways)))) h.0 all)
leads-then g (cut_off e) p w q r path y left later h k = absurd h
leads-then g bad p w q r path y left later h k = absurd h

-- ---- sequences

abbrev ways_from : {A B : Type 0} → (A → Search B) → Way A → Ways B
ways_from g w = onward w.path (g w.answer).ways

sequence-at : {A B : Type 0} (s : Search A) (g : A → Search B) → IsResumable s → ((w : Way A) (r : Ways A) → At s.ways w r → IsResumable (g w.answer)) → (v : Way B) (rest : Ways B) (left : List ℕ) →
    AtThen s.ways (ways_from g) v rest → Leads ((sequence s g).follows (v.path ++ left)) v.path v.answer left rest
unfolding then alt
sequence-at s g hs hg v rest left (through w r q a b e) = inner s g hs hg v rest left w r q a e (at-then (g w.answer).ways (λ u. one (behind w.path u)) v q b)
  where
    inner : {A B : Type 0} (s : Search A) (g : A → Search B) → IsResumable s → ((w : Way A) (r : Ways A) → At s.ways w r → IsResumable (g w.answer)) → (v : Way B) (rest : Ways B) (left : List ℕ) (w : Way A) (r : Ways A) (q : Ways B) → At s.ways w r →
        rest ≡ alt q (then r (ways_from g)) → AtThen (g w.answer).ways (λ u. one (behind w.path u)) v q → Leads ((sequence s g).follows (v.path ++ left)) v.path v.answer left rest
    inner s g hs hg v rest left w r q a e (through u t z c d f) =
        let is = at-one (behind w.path u) v z d in
        let whole : alt (onward w.path t) (then r (ways_from g)) ≡ rest = ap (λ k. alt (alt k (onward w.path t)) (then r (ways_from g))) (sym is.1) ∙ (ap (λ k. alt k (then r (ways_from g))) (sym f) ∙ sym e) in
        let led = leads-then g (s.follows (w.path ++ (u.path ++ left))) w.path w.answer (u.path ++ left) r u.path u.answer left t (hs w r (u.path ++ left) a) (hg w r a u t left c) in
        let placed = subst (λ (l : List ℕ). Leads (follows_then (s.follows l) g) (w.path ++ u.path) u.answer left (alt (onward w.path t) (then r (ways_from g)))) (sym (append_assoc w.path u.path left)) led in
        let behind_it = subst (λ k. Leads (follows_then (s.follows ((w.path ++ u.path) ++ left)) g) (w.path ++ u.path) u.answer left k) whole placed in
        subst (λ k. Leads (follows_then (s.follows (k.path ++ left)) g) k.path k.answer left rest) (sym is.0) behind_it

-- where what follows resumes from each answer that there is
pub sequences-resume : {A B : Type 0} (s : Search A) (g : A → Search B) → IsResumable s → ((w : Way A) (r : Ways A) → At s.ways w r → IsResumable (g w.answer)) → IsResumable (sequence s g)
sequences-resume s g hs hg v rest left a = sequence-at s g hs hg v rest left (at-then s.ways (ways_from g) v rest a)

pub sequences_are_resumable : {A B : Type 0} → SequencesAreResumable A B
sequences_are_resumable s g hs hg = sequences-resume s g hs (λ w r a. hg w.answer)
