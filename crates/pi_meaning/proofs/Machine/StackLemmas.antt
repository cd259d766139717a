-- Lemmas on the stack: what reaches a level, what passes all of it.
use Rattle.std.proofs.Common.{◌≡◌, ℕ, zero, suc, List, [], ◌∷◌, ◌++◌, length, refl, ap, ◌∙◌}
use Rattle.std.specs.Prelude.{true, false, ⊤}
use Rattle.pi_terms.specs.Tree.{Tree}
use Rattle.pi_core.specs.GoalTree.{GoalTree}
use Rattle.pi_traces.specs.Trace.{Trace, note, Note, done, alt, then, first}
use Rattle.pi_traces.specs.Control.{negated, chosen, collected, counted, caught}
use Rattle.pi_meaning.specs.CoreMeaning.Builtins.{Builtins}
use Rattle.pi_meaning.specs.Shared.Level.{Level, Point}
use Rattle.pi_traces.proofs.TraceLemmas.{alt-assoc}
use Rattle.pi_meaning.specs.Machine.Configuration.{Back, Choice, Strict, once_level, not_level, if_level, guard_level, value_level, list_level, number_level, search_level, Entry, choice, strict, catch_level, left}
use Rattle.pi_meaning.specs.Machine.Remaining.{choice_trace, level_trace, catch_trace, around}
use Rattle.pi_meaning.specs.Machine.Step.{Open, none_open, strict_open, catch_open, beneath, newest_open}
use Rattle.pi_meaning.specs.Machine.Shape.{IsBalanced, open_level}

-- only choices and catches that were left, with so many marks above
unfoldable pub IsClosed : ℕ → List Entry → Type 0
IsClosed zero [] = ⊤
IsClosed (suc n) [] = ⊥
IsClosed n (choice c b ∷ es) = IsClosed n es
IsClosed n (strict s b ∷ es) = ⊥
IsClosed zero (catch_level ball handler b ∷ es) = ⊥
IsClosed (suc n) (catch_level ball handler b ∷ es) = IsClosed n es
IsClosed n (left ∷ es) = IsClosed (suc n) es

-- What lies above a level adds the same to each trace that reaches it.

abbrev pub Reach : Builtins → Level → List Entry → Trace Point → Type 0
Reach given l above x =
    (extra : Trace Point) × ((t : Trace Point) (outs : List (Trace Point)) (rest : List Entry) →
    around given l (above ++ rest) (alt t x) outs ≡ around given l rest (alt t extra) outs)

abbrev ReachBehind : Builtins → Level → List Entry → List (Trace Point) → Trace Point → Trace Point → Type 0
ReachBehind given l above os u x =
    (extra : Trace Point) × ((t : Trace Point) (outs : List (Trace Point)) (rest : List Entry) →
    around given l (above ++ rest) u (os ++ (alt t x ∷ outs)) ≡ around given l rest (alt t extra) outs)

mutual
  unfolding IsClosed around alt

  pub reach : (given : Builtins) (l : Level) (above : List Entry) → IsClosed 0 above → (x : Trace Point) → Reach given l above x
  reach given l [] h x = (x, λ t outs rest. refl)
  reach given l (choice c b ∷ es) h x =
      let r : Reach given l es (alt x (choice_trace given l c b)) = reach given l es h (alt x (choice_trace given l c b)) in
      (r.0, λ t outs rest. ap (λ u. around given l (es ++ rest) u outs) (alt-assoc t x (choice_trace given l c b)) ∙ r.1 t outs rest)
  reach given l (strict s b ∷ es) h x = absurd h
  reach given l (catch_level ball handler b ∷ es) h x = absurd h
  reach given l (left ∷ es) h x = reach-behind given l es [] h done x

  reach-behind : (given : Builtins) (l : Level) (above : List Entry) (os : List (Trace Point)) → IsClosed (suc (length os)) above → (u x : Trace Point) → ReachBehind given l above os u x
  reach-behind given l [] os h u x = absurd h
  reach-behind given l (choice c b ∷ es) os h u x = reach-behind given l es os h (alt u (choice_trace given l c b)) x
  reach-behind given l (strict s b ∷ es) os h u x = absurd h
  reach-behind given l (catch_level ball handler b ∷ es) [] h u x =
      let y : Trace Point = catch_trace given l ball handler b u in
      let r : Reach given l es (alt x y) = reach given l es h (alt x y) in
      (r.0, λ t outs rest. ap (λ w. around given l (es ++ rest) w outs) (alt-assoc t x y) ∙ r.1 t outs rest)
  reach-behind given l (catch_level ball handler b ∷ es) (o ∷ os) h u x = reach-behind given l es os h (alt o (catch_trace given l ball handler b u)) x
  reach-behind given l (left ∷ es) os h u x = reach-behind given l es (u ∷ os) h done x

-- A note passes the whole stack.

level-note : (given : Builtins) (l : Level) (s : Strict) (b : Back) (n : Note) (t : Trace Point) → level_trace given l s b (note n t) ≡ note n (level_trace given l s b t)
unfolding level_trace then first negated chosen collected counted
level-note given l once_level b n t = refl
level-note given l not_level b n t = refl
level-note given l (if_level g other) b n t = refl
level-note given l (guard_level call c cs) b n t = refl
level-note given l (value_level call into) b n t = refl
level-note given l (list_level k into got) b n t = refl
level-note given l (number_level into k) b n t = refl
level-note given l (search_level x true f) b n t = refl
level-note given l (search_level x false f) b n t = refl

catch-note : (given : Builtins) (l : Level) (ball : Tree) (handler : GoalTree) (b : Back) (n : Note) (t : Trace Point) → catch_trace given l ball handler b (note n t) ≡ note n (catch_trace given l ball handler b t)
unfolding catch_trace then caught
catch-note given l ball handler b n t = refl

mutual
  unfolding IsBalanced around alt

  pub note-passes : (given : Builtins) (l : Level) (es : List Entry) → IsBalanced 0 es → (n : Note) (t : Trace Point) → around given l es (note n t) [] ≡ note n (around given l es t [])
  note-passes given l [] h n t = refl
  note-passes given l (choice c b ∷ es) h n t = note-passes given l es h n (alt t (choice_trace given l c b))
  note-passes given l (strict s b ∷ es) h n t =
      ap (λ u. around given l es u []) (level-note given l s b n t) ∙ note-passes given l es h n (level_trace given l s b t)
  note-passes given l (catch_level ball handler b ∷ es) h n t =
      ap (λ u. around given l es u []) (catch-note given l ball handler b n t) ∙ note-passes given l es h n (catch_trace given l ball handler b t)
  note-passes given l (left ∷ es) h n t = note-passes-behind given l es [] h done n t

  note-passes-behind : (given : Builtins) (l : Level) (es : List Entry) (os : List (Trace Point)) → IsBalanced (suc (length os)) es → (u : Trace Point) (n : Note) (t : Trace Point) →
      around given l es u (os ++ note n t ∷ []) ≡ note n (around given l es u (os ++ t ∷ []))
  note-passes-behind given l [] os h u n t = absurd h
  note-passes-behind given l (choice c b ∷ es) os h u n t = note-passes-behind given l es os h (alt u (choice_trace given l c b)) n t
  note-passes-behind given l (strict s b ∷ es) os h u n t = absurd h
  note-passes-behind given l (catch_level ball handler b ∷ es) [] h u n t = note-passes given l es h n (alt t (catch_trace given l ball handler b u))
  note-passes-behind given l (catch_level ball handler b ∷ es) (o ∷ os) h u n t = note-passes-behind given l es os h (alt o (catch_trace given l ball handler b u)) n t
  note-passes-behind given l (left ∷ es) os h u n t = note-passes-behind given l es (u ∷ os) h done n t

-- Where nothing waits outside of the outermost catch that was left, it is as if it had not been left.
pub exit-passes : (given : Builtins) (l : Level) (es : List Entry) (u : Trace Point) (os : List (Trace Point)) → around given l es u (os ++ done ∷ []) ≡ around given l es u os
unfolding around alt
exit-passes given l [] u os = refl
exit-passes given l (choice c b ∷ es) u os = exit-passes given l es (alt u (choice_trace given l c b)) os
exit-passes given l (strict s b ∷ es) u os = exit-passes given l es (level_trace given l s b u) os
exit-passes given l (catch_level ball handler b ∷ es) u [] = refl
exit-passes given l (catch_level ball handler b ∷ es) u (o ∷ os) = exit-passes given l es (alt o (catch_trace given l ball handler b u)) os
exit-passes given l (left ∷ es) u os = exit-passes given l es done (u ∷ os)

-- The newest open level of a stack

-- the stack is what an open level was found in
unfoldable pub IsFound : ℕ → List Entry → Open → Type 0
IsFound n es none_open = IsBalanced n es → IsClosed n es
IsFound n es (strict_open above s b below) = (es ≡ above ++ strict s b ∷ below) × (IsBalanced n es → IsClosed n above)
IsFound n es (catch_open above ball handler b below) = (es ≡ above ++ catch_level ball handler b ∷ below) × (IsBalanced n es → IsClosed n above)

found-choice : (n : ℕ) (c : Choice) (b : Back) (es : List Entry) (o : Open) → IsFound n es o → IsFound n (choice c b ∷ es) (beneath (choice c b) o)
unfolding IsFound IsBalanced IsClosed
found-choice n c b es none_open h = h
found-choice n c b es (strict_open above s d below) h = (ap (λ xs. choice c b ∷ xs) h.0, h.1)
found-choice n c b es (catch_open above ball handler d below) h = (ap (λ xs. choice c b ∷ xs) h.0, h.1)

found-left : (n : ℕ) (es : List Entry) (o : Open) → IsFound (suc n) es o → IsFound n (left ∷ es) (beneath left o)
unfolding IsFound IsBalanced IsClosed
found-left n es none_open h = h
found-left n es (strict_open above s d below) h = (ap (λ xs. left ∷ xs) h.0, h.1)
found-left n es (catch_open above ball handler d below) h = (ap (λ xs. left ∷ xs) h.0, h.1)

found-catch : (n : ℕ) (ball : Tree) (handler : GoalTree) (b : Back) (es : List Entry) (o : Open) → IsFound n es o →
    IsFound (suc n) (catch_level ball handler b ∷ es) (beneath (catch_level ball handler b) o)
unfolding IsFound IsBalanced IsClosed
found-catch n ball handler b es none_open h = h
found-catch n ball handler b es (strict_open above s d below) h = (ap (λ xs. catch_level ball handler b ∷ xs) h.0, h.1)
found-catch n ball handler b es (catch_open above t g d below) h = (ap (λ xs. catch_level ball handler b ∷ xs) h.0, h.1)

found-strict : (n : ℕ) (s : Strict) (b : Back) (es : List Entry) (o : Open) → IsFound (suc n) es o → IsFound (suc n) (strict s b ∷ es) (beneath (strict s b) o)
unfolding IsFound IsBalanced IsClosed
found-strict n s b es none_open h = λ x. x
found-strict n s b es (strict_open above t d below) h = (ap (λ xs. strict s b ∷ xs) h.0, λ x. x)
found-strict n s b es (catch_open above ball handler d below) h = (ap (λ xs. strict s b ∷ xs) h.0, λ x. x)

pub newest-found : (n : ℕ) (es : List Entry) → IsFound n es (newest_open n es)
unfolding IsFound newest_open IsBalanced IsClosed
newest-found zero [] = λ h. h
newest-found (suc n) [] = λ h. h
newest-found n (choice c b ∷ es) = found-choice n c b es (newest_open n es) (newest-found n es)
newest-found zero (strict s b ∷ es) = (refl, λ h. tt)
newest-found (suc n) (strict s b ∷ es) = found-strict n s b es (newest_open (suc n) es) (newest-found (suc n) es)
newest-found zero (catch_level ball handler b ∷ es) = (refl, λ h. tt)
newest-found (suc n) (catch_level ball handler b ∷ es) = found-catch n ball handler b es (newest_open n es) (newest-found n es)
newest-found n (left ∷ es) = found-left n es (newest_open (suc n) es) (newest-found (suc n) es)

-- ---- the number of the newest open level

-- the number that an open level has
abbrev pub number_of : Open → ℕ
number_of none_open = 0
number_of (strict_open above level b below) = suc (length below)
number_of (catch_open above ball handler b below) = suc (length below)

number-beneath : (x : Entry) (o : Open) → number_of (beneath x o) ≡ number_of o
number-beneath x none_open = refl
number-beneath x (strict_open above level b below) = refl
number-beneath x (catch_open above ball handler b below) = refl

pub newest-number : (n : ℕ) (es : List Entry) → number_of (newest_open n es) ≡ open_level n es
unfolding newest_open open_level
newest-number zero [] = refl
newest-number (suc n) [] = refl
newest-number n (choice c b ∷ es) = number-beneath (choice c b) (newest_open n es) ∙ newest-number n es
newest-number zero (strict s b ∷ es) = refl
newest-number (suc n) (strict s b ∷ es) = number-beneath (strict s b) (newest_open (suc n) es) ∙ newest-number (suc n) es
newest-number zero (catch_level ball handler b ∷ es) = refl
newest-number (suc n) (catch_level ball handler b ∷ es) = number-beneath (catch_level ball handler b) (newest_open n es) ∙ newest-number n es
newest-number n (left ∷ es) = number-beneath left (newest_open (suc n) es) ∙ newest-number (suc n) es
