-- Texts that are handed over one after the other, and a text in pieces.
use Rattle.std.proofs.Common.{◌≡◌, ◌<◌, ◌≤◌, ℕ, zero, suc, ◌+◌, List, [], ◌∷◌, ◌++◌, length, get_or, take, drop, refl, sym, subst, ap, ◌∙◌, arith, add-one, append_assoc}
use Rattle.std.proofs.lemmas.List.{append-nil, take_all}
use Rattle.std.proofs.Math.Seq.{drop-drop}
use Rattle.pi_outside.specs.Writes.{SinkWrite}
use Rattle.pi_top.specs.Handing.{takes_of, Hands, took, Fails, fails_behind, HandsAll, none, one_more, FailsIn}

-- ---- a text in pieces

-- What is left of a text, once it is handed over, makes the handing over of the whole, behind these writes; and so does its failure.
pub record GoesOn (text rest : List ℕ) (writes : List SinkWrite) : Type 0 where
  pub hands : (more : List SinkWrite) → Hands rest more → Hands text (writes ++ more)
  pub fails : (more : List SinkWrite) → Fails rest more → Fails text (writes ++ more)

pub goes-on-start : (text : List ℕ) → GoesOn text text []
goes-on-start text = record { hands = λ more is. is; fails = λ more is. is }

-- one write more
pub goes-on-more : (text : List ℕ) (at count : ℕ) (writes : List SinkWrite) → 0 < count → count ≤ length (drop at text) → GoesOn text (drop at text) writes →
    GoesOn text (drop (at + count) text) (writes ++ takes_of (drop at text) count ∷ [])
goes-on-more text at count writes some within goes =
    let rest : List ℕ = drop at text in
    let same : drop (at + count) text ≡ drop count rest = sym (drop-drop count at text) in
    record {
      hands = λ more is. rw append_assoc (goes.hands (takes_of rest count ∷ more) (took rest count more some within (subst (λ (l : List ℕ). Hands l more) same is)));
      fails = λ more is. rw append_assoc (goes.fails (takes_of rest count ∷ more) (fails_behind rest count more some within (subst (λ (l : List ℕ). Fails l more) same is)));
    }

-- ---- one text after the other

pub hands-then : (texts others : List (List ℕ)) (first second : List SinkWrite) → HandsAll texts first → HandsAll others second → HandsAll (texts ++ others) (first ++ second)
hands-then texts others first second none more = more
hands-then texts others first second (one_more text rest its behind hands all) more =
    rw append_assoc (one_more text (rest ++ others) its (behind ++ second) hands (hands-then rest others behind second all more))

pub hands-one : (text : List ℕ) (writes : List SinkWrite) → Hands text writes → HandsAll (text ∷ []) writes
hands-one text writes is = subst (HandsAll (text ∷ [])) (append-nil writes) (one_more text [] writes [] is none)

pub fails-one : (text : List ℕ) (writes : List SinkWrite) → Fails text writes → FailsIn [] (text ∷ []) writes
fails-one text writes is = record { front = []; text = text; rest = []; are = refl; earlier = []; last = writes; all = refl; handed = none; fails = is }

-- behind texts that were handed over before
pub fails-then : (done texts : List (List ℕ)) (first second : List SinkWrite) → HandsAll done first → FailsIn [] texts second → FailsIn done texts (first ++ second)
fails-then done texts first second handed is = record {
  front = is.front;
  text = is.text;
  rest = is.rest;
  are = is.are;
  earlier = first ++ is.earlier;
  last = is.last;
  all = ap (λ l. first ++ l) is.all ∙ sym (append_assoc first is.earlier is.last);
  handed = hands-then done is.front first is.earlier handed is.handed;
  fails = is.fails;
}

-- ---- the lines of a list, by an index

lines-more : (lines : List (List ℕ)) (i : ℕ) (line : List ℕ) → i < length lines → line ≡ get_or lines i line → take (suc i) lines ≡ take i lines ++ line ∷ []
lines-more [] i line less is = absurd (omega (arith, less))
lines-more (x ∷ lines) zero line less is = ap (λ l. l ∷ []) (sym is)
lines-more (x ∷ lines) (suc i) line less is = ap (λ l. x ∷ l) (lines-more lines i line (omega (arith, less)) is)

lines-split : (lines : List (List ℕ)) (i : ℕ) (line : List ℕ) → i < length lines → line ≡ get_or lines i line → lines ≡ take i lines ++ line ∷ drop (suc i) lines
lines-split [] i line less is = absurd (omega (arith, less))
lines-split (x ∷ lines) zero line less is = ap (λ l. l ∷ lines) (sym is)
lines-split (x ∷ lines) (suc i) line less is = ap (λ l. x ∷ l) (lines-split lines i line (omega (arith, less)) is)

-- one line more
pub line-then : (lines : List (List ℕ)) (i : ℕ) (line : List ℕ) (first second : List SinkWrite) → i < length lines → line ≡ get_or lines i line →
    HandsAll (take i lines) first → Hands line second → HandsAll (take (i + 1) lines) (first ++ second)
line-then lines i line first second less is handed hands =
    rw (add-one, lines-more lines i line less is) (hands-then (take i lines) (line ∷ []) first second handed (hands-one line second hands))

-- the write of one line more fails
pub line-cut : (lines : List (List ℕ)) (i : ℕ) (line : List ℕ) (first second : List SinkWrite) → i < length lines → line ≡ get_or lines i line →
    HandsAll (take i lines) first → Fails line second → FailsIn [] lines (first ++ second)
line-cut lines i line first second less is handed fails = record {
  front = take i lines;
  text = line;
  rest = drop (suc i) lines;
  are = lines-split lines i line less is;
  earlier = first;
  last = second;
  all = refl;
  handed = handed;
  fails = fails;
}

pub all-lines : (lines : List (List ℕ)) (i : ℕ) (writes : List SinkWrite) → length lines ≤ i → HandsAll (take i lines) writes → HandsAll lines writes
all-lines lines i writes all handed = rw (take_all i lines all) at handed
