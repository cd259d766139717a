-- Continuations over pushes and cuts of frames.
use Rattle.std.proofs.Common.{◌≡◌, ℕ, suc, ◌+◌, ◌≤◌, ◌<◌, List, [], ◌∷◌, ◌++◌, Some, length, take, drop, get_or, refl, sym, ◌∙◌, ap, arith}
use Rattle.std.specs.Prelude.{slice_get}
use Rattle.std.proofs.lemmas.List.{length-append, length-take, take-append-drop, get_or_append_left, get_or-append-add}
use Rattle.std.proofs.lemmas.Option.{slice_get_within, get_or_from_slice_get, gets}
use Rattle.std.proofs.Math.Seq.{take-suc}
use Rattle.std.proofs.lemmas.Grind.{common_steps}
use Rattle.pi_engine_arenas.specs.declared.frames.Point.{Point}
use Rattle.pi_engine_arenas.specs.Frames.{Rest, rest_of, continuations, continuation, IsOrdered}

abbrev Conts : Type 0
Conts = List (List Rest)

-- one more continuation
abbrev more : Conts → Point → Conts
more earlier p = earlier ++ (rest_of p ∷ get_or earlier p.frame []) ∷ []

pub continuations-append : (earlier : Conts) (ps qs : List Point) → continuations earlier (ps ++ qs) ≡ continuations (continuations earlier ps) qs
unfolding continuations
continuations-append earlier [] qs = refl
continuations-append earlier (p ∷ ps) qs = continuations-append (more earlier p) ps qs

pub length-continuations : (earlier : Conts) (ps : List Point) → length (continuations earlier ps) ≡ length earlier + length ps
unfolding continuations
length-continuations earlier [] = omega arith
length-continuations earlier (p ∷ ps) =
    length-continuations (more earlier p) ps ∙ omega (arith, length-append earlier ((rest_of p ∷ get_or earlier p.frame []) ∷ []))

-- earlier ones stay
pub continuations-earlier : (earlier : Conts) (ps : List Point) (n : ℕ) → n < length earlier → get_or (continuations earlier ps) n [] ≡ get_or earlier n []
unfolding continuations
continuations-earlier earlier [] n h = refl
continuations-earlier earlier (p ∷ ps) n h =
    continuations-earlier (more earlier p) ps n (omega (arith, length-append earlier ((rest_of p ∷ get_or earlier p.frame []) ∷ [])))
    ∙ get_or_append_left earlier ((rest_of p ∷ get_or earlier p.frame []) ∷ []) [] n h

-- the frames from some number on say nothing of those before
pub continuation-front : (fs gs : List Point) (n : ℕ) → n ≤ length fs → continuation (fs ++ gs) n ≡ continuation fs n
unfolding continuation
continuation-front fs gs n h =
    ap (λ c. get_or c n []) (continuations-append ([] ∷ []) fs gs)
    ∙ continuations-earlier (continuations ([] ∷ []) fs) gs n (omega (arith, length-continuations ([] ∷ []) fs))

-- a frame that is pushed
pub continuation-push : (fs : List Point) (p : Point) → continuation (fs ++ p ∷ []) (suc (length fs)) ≡ rest_of p ∷ continuation fs p.frame
unfolding continuation continuations
continuation-push fs p =
    let here : length (continuations ([] ∷ []) fs) + 0 ≡ suc (length fs) = omega (arith, length-continuations ([] ∷ []) fs) in
    ap (λ c. get_or c (suc (length fs)) []) (continuations-append ([] ∷ []) fs (p ∷ []))
    ∙ ap (λ k. get_or (more (continuations ([] ∷ []) fs) p) k []) (sym here)
    ∙ get_or-append-add (continuations ([] ∷ []) fs) ((rest_of p ∷ get_or (continuations ([] ∷ []) fs) p.frame []) ∷ []) 0 []

-- frames that are cut
pub continuation-take : (fs : List Point) (k n : ℕ) → n ≤ k → k ≤ length fs → continuation (take k fs) n ≡ continuation fs n
continuation-take fs k n h within =
    sym (continuation-front (take k fs) (drop k fs) n (omega (arith, length-take k fs)))
    ∙ ap (λ r. continuation r n) (take-append-drop k fs)

-- a frame's continuation is its goals, and then that of the frame that it goes on with
pub continuation-get : (fs : List Point) (i : ℕ) (p : Point) → IsOrdered fs → slice_get fs i ≡ Some p → continuation fs (suc i) ≡ rest_of p ∷ continuation fs p.frame
continuation-get fs i p ordered at =
    let within : i < length fs = slice_get_within fs i p at in
    let few : length (take i fs) ≡ i = omega (arith, length-take i fs) in
    let front : take (suc i) fs ≡ take i fs ++ p ∷ [] =
    take-suc fs i p within ∙ ap (λ q. take i fs ++ q ∷ []) (get_or_from_slice_get fs i p p at) in
    sym (continuation-take fs (suc i) (suc i) (omega arith) (omega arith))
    ∙ ap (λ r. continuation r (suc i)) front
    ∙ ap (λ k. continuation (take i fs ++ p ∷ []) (suc k)) (sym few)
    ∙ continuation-push (take i fs) p
    ∙ ap (λ r. rest_of p ∷ r) (continuation-take fs i p.frame (ordered i p at) (omega arith))

pub ordered-none : IsOrdered []
ordered-none i p at = grind (arith, common_steps, gets)

pub ordered-push : (fs : List Point) (p : Point) → IsOrdered fs → p.frame ≤ length fs → IsOrdered (fs ++ p ∷ [])
ordered-push fs p ordered h i q at = grind (arith, common_steps, gets)

pub ordered-take : (fs : List Point) (k : ℕ) → IsOrdered fs → IsOrdered (take k fs)
ordered-take fs k ordered i q at = grind (arith, common_steps, gets)
