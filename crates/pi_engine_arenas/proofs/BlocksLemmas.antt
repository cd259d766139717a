-- What a mark of the blocks brings back, over writes, pushes and cuts.
use Rattle.std.proofs.Common.{◌≡◌, ℕ, ◌+◌, ◌-◌, ◌≤◌, ◌<◌, List, [], ◌∷◌, ◌++◌, Option, Some, length, take, drop, set, get_or, min, refl, sym, ◌∙◌, ap, subst, map, replicate, append_assoc, arith}
use Rattle.std.proofs.lemmas.List.{take-set-le, set-get_or, take-append-le, drop-append-le, take-append-drop, length-take, length-set, length-append, set_past, drop_all, map-append, take_more, append-nil, take_all}
use Rattle.pi_constraints.specs.declared.store.Ref.{Ref}
use Rattle.pi_engine_arenas.specs.declared.blocks.Written.{Written}
use Rattle.pi_engine_arenas.specs.declared.blocks.BlocksMark.{BlocksMark}
use Rattle.pi_terms.proofs.ListLemmas.{take-set, set-set, take-take}
use Rattle.pi_engine_arenas.specs.Blocks.{BlocksView, slots_before, brought_back, IsKept, KeepsBlocks, IsOlder}

abbrev Slots : Type 0
Slots = List (Option Ref)

-- ---- slots that are added

pub one_more : (start before after xs : Slots) (i : ℕ) (d : Option Ref) → i < length xs → before ≡ start ++ take i xs → after ≡ before ++ get_or xs i d ∷ [] → after ≡ start ++ take (i + 1) xs
one_more start before after xs i d h was is =
    is ∙ ap (λ r. r ++ get_or xs i d ∷ []) was ∙ append_assoc start (take i xs) (get_or xs i d ∷ []) ∙ ap (λ r. start ++ r) (sym (take_more xs i d h))

pub one_more_filled : (start before after : Slots) (xs : List Ref) (i : ℕ) (d : Ref) → i < length xs → before ≡ start ++ map (λ t. Some t) (take i xs) → after ≡ before ++ Some (get_or xs i d) ∷ [] → after ≡ start ++ map (λ t. Some t) (take (i + 1) xs)
one_more_filled start before after xs i d h was is =
    is ∙ ap (λ r. r ++ Some (get_or xs i d) ∷ []) was ∙ append_assoc start (map (λ t. Some t) (take i xs)) (Some (get_or xs i d) ∷ [])
    ∙ ap (λ r. start ++ r) (sym (map-append (λ t. Some t) (take i xs) (get_or xs i d ∷ [])) ∙ ap (λ r. map (λ t. Some t) r) (sym (take_more xs i d h)))

-- ---- writes that are taken back

pub slots_before-append : (us vs : List Written) (s : Slots) → slots_before (us ++ vs) s ≡ slots_before us (slots_before vs s)
unfolding slots_before
slots_before-append [] vs s = refl
slots_before-append (u ∷ us) vs s = ap (λ x. set x u.slot u.old) (slots_before-append us vs s)

pub slots_before-take : (n : ℕ) (ws : List Written) (s : Slots) → take n (slots_before ws s) ≡ slots_before ws (take n s)
unfolding slots_before
slots_before-take n [] s = refl
slots_before-take n (w ∷ ws) s = take-set n w.slot (slots_before ws s) w.old ∙ ap (λ x. set x w.slot w.old) (slots_before-take n ws s)

pub length-slots_before : (ws : List Written) (s : Slots) → length (slots_before ws s) ≡ length s
unfolding slots_before
length-slots_before [] s = refl
length-slots_before (w ∷ ws) s = length-set (slots_before ws s) w.slot w.old ∙ length-slots_before ws s

-- the newest write, taken back first
pub slots_before_last : (n : ℕ) (ws : List Written) (w : Written) (s : Slots) → n ≤ length ws → slots_before (drop n (ws ++ w ∷ [])) s ≡ slots_before (drop n ws) (set s w.slot w.old)
unfolding slots_before
slots_before_last n ws w s h =
    ap (λ r. slots_before r s) (drop-append-le n ws (w ∷ []) h) ∙ slots_before-append (drop n ws) (w ∷ []) s

-- one that was to no slot
pub slots_before_none : (n : ℕ) (ws : List Written) (w : Written) (s : Slots) → n ≤ length ws → length s ≤ w.slot → slots_before (drop n (ws ++ w ∷ [])) s ≡ slots_before (drop n ws) s
slots_before_none n ws w s h past = slots_before_last n ws w s h ∙ ap (λ r. slots_before (drop n ws) r) (set_past s w.slot w.old past)

-- what is put behind the first few
pub set-take-past : (n : ℕ) (s : Slots) (k : ℕ) (x : Option Ref) → n ≤ k → set (take n s) k x ≡ take n s
set-take-past n s k x past = sym (take-set n k s x) ∙ take-set-le n s k x past

-- ---- what a mark brings back

pub brought_back-by : (m : BlocksMark) (b : BlocksView) (s : Slots) (t : List Written) → b.slots ≡ s → b.trail ≡ t → brought_back m b ≡ slots_before (drop m.trail t) (take m.slots s)
unfolding brought_back
brought_back-by m b s t slots trail =
    ap (λ r. slots_before (drop m.trail b.trail) (take m.slots r)) slots ∙ ap (λ r. slots_before (drop m.trail r) (take m.slots s)) trail

pub brought_back-is : (m : BlocksMark) (b : BlocksView) → brought_back m b ≡ slots_before (drop m.trail b.trail) (take m.slots b.slots)
brought_back-is m b = brought_back-by m b b.slots b.trail refl refl

pub keeps_same : (b : BlocksView) → KeepsBlocks b b
keeps_same b m h = (h, refl)

pub keeps_then : (a b c : BlocksView) → KeepsBlocks a b → KeepsBlocks b c → KeepsBlocks a c
keeps_then a b c first second m h = ((second m (first m h).0).0, (second m (first m h).0).1 ∙ (first m h).1)

-- a write that is noted
pub keeps_noted : (old new : BlocksView) (k : ℕ) (x : Option Ref) (w : Written) → w.slot ≡ k → w.old ≡ get_or old.slots k w.old
    → new.slots ≡ set old.slots k x → new.trail ≡ old.trail ++ w ∷ [] → new.kept ≡ old.kept → KeepsBlocks old new
keeps_noted old new k x w at was slots trail kept m h =
    let as_many : length new.slots ≡ length old.slots = ap length slots ∙ length-set old.slots k x in
    let one_more : length new.trail ≡ length old.trail + 1 = ap length trail ∙ length-append old.trail (w ∷ []) in
    let before : Slots = take m.slots (set old.slots k x) in
    let undone : set before w.slot w.old ≡ take m.slots old.slots =
    ap (λ j. set before j w.old) at ∙ ap (λ r. set before k r) was
    ∙ sym (take-set m.slots k (set old.slots k x) (get_or old.slots k w.old))
    ∙ ap (λ r. take m.slots r) (set-set old.slots k x (get_or old.slots k w.old) ∙ set-get_or old.slots k w.old) in (
      record { within = omega arith; protected = omega arith; noted = omega arith },
      brought_back-by m new (set old.slots k x) (old.trail ++ w ∷ []) slots trail
          ∙ slots_before_last m.trail old.trail w before h.noted
          ∙ ap (λ r. slots_before (drop m.trail old.trail) r) undone
          ∙ sym (brought_back-is m old),
    )

-- a write to a slot that isn't protected
pub keeps_free : (old new : BlocksView) (k : ℕ) (x : Option Ref) → old.kept ≤ k
    → new.slots ≡ set old.slots k x → new.trail ≡ old.trail → new.kept ≡ old.kept → KeepsBlocks old new
keeps_free old new k x free slots trail kept m h =
    let as_many : length new.slots ≡ length old.slots = ap length slots ∙ length-set old.slots k x in
    let same : length new.trail ≡ length old.trail = ap length trail in (
      record { within = omega arith; protected = omega arith; noted = omega arith },
      brought_back-by m new (set old.slots k x) old.trail slots trail
          ∙ ap (λ r. slots_before (drop m.trail old.trail) r) (take-set-le m.slots old.slots k x (omega arith))
          ∙ sym (brought_back-is m old),
    )

-- more slots
pub keeps_more : (old new : BlocksView) (more : Slots)
    → new.slots ≡ old.slots ++ more → new.trail ≡ old.trail → new.kept ≡ old.kept → KeepsBlocks old new
keeps_more old new more slots trail kept m h =
    let longer : length new.slots ≡ length old.slots + length more = ap length slots ∙ length-append old.slots more in
    let same : length new.trail ≡ length old.trail = ap length trail in (
      record { within = omega arith; protected = omega arith; noted = omega arith },
      brought_back-by m new (old.slots ++ more) old.trail slots trail
          ∙ ap (λ r. slots_before (drop m.trail old.trail) r) (take-append-le m.slots old.slots more h.within)
          ∙ sym (brought_back-is m old),
    )

-- slots that stay
pub keeps_slots : (old new : BlocksView) → new.slots ≡ old.slots → new.trail ≡ old.trail → new.kept ≡ old.kept → KeepsBlocks old new
keeps_slots old new slots trail kept = keeps_more old new [] (slots ∙ sym (append-nil old.slots)) trail kept

-- empty slots up to an end
pub filled_up : (old new : Slots) (count end : ℕ) (d : Option Ref) → end ≡ length old + count → new ≡ take end old ++ replicate (end - length old) d → new ≡ old ++ replicate count d
filled_up old new count end d at is =
    is ∙ (ap (λ r. r ++ replicate (end - length old) d) (take_all end old (omega (arith, at))) ∙ ap (λ k. old ++ replicate k d) (let e : end - length old ≡ count = omega (arith, at) in e))

-- fewer slots, but not fewer than are protected
pub keeps_fewer : (old new : BlocksView) (n : ℕ) → old.kept ≤ n
    → new.slots ≡ take n old.slots → new.trail ≡ old.trail → new.kept ≡ old.kept → KeepsBlocks old new
keeps_fewer old new n free slots trail kept m h =
    let shorter : length new.slots ≡ min n (length old.slots) = ap length slots ∙ length-take n old.slots in
    let same : length new.trail ≡ length old.trail = ap length trail in (
      record { within = omega arith; protected = omega arith; noted = omega arith },
      brought_back-by m new (take n old.slots) old.trail slots trail
          ∙ ap (λ r. slots_before (drop m.trail old.trail) r) (take-take m.slots n old.slots (omega arith))
          ∙ sym (brought_back-is m old),
    )

-- a return to a good mark
pub cut_keeps : (old new : BlocksView) (n m : BlocksMark) → IsKept old n → IsKept old m → IsOlder m n
    → new.slots ≡ brought_back n old → new.trail ≡ take n.trail old.trail → new.kept ≡ old.kept → IsKept new m × (brought_back m new ≡ brought_back m old)
cut_keeps old new n m good h older slots trail kept =
    let fewer : length new.slots ≡ min n.slots (length old.slots) =
    ap length (slots ∙ brought_back-is n old) ∙ length-slots_before (drop n.trail old.trail) (take n.slots old.slots) ∙ length-take n.slots old.slots in
    let shorter : length new.trail ≡ min n.trail (length old.trail) = ap length trail ∙ length-take n.trail old.trail in
    let here : m.trail ≤ length (take n.trail old.trail) = subst (λ k. m.trail ≤ k) (sym (length-take n.trail old.trail)) (omega arith) in
    let rest : drop m.trail (take n.trail old.trail) ++ drop n.trail old.trail ≡ drop m.trail old.trail =
    sym (drop-append-le m.trail (take n.trail old.trail) (drop n.trail old.trail) here)
    ∙ ap (λ r. drop m.trail r) (take-append-drop n.trail old.trail) in (
      record { within = omega arith; protected = omega arith; noted = omega arith },
      brought_back-by m new (slots_before (drop n.trail old.trail) (take n.slots old.slots)) (take n.trail old.trail) (slots ∙ brought_back-is n old) trail
          ∙ ap (λ r. slots_before (drop m.trail (take n.trail old.trail)) r)
          (slots_before-take m.slots (drop n.trail old.trail) (take n.slots old.slots)
          ∙ ap (λ r. slots_before (drop n.trail old.trail) r) (take-take m.slots n.slots old.slots older.slots))
          ∙ sym (slots_before-append (drop m.trail (take n.trail old.trail)) (drop n.trail old.trail) (take m.slots old.slots))
          ∙ ap (λ r. slots_before r (take m.slots old.slots)) rest
          ∙ sym (brought_back-is m old),
    )

-- all writes since a good mark are taken back
pub taken_back : (m : BlocksMark) (b : BlocksView) (s : Slots) (t : List Written) → length t ≤ m.trail
    → slots_before (drop m.trail t) s ≡ slots_before (drop m.trail b.trail) b.slots → take m.slots s ≡ brought_back m b
unfolding slots_before
taken_back m b s t all same =
    ap (λ r. take m.slots r) (sym (ap (λ r. slots_before r s) (drop_all m.trail t all)) ∙ same)
    ∙ (slots_before-take m.slots (drop m.trail b.trail) b.slots ∙ sym (brought_back-is m b))

-- the newest write, to a slot that the mark doesn't bring back, is forgotten
pub forgotten : (m : BlocksMark) (old new : BlocksView) (w : Written) → m.slots ≤ w.slot → m.trail ≤ length new.trail
    → old.trail ≡ new.trail ++ w ∷ [] → new.slots ≡ old.slots → brought_back m new ≡ brought_back m old
forgotten m old new w past noted trail slots =
    brought_back-by m new old.slots new.trail slots refl
    ∙ ap (λ r. slots_before (drop m.trail new.trail) r) (sym (set-take-past m.slots old.slots w.slot w.old past))
    ∙ sym (slots_before_last m.trail new.trail w (take m.slots old.slots) noted)
    ∙ sym (brought_back-by m old old.slots (new.trail ++ w ∷ []) refl trail)

-- after writes were forgotten, where the protection was another one before
pub released : (m : BlocksMark) (old start new : BlocksView) → IsKept old m → start.slots ≡ old.slots → start.trail ≡ old.trail
    → new.slots ≡ old.slots → m.slots ≤ new.kept → m.trail ≤ length new.trail → brought_back m new ≡ brought_back m start
    → IsKept new m × (brought_back m new ≡ brought_back m old)
released m old start new h slots trail same protected noted back = (
  record { within = subst (λ r. m.slots ≤ length r) (sym same) h.within; protected = protected; noted = noted },
  back ∙ brought_back-by m start old.slots old.trail slots trail ∙ sym (brought_back-is m old),
)
