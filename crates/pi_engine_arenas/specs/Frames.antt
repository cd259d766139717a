-- Frames and the continuations that they stand for.
use Rattle.std.specs.Prelude.{min, ◌≡◌, ℕ, zero, suc, ◌+◌, ◌-◌, ◌≤◌, ◌<◌, ◌^◌, List, [], ◌∷◌, ◌++◌, length, Option, Some, None, slice_get, slice_index_or}
use Rattle.pi_engine_arenas.specs.declared.frames.Point.{Point}
use Rattle.pi_engine_code.specs.declared.code.Step.{Step}
use Rattle.pi_engine_arenas.specs.declared.frames.Call.{Call}

-- the frame with a number, of which 0 is none
abbrev pub frame_at : List Point → ℕ → Option Point
frame_at fs zero = None
frame_at fs (suc n) = slice_get fs n

-- so many goals from a place on, in the block that begins at a base
pub record Rest : Type 0 where
  pub place : ℕ
  pub count : ℕ
  pub base : ℕ

abbrev pub rest_of : Point → Rest
rest_of p = record { place = p.place; count = p.count; base = p.base }

-- the continuations of frames, one after the other: a frame goes on with that of an earlier one
unfoldable pub continuations : List (List Rest) → List Point → List (List Rest)
continuations earlier [] = earlier
continuations earlier (p ∷ ps) = continuations (earlier ++ (rest_of p ∷ slice_index_or earlier p.frame []) ∷ []) ps

-- what is left to do by a frame's number, from what comes next on; by number 0 nothing
unfoldable pub continuation : List Point → ℕ → List Rest
continuation fs n = slice_index_or (continuations ([] ∷ []) fs) n []

-- each frame goes on with an earlier one
abbrev pub IsOrdered : List Point → Type 0
IsOrdered fs = (i : ℕ) (p : Point) → slice_get fs i ≡ Some p → p.frame ≤ i

-- the point behind its first goal, which has this step
abbrev pub point_behind : Point → Step → Point
point_behind p s = record { place = p.place + s.size; count = p.count - 1; base = p.base; frame = p.frame }

-- the frames with one for what is left behind a point's first goal, where something is, and its number
pub record PushesBehind (p : Point) (s : Step) (old new : List Point) (n : ℕ) : Type 0 where
  pub alone : p.count ≤ 1 → (n ≡ p.frame) × (new ≡ old)
  pub some : 1 < p.count → p.place + s.size < 2 ^ 32 → (n ≡ suc (length old)) × (new ≡ old ++ point_behind p s ∷ [])

-- numbers of slots have 64 bits; a sum that hasn't stays below
abbrev pub slot_number : ℕ → ℕ → ℕ
slot_number first k = min (first + k) 18446744073709551615

-- a call of a predicate, whose block begins at a base, with the frame to go on with
abbrev pub call_at : ℕ → ℕ → ℕ → Call
call_at predicate base frame = record { predicate = predicate; base = base; frame = frame }
