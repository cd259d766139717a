-- Since when a variable has the word that it has.
use Rattle.std.specs.Prelude.{◌≡◌, ◌≢◌, ℕ, zero, suc, ◌≤◌, List, length, Bool, true, false, ◌&&◌, ◌==◌, cond}
use Rattle.pi_region.specs.Image.{Image, appended, pushed, replaced}
use Rattle.pi_region.specs.Back.{newest, newest_place, back_once}
use Rattle.pi_region.specs.declared.entry.Table.{Table}
use Rattle.pi_region.specs.declared.entry.Change.{Change}
use Rattle.pi_region.specs.declared.entry.Entry.{Entry}

abbrev pub is_variables : Table → Bool
is_variables Table.Variables = true
is_variables Table.Constraints = false
is_variables Table.Agents = false
is_variables Table.Waiting = false
is_variables Table.Heads = false

abbrev pub is_set : Change → Bool
is_set Change.Pushed = false
is_set Change.Filled = true
is_set Change.Replaced = true

-- another word was put at this place of the variables
abbrev pub is_about : ℕ → Entry → ℕ → Bool
is_about n e place = is_variables e.table && (is_set e.change && (n == place))

-- where the newest entry ends that is about this variable; 0 where there is none
unfoldable pub since_for : ℕ → ℕ → Image → ℕ
since_for zero n i = 0
since_for (suc k) n i = cond (is_about n (newest i) (newest_place i)) i.trail (since_for k n (back_once i))

abbrev pub since : ℕ → Image → ℕ
since n i = since_for i.trail n i

-- more words, one more word in a table, and another word for another variable leave it; another word for this one makes it the
-- length of the region
abbrev pub SinceByWords : Type 0
SinceByWords = (n : ℕ) (i : Image) (ws : List ℕ) → i.trail ≤ length i.region → since n (appended i ws) ≡ since n i

abbrev pub SinceByPush : Type 0
SinceByPush = (n : ℕ) (i : Image) (t : Table) (w : ℕ) → i.trail ≤ length i.region → since n (pushed i t w) ≡ since n i

abbrev pub SinceByOther : Type 0
SinceByOther = (n : ℕ) (i : Image) (place w : ℕ) → i.trail ≤ length i.region → n ≢ place → since n (replaced i Table.Variables place w) ≡ since n i

abbrev pub SinceByIt : Type 0
SinceByIt = (i : Image) (place w : ℕ) → i.trail ≤ length i.region → since place (replaced i Table.Variables place w) ≡ length (replaced i Table.Variables place w).region
