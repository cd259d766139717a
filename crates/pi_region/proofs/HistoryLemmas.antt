-- The walk back along the trail: what it holds before an entry.
use Rattle.std.proofs.Common.{◌≡◌, ℕ, ◌-◌, ◌<◌, ◌≤◌, ⊎_elim, false, cond, nat_lt, min, List, length, take, slice_index, slice_set, refl, ap, sym, subst, ◌∙◌, arith}
use Rattle.std.specs.Prelude.{◌==◌}
use Rattle.std.proofs.lemmas.Bool.{cases_lt, cases_eq, cond-true, cond-false, lt-ltb, le-ltb, eq-eqb, ne_eqb}
use Rattle.std.proofs.lemmas.List.{get_or-take, get_or_past, get_or-set_other, length-take, length-set}
use Rattle.std.proofs.lemmas.Grind.{get_or-set_at}
use Rattle.pi_region.specs.Image.{Image, table_in, with_table}
use Rattle.pi_region.specs.Back.{taken_back, without, newest, newest_place, newest_old, back_once, back, at_length}
use Rattle.pi_region.specs.Since.{is_variables}
use Rattle.pi_region.specs.History.{Stands}
use Rattle.pi_region.specs.declared.entry.Table.{Table}
use Rattle.pi_region.specs.declared.entry.Change.{Change}
use Rattle.pi_region.specs.declared.entry.Entry.{Entry}
use Rattle.pi_region.specs.declared.history.Past.{Past}
use Rattle.pi_region.proofs.TableLemmas.{trail_with}
use Rattle.pi_region.proofs.BackLemmas.{back_stop, back_go, trail_once, region_once}
use Rattle.pi_region.proofs.ChangeLemmas.{once_by}

-- a table that gets back what it had, read at a place
pub set_read : (xs : List ℕ) (place old n : ℕ) → slice_index (slice_set xs place old) n ≡ cond (n == place) (cond (nat_lt n (length xs)) old (slice_index xs n)) (slice_index xs n)
set_read xs place old n =
    let ys : List ℕ = slice_set xs place old in
    let many : length ys ≡ length xs = length-set xs place old in
    let inner : ℕ = cond (nat_lt n (length xs)) old (slice_index xs n) in
    ⊎_elim
    (λ same. ⊎_elim
    (λ lt. get_or-set_at xs place n old 0 same (omega arith) ∙ (sym (cond-true (nat_lt n (length xs)) old (slice_index xs n) (lt-ltb n (length xs) lt)) ∙ sym (cond-true (n == place) inner (slice_index xs n) (eq-eqb n place same))))
    (λ le. get_or_past ys n 0 (omega arith) ∙ (sym (get_or_past xs n 0 le) ∙ (sym (cond-false (nat_lt n (length xs)) old (slice_index xs n) (le-ltb n (length xs) le)) ∙ sym (cond-true (n == place) inner (slice_index xs n) (eq-eqb n place same)))))
    (cases_lt n (length xs)))
    (λ other. get_or-set_other xs place n old 0 other ∙ sym (cond-false (n == place) inner (slice_index xs n) (ne_eqb n place other)))
    (cases_eq n place)

pub cut_read : (xs : List ℕ) (n : ℕ) → slice_index (take (length xs - 1) xs) n ≡ cond (nat_lt n (length xs - 1)) (slice_index xs n) 0
cut_read xs n =
    let many : length (take (length xs - 1) xs) ≡ min (length xs - 1) (length xs) = length-take (length xs - 1) xs in
    ⊎_elim
    (λ lt. get_or-take (length xs - 1) xs n 0 lt ∙ sym (cond-true (nat_lt n (length xs - 1)) (slice_index xs n) 0 (lt-ltb n (length xs - 1) lt)))
    (λ le. get_or_past (take (length xs - 1) xs) n 0 (omega arith) ∙ sym (cond-false (nat_lt n (length xs - 1)) (slice_index xs n) 0 (le-ltb n (length xs - 1) le)))
    (cases_lt n (length xs - 1))

-- an image before its newest entry
once : (j : Image) → back_once j ≡ without j (newest j) (newest_place j) (newest_old j)
once j = once_by j (newest j) (newest_place j) (newest_old j) refl refl refl

pub back_trail : (j : Image) → (back_once j).trail ≡ min (newest j).link (j.trail - 1)
back_trail j =
    ap (λ (v : Image). v.trail) (once j)
    ∙ trail_with (record j { trail = min (newest j).link (j.trail - 1) }) (newest j).table (taken_back (newest j).change (table_in j (newest j).table) (newest_place j) (newest_old j))

variables_with : (i : Image) (t : Table) (xs : List ℕ) → is_variables t ≡ false → (with_table i t xs).variables ≡ i.variables
variables_with i Table.Variables xs e = absurd (cc)
variables_with i Table.Constraints xs e = refl
variables_with i Table.Agents xs e = refl
variables_with i Table.Waiting xs e = refl
variables_with i Table.Heads xs e = refl

pub other_variables : (j : Image) → is_variables (newest j).table ≡ false → (back_once j).variables ≡ j.variables
other_variables j e =
    ap (λ (v : Image). v.variables) (once j)
    ∙ variables_with (record j { trail = min (newest j).link (j.trail - 1) }) (newest j).table (taken_back (newest j).change (table_in j (newest j).table) (newest_place j) (newest_old j)) e

pub own_variables : (j : Image) (c : Change) → (newest j).table ≡ Table.Variables → (newest j).change ≡ c → (back_once j).variables ≡ taken_back c j.variables (newest_place j) (newest_old j)
own_variables j c t e =
    ap (λ (v : Image). v.variables) (once j)
    ∙ (ap (λ x. (with_table (record j { trail = min (newest j).link (j.trail - 1) }) x (taken_back (newest j).change (table_in j x) (newest_place j) (newest_old j))).variables) t
    ∙ ap (λ x. taken_back x j.variables (newest_place j) (newest_old j)) e)

-- where the entry before it ends
ends_at : (i j : Image) (n end : ℕ) (p : Past) (e : Entry) → Stands i j n p → e ≡ newest j → end ≡ min e.link (p.end - 1) → end ≡ (back_once j).trail
ends_at i j n end p e s a h =
    h ∙ (ap (λ (f : Entry). min f.link (p.end - 1)) a ∙ (ap (λ k. min (newest j).link (k - 1)) s.end ∙ sym (back_trail j)))

pub other_before : (i j : Image) (n end : ℕ) (p q : Past) (e : Entry) → Stands i j n p → e ≡ newest j → is_variables e.table ≡ false → end ≡ min e.link (p.end - 1)
    → q ≡ record { end = end; word = p.word; count = p.count } → Stands i (back_once j) n q
other_before i j n end p q e s a t h is =
    let same : (back_once j).variables ≡ j.variables = other_variables j (ap (λ (f : Entry). is_variables f.table) (sym a) ∙ t) in
    let made : Stands i (back_once j) n (record { end = end; word = p.word; count = p.count }) = record {
      region = region_once j ∙ s.region;
      end = ends_at i j n end p e s a h;
      word = s.word ∙ ap (λ (vs : List ℕ). slice_index vs n) (sym same);
      count = s.count ∙ ap length (sym same);
    } in
    subst (Stands i (back_once j) n) (sym is) made

pub push_before : (i j : Image) (n end : ℕ) (p q : Past) (e : Entry) → Stands i j n p → e ≡ newest j → e.table ≡ Table.Variables → e.change ≡ Change.Pushed → end ≡ min e.link (p.end - 1)
    → q ≡ record { end = end; word = cond (nat_lt n (p.count - 1)) p.word 0; count = p.count - 1 } → Stands i (back_once j) n q
push_before i j n end p q e s a t c h is =
    let vs : List ℕ = j.variables in
    let same : (back_once j).variables ≡ take (length vs - 1) vs = own_variables j Change.Pushed (ap (λ (f : Entry). f.table) (sym a) ∙ t) (ap (λ (f : Entry). f.change) (sym a) ∙ c) in
    let cut : length (take (length vs - 1) vs) ≡ min (length vs - 1) (length vs) = length-take (length vs - 1) vs in
    let counted : p.count ≡ length vs = s.count in
    let fewer : p.count - 1 ≡ length (take (length vs - 1) vs) = omega arith in
    let made : Stands i (back_once j) n (record { end = end; word = cond (nat_lt n (p.count - 1)) p.word 0; count = p.count - 1 }) = record {
      region = region_once j ∙ s.region;
      end = ends_at i j n end p e s a h;
      word = ap (λ k. cond (nat_lt n (k - 1)) p.word 0) s.count ∙ (ap (λ w. cond (nat_lt n (length vs - 1)) w 0) s.word ∙ (sym (cut_read vs n) ∙ ap (λ (l : List ℕ). slice_index l n) (sym same)));
      count = fewer ∙ ap length (sym same);
    } in
    subst (Stands i (back_once j) n) (sym is) made

pub word_before : (i j : Image) (n end place old : ℕ) (p q : Past) (e : Entry) → Stands i j n p → e ≡ newest j → (back_once j).variables ≡ slice_set j.variables place old → end ≡ min e.link (p.end - 1)
    → q ≡ record { end = end; word = cond (n == place) (cond (nat_lt n p.count) old p.word) p.word; count = p.count } → Stands i (back_once j) n q
word_before i j n end place old p q e s a same h is =
    let vs : List ℕ = j.variables in
    let made : Stands i (back_once j) n (record { end = end; word = cond (n == place) (cond (nat_lt n p.count) old p.word) p.word; count = p.count }) = record {
      region = region_once j ∙ s.region;
      end = ends_at i j n end p e s a h;
      word = ap (λ k. cond (n == place) (cond (nat_lt n k) old p.word) p.word) s.count ∙ (ap (λ w. cond (n == place) (cond (nat_lt n (length vs)) old w) w) s.word ∙ (sym (set_read vs place old n) ∙ ap (λ (l : List ℕ). slice_index l n) (sym same)));
      count = s.count ∙ (sym (length-set vs place old) ∙ ap length (sym same));
    } in
    subst (Stands i (back_once j) n) (sym is) made

pub filled : (j : Image) (e : Entry) (place : ℕ) → e ≡ newest j → e.table ≡ Table.Variables → e.change ≡ Change.Filled → place ≡ newest_place j → (back_once j).variables ≡ slice_set j.variables place 0
filled j e place a t c h =
    own_variables j Change.Filled (ap (λ (f : Entry). f.table) (sym a) ∙ t) (ap (λ (f : Entry). f.change) (sym a) ∙ c) ∙ ap (λ k. slice_set j.variables k 0) (sym h)

pub replaced_at : (j : Image) (e : Entry) (place old : ℕ) → e ≡ newest j → e.table ≡ Table.Variables → e.change ≡ Change.Replaced → place ≡ newest_place j → old ≡ newest_old j → (back_once j).variables ≡ slice_set j.variables place old
replaced_at j e place old a t c h o =
    own_variables j Change.Replaced (ap (λ (f : Entry). f.table) (sym a) ∙ t) (ap (λ (f : Entry). f.change) (sym a) ∙ c)
    ∙ (ap (λ k. slice_set j.variables k (newest_old j)) (sym h) ∙ ap (slice_set j.variables place) (sym o))

-- the walk goes on while entries end past the length
pub goes_on : (i j : Image) (len n : ℕ) (p q : Past) → Stands i j n p → back len j ≡ back len i → len < p.end → Stands i (back_once j) n q → (k : Image) × Stands i k n q × (back len k ≡ back len i)
goes_on i j len n p q s b lt t =
    let past : len < j.trail = subst (λ e. len < e) s.end lt in
    (back_once j, t, sym (back_go len j past) ∙ b)

pub comes_nearer : (i j : Image) (n len : ℕ) (p q : Past) → Stands i j n p → len < p.end → Stands i (back_once j) n q → q.end < p.end
comes_nearer i j n len p q s lt t =
    let fewer : (back_once j).trail ≤ j.trail - 1 = trail_once j in
    let a : p.end ≡ j.trail = s.end in
    let b : q.end ≡ (back_once j).trail = t.end in
    omega arith

-- and has the word where none does
pub arrived : (i j : Image) (len n : ℕ) (p : Past) → Stands i j n p → back len j ≡ back len i → p.end ≤ len → p.word ≡ slice_index (at_length len i).variables n
arrived i j len n p s b le =
    let within : j.trail ≤ len = subst (λ e. e ≤ len) s.end le in
    s.word ∙ ap (λ (v : Image). slice_index v.variables n) (sym (back_stop len j within) ∙ b)
