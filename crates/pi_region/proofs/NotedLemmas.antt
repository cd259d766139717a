-- What the walk back notes of variables leads back to the words that there were.
use Rattle.std.proofs.Common.{◌≡◌, ℕ, suc, ◌-◌, ◌<◌, ◌≤◌, Bool, true, false, cond, nat_lt, min, List, [], ◌∷◌, length, take, slice_index, slice_set, refl, ap, sym, subst, ◌∙◌, arith, tests, ltb-true, ltb-false, eqb-true}
use Rattle.std.specs.Prelude.{◌==◌}
use Rattle.std.specs.BTreeMap.{insert_entry}
use Rattle.std.specs.Ordering.{nat_cmp, match_ordering}
use Rattle.std.specs.declared.cmp.Ordering.{Ordering}
use Rattle.std.specs.declared.cmp.Ordering.TheVariants.{Less, Equal, Greater}
use Rattle.std.proofs.lemmas.Bool.{cond-true, lt-ltb}
use Rattle.std.proofs.lemmas.List.{get_or-take, length-take, length-set}
use Rattle.pi_region.specs.Image.{Image}
use Rattle.pi_region.specs.Back.{newest, back_once, at_length}
use Rattle.pi_region.specs.Changes.{noted, AscendFrom, LeadsBack, HasNoted}
use Rattle.pi_region.specs.Since.{is_variables}
use Rattle.pi_region.specs.declared.entry.Table.{Table}
use Rattle.pi_region.specs.declared.entry.Entry.{Entry}
use Rattle.pi_region.specs.declared.entry.Change.{Change}
use Rattle.pi_region.proofs.BackLemmas.{back_go, back_stop, region_once, trail_once}
use Rattle.pi_region.proofs.HistoryLemmas.{set_read, back_trail, other_variables, own_variables}

abbrev pub Notes : Type 0
Notes = List (ℕ × ℕ)

-- how two places stand to each other, by the two tests
abbrev order_by : Bool → Bool → Ordering
order_by less same = cond less Less (cond same Equal Greater)

-- one more word is noted

twice : (t : Bool) (v b x : ℕ) → cond t v x ≡ cond t v (cond t b x)
twice true v b x = refl
twice false v b x = refl

apart : (s t : Bool) (a v x : ℕ) → (s ≡ true → t ≡ true → ⊥) → cond s a (cond t v x) ≡ cond t v (cond s a x)
apart s t a v x never = by s t refl refl
  where
    by : (p q : Bool) → s ≡ p → t ≡ q → cond p a (cond q v x) ≡ cond q v (cond p a x)
    by true true e f = absurd (never e f)
    by true false e f = refl
    by false true e f = refl
    by false false e f = refl

noted_put : (n k v w : ℕ) (es : Notes) → noted (insert_entry nat_cmp es k v) n w ≡ cond (n == k) v (noted es n w)
unfolding noted
noted_put n k v w [] = refl
noted_put n k v w (e ∷ es) = by (noted_put n k v w es) (nat_lt k e.0) (k == e.0) refl refl
  where
    by : noted (insert_entry nat_cmp es k v) n w ≡ cond (n == k) v (noted es n w) → (less same : Bool) → nat_lt k e.0 ≡ less → (k == e.0) ≡ same →
        noted (match_ordering (order_by less same) ((k, v) ∷ e ∷ es) ((e.0, v) ∷ es) (e ∷ insert_entry nat_cmp es k v)) n w ≡ cond (n == k) v (cond (n == e.0) e.1 (noted es n w))
    by rest true same i j = refl
    by rest false true i j = twice (n == e.0) v e.1 (noted es n w) ∙ ap (λ m. cond (n == m) v (cond (n == e.0) e.1 (noted es n w))) (sym (eqb-true k e.0 j))
    by rest false false i j =
        ap (cond (n == e.0) e.1) rest ∙ apart (n == e.0) (n == k) e.1 v (noted es n w) (λ s t. let p : n ≡ e.0 = eqb-true n e.0 s in let q : n ≡ k = eqb-true n k t in let r : k ≡ e.0 = omega arith in absurd (grind (arith, tests, j, r)))

ascend_put : (least k v : ℕ) (es : Notes) → AscendFrom least es → least ≤ k → AscendFrom least (insert_entry nat_cmp es k v)
unfolding AscendFrom
ascend_put least k v [] s l = (l, tt)
ascend_put least k v (e ∷ es) s l = by (λ h. ascend_put (suc e.0) k v es s.1 h) (nat_lt k e.0) (k == e.0) refl refl
  where
    by : (suc e.0 ≤ k → AscendFrom (suc e.0) (insert_entry nat_cmp es k v)) → (less same : Bool) → nat_lt k e.0 ≡ less → (k == e.0) ≡ same →
        AscendFrom least (match_ordering (order_by less same) ((k, v) ∷ e ∷ es) ((e.0, v) ∷ es) (e ∷ insert_entry nat_cmp es k v))
    by rest true same i j = (l, (ltb-true k e.0 i, s.1))
    by rest false true i j = (s.0, s.1)
    by rest false false i j = (s.0, rest (grind (arith, tests, ltb-false k e.0 i, j)))

-- What an entry brings back

none_noted : (n w : ℕ) → noted [] n w ≡ w
unfolding noted
none_noted n w = refl

none_ascends : AscendFrom 0 []
unfolding AscendFrom
none_ascends = tt

pub leads_none : (vs : List ℕ) (count : ℕ) (es : Notes) → count ≡ length vs → es ≡ [] → LeadsBack vs vs count es
leads_none vs count es c e = subst (LeadsBack vs vs count) (sym e) (record { many = c; ascend = none_ascends; word = λ n lt. sym (none_noted n (slice_index vs n)) })

pub leads_push : (js before now : List ℕ) (count less : ℕ) (es : Notes) → before ≡ take (length js - 1) js → less ≡ count - 1 → LeadsBack js now count es → LeadsBack before now less es
leads_push js before now count less es is one l =
    let many : count ≡ length js = l.many in
    let cut : length before ≡ min (length js - 1) (length js) = ap length is ∙ length-take (length js - 1) js in
    record {
      many = omega arith;
      ascend = l.ascend;
      word = λ n lt.
          let below : n < length js - 1 = omega arith in
          ap (λ vs. slice_index vs n) is ∙ (get_or-take (length js - 1) js n 0 below ∙ l.word n (omega arith));
    }

pub leads_set : (js before now : List ℕ) (count place old : ℕ) (es more : Notes) → before ≡ slice_set js place old → more ≡ insert_entry nat_cmp es place old → LeadsBack js now count es → LeadsBack before now count more
leads_set js before now count place old es more is put l =
    let many : count ≡ length js = l.many in
    let same : length before ≡ length js = ap length is ∙ length-set js place old in
    subst (LeadsBack before now count) (sym put) (record {
      many = omega arith;
      ascend = ascend_put 0 place old es l.ascend (omega arith);
      word = λ n lt.
          let below : n < length js = omega arith in
          ap (λ vs. slice_index vs n) is
          ∙ (set_read js place old n
          ∙ (ap (λ w. cond (n == place) w (slice_index js n)) (cond-true (nat_lt n (length js)) old (slice_index js n) (lt-ltb n (length js) below))
          ∙ (ap (cond (n == place) old) (l.word n below)
          ∙ sym (noted_put n place old (slice_index now n) es))));
    })

pub leads_other : (j : Image) (now : List ℕ) (count : ℕ) (es : Notes) (e : Entry) → e ≡ newest j → is_variables e.table ≡ false → LeadsBack j.variables now count es → LeadsBack (back_once j).variables now count es
leads_other j now count es e is other l = subst (λ vs. LeadsBack vs now count es) (sym (other_variables j (ap (λ (f : Entry). is_variables f.table) (sym is) ∙ other))) l

pub leads_pushed : (j : Image) (now : List ℕ) (count less : ℕ) (es : Notes) (e : Entry) → e ≡ newest j → e.table ≡ Table.Variables → e.change ≡ Change.Pushed → less ≡ count - 1 → LeadsBack j.variables now count es → LeadsBack (back_once j).variables now less es
leads_pushed j now count less es e is table change one l =
    leads_push j.variables (back_once j).variables now count less es (own_variables j Change.Pushed (ap (λ (f : Entry). f.table) (sym is) ∙ table) (ap (λ (f : Entry). f.change) (sym is) ∙ change)) one l

-- The walk

pub begins : (i : Image) (len end count : ℕ) (es : Notes) → end ≡ i.trail → count ≡ length i.variables → es ≡ [] → HasNoted i len end count es
begins i len end count es e c none = record { image = i; region = refl; trail = e; way = refl; leads = leads_none i.variables count es c none }

pub goes_on : (i : Image) (len end count next less : ℕ) (es more : Notes) (h : HasNoted i len end count es) → len < end → next ≡ (back_once h.image).trail → LeadsBack (back_once h.image).variables i.variables less more → HasNoted i len next less more
goes_on i len end count next less es more h lt n l =
    let past : len < h.image.trail = subst (λ e. len < e) h.trail lt in
    record {
      image = back_once h.image;
      region = region_once h.image ∙ h.region;
      trail = n;
      way = sym (back_go len h.image past) ∙ h.way;
      leads = l;
    }

pub comes_nearer : (i : Image) (len end count next : ℕ) (es : Notes) (h : HasNoted i len end count es) → len < end → next ≡ (back_once h.image).trail → next < end
comes_nearer i len end count next es h lt n =
    let fewer : (back_once h.image).trail ≤ h.image.trail - 1 = trail_once h.image in
    let e : end ≡ h.image.trail = h.trail in
    omega arith

pub arrived : (i : Image) (len end count : ℕ) (es : Notes) → HasNoted i len end count es → end ≤ len → LeadsBack (at_length len i).variables i.variables count es
arrived i len end count es h le =
    let within : h.image.trail ≤ len = subst (λ e. e ≤ len) h.trail le in
    subst (λ vs. LeadsBack vs i.variables count es) (ap (λ (v : Image). v.variables) (sym (back_stop len h.image within) ∙ h.way)) h.leads

-- where the entry before one ends
pub ends_before : (j : Image) (e : Entry) (end next : ℕ) → e ≡ newest j → end ≡ j.trail → next ≡ min e.link (end - 1) → next ≡ (back_once j).trail
ends_before j e end next is at n = n ∙ (ap (λ (f : Entry). min f.link (end - 1)) is ∙ (ap (λ k. min (newest j).link (k - 1)) at ∙ sym (back_trail j)))
