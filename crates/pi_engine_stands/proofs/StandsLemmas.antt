-- What the entries stand for, where the store and the arenas change behind them.
use Rattle.std.proofs.Common.{◌≡◌, ◌⊎◌, inl, inr, ℕ, zero, suc, ◌-◌, ◌≤◌, ◌<◌, List, [], ◌∷◌, Option, Some, None, length, take, drop, refl, sym, ◌∙◌, ap, subst, arith}
use Rattle.std.specs.Prelude.{slice_get, ⊤}
use Rattle.pi_terms.specs.Tree.{Tree}
use Rattle.pi_constraints.specs.Store.{StoreView, Moment, IsGood, IsName, Terms, Extend, Beside, StandsBeside}
use Rattle.pi_constraints.specs.State.{State}
use Rattle.pi_engine_stands.specs.Rests.{Rests}
use Rattle.pi_constraints.specs.declared.store.Ref.{Ref}
use Rattle.pi_engine_arenas.specs.declared.arenas.Kind.{Kind}
use Rattle.pi_engine_arenas.specs.declared.frames.Point.{Point}
use Rattle.pi_engine_arenas.specs.Blocks.{IsKept, brought_back}
use Rattle.pi_engine_arenas.specs.Arenas.{ArenasView, entry_at}
use Rattle.pi_engine_arenas.specs.declared.arenas.Entry.{Entry}
use Rattle.pi_meaning.specs.Machine.Configuration.{Entry as EntryData, choice, strict, catch_level, left, once_level, not_level, if_level, guard_level, value_level, list_level, number_level, search_level}
use Rattle.pi_meaning.specs.Machine.Shape.{open_level}
use Rattle.pi_engine_stands.specs.Here.{Here, Ends}
use Rattle.pi_engine_stands.specs.Stands.{World, entries_of, entry_ends, level_ends, back_here, Agrees, agrees_from, KindIs, rules_kind, facts_kind, branches_kind, alternatives_kind, once_kind, not_kind, if_kind, guard_kind, apply_kind, collect_kind, count_kind, search_kind, catch_kind, exit_kind, IsFoundBeside, KeepsFound, EntryIs, IsAbove, StackIs, no_entries, entry_above, Loaded}
use Rattle.pi_terms.proofs.OptionLemmas.{none-some}
use Rattle.pi_engine_stands.proofs.HereLemmas.{part-agrees, take-agrees}

-- the same run with another store and other arenas
abbrev pub moved : {M : Type 0} → World M → StoreView M → ArenasView M → World M
moved w s a = record { loaded = w.loaded; store = s; order = w.order; arenas = a }

-- ---- entries and their numbers

pub slice-take : {X : Type 0} (xs ys : List X) (n i : ℕ) → i < n → take n xs ≡ take n ys → slice_get xs i ≡ slice_get ys i
slice-take xs ys zero i h agree = absurd (omega (arith, h))
slice-take [] [] (suc n) i h agree = refl
slice-take [] (y ∷ ys) (suc n) i h agree = absurd cc
slice-take (x ∷ xs) [] (suc n) i h agree = absurd cc
slice-take (x ∷ xs) (y ∷ ys) (suc n) zero h agree = ap (λ r. slice_get r 0) agree
slice-take (x ∷ xs) (y ∷ ys) (suc n) (suc i) h agree = slice-take xs ys n i (omega (arith, h)) (ap (drop 1) agree)

pub entry_at-take : {M : Type 0} (xs ys : List (Entry M)) (n k : ℕ) → k ≤ n → take n xs ≡ take n ys → entry_at xs k ≡ entry_at ys k
entry_at-take xs ys n zero within agree = refl
entry_at-take xs ys n (suc k) within agree = slice-take xs ys n k (omega (arith, within)) agree

pub open_level-within : (n : ℕ) (es : List EntryData) → open_level n es ≤ length es
unfolding open_level
open_level-within n [] = omega arith
open_level-within n (choice c b ∷ es) = omega (arith, open_level-within n es)
open_level-within zero (strict s b ∷ es) = omega arith
open_level-within (suc n) (strict s b ∷ es) = omega (arith, open_level-within (suc n) es)
open_level-within zero (catch_level ball handler b ∷ es) = omega arith
open_level-within (suc n) (catch_level ball handler b ∷ es) = omega (arith, open_level-within n es)
open_level-within n (left ∷ es) = omega (arith, open_level-within (suc n) es)

pub stack-length : {M : Type 0} (w : World M) (n top : ℕ) (es : List EntryData) → StackIs w n top es → length es ≡ n
stack-length w n top es no_entries = refl
stack-length w n top es (entry_above m from fs x y at is below) = ap suc (stack-length w m from fs below)

-- ---- what is true of each entry

pub record EntryFacts {M : Type 0} (w : World M) (i : ℕ) (x : Entry M) : Type 0 where
  pub good : IsGood w.store x.mark
  pub kept : IsKept w.arenas.blocks x.back.blocks
  pub frames : x.back.frames ≤ length w.arenas.frames
  pub level : x.back.level ≤ i

-- a number is below the next one, or the number
pub last-or-below : (i n : ℕ) → i < suc n → (i < n) ⊎ (i ≡ n)
last-or-below zero zero h = inr refl
last-or-below zero (suc n) h = inl (omega arith)
last-or-below (suc i) zero h = absurd (omega (arith, h))
last-or-below (suc i) (suc n) h =
    elim (last-or-below i n (omega (arith, h))) as (λ w. (suc i < suc n) ⊎ (suc i ≡ suc n))
    [ inl below ↦ inl (omega (arith, below)) | inr same ↦ inr (ap suc same) ]

facts-of : {M : Type 0} (w : World M) (es : List EntryData) (below : Option (Entry M)) (from to n : ℕ) (x : Entry M) (y : EntryData) → length es ≡ n →
    EntryIs w es below from to x y → EntryFacts w n x
facts-of w es below from to n x y long is =
    record { good = is.good; kept = is.kept; frames = is.frames; level = omega (arith, is.level, open_level-within zero es, long) }

-- the entries at one place are one
same-entry : {M : Type 0} (r q : Option (Entry M)) (x y : Entry M) → r ≡ q → r ≡ Some x → q ≡ Some y → x ≡ y
same-entry r q x y same h k = cc

facts-here : {M : Type 0} (w : World M) (m : ℕ) (i : ℕ) (x z : Entry M) → slice_get (entries_of w) m ≡ Some z → EntryFacts w m z →
    (i < m → EntryFacts w i x) → (i < m) ⊎ (i ≡ m) → slice_get (entries_of w) i ≡ Some x → EntryFacts w i x
facts-here w m i x z here is below (inl h) at = below h
facts-here w m i x z here is below (inr h) at =
    subst (λ j. EntryFacts w j x) (sym h)
    (subst (λ r. EntryFacts w m r) (same-entry (slice_get (entries_of w) m) (slice_get (entries_of w) i) z x (ap (slice_get (entries_of w)) (sym h)) here at) is)

pub entry-facts : {M : Type 0} (w : World M) (n top : ℕ) (es : List EntryData) (i : ℕ) (x : Entry M) → StackIs w n top es → i < n → slice_get (entries_of w) i ≡ Some x → EntryFacts w i x
entry-facts w n top es i x no_entries within at = absurd (omega (arith, within))
entry-facts w n top es i x (entry_above m from fs z y here is below) within at =
    facts-here w m i x z here (facts-of w fs (entry_at (entries_of w) m) from top m z y (stack-length w m from fs below) is)
    (λ h. entry-facts w m from fs i x below h at) (last-or-below i m within) at

-- ---- what is kept beside marks

same-words : (b : Beside) (m n : Moment) → n ≡ m → b.from ≡ m.words → b.from ≡ n.words
same-words b m n same is = is ∙ sym (ap (λ r. r.words) same)

-- what stands beside a mark stands there after
pub stands-beside : {M : Type 0} (v s : StoreView M) (m : M) → s.beside m ≡ v.beside m → s.at_mark m ≡ v.at_mark m → ((k : ℕ) (name : List ℕ) → IsName v k name → IsName s k name) → StandsBeside v m → StandsBeside s m
stands-beside v s m beside same names is b has =
    let before : v.beside m ≡ Some b = sym beside ∙ has in
    (same-words b (v.at_mark m) (s.at_mark m) same (is b before).0, λ k name at. names k name ((is b before).1 k name at))

-- what an entry has found stays found
pub found-stays : {M : Type 0} (v s : StoreView M) (m : M) (y : EntryData) → s.beside m ≡ v.beside m → s.at_mark m ≡ v.at_mark m → ((k : ℕ) (name : List ℕ) → IsName v k name → IsName s k name) → KeepsFound v m y → KeepsFound s m y
found-stays v s m (choice c b) beside same names found = tt
found-stays v s m (strict once_level b) beside same names found = tt
found-stays v s m (strict not_level b) beside same names found = tt
found-stays v s m (strict (if_level g other) b) beside same names found = tt
found-stays v s m (strict (guard_level called c cs) b) beside same names found = tt
found-stays v s m (strict (value_level called into) b) beside same names found = tt
found-stays v s m (strict (list_level slot into got) b) beside same names found = tt
found-stays v s m (strict (number_level into n) b) beside same names found = tt
found-stays v s m (strict (search_level x labelled f) b) beside same names found = (
  subst (λ o. IsFoundBeside o f) (sym beside) found.0,
  stands-beside v s m beside same names found.1,
)
found-stays v s m (catch_level ball handler b) beside same names found = tt
found-stays v s m left beside same names found = tt

-- what stands for an entry with a mark beside which nothing is kept
abbrev pub HasNoFound : EntryData → Type 0
HasNoFound (choice c b) = ⊤
HasNoFound (strict once_level b) = ⊤
HasNoFound (strict not_level b) = ⊤
HasNoFound (strict (if_level g other) b) = ⊤
HasNoFound (strict (guard_level called c cs) b) = ⊤
HasNoFound (strict (value_level called into) b) = ⊤
HasNoFound (strict (list_level slot into got) b) = ⊤
HasNoFound (strict (number_level into n) b) = ⊤
HasNoFound (strict (search_level x labelled f) b) = f ≡ None
HasNoFound (catch_level ball handler b) = ⊤
HasNoFound left = ⊤

-- an entry that is no search's
abbrev pub IsNoSearch : EntryData → Type 0
IsNoSearch (choice c b) = ⊤
IsNoSearch (strict once_level b) = ⊤
IsNoSearch (strict not_level b) = ⊤
IsNoSearch (strict (if_level g other) b) = ⊤
IsNoSearch (strict (guard_level called c cs) b) = ⊤
IsNoSearch (strict (value_level called into) b) = ⊤
IsNoSearch (strict (list_level slot into got) b) = ⊤
IsNoSearch (strict (number_level into n) b) = ⊤
IsNoSearch (strict (search_level x labelled f) b) = ⊥
IsNoSearch (catch_level ball handler b) = ⊤
IsNoSearch left = ⊤

pub no-search-none : (y : EntryData) → IsNoSearch y → HasNoFound y
no-search-none (choice c b) is = tt
no-search-none (strict once_level b) is = tt
no-search-none (strict not_level b) is = tt
no-search-none (strict (if_level g other) b) is = tt
no-search-none (strict (guard_level called c cs) b) is = tt
no-search-none (strict (value_level called into) b) is = tt
no-search-none (strict (list_level slot into got) b) is = tt
no-search-none (strict (number_level into n) b) is = tt
no-search-none (strict (search_level x labelled f) b) is = absurd is
no-search-none (catch_level ball handler b) is = tt
no-search-none left is = tt

pub no-search-found : {M : Type 0} (v : StoreView M) (m : M) (y : EntryData) → IsNoSearch y → KeepsFound v m y
no-search-found v m (choice c b) is = tt
no-search-found v m (strict once_level b) is = tt
no-search-found v m (strict not_level b) is = tt
no-search-found v m (strict (if_level g other) b) is = tt
no-search-found v m (strict (guard_level called c cs) b) is = tt
no-search-found v m (strict (value_level called into) b) is = tt
no-search-found v m (strict (list_level slot into got) b) is = tt
no-search-found v m (strict (number_level into n) b) is = tt
no-search-found v m (strict (search_level x labelled f) b) is = absurd is
no-search-found v m (catch_level ball handler b) is = tt
no-search-found v m left is = tt

pub found-none : {M : Type 0} (v : StoreView M) (m : M) (y : EntryData) → v.beside m ≡ None → HasNoFound y → KeepsFound v m y
found-none v m (choice c b) none has = tt
found-none v m (strict once_level b) none has = tt
found-none v m (strict not_level b) none has = tt
found-none v m (strict (if_level g other) b) none has = tt
found-none v m (strict (guard_level called c cs) b) none has = tt
found-none v m (strict (value_level called into) b) none has = tt
found-none v m (strict (list_level slot into got) b) none has = tt
found-none v m (strict (number_level into n) b) none has = tt
found-none v m (strict (search_level x labelled f) b) none has = (
  subst (λ o. IsFoundBeside o f) (sym none) (subst (λ r. IsFoundBeside None r) (sym has) tt),
  λ b is. absurd (none-some none is),
)
found-none v m (catch_level ball handler b) none has = tt
found-none v m left none has = tt

-- ---- changes behind the first so many entries

-- the first so many entries, and all that they bring back, stay
pub record Leaves {M : Type 0} (w : World M) (s : StoreView M) (a : ArenasView M) (n top : ℕ) : Type 0 where
  pub entries : take n (entries_of w) ≡ take n a.entries
  pub marks : (i : ℕ) (x : Entry M) → i < n → slice_get (entries_of w) i ≡ Some x → IsGood w.store x.mark → IsGood s x.mark × (s.at_mark x.mark ≡ w.store.at_mark x.mark)
  pub blocks : (i : ℕ) (x : Entry M) → i < n → slice_get (entries_of w) i ≡ Some x → IsKept w.arenas.blocks x.back.blocks →
      IsKept a.blocks x.back.blocks × (brought_back x.back.blocks a.blocks ≡ brought_back x.back.blocks w.arenas.blocks)
  pub frames : (i : ℕ) (x : Entry M) → i < n → slice_get (entries_of w) i ≡ Some x → x.back.frames ≤ length w.arenas.frames →
      (x.back.frames ≤ length a.frames) × (take x.back.frames a.frames ≡ take x.back.frames w.arenas.frames)
  pub collected : take top w.arenas.collected ≡ take top a.collected
  pub enough : top ≤ length a.collected
  pub beside : (m : M) → s.beside m ≡ w.store.beside m
  pub names : (k : ℕ) (name : List ℕ) → IsName w.store k name → IsName s k name

abbrev pub here_of : Terms → List (Option Ref) → List Point → Ends → Here
here_of t xs fs ends = record { terms = t; slots = xs; frames = fs; ends = ends }

-- what an entry brings back stays
pub back-stays : {M : Type 0} (w : World M) (s : StoreView M) (a : ArenasView M) (n top i : ℕ) (x : Entry M) → Leaves w s a n top → i < n → slice_get (entries_of w) i ≡ Some x →
    EntryFacts w i x → back_here (moved w s a) x ≡ back_here w x
back-stays w s a n top i x leaves within at facts =
    ap (λ m. here_of m.terms (brought_back x.back.blocks a.blocks) (take x.back.frames a.frames) (level_ends (moved w s a) x.back.level)) (leaves.marks i x within at facts.good).1
    ∙ ap (λ r. here_of (w.store.at_mark x.mark).terms r (take x.back.frames a.frames) (level_ends (moved w s a) x.back.level)) (leaves.blocks i x within at facts.kept).1
    ∙ ap (λ r. here_of (w.store.at_mark x.mark).terms (brought_back x.back.blocks w.arenas.blocks) r (level_ends (moved w s a) x.back.level)) (leaves.frames i x within at facts.frames).1
    ∙ ap (λ r. here_of (w.store.at_mark x.mark).terms (brought_back x.back.blocks w.arenas.blocks) (take x.back.frames w.arenas.frames) (entry_ends w.loaded r))
    (sym (entry_at-take (entries_of w) a.entries n x.back.level (omega (arith, facts.level, within)) leaves.entries))

-- what was collected for an entry stays
pub kind-moves : (l : Loaded) (c d : List Tree) (h : Here) (s : State) (base frame slots from to : ℕ) (kind : Kind) (y : EntryData) → take to c ≡ take to d → to ≤ length d →
    KindIs l c h s base frame slots from to kind y → KindIs l d h s base frame slots from to kind y
kind-moves l c d h s base frame slots from to kind y same enough (rules_kind is over one) = rules_kind is over one
kind-moves l c d h s base frame slots from to kind y same enough (facts_kind is over one) = facts_kind is over one
kind-moves l c d h s base frame slots from to kind y same enough (branches_kind is at here last count one) = branches_kind is at here last count one
kind-moves l c d h s base frame slots from to kind y same enough (alternatives_kind own are one) = alternatives_kind own are one
kind-moves l c d h s base frame slots from to kind y same enough (once_kind is one) = once_kind is one
kind-moves l c d h s base frame slots from to kind y same enough (not_kind is one) = not_kind is one
kind-moves l c d h s base frame slots from to kind y same enough (if_kind is one) = if_kind is one
kind-moves l c d h s base frame slots from to kind y same enough (guard_kind is over one) = guard_kind is over one
kind-moves l c d h s base frame slots from to kind y same enough (apply_kind is free args fit one) = apply_kind is free args fit one
kind-moves l c d h s base frame slots from to kind y same enough (collect_kind {place = place} {value = value} {into = into} {e = e} {k = k} is below some) =
    subst (λ got. KindIs l d h s base frame slots from to kind (strict (list_level value into got) (record { slots = e; state = s; frames = k })))
    (part-agrees from (to - from) to d c (omega (arith, below)) (sym same))
    (collect_kind is below enough)
kind-moves l c d h s base frame slots from to kind y same enough (count_kind is one) = count_kind is one
kind-moves l c d h s base frame slots from to kind y same enough (search_kind own labels held fit order one) = search_kind own labels held fit order one
kind-moves l c d h s base frame slots from to kind y same enough (catch_kind is stays one) = catch_kind is stays one
kind-moves l c d h s base frame slots from to kind y same enough (exit_kind one) = exit_kind one

pub kind-order : (l : Loaded) (c : List Tree) (h : Here) (s : State) (base frame slots from to : ℕ) (kind : Kind) (y : EntryData) →
    KindIs l c h s base frame slots from to kind y → from ≤ to
kind-order l c h s base frame slots from to kind y (rules_kind is over one) = omega (arith, one)
kind-order l c h s base frame slots from to kind y (facts_kind is over one) = omega (arith, one)
kind-order l c h s base frame slots from to kind y (branches_kind is at here last count one) = omega (arith, one)
kind-order l c h s base frame slots from to kind y (alternatives_kind own are one) = omega (arith, one)
kind-order l c h s base frame slots from to kind y (once_kind is one) = omega (arith, one)
kind-order l c h s base frame slots from to kind y (not_kind is one) = omega (arith, one)
kind-order l c h s base frame slots from to kind y (if_kind is one) = omega (arith, one)
kind-order l c h s base frame slots from to kind y (guard_kind is over one) = omega (arith, one)
kind-order l c h s base frame slots from to kind y (apply_kind is free args fit one) = omega (arith, one)
kind-order l c h s base frame slots from to kind y (collect_kind is below some) = below
kind-order l c h s base frame slots from to kind y (count_kind is one) = omega (arith, one)
kind-order l c h s base frame slots from to kind y (search_kind own labels held fit order one) = omega (arith, one)
kind-order l c h s base frame slots from to kind y (catch_kind is stays one) = omega (arith, one)
kind-order l c h s base frame slots from to kind y (exit_kind one) = omega (arith, one)

-- ---- stacks

agrees-found : {M : Type 0} (w : World M) (s : StoreView M) (a : ArenasView M) (h g : Here) (r : Option (Entry M)) →
    ((x : Entry M) → r ≡ Some x → back_here (moved w s a) x ≡ back_here w x) → g ≡ h → agrees_from w r h → agrees_from (moved w s a) r g
agrees-found w s a h g None stay same agrees = tt
agrees-found w s a h g (Some x) stay same agrees =
    subst (λ b. Extend b.terms g.terms × (take x.back.base b.slots ≡ take x.back.base g.slots) × (x.back.base ≤ length g.slots) × (take x.back.frames g.frames ≡ b.frames))
    (sym (stay x refl))
    (subst (λ q. Extend (back_here w x).terms q.terms × (take x.back.base (back_here w x).slots ≡ take x.back.base q.slots) × (x.back.base ≤ length q.slots) × (take x.back.frames q.frames ≡ (back_here w x).frames))
    (sym same) agrees)

pub entry-below : {M : Type 0} (w : World M) (s : StoreView M) (a : ArenasView M) (n top m from level : ℕ) (es : List EntryData) → Leaves w s a n top → m ≤ n →
    StackIs w m from es → level ≤ m → (x : Entry M) → entry_at (entries_of w) level ≡ Some x → back_here (moved w s a) x ≡ back_here w x
entry-below w s a n top m from zero es leaves fit stack within x at = absurd cc
entry-below w s a n top m from (suc i) es leaves fit stack within x at =
    back-stays w s a n top i x leaves (omega (arith, fit, within)) at (entry-facts w m from es i x stack (omega (arith, within)) at)

-- the entries below stay
pub agrees-moves : {M : Type 0} (w : World M) (s : StoreView M) (a : ArenasView M) (n top m from level : ℕ) (es : List EntryData) (h g : Here) → Leaves w s a n top → m ≤ n →
    StackIs w m from es → level ≤ m → g ≡ h → Agrees w level h → Agrees (moved w s a) level g
agrees-moves w s a n top m from level es h g leaves fit stack within same agrees =
    subst (λ r. agrees_from (moved w s a) r g) (entry_at-take (entries_of w) a.entries n level (omega (arith, fit, within)) leaves.entries)
    (agrees-found w s a h g (entry_at (entries_of w) level) (entry-below w s a n top m from level es leaves fit stack within) same agrees)

above-same : {M : Type 0} (w : World M) (s : StoreView M) (a : ArenasView M) (r : Option (Entry M)) (x : Entry M) → IsAbove w r x → IsAbove (moved w s a) r x
above-same w s a None x h = h
above-same w s a (Some y) x h = h

pub above-moves : {M : Type 0} (w : World M) (s : StoreView M) (a : ArenasView M) (r q : Option (Entry M)) (x : Entry M) → r ≡ q → IsAbove w r x → IsAbove (moved w s a) q x
above-moves w s a r q x same h = subst (λ o. IsAbove (moved w s a) o x) same (above-same w s a r x h)

pub entry-moves : {M : Type 0} (w : World M) (s : StoreView M) (a : ArenasView M) (n top j from to : ℕ) (fs : List EntryData) (x : Entry M) (y : EntryData) → Leaves w s a n top → suc j ≤ n → to ≤ top → slice_get (entries_of w) j ≡ Some x →
    EntryIs w fs (entry_at (entries_of w) j) from to x y → StackIs w j from fs → EntryIs (moved w s a) fs (entry_at a.entries j) from to x y
entry-moves w s a n top j from to fs x y leaves fit some at is below =
    let facts : EntryFacts w j x = facts-of w fs (entry_at (entries_of w) j) from to j x y (stack-length w j from fs below) is in
    let stays : back_here (moved w s a) x ≡ back_here w x = back-stays w s a n top j x leaves (omega (arith, fit)) at facts in
    let mark : s.at_mark x.mark ≡ w.store.at_mark x.mark = (leaves.marks j x (omega (arith, fit)) at is.good).1 in
    let order : from ≤ to = kind-order w.loaded w.arenas.collected (back_here w x) (w.store.at_mark x.mark).state x.back.base x.back.frame x.back.blocks.slots from to x.back.kind y is.kind in
    record {
      good = (leaves.marks j x (omega (arith, fit)) at is.good).0;
      state = subst (λ o. Rests o.state) (sym mark) is.state;
      tables = subst (λ o. Extend w.loaded.terms o.terms) (sym mark) is.tables;
      level = is.level;
      kept = (leaves.blocks j x (omega (arith, fit)) at is.kept).0;
      frames = (leaves.frames j x (omega (arith, fit)) at is.frames).0;
      agrees = agrees-moves w s a n top j from x.back.level fs (back_here w x) (back_here (moved w s a) x) leaves (omega (arith, fit)) below facts.level stays is.agrees;
      kind = subst (λ h. KindIs w.loaded a.collected h (s.at_mark x.mark).state x.back.base x.back.frame x.back.blocks.slots from to x.back.kind y) (sym stays)
          (subst (λ o. KindIs w.loaded a.collected (back_here w x) o.state x.back.base x.back.frame x.back.blocks.slots from to x.back.kind y) (sym mark)
          (kind-moves w.loaded w.arenas.collected a.collected (back_here w x) (w.store.at_mark x.mark).state x.back.base x.back.frame x.back.blocks.slots from to x.back.kind y
          (take-agrees to top w.arenas.collected a.collected some leaves.collected) (omega (arith, some, leaves.enough)) is.kind));
      older = above-moves w s a (entry_at (entries_of w) j) (entry_at a.entries j) x (entry_at-take (entries_of w) a.entries n j (omega (arith, fit)) leaves.entries) is.older;
      found = found-stays w.store s x.mark y (leaves.beside x.mark) mark leaves.names is.found;
    }

pub stack-moves : {M : Type 0} (w : World M) (s : StoreView M) (a : ArenasView M) (n top m to : ℕ) (es : List EntryData) → Leaves w s a n top → m ≤ n → to ≤ top →
    StackIs w m to es → StackIs (moved w s a) m to es
stack-moves w s a n top m to es leaves fit some no_entries = no_entries
stack-moves w s a n top m to es leaves fit some (entry_above j from fs x y at is below) =
    let order : from ≤ to = kind-order w.loaded w.arenas.collected (back_here w x) (w.store.at_mark x.mark).state x.back.base x.back.frame x.back.blocks.slots from to x.back.kind y is.kind in
    entry_above j from fs x y (sym (slice-take (entries_of w) a.entries n j (omega (arith, fit)) leaves.entries) ∙ at)
    (entry-moves w s a n top j from to fs x y leaves fit some at is below)
    (stack-moves w s a n top j from fs leaves (omega (arith, fit)) (omega (arith, order, some)) below)
