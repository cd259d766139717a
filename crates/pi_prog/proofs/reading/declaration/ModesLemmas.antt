-- Modes up to their closing parenthesis, as a walk from the left finds them; and lists of them.
use Rattle.std.proofs.Common.{◌≡◌, ℕ, ◌+◌, ◌-◌, ◌<◌, ◌≤◌, Bool, true, false, inl, inr, List, [], ◌∷◌, ◌++◌, length, length-take, drop, slice_get, codes, Option, Some, None, refl, ap, sym, subst, ◌∙◌, arith, append_assoc, append-nil}
use Rattle.std.specs.Prelude.{option_map, count_by, if◌then◌else◌}
use Rattle.std.specs.Str.{bytes_eq}
use Rattle.std.proofs.lemmas.Bool.{cases_Bool}
use Rattle.std.proofs.lemmas.Slice.Eq.{bytes_eq-Decides}
use Rattle.pi_syntax.specs.Crowding.{IsCrowded, is_opening, is_closing}
use Rattle.pi_syntax.specs.Tokens.{Token, Var, Atom, Word, Int, Str, Sign, End}
use Rattle.pi_syntax.specs.declared.program.Mode.{Mode}
use Rattle.pi_expr.specs.Crowds.{one_if}
use Rattle.pi_expr.specs.Faults.{stretch}
use Rattle.pi_expr.proofs.CrowdLemmas.{stretch_step, stretch_none}
use Rattle.pi_prog_clauses.specs.Declaration.{is_sign, mode_of, Modes, last_mode, more_modes, ModeList, mode_list, ModeLists, no_more, one_more, Opens, declaration, Declares, indexes, indexing}
use Rattle.pi_prog.specs.Pieces.{ShowsModes, ShowsModeList}
use Rattle.pi_prog.specs.declared.reading.declaration.modes.FoundModes.{FoundModes}
use Rattle.pi_prog.specs.declared.reading.declaration.modes.FoundModes.TheVariants as found
use Rattle.pi_prog.proofs.reading.BalanceLemmas.{count_step}
use Rattle.pi_prog.proofs.reading.CrowdingLemmas.{few_behind}

-- modes, and the tokens behind them
pub record Behind : Type 0 where
  pub modes : List Mode
  pub rest : List Token

abbrev pub behind : List Mode → List Token → Behind
behind ms ts = record { modes = ms; rest = ts }

abbrev pub with_modes : List Mode → Behind → Behind
with_modes ms b = behind (ms ++ b.modes) b.rest

abbrev modes_by : Option Mode → Token → List Token → Option Behind → Option Behind
modes_by None u ts later = None
modes_by (Some m) u ts later = if is_sign (codes ")") u then Some (behind (m ∷ []) ts) else if is_sign (codes ",") u then option_map (with_modes (m ∷ [])) later else None

abbrev pub modes_in : List Token → Option Behind
modes_in [] = None
modes_in (t ∷ []) = None
modes_in (t ∷ u ∷ ts) = modes_by (mode_of t) u ts (modes_in ts)

some_same : {X : Type 0} (x y : X) → Some x ≡ Some y → x ≡ y
some_same x y e = cc

none_is_some : {X : Type 0} (x : X) (o : Option X) → o ≡ None → o ≡ Some x → ⊥
none_is_some x o a b = cc

pub sign_is : (s : List ℕ) (t : Token) → is_sign s t ≡ true → t ≡ Sign s
sign_is s (Sign u) h = ap (λ x. Sign x) ((bytes_eq-Decides u s).0 h)
sign_is s (Var n) h = absurd (cc)
sign_is s (Atom n) h = absurd (cc)
sign_is s (Word n) h = absurd (cc)
sign_is s (Int n) h = absurd (cc)
sign_is s (Str n) h = absurd (cc)
sign_is s End h = absurd (cc)

comma_closes_not : (t : Token) → is_sign (codes ",") t ≡ true → is_sign (codes ")") t ≡ false
comma_closes_not t h = subst (λ u. is_sign (codes ")") u ≡ false) (sym (sign_is (codes ",") t h)) refl

last_step : (t u : Token) (ts : List Token) (m : Mode) → mode_of t ≡ Some m → is_sign (codes ")") u ≡ true → modes_in (t ∷ u ∷ ts) ≡ Some (behind (m ∷ []) ts)
last_step t u ts m h k = rw (h, k) refl

more_step : (t u : Token) (ts : List Token) (m : Mode) → mode_of t ≡ Some m → is_sign (codes ")") u ≡ false → is_sign (codes ",") u ≡ true → modes_in (t ∷ u ∷ ts) ≡ option_map (with_modes (m ∷ [])) (modes_in ts)
more_step t u ts m h n k = rw (h, n, k) refl

stop_step : (t u : Token) (ts : List Token) (m : Mode) → mode_of t ≡ Some m → is_sign (codes ")") u ≡ false → is_sign (codes ",") u ≡ false → modes_in (t ∷ u ∷ ts) ≡ None
stop_step t u ts m h n k = rw (h, n, k) refl

no_mode_step : (t u : Token) (ts : List Token) → mode_of t ≡ None → modes_in (t ∷ u ∷ ts) ≡ None
no_mode_step t u ts h = rw h refl

-- each derivation is found
pub modes_all : {ts rest : List Token} {ms : List Mode} → Modes ts ms rest → modes_in ts ≡ Some (behind ms rest)
modes_all (last_mode {t} {close} {ts} {m} h k) = last_step t close ts m h k
modes_all (more_modes {t} {comma} {ts} {rest} {m} {ms} h k more) = more_step t comma ts m h (comma_closes_not comma k) k ∙ ap (option_map (with_modes (m ∷ []))) (modes_all more)

-- what is found is derived

abbrev AreModes : List Token → Behind → Type 0
AreModes ts b = Modes ts b.modes b.rest

abbrev AllAre : List Token → Type 0
AllAre ts = (b : Behind) → modes_in ts ≡ Some b → AreModes ts b

by_later : (t u : Token) (ts : List Token) (b : Behind) (m : Mode) → AllAre ts → mode_of t ≡ Some m → is_sign (codes ",") u ≡ true → (o : Option Behind) → modes_in ts ≡ o
    → option_map (with_modes (m ∷ [])) o ≡ Some b → AreModes (t ∷ u ∷ ts) b
by_later t u ts b m all e q None is h = absurd (cc)
by_later t u ts b m all e q (Some c) is h = subst (AreModes (t ∷ u ∷ ts)) (some_same (with_modes (m ∷ []) c) b h) (more_modes e q (all c is))

by_close : (t u : Token) (ts : List Token) (b : Behind) (m : Mode) → AllAre ts → mode_of t ≡ Some m → (closes : Bool) → is_sign (codes ")") u ≡ closes → (parts : Bool) → is_sign (codes ",") u ≡ parts
    → (if closes then Some (behind (m ∷ []) ts) else if parts then option_map (with_modes (m ∷ [])) (modes_in ts) else None) ≡ Some b → AreModes (t ∷ u ∷ ts) b
by_close t u ts b m all e true c p q h = subst (AreModes (t ∷ u ∷ ts)) (some_same (behind (m ∷ []) ts) b h) (last_mode e c)
by_close t u ts b m all e false c true q h = by_later t u ts b m all e q (modes_in ts) refl h
by_close t u ts b m all e false c false q h = absurd (cc)

by_mode : (t u : Token) (ts : List Token) (b : Behind) → AllAre ts → (o : Option Mode) → mode_of t ≡ o → modes_by o u ts (modes_in ts) ≡ Some b → AreModes (t ∷ u ∷ ts) b
by_mode t u ts b all None e h = absurd (cc)
by_mode t u ts b all (Some m) e h = by_close t u ts b m all e (is_sign (codes ")") u) refl (is_sign (codes ",") u) refl h

pub modes_are : (ts : List Token) (b : Behind) → modes_in ts ≡ Some b → AreModes ts b
modes_are [] b h = absurd (cc)
modes_are (t ∷ []) b h = absurd (cc)
modes_are (t ∷ u ∷ ts) b h = by_mode t u ts b (modes_are ts) (mode_of t) refl h

-- ---- the walk

modes_none : (o : Option Behind) → o ≡ option_map (with_modes []) o
modes_none None = refl
modes_none (Some b) = refl

modes_more : (ms : List Mode) (m : Mode) (o : Option Behind) → option_map (with_modes ms) (option_map (with_modes (m ∷ [])) o) ≡ option_map (with_modes (ms ++ m ∷ [])) o
modes_more ms m None = refl
modes_more ms m (Some b) = ap (λ x. Some (behind x b.rest)) (sym (append_assoc ms (m ∷ []) b.modes))

abbrev pub Walked : List Token → ℕ → ℕ → ℕ → List Mode → Type 0
Walked ts from at to ms = modes_in (stretch ts from to) ≡ option_map (with_modes ms) (modes_in (stretch ts at to))

two_step : (ts : List Token) (at behind to : ℕ) (t u : Token) → behind ≡ at + 2 → 2 ≤ to - at → slice_get ts at ≡ Some t → slice_get ts (at + 1) ≡ Some u → stretch ts at to ≡ t ∷ u ∷ stretch ts behind to
two_step ts at behind to t u n h is_t is_u = stretch_step ts at (at + 1) to t refl is_t (omega arith) ∙ ap (λ xs. t ∷ xs) (stretch_step ts (at + 1) behind to u (omega (arith, n)) is_u (omega arith))

pub walked_none : (ts : List Token) (from to : ℕ) (ms : List Mode) → ms ≡ [] → Walked ts from from to ms
walked_none ts from to ms is = modes_none (modes_in (stretch ts from to)) ∙ ap (λ xs. option_map (with_modes xs) (modes_in (stretch ts from to))) (sym is)

nothing : (ts : List Token) (from to : ℕ) → modes_in (stretch ts from to) ≡ None → ShowsModes ts from to found.Nothing
nothing ts from to none ms rest modes = none_is_some (behind ms rest) (modes_in (stretch ts from to)) none (modes_all modes)

short : (xs : List Token) → length xs < 2 → modes_in xs ≡ None
short [] h = refl
short (x ∷ []) h = refl
short (x ∷ y ∷ xs) h = absurd (omega arith)

pub walked_end : (ts : List Token) (from at to : ℕ) (ms : List Mode) → to - at < 2 → Walked ts from at to ms → ShowsModes ts from to found.Nothing
walked_end ts from at to ms h walked = nothing ts from to (walked ∙ ap (option_map (with_modes ms)) (short (stretch ts at to) (omega (arith, h, length-take (to - at) (drop at ts)))))

pub walked_not : (ts : List Token) (from at to : ℕ) (ms : List Mode) (t : Token) → 2 ≤ to - at → slice_get ts at ≡ Some t → mode_of t ≡ None → Walked ts from at to ms → ShowsModes ts from to found.Nothing
walked_not ts from at to ms t h is lacks walked =
    nothing ts from to (walked ∙ ap (λ xs. option_map (with_modes ms) (modes_in xs)) (stretch_step ts at (at + 1) to t refl is (omega arith)) ∙ ap (option_map (with_modes ms)) (no_mode t (stretch ts (at + 1) to) lacks))
  where
    no_mode : (t : Token) (xs : List Token) → mode_of t ≡ None → modes_in (t ∷ xs) ≡ None
    no_mode t [] lacks = refl
    no_mode t (u ∷ xs) lacks = no_mode_step t u xs lacks

pub walked_stop : (ts : List Token) (from at to : ℕ) (ms : List Mode) (t u : Token) (m : Mode) → 2 ≤ to - at → slice_get ts at ≡ Some t → slice_get ts (at + 1) ≡ Some u → mode_of t ≡ Some m → is_sign (codes ")") u ≡ false → is_sign (codes ",") u ≡ false
    → Walked ts from at to ms → ShowsModes ts from to found.Nothing
walked_stop ts from at to ms t u m h is_t is_u mode closes_not parts_not walked =
    nothing ts from to (walked ∙ ap (λ xs. option_map (with_modes ms) (modes_in xs)) (two_step ts at (at + 2) to t u refl h is_t is_u) ∙ ap (option_map (with_modes ms)) (stop_step t u (stretch ts (at + 2) to) m mode closes_not parts_not))

pub walked_more : (ts : List Token) (from at behind to : ℕ) (ms all : List Mode) (t u : Token) (m : Mode) → behind ≡ at + 2 → 2 ≤ to - at → slice_get ts at ≡ Some t → slice_get ts (at + 1) ≡ Some u → mode_of t ≡ Some m → is_sign (codes ",") u ≡ true
    → all ≡ ms ++ m ∷ [] → Walked ts from at to ms → Walked ts from behind to all
walked_more ts from at behind to ms all t u m n h is_t is_u mode parts made walked =
    walked ∙ ap (λ xs. option_map (with_modes ms) (modes_in xs)) (two_step ts at behind to t u n h is_t is_u)
    ∙ ap (option_map (with_modes ms)) (more_step t u (stretch ts behind to) m mode (comma_closes_not u parts) parts)
    ∙ modes_more ms m (modes_in (stretch ts behind to))
    ∙ ap (λ xs. option_map (with_modes xs) (modes_in (stretch ts behind to))) (sym made)

pub walked_last : (ts : List Token) (from at end to : ℕ) (ms all : List Mode) (t u : Token) (m : Mode) → from ≤ at → end ≡ at + 2 → 2 ≤ to - at → slice_get ts at ≡ Some t → slice_get ts (at + 1) ≡ Some u → mode_of t ≡ Some m → is_sign (codes ")") u ≡ true
    → all ≡ ms ++ m ∷ [] → Walked ts from at to ms → ShowsModes ts from to (found.Found all end)
walked_last ts from at end to ms all t u m o n h is_t is_u mode closes made walked =
    let whole : modes_in (stretch ts from to) ≡ Some (behind all (stretch ts end to)) =
    walked ∙ ap (λ xs. option_map (with_modes ms) (modes_in xs)) (two_step ts at end to t u n h is_t is_u)
    ∙ ap (option_map (with_modes ms)) (last_step t u (stretch ts end to) m mode closes)
    ∙ ap (λ xs. Some (behind xs (stretch ts end to))) (sym made) in
    (omega (arith, o, n), omega (arith, n, h), modes_are (stretch ts from to) (behind all (stretch ts end to)) whole)

-- ---- a list in parentheses

no_list : {ms : List Mode} {rest : List Token} → ¬ ModeList [] ms rest
no_list h = elim h [ ]

no_paren : {t : Token} {ts : List Token} {ms : List Mode} {rest : List Token} → is_sign (codes "(") t ≡ false → ¬ ModeList (t ∷ ts) ms rest
no_paren lacks (mode_list h modes) = absurd (cc)

no_modes : {t : Token} {ts : List Token} {ms : List Mode} {rest : List Token} → ((ms : List Mode) (rest : List Token) → ¬ Modes ts ms rest) → ¬ ModeList (t ∷ ts) ms rest
no_modes lacks (mode_list h modes) = lacks _ _ modes

pub list_none : (ts : List Token) (from to : ℕ) → to ≤ from → ShowsModeList ts from to found.Nothing
list_none ts from to h ms rest listed = no_list (subst (λ xs. ModeList xs ms rest) (stretch_none ts from to h) listed)

pub list_not : (ts : List Token) (from to : ℕ) (t : Token) → from < to → slice_get ts from ≡ Some t → is_sign (codes "(") t ≡ false → ShowsModeList ts from to found.Nothing
list_not ts from to t h is lacks ms rest listed = no_paren lacks (subst (λ xs. ModeList xs ms rest) (stretch_step ts from (from + 1) to t refl is h) listed)

pub list_found : (ts : List Token) (from next to : ℕ) (t : Token) (f : FoundModes) → next ≡ from + 1 → from < to → slice_get ts from ≡ Some t → is_sign (codes "(") t ≡ true → ShowsModes ts next to f → ShowsModeList ts from to f
list_found ts from next to t (found.Found ms end) n h is paren (a, b, modes) =
    (omega (arith, a, n), b, subst (λ xs. ModeList xs ms (stretch ts end to)) (sym (stretch_step ts from next to t n is h)) (mode_list paren modes))
list_found ts from next to t found.Nothing n h is paren none = λ ms rest listed. no_modes none (subst (λ xs. ModeList xs ms rest) (stretch_step ts from next to t n is h) listed)

-- ---- lists one after the other

abbrev pub Goes : List Token → ℕ → ℕ → ℕ → List (List Mode) → Type 0
Goes ts from at to mss = (more : List (List Mode)) (rest : List Token) → ModeLists (stretch ts at to) more rest → ModeLists (stretch ts from to) (mss ++ more) rest

pub goes_none : (ts : List Token) (from to : ℕ) (mss : List (List Mode)) → mss ≡ [] → Goes ts from from to mss
goes_none ts from to mss is more rest lists = subst (λ xs. ModeLists (stretch ts from to) (xs ++ more) rest) (sym is) lists

pub goes_more : (ts : List Token) (from at end to : ℕ) (mss all : List (List Mode)) (ms : List Mode) → all ≡ mss ++ ms ∷ [] → ModeList (stretch ts at to) ms (stretch ts end to) → Goes ts from at to mss → Goes ts from end to all
goes_more ts from at end to mss all ms made listed goes more rest lists =
    subst (λ xs. ModeLists (stretch ts from to) xs rest) (sym (append_assoc mss (ms ∷ []) more) ∙ ap (λ xs. xs ++ more) (sym made)) (goes (ms ∷ more) rest (one_more listed lists))

pub goes_all : (ts : List Token) (from at to : ℕ) (mss : List (List Mode)) → ShowsModeList ts at to found.Nothing → Goes ts from at to mss → ModeLists (stretch ts from to) mss (stretch ts at to)
goes_all ts from at to mss none goes = subst (λ xs. ModeLists (stretch ts from to) xs (stretch ts at to)) (append-nil mss) (goes [] (stretch ts at to) (no_more none))

-- ---- brackets of mode lists

-- so many more brackets are closed than opened in front of the rest
record Front (ts rest : List Token) (k : ℕ) : Type 0 where
  front : List Token
  is : ts ≡ front ++ rest
  count : count_by is_closing front ≡ count_by is_opening front + k

plain_modes : (t : Token) (m : Mode) → mode_of t ≡ Some m → (one_if (is_closing t) ≡ 0) × (one_if (is_opening t) ≡ 0)
unfolding is_opening is_closing
plain_modes (Sign s) m h =
    elim (cases_Bool (bytes_eq s (codes "+"))) [
      | inl plus ↦ subst (λ x. (one_if (is_closing (Sign x)) ≡ 0) × (one_if (is_opening (Sign x)) ≡ 0)) (sym ((bytes_eq-Decides s (codes "+")).0 plus)) (refl, refl)
      | inr not_plus ↦ elim (cases_Bool (bytes_eq s (codes "-"))) [
        | inl minus ↦ subst (λ x. (one_if (is_closing (Sign x)) ≡ 0) × (one_if (is_opening (Sign x)) ≡ 0)) (sym ((bytes_eq-Decides s (codes "-")).0 minus)) (refl, refl)
        | inr none ↦ absurd (none_is_some m (mode_of (Sign s)) (rw (not_plus, none) refl) h)
      ]
    ]
plain_modes (Var n) m h = (refl, refl)
plain_modes (Atom n) m h = (refl, refl)
plain_modes (Word n) m h = (refl, refl)
plain_modes (Int n) m h = (refl, refl)
plain_modes (Str n) m h = (refl, refl)
plain_modes End m h = (refl, refl)

of_sign : (s : List ℕ) (t : Token) (c o : ℕ) → is_sign s t ≡ true → one_if (is_closing (Sign s)) ≡ c → one_if (is_opening (Sign s)) ≡ o → (one_if (is_closing t) ≡ c) × (one_if (is_opening t) ≡ o)
of_sign s t c o h x y = subst (λ u. (one_if (is_closing u) ≡ c) × (one_if (is_opening u) ≡ o)) (sym (sign_is s t h)) (x, y)

comma_counts : (t : Token) → is_sign (codes ",") t ≡ true → (one_if (is_closing t) ≡ 0) × (one_if (is_opening t) ≡ 0)
unfolding is_opening is_closing
comma_counts t h = of_sign (codes ",") t 0 0 h refl refl

close_counts : (t : Token) → is_sign (codes ")") t ≡ true → (one_if (is_closing t) ≡ 1) × (one_if (is_opening t) ≡ 0)
unfolding is_opening is_closing
close_counts t h = of_sign (codes ")") t 1 0 h refl refl

paren_counts : (t : Token) → is_sign (codes "(") t ≡ true → (one_if (is_closing t) ≡ 0) × (one_if (is_opening t) ≡ 1)
unfolding is_opening is_closing
paren_counts t h = of_sign (codes "(") t 0 1 h refl refl

front_on : (t : Token) (ts rest : List Token) (j k : ℕ) → k + one_if (is_opening t) ≡ j + one_if (is_closing t) → Front ts rest j → Front (t ∷ ts) rest k
front_on t ts rest j k e f = record {
  front = t ∷ f.front;
  is = ap (λ xs. t ∷ xs) f.is;
  count = omega (arith, e, f.count, count_step is_closing t f.front, count_step is_opening t f.front);
}

front_none : (ts : List Token) → Front ts ts 0
front_none ts = record { front = []; is = refl; count = refl }

modes_front : {ts rest : List Token} {ms : List Mode} → Modes ts ms rest → Front ts rest 1
modes_front (last_mode {t} {close} {ts} {m} h k) =
    front_on t (close ∷ ts) ts 1 1 (omega (arith, plain_modes t m h)) (front_on close ts ts 0 1 (omega (arith, close_counts close k)) (front_none ts))
modes_front (more_modes {t} {comma} {ts} {rest} {m} {ms} h k more) =
    front_on t (comma ∷ ts) rest 1 1 (omega (arith, plain_modes t m h)) (front_on comma ts rest 1 1 (omega (arith, comma_counts comma k)) (modes_front more))

list_front : {ts rest : List Token} {ms : List Mode} → ModeList ts ms rest → Front ts rest 0
list_front (mode_list {paren} {ts} {rest} {ms} h modes) = front_on paren ts rest 1 0 (omega (arith, paren_counts paren h)) (modes_front modes)

front_few : (ts rest : List Token) → Front ts rest 0 → ¬ IsCrowded ts → ¬ IsCrowded rest
front_few ts rest f few = few_behind ts f.front rest f.is (omega (arith, f.count)) few

pub lists_few : {ts rest : List Token} {mss : List (List Mode)} → ModeLists ts mss rest → ¬ IsCrowded ts → ¬ IsCrowded rest
lists_few (no_more none) few = few
lists_few (one_more {ts} {mid} {rest} listed lists) few = lists_few lists (front_few ts mid (list_front listed) few)

atom_front : (name : List ℕ) (ts : List Token) → Front (Atom name ∷ ts) ts 0
unfolding is_opening is_closing
atom_front name ts = front_on (Atom name) ts ts 0 0 refl (front_none ts)

declares_few : {name : List ℕ} {ts rest : List Token} {mss : List (List Mode)} → Declares name ts (indexing mss rest) → ¬ IsCrowded ts → ¬ IsCrowded rest
declares_few (indexes lists) few = lists_few lists few

pub opens_few : {ts rest : List Token} {mss : List (List Mode)} → Opens ts (indexing mss rest) → ¬ IsCrowded ts → ¬ IsCrowded rest
opens_few (declaration {name} {ts} is declares) few = declares_few declares (front_few (Atom name ∷ ts) ts (atom_front name ts) few)
