-- A store that grows keeps its tokens.
use Rattle.std.proofs.Common.{◌≡◌, ℕ, ◌+◌, ◌-◌, ◌<◌, ◌≤◌, List, ◌++◌, slice_index, length, drop, get_or, slice_range, take, sym, ◌∙◌, ap, subst, arith, length-append, length-drop, String, string_bytes, string_len, refl}
use Rattle.std.proofs.lemmas.List.{take-append-le, drop-append-le, drop_at, take_at, take_all, get_or_append_left}
use Rattle.std.proofs.lemmas.Str.{length-encode, len_utf8_bounds, IsCharBoundary-from_take, IsUtf8-take}
use Rattle.std.specs.declared.alloc.Global.{Global}
use Rattle.std.specs.Char.{encode_utf8}
use Rattle.std.specs.Str.{IsUtf8, IsCharBoundary}
use Rattle.pi_lex.specs.declared.form.Form.{Form}
use Rattle.pi_lex.specs.declared.form.FormKind.{FormKind}
use Rattle.pi_lex.specs.declared.form.FormKind.TheVariants as form
use Rattle.pi_lex.specs.declared.store.Span.{Span}
use Rattle.pi_lex.specs.declared.store.Store.{Store}
use Rattle.pi_lex.specs.Spans.{span, spanned, IsSpan, counted, spelled_at, IsCounted}
use Rattle.pi_lex.specs.Store.{said, long_at, told, token_of, number_of, Lies, IsForm, Extends, Keeps}
use Rattle.pi_syntax.specs.Tokens.{Var, Atom, Word, Int, Str, Sign}

pub string_len-bytes : (s : String Global) → string_len s ≡ length (string_bytes s)
string_len-bytes s = s.bytes.ok.0

-- named by the tactics of two functions
pub encode_short : (c : ℕ) → length (encode_utf8 c) ≤ 4
encode_short c = omega (arith, length-encode c, len_utf8_bounds c)

-- what was appended is a span
pub IsSpan-appended : (old new w : List ℕ) (from len : ℕ) → new ≡ old ++ w → from ≡ length old → len ≡ length new - from → IsUtf8 old → IsUtf8 new
    → IsSpan new (span from len)
IsSpan-appended old new w from len grown starts stops before after =
    let longer : length new ≡ length old + length w = ap length grown ∙ length-append old w in
    record {
      within = omega (arith, longer, starts, stops);
      starts = rw (grown, take_at old w from (sym starts)) before;
      stops = rw (take_all (from + len) new (omega (arith, longer, starts, stops))) after;
    }

pub spanned-appended : (old new w : List ℕ) (from len : ℕ) → new ≡ old ++ w → from ≡ length old → len ≡ length new - from → spanned new (span from len) ≡ w
spanned-appended old new w from len grown starts stops =
    let longer : length new ≡ length old + length w = ap length grown ∙ length-append old w in
    rw (grown, drop_at old w from (sym starts)) (take_all len w (omega (arith, longer, starts, stops)))

pub IsSpan-extends : (bytes new : List ℕ) (s : Span) → Extends bytes new → IsSpan bytes s → IsSpan new s
IsSpan-extends bytes new s more is =
    let start : s.from ≤ length bytes = omega (arith, is.within) in
    record {
      within = omega (arith, is.within, ap length more.1, length-append bytes more.0);
      starts = rw (more.1, take-append-le s.from bytes more.0 start) is.starts;
      stops = rw (more.1, take-append-le (s.from + s.len) bytes more.0 is.within) is.stops;
    }

pub spanned-extends : (bytes new : List ℕ) (s : Span) → Extends bytes new → IsSpan bytes s → spanned new s ≡ spanned bytes s
spanned-extends bytes new s more is =
    let start : s.from ≤ length bytes = omega (arith, is.within) in
    let reach : s.len ≤ length (drop s.from bytes) = omega (arith, is.within, length-drop s.from bytes) in
    rw (more.1, drop-append-le s.from bytes more.0 start, take-append-le s.len (drop s.from bytes) more.0 reach)

pub get_or-extends : {X : Type 0} (xs ys : List X) (i : ℕ) (d : X) → Extends xs ys → i < length xs → get_or ys i d ≡ get_or xs i d
get_or-extends xs ys i d more within = rw more.1 (get_or_append_left xs more.0 d i within)

pub within-extends : {X : Type 0} (xs ys : List X) (i : ℕ) → Extends xs ys → i < length xs → i < length ys
within-extends xs ys i more within = omega (arith, within, ap length more.1, length-append xs more.0)

pub IsCounted-extends : (bytes new : List ℕ) (place : ℕ) → Extends bytes new → IsCounted bytes place → IsCounted new place
IsCounted-extends bytes new place more is =
    let same : slice_index new place ≡ slice_index bytes place = get_or-extends bytes new place 0 more is.within in
    record {
      within = within-extends bytes new place more is.within;
      fits = rw same is.fits;
      spelled = rw same (IsSpan-extends bytes new (counted bytes place) more is.spelled);
    }

pub spelled_at-extends : (bytes new : List ℕ) (place : ℕ) → Extends bytes new → IsCounted bytes place → spelled_at new place ≡ spelled_at bytes place
spelled_at-extends bytes new place more is =
    let same : slice_index new place ≡ slice_index bytes place = get_or-extends bytes new place 0 more is.within in
    rw same (spanned-extends bytes new (counted bytes place) more is.spelled)

-- where a counted spelling may be cut out
pub counted_ends : (bytes : List ℕ) (place : ℕ) → IsUtf8 bytes → IsCounted bytes place
    → IsCharBoundary bytes (place - slice_index bytes place) × IsCharBoundary bytes place
counted_ends bytes place utf8 is =
    let stop : place - slice_index bytes place + slice_index bytes place ≡ place = omega (arith, is.fits) in (
      IsCharBoundary-from_take bytes (place - slice_index bytes place) utf8 (omega (arith, is.within)) is.spelled.starts,
      IsCharBoundary-from_take bytes place utf8 (omega (arith, is.within)) (subst (λ n. IsUtf8 (take n bytes)) stop is.spelled.stops),
    )

-- and what may be cut out there is counted
pub counted_between : (bytes : List ℕ) (place len : ℕ) → IsUtf8 bytes → place < length bytes → len ≡ slice_index bytes place → len ≤ place
    → IsCharBoundary bytes (place - len) → IsCharBoundary bytes place → IsCounted bytes place × (slice_range bytes (place - len) place ≡ spelled_at bytes place)
counted_between bytes place len utf8 within reads fits starts stops =
    let stop : place ≡ place - len + len = omega (arith, fits) in
    let size : place - (place - len) ≡ len = omega (arith, fits) in
    let is : IsSpan bytes (span (place - len) len) = record {
      within = omega (arith, within, fits);
      starts = IsUtf8-take bytes (place - len) utf8 starts;
      stops = subst (λ n. IsUtf8 (take n bytes)) stop (IsUtf8-take bytes place utf8 stops);
    } in (
      record {
        within = within;
        fits = subst (λ n. n ≤ place) reads fits;
        spelled = subst (λ n. IsSpan bytes (span (place - n) n)) reads is;
      },
      ap (λ n. take n (drop (place - len) bytes)) size ∙ ap (λ n. spanned bytes (span (place - n) n)) reads,
    )

pub told-kept : (old new : Store) (k : FormKind) (n : ℕ) → Keeps old new → Lies old k n → told new k n ≡ told old k n
told-kept old new form.Variable place keeps is = ap Var (spelled_at-extends (string_bytes old.buffer) (string_bytes new.buffer) place keeps.buffer is)
told-kept old new form.Atom place keeps is = ap Atom (spelled_at-extends (string_bytes old.buffer) (string_bytes new.buffer) place keeps.buffer is)
told-kept old new form.Word place keeps is = ap Word (spelled_at-extends (string_bytes old.buffer) (string_bytes new.buffer) place keeps.buffer is)
told-kept old new form.Text place keeps is = ap Str (spelled_at-extends (string_bytes old.buffer) (string_bytes new.buffer) place keeps.buffer is)
told-kept old new form.Sign place keeps is = ap Sign (spelled_at-extends (string_bytes old.buffer) (string_bytes new.buffer) place keeps.buffer is)
told-kept old new form.Long place keeps is =
    rw (get_or-extends old.longs.items new.longs.items place _ keeps.longs is.0)
    (ap (said (long_at old.longs.items place).kind) (spanned-extends (string_bytes old.buffer) (string_bytes new.buffer) (long_at old.longs.items place).span keeps.buffer is.1))
told-kept old new form.Small value keeps is = refl
told-kept old new form.Large place keeps is = ap Int (get_or-extends old.numbers.items new.numbers.items place _ keeps.numbers is)
told-kept old new form.EndPoint place keeps is = refl

pub Lies-kept : (old new : Store) (k : FormKind) (n : ℕ) → Keeps old new → Lies old k n → Lies new k n
Lies-kept old new form.Variable place keeps is = IsCounted-extends (string_bytes old.buffer) (string_bytes new.buffer) place keeps.buffer is
Lies-kept old new form.Atom place keeps is = IsCounted-extends (string_bytes old.buffer) (string_bytes new.buffer) place keeps.buffer is
Lies-kept old new form.Word place keeps is = IsCounted-extends (string_bytes old.buffer) (string_bytes new.buffer) place keeps.buffer is
Lies-kept old new form.Text place keeps is = IsCounted-extends (string_bytes old.buffer) (string_bytes new.buffer) place keeps.buffer is
Lies-kept old new form.Sign place keeps is = IsCounted-extends (string_bytes old.buffer) (string_bytes new.buffer) place keeps.buffer is
Lies-kept old new form.Long place keeps is = (
  within-extends old.longs.items new.longs.items place keeps.longs is.0,
  rw (get_or-extends old.longs.items new.longs.items place _ keeps.longs is.0)
      (IsSpan-extends (string_bytes old.buffer) (string_bytes new.buffer) (long_at old.longs.items place).span keeps.buffer is.1),
)
Lies-kept old new form.Small value keeps is = tt
Lies-kept old new form.Large place keeps is = within-extends old.numbers.items new.numbers.items place keeps.numbers is
Lies-kept old new form.EndPoint place keeps is = tt

pub token_of-kept : (old new : Store) (f : Form) → Keeps old new → IsForm old f → token_of new f ≡ token_of old f
token_of-kept old new f keeps is = told-kept old new f.kind (number_of f) keeps is

pub IsForm-kept : (old new : Store) (f : Form) → Keeps old new → IsForm old f → IsForm new f
IsForm-kept old new f keeps is = Lies-kept old new f.kind (number_of f) keeps is
