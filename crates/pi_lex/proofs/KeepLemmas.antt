-- What is kept of one token.
use Rattle.std.proofs.Common.{◌≡◌, ℕ, ◌+◌, ◌-◌, ◌*◌, ◌<◌, ◌≤◌, List, [], ◌∷◌, ◌++◌, sym, ◌∙◌, ap, subst, arith, String, string_bytes, string_len, Option, Some, IfSome, Result, Ok, Err, IfOk}
use Rattle.std.proofs.lemmas.List.{append-nil, append_assoc}
use Rattle.std.proofs.lemmas.Str.{IsUtf8-string_bytes}
use Rattle.std.specs.declared.alloc.AllocError.{AllocError}
use Rattle.std.specs.declared.alloc.Global.{Global}
use Rattle.pi_lex.specs.declared.form.Form.{Form}
use Rattle.pi_lex.specs.declared.form.Kind.{Kind}
use Rattle.pi_lex.specs.declared.store.Store.{Store}
use Rattle.pi_lex.specs.Items.{item_len, tokens_from}
use Rattle.pi_lex.specs.Spans.{span, spanned, IsSpan}
use Rattle.pi_lex.specs.Store.{said, token_of, IsForm, Extends, Keeps, GrowsBy, HasRoom, IsKept, IsTaken}
use Rattle.pi_lex.proofs.StoreLemmas.{string_len-bytes, IsSpan-appended, spanned-appended}
use Rattle.pi_syntax.specs.Tokens.{Item, Ended, Blank, Lexeme, Wide, Bad}

-- room for fewer
pub HasRoom-fewer : (store : Store) (n m : ℕ) → HasRoom store n → m ≤ n → HasRoom store m
HasRoom-fewer store n m room fewer = record {
  buffer = omega (arith, room.buffer, fewer);
  longs = omega (arith, room.longs, fewer);
  numbers = omega (arith, room.numbers, fewer);
  forms = omega (arith, room.forms, fewer);
}

-- what room is left
pub HasRoom-left : (old new : Store) (n m : ℕ) → HasRoom old n → GrowsBy old new m → 0 < m → m ≤ n → HasRoom new (n - m)
HasRoom-left old new n m room grows some within = record {
  buffer = omega (arith, room.buffer, grows.buffer, some, within);
  longs = omega (arith, room.longs, grows.longs, some, within);
  numbers = omega (arith, room.numbers, grows.numbers, some, within);
  forms = omega (arith, room.forms, grows.forms, some, within);
}

Extends-then : {X : Type 0} (xs ys zs : List X) → Extends xs ys → Extends ys zs → Extends xs zs
Extends-then xs ys zs first then = (first.0 ++ then.0, then.1 ∙ (ap (λ l. l ++ then.0) first.1 ∙ append_assoc xs first.0 then.0))

-- what the buffer came to hold was kept by `refer`
pub kept_referred : (old new : Store) (buffer : String Global) (seats : List ℕ) (w : List ℕ) (found : Result Form AllocError) (k : Kind) (from n : ℕ)
    → string_bytes buffer ≡ string_bytes old.buffer ++ w → from ≡ string_len old.buffer → string_len buffer ≤ string_len old.buffer + 4 * n
    → IfOk found (λ f. IsKept (record { buffer = buffer; longs = old.longs; numbers = old.numbers; forms = old.forms; feeds = old.feeds; seats = seats }) new f
    (said k (spanned (string_bytes buffer) (span from (string_len buffer - from)))) 0)
    → IfOk found (λ f. IsKept old new f (said k w) n)
kept_referred old new buffer seats w (Ok f) k from n grown starts short kept =
    let start = starts ∙ string_len-bytes old.buffer in
    let stop = ap (λ l. l - from) (string_len-bytes buffer) in
    record {
      lies = kept.lies;
      says = kept.says ∙ ap (said k) (spanned-appended (string_bytes old.buffer) (string_bytes buffer) w from (string_len buffer - from) grown start stop);
      keeps = record {
        forms = kept.keeps.forms;
        feeds = kept.keeps.feeds;
        buffer = Extends-then (string_bytes old.buffer) (string_bytes buffer) (string_bytes new.buffer) (w, grown) kept.keeps.buffer;
        longs = kept.keeps.longs;
        numbers = kept.keeps.numbers;
      };
      grows = record { buffer = omega (arith, kept.grows.buffer, short); longs = kept.grows.longs; numbers = kept.grows.numbers; forms = kept.grows.forms };
    }
kept_referred old new buffer seats w (Err e) k from n grown starts short kept = tt

-- what was appended to the buffer can be referred to
pub span_appended : (old buffer : String Global) (w : List ℕ) (from : ℕ) → string_bytes buffer ≡ string_bytes old ++ w → from ≡ string_len old
    → IsSpan (string_bytes buffer) (span from (string_len buffer - from))
span_appended old buffer w from grown starts =
    IsSpan-appended (string_bytes old) (string_bytes buffer) w from (string_len buffer - from) grown (starts ∙ string_len-bytes old)
    (ap (λ l. l - from) (string_len-bytes buffer)) (IsUtf8-string_bytes old) (IsUtf8-string_bytes buffer)

-- a form that was found is the item's token
pub taken_some : (old new : Store) (found : Option Form) (f : Form) (item : Item) (line : ℕ) → IsTaken old new found item → found ≡ Some f
    → IsForm new f × Keeps old new × GrowsBy old new (item_len item) × (tokens_from item line ≡ (token_of new f, line) ∷ [])
taken_some old new found f Ended line h is = cc
taken_some old new found f (Blank n) line h is = cc
taken_some old new found f (Lexeme t n) line h is =
    let held : IfSome (Some f) (λ g. IsKept old new g t n) = subst (λ o. IfSome o (λ g. IsKept old new g t n)) is h.0 in
    (held.lies, held.keeps, held.grows, ap (λ token. (token, line) ∷ []) (sym held.says))
taken_some old new found f Wide line h is = cc
taken_some old new found f Bad line h is = cc
