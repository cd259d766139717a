-- The texts of clauses, as tokens of the shape that they are read as.
use Rattle.std.proofs.Common.{◌≡◌, ℕ, Bool, true, false, List, [], ◌∷◌, ◌++◌, Option, Some, None, is_some, refl, sym, ap, subst, ◌∙◌, codes, append_assoc, encode_utf8_all}
use Rattle.std.proofs.lemmas.Bool.{false≢true}
use Rattle.std.proofs.lemmas.List.Folds.{list_any-append}
use Rattle.std.specs.List.{list_any}
use lib.Utf8.{scalars, encode}
use Rattle.pi_print_program.specs.Canonical.{arrow_text}
use Rattle.pi_prog_clauses.specs.Shape.{Shape, bare, ruled, arrow_of, Sides, sides, HasShape, without_arrow, with_arrow}
use Rattle.pi_syntax.specs.ExpTree.{ExpTree}
use Rattle.pi_syntax.specs.Tokens.{Token, Var, Atom, Word, Int, Str, Sign, End, sign, is_end_point}
use Rattle.pi_print_program.proofs.Says.{Read, read-token, item_some, scalars-append, Stops, Dark, breaks}
use Rattle.pi_print_program.proofs.Punctuation.{stop_blank, blank}
use Rattle.pi_print_program.proofs.Sides.{StartsClause, Side, AnyTokens}
use Rattle.pi_print_program.proofs.Calls.{neither}

-- the end point of a part
abbrev pub is_end : Token → Bool
is_end End = true
is_end t = false

-- ---- arrows among tokens

none_of : (o : Option Bool) → is_some o ≡ false → o ≡ None
none_of None is = refl
none_of (Some b) is = absurd (false≢true (sym is))

no_arrow : (t : Token) → breaks t ≡ false → arrow_of t ≡ None
no_arrow (Var name) quiet = refl
no_arrow (Atom name) quiet = refl
no_arrow (Word word) quiet = refl
no_arrow (Int n) quiet = refl
no_arrow (Str text) quiet = refl
no_arrow (Sign spelling) quiet = none_of (arrow_of (Sign spelling)) quiet
no_arrow End quiet = refl

sides_none : (ts : List Token) → list_any breaks ts ≡ false → sides ts ≡ None
unfolding sides
sides_none [] quiet = refl
sides_none (t ∷ ts) quiet =
    let (here, rest) = neither (breaks t) (list_any breaks ts) quiet in
    rw (no_arrow t here, sides_none ts rest) refl

abbrev split_at : List Token → Bool → List Token → Sides
split_at left back right = record { left = left; back = back; right = right }

sides_some : (ts : List Token) (arrow : Token) (back : Bool) (us : List Token) → arrow_of arrow ≡ Some back → list_any breaks ts ≡ false
    → sides (ts ++ arrow ∷ us) ≡ Some (split_at ts back us)
unfolding sides
sides_some [] arrow back us is quiet = rw is refl
sides_some (t ∷ ts) arrow back us is quiet =
    let (here, rest) = neither (breaks t) (list_any breaks ts) quiet in
    rw (no_arrow t here, sides_some ts arrow back us is rest) refl

-- ---- arrows of the text

pub record ArrowText (back : Bool) : Type 0 where
  pub chars : List ℕ
  pub token : Token
  pub arrow : arrow_of token ≡ Some back
  pub no_end : is_end token ≡ false
  pub bytes : (more : List ℕ) → encode_utf8_all (chars ++ more) ≡ arrow_text back ++ encode_utf8_all more
  pub valid : (more : List ℕ) → scalars more ≡ true → scalars (chars ++ more) ≡ true
  pub reads : (more : List ℕ) (us : List Token) → Dark more → Read more us → Read (chars ++ more) (token ∷ us)
  pub stops : (more : List ℕ) → Stops (chars ++ more)

committed : ArrowText false
unfolding sign is_end_point encode
committed = record {
  chars = codes " => ";
  token = Sign (codes "=>");
  arrow = refl;
  no_end = refl;
  bytes = λ more. refl;
  valid = λ more v. scalars-append (codes " => ") more refl v;
  reads = λ more us dark r. blank.reads (61 ∷ 62 ∷ 32 ∷ more) (Sign (codes "=>") ∷ us) refl (read-token (61 ∷ 62 ∷ 32 ∷ more) (32 ∷ more) (Sign (codes "=>")) 2 us (item_some _ _) refl (blank.reads more us dark r));
  stops = λ more. stop_blank _;
}

open_choice : ArrowText true
unfolding sign is_end_point encode
open_choice = record {
  chars = codes " ?=> ";
  token = Sign (codes "?=>");
  arrow = refl;
  no_end = refl;
  bytes = λ more. refl;
  valid = λ more v. scalars-append (codes " ?=> ") more refl v;
  reads = λ more us dark r. blank.reads (63 ∷ 61 ∷ 62 ∷ 32 ∷ more) (Sign (codes "?=>") ∷ us) refl (read-token (63 ∷ 61 ∷ 62 ∷ 32 ∷ more) (32 ∷ more) (Sign (codes "?=>")) 3 us (item_some _ _) refl (blank.reads more us dark r));
  stops = λ more. stop_blank _;
}

pub arrow_by : (back : Bool) → ArrowText back
arrow_by true = open_choice
arrow_by false = committed

-- ---- texts of a shape

-- the text of a clause, its characters and its tokens, of this shape
pub record ShapeText (text : List ℕ) (s : Shape) : Type 0 where
  pub cs : List ℕ → List ℕ
  pub tokens : List Token
  pub bytes : (more : List ℕ) → encode_utf8_all (cs more) ≡ text ++ encode_utf8_all more
  pub valid : (more : List ℕ) → scalars more ≡ true → scalars (cs more) ≡ true
  pub begins : (more : List ℕ) → Dark (cs more)
  pub reads : (more : List ℕ) (us : List Token) → Stops more → Read more us → Read (cs more) (tokens ++ us)
  pub endless : list_any is_end tokens ≡ false
  pub starts : (us : List Token) → StartsClause (tokens ++ us)
  pub shape : HasShape tokens s

quiet_end : (t : Token) → breaks t ≡ false → is_end t ≡ false
quiet_end (Var name) quiet = refl
quiet_end (Atom name) quiet = refl
quiet_end (Word word) quiet = refl
quiet_end (Int n) quiet = refl
quiet_end (Str text) quiet = refl
quiet_end (Sign spelling) quiet = refl
quiet_end End quiet = absurd (false≢true (sym quiet))

pub endless_quiet : (ts : List Token) → list_any breaks ts ≡ false → list_any is_end ts ≡ false
endless_quiet [] quiet = refl
endless_quiet (t ∷ ts) quiet =
    let (here, rest) = neither (breaks t) (list_any breaks ts) quiet in
    rw (quiet_end t here) (endless_quiet ts rest)

-- an expression alone
pub bare_text : {text : List ℕ} {e : ExpTree} → Side StartsClause text e → ShapeText text (bare e)
bare_text s = record {
  cs = s.cs;
  tokens = s.ts [];
  bytes = s.says.bytes;
  valid = s.says.valid;
  begins = λ more. (s.begins more).white;
  reads = λ more us h r. subst (λ (ts : List Token). Read (s.cs more) ts) (s.says.front us) (s.says.reads more us h r);
  endless = endless_quiet (s.ts []) s.says.quiet;
  starts = λ us. subst StartsClause (s.says.front us) (s.starts us);
  shape = without_arrow (sides_none (s.ts []) s.says.quiet) (s.as_exp []);
}

-- two with an arrow between them
pub ruled_text : {left right : List ℕ} {l r : ExpTree} (back : Bool) → Side StartsClause left l → Side AnyTokens right r
    → ShapeText (left ++ (arrow_text back ++ right)) (ruled l back r)
ruled_text {left} {right} {l} {r} back x y =
    let a = arrow_by back in
    let all : (us : List Token) → x.ts (a.token ∷ y.ts us) ≡ (x.ts [] ++ a.token ∷ y.ts []) ++ us =
    λ us. x.says.front (a.token ∷ y.ts us) ∙ ap (λ l. x.ts [] ++ a.token ∷ l) (y.says.front us) ∙ sym (append_assoc (x.ts []) (a.token ∷ y.ts []) us) in
    record {
      cs = λ m. x.cs (a.chars ++ y.cs m);
      tokens = x.ts [] ++ a.token ∷ y.ts [];
      bytes = λ more.
          x.says.bytes (a.chars ++ y.cs more) ∙ ap (λ l. left ++ l) (a.bytes (y.cs more) ∙ ap (λ l. arrow_text back ++ l) (y.says.bytes more) ∙ sym (append_assoc (arrow_text back) right (encode_utf8_all more)))
          ∙ sym (append_assoc left (arrow_text back ++ right) (encode_utf8_all more));
      valid = λ more v. x.says.valid (a.chars ++ y.cs more) (a.valid (y.cs more) (y.says.valid more v));
      begins = λ more. (x.begins _).white;
      reads = λ more us h read. subst (λ (ts : List Token). Read (x.cs (a.chars ++ y.cs more)) ts) (all us)
          (x.says.reads (a.chars ++ y.cs more) (a.token ∷ y.ts us) (a.stops (y.cs more)) (a.reads (y.cs more) (y.ts us) (y.begins more).white (y.says.reads more us h read)));
      endless = list_any-append is_end (x.ts []) (a.token ∷ y.ts []) ∙ rw (endless_quiet (x.ts []) x.says.quiet, a.no_end) (endless_quiet (y.ts []) y.says.quiet);
      starts = λ us. subst StartsClause (all us) (x.starts (a.token ∷ y.ts us));
      shape = with_arrow (sides_some (x.ts []) a.token back (y.ts []) a.arrow x.says.quiet) (x.as_exp []) (y.as_exp []);
    }

pub shape_text_at : {a b : List ℕ} {s : Shape} → a ≡ b → ShapeText b s → ShapeText a s
shape_text_at {s = s} same text = subst (λ (l : List ℕ). ShapeText l s) (sym same) text
