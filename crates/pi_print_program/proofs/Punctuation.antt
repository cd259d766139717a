-- The tokens of brackets, of what parts things, and of the words of blocks.
use Rattle.std.proofs.Common.{◌≡◌, ℕ, false, List, [], ◌∷◌, ◌++◌, length, refl, codes, ◌∙◌, ◌==◌, arith}
use Rattle.std.proofs.lemmas.Bool.Decides.{nat_tests}
use lib.Utf8.{encode}
use Rattle.pi_syntax.specs.Tokens.{Token, Lexeme, item_at, sign, is_end_point, is_reserved, Sign, Word}
use Rattle.pi_print_program.proofs.Says.{Says, says-token, item_some, says-blank, says-then, Any, Stops, Begins, Dark, Spaced, spaced}
use Rattle.pi_print_program.proofs.NameTokens.{name_token}

-- ---- what ends a token

pub stop_blank : (more : List ℕ) → Stops (32 ∷ more)
stop_blank more = record { name = refl; digits = refl; letter = refl; sixteen = refl; eight = refl; two = refl }

pub stop_comma : (more : List ℕ) → Stops (44 ∷ more)
stop_comma more = record { name = refl; digits = refl; letter = refl; sixteen = refl; eight = refl; two = refl }

pub stop_close_paren : (more : List ℕ) → Stops (41 ∷ more)
stop_close_paren more = record { name = refl; digits = refl; letter = refl; sixteen = refl; eight = refl; two = refl }

pub stop_close_bracket : (more : List ℕ) → Stops (93 ∷ more)
stop_close_bracket more = record { name = refl; digits = refl; letter = refl; sixteen = refl; eight = refl; two = refl }

pub stop_close_brace : (more : List ℕ) → Stops (125 ∷ more)
stop_close_brace more = record { name = refl; digits = refl; letter = refl; sixteen = refl; eight = refl; two = refl }

pub stop_open_paren : (more : List ℕ) → Stops (40 ∷ more)
stop_open_paren more = record { name = refl; digits = refl; letter = refl; sixteen = refl; eight = refl; two = refl }

pub stop_open_bracket : (more : List ℕ) → Stops (91 ∷ more)
stop_open_bracket more = record { name = refl; digits = refl; letter = refl; sixteen = refl; eight = refl; two = refl }

pub stop_point : (more : List ℕ) → Stops (46 ∷ more)
stop_point more = record { name = refl; digits = refl; letter = refl; sixteen = refl; eight = refl; two = refl }

pub stop_at : (more : List ℕ) → Stops (64 ∷ more)
stop_at more = record { name = refl; digits = refl; letter = refl; sixteen = refl; eight = refl; two = refl }

pub stop_line : (more : List ℕ) → Stops (10 ∷ more)
stop_line more = record { name = refl; digits = refl; letter = refl; sixteen = refl; eight = refl; two = refl }

pub says-stops : {text : List ℕ} {cs : List ℕ → List ℕ} {ts : List Token → List Token} → Says text cs ts Any → Says text cs ts Stops
says-stops s = record { bytes = s.bytes; valid = s.valid; reads = λ more us h r. s.reads more us tt r; front = s.front; quiet = s.quiet }

-- a blank
pub blank : Says (codes " ") (λ m. 32 ∷ m) (λ u. u) Dark
unfolding encode
blank = says-blank 32 refl refl refl

-- ---- signs that no other goes on with

pub open_paren : Says (codes "(") (λ m. codes "(" ++ m) (λ u. Sign (codes "(") ∷ u) Any
unfolding sign is_end_point encode
open_paren = says-token (codes "(") (codes "(") (Sign (codes "(")) Any refl refl refl (λ more h. item_some _ _)

pub close_paren : Says (codes ")") (λ m. codes ")" ++ m) (λ u. Sign (codes ")") ∷ u) Any
unfolding sign is_end_point encode
close_paren = says-token (codes ")") (codes ")") (Sign (codes ")")) Any refl refl refl (λ more h. item_some _ _)

pub open_bracket : Says (codes "[") (λ m. codes "[" ++ m) (λ u. Sign (codes "[") ∷ u) Any
unfolding sign is_end_point encode
open_bracket = says-token (codes "[") (codes "[") (Sign (codes "[")) Any refl refl refl (λ more h. item_some _ _)

pub close_bracket : Says (codes "]") (λ m. codes "]" ++ m) (λ u. Sign (codes "]") ∷ u) Any
unfolding sign is_end_point encode
close_bracket = says-token (codes "]") (codes "]") (Sign (codes "]")) Any refl refl refl (λ more h. item_some _ _)

pub open_brace : Says (codes "{") (λ m. codes "{" ++ m) (λ u. Sign (codes "{") ∷ u) Any
unfolding sign is_end_point encode
open_brace = says-token (codes "{") (codes "{") (Sign (codes "{")) Any refl refl refl (λ more h. item_some _ _)

pub close_brace : Says (codes "}") (λ m. codes "}" ++ m) (λ u. Sign (codes "}") ∷ u) Any
unfolding sign is_end_point encode
close_brace = says-token (codes "}") (codes "}") (Sign (codes "}")) Any refl refl refl (λ more h. item_some _ _)

pub comma_sign : Says (codes ",") (λ m. codes "," ++ m) (λ u. Sign (codes ",") ∷ u) Any
unfolding sign is_end_point encode
comma_sign = says-token (codes ",") (codes ",") (Sign (codes ",")) Any refl refl refl (λ more h. item_some _ _)

pub bar : Says (codes "|") (λ m. codes "|" ++ m) (λ u. Sign (codes "|") ∷ u) Any
unfolding sign is_end_point encode
bar = says-token (codes "|") (codes "|") (Sign (codes "|")) Any refl refl refl (λ more h. item_some _ _)

pub semicolon : Says (codes ";") (λ m. codes ";" ++ m) (λ u. Sign (codes ";") ∷ u) Any
unfolding sign is_end_point encode
semicolon = says-token (codes ";") (codes ";") (Sign (codes ";")) Any refl refl refl (λ more h. item_some _ _)

pub arrow : Says (codes "->") (λ m. codes "->" ++ m) (λ u. Sign (codes "->") ∷ u) Any
unfolding sign is_end_point encode
arrow = says-token (codes "->") (codes "->") (Sign (codes "->")) Any refl refl refl (λ more h. item_some _ _)

pub dollar : Says (codes "$") (λ m. codes "$" ++ m) (λ u. Sign (codes "$") ∷ u) Any
unfolding sign is_end_point encode
dollar = says-token (codes "$") (codes "$") (Sign (codes "$")) Any refl refl refl (λ more h. item_some _ _)

dots_item : (more : List ℕ) → item_at (46 ∷ 46 ∷ more) ≡ Lexeme (Sign (46 ∷ 46 ∷ [])) 2
unfolding sign is_end_point encode
dots_item more =
    let long : (length (46 ∷ 46 ∷ more) == 1) ≡ false = grind (arith, nat_tests) in
    item_some _ _ ∙ rw long refl

pub dots : Says (codes "..") (λ m. codes ".." ++ m) (λ u. Sign (codes "..") ∷ u) Any
unfolding encode
dots = says-token (codes "..") (codes "..") (Sign (codes "..")) Any refl refl refl (λ more h. dots_item more)

colon_item : (more : List ℕ) → Spaced more → item_at (58 ∷ more) ≡ Lexeme (Sign (58 ∷ [])) 1
unfolding sign is_end_point encode
colon_item _ spaced = item_some _ _

pub colon : Says (codes ":") (λ m. 58 ∷ m) (λ u. Sign (codes ":") ∷ u) Spaced
unfolding encode
colon = says-token (codes ":") (codes ":") (Sign (codes ":")) Spaced refl refl refl colon_item

at_item : (more : List ℕ) → Begins more → item_at (64 ∷ more) ≡ Lexeme (Sign (64 ∷ [])) 1
unfolding sign is_end_point encode
at_item [] begins = item_some _ _
at_item (c ∷ more) begins = item_some _ _ ∙ rw (begins.less, begins.equal, begins.greater) refl

pub at_sign : Says (codes "@") (λ m. 64 ∷ m) (λ u. Sign (codes "@") ∷ u) Begins
unfolding encode
at_sign = says-token (codes "@") (codes "@") (Sign (codes "@")) Begins refl refl refl at_item

minus_item : (more : List ℕ) → Begins more → item_at (45 ∷ more) ≡ Lexeme (Sign (45 ∷ [])) 1
unfolding sign is_end_point encode
minus_item [] begins = item_some _ _
minus_item (c ∷ more) begins = item_some _ _ ∙ rw begins.greater refl

pub minus_sign : Says (codes "-") (λ m. 45 ∷ m) (λ u. Sign (codes "-") ∷ u) Begins
unfolding encode
minus_sign = says-token (codes "-") (codes "-") (Sign (codes "-")) Begins refl refl refl minus_item

-- ---- words of blocks

pub word_if : Says (codes "if") (λ m. codes "if" ++ m) (λ u. Word (codes "if") ∷ u) Stops
unfolding is_reserved encode
word_if = says-token (codes "if") (codes "if") (Word (codes "if")) Stops refl refl refl (λ more h. name_token 105 (102 ∷ []) more refl refl h)

pub word_then : Says (codes "then") (λ m. codes "then" ++ m) (λ u. Word (codes "then") ∷ u) Stops
unfolding is_reserved encode
word_then = says-token (codes "then") (codes "then") (Word (codes "then")) Stops refl refl refl (λ more h. name_token 116 (104 ∷ 101 ∷ 110 ∷ []) more refl refl h)

pub word_elseif : Says (codes "elseif") (λ m. codes "elseif" ++ m) (λ u. Word (codes "elseif") ∷ u) Stops
unfolding is_reserved encode
word_elseif = says-token (codes "elseif") (codes "elseif") (Word (codes "elseif")) Stops refl refl refl (λ more h. name_token 101 (108 ∷ 115 ∷ 101 ∷ 105 ∷ 102 ∷ []) more refl refl h)

pub word_else : Says (codes "else") (λ m. codes "else" ++ m) (λ u. Word (codes "else") ∷ u) Stops
unfolding is_reserved encode
word_else = says-token (codes "else") (codes "else") (Word (codes "else")) Stops refl refl refl (λ more h. name_token 101 (108 ∷ 115 ∷ 101 ∷ []) more refl refl h)

pub word_end : Says (codes "end") (λ m. codes "end" ++ m) (λ u. Word (codes "end") ∷ u) Stops
unfolding is_reserved encode
word_end = says-token (codes "end") (codes "end") (Word (codes "end")) Stops refl refl refl (λ more h. name_token 101 (110 ∷ 100 ∷ []) more refl refl h)

pub word_foreach : Says (codes "foreach") (λ m. codes "foreach" ++ m) (λ u. Word (codes "foreach") ∷ u) Stops
unfolding is_reserved encode
word_foreach = says-token (codes "foreach") (codes "foreach") (Word (codes "foreach")) Stops refl refl refl (λ more h. name_token 102 (111 ∷ 114 ∷ 101 ∷ 97 ∷ 99 ∷ 104 ∷ []) more refl refl h)

pub word_while : Says (codes "while") (λ m. codes "while" ++ m) (λ u. Word (codes "while") ∷ u) Stops
unfolding is_reserved encode
word_while = says-token (codes "while") (codes "while") (Word (codes "while")) Stops refl refl refl (λ more h. name_token 119 (104 ∷ 105 ∷ 108 ∷ 101 ∷ []) more refl refl h)

pub word_do : Says (codes "do") (λ m. codes "do" ++ m) (λ u. Word (codes "do") ∷ u) Stops
unfolding is_reserved encode
word_do = says-token (codes "do") (codes "do") (Word (codes "do")) Stops refl refl refl (λ more h. name_token 100 (111 ∷ []) more refl refl h)

-- ---- with their blanks

pub comma_blank : Says (codes ", ") (λ m. 44 ∷ 32 ∷ m) (λ u. Sign (codes ",") ∷ u) Dark
comma_blank = says-then comma_sign blank (λ more h. tt)

pub bar_blank : Says (codes " | ") (λ m. 32 ∷ 124 ∷ 32 ∷ m) (λ u. Sign (codes "|") ∷ u) Dark
bar_blank = says-then blank (says-then bar blank (λ more h. tt)) (λ more h. refl)

pub semicolon_blank : Says (codes " ; ") (λ m. 32 ∷ 59 ∷ 32 ∷ m) (λ u. Sign (codes ";") ∷ u) Dark
semicolon_blank = says-then blank (says-then semicolon blank (λ more h. tt)) (λ more h. refl)

pub arrow_blank : Says (codes " -> ") (λ m. 32 ∷ 45 ∷ 62 ∷ 32 ∷ m) (λ u. Sign (codes "->") ∷ u) Dark
arrow_blank = says-then blank (says-then arrow blank (λ more h. tt)) (λ more h. refl)

pub dots_blank : Says (codes " .. ") (λ m. 32 ∷ 46 ∷ 46 ∷ 32 ∷ m) (λ u. Sign (codes "..") ∷ u) Dark
dots_blank = says-then blank (says-then dots blank (λ more h. tt)) (λ more h. refl)

pub colon_blank : Says (codes " : ") (λ m. 32 ∷ 58 ∷ 32 ∷ m) (λ u. Sign (codes ":") ∷ u) Dark
colon_blank = says-then blank (says-then colon blank (λ more h. spaced)) (λ more h. refl)

pub if_blank : Says (codes "if ") (λ m. 105 ∷ 102 ∷ 32 ∷ m) (λ u. Word (codes "if") ∷ u) Dark
if_blank = says-then word_if blank (λ more h. stop_blank more)

pub then_blank : Says (codes " then ") (λ m. 32 ∷ 116 ∷ 104 ∷ 101 ∷ 110 ∷ 32 ∷ m) (λ u. Word (codes "then") ∷ u) Dark
then_blank = says-then blank (says-then word_then blank (λ more h. stop_blank more)) (λ more h. refl)

pub elseif_blank : Says (codes " elseif ") (λ m. 32 ∷ 101 ∷ 108 ∷ 115 ∷ 101 ∷ 105 ∷ 102 ∷ 32 ∷ m) (λ u. Word (codes "elseif") ∷ u) Dark
elseif_blank = says-then blank (says-then word_elseif blank (λ more h. stop_blank more)) (λ more h. refl)

pub else_blank : Says (codes " else ") (λ m. 32 ∷ 101 ∷ 108 ∷ 115 ∷ 101 ∷ 32 ∷ m) (λ u. Word (codes "else") ∷ u) Dark
else_blank = says-then blank (says-then word_else blank (λ more h. stop_blank more)) (λ more h. refl)

pub end_blank : Says (codes " end") (λ m. 32 ∷ 101 ∷ 110 ∷ 100 ∷ m) (λ u. Word (codes "end") ∷ u) Stops
end_blank = says-then blank (word_end) (λ more h. refl)

pub foreach_paren : Says (codes "foreach(") (λ m. 102 ∷ 111 ∷ 114 ∷ 101 ∷ 97 ∷ 99 ∷ 104 ∷ 40 ∷ m) (λ u. Word (codes "foreach") ∷ Sign (codes "(") ∷ u) Any
foreach_paren = says-then word_foreach open_paren (λ more h. stop_open_paren more)

pub while_paren : Says (codes "while (") (λ m. 119 ∷ 104 ∷ 105 ∷ 108 ∷ 101 ∷ 32 ∷ 40 ∷ m) (λ u. Word (codes "while") ∷ Sign (codes "(") ∷ u) Any
while_paren = says-then word_while (says-then blank open_paren (λ more h. refl)) (λ more h. stop_blank (40 ∷ more))

pub while_behind : Says (codes " while (") (λ m. 32 ∷ 119 ∷ 104 ∷ 105 ∷ 108 ∷ 101 ∷ 32 ∷ 40 ∷ m) (λ u. Word (codes "while") ∷ Sign (codes "(") ∷ u) Any
while_behind = says-then blank (says-then word_while (says-then blank open_paren (λ more h. refl)) (λ more h. stop_blank (40 ∷ more))) (λ more h. refl)

pub do_blank : Says (codes "do ") (λ m. 100 ∷ 111 ∷ 32 ∷ m) (λ u. Word (codes "do") ∷ u) Dark
do_blank = says-then word_do blank (λ more h. stop_blank more)

pub paren_blank : Says (codes ") ") (λ m. 41 ∷ 32 ∷ m) (λ u. Sign (codes ")") ∷ u) Dark
paren_blank = says-then close_paren blank (λ more h. tt)
