-- The canonical text of an expression that was read is read as that expression.
use Rattle.std.proofs.Common.{◌≡◌, ℕ, ◌≤◌, true, List, [], length, map, None, refl, sym, ap, subst, ◌∙◌, append-nil, encode_utf8_all, chars, IsUtf8}
use Rattle.std.proofs.lemmas.Str.{chars-encodes}
use lib.Utf8.{scalars}
use Rattle.pi_print_program.specs.CanonicalExp.{exp_text}
use Rattle.pi_lex.specs.Kinds.{kinds}
use Rattle.pi_syntax.specs.ExpTree.{ExpTree}
use Rattle.pi_syntax.specs.Grammar.{HasExp, Reads, exp}
use Rattle.pi_syntax.specs.Terminals.{terminal}
use Rattle.pi_syntax.specs.Tokens as tokens
use Rattle.pi_syntax.specs.Tokens.{Token, Located, HasTokens, utf8, ended, item_at, most_bytes}
use Rattle.pi_print_program.specs.Patterns.{Fine}
use Rattle.pi_print_program.specs.Reread.{HasPlainAtoms, ReadsAsExp, ExpIsReread}
use Rattle.pi_print_program.proofs.Says.{Read, Stops}
use Rattle.pi_print_program.proofs.Writes.{Writes}
use Rattle.pi_print_program.proofs.Sequences.{reads_exp}
use Rattle.pi_print_program.proofs.Tree.{Tree}
use Rattle.pi_print_program.proofs.WrittenTrees.{writes}
use Rattle.pi_print_program.proofs.Trees.{told}
use Rattle.pi_print_program.proofs.GoodTokens.{good_tokens}
use Rattle.pi_print_program.proofs.GoodTerminals.{terminals_good}

-- the end of a text ends each token
pub stops_end : Stops []
stops_end = record { name = refl; digits = refl; letter = refl; sixteen = refl; eight = refl; two = refl }

nothing_more : item_at [] ≡ tokens.Ended
unfolding item_at
nothing_more = refl

pub read_end : Read [] []
read_end = record { located = λ line. []; reads = λ line. ended nothing_more; are = λ line. refl }

-- a text of these characters, which are read as these tokens, has them
pub has_tokens : (text cs : List ℕ) (us : List Token) → encode_utf8_all cs ≡ text → scalars cs ≡ true → Read cs us → length text ≤ most_bytes
    → (located : List Located) × HasTokens text located × (kinds located ≡ us)
has_tokens text cs us same valid read few =
    let is : IsUtf8 text = (cs, (valid, same)) in
    let characters : chars text ≡ cs = ap chars (sym same) ∙ chars-encodes cs valid in
    let reads = subst (λ (l : List ℕ). tokens.Reads 1 l (read.located 1) None) (sym characters) (read.reads 1) in
    (read.located 1, utf8 few is reads, read.are 1)

-- the tree of an expression that was read
pub tree_read : {text : List ℕ} {located : List Located} {e : ExpTree} → HasTokens text located → HasPlainAtoms (kinds located) → HasExp (kinds located) e → Fine e → Tree e
tree_read {located = located} has plain read fine = (told read (terminals_good (kinds located) (good_tokens has) plain)).0 fine

written_again : (e : ExpTree) → Writes e → length (exp_text e) ≤ most_bytes → ReadsAsExp (exp_text e) e
written_again e w few =
    let (located, has, are) = has_tokens (exp_text e) (w.cs []) (w.ts []) (w.says.bytes [] ∙ append-nil (exp_text e)) (w.says.valid [] refl) (w.says.reads [] [] stops_end read_end) few in
    record {
      tokens = located;
      has = has;
      read = subst (λ (us : List Token). Reads exp (map terminal us) e []) (sym are) (reads_exp w []);
    }

pub exp_is_reread : ExpIsReread
exp_is_reread text located e has plain read fine few = written_again e (writes (tree_read has plain read fine)) few
