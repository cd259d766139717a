-- The tokens of a text, computed from its items one after the other.
use Rattle.std.proofs.Common.{◌≡◌, ℕ, zero, suc, ◌+◌, List, [], ◌∷◌, take, drop, Option, Some, None, refl, subst}
use Rattle.pi_syntax.specs.Tokens.{Item, Ended, Blank, Lexeme, Wide, Bad, item_at, line_feeds, Located, Reads, ended, blank, token}

-- a token in front of others
abbrev pub with_token : Located → Option (List Located) → Option (List Located)
with_token t None = None
with_token t (Some ts) = Some (t ∷ ts)

-- from an item on, where the rest of the text is read as the function says
abbrev pub tokens_by : (ℕ → List ℕ → Option (List Located)) → ℕ → List ℕ → Item → Option (List Located)
tokens_by rest line text Ended = Some []
tokens_by rest line text (Blank n) = rest (line + line_feeds (take n text)) (drop n text)
tokens_by rest line text (Lexeme t n) = with_token (t, line) (rest (line + line_feeds (take n text)) (drop n text))
tokens_by rest line text Wide = None
tokens_by rest line text Bad = None

-- the tokens of the characters from this line on, where at most so many items are there and none is wrong
unfoldable pub tokens_in : ℕ → ℕ → List ℕ → Option (List Located)
tokens_in zero line text = None
tokens_in (suc most) line text = tokens_by (tokens_in most) line text (item_at text)

-- ---- they are the tokens

pub some_is : {X : Type 0} (x y : X) → Some x ≡ Some y → x ≡ y
some_is x y e = cc

abbrev IsReader : (ℕ → List ℕ → Option (List Located)) → Type 0
IsReader rest = (line : ℕ) (text : List ℕ) (ts : List Located) → rest line text ≡ Some ts → Reads line text ts None

with_token-read : (t : Located) (line : ℕ) (text : List ℕ) (o : Option (List Located)) (ts : List Located) → with_token t o ≡ Some ts
    → ((us : List Located) → o ≡ Some us → Reads line text (t ∷ us) None) → Reads line text ts None
with_token-read t line text None ts e then = absurd cc
with_token-read t line text (Some us) ts e then = subst (λ xs. Reads line text xs None) (some_is (t ∷ us) ts e) (then us refl)

by-read : (rest : ℕ → List ℕ → Option (List Located)) → IsReader rest → (line : ℕ) (text : List ℕ) (i : Item) (ts : List Located) → item_at text ≡ i
    → tokens_by rest line text i ≡ Some ts → Reads line text ts None
by-read rest reader line text Ended ts is e = subst (λ xs. Reads line text xs None) (some_is [] ts e) (ended is)
by-read rest reader line text (Blank n) ts is e = blank n is (reader _ _ ts e)
by-read rest reader line text (Lexeme t n) ts is e = with_token-read (t, line) line text _ ts e (λ us same. token t n is (reader _ _ us same))
by-read rest reader line text Wide ts is e = absurd cc
by-read rest reader line text Bad ts is e = absurd cc

pub tokens-read : (most line : ℕ) (text : List ℕ) (ts : List Located) → tokens_in most line text ≡ Some ts → Reads line text ts None
unfolding tokens_in
tokens-read zero line text ts e = absurd cc
tokens-read (suc most) line text ts e = by-read (tokens_in most) (tokens-read most) line text (item_at text) ts refl e
