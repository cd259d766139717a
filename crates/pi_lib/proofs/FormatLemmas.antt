-- Formats and their arguments.
use Rattle.std.proofs.Common.{◌≡◌, ℕ, ℤ, zero, suc, ◌+◌, ◌<◌, ◌≤◌, Bool, true, false, cond, List, [], ◌∷◌, length, drop, Ok, Err, refl, ap, sym, ◌∙◌, arith}
use Rattle.std.specs.Prelude.{nat_lt, codes, slice_get}
use Rattle.std.specs.Fmt.{signed_decimal}
use Rattle.pi_terms.specs.Tree.{Tree, int, comp, Trees, no_trees, tree, cells, most_cells}
use Rattle.pi_terms.specs.Copy.{copy}
use Rattle.pi_constraints.specs.State.{State, bindings}
use Rattle.pi_constraints.specs.Value.{value}
use Rattle.pi_constraints.specs.Store.{StoreView, IsTerm, AreTerms, ShowsCell}
use Rattle.pi_constraints.specs.declared.store.Ref.{Ref}
use Rattle.pi_constraints.specs.declared.store.Cell.{Cell}
use Rattle.pi_syntax.specs.PrintTerm.{is_characters, characters}
use Rattle.pi_effects.specs.Answer.{Answer, measured}
use Rattle.pi_effects.specs.Exception.{term_too_large, exception_with, bad_format}
use Rattle.pi_effects.specs.Items.{each_tree}
use Rattle.pi_effects.specs.Format.{Form, a_text, an_integer, Piece, plain_byte, argument, no_sign, argument_text, in_front, filled_in, pieces, formatted}
use Rattle.pi_effects.specs.declared.fault.Fault.{Fault}
use Rattle.pi_effects.specs.declared.fault.Stop.{Stop}
use Rattle.pi_effects.specs.Results.{Stops}
use Rattle.pi_lib.specs.declared.characters.Characters.{Characters}
use Rattle.pi_lib.specs.Characters.{AreCharacters}
use Rattle.pi_lib.specs.Filling.{IsNext}
use Rattle.pi_lib.proofs.TextLemmas.{few_cells, many_cells}

-- ---- a text as an argument

abbrev as_text : Bool → Tree → Tree → Answer (List ℕ)
as_text q bad u = cond q (measured u (Ok (characters u))) (Err bad)

pub text_given : (bad u : Tree) (found : Characters) (text : List ℕ) → AreCharacters u found → found.count ≤ 8388607 → text ≡ found.text → argument_text a_text bad u ≡ Ok text
text_given bad u found text are few e =
    let within : cells u ≤ most_cells = omega (arith, are.many) in
    ap (λ q. as_text q bad u) are.proper ∙ (few_cells u (Ok (characters u)) within ∙ ap Ok (sym are.text ∙ sym e))

pub text_large : (bad u : Tree) (found : Characters) → AreCharacters u found → 8388607 < found.count → argument_text a_text bad u ≡ Err term_too_large
text_large bad u found are many =
    let past : most_cells < cells u = omega (arith, are.many) in
    ap (λ q. as_text q bad u) are.proper ∙ many_cells u (Ok (characters u)) past

pub text_none : (bad u : Tree) → is_characters u ≡ false → argument_text a_text bad u ≡ Err bad
text_none bad u other = ap (λ q. as_text q bad u) other

-- what is raised of a format
pub bad_stops : {M A : Type 0} (v : StoreView M) (r : Ref) (t : Tree) (a : Answer A) → IsTerm v r t → a ≡ Err (bad_format t v.now.state) → Stops v (Stop.Raised (Fault.BadFormat r)) a
bad_stops v r t a is e = (bad_format t v.now.state, e, (t, is, refl))

pub large_stops : {M A : Type 0} (v : StoreView M) (a : Answer A) → a ≡ Err term_too_large → Stops v (Stop.Raised Fault.TermTooLarge) a
large_stops v a e = (term_too_large, e, refl)

-- ---- an integer as an argument

pub integer_given : (bad u : Tree) (n : ℤ) (text : List ℕ) → u ≡ int n → text ≡ signed_decimal n → argument_text an_integer bad u ≡ Ok text
integer_given bad u n text is e = ap (argument_text an_integer bad) is ∙ ap Ok (sym e)

pub integer_none : {M : Type 0} (v : StoreView M) (bad u : Tree) (c : Cell) → ((n : ℤ) → c ≡ Cell.Int n → ⊥) → ShowsCell v u c → argument_text an_integer bad u ≡ Err bad
integer_none v bad u (Cell.Var n) other shows = ap (argument_text an_integer bad) shows
integer_none v bad u (Cell.Int n) other shows = absurd (other n refl)
integer_none v bad u (Cell.Atom k) other shows = ap (argument_text an_integer bad) shows.2
integer_none v bad u (Cell.Comp k count) other shows = ap (argument_text an_integer bad) shows.2

-- ---- a format with its arguments

-- the exception of a format past the limit is that of its size
bad_large : (t : Tree) (s : State) → nat_lt most_cells (cells (value (bindings s) t)) ≡ true → bad_format t s ≡ term_too_large
unfolding exception_with
bad_large t s many =
    let ball : Tree = comp (codes "bad_format") (tree (copy 0 (value (bindings s) t)) no_trees) in
    ap (λ q. cond q term_too_large ball) many

abbrev checked : Bool → Bool → Tree → Answer (List ℕ) → Answer (List ℕ)
checked large proper bad filled = cond large (Err term_too_large) (cond proper filled (Err bad))

format_raised : (large proper : Bool) (bad ball : Tree) (text : List ℕ) (filled : Answer (List ℕ)) → (large ≡ true → bad ≡ term_too_large) → cond proper (cond large (Err term_too_large) (Ok text)) (Err bad) ≡ Err ball → checked large proper bad filled ≡ Err ball
format_raised true true bad ball text filled h e = e
format_raised true false bad ball text filled h e = ap Err (sym (h refl)) ∙ e
format_raised false true bad ball text filled h e = cc
format_raised false false bad ball text filled h e = e

pub format_stops : (s : State) (t : Tree) (ts : List Tree) (ball : Tree) → argument_text a_text (bad_format t s) (value (bindings s) t) ≡ Err ball → formatted s t ts ≡ Err ball
unfolding formatted
format_stops s t ts ball e =
    let u : Tree = value (bindings s) t in
    format_raised (nat_lt most_cells (cells u)) (is_characters u) (bad_format t s) ball (characters u) (filled_in s (bad_format t s) (pieces (characters u) false) ts) (bad_large t s) e

format_known : (large proper : Bool) (bad : Tree) (text found : List ℕ) (f : List ℕ → Answer (List ℕ)) → cond proper (cond large (Err term_too_large) (Ok text)) (Err bad) ≡ Ok found → checked large proper bad (f text) ≡ f found
format_known true true bad text found f e = cc
format_known true false bad text found f e = cc
format_known false true bad text found f e = cc
format_known false false bad text found f e = cc

pub format_is : (s : State) (t : Tree) (ts : List Tree) (text : List ℕ) → argument_text a_text (bad_format t s) (value (bindings s) t) ≡ Ok text → formatted s t ts ≡ filled_in s (bad_format t s) (pieces text false) ts
unfolding formatted
format_is s t ts text e =
    let u : Tree = value (bindings s) t in
    format_known (nat_lt most_cells (cells u)) (is_characters u) (bad_format t s) (characters u) text (λ xs. filled_in s (bad_format t s) (pieces xs false) ts) e

-- ---- arguments, from the left

pub next_of : {M : Type 0} (v : StoreView M) (rs : List Ref) (ts : Trees) (i : ℕ) → AreTerms v rs ts → IsNext v (slice_get rs i) (drop i (each_tree ts))
unfolding AreTerms each_tree
next_of v [] no_trees zero are = refl
next_of v [] no_trees (suc i) are = refl
next_of v [] (tree t ts) i are = absurd are
next_of v (r ∷ rs) no_trees i are = absurd are
next_of v (r ∷ rs) (tree t ts) zero are = (t, each_tree ts, are.0, refl)
next_of v (r ∷ rs) (tree t ts) (suc i) are = next_of v rs ts i are.1

pub none_left : {M : Type 0} (v : StoreView M) (rs : List Ref) (ts : Trees) (i : ℕ) → AreTerms v rs ts → length rs ≤ i → drop i (each_tree ts) ≡ []
unfolding AreTerms each_tree
none_left v [] no_trees zero are past = refl
none_left v [] no_trees (suc i) are past = refl
none_left v [] (tree t ts) i are past = absurd are
none_left v (r ∷ rs) no_trees i are past = absurd are
none_left v (r ∷ rs) (tree t ts) zero are past = absurd (omega arith)
none_left v (r ∷ rs) (tree t ts) (suc i) are past = none_left v rs ts i are.1 (omega arith)

pub record SomeLeft (us : List Tree) : Type 0 where
  pub first : Tree
  pub others : List Tree
  pub are : us ≡ first ∷ others

pub some_left : {M : Type 0} (v : StoreView M) (rs : List Ref) (ts : Trees) (i : ℕ) → AreTerms v rs ts → i < length rs → SomeLeft (drop i (each_tree ts))
unfolding AreTerms each_tree
some_left v [] ts i are within = absurd (omega arith)
some_left v (r ∷ rs) no_trees i are within = absurd are
some_left v (r ∷ rs) (tree t ts) zero are within = record { first = t; others = each_tree ts; are = refl }
some_left v (r ∷ rs) (tree t ts) (suc i) are within = some_left v rs ts i are.1 (omega arith)

abbrev no_tree : List Tree
no_tree = []

pub drop_more : (us : List Tree) (i n : ℕ) → drop n (drop i us) ≡ drop (i + n) us
drop_more us zero n = let e : n ≡ 0 + n = omega arith in ap (λ k. drop k us) e
drop_more [] (suc i) zero = let e : suc i ≡ suc i + 0 = omega arith in ap (λ k. drop k (no_tree)) e
drop_more [] (suc i) (suc n) = let e : suc (i + suc n) ≡ suc i + suc n = omega arith in ap (λ k. drop k (no_tree)) e
drop_more (u ∷ us) (suc i) n = let e : suc (i + n) ≡ suc i + n = omega arith in drop_more us i n ∙ ap (λ k. drop k (u ∷ us)) e

-- ---- a sign with its argument

pub argument_lacks : {M : Type 0} (v : StoreView M) (r : Ref) (t : Tree) (form : Form) (us : List Tree) (ps : List Piece) → IsTerm v r t → us ≡ [] → Stops v (Stop.Raised (Fault.BadFormat r)) (filled_in v.now.state (bad_format t v.now.state) (argument form ∷ ps) us)
unfolding filled_in
argument_lacks v r t form us ps is none = bad_stops v r t _ is (ap (filled_in v.now.state (bad_format t v.now.state) (argument form ∷ ps)) none)

pub no_sign_stops : {M : Type 0} (v : StoreView M) (r : Ref) (t : Tree) (us : List Tree) (ps : List Piece) → IsTerm v r t → Stops v (Stop.Raised (Fault.BadFormat r)) (filled_in v.now.state (bad_format t v.now.state) (no_sign ∷ ps) us)
unfolding filled_in
no_sign_stops v r t us ps is = (bad_format t v.now.state, refl, (t, is, refl))

-- what is raised for an argument is raised
pub argument_raised : (s : State) (bad : Tree) (form : Form) (u : Tree) (rest us : List Tree) (ps : List Piece) (ball : Tree) → us ≡ u ∷ rest → argument_text form bad (value (bindings s) u) ≡ Err ball → filled_in s bad (argument form ∷ ps) us ≡ Err ball
unfolding filled_in
argument_raised s bad form u rest us ps ball e raised =
    ap (filled_in s bad (argument form ∷ ps)) e ∙ ap (λ a. in_front a (filled_in s bad ps rest)) raised

pub argument_filled : (s : State) (bad : Tree) (form : Form) (u : Tree) (rest us : List Tree) (ps : List Piece) (text : List ℕ) → us ≡ u ∷ rest → argument_text form bad (value (bindings s) u) ≡ Ok text → filled_in s bad (argument form ∷ ps) us ≡ in_front (Ok text) (filled_in s bad ps (drop 1 us))
unfolding filled_in
argument_filled s bad form u rest us ps text e given =
    ap (filled_in s bad (argument form ∷ ps)) e ∙ (ap (λ a. in_front a (filled_in s bad ps rest)) given ∙ ap (λ vs. in_front (Ok text) (filled_in s bad ps (drop 1 vs))) (sym e))

pub character_filled : (s : State) (bad : Tree) (c : ℕ) (us : List Tree) (ps : List Piece) → filled_in s bad (plain_byte c ∷ ps) us ≡ in_front (Ok (c ∷ [])) (filled_in s bad ps (drop 0 us))
unfolding filled_in
character_filled s bad c us ps = refl
