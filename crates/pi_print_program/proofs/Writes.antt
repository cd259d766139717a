-- What the canonical text of an expression is: its characters, its tokens, and how they are read.
use Rattle.std.proofs.Common.{◌≡◌, ℕ, Bool, true, false, not, List, ◌∷◌, map, Option, Some, None, codes, if◌then◌else◌}
use Rattle.pi_print_program.specs.CanonicalExp.{exp_text, is_structure}
use Rattle.pi_print_program.specs.Signs.{is_sign}
use Rattle.pi_syntax.specs.ExpTree.{ExpTree, var, atom, call, quote, index}
use Rattle.pi_syntax.specs.Signature.{exp_count}
use Rattle.pi_syntax.specs.Terminals.{Terminal, terminal, dollar}
use Rattle.pi_syntax.specs.Grammar.{Reads, Postfixes, post, prim}
use Rattle.pi_syntax.specs.Tokens.{Token, Sign, Atom}
use Rattle.pi_print_program.specs.Patterns.{is_index}
use Rattle.pi_print_program.proofs.Says.{Says, Stops, Begins}
use Rattle.pi_print_program.proofs.Climb.{post_prim}

-- an index may stand behind it
abbrev pub takes_places : ExpTree → Bool
takes_places (var name) = true
takes_places (index e es) = true
takes_places (call name es) = not (is_sign name (exp_count es))
takes_places e = false

-- the name that its text begins with
abbrev pub name_first : Bool → List ℕ → Option (List ℕ)
name_first signed name = if signed then None else Some name

abbrev pub name_of : ExpTree → Option (List ℕ)
name_of (atom name) = Some name
name_of (call name es) = name_first (is_sign name (exp_count es)) name
name_of e = None

pub record Writes (e : ExpTree) : Type 0 where
  pub cs : List ℕ → List ℕ
  pub ts : List Token → List Token
  pub says : Says (exp_text e) cs ts Stops
  pub begins : (more : List ℕ) → Begins (cs more)
  -- whatever stands behind it
  pub as_post : (us : List Token) → Reads post (map terminal (ts us)) e (map terminal us)
  pub as_prim : is_index e ≡ false → (us : List Token) → Reads prim (map terminal (ts us)) e (map terminal us)
  -- where an index goes on with it
  pub indexes : takes_places e ≡ true → (us : List Token) (f : ExpTree) (out : List Terminal) → Postfixes true e (map terminal (Sign (codes "[") ∷ us)) f out
      → Reads post (map terminal (ts (Sign (codes "[") ∷ us))) f out
  -- behind `$`
  pub structure : is_structure e ≡ true → (us : List Token) → Reads prim (dollar ∷ map terminal (ts us)) (quote e) (map terminal us)
  pub head : (name : List ℕ) → name_of e ≡ Some name → (us : List Token) → (rest : List Token) × (ts us ≡ Atom name ∷ rest)

-- of what is no index, takes none and begins with no name
pub plain_writes : {e : ExpTree} {cs : List ℕ → List ℕ} {ts : List Token → List Token} → is_index e ≡ false → takes_places e ≡ false → is_structure e ≡ false
    → name_of e ≡ None → Says (exp_text e) cs ts Stops → ((more : List ℕ) → Begins (cs more))
    → ((us : List Token) → Reads prim (map terminal (ts us)) e (map terminal us)) → Writes e
plain_writes {e} {cs} {ts} no_index no_places no_structure no_name says begins reads = record {
  cs = cs;
  ts = ts;
  says = says;
  begins = begins;
  as_post = λ us. post_prim (reads us);
  as_prim = λ none us. reads us;
  indexes = λ takes us f out more. absurd (never (takes_places e) takes no_places);
  structure = λ is us. absurd (never (is_structure e) is no_structure);
  head = λ name is us. absurd (nameless (name_of e) name is no_name);
}
  where
    never : (b : Bool) → b ≡ true → b ≡ false → ⊥
    never b yes' no' = cc

    nameless : (o : Option (List ℕ)) (name : List ℕ) → o ≡ Some name → o ≡ None → ⊥
    nameless o name some none = cc
