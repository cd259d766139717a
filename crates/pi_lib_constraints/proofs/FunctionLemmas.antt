-- The ends, the number and the list of the values that a term has.
use Rattle.std.specs.Prelude.{◌≡◌, ℕ, zero, suc, ◌+◌, ◌-◌, ◌<◌, ◌≤◌, nat_lt, cond, ℤ, pos, neg_ℤ, ◌+ℤ◌, ◌-ℤ◌, ◌≤ℤ◌, true, false, List, [], ◌∷◌, ◌++◌, length, map, drop, get_or, slice_get, Option, Some, None, option_map, unwrap_or, Result, Ok, Err, codes, refl}
use Rattle.std.specs.Int.{int_gap}
use Rattle.std.proofs.Common.{arith, tests, sym, ◌∙◌, ap, subst}
use Rattle.std.proofs.lemmas.Int.{ints}
use Rattle.pi_terms.specs.Tree.{Tree, Trees, var, int, atom, comp, no_trees, tree}
use Rattle.pi_terms.specs.ListCopies.{list_cell}
use Rattle.pi_terms.specs.ListNames.{nil, cell_name}
use Rattle.pi_constraints.specs.declared.domain.Span.{Span}
use Rattle.pi_constraints.specs.declared.domain.TheConstants.{MAX_VALUE}
use Rattle.pi_constraints.specs.declared.store.Ref.{Ref}
use Rattle.pi_constraints.specs.declared.store.Cell.{Cell}
use Rattle.pi_constraints.specs.Domain.{AscendFrom, IsDomain, numbers_from, values_of, size_of}
use Rattle.pi_constraints.specs.State.{State, IsState, bindings, domain_of, domain_at_root, followed}
use Rattle.pi_constraints.specs.Store.{StoreView, IsTerm, AreTerms, Keeps, Stays, ShowsCell}
use Rattle.pi_constraints.specs.Stored.{stored}
use Rattle.pi_constraints.proofs.DomainLemmas.{gap_is}
use Rattle.pi_constraints.proofs.StateLemmas.{domain_good}
use Rattle.pi_effects.specs.Answer.{Answer, found_or}
use Rattle.pi_effects.specs.BuiltIns.{answer_in}
use Rattle.pi_effects.specs.Effect.{FunctionEffect}
use Rattle.pi_effects.specs.Exception.{type_error, range_too_long}
use Rattle.pi_effects.specs.Items.{list_of, list_onto}
use Rattle.pi_effects.specs.Ranges.{most_items}
use Rattle.pi_effects.specs.Results.{ShowsTerm, ShowsEffect}
use Rattle.pi_effects.specs.Rows.{done_by}
use Rattle.pi_effects.specs.declared.fault.Fault.{Fault}
use Rattle.pi_effects.specs.declared.fault.Kind.{Kind}
use Rattle.pi_effects.specs.declared.fault.Stop.{Stop}
use Rattle.pi_effects.proofs.FaultLemmas.{effect-shown}
use Rattle.pi_prop_spec.specs.Ends.{least_of, greatest_of}
use Rattle.pi_settling.specs.DomainValues.{domain_at, domain_then, value_list, domain_functions, domain_function}
use Rattle.pi_settling.specs.Roots.{only}
use Rattle.pi_lib_constraints.specs.Functions.{function_name, function_done, count_of, span_values}
use Rattle.pi_lib_constraints.specs.declared.functions.DomainFunction.{DomainFunction}
use Rattle.pi_lib_constraints.proofs.PostLemmas.{no-domain}

-- ---- what a term has

some-stored : (o : Option (List Span)) → 0 < length (unwrap_or o []) → o ≡ Some (unwrap_or o [])
some-stored None h = absurd (omega (arith, h))
some-stored (Some d) h = refl

stored-some : (s : State) (u : Tree) (n : ℕ) → u ≡ var n → 0 < length (stored s n) → domain_at s u ≡ Some (stored s n)
stored-some s u n e h = ap (domain_at s) e ∙ some-stored (domain_of s n) h

none-by : (s : State) (n : ℕ) (o : Option (List Span)) → IsState s → domain_of s n ≡ o → length (unwrap_or o []) ≡ 0 → o ≡ None
none-by s n None is has h = refl
none-by s n (Some d) is has h = absurd (no-domain d h (domain_good s n d is has).1)

pub stored-none : {A : Type 0} (s : State) (u : Tree) (n : ℕ) (f : List Span → A) → IsState s → u ≡ var n → length (stored s n) ≡ 0 → None ≡ option_map f (domain_at s u)
stored-none s u n f is e h = sym (ap (option_map f) (ap (domain_at s) e ∙ none-by s n (domain_of s n) is refl h))

pub atom-none : {M A : Type 0} (v : StoreView M) (s : State) (u : Tree) (k : ℕ) (f : List Span → A) → ShowsCell v u (Cell.Atom k) → None ≡ option_map f (domain_at s u)
atom-none v s u k f (name, is, e) = sym (ap (λ (x : Tree). option_map f (domain_at s x)) e)

pub comp-none : {M A : Type 0} (v : StoreView M) (s : State) (u : Tree) (k count : ℕ) (f : List Span → A) → ShowsCell v u (Cell.Comp k count) → None ≡ option_map f (domain_at s u)
comp-none v s u k count f (name, is, e, many) = sym (ap (λ (x : Tree). option_map f (domain_at s x)) e)

pub int-some : {A : Type 0} (s : State) (u : Tree) (i : ℤ) (f : List Span → A) (a : A) → u ≡ int i → a ≡ f (only i) → Some a ≡ option_map f (domain_at s u)
int-some s u i f a e is = sym (ap (λ (x : Tree). option_map f (domain_at s x)) e ∙ ap Some (sym is))

first-is : (d : List Span) (x : Span) → slice_get d 0 ≡ Some x → x.lo ≡ least_of d
first-is [] x e = absurd cc
first-is (y ∷ d) x e = let same : y ≡ x = cc in ap (λ (z : Span). z.lo) (sym same)

last-is : (d : List Span) (x : Span) → slice_get d (length d - 1) ≡ Some x → x.hi ≡ greatest_of d
unfolding greatest_of
last-is [] x e = absurd cc
last-is (y ∷ []) x e = let same : y ≡ x = cc in ap (λ (z : Span). z.hi) (sym same)
last-is (y ∷ z ∷ d) x e =
    let place : length (y ∷ z ∷ d) - 1 ≡ suc (length (z ∷ d) - 1) = omega arith in
    last-is (z ∷ d) x (sym (ap (slice_get (y ∷ z ∷ d)) place) ∙ e)

pub least-some : (s : State) (u : Tree) (n : ℕ) (x : Span) (m : ℤ) → u ≡ var n → 0 < length (stored s n) → slice_get (stored s n) 0 ≡ Some x → m ≡ x.lo → Some m ≡ option_map least_of (domain_at s u)
least-some s u n x m e some at is = ap Some (is ∙ first-is (stored s n) x at) ∙ sym (ap (option_map least_of) (stored-some s u n e some))

pub greatest-some : (s : State) (u : Tree) (n k : ℕ) (x : Span) (m : ℤ) → u ≡ var n → 0 < length (stored s n) → k ≡ length (stored s n) - 1 → slice_get (stored s n) k ≡ Some x → m ≡ x.hi → Some m ≡ option_map greatest_of (domain_at s u)
greatest-some s u n k x m e some place at is = ap Some (is ∙ last-is (stored s n) x (sym (ap (slice_get (stored s n)) place) ∙ at)) ∙ sym (ap (option_map greatest_of) (stored-some s u n e some))

pub greatest-only : (i : ℤ) → i ≡ greatest_of (only i)
unfolding greatest_of
greatest-only i = refl

-- the domain of an unbound variable is what the term has
pub root-some : (s : State) (u : Tree) (d : List Span) → domain_at_root s u ≡ Some d → domain_at s u ≡ Some d
root-some s (var n) d e = e
root-some s (int i) d e = absurd cc
root-some s (atom name) d e = absurd cc
root-some s (comp name ts) d e = absurd cc

pub root-var : {A : Type 0} (s : State) (u : Tree) (n : ℕ) (f : List Span → A) → u ≡ var n → domain_at_root s u ≡ None → None ≡ option_map f (domain_at s u)
root-var s u n f e none = sym (ap (λ (x : Tree). option_map f (domain_at s x)) e ∙ ap (option_map f) (sym (ap (domain_at_root s) e) ∙ none))

size-only : (i : ℤ) → size_of (only i) ≡ 1
unfolding values_of numbers_from
size-only i = let up : i +ℤ pos (int_gap i i) ≡ i = gap_is i i (omega (arith, ints)) in let none : int_gap i i ≡ 0 = omega (arith, ints, up) in ap (λ (k : ℕ). length (numbers_from i (suc k) ++ [])) none

pub one-only : (i : ℤ) → pos 1 ≡ count_of (only i)
one-only i = ap pos (sym (size-only i))

-- ---- a number is put

pub number-shown : {M : Type 0} (v w : StoreView M) (made : Ref) (found : Option ℤ) (n m : ℤ) (ball : Tree) (f : List Span → ℤ) (o : Option (List Span)) → IsTerm w made (int m) → m ≡ n → found ≡ Some n → found ≡ option_map f o →
    ShowsTerm v w (Ok made) (found_or o ball (λ d. Ok (int (f d))))
number-shown v w made found n m ball f None is bits at e = absurd (let both : Some n ≡ None = sym at ∙ e in cc)
number-shown v w made found n m ball f (Some d) is bits at e = let same : Some n ≡ Some (f d) = sym at ∙ e in let one : n ≡ f d = cc in (int m, ap (λ (z : ℤ). Ok (int z)) (sym (bits ∙ one)), is)

pub number-none : {M : Type 0} (v w : StoreView M) (r : Ref) (t : Tree) (found : Option ℤ) (f : List Span → ℤ) (g : List Span → Answer Tree) (o : Option (List Span)) → IsTerm v r t → found ≡ None → found ≡ option_map f o →
    ShowsTerm v w (Err (Stop.Raised (Fault.WrongKind Kind.Domain r))) (found_or o (type_error (codes "domain") t v.now.state) g)
number-none v w r t found f g None is at e = (type_error (codes "domain") t v.now.state, refl, (t, is, refl))
number-none v w r t found f g (Some d) is at e = absurd (let both : None ≡ Some (f d) = sym at ∙ e in cc)

-- ---- a list is put

pub values-of : (s : State) (t : Tree) (d : List Span) → domain_at s (followed (bindings s) t) ≡ Some d → domain_then s t value_list ≡ value_list d
values-of s t d e = ap (λ (o : Option (List Span)). found_or o (type_error (codes "domain") t s) value_list) e

pub values-none : {M : Type 0} (v w : StoreView M) (r : Ref) (t : Tree) → IsTerm v r t → None ≡ option_map count_of (domain_at v.now.state (followed (bindings v.now.state) t)) →
    ShowsTerm v w (Err (Stop.Raised (Fault.WrongKind Kind.Domain r))) (domain_then v.now.state t value_list)
values-none v w r t is e = number-none v w r t None count_of value_list (domain_at v.now.state (followed (bindings v.now.state) t)) is refl e

values-only : (i : ℤ) → values_of (only i) ≡ i ∷ []
unfolding values_of numbers_from
values-only i = let up : i +ℤ pos (int_gap i i) ≡ i = gap_is i i (omega (arith, ints)) in let none : int_gap i i ≡ 0 = omega (arith, ints, up) in ap (λ (k : ℕ). numbers_from i (suc k) ++ []) none

few-values : (d : List Span) → size_of d ≤ most_items → value_list d ≡ Ok (list_of (map int (values_of d)))
few-values d few = let fits : nat_lt most_items (size_of d) ≡ false = grind (arith, tests, few) in ap (λ b. cond b (Err range_too_long) (Ok (list_of (map int (values_of d))))) fits

pub only-listed : {M : Type 0} (v w : StoreView M) (made : Ref) (t : Tree) (i j : ℤ) → followed (bindings v.now.state) t ≡ int i → IsTerm w made (list_of (int j ∷ [])) → j ≡ i → ShowsTerm v w (Ok made) (domain_then v.now.state t value_list)
only-listed v w made t i j e is bits =
    let s : State = v.now.state in (
      list_of (int j ∷ []),
      values-of s t (only i) (ap (domain_at s) e)
          ∙ (few-values (only i) (let one : size_of (only i) ≡ 1 = size-only i in omega (arith, one)) ∙ (ap (λ (ns : List ℤ). Ok (list_of (map int ns))) (values-only i) ∙ ap (λ (k : ℤ). Ok (list_of (int k ∷ []))) (sym bits))),
      is,
    )

pub domain-long : {M : Type 0} (v w : StoreView M) (d : List Span) → most_items < size_of d → ShowsTerm v w (Err (Stop.Raised Fault.RangeTooLong)) (value_list d)
domain-long v w d many = let past : nat_lt most_items (size_of d) ≡ true = grind (arith, tests, many) in (range_too_long, ap (λ b. cond b (Err range_too_long) (Ok (list_of (map int (values_of d))))) past, refl)

pub domain-listed : {M : Type 0} (v w : StoreView M) (made : Ref) (d ss : List Span) → ss ≡ d → size_of d ≤ most_items → IsTerm w made (list_of (map int (values_of ss))) → ShowsTerm v w (Ok made) (value_list d)
domain-listed v w made d ss e few is = (list_of (map int (values_of ss)), few-values d few ∙ ap (λ (x : List Span). Ok (list_of (map int (values_of x)))) (sym e), is)

pub root-listed : {M : Type 0} (v w : StoreView M) (result : Result Ref Stop) (t : Tree) (d : List Span) → domain_at_root v.now.state (followed (bindings v.now.state) t) ≡ Some d → ShowsTerm v w result (value_list d) → ShowsTerm v w result (domain_then v.now.state t value_list)
root-listed v w result t d e shows = subst (ShowsTerm v w result) (sym (values-of v.now.state t d (root-some v.now.state (followed (bindings v.now.state) t) d e))) shows

onto-append : (xs ys : List Tree) (rest : Tree) → list_onto (xs ++ ys) rest ≡ list_onto xs (list_onto ys rest)
unfolding list_onto
onto-append [] ys rest = refl
onto-append (x ∷ xs) ys rest = ap (list_cell x) (onto-append xs ys rest)

map-both : (xs ys : List ℤ) → map int (xs ++ ys) ≡ map int xs ++ map int ys
map-both [] ys = refl
map-both (x ∷ xs) ys = ap (λ (ts : List Tree). int x ∷ ts) (map-both xs ys)

drop-more : (ss : List Span) (k : ℕ) (d : Span) → k < length ss → drop k ss ≡ get_or ss k d ∷ drop (suc k) ss
drop-more [] k d l = absurd (omega (arith, l))
drop-more (s ∷ ss) zero d l = refl
drop-more (s ∷ ss) (suc k) d l = drop-more ss k d (omega (arith, l))

drop-all : (ss : List Span) (k : ℕ) → length ss ≤ k → drop k ss ≡ []
drop-all [] zero l = refl
drop-all [] (suc k) l = refl
drop-all (s ∷ ss) zero l = absurd (omega (arith, l))
drop-all (s ∷ ss) (suc k) l = drop-all ss k (omega (arith, l))

values-more : (s : Span) (ss : List Span) → list_of (map int (values_of (s ∷ ss))) ≡ list_onto (map int (span_values s)) (list_of (map int (values_of ss)))
unfolding values_of
values-more s ss = ap (λ (ts : List Tree). list_onto ts (atom nil)) (map-both (span_values s) (values_of ss)) ∙ onto-append (map int (span_values s)) (map int (values_of ss)) (atom nil)

pub spans-none : {M : Type 0} (w : StoreView M) (list : Ref) (ss : List Span) (k : ℕ) → length ss ≤ k → IsTerm w list (atom nil) → IsTerm w list (list_of (map int (values_of (drop k ss))))
unfolding values_of list_onto
spans-none w list ss k l is = is ∙ ap (λ (qs : List Span). Some (list_of (map int (values_of qs)))) (sym (drop-all ss k l))

pub spans-more : {M : Type 0} (w x : StoreView M) (list made : Ref) (ss : List Span) (k : ℕ) (d : Span) → k < length ss → IsTerm w list (list_of (map int (values_of (drop (suc k) ss)))) →
    ((t : Tree) → IsTerm w list t → IsTerm x made (list_onto (map int (span_values (get_or ss k d))) t)) → IsTerm x made (list_of (map int (values_of (drop k ss))))
spans-more w x list made ss k d l is puts =
    puts (list_of (map int (values_of (drop (suc k) ss)))) is
    ∙ (ap Some (sym (values-more (get_or ss k d) (drop (suc k) ss))) ∙ ap (λ (qs : List Span). Some (list_of (map int (values_of qs)))) (sym (drop-more ss k d l)))

-- ---- the values of a span, from one on

cell-put : {M : Type 0} (x y : StoreView M) (value list made : Ref) (t rest : Tree) → IsTerm x value t → IsTerm x list rest → ((us : Trees) → AreTerms x (value ∷ list ∷ []) us → IsTerm y made (comp cell_name us)) → IsTerm y made (list_cell t rest)
unfolding AreTerms
cell-put x y value list made t rest is behind puts = puts (tree t (tree rest no_trees)) (is, (behind, tt))

pub span-none : {M : Type 0} (w : StoreView M) (rest : Ref) (lo : ℤ) (count : ℕ) (t : Tree) → IsTerm w rest t → IsTerm w rest (list_onto (map int (numbers_from (lo +ℤ pos count) (count - count))) t)
unfolding numbers_from list_onto
span-none w rest lo count t is = let none : count - count ≡ 0 = omega arith in is ∙ ap (λ (k : ℕ). Some (list_onto (map int (numbers_from (lo +ℤ pos count) k)) t)) (sym none)

numbers-first : (n : ℤ) (k : ℕ) → numbers_from n (suc k) ≡ n ∷ numbers_from (n +ℤ pos 1) k
unfolding numbers_from
numbers-first n k = refl

onto-first : (n : ℤ) (ns : List ℤ) (t : Tree) → list_onto (map int (n ∷ ns)) t ≡ list_cell (int n) (list_onto (map int ns) t)
unfolding list_onto
onto-first n ns t = refl

pub span-more : {M : Type 0} (w x y : StoreView M) (value list made : Ref) (lo n : ℤ) (count k : ℕ) (t : Tree) → k < count → n ≡ lo +ℤ pos k → IsTerm x value (int n) → Keeps w x → IsTerm w list (list_onto (map int (numbers_from (lo +ℤ pos (suc k)) (count - suc k))) t) →
    ((us : Trees) → AreTerms x (value ∷ list ∷ []) us → IsTerm y made (comp cell_name us)) → IsTerm y made (list_onto (map int (numbers_from (lo +ℤ pos k) (count - k))) t)
span-more w x y value list made lo n count k t l e is keeps rest puts =
    let j : ℕ = count - suc k in
    let many : count - k ≡ suc j = omega (arith, l) in
    let next : lo +ℤ pos (suc k) ≡ (lo +ℤ pos k) +ℤ pos 1 = omega (arith, ints) in
    let behind : Tree = list_onto (map int (numbers_from (lo +ℤ pos (suc k)) j)) t in
    cell-put x y value list made (int n) behind is (keeps.terms list behind rest) puts
    ∙ (ap (λ (m : ℤ). Some (list_cell (int m) behind)) e
    ∙ (ap (λ (m : ℤ). Some (list_cell (int (lo +ℤ pos k)) (list_onto (map int (numbers_from m j)) t))) next
    ∙ (ap Some (sym (onto-first (lo +ℤ pos k) (numbers_from ((lo +ℤ pos k) +ℤ pos 1) j) t))
    ∙ (ap (λ (ns : List ℤ). Some (list_onto (map int ns) t)) (sym (numbers-first (lo +ℤ pos k) j)) ∙ ap (λ (m : ℕ). Some (list_onto (map int (numbers_from (lo +ℤ pos k) m)) t)) (sym many)))))

pub span-all : {M : Type 0} (w : StoreView M) (list : Ref) (lo : ℤ) (count k : ℕ) (t : Tree) → k ≡ 0 → IsTerm w list (list_onto (map int (numbers_from (lo +ℤ pos k) (count - k))) t) → IsTerm w list (list_onto (map int (numbers_from lo count)) t)
span-all w list lo count k t e is =
    let low : lo +ℤ pos k ≡ lo = omega (arith, ints, e) in
    let many : count - k ≡ count = omega (arith, e) in
    is ∙ (ap (λ (n : ℤ). Some (list_onto (map int (numbers_from n (count - k))) t)) low ∙ ap (λ (m : ℕ). Some (list_onto (map int (numbers_from lo m)) t)) many)

pub width-is : (lo hi : ℤ) (n : ℕ) → lo ≤ℤ hi → pos n ≡ (hi -ℤ lo) → suc (int_gap lo hi) ≡ n + 1
width-is lo hi n le e = let up : lo +ℤ pos (int_gap lo hi) ≡ hi = gap_is lo hi le in omega (arith, ints, up, e)

-- ---- by name

by-name : (f : DomainFunction) (t : Tree) (s : State) → domain_function (function_name f) (tree t no_trees) s ≡ Some (answer_in s (function_done f s t))
unfolding done_by domain_functions
by-name DomainFunction.Least t s = refl
by-name DomainFunction.Greatest t s = refl
by-name DomainFunction.Size t s = refl
by-name DomainFunction.Values t s = refl

pub function-shown : {M : Type 0} (v w : StoreView M) (result : Result Ref Stop) (f known : DomainFunction) (t : Tree) (e : FunctionEffect) → f ≡ known → Stays v w → ShowsTerm v w result (function_done known v.now.state t) →
    domain_function (function_name f) (tree t no_trees) v.now.state ≡ Some e → ShowsEffect v w result e
function-shown v w result f known t e is stays shows done =
    let s : State = v.now.state in
    let asked : domain_function (function_name known) (tree t no_trees) s ≡ Some e = subst (λ (x : DomainFunction). domain_function (function_name x) (tree t no_trees) s ≡ Some e) is done in
    let same : Some (answer_in s (function_done known s t)) ≡ Some e = sym (by-name known t s) ∙ asked in
    let one : answer_in s (function_done known s t) ≡ e = cc in
    subst (ShowsEffect v w result) one (effect-shown v w result (function_done known s t) stays shows)

spans-ordered : (least : ℤ) (ss : List Span) (k : ℕ) (d : Span) → AscendFrom least ss → k < length ss → (get_or ss k d).lo ≤ℤ (get_or ss k d).hi
unfolding AscendFrom
spans-ordered least [] k d h l = absurd (omega (arith, l))
spans-ordered least (s ∷ ss) zero d h l = h.1
spans-ordered least (s ∷ ss) (suc k) d h l = spans-ordered (s.hi +ℤ pos 2) ss k d h.3 (omega (arith, l))

pub span-ordered : (ss : List Span) (k : ℕ) (d : Span) → IsDomain ss → k < length ss → (get_or ss k d).lo ≤ℤ (get_or ss k d).hi
span-ordered ss k d h l = spans-ordered (neg_ℤ MAX_VALUE) ss k d h l
