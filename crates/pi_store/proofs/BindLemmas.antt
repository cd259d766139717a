-- What a binding does.
use Rattle.std.proofs.Common.{◌≡◌, ℕ, suc, List, length, Some, None, map, slice_index, slice_set, refl, ap, sym, subst, ◌≤◌, ◌∙◌, ◌≢◌, ◌-◌, ◌%◌, ◌==◌, Bool, true, false, arith}
use Rattle.std.specs.Prelude.{option_map}
use Rattle.std.proofs.lemmas.Bool.Decides.{nat_tests}
use Rattle.pi_terms.specs.Tree.{Tree, var}
use Rattle.pi_terms.specs.Places.{held}
use Rattle.pi_terms.proofs.GetLemmas.{map_set}
use Rattle.pi_constraints.specs.State.{followed, bound}
use Rattle.pi_constraints.specs.Store.{Binds}
use Rattle.pi_constraints.specs.declared.store.Ref.{Ref}
use Rattle.pi_region.specs.Image.{Image, replaced}
use Rattle.pi_region.specs.Back.{Advances}
use Rattle.pi_region.specs.declared.entry.Table.{Table}
use Rattle.pi_store_blocks.specs.declared.form.Form.{Form}
use Rattle.pi_store_blocks.specs.Form.{form_of}
use Rattle.pi_store_blocks.specs.Heap.{Heap, term_at, Grows}
use Rattle.pi_store_blocks.specs.Placed.{IsRefIn}
use Rattle.pi_store_blocks.proofs.HeapLemmas.{trees_stay}
use Rattle.pi_store_blocks.proofs.RefLemmas.{form_stays}
use Rattle.pi_store_blocks.specs.Node.{IsListed}
use Rattle.pi_store_blocks.proofs.ListLemmas.{nothing_listed}
use Rattle.pi_store_blocks.proofs.BoundLemmas.{no_data}
use Rattle.pi_store_blocks.specs.NameTable.{NameTable}
use Rattle.pi_store.specs.Heads.{taken_in, list_end}
use Rattle.pi_store.specs.Walk.{bound_ref_by, variable_of, unless_bound_by, free_of_any, followed_at, free_at}
use Rattle.pi_store.specs.Holding.{tree_of, variable_by, variable_in, heap_of, view_of}
use Rattle.pi_store.specs.Lists.{Leads, IsComplete}
use Rattle.pi_store.specs.Sound.{IsSound}
use Rattle.pi_store.specs.Added.{IsAddedAlong, IsJoinedTo, BindsTo}
use Rattle.pi_store.proofs.CompleteLemmas.{complete_bound}
use Rattle.pi_store.proofs.NameLemmas.{keeps_itself}
use Rattle.pi_store.specs.Bindings.{bound_in}
use Rattle.pi_store.proofs.LookLemmas.{tree_at_ref, held_is, followed_to, form_var, tree_is}
use Rattle.pi_store.proofs.SoundLemmas.{has_bound, term_is_ref, ref_has_term, has_constraints, has_lists, sound_binding}
use Rattle.pi_store.proofs.KeepLemmas.{heap_grows, keeps_all, same_states, same_parts, parts_stay}

-- what a Ref is followed to is a Ref
pub followed_ref : (t : NameTable) (i : Image) (r q : Ref) → IsSound t i → IsRefIn (heap_of t i) (form_of r.number) → q ≡ followed_at i.variables r → IsRefIn (heap_of t i) (form_of q.number)
followed_ref t i r q s is to =
    let x = ref_has_term t i s r.number is in
    term_is_ref t i s q.number (followed (bound_in (heap_of t i) i.variables) x.0) (followed_to (heap_of t i) i.variables (has_bound t i s) r q x.0 to x.1)

-- the free variable that a term is at its root

word_of_free : (b : Bool) (w n : ℕ) (h : Heap) → option_map (tree_at_ref h) (bound_ref_by b w) ≡ None → unless_bound_by b n ≡ Some n
word_of_free true w n h e = refl
word_of_free false w n h e = absurd (cc)

pub free_is : (t : NameTable) (i : Image) (r : Ref) (x : Tree) (n : ℕ) → IsSound t i → term_at (heap_of t i) r.number ≡ Some x → followed (bound_in (heap_of t i) i.variables) x ≡ var n → held (bound_in (heap_of t i) i.variables) n ≡ None
    → free_at i.variables r ≡ Some n
free_is t i r x n s is root none =
    let h : Heap = heap_of t i in
    let vs : List ℕ = i.variables in
    let w : ℕ = slice_index vs n in
    let last : Ref = followed_at i.variables r in
    let form : form_of last.number ≡ Form.Var n = form_var h last.number n (followed_to h vs (has_bound t i s) r last x refl is ∙ ap Some root) in
    ap (λ f. free_of_any vs (variable_of f)) form ∙ word_of_free (w % 8 == 0) w n h (sym (held_is h vs n) ∙ none)

-- the word of a variable that is bound to a Ref
bound_word : (h k : Heap) (r : ℕ) → IsRefIn h (form_of r) → variable_in k (suc r) ≡ bound (tree_of k r)
bound_word h k r is =
    let e : (suc r % 8 == 0) ≡ false = other (suc r % 8) (λ z. let seven : r % 8 ≡ 7 = omega arith in no_data h r is seven) in
    let one : suc r - 1 ≡ r = omega arith in
    ap (λ b. variable_by b k (suc r)) e ∙ ap (λ q. bound (tree_of k q)) one
  where
    other : (n : ℕ) → n ≢ 0 → (n == 0) ≡ false
    other n ne = grind (arith, nat_tests)

-- nothing is bound where the one is no term, or the other no free variable

pub binds_no_term : (t : NameTable) (i : Image) (v q : Ref) → IsSound t i → (IsRefIn (heap_of t i) (form_of q.number) → ⊥) → Binds (view_of t i) (view_of t i) v q
binds_no_term t i v q s none = λ n x y a b root may. absurd (none (term_is_ref t i s q.number y b))

pub binds_no_variable : (t : NameTable) (i : Image) (v q : Ref) → IsSound t i → free_at i.variables v ≡ None → Binds (view_of t i) (view_of t i) v q
binds_no_variable t i v q s none = λ n x y a b root may. let is : free_at i.variables v ≡ Some n = free_is t i v x n s a root may.unbound in absurd (cc)

-- a variable that was free is bound

-- lists are joined, and it gets another word

pub sound_bound : (t : NameTable) (i j : Image) (n r : ℕ) → IsSound t i → IsRefIn (heap_of t i) (form_of r) → BindsTo i j n r → IsSound t j
sound_bound t i j n r s is b =
    let mid : IsSound t b.mid = b.adds.sound t s in
    let grows : Grows (heap_of t i) (heap_of t b.mid) = heap_grows t t i b.mid (keeps_itself t (length i.region)) b.adds.advances in
    let complete : IsComplete (replaced b.mid Table.Variables n (suc r)) =
    complete_bound i b.mid grows.words.0 n r (has_constraints t i s) (has_lists t i s) (has_lists t b.mid mid) grows.words.1 b.adds.tables.constraints b.adds.tables.variables (b.adds.lists t s) (b.joined t s) in
    subst (IsSound t) (sym b.set) (sound_binding t b.mid n r (form_stays (heap_of t i) (heap_of t b.mid) grows (form_of r) is) complete mid)

pub binds_to : (t : NameTable) (i j : Image) (v q to : Ref) (n : ℕ) → IsSound t i → free_at i.variables v ≡ Some n → to ≡ followed_at i.variables q → BindsTo i j n to.number → Binds (view_of t i) (view_of t j) v q
binds_to t i j v q to n s free is b = λ m x y at bt root may.
    let h : Heap = heap_of t i in
    let k : Heap = heap_of t j in
    let vs : List ℕ = i.variables in
    let a : Advances i j = b.advances in
    let same_then = b.adds.tables in
    let found : free_at i.variables v ≡ Some m = free_is t i v x m s at root may.unbound in
    let same : n ≡ m = cc in
    let grows : Grows h k = heap_grows t t i j (keeps_itself t (length i.region)) a in
    let y_last : Tree = followed (bound_in (heap_of t i) i.variables) y in
    let here : term_at h to.number ≡ Some y_last = followed_to h vs (has_bound t i s) q to y is bt in
    let there : tree_of k to.number ≡ y_last = tree_is k to.number y_last (trees_stay h k grows to.number y_last here) in
    let ref : IsRefIn h (form_of to.number) = term_is_ref t i s to.number y_last here in
    let vars : j.variables ≡ slice_set vs n (suc to.number) = ap (λ (l : Image). l.variables) b.set ∙ ap (λ ws. slice_set ws n (suc to.number)) same_then.variables in
    let p = parts_stay t t i j s grows in
    let q = same_parts h k i j p in
    let all : map (variable_in k) j.variables ≡ slice_set (map (variable_in h) vs) m (bound y_last) =
    ap (map (variable_in k)) vars
    ∙ (map_set (variable_in k) vs n (suc to.number)
    ∙ (ap (slice_set (map (variable_in k) vs) n) (bound_word h k to.number ref)
    ∙ (ap (λ ws. slice_set ws n (bound (tree_of k to.number))) p.variables
    ∙ (ap (λ z. slice_set (map (variable_in h) vs) n (bound z)) there
    ∙ ap (λ p. slice_set (map (variable_in h) vs) p (bound y_last)) same)))) in
    record {
      keeps = keeps_all t t i j (keeps_itself t (length i.region)) a;
      state = same_states _ _ all (q.constraints (ap (λ (l : Image). l.constraints) b.set ∙ same_then.constraints)) (q.agents (ap (λ (l : Image). l.agents) b.set ∙ same_then.agents))
          (q.waiting (ap (λ (l : Image). l.waiting) b.set ∙ same_then.waiting) (ap taken_in b.set ∙ same_then.taken));
    }

-- Lists that are joined

-- there is nothing in the list of the variable
pub joins_none : (i : Image) (n r : ℕ) → list_end i n ≡ 0 → IsJoinedTo i i n r
joins_none i n r none t s m v k is leads on = absurd (nothing_listed i.region k (subst (λ (e : ℕ). IsListed i.region e k) none on))

-- the Ref is no variable
pub joins_no_variable : (i : Image) (n r : ℕ) → variable_of (form_of r) ≡ None → IsJoinedTo i i n r
joins_no_variable i n r none t s m v k is leads on = absurd (cc)

-- it is one: what ends at the list of the first is added along the chain of the second
pub joins_along : (i j : Image) (n r m number end : ℕ) → variable_of (form_of r) ≡ Some m → end ≡ list_end i n → IsAddedAlong i j number end m → IsJoinedTo i j n r
joins_along i j n r m number end there is a t s u v k here leads on =
    let same : u ≡ m = cc in
    let within : list_end i n ≤ length i.region = (has_lists t i s).within n in
    (a t s (omega arith) v (subst (λ (x : ℕ). Leads i.variables x v) same leads)).others k (subst (λ (e : ℕ). IsListed i.region e k) (sym is) on)
