use Rattle.std.proofs.Common.{◌≡◌, Bool, true, false, ℕ, Option, Some, cond, Vec, refl, string_bytes, rules}
use Rattle.std.specs.Option.{option_map}
use Rattle.std.specs.declared.alloc.Global.{Global}
use Rattle.std.proofs.lemmas.Map.Text.{btree_map_updates_text}
use Rattle.std.proofs.lemmas.Result.{IfOk-at_ok}
use Rattle.pi_outside.proofs.named.Named.add.Goals as goal

option_map-cond : (b : Bool) (file : Vec ℕ Global) (old : Option (Vec ℕ Global)) → option_map (λ v. v.items) (cond b (Some file) old) ≡ cond b (Some file.items) (option_map (λ v. v.items) old)
option_map-cond true file old = refl
option_map-cond false file old = refl

pub returns-clause-ok : goal.returns-clause-ok
returns-clause-ok c = λ other.
    let key_is = IfOk-at_ok (λ s. string_bytes s ≡ c.args.name.now) c.in_ok-key.was c.from_str.ensures.ok in
    let file_is : c.in_ok-file.file.items ≡ c.args.bytes.now = search rules in
    let sets = btree_map_updates_text (string_bytes c.in_ok-key.key) c.args.self.now.files c.insert.new.self _ c.in_ok-insert.ensures.updates other in
    let named = rw key_is at sets in
    rw (named, option_map-cond, file_is) refl
