use Rattle.std.proofs.Common.{◌≡◌, ◌∙◌, ◌-◌, ◌≤◌, max, take, ap, subst, sym, refl}
use Rattle.pi_engine_arenas.specs.Arenas.{newest, noted_by, slots_kept_by}
use Rattle.pi_engine_arenas.proofs.arenas.Arenas.leave.Goals as goal

pub returns-clause-leaves : goal.returns-clause-leaves
returns-clause-leaves g c =
    let count : c.saturating_sub.result ≡ c.args.number - 1 = c.saturating_sub.ensures in
    record {
      drops = record {
        entries = c.truncate.ensures.entries ∙ ap (λ n. take n c.args.self.now.entries.items) count;
        frames_are = c.truncate-2.ensures ∙ ap (take c.args.back.frames) c.truncate.ensures.frames;
        collected = c.truncate.ensures.collected;
        kept = c.truncate-3.ensures.kept ∙ c.truncate.ensures.kept ∙ ap (λ n. slots_kept_by (newest (take n c.args.self.now.entries.items))) count;
        keeps = λ m kept few early.
            (let first : _ = c.truncate.ensures.keeps m kept (subst (λ n. m.slots ≤ n) c.truncate-3.ensures.kept few)
            (subst (λ n. m.trail ≤ noted_by (newest (take n c.args.self.now.entries.items))) (sym count) early) in
            let second : _ = c.truncate-3.ensures.keeps m first.0 in
            (second.0, second.1 ∙ first.1));
      };
      slots = c.truncate-3.ensures.fewer
          ∙ ap (λ n. take (max c.args.back.blocks.slots n) c.truncate.new.self.blocks.slots) (sym c.truncate-3.ensures.kept)
          ∙ ap (take (max c.args.back.blocks.slots c.truncate-3.new.self.kept)) c.truncate.ensures.slots;
      level = refl;
    }
