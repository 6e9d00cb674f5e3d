use Rattle.std.proofs.Common.{◌++◌, ◌∙◌, ◌∷◌, None, rules, ap, sym, map}
use Rattle.ijson_extra.specs.private.Joined.{shown, unchanged}
use Rattle.ijson_extra.proofs.patching.Joined.{one_listed}
use Rattle.ijson_extra.proofs.merge_patch.push_unchanged.Goals as goal

pub loop-key-preserved : goal.loop-key-preserved
loop-key-preserved c =
    let left = c.in-Some.ensures.steps in
    let rest = c.next.new.self in
    let key = c.in_ok-clone.field-0 in
    record {
      all = one_listed c.loop-key.keys.items c.push_reserved.new.self.items (key, None) (unchanged rest) _ c.push_reserved.ensures.items
          (ap (λ k. map shown c.loop-key.keys.items ++ (k, None) ∷ unchanged rest) c.in_ok-clone.ensures.cases
          ∙ ap (λ ks. map shown c.loop-key.keys.items ++ unchanged ks) (sym left) ∙ c.loop-key.invariant.all);
      fits = search rules;
      room = c.push_reserved.ensures.capacity ∙ c.loop-key.invariant.room;
    }
