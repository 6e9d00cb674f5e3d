use Rattle.std.proofs.Common.{arith, rules, sym, subst, inr}
use Rattle.std.proofs.lemmas.Result.{err_from_is_err_and}
use Rattle.ijson_string.specs.Cache.{Texts}
use Rattle.ijson_json.specs.AddsOnlyRead.{AddsOnlyRead}
use Rattle.ijson_json.proofs.reading.CacheContents.{adds_none, string_adds, string_shared}
use Rattle.ijson_json.proofs.faults.KeyFaults.{string_key}
use Rattle.ijson_json.proofs.read.string.read_key.Goals as goal

pub returns-in_err-key : goal.returns-in_err-key
returns-in_err-key g c =
    let p = err_from_is_err_and c.from_residual.result c.from_residual.ensures.1 in
    rw (p.1, p.2) (record {
      cache = subst (λ (cache : Texts). AddsOnlyRead c.args.text.now c.args.cache.now cache) (sym c.in_err-key.ensures.refused)
          (adds_none c.args.text.now c.args.cache.now);
      answer = string_key c.args.text.now c.in_err-key.field-0.0 c.in_err-key.ensures.read;
    })

pub returns-in-None : goal.returns-in-None
returns-in-None g c =
    let found = c.in_ok-key.ensures in
    record {
      cache = string_adds c.args.text.now c.in_ok-key.after.now c.in_ok-key.key c.args.cache.now c.read_string.new.cache found.read
          found.cache;
      answer = inr (record {
        key = c.in_ok-key.key;
        after = c.in_ok-key.after.now;
        rest = c.skip_space-after.result.now;
        found = found.read;
        skipped = c.skip_space-after.ensures;
        no_colon = search rules;
        left_is = omega arith;
      });
    }

pub returns-in-Some : goal.returns-in-Some
returns-in-Some g c =
    let found = c.in_ok-key.ensures in
    record {
      cache = string_adds c.args.text.now c.in_ok-key.after.now c.in_ok-key.key c.args.cache.now c.read_string.new.cache found.read
          found.cache;
      answer = record {
        read = search rules;
        shared = string_shared c.in_ok-key.key c.args.cache.now c.read_string.new.cache found.cache;
      };
    }
