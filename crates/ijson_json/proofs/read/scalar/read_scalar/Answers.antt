use Rattle.std.proofs.Common.{true, false, arith, rules, refl, sym, subst, inl, inr}
use Rattle.std.proofs.lemmas.Result.{err_from_is_err_and}
use Rattle.ijson_value.specs.WellFormed.{WellFormed}
use Rattle.ijson_string.specs.Cache.{Texts}
use Rattle.ijson_json.specs.AddsOnlyRead.{AddsOnlyRead}
use Rattle.ijson_json.specs.AreShared.{AreShared}
use Rattle.ijson_json.proofs.reading.CacheContents.{adds_none, string_adds, string_shared}
use Rattle.ijson_json.proofs.reading.Words.{null_word, boolean_word, word_reads}
use Rattle.ijson_json.proofs.read.scalar.read_scalar.Goals as goal

-- ---- a string

pub returns-in_err-string-in-34 : goal.returns-in_err-string-in-34
returns-in_err-string-in-34 g c =
    let p = err_from_is_err_and c.from_residual.result c.from_residual.ensures.1 in
    let b = c.requires.begins in
    rw (p.1, p.2) (record {
      cache = subst (λ (cache : Texts). AddsOnlyRead c.args.text.now c.args.cache.now cache) (sym c.in_err-string-in-34.ensures.refused)
          (adds_none c.args.text.now c.args.cache.now);
      answer = (c.args.first, b.0, b.1, inl (c.in-34.is, c.in_err-string-in-34.ensures.read));
    })

pub returns-in_ok-string-in-34 : goal.returns-in_ok-string-in-34
returns-in_ok-string-in-34 g c =
    let string = c.in_ok-string-in-34.string in
    let rest = c.in_ok-string-in-34.rest.now in
    let found = c.in_ok-string-in-34.ensures in
    record {
      cache = string_adds c.args.text.now rest string c.args.cache.now c.read_string.new.cache found.read found.cache;
      answer = record {
        read = search rules;
        shared = subst (λ (v : WellFormed). AreShared c.read_string.new.cache v.tree) (sym c.from.ensures)
            (string_shared string c.args.cache.now c.read_string.new.cache found.cache);
      };
    }

-- ---- a literal

pub returns-in-110 : goal.returns-in-110
returns-in-110 g c = word_reads null_word c.read_word.result _ c.args.cache.now c.args.text.now c.args.first
    c.requires.begins.0 c.requires.begins.1 c.in-110.is refl c.read_word.ensures

pub returns-in-116 : goal.returns-in-116
returns-in-116 g c = word_reads (boolean_word true) c.read_word-in-116.result _ c.args.cache.now c.args.text.now c.args.first
    c.requires.begins.0 c.requires.begins.1 c.in-116.is refl c.read_word-in-116.ensures

pub returns-in-102 : goal.returns-in-102
returns-in-102 g c = word_reads (boolean_word false) c.read_word-in-102.result _ c.args.cache.now c.args.text.now c.args.first
    c.requires.begins.0 c.requires.begins.1 c.in-102.is refl c.read_word-in-102.ensures

-- ---- a number

pub returns-in_err-number-in_default : goal.returns-in_err-number-in_default
returns-in_err-number-in_default g c =
    let p = err_from_is_err_and c.from_residual-in_err-number-in_default.result c.from_residual-in_err-number-in_default.ensures.1 in
    let b = c.requires.begins in
    rw (p.1, p.2) (record {
      cache = adds_none c.args.text.now c.args.cache.now;
      answer = (
        c.args.first,
        b.0,
        b.1,
        inr (inr (inr (inr (
          (
            omega arith,
            omega arith,
            omega arith,
            c.requires.apart.0,
            c.requires.apart.1,
            omega arith,
          ),
          c.in_err-number-in_default.ensures,
        )))),
      );
    })
