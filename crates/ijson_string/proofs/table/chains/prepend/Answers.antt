use Rattle.std.proofs.Common.{◌≡◌, ◌<◌, ◌∙◌, ap, ap₂, sym, length, get_or, arith, rules}
use Rattle.std.specs.Prelude.{slice_set}
use Rattle.std.specs.Int.Bits.{bit_or}
use Rattle.std.proofs.lemmas.List.{get_or-map, length-map, length-set, map-set}
use Rattle.ijson_string.specs.private.Chains.{bucket_of}
use Rattle.ijson_string.specs.private.IsTable.{filters_of, heads_of}
use Rattle.ijson_string.specs.private.Filters.{filter_of}
use Rattle.ijson_string.proofs.table.chains.prepend.Goals as goal

pub returns-clause-next : goal.returns-clause-next
returns-clause-next c =
    let buckets = c.args.buckets.now.items in
    let many = c.len.ensures ∙ c.args.buckets.now.ok.0 in
    ap (λ b. b.head) c.index-before.ensures
    ∙ sym (get_or-map (λ b. b.head) buckets c.bucket_index-at.result _ 0 (omega (arith, c.bucket_index-at.ensures.within, many)))
    ∙ ap (λ at. get_or (heads_of buckets) at 0) (c.bucket_index-at.ensures.bucket ∙ ap (λ n. bucket_of n c.args.hash) many)

pub returns-clause-entered : goal.returns-clause-entered
returns-clause-entered c =
    let buckets = c.args.buckets.now.items in
    let at = c.bucket_index-at.result in
    let many = c.len.ensures ∙ c.args.buckets.now.ok.0 in
    let within : at < length buckets = omega (arith, c.bucket_index-at.ensures.within, many) in
    let is : at ≡ bucket_of (length buckets) c.args.hash = c.bucket_index-at.ensures.bucket ∙ ap (λ n. bucket_of n c.args.hash) many in
    let there = ap (λ b. b.filter) c.index-before.ensures ∙ sym (get_or-map (λ b. b.filter) buckets at _ 0 within) in
    let filter : bit_or c.index-before.result.now.filter c.filter_bits.result ≡ bit_or (get_or (filters_of buckets) at 0) (filter_of c.args.hash) =
    ap₂ bit_or there c.filter_bits.ensures in
    record {
      as_many = length-set buckets at _;
      inside = omega (arith, is, within);
      head = map-set (λ b. b.head) buckets at _ ∙ ap (λ at. slice_set (heads_of buckets) at c.args.head) is;
      filters =
          map-set (λ b. b.filter) buckets at _
          ∙ ap (slice_set (filters_of buckets) at) (search (rules, filter))
          ∙ ap (λ p. slice_set (filters_of buckets) p (bit_or (get_or (filters_of buckets) p 0) (filter_of c.args.hash)))
          (is ∙ ap (λ n. bucket_of n c.args.hash) (sym (length-map buckets (λ b. b.filter))));
    }
