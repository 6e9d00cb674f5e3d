use Rattle.std.proofs.Common.{◌≡◌, ◌∙◌, ◌<◌, ap, sym, subst, refl, length, get_or, take, ◌+◌, ◌*◌, arith, rules}
use Rattle.std.proofs.lemmas.Grind.{common_steps}
use Rattle.std.proofs.Math.Seq.{map-set_same}
use Rattle.std.proofs.lemmas.List.{length-set, length-take-le, take_all, take_more_set}
use Rattle.ijson_string.specs.declared.table.chains.Link.{Link}
use Rattle.ijson_string.specs.private.Chains.{bucket_of}
use Rattle.ijson_string.specs.private.IsTable.{heads_of, IsEntered, IsTable}
use Rattle.ijson_string.proofs.ChainLinks.{IsTable-none, IsTable-push}
use Rattle.ijson_string.proofs.table.chains.grow.Goals as goal

pub loop-position-init : goal.loop-position-init
loop-position-init c = record {
  buckets = grind (arith, common_steps);
  links = refl;
  capacity = refl;
  kept = refl;
  table = rw (c.fill.ensures.items (λ _ e. e)) (IsTable-none _ (grind (arith, common_steps)));
}

pub loop-position-preserved : goal.loop-position-preserved
loop-position-preserved c =
    let links = c.loop-position.links.items in
    let buckets = c.loop-position.buckets.items in
    let i = c.loop-position.position in
    let l : Link = c.index_mut-link.result.now in
    let written : Link = record l { next = c.prepend-link.result } in
    let was = c.loop-position.invariant in
    let within : i < length links = omega (arith, was.links, c.loop-position-test.true, c.len-position-end.ensures, c.args.links.now.ok.0) in
    let there : l ≡ get_or links i l = c.index_mut-link.ensures.value in
    let first : length (take i links) ≡ i = length-take-le i links (omega (arith, within)) in
    let entered : IsEntered buckets c.prepend-link.new.buckets.items l.hash (length (take i links) + 1) =
    rw first (search (rules, c.prepend-link.ensures.entered)) in
    let next : written.next ≡ get_or (heads_of buckets) (bucket_of (length buckets) l.hash) 0 =
    search (rules, c.prepend-link.ensures.next) in
    let room = c.requires.table.room in
    let spare : length (take i links) < 4 * length buckets = omega (
      arith,
      first,
      within,
      room,
      was.links,
      was.buckets,
      c.max-count.ensures,
      c.len-3.ensures,
      c.args.buckets.now.ok.0,
    ) in
    record {
      buckets = entered.as_many ∙ was.buckets;
      links = length-set links i written ∙ was.links;
      capacity = was.capacity;
      kept = map-set_same (λ l. l.hash) links i written l (ap (λ l. l.hash) there) ∙ was.kept;
      table =
          subst (λ links. IsTable links c.prepend-link.new.buckets.items) (sym (take_more_set links i written within))
          (IsTable-push (take i links) buckets _ written was.table spare entered next);
    }

pub returns-clause-table : goal.returns-clause-table
returns-clause-table c =
    let was = c.loop-position.invariant in
    subst (λ links. IsTable links c.loop-position.buckets.items)
    (take_all c.loop-position.position c.loop-position.links.items
    (omega (arith, was.links, c.loop-position-test.false, c.len-position-end.ensures, c.args.links.now.ok.0))) was.table
