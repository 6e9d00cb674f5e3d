use Rattle.std.proofs.Common.{◌≡◌, ◌+◌, ◌∙◌, ap, ap₂, subst, sym, List, [], ◌∷◌, ◌++◌, length, rules}
use Rattle.std.proofs.lemmas.List.{length-append, length-map, map-append}
use Rattle.ijson_string.specs.declared.table.chains.Link.{Link}
use Rattle.ijson_string.specs.private.IsTable.{hashes_of, IsEntered}
use Rattle.ijson_string.specs.private.Keys.{keys_of}
use Rattle.ijson_string.specs.private.Table.{Table, buckets_for}
use Rattle.ijson_string.proofs.ChainLinks.{IsTable-push}
use Rattle.ijson_string.proofs.KeysAt.{as_many_keys, keys-push}
use Rattle.ijson_string.proofs.table.TextTable.push.Goals as goal

as_many : (old new : List Link) → hashes_of new ≡ hashes_of old → length new ≡ length old
as_many old new same = sym (length-map new (λ l. l.hash)) ∙ ap length same ∙ length-map old (λ l. l.hash)

pub invariant_of-self-2 : goal.invariant_of-self-2
invariant_of-self-2 c =
    let links = c.grow.new.links.items in
    let buckets = c.grow.new.buckets.items in
    let link : Link = record { hash = c.args.hash; next = c.prepend-next.result } in
    let many : length links ≡ length c.self.inside.links.items = as_many _ links c.grow.ensures.kept ∙ ap length c.reserve.ensures.items in
    let head : c.in-Ok.head ≡ length links + 1 =
    c.in-Ok.ensures.1 ∙ ap (λ n. n + 1) (c.len.ensures ∙ c.self.inside.links.ok.0 ∙ sym many) in
    let entered = subst (IsEntered buckets c.prepend-next.new.buckets.items c.args.hash) head c.prepend-next.ensures.entered in
    let pushed = IsTable-push links buckets c.prepend-next.new.buckets.items link c.in-Ok-grow.ensures.table c.in-Ok-grow.ensures.room entered
    c.prepend-next.ensures.next in (
      rw c.push_reserved.ensures.items (search (rules, pushed)),
      ap length (c.push_reserved-2.ensures.items ∙ ap (λ texts. texts ++ c.in-Ok-clone.text ∷ []) c.reserve-2.ensures.items)
          ∙ length-append c.self.inside.texts.items (c.in-Ok-clone.text ∷ []) ∙ ap (λ n. n + 1) (c.self.invariant.1 ∙ sym many)
          ∙ sym (ap length c.push_reserved.ensures.items ∙ length-append links _),
    )

pub returns-clause-pushed : goal.returns-clause-pushed
returns-clause-pushed c =
    let hashes = hashes_of c.self.inside.links.items in
    let texts = c.self.inside.texts.items in
    ap₂ keys_of
    (ap hashes_of c.push_reserved.ensures.items ∙ map-append (λ l. l.hash) c.grow.new.links.items _
    ∙ ap (λ hashes. hashes ++ c.args.hash ∷ []) (c.grow.ensures.kept ∙ ap hashes_of c.reserve.ensures.items))
    (c.push_reserved-2.ensures.items
    ∙ ap₂ (λ texts text. texts ++ text ∷ []) c.reserve-2.ensures.items (c.in-Ok-clone.ensures.cases ∙ c.in_ok-shared.ensures))
    ∙ keys-push hashes texts c.args.hash c.args.text.now (c.self.invariant.1 ∙ sym (length-map c.self.inside.links.items (λ l. l.hash)))
    ∙ ap (λ (t : Table). t.keys ++ record { hash = c.args.hash; text = c.args.text.now } ∷ []) c.self.view_is

pub returns-clause-buckets : goal.returns-clause-buckets
returns-clause-buckets c =
    let many = as_many_keys c.self.inside.links.items c.self.inside.texts.items c.args.self.now.keys c.self.invariant.1
    (ap (λ (t : Table). t.keys) c.self.view_is) in
    c.prepend-next.ensures.entered.as_many ∙ c.in-Ok-grow.ensures.buckets
    ∙ ap₂ buckets_for (ap length c.reserve.ensures.items ∙ sym many) (ap (λ (t : Table). t.buckets) c.self.view_is)
