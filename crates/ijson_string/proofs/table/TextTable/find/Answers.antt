use Rattle.std.proofs.Common.{◌≡◌, ◌∙◌, ◌-◌, ◌<◌, ◌≤◌, ap, ap₂, sym, refl, ℕ, List, false, is_some, get_or, length, arith, rules}
use Rattle.std.proofs.lemmas.Bool.{false≢true}
use Rattle.std.proofs.lemmas.Grind.{common_steps}
use Rattle.std.specs.List.{list_any}
use Rattle.ijson_string.specs.declared.table.chains.Link.{Link}
use Rattle.ijson_string.specs.private.IsTable.{hashes_of, heads_of, filters_of}
use Rattle.ijson_string.specs.private.Keys.{is_key, keys_of, no_key, Key}
use Rattle.ijson_string.specs.private.Table.{Table}
use Rattle.ijson_string.proofs.KeysAt.{as_many_keys, hash_there, text_there}
use Rattle.ijson_string.proofs.Filters.{is_nowhere}
use Rattle.ijson_string.proofs.ChainLookup.{IsAhead-first, IsAhead-step, any_at, falls, is_other_hash, is_other_text}
use Rattle.ijson_string.proofs.table.TextTable.find.Goals as goal
use Rattle.ijson_string.proofs.table.TextTable.find.Goals.{else-link-hash-via-then-link-hash+else-eq_str, else-link-hash-via-else-link-hash}

pub returns-in_err-at-clause-exact : goal.returns-in_err-at-clause-exact
returns-in_err-at-clause-exact c =
    let known = rw c.deref.ensures.value at c.in_err-at.ensures in
    ap is_some c.from_residual.ensures
    ∙ sym (ap (λ (t : Table). list_any (is_key c.args.hash c.args.text.now) t.keys) (sym c.self.view_is)
    ∙ is_nowhere (filters_of c.self.inside.buckets.items) c.args.hash c.args.text.now
    (hashes_of c.self.inside.links.items) c.self.inside.texts.items c.self.invariant.0.filtered known.nowhere)

pub loop-at-init : goal.loop-at-init
loop-at-init c =
    let known = rw c.deref.ensures.value at c.in_ok-at.ensures in
    IsAhead-first c.args.hash c.args.text.now c.self.inside.links.items c.self.inside.texts.items c.self.inside.buckets.items
    c.in_ok-at.at c.self.invariant.0 c.self.invariant.1 known.inside known.head

-- If `at` is positive and at most the number of keys, the link and the string at index `at - 1`
-- exist.
before : (links : List Link) (texts : List (List ℕ)) (at : ℕ) → length texts ≡ length links → at ≤ length (keys_of (hashes_of links) texts)
    → 0 < at → (at - 1 < length links) × (at - 1 < length texts)
before links texts at listed within some =
    let many = as_many_keys links texts _ listed refl in (omega (arith, many), omega (arith, many, listed))

pub index-link-requires : goal.index-link-requires
index-link-requires c =
    let there = before _ _ c.loop-at.at c.self.invariant.1 c.loop-at.invariant.within c.loop-at-test.true in
    omega (arith, there.0, c.self.inside.links.ok.0)

pub index-requires : goal.index-requires
index-requires c =
    let there = before _ _ c.loop-at.at c.self.invariant.1 c.loop-at.invariant.within c.loop-at-test.true in
    omega (arith, there.1, c.self.inside.texts.ok.0)

pub returns-then-eq_str-clause-found : goal.returns-then-eq_str-clause-found
returns-then-eq_str-clause-found c =
    let links = c.self.inside.links.items in
    let texts = c.self.inside.texts.items in
    let keys = c.args.self.now.keys in
    let are = ap (λ (t : Table). t.keys) c.self.view_is in
    let at = c.loop-at.at - 1 in
    let there = before links texts c.loop-at.at c.self.invariant.1 c.loop-at.invariant.within c.loop-at-test.true in
    let within : at < length keys = omega (arith, as_many_keys links texts keys c.self.invariant.1 are, there.0) in
    let same : c.index.result.now ≡ c.args.text.now = search (rules, c.eq_str.ensures.0 c.if-eq_str.true) in (
      within,
      ap₂ {B = List ℕ} (λ h t. record { hash = h; text = t })
          (hash_there links texts keys c.self.invariant.1 are at c.index-link.result.now within c.index-link.ensures ∙ c.if-link-hash.true)
          (text_there links texts keys c.self.invariant.1 are at c.index.result.now within c.index.ensures ∙ same),
    )

pub returns-then-eq_str-clause-exact : goal.returns-then-eq_str-clause-exact
returns-then-eq_str-clause-exact c = sym (any_at c.args.hash c.args.text.now c.args.self.now.keys _ (returns-then-eq_str-clause-found c))

pub loop-at-smaller : goal.loop-at-smaller
loop-at-smaller c =
    let less = falls _ c.args.hash c.args.text.now c.self.inside.links.items c.self.inside.texts.items _ c.self.invariant.1
    c.self.invariant.0.chained c.loop-at.at _ c.loop-at.invariant c.loop-at-test.true c.index-link.ensures in
    omega (arith, less)

pub loop-at-preserved : goal.loop-at-preserved
loop-at-preserved c =
    let hash = c.args.hash in
    let text = c.args.text.now in
    let links = c.self.inside.links.items in
    let texts = c.self.inside.texts.items in
    let keys = keys_of (hashes_of links) texts in
    let at = c.loop-at.at - 1 in
    let key : Key = get_or keys at no_key in
    let within : at < length keys = let w = c.loop-at.invariant.within in let some = c.loop-at-test.true in omega (arith, w, some) in
    let its_hash = hash_there links texts keys c.self.invariant.1 refl at c.index-link.result.now within c.index-link.ensures in
    let other : is_key hash text key ≡ false = elim c.else-link-hash.branch [
      | else-link-hash-via-then-link-hash+else-eq_str w ↦
          let its_text = text_there links texts keys c.self.invariant.1 refl at w.index.result.now within w.index.ensures in
          is_other_text hash text key (λ e. false≢true (sym w.if-eq_str.false ∙ w.eq_str.ensures.1 (sym its_text ∙ e)))
      | else-link-hash-via-else-link-hash w ↦ is_other_hash hash text key (λ e. w.if-link-hash.false (sym its_hash ∙ e))
    ] in
    let stepped = IsAhead-step (length (heads_of c.self.inside.buckets.items)) hash text links texts (heads_of c.self.inside.buckets.items)
    c.self.invariant.1 c.self.invariant.0.chained c.loop-at.at c.index-link.result.now c.loop-at.invariant c.loop-at-test.true
    c.index-link.ensures other in
    search (rules, stepped)

-- This proof is written out because the default tactics take longer to find it.
pub returns-then-is_empty-clause-exact : goal.returns-then-is_empty-clause-exact
returns-then-is_empty-clause-exact c = grind (arith, common_steps)
