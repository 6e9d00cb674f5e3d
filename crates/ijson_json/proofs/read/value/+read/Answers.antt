use Rattle.std.proofs.Common.{◌≡◌, ◌⊎◌, inl, inr, List, [], ◌∷◌, ◌++◌, ◌+◌, ℕ, ap, sym, refl, ◌∙◌, arith, rules, map}
use Rattle.std.specs.Prelude.{Result, Err}
use Rattle.std.specs.Borrow.{Bor}
use Rattle.std.proofs.lemmas.Result.{err_from_is_err_and}
use Rattle.ijson_value.specs.Tree.{Tree, array, object, items_of, members_of}
use Rattle.ijson_value.specs.WellFormed.{WellFormed, item_trees, pair_trees}
use Rattle.ijson_value.specs.laws.MemberTrees.{pair_tree}
use Rattle.ijson_string.specs.Cache.{Texts}
use Rattle.ijson_json.specs.AddsOnlyRead.{AddsOnlyRead}
use Rattle.ijson_json.specs.declared.fault.Fault.{Fault}
use Rattle.ijson_json.specs.declared.fault.Fault.TheVariants.{Memory}
use Rattle.ijson_json.specs.declared.read.scratch.Scratch.{Scratch}
use Rattle.ijson_json.specs.private.ReadsValue.{ReadsValue}
use Rattle.ijson_json.proofs.grammar.ElementShapes.{items_shape, members_shape}
use Rattle.ijson_json.proofs.reading.ArraysAndObjects.{arrays, objects}
use Rattle.ijson_json.proofs.reading.CacheContents.{adds_none, adds_behind_key, shared_more}
use Rattle.ijson_json.proofs.reading.Elements.{empty_read}
use Rattle.ijson_json.proofs.reading.Gathering.{gathered_start, gathered_adds, gathered_refused, gathered_more, gathered_end}
use Rattle.ijson_json.proofs.reading.GatheredTrees.{kept_items, kept_members}
use Rattle.ijson_json.proofs.reading.Members.{member_read}
use Rattle.ijson_json.proofs.faults.ElementFaults.{bracket_too_deep, element_fault, push_fault}
use Rattle.ijson_json.proofs.faults.KeyFaults.{key_fault, member_fault}
use Rattle.ijson_json.proofs.faults.ScalarFaults.{begins, out_of_memory, no_character, scalar_read}
use Rattle.ijson_json.proofs.read.value.+read.Goals as goal
use Rattle.ijson_json.proofs.read.value.+read.Goals.{read_container-then-first-eq91, read_container-else-first-eq91}

-- ---- a value
pub read_value-returns-in_default : goal.read_value-returns-in_default
read_value-returns-in_default g t c =
    let error = no_character c.args.opened c.args.text.now c.in_default.ensures.cases in
    record { cache = adds_none c.args.text.now c.args.cache.now; answer = search (rules, error) }

pub read_value-returns : goal.read_value-returns
read_value-returns g t c =
    scalar_read c.args.opened c.args.text.now c.read_scalar.result _ _ _ _ (omega arith) refl refl c.read_scalar.ensures

-- ---- a container
pub read_container-returns-then-opened-eq-MAX_DEPTH : goal.read_container-returns-then-opened-eq-MAX_DEPTH
read_container-returns-then-opened-eq-MAX_DEPTH g t c = record {
  cache = adds_none c.args.text.now c.args.cache.now;
  answer = bracket_too_deep c.args.opened c.args.text.now c.args.inside.now c.args.first (search rules) (search rules)
      c.if-opened-eq-MAX_DEPTH.true;
}

-- A value that was read from `b ∷ inside` was read from `text`, if `text` is `b ∷ inside`.
bracketed : {opened : ℕ} {r s : Result (WellFormed × Bor (List ℕ)) Fault} {old new last : Texts} {before after final : Scratch}
    (text inside : List ℕ) (first b : ℕ) → text ≡ first ∷ inside → first ≡ b → s ≡ r → last ≡ new → final ≡ after
    → ReadsValue opened (b ∷ inside) r old new before after → ReadsValue opened text s old last before final
bracketed text inside first b begin is result cache scratch read = rw (result, cache, scratch, begins b text first inside begin is) read

other : (first : ℕ) → (first ≡ 91) ⊎ (first ≡ 123) → (first ≡ 91 → ⊥) → first ≡ 123
other first (inl is) not = absurd (not is)
other first (inr is) not = is

pub read_container-returns : goal.read_container-returns
read_container-returns g t c = elim c.if-first-eq91.branch [
  | read_container-then-first-eq91 w ↦ bracketed c.args.text.now c.args.inside.now c.args.first 91 (search rules) w.if-first-eq91.true
      (sym c.in_ok-container.was ∙ w.read-is) w.cache-is w.scratch-is w.read_array-read.ensures
  | read_container-else-first-eq91 w ↦ bracketed c.args.text.now c.args.inside.now c.args.first 123 (search rules)
      (other c.args.first (search rules) w.if-first-eq91.false)
      (sym c.in_ok-container.was ∙ w.read-is) w.cache-is w.scratch-is w.read_object-read.ensures
]

pub read_container-returns-in_err-container : goal.read_container-returns-in_err-container
read_container-returns-in_err-container g t c =
    let p = err_from_is_err_and c.from_residual.result c.from_residual.ensures.1 in
    let is = p.1 ∙ ap Err p.2 ∙ sym c.in_err-container.was in
    elim c.if-first-eq91.branch [
      | read_container-then-first-eq91 w ↦ bracketed c.args.text.now c.args.inside.now c.args.first 91 (search rules)
          w.if-first-eq91.true (is ∙ w.read-is) w.cache-is w.scratch-is w.read_array-read.ensures
      | read_container-else-first-eq91 w ↦ bracketed c.args.text.now c.args.inside.now c.args.first 123 (search rules)
          (other c.args.first (search rules) w.if-first-eq91.false)
          (is ∙ w.read-is) w.cache-is w.scratch-is w.read_object-read.ensures
    ]

-- ---- an array
pub read_array-returns-in-Some : goal.read_array-returns-in-Some
read_array-returns-in-Some g t c = record {
  cache = adds_none (91 ∷ c.args.inside.now) c.args.cache.now;
  answer = record {
    read = (
      array (items_of []),
      empty_read Tree items_shape arrays c.args.opened c.args.inside.now _ _ (omega arith) c.skip_space-rest.ensures c.in-Some.ensures,
      ap (λ (v : WellFormed). v.tree) c.from.ensures ∙ ap (λ vs. array (item_trees vs)) c.new.ensures.items,
    );
    shared = search rules;
    values = refl;
    members = refl;
  };
}

pub read_array-loop-item-init : goal.read_array-loop-item-init
read_array-loop-item-init g t c = record {
  read = gathered_start Tree items_shape arrays kept_items c.args.opened c.args.inside.now c.skip_space-rest.result.now
      c.args.scratch.now.values.items c.args.cache.now (omega arith) c.skip_space-rest.ensures c.in_default.ensures;
  members = refl;
  utf8 = c.skip_space-rest.utf8;
}

pub read_array-returns-in_err-item : goal.read_array-returns-in_err-item
read_array-returns-in_err-item g t c =
    let i = c.loop-item.invariant.read in
    gathered_refused i c.in_err-item.field-0.0 c.from_residual.ensures.1 c.read_value.ensures.cache
    (element_fault i.reached c.in_err-item.field-0.0 c.in_err-item.ensures.answer)

pub read_array-returns-in_err-next : goal.read_array-returns-in_err-next
read_array-returns-in_err-next g t c =
    let i = c.loop-item.invariant.read in
    gathered_refused i c.in_err-next.field-0.0 c.from_residual-in_err-next.ensures.1 c.read_value.ensures.cache
    (push_fault i.reached c.in_err-next.field-0.0 c.in_ok-item.ensures.answer.read.1 c.in_err-next.ensures.fault)

pub read_array-loop-item-preserved : goal.read_array-loop-item-preserved
read_array-loop-item-preserved g t c =
    let found = c.in_ok-item.ensures.answer in
    record {
      read = gathered_more c.loop-item.invariant.read found.read.1 found.read.2 found.values c.in_ok-next.ensures.pushed
          c.read_value.ensures.cache found.shared (rw c.in-Comma.is at c.in_ok-next.ensures.delimiter);
      members = found.members ∙ c.loop-item.invariant.members;
      utf8 = search rules;
    }

pub read_array-returns-in_err-items-in-End : goal.read_array-returns-in_err-items-in-End
read_array-returns-in_err-items-in-End g t c =
    gathered_refused c.loop-item.invariant.read Memory c.from_residual-in_err-items-in-End.ensures.1 c.read_value.ensures.cache (out_of_memory c.args.opened (91 ∷ c.args.inside.now))

pub read_array-returns-in-End : goal.read_array-returns-in-End
read_array-returns-in-End g t c =
    let i = c.loop-item.invariant.read in
    let found = c.in_ok-item.ensures.answer in
    let item = found.read in
    let whole = gathered_end i item.1 item.2 found.values c.in_ok-next.ensures.pushed c.read_value.ensures.cache found.shared
    (rw c.in-End.is at c.in_ok-next.ensures.delimiter) (c.len-base.ensures ∙ c.args.scratch.now.values.ok.0)
    c.in_ok-items-in-End.ensures.items c.in_ok-items-in-End.ensures.stack in
    record {
      cache = gathered_adds i c.read_value.ensures.cache;
      answer = record {
        read = (
          array (items_of (i.written ++ item.0 ∷ [])),
          whole.read,
          ap (λ (v : WellFormed). v.tree) c.from-in-End.ensures ∙ ap array whole.are,
        );
        shared = rw c.from-in-End.ensures whole.share;
        values = whole.left;
        members = found.members ∙ c.loop-item.invariant.members;
      };
    }

-- ---- an object
pub read_object-returns-in-Some : goal.read_object-returns-in-Some
read_object-returns-in-Some g t c = record {
  cache = adds_none (123 ∷ c.args.inside.now) c.args.cache.now;
  answer = record {
    read = (
      object (members_of []),
      empty_read (List ℕ × Tree) members_shape objects c.args.opened c.args.inside.now _ _ (omega arith) c.skip_space-rest.ensures
          c.in-Some.ensures,
      ap (λ (v : WellFormed). v.tree) c.from.ensures ∙ ap (λ ps. object (pair_trees ps)) c.new.ensures.pairs,
    );
    shared = search rules;
    values = refl;
    members = refl;
  };
}

pub read_object-loop-key-init : goal.read_object-loop-key-init
read_object-loop-key-init g t c = record {
  read = gathered_start (List ℕ × Tree) members_shape objects kept_members c.args.opened c.args.inside.now c.skip_space-rest.result.now
      c.args.scratch.now.members.items c.args.cache.now (omega arith) c.skip_space-rest.ensures c.in_default.ensures;
  values = refl;
  utf8 = c.skip_space-rest.utf8;
}

pub read_object-returns-in_err-key : goal.read_object-returns-in_err-key
read_object-returns-in_err-key g t c =
    let i = c.loop-key.invariant.read in
    gathered_refused i c.in_err-key.field-0.0 c.from_residual.ensures.1 (search rules)
    (element_fault i.reached c.in_err-key.field-0.0
    (key_fault (c.args.opened + 1) c.loop-key.rest.now c.in_err-key.field-0.0 c.in_err-key.ensures.answer))

pub read_object-returns-in-Err : goal.read_object-returns-in-Err
read_object-returns-in-Err g t c =
    let i = c.loop-key.invariant.read in
    let key = c.in_ok-key.ensures.answer.read in
    let cached : AddsOnlyRead c.loop-key.rest.now c.loop-key.cache c.read_key.new.cache = search rules in
    gathered_refused i c.in-Err.fault refl (adds_behind_key key cached (search rules))
    (element_fault i.reached c.in-Err.fault (member_fault key (c.args.opened + 1) c.in-Err.fault (search rules)))

pub read_object-returns-in_err-next : goal.read_object-returns-in_err-next
read_object-returns-in_err-next g t c =
    let i = c.loop-key.invariant.read in
    let key = c.in_ok-key.ensures.answer.read in
    gathered_refused i c.in_err-next.field-0.0 c.from_residual-in_err-next.ensures.1
    (adds_behind_key key (search rules) c.read_value.ensures.cache)
    (push_fault i.reached c.in_err-next.field-0.0 (member_read key c.in-Ok.ensures.answer.read.1) c.in_err-next.ensures.fault)

pub read_object-loop-key-preserved : goal.read_object-loop-key-preserved
read_object-loop-key-preserved g t c =
    let key = c.in_ok-key.ensures.answer in
    let found = c.in-Ok.ensures.answer in
    record {
      read = gathered_more c.loop-key.invariant.read (member_read key.read found.read.1) (refl, found.read.2) found.members
          c.in_ok-next.ensures.pushed (adds_behind_key key.read (search rules) c.read_value.ensures.cache)
          (shared_more c.read_value.ensures.cache _ key.shared, found.shared)
          (rw c.in-Comma.is at c.in_ok-next.ensures.delimiter);
      values = found.values ∙ c.loop-key.invariant.values;
      utf8 = search rules;
    }

pub read_object-returns-in_err-object-in-End : goal.read_object-returns-in_err-object-in-End
read_object-returns-in_err-object-in-End g t c =
    gathered_refused c.loop-key.invariant.read Memory c.from_residual-in_err-object-in-End.ensures.1
    (adds_behind_key c.in_ok-key.ensures.answer.read (search rules) c.read_value.ensures.cache) (out_of_memory c.args.opened (123 ∷ c.args.inside.now))

pub read_object-returns-in-End : goal.read_object-returns-in-End
read_object-returns-in-End g t c =
    let i = c.loop-key.invariant.read in
    let key = c.in_ok-key.ensures.answer in
    let found = c.in-Ok.ensures.answer in
    let value = found.read in
    let adds = adds_behind_key key.read (search rules) c.read_value.ensures.cache in
    let whole = gathered_end i (member_read key.read value.1) (refl, value.2) found.members c.in_ok-next.ensures.pushed adds
    (shared_more c.read_value.ensures.cache _ key.shared, found.shared) (rw c.in-End.is at c.in_ok-next.ensures.delimiter)
    (c.len-base.ensures ∙ c.args.scratch.now.members.ok.0) refl c.in_ok-object-in-End.ensures.stack in
    record {
      cache = gathered_adds i adds;
      answer = record {
        read = (
          object (members_of (i.written ++ (c.in_ok-key.key, value.0) ∷ [])),
          whole.read,
          ap (λ (v : WellFormed). v.tree) c.from-in-End.ensures
              ∙ ap (λ ps. object (members_of ps)) (ap (map pair_tree) c.in_ok-object-in-End.ensures.members ∙ whole.are),
        );
        shared = rw (c.from-in-End.ensures, c.in_ok-object-in-End.ensures.members) whole.share;
        values = found.values ∙ c.loop-key.invariant.values;
        members = whole.left;
      };
    }
