use Rattle.std.proofs.Common.{◌≡◌, ◌++◌, ◌∷◌, [], ℕ, length, refl, sym, ap, subst, ◌∙◌, Some, None, rules}
use Rattle.std.specs.Prelude.{slice_get}
use Rattle.std.specs.Option.{unwrap_or}
use Rattle.std.proofs.lemmas.Bool.{false≢true}
use Rattle.ijson_table.proofs.pairs.PairsByKey.{put-present, put-absent, lookup-found, lookup-absent}
use Rattle.ijson_table.specs.Growth.{Grown}
use Rattle.ijson_table.specs.Store.{Store, at, put, with_value}
use Rattle.ijson_value.specs.LendsAtKey.{GrownAt}
use Rattle.ijson_value.specs.Values.{null_value}
use Rattle.ijson_value.specs.WellFormed.{WellFormed}
use Rattle.ijson_value.proofs.pairs.Entries.{placed, finds_no_room, refused_capacity, written_last, got_last, same_value}
use Rattle.ijson_value.proofs.object.map.IObject.index_or_insert.Goals as goal

pub returns-in-Some : goal.returns-in-Some
returns-in-Some c =
    let old : Store WellFormed = c.args.self.now in let key = c.args.key in let i : ℕ = c.in-Some.index in
    let found : at old.pairs key ≡ Some i = placed old.pairs c.as_str-text.ensures c.position_hashed.ensures.position c.in-Some.is in
    let got = c.value_mut.ensures.value in (
      (
        refl,
        (λ w _. (
          sym (put-present old.pairs i key w found),
          subst (λ o. GrownAt o (length old.pairs) old.capacity old.capacity) (sym found) refl,
        )),
        tt,
      ),
      record {
        writes_back = tt;
        value = ap (λ o. unwrap_or o null_value) (sym (lookup-found old.pairs key i (got.0, c.value_mut.result.now) found got.1));
        refused = tt;
      },
    )

pub returns-in-Ok : goal.returns-in-Ok
returns-in-Ok c =
    let old : Store WellFormed = c.args.self.now in let key = c.args.key in let grown : Store WellFormed = c.reserve.new.self in
    let new : Store WellFormed = c.push_hashed.new.self in
    let missing : at old.pairs key ≡ None = placed old.pairs c.as_str-text.ensures c.position_hashed.ensures.position c.in-None.is in
    let i : ℕ = c.len-index.result in
    let null : WellFormed = c.default.result in
    let pushed : new.pairs ≡ old.pairs ++ (key, null) ∷ [] = c.push_hashed.ensures.pairs
    ∙ ap (λ ps. ps ++ (key, null) ∷ []) c.in-Ok.ensures.pairs in
    let last : i ≡ length old.pairs = c.len-index.ensures ∙ ap length c.in-Ok.ensures.pairs in
    let wrote : (w : WellFormed) → with_value new.pairs i w ≡ put old.pairs key w = λ w.
    (λ j. with_value (pushed j) (last j) w) ∙ written_last old.pairs key null w ∙ sym (put-absent old.pairs key w missing) in
    let got = c.value_mut-in-Ok.ensures.value in (
      (
        refl,
        (λ w _. (
          search (rules, wrote w),
          subst (λ o. GrownAt o (length old.pairs) old.capacity new.capacity) (sym missing)
              (subst (λ n. Grown (length old.pairs) old.capacity 1 n) (sym c.push_hashed.ensures.capacity) c.in-Ok.ensures.growth),
        )),
        tt,
      ),
      record {
        writes_back = tt;
        value = same_value (sym got.1 ∙ (λ j. slice_get (pushed j) (last j)) ∙ got_last old.pairs key null) ∙ c.default.ensures
            ∙ ap (λ o. unwrap_or o null_value) (sym (lookup-absent old.pairs key missing));
        refused = tt;
      },
    )

pub returns-in-Err : goal.returns-in-Err
returns-in-Err c =
    let old : Store WellFormed = c.args.self.now in let key = c.args.key in let new : Store WellFormed = c.reserve.new.self in
    let missing : at old.pairs key ≡ None = placed old.pairs c.as_str-text.ensures c.position_hashed.ensures.position c.in-None.is in
    let why = c.in-Err.why in let growth = c.in-Err.ensures.growth in
    let room = refused_capacity (length old.pairs) old.capacity 1 new.capacity why growth in (
      (refl, λ w e. absurd (false≢true e), (c.in-Err.ensures.pairs, room)),
      record {
        writes_back = tt;
        value = tt;
        refused = (
          refl,
          c.default-in-Err.ensures,
          finds_no_room old key why new.capacity missing growth,
        );
      },
    )
