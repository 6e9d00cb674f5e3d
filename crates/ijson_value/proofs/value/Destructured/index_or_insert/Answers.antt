use Rattle.std.proofs.Common.{rules, ◌≡◌, refl, sym, ap, ◌∙◌}
use Rattle.std.proofs.lemmas.Result.{on_err_weaker}
use Rattle.ijson_value.specs.LendsAtKey.{IsPut}
use Rattle.ijson_value.specs.declared.value.Destructured.TheVariants.{Object}
use Rattle.ijson_value.proofs.pairs.PutInside.{put_value, put_refused, both_inside}
use Rattle.ijson_value.proofs.value.Destructured.index_or_insert.Goals as goal

pub returns : goal.returns
returns c =
    let key = c.args.key in
    let is = c.in-Object.is ∙ ap Object (sym c.in-Object.object-is) in
    let lent = c.index_or_insert.follows in (
      (
        refl,
        (λ w ok. both_inside (λ old new. IsPut old key w new) c.args.self.now _ _ (lent.lender w) is (search rules) (lent.holds w ok)),
        on_err_weaker c.index_or_insert.result (λ h. both_inside (λ old new. (new.pairs ≡ old.pairs) × (new.capacity ≡ old.capacity))
            c.args.self.now _ _ lent.lender-at-none is (search rules) h) lent.holds-at-none,
      ),
      record {
        writes_back = tt;
        value = put_value c.index_or_insert.result c.args.self.now _ key is c.index_or_insert.ensures.value;
        refused = put_refused c.index_or_insert.result c.args.self.now _ key is c.index_or_insert.ensures.refused;
      },
    )
