-- Two `Texts` are equal if their sets are equal, because two proofs of `AreLong` are equal.
use Rattle.std.specs.Prelude.{◌≡◌, refl}
use Rattle.std.specs.Coded.{Coded, code_by, coded_list, coded_ℕ, le_prop, Π_prop, →_prop}
use Rattle.std.specs.Ordering.{nat_cmp}
use Rattle.std.specs.Cmp.Lexicographic.{slice_cmp}
use Rattle.std.specs.FinSet as set
use Rattle.std.proofs.Common.{ap}
use base.Stored.{coded_sub}
use mathlib.Core.HLevel.{Σ_prop_path}
use Rattle.ijson_string.specs.Cache.{AreLong, Texts}

pub AreLong-prop : (texts : set.FinSet (slice_cmp nat_cmp)) → IsProp (AreLong texts)
AreLong-prop texts = Π_prop (λ _. →_prop le_prop)

abbrev Parts : Type 0
Parts = (texts : set.FinSet (slice_cmp nat_cmp)) × AreLong texts

abbrev pub texts_code : Coded Texts
texts_code =
    code_by Parts (coded_sub (set.code (coded_list coded_ℕ)) AreLong AreLong-prop)
    (λ c. (c.texts, c.long)) (λ p. record { texts = p.0; long = p.1 }) (λ _. refl)

-- If the sets of `a` and `b` are equal, then `a` and `b` are equal.
pub texts_same : (a b : Texts) → a.texts ≡ b.texts → a ≡ b
texts_same a b e = ap (λ (p : Parts). let c : Texts = record { texts = p.0; long = p.1 } in c) (Σ_prop_path AreLong-prop e)
