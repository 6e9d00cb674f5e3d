-- Lemmas about `IsSome` and `OnSome`: when they hold, and what follows from them.
use Rattle.std.proofs.Common.{◌≡◌, Option, Some, None, refl, sym, MutBor}
use Rattle.std.specs.Prelude.{OnSome, IsSome, option_map}
use Rattle.ijson_value.specs.Tree.{Tree}
use Rattle.ijson_value.specs.WellFormed.{WellFormed}

pub not_both : {A P : Type 0} (x : A) → None ≡ Some x → P
not_both x e = absurd (cc)

pub on_some : {A P : Type 0} (r : Option A) → (IsSome r → P) → OnSome r P
on_some None p = tt
on_some (Some x) p = p refl

pub on_both : {A P Q : Type 0} (r : Option A) → (P → Q) → OnSome r P → OnSome r Q
on_both None f p = tt
on_both (Some x) f p = f p

pub on_seen : {P : Type 0} (r : Option (MutBor WellFormed)) (t : Tree) → option_map (λ v. v.now.tree) r ≡ Some t → OnSome r P → P
on_seen None t e p = not_both t e
on_seen (Some v) t e p = p

pub there_too : (r : Option (MutBor WellFormed)) (o : Option Tree) → option_map (λ v. v.now.tree) r ≡ o → IsSome r → IsSome o
there_too None o e h = absurd (cc)
there_too (Some v) o e h = rw (sym e) refl
