-- Following a pointer means following its first token, and then the other tokens.
use Rattle.std.proofs.Common.{◌≡◌, ℕ, true, false, List, ◌∷◌, Option, Some, None, refl, sym, ap, ◌∙◌, is_some}
use Rattle.std.specs.Prelude.{option_map, option_and_then}
use Rattle.ijson_value.specs.Tree.{Tree}
use Rattle.ijson_extra.specs.Pointer.{meant, all_meant, written_tokens, child_at, child_with, followed, followed_with, tokens_with}
use Rattle.ijson_extra.specs.Pointer.{resolved_with}
use Rattle.ijson_extra.specs.private.Walked.{written_at, meant_with, written_with, first_of, found_at}
use Rattle.ijson_extra.proofs.Pointers.{first_is}
use Rattle.ijson_extra.proofs.tokens.Options.{not_both}
use Rattle.ijson_extra.proofs.tokens.PutBack.{meant_same}

-- The meanings of the first token and of the other tokens as one list, if all have a meaning.
abbrev joined : Option (List ℕ) → Option (List (List ℕ)) → Option (List (List ℕ))
joined m rest = option_and_then (λ token. option_map (λ more. token ∷ more) rest) m

none_on : (t : Tree) (m : Option (List ℕ)) (rest : Option (List (List ℕ))) → None ≡ option_and_then (child_at t) m
    → None ≡ option_and_then (λ found. found) (option_map (followed t) (joined m rest))
none_on t None rest e = refl
none_on t (Some m) None e = refl
none_on t (Some m) (Some more) e = ap (option_and_then (λ u. followed u more)) e

-- If the first token does not refer to a value, the pointer does not refer to a value.
pub none_first : (t : Tree) (left : List ℕ) → None ≡ written_at t (first_of left) → None ≡ found_at t (47 ∷ left)
none_first t left e =
    let is = first_is left in
    none_on t (meant (first_of left)) (all_meant is.0) e
    ∙ ap (λ ws. option_and_then (λ found. found) (option_map (followed t) (all_meant ws))) (sym is.1)

found_on : (t v : Tree) (m : Option (List ℕ)) (rest : Option (List (List ℕ))) → Some v ≡ option_and_then (child_at t) m
    → option_map (followed v) rest ≡ option_map (followed t) (joined m rest)
found_on t v None rest e = not_both v (sym e)
found_on t v (Some m) None e = refl
found_on t v (Some m) (Some more) e = ap (λ o. Some (option_and_then (λ u. followed u more) o)) e

put_on : (t v u : Tree) (m : Option (List ℕ)) (rest : Option (List (List ℕ))) → Some v ≡ option_and_then (child_at t) m
    → meant_with t m (tokens_with v rest u) ≡ tokens_with t (joined m rest) u
put_on t v u None rest e = refl
put_on t v u (Some m) None e = meant_same t (Some m) v (sym e)
put_on t v u (Some m) (Some more) e = ap (λ o. child_with t m (followed_with o more u)) e

-- If the first token refers to the value `v`, the other tokens are followed from `v`.
module _ (t : Tree) (left : List ℕ) (more : List (List ℕ)) (is : written_tokens left ≡ first_of left ∷ more) (v : Tree)
    (found : Some v ≡ written_at t (first_of left)) where
  pub next_found : (seen : Option Tree) → seen ≡ option_and_then (λ o. o) (option_map (followed v) (all_meant more))
      → seen ≡ found_at t (47 ∷ left)
  next_found seen e = e ∙ ap (option_and_then (λ o. o)) (found_on t v (meant (first_of left)) (all_meant more) found
      ∙ ap (λ ws. option_map (followed t) (all_meant ws)) (sym is))

  pub next_with : (u m n : Tree) → n ≡ written_with t (first_of left) m → m ≡ tokens_with v (all_meant more) u
      → n ≡ resolved_with t (47 ∷ left) u
  next_with u m n f g = f ∙ ap (written_with t (first_of left)) g ∙ put_on t v u (meant (first_of left)) (all_meant more) found
      ∙ ap (λ ws. tokens_with t (all_meant ws) u) (sym is)

  pub next_left : (m n : Tree) → n ≡ written_with t (first_of left) m → m ≡ v → n ≡ t
  next_left m n f g = f ∙ ap (written_with t (first_of left)) g ∙ meant_same t (meant (first_of left)) v (sym found)

-- If an option flattens to `Some t`, it is `Some (Some t)`.
pub found_once : (o : Option (Option Tree)) (t : Tree) → Some t ≡ option_and_then (λ found. found) o → o ≡ Some (Some t)
found_once None t e = not_both t (sym e)
found_once (Some found) t e = ap (λ x. Some x) (sym e)

pub named_found : (t : Tree) (tokens : Option (List (List ℕ))) (seen : Option Tree) → is_some tokens ≡ true
    → seen ≡ option_and_then (λ found. found) (option_map (followed t) tokens) → Some seen ≡ option_map (followed t) tokens
named_found t None seen is e = absurd (cc)
named_found t (Some tokens) seen is e = ap (λ x. Some x) e

pub not_named_none : (t : Tree) (tokens : Option (List (List ℕ))) → is_some tokens ≡ false → option_map (followed t) tokens ≡ None
not_named_none t None is = refl
not_named_none t (Some tokens) is = absurd (cc)
