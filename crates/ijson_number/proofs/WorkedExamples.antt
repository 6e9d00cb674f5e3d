-- Examples of texts, representations, comparisons and hash words, proved by computation.
use Rattle.ijson_number.proofs.Common.{◌≡◌, true, false, List, [], ◌∷◌, map, refl, ℤ, pos, negsuc, neg_ℤ, codes, Less, Equal, Greater, Decimal}
use Rattle.ijson_number.proofs.Common.{stripped_digits, num_text, number_cmp, form_of, packed, signed_word, unsigned_word, digits}
use Rattle.ijson_number.specs.Words.{number_words}

abbrev float : ℤ → ℤ → Decimal
float m e = record { mantissa = m; exponent = e; point = true }

abbrev whole : ℤ → ℤ → Decimal
whole m e = record { mantissa = m; exponent = e; point = false }

-- Holds if `f` maps the first component of each row to the second.
abbrev IsTable : {A B : Type 0} → (A → B) → List (A × B) → Type 0
IsTable f rows = map (λ r. f r.0) rows ≡ map (λ r. r.1) rows

texts : IsTable num_text (
    (float (pos 1) (pos 20), codes "100000000000000000000.0") ∷
    (float (pos 15) (negsuc 3), codes "0.0015") ∷
    (float (pos 1) (negsuc 6), codes "1e-7") ∷
    (whole (negsuc 24) (pos 1), codes "-250") ∷
    (float (pos 0) (pos 0), codes "0.0") ∷
    [])
texts = refl

forms : IsTable form_of (
    (whole (pos 36028797018963967) (pos 0), packed (pos 36028797018963967) (pos 0) false) ∷
    (whole (pos 36028797018963968) (pos 0), signed_word (pos 36028797018963968)) ∷
    (whole (neg_ℤ (pos 36028797018963968)) (pos 0), packed (neg_ℤ (pos 36028797018963968)) (pos 0) false) ∷
    (whole (pos 9223372036854775808) (pos 0), unsigned_word 9223372036854775808) ∷
    (float (pos 1) (pos 23), packed (pos 10000000000000000) (pos 7) true) ∷
    (float (pos 1) (pos 24), digits false (1 ∷ []) (pos 24) true) ∷
    (float (pos 1) (pos 2), packed (pos 100) (pos 0) true) ∷
    (float (pos 36028797018963968) (pos 0), digits false (stripped_digits (float (pos 36028797018963968) (pos 0))) (pos 0) true) ∷
    [])
forms = refl

orders : IsTable (λ (p : Decimal × Decimal). number_cmp p.0 p.1) (
    ((whole (pos 2) (pos 0), float (pos 2) (pos 0)), Equal) ∷
    ((whole (pos 1) (pos 2), float (pos 995) (negsuc 0)), Greater) ∷
    ((whole (negsuc 0) (pos 2), float (pos 5) (negsuc 2)), Less) ∷
    [])
orders = refl

words : IsTable number_words (
    (whole (pos 2) (pos 0), 2 ∷ 1 ∷ 2147483648 ∷ 1 ∷ 2 ∷ []) ∷
    (whole (pos 1) (pos 2), 2 ∷ 1 ∷ 2147483650 ∷ 1 ∷ 1 ∷ []) ∷
    (float (negsuc 4) (negsuc 0), 2 ∷ 2 ∷ 2147483647 ∷ 1 ∷ 5 ∷ []) ∷
    [])
words = refl
