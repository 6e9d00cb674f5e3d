-- The number of equal leading bytes of two texts is the length of their longest common prefix.
use Rattle.std.proofs.Common.{◌≡◌, ℕ, suc, ◌+◌, Bool, true, false, cond, List, [], ◌∷◌, length, take, refl, sym, ap, ap₂, ◌∙◌, arith}
use Rattle.std.specs.Prelude.{◌==◌}
use Rattle.std.specs.List.{prefix_len, zip}
use Rattle.std.proofs.lemmas.Bool.{eqb-true}
use Rattle.ijson_json.specs.private.Explains.{CommonFront}
use Rattle.ijson_json.proofs.scanning.Prefixes.{heads, heads_apart}

abbrev pub is_same : ℕ × ℕ → Bool
is_same pair = pair.0 == pair.1

abbrev pub common_count : List ℕ → List ℕ → ℕ
common_count text word = length (take (prefix_len is_same (zip text word)) (zip text word))

pub common_front : (text word : List ℕ) → CommonFront text word (common_count text word)
common_front [] word =
    record { front = []; rest = []; more = word; text_is = refl; word_is = refl; count_is = refl; differ = λ b x y e f. absurd cc }
common_front (a ∷ text) [] =
    record { front = []; rest = a ∷ text; more = []; text_is = refl; word_is = refl; count_is = refl; differ = λ b x y e f. absurd cc }
common_front (a ∷ text) (b ∷ word) =
    elim (a == b) as (λ v. (a == b) ≡ v → CommonFront (a ∷ text) (b ∷ word)
    (length (take (cond v (1 + prefix_len is_same (zip text word)) 0) ((a, b) ∷ zip text word)))) [
      | true ↦ λ e.
          let r = common_front text word in
          let one : 1 + prefix_len is_same (zip text word) ≡ suc (prefix_len is_same (zip text word)) = omega arith in
          rw one (record {
            front = a ∷ r.front;
            rest = r.rest;
            more = r.more;
            text_is = ap (λ (l : List ℕ). a ∷ l) r.text_is;
            word_is = ap₂ ◌∷◌ (sym (eqb-true a b e)) r.word_is;
            count_is = ap suc r.count_is;
            differ = r.differ;
          })
      | false ↦ λ e. record {
        front = [];
        rest = a ∷ text;
        more = b ∷ word;
        text_is = refl;
        word_is = refl;
        count_is = refl;
        differ = λ c x y f g. let first : a ≡ c = heads _ _ _ _ f in let second : b ≡ c = heads _ _ _ _ g in
            heads_apart a b [] [] (ap (λ (d : ℕ). d ∷ []) (first ∙ sym second)) e;
      }
    ] refl
