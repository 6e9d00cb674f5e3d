-- Appending bytes to a text with open containers appends them to the part inside the innermost
-- container.
use Rattle.std.proofs.Common.{ℕ, suc, List, ◌++◌, subst, append_assoc}
use Rattle.ijson_json.specs.Inside.{Inside, here, in_array, in_object}

-- Appending `rest` to a text with open containers appends `rest` to the part inside the innermost
-- container.
pub inside_append : {P Q : List ℕ → Type 0} {opened : ℕ} {before : List ℕ} (rest : List ℕ) → Inside P opened before
    → ((last : List ℕ) → P last → Q (last ++ rest)) → Inside Q opened (before ++ rest)
inside_append rest (here {text} p) to = here (to text p)
inside_append {Q = Q} rest (in_array {opened = n} gap {items} {inside} sg each i) to =
    subst (λ (l : List ℕ). Inside Q (suc n) l) (simp append_assoc) (in_array gap sg each (inside_append rest i to))
inside_append {Q = Q} rest (in_object {opened = n} gap key {members} {inside} sg each k i) to =
    subst (λ (l : List ℕ). Inside Q (suc n) l) (simp append_assoc) (in_object gap key sg each k (inside_append rest i to))

-- If the part inside the innermost container opens one more container, the whole text has
-- `opened + 1` open containers.
pub inside_deeper : {P : List ℕ → Type 0} {opened : ℕ} {before : List ℕ} → Inside (λ text. Inside P 1 text) opened before
    → Inside P (suc opened) before
inside_deeper (here i) = i
inside_deeper (in_array gap sg each i) = in_array gap sg each (inside_deeper i)
inside_deeper (in_object gap key sg each k i) = in_object gap key sg each k (inside_deeper i)
