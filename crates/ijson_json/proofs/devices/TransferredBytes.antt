-- Reading or writing `i` bytes of a device, and then `n` more, reads or writes the first `i + n`
-- bytes.
use Rattle.std.proofs.lemmas.List.{take_rest}
use Rattle.std.proofs.Common.{subst, arith, take, drop, length, ◌+◌, ◌<◌}
use Rattle.std.proofs.Common.{take-append-drop, length-drop, take-add, ◌-◌, ◌≡◌, ◌∙◌, ap, sym, refl, ℕ, List, [], ◌++◌, Some, None}
use Rattle.std.specs.Prelude.{Option}
use Rattle.std.specs.Option.{IfSome}
use Rattle.std.specs.Io.KnownBytes.{Appends, Consumes, Keeps}
use Rattle.std.proofs.KnownBytes.{Appends-kept, Appends-trans, Consumes-trans}
use Rattle.ijson_json.specs.WritesBeginning.{WritesBeginning}

-- Reading `n` bytes after the first `i` bytes reads `i + n` bytes in total, if the second read
-- keeps the first `i` bytes of the buffer.
pub consumes_piece : (a b c : Option (List ℕ)) (i n : ℕ) (xs ys : List ℕ) → Consumes a b (take i xs) → take i ys ≡ take i xs
    → Consumes b c (take n (drop i ys)) → Consumes a c (take (i + n) ys)
consumes_piece a b c i n xs ys p kept q =
    subst (Consumes a c) (ap (λ front. front ++ take n (drop i ys)) (sym kept) ∙ sym (take-add i n ys)) (Consumes-trans a b c _ _ p q)

-- Writing `n` bytes of `&xs[i..]` after the first `i` bytes of `xs` writes the first `i + n` bytes.
pub appends_rest : (a b c : Option (List ℕ)) (i n : ℕ) (xs : List ℕ) → Appends a b (take i xs)
    → Appends b c (take n (take (length xs - i) (drop i xs))) → Appends a c (take (i + n) xs)
appends_rest a b c i n xs p q =
    subst (Appends a c) (ap (λ l. take i xs ++ take n l) (take_rest xs i) ∙ sym (take-add i n xs)) (Appends-trans a b c _ _ p q)

-- If a write fails after the first `i` bytes, and more bytes are left, a proper prefix of the text
-- was written.
pub begun : (a b c : Option (List ℕ)) (i : ℕ) (xs : List ℕ) → i < length xs → Appends a b (take i xs) → Keeps b c → WritesBeginning a c xs
begun a b c i xs below p same = record {
  front = take i xs;
  rest = drop i xs;
  is = sym (take-append-drop i xs);
  unfinished = λ none. let empty : length (drop i xs) ≡ 0 = ap length none in omega (arith, below, sym (length-drop i xs) ∙ empty);
  taken = Appends-kept a b c _ p same;
}

-- If the bytes of a device are known, some list is equal to them.
pub known_or_none : (a : Option (List ℕ)) → (bytes : List ℕ) × IfSome a (λ xs. xs ≡ bytes)
known_or_none None = ([], tt)
known_or_none (Some xs) = (xs, refl)
