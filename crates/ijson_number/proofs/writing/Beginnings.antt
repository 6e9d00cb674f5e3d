-- A failed append of several pieces leaves a prefix of the text in the buffer.
use Rattle.ijson_number.proofs.Common.{◌≡◌, ℕ, Result, Ok, Err, OnErr, List, [], ◌++◌, refl, sym, ap, ◌∙◌, append_assoc, IsErr, OnOk, if◌then◌else◌}
use Rattle.ijson_number.proofs.Common.{is_ok, append-nil}
use Rattle.std.proofs.lemmas.Result.{MatchResult-from_err}
use Rattle.ijson_number.specs.AppendsBeginning.{AppendsBeginning}
use Rattle.ijson_number.specs.private.Pushed.{Appends}

-- If nothing was appended, an empty prefix of the text was appended.
pub none_begun : (old new text : List ℕ) → new ≡ old → AppendsBeginning old new text
none_begun old new text e = record { front = []; rest = text; is = refl; taken = e ∙ sym (append-nil old) }

-- If `done` was appended and `done ++ rest` is the text, a prefix of the text was appended.
pub some_begun : (old new done rest text : List ℕ) → new ≡ old ++ done → done ++ rest ≡ text → AppendsBeginning old new text
some_begun old new done rest text e f = record { front = done; rest = rest; is = sym f; taken = e }

-- If a prefix of `piece` was appended and `piece ++ rest` is the text, a prefix of the text was
-- appended.
pub front_begun : (old new piece rest text : List ℕ) → AppendsBeginning old new piece → piece ++ rest ≡ text → AppendsBeginning old new text
front_begun old new piece rest text w f = record {
  front = w.front;
  rest = w.rest ++ rest;
  is = sym f ∙ ap (λ (l : List ℕ). l ++ rest) w.is ∙ append_assoc w.front w.rest rest;
  taken = w.taken;
}

-- If `done` and then a prefix of `piece` were appended, and `done ++ piece` is the text, a prefix
-- of the text was appended.
pub last_begun : (old out new done piece text : List ℕ) → out ≡ old ++ done → AppendsBeginning out new piece → done ++ piece ≡ text
    → AppendsBeginning old new text
last_begun old out new done piece text e w f = record {
  front = done ++ w.front;
  rest = w.rest;
  is = sym f ∙ ap (λ (l : List ℕ). done ++ l) w.is ∙ sym (append_assoc done w.front w.rest);
  taken = w.taken ∙ ap (λ (l : List ℕ). l ++ w.front) e ∙ append_assoc old done w.front;
}

-- If a prefix of `piece` was appended and `piece` equals the text, a prefix of the text was
-- appended.
pub begun_as : (old new piece text : List ℕ) → AppendsBeginning old new piece → piece ≡ text → AppendsBeginning old new text
begun_as old new piece text w f = record { front = w.front; rest = w.rest; is = sym f ∙ w.is; taken = w.taken }

-- If the result is `Err` and a prefix of the text was appended, then `Appends` holds.
pub failed : {T E : Type 0} (r : Result T E) (old new text : List ℕ) → IsErr r → AppendsBeginning old new text → Appends r old new text
failed r old new text e w = MatchResult-from_err r _ _ e (λ _. w)

-- If the text was appended on success and nothing on failure, then `Appends` holds.
pub all_or_none : {T E : Type 0} (r : Result T E) (old new text : List ℕ) → OnOk r (new ≡ old ++ text) → OnErr r (new ≡ old)
    → Appends r old new text
all_or_none (Ok _) old new text all none = all
all_or_none (Err _) old new text all none = none_begun old new text none

-- `Appends` holds for the result of `push_str`.
pub by_push_str : {T E : Type 0} (r : Result T E) (old new text : List ℕ) → new ≡ (if is_ok r then old ++ text else old) → Appends r old new text
by_push_str (Ok _) old new text is = is
by_push_str (Err _) old new text is = none_begun old new text is

-- If `done` was appended and `Appends` holds for the last piece, then `Appends` holds for
-- `done ++ piece`.
pub last_append : {T E : Type 0} (r : Result T E) (old mid new done piece text : List ℕ) → mid ≡ old ++ done → Appends r mid new piece
    → done ++ piece ≡ text → Appends r old new text
last_append (Ok _) old mid new done piece text e w f = rw (w, e, append_assoc, f) refl
last_append (Err _) old mid new done piece text e w f = last_begun old mid new done piece text e w f

-- Appending `front` and then `piece` appends `front ++ piece`.
pub both : (old mid new front piece : List ℕ) → mid ≡ old ++ front → new ≡ mid ++ piece → new ≡ old ++ (front ++ piece)
both old mid new front piece e f = rw (f, e) (append_assoc old front piece)
