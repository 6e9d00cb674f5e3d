use Rattle.ijson_number.proofs.Common.{◌≡◌, ◌<◌, ◌∙◌, ◌∷◌, ◌++◌, [], List, ℕ, refl, take, drop, append_assoc, string_bytes, All-drop, All-take}
use Rattle.ijson_number.proofs.Common.{digits_text, minus_text}
use Rattle.ijson_number.proofs.writing.Beginnings.{both, by_push_str, failed, last_append, none_begun, some_begun}
use Rattle.ijson_number.proofs.repr.stored.StrippedNumber.push_long_split.Goals.{In_ok-push_str}
use Rattle.ijson_number.proofs.repr.stored.StrippedNumber.push_long_split.Goals as goal

pub run_text-requires-clause-below_ten : goal.run_text-requires-clause-below_ten
run_text-requires-clause-below_ten c =
    rw c.split_at.ensures.front (All-take (λ d. d < 10) c.args.before _ c.args.self.now.stripped.stripped.below_ten)

pub run_text-requires-2-clause-below_ten : goal.run_text-requires-2-clause-below_ten
run_text-requires-2-clause-below_ten c =
    rw c.split_at.ensures.back (All-drop (λ d. d < 10) c.args.before _ c.args.self.now.stripped.stripped.below_ten)

pub returns-in_err-push_minus : goal.returns-in_err-push_minus
returns-in_err-push_minus c = failed _ _ _ _ c.from_residual.ensures.0 (none_begun _ _ _ c.in_err-push_minus.ensures.refused)

-- The digits before the decimal point, in ASCII.
abbrev whole : In_ok-push_str → List ℕ
whole c = digits_text (take c.args.before c.args.self.now.digits.now)

abbrev fraction : In_ok-push_str → List ℕ
fraction c = digits_text (drop c.args.before c.args.self.now.digits.now)

before_point : (c : In_ok-push_str) → string_bytes c.push_str.new.self
    ≡ string_bytes c.args.out.now ++ (minus_text c.args.self.now.negative ++ whole c)
before_point c =
    both (string_bytes c.args.out.now) (string_bytes c.push_minus.new.out) _ (minus_text c.args.self.now.negative) (whole c)
    c.in_ok-push_minus.ensures.written
    (rw (← c.split_at.ensures.front, ← c.run_text.ensures) c.in_ok-push_str.ensures.bytes)

pub returns-in_err-push_str : goal.returns-in_err-push_str
returns-in_err-push_str c =
    failed _ _ _ _ c.from_residual-in_err-push_str.ensures.0 (some_begun (string_bytes c.args.out.now) (string_bytes c.push_str.new.self)
    (minus_text c.args.self.now.negative) _ _ (c.in_err-push_str.ensures.bytes ∙ c.in_ok-push_minus.ensures.written) refl)

pub returns-in_err-push : goal.returns-in_err-push
returns-in_err-push c =
    let at = (goal.at.returns-in_err-push c).In_ok-push_str in
    failed _ _ _ _ c.from_residual-in_err-push.ensures.0 (some_begun (string_bytes c.args.out.now) (string_bytes c.push.new.self)
    (minus_text c.args.self.now.negative ++ whole at) (46 ∷ fraction at) _ (c.in_err-push.ensures.bytes ∙ before_point at)
    (append_assoc (minus_text c.args.self.now.negative) (whole at) (46 ∷ fraction at)))

pub returns : goal.returns
unfolding lib.Utf8.encode
returns c =
    let at = (goal.at.returns c).In_ok-push_str in
    let old = string_bytes c.args.out.now in
    let minus = minus_text c.args.self.now.negative in
    last_append _ old (string_bytes c.push.new.self) (string_bytes c.push_str-2.new.self) ((minus ++ whole at) ++ 46 ∷ [])
    c.run_text-2.result.now _
    (both old (string_bytes c.push_str.new.self) _ (minus ++ whole at) (46 ∷ []) (before_point at) c.in_ok-push.ensures.bytes)
    (by_push_str c.push_str-2.result (string_bytes c.push.new.self) (string_bytes c.push_str-2.new.self) c.run_text-2.result.now
    c.push_str-2.ensures.bytes)
    (rw (c.run_text-2.ensures, c.split_at.ensures.back, append_assoc (minus ++ whole at), append_assoc minus) refl)
