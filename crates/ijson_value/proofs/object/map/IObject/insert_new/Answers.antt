use Rattle.std.proofs.Common.{◌≡◌, ◌∷◌, ◌++◌, ◌-◌, ℕ, List, [], length, inl, inr, refl, sym, ap, ap₂, ◌∙◌, arith}
use Rattle.std.specs.List.{insert, remove}
use Rattle.std.specs.Prelude.{min, slice_get}
use Rattle.std.proofs.lemmas.Bool.{cases_lt}
use Rattle.std.proofs.lemmas.Bool.Decides.{nat_tests}
use Rattle.std.proofs.lemmas.List.{append-nil, drop_all, take_all}
use Rattle.std.proofs.lemmas.List.Edits.{remove-append_right}
use Rattle.ijson_table.specs.Store.{shift_out}
use Rattle.ijson_value.specs.WellFormed.{WellFormed}
use Rattle.ijson_value.proofs.pairs.Entries.{got_last}
use Rattle.ijson_value.proofs.object.map.IObject.insert_new.Goals as goal

module _ {X : Type 0} (xs : List X) (x : X) where
  -- Removing the element that was appended to `xs` leaves `xs`.
  last_out : remove (xs ++ x ∷ []) (length xs) ≡ xs
  last_out =
      let none : length xs - length xs ≡ 0 = omega arith in
      remove-append_right xs (x ∷ []) (length xs) (length xs) refl (omega arith) ∙ ap (λ n. xs ++ remove (x ∷ []) n) none ∙ append-nil xs

  -- Inserting an element past the end is the same as appending it.
  insert_within : (i : ℕ) → insert xs (min i (length xs)) x ≡ insert xs i x
  insert_within i = elim (cases_lt (length xs) i) [
    | inl past ↦
        let end : min i (length xs) ≡ length xs = grind (arith, nat_tests, past) in
        ap (λ n. insert xs n x) end
        ∙ ap₂ (λ ys zs. ys ++ x ∷ zs) (take_all (length xs) xs (omega arith) ∙ sym (take_all i xs (omega (arith, past))))
        (drop_all (length xs) xs (omega arith) ∙ sym (drop_all i xs (omega (arith, past))))
    | inr within ↦
        let same : min i (length xs) ≡ i = grind (arith, nat_tests, within) in
        ap (λ n. insert xs n x) same
  ]

pub returns-clause-pairs : goal.returns-clause-pairs
returns-clause-pairs c =
    let old : List (List ℕ × WellFormed) = c.args.self.now.pairs in
    let pair : List ℕ × WellFormed = (c.args.key, c.args.value) in
    let pushed = c.push_hashed.ensures.pairs in
    let last = c.len-last.ensures in
    c.move_index.ensures.pairs pair ((λ j. slice_get (pushed j) (last j)) ∙ got_last old c.args.key c.args.value)
    ∙ ap (λ ps. insert ps c.min.result pair) ((λ j. shift_out (pushed j) (last j)) ∙ last_out old pair)
    ∙ ap (λ n. insert old n pair) (c.min.ensures ∙ ap (min c.args.index) last)
    ∙ insert_within old pair c.args.index
