-- Lemmas about a number or a literal (`null`, `true` or `false`) that stops before its end.
use Rattle.std.proofs.Common.{◌≡◌, ℕ, ◌+◌, ◌-◌, ◌≤◌, Bool, true, List, [], ◌∷◌, ◌++◌, length, take, drop, refl, sym, ap, subst, ◌∙◌, append_assoc, append-nil, arith, inl, inr}
use Rattle.std.specs.Prelude.{◌≢◌, ◌⊎◌, ◌==◌, not, IsTrue}
use Rattle.std.proofs.lemmas.Bool.{cases_lt}
use Rattle.std.proofs.lemmas.Bool.Decides.{nat_tests}
use Rattle.std.proofs.lemmas.List.{append_cancel_left, length-append, length-take-le, take-append-drop, take-append-le}
use Rattle.ijson_number.specs.Decimal.{Decimal}
use Rattle.ijson_number.specs.Num.{is_in_range}
use Rattle.ijson_number.specs.Grammar.{Spells}
use Rattle.ijson_number.specs.NumberBytes.{is_number_byte}
use Rattle.ijson_number.specs.NumberFront.{IsNumberFront, IsUnread}
use Rattle.ijson_number.specs.declared.number.ReadNumberError.TheVariants.{OutOfRange}
use Rattle.ijson_number.proofs.parsing.Denotes.{spells_one}
use Rattle.ijson_number.proofs.parsing.SpelledBytes.{spells_bytes}
use Rattle.ijson_value.specs.Order.{rank}
use Rattle.ijson_value.specs.Tree.{Tree, number}
use Rattle.ijson_json.specs.Grammar.{IsSpace, Spaced, IsValue, IsClosers}
use Rattle.ijson_json.specs.Begins.{Begins}
use Rattle.ijson_json.specs.Inside.{Inside}
use Rattle.ijson_json.specs.ErrorOf.{IsErrorOf, TooDeepAt, OutOfRangeAt, BadEscapeAt}
use Rattle.ijson_json.specs.private.Contexts.{StartsAs, ValueContext}
use Rattle.ijson_json.specs.private.Explains.{CommonFront, IsApart, NumberStops, RejectsBy, WordFault}
use Rattle.ijson_json.specs.private.Reading.{Front, Stops}
use Rattle.ijson_json.specs.declared.fault.Fault.{Fault}
use Rattle.ijson_json.specs.declared.fault.Fault.TheVariants as faults
use Rattle.ijson_json.specs.declared.fault.JsonError.TheVariants as errors
use Rattle.ijson_json.proofs.scanning.Prefixes.{Run, all-append, not_both, heads}
use Rattle.ijson_json.proofs.scanning.Starts.{starts_back, starts_behind}
use Rattle.ijson_json.proofs.grammar.FirstBytes.{kind, kind_at}
use Rattle.ijson_json.proofs.grammar.SpelledTrees.{spaced}
use Rattle.ijson_json.proofs.reading.Words.{Word}
use Rattle.ijson_json.proofs.errors.Overlaps.{IsLonger, overlap, run_behind}
use Rattle.ijson_json.proofs.errors.Completions.{space_completed}
use Rattle.ijson_json.proofs.errors.EarlierLimits.{is_token, within_token, number_tokens, no_deep_before, no_range_before}
use Rattle.ijson_json.proofs.errors.CharacterPlaces.{HasContent, content_at, no_escape_before}
use Rattle.ijson_json.proofs.faults.Contexts.{value_pause}
use Rattle.ijson_json.proofs.faults.StuckTexts.{IsStuckAfter, none_completed, none_begins, stuck_at, stuck_error, fault_of, pause_begins, place_completed, ends_there}

-- If all bytes of `a ++ b` pass the test, so do all bytes of `a`.
run_first : (p : ℕ → Bool) (a b : List ℕ) → Run p (a ++ b) → Run p a
run_first p [] b h = tt
run_first p (c ∷ a) b h = (h.0, run_first p a b h.1)

abbrev is_other : ℕ → Bool
is_other b = not (b == 34)

-- A text without a quote does not begin with the rest of a string.
no_quote : (text : List ℕ) → Run is_other text → HasContent text → ⊥
no_quote text h (s, rest, (body, b, e)) =
    let behind = run_behind is_other body (34 ∷ rest) (subst (λ (l : List ℕ). Run is_other l) e h) in
    not_both (is_other 34) behind.0 refl

token_other : (b : ℕ) → IsTrue (is_token b) → IsTrue (is_other b)
token_other b h = grind (arith, nat_tests)

tokens_other : (text : List ℕ) → Run is_token text → Run is_other text
tokens_other [] h = tt
tokens_other (b ∷ text) h = (token_other b h.0, tokens_other text h.1)

closers_other : (text : List ℕ) → IsClosers text → Run is_other text
closers_other [] h = tt
closers_other (b ∷ text) (inl e, h) = (rw e refl, closers_other text h)
closers_other (b ∷ text) (inr e, h) = (rw e refl, closers_other text h)

-- ---- a prefix of a number or a literal

-- `text` begins with `d ∷ front`, which `more` would extend to a number or a literal.
--
-- `before ++ text` is stuck after `d ∷ front`.
module _ {opened : ℕ} {before text : List ℕ} (c : ValueContext opened before text) (d : ℕ) (front rest more : List ℕ) (u : Tree)
    (is : text ≡ (d ∷ front) ++ rest) (value : IsValue u ((d ∷ front) ++ more)) (tokens : Run is_token ((d ∷ front) ++ more))
    (none : IsStuckAfter (before ++ d ∷ front) rest) where
  token_text : before ++ text ≡ (before ++ d ∷ front) ++ rest
  token_text = ap (λ (l : List ℕ). before ++ l) is ∙ sym (append_assoc before (d ∷ front) rest)

  -- A prefix of `before ++ text` is a prefix of `before ++ d ∷ front`, or longer than
  -- `before ++ d ∷ front`.
  part : (longer y : List ℕ) → longer ++ y ≡ before ++ text
      → ((z : List ℕ) × (longer ++ z ≡ before ++ d ∷ front)) ⊎ IsLonger (before ++ d ∷ front) longer rest y
  part longer y e = elim (overlap longer (before ++ d ∷ front) y rest (e ∙ token_text)) [
    | inl s ↦ inl ([], append-nil longer ∙ s.0)
    | inr o ↦ elim o [ inl l ↦ inl (l.0 ∷ l.1, sym l.2) | inr l ↦ inr l ]
  ]

  -- A value does not begin within `d ∷ front` or right after `d ∷ front`.
  no_place : {m : ℕ} {longer : List ℕ} (y : List ℕ) → Inside IsSpace m longer → longer ++ y ≡ before ++ text → IsLonger before longer text y
      → (IsLonger (before ++ d ∷ front) longer rest y → ⊥) → ⊥
  no_place {longer = longer} y place e (b, mid, f, g) beyond = elim (part longer y e) [
    | inl p ↦
        let same : (b ∷ mid) ++ p.0 ≡ d ∷ front = append_cancel_left before ((b ∷ mid) ++ p.0) (d ∷ front)
        (sym (append_assoc before (b ∷ mid) p.0) ∙ ap (λ (l : List ℕ). l ++ p.0) (sym f) ∙ p.1) in
        within_token before b mid place f
        (run_first is_token (b ∷ mid) p.0 (subst (λ (l : List ℕ). Run is_token l) (sym same) (run_first is_token (d ∷ front) more tokens)))
    | inr l ↦ beyond l
  ]

  no_deep : (m : ℕ) → TooDeepAt (before ++ text) m → ⊥
  no_deep m a = elim (overlap a.before before (a.bracket ∷ a.rest) text (sym a.is)) [
    | inl s ↦ not_token a.bracket a.opens
        (let first : a.bracket ≡ d = heads _ _ _ _ (s.1 ∙ is) in subst (λ (b : ℕ). IsTrue (is_token b)) (sym first) tokens.0)
    | inr o ↦ elim o [
      | inl l ↦ no_deep_before a before text (pause_begins (value_pause c)) l
      | inr l ↦ no_place (a.bracket ∷ a.rest) a.place (sym a.is) l
          (λ l. none_begins (before ++ d ∷ front) rest none a.before (a.bracket ∷ a.rest) l a.begins)
    ]
  ]
    where
      not_token : (b : ℕ) → (b ≡ 91) ⊎ (b ≡ 123) → IsTrue (is_token b) → ⊥
      not_token b (inl e) h = not_both (is_token 91) (rw e at h) refl
      not_token b (inr e) h = not_both (is_token 123) (rw e at h) refl

  no_range : (IsUnread text OutOfRange → ⊥) → (m : ℕ) → OutOfRangeAt (before ++ text) m → ⊥
  no_range read m a = elim (overlap a.before before a.rest text (sym a.is)) [
    | inl s ↦ read (subst (λ (l : List ℕ). IsUnread l OutOfRange) s.1 a.past)
    | inr o ↦ elim o [
      | inl l ↦ no_range_before a opened before text (pause_begins (value_pause c)) c.place l
      | inr l ↦ no_place a.rest a.place (sym a.is) l (λ l. none_begins (before ++ d ∷ front) rest none a.before a.rest l a.begins)
    ]
  ]

  -- `more` and closing brackets extend `before ++ d ∷ front` to a JSON text.
  built : (Begins (before ++ d ∷ front)) × ((t : Tree) × Spaced (λ value. IsValue t value) ((before ++ d ∷ front) ++ (more ++ c.closers)))
  built =
      let b = c.builds u ((d ∷ front) ++ more) (spaced (λ value. IsValue u value) ((d ∷ front) ++ more) value) in
      let s : Spaced (λ value. IsValue b.tree value) ((before ++ d ∷ front) ++ (more ++ c.closers)) =
      subst (λ (l : List ℕ). Spaced (λ value. IsValue b.tree value) l) (simp append_assoc) b.spelled in
      ((more ++ c.closers, _, _, _, record { written = b.tree; spelled = s; tree_is = refl; deepest_is = refl; ranged_is = refl }), (b.tree, s))

  no_escape : (m : ℕ) → BadEscapeAt (before ++ text) m → ⊥
  no_escape m b = elim (overlap b.before before (92 ∷ b.letters) text (sym b.is)) [
    | inl s ↦ not_both (is_token 92)
        (let first : 92 ≡ d = heads _ _ _ _ (s.1 ∙ is) in subst (λ (b : ℕ). IsTrue (is_token b)) (sym first) tokens.0) refl
    | inr o ↦ elim o [
      | inl l ↦ no_escape_before b before text (space_completed c.place) l
      | inr l ↦ elim (part b.before (92 ∷ b.letters) (sym b.is)) [
        | inl p ↦ inside l p.0 p.1
        | inr l ↦ none_completed (before ++ d ∷ front) rest none b.before (92 ∷ b.letters) l (place_completed b.before b.place)
      ]
    ]
  ]
    where
      inside : IsLonger before b.before text (92 ∷ b.letters) → (z : List ℕ) → b.before ++ z ≡ before ++ d ∷ front → ⊥
      inside (e, mid, f, g) z same =
          let (t, s) = built.1 in
          let whole : (before ++ d ∷ front) ++ (more ++ c.closers) ≡ b.before ++ (z ++ (more ++ c.closers)) =
          ap (λ (l : List ℕ). l ++ (more ++ c.closers)) (sym same) ∙ append_assoc b.before z (more ++ c.closers) in
          let content = content_at b.before (z ++ (more ++ c.closers)) t b.place
          (subst (λ (l : List ℕ). Spaced (λ value. IsValue t value) l) whole s) in
          let written : (e ∷ mid) ++ z ≡ d ∷ front = append_cancel_left before ((e ∷ mid) ++ z) (d ∷ front)
          (sym (append_assoc before (e ∷ mid) z) ∙ ap (λ (l : List ℕ). l ++ z) (sym f) ∙ same) in
          let plain = tokens_other ((d ∷ front) ++ more) tokens in
          let behind : Run is_other z = run_behind is_other (e ∷ mid) z
          (subst (λ (l : List ℕ). Run is_other l) (sym written) (run_first is_other (d ∷ front) more plain)) in
          no_quote (z ++ (more ++ c.closers))
          (all-append _ z (more ++ c.closers) behind
          (all-append _ more c.closers (run_behind is_other (d ∷ front) more plain) (closers_other c.closers c.closing))) content

  -- If `text` does not begin with a number out of range, the error is a syntax error after
  -- `d ∷ front`.
  pub token_error : (IsUnread text OutOfRange → ⊥) → IsErrorOf (before ++ text) (errors.Syntax (length (before ++ d ∷ front)))
  token_error read =
      (no_deep, no_range read, inr (stuck_at (before ++ d ∷ front) rest token_text none built.0, no_escape))

-- ---- a literal

module _ {b : ℕ} {word : List ℕ} {t : Tree} (w : Word b word t) (others : List ℕ) (begins : word ≡ b ∷ others) (tokens : Run is_token word)
    {opened : ℕ} {before text : List ℕ} (c : ValueContext opened before text) (more : List ℕ) (e : text ≡ b ∷ more) where
  -- A text that begins with the first byte of the literal `word` does not begin with a number.
  no_number : IsUnread text OutOfRange → ⊥
  no_number (count, f, (n, spelled, past)) =
      let number_kind = kind_at (number n) b more text (drop count text) e
      (record { front = take count text; holds = spelled; is = sym (take-append-drop count text) }) in
      let word_kind = kind_at t b others word [] begins (record { front = word; holds = w.spells; is = sym (append-nil word) }) in
      omega (arith, number_kind, word_kind, w.flat)

  module _ {left count : ℕ} (g : CommonFront text word count) (left_is : left ≡ length text - count)
      (other : (rest : List ℕ) → text ≢ word ++ rest) where
    -- The byte of `text` after the common prefix is not the next byte of the literal `word`.
    stopped : (rest more next x : List ℕ) → StartsAs rest next → next ≡ more ++ x → g.rest ≡ rest → g.more ≡ more → ⊥
    stopped rest [] next x starts same r m =
        other g.rest (g.text_is ∙ ap (λ (l : List ℕ). l ++ g.rest) (sym (g.word_is ∙ ap (λ (l : List ℕ). g.front ++ l) m ∙ append-nil g.front)))
    stopped [] (m ∷ more) next x starts same r n = let clash : [] ≡ m ∷ (more ++ x) = sym starts ∙ same in cc
    stopped (a ∷ rest) (m ∷ more) next x (behind, starts) same r n =
        g.differ a rest more r (n ∙ ap (λ (k : ℕ). k ∷ more) (heads _ _ _ _ (sym same ∙ starts)))

    stuck : (d : ℕ) (front : List ℕ) → g.front ≡ d ∷ front → IsStuckAfter (before ++ d ∷ front) g.rest
    stuck d front h u next starts s =
        let is : text ≡ (d ∷ front) ++ g.rest = g.text_is ∙ ap (λ (l : List ℕ). l ++ g.rest) h in
        let (v, x, found, stops) = c.only u ((d ∷ front) ++ next) (rw is (front ++ next, refl))
        (subst (λ (l : List ℕ). Spaced (λ value. IsValue u value) l) (append_assoc before (d ∷ front) next) s) in
        let same : d ≡ b = heads _ _ _ _ (sym is ∙ e) in
        let alone : found.front ≡ word = w.alone v (front ++ next) x
        (record { front = found.front; holds = found.holds; is = ap (λ (k : ℕ). k ∷ (front ++ next)) (sym same) ∙ found.is }) in
        let whole : (d ∷ front) ++ next ≡ ((d ∷ front) ++ g.more) ++ x =
        found.is ∙ ap (λ (l : List ℕ). l ++ x) (alone ∙ g.word_is ∙ ap (λ (l : List ℕ). l ++ g.more) h) in
        stopped g.rest g.more next x starts
        (append_cancel_left (d ∷ front) next (g.more ++ x) (whole ∙ append_assoc (d ∷ front) g.more x)) refl refl

    word_error : (front : List ℕ) → g.front ≡ front → RejectsBy (before ++ text) (faults.Syntax left)
    word_error [] h = absurd (g.differ b more others (sym (g.text_is ∙ ap (λ (l : List ℕ). l ++ g.rest) h) ∙ e)
        (sym (g.word_is ∙ ap (λ (l : List ℕ). l ++ g.more) h) ∙ begins))
    word_error (d ∷ front) h =
        let is : text ≡ (d ∷ front) ++ g.rest = g.text_is ∙ ap (λ (l : List ℕ). l ++ g.rest) h in
        let word_is : word ≡ (d ∷ front) ++ g.more = g.word_is ∙ ap (λ (l : List ℕ). l ++ g.more) h in
        let value : IsValue t ((d ∷ front) ++ g.more) = subst (λ (l : List ℕ). IsValue t l) word_is w.spells in
        let run : Run is_token ((d ∷ front) ++ g.more) = subst (λ (l : List ℕ). Run is_token l) word_is tokens in
        fault_of (before ++ d ∷ front) g.rest left
        (ap (λ (l : List ℕ). before ++ l) is ∙ sym (append_assoc before (d ∷ front) g.rest))
        (omega (arith, left_is, g.count_is, ap length g.text_is, length-append g.front g.rest))
        (token_error c d front g.rest g.more t is value run (stuck d front h) no_number)

  -- A fault of reading the literal `word` is the error of the whole text.
  pub word_fault : (fault : Fault) → WordFault text word fault → RejectsBy (before ++ text) fault
  word_fault (faults.Syntax left) (count, g, left_is, other) = word_error g left_is other g.front refl
  word_fault fault h = absurd h

-- ---- a number

-- If `IsNumberFront` holds for `count` and for `other`, `other` is at most `count`.
front_within : (text : List ℕ) (count other : ℕ) → IsNumberFront text count → IsNumberFront text other → other ≤ count
front_within text count other f g = elim (cases_lt count other) [
  | inl less ↦ absurd
      (let (more, n, s) = g.begins in
      let long = length-take-le other text g.within in
      let one : take (count + 1) text ≡ take (count + 1) (take other text) =
      ap (take (count + 1)) (sym (take-append-drop other text))
      ∙ take-append-le (count + 1) (take other text) (drop other text) (omega (arith, long, less)) in
      let whole : take other text ++ more ≡ take (count + 1) text ++ (drop (count + 1) (take other text) ++ more) =
      ap (λ (l : List ℕ). l ++ more) (sym (take-append-drop (count + 1) (take other text)))
      ∙ append_assoc (take (count + 1) (take other text)) (drop (count + 1) (take other text)) more
      ∙ ap (λ (l : List ℕ). l ++ (drop (count + 1) (take other text) ++ more)) (sym one) in
      f.ends (omega (arith, less, g.within)) (drop (count + 1) (take other text) ++ more, n, subst (λ (l : List ℕ). Spells l n) whole s))
  | inr most ↦ omega (arith, most)
]

-- A value is a number if only a number can begin with its first byte.
number_alone : (t : Tree) (text : List ℕ) (first : ℕ) (more x : List ℕ) → text ≡ first ∷ more → IsApart first
    → Front (λ value. IsValue t value) text x → (n : Decimal) × Front (λ front. Spells front n) text x
number_alone (number n) text first more x e apart f = (n, record { front = f.front; holds = f.holds; is = f.is })
number_alone t text first more x e (n, r, f, p, q, s) g =
    absurd (let k : kind first ≡ rank t = kind_at t first more text x e g in grind (arith, nat_tests))

module _ {opened : ℕ} {before text : List ℕ} (c : ValueContext opened before text) (first : ℕ) (more : List ℕ) (e : text ≡ first ∷ more)
    (apart : IsApart first) {left : ℕ} (s : NumberStops text left) where
  abbrev front : List ℕ
  front = take s.count text

  abbrev rest : List ℕ
  rest = drop s.count text

  split : text ≡ front ++ rest
  split = sym (take-append-drop s.count text)

  -- If a text continues after `front` with the first byte of `rest`, a byte of a number follows
  -- each number at its start.
  no_front : (n : Decimal) (next x : List ℕ) → StartsAs rest next → Front (λ front. Spells front n) (front ++ next) x → Stops x → ⊥
  no_front n next x starts f stops = elim (overlap f.front front x next (sym f.is)) [
    | inl o ↦ elim s.stops [
      | inl none ↦ none n (subst (λ (l : List ℕ). Spells l n) o.0 f.holds)
      | inr p ↦ p.3 (starts_back is_number_byte rest next starts (subst Stops o.1 stops))
    ]
    | inr o ↦ elim o [
      | inl (b, mid, is, y) ↦
          let (others, m, spelled) = s.front.begins in
          let bytes = run_first is_number_byte front others (spells_bytes _ m spelled) in
          let behind = run_behind is_number_byte f.front (b ∷ mid) (subst (λ (l : List ℕ). Run is_number_byte l) is bytes) in
          not_both (is_number_byte b) behind.0 (subst Stops y stops)
      | inr (b, mid, is, y) ↦ goes_on rest refl starts b mid is y
    ]
  ]
    where
      goes_on : (rest' : List ℕ) → rest ≡ rest' → StartsAs rest' next → (b : ℕ) (mid : List ℕ) → f.front ≡ front ++ b ∷ mid
          → next ≡ b ∷ (mid ++ x) → ⊥
      goes_on [] r starts b mid is y = let clash : [] ≡ b ∷ (mid ++ x) = sym starts ∙ y in cc
      goes_on (a ∷ rest') r (behind, starts) b mid is y =
          let same : a ≡ b = heads _ _ _ _ (sym starts ∙ y) in
          ends_there text s.count s.front b rest' (r ∙ ap (λ (k : ℕ). k ∷ rest') same)
          (mid, n, subst (λ (l : List ℕ). Spells l n) (is ∙ sym (append_assoc front (b ∷ []) mid)) f.holds)

  number_stuck : IsStuckAfter (before ++ front) rest
  number_stuck t next starts spelled =
      let goes : StartsAs text (front ++ next) = subst (λ (l : List ℕ). StartsAs l (front ++ next)) (sym split) (starts_behind front rest next starts) in
      let (v, x, f, stops) = c.only t (front ++ next) goes
      (subst (λ (l : List ℕ). Spaced (λ value. IsValue t value) l) (append_assoc before front next) spelled) in
      let (others, is) = subst (λ (l : List ℕ). StartsAs l (front ++ next)) e goes in
      let (n, g) = number_alone v (front ++ next) first others x is apart f in
      no_front n next x starts g stops

  -- The number at the start of `text` is not out of range.
  number_read : IsUnread text OutOfRange → ⊥
  number_read (other, f, (n, spelled, past)) =
      let same : other ≡ s.count =
      (let low = front_within text s.count other s.front f in let high = front_within text other s.count f s.front in omega (arith, low, high)) in
      let here = subst (λ (k : ℕ). Spells (take k text) n) same spelled in
      elim s.stops [
        | inl none ↦ none n here
        | inr p ↦ not_both (is_in_range n) (subst (λ (m : Decimal). is_in_range m ≡ true) (spells_one front p.0 n p.1 here) p.2) past
      ]

  left_rest : left ≡ length rest
  left_rest = omega (arith, s.left_is, ap length split, length-append front rest, length-take-le s.count text s.front.within)

  number_error : (front' : List ℕ) → front ≡ front' → RejectsBy (before ++ text) (faults.Syntax left)
  number_error [] h =
      let seen : before ++ front ≡ before = ap (λ (l : List ℕ). before ++ l) h ∙ append-nil before in
      let is : before ++ text ≡ before ++ rest = ap (λ (l : List ℕ). before ++ l) (split ∙ ap (λ (l : List ℕ). l ++ rest) h) in
      fault_of before rest left is left_rest
      (stuck_error before rest is (subst (λ (l : List ℕ). IsStuckAfter l rest) seen number_stuck) (value_pause c))
  number_error (d ∷ front') h =
      let is : text ≡ (d ∷ front') ++ rest = split ∙ ap (λ (l : List ℕ). l ++ rest) h in
      let (others, n, spelled) = s.front.begins in
      let value : Spells ((d ∷ front') ++ others) n = subst (λ (l : List ℕ). Spells (l ++ others) n) h spelled in
      fault_of (before ++ d ∷ front') rest left
      (ap (λ (l : List ℕ). before ++ l) is ∙ sym (append_assoc before (d ∷ front') rest)) left_rest
      (token_error c d front' rest others (number n) is value (number_tokens ((d ∷ front') ++ others) (spells_bytes ((d ∷ front') ++ others) n value))
      (subst (λ (l : List ℕ). IsStuckAfter (before ++ l) rest) h number_stuck) number_read)

  -- A syntax fault of reading a number is the error of the whole text.
  pub number_fault : RejectsBy (before ++ text) (faults.Syntax left)
  number_fault = number_error front refl
