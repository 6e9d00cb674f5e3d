-- Lemmas: a fault in the key or the value of a member is a fault of the member.
use Rattle.std.proofs.Common.{◌≡◌, ℕ, List, [], ◌∷◌, ◌++◌, length, refl, sym, ap, subst, ◌∙◌, append_assoc, append-nil, arith, inl, inr}
use Rattle.std.specs.Prelude.{◌==◌}
use Rattle.ijson_value.specs.Tree.{Tree, null}
use Rattle.ijson_json.specs.Strings.{StringBody, empty, unescaped}
use Rattle.ijson_json.specs.Grammar.{is_space, Spaced, IsString, IsValue, null_text}
use Rattle.ijson_json.specs.Inside.{IsCharacterPlace}
use Rattle.ijson_json.specs.private.Contexts.{StartsAs, MemberContext}
use Rattle.ijson_json.specs.private.Explains.{ColonStops, Explains, ExplainsMember, KeyFault, RejectsBy, StringFault}
use Rattle.ijson_json.specs.private.Reading.{Front, KeyRead, Pair, Past}
use Rattle.ijson_json.specs.private.StringReading.{ContentStops}
use Rattle.ijson_json.specs.declared.fault.Fault.{Fault}
use Rattle.ijson_json.specs.declared.fault.Fault.TheVariants as faults
use Rattle.ijson_json.proofs.scanning.Prefixes.{run_same, past_byte, all-append}
use Rattle.ijson_json.proofs.scanning.Starts.{starts_past}
use Rattle.ijson_json.proofs.grammar.ElementShapes.{pair_first, spaced_pair}
use Rattle.ijson_json.proofs.grammar.Insides.{inside_append}
use Rattle.ijson_json.proofs.grammar.OneTree.{string_same}
use Rattle.ijson_json.proofs.reading.Members.{key_behind, pair_is}
use Rattle.ijson_json.proofs.reading.StringContent.{body-push}
use Rattle.ijson_json.proofs.faults.Contexts.{built_accepted, value_context}
use Rattle.ijson_json.proofs.faults.ScalarFaults.{memory_fault}
use Rattle.ijson_json.proofs.faults.StringFaults.{content_error}
use Rattle.ijson_json.proofs.faults.StuckTexts.{MayPause, IsStuckAfter, fault_of, stuck_error}

-- A fault in the string of a key is a fault of the key.
pub string_key : (text : List ℕ) (fault : Fault) → StringFault text fault → KeyFault text fault
string_key text (faults.Syntax left) h = inl h
string_key text faults.Memory h = tt
string_key text fault h = absurd h

module _ {opened : ℕ} {before text : List ℕ} (c : MemberContext opened before text) where
  -- If `written`, a space and more bytes are a member with the value `null`, a space may follow
  -- `written`.
  member_pause : (k written more : List ℕ) → Spaced (λ pair. Pair (k, null) pair) (written ++ 32 ∷ more) → MayPause (before ++ written)
  member_pause k written more s =
      let (tree, accepted) = built_accepted (c.builds (k, null) (written ++ 32 ∷ more) s) (omega (arith, c.within)) refl in
      record { more = more ++ c.closers; tree = tree; accepted = simp append_assoc (simp append_assoc at accepted) }

  -- A key, `:` and `null` are a member.
  null_member : (k key : List ℕ) → Spaced (λ string. IsString k string) key → Spaced (λ pair. Pair (k, null) pair) (key ++ 58 ∷ null_text)
  null_member k key s = spaced_pair k null (key ++ 58 ∷ null_text) (key, null_text, s, ([], null_text, [], tt, refl, tt, refl), refl)

  -- If a text does not begin with a quote where a member may begin, it has a syntax error there.
  quote_fault : (left : ℕ) → left ≡ length text → Past (λ b. b == 34) text → RejectsBy (before ++ text) (faults.Syntax left)
  quote_fault left e p = fault_of before text left refl e (stuck_error before text refl
      (λ t next starts s.
      let (m, x, f, stops) = c.only t next starts s in
      let (more, is) = pair_first m f.front x f.holds in
      past_byte 34 next more (starts_past (λ b. b == 34) text next starts p) (f.is ∙ is))
      (subst MayPause (append-nil before)
      (member_pause [] [] (34 ∷ 34 ∷ 58 ∷ null_text)
      (null_member [] (32 ∷ 34 ∷ 34 ∷ []) (32 ∷ [], 34 ∷ 34 ∷ [], [], (refl, tt), ([], empty, refl), tt, refl)))))

  -- A character may begin after the opening quote and complete characters of a key.
  key_place : (body s : List ℕ) → StringBody body s → IsCharacterPlace (before ++ 34 ∷ body)
  key_place body s h = (
    c.place.0,
    inside_append (34 ∷ body) c.place.2
        (λ last (gap, members, space, sg, each, ss, e). inr (
          gap,
          members,
          space ++ 34 ∷ body,
          sg,
          each,
          (space, body, s, ss, h, refl),
          rw e (simp append_assoc),
        )),
  )

  key_pause : (body s : List ℕ) → StringBody body s → MayPause (before ++ 34 ∷ body)
  key_pause body s h =
      let string : List ℕ = 34 ∷ ((body ++ 32 ∷ []) ++ 34 ∷ []) in
      let key = null_member (s ++ 32 ∷ []) string ([], string, [], tt, (body ++ 32 ∷ [], body-push h (unescaped refl), refl), tt, sym (append-nil string)) in
      member_pause (s ++ 32 ∷ []) (34 ∷ body) (34 ∷ 58 ∷ null_text) (simp append_assoc at key)

  -- If the content of a key stops, the text has a syntax error there.
  content_fault : (inside : List ℕ) (left : ℕ) → text ≡ 34 ∷ inside → ContentStops inside left
      → RejectsBy (before ++ text) (faults.Syntax left)
  content_fault inside left e s =
      let is : before ++ text ≡ (before ++ 34 ∷ s.body) ++ s.rest =
      ap (λ (l : List ℕ). before ++ l) (e ∙ ap (λ (l : List ℕ). 34 ∷ l) s.is) ∙ sym (append_assoc before (34 ∷ s.body) s.rest) in
      fault_of (before ++ 34 ∷ s.body) s.rest left is s.left_is
      (content_error (before ++ 34 ∷ s.body) s.rest is (key_place s.body s.meant s.is_body) (key_pause s.body s.meant s.is_body)
      s.unclosed s.no_character)

  -- If `:` does not follow a key, the text has a syntax error there.
  colon_fault : (left : ℕ) → ColonStops text left → RejectsBy (before ++ text) (faults.Syntax left)
  colon_fault left h =
      let key = h.found.front in
      let space = h.skipped.space in
      let seen : List ℕ = key ++ space in
      let whole : text ≡ seen ++ h.rest = h.found.is ∙ ap (λ (l : List ℕ). key ++ l) h.skipped.is ∙ sym (append_assoc key space h.rest) in
      let is : before ++ text ≡ (before ++ seen) ++ h.rest =
      ap (λ (l : List ℕ). before ++ l) whole ∙ sym (append_assoc before seen h.rest) in
      let none : IsStuckAfter (before ++ seen) h.rest = λ t next starts s.
      let (m, x, f, stops) = c.only t (seen ++ next) (key_starts next)
      (subst (λ (l : List ℕ). Spaced (λ value. IsValue t value) l) (append_assoc before seen next) s) in
      no_colon next m x starts f in
      let pair = null_member h.key (key ++ (space ++ 32 ∷ []))
      ([], key, space ++ 32 ∷ [], tt, h.found.holds, all-append _ space (32 ∷ []) h.skipped.passed (refl, tt), refl) in
      fault_of (before ++ seen) h.rest left is h.left_is
      (stuck_error (before ++ seen) h.rest is none
      (member_pause h.key seen (58 ∷ null_text) (simp append_assoc (simp append_assoc at pair))))
    where
      -- A text that begins with the key that was read begins with the same byte as `text`.
      key_starts : (next : List ℕ) → StartsAs text ((h.found.front ++ h.skipped.space) ++ next)
      key_starts next =
          let (body, b, i) = h.found.holds in
          subst (λ (l : List ℕ). StartsAs l ((h.found.front ++ h.skipped.space) ++ next))
          (sym (h.found.is ∙ ap (λ (l : List ℕ). l ++ h.after) i))
          (((body ++ 34 ∷ []) ++ h.skipped.space) ++ next, ap (λ (l : List ℕ). (l ++ h.skipped.space) ++ next) i)

      no_colon : (next : List ℕ) (m : List ℕ × Tree) (x : List ℕ) → StartsAs h.rest next
          → Front (λ text. Pair m text) ((h.found.front ++ h.skipped.space) ++ next) x → ⊥
      no_colon next m x starts f =
          let q = f.holds in
          let key = h.found.front in
          let space = h.skipped.space in
          let e = string_same h.key m.0 key q.key (space ++ next) (q.gap ++ 58 ∷ (q.gap' ++ (q.value ++ x))) h.found.holds q.is_key
          (sym (append_assoc key space next) ∙ pair_is m ((key ++ space) ++ next) x f) in
          let g = run_same is_space space q.gap next (58 ∷ (q.gap' ++ (q.value ++ x))) h.skipped.passed q.space
          (starts_past is_space h.rest next starts h.skipped.past) refl e.1.1 in
          past_byte 58 next _ (starts_past (λ b. b == 58) h.rest next starts h.no_colon) g.1

-- A fault in the key is a fault of the member.
pub key_fault : (opened : ℕ) (text : List ℕ) (fault : Fault) → KeyFault text fault → ExplainsMember opened text fault
key_fault opened text (faults.Syntax left) (inl (inl (e, p))) before c = quote_fault c left e p
key_fault opened text (faults.Syntax left) (inl (inr (inside, e, s))) before c = content_fault c inside left e s
key_fault opened text (faults.Syntax left) (inr h) before c = colon_fault c left h
key_fault opened text faults.Memory h before c = memory_fault (before ++ text)
key_fault opened text fault h before c = absurd h

-- A fault in the value is a fault of the member.
pub member_fault : {k text cur : List ℕ} (r : KeyRead k text cur) (opened : ℕ) (fault : Fault) → Explains opened cur fault
    → ExplainsMember opened text fault
member_fault {text = text} {cur = cur} r opened fault h before c =
    let head : List ℕ = r.key ++ (r.gap ++ 58 ∷ r.gap') in
    subst (λ (l : List ℕ). RejectsBy l fault)
    (append_assoc before head cur ∙ ap (λ (l : List ℕ). before ++ l) (sym (key_behind r)))
    (h (before ++ head) (value_context r c))
