-- Reading elements with commas between them, up to the closing bracket, reads the container.
use Rattle.std.proofs.Common.{◌≡◌, ℕ, suc, ◌+◌, ◌<◌, ◌≤◌, true, false, List, [], ◌∷◌, ◌++◌, refl, sym, ap, ap₂, subst}
use Rattle.std.proofs.Common.{◌∙◌, append_assoc, arith}
use Rattle.std.specs.Prelude.{◌&&◌, ◌==◌, ◌⊎◌}
use Rattle.ijson_value.specs.Tree.{Tree, depth}
use Rattle.ijson_json.specs.Ranged.{is_ranged}
use Rattle.ijson_json.specs.Grammar.{is_space, IsSpace, Spaced, IsValue}
use Rattle.ijson_json.specs.Inside.{EachWithComma, no_comma, comma_after, IsValuePlace}
use Rattle.ijson_json.specs.private.Reading.{Closes, GoesOn, Skips, IsStuck, Past, Ends, Front, IsRead}
use Rattle.ijson_json.specs.private.Contexts.{StartsAs}
use Rattle.ijson_json.proofs.scanning.Prefixes.{run_same, past_byte, tails, heads_apart}
use Rattle.ijson_json.proofs.scanning.Starts.{starts_past, starts_ends}
use Rattle.ijson_json.proofs.reading.ElementLists.{deepest, all_ranged, deepest-append, ranged-append, ElementRead, absorb, one_more}
use Rattle.ijson_json.proofs.grammar.CommaLists.{IsList, Shape, At, ElementSame, first_same, at_elements, space-Stops, Ends-any}
use Rattle.ijson_json.specs.Limits.{max_depth}

-- Describes a container of the elements `E`: its brackets, its value, and how its text is read.
pub record Listing (E : Type 0) (S : Shape E) : Type 1 where
  pub opening : ℕ
  pub wrap : List E → Tree
  pub closer : (S.closing ≡ 93) ⊎ (S.closing ≡ 125)
  pub same : (e f : E) → ElementSame E S e f
  pub builds : (es : List E) (inside : List ℕ) → IsList S.Is es inside → IsValue (wrap es) (opening ∷ (inside ++ S.closing ∷ []))
  pub only : (t : Tree) (inside x : List ℕ) → Front (λ value. IsValue t value) (opening ∷ inside) x
      → (es : List E) × (i : List ℕ) × (t ≡ wrap es) × IsList S.Is es i × (inside ≡ i ++ S.closing ∷ x)
  pub depth_is : (es : List E) → depth (wrap es) ≡ suc (deepest E S es)
  pub ranged_is : (es : List E) → is_ranged (wrap es) ≡ all_ranged E S es
  pub ends : (es : List E) (x : List ℕ) → Ends (wrap es) x
  pub IsPart : List ℕ → Type 0
  pub part : (e : E) (text : List ℕ) → Spaced (λ inside. S.Is e inside) text → IsPart text
  pub IsPlace : ℕ → List ℕ → Type 0
  pub placed : (opened : ℕ) (before parts space : List ℕ) → IsValuePlace opened before → EachWithComma IsPart parts → IsSpace space
      → IsPlace (opened + 1) (before ++ opening ∷ (parts ++ space))

-- Appending a text with the property `P` and a comma keeps `EachWithComma P`.
each_push : {P : List ℕ → Type 0} {parts : List ℕ} (part : List ℕ) → EachWithComma P parts → P part
    → EachWithComma P (parts ++ (part ++ 44 ∷ []))
each_push part no_comma p = comma_after p no_comma
each_push part (comma_after {first} {more} q each) p =
    rw (append_assoc first (44 ∷ more) (part ++ 44 ∷ [])) (comma_after q (each_push part each p))

module _ (E : Type 0) (S : Shape E) (L : Listing E S) where
  -- Holds if the value `t` consists of the elements `found`, and of further elements that begin at
  -- `cur`.
  pub record Goes (found : List E) (t : Tree) (cur x : List ℕ) : Type 0 where
    pub next : E
    pub more : List E
    pub is : t ≡ L.wrap (found ++ next ∷ more)
    pub at : At E S next more cur x

  -- Two texts that begin with the same element begin with the same byte.
  element_starts : (e : E) (text x y : List ℕ) → S.Is e text → StartsAs (text ++ x) (text ++ y)
  element_starts e [] x y h = absurd (let clash : true ≡ false = S.past_space e [] (32 ∷ []) h in cc)
  element_starts e (b ∷ text) x y h = (text ++ y, refl)

  -- Holds if the elements `found` of a container were read, and the next element begins at `cur`.
  --
  -- - `builds`: any further elements and the closing bracket complete the container.
  -- - `only`: each value that begins like the text read so far contains the elements `found`.
  pub record Reached (opened : ℕ) (text : List ℕ) (found : List E) (cur : List ℕ) : Type 0 where
    pub parts : List ℕ
    pub space : List ℕ
    pub each : EachWithComma L.IsPart parts
    pub gap : IsSpace space
    pub head : List ℕ
    pub head_is : head ≡ L.opening ∷ (parts ++ space)
    pub is : text ≡ head ++ cur
    pub past : Past is_space cur
    pub builds : (e : E) (more : List E) (others : List ℕ) → IsList S.Is (e ∷ more) others
        → IsValue (L.wrap (found ++ e ∷ more)) (head ++ (others ++ S.closing ∷ []))
    pub only : (t : Tree) (next x : List ℕ) → StartsAs cur next → Front (λ value. IsValue t value) (head ++ next) x → Goes found t next x
    pub deep : opened + suc (deepest E S found) ≤ max_depth
    pub ranged : all_ranged E S found ≡ true

  -- After the opening bracket and white space, no element is read, and the first element begins at
  -- `cur`.
  pub reached_start : (opened : ℕ) (inside s cur : List ℕ) → opened < max_depth → inside ≡ s ++ cur → IsSpace s → Past is_space cur
      → Past (λ b. b == S.closing) cur → Reached opened (L.opening ∷ inside) [] cur
  reached_start opened inside s cur o e h p q = record {
    parts = [];
    space = s;
    each = no_comma;
    gap = h;
    head = L.opening ∷ s;
    head_is = refl;
    is = ap (λ (l : List ℕ). L.opening ∷ l) e;
    past = p;
    builds = λ u more others v.
        let text_is : L.opening ∷ ((s ++ others) ++ S.closing ∷ []) ≡ (L.opening ∷ s) ++ (others ++ S.closing ∷ []) = simp append_assoc in
        subst (λ (l : List ℕ). IsValue (L.wrap (u ∷ more)) l) text_is (L.builds (u ∷ more) (s ++ others) (absorb E S u more s others h v));
    only = λ t next x starts f. let a = L.only t (s ++ next) x f in go t next x starts a.0 a.1 a.2 a.3 a.4;
    deep = omega arith;
    ranged = refl;
  }
    where
      go : (t : Tree) (next x : List ℕ) → StartsAs cur next → (es : List E) (i : List ℕ) → t ≡ L.wrap es → IsList S.Is es i
          → s ++ next ≡ i ++ S.closing ∷ x → Goes [] t next x
      go t next x starts [] i f v g =
          let same = run_same is_space s i next (S.closing ∷ x) h v (starts_past is_space cur next starts p) S.closing-space g in
          absurd (past_byte S.closing next x (starts_past (λ b. b == S.closing) cur next starts q) same.1)
      go t next x starts (u ∷ more) i f v g = record {
        next = u;
        more = more;
        is = f;
        at = at_elements E S u more s next i x h (starts_past is_space cur next starts p) v g;
      }

  -- An opening bracket, white space and the closing bracket are read as an empty container.
  pub empty_read : (opened : ℕ) (inside start rest : List ℕ) → opened < max_depth → Skips inside start → start ≡ S.closing ∷ rest
      → IsRead opened (L.opening ∷ inside) (L.wrap []) rest
  empty_read opened inside start rest o s e = record {
    found = record {
      front = L.opening ∷ (s.space ++ S.closing ∷ []);
      holds = L.builds [] s.space s.passed;
      is = rw (s.is, e) (simp append_assoc);
    };
    ends = L.ends [] rest;
    deep = omega (arith, L.depth_is []);
    ranged = L.ranged_is [];
  }

module _ {E : Type 0} {S : Shape E} {L : Listing E S} {opened : ℕ} {text cur after : List ℕ} {found : List E} {t : E}
    (r : Reached E S L opened text found cur) (d : ElementRead E S (opened + 1) cur t after) where
  -- If a text begins with the element `t` that was read, and `t` may end there, its first element
  -- is `t`.
  item_is : (e : E) (more : List E) (x s tail : List ℕ) → (a : At E S e more (d.found.front ++ (s ++ tail)) x) → IsSpace s
      → Past is_space tail → Ends (S.inner t) (s ++ tail) → (e ≡ t) × (a.tail ≡ tail)
  item_is e more x s tail a h p n =
      first_same E S e t more (d.found.front ++ (s ++ tail)) x d.found.front (s ++ tail) s tail (L.same e t) a d.found.holds n refl refl h p

  -- A text that begins with the element `t` begins with the same byte as `cur`.
  goes_on : (rest : List ℕ) → StartsAs cur (d.found.front ++ rest)
  goes_on rest = rw d.found.is (element_starts E S L t d.found.front after rest d.found.holds)

  -- The elements read and one more element are within the nesting limit.
  push_depth : opened + suc (deepest E S (found ++ t ∷ [])) ≤ max_depth
  push_depth = omega (arith, deepest-append E S found (t ∷ []), r.deep, d.deep)

  push_ranged : all_ranged E S (found ++ t ∷ []) ≡ true
  push_ranged = ranged-append E S found (t ∷ []) ∙ ap₂ ◌&&◌ r.ranged (ap₂ ◌&&◌ d.ranged refl)

  -- If a comma follows an element, the element is added to the elements read, and the next element
  -- begins after the comma.
  pub reached_more : {next : List ℕ} → GoesOn after next → Reached E S L opened text (found ++ t ∷ []) next
  reached_more {next} s = record {
    parts = r.parts ++ ((r.space ++ (d.found.front ++ s.gap)) ++ 44 ∷ []);
    space = s.gap';
    each = each_push (r.space ++ (d.found.front ++ s.gap)) r.each
        (L.part t (r.space ++ (d.found.front ++ s.gap)) (r.space, d.found.front, s.gap, r.gap, d.found.holds, s.space, refl));
    gap = s.space';
    head = r.head ++ (d.found.front ++ (s.gap ++ 44 ∷ s.gap'));
    head_is = rw r.head_is (simp append_assoc);
    is = r.is ∙ rw (d.found.is, s.is) (simp append_assoc);
    past = s.past;
    builds = λ u rest others v.
        let whole = r.builds t (u ∷ rest) (d.found.front ++ (s.gap ++ 44 ∷ (s.gap' ++ others)))
        (one_more E S t u rest d.found.front s.gap (s.gap' ++ others) d.found.holds s.space
        (absorb E S u rest s.gap' others s.space' v)) in
        simp append_assoc (simp append_assoc at whole);
    only = λ t' then x starts g.
        let behind : List ℕ = s.gap ++ 44 ∷ (s.gap' ++ then) in
        let o = r.only t' (d.found.front ++ behind) x (goes_on behind) (simp append_assoc at g) in
        go t' then x starts o.next o.more o.is o.at;
    deep = push_depth;
    ranged = push_ranged;
  }
    where
      ends : (then : List ℕ) → Ends (S.inner t) (s.gap ++ 44 ∷ (s.gap' ++ then))
      ends then = Ends-any (S.inner t) _ (space-Stops s.gap (44 ∷ (s.gap' ++ then)) s.space refl)

      go : (t' : Tree) (then x : List ℕ) → StartsAs next then → (u : E) (es : List E) → t' ≡ L.wrap (found ++ u ∷ es)
          → At E S u es (d.found.front ++ (s.gap ++ 44 ∷ (s.gap' ++ then))) x → Goes E S L (found ++ t ∷ []) t' then x
      go t' then x starts u [] g a =
          let same = item_is u [] x s.gap (44 ∷ (s.gap' ++ then)) a s.space refl (ends then) in
          absurd (heads_apart S.closing 44 _ _ (sym a.left ∙ same.1) S.closing-comma)
      go t' then x starts u (w ∷ ws) g a =
          let same = item_is u (w ∷ ws) x s.gap (44 ∷ (s.gap' ++ then)) a s.space refl (ends then) in
          let others = a.left in
          let rest : s.gap' ++ then ≡ others.0 ++ S.closing ∷ x = tails 44 44 _ _ (sym same.1 ∙ others.2) in
          record {
            next = w;
            more = ws;
            is = g ∙ ap (λ (v : E). L.wrap (found ++ v ∷ w ∷ ws)) same.0
                ∙ ap L.wrap (sym (append_assoc found (t ∷ []) (w ∷ ws)));
            at = at_elements E S w ws s.gap' then others.0 x s.space' (starts_past is_space next then starts s.past) others.1 rest;
          }

  -- If the closing bracket follows an element, the container is read, and this element is the last.
  pub reached_end : {rest : List ℕ} → Closes S.closing after rest → IsRead opened text (L.wrap (found ++ t ∷ [])) rest
  reached_end {rest} s = record {
    found = record {
      front = r.head ++ ((d.found.front ++ s.space) ++ S.closing ∷ []);
      holds = r.builds t [] (d.found.front ++ s.space) ([], d.found.front, s.space, tt, d.found.holds, s.passed, refl);
      is = r.is ∙ rw (d.found.is, s.is) (simp append_assoc);
    };
    ends = L.ends (found ++ t ∷ []) rest;
    deep = omega (arith, L.depth_is (found ++ t ∷ []), push_depth);
    ranged = L.ranged_is (found ++ t ∷ []) ∙ push_ranged;
  }

  -- If neither a comma nor the closing bracket follows an element, no value begins with the text up
  -- to and including the next byte.
  pub reached_stuck : {left : List ℕ} (s : IsStuck S.closing after left) (t' : Tree) (next x : List ℕ) → StartsAs left next
      → Front (λ value. IsValue t' value) (r.head ++ (d.found.front ++ (s.skipped.space ++ next))) x → ⊥
  reached_stuck {left} s t' next x starts g =
      let o = r.only t' (d.found.front ++ (s.skipped.space ++ next)) x (goes_on (s.skipped.space ++ next)) g in
      go o.next o.more o.at
    where
      ends : Ends (S.inner t) (s.skipped.space ++ next)
      ends = starts_ends (S.inner t) s.skipped.space left next starts (rw s.skipped.is at d.ends)

      same : (u : E) (es : List E) → (a : At E S u es (d.found.front ++ (s.skipped.space ++ next)) x) → (u ≡ t) × (a.tail ≡ next)
      same u es a = item_is u es x s.skipped.space next a s.skipped.passed (starts_past is_space left next starts s.skipped.past) ends

      go : (u : E) (es : List E) → At E S u es (d.found.front ++ (s.skipped.space ++ next)) x → ⊥
      go u [] a =
          past_byte S.closing next x (starts_past (λ b. b == S.closing) left next starts s.not_closed) (sym (same u [] a).1 ∙ a.left)
      go u (w ∷ ws) a =
          past_byte 44 next _ (starts_past (λ b. b == 44) left next starts s.no_comma) (sym (same u (w ∷ ws) a).1 ∙ a.left.2)
