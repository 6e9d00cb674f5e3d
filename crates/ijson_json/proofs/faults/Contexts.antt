-- Lemmas: the contexts of a whole text, of an element of an array or object, and of the value of a
-- member.
use Rattle.std.proofs.Common.{◌≡◌, ℕ, ◌+◌, ◌≤◌, true, List, [], ◌∷◌, ◌++◌, refl, sym, ap, ap₂, subst, ◌∙◌, append_assoc, append-nil, arith}
use Rattle.std.specs.Prelude.{◌&&◌}
use Rattle.ijson_value.specs.Tree.{Tree, null, depth}
use Rattle.ijson_json.specs.Ranged.{is_ranged}
use Rattle.ijson_json.specs.Settled.{settled}
use Rattle.ijson_json.specs.Grammar.{is_space, IsSpace, Spaced, IsValue, Accepted, null_text}
use Rattle.ijson_json.specs.Inside.{Inside, here, in_object, IsValuePlace}
use Rattle.ijson_json.specs.Limits.{max_depth}
use Rattle.ijson_json.specs.private.Reading.{KeyRead, Skips}
use Rattle.ijson_json.specs.private.Contexts.{StartsAs, Built, Context, ValueContext, MemberContext}
use Rattle.ijson_json.proofs.scanning.Prefixes.{run_same, all-append}
use Rattle.ijson_json.proofs.scanning.Starts.{starts_past}
use Rattle.ijson_json.proofs.grammar.CommaLists.{Shape, at-Stops, space-Stops}
use Rattle.ijson_json.proofs.grammar.ElementShapes.{spaced_pair}
use Rattle.ijson_json.proofs.grammar.FirstBytes.{value-past_space}
use Rattle.ijson_json.proofs.grammar.Insides.{inside_append, inside_deeper}
use Rattle.ijson_json.proofs.grammar.SpelledTrees.{spaced}
use Rattle.ijson_json.proofs.reading.ElementLists.{deepest-append, ranged-append}
use Rattle.ijson_json.proofs.reading.Elements.{Listing, Reached}
use Rattle.ijson_json.proofs.reading.Members.{key_again, value_of}
use Rattle.ijson_json.proofs.faults.StuckTexts.{MayPause}

-- Adding white space before a spaced text yields a spaced text.
pub spaced_more : {P : List ℕ → Type 0} (space text : List ℕ) → IsSpace space → Spaced P text → Spaced P (space ++ text)
spaced_more space text h (b, v, a, sb, w, sa, e) =
    (space ++ b, v, a, all-append _ space b h sb, w, sa, rw e (sym (append_assoc space b (v ++ a))))

-- ---- JSON texts that complete a context

-- If `Built` holds for a value within the limits, the text is accepted.
pub built_accepted : {opened : ℕ} {value : Tree} {text : List ℕ} → Built opened value text → opened + depth value ≤ max_depth
    → is_ranged value ≡ true → (tree : Tree) × Accepted text tree
built_accepted b deep ranged = (
  settled b.tree,
  (
    depth b.tree,
    b.deep deep,
    record { written = b.tree; spelled = b.spelled; tree_is = refl; deepest_is = refl; ranged_is = sym (b.ranged ranged) },
  ),
)

-- If a value may begin after `before`, a space may follow `before`.
pub value_pause : {opened : ℕ} {before text : List ℕ} → ValueContext opened before text → MayPause before
value_pause c =
    let b = c.builds null (32 ∷ null_text) (32 ∷ [], null_text, [], (refl, tt), refl, tt, refl) in
    let (tree, accepted) = built_accepted b (omega (arith, c.within)) refl in
    record { more = null_text ++ c.closers; tree = tree; accepted = accepted }

-- ---- a whole text

-- After the leading white space of a text, `ValueContext` holds with 0 open containers.
pub text_context : (text start : List ℕ) (s : Skips text start) → ValueContext 0 s.space start
text_context text start s = record {
  within = omega arith;
  place = here s.passed;
  only = λ t next starts (b, v, a, sb, w, sa, e).
      let same = run_same is_space s.space b next (v ++ a) s.passed sb (starts_past is_space start next starts s.past)
      (value-past_space t v a w) e in
      (t, a, record { front = v; holds = w; is = same.1 }, rw append-nil at (space-Stops a [] sa tt));
  closers = [];
  closing = tt;
  builds = λ t written spelled. record {
    tree = t;
    spelled = rw (append-nil written) (spaced_more s.space written s.passed spelled);
    deep = λ h. omega (arith, h);
    ranged = λ h. h;
  };
}

-- ---- an element of an array or object

module _ {E : Type 0} {S : Shape E} {L : Listing E S} {opened : ℕ} {text cur : List ℕ} {found : List E}
    (r : Reached E S L opened text found cur) {before : List ℕ} (c : ValueContext opened before text) where
  -- A text that begins with the elements that were read begins with the same byte as `text`.
  element_starts : (next : List ℕ) → StartsAs text (r.head ++ next)
  element_starts next =
      subst (λ (l : List ℕ). StartsAs l (r.head ++ next)) (sym (r.is ∙ ap (λ (l : List ℕ). l ++ cur) r.head_is))
      ((r.parts ++ r.space) ++ next, ap (λ (l : List ℕ). l ++ next) r.head_is)

  element_builds : (e : E) (written : List ℕ) → Spaced (λ text. S.Is e text) written
      → Built (opened + 1) (S.inner e) ((before ++ r.head) ++ (written ++ S.closing ∷ c.closers))
  element_builds e written s =
      let es : List E = found ++ e ∷ [] in
      let list : List ℕ = r.head ++ (written ++ S.closing ∷ []) in
      let b = c.builds (L.wrap es) list (spaced (λ value. IsValue (L.wrap es) value) list (r.builds e [] written s)) in
      record {
        tree = b.tree;
        spelled = subst (λ (l : List ℕ). Spaced (λ value. IsValue b.tree value) l) (simp append_assoc) b.spelled;
        deep = λ h. b.deep (omega (arith, L.depth_is es, deepest-append E S found (e ∷ []), r.deep, h));
        ranged = λ h. b.ranged (L.ranged_is es ∙ ranged-append E S found (e ∷ []) ∙ ap₂ ◌&&◌ r.ranged (ap₂ ◌&&◌ h refl));
      }

  pub element_context : Context E (λ e text. S.Is e text) (λ e. S.inner e) L.IsPlace (opened + 1) (before ++ r.head) cur
  element_context = record {
    within = omega (arith, r.deep);
    place = subst (λ (l : List ℕ). L.IsPlace (opened + 1) (before ++ l)) (sym r.head_is)
        (L.placed opened before r.parts r.space c.place r.each r.gap);
    only = λ t next starts s.
        let (v, x, f, stops) = c.only t (r.head ++ next) (element_starts next)
        (subst (λ (l : List ℕ). Spaced (λ value. IsValue t value) l) (append_assoc before r.head next) s) in
        let g = r.only v next x starts f in
        (g.next, g.at.after ++ g.at.tail, record { front = g.at.value; holds = g.at.holds; is = g.at.is }, at-Stops E S g.next g.more next x g.at);
    closers = S.closing ∷ c.closers;
    closing = (L.closer, c.closing);
    builds = element_builds;
  }

-- ---- the value of a member

module _ {k text cur : List ℕ} (r : KeyRead k text cur) {opened : ℕ} {before : List ℕ} (c : MemberContext opened before text) where
  abbrev head : List ℕ
  head = r.key ++ (r.gap ++ 58 ∷ r.gap')

  -- A text that begins with the key that was read begins with the same byte as `text`.
  key_starts : (next : List ℕ) → StartsAs text (head ++ next)
  key_starts next =
      let (i, body, e) = r.is_key in
      subst (λ (l : List ℕ). StartsAs l (head ++ next))
      (sym (r.is ∙ ap (λ (l : List ℕ). l ++ (r.gap ++ 58 ∷ (r.gap' ++ cur))) e))
      (((i ++ 34 ∷ []) ++ (r.gap ++ 58 ∷ r.gap')) ++ next, ap (λ (l : List ℕ). (l ++ (r.gap ++ 58 ∷ r.gap')) ++ next) e)

  value_placed : IsValuePlace opened (before ++ head)
  value_placed =
      let (outer, e, i) = c.place in
      subst (λ (n : ℕ). IsValuePlace n (before ++ head)) (omega (arith, e)) (inside_deeper (inside_append head i
      (λ last (gap, members, space, sg, each, ss, f). subst (λ (l : List ℕ). Inside IsSpace 1 l)
      (rw f (simp append_assoc))
      (in_object gap (space ++ (r.key ++ r.gap)) sg each (k, (space, r.key, r.gap, ss, r.is_key, r.space, refl)) (here r.space')))))

  value_builds : (t : Tree) (written : List ℕ) → Spaced (λ value. IsValue t value) written
      → Built opened t ((before ++ head) ++ (written ++ c.closers))
  value_builds t written s =
      let pair = spaced_pair k t ((r.key ++ r.gap) ++ 58 ∷ (r.gap' ++ written)) (
        r.key ++ r.gap,
        r.gap' ++ written,
        ([], r.key, r.gap, tt, r.is_key, r.space, refl),
        spaced_more r.gap' written r.space' s,
        refl,
      ) in
      let b = c.builds (k, t) ((r.key ++ r.gap) ++ 58 ∷ (r.gap' ++ written)) pair in
      record {
        tree = b.tree;
        spelled = subst (λ (l : List ℕ). Spaced (λ value. IsValue b.tree value) l) (simp append_assoc) b.spelled;
        deep = b.deep;
        ranged = b.ranged;
      }

  pub value_context : ValueContext opened (before ++ (r.key ++ (r.gap ++ 58 ∷ r.gap'))) cur
  value_context = record {
    within = c.within;
    place = value_placed;
    only = λ t next starts s.
        let (m, x, f, stops) = c.only t (head ++ next) (key_starts next)
        (subst (λ (l : List ℕ). Spaced (λ value. IsValue t value) l) (append_assoc before head next) s) in
        let again = key_again r next (starts_past is_space cur next starts r.past) in
        (m.1, x, value_of again m x f, stops);
    closers = c.closers;
    closing = c.closing;
    builds = value_builds;
  }
