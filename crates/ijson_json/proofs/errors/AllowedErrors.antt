-- Lemmas: the error of a text satisfies `Refuses`.
use Rattle.std.proofs.Common.{◌≡◌, ℕ, ◌≤◌, List, [], ◌∷◌, ◌++◌, length, take, drop, refl, sym, ap, subst, ◌∙◌, append_assoc, append-nil, arith, inl, inr}
use Rattle.std.specs.Prelude.{◌⊎◌}
use Rattle.std.proofs.lemmas.Bool.{false_from_ne_true}
use Rattle.std.proofs.lemmas.List.{length-append, take-append-drop}
use Rattle.ijson_value.specs.Tree.{Tree, depth, number}
use Rattle.ijson_json.specs.Ranged.{is_ranged}
use Rattle.ijson_json.specs.Settled.{settled}
use Rattle.ijson_json.specs.Grammar.{Spaced, IsValue, Reads}
use Rattle.ijson_json.specs.Limits.{max_depth}
use Rattle.ijson_json.specs.Begins.{BeginsWithin}
use Rattle.ijson_json.specs.Inside.{IsValuePlace}
use Rattle.ijson_json.specs.Refuses.{PassesDepth, PassesRange}
use Rattle.ijson_json.specs.ErrorOf.{OutOfRangeAt}
use Rattle.ijson_json.specs.OneError.{ErrorIsAllowed}
use Rattle.ijson_json.specs.declared.fault.JsonError.TheVariants as errors
use Rattle.ijson_json.proofs.scanning.Prefixes.{not_both}
use Rattle.ijson_json.proofs.grammar.CommaLists.{Shape}
use Rattle.ijson_json.proofs.grammar.ElementShapes.{items_shape, members_shape}
use Rattle.ijson_json.proofs.reading.Elements.{Listing}
use Rattle.ijson_json.proofs.reading.ArraysAndObjects.{arrays, objects}
use Rattle.ijson_json.proofs.errors.LimitErrors.{bracket_deep, number_past}
use Rattle.ijson_json.proofs.errors.Closings.{Closed, closed, HasValue}
use Rattle.ijson_json.proofs.errors.OneError.{bad_escape_unread}

-- If some accepted text begins with `before`, that text is a value within the nesting limit.
begun : (before : List ℕ) (b : BeginsWithin before) → HasValue (before ++ b.0) max_depth
begun before (more, tree, (deepest, within, r)) =
    (r.written, before ++ more, [], r.spelled, append-nil (before ++ more), omega (arith, within, r.deepest_is))

-- If a value may begin after `before`, the value `u` and closing brackets extend `before` to a JSON
-- text.
value_closed : (opened : ℕ) (before : List ℕ) → IsValuePlace opened before → BeginsWithin before → (u : Tree) (text : List ℕ)
    → IsValue u text → Closed opened before max_depth u text
value_closed opened before i b u text v = closed i b.0 max_depth (λ o. begun before b) u text v

-- A text that spells the tree `t` reads as `t` with duplicate keys resolved.
spelled_reads : (t : Tree) (text : List ℕ) → Spaced (λ value. IsValue t value) text → Reads text (settled t) (depth t) (is_ranged t)
spelled_reads t text s = record { written = t; spelled = s; tree_is = refl; deepest_is = refl; ranged_is = refl }

-- If the maximum number of containers is open, another opening bracket exceeds the nesting limit.
bracket_closed : (E : Type 0) (S : Shape E) (L : Listing E S) (before rest : List ℕ) → IsValuePlace max_depth before → BeginsWithin before
    → (L.opening ≡ 91) ⊎ (L.opening ≡ 123) → PassesDepth (before ++ L.opening ∷ rest)
bracket_closed E S L before rest i b opens =
    let c = value_closed max_depth before i b (L.wrap []) (L.opening ∷ S.closing ∷ []) (L.builds [] [] tt) in
    let low = bracket_deep max_depth before L.opening (S.closing ∷ c.closers) c.tree i opens c.spelled in
    record {
      each = λ tree deepest ranged r. rw r.deepest_is (bracket_deep max_depth before L.opening rest r.written i opens r.spelled);
      beginning = before ++ L.opening ∷ [];
      others = rest;
      closers = S.closing ∷ c.closers;
      is = sym (append_assoc before (L.opening ∷ []) rest);
      closing = (L.closer, c.closing);
      tree = settled c.tree;
      deepest = depth c.tree;
      ranged = is_ranged c.tree;
      reading = spelled_reads c.tree _ (subst (λ (l : List ℕ). Spaced (λ value. IsValue c.tree value) l)
          (sym (append_assoc before (L.opening ∷ []) (S.closing ∷ c.closers))) c.spelled);
      first = omega (arith, low, c.deep, L.depth_is []);
    }

passes_depth : (before : List ℕ) (bracket : ℕ) (rest : List ℕ) → IsValuePlace max_depth before → BeginsWithin before
    → (bracket ≡ 91) ⊎ (bracket ≡ 123) → PassesDepth (before ++ bracket ∷ rest)
passes_depth before bracket rest i b (inl e) = rw e (bracket_closed Tree items_shape arrays before rest i b (inl refl))
passes_depth before bracket rest i b (inr e) = rw e (bracket_closed (List ℕ × Tree) members_shape objects before rest i b (inr refl))

-- A text with a number out of range satisfies `PassesRange`.
passes_range : {text : List ℕ} {at : ℕ} (e : OutOfRangeAt text at) → PassesRange (e.before ++ e.rest)
passes_range e =
    let (count, front, past) = e.past in
    let c = value_closed e.opened e.before e.place e.begins (number past.0) (take count e.rest) past.1 in
    record {
      each = λ tree deepest ranged r. r.ranged_is
          ∙ false_from_ne_true (is_ranged r.written) (number_past e.opened e.before e.rest r.written e.place e.past r.spelled);
      beginning = e.before ++ take count e.rest;
      others = drop count e.rest;
      closers = c.closers;
      is = ap (λ (l : List ℕ). e.before ++ l) (sym (take-append-drop count e.rest)) ∙ sym (append_assoc e.before (take count e.rest) (drop count e.rest));
      closing = c.closing;
      tree = settled c.tree;
      deepest = depth c.tree;
      ranged = is_ranged c.tree;
      reading = spelled_reads c.tree _ (subst (λ (l : List ℕ). Spaced (λ value. IsValue c.tree value) l)
          (sym (append_assoc e.before (take count e.rest) c.closers)) c.spelled);
      first = false_from_ne_true (is_ranged c.tree) (λ r. not_both (is_ranged (number past.0)) (c.ranged r) past.2);
    }

-- The offset of an error is at most the length of the text.
offset_within : {text : List ℕ} {at : ℕ} (before rest : List ℕ) → text ≡ before ++ rest → at ≡ length before → at ≤ length text
offset_within before rest is at = omega (arith, at, ap length is, length-append before rest)

pub error_is_allowed : ErrorIsAllowed
error_is_allowed text (errors.Syntax at) (deep, range, inl b) =
    (offset_within b.before (92 ∷ b.letters) b.is b.at_is, λ tree deepest ranged r. bad_escape_unread b r.written r.spelled)
error_is_allowed text (errors.Syntax at) (deep, range, inr s) = (offset_within s.0.before s.0.rest s.0.is s.0.at_is, s.0.no_reading)
error_is_allowed text (errors.TooDeep at) e =
    (offset_within e.before (e.bracket ∷ e.rest) e.is e.at_is, subst PassesDepth (sym e.is) (passes_depth e.before e.bracket e.rest e.place e.begins e.opens))
error_is_allowed text (errors.NumberRange at) e =
    (offset_within e.before e.rest e.is e.at_is, subst PassesRange (sym e.is) (passes_range e))
error_is_allowed text errors.Memory e = absurd e
