-- The elements of an array or object while they are read. Their stored values are on a stack, above
-- the values of outer containers.
use Rattle.std.proofs.Common.{◌≡◌, ℕ, ◌+◌, ◌<◌, List, [], ◌∷◌, ◌++◌, length, take, drop, sym, ap, ◌∙◌, append_assoc, append-nil}
use Rattle.std.specs.Prelude.{◌==◌, Result, IsErrAnd}
use Rattle.std.specs.Borrow.{Bor}
use Rattle.std.proofs.lemmas.List.{drop_at, take_at}
use Rattle.std.proofs.lemmas.Result.{err_from_is_err_and}
use Rattle.ijson_value.specs.WellFormed.{WellFormed}
use Rattle.ijson_json.specs.declared.fault.Fault.{Fault}
use Rattle.ijson_json.specs.declared.read.scratch.Scratch.{Scratch}
use Rattle.ijson_json.specs.private.Explains.{Explains}
use Rattle.ijson_json.specs.private.ReadsValue.{ReadsValue}
use Rattle.ijson_string.specs.Cache.{Texts}
use Rattle.ijson_json.specs.AddsOnlyRead.{AddsOnlyRead}
use Rattle.ijson_json.specs.Limits.{max_depth}
use Rattle.ijson_json.specs.private.Reading.{Closes, GoesOn, IsRead, Past, Skips}
use Rattle.ijson_json.proofs.grammar.CommaLists.{Shape}
use Rattle.ijson_json.proofs.reading.CacheContents.{adds_none, adds_more}
use Rattle.ijson_json.proofs.reading.ElementLists.{ElementRead}
use Rattle.ijson_json.proofs.reading.Elements.{Listing, Reached, reached_start, reached_more, reached_end}

-- Describes how elements are stored: the stored type, and its relation to the elements as written.
--
-- - `Keeps`, `Are`: relate a stored value, or a list of stored values, to the elements as written.
-- - `Shares`, `AllShare`: the cache contains the long strings of a stored value, or of a list of
--   stored values.
pub record Gathers (E : Type 0) (S : Shape E) (L : Listing E S) : Type 1 where
  pub Kept : Type 0
  pub Keeps : Kept → E → Type 0
  pub Are : List Kept → List E → Type 0
  pub Shares : Texts → Kept → Type 0
  pub AllShare : Texts → List Kept → Type 0
  pub none : Are [] []
  pub none_share : (cache : Texts) → AllShare cache []
  pub push : (kept : List Kept) (written : List E) (k : Kept) (e : E) → Keeps k e → Are kept written
      → Are (kept ++ k ∷ []) (written ++ e ∷ [])
  pub share : (text : List ℕ) (old new : Texts) (kept : List Kept) (k : Kept) → AddsOnlyRead text old new → AllShare old kept
      → Shares new k → AllShare new (kept ++ k ∷ [])

module _ (E : Type 0) (S : Shape E) (L : Listing E S) (K : Gathers E S L) where
  -- Holds if some elements were read and stored on the stack, and the next element begins at
  -- `rest`.
  pub record Gathered (opened : ℕ) (text rest : List ℕ) (below stack : List K.Kept) (old cache : Texts) : Type 0 where
    pub kept : List K.Kept
    pub above : stack ≡ below ++ kept
    pub written : List E
    pub reached : Reached E S L opened text written rest
    pub are : K.Are kept written
    pub adds : AddsOnlyRead text old cache
    pub share : K.AllShare cache kept

  -- After the opening bracket and white space, no element is stored.
  pub gathered_start : (opened : ℕ) (inside cur : List ℕ) (below : List K.Kept) (cache : Texts) → opened < max_depth
      → Skips inside cur → Past (λ b. b == S.closing) cur → Gathered opened (L.opening ∷ inside) cur below below cache cache
  gathered_start opened inside cur below cache within s unclosed = record {
    kept = [];
    above = sym (append-nil below);
    written = [];
    reached = reached_start E S L opened inside s.space cur within s.is s.passed s.past unclosed;
    are = K.none;
    adds = adds_none (L.opening ∷ inside) cache;
    share = K.none_share cache;
  }

module _ {E : Type 0} {S : Shape E} {L : Listing E S} {K : Gathers E S L}
    {opened : ℕ} {text rest : List ℕ} {below stack : List K.Kept} {old cache : Texts}
    (i : Gathered E S L K opened text rest below stack old cache) where
  -- If reading one more element adds only strings of `rest` to the cache, the cache gains only
  -- strings of `text`.
  pub gathered_adds : {new : Texts} → AddsOnlyRead rest cache new → AddsOnlyRead text old new
  gathered_adds {new} adds = adds_more text i.reached.head rest old cache new i.reached.is i.adds adds

  -- If reading one more element fails, and `Explains` holds for the fault, reading the container
  -- fails with the same fault.
  pub gathered_refused : {r : Result (WellFormed × Bor (List ℕ)) Fault} {new : Texts} {before after : Scratch} (fault : Fault)
      → IsErrAnd r (λ e. e ≡ fault) → AddsOnlyRead rest cache new → Explains opened text fault
      → ReadsValue opened text r old new before after
  gathered_refused {r = r} fault is adds explains =
      let p = err_from_is_err_and r is in rw (p.1, p.2) (record { cache = gathered_adds adds; answer = explains })

  module _ {k : K.Kept} {e : E} {after : List ℕ} {read pushed : List K.Kept} {new : Texts}
      (found : ElementRead E S (opened + 1) rest e after) (keeps : K.Keeps k e) (same : read ≡ stack) (push : pushed ≡ read ++ k ∷ [])
      (adds : AddsOnlyRead rest cache new) (shares : K.Shares new k) where
    above : pushed ≡ below ++ (i.kept ++ k ∷ [])
    above = push ∙ ap (λ l. l ++ k ∷ []) (same ∙ i.above) ∙ append_assoc below i.kept (k ∷ [])

    -- If a comma follows one more element, the element is stored, and the next element begins after
    -- the comma.
    pub gathered_more : {next : List ℕ} → GoesOn after next → Gathered E S L K opened text next below pushed old new
    gathered_more comma = record {
      kept = i.kept ++ k ∷ [];
      above = above;
      written = i.written ++ e ∷ [];
      reached = reached_more i.reached found comma;
      are = K.push i.kept i.written k e keeps i.are;
      adds = gathered_adds adds;
      share = K.share rest cache new i.kept k adds i.share shares;
    }

    -- If the closing bracket follows the last element, the container is read and its stored values
    -- are popped.
    --
    -- The stack `below` of outer containers is unchanged.
    pub gathered_end : {behind : List ℕ} {taken left : List K.Kept} {base : ℕ} → Closes S.closing after behind → base ≡ length below
        → taken ≡ drop base pushed → left ≡ take base pushed → record {
          read : IsRead opened text (L.wrap (i.written ++ e ∷ [])) behind;
          are : K.Are taken (i.written ++ e ∷ []);
          share : K.AllShare new taken;
          left : left ≡ below;
        }
    gathered_end {taken} {left} {base} closes begins is stays =
        let all : taken ≡ i.kept ++ k ∷ [] = is ∙ ap (drop base) above ∙ drop_at below (i.kept ++ k ∷ []) base (sym begins) in
        record {
          read = reached_end i.reached found closes;
          are = rw all (K.push i.kept i.written k e keeps i.are);
          share = rw all (K.share rest cache new i.kept k adds i.share shares);
          left = stays ∙ ap (take base) above ∙ take_at below (i.kept ++ k ∷ []) base (sym begins);
        }
