-- The keys of a table, built from the hashes and the strings at the same indices.
use Rattle.std.proofs.Common.{◌≡◌, ◌∙◌, ap, sym, refl, ℕ, zero, suc, ◌<◌, List, [], ◌∷◌, ◌++◌, length, get_or, map}
use Rattle.std.proofs.Common.{IfOk, Result, Ok, Err, arith}
use Rattle.std.proofs.lemmas.List.{get_or-map, get_or_default, length-map}
use Rattle.std.specs.Result.{MatchResult}
use Rattle.ijson_string.specs.declared.table.chains.Link.{Link}
use Rattle.ijson_string.specs.private.Chains.{bucket_of}
use Rattle.ijson_string.specs.private.IsTable.{hashes_of}
use Rattle.ijson_string.specs.private.Keys.{Key, buckets_of, keys_of, no_key, texts_of, IsTextAt}

-- The bucket of each key among `count` buckets.
abbrev pub buckets_of_keys : ℕ → List Key → List ℕ
buckets_of_keys count keys = map (λ k. bucket_of count k.hash) keys

-- The strings of the keys built from `hashes` and `texts` are `texts`, if both lists have the same
-- length.
pub texts-keys : (hashes : List ℕ) (texts : List (List ℕ)) → length texts ≡ length hashes → texts_of (keys_of hashes texts) ≡ texts
texts-keys [] [] e = refl
texts-keys [] (t ∷ texts) e = absurd (omega arith)
texts-keys (h ∷ hashes) [] e = absurd (omega arith)
texts-keys (h ∷ hashes) (t ∷ texts) e = ap (λ texts. t ∷ texts) (texts-keys hashes texts (omega arith))

-- If there are as many strings as hashes, there are as many keys as hashes.
pub length-keys : (hashes : List ℕ) (texts : List (List ℕ)) → length texts ≡ length hashes → length (keys_of hashes texts) ≡ length hashes
length-keys hashes texts e = sym (length-map (keys_of hashes texts) (λ k. k.text)) ∙ ap length (texts-keys hashes texts e) ∙ e

-- If there are as many strings as hashes, the buckets of the keys are the buckets of the hashes.
pub buckets-keys : (count : ℕ) (hashes : List ℕ) (texts : List (List ℕ)) → length texts ≡ length hashes
    → buckets_of_keys count (keys_of hashes texts) ≡ buckets_of count hashes
buckets-keys count [] texts e = refl
buckets-keys count (h ∷ hashes) [] e = absurd (omega arith)
buckets-keys count (h ∷ hashes) (t ∷ texts) e = ap (λ buckets. bucket_of count h ∷ buckets) (buckets-keys count hashes texts (omega arith))

-- If there are as many strings as hashes, the key at index `i` has the hash and the string at index
-- `i`.
pub get_or-keys : (hashes : List ℕ) (texts : List (List ℕ)) (i : ℕ) → length texts ≡ length hashes
    → get_or (keys_of hashes texts) i no_key ≡ record { hash = get_or hashes i 0; text = get_or texts i [] }
get_or-keys [] [] i e = refl
get_or-keys [] (t ∷ texts) i e = absurd (omega arith)
get_or-keys (h ∷ hashes) [] i e = absurd (omega arith)
get_or-keys (h ∷ hashes) (t ∷ texts) zero e = refl
get_or-keys (h ∷ hashes) (t ∷ texts) (suc i) e = get_or-keys hashes texts i (omega arith)

-- If there are as many strings as hashes, appending a hash and a string appends their key.
pub keys-push : (hashes : List ℕ) (texts : List (List ℕ)) (h : ℕ) (t : List ℕ) → length texts ≡ length hashes
    → keys_of (hashes ++ h ∷ []) (texts ++ t ∷ []) ≡ keys_of hashes texts ++ record { hash = h; text = t } ∷ []
keys-push [] [] h t e = refl
keys-push [] (x ∷ texts) h t e = absurd (omega arith)
keys-push (x ∷ hashes) [] h t e = absurd (omega arith)
keys-push (x ∷ hashes) (y ∷ texts) h t e = ap (λ keys. record { hash = x; text = y } ∷ keys) (keys-push hashes texts h t (omega arith))

module _ (links : List Link) (texts : List (List ℕ)) (keys : List Key) (listed : length texts ≡ length links)
    (are : keys_of (hashes_of links) texts ≡ keys) where
  listed_hashes : length texts ≡ length (hashes_of links)
  listed_hashes = listed ∙ sym (length-map links (λ l. l.hash))

  -- There are as many keys as links.
  pub as_many_keys : length keys ≡ length links
  as_many_keys = ap length (sym are) ∙ length-keys (hashes_of links) texts listed_hashes ∙ length-map links (λ l. l.hash)

  -- The key at index `i` has the hash of the link and the string at index `i`.
  key_at : (i : ℕ) → get_or keys i no_key ≡ record { hash = get_or (hashes_of links) i 0; text = get_or texts i [] }
  key_at i = ap (λ keys. get_or keys i no_key) (sym are) ∙ get_or-keys (hashes_of links) texts i listed_hashes

  -- The key at index `i` has the hash of the link at index `i`.
  pub hash_there : (i : ℕ) (l : Link) → i < length keys → l ≡ get_or links i l → (get_or keys i no_key).hash ≡ l.hash
  hash_there i l within link =
      ap (λ k. k.hash) (key_at i) ∙ get_or-map (λ l. l.hash) links i l 0 (omega (arith, as_many_keys)) ∙ ap (λ l. l.hash) (sym link)

  -- The key at index `i` has the string at index `i`.
  pub text_there : (i : ℕ) (t : List ℕ) → i < length keys → t ≡ get_or texts i t → (get_or keys i no_key).text ≡ t
  text_there i t within text = ap (λ k. k.text) (key_at i) ∙ get_or_default texts i [] t (omega (arith, listed, as_many_keys)) ∙ sym text

  -- If the key at index `i` has the string `text`, a successful clone of the string at `i` equals
  -- `text`.
  pub clone_there : {E : Type 0} (P : E → Type 0) (r : Result (List ℕ) E) (i : ℕ) (t text : List ℕ) → IsTextAt text keys i
      → t ≡ get_or texts i t → MatchResult r (λ copy. copy ≡ t) P → IfOk r (λ copy. copy ≡ text)
  clone_there P (Ok copy) i t text found there same = same ∙ sym (text_there i t found.0 there) ∙ found.1
  clone_there P (Err e) i t text found there same = tt
