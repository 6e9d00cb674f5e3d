-- A hash passes the filter of its bucket after it is added to the filter, and each hash that passed
-- before still passes.
use Rattle.std.proofs.Common.{◌≡◌, ◌∙◌, ap, sym, subst, refl, ℕ, ◌<◌, max, true, false, ◌&&◌, ◌||◌, List, [], ◌∷◌, ◌++◌, length}
use Rattle.std.proofs.Common.{get_or, arith}
use Rattle.std.specs.Prelude.{◌==◌, nat_eq}
use Rattle.std.specs.Int.{bit_at}
use Rattle.std.specs.Int.Bits.{bit_or}
use Rattle.std.specs.List.{list_any}
use Rattle.std.specs.Str.{bytes_eq}
use Rattle.std.proofs.lemmas.Bool.{eq-eqb, eqb-true, eqb-false}
use Rattle.std.proofs.lemmas.List.{get_or-set_same, get_or-set_other, length-set}
use Rattle.std.proofs.lemmas.Nat.Bits.{bit_at_or, same_from_bits}
use Rattle.ijson_string.specs.private.Chains.{bucket_of}
use Rattle.ijson_string.specs.private.Keys.{is_key, keys_of}
use Rattle.ijson_string.specs.private.Filters.{AllPass, passes, filter_of, with_filter}

greatest_kept : (a b c : ℕ) → max a c ≡ a → max (max a b) c ≡ max a b
greatest_kept a b c e = omega arith

greatest_there : (a b : ℕ) → max (max a b) b ≡ max a b
greatest_there a b = omega arith

-- If the bits of `n` are set in `x`, they are still set after the bits of `m` are set too.
or_kept : (x m n : ℕ) → bit_or x n ≡ x → bit_or (bit_or x m) n ≡ bit_or x m
or_kept x m n e = same_from_bits _ _ (λ i.
    bit_at_or (bit_or x m) n i ∙ ap (λ y. max y (bit_at n i)) (bit_at_or x m i)
    ∙ greatest_kept (bit_at x i) (bit_at m i) (bit_at n i) (sym (bit_at_or x n i) ∙ ap (λ y. bit_at y i) e)
    ∙ sym (bit_at_or x m i))

-- Setting the same bits twice has the same result as setting them once.
or_there : (x n : ℕ) → bit_or (bit_or x n) n ≡ bit_or x n
or_there x n = same_from_bits _ _ (λ i.
    bit_at_or (bit_or x n) n i ∙ ap (λ y. max y (bit_at n i)) (bit_at_or x n i)
    ∙ greatest_there (bit_at x i) (bit_at n i) ∙ sym (bit_at_or x n i))

module _ (filters : List ℕ) (hash : ℕ) (inside : bucket_of (length filters) hash < length filters) where
  -- Setting the bits of a hash keeps the number of filters, so each hash still selects the same
  -- filter.
  read_filter : (q : ℕ) → get_or (with_filter filters hash) (bucket_of (length (with_filter filters hash)) q) 0 ≡ get_or
      (with_filter filters hash) (bucket_of (length filters) q) 0
  read_filter q = ap (λ n. get_or (with_filter filters hash) (bucket_of n q) 0)
      (length-set filters (bucket_of (length filters) hash) (bit_or (get_or filters (bucket_of (length filters) hash) 0) (filter_of hash)))

  passes_by : (q x : ℕ) → get_or (with_filter filters hash) (bucket_of (length (with_filter filters hash)) q) 0 ≡ x
      → bit_or x (filter_of q) ≡ x → passes (with_filter filters hash) q ≡ true
  passes_by q x e f = eq-eqb _ _ (ap (λ y. bit_or y (filter_of q)) e ∙ f ∙ sym e)

  -- After the bits of `hash` are set, `hash` passes the filter of its bucket.
  passes-own : passes (with_filter filters hash) hash ≡ true
  passes-own =
      let there : ℕ = get_or filters (bucket_of (length filters) hash) 0 in
      passes_by hash (bit_or there (filter_of hash)) (read_filter hash
      ∙ get_or-set_same filters (bucket_of (length filters) hash) (bit_or there (filter_of hash)) 0 inside)
      (or_there there (filter_of hash))

  -- If `q` passes the filter of its bucket, it still passes after the bits of `hash` are set.
  passes-kept : (q : ℕ) → passes filters q ≡ true → passes (with_filter filters hash) q ≡ true
  passes-kept q before =
      let bucket : ℕ = bucket_of (length filters) hash in
      let there : ℕ = get_or filters bucket 0 in
      let was : bit_or (get_or filters (bucket_of (length filters) q) 0) (filter_of q) ≡ get_or filters (bucket_of (length filters) q) 0 =
      eqb-true _ _ before in
      elim (bucket_of (length filters) q == bucket)
      as (λ b. (bucket_of (length filters) q == bucket) ≡ b → passes (with_filter filters hash) q ≡ true) [
        | true ↦ λ same.
            let e : bucket_of (length filters) q ≡ bucket = eqb-true _ _ same in
            passes_by q (bit_or there (filter_of hash))
            (read_filter q ∙ ap (λ h. get_or (with_filter filters hash) h 0) e
            ∙ get_or-set_same filters bucket (bit_or there (filter_of hash)) 0 inside)
            (or_kept there (filter_of hash) (filter_of q) (subst
            (λ h. bit_or (get_or filters h 0) (filter_of q) ≡ get_or filters h 0) e was))
        | false ↦ λ other.
            passes_by q (get_or filters (bucket_of (length filters) q) 0)
            (read_filter q ∙ get_or-set_other filters bucket (bucket_of (length filters) q) (bit_or there (filter_of hash)) 0
            (eqb-false _ _ other))
            was
      ] refl

  -- If each of `hashes` passes the filter of its bucket, each of `hashes` and `hash` passes after
  -- the bits of `hash` are set.
  pub AllPass-push : (hashes : List ℕ) → AllPass filters hashes → AllPass (with_filter filters hash) (hashes ++ hash ∷ [])
  AllPass-push [] all = (passes-own, tt)
  AllPass-push (h ∷ hashes) all = (passes-kept h all.0, AllPass-push hashes all.1)

-- If each of `hashes` passes the filter of its bucket and `hash` does not, the keys of `hashes` and
-- `texts` lack the key with the hash `hash` and the string `text`.
pub is_nowhere : (filters : List ℕ) (hash : ℕ) (text : List ℕ) (hashes : List ℕ) (texts : List (List ℕ)) → AllPass filters hashes
    → passes filters hash ≡ false
    → list_any (is_key hash text) (keys_of hashes texts) ≡ false
is_nowhere filters hash text [] texts all none = refl
is_nowhere filters hash text (h ∷ hashes) [] all none = refl
is_nowhere filters hash text (h ∷ hashes) (t ∷ texts) all none =
    elim (nat_eq hash h) as (λ b. nat_eq hash h ≡ b → ((b && bytes_eq text t) || list_any (is_key hash text)
    (keys_of hashes texts)) ≡ false) [
      | true ↦ λ same. absurd (let e : hash ≡ h = eqb-true hash h same in let f : passes filters hash ≡ true =
          subst (λ h. passes filters h ≡ true) (sym e) all.0 in cc)
      | false ↦ λ _. is_nowhere filters hash text hashes texts all.1 none
    ] refl
