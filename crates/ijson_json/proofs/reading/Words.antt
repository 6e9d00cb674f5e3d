-- Each of the literals `null`, `true` and `false` is read as its tree, whatever text follows.
use Rattle.std.proofs.Common.{◌≡◌, ℕ, ◌≤◌, Bool, true, false, List, ◌∷◌, ◌++◌, refl, ap, ◌∙◌, arith, inl, inr}
use Rattle.std.specs.Prelude.{Result, MatchResult}
use Rattle.std.specs.Borrow.{Bor}
use Rattle.std.proofs.lemmas.Result.{MatchResult-weaker}
use Rattle.ijson_string.specs.Cache.{Texts}
use Rattle.ijson_value.specs.Order.{rank}
use Rattle.ijson_value.specs.Tree.{Tree, null, boolean}
use Rattle.ijson_value.specs.WellFormed.{WellFormed}
use Rattle.ijson_json.specs.AreShared.{AreShared}
use Rattle.ijson_json.specs.Grammar.{IsValue, null_text, boolean_text}
use Rattle.ijson_json.specs.Limits.{max_depth}
use Rattle.ijson_json.specs.private.Reading.{Front, ReadAs}
use Rattle.ijson_json.specs.private.Explains.{WordFault, ScalarFault}
use Rattle.ijson_json.specs.private.ReadsScalar.{ReadsScalar}
use Rattle.ijson_json.specs.declared.fault.Fault.{Fault}
use Rattle.ijson_json.proofs.scanning.Prefixes.{heads_apart}
use Rattle.ijson_json.proofs.grammar.FirstBytes.{kind_at}
use Rattle.ijson_json.proofs.reading.CacheContents.{adds_none}

-- Holds if `word` spells the tree `t`, begins with the byte `b`, and is the only value that begins
-- with `b`.
pub record Word (b : ℕ) (word : List ℕ) (t : Tree) : Type 0 where
  pub spells : IsValue t word
  pub alone : (u : Tree) (more x : List ℕ) (f : Front (λ value. IsValue u value) (b ∷ more) x) → f.front ≡ word
  pub flat : rank t ≤ 1
  pub scalar : (text more : List ℕ) (fault : Fault) → text ≡ b ∷ more → WordFault text word fault → ScalarFault text fault

-- `null` is the only value that begins with `n`.
null_alone : (t : Tree) (more x : List ℕ) (f : Front (λ value. IsValue t value) (110 ∷ more) x) → f.front ≡ null_text
null_alone null more x f = f.holds
null_alone t more x f = absurd (let k : 0 ≡ rank t = kind_at t 110 more _ x refl f in omega (arith, k))

-- The literal `null` spells the tree `null`.
pub null_word : Word 110 null_text null
null_word = record {
  spells = refl;
  alone = null_alone;
  flat = omega arith;
  scalar = λ text more fault e h. (110, more, e, inr (inl (refl, h)));
}

-- The first byte of a Boolean: `t` or `f`.
abbrev first_of : Bool → ℕ
first_of true = 116
first_of false = 102

-- `true` is the only value that begins with `t`, and `false` is the only value that begins with
-- `f`.
boolean_alone : (a : Bool) (t : Tree) (more x : List ℕ) (f : Front (λ value. IsValue t value) (first_of a ∷ more) x)
    → f.front ≡ boolean_text a
boolean_alone true (boolean true) more x f = f.holds
boolean_alone false (boolean false) more x f = f.holds
boolean_alone true (boolean false) more x f = absurd (heads_apart 116 102 _ _ (rw f.holds at f.is) refl)
boolean_alone false (boolean true) more x f = absurd (heads_apart 102 116 _ _ (rw f.holds at f.is) refl)
boolean_alone true t more x f = absurd (let k : 1 ≡ rank t = kind_at t 116 more _ x refl f in omega (arith, k))
boolean_alone false t more x f = absurd (let k : 1 ≡ rank t = kind_at t 102 more _ x refl f in omega (arith, k))

boolean_scalar : (a : Bool) (text more : List ℕ) (fault : Fault) → text ≡ first_of a ∷ more → WordFault text (boolean_text a) fault
    → ScalarFault text fault
boolean_scalar true text more fault e h = (116, more, e, inr (inr (inl (refl, h))))
boolean_scalar false text more fault e h = (102, more, e, inr (inr (inr (inl (refl, h)))))

-- The literals `true` and `false` spell the Booleans.
pub boolean_word : (a : Bool) → Word (first_of a) (boolean_text a) (boolean a)
boolean_word a = record { spells = refl; alone = boolean_alone a; flat = omega arith; scalar = boolean_scalar a }

-- The literal `word` is read as its tree, whatever text follows.
word_found : (t : Tree) → rank t ≤ 1 → (word rest : List ℕ) → IsValue t word → (opened : ℕ) → opened ≤ max_depth
    → ReadAs opened (word ++ rest) t rest
word_found null flat word rest v opened within =
    (null, record { found = record { front = word; holds = v; is = refl }; ends = tt; deep = omega arith; ranged = refl }, refl)
word_found (boolean a) flat word rest v opened within =
    (boolean a, record { found = record { front = word; holds = v; is = refl }; ends = tt; deep = omega arith; ranged = refl }, refl)
word_found t flat word rest v opened within = absurd (omega arith)

word_shares : (t : Tree) → rank t ≤ 1 → (cache : Texts) → AreShared cache t
word_shares null flat cache = tt
word_shares (boolean a) flat cache = tt
word_shares t flat cache = absurd (omega arith)

module _ {b : ℕ} {word : List ℕ} {t : Tree} (w : Word b word t) where
  -- Reading the literal at the start of a text returns its tree, or a fault that is possible for
  -- the text.
  pub word_reads : (answer : Result (WellFormed × Bor (List ℕ)) Fault) (value : WellFormed) (cache : Texts) (text : List ℕ) (first : ℕ)
      (more : List ℕ) → text ≡ first ∷ more → first ≡ b → value.tree ≡ t
      → MatchResult answer (λ x. (x.0 ≡ value) × (text ≡ word ++ x.1.now)) (λ fault. WordFault text word fault)
      → ReadsScalar text answer cache cache
  word_reads answer value cache text first more e f is h = record {
    cache = adds_none text cache;
    answer = MatchResult-weaker answer h
        (λ x found. let same = ap (λ (v : WellFormed). v.tree) found.0 ∙ is in
        rw found.1 (record {
          read = λ opened within. rw same (word_found t w.flat word x.1.now w.spells opened within);
          shared = rw same (word_shares t w.flat cache);
        }))
        (λ fault why. w.scalar text more fault (e ∙ ap (λ (c : ℕ). c ∷ more) f) why);
  }
